-- In a set of one replica nobody is accused, over every list of steps.
use Rattle.std.proofs.Common.{◌≡◌, ◌∙◌, ℕ, ◌+◌, ◌≤◌, ◌<◌, Bool, true, false, refl, sym, ap, subst, ◌⊎◌, inl, inr, arith, None}
use Rattle.std.specs.Prelude.{if◌then◌else◌, List, [], ◌∷◌, ◌==◌, ◌&&◌, ◌||◌, not, nat_lt}
use Rattle.std.proofs.lemmas.Bool.{cases_lt, le-ltb}
use Rattle.fop_types.specs.Cells.{root, meta_cell, names_cell}
use Rattle.fop_types.specs.declared.cells.Cell.{Cell}
use Rattle.fop_types.specs.declared.contents.Content.TheVariants.{Meta, Names}
use Rattle.afr_machine.specs.Replicas.{Size, IsSize, Replicas, outside, count}
use Rattle.afr_machine.specs.Touching.{is_cell, has_cell}
use Rattle.afr_machine.specs.Copies.{Store, Kept, root_alone, born_as, nothing_kept}
use Rattle.afr_machine.specs.Requests.{Ask, Input}
use Rattle.afr_machine.specs.Requests.Ask.{Post, Settle}
use Rattle.afr_machine.specs.Requests.Input.{Asked, Steered}
use Rattle.afr_machine.specs.Bricks.{Brick}
use Rattle.afr_machine.specs.Phases.Deciding.{BySettles}
use Rattle.afr_machine.specs.Transactions.Stage.{Posting, Settling}
use Rattle.afr_machine.specs.States.{State, phase_of}
use Rattle.afr_machine.specs.Sending.{MayAsk, asks_of, inputs_of, sender_of}
use Rattle.afr_machine.specs.Steps.{Step, Allowed, after, IsReached}
use Rattle.afr_machine.specs.Moves.{BrickMove, IsTaken}
use Rattle.afr_machine.specs.Moves.BrickMove.{Stays, Takes, Hands, Serves, Refuses, GivesUp, Steers}
use Rattle.afr_machine.proofs.BrickMoves.{bricks_move}
use Rattle.afr_laws.specs.Senders.{EachInput}
use Rattle.afr_laws.specs.Rows.{accuses_at, adds, pardons}
use Rattle.afr_laws.specs.Ready.{IsReadyFor}
use Rattle.afr_laws.specs.Sound.{comes}
use Rattle.afr_laws.specs.Fresh.{is_behind}
use Rattle.afr_laws.proofs.Bools.{neither}
use Rattle.afr_laws.proofs.Accusers.{accusers_follow}
use Rattle.afr_laws.proofs.Fresh.Known.{phases_are_known}
use Rattle.afr_laws.proofs.Copies.Served.{served_store, steered_store}
use Rattle.afr_laws.proofs.Standing.Alone.{move_each}
use Rattle.afr_laws.proofs.Ready.Steps.{members_are_ready}
use Rattle.afr_soundness.specs.Deciding.{DecidesIn}
use Rattle.afr_soundness.proofs.Deciding.Whose.{decides_exactly}
use Rattle.afr_soundness.proofs.Takers.Steps.{IsSome, some_of, and_none, inside}
use Rattle.afr_decisions.specs.Settlings.{HasGroup}
use Rattle.afr_decisions.specs.One.{EveryOneIsUnaccused}
use Rattle.afr_decisions.proofs.Settlings.{settlings_stand}

pub record NobodyIsAccused (b : Brick) : Type 0 where
  pub rows : (cell : Cell) (i : ℕ) → accuses_at b.store cell i ≡ false
  pub line : EachInput (λ by ask. (cell : Cell) (i : ℕ) → adds ask cell i ≡ false) b.line

-- outside a set that has a member there is nobody
none_outside : (size : Size) (set : Replicas) → size.replicas ≡ 1 → (member : ℕ) → member < size.replicas → set member ≡ true → (i : ℕ) → outside size set i ≡ false
none_outside size set one member below is i = by_order (cases_lt i size.replicas) where
  by_order : (i < size.replicas) ⊎ (size.replicas ≤ i) → outside size set i ≡ false
  by_order (inl less) = inside size set i (ap set (let e : i ≡ member = omega (arith, less, below, one) in e) ∙ is)
  by_order (inr least) = ap (λ b. b && not (set i)) (le-ltb i size.replicas least)

root_unaccused : (i : ℕ) (a b : Bool) → not ((if a then born_as (Meta 493 [] None) else (if b then born_as (Names false []) else nothing_kept)).pending i == 0) ≡ false
root_unaccused i true b = refl
root_unaccused i false true = refl
root_unaccused i false false = refl

-- ---- one step

module _ (size : Size) (is_size : IsSize size) (one : size.replicas ≡ 1) (m : State) (r : IsReached size m) (k : ℕ) where
  adds_none : (cells : List Cell) (accused set : Replicas) → accused ≡ outside size set → (member : ℕ) → member < size.replicas → set member ≡ true → (cell : Cell) (i : ℕ) → (has_cell cells cell && accused i) ≡ false
  adds_none cells accused set accused_are member below is cell i = ap (λ b. has_cell cells cell && b) (ap (λ (f : Replicas). f i) accused_are ∙ none_outside size set one member below is i) ∙ and_none (has_cell cells cell)

  sent_none : (t : ℕ) (ask : Ask) → MayAsk size m t k ask → (cell : Cell) (i : ℕ) → adds ask cell i ≡ false
  sent_none t (Post u cells accused) h =
      let ready = subst (λ s. IsReadyFor size m.changes s (m.txns t).out (phase_of m t)) h.turn (members_are_ready size m r t) in
      let some : IsSome size.replicas (m.changes u).done = some_of size.replicas (m.changes u).done (let enough : 1 ≤ count size.replicas (m.changes u).done = omega (arith, ready.1, is_size.odd) in enough) in
      adds_none cells accused (m.changes u).done h.accused_are some.member some.below some.is
  sent_none t (Settle u cells accused) h =
      let d = (decides_exactly size m r).transactions t in
      let decides : (phase_of m t).decides ≡ BySettles u h.group h.adopts = subst (λ s. DecidesIn size m.changes (m.txns t).work s (phase_of m t)) h.turn d.decides in
      let g : HasGroup size m (m.txns t).phase u h.group h.adopts = (settlings_stand size m r (m.txns t).phase u h.group h.adopts (record { one = d.one (ap is_behind h.turn); low = (phases_are_known size m r t).low; decides = decides })).group_is in
      adds_none cells accused h.group h.accused_are g.source g.source_is g.source_in
  sent_none t other h = λ cell i. refl

  sent_line : (t : ℕ) (first : Bool) (ask : Ask) → MayAsk size m t k ask → EachInput (λ by a. (cell : Cell) (i : ℕ) → adds a cell i ≡ false) (inputs_of (sender_of m t k) (asks_of first ask))
  sent_line t true ask may = (λ cell i. refl, (sent_none t ask may, tt))
  sent_line t false ask may = (sent_none t ask may, tt)

  taken_line : (st : Step) → Allowed size m st → (inputs : List Input) → IsTaken m st k inputs → EachInput (λ by a. (cell : Cell) (i : ℕ) → adds a cell i ≡ false) inputs
  taken_line (Step.Asks t j first ask) h inputs taken =
      subst (EachInput (λ by a. (cell : Cell) (i : ℕ) → adds a cell i ≡ false)) (sym (taken.1 ∙ ap (λ n. inputs_of (sender_of m t n) (asks_of first ask)) (sym taken.0))) (sent_line t first ask (subst (λ n. MayAsk size m t n ask) (sym taken.0) h.0))
  taken_line (Step.Controls j steering) h inputs taken = subst (EachInput (λ by a. (cell : Cell) (i : ℕ) → adds a cell i ≡ false)) (sym taken.1) tt
  taken_line (Step.Connects j g) h inputs taken = subst (EachInput (λ by a. (cell : Cell) (i : ℕ) → adds a cell i ≡ false)) (sym taken.1) tt
  taken_line (Step.Cuts j g) h inputs taken = subst (EachInput (λ by a. (cell : Cell) (i : ℕ) → adds a cell i ≡ false)) (sym taken.1) tt
  taken_line other h inputs taken = absurd taken

  module _ (step : Step) (allowed : Allowed size m step) (was : NobodyIsAccused (m.bricks k)) where
    abbrev new : State
    new = after size m step

    rows_after : (cell : Cell) (i : ℕ) → BrickMove (IsTaken m step k) (m.bricks k) (new.bricks k) → accuses_at (new.bricks k).store cell i ≡ false
    rows_after cell i (Serves by ask rest front would is) =
        ap (λ (b : Brick). accuses_at b.store cell i) is ∙ ap (λ (st : Store). accuses_at st cell i) (served_store (m.bricks k).power by ask (record (m.bricks k) { line = rest })) ∙ accusers_follow ask (m.bricks k).store cell i
        ∙ neither (adds ask cell i) (accuses_at (m.bricks k).store cell i && not (pardons ask cell i)) ((subst (EachInput (λ by1 a. (c : Cell) (j : ℕ) → adds a c j ≡ false)) front was.line).0 cell i)
        (ap (λ b. b && not (pardons ask cell i)) (was.rows cell i))
    rows_after cell i (Stays is) = ap (λ (b : Brick). accuses_at b.store cell i) is ∙ was.rows cell i
    rows_after cell i (Takes inputs its is) = ap (λ (b : Brick). accuses_at b.store cell i) is ∙ was.rows cell i
    rows_after cell i (Hands first rest front is) = ap (λ (b : Brick). accuses_at b.store cell i) is ∙ was.rows cell i
    rows_after cell i (Refuses by ask answer rest front may_be refusal is) = ap (λ (b : Brick). accuses_at b.store cell i) is ∙ was.rows cell i
    rows_after cell i (GivesUp by ask rest front would is) = ap (λ (b : Brick). accuses_at b.store cell i) is ∙ was.rows cell i
    rows_after cell i (Steers control rest front is) =
        ap (λ (b : Brick). accuses_at b.store cell i) is ∙ ap (λ (st : Store). accuses_at st cell i) (steered_store control (record (m.bricks k) { line = rest })) ∙ was.rows cell i

    nobody_after : NobodyIsAccused (new.bricks k)
    nobody_after = record {
      rows = λ cell i. rows_after cell i (bricks_move size m step allowed k);
      line = move_each (IsTaken m step k) (m.bricks k) (new.bricks k) (λ by a. (cell : Cell) (i : ℕ) → adds a cell i ≡ false) (taken_line step allowed) was.line (bricks_move size m step allowed k);
    }

-- ---- every list of steps

nobody_is : (size : Size) (m : State) → IsSize size → size.replicas ≡ 1 → IsReached size m → (k : ℕ) → NobodyIsAccused (m.bricks k)
nobody_is size m is_size one IsReached.Start = λ k. record { rows = λ cell i. root_unaccused i (is_cell cell (meta_cell root)) (is_cell cell (names_cell root)); line = tt }
nobody_is size m is_size one (IsReached.Further old step reached allowed) = λ k. nobody_after size is_size one old reached k step allowed (nobody_is size old is_size one reached k)

comes_none : (line : List Input) (cell : Cell) (i : ℕ) → EachInput (λ by ask. (c : Cell) (j : ℕ) → adds ask c j ≡ false) line → comes line cell i ≡ false
comes_none [] cell i h = refl
comes_none (Asked by ask ∷ is) cell i h = neither (adds ask cell i) (comes is cell i) (h.0 cell i) (comes_none is cell i h.1)
comes_none (Steered control ∷ is) cell i h = comes_none is cell i h

pub one_is_unaccused : EveryOneIsUnaccused
one_is_unaccused size m is_size r one k i cell =
    let n : NobodyIsAccused (m.bricks k) = nobody_is size m is_size one r k in
    neither (accuses_at (m.bricks k).store cell i) (comes (m.bricks k).line cell i) (n.rows cell i) (comes_none (m.bricks k).line cell i n.line)
