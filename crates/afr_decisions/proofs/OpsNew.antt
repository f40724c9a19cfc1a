-- An op is sent to a brick once, over every list of steps: while it is in the line, the copies of its cells have not got it.
use Rattle.std.proofs.Common.{◌≡◌, ◌∙◌, ℕ, Bool, true, false, refl, sym, ap, subst, ◌⊎◌, inl, inr}
use Rattle.std.specs.Prelude.{List, [], ◌∷◌, ◌++◌, ◌&&◌, ◌||◌, ◌==◌}
use Rattle.std.proofs.lemmas.Bool.{eqb-true, eq-eqb}
use Rattle.fop_types.specs.StoreOps.{needs}
use Rattle.fop_types.specs.Jobs.{IsJob}
use Rattle.fop_types.specs.declared.cells.Cell.{Cell}
use Rattle.fop_types.specs.declared.store_ops.StoreOp.{StoreOp}
use Rattle.afr_machine.specs.Replicas.{Size}
use Rattle.afr_machine.specs.Touching.{is_cell, has_cell}
use Rattle.afr_machine.specs.Copies.{Store, changes_of, has_change}
use Rattle.afr_machine.specs.Requests.{Ask, Input}
use Rattle.afr_machine.specs.Requests.Ask.{Op, Replace}
use Rattle.afr_machine.specs.Requests.Input.{Asked, Steered}
use Rattle.afr_machine.specs.Bricks.{Brick, stored_by, served_by, steered}
use Rattle.afr_machine.specs.Changes.{is_unsettled}
use Rattle.afr_machine.specs.States.{State}
use Rattle.afr_machine.specs.Sending.{MayAsk, MayApply, asks_of, inputs_of, sender_of}
use Rattle.afr_machine.specs.Steps.{Step, Allowed, after, IsReached}
use Rattle.afr_machine.specs.Moves.{BrickMove, IsTaken}
use Rattle.afr_machine.specs.Moves.BrickMove.{Stays, Takes, Hands, Serves, Refuses, GivesUp, Steers}
use Rattle.afr_machine.proofs.BrickMoves.{bricks_move}
use Rattle.afr_laws.specs.Senders.{EachInput}
use Rattle.afr_laws.specs.Copies.{Brings}
use Rattle.afr_laws.specs.Numbers.{applied}
use Rattle.afr_laws.proofs.Bools.{apart_bools, is_or_not, both, both_left, both_right, or_left, or_last, either_way, neither}
use Rattle.afr_laws.proofs.Sharing.{cells_are}
use Rattle.afr_laws.proofs.Connecting.{served_line, steered_line}
use Rattle.afr_laws.proofs.OwnChanges.Steps.{changes_are_own}
use Rattle.afr_laws.proofs.Copies.Asks.{birth_needs}
use Rattle.afr_laws.proofs.Copies.Stores.{stored_had}
use Rattle.afr_laws.proofs.Copies.Served.{served_store, steered_store}
use Rattle.afr_soundness.specs.CopyApart.{IsNoOpOf, IsWithout, IsCopyApart}
use Rattle.afr_soundness.proofs.Replaced.Steps.{is_itself}
use Rattle.afr_soundness.proofs.Copied.Lines.{each_both}
use Rattle.afr_soundness.proofs.CopyApart.Steps.{keeps_copies_apart}
use Rattle.afr_decisions.specs.Asks.{IsNewAt, EveryOpIsNew}
use Rattle.afr_decisions.proofs.Left.{left_are_without}

-- ---- lines

abbrev brings : ℕ → Cell → Ask → Bool
brings u cell (Op v op) = (v == u) && has_cell (needs op) cell
brings u cell (Replace at found) = is_cell cell at && has_change found.copy.changes u
brings u cell other = false

abbrev is_op_on : ℕ → Cell → Ask → Bool
is_op_on u cell (Op v op) = (v == u) && has_cell (needs op) cell
is_op_on u cell other = false

-- when its turn comes, no op of the change finds it in the copy, whether or not what is before it is served
abbrev IsNew : ℕ → Cell → Bool → List Input → Type 0
IsNew u cell had [] = Unit {0}
IsNew u cell had (Asked by ask ∷ is) = (is_op_on u cell ask ≡ true → had ≡ false) × IsNew u cell (had || brings u cell ask) is
IsNew u cell had (Steered control ∷ is) = IsNew u cell had is

abbrev had_after : ℕ → Cell → Bool → List Input → Bool
had_after u cell had [] = had
had_after u cell had (Asked by ask ∷ is) = had_after u cell (had || brings u cell ask) is
had_after u cell had (Steered control ∷ is) = had_after u cell had is

module _ (u : ℕ) (cell : Cell) where
  more_or : (a b c : Bool) → (a ≡ true → b ≡ true) → (a || c) ≡ true → (b || c) ≡ true
  more_or a b c more h = by_case (either_way a c h) where
    by_case : (a ≡ true) ⊎ (c ≡ true) → (b || c) ≡ true
    by_case (inl first) = or_left b c (more first)
    by_case (inr second) = or_last b c second

  none_of : (a b : Bool) → (a ≡ true → b ≡ true) → b ≡ false → a ≡ false
  none_of true b more none = apart_bools (more refl) none
  none_of false b more none = refl

  less : (line : List Input) (a b : Bool) → (a ≡ true → b ≡ true) → IsNew u cell b line → IsNew u cell a line
  less [] a b more h = tt
  less (Asked by ask ∷ is) a b more h = (λ op. none_of a b more (h.0 op), less is (a || brings u cell ask) (b || brings u cell ask) (more_or a b (brings u cell ask) more) h.1)
  less (Steered control ∷ is) a b more h = less is a b more h

  append : (xs ys : List Input) (had : Bool) → IsNew u cell had xs → IsNew u cell (had_after u cell had xs) ys → IsNew u cell had (xs ++ ys)
  append [] ys had h k = k
  append (Asked by ask ∷ xs) ys had h k = (h.0, append xs ys (had || brings u cell ask) h.1 k)
  append (Steered control ∷ xs) ys had h k = append xs ys had h k

  none_after : (xs : List Input) (had : Bool) → had ≡ false → EachInput (λ by ask. brings u cell ask ≡ false) xs → had_after u cell had xs ≡ false
  none_after [] had none h = none
  none_after (Asked by ask ∷ xs) had none h = none_after xs (had || brings u cell ask) (neither had (brings u cell ask) none h.0) h.1
  none_after (Steered control ∷ xs) had none h = none_after xs had none h

  brings_is : (ask : Ask) → Brings ask cell u → brings u cell ask ≡ true
  brings_is (Op v op) h = both (v == u) (has_cell (needs op) cell) (eq-eqb v u (sym h.1)) h.0
  brings_is (Replace at found) h = both (is_cell cell at) (has_change found.copy.changes u) (subst (λ c. is_cell cell c ≡ true) h.0 (is_itself cell)) h.1
  brings_is other h = absurd h

  plain_new : (ask : Ask) (had : Bool) → is_op_on u cell ask ≡ false → is_op_on u cell ask ≡ true → had ≡ false
  plain_new ask had none is = apart_bools is none

-- ---- one step

module _ (size : Size) (m : State) (r : IsReached size m) (k u : ℕ) (cell : Cell) where
  -- an op of the change that is sent now finds nothing that brings it
  op_parts : (v : ℕ) (op : StoreOp) → is_op_on u cell (Op v op) ≡ true → (v ≡ u) × (has_cell (needs op) cell ≡ true)
  op_parts v op h = (eqb-true v u (both_left (v == u) (has_cell (needs op) cell) h), both_right (v == u) (has_cell (needs op) cell) h)

  module _ (t : ℕ) (op : StoreOp) (may : MayApply size m t k u op) (has : has_cell (needs op) cell ≡ true) where
    of_change : has_cell (m.changes u).cells cell ≡ true
    of_change = ap (λ cs. has_cell cs cell) ((changes_are_own size m r).fit.needs_are u ∙ ap needs (sym may.op_is)) ∙ has

    without : IsWithout m u k
    without = left_are_without size m r t u k may.turn may.next.is_left may.unsettled

    brings_not : (ask : Ask) → IsNoOpOf u ask → IsCopyApart m k ask → brings u cell ask ≡ false
    brings_not (Op v other) none apart = by_case (is_or_not ((v == u) && has_cell (needs other) cell)) where
      by_case : (((v == u) && has_cell (needs other) cell) ≡ true) ⊎ (((v == u) && has_cell (needs other) cell) ≡ false) → ((v == u) && has_cell (needs other) cell) ≡ false
      by_case (inl is) = absurd (none (op_parts v other is).0)
      by_case (inr fine) = fine
    brings_not (Replace at found) none apart = by_case (is_or_not (is_cell cell at)) where
      by_case : (is_cell cell at ≡ true) ⊎ (is_cell cell at ≡ false) → (is_cell cell at && has_change found.copy.changes u) ≡ false
      by_case (inl same) = ap (λ b. b && has_change found.copy.changes u) same ∙ (apart u may.unsettled (ap (has_cell (m.changes u).cells) (sym (cells_are cell at same)) ∙ of_change)).0
      by_case (inr other) = ap (λ b. b && has_change found.copy.changes u) other
    brings_not ask none apart = refl

    nothing_brings : EachInput (λ by ask. brings u cell ask ≡ false) (m.bricks k).line
    nothing_brings =
        each_both (λ by ask. IsNoOpOf u ask) (λ by ask. IsCopyApart m k ask) (λ by ask. brings u cell ask ≡ false) (λ by ask none apart. brings_not ask none apart) (m.bricks k).line without.line ((keeps_copies_apart size m r).replaces k)

    sent_new : had_after u cell (has_change (applied m k cell) u) (m.bricks k).line ≡ false
    sent_new = none_after u cell (m.bricks k).line (has_change (applied m k cell) u) (without.copies cell of_change) nothing_brings

  sent_op : (t v : ℕ) (op : StoreOp) → MayAsk size m t k (Op v op) → is_op_on u cell (Op v op) ≡ true → had_after u cell (has_change (applied m k cell) u) (m.bricks k).line ≡ false
  sent_op t v op (inl may) is = let p = op_parts v op is in sent_new t op (subst (λ n. MayApply size m t k n op) p.0 may) p.1
  sent_op t v op (inr may) is =
      let own = subst IsJob may.job_is ((changes_are_own size m r).own t).job in
      apart_bools (op_parts v op is).1 (ap (λ cs. has_cell cs cell) (birth_needs op own.2))

  sent_ask : (t : ℕ) (ask : Ask) → MayAsk size m t k ask → is_op_on u cell ask ≡ true → had_after u cell (has_change (applied m k cell) u) (m.bricks k).line ≡ false
  sent_ask t (Op v op) may is = sent_op t v op may is
  sent_ask t other may is = absurd (let e : false ≡ true = is in cc)

  sent_line : (t : ℕ) (first : Bool) (ask : Ask) → MayAsk size m t k ask → IsNew u cell (had_after u cell (has_change (applied m k cell) u) (m.bricks k).line) (inputs_of (sender_of m t k) (asks_of first ask))
  sent_line t true ask may = (λ op. absurd (let e : false ≡ true = op in cc), (λ op. or_none (sent_ask t ask may op), tt)) where
    or_none : {b : Bool} → b ≡ false → (b || false) ≡ false
    or_none is = ap (λ c. c || false) is
  sent_line t false ask may = (sent_ask t ask may, tt)

  taken_line : (st : Step) → Allowed size m st → (inputs : List Input) → IsTaken m st k inputs → IsNew u cell (had_after u cell (has_change (applied m k cell) u) (m.bricks k).line) inputs
  taken_line (Step.Asks t j first ask) h inputs taken =
      subst (IsNew u cell (had_after u cell (has_change (applied m k cell) u) (m.bricks k).line)) (sym (taken.1 ∙ ap (λ n. inputs_of (sender_of m t n) (asks_of first ask)) (sym taken.0))) (sent_line t first ask (subst (λ n. MayAsk size m t n ask) (sym taken.0) h.0))
  taken_line (Step.Controls j steering) h inputs taken = subst (IsNew u cell (had_after u cell (has_change (applied m k cell) u) (m.bricks k).line)) (sym taken.1) tt
  taken_line (Step.Connects j g) h inputs taken = subst (IsNew u cell (had_after u cell (has_change (applied m k cell) u) (m.bricks k).line)) (sym taken.1) tt
  taken_line (Step.Cuts j g) h inputs taken = subst (IsNew u cell (had_after u cell (has_change (applied m k cell) u) (m.bricks k).line)) (sym taken.1) tt
  taken_line other h inputs taken = absurd taken

  module _ (step : Step) (allowed : Allowed size m step) (was : IsNew u cell (has_change (applied m k cell) u) (m.bricks k).line) where
    abbrev new : State
    new = after size m step

    abbrev Of : Brick → Type 0
    Of b = IsNew u cell (has_change (changes_of (b.store cell).copy) u) b.line

    served : (ask : Ask) → has_change (changes_of (stored_by ask (m.bricks k).store cell).copy) u ≡ true → (has_change (applied m k cell) u || brings u cell ask) ≡ true
    served ask h = by_case (stored_had (m.bricks k).store cell u ask h) where
      by_case : (has_change (applied m k cell) u ≡ true) ⊎ Brings ask cell u → (has_change (applied m k cell) u || brings u cell ask) ≡ true
      by_case (inl old) = or_left (has_change (applied m k cell) u) (brings u cell ask) old
      by_case (inr now) = or_last (has_change (applied m k cell) u) (brings u cell ask) (brings_is u cell ask now)

    new_after : BrickMove (IsTaken m step k) (m.bricks k) (new.bricks k) → Of (new.bricks k)
    new_after (Stays is) = subst (λ (b : Brick). Of b) (sym is) was
    new_after (Takes inputs its is) = subst (λ (b : Brick). Of b) (sym is) (append u cell (m.bricks k).line inputs (has_change (applied m k cell) u) was (taken_line step allowed inputs its))
    new_after (Hands first rest front is) = subst (λ (b : Brick). Of b) (sym is) was
    new_after (Serves by ask rest front would is) =
        subst (λ (b : Brick). Of b) (sym is)
        (subst (λ (l : List Input). IsNew u cell (has_change (changes_of ((served_by (m.bricks k).power by ask (record (m.bricks k) { line = rest })).store cell).copy) u) l) (sym (served_line (m.bricks k).power by ask (record (m.bricks k) { line = rest })))
        (subst (λ (s : Store). IsNew u cell (has_change (changes_of (s cell).copy) u) rest) (sym (served_store (m.bricks k).power by ask (record (m.bricks k) { line = rest })))
        (less u cell rest (has_change (changes_of (stored_by ask (m.bricks k).store cell).copy) u) (has_change (applied m k cell) u || brings u cell ask) (served ask)
        (subst (IsNew u cell (has_change (applied m k cell) u)) front was).1)))
    new_after (Refuses by ask answer rest front may_be refusal is) =
        subst (λ (b : Brick). Of b) (sym is) (less u cell rest (has_change (applied m k cell) u) (has_change (applied m k cell) u || brings u cell ask) (λ h. or_left (has_change (applied m k cell) u) (brings u cell ask) h) (subst (IsNew u cell (has_change (applied m k cell) u)) front was).1)
    new_after (GivesUp by ask rest front would is) =
        subst (λ (b : Brick). Of b) (sym is) (less u cell rest (has_change (applied m k cell) u) (has_change (applied m k cell) u || brings u cell ask) (λ h. or_left (has_change (applied m k cell) u) (brings u cell ask) h) (subst (IsNew u cell (has_change (applied m k cell) u)) front was).1)
    new_after (Steers control rest front is) =
        subst (λ (b : Brick). Of b) (sym is)
        (subst (λ (l : List Input). IsNew u cell (has_change (changes_of ((steered control (record (m.bricks k) { line = rest })).store cell).copy) u) l) (sym (steered_line control (record (m.bricks k) { line = rest })))
        (subst (λ (s : Store). IsNew u cell (has_change (changes_of (s cell).copy) u) rest) (sym (steered_store control (record (m.bricks k) { line = rest })))
        (subst (IsNew u cell (has_change (applied m k cell) u)) front was)))

-- ---- every list of steps

lines_new : (size : Size) (m : State) → IsReached size m → (k u : ℕ) (cell : Cell) → IsNew u cell (has_change (applied m k cell) u) (m.bricks k).line
lines_new size m IsReached.Start = λ k u cell. tt
lines_new size m (IsReached.Further old step reached allowed) = λ k u cell. new_after size old reached k u cell step allowed (lines_new size old reached k u cell) (bricks_move size old step allowed k)

-- so each op in the line is new now
module _ (m : State) (k : ℕ) where
  new_of : (ask : Ask) → ((u : ℕ) (cell : Cell) → is_op_on u cell ask ≡ true → has_change (applied m k cell) u ≡ false) → IsNewAt m k ask
  new_of (Op u op) h = λ cell has. h u cell (both (u == u) (has_cell (needs op) cell) (eq-eqb u u refl) has)
  new_of other h = tt

  each_new : (line : List Input) → ((u : ℕ) (cell : Cell) → IsNew u cell (has_change (applied m k cell) u) line) → EachInput (λ by ask. IsNewAt m k ask) line
  each_new [] h = tt
  each_new (Asked by ask ∷ is) h = (new_of ask (λ u cell op. (h u cell).0 op), each_new is (λ u cell. less u cell is (has_change (applied m k cell) u) (has_change (applied m k cell) u || brings u cell ask) (λ e. or_left (has_change (applied m k cell) u) (brings u cell ask) e) (h u cell).1))
  each_new (Steered control ∷ is) h = each_new is (λ u cell. h u cell)

pub ops_are_new : EveryOpIsNew
ops_are_new size m r k = each_new m k (m.bricks k).line (lines_new size m r k)
