-- A brick that has not got a change gets it by an op of it, or by a replacement that carries it, alone.
use Rattle.std.proofs.Common.{◌≡◌, ◌∙◌, ℕ, ◌≤◌, Bool, true, false, refl, sym, ap, subst, ◌⊎◌, inl, inr, arith}
use Rattle.std.specs.Prelude.{List, [], ◌∷◌}
use Rattle.fop_types.specs.declared.cells.Cell.{Cell}
use Rattle.fop_types.specs.declared.store_ops.StoreOp.{StoreOp}
use Rattle.afr_machine.specs.Replicas.{Size}
use Rattle.afr_machine.specs.Touching.{has_cell}
use Rattle.afr_machine.specs.Copies.{Kept, Store, Fetched, changes_of, has_change}
use Rattle.afr_machine.specs.Requests.{Sender, Ask, Input}
use Rattle.afr_machine.specs.Requests.Ask.{Op, Replace}
use Rattle.afr_machine.specs.Requests.Input.{Asked, Steered}
use Rattle.afr_machine.specs.Bricks.{Brick, stored_by}
use Rattle.afr_machine.specs.States.{State}
use Rattle.afr_machine.specs.Sending.{asks_of, inputs_of, sender_of}
use Rattle.afr_machine.specs.Steps.{Step, Allowed, after, IsReached}
use Rattle.afr_machine.specs.Moves.{BrickMove, IsTaken}
use Rattle.afr_machine.specs.Moves.BrickMove.{Stays, Takes, Hands, Serves, Refuses, GivesUp, Steers}
use Rattle.afr_machine.proofs.BrickMoves.{bricks_move}
use Rattle.afr_laws.specs.Senders.{EachInput}
use Rattle.afr_laws.specs.OwnChanges.{was_unsettled}
use Rattle.afr_laws.specs.Copies.{AreChangesOf, IsFound, Carries, Brings, CopiesAreOfChanges}
use Rattle.afr_laws.specs.Numbers.{applied}
use Rattle.afr_laws.proofs.Bools.{apart_bools, is_or_not}
use Rattle.afr_laws.proofs.Copies.Lines.{change_in}
use Rattle.afr_laws.proofs.Copies.Stores.{stored_had}
use Rattle.afr_laws.proofs.Copies.Served.{served_store, steered_store}
use Rattle.afr_laws.proofs.Copies.Steps.{copies_are_of_changes}
use Rattle.afr_laws.proofs.Standing.Alone.{move_each}
use Rattle.afr_soundness.specs.CopyApart.{IsNoOpOf, IsWithout}
use Rattle.afr_soundness.proofs.ChangeMoves.{cells_stay}

pub each_map : (P Q : Sender → Ask → Type 0) → ((by : Sender) (ask : Ask) → P by ask → Q by ask) → (line : List Input) → EachInput P line → EachInput Q line
each_map P Q f [] h = tt
each_map P Q f (Asked by ask ∷ is) h = (f by ask h.0, each_map P Q f is h.1)
each_map P Q f (Steered control ∷ is) h = each_map P Q f is h

-- a replacement of one of the cells does not carry the change
abbrev pub CarriesNot : List Cell → ℕ → Ask → Type 0
CarriesNot cells u (Replace at found) = has_cell cells at ≡ true → has_change found.copy.changes u ≡ false
CarriesNot cells u other = Unit {0}

-- ---- a change that has not become unsettled

module _ (size : Size) (m : State) (r : IsReached size m) (u : ℕ) (one : 1 ≤ u) (never : was_unsettled (m.changes u).verdict ≡ false) where
  c : CopiesAreOfChanges m
  c = copies_are_of_changes size m r

  not_in : (cell : Cell) (us : List ℕ) → AreChangesOf m.changes cell us → has_change us u ≡ false
  not_in cell us are = by_case (is_or_not (has_change us u)) where
    by_case : (has_change us u ≡ true) ⊎ (has_change us u ≡ false) → has_change us u ≡ false
    by_case (inl there) = apart_bools (change_in m.changes cell us u are there).sent never
    by_case (inr absent) = absent

  no_op : (ask : Ask) → Carries m.changes ask → IsNoOpOf u ask
  no_op (Op v op) (inl birth) = λ same. absurd (omega (arith, one, birth.0, same))
  no_op (Op v op) (inr sent) = λ same. apart_bools (subst (λ n. was_unsettled (m.changes n).verdict ≡ true) same sent.0) never
  no_op other h = tt

  pub never_without : (k : ℕ) → IsWithout m u k
  never_without k = record {
    copies = λ cell has. not_in cell (applied m k cell) ((c.bricks k).stored cell).changes_are;
    line = each_map (λ by ask. Carries m.changes ask) (λ by ask. IsNoOpOf u ask) (λ by ask h. no_op ask h) (m.bricks k).line (c.bricks k).line;
  }

  carries_not : (cells : List Cell) (ask : Ask) → Carries m.changes ask → CarriesNot cells u ask
  carries_not cells (Replace at found) h = λ has. not_in at found.copy.changes h.changes_are
  carries_not cells other h = tt

  pub never_carried : (k : ℕ) (cells : List Cell) → EachInput (λ by ask. CarriesNot cells u ask) (m.bricks k).line
  never_carried k cells = each_map (λ by ask. Carries m.changes ask) (λ by ask. CarriesNot cells u ask) (λ by ask h. carries_not cells ask h) (m.bricks k).line (c.bricks k).line

  pub never_found : (cell : Cell) (found : Fetched) → IsFound m.changes cell found → has_change found.copy.changes u ≡ false
  never_found cell found h = not_in cell found.copy.changes h.changes_are

-- ---- one step

module _ (size : Size) (m : State) (step : Step) (allowed : Allowed size m step) (u : ℕ) (drawn : u ≤ m.drawn) (k : ℕ) where
  abbrev new : State
  new = after size m step

  -- no op of it is sent there now
  abbrev pub IsUnsent : Type 0
  IsUnsent = (t : ℕ) (first : Bool) (op : StoreOp) → step ≡ Step.Asks t k first (Op u op) → ⊥

  module _ (unsent : IsUnsent) where
    asked_no_op : (t : ℕ) (first : Bool) (ask : Ask) → step ≡ Step.Asks t k first ask → IsNoOpOf u ask
    asked_no_op t first (Op v op) is = λ same. unsent t first op (is ∙ ap (λ n. Step.Asks t k first (Op n op)) same)
    asked_no_op t first other is = tt

    sent_no_op : (t : ℕ) (first : Bool) (ask : Ask) → step ≡ Step.Asks t k first ask → EachInput (λ by a. IsNoOpOf u a) (inputs_of (sender_of m t k) (asks_of first ask))
    sent_no_op t true ask is = (tt, (asked_no_op t true ask is, tt))
    sent_no_op t false ask is = (asked_no_op t false ask is, tt)

    pub taken_no_op : (st : Step) → step ≡ st → (inputs : List Input) → IsTaken m st k inputs → EachInput (λ by a. IsNoOpOf u a) inputs
    taken_no_op (Step.Asks t j first ask) is inputs taken =
        subst (EachInput (λ by a. IsNoOpOf u a)) (sym (taken.1 ∙ ap (λ n. inputs_of (sender_of m t n) (asks_of first ask)) (sym taken.0))) (sent_no_op t first ask (is ∙ ap (λ n. Step.Asks t n first ask) (sym taken.0)))
    taken_no_op (Step.Controls j steering) is inputs taken = subst (EachInput (λ by a. IsNoOpOf u a)) (sym taken.1) tt
    taken_no_op (Step.Connects j g) is inputs taken = subst (EachInput (λ by a. IsNoOpOf u a)) (sym taken.1) tt
    taken_no_op (Step.Cuts j g) is inputs taken = subst (EachInput (λ by a. IsNoOpOf u a)) (sym taken.1) tt
    taken_no_op other is inputs taken = absurd taken

  -- what the front brings is not the change
  brings_not : (ask : Ask) (cell : Cell) → has_cell (m.changes u).cells cell ≡ true → IsNoOpOf u ask → CarriesNot (m.changes u).cells u ask → Brings ask cell u → ⊥
  brings_not (Op v op) cell has line carried h = line (sym h.1)
  brings_not (Replace at found) cell has line carried h = apart_bools h.1 (carried (subst (λ c. has_cell (m.changes u).cells c ≡ true) h.0 has))
  brings_not other cell has line carried h = absurd h

  store_without : (may : List Input → Type 0) (old later : Brick) (cell : Cell) → has_cell (m.changes u).cells cell ≡ true → EachInput (λ by a. IsNoOpOf u a) old.line → EachInput (λ by a. CarriesNot (m.changes u).cells u a) old.line →
      has_change (changes_of (old.store cell).copy) u ≡ false → BrickMove may old later → has_change (changes_of (later.store cell).copy) u ≡ false
  store_without may old later cell has line carried none (Serves by ask rest front would is) = by_case (is_or_not (has_change (changes_of (stored_by ask old.store cell).copy) u)) where
    stored : (later.store cell) ≡ (stored_by ask old.store cell)
    stored = ap (λ (b : Brick). b.store cell) is ∙ ap (λ (s : Store). s cell) (served_store old.power by ask (record old { line = rest }))

    brought : (has_change (changes_of (old.store cell).copy) u ≡ true) ⊎ Brings ask cell u → ⊥
    brought (inl before) = apart_bools before none
    brought (inr now) = brings_not ask cell has (subst (EachInput (λ by a. IsNoOpOf u a)) front line).0 (subst (EachInput (λ by a. CarriesNot (m.changes u).cells u a)) front carried).0 now

    by_case : (has_change (changes_of (stored_by ask old.store cell).copy) u ≡ true) ⊎ (has_change (changes_of (stored_by ask old.store cell).copy) u ≡ false) → has_change (changes_of (later.store cell).copy) u ≡ false
    by_case (inl there) = absurd (brought (stored_had old.store cell u ask there))
    by_case (inr absent) = ap (λ (x : Kept). has_change (changes_of x.copy) u) stored ∙ absent
  store_without may old later cell has line carried none (Stays is) = ap (λ (b : Brick). has_change (changes_of (b.store cell).copy) u) is ∙ none
  store_without may old later cell has line carried none (Takes inputs its is) = ap (λ (b : Brick). has_change (changes_of (b.store cell).copy) u) is ∙ none
  store_without may old later cell has line carried none (Hands first rest front is) = ap (λ (b : Brick). has_change (changes_of (b.store cell).copy) u) is ∙ none
  store_without may old later cell has line carried none (Refuses by ask answer rest front may_be refusal is) = ap (λ (b : Brick). has_change (changes_of (b.store cell).copy) u) is ∙ none
  store_without may old later cell has line carried none (GivesUp by ask rest front would is) = ap (λ (b : Brick). has_change (changes_of (b.store cell).copy) u) is ∙ none
  store_without may old later cell has line carried none (Steers control rest front is) =
      ap (λ (b : Brick). has_change (changes_of (b.store cell).copy) u) is ∙ ap (λ (s : Store). has_change (changes_of (s cell).copy) u) (steered_store control (record old { line = rest })) ∙ none

  pub without_stays : ((t : ℕ) (first : Bool) (op : StoreOp) → step ≡ Step.Asks t k first (Op u op) → ⊥) → EachInput (λ by a. CarriesNot (m.changes u).cells u a) (m.bricks k).line → IsWithout m u k → IsWithout new u k
  without_stays unsent carried h = record {
    copies = λ cell has. store_without (IsTaken m step k) (m.bricks k) (new.bricks k) cell (sym (ap (λ cs. has_cell cs cell) (cells_stay size m step allowed u drawn)) ∙ has) h.line carried (h.copies cell (sym (ap (λ cs. has_cell cs cell) (cells_stay size m step allowed u drawn)) ∙ has)) (bricks_move size m step allowed k);
    line = move_each (IsTaken m step k) (m.bricks k) (new.bricks k) (λ by a. IsNoOpOf u a) (taken_no_op unsent step refl) h.line (bricks_move size m step allowed k);
  }
