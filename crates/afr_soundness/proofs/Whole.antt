-- A brick has an unsettled change in its copies of all of its cells, or of none, over every list of steps.
use Rattle.std.proofs.Common.{◌≡◌, ◌∙◌, ℕ, Bool, true, false, refl, sym, ap, subst, Some}
use Rattle.std.specs.Prelude.{if◌then◌else◌, List, ◌∷◌}
use Rattle.fop_types.specs.declared.cells.Cell.{Cell}
use Rattle.afr_machine.specs.Replicas.{Size}
use Rattle.afr_machine.specs.Touching.{is_cell, has_cell}
use Rattle.afr_machine.specs.Copies.{Store, Fetched, changes_of, has_change}
use Rattle.afr_machine.specs.Requests.{Sender, Ask, Input}
use Rattle.afr_machine.specs.Requests.Ask.{Replace}
use Rattle.afr_machine.specs.Requests.Input.{Asked}
use Rattle.afr_machine.specs.Bricks.{Brick, stored_by}
use Rattle.afr_machine.specs.Changes.{is_unsettled}
use Rattle.afr_machine.specs.States.{State}
use Rattle.afr_machine.specs.Steps.{Step, Allowed, after, IsReached}
use Rattle.afr_machine.specs.Moves.{BrickMove, IsTaken}
use Rattle.afr_machine.specs.Moves.BrickMove.{Stays, Takes, Hands, Serves, Refuses, GivesUp, Steers}
use Rattle.afr_machine.proofs.BrickMoves.{bricks_move}
use Rattle.afr_laws.specs.Senders.{EachInput}
use Rattle.afr_laws.specs.Numbers.{applied}
use Rattle.afr_laws.specs.HeldWhole.{HeldWhole, NextIsNoCopy}
use Rattle.afr_laws.proofs.Sharing.{cells_are}
use Rattle.afr_laws.proofs.OwnChanges.Steps.{changes_are_own}
use Rattle.afr_laws.proofs.Copies.Served.{served_store, steered_store}
use Rattle.afr_laws.proofs.Copies.Steps.{copies_are_of_changes}
use Rattle.afr_laws.proofs.Whole.{move_whole}
use Rattle.afr_soundness.specs.CopyApart.{IsCopyApart}
use Rattle.afr_soundness.proofs.ChangeMoves.{cells_stay}
use Rattle.afr_soundness.proofs.Unsettled.{UnsettledFrom, unsettled_from, drawn_from}
use Rattle.afr_soundness.proofs.CopyApart.Steps.{nowhere, keeps_copies_apart}

-- a replacement changes nothing of an unsettled change that is in no copy
module _ (m : State) (u k : ℕ) (unsettled : is_unsettled (m.changes u).verdict ≡ true) (at : Cell) (found : Fetched) (apart : IsCopyApart m k (Replace at found)) where
  pub replaced_same : (cell : Cell) → has_cell (m.changes u).cells cell ≡ true → has_change (changes_of (stored_by (Replace at found) (m.bricks k).store cell).copy) u ≡ has_change (applied m k cell) u
  replaced_same cell has = by_case (is_cell cell at) refl where
    by_case : (b : Bool) → is_cell cell at ≡ b → has_change (changes_of (if b then record ((m.bricks k).store cell) { copy = Some found.copy; last = found.last } else (m.bricks k).store cell).copy) u ≡ has_change (applied m k cell) u
    by_case true here = let a = apart u unsettled (subst (λ c. has_cell (m.changes u).cells c ≡ true) (cells_are cell at here) has) in a.0 ∙ sym (a.1.copies cell has)
    by_case false other = refl

module _ (size : Size) (m : State) (r : IsReached size m) (was : HeldWhole m) (step : Step) (allowed : Allowed size m step) (u k : ℕ) (c d : Cell) where
  abbrev new : State
  new = after size m step

  module _ (unsettled : is_unsettled (m.changes u).verdict ≡ true) (x : has_cell (m.changes u).cells c ≡ true) (y : has_cell (m.changes u).cells d ≡ true) where
    abbrev AreSame : Store → Type 0
    AreSame store = has_change (changes_of (store c).copy) u ≡ has_change (changes_of (store d).copy) u

    old : AreSame (m.bricks k).store
    old = was u k c d unsettled x y

    replaced : (at : Cell) (found : Fetched) → IsCopyApart m k (Replace at found) → AreSame (stored_by (Replace at found) (m.bricks k).store)
    replaced at found apart = replaced_same m u k unsettled at found apart c x ∙ old ∙ sym (replaced_same m u k unsettled at found apart d y)

    other_whole : BrickMove (IsTaken m step k) (m.bricks k) (new.bricks k) → NextIsNoCopy (m.bricks k).line → AreSame (new.bricks k).store
    other_whole move none = move_whole m.changes (changes_are_own size m r).fit u (IsTaken m step k) (m.bricks k) (new.bricks k) move ((copies_are_of_changes size m r).bricks k).line none (λ e f. was u k e f unsettled) c d x y

    served : (by : Sender) (ask : Ask) (rest : List Input) → (m.bricks k).line ≡ Asked by ask ∷ rest → (new.bricks k).store ≡ stored_by ask (m.bricks k).store → BrickMove (IsTaken m step k) (m.bricks k) (new.bricks k) → AreSame (new.bricks k).store
    served by (Replace at found) rest front stored move = subst (λ (s : Store). AreSame s) (sym stored) (replaced at found (subst (EachInput (λ by ask. IsCopyApart m k ask)) front ((keeps_copies_apart size m r).replaces k)).0)
    served by other rest front stored move = other_whole move (subst NextIsNoCopy (sym front) refl)

    moved : BrickMove (IsTaken m step k) (m.bricks k) (new.bricks k) → AreSame (new.bricks k).store
    moved (Serves by ask rest front would is) = served by ask rest front (ap (λ (b : Brick). b.store) is ∙ served_store (m.bricks k).power by ask (record (m.bricks k) { line = rest })) (Serves by ask rest front would is)
    moved (Stays is) = subst (λ (b : Brick). AreSame b.store) (sym is) old
    moved (Takes inputs its is) = subst (λ (b : Brick). AreSame b.store) (sym is) old
    moved (Hands first rest front is) = subst (λ (b : Brick). AreSame b.store) (sym is) old
    moved (Refuses by ask answer rest front may_be refusal is) = subst (λ (b : Brick). AreSame b.store) (sym is) old
    moved (GivesUp by ask rest front would is) = subst (λ (b : Brick). AreSame b.store) (sym is) old
    moved (Steers control rest front is) = subst (λ (b : Brick). AreSame b.store) (sym is) (subst (λ (s : Store). AreSame s) (sym (steered_store control (record (m.bricks k) { line = rest }))) old)

  whole_after : UnsettledFrom size m r step allowed u → has_cell (new.changes u).cells c ≡ true → has_cell (new.changes u).cells d ≡ true → has_change (applied new k c) u ≡ has_change (applied new k d) u
  whole_after (UnsettledFrom.Becomes t step_is h at) x y = let w = nowhere size m r step allowed t u step_is h at k in w.copies c x ∙ sym (w.copies d y)
  whole_after (UnsettledFrom.Was unsettled) x y =
      let same = cells_stay size m step allowed u (drawn_from size m r step allowed u (UnsettledFrom.Was unsettled)) in
      moved unsettled (sym (ap (λ cs. has_cell cs c) same) ∙ x) (sym (ap (λ cs. has_cell cs d) same) ∙ y) (bricks_move size m step allowed k)

pub held_whole : (size : Size) (m : State) → IsReached size m → HeldWhole m
held_whole size m IsReached.Start = λ u k c d unsettled. absurd (let e : false ≡ true = unsettled in cc)
held_whole size m (IsReached.Further before step reached allowed) = λ u k c d unsettled x y. whole_after size before reached (held_whole size before reached) step allowed u k c d (unsettled_from size before reached step allowed u unsettled) x y
