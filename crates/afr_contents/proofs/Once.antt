-- Of the requests in the line of a brick at most one changes the copy of a cell, over every list of steps.
use Rattle.std.proofs.Common.{◌≡◌, ◌∙◌, ℕ, Bool, true, false, refl, sym, ap, subst, ◌⊎◌, inl, inr}
use Rattle.std.specs.Prelude.{List, [], ◌∷◌, ◌++◌}
use Rattle.fop_types.specs.declared.cells.Cell.{Cell}
use Rattle.afr_machine.specs.Replicas.{Size}
use Rattle.afr_machine.specs.Touching.{has_cell}
use Rattle.afr_machine.specs.Requests.{Sender, Ask, Input}
use Rattle.afr_machine.specs.Requests.Ask.{Op, Replace, OpenFirst}
use Rattle.afr_machine.specs.Requests.Input.{Asked, Steered}
use Rattle.afr_machine.specs.Bricks.{Brick}
use Rattle.afr_machine.specs.States.{State}
use Rattle.afr_machine.specs.Births.{cells_of_work}
use Rattle.afr_machine.specs.Sending.{IsMember, MayAsk, asks_of, inputs_of, sender_of}
use Rattle.afr_machine.specs.Steps.{Step, Allowed, after, IsReached}
use Rattle.afr_machine.specs.Moves.{BrickMove, IsTaken}
use Rattle.afr_machine.specs.Moves.BrickMove.{Stays, Takes, Hands, Serves, Refuses, GivesUp, Steers}
use Rattle.afr_machine.proofs.BrickMoves.{bricks_move}
use Rattle.afr_laws.specs.Senders.{EachInput}
use Rattle.afr_laws.specs.Fresh.{is_behind}
use Rattle.afr_laws.proofs.Bools.{apart_bools, is_or_not}
use Rattle.afr_laws.proofs.Senders.{inputs_append}
use Rattle.afr_laws.proofs.Connecting.{served_line, steered_line}
use Rattle.afr_laws.proofs.Covered.Asked.{sent_on}
use Rattle.afr_laws.proofs.Fresh.Known.{phases_are_known}
use Rattle.afr_laws.proofs.OwnChanges.Steps.{changes_are_own}
use Rattle.afr_laws.proofs.Work.Known.{works_are_known}
use Rattle.afr_soundness.proofs.Copied.Stores.{recopies, recopies_alters}
use Rattle.afr_contents.proofs.Clean.{clean}
use Rattle.afr_contents.proofs.Using.{granted_of}

-- ---- lists

abbrev pub IsApartOn : Ask → Sender → Ask → Type 0
IsApartOn ask by other = (cell : Cell) → recopies ask cell ≡ true → recopies other cell ≡ false

abbrev pub AlterOnce : List Input → Type 0
AlterOnce [] = Unit {0}
AlterOnce (Asked by ask ∷ is) = EachInput (IsApartOn ask) is × AlterOnce is
AlterOnce (Steered control ∷ is) = AlterOnce is

-- what the new requests change nothing before them does
abbrev AreApart : List Input → List Input → Type 0
AreApart [] ys = Unit {0}
AreApart (Asked by ask ∷ is) ys = EachInput (IsApartOn ask) ys × AreApart is ys
AreApart (Steered control ∷ is) ys = AreApart is ys

once_append : (xs ys : List Input) → AlterOnce xs → AlterOnce ys → AreApart xs ys → AlterOnce (xs ++ ys)
once_append [] ys h k a = k
once_append (Asked by ask ∷ xs) ys h k a = (inputs_append (IsApartOn ask) xs ys h.0 a.0, once_append xs ys h.1 k a.1)
once_append (Steered control ∷ xs) ys h k a = once_append xs ys h k a

apart_none : (xs : List Input) → AreApart xs []
apart_none [] = tt
apart_none (Asked by ask ∷ xs) = (tt, apart_none xs)
apart_none (Steered control ∷ xs) = apart_none xs

apart_control : (xs : List Input) (control : _) → AreApart xs (Steered control ∷ [])
apart_control [] control = tt
apart_control (Asked by ask ∷ xs) control = (tt, apart_control xs control)
apart_control (Steered other ∷ xs) control = apart_control xs control

-- a request of which each cell is untouched by those before it
apart_ask : (by : Sender) (ask : Ask) (xs : List Input) → ((cell : Cell) → recopies ask cell ≡ true → EachInput (λ b a. recopies a cell ≡ false) xs) → AreApart xs (Asked by ask ∷ [])
apart_ask by ask [] h = tt
apart_ask by ask (Asked b a ∷ xs) h = ((first, tt), apart_ask by ask xs (λ cell some. (h cell some).1)) where
  first : (cell : Cell) → recopies a cell ≡ true → recopies ask cell ≡ false
  first cell before = by_case (is_or_not (recopies ask cell)) where
    by_case : (recopies ask cell ≡ true) ⊎ (recopies ask cell ≡ false) → recopies ask cell ≡ false
    by_case (inl some) = apart_bools before (h cell some).0
    by_case (inr none) = none
apart_ask by ask (Steered control ∷ xs) h = apart_ask by ask xs h

apart_opened : (by : Sender) (xs ys : List Input) → AreApart xs ys → AreApart xs (Asked by OpenFirst ∷ ys)
apart_opened by [] ys h = tt
apart_opened by (Asked b a ∷ xs) ys h = ((λ cell some. refl, h.0), apart_opened by xs ys h.1)
apart_opened by (Steered control ∷ xs) ys h = apart_opened by xs ys h

-- ---- one step

module _ (size : Size) (m : State) (r : IsReached size m) (k : ℕ) where
  -- what is sent finds no other request that changes a copy of its cells
  module _ (t : ℕ) (ask : Ask) (may : MayAsk size m t k ask) (cell : Cell) (some : recopies ask cell ≡ true) where
    covers : has_cell (cells_of_work m.changes (m.txns t) (m.txns t).work) cell ≡ true
    covers = (sent_on size m t k (works_are_known size m r) (phases_are_known size m r) (changes_are_own size m r) ask may).over cell (recopies_alters ask cell some).1

    of_member : is_behind (m.txns t).stage ≡ true → IsMember size m t k → EachInput (λ b a. recopies a cell ≡ false) (m.bricks k).line
    of_member behind h = clean size m r t k h.not_out h.answered behind (granted_of m t k h.grant) cell covers

  sent_clean : (t : ℕ) (ask : Ask) (may : MayAsk size m t k ask) (cell : Cell) → recopies ask cell ≡ true → EachInput (λ b a. recopies a cell ≡ false) (m.bricks k).line
  sent_clean t (Op u op) (inl h) cell some = of_member t (Op u op) (inl h) cell some (ap is_behind h.turn) h.next.member
  sent_clean t (Op u op) (inr h) cell some = of_member t (Op u op) (inr h) cell some (ap is_behind h.turn) h.next.member
  sent_clean t (Replace at found) h cell some = of_member t (Replace at found) h cell some (ap is_behind h.turn) h.member
  sent_clean t other h cell some = absurd (let no : false ≡ true = some in cc)

  sent_once : (t : ℕ) (first : Bool) (ask : Ask) → AlterOnce (inputs_of (sender_of m t k) (asks_of first ask))
  sent_once t true ask = ((λ cell some. absurd (let no : false ≡ true = some in cc), tt), (tt, tt))
  sent_once t false ask = (tt, tt)

  sent_apart : (t : ℕ) (first : Bool) (ask : Ask) → MayAsk size m t k ask → AreApart (m.bricks k).line (inputs_of (sender_of m t k) (asks_of first ask))
  sent_apart t true ask may = apart_opened (sender_of m t k) (m.bricks k).line (Asked (sender_of m t k) ask ∷ []) (apart_ask (sender_of m t k) ask (m.bricks k).line (sent_clean t ask may))
  sent_apart t false ask may = apart_ask (sender_of m t k) ask (m.bricks k).line (sent_clean t ask may)

  module _ (step : Step) (allowed : Allowed size m step) (was : AlterOnce (m.bricks k).line) where
    abbrev new : State
    new = after size m step

    taken : (st : Step) → Allowed size m st → (inputs : List Input) → IsTaken m st k inputs → AlterOnce ((m.bricks k).line ++ inputs)
    taken (Step.Asks t j first ask) h inputs its =
        subst (λ l. AlterOnce ((m.bricks k).line ++ l)) (sym (its.1 ∙ ap (λ n. inputs_of (sender_of m t n) (asks_of first ask)) (sym its.0)))
        (once_append (m.bricks k).line (inputs_of (sender_of m t k) (asks_of first ask)) was (sent_once t first ask) (sent_apart t first ask (subst (λ n. MayAsk size m t n ask) (sym its.0) h.0)))
    taken (Step.Controls j steering) h inputs its = subst (λ l. AlterOnce ((m.bricks k).line ++ l)) (sym its.1) (once_append (m.bricks k).line (Steered steering ∷ []) was tt (apart_control (m.bricks k).line steering))
    taken (Step.Connects j g) h inputs its = subst (λ l. AlterOnce ((m.bricks k).line ++ l)) (sym its.1) (once_append (m.bricks k).line (Steered _ ∷ []) was tt (apart_control (m.bricks k).line _))
    taken (Step.Cuts j g) h inputs its = subst (λ l. AlterOnce ((m.bricks k).line ++ l)) (sym its.1) (once_append (m.bricks k).line (Steered _ ∷ []) was tt (apart_control (m.bricks k).line _))
    taken other h inputs its = absurd its

    once_after : BrickMove (IsTaken m step k) (m.bricks k) (new.bricks k) → AlterOnce (new.bricks k).line
    once_after (Stays is) = subst (λ (b : Brick). AlterOnce b.line) (sym is) was
    once_after (Takes inputs its is) = subst (λ (b : Brick). AlterOnce b.line) (sym is) (taken step allowed inputs its)
    once_after (Hands first rest front is) = subst (λ (b : Brick). AlterOnce b.line) (sym is) was
    once_after (Serves by ask rest front would is) = subst (λ (b : Brick). AlterOnce b.line) (sym is) (subst AlterOnce (sym (served_line (m.bricks k).power by ask (record (m.bricks k) { line = rest }))) (subst AlterOnce front was).1)
    once_after (Refuses by ask answer rest front may_be refusal is) = subst (λ (b : Brick). AlterOnce b.line) (sym is) (subst AlterOnce front was).1
    once_after (GivesUp by ask rest front would is) = subst (λ (b : Brick). AlterOnce b.line) (sym is) (subst AlterOnce front was).1
    once_after (Steers control rest front is) = subst (λ (b : Brick). AlterOnce b.line) (sym is) (subst AlterOnce (sym (steered_line control (record (m.bricks k) { line = rest }))) (subst AlterOnce front was))

pub lines_alter_once : (size : Size) (m : State) → IsReached size m → (k : ℕ) → AlterOnce (m.bricks k).line
lines_alter_once size m IsReached.Start = λ k. tt
lines_alter_once size m (IsReached.Further old step reached allowed) = λ k. once_after size old reached k step allowed (lines_alter_once size old reached k) (bricks_move size old step allowed k)
