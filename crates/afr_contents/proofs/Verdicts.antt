-- A good copy has each adopted change of its cell and no dropped one.
use Rattle.std.proofs.Common.{◌≡◌, ◌∙◌, ℕ, zero, suc, ◌≤◌, ◌<◌, Bool, true, false, refl, sym, ap, ◌⊎◌, inl, inr, arith, Option}
use Rattle.std.specs.Prelude.{[], ◌∷◌, ◌&&◌, ◌||◌, ◌==◌, ◌≢◌, if◌then◌else◌}
use Rattle.std.proofs.lemmas.Bool.{cases_eq, cases_lt, eq-eqb, ne_eqb}
use Rattle.fop_types.specs.declared.cells.Cell.{Cell}
use Rattle.afr_machine.specs.Replicas.{Size}
use Rattle.afr_machine.specs.Touching.{has_cell}
use Rattle.afr_machine.specs.Copies.{Copy, changes_of, has_change}
use Rattle.afr_machine.specs.Changes.{Change, is_unsettled, is_adopted, is_adopted_on}
use Rattle.afr_machine.specs.Changes.Verdict.{Undrawn, Adopted, Dropped}
use Rattle.afr_machine.specs.States.{State}
use Rattle.afr_machine.specs.Steps.{IsReached}
use Rattle.afr_laws.proofs.Bools.{apart_bools, is_or_not, both, or_left, or_last}
use Rattle.afr_laws.proofs.Copies.Asks.{share_at}
use Rattle.afr_laws.proofs.Drawn.{changes_are_drawn}
use Rattle.afr_soundness.specs.Copied.{IsFetched, IsReplacedAt}
use Rattle.afr_soundness.proofs.ChangeMoves.{cells_stay}
use Rattle.afr_soundness.proofs.Copied.Steps.{copies_stand}
use Rattle.afr_soundness.proofs.States.{drawn_goes}
use Rattle.afr_soundness.proofs.Unsettled.{is_some_change}
use Rattle.afr_decisions.specs.Stands.{IsLater}
use Rattle.afr_decisions.proofs.Stands.{later_reached, verdicts_stand}
use Rattle.afr_contents.specs.Adopted.{adopted_below, adopted_on}
use Rattle.afr_contents.specs.Good.{IsGood}
use Rattle.afr_contents.specs.Good.IsGood.{Absent, Settled, Ahead}
use Rattle.afr_contents.specs.Verdicts.{EveryGoodCopyHasVerdicts, EveryConfirmedEqualsSource}
use Rattle.afr_contents.proofs.Lists.{below_adopted}
use Rattle.afr_contents.proofs.Ops.{first_has}

-- each adopted change of the cell is in the list
below_has : (changes : ℕ → Change) (cell : Cell) (n u : ℕ) → 1 ≤ u → u ≤ n → is_adopted_on (changes u) cell ≡ true → has_change (adopted_below changes n cell) u ≡ true
below_has changes cell zero u one low is = absurd (omega (arith, one, low))
below_has changes cell (suc n) u one low is = by_number (λ few. below_has changes cell n u one few is) (cases_eq u (suc n)) (is_adopted_on (changes (suc n)) cell) refl where
  by_number : (u ≤ n → has_change (adopted_below changes n cell) u ≡ true) → (u ≡ suc n) ⊎ (u ≢ suc n) → (b : Bool) → is_adopted_on (changes (suc n)) cell ≡ b → has_change (if b then suc n ∷ adopted_below changes n cell else adopted_below changes n cell) u ≡ true
  by_number rest (inl same) true there = or_left (u == suc n) (has_change (adopted_below changes n cell) u) (eq-eqb u (suc n) same)
  by_number rest (inl same) false none = apart_bools (sym (ap (λ x. is_adopted_on (changes x) cell) same) ∙ is) none
  by_number rest (inr other) true there = or_last (u == suc n) (has_change (adopted_below changes n cell) u) (rest (omega (arith, low, other)))
  by_number rest (inr other) false none = rest (omega (arith, low, other))

module _ (size : Size) (m : State) (r : IsReached size m) (u i : ℕ) (cell : Cell) (touches : has_cell (m.changes u).cells cell ≡ true) where
  drawn : (m.changes u).verdict ≢ Undrawn → u ≤ m.drawn
  drawn some = by_order (cases_lt m.drawn u) where
    by_order : (m.drawn < u) ⊎ (u ≤ m.drawn) → u ≤ m.drawn
    by_order (inl beyond) = absurd (some ((changes_are_drawn size m r).beyond u beyond))
    by_order (inr low) = low

  module _ (is : (m.changes u).verdict ≡ Adopted) where
    listed : has_change (adopted_on m cell) u ≡ true
    listed = below_has m.changes cell m.drawn u (is_some_change size m r u (cell ∷ []) (share_at (m.changes u).cells (cell ∷ []) cell touches (first_has cell []))) (drawn (λ e. absurd (let no : Adopted ≡ Undrawn = sym is ∙ e in cc)))
        (both (is_adopted (m.changes u).verdict) (has_cell (m.changes u).cells cell) (ap is_adopted is) touches)

    has_adopted : (copy : Option Copy) → IsGood m cell copy → has_change (changes_of copy) u ≡ true
    has_adopted copy (Absent e empty) = apart_bools listed (ap (λ l. has_change l u) empty)
    has_adopted copy (Settled held e changes content) = ap (λ c. has_change (changes_of c) u) e ∙ ap (λ l. has_change l u) changes ∙ listed
    has_adopted copy (Ahead held v e a) = ap (λ c. has_change (changes_of c) u) e ∙ ap (λ l. has_change l u) a.changes ∙ or_last (u == v) (has_change (adopted_on m cell) u) listed

  module _ (is : (m.changes u).verdict ≡ Dropped) where
    unlisted : has_change (adopted_on m cell) u ≡ false
    unlisted = by_case (is_or_not (has_change (adopted_on m cell) u)) where
      by_case : (has_change (adopted_on m cell) u ≡ true) ⊎ (has_change (adopted_on m cell) u ≡ false) → has_change (adopted_on m cell) u ≡ false
      by_case (inl has) = apart_bools (below_adopted cell m.changes m.drawn u has) (ap (λ v. is_adopted v && has_cell (m.changes u).cells cell) is)
      by_case (inr none) = none

    not_that : (v : ℕ) → is_unsettled (m.changes v).verdict ≡ true → (u == v) ≡ false
    not_that v unsettled = ne_eqb u v (λ same. apart_bools unsettled (ap (λ n. is_unsettled (m.changes n).verdict) (sym same) ∙ ap is_unsettled is))

    has_none : (copy : Option Copy) → IsGood m cell copy → has_change (changes_of copy) u ≡ false
    has_none copy (Absent e empty) = ap (λ c. has_change (changes_of c) u) e
    has_none copy (Settled held e changes content) = ap (λ c. has_change (changes_of c) u) e ∙ ap (λ l. has_change l u) changes ∙ unlisted
    has_none copy (Ahead held v e a) = ap (λ c. has_change (changes_of c) u) e ∙ ap (λ l. has_change l u) a.changes ∙ ap (λ b. b || has_change (adopted_on m cell) u) (not_that v a.unsettled) ∙ unlisted

-- ---- from one state on

-- what is drawn stays so, with its cells
drawn_later : (size : Size) (m new : State) → IsLater size m new → m.drawn ≤ new.drawn
drawn_later size m new IsLater.Now = omega arith
drawn_later size m new (IsLater.Further old step later allowed) = let a = drawn_later size m old later in let b = drawn_goes size old step allowed in omega (arith, a, b)

cells_later : (size : Size) (m new : State) (u : ℕ) → u ≤ m.drawn → IsLater size m new → (new.changes u).cells ≡ (m.changes u).cells
cells_later size m new u low IsLater.Now = refl
cells_later size m new u low (IsLater.Further old step later allowed) = cells_stay size old step allowed u (let a = drawn_later size m old later in omega (arith, a, low)) ∙ cells_later size m old u low later

pub good_has_verdicts : EveryGoodCopyHasVerdicts
good_has_verdicts size m new is_size r later u i cell touches good = record {
  adopted = λ is. has_adopted size new (later_reached size m new r later) u i cell (touched (λ e. absurd (let no : Adopted ≡ Undrawn = sym is ∙ e in cc))) ((verdicts_stand size m new is_size r later).decided u true is) ((new.bricks i).store cell).copy good;
  dropped = λ is. has_none size new (later_reached size m new r later) u i cell (touched (λ e. absurd (let no : Dropped ≡ Undrawn = sym is ∙ e in cc))) ((verdicts_stand size m new is_size r later).decided u false is) ((new.bricks i).store cell).copy good;
} where
  touched : (m.changes u).verdict ≢ Undrawn → has_cell (new.changes u).cells cell ≡ true
  touched some = ap (λ cs. has_cell cs cell) (cells_later size m new u (drawn size m r u i cell touches some) later) ∙ touches

-- ---- copies

pub confirmed_equals_source : EveryConfirmedEqualsSource
confirmed_equals_source size m r t k run cell copies done = record {
  source = f.source;
  is_source = f.is_source;
  same = λ sink source. p.stands sink ∙ sym (f.stands source);
} where
  p : IsReplacedAt m t k run cell
  p = (copies_stand size m r).replaced t run copies k cell done

  f : IsFetched m t run cell p.found
  f = (copies_stand size m r).fetched t run copies cell p.found p.fetched
