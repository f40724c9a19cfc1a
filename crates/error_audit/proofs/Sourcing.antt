-- No source, from what the tests find.
use Rattle.std.proofs.Common.{◌≡◌, refl, sym, ap, subst, ◌∙◌, arith, get_or, inl, inr}
use Rattle.std.specs.Prelude.{ℕ, ◌+◌, ◌<◌, ◌==◌, ◌⊎◌, Bool, true, false, List, [], ◌∷◌, ◌++◌, Option, Some, Contains, length, slice_get, take}
use Rattle.std.proofs.lemmas.Bool.{eqb-true}
use Rattle.std.proofs.lemmas.List.{take_more}
use Rattle.std.proofs.lemmas.List.Elements.{All-contains, All-push, All-from_recursion, Contains-append_left, Contains-get_or, Contains-push, Contains-push_cases}
use Rattle.afr_changelog.specs.Masks.{Names, IsCommon}
use Rattle.fop_types.specs.declared.cells.Cell.{Cell}
use Rattle.fop_types.specs.declared.contents.Mask.{Mask}
use Rattle.fop_types.specs.declared.contents.Row.{Row}
use Rattle.fop_types.specs.declared.jobs.SetPlan.{SetPlan}
use Rattle.fop_types.specs.declared.messages.Input.{Input}
use Rattle.wire_messages.specs.Messages.{input_in}
use Rattle.wire_messages.specs.declared.messages.Message.{Message}
use Rattle.wire_messages.specs.declared.messages.Message.TheVariants.{Whole, Wrong}
use Rattle.mount_log.specs.Causes.{IsMarked, IsSoundAt, HasNoSource, OfCell, OfChange}
use Rattle.mount_log.specs.declared.logs.Log.{Log}
use Rattle.mount_log.specs.declared.logs.SentLine.{SentLine}
use Rattle.error_audit.specs.Showing.{IsMarkOn, IsMarkedAt, HasMark, HasUnsoundCell}

pub marked : (log : Log) (plan : SetPlan) (before at : ℕ) (cells : List Cell) (line : SentLine) → at < before → slice_get log.sent at ≡ Some line → Contains plan.bricks line.brick → IsMarkOn cells (input_in line.bytes)
    → IsMarked log plan before cells
marked log plan before at cells line lt there member on = by (input_in line.bytes) refl on where
  by : (m : Message Input) → input_in line.bytes ≡ m → IsMarkOn cells m → IsMarked log plan before cells
  by (Whole x) e m = record { at = at; earlier = lt; line = line; there = there; member = member; wind = m.wind; graph = m.graph; change = m.change; read = e ∙ ap Whole m.is }
  by (Wrong place) e m = absurd m

-- ---- soundness

-- a replica that a mask names is common to the mask alone
pub one_common : (masks : List Mask) (mask : Mask) (k : ℕ) → masks ≡ mask ∷ [] → Names mask k → IsCommon masks k
one_common masks mask k is own = subst (λ (l : List Mask). IsCommon l k) (sym is) (All-from_recursion (λ (m : Mask). Names m k) (mask ∷ []) (own, record {}))

pub of_one : (mask : Mask) (k : ℕ) → IsCommon (mask ∷ []) k → Names mask k
of_one mask k all = all 0 mask (omega arith)

pub next_common : (masks : List Mask) (mask : Mask) (k : ℕ) → IsCommon masks k → Names mask k → IsCommon (masks ++ mask ∷ []) k
next_common masks mask k all own = All-push (λ (m : Mask). Names m k) masks mask all own

pub no_common : (k : ℕ) → IsCommon [] k
no_common k = All-from_recursion (λ (m : Mask). Names m k) [] (record {})

-- masks of which there is none have all in common
pub are_masks : (masks : List Mask) (empty : Bool) → empty ≡ (length masks == 0) → empty ≡ true → ((k : ℕ) → IsCommon masks k → ⊥) → ⊥
are_masks [] empty is so none = none 0 (no_common 0)
are_masks (mask ∷ masks) empty is so none = absurd (let e = eqb-true (length (mask ∷ masks)) 0 (sym is ∙ so) in omega (arith, e))

-- the masks so far, and that of one place more
pub next_mask : (plan : SetPlan) (shown : List (Option (List Row))) (places : List ℕ) (i d : ℕ) (masks more : List Mask) (mask : Mask) → i < length places → more ≡ masks ++ mask ∷ []
    → ((k : ℕ) → ((place : ℕ) → Contains places place → IsSoundAt plan shown k place) → IsCommon masks k) → ((k : ℕ) → IsSoundAt plan shown k (get_or places i d) → Names mask k)
    → (k : ℕ) → ((place : ℕ) → Contains places place → IsSoundAt plan shown k place) → IsCommon more k
next_mask plan shown places i d masks more mask lt is before own k all =
    subst (λ (l : List Mask). IsCommon l k) (sym is) (next_common masks mask k (before k all) (own k (all (get_or places i d) (Contains-get_or places i d lt))))

-- what the masks so far name is sound, and that of one place more
module _ (plan : SetPlan) (shown : List (Option (List Row))) (places : List ℕ) (i d : ℕ) (masks more : List Mask) (mask : Mask) (lt : i < length places) (is : more ≡ masks ++ mask ∷ [])
    (before : (k : ℕ) → IsCommon masks k → (place : ℕ) → Contains (take i places) place → IsSoundAt plan shown k place) (own : (k : ℕ) → Names mask k → IsSoundAt plan shown k (get_or places i d)) where
  pub next_sound : (k : ℕ) → IsCommon more k → (place : ℕ) → Contains (take (i + 1) places) place → IsSoundAt plan shown k place
  next_sound k all place among = by (Contains-push_cases (take i places) (get_or places i d) place (subst (λ (l : List ℕ). Contains l place) (take_more places i d lt) among)) where
    whole : IsCommon (masks ++ mask ∷ []) k
    whole = subst (λ (l : List Mask). IsCommon l k) is all

    by : Contains (take i places) place ⊎ (get_or places i d ≡ place) → IsSoundAt plan shown k place
    by (inl there) =
        before k
        (λ j e low. All-contains (λ (m : Mask). Names m k) (masks ++ mask ∷ []) (get_or masks j e) whole (Contains-append_left masks (mask ∷ []) (get_or masks j e) (Contains-get_or masks j e low)))
        place there
    by (inr same) = subst (IsSoundAt plan shown k) same (own k (All-contains (λ (m : Mask). Names m k) (masks ++ mask ∷ []) mask whole (Contains-push masks mask)))

pub unsound : (plan : SetPlan) (shown : List (Option (List Row))) (places : List ℕ) (i d : ℕ) → i < length places → ((k : ℕ) → IsSoundAt plan shown k (get_or places i d) → ⊥) → HasUnsoundCell plan shown places
unsound plan shown places i d lt none = record { place = get_or places i d; among = Contains-get_or places i d lt; none = none }

pub has_mark : (log : Log) (plan : SetPlan) (before : ℕ) (cells : List Cell) (places : List ℕ) (i d : ℕ) → i < length places → IsMarkedAt log plan before cells (get_or places i d) → HasMark log plan before cells places
has_mark log plan before cells places i d lt own = record { at = get_or places i d; among = Contains-get_or places i d lt; marked = own }

-- where each cell has a sound replica
pub of_change : (log : Log) (plan : SetPlan) (from : ℕ) (cells : List Cell) (shown : List (Option (List Row))) (places : List ℕ) (has : Bool) → (HasUnsoundCell plan shown places → has ≡ true) → has ≡ false
    → HasNoSource log plan from cells shown places → IsMarked log plan from cells × ((replica : ℕ) → ((place : ℕ) → Contains places place → IsSoundAt plan shown replica place) → ⊥)
of_change log plan from cells shown places has found was (OfCell place among none) = absurd (let yes = found (record { place = place; among = among; none = none }) in cc)
of_change log plan from cells shown places has found was (OfChange marked none) = (marked, none)
