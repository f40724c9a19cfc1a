-- Lookups of paths, as the code counts and cuts them.
use Rattle.std.proofs.Common.{◌≡◌, ◌∷◌, ◌++◌, append-nil, refl, ap, sym, subst, ◌∙◌, ℕ, ◌+◌, ◌-◌, ◌==◌, suc, zero, ◌<◌, ◌≤◌, List, [], length, take, drop, get_or, arith}
use Rattle.std.proofs.lemmas.Option.{slice_get_past}
use Rattle.std.specs.Prelude.{Some, None, slice_get}
use Rattle.fop_types.specs.Calls.{looked_up, lookups}
use Rattle.fop_types.specs.declared.calls.Call.{Call}
use Rattle.fop_types.specs.declared.calls.Call.TheVariants as call
use Rattle.fop_types.specs.declared.cells.Gfid.{Gfid}
use Rattle.call_fops.specs.Walks.{first_path, second_path}
use Rattle.fop_types.specs.declared.flat.FlatOp.{FlatOp}
use Rattle.fop_types.specs.declared.flat.FlatOp.TheVariants.{Lookup}
use Rattle.history_replay.proofs.Basics.{some_is, get_read}
use Rattle.history_replay.specs.code.Cases.{last_found}
use Rattle.history_replay.specs.code.Claims.{path_claims, path_end, next_in}
use Rattle.history_replay.specs.declared.claims.Claim.{Claim}
use Rattle.history_replay.specs.declared.claims.Claim.TheVariants as claim

pub lookups_is : (c : Call) → lookups (looked_up c) ≡ length (first_path (looked_up c)) + length (second_path (looked_up c))
lookups_is (call.Mkdir path mode) = refl
lookups_is (call.Rmdir path) = refl
lookups_is (call.Create fd path mode) = refl
lookups_is (call.Unlink path) = refl
lookups_is (call.Rename path target) = omega arith
lookups_is (call.Open fd path) = refl
lookups_is (call.Stat path) = refl
lookups_is (call.List path) = refl
lookups_is (call.Chmod path mode) = refl
lookups_is (call.Truncate path size) = refl
lookups_is (call.SetAttr path attr) = refl
lookups_is (call.GetAttr path name) = refl
lookups_is (call.DelAttr path name) = refl
lookups_is (call.Read fd count) = refl
lookups_is (call.Write fd bytes) = refl
lookups_is (call.Seek fd offset) = refl
lookups_is (call.Close fd) = refl

-- ---- a loop over the lookups of a path

drop_after : {X : Type 0} (xs : List X) (i : ℕ) (x : X) → slice_get xs i ≡ Some x → drop i xs ≡ x ∷ drop (suc i) xs
drop_after [] i x h = absurd cc
drop_after (y ∷ xs) zero x h = ap (λ z. z ∷ xs) (some_is y x h)
drop_after (y ∷ xs) (suc i) x h = drop_after xs i x h

drop_at : {X : Type 0} (xs : List X) (i : ℕ) (x : X) → slice_get xs i ≡ Some x → drop i xs ≡ x ∷ drop (i + 1) xs
drop_at xs i x h =
    let one : suc i ≡ i + 1 = omega arith in drop_after xs i x h ∙ ap (λ (n : ℕ). x ∷ drop n xs) one

drop_none : {X : Type 0} (xs : List X) (i : ℕ) → slice_get xs i ≡ None → drop i xs ≡ []
drop_none [] zero h = refl
drop_none [] (suc i) h = refl
drop_none (y ∷ xs) zero h = absurd cc
drop_none (y ∷ xs) (suc i) h = drop_none xs i h

pub claims_next : (path : List (List ℕ)) (places : List ℕ) (found : List Gfid) (i : ℕ) (name : List ℕ) (place : ℕ) (gfid at : Gfid)
    → slice_get path i ≡ Some name → slice_get places i ≡ Some place → slice_get found i ≡ Some gfid
    → path_claims (drop i path) at (drop i places) (drop i found)
    ≡ claim.Finds place at name gfid ∷ path_claims (drop (i + 1) path) gfid (drop (i + 1) places) (drop (i + 1) found)
claims_next path places found i name place gfid at n p g = rw (drop_at path i name n) (rw (drop_at places i place p) (rw (drop_at found i gfid g) refl))

pub end_next : (path : List (List ℕ)) (places : List ℕ) (found : List Gfid) (i : ℕ) (name : List ℕ) (place : ℕ) (gfid at : Gfid)
    → slice_get path i ≡ Some name → slice_get places i ≡ Some place → slice_get found i ≡ Some gfid
    → path_end (drop i path) at (drop i places) (drop i found) ≡ path_end (drop (i + 1) path) gfid (drop (i + 1) places) (drop (i + 1) found)
end_next path places found i name place gfid at n p g = rw (drop_at path i name n) (rw (drop_at places i place p) (rw (drop_at found i gfid g) refl))

no_place : (path : List (List ℕ)) (at : Gfid) (found : List Gfid) → (path_claims path at [] found ≡ []) × (path_end path at [] found ≡ at)
no_place [] at found = (refl, refl)
no_place (name ∷ names) at found = (refl, refl)

no_object : (path : List (List ℕ)) (at : Gfid) (places : List ℕ) → (path_claims path at places [] ≡ []) × (path_end path at places [] ≡ at)
no_object [] at places = (refl, refl)
no_object (name ∷ names) at [] = (refl, refl)
no_object (name ∷ names) at (place ∷ places) = (refl, refl)

pub stops_at_place : (path : List (List ℕ)) (places : List ℕ) (found : List Gfid) (i : ℕ) (at : Gfid) → slice_get places i ≡ None
    → (path_claims (drop i path) at (drop i places) (drop i found) ≡ []) × (path_end (drop i path) at (drop i places) (drop i found) ≡ at)
stops_at_place path places found i at h =
    subst (λ (l : List ℕ). (path_claims (drop i path) at l (drop i found) ≡ []) × (path_end (drop i path) at l (drop i found) ≡ at)) (sym (drop_none places i h))
    (no_place (drop i path) at (drop i found))

pub stops_at_object : (path : List (List ℕ)) (places : List ℕ) (found : List Gfid) (i : ℕ) (at : Gfid) → slice_get found i ≡ None
    → (path_claims (drop i path) at (drop i places) (drop i found) ≡ []) × (path_end (drop i path) at (drop i places) (drop i found) ≡ at)
stops_at_object path places found i at h =
    subst (λ (l : List Gfid). (path_claims (drop i path) at (drop i places) l ≡ []) × (path_end (drop i path) at (drop i places) l ≡ at)) (sym (drop_none found i h))
    (no_object (drop i path) at (drop i places))

-- ---- the next lookup

pub next_is : (path : List (List ℕ)) (at : Gfid) (found : List Gfid) (other : FlatOp) (name : List ℕ) → slice_get path (length found) ≡ Some name
    → next_in path at found other ≡ Lookup (last_found at found) name
next_is [] at found other name h = absurd cc
next_is (n ∷ names) at [] other name h = ap (Lookup at) (some_is n name h)
next_is (n ∷ names) at (gfid ∷ found) other name h = next_is names gfid found other name h

pub next_none : (path : List (List ℕ)) (at : Gfid) (found : List Gfid) (other : FlatOp) → slice_get path (length found) ≡ None → next_in path at found other ≡ other
next_none [] at found other h = refl
next_none (n ∷ names) at [] other h = absurd cc
next_none (n ∷ names) at (gfid ∷ found) other h = next_none names gfid found other h

pub next_there : (path : List (List ℕ)) (at parent : Gfid) (found : List Gfid) (other : FlatOp) (name copy : List ℕ) → length found < length path
    → name ≡ get_or path (length found) name → copy ≡ name → parent ≡ last_found at found → Lookup parent copy ≡ next_in path at found other
next_there path at parent found other name copy within read copied parent_is =
    ap (λ (g : Gfid). Lookup g copy) parent_is ∙ ap (Lookup (last_found at found)) copied
    ∙ sym (next_is path at found other name (get_read path (length found) name within read))

pub next_past : (path : List (List ℕ)) (at : Gfid) (found : List Gfid) (other : FlatOp) → length path ≤ length found → other ≡ next_in path at found other
next_past path at found other past = sym (next_none path at found other (slice_get_past path (length found) past))

-- ---- where a loop over the lookups of a path ends

pub end_without_place : (path : List (List ℕ)) (places : List ℕ) (found : List Gfid) (i : ℕ) (at last : Gfid) → slice_get places i ≡ None
    → path_end (drop i path) at (drop i places) (drop i found) ≡ last → at ≡ last
end_without_place path places found i at last none so_far = sym (stops_at_place path places found i at none).1 ∙ so_far

pub end_without_object : (path : List (List ℕ)) (places : List ℕ) (found : List Gfid) (i : ℕ) (at last : Gfid) → slice_get found i ≡ None
    → path_end (drop i path) at (drop i places) (drop i found) ≡ last → at ≡ last
end_without_object path places found i at last none so_far = sym (stops_at_object path places found i at none).1 ∙ so_far

pub claims_without_place : (path : List (List ℕ)) (places : List ℕ) (found : List Gfid) (i : ℕ) (at : Gfid) (claims all : List Claim) → slice_get places i ≡ None
    → claims ++ path_claims (drop i path) at (drop i places) (drop i found) ≡ all → claims ≡ all
claims_without_place path places found i at claims all none so_far =
    sym (append-nil claims) ∙ ap (λ (l : List Claim). claims ++ l) (sym (stops_at_place path places found i at none).0) ∙ so_far

pub claims_without_object : (path : List (List ℕ)) (places : List ℕ) (found : List Gfid) (i : ℕ) (at : Gfid) (claims all : List Claim) → slice_get found i ≡ None
    → claims ++ path_claims (drop i path) at (drop i places) (drop i found) ≡ all → claims ≡ all
claims_without_object path places found i at claims all none so_far =
    sym (append-nil claims) ∙ ap (λ (l : List Claim). claims ++ l) (sym (stops_at_object path places found i at none).0) ∙ so_far
