-- Claims of lookups that hold give the walk: to where they lead, to the error of the next lookup, or further than there are
-- places.
use Rattle.std.proofs.Common.{◌≡◌, ◌∷◌, ◌++◌, refl, sym, ap, subst, ◌∙◌, ℕ, ◌+◌, ◌-◌, ◌<◌, ◌≤◌, ◌⊎◌, inl, inr, suc, List, [], length, take, drop, get_or, arith, add-zero, length-drop, drop-drop, get_or-drop}
use Rattle.std.proofs.Math.Seq.{drop-length}
use Rattle.std.specs.Prelude.{Some, None}
use Rattle.std.proofs.lemmas.Bool.{cases_lt}
use Rattle.fop_types.specs.Calls.{looked_up, lookups}
use Rattle.fop_types.specs.Cells.{root}
use Rattle.fop_types.specs.Flat.{flat_answer}
use Rattle.fop_types.specs.History.{Reply, Walk, walk, walk_path, after_lookup, after_path, with_found, fs_after}
use Rattle.fop_types.specs.History.Walk.{Reached, Stopped, Short}
use Rattle.fop_types.specs.declared.answers.Answer.TheVariants as answers
use Rattle.fop_types.specs.declared.answers.AppError.{AppError}
use Rattle.fop_types.specs.declared.calls.Call.{Call}
use Rattle.fop_types.specs.declared.calls.Call.TheVariants as call
use Rattle.fop_types.specs.declared.cells.Gfid.{Gfid}
use Rattle.fop_types.specs.declared.flat.FlatAnswer.{FlatAnswer}
use Rattle.fop_types.specs.declared.flat.FlatAnswer.TheVariants as flat_answers
use Rattle.fop_types.specs.declared.flat.FlatOp.{FlatOp}
use Rattle.fop_types.specs.declared.flat.FlatOp.TheVariants.{Lookup}
use Rattle.call_fops.specs.Walks.{first_path, second_path}
use Rattle.history_replay.specs.code.Claims.{IsFound, AreHeld, path_claims, path_end, walk_claims, walk_ends, next_in, next_lookup}
use Rattle.history_replay.specs.declared.claims.Claim.{Claim}

pub held_parts : (ops : List FlatOp) (replies : List Reply) (xs ys : List Claim) → AreHeld ops replies (xs ++ ys) → AreHeld ops replies xs × AreHeld ops replies ys
held_parts ops replies [] ys h = (tt, h)
held_parts ops replies (x ∷ xs) ys h = let rest = held_parts ops replies xs ys h.1 in ((h.0, rest.0), rest.1)

after_found : (a : FlatAnswer) (gfid : Gfid) (places : List ℕ) (more : Gfid → Walk) → IsFound gfid a → after_lookup a places more ≡ more gfid
after_found (flat_answers.Found found kind) gfid places more h = ap more h
after_found (flat_answers.Call a) gfid places more h = absurd h

-- ---- one path

module _ (ops : List FlatOp) (replies : List Reply) where
  pub path_whole : (path : List (List ℕ)) (at : Gfid) (places : List ℕ) (found : List Gfid) → length path ≤ length places → length path ≤ length found
      → AreHeld ops replies (path_claims path at places found)
      → walk_path (fs_after ops) path at places ≡ Reached (path_end path at places found ∷ []) (drop (length path) places)
  path_whole [] at places found p f h = refl
  path_whole (name ∷ names) at [] found p f h = absurd (omega (arith, p))
  path_whole (name ∷ names) at (place ∷ places) [] p f h = absurd (omega (arith, f))
  path_whole (name ∷ names) at (place ∷ places) (gfid ∷ found) p f h =
      after_found (flat_answer (fs_after ops place) (Lookup at name)) gfid places (λ g. walk_path (fs_after ops) names g places) h.0
      ∙ path_whole names gfid places found (omega (arith, p)) (omega (arith, f)) h.1

  pub path_short : (path : List (List ℕ)) (at : Gfid) (places : List ℕ) (found : List Gfid) → length places < length path → length places ≤ length found
      → AreHeld ops replies (path_claims path at places found) → walk_path (fs_after ops) path at places ≡ Short
  path_short [] at places found p f h = absurd (omega (arith, p))
  path_short (name ∷ names) at [] found p f h = refl
  path_short (name ∷ names) at (place ∷ places) [] p f h = absurd (omega (arith, f))
  path_short (name ∷ names) at (place ∷ places) (gfid ∷ found) p f h =
      after_found (flat_answer (fs_after ops place) (Lookup at name)) gfid places (λ g. walk_path (fs_after ops) names g places) h.0
      ∙ path_short names gfid places found (omega (arith, p)) (omega (arith, f)) h.1

  pub path_stops : (path : List (List ℕ)) (at : Gfid) (places : List ℕ) (found : List Gfid) (other : FlatOp) (e : AppError)
      → length found < length path → length found < length places
      → AreHeld ops replies (path_claims path at places found)
      → flat_answer (fs_after ops (get_or places (length found) 0)) (next_in path at found other) ≡ flat_answers.Call (answers.App e)
      → walk_path (fs_after ops) path at places ≡ Stopped e (drop (suc (length found)) places)
  path_stops [] at places found other e p f h a = absurd (omega (arith, p))
  path_stops (name ∷ names) at [] found other e p f h a = absurd (omega (arith, f))
  path_stops (name ∷ names) at (place ∷ places) [] other e p f h a =
      ap (λ (x : FlatAnswer). after_lookup x places (λ g. walk_path (fs_after ops) names g places)) a
  path_stops (name ∷ names) at (place ∷ places) (gfid ∷ found) other e p f h a =
      after_found (flat_answer (fs_after ops place) (Lookup at name)) gfid places (λ g. walk_path (fs_after ops) names g places) h.0
      ∙ path_stops names gfid places found other e (omega (arith, p)) (omega (arith, f)) h.1 a

next_past : (path : List (List ℕ)) (at : Gfid) (found : List Gfid) (other : FlatOp) → length path ≤ length found → next_in path at found other ≡ other
next_past [] at found other p = refl
next_past (name ∷ names) at [] other p = absurd (omega (arith, p))
next_past (name ∷ names) at (gfid ∷ found) other p = next_past names gfid found other (omega (arith, p))

-- ---- all paths of a call, which are at most two

abbrev pub AreFew : List (List (List ℕ)) → Type 0
AreFew [] = Unit {0}
AreFew (path ∷ []) = Unit {0}
AreFew (path ∷ other ∷ []) = Unit {0}
AreFew (path ∷ other ∷ third ∷ paths) = ⊥

pub few_paths : (c : Call) → AreFew (looked_up c)
few_paths (call.Mkdir path mode) = tt
few_paths (call.Rmdir path) = tt
few_paths (call.Create fd path mode) = tt
few_paths (call.Unlink path) = tt
few_paths (call.Rename path target) = tt
few_paths (call.Open fd path) = tt
few_paths (call.Stat path) = tt
few_paths (call.List path) = tt
few_paths (call.Chmod path mode) = tt
few_paths (call.Truncate path size) = tt
few_paths (call.SetAttr path attr) = tt
few_paths (call.GetAttr path name) = tt
few_paths (call.DelAttr path name) = tt
few_paths (call.Read fd count) = tt
few_paths (call.Write fd bytes) = tt
few_paths (call.Seek fd offset) = tt
few_paths (call.Close fd) = tt

behind_two : (path other : List (List ℕ)) (places : List ℕ) → drop (length other) (drop (length path) places) ≡ drop (length path + (length other + 0)) places
behind_two path other places =
    drop-drop (length other) (length path) places
    ∙ (let same : length path + length other ≡ length path + (length other + 0) = omega arith in ap (λ (n : ℕ). drop n places) same)

none_left : (places : List ℕ) (found : List Gfid) → length places ≡ length found + 1 → drop (suc (length found)) places ≡ []
none_left places found f =
    let one : suc (length found) ≡ length places = omega (arith, f) in
    ap (λ (n : ℕ). drop n places) one ∙ drop-length places

module _ (ops : List FlatOp) (replies : List Reply) where
  pub walk_whole : (paths : List (List (List ℕ))) (places : List ℕ) (found : List Gfid) → AreFew paths
      → lookups paths ≤ length places → length found ≡ lookups paths → AreHeld ops replies (walk_claims paths places found)
      → walk (fs_after ops) paths places ≡ Reached (walk_ends paths places found) (drop (lookups paths) places)
  walk_whole [] places found few p f h = refl
  walk_whole (path ∷ []) places found few p f h =
      let all : length path ≡ length path + 0 = omega arith in
      let fits : length path + 0 ≤ length places = p in
      let many : length found ≡ length path + 0 = f in
      let parts = held_parts ops replies (path_claims path root places found) _ h in
      ap (λ (w : Walk). after_path w (λ rest. walk (fs_after ops) [] rest))
      (path_whole ops replies path root places found (omega (arith, fits)) (omega (arith, many)) parts.0)
      ∙ ap (λ (n : ℕ). Reached (walk_ends (path ∷ []) places found) (drop n places)) all
  walk_whole (path ∷ other ∷ []) places found few lp lf h =
      let p : length path + (length other + 0) ≤ length places = lp in
      let f : length found ≡ length path + (length other + 0) = lf in
      let parts = held_parts ops replies (path_claims path root places found) _ h in
      let first = path_whole ops replies path root places found (omega (arith, p)) (omega (arith, f)) parts.0 in
      let second = path_whole ops replies other root (drop (length path) places) (drop (length path) found)
      (omega (arith, p, length-drop (length path) places)) (omega (arith, f, length-drop (length path) found)) parts.1 in
      ap (λ (w : Walk). after_path w (λ rest. walk (fs_after ops) (other ∷ []) rest)) first
      ∙ ap (λ (w : Walk). with_found (path_end path root places found ∷ []) (after_path w (λ rest. walk (fs_after ops) [] rest))) second
      ∙ ap (Reached (walk_ends (path ∷ other ∷ []) places found)) (behind_two path other places)
  walk_whole (path ∷ other ∷ third ∷ paths) places found few p f h = absurd few

  pub walk_short : (paths : List (List (List ℕ))) (places : List ℕ) (found : List Gfid) → AreFew paths
      → length places < lookups paths → length places ≡ length found → AreHeld ops replies (walk_claims paths places found)
      → walk (fs_after ops) paths places ≡ Short
  walk_short [] places found few p f h = let none : length places < 0 = p in absurd (omega (arith, none))
  walk_short (path ∷ []) places found few lp f h =
      let p : length places < length path + 0 = lp in
      let parts = held_parts ops replies (path_claims path root places found) _ h in
      ap (λ (w : Walk). after_path w (λ rest. walk (fs_after ops) [] rest))
      (path_short ops replies path root places found (omega (arith, p)) (omega (arith, f)) parts.0)
  walk_short (path ∷ other ∷ []) places found few lp f h = by_first (cases_lt (length places) (length path)) (held_parts ops replies (path_claims path root places found) _ h) where
    p : length places < length path + (length other + 0)
    p = lp

    by_first : (length places < length path) ⊎ (length path ≤ length places) → AreHeld ops replies (path_claims path root places found) × AreHeld ops replies (path_claims other root (drop (length path) places) (drop (length path) found)) → walk (fs_after ops) (path ∷ other ∷ []) places ≡ Short
    by_first (inl less) parts =
        ap (λ (w : Walk). after_path w (λ rest. walk (fs_after ops) (other ∷ []) rest))
        (path_short ops replies path root places found less (omega (arith, f)) parts.0)
    by_first (inr more) parts =
        ap (λ (w : Walk). after_path w (λ rest. walk (fs_after ops) (other ∷ []) rest))
        (path_whole ops replies path root places found more (omega (arith, f, more)) parts.0)
        ∙ ap (λ (w : Walk). with_found (path_end path root places found ∷ []) (after_path w (λ rest. walk (fs_after ops) [] rest)))
        (path_short ops replies other root (drop (length path) places) (drop (length path) found)
        (omega (arith, p, more, length-drop (length path) places))
        (omega (arith, f, more, length-drop (length path) places, length-drop (length path) found)) parts.1)
  walk_short (path ∷ other ∷ third ∷ paths) places found few p f h = absurd few

  pub walk_stops : (paths : List (List (List ℕ))) (places : List ℕ) (found : List Gfid) (e : AppError) → AreFew paths
      → length found < lookups paths → length places ≡ length found + 1 → AreHeld ops replies (walk_claims paths places found)
      → flat_answer (fs_after ops (get_or places (length found) 0)) (next_lookup paths found) ≡ flat_answers.Call (answers.App e)
      → walk (fs_after ops) paths places ≡ Stopped e []
  walk_stops [] places found e few p f h a = let none : length found < 0 = p in absurd (omega (arith, none))
  walk_stops (path ∷ []) places found e few lp f h a =
      let p : length found < length path + 0 = lp in
      let parts = held_parts ops replies (path_claims path root places found) _ h in
      ap (λ (w : Walk). after_path w (λ rest. walk (fs_after ops) [] rest))
      (path_stops ops replies path root places found _ e (omega (arith, p)) (omega (arith, f)) parts.0 a)
      ∙ ap (Stopped e) (none_left places found f)
  walk_stops (path ∷ other ∷ []) places found e few lp f h a = by_first (cases_lt (length found) (length path)) (held_parts ops replies (path_claims path root places found) _ h) where
    p : length found < length path + (length other + 0)
    p = lp

    by_first : (length found < length path) ⊎ (length path ≤ length found) → AreHeld ops replies (path_claims path root places found) × AreHeld ops replies (path_claims other root (drop (length path) places) (drop (length path) found)) → walk (fs_after ops) (path ∷ other ∷ []) places ≡ Stopped e []
    by_first (inl less) parts =
        ap (λ (w : Walk). after_path w (λ rest. walk (fs_after ops) (other ∷ []) rest))
        (path_stops ops replies path root places found _ e less (omega (arith, f)) parts.0 a)
        ∙ ap (Stopped e) (none_left places found f)
    by_first (inr more) parts =
        let left_places = length-drop (length path) places in
        let left_found = length-drop (length path) found in
        let index : length path + length (drop (length path) found) ≡ length found = omega (arith, left_found, more) in
        let place : get_or (drop (length path) places) (length (drop (length path) found)) 0 ≡ get_or places (length found) 0 =
        get_or-drop (length path) places (length (drop (length path) found)) 0 ∙ ap (λ (i : ℕ). get_or places i 0) index in
        let op_is = next_past path root found (next_in other root (drop (length path) found) (Lookup root [])) more in
        ap (λ (w : Walk). after_path w (λ rest. walk (fs_after ops) (other ∷ []) rest))
        (path_whole ops replies path root places found (omega (arith, f, more)) more parts.0)
        ∙ ap (λ (w : Walk). with_found (path_end path root places found ∷ []) (after_path w (λ rest. walk (fs_after ops) [] rest)))
        (path_stops ops replies other root (drop (length path) places) (drop (length path) found) (Lookup root []) e
        (omega (arith, p, more, left_found)) (omega (arith, f, more, left_places, left_found)) parts.1
        (ap (λ (n : ℕ). flat_answer (fs_after ops n) (next_in other root (drop (length path) found) (Lookup root []))) place
        ∙ ap (λ (o : FlatOp). flat_answer (fs_after ops (get_or places (length found) 0)) o) (sym op_is) ∙ a))
        ∙ ap (Stopped e) (none_left (drop (length path) places) (drop (length path) found) (omega (arith, f, more, left_places, left_found)))
  walk_stops (path ∷ other ∷ third ∷ paths) places found e few p f h a = absurd few
