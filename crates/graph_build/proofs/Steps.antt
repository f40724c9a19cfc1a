-- What one more volume adds to what is known, and what holds of all that is known because each volume keeps it.
use Rattle.std.proofs.Common.{◌≡◌, ℕ, suc, ◌+◌, ◌<◌, Bool, true, false, cond, leb, List, [], ◌∷◌, ◌++◌, append_assoc, append-nil, length, Option, Some, None, Result, Ok, Err, refl, sym, ap, subst, ◌∙◌}
use Rattle.std.specs.Prelude.{is_some}
use Rattle.std.specs.Cmp.{first_so, second_so}
use Rattle.std.specs.List.{AllByRecursion, list_all}
use Rattle.std.specs.Option.{option_map}
use Rattle.std.proofs.lemmas.Bool.{leb-false}
use Rattle.std.proofs.lemmas.List.{length_push}
use Rattle.volfile.specs.TextLines.{is_text}
use Rattle.volfile.specs.VolumeNames.{place_of}
use Rattle.volfile.specs.VolfileText.{is_defined}
use Rattle.volfile.specs.Volumes.{IsBlock, AreVolumes}
use Rattle.volfile.specs.declared.volumes.Volume.{Volume}
use Rattle.volfile.proofs.WellRead.{past, ok_same}
use Rattle.volfile.specs.declared.brick_lines.BrickLine.{BrickLine}
use Rattle.graph_build.specs.PlanRules.{or_zero, places_of, repeats, is_used, no_tree, gathered, grown, is_nested, bottom_of, role_of, info_as, info_of, known_then, infos_from}
use Rattle.graph_build.specs.declared.errors.PlanKind.{PlanKind}
use Rattle.graph_build.specs.declared.infos.Info.{Info}
use Rattle.graph_build.specs.declared.infos.Role.{Role}
use Rattle.graph_build.proofs.PlaceLemmas.{place_below}

pub record Step (bricks : List BrickLine) (known : List Info) (v : Volume) (below : List ℕ) (f : Info) : Type 0 where
  pub role : Role
  pub is_role : role_of bricks known v ≡ Ok role
  pub apart : repeats (is_used known) below ≡ false
  pub stands : is_nested role (gathered no_tree known below) ≡ false
  pub shallow : (gathered no_tree known below).depth < 24
  pub is : f ≡ record { role = role; below = below; bottom = bottom_of role known below; tree = grown role (gathered no_tree known below) }

pub step_of : (volumes : List Volume) (bricks : List BrickLine) (known : List Info) (v : Volume) (f : Info) → info_of volumes bricks known v ≡ Ok f → Step bricks known v (places_of volumes v.subvolumes) f
unfolding info_of
step_of volumes bricks known v f e = by_role (role_of bricks known v) refl e
  where
    by_role : (r : Result Role PlanKind) → role_of bricks known v ≡ r → info_as r known (places_of volumes v.subvolumes) ≡ Ok f → Step bricks known v (places_of volumes v.subvolumes) f
    by_role (Err kind) is e = absurd cc
    by_role (Ok role) is e =
        let below = places_of volumes v.subvolumes in
        let apart = past (repeats (is_used known) below) _ _ f e in
        let stands = past (is_nested role (gathered no_tree known below)) _ _ f apart.1 in
        let shallow = past (leb 24 (gathered no_tree known below).depth) _ _ f stands.1 in
        record { role = role; is_role = is; apart = apart.0; stands = stands.0; shallow = leb-false 24 (gathered no_tree known below).depth shallow.0; is = sym (ok_same _ _ shallow.1) }

-- ---- the places of subvolumes
some_case : (o : Option ℕ) → is_some o ≡ true → (n : ℕ) × (o ≡ Some n)
some_case None e = absurd cc
some_case (Some n) e = (n, refl)

pub place_within : (done more : List Volume) (name : List ℕ) (p : ℕ) → place_of name done ≡ Some p → place_of name (done ++ more) ≡ Some p
place_within [] more name p e = absurd cc
place_within (v ∷ vs) more name p e = by_test (is_text name v.name) (place_of name vs) (place_of name (vs ++ more)) (place_within vs more name) e
  where
    by_test : (b : Bool) (o q : Option ℕ) → ((k : ℕ) → o ≡ Some k → q ≡ Some k) → cond b (Some 0) (option_map suc o) ≡ Some p → cond b (Some 0) (option_map suc q) ≡ Some p
    by_test true o q same e = e
    by_test false None q same e = absurd cc
    by_test false (Some k) q same e = ap (option_map suc) (same k refl) ∙ e

pub places_within : (done more : List Volume) (names : List (List ℕ)) → list_all (is_defined done) names ≡ true → AllByRecursion (λ p. p < length done) (places_of (done ++ more) names)
places_within done more [] h = tt
places_within done more (name ∷ names) h =
    let here = some_case (place_of name done) (first_so (is_defined done name) (list_all (is_defined done) names) h) in
    let at : place_of name (done ++ more) ≡ Some here.0 = place_within done more name here.0 here.1 in
    (subst (λ (o : Option ℕ). or_zero o < length done) (sym at) (place_below done name here.0 here.1), places_within done more names (second_so (is_defined done name) (list_all (is_defined done) names) h))

pub length-places_of : (volumes : List Volume) (names : List (List ℕ)) → length (places_of volumes names) ≡ length names
length-places_of volumes [] = refl
length-places_of volumes (name ∷ names) = ap suc (length-places_of volumes names)

-- ---- what each volume keeps
module _ (volumes : List Volume) (bricks : List BrickLine) (P : List Info → Type 0)
    (step : (known : List Info) (done rest : List Volume) (v : Volume) (f : Info) → volumes ≡ done ++ v ∷ rest → length known ≡ length done → IsBlock done v → P known
    → Step bricks known v (places_of volumes v.subvolumes) f → P (known ++ f ∷ [])) where
  pub all_kept : (known : List Info) (done rest : List Volume) → volumes ≡ done ++ rest → length known ≡ length done → AreVolumes done rest → P known → (infos : List Info) → infos_from volumes bricks known rest ≡ Ok infos
      → P infos × (length infos ≡ length volumes)
  all_kept known done [] is size each h infos e =
      let same : known ≡ infos = ok_same _ _ e in
      let all : length volumes ≡ length done = ap length (is ∙ append-nil done) in (subst P same h, ap length (sym same) ∙ size ∙ sym all)
  all_kept known done (v ∷ rest) is size each h infos e = by_info (info_of volumes bricks known v) (λ f at. step known done rest v f is size each.0 h (step_of volumes bricks known v f at))
      (λ f k more. all_kept (known ++ f ∷ []) (done ++ v ∷ []) rest (is ∙ sym (append_assoc done (v ∷ []) rest)) (length_push known f ∙ ap (λ n. n + 1) size ∙ sym (length_push done v)) each.2 k infos more) e
    where
      by_info : (r : Result Info PlanKind) → ((f : Info) → r ≡ Ok f → P (known ++ f ∷ [])) → ((f : Info) → P (known ++ f ∷ []) → infos_from volumes bricks (known ++ f ∷ []) rest ≡ Ok infos → P infos × (length infos ≡ length volumes))
          → known_then r known (λ more. infos_from volumes bricks more rest) ≡ Ok infos → P infos × (length infos ≡ length volumes)
      by_info (Err kind) kept more e = absurd cc
      by_info (Ok f) kept more e = more f (kept f refl) e
