-- The places of names, from the back.
use Rattle.std.proofs.Common.{◌≡◌, ℕ, zero, suc, ◌+◌, ◌<◌, ◌≤◌, Bool, true, false, cond, List, [], ◌∷◌, length, drop, get_or, Option, Some, None, refl, sym, ap, ◌∙◌, arith}
use Rattle.std.specs.Option.{option_map}
use Rattle.std.proofs.lemmas.List.{drop_more, drop_all}
use Rattle.volfile.specs.TextLines.{is_text}
use Rattle.volfile.specs.VolumeNames.{Places, place_in, place_of}
use Rattle.volfile.specs.declared.volumes.Volume.{Volume}
use Rattle.graph_build.proofs.OptionLemmas.{later, later_suc, later_zero}

here_or_later : (b : Bool) (n : ℕ) (r : Option ℕ) → later n (cond b (Some 0) (option_map suc r)) ≡ cond b (Some n) (later (n + 1) r)
here_or_later true n r = ap Some (omega arith)
here_or_later false n r = later_suc n r

pub name_step : (vs : List Volume) (old new : Places) (at n : ℕ) (v d : Volume) (name : List ℕ) → at ≡ n + 1 → n < length vs → v ≡ get_or vs n d → name ≡ v.name
    → ((q : List ℕ) → place_in old q ≡ later at (place_of q (drop at vs))) → ((q : List ℕ) → place_in new q ≡ cond (is_text q name) (Some n) (place_in old q))
    → (q : List ℕ) → place_in new q ≡ later n (place_of q (drop n vs))
name_step vs old new at n v d name place within is named before added q =
    added q ∙ ap (λ l. cond (is_text q l) (Some n) (place_in old q)) (named ∙ ap (λ (u : Volume). u.name) is)
    ∙ ap (λ (t : Option ℕ). cond (is_text q (get_or vs n d).name) (Some n) t) (before q ∙ ap (λ k. later k (place_of q (drop k vs))) place)
    ∙ sym (here_or_later (is_text q (get_or vs n d).name) n (place_of q (drop (n + 1) vs))) ∙ ap (λ l. later n (place_of q l)) (sym (drop_more vs n d within))

pub no_names : (vs : List Volume) (names : Places) → ((q : List ℕ) → place_in names q ≡ None) → (q : List ℕ) → place_in names q ≡ later (length vs) (place_of q (drop (length vs) vs))
no_names vs names none q = none q ∙ ap (λ l. later (length vs) (place_of q l)) (sym (drop_all (length vs) vs (omega arith)))

pub all_names : (vs : List Volume) (names : Places) (at : ℕ) → at ≤ 0 → ((q : List ℕ) → place_in names q ≡ later at (place_of q (drop at vs))) → (q : List ℕ) → place_in names q ≡ place_of q vs
all_names vs names zero h before q = before q ∙ later_zero (place_of q vs)
all_names vs names (suc n) h before q = absurd (omega (arith, h))

pub place_below : (vs : List Volume) (q : List ℕ) (p : ℕ) → place_of q vs ≡ Some p → p < length vs
place_below [] q p e = absurd cc
place_below (v ∷ vs) q p e = by_case (is_text q v.name) (place_of q vs) (place_below vs q) e
  where
    by_case : (b : Bool) (o : Option ℕ) → ((p : ℕ) → o ≡ Some p → p < length vs) → cond b (Some 0) (option_map suc o) ≡ Some p → p < suc (length vs)
    by_case true o rest e = omega (arith, same 0 p e)
      where
        same : (a b : ℕ) → ◌≡◌ {A = Option ℕ} (Some a) (Some b) → a ≡ b
        same a b e = cc
    by_case false None rest e = absurd cc
    by_case false (Some n) rest e = omega (arith, same (suc n) p e, rest n refl)
      where
        same : (a b : ℕ) → ◌≡◌ {A = Option ℕ} (Some a) (Some b) → a ≡ b
        same a b e = cc
