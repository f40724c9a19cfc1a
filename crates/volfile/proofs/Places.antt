-- Names that were put into a map from names, and the same among the volumes.
use Rattle.std.proofs.Common.{◌≡◌, ℕ, suc, Bool, true, false, cond, List, [], ◌∷◌, ◌++◌, map, length, Option, Some, None, refl, sym, ◌∙◌, ap}
use Rattle.std.specs.Option.{option_map}
use Rattle.std.specs.declared.cmp.Ordering.TheVariants.{Less, Equal, Greater}
use Rattle.std.specs.Ordering.{match_ordering, nat_cmp}
use Rattle.std.specs.Map.{lookup}
use Rattle.std.specs.BTreeMap.{insert_entry, is_at}
use Rattle.std.specs.Cmp.Lexicographic.{slice_cmp, bytes_decides, nat_list_cmp_total}
use Rattle.std.proofs.lemmas.Map.Lookups.{exact_bytes}
use Rattle.std.proofs.lemmas.Map.Text.{is_eq-slice_cmp}
use Rattle.std.proofs.lemmas.Cmp.{tied_itself}
use Rattle.volfile.specs.declared.volumes.Volume.{Volume}
use Rattle.volfile.specs.TextLines.{is_text}
use Rattle.volfile.specs.VolumeNames.{Places, place_in, place_of}

pub same_word : (xs ys : List ℕ) → is_text xs ys ≡ true → xs ≡ ys
same_word xs ys e = (bytes_decides xs ys).0 e

pub word_itself : (xs : List ℕ) → is_text xs xs ≡ true
word_itself xs = (bytes_decides xs xs).1 refl

cond_twice : {X : Type 0} (b : Bool) (x y z : X) → cond b x z ≡ cond b x (cond b y z)
cond_twice true x y z = refl
cond_twice false x y z = refl

swapped : {X : Type 0} (a b : Bool) (x y z : X) → (a ≡ true → b ≡ true → ⊥) → cond a x (cond b y z) ≡ cond b y (cond a x z)
swapped true true x y z apart = absurd (apart refl refl)
swapped true false x y z apart = refl
swapped false b x y z apart = refl

module _ {K : Type 0} (view : K → List ℕ) where
  pub find_shown : (es : List (K × ℕ)) (q : List ℕ) → lookup (is_at (λ k. slice_cmp nat_cmp q (view k))) es ≡ place_in (map (λ e. (view e.0, e.1)) es) q
  find_shown [] q = refl
  find_shown (e ∷ es) q = rw (is_eq-slice_cmp q (view e.0)) (ap (λ (t : Option ℕ). cond (is_text q (view e.0)) (Some e.1) t) (find_shown es q))

  pub put_shown : (es : List (K × ℕ)) (k : K) (v : ℕ) (q : List ℕ)
      → place_in (map (λ e. (view e.0, e.1)) (insert_entry (λ x y. slice_cmp nat_cmp (view x) (view y)) es k v)) q ≡ cond (is_text q (view k)) (Some v) (place_in (map (λ e. (view e.0, e.1)) es) q)
  put_shown [] k v q = refl
  put_shown (e ∷ es) k v q =
      elim (slice_cmp nat_cmp (view k) (view e.0)) as (λ o. slice_cmp nat_cmp (view k) (view e.0) ≡ o
      → place_in (map (λ e. (view e.0, e.1)) (match_ordering o ((k, v) ∷ e ∷ es) ((e.0, v) ∷ es) (e ∷ insert_entry (λ x y. slice_cmp nat_cmp (view x) (view y)) es k v))) q
      ≡ cond (is_text q (view k)) (Some v) (place_in (map (λ e. (view e.0, e.1)) (e ∷ es)) q)) [
        | Less ↦ λ h. refl
        | Equal ↦ λ h.
            let same : view k ≡ view e.0 = exact_bytes (view k) (view e.0) h in
            rw same (cond_twice (is_text q (view e.0)) (Some v) (Some e.1) (place_in (map (λ e. (view e.0, e.1)) es) q))
        | Greater ↦ λ h.
            let apart : is_text q (view e.0) ≡ true → is_text q (view k) ≡ true → ⊥ = λ a b. unlike (view k) (view e.0) h (sym (same_word q (view k) b) ∙ same_word q (view e.0) a) in
            ap (λ (t : Option ℕ). cond (is_text q (view e.0)) (Some e.1) t) (put_shown es k v q)
            ∙ swapped (is_text q (view e.0)) (is_text q (view k)) (Some e.1) (Some v) (place_in (map (λ e. (view e.0, e.1)) es) q) apart
      ] refl
    where
      unlike : (a b : List ℕ) → slice_cmp nat_cmp a b ≡ Greater → a ≡ b → ⊥
      unlike a b h is =
          let tie : slice_cmp nat_cmp a b ≡ Equal = ap (λ (l : List ℕ). slice_cmp nat_cmp a l) (sym is) ∙ tied_itself nat_list_cmp_total a in
          absurd cc

push_step : (a b : Bool) (n : ℕ) (l : Option ℕ) → (a ≡ true → b ≡ true → ⊥)
    → cond a (Some 0) (option_map suc (cond b (Some n) l)) ≡ cond b (Some (suc n)) (cond a (Some 0) (option_map suc l))
push_step true true n l apart = absurd (apart refl refl)
push_step true false n l apart = refl
push_step false true n l apart = refl
push_step false false n l apart = refl

absent_first : (b : Bool) (l : Option ℕ) → cond b (Some 0) (option_map suc l) ≡ None → (b ≡ false) × (l ≡ None)
absent_first true l e = absurd cc
absent_first false None e = (refl, refl)
absent_first false (Some n) e = absurd cc

-- a volume with a new name behind the others
pub place_push : (vs : List Volume) (v : Volume) (q : List ℕ) → place_of v.name vs ≡ None
    → place_of q (vs ++ v ∷ []) ≡ cond (is_text q v.name) (Some (length vs)) (place_of q vs)
place_push [] v q absent = refl
place_push (u ∷ us) v q absent =
    let off = absent_first (is_text v.name u.name) (place_of v.name us) absent in
    let apart : is_text q u.name ≡ true → is_text q v.name ≡ true → ⊥ =
    λ a b. unlike (is_text v.name u.name) off.0 (ap (λ (l : List ℕ). is_text l u.name) (sym (same_word q v.name b)) ∙ a) in
    ap (λ (t : Option ℕ). cond (is_text q u.name) (Some 0) (option_map suc t)) (place_push us v q off.1)
    ∙ push_step (is_text q u.name) (is_text q v.name) (length us) (place_of q us) apart
  where
    unlike : (b : Bool) → b ≡ false → b ≡ true → ⊥
    unlike b f t = absurd cc

-- the names' map follows the volumes when one is added to both
pub names_after : (old new : Places) (vs : List Volume) (v : Volume) → ((q : List ℕ) → place_in old q ≡ place_of q vs) → place_of v.name vs ≡ None
    → ((q : List ℕ) → place_in new q ≡ cond (is_text q v.name) (Some (length vs)) (place_in old q)) → (q : List ℕ) → place_in new q ≡ place_of q (vs ++ v ∷ [])
names_after old new vs v same absent added q =
    added q ∙ ap (λ (t : Option ℕ). cond (is_text q v.name) (Some (length vs)) t) (same q) ∙ sym (place_push vs v q absent)

-- the same where name and place were read off
pub volume_placed : (old new : Places) (vs after : List Volume) (v : Volume) (name : List ℕ) (place : ℕ) → ((q : List ℕ) → place_in old q ≡ place_of q vs) → place_of v.name vs ≡ None → name ≡ v.name → place ≡ length vs
    → ((q : List ℕ) → place_in new q ≡ cond (is_text q name) (Some place) (place_in old q)) → after ≡ vs ++ v ∷ [] → (q : List ℕ) → place_in new q ≡ place_of q after
volume_placed old new vs after v name place same absent named number added pushed q =
    names_after old new vs v same absent
    (λ p. added p ∙ ap (λ (l : List ℕ). cond (is_text p l) (Some place) (place_in old p)) named ∙ ap (λ n. cond (is_text p v.name) (Some n) (place_in old p)) number) q
    ∙ ap (place_of q) (sym pushed)
