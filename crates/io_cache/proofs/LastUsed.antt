-- The held pages are the last ones used: by induction over the uses.
use Rattle.std.proofs.Common.{◌≡◌, ℕ, zero, suc, ◌+◌, ◌<◌, ◌≤◌, Bool, true, false, not, ◌&&◌, ◌||◌, ◌==◌, cond, List, [], ◌∷◌, length, take, Option, Some, None, is_some, refl, sym, ap, ◌∙◌, arith, subst, map, pred}
use Rattle.std.specs.Option.{option_map_or}
use Rattle.std.specs.List.{filter, list_any, IsDistinct, AllByRecursion}
use Rattle.std.specs.Map.{lookup, lookup_entry, remove_entry}
use Rattle.std.proofs.lemmas.List.{take_all}
use Rattle.std.proofs.lemmas.Map.Keys.{IsDistinct-head, IsDistinct-tail, IsDistinct-cons}
use Rattle.lru.specs.LruCache.{promoted}
use Rattle.lru.proofs.CallerLemmas.{Contains-lookup_entry}
use Rattle.fop_types.specs.declared.cells.Gfid.{Gfid}
use Rattle.io_cache.specs.declared.page_key.PageKey.{PageKey}
use Rattle.io_cache.specs.Pages.{Held, is_of, is_page, key, page_at, put_page}
use Rattle.io_cache.specs.Uses.{Use, page_of, others, by_last_use, after_use, after_uses, IsUse, AreUses, pages_of, HoldsLastUsed}
use Rattle.io_cache.specs.Uses.Use.{Put, Hit}
use Rattle.io_cache.proofs.Keys.{same_page}

abbrev same : PageKey → PageKey → Bool
same a b = is_page a.gfid a.page b

-- each page is in the list once
abbrev pub Once : List PageKey → Type 0
Once ks = IsDistinct (λ (a b : PageKey). is_page a.gfid a.page b) ks

-- a page is not in the list
abbrev pub Lacks : PageKey → List PageKey → Type 0
Lacks k ks = AllByRecursion (λ y. is_page k.gfid k.page y ≡ false) ks

-- ---- lists of pages
others_none : (k : PageKey) (ks : List PageKey) → Lacks k ks → others k ks ≡ ks
others_none k [] h = refl
others_none k (x ∷ ks) h = ap (λ (b : Bool). cond (not b) (x ∷ others k ks) (others k ks)) h.0 ∙ ap (λ (l : List PageKey). x ∷ l) (others_none k ks h.1)

lacks_take : (k : PageKey) (n : ℕ) (ks : List PageKey) → Lacks k ks → Lacks k (take n ks)
lacks_take k zero ks h = tt
lacks_take k (suc n) [] h = tt
lacks_take k (suc n) (x ∷ ks) h = (h.0, lacks_take k n ks h.1)

lacks_others : (k j : PageKey) (ks : List PageKey) → Lacks k ks → Lacks k (others j ks)
lacks_others k j [] h = tt
lacks_others k j (x ∷ ks) h = elim (same j x) as (λ (b : Bool). Lacks k (cond (not b) (x ∷ others j ks) (others j ks))) [ true ↦ lacks_others k j ks h.1 | false ↦ (h.0, lacks_others k j ks h.1) ]

lacks_itself : (k : PageKey) (ks : List PageKey) → Lacks k (others k ks)
lacks_itself k [] = tt
lacks_itself k (x ∷ ks) = (elim (same k x) as (λ (b : Bool). same k x ≡ b → Lacks k (cond (not b) (x ∷ others k ks) (others k ks))) [ true ↦ λ _. lacks_itself k ks | false ↦ λ t. (t, lacks_itself k ks) ]) refl

pub once_nil : Once []
unfolding IsDistinct
once_nil = tt

pub once_take : (n : ℕ) (ks : List PageKey) → Once ks → Once (take n ks)
once_take zero ks h = once_nil
once_take (suc n) [] h = once_nil
once_take (suc n) (x ∷ ks) h = IsDistinct-cons _ x (take n ks) (lacks_take x n ks (IsDistinct-head _ x ks h)) (once_take n ks (IsDistinct-tail _ x ks h))

once_others : (k : PageKey) (ks : List PageKey) → Once ks → Once (others k ks)
once_others k [] h = once_nil
once_others k (x ∷ ks) h = elim (same k x) as (λ (b : Bool). Once (cond (not b) (x ∷ others k ks) (others k ks))) [
  | true ↦ once_others k ks (IsDistinct-tail _ x ks h)
  | false ↦ IsDistinct-cons _ x (others k ks) (lacks_others x k ks (IsDistinct-head _ x ks h)) (once_others k ks (IsDistinct-tail _ x ks h))
]

pub once_first : (k : PageKey) (ks : List PageKey) → Once ks → Once (k ∷ others k ks)
once_first k ks h = IsDistinct-cons _ k (others k ks) (lacks_itself k ks) (once_others k ks h)

lacks_rest : (k x : PageKey) (ks : List PageKey) → same k x ≡ true → Once (x ∷ ks) → Lacks k ks
lacks_rest k x ks t h = subst (λ (j : PageKey). Lacks j ks) (same_page k.gfid k.page x t) (IsDistinct-head _ x ks h)

-- ---- a page goes first, among the first n or among all
take_twice : (m : ℕ) (ks : List PageKey) → take m (take (suc m) ks) ≡ take m ks
take_twice zero ks = refl
take_twice (suc m) [] = refl
take_twice (suc m) (x ∷ ks) = ap (λ (l : List PageKey). x ∷ l) (take_twice m ks)

rest_of_put : (k : PageKey) (m : ℕ) (ks : List PageKey) → Once ks → take m (others k (take (suc m) ks)) ≡ take m (others k ks)
rest_of_put k zero ks h = refl
rest_of_put k (suc m) [] h = refl
rest_of_put k (suc m) (x ∷ ks) h = (elim (same k x) as (λ (b : Bool). same k x ≡ b → take (suc m) (cond (not b) (x ∷ others k (take (suc m) ks)) (others k (take (suc m) ks))) ≡ take (suc m) (cond (not b) (x ∷ others k ks) (others k ks))) [
  | true ↦ λ t.
      let lacks = lacks_rest k x ks t h in
      ap (take (suc m)) (others_none k (take (suc m) ks) (lacks_take k (suc m) ks lacks))
      ∙ take_all_again (suc m) ks
      ∙ sym (ap (take (suc m)) (others_none k ks lacks))
  | false ↦ λ t. ap (λ (l : List PageKey). x ∷ l) (rest_of_put k m ks (IsDistinct-tail _ x ks h))
]) refl
  where
    take_all_again : (n : ℕ) (ks : List PageKey) → take n (take n ks) ≡ take n ks
    take_all_again zero ks = refl
    take_all_again (suc n) [] = refl
    take_all_again (suc n) (x ∷ ks) = ap (λ (l : List PageKey). x ∷ l) (take_all_again n ks)

put_first : (k : PageKey) (n : ℕ) (ks : List PageKey) → Once ks → take n (k ∷ others k (take n ks)) ≡ take n (k ∷ others k ks)
put_first k zero ks h = refl
put_first k (suc m) ks h = ap (λ (l : List PageKey). k ∷ l) (rest_of_put k m ks h)

rest_of_hit : (k : PageKey) (m : ℕ) (ks : List PageKey) → Once ks → list_any (same k) (take (suc m) ks) ≡ true → others k (take (suc m) ks) ≡ take m (others k ks)
rest_of_hit k m [] h is = absurd cc
rest_of_hit k m (x ∷ ks) h is = (elim (same k x) as (λ (b : Bool). same k x ≡ b → (b || list_any (same k) (take m ks)) ≡ true → cond (not b) (x ∷ others k (take m ks)) (others k (take m ks)) ≡ take m (cond (not b) (x ∷ others k ks) (others k ks))) [
  | true ↦ λ t _. let lacks = lacks_rest k x ks t h in others_none k (take m ks) (lacks_take k m ks lacks) ∙ sym (ap (take m) (others_none k ks lacks))
  | false ↦ λ t there. later m there (rest_of_hit k (pred m) ks (IsDistinct-tail _ x ks h))
]) refl is
  where
    later : (m : ℕ) → list_any (same k) (take m ks) ≡ true → (list_any (same k) (take (suc (pred m)) ks) ≡ true → others k (take (suc (pred m)) ks) ≡ take (pred m) (others k ks)) → x ∷ others k (take m ks) ≡ take m (x ∷ others k ks)
    later zero there on = absurd cc
    later (suc m) there on = ap (λ (l : List PageKey). x ∷ l) (on there)

hit_first : (k : PageKey) (n : ℕ) (ks : List PageKey) → Once ks → list_any (same k) (take n ks) ≡ true → k ∷ others k (take n ks) ≡ take n (k ∷ others k ks)
hit_first k zero ks h is = absurd cc
hit_first k (suc m) ks h is = ap (λ (l : List PageKey). k ∷ l) (rest_of_hit k m ks h is)

-- ---- the pages of a cache
pub removed_is : (g : Gfid) (n : ℕ) (es : List (PageKey × List ℕ)) → Once (map (λ p. p.0) es) → map (λ p. p.0) (remove_entry (is_page g n) es) ≡ others (key g n) (map (λ p. p.0) es)
removed_is g n [] h = refl
removed_is g n (e ∷ es) h = (elim (is_page g n e.0) as (λ (b : Bool). is_page g n e.0 ≡ b → map (λ p. p.0) (cond b es (e ∷ remove_entry (is_page g n) es)) ≡ cond (not b) (e.0 ∷ others (key g n) (map (λ p. p.0) es)) (others (key g n) (map (λ p. p.0) es))) [
  | true ↦ λ t. sym (others_none (key g n) (map (λ p. p.0) es) (lacks_rest (key g n) e.0 (map (λ p. p.0) es) t h))
  | false ↦ λ t. ap (λ (l : List PageKey). e.0 ∷ l) (removed_is g n es (IsDistinct-tail _ e.0 (map (λ p. p.0) es) h))
]) refl

pub pages_taken : (n : ℕ) (es : List (PageKey × List ℕ)) → map (λ p. p.0) (take n es) ≡ take n (map (λ p. p.0) es)
pages_taken zero es = refl
pages_taken (suc n) [] = refl
pages_taken (suc n) (e ∷ es) = ap (λ (l : List PageKey). e.0 ∷ l) (pages_taken n es)

held_there : (test : PageKey → Bool) (es : List (PageKey × List ℕ)) → is_some (lookup test es) ≡ true → list_any test (map (λ p. p.0) es) ≡ true
held_there test [] h = h
held_there test (e ∷ es) h = (elim (test e.0) as (λ (b : Bool). is_some (cond b (Some e.1) (lookup test es)) ≡ true → (b || list_any test (map (λ p. p.0) es)) ≡ true) [ true ↦ λ _. refl | false ↦ λ t. held_there test es t ]) h

found_if : (test : PageKey → Bool) (es : List (PageKey × List ℕ)) → lookup_entry test es ≡ None → lookup test es ≡ None
found_if test [] h = refl
found_if test (e ∷ es) h = (elim (test e.0) as (λ (b : Bool). cond b (Some e) (lookup_entry test es) ≡ None → cond b (Some e.1) (lookup test es) ≡ None) [ true ↦ λ t. absurd cc | false ↦ λ t. found_if test es t ]) h

pub promoted_is : (g : Gfid) (n : ℕ) (es : List (PageKey × List ℕ)) → is_some (lookup (is_page g n) es) ≡ true → map (λ p. p.0) (promoted (is_page g n) es) ≡ key g n ∷ map (λ p. p.0) (remove_entry (is_page g n) es)
promoted_is g n es h = cases (lookup_entry (is_page g n) es) refl
  where
    cases : (o : Option (PageKey × List ℕ)) → lookup_entry (is_page g n) es ≡ o → map (λ p. p.0) (option_map_or (λ e. e ∷ remove_entry (is_page g n) es) o es) ≡ key g n ∷ map (λ p. p.0) (remove_entry (is_page g n) es)
    cases None t = absurd (let off : true ≡ false = sym h ∙ ap is_some (found_if (is_page g n) es t) in cc)
    cases (Some e) t = ap (λ (k : PageKey). k ∷ map (λ p. p.0) (remove_entry (is_page g n) es)) (same_page g n e.0 (Contains-lookup_entry (is_page g n) es e t).1)

one_use : (u : Use) (c : Held) (ks : List PageKey) → IsUse u c → Once ks → pages_of c ≡ take c.capacity ks → pages_of (after_use u c) ≡ take c.capacity (page_of u ∷ others (page_of u) ks)
one_use (Put g n bytes) c ks fair once is =
    let here : Once (pages_of c) = subst (λ (l : List PageKey). Once l) (sym is) (once_take c.capacity ks once) in
    pages_taken c.capacity ((key g n, bytes) ∷ remove_entry (is_page g n) c.pages)
    ∙ ap (λ (l : List PageKey). take c.capacity (key g n ∷ l)) (removed_is g n c.pages here ∙ ap (others (key g n)) is)
    ∙ put_first (key g n) c.capacity ks once
one_use (Hit g n) c ks fair once is =
    let here : Once (pages_of c) = subst (λ (l : List PageKey). Once l) (sym is) (once_take c.capacity ks once) in
    let there : list_any (same (key g n)) (take c.capacity ks) ≡ true = ap (list_any (same (key g n))) (sym is) ∙ held_there (is_page g n) c.pages fair in
    promoted_is g n c.pages fair
    ∙ ap (λ (l : List PageKey). key g n ∷ l) (removed_is g n c.pages here ∙ ap (others (key g n)) is)
    ∙ hit_first (key g n) c.capacity ks once there

keeps_capacity : (u : Use) (c : Held) → (after_use u c).capacity ≡ c.capacity
keeps_capacity (Put g n bytes) c = refl
keeps_capacity (Hit g n) c = refl

all_uses : (us : List Use) (c : Held) (m : ℕ) (ks : List PageKey) → c.capacity ≡ m → AreUses us c → Once ks → pages_of c ≡ take m ks → pages_of (after_uses us c) ≡ take m (by_last_use us ks)
all_uses [] c m ks e uses once is = is
all_uses (u ∷ us) c m ks e uses once is =
    all_uses us (after_use u c) m (page_of u ∷ others (page_of u) ks) (keeps_capacity u c ∙ e) uses.1 (once_first (page_of u) ks once)
    (one_use u c ks uses.0 once (is ∙ ap (λ (n : ℕ). take n ks) (sym e)) ∙ ap (λ (n : ℕ). take n (page_of u ∷ others (page_of u) ks)) e)

pub last_used : (c : Held) → IsDistinct (λ (a b : PageKey). is_page a.gfid a.page b) (pages_of c) → length (pages_of c) ≤ c.capacity → HoldsLastUsed c
last_used c once few us uses = all_uses us c c.capacity (pages_of c) refl uses once (sym (take_all c.capacity (pages_of c) few))
