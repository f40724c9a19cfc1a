-- Lists by rising bytes of a key, as a directory's names and an object's attributes are: what a value put in at its
-- place, and one that is dropped, leave.
use Rattle.std.proofs.Common.{◌≡◌, ◌∙◌, ◌∷◌, ℕ, Bool, true, false, List, [], refl, ap, sym, subst}
use Rattle.std.specs.Prelude.{Option, Some, None, nat_eq, if◌then◌else◌}
use Rattle.std.specs.declared.cmp.Ordering.{Ordering}
use Rattle.std.specs.declared.cmp.Ordering.TheVariants.{Less, Equal, Greater}
use Rattle.std.specs.Ordering.{match_ordering, nat_cmp, ordering_reverse}
use Rattle.std.specs.Cmp.Lexicographic.{slice_cmp, pointwise, nat_list_cmp_total}
use Rattle.std.specs.FinMap.{slice_cmp-IsAntisymmetric, nat_cmp-IsAntisymmetric}
use Rattle.fop_types.specs.Bounds.{Each, Follows, RisesFrom}
use Rattle.fop_types.specs.Names.{with_item, without_item, with_attr, without_attr}
use Rattle.fop_types.specs.declared.contents.Attr.{Attr}
use Rattle.fop_types.specs.declared.contents.Item.{Item}

module _ {A : Type 0} (key : A → List ℕ) where
  abbrev pub by_key : A → A → Ordering
  by_key a b = slice_cmp nat_cmp (key a) (key b)

  abbrev pub put_by : List A → A → List A
  put_by [] x = x ∷ []
  put_by (o ∷ os) x = match_ordering (by_key x o) (x ∷ o ∷ os) (x ∷ os) (o ∷ put_by os x)

  abbrev pub drop_by : List A → List ℕ → List A
  drop_by [] name = []
  drop_by (o ∷ os) name = if pointwise nat_eq (key o) name then os else o ∷ drop_by os name

  put_each : (P : A → Type 0) (o : A) (os : List A) (x : A) → P o → Each P os → P x → Each P (put_by os x) → (r : Ordering) → Each P (match_ordering r (x ∷ o ∷ os) (x ∷ os) (o ∷ put_by os x))
  put_each P o os x p ps q rest Less = (q, (p, ps))
  put_each P o os x p ps q rest Equal = (q, ps)
  put_each P o os x p ps q rest Greater = (p, rest)

  pub each_put : (P : A → Type 0) (xs : List A) (x : A) → Each P xs → P x → Each P (put_by xs x)
  each_put P [] x ps q = (q, tt)
  each_put P (o ∷ os) x ps q = put_each P o os x ps.0 ps.1 q (each_put P os x ps.1 q) (by_key x o)

  drop_each : (P : A → Type 0) (o : A) (os rest : List A) → P o → Each P os → Each P rest → (b : Bool) → Each P (if b then os else o ∷ rest)
  drop_each P o os rest p ps qs true = ps
  drop_each P o os rest p ps qs false = (p, qs)

  pub each_drop : (P : A → Type 0) (xs : List A) (name : List ℕ) → Each P xs → Each P (drop_by xs name)
  each_drop P [] name ps = tt
  each_drop P (o ∷ os) name ps = drop_each P o os (drop_by os name) ps.0 ps.1 (each_drop P os name ps.1) (pointwise nat_eq (key o) name)

  above : (x o : A) → by_key x o ≡ Greater → by_key o x ≡ Less
  above x o h = nat_list_cmp_total.antisymm (key o) (key x) ∙ ap ordering_reverse h

  one_key : (x o : A) → by_key x o ≡ Equal → key o ≡ key x
  one_key x o h = sym (slice_cmp-IsAntisymmetric nat_cmp-IsAntisymmetric (key x) (key o) h)

  rises_as : (x o : A) (os : List A) → key o ≡ key x → RisesFrom by_key true (Some o) os → RisesFrom by_key true (Some x) os
  rises_as x o [] same rises = tt
  rises_as x o (n ∷ os) same rises = (subst (λ (k : List ℕ). slice_cmp nat_cmp k (key n) ≡ Less) same rises.0, rises.1)

  put_rises : (earlier : Option A) (o : A) (os : List A) (x : A) → Follows by_key true earlier x → Follows by_key true earlier o → RisesFrom by_key true (Some o) os
      → (Follows by_key true (Some o) x → RisesFrom by_key true (Some o) (put_by os x))
      → (r : Ordering) → by_key x o ≡ r → RisesFrom by_key true earlier (match_ordering r (x ∷ o ∷ os) (x ∷ os) (o ∷ put_by os x))
  put_rises earlier o os x follows before after rest Less h = (follows, (h, after))
  put_rises earlier o os x follows before after rest Equal h = (follows, rises_as x o os (one_key x o h) after)
  put_rises earlier o os x follows before after rest Greater h = (before, rest (above x o h))

  pub rises_put : (earlier : Option A) (xs : List A) (x : A) → Follows by_key true earlier x → RisesFrom by_key true earlier xs → RisesFrom by_key true earlier (put_by xs x)
  rises_put earlier [] x follows rises = (follows, tt)
  rises_put earlier (o ∷ os) x follows rises = put_rises earlier o os x follows rises.0 rises.1 (λ on. rises_put (Some o) os x on rises.1) (by_key x o) refl

  follows_on : (earlier : Option A) (o n : A) → Follows by_key true earlier o → by_key o n ≡ Less → Follows by_key true earlier n
  follows_on None o n follows less = tt
  follows_on (Some e) o n follows less = nat_list_cmp_total.trans (key e) (key o) (key n) follows less

  rises_skip : (earlier : Option A) (o : A) (os : List A) → Follows by_key true earlier o → RisesFrom by_key true (Some o) os → RisesFrom by_key true earlier os
  rises_skip earlier o [] follows rises = tt
  rises_skip earlier o (n ∷ os) follows rises = (follows_on earlier o n follows rises.0, rises.1)

  drop_rises : (earlier : Option A) (o : A) (os rest : List A) → Follows by_key true earlier o → RisesFrom by_key true (Some o) os → RisesFrom by_key true (Some o) rest
      → (b : Bool) → RisesFrom by_key true earlier (if b then os else o ∷ rest)
  drop_rises earlier o os rest follows rises later true = rises_skip earlier o os follows rises
  drop_rises earlier o os rest follows rises later false = (follows, later)

  pub rises_drop : (earlier : Option A) (xs : List A) (name : List ℕ) → RisesFrom by_key true earlier xs → RisesFrom by_key true earlier (drop_by xs name)
  rises_drop earlier [] name rises = tt
  rises_drop earlier (o ∷ os) name rises =
      drop_rises earlier o os (drop_by os name) rises.0 rises.1 (rises_drop (Some o) os name rises.1) (pointwise nat_eq (key o) name)

-- ---- names and attributes

pub with_item_is : (items : List Item) (item : Item) → with_item items item ≡ put_by (λ (i : Item). i.name) items item
with_item_is [] item = refl
with_item_is (o ∷ os) item =
    ap (λ (t : List Item). match_ordering (slice_cmp nat_cmp item.name o.name) (item ∷ o ∷ os) (item ∷ os) (o ∷ t)) (with_item_is os item)

pub without_item_is : (items : List Item) (name : List ℕ) → without_item items name ≡ drop_by (λ (i : Item). i.name) items name
without_item_is [] name = refl
without_item_is (o ∷ os) name = ap (λ (t : List Item). if pointwise nat_eq o.name name then os else o ∷ t) (without_item_is os name)

pub with_attr_is : (attrs : List Attr) (attr : Attr) → with_attr attrs attr ≡ put_by (λ (a : Attr). a.name) attrs attr
with_attr_is [] attr = refl
with_attr_is (o ∷ os) attr =
    ap (λ (t : List Attr). match_ordering (slice_cmp nat_cmp attr.name o.name) (attr ∷ o ∷ os) (attr ∷ os) (o ∷ t)) (with_attr_is os attr)

pub without_attr_is : (attrs : List Attr) (name : List ℕ) → without_attr attrs name ≡ drop_by (λ (a : Attr). a.name) attrs name
without_attr_is [] name = refl
without_attr_is (o ∷ os) name = ap (λ (t : List Attr). if pointwise nat_eq o.name name then os else o ∷ t) (without_attr_is os name)
