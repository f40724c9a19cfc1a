-- Where the ways down end: each volume leads to the end of the top's way, or to a set below the one distribute volume,
-- or to a replica of a replicate volume. So each replicate volume is a set, no replica is one, and at most one volume
-- distributes.
use Rattle.std.proofs.Common.{inl, inr, ◌≡◌, ℕ, zero, suc, ◌+◌, ◌-◌, ◌<◌, ◌≤◌, ◌==◌, ◌||◌, Bool, true, false, cond, List, [], ◌∷◌, ◌++◌, append-nil, length, flat_map, Option, Some, None, refl, sym, ap, subst, ◌∙◌, arith}
use Rattle.std.specs.Prelude.{◌⊎◌}
use Rattle.std.specs.List.{AllByRecursion, list_any, slice_get}
use Rattle.std.proofs.lemmas.Bool.{cases_lt}
use Rattle.std.proofs.lemmas.Bool.Decides.{nat_tests}
use Rattle.volfile.proofs.WellRead.{not_false}
use Rattle.graph_build.specs.PlanRules.{has_place, no_tree, gathered, is_nested, bottom_in, bottom_at, first_bottom, is_used, unused_from}
use Rattle.graph_build.specs.Plans.{is_distribute, distributed, bottoms_at, sets_under, sets_of, members_as, members_in, members_of, or_number, number_from}
use Rattle.graph_build.specs.declared.infos.Info.{Info}
use Rattle.graph_build.specs.declared.infos.Role.{Role}
use Rattle.graph_build.specs.declared.infos.Role.TheVariants.{Client, Replicate, Distribute, IoCache, IoThreads, Pass}
use Rattle.graph_build.proofs.Apart.{Apart, first_placed, or_right}
use Rattle.graph_build.proofs.Facts.{SizeFits, StopFits, IsSetRole, plain_stop, set_stop, Holds, some_at, at_within, apart_members}
use Rattle.graph_build.proofs.PlanSets.{none_distributes, some_distributes, members_under}
use Rattle.graph_build.proofs.VolumeTrees.{all_placed, end_of, AllFit, Covers, below_covered}

-- ---- places in lists
pub any_at : {A : Type 0} (test : A → Bool) (xs : List A) → list_any test xs ≡ true → (i : ℕ) × (x : A) × (slice_get xs i ≡ Some x) × (test x ≡ true)
any_at test [] e = absurd cc
any_at test (x ∷ xs) e = by_test (test x) refl (any_at test xs) e
  where
    by_test : (b : Bool) → test x ≡ b → (list_any test xs ≡ true → (i : ℕ) × (y : _) × (slice_get xs i ≡ Some y) × (test y ≡ true)) → (b || list_any test xs) ≡ true
        → (i : ℕ) × (y : _) × (slice_get (x ∷ xs) i ≡ Some y) × (test y ≡ true)
    by_test true is rest h = (0, x, refl, is)
    by_test false is rest h = let r = rest h in (suc r.0, r.1, r.2, r.3)

pub same_some : {A : Type 0} (x y : A) → ◌≡◌ {A = Option A} (Some x) (Some y) → x ≡ y
same_some x y e = cc

-- a place of a list, by its index
pub index_of : (ps : List ℕ) (p : ℕ) → has_place p ps ≡ true → (k : ℕ) × (slice_get ps k ≡ Some p)
index_of [] p e = absurd cc
index_of (q ∷ ps) p e = by_test (p == q) refl (index_of ps p) e
  where
    by_test : (b : Bool) → (p == q) ≡ b → (has_place p ps ≡ true → (k : ℕ) × (slice_get ps k ≡ Some p)) → (b || has_place p ps) ≡ true → (k : ℕ) × (slice_get (q ∷ ps) k ≡ Some p)
    by_test true is rest h = let same : q ≡ p = grind (arith, nat_tests) in (0, ap Some same)
    by_test false is rest h = let r = rest h in (suc r.0, r.1)

pub placed_at : (ps : List ℕ) (k p : ℕ) → slice_get ps k ≡ Some p → has_place p ps ≡ true
placed_at [] k p e = absurd cc
placed_at (q ∷ ps) zero p e = let same : q ≡ p = same_some q p e in subst (λ x. has_place x (q ∷ ps) ≡ true) same (first_placed q ps)
placed_at (q ∷ ps) (suc k) p e = or_right (p == q) (has_place p ps) (placed_at ps k p e)

pub nothing_placed : (ps : List ℕ) (p : ℕ) → length ps ≡ 0 → has_place p ps ≡ true → ⊥
nothing_placed [] p none e = absurd cc
nothing_placed (q ∷ ps) p none e = absurd (omega (arith, none))

pub only_placed : (ps : List ℕ) (p : ℕ) → length ps ≡ 1 → has_place p ps ≡ true → ps ≡ p ∷ []
only_placed [] p one e = absurd (omega (arith, one))
only_placed (q ∷ []) p one e = by_test (p == q) refl e
  where
    by_test : (b : Bool) → (p == q) ≡ b → (b || false) ≡ true → q ∷ [] ≡ p ∷ []
    by_test true is h = let same : q ≡ p = grind (arith, nat_tests) in ap (λ x. x ∷ []) same
    by_test false is h = absurd cc
only_placed (q ∷ r ∷ ps) p one e = absurd (omega (arith, one))

placed_right : (xs ys : List ℕ) (p : ℕ) → has_place p ys ≡ true → has_place p (xs ++ ys) ≡ true
placed_right [] ys p e = e
placed_right (x ∷ xs) ys p e = or_right (p == x) (has_place p (xs ++ ys)) (placed_right xs ys p e)

placed_left : (xs ys : List ℕ) (p : ℕ) → has_place p xs ≡ true → has_place p (xs ++ ys) ≡ true
placed_left [] ys p e = absurd cc
placed_left (x ∷ xs) ys p e = by_first (p == x) e (placed_left xs ys p)
  where
    by_first : (b : Bool) → (b || has_place p xs) ≡ true → (has_place p xs ≡ true → has_place p (xs ++ ys) ≡ true) → (b || has_place p (xs ++ ys)) ≡ true
    by_first true k rest = refl
    by_first false k rest = rest k

apart_halves : (xs ys : List ℕ) (p : ℕ) → Apart (xs ++ ys) → has_place p xs ≡ true → has_place p ys ≡ true → ⊥
apart_halves [] ys p apart e f = absurd cc
apart_halves (x ∷ xs) ys p apart e f = by_test (p == x) refl (λ h. apart_halves xs ys p apart.1 h f) e
  where
    by_test : (b : Bool) → (p == x) ≡ b → (has_place p xs ≡ true → ⊥) → (b || has_place p xs) ≡ true → ⊥
    by_test true is rest h = let same : x ≡ p = grind (arith, nat_tests) in all_placed (λ y. x ≡ y → ⊥) (xs ++ ys) p apart.0 (placed_right xs ys p f) same
    by_test false is rest h = rest h

apart_rest : (xs ys : List ℕ) → Apart (xs ++ ys) → Apart ys
apart_rest [] ys apart = apart
apart_rest (x ∷ xs) ys apart = apart_rest xs ys apart.1

placed_flat : (f : ℕ → List ℕ) (ps : List ℕ) (a x : ℕ) → has_place a ps ≡ true → has_place x (f a) ≡ true → has_place x (flat_map f ps) ≡ true
placed_flat f [] a x e h = absurd cc
placed_flat f (p ∷ ps) a x e h = by_test (a == p) refl (λ k. placed_flat f ps a x k h) e
  where
    by_test : (b : Bool) → (a == p) ≡ b → (has_place a ps ≡ true → has_place x (flat_map f ps) ≡ true) → (b || has_place a ps) ≡ true → has_place x (f p ++ flat_map f ps) ≡ true
    by_test true is rest k = let same : a ≡ p = grind (arith, nat_tests) in placed_left (f p) (flat_map f ps) x (subst (λ q. has_place x (f q) ≡ true) same h)
    by_test false is rest k = placed_right (f p) (flat_map f ps) x (rest k)

-- lists that belong to places and have something in common belong to one
same_owner : (f : ℕ → List ℕ) (ps : List ℕ) (a b x : ℕ) → Apart (flat_map f ps) → has_place a ps ≡ true → has_place b ps ≡ true → has_place x (f a) ≡ true → has_place x (f b) ≡ true → a ≡ b
same_owner f [] a b x apart in_a in_b at to = absurd cc
same_owner f (p ∷ ps) a b x apart in_a in_b at to = by_tests (a == p) (b == p) refl refl (λ h k. same_owner f ps a b x (apart_rest (f p) (flat_map f ps) apart) h k at to) in_a in_b
  where
    by_tests : (s t : Bool) → (a == p) ≡ s → (b == p) ≡ t → (has_place a ps ≡ true → has_place b ps ≡ true → a ≡ b) → (s || has_place a ps) ≡ true → (t || has_place b ps) ≡ true → a ≡ b
    by_tests true true is so rest h k = grind (arith, nat_tests)
    by_tests true false is so rest h k =
        let same : a ≡ p = grind (arith, nat_tests) in absurd (apart_halves (f p) (flat_map f ps) x apart (subst (λ q. has_place x (f q) ≡ true) same at) (placed_flat f ps b x k to))
    by_tests false true is so rest h k =
        let same : b ≡ p = grind (arith, nat_tests) in absurd (apart_halves (f p) (flat_map f ps) x apart (subst (λ q. has_place x (f q) ≡ true) same to) (placed_flat f ps a x h at))
    by_tests false false is so rest h k = rest h k

-- ---- the numbers of sets
pub no_number : (number : ℕ) (ps : List ℕ) (p : ℕ) → has_place p ps ≡ false → number_from number ps p ≡ None
no_number number [] p e = refl
no_number number (q ∷ ps) p e = by_test (p == q) (number_from (number + 1) ps p) (no_number (number + 1) ps p) e
  where
    by_test : (b : Bool) (later : Option ℕ) → (has_place p ps ≡ false → later ≡ None) → (b || has_place p ps) ≡ false → or_number later b number ≡ None
    by_test true later none h = absurd cc
    by_test false later none h = ap (λ o. or_number o false number) (none h)

not_among : (p : ℕ) (ps : List ℕ) → AllByRecursion (λ q. p ≡ q → ⊥) ps → has_place p ps ≡ false
not_among p [] all = refl
not_among p (q ∷ ps) all = by_test (p == q) refl (not_among p ps all.1)
  where
    by_test : (b : Bool) → (p == q) ≡ b → has_place p ps ≡ false → (b || has_place p ps) ≡ false
    by_test true is rest = let same : p ≡ q = grind (arith, nat_tests) in absurd (all.0 same)
    by_test false is rest = rest

pub number_is : (number : ℕ) (ps : List ℕ) (k p : ℕ) → Apart ps → slice_get ps k ≡ Some p → number_from number ps p ≡ Some (number + k)
number_is number [] k p apart at = absurd cc
number_is number (q ∷ ps) zero p apart at =
    let same : q ≡ p = same_some q p at in
    let here : (q == q) ≡ true = grind (arith, nat_tests) in
    let none : number_from (number + 1) ps q ≡ None = no_number (number + 1) ps q (not_among q ps apart.0) in
    let sum : number ≡ number + 0 = omega arith in
    subst (λ x. number_from number (q ∷ ps) x ≡ Some (number + 0)) same (ap (λ o. or_number o (q == q) number) none ∙ ap (λ b. or_number None b number) here ∙ ap Some sum)
number_is number (q ∷ ps) (suc k) p apart at =
    let sum : number + 1 + k ≡ number + suc k = omega arith in
    ap (λ o. or_number o (p == q) number) (number_is (number + 1) ps k p apart.1 at) ∙ ap Some sum

-- ---- all volumes but the last are used
pub all_used : (infos rest : List Info) (place : ℕ) → unused_from infos rest place ≡ None → (k : ℕ) → k + 1 < length rest → is_used infos (place + k) ≡ true
all_used infos [] place e k low = absurd (omega (arith, low))
all_used infos (f ∷ []) place e k low = absurd (omega (arith, low))
all_used infos (f ∷ g ∷ rest) place e k low = by_test (is_used infos place) refl (all_used infos (g ∷ rest) (place + 1)) e k low
  where
    by_test : (b : Bool) → is_used infos place ≡ b → (unused_from infos (g ∷ rest) (place + 1) ≡ None → (j : ℕ) → j + 1 < length (g ∷ rest) → is_used infos (place + 1 + j) ≡ true)
        → cond b (unused_from infos (g ∷ rest) (place + 1)) (Some place) ≡ None → (j : ℕ) → j + 1 < length (f ∷ g ∷ rest) → is_used infos (place + j) ≡ true
    by_test false is more h j few = absurd cc
    by_test true is more h zero few = let sum : place ≡ place + 0 = omega arith in subst (λ q. is_used infos q ≡ true) sum is
    by_test true is more h (suc j) few = let sum : place + 1 + j ≡ place + suc j = omega arith in subst (λ q. is_used infos q ≡ true) sum (more h j (omega (arith, few)))

module _ (infos : List Info) (h : Holds infos) (bricks : ℕ) (fits : AllFit bricks infos) (used : (p : ℕ) → p + 1 < length infos → is_used infos p ≡ true) (some : 1 ≤ length infos) where
  -- where the way down from the top ends
  abbrev top_end : ℕ
  top_end = bottom_at infos (length infos - 1)

  pub record User (p : ℕ) : Type 0 where
    pub place : ℕ
    pub info : Info
    pub at : slice_get infos place ≡ Some info
    pub has : has_place p info.below ≡ true
    pub later : p < place

  pub user : (p : ℕ) → p + 1 < length infos → User p
  user p more =
      let u = any_at (λ (f : Info). has_place p f.below) infos (used p more) in
      record { place = u.0; info = u.1; at = u.2; has = u.3; later = all_placed (λ q. q < u.0) u.1.below p (fits.each u.0 u.1 u.2).low u.3 }

  pub bottom_here : (p : ℕ) (f : Info) → slice_get infos p ≡ Some f → bottom_at infos p ≡ end_of f.role infos p f.below
  bottom_here p f at = ap bottom_in at ∙ (fits.each p f at).end

  pub size_of : (p : ℕ) (f : Info) (r : Role) → slice_get infos p ≡ Some f → f.role ≡ r → SizeFits r (length f.below)
  size_of p f r at is = subst (λ s. SizeFits s (length f.below)) is (h.entries p f at).size

  -- ---- bottoms
  pub placed_bottom : (ps : List ℕ) (p : ℕ) → has_place p ps ≡ true → has_place (bottom_at infos p) (bottoms_at infos ps) ≡ true
  placed_bottom [] p e = absurd cc
  placed_bottom (q ∷ ps) p e = by_test (p == q) refl (placed_bottom ps p) e
    where
      by_test : (b : Bool) → (p == q) ≡ b → (has_place p ps ≡ true → has_place (bottom_at infos p) (bottoms_at infos ps) ≡ true) → (b || has_place p ps) ≡ true → has_place (bottom_at infos p) (bottom_at infos q ∷ bottoms_at infos ps) ≡ true
      by_test true is rest k = let same : p ≡ q = grind (arith, nat_tests) in subst (λ x. has_place (bottom_at infos p) (bottom_at infos x ∷ bottoms_at infos ps) ≡ true) same (first_placed (bottom_at infos p) (bottoms_at infos ps))
      by_test false is rest k = or_right (bottom_at infos p == bottom_at infos q) (has_place (bottom_at infos p) (bottoms_at infos ps)) (rest k)

  bottom_from : (ps : List ℕ) (b : ℕ) → has_place b (bottoms_at infos ps) ≡ true → (p : ℕ) × (has_place p ps ≡ true) × (b ≡ bottom_at infos p)
  bottom_from [] b e = absurd cc
  bottom_from (q ∷ ps) b e = by_test (b == bottom_at infos q) refl (bottom_from ps b) e
    where
      by_test : (t : Bool) → (b == bottom_at infos q) ≡ t → (has_place b (bottoms_at infos ps) ≡ true → (p : ℕ) × (has_place p ps ≡ true) × (b ≡ bottom_at infos p)) → (t || has_place b (bottoms_at infos ps)) ≡ true
          → (p : ℕ) × (has_place p (q ∷ ps) ≡ true) × (b ≡ bottom_at infos p)
      by_test true is rest k = (q, first_placed q ps, grind (arith, nat_tests))
      by_test false is rest k = let r = rest k in (r.0, or_right (r.0 == q) (has_place r.0 ps) r.1, r.2)

  -- the end of the way down from a place below another
  pub record Below (place : ℕ) (f : Info) (p : ℕ) : Type 0 where
    pub info : Info
    pub at : slice_get infos p ≡ Some info
    pub covered : Covers (gathered no_tree infos f.below) info.tree
    pub end : Info
    pub end_at : slice_get infos (bottom_at infos p) ≡ Some end
    pub stop : StopFits info.tree end.role

  pub below_is : (place : ℕ) (f : Info) (p : ℕ) → slice_get infos place ≡ Some f → has_place p f.below ≡ true → Below place f p
  below_is place f p at has =
      let low : p < place = all_placed (λ q. q < place) f.below p (fits.each place f at).low has in
      let g = some_at infos p (omega (arith, low, at_within infos place f at)) in
      let stop = (h.entries p g.0 g.1).stop in
      record {
        info = g.0;
        at = g.1;
        covered = below_covered no_tree infos f.below p g.0 has g.1;
        end = stop.end;
        end_at = subst (λ o. slice_get infos (bottom_in o) ≡ Some stop.end) (sym g.1) stop.is;
        stop = stop.fits;
      }

  pub stands_as : (place : ℕ) (f : Info) (r : Role) → slice_get infos place ≡ Some f → f.role ≡ r → is_nested r (gathered no_tree infos f.below) ≡ false
  stands_as place f r at is = subst (λ s. is_nested s (gathered no_tree infos f.below) ≡ false) is (h.entries place f at).stands

  or_left : (a b : Bool) → (a || b) ≡ false → a ≡ false
  or_left true b e = absurd cc
  or_left false b e = refl

  or_second : (a b : Bool) → (a || b) ≡ false → b ≡ false
  or_second true b e = absurd cc
  or_second false b e = e

  pub replica_plain : (place : ℕ) (f : Info) (p : ℕ) (at : slice_get infos place ≡ Some f) (has : has_place p f.below ≡ true) → f.role ≡ Replicate → (below_is place f p at has).info.tree.plain ≡ true
  replica_plain place f p at has is = (below_is place f p at has).covered.plain (not_false (gathered no_tree infos f.below).plain (stands_as place f Replicate at is))

  pub set_free : (place : ℕ) (f : Info) (p : ℕ) (at : slice_get infos place ≡ Some f) (has : has_place p f.below ≡ true) → f.role ≡ Distribute → (below_is place f p at has).info.tree.queue ≡ false
  set_free place f p at has is =
      let t = gathered no_tree infos f.below in (below_is place f p at has).covered.queue (or_second t.distribute t.queue (stands_as place f Distribute at is))

  pub replica_end : (place : ℕ) (f : Info) (p : ℕ) (at : slice_get infos place ≡ Some f) (has : has_place p f.below ≡ true) → f.role ≡ Replicate → (k : ℕ) × ((below_is place f p at has).end.role ≡ Client k)
  replica_end place f p at has is =
      let b = below_is place f p at has in
      plain_stop b.info.tree b.end.role (replica_plain place f p at has is) b.stop

  pub set_end : (place : ℕ) (f : Info) (p : ℕ) (at : slice_get infos place ≡ Some f) (has : has_place p f.below ≡ true) → f.role ≡ Distribute → IsSetRole (below_is place f p at has).end.role
  set_end place f p at has is =
      let b = below_is place f p at has in
      let t = gathered no_tree infos f.below in
      set_stop b.info.tree b.end.role (b.covered.distribute (or_left t.distribute t.queue (stands_as place f Distribute at is))) b.stop

  -- ---- where each way ends
  record InSet (b : ℕ) : Type 0 where
    pub info : Info
    pub at : slice_get infos top_end ≡ Some info
    pub role : info.role ≡ Distribute
    pub among : has_place b (bottoms_at infos info.below) ≡ true

  pub record InReplica (b : ℕ) : Type 0 where
    pub place : ℕ
    pub info : Info
    pub at : slice_get infos place ≡ Some info
    pub role : info.role ≡ Replicate
    pub among : has_place b (bottoms_at infos info.below) ≡ true

  abbrev IsEnd : ℕ → Type 0
  IsEnd b = (b ≡ top_end) ⊎ (InSet b ⊎ InReplica b)

  in_set_role : (b : ℕ) (g : Info) → InSet b → slice_get infos b ≡ Some g → IsSetRole g.role
  in_set_role b g s at =
      let p = bottom_from s.info.below b s.among in
      let end_at : slice_get infos b ≡ Some (below_is top_end s.info p.0 s.at p.1).end = subst (λ x. slice_get infos x ≡ Some (below_is top_end s.info p.0 s.at p.1).end) (sym p.2) (below_is top_end s.info p.0 s.at p.1).end_at in
      subst (λ (k : Info). IsSetRole k.role) (same_some _ _ (sym end_at ∙ at)) (set_end top_end s.info p.0 s.at p.1 s.role)

  pub in_replica_role : (b : ℕ) (g : Info) → InReplica b → slice_get infos b ≡ Some g → (k : ℕ) × (g.role ≡ Client k)
  in_replica_role b g m at =
      let p = bottom_from m.info.below b m.among in
      let end_at : slice_get infos b ≡ Some (below_is m.place m.info p.0 m.at p.1).end = subst (λ x. slice_get infos x ≡ Some (below_is m.place m.info p.0 m.at p.1).end) (sym p.2) (below_is m.place m.info p.0 m.at p.1).end_at in
      let c = replica_end m.place m.info p.0 m.at p.1 m.role in
      (c.0, ap (λ (k : Info). k.role) (same_some _ _ (sym at ∙ end_at)) ∙ c.1)

  no_distribute : IsSetRole Distribute → ⊥
  no_distribute fits = fits

  under_distribute : (p : ℕ) (u : User p) → u.info.role ≡ Distribute → IsEnd (bottom_at infos u.place) → IsEnd (bottom_at infos p)
  under_distribute p u is end = by_end end
    where
      here : bottom_at infos u.place ≡ u.place
      here = bottom_here u.place u.info u.at ∙ ap (λ r. end_of r infos u.place u.info.below) is

      itself : slice_get infos (bottom_at infos u.place) ≡ Some u.info
      itself = subst (λ x. slice_get infos x ≡ Some u.info) (sym here) u.at

      by_end : IsEnd (bottom_at infos u.place) → IsEnd (bottom_at infos p)
      by_end (inl e) = inr (inl (record { info = u.info; at = subst (λ x. slice_get infos x ≡ Some u.info) e itself; role = is; among = placed_bottom u.info.below p u.has }))
      by_end (inr (inl s)) = absurd (no_distribute (subst IsSetRole is (in_set_role (bottom_at infos u.place) u.info s itself)))
      by_end (inr (inr m)) = let c = in_replica_role (bottom_at infos u.place) u.info m itself in let two : Distribute ≡ Client c.0 = sym is ∙ c.1 in absurd cc

  through : (p : ℕ) (u : User p) → length u.info.below ≡ 1 → bottom_at infos u.place ≡ first_bottom infos u.info.below → IsEnd (bottom_at infos u.place) → IsEnd (bottom_at infos p)
  through p u one same end = subst IsEnd (same ∙ ap (first_bottom infos) (only_placed u.info.below p one u.has)) end

  from_user : (p : ℕ) (u : User p) (r : Role) → u.info.role ≡ r → IsEnd (bottom_at infos u.place) → IsEnd (bottom_at infos p)
  from_user p u (Client brick) is end = absurd (nothing_placed u.info.below p (size_of u.place u.info (Client brick) u.at is) u.has)
  from_user p u Replicate is end = inr (inr (record { place = u.place; info = u.info; at = u.at; role = is; among = placed_bottom u.info.below p u.has }))
  from_user p u Distribute is end = under_distribute p u is end
  from_user p u (IoCache pages) is end = through p u (size_of u.place u.info (IoCache pages) u.at is) (bottom_here u.place u.info u.at ∙ ap (λ r. end_of r infos u.place u.info.below) is) end
  from_user p u IoThreads is end = through p u (size_of u.place u.info IoThreads u.at is) (bottom_here u.place u.info u.at ∙ ap (λ r. end_of r infos u.place u.info.below) is) end
  from_user p u Pass is end = through p u (size_of u.place u.info Pass u.at is) (bottom_here u.place u.info u.at ∙ ap (λ r. end_of r infos u.place u.info.below) is) end

  end_by : (n p : ℕ) → p < length infos → length infos ≤ p + n → IsEnd (bottom_at infos p)
  end_by zero p low near = absurd (omega (arith, low, near))
  end_by (suc n) p low near = by_last (cases_lt (p + 1) (length infos)) (λ q less more. end_by n q less (omega (arith, near, more)))
    where
      by_last : (p + 1 < length infos) ⊎ (length infos ≤ p + 1) → ((q : ℕ) → q < length infos → p < q → IsEnd (bottom_at infos q)) → IsEnd (bottom_at infos p)
      by_last (inr close) more = let here : p ≡ length infos - 1 = omega (arith, low, close) in inl (ap (bottom_at infos) here)
      by_last (inl far) more = let u = user p far in from_user p u u.info.role refl (more u.place (at_within infos u.place u.info u.at) u.later)

  end_is : (p : ℕ) → p < length infos → IsEnd (bottom_at infos p)
  end_is p low = end_by (length infos) p low (omega arith)

  -- ---- which volumes are sets
  pub one_distributes : (d : ℕ) (g : Info) → slice_get infos d ≡ Some g → g.role ≡ Distribute → d ≡ top_end
  one_distributes d g at is = by_end (end_is d (at_within infos d g at))
    where
      here : bottom_at infos d ≡ d
      here = bottom_here d g at ∙ ap (λ r. end_of r infos d g.below) is

      itself : slice_get infos (bottom_at infos d) ≡ Some g
      itself = subst (λ x. slice_get infos x ≡ Some g) (sym here) at

      by_end : IsEnd (bottom_at infos d) → d ≡ top_end
      by_end (inl e) = sym here ∙ e
      by_end (inr (inl s)) = absurd (no_distribute (subst IsSetRole is (in_set_role (bottom_at infos d) g s itself)))
      by_end (inr (inr m)) = let c = in_replica_role (bottom_at infos d) g m itself in let two : Distribute ≡ Client c.0 = sym is ∙ c.1 in absurd cc

  is_off : (r : Role) → r ≡ Distribute → is_distribute r ≡ false → ⊥
  is_off r is off = let on : is_distribute r ≡ true = ap is_distribute is in absurd cc

  pub replica_set : (r : ℕ) (g : Info) → slice_get infos r ≡ Some g → g.role ≡ Replicate → has_place r (sets_of infos) ≡ true
  replica_set r g at is = by_found (distributed infos) refl (end_is r (at_within infos r g at))
    where
      here : bottom_at infos r ≡ r
      here = bottom_here r g at ∙ ap (λ k. end_of k infos r g.below) is

      itself : slice_get infos (bottom_at infos r) ≡ Some g
      itself = subst (λ x. slice_get infos x ≡ Some g) (sym here) at

      by_found : (found : Option (List ℕ)) → distributed infos ≡ found → IsEnd (bottom_at infos r) → has_place r (sets_under infos found) ≡ true
      by_found found none (inr (inr m)) = let c = in_replica_role (bottom_at infos r) g m itself in let two : Replicate ≡ Client c.0 = sym is ∙ c.1 in absurd cc
      by_found None none (inl e) = subst (λ x. has_place x (top_end ∷ []) ≡ true) (sym e ∙ here) (first_placed top_end [])
      by_found None none (inr (inl s)) = absurd (is_off s.info.role s.role (none_distributes infos none top_end s.info s.at))
      by_found (Some below) found (inl e) =
          let d = some_distributes infos below found in
          let same : g ≡ d.1 = same_some _ _ (sym at ∙ ap (slice_get infos) (sym here ∙ e ∙ sym (one_distributes d.0 d.1 d.2 d.3)) ∙ d.2) in
          let two : Replicate ≡ Distribute = sym is ∙ ap (λ (k : Info). k.role) same ∙ d.3 in absurd cc
      by_found (Some below) found (inr (inl s)) =
          let d = some_distributes infos below found in
          let same : s.info ≡ d.1 = same_some _ _ (sym s.at ∙ ap (slice_get infos) (sym (one_distributes d.0 d.1 d.2 d.3)) ∙ d.2) in
          let list : s.info.below ≡ below = ap (λ (k : Info). k.below) same ∙ d.4 in
          subst (λ x. has_place x (bottoms_at infos below) ≡ true) here (subst (λ ps. has_place (bottom_at infos r) (bottoms_at infos ps) ≡ true) list s.among)

  pub record SetsApart (ps : List ℕ) : Type 0 where
    pub sets : Apart ps
    pub members : Apart (flat_map (members_of infos) ps)

  pub sets_apart : SetsApart (sets_of infos)
  sets_apart = by_found (distributed infos) refl
    where
      by_found : (found : Option (List ℕ)) → distributed infos ≡ found → SetsApart (sets_under infos found)
      by_found None none =
          let last = length infos - 1 in
          let f = some_at infos last (omega (arith, some)) in
          let stop = (h.entries last f.0 f.1).stop in
          let end_at : slice_get infos top_end ≡ Some stop.end = subst (λ o. slice_get infos (bottom_in o) ≡ Some stop.end) (sym f.1) stop.is in
          record { sets = (tt, tt); members = subst Apart (sym (append-nil (members_of infos top_end))) (apart_members infos h top_end (at_within infos top_end stop.end end_at)) }
      by_found (Some below) found =
          let d = some_distributes infos below found in
          let e = h.entries d.0 d.1 d.2 in
          subst (λ ps. SetsApart (bottoms_at infos ps)) d.4 (record { sets = e.bottoms; members = subst Apart (sym (members_under infos d.1.below)) e.members })

  pub set_number : (b : ℕ) → has_place b (sets_of infos) ≡ true → (n : ℕ) × (number_from 0 (sets_of infos) b ≡ Some n) × (slice_get (sets_of infos) n ≡ Some b)
  set_number b has =
      let k = index_of (sets_of infos) b has in
      let sum : 0 + k.0 ≡ k.0 = omega arith in
      (k.0, number_is 0 (sets_of infos) k.0 b sets_apart.sets k.1 ∙ ap Some sum, k.1)

  -- no replica is a set
  pub replica_no_set : (c : ℕ) → InReplica c → number_from 0 (sets_of infos) c ≡ None
  replica_no_set c m = no_number 0 (sets_of infos) c (off (has_place c (sets_of infos)) refl)
    where
      p : (p : ℕ) × (has_place p m.info.below ≡ true) × (c ≡ bottom_at infos p)
      p = bottom_from m.info.below c m.among

      low : c < length infos
      low = subst (λ x. x < length infos) (sym p.2) (at_within infos (bottom_at infos p.0) _ (below_is m.place m.info p.0 m.at p.1).end_at)

      never : has_place c (sets_of infos) ≡ true → ⊥
      never has =
          let g = some_at infos c low in
          let k = in_replica_role c g.0 m g.1 in
          let own : members_of infos c ≡ c ∷ [] = ap (λ o. members_in o infos c) g.1 ∙ ap (λ r. members_as r infos c g.0.below) k.1 in
          let set : members_of infos m.place ≡ bottoms_at infos m.info.below = ap (λ o. members_in o infos m.place) m.at ∙ ap (λ r. members_as r infos m.place m.info.below) m.role in
          let same : m.place ≡ c = same_owner (members_of infos) (sets_of infos) m.place c c sets_apart.members (replica_set m.place m.info m.at m.role) has
          (subst (λ ps. has_place c ps ≡ true) (sym set) m.among) (subst (λ ps. has_place c ps ≡ true) (sym own) (first_placed c [])) in
          let info : m.info ≡ g.0 = same_some _ _ (sym m.at ∙ ap (slice_get infos) same ∙ g.1) in
          let two : Replicate ≡ Client k.0 = sym m.role ∙ ap (λ (f : Info). f.role) info ∙ k.1 in absurd cc

      off : (b : Bool) → has_place c (sets_of infos) ≡ b → has_place c (sets_of infos) ≡ false
      off true is = absurd (never is)
      off false is = is
