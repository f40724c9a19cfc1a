-- What is known of each volume: what it is over, where the way down from it leads, and that no two ways down from
-- below it meet. Each volume has an owner, the unused volume in whose tree it is, so two trees that are unused
-- have nothing in common.
use Rattle.std.proofs.Common.{◌≡◌, ℕ, zero, suc, ◌<◌, ◌≤◌, ◌==◌, ◌||◌, Bool, true, false, cond, List, [], ◌∷◌, ◌++◌, length, flat_map, Option, Some, None, refl, sym, ap, subst, ◌∙◌, arith}
use Rattle.std.specs.Prelude.{⊤}
use Rattle.std.specs.List.{AllByRecursion, list_any, slice_get}
use Rattle.std.proofs.lemmas.Bool.Decides.{nat_tests}
use Rattle.std.proofs.lemmas.Option.{slice_get_within}
use Rattle.graph_build.specs.PlanRules.{has_place, no_tree, joined, joined_info, gathered, grown, is_nested, bottom_in, bottom_at, first_bottom, bottom_of, has_brick, is_taken, is_used}
use Rattle.graph_build.specs.Plans.{bottoms_at, members_as, members_in, members_of}
use Rattle.graph_build.specs.declared.infos.Tree.{Tree}
use Rattle.graph_build.specs.declared.infos.Info.{Info}
use Rattle.graph_build.specs.declared.infos.Role.{Role}
use Rattle.graph_build.specs.declared.infos.Role.TheVariants.{Client, Replicate, Distribute, IoCache, IoThreads, Pass}
use Rattle.graph_build.proofs.Apart.{Apart, all_map, all_zip, apart_flat, placed}

-- ---- one more in a list
pub get_old : {A : Type 0} (xs ys : List A) (i : ℕ) → i < length xs → slice_get (xs ++ ys) i ≡ slice_get xs i
get_old [] ys i low = absurd (omega (arith, low))
get_old (x ∷ xs) ys zero low = refl
get_old (x ∷ xs) ys (suc i) low = get_old xs ys i (omega (arith, low))

pub get_last : {A : Type 0} (xs : List A) (y : A) → slice_get (xs ++ y ∷ []) (length xs) ≡ Some y
get_last [] y = refl
get_last (x ∷ xs) y = get_last xs y

pub some_at : {A : Type 0} (xs : List A) (i : ℕ) → i < length xs → (x : A) × (slice_get xs i ≡ Some x)
some_at [] i low = absurd (omega (arith, low))
some_at (x ∷ xs) zero low = (x, refl)
some_at (x ∷ xs) (suc i) low = some_at xs i (omega (arith, low))

pub at_within : {A : Type 0} (xs : List A) (i : ℕ) (x : A) → slice_get xs i ≡ Some x → i < length xs
at_within xs i x e = slice_get_within xs i x e

pub push_case : {A Q : Type 0} (xs : List A) (y : A) (i : ℕ) (z : A) → slice_get (xs ++ y ∷ []) i ≡ Some z → (slice_get xs i ≡ Some z → Q) → (i ≡ length xs → y ≡ z → Q) → Q
push_case [] y zero z e old new = new refl cc
push_case [] y (suc i) z e old new = absurd cc
push_case (x ∷ xs) y zero z e old new = old e
push_case (x ∷ xs) y (suc i) z e old new = push_case xs y i z e old (λ is. new (ap suc is))

-- ---- what has one kind of subvolumes
abbrev pub SizeFits : Role → ℕ → Type 0
SizeFits (Client brick) n = n ≡ 0
SizeFits Replicate n = n ≡ 3
SizeFits Distribute n = 1 ≤ n
SizeFits (IoCache pages) n = n ≡ 1
SizeFits IoThreads n = n ≡ 1
SizeFits Pass n = n ≡ 1

-- the way down ends at a client, a replicate or a distribute volume, of which the tree above knows
abbrev pub StopFits : Tree → Role → Type 0
StopFits t (Client brick) = ⊤
StopFits t Replicate = t.plain ≡ false
StopFits t Distribute = (t.plain ≡ false) × (t.distribute ≡ true)
StopFits t (IoCache pages) = ⊥
StopFits t IoThreads = ⊥
StopFits t Pass = ⊥

-- a set is a client or a replicate volume
abbrev pub IsSetRole : Role → Type 0
IsSetRole (Client brick) = ⊤
IsSetRole Replicate = ⊤
IsSetRole Distribute = ⊥
IsSetRole (IoCache pages) = ⊥
IsSetRole IoThreads = ⊥
IsSetRole Pass = ⊥

pub plain_stop : (t : Tree) (r : Role) → t.plain ≡ true → StopFits t r → (b : ℕ) × (r ≡ Client b)
plain_stop t (Client b) plain fits = (b, refl)
plain_stop t Replicate plain fits = absurd cc
plain_stop t Distribute plain fits = let off = fits.0 in absurd cc
plain_stop t (IoCache pages) plain fits = absurd fits
plain_stop t IoThreads plain fits = absurd fits
plain_stop t Pass plain fits = absurd fits

pub set_stop : (t : Tree) (r : Role) → t.distribute ≡ false → StopFits t r → IsSetRole r
set_stop t (Client b) off fits = tt
set_stop t Replicate off fits = tt
set_stop t Distribute off fits = let on = fits.1 in absurd cc
set_stop t (IoCache pages) off fits = fits
set_stop t IoThreads off fits = fits
set_stop t Pass off fits = fits

pub record Stops (known : List Info) (f : Info) : Type 0 where
  pub end : Info
  pub is : slice_get known f.bottom ≡ Some end
  pub fits : StopFits f.tree end.role

abbrev pub members_below : List Info → ℕ → List ℕ
members_below known p = members_of known (bottom_at known p)

pub record Entry (known : List Info) (i : ℕ) (f : Info) : Type 0 where
  pub below_low : AllByRecursion (λ p. p < i) f.below
  pub bottom_low : f.bottom ≤ i
  pub size : SizeFits f.role (length f.below)
  pub stop : Stops known f
  pub stands : is_nested f.role (gathered no_tree known f.below) ≡ false
  pub below : Apart f.below
  pub bottoms : Apart (bottoms_at known f.below)
  pub members : Apart (flat_map (members_below known) f.below)

pub record Owned (owner : ℕ → ℕ) (i : ℕ) (f : Info) : Type 0 where
  pub below : AllByRecursion (λ p. owner p ≡ owner i) f.below
  pub bottom : owner f.bottom ≡ owner i

pub record Holds (known : List Info) : Type 0 where
  pub owner : ℕ → ℕ
  pub entries : (i : ℕ) (f : Info) → slice_get known i ≡ Some f → Entry known i f
  pub owned : (i : ℕ) (f : Info) → slice_get known i ≡ Some f → Owned owner i f
  pub free : (p : ℕ) → p < length known → is_used known p ≡ false → owner p ≡ p
  pub bricks : (i j b : ℕ) (f g : Info) → slice_get known i ≡ Some f → slice_get known j ≡ Some g → f.role ≡ Client b → g.role ≡ Client b → i ≡ j

-- ---- what is known of earlier volumes stays
pub bottom_old : (known : List Info) (f : Info) (p : ℕ) → p < length known → bottom_at (known ++ f ∷ []) p ≡ bottom_at known p
bottom_old known f p low = ap bottom_in (get_old known (f ∷ []) p low)

bottoms_old : (known : List Info) (f : Info) (ps : List ℕ) → AllByRecursion (λ p. p < length known) ps → bottoms_at (known ++ f ∷ []) ps ≡ bottoms_at known ps
bottoms_old known f [] low = refl
bottoms_old known f (p ∷ ps) low = ap (λ b. b ∷ bottoms_at (known ++ f ∷ []) ps) (bottom_old known f p low.0) ∙ ap (λ bs. bottom_at known p ∷ bs) (bottoms_old known f ps low.1)

pub gathered_old : (known : List Info) (f : Info) (first : Tree) (ps : List ℕ) → AllByRecursion (λ p. p < length known) ps → gathered first (known ++ f ∷ []) ps ≡ gathered first known ps
gathered_old known f first [] low = refl
gathered_old known f first (p ∷ ps) low =
    ap (λ o. gathered (joined_info first o) (known ++ f ∷ []) ps) (get_old known (f ∷ []) p low.0) ∙ gathered_old known f (joined_info first (slice_get known p)) ps low.1

members_old : (known : List Info) (f : Info) → ((i : ℕ) (g : Info) → slice_get known i ≡ Some g → Entry known i g) → (b : ℕ) → b < length known → members_of (known ++ f ∷ []) b ≡ members_of known b
members_old known f entries b low = by_entry (slice_get known b) refl
  where
    by_role : (g : Info) (r : Role) → AllByRecursion (λ p. p < length known) g.below → members_as r (known ++ f ∷ []) b g.below ≡ members_as r known b g.below
    by_role g (Client brick) within = refl
    by_role g Replicate within = bottoms_old known f g.below within
    by_role g Distribute within = refl
    by_role g (IoCache pages) within = refl
    by_role g IoThreads within = refl
    by_role g Pass within = refl

    by_entry : (o : Option Info) → slice_get known b ≡ o → members_of (known ++ f ∷ []) b ≡ members_of known b
    by_entry None is = ap (λ o. members_in o (known ++ f ∷ []) b) (get_old known (f ∷ []) b low ∙ is) ∙ ap (λ o. members_in o known b) (sym is)
    by_entry (Some g) is =
        let e = entries b g is in
        let within : AllByRecursion (λ p. p < length known) g.below = all_map (λ p. p < b) (λ p. p < length known) g.below (λ p h. omega (arith, h, low)) e.below_low in
        ap (λ o. members_in o (known ++ f ∷ []) b) (get_old known (f ∷ []) b low ∙ is) ∙ by_role g g.role within ∙ ap (λ o. members_in o known b) (sym is)

members_below_old : (known : List Info) (f : Info) → ((i : ℕ) (g : Info) → slice_get known i ≡ Some g → Entry known i g) → (ps : List ℕ) → AllByRecursion (λ p. p < length known) ps
    → flat_map (members_below (known ++ f ∷ [])) ps ≡ flat_map (members_below known) ps
members_below_old known f entries [] low = refl
members_below_old known f entries (p ∷ ps) low =
    let g = some_at known p low.0 in
    let e = entries p g.0 g.1 in
    let bottom : bottom_at known p < length known = subst (λ o. bottom_in o < length known) (sym g.1) (omega (arith, e.bottom_low, low.0)) in
    let here : members_below (known ++ f ∷ []) p ≡ members_below known p = ap (members_of (known ++ f ∷ [])) (bottom_old known f p low.0) ∙ members_old known f entries (bottom_at known p) bottom in
    ap (λ ms. ms ++ flat_map (members_below (known ++ f ∷ [])) ps) here ∙ ap (λ ms. members_below known p ++ ms) (members_below_old known f entries ps low.1)

entry_old : (known : List Info) (f : Info) → ((i : ℕ) (g : Info) → slice_get known i ≡ Some g → Entry known i g) → (i : ℕ) (g : Info) → i < length known → Entry known i g → Entry (known ++ f ∷ []) i g
entry_old known f entries i g low e =
    let within : AllByRecursion (λ p. p < length known) g.below = all_map (λ p. p < i) (λ p. p < length known) g.below (λ p h. omega (arith, h, low)) e.below_low in
    record {
      below_low = e.below_low;
      bottom_low = e.bottom_low;
      size = e.size;
      stop = record { end = e.stop.end; is = get_old known (f ∷ []) g.bottom (omega (arith, e.bottom_low, low)) ∙ e.stop.is; fits = e.stop.fits };
      stands = ap (is_nested g.role) (gathered_old known f no_tree g.below within) ∙ e.stands;
      below = e.below;
      bottoms = subst Apart (sym (bottoms_old known f g.below within)) e.bottoms;
      members = subst Apart (sym (members_below_old known f entries g.below within)) e.members;
    }

-- ---- the volume that is added
-- below it are unused volumes alone, so what they lead to belongs to them
owner_of_bottom : (known : List Info) (h : Holds known) (p : ℕ) → p < length known → is_used known p ≡ false → h.owner (bottom_at known p) ≡ p
owner_of_bottom known h p low unused =
    let g = some_at known p low in
    subst (λ o. h.owner (bottom_in o) ≡ p) (sym g.1) ((h.owned p g.0 g.1).bottom ∙ h.free p low unused)

owner_of_bottoms : (known : List Info) (h : Holds known) (b : ℕ) (ps : List ℕ) → AllByRecursion (λ p. p < length known) ps → AllByRecursion (λ p. h.owner p ≡ h.owner b) ps
    → AllByRecursion (λ c. h.owner c ≡ h.owner b) (bottoms_at known ps)
owner_of_bottoms known h b [] low owned = tt
owner_of_bottoms known h b (p ∷ ps) low owned =
    let g = some_at known p low.0 in
    (subst (λ o. h.owner (bottom_in o) ≡ h.owner b) (sym g.1) ((h.owned p g.0 g.1).bottom ∙ owned.0), owner_of_bottoms known h b ps low.1 owned.1)

owner_of_members : (known : List Info) (h : Holds known) (b : ℕ) → b < length known → AllByRecursion (λ c. h.owner c ≡ h.owner b) (members_of known b)
owner_of_members known h b low =
    let g = some_at known b low in
    let e = h.entries b g.0 g.1 in
    subst (λ o. AllByRecursion (λ c. h.owner c ≡ h.owner b) (members_in o known b)) (sym g.1)
    (by_role g.0.role g.0.below (owner_of_bottoms known h b g.0.below (all_map (λ p. p < b) (λ p. p < length known) g.0.below (λ p k. omega (arith, k, low)) e.below_low) (h.owned b g.0 g.1).below))
  where
    by_role : (r : Role) (ps : List ℕ) → AllByRecursion (λ c. h.owner c ≡ h.owner b) (bottoms_at known ps) → AllByRecursion (λ c. h.owner c ≡ h.owner b) (members_as r known b ps)
    by_role (Client brick) ps all = (refl, tt)
    by_role Replicate ps all = all
    by_role Distribute ps all = tt
    by_role (IoCache pages) ps all = tt
    by_role IoThreads ps all = tt
    by_role Pass ps all = tt

pub apart_members : (known : List Info) (h : Holds known) (b : ℕ) → b < length known → Apart (members_of known b)
apart_members known h b low =
    let g = some_at known b low in
    subst (λ o. Apart (members_in o known b)) (sym g.1) (by_role g.0.role g.0.below (h.entries b g.0 g.1).bottoms)
  where
    by_role : (r : Role) (ps : List ℕ) → Apart (bottoms_at known ps) → Apart (members_as r known b ps)
    by_role (Client brick) ps all = (tt, tt)
    by_role Replicate ps all = all
    by_role Distribute ps all = tt
    by_role (IoCache pages) ps all = tt
    by_role IoThreads ps all = tt
    by_role Pass ps all = tt

bottoms_flat : (known : List Info) (ps : List ℕ) → flat_map (λ p. bottom_at known p ∷ []) ps ≡ bottoms_at known ps
bottoms_flat known [] = refl
bottoms_flat known (p ∷ ps) = ap (λ bs. bottom_at known p ∷ bs) (bottoms_flat known ps)

one_item : (ps : List ℕ) → length ps ≡ 1 → (p : ℕ) × (ps ≡ p ∷ [])
one_item [] e = absurd (omega (arith, e))
one_item (p ∷ []) e = (p, refl)
one_item (p ∷ q ∷ ps) e = absurd (omega (arith, e))

not_here : (q n : ℕ) → q < n → (q == n) ≡ false
not_here q n low = grind (arith, nat_tests)

here_itself : (n : ℕ) → (n == n) ≡ true
here_itself n = grind (arith, nat_tests)

-- what a way down through one volume more leads to
pass_fits : (t : Tree) (s : Role) → StopFits t s → StopFits (grown Pass t) s
pass_fits t (Client brick) h = tt
pass_fits t Replicate h = h
pass_fits t Distribute h = h
pass_fits t (IoCache pages) h = h
pass_fits t IoThreads h = h
pass_fits t Pass h = h

queue_fits : (t : Tree) (s : Role) → StopFits t s → StopFits (grown IoThreads t) s
queue_fits t (Client brick) h = tt
queue_fits t Replicate h = refl
queue_fits t Distribute h = (refl, h.1)
queue_fits t (IoCache pages) h = h
queue_fits t IoThreads h = h
queue_fits t Pass h = h

cache_fits : (pages : ℕ) (t : Tree) (s : Role) → StopFits t s → StopFits (grown (IoCache pages) t) s
cache_fits pages t (Client brick) h = tt
cache_fits pages t Replicate h = refl
cache_fits pages t Distribute h = (refl, h.1)
cache_fits pages t (IoCache more) h = h
cache_fits pages t IoThreads h = h
cache_fits pages t Pass h = h

-- one tree alone, gathered
alone_fits : (t : Tree) (s : Role) → StopFits t s → StopFits (joined no_tree t) s
alone_fits t (Client brick) h = tt
alone_fits t Replicate h = h
alone_fits t Distribute h = h
alone_fits t (IoCache pages) h = h
alone_fits t IoThreads h = h
alone_fits t Pass h = h

or_off : (a b : Bool) → (a || b) ≡ false → (a ≡ false) × (b ≡ false)
or_off true b e = absurd cc
or_off false b e = (refl, e)

any_push : {A : Type 0} (test : A → Bool) (xs : List A) (y : A) → list_any test (xs ++ y ∷ []) ≡ false → (list_any test xs ≡ false) × (test y ≡ false)
any_push test [] y e = (refl, (or_off (test y) false e).0)
any_push test (x ∷ xs) y e =
    let parts = or_off (test x) (list_any test (xs ++ y ∷ [])) e in
    let rest = any_push test xs y parts.1 in (ap (λ b. b || list_any test xs) parts.0 ∙ rest.0, rest.1)

pub none_passes : {A : Type 0} (test : A → Bool) (xs : List A) (i : ℕ) (x : A) → list_any test xs ≡ false → slice_get xs i ≡ Some x → test x ≡ false
none_passes test [] i x e at = absurd cc
none_passes test (y ∷ xs) zero x e at = let same : y ≡ x = cc in ap test (sym same) ∙ (or_off (test y) (list_any test xs) e).0
none_passes test (y ∷ xs) (suc i) x e at = none_passes test xs i x (or_off (test y) (list_any test xs) e).1 at

not_taken : (known : List Info) (b : ℕ) (f : Info) (i : ℕ) → slice_get known i ≡ Some f → f.role ≡ Client b → is_taken known b ≡ false → ⊥
not_taken known b f i at is off =
    let no : has_brick b f.role ≡ false = none_passes (λ k. has_brick b k.role) known i f off at in
    let yes : has_brick b f.role ≡ true = ap (has_brick b) is ∙ here_itself b in absurd cc

pub none_at : (i : ℕ) (f : Info) → slice_get {X = Info} [] i ≡ Some f → ⊥
none_at i f at = absurd (omega (arith, at_within [] i f at))

module _ (known : List Info) (h : Holds known) (role : Role) (below : List ℕ) (low : AllByRecursion (λ p. p < length known) below)
    (unused : AllByRecursion (λ p. is_used known p ≡ false) below) (apart : Apart below) (size : SizeFits role (length below))
    (stands : is_nested role (gathered no_tree known below) ≡ false) (new_brick : (b : ℕ) → role ≡ Client b → is_taken known b ≡ false) where
  abbrev info : Info
  info = record { role = role; below = below; bottom = bottom_of role known below; tree = grown role (gathered no_tree known below) }

  abbrev move : ℕ → ℕ
  move o = cond (has_place o below) (length known) o

  abbrev owner : ℕ → ℕ
  owner q = cond (q == length known) (length known) (move (h.owner q))

  owner_here : owner (length known) ≡ length known
  owner_here = ap (λ b. cond b (length known) (move (h.owner (length known)))) (here_itself (length known))

  owner_old : (q : ℕ) → q < length known → owner q ≡ move (h.owner q)
  owner_old q less = ap (λ b. cond b (length known) (move (h.owner q))) (not_here q (length known) less)

  owner_below : (q p : ℕ) → q < length known → h.owner q ≡ p → has_place p below ≡ true → owner q ≡ owner (length known)
  owner_below q p less is at = owner_old q less ∙ ap move is ∙ ap (λ b. cond b (length known) p) at ∙ sym owner_here

  -- where the way down leads
  record Bottom (b : ℕ) : Type 0 where
    pub upto : b ≤ length known
    pub stop : (end : Info) × (slice_get (known ++ info ∷ []) b ≡ Some end) × StopFits (grown role (gathered no_tree known below)) end.role
    pub owned : owner b ≡ owner (length known)

  itself : StopFits (grown role (gathered no_tree known below)) role → Bottom (length known)
  itself fits = record { upto = omega arith; stop = (info, get_last known info, fits); owned = refl }

  through : length below ≡ 1 → ((t : Tree) (s : Role) → StopFits t s → StopFits (grown role t) s) → Bottom (first_bottom known below)
  through one grows =
      let p = one_item below one in
      let less : p.0 < length known = (subst (AllByRecursion (λ q. q < length known)) p.1 low).0 in
      let free : is_used known p.0 ≡ false = (subst (AllByRecursion (λ q. is_used known q ≡ false)) p.1 unused).0 in
      let at : has_place p.0 below ≡ true = (subst (AllByRecursion (λ q. has_place q below ≡ true)) p.1 (placed below)).0 in
      let g = some_at known p.0 less in
      let e = h.entries p.0 g.0 g.1 in
      let bottom : first_bottom known below ≡ g.0.bottom = ap (first_bottom known) p.1 ∙ ap bottom_in g.1 in
      let tree : gathered no_tree known below ≡ joined no_tree g.0.tree = ap (gathered no_tree known) p.1 ∙ ap (joined_info no_tree) g.1 in
      let in_known : g.0.bottom < length known = omega (arith, e.bottom_low, less) in
      subst Bottom (sym bottom) (record {
        upto = omega (arith, in_known);
        stop = (
          e.stop.end,
          get_old known (info ∷ []) g.0.bottom in_known ∙ e.stop.is,
          subst (λ t. StopFits (grown role t) e.stop.end.role) (sym tree) (grows (joined no_tree g.0.tree) e.stop.end.role (alone_fits g.0.tree e.stop.end.role e.stop.fits)),
        );
        owned = owner_below g.0.bottom p.0 in_known ((h.owned p.0 g.0 g.1).bottom ∙ h.free p.0 less free) at;
      })

  bottom_of_role : (r : Role) → role ≡ r → Bottom (bottom_of r known below)
  bottom_of_role (Client brick) is = itself (subst (λ r. StopFits (grown r (gathered no_tree known below)) r) (sym is) tt)
  bottom_of_role Replicate is = itself (subst (λ r. StopFits (grown r (gathered no_tree known below)) r) (sym is) refl)
  bottom_of_role Distribute is = itself (subst (λ r. StopFits (grown r (gathered no_tree known below)) r) (sym is) (refl, refl))
  bottom_of_role (IoCache pages) is = through (subst (λ r. SizeFits r (length below)) is size) (subst (λ r. (t : Tree) (s : Role) → StopFits t s → StopFits (grown r t) s) (sym is) (cache_fits pages))
  bottom_of_role IoThreads is = through (subst (λ r. SizeFits r (length below)) is size) (subst (λ r. (t : Tree) (s : Role) → StopFits t s → StopFits (grown r t) s) (sym is) queue_fits)
  bottom_of_role Pass is = through (subst (λ r. SizeFits r (length below)) is size) (subst (λ r. (t : Tree) (s : Role) → StopFits t s → StopFits (grown r t) s) (sym is) pass_fits)

  bottom : Bottom (bottom_of role known below)
  bottom = bottom_of_role role refl

  bottom_within : (p : ℕ) → p < length known → bottom_at known p < length known
  bottom_within p less = let g = some_at known p less in subst (λ o. bottom_in o < length known) (sym g.1) (omega (arith, (h.entries p g.0 g.1).bottom_low, less))

  bottoms_owned : AllByRecursion (λ p. AllByRecursion (λ c. h.owner c ≡ p) (bottom_at known p ∷ [])) below
  bottoms_owned = all_zip (λ p. p < length known) (λ p. is_used known p ≡ false) (λ p. AllByRecursion (λ c. h.owner c ≡ p) (bottom_at known p ∷ [])) below (λ p less free. (owner_of_bottom known h p less free, tt)) low unused

  members_owned : AllByRecursion (λ p. AllByRecursion (λ c. h.owner c ≡ p) (members_below known p)) below
  members_owned = all_zip (λ p. p < length known) (λ p. is_used known p ≡ false) (λ p. AllByRecursion (λ c. h.owner c ≡ p) (members_below known p)) below
      (λ p less free. all_map (λ c. h.owner c ≡ h.owner (bottom_at known p)) (λ c. h.owner c ≡ p) (members_below known p) (λ c is. is ∙ owner_of_bottom known h p less free)
      (owner_of_members known h (bottom_at known p) (bottom_within p less))) low unused

  entry_new : Entry (known ++ info ∷ []) (length known) info
  entry_new = record {
    below_low = low;
    bottom_low = bottom.upto;
    size = size;
    stop = record { end = bottom.stop.0; is = bottom.stop.1; fits = bottom.stop.2 };
    stands = ap (is_nested role) (gathered_old known info no_tree below low) ∙ stands;
    below = apart;
    bottoms = subst Apart (bottoms_flat known below ∙ sym (bottoms_old known info below low))
        (apart_flat (λ p. bottom_at known p ∷ []) h.owner below apart bottoms_owned (all_map (λ p. p < length known) (λ p. Apart (bottom_at known p ∷ [])) below (λ p k. (tt, tt)) low));
    members = subst Apart (sym (members_below_old known info h.entries below low))
        (apart_flat (members_below known) h.owner below apart members_owned (all_map (λ p. p < length known) (λ p. Apart (members_below known p)) below (λ p k. apart_members known h (bottom_at known p) (bottom_within p k)) low));
  }

  owned_old : (i : ℕ) (g : Info) → slice_get known i ≡ Some g → Owned owner i g
  owned_old i g at =
      let less = at_within known i g at in
      let e = h.entries i g at in
      let o = h.owned i g at in record {
        below = all_zip (λ p. p < i) (λ p. h.owner p ≡ h.owner i) (λ p. owner p ≡ owner i) g.below (λ p k is. owner_old p (omega (arith, k, less)) ∙ ap move is ∙ sym (owner_old i less)) e.below_low o.below;
        bottom = owner_old g.bottom (omega (arith, e.bottom_low, less)) ∙ ap move o.bottom ∙ sym (owner_old i less);
      }

  owned_new : Owned owner (length known) info
  owned_new = record {
    below = all_zip (λ p. (p < length known) × (is_used known p ≡ false)) (λ p. has_place p below ≡ true) (λ p. owner p ≡ owner (length known)) below (λ p k at. owner_below p p k.0 (h.free p k.0 k.1) at)
        (all_zip (λ p. p < length known) (λ p. is_used known p ≡ false) (λ p. (p < length known) × (is_used known p ≡ false)) below (λ p k free. (k, free)) low unused) (placed below);
    bottom = bottom.owned;
  }

  free_old : (p : ℕ) → p < length known → is_used known p ≡ false → has_place p below ≡ false → owner p ≡ p
  free_old p less free off = owner_old p less ∙ ap move (h.free p less free) ∙ ap (λ b. cond b (length known) p) off

  free_next : (p : ℕ) → p < length (known ++ info ∷ []) → is_used (known ++ info ∷ []) p ≡ false → owner p ≡ p
  free_next p less free =
      let parts = any_push (λ f. has_place p f.below) known info free in
      let x = some_at (known ++ info ∷ []) p less in
      push_case known info p x.0 x.1 (λ at. free_old p (at_within known p x.0 at) parts.0 parts.1) (λ is same. subst (λ q. owner q ≡ q) (sym is) owner_here)

  bricks_next : (i j b : ℕ) (f g : Info) → slice_get (known ++ info ∷ []) i ≡ Some f → slice_get (known ++ info ∷ []) j ≡ Some g → f.role ≡ Client b → g.role ≡ Client b → i ≡ j
  bricks_next i j b f g at to is so =
      push_case known info i f at
      (λ old. push_case known info j g to (λ older. h.bricks i j b f g old older is so) (λ here same. absurd (not_taken known b f i old is (new_brick b (ap (λ (k : Info). k.role) same ∙ so)))))
      (λ here same. push_case known info j g to (λ older. absurd (not_taken known b g j older so (new_brick b (ap (λ (k : Info). k.role) same ∙ is)))) (λ there other. here ∙ sym there))

  pub next_holds : Holds (known ++ info ∷ [])
  next_holds = record {
    owner = owner;
    entries = λ i f at. push_case known info i f at (λ old. entry_old known info h.entries i f (at_within known i f old) (h.entries i f old))
        (λ is same. subst (λ k. Entry (known ++ info ∷ []) k f) (sym is) (subst (Entry (known ++ info ∷ []) (length known)) same entry_new));
    owned = λ i f at. push_case known info i f at (λ old. owned_old i f old) (λ is same. subst (λ k. Owned owner k f) (sym is) (subst (Owned owner (length known)) same owned_new));
    free = free_next;
    bricks = bricks_next;
  }

pub nothing_holds : Holds []
nothing_holds = record {
  owner = λ q. q;
  entries = λ i f at. absurd (none_at i f at);
  owned = λ i f at. absurd (none_at i f at);
  free = λ p less unused. refl;
  bricks = λ i j b f g at to is so. absurd (none_at i f at);
}
