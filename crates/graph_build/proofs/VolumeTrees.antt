-- The volumes of a plan as trees: what is below a volume is covered by its tree, the way down ends where its only
-- subvolume's does, and no two volumes are over the same one.
use Rattle.std.proofs.Common.{◌≡◌, ℕ, ◌<◌, ◌≤◌, ◌==◌, ◌&&◌, ◌||◌, Bool, true, false, cond, ltb, List, [], ◌∷◌, ◌++◌, length, Option, Some, None, refl, sym, ap, subst, ◌∙◌, arith}
use Rattle.std.specs.List.{AllByRecursion, slice_get}
use Rattle.std.proofs.lemmas.Bool.Decides.{nat_tests}
use Rattle.volfile.specs.Volumes.{IsBlock}
use Rattle.volfile.specs.declared.volumes.Volume.{Volume}
use Rattle.volfile.specs.declared.brick_lines.BrickLine.{BrickLine}
use Rattle.graph_build.specs.PlanRules.{has_place, places_of, no_tree, joined, joined_info, gathered, grown, first_bottom, bottom_of, is_used}
use Rattle.graph_build.specs.declared.infos.Tree.{Tree}
use Rattle.graph_build.specs.declared.infos.Info.{Info}
use Rattle.graph_build.specs.declared.infos.Role.{Role}
use Rattle.graph_build.specs.declared.infos.Role.TheVariants.{Client, Replicate, Distribute, IoCache, IoThreads, Pass}
use Rattle.graph_build.proofs.Apart.{all_map, none_repeats}
use Rattle.graph_build.proofs.Steps.{Step, places_within}
use Rattle.graph_build.proofs.Facts.{at_within, push_case, bottom_old, gathered_old, none_passes, none_at}
use Rattle.graph_build.proofs.RoleFacts.{RoleValues, role_fits}

pub all_placed : (P : ℕ → Type 0) (ps : List ℕ) (p : ℕ) → AllByRecursion P ps → has_place p ps ≡ true → P p
all_placed P [] p all e = absurd cc
all_placed P (q ∷ ps) p all e = by_test (p == q) refl (all_placed P ps p all.1) e
  where
    by_test : (b : Bool) → (p == q) ≡ b → (has_place p ps ≡ true → P p) → (b || has_place p ps) ≡ true → P p
    by_test true is rest h = let same : p ≡ q = grind (arith, nat_tests) in subst P (sym same) all.0
    by_test false is rest h = rest h

-- ---- no two volumes are over the same one
pub record Once (known : List Info) : Type 0 where
  pub once : (i j p : ℕ) (f g : Info) → slice_get known i ≡ Some f → slice_get known j ≡ Some g → has_place p f.below ≡ true → has_place p g.below ≡ true → i ≡ j

-- ---- one volume
-- where the way down from a volume at this place ends
abbrev pub end_of : Role → List Info → ℕ → List ℕ → ℕ
end_of (Client brick) known place below = place
end_of Replicate known place below = place
end_of Distribute known place below = place
end_of (IoCache pages) known place below = first_bottom known below
end_of IoThreads known place below = first_bottom known below
end_of Pass known place below = first_bottom known below

pub record Fits (bricks : ℕ) (known : List Info) (i : ℕ) (f : Info) : Type 0 where
  pub low : AllByRecursion (λ p. p < i) f.below
  pub tree : f.tree ≡ grown f.role (gathered no_tree known f.below)
  pub end : f.bottom ≡ end_of f.role known i f.below
  pub shallow : (gathered no_tree known f.below).depth < 24
  pub values : RoleValues bricks f.role

pub record AllFit (bricks : ℕ) (known : List Info) : Type 0 where
  pub each : (i : ℕ) (f : Info) → slice_get known i ≡ Some f → Fits bricks known i f
  pub once : Once known

first_old : (known : List Info) (f : Info) (ps : List ℕ) → AllByRecursion (λ p. p < length known) ps → first_bottom (known ++ f ∷ []) ps ≡ first_bottom known ps
first_old known f [] low = refl
first_old known f (p ∷ ps) low = bottom_old known f p low.0

end_old : (r : Role) (known : List Info) (f : Info) (i : ℕ) (ps : List ℕ) → AllByRecursion (λ p. p < length known) ps → end_of r (known ++ f ∷ []) i ps ≡ end_of r known i ps
end_old (Client brick) known f i ps low = refl
end_old Replicate known f i ps low = refl
end_old Distribute known f i ps low = refl
end_old (IoCache pages) known f i ps low = first_old known f ps low
end_old IoThreads known f i ps low = first_old known f ps low
end_old Pass known f i ps low = first_old known f ps low

end_new : (r : Role) (known : List Info) (ps : List ℕ) → bottom_of r known ps ≡ end_of r known (length known) ps
end_new (Client brick) known ps = refl
end_new Replicate known ps = refl
end_new Distribute known ps = refl
end_new (IoCache pages) known ps = refl
end_new IoThreads known ps = refl
end_new Pass known ps = refl

fits_old : (bricks : ℕ) (known : List Info) (f : Info) (i : ℕ) (g : Info) → i < length known → Fits bricks known i g → Fits bricks (known ++ f ∷ []) i g
fits_old bricks known f i g less h =
    let within : AllByRecursion (λ p. p < length known) g.below = all_map (λ p. p < i) (λ p. p < length known) g.below (λ p k. omega (arith, k, less)) h.low in
    let tree : gathered no_tree (known ++ f ∷ []) g.below ≡ gathered no_tree known g.below = gathered_old known f no_tree g.below within in
    record {
      low = h.low;
      tree = h.tree ∙ ap (grown g.role) (sym tree);
      end = h.end ∙ sym (end_old g.role known f i g.below within);
      shallow = subst (λ (t : Tree). t.depth < 24) (sym tree) h.shallow;
      values = h.values;
    }

module _ (bricks : ℕ) (known : List Info) (role : Role) (below : List ℕ) (low : AllByRecursion (λ p. p < length known) below)
    (unused : AllByRecursion (λ p. is_used known p ≡ false) below) (shallow : (gathered no_tree known below).depth < 24) (values : RoleValues bricks role) (h : AllFit bricks known) where
  abbrev info : Info
  info = record { role = role; below = below; bottom = bottom_of role known below; tree = grown role (gathered no_tree known below) }

  fits_new : Fits bricks (known ++ info ∷ []) (length known) info
  fits_new =
      let tree : gathered no_tree (known ++ info ∷ []) below ≡ gathered no_tree known below = gathered_old known info no_tree below low in
      record {
        low = low;
        tree = ap (grown role) (sym tree);
        end = end_new role known below ∙ sym (end_old role known info (length known) below low);
        shallow = subst (λ (t : Tree). t.depth < 24) (sym tree) shallow;
        values = values;
      }

  -- no earlier volume is over what the new one is over
  apart : (i p : ℕ) (f g : Info) → slice_get known i ≡ Some f → info ≡ g → has_place p f.below ≡ true → has_place p g.below ≡ true → ⊥
  apart i p f g at same in_f in_g =
      let here : has_place p below ≡ true = subst (λ (k : Info). has_place p k.below ≡ true) (sym same) in_g in
      let free : is_used known p ≡ false = all_placed (λ q. is_used known q ≡ false) below p unused here in
      let off : has_place p f.below ≡ false = none_passes (λ (k : Info). has_place p k.below) known i f free at in
      absurd cc

  once_next : (i j p : ℕ) (f g : Info) → slice_get (known ++ info ∷ []) i ≡ Some f → slice_get (known ++ info ∷ []) j ≡ Some g → has_place p f.below ≡ true → has_place p g.below ≡ true → i ≡ j
  once_next i j p f g at to in_f in_g =
      push_case known info i f at
      (λ old. push_case known info j g to (λ older. h.once.once i j p f g old older in_f in_g) (λ here same. absurd (apart i p f g old same in_f in_g)))
      (λ here same. push_case known info j g to (λ older. absurd (apart j p g f older same in_g in_f)) (λ there other. here ∙ sym there))

  pub next_fits : AllFit bricks (known ++ info ∷ [])
  next_fits = record {
    each = λ i f at. push_case known info i f at (λ old. fits_old bricks known info i f (at_within known i f old) (h.each i f old))
        (λ is same. subst (λ k. Fits bricks (known ++ info ∷ []) k f) (sym is) (subst (Fits bricks (known ++ info ∷ []) (length known)) same fits_new));
    once = record { once = once_next };
  }

pub nothing_fits : (bricks : ℕ) → AllFit bricks []
nothing_fits bricks = record {
  each = λ i f at. absurd (none_at i f at);
  once = record { once = λ i j p f g at to in_f in_g. absurd (none_at i f at) };
}

pub fits_next : (volumes : List Volume) (bricks : List BrickLine) (known : List Info) (done rest : List Volume) (v : Volume) (f : Info) → volumes ≡ done ++ v ∷ rest → length known ≡ length done → IsBlock done v
    → AllFit (length bricks) known → Step bricks known v (places_of volumes v.subvolumes) f → AllFit (length bricks) (known ++ f ∷ [])
fits_next volumes bricks known done rest v f is size block h s =
    let below = places_of volumes v.subvolumes in
    let low : AllByRecursion (λ p. p < length known) below =
    subst (λ vs. AllByRecursion (λ p. p < length known) (places_of vs v.subvolumes)) (sym is) (subst (λ n. AllByRecursion (λ p. p < n) (places_of (done ++ v ∷ rest) v.subvolumes)) (sym size) (places_within done (v ∷ rest) v.subvolumes block.defined)) in
    let fits = role_fits bricks known v s.role s.is_role in
    let parts = none_repeats (is_used known) below s.apart in
    subst (λ k. AllFit (length bricks) (known ++ k ∷ [])) (sym s.is) (next_fits (length bricks) known s.role below low parts.0 s.shallow fits.values h)

-- ---- a tree covers what is below it
pub record Covers (b a : Tree) : Type 0 where
  pub depth : a.depth ≤ b.depth
  pub plain : b.plain ≡ true → a.plain ≡ true
  pub distribute : b.distribute ≡ false → a.distribute ≡ false
  pub cache : b.cache ≡ false → a.cache ≡ false
  pub queue : b.queue ≡ false → a.queue ≡ false

covers_itself : (a : Tree) → Covers a a
covers_itself a = record { depth = omega arith; plain = λ e. e; distribute = λ e. e; cache = λ e. e; queue = λ e. e }

covers_through : (a b c : Tree) → Covers c b → Covers b a → Covers c a
covers_through a b c h k = record {
  depth = omega (arith, h.depth, k.depth);
  plain = λ e. k.plain (h.plain e);
  distribute = λ e. k.distribute (h.distribute e);
  cache = λ e. k.cache (h.cache e);
  queue = λ e. k.queue (h.queue e);
}

and_left : (a b : Bool) → (a && b) ≡ true → a ≡ true
and_left true b e = refl
and_left false b e = absurd cc

and_right : (a b : Bool) → (a && b) ≡ true → b ≡ true
and_right true b e = e
and_right false b e = absurd cc

or_left : (a b : Bool) → (a || b) ≡ false → a ≡ false
or_left true b e = absurd cc
or_left false b e = refl

or_right : (a b : Bool) → (a || b) ≡ false → b ≡ false
or_right true b e = absurd cc
or_right false b e = e

left_deep : (m n : ℕ) → m ≤ cond (ltb m n) n m
left_deep m n = grind (arith, nat_tests)

right_deep : (m n : ℕ) → n ≤ cond (ltb m n) n m
right_deep m n = grind (arith, nat_tests)

joined_left : (a b : Tree) → Covers (joined a b) a
joined_left a b = record {
  depth = left_deep a.depth b.depth;
  plain = and_left a.plain b.plain;
  distribute = or_left a.distribute b.distribute;
  cache = or_left a.cache b.cache;
  queue = or_left a.queue b.queue;
}

joined_right : (a b : Tree) → Covers (joined a b) b
joined_right a b = record {
  depth = right_deep a.depth b.depth;
  plain = and_right a.plain b.plain;
  distribute = or_right a.distribute b.distribute;
  cache = or_right a.cache b.cache;
  queue = or_right a.queue b.queue;
}

joined_first : (a : Tree) (o : Option Info) → Covers (joined_info a o) a
joined_first a None = covers_itself a
joined_first a (Some f) = joined_left a f.tree

first_covered : (first : Tree) (known : List Info) (ps : List ℕ) → Covers (gathered first known ps) first
first_covered first known [] = covers_itself first
first_covered first known (p ∷ ps) = covers_through first _ _ (first_covered (joined_info first (slice_get known p)) known ps) (joined_first first (slice_get known p))

pub below_covered : (first : Tree) (known : List Info) (ps : List ℕ) (p : ℕ) (f : Info) → has_place p ps ≡ true → slice_get known p ≡ Some f → Covers (gathered first known ps) f.tree
below_covered first known [] p f e at = absurd cc
below_covered first known (q ∷ ps) p f e at = by_test (p == q) refl (λ h. below_covered (joined_info first (slice_get known q)) known ps p f h at) e
  where
    by_test : (b : Bool) → (p == q) ≡ b → (has_place p ps ≡ true → Covers (gathered (joined_info first (slice_get known q)) known ps) f.tree) → (b || has_place p ps) ≡ true → Covers (gathered (joined_info first (slice_get known q)) known ps) f.tree
    by_test true is rest h =
        let same : p ≡ q = grind (arith, nat_tests) in
        let here : joined_info first (slice_get known q) ≡ joined first f.tree = ap (λ k. joined_info first (slice_get known k)) (sym same) ∙ ap (joined_info first) at in
        covers_through f.tree (joined_info first (slice_get known q)) _ (first_covered (joined_info first (slice_get known q)) known ps) (subst (λ t. Covers t f.tree) (sym here) (joined_right first f.tree))
    by_test false is rest h = rest h
