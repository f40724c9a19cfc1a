-- The nodes of a plan are a tree: each is below its one parent, and is reached from the top.
use Rattle.std.proofs.Common.{inl, inr, ◌≡◌, ℕ, zero, suc, ◌+◌, ◌-◌, ◌<◌, ◌≤◌, Bool, true, List, [], ◌∷◌, ◌++◌, length, Option, Some, refl, sym, ap, subst, ◌∙◌, arith}
use Rattle.std.specs.Prelude.{◌⊎◌}
use Rattle.std.specs.List.{slice_get}
use Rattle.std.proofs.lemmas.Bool.{cases_lt, cases_order}
use Rattle.graph_build.specs.PlanRules.{or_zero, has_place, is_used}
use Rattle.graph_build.specs.Plans.{distributed, sets_of, brick_as, number_from, node, tops_at, is_alone}
use Rattle.graph_build.specs.NodeLaw.{child_in, IsChild, IsPath, HasParent, IsReached}
use Rattle.graph_build.specs.declared.infos.Info.{Info}
use Rattle.graph_build.specs.declared.infos.Role.{Role}
use Rattle.graph_build.specs.declared.infos.Role.TheVariants.{Client, Replicate, Distribute, IoCache, IoThreads, Pass}
use Rattle.graph_build.specs.declared.plans.NodePlan.{NodePlan}
use Rattle.graph_build.specs.declared.plans.NodeKind.{NodeKind}
use Rattle.graph_build.specs.declared.plans.NodeKind.TheVariants.{Replicate as ReplicateNode, Distribute as DistributeNode}
use Rattle.graph_build.proofs.Facts.{Holds, some_at, at_within}
use Rattle.graph_build.proofs.VolumeTrees.{all_placed, AllFit}
use Rattle.graph_build.proofs.Ends.{same_some, index_of, nothing_placed, User, user, size_of}
use Rattle.graph_build.proofs.NodeLayout.{IsLaid, Spot, Laid}
use Rattle.graph_build.proofs.Nesting.{Child, child_node}
use Rattle.graph_build.proofs.VolumeNodes.{first_node, NodeAs, node_as, laid_order, first_at, only_child, top_child, child_top}

-- what is known of a plan's volumes and nodes
pub record Whole (infos : List Info) (bricks : ℕ) (bases tops : List ℕ) (nodes : List NodePlan) : Type 0 where
  pub holds : Holds infos
  pub fits : AllFit bricks infos
  pub used : (p : ℕ) → p + 1 < length infos → is_used infos p ≡ true
  pub some : 1 ≤ length infos
  pub laid : Laid (is_alone (distributed infos)) (sets_of infos) infos bases tops nodes

module _ (infos : List Info) (bricks : ℕ) (bases tops : List ℕ) (nodes : List NodePlan) (whole : Whole infos bricks bases tops nodes) where
  abbrev h : Holds infos
  h = whole.holds

  abbrev fits : AllFit bricks infos
  fits = whole.fits

  abbrev used : (p : ℕ) → p + 1 < length infos → is_used infos p ≡ true
  used = whole.used

  abbrev some : 1 ≤ length infos
  some = whole.some

  abbrev laid : Laid (is_alone (distributed infos)) (sets_of infos) infos bases tops nodes
  laid = whole.laid

  abbrev alone : Bool
  alone = is_alone (distributed infos)

  abbrev sets : List ℕ
  sets = sets_of infos

  abbrev number : ℕ → Option ℕ
  number p = number_from 0 (sets_of infos) p

  abbrev top : ℕ → ℕ
  top p = or_zero (slice_get tops p)

  abbrev At : ℕ → Type 0
  At x = Spot infos bases tops x

  top_at : (i : ℕ) (g : Info) → slice_get infos i ≡ Some g → slice_get tops i ≡ Some (top i)
  top_at i g at = let b = laid.blocks i g at in b.top_at ∙ ap Some (sym (ap or_zero b.top_at))

  pub spot_laid : (x : ℕ) (s : At x) → IsLaid alone s.info.role (number s.place) nodes (tops_at tops s.info.below) s.base s.top
  spot_laid x s =
      let b = laid.blocks s.place s.info s.at in
      subst (λ t. IsLaid alone s.info.role (number s.place) nodes (tops_at tops s.info.below) s.base t) (same_some b.top s.top (sym b.top_at ∙ s.top_at))
      (subst (λ u. IsLaid alone s.info.role (number s.place) nodes (tops_at tops s.info.below) u b.top) (same_some b.base s.base (sym b.base_at ∙ s.base_at)) b.laid)

  spot_after : (x : ℕ) (s : At x) (j t : ℕ) → j < s.place → slice_get tops j ≡ Some t → t < s.base
  spot_after x s j t before e = let b = laid.blocks s.place s.info s.at in subst (λ u. t < u) (same_some b.base s.base (sym b.base_at ∙ s.base_at)) (b.after j t before e)

  -- the last node of a volume
  unfoldable pub spot_top : (i : ℕ) (g : Info) → slice_get infos i ≡ Some g → At (top i)
  spot_top i g at =
      let b = laid.blocks i g at in
      let is : top i ≡ b.top = ap or_zero b.top_at in
      record {
        place = i;
        info = g;
        at = at;
        base = b.base;
        top = b.top;
        base_at = b.base_at;
        top_at = b.top_at;
        from = omega (arith, is, laid_order alone g.role (number i) nodes (tops_at tops g.below) b.base b.top b.laid);
        to = omega (arith, is);
      }

  pub spot_node : (x : ℕ) (s : At x) (n : NodePlan) → slice_get nodes x ≡ Some n → NodeAs alone s.info.role (number s.place) nodes (tops_at tops s.info.below) s.base s.top x n
  spot_node x s n at = node_as alone s.info.role (number s.place) nodes (tops_at tops s.info.below) s.base s.top x n (spot_laid x s) s.from s.to at

  -- ---- a node and its child: in one volume, or the first of one and the last of another
  pub record Between (place : ℕ) (f : Info) (base x y : ℕ) : Type 0 where
    pub child : ℕ
    pub info : Info
    pub at : slice_get infos child ≡ Some info
    pub has : has_place child f.below ≡ true
    pub is : y ≡ top child
    pub here : x ≡ base

  abbrev pub Link : (x : ℕ) → At x → ℕ → Type 0
  Link x s y = ((s.base ≤ y) × (y + 1 ≡ x)) ⊎ Between s.place s.info s.base x y

  first_children : (r : Role) (k : Option ℕ) (cs : List ℕ) (j y : ℕ) → slice_get (first_node r k cs).children j ≡ Some y → slice_get cs j ≡ Some y
  first_children (Client brick) k cs j y e = absurd cc
  first_children Replicate k cs j y e = e
  first_children Distribute k cs j y e = e
  first_children (IoCache pages) k cs j y e = e
  first_children IoThreads k cs j y e = e
  first_children Pass k cs j y e = e

  pub child_info : (place : ℕ) (f : Info) (i : ℕ) → slice_get infos place ≡ Some f → has_place i f.below ≡ true → (i < place) × ((g : Info) × (slice_get infos i ≡ Some g))
  child_info place f i at has =
      let low : i < place = all_placed (λ q. q < place) f.below i (fits.each place f at).low has in (low, some_at infos i (omega (arith, low, at_within infos place f at)))

  pub link : (x y : ℕ) (s : At x) → IsChild nodes x y → Link x s y
  link x y s c = by_node (spot_node x s p.node p.at)
    where
      p : Child nodes x y
      p = child_node nodes x y c

      by_node : NodeAs alone s.info.role (number s.place) nodes (tops_at tops s.info.below) s.base s.top x p.node → Link x s y
      by_node (inl f) =
          let e : slice_get (first_node s.info.role (number s.place) (tops_at tops s.info.below)).children p.number ≡ Some y = subst (λ (n : NodePlan). slice_get n.children p.number ≡ Some y) f.is p.child in
          let t = top_child tops s.info.below p.number y (first_children s.info.role (number s.place) (tops_at tops s.info.below) p.number y e) in
          let g = child_info s.place s.info t.0 s.at t.1 in
          inr (record { child = t.0; info = g.1.0; at = g.1.1; has = t.1; is = t.2; here = f.here })
      by_node (inr (inl r)) =
          let e : y ≡ s.base = only_child s.base p.number y (subst (λ (n : NodePlan). slice_get n.children p.number ≡ Some y) r.is p.child) in inl (omega (arith, e), omega (arith, e, r.here))
      by_node (inr (inr d)) =
          let e : y ≡ d.under = only_child d.under p.number y (subst (λ (n : NodePlan). slice_get n.children p.number ≡ Some y) d.is p.child) in inl (omega (arith, e, d.from), omega (arith, e, d.here))

  pub in_nodes : (x y : ℕ) → IsChild nodes x y → x < length nodes
  in_nodes x y c = let p = child_node nodes x y c in at_within nodes x p.node p.at

  pub below_parent : (x y : ℕ) → IsChild nodes x y → y < x
  below_parent x y c = by_link (laid.spots x (in_nodes x y c)) (link x y (laid.spots x (in_nodes x y c)) c)
    where
      by_link : (s : At x) → Link x s y → y < x
      by_link s (inl w) = omega (arith, w.1)
      by_link s (inr b) =
          let low = child_info s.place s.info b.child s.at b.has in
          let under : top b.child < s.base = spot_after x s b.child (top b.child) low.0 (top_at b.child b.info b.at) in omega (arith, under, b.is, b.here)

  -- ---- one parent
  -- a last node is in one volume
  one_spot : (i : ℕ) (g : Info) → slice_get infos i ≡ Some g → (x : ℕ) (s : At x) → s.base ≤ top i → top i ≤ s.top → i ≡ s.place
  unfolding spot_top
  one_spot i g at x s from to = by_order (cases_order i s.place)
    where
      by_order : (i ≡ s.place) ⊎ ((i < s.place) ⊎ (s.place < i)) → i ≡ s.place
      by_order (inl same) = same
      by_order (inr (inl less)) = let under : top i < s.base = spot_after x s i (top i) less (top_at i g at) in absurd (omega (arith, under, from))
      by_order (inr (inr more)) =
          let t = spot_top i g at in
          let under : s.top < t.base = spot_after (top i) t s.place s.top more s.top_at in absurd (omega (arith, under, t.from, to))

  -- a node of a volume that is not its last has the next one over it
  put_over : (x : ℕ) (s : At x) → x < s.top → IsChild nodes (x + 1) x
  put_over x s less = by_node (spot_node (x + 1) next n.0 n.1)
    where
      within : x + 1 < length nodes
      within = let low : s.top < length nodes = laid.low s.place s.top s.top_at in omega (arith, low, less)

      n : (n : NodePlan) × (slice_get nodes (x + 1) ≡ Some n)
      n = some_at nodes (x + 1) within

      next : At (x + 1)
      next = record { place = s.place; info = s.info; at = s.at; base = s.base; top = s.top; base_at = s.base_at; top_at = s.top_at; from = omega (arith, s.from); to = omega (arith, less) }

      over : (u : ℕ) (kind : NodeKind) → u ≡ x → n.0 ≡ node kind (u ∷ []) → IsChild nodes (x + 1) x
      over u kind same is = record { number = 0; is = ap (λ o. child_in o 0) (n.1 ∙ ap Some is) ∙ ap Some same }

      by_node : NodeAs alone s.info.role (number s.place) nodes (tops_at tops s.info.below) s.base s.top (x + 1) n.0 → IsChild nodes (x + 1) x
      by_node (inl f) = absurd (omega (arith, f.here, s.from))
      by_node (inr (inl r)) = over s.base (ReplicateNode r.set) (omega (arith, r.here)) r.is
      by_node (inr (inr d)) = over d.under DistributeNode (omega (arith, d.here)) d.is

  parent_within : (x : ℕ) (s : At x) → x < s.top → HasParent nodes x
  parent_within x s less = record { parent = x + 1; is = put_over x s less; only = λ p c. only p c (laid.spots p (in_nodes p x c)) (link p x (laid.spots p (in_nodes p x c)) c) }
    where
      only : (p : ℕ) → IsChild nodes p x → (t : At p) → Link p t x → p ≡ x + 1
      only p c t (inl w) = sym w.1
      only p c t (inr b) =
          let same : b.child ≡ s.place = one_spot b.child b.info b.at x s (omega (arith, b.is, s.from)) (omega (arith, b.is, less)) in
          let is : x ≡ s.top = b.is ∙ ap top same ∙ ap or_zero s.top_at in absurd (omega (arith, is, less))

  first_child : (r : Role) (k : Option ℕ) (cs : List ℕ) (j y : ℕ) → (r ≡ Client (brick_as r) → ⊥) → slice_get cs j ≡ Some y → slice_get (first_node r k cs).children j ≡ Some y
  first_child (Client brick) k cs j y never e = absurd (never refl)
  first_child Replicate k cs j y never e = e
  first_child Distribute k cs j y never e = e
  first_child (IoCache pages) k cs j y never e = e
  first_child IoThreads k cs j y never e = e
  first_child Pass k cs j y never e = e

  parent_of_top : (i : ℕ) (g : Info) → slice_get infos i ≡ Some g → i + 1 < length infos → HasParent nodes (top i)
  unfolding spot_top
  parent_of_top i g at far =
      let u = user infos h bricks fits used some i far in
      let b = laid.blocks u.place u.info u.at in
      let k = index_of u.info.below i u.has in
      let first = first_at alone u.info.role (number u.place) nodes (tops_at tops u.info.below) b.base b.top b.laid in
      let no_client : u.info.role ≡ Client (brick_as u.info.role) → ⊥ = λ is. nothing_placed u.info.below i (size_of infos h bricks fits used some u.place u.info (Client (brick_as u.info.role)) u.at is) u.has in
      let child : slice_get (first_node u.info.role (number u.place) (tops_at tops u.info.below)).children k.0 ≡ Some (top i) =
      first_child u.info.role (number u.place) (tops_at tops u.info.below) k.0 (top i) no_client (child_top tops u.info.below k.0 i k.1) in
      record {
        parent = b.base;
        is = record { number = k.0; is = ap (λ o. child_in o k.0) first ∙ child };
        only = λ p c. only u b.base b.base_at p (laid.spots p (in_nodes p (top i) c)) (link p (top i) (laid.spots p (in_nodes p (top i) c)) c);
      }
    where
      only : (u : User infos h bricks fits used some i) (base : ℕ) → slice_get bases u.place ≡ Some base → (p : ℕ) (t : At p) → Link p t (top i) → p ≡ base
      only u base base_at p t (inl w) =
          let same : i ≡ t.place = one_spot i g at p t w.0 (omega (arith, w.1, t.to)) in
          let is : top i ≡ t.top = ap top same ∙ ap or_zero t.top_at in absurd (omega (arith, is, w.1, t.to))
      only u base base_at p t (inr b) =
          let s = spot_top b.child b.info b.at in
          let last : top b.child ≡ s.top = ap or_zero s.top_at in
          let same : i ≡ b.child = one_spot i g at (top b.child) s (omega (arith, b.is, s.from)) (omega (arith, b.is, last)) in
          let user_same : u.place ≡ t.place = fits.once.once u.place t.place i u.info t.info u.at t.at u.has (subst (λ x. has_place x t.info.below ≡ true) (sym same) b.has) in
          b.here ∙ same_some t.base base (sym t.base_at ∙ ap (slice_get bases) (sym user_same) ∙ base_at)

  pub has_parent : (x : ℕ) → x + 1 < length nodes → HasParent nodes x
  has_parent x far = by_place (laid.spots x (omega (arith, far)))
    where
      by_place : At x → HasParent nodes x
      by_place s = by_order (cases_lt x s.top)
        where
          last : s.place ≡ length infos - 1 → s.top + 1 ≡ length nodes
          last is = laid.last s.top (sym (ap (slice_get tops) is) ∙ s.top_at)

          by_end : (s.place + 1 < length infos) ⊎ (length infos ≤ s.place + 1) → s.top ≤ x → HasParent nodes x
          by_end (inl more) upto =
              let is : top s.place ≡ x = ap or_zero s.top_at ∙ omega (arith, upto, s.to) in subst (HasParent nodes) is (parent_of_top s.place s.info s.at more)
          by_end (inr end) upto =
              let low : s.place < length infos = at_within infos s.place s.info s.at in
              let is : s.place ≡ length infos - 1 = omega (arith, low, end) in absurd (omega (arith, last is, far, upto, s.to))

          by_order : (x < s.top) ⊎ (s.top ≤ x) → HasParent nodes x
          by_order (inl less) = parent_within x s less
          by_order (inr upto) = by_end (cases_lt (s.place + 1) (length infos)) upto

  -- ---- from the top
  path_longer : (x y z : ℕ) (path : List ℕ) → IsPath nodes x path y → IsChild nodes y z → IsPath nodes x (path ++ z ∷ []) z
  path_longer x y z [] p c = (subst (λ q. IsChild nodes q z) (sym p) c, refl)
  path_longer x y z (q ∷ path) p c = (p.0, path_longer q y z path p.1 c)

  pub reached_by : (n x : ℕ) → x < length nodes → length nodes ≤ x + n → IsReached nodes x
  reached_by zero x low near = absurd (omega (arith, low, near))
  reached_by (suc n) x low near = by_last (cases_lt (x + 1) (length nodes)) (λ y less more. reached_by n y less (omega (arith, near, more)))
    where
      by_last : (x + 1 < length nodes) ⊎ (length nodes ≤ x + 1) → ((y : ℕ) → y < length nodes → x < y → IsReached nodes y) → IsReached nodes x
      by_last (inr close) more = record { path = []; down = omega (arith, low, close) }
      by_last (inl far) more =
          let p = has_parent x far in
          let r = more p.parent (in_nodes p.parent x p.is) (below_parent p.parent x p.is) in record { path = r.path ++ x ∷ []; down = path_longer (length nodes - 1) p.parent x r.path r.down p.is }
