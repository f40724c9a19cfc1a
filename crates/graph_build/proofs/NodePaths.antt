-- The length of the paths of a plan, and that none has two io-caches.
use Rattle.std.proofs.Common.{inl, inr, ◌≡◌, ℕ, ◌+◌, ◌-◌, ◌<◌, ◌≤◌, Bool, true, false, List, [], ◌∷◌, length, Option, Some, refl, ap, subst, ◌∙◌, arith}
use Rattle.std.specs.List.{slice_get}
use Rattle.graph_build.specs.PlanRules.{or_zero, has_place, no_tree, gathered, grown, bottom_at, first_bottom, is_used}
use Rattle.graph_build.specs.Plans.{distributed, sets_of, number_from, tops_at, is_alone}
use Rattle.graph_build.specs.NodeLaw.{kind_at, IsPath}
use Rattle.graph_build.specs.declared.infos.Tree.{Tree}
use Rattle.graph_build.specs.declared.infos.Info.{Info}
use Rattle.graph_build.specs.declared.infos.Role.{Role}
use Rattle.graph_build.specs.declared.infos.Role.TheVariants.{Client, Replicate, Distribute, IoCache, IoThreads, Pass}
use Rattle.graph_build.specs.declared.plans.NodePlan.{NodePlan}
use Rattle.graph_build.specs.declared.plans.NodeKind.{NodeKind}
use Rattle.graph_build.specs.declared.plans.NodeKind.TheVariants.{Replicate as ReplicateNode, Distribute as DistributeNode, IoCache as IoCacheNode}
use Rattle.graph_build.proofs.Facts.{Holds}
use Rattle.graph_build.proofs.VolumeTrees.{end_of, AllFit, Covers, below_covered}
use Rattle.graph_build.proofs.Ends.{nothing_placed, only_placed, bottom_here, size_of, placed_bottom, below_is, stands_as, replica_end, replica_no_set}
use Rattle.graph_build.proofs.NodeLayout.{IsLaid, Spot, Laid}
use Rattle.graph_build.proofs.VolumeNodes.{NodeAs, grown_depth, grown_cache, not_so, is_cache, caps, extra_as, extra_in, low_as, EndFits, extra_in_few, caps_few, extra_fits, Kinded, kind_node}
use Rattle.graph_build.proofs.NodeTree.{Whole, spot_laid, spot_top, spot_node, Link, link, in_nodes}

module _ (infos : List Info) (bricks : ℕ) (bases tops : List ℕ) (nodes : List NodePlan) (whole : Whole infos bricks bases tops nodes) where
  abbrev h : Holds infos
  h = whole.holds

  abbrev fits : AllFit bricks infos
  fits = whole.fits

  abbrev used : (p : ℕ) → p + 1 < length infos → is_used infos p ≡ true
  used = whole.used

  abbrev some : 1 ≤ length infos
  some = whole.some

  abbrev laid : Laid (is_alone (distributed infos)) (sets_of infos) infos bases tops nodes
  laid = whole.laid

  abbrev alone : Bool
  alone = is_alone (distributed infos)

  abbrev sets : List ℕ
  sets = sets_of infos

  abbrev number : ℕ → Option ℕ
  number p = number_from 0 (sets_of infos) p

  abbrev top : ℕ → ℕ
  top p = or_zero (slice_get tops p)

  abbrev At : ℕ → Type 0
  At x = Spot infos bases tops x

  -- ---- the length of a path
  abbrev most : ℕ
  most = caps (is_alone (distributed infos)) + 1

  abbrev extra : ℕ → ℕ
  extra b = extra_in most (slice_get infos b) (number b)

  abbrev rank : (x : ℕ) → At x → ℕ
  rank x s = s.info.tree.depth + low_as most s.info.role (extra (bottom_at infos s.place)) + (x - s.base)

  end_fits : (i : ℕ) (f : Info) (r : Role) → slice_get infos i ≡ Some f → f.role ≡ r → EndFits most r (number i) (extra (bottom_at infos i))
  end_fits i f r at is = by_role r is
    where
      here : (q : Role) → f.role ≡ q → end_of q infos i f.below ≡ i → extra (bottom_at infos i) ≡ extra_as most q (number i)
      here q same end =
          let bottom : bottom_at infos i ≡ i = bottom_here infos h bricks fits used some i f at ∙ ap (λ k. end_of k infos i f.below) same ∙ end in
          ap extra bottom ∙ ap (λ o. extra_in most o (number i)) at ∙ ap (λ k. extra_as most k (number i)) same

      by_role : (q : Role) → f.role ≡ q → EndFits most q (number i) (extra (bottom_at infos i))
      by_role (Client brick) same = here (Client brick) same refl
      by_role Replicate same = here Replicate same refl
      by_role Distribute same = here Distribute same refl
      by_role (IoCache pages) same = tt
      by_role IoThreads same = tt
      by_role Pass same = tt

  rank_fits : (x : ℕ) (s : At x) → low_as most s.info.role (extra (bottom_at infos s.place)) + (x - s.base) ≤ extra (bottom_at infos s.place)
  rank_fits x s =
      let all : low_as most s.info.role (extra (bottom_at infos s.place)) + (s.top - s.base) ≤ extra (bottom_at infos s.place) =
      extra_fits alone s.info.role (number s.place) nodes (tops_at tops s.info.below) s.base s.top (extra (bottom_at infos s.place)) (spot_laid infos bricks bases tops nodes whole x s) (end_fits s.place s.info s.info.role s.at refl) in
      omega (arith, all, s.to, s.from)

  -- what a volume below another has put in, the other has below its first node
  edge_through : (place : ℕ) (f : Info) (c : ℕ) → slice_get infos place ≡ Some f → has_place c f.below ≡ true → length f.below ≡ 1 → bottom_at infos place ≡ first_bottom infos f.below → extra (bottom_at infos c) ≤ extra (bottom_at infos place)
  edge_through place f c at has one end =
      let same : bottom_at infos place ≡ bottom_at infos c = end ∙ ap (first_bottom infos) (only_placed f.below c one has) in
      let both : extra (bottom_at infos place) ≡ extra (bottom_at infos c) = ap extra same in omega (arith, both)

  edge : (place : ℕ) (f : Info) (c : ℕ) (r : Role) → slice_get infos place ≡ Some f → has_place c f.below ≡ true → f.role ≡ r → extra (bottom_at infos c) ≤ low_as most r (extra (bottom_at infos place))
  edge place f c (Client brick) at has is = absurd (nothing_placed f.below c (size_of infos h bricks fits used some place f (Client brick) at is) has)
  edge place f c Replicate at has is =
      let b = below_is infos h bricks fits used some place f c at has in
      let k = replica_end infos h bricks fits used some place f c at has is in
      let none = replica_no_set infos h bricks fits used some (bottom_at infos c) (record { place = place; info = f; at = at; role = is; among = placed_bottom infos h bricks fits used some f.below c has }) in
      let zero_is : extra (bottom_at infos c) ≡ 0 = ap (λ o. extra_in most o (number (bottom_at infos c))) b.end_at ∙ ap (λ r. extra_as most r (number (bottom_at infos c))) k.1 ∙ ap (extra_as most (Client k.0)) none in
      omega (arith, zero_is)
  edge place f c Distribute at has is = extra_in_few most (slice_get infos (bottom_at infos c)) (number (bottom_at infos c))
  edge place f c (IoCache pages) at has is = edge_through place f c at has (size_of infos h bricks fits used some place f (IoCache pages) at is) (bottom_here infos h bricks fits used some place f at ∙ ap (λ k. end_of k infos place f.below) is)
  edge place f c IoThreads at has is = edge_through place f c at has (size_of infos h bricks fits used some place f IoThreads at is) (bottom_here infos h bricks fits used some place f at ∙ ap (λ k. end_of k infos place f.below) is)
  edge place f c Pass at has is = edge_through place f c at has (size_of infos h bricks fits used some place f Pass at is) (bottom_here infos h bricks fits used some place f at ∙ ap (λ k. end_of k infos place f.below) is)

  pub covers_child : (place : ℕ) (f : Info) (c : ℕ) (g : Info) → has_place c f.below ≡ true → slice_get infos c ≡ Some g → Covers (gathered no_tree infos f.below) g.tree
  covers_child place f c g has at = below_covered no_tree infos f.below c g has at

  tree_depth : (i : ℕ) (f : Info) → slice_get infos i ≡ Some f → f.tree.depth ≡ (gathered no_tree infos f.below).depth + 1
  tree_depth i f at = ap (λ (t : Tree). t.depth) (fits.each i f at).tree ∙ grown_depth f.role (gathered no_tree infos f.below)

  child_rank : (c : ℕ) (g : Info) → slice_get infos c ≡ Some g → (n : ℕ) → ((t : At (top c)) → n ≤ rank (top c) t) → n ≤ g.tree.depth + extra (bottom_at infos c)
  unfolding spot_top
  child_rank c g at n more =
      let t = spot_top infos bricks bases tops nodes whole c g at in
      let r : n ≤ g.tree.depth + low_as most g.role (extra (bottom_at infos c)) + (top c - t.base) = more t in
      let f : low_as most g.role (extra (bottom_at infos c)) + (top c - t.base) ≤ extra (bottom_at infos c) = rank_fits (top c) t in omega (arith, r, f)

  path_rank : (path : List ℕ) (x end : ℕ) (s : At x) → IsPath nodes x path end → length path + 1 ≤ rank x s
  path_rank [] x end s p = let deep = tree_depth s.place s.info s.at in omega (arith, deep)
  path_rank (y ∷ path) x end s p = by_link (link infos bricks bases tops nodes whole x y s p.0) (λ t. path_rank path y end t p.1)
    where
      by_link : Link infos bricks bases tops nodes whole x s y → ((t : At y) → length path + 1 ≤ rank y t) → length (y ∷ path) + 1 ≤ rank x s
      by_link (inl w) more =
          let r : length path + 1 ≤ s.info.tree.depth + low_as most s.info.role (extra (bottom_at infos s.place)) + (y - s.base) =
          more (record { place = s.place; info = s.info; at = s.at; base = s.base; top = s.top; base_at = s.base_at; top_at = s.top_at; from = w.0; to = omega (arith, w.1, s.to) }) in
          omega (arith, r, w.0, w.1)
      by_link (inr b) more =
          let r = child_rank b.child b.info b.at (length path + 1) (subst (λ z. (u : At z) → length path + 1 ≤ rank z u) b.is more) in
          let e = edge s.place s.info b.child s.info.role s.at b.has refl in
          let c = (covers_child s.place s.info b.child b.info b.has b.at).depth in
          let deep = tree_depth s.place s.info s.at in
          omega (arith, r, e, c, deep)

  pub path_short : (x end : ℕ) (path : List ℕ) → IsPath nodes x path end → length path < 26
  path_short x end [] p = omega arith
  path_short x end (y ∷ path) p = by_spot (laid.spots x (in_nodes infos bricks bases tops nodes whole x y p.0))
    where
      by_spot : At x → length (y ∷ path) < 26
      by_spot s =
          let r : length (y ∷ path) + 1 ≤ rank x s = path_rank (y ∷ path) x end s p in
          let f = rank_fits x s in
          let e : extra (bottom_at infos s.place) ≤ most = extra_in_few most (slice_get infos (bottom_at infos s.place)) (number (bottom_at infos s.place)) in
          let c : most ≤ 2 = caps_few (is_alone (distributed infos)) in
          let deep = tree_depth s.place s.info s.at in
          let shallow = (fits.each s.place s.info s.at).shallow in
          omega (arith, r, f, e, c, deep, shallow)

  -- ---- one io-cache on a path
  cache_tree : (i : ℕ) (f : Info) (pages : ℕ) → slice_get infos i ≡ Some f → f.role ≡ IoCache pages → f.tree.cache ≡ true
  cache_tree i f pages at is = ap (λ (t : Tree). t.cache) (fits.each i f at).tree ∙ ap (λ r. (grown r (gathered no_tree infos f.below)).cache) is

  -- the volume of an io-cache node
  cache_role : (x : ℕ) (s : At x) → kind_at nodes x ≡ Some IoCacheNode → (pages : ℕ) × (s.info.role ≡ IoCache pages)
  cache_role x s e = by_node (spot_node infos bricks bases tops nodes whole x s k.node k.at)
    where
      k : Kinded nodes x IoCacheNode
      k = kind_node nodes x IoCacheNode e

      by_node : NodeAs alone s.info.role (number s.place) nodes (tops_at tops s.info.below) s.base s.top x k.node → (pages : ℕ) × (s.info.role ≡ IoCache pages)
      by_node (inl f) = is_cache s.info.role (number s.place) (tops_at tops s.info.below) (subst (λ (n : NodePlan). ◌≡◌ {A = Option NodeKind} (Some n.kind) (Some IoCacheNode)) f.is k.is)
      by_node (inr (inl r)) = let two : ◌≡◌ {A = Option NodeKind} (Some (ReplicateNode r.set)) (Some IoCacheNode) = subst (λ (n : NodePlan). ◌≡◌ {A = Option NodeKind} (Some n.kind) (Some IoCacheNode)) r.is k.is in absurd cc
      by_node (inr (inr d)) = let two : ◌≡◌ {A = Option NodeKind} (Some DistributeNode) (Some IoCacheNode) = subst (λ (n : NodePlan). ◌≡◌ {A = Option NodeKind} (Some n.kind) (Some IoCacheNode)) d.is k.is in absurd cc

  cached_child : (place : ℕ) (f : Info) (c : ℕ) (g : Info) → slice_get infos place ≡ Some f → has_place c f.below ≡ true → slice_get infos c ≡ Some g → g.tree.cache ≡ true → (gathered no_tree infos f.below).cache ≡ true
  cached_child place f c g at has to on = not_so (gathered no_tree infos f.below).cache g.tree.cache (covers_child place f c g has to).cache on

  cached_top : (c : ℕ) (g : Info) → slice_get infos c ≡ Some g → ((t : At (top c)) → t.info.tree.cache ≡ true) → g.tree.cache ≡ true
  unfolding spot_top
  cached_top c g at more = more (spot_top infos bricks bases tops nodes whole c g at)

  cached : (path : List ℕ) (x end : ℕ) (s : At x) → IsPath nodes x path end → kind_at nodes end ≡ Some IoCacheNode → s.info.tree.cache ≡ true
  cached [] x end s p e = let r = cache_role x s (ap (kind_at nodes) p ∙ e) in cache_tree s.place s.info r.0 s.at r.1
  cached (y ∷ path) x end s p e = by_link (link infos bricks bases tops nodes whole x y s p.0) (λ t. cached path y end t p.1 e)
    where
      by_link : Link infos bricks bases tops nodes whole x s y → ((t : At y) → t.info.tree.cache ≡ true) → s.info.tree.cache ≡ true
      by_link (inl w) more = more (record { place = s.place; info = s.info; at = s.at; base = s.base; top = s.top; base_at = s.base_at; top_at = s.top_at; from = w.0; to = omega (arith, w.1, s.to) })
      by_link (inr b) more =
          let on : b.info.tree.cache ≡ true = cached_top b.child b.info b.at (subst (λ z. (u : At z) → u.info.tree.cache ≡ true) b.is more) in
          ap (λ (t : Tree). t.cache) (fits.each s.place s.info s.at).tree ∙ grown_cache s.info.role (gathered no_tree infos s.info.below) (cached_child s.place s.info b.child b.info s.at b.has b.at on)

  pub one_cache : (x y end : ℕ) (path : List ℕ) → kind_at nodes x ≡ Some IoCacheNode → IsPath nodes x (y ∷ path) end → kind_at nodes end ≡ Some IoCacheNode → ⊥
  one_cache x y end path e p k = by_spot (laid.spots x (in_nodes infos bricks bases tops nodes whole x y p.0))
    where
      by_spot : At x → ⊥
      by_spot s = by_link (link infos bricks bases tops nodes whole x y s p.0)
        where
          role : (pages : ℕ) × (s.info.role ≡ IoCache pages)
          role = cache_role x s e

          by_link : Link infos bricks bases tops nodes whole x s y → ⊥
          by_link (inl w) =
              let l : IsLaid alone (IoCache role.0) (number s.place) nodes (tops_at tops s.info.below) s.base s.top = subst (λ r. IsLaid alone r (number s.place) nodes (tops_at tops s.info.below) s.base s.top) role.1 (spot_laid infos bricks bases tops nodes whole x s) in
              absurd (omega (arith, l.1, w.0, w.1, s.to))
          by_link (inr b) =
              let on = cached_top b.child b.info b.at (subst (λ z. (u : At z) → u.info.tree.cache ≡ true) b.is (λ t. cached path y end t p.1 k)) in
              let in_tree = cached_child s.place s.info b.child b.info s.at b.has b.at on in
              let off : (gathered no_tree infos s.info.below).cache ≡ false = stands_as infos h bricks fits used some s.place s.info (IoCache role.0) s.at role.1 in absurd cc
