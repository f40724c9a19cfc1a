-- What each node of a plan has, and all that the law of nodes says.
use Rattle.std.proofs.Common.{inl, inr, ◌≡◌, ℕ, ◌+◌, ◌-◌, ◌<◌, ◌≤◌, Bool, true, false, List, [], ◌∷◌, length, map, Option, Some, None, Result, Ok, Err, refl, sym, ap, subst, ◌∙◌, arith}
use Rattle.std.specs.Prelude.{IsSomeAnd}
use Rattle.std.specs.List.{slice_get}
use Rattle.std.specs.Option.{option_map}
use Rattle.volfile.specs.Volumes.{AreVolumes}
use Rattle.volfile.specs.declared.volumes.Volume.{Volume}
use Rattle.volfile.proofs.WellRead.{ok_same, parsed_whole}
use Rattle.volfile.proofs.Alike.{each_volume}
use Rattle.volfile.specs.declared.brick_lines.BrickLine.{BrickLine}
use Rattle.graph_build.specs.PlanRules.{or_zero, has_place, bottom_in, bottom_at, is_used, infos_from, unused_from}
use Rattle.graph_build.specs.Plans.{is_distribute, distributed, bottoms_at, sets_under, sets_of, members_as, members_in, members_of, brick_in, brick_as, bricks_at, set_at, sets_from, number_from, node, tops_at, nodes_from, is_alone, plan_if, plan_from, planned}
use Rattle.graph_build.specs.NodeLaw.{kind_at, IsPath, LeadTo, IsNode, MayBeBelow, AreNodes, PlansHaveNodes}
use Rattle.graph_build.specs.declared.errors.PlanError.{PlanError}
use Rattle.graph_build.specs.declared.infos.Tree.{Tree}
use Rattle.graph_build.specs.declared.infos.Info.{Info}
use Rattle.graph_build.specs.declared.infos.Role.{Role}
use Rattle.graph_build.specs.declared.infos.Role.TheVariants.{Client, Replicate, Distribute, IoCache, IoThreads, Pass}
use Rattle.graph_build.specs.declared.plans.Plan.{Plan}
use Rattle.graph_build.specs.declared.plans.NodePlan.{NodePlan}
use Rattle.graph_build.specs.declared.plans.NodeKind.{NodeKind}
use Rattle.graph_build.specs.declared.plans.NodeKind.TheVariants.{Client as ClientNode, Replicate as ReplicateNode, Distribute as DistributeNode, IoCache as IoCacheNode, IoThreads as IoThreadsNode, Pass as PassNode}
use Rattle.fop_types.specs.declared.jobs.SetPlan.{SetPlan}
use Rattle.graph_build.proofs.Apart.{first_placed}
use Rattle.graph_build.proofs.Facts.{StopFits, Holds, some_at, at_within, nothing_holds}
use Rattle.graph_build.proofs.PlanSets.{holds_next, none_distributes, some_distributes, some_volumes}
use Rattle.graph_build.proofs.Steps.{all_kept}
use Rattle.graph_build.proofs.RoleFacts.{RoleValues}
use Rattle.graph_build.proofs.VolumeTrees.{AllFit, fits_next, nothing_fits}
use Rattle.graph_build.proofs.Ends.{same_some, no_number, all_used, size_of, one_distributes, replica_set, set_number}
use Rattle.graph_build.proofs.NodeLayout.{HasCap, IsLaid, Spot, Laid, all_laid}
use Rattle.graph_build.proofs.Nesting.{below_client, below_replicate, below_distribute}
use Rattle.graph_build.proofs.VolumeNodes.{first_node, IsSetNumbered, PutReplicate, PutDistribute, NodeAs, only_child, length-tops, set_from, is_distributing, Kinded, kind_node}
use Rattle.graph_build.proofs.NodeTree.{Whole, spot_laid, spot_node, below_parent, has_parent, reached_by}
use Rattle.graph_build.proofs.NodePaths.{path_short, one_cache}
use Rattle.graph_build.proofs.NodeWays.{kind_top, to_clients, to_sets}

module _ (volumes : List Volume) (infos : List Info) (bricks : ℕ) (bases tops : List ℕ) (nodes : List NodePlan) (whole : Whole infos bricks bases tops nodes) where
  abbrev h : Holds infos
  h = whole.holds

  abbrev fits : AllFit bricks infos
  fits = whole.fits

  abbrev used : (p : ℕ) → p + 1 < length infos → is_used infos p ≡ true
  used = whole.used

  abbrev some : 1 ≤ length infos
  some = whole.some

  abbrev laid : Laid (is_alone (distributed infos)) (sets_of infos) infos bases tops nodes
  laid = whole.laid

  abbrev alone : Bool
  alone = is_alone (distributed infos)

  abbrev sets : List ℕ
  sets = sets_of infos

  abbrev number : ℕ → Option ℕ
  number p = number_from 0 (sets_of infos) p

  abbrev top : ℕ → ℕ
  top p = or_zero (slice_get tops p)

  abbrev plan_sets : List SetPlan
  plan_sets = sets_from volumes infos 0 (sets_of infos)

  abbrev At : ℕ → Type 0
  At x = Spot infos bases tops x

  -- ---- what each node has
  abbrev Is : NodePlan → Type 0
  Is n = IsNode bricks nodes plan_sets n.kind n.children n.cache_pages

  record Distributing (f : Info) : Type 0 where
    pub off : alone ≡ false
    pub sets_are : sets_of infos ≡ bottoms_at infos f.below

  distributing : (place : ℕ) (f : Info) → slice_get infos place ≡ Some f → f.role ≡ Distribute → Distributing f
  distributing place f at is = by_found (distributed infos) refl
    where
      on : is_distribute f.role ≡ true
      on = ap is_distribute is

      by_found : (found : Option (List ℕ)) → distributed infos ≡ found → Distributing f
      by_found None none = let off : is_distribute f.role ≡ false = none_distributes infos none place f at in absurd cc
      by_found (Some below) found =
          let d = some_distributes infos below found in
          let same_place : d.0 ≡ place = one_distributes infos h bricks fits used some d.0 d.1 d.2 d.3 ∙ sym (one_distributes infos h bricks fits used some place f at is) in
          let same : d.1 ≡ f = same_some d.1 f (sym d.2 ∙ ap (slice_get infos) same_place ∙ at) in
          record { off = ap is_alone found; sets_are = ap (sets_under infos) found ∙ ap (bottoms_at infos) (sym d.4 ∙ ap (λ (k : Info). k.below) same) }

  -- the set that a number names
  numbered_set : (place k : ℕ) → number place ≡ Some k → slice_get (sets_of infos) k ≡ Some place
  numbered_set place k e = by_test (has_place place (sets_of infos)) refl
    where
      by_test : (b : Bool) → has_place place (sets_of infos) ≡ b → slice_get (sets_of infos) k ≡ Some place
      by_test true has = let n = set_number infos h bricks fits used some place has in ap (slice_get (sets_of infos)) (same_some k n.0 (sym e ∙ n.1)) ∙ n.2
      by_test false off = let none : number place ≡ None = no_number 0 (sets_of infos) place off in absurd cc

  set_at_number : (place k : ℕ) → number place ≡ Some k → slice_get plan_sets k ≡ Some (set_at volumes infos k place)
  set_at_number place k e = let sum : 0 + k ≡ k = omega arith in set_from volumes infos 0 (sets_of infos) k place (numbered_set place k e) ∙ ap (λ n. Some (set_at volumes infos n place)) sum

  first_is : (place : ℕ) (f : Info) (r : Role) → slice_get infos place ≡ Some f → f.role ≡ r → Is (first_node r (number place) (tops_at tops f.below))
  first_is place f (Client brick) at is = (subst (RoleValues bricks) is (fits.each place f at).values, refl, refl)
  first_is place f Replicate at is =
      let k = set_number infos h bricks fits used some place (replica_set infos h bricks fits used some place f at is) in
      let set : slice_get plan_sets (or_zero (number place)) ≡ Some (set_at volumes infos k.0 place) = ap (slice_get plan_sets) (ap or_zero k.1) ∙ set_at_number place k.0 k.1 in
      let members : members_of infos place ≡ bottoms_at infos f.below = ap (λ o. members_in o infos place) at ∙ ap (λ r. members_as r infos place f.below) is in
      let all : LeadTo nodes (tops_at tops f.below) (map ClientNode (bricks_at infos (members_of infos place))) =
      subst (λ ms. LeadTo nodes (tops_at tops f.below) (map ClientNode (bricks_at infos ms))) (sym members) (to_clients volumes infos bricks bases tops nodes whole place f at is f.below (λ p e. e)) in
      (subst (λ o. IsSomeAnd o (λ (s : SetPlan). LeadTo nodes (tops_at tops f.below) (map ClientNode s.bricks))) (sym set) all, refl)
  first_is place f Distribute at is =
      let d = distributing place f at is in
      let all = to_sets volumes infos bricks bases tops nodes whole place f at is d.off 0 f.below (λ p e. e) (λ j b e. let sum : 0 + j ≡ j = omega arith in ap (λ ps. slice_get ps (0 + j)) d.sets_are ∙ ap (slice_get (bottoms_at infos f.below)) sum ∙ e) in
      (subst (λ ps. LeadTo nodes (tops_at tops f.below) (map (λ (set : SetPlan). ReplicateNode set.number) (sets_from volumes infos 0 ps))) (sym d.sets_are) all, refl)
  first_is place f (IoCache pages) at is =
      let v : (1 ≤ pages) × (pages ≤ 8192) = subst (RoleValues bricks) is (fits.each place f at).values in
      (length-tops tops f.below ∙ size_of infos h bricks fits used some place f (IoCache pages) at is, v.0, v.1)
  first_is place f IoThreads at is = (length-tops tops f.below ∙ size_of infos h bricks fits used some place f IoThreads at is, refl)
  first_is place f Pass at is = (length-tops tops f.below ∙ size_of infos h bricks fits used some place f Pass at is, refl)

  put_replicate_is : (x : ℕ) (s : At x) (n : NodePlan) → PutReplicate s.info.role (number s.place) nodes s.base x n → Is n
  put_replicate_is x s n r =
      let set = set_at_number s.place r.set r.numbered in
      let members : members_of infos s.place ≡ s.place ∷ [] = ap (λ o. members_in o infos s.place) s.at ∙ ap (λ k. members_as k infos s.place s.info.below) r.role in
      let brick : brick_in (slice_get infos s.place) ≡ r.brick = ap brick_in s.at ∙ ap brick_as r.role in
      let bricks_are : bricks_at infos (members_of infos s.place) ≡ r.brick ∷ [] = ap (bricks_at infos) members ∙ ap (λ b. b ∷ []) brick in
      let led : LeadTo nodes (s.base ∷ []) (ClientNode r.brick ∷ []) = (record { path = []; end = s.base; down = refl; is = ap (option_map (λ (m : NodePlan). m.kind)) r.over }, tt) in
      let all : LeadTo nodes (s.base ∷ []) (map ClientNode (bricks_at infos (members_of infos s.place))) = subst (λ bs. LeadTo nodes (s.base ∷ []) (map ClientNode bs)) (sym bricks_are) led in
      subst Is (sym r.is) (subst (λ o. IsSomeAnd o (λ (t : SetPlan). LeadTo nodes (s.base ∷ []) (map ClientNode t.bricks))) (sym set) all, refl)

  number_of_set : (place : ℕ) (f : Info) (r : Role) → slice_get infos place ≡ Some f → f.role ≡ r → IsSetNumbered r (number place) → (k : ℕ) × (number place ≡ Some k)
  number_of_set place f (Client brick) at is set = set
  number_of_set place f Replicate at is set = let k = set_number infos h bricks fits used some place (replica_set infos h bricks fits used some place f at is) in (k.0, k.1)
  number_of_set place f Distribute at is set = absurd set
  number_of_set place f (IoCache pages) at is set = absurd set
  number_of_set place f IoThreads at is set = absurd set
  number_of_set place f Pass at is set = absurd set

  -- where no volume distributes there is one set
  alone_sets : alone ≡ true → sets_of infos ≡ bottom_at infos (length infos - 1) ∷ []
  alone_sets on = by_found (distributed infos) refl on
    where
      by_found : (found : Option (List ℕ)) → distributed infos ≡ found → is_alone found ≡ true → sets_of infos ≡ bottom_at infos (length infos - 1) ∷ []
      by_found None none k = ap (sets_under infos) none
      by_found (Some below) found k = absurd cc

  record OnlySet (place : ℕ) : Type 0 where
    pub numbered : number place ≡ Some 0
    pub is : place ≡ bottom_at infos (length infos - 1)

  only_set : (place : ℕ) (f : Info) → slice_get infos place ≡ Some f → alone ≡ true → IsSetNumbered f.role (number place) → OnlySet place
  only_set place f at on set =
      let k = number_of_set place f f.role at refl set in
      let one : slice_get (bottom_at infos (length infos - 1) ∷ []) k.0 ≡ Some place = ap (λ ps. slice_get ps k.0) (sym (alone_sets on)) ∙ numbered_set place k.0 k.1 in
      let none : k.0 ≡ 0 = (let low : k.0 < length (bottom_at infos (length infos - 1) ∷ []) = at_within (bottom_at infos (length infos - 1) ∷ []) k.0 place one in omega (arith, low)) in
      record { numbered = k.1 ∙ ap Some none; is = only_child (bottom_at infos (length infos - 1)) k.0 place one }

  put_distribute_is : (x : ℕ) (s : At x) (n : NodePlan) → PutDistribute alone s.info.role (number s.place) nodes s.base s.top x n → Is n
  put_distribute_is x s n d =
      let only = only_set s.place s.info s.at d.on d.set in
      let kind : kind_at nodes d.under ≡ Some (ReplicateNode 0) = ap (option_map (λ (m : NodePlan). m.kind)) d.over ∙ ap (λ o. Some (ReplicateNode (or_zero o))) only.numbered in
      let led : LeadTo nodes (d.under ∷ []) (ReplicateNode 0 ∷ []) = (record { path = []; end = d.under; down = refl; is = kind }, tt) in
      subst Is (sym d.is) (subst (λ ps. LeadTo nodes (d.under ∷ []) (map (λ (set : SetPlan). ReplicateNode set.number) (sets_from volumes infos 0 ps))) (sym (alone_sets d.on)) led, refl)

  node_is : (x : ℕ) (n : NodePlan) → slice_get nodes x ≡ Some n → Is n
  node_is x n at = by_spot (laid.spots x (at_within nodes x n at))
    where
      by_spot : At x → Is n
      by_spot s = by_node (spot_node infos bricks bases tops nodes whole x s n at)
        where
          by_node : NodeAs alone s.info.role (number s.place) nodes (tops_at tops s.info.below) s.base s.top x n → Is n
          by_node (inl f) = subst Is (sym f.is) (first_is s.place s.info s.info.role s.at refl)
          by_node (inr (inl r)) = put_replicate_is x s n r
          by_node (inr (inr d)) = put_distribute_is x s n d

  -- ---- the one distribute node
  abbrev top_end : ℕ
  top_end = bottom_at infos (length infos - 1)

  distribute_only : (x : ℕ) → kind_at nodes x ≡ Some DistributeNode → x ≡ top top_end
  distribute_only x e = by_spot (laid.spots x (at_within nodes x k.node k.at))
    where
      k : Kinded nodes x DistributeNode
      k = kind_node nodes x DistributeNode e

      by_spot : At x → x ≡ top top_end
      by_spot s = by_node (spot_node infos bricks bases tops nodes whole x s k.node k.at)
        where
          by_node : NodeAs alone s.info.role (number s.place) nodes (tops_at tops s.info.below) s.base s.top x k.node → x ≡ top top_end
          by_node (inl f) =
              let role = is_distributing s.info.role (number s.place) (tops_at tops s.info.below) (subst (λ (n : NodePlan). ◌≡◌ {A = Option NodeKind} (Some n.kind) (Some DistributeNode)) f.is k.is) in
              let l : IsLaid alone Distribute (number s.place) nodes (tops_at tops s.info.below) s.base s.top = subst (λ r. IsLaid alone r (number s.place) nodes (tops_at tops s.info.below) s.base s.top) role (spot_laid infos bricks bases tops nodes whole x s) in
              f.here ∙ sym l.1 ∙ sym (ap or_zero s.top_at) ∙ ap top (one_distributes infos h bricks fits used some s.place s.info s.at role)
          by_node (inr (inl r)) = let two : ◌≡◌ {A = Option NodeKind} (Some (ReplicateNode r.set)) (Some DistributeNode) = subst (λ (n : NodePlan). ◌≡◌ {A = Option NodeKind} (Some n.kind) (Some DistributeNode)) r.is k.is in absurd cc
          by_node (inr (inr d)) = d.last ∙ sym (ap or_zero s.top_at) ∙ ap top (only_set s.place s.info s.at d.on d.set).is

  -- a set at the top's end has a distribute node over it
  set_alone : (g : Info) → slice_get infos top_end ≡ Some g → is_distribute g.role ≡ false → alone ≡ true
  set_alone g at off = by_found (distributed infos) refl
    where
      by_found : (found : Option (List ℕ)) → distributed infos ≡ found → is_alone (distributed infos) ≡ true
      by_found None none = ap is_alone none
      by_found (Some below) found =
          let d = some_distributes infos below found in
          let same : d.1 ≡ g = same_some d.1 g (sym d.2 ∙ ap (slice_get infos) (one_distributes infos h bricks fits used some d.0 d.1 d.2 d.3) ∙ at) in
          let on : is_distribute g.role ≡ true = ap (λ (k : Info). is_distribute k.role) (sym same) ∙ ap is_distribute d.3 in absurd cc

  cap_top : (g : Info) (at : slice_get infos top_end ≡ Some g) (base : ℕ) → alone ≡ true → HasCap alone nodes base (laid.blocks top_end g at).top → kind_at nodes (top top_end) ≡ Some DistributeNode
  cap_top g at base on cap =
      let c : HasCap true nodes base (laid.blocks top_end g at).top = subst (λ a. HasCap a nodes base (laid.blocks top_end g at).top) on cap in kind_top volumes infos bricks bases tops nodes whole top_end g at (node DistributeNode (base ∷ [])) c.1

  top_numbered : alone ≡ true → (k : ℕ) × (number top_end ≡ Some k)
  top_numbered on =
      let k = set_number infos h bricks fits used some top_end (subst (λ ps. has_place top_end ps ≡ true) (sym (alone_sets on)) (first_placed top_end [])) in (k.0, k.1)

  distribute_at : (t : Tree) (g : Info) (at : slice_get infos top_end ≡ Some g) (r : Role) → g.role ≡ r → StopFits t r → kind_at nodes (top top_end) ≡ Some DistributeNode
  distribute_at t g at (Client brick) is stop =
      let on = set_alone g at (ap is_distribute is) in
      let k = top_numbered on in
      let b = laid.blocks top_end g at in
      let l : IsLaid alone (Client brick) (Some k.0) nodes (tops_at tops g.below) b.base b.top =
      subst (λ o. IsLaid alone (Client brick) o nodes (tops_at tops g.below) b.base b.top) k.1 (subst (λ r. IsLaid alone r (number top_end) nodes (tops_at tops g.below) b.base b.top) is b.laid) in
      cap_top g at (b.base + 1) on l.2
  distribute_at t g at Replicate is stop =
      let b = laid.blocks top_end g at in
      let l : IsLaid alone Replicate (number top_end) nodes (tops_at tops g.below) b.base b.top = subst (λ r. IsLaid alone r (number top_end) nodes (tops_at tops g.below) b.base b.top) is b.laid in
      cap_top g at b.base (set_alone g at (ap is_distribute is)) l.1
  distribute_at t g at Distribute is stop =
      let b = laid.blocks top_end g at in
      let l : IsLaid alone Distribute (number top_end) nodes (tops_at tops g.below) b.base b.top = subst (λ r. IsLaid alone r (number top_end) nodes (tops_at tops g.below) b.base b.top) is b.laid in
      kind_top volumes infos bricks bases tops nodes whole top_end g at (node DistributeNode (tops_at tops g.below)) (ap (slice_get nodes) l.1 ∙ l.0)
  distribute_at t g at (IoCache pages) is stop = absurd stop
  distribute_at t g at IoThreads is stop = absurd stop
  distribute_at t g at Pass is stop = absurd stop

  last_info : (f : Info) × (slice_get infos (length infos - 1) ≡ Some f)
  last_info = some_at infos (length infos - 1) (omega (arith, some))

  distribute_there : kind_at nodes (top top_end) ≡ Some DistributeNode
  distribute_there =
      let stop = (h.entries (length infos - 1) last_info.0 last_info.1).stop in
      distribute_at last_info.0.tree stop.end (subst (λ o. slice_get infos (bottom_in o) ≡ Some stop.end) (sym last_info.1) stop.is) stop.end.role refl stop.fits

  some_nodes : 1 ≤ length nodes
  some_nodes =
      let b = laid.blocks (length infos - 1) last_info.0 last_info.1 in
      let low : b.top < length nodes = laid.low (length infos - 1) b.top b.top_at in omega (arith, low)

  nested : (x y end : ℕ) (path : List ℕ) (upper lower : NodeKind) → kind_at nodes x ≡ Some upper → IsPath nodes x (y ∷ path) end → kind_at nodes end ≡ Some lower → MayBeBelow upper lower
  nested x y end path (ClientNode brick) lower e p k = below_client bricks nodes plan_sets node_is x y brick e p.0
  nested x y end path (ReplicateNode set) lower e p k = below_replicate bricks nodes plan_sets node_is x y end set path lower e p k
  nested x y end path DistributeNode lower e p k = below_distribute bricks nodes plan_sets node_is x y end path lower e p k
  nested x y end path IoCacheNode lower e p k = λ is. one_cache infos bricks bases tops nodes whole x y end path e p (k ∙ ap Some is)
  nested x y end path IoThreadsNode lower e p k = tt
  nested x y end path PassNode lower e p k = tt

  pub nodes_are : AreNodes bricks nodes plan_sets
  nodes_are = record {
    some = some_nodes;
    each = node_is;
    below = below_parent infos bricks bases tops nodes whole;
    parents = has_parent infos bricks bases tops nodes whole;
    reached = λ x low. reached_by infos bricks bases tops nodes whole (length nodes) x low (omega arith);
    distribute = record { place = top top_end; is = distribute_there; only = distribute_only };
    depth = path_short infos bricks bases tops nodes whole;
    nesting = nested;
  }

plan_nodes : (volumes : List Volume) (bricks : List BrickLine) (plan : Plan) → AreVolumes [] volumes → 1 ≤ length volumes → planned volumes bricks ≡ Ok plan → AreNodes (length bricks) plan.nodes plan.sets
plan_nodes volumes bricks plan each some e = by_infos (infos_from volumes bricks [] volumes) refl e
  where
    by_unused : (infos : List Info) → Holds infos → AllFit (length bricks) infos → length infos ≡ length volumes → (o : Option ℕ) → unused_from infos infos 0 ≡ o → plan_if o volumes infos ≡ Ok plan
        → AreNodes (length bricks) plan.nodes plan.sets
    by_unused infos h fits size (Some place) unused e = absurd cc
    by_unused infos h fits size None unused e =
        let used : (p : ℕ) → p + 1 < length infos → is_used infos p ≡ true = λ p more. let sum : 0 + p ≡ p = omega arith in subst (λ q. is_used infos q ≡ true) sum (all_used infos infos 0 unused p more) in
        let all = all_laid (is_alone (distributed infos)) (sets_of infos) infos (λ i f at. (fits.each i f at).low) in
        subst (λ (p : Plan). AreNodes (length bricks) p.nodes p.sets) (ok_same _ _ e)
        (nodes_are volumes infos (length bricks) all.bases all.tops (nodes_from (is_alone (distributed infos)) (sets_of infos) [] [] infos) (record { holds = h; fits = fits; used = used; some = omega (arith, size, some); laid = all.laid }))

    by_infos : (r : Result (List Info) PlanError) → infos_from volumes bricks [] volumes ≡ r → plan_from r volumes ≡ Ok plan → AreNodes (length bricks) plan.nodes plan.sets
    by_infos (Err fault) is e = absurd cc
    by_infos (Ok infos) is e =
        let all = all_kept volumes bricks Holds (holds_next volumes bricks) [] [] volumes refl refl each nothing_holds infos is in
        let fit = all_kept volumes bricks (AllFit (length bricks)) (fits_next volumes bricks) [] [] volumes refl refl each (nothing_fits (length bricks)) infos is in
        by_unused infos all.0 fit.0 all.1 (unused_from infos infos 0) refl e

pub plans_have_nodes : PlansHaveNodes
plans_have_nodes v bricks plan is e =
    let whole = parsed_whole is.text is.reads.said is.reads.parsed in
    plan_nodes v.volumes bricks plan (each_volume v is) (some_volumes is.reads.said.volumes v.volumes is.reads.same whole.some) e
