-- Where pass nodes lead: from the children of replicate nodes to clients, from those of the distribute node to sets.
use Rattle.std.proofs.Common.{◌≡◌, ℕ, zero, suc, ◌+◌, ◌<◌, ◌≤◌, ◌==◌, Bool, true, false, List, [], ◌∷◌, length, map, Option, Some, None, refl, sym, ap, subst, ◌∙◌, arith}
use Rattle.std.specs.List.{slice_get}
use Rattle.std.specs.Option.{option_map}
use Rattle.volfile.specs.declared.volumes.Volume.{Volume}
use Rattle.graph_build.specs.PlanRules.{or_zero, has_place, no_tree, joined_info, gathered, grown, bottom_at, first_bottom, is_used}
use Rattle.graph_build.specs.Plans.{distributed, bottoms_at, sets_of, brick_in, brick_as, bricks_at, sets_from, number_from, node, tops_at, is_alone}
use Rattle.graph_build.specs.NodeLaw.{kind_at, child_in, IsPassPath, LeadsTo, LeadTo}
use Rattle.graph_build.specs.declared.infos.Tree.{Tree}
use Rattle.graph_build.specs.declared.infos.Info.{Info}
use Rattle.graph_build.specs.declared.infos.Role.{Role}
use Rattle.graph_build.specs.declared.infos.Role.TheVariants.{Client, Replicate, Distribute, IoCache, IoThreads, Pass}
use Rattle.graph_build.specs.declared.plans.NodePlan.{NodePlan}
use Rattle.graph_build.specs.declared.plans.NodeKind.{NodeKind}
use Rattle.graph_build.specs.declared.plans.NodeKind.TheVariants.{Client as ClientNode, Replicate as ReplicateNode, Pass as PassNode}
use Rattle.fop_types.specs.declared.jobs.SetPlan.{SetPlan}
use Rattle.graph_build.proofs.Apart.{first_placed, or_right}
use Rattle.graph_build.proofs.Facts.{IsSetRole, Holds}
use Rattle.graph_build.proofs.VolumeTrees.{end_of, AllFit}
use Rattle.graph_build.proofs.Ends.{number_is, bottom_here, size_of, placed_bottom, below_is, replica_plain, set_free, replica_end, set_end, sets_apart, replica_no_set}
use Rattle.graph_build.proofs.NodeLayout.{IsLaid, Spot, Laid}
use Rattle.graph_build.proofs.VolumeNodes.{no_places, one_place}
use Rattle.graph_build.proofs.NodeTree.{Whole, child_info}
use Rattle.graph_build.proofs.NodePaths.{covers_child}

module _ (volumes : List Volume) (infos : List Info) (bricks : ℕ) (bases tops : List ℕ) (nodes : List NodePlan) (whole : Whole infos bricks bases tops nodes) where
  abbrev h : Holds infos
  h = whole.holds

  abbrev fits : AllFit bricks infos
  fits = whole.fits

  abbrev used : (p : ℕ) → p + 1 < length infos → is_used infos p ≡ true
  used = whole.used

  abbrev some : 1 ≤ length infos
  some = whole.some

  abbrev laid : Laid (is_alone (distributed infos)) (sets_of infos) infos bases tops nodes
  laid = whole.laid

  abbrev alone : Bool
  alone = is_alone (distributed infos)

  abbrev sets : List ℕ
  sets = sets_of infos

  abbrev number : ℕ → Option ℕ
  number p = number_from 0 (sets_of infos) p

  abbrev top : ℕ → ℕ
  top p = or_zero (slice_get tops p)

  abbrev At : ℕ → Type 0
  At x = Spot infos bases tops x

  -- ---- pass nodes lead down
  only_below : (place : ℕ) (f : Info) → slice_get infos place ≡ Some f → length f.below ≡ 1 → (q : ℕ) × (f.below ≡ q ∷ []) × (has_place q f.below ≡ true)
  only_below place f at one = let q = one_place f.below one in (q.0, q.1, subst (λ ps. has_place q.0 ps ≡ true) (sym q.1) (first_placed q.0 []))

  -- a plain tree has neither io-caches nor io-threads
  plain_by : (n p : ℕ) → p < n → (f : Info) → slice_get infos p ≡ Some f → f.tree.plain ≡ true → f.tree.queue ≡ false
  plain_by zero p low f at on = absurd (omega (arith, low))
  plain_by (suc n) p low f at on = by_role f.role refl (λ q less g to so. plain_by n q (omega (arith, low, less)) g to so)
    where
      tree_as : (r : Role) → f.role ≡ r → f.tree ≡ grown r (gathered no_tree infos f.below)
      tree_as r is = (fits.each p f at).tree ∙ ap (λ k. grown k (gathered no_tree infos f.below)) is

      not_plain : f.tree.plain ≡ false → f.tree.queue ≡ false
      not_plain off = absurd cc

      by_role : (r : Role) → f.role ≡ r → ((q : ℕ) → q < p → (g : Info) → slice_get infos q ≡ Some g → g.tree.plain ≡ true → g.tree.queue ≡ false) → f.tree.queue ≡ false
      by_role (Client brick) is more =
          ap (λ (t : Tree). t.queue) (tree_as (Client brick) is) ∙ ap (λ ps. (gathered no_tree infos ps).queue) (no_places f.below (size_of infos h bricks fits used some p f (Client brick) at is))
      by_role Replicate is more = not_plain (ap (λ (t : Tree). t.plain) (tree_as Replicate is))
      by_role Distribute is more = not_plain (ap (λ (t : Tree). t.plain) (tree_as Distribute is))
      by_role (IoCache pages) is more = not_plain (ap (λ (t : Tree). t.plain) (tree_as (IoCache pages) is))
      by_role IoThreads is more = not_plain (ap (λ (t : Tree). t.plain) (tree_as IoThreads is))
      by_role Pass is more =
          let q = only_below p f at (size_of infos h bricks fits used some p f Pass at is) in
          let g = child_info infos bricks bases tops nodes whole p f q.0 at q.2 in
          let covers = covers_child infos bricks bases tops nodes whole p f q.0 g.1.0 q.2 g.1.1 in
          let free : g.1.0.tree.queue ≡ false = more q.0 g.0 g.1.0 g.1.1 (covers.plain (sym (ap (λ (t : Tree). t.plain) (tree_as Pass is)) ∙ on)) in
          let below : (gathered no_tree infos f.below).queue ≡ g.1.0.tree.queue = ap (λ ps. (gathered no_tree infos ps).queue) q.1 ∙ ap (λ o. (joined_info no_tree o).queue) g.1.1 in
          ap (λ (t : Tree). t.queue) (tree_as Pass is) ∙ below ∙ free

  record Led (p : ℕ) : Type 0 where
    pub path : List ℕ
    pub down : IsPassPath nodes (top p) path (top (bottom_at infos p))

  led_by : (n p : ℕ) → p < n → (f : Info) → slice_get infos p ≡ Some f → f.tree.queue ≡ false → Led p
  led_by zero p low f at off = absurd (omega (arith, low))
  led_by (suc n) p low f at off = by_role f.role refl (λ q less g to free. led_by n q (omega (arith, low, less)) g to free)
    where
      bottom_as : (r : Role) → f.role ≡ r → bottom_at infos p ≡ end_of r infos p f.below
      bottom_as r is = bottom_here infos h bricks fits used some p f at ∙ ap (λ k. end_of k infos p f.below) is

      queue_as : (r : Role) → f.role ≡ r → f.tree.queue ≡ (grown r (gathered no_tree infos f.below)).queue
      queue_as r is = ap (λ (t : Tree). t.queue) (fits.each p f at).tree ∙ ap (λ k. (grown k (gathered no_tree infos f.below)).queue) is

      stop : bottom_at infos p ≡ p → Led p
      stop here = record { path = []; down = ap top (sym here) }

      never : f.tree.queue ≡ true → Led p
      never on = absurd cc

      by_role : (r : Role) → f.role ≡ r → ((q : ℕ) → q < p → (g : Info) → slice_get infos q ≡ Some g → g.tree.queue ≡ false → Led q) → Led p
      by_role (Client brick) is more = stop (bottom_as (Client brick) is)
      by_role Replicate is more = stop (bottom_as Replicate is)
      by_role Distribute is more = stop (bottom_as Distribute is)
      by_role (IoCache pages) is more = never (queue_as (IoCache pages) is)
      by_role IoThreads is more = never (queue_as IoThreads is)
      by_role Pass is more =
          let q = only_below p f at (size_of infos h bricks fits used some p f Pass at is) in
          let g = child_info infos bricks bases tops nodes whole p f q.0 at q.2 in
          let covers = covers_child infos bricks bases tops nodes whole p f q.0 g.1.0 q.2 g.1.1 in
          let rest = more q.0 g.0 g.1.0 g.1.1 (covers.queue (sym (queue_as Pass is) ∙ off)) in
          let b = laid.blocks p f at in
          let l : IsLaid alone Pass (number p) nodes (tops_at tops f.below) b.base b.top = subst (λ r. IsLaid alone r (number p) nodes (tops_at tops f.below) b.base b.top) is b.laid in
          let node_at : slice_get nodes (top p) ≡ Some (node PassNode (tops_at tops f.below)) = ap (slice_get nodes) (ap or_zero b.top_at ∙ l.1) ∙ l.0 in
          let bottom : bottom_at infos p ≡ bottom_at infos q.0 = bottom_as Pass is ∙ ap (first_bottom infos) q.1 in
          record {
            path = top q.0 ∷ rest.path;
            down = (ap (option_map (λ (n : NodePlan). n.kind)) node_at, ap (λ o. child_in o 0) node_at ∙ ap (λ ps. slice_get (tops_at tops ps) 0) q.1, subst (λ e. IsPassPath nodes (top q.0) rest.path (top e)) (sym bottom) rest.down);
          }

  pub kind_top : (i : ℕ) (g : Info) (at : slice_get infos i ≡ Some g) (n : NodePlan) → slice_get nodes (laid.blocks i g at).top ≡ Some n → kind_at nodes (top i) ≡ Some n.kind
  kind_top i g at n e = ap (kind_at nodes) (ap or_zero (laid.blocks i g at).top_at) ∙ ap (option_map (λ (m : NodePlan). m.kind)) e

  client_led : (place : ℕ) (f : Info) (p : ℕ) → slice_get infos place ≡ Some f → has_place p f.below ≡ true → f.role ≡ Replicate → LeadsTo nodes (top p) (ClientNode (brick_in (slice_get infos (bottom_at infos p))))
  client_led place f p at has is =
      let b = below_is infos h bricks fits used some place f p at has in
      let k = replica_end infos h bricks fits used some place f p at has is in
      let none = replica_no_set infos h bricks fits used some (bottom_at infos p) (record { place = place; info = f; at = at; role = is; among = placed_bottom infos h bricks fits used some f.below p has }) in
      let free = plain_by (suc p) p (omega arith) b.info b.at (replica_plain infos h bricks fits used some place f p at has is) in
      let led = led_by (suc p) p (omega arith) b.info b.at free in
      let c = laid.blocks (bottom_at infos p) b.end b.end_at in
      let l : IsLaid alone (Client k.0) None nodes (tops_at tops b.end.below) c.base c.top =
      subst (λ o. IsLaid alone (Client k.0) o nodes (tops_at tops b.end.below) c.base c.top) none (subst (λ r. IsLaid alone r (number (bottom_at infos p)) nodes (tops_at tops b.end.below) c.base c.top) k.1 c.laid) in
      let kind = kind_top (bottom_at infos p) b.end b.end_at (node (ClientNode k.0) []) (ap (slice_get nodes) l.1 ∙ l.0) in
      let brick : brick_in (slice_get infos (bottom_at infos p)) ≡ k.0 = ap brick_in b.end_at ∙ ap brick_as k.1 in
      record { path = led.path; end = top (bottom_at infos p); down = led.down; is = kind ∙ ap (λ x. Some (ClientNode x)) (sym brick) }

  pub to_clients : (place : ℕ) (f : Info) → slice_get infos place ≡ Some f → f.role ≡ Replicate → (ps : List ℕ) → ((p : ℕ) → has_place p ps ≡ true → has_place p f.below ≡ true)
      → LeadTo nodes (tops_at tops ps) (map ClientNode (bricks_at infos (bottoms_at infos ps)))
  to_clients place f at is [] among = tt
  to_clients place f at is (p ∷ ps) among =
      (client_led place f p at (among p (first_placed p ps)) is, to_clients place f at is ps (λ q e. among q (or_right (q == p) (has_place q ps) e)))

  set_led : (place : ℕ) (f : Info) (p k : ℕ) → slice_get infos place ≡ Some f → has_place p f.below ≡ true → f.role ≡ Distribute → alone ≡ false → number (bottom_at infos p) ≡ Some k → LeadsTo nodes (top p) (ReplicateNode k)
  set_led place f p k at has is off numbered =
      let b = below_is infos h bricks fits used some place f p at has in
      let led = led_by (suc p) p (omega arith) b.info b.at (set_free infos h bricks fits used some place f p at has is) in
      let c = laid.blocks (bottom_at infos p) b.end b.end_at in
      let l : IsLaid false b.end.role (Some k) nodes (tops_at tops b.end.below) c.base c.top =
      subst (λ a. IsLaid a b.end.role (Some k) nodes (tops_at tops b.end.below) c.base c.top) off (subst (λ o. IsLaid alone b.end.role o nodes (tops_at tops b.end.below) c.base c.top) numbered c.laid) in
      record { path = led.path; end = top (bottom_at infos p); down = led.down; is = by_role b.end.role (set_end infos h bricks fits used some place f p at has is) l }
    where
      by_role : (r : Role) → IsSetRole r → IsLaid false r (Some k) nodes (tops_at tops (below_is infos h bricks fits used some place f p at has).end.below)
          (laid.blocks (bottom_at infos p) (below_is infos h bricks fits used some place f p at has).end (below_is infos h bricks fits used some place f p at has).end_at).base
          (laid.blocks (bottom_at infos p) (below_is infos h bricks fits used some place f p at has).end (below_is infos h bricks fits used some place f p at has).end_at).top
          → kind_at nodes (top (bottom_at infos p)) ≡ Some (ReplicateNode k)
      by_role (Client brick) fits_role l = kind_top (bottom_at infos p) _ _ (node (ReplicateNode k) _) (ap (slice_get nodes) l.2 ∙ l.1)
      by_role Replicate fits_role l = kind_top (bottom_at infos p) _ _ (node (ReplicateNode k) _) (ap (slice_get nodes) l.1 ∙ l.0)
      by_role Distribute fits_role l = absurd fits_role
      by_role (IoCache pages) fits_role l = absurd fits_role
      by_role IoThreads fits_role l = absurd fits_role
      by_role Pass fits_role l = absurd fits_role

  abbrev set_node : SetPlan → NodeKind
  set_node set = ReplicateNode set.number

  pub to_sets : (place : ℕ) (f : Info) → slice_get infos place ≡ Some f → f.role ≡ Distribute → alone ≡ false → (first : ℕ) (ps : List ℕ) → ((p : ℕ) → has_place p ps ≡ true → has_place p f.below ≡ true)
      → ((j b : ℕ) → slice_get (bottoms_at infos ps) j ≡ Some b → slice_get (sets_of infos) (first + j) ≡ Some b)
      → LeadTo nodes (tops_at tops ps) (map (λ (set : SetPlan). ReplicateNode set.number) (sets_from volumes infos first (bottoms_at infos ps)))
  to_sets place f at is off first [] among placed = tt
  to_sets place f at is off first (p ∷ ps) among placed =
      let zero_sum : first + 0 ≡ first = omega arith in
      let here : slice_get (sets_of infos) first ≡ Some (bottom_at infos p) = ap (slice_get (sets_of infos)) (sym zero_sum) ∙ placed 0 (bottom_at infos p) refl in
      let sum : 0 + first ≡ first = omega arith in
      let numbered : number (bottom_at infos p) ≡ Some first = number_is 0 (sets_of infos) first (bottom_at infos p) (sets_apart infos h bricks fits used some).sets here ∙ ap Some sum in (
        set_led place f p first at (among p (first_placed p ps)) is off numbered,
        to_sets place f at is off (first + 1) ps (λ q e. among q (or_right (q == p) (has_place q ps) e))
            (λ j b e. let next : first + suc j ≡ first + 1 + j = omega arith in ap (slice_get (sets_of infos)) (sym next) ∙ placed (suc j) b e),
      )
