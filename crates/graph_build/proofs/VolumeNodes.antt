-- The nodes of one volume: what is at each of its places, and how many are put in on the way down from it.
use Rattle.std.proofs.Common.{inl, inr, ◌≡◌, ℕ, zero, suc, ◌+◌, ◌-◌, ◌<◌, ◌≤◌, ◌==◌, Bool, true, false, List, [], ◌∷◌, length, Option, Some, None, refl, sym, ap, ◌∙◌, arith}
use Rattle.std.specs.Prelude.{◌⊎◌, ⊤}
use Rattle.std.specs.List.{slice_get}
use Rattle.std.specs.Option.{option_map}
use Rattle.std.proofs.lemmas.Bool.{cases_lt}
use Rattle.volfile.specs.declared.volumes.Volume.{Volume}
use Rattle.graph_build.specs.PlanRules.{or_zero, has_place, grown}
use Rattle.graph_build.specs.Plans.{set_at, sets_from, node, tops_at}
use Rattle.graph_build.specs.NodeLaw.{kind_at}
use Rattle.graph_build.specs.declared.infos.Tree.{Tree}
use Rattle.graph_build.specs.declared.infos.Info.{Info}
use Rattle.graph_build.specs.declared.infos.Role.{Role}
use Rattle.graph_build.specs.declared.infos.Role.TheVariants.{Client, Replicate, Distribute, IoCache, IoThreads, Pass}
use Rattle.graph_build.specs.declared.plans.NodePlan.{NodePlan}
use Rattle.graph_build.specs.declared.plans.NodeKind.{NodeKind}
use Rattle.graph_build.specs.declared.plans.NodeKind.TheVariants.{Client as ClientNode, Replicate as ReplicateNode, Distribute as DistributeNode, IoCache as IoCacheNode, IoThreads as IoThreadsNode, Pass as PassNode}
use Rattle.graph_build.proofs.Apart.{first_placed, or_right}
use Rattle.graph_build.proofs.Ends.{same_some}
use Rattle.graph_build.proofs.NodeLayout.{HasCap, IsLaid}

-- ---- nodes of one volume
-- the first node of a volume
abbrev pub first_node : Role → Option ℕ → List ℕ → NodePlan
first_node (Client brick) number children = node (ClientNode brick) []
first_node Replicate number children = node (ReplicateNode (or_zero number)) children
first_node Distribute number children = node DistributeNode children
first_node (IoCache pages) number children = record { kind = IoCacheNode; children = children; cache_pages = pages }
first_node IoThreads number children = node IoThreadsNode children
first_node Pass number children = node PassNode children

-- a volume that is a set
abbrev pub IsSetNumbered : Role → Option ℕ → Type 0
IsSetNumbered (Client brick) number = (k : ℕ) × (number ≡ Some k)
IsSetNumbered Replicate number = ⊤
IsSetNumbered Distribute number = ⊥
IsSetNumbered (IoCache pages) number = ⊥
IsSetNumbered IoThreads number = ⊥
IsSetNumbered Pass number = ⊥

pub record First (r : Role) (number : Option ℕ) (children : List ℕ) (base x : ℕ) (n : NodePlan) : Type 0 where
  pub here : x ≡ base
  pub is : n ≡ first_node r number children

pub record PutReplicate (r : Role) (number : Option ℕ) (nodes : List NodePlan) (base x : ℕ) (n : NodePlan) : Type 0 where
  pub brick : ℕ
  pub set : ℕ
  pub role : r ≡ Client brick
  pub numbered : number ≡ Some set
  pub here : base + 1 ≡ x
  pub over : slice_get nodes base ≡ Some (node (ClientNode brick) [])
  pub is : n ≡ node (ReplicateNode set) (base ∷ [])

pub record PutDistribute (alone : Bool) (r : Role) (number : Option ℕ) (nodes : List NodePlan) (base top x : ℕ) (n : NodePlan) : Type 0 where
  pub on : alone ≡ true
  pub set : IsSetNumbered r number
  pub under : ℕ
  pub children : List ℕ
  pub from : base ≤ under
  pub here : under + 1 ≡ x
  pub last : x ≡ top
  pub over : slice_get nodes under ≡ Some (node (ReplicateNode (or_zero number)) children)
  pub is : n ≡ node DistributeNode (under ∷ [])

abbrev pub NodeAs : Bool → Role → Option ℕ → List NodePlan → List ℕ → ℕ → ℕ → ℕ → NodePlan → Type 0
NodeAs alone r number nodes children base top x n = First r number children base x n ⊎ (PutReplicate r number nodes base x n ⊎ PutDistribute alone r number nodes base top x n)

pub record CapNode (alone : Bool) (base top x : ℕ) (n : NodePlan) : Type 0 where
  pub on : alone ≡ true
  pub here : base + 1 ≡ x
  pub last : x ≡ top
  pub is : n ≡ node DistributeNode (base ∷ [])

pub cap_node : (alone : Bool) (nodes : List NodePlan) (base top x : ℕ) (n : NodePlan) → HasCap alone nodes base top → base < x → x ≤ top → slice_get nodes x ≡ Some n → CapNode alone base top x n
cap_node false nodes base top x n h from to at = absurd (omega (arith, h, from, to))
cap_node true nodes base top x n h from to at =
    let last : x ≡ top = omega (arith, h.0, from, to) in
    record { on = refl; here = omega (arith, h.0, last); last = last; is = same_some _ _ (sym at ∙ ap (slice_get nodes) last ∙ h.1) }

-- a place from `base` to `top` is the first, or behind it
pub first_or : {Q : Type 0} (base x : ℕ) → base ≤ x → (x ≡ base → Q) → (base < x → Q) → Q
first_or {Q} base x from here later = by_place (cases_lt base x)
  where
    by_place : (base < x) ⊎ (x ≤ base) → Q
    by_place (inl more) = later more
    by_place (inr upto) = here (omega (arith, from, upto))

pub node_as : (alone : Bool) (r : Role) (number : Option ℕ) (nodes : List NodePlan) (children : List ℕ) (base top x : ℕ) (n : NodePlan) → IsLaid alone r number nodes children base top → base ≤ x → x ≤ top
    → slice_get nodes x ≡ Some n → NodeAs alone r number nodes children base top x n
node_as alone (Client brick) None nodes children base top x n h from to at =
    let here : x ≡ base = omega (arith, h.1, from, to) in inl (record { here = here; is = same_some _ _ (sym at ∙ ap (slice_get nodes) here ∙ h.0) })
node_as alone (Client brick) (Some k) nodes children base top x n h from to at =
    first_or base x from (λ here. inl (record { here = here; is = same_some _ _ (sym at ∙ ap (slice_get nodes) here ∙ h.0) }))
    (λ more. first_or (base + 1) x (omega (arith, more))
    (λ here. inr (inl (record { brick = brick; set = k; role = refl; numbered = refl; here = sym here; over = h.0; is = same_some _ _ (sym at ∙ ap (slice_get nodes) here ∙ h.1) })))
    (λ later. let c = cap_node alone nodes (base + 1) top x n h.2 later to at in
    inr (inr (record { on = c.on; set = (k, refl); under = base + 1; children = base ∷ []; from = omega arith; here = c.here; last = c.last; over = h.1; is = c.is }))))
node_as alone Replicate number nodes children base top x n h from to at =
    first_or base x from (λ here. inl (record { here = here; is = same_some _ _ (sym at ∙ ap (slice_get nodes) here ∙ h.0) }))
    (λ more. let c = cap_node alone nodes base top x n h.1 more to at in
    inr (inr (record { on = c.on; set = tt; under = base; children = children; from = omega arith; here = c.here; last = c.last; over = h.0; is = c.is })))
node_as alone Distribute number nodes children base top x n h from to at =
    let here : x ≡ base = omega (arith, h.1, from, to) in inl (record { here = here; is = same_some _ _ (sym at ∙ ap (slice_get nodes) here ∙ h.0) })
node_as alone (IoCache pages) number nodes children base top x n h from to at =
    let here : x ≡ base = omega (arith, h.1, from, to) in inl (record { here = here; is = same_some _ _ (sym at ∙ ap (slice_get nodes) here ∙ h.0) })
node_as alone IoThreads number nodes children base top x n h from to at =
    let here : x ≡ base = omega (arith, h.1, from, to) in inl (record { here = here; is = same_some _ _ (sym at ∙ ap (slice_get nodes) here ∙ h.0) })
node_as alone Pass number nodes children base top x n h from to at =
    let here : x ≡ base = omega (arith, h.1, from, to) in inl (record { here = here; is = same_some _ _ (sym at ∙ ap (slice_get nodes) here ∙ h.0) })

pub cap_order : (alone : Bool) (nodes : List NodePlan) (base top : ℕ) → HasCap alone nodes base top → base ≤ top
cap_order false nodes base top h = omega (arith, h)
cap_order true nodes base top h = omega (arith, h.0)

pub laid_order : (alone : Bool) (r : Role) (number : Option ℕ) (nodes : List NodePlan) (children : List ℕ) (base top : ℕ) → IsLaid alone r number nodes children base top → base ≤ top
laid_order alone (Client brick) None nodes children base top h = omega (arith, h.1)
laid_order alone (Client brick) (Some k) nodes children base top h = let up : base + 1 ≤ top = cap_order alone nodes (base + 1) top h.2 in omega (arith, up)
laid_order alone Replicate number nodes children base top h = cap_order alone nodes base top h.1
laid_order alone Distribute number nodes children base top h = omega (arith, h.1)
laid_order alone (IoCache pages) number nodes children base top h = omega (arith, h.1)
laid_order alone IoThreads number nodes children base top h = omega (arith, h.1)
laid_order alone Pass number nodes children base top h = omega (arith, h.1)

-- the first node of a volume is at its base
pub first_at : (alone : Bool) (r : Role) (number : Option ℕ) (nodes : List NodePlan) (children : List ℕ) (base top : ℕ) → IsLaid alone r number nodes children base top → slice_get nodes base ≡ Some (first_node r number children)
first_at alone (Client brick) None nodes children base top h = h.0
first_at alone (Client brick) (Some k) nodes children base top h = h.0
first_at alone Replicate number nodes children base top h = h.0
first_at alone Distribute number nodes children base top h = h.0
first_at alone (IoCache pages) number nodes children base top h = h.0
first_at alone IoThreads number nodes children base top h = h.0
first_at alone Pass number nodes children base top h = h.0

-- ---- children
pub only_child : (u k y : ℕ) → slice_get (u ∷ []) k ≡ Some y → y ≡ u
only_child u zero y e = same_some y u (sym e)
only_child u (suc k) y e = absurd cc

pub length-tops : (tops ps : List ℕ) → length (tops_at tops ps) ≡ length ps
length-tops tops [] = refl
length-tops tops (p ∷ ps) = ap suc (length-tops tops ps)

pub top_child : (tops ps : List ℕ) (k y : ℕ) → slice_get (tops_at tops ps) k ≡ Some y → (i : ℕ) × (has_place i ps ≡ true) × (y ≡ or_zero (slice_get tops i))
top_child tops [] k y e = absurd cc
top_child tops (p ∷ ps) zero y e = (p, first_placed p ps, same_some _ _ (sym e))
top_child tops (p ∷ ps) (suc k) y e = let r = top_child tops ps k y e in (r.0, or_right (r.0 == p) (has_place r.0 ps) r.1, r.2)

pub child_top : (tops ps : List ℕ) (k i : ℕ) → slice_get ps k ≡ Some i → slice_get (tops_at tops ps) k ≡ Some (or_zero (slice_get tops i))
child_top tops [] k i e = absurd cc
child_top tops (p ∷ ps) zero i e = let same : p ≡ i = same_some p i e in ap (λ q. Some (or_zero (slice_get tops q))) same
child_top tops (p ∷ ps) (suc k) i e = child_top tops ps k i e

pub set_from : (volumes : List Volume) (infos : List Info) (number : ℕ) (ps : List ℕ) (k p : ℕ) → slice_get ps k ≡ Some p → slice_get (sets_from volumes infos number ps) k ≡ Some (set_at volumes infos (number + k) p)
set_from volumes infos number [] k p e = absurd cc
set_from volumes infos number (q ∷ ps) zero p e =
    let same : q ≡ p = same_some q p e in
    let sum : number ≡ number + 0 = omega arith in ap (λ x. Some (set_at volumes infos number x)) same ∙ ap (λ n. Some (set_at volumes infos n p)) sum
set_from volumes infos number (q ∷ ps) (suc k) p e =
    let sum : number + 1 + k ≡ number + suc k = omega arith in set_from volumes infos (number + 1) ps k p e ∙ ap (λ n. Some (set_at volumes infos n p)) sum

pub no_places : (ps : List ℕ) → length ps ≡ 0 → ps ≡ []
no_places [] e = refl
no_places (p ∷ ps) e = absurd (omega (arith, e))

pub one_place : (ps : List ℕ) → length ps ≡ 1 → (p : ℕ) × (ps ≡ p ∷ [])
one_place [] e = absurd (omega (arith, e))
one_place (p ∷ []) e = (p, refl)
one_place (p ∷ q ∷ ps) e = absurd (omega (arith, e))

pub grown_depth : (r : Role) (t : Tree) → (grown r t).depth ≡ t.depth + 1
grown_depth (Client brick) t = refl
grown_depth Replicate t = refl
grown_depth Distribute t = refl
grown_depth (IoCache pages) t = refl
grown_depth IoThreads t = refl
grown_depth Pass t = refl

pub grown_cache : (r : Role) (t : Tree) → t.cache ≡ true → (grown r t).cache ≡ true
grown_cache (Client brick) t e = e
grown_cache Replicate t e = e
grown_cache Distribute t e = e
grown_cache (IoCache pages) t e = refl
grown_cache IoThreads t e = e
grown_cache Pass t e = e

pub not_so : (a b : Bool) → (a ≡ false → b ≡ false) → b ≡ true → a ≡ true
not_so true b leads e = refl
not_so false b leads e = let off : b ≡ false = leads refl in absurd cc

pub is_cache : (r : Role) (number : Option ℕ) (children : List ℕ) → ◌≡◌ {A = Option NodeKind} (Some (first_node r number children).kind) (Some IoCacheNode) → (pages : ℕ) × (r ≡ IoCache pages)
is_cache (Client brick) number children e = absurd cc
is_cache Replicate number children e = absurd cc
is_cache Distribute number children e = absurd cc
is_cache (IoCache pages) number children e = (pages, refl)
is_cache IoThreads number children e = absurd cc
is_cache Pass number children e = absurd cc

pub is_distributing : (r : Role) (number : Option ℕ) (children : List ℕ) → ◌≡◌ {A = Option NodeKind} (Some (first_node r number children).kind) (Some DistributeNode) → r ≡ Distribute
is_distributing (Client brick) number children e = absurd cc
is_distributing Replicate number children e = absurd cc
is_distributing Distribute number children e = refl
is_distributing (IoCache pages) number children e = absurd cc
is_distributing IoThreads number children e = absurd cc
is_distributing Pass number children e = absurd cc

-- ---- how many nodes are put in on a way down
-- below a set or in one: a replicate node, and where no volume distributes a distribute node too
abbrev pub caps : Bool → ℕ
caps true = 1
caps false = 0

-- on a way down that ends at such a volume
abbrev pub extra_as : ℕ → Role → Option ℕ → ℕ
extra_as most (Client brick) None = 0
extra_as most (Client brick) (Some k) = most
extra_as most Replicate number = most
extra_as most Distribute number = most
extra_as most (IoCache pages) number = most
extra_as most IoThreads number = most
extra_as most Pass number = most

abbrev pub extra_in : ℕ → Option Info → Option ℕ → ℕ
extra_in most None number = most
extra_in most (Some f) number = extra_as most f.role number

-- below the first node of a volume whose way down has so many
abbrev pub low_as : ℕ → Role → ℕ → ℕ
low_as most (Client brick) extra = 0
low_as most Replicate extra = 0
low_as most Distribute extra = most
low_as most (IoCache pages) extra = extra
low_as most IoThreads extra = extra
low_as most Pass extra = extra

abbrev pub EndFits : ℕ → Role → Option ℕ → ℕ → Type 0
EndFits most (Client brick) number extra = extra ≡ extra_as most (Client brick) number
EndFits most Replicate number extra = extra ≡ most
EndFits most Distribute number extra = extra ≡ most
EndFits most (IoCache pages) number extra = ⊤
EndFits most IoThreads number extra = ⊤
EndFits most Pass number extra = ⊤

pub extra_as_few : (most : ℕ) (r : Role) (number : Option ℕ) → extra_as most r number ≤ most
extra_as_few most (Client brick) None = omega arith
extra_as_few most (Client brick) (Some k) = omega arith
extra_as_few most Replicate number = omega arith
extra_as_few most Distribute number = omega arith
extra_as_few most (IoCache pages) number = omega arith
extra_as_few most IoThreads number = omega arith
extra_as_few most Pass number = omega arith

pub extra_in_few : (most : ℕ) (o : Option Info) (number : Option ℕ) → extra_in most o number ≤ most
extra_in_few most None number = omega arith
extra_in_few most (Some f) number = extra_as_few most f.role number

pub caps_few : (alone : Bool) → caps alone + 1 ≤ 2
caps_few true = omega arith
caps_few false = omega arith

pub cap_size : (alone : Bool) (nodes : List NodePlan) (base top : ℕ) → HasCap alone nodes base top → top ≤ base + caps alone
cap_size false nodes base top h = omega (arith, h)
cap_size true nodes base top h = omega (arith, h.0)

pub extra_fits : (alone : Bool) (r : Role) (number : Option ℕ) (nodes : List NodePlan) (children : List ℕ) (base top extra : ℕ) → IsLaid alone r number nodes children base top
    → EndFits (caps alone + 1) r number extra → low_as (caps alone + 1) r extra + (top - base) ≤ extra
extra_fits alone (Client brick) None nodes children base top extra h e = omega (arith, h.1)
extra_fits alone (Client brick) (Some k) nodes children base top extra h e = let size : top ≤ base + 1 + caps alone = cap_size alone nodes (base + 1) top h.2 in omega (arith, size, e)
extra_fits alone Replicate number nodes children base top extra h e = let size : top ≤ base + caps alone = cap_size alone nodes base top h.1 in omega (arith, size, e)
extra_fits alone Distribute number nodes children base top extra h e = omega (arith, h.1, e)
extra_fits alone (IoCache pages) number nodes children base top extra h e = omega (arith, h.1)
extra_fits alone IoThreads number nodes children base top extra h e = omega (arith, h.1)
extra_fits alone Pass number nodes children base top extra h e = omega (arith, h.1)

pub record Kinded (nodes : List NodePlan) (x : ℕ) (kind : NodeKind) : Type 0 where
  pub node : NodePlan
  pub at : slice_get nodes x ≡ Some node
  pub is : ◌≡◌ {A = Option NodeKind} (Some node.kind) (Some kind)

pub kind_node : (nodes : List NodePlan) (x : ℕ) (kind : NodeKind) → kind_at nodes x ≡ Some kind → Kinded nodes x kind
kind_node nodes x kind e = by_node (slice_get nodes x) refl e
  where
    by_node : (o : Option NodePlan) → slice_get nodes x ≡ o → option_map (λ (n : NodePlan). n.kind) o ≡ Some kind → Kinded nodes x kind
    by_node None is k = absurd cc
    by_node (Some n) is k = record { node = n; at = is; is = k }
