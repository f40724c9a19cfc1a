-- What is below distribute and replicate nodes, from what each node has: pass nodes, replicate nodes and clients.
use Rattle.std.proofs.Common.{inl, inr, ◌≡◌, ℕ, zero, suc, ◌<◌, List, [], ◌∷◌, length, map, Option, Some, None, refl, sym, ap, subst, ◌∙◌, arith}
use Rattle.std.specs.Prelude.{◌⊎◌, IsSomeAnd}
use Rattle.std.specs.List.{slice_get}
use Rattle.std.specs.Option.{option_map}
use Rattle.graph_build.specs.NodeLaw.{kind_at, child_in, IsChild, IsPath, IsPassPath, LeadsTo, LeadTo, IsNode, IsBelowReplicate, IsBelowDistribute}
use Rattle.graph_build.specs.declared.plans.NodePlan.{NodePlan}
use Rattle.graph_build.specs.declared.plans.NodeKind.{NodeKind}
use Rattle.graph_build.specs.declared.plans.NodeKind.TheVariants.{Client, Replicate, Distribute, IoCache, IoThreads, Pass}
use Rattle.fop_types.specs.declared.jobs.SetPlan.{SetPlan}
use Rattle.graph_build.proofs.Facts.{at_within}

-- ---- nodes, their kinds and their children
pub record Child (nodes : List NodePlan) (x y : ℕ) : Type 0 where
  pub node : NodePlan
  pub at : slice_get nodes x ≡ Some node
  pub number : ℕ
  pub child : slice_get node.children number ≡ Some y

pub child_node : (nodes : List NodePlan) (x y : ℕ) → IsChild nodes x y → Child nodes x y
child_node nodes x y c = by_node (slice_get nodes x) refl c.is
  where
    by_node : (o : Option NodePlan) → slice_get nodes x ≡ o → child_in o c.number ≡ Some y → Child nodes x y
    by_node None is e = absurd cc
    by_node (Some n) is e = record { node = n; at = is; number = c.number; child = e }

-- a node that is there has a child of its kind
kind_is : (nodes : List NodePlan) (x : ℕ) (n : NodePlan) (kind : NodeKind) → slice_get nodes x ≡ Some n → kind_at nodes x ≡ Some kind → n.kind ≡ kind
kind_is nodes x n kind at e = one n.kind kind (sym (ap (option_map (λ (m : NodePlan). m.kind)) at) ∙ e)
  where
    one : (a b : NodeKind) → ◌≡◌ {A = Option NodeKind} (Some a) (Some b) → a ≡ b
    one a b e = cc

same_place : (a b : ℕ) → ◌≡◌ {A = Option ℕ} (Some a) (Some b) → a ≡ b
same_place a b e = cc

only_one : (cs : List ℕ) (k q y : ℕ) → length cs ≡ 1 → slice_get cs 0 ≡ Some q → slice_get cs k ≡ Some y → q ≡ y
only_one cs zero q y one first child = same_place q y (sym first ∙ child)
only_one cs (suc k) q y one first child = let low : suc k < length cs = at_within cs (suc k) y child in absurd (omega (arith, low, one))

lead_child : (nodes : List NodePlan) (cs : List ℕ) (kinds : List NodeKind) (k y : ℕ) → LeadTo nodes cs kinds → slice_get cs k ≡ Some y → (kind : NodeKind) × (slice_get kinds k ≡ Some kind) × LeadsTo nodes y kind
lead_child nodes [] kinds k y h e = absurd cc
lead_child nodes (c ∷ cs) [] k y h e = absurd h
lead_child nodes (c ∷ cs) (kind ∷ kinds) zero y h e = (kind, refl, subst (λ x. LeadsTo nodes x kind) (same_place c y e) h.0)
lead_child nodes (c ∷ cs) (kind ∷ kinds) (suc k) y h e = lead_child nodes cs kinds k y h.1 e

client_in : (bs : List ℕ) (k : ℕ) (kind : NodeKind) → slice_get (map Client bs) k ≡ Some kind → (b : ℕ) × (kind ≡ Client b)
client_in [] k kind e = absurd cc
client_in (b ∷ bs) zero kind e = (b, cc)
client_in (b ∷ bs) (suc k) kind e = client_in bs k kind e

set_in : (sets : List SetPlan) (k : ℕ) (kind : NodeKind) → slice_get (map (λ (s : SetPlan). Replicate s.number) sets) k ≡ Some kind → (s : ℕ) × (kind ≡ Replicate s)
set_in [] k kind e = absurd cc
set_in (s ∷ sets) zero kind e = (s.number, cc)
set_in (s ∷ sets) (suc k) kind e = set_in sets k kind e

some_set : (sets : Option SetPlan) (P : SetPlan → Type 0) → IsSomeAnd sets P → (s : SetPlan) × P s
some_set None P h = absurd h
some_set (Some s) P h = (s, h)

module _ (bricks : ℕ) (nodes : List NodePlan) (sets : List SetPlan) (each : (p : ℕ) (n : NodePlan) → slice_get nodes p ≡ Some n → IsNode bricks nodes sets n.kind n.children n.cache_pages) where
  node_as : (x : ℕ) (n : NodePlan) (kind : NodeKind) → slice_get nodes x ≡ Some n → kind_at nodes x ≡ Some kind → IsNode bricks nodes sets kind n.children n.cache_pages
  node_as x n kind at e = subst (λ k. IsNode bricks nodes sets k n.children n.cache_pages) (kind_is nodes x n kind at e) (each x n at)

  record ToClient (x : ℕ) : Type 0 where
    pub brick : ℕ
    pub leads : LeadsTo nodes x (Client brick)

  record ToSet (x : ℕ) : Type 0 where
    pub set : ℕ
    pub leads : LeadsTo nodes x (Replicate set)

  abbrev IsLow : ℕ → Type 0
  IsLow x = ToSet x ⊎ ToClient x

  no_child : (x y : ℕ) (brick : ℕ) → kind_at nodes x ≡ Some (Client brick) → IsChild nodes x y → ⊥
  no_child x y brick e c =
      let p = child_node nodes x y c in
      let none : slice_get {X = ℕ} [] p.number ≡ Some y = ap (λ cs. slice_get cs p.number) (sym (node_as x p.node (Client brick) p.at e).1) ∙ p.child in absurd (omega (arith, at_within [] p.number y none))

  pass_child : (x y q : ℕ) → kind_at nodes x ≡ Some Pass → child_in (slice_get nodes x) 0 ≡ Some q → IsChild nodes x y → q ≡ y
  pass_child x y q e first c =
      let p = child_node nodes x y c in
      let one : length p.node.children ≡ 1 = (node_as x p.node Pass p.at e).0 in only_one p.node.children p.number q y one (sym (ap (λ o. child_in o 0) p.at) ∙ first) p.child

  client_child : (x y : ℕ) → ToClient x → IsChild nodes x y → ToClient y
  client_child x y t c = by_path t.leads.path t.leads.down
    where
      by_path : (path : List ℕ) → IsPassPath nodes x path t.leads.end → ToClient y
      by_path [] p = absurd (no_child x y t.brick (ap (kind_at nodes) p ∙ t.leads.is) c)
      by_path (q ∷ path) p =
          subst ToClient (pass_child x y q p.0 p.1 c) (record { brick = t.brick; leads = record { path = path; end = t.leads.end; down = p.2; is = t.leads.is } })

  replica_child : (x y set : ℕ) → kind_at nodes x ≡ Some (Replicate set) → IsChild nodes x y → ToClient y
  replica_child x y set e c =
      let p = child_node nodes x y c in
      let s = some_set (slice_get sets set) (λ s. LeadTo nodes p.node.children (map Client s.bricks)) (node_as x p.node (Replicate set) p.at e).0 in
      let l = lead_child nodes p.node.children (map Client s.0.bricks) p.number y s.1 p.child in
      let b = client_in s.0.bricks p.number l.0 l.1 in record { brick = b.0; leads = subst (LeadsTo nodes y) b.1 l.2 }

  set_child : (x y : ℕ) → ToSet x → IsChild nodes x y → IsLow y
  set_child x y t c = by_path t.leads.path t.leads.down
    where
      by_path : (path : List ℕ) → IsPassPath nodes x path t.leads.end → IsLow y
      by_path [] p = inr (replica_child x y t.set (ap (kind_at nodes) p ∙ t.leads.is) c)
      by_path (q ∷ path) p =
          inl (subst ToSet (pass_child x y q p.0 p.1 c) (record { set = t.set; leads = record { path = path; end = t.leads.end; down = p.2; is = t.leads.is } }))

  client_path : (path : List ℕ) (x end : ℕ) → ToClient x → IsPath nodes x path end → ToClient end
  client_path [] x end t p = subst ToClient p t
  client_path (y ∷ path) x end t p = client_path path y end (client_child x y t p.0) p.1

  low_path : (path : List ℕ) (x end : ℕ) → IsLow x → IsPath nodes x path end → IsLow end
  low_path [] x end t p = subst IsLow p t
  low_path (y ∷ path) x end (inl t) p = low_path path y end (set_child x y t p.0) p.1
  low_path (y ∷ path) x end (inr t) p = inr (client_path path y end (client_child x y t p.0) p.1)

  one_kind : (x : ℕ) (a b : NodeKind) → kind_at nodes x ≡ Some a → kind_at nodes x ≡ Some b → a ≡ b
  one_kind x a b e f = one (sym e ∙ f)
    where
      one : ◌≡◌ {A = Option NodeKind} (Some a) (Some b) → a ≡ b
      one k = cc

  client_kind : (x : ℕ) (kind : NodeKind) → ToClient x → kind_at nodes x ≡ Some kind → IsBelowReplicate kind
  client_kind x kind t e = by_path t.leads.path t.leads.down
    where
      by_path : (path : List ℕ) → IsPassPath nodes x path t.leads.end → IsBelowReplicate kind
      by_path [] p = subst IsBelowReplicate (one_kind x (Client t.brick) kind (ap (kind_at nodes) p ∙ t.leads.is) e) tt
      by_path (q ∷ path) p = subst IsBelowReplicate (one_kind x Pass kind p.0 e) tt

  set_kind : (x : ℕ) (kind : NodeKind) → ToSet x → kind_at nodes x ≡ Some kind → IsBelowDistribute kind
  set_kind x kind t e = by_path t.leads.path t.leads.down
    where
      by_path : (path : List ℕ) → IsPassPath nodes x path t.leads.end → IsBelowDistribute kind
      by_path [] p = subst IsBelowDistribute (one_kind x (Replicate t.set) kind (ap (kind_at nodes) p ∙ t.leads.is) e) tt
      by_path (q ∷ path) p = subst IsBelowDistribute (one_kind x Pass kind p.0 e) tt

  below_both : (kind : NodeKind) → IsBelowReplicate kind → IsBelowDistribute kind
  below_both (Client brick) h = tt
  below_both (Replicate set) h = tt
  below_both Distribute h = h
  below_both IoCache h = h
  below_both IoThreads h = h
  below_both Pass h = tt

  low_kind : (x : ℕ) (kind : NodeKind) → IsLow x → kind_at nodes x ≡ Some kind → IsBelowDistribute kind
  low_kind x kind (inl t) e = set_kind x kind t e
  low_kind x kind (inr t) e = below_both kind (client_kind x kind t e)

  -- ---- the three kinds that no path goes below freely
  pub below_client : (x y brick : ℕ) → kind_at nodes x ≡ Some (Client brick) → IsChild nodes x y → ⊥
  below_client = no_child

  pub below_replicate : (x y end set : ℕ) (path : List ℕ) (kind : NodeKind) → kind_at nodes x ≡ Some (Replicate set) → IsPath nodes x (y ∷ path) end → kind_at nodes end ≡ Some kind → IsBelowReplicate kind
  below_replicate x y end set path kind e p k = client_kind end kind (client_path path y end (replica_child x y set e p.0) p.1) k

  pub below_distribute : (x y end : ℕ) (path : List ℕ) (kind : NodeKind) → kind_at nodes x ≡ Some Distribute → IsPath nodes x (y ∷ path) end → kind_at nodes end ≡ Some kind → IsBelowDistribute kind
  below_distribute x y end path kind e p k =
      let c = child_node nodes x y p.0 in
      let l = lead_child nodes c.node.children (map (λ (s : SetPlan). Replicate s.number) sets) c.number y (node_as x c.node Distribute c.at e).0 c.child in
      let s = set_in sets c.number l.0 l.1 in low_kind end kind (low_path path y end (inl (record { set = s.0; leads = subst (LeadsTo nodes y) s.1 l.2 })) p.1) k
