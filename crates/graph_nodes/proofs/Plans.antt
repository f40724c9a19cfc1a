-- Each node of a plan has what its kind needs, and the names of its sets are names of volumes.
use Rattle.std.proofs.Common.{◌≡◌, ◌∙◌, ℕ, zero, suc, ◌+◌, ◌/◌, ◌%◌, ◌<◌, ◌≤◌, ◌⊎◌, inl, inr, Bool, true, false, ◌&&◌, List, [], ◌∷◌, map, length, Option, Some, None, refl, sym, ap, subst, arith, nat_le, get_or}
use Rattle.std.specs.Prelude.{IsSomeAnd, slice_get}
use Rattle.std.specs.List.{list_all}
use Rattle.std.proofs.lemmas.Bool.{and_parts, and_from, leb-true}
use Rattle.std.proofs.lemmas.List.{length-map}
use Rattle.std.proofs.lemmas.Option.{slice_get_read}
use Rattle.fop_types.specs.Bounds.{IsVolumeName, is_volume_byte}
use Rattle.fop_types.specs.Jobs.{IsReplicaCount, IsSetPlan}
use Rattle.fop_types.specs.declared.jobs.SetPlan.{SetPlan}
use Rattle.graph_build.specs.NodeLaw.{IsNode, AreNodes, LeadTo}
use Rattle.graph_build.specs.PlanLaw.{IsSet, AreSets, AreSetsFrom}
use Rattle.graph_build.specs.declared.plans.NodeKind.{NodeKind}
use Rattle.graph_build.specs.declared.plans.NodeKind.TheVariants.{Client, Replicate, Distribute, IoCache, IoThreads, Pass}
use Rattle.graph_build.specs.declared.plans.NodePlan.{NodePlan}
use Rattle.graph_build.specs.declared.plans.Plan.{Plan}
use Rattle.volfile.specs.TextLines.{is_name, is_name_byte}
use Rattle.graph_nodes.specs.Plans.{IsPlan, Needs, HasNeeds}

-- ---- what kinds need

set_at : (place : ℕ) (sets : List SetPlan) (k : ℕ) (s : SetPlan) → AreSetsFrom place sets → slice_get sets k ≡ Some s → IsSetPlan s
set_at place [] k s are is = absurd cc
set_at place (x ∷ xs) zero s are is = let same : x ≡ s = cc in subst IsSetPlan same are.0.plan
set_at place (x ∷ xs) (suc k) s are is = set_at (place + 1) xs k s are.1 is

needs_of : (bricks : ℕ) (nodes : List NodePlan) (sets : List SetPlan) (kind : NodeKind) (children : List ℕ) (pages : ℕ)
    → AreSets sets → IsNode bricks nodes sets kind children pages → Needs sets pages kind
needs_of bricks nodes sets (Client brick) children pages are is = tt
needs_of bricks nodes sets (Replicate number) children pages are is = by (slice_get sets number) refl is.0 where
  by : (o : Option SetPlan) → slice_get sets number ≡ o → IsSomeAnd o (λ set. LeadTo nodes children (map Client set.bricks)) → IsSomeAnd o IsSetPlan
  by None e h = absurd h
  by (Some set) e h = set_at 0 sets number set are.each e
needs_of bricks nodes sets Distribute children pages are is = are
needs_of bricks nodes sets IoCache children pages are is = is.1
needs_of bricks nodes sets IoThreads children pages are is = tt
needs_of bricks nodes sets Pass children pages are is = tt

pub has_needs : (plan : Plan) (p : ℕ) (n : NodePlan) → IsPlan plan → slice_get plan.nodes p ≡ Some n → HasNeeds plan.sets n
has_needs plan p n is at = needs_of is.bricks plan.nodes plan.sets n.kind n.children n.cache_pages is.sets (is.nodes.each p n at)

-- a node that was read
pub needs_read : (plan : Plan) (nodes : List NodePlan) (sets : List SetPlan) (p : ℕ) (n : NodePlan) → IsPlan plan → nodes ≡ plan.nodes → sets ≡ plan.sets → p < length nodes → n ≡ get_or nodes p n → HasNeeds sets n
needs_read plan nodes sets p n is same all low read =
    subst (λ (ss : List SetPlan). HasNeeds ss n) (sym all) (has_needs plan p n is (subst (λ (ns : List NodePlan). slice_get ns p ≡ Some n) same (slice_get_read nodes (length nodes) p n refl low read)))

-- ---- replicas

count_of : (n q : ℕ) → IsReplicaCount n → q + q ≡ n + 1 → (n % 2 ≡ 1) × ((n ≤ 5) × (q ≡ (n + 1) / 2))
count_of n q (inl one) h = subst (λ (m : ℕ). q + q ≡ m + 1 → (m % 2 ≡ 1) × ((m ≤ 5) × (q ≡ (m + 1) / 2))) (sym one) (λ e. (refl, (omega arith, let s : q ≡ 1 = omega (arith, e) in s))) h
count_of n q (inr (inl three)) h = subst (λ (m : ℕ). q + q ≡ m + 1 → (m % 2 ≡ 1) × ((m ≤ 5) × (q ≡ (m + 1) / 2))) (sym three) (λ e. (refl, (omega arith, let s : q ≡ 2 = omega (arith, e) in s))) h
count_of n q (inr (inr five)) h = subst (λ (m : ℕ). q + q ≡ m + 1 → (m % 2 ≡ 1) × ((m ≤ 5) × (q ≡ (m + 1) / 2))) (sym five) (λ e. (refl, (omega arith, let s : q ≡ 3 = omega (arith, e) in s))) h

pub odd_replicas : (s : SetPlan) → IsSetPlan s → length s.bricks % 2 ≡ 1
odd_replicas s is = (count_of (length s.bricks) s.q is.replicas is.quorum).0

pub few_replicas : (s : SetPlan) → IsSetPlan s → length s.bricks ≤ 5
few_replicas s is = (count_of (length s.bricks) s.q is.replicas is.quorum).1.0

pub half_replicas : (s : SetPlan) → IsSetPlan s → s.q ≡ (length s.bricks + 1) / 2
half_replicas s is = (count_of (length s.bricks) s.q is.replicas is.quorum).1.1

-- ---- names

volume_byte : (b : ℕ) → is_name_byte b ≡ true → is_volume_byte b ≡ true
volume_byte b h = grind (arith, h)

volume_bytes : (name : List ℕ) → list_all is_name_byte name ≡ true → list_all is_volume_byte name ≡ true
volume_bytes [] h = refl
volume_bytes (b ∷ bs) h =
    let parts = and_parts (is_name_byte b) (list_all is_name_byte bs) h in
    and_from (is_volume_byte b) (list_all is_volume_byte bs) (volume_byte b parts.0) (volume_bytes bs parts.1)

volume_name : (name : List ℕ) → is_name name ≡ true → IsVolumeName name
volume_name name h =
    let parts = and_parts (nat_le 1 (length name) && nat_le (length name) 64) (list_all is_name_byte name) h in
    let both = and_parts (nat_le 1 (length name)) (nat_le (length name) 64) parts.0 in
    (leb-true 1 (length name) both.0, leb-true (length name) 64 both.1, volume_bytes name parts.1)

abbrev pub names_of : List SetPlan → List (List ℕ)
names_of sets = map (λ (s : SetPlan). s.name) sets

named_at : (place : ℕ) (sets : List SetPlan) (k : ℕ) (s : SetPlan) → AreSetsFrom place sets → slice_get sets k ≡ Some s → IsVolumeName s.name
named_at place [] k s are is = absurd cc
named_at place (x ∷ xs) zero s are is = let same : x ≡ s = cc in volume_name s.name (subst (λ (y : SetPlan). is_name y.name ≡ true) same are.0.name)
named_at place (x ∷ xs) (suc k) s are is = named_at (place + 1) xs k s are.1 is

pub name_at : (sets : List SetPlan) (k : ℕ) (s : SetPlan) → AreSets sets → slice_get sets k ≡ Some s → IsVolumeName s.name
name_at sets k s are is = named_at 0 sets k s are.each is

-- the name of a set that was read, and copied
pub name_read : (sets : List SetPlan) (k : ℕ) (s : SetPlan) (name : List ℕ) → AreSets sets → k < length sets → s ≡ get_or sets k s → name ≡ s.name → IsVolumeName name
name_read sets k s name are low read same = subst IsVolumeName (sym same) (name_at sets k s are (slice_get_read sets (length sets) k s refl low read))

pub count_names : (sets : List SetPlan) → length (names_of sets) ≡ length sets
count_names sets = length-map sets (λ (s : SetPlan). s.name)
