-- The sets of a plan.
use Rattle.std.proofs.Common.{inl, inr, ◌≡◌, ℕ, zero, suc, ◌+◌, ◌-◌, ◌<◌, ◌≤◌, ◌==◌, ◌/◌, ◌||◌, ◌&&◌, not, Bool, true, false, cond, List, [], ◌∷◌, ◌++◌, append-nil, append_assoc, length, flat_map, Option, Some, None, Result, Ok, Err, refl, sym, ap, subst, ◌∙◌, arith}
use Rattle.std.specs.List.{AllByRecursion, IsDistinct, list_any, slice_get}
use Rattle.std.proofs.lemmas.Bool.{leb-false}
use Rattle.std.proofs.lemmas.Bool.Decides.{nat_tests}
use Rattle.std.proofs.lemmas.List.{length_push}
use Rattle.std.proofs.lemmas.Map.Steps.{length-le_from_distinct_below}
use Rattle.volfile.specs.TextLines.{is_text, is_name}
use Rattle.volfile.specs.VolumeNames.{place_of}
use Rattle.volfile.specs.Volumes.{without_lines, IsBlock, AreVolumes}
use Rattle.volfile.specs.declared.volumes.Volume.{Volume}
use Rattle.volfile.proofs.Places.{same_word, word_itself, place_push}
use Rattle.volfile.proofs.WellRead.{not_false, ok_same, parsed_whole}
use Rattle.volfile.proofs.Alike.{each_volume}
use Rattle.volfile.specs.declared.brick_lines.BrickLine.{BrickLine}
use Rattle.graph_build.specs.PlanRules.{no_tree, joined_info, gathered, is_nested, bottom_in, bottom_at, places_of, infos_from, is_used, unused_from}
use Rattle.graph_build.specs.Plans.{is_distribute, distributed, bottoms_at, sets_under, members_as, members_in, members_of, name_in, names_at, brick_as, brick_in, bricks_at, set_at, sets_from, plan_if, plan_from, planned}
use Rattle.graph_build.specs.PlanLaw.{IsSet, AreSetsFrom, AreSets, PlansHaveSets}
use Rattle.graph_build.specs.declared.errors.PlanError.{PlanError}
use Rattle.graph_build.specs.declared.infos.Tree.{Tree}
use Rattle.graph_build.specs.declared.infos.Info.{Info}
use Rattle.graph_build.specs.declared.infos.Role.{Role}
use Rattle.graph_build.specs.declared.infos.Role.TheVariants.{Client, Replicate, Distribute, IoCache, IoThreads, Pass}
use Rattle.graph_build.specs.declared.plans.Plan.{Plan}
use Rattle.fop_types.specs.Jobs.{IsReplicaCount}
use Rattle.fop_types.specs.declared.jobs.SetPlan.{SetPlan}
use Rattle.graph_build.proofs.Apart.{Apart, all_map, all_flat, mapped, apart_mapped, distinct_from, none_repeats}
use Rattle.graph_build.proofs.Steps.{Step, places_within, length-places_of, place_within, all_kept}
use Rattle.graph_build.proofs.Facts.{SizeFits, StopFits, IsSetRole, plain_stop, set_stop, members_below, Holds, some_at, at_within, apart_members, next_holds, nothing_holds}
use Rattle.graph_build.proofs.RoleFacts.{role_fits}

-- ---- all volumes
pub holds_next : (volumes : List Volume) (bricks : List BrickLine) (known : List Info) (done rest : List Volume) (v : Volume) (f : Info) → volumes ≡ done ++ v ∷ rest → length known ≡ length done → IsBlock done v → Holds known
    → Step bricks known v (places_of volumes v.subvolumes) f → Holds (known ++ f ∷ [])
holds_next volumes bricks known done rest v f is size block h s =
    let below = places_of volumes v.subvolumes in
    let low : AllByRecursion (λ p. p < length known) below =
    subst (λ vs. AllByRecursion (λ p. p < length known) (places_of vs v.subvolumes)) (sym is) (subst (λ n. AllByRecursion (λ p. p < n) (places_of (done ++ v ∷ rest) v.subvolumes)) (sym size) (places_within done (v ∷ rest) v.subvolumes block.defined)) in
    let fits = role_fits bricks known v s.role s.is_role in
    let parts = none_repeats (is_used known) below s.apart in
    subst (λ k. Holds (known ++ k ∷ [])) (sym s.is)
    (next_holds known h s.role below low parts.0 parts.1 (subst (λ n. SizeFits s.role n) (sym (length-places_of volumes v.subvolumes)) fits.size) s.stands fits.brick)

-- ---- names of volumes
few_behind : (vs before : List Volume) → length before ≤ 256 → AreVolumes before vs → length before + length vs ≤ 256
few_behind [] before few h = omega (arith, few)
few_behind (v ∷ vs) before few h =
    let room : length before < 256 = leb-false 256 (length before) h.0.room in
    let one : length (before ++ v ∷ []) ≡ length before + 1 = length_push before v in
    omega (arith, few_behind vs (before ++ v ∷ []) (omega (arith, room, one)) h.2, one)

name_at : (vs before : List Volume) (i : ℕ) (v : Volume) → AreVolumes before vs → slice_get vs i ≡ Some v → is_name v.name ≡ true
name_at [] before i v h at = absurd cc
name_at (u ∷ vs) before zero v h at = let same : u ≡ v = cc in subst (λ (w : Volume). is_name w.name ≡ true) same h.0.name
name_at (u ∷ vs) before (suc i) v h at = name_at vs (before ++ u ∷ []) i v h.2 at

place_itself : (vs before : List Volume) (i : ℕ) (v : Volume) → AreVolumes before vs → slice_get vs i ≡ Some v → place_of v.name (before ++ vs) ≡ Some (length before + i)
place_itself [] before i v h at = absurd cc
place_itself (u ∷ vs) before zero v h at =
    let same : u ≡ v = cc in
    let last : place_of u.name (before ++ u ∷ []) ≡ Some (length before) = place_push before u u.name h.0.fresh ∙ ap (λ (b : Bool). cond b (Some (length before)) (place_of u.name before)) (word_itself u.name) in
    let sum : length before ≡ length before + 0 = omega arith in
    subst (λ (w : Volume). place_of w.name (before ++ u ∷ vs) ≡ Some (length before + 0)) same
    (ap (place_of u.name) (sym (append_assoc before (u ∷ []) vs)) ∙ place_within (before ++ u ∷ []) vs u.name (length before) last ∙ ap Some sum)
place_itself (u ∷ vs) before (suc i) v h at =
    let sum : length (before ++ u ∷ []) + i ≡ length before + suc i = omega (arith, length_push before u) in
    ap (place_of v.name) (sym (append_assoc before (u ∷ []) vs)) ∙ place_itself vs (before ++ u ∷ []) i v h.2 at ∙ ap Some sum

-- ---- the distribute volume
pub none_distributes : (infos : List Info) → distributed infos ≡ None → (i : ℕ) (f : Info) → slice_get infos i ≡ Some f → is_distribute f.role ≡ false
none_distributes [] is i f at = absurd cc
none_distributes (g ∷ infos) is i f at = by_test (is_distribute g.role) refl (λ none j to. none_distributes infos none j f to) is i at
  where
    by_test : (b : Bool) → is_distribute g.role ≡ b → (distributed infos ≡ None → (j : ℕ) → slice_get infos j ≡ Some f → is_distribute f.role ≡ false)
        → cond b (Some g.below) (distributed infos) ≡ None → (j : ℕ) → slice_get (g ∷ infos) j ≡ Some f → is_distribute f.role ≡ false
    by_test true at_g rest none j to = absurd cc
    by_test false at_g rest none zero to = let same : g ≡ f = cc in subst (λ (k : Info). is_distribute k.role ≡ false) same at_g
    by_test false at_g rest none (suc j) to = rest none j to

is_that : (r : Role) → is_distribute r ≡ true → r ≡ Distribute
is_that (Client b) e = absurd cc
is_that Replicate e = absurd cc
is_that Distribute e = refl
is_that (IoCache pages) e = absurd cc
is_that IoThreads e = absurd cc
is_that Pass e = absurd cc

pub some_distributes : (infos : List Info) (below : List ℕ) → distributed infos ≡ Some below → (d : ℕ) × (f : Info) × (slice_get infos d ≡ Some f) × (f.role ≡ Distribute) × (f.below ≡ below)
some_distributes [] below is = absurd cc
some_distributes (g ∷ infos) below is = by_test (is_distribute g.role) refl (some_distributes infos below) is
  where
    by_test : (b : Bool) → is_distribute g.role ≡ b → (distributed infos ≡ Some below → (d : ℕ) × (f : Info) × (slice_get infos d ≡ Some f) × (f.role ≡ Distribute) × (f.below ≡ below))
        → cond b (Some g.below) (distributed infos) ≡ Some below → (d : ℕ) × (f : Info) × (slice_get (g ∷ infos) d ≡ Some f) × (f.role ≡ Distribute) × (f.below ≡ below)
    by_test true at rest e = let same : g.below ≡ below = cc in (0, g, refl, is_that g.role at, same)
    by_test false at rest e = let r = rest e in (suc r.0, r.1, r.2, r.3, r.4)

-- ---- places below a number, none of them twice, are at most that many
apart_distinct : (ps : List ℕ) → Apart ps → IsDistinct ◌==◌ ps
apart_distinct ps apart = distinct_from ◌==◌ (λ a b e. grind (arith, nat_tests)) ps apart

listed_low : (ps : List ℕ) (n : ℕ) → AllByRecursion (λ p. p < n) ps → (q : ℕ) → list_any (λ p. q == p) ps ≡ true → q < n
listed_low [] n low q e = absurd cc
listed_low (p ∷ ps) n low q e = by_test (q == p) refl (λ k. listed_low ps n low.1 q k) e
  where
    by_test : (b : Bool) → (q == p) ≡ b → (list_any (λ p. q == p) ps ≡ true → q < n) → (b || list_any (λ p. q == p) ps) ≡ true → q < n
    by_test true is rest k = let same : q ≡ p = grind (arith, nat_tests) in subst (λ x. x < n) (sym same) low.0
    by_test false is rest k = rest k

apart_few : (ps : List ℕ) (n : ℕ) → Apart ps → AllByRecursion (λ p. p < n) ps → length ps ≤ n
apart_few ps n apart low = length-le_from_distinct_below ps n (apart_distinct ps apart) (listed_low ps n low)

pub members_under : (infos : List Info) (ps : List ℕ) → flat_map (members_of infos) (bottoms_at infos ps) ≡ flat_map (members_below infos) ps
members_under infos [] = refl
members_under infos (p ∷ ps) = ap (λ l. members_below infos p ++ l) (members_under infos ps)

module _ (volumes : List Volume) (each : AreVolumes [] volumes) (infos : List Info) (h : Holds infos) (size : length infos ≡ length volumes) where
  abbrev vname : ℕ → List ℕ
  vname p = name_in (slice_get volumes p)

  named : (p : ℕ) → p < length infos → is_name (vname p) ≡ true
  named p low = let v = some_at volumes p (omega (arith, low, size)) in subst (λ o. is_name (name_in o) ≡ true) (sym v.1) (name_at volumes [] p v.0 each v.1)

  names_differ : (p q : ℕ) → p < length infos → q < length infos → vname p ≡ vname q → p ≡ q
  names_differ p q low less same =
      let v = some_at volumes p (omega (arith, low, size)) in
      let w = some_at volumes q (omega (arith, less, size)) in
      let names : v.0.name ≡ w.0.name = ap name_in (sym v.1) ∙ same ∙ ap name_in w.1 in
      let one : place_of v.0.name volumes ≡ Some (0 + p) = place_itself volumes [] p v.0 each v.1 in
      let two : place_of w.0.name volumes ≡ Some (0 + q) = place_itself volumes [] q w.0 each w.1 in
      let both : ◌≡◌ {A = Option ℕ} (Some (0 + p)) (Some (0 + q)) = sym one ∙ ap (λ n. place_of n volumes) names ∙ two in
      omega (arith, some_same (0 + p) (0 + q) both)
    where
      some_same : (a b : ℕ) → ◌≡◌ {A = Option ℕ} (Some a) (Some b) → a ≡ b
      some_same a b e = cc

  -- ---- clients
  record IsClient (p : ℕ) : Type 0 where
    pub info : Info
    pub at : slice_get infos p ≡ Some info
    pub brick : ℕ
    pub role : info.role ≡ Client brick

  client_low : (p : ℕ) → IsClient p → p < length infos
  client_low p c = at_within infos p c.info c.at

  bricks_differ : (p q : ℕ) → IsClient p → IsClient q → brick_in (slice_get infos p) ≡ brick_in (slice_get infos q) → p ≡ q
  bricks_differ p q c d same =
      let one : brick_in (slice_get infos p) ≡ c.brick = ap brick_in c.at ∙ ap brick_as c.role in
      let two : brick_in (slice_get infos q) ≡ d.brick = ap brick_in d.at ∙ ap brick_as d.role in
      h.bricks p q c.brick c.info d.info c.at d.at c.role (d.role ∙ ap Client (sym two ∙ sym same ∙ one))

  -- ---- what is below a replicate volume is plain, and below a distribute volume nothing distributes
  plain_below : (first : Tree) (ps : List ℕ) → (gathered first infos ps).plain ≡ true → AllByRecursion (λ p. p < length infos) ps → (first.plain ≡ true) × AllByRecursion (λ p. (f : Info) → slice_get infos p ≡ Some f → f.tree.plain ≡ true) ps
  plain_below first [] e low = (e, tt)
  plain_below first (p ∷ ps) e low =
      let f = some_at infos p low.0 in
      let rest = plain_below (joined_info first (slice_get infos p)) ps e low.1 in
      let here : (first.plain && f.0.tree.plain) ≡ true = subst (λ o. (joined_info first o).plain ≡ true) f.1 rest.0 in
      (left first.plain f.0.tree.plain here, ((λ g at. subst (λ (k : Info). k.tree.plain ≡ true) (one f.0 g (sym f.1 ∙ at)) (right first.plain f.0.tree.plain here)), rest.1))
    where
      left : (a b : Bool) → (a && b) ≡ true → a ≡ true
      left true b e = refl
      left false b e = absurd cc

      right : (a b : Bool) → (a && b) ≡ true → b ≡ true
      right true b e = e
      right false b e = absurd cc

      one : (f g : Info) → ◌≡◌ {A = Option Info} (Some f) (Some g) → f ≡ g
      one f g e = cc

  none_below : (first : Tree) (ps : List ℕ) → (gathered first infos ps).distribute ≡ false → AllByRecursion (λ p. p < length infos) ps → (first.distribute ≡ false) × AllByRecursion (λ p. (f : Info) → slice_get infos p ≡ Some f → f.tree.distribute ≡ false) ps
  none_below first [] e low = (e, tt)
  none_below first (p ∷ ps) e low =
      let f = some_at infos p low.0 in
      let rest = none_below (joined_info first (slice_get infos p)) ps e low.1 in
      let here : (first.distribute || f.0.tree.distribute) ≡ false = subst (λ o. (joined_info first o).distribute ≡ false) f.1 rest.0 in
      (left first.distribute f.0.tree.distribute here, ((λ g at. subst (λ (k : Info). k.tree.distribute ≡ false) (one f.0 g (sym f.1 ∙ at)) (right first.distribute f.0.tree.distribute here)), rest.1))
    where
      left : (a b : Bool) → (a || b) ≡ false → a ≡ false
      left true b e = absurd cc
      left false b e = refl

      right : (a b : Bool) → (a || b) ≡ false → b ≡ false
      right true b e = absurd cc
      right false b e = e

      one : (f g : Info) → ◌≡◌ {A = Option Info} (Some f) (Some g) → f ≡ g
      one f g e = cc

  -- ---- the place of a set
  record IsSetPlace (b : ℕ) : Type 0 where
    pub info : Info
    pub at : slice_get infos b ≡ Some info
    pub role : IsSetRole info.role

  low_in : (i : ℕ) (f : Info) → slice_get infos i ≡ Some f → AllByRecursion (λ p. p < length infos) f.below
  low_in i f at = all_map (λ p. p < i) (λ p. p < length infos) f.below (λ p k. omega (arith, k, at_within infos i f at)) (h.entries i f at).below_low

  client_below : (p : ℕ) → p < length infos → ((f : Info) → slice_get infos p ≡ Some f → f.tree.plain ≡ true) → IsClient (bottom_at infos p)
  client_below p low plain =
      let f = some_at infos p low in
      let stop = (h.entries p f.0 f.1).stop in
      let c = plain_stop f.0.tree stop.end.role (plain f.0 f.1) stop.fits in
      record { info = stop.end; at = subst (λ o. slice_get infos (bottom_in o) ≡ Some stop.end) (sym f.1) stop.is; brick = c.0; role = c.1 }

  clients_below : (ps : List ℕ) → AllByRecursion (λ p. p < length infos) ps → AllByRecursion (λ p. (f : Info) → slice_get infos p ≡ Some f → f.tree.plain ≡ true) ps → AllByRecursion IsClient (bottoms_at infos ps)
  clients_below [] low plain = tt
  clients_below (p ∷ ps) low plain = (client_below p low.0 plain.0, clients_below ps low.1 plain.1)

  length-bottoms : (ps : List ℕ) → length (bottoms_at infos ps) ≡ length ps
  length-bottoms [] = refl
  length-bottoms (p ∷ ps) = ap suc (length-bottoms ps)

  record Members (b : ℕ) : Type 0 where
    pub count : IsReplicaCount (length (members_of infos b))
    pub few : length (members_of infos b) ≤ 3
    pub clients : AllByRecursion IsClient (members_of infos b)

  members_are : (b : ℕ) → IsSetPlace b → Members b
  members_are b s = record {
    count = subst (λ o. IsReplicaCount (length (members_in o infos b))) (sym s.at) (by_count s.info.role refl s.role);
    few = subst (λ o. length (members_in o infos b) ≤ 3) (sym s.at) (by_few s.info.role refl s.role);
    clients = subst (λ o. AllByRecursion IsClient (members_in o infos b)) (sym s.at) (by_clients s.info.role refl s.role);
  }
    where
      by_count : (r : Role) → s.info.role ≡ r → IsSetRole r → IsReplicaCount (length (members_as r infos b s.info.below))
      by_count (Client k) is fits = inl refl
      by_count Replicate is fits = inr (inl (length-bottoms s.info.below ∙ subst (λ r. SizeFits r (length s.info.below)) is (h.entries b s.info s.at).size))
      by_count Distribute is fits = absurd fits
      by_count (IoCache pages) is fits = absurd fits
      by_count IoThreads is fits = absurd fits
      by_count Pass is fits = absurd fits

      by_few : (r : Role) → s.info.role ≡ r → IsSetRole r → length (members_as r infos b s.info.below) ≤ 3
      by_few (Client k) is fits = omega arith
      by_few Replicate is fits = let size = subst (λ r. SizeFits r (length s.info.below)) is (h.entries b s.info s.at).size in omega (arith, size, length-bottoms s.info.below)
      by_few Distribute is fits = absurd fits
      by_few (IoCache pages) is fits = absurd fits
      by_few IoThreads is fits = absurd fits
      by_few Pass is fits = absurd fits

      by_clients : (r : Role) → s.info.role ≡ r → IsSetRole r → AllByRecursion IsClient (members_as r infos b s.info.below)
      by_clients (Client k) is fits = (record { info = s.info; at = s.at; brick = k; role = is }, tt)
      by_clients Replicate is fits =
          let low = low_in b s.info s.at in
          let stands : not (gathered no_tree infos s.info.below).plain ≡ false = subst (λ r. is_nested r (gathered no_tree infos s.info.below) ≡ false) is (h.entries b s.info s.at).stands in
          clients_below s.info.below low (plain_below no_tree s.info.below (not_false _ stands) low).1
      by_clients Distribute is fits = absurd fits
      by_clients (IoCache pages) is fits = absurd fits
      by_clients IoThreads is fits = absurd fits
      by_clients Pass is fits = absurd fits

  -- ---- lists of names and bricks
  names_mapped : (ps : List ℕ) → names_at volumes ps ≡ mapped vname ps
  names_mapped [] = refl
  names_mapped (p ∷ ps) = ap (λ ns. vname p ∷ ns) (names_mapped ps)

  abbrev vbrick : ℕ → ℕ
  vbrick p = brick_in (slice_get infos p)

  bricks_mapped : (ps : List ℕ) → bricks_at infos ps ≡ mapped vbrick ps
  bricks_mapped [] = refl
  bricks_mapped (p ∷ ps) = ap (λ bs. vbrick p ∷ bs) (bricks_mapped ps)

  length-mapped : {B : Type 0} (g : ℕ → B) (ps : List ℕ) → length (mapped g ps) ≡ length ps
  length-mapped g [] = refl
  length-mapped g (p ∷ ps) = ap suc (length-mapped g ps)

  mapped_append : {B : Type 0} (g : ℕ → B) (ps qs : List ℕ) → mapped g (ps ++ qs) ≡ mapped g ps ++ mapped g qs
  mapped_append g [] qs = refl
  mapped_append g (p ∷ ps) qs = ap (λ l. g p ∷ l) (mapped_append g ps qs)

  names_all : (ps : List ℕ) → AllByRecursion IsClient ps → AllByRecursion (λ n. is_name n ≡ true) (names_at volumes ps)
  names_all [] all = tt
  names_all (p ∷ ps) all = (named p (client_low p all.0), names_all ps all.1)

  majority : (n : ℕ) → IsReplicaCount n → (n + 1) / 2 + (n + 1) / 2 ≡ n + 1
  majority n (inl one) = subst (λ k. (k + 1) / 2 + (k + 1) / 2 ≡ k + 1) (sym one) refl
  majority n (inr (inl three)) = subst (λ k. (k + 1) / 2 + (k + 1) / 2 ≡ k + 1) (sym three) refl
  majority n (inr (inr five)) = subst (λ k. (k + 1) / 2 + (k + 1) / 2 ≡ k + 1) (sym five) refl

  -- ---- the sets
  set_is : (number b : ℕ) → IsSetPlace b → IsSet number (set_at volumes infos number b)
  set_is number b s =
      let m = members_are b s in
      let ms = members_of infos b in
      let size_of : length (bricks_at infos ms) ≡ length ms = ap length (bricks_mapped ms) ∙ length-mapped vbrick ms in
      let names : length (names_at volumes ms) ≡ length ms = ap length (names_mapped ms) ∙ length-mapped vname ms in
      record {
        number = refl;
        name = named b (at_within infos b s.info s.at);
        plan = record { replicas = subst IsReplicaCount (sym size_of) (m.count); quorum = subst (λ n. (length ms + 1) / 2 + (length ms + 1) / 2 ≡ n + 1) (sym size_of) (majority (length ms) m.count); clients = names ∙ sym size_of };
        few = subst (λ n. n ≤ 3) (sym size_of) m.few;
        client_names = names_all ms m.clients;
      }

  sets_are : (number : ℕ) (ps : List ℕ) → AllByRecursion IsSetPlace ps → AreSetsFrom number (sets_from volumes infos number ps)
  sets_are number [] all = tt
  sets_are number (p ∷ ps) all = (set_is number p all.0, sets_are (number + 1) ps all.1)

  length-sets : (number : ℕ) (ps : List ℕ) → length (sets_from volumes infos number ps) ≡ length ps
  length-sets number [] = refl
  length-sets number (p ∷ ps) = ap suc (length-sets (number + 1) ps)

  other_names : (p number : ℕ) (ps : List ℕ) → p < length infos → AllByRecursion IsSetPlace ps → AllByRecursion (λ q. p ≡ q → ⊥) ps → AllByRecursion (λ (t : SetPlan). is_text (vname p) t.name ≡ false) (sets_from volumes infos number ps)
  other_names p number [] low all others = tt
  other_names p number (q ∷ ps) low all others =
      (off (is_text (vname p) (vname q)) refl, other_names p (number + 1) ps low all.1 others.1)
    where
      off : (b : Bool) → is_text (vname p) (vname q) ≡ b → is_text (vname p) (vname q) ≡ false
      off true is = absurd (others.0 (names_differ p q low (at_within infos q all.0.info all.0.at) (same_word (vname p) (vname q) is)))
      off false is = is

  names_apart : (number : ℕ) (ps : List ℕ) → AllByRecursion IsSetPlace ps → Apart ps → IsDistinct (λ (s t : SetPlan). is_text s.name t.name) (sets_from volumes infos number ps)
  unfolding IsDistinct
  names_apart number [] all apart = tt
  names_apart number (p ∷ ps) all apart = (other_names p (number + 1) ps (at_within infos p all.0.info all.0.at) all.1 apart.0, names_apart (number + 1) ps all.1 apart.1)

  clients_flat : (number : ℕ) (ps : List ℕ) → flat_map (λ (s : SetPlan). s.clients) (sets_from volumes infos number ps) ≡ mapped vname (flat_map (members_of infos) ps)
  clients_flat number [] = refl
  clients_flat number (p ∷ ps) =
      ap (λ l. l ++ flat_map (λ (s : SetPlan). s.clients) (sets_from volumes infos (number + 1) ps)) (names_mapped (members_of infos p))
      ∙ ap (λ l. mapped vname (members_of infos p) ++ l) (clients_flat (number + 1) ps) ∙ sym (mapped_append vname (members_of infos p) (flat_map (members_of infos) ps))

  bricks_flat : (number : ℕ) (ps : List ℕ) → flat_map (λ (s : SetPlan). s.bricks) (sets_from volumes infos number ps) ≡ mapped vbrick (flat_map (members_of infos) ps)
  bricks_flat number [] = refl
  bricks_flat number (p ∷ ps) =
      ap (λ l. l ++ flat_map (λ (s : SetPlan). s.bricks) (sets_from volumes infos (number + 1) ps)) (bricks_mapped (members_of infos p))
      ∙ ap (λ l. mapped vbrick (members_of infos p) ++ l) (bricks_flat (number + 1) ps) ∙ sym (mapped_append vbrick (members_of infos p) (flat_map (members_of infos) ps))

  same_number : (a b : ℕ) → (a == b) ≡ true → a ≡ b
  same_number a b e = grind (arith, nat_tests)

  sets_of_places : (ps : List ℕ) → AllByRecursion IsSetPlace ps → Apart ps → Apart (flat_map (members_of infos) ps) → 1 ≤ length ps → length ps ≤ 255 → AreSets (sets_from volumes infos 0 ps)
  sets_of_places ps all apart members some few =
      let clients : AllByRecursion IsClient (flat_map (members_of infos) ps) = all_flat IsClient (members_of infos) ps (all_map IsSetPlace (λ p. AllByRecursion IsClient (members_of infos p)) ps (λ p s. (members_are p s).clients) all) in
      record {
        some = subst (λ n. 1 ≤ n) (sym (length-sets 0 ps)) some;
        few = subst (λ n. n ≤ 255) (sym (length-sets 0 ps)) few;
        each = sets_are 0 ps all;
        names = names_apart 0 ps all apart;
        clients = subst (IsDistinct is_text) (sym (clients_flat 0 ps))
            (distinct_from is_text same_word _ (apart_mapped IsClient vname _ (λ p q c d same. names_differ p q (client_low p c) (client_low q d) same) clients members));
        bricks = subst (IsDistinct ◌==◌) (sym (bricks_flat 0 ps)) (distinct_from ◌==◌ same_number _ (apart_mapped IsClient vbrick _ bricks_differ clients members));
      }

  -- ---- the places of the sets
  bottom_set : (p : ℕ) → p < length infos → ((f : Info) → slice_get infos p ≡ Some f → f.tree.distribute ≡ false) → IsSetPlace (bottom_at infos p)
  bottom_set p low off =
      let f = some_at infos p low in
      let stop = (h.entries p f.0 f.1).stop in
      record { info = stop.end; at = subst (λ o. slice_get infos (bottom_in o) ≡ Some stop.end) (sym f.1) stop.is; role = set_stop f.0.tree stop.end.role (off f.0 f.1) stop.fits }

  bottom_sets : (ps : List ℕ) → AllByRecursion (λ p. p < length infos) ps → AllByRecursion (λ p. (f : Info) → slice_get infos p ≡ Some f → f.tree.distribute ≡ false) ps → AllByRecursion IsSetPlace (bottoms_at infos ps)
  bottom_sets [] low off = tt
  bottom_sets (p ∷ ps) low off = (bottom_set p low.0 off.0, bottom_sets ps low.1 off.1)

  or_left : (a b : Bool) → (a || b) ≡ false → a ≡ false
  or_left true b e = absurd cc
  or_left false b e = refl

  -- under a distribute volume, at this place
  under : (d : ℕ) (f : Info) → slice_get infos d ≡ Some f → f.role ≡ Distribute → length infos ≤ 256 → AreSets (sets_from volumes infos 0 (bottoms_at infos f.below))
  under d f at is small =
      let e = h.entries d f at in
      let low = low_in d f at in
      let t = gathered no_tree infos f.below in
      let stands : (t.distribute || t.queue) ≡ false = subst (λ r. is_nested r t ≡ false) is e.stands in
      let some : 1 ≤ length f.below = subst (λ r. SizeFits r (length f.below)) is e.size in
      let few : length f.below ≤ d = apart_few f.below d e.below e.below_low in
      let count = length-bottoms f.below in
      sets_of_places (bottoms_at infos f.below) (bottom_sets f.below low (none_below no_tree f.below (or_left t.distribute t.queue stands) low).1) e.bottoms (subst Apart (sym (members_under infos f.below)) e.members)
      (omega (arith, count, some)) (omega (arith, count, few, at_within infos d f at, small))

  -- where no volume distributes
  alone : 1 ≤ length infos → ((i : ℕ) (f : Info) → slice_get infos i ≡ Some f → is_distribute f.role ≡ false) → AreSets (sets_from volumes infos 0 (bottom_at infos (length infos - 1) ∷ []))
  alone some none =
      let last = length infos - 1 in
      let low : last < length infos = omega (arith, some) in
      let f = some_at infos last low in
      let e = h.entries last f.0 f.1 in
      let at : slice_get infos (bottom_at infos last) ≡ Some e.stop.end = subst (λ o. slice_get infos (bottom_in o) ≡ Some e.stop.end) (sym f.1) e.stop.is in
      let place : IsSetPlace (bottom_at infos last) = record { info = e.stop.end; at = at; role = alone_role f.0.tree e.stop.end.role (none (bottom_at infos last) e.stop.end at) e.stop.fits } in
      sets_of_places (bottom_at infos last ∷ []) (place, tt) (tt, tt) (subst Apart (sym (append-nil (members_of infos (bottom_at infos last)))) (apart_members infos h (bottom_at infos last) (at_within infos _ e.stop.end at)))
      (omega arith) (omega arith)
    where
      alone_role : (t : Tree) (r : Role) → is_distribute r ≡ false → StopFits t r → IsSetRole r
      alone_role t (Client b) off fits = tt
      alone_role t Replicate off fits = tt
      alone_role t Distribute off fits = absurd cc
      alone_role t (IoCache pages) off fits = fits
      alone_role t IoThreads off fits = fits
      alone_role t Pass off fits = fits

  sets_are_placed : (found : Option (List ℕ)) → distributed infos ≡ found → 1 ≤ length infos → length infos ≤ 256 → AreSets (sets_from volumes infos 0 (sets_under infos found))
  sets_are_placed None is some small = alone some (none_distributes infos is)
  sets_are_placed (Some below) is some small =
      let d = some_distributes infos below is in
      subst (λ ps. AreSets (sets_from volumes infos 0 (bottoms_at infos ps))) d.4 (under d.0 d.1 d.2 d.3 small)

plan_sets : (volumes : List Volume) (bricks : List BrickLine) (plan : Plan) → AreVolumes [] volumes → 1 ≤ length volumes → planned volumes bricks ≡ Ok plan → AreSets plan.sets
plan_sets volumes bricks plan each some e = by_infos (infos_from volumes bricks [] volumes) refl e
  where
    by_unused : (infos : List Info) → Holds infos → length infos ≡ length volumes → (o : Option ℕ) → plan_if o volumes infos ≡ Ok plan → AreSets plan.sets
    by_unused infos h size (Some place) e = absurd cc
    by_unused infos h size None e =
        let few : length {A = Volume} [] + length volumes ≤ 256 = few_behind volumes [] (omega arith) each in
        subst (λ (p : Plan). AreSets p.sets) (ok_same _ _ e) (sets_are_placed volumes each infos h size (distributed infos) refl (omega (arith, size, some)) (omega (arith, size, few)))

    by_infos : (r : Result (List Info) PlanError) → infos_from volumes bricks [] volumes ≡ r → plan_from r volumes ≡ Ok plan → AreSets plan.sets
    by_infos (Err fault) is e = absurd cc
    by_infos (Ok infos) is e = let all = all_kept volumes bricks Holds (holds_next volumes bricks) [] [] volumes refl refl each nothing_holds infos is in by_unused infos all.0 all.1 (unused_from infos infos 0) e

pub some_volumes : (vs ws : List Volume) → without_lines vs ≡ without_lines ws → (length vs == 0) ≡ false → 1 ≤ length ws
some_volumes [] ws e some = absurd cc
some_volumes (v ∷ vs) [] e some = absurd cc
some_volumes (v ∷ vs) (w ∷ ws) e some = omega arith

pub plans_have_sets : PlansHaveSets
plans_have_sets v bricks plan is e =
    let whole = parsed_whole is.text is.reads.said is.reads.parsed in
    plan_sets v.volumes bricks plan (each_volume v is) (some_volumes is.reads.said.volumes v.volumes is.reads.same whole.some) e
