-- What the rules of its type say of a volume: how many subvolumes it has, that no earlier client has its brick, and
-- which bricks and pages there are.
use Rattle.std.proofs.Common.{◌≡◌, ℕ, suc, ◌<◌, ◌≤◌, ◌==◌, ◌/◌, ◌&&◌, ◌||◌, not, Bool, true, false, cond, leb, List, [], ◌∷◌, length, codes, Option, Some, None, Result, Ok, refl, subst, ◌∙◌, arith}
use Rattle.std.specs.Prelude.{⊤}
use Rattle.std.specs.Option.{option_map}
use Rattle.std.proofs.lemmas.Bool.{leb-true}
use Rattle.std.proofs.lemmas.Bool.Decides.{nat_tests}
use Rattle.volfile.specs.TextLines.{is_text}
use Rattle.volfile.specs.declared.volumes.OptionLine.{OptionLine}
use Rattle.volfile.specs.declared.volumes.Volume.{Volume}
use Rattle.volfile.specs.Options.{last_value}
use Rattle.volfile.proofs.WellRead.{past, chosen, ok_same, not_false}
use Rattle.volfile.specs.declared.brick_lines.BrickLine.{BrickLine}
use Rattle.graph_build.specs.VolumeRules.{is_pass, is_other, is_given, is_bad_replica, is_not_auto, brick_at, brick_named, brick_of, size_of, within_pages, pages_in, pages_given, pages_of}
use Rattle.graph_build.specs.PlanRules.{is_taken, client_of, replicate_of, cache_of, where_counted, role_of}
use Rattle.graph_build.specs.declared.infos.Info.{Info}
use Rattle.graph_build.specs.declared.infos.Role.{Role}
use Rattle.graph_build.specs.declared.infos.Role.TheVariants.{Client, Replicate, Distribute, IoCache, IoThreads, Pass}
use Rattle.graph_build.proofs.Facts.{SizeFits}

-- a client's brick is one of the script's, and an io-cache has 1 to 8,192 pages
abbrev pub RoleValues : ℕ → Role → Type 0
RoleValues bricks (Client brick) = brick < bricks
RoleValues bricks Replicate = ⊤
RoleValues bricks Distribute = ⊤
RoleValues bricks (IoCache pages) = (1 ≤ pages) × (pages ≤ 8192)
RoleValues bricks IoThreads = ⊤
RoleValues bricks Pass = ⊤

pub record RoleFits (bricks : ℕ) (known : List Info) (n : ℕ) (role : Role) : Type 0 where
  pub size : SizeFits role n
  pub brick : (b : ℕ) → role ≡ Client b → is_taken known b ≡ false
  pub values : RoleValues bricks role

pick : {A E Q : Type 0} (b : Bool) (x y : Result A E) (s : A) → (x ≡ Ok s → Q) → (y ≡ Ok s → Q) → cond b x y ≡ Ok s → Q
pick true x y s f g e = f e
pick false x y s f g e = g e

number_is : (n k : ℕ) → (n == k) ≡ true → n ≡ k
number_is n k e = grind (arith, nat_tests)

or_off : (a b : Bool) → (a || b) ≡ false → (a ≡ false) × (b ≡ false)
or_off true b e = absurd cc
or_off false b e = (refl, e)

no_client : (bricks : ℕ) (known : List Info) (n : ℕ) (r role : Role) → r ≡ role → SizeFits r n → ((b : ℕ) → r ≡ Client b → ⊥) → RoleValues bricks r → RoleFits bricks known n role
no_client bricks known n r role same size never values =
    record { size = subst (λ k. SizeFits k n) same size; brick = λ b is. absurd (never b (same ∙ is)); values = subst (RoleValues bricks) same values }

same_brick : (a b : ℕ) → Client a ≡ Client b → a ≡ b
same_brick a b e = cc

some_same : (a b : ℕ) → ◌≡◌ {A = Option ℕ} (Some a) (Some b) → a ≡ b
some_same a b e = cc

client_fits : (bricks : ℕ) (known : List Info) (n : ℕ) (o : Option ℕ) (role : Role) → ((b : ℕ) → o ≡ Some b → b < bricks) → where_counted (n == 0) (client_of known o) ≡ Ok role → RoleFits bricks known n role
client_fits bricks known n o role low e = let c = chosen (n == 0) _ _ role e in with_brick o low (number_is n 0 c.0) c.1
  where
    with_brick : (o : Option ℕ) → ((b : ℕ) → o ≡ Some b → b < bricks) → n ≡ 0 → client_of known o ≡ Ok role → RoleFits bricks known n role
    with_brick None low zero e = absurd cc
    with_brick (Some brick) low zero e =
        let free = past (is_taken known brick) _ _ role e in
        let same : Client brick ≡ role = ok_same _ _ free.1 in
        record {
          size = subst (λ k. SizeFits k n) same zero;
          brick = λ b is. subst (λ k. is_taken known k ≡ false) (same_brick brick b (same ∙ is)) free.0;
          values = subst (RoleValues bricks) same (low brick refl);
        }

-- ---- the brick of a client, and the pages of a cache
brick_low : (host path : List ℕ) (bricks : List BrickLine) (n : ℕ) → brick_at host path bricks ≡ Some n → n < length bricks
brick_low host path [] n e = absurd cc
brick_low host path (b ∷ bs) n e = by_test (is_text b.host host && is_text b.path path) (brick_at host path bs) (brick_low host path bs) e
  where
    by_test : (t : Bool) (o : Option ℕ) → ((k : ℕ) → o ≡ Some k → k < length bs) → cond t (Some 0) (option_map suc o) ≡ Some n → n < suc (length bs)
    by_test true o low k = omega (arith, some_same 0 n k)
    by_test false None low k = absurd cc
    by_test false (Some j) low k = omega (arith, some_same (suc j) n k, low j refl)

named_low : (host path : Option (List ℕ)) (bricks : List BrickLine) (n : ℕ) → brick_named host path bricks ≡ Some n → n < length bricks
named_low None path bricks n e = absurd cc
named_low (Some host) None bricks n e = absurd cc
named_low (Some host) (Some path) bricks n e = brick_low host path bricks n e

brick_of_low : (options : List OptionLine) (bricks : List BrickLine) (n : ℕ) → brick_of options bricks ≡ Some n → n < length bricks
unfolding brick_of
brick_of_low options bricks n e = named_low (last_value options (codes "remote-host")) (last_value options (codes "remote-subvolume")) bricks n e

pages_within : (n : ℕ) → (1 ≤ within_pages n) × (within_pages n ≤ 8192)
pages_within n = (grind (arith, nat_tests), grind (arith, nat_tests))

pages_given_few : (o : Option (List ℕ)) (n : ℕ) → pages_given o ≡ Some n → (1 ≤ n) × (n ≤ 8192)
pages_given_few None n e = let is : 8192 ≡ n = some_same 8192 n e in (omega (arith, is), omega (arith, is))
pages_given_few (Some value) n e = by_size (size_of value) e
  where
    by_size : (o : Option ℕ) → pages_in o ≡ Some n → (1 ≤ n) × (n ≤ 8192)
    by_size None k = absurd cc
    by_size (Some size) k = subst (λ m. (1 ≤ m) × (m ≤ 8192)) (some_same (within_pages (size / 4096)) n k) (pages_within (size / 4096))

pages_few : (options : List OptionLine) (n : ℕ) → pages_of options ≡ Some n → (1 ≤ n) × (n ≤ 8192)
unfolding pages_of
pages_few options n e = pages_given_few (last_value options (codes "cache-size")) n e

three : (n : ℕ) (options : List OptionLine) → is_bad_replica n options ≡ false → n ≡ 3
unfolding is_bad_replica
three n options e =
    let first = or_off (not (n == 3) || is_other (last_value options (codes "arbiter-count")) (codes "0")) (is_given (last_value options (codes "thin-arbiter"))) e in
    let count = or_off (not (n == 3)) (is_other (last_value options (codes "arbiter-count")) (codes "0")) first.0 in number_is n 3 (not_false (n == 3) count.0)

replicate_fits : (bricks : ℕ) (known : List Info) (v : Volume) (role : Role) → replicate_of v ≡ Ok role → RoleFits bricks known (length v.subvolumes) role
replicate_fits bricks known v role e =
    let bad = past (is_bad_replica (length v.subvolumes) v.options) _ _ role e in
    let auto = past (is_not_auto v.options) _ _ role bad.1 in
    no_client bricks known (length v.subvolumes) Replicate role (ok_same _ _ auto.1) (three (length v.subvolumes) v.options bad.0) (λ b is. absurd cc) tt

cache_fits : (bricks : ℕ) (known : List Info) (n : ℕ) (pages : Option ℕ) (role : Role) → ((k : ℕ) → pages ≡ Some k → (1 ≤ k) × (k ≤ 8192)) → where_counted (n == 1) (cache_of pages) ≡ Ok role → RoleFits bricks known n role
cache_fits bricks known n pages role few e = let c = chosen (n == 1) _ _ role e in with_pages pages few (number_is n 1 c.0) c.1
  where
    with_pages : (o : Option ℕ) → ((k : ℕ) → o ≡ Some k → (1 ≤ k) × (k ≤ 8192)) → n ≡ 1 → cache_of o ≡ Ok role → RoleFits bricks known n role
    with_pages None few one e = absurd cc
    with_pages (Some k) few one e = no_client bricks known n (IoCache k) role (ok_same _ _ e) one (λ b is. absurd cc) (few k refl)

pub role_fits : (bricks : List BrickLine) (known : List Info) (v : Volume) (role : Role) → role_of bricks known v ≡ Ok role → RoleFits (length bricks) known (length v.subvolumes) role
unfolding role_of
role_fits bricks known v role e =
    let n = length v.subvolumes in
    let all = length bricks in
    pick (is_text v.kind (codes "protocol/client")) _ _ role (client_fits all known n (brick_of v.options bricks) role (brick_of_low v.options bricks))
    (pick (is_text v.kind (codes "cluster/replicate")) _ _ role (replicate_fits all known v role)
    (pick (is_text v.kind (codes "cluster/distribute")) _ _ role
    (λ k. let c = chosen (leb 1 n) _ _ role k in no_client all known n Distribute role (ok_same _ _ c.1) (leb-true 1 n c.0) (λ b is. absurd cc) tt)
    (pick (is_text v.kind (codes "performance/io-cache")) _ _ role (cache_fits all known n (pages_of v.options) role (pages_few v.options))
    (pick (is_text v.kind (codes "performance/io-threads")) _ _ role
    (λ k. let c = chosen (n == 1) _ _ role k in no_client all known n IoThreads role (ok_same _ _ c.1) (number_is n 1 c.0) (λ b is. absurd cc) tt)
    (λ k. let p = chosen (is_pass v.kind) _ _ role k in let c = chosen (n == 1) _ _ role p.1 in no_client all known n Pass role (ok_same _ _ c.1) (number_is n 1 c.0) (λ b is. absurd cc) tt))))) e
