-- When a volfile is refused as a plan: the first volume of which a rule does not hold, with the first such
-- rule in the order of `PlanKind`; that each volume but the last is used comes after all others. A volume
-- is over earlier ones, so what is known of a volume comes from what is known of those.
use Rattle.std.specs.Prelude.{ℕ, ◌+◌, ◌==◌, ◌&&◌, ◌||◌, not, nat_le, nat_lt, Bool, true, false, if◌then◌else◌, List, [], ◌∷◌, ◌++◌, length, codes, Option, Some, None, Result, Ok, Err}
use Rattle.std.specs.List.{list_any, slice_get}
use Rattle.volfile.specs.TextLines.{is_text}
use Rattle.volfile.specs.VolumeNames.{place_of}
use Rattle.volfile.specs.declared.volumes.Volume.{Volume}
use Rattle.graph_build.specs.VolumeRules.{is_pass, is_bad_replica, is_not_auto, brick_of, pages_of}
use Rattle.volfile.specs.declared.brick_lines.BrickLine.{BrickLine}
use Rattle.graph_build.specs.declared.errors.PlanError.{PlanError}
use Rattle.graph_build.specs.declared.errors.PlanError.TheVariants.{At}
use Rattle.graph_build.specs.declared.errors.PlanKind.{PlanKind}
use Rattle.graph_build.specs.declared.errors.PlanKind.TheVariants.{UnknownKind, SubvolumeCount, BadReplica, NotAuto, NoBrick, BrickTwice, BadOption, UsedTwice, NestedCluster, TooDeep}
use Rattle.graph_build.specs.declared.infos.Tree.{Tree}
use Rattle.graph_build.specs.declared.infos.Info.{Info}
use Rattle.graph_build.specs.declared.infos.Role.{Role}
use Rattle.graph_build.specs.declared.infos.Role.TheVariants.{Client, Replicate, Distribute, IoCache, IoThreads, Pass}

-- ---- places
abbrev pub or_zero : Option ℕ → ℕ
or_zero None = 0
or_zero (Some n) = n

-- the places of subvolumes, each of which is there
abbrev pub places_of : List Volume → List (List ℕ) → List ℕ
places_of volumes [] = []
places_of volumes (name ∷ names) = or_zero (place_of name volumes) ∷ places_of volumes names

abbrev pub has_place : ℕ → List ℕ → Bool
has_place q [] = false
has_place q (p ∷ ps) = (q == p) || has_place q ps

-- whether the test holds of a place in the list, or one is there twice
abbrev pub repeats : (ℕ → Bool) → List ℕ → Bool
repeats test [] = false
repeats test (p ∷ ps) = test p || repeats (λ q. (q == p) || test q) ps

-- ---- what is below a volume
-- no path, and nothing that is no client
abbrev pub no_tree : Tree
no_tree = record { depth = 0; plain = true; distribute = false; cache = false; queue = false }

-- the longer path, whether both are clients or pass-through volumes over one, and what is among both
abbrev pub joined : Tree → Tree → Tree
joined a b = record { depth = if nat_lt a.depth b.depth then b.depth else a.depth; plain = a.plain && b.plain; distribute = a.distribute || b.distribute; cache = a.cache || b.cache; queue = a.queue || b.queue }

abbrev pub joined_info : Tree → Option Info → Tree
joined_info a None = a
joined_info a (Some f) = joined a f.tree

-- the trees at these places and the first
abbrev pub gathered : Tree → List Info → List ℕ → Tree
gathered first known [] = first
gathered first known (p ∷ ps) = gathered (joined_info first (slice_get known p)) known ps

-- a volume over a tree
abbrev pub grown : Role → Tree → Tree
grown (Client brick) t = record { depth = t.depth + 1; plain = true; distribute = t.distribute; cache = t.cache; queue = t.queue }
grown Replicate t = record { depth = t.depth + 1; plain = false; distribute = t.distribute; cache = t.cache; queue = t.queue }
grown Distribute t = record { depth = t.depth + 1; plain = false; distribute = true; cache = t.cache; queue = t.queue }
grown (IoCache pages) t = record { depth = t.depth + 1; plain = false; distribute = t.distribute; cache = true; queue = true }
grown IoThreads t = record { depth = t.depth + 1; plain = false; distribute = t.distribute; cache = t.cache; queue = true }
grown Pass t = record { depth = t.depth + 1; plain = t.plain; distribute = t.distribute; cache = t.cache; queue = t.queue }

-- whether the tree may not be below: below replicate all else than clients and pass-through volumes over
-- one, below distribute another, io-cache and io-threads, below io-cache another
abbrev pub is_nested : Role → Tree → Bool
is_nested (Client brick) t = false
is_nested Replicate t = not t.plain
is_nested Distribute t = t.distribute || t.queue
is_nested (IoCache pages) t = t.cache
is_nested IoThreads t = false
is_nested Pass t = false

-- ---- the way down
abbrev pub bottom_in : Option Info → ℕ
bottom_in None = 0
bottom_in (Some f) = f.bottom

-- the place of the client, replicate or distribute volume to which the way down from this place leads
abbrev pub bottom_at : List Info → ℕ → ℕ
bottom_at known p = bottom_in (slice_get known p)

abbrev pub first_bottom : List Info → List ℕ → ℕ
first_bottom known [] = 0
first_bottom known (p ∷ ps) = bottom_at known p

abbrev pub bottom_of : Role → List Info → List ℕ → ℕ
bottom_of (Client brick) known below = length known
bottom_of Replicate known below = length known
bottom_of Distribute known below = length known
bottom_of (IoCache pages) known below = first_bottom known below
bottom_of IoThreads known below = first_bottom known below
bottom_of Pass known below = first_bottom known below

-- ---- rules of one type
abbrev pub has_brick : ℕ → Role → Bool
has_brick b (Client brick) = b == brick
has_brick b Replicate = false
has_brick b Distribute = false
has_brick b (IoCache pages) = false
has_brick b IoThreads = false
has_brick b Pass = false

-- whether an earlier client has the brick
abbrev pub is_taken : List Info → ℕ → Bool
is_taken known b = list_any (λ f. has_brick b f.role) known

abbrev pub client_of : List Info → Option ℕ → Result Role PlanKind
client_of known None = Err NoBrick
client_of known (Some brick) = if is_taken known brick then Err BrickTwice else Ok (Client brick)

abbrev pub replicate_of : Volume → Result Role PlanKind
replicate_of v =
    if is_bad_replica (length v.subvolumes) v.options then Err BadReplica
    else if is_not_auto v.options then Err NotAuto
    else Ok Replicate

abbrev pub cache_of : Option ℕ → Result Role PlanKind
cache_of None = Err BadOption
cache_of (Some pages) = Ok (IoCache pages)

-- where the number of subvolumes is right
abbrev pub where_counted : Bool → Result Role PlanKind → Result Role PlanKind
where_counted right role = if right then role else Err SubvolumeCount

-- what a volume is
unfoldable pub role_of : List BrickLine → List Info → Volume → Result Role PlanKind
role_of bricks known v =
    let n = length v.subvolumes in
    if is_text v.kind (codes "protocol/client") then where_counted (n == 0) (client_of known (brick_of v.options bricks))
    else if is_text v.kind (codes "cluster/replicate") then replicate_of v
    else if is_text v.kind (codes "cluster/distribute") then where_counted (nat_le 1 n) (Ok Distribute)
    else if is_text v.kind (codes "performance/io-cache") then where_counted (n == 1) (cache_of (pages_of v.options))
    else if is_text v.kind (codes "performance/io-threads") then where_counted (n == 1) (Ok IoThreads)
    else if is_pass v.kind then where_counted (n == 1) (Ok Pass)
    else Err UnknownKind

-- ---- each volume, and all
abbrev pub is_used : List Info → ℕ → Bool
is_used known q = list_any (λ f. has_place q f.below) known

-- a volume over this tree, at these places
abbrev pub info_over : List Info → Role → List ℕ → Tree → Result Info PlanKind
info_over known role below t =
    if is_nested role t then Err NestedCluster
    else if nat_le 24 t.depth then Err TooDeep
    else Ok (record { role = role; below = below; bottom = bottom_of role known below; tree = grown role t })

abbrev pub info_below : List Info → Role → List ℕ → Result Info PlanKind
info_below known role below = if repeats (is_used known) below then Err UsedTwice else info_over known role below (gathered no_tree known below)

abbrev pub info_as : Result Role PlanKind → List Info → List ℕ → Result Info PlanKind
info_as (Err kind) known below = Err kind
info_as (Ok role) known below = info_below known role below

-- what is known of a volume behind these, or the first rule that does not hold of it
unfoldable pub info_of : List Volume → List BrickLine → List Info → Volume → Result Info PlanKind
info_of volumes bricks known v = info_as (role_of bricks known v) known (places_of volumes v.subvolumes)

abbrev pub known_then : Result Info PlanKind → List Info → (List Info → Result (List Info) PlanError) → Result (List Info) PlanError
known_then (Err kind) known rest = Err (At (length known) kind)
known_then (Ok f) known rest = rest (known ++ f ∷ [])

-- what is known of all, where the first volumes are known
abbrev pub infos_from : List Volume → List BrickLine → List Info → List Volume → Result (List Info) PlanError
infos_from volumes bricks known [] = Ok known
infos_from volumes bricks known (v ∷ vs) = known_then (info_of volumes bricks known v) known (λ more. infos_from volumes bricks more vs)

abbrev pub added : Result Info PlanKind → List Info → Result (List Info) PlanKind
added (Err kind) known = Err kind
added (Ok f) known = Ok (known ++ f ∷ [])

-- the place of the first of these volumes that no volume uses, where the last is none
abbrev pub unused_from : List Info → List Info → ℕ → Option ℕ
unused_from infos [] place = None
unused_from infos (f ∷ []) place = None
unused_from infos (f ∷ g ∷ rest) place = if is_used infos place then unused_from infos (g ∷ rest) (place + 1) else Some place
