-- Each job of every fop is on the set of what it reads or changes, and a directory's name comes after the births of its
-- copies.
use Rattle.std.proofs.Common.{◌≡◌, ℕ, zero, suc, ◌+◌, ◌-◌, ◌<◌, ◌≤◌, ◌==◌, inl, inr, Bool, true, false, List, [], ◌∷◌, Option, Some, None, IfSome, length, nat_lt, refl, arith}
use Rattle.std.specs.List.{range_with_len}
use Rattle.std.specs.Prelude.{slice_index_or}
use Rattle.dht_layout.specs.Layouts.{even_span}
use Rattle.dht_linkto.specs.DirNames.{first_content}
use Rattle.dht_linkto.specs.Search.{hashed_set}
use Rattle.dht_fops.proofs.AskEntries.{dir_by}
use Rattle.dht_fops.proofs.AskFops.{second_below}
use Rattle.dht_fops.proofs.Handing.{Later, later_push, name_later}
use Rattle.dht_laws.proofs.Homes.{SetsWell, ReadsAnywhere, EndsSet, home_is, first_is_home, own_is_home, home_in_place, both_in_place, number_leads, names_set, read_set, change_set, birth_set, if_set, kept_set, named_set, look_set, finds_set, ends_by, on_name_set, born_push}
use Rattle.dht_fops.proofs.Known.{hashed_below, known_below}
use Rattle.dht_laws.specs.Births.{AreBornBelow, ComesAfterBirths, HasRange, IsBornInTime, FopsBearFirst}
use Rattle.dht_fops.specs.Courses.{Course, number_in}
use Rattle.dht_fops.specs.Courses.Course.{Asks, Extends, Ends}
use Rattle.dht_fops.specs.Entries.{birth_job, lookup_found, lists_from, births_from, mkdir_found, create_found, drops_link, unlink_found, empties, rmdir_found}
use Rattle.dht_fops.specs.Fops.{renames, fop_course}
use Rattle.dht_fops.specs.Handed.{Handed, Always, AnyJob, AnyHold, AnyAnswer}
use Rattle.dht_fops.specs.Handed.Event.{Replied, Held}
use Rattle.dht_laws.specs.Holds.{IsOwnHold, FopsExtendHolds}
use Rattle.dht_laws.specs.Homes.{IsNamedBy, IsFileOn, IsOwnDir, SawDirectory, IsInPlace, IsChangedAt, IsOneOf, IsOpenedAt, IsJobAtHome, FopsChangeOnSets}
use Rattle.dht_fops.specs.Internal.{opens_again, heals, indexes, with_cells, cells_in}
use Rattle.dht_laws.specs.Links.{IsMadeBy}
use Rattle.dht_fops.specs.Looks.{looks_in, finds}
use Rattle.dht_fops.specs.Merges.{merged, real_items}
use Rattle.dht_fops.specs.Objects.{home, opens, stats, attr_value, gets_attr, drops_attr, dels_attr, reads_bytes, changes_cell, truncates, writes_some, writes}
use Rattle.dht_fops.specs.Renames.{adds_link, moves, bears, replaces, changes_names, other_set, target_found, target_ending, looks_for_target, source_at, source_found, second_set}
use Rattle.dht_fops.specs.Volumes.{Kept, known_set, sets_from}
use Rattle.dht_laws.proofs.Arguments.{Renaming, Source}
use Rattle.dht_fops.specs.declared.volume.Volume.{Volume}
use Rattle.fop_types.specs.Cells.{data_cell, meta_cell, names_cell}
use Rattle.fop_types.specs.FileBytes.{file_limit}
use Rattle.fop_types.specs.Flat.{item_of}
use Rattle.fop_types.specs.Names.{attr_named, has_real_name, is_directory, is_same_name}
use Rattle.fop_types.specs.StoreOps.{attrs_of, both_names}
use Rattle.fop_types.specs.declared.answers.FopAnswer.{FopAnswer}
use Rattle.fop_types.specs.declared.cells.Cell.{Cell}
use Rattle.fop_types.specs.declared.cells.Gfid.{Gfid}
use Rattle.fop_types.specs.declared.cells.Kind.TheVariants as kind
use Rattle.fop_types.specs.declared.contents.Attr.{Attr}
use Rattle.fop_types.specs.declared.contents.Item.{Item}
use Rattle.fop_types.specs.declared.fops.Fop.{Fop}
use Rattle.fop_types.specs.declared.fops.Fop.TheVariants as fop
use Rattle.fop_types.specs.declared.fops.Object.{Object}
use Rattle.fop_types.specs.declared.fops.OpenFd.{OpenFd}
use Rattle.fop_types.specs.declared.jobs.Job.TheVariants as job
use Rattle.fop_types.specs.declared.store_ops.StoreOp.{StoreOp}
use Rattle.fop_types.specs.declared.store_ops.StoreOp.TheVariants as op

-- ---- fops on an object

cell_set : (v : Volume) (f : Fop) (set : ℕ) (cell : Cell) (fd : ℕ) (o : StoreOp) (answer : FopAnswer) (handed : Handed) → IsInPlace f handed set cell.gfid → IsChangedAt f set o → ComesAfterBirths v handed o
    → SetsWell v f handed (changes_cell v set cell fd o answer)
cell_set v f set cell fd o answer handed there at after = change_set v f handed set (cell ∷ []) fd o _ _ (there, tt) at after (λ reply number done. tt)

-- a file of the fop on the set that has it
own_file : (f : Fop) (object : Object) → IsNamedBy f object → is_directory object.kind ≡ false → IsFileOn f object.set object.gfid
own_file f object named file = record { object = object; named = named; gfid_is = refl; is_file = file; set_is = refl }

own_dir : (f : Fop) (object : Object) → IsNamedBy f object → is_directory object.kind ≡ true → IsOwnDir f object.gfid
own_dir f object named dir = record { object = object; named = named; gfid_is = refl; is_dir = dir }

opens_set : (v : Volume) (object : Object) (fd : ℕ) → SetsWell v (fop.Open fd object) [] (opens object fd)
opens_set v object fd =
    if_set v (fop.Open fd object) [] _ _ (is_directory object.kind) (λ dir. tt)
    (λ file. (((refl, refl, refl), tt), λ reply. number_leads v (fop.Open fd object) (Replied object.set (job.Open fd object.gfid) reply ∷ []) _ (number_in reply) (λ number e. tt)))

stats_set : (v : Volume) (object : Object) → SetsWell v (fop.Stat object) [] (stats object)
stats_set v object =
    if_set v (fop.Stat object) [] _ _ (is_directory object.kind)
    (λ dir. read_set v (fop.Stat object) [] 0 (meta_cell object.gfid ∷ []) 0 _ _ (first_is_home object dir) (inr (inl (own_dir (fop.Stat object) object refl dir)), tt) (λ later contents place l. tt))
    (λ file. read_set v (fop.Stat object) [] object.set (data_cell object.gfid ∷ meta_cell object.gfid ∷ []) 0 _ _ (own_is_home object file) (inl (own_file (fop.Stat object) object refl file), (inl (own_file (fop.Stat object) object refl file), tt)) (λ later contents place l. tt))

gets_set : (v : Volume) (object : Object) (name : List ℕ) → SetsWell v (fop.GetAttr object name) [] (gets_attr object name)
gets_set v object name =
    read_set v (fop.GetAttr object name) [] (home object) (meta_cell object.gfid ∷ []) 0 _ _ (home_is object) (home_in_place (fop.GetAttr object name) [] object refl, tt)
    (λ later contents place l. by_attr later (attr_named (attrs_of (first_content contents)) name) place)
  where
    by_attr : (later : Handed) (attr : Option Attr) (place : ℕ) → SetsWell v (fop.GetAttr object name) later (attr_value attr place)
    by_attr later None place = tt
    by_attr later (Some attr) place = tt

-- the mode and the attributes of an object at hand are changed at its home
meta_set : (v : Volume) (f : Fop) (object : Object) (o : StoreOp) (answer : FopAnswer) (handed : Handed) → IsNamedBy f object → IsChangedAt f (home object) o → ComesAfterBirths v handed o
    → SetsWell v f handed (changes_cell v (home object) (meta_cell object.gfid) 0 o answer)
meta_set v f object o answer handed named at after = cell_set v f (home object) (meta_cell object.gfid) 0 o answer handed (home_in_place f handed object named) at after

dels_set : (v : Volume) (object : Object) (name : List ℕ) → SetsWell v (fop.DelAttr object name) [] (dels_attr v object name)
dels_set v object name =
    read_set v (fop.DelAttr object name) [] (home object) (meta_cell object.gfid ∷ []) 0 _ _ (home_is object) (home_in_place (fop.DelAttr object name) [] object refl, tt)
    (λ later contents place l. by_attr later (attr_named (attrs_of (first_content contents)) name) place)
  where
    by_attr : (later : Handed) (attr : Option Attr) (place : ℕ) → SetsWell v (fop.DelAttr object name) later (drops_attr v object name attr place)
    by_attr later None place = tt
    by_attr later (Some attr) place =
        meta_set v (fop.DelAttr object name) object (op.DelAttr object.gfid name) _ later refl (record { object = object; named = refl; gfid_is = refl; at_home = home_is object }) tt

reads_bytes_set : (v : Volume) (object : Object) (fd offset count : ℕ) → SetsWell v (fop.Read fd object offset count) [] (reads_bytes object fd offset count)
reads_bytes_set v object fd offset count =
    if_set v (fop.Read fd object offset count) [] _ _ (is_directory object.kind) (λ dir. tt)
    (λ file. read_set v (fop.Read fd object offset count) [] object.set (data_cell object.gfid ∷ []) fd false _ refl (inl (own_file (fop.Read fd object offset count) object refl file), tt) (λ later contents place l. tt))

truncates_set : (v : Volume) (object : Object) (size : ℕ) → SetsWell v (fop.Truncate object size) [] (truncates v object size)
truncates_set v object size =
    if_set v (fop.Truncate object size) [] _ _ (is_directory object.kind) (λ dir. tt)
    (λ file. if_set v (fop.Truncate object size) [] _ _ (nat_lt file_limit size) (λ big. tt)
    (λ fits. cell_set v (fop.Truncate object size) object.set (data_cell object.gfid) 0 (op.Truncate object.gfid size) _ [] (inl (own_file (fop.Truncate object size) object refl file)) (own_file (fop.Truncate object size) object refl file) tt))

writes_set : (v : Volume) (object : Object) (fd offset : ℕ) (bytes : List ℕ) → SetsWell v (fop.Write fd object offset bytes) [] (writes v object fd offset bytes)
writes_set v object fd offset bytes =
    if_set v (fop.Write fd object offset bytes) [] _ _ (is_directory object.kind) (λ dir. tt)
    (λ file. if_set v (fop.Write fd object offset bytes) [] _ _ (nat_lt file_limit (offset + length bytes)) (λ big. tt) (λ fits. by_bytes file bytes))
  where
    by_bytes : is_directory object.kind ≡ false → (some : List ℕ) → SetsWell v (fop.Write fd object offset bytes) [] (writes_some v object fd offset some)
    by_bytes file [] = tt
    by_bytes file (first ∷ rest) =
        cell_set v (fop.Write fd object offset bytes) object.set (data_cell object.gfid) fd (op.Write object.gfid offset (first ∷ rest)) _ [] (inl (own_file (fop.Write fd object offset bytes) object refl file)) (own_file (fop.Write fd object offset bytes) object refl file) tt

-- ---- names of a directory

lookup_set : (v : Volume) (f : Fop) (handed : Handed) (dir : Gfid) (name : List ℕ) → EndsSet v f handed dir name lookup_found
lookup_set v f handed dir name = ends_by v f handed dir name lookup_found (λ set gfid k seen later l saw. tt) (λ seen later. tt) (λ error seen later. tt)

lists_set : (v : Volume) (f : Fop) (dir : Gfid) (sets : List ℕ) (names : List Item) (place : Option ℕ) (handed : Handed) → ReadsAnywhere f → IsOwnDir f dir → SetsWell v f handed (lists_from dir sets names place)
lists_set v f dir [] names place handed free own = tt
lists_set v f dir (set ∷ sets) names place handed free own =
    names_set v f handed set dir _ (free set) (inl own) (λ later shown l saw. kept_set v f later shown _ (lists_set v f dir sets (merged names (real_items shown.items)) (Some shown.place) later free own))

-- a mkdir bears its own directory with these ranges
abbrev pub BearsOwn : Volume → Fop → Gfid → Type 0
BearsOwn v f drawn = (set : ℕ) → 0 < set → HasRange v f set drawn (Some (even_span v.sets set))

births_set : (v : Volume) (f : Fop) (parent : Gfid) (name : List ℕ) (mode : ℕ) (drawn : Gfid) (n first : ℕ) (handed : Handed) → IsOwnDir f parent → IsMadeBy f drawn → BearsOwn v f drawn → 0 < first → v.sets ≤ first + n
    → AreBornBelow v handed drawn first → SetsWell v f handed (births_from v parent name mode drawn (range_with_len first n))
births_set v f parent name mode drawn zero first handed own made ranged some all born =
    change_set v f handed 0 (names_cell parent ∷ []) 0 (op.AddName parent (item_of name drawn kind.Dir) mode (Some (even_span v.sets 0))) _ _ (inr (inl own), tt) tt
    (refl, λ set after below. born set after (omega arith)) (λ reply number done. tt)
births_set v f parent name mode drawn (suc n) first handed own made ranged some all born =
    birth_set v f handed first drawn (Some (even_span v.sets first)) _ (inr (inr made)) (ranged first some)
    (λ reply number done. births_set v f parent name mode drawn n (first + 1) (Replied first (birth_job drawn (Some (even_span v.sets first))) reply ∷ handed) own made ranged (omega arith) (omega arith)
    (born_push v (Replied first (birth_job drawn (Some (even_span v.sets first))) reply) handed drawn first (refl, refl, done) born))

mkdir_set : (v : Volume) (f : Fop) (handed : Handed) (parent : Gfid) (name : List ℕ) (mode : ℕ) (drawn : Gfid) → IsOwnDir f parent → IsMadeBy f drawn → BearsOwn v f drawn → EndsSet v f handed parent name (mkdir_found v parent name mode drawn)
mkdir_set v f handed parent name mode drawn own made ranged =
    ends_by v f handed parent name (mkdir_found v parent name mode drawn) (λ set gfid k seen later l saw. tt)
    (λ seen later. births_set v f parent name mode drawn (v.sets - 1) 1 later own made ranged (omega arith) (omega arith) (none later)) (λ error seen later. tt)
  where
    none : (later : Handed) → AreBornBelow v later drawn 1
    none later set some below = absurd (omega arith)

create_set : (v : Volume) (f : Fop) (handed : Handed) (parent : Gfid) (name : List ℕ) (mode : ℕ) (drawn : Gfid) (hashed : ℕ) → IsOwnDir f parent → EndsSet v f handed parent name (create_found v parent name mode drawn hashed)
create_set v f handed parent name mode drawn hashed own =
    ends_by v f handed parent name (create_found v parent name mode drawn hashed) (λ set gfid k seen later l saw. tt)
    (λ seen later. change_set v f later hashed (names_cell parent ∷ []) 0 (op.AddName parent (item_of name drawn kind.File) mode None) _ _ (inr (inl own), tt) tt refl (λ reply number done. tt)) (λ error seen later. tt)

drops_link_set : (v : Volume) (f : Fop) (handed : Handed) (parent : Gfid) (name : List ℕ) (hashed : ℕ) (has_link : Bool) (number : Option ℕ) → IsOwnDir f parent → SetsWell v f handed (drops_link parent name hashed has_link number)
drops_link_set v f handed parent name hashed true number own = (((inr (inl own), tt), tt), λ reply. tt)
drops_link_set v f handed parent name hashed false number own = tt

unlink_set : (v : Volume) (f : Fop) (handed : Handed) (parent : Gfid) (name : List ℕ) (hashed : ℕ) → IsOwnDir f parent → EndsSet v f handed parent name (unlink_found v parent name hashed)
unlink_set v f handed parent name hashed own =
    ends_by v f handed parent name (unlink_found v parent name hashed)
    (λ set gfid k seen later l saw. if_set v f later _ _ (is_directory k) (λ dir. tt)
    (λ file. change_set v f later set (names_cell parent ∷ []) 0 (op.DropName parent name) _ _ (inr (inl own), tt) tt tt (λ reply number done. drops_link_set v f _ parent name hashed seen.has_link number own)))
    (λ seen later. tt) (λ error seen later. tt)

saw_later : (a b : Handed) (gfid : Gfid) → Later a b → SawDirectory a gfid → SawDirectory b gfid
saw_later a b gfid l s = record { parent = s.parent; name = s.name; set = s.set; saw = name_later a b s.parent s.name s.set gfid kind.Dir l s.saw }

empties_set : (v : Volume) (f : Fop) (parent : Gfid) (name : List ℕ) (gfid : Gfid) (sets : List ℕ) (handed : Handed) → ReadsAnywhere f → IsOwnDir f parent → SawDirectory handed gfid → SetsWell v f handed (empties v parent name gfid sets)
empties_set v f parent name gfid [] handed free own saw =
    change_set v f handed 0 (both_names parent gfid) 0 (op.DropDir parent name gfid) _ _ (both_in_place f handed 0 parent gfid (inl own) (inr (inl saw))) refl tt (λ reply number done. tt)
empties_set v f parent name gfid (set ∷ sets) handed free own saw =
    names_set v f handed set gfid _ (free set) (inr (inl saw))
    (λ later shown l seen. if_set v f later _ _ (has_real_name shown.items) (λ full. tt) (λ none. empties_set v f parent name gfid sets later free own (saw_later handed later gfid l saw)))

rmdir_set : (v : Volume) (f : Fop) (handed : Handed) (object : Object) (name : List ℕ) → f ≡ fop.Rmdir object name → ReadsAnywhere f → IsOwnDir f object.gfid → EndsSet v f handed object.gfid name (rmdir_found v object.gfid name)
rmdir_set v f handed object name is free own =
    ends_by v f handed object.gfid name (rmdir_found v object.gfid name)
    (λ set gfid k seen later l saw. if_set v f later _ _ (is_directory k)
    (λ dir. (
      record { parent = object; name = name; is_rmdir = is; set = set; saw = dir_by later object.gfid name set gfid k saw dir },
      empties_set v f object.gfid name gfid (sets_from v 0) (Held gfid ∷ later) free own
          (saw_later later (Held gfid ∷ later) gfid (later_push (Held gfid) later) (record { parent = object.gfid; name = name; set = set; saw = dir_by later object.gfid name set gfid k saw dir })),
    ))
    (λ file. tt))
    (λ seen later. tt) (λ error seen later. tt)

-- ---- rename

-- a copy that the fop bears has no range
abbrev pub BearsBare : Volume → Fop → Type 0
BearsBare v f = (set : ℕ) (gfid : Gfid) → HasRange v f set gfid None

adds_link_set : (v : Volume) (f : Fop) (handed : Handed) (r : Renaming) (number : Option ℕ) → IsOwnDir f r.source.parent → IsOwnDir f r.target → SetsWell v f handed (adds_link r number)
adds_link_set v f handed r number old new =
    if_set v f handed _ _ (r.hashed == r.source.set) (λ same. drops_link_set v f handed r.source.parent r.source.name r.source.hashed r.source.has_link number old)
    (λ other. (((inr (inl new), tt), tt), λ reply. drops_link_set v f _ r.source.parent r.source.name r.source.hashed r.source.has_link number old))

moves_set : (v : Volume) (f : Fop) (handed : Handed) (r : Renaming) → IsOwnDir f r.source.parent → IsOwnDir f r.target → SetsWell v f handed (moves v r)
moves_set v f handed r old new =
    change_set v f handed r.source.set (both_names r.source.parent r.target) 0 (op.Move r.source.parent r.source.name r.target r.new_name) _ (adds_link r) (both_in_place f handed r.source.set r.source.parent r.target (inl old) (inl new)) tt tt
    (λ reply number done. adds_link_set v f _ r number old new)

bears_set : (v : Volume) (f : Fop) (handed : Handed) (r : Renaming) (copy : Bool) → BearsBare v f → IsOwnDir f r.source.parent → IsOwnDir f r.target → SetsWell v f handed (bears v r copy)
bears_set v f handed r true bare old new = moves_set v f handed r old new
bears_set v f handed r false bare old new = birth_set v f handed r.source.set r.target None _ (inl new) (bare r.source.set r.target) (λ reply number done. moves_set v f _ r old new)

replaces_set : (v : Volume) (f : Fop) (handed : Handed) (r : Renaming) (replaced : Option ℕ) (copy : Bool) → BearsBare v f → IsOwnDir f r.source.parent → IsOwnDir f r.target → SetsWell v f handed (replaces v r replaced copy)
replaces_set v f handed r None copy bare old new = bears_set v f handed r copy bare old new
replaces_set v f handed r (Some set) copy bare old new =
    change_set v f handed set (names_cell r.target ∷ []) 0 (op.DropName r.target r.new_name) _ (λ number. bears v r copy) (inr (inl new), tt) tt tt (λ reply number done. bears_set v f _ r copy bare old new)

changes_set : (v : Volume) (f : Fop) (handed : Handed) (r : Renaming) (replaced : Option ℕ) (copy : Option Bool) → ReadsAnywhere f → BearsBare v f → IsOwnDir f r.source.parent → IsOwnDir f r.target → SetsWell v f handed (changes_names v r replaced copy)
changes_set v f handed r replaced (Some copy) free bare old new = replaces_set v f handed r replaced copy bare old new
changes_set v f handed r replaced None free bare old new =
    names_set v f handed r.source.set r.target _ (free r.source.set) (inl new) (λ later shown l saw. replaces_set v f later r replaced shown.has_copy bare old new)

target_set : (v : Volume) (f : Fop) (handed : Handed) (r : Renaming) → ReadsAnywhere f → BearsBare v f → IsOwnDir f r.source.parent → IsOwnDir f r.target → EndsSet v f handed r.target r.new_name (target_found v r)
target_set v f handed r free bare old new =
    ends_by v f handed r.target r.new_name (target_found v r)
    (λ set gfid k seen later l saw. if_set v f later _ _ (is_directory k) (λ dir. tt) (λ file. changes_set v f later r (other_set set r.source.set) seen.copy free bare old new))
    (λ seen later. changes_set v f later r None seen.copy free bare old new) (λ error seen later. tt)

target_ends : (v : Volume) (f : Fop) (handed : Handed) (source : Source) (target : Gfid) (new_name : List ℕ) (names : List (List ℕ)) (hashed : ℕ) → ReadsAnywhere f → BearsBare v f → IsOwnDir f source.parent → IsOwnDir f target
    → EndsSet v f handed target new_name (target_ending v source target new_name names hashed)
target_ends v f handed source target new_name names hashed free bare old new =
    target_set v f handed (record { source = source; target = target; new_name = new_name; hashed = hashed; set_name = slice_index_or names source.set [] }) free bare old new

looks_for_target_set : (v : Volume) (f : Fop) (handed : Handed) (source : Source) (target : Gfid) (new_name : List ℕ) (names : List (List ℕ)) (second : Option ℕ) → length names ≡ v.sets → 1 ≤ v.sets → IfSome second (λ set. set < v.sets)
    → ReadsAnywhere f → BearsBare v f → IsOwnDir f source.parent → IsOwnDir f target → SetsWell v f handed (looks_for_target v source target new_name names second)
looks_for_target_set v f handed source target new_name names second e some known free bare old new =
    finds_set v f (length names) target second _ _ handed e free new known
    (λ set i. look_set v f target new_name names source.set (target_ending v source target new_name names) set handed e i free new (target_ends v f handed source target new_name names set free bare old new))
    (λ whole later w l. look_set v f target new_name names source.set (target_ending v source target new_name names) (hashed_set whole new_name) later e (hashed_below v.sets whole new_name w some) free new
    (target_ends v f later source target new_name names (hashed_set whole new_name) free bare old new))

source_set : (v : Volume) (f : Fop) (handed : Handed) (parent : Gfid) (name : List ℕ) (names : List (List ℕ)) (target : Object) (new_name : List ℕ) (second : Option ℕ) (hashed : ℕ) → length names ≡ v.sets → 1 ≤ v.sets → IfSome second (λ set. set < v.sets)
    → ReadsAnywhere f → BearsBare v f → IsNamedBy f target → IsOwnDir f parent → EndsSet v f handed parent name (source_found v parent name names target new_name second hashed)
source_set v f handed parent name names target new_name second hashed e some known free bare named old =
    ends_by v f handed parent name (source_found v parent name names target new_name second hashed)
    (λ set gfid k seen later l saw. if_set v f later _ _ (is_directory k) (λ dir. tt)
    (λ file. named_set v f later target new_name (Some seen.place) _
    (λ dir. if_set v f later _ _ (is_same_name parent name target.gfid new_name) (λ same. tt)
    (λ other. looks_for_target_set v f later (source_at parent name hashed seen.has_link set gfid) target.gfid new_name names second e some known free bare old (own_dir f target named dir)))))
    (λ seen later. tt) (λ error seen later. tt)

renames_set : (v : Volume) (names : List (List ℕ)) (kept : Kept) (parent : Object) (name : List ℕ) (target : Object) (new_name : List ℕ) → 1 ≤ v.root_sets → v.root_sets ≤ v.sets → length names ≡ v.sets
    → SetsWell v (fop.Rename parent name target new_name) [] (renames v names kept parent name target new_name)
renames_set v names kept parent name target new_name some within e =
    named_set v (fop.Rename parent name target new_name) [] parent name None _ (λ dir. looks_for (own_dir (fop.Rename parent name target new_name) parent (inl refl) dir))
  where
    looks_for : IsOwnDir (fop.Rename parent name target new_name) parent.gfid
        → SetsWell v (fop.Rename parent name target new_name) []
        (finds (length names) parent.gfid (known_set v kept parent.gfid name)
        (looks_in parent.gfid name names 0 (source_found v parent.gfid name names target new_name (known_set v kept target.gfid new_name)))
        (λ spans. looks_in parent.gfid name names 0 (source_found v parent.gfid name names target new_name (second_set parent.gfid target.gfid new_name (known_set v kept target.gfid new_name) spans)) (hashed_set spans name)))
    looks_for old =
        finds_set v (fop.Rename parent name target new_name) (length names) parent.gfid (known_set v kept parent.gfid name) _ _ [] e (λ set. tt) old (known_below v kept parent.gfid name some within)
        (λ set i. look_set v (fop.Rename parent name target new_name) parent.gfid name names 0 (source_found v parent.gfid name names target new_name (known_set v kept target.gfid new_name)) set [] e i (λ one. tt) old
        (source_set v (fop.Rename parent name target new_name) [] parent.gfid name names target new_name (known_set v kept target.gfid new_name) set e (omega arith) (known_below v kept target.gfid new_name some within) (λ one. tt) (λ one gfid. refl) (inr refl) old))
        (λ whole later w l. look_set v (fop.Rename parent name target new_name) parent.gfid name names 0 (source_found v parent.gfid name names target new_name (second_set parent.gfid target.gfid new_name (known_set v kept target.gfid new_name) whole)) (hashed_set whole name) later e
        (hashed_below v.sets whole name w (omega arith)) (λ one. tt) old
        (source_set v (fop.Rename parent name target new_name) later parent.gfid name names target new_name (second_set parent.gfid target.gfid new_name (known_set v kept target.gfid new_name) whole) (hashed_set whole name) e (omega arith)
        (second_below v.sets parent.gfid target.gfid new_name (known_set v kept target.gfid new_name) whole (omega arith) w (known_below v kept target.gfid new_name some within)) (λ one. tt) (λ one gfid. refl) (inr refl) old))

-- ---- fops of the mount itself

opens_again_set : (v : Volume) (f : Fop) (fds : List OpenFd) (handed : Handed) → ((set fd : ℕ) (gfid : Gfid) → IsOneOf fds set fd gfid → IsOpenedAt f set fd gfid) → SetsWell v f handed (opens_again fds)
opens_again_set v f [] handed k = tt
opens_again_set v f (one ∷ fds) handed k = ((k one.set one.fd one.gfid (inl (refl, refl, refl)), tt), λ reply. opens_again_set v f fds _ (λ set fd gfid is. k set fd gfid (inr is)))

heals_set : (v : Volume) (f : Fop) (cells : List (ℕ × Cell)) (handed : Handed) → SetsWell v f handed (heals cells)
heals_set v f [] handed = tt
heals_set v f (one ∷ cells) handed = ((tt, tt), λ reply. heals_set v f cells _)

indexes_set : (v : Volume) (f : Fop) (count : ℕ) (sets : List ℕ) (cells : List (ℕ × Cell)) (handed : Handed) → SetsWell v f handed (indexes count sets cells)
indexes_set v f count [] cells handed = heals_set v f cells handed
indexes_set v f count (set ∷ sets) cells handed = ((tt, tt), λ reply. indexes_set v f count sets (with_cells cells count set (cells_in reply)) _)

-- ---- all

set_well : (v : Volume) (names : List (List ℕ)) (kept : Kept) (f : Fop) → 1 ≤ v.root_sets → v.root_sets ≤ v.sets → length names ≡ v.sets → SetsWell v f [] (fop_course v names kept f)
set_well v names kept (fop.Lookup parent name) some within e =
    on_name_set v (fop.Lookup parent name) names kept parent name _ some within e (λ set. tt) refl (λ hashed handed own. lookup_set v (fop.Lookup parent name) handed parent.gfid name)
set_well v names kept (fop.Mkdir parent name mode drawn) some within e =
    on_name_set v (fop.Mkdir parent name mode drawn) names kept parent name _ some within e (λ set. tt) refl
    (λ hashed handed own. mkdir_set v (fop.Mkdir parent name mode drawn) handed parent.gfid name mode drawn own (record { parent = parent; name = name; mode = mode; is_mkdir = refl }) (λ set after. (refl, after, refl)))
set_well v names kept (fop.Rmdir parent name) some within e =
    on_name_set v (fop.Rmdir parent name) names kept parent name _ some within e (λ set. tt) refl (λ hashed handed own. rmdir_set v (fop.Rmdir parent name) handed parent name refl (λ set. tt) own)
set_well v names kept (fop.Create fd parent name mode drawn) some within e =
    on_name_set v (fop.Create fd parent name mode drawn) names kept parent name _ some within e (λ set. tt) refl (λ hashed handed own. create_set v (fop.Create fd parent name mode drawn) handed parent.gfid name mode drawn hashed own)
set_well v names kept (fop.Unlink parent name) some within e =
    on_name_set v (fop.Unlink parent name) names kept parent name _ some within e (λ set. tt) refl (λ hashed handed own. unlink_set v (fop.Unlink parent name) handed parent.gfid name hashed own)
set_well v names kept (fop.Rename parent name target new_name) some within e = renames_set v names kept parent name target new_name some within e
set_well v names kept (fop.Open fd object) some within e = opens_set v object fd
set_well v names kept (fop.Stat object) some within e = stats_set v object
set_well v names kept (fop.List object) some within e =
    if_set v (fop.List object) [] _ _ (is_directory object.kind) (λ dir. lists_set v (fop.List object) object.gfid (sets_from v 0) [] None [] (λ set. tt) (own_dir (fop.List object) object refl dir)) (λ file. tt)
set_well v names kept (fop.Chmod object mode) some within e =
    meta_set v (fop.Chmod object mode) object (op.SetMode object.gfid mode) _ [] refl (record { object = object; named = refl; gfid_is = refl; at_home = home_is object }) tt
set_well v names kept (fop.Truncate object size) some within e = truncates_set v object size
set_well v names kept (fop.SetAttr object attr) some within e =
    meta_set v (fop.SetAttr object attr) object (op.SetAttr object.gfid attr) _ [] refl (record { object = object; named = refl; gfid_is = refl; at_home = home_is object }) tt
set_well v names kept (fop.GetAttr object name) some within e = gets_set v object name
set_well v names kept (fop.DelAttr object name) some within e = dels_set v object name
set_well v names kept (fop.Read fd object offset count) some within e = reads_bytes_set v object fd offset count
set_well v names kept (fop.Write fd object offset bytes) some within e = writes_set v object fd offset bytes
set_well v names kept (fop.Migrate fds) some within e = opens_again_set v (fop.Migrate fds) fds [] (λ set fd gfid is. is)
set_well v names kept (fop.Heal count) some within e = indexes_set v (fop.Heal count) count (sets_from v 0) [] []

-- ---- each part alone

homes_of : (v : Volume) (f : Fop) (handed : Handed) (course : Course) → SetsWell v f handed course → Always (IsJobAtHome f) AnyHold AnyAnswer handed course
homes_of v f handed (Asks set j next) a = (a.0.0, λ reply. homes_of v f (Replied set j reply ∷ handed) (next reply) (a.1 reply))
homes_of v f handed (Extends dir next) a = (tt, homes_of v f (Held dir ∷ handed) next a.1)
homes_of v f handed (Ends answer place) a = tt

births_of : (v : Volume) (f : Fop) (handed : Handed) (course : Course) → SetsWell v f handed course → Always (IsBornInTime v f) AnyHold AnyAnswer handed course
births_of v f handed (Asks set j next) a = (a.0.1, λ reply. births_of v f (Replied set j reply ∷ handed) (next reply) (a.1 reply))
births_of v f handed (Extends dir next) a = (tt, births_of v f (Held dir ∷ handed) next a.1)
births_of v f handed (Ends answer place) a = tt

holds_of : (v : Volume) (f : Fop) (handed : Handed) (course : Course) → SetsWell v f handed course → Always AnyJob (IsOwnHold f) AnyAnswer handed course
holds_of v f handed (Asks set j next) a = (tt, λ reply. holds_of v f (Replied set j reply ∷ handed) (next reply) (a.1 reply))
holds_of v f handed (Extends dir next) a = (a.0, holds_of v f (Held dir ∷ handed) next a.1)
holds_of v f handed (Ends answer place) a = tt

pub fops_extend : FopsExtendHolds
fops_extend = λ v names kept f some within e. holds_of v f [] (fop_course v names kept f) (set_well v names kept f some within e)

pub fops_change_on : FopsChangeOnSets
fops_change_on = λ v names kept f some within e. homes_of v f [] (fop_course v names kept f) (set_well v names kept f some within e)

pub fops_bear : FopsBearFirst
fops_bear = λ v names kept f some within e. births_of v f [] (fop_course v names kept f) (set_well v names kept f some within e)
