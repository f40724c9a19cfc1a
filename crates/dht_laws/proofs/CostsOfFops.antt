-- How many jobs each fop asks for.
use Rattle.std.proofs.Common.{◌≡◌, ◌∙◌, ℕ, suc, ◌+◌, ◌*◌, ◌-◌, ◌≤◌, ◌==◌, Bool, true, false, List, [], ◌∷◌, map, take, min, Option, Some, None, length, nat_lt, subst, arith}
use Rattle.std.proofs.lemmas.List.{length-append, length-map, length-take}
use Rattle.std.proofs.Math.Nat.{min-le_left, suc-mul}
use Rattle.std.proofs.lemmas.List.FromFn.{length-range_with_len}
use Rattle.std.specs.Prelude.{slice_index_or}
use Rattle.dht_linkto.specs.DirNames.{first_content}
use Rattle.dht_linkto.specs.Search.{hashed_set}
use Rattle.dht_linkto.specs.declared.found.Found.TheVariants as found
use Rattle.dht_laws.proofs.Costs.{most, AndOne, ask_most, read_most, names_most, change_most, if_most, EndsIn, looks_in_most, finds_most}
use Rattle.dht_laws.specs.Costs.{AsksAtMost, few_jobs, most_jobs}
use Rattle.dht_fops.specs.Courses.{Course, answers, after_change, after_any}
use Rattle.dht_fops.specs.Courses.Course.{Ends}
use Rattle.dht_fops.specs.Entries.{lookup_found, lists_from, births_from, mkdir_found, create_found, drops_link, unlink_found, empties, rmdir_found}
use Rattle.dht_fops.specs.Fops.{on_name, lists, renames, fop_course}
use Rattle.dht_fops.specs.Internal.{opens_again, heals, indexes, with_cells, cells_in}
use Rattle.dht_fops.specs.Looks.{Ending, where_named}
use Rattle.dht_fops.specs.Merges.{merged, real_items}
use Rattle.dht_fops.specs.Objects.{opens, stats, gets_attr, attr_value, reads_bytes, truncates, dels_attr, drops_attr, writes, writes_some}
use Rattle.dht_fops.specs.Renames.{drops_old_link, adds_link, moves, bears, replaces, changes_names, other_set, target_found, target_ending, looks_for_target, source_at, source_found, second_set}
use Rattle.dht_fops.specs.Volumes.{Kept, known_set, sets_from}
use Rattle.dht_laws.proofs.Arguments.{Renaming, Source}
use Rattle.dht_fops.specs.declared.volume.Volume.{Volume}
use Rattle.fop_types.specs.FileBytes.{file_limit}
use Rattle.fop_types.specs.Limits.{max_item_name}
use Rattle.fop_types.specs.Names.{attr_named, has_real_name, is_directory, is_same_name}
use Rattle.fop_types.specs.StoreOps.{attrs_of}
use Rattle.fop_types.specs.declared.answers.Answer.TheVariants as answer
use Rattle.fop_types.specs.declared.answers.FopAnswer.{FopAnswer}
use Rattle.fop_types.specs.declared.cells.Cell.{Cell}
use Rattle.fop_types.specs.declared.cells.Gfid.{Gfid}
use Rattle.fop_types.specs.declared.contents.Attr.{Attr}
use Rattle.fop_types.specs.declared.contents.Item.{Item}
use Rattle.fop_types.specs.declared.fops.Fop.{Fop}
use Rattle.fop_types.specs.declared.fops.Fop.TheVariants as fop
use Rattle.fop_types.specs.declared.fops.Object.{Object}
use Rattle.fop_types.specs.declared.fops.OpenFd.{OpenFd}

named_most : (n : ℕ) (parent : Object) (name : List ℕ) (place : Option ℕ) (next : Course) → AsksAtMost n next → AsksAtMost n (where_named parent name place next)
named_most n parent name place next k = if_most n _ _ (is_directory parent.kind) (if_most n _ _ (nat_lt max_item_name (length name)) tt k) tt

on_name_most : (k : ℕ) (v : Volume) (names : List (List ℕ)) (kept : Kept) (parent : Object) (name : List ℕ) (ending : ℕ → Ending) → ((hashed : ℕ) → EndsIn k (ending hashed))
    → AsksAtMost (length names + (length names + 2 + k)) (on_name v names kept parent name ending)
on_name_most k v names kept parent name ending ends =
    named_most _ parent name None _
    (finds_most (length names + 2 + k) (length names) parent.gfid (known_set v kept parent.gfid name) _ _
    (λ set. looks_in_most k parent.gfid name names 0 ending set (ends set))
    (λ whole. looks_in_most k parent.gfid name names 0 ending (hashed_set whole name) (ends (hashed_set whole name))))

-- ---- names of a directory

lookup_most : EndsIn 0 lookup_found
lookup_most (found.Item set gfid kind) seen = tt
lookup_most found.Absent seen = tt
lookup_most (found.Io error) seen = tt

births_most : (v : Volume) (parent : Gfid) (name : List ℕ) (mode : ℕ) (drawn : Gfid) (sets : List ℕ) → AsksAtMost (suc (length sets)) (births_from v parent name mode drawn sets)
births_most v parent name mode drawn [] = change_most 0 _ (λ number. tt)
births_most v parent name mode drawn (set ∷ sets) = change_most (suc (length sets)) _ (λ number. births_most v parent name mode drawn sets)

mkdir_most : (v : Volume) (parent : Gfid) (name : List ℕ) (mode : ℕ) (drawn : Gfid) → EndsIn (v.sets + 1) (mkdir_found v parent name mode drawn)
mkdir_most v parent name mode drawn (found.Item set gfid kind) seen = tt
mkdir_most v parent name mode drawn found.Absent seen =
    let all = length-range_with_len 1 (v.sets - 1) in most (suc (length (sets_from v 1))) (v.sets + 1) (births_from v parent name mode drawn (sets_from v 1)) (omega (arith, all)) (births_most v parent name mode drawn (sets_from v 1))
mkdir_most v parent name mode drawn (found.Io error) seen = tt

create_most : (v : Volume) (parent : Gfid) (name : List ℕ) (mode : ℕ) (drawn : Gfid) (hashed : ℕ) → EndsIn 1 (create_found v parent name mode drawn hashed)
create_most v parent name mode drawn hashed (found.Item set gfid kind) seen = tt
create_most v parent name mode drawn hashed found.Absent seen = change_most 0 _ (λ number. tt)
create_most v parent name mode drawn hashed (found.Io error) seen = tt

drop_most : (parent : Gfid) (name : List ℕ) (hashed : ℕ) (has_link : Bool) (number : Option ℕ) → AsksAtMost 1 (drops_link parent name hashed has_link number)
drop_most parent name hashed has_link number = if_most 1 _ _ has_link (ask_most 0 (after_any (answers answer.Done number)) (λ reply. tt)) tt

unlink_most : (v : Volume) (parent : Gfid) (name : List ℕ) (hashed : ℕ) → EndsIn 2 (unlink_found v parent name hashed)
unlink_most v parent name hashed (found.Item set gfid kind) seen =
    if_most 2 _ _ (is_directory kind) tt (change_most 1 _ (λ number. drop_most parent name hashed seen.has_link number))
unlink_most v parent name hashed found.Absent seen = tt
unlink_most v parent name hashed (found.Io error) seen = tt

empties_most : (v : Volume) (parent : Gfid) (name : List ℕ) (gfid : Gfid) (sets : List ℕ) → AsksAtMost (suc (length sets)) (empties v parent name gfid sets)
empties_most v parent name gfid [] = change_most 0 _ (λ number. tt)
empties_most v parent name gfid (set ∷ sets) =
    names_most (suc (length sets)) _ (λ shown. if_most (suc (length sets)) _ _ (has_real_name shown.items) tt (empties_most v parent name gfid sets))

rmdir_most : (v : Volume) (parent : Gfid) (name : List ℕ) → EndsIn (v.sets + 1) (rmdir_found v parent name)
rmdir_most v parent name (found.Item set gfid kind) seen =
    let all = length-range_with_len 0 (v.sets - 0) in
    if_most (v.sets + 1) _ _ (is_directory kind) (most (suc (length (sets_from v 0))) (v.sets + 1) (empties v parent name gfid (sets_from v 0)) (omega (arith, all)) (empties_most v parent name gfid (sets_from v 0))) tt
rmdir_most v parent name found.Absent seen = tt
rmdir_most v parent name (found.Io error) seen = tt

lists_most : (dir : Gfid) (sets : List ℕ) (names : List Item) (place : Option ℕ) → AsksAtMost (length sets) (lists_from dir sets names place)
lists_most dir [] names place = tt
lists_most dir (set ∷ sets) names place =
    most (suc (length sets)) (length (set ∷ sets)) (lists_from dir (set ∷ sets) names place) (omega arith)
    (names_most (length sets) _ (λ shown. if_most (length sets) _ _ shown.removed tt (lists_most dir sets (merged names (real_items shown.items)) (Some shown.place))))

-- ---- rename

adds_link_most : (r : Renaming) (number : Option ℕ) → AsksAtMost 2 (adds_link r number)
adds_link_most r number =
    if_most 2 _ _ (r.hashed == r.source.set) (most 1 2 (drops_old_link r.source number) (omega arith) (drop_most r.source.parent r.source.name r.source.hashed r.source.has_link number))
    (ask_most 1 (after_any (drops_old_link r.source number)) (λ reply. drop_most r.source.parent r.source.name r.source.hashed r.source.has_link number))

moves_most : (v : Volume) (r : Renaming) → AsksAtMost 3 (moves v r)
moves_most v r = change_most 2 _ (λ number. adds_link_most r number)

bears_most : (v : Volume) (r : Renaming) (copy : Bool) → AsksAtMost 4 (bears v r copy)
bears_most v r true = most 3 4 (moves v r) (omega arith) (moves_most v r)
bears_most v r false = change_most 3 _ (λ number. moves_most v r)

replaces_most : (v : Volume) (r : Renaming) (replaced : Option ℕ) (copy : Bool) → AsksAtMost 5 (replaces v r replaced copy)
replaces_most v r None copy = most 4 5 (bears v r copy) (omega arith) (bears_most v r copy)
replaces_most v r (Some set) copy = change_most 4 _ (λ number. bears_most v r copy)

names_changed_most : (v : Volume) (r : Renaming) (replaced : Option ℕ) (copy : Option Bool) → AsksAtMost 6 (changes_names v r replaced copy)
names_changed_most v r replaced (Some copy) = most 5 6 (replaces v r replaced copy) (omega arith) (replaces_most v r replaced copy)
names_changed_most v r replaced None = names_most 5 _ (λ shown. replaces_most v r replaced shown.has_copy)

target_most : (v : Volume) (r : Renaming) → EndsIn 6 (target_found v r)
target_most v r (found.Item set gfid kind) seen = if_most 6 _ _ (is_directory kind) tt (names_changed_most v r (other_set set r.source.set) seen.copy)
target_most v r found.Absent seen = names_changed_most v r None seen.copy
target_most v r (found.Io error) seen = tt

target_ends_most : (v : Volume) (source : Source) (target : Gfid) (new_name : List ℕ) (names : List (List ℕ)) (hashed : ℕ) → EndsIn 6 (target_ending v source target new_name names hashed)
target_ends_most v source target new_name names hashed =
    target_most v (record { source = source; target = target; new_name = new_name; hashed = hashed; set_name = slice_index_or names source.set [] })

looks_for_target_most : (v : Volume) (source : Source) (target : Gfid) (new_name : List ℕ) (names : List (List ℕ)) (second : Option ℕ)
    → AsksAtMost (length names + (length names + 2 + 6)) (looks_for_target v source target new_name names second)
looks_for_target_most v source target new_name names second =
    finds_most (length names + 2 + 6) (length names) target second _ _
    (λ set. looks_in_most 6 target new_name names source.set (target_ending v source target new_name names) set (target_ends_most v source target new_name names set))
    (λ whole. looks_in_most 6 target new_name names source.set (target_ending v source target new_name names) (hashed_set whole new_name) (target_ends_most v source target new_name names (hashed_set whole new_name)))

source_most : (v : Volume) (parent : Gfid) (name : List ℕ) (names : List (List ℕ)) (target : Object) (new_name : List ℕ) (second : Option ℕ) (hashed : ℕ)
    → EndsIn (length names + (length names + 2 + 6)) (source_found v parent name names target new_name second hashed)
source_most v parent name names target new_name second hashed (found.Item set gfid kind) seen =
    if_most _ _ _ (is_directory kind) tt
    (named_most _ target new_name (Some seen.place) _
    (if_most _ _ _ (is_same_name parent name target.gfid new_name) tt (looks_for_target_most v (source_at parent name hashed seen.has_link set gfid) target.gfid new_name names second)))
source_most v parent name names target new_name second hashed found.Absent seen = tt
source_most v parent name names target new_name second hashed (found.Io error) seen = tt

renames_most : (v : Volume) (names : List (List ℕ)) (kept : Kept) (parent : Object) (name : List ℕ) (target : Object) (new_name : List ℕ)
    → AsksAtMost (length names + (length names + 2 + (length names + (length names + 2 + 6)))) (renames v names kept parent name target new_name)
renames_most v names kept parent name target new_name =
    named_most _ parent name None _
    (finds_most (length names + 2 + (length names + (length names + 2 + 6))) (length names) parent.gfid (known_set v kept parent.gfid name) _ _
    (λ set. looks_in_most (length names + (length names + 2 + 6)) parent.gfid name names 0 (source_found v parent.gfid name names target new_name (known_set v kept target.gfid new_name)) set (source_most v parent.gfid name names target new_name (known_set v kept target.gfid new_name) set))
    (λ whole. looks_in_most (length names + (length names + 2 + 6)) parent.gfid name names 0 (source_found v parent.gfid name names target new_name (second_set parent.gfid target.gfid new_name (known_set v kept target.gfid new_name) whole)) (hashed_set whole name)
    (source_most v parent.gfid name names target new_name (second_set parent.gfid target.gfid new_name (known_set v kept target.gfid new_name) whole) (hashed_set whole name))))

-- ---- objects

cell_most : (answer : FopAnswer) → AndOne 0 (after_change (Ends answer))
cell_most answer = change_most 0 (Ends answer) (λ number. tt)

opens_most : (object : Object) (fd : ℕ) → AsksAtMost 1 (opens object fd)
opens_most object fd = if_most 1 _ _ (is_directory object.kind) tt (change_most 0 _ (λ number. tt))

stats_most : (object : Object) → AsksAtMost 1 (stats object)
stats_most object = if_most 1 _ _ (is_directory object.kind) (read_most 0 _ (λ contents place. tt)) (read_most 0 _ (λ contents place. tt))

value_most : (attr : Option Attr) (place : ℕ) → AsksAtMost 0 (attr_value attr place)
value_most None place = tt
value_most (Some attr) place = tt

gets_most : (object : Object) (name : List ℕ) → AsksAtMost 1 (gets_attr object name)
gets_most object name = read_most 0 _ (λ contents place. value_most (attr_named (attrs_of (first_content contents)) name) place)

reads_most : (object : Object) (fd offset count : ℕ) → AsksAtMost 1 (reads_bytes object fd offset count)
reads_most object fd offset count = if_most 1 _ _ (is_directory object.kind) tt (read_most 0 _ (λ contents place. tt))

truncates_most : (v : Volume) (object : Object) (size : ℕ) → AsksAtMost 1 (truncates v object size)
truncates_most v object size = if_most 1 _ _ (is_directory object.kind) tt (if_most 1 _ _ (nat_lt file_limit size) tt (cell_most _))

attr_drop_most : (v : Volume) (object : Object) (name : List ℕ) (attr : Option Attr) (place : ℕ) → AsksAtMost 1 (drops_attr v object name attr place)
attr_drop_most v object name None place = tt
attr_drop_most v object name (Some attr) place = cell_most _

dels_most : (v : Volume) (object : Object) (name : List ℕ) → AsksAtMost 2 (dels_attr v object name)
dels_most v object name = read_most 1 _ (λ contents place. attr_drop_most v object name (attr_named (attrs_of (first_content contents)) name) place)

some_most : (v : Volume) (object : Object) (fd offset : ℕ) (bytes : List ℕ) → AsksAtMost 1 (writes_some v object fd offset bytes)
some_most v object fd offset [] = tt
some_most v object fd offset (first ∷ rest) = cell_most _

writes_most : (v : Volume) (object : Object) (fd offset : ℕ) (bytes : List ℕ) → AsksAtMost 1 (writes v object fd offset bytes)
writes_most v object fd offset bytes =
    if_most 1 _ _ (is_directory object.kind) tt (if_most 1 _ _ (nat_lt file_limit (offset + length bytes)) tt (some_most v object fd offset bytes))

list_most : (v : Volume) (object : Object) → AsksAtMost v.sets (lists v object)
list_most v object =
    let all = length-range_with_len 0 (v.sets - 0) in
    if_most v.sets _ _ (is_directory object.kind) (most (length (sets_from v 0)) v.sets (lists_from object.gfid (sets_from v 0) [] None) (omega (arith, all)) (lists_most object.gfid (sets_from v 0) [] None)) tt

-- ---- fops of the mount itself

opens_again_most : (fds : List OpenFd) → AsksAtMost (length fds) (opens_again fds)
opens_again_most [] = tt
opens_again_most (one ∷ fds) = most (suc (length fds)) (length (one ∷ fds)) (opens_again (one ∷ fds)) (omega arith) (ask_most (length fds) (after_any (opens_again fds)) (λ reply. opens_again_most fds))

heals_most : (cells : List (ℕ × Cell)) → AsksAtMost (length cells) (heals cells)
heals_most [] = tt
heals_most (one ∷ cells) = most (suc (length cells)) (length (one ∷ cells)) (heals (one ∷ cells)) (omega arith) (ask_most (length cells) (after_any (heals cells)) (λ reply. heals_most cells))

few_more : (all so_far made taken least most : ℕ) → all ≡ so_far + made → made ≡ taken → taken ≡ least → least ≤ most → all ≤ so_far + most
few_more all so_far made taken least most a b c h = omega arith

with_few : (so_far : List (ℕ × Cell)) (count set : ℕ) (cells : List Cell) → length (with_cells so_far count set cells) ≤ length so_far + (2 * count + 2)
with_few so_far count set cells =
    few_more (length (with_cells so_far count set cells)) (length so_far) (length (map (λ (cell : Cell). (set, cell)) (take (2 * count + 2) cells))) (length (take (2 * count + 2) cells)) (min (2 * count + 2) (length cells)) (2 * count + 2)
    (length-append so_far (map (λ (cell : Cell). (set, cell)) (take (2 * count + 2) cells))) (length-map (take (2 * count + 2) cells) (λ (cell : Cell). (set, cell))) (length-take (2 * count + 2) cells) (min-le_left (2 * count + 2) (length cells))

-- the jobs of a heal that are left: the sets that are still to be listed, with their cells, and the cells so far
abbrev heal_jobs : ℕ → ℕ → ℕ → ℕ
heal_jobs sets each cells = sets + (sets * each + cells)

heal_step : (sets each cells more : ℕ) → more ≤ cells + each → suc (heal_jobs sets each more) ≤ heal_jobs (suc sets) each cells
heal_step sets each cells more h =
    let product : suc sets * each ≡ sets * each + each = suc-mul sets each in
    omega arith

indexes_most : (count : ℕ) (sets : List ℕ) (cells : List (ℕ × Cell)) → AsksAtMost (heal_jobs (length sets) (2 * count + 2) (length cells)) (indexes count sets cells)
indexes_most count [] cells = most (length cells) (heal_jobs 0 (2 * count + 2) (length cells)) (heals cells) (omega arith) (heals_most cells)
indexes_most count (set ∷ sets) cells =
    most (suc (heal_jobs (length sets) (2 * count + 2) (length cells + (2 * count + 2)))) (heal_jobs (length (set ∷ sets)) (2 * count + 2) (length cells)) (indexes count (set ∷ sets) cells)
    (heal_step (length sets) (2 * count + 2) (length cells) (length cells + (2 * count + 2)) (omega arith))
    (ask_most (heal_jobs (length sets) (2 * count + 2) (length cells + (2 * count + 2))) (λ reply. indexes count sets (with_cells cells count set (cells_in reply)))
    (λ reply. let few = with_few cells count set (cells_in reply) in
    most (heal_jobs (length sets) (2 * count + 2) (length (with_cells cells count set (cells_in reply)))) (heal_jobs (length sets) (2 * count + 2) (length cells + (2 * count + 2)))
    (indexes count sets (with_cells cells count set (cells_in reply))) (omega arith) (indexes_most count sets (with_cells cells count set (cells_in reply)))))

heal_most : (v : Volume) (count : ℕ) → AsksAtMost (v.sets + v.sets * (2 * count + 2)) (indexes count (sets_from v 0) [])
heal_most v count =
    let all : length (sets_from v 0) ≡ v.sets = length-range_with_len 0 (v.sets - 0) ∙ same in
    let each = subst (λ (n : ℕ). AsksAtMost (heal_jobs n (2 * count + 2) 0) (indexes count (sets_from v 0) [])) all (indexes_most count (sets_from v 0) []) in
    most (heal_jobs v.sets (2 * count + 2) 0) (v.sets + v.sets * (2 * count + 2)) (indexes count (sets_from v 0) []) (omega arith) each
  where
    same : v.sets - 0 ≡ v.sets
    same = omega arith

-- ---- all

few : (v : Volume) (n : ℕ) (c : Course) → n ≤ 4 * v.sets + 16 → AsksAtMost n c → AsksAtMost (few_jobs v.sets) c
few v n c h a = most n (few_jobs v.sets) c h a

pub asks_few : (v : Volume) (names : List (List ℕ)) (kept : Kept) (f : Fop) → length names ≡ v.sets → AsksAtMost (most_jobs v.sets f) (fop_course v names kept f)
asks_few v names kept (fop.Lookup parent name) e = few v (length names + (length names + 2 + 0)) (fop_course v names kept (fop.Lookup parent name)) (omega arith) (on_name_most 0 v names kept parent name _ (λ hashed. lookup_most))
asks_few v names kept (fop.Mkdir parent name mode drawn) e = few v (length names + (length names + 2 + (v.sets + 1))) (fop_course v names kept (fop.Mkdir parent name mode drawn)) (omega arith) (on_name_most (v.sets + 1) v names kept parent name _ (λ hashed. mkdir_most v parent.gfid name mode drawn))
asks_few v names kept (fop.Rmdir parent name) e = few v (length names + (length names + 2 + (v.sets + 1))) (fop_course v names kept (fop.Rmdir parent name)) (omega arith) (on_name_most (v.sets + 1) v names kept parent name _ (λ hashed. rmdir_most v parent.gfid name))
asks_few v names kept (fop.Create fd parent name mode drawn) e = few v (length names + (length names + 2 + 1)) (fop_course v names kept (fop.Create fd parent name mode drawn)) (omega arith) (on_name_most 1 v names kept parent name _ (create_most v parent.gfid name mode drawn))
asks_few v names kept (fop.Unlink parent name) e = few v (length names + (length names + 2 + 2)) (fop_course v names kept (fop.Unlink parent name)) (omega arith) (on_name_most 2 v names kept parent name _ (unlink_most v parent.gfid name))
asks_few v names kept (fop.Rename parent name target new_name) e = few v (length names + (length names + 2 + (length names + (length names + 2 + 6)))) (fop_course v names kept (fop.Rename parent name target new_name)) (omega arith) (renames_most v names kept parent name target new_name)
asks_few v names kept (fop.Open fd object) e = few v 1 (fop_course v names kept (fop.Open fd object)) (omega arith) (opens_most object fd)
asks_few v names kept (fop.Stat object) e = few v 1 (fop_course v names kept (fop.Stat object)) (omega arith) (stats_most object)
asks_few v names kept (fop.List object) e = few v v.sets (fop_course v names kept (fop.List object)) (omega arith) (list_most v object)
asks_few v names kept (fop.Chmod object mode) e = few v 1 (fop_course v names kept (fop.Chmod object mode)) (omega arith) (cell_most _)
asks_few v names kept (fop.Truncate object size) e = few v 1 (fop_course v names kept (fop.Truncate object size)) (omega arith) (truncates_most v object size)
asks_few v names kept (fop.SetAttr object attr) e = few v 1 (fop_course v names kept (fop.SetAttr object attr)) (omega arith) (cell_most _)
asks_few v names kept (fop.GetAttr object name) e = few v 1 (fop_course v names kept (fop.GetAttr object name)) (omega arith) (gets_most object name)
asks_few v names kept (fop.DelAttr object name) e = few v 2 (fop_course v names kept (fop.DelAttr object name)) (omega arith) (dels_most v object name)
asks_few v names kept (fop.Read fd object offset count) e = few v 1 (fop_course v names kept (fop.Read fd object offset count)) (omega arith) (reads_most object fd offset count)
asks_few v names kept (fop.Write fd object offset bytes) e = few v 1 (fop_course v names kept (fop.Write fd object offset bytes)) (omega arith) (writes_most v object fd offset bytes)
asks_few v names kept (fop.Migrate fds) e = opens_again_most fds
asks_few v names kept (fop.Heal count) e = heal_most v count
