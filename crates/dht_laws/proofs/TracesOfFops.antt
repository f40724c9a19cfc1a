-- Every fop's answers are placed at the latest read or change with an effect, and its changes of links and births rest on
-- what was seen.
use Rattle.std.proofs.Common.{◌≡◌, ◌⊎◌, ℕ, ◌+◌, inl, inr, ◌==◌, Bool, true, false, List, [], ◌∷◌, Option, Some, None, if◌then◌else◌, nat_lt, length, refl, sym, subst}
use Rattle.std.specs.Ordering.{is_eq}
use Rattle.std.specs.Prelude.{slice_index_or}
use Rattle.dht_linkto.specs.DirNames.{first_content}
use Rattle.dht_linkto.specs.Search.{hashed_set}
use Rattle.dht_linkto.specs.declared.found.Found.{Found}
use Rattle.dht_linkto.specs.declared.found.Found.TheVariants as found
use Rattle.dht_layout.specs.Layouts.{even_layout}
use Rattle.dht_laws.proofs.FlatRenames.{is_eq_equal}
use Rattle.dht_fops.proofs.Handing.{Later, later_push}
use Rattle.dht_laws.proofs.Traces.{Given, Traces, IsRested, saw_spans_later, EndsTraced, IsRead, IsInHand, names_traced, read_traced, change_traced, birth_traced, open_traced, if_traced, kept_traced, looks_traced, finds_traced, link_later, SawWhether, whether_later, saw_copy, saw_no_copy}
use Rattle.dht_laws.specs.Births.{WasBorn}
use Rattle.dht_fops.specs.Courses.{Course}
use Rattle.dht_fops.specs.Courses.Course.{Asks, Extends, Ends}
use Rattle.dht_fops.specs.Entries.{lookup_found, lists_from, births_from, mkdir_found, create_found, drops_link, unlink_found, empties, rmdir_found}
use Rattle.dht_fops.specs.Fops.{on_name, renames, fop_course}
use Rattle.dht_fops.specs.Handed.{Handed, Always, AnyJob, AnyHold, AnyAnswer}
use Rattle.dht_fops.specs.Handed.Event.{Replied, Held}
use Rattle.dht_fops.specs.Internal.{opens_again, heals, indexes, with_cells, cells_in}
use Rattle.dht_fops.specs.Looks.{Ending, where_named}
use Rattle.dht_fops.specs.Merges.{merged, real_items}
use Rattle.dht_fops.specs.Objects.{opens, stats, attr_value, gets_attr, drops_attr, dels_attr, reads_bytes, changes_cell, truncates, writes_some, writes, home}
use Rattle.dht_fops.specs.Additions.{SawSpans, SawLayout, IsSetBy, IsSetOf, IsOnSet, AddsOnSet, FopsAddOnSets}
use Rattle.dht_laws.specs.Links.{SawLink, SawCopy, WasMoved, IsMadeBy, IsIntoCopy, RestsOnLinks, FopsChangeLinks}
use Rattle.dht_laws.specs.Places.{last_place, IsPlaced, FopsPlaceAnswers}
use Rattle.dht_fops.specs.Renames.{adds_link, moves, bears, replaces, changes_names, other_set, target_found, target_ending, looks_for_target, source_at, source_found, second_set}
use Rattle.dht_fops.specs.Volumes.{Kept, kept_spans, set_in, known_set, sets_from}
use Rattle.dht_laws.proofs.Arguments.{Renaming, Seen, Source}
use Rattle.dht_fops.specs.declared.volume.Volume.{Volume}
use Rattle.fop_types.specs.Cells.{root}
use Rattle.fop_types.specs.FileBytes.{file_limit}
use Rattle.fop_types.specs.Limits.{max_item_name}
use Rattle.fop_types.specs.Names.{attr_named, has_real_name, is_directory, is_same_name}
use Rattle.fop_types.specs.Orders.{gfid_cmp}
use Rattle.fop_types.specs.StoreOps.{attrs_of}
use Rattle.fop_types.specs.declared.answers.FopAnswer.TheVariants as fop_answer
use Rattle.fop_types.specs.declared.answers.Answer.TheVariants as answer
use Rattle.fop_types.specs.declared.cells.Cell.{Cell}
use Rattle.fop_types.specs.declared.cells.Gfid.{Gfid}
use Rattle.fop_types.specs.declared.contents.Attr.{Attr}
use Rattle.fop_types.specs.declared.contents.Item.{Item}
use Rattle.fop_types.specs.declared.contents.Span.{Span}
use Rattle.fop_types.specs.declared.fops.Fop.{Fop}
use Rattle.fop_types.specs.declared.fops.Fop.TheVariants as fop
use Rattle.fop_types.specs.declared.fops.Object.{Object}
use Rattle.fop_types.specs.declared.fops.OpenFd.{OpenFd}
use Rattle.fop_types.specs.declared.jobs.Job.{Job}
use Rattle.fop_types.specs.declared.jobs.Job.TheVariants as job
use Rattle.fop_types.specs.declared.store_ops.StoreOp.{StoreOp}

-- ---- fops on an object

cell_done : (g : Given) (v : Volume) (set : ℕ) (cell : Cell) (fd : ℕ) (op : StoreOp) (handed : Handed) → IsIntoCopy handed set op → IsOnSet g.volume (length g.names) g.kept handed set op → Traces g handed (changes_cell v set cell fd op (fop_answer.Call answer.Done))
cell_done g v set cell fd op handed c b = change_traced g handed set _ fd op _ _ c b (λ said number done at. sym at)

cell_counted : (g : Given) (v : Volume) (set : ℕ) (cell : Cell) (fd : ℕ) (op : StoreOp) (n : ℕ) (handed : Handed) → IsIntoCopy handed set op → IsOnSet g.volume (length g.names) g.kept handed set op → Traces g handed (changes_cell v set cell fd op (fop_answer.Call (answer.Count n)))
cell_counted g v set cell fd op n handed c b = change_traced g handed set _ fd op _ _ c b (λ said number done at. sym at)

opens_traced : (g : Given) (object : Object) (fd : ℕ) → Traces g [] (opens object fd)
opens_traced g object fd = if_traced g [] _ _ (is_directory object.kind) (λ dir. refl) (λ file. open_traced g [] object.set fd object.gfid _ (λ later number at. sym at))

stats_traced : (g : Given) (object : Object) → Traces g [] (stats object)
stats_traced g object =
    if_traced g [] _ _ (is_directory object.kind) (λ dir. read_traced g [] 0 _ 0 _ _ (λ later contents place l at shows. sym at)) (λ file. read_traced g [] object.set _ 0 _ _ (λ later contents place l at shows. sym at))

gets_traced : (g : Given) (object : Object) (name : List ℕ) → Traces g [] (gets_attr object name)
gets_traced g object name = read_traced g [] (home object) _ 0 _ _ (λ later contents place l at shows. by_attr later (attr_named (attrs_of (first_content contents)) name) place at)
  where
    by_attr : (later : Handed) (attr : Option Attr) (place : ℕ) → last_place later ≡ Some place → Traces g later (attr_value attr place)
    by_attr later None place at = sym at
    by_attr later (Some attr) place at = sym at

dels_traced : (g : Given) (v : Volume) (object : Object) (name : List ℕ) → Traces g [] (dels_attr v object name)
dels_traced g v object name = read_traced g [] (home object) _ 0 _ _ (λ later contents place l at shows. by_attr later (attr_named (attrs_of (first_content contents)) name) place at)
  where
    by_attr : (later : Handed) (attr : Option Attr) (place : ℕ) → last_place later ≡ Some place → Traces g later (drops_attr v object name attr place)
    by_attr later None place at = sym at
    by_attr later (Some attr) place at = cell_done g v (home object) _ 0 _ later tt tt

reads_traced : (g : Given) (object : Object) (fd offset count : ℕ) → Traces g [] (reads_bytes object fd offset count)
reads_traced g object fd offset count = if_traced g [] _ _ (is_directory object.kind) (λ dir. refl) (λ file. read_traced g [] object.set _ fd false _ (λ later contents place l at shows. sym at))

truncates_traced : (g : Given) (v : Volume) (object : Object) (size : ℕ) → Traces g [] (truncates v object size)
truncates_traced g v object size = if_traced g [] _ _ (is_directory object.kind) (λ dir. refl) (λ file. if_traced g [] _ _ (nat_lt file_limit size) (λ big. refl) (λ fits. cell_done g v object.set _ 0 _ [] tt tt))

writes_traced : (g : Given) (v : Volume) (object : Object) (fd offset : ℕ) (bytes : List ℕ) → Traces g [] (writes v object fd offset bytes)
writes_traced g v object fd offset bytes = if_traced g [] _ _ (is_directory object.kind) (λ dir. refl) (λ file. if_traced g [] _ _ (nat_lt file_limit (offset + length bytes)) (λ big. refl) (λ fits. by_bytes bytes))
  where
    by_bytes : (bytes : List ℕ) → Traces g [] (writes_some v object fd offset bytes)
    by_bytes [] = refl
    by_bytes (first ∷ rest) = cell_counted g v object.set _ fd _ (length (first ∷ rest)) [] tt tt

-- ---- fops on a name

-- where no lock is needed, the place is that of what was read before
named_traced : (g : Given) (handed : Handed) (parent : Object) (name : List ℕ) (place : Option ℕ) (next : Course) → last_place handed ≡ place → Traces g handed next → Traces g handed (where_named parent name place next)
named_traced g handed parent name place next at k =
    if_traced g handed _ _ (is_directory parent.kind) (λ dir. if_traced g handed _ _ (nat_lt max_item_name (length name)) (λ long. sym at) (λ short. k)) (λ file. sym at)

-- the set to which a name belongs, by what is known of it or was read
set_known : (known : Option ℕ) (count : ℕ) (handed : Handed) (dir : Gfid) (name : List ℕ) (set : ℕ) → known ≡ Some set → IsSetBy known count handed dir name set
set_known None count handed dir name set e = absurd cc
set_known (Some own) count handed dir name set e = let same : own ≡ set = cc in sym same

set_read : (known : Option ℕ) (count : ℕ) (handed : Handed) (dir : Gfid) (name : List ℕ) (set : ℕ) → known ≡ None → SawLayout count handed dir name set → IsSetBy known count handed dir name set
set_read None count handed dir name set e read = read
set_read (Some own) count handed dir name set e read = absurd cc

on_name_traced : (g : Given) (v : Volume) (names : List (List ℕ)) (kept : Kept) (parent : Object) (name : List ℕ) (ending : ℕ → Ending) → ((hashed : ℕ) (handed : Handed) → IsSetOf v (length names) kept handed parent.gfid name hashed → EndsTraced g handed parent.gfid name hashed 0 (ending hashed))
    → Traces g [] (on_name v names kept parent name ending)
on_name_traced g v names kept parent name ending ends =
    named_traced g [] parent name None _ refl
    (finds_traced g (length names) parent.gfid (known_set v kept parent.gfid name) _ _ []
    (λ set known. looks_traced g parent.gfid name names 0 ending set [] (ends set [] (set_known (known_set v kept parent.gfid name) (length names) [] parent.gfid name set known)))
    (λ unknown whole later l w saw. looks_traced g parent.gfid name names 0 ending (hashed_set whole name) later
    (ends (hashed_set whole name) later
    (set_read (known_set v kept parent.gfid name) (length names) later parent.gfid name (hashed_set whole name) unknown (record { spans = whole; whole = w; saw = saw; set_is = refl })))))

lookup_traced : (g : Given) (handed : Handed) (dir : Gfid) (name : List ℕ) (hashed : ℕ) → EndsTraced g handed dir name hashed 0 lookup_found
lookup_traced g handed dir name hashed = λ result seen later l r h. by_found later result seen r h.place
  where
    by_found : (later : Handed) (result : Found) (seen : Seen) → IsRead result → last_place later ≡ Some seen.place → Traces g later (lookup_found result seen)
    by_found later (found.Item set gfid kind) seen r at = sym at
    by_found later found.Absent seen r at = sym at
    by_found later (found.Io error) seen r at = absurd r

births_traced : (g : Given) (v : Volume) (parent : Gfid) (name : List ℕ) (mode : ℕ) (drawn : Gfid) (sets : List ℕ) (handed : Handed) → IsMadeBy g.fop drawn → Traces g handed (births_from v parent name mode drawn sets)
births_traced g v parent name mode drawn [] handed made = change_traced g handed 0 _ 0 _ _ _ tt refl (λ said number done at. sym at)
births_traced g v parent name mode drawn (set ∷ sets) handed made = birth_traced g handed set drawn _ _ (inl made) (λ later number l born at. births_traced g v parent name mode drawn sets later made)

mkdir_traced : (g : Given) (v : Volume) (handed : Handed) (parent : Gfid) (name : List ℕ) (mode : ℕ) (drawn : Gfid) (hashed : ℕ) → IsMadeBy g.fop drawn → EndsTraced g handed parent name hashed 0 (mkdir_found v parent name mode drawn)
mkdir_traced g v handed parent name mode drawn hashed made = λ result seen later l r h. by_found later result seen r h.place
  where
    by_found : (later : Handed) (result : Found) (seen : Seen) → IsRead result → last_place later ≡ Some seen.place → Traces g later (mkdir_found v parent name mode drawn result seen)
    by_found later (found.Item set gfid kind) seen r at = sym at
    by_found later found.Absent seen r at = births_traced g v parent name mode drawn (sets_from v 1) later made
    by_found later (found.Io error) seen r at = absurd r

set_by_later : (known : Option ℕ) (count : ℕ) (a b : Handed) (dir : Gfid) (name : List ℕ) (set : ℕ) → Later a b → IsSetBy known count a dir name set → IsSetBy known count b dir name set
set_by_later None count a b dir name set l read = record { spans = read.spans; whole = read.whole; saw = saw_spans_later a b dir 0 read.spans l read.saw; set_is = read.set_is }
set_by_later (Some own) count a b dir name set l on = on

set_later : (g : Given) (a b : Handed) (dir : Gfid) (name : List ℕ) (set : ℕ) → Later a b → IsSetOf g.volume (length g.names) g.kept a dir name set → IsSetOf g.volume (length g.names) g.kept b dir name set
set_later g a b dir name set l on = set_by_later (known_set g.volume g.kept dir name) (length g.names) a b dir name set l on

create_traced : (g : Given) (v : Volume) (handed : Handed) (parent : Gfid) (name : List ℕ) (mode : ℕ) (drawn : Gfid) (hashed : ℕ) → IsSetOf g.volume (length g.names) g.kept handed parent name hashed → EndsTraced g handed parent name hashed 0 (create_found v parent name mode drawn hashed)
create_traced g v handed parent name mode drawn hashed on = λ result seen later l r h. by_found later result seen r h.place (set_later g handed later parent name hashed l on)
  where
    by_found : (later : Handed) (result : Found) (seen : Seen) → IsRead result → last_place later ≡ Some seen.place → IsSetOf g.volume (length g.names) g.kept later parent name hashed → Traces g later (create_found v parent name mode drawn hashed result seen)
    by_found later (found.Item set gfid kind) seen r at on = sym at
    by_found later found.Absent seen r at on = change_traced g later hashed _ 0 _ _ _ tt on (λ said number done e. sym e)
    by_found later (found.Io error) seen r at on = absurd r

-- a change of a link leaves the place
drops_link_traced : (g : Given) (parent : Gfid) (name : List ℕ) (hashed : ℕ) (has_link : Bool) (number : Option ℕ) (handed : Handed) → last_place handed ≡ number → (has_link ≡ true → SawLink handed parent name hashed)
    → Traces g handed (drops_link parent name hashed has_link number)
drops_link_traced g parent name hashed true number handed at saw = ((saw refl, tt), λ r. sym at)
drops_link_traced g parent name hashed false number handed at saw = sym at

unlink_traced : (g : Given) (v : Volume) (handed : Handed) (parent : Gfid) (name : List ℕ) (hashed : ℕ) → EndsTraced g handed parent name hashed 0 (unlink_found v parent name hashed)
unlink_traced g v handed parent name hashed = λ result seen later l r h. by_found later result seen r h
  where
    by_found : (later : Handed) (result : Found) (seen : Seen) → IsRead result → IsInHand later parent name hashed 0 seen → Traces g later (unlink_found v parent name hashed result seen)
    by_found later (found.Item set gfid kind) seen r h =
        if_traced g later _ _ (is_directory kind) (λ dir. sym h.place)
        (λ file. change_traced g later set _ 0 _ _ _ tt tt
        (λ said number done e. drops_link_traced g parent name hashed seen.has_link number _ e (λ has. link_later later _ parent name hashed (later_push _ later) (h.link has))))
    by_found later found.Absent seen r h = sym h.place
    by_found later (found.Io error) seen r h = absurd r

empties_traced : (g : Given) (v : Volume) (parent : Gfid) (name : List ℕ) (gfid : Gfid) (sets : List ℕ) (handed : Handed) → Traces g handed (empties v parent name gfid sets)
empties_traced g v parent name gfid [] handed = change_traced g handed 0 _ 0 _ _ _ tt tt (λ said number done at. sym at)
empties_traced g v parent name gfid (set ∷ sets) handed =
    names_traced g handed set gfid _ (λ later shown l saw at. if_traced g later _ _ (has_real_name shown.items) (λ full. sym at) (λ none. empties_traced g v parent name gfid sets later))

rmdir_traced : (g : Given) (v : Volume) (handed : Handed) (parent : Gfid) (name : List ℕ) (hashed : ℕ) → EndsTraced g handed parent name hashed 0 (rmdir_found v parent name)
rmdir_traced g v handed parent name hashed = λ result seen later l r h. by_found later result seen r h.place
  where
    by_found : (later : Handed) (result : Found) (seen : Seen) → IsRead result → last_place later ≡ Some seen.place → Traces g later (rmdir_found v parent name result seen)
    by_found later (found.Item set gfid kind) seen r at =
        if_traced g later _ _ (is_directory kind) (λ dir. (tt, empties_traced g v parent name gfid (sets_from v 0) (Held gfid ∷ later))) (λ file. sym at)
    by_found later found.Absent seen r at = sym at
    by_found later (found.Io error) seen r at = absurd r

lists_traced : (g : Given) (dir : Gfid) (sets : List ℕ) (names : List Item) (place : Option ℕ) (handed : Handed) → last_place handed ≡ place → Traces g handed (lists_from dir sets names place)
lists_traced g dir [] names place handed at = sym at
lists_traced g dir (set ∷ sets) names place handed at =
    names_traced g handed set dir _ (λ later shown l saw e. kept_traced g later shown _ e (lists_traced g dir sets (merged names (real_items shown.items)) (Some shown.place) later e))

-- ---- rename

-- the old link was seen, if there is one
abbrev pub SawOldLink : Handed → Source → Type 0
SawOldLink handed source = source.has_link ≡ true → SawLink handed source.parent source.name source.hashed

old_later : (a b : Handed) (source : Source) → Later a b → SawOldLink a source → SawOldLink b source
old_later a b source l s = λ has. link_later a b source.parent source.name source.hashed l (s has)

-- the set to which the new name belongs is that of the new link
pub record KnowsLinks (g : Given) (handed : Handed) (r : Renaming) : Type 0 where
  pub old : SawOldLink handed r.source
  pub new : IsSetOf g.volume (length g.names) g.kept handed r.target r.new_name r.hashed

links_later : (g : Given) (a b : Handed) (r : Renaming) → Later a b → KnowsLinks g a r → KnowsLinks g b r
links_later g a b r l k = record { old = old_later a b r.source l k.old; new = set_later g a b r.target r.new_name r.hashed l k.new }

adds_link_traced : (g : Given) (r : Renaming) (number : Option ℕ) (handed : Handed) → last_place handed ≡ number → KnowsLinks g handed r → ((r.hashed == r.source.set) ≡ false → WasMoved handed r.target r.new_name r.hashed)
    → Traces g handed (adds_link r number)
adds_link_traced g r number handed at k moved = if_traced g handed _ _ (r.hashed == r.source.set)
    (λ same. drops_link_traced g r.source.parent r.source.name r.source.hashed r.source.has_link number handed at k.old)
    (λ other. (((refl, moved other), k.new), λ said. drops_link_traced g r.source.parent r.source.name r.source.hashed r.source.has_link number _ at (old_later handed _ r.source (later_push _ handed) k.old)))

-- the file's set has a copy of the new parent
abbrev pub HasTarget : Handed → Renaming → Type 0
HasTarget handed r = SawCopy handed r.target r.source.set ⊎ WasBorn handed r.source.set r.target None

moves_traced : (g : Given) (v : Volume) (r : Renaming) (handed : Handed) → KnowsLinks g handed r → HasTarget handed r → Traces g handed (moves v r)
moves_traced g v r handed k copy =
    change_traced g handed r.source.set _ 0 _ _ _ copy tt
    (λ said number done at. adds_link_traced g r number _ at (links_later g handed _ r (later_push _ handed) k)
    (λ other. inl (record { parent = r.source.parent; old = r.source.name; is_move = refl }, done, other)))

bears_traced : (g : Given) (v : Volume) (r : Renaming) (copy : Bool) (handed : Handed) → KnowsLinks g handed r → SawWhether handed r.target r.source.set copy → Traces g handed (bears v r copy)
bears_traced g v r true handed k saw = moves_traced g v r handed k (inl (saw_copy handed r.target r.source.set saw))
bears_traced g v r false handed k saw =
    birth_traced g handed r.source.set r.target None _ (inr (saw_no_copy handed r.target r.source.set saw)) (λ later number l born at. moves_traced g v r later (links_later g handed later r l k) (inr born))

replaces_traced : (g : Given) (v : Volume) (r : Renaming) (replaced : Option ℕ) (copy : Bool) (handed : Handed) → KnowsLinks g handed r → SawWhether handed r.target r.source.set copy → Traces g handed (replaces v r replaced copy)
replaces_traced g v r None copy handed k saw = bears_traced g v r copy handed k saw
replaces_traced g v r (Some set) copy handed k saw =
    change_traced g handed set _ 0 _ _ _ tt tt
    (λ said number done at. bears_traced g v r copy _ (links_later g handed _ r (later_push _ handed) k) (whether_later handed _ r.target r.source.set copy (later_push _ handed) saw))

changes_traced : (g : Given) (v : Volume) (r : Renaming) (replaced : Option ℕ) (copy : Option Bool) (handed : Handed) → KnowsLinks g handed r → ((there : Bool) → copy ≡ Some there → SawWhether handed r.target r.source.set there)
    → Traces g handed (changes_names v r replaced copy)
changes_traced g v r replaced (Some copy) handed k saw = replaces_traced g v r replaced copy handed k (saw copy refl)
changes_traced g v r replaced None handed k saw =
    names_traced g handed r.source.set r.target _
    (λ later shown l seen at. replaces_traced g v r replaced shown.has_copy later (links_later g handed later r l k) (record { shown = shown; saw = seen; there_is = refl }))

target_traced : (g : Given) (v : Volume) (handed : Handed) (r : Renaming) → KnowsLinks g handed r → EndsTraced g handed r.target r.new_name r.hashed r.source.set (target_found v r)
target_traced g v handed r k = λ result seen later l read h. by_found later result seen read h (links_later g handed later r l k)
  where
    by_found : (later : Handed) (result : Found) (seen : Seen) → IsRead result → IsInHand later r.target r.new_name r.hashed r.source.set seen → KnowsLinks g later r → Traces g later (target_found v r result seen)
    by_found later (found.Item set gfid kind) seen read h now =
        if_traced g later _ _ (is_directory kind) (λ dir. sym h.place) (λ file. changes_traced g v r (other_set set r.source.set) seen.copy later now h.copy)
    by_found later found.Absent seen read h now = changes_traced g v r None seen.copy later now h.copy
    by_found later (found.Io error) seen read h now = absurd read

-- ---- the look at the new name

-- the set of the new name, where it is known before the look: the name belongs to it, and no layout gives another
abbrev pub KnowsSecond : Given → Handed → Gfid → List ℕ → Option ℕ → Type 0
KnowsSecond g handed target new_name second =
    ((set : ℕ) → second ≡ Some set → IsSetOf g.volume (length g.names) g.kept handed target new_name set) × (second ≡ None → known_set g.volume g.kept target new_name ≡ None)

second_later : (g : Given) (a b : Handed) (target : Gfid) (new_name : List ℕ) (second : Option ℕ) → Later a b → KnowsSecond g a target new_name second → KnowsSecond g b target new_name second
second_later g a b target new_name second l k = (λ set e. set_later g a b target new_name set l (k.0 set e), k.1)

known_knows : (g : Given) (handed : Handed) (target : Gfid) (new_name : List ℕ) → KnowsSecond g handed target new_name (known_set g.volume g.kept target new_name)
known_knows g handed target new_name = (λ set e. set_known (known_set g.volume g.kept target new_name) (length g.names) handed target new_name set e, λ e. e)

-- whether a set is known does not depend on the name
none_by : (v : Volume) (name other : List ℕ) (one is_root : Bool) (spans : Option (List (Option Span))) → (if one then Some 0 else (if is_root then Some (hashed_set (even_layout v.root_sets) name) else set_in spans name)) ≡ None
    → (if one then Some 0 else (if is_root then Some (hashed_set (even_layout v.root_sets) other) else set_in spans other)) ≡ None
none_by v name other true is_root spans e = absurd cc
none_by v name other false true spans e = absurd cc
none_by v name other false false None e = refl
none_by v name other false false (Some spans) e = absurd cc

known_none : (v : Volume) (kept : Kept) (dir : Gfid) (name other : List ℕ) → known_set v kept dir name ≡ None → known_set v kept dir other ≡ None
known_none v kept dir name other e = none_by v name other (v.sets == 1) (is_eq (gfid_cmp dir root)) (kept_spans v.sets kept dir) e

same_set : (a b : ℕ) → Some a ≡ Some b → a ≡ b
same_set a b e = let same : a ≡ b = cc in same

-- after the layout of the first name's directory was read
second_knows : (g : Given) (handed : Handed) (parent target : Gfid) (name new_name : List ℕ) (whole : List (Option Span)) → known_set g.volume g.kept parent name ≡ None → length whole ≡ length g.names → SawSpans handed parent 0 whole
    → KnowsSecond g handed target new_name (second_set parent target new_name (known_set g.volume g.kept target new_name) whole)
second_knows g handed parent target name new_name whole unknown w saw = by_same (is_eq (gfid_cmp parent target)) refl
  where
    none : parent ≡ target → known_set g.volume g.kept target new_name ≡ None
    none same = subst (λ (dir : Gfid). known_set g.volume g.kept dir new_name ≡ None) same (known_none g.volume g.kept parent name new_name unknown)

    layout : parent ≡ target → (set : ℕ) → Some (hashed_set whole new_name) ≡ Some set → SawLayout (length g.names) handed target new_name set
    layout same set e = record { spans = whole; whole = w; saw = subst (λ (dir : Gfid). SawSpans handed dir 0 whole) same saw; set_is = same_set (hashed_set whole new_name) set e }

    by_same : (b : Bool) → is_eq (gfid_cmp parent target) ≡ b → KnowsSecond g handed target new_name (if b then Some (hashed_set whole new_name) else known_set g.volume g.kept target new_name)
    by_same true one =
        let same = is_eq_equal parent target one in
        (λ set e. set_read (known_set g.volume g.kept target new_name) (length g.names) handed target new_name set (none same) (layout same set e), λ e. none same)
    by_same false one = known_knows g handed target new_name

abbrev renaming_of : Source → Gfid → List ℕ → List (List ℕ) → ℕ → Renaming
renaming_of source target new_name names hashed = record { source = source; target = target; new_name = new_name; hashed = hashed; set_name = slice_index_or names source.set [] }

looks_for_target_traced : (g : Given) (v : Volume) (source : Source) (target : Gfid) (new_name : List ℕ) (second : Option ℕ) (handed : Handed) → SawOldLink handed source → KnowsSecond g handed target new_name second
    → Traces g handed (looks_for_target v source target new_name g.names second)
looks_for_target_traced g v source target new_name second handed old k =
    finds_traced g (length g.names) target second _ _ handed
    (λ set known. looks_traced g target new_name g.names source.set (target_ending v source target new_name g.names) set handed
    (target_traced g v handed (renaming_of source target new_name g.names set) (record { old = old; new = k.0 set known })))
    (λ unknown whole later l w saw. looks_traced g target new_name g.names source.set (target_ending v source target new_name g.names) (hashed_set whole new_name) later
    (target_traced g v later (renaming_of source target new_name g.names (hashed_set whole new_name))
    (record {
      old = old_later handed later source l old;
      new = set_read (known_set g.volume g.kept target new_name) (length g.names) later target new_name (hashed_set whole new_name) (k.1 unknown) (record { spans = whole; whole = w; saw = saw; set_is = refl });
    })))

source_traced : (g : Given) (v : Volume) (handed : Handed) (parent : Gfid) (name : List ℕ) (target : Object) (new_name : List ℕ) (second : Option ℕ) (hashed : ℕ) → KnowsSecond g handed target.gfid new_name second
    → EndsTraced g handed parent name hashed 0 (source_found v parent name g.names target new_name second hashed)
source_traced g v handed parent name target new_name second hashed k = λ result seen later l r h. by_found later result seen r h (second_later g handed later target.gfid new_name second l k)
  where
    by_found : (later : Handed) (result : Found) (seen : Seen) → IsRead result → IsInHand later parent name hashed 0 seen → KnowsSecond g later target.gfid new_name second → Traces g later (source_found v parent name g.names target new_name second hashed result seen)
    by_found later (found.Item set gfid kind) seen r h now =
        if_traced g later _ _ (is_directory kind) (λ dir. sym h.place)
        (λ file. named_traced g later target new_name (Some seen.place) _ h.place
        (if_traced g later _ _ (is_same_name parent name target.gfid new_name) (λ same. sym h.place)
        (λ other. looks_for_target_traced g v (source_at parent name hashed seen.has_link set gfid) target.gfid new_name second later h.link now)))
    by_found later found.Absent seen r h now = sym h.place
    by_found later (found.Io error) seen r h now = absurd r

renames_traced : (g : Given) (parent : Object) (name : List ℕ) (target : Object) (new_name : List ℕ) → Traces g [] (renames g.volume g.names g.kept parent name target new_name)
renames_traced g parent name target new_name =
    named_traced g [] parent name None _ refl
    (finds_traced g (length g.names) parent.gfid (known_set g.volume g.kept parent.gfid name) _ _ []
    (λ set known. looks_traced g parent.gfid name g.names 0 (source_found g.volume parent.gfid name g.names target new_name (known_set g.volume g.kept target.gfid new_name)) set []
    (source_traced g g.volume [] parent.gfid name target new_name (known_set g.volume g.kept target.gfid new_name) set (known_knows g [] target.gfid new_name)))
    (λ unknown whole later l w saw. looks_traced g parent.gfid name g.names 0
    (source_found g.volume parent.gfid name g.names target new_name (second_set parent.gfid target.gfid new_name (known_set g.volume g.kept target.gfid new_name) whole)) (hashed_set whole name) later
    (source_traced g g.volume later parent.gfid name target new_name (second_set parent.gfid target.gfid new_name (known_set g.volume g.kept target.gfid new_name) whole) (hashed_set whole name)
    (second_knows g later parent.gfid target.gfid name new_name whole unknown w saw))))

-- ---- fops of the mount itself

opens_again_traced : (g : Given) (fds : List OpenFd) (handed : Handed) → last_place handed ≡ None → Traces g handed (opens_again fds)
opens_again_traced g [] handed at = sym at
opens_again_traced g (one ∷ fds) handed at = (tt, λ r. opens_again_traced g fds (Replied one.set (job.Open one.fd one.gfid) r ∷ handed) at)

heals_traced : (g : Given) (cells : List (ℕ × Cell)) (handed : Handed) → last_place handed ≡ None → Traces g handed (heals cells)
heals_traced g [] handed at = sym at
heals_traced g (one ∷ cells) handed at = (tt, λ r. heals_traced g cells (Replied one.0 (job.Heal one.1) r ∷ handed) at)

indexes_traced : (g : Given) (count : ℕ) (sets : List ℕ) (cells : List (ℕ × Cell)) (handed : Handed) → last_place handed ≡ None → Traces g handed (indexes count sets cells)
indexes_traced g count [] cells handed at = heals_traced g cells handed at
indexes_traced g count (set ∷ sets) cells handed at = (tt, λ r. indexes_traced g count sets (with_cells cells count set (cells_in r)) (Replied set job.Index r ∷ handed) at)

-- ---- all

traced : (g : Given) (f : Fop) → g.fop ≡ f → Traces g [] (fop_course g.volume g.names g.kept f)
traced g (fop.Lookup parent name) e = on_name_traced g g.volume g.names g.kept parent name _ (λ hashed handed on. lookup_traced g handed parent.gfid name hashed)
traced g (fop.Mkdir parent name mode drawn) e =
    on_name_traced g g.volume g.names g.kept parent name _ (λ hashed handed on. mkdir_traced g g.volume handed parent.gfid name mode drawn hashed (record { parent = parent; name = name; mode = mode; is_mkdir = e }))
traced g (fop.Rmdir parent name) e = on_name_traced g g.volume g.names g.kept parent name _ (λ hashed handed on. rmdir_traced g g.volume handed parent.gfid name hashed)
traced g (fop.Create fd parent name mode drawn) e = on_name_traced g g.volume g.names g.kept parent name _ (λ hashed handed on. create_traced g g.volume handed parent.gfid name mode drawn hashed on)
traced g (fop.Unlink parent name) e = on_name_traced g g.volume g.names g.kept parent name _ (λ hashed handed on. unlink_traced g g.volume handed parent.gfid name hashed)
traced g (fop.Rename parent name target new_name) e = renames_traced g parent name target new_name
traced g (fop.Open fd object) e = opens_traced g object fd
traced g (fop.Stat object) e = stats_traced g object
traced g (fop.List object) e = if_traced g [] _ _ (is_directory object.kind) (λ dir. lists_traced g object.gfid (sets_from g.volume 0) [] None [] refl) (λ file. refl)
traced g (fop.Chmod object mode) e = cell_done g g.volume (home object) _ 0 _ [] tt tt
traced g (fop.Truncate object size) e = truncates_traced g g.volume object size
traced g (fop.SetAttr object attr) e = cell_done g g.volume (home object) _ 0 _ [] tt tt
traced g (fop.GetAttr object name) e = gets_traced g object name
traced g (fop.DelAttr object name) e = dels_traced g g.volume object name
traced g (fop.Read fd object offset count) e = reads_traced g object fd offset count
traced g (fop.Write fd object offset bytes) e = writes_traced g g.volume object fd offset bytes
traced g (fop.Migrate fds) e = opens_again_traced g fds [] refl
traced g (fop.Heal count) e = indexes_traced g count (sets_from g.volume 0) [] [] refl

-- ---- each part alone

places_of : (g : Given) (handed : Handed) (course : Course) → Traces g handed course → Always AnyJob AnyHold IsPlaced handed course
places_of g handed (Asks set job next) t = (tt, λ reply. places_of g (Replied set job reply ∷ handed) (next reply) (t.1 reply))
places_of g handed (Extends dir next) t = (tt, places_of g (Held dir ∷ handed) next t.1)
places_of g handed (Ends answer place) t = t

job_links : (g : Given) (handed : Handed) (set : ℕ) (j : Job) → IsRested g handed set j → RestsOnLinks g.fop handed set j
job_links g handed set (job.Change cells fd o (Some entry)) r = r.0
job_links g handed set (job.Change cells fd o None) r = r.0
job_links g handed set (job.Birth cells o) r = r
job_links g handed set (job.Read cells fd dir) r = tt
job_links g handed set (job.Open fd gfid) r = tt
job_links g handed set job.Index r = tt
job_links g handed set (job.Heal cell) r = tt

links_of : (g : Given) (handed : Handed) (course : Course) → Traces g handed course → Always (RestsOnLinks g.fop) AnyHold AnyAnswer handed course
links_of g handed (Asks set job next) t = (job_links g handed set job t.0, λ reply. links_of g (Replied set job reply ∷ handed) (next reply) (t.1 reply))
links_of g handed (Extends dir next) t = (tt, links_of g (Held dir ∷ handed) next t.1)
links_of g handed (Ends answer place) t = tt

job_adds : (g : Given) (handed : Handed) (set : ℕ) (j : Job) → IsRested g handed set j → AddsOnSet g.volume (length g.names) g.kept handed set j
job_adds g handed set (job.Change cells fd o (Some entry)) r = r.1
job_adds g handed set (job.Change cells fd o None) r = r.1
job_adds g handed set (job.Birth cells o) r = tt
job_adds g handed set (job.Read cells fd dir) r = tt
job_adds g handed set (job.Open fd gfid) r = tt
job_adds g handed set job.Index r = tt
job_adds g handed set (job.Heal cell) r = tt

adds_of : (g : Given) (handed : Handed) (course : Course) → Traces g handed course → Always (AddsOnSet g.volume (length g.names) g.kept) AnyHold AnyAnswer handed course
adds_of g handed (Asks set job next) t = (job_adds g handed set job t.0, λ reply. adds_of g (Replied set job reply ∷ handed) (next reply) (t.1 reply))
adds_of g handed (Extends dir next) t = (tt, adds_of g (Held dir ∷ handed) next t.1)
adds_of g handed (Ends answer place) t = tt

abbrev given : Volume → List (List ℕ) → Kept → Fop → Given
given v names kept f = record { volume = v; names = names; kept = kept; fop = f }

pub fops_place : FopsPlaceAnswers
fops_place = λ v names kept f. places_of (given v names kept f) [] (fop_course v names kept f) (traced (given v names kept f) f refl)

pub fops_change_links : FopsChangeLinks
fops_change_links = λ v names kept f. links_of (given v names kept f) [] (fop_course v names kept f) (traced (given v names kept f) f refl)

pub fops_add : FopsAddOnSets
fops_add = λ v names kept f. adds_of (given v names kept f) [] (fop_course v names kept f) (traced (given v names kept f) f refl)
