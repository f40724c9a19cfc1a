-- A fop changes contents on sets of its graph alone, and answers with such sets, where the objects that it names are on such
-- sets.
use Rattle.std.proofs.Common.{◌≡◌, inl, inr, refl, ℕ, ◌+◌, ◌<◌, ◌≤◌, ◌==◌, Bool, true, false, List, [], ◌∷◌, Option, Some, None, IfSome, Result, Ok, Err, if◌then◌else◌, length, nat_lt, arith}
use Rattle.dht_linkto.proofs.Knowing.{Below}
use Rattle.dht_linkto.specs.DirNames.{names_job, names_in, first_content}
use Rattle.dht_linkto.specs.Search.{hashed_set}
use Rattle.dht_linkto.specs.declared.found.Found.{Found}
use Rattle.dht_linkto.specs.declared.found.Found.TheVariants as found
use Rattle.dht_linkto.specs.declared.names.DirNames.{DirNames}
use Rattle.dht_fops.proofs.AskEntries.{below_from}
use Rattle.dht_fops.proofs.AskFops.{second_below}
use Rattle.dht_fops.proofs.Known.{hashed_below, known_below}
use Rattle.dht_fops.proofs.Looking.{Reading, EndsRight, IsFoundIn, looks_in_goes, finds_go}
use Rattle.dht_fops.specs.Courses.{Course, on_names, after_names, on_contents, after_read, contents_in, on_number, after_change, number_in, after_any, changes}
use Rattle.dht_fops.specs.Courses.Course.{Asks, Ends}
use Rattle.dht_fops.specs.Entries.{birth_job, lookup_found, lists_from, mkdir_found, births_from, adds_file, create_found, drops_link, unlink_found, rmdir_found, empties}
use Rattle.dht_fops.specs.Fops.{fop_course, on_name}
use Rattle.dht_fops.specs.Handed.{Handed, Always, AnyHold}
use Rattle.dht_fops.specs.Handed.Event.{Replied, Held}
use Rattle.dht_fops.specs.Internal.{opens_again, heals, indexes, with_cells, cells_in}
use Rattle.dht_fops.specs.Looks.{Ending, finds, looks_in, where_named, where_kept}
use Rattle.dht_fops.specs.Merges.{merged, real_items}
use Rattle.dht_fops.specs.Objects.{home, changes_cell, opened, dir_stat, file_stat, attr_read, attr_value, attr_seen, drops_attr, bytes_read, writes_some}
use Rattle.dht_fops.specs.Renames.{source_found, source_at, looks_for_target, target_ending, target_found, changes_names, replaces, bears, moves, adds_link, drops_old_link, second_set, other_set}
use Rattle.dht_fops.specs.Volumes.{Kept, known_set, sets_from, entry}
use Rattle.dht_fops.specs.declared.volume.Volume.{Volume}
use Rattle.fop_types.specs.Bounds.{Each}
use Rattle.fop_types.specs.Cells.{data_cell, meta_cell, names_cell}
use Rattle.fop_types.specs.FileBytes.{file_limit}
use Rattle.fop_types.specs.Flat.{item_of}
use Rattle.fop_types.specs.Limits.{max_item_name}
use Rattle.fop_types.specs.Names.{is_directory, is_same_name, attr_named, has_real_name}
use Rattle.fop_types.specs.StoreOps.{attrs_of}
use Rattle.fop_types.specs.declared.answers.Answer.{Answer}
use Rattle.fop_types.specs.declared.answers.FopAnswer.TheVariants as fop_answer
use Rattle.fop_types.specs.declared.answers.IoError.{IoError}
use Rattle.fop_types.specs.declared.cells.Cell.{Cell}
use Rattle.fop_types.specs.declared.cells.Gfid.{Gfid}
use Rattle.fop_types.specs.declared.cells.Kind.{Kind}
use Rattle.fop_types.specs.declared.cells.Kind.TheVariants as kind
use Rattle.fop_types.specs.declared.contents.Attr.{Attr}
use Rattle.fop_types.specs.declared.contents.Content.{Content}
use Rattle.fop_types.specs.declared.contents.Item.{Item}
use Rattle.fop_types.specs.declared.contents.Span.{Span}
use Rattle.fop_types.specs.declared.fops.Fop.{Fop}
use Rattle.fop_types.specs.declared.fops.Fop.TheVariants as fop
use Rattle.fop_types.specs.declared.fops.Object.{Object}
use Rattle.fop_types.specs.declared.fops.OpenFd.{OpenFd}
use Rattle.fop_types.specs.declared.history.Entry.{Entry}
use Rattle.fop_types.specs.declared.jobs.Job.{Job}
use Rattle.fop_types.specs.declared.jobs.Job.TheVariants as job
use Rattle.fop_types.specs.declared.jobs.SetReply.{SetReply}
use Rattle.fop_types.specs.declared.jobs.SetReply.TheVariants as reply
use Rattle.fop_types.specs.declared.store_ops.StoreOp.{StoreOp}
use Rattle.fop_types.specs.declared.store_ops.StoreOp.TheVariants as op
use Rattle.mount_laws.specs.Effects.{DidNotFail}
use Rattle.mount_laws.specs.Guards.{objects_of}
use Rattle.mount_laws.specs.Within.{IsWithin, AnswersWithin}
use Rattle.mount_laws.proofs.Arguments.{Seen, Source, Renaming, renaming}

-- wherever the replies lead
pub record Stays (n : ℕ) (course : Course) : Type 0 where
  pub at : (handed : Handed) → Always (IsWithin n) AnyHold (AnswersWithin n) handed course

-- an answer that names no object
says : (n : ℕ) (a : Answer) (place : Option ℕ) → Stays n (Ends (fop_answer.Call a) place)
says n a place = record { at = λ handed. tt }

if_stays : (n : ℕ) (one other : Course) (b : Bool) → Stays n one → Stays n other → Stays n (if b then one else other)
if_stays n one other true g h = g
if_stays n one other false g h = h

contents_lead : (n : ℕ) (next : List (Option Content) → ℕ → Course) → ((contents : List (Option Content)) (place : ℕ) → Stays n (next contents place)) → (handed : Handed) (read : Result (List (Option Content) × ℕ) IoError) → Always (IsWithin n) AnyHold (AnswersWithin n) handed (on_contents next read)
contents_lead n next k handed (Ok read) = (k read.0 read.1).at handed
contents_lead n next k handed (Err error) = tt

names_lead : (n : ℕ) (next : DirNames → Course) → ((shown : DirNames) → Stays n (next shown)) → (handed : Handed) (read : Result DirNames IoError) → Always (IsWithin n) AnyHold (AnswersWithin n) handed (on_names next read)
names_lead n next k handed (Ok shown) = (k shown).at handed
names_lead n next k handed (Err error) = tt

number_leads : (n : ℕ) (next : Option ℕ → Course) → ((number : Option ℕ) → Stays n (next number)) → (handed : Handed) (read : Result (Option ℕ) IoError) → Always (IsWithin n) AnyHold (AnswersWithin n) handed (on_number next read)
number_leads n next k handed (Ok number) = (k number).at handed
number_leads n next k handed (Err error) = tt

reads_stay : (n set : ℕ) (cells : List Cell) (fd : ℕ) (dir : Bool) (next : List (Option Content) → ℕ → Course) → ((contents : List (Option Content)) (place : ℕ) → Stays n (next contents place)) → Stays n (Asks set (job.Read cells fd dir) (after_read next))
reads_stay n set cells fd dir next k = record { at = λ handed. (tt, λ reply. contents_lead n next k (Replied set (job.Read cells fd dir) reply ∷ handed) (contents_in reply)) }

names_stay : (n set : ℕ) (dir : Gfid) (next : DirNames → Course) → ((shown : DirNames) → Stays n (next shown)) → Stays n (Asks set (names_job dir) (after_names next))
names_stay n set dir next k = record { at = λ handed. (tt, λ reply. names_lead n next k (Replied set (names_job dir) reply ∷ handed) (names_in reply)) }

change_stays : (n set : ℕ) (cells : List Cell) (fd : ℕ) (o : StoreOp) (effect : Option Entry) (next : Option ℕ → Course) → set < n → ((number : Option ℕ) → Stays n (next number)) → Stays n (changes set cells fd o effect next)
change_stays n set cells fd o effect next h k = record { at = λ handed. (h, λ reply. number_leads n next k (Replied set (job.Change cells fd o effect) reply ∷ handed) (number_in reply)) }

any_stays : (n set : ℕ) (cells : List Cell) (fd : ℕ) (o : StoreOp) (effect : Option Entry) (next : Course) → set < n → Stays n next → Stays n (Asks set (job.Change cells fd o effect) (after_any next))
any_stays n set cells fd o effect next h k = record { at = λ handed. (h, λ reply. k.at (Replied set (job.Change cells fd o effect) reply ∷ handed)) }

birth_stays : (n set : ℕ) (gfid : Gfid) (span : Option Span) (next : Option ℕ → Course) → set < n → ((number : Option ℕ) → Stays n (next number)) → Stays n (Asks set (birth_job gfid span) (after_change next))
birth_stays n set gfid span next h k = record { at = λ handed. (h, λ reply. number_leads n next k (Replied set (birth_job gfid span) reply ∷ handed) (number_in reply)) }

-- ---- looks

reading : (n : ℕ) (handed : Handed) (dir : Gfid) → Reading (IsWithin n) AnyHold (AnswersWithin n) n handed dir
reading n handed dir = record { names = λ later set l h. tt; spans = λ later set l h. tt; fails = λ later error. tt; removed = λ later set shown l h saw e. tt }

abbrev EndsWell : ℕ → Gfid → List ℕ → Ending → Type 0
EndsWell n dir name ending = (handed : Handed) → EndsRight (IsWithin n) AnyHold (AnswersWithin n) n handed dir name ending

look_stays : (n : ℕ) (dir : Gfid) (name : List ℕ) (names : List (List ℕ)) (watched : ℕ) (known : Option ℕ) (ending : ℕ → Ending) → length names ≡ n → IfSome known (λ set. set < n)
    → ((hashed : ℕ) → hashed < n → EndsWell n dir name (ending hashed))
    → (after : List (Option Span) → Course) → ((whole : List (Option Span)) → length whole ≡ n → Stays n (after whole))
    → Stays n (finds (length names) dir known (looks_in dir name names watched ending) after)
look_stays n dir name names watched known ending e k ends after later = record {
  at = λ handed.
      finds_go (IsWithin n) AnyHold (AnswersWithin n) n (length names) dir known (looks_in dir name names watched ending) after handed e (reading n handed dir) k
      (λ set i. looks_in_goes (IsWithin n) AnyHold (AnswersWithin n) n dir name names watched ending set handed e i (reading n handed dir) (ends set i handed))
      (λ whole after_all w l. (later whole w).at after_all);
}

found_stays : (n : ℕ) (dir : Gfid) (name : List ℕ) (names : List (List ℕ)) (watched : ℕ) (ending : ℕ → Ending) (hashed : ℕ) → length names ≡ n → hashed < n → EndsWell n dir name (ending hashed)
    → Stays n (looks_in dir name names watched ending hashed)
found_stays n dir name names watched ending hashed e h ends = record {
  at = λ handed.
      looks_in_goes (IsWithin n) AnyHold (AnswersWithin n) n dir name names watched ending hashed handed e h (reading n handed dir) (ends handed);
}

named_stays : (n : ℕ) (parent : Object) (name : List ℕ) (place : Option ℕ) (next : Course) → Stays n next → Stays n (where_named parent name place next)
named_stays n parent name place next k = if_stays n _ _ (is_directory parent.kind) (if_stays n _ _ (nat_lt max_item_name (length name)) (says n _ _) k) (says n _ _)

kept_stays : (n : ℕ) (shown : DirNames) (next : Course) → Stays n next → Stays n (where_kept shown next)
kept_stays n shown next k = if_stays n _ _ shown.removed (says n _ _) k

on_name_stays : (v : Volume) (names : List (List ℕ)) (kept : Kept) (parent : Object) (name : List ℕ) (ending : ℕ → Ending) → 1 ≤ v.root_sets → v.root_sets ≤ v.sets → length names ≡ v.sets
    → ((hashed : ℕ) → hashed < v.sets → EndsWell v.sets parent.gfid name (ending hashed)) → Stays v.sets (on_name v names kept parent name ending)
on_name_stays v names kept parent name ending some within e ends =
    named_stays v.sets parent name None _
    (look_stays v.sets parent.gfid name names 0 (known_set v kept parent.gfid name) ending e (known_below v kept parent.gfid name some within) ends
    (λ spans. looks_in parent.gfid name names 0 ending (hashed_set spans name))
    (λ whole w. found_stays v.sets parent.gfid name names 0 ending (hashed_set whole name) e (hashed_below v.sets whole name w (omega arith)) (ends (hashed_set whole name) (hashed_below v.sets whole name w (omega arith)))))

-- ---- names of a directory

-- an ending goes well by what was found
by_found : (n : ℕ) (dir : Gfid) (name : List ℕ) (ending : Ending) → ((set : ℕ) (gfid : Gfid) (k : Kind) (seen : Seen) → set < n → Stays n (ending (found.Item set gfid k) seen)) → ((seen : Seen) → Stays n (ending found.Absent seen))
    → ((error : IoError) (seen : Seen) → Stays n (ending (found.Io error) seen)) → EndsWell n dir name ending
by_found n dir name ending item absent io handed = λ result seen later l f. by_result result seen later f
  where
    by_result : (result : Found) (seen : Seen) (later : Handed) → IsFoundIn n later dir name result → Always (IsWithin n) AnyHold (AnswersWithin n) later (ending result seen)
    by_result (found.Item set gfid k) seen later f = (item set gfid k seen f.0).at later
    by_result found.Absent seen later f = (absent seen).at later
    by_result (found.Io error) seen later f = (io error seen).at later

-- a lookup answers what the name showed
lookup_ends : (n : ℕ) (dir : Gfid) (name : List ℕ) → EndsWell n dir name lookup_found
lookup_ends n dir name handed = λ result seen later l f. by_result result seen later f
  where
    by_result : (result : Found) (seen : Seen) (later : Handed) → IsFoundIn n later dir name result → Always (IsWithin n) AnyHold (AnswersWithin n) later (lookup_found result seen)
    by_result (found.Item set gfid k) seen later f = (f.0, inl (record { dir = dir; name = name; saw = f.1 }))
    by_result found.Absent seen later f = tt
    by_result (found.Io error) seen later f = tt

lists_stay : (n : ℕ) (dir : Gfid) (sets : List ℕ) (names : List Item) (place : Option ℕ) → Stays n (lists_from dir sets names place)
lists_stay n dir [] names place = says n _ _
lists_stay n dir (set ∷ sets) names place = names_stay n set dir _ (λ shown. kept_stays n shown _ (lists_stay n dir sets (merged names (real_items shown.items)) (Some shown.place)))

births_stay : (v : Volume) (parent : Gfid) (name : List ℕ) (mode : ℕ) (drawn : Gfid) (sets : List ℕ) → 1 ≤ v.sets → Below v.sets sets → Stays v.sets (births_from v parent name mode drawn sets)
births_stay v parent name mode drawn [] some b = change_stays v.sets 0 _ 0 _ _ _ some (λ number. says v.sets _ _)
births_stay v parent name mode drawn (set ∷ sets) some b = birth_stays v.sets set drawn _ _ b.0 (λ number. births_stay v parent name mode drawn sets some b.1)

mkdir_ends : (v : Volume) (parent : Gfid) (name : List ℕ) (mode : ℕ) (drawn : Gfid) → 1 ≤ v.sets → EndsWell v.sets parent name (mkdir_found v parent name mode drawn)
mkdir_ends v parent name mode drawn some =
    by_found v.sets parent name (mkdir_found v parent name mode drawn) (λ set gfid k seen h. says v.sets _ _) (λ seen. births_stay v parent name mode drawn (sets_from v 1) some (below_from v.sets 1)) (λ error seen. says v.sets _ _)

-- a create answers what it added
adds_stay_file : (v : Volume) (parent : Gfid) (name : List ℕ) (mode : ℕ) (drawn : Gfid) (hashed : ℕ) → hashed < v.sets → Stays v.sets (adds_file v parent name mode drawn hashed)
adds_stay_file v parent name mode drawn hashed h = record { at = λ handed. (h, λ shown. leads handed shown) }
  where
    add : Job
    add = job.Change (names_cell parent ∷ []) 0 (op.AddName parent (item_of name drawn kind.File) mode None) (Some (entry v 1))

    answered : (handed : Handed) (shown : SetReply) → DidNotFail shown → (number : Option ℕ) → AnswersWithin v.sets (Replied hashed add shown ∷ handed) (fop_answer.Found hashed drawn kind.File) number
    answered handed shown ok number = (h, inr (inl (refl, (ok, record { item = item_of name drawn kind.File; added = refl; gfid_is = refl; kind_is = refl; no_link = refl }))))

    leads : (handed : Handed) (shown : SetReply) → Always (IsWithin v.sets) AnyHold (AnswersWithin v.sets) (Replied hashed add shown ∷ handed) (after_change (Ends (fop_answer.Found hashed drawn kind.File)) shown)
    leads handed (reply.Contents contents place) = answered handed (reply.Contents contents place) tt None
    leads handed (reply.Decided number) = answered handed (reply.Decided number) tt number
    leads handed reply.Opened = answered handed reply.Opened tt None
    leads handed (reply.Listed cells answered2 short) = answered handed (reply.Listed cells answered2 short) tt None
    leads handed (reply.Healed records) = answered handed (reply.Healed records) tt None
    leads handed (reply.Skipped cause) = answered handed (reply.Skipped cause) tt None
    leads handed (reply.Io error) = tt

create_ends : (v : Volume) (parent : Gfid) (name : List ℕ) (mode : ℕ) (drawn : Gfid) (hashed : ℕ) → hashed < v.sets → EndsWell v.sets parent name (create_found v parent name mode drawn hashed)
create_ends v parent name mode drawn hashed h =
    by_found v.sets parent name (create_found v parent name mode drawn hashed) (λ set gfid k seen i. says v.sets _ _) (λ seen. adds_stay_file v parent name mode drawn hashed h) (λ error seen. says v.sets _ _)

link_stays : (n : ℕ) (parent : Gfid) (name : List ℕ) (hashed : ℕ) (has_link : Bool) (number : Option ℕ) → hashed < n → Stays n (drops_link parent name hashed has_link number)
link_stays n parent name hashed has_link number h = if_stays n _ _ has_link (any_stays n hashed _ 0 _ _ _ h (says n _ _)) (says n _ _)

unlink_ends : (v : Volume) (parent : Gfid) (name : List ℕ) (hashed : ℕ) → hashed < v.sets → EndsWell v.sets parent name (unlink_found v parent name hashed)
unlink_ends v parent name hashed h =
    by_found v.sets parent name (unlink_found v parent name hashed)
    (λ set gfid k seen i. if_stays v.sets _ _ (is_directory k) (says v.sets _ _) (change_stays v.sets set _ 0 _ _ _ i (λ number. link_stays v.sets parent name hashed seen.has_link number h))) (λ seen. says v.sets _ _) (λ error seen. says v.sets _ _)

empties_stay : (v : Volume) (parent : Gfid) (name : List ℕ) (gfid : Gfid) (sets : List ℕ) → 1 ≤ v.sets → Stays v.sets (empties v parent name gfid sets)
empties_stay v parent name gfid [] some = change_stays v.sets 0 _ 0 _ _ _ some (λ number. says v.sets _ _)
empties_stay v parent name gfid (set ∷ sets) some = names_stay v.sets set gfid _ (λ shown. if_stays v.sets _ _ (has_real_name shown.items) (says v.sets _ _) (empties_stay v parent name gfid sets some))

rmdir_ends : (v : Volume) (parent : Gfid) (name : List ℕ) → 1 ≤ v.sets → EndsWell v.sets parent name (rmdir_found v parent name)
rmdir_ends v parent name some =
    by_found v.sets parent name (rmdir_found v parent name)
    (λ set gfid k seen i. if_stays v.sets _ _ (is_directory k) (record { at = λ handed. (tt, (empties_stay v parent name gfid (sets_from v 0) some).at (Held gfid ∷ handed)) }) (says v.sets _ _)) (λ seen. says v.sets _ _) (λ error seen. says v.sets _ _)

-- ---- rename

below_if : (n set : ℕ) (b : Bool) → set < n → IfSome (if b then None else Some set) (λ one. one < n)
below_if n set true i = tt
below_if n set false i = i

module _ (v : Volume) (names : List (List ℕ)) (e : length names ≡ v.sets) (some : 1 ≤ v.sets) where
  old_link_stays : (source : Source) (number : Option ℕ) → source.hashed < v.sets → Stays v.sets (drops_old_link source number)
  old_link_stays source number h = link_stays v.sets source.parent source.name source.hashed source.has_link number h

  adds_stay : (r : Renaming) (number : Option ℕ) → r.source.hashed < v.sets → r.hashed < v.sets → Stays v.sets (adds_link r number)
  adds_stay r number h k = if_stays v.sets _ _ (r.hashed == r.source.set) (old_link_stays r.source number h) (any_stays v.sets r.hashed _ 0 _ _ _ k (old_link_stays r.source number h))

  moves_stay : (r : Renaming) → r.source.hashed < v.sets → r.hashed < v.sets → r.source.set < v.sets → Stays v.sets (moves v r)
  moves_stay r h k s = change_stays v.sets r.source.set _ 0 _ _ _ s (λ number. adds_stay r number h k)

  bears_stay : (r : Renaming) (copy : Bool) → r.source.hashed < v.sets → r.hashed < v.sets → r.source.set < v.sets → Stays v.sets (bears v r copy)
  bears_stay r true h k s = moves_stay r h k s
  bears_stay r false h k s = birth_stays v.sets r.source.set r.target None _ s (λ number. moves_stay r h k s)

  replaces_stay : (r : Renaming) (replaced : Option ℕ) (copy : Bool) → r.source.hashed < v.sets → r.hashed < v.sets → r.source.set < v.sets → IfSome replaced (λ set. set < v.sets) → Stays v.sets (replaces v r replaced copy)
  replaces_stay r None copy h k s o = bears_stay r copy h k s
  replaces_stay r (Some set) copy h k s o = change_stays v.sets set _ 0 _ _ _ o (λ number. bears_stay r copy h k s)

  names_change : (r : Renaming) (replaced : Option ℕ) (copy : Option Bool) → r.source.hashed < v.sets → r.hashed < v.sets → r.source.set < v.sets → IfSome replaced (λ set. set < v.sets) → Stays v.sets (changes_names v r replaced copy)
  names_change r replaced (Some copy) h k s o = replaces_stay r replaced copy h k s o
  names_change r replaced None h k s o = names_stay v.sets r.source.set r.target _ (λ shown. replaces_stay r replaced shown.has_copy h k s o)

  target_ends : (r : Renaming) → r.source.hashed < v.sets → r.hashed < v.sets → r.source.set < v.sets → (dir : Gfid) (name : List ℕ) → EndsWell v.sets dir name (target_found v r)
  target_ends r h k s dir name =
      by_found v.sets dir name (target_found v r)
      (λ set gfid kd seen i. if_stays v.sets _ _ (is_directory kd) (says v.sets _ _) (names_change r (other_set set r.source.set) seen.copy h k s (below_if v.sets set (set == r.source.set) i)))
      (λ seen. names_change r None seen.copy h k s tt) (λ error seen. says v.sets _ _)

  target_stays : (source : Source) (target : Gfid) (new_name : List ℕ) (second : Option ℕ) → source.hashed < v.sets → source.set < v.sets → IfSome second (λ set. set < v.sets) → Stays v.sets (looks_for_target v source target new_name names second)
  target_stays source target new_name second h s known =
      look_stays v.sets target new_name names source.set second (target_ending v source target new_name names) e known
      (λ hashed i. target_ends (renaming source target new_name names hashed) h i s target new_name)
      (λ spans. looks_in target new_name names source.set (target_ending v source target new_name names) (hashed_set spans new_name))
      (λ whole w. found_stays v.sets target new_name names source.set (target_ending v source target new_name names) (hashed_set whole new_name) e (hashed_below v.sets whole new_name w some)
      (target_ends (renaming source target new_name names (hashed_set whole new_name)) h (hashed_below v.sets whole new_name w some) s target new_name))

  source_ends : (parent : Gfid) (name : List ℕ) (target : Object) (new_name : List ℕ) (second : Option ℕ) (hashed : ℕ) → hashed < v.sets → IfSome second (λ set. set < v.sets) → EndsWell v.sets parent name (source_found v parent name names target new_name second hashed)
  source_ends parent name target new_name second hashed h known =
      by_found v.sets parent name (source_found v parent name names target new_name second hashed)
      (λ set gfid kd seen i. if_stays v.sets _ _ (is_directory kd) (says v.sets _ _)
      (named_stays v.sets target new_name (Some seen.place) _ (if_stays v.sets _ _ (is_same_name parent name target.gfid new_name) (says v.sets _ _) (target_stays (source_at parent name hashed seen.has_link set gfid) target.gfid new_name second h i known))))
      (λ seen. says v.sets _ _) (λ error seen. says v.sets _ _)

-- ---- objects, and fops of the mount itself

cell_stays : (v : Volume) (set : ℕ) (cell : Cell) (fd : ℕ) (o : StoreOp) (a : Answer) → set < v.sets → Stays v.sets (changes_cell v set cell fd o (fop_answer.Call a))
cell_stays v set cell fd o a h = change_stays v.sets set (cell ∷ []) fd o _ (Ends (fop_answer.Call a)) h (λ number. says v.sets a number)

home_below : (n : ℕ) (object : Object) → 1 ≤ n → object.set < n → home object < n
home_below n object some h = by_kind (is_directory object.kind)
  where
    by_kind : (b : Bool) → (if b then 0 else object.set) < n
    by_kind true = some
    by_kind false = h

opens_again_stays : (n : ℕ) (fds : List OpenFd) → Stays n (opens_again fds)
opens_again_stays n [] = says n _ _
opens_again_stays n (one ∷ fds) = record { at = λ handed. (tt, λ reply. (opens_again_stays n fds).at _) }

heals_stay : (n : ℕ) (cells : List (ℕ × Cell)) → Stays n (heals cells)
heals_stay n [] = says n _ _
heals_stay n (one ∷ cells) = record { at = λ handed. (tt, λ reply. (heals_stay n cells).at _) }

indexes_stay : (n count : ℕ) (sets : List ℕ) (cells : List (ℕ × Cell)) → Stays n (indexes count sets cells)
indexes_stay n count [] cells = heals_stay n cells
indexes_stay n count (set ∷ sets) cells = record { at = λ handed. (tt, λ reply. (indexes_stay n count sets (with_cells cells count set (cells_in reply))).at _) }

-- ---- all

abbrev pub AreOn : ℕ → Fop → Type 0
AreOn n f = Each (λ (object : Object). object.set < n) (objects_of f)

pub courses_within : (v : Volume) (names : List (List ℕ)) (kept : Kept) (f : Fop) → 1 ≤ v.root_sets → v.root_sets ≤ v.sets → length names ≡ v.sets → AreOn v.sets f → Stays v.sets (fop_course v names kept f)
courses_within v names kept (fop.Lookup parent name) some within e on = on_name_stays v names kept parent name (λ hashed. lookup_found) some within e (λ hashed h. lookup_ends v.sets parent.gfid name)
courses_within v names kept (fop.Mkdir parent name mode drawn) some within e on = on_name_stays v names kept parent name (λ hashed. mkdir_found v parent.gfid name mode drawn) some within e (λ hashed h. mkdir_ends v parent.gfid name mode drawn (omega arith))
courses_within v names kept (fop.Rmdir parent name) some within e on = on_name_stays v names kept parent name (λ hashed. rmdir_found v parent.gfid name) some within e (λ hashed h. rmdir_ends v parent.gfid name (omega arith))
courses_within v names kept (fop.Create fd parent name mode drawn) some within e on = on_name_stays v names kept parent name (create_found v parent.gfid name mode drawn) some within e (λ hashed h. create_ends v parent.gfid name mode drawn hashed h)
courses_within v names kept (fop.Unlink parent name) some within e on = on_name_stays v names kept parent name (unlink_found v parent.gfid name) some within e (λ hashed h. unlink_ends v parent.gfid name hashed h)
courses_within v names kept (fop.Rename parent name target new_name) some within e on =
    let one : 1 ≤ v.sets = omega arith in
    named_stays v.sets parent name None _
    (look_stays v.sets parent.gfid name names 0 (known_set v kept parent.gfid name) (source_found v parent.gfid name names target new_name (known_set v kept target.gfid new_name)) e (known_below v kept parent.gfid name some within)
    (λ hashed h. source_ends v names e one parent.gfid name target new_name (known_set v kept target.gfid new_name) hashed h (known_below v kept target.gfid new_name some within))
    (λ spans. looks_in parent.gfid name names 0 (source_found v parent.gfid name names target new_name (second_set parent.gfid target.gfid new_name (known_set v kept target.gfid new_name) spans)) (hashed_set spans name))
    (λ whole w. found_stays v.sets parent.gfid name names 0 (source_found v parent.gfid name names target new_name (second_set parent.gfid target.gfid new_name (known_set v kept target.gfid new_name) whole)) (hashed_set whole name) e (hashed_below v.sets whole name w one)
    (source_ends v names e one parent.gfid name target new_name (second_set parent.gfid target.gfid new_name (known_set v kept target.gfid new_name) whole) (hashed_set whole name) (hashed_below v.sets whole name w one)
    (second_below v.sets parent.gfid target.gfid new_name (known_set v kept target.gfid new_name) whole one w (known_below v kept target.gfid new_name some within)))))
courses_within v names kept (fop.Open fd object) some within e on =
    if_stays v.sets _ _ (is_directory object.kind) (says v.sets _ _)
    (record { at = λ handed. (tt, λ reply. number_leads v.sets opened (λ number. says v.sets _ _) (Replied object.set (job.Open fd object.gfid) reply ∷ handed) (number_in reply)) })
courses_within v names kept (fop.Stat object) some within e on =
    if_stays v.sets _ _ (is_directory object.kind) (reads_stay v.sets 0 (meta_cell object.gfid ∷ []) 0 _ dir_stat (λ contents place. says v.sets _ _))
    (reads_stay v.sets object.set (data_cell object.gfid ∷ meta_cell object.gfid ∷ []) 0 false file_stat (λ contents place. says v.sets _ _))
courses_within v names kept (fop.List object) some within e on = if_stays v.sets _ _ (is_directory object.kind) (lists_stay v.sets object.gfid (sets_from v 0) [] None) (says v.sets _ _)
courses_within v names kept (fop.Chmod object mode) some within e on = cell_stays v (home object) _ 0 _ _ (home_below v.sets object (omega arith) on.0)
courses_within v names kept (fop.Truncate object size) some within e on =
    if_stays v.sets _ _ (is_directory object.kind) (says v.sets _ _) (if_stays v.sets _ _ (nat_lt file_limit size) (says v.sets _ _) (cell_stays v object.set _ 0 _ _ on.0))
courses_within v names kept (fop.SetAttr object attr) some within e on = cell_stays v (home object) _ 0 _ _ (home_below v.sets object (omega arith) on.0)
courses_within v names kept (fop.GetAttr object name) some within e on =
    reads_stay v.sets (home object) (meta_cell object.gfid ∷ []) 0 _ (attr_read name) (λ contents place. got (attr_named (attrs_of (first_content contents)) name) place)
  where
    got : (attr : Option Attr) (place : ℕ) → Stays v.sets (attr_value attr place)
    got None place = says v.sets _ _
    got (Some attr) place = says v.sets _ _
courses_within v names kept (fop.DelAttr object name) some within e on =
    reads_stay v.sets (home object) (meta_cell object.gfid ∷ []) 0 _ (attr_seen v object name) (λ contents place. dropped (attr_named (attrs_of (first_content contents)) name) place)
  where
    dropped : (attr : Option Attr) (place : ℕ) → Stays v.sets (drops_attr v object name attr place)
    dropped None place = says v.sets _ _
    dropped (Some attr) place = cell_stays v (home object) _ 0 _ _ (home_below v.sets object (omega arith) on.0)
courses_within v names kept (fop.Read fd object offset count) some within e on =
    if_stays v.sets _ _ (is_directory object.kind) (says v.sets _ _) (reads_stay v.sets object.set (data_cell object.gfid ∷ []) fd false (bytes_read offset count) (λ contents place. says v.sets _ _))
courses_within v names kept (fop.Write fd object offset bytes) some within e on =
    if_stays v.sets _ _ (is_directory object.kind) (says v.sets _ _) (if_stays v.sets _ _ (nat_lt file_limit (offset + length bytes)) (says v.sets _ _) (some_bytes bytes))
  where
    some_bytes : (written : List ℕ) → Stays v.sets (writes_some v object fd offset written)
    some_bytes [] = says v.sets _ _
    some_bytes (first ∷ rest) = cell_stays v object.set _ fd _ _ on.0
courses_within v names kept (fop.Migrate fds) some within e on = opens_again_stays v.sets fds
courses_within v names kept (fop.Heal count) some within e on = indexes_stay v.sets count (sets_from v 0) []
