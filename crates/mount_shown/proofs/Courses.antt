-- Every fop drops a link last, and of the name that it takes away; and what a rename drops before it moves, its move follows.
use Rattle.std.proofs.Common.{ℕ, zero, suc, ◌+◌, ◌-◌, ◌≤◌, ◌==◌, Bool, true, false, List, [], ◌∷◌, ◌++◌, Option, Some, None, Result, Ok, Err, if◌then◌else◌, length, nat_lt, refl, arith}
use Rattle.std.specs.List.{range_with_len}
use Rattle.std.specs.Prelude.{slice_index_or}
use Rattle.dht_linkto.specs.DirNames.{names_in, first_content}
use Rattle.dht_linkto.specs.Search.{Search, search_of, hashed_set, led, set_named}
use Rattle.dht_linkto.specs.declared.found.Found.{Found}
use Rattle.dht_linkto.specs.declared.found.Found.TheVariants as found
use Rattle.dht_linkto.specs.declared.names.DirNames.{DirNames}
use Rattle.dht_layout.specs.Layouts.{even_span}
use Rattle.dht_fops.specs.Courses.{Course, refuses, on_contents, after_read, contents_in, on_names, after_names, on_number, after_change, number_in, after_any}
use Rattle.dht_fops.specs.Courses.Course.{Asks, Ends}
use Rattle.dht_fops.specs.Entries.{birth_job, lookup_found, lists_from, births_from, mkdir_found, create_found, drops_link, unlink_found, empties, rmdir_found}
use Rattle.dht_fops.specs.Fops.{on_name, renames}
use Rattle.dht_fops.specs.Internal.{opens_again, heals, indexes, with_cells, cells_in}
use Rattle.dht_fops.specs.Looks.{Ending, where_named, where_kept, by_item, looks_along, looks_on, looks_in, finds, reads_spans, span_of, seen_on, unseen}
use Rattle.dht_fops.specs.Merges.{merged, real_items}
use Rattle.dht_fops.specs.Objects.{opens, stats, attr_value, gets_attr, drops_attr, dels_attr, reads_bytes, truncates, writes_some, writes}
use Rattle.dht_fops.specs.Renames.{link_of, drops_old_link, adds_link, moves, bears, replaces, changes_names, other_set, target_found, target_ending, looks_for_target, source_at, source_found, second_set}
use Rattle.dht_fops.specs.Volumes.{Kept, known_set, sets_from}
use Rattle.dht_laws.proofs.Arguments.{Renaming, Seen, Source}
use Rattle.dht_fops.specs.declared.volume.Volume.{Volume}
use Rattle.fop_types.specs.Cells.{names_cell}
use Rattle.fop_types.specs.FileBytes.{file_limit}
use Rattle.fop_types.specs.Limits.{max_item_name}
use Rattle.fop_types.specs.Names.{attr_named, has_real_name, item_named, is_directory, is_link, is_same_name}
use Rattle.fop_types.specs.StoreOps.{attrs_of}
use Rattle.fop_types.specs.declared.answers.AppError.TheVariants.{Enoent}
use Rattle.fop_types.specs.declared.answers.FopAnswer.{FopAnswer}
use Rattle.fop_types.specs.declared.answers.IoError.{IoError}
use Rattle.fop_types.specs.declared.cells.Cell.{Cell}
use Rattle.fop_types.specs.declared.cells.Gfid.{Gfid}
use Rattle.fop_types.specs.declared.contents.Attr.{Attr}
use Rattle.fop_types.specs.declared.contents.Content.{Content}
use Rattle.fop_types.specs.declared.contents.Item.{Item}
use Rattle.fop_types.specs.declared.contents.Span.{Span}
use Rattle.fop_types.specs.declared.fops.Fop.{Fop}
use Rattle.fop_types.specs.declared.fops.Fop.TheVariants as fop
use Rattle.fop_types.specs.declared.fops.Object.{Object}
use Rattle.fop_types.specs.declared.fops.OpenFd.{OpenFd}
use Rattle.fop_types.specs.declared.jobs.Job.TheVariants as job
use Rattle.fop_types.specs.declared.jobs.SetReply.{SetReply}
use Rattle.fop_types.specs.declared.store_ops.StoreOp.TheVariants as op
use Rattle.mount_shown.specs.Dropping.{TakesAway, IsRenameThen, DropsInTurn, FopsDropInTurn}

module _ (f : Fop) where
  -- ---- one job

  contents_lead : (n : ℕ) (next : List (Option Content) → ℕ → Course) (read : Result (List (Option Content) × ℕ) IoError) → ((contents : List (Option Content)) (place : ℕ) → DropsInTurn f (next contents place)) → DropsInTurn f (on_contents next read)
  contents_lead n next (Ok read) k = k read.0 read.1
  contents_lead n next (Err error) k = tt

  names_lead : (n : ℕ) (next : DirNames → Course) (read : Result DirNames IoError) → ((shown : DirNames) → DropsInTurn f (next shown)) → DropsInTurn f (on_names next read)
  names_lead n next (Ok shown) k = k shown
  names_lead n next (Err error) k = tt

  number_leads : (n : ℕ) (next : Option ℕ → Course) (read : Result (Option ℕ) IoError) → ((number : Option ℕ) → DropsInTurn f (next number)) → DropsInTurn f (on_number next read)
  number_leads n next (Ok number) k = k number
  number_leads n next (Err error) k = tt

  -- what is left after one job that is no birth and is heeded; the job itself does not matter
  abbrev IsHeeded : ℕ → (SetReply → Course) → Type 0
  IsHeeded n next = Unit {0} × ((reply : SetReply) → DropsInTurn f (next reply))

  read_keeps : (n : ℕ) (next : List (Option Content) → ℕ → Course) → ((contents : List (Option Content)) (place : ℕ) → DropsInTurn f (next contents place)) → IsHeeded n (after_read next)
  read_keeps n next k = (tt, λ reply. contents_lead n next (contents_in reply) k)

  names_keep : (n : ℕ) (next : DirNames → Course) → ((shown : DirNames) → DropsInTurn f (next shown)) → IsHeeded n (after_names next)
  names_keep n next k = (tt, λ reply. names_lead n next (names_in reply) k)

  change_keeps : (n : ℕ) (next : Option ℕ → Course) → ((number : Option ℕ) → DropsInTurn f (next number)) → IsHeeded n (after_change next)
  change_keeps n next k = (tt, λ reply. number_leads n next (number_in reply) k)

  link_keeps : (set : ℕ) (cells : List Cell) (fd : ℕ) (parent : Gfid) (item : Item) (mode : ℕ) (span : Option Span) (next : Course) → DropsInTurn f next → DropsInTurn f (Asks set (job.Change cells fd (op.AddName parent item mode span) None) (after_any next))
  link_keeps set cells fd parent item mode span next k = (tt, λ reply. k)

  birth_keeps : (n set : ℕ) (gfid : Gfid) (span : Option Span) (next : Option ℕ → Course) → n ≤ set → ((number : Option ℕ) → DropsInTurn f (next number)) → DropsInTurn f (Asks set (birth_job gfid span) (after_change next))
  birth_keeps n set gfid span next h k = (tt, λ reply. number_leads (set + 1) next (number_in reply) k)

  if_keeps : (n : ℕ) (one other : Course) (b : Bool) → DropsInTurn f one → DropsInTurn f other → DropsInTurn f (if b then one else other)
  if_keeps n one other true k m = k
  if_keeps n one other false k m = m

  named_keeps : (parent : Object) (name : List ℕ) (place : Option ℕ) (next : Course) → DropsInTurn f next → DropsInTurn f (where_named parent name place next)
  named_keeps parent name place next k = if_keeps 0 _ _ (is_directory parent.kind) (if_keeps 0 _ _ (nat_lt max_item_name (length name)) tt k) tt

  -- ---- looks

  abbrev EndsKeeping : Ending → Type 0
  EndsKeeping ending = (result : Found) (seen : Seen) → DropsInTurn f (ending result seen)

  item_keeps : (set : ℕ) (seen : Seen) (ending : Ending) (rest : Course) (item : Option Item) → EndsKeeping ending → DropsInTurn f rest → DropsInTurn f (by_item set seen ending rest item)
  item_keeps set seen ending rest None ends k = k
  item_keeps set seen ending rest (Some item) ends k = if_keeps 0 rest (ending (found.Item set item.gfid item.kind) seen) (is_link item.kind) k (ends (found.Item set item.gfid item.kind) seen)

  -- the names of one more set, and then the rest of the look
  shown_keeps : (set : ℕ) (name : List ℕ) (seen : Seen) (ending : Ending) (later : Course) (shown : DirNames) → EndsKeeping ending → DropsInTurn f later → DropsInTurn f (where_kept shown (by_item set seen ending later (item_named shown.items name)))
  shown_keeps set name seen ending later shown ends l =
      if_keeps 0 (refuses Enoent (Some shown.place)) (by_item set seen ending later (item_named shown.items name)) shown.removed tt (item_keeps set seen ending later (item_named shown.items name) ends l)

  abbrev along_next : Gfid → List ℕ → ℕ → ℕ → List ℕ → Seen → Ending → DirNames → Course
  along_next dir name watched set sets seen ending shown =
      where_kept shown (by_item set (seen_on watched set seen shown) ending (looks_along dir name watched sets (seen_on watched set seen shown) ending) (item_named shown.items name))

  along_keeps : (dir : Gfid) (name : List ℕ) (watched : ℕ) (sets : List ℕ) (seen : Seen) (ending : Ending) → EndsKeeping ending → DropsInTurn f (looks_along dir name watched sets seen ending)
  along_keeps dir name watched [] seen ending ends = ends found.Absent seen
  along_keeps dir name watched (set ∷ sets) seen ending ends =
      names_keep 0 (along_next dir name watched set sets seen ending)
      (λ shown. shown_keeps set name (seen_on watched set seen shown) ending (looks_along dir name watched sets (seen_on watched set seen shown) ending) shown ends (along_keeps dir name watched sets (seen_on watched set seen shown) ending ends))

  on_keeps : (s : Search) (watched : ℕ) (seen : Seen) (ending : Ending) (item : Option Item) → EndsKeeping ending → DropsInTurn f (looks_on s watched seen ending item)
  on_keeps s watched seen ending None ends = along_keeps s.parent s.name watched s.rest seen ending ends
  on_keeps s watched seen ending (Some item) ends =
      if_keeps 0 _ (ending (found.Item s.hashed item.gfid item.kind) seen) (is_link item.kind)
      (along_keeps s.parent s.name watched (led s.hashed s.rest (set_named s.names item.target)) (record seen { has_link = true }) ending ends) (ends (found.Item s.hashed item.gfid item.kind) seen)

  abbrev first_next : Search → ℕ → Ending → DirNames → Course
  first_next s watched ending shown = where_kept shown (looks_on s watched (seen_on watched s.hashed unseen shown) ending (item_named shown.items s.name))

  looks_keeps : (dir : Gfid) (name : List ℕ) (names : List (List ℕ)) (watched : ℕ) (ending : ℕ → Ending) (hashed : ℕ) → EndsKeeping (ending hashed) → DropsInTurn f (looks_in dir name names watched ending hashed)
  looks_keeps dir name names watched ending hashed ends =
      names_keep 0 (first_next (search_of dir name names hashed) watched (ending hashed))
      (λ shown. if_keeps 0 (refuses Enoent (Some shown.place)) (looks_on (search_of dir name names hashed) watched (seen_on watched hashed unseen shown) (ending hashed) (item_named shown.items name)) shown.removed tt
      (on_keeps (search_of dir name names hashed) watched (seen_on watched hashed unseen shown) (ending hashed) (item_named shown.items name) ends))

  spans_keeps : (dir : Gfid) (sets : List ℕ) (spans : List (Option Span)) (next : List (Option Span) → Course) → ((whole : List (Option Span)) → DropsInTurn f (next whole)) → DropsInTurn f (reads_spans dir sets spans next)
  spans_keeps dir [] spans next k = k spans
  spans_keeps dir (set ∷ sets) spans next k =
      read_keeps 0 (λ contents place. reads_spans dir sets (spans ++ span_of (first_content contents) ∷ []) next) (λ contents place. spans_keeps dir sets (spans ++ span_of (first_content contents) ∷ []) next k)

  finds_keeps : (count : ℕ) (dir : Gfid) (known : Option ℕ) (next : ℕ → Course) (after : List (Option Span) → Course) → ((set : ℕ) → DropsInTurn f (next set)) → ((whole : List (Option Span)) → DropsInTurn f (after whole)) → DropsInTurn f (finds count dir known next after)
  finds_keeps count dir (Some set) next after k m = k set
  finds_keeps count dir None next after k m = spans_keeps dir (range_with_len 0 count) [] after m

  on_name_keeps : (v : Volume) (names : List (List ℕ)) (kept : Kept) (parent : Object) (name : List ℕ) (ending : ℕ → Ending) → ((hashed : ℕ) → EndsKeeping (ending hashed)) → DropsInTurn f (on_name v names kept parent name ending)
  on_name_keeps v names kept parent name ending ends =
      named_keeps parent name None _
      (finds_keeps (length names) parent.gfid (known_set v kept parent.gfid name) _ _
      (λ set. looks_keeps parent.gfid name names 0 ending set (ends set))
      (λ whole. looks_keeps parent.gfid name names 0 ending (hashed_set whole name) (ends (hashed_set whole name))))

  -- ---- names of a directory

  lookup_keeps : EndsKeeping lookup_found
  lookup_keeps (found.Item set gfid kind) seen = tt
  lookup_keeps found.Absent seen = tt
  lookup_keeps (found.Io error) seen = tt

  lists_keeps : (dir : Gfid) (sets : List ℕ) (names : List Item) (place : Option ℕ) → DropsInTurn f (lists_from dir sets names place)
  lists_keeps dir [] names place = tt
  lists_keeps dir (set ∷ sets) names place = names_keep 0 _ (λ shown. if_keeps 0 _ _ shown.removed tt (lists_keeps dir sets (merged names (real_items shown.items)) (Some shown.place)))

  births_keeps : (v : Volume) (parent : Gfid) (name : List ℕ) (mode : ℕ) (drawn : Gfid) (k first least : ℕ) → least ≤ first → DropsInTurn f (births_from v parent name mode drawn (range_with_len first k))
  births_keeps v parent name mode drawn zero first least h = change_keeps least _ (λ number. tt)
  births_keeps v parent name mode drawn (suc k) first least h =
      birth_keeps least first drawn (Some (even_span v.sets first)) (λ number. births_from v parent name mode drawn (range_with_len (first + 1) k)) h
      (λ number. births_keeps v parent name mode drawn k (first + 1) (first + 1) (omega arith))

  mkdir_keeps : (v : Volume) (parent : Gfid) (name : List ℕ) (mode : ℕ) (drawn : Gfid) → EndsKeeping (mkdir_found v parent name mode drawn)
  mkdir_keeps v parent name mode drawn (found.Item set gfid kind) seen = tt
  mkdir_keeps v parent name mode drawn found.Absent seen = births_keeps v parent name mode drawn (v.sets - 1) 1 0 (omega arith)
  mkdir_keeps v parent name mode drawn (found.Io error) seen = tt

  create_keeps : (v : Volume) (parent : Gfid) (name : List ℕ) (mode : ℕ) (drawn : Gfid) (hashed : ℕ) → EndsKeeping (create_found v parent name mode drawn hashed)
  create_keeps v parent name mode drawn hashed (found.Item set gfid kind) seen = tt
  create_keeps v parent name mode drawn hashed found.Absent seen = change_keeps 0 _ (λ number. tt)
  create_keeps v parent name mode drawn hashed (found.Io error) seen = tt

  drop_keeps : (n : ℕ) (parent : Gfid) (name : List ℕ) (hashed : ℕ) (has_link : Bool) (number : Option ℕ) → TakesAway f parent name → DropsInTurn f (drops_link parent name hashed has_link number)
  drop_keeps n parent name hashed true number d = ((d, λ reply. tt), λ reply. tt)
  drop_keeps n parent name hashed false number d = tt

  unlink_keeps : (v : Volume) (parent : Gfid) (name : List ℕ) (hashed : ℕ) → TakesAway f parent name → ((next : SetReply → Course) → IsRenameThen f next) → EndsKeeping (unlink_found v parent name hashed)
  unlink_keeps v parent name hashed d w (found.Item set gfid kind) seen = if_keeps 0 _ _ (is_directory kind) tt (w _, λ reply. number_leads 0 _ (number_in reply) (λ number. drop_keeps 0 parent name hashed seen.has_link number d))
  unlink_keeps v parent name hashed d w found.Absent seen = tt
  unlink_keeps v parent name hashed d w (found.Io error) seen = tt

  empties_keeps : (v : Volume) (parent : Gfid) (name : List ℕ) (gfid : Gfid) (sets : List ℕ) → DropsInTurn f (empties v parent name gfid sets)
  empties_keeps v parent name gfid [] = change_keeps 0 _ (λ number. tt)
  empties_keeps v parent name gfid (set ∷ sets) = names_keep 0 _ (λ shown. if_keeps 0 _ _ (has_real_name shown.items) tt (empties_keeps v parent name gfid sets))

  rmdir_keeps : (v : Volume) (parent : Gfid) (name : List ℕ) → EndsKeeping (rmdir_found v parent name)
  rmdir_keeps v parent name (found.Item set gfid kind) seen = if_keeps 0 _ _ (is_directory kind) (empties_keeps v parent name gfid (sets_from v 0)) tt
  rmdir_keeps v parent name found.Absent seen = tt
  rmdir_keeps v parent name (found.Io error) seen = tt

  -- ---- rename

  abbrev Takes : Source → Type 0
  Takes source = TakesAway f source.parent source.name

  -- the move follows what is dropped
  abbrev Follows : Volume → Renaming → Type 0
  Follows v r = (copy : Bool) → IsRenameThen f (after_change (λ number. bears v r copy))

  abbrev FollowsFrom : Volume → Source → Gfid → List ℕ → Type 0
  FollowsFrom v source target new_name = (hashed : ℕ) (set_name : List ℕ) → Follows v (record { source = source; target = target; new_name = new_name; hashed = hashed; set_name = set_name })

  abbrev FollowsAll : Volume → Gfid → List ℕ → Gfid → List ℕ → Type 0
  FollowsAll v parent name target new_name = (hashed : ℕ) (has_link : Bool) (set : ℕ) (gfid : Gfid) → FollowsFrom v (source_at parent name hashed has_link set gfid) target new_name

  adds_link_keeps : (n : ℕ) (r : Renaming) (number : Option ℕ) → Takes r.source → DropsInTurn f (adds_link r number)
  adds_link_keeps n r number d =
      if_keeps n _ _ (r.hashed == r.source.set) (drop_keeps n r.source.parent r.source.name r.source.hashed r.source.has_link number d)
      (link_keeps r.hashed (names_cell r.target ∷ []) 0 r.target (link_of r) 0 None (drops_old_link r.source number) (drop_keeps n r.source.parent r.source.name r.source.hashed r.source.has_link number d))

  moves_keeps : (n : ℕ) (v : Volume) (r : Renaming) → Takes r.source → DropsInTurn f (moves v r)
  moves_keeps n v r d = change_keeps n _ (λ number. adds_link_keeps n r number d)

  bears_keeps : (v : Volume) (r : Renaming) (copy : Bool) → Takes r.source → DropsInTurn f (bears v r copy)
  bears_keeps v r true d = moves_keeps 0 v r d
  bears_keeps v r false d = birth_keeps 0 r.source.set r.target None (λ number. moves v r) (omega arith) (λ number. moves_keeps (r.source.set + 1) v r d)

  replaces_keeps : (v : Volume) (r : Renaming) (replaced : Option ℕ) (copy : Bool) → Takes r.source → Follows v r → DropsInTurn f (replaces v r replaced copy)
  replaces_keeps v r None copy d w = bears_keeps v r copy d
  replaces_keeps v r (Some set) copy d w = (w copy, λ reply. number_leads 0 (λ number. bears v r copy) (number_in reply) (λ number. bears_keeps v r copy d))

  changes_keeps : (v : Volume) (r : Renaming) (replaced : Option ℕ) (copy : Option Bool) → Takes r.source → Follows v r → DropsInTurn f (changes_names v r replaced copy)
  changes_keeps v r replaced (Some copy) d w = replaces_keeps v r replaced copy d w
  changes_keeps v r replaced None d w = names_keep 0 _ (λ shown. replaces_keeps v r replaced shown.has_copy d w)

  target_keeps : (v : Volume) (r : Renaming) → Takes r.source → Follows v r → EndsKeeping (target_found v r)
  target_keeps v r d w (found.Item set gfid kind) seen = if_keeps 0 _ _ (is_directory kind) tt (changes_keeps v r (other_set set r.source.set) seen.copy d w)
  target_keeps v r d w found.Absent seen = changes_keeps v r None seen.copy d w
  target_keeps v r d w (found.Io error) seen = tt

  target_ends_keeping : (v : Volume) (source : Source) (target : Gfid) (new_name : List ℕ) (names : List (List ℕ)) (hashed : ℕ) → Takes source → FollowsFrom v source target new_name → EndsKeeping (target_ending v source target new_name names hashed)
  target_ends_keeping v source target new_name names hashed d w =
      target_keeps v (record { source = source; target = target; new_name = new_name; hashed = hashed; set_name = slice_index_or names source.set [] }) d (w hashed (slice_index_or names source.set []))

  looks_for_target_keeps : (v : Volume) (source : Source) (target : Gfid) (new_name : List ℕ) (names : List (List ℕ)) (second : Option ℕ) → Takes source → FollowsFrom v source target new_name → DropsInTurn f (looks_for_target v source target new_name names second)
  looks_for_target_keeps v source target new_name names second d w =
      finds_keeps (length names) target second _ _
      (λ set. looks_keeps target new_name names source.set (target_ending v source target new_name names) set (target_ends_keeping v source target new_name names set d w))
      (λ whole. looks_keeps target new_name names source.set (target_ending v source target new_name names) (hashed_set whole new_name) (target_ends_keeping v source target new_name names (hashed_set whole new_name) d w))

  source_keeps : (v : Volume) (parent : Gfid) (name : List ℕ) (names : List (List ℕ)) (target : Object) (new_name : List ℕ) (second : Option ℕ) (hashed : ℕ) → TakesAway f parent name → FollowsAll v parent name target.gfid new_name → EndsKeeping (source_found v parent name names target new_name second hashed)
  source_keeps v parent name names target new_name second hashed d w (found.Item set gfid kind) seen =
      if_keeps 0 _ _ (is_directory kind) tt
      (named_keeps target new_name (Some seen.place) _
      (if_keeps 0 _ _ (is_same_name parent name target.gfid new_name) tt (looks_for_target_keeps v (source_at parent name hashed seen.has_link set gfid) target.gfid new_name names second d (w hashed seen.has_link set gfid))))
  source_keeps v parent name names target new_name second hashed d w found.Absent seen = tt
  source_keeps v parent name names target new_name second hashed d w (found.Io error) seen = tt

  renames_keeps : (v : Volume) (names : List (List ℕ)) (kept : Kept) (parent : Object) (name : List ℕ) (target : Object) (new_name : List ℕ) → TakesAway f parent.gfid name → FollowsAll v parent.gfid name target.gfid new_name → DropsInTurn f (renames v names kept parent name target new_name)
  renames_keeps v names kept parent name target new_name d w =
      named_keeps parent name None _
      (finds_keeps (length names) parent.gfid (known_set v kept parent.gfid name) _ _
      (λ set. looks_keeps parent.gfid name names 0 (source_found v parent.gfid name names target new_name (known_set v kept target.gfid new_name)) set (source_keeps v parent.gfid name names target new_name (known_set v kept target.gfid new_name) set d w))
      (λ whole. looks_keeps parent.gfid name names 0 (source_found v parent.gfid name names target new_name (second_set parent.gfid target.gfid new_name (known_set v kept target.gfid new_name) whole)) (hashed_set whole name)
      (source_keeps v parent.gfid name names target new_name (second_set parent.gfid target.gfid new_name (known_set v kept target.gfid new_name) whole) (hashed_set whole name) d w)))

  -- ---- objects

  cell_keeps : (answer : FopAnswer) → IsHeeded 0 (after_change (Ends answer))
  cell_keeps answer = change_keeps 0 (Ends answer) (λ number. tt)

  opens_keeps : (object : Object) (fd : ℕ) → DropsInTurn f (opens object fd)
  opens_keeps object fd = if_keeps 0 _ _ (is_directory object.kind) tt (tt, λ reply. number_leads 0 _ (number_in reply) (λ number. tt))

  stats_keeps : (object : Object) → DropsInTurn f (stats object)
  stats_keeps object = if_keeps 0 _ _ (is_directory object.kind) (read_keeps 0 _ (λ contents place. tt)) (read_keeps 0 _ (λ contents place. tt))

  value_keeps : (attr : Option Attr) (place : ℕ) → DropsInTurn f (attr_value attr place)
  value_keeps None place = tt
  value_keeps (Some attr) place = tt

  gets_keeps : (object : Object) (name : List ℕ) → DropsInTurn f (gets_attr object name)
  gets_keeps object name = read_keeps 0 _ (λ contents place. value_keeps (attr_named (attrs_of (first_content contents)) name) place)

  attr_drop_keeps : (v : Volume) (object : Object) (name : List ℕ) (attr : Option Attr) (place : ℕ) → DropsInTurn f (drops_attr v object name attr place)
  attr_drop_keeps v object name None place = tt
  attr_drop_keeps v object name (Some attr) place = cell_keeps _

  dels_keeps : (v : Volume) (object : Object) (name : List ℕ) → DropsInTurn f (dels_attr v object name)
  dels_keeps v object name = read_keeps 0 _ (λ contents place. attr_drop_keeps v object name (attr_named (attrs_of (first_content contents)) name) place)

  reads_keeps : (object : Object) (fd offset count : ℕ) → DropsInTurn f (reads_bytes object fd offset count)
  reads_keeps object fd offset count = if_keeps 0 _ _ (is_directory object.kind) tt (read_keeps 0 _ (λ contents place. tt))

  truncates_keeps : (v : Volume) (object : Object) (size : ℕ) → DropsInTurn f (truncates v object size)
  truncates_keeps v object size = if_keeps 0 _ _ (is_directory object.kind) tt (if_keeps 0 _ _ (nat_lt file_limit size) tt (cell_keeps _))

  some_keeps : (v : Volume) (object : Object) (fd offset : ℕ) (bytes : List ℕ) → DropsInTurn f (writes_some v object fd offset bytes)
  some_keeps v object fd offset [] = tt
  some_keeps v object fd offset (first ∷ rest) = cell_keeps _

  writes_keeps : (v : Volume) (object : Object) (fd offset : ℕ) (bytes : List ℕ) → DropsInTurn f (writes v object fd offset bytes)
  writes_keeps v object fd offset bytes = if_keeps 0 _ _ (is_directory object.kind) tt (if_keeps 0 _ _ (nat_lt file_limit (offset + length bytes)) tt (some_keeps v object fd offset bytes))

  -- ---- fops of the mount itself

  opens_again_keeps : (fds : List OpenFd) → DropsInTurn f (opens_again fds)
  opens_again_keeps [] = tt
  opens_again_keeps (one ∷ fds) = (tt, λ reply. opens_again_keeps fds)

  heals_keeps : (cells : List (ℕ × Cell)) → DropsInTurn f (heals cells)
  heals_keeps [] = tt
  heals_keeps (one ∷ cells) = (tt, λ reply. heals_keeps cells)

  indexes_keeps : (count : ℕ) (sets : List ℕ) (cells : List (ℕ × Cell)) → DropsInTurn f (indexes count sets cells)
  indexes_keeps count [] cells = heals_keeps cells
  indexes_keeps count (set ∷ sets) cells = (tt, λ reply. indexes_keeps count sets (with_cells cells count set (cells_in reply)))

-- ---- all

pub fops_drop_in_turn : FopsDropInTurn
fops_drop_in_turn v names kept (fop.Lookup parent name) = on_name_keeps (fop.Lookup parent name) v names kept parent name _ (λ hashed. lookup_keeps (fop.Lookup parent name))
fops_drop_in_turn v names kept (fop.Mkdir parent name mode drawn) = on_name_keeps (fop.Mkdir parent name mode drawn) v names kept parent name _ (λ hashed. mkdir_keeps (fop.Mkdir parent name mode drawn) v parent.gfid name mode drawn)
fops_drop_in_turn v names kept (fop.Rmdir parent name) = on_name_keeps (fop.Rmdir parent name) v names kept parent name _ (λ hashed. rmdir_keeps (fop.Rmdir parent name) v parent.gfid name)
fops_drop_in_turn v names kept (fop.Create fd parent name mode drawn) = on_name_keeps (fop.Create fd parent name mode drawn) v names kept parent name _ (λ hashed. create_keeps (fop.Create fd parent name mode drawn) v parent.gfid name mode drawn hashed)
fops_drop_in_turn v names kept (fop.Unlink parent name) = on_name_keeps (fop.Unlink parent name) v names kept parent name _ (λ hashed. unlink_keeps (fop.Unlink parent name) v parent.gfid name hashed (refl, refl) (λ next. tt))
fops_drop_in_turn v names kept (fop.Rename parent name target new_name) = renames_keeps (fop.Rename parent name target new_name) v names kept parent name target new_name (refl, refl) follows
  where
    follows : FollowsAll (fop.Rename parent name target new_name) v parent.gfid name target.gfid new_name
    follows hashed has_link set gfid new_hashed set_name true = ((refl, refl), (refl, refl))
    follows hashed has_link set gfid new_hashed set_name false = ((refl, refl), (refl, refl))
fops_drop_in_turn v names kept (fop.Open fd object) = opens_keeps (fop.Open fd object) object fd
fops_drop_in_turn v names kept (fop.Stat object) = stats_keeps (fop.Stat object) object
fops_drop_in_turn v names kept (fop.List object) = if_keeps (fop.List object) 0 _ _ (is_directory object.kind) (lists_keeps (fop.List object) object.gfid (sets_from v 0) [] None) tt
fops_drop_in_turn v names kept (fop.Chmod object mode) = cell_keeps (fop.Chmod object mode) _
fops_drop_in_turn v names kept (fop.Truncate object size) = truncates_keeps (fop.Truncate object size) v object size
fops_drop_in_turn v names kept (fop.SetAttr object attr) = cell_keeps (fop.SetAttr object attr) _
fops_drop_in_turn v names kept (fop.GetAttr object name) = gets_keeps (fop.GetAttr object name) object name
fops_drop_in_turn v names kept (fop.DelAttr object name) = dels_keeps (fop.DelAttr object name) v object name
fops_drop_in_turn v names kept (fop.Read fd object offset count) = reads_keeps (fop.Read fd object offset count) object fd offset count
fops_drop_in_turn v names kept (fop.Write fd object offset bytes) = writes_keeps (fop.Write fd object offset bytes) v object fd offset bytes
fops_drop_in_turn v names kept (fop.Migrate fds) = opens_again_keeps (fop.Migrate fds) fds
fops_drop_in_turn v names kept (fop.Heal count) = indexes_keeps (fop.Heal count) count (sets_from v 0) []
