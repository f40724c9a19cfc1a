-- A fop changes by its own parts: wherever the replies lead, a change with an effect is a part that was not asked for before,
-- after the earlier parts were entered, and a change without one adds or drops a link.
use Rattle.std.proofs.Common.{◌≡◌, ℕ, ◌+◌, ◌≤◌, ◌==◌, Bool, true, false, refl, List, [], ◌∷◌, Option, Some, None, Result, Ok, Err, if◌then◌else◌, length, nat_lt, arith}
use Rattle.std.specs.List.{range_with_len}
use Rattle.dht_layout.specs.Layouts.{even_span}
use Rattle.dht_linkto.specs.DirNames.{names_job, names_in, first_content}
use Rattle.dht_linkto.specs.Search.{Search, search_of, hashed_set, led, set_named}
use Rattle.dht_linkto.specs.declared.found.Found.{Found}
use Rattle.dht_linkto.specs.declared.found.Found.TheVariants as found
use Rattle.dht_linkto.specs.declared.names.DirNames.{DirNames}
use Rattle.dht_fops.specs.Answers.{flat_op, change_of}
use Rattle.dht_fops.specs.Courses.{Course, on_names, after_names, on_contents, after_read, contents_in, on_number, after_change, number_in, after_any, changes}
use Rattle.dht_fops.specs.Courses.Course.{Asks, Ends}
use Rattle.dht_fops.specs.Entries.{birth_job, lookup_found, lists_from, mkdir_found, births_from, create_found, drops_link, unlink_found, rmdir_found, empties}
use Rattle.dht_fops.specs.Fops.{fop_course, on_name}
use Rattle.dht_fops.specs.Handed.{Handed, Always, AnyHold, AnyAnswer}
use Rattle.dht_fops.specs.Handed.Event.{Replied, Held}
use Rattle.dht_fops.specs.Internal.{opens_again, heals, indexes, with_cells, cells_in}
use Rattle.dht_fops.specs.Looks.{Ending, where_named, where_kept, by_item, looks_along, looks_on, looks_in, finds, reads_spans, seen_on, unseen}
use Rattle.dht_fops.specs.Merges.{merged, real_items}
use Rattle.dht_fops.specs.Objects.{home, changes_cell, opened, dir_stat, file_stat, attr_read, attr_value, attr_seen, drops_attr, bytes_read, writes_some}
use Rattle.dht_fops.specs.Renames.{source_found, source_at, looks_for_target, target_ending, target_found, changes_names, replaces, bears, moves, adds_link, drops_old_link, second_set, other_set, link_of}
use Rattle.dht_fops.specs.Volumes.{Kept, known_set, sets_from, entry}
use Rattle.dht_fops.specs.declared.volume.Volume.{Volume}
use Rattle.fop_types.specs.Cells.{data_cell, meta_cell, names_cell}
use Rattle.fop_types.specs.FileBytes.{file_limit}
use Rattle.fop_types.specs.Flat.{item_of}
use Rattle.fop_types.specs.Names.{is_link, is_directory, is_same_name, attr_named, has_real_name}
use Rattle.fop_types.specs.Limits.{max_item_name}
use Rattle.fop_types.specs.StoreOps.{attrs_of, both_names}
use Rattle.fop_types.specs.declared.answers.Answer.TheVariants as answer
use Rattle.fop_types.specs.declared.answers.FopAnswer.{FopAnswer}
use Rattle.fop_types.specs.declared.answers.FopAnswer.TheVariants as answers
use Rattle.fop_types.specs.declared.answers.IoError.{IoError}
use Rattle.fop_types.specs.declared.cells.Cell.{Cell}
use Rattle.fop_types.specs.declared.cells.Gfid.{Gfid}
use Rattle.fop_types.specs.declared.cells.Kind.TheVariants as kind
use Rattle.fop_types.specs.declared.contents.Attr.{Attr}
use Rattle.fop_types.specs.declared.contents.Content.{Content}
use Rattle.fop_types.specs.declared.contents.Item.{Item}
use Rattle.fop_types.specs.declared.contents.Span.{Span}
use Rattle.fop_types.specs.declared.flat.FlatOp.{FlatOp}
use Rattle.fop_types.specs.declared.flat.FlatOp.TheVariants as flat
use Rattle.fop_types.specs.declared.fops.Fop.{Fop}
use Rattle.fop_types.specs.declared.fops.Fop.TheVariants as fop
use Rattle.fop_types.specs.declared.fops.Object.{Object}
use Rattle.fop_types.specs.declared.fops.OpenFd.{OpenFd}
use Rattle.fop_types.specs.declared.history.Entry.{Entry}
use Rattle.fop_types.specs.declared.jobs.Job.{Job}
use Rattle.fop_types.specs.declared.jobs.Job.TheVariants as job
use Rattle.fop_types.specs.declared.jobs.SetReply.{SetReply}
use Rattle.fop_types.specs.declared.jobs.SetReply.TheVariants as reply
use Rattle.fop_types.specs.declared.store_ops.StoreOp.{StoreOp}
use Rattle.fop_types.specs.declared.store_ops.StoreOp.TheVariants as op
use Rattle.mount_laws.specs.Effects.{part_of, DidNotFail, AreEarlier, IsOfLink, IsOnFirst, IsOwnJob}
use Rattle.mount_laws.proofs.Arguments.{Seen, Source, Renaming, renaming}

-- ---- earlier parts

abbrev pub IsOwn : ℕ → Fop → Handed → ℕ → Job → Type 0
IsOwn call f handed set asked = IsOwnJob call f handed set asked

-- wherever the replies lead, where only earlier parts than this were asked for, and did not fail
pub record Owns (call : ℕ) (f : Fop) (part : ℕ) (course : Course) : Type 0 where
  pub at : (handed : Handed) → AreEarlier handed part → Always (IsOwn call f) AnyHold AnyAnswer handed course

earlier_event : (event : Handed) (a b : ℕ) → a ≤ b → AreEarlier event a → AreEarlier event b
earlier_event [] a b h e = tt
earlier_event (Replied set (job.Change cells fd o (Some one)) shown ∷ handed) a b h e = ((let less = e.0.0 in omega (arith, h, less), e.0.1), earlier_event handed a b h e.1)
earlier_event (Replied set (job.Change cells fd o None) shown ∷ handed) a b h e = (tt, earlier_event handed a b h e.1)
earlier_event (Replied set (job.Read cells fd dir) shown ∷ handed) a b h e = (tt, earlier_event handed a b h e.1)
earlier_event (Replied set (job.Birth cells o) shown ∷ handed) a b h e = (tt, earlier_event handed a b h e.1)
earlier_event (Replied set (job.Open fd gfid) shown ∷ handed) a b h e = (tt, earlier_event handed a b h e.1)
earlier_event (Replied set job.Index shown ∷ handed) a b h e = (tt, earlier_event handed a b h e.1)
earlier_event (Replied set (job.Heal cell) shown ∷ handed) a b h e = (tt, earlier_event handed a b h e.1)
earlier_event (Held dir ∷ handed) a b h e = (tt, earlier_event handed a b h e.1)

module _ (call : ℕ) (f : Fop) where
  -- ---- courses

  ends : (k : ℕ) (a : FopAnswer) (place : Option ℕ) → Owns call f k (Ends a place)
  ends k a place = record { at = λ handed e. tt }

  if_owns : (k : ℕ) (one other : Course) (b : Bool) → Owns call f k one → Owns call f k other → Owns call f k (if b then one else other)
  if_owns k one other true g h = g
  if_owns k one other false g h = h

  more : (k l : ℕ) (course : Course) → k ≤ l → Owns call f l course → Owns call f k course
  more k l course h o = record { at = λ handed e. o.at handed (earlier_event handed k l h e) }

  contents_lead : (k : ℕ) (next : List (Option Content) → ℕ → Course) → ((contents : List (Option Content)) (place : ℕ) → Owns call f k (next contents place))
      → (handed : Handed) → AreEarlier handed k → (read : Result (List (Option Content) × ℕ) IoError) → Always (IsOwn call f) AnyHold AnyAnswer handed (on_contents next read)
  contents_lead k next o handed e (Ok read) = (o read.0 read.1).at handed e
  contents_lead k next o handed e (Err error) = tt

  names_lead : (k : ℕ) (next : DirNames → Course) → ((shown : DirNames) → Owns call f k (next shown))
      → (handed : Handed) → AreEarlier handed k → (read : Result DirNames IoError) → Always (IsOwn call f) AnyHold AnyAnswer handed (on_names next read)
  names_lead k next o handed e (Ok shown) = (o shown).at handed e
  names_lead k next o handed e (Err error) = tt

  number_leads : (k : ℕ) (next : Option ℕ → Course) → ((number : Option ℕ) → Owns call f k (next number))
      → (handed : Handed) → AreEarlier handed k → (read : Result (Option ℕ) IoError) → Always (IsOwn call f) AnyHold AnyAnswer handed (on_number next read)
  number_leads k next o handed e (Ok number) = (o number).at handed e
  number_leads k next o handed e (Err error) = tt

  reads : (k set : ℕ) (cells : List Cell) (fd : ℕ) (dir : Bool) (next : List (Option Content) → ℕ → Course) → ((contents : List (Option Content)) (place : ℕ) → Owns call f k (next contents place)) → Owns call f k (Asks set (job.Read cells fd dir) (after_read next))
  reads k set cells fd dir next o = record { at = λ handed e. (tt, λ shown. contents_lead k next o (Replied set (job.Read cells fd dir) shown ∷ handed) (tt, e) (contents_in shown)) }

  names : (k set : ℕ) (dir : Gfid) (next : DirNames → Course) → ((shown : DirNames) → Owns call f k (next shown)) → Owns call f k (Asks set (names_job dir) (after_names next))
  names k set dir next o = record { at = λ handed e. (tt, λ shown. names_lead k next o (Replied set (names_job dir) shown ∷ handed) (tt, e) (names_in shown)) }

  births : (k set : ℕ) (gfid : Gfid) (span : Option Span) (next : Option ℕ → Course) → ((number : Option ℕ) → Owns call f k (next number)) → Owns call f k (Asks set (birth_job gfid span) (after_change next))
  births k set gfid span next o = record { at = λ handed e. (tt, λ shown. number_leads k next o (Replied set (birth_job gfid span) shown ∷ handed) (tt, e) (number_in shown)) }

  -- a change of a link, whatever the reply
  link_changes : (k set : ℕ) (cells : List Cell) (fd : ℕ) (o : StoreOp) (next : Course) → IsOfLink o → Owns call f k next → Owns call f k (Asks set (job.Change cells fd o None) (after_any next))
  link_changes k set cells fd o next link w = record { at = λ handed e. (link, λ shown. w.at (Replied set (job.Change cells fd o None) shown ∷ handed) (tt, e)) }

  -- a part, which the parts so far are before
  part_changes : (set : ℕ) (cells : List Cell) (fd : ℕ) (o : StoreOp) (one : Entry) (part : FlatOp) (next : Option ℕ → Course) → one.call ≡ call → part_of (flat_op f) one.part ≡ Some part → change_of o ≡ Some part → IsOnFirst set o
      → ((number : Option ℕ) → Owns call f (one.part + 1) (next number)) → Owns call f one.part (changes set cells fd o (Some one) next)
  part_changes set cells fd o one part next call_is part_is makes on_first w = record {
    at = λ handed e. (record { call_is = call_is; part = part; part_is = part_is; makes = makes; on_first = on_first; earlier = e }, λ shown. leads handed e shown);
  }
    where
      later : (handed : Handed) → AreEarlier handed one.part → (shown : SetReply) → DidNotFail shown → (number : Option ℕ) → Always (IsOwn call f) AnyHold AnyAnswer (Replied set (job.Change cells fd o (Some one)) shown ∷ handed) (next number)
      later handed e shown ok number =
          (w number).at (Replied set (job.Change cells fd o (Some one)) shown ∷ handed) ((omega arith, ok), earlier_event handed one.part (one.part + 1) (omega arith) e)

      leads : (handed : Handed) → AreEarlier handed one.part → (shown : SetReply) → Always (IsOwn call f) AnyHold AnyAnswer (Replied set (job.Change cells fd o (Some one)) shown ∷ handed) (after_change next shown)
      leads handed e (reply.Contents contents place) = later handed e (reply.Contents contents place) tt None
      leads handed e (reply.Decided number) = later handed e (reply.Decided number) tt number
      leads handed e reply.Opened = later handed e reply.Opened tt None
      leads handed e (reply.Listed cells2 answered short) = later handed e (reply.Listed cells2 answered short) tt None
      leads handed e (reply.Healed records) = later handed e (reply.Healed records) tt None
      leads handed e (reply.Skipped cause) = later handed e (reply.Skipped cause) tt None
      leads handed e (reply.Io error) = tt

  -- ---- looks

  abbrev EndsOwn : Ending → Type 0
  EndsOwn ending = (result : Found) (seen : Seen) → Owns call f 1 (ending result seen)

  item_owns : (set : ℕ) (seen : Seen) (ending : Ending) (later : Course) (item : Option Item) → EndsOwn ending → Owns call f 1 later → Owns call f 1 (by_item set seen ending later item)
  item_owns set seen ending later None w k = k
  item_owns set seen ending later (Some item) w k = if_owns 1 _ _ (is_link item.kind) k (w (found.Item set item.gfid item.kind) seen)

  kept_owns : (shown : DirNames) (next : Course) → Owns call f 1 next → Owns call f 1 (where_kept shown next)
  kept_owns shown next k = if_owns 1 _ _ shown.removed (ends 1 _ _) k

  along_owns : (dir : Gfid) (name : List ℕ) (watched : ℕ) (sets : List ℕ) (seen : Seen) (ending : Ending) → EndsOwn ending → Owns call f 1 (looks_along dir name watched sets seen ending)
  along_owns dir name watched [] seen ending w = w found.Absent seen
  along_owns dir name watched (set ∷ sets) seen ending w =
      names 1 set dir _ (λ shown. kept_owns shown _ (item_owns set (seen_on watched set seen shown) ending _ _ w (along_owns dir name watched sets (seen_on watched set seen shown) ending w)))

  on_owns : (s : Search) (watched : ℕ) (seen : Seen) (ending : Ending) (item : Option Item) → EndsOwn ending → Owns call f 1 (looks_on s watched seen ending item)
  on_owns s watched seen ending None w = along_owns s.parent s.name watched s.rest seen ending w
  on_owns s watched seen ending (Some item) w =
      if_owns 1 _ _ (is_link item.kind) (along_owns s.parent s.name watched (led s.hashed s.rest (set_named s.names item.target)) (record seen { has_link = true }) ending w) (w (found.Item s.hashed item.gfid item.kind) seen)

  look_owns : (dir : Gfid) (name : List ℕ) (sets : List (List ℕ)) (watched : ℕ) (ending : ℕ → Ending) (hashed : ℕ) → EndsOwn (ending hashed) → Owns call f 1 (looks_in dir name sets watched ending hashed)
  look_owns dir name sets watched ending hashed w =
      names 1 hashed dir _ (λ shown. kept_owns shown _ (on_owns (search_of dir name sets hashed) watched (seen_on watched hashed unseen shown) (ending hashed) _ w))

  spans_own : (dir : Gfid) (sets : List ℕ) (spans : List (Option Span)) (next : List (Option Span) → Course) → ((whole : List (Option Span)) → Owns call f 1 (next whole)) → Owns call f 1 (reads_spans dir sets spans next)
  spans_own dir [] spans next k = k spans
  spans_own dir (set ∷ sets) spans next k = reads 1 set (meta_cell dir ∷ []) 0 true _ (λ contents place. spans_own dir sets _ next k)

  finds_own : (count : ℕ) (dir : Gfid) (known : Option ℕ) (next : ℕ → Course) (after : List (Option Span) → Course) → ((set : ℕ) → Owns call f 1 (next set)) → ((whole : List (Option Span)) → Owns call f 1 (after whole)) → Owns call f 1 (finds count dir known next after)
  finds_own count dir (Some set) next after k l = k set
  finds_own count dir None next after k l = spans_own dir (range_with_len 0 count) [] after l

  named_owns : (parent : Object) (name : List ℕ) (place : Option ℕ) (next : Course) → Owns call f 1 next → Owns call f 1 (where_named parent name place next)
  named_owns parent name place next k = if_owns 1 _ _ (is_directory parent.kind) (if_owns 1 _ _ (nat_lt max_item_name (length name)) (ends 1 _ _) k) (ends 1 _ _)

  on_name_owns : (v : Volume) (sets : List (List ℕ)) (kept : Kept) (parent : Object) (name : List ℕ) (ending : ℕ → Ending) → ((hashed : ℕ) → EndsOwn (ending hashed)) → Owns call f 1 (on_name v sets kept parent name ending)
  on_name_owns v sets kept parent name ending w =
      named_owns parent name None _
      (finds_own (length sets) parent.gfid (known_set v kept parent.gfid name) _ _ (λ set. look_owns parent.gfid name sets 0 ending set (w set))
      (λ spans. look_owns parent.gfid name sets 0 ending (hashed_set spans name) (w (hashed_set spans name))))

  -- ---- names of a directory

  lookup_ends : EndsOwn lookup_found
  lookup_ends (found.Item set gfid k) seen = ends 1 _ _
  lookup_ends found.Absent seen = ends 1 _ _
  lookup_ends (found.Io error) seen = ends 1 _ _

  lists_own : (dir : Gfid) (sets : List ℕ) (items : List Item) (place : Option ℕ) → Owns call f 1 (lists_from dir sets items place)
  lists_own dir [] items place = ends 1 _ _
  lists_own dir (set ∷ sets) items place = names 1 set dir _ (λ shown. kept_owns shown _ (lists_own dir sets (merged items (real_items shown.items)) (Some shown.place)))

  link_drops : (k : ℕ) (parent : Gfid) (name : List ℕ) (hashed : ℕ) (has_link : Bool) (number : Option ℕ) → Owns call f k (drops_link parent name hashed has_link number)
  link_drops k parent name hashed has_link number = if_owns k _ _ has_link (link_changes k hashed _ 0 (op.DropName parent name) _ tt (ends k _ _)) (ends k _ _)

  births_own : (v : Volume) (parent : Gfid) (name : List ℕ) (mode : ℕ) (drawn : Gfid) (sets : List ℕ) → v.call ≡ call → part_of (flat_op f) 1 ≡ Some (flat.Mkdir parent name mode drawn) → Owns call f 1 (births_from v parent name mode drawn sets)
  births_own v parent name mode drawn [] c h =
      part_changes 0 (names_cell parent ∷ []) 0 (op.AddName parent (item_of name drawn kind.Dir) mode (Some (even_span v.sets 0))) (entry v 1) (flat.Mkdir parent name mode drawn) (Ends (answers.Call answer.Done)) c h refl (λ dir. refl) (λ number. ends 2 _ _)
  births_own v parent name mode drawn (set ∷ sets) c h = births 1 set drawn _ _ (λ number. births_own v parent name mode drawn sets c h)

  mkdir_ends : (v : Volume) (parent : Gfid) (name : List ℕ) (mode : ℕ) (drawn : Gfid) → v.call ≡ call → part_of (flat_op f) 1 ≡ Some (flat.Mkdir parent name mode drawn) → EndsOwn (mkdir_found v parent name mode drawn)
  mkdir_ends v parent name mode drawn c h (found.Item set gfid k) seen = ends 1 _ _
  mkdir_ends v parent name mode drawn c h found.Absent seen = births_own v parent name mode drawn (sets_from v 1) c h
  mkdir_ends v parent name mode drawn c h (found.Io error) seen = ends 1 _ _

  create_ends : (v : Volume) (parent : Gfid) (name : List ℕ) (mode : ℕ) (drawn : Gfid) (hashed : ℕ) → v.call ≡ call → part_of (flat_op f) 1 ≡ Some (flat.Create parent name mode drawn) → EndsOwn (create_found v parent name mode drawn hashed)
  create_ends v parent name mode drawn hashed c h (found.Item set gfid k) seen = ends 1 _ _
  create_ends v parent name mode drawn hashed c h found.Absent seen =
      part_changes hashed (names_cell parent ∷ []) 0 (op.AddName parent (item_of name drawn kind.File) mode None) (entry v 1) (flat.Create parent name mode drawn) (Ends (answers.Found hashed drawn kind.File)) c h refl (λ dir. absurd cc) (λ number. ends 2 _ _)
  create_ends v parent name mode drawn hashed c h (found.Io error) seen = ends 1 _ _

  unlink_ends : (v : Volume) (parent : Gfid) (name : List ℕ) (hashed : ℕ) → v.call ≡ call → part_of (flat_op f) 1 ≡ Some (flat.Unlink parent name) → EndsOwn (unlink_found v parent name hashed)
  unlink_ends v parent name hashed c h (found.Item set gfid k) seen =
      if_owns 1 _ _ (is_directory k) (ends 1 _ _)
      (part_changes set (names_cell parent ∷ []) 0 (op.DropName parent name) (entry v 1) (flat.Unlink parent name) (drops_link parent name hashed seen.has_link) c h refl tt (λ number. link_drops 2 parent name hashed seen.has_link number))
  unlink_ends v parent name hashed c h found.Absent seen = ends 1 _ _
  unlink_ends v parent name hashed c h (found.Io error) seen = ends 1 _ _

  empties_own : (v : Volume) (parent : Gfid) (name : List ℕ) (gfid : Gfid) (sets : List ℕ) → v.call ≡ call → part_of (flat_op f) 1 ≡ Some (flat.Rmdir parent name) → Owns call f 1 (empties v parent name gfid sets)
  empties_own v parent name gfid [] c h =
      part_changes 0 (both_names parent gfid) 0 (op.DropDir parent name gfid) (entry v 1) (flat.Rmdir parent name) (Ends (answers.Call answer.Done)) c h refl tt (λ number. ends 2 _ _)
  empties_own v parent name gfid (set ∷ sets) c h = names 1 set gfid _ (λ shown. if_owns 1 _ _ (has_real_name shown.items) (ends 1 _ _) (empties_own v parent name gfid sets c h))

  rmdir_ends : (v : Volume) (parent : Gfid) (name : List ℕ) → v.call ≡ call → part_of (flat_op f) 1 ≡ Some (flat.Rmdir parent name) → EndsOwn (rmdir_found v parent name)
  rmdir_ends v parent name c h (found.Item set gfid k) seen =
      if_owns 1 _ _ (is_directory k) (record { at = λ handed e. (tt, (empties_own v parent name gfid (sets_from v 0) c h).at (Held gfid ∷ handed) (tt, e)) }) (ends 1 _ _)
  rmdir_ends v parent name c h found.Absent seen = ends 1 _ _
  rmdir_ends v parent name c h (found.Io error) seen = ends 1 _ _

  -- ---- rename

  adds_own : (r : Renaming) (number : Option ℕ) → Owns call f 3 (adds_link r number)
  adds_own r number =
      if_owns 3 _ _ (r.hashed == r.source.set) (link_drops 3 r.source.parent r.source.name r.source.hashed r.source.has_link number)
      (link_changes 3 r.hashed (names_cell r.target ∷ []) 0 (op.AddName r.target (link_of r) 0 None) (drops_old_link r.source number) refl (link_drops 3 r.source.parent r.source.name r.source.hashed r.source.has_link number))

  -- the parts of the rename of this file to this name
  abbrev IsRenamed : Renaming → Type 0
  IsRenamed r = flat_op f ≡ Some (flat.Rename r.source.parent r.source.name r.target r.new_name)

  moves_own : (v : Volume) (r : Renaming) → v.call ≡ call → IsRenamed r → Owns call f 2 (moves v r)
  moves_own v r c h =
      part_changes r.source.set (both_names r.source.parent r.target) 0 (op.Move r.source.parent r.source.name r.target r.new_name) (entry v 2) (flat.Rename r.source.parent r.source.name r.target r.new_name) (adds_link r) c (rw h refl) refl tt
      (λ number. adds_own r number)

  bears_own : (v : Volume) (r : Renaming) (copy : Bool) → v.call ≡ call → IsRenamed r → Owns call f 2 (bears v r copy)
  bears_own v r true c h = moves_own v r c h
  bears_own v r false c h = births 2 r.source.set r.target None _ (λ number. moves_own v r c h)

  replaces_own : (v : Volume) (r : Renaming) (replaced : Option ℕ) (copy : Bool) → v.call ≡ call → IsRenamed r → is_same_name r.source.parent r.source.name r.target r.new_name ≡ false → Owns call f 1 (replaces v r replaced copy)
  replaces_own v r None copy c h other = more 1 2 (bears v r copy) (omega arith) (bears_own v r copy c h)
  replaces_own v r (Some set) copy c h other =
      part_changes set (names_cell r.target ∷ []) 0 (op.DropName r.target r.new_name) (entry v 1) (flat.Unlink r.target r.new_name) (λ number. bears v r copy) c (rw (h, other) refl) refl tt (λ number. bears_own v r copy c h)

  names_change : (v : Volume) (r : Renaming) (replaced : Option ℕ) (copy : Option Bool) → v.call ≡ call → IsRenamed r → is_same_name r.source.parent r.source.name r.target r.new_name ≡ false → Owns call f 1 (changes_names v r replaced copy)
  names_change v r replaced (Some copy) c h other = replaces_own v r replaced copy c h other
  names_change v r replaced None c h other = names 1 r.source.set r.target _ (λ shown. replaces_own v r replaced shown.has_copy c h other)

  target_ends : (v : Volume) (r : Renaming) → v.call ≡ call → IsRenamed r → is_same_name r.source.parent r.source.name r.target r.new_name ≡ false → EndsOwn (target_found v r)
  target_ends v r c h other (found.Item set gfid k) seen = if_owns 1 _ _ (is_directory k) (ends 1 _ _) (names_change v r (other_set set r.source.set) seen.copy c h other)
  target_ends v r c h other found.Absent seen = names_change v r None seen.copy c h other
  target_ends v r c h other (found.Io error) seen = ends 1 _ _

  target_owns : (v : Volume) (source : Source) (target : Gfid) (new_name : List ℕ) (sets : List (List ℕ)) (second : Option ℕ) → v.call ≡ call → flat_op f ≡ Some (flat.Rename source.parent source.name target new_name)
      → is_same_name source.parent source.name target new_name ≡ false → Owns call f 1 (looks_for_target v source target new_name sets second)
  target_owns v source target new_name sets second c h other =
      finds_own (length sets) target second (looks_in target new_name sets source.set (target_ending v source target new_name sets))
      (λ spans. looks_in target new_name sets source.set (target_ending v source target new_name sets) (hashed_set spans new_name))
      (λ set. look_owns target new_name sets source.set (target_ending v source target new_name sets) set (target_ends v (renaming source target new_name sets set) c h other))
      (λ spans. look_owns target new_name sets source.set (target_ending v source target new_name sets) (hashed_set spans new_name) (target_ends v (renaming source target new_name sets (hashed_set spans new_name)) c h other))

  -- a name that is renamed to itself is answered at once
  same_or : (v : Volume) (source : Source) (target : Gfid) (new_name : List ℕ) (sets : List (List ℕ)) (second : Option ℕ) (done : Course) (b : Bool) → v.call ≡ call → flat_op f ≡ Some (flat.Rename source.parent source.name target new_name)
      → is_same_name source.parent source.name target new_name ≡ b → Owns call f 1 done → Owns call f 1 (if b then done else looks_for_target v source target new_name sets second)
  same_or v source target new_name sets second done true c h e d = d
  same_or v source target new_name sets second done false c h e d = target_owns v source target new_name sets second c h e

  source_ends : (v : Volume) (parent : Gfid) (name : List ℕ) (sets : List (List ℕ)) (target : Object) (new_name : List ℕ) (second : Option ℕ) (hashed : ℕ) → v.call ≡ call → flat_op f ≡ Some (flat.Rename parent name target.gfid new_name)
      → EndsOwn (source_found v parent name sets target new_name second hashed)
  source_ends v parent name sets target new_name second hashed c h (found.Item set gfid k) seen =
      if_owns 1 _ _ (is_directory k) (ends 1 _ _)
      (named_owns target new_name (Some seen.place) _ (same_or v (source_at parent name hashed seen.has_link set gfid) target.gfid new_name sets second _ (is_same_name parent name target.gfid new_name) c h refl (ends 1 _ _)))
  source_ends v parent name sets target new_name second hashed c h found.Absent seen = ends 1 _ _
  source_ends v parent name sets target new_name second hashed c h (found.Io error) seen = ends 1 _ _

  -- ---- objects, and fops of the mount itself

  cell_owns : (v : Volume) (set : ℕ) (cell : Cell) (fd : ℕ) (o : StoreOp) (part : FlatOp) (a : FopAnswer) → v.call ≡ call → part_of (flat_op f) 1 ≡ Some part → change_of o ≡ Some part → IsOnFirst set o → Owns call f 1 (changes_cell v set cell fd o a)
  cell_owns v set cell fd o part a c h e k = part_changes set (cell ∷ []) fd o (entry v 1) part (Ends a) c h e k (λ number. ends 2 a number)

  opens_again_owns : (fds : List OpenFd) → Owns call f 1 (opens_again fds)
  opens_again_owns [] = ends 1 _ _
  opens_again_owns (one ∷ fds) = record { at = λ handed e. (tt, λ shown. (opens_again_owns fds).at _ (tt, e)) }

  heals_own : (cells : List (ℕ × Cell)) → Owns call f 1 (heals cells)
  heals_own [] = ends 1 _ _
  heals_own (one ∷ cells) = record { at = λ handed e. (tt, λ shown. (heals_own cells).at _ (tt, e)) }

  indexes_own : (count : ℕ) (sets : List ℕ) (cells : List (ℕ × Cell)) → Owns call f 1 (indexes count sets cells)
  indexes_own count [] cells = heals_own cells
  indexes_own count (set ∷ sets) cells = record { at = λ handed e. (tt, λ shown. (indexes_own count sets (with_cells cells count set (cells_in shown))).at _ (tt, e)) }

-- ---- all

pub courses_own : (v : Volume) (sets : List (List ℕ)) (kept : Kept) (f : Fop) → Owns v.call f 1 (fop_course v sets kept f)
courses_own v sets kept (fop.Lookup parent name) = let f = fop.Lookup parent name in on_name_owns v.call f v sets kept parent name (λ hashed. lookup_found) (λ hashed. lookup_ends v.call f)
courses_own v sets kept (fop.Mkdir parent name mode drawn) =
    let f = fop.Mkdir parent name mode drawn in on_name_owns v.call f v sets kept parent name (λ hashed. mkdir_found v parent.gfid name mode drawn) (λ hashed. mkdir_ends v.call f v parent.gfid name mode drawn refl refl)
courses_own v sets kept (fop.Rmdir parent name) = let f = fop.Rmdir parent name in on_name_owns v.call f v sets kept parent name (λ hashed. rmdir_found v parent.gfid name) (λ hashed. rmdir_ends v.call f v parent.gfid name refl refl)
courses_own v sets kept (fop.Create fd parent name mode drawn) =
    let f = fop.Create fd parent name mode drawn in on_name_owns v.call f v sets kept parent name (create_found v parent.gfid name mode drawn) (λ hashed. create_ends v.call f v parent.gfid name mode drawn hashed refl refl)
courses_own v sets kept (fop.Unlink parent name) = let f = fop.Unlink parent name in on_name_owns v.call f v sets kept parent name (unlink_found v parent.gfid name) (λ hashed. unlink_ends v.call f v parent.gfid name hashed refl refl)
courses_own v sets kept (fop.Rename parent name target new_name) =
    let f = fop.Rename parent name target new_name in
    let known = known_set v kept target.gfid new_name in
    let by_layout : List (Option Span) → ℕ → Ending = λ spans. source_found v parent.gfid name sets target new_name (second_set parent.gfid target.gfid new_name known spans) in
    named_owns v.call f parent name None _
    (finds_own v.call f (length sets) parent.gfid (known_set v kept parent.gfid name) (looks_in parent.gfid name sets 0 (source_found v parent.gfid name sets target new_name known))
    (λ spans. looks_in parent.gfid name sets 0 (by_layout spans) (hashed_set spans name))
    (λ set. look_owns v.call f parent.gfid name sets 0 (source_found v parent.gfid name sets target new_name known) set (source_ends v.call f v parent.gfid name sets target new_name known set refl refl))
    (λ spans. look_owns v.call f parent.gfid name sets 0 (by_layout spans) (hashed_set spans name)
    (source_ends v.call f v parent.gfid name sets target new_name (second_set parent.gfid target.gfid new_name known spans) (hashed_set spans name) refl refl)))
courses_own v sets kept (fop.Open fd object) =
    let f = fop.Open fd object in
    if_owns v.call f 1 _ _ (is_directory object.kind) (ends v.call f 1 _ _)
    (record { at = λ handed e. (tt, λ shown. number_leads v.call f 1 opened (λ number. ends v.call f 1 _ _) (Replied object.set (job.Open fd object.gfid) shown ∷ handed) (tt, e) (number_in shown)) })
courses_own v sets kept (fop.Stat object) =
    let f = fop.Stat object in
    if_owns v.call f 1 _ _ (is_directory object.kind) (reads v.call f 1 0 (meta_cell object.gfid ∷ []) 0 _ dir_stat (λ contents place. ends v.call f 1 _ _))
    (reads v.call f 1 object.set (data_cell object.gfid ∷ meta_cell object.gfid ∷ []) 0 false file_stat (λ contents place. ends v.call f 1 _ _))
courses_own v sets kept (fop.List object) = let f = fop.List object in if_owns v.call f 1 _ _ (is_directory object.kind) (lists_own v.call f object.gfid (sets_from v 0) [] None) (ends v.call f 1 _ _)
courses_own v sets kept (fop.Chmod object mode) = cell_owns v.call (fop.Chmod object mode) v (home object) (meta_cell object.gfid) 0 (op.SetMode object.gfid mode) (flat.Chmod object.gfid mode) _ refl refl refl tt
courses_own v sets kept (fop.Truncate object size) =
    let f = fop.Truncate object size in
    if_owns v.call f 1 _ _ (is_directory object.kind) (ends v.call f 1 _ _)
    (if_owns v.call f 1 _ _ (nat_lt file_limit size) (ends v.call f 1 _ _) (cell_owns v.call f v object.set (data_cell object.gfid) 0 (op.Truncate object.gfid size) (flat.Truncate object.gfid size) _ refl refl refl tt))
courses_own v sets kept (fop.SetAttr object attr) = cell_owns v.call (fop.SetAttr object attr) v (home object) (meta_cell object.gfid) 0 (op.SetAttr object.gfid attr) (flat.SetAttr object.gfid attr) _ refl refl refl tt
courses_own v sets kept (fop.GetAttr object name) =
    reads v.call (fop.GetAttr object name) 1 (home object) (meta_cell object.gfid ∷ []) 0 _ (attr_read name) (λ contents place. got (attr_named (attrs_of (first_content contents)) name) place)
  where
    got : (attr : Option Attr) (place : ℕ) → Owns v.call (fop.GetAttr object name) 1 (attr_value attr place)
    got None place = ends _ _ 1 _ _
    got (Some attr) place = ends _ _ 1 _ _
courses_own v sets kept (fop.DelAttr object name) =
    reads v.call (fop.DelAttr object name) 1 (home object) (meta_cell object.gfid ∷ []) 0 _ (attr_seen v object name) (λ contents place. dropped (attr_named (attrs_of (first_content contents)) name) place)
  where
    dropped : (attr : Option Attr) (place : ℕ) → Owns v.call (fop.DelAttr object name) 1 (drops_attr v object name attr place)
    dropped None place = ends _ _ 1 _ _
    dropped (Some attr) place = cell_owns v.call (fop.DelAttr object name) v (home object) (meta_cell object.gfid) 0 (op.DelAttr object.gfid name) (flat.DelAttr object.gfid name) _ refl refl refl tt
courses_own v sets kept (fop.Read fd object offset count) =
    let f = fop.Read fd object offset count in
    if_owns v.call f 1 _ _ (is_directory object.kind) (ends v.call f 1 _ _) (reads v.call f 1 object.set (data_cell object.gfid ∷ []) fd false (bytes_read offset count) (λ contents place. ends v.call f 1 _ _))
courses_own v sets kept (fop.Write fd object offset bytes) =
    if_owns v.call (fop.Write fd object offset bytes) 1 _ _ (is_directory object.kind) (ends _ _ 1 _ _)
    (if_owns v.call (fop.Write fd object offset bytes) 1 _ _ (nat_lt file_limit (offset + length bytes)) (ends _ _ 1 _ _) (some_bytes bytes refl))
  where
    some_bytes : (written : List ℕ) → bytes ≡ written → Owns v.call (fop.Write fd object offset bytes) 1 (writes_some v object fd offset written)
    some_bytes [] e = ends _ _ 1 _ _
    some_bytes (first ∷ rest) e = cell_owns v.call (fop.Write fd object offset bytes) v object.set (data_cell object.gfid) fd (op.Write object.gfid offset (first ∷ rest)) (flat.Write object.gfid offset (first ∷ rest)) _ refl (rw e refl) refl tt
courses_own v sets kept (fop.Migrate fds) = opens_again_owns v.call (fop.Migrate fds) fds
courses_own v sets kept (fop.Heal count) = indexes_own v.call (fop.Heal count) count (sets_from v 0) []
