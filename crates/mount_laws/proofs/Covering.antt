-- Each job of a fop is covered by what the fop holds.
use Rattle.std.proofs.Common.{◌≡◌, ℕ, ◌+◌, ◌==◌, ◌⊎◌, inl, inr, Bool, true, false, List, [], ◌∷◌, ◌++◌, Option, Some, None, Result, Ok, Err, if◌then◌else◌, length, nat_lt, refl}
use Rattle.std.specs.List.{range_with_len}
use Rattle.std.specs.Ordering.{match_ordering}
use Rattle.std.specs.declared.cmp.Ordering.{Ordering}
use Rattle.std.specs.declared.cmp.Ordering.TheVariants.{Less, Equal, Greater}
use Rattle.dht_layout.specs.Layouts.{even_span}
use Rattle.dht_linkto.specs.DirNames.{names_job, names_in, first_content}
use Rattle.dht_linkto.specs.Search.{Search, search_of, hashed_set, led, set_named}
use Rattle.dht_linkto.specs.declared.found.Found.{Found}
use Rattle.dht_linkto.specs.declared.found.Found.TheVariants as found
use Rattle.dht_linkto.specs.declared.names.DirNames.{DirNames}
use Rattle.dht_fops.specs.Courses.{Course, refuses, on_names, after_names, on_contents, after_read, contents_in, on_number, after_change, number_in, after_any, changes}
use Rattle.dht_fops.specs.Courses.Course.{Asks, Ends}
use Rattle.dht_fops.specs.Entries.{birth_job, lookup_found, lists_from, mkdir_found, births_from, create_found, drops_link, unlink_found, rmdir_found, empties}
use Rattle.dht_fops.specs.Fops.{fop_course, on_name}
use Rattle.dht_fops.specs.Handed.{Handed, Always, AnyHold, AnyAnswer}
use Rattle.dht_fops.specs.Handed.Event.{Replied, Held}
use Rattle.dht_fops.specs.Internal.{opens_again, heals, indexes, with_cells, cells_in}
use Rattle.dht_fops.specs.Looks.{Ending, where_named, where_kept, by_item, looks_along, looks_on, looks_in, finds, reads_spans, seen_on, unseen}
use Rattle.dht_fops.specs.Merges.{merged, real_items}
use Rattle.dht_fops.specs.Objects.{home, changes_cell, opened, dir_stat, file_stat, attr_read, attr_value, attr_seen, drops_attr, bytes_read, writes_some}
use Rattle.dht_fops.specs.Renames.{source_found, source_at, looks_for_target, target_ending, target_found, changes_names, replaces, bears, moves, adds_link, drops_old_link, second_set, other_set, link_of}
use Rattle.dht_fops.specs.Volumes.{Kept, known_set, sets_from, entry}
use Rattle.dht_fops.specs.declared.volume.Volume.{Volume}
use Rattle.fop_types.specs.Cells.{data_cell, meta_cell, names_cell}
use Rattle.fop_types.specs.FileBytes.{file_limit}
use Rattle.fop_types.specs.Flat.{item_of}
use Rattle.fop_types.specs.Limits.{max_item_name}
use Rattle.fop_types.specs.Names.{is_link, is_directory, is_same_name, attr_named, has_real_name}
use Rattle.fop_types.specs.Orders.{gfid_cmp}
use Rattle.fop_types.specs.StoreOps.{needs, both_names, attrs_of}
use Rattle.fop_types.specs.declared.answers.AppError.TheVariants.{Enotempty, Enotdir, Enametoolong}
use Rattle.fop_types.specs.declared.answers.Answer.TheVariants as answer
use Rattle.fop_types.specs.declared.answers.FopAnswer.{FopAnswer}
use Rattle.fop_types.specs.declared.answers.FopAnswer.TheVariants as answers
use Rattle.fop_types.specs.declared.answers.IoError.{IoError}
use Rattle.fop_types.specs.declared.cells.Cell.{Cell}
use Rattle.fop_types.specs.declared.cells.Gfid.{Gfid}
use Rattle.fop_types.specs.declared.cells.Kind.TheVariants as kind
use Rattle.fop_types.specs.declared.contents.Attr.{Attr}
use Rattle.fop_types.specs.declared.contents.Content.{Content}
use Rattle.fop_types.specs.declared.contents.Item.{Item}
use Rattle.fop_types.specs.declared.contents.Span.{Span}
use Rattle.fop_types.specs.declared.fops.Fop.{Fop}
use Rattle.fop_types.specs.declared.fops.Fop.TheVariants as fop
use Rattle.fop_types.specs.declared.fops.Object.{Object}
use Rattle.fop_types.specs.declared.fops.OpenFd.{OpenFd}
use Rattle.fop_types.specs.declared.history.Entry.{Entry}
use Rattle.fop_types.specs.declared.jobs.Job.TheVariants as job
use Rattle.fop_types.specs.declared.store_ops.StoreOp.{StoreOp}
use Rattle.fop_types.specs.declared.store_ops.StoreOp.TheVariants as op
use Rattle.mount_laws.specs.Holding.{drawn_by, own_holds, AreHeld, AreHeldExclusively, IsBornBy, IsCovered}
use Rattle.mount_laws.specs.Holds.{Hold, Holds, HoldsExclusively, holds_of, extensions}
use Rattle.mount_laws.specs.Steps.{is_lookup}
use Rattle.mount_laws.proofs.Arguments.{Seen, Source, Renaming, renaming}

-- ---- holds

pub holds_front : (hs ks : List Hold) (gfid : Gfid) → Holds hs gfid → Holds (hs ++ ks) gfid
holds_front [] ks gfid h = absurd h
holds_front (one ∷ hs) ks gfid (inl e) = inl e
holds_front (one ∷ hs) ks gfid (inr h) = inr (holds_front hs ks gfid h)

pub alone_front : (hs ks : List Hold) (gfid : Gfid) → HoldsExclusively hs gfid → HoldsExclusively (hs ++ ks) gfid
alone_front [] ks gfid h = absurd h
alone_front (one ∷ hs) ks gfid (inl e) = inl e
alone_front (one ∷ hs) ks gfid (inr h) = inr (alone_front hs ks gfid h)

pub holds_back : (hs ks : List Hold) (gfid : Gfid) → Holds ks gfid → Holds (hs ++ ks) gfid
holds_back [] ks gfid h = h
holds_back (one ∷ hs) ks gfid h = inr (holds_back hs ks gfid h)

pub alone_back : (hs ks : List Hold) (gfid : Gfid) → HoldsExclusively ks gfid → HoldsExclusively (hs ++ ks) gfid
alone_back [] ks gfid h = h
alone_back (one ∷ hs) ks gfid h = inr (alone_back hs ks gfid h)

pub alone_holds : (hs : List Hold) (gfid : Gfid) → HoldsExclusively hs gfid → Holds hs gfid
alone_holds [] gfid h = absurd h
alone_holds (one ∷ hs) gfid (inl e) = inl e.0
alone_holds (one ∷ hs) gfid (inr h) = inr (alone_holds hs gfid h)

-- ---- courses

-- wherever the replies lead, each job is covered
pub record Goes (f : Fop) (course : Course) : Type 0 where
  pub at : (handed : Handed) → Always (IsCovered f) AnyHold AnyAnswer handed course

ends_goes : (f : Fop) (answer : FopAnswer) (place : Option ℕ) → Goes f (Ends answer place)
ends_goes f answer place = record { at = λ handed. tt }

if_goes : (f : Fop) (one other : Course) (b : Bool) → Goes f one → Goes f other → Goes f (if b then one else other)
if_goes f one other true g h = g
if_goes f one other false g h = h

names_lead : (f : Fop) (later : Handed) (next : DirNames → Course) (read : Result DirNames IoError) → ((shown : DirNames) → Always (IsCovered f) AnyHold AnyAnswer later (next shown)) → Always (IsCovered f) AnyHold AnyAnswer later (on_names next read)
names_lead f later next (Ok shown) k = k shown
names_lead f later next (Err error) k = tt

contents_lead : (f : Fop) (later : Handed) (next : List (Option Content) → ℕ → Course) (read : Result (List (Option Content) × ℕ) IoError) → ((contents : List (Option Content)) (place : ℕ) → Always (IsCovered f) AnyHold AnyAnswer later (next contents place))
    → Always (IsCovered f) AnyHold AnyAnswer later (on_contents next read)
contents_lead f later next (Ok read) k = k read.0 read.1
contents_lead f later next (Err error) k = tt

number_leads : (f : Fop) (later : Handed) (next : Option ℕ → Course) (read : Result (Option ℕ) IoError) → ((number : Option ℕ) → Always (IsCovered f) AnyHold AnyAnswer later (next number)) → Always (IsCovered f) AnyHold AnyAnswer later (on_number next read)
number_leads f later next (Ok number) k = k number
number_leads f later next (Err error) k = tt

-- a read of one directory's names
names_go : (f : Fop) (set : ℕ) (dir : Gfid) (next : DirNames → Course) → Holds (holds_of f) dir → ((shown : DirNames) → Goes f (next shown)) → Goes f (Asks set (names_job dir) (after_names next))
names_go f set dir next h k = record {
  at = λ handed. ((holds_front (holds_of f) (extensions handed) dir h, tt), λ reply. names_lead f (Replied set (names_job dir) reply ∷ handed) next (names_in reply) (λ shown. (k shown).at (Replied set (names_job dir) reply ∷ handed)));
}

-- a read of cells of one object
read_goes : (f : Fop) (set : ℕ) (cells : List Cell) (fd : ℕ) (dir : Bool) (next : List (Option Content) → ℕ → Course) → ((handed : Handed) → AreHeld (own_holds f handed) cells) → ((contents : List (Option Content)) (place : ℕ) → Goes f (next contents place))
    → Goes f (Asks set (job.Read cells fd dir) (after_read next))
read_goes f set cells fd dir next h k = record {
  at = λ handed. (h handed, λ reply. contents_lead f (Replied set (job.Read cells fd dir) reply ∷ handed) next (contents_in reply) (λ contents place. (k contents place).at (Replied set (job.Read cells fd dir) reply ∷ handed)));
}

-- a change of cells that are held exclusively
change_goes : (f : Fop) (set : ℕ) (cells : List Cell) (fd : ℕ) (o : StoreOp) (effect : Option Entry) (next : Option ℕ → Course) → is_lookup f ≡ false → ((handed : Handed) → AreHeldExclusively (own_holds f handed) cells) → cells ≡ needs o
    → ((number : Option ℕ) → Goes f (next number)) → Goes f (changes set cells fd o effect next)
change_goes f set cells fd o effect next w h e k = record {
  at = λ handed. (
    record { alone = h handed; whole = e; no_lookup = w },
    λ reply. number_leads f (Replied set (job.Change cells fd o effect) reply ∷ handed) next (number_in reply) (λ number. (k number).at (Replied set (job.Change cells fd o effect) reply ∷ handed)),
  );
}

-- whatever the reply
any_goes : (f : Fop) (set : ℕ) (cells : List Cell) (fd : ℕ) (o : StoreOp) (effect : Option Entry) (next : Course) → is_lookup f ≡ false → ((handed : Handed) → AreHeldExclusively (own_holds f handed) cells) → cells ≡ needs o
    → Goes f next → Goes f (Asks set (job.Change cells fd o effect) (after_any next))
any_goes f set cells fd o effect next w h e k = record { at = λ handed. (record { alone = h handed; whole = e; no_lookup = w }, λ reply. k.at (Replied set (job.Change cells fd o effect) reply ∷ handed)) }

born_held : (f : Fop) (handed : Handed) (gfid : Gfid) → HoldsExclusively (holds_of f) gfid ⊎ (drawn_by f ≡ Some gfid) → HoldsExclusively (own_holds f handed) gfid ⊎ (drawn_by f ≡ Some gfid)
born_held f handed gfid (inl alone) = inl (alone_front (holds_of f) (extensions handed) gfid alone)
born_held f handed gfid (inr drawn) = inr drawn

birth_goes : (f : Fop) (set : ℕ) (gfid : Gfid) (span : Option Span) (next : Option ℕ → Course) → HoldsExclusively (holds_of f) gfid ⊎ (drawn_by f ≡ Some gfid) → IsBornBy f (op.MakeCopy gfid span) → ((number : Option ℕ) → Goes f (next number))
    → Goes f (Asks set (birth_job gfid span) (after_change next))
birth_goes f set gfid span next h b k = record {
  at = λ handed. (
    ((born_held f handed gfid h, (born_held f handed gfid h, tt)), (refl, b)),
    λ reply. number_leads f (Replied set (birth_job gfid span) reply ∷ handed) next (number_in reply) (λ number. (k number).at (Replied set (birth_job gfid span) reply ∷ handed)),
  );
}

-- one cell of an object that is held
one_held : (f : Fop) (cell : Cell) → Holds (holds_of f) cell.gfid → (handed : Handed) → AreHeld (own_holds f handed) (cell ∷ [])
one_held f cell h handed = (holds_front (holds_of f) (extensions handed) cell.gfid h, tt)

one_alone : (f : Fop) (cell : Cell) → HoldsExclusively (holds_of f) cell.gfid → (handed : Handed) → AreHeldExclusively (own_holds f handed) (cell ∷ [])
one_alone f cell h handed = (alone_front (holds_of f) (extensions handed) cell.gfid h, tt)

both_alone : (hs : List Hold) (a b : Gfid) → HoldsExclusively hs a → HoldsExclusively hs b → AreHeldExclusively hs (both_names a b)
both_alone hs a b h k = by_order (gfid_cmp a b)
  where
    by_order : (o : Ordering) → AreHeldExclusively hs (match_ordering o (names_cell a ∷ names_cell b ∷ []) (names_cell a ∷ []) (names_cell b ∷ names_cell a ∷ []))
    by_order Less = (h, (k, tt))
    by_order Equal = (h, tt)
    by_order Greater = (k, (h, tt))

-- ---- looks

abbrev EndsWell : Fop → Ending → Type 0
EndsWell f ending = (result : Found) (seen : Seen) → Goes f (ending result seen)

item_goes : (f : Fop) (set : ℕ) (seen : Seen) (ending : Ending) (later : Course) (item : Option Item) → EndsWell f ending → Goes f later → Goes f (by_item set seen ending later item)
item_goes f set seen ending later None ends k = k
item_goes f set seen ending later (Some item) ends k = if_goes f _ _ (is_link item.kind) k (ends (found.Item set item.gfid item.kind) seen)

kept_goes : (f : Fop) (shown : DirNames) (next : Course) → Goes f next → Goes f (where_kept shown next)
kept_goes f shown next k = if_goes f _ _ shown.removed (ends_goes f _ _) k

along_goes : (f : Fop) (dir : Gfid) (name : List ℕ) (watched : ℕ) (sets : List ℕ) (seen : Seen) (ending : Ending) → Holds (holds_of f) dir → EndsWell f ending → Goes f (looks_along dir name watched sets seen ending)
along_goes f dir name watched [] seen ending h ends = ends found.Absent seen
along_goes f dir name watched (set ∷ sets) seen ending h ends =
    names_go f set dir _ h (λ shown. kept_goes f shown _ (item_goes f set (seen_on watched set seen shown) ending _ _ ends (along_goes f dir name watched sets (seen_on watched set seen shown) ending h ends)))

on_goes : (f : Fop) (s : Search) (watched : ℕ) (seen : Seen) (ending : Ending) (item : Option Item) → Holds (holds_of f) s.parent → EndsWell f ending → Goes f (looks_on s watched seen ending item)
on_goes f s watched seen ending None h ends = along_goes f s.parent s.name watched s.rest seen ending h ends
on_goes f s watched seen ending (Some item) h ends =
    if_goes f _ _ (is_link item.kind) (along_goes f s.parent s.name watched (led s.hashed s.rest (set_named s.names item.target)) (record seen { has_link = true }) ending h ends) (ends (found.Item s.hashed item.gfid item.kind) seen)

look_goes : (f : Fop) (dir : Gfid) (name : List ℕ) (names : List (List ℕ)) (watched : ℕ) (ending : ℕ → Ending) (hashed : ℕ) → Holds (holds_of f) dir → EndsWell f (ending hashed) → Goes f (looks_in dir name names watched ending hashed)
look_goes f dir name names watched ending hashed h ends =
    names_go f hashed dir _ h (λ shown. kept_goes f shown _ (on_goes f (search_of dir name names hashed) watched (seen_on watched hashed unseen shown) (ending hashed) _ h ends))

spans_go : (f : Fop) (dir : Gfid) (sets : List ℕ) (spans : List (Option Span)) (next : List (Option Span) → Course) → Holds (holds_of f) dir → ((whole : List (Option Span)) → Goes f (next whole)) → Goes f (reads_spans dir sets spans next)
spans_go f dir [] spans next h k = k spans
spans_go f dir (set ∷ sets) spans next h k = read_goes f set (meta_cell dir ∷ []) 0 true _ (one_held f (meta_cell dir) h) (λ contents place. spans_go f dir sets _ next h k)

finds_go : (f : Fop) (count : ℕ) (dir : Gfid) (known : Option ℕ) (next : ℕ → Course) (after : List (Option Span) → Course) → Holds (holds_of f) dir → ((set : ℕ) → Goes f (next set)) → ((whole : List (Option Span)) → Goes f (after whole))
    → Goes f (finds count dir known next after)
finds_go f count dir (Some set) next after h k l = k set
finds_go f count dir None next after h k l = spans_go f dir (range_with_len 0 count) [] after h l

named_goes : (f : Fop) (parent : Object) (name : List ℕ) (place : Option ℕ) (next : Course) → Goes f next → Goes f (where_named parent name place next)
named_goes f parent name place next k = if_goes f _ _ (is_directory parent.kind) (if_goes f _ _ (nat_lt max_item_name (length name)) (ends_goes f _ _) k) (ends_goes f _ _)

named_dir : (f : Fop) (parent : Object) (name : List ℕ) (place : Option ℕ) (next : Course) → (is_directory parent.kind ≡ true → Goes f next) → Goes f (where_named parent name place next)
named_dir f parent name place next k = by_kind (is_directory parent.kind) k
  where
    by_kind : (b : Bool) → (b ≡ true → Goes f next) → Goes f (if b then (if nat_lt max_item_name (length name) then refuses Enametoolong place else next) else refuses Enotdir place)
    by_kind true k = if_goes f _ _ (nat_lt max_item_name (length name)) (ends_goes f _ _) (k refl)
    by_kind false k = ends_goes f _ _

on_name_goes : (f : Fop) (v : Volume) (names : List (List ℕ)) (kept : Kept) (parent : Object) (name : List ℕ) (ending : ℕ → Ending) → Holds (holds_of f) parent.gfid → ((hashed : ℕ) → EndsWell f (ending hashed)) → Goes f (on_name v names kept parent name ending)
on_name_goes f v names kept parent name ending h ends =
    named_goes f parent name None _
    (finds_go f (length names) parent.gfid (known_set v kept parent.gfid name) _ _ h (λ set. look_goes f parent.gfid name names 0 ending set h (ends set))
    (λ spans. look_goes f parent.gfid name names 0 ending (hashed_set spans name) h (ends (hashed_set spans name))))

-- ---- names of a directory

lookup_ends : (f : Fop) → EndsWell f lookup_found
lookup_ends f (found.Item set gfid k) seen = ends_goes f _ _
lookup_ends f found.Absent seen = ends_goes f _ _
lookup_ends f (found.Io error) seen = ends_goes f _ _

lists_go : (f : Fop) (dir : Gfid) (sets : List ℕ) (names : List Item) (place : Option ℕ) → Holds (holds_of f) dir → Goes f (lists_from dir sets names place)
lists_go f dir [] names place h = ends_goes f _ _
lists_go f dir (set ∷ sets) names place h = names_go f set dir _ h (λ shown. kept_goes f shown _ (lists_go f dir sets (merged names (real_items shown.items)) (Some shown.place) h))

births_go : (f : Fop) (v : Volume) (parent : Gfid) (name : List ℕ) (mode : ℕ) (drawn : Gfid) (sets : List ℕ) → is_lookup f ≡ false → HoldsExclusively (holds_of f) parent → drawn_by f ≡ Some drawn → ((span : Option Span) → IsBornBy f (op.MakeCopy drawn span)) → Goes f (births_from v parent name mode drawn sets)
births_go f v parent name mode drawn [] w h d b =
    change_goes f 0 (names_cell parent ∷ []) 0 (op.AddName parent (item_of name drawn kind.Dir) mode (Some (even_span v.sets 0))) (Some (entry v 1)) (Ends (answers.Call answer.Done)) w (one_alone f (names_cell parent) h) refl (λ number. ends_goes f (answers.Call answer.Done) number)
births_go f v parent name mode drawn (set ∷ sets) w h d b = birth_goes f set drawn _ _ (inr d) (b _) (λ number. births_go f v parent name mode drawn sets w h d b)

mkdir_ends : (f : Fop) (v : Volume) (parent : Gfid) (name : List ℕ) (mode : ℕ) (drawn : Gfid) → is_lookup f ≡ false → HoldsExclusively (holds_of f) parent → drawn_by f ≡ Some drawn → ((span : Option Span) → IsBornBy f (op.MakeCopy drawn span)) → EndsWell f (mkdir_found v parent name mode drawn)
mkdir_ends f v parent name mode drawn w h d b (found.Item set gfid k) seen = ends_goes f _ _
mkdir_ends f v parent name mode drawn w h d b found.Absent seen = births_go f v parent name mode drawn (sets_from v 1) w h d b
mkdir_ends f v parent name mode drawn w h d b (found.Io error) seen = ends_goes f _ _

create_ends : (f : Fop) (v : Volume) (parent : Gfid) (name : List ℕ) (mode : ℕ) (drawn : Gfid) (hashed : ℕ) → is_lookup f ≡ false → HoldsExclusively (holds_of f) parent → EndsWell f (create_found v parent name mode drawn hashed)
create_ends f v parent name mode drawn hashed w h (found.Item set gfid k) seen = ends_goes f _ _
create_ends f v parent name mode drawn hashed w h found.Absent seen =
    change_goes f hashed (names_cell parent ∷ []) 0 (op.AddName parent (item_of name drawn kind.File) mode None) (Some (entry v 1)) (Ends (answers.Found hashed drawn kind.File)) w (one_alone f (names_cell parent) h) refl (λ number. ends_goes f (answers.Found hashed drawn kind.File) number)
create_ends f v parent name mode drawn hashed w h (found.Io error) seen = ends_goes f _ _

link_goes : (f : Fop) (parent : Gfid) (name : List ℕ) (hashed : ℕ) (has_link : Bool) (number : Option ℕ) → is_lookup f ≡ false → HoldsExclusively (holds_of f) parent → Goes f (drops_link parent name hashed has_link number)
link_goes f parent name hashed has_link number w h = if_goes f _ _ has_link (any_goes f hashed _ 0 (op.DropName parent name) _ _ w (one_alone f (names_cell parent) h) refl (ends_goes f _ _)) (ends_goes f _ _)

unlink_ends : (f : Fop) (v : Volume) (parent : Gfid) (name : List ℕ) (hashed : ℕ) → is_lookup f ≡ false → HoldsExclusively (holds_of f) parent → EndsWell f (unlink_found v parent name hashed)
unlink_ends f v parent name hashed w h (found.Item set gfid k) seen =
    if_goes f _ _ (is_directory k) (ends_goes f _ _) (change_goes f set _ 0 (op.DropName parent name) _ _ w (one_alone f (names_cell parent) h) refl (λ number. link_goes f parent name hashed seen.has_link number w h))
unlink_ends f v parent name hashed w h found.Absent seen = ends_goes f _ _
unlink_ends f v parent name hashed w h (found.Io error) seen = ends_goes f _ _

-- by what a set shows of the directory
abbrev emptied : Volume → Gfid → List ℕ → Gfid → List ℕ → DirNames → Course
emptied v parent name gfid sets shown = if has_real_name shown.items then refuses Enotempty (Some shown.place) else empties v parent name gfid sets

full_goes : (f : Fop) (later : Handed) (place : ℕ) (next : Course) (b : Bool) → Always (IsCovered f) AnyHold AnyAnswer later next → Always (IsCovered f) AnyHold AnyAnswer later (if b then refuses Enotempty (Some place) else next)
full_goes f later place next true k = tt
full_goes f later place next false k = k

-- the directory that is removed is held once the hold was extended by it
empties_go : (f : Fop) (v : Volume) (parent : Gfid) (name : List ℕ) (gfid : Gfid) (sets : List ℕ) (handed : Handed) → is_lookup f ≡ false → HoldsExclusively (holds_of f) parent → HoldsExclusively (extensions handed) gfid → Always (IsCovered f) AnyHold AnyAnswer handed (empties v parent name gfid sets)
empties_go f v parent name gfid [] handed w h e = (
  record { alone = both_alone (own_holds f handed) parent gfid (alone_front (holds_of f) (extensions handed) parent h) (alone_back (holds_of f) (extensions handed) gfid e); whole = refl; no_lookup = w },
  λ reply. number_leads f (Replied 0 (job.Change (both_names parent gfid) 0 (op.DropDir parent name gfid) (Some (entry v 1))) reply ∷ handed) (Ends (answers.Call answer.Done)) (number_in reply) (λ number. tt),
)
empties_go f v parent name gfid (set ∷ sets) handed w h e = (
  (alone_holds (own_holds f handed) gfid (alone_back (holds_of f) (extensions handed) gfid e), tt),
  λ reply. names_lead f (Replied set (names_job gfid) reply ∷ handed) (emptied v parent name gfid sets) (names_in reply)
      (λ shown. full_goes f (Replied set (names_job gfid) reply ∷ handed) shown.place (empties v parent name gfid sets) (has_real_name shown.items) (empties_go f v parent name gfid sets (Replied set (names_job gfid) reply ∷ handed) w h e)),
)

rmdir_ends : (f : Fop) (v : Volume) (parent : Gfid) (name : List ℕ) → is_lookup f ≡ false → HoldsExclusively (holds_of f) parent → EndsWell f (rmdir_found v parent name)
rmdir_ends f v parent name w h (found.Item set gfid k) seen = if_goes f _ _ (is_directory k) (record { at = λ handed. (tt, empties_go f v parent name gfid (sets_from v 0) (Held gfid ∷ handed) w h (inl (refl, refl))) }) (ends_goes f _ _)
rmdir_ends f v parent name w h found.Absent seen = ends_goes f _ _
rmdir_ends f v parent name w h (found.Io error) seen = ends_goes f _ _

-- ---- rename

module _ (f : Fop) (w : is_lookup f ≡ false) (v : Volume) where
  old_link_goes : (source : Source) (number : Option ℕ) → HoldsExclusively (holds_of f) source.parent → Goes f (drops_old_link source number)
  old_link_goes source number h = link_goes f source.parent source.name source.hashed source.has_link number w h

  adds_goes : (r : Renaming) (number : Option ℕ) → HoldsExclusively (holds_of f) r.source.parent → HoldsExclusively (holds_of f) r.target → Goes f (adds_link r number)
  adds_goes r number h t = if_goes f _ _ (r.hashed == r.source.set) (old_link_goes r.source number h) (any_goes f r.hashed (names_cell r.target ∷ []) 0 (op.AddName r.target (link_of r) 0 None) None (drops_old_link r.source number) w (one_alone f (names_cell r.target) t) refl (old_link_goes r.source number h))

  moves_go : (r : Renaming) → HoldsExclusively (holds_of f) r.source.parent → HoldsExclusively (holds_of f) r.target → Goes f (moves v r)
  moves_go r h t = change_goes f r.source.set (both_names r.source.parent r.target) 0 (op.Move r.source.parent r.source.name r.target r.new_name) (Some (entry v 2)) (adds_link r) w
      (λ handed. both_alone (own_holds f handed) r.source.parent r.target (alone_front (holds_of f) (extensions handed) r.source.parent h) (alone_front (holds_of f) (extensions handed) r.target t))
      refl (λ number. adds_goes r number h t)

  bears_go : (r : Renaming) (copy : Bool) → HoldsExclusively (holds_of f) r.source.parent → HoldsExclusively (holds_of f) r.target → IsBornBy f (op.MakeCopy r.target None) → Goes f (bears v r copy)
  bears_go r true h t b = moves_go r h t
  bears_go r false h t b = birth_goes f r.source.set r.target None _ (inl t) b (λ number. moves_go r h t)

  replaces_go : (r : Renaming) (replaced : Option ℕ) (copy : Bool) → HoldsExclusively (holds_of f) r.source.parent → HoldsExclusively (holds_of f) r.target → IsBornBy f (op.MakeCopy r.target None) → Goes f (replaces v r replaced copy)
  replaces_go r None copy h t b = bears_go r copy h t b
  replaces_go r (Some set) copy h t b = change_goes f set (names_cell r.target ∷ []) 0 (op.DropName r.target r.new_name) (Some (entry v 1)) (λ number. bears v r copy) w (one_alone f (names_cell r.target) t) refl (λ number. bears_go r copy h t b)

  names_change : (r : Renaming) (replaced : Option ℕ) (copy : Option Bool) → HoldsExclusively (holds_of f) r.source.parent → HoldsExclusively (holds_of f) r.target → IsBornBy f (op.MakeCopy r.target None) → Goes f (changes_names v r replaced copy)
  names_change r replaced (Some copy) h t b = replaces_go r replaced copy h t b
  names_change r replaced None h t b = names_go f r.source.set r.target _ (alone_holds (holds_of f) r.target t) (λ shown. replaces_go r replaced shown.has_copy h t b)

  target_ends : (r : Renaming) → HoldsExclusively (holds_of f) r.source.parent → HoldsExclusively (holds_of f) r.target → IsBornBy f (op.MakeCopy r.target None) → EndsWell f (target_found v r)
  target_ends r h t b (found.Item set gfid k) seen = if_goes f _ _ (is_directory k) (ends_goes f _ _) (names_change r (other_set set r.source.set) seen.copy h t b)
  target_ends r h t b found.Absent seen = names_change r None seen.copy h t b
  target_ends r h t b (found.Io error) seen = ends_goes f _ _

  target_goes : (source : Source) (target : Gfid) (new_name : List ℕ) (names : List (List ℕ)) (second : Option ℕ) → HoldsExclusively (holds_of f) source.parent → HoldsExclusively (holds_of f) target → IsBornBy f (op.MakeCopy target None) → Goes f (looks_for_target v source target new_name names second)
  target_goes source target new_name names second h t b =
      finds_go f (length names) target second (looks_in target new_name names source.set (target_ending v source target new_name names))
      (λ spans. looks_in target new_name names source.set (target_ending v source target new_name names) (hashed_set spans new_name)) (alone_holds (holds_of f) target t)
      (λ set. look_goes f target new_name names source.set (target_ending v source target new_name names) set (alone_holds (holds_of f) target t) (target_ends (renaming source target new_name names set) h t b))
      (λ spans. look_goes f target new_name names source.set (target_ending v source target new_name names) (hashed_set spans new_name) (alone_holds (holds_of f) target t) (target_ends (renaming source target new_name names (hashed_set spans new_name)) h t b))

  source_ends : (parent : Gfid) (name : List ℕ) (names : List (List ℕ)) (target : Object) (new_name : List ℕ) (second : Option ℕ) (hashed : ℕ) → HoldsExclusively (holds_of f) parent → HoldsExclusively (holds_of f) target.gfid → (is_directory target.kind ≡ true → IsBornBy f (op.MakeCopy target.gfid None))
      → EndsWell f (source_found v parent name names target new_name second hashed)
  source_ends parent name names target new_name second hashed h t b (found.Item set gfid k) seen =
      if_goes f _ _ (is_directory k) (ends_goes f _ _) (named_dir f target new_name (Some seen.place) _ (λ dir. if_goes f _ _ (is_same_name parent name target.gfid new_name) (ends_goes f _ _) (target_goes (source_at parent name hashed seen.has_link set gfid) target.gfid new_name names second h t (b dir))))
  source_ends parent name names target new_name second hashed h t b found.Absent seen = ends_goes f _ _
  source_ends parent name names target new_name second hashed h t b (found.Io error) seen = ends_goes f _ _

-- ---- objects, and fops of the mount itself

cell_goes : (f : Fop) (v : Volume) (set : ℕ) (cell : Cell) (fd : ℕ) (o : StoreOp) (answer : FopAnswer) → is_lookup f ≡ false → HoldsExclusively (holds_of f) cell.gfid → (cell ∷ []) ≡ needs o → Goes f (changes_cell v set cell fd o answer)
cell_goes f v set cell fd o answer w h e = change_goes f set (cell ∷ []) fd o _ (Ends answer) w (one_alone f cell h) e (λ number. ends_goes f answer number)

opens_again_goes : (f : Fop) (fds : List OpenFd) → Goes f (opens_again fds)
opens_again_goes f [] = ends_goes f _ _
opens_again_goes f (one ∷ fds) = record { at = λ handed. (tt, λ reply. (opens_again_goes f fds).at _) }

heals_go : (f : Fop) (cells : List (ℕ × Cell)) → Goes f (heals cells)
heals_go f [] = ends_goes f _ _
heals_go f (one ∷ cells) = record { at = λ handed. (tt, λ reply. (heals_go f cells).at _) }

indexes_go : (f : Fop) (count : ℕ) (sets : List ℕ) (cells : List (ℕ × Cell)) → Goes f (indexes count sets cells)
indexes_go f count [] cells = heals_go f cells
indexes_go f count (set ∷ sets) cells = record { at = λ handed. (tt, λ reply. (indexes_go f count sets (with_cells cells count set (cells_in reply))).at _) }

-- ---- all

pub courses_covered : (v : Volume) (names : List (List ℕ)) (kept : Kept) (f : Fop) → Goes f (fop_course v names kept f)
courses_covered v names kept (fop.Lookup parent name) = let f = fop.Lookup parent name in on_name_goes f v names kept parent name (λ hashed. lookup_found) (inl refl) (λ hashed. lookup_ends f)
courses_covered v names kept (fop.Mkdir parent name mode drawn) = let f = fop.Mkdir parent name mode drawn in on_name_goes f v names kept parent name (λ hashed. mkdir_found v parent.gfid name mode drawn) (inl refl) (λ hashed. mkdir_ends f v parent.gfid name mode drawn refl (inl (refl, refl)) refl (λ span. refl))
courses_covered v names kept (fop.Rmdir parent name) = let f = fop.Rmdir parent name in on_name_goes f v names kept parent name (λ hashed. rmdir_found v parent.gfid name) (inl refl) (λ hashed. rmdir_ends f v parent.gfid name refl (inl (refl, refl)))
courses_covered v names kept (fop.Create fd parent name mode drawn) = let f = fop.Create fd parent name mode drawn in on_name_goes f v names kept parent name (create_found v parent.gfid name mode drawn) (inl refl) (λ hashed. create_ends f v parent.gfid name mode drawn hashed refl (inl (refl, refl)))
courses_covered v names kept (fop.Unlink parent name) = let f = fop.Unlink parent name in on_name_goes f v names kept parent name (unlink_found v parent.gfid name) (inl refl) (λ hashed. unlink_ends f v parent.gfid name hashed refl (inl (refl, refl)))
courses_covered v names kept (fop.Rename parent name target new_name) =
    let f = fop.Rename parent name target new_name in
    let known = known_set v kept target.gfid new_name in
    let by_layout : List (Option Span) → ℕ → Ending = λ spans. source_found v parent.gfid name names target new_name (second_set parent.gfid target.gfid new_name known spans) in
    named_goes f parent name None _
    (finds_go f (length names) parent.gfid (known_set v kept parent.gfid name) (looks_in parent.gfid name names 0 (source_found v parent.gfid name names target new_name known))
    (λ spans. looks_in parent.gfid name names 0 (by_layout spans) (hashed_set spans name)) (inl refl)
    (λ set. look_goes f parent.gfid name names 0 (source_found v parent.gfid name names target new_name known) set (inl refl) (source_ends f refl v parent.gfid name names target new_name known set (inl (refl, refl)) (inr (inl (refl, refl))) (λ dir. (refl, dir))))
    (λ spans. look_goes f parent.gfid name names 0 (by_layout spans) (hashed_set spans name) (inl refl)
    (source_ends f refl v parent.gfid name names target new_name (second_set parent.gfid target.gfid new_name known spans) (hashed_set spans name) (inl (refl, refl)) (inr (inl (refl, refl))) (λ dir. (refl, dir)))))
courses_covered v names kept (fop.Open fd object) =
    let f = fop.Open fd object in
    if_goes f _ _ (is_directory object.kind) (ends_goes f _ _) (record { at = λ handed. (tt, λ reply. number_leads f (Replied object.set (job.Open fd object.gfid) reply ∷ handed) opened (number_in reply) (λ number. tt)) })
courses_covered v names kept (fop.Stat object) =
    let f = fop.Stat object in
    if_goes f _ _ (is_directory object.kind) (read_goes f 0 (meta_cell object.gfid ∷ []) 0 _ dir_stat (one_held f (meta_cell object.gfid) (inl refl)) (λ contents place. ends_goes f _ _))
    (read_goes f object.set (data_cell object.gfid ∷ meta_cell object.gfid ∷ []) 0 false file_stat (λ handed. (inl refl, (inl refl, tt))) (λ contents place. ends_goes f _ _))
courses_covered v names kept (fop.List object) =
    let f = fop.List object in if_goes f _ _ (is_directory object.kind) (lists_go f object.gfid (sets_from v 0) [] None (inl refl)) (ends_goes f _ _)
courses_covered v names kept (fop.Chmod object mode) = cell_goes (fop.Chmod object mode) v (home object) (meta_cell object.gfid) 0 (op.SetMode object.gfid mode) _ refl (inl (refl, refl)) refl
courses_covered v names kept (fop.Truncate object size) =
    let f = fop.Truncate object size in
    if_goes f _ _ (is_directory object.kind) (ends_goes f _ _)
    (if_goes f _ _ (nat_lt file_limit size) (ends_goes f _ _) (cell_goes f v object.set (data_cell object.gfid) 0 (op.Truncate object.gfid size) _ refl (inl (refl, refl)) refl))
courses_covered v names kept (fop.SetAttr object attr) = cell_goes (fop.SetAttr object attr) v (home object) (meta_cell object.gfid) 0 (op.SetAttr object.gfid attr) _ refl (inl (refl, refl)) refl
courses_covered v names kept (fop.GetAttr object name) =
    read_goes (fop.GetAttr object name) (home object) (meta_cell object.gfid ∷ []) 0 _ (attr_read name) (one_held (fop.GetAttr object name) (meta_cell object.gfid) (inl refl)) (λ contents place. got (attr_named (attrs_of (first_content contents)) name) place)
  where
    got : (attr : Option Attr) (place : ℕ) → Goes (fop.GetAttr object name) (attr_value attr place)
    got None place = ends_goes _ _ _
    got (Some attr) place = ends_goes _ _ _
courses_covered v names kept (fop.DelAttr object name) =
    read_goes (fop.DelAttr object name) (home object) (meta_cell object.gfid ∷ []) 0 _ (attr_seen v object name) (one_held (fop.DelAttr object name) (meta_cell object.gfid) (inl refl)) (λ contents place. dropped (attr_named (attrs_of (first_content contents)) name) place)
  where
    dropped : (attr : Option Attr) (place : ℕ) → Goes (fop.DelAttr object name) (drops_attr v object name attr place)
    dropped None place = ends_goes _ _ _
    dropped (Some attr) place = cell_goes (fop.DelAttr object name) v (home object) (meta_cell object.gfid) 0 (op.DelAttr object.gfid name) _ refl (inl (refl, refl)) refl
courses_covered v names kept (fop.Read fd object offset count) =
    let f = fop.Read fd object offset count in
    if_goes f _ _ (is_directory object.kind) (ends_goes f _ _) (read_goes f object.set (data_cell object.gfid ∷ []) fd false (bytes_read offset count) (λ handed. (inl refl, tt)) (λ contents place. ends_goes f _ _))
courses_covered v names kept (fop.Write fd object offset bytes) =
    if_goes (fop.Write fd object offset bytes) _ _ (is_directory object.kind) (ends_goes _ _ _)
    (if_goes (fop.Write fd object offset bytes) _ _ (nat_lt file_limit (offset + length bytes)) (ends_goes _ _ _) (some_bytes bytes))
  where
    some_bytes : (written : List ℕ) → Goes (fop.Write fd object offset bytes) (writes_some v object fd offset written)
    some_bytes [] = ends_goes _ _ _
    some_bytes (first ∷ rest) = cell_goes (fop.Write fd object offset bytes) v object.set (data_cell object.gfid) fd (op.Write object.gfid offset (first ∷ rest)) _ refl (inl (refl, refl)) refl
courses_covered v names kept (fop.Migrate fds) = opens_again_goes _ fds
courses_covered v names kept (fop.Heal count) = indexes_go _ count (sets_from v 0) []
