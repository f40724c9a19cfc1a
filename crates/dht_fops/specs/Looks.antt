-- A look at a name of a directory: where the layout has to be read it is read, set by set, rising; then the directory's
-- names are read along the sets as the search for the name says. A copy that shows the directory removed ends the fop.
use Rattle.std.specs.Prelude.{ℕ, ◌==◌, true, false, List, [], ◌∷◌, ◌++◌, Option, Some, None, length, nat_lt, if◌then◌else◌}
use Rattle.std.specs.List.{range_with_len}
use Rattle.dht_linkto.specs.DirNames.{names_job, first_content}
use Rattle.dht_linkto.specs.Search.{Search, search_of, led, set_named}
use Rattle.dht_linkto.specs.declared.found.Found.{Found}
use Rattle.dht_linkto.specs.declared.found.Found.TheVariants as found
use Rattle.dht_linkto.specs.declared.names.DirNames.{DirNames}
use Rattle.dht_fops.specs.Courses.{Course, refuses, after_read, after_names}
use Rattle.dht_fops.specs.Courses.Course.{Asks}
use Rattle.dht_fops.specs.declared.look.Seen.{Seen}
use Rattle.fop_types.specs.Cells.{meta_cell}
use Rattle.fop_types.specs.Limits.{max_item_name}
use Rattle.fop_types.specs.Names.{item_named, is_link, is_directory}
use Rattle.fop_types.specs.declared.answers.AppError.TheVariants.{Enoent, Enotdir, Enametoolong}
use Rattle.fop_types.specs.declared.cells.Gfid.{Gfid}
use Rattle.fop_types.specs.declared.contents.Content.{Content}
use Rattle.fop_types.specs.declared.contents.Content.TheVariants.{Bytes, Meta, Names}
use Rattle.fop_types.specs.declared.contents.Item.{Item}
use Rattle.fop_types.specs.declared.contents.Span.{Span}
use Rattle.fop_types.specs.declared.fops.Object.{Object}
use Rattle.fop_types.specs.declared.jobs.Job.{Job}
use Rattle.fop_types.specs.declared.jobs.Job.TheVariants as job

-- what needs no lock: an object that is no directory, and a name that is too long
abbrev pub where_named : Object → List ℕ → Option ℕ → Course → Course
where_named parent name place next =
    if is_directory parent.kind then (if nat_lt max_item_name (length name) then refuses Enametoolong place else next)
    else refuses Enotdir place

-- ---- the layout

abbrev pub span_of : Option Content → Option Span
span_of None = None
span_of (Some (Bytes bytes)) = None
span_of (Some (Meta mode attrs span)) = span
span_of (Some (Names removed items)) = None

abbrev pub span_job : Gfid → Job
span_job dir = job.Read (meta_cell dir ∷ []) 0 true

-- the ranges of the sets, which are read in order; `spans` were read before
abbrev pub reads_spans : Gfid → List ℕ → List (Option Span) → (List (Option Span) → Course) → Course
reads_spans dir [] spans next = next spans
reads_spans dir (set ∷ sets) spans next =
    Asks set (span_job dir) (after_read (λ contents place. reads_spans dir sets (spans ++ span_of (first_content contents) ∷ []) next))

-- ---- the names

-- What a look has in hand: the place of its last read, whether the hashed set showed a link of the name, and whether the
-- watched set has a copy of the directory, once that set was read.
abbrev pub unseen : Seen
unseen = record { place = 0; has_link = false; copy = None }

-- with what one more set showed
abbrev pub seen_on : ℕ → ℕ → Seen → DirNames → Seen
seen_on watched set seen shown = record seen { place = shown.place; copy = if set == watched then Some shown.has_copy else seen.copy }

-- how a look ends: by what it found
abbrev pub Ending : Type 0
Ending = Found → Seen → Course

-- by the item of the name on a set
abbrev pub by_item : ℕ → Seen → Ending → Course → Option Item → Course
by_item set seen ending later None = later
by_item set seen ending later (Some item) =
    if is_link item.kind then later else ending (found.Item set item.gfid item.kind) seen

abbrev pub where_kept : DirNames → Course → Course
where_kept shown next = if shown.removed then refuses Enoent (Some shown.place) else next

-- along the sets, until one shows the name
abbrev pub looks_along : Gfid → List ℕ → ℕ → List ℕ → Seen → Ending → Course
looks_along dir name watched [] seen ending = ending found.Absent seen
looks_along dir name watched (set ∷ sets) seen ending =
    Asks set (names_job dir)
    (after_names (λ shown. where_kept shown
    (by_item set (seen_on watched set seen shown) ending
    (looks_along dir name watched sets (seen_on watched set seen shown) ending)
    (item_named shown.items name))))

-- after the hashed set, by the item of the name there
abbrev pub looks_on : Search → ℕ → Seen → Ending → Option Item → Course
looks_on s watched seen ending None = looks_along s.parent s.name watched s.rest seen ending
looks_on s watched seen ending (Some item) =
    if is_link item.kind then looks_along s.parent s.name watched (led s.hashed s.rest (set_named s.names item.target)) (record seen { has_link = true }) ending
    else ending (found.Item s.hashed item.gfid item.kind) seen

-- the hashed set is read first
abbrev pub looks : Search → ℕ → Ending → Course
looks s watched ending =
    Asks s.hashed (names_job s.parent)
    (after_names (λ shown. where_kept shown (looks_on s watched (seen_on watched s.hashed unseen shown) ending (item_named shown.items s.name))))

-- ---- both

-- a look at a name that belongs to this set
abbrev pub looks_in : Gfid → List ℕ → List (List ℕ) → ℕ → (ℕ → Ending) → ℕ → Course
looks_in dir name names watched ending hashed = looks (search_of dir name names hashed) watched (ending hashed)

-- by the set to which the name belongs, where it is known; else the directory's layout is read on each of so many sets
abbrev pub finds : ℕ → Gfid → Option ℕ → (ℕ → Course) → (List (Option Span) → Course) → Course
finds count dir (Some set) next after = next set
finds count dir None next after = reads_spans dir (range_with_len 0 count) [] after
