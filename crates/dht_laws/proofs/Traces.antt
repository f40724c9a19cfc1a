-- Answers are placed at the latest read or change with an effect, and changes of links and births rest on what was seen:
-- what replies lead to, and looks.
use Rattle.std.specs.List.{range_with_len}
use Rattle.std.proofs.lemmas.Bool.{eqb-true}
use Rattle.std.proofs.lemmas.List.{length-append}
use Rattle.std.proofs.Common.{◌≡◌, ℕ, zero, suc, ◌+◌, ◌==◌, inl, Bool, true, false, List, [], ◌∷◌, ◌++◌, Option, Some, None, Result, Ok, Err, if◌then◌else◌, length, refl, ap, sym, subst, arith}
use Rattle.dht_linkto.specs.DirNames.{names_job, names_in, names_shown, first_content}
use Rattle.dht_linkto.specs.Search.{Search, search_of, led, set_named}
use Rattle.dht_linkto.specs.declared.found.Found.{Found}
use Rattle.dht_linkto.specs.declared.found.Found.TheVariants as found
use Rattle.dht_linkto.specs.declared.names.DirNames.{DirNames}
use Rattle.dht_fops.specs.Courses.{Course, on_contents, after_read, contents_in, on_names, after_names, on_number, after_change, number_in, changes}
use Rattle.dht_fops.specs.Courses.Course.{Asks}
use Rattle.dht_fops.proofs.Handing.{Later, later_same, later_push, later_then, no_error}
use Rattle.dht_laws.specs.Births.{WasBorn}
use Rattle.dht_fops.specs.Entries.{birth_job}
use Rattle.dht_fops.specs.Founded.{IsNoError}
use Rattle.dht_fops.specs.Handed.{Handed, Always, AnyHold, Saw}
use Rattle.dht_laws.specs.Links.{SawLink, SawNoCopy, SawCopy, IsOfLink, IsOfCopy, IsIntoCopy}
use Rattle.dht_fops.specs.Additions.{SawSpan, SawSpans, ShowsSpan, IsOnSet, IsLinkOnSet}
use Rattle.dht_fops.specs.Volumes.{Kept}
use Rattle.dht_fops.specs.declared.volume.Volume.{Volume}
use Rattle.dht_fops.specs.Handed.Event.{Replied}
use Rattle.dht_fops.specs.Looks.{Ending, where_kept, span_job, by_item, looks_along, looks_on, looks_in, finds, reads_spans, span_of, seen_on, unseen}
use Rattle.dht_laws.specs.Places.{last_place, place_read, place_made, IsPlaced}
use Rattle.dht_laws.proofs.Arguments.{Seen}
use Rattle.fop_types.specs.Names.{item_named, is_link}
use Rattle.fop_types.specs.declared.answers.IoError.{IoError}
use Rattle.fop_types.specs.declared.cells.Cell.{Cell}
use Rattle.fop_types.specs.declared.cells.Gfid.{Gfid}
use Rattle.fop_types.specs.declared.contents.Content.{Content}
use Rattle.fop_types.specs.declared.contents.Item.{Item}
use Rattle.fop_types.specs.declared.contents.Span.{Span}
use Rattle.fop_types.specs.declared.fops.Fop.{Fop}
use Rattle.fop_types.specs.declared.history.Entry.{Entry}
use Rattle.fop_types.specs.declared.jobs.Job.{Job}
use Rattle.fop_types.specs.declared.jobs.Job.TheVariants as job
use Rattle.fop_types.specs.declared.jobs.SetReply.{SetReply}
use Rattle.fop_types.specs.declared.jobs.SetReply.TheVariants as reply
use Rattle.fop_types.specs.declared.store_ops.StoreOp.{StoreOp}
use Rattle.fop_types.specs.declared.store_ops.StoreOp.TheVariants as op

-- the fop, its volume, the names of the sets, and the layouts that are kept
pub record Given : Type 0 where
  pub volume : Volume
  pub names : List (List ℕ)
  pub kept : Kept
  pub fop : Fop

-- what a job rests on, and where names are added
abbrev pub IsRested : Given → Handed → ℕ → Job → Type 0
IsRested g handed set (job.Change cells fd o (Some entry)) = IsIntoCopy handed set o × IsOnSet g.volume (length g.names) g.kept handed set o
IsRested g handed set (job.Change cells fd o None) = IsOfLink handed set o × IsLinkOnSet g.volume (length g.names) g.kept handed set o
IsRested g handed set (job.Birth cells o) = IsOfCopy g.fop handed set o
IsRested g handed set (job.Read cells fd dir) = Unit {0}
IsRested g handed set (job.Open fd gfid) = Unit {0}
IsRested g handed set job.Index = Unit {0}
IsRested g handed set (job.Heal cell) = Unit {0}

abbrev pub Traces : Given → Handed → Course → Type 0
Traces g handed course = Always (IsRested g) AnyHold IsPlaced handed course

-- ---- an I/O error that a reply leads to is the reply's

error_same : (one two : IoError) → ◌≡◌ {A = Result DirNames IoError} (Err one) (Err two) → reply.Io one ≡ reply.Io two
error_same one two e = let same : one ≡ two = cc in ap (λ (error : IoError). reply.Io error) same

pub names_error : (r : SetReply) (error : IoError) → names_in r ≡ Err error → r ≡ reply.Io error
names_error (reply.Contents contents place) error e = absurd cc
names_error (reply.Decided number) error e = absurd cc
names_error reply.Opened error e = absurd cc
names_error (reply.Listed cells group short) error e = absurd cc
names_error (reply.Healed records) error e = absurd cc
names_error (reply.Skipped cause) error e = absurd cc
names_error (reply.Io own) error e = error_same own error e

pub contents_error : (r : SetReply) (error : IoError) → contents_in r ≡ Err error → r ≡ reply.Io error
contents_error (reply.Contents contents place) error e = absurd cc
contents_error (reply.Decided number) error e = absurd cc
contents_error reply.Opened error e = absurd cc
contents_error (reply.Listed cells group short) error e = absurd cc
contents_error (reply.Healed records) error e = absurd cc
contents_error (reply.Skipped cause) error e = absurd cc
contents_error (reply.Io own) error e = let same : own ≡ error = cc in ap (λ (one : IoError). reply.Io one) same

pub number_error : (r : SetReply) (error : IoError) → number_in r ≡ Err error → r ≡ reply.Io error
number_error (reply.Contents contents place) error e = absurd cc
number_error (reply.Decided number) error e = absurd cc
number_error reply.Opened error e = absurd cc
number_error (reply.Listed cells group short) error e = absurd cc
number_error (reply.Healed records) error e = absurd cc
number_error (reply.Skipped cause) error e = absurd cc
number_error (reply.Io own) error e = let same : own ≡ error = cc in ap (λ (one : IoError). reply.Io one) same

-- ---- the place of a read of names

shown_place : (contents : Option Content) (place : ℕ) (shown : DirNames) → ◌≡◌ {A = Result DirNames IoError} (Ok (names_shown contents place)) (Ok shown) → Some place ≡ Some shown.place
shown_place contents place shown e = let same : names_shown contents place ≡ shown = cc in ap (λ (d : DirNames). Some d.place) same

names_place : (r : SetReply) (shown : DirNames) → names_in r ≡ Ok shown → place_read (contents_in r) ≡ Some shown.place
names_place (reply.Contents contents place) shown e = shown_place (first_content contents) place shown e
names_place (reply.Decided number) shown e = shown_place None 0 shown e
names_place reply.Opened shown e = shown_place None 0 shown e
names_place (reply.Listed cells group short) shown e = shown_place None 0 shown e
names_place (reply.Healed records) shown e = shown_place None 0 shown e
names_place (reply.Skipped cause) shown e = shown_place None 0 shown e
names_place (reply.Io error) shown e = absurd cc

-- ---- what a reply leads to

-- the course goes well by what a read of names showed, and its place
abbrev pub OnShown : Given → Handed → Gfid → ℕ → (DirNames → Course) → Type 0
OnShown g handed dir set next = (later : Handed) (shown : DirNames) → Later handed later → Saw later dir set shown → last_place later ≡ Some shown.place → Traces g later (next shown)

names_lead : (g : Given) (handed : Handed) (set : ℕ) (dir : Gfid) (r : SetReply) (next : DirNames → Course) (read : Result DirNames IoError) → names_in r ≡ read → OnShown g handed dir set next
    → Traces g (Replied set (names_job dir) r ∷ handed) (on_names next read)
names_lead g handed set dir r next (Ok shown) e k =
    k (Replied set (names_job dir) r ∷ handed) shown (later_push (Replied set (names_job dir) r) handed) (inl (refl, refl, e)) (names_place r shown e)
names_lead g handed set dir r next (Err error) e k = (refl, names_error r error e)

pub names_traced : (g : Given) (handed : Handed) (set : ℕ) (dir : Gfid) (next : DirNames → Course) → OnShown g handed dir set next → Traces g handed (Asks set (names_job dir) (after_names next))
names_traced g handed set dir next k = (tt, λ r. names_lead g handed set dir r next (names_in r) refl k)

-- by the contents that a read showed, which have the range of a directory where its metadata was read
abbrev pub OnContents : Given → Handed → ℕ → Job → (List (Option Content) → ℕ → Course) → Type 0
OnContents g handed set j next =
    (later : Handed) (contents : List (Option Content)) (place : ℕ) → Later handed later → last_place later ≡ Some place → ((dir : Gfid) → j ≡ span_job dir → SawSpan later dir set (span_of (first_content contents))) → Traces g later (next contents place)

span_shown : (read : Result (List (Option Content) × ℕ) IoError) (one : List (Option Content) × ℕ) → read ≡ Ok one → ShowsSpan read (span_of (first_content one.0))
span_shown (Ok read) one e = let same : read ≡ one = cc in ap (λ (r : List (Option Content) × ℕ). span_of (first_content r.0)) same
span_shown (Err error) one e = absurd cc

contents_lead : (g : Given) (handed : Handed) (set : ℕ) (cells : List Cell) (fd : ℕ) (dir : Bool) (r : SetReply) (next : List (Option Content) → ℕ → Course) (read : Result (List (Option Content) × ℕ) IoError) → contents_in r ≡ read
    → OnContents g handed set (job.Read cells fd dir) next → Traces g (Replied set (job.Read cells fd dir) r ∷ handed) (on_contents next read)
contents_lead g handed set cells fd dir r next (Ok read) e k =
    k (Replied set (job.Read cells fd dir) r ∷ handed) read.0 read.1 (later_push (Replied set (job.Read cells fd dir) r) handed) (ap place_read e)
    (λ of_dir same. inl (refl, same, span_shown (contents_in r) read e))
contents_lead g handed set cells fd dir r next (Err error) e k = (refl, contents_error r error e)

pub read_traced : (g : Given) (handed : Handed) (set : ℕ) (cells : List Cell) (fd : ℕ) (dir : Bool) (next : List (Option Content) → ℕ → Course) → OnContents g handed set (job.Read cells fd dir) next → Traces g handed (Asks set (job.Read cells fd dir) (after_read next))
read_traced g handed set cells fd dir next k = (tt, λ r. contents_lead g handed set cells fd dir r next (contents_in r) refl k)

-- by the number of the entry
abbrev pub OnMade : Given → Handed → ℕ → List Cell → ℕ → StoreOp → Entry → (Option ℕ → Course) → Type 0
OnMade g handed set cells fd op entry next =
    (said : SetReply) (number : Option ℕ) → IsNoError said → last_place (Replied set (job.Change cells fd op (Some entry)) said ∷ handed) ≡ number → Traces g (Replied set (job.Change cells fd op (Some entry)) said ∷ handed) (next number)

change_leads : (g : Given) (handed : Handed) (set : ℕ) (cells : List Cell) (fd : ℕ) (op : StoreOp) (entry : Entry) (r : SetReply) (next : Option ℕ → Course) (read : Result (Option ℕ) IoError) → number_in r ≡ read
    → OnMade g handed set cells fd op entry next → Traces g (Replied set (job.Change cells fd op (Some entry)) r ∷ handed) (on_number next read)
change_leads g handed set cells fd op entry r next (Ok number) e k = k r number (no_error r number e) (ap place_made e)
change_leads g handed set cells fd op entry r next (Err error) e k = (refl, number_error r error e)

pub change_traced : (g : Given) (handed : Handed) (set : ℕ) (cells : List Cell) (fd : ℕ) (op : StoreOp) (entry : Entry) (next : Option ℕ → Course) → IsIntoCopy handed set op → IsOnSet g.volume (length g.names) g.kept handed set op → OnMade g handed set cells fd op entry next → Traces g handed (changes set cells fd op (Some entry) next)
change_traced g handed set cells fd op entry next c b k = ((c, b), λ r. change_leads g handed set cells fd op entry r next (number_in r) refl k)

-- a birth leaves the place
abbrev pub OnBorn : Given → Handed → ℕ → Gfid → Option Span → (Option ℕ → Course) → Type 0
OnBorn g handed set gfid span next =
    (later : Handed) (number : Option ℕ) → Later handed later → WasBorn later set gfid span → last_place later ≡ last_place handed → Traces g later (next number)

birth_leads : (g : Given) (handed : Handed) (set : ℕ) (gfid : Gfid) (span : Option Span) (r : SetReply) (next : Option ℕ → Course) (read : Result (Option ℕ) IoError) → number_in r ≡ read → OnBorn g handed set gfid span next
    → Traces g (Replied set (birth_job gfid span) r ∷ handed) (on_number next read)
birth_leads g handed set gfid span r next (Ok number) e k =
    k (Replied set (birth_job gfid span) r ∷ handed) number (later_push (Replied set (birth_job gfid span) r) handed) (inl (refl, refl, no_error r number e)) refl
birth_leads g handed set gfid span r next (Err error) e k = (refl, number_error r error e)

pub birth_traced : (g : Given) (handed : Handed) (set : ℕ) (gfid : Gfid) (span : Option Span) (next : Option ℕ → Course) → IsOfCopy g.fop handed set (op.MakeCopy gfid span) → OnBorn g handed set gfid span next
    → Traces g handed (Asks set (birth_job gfid span) (after_change next))
birth_traced g handed set gfid span next b k = (b, λ r. birth_leads g handed set gfid span r next (number_in r) refl k)

-- and so does the opening of a descriptor
open_leads : (g : Given) (handed : Handed) (set fd : ℕ) (gfid : Gfid) (r : SetReply) (next : Option ℕ → Course) (read : Result (Option ℕ) IoError) → number_in r ≡ read
    → ((later : Handed) (number : Option ℕ) → last_place later ≡ last_place handed → Traces g later (next number)) → Traces g (Replied set (job.Open fd gfid) r ∷ handed) (on_number next read)
open_leads g handed set fd gfid r next (Ok number) e k = k (Replied set (job.Open fd gfid) r ∷ handed) number refl
open_leads g handed set fd gfid r next (Err error) e k = (refl, number_error r error e)

pub open_traced : (g : Given) (handed : Handed) (set fd : ℕ) (gfid : Gfid) (next : Option ℕ → Course)
    → ((later : Handed) (number : Option ℕ) → last_place later ≡ last_place handed → Traces g later (next number)) → Traces g handed (Asks set (job.Open fd gfid) (after_change next))
open_traced g handed set fd gfid next k = (tt, λ r. open_leads g handed set fd gfid r next (number_in r) refl k)

-- ---- tests

pub if_traced : (g : Given) (handed : Handed) (one other : Course) (b : Bool) → (b ≡ true → Traces g handed one) → (b ≡ false → Traces g handed other) → Traces g handed (if b then one else other)
if_traced g handed one other true k m = k refl
if_traced g handed one other false k m = m refl

pub kept_traced : (g : Given) (handed : Handed) (shown : DirNames) (next : Course) → last_place handed ≡ Some shown.place → Traces g handed next → Traces g handed (where_kept shown next)
kept_traced g handed shown next e k = if_traced g handed _ _ shown.removed (λ gone. sym e) (λ kept. k)

-- ---- looks

-- what is found in sets that could be read
abbrev pub IsRead : Found → Type 0
IsRead (found.Item set gfid kind) = Unit {0}
IsRead found.Absent = Unit {0}
IsRead (found.Io error) = ⊥

pub link_later : (a b : Handed) (dir : Gfid) (name : List ℕ) (set : ℕ) → Later a b → SawLink a dir name set → SawLink b dir name set
link_later a b dir name set l s = record { shown = s.shown; saw = l.saw dir set s.shown s.saw; item = s.item; named = s.named; link = s.link }

-- whether the set showed a copy of the directory
pub record SawWhether (handed : Handed) (dir : Gfid) (set : ℕ) (there : Bool) : Type 0 where
  pub shown : DirNames
  pub saw : Saw handed dir set shown
  pub there_is : shown.has_copy ≡ there

pub whether_later : (a b : Handed) (dir : Gfid) (set : ℕ) (there : Bool) → Later a b → SawWhether a dir set there → SawWhether b dir set there
whether_later a b dir set there l s = record { shown = s.shown; saw = l.saw dir set s.shown s.saw; there_is = s.there_is }

pub saw_copy : (handed : Handed) (dir : Gfid) (set : ℕ) → SawWhether handed dir set true → SawCopy handed dir set
saw_copy handed dir set s = record { shown = s.shown; saw = s.saw; there = s.there_is }

pub saw_no_copy : (handed : Handed) (dir : Gfid) (set : ℕ) → SawWhether handed dir set false → SawNoCopy handed dir set
saw_no_copy handed dir set s = record { shown = s.shown; saw = s.saw; none = s.there_is }

-- a look has in hand what the sets showed
pub record IsInHand (handed : Handed) (dir : Gfid) (name : List ℕ) (hashed watched : ℕ) (seen : Seen) : Type 0 where
  pub place : last_place handed ≡ Some seen.place
  pub link : seen.has_link ≡ true → SawLink handed dir name hashed
  pub copy : (there : Bool) → seen.copy ≡ Some there → SawWhether handed dir watched there

-- what was in hand of links and copies before one more set is read
pub record WasInHand (handed : Handed) (dir : Gfid) (name : List ℕ) (hashed watched : ℕ) (seen : Seen) : Type 0 where
  pub link : seen.has_link ≡ true → SawLink handed dir name hashed
  pub copy : (there : Bool) → seen.copy ≡ Some there → SawWhether handed dir watched there

copy_by : (handed later : Handed) (dir : Gfid) (set watched : ℕ) (seen : Option Bool) (shown : DirNames) (b : Bool) → (set == watched) ≡ b → Later handed later → Saw later dir set shown
    → ((there : Bool) → seen ≡ Some there → SawWhether handed dir watched there) → (there : Bool) → (if b then Some shown.has_copy else seen) ≡ Some there → SawWhether later dir watched there
copy_by handed later dir set watched seen shown true e l saw before there is =
    let same : shown.has_copy ≡ there = cc in
    let here : set ≡ watched = eqb-true set watched e in
    record { shown = shown; saw = subst (λ (one : ℕ). Saw later dir one shown) here saw; there_is = same }
copy_by handed later dir set watched seen shown false e l saw before there is = whether_later handed later dir watched there l (before there is)

in_hand : (handed later : Handed) (dir : Gfid) (name : List ℕ) (hashed watched set : ℕ) (seen : Seen) (shown : DirNames) → Later handed later → Saw later dir set shown → last_place later ≡ Some shown.place
    → WasInHand handed dir name hashed watched seen → IsInHand later dir name hashed watched (seen_on watched set seen shown)
in_hand handed later dir name hashed watched set seen shown l saw at was = record {
  place = at;
  link = λ has. link_later handed later dir name hashed l (was.link has);
  copy = copy_by handed later dir set watched seen.copy shown (set == watched) refl l saw was.copy;
}

was_in_hand : (handed : Handed) (dir : Gfid) (name : List ℕ) (hashed watched : ℕ) (seen : Seen) → IsInHand handed dir name hashed watched seen → WasInHand handed dir name hashed watched seen
was_in_hand handed dir name hashed watched seen h = record { link = h.link; copy = h.copy }

-- an ending goes well, whatever was found, with what the look has in hand
abbrev pub EndsTraced : Given → Handed → Gfid → List ℕ → ℕ → ℕ → Ending → Type 0
EndsTraced g handed dir name hashed watched ending =
    (result : Found) (seen : Seen) (later : Handed) → Later handed later → IsRead result → IsInHand later dir name hashed watched seen → Traces g later (ending result seen)

ends_later : (g : Given) (a b : Handed) (dir : Gfid) (name : List ℕ) (hashed watched : ℕ) (ending : Ending) → Later a b → EndsTraced g a dir name hashed watched ending → EndsTraced g b dir name hashed watched ending
ends_later g a b dir name hashed watched ending l ends = λ result seen later m r h. ends result seen later (later_then a b later l m) r h

item_traced : (g : Given) (handed : Handed) (dir : Gfid) (name : List ℕ) (hashed watched set : ℕ) (seen : Seen) (ending : Ending) (rest : Course) (item : Option Item) → IsInHand handed dir name hashed watched seen → EndsTraced g handed dir name hashed watched ending
    → Traces g handed rest → Traces g handed (by_item set seen ending rest item)
item_traced g handed dir name hashed watched set seen ending rest None h ends k = k
item_traced g handed dir name hashed watched set seen ending rest (Some item) h ends k =
    if_traced g handed rest (ending (found.Item set item.gfid item.kind) seen) (is_link item.kind) (λ link. k) (λ real. ends (found.Item set item.gfid item.kind) seen handed (later_same handed) tt h)

along_traced : (g : Given) (dir : Gfid) (name : List ℕ) (hashed watched : ℕ) (sets : List ℕ) (seen : Seen) (ending : Ending) (handed : Handed) → IsInHand handed dir name hashed watched seen → EndsTraced g handed dir name hashed watched ending
    → Traces g handed (looks_along dir name watched sets seen ending)
along_traced g dir name hashed watched [] seen ending handed h ends = ends found.Absent seen handed (later_same handed) tt h
along_traced g dir name hashed watched (set ∷ sets) seen ending handed h ends =
    names_traced g handed set dir _
    (λ later shown l saw at.
    let now = in_hand handed later dir name hashed watched set seen shown l saw at (was_in_hand handed dir name hashed watched seen h) in
    let last = ends_later g handed later dir name hashed watched ending l ends in
    kept_traced g later shown _ at
    (item_traced g later dir name hashed watched set (seen_on watched set seen shown) ending _ (item_named shown.items name) now last
    (along_traced g dir name hashed watched sets (seen_on watched set seen shown) ending later now last)))

on_traced : (g : Given) (s : Search) (watched : ℕ) (seen : Seen) (ending : Ending) (shown : DirNames) (item : Option Item) (handed : Handed) → item_named shown.items s.name ≡ item → Saw handed s.parent s.hashed shown
    → IsInHand handed s.parent s.name s.hashed watched seen → EndsTraced g handed s.parent s.name s.hashed watched ending → Traces g handed (looks_on s watched seen ending item)
on_traced g s watched seen ending shown None handed named saw h ends = along_traced g s.parent s.name s.hashed watched s.rest seen ending handed h ends
on_traced g s watched seen ending shown (Some item) handed named saw h ends =
    if_traced g handed _ (ending (found.Item s.hashed item.gfid item.kind) seen) (is_link item.kind)
    (λ link. along_traced g s.parent s.name s.hashed watched (led s.hashed s.rest (set_named s.names item.target)) (record seen { has_link = true }) ending handed
    (record { place = h.place; link = λ has. record { shown = shown; saw = saw; item = item; named = named; link = link }; copy = h.copy }) ends)
    (λ real. ends (found.Item s.hashed item.gfid item.kind) seen handed (later_same handed) tt h)

pub looks_traced : (g : Given) (dir : Gfid) (name : List ℕ) (names : List (List ℕ)) (watched : ℕ) (ending : ℕ → Ending) (hashed : ℕ) (handed : Handed) → EndsTraced g handed dir name hashed watched (ending hashed)
    → Traces g handed (looks_in dir name names watched ending hashed)
looks_traced g dir name names watched ending hashed handed ends =
    names_traced g handed hashed dir _
    (λ later shown l saw at.
    kept_traced g later shown _ at
    (on_traced g (search_of dir name names hashed) watched (seen_on watched hashed unseen shown) (ending hashed) shown (item_named shown.items name) later refl saw
    (in_hand handed later dir name hashed watched hashed unseen shown l saw at (record { link = λ has. absurd cc; copy = λ there none. absurd cc }))
    (ends_later g handed later dir name hashed watched (ending hashed) l ends)))

pub saw_spans_later : (a b : Handed) (dir : Gfid) (set : ℕ) (spans : List (Option Span)) → Later a b → SawSpans a dir set spans → SawSpans b dir set spans
saw_spans_later a b dir set [] l s = tt
saw_spans_later a b dir set (span ∷ spans) l s = (l.spans dir set span s.0, saw_spans_later a b dir (set + 1) spans l s.1)

saw_spans_push : (handed : Handed) (dir : Gfid) (set last : ℕ) (spans : List (Option Span)) (span : Option Span) → set + length spans ≡ last → SawSpans handed dir set spans → SawSpan handed dir last span → SawSpans handed dir set (spans ++ span ∷ [])
saw_spans_push handed dir set last [] span e s one = let same : last ≡ set = omega arith in (subst (λ (at : ℕ). SawSpan handed dir at span) same one, tt)
saw_spans_push handed dir set last (other ∷ spans) span e s one = (s.0, saw_spans_push handed dir (set + 1) last spans span (omega arith) s.1 one)

-- by the whole layout, as it was read
abbrev pub OnLayout : Given → Handed → Gfid → ℕ → (List (Option Span) → Course) → Type 0
OnLayout g handed dir count next = (whole : List (Option Span)) (later : Handed) → Later handed later → length whole ≡ count → SawSpans later dir 0 whole → Traces g later (next whole)

spans_traced : (g : Given) (dir : Gfid) (n first count : ℕ) (spans : List (Option Span)) (next : List (Option Span) → Course) (handed : Handed) → length spans ≡ first → first + n ≡ count → SawSpans handed dir 0 spans → OnLayout g handed dir count next
    → Traces g handed (reads_spans dir (range_with_len first n) spans next)
spans_traced g dir zero first count spans next handed e h saw k = k spans handed (later_same handed) (omega arith) saw
spans_traced g dir (suc n) first count spans next handed e h saw k =
    read_traced g handed first _ 0 true _
    (λ later contents place l at shows.
    spans_traced g dir n (first + 1) count (spans ++ span_of (first_content contents) ∷ []) next later (omega (arith, length-append spans (span_of (first_content contents) ∷ []))) (omega arith)
    (saw_spans_push later dir 0 first spans (span_of (first_content contents)) (omega arith) (saw_spans_later handed later dir 0 spans l saw) (shows dir refl))
    (λ whole last m w s. k whole last (later_then handed later last l m) w s))

pub finds_traced : (g : Given) (count : ℕ) (dir : Gfid) (known : Option ℕ) (next : ℕ → Course) (after : List (Option Span) → Course) (handed : Handed)
    → ((set : ℕ) → known ≡ Some set → Traces g handed (next set)) → (known ≡ None → OnLayout g handed dir count after) → Traces g handed (finds count dir known next after)
finds_traced g count dir (Some set) next after handed k m = k set refl
finds_traced g count dir None next after handed k m = spans_traced g dir count 0 count [] after handed refl (omega arith) tt (m refl)
