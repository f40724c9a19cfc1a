-- Each job of a fop is on the set of what it reads or changes, and a directory's name comes after the births of its copies:
-- what replies lead to, looks, and what a name showed.
use Rattle.std.proofs.Common.{◌≡◌, ◌∙◌, ℕ, ◌+◌, ◌<◌, ◌≤◌, inl, inr, Bool, true, false, List, [], ◌∷◌, Option, Some, None, IfSome, Result, Ok, Err, if◌then◌else◌, length, nat_lt, refl, sym, subst, arith}
use Rattle.std.proofs.lemmas.Bool.{ltb-true, ltb-false}
use Rattle.std.specs.declared.cmp.Ordering.{Ordering}
use Rattle.std.specs.declared.cmp.Ordering.TheVariants.{Less, Equal, Greater}
use Rattle.dht_layout.specs.Layouts.{even_span}
use Rattle.dht_linkto.specs.DirNames.{names_job, names_in}
use Rattle.dht_linkto.specs.Search.{hashed_set}
use Rattle.dht_linkto.specs.declared.found.Found.{Found}
use Rattle.dht_linkto.specs.declared.found.Found.TheVariants as found
use Rattle.dht_linkto.specs.declared.names.DirNames.{DirNames}
use Rattle.dht_fops.proofs.Handing.{Later, later_push, no_error}
use Rattle.dht_fops.proofs.Known.{hashed_below, known_below}
use Rattle.dht_fops.proofs.Looking.{Reading, EndsRight, IsFoundIn, looks_in_goes, finds_go}
use Rattle.dht_laws.specs.Births.{IsBirthOf, WasBorn, AreBornBelow, ComesAfterBirths, HasRange, IsBornInTime}
use Rattle.dht_fops.specs.Courses.{Course, on_contents, after_read, contents_in, on_names, after_names, on_number, after_change, number_in, changes}
use Rattle.dht_fops.specs.Courses.Course.{Asks}
use Rattle.dht_fops.specs.Entries.{birth_job}
use Rattle.dht_fops.specs.Fops.{on_name}
use Rattle.dht_fops.specs.Founded.{IsNoError}
use Rattle.dht_fops.specs.Handed.{Handed, Event, Always, AnyAnswer, Saw, SawName}
use Rattle.dht_fops.specs.Handed.Event.{Replied}
use Rattle.dht_laws.specs.Holds.{IsOwnHold}
use Rattle.dht_laws.specs.Homes.{IsNamedBy, IsHome, IsOwnDir, IsDirectoryOf, IsInPlace, AreInPlace, IsReadAt, IsChangedAt, IsJobAtHome}
use Rattle.dht_fops.specs.Looks.{Ending, where_named, where_kept, looks_in, finds}
use Rattle.dht_fops.specs.Objects.{home}
use Rattle.dht_fops.specs.Volumes.{Kept, known_set}
use Rattle.dht_laws.proofs.Arguments.{Seen}
use Rattle.dht_fops.specs.declared.volume.Volume.{Volume}
use Rattle.fop_types.specs.Limits.{max_item_name}
use Rattle.fop_types.specs.Names.{is_directory}
use Rattle.fop_types.specs.Orders.{gfid_cmp}
use Rattle.fop_types.specs.StoreOps.{both_names}
use Rattle.fop_types.specs.declared.answers.IoError.{IoError}
use Rattle.fop_types.specs.declared.cells.Cell.{Cell}
use Rattle.fop_types.specs.declared.cells.Gfid.{Gfid}
use Rattle.fop_types.specs.declared.cells.Kind.{Kind}
use Rattle.fop_types.specs.declared.contents.Content.{Content}
use Rattle.fop_types.specs.declared.contents.Span.{Span}
use Rattle.fop_types.specs.declared.fops.Fop.{Fop}
use Rattle.fop_types.specs.declared.fops.Object.{Object}
use Rattle.fop_types.specs.declared.history.Entry.{Entry}
use Rattle.fop_types.specs.declared.jobs.Job.{Job}
use Rattle.fop_types.specs.declared.jobs.Job.TheVariants as job
use Rattle.fop_types.specs.declared.jobs.SetReply.{SetReply}
use Rattle.fop_types.specs.declared.store_ops.StoreOp.{StoreOp}

-- both facts of a job; and a hold is extended by the fop's own directory
abbrev pub IsSetWell : Volume → Fop → Handed → ℕ → Job → Type 0
IsSetWell v f handed set j = IsJobAtHome f handed set j × IsBornInTime v f handed set j

abbrev pub SetsWell : Volume → Fop → Handed → Course → Type 0
SetsWell v f handed course = Always (IsSetWell v f) (IsOwnHold f) AnyAnswer handed course

-- ---- objects

first_by : (b : Bool) (set : ℕ) → b ≡ true → (if b then 0 else set) ≡ 0
first_by true set e = refl
first_by false set e = absurd cc

own_by : (b : Bool) (set : ℕ) → b ≡ false → (if b then 0 else set) ≡ set
own_by true set e = absurd cc
own_by false set e = refl

pub home_is : (object : Object) → IsHome object (home object)
home_is object = record { directory = λ dir. first_by (is_directory object.kind) object.set dir; file = λ file. own_by (is_directory object.kind) object.set file }

pub first_is_home : (object : Object) → is_directory object.kind ≡ true → IsHome object 0
first_is_home object dir = record { directory = λ same. refl; file = λ file. absurd (let wrong : true ≡ false = sym dir ∙ file in cc) }

pub own_is_home : (object : Object) → is_directory object.kind ≡ false → IsHome object object.set
own_is_home object file = record { directory = λ dir. absurd (let wrong : true ≡ false = sym dir ∙ file in cc); file = λ same. refl }

-- an object's mode and attributes are in place at its home
pub home_in_place : (f : Fop) (handed : Handed) (object : Object) → IsNamedBy f object → IsInPlace f handed (home object) object.gfid
home_in_place f handed object named = by_kind (is_directory object.kind) refl
  where
    by_kind : (b : Bool) → is_directory object.kind ≡ b → IsInPlace f handed (home object) object.gfid
    by_kind true e = inr (inl (record { object = object; named = named; gfid_is = refl; is_dir = e }))
    by_kind false e = inl (record { object = object; named = named; gfid_is = refl; is_file = e; set_is = own_by (is_directory object.kind) object.set e })

pub both_in_place : (f : Fop) (handed : Handed) (set : ℕ) (a b : Gfid) → IsDirectoryOf f handed a → IsDirectoryOf f handed b → AreInPlace f handed set (both_names a b)
both_in_place f handed set a b x y = by_order (gfid_cmp a b) refl
  where
    by_order : (o : Ordering) → gfid_cmp a b ≡ o → AreInPlace f handed set (both_names a b)
    by_order Less e = rw e (inr x, (inr y, tt))
    by_order Equal e = rw e (inr x, tt)
    by_order Greater e = rw e (inr y, (inr x, tt))

-- ---- what a reply leads to

names_lead : (v : Volume) (f : Fop) (handed : Handed) (next : DirNames → Course) (read : Result DirNames IoError) → ((shown : DirNames) → read ≡ Ok shown → SetsWell v f handed (next shown)) → SetsWell v f handed (on_names next read)
names_lead v f handed next (Ok shown) k = k shown refl
names_lead v f handed next (Err error) k = tt

contents_lead : (v : Volume) (f : Fop) (handed : Handed) (next : List (Option Content) → ℕ → Course) (read : Result (List (Option Content) × ℕ) IoError) → ((contents : List (Option Content)) (place : ℕ) → SetsWell v f handed (next contents place))
    → SetsWell v f handed (on_contents next read)
contents_lead v f handed next (Ok read) k = k read.0 read.1
contents_lead v f handed next (Err error) k = tt

pub number_leads : (v : Volume) (f : Fop) (handed : Handed) (next : Option ℕ → Course) (read : Result (Option ℕ) IoError) → ((number : Option ℕ) → read ≡ Ok number → SetsWell v f handed (next number)) → SetsWell v f handed (on_number next read)
number_leads v f handed next (Ok number) k = k number refl
number_leads v f handed next (Err error) k = tt

-- ---- jobs

pub names_set : (v : Volume) (f : Fop) (handed : Handed) (set : ℕ) (dir : Gfid) (next : DirNames → Course) → IsReadAt f set → IsDirectoryOf f handed dir
    → ((later : Handed) (shown : DirNames) → Later handed later → Saw later dir set shown → SetsWell v f later (next shown))
    → SetsWell v f handed (Asks set (names_job dir) (after_names next))
names_set v f handed set dir next free d k = (
  ((free, (inr d, tt)), tt),
  λ reply. names_lead v f (Replied set (names_job dir) reply ∷ handed) next (names_in reply)
      (λ shown e. k (Replied set (names_job dir) reply ∷ handed) shown (later_push (Replied set (names_job dir) reply) handed) (inl (refl, refl, e))),
)

pub read_set : (v : Volume) (f : Fop) (handed : Handed) (set : ℕ) (cells : List Cell) (fd : ℕ) (dir : Bool) (next : List (Option Content) → ℕ → Course) → IsReadAt f set → AreInPlace f handed set cells
    → ((later : Handed) (contents : List (Option Content)) (place : ℕ) → Later handed later → SetsWell v f later (next contents place))
    → SetsWell v f handed (Asks set (job.Read cells fd dir) (after_read next))
read_set v f handed set cells fd dir next at there k = (
  ((at, there), tt),
  λ reply. contents_lead v f (Replied set (job.Read cells fd dir) reply ∷ handed) next (contents_in reply)
      (λ contents place. k (Replied set (job.Read cells fd dir) reply ∷ handed) contents place (later_push (Replied set (job.Read cells fd dir) reply) handed)),
)

pub change_set : (v : Volume) (f : Fop) (handed : Handed) (set : ℕ) (cells : List Cell) (fd : ℕ) (o : StoreOp) (entry : Entry) (next : Option ℕ → Course) → AreInPlace f handed set cells → IsChangedAt f set o → ComesAfterBirths v handed o
    → ((reply : SetReply) (number : Option ℕ) → IsNoError reply → SetsWell v f (Replied set (job.Change cells fd o (Some entry)) reply ∷ handed) (next number))
    → SetsWell v f handed (changes set cells fd o (Some entry) next)
change_set v f handed set cells fd o entry next there at after k = (
  ((at, there), after),
  λ reply. number_leads v f (Replied set (job.Change cells fd o (Some entry)) reply ∷ handed) next (number_in reply) (λ number e. k reply number (no_error reply number e)),
)

pub birth_set : (v : Volume) (f : Fop) (handed : Handed) (set : ℕ) (gfid : Gfid) (span : Option Span) (next : Option ℕ → Course) → IsDirectoryOf f handed gfid → HasRange v f set gfid span
    → ((reply : SetReply) (number : Option ℕ) → IsNoError reply → SetsWell v f (Replied set (birth_job gfid span) reply ∷ handed) (next number))
    → SetsWell v f handed (Asks set (birth_job gfid span) (after_change next))
birth_set v f handed set gfid span next d range k = (
  ((inr d, (inr d, tt)), range),
  λ reply. number_leads v f (Replied set (birth_job gfid span) reply ∷ handed) next (number_in reply) (λ number e. k reply number (no_error reply number e)),
)

-- ---- tests

pub if_set : (v : Volume) (f : Fop) (handed : Handed) (one other : Course) (b : Bool) → (b ≡ true → SetsWell v f handed one) → (b ≡ false → SetsWell v f handed other) → SetsWell v f handed (if b then one else other)
if_set v f handed one other true k m = k refl
if_set v f handed one other false k m = m refl

pub kept_set : (v : Volume) (f : Fop) (handed : Handed) (shown : DirNames) (next : Course) → SetsWell v f handed next → SetsWell v f handed (where_kept shown next)
kept_set v f handed shown next k = if_set v f handed _ _ shown.removed (λ gone. tt) (λ kept. k)

pub named_set : (v : Volume) (f : Fop) (handed : Handed) (parent : Object) (name : List ℕ) (place : Option ℕ) (next : Course) → (is_directory parent.kind ≡ true → SetsWell v f handed next) → SetsWell v f handed (where_named parent name place next)
named_set v f handed parent name place next k =
    if_set v f handed _ _ (is_directory parent.kind) (λ dir. if_set v f handed _ _ (nat_lt max_item_name (length name)) (λ long. tt) (λ short. k dir)) (λ file. tt)

-- ---- looks

-- a fop that reads no object at hand may read on every set
abbrev pub ReadsAnywhere : Fop → Type 0
ReadsAnywhere f = (set : ℕ) → IsReadAt f set

reads_set : (v : Volume) (f : Fop) (handed : Handed) (dir : Gfid) → ReadsAnywhere f → IsOwnDir f dir → Reading (IsSetWell v f) (IsOwnHold f) AnyAnswer v.sets handed dir
reads_set v f handed dir free own = record {
  names = λ later set l i. ((free set, (inr (inl own), tt)), tt);
  spans = λ later set l i. ((free set, (inr (inl own), tt)), tt);
  fails = λ later error. tt;
  removed = λ later set shown l i saw e. tt;
}

abbrev pub EndsSet : Volume → Fop → Handed → Gfid → List ℕ → Ending → Type 0
EndsSet v f handed dir name ending = EndsRight (IsSetWell v f) (IsOwnHold f) AnyAnswer v.sets handed dir name ending

pub look_set : (v : Volume) (f : Fop) (dir : Gfid) (name : List ℕ) (names : List (List ℕ)) (watched : ℕ) (ending : ℕ → Ending) (hashed : ℕ) (handed : Handed) → length names ≡ v.sets → hashed < v.sets → ReadsAnywhere f → IsOwnDir f dir
    → EndsSet v f handed dir name (ending hashed) → SetsWell v f handed (looks_in dir name names watched ending hashed)
look_set v f dir name names watched ending hashed handed e i free own ends =
    looks_in_goes (IsSetWell v f) (IsOwnHold f) AnyAnswer v.sets dir name names watched ending hashed handed e i (reads_set v f handed dir free own) ends

pub finds_set : (v : Volume) (f : Fop) (count : ℕ) (dir : Gfid) (known : Option ℕ) (next : ℕ → Course) (after : List (Option Span) → Course) (handed : Handed) → count ≡ v.sets → ReadsAnywhere f → IsOwnDir f dir → IfSome known (λ set. set < v.sets)
    → ((set : ℕ) → set < v.sets → SetsWell v f handed (next set))
    → ((whole : List (Option Span)) (later : Handed) → length whole ≡ v.sets → Later handed later → SetsWell v f later (after whole))
    → SetsWell v f handed (finds count dir known next after)
finds_set v f count dir known next after handed e free own below k m =
    finds_go (IsSetWell v f) (IsOwnHold f) AnyAnswer v.sets count dir known next after handed e (reads_set v f handed dir free own) below k m

-- an ending goes well by what was found
pub ends_by : (v : Volume) (f : Fop) (handed : Handed) (dir : Gfid) (name : List ℕ) (ending : Ending)
    → ((set : ℕ) (gfid : Gfid) (k : Kind) (seen : Seen) (later : Handed) → Later handed later → SawName later dir name set gfid k → SetsWell v f later (ending (found.Item set gfid k) seen))
    → ((seen : Seen) (later : Handed) → SetsWell v f later (ending found.Absent seen))
    → ((error : IoError) (seen : Seen) (later : Handed) → SetsWell v f later (ending (found.Io error) seen))
    → EndsSet v f handed dir name ending
ends_by v f handed dir name ending item absent io = λ result seen later l is. by_result result seen later l is
  where
    by_result : (result : Found) (seen : Seen) (later : Handed) → Later handed later → IsFoundIn v.sets later dir name result → SetsWell v f later (ending result seen)
    by_result (found.Item set gfid k) seen later l is = item set gfid k seen later l is.1
    by_result found.Absent seen later l is = absent seen later
    by_result (found.Io error) seen later l is = io error seen later

pub on_name_set : (v : Volume) (f : Fop) (names : List (List ℕ)) (kept : Kept) (parent : Object) (name : List ℕ) (ending : ℕ → Ending) → 1 ≤ v.root_sets → v.root_sets ≤ v.sets → length names ≡ v.sets → ReadsAnywhere f → IsNamedBy f parent
    → ((hashed : ℕ) (handed : Handed) → IsOwnDir f parent.gfid → EndsSet v f handed parent.gfid name (ending hashed)) → SetsWell v f [] (on_name v names kept parent name ending)
on_name_set v f names kept parent name ending some within e free named ends =
    named_set v f [] parent name None _ (λ dir. looks_for (record { object = parent; named = named; gfid_is = refl; is_dir = dir }))
  where
    looks_for : IsOwnDir f parent.gfid → SetsWell v f [] (finds (length names) parent.gfid (known_set v kept parent.gfid name) (looks_in parent.gfid name names 0 ending) (λ spans. looks_in parent.gfid name names 0 ending (hashed_set spans name)))
    looks_for own =
        finds_set v f (length names) parent.gfid (known_set v kept parent.gfid name) _ _ [] e free own (known_below v kept parent.gfid name some within)
        (λ set i. look_set v f parent.gfid name names 0 ending set [] e i free own (ends set [] own))
        (λ whole later w l. look_set v f parent.gfid name names 0 ending (hashed_set whole name) later e (hashed_below v.sets whole name w (omega arith)) free own (ends (hashed_set whole name) later own))

-- ---- births

-- one set more has its copy
pub born_push : (v : Volume) (event : Event) (handed : Handed) (gfid : Gfid) (last : ℕ) → IsBirthOf event last gfid (Some (even_span v.sets last)) → AreBornBelow v handed gfid last → AreBornBelow v (event ∷ handed) gfid (last + 1)
born_push v event handed gfid last one born set some below = by_order (nat_lt set last) refl
  where
    by_order : (b : Bool) → nat_lt set last ≡ b → WasBorn (event ∷ handed) set gfid (Some (even_span v.sets set))
    by_order true e = let less = ltb-true set last e in inr (born set some (omega arith))
    by_order false e =
        let most = ltb-false set last e in
        let same : last ≡ set = omega arith in
        inl (subst (λ (at : ℕ). IsBirthOf event at gfid (Some (even_span v.sets at))) same one)
