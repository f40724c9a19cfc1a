-- A fop goes on while no job that it needs failed, and ends by the answer to its own operation: what replies lead to, and
-- looks.
use Rattle.std.proofs.Common.{◌≡◌, ℕ, ◌+◌, Bool, true, false, List, [], ◌∷◌, ◌++◌, Option, Some, None, Result, Ok, Err, if◌then◌else◌, length, nat_lt, refl, ap, sym, subst}
use Rattle.std.specs.List.{range_with_len}
use Rattle.dht_linkto.specs.DirNames.{names_job, names_in, first_content}
use Rattle.dht_linkto.specs.Search.{Search, search_of, hashed_set, led, set_named}
use Rattle.dht_linkto.specs.declared.found.Found.{Found}
use Rattle.dht_linkto.specs.declared.found.Found.TheVariants as found
use Rattle.dht_linkto.specs.declared.names.DirNames.{DirNames}
use Rattle.dht_laws.proofs.Traces.{IsRead, names_error, contents_error, number_error}
use Rattle.dht_fops.specs.Answers.{flat_op, change_of}
use Rattle.dht_fops.specs.Courses.{Course, on_contents, after_read, contents_in, on_names, after_names, on_number, after_change, number_in, after_any, changes}
use Rattle.dht_fops.specs.Courses.Course.{Asks, Extends, Ends}
use Rattle.dht_laws.specs.Endings.{error_in, fault_in, HaveNoFault, Made, made_of, last_made, IsOwnMade, IsNotMade, GoesOn, answer_to, IsNoFailure, AnswersMade, EndsBy, EndsWith}
use Rattle.dht_fops.specs.Entries.{birth_job}
use Rattle.dht_fops.specs.Fops.{on_name}
use Rattle.dht_fops.specs.Handed.{Handed, Always, AnyHold}
use Rattle.dht_fops.specs.Handed.Event.{Replied, Held}
use Rattle.dht_fops.specs.Looks.{Ending, where_named, where_kept, by_item, looks_along, looks_on, looks_in, finds, reads_spans, span_of, seen_on, unseen}
use Rattle.dht_laws.specs.Places.{place_made}
use Rattle.dht_fops.specs.Volumes.{Kept, known_set}
use Rattle.dht_laws.proofs.Arguments.{Seen}
use Rattle.dht_fops.specs.declared.volume.Volume.{Volume}
use Rattle.fop_types.specs.Limits.{max_item_name}
use Rattle.fop_types.specs.Names.{item_named, is_link, is_directory}
use Rattle.fop_types.specs.declared.answers.Answer.TheVariants as answer
use Rattle.fop_types.specs.declared.answers.FopAnswer.{FopAnswer}
use Rattle.fop_types.specs.declared.answers.FopAnswer.TheVariants as fop_answer
use Rattle.fop_types.specs.declared.answers.IoError.{IoError}
use Rattle.fop_types.specs.declared.cells.Cell.{Cell}
use Rattle.fop_types.specs.declared.cells.Gfid.{Gfid}
use Rattle.fop_types.specs.declared.contents.Content.{Content}
use Rattle.fop_types.specs.declared.contents.Item.{Item}
use Rattle.fop_types.specs.declared.contents.Span.{Span}
use Rattle.fop_types.specs.declared.fops.Fop.{Fop}
use Rattle.fop_types.specs.declared.fops.Object.{Object}
use Rattle.fop_types.specs.declared.history.Entry.{Entry}
use Rattle.fop_types.specs.declared.jobs.Job.TheVariants as job
use Rattle.fop_types.specs.declared.jobs.SetReply.{SetReply}
use Rattle.fop_types.specs.declared.jobs.SetReply.TheVariants as reply
use Rattle.fop_types.specs.declared.store_ops.StoreOp.{StoreOp}

-- no job that the fop needs failed, and this is the latest change with an effect
pub record Stands (f : Fop) (made : Option Made) (handed : Handed) : Type 0 where
  pub clear : HaveNoFault f handed
  pub made_is : last_made handed ≡ made

-- from there a course goes on and ends well, wherever the replies lead
pub record Closes (f : Fop) (made : Option Made) (course : Course) : Type 0 where
  pub run : (handed : Handed) → Stands f made handed → Always (GoesOn f) AnyHold (EndsWith f) handed course

-- ---- replies that are no I/O error

names_clear : (r : SetReply) (shown : DirNames) → names_in r ≡ Ok shown → error_in r ≡ None
names_clear (reply.Contents contents place) shown e = refl
names_clear (reply.Decided number) shown e = refl
names_clear reply.Opened shown e = refl
names_clear (reply.Listed cells group short) shown e = refl
names_clear (reply.Healed records) shown e = refl
names_clear (reply.Skipped cause) shown e = refl
names_clear (reply.Io error) shown e = absurd (let wrong : ◌≡◌ {A = Result DirNames IoError} (Err error) (Ok shown) = e in cc)

contents_clear : (r : SetReply) (read : List (Option Content) × ℕ) → contents_in r ≡ Ok read → error_in r ≡ None
contents_clear (reply.Contents contents place) read e = refl
contents_clear (reply.Decided number) read e = refl
contents_clear reply.Opened read e = refl
contents_clear (reply.Listed cells group short) read e = refl
contents_clear (reply.Healed records) read e = refl
contents_clear (reply.Skipped cause) read e = refl
contents_clear (reply.Io error) read e = absurd (let wrong : ◌≡◌ {A = Result (List (Option Content) × ℕ) IoError} (Err error) (Ok read) = e in cc)

pub number_clear : (r : SetReply) (number : Option ℕ) → number_in r ≡ Ok number → error_in r ≡ None
number_clear (reply.Contents contents place) number e = refl
number_clear (reply.Decided decided) number e = refl
number_clear reply.Opened number e = refl
number_clear (reply.Listed cells group short) number e = refl
number_clear (reply.Healed records) number e = refl
number_clear (reply.Skipped cause) number e = refl
number_clear (reply.Io error) number e = absurd (let wrong : ◌≡◌ {A = Result (Option ℕ) IoError} (Err error) (Ok number) = e in cc)

-- ---- ends

-- the I/O error of the latest job
pub fails_by : (f : Fop) (r : SetReply) (error : IoError) (made : Option Made) → r ≡ reply.Io error → EndsBy f (error_in r) made (fop_answer.Call (answer.Io error)) None
fails_by f r error made e = subst (λ (one : SetReply). EndsBy f (error_in one) made (fop_answer.Call (answer.Io error)) None) (sym e) (refl, refl)

clear_by : (f : Fop) (fault : Option IoError) (made last : Option Made) (a : FopAnswer) (place : Option ℕ) → fault ≡ None → last ≡ made → IsNoFailure a → AnswersMade f made a place → EndsBy f fault last a place
clear_by f None made last a place e m n k = (n, subst (λ (one : Option Made). AnswersMade f one a place) (sym m) k)
clear_by f (Some error) made last a place e m n k = absurd cc

ends_with : (f : Fop) (handed : Handed) (made : Option Made) (a : FopAnswer) (place : Option ℕ) → HaveNoFault f handed → last_made handed ≡ made → IsNoFailure a → AnswersMade f made a place → EndsWith f handed a place
ends_with f [] made a place c m n k = n
ends_with f (event ∷ handed) made a place c m n k = (c.1, clear_by f (fault_in f event) made (last_made (event ∷ handed)) a place c.0 m n k)

pub ends_close : (f : Fop) (made : Option Made) (a : FopAnswer) (place : Option ℕ) → IsNoFailure a → AnswersMade f made a place → Closes f made (Ends a place)
ends_close f made a place n k = record { run = λ handed s. ends_with f handed made a place s.clear s.made_is n k }

-- an answer before any change with an effect
pub says_close : (f : Fop) (a : FopAnswer) (place : Option ℕ) → IsNoFailure a → Closes f None (Ends a place)
says_close f a place n = ends_close f None a place n tt

-- the answer to the fop's own operation
pub done_close : (f : Fop) (set : ℕ) (o : StoreOp) (number : Option ℕ) (a : FopAnswer) → change_of o ≡ flat_op f → a ≡ answer_to set o → IsNoFailure a → Closes f (Some (made_of set o number)) (Ends a number)
done_close f set o number a own same n = ends_close f (Some (made_of set o number)) a number n (record { own = own; answer_is = same; place_is = refl })

-- ---- jobs

pub not_made : (f : Fop) (last made : Option Made) → last ≡ made → IsNotMade f made → IsNotMade f last
not_made f last made e b = subst (λ (one : Option Made). IsNotMade f one) (sym e) b

own_made : (f : Fop) (last made : Option Made) → last ≡ made → IsOwnMade f made → IsOwnMade f last
own_made f last made e b = subst (λ (one : Option Made). IsOwnMade f one) (sym e) b

names_lead : (f : Fop) (made : Option Made) (handed : Handed) (set : ℕ) (dir : Gfid) (r : SetReply) (next : DirNames → Course) (read : Result DirNames IoError) → names_in r ≡ read → Stands f made handed → ((shown : DirNames) → Closes f made (next shown))
    → Always (GoesOn f) AnyHold (EndsWith f) (Replied set (names_job dir) r ∷ handed) (on_names next read)
names_lead f made handed set dir r next (Ok shown) e s k = (k shown).run (Replied set (names_job dir) r ∷ handed) (record { clear = (names_clear r shown e, s.clear); made_is = s.made_is })
names_lead f made handed set dir r next (Err error) e s k = (s.clear, fails_by f r error (last_made handed) (names_error r error e))

pub names_close : (f : Fop) (made : Option Made) (set : ℕ) (dir : Gfid) (next : DirNames → Course) → IsNotMade f made → ((shown : DirNames) → Closes f made (next shown)) → Closes f made (Asks set (names_job dir) (after_names next))
names_close f made set dir next b k = record {
  run = λ handed s. ((s.clear, not_made f (last_made handed) made s.made_is b), λ r. names_lead f made handed set dir r next (names_in r) refl s k);
}

contents_lead : (f : Fop) (made : Option Made) (handed : Handed) (set : ℕ) (cells : List Cell) (fd : ℕ) (dir : Bool) (r : SetReply) (next : List (Option Content) → ℕ → Course) (read : Result (List (Option Content) × ℕ) IoError) → contents_in r ≡ read → Stands f made handed
    → ((contents : List (Option Content)) (place : ℕ) → Closes f made (next contents place)) → Always (GoesOn f) AnyHold (EndsWith f) (Replied set (job.Read cells fd dir) r ∷ handed) (on_contents next read)
contents_lead f made handed set cells fd dir r next (Ok read) e s k = (k read.0 read.1).run (Replied set (job.Read cells fd dir) r ∷ handed) (record { clear = (contents_clear r read e, s.clear); made_is = s.made_is })
contents_lead f made handed set cells fd dir r next (Err error) e s k = (s.clear, fails_by f r error (last_made handed) (contents_error r error e))

pub read_close : (f : Fop) (made : Option Made) (set : ℕ) (cells : List Cell) (fd : ℕ) (dir : Bool) (next : List (Option Content) → ℕ → Course) → IsNotMade f made → ((contents : List (Option Content)) (place : ℕ) → Closes f made (next contents place))
    → Closes f made (Asks set (job.Read cells fd dir) (after_read next))
read_close f made set cells fd dir next b k = record {
  run = λ handed s. ((s.clear, not_made f (last_made handed) made s.made_is b), λ r. contents_lead f made handed set cells fd dir r next (contents_in r) refl s k);
}

birth_leads : (f : Fop) (made : Option Made) (handed : Handed) (set : ℕ) (gfid : Gfid) (span : Option Span) (r : SetReply) (next : Option ℕ → Course) (read : Result (Option ℕ) IoError) → number_in r ≡ read → Stands f made handed
    → ((number : Option ℕ) → Closes f made (next number)) → Always (GoesOn f) AnyHold (EndsWith f) (Replied set (birth_job gfid span) r ∷ handed) (on_number next read)
birth_leads f made handed set gfid span r next (Ok number) e s k = (k number).run (Replied set (birth_job gfid span) r ∷ handed) (record { clear = (number_clear r number e, s.clear); made_is = s.made_is })
birth_leads f made handed set gfid span r next (Err error) e s k = (s.clear, fails_by f r error (last_made handed) (number_error r error e))

pub birth_close : (f : Fop) (made : Option Made) (set : ℕ) (gfid : Gfid) (span : Option Span) (next : Option ℕ → Course) → IsNotMade f made → ((number : Option ℕ) → Closes f made (next number)) → Closes f made (Asks set (birth_job gfid span) (after_change next))
birth_close f made set gfid span next b k = record {
  run = λ handed s. ((s.clear, not_made f (last_made handed) made s.made_is b), λ r. birth_leads f made handed set gfid span r next (number_in r) refl s k);
}

-- a change with an effect is the latest one then
change_leads : (f : Fop) (made : Option Made) (handed : Handed) (set : ℕ) (cells : List Cell) (fd : ℕ) (o : StoreOp) (entry : Entry) (r : SetReply) (next : Option ℕ → Course) (read : Result (Option ℕ) IoError) → number_in r ≡ read → Stands f made handed
    → ((number : Option ℕ) → Closes f (Some (made_of set o number)) (next number)) → Always (GoesOn f) AnyHold (EndsWith f) (Replied set (job.Change cells fd o (Some entry)) r ∷ handed) (on_number next read)
change_leads f made handed set cells fd o entry r next (Ok number) e s k =
    (k number).run (Replied set (job.Change cells fd o (Some entry)) r ∷ handed)
    (record { clear = (number_clear r number e, s.clear); made_is = ap (λ (one : Result (Option ℕ) IoError). Some (made_of set o (place_made one))) e })
change_leads f made handed set cells fd o entry r next (Err error) e s k = (s.clear, fails_by f r error (last_made (Replied set (job.Change cells fd o (Some entry)) r ∷ handed)) (number_error r error e))

pub change_close : (f : Fop) (made : Option Made) (set : ℕ) (cells : List Cell) (fd : ℕ) (o : StoreOp) (entry : Entry) (next : Option ℕ → Course) → IsNotMade f made → ((number : Option ℕ) → Closes f (Some (made_of set o number)) (next number))
    → Closes f made (changes set cells fd o (Some entry) next)
change_close f made set cells fd o entry next b k = record {
  run = λ handed s. ((s.clear, not_made f (last_made handed) made s.made_is b), λ r. change_leads f made handed set cells fd o entry r next (number_in r) refl s k);
}

-- a change of a link leaves what is answered, whatever its reply
pub link_close : (f : Fop) (made : Option Made) (set : ℕ) (cells : List Cell) (fd : ℕ) (o : StoreOp) (next : Course) → IsOwnMade f made → Closes f made next → Closes f made (Asks set (job.Change cells fd o None) (after_any next))
link_close f made set cells fd o next own k = record {
  run = λ handed s. (
    (s.clear, own_made f (last_made handed) made s.made_is own),
    λ r. k.run (Replied set (job.Change cells fd o None) r ∷ handed) (record { clear = (refl, s.clear); made_is = s.made_is }),
  );
}

pub extends_close : (f : Fop) (made : Option Made) (dir : Gfid) (next : Course) → Closes f made next → Closes f made (Extends dir next)
extends_close f made dir next k = record { run = λ handed s. (tt, k.run (Held dir ∷ handed) (record { clear = (refl, s.clear); made_is = s.made_is })) }

-- ---- tests

pub if_close : (f : Fop) (made : Option Made) (one other : Course) (b : Bool) → Closes f made one → Closes f made other → Closes f made (if b then one else other)
if_close f made one other true k m = k
if_close f made one other false k m = m

pub kept_close : (f : Fop) (shown : DirNames) (next : Course) → Closes f None next → Closes f None (where_kept shown next)
kept_close f shown next k = if_close f None _ _ shown.removed (says_close f _ _ tt) k

pub named_close : (f : Fop) (parent : Object) (name : List ℕ) (place : Option ℕ) (next : Course) → Closes f None next → Closes f None (where_named parent name place next)
named_close f parent name place next k = if_close f None _ _ (is_directory parent.kind) (if_close f None _ _ (nat_lt max_item_name (length name)) (says_close f _ _ tt) k) (says_close f _ _ tt)

-- ---- looks

abbrev pub EndsClose : Fop → Ending → Type 0
EndsClose f ending = (result : Found) (seen : Seen) → IsRead result → Closes f None (ending result seen)

item_close : (f : Fop) (set : ℕ) (seen : Seen) (ending : Ending) (rest : Course) (item : Option Item) → EndsClose f ending → Closes f None rest → Closes f None (by_item set seen ending rest item)
item_close f set seen ending rest None ends k = k
item_close f set seen ending rest (Some item) ends k = if_close f None rest (ending (found.Item set item.gfid item.kind) seen) (is_link item.kind) k (ends (found.Item set item.gfid item.kind) seen tt)

along_close : (f : Fop) (dir : Gfid) (name : List ℕ) (watched : ℕ) (sets : List ℕ) (seen : Seen) (ending : Ending) → EndsClose f ending → Closes f None (looks_along dir name watched sets seen ending)
along_close f dir name watched [] seen ending ends = ends found.Absent seen tt
along_close f dir name watched (set ∷ sets) seen ending ends =
    names_close f None set dir _ tt
    (λ shown. kept_close f shown _ (item_close f set (seen_on watched set seen shown) ending _ (item_named shown.items name) ends (along_close f dir name watched sets (seen_on watched set seen shown) ending ends)))

on_close : (f : Fop) (s : Search) (watched : ℕ) (seen : Seen) (ending : Ending) (item : Option Item) → EndsClose f ending → Closes f None (looks_on s watched seen ending item)
on_close f s watched seen ending None ends = along_close f s.parent s.name watched s.rest seen ending ends
on_close f s watched seen ending (Some item) ends =
    if_close f None _ (ending (found.Item s.hashed item.gfid item.kind) seen) (is_link item.kind)
    (along_close f s.parent s.name watched (led s.hashed s.rest (set_named s.names item.target)) (record seen { has_link = true }) ending ends) (ends (found.Item s.hashed item.gfid item.kind) seen tt)

pub looks_close : (f : Fop) (dir : Gfid) (name : List ℕ) (names : List (List ℕ)) (watched : ℕ) (ending : ℕ → Ending) (hashed : ℕ) → EndsClose f (ending hashed) → Closes f None (looks_in dir name names watched ending hashed)
looks_close f dir name names watched ending hashed ends =
    names_close f None hashed dir _ tt
    (λ shown. kept_close f shown _ (on_close f (search_of dir name names hashed) watched (seen_on watched hashed unseen shown) (ending hashed) (item_named shown.items name) ends))

spans_close : (f : Fop) (dir : Gfid) (sets : List ℕ) (spans : List (Option Span)) (next : List (Option Span) → Course) → ((whole : List (Option Span)) → Closes f None (next whole)) → Closes f None (reads_spans dir sets spans next)
spans_close f dir [] spans next k = k spans
spans_close f dir (set ∷ sets) spans next k = read_close f None set _ 0 true _ tt (λ contents place. spans_close f dir sets (spans ++ span_of (first_content contents) ∷ []) next k)

pub finds_close : (f : Fop) (count : ℕ) (dir : Gfid) (known : Option ℕ) (next : ℕ → Course) (after : List (Option Span) → Course) → ((set : ℕ) → Closes f None (next set)) → ((whole : List (Option Span)) → Closes f None (after whole))
    → Closes f None (finds count dir known next after)
finds_close f count dir (Some set) next after k m = k set
finds_close f count dir None next after k m = spans_close f dir (range_with_len 0 count) [] after m

pub on_name_close : (f : Fop) (v : Volume) (names : List (List ℕ)) (kept : Kept) (parent : Object) (name : List ℕ) (ending : ℕ → Ending) → ((hashed : ℕ) → EndsClose f (ending hashed)) → Closes f None (on_name v names kept parent name ending)
on_name_close f v names kept parent name ending ends =
    named_close f parent name None _
    (finds_close f (length names) parent.gfid (known_set v kept parent.gfid name) _ _
    (λ set. looks_close f parent.gfid name names 0 ending set (ends set))
    (λ whole. looks_close f parent.gfid name names 0 ending (hashed_set whole name) (ends (hashed_set whole name))))
