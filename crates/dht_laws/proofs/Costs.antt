-- How many jobs a course asks for: looks, layouts, and what comes after them.
use Rattle.std.proofs.Common.{◌≡◌, ℕ, suc, ◌+◌, ◌-◌, ◌≤◌, ◌==◌, Bool, true, false, List, [], ◌∷◌, ◌++◌, Option, Some, None, Result, Ok, Err, if◌then◌else◌, length, sym, subst, arith}
use Rattle.std.proofs.lemmas.List.FromFn.{length-range_with_len}
use Rattle.std.specs.List.{range_with_len}
use Rattle.dht_linkto.specs.DirNames.{names_in, first_content}
use Rattle.dht_linkto.specs.Search.{Search, search_of, is_set, without, others, led, set_named}
use Rattle.dht_linkto.specs.declared.found.Found.{Found}
use Rattle.dht_linkto.specs.declared.found.Found.TheVariants as found
use Rattle.dht_linkto.specs.declared.names.DirNames.{DirNames}
use Rattle.dht_laws.specs.Costs.{AsksAtMost}
use Rattle.dht_fops.specs.Courses.{Course, refuses, on_contents, after_read, contents_in, on_names, after_names, on_number, after_change, number_in}
use Rattle.dht_fops.specs.Courses.Course.{Asks, Extends, Ends}
use Rattle.dht_fops.specs.Looks.{Ending, where_kept, by_item, looks_along, looks_on, looks, looks_in, finds, reads_spans, span_of, seen_on, unseen}
use Rattle.dht_laws.proofs.Arguments.{Seen}
use Rattle.fop_types.specs.Names.{item_named, is_link}
use Rattle.fop_types.specs.declared.answers.AppError.TheVariants.{Enoent}
use Rattle.fop_types.specs.declared.answers.IoError.{IoError}
use Rattle.fop_types.specs.declared.cells.Gfid.{Gfid}
use Rattle.fop_types.specs.declared.contents.Content.{Content}
use Rattle.fop_types.specs.declared.contents.Item.{Item}
use Rattle.fop_types.specs.declared.contents.Span.{Span}
use Rattle.fop_types.specs.declared.jobs.SetReply.{SetReply}

pub most : (n k : ℕ) (c : Course) → n ≤ k → AsksAtMost n c → AsksAtMost k c
most n k (Asks set job next) h a = (let some = a.0 in omega arith, λ reply. most (n - 1) (k - 1) (next reply) (omega arith) (a.1 reply))
most n k (Extends dir next) h a = most n k next h a
most n k (Ends answer place) h a = tt

-- ---- one job

-- what is left after one job; the job itself does not matter
abbrev pub AndOne : ℕ → (SetReply → Course) → Type 0
AndOne n next = (1 ≤ suc n) × ((reply : SetReply) → AsksAtMost (suc n - 1) (next reply))

pub ask_most : (n : ℕ) (next : SetReply → Course) → ((reply : SetReply) → AsksAtMost n (next reply)) → AndOne n next
ask_most n next k =
    (omega arith, λ reply. let e : suc n - 1 ≡ n = omega arith in subst (λ (j : ℕ). AsksAtMost j (next reply)) (sym e) (k reply))

contents_most : (n : ℕ) (next : List (Option Content) → ℕ → Course) (read : Result (List (Option Content) × ℕ) IoError) → ((contents : List (Option Content)) (place : ℕ) → AsksAtMost n (next contents place))
    → AsksAtMost n (on_contents next read)
contents_most n next (Ok read) k = k read.0 read.1
contents_most n next (Err error) k = tt

pub read_most : (n : ℕ) (next : List (Option Content) → ℕ → Course) → ((contents : List (Option Content)) (place : ℕ) → AsksAtMost n (next contents place)) → AndOne n (after_read next)
read_most n next k = ask_most n (after_read next) (λ reply. contents_most n next (contents_in reply) k)

shown_most : (n : ℕ) (next : DirNames → Course) (read : Result DirNames IoError) → ((shown : DirNames) → AsksAtMost n (next shown)) → AsksAtMost n (on_names next read)
shown_most n next (Ok shown) k = k shown
shown_most n next (Err error) k = tt

pub names_most : (n : ℕ) (next : DirNames → Course) → ((shown : DirNames) → AsksAtMost n (next shown)) → AndOne n (after_names next)
names_most n next k = ask_most n (after_names next) (λ reply. shown_most n next (names_in reply) k)

number_most : (n : ℕ) (next : Option ℕ → Course) (read : Result (Option ℕ) IoError) → ((number : Option ℕ) → AsksAtMost n (next number)) → AsksAtMost n (on_number next read)
number_most n next (Ok number) k = k number
number_most n next (Err error) k = tt

pub change_most : (n : ℕ) (next : Option ℕ → Course) → ((number : Option ℕ) → AsksAtMost n (next number)) → AndOne n (after_change next)
change_most n next k = ask_most n (after_change next) (λ reply. number_most n next (number_in reply) k)

pub if_most : (n : ℕ) (one other : Course) (b : Bool) → AsksAtMost n one → AsksAtMost n other → AsksAtMost n (if b then one else other)
if_most n one other true y f = y
if_most n one other false y f = f

-- ---- the names

abbrev pub EndsIn : ℕ → Ending → Type 0
EndsIn n ending = (result : Found) (seen : Seen) → AsksAtMost n (ending result seen)

item_most : (n k set : ℕ) (seen : Seen) (ending : Ending) (later : Course) (item : Option Item) → k ≤ n → EndsIn k ending → AsksAtMost n later → AsksAtMost n (by_item set seen ending later item)
item_most n k set seen ending later None h ends l = l
item_most n k set seen ending later (Some item) h ends l = if_most n later (ending (found.Item set item.gfid item.kind) seen) (is_link item.kind) l (most k n (ending (found.Item set item.gfid item.kind) seen) h (ends (found.Item set item.gfid item.kind) seen))

-- the names of one more set, and then the rest of the look
shown_asks : (n k set : ℕ) (name : List ℕ) (seen : Seen) (ending : Ending) (later : Course) (shown : DirNames) → k ≤ n → EndsIn k ending → AsksAtMost n later
    → AsksAtMost n (where_kept shown (by_item set seen ending later (item_named shown.items name)))
shown_asks n k set name seen ending later shown h ends l =
    if_most n (refuses Enoent (Some shown.place)) (by_item set seen ending later (item_named shown.items name)) shown.removed tt (item_most n k set seen ending later (item_named shown.items name) h ends l)

abbrev along_next : Gfid → List ℕ → ℕ → ℕ → List ℕ → Seen → Ending → DirNames → Course
along_next dir name watched set sets seen ending shown =
    where_kept shown (by_item set (seen_on watched set seen shown) ending (looks_along dir name watched sets (seen_on watched set seen shown) ending) (item_named shown.items name))

pub along_most : (k : ℕ) (dir : Gfid) (name : List ℕ) (watched : ℕ) (sets : List ℕ) (seen : Seen) (ending : Ending) → EndsIn k ending → AsksAtMost (length sets + k) (looks_along dir name watched sets seen ending)
along_most k dir name watched [] seen ending ends = most k (0 + k) (ending found.Absent seen) (omega arith) (ends found.Absent seen)
along_most k dir name watched (set ∷ sets) seen ending ends =
    most (suc (length sets + k)) (length (set ∷ sets) + k) (looks_along dir name watched (set ∷ sets) seen ending) (omega arith)
    (names_most (length sets + k) (along_next dir name watched set sets seen ending)
    (λ shown. shown_asks (length sets + k) k set name (seen_on watched set seen shown) ending (looks_along dir name watched sets (seen_on watched set seen shown) ending) shown (omega arith) ends
    (along_most k dir name watched sets (seen_on watched set seen shown) ending ends)))

without_by : (n : ℕ) (set : ℕ) (sets : List ℕ) (b : Bool) → length sets ≤ n → length (if b then sets else set ∷ sets) ≤ n + 1
without_by n set sets true h = omega arith
without_by n set sets false h = omega arith

without_few : (sets : List ℕ) (one : Option ℕ) → length (without sets one) ≤ length sets
without_few [] one = omega arith
without_few (set ∷ sets) one = let h = without_by (length sets) set (without sets one) (is_set one set) (without_few sets one) in omega arith

led_by : (set : ℕ) (sets : List ℕ) (b : Bool) → length (if b then sets else set ∷ without sets (Some set)) ≤ length sets + 1
led_by set sets true = omega arith
led_by set sets false = let h = without_few sets (Some set) in omega arith

led_few : (hashed : ℕ) (sets : List ℕ) (link : Option ℕ) → length (led hashed sets link) ≤ length sets + 1
led_few hashed sets None = omega arith
led_few hashed sets (Some set) = led_by set sets (set == hashed)

on_most : (k : ℕ) (s : Search) (watched : ℕ) (seen : Seen) (ending : Ending) (item : Option Item) → EndsIn k ending → AsksAtMost (length s.rest + 1 + k) (looks_on s watched seen ending item)
on_most k s watched seen ending None ends =
    most (length s.rest + k) (length s.rest + 1 + k) (looks_along s.parent s.name watched s.rest seen ending) (omega arith) (along_most k s.parent s.name watched s.rest seen ending ends)
on_most k s watched seen ending (Some item) ends = by_link (led s.hashed s.rest (set_named s.names item.target)) (led_few s.hashed s.rest (set_named s.names item.target)) (is_link item.kind)
  where
    by_link : (sets : List ℕ) → length sets ≤ length s.rest + 1 → (b : Bool)
        → AsksAtMost (length s.rest + 1 + k) (if b then looks_along s.parent s.name watched sets (record seen { has_link = true }) ending else ending (found.Item s.hashed item.gfid item.kind) seen)
    by_link sets few true =
        most (length sets + k) (length s.rest + 1 + k) (looks_along s.parent s.name watched sets (record seen { has_link = true }) ending) (omega arith) (along_most k s.parent s.name watched sets (record seen { has_link = true }) ending ends)
    by_link sets few false = most k (length s.rest + 1 + k) (ending (found.Item s.hashed item.gfid item.kind) seen) (omega arith) (ends (found.Item s.hashed item.gfid item.kind) seen)

abbrev first_next : Search → ℕ → Ending → DirNames → Course
first_next s watched ending shown = where_kept shown (looks_on s watched (seen_on watched s.hashed unseen shown) ending (item_named shown.items s.name))

looks_most : (k : ℕ) (s : Search) (watched : ℕ) (ending : Ending) → EndsIn k ending → AsksAtMost (suc (length s.rest + 1 + k)) (looks s watched ending)
looks_most k s watched ending ends =
    names_most (length s.rest + 1 + k) (first_next s watched ending)
    (λ shown. if_most (length s.rest + 1 + k) (refuses Enoent (Some shown.place)) (looks_on s watched (seen_on watched s.hashed unseen shown) ending (item_named shown.items s.name)) shown.removed tt
    (on_most k s watched (seen_on watched s.hashed unseen shown) ending (item_named shown.items s.name) ends))

pub looks_in_most : (k : ℕ) (dir : Gfid) (name : List ℕ) (names : List (List ℕ)) (watched : ℕ) (ending : ℕ → Ending) (hashed : ℕ) → EndsIn k (ending hashed)
    → AsksAtMost (length names + 2 + k) (looks_in dir name names watched ending hashed)
looks_in_most k dir name names watched ending hashed ends =
    let few = without_few (range_with_len 0 (length names)) (Some hashed) in
    let all = length-range_with_len 0 (length names) in
    most (suc (length (others (length names) hashed) + 1 + k)) (length names + 2 + k) (looks_in dir name names watched ending hashed) (omega (arith, few, all)) (looks_most k (search_of dir name names hashed) watched (ending hashed) ends)

-- ---- the layout

spans_most : (k : ℕ) (dir : Gfid) (sets : List ℕ) (spans : List (Option Span)) (next : List (Option Span) → Course) → ((whole : List (Option Span)) → AsksAtMost k (next whole))
    → AsksAtMost (length sets + k) (reads_spans dir sets spans next)
spans_most k dir [] spans next a = most k (0 + k) (next spans) (omega arith) (a spans)
spans_most k dir (set ∷ sets) spans next a =
    most (suc (length sets + k)) (length (set ∷ sets) + k) (reads_spans dir (set ∷ sets) spans next) (omega arith)
    (read_most (length sets + k) (λ contents place. reads_spans dir sets (spans ++ span_of (first_content contents) ∷ []) next) (λ contents place. spans_most k dir sets (spans ++ span_of (first_content contents) ∷ []) next a))

pub finds_most : (k count : ℕ) (dir : Gfid) (known : Option ℕ) (next : ℕ → Course) (after : List (Option Span) → Course) → ((set : ℕ) → AsksAtMost k (next set)) → ((whole : List (Option Span)) → AsksAtMost k (after whole))
    → AsksAtMost (count + k) (finds count dir known next after)
finds_most k count dir (Some set) next after n a = most k (count + k) (next set) (omega arith) (n set)
finds_most k count dir None next after n a =
    let all = length-range_with_len 0 count in
    most (length (range_with_len 0 count) + k) (count + k) (reads_spans dir (range_with_len 0 count) [] after) (omega (arith, all)) (spans_most k dir (range_with_len 0 count) [] after a)
