-- One more set of a look: what the search makes of it is what the look's course says.
use Rattle.std.proofs.Common.{eq-eqb, ◌≡◌, ◌∙◌, ℕ, ◌==◌, Bool, true, false, List, [], ◌∷◌, Option, Some, None, Ok, if◌then◌else◌, refl, ap, sym, subst, arith}
use Rattle.std.proofs.lemmas.Bool.{eqb-true}
use Rattle.dht_linkto.specs.DirNames.{names_job}
use Rattle.dht_linkto.specs.Search.{Search, search_of, hashed_set, is_set, led, set_named}
use Rattle.dht_linkto.specs.Steps.{next_of, reading, next, next_by, after, after_item}
use Rattle.dht_linkto.specs.declared.found.Found.{Found}
use Rattle.dht_linkto.specs.declared.found.Found.TheVariants as found
use Rattle.dht_linkto.specs.declared.found.Next.TheVariants.{Ask, Done}
use Rattle.dht_fops.proofs.Sets.{sets_end}
use Rattle.dht_fops.specs.Courses.{Course, after_names}
use Rattle.dht_fops.specs.Courses.Course.{Asks}
use Rattle.dht_fops.specs.Looks.{reads_spans, by_item, looks_along, looks_on, seen_on, unseen}
use Rattle.dht_fops.specs.code.Waits.{with_spans, sets_left, reads_on, looks_after_spans, asks_names, looked, looked_by, looked_on, goes_on, looks_of, ending_of, watched}
use Rattle.dht_fops.specs.declared.look.Look.{Look}
use Rattle.dht_fops.specs.declared.look.Seen.{Seen}
use Rattle.dht_fops.specs.declared.state.OnNames.TheVariants as names
use Rattle.dht_fops.specs.declared.state.State.TheVariants as state
use Rattle.dht_fops.specs.declared.purpose.Purpose.{Purpose}
use Rattle.dht_fops.specs.declared.spans_read.SpansRead.{SpansRead}
use Rattle.dht_fops.specs.declared.volume.Volume.{Volume}
use Rattle.dht_linkto.specs.declared.names.DirNames.{DirNames}
use Rattle.fop_types.specs.Names.{is_link, item_named}
use Rattle.fop_types.specs.declared.cells.Gfid.{Gfid}
use Rattle.fop_types.specs.declared.contents.Item.{Item}

-- ---- a further set is asked

abbrev asks_next : Volume → Purpose → Search → Seen → ℕ → Course
asks_next v p s seen next = Asks next (names_job s.parent) (after_names (looked_by (next == s.hashed) v p s seen next))

abbrev goes_along : Volume → Purpose → Search → Seen → List ℕ → Course
goes_along v p s seen sets = looks_along s.parent s.name (watched p) sets seen (ending_of v p s.parent s.name s.names s.hashed)

along_ask : (v : Volume) (p : Purpose) (s : Search) (seen : Seen) (sets : List ℕ) (next : ℕ) → next_of sets ≡ Ask next → is_set (reading s sets).asked (reading s sets).hashed ≡ false → asks_next v p (reading s sets) seen next ≡ goes_along v p s seen sets
along_ask v p s seen [] next e f = absurd cc
along_ask v p s seen (set ∷ sets) next e f =
    let same : set ≡ next = cc in
    rw (← same, f) refl

reading_link : (s : Search) (sets : List ℕ) → (reading s sets).has_link ≡ s.has_link
reading_link s [] = refl
reading_link s (set ∷ sets) = refl

-- with the link that was seen in hand
abbrev linked : Seen → Bool → Seen
linked seen has_link = record seen { has_link = has_link }

along_linked : (v : Volume) (p : Purpose) (s : Search) (seen : Seen) (sets : List ℕ) (next : ℕ) → next_of sets ≡ Ask next → is_set (reading s sets).asked (reading s sets).hashed ≡ false → asks_next v p (reading s sets) (linked seen (reading s sets).has_link) next ≡ goes_along v p s (linked seen s.has_link) sets
along_linked v p s seen sets next e f = rw (reading_link s sets) (along_ask v p s (linked seen s.has_link) sets next e f)

-- what the course says, by the item of the name on the set
abbrev says : Bool → Volume → Purpose → Search → Seen → ℕ → Option Item → Course
says true v p s seen set item = looks_on s (watched p) seen (ending_of v p s.parent s.name s.names s.hashed) item
says false v p s seen set item = by_item set seen (ending_of v p s.parent s.name s.names s.hashed) (goes_along v p s seen s.rest) item

ask_link : (v : Volume) (p : Purpose) (s : Search) (seen : Seen) (set next : ℕ) (item : Item) (first link : Bool) → (set == s.hashed) ≡ first → is_link item.kind ≡ link
    → next_by s set (Some item) ≡ Ask next → is_set (after_item s set (Some item)).asked (after_item s set (Some item)).hashed ≡ false
    → asks_next v p (after_item s set (Some item)) (linked seen (after_item s set (Some item)).has_link) next ≡ says first v p s (linked seen s.has_link) set (Some item)
ask_link v p s seen set next item first false tested e n f = absurd (let wrong : Done (found.Item set item.gfid item.kind) ≡ Ask next = rw e at n in cc)
ask_link v p s seen set next item true true tested e n f =
    let m = rw (e, tested) at n in
    let g = rw (e, tested) at f in
    rw (e, tested) (along_linked v p (record s { has_link = true }) seen (led s.hashed s.rest (set_named s.names item.target)) next m g)
ask_link v p s seen set next item false true tested e n f =
    let m = rw (e, tested) at n in
    let g = rw (e, tested) at f in
    rw (e, tested) (along_linked v p s seen s.rest next m g)

pub ask_by : (v : Volume) (p : Purpose) (s : Search) (seen : Seen) (set next : ℕ) (item : Option Item) (first : Bool) → (set == s.hashed) ≡ first
    → next_by s set item ≡ Ask next → is_set (after_item s set item).asked (after_item s set item).hashed ≡ false
    → asks_next v p (after_item s set item) (linked seen (after_item s set item).has_link) next ≡ says first v p s (linked seen s.has_link) set item
ask_by v p s seen set next None true tested n f = along_linked v p s seen s.rest next n f
ask_by v p s seen set next None false tested n f = along_linked v p s seen s.rest next n f
ask_by v p s seen set next (Some item) first tested n f = ask_link v p s seen set next item first (is_link item.kind) tested refl n f

-- ---- the look ends

abbrev ends_with : Volume → Purpose → Search → Seen → Found → Course
ends_with v p s seen result = ending_of v p s.parent s.name s.names s.hashed result seen

along_done : (v : Volume) (p : Purpose) (s : Search) (seen : Seen) (sets : List ℕ) (result : Found) → next_of sets ≡ Done result → ends_with v p (reading s sets) seen result ≡ goes_along v p s seen sets
along_done v p s seen [] result e = let same : found.Absent ≡ result = cc in rw (← same) refl
along_done v p s seen (set ∷ sets) result e = absurd cc

along_done_linked : (v : Volume) (p : Purpose) (s : Search) (seen : Seen) (sets : List ℕ) (result : Found) → next_of sets ≡ Done result → ends_with v p (reading s sets) (linked seen (reading s sets).has_link) result ≡ goes_along v p s (linked seen s.has_link) sets
along_done_linked v p s seen sets result e = rw (reading_link s sets) (along_done v p s (linked seen s.has_link) sets result e)

done_link : (v : Volume) (p : Purpose) (s : Search) (seen : Seen) (set : ℕ) (result : Found) (item : Item) (first link : Bool) → (set == s.hashed) ≡ first → is_link item.kind ≡ link
    → next_by s set (Some item) ≡ Done result
    → ends_with v p (after_item s set (Some item)) (linked seen (after_item s set (Some item)).has_link) result ≡ says first v p s (linked seen s.has_link) set (Some item)
done_link v p s seen set result item true false tested e n =
    let m : Done (found.Item set item.gfid item.kind) ≡ Done result = rw e at n in
    let same : found.Item set item.gfid item.kind ≡ result = cc in
    let here : set ≡ s.hashed = eqb-true set s.hashed tested in
    rw (e, ← same, here) refl
done_link v p s seen set result item false false tested e n =
    let m : Done (found.Item set item.gfid item.kind) ≡ Done result = rw e at n in
    let same : found.Item set item.gfid item.kind ≡ result = cc in
    rw (e, ← same) refl
done_link v p s seen set result item true true tested e n =
    let m = rw (e, tested) at n in
    rw (e, tested) (along_done_linked v p (record s { has_link = true }) seen (led s.hashed s.rest (set_named s.names item.target)) result m)
done_link v p s seen set result item false true tested e n =
    let m = rw (e, tested) at n in
    rw (e, tested) (along_done_linked v p s seen s.rest result m)

pub done_by : (v : Volume) (p : Purpose) (s : Search) (seen : Seen) (set : ℕ) (result : Found) (item : Option Item) (first : Bool) → (set == s.hashed) ≡ first
    → next_by s set item ≡ Done result
    → ends_with v p (after_item s set item) (linked seen (after_item s set item).has_link) result ≡ says first v p s (linked seen s.has_link) set item
done_by v p s seen set result None true tested n = along_done_linked v p s seen s.rest result n
done_by v p s seen set result None false tested n = along_done_linked v p s seen s.rest result n
done_by v p s seen set result (Some item) first tested n = done_link v p s seen set result item first (is_link item.kind) tested refl n

-- ---- both, by what the set showed

kept_says : (first : Bool) (v : Volume) (p : Purpose) (s : Search) (seen : Seen) (set : ℕ) (shown : DirNames) → shown.removed ≡ false
    → looked_by first v p s seen set shown ≡ says first v p s (seen_on (watched p) set seen shown) set (item_named shown.items s.name)
kept_says true v p s seen set shown e = rw e refl
kept_says false v p s seen set shown e = rw e refl

abbrev pub in_hand : ℕ → Bool → Option Bool → Seen
in_hand place has_link copy = record { place = place; has_link = has_link; copy = copy }

abbrev pub copy_on : Purpose → ℕ → Option Bool → DirNames → Option Bool
copy_on p set copy shown = if set == watched p then Some shown.has_copy else copy

pub look_asks : (v : Volume) (p : Purpose) (s t : Search) (place : ℕ) (copy : Option Bool) (set asked : ℕ) (shown : DirNames) → shown.removed ≡ false
    → next s set (Ok shown.items) ≡ Ask asked → t ≡ after s set (Ok shown.items) → is_set t.asked t.hashed ≡ false
    → asks_names v (record { lookup = t; place = shown.place; copy = copy_on p set copy shown; purpose = p }) asked ≡ looked v p s (in_hand place s.has_link copy) set shown
look_asks v p s t place copy set asked shown kept n e f =
    let P : Search → Type 0 = λ (u : Search). is_set u.asked u.hashed ≡ false → asks_names v (record { lookup = u; place = shown.place; copy = copy_on p set copy shown; purpose = p }) asked ≡ looked v p s (in_hand place s.has_link copy) set shown in
    subst P (sym e) (λ (g : is_set (after s set (Ok shown.items)).asked (after s set (Ok shown.items)).hashed ≡ false).
    ask_by v p s (seen_on (watched p) set (in_hand place s.has_link copy) shown) set asked (item_named shown.items s.name) (set == s.hashed) refl n g
    ∙ sym (kept_says (set == s.hashed) v p s (in_hand place s.has_link copy) set shown kept)) f

pub look_ends : (v : Volume) (p : Purpose) (s t : Search) (place : ℕ) (copy : Option Bool) (set : ℕ) (result : Found) (shown : DirNames) → shown.removed ≡ false
    → next s set (Ok shown.items) ≡ Done result → t ≡ after s set (Ok shown.items)
    → ending_of v p t.parent t.name t.names t.hashed result (in_hand shown.place t.has_link (copy_on p set copy shown)) ≡ looked v p s (in_hand place s.has_link copy) set shown
look_ends v p s t place copy set result shown kept n e =
    let P : Search → Type 0 = λ (u : Search). ending_of v p u.parent u.name u.names u.hashed result (in_hand shown.place u.has_link (copy_on p set copy shown)) ≡ looked v p s (in_hand place s.has_link copy) set shown in
    subst P (sym e)
    (done_by v p s (seen_on (watched p) set (in_hand place s.has_link copy) shown) set result (item_named shown.items s.name) (set == s.hashed) refl n
    ∙ sym (kept_says (set == s.hashed) v p s (in_hand place s.has_link copy) set shown kept))

-- a look that waits goes on by what the set that is asked shows
pub look_waits : (v : Volume) (l : Look) (asked : ℕ) → l.lookup.asked ≡ Some asked → Asks asked (names_job l.lookup.parent) (goes_on v (state.Names (names.Look l))) ≡ asks_names v l asked
look_waits v l asked e = ap (λ (o : Option ℕ). Asks asked (names_job l.lookup.parent) (after_names (looked_on v l o))) e

-- a look begins on the set to which the name belongs
pub look_begins : (v : Volume) (p : Purpose) (dir : Gfid) (name : List ℕ) (set_names : List (List ℕ)) (hashed : ℕ)
    → asks_names v (record { lookup = search_of dir name set_names hashed; place = 0; copy = None; purpose = p }) hashed ≡ looks_of v p dir name set_names hashed
look_begins v p dir name set_names hashed =
    ap (λ (b : Bool). Asks hashed (names_job dir) (after_names (looked_by b v p (search_of dir name set_names hashed) unseen hashed))) (eq-eqb hashed hashed refl)

-- ---- the same of a course that is known by an equation

pub look_begun : (v : Volume) (p : Purpose) (dir : Gfid) (name : List ℕ) (set_names : List (List ℕ)) (hashed : ℕ) (s : Search) (course : Course) → s ≡ search_of dir name set_names hashed
    → course ≡ asks_names v (record { lookup = s; place = 0; copy = None; purpose = p }) hashed → course ≡ looks_of v p dir name set_names hashed
look_begun v p dir name set_names hashed s course e h =
    h ∙ ap (λ (one : Search). asks_names v (record { lookup = one; place = 0; copy = None; purpose = p }) hashed) e ∙ look_begins v p dir name set_names hashed

pub look_asked : (v : Volume) (p : Purpose) (s t : Search) (place : ℕ) (copy new : Option Bool) (set asked : ℕ) (shown : DirNames) (course : Course) → shown.removed ≡ false
    → next s set (Ok shown.items) ≡ Ask asked → t ≡ after s set (Ok shown.items) → is_set t.asked t.hashed ≡ false → new ≡ copy_on p set copy shown
    → course ≡ asks_names v (record { lookup = t; place = shown.place; copy = new; purpose = p }) asked → course ≡ looked v p s (in_hand place s.has_link copy) set shown
look_asked v p s t place copy new set asked shown course kept n e f c h =
    h ∙ ap (λ (one : Option Bool). asks_names v (record { lookup = t; place = shown.place; copy = one; purpose = p }) asked) c ∙ look_asks v p s t place copy set asked shown kept n e f

-- once each set was read, the name is looked for by the layout
pub look_by_spans : (v : Volume) (s : SpansRead) (p : Purpose) (hashed : ℕ) (course : Course) → s.next ≡ s.count → p ≡ with_spans s.dir s.spans s.purpose → hashed ≡ hashed_set s.spans s.name
    → course ≡ looks_of v p s.dir s.name s.names hashed → course ≡ reads_on v s
look_by_spans v s p hashed course e f g h =
    let none : sets_left s ≡ [] = sets_end s.next s.count (omega arith) in
    h ∙ ap (λ (one : Purpose). looks_of v one s.dir s.name s.names hashed) f ∙ ap (λ (set : ℕ). looks_of v (with_spans s.dir s.spans s.purpose) s.dir s.name s.names set) g
    ∙ ap (λ (sets : List ℕ). reads_spans s.dir sets s.spans (looks_after_spans v s.purpose s.dir s.name s.names)) (sym none)
