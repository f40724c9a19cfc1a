-- What a search knows is kept by each reply.
use Rattle.std.proofs.Common.{◌≡◌, ◌∙◌, ℕ, zero, suc, ◌+◌, ◌<◌, ◌≤◌, ◌==◌, Bool, true, false, List, [], ◌∷◌, Option, Some, None, Result, Ok, Err, if◌then◌else◌, length, refl, sym, arith, eq-eqb}
use Rattle.std.specs.List.{range_with_len}
use Rattle.dht_linkto.specs.Known.{Reply, Replies, reply_of, is_no_object, shows_none, unread, Knows, KnowsNext, IsObjectOf}
use Rattle.dht_linkto.specs.Laws.{times}
use Rattle.dht_linkto.specs.Search.{Search, search_of, is_set, without, others, led, set_named}
use Rattle.dht_linkto.specs.Steps.{next_of, reading, ended, next, after, next_by, after_item}
use Rattle.dht_linkto.proofs.Orders.{each_once, times_without}
use Rattle.dht_linkto.proofs.Runs.{within_names}
use Rattle.fop_types.specs.Bounds.{Each}
use Rattle.fop_types.specs.Names.{item_named, is_link}
use Rattle.fop_types.specs.declared.answers.IoError.{IoError}
use Rattle.fop_types.specs.declared.cells.Gfid.{Gfid}
use Rattle.fop_types.specs.declared.contents.Item.{Item}

-- ---- lists of sets of the volume

abbrev pub Below : ℕ → List ℕ → Type 0
Below count sets = Each (λ (set : ℕ). set < count) sets

below_if : (count other : ℕ) (rest : List ℕ) (b : Bool) → other < count → Below count rest → Below count (if b then rest else other ∷ rest)
below_if count other rest true h r = r
below_if count other rest false h r = (h, r)

pub below_without : (count : ℕ) (sets : List ℕ) (one : Option ℕ) → Below count sets → Below count (without sets one)
below_without count [] one b = tt
below_without count (other ∷ sets) one b = below_if count other (without sets one) (is_set one other) b.0 (below_without count sets one b.1)

pub below_range : (count first n : ℕ) → first + n ≤ count → Below count (range_with_len first n)
below_range count first zero h = tt
below_range count first (suc n) h = (omega arith, below_range count (first + 1) n (omega arith))

below_led_by : (count set : ℕ) (sets : List ℕ) (b : Bool) → set < count → Below count sets → Below count (if b then sets else set ∷ without sets (Some set))
below_led_by count set sets true h s = s
below_led_by count set sets false h s = (h, below_without count sets (Some set) s)

pub below_led : (count hashed : ℕ) (sets : List ℕ) (link : Option ℕ) → ((set : ℕ) → link ≡ Some set → set < count) → Below count sets → Below count (led hashed sets link)
below_led count hashed sets None w s = s
below_led count hashed sets (Some set) w s = below_led_by count set sets (set == hashed) (w set refl) s

-- ---- a set that is not left

zero_tail : (other set : ℕ) (sets : List ℕ) (b : Bool) → (if b then suc (times other (without sets (Some set))) else times other (without sets (Some set))) ≡ 0 → (set == other) ≡ b → times other sets ≡ 0
zero_tail other set sets true t e = absurd (omega arith)
zero_tail other set sets false t e = sym (times_without other set sets e) ∙ t

zero_led_by : (other hashed set : ℕ) (sets : List ℕ) (b : Bool) → times other (if b then sets else set ∷ without sets (Some set)) ≡ 0 → times other sets ≡ 0
zero_led_by other hashed set sets true t = t
zero_led_by other hashed set sets false t = zero_tail other set sets (set == other) t refl

-- a set that is not left once a link was followed was not left before
pub zero_led : (other hashed : ℕ) (sets : List ℕ) (link : Option ℕ) → times other (led hashed sets link) ≡ 0 → times other sets ≡ 0
zero_led other hashed sets None t = t
zero_led other hashed sets (Some set) t = zero_led_by other hashed set sets (set == hashed) t

-- ---- one more reply

none_by : (s : Search) (replies : Replies) (set other : ℕ) (items : List Item) (b : Bool) → (set == other) ≡ b → s.asked ≡ Some set → is_no_object (item_named items s.name) ≡ true
    → (times other (unread s.asked s.rest) ≡ 0 → shows_none s.name (reply_of other replies) ≡ true)
    → times other s.rest ≡ 0 → shows_none s.name (if b then Some (Ok items) else reply_of other replies) ≡ true
none_by s replies set other items true e a none before t = none
none_by s replies set other items false e a none before t =
    let away : times other (unread s.asked s.rest) ≡ 0 = rw (a, e) t in
    before away

abbrev NoneLeft : Search → Replies → List ℕ → Type 0
NoneLeft s replies sets = (other : ℕ) → other < length s.names → times other sets ≡ 0 → shows_none s.name (reply_of other replies) ≡ true

-- the set that was asked showed no file or directory of the name
none_left : (s : Search) (replies : Replies) (set : ℕ) (items : List Item) → s.asked ≡ Some set → Knows s replies → is_no_object (item_named items s.name) ≡ true
    → NoneLeft s ((set, Ok items) ∷ replies) s.rest
none_left s replies set items a k none other h t =
    none_by s replies set other items (set == other) refl a none (λ away. k.others_show_none other h away) t

next_knows : (s : Search) (replies : Replies) (sets : List ℕ) → s.hashed < length s.names → Below (length s.names) sets → NoneLeft s replies sets → KnowsNext (reading s sets) replies (next_of sets)
next_knows s replies [] h b n = λ set i. n set i refl
next_knows s replies (set ∷ sets) h b n = record { hashed_is_set = h; unread_are_sets = b; others_show_none = n }

asked_below : (s : Search) (replies : Replies) (set : ℕ) → s.asked ≡ Some set → Knows s replies → Below (length s.names) (set ∷ s.rest)
asked_below s replies set a k = rw a at k.unread_are_sets

-- ---- by the item of the name

-- along the sets that are left, or along those to which a link leads
goes_on : (s : Search) (replies : Replies) (set : ℕ) (items : List Item) → s.asked ≡ Some set → Knows s replies → is_no_object (item_named items s.name) ≡ true
    → KnowsNext (reading s s.rest) ((set, Ok items) ∷ replies) (next_of s.rest)
goes_on s replies set items a k none =
    next_knows s ((set, Ok items) ∷ replies) s.rest k.hashed_is_set (asked_below s replies set a k).1 (none_left s replies set items a k none)

follows : (s : Search) (replies : Replies) (set : ℕ) (items : List Item) (target : List ℕ) → s.asked ≡ Some set → Knows s replies → is_no_object (item_named items s.name) ≡ true
    → KnowsNext (reading (record s { has_link = true }) (led s.hashed s.rest (set_named s.names target))) ((set, Ok items) ∷ replies) (next_of (led s.hashed s.rest (set_named s.names target)))
follows s replies set items target a k none =
    next_knows (record s { has_link = true }) ((set, Ok items) ∷ replies) (led s.hashed s.rest (set_named s.names target)) k.hashed_is_set
    (below_led (length s.names) s.hashed s.rest (set_named s.names target) (λ one e. within_names s.names target one e) (asked_below s replies set a k).1)
    (λ other h t. none_left s replies set items a k none other h (zero_led other s.hashed s.rest (set_named s.names target) t))

shown_first : (set : ℕ) (reply : Reply) (replies : Replies) → reply_of set ((set, reply) ∷ replies) ≡ Some reply
shown_first set reply replies = let here : (set == set) ≡ true = eq-eqb set set refl in rw here refl

object_shown : (s : Search) (replies : Replies) (set : ℕ) (items : List Item) (item : Item) → is_link item.kind ≡ false → item_named items s.name ≡ Some item → set < length s.names
    → IsObjectOf (ended s) ((set, Ok items) ∷ replies) set item.gfid item.kind
object_shown s replies set items item l e h = record {
  is_set = h;
  shown = record { items = items; item = item; read = shown_first set (Ok items) replies; named = e; is_object = l; gfid_is = refl; kind_is = refl };
}

by_link : (s : Search) (replies : Replies) (set : ℕ) (items : List Item) (item : Item) (first link : Bool) → (set == s.hashed) ≡ first → is_link item.kind ≡ link
    → item_named items s.name ≡ Some item → s.asked ≡ Some set → Knows s replies
    → KnowsNext (after_item s set (Some item)) ((set, Ok items) ∷ replies) (next_by s set (Some item))
by_link s replies set items item first false f l e a k = rw l (object_shown s replies set items item l e (asked_below s replies set a k).0)
by_link s replies set items item true true f l e a k = rw (l, f) (follows s replies set items item.target a k (rw (e, l) refl))
by_link s replies set items item false true f l e a k = rw (l, f) (goes_on s replies set items a k (rw (e, l) refl))

by_item : (s : Search) (replies : Replies) (set : ℕ) (items : List Item) (named : Option Item) → item_named items s.name ≡ named → s.asked ≡ Some set → Knows s replies
    → KnowsNext (after_item s set named) ((set, Ok items) ∷ replies) (next_by s set named)
by_item s replies set items None e a k = goes_on s replies set items a k (rw e refl)
by_item s replies set items (Some item) e a k = by_link s replies set items item (set == s.hashed) (is_link item.kind) refl refl e a k

-- ---- the law

pub keeps : (s : Search) (replies : Replies) (set : ℕ) (reply : Reply) → s.asked ≡ Some set → Knows s replies → KnowsNext (after s set reply) ((set, reply) ∷ replies) (next s set reply)
keeps s replies set (Ok items) a k = by_item s replies set items (item_named items s.name) refl a k
keeps s replies set (Err error) a k = record { set = set; is_set = (asked_below s replies set a k).0; failed = shown_first set (Err error) replies }

-- each set is left once at the beginning
pub both_times : (count hashed set : ℕ) → hashed < count → set < count → times set (hashed ∷ others count hashed) ≡ 0 → ⊥
both_times count hashed set h i t =
    let once : times set (hashed ∷ others count hashed) ≡ 1 = each_once count hashed set None h i in
    let clash : 0 ≡ 1 = sym t ∙ once in
    omega arith

pub begins : (parent : Gfid) (name : List ℕ) (names : List (List ℕ)) (hashed : ℕ) → hashed < length names → Knows (search_of parent name names hashed) []
begins parent name names hashed h = record {
  hashed_is_set = h;
  unread_are_sets = (h, below_without (length names) (range_with_len 0 (length names)) (Some hashed) (below_range (length names) 0 (length names) (omega arith)));
  others_show_none = λ set i t. absurd (both_times (length names) hashed set h i t);
}
