-- A whole search reads the sets along one order.
use Rattle.std.proofs.Common.{◌≡◌, ℕ, zero, suc, ◌+◌, ◌<◌, ◌≤◌, ◌==◌, Bool, true, false, List, [], ◌∷◌, Option, Some, None, Result, Ok, Err, if◌then◌else◌, length, refl, sym, arith, eq-eqb}
use Rattle.std.proofs.lemmas.Bool.{eqb-true}
use Rattle.std.proofs.lemmas.List.Quantifiers.{position-Some}
use Rattle.std.proofs.lemmas.List.FromFn.{length-range_with_len}
use Rattle.std.specs.Cmp.Lexicographic.{pointwise}
use Rattle.std.specs.List.{range_with_len}
use Rattle.std.specs.Prelude.{nat_eq}
use Rattle.dht_linkto.specs.Search.{Search, search_of, set_named, without, others, led}
use Rattle.dht_linkto.specs.Steps.{next_of, reading, next, after, next_by, after_item}
use Rattle.dht_linkto.specs.Laws.{Shown, by_item, by_shown, first_found, leads_to, link_in, order, outcome, times}
use Rattle.dht_linkto.specs.declared.found.Next.TheVariants.{Ask}
use Rattle.dht_linkto.proofs.Orders.{Avoids, avoids_without, led_avoids, other_way, times_others, times_range}
use Rattle.fop_types.specs.Names.{item_named, is_link}
use Rattle.fop_types.specs.declared.answers.IoError.{IoError}
use Rattle.fop_types.specs.declared.cells.Gfid.{Gfid}
use Rattle.fop_types.specs.declared.contents.Item.{Item}

-- ---- after the hashed set

-- what a search with these sets left gives, is the first of them
abbrev GoesAlong : Shown → Search → List ℕ → ℕ → Type 0
GoesAlong shown s sets n = outcome n shown (reading s sets) (next_of sets) ≡ first_found shown s.name sets

by_link : (shown : Shown) (n set : ℕ) (s : Search) (item : Item) (b : Bool) → is_link item.kind ≡ b → (set == s.hashed) ≡ false → GoesAlong shown s s.rest n
    → outcome n shown (after_item s set (Some item)) (next_by s set (Some item)) ≡ by_item set (first_found shown s.name s.rest) (Some item)
by_link shown n set s item true e other along = rw (e, other) along
by_link shown n set s item false e other along = rw e refl

by_name : (shown : Shown) (n set : ℕ) (s : Search) (item : Option Item) → (set == s.hashed) ≡ false → GoesAlong shown s s.rest n
    → outcome n shown (after_item s set item) (next_by s set item) ≡ by_item set (first_found shown s.name s.rest) item
by_name shown n set s None other along = along
by_name shown n set s (Some item) other along = by_link shown n set s item (is_link item.kind) refl other along

by_reply : (shown : Shown) (n set : ℕ) (s : Search) (reply : Result (List Item) IoError) → (set == s.hashed) ≡ false → GoesAlong shown s s.rest n
    → outcome n shown (after s set reply) (next s set reply) ≡ by_shown s.name set (first_found shown s.name s.rest) reply
by_reply shown n set s (Ok items) other along = by_name shown n set s (item_named items s.name) other along
by_reply shown n set s (Err error) other along = refl

along_all : (shown : Shown) (sets : List ℕ) (s : Search) (n : ℕ) → Avoids s.hashed sets → length sets ≤ n → GoesAlong shown s sets n
along_all shown [] s n a h = refl
along_all shown (set ∷ sets) s zero a h = absurd (omega arith)
along_all shown (set ∷ sets) s (suc n) a h =
    by_reply shown n set (reading s (set ∷ sets)) (shown set) (other_way s.hashed set a.0)
    (along_all shown sets (reading s (set ∷ sets)) n a.1 (omega arith))

-- ---- how many sets are left

length_by : (one other : ℕ) (rest all : List ℕ) (b : Bool) → (one == other) ≡ b → (other == one) ≡ b → length rest + times one all ≡ length all → length (if b then rest else other ∷ rest) + times one (other ∷ all) ≡ length (other ∷ all)
length_by one other rest all true e f h = rw f (omega arith)
length_by one other rest all false e f h = rw f (omega arith)

same_test : (a b : ℕ) (c : Bool) → (a == b) ≡ c → (b == a) ≡ c
same_test a b true e = eq-eqb b a (sym (eqb-true a b e))
same_test a b false e = other_way a b e

length_without : (one : ℕ) (sets : List ℕ) → length (without sets (Some one)) + times one sets ≡ length sets
length_without one [] = refl
length_without one (other ∷ sets) = length_by one other _ sets (one == other) refl (same_test one other _ refl) (length_without one sets)

length_others : (count hashed : ℕ) → hashed < count → length (others count hashed) + 1 ≡ count
length_others count hashed h =
    let whole = length_without hashed (range_with_len 0 count) in
    let once = times_range hashed 0 count (omega arith) (omega arith) in
    let all = length-range_with_len 0 count in
    omega arith

-- a link leads to one of the sets
pub within_names : (names : List (List ℕ)) (target : List ℕ) (set : ℕ) → set_named names target ≡ Some set → set < length names
within_names names target set e = (position-Some (λ (name : List ℕ). pointwise nat_eq name target) names set [] e).0

length_led_by : (count hashed set : ℕ) (b : Bool) → (set == hashed) ≡ b → hashed < count → set < count → length (if b then others count hashed else set ∷ without (others count hashed) (Some set)) ≡ length (others count hashed)
length_led_by count hashed set true e h s = refl
length_led_by count hashed set false e h s =
    let once = times_others set count hashed s (other_way set hashed e) in
    omega (arith, length_without set (others count hashed), once)

length_led : (names : List (List ℕ)) (hashed : ℕ) (link : Option ℕ) → hashed < length names → ((set : ℕ) → link ≡ Some set → set < length names) → length (led hashed (others (length names) hashed) link) ≡ length (others (length names) hashed)
length_led names hashed None h w = refl
length_led names hashed (Some set) h w = length_led_by (length names) hashed set (set == hashed) refl h (w set refl)

-- ---- the hashed set

first_by_link : (shown : Shown) (n : ℕ) (s : Search) (item : Item) (b : Bool) → is_link item.kind ≡ b
    → ((link : Option ℕ) → ((set : ℕ) → link ≡ Some set → set < length s.names) → GoesAlong shown (record s { has_link = true }) (led s.hashed s.rest link) n)
    → outcome n shown (after_item s s.hashed (Some item)) (next_by s s.hashed (Some item)) ≡ by_item s.hashed (first_found shown s.name (led s.hashed s.rest (leads_to s.names (Some item)))) (Some item)
first_by_link shown n s item true e along =
    let same : (s.hashed == s.hashed) ≡ true = eq-eqb s.hashed s.hashed refl in
    rw (e, same) (along (set_named s.names item.target) (λ set w. within_names s.names item.target set w))
first_by_link shown n s item false e along = rw e refl

first_by_name : (shown : Shown) (n : ℕ) (s : Search) (item : Option Item)
    → GoesAlong shown s s.rest n
    → ((link : Option ℕ) → ((set : ℕ) → link ≡ Some set → set < length s.names) → GoesAlong shown (record s { has_link = true }) (led s.hashed s.rest link) n)
    → outcome n shown (after_item s s.hashed item) (next_by s s.hashed item) ≡ by_item s.hashed (first_found shown s.name (led s.hashed s.rest (leads_to s.names item))) item
first_by_name shown n s None plain along = plain
first_by_name shown n s (Some item) plain along = first_by_link shown n s item (is_link item.kind) refl along

first_by_reply : (shown : Shown) (n : ℕ) (s : Search) (reply : Result (List Item) IoError)
    → GoesAlong shown s s.rest n
    → ((link : Option ℕ) → ((set : ℕ) → link ≡ Some set → set < length s.names) → GoesAlong shown (record s { has_link = true }) (led s.hashed s.rest link) n)
    → outcome n shown (after s s.hashed reply) (next s s.hashed reply) ≡ by_shown s.name s.hashed (first_found shown s.name (led s.hashed s.rest (link_in s.names s.name reply))) reply
first_by_reply shown n s (Ok items) plain along = first_by_name shown n s (item_named items s.name) plain along
first_by_reply shown n s (Err error) plain along = refl

found_within : (shown : Shown) (parent : Gfid) (name : List ℕ) (names : List (List ℕ)) (hashed n : ℕ) → length names ≡ suc n → hashed < length names
    → outcome n shown (after (search_of parent name names hashed) hashed (shown hashed)) (next (search_of parent name names hashed) hashed (shown hashed))
    ≡ first_found shown name (order (length names) hashed (link_in names name (shown hashed)))
found_within shown parent name names hashed n e h =
    let s = search_of parent name names hashed in
    let avoided = avoids_without hashed (range_with_len 0 (length names)) in
    let few = length_others (length names) hashed h in
    first_by_reply shown n s (shown hashed)
    (along_all shown s.rest s n avoided (omega arith))
    (λ link w. let same = length_led names hashed link h w in along_all shown (led hashed s.rest link) (record s { has_link = true }) n (led_avoids hashed s.rest link avoided) (omega arith))

run : (shown : Shown) (parent : Gfid) (name : List ℕ) (names : List (List ℕ)) (hashed n : ℕ) → length names ≡ n → hashed < length names
    → outcome n shown (search_of parent name names hashed) (Ask hashed)
    ≡ first_found shown name (order (length names) hashed (link_in names name (shown hashed)))
run shown parent name names hashed zero e h = absurd (omega arith)
run shown parent name names hashed (suc n) e h = found_within shown parent name names hashed n e h

pub finds_first : (shown : Shown) (parent : Gfid) (name : List ℕ) (names : List (List ℕ)) (hashed : ℕ) → hashed < length names
    → outcome (length names) shown (search_of parent name names hashed) (Ask hashed)
    ≡ first_found shown name (order (length names) hashed (link_in names name (shown hashed)))
finds_first shown parent name names hashed h = run shown parent name names hashed (length names) refl h
