-- The names of a directory over the sets: the name that one set has, or none has.
use Rattle.std.proofs.Common.{◌≡◌, ◌∙◌, ℕ, zero, suc, ◌+◌, ◌<◌, ◌≤◌, ◌==◌, Bool, true, false, List, [], ◌∷◌, Option, Some, None, if◌then◌else◌, nat_eq, nat_lt, refl, ap, sym, subst, arith}
use Rattle.std.proofs.lemmas.Bool.{eqb-true, eqb-false, ltb-true, ltb-false}
use Rattle.std.proofs.lemmas.Map.Lookups.{exact_bytes}
use Rattle.std.specs.Cmp.Lexicographic.{slice_cmp, pointwise, texts_ties}
use Rattle.std.specs.List.{range_with_len}
use Rattle.std.specs.Ordering.{nat_cmp, is_eq, match_ordering}
use Rattle.std.specs.declared.cmp.Ordering.{Ordering}
use Rattle.std.specs.declared.cmp.Ordering.TheVariants.{Less, Equal, Greater}
use Rattle.dht_fops.specs.Merges.{real_items, with_first, merged}
use Rattle.dht_fops.specs.Shown.{SetContents, names_over}
use Rattle.dht_fops.specs.Standing.{AreOnce}
use Rattle.fop_types.specs.Cells.{names_cell}
use Rattle.fop_types.specs.Names.{item_named, is_link, has_real_name}
use Rattle.fop_types.specs.StoreOps.{items_of}
use Rattle.fop_types.specs.declared.cells.Gfid.{Gfid}
use Rattle.fop_types.specs.declared.contents.Item.{Item}

-- ---- names that are one

pub equal_by : (o : Ordering) → is_eq o ≡ true → o ≡ Equal
equal_by Less e = absurd cc
equal_by Equal e = refl
equal_by Greater e = absurd cc

pub same_name : (a b : List ℕ) → pointwise nat_eq a b ≡ true → a ≡ b
same_name a b e = exact_bytes a b (equal_by (slice_cmp nat_cmp a b) (sym (texts_ties a b) ∙ e))

-- ---- links left out

abbrev pub real_of : Option Item → Option Item
real_of None = None
real_of (Some item) = if is_link item.kind then None else Some item

real_step : (item : Item) (items : List Item) (name : List ℕ) (link named : Bool) → is_link item.kind ≡ link → pointwise nat_eq item.name name ≡ named → item_named items item.name ≡ None
    → item_named (real_items items) name ≡ real_of (item_named items name)
    → item_named (if link then real_items items else item ∷ real_items items) name ≡ real_of (if named then Some item else item_named items name)
real_step item items name true true l n o h =
    let gone : item_named items name ≡ None = subst (λ (m : List ℕ). item_named items m ≡ None) (same_name item.name name n) o in
    rw l (h ∙ ap real_of gone)
real_step item items name true false l n o h = h
real_step item items name false true l n o h = rw (n, l) refl
real_step item items name false false l n o h = rw n h

pub real_named : (items : List Item) (name : List ℕ) → AreOnce items → item_named (real_items items) name ≡ real_of (item_named items name)
real_named [] name o = refl
real_named (item ∷ items) name o = real_step item items name (is_link item.kind) (pointwise nat_eq item.name name) refl refl o.0 (real_named items name o.1)

pub none_real : (items : List Item) → has_real_name items ≡ false → real_items items ≡ []
none_real [] e = refl
none_real (item ∷ items) e = by_link (is_link item.kind) e (none_real items)
  where
    by_link : (b : Bool) → (if b then has_real_name items else true) ≡ false → (has_real_name items ≡ false → real_items items ≡ []) → (if b then real_items items else item ∷ real_items items) ≡ []
    by_link true f later = later f
    by_link false f later = absurd cc

-- ---- merges

pub record IsOther (b : Bool) (rest : Option Item) : Type 0 where
  pub other : b ≡ false
  pub later : rest ≡ None

other_by : (b : Bool) (item : Item) (rest : Option Item) → (if b then Some item else rest) ≡ None → IsOther b rest
other_by true item rest e = absurd cc
other_by false item rest e = record { other = refl; later = e }

first_step : (item : Item) (rest : List Item → List Item) (others : List Item) (name : List ℕ) → pointwise nat_eq item.name name ≡ false → ((os : List Item) → item_named (rest os) name ≡ item_named os name)
    → item_named (with_first item rest others) name ≡ item_named others name
first_step item rest [] name e h = rw e (h [])
first_step item rest (other ∷ others) name e h = by_order (first_step item rest others name e h) (slice_cmp nat_cmp other.name item.name)
  where
    by_order : item_named (with_first item rest others) name ≡ item_named others name → (o : Ordering) → item_named (match_ordering o (other ∷ with_first item rest others) (other ∷ rest others) (item ∷ rest (other ∷ others))) name ≡ item_named (other ∷ others) name
    by_order less Less = ap (λ (t : Option Item). if pointwise nat_eq other.name name then Some other else t) less
    by_order less Equal = ap (λ (t : Option Item). if pointwise nat_eq other.name name then Some other else t) (h others)
    by_order less Greater = rw e (h (other ∷ others))

pub absent_first : (items others : List Item) (name : List ℕ) → item_named items name ≡ None → item_named (merged items others) name ≡ item_named others name
absent_first [] others name e = refl
absent_first (item ∷ items) others name e =
    let split = other_by (pointwise nat_eq item.name name) item (item_named items name) e in
    first_step item (merged items) others name split.other (λ os. absent_first items os name split.later)

second_step : (item : Item) (items : List Item) (rest : List Item → List Item) (others : List Item) (name : List ℕ) → item_named others name ≡ None
    → ((os : List Item) → item_named os name ≡ None → item_named (rest os) name ≡ item_named items name) → item_named (with_first item rest others) name ≡ item_named (item ∷ items) name
second_step item items rest [] name e h = ap (λ (t : Option Item). if pointwise nat_eq item.name name then Some item else t) (h [] refl)
second_step item items rest (other ∷ others) name e h =
    let split = other_by (pointwise nat_eq other.name name) other (item_named others name) e in
    by_order split (second_step item items rest others name split.later h) (slice_cmp nat_cmp other.name item.name) refl
  where
    by_order : IsOther (pointwise nat_eq other.name name) (item_named others name) → item_named (with_first item rest others) name ≡ item_named (item ∷ items) name → (o : Ordering) → slice_cmp nat_cmp other.name item.name ≡ o
        → item_named (match_ordering o (other ∷ with_first item rest others) (other ∷ rest others) (item ∷ rest (other ∷ others))) name ≡ item_named (item ∷ items) name
    by_order split less Less f = rw split.other less
    by_order split less Equal f =
        let off : pointwise nat_eq item.name name ≡ false = subst (λ (n : List ℕ). pointwise nat_eq n name ≡ false) (exact_bytes other.name item.name f) split.other in
        rw (split.other, off) (h others split.later)
    by_order split less Greater f = ap (λ (t : Option Item). if pointwise nat_eq item.name name then Some item else t) (h (other ∷ others) e)

pub absent_second : (items others : List Item) (name : List ℕ) → item_named others name ≡ None → item_named (merged items others) name ≡ item_named items name
absent_second [] others name e = e
absent_second (item ∷ items) others name e = second_step item items (merged items) others name e (λ os f. absent_second items os name f)

-- ---- over the sets

abbrev pub real_in : SetContents → Gfid → List ℕ → ℕ → Option Item
real_in contents dir name set = item_named (real_items (items_of (contents set (names_cell dir)))) name

pub over_none : (contents : SetContents) (dir : Gfid) (name : List ℕ) (n first : ℕ) (names : List Item) → ((set : ℕ) → first ≤ set → set < first + n → real_in contents dir name set ≡ None)
    → item_named (names_over contents dir (range_with_len first n) names) name ≡ item_named names name
over_none contents dir name zero first names none = refl
over_none contents dir name (suc n) first names none =
    over_none contents dir name n (first + 1) (merged names (real_items (items_of (contents first (names_cell dir))))) (λ set low high. none set (omega arith) (omega arith))
    ∙ absent_second names (real_items (items_of (contents first (names_cell dir)))) name (none first (omega arith) (omega arith))

pub over_one : (contents : SetContents) (dir : Gfid) (name : List ℕ) (one : ℕ) (item : Item) (n first : ℕ) (names : List Item) → first ≤ one → one < first + n → item_named names name ≡ None
    → real_in contents dir name one ≡ Some item → ((set : ℕ) → (set == one) ≡ false → real_in contents dir name set ≡ None)
    → item_named (names_over contents dir (range_with_len first n) names) name ≡ Some item
over_one contents dir name one item zero first names low high free there others = absurd (omega arith)
over_one contents dir name one item (suc n) first names low high free there others =
    by_set (first == one) refl
    (λ above empty. over_one contents dir name one item n (first + 1) (merged names (real_items (items_of (contents first (names_cell dir))))) above (omega arith) empty there others)
  where
    now : List Item
    now = real_items (items_of (contents first (names_cell dir)))

    away_by : (a b : ℕ) (c : Bool) → (a == b) ≡ c → b < a → (a == b) ≡ false
    away_by a b true f h = absurd (let same = eqb-true a b f in omega arith)
    away_by a b false f h = f

    above_by : (a b : ℕ) (c : Bool) → nat_lt a b ≡ c → a ≤ b → (a ≡ b → ⊥) → a + 1 ≤ b
    above_by a b true f h d = let less = ltb-true a b f in omega arith
    above_by a b false f h d = absurd (d (let more = ltb-false a b f in omega arith))

    by_set : (b : Bool) → (first == one) ≡ b → (first + 1 ≤ one → item_named (merged names now) name ≡ None → item_named (names_over contents dir (range_with_len (first + 1) n) (merged names now)) name ≡ Some item)
        → item_named (names_over contents dir (range_with_len (first + 1) n) (merged names now)) name ≡ Some item
    by_set true e later =
        let here : first ≡ one = eqb-true first one e in
        over_none contents dir name n (first + 1) (merged names now) (λ set above below. others set (away_by set one (set == one) refl (omega arith)))
        ∙ absent_first names now name free ∙ subst (λ (s : ℕ). real_in contents dir name s ≡ Some item) (sym here) there
    by_set false e later = later (above_by first one (nat_lt first one) refl low (eqb-false first one e)) (absent_first names now name free ∙ others first e)
