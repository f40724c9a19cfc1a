-- What one entry more, or one less, makes of the entries and of their places.
use Rattle.std.proofs.Common.{◌≡◌, ℕ, suc, ◌+◌, ◌<◌, ◌≤◌, Bool, true, false, not, ◌&&◌, ◌||◌, ◌==◌, cond, List, [], ◌∷◌, ◌++◌, Option, Some, None, length, refl, sym, ap, ◌∙◌, arith, subst}
use Rattle.std.specs.List.{AllByRecursion, All}
use Rattle.std.specs.declared.cmp.Ordering.{Ordering}
use Rattle.std.specs.declared.cmp.Ordering.TheVariants.{Less, Greater}
use Rattle.std.specs.Ordering.{is_eq, is_lt, is_gt, nat_cmp, match_ordering}
use Rattle.std.specs.Map.{keys_of, remove_entry, set_value}
use Rattle.std.specs.BTreeMap.{insert_entry, is_at}
use Rattle.std.specs.BTreeMap.Range.{IsLeBy}
use Rattle.std.specs.BTreeSet.{BTreeSet, contains}
use Rattle.std.specs.List.Sorted.{IsStrictlySortedBy}
use Rattle.std.specs.Cmp.{nat_cmp_total}
use Rattle.std.proofs.lemmas.Map.Keys.{sorted_head, sorted_tail}
use Rattle.std.proofs.lemmas.Cmp.{tied_itself}
use Rattle.std.proofs.lemmas.Bool.{cases_lt}
use mathlib.Core.Logic.{⊎_elim}
use Rattle.queue_index.specs.declared.key.Key.{Key}
use Rattle.queue_index.specs.declared.place.Place.{Place}
use Rattle.queue_index.specs.Places.{has_key, place_cmp, place, is_of}
use Rattle.queue_index.specs.Queue.{item_at, without, changed_at}
use Rattle.queue_index.specs.Whole.{has, ArePlaced}

pub at_is : (a b : ℕ) → is_eq (nat_cmp a b) ≡ (a == b)
at_is a b = grind (arith)

eq_flip : (a b : ℕ) → (a == b) ≡ (b == a)
eq_flip a b = grind (arith)

less_is : (a b : ℕ) → nat_cmp a b ≡ Less → a < b
less_is a b h = grind (arith, h)

is_less : (a b : ℕ) → a < b → nat_cmp a b ≡ Less
is_less a b h = grind (arith, h)

is_greater : (a b : ℕ) → b < a → nat_cmp a b ≡ Greater
is_greater a b h = grind (arith, h)

eq_is : (a b : ℕ) → (a == b) ≡ true → a ≡ b
eq_is a b h = grind (arith, h)

apart_is : (a b : ℕ) → b < a → (a == b) ≡ false
apart_is a b h = grind (arith, h)

each_of : (P : ℕ → Type 0) (ns : List ℕ) → All P ns → AllByRecursion P ns
each_of P [] h = tt
each_of P (n ∷ ns) h = (h 0 n (omega arith), each_of P ns (λ k d low. h (suc k) d (omega (arith, low))))

not_less : (a b : ℕ) → is_lt (nat_cmp a b) ≡ false → b < a + 1
not_less a b h = grind (arith, h)

not_more : (a b : ℕ) → is_gt (nat_cmp a b) ≡ false → a ≤ b
not_more a b h = grind (arith, h)

lt_if : (n m : ℕ) → (m ≤ n → ⊥) → n < m
lt_if n m h = ⊎_elim (λ l. l) (λ l. absurd (h l)) (cases_lt n m)

module _ {T : Type 0} where
  -- ---- each entry is found under its own number
  found_on : (e : ℕ × T) (es fs : List (ℕ × T)) → AllByRecursion (λ y. nat_cmp e.0 y ≡ Less) (keys_of fs) → AllByRecursion (λ f. item_at f.0 es ≡ Some f.1) fs → AllByRecursion (λ f. item_at f.0 (e ∷ es) ≡ Some f.1) fs
  found_on e es [] low h = tt
  found_on e es (f ∷ fs) low h =
      let apart : is_eq (nat_cmp f.0 e.0) ≡ false = at_is f.0 e.0 ∙ apart_is f.0 e.0 (less_is e.0 f.0 low.0) in
      (ap (λ (b : Bool). cond b (Some e.1) (item_at f.0 es)) apart ∙ h.0, found_on e es fs low.1 h.1)

  pub founds : (es : List (ℕ × T)) → IsStrictlySortedBy nat_cmp (keys_of es) → AllByRecursion (λ e. item_at e.0 es ≡ Some e.1) es
  founds [] s = tt
  founds (e ∷ es) s =
      let here : item_at e.0 (e ∷ es) ≡ Some e.1 = ap (λ (o : Ordering). cond (is_eq o) (Some e.1) (item_at e.0 es)) (tied_itself nat_cmp_total e.0) in
      (here, found_on e es es (sorted_head nat_cmp e.0 (keys_of es) s) (founds es (sorted_tail nat_cmp e.0 (keys_of es) s)))

  -- a fact about each number that is found is one about each entry
  pub each : (P : ℕ → T → Type 0) (all es : List (ℕ × T)) → AllByRecursion (λ e. item_at e.0 all ≡ Some e.1) es → ((n : ℕ) (x : T) → item_at n all ≡ Some x → P n x) → AllByRecursion (λ e. P e.0 e.1) es
  each P all [] f h = tt
  each P all (e ∷ es) f h = (h e.0 e.1 f.0, each P all es f.1 h)

  -- what is found is an entry
  pub found_in : (P : ℕ → T → Type 0) (n : ℕ) (x : T) (es : List (ℕ × T)) → AllByRecursion (λ e. P e.0 e.1) es → item_at n es ≡ Some x → P n x
  found_in P n x [] h is = absurd cc
  found_in P n x (e ∷ es) h is = elim (is_eq (nat_cmp n e.0)) as (λ (b : Bool). is_eq (nat_cmp n e.0) ≡ b → cond b (Some e.1) (item_at n es) ≡ Some x → P n x) [
    | true ↦ λ t one. (let v : e.1 ≡ x = cc in let k : n ≡ e.0 = eq_is n e.0 (sym (at_is n e.0) ∙ t) in subst (λ (y : T). P n y) v (subst (λ (j : ℕ). P j e.1) (sym k) h.0))
    | false ↦ λ t one. found_in P n x es h.1 one
  ] refl is

  pub none_if : (o : Option T) → ((x : T) → o ≡ Some x → ⊥) → o ≡ None
  none_if None h = refl
  none_if (Some x) h = absurd (h x refl)

  -- ---- at the ends
  insert_last : (n : ℕ) (x : T) (es : List (ℕ × T)) → AllByRecursion (λ e. e.0 < n) es → insert_entry nat_cmp es n x ≡ es ++ (n, x) ∷ []
  insert_last n x [] h = refl
  insert_last n x (e ∷ es) h = ap (λ (o : Ordering). match_ordering o ((n, x) ∷ e ∷ es) ((e.0, x) ∷ es) (e ∷ insert_entry nat_cmp es n x)) (is_greater n e.0 h.0) ∙ ap (λ (l : List (ℕ × T)). e ∷ l) (insert_last n x es h.1)

  insert_first : (n : ℕ) (x : T) (es : List (ℕ × T)) → AllByRecursion (λ e. n < e.0) es → insert_entry nat_cmp es n x ≡ (n, x) ∷ es
  insert_first n x [] h = refl
  insert_first n x (e ∷ es) h = ap (λ (o : Ordering). match_ordering o ((n, x) ∷ e ∷ es) ((e.0, x) ∷ es) (e ∷ insert_entry nat_cmp es n x)) (is_less n e.0 h.0)

  pub absurd_none : (n : ℕ) (x : T) (es : List (ℕ × T)) → item_at n es ≡ Some x → item_at n es ≡ None → ⊥
  absurd_none n x es h t = let f : ◌≡◌ {A = Option T} (Some x) None = sym h ∙ t in absurd cc

  all_below : (n : ℕ) (es : List (ℕ × T)) → AllByRecursion (λ k. is_lt (nat_cmp n k) ≡ false) (keys_of es) → AllByRecursion (λ e. e.0 < n + 1) es
  all_below n [] h = tt
  all_below n (e ∷ es) h = (not_less n e.0 h.0, all_below n es h.1)

  all_above : (n m : ℕ) (es : List (ℕ × T)) → n < m → AllByRecursion (λ k. is_gt (nat_cmp m k) ≡ false) (keys_of es) → AllByRecursion (λ e. n < e.0) es
  all_above n m [] low h = tt
  all_above n m (e ∷ es) low h = (omega (arith, not_more m e.0 h.0, low), all_above n m es low h.1)

  none_there : (es : List (ℕ × T)) → (0 < length es → false ≡ true) → es ≡ []
  none_there [] h = refl
  none_there (e ∷ es) h = absurd (let t : false ≡ true = h (omega arith) in cc)

  pub in_the_empty : (es fs gs : List (ℕ × T)) (n : ℕ) (x : T) → gs ≡ insert_entry nat_cmp fs n x → fs ≡ es → (0 < length es → false ≡ true) → gs ≡ (n, x) ∷ []
  in_the_empty es fs gs n x put same h = put ∙ ap (λ (l : List (ℕ × T)). insert_entry nat_cmp l n x) (same ∙ none_there es h)

  pub alone_at_the_end : (es fs gs : List (ℕ × T)) (n : ℕ) (x : T) → gs ≡ insert_entry nat_cmp fs n x → fs ≡ es → (0 < length es → false ≡ true) → gs ≡ es ++ (n, x) ∷ []
  alone_at_the_end es fs gs n x put same h = in_the_empty es fs gs n x put same h ∙ ap (λ (l : List (ℕ × T)). l ++ (n, x) ∷ []) (sym (none_there es h))

  pub alone_at_the_front : (es fs gs : List (ℕ × T)) (n : ℕ) (x : T) → gs ≡ insert_entry nat_cmp fs n x → fs ≡ es → (0 < length es → false ≡ true) → gs ≡ (n, x) ∷ es
  alone_at_the_front es fs gs n x put same h = in_the_empty es fs gs n x put same h ∙ ap (λ (l : List (ℕ × T)). (n, x) ∷ l) (sym (none_there es h))

  pub at_the_end : (es fs gs : List (ℕ × T)) (n m : ℕ) (x : T) → gs ≡ insert_entry nat_cmp fs n x → fs ≡ es → n ≡ m + 1 → All (λ k. is_lt (nat_cmp m k) ≡ false) (keys_of es) → gs ≡ es ++ (n, x) ∷ []
  at_the_end es fs gs n m x put same next h =
      put
      ∙ ap (λ (l : List (ℕ × T)). insert_entry nat_cmp l n x) same
      ∙ insert_last n x es (subst (λ (k : ℕ). AllByRecursion (λ e. e.0 < k) es) (sym next) (all_below m es (each_of (λ k. is_lt (nat_cmp m k) ≡ false) (keys_of es) h)))

  pub at_the_front : (es fs gs : List (ℕ × T)) (n m : ℕ) (x : T) → gs ≡ insert_entry nat_cmp fs n x → fs ≡ es → n < m → All (IsLeBy nat_cmp m) (keys_of es) → gs ≡ (n, x) ∷ es
  at_the_front es fs gs n m x put same low h =
      put
      ∙ ap (λ (l : List (ℕ × T)). insert_entry nat_cmp l n x) same
      ∙ insert_first n x es (all_above n m es low (each_of (IsLeBy nat_cmp m) (keys_of es) h))

  -- ---- an entry taken out
  none_left : (n : ℕ) (es : List (ℕ × T)) → AllByRecursion (λ y. nat_cmp n y ≡ Less) (keys_of es) → without n es ≡ es
  none_left n [] h = refl
  none_left n (e ∷ es) h = ap (λ (b : Bool). cond (not b) (e ∷ without n es) (without n es)) (eq_flip n e.0 ∙ apart_is e.0 n (less_is n e.0 h.0)) ∙ ap (λ (l : List (ℕ × T)). e ∷ l) (none_left n es h.1)

  pub removed_is : (n : ℕ) (es : List (ℕ × T)) → IsStrictlySortedBy nat_cmp (keys_of es) → remove_entry (is_at (nat_cmp n)) es ≡ without n es
  removed_is n [] s = refl
  removed_is n (e ∷ es) s = elim (n == e.0) as (λ (b : Bool). (n == e.0) ≡ b → remove_entry (is_at (nat_cmp n)) (e ∷ es) ≡ cond (not b) (e ∷ without n es) (without n es)) [
    | true ↦ λ t. ap (λ (b : Bool). cond b es (e ∷ remove_entry (is_at (nat_cmp n)) es)) (at_is n e.0 ∙ t) ∙ sym (none_left n es (subst (λ (j : ℕ). AllByRecursion (λ y. nat_cmp j y ≡ Less) (keys_of es)) (sym (eq_is n e.0 t)) (sorted_head nat_cmp e.0 (keys_of es) s)))
    | false ↦ λ t. ap (λ (b : Bool). cond b es (e ∷ remove_entry (is_at (nat_cmp n)) es)) (at_is n e.0 ∙ t) ∙ ap (λ (l : List (ℕ × T)). e ∷ l) (removed_is n es (sorted_tail nat_cmp e.0 (keys_of es) s))
  ] refl

module _ {T : Type 0} (keys : T → List Key) where
  has_more : (o : Option T) (x : T) (k : Key) (b : Bool) → (b ≡ true → o ≡ None) → (has keys o k || (has_key k (keys x) && b)) ≡ has keys (cond b (Some x) o) k
  has_more None x k true h = elim (has_key k (keys x)) as (λ (b : Bool). (b && true) ≡ b) [ true ↦ refl | false ↦ refl ]
  has_more None x k false h = elim (has_key k (keys x)) as (λ (b : Bool). (b && false) ≡ false) [ true ↦ refl | false ↦ refl ]
  has_more (Some y) x k true h = absurd (let t = h refl in cc)
  has_more (Some y) x k false h = elim (has_key k (keys y)) as (λ (c : Bool). (c || (has_key k (keys x) && false)) ≡ c) [ true ↦ refl | false ↦ elim (has_key k (keys x)) as (λ (b : Bool). (b && false) ≡ false) [ true ↦ refl | false ↦ refl ] ]

  has_less : (o : Option T) (x : T) (k : Key) (b : Bool) → (b ≡ true → o ≡ Some x) → (has keys o k && not (has_key k (keys x) && b)) ≡ has keys (cond b None o) k
  has_less None x k true h = refl
  has_less None x k false h = refl
  has_less (Some y) x k true h = let e : y ≡ x = (let t = h refl in cc) in ap (λ (z : T). has_key k (keys z) && not (has_key k (keys x) && true)) e ∙ elim (has_key k (keys x)) as (λ (b : Bool). (b && not (b && true)) ≡ false) [ true ↦ refl | false ↦ refl ]
  has_less (Some y) x k false h = elim (has_key k (keys x)) as (λ (b : Bool). (has_key k (keys y) && not (b && false)) ≡ has_key k (keys y)) [ true ↦ elim (has_key k (keys y)) as (λ (c : Bool). (c && true) ≡ c) [ true ↦ refl | false ↦ refl ] | false ↦ elim (has_key k (keys y)) as (λ (c : Bool). (c && true) ≡ c) [ true ↦ refl | false ↦ refl ] ]

  -- before it is put in, an entry has no place
  pub no_place_yet : (es : List (ℕ × T)) (places : BTreeSet Place) (n : ℕ) → ArePlaced keys es places → item_at n es ≡ None → (k : Key) → contains place_cmp places (place k n) ≡ false
  no_place_yet es places n p absent k = p k n ∙ ap (λ (o : Option T). has keys o k) absent

  pub placed_more : (es fs : List (ℕ × T)) (old new : BTreeSet Place) (n : ℕ) (x : T) → ArePlaced keys es old → item_at n es ≡ None → ((q : Place) → contains place_cmp new q ≡ (contains place_cmp old q || is_of (keys x) n q)) → ((q : ℕ) → item_at q fs ≡ cond (is_eq (nat_cmp n q)) (Some x) (item_at q es)) → ArePlaced keys fs new
  placed_more es fs old new n x p absent puts u k m =
      puts (place k m)
      ∙ ap (λ (b : Bool). b || (has_key k (keys x) && (m == n))) (p k m)
      ∙ has_more (item_at m es) x k (m == n) (λ t. subst (λ (j : ℕ). item_at j es ≡ None) (sym (eq_is m n t)) absent)
      ∙ ap (λ (b : Bool). has keys (cond b (Some x) (item_at m es)) k) (eq_flip m n ∙ sym (at_is n m))
      ∙ sym (ap (λ (o : Option T). has keys o k) (u m))

  pub placed_less : (es fs : List (ℕ × T)) (old new : BTreeSet Place) (n : ℕ) (x : T) → ArePlaced keys es old → item_at n es ≡ Some x → ((q : Place) → contains place_cmp new q ≡ (contains place_cmp old q && not (is_of (keys x) n q))) → ((q : ℕ) → item_at q fs ≡ cond (is_eq (nat_cmp n q)) None (item_at q es)) → ArePlaced keys fs new
  placed_less es fs old new n x p there takes u k m =
      takes (place k m)
      ∙ ap (λ (b : Bool). b && not (has_key k (keys x) && (m == n))) (p k m)
      ∙ has_less (item_at m es) x k (m == n) (λ t. subst (λ (j : ℕ). item_at j es ≡ Some x) (sym (eq_is m n t)) there)
      ∙ ap (λ (b : Bool). has keys (cond b None (item_at m es)) k) (eq_flip m n ∙ sym (at_is n m))
      ∙ sym (ap (λ (o : Option T). has keys o k) (u m))

  back_again : (old a b : Bool) → (b ≡ true → old ≡ false) → ((old || (a && b)) && not (a && b)) ≡ old
  back_again true a true h = absurd (let t = h refl in cc)
  back_again true true false h = refl
  back_again true false false h = refl
  back_again false true true h = refl
  back_again false true false h = refl
  back_again false false b h = refl

  -- an entry whose places were put in, and taken out again
  pub placed_again : (es fs : List (ℕ × T)) (old mid new : BTreeSet Place) (n : ℕ) (x y : T) → ArePlaced keys es old → item_at n es ≡ None → ((q : Place) → contains place_cmp mid q ≡ (contains place_cmp old q || is_of (keys x) n q)) → y ≡ x → ((q : Place) → contains place_cmp new q ≡ (contains place_cmp mid q && not (is_of (keys y) n q))) → fs ≡ es → ArePlaced keys fs new
  placed_again es fs old mid new n x y p absent puts is takes same k m =
      takes (place k m)
      ∙ ap (λ (z : T). contains place_cmp mid (place k m) && not (has_key k (keys z) && (m == n))) is
      ∙ ap (λ (b : Bool). b && not (has_key k (keys x) && (m == n))) (puts (place k m))
      ∙ back_again (contains place_cmp old (place k m)) (has_key k (keys x)) (m == n) (λ t. subst (λ (j : ℕ). contains place_cmp old (place k j) ≡ false) (sym (eq_is m n t)) (no_place_yet es old n p absent k))
      ∙ p k m
      ∙ ap (λ (l : List (ℕ × T)). has keys (item_at m l) k) (sym same)

  pub placed_same : (es fs : List (ℕ × T)) (old new : BTreeSet Place) → ArePlaced keys es old → fs ≡ es → ((q : Place) → contains place_cmp new q ≡ contains place_cmp old q) → ArePlaced keys fs new
  placed_same es fs old new p same is k m = is (place k m) ∙ p k m ∙ ap (λ (l : List (ℕ × T)). has keys (item_at m l) k) (sym same)

module _ {T : Type 0} (change : T → T) where
  changed_none : (n : ℕ) (es : List (ℕ × T)) → AllByRecursion (λ y. nat_cmp n y ≡ Less) (keys_of es) → changed_at change n es ≡ es
  changed_none n [] h = refl
  changed_none n (e ∷ es) h = ap (λ (b : Bool). cond b (e.0, change e.1) e ∷ changed_at change n es) (eq_flip n e.0 ∙ apart_is e.0 n (less_is n e.0 h.0)) ∙ ap (λ (l : List (ℕ × T)). e ∷ l) (changed_none n es h.1)

  pub changed_is : (n : ℕ) (x : T) (es : List (ℕ × T)) → IsStrictlySortedBy nat_cmp (keys_of es) → item_at n es ≡ Some x → set_value (is_at (nat_cmp n)) es (change x) ≡ changed_at change n es
  changed_is n x [] s h = refl
  changed_is n x (e ∷ es) s h = elim (n == e.0) as (λ (b : Bool). (n == e.0) ≡ b → item_at n (e ∷ es) ≡ Some x → set_value (is_at (nat_cmp n)) (e ∷ es) (change x) ≡ cond b (e.0, change e.1) e ∷ changed_at change n es) [
    | true ↦ λ t g.
        let at : is_eq (nat_cmp n e.0) ≡ true = at_is n e.0 ∙ t in
        let v : ◌≡◌ {A = Option T} (Some e.1) (Some x) = sym (ap (λ (b : Bool). cond b (Some e.1) (item_at n es)) at) ∙ g in
        let w : e.1 ≡ x = cc in
        ap (λ (b : Bool). cond b ((e.0, change x) ∷ es) (e ∷ set_value (is_at (nat_cmp n)) es (change x))) at
        ∙ ap (λ (y : T). (e.0, change y) ∷ es) (sym w)
        ∙ ap (λ (l : List (ℕ × T)). (e.0, change e.1) ∷ l) (sym (changed_none n es (subst (λ (j : ℕ). AllByRecursion (λ y. nat_cmp j y ≡ Less) (keys_of es)) (sym (eq_is n e.0 t)) (sorted_head nat_cmp e.0 (keys_of es) s))))
    | false ↦ λ t g.
        let at : is_eq (nat_cmp n e.0) ≡ false = at_is n e.0 ∙ t in
        let rest : item_at n es ≡ Some x = sym (ap (λ (b : Bool). cond b (Some e.1) (item_at n es)) at) ∙ g in
        ap (λ (b : Bool). cond b ((e.0, change x) ∷ es) (e ∷ set_value (is_at (nat_cmp n)) es (change x))) at
        ∙ ap (λ (l : List (ℕ × T)). e ∷ l) (changed_is n x es (sorted_tail nat_cmp e.0 (keys_of es) s) rest)
  ] refl h

  pub changed_no : (n : ℕ) (es : List (ℕ × T)) → item_at n es ≡ None → changed_at change n es ≡ es
  changed_no n [] h = refl
  changed_no n (e ∷ es) h = elim (n == e.0) as (λ (b : Bool). (n == e.0) ≡ b → item_at n (e ∷ es) ≡ None → cond b (e.0, change e.1) e ∷ changed_at change n es ≡ e ∷ es) [
    | true ↦ λ t g. absurd (let v : ◌≡◌ {A = Option T} (Some e.1) None = sym (ap (λ (b : Bool). cond b (Some e.1) (item_at n es)) (at_is n e.0 ∙ t)) ∙ g in cc)
    | false ↦ λ t g. ap (λ (l : List (ℕ × T)). e ∷ l) (changed_no n es (sym (ap (λ (b : Bool). cond b (Some e.1) (item_at n es)) (at_is n e.0 ∙ t)) ∙ g))
  ] refl h
