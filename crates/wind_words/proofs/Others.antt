-- The views that are not the hub's, and the words that were seen, when a word rises or one view changes.
use Rattle.std.proofs.Common.{◌≡◌, ◌≢◌, ℕ, zero, suc, ◌+◌, ◌<◌, ◌≤◌, ◌⊎◌, inl, inr, Bool, false, List, [], ◌∷◌, ◌++◌, length, set, refl, sym, ap, subst, arith}
use mathlib.Core.Option.{some, some-injective, some-ne-none}
use lib.ListN.{get_elem?}
use Rattle.std.proofs.lemmas.Bool.{cases_eq}
use Rattle.std.proofs.lemmas.Bool.Decides.{nat_tests}
use Rattle.std.proofs.lemmas.List.{get_or-set_same, get_or-set_other}
use Rattle.xlator_law.specs.declared.winds.WindNo.{WindNo}
use Rattle.wind_words.specs.declared.view.View.{View}
use Rattle.wind_words.specs.declared.view.Loss.{Loss}
use Rattle.wind_words.specs.declared.view.Role.{Role}
use Rattle.wind_words.specs.declared.view.Role.TheVariants.{Hub, Reader, Spent}
use Rattle.wind_words.specs.Word.{word_of}
use Rattle.wind_words.specs.Winds.{times, highest_seen}
use Rattle.wind_words.specs.Rule.{won_by, WereSeen, IsOther, AreOthers}
use Rattle.wind_words.proofs.Counts.{highest_append}

abbrev pub Rises : List ℕ → List ℕ → Type 0
Rises words words' = (slot : ℕ) → word_of words slot ≤ word_of words' slot

pub set_rises : (words : List ℕ) (i n : ℕ) → word_of words i ≤ n → Rises words (set words i n)
set_rises [] i n h j = omega arith
set_rises (x ∷ xs) zero n h zero = h
set_rises (x ∷ xs) zero n h (suc j) = omega arith
set_rises (x ∷ xs) (suc i) n h zero = omega arith
set_rises (x ∷ xs) (suc i) n h (suc j) = set_rises xs i n h j

-- the word of a slot after a write
pub set_cases : (words : List ℕ) (i n slot : ℕ) → i < length words
    → ((slot ≡ i) × (word_of (set words i n) slot ≡ n)) ⊎ ((slot ≢ i) × (word_of (set words i n) slot ≡ word_of words slot))
set_cases words i n slot within = elim (cases_eq slot i) [
  | inl e ↦ inl (e, subst (λ (j : ℕ). word_of (set words i n) j ≡ n) (sym e) (get_or-set_same words i n 0 within))
  | inr ne ↦ inr (ne, get_or-set_other words i slot n 0 ne)
]

pub seen_rises : (words words' : List ℕ) → Rises words words' → (losses : List Loss) → WereSeen words losses → WereSeen words' losses
seen_rises words words' up losses s = λ slot. omega (arith, s slot, up slot)

pub seen_append : (words : List ℕ) (xs ys : List Loss) → WereSeen words xs → WereSeen words ys → WereSeen words (xs ++ ys)
seen_append words xs ys s t = λ slot. omega (arith, highest_append slot xs ys, s slot, t slot)

pub seen_none : (words : List ℕ) → WereSeen words []
seen_none words = λ slot. omega arith

-- a loss that saw the word as it is
pub seen_now : (words : List ℕ) (w : WindNo) → WereSeen words (record { wind = w; word = word_of words w.slot } ∷ [])
seen_now words w = λ slot. elim (cases_eq w.slot slot) [
  | inl s ↦ let same : word_of words w.slot ≡ word_of words slot = ap (word_of words) s in grind (arith, nat_tests)
  | inr s ↦ grind (arith, nat_tests)
]

pub seen_by : (words : List ℕ) (alone : Bool) (v : View) (r : Role) → r ≡ Reader → IsOther words alone v r → WereSeen words v.lost
seen_by words alone v Hub e o = absurd o
seen_by words alone v Reader e o = o.1
seen_by words alone v Spent e o = absurd cc

pub other_rises : (words words' : List ℕ) → Rises words words' → (alone : Bool) (v : View) (r : Role) → IsOther words alone v r → IsOther words' alone v r
other_rises words words' up alone v Hub o = o
other_rises words words' up alone v Reader o = (o.0, seen_rises words words' up v.lost o.1)
other_rises words words' up alone v Spent o = o

pub others_rise : (words words' : List ℕ) → Rises words words' → (alone : Bool) (vs : List View) → AreOthers words alone vs → AreOthers words' alone vs
others_rise words words' up alone [] o = tt
others_rise words words' up alone (v ∷ vs) o = (other_rises words words' up alone v v.role o.0, others_rise words words' up alone vs o.1)

pub others_shared : (words : List ℕ) (alone : Bool) (vs : List View) → AreOthers words alone vs → AreOthers words false vs
others_shared words alone [] o = tt
others_shared words alone (v ∷ vs) o = (shared v v.role o.0, others_shared words alone vs o.1)
  where
    shared : (u : View) (r : Role) → IsOther words alone u r → IsOther words false u r
    shared u Hub h = h
    shared u Reader h = (refl, h.1)
    shared u Spent h = h

pub other_at : (words : List ℕ) (alone : Bool) (vs : List View) (k : ℕ) (v : View) → AreOthers words alone vs → get_elem? vs k ≡ some v → IsOther words alone v v.role
other_at words alone [] k v o at = absurd (some-ne-none v (sym at))
other_at words alone (x ∷ xs) zero v o at = subst (λ (y : View). IsOther words alone y y.role) (some-injective x v at) o.0
other_at words alone (x ∷ xs) (suc k) v o at = other_at words alone xs k v o.1 at

pub others_set : (words : List ℕ) (alone : Bool) (vs : List View) (k : ℕ) (w : View) → AreOthers words alone vs → IsOther words alone w w.role → AreOthers words alone (set vs k w)
others_set words alone [] k w o here = tt
others_set words alone (x ∷ xs) zero w o here = (here, o.1)
others_set words alone (x ∷ xs) (suc k) w o here = (o.0, others_set words alone xs k w o.1 here)

pub others_push : (words : List ℕ) (alone : Bool) (vs : List View) (w : View) → AreOthers words alone vs → IsOther words alone w w.role → AreOthers words alone (vs ++ w ∷ [])
others_push words alone [] w o here = (here, tt)
others_push words alone (x ∷ xs) w o here = (o.0, others_push words alone xs w o.1 here)

pub won_by_set : (x : WindNo) (vs : List View) (k : ℕ) (v w : View) → get_elem? vs k ≡ some v → won_by x (set vs k w) + times x v.won ≡ won_by x vs + times x w.won
won_by_set x [] k v w at = absurd (some-ne-none v (sym at))
won_by_set x (u ∷ us) zero v w at = let e : times x u.won ≡ times x v.won = ap (λ (y : View). times x y.won) (some-injective u v at) in omega arith
won_by_set x (u ∷ us) (suc k) v w at = let e = won_by_set x us k v w at in omega arith

pub won_by_push : (x : WindNo) (vs : List View) (w : View) → won_by x (vs ++ w ∷ []) ≡ won_by x vs + times x w.won
won_by_push x [] w = omega arith
won_by_push x (u ∷ us) w = let e = won_by_push x us w in omega arith

pub won_by_at : (x : WindNo) (vs : List View) (k : ℕ) (v : View) → get_elem? vs k ≡ some v → times x v.won ≤ won_by x vs
won_by_at x [] k v at = absurd (some-ne-none v (sym at))
won_by_at x (u ∷ us) zero v at = let e : times x u.won ≡ times x v.won = ap (λ (y : View). times x y.won) (some-injective u v at) in omega arith
won_by_at x (u ∷ us) (suc k) v at = let e = won_by_at x us k v at in omega arith

-- a reader's view with other winds won
pub other_same : (words : List ℕ) (alone : Bool) (v u : View) (r : Role) → u.lost ≡ v.lost → r ≡ Reader → IsOther words alone v r → IsOther words alone u r
other_same words alone v u Hub e reader o = o
other_same words alone v u Reader e reader o = (o.0, subst (λ l. WereSeen words l) (sym e) o.1)
other_same words alone v u Spent e reader o = absurd cc
