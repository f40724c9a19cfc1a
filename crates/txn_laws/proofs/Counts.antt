-- How many replicas it is true of.
use Rattle.std.proofs.Common.{◌≡◌, ◌∙◌, ℕ, zero, suc, ◌+◌, ◌<◌, ◌≤◌, Bool, true, false, ◌&&◌, ◌||◌, ◌==◌, not, nat_lt, List, is_some, refl, sym, ap, arith}
use Rattle.std.specs.Prelude.{length}
use Rattle.std.proofs.lemmas.Bool.{and_parts, and_right, and_from, eq-eqb, true≢false}
use Rattle.afr_phases.specs.declared.outs.Outs.{Outs}
use Rattle.afr_phases.specs.declared.wave.Wave.{Wave}
use Rattle.afr_phases.specs.Flags.{bit, flag, but_for, lowest}
use Rattle.afr_phases.specs.Outs.{left, used}
use Rattle.afr_phases.specs.Waves.{is_asked, taken}
use Rattle.afr_phases.proofs.Asked.{asked_after}
use Rattle.afr_phases.proofs.Stays.{used_left}
use Rattle.afr_phases.proofs.Tracked.{left_same, used_is}
use Rattle.afr_phases.proofs.Truths.{flags_at, flags_have, lowest_some, some_there}
use Rattle.txn_laws.specs.Work.{how_many}
use Rattle.txn_laws.specs.Rounds.{is_one_out}

-- ---- counts

pub bit_most : (b : Bool) → bit b ≤ 1
bit_most true = omega arith
bit_most false = omega arith

pub bit_less : (a b : Bool) → (a ≡ true → b ≡ true) → bit a ≤ bit b
bit_less false b h = omega arith
bit_less true true h = omega arith
bit_less true false h = absurd (true≢false (sym (h refl)))

pub bit_one : (b : Bool) → b ≡ true → bit b ≡ 1
bit_one b h = ap bit h

pub bit_none : (b : Bool) → b ≡ false → bit b ≡ 0
bit_none b h = ap bit h

pub few_flags : (flags : List Bool) → how_many flags ≤ 5
unfolding how_many
few_flags flags = omega (arith, bit_most (flag flags 0), bit_most (flag flags 1), bit_most (flag flags 2), bit_most (flag flags 3), bit_most (flag flags 4))

-- one less, where these are among those and one of those is not among these
pub one_less : (these those : List Bool) (k : ℕ) → k < 5 → flag those k ≡ true → flag these k ≡ false → ((j : ℕ) → flag these j ≡ true → flag those j ≡ true) → how_many these < how_many those
unfolding how_many
one_less these those zero low is off within =
    omega (arith, bit_one (flag those 0) is, bit_none (flag these 0) off, bit_less (flag these 1) (flag those 1) (within 1), bit_less (flag these 2) (flag those 2) (within 2), bit_less (flag these 3) (flag those 3) (within 3), bit_less (flag these 4) (flag those 4) (within 4))
one_less these those (suc zero) low is off within =
    omega (arith, bit_one (flag those 1) is, bit_none (flag these 1) off, bit_less (flag these 0) (flag those 0) (within 0), bit_less (flag these 2) (flag those 2) (within 2), bit_less (flag these 3) (flag those 3) (within 3), bit_less (flag these 4) (flag those 4) (within 4))
one_less these those (suc (suc zero)) low is off within =
    omega (arith, bit_one (flag those 2) is, bit_none (flag these 2) off, bit_less (flag these 0) (flag those 0) (within 0), bit_less (flag these 1) (flag those 1) (within 1), bit_less (flag these 3) (flag those 3) (within 3), bit_less (flag these 4) (flag those 4) (within 4))
one_less these those (suc (suc (suc zero))) low is off within =
    omega (arith, bit_one (flag those 3) is, bit_none (flag these 3) off, bit_less (flag these 0) (flag those 0) (within 0), bit_less (flag these 1) (flag those 1) (within 1), bit_less (flag these 2) (flag those 2) (within 2), bit_less (flag these 4) (flag those 4) (within 4))
one_less these those (suc (suc (suc (suc zero)))) low is off within =
    omega (arith, bit_one (flag those 4) is, bit_none (flag these 4) off, bit_less (flag these 0) (flag those 0) (within 0), bit_less (flag these 1) (flag those 1) (within 1), bit_less (flag these 2) (flag those 2) (within 2), bit_less (flag these 3) (flag those 3) (within 3))
one_less these those (suc (suc (suc (suc (suc k))))) low is off within = absurd (omega arith)

-- an answer leaves one less to be waited for
pub asked_less : (wave : Wave) (k : ℕ) (confirms : Bool) → k < 5 → is_asked wave k ≡ true → how_many (taken wave k confirms).asked < how_many wave.asked
asked_less wave k confirms low asked =
    one_less (taken wave k confirms).asked wave.asked k low asked (asked_after wave k k confirms ∙ and_right (is_asked wave k) (not (k == k)) (ap not (eq-eqb k k refl)))
    (λ j f. (and_parts (is_asked wave j) (not (j == k)) (sym (asked_after wave k j confirms) ∙ f)).0)

-- a replica that goes out leaves one less that is used
pub used_less_one : (n : ℕ) (outs : Outs) (k mark : ℕ) (fault : Bool) → k < 5 → length outs.at ≡ 5 → flag (used outs n) k ≡ true → how_many (used (left outs k fault mark) n) < how_many (used outs n)
used_less_one n outs k mark fault low five is =
    one_less (used (left outs k fault mark) n) (used outs n) k low is
    (used_is (left outs k fault mark) n k low ∙ ap (λ (b : Bool). nat_lt k n && not b) (left_same outs k mark fault (omega (arith, five))) ∙ and_right (nat_lt k n) (not true) refl)
    (used_left n outs k mark fault)

-- no more, where these are among those
pub none_more : (these those : List Bool) → ((j : ℕ) → flag these j ≡ true → flag those j ≡ true) → how_many these ≤ how_many those
unfolding how_many
none_more these those within =
    omega (
      arith,
      bit_less (flag these 0) (flag those 0) (within 0),
      bit_less (flag these 1) (flag those 1) (within 1),
      bit_less (flag these 2) (flag those 2) (within 2),
      bit_less (flag these 3) (flag those 3) (within 3),
      bit_less (flag these 4) (flag those 4) (within 4),
    )

-- ---- one of some replicas goes out

not_both : (b : Bool) → (b && not b) ≡ false
not_both true = refl
not_both false = refl

none_of : (flags : List Bool) → ((k : ℕ) → flag flags k ≡ true → ⊥) → is_some (lowest flags) ≡ false
none_of flags nobody = by (is_some (lowest flags)) refl where
  by : (b : Bool) → is_some (lowest flags) ≡ b → b ≡ false
  by true e = absurd (nobody (some_there flags e).0 (some_there flags e).1.0)
  by false e = refl

-- of the replicas themselves none is out
pub none_out : (replicas : List Bool) → is_one_out replicas replicas ≡ false
unfolding is_one_out
none_out replicas = none_of (but_for replicas replicas)
    (λ k h. true≢false (sym (flags_at (λ j. flag replicas j && not (flag replicas j)) k h) ∙ not_both (flag replicas k)))

pub one_out : (replicas used : List Bool) (k : ℕ) → k < 5 → flag replicas k ≡ true → flag used k ≡ false → is_one_out replicas used ≡ true
unfolding is_one_out
one_out replicas used k low is off =
    lowest_some (but_for replicas used) k low (flags_have (λ j. flag replicas j && not (flag used j)) k low (and_from (flag replicas k) (not (flag used k)) is (ap not off)))

-- one who went out since some were used
pub record Gone (replicas after : List Bool) : Type 0 where
  pub replica : ℕ
  pub low : replica < 5
  pub is : flag replicas replica ≡ true
  pub off : flag after replica ≡ false

gone : (replicas after : List Bool) → is_one_out replicas after ≡ true → Gone replicas after
unfolding is_one_out
gone replicas after h =
    let s = some_there (but_for replicas after) h in
    let p = and_parts (flag replicas s.0) (not (flag after s.0)) (flags_at (λ j. flag replicas j && not (flag after j)) s.0 s.1.0) in
    record { replica = s.0; low = s.1.1; is = p.0; off = off (flag after s.0) p.1 }
  where
    off : (b : Bool) → not b ≡ true → b ≡ false
    off true e = absurd (true≢false (sym e))
    off false e = refl

-- it is paid by the one who went out
pub out_pays : (replicas before after : List Bool) (other : Bool) → ((j : ℕ) → flag after j ≡ true → flag before j ≡ true)
    → how_many after + bit (is_one_out replicas after || other) ≤ how_many before + bit (is_one_out replicas before || other)
out_pays replicas before after other within = by (is_one_out replicas before) other (is_one_out replicas after) refl refl where
  fewer : how_many after ≤ how_many before
  fewer = none_more after before within

  was_used : is_one_out replicas before ≡ false → (k : ℕ) → k < 5 → flag replicas k ≡ true → (b : Bool) → flag before k ≡ b → b ≡ true
  was_used none k low is true e = refl
  was_used none k low is false e = absurd (true≢false (sym (one_out replicas before k low is e) ∙ none))

  less : is_one_out replicas before ≡ false → is_one_out replicas after ≡ true → how_many after < how_many before
  less none some =
      let g = gone replicas after some in
      one_less after before g.replica g.low (was_used none g.replica g.low g.is (flag before g.replica) refl) g.off within

  by : (b o a : Bool) → is_one_out replicas before ≡ b → is_one_out replicas after ≡ a → how_many after + bit (a || o) ≤ how_many before + bit (b || o)
  by true o a e f = omega (arith, bit_most (a || o), fewer)
  by false true true e f = omega (arith, fewer)
  by false true false e f = omega (arith, fewer)
  by false false true e f = omega (arith, less e f)
  by false false false e f = omega (arith, fewer)
