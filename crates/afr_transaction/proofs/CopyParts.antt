-- The copies that a lock phase needs are within their bounds: cells join a part in their order, and no source is a sink.
use Rattle.std.proofs.Common.{◌≡◌, ◌∙◌, ℕ, zero, suc, ◌+◌, ◌≤◌, Bool, true, false, ◌&&◌, not, List, [], ◌∷◌, ◌++◌, Option, Some, None, is_none, length, refl, sym, ap, subst, arith}
use Rattle.std.proofs.lemmas.Bool.{and_parts, cond_both, true≢false}
use Rattle.std.proofs.lemmas.List.{append-nil, append_assoc}
use Rattle.fop_types.specs.Bounds.{AreCells, Each, IsCell, RisesFrom}
use Rattle.fop_types.specs.Limits.{max_cells}
use Rattle.fop_types.specs.Orders.{cell_cmp}
use Rattle.fop_types.specs.declared.cells.Cell.{Cell}
use Rattle.fop_types.proofs.MapLemmas.{cell_cmp_total}
use Rattle.afr_phases.specs.Flags.{flag, lowest, both, but_for}
use Rattle.afr_phases.proofs.Bits.{named}
use Rattle.afr_phases.proofs.Truths.{flags_at, both_left, both_right}
use Rattle.afr_transaction.specs.declared.phase.Part.{Part}
use Rattle.afr_transaction.specs.declared.txn.Txn.{Txn}
use Rattle.afr_transaction.specs.Copies.{sinks_left, copy_job}
use Rattle.afr_transaction.specs.Encodings.{AreApart, IsPart, IsCopyJob}
use Rattle.afr_transaction.specs.Parts.{common_from, common_of, sources_for, place_of, joined_at, joined, with_copy, parts_from, all_parts}
use Rattle.afr_transaction.specs.Reads.{sound_on}
use Rattle.afr_transaction.specs.Txns.{alive}

-- ---- a cell less

module _ (cell : Cell) (rest : List Cell) where
  longer : (xs : List Cell) → length (xs ++ cell ∷ rest) ≡ length (xs ++ rest) + 1
  longer [] = omega arith
  longer (x ∷ xs) = let more : length (xs ++ cell ∷ rest) ≡ length (xs ++ rest) + 1 = longer xs in omega arith

  each_less : (xs : List Cell) → Each IsCell (xs ++ cell ∷ rest) → Each IsCell (xs ++ rest)
  each_less [] h = h.1
  each_less (x ∷ xs) h = (h.0, each_less xs h.1)

-- those that follow rise after what was before
rises_less : (earlier : Option Cell) (cell : Cell) (rest : List Cell) → RisesFrom cell_cmp true earlier (cell ∷ rest) → RisesFrom cell_cmp true earlier rest
rises_less earlier cell [] h = tt
rises_less None cell (d ∷ ds) h = (tt, h.1.1)
rises_less (Some e) cell (d ∷ ds) h = (cell_cmp_total.trans e cell d h.0 h.1.0, h.1.1)

rises_but : (earlier : Option Cell) (cell : Cell) (rest xs : List Cell) → RisesFrom cell_cmp true earlier (xs ++ cell ∷ rest) → RisesFrom cell_cmp true earlier (xs ++ rest)
rises_but earlier cell rest [] h = rises_less earlier cell rest h
rises_but earlier cell rest (x ∷ xs) h = (h.0, rises_but (Some x) cell rest xs h.1)

cells_less : (cell : Cell) (rest xs : List Cell) → AreCells 0 max_cells (xs ++ cell ∷ rest) → AreCells 0 max_cells (xs ++ rest)
cells_less cell rest xs h = (omega arith, omega (arith, h.1, longer cell rest xs), each_less cell rest xs h.2, rises_but None cell rest xs h.3)

-- ---- parts to which cells may still come

-- with the cells that follow, those of the part are at most four, rising
record IsOpen (rest : List Cell) (part : Part) : Type 0 where
  some : 1 ≤ length part.cells
  all : AreCells 0 max_cells (part.cells ++ rest)
  apart : AreApart part.sources part.sinks

abbrev AreOpen : List Cell → List Part → Type 0
AreOpen rest parts = Each (λ (p : Part). IsOpen rest p) parts

passed : (cell : Cell) (rest : List Cell) (part : Part) → IsOpen (cell ∷ rest) part → IsOpen rest part
passed cell rest part h = record { some = h.some; all = cells_less cell rest part.cells h.all; apart = h.apart }

all_passed : (cell : Cell) (rest : List Cell) (parts : List Part) → AreOpen (cell ∷ rest) parts → AreOpen rest parts
all_passed cell rest [] h = tt
all_passed cell rest (part ∷ parts) h = (passed cell rest part h.0, all_passed cell rest parts h.1)

one_more : (xs : List Cell) (cell : Cell) → 1 ≤ length (xs ++ cell ∷ [])
one_more [] cell = omega arith
one_more (x ∷ xs) cell = omega arith

module _ (cell : Cell) (rest : List Cell) (sources sinks : List Bool) (apart : AreApart sources sinks) (fits : AreCells 0 max_cells (cell ∷ rest)) where
  joined_open : (place : ℕ) (parts : List Part) → AreOpen (cell ∷ rest) parts → AreOpen rest (joined_at place parts cell sources sinks)
  joined_open place [] h = (record { some = omega arith; all = fits; apart = apart }, tt)
  joined_open zero (part ∷ parts) h = (
    record {
      some = one_more part.cells cell;
      all = subst (λ (l : List Cell). AreCells 0 max_cells l) (sym (append_assoc part.cells (cell ∷ []) rest)) h.0.all;
      apart = h.0.apart;
    },
    all_passed cell rest parts h.1,
  )
  joined_open (suc place) (part ∷ parts) h = (passed cell rest part h.0, joined_open place parts h.1)

  copy_open : (parts : List Part) → AreOpen (cell ∷ rest) parts → AreOpen rest (with_copy parts cell sources sinks)
  copy_open parts h =
      cond_both (is_none (lowest sinks)) parts (joined parts cell sources sinks) (AreOpen rest) (λ e. all_passed cell rest parts h) (λ e. joined_open (place_of parts sources sinks) parts h)

-- ---- sources and sinks

but_apart : (reached sound : List Bool) (k : ℕ) → flag sound k ≡ true → flag (but_for reached sound) k ≡ false
but_apart reached sound k h = by (flag (but_for reached sound) k) refl where
  by : (b : Bool) → flag (but_for reached sound) k ≡ b → b ≡ false
  by false e = refl
  by true e =
      let off : not (flag sound k) ≡ true = (and_parts (flag reached k) (not (flag sound k)) (flags_at (λ j. flag reached j && not (flag sound j)) k e)).1 in
      absurd (true≢false (sym off ∙ ap (λ (b : Bool). not b) h))

both_off : (a b : List Bool) (k : ℕ) → flag a k ≡ false → flag (both a b) k ≡ false
both_off a b k h = by (flag (both a b) k) refl where
  by : (t : Bool) → flag (both a b) k ≡ t → t ≡ false
  by false e = refl
  by true e = absurd (true≢false (sym (both_left a b k e) ∙ h))

-- the replicas that are sound on all cells are among those that are sound on the first ones
common_within : (txn : Txn) (flags : List Bool) (c : ℕ) (cells : List Cell) (k : ℕ) → flag (common_from txn flags c cells) k ≡ true → flag flags k ≡ true
common_within txn flags c [] k h = h
common_within txn flags c (cell ∷ cells) k h = both_left flags (sound_on txn c) k (common_within txn (both flags (sound_on txn c)) (c + 1) cells k h)

sources_apart : (reached common sound : List Bool) → ((k : ℕ) → flag common k ≡ true → flag sound k ≡ true) → AreApart (sources_for common sound) (but_for reached sound)
sources_apart reached common sound within =
    cond_both (is_none (lowest common)) sound common (λ (s : List Bool). AreApart s (but_for reached sound)) (λ e k h. but_apart reached sound k h) (λ e k h. but_apart reached sound k (within k h))

-- ---- all parts

parts_open : (txn : Txn) (parts : List Part) (common flags : List Bool) (c : ℕ) (cells : List Cell) → ((k : ℕ) → flag common k ≡ true → flag (common_from txn flags c cells) k ≡ true)
    → AreCells 0 max_cells cells → AreOpen cells parts → AreOpen [] (parts_from txn parts common c cells)
parts_open txn parts common flags c [] within fits h = h
parts_open txn parts common flags c (cell ∷ cells) within fits h =
    parts_open txn (with_copy parts cell (sources_for common (sound_on txn c)) (but_for txn.shown.reached (sound_on txn c))) common (both flags (sound_on txn c)) (c + 1) cells within
    (cells_less cell cells [] fits)
    (copy_open cell cells (sources_for common (sound_on txn c)) (but_for txn.shown.reached (sound_on txn c)) (sources_apart txn.shown.reached common (sound_on txn c) sound) fits parts h)
  where
    sound : (k : ℕ) → flag common k ≡ true → flag (sound_on txn c) k ≡ true
    sound k e = both_right flags (sound_on txn c) k (common_within txn (both flags (sound_on txn c)) (c + 1) cells k (within k e))

closed : (part : Part) → IsOpen [] part → IsPart part
closed part h =
    let a : AreCells 0 max_cells part.cells = subst (λ (l : List Cell). AreCells 0 max_cells l) (append-nil part.cells) h.all in
    record { few = (h.some, a.1, a.2, a.3); apart = h.apart }

all_closed : (parts : List Part) → AreOpen [] parts → Each IsPart parts
all_closed [] h = tt
all_closed (part ∷ parts) h = (closed part h.0, all_closed parts h.1)

pub parts_fit : (txn : Txn) → AreCells 1 max_cells txn.cells → Each IsPart (all_parts txn)
parts_fit txn h = all_closed (all_parts txn) (parts_open txn [] (common_of txn) (true ∷ true ∷ true ∷ true ∷ true ∷ []) 0 txn.cells (λ k e. e) (omega arith, h.1, h.2, h.3) tt)

-- a settling copies from the group to those outside it
pub outside_apart : (reached group : List Bool) → AreApart group (but_for reached group)
outside_apart reached group k h = but_apart reached group k h

-- ---- the copy that is asked for

pub copy_fits : (txn : Txn) (part : Part) → IsPart part → IsCopyJob (copy_job txn part)
copy_fits txn part h = record {
  few = h.few;
  apart = λ k low s. named (sinks_left txn part) k low ∙ both_off part.sinks (alive txn) k (h.apart k (sym (named part.sources k low) ∙ s));
  held = λ k low s. named (alive txn) k low ∙ both_right part.sinks (alive txn) k (sym (named (sinks_left txn part) k low) ∙ s);
}
