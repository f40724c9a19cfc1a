-- Sources of reads and copies were reached, so that where none is used any more one that was reached is out.
use Rattle.std.proofs.Common.{◌≡◌, ◌∙◌, ℕ, zero, suc, ◌+◌, ◌-◌, ◌<◌, ◌≤◌, ◌⊎◌, inl, inr, Bool, true, false, ◌&&◌, ◌||◌, not, nat_lt, cond, List, [], ◌∷◌, ◌++◌, Option, Some, None, is_some, is_none, refl, sym, ap, subst, arith, take}
use Rattle.std.specs.Prelude.{length, slice_get, slice_index_or}
use Rattle.std.proofs.lemmas.Bool.{cond_both, and_parts, or_from, or_left, or_parts, or_right, true≢false}
use Rattle.fop_types.specs.declared.cells.Cell.{Cell}
use Rattle.fop_types.specs.declared.contents.Content.{Content}
use Rattle.fop_types.specs.declared.contents.Row.{Row}
use Rattle.afr_changelog.specs.Soundness.{row_of, reached_in, accusers_of}
use Rattle.afr_phases.specs.declared.outs.Outs.{Outs}
use Rattle.afr_phases.specs.declared.shown.Shown.{Shown}
use Rattle.afr_phases.specs.declared.wave.Wave.{Wave}
use Rattle.afr_phases.specs.Flags.{flag, flags_by, both, but_for, lowest}
use Rattle.afr_phases.specs.Shown.{is_row_good, is_sound, row_among, rows_at, shown_at}
use Rattle.afr_phases.proofs.Truths.{below_five, both_have, both_left, both_right, flags_at, lowest_none, lowest_some, lowest_there}
use Rattle.afr_transaction.specs.declared.phase.Part.{Part}
use Rattle.afr_transaction.specs.declared.phase.Phase.{Phase}
use Rattle.afr_transaction.specs.declared.txn.Txn.{Txn}
use Rattle.afr_transaction.specs.Copies.{has_sink, next_part}
use Rattle.afr_transaction.specs.Parts.{common_from, is_split, is_unsound, sources_for, place_of, joined_at, joined, with_copy, parts_from, all_parts}
use Rattle.afr_transaction.specs.Reads.{is_bare, is_split_read, lacks, sound_on, with_absent}
use Rattle.afr_transaction.specs.Txns.{alive}
use Rattle.afr_transaction.proofs.Steps.{one_longer}
use Rattle.txn_laws.specs.Rounds.{is_one_out, is_read_late, lack_sources}
use Rattle.txn_laws.proofs.Counts.{one_out}

some_is_none : (o : Option ℕ) → is_some o ≡ false → o ≡ None
some_is_none None h = refl
some_is_none (Some k) h = absurd (true≢false h)

some_not_none : (o : Option ℕ) → is_some o ≡ true → is_none o ≡ false
some_not_none None h = absurd (true≢false (sym h))
some_not_none (Some k) h = refl

-- ---- a source that was reached is out

-- of these replicas, one that was reached is not used any more, where none of them is
pub loses : (sources reached used : List Bool) (k : ℕ) → k < 5 → flag sources k ≡ true → flag reached k ≡ true → lowest (both sources used) ≡ None → is_one_out reached used ≡ true
loses sources reached used k low source was none = one_out reached used k low was (off (flag used k) refl) where
  off : (b : Bool) → flag used k ≡ b → b ≡ false
  off true e = absurd (true≢false (sym (both_have sources used k low source e) ∙ lowest_none (both sources used) k low none))
  off false e = refl

-- the same of a part that has a source among those that were reached
pub part_loses : (sources reached used : List Bool) → is_none (lowest (both sources reached)) ≡ false → is_some (lowest (both sources used)) ≡ false → is_one_out reached used ≡ true
part_loses sources reached used there none =
    let k = lowest_there (both sources reached) there in
    loses sources reached used k.0 k.1.1 (both_left sources reached k.0 k.1.0) (both_right sources reached k.0 k.1.0) (some_is_none (lowest (both sources used)) none)

-- ---- who is sound was reached

taken_there : (xs : List (Option Row)) (n k : ℕ) (row : Row) → slice_index_or (take n xs) k None ≡ Some row → slice_index_or xs k None ≡ Some row
taken_there xs zero k row h = absurd cc
taken_there [] (suc n) k row h = h
taken_there (x ∷ xs) (suc n) zero row h = h
taken_there (x ∷ xs) (suc n) (suc k) row h = taken_there xs n k row h

reached_at : (shown : Shown) (c k : ℕ) (row : Row) → shown_at shown c k ≡ Some row → flag shown.reached k ≡ true
reached_at shown c k row = by (flag shown.reached k) where
  by : (b : Bool) → cond b (row_among (slice_index_or shown.rows k None) c) None ≡ Some row → b ≡ true
  by true h = refl
  by false h = absurd cc

row_reached : (shown : Shown) (c k : ℕ) (row : Row) → k < 5 → slice_index_or (rows_at shown c) k None ≡ Some row → flag shown.reached k ≡ true
row_reached shown c zero row low h = reached_at shown c 0 row h
row_reached shown c (suc zero) row low h = reached_at shown c 1 row h
row_reached shown c (suc (suc zero)) row low h = reached_at shown c 2 row h
row_reached shown c (suc (suc (suc zero))) row low h = reached_at shown c 3 row h
row_reached shown c (suc (suc (suc (suc zero)))) row low h = reached_at shown c 4 row h
row_reached shown c (suc (suc (suc (suc (suc k))))) row low h = absurd (omega arith)

good_reached : (shown : Shown) (c n k : ℕ) → k < 5 → is_row_good (row_of (take n (rows_at shown c)) k) k ≡ true → flag shown.reached k ≡ true
good_reached shown c n k low = by (slice_index_or (take n (rows_at shown c)) k None) refl where
  by : (o : Option Row) → slice_index_or (take n (rows_at shown c)) k None ≡ o → is_row_good o k ≡ true → flag shown.reached k ≡ true
  by None e good = absurd (true≢false (sym good))
  by (Some row) e good = row_reached shown c k row low (taken_there (rows_at shown c) n k row e)

pub sound_reached : (txn : Txn) (c k : ℕ) → flag (sound_on txn c) k ≡ true → flag txn.shown.reached k ≡ true
unfolding sound_on
sound_reached txn c k h =
    let rows = take txn.size.n (rows_at txn.shown c) in
    good_reached txn.shown c txn.size.n k (below_five (is_sound rows txn.size.n txn.size.q) k h)
    (and_parts (is_row_good (row_of rows k) k) (nat_lt (accusers_of rows k) (reached_in rows - (txn.size.n - txn.size.q))) (flags_at (is_sound rows txn.size.n txn.size.q) k h)).0

-- ---- a read

-- what its rows leave bare is not changed by who is out
pub same_split : (txn : Txn) (outs : Outs) (wave : Wave) (p : Phase) (c : ℕ) (cells : List Cell) → is_split_read (record txn { outs = outs; wave = wave; phase = p }) c cells ≡ is_split_read txn c cells
unfolding is_bare lacks sound_on
same_split txn outs wave p c [] = refl
same_split txn outs wave p c (cell ∷ cells) = ap (λ (b : Bool). is_bare txn c || b) (same_split txn outs wave p (c + 1) cells)

not_bare_at : (txn : Txn) (c m i : ℕ) (cells : List Cell) (cell : Cell) → is_split_read txn c cells ≡ false → m ≡ c + i → slice_get cells i ≡ Some cell → is_bare txn m ≡ false
not_bare_at txn c m i [] cell h at there = absurd cc
not_bare_at txn c m zero (x ∷ cells) cell h at there =
    let same : c ≡ m = omega arith in subst (λ (n : ℕ). is_bare txn n ≡ false) same (or_parts (is_bare txn c) (is_split_read txn (c + 1) cells) h).0
not_bare_at txn c m (suc i) (x ∷ cells) cell h at there =
    not_bare_at txn (c + 1) m i cells cell (or_parts (is_bare txn c) (is_split_read txn (c + 1) cells) h).1 (omega arith) there

has_sound : (txn : Txn) (c : ℕ) → is_bare txn c ≡ false → lacks txn c ≡ false → is_none (lowest (sound_on txn c)) ≡ false
unfolding is_bare
has_sound txn c h own = by (lacks txn c) (is_none (lowest (sound_on txn c))) h own where
  by : (l n : Bool) → (not l && n) ≡ false → l ≡ false → n ≡ false
  by true n e o = absurd (true≢false o)
  by false n e o = e

-- a read for whose next cell no sound replica is used any more
pub read_late : (txn : Txn) (c : ℕ) (cell : Cell) → slice_get txn.cells c ≡ Some cell → lacks txn c ≡ false → lowest (both (sound_on txn c) (alive txn)) ≡ None → is_read_late txn ≡ true
read_late txn c cell at own none = by (is_split_read txn 0 txn.cells) refl where
  lost : is_split_read txn 0 txn.cells ≡ false → is_one_out txn.shown.reached (alive txn) ≡ true
  lost e =
      let k = lowest_there (sound_on txn c) (has_sound txn c (not_bare_at txn 0 c c txn.cells cell e (omega arith) at) own) in
      loses (sound_on txn c) txn.shown.reached (alive txn) k.0 k.1.1 k.1.0 (sound_reached txn c k.0 k.1.0) none

  by : (b : Bool) → is_split_read txn 0 txn.cells ≡ b → (is_one_out txn.shown.reached (alive txn) || b) ≡ true
  by true e = or_right (is_one_out txn.shown.reached (alive txn)) true refl
  by false e = or_left (is_one_out txn.shown.reached (alive txn)) false (lost e)

-- the next cell is not read as absent, or there is none
pub stops : (txn : Txn) (contents : List (Option Content)) (left : ℕ) → length txn.cells ≤ length contents + left
    → (length txn.cells ≤ length (with_absent txn contents left)) ⊎ (lacks txn (length (with_absent txn contents left)) ≡ false)
stops txn contents zero h = inl (omega arith)
stops txn contents (suc left) h =
    cond_both (lacks txn (length contents)) (with_absent txn (contents ++ None ∷ []) left) contents (λ (l : List (Option Content)). (length txn.cells ≤ length l) ⊎ (lacks txn (length l) ≡ false))
    (λ e. stops txn (contents ++ None ∷ []) left (omega (arith, one_longer contents None))) (λ e. inr e)

-- ---- copies

common_within : (txn : Txn) (flags : List Bool) (c : ℕ) (cells : List Cell) (k : ℕ) → flag (common_from txn flags c cells) k ≡ true → flag flags k ≡ true
common_within txn flags c [] k h = h
common_within txn flags c (cell ∷ cells) k h = both_left flags (sound_on txn c) k (common_within txn (both flags (sound_on txn c)) (c + 1) cells k h)

-- sources that were reached
abbrev Have : List Bool → List Bool → Type 0
Have reached sources = is_none (lowest (both sources reached)) ≡ false

some_reached : (sources reached : List Bool) → ((k : ℕ) → flag sources k ≡ true → flag reached k ≡ true) → is_none (lowest sources) ≡ false → Have reached sources
some_reached sources reached within there =
    let k = lowest_there sources there in
    some_not_none (lowest (both sources reached)) (lowest_some (both sources reached) k.0 k.1.1 (both_have sources reached k.0 k.1.1 k.1.0 (within k.0 k.1.0)))

joined_have : (reached : List Bool) (place : ℕ) (parts : List Part) (cell : Cell) (sources sinks : List Bool) → lack_sources reached parts ≡ false → Have reached sources → lack_sources reached (joined_at place parts cell sources sinks) ≡ false
joined_have reached place [] cell sources sinks h there = or_from (is_none (lowest (both sources reached))) false there refl
joined_have reached zero (part ∷ parts) cell sources sinks h there = h
joined_have reached (suc place) (part ∷ parts) cell sources sinks h there =
    let p = or_parts (is_none (lowest (both part.sources reached))) (lack_sources reached parts) h in
    or_from (is_none (lowest (both part.sources reached))) (lack_sources reached (joined_at place parts cell sources sinks)) p.0 (joined_have reached place parts cell sources sinks p.1 there)

copy_have : (reached : List Bool) (parts : List Part) (cell : Cell) (sources sinks : List Bool) → lack_sources reached parts ≡ false → Have reached sources → lack_sources reached (with_copy parts cell sources sinks) ≡ false
copy_have reached parts cell sources sinks h there =
    cond_both (is_none (lowest sinks)) parts (joined parts cell sources sinks) (λ (l : List Part). lack_sources reached l ≡ false) (λ e. h)
    (λ e. joined_have reached (place_of parts sources sinks) parts cell sources sinks h there)

module _ (txn : Txn) (common : List Bool) (within : (k : ℕ) → flag common k ≡ true → flag txn.shown.reached k ≡ true) where
  sound_there : (c : ℕ) → is_unsound txn c ≡ false → Have txn.shown.reached (sound_on txn c)
  unfolding is_unsound
  sound_there c h = some_reached (sound_on txn c) txn.shown.reached (sound_reached txn c) h

  sources_there : (c : ℕ) → is_unsound txn c ≡ false → Have txn.shown.reached (sources_for common (sound_on txn c))
  sources_there c h =
      cond_both (is_none (lowest common)) (sound_on txn c) common (Have txn.shown.reached) (λ e. sound_there c h) (λ e. some_reached common txn.shown.reached within e)

  parts_have : (c : ℕ) (cells : List Cell) (parts : List Part) → is_split txn c cells ≡ false → lack_sources txn.shown.reached parts ≡ false → lack_sources txn.shown.reached (parts_from txn parts common c cells) ≡ false
  parts_have c [] parts split h = h
  parts_have c (cell ∷ cells) parts split h =
      let p = or_parts (is_unsound txn c) (is_split txn (c + 1) cells) split in
      parts_have (c + 1) cells (with_copy parts cell (sources_for common (sound_on txn c)) (but_for txn.shown.reached (sound_on txn c))) p.1
      (copy_have txn.shown.reached parts cell (sources_for common (sound_on txn c)) (but_for txn.shown.reached (sound_on txn c)) h (sources_there c p.0))

-- each part of a lock phase has a source that was reached
cells_have : (txn : Txn) (cells : List Cell) → is_split txn 0 cells ≡ false → lack_sources txn.shown.reached (parts_from txn [] (common_from txn (flags_by (λ k. true)) 0 cells) 0 cells) ≡ false
cells_have txn [] split = refl
cells_have txn (cell ∷ cells) split = parts_have txn (common_from txn (flags_by (λ k. true)) 0 (cell ∷ cells)) within 0 (cell ∷ cells) [] split refl where
  within : (k : ℕ) → flag (common_from txn (flags_by (λ k. true)) 0 (cell ∷ cells)) k ≡ true → flag txn.shown.reached k ≡ true
  within k h =
      sound_reached txn 0 k (both_right (flags_by (λ k. true)) (sound_on txn 0) k (common_within txn (both (flags_by (λ k. true)) (sound_on txn 0)) 1 cells k h))

pub all_have : (txn : Txn) → is_split txn 0 txn.cells ≡ false → lack_sources txn.shown.reached (all_parts txn) ≡ false
all_have txn split = cells_have txn txn.cells split

-- the next part, and those after it, lack no source where none of these does
abbrev pub LackFrom : List Bool → List Part → Option Part × List Part → Type 0
LackFrom reached parts (None, rest) = Unit {0}
LackFrom reached parts (Some part, rest) = (is_none (lowest (both part.sources reached)) ≡ true → lack_sources reached parts ≡ true) × (lack_sources reached rest ≡ true → lack_sources reached parts ≡ true)

lack_more : (reached : List Bool) (part : Part) (parts : List Part) (t : Option Part × List Part) → LackFrom reached parts t → LackFrom reached (part ∷ parts) t
lack_more reached part parts (None, rest) h = tt
lack_more reached part parts (Some one, rest) h =
    (λ e. or_right (is_none (lowest (both part.sources reached))) (lack_sources reached parts) (h.0 e), λ e. or_right (is_none (lowest (both part.sources reached))) (lack_sources reached parts) (h.1 e))

pub next_lacks : (txn : Txn) (reached : List Bool) (parts : List Part) → LackFrom reached parts (next_part txn parts)
next_lacks txn reached [] = tt
next_lacks txn reached (part ∷ parts) =
    cond_both (has_sink txn part) (Some part, parts) (next_part txn parts) (LackFrom reached (part ∷ parts))
    (λ e. (λ h. or_left (is_none (lowest (both part.sources reached))) (lack_sources reached parts) h, λ h. or_right (is_none (lowest (both part.sources reached))) (lack_sources reached parts) h))
    (λ e. lack_more reached part parts (next_part txn parts) (next_lacks txn reached parts))
