-- What a write in place, an entry put in, and the way back make of a store.
use Rattle.std.proofs.Common.{◌≡◌, ◌≤◌, ◌∙◌, sym, refl, ap, subst, ℕ, List, arith}
use Rattle.std.specs.Prelude.{Option, Some, None, is_some, Result, Ok, Err, OnOk, OnErr, IfSome}
use Rattle.afr_changelog.specs.Counters.{full_count}
use Rattle.fop_types.specs.Bounds.{Each}
use Rattle.std.specs.List.{All}
use Rattle.std.specs.List.Sorted.{IsStrictlySortedBy}
use Rattle.std.specs.Map.{lookup, set_value, remove_entry, keys_of, values_of}
use Rattle.std.specs.BTreeMap.{insert_entry, is_at}
use Rattle.std.proofs.lemmas.Map.Views.{All-values-set_value, All-values-insert_entry, All-map-remove_entry, IfSome-lookup_from_All}
use Rattle.std.proofs.lemmas.Map.Steps.{set_value_same}
use Rattle.fop_types.specs.Orders.{cell_cmp}
use Rattle.fop_types.specs.declared.cells.Cell.{Cell}
use Rattle.fop_types.specs.declared.contents.Content.{Content}
use Rattle.fop_types.specs.declared.contents.Row.{Row}
use Rattle.fop_types.proofs.MapLemmas.{cell_cmp_total}
use Rattle.cell_store.specs.declared.kept.Kept.{Kept}
use Rattle.cell_store.specs.declared.steps.Step.{Step}
use Rattle.cell_store.specs.declared.steps.Step.TheVariants.{Counts, Birth}
use Rattle.cell_store.specs.declared.steps.Count.TheVariants.{Mark, Post, Settle}
use Rattle.cell_store.specs.Cells.{Cells, kept_at, kept_or_nothing, with_kept, nothing_kept, row_of, IsCounted, IsCountedRow, mark_of, post_of, settle_of}
use Rattle.cell_store.specs.code.Steps.{stepped, with_row}
use Rattle.cell_store.proofs.Entries.{lookup_set, set_back, set_missing, set_is_insert, remove_new}

module _ (now es : Cells) (cell : Cell) (seen : es ≡ now) where
  found_at : (kept : Kept) → Some kept ≡ lookup (is_at (cell_cmp cell)) es → kept_at now cell ≡ kept
  found_at kept found = ap (λ (l : Cells). kept_at l cell) (sym seen) ∙ ap kept_or_nothing (sym found)

  -- a value written in place, as the map with what is kept of the cell changed
  pub in_place : (f : Kept → Kept) (after : Cells) (kept w : Kept) → Some kept ≡ lookup (is_at (cell_cmp cell)) es
      → after ≡ set_value (is_at (cell_cmp cell)) es w → w ≡ f kept → after ≡ set_value (is_at (cell_cmp cell)) now (f (kept_at now cell))
  in_place f after kept w found written made =
      written ∙ ap (λ (l : Cells). set_value (is_at (cell_cmp cell)) l w) seen
      ∙ ap (λ (k : Kept). set_value (is_at (cell_cmp cell)) now k) (made ∙ ap f (sym (found_at kept found)))

  pub put_in : (f : Kept → Kept) (after : Cells) (kept w : Kept) → IsStrictlySortedBy cell_cmp (keys_of es) → Some kept ≡ lookup (is_at (cell_cmp cell)) es
      → after ≡ set_value (is_at (cell_cmp cell)) es w → w ≡ f kept → after ≡ with_kept now cell (f (kept_at now cell))
  put_in f after kept w sorted found written made =
      written ∙ set_is_insert cell_cmp cell_cmp_total es cell w sorted (ap is_some (sym found))
      ∙ ap (λ (l : Cells). with_kept l cell w) seen
      ∙ ap (λ (k : Kept). with_kept now cell k) (made ∙ ap f (sym (found_at kept found)))

  -- nothing is written where nothing is kept
  pub not_in_place : (w : Kept) → None ≡ lookup (is_at (cell_cmp cell)) es → es ≡ set_value (is_at (cell_cmp cell)) now w
  not_in_place w missing = sym (set_missing (is_at (cell_cmp cell)) es w (sym missing)) ∙ ap (λ (l : Cells). set_value (is_at (cell_cmp cell)) l w) seen

  -- a change in place is taken back by what leads from the changed to the earlier
  pub taken_back : (g : Kept → Kept) (after : Cells) (kept w : Kept) → Some kept ≡ lookup (is_at (cell_cmp cell)) es
      → after ≡ set_value (is_at (cell_cmp cell)) es w → g w ≡ kept → set_value (is_at (cell_cmp cell)) after (g (kept_at after cell)) ≡ now
  taken_back g after kept w found written back =
      let there : lookup (is_at (cell_cmp cell)) (set_value (is_at (cell_cmp cell)) es w) ≡ Some w = lookup_set (is_at (cell_cmp cell)) es w (ap is_some (sym found)) in
      let at : kept_at after cell ≡ w = ap (λ (l : Cells). kept_at l cell) written ∙ ap kept_or_nothing there in
      ap (λ (l : Cells). set_value (is_at (cell_cmp cell)) l (g (kept_at after cell))) written
      ∙ ap (λ (k : Kept). set_value (is_at (cell_cmp cell)) (set_value (is_at (cell_cmp cell)) es w) k) (ap g at ∙ back)
      ∙ set_back (is_at (cell_cmp cell)) es w kept (sym found) ∙ seen

  -- what was read, written back, changes nothing
  pub written_same : (after : Cells) (kept w : Kept) → Some kept ≡ lookup (is_at (cell_cmp cell)) es → after ≡ set_value (is_at (cell_cmp cell)) es w → w ≡ kept → after ≡ now
  written_same after kept w found written same =
      written ∙ ap (λ (k : Kept). set_value (is_at (cell_cmp cell)) es k) same ∙ set_value_same (is_at (cell_cmp cell)) es kept (sym found) ∙ seen

  pub new_taken_back : (read after : Cells) (w : Kept) → read ≡ es → None ≡ lookup (is_at (cell_cmp cell)) es → after ≡ insert_entry cell_cmp read cell w
      → remove_entry (is_at (cell_cmp cell)) after ≡ now
  new_taken_back read after w same missing put =
      ap (λ (l : Cells). remove_entry (is_at (cell_cmp cell)) l) (put ∙ ap (λ (l : Cells). insert_entry cell_cmp l cell w) same) ∙ remove_new cell_cmp cell_cmp_total es cell w (sym missing) ∙ seen

-- the counters stay in bounds
pub counted_in_place : (es after : Cells) (cell : Cell) (w : Kept) → All IsCounted (values_of es) → after ≡ set_value (is_at (cell_cmp cell)) es w → IsCounted w → All IsCounted (values_of after)
counted_in_place es after cell w all written one =
    subst (λ (l : Cells). All IsCounted (values_of l)) (sym written) (All-values-set_value (is_at (cell_cmp cell)) IsCounted es w all one)

pub counted_put_in : {A B : Type 0} (r : Result A B) (es read after : Cells) (cell : Cell) (w : Kept) → read ≡ es → All IsCounted (values_of es)
    → OnOk r (after ≡ insert_entry cell_cmp read cell w) → OnErr r (after ≡ read) → IsCounted w → All IsCounted (values_of after)
counted_put_in (Ok a) es read after cell w same all put kept one =
    subst (λ (l : Cells). All IsCounted (values_of l)) (sym (put ∙ ap (λ (l : Cells). insert_entry cell_cmp l cell w) same))
    (All-values-insert_entry cell_cmp cell w IsCounted es all one)
counted_put_in (Err b) es read after cell w same all put kept one = subst (λ (l : Cells). All IsCounted (values_of l)) (sym (kept ∙ same)) all

pub counted_same : (es after : Cells) → All IsCounted (values_of es) → after ≡ es → All IsCounted (values_of after)
counted_same es after all same = subst (λ (l : Cells). All IsCounted (values_of l)) (sym same) all

pub counted_removed : (es after : Cells) (cell : Cell) → All IsCounted (values_of es) → after ≡ remove_entry (is_at (cell_cmp cell)) es → All IsCounted (values_of after)
counted_removed es after cell all taken =
    subst (λ (l : Cells). All IsCounted (values_of l)) (sym taken) (All-map-remove_entry (is_at (cell_cmp cell)) (λ (e : Cell × Kept). e.1) IsCounted es all)

pub counted_at : (es : Cells) (cell : Cell) (kept : Kept) → All IsCounted (values_of es) → Some kept ≡ lookup (is_at (cell_cmp cell)) es → IsCounted kept
counted_at es cell kept all found =
    subst (λ (o : Option Kept). IfSome o IsCounted) (sym found) (IfSome-lookup_from_All IsCounted (is_at (cell_cmp cell)) es all)

pub counted_as : (kept w : Kept) → (w.dirty ≡ kept.dirty) × (w.pending ≡ kept.pending) → IsCounted kept → IsCounted w
counted_as kept w same one =
    (subst (λ (n : ℕ). n ≤ full_count) (sym same.0) one.0, subst (λ (l : List ℕ). Each (λ n. n ≤ full_count) l) (sym same.1) one.1)

pub counted_new : (kept w : Kept) → kept ≡ nothing_kept → (w.dirty ≡ kept.dirty) × (w.pending ≡ kept.pending) → IsCounted w
counted_new kept w new same =
    counted_as kept w same (subst (λ (k : Kept). IsCounted k) (sym new) (omega arith, (omega arith, (omega arith, (omega arith, (omega arith, (omega arith, tt)))))))

pub counted_by_row : (kept w : Kept) (row : Row) → w ≡ with_row kept row → IsCountedRow row → IsCounted w
counted_by_row kept w row made one = subst (λ (k : Kept). IsCounted k) (sym made) one

-- a step is taken back by the row before it
back_by : (content : Option Content) (dirty last d : ℕ) (pending p : List ℕ)
    → with_row (record { content = content; dirty = d; pending = p; last = last }) (row_of (record { content = content; dirty = dirty; pending = pending; last = last }))
    ≡ record { content = content; dirty = dirty; pending = pending; last = last }
back_by None dirty last d pending p = refl
back_by (Some content) dirty last d pending p = refl

birth_back_by : (content : Option Content) (dirty last : ℕ) (pending : List ℕ) (born : Content) (change : ℕ)
    → with_row (stepped (Birth born change) (record { content = content; dirty = dirty; pending = pending; last = last })) (row_of (record { content = content; dirty = dirty; pending = pending; last = last }))
    ≡ record { content = content; dirty = dirty; pending = pending; last = last }
birth_back_by None dirty last pending born change = refl
birth_back_by (Some content) dirty last pending born change = refl

pub step_back : (step : Step) (kept : Kept) → with_row (stepped step kept) (row_of kept) ≡ kept
step_back (Counts Mark) kept = back_by kept.content kept.dirty kept.last (mark_of kept).dirty kept.pending kept.pending
step_back (Counts (Post mask)) kept = back_by kept.content kept.dirty kept.last (post_of mask kept).dirty kept.pending (post_of mask kept).pending
step_back (Counts (Settle mask)) kept = back_by kept.content kept.dirty kept.last 0 kept.pending (settle_of mask kept).pending
step_back (Birth born change) kept = birth_back_by kept.content kept.dirty kept.last kept.pending born change

pub step_back_at : (step : Step) (kept w : Kept) (row : Row) → w ≡ stepped step kept → row ≡ row_of kept → with_row w row ≡ kept
step_back_at step kept w row made read =
    ap (λ (k : Kept). with_row k row) made ∙ ap (λ (r : Row). with_row (stepped step kept) r) read ∙ step_back step kept
