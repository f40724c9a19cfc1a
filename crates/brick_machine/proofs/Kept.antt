-- What a store keeps has an encoding after each call.
use Rattle.std.proofs.Common.{◌≡◌, ◌≤◌, ◌<◌, ◌^◌, ◌∙◌, ◌+◌, ◌-◌, ◌++◌, ◌∷◌, ℕ, ◌==◌, suc, Bool, true, false, List, [], length, take, drop, replicate, refl, ap, sym, subst, arith, length-append}
use Rattle.std.specs.Prelude.{Option, Some, None, IfSome, is_some, if◌then◌else◌}
use Rattle.std.specs.declared.cmp.Ordering.{Ordering}
use Rattle.std.specs.declared.cmp.Ordering.TheVariants.{Less, Equal, Greater}
use Rattle.std.specs.Ordering.{match_ordering, ordering_reverse}
use Rattle.std.proofs.lemmas.Bool.{eqb-false}
use Rattle.std.specs.Map.{lookup, keys_of, set_value}
use Rattle.std.specs.BTreeMap.{insert_entry, is_at}
use Rattle.afr_changelog.specs.Counters.{full_count, raised, lowered}
use Rattle.fop_types.specs.Bounds.{Each, Follows, RisesFrom, Rises, IsHyper, IsMode, IsAttr, attr_cmp, IsSpan, IsItem, item_cmp, IsCell}
use Rattle.fop_types.specs.Orders.{cell_cmp}
use Rattle.fop_types.specs.Cells.{root, meta_cell, names_cell}
use Rattle.fop_types.proofs.MapLemmas.{cell_cmp_total, cell_exact}
use Rattle.fop_types.specs.declared.cells.Cell.{Cell}
use Rattle.fop_types.specs.declared.contents.Content.{Content}
use Rattle.fop_types.specs.declared.contents.Content.TheVariants.{Bytes, Meta, Names}
use Rattle.fop_types.specs.declared.contents.Mask.{Mask}
use Rattle.cell_store.specs.declared.kept.Kept.{Kept}
use Rattle.cell_store.specs.Cells.{Cells, nothing_kept, kept_at, kept_or_nothing, with_kept, root_alone, is_named, changed_from, mark_of, post_of, settle_of, clear_of, changed_at, cleared, copied_in, replaced}
use Rattle.brick_machine.specs.Encoded.{IsStored, IsStoredIfThere, IsKept, IsEntry, AreKept}

-- ---- entries of a map by rising cell

each_put : (c : Cell) (k : Kept) (es : Cells) → Each IsEntry es → IsCell c → IsKept k → Each IsEntry (insert_entry cell_cmp es c k)
each_put c k [] all cell one = ((cell, one), tt)
each_put c k (e ∷ es) all cell one = by_order (each_put c k es all.1 cell one) (cell_cmp c e.0)
  where
    by_order : Each IsEntry (insert_entry cell_cmp es c k) → (r : Ordering) → Each IsEntry (match_ordering r ((c, k) ∷ e ∷ es) ((e.0, k) ∷ es) (e ∷ insert_entry cell_cmp es c k))
    by_order rest Less = ((cell, one), all)
    by_order rest Equal = ((all.0.0, one), all.1)
    by_order rest Greater = (all.0, rest)

rises_put : (earlier : Option Cell) (c : Cell) (k : Kept) (es : Cells) → Follows cell_cmp true earlier c → RisesFrom cell_cmp true earlier (keys_of es) → RisesFrom cell_cmp true earlier (keys_of (insert_entry cell_cmp es c k))
rises_put earlier c k [] follows rises = (follows, tt)
rises_put earlier c k (e ∷ es) follows rises = by_order (λ above. rises_put (Some e.0) c k es above rises.1) (cell_cmp c e.0) refl
  where
    by_order : (cell_cmp e.0 c ≡ Less → RisesFrom cell_cmp true (Some e.0) (keys_of (insert_entry cell_cmp es c k))) → (r : Ordering) → cell_cmp c e.0 ≡ r → RisesFrom cell_cmp true earlier (keys_of (match_ordering r ((c, k) ∷ e ∷ es) ((e.0, k) ∷ es) (e ∷ insert_entry cell_cmp es c k)))
    by_order rest Less h = (follows, (h, rises.1))
    by_order rest Equal h = rises
    by_order rest Greater h = (rises.0, rest (cell_cmp_total.antisymm e.0 c ∙ ap ordering_reverse h))

pub put_kept : (cells : Cells) (c : Cell) (k : Kept) → AreKept cells → IsCell c → IsKept k → AreKept (with_kept cells c k)
put_kept cells c k all cell one = record { entries = each_put c k cells all.entries cell one; rising = rises_put None c k cells tt all.rising }

each_set : (c : Cell) (k : Kept) (es : Cells) → Each IsEntry es → IsKept k → Each IsEntry (set_value (is_at (cell_cmp c)) es k)
each_set c k [] all one = tt
each_set c k (e ∷ es) all one = by_test (each_set c k es all.1 one) (is_at (cell_cmp c) e.0)
  where
    by_test : Each IsEntry (set_value (is_at (cell_cmp c)) es k) → (b : Bool) → Each IsEntry (if b then (e.0, k) ∷ es else e ∷ set_value (is_at (cell_cmp c)) es k)
    by_test rest true = ((all.0.0, one), all.1)
    by_test rest false = (all.0, rest)

same_keys : (c : Cell) (k : Kept) (es : Cells) → keys_of (set_value (is_at (cell_cmp c)) es k) ≡ keys_of es
same_keys c k [] = refl
same_keys c k (e ∷ es) = by_test (same_keys c k es) (is_at (cell_cmp c) e.0)
  where
    by_test : keys_of (set_value (is_at (cell_cmp c)) es k) ≡ keys_of es → (b : Bool) → keys_of (if b then (e.0, k) ∷ es else e ∷ set_value (is_at (cell_cmp c)) es k) ≡ e.0 ∷ keys_of es
    by_test rest true = refl
    by_test rest false = ap (λ (l : List Cell). e.0 ∷ l) rest

pub set_kept : (cells : Cells) (c : Cell) (k : Kept) → AreKept cells → IsKept k → AreKept (set_value (is_at (cell_cmp c)) cells k)
set_kept cells c k all one = record {
  entries = each_set c k cells all.entries one;
  rising = subst (λ (l : List Cell). Rises cell_cmp true l) (sym (same_keys c k cells)) all.rising;
}

pub nothing_is_kept : IsKept nothing_kept
nothing_is_kept = record { content = tt; last = omega arith; dirty = omega arith; pending = (omega arith, (omega arith, (omega arith, (omega arith, (omega arith, tt))))); five = refl }

found_kept : (c : Cell) (es : Cells) → Each IsEntry es → IsKept (kept_or_nothing (lookup (is_at (cell_cmp c)) es))
found_kept c [] all = nothing_is_kept
found_kept c (e ∷ es) all = by_test (found_kept c es all.1) (is_at (cell_cmp c) e.0)
  where
    by_test : IsKept (kept_or_nothing (lookup (is_at (cell_cmp c)) es)) → (b : Bool) → IsKept (kept_or_nothing (if b then Some e.1 else lookup (is_at (cell_cmp c)) es))
    by_test rest true = all.0.1
    by_test rest false = rest

pub kept_there : (cells : Cells) (c : Cell) → AreKept cells → IsKept (kept_at cells c)
kept_there cells c all = found_kept c cells all.entries

-- ---- counters

raised_few : (n : ℕ) → n ≤ full_count → raised n ≤ full_count
raised_few n few = by_test (n == full_count) refl
  where
    by_test : (b : Bool) → (n == full_count) ≡ b → (if b then n else n + 1) ≤ full_count
    by_test true h = few
    by_test false h = let other : n ≡ full_count → ⊥ = eqb-false n full_count h in omega (arith, few, other)

lowered_few : (n : ℕ) → n ≤ full_count → lowered n ≤ full_count
lowered_few n few = by_test (n == full_count)
  where
    by_test : (b : Bool) → (if b then n else n - 1) ≤ full_count
    by_test true = few
    by_test false = omega (arith, few)

changed_few : (change : ℕ → ℕ) (mask : Mask) → ((n : ℕ) → n ≤ full_count → change n ≤ full_count) → (replica : ℕ) (ns : List ℕ) → Each (λ n. n ≤ full_count) ns → Each (λ n. n ≤ full_count) (changed_from change mask replica ns)
changed_few change mask few replica [] all = tt
changed_few change mask few replica (n ∷ ns) all = (by_test (is_named mask replica), changed_few change mask few (replica + 1) ns all.1)
  where
    by_test : (b : Bool) → (if b then change n else n) ≤ full_count
    by_test true = few n all.0
    by_test false = all.0

changed_long : (change : ℕ → ℕ) (mask : Mask) (replica : ℕ) (ns : List ℕ) → length (changed_from change mask replica ns) ≡ length ns
changed_long change mask replica [] = refl
changed_long change mask replica (n ∷ ns) = ap suc (changed_long change mask (replica + 1) ns)

pub marked_one : (k : Kept) → IsKept k → IsKept (mark_of k)
marked_one k one = record { content = one.content; last = one.last; dirty = raised_few k.dirty one.dirty; pending = one.pending; five = one.five }

pub posted_one : (mask : Mask) (k : Kept) → IsKept k → IsKept (post_of mask k)
posted_one mask k one = record {
  content = one.content;
  last = one.last;
  dirty = lowered_few k.dirty one.dirty;
  pending = changed_few raised mask raised_few 0 k.pending one.pending;
  five = changed_long raised mask 0 k.pending ∙ one.five;
}

pub settled_one : (mask : Mask) (k : Kept) → IsKept k → IsKept (settle_of mask k)
settled_one mask k one = record {
  content = one.content;
  last = one.last;
  dirty = omega arith;
  pending = changed_few raised mask raised_few 0 k.pending one.pending;
  five = changed_long raised mask 0 k.pending ∙ one.five;
}

pub cleared_one : (mask : Mask) (k : Kept) → IsKept k → IsKept (clear_of mask k)
cleared_one mask k one = record {
  content = one.content;
  last = one.last;
  dirty = one.dirty;
  pending = changed_few (λ _. 0) mask (λ n few. omega arith) 0 k.pending one.pending;
  five = changed_long (λ _. 0) mask 0 k.pending ∙ one.five;
}

pub changed_kept : (change : Kept → Kept) → ((k : Kept) → IsKept k → IsKept (change k)) → (those : List Cell) (cells : Cells) → Each IsCell those → AreKept cells → AreKept (changed_at change those cells)
changed_kept change stays [] cells legal all = all
changed_kept change stays (c ∷ cs) cells legal all =
    changed_kept change stays cs (with_kept cells c (change (kept_at cells c))) legal.1
    (put_kept cells c (change (kept_at cells c)) all legal.0 (stays (kept_at cells c) (kept_there cells c all)))

pub cleared_kept : (mask : Mask) (those : List Cell) (cells : Cells) → AreKept cells → AreKept (cleared those mask cells)
cleared_kept mask [] cells all = all
cleared_kept mask (c ∷ cs) cells all =
    cleared_kept mask cs (set_value (is_at (cell_cmp c)) cells (clear_of mask (kept_at cells c)))
    (set_kept cells c (clear_of mask (kept_at cells c)) all (cleared_one mask (kept_at cells c) (kept_there cells c all)))

pub replaced_kept : (cells : Cells) (c : Cell) (content : Content) (last : ℕ) → IsCell c → IsStored content → IsHyper last → AreKept cells → AreKept (replaced cells c content last)
replaced_kept cells c content last cell stored fits all =
    let one = kept_there cells c all in
    put_kept cells c (copied_in content last (kept_at cells c)) all cell (record { content = stored; last = fits; dirty = one.dirty; pending = one.pending; five = one.five })

pub root_kept : AreKept root_alone
root_kept =
    put_kept (with_kept [] (meta_cell root) of_meta) (names_cell root) of_names
    (put_kept [] (meta_cell root) of_meta (record { entries = tt; rising = tt }) (omega arith, omega arith)
    (record { content = (omega arith, (tt, tt), tt); last = omega arith; dirty = omega arith; pending = nothing_is_kept.pending; five = refl }))
    (omega arith, omega arith)
    (record { content = (tt, tt); last = omega arith; dirty = omega arith; pending = nothing_is_kept.pending; five = refl })
  where
    of_meta : Kept
    of_meta = record nothing_kept { content = Some (Meta 493 [] None) }

    of_names : Kept
    of_names = record nothing_kept { content = Some (Names false []) }
