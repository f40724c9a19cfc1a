-- A cell is changed as often as a call lists it.
use Rattle.std.proofs.Common.{◌≡◌, ◌∙◌, ◌∷◌, ◌+◌, ℕ, zero, suc, Bool, true, false, List, [], refl, ap, sym, replicate}
use Rattle.std.specs.Prelude.{Option, Some, None, is_some, if◌then◌else◌}
use Rattle.std.specs.declared.cmp.Ordering.{Ordering}
use Rattle.std.specs.declared.cmp.Ordering.TheVariants.{Less, Equal, Greater}
use Rattle.std.specs.Ordering.{is_eq}
use Rattle.std.specs.Map.{lookup, set_value}
use Rattle.std.specs.BTreeMap.{is_at}
use Rattle.fop_types.specs.Orders.{cell_cmp}
use Rattle.fop_types.specs.declared.cells.Cell.{Cell}
use Rattle.fop_types.specs.declared.contents.Content.{Content}
use Rattle.fop_types.specs.declared.contents.Mask.{Mask}
use Rattle.fop_types.proofs.MapLemmas.{cell_exact}
use Rattle.cell_store.specs.declared.kept.Kept.{Kept}
use Rattle.cell_store.specs.Cells.{Cells, nothing_kept, kept_or_nothing, kept_at, with_kept, is_named, changed_from, mark_of, post_of, settle_of, clear_of, copied_in, changed_at, cleared}
use Rattle.cell_store.specs.CellLaws.{times_listed, repeated, CountsChangeTheListed, ReplaceChangesOne}
use Rattle.cell_store.proofs.Copies.{kept_same, kept_other}
use Rattle.cell_store.proofs.Entries.{lookup_set, set_missing}

equal_cells : (q c : Cell) → is_eq (cell_cmp q c) ≡ true → q ≡ c
equal_cells q c h = by_order (cell_cmp q c) refl h
  where
    by_order : (r : Ordering) → cell_cmp q c ≡ r → is_eq r ≡ true → q ≡ c
    by_order Less e t = absurd cc
    by_order Equal e t = cell_exact q c e
    by_order Greater e t = absurd cc

-- ---- a change of what is kept

listed_step : (change : Kept → Kept) (n : ℕ) (cells after : Cells) (c q : Cell)
    → kept_at after c ≡ change (kept_at cells c) → (is_eq (cell_cmp q c) ≡ false → kept_at after q ≡ kept_at cells q)
    → (b : Bool) → is_eq (cell_cmp q c) ≡ b → repeated change n (kept_at after q) ≡ repeated change (if b then suc n else n) (kept_at cells q)
listed_step change n cells after c q own other true h =
    ap (λ (x : Cell). repeated change n (kept_at after x)) (equal_cells q c h) ∙ ap (λ (k : Kept). repeated change n k) own
    ∙ ap (λ (x : Cell). repeated change n (change (kept_at cells x))) (sym (equal_cells q c h))
listed_step change n cells after c q own other false h = ap (λ (k : Kept). repeated change n k) (other h)

changed_listed : (change : Kept → Kept) (those : List Cell) (cells : Cells) (q : Cell) → kept_at (changed_at change those cells) q ≡ repeated change (times_listed q those) (kept_at cells q)
changed_listed change [] cells q = refl
changed_listed change (c ∷ cs) cells q =
    let after : Cells = with_kept cells c (change (kept_at cells c)) in
    changed_listed change cs after q
    ∙ listed_step change (times_listed q cs) cells after c q (kept_same cells c (change (kept_at cells c))) (kept_other cells c q (change (kept_at cells c))) (is_eq (cell_cmp q c)) refl

-- ---- a clear, which writes in place

set_other : (es : Cells) (c q : Cell) (w : Kept) → is_eq (cell_cmp q c) ≡ false → lookup (is_at (cell_cmp q)) (set_value (is_at (cell_cmp c)) es w) ≡ lookup (is_at (cell_cmp q)) es
set_other [] c q w other = refl
set_other (e ∷ es) c q w other = by_test (set_other es c q w other) (is_at (cell_cmp c) e.0) refl
  where
    by_test : lookup (is_at (cell_cmp q)) (set_value (is_at (cell_cmp c)) es w) ≡ lookup (is_at (cell_cmp q)) es
        → (b : Bool) → is_at (cell_cmp c) e.0 ≡ b → lookup (is_at (cell_cmp q)) (if b then (e.0, w) ∷ es else e ∷ set_value (is_at (cell_cmp c)) es w) ≡ lookup (is_at (cell_cmp q)) (e ∷ es)
    by_test rest true h = rw (ap (λ (x : Cell). is_eq (cell_cmp q x)) (sym (equal_cells c e.0 h)) ∙ other) refl
    by_test rest false h = ap (λ (o : Option Kept). if is_at (cell_cmp q) e.0 then Some e.1 else o) rest

zeros_stay : (mask : Mask) (replica n : ℕ) → changed_from (λ _. 0) mask replica (replicate n 0) ≡ replicate n 0
zeros_stay mask replica zero = refl
zeros_stay mask replica (suc n) = by_test (is_named mask replica) ∙ ap (λ (l : List ℕ). 0 ∷ l) (zeros_stay mask (replica + 1) n)
  where
    by_test : (b : Bool) → (if b then 0 else 0) ∷ changed_from (λ _. 0) mask (replica + 1) (replicate n 0) ≡ 0 ∷ changed_from (λ _. 0) mask (replica + 1) (replicate n 0)
    by_test true = refl
    by_test false = refl

clear_of_nothing : (mask : Mask) → clear_of mask nothing_kept ≡ nothing_kept
clear_of_nothing mask = ap (λ (l : List ℕ). record nothing_kept { pending = l }) (zeros_stay mask 0 5)

clear_own : (cells : Cells) (c : Cell) (mask : Mask) → kept_at (set_value (is_at (cell_cmp c)) cells (clear_of mask (kept_at cells c))) c ≡ clear_of mask (kept_at cells c)
clear_own cells c mask = by_case (lookup (is_at (cell_cmp c)) cells) refl
  where
    w : Kept
    w = clear_of mask (kept_at cells c)

    by_case : (o : Option Kept) → lookup (is_at (cell_cmp c)) cells ≡ o → kept_at (set_value (is_at (cell_cmp c)) cells w) c ≡ w
    by_case None h =
        ap (λ (l : Cells). kept_at l c) (set_missing (is_at (cell_cmp c)) cells w h) ∙ ap kept_or_nothing h
        ∙ sym (ap (λ (o : Option Kept). clear_of mask (kept_or_nothing o)) h ∙ clear_of_nothing mask)
    by_case (Some k) h = ap kept_or_nothing (lookup_set (is_at (cell_cmp c)) cells w (ap (λ (o : Option Kept). is_some o) h))

cleared_listed : (mask : Mask) (those : List Cell) (cells : Cells) (q : Cell) → kept_at (cleared those mask cells) q ≡ repeated (clear_of mask) (times_listed q those) (kept_at cells q)
cleared_listed mask [] cells q = refl
cleared_listed mask (c ∷ cs) cells q =
    let after : Cells = set_value (is_at (cell_cmp c)) cells (clear_of mask (kept_at cells c)) in
    cleared_listed mask cs after q
    ∙ listed_step (clear_of mask) (times_listed q cs) cells after c q (clear_own cells c mask)
    (λ other. ap kept_or_nothing (set_other cells c q (clear_of mask (kept_at cells c)) other)) (is_eq (cell_cmp q c)) refl

pub counts_change_listed : CountsChangeTheListed
counts_change_listed cells those mask cell = record {
  mark = changed_listed mark_of those cells cell;
  post = changed_listed (post_of mask) those cells cell;
  settle = changed_listed (settle_of mask) those cells cell;
  clear = cleared_listed mask those cells cell;
}

pub replace_changes_one : ReplaceChangesOne
replace_changes_one cells target content last cell = by_test (is_eq (cell_cmp cell target)) refl
  where
    new : Kept
    new = copied_in content last (kept_at cells target)

    by_test : (b : Bool) → is_eq (cell_cmp cell target) ≡ b → kept_at (with_kept cells target new) cell ≡ (if b then copied_in content last (kept_at cells cell) else kept_at cells cell)
    by_test true h =
        ap (λ (x : Cell). kept_at (with_kept cells target new) x) (equal_cells cell target h) ∙ kept_same cells target new
        ∙ ap (λ (x : Cell). copied_in content last (kept_at cells x)) (sym (equal_cells cell target h))
    by_test false h = kept_other cells target cell new h
