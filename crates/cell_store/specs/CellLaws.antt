-- What marks, posts, settles, clears and replaces make of each cell. A cell is changed as often as the call lists it;
-- so one that it does not list stays as it is, and one that it lists once is changed once.
use Rattle.std.specs.Prelude.{◌≡◌, ℕ, zero, suc, List, [], ◌∷◌, if◌then◌else◌}
use Rattle.std.specs.Ordering.{is_eq}
use Rattle.fop_types.specs.Orders.{cell_cmp}
use Rattle.fop_types.specs.declared.cells.Cell.{Cell}
use Rattle.fop_types.specs.declared.contents.Content.{Content}
use Rattle.fop_types.specs.declared.contents.Mask.{Mask}
use Rattle.cell_store.specs.declared.kept.Kept.{Kept}
use Rattle.cell_store.specs.Cells.{Cells, kept_at, mark_of, post_of, settle_of, clear_of, copied_in, marked, posted, settled, cleared, replaced}

abbrev pub times_listed : Cell → List Cell → ℕ
times_listed cell [] = 0
times_listed cell (c ∷ cs) = if is_eq (cell_cmp cell c) then suc (times_listed cell cs) else times_listed cell cs

abbrev pub repeated : (Kept → Kept) → ℕ → Kept → Kept
repeated change zero kept = kept
repeated change (suc n) kept = repeated change n (change kept)

pub record AreCounted (cells : Cells) (those : List Cell) (mask : Mask) (cell : Cell) : Type 0 where
  pub mark : kept_at (marked those cells) cell ≡ repeated mark_of (times_listed cell those) (kept_at cells cell)
  pub post : kept_at (posted those mask cells) cell ≡ repeated (post_of mask) (times_listed cell those) (kept_at cells cell)
  pub settle : kept_at (settled those mask cells) cell ≡ repeated (settle_of mask) (times_listed cell those) (kept_at cells cell)
  pub clear : kept_at (cleared those mask cells) cell ≡ repeated (clear_of mask) (times_listed cell those) (kept_at cells cell)

abbrev pub CountsChangeTheListed : Type 0
CountsChangeTheListed = (cells : Cells) (those : List Cell) (mask : Mask) (cell : Cell) → AreCounted cells those mask cell

abbrev pub ReplaceChangesOne : Type 0
ReplaceChangesOne =
    (cells : Cells) (target : Cell) (content : Content) (last : ℕ) (cell : Cell)
    → kept_at (replaced cells target content last) cell ≡ (if is_eq (cell_cmp cell target) then copied_in content last (kept_at cells cell) else kept_at cells cell)
