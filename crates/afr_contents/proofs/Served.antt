-- What one request makes of the copies in a store, good or not.
use Rattle.std.proofs.Common.{◌≡◌, ◌∙◌, ℕ, Bool, true, false, refl, sym, ap, subst, ◌⊎◌, inl, inr, Option, Some, None}
use Rattle.std.specs.Prelude.{if◌then◌else◌}
use Rattle.fop_types.specs.declared.cells.Cell.{Cell}
use Rattle.afr_machine.specs.Replicas.{Size, nobody}
use Rattle.afr_machine.specs.Touching.{is_cell, has_cell}
use Rattle.afr_machine.specs.Copies.{Copy, Kept, Store, Fetched, fetched_of, on_cells, mark_of, post_of, settle_of, clear_of}
use Rattle.afr_machine.specs.Requests.{Ask}
use Rattle.afr_machine.specs.Requests.Ask.{Mark, Op, Post, Replace, Clear, Settle}
use Rattle.afr_machine.specs.Bricks.{stored_by}
use Rattle.afr_machine.specs.States.{State}
use Rattle.afr_machine.specs.Steps.{IsReached}
use Rattle.afr_laws.specs.Copies.{Carries}
use Rattle.afr_laws.specs.OneBirth.{BearsAsBorn}
use Rattle.afr_laws.proofs.Bools.{or_right}
use Rattle.afr_laws.proofs.Sharing.{cells_are}
use Rattle.afr_soundness.proofs.Copied.Stores.{recopies, stored_keeps, stored_puts}
use Rattle.afr_contents.specs.Good.{IsGood}
use Rattle.afr_contents.specs.Lasting.{IsAccusedApart}
use Rattle.afr_contents.specs.Coming.{IsRightIn}
use Rattle.afr_contents.proofs.OpsGood.{op_leaves, op_makes}

-- ---- copies as they are fetched

copy_found : (copy : Option Copy) (held : Copy) (last : ℕ) → copy ≡ Some held → fetched_of copy last ≡ Some (record { copy = held; last = last })
copy_found copy held last is = ap (λ c. fetched_of c last) is

pub found_copy : (copy : Option Copy) (number : ℕ) (found : Fetched) → fetched_of copy number ≡ Some found → copy ≡ Some found.copy
found_copy None number found h = absurd (let no : None ≡ Some found = h in cc)
found_copy (Some held) number found h = unwrapped (record { copy = held; last = number }) found h where
  unwrapped : (a b : Fetched) → Some a ≡ Some b → Some a.copy ≡ Some b.copy
  unwrapped a b e = let same : a ≡ b = cc in ap (λ (f : Fetched). Some f.copy) same

-- a request that does not change the copy keeps it
pub stored_same : (store : Store) (cell : Cell) (ask : Ask) → recopies ask cell ≡ false → (held : Copy) → (store cell).copy ≡ Some held → (stored_by ask store cell).copy ≡ Some held
stored_same store cell ask none held is =
    found_copy (stored_by ask store cell).copy (stored_by ask store cell).last (record { copy = held; last = (store cell).last })
    (stored_keeps store cell (record { copy = held; last = (store cell).last }) ask none (copy_found (store cell).copy held (store cell).last is))

module _ (size : Size) (m : State) (r : IsReached size m) (store : Store) (cell : Cell) (good : IsGood m cell (store cell).copy) where
  on_same : (cells : _) (f : Kept → Kept) → ((kept : Kept) → (f kept).copy ≡ kept.copy) → IsGood m cell (on_cells cells f store cell).copy
  on_same cells f keeps = by_case (has_cell cells cell) where
    by_case : (b : Bool) → IsGood m cell (if b then f (store cell) else store cell).copy
    by_case true = subst (IsGood m cell) (sym (keeps (store cell))) good
    by_case false = good

  -- and leaves it good, also where it is born
  pub stored_good : (ask : Ask) → Carries m.changes ask → BearsAsBorn m.born ask → recopies ask cell ≡ false → IsGood m cell (stored_by ask store cell).copy
  stored_good (Mark u cells) carries born none = on_same cells mark_of (λ kept. refl)
  stored_good (Op u op) carries born none = op_leaves size m r store u op carries born cell none good
  stored_good (Post u cells accused) carries born none = on_same cells (post_of accused) (λ kept. refl)
  stored_good (Replace at found) carries born none =
      subst (λ b. IsGood m cell (if b then record (store cell) { copy = Some found.copy; last = found.last } else store cell).copy) (sym (sym (or_right (is_cell cell at)) ∙ none)) good
  stored_good (Clear cells who) carries born none = on_same cells (clear_of who) (λ kept. refl)
  stored_good (Settle u cells accused) carries born none = on_same cells (settle_of accused) (λ kept. refl)
  stored_good other carries born none = good

  -- one that changes it makes it good where what it brings is right
  pub stored_right : (i : ℕ) (ask : Ask) → Carries m.changes ask → BearsAsBorn m.born ask → recopies ask cell ≡ true → IsRightIn size m i store ask → IsGood m cell (stored_by ask store cell).copy ⊎ IsAccusedApart size m cell i nobody
  stored_right i (Op u op) carries born has (inl finds) = inl (op_makes size m r store u op carries born cell finds has good)
  stored_right i (Op u op) carries born has (inr accused) = inr (accused cell has)
  stored_right i (Replace at found) carries born has (inl right) =
      inl (subst (IsGood m cell) (sym (found_copy (stored_by (Replace at found) store cell).copy _ found (stored_puts store at cell found has)))
      (subst (λ c. IsGood m c (Some found.copy)) (sym (cells_are cell at (sym (or_right (is_cell cell at)) ∙ has))) right))
  stored_right i (Replace at found) carries born has (inr accused) = inr (subst (λ c. IsAccusedApart size m c i nobody) (sym (cells_are cell at (sym (or_right (is_cell cell at)) ∙ has))) accused)
  stored_right i other carries born has right = absurd (let no : false ≡ true = has in cc)
