-- Each reply to a lock, a fetch or an index has an encoding, where what is kept and what waits has one.
use Rattle.std.proofs.Common.{◌≡◌, ◌≤◌, ◌+◌, ◌-◌, ◌++◌, ◌∷◌, ℕ, suc, Bool, true, false, List, [], length, refl, ap, arith}
use Rattle.std.specs.Prelude.{Option, Some, None, IfSome, nat_le, is_some, if◌then◌else◌}
use Rattle.std.specs.Map.{lookup, remove_entry, keys_of}
use Rattle.std.specs.BTreeMap.{insert_entry, is_at}
use Rattle.std.specs.Ordering.{match_ordering}
use Rattle.std.specs.declared.cmp.Ordering.{Ordering}
use Rattle.std.specs.declared.cmp.Ordering.TheVariants.{Less, Equal, Greater}
use Rattle.std.proofs.lemmas.Bool.{leb-true}
use Rattle.fop_types.specs.Bounds.{Each, Follows, RisesFrom, IsUnit, IsHyper, IsCell, AreFew, IsRow, IsRep}
use Rattle.fop_types.specs.Limits.{max_list, max_index}
use Rattle.fop_types.specs.Orders.{cell_cmp}
use Rattle.fop_types.proofs.MapLemmas.{cell_cmp_total}
use Rattle.fop_types.specs.declared.cells.Cell.{Cell}
use Rattle.fop_types.specs.declared.contents.Content.{Content}
use Rattle.fop_types.specs.declared.contents.Content.TheVariants.{Bytes, Meta, Names}
use Rattle.fop_types.specs.declared.messages.BrickRep.{BrickRep}
use Rattle.wire_xdr.specs.WireText.{IsOutKind}
use Rattle.brick_locks.specs.declared.owner.Owner.{Owner}
use Rattle.cell_store.specs.declared.kept.Kept.{Kept}
use Rattle.cell_store.specs.Cells.{Cells, kept_at, copy_with, row_of, present_in}
use Rattle.brick_machine.specs.Encoded.{IsStoredIfThere, IsKept, IsEntry, AreKept}
use Rattle.brick_machine.specs.Waiting.{Waiting, owner_cmp, waiter_of, without_waiter, with_waiter}
use Rattle.brick_machine.specs.Locking.{rows_of, granted, to_waiter, answered, left_waiting}
use Rattle.brick_machine.specs.Serving.{fetched, indexed, change_answer}
use Rattle.brick_machine.specs.declared.waiters.Waiter.{Waiter}
use Rattle.brick_machine.proofs.Kept.{kept_there}

abbrev pub IsWaiter : Owner × Waiter → Type 0
IsWaiter e = IsHyper e.1.wind × AreFew e.1.cells

-- ---- lists

pub each_both : {A : Type 0} (P : A → Type 0) (xs ys : List A) → Each P xs → Each P ys → Each P (xs ++ ys)
each_both P [] ys ps qs = qs
each_both P (x ∷ xs) ys ps qs = (ps.0, each_both P xs ys ps.1 qs)

found_waiter : (owner : Owner) (ws : Waiting) → Each IsWaiter ws → IfSome (waiter_of ws owner) (λ w. IsHyper w.wind × AreFew w.cells)
found_waiter owner [] all = tt
found_waiter owner (e ∷ es) all = by_test (found_waiter owner es all.1) (is_at (owner_cmp owner) e.0)
  where
    by_test : IfSome (waiter_of es owner) (λ w. IsHyper w.wind × AreFew w.cells) → (b : Bool) → IfSome (if b then Some e.1 else lookup (is_at (owner_cmp owner)) es) (λ w. IsHyper w.wind × AreFew w.cells)
    by_test rest true = all.0
    by_test rest false = rest

without_legal : (owner : Owner) (ws : Waiting) → Each IsWaiter ws → Each IsWaiter (without_waiter ws owner)
without_legal owner [] all = tt
without_legal owner (e ∷ es) all = by_test (without_legal owner es all.1) (is_at (owner_cmp owner) e.0)
  where
    by_test : Each IsWaiter (without_waiter es owner) → (b : Bool) → Each IsWaiter (if b then es else e ∷ remove_entry (is_at (owner_cmp owner)) es)
    by_test rest true = all.1
    by_test rest false = (all.0, rest)

pub with_legal : (owner : Owner) (w : Waiter) (ws : Waiting) → Each IsWaiter ws → IsHyper w.wind × AreFew w.cells → Each IsWaiter (with_waiter ws owner w)
with_legal owner w [] all one = (one, tt)
with_legal owner w (e ∷ es) all one = by_order (with_legal owner w es all.1 one) (owner_cmp owner e.0)
  where
    by_order : Each IsWaiter (with_waiter es owner w) → (r : Ordering) → Each IsWaiter (match_ordering r ((owner, w) ∷ e ∷ es) ((e.0, w) ∷ es) (e ∷ insert_entry owner_cmp es owner w))
    by_order rest Less = (one, all)
    by_order rest Equal = (one, all.1)
    by_order rest Greater = (all.0, rest)

pub left_legal : (those : List Owner) (ws : Waiting) → Each IsWaiter ws → Each IsWaiter (left_waiting ws those)
left_legal [] ws all = all
left_legal (o ∷ os) ws all = left_legal os (without_waiter ws o) (without_legal o ws all)

-- ---- answers

counts_are_units : (ns : List ℕ) → Each (λ n. n ≤ 2147483647) ns → Each IsUnit ns
counts_are_units [] all = tt
counts_are_units (n ∷ ns) all = (omega (arith, all.0), counts_are_units ns all.1)

row_legal : (k : Kept) → IsKept k → IsRow (row_of k)
row_legal k one = (omega (arith, one.dirty), one.five, counts_are_units k.pending one.pending, one.last)

rows_legal : (cells : Cells) (those : List Cell) → AreKept cells → Each IsRow (rows_of cells those)
rows_legal cells [] all = tt
rows_legal cells (c ∷ cs) all = (row_legal (kept_at cells c) (kept_there cells c all), rows_legal cells cs all)

rows_long : (cells : Cells) (those : List Cell) → length (rows_of cells those) ≡ length those
rows_long cells [] = refl
rows_long cells (c ∷ cs) = ap suc (rows_long cells cs)

pub grant_legal : (cells : Cells) (those : List Cell) → AreKept cells → AreFew those → IsRep true (granted cells those)
grant_legal cells those all few = (omega (arith, rows_long cells those, few.1), rows_legal cells those all)

to_legal : (rep : Waiter → BrickRep) → ((w : Waiter) → AreFew w.cells → IsRep true (rep w)) → (o : Option Waiter) → IfSome o (λ w. IsHyper w.wind × AreFew w.cells) → Each (IsOutKind true) (to_waiter rep o)
to_legal rep fine None one = tt
to_legal rep fine (Some w) one = ((one.0, fine w one.1), tt)

pub answered_legal : (rep : Waiter → BrickRep) → ((w : Waiter) → AreFew w.cells → IsRep true (rep w)) → (those : List Owner) (ws : Waiting) → Each IsWaiter ws → Each (IsOutKind true) (answered rep ws those)
answered_legal rep fine [] ws all = tt
answered_legal rep fine (o ∷ os) ws all =
    each_both (IsOutKind true) (to_waiter rep (waiter_of ws o)) (answered rep (without_waiter ws o) os) (to_legal rep fine (waiter_of ws o) (found_waiter o ws all))
    (answered_legal rep fine os (without_waiter ws o) (without_legal o ws all))

pub fetched_legal : (o : Option Content) (last : ℕ) → IsStoredIfThere o → IsHyper last → IsRep true (fetched (copy_with o last))
fetched_legal None last stored fits = tt
fetched_legal (Some (Bytes bytes)) last stored fits = (stored, fits)
fetched_legal (Some (Meta mode attrs span)) last stored fits = by_test (nat_le (length attrs) max_list) refl
  where
    by_test : (b : Bool) → nat_le (length attrs) max_list ≡ b → IsRep true (fetched (Some (Meta mode attrs span, last)))
    by_test true e = rw e ((stored.0, (leb-true (length attrs) max_list e, stored.1.0, stored.1.1), stored.2), fits)
    by_test false e = rw e tt
fetched_legal (Some (Names removed items)) last stored fits = by_test (nat_le (length items) max_list) refl
  where
    by_test : (b : Bool) → nat_le (length items) max_list ≡ b → IsRep true (fetched (Some (Names removed items, last)))
    by_test true e = rw e ((leb-true (length items) max_list e, stored.0, stored.1), fits)
    by_test false e = rw e tt

present_each : (es : Cells) → Each IsEntry es → Each IsCell (present_in es)
present_each [] all = tt
present_each (e ∷ es) all = by_test (present_each es all.1) (is_some e.1.content)
  where
    by_test : Each IsCell (present_in es) → (b : Bool) → Each IsCell (if b then e.0 ∷ present_in es else present_in es)
    by_test rest true = (all.0.0, rest)
    by_test rest false = rest

follows_on : (earlier : Option Cell) (a b : Cell) → Follows cell_cmp true earlier a → cell_cmp a b ≡ Less → Follows cell_cmp true earlier b
follows_on None a b follows less = tt
follows_on (Some e) a b follows less = cell_cmp_total.trans e a b follows less

skip : (earlier : Option Cell) (c : Cell) (cs : List Cell) → Follows cell_cmp true earlier c → RisesFrom cell_cmp true (Some c) cs → RisesFrom cell_cmp true earlier cs
skip earlier c [] follows rises = tt
skip earlier c (d ∷ cs) follows rises = (follows_on earlier c d follows rises.0, rises.1)

present_rises : (earlier : Option Cell) (es : Cells) → RisesFrom cell_cmp true earlier (keys_of es) → RisesFrom cell_cmp true earlier (present_in es)
present_rises earlier [] rises = tt
present_rises earlier (e ∷ es) rises =
    by_test (present_rises (Some e.0) es rises.1) (present_rises earlier es (skip earlier e.0 (keys_of es) rises.0 rises.1)) (is_some e.1.content)
  where
    by_test : RisesFrom cell_cmp true (Some e.0) (present_in es) → RisesFrom cell_cmp true earlier (present_in es) → (b : Bool) → RisesFrom cell_cmp true earlier (if b then e.0 ∷ present_in es else present_in es)
    by_test rest others true = (rises.0, rest)
    by_test rest others false = others

pub indexed_legal : (cells : Cells) → AreKept cells → IsRep true (indexed (present_in cells))
indexed_legal cells all = by_test (nat_le (length (present_in cells)) max_index) refl
  where
    by_test : (b : Bool) → nat_le (length (present_in cells)) max_index ≡ b → IsRep true (indexed (present_in cells))
    by_test true e = rw e ((omega arith, leb-true (length (present_in cells)) max_index e, present_each cells all.entries, present_rises None cells all.rising))
    by_test false e = rw e tt

pub change_legal : (fits : Bool) → IsRep true (change_answer fits)
change_legal true = tt
change_legal false = tt
