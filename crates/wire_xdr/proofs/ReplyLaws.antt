-- Replies and outputs are read exactly, by their statuses and kinds.
use Rattle.std.proofs.Common.{◌≡◌, ◌≢◌, ◌<◌, ◌≤◌, ◌∷◌, ◌∙◌, ◌++◌, ◌+◌, ◌-◌, ◌*◌, ◌^◌, ℕ, suc, zero, Bool, true, false, not, ◌&&◌, ◌==◌, sym, refl, ap, ap₂, subst, List, [], length, arith, append_assoc, append-nil, Option, Some, None, if◌then◌else◌}
use Rattle.fop_types.specs.Rank.{rank}
use Rattle.fop_types.specs.declared.cells.Gfid.{Gfid}
use Rattle.fop_types.specs.declared.cells.Aspect.{Aspect}
use Rattle.fop_types.specs.declared.cells.Aspect.TheVariants.{Data, Meta, Entry}
use Rattle.fop_types.specs.declared.cells.Cell.{Cell}
use Rattle.fop_types.specs.declared.contents.Mask.{Mask}
use Rattle.fop_types.specs.declared.contents.Row.{Row}
use Rattle.fop_types.specs.declared.contents.Content.{Content}
use Rattle.fop_types.specs.declared.contents.Content.TheVariants as content
use Rattle.fop_types.specs.declared.store_ops.StoreOp.{StoreOp}
use Rattle.fop_types.specs.declared.store_ops.StoreOp.TheVariants as op
use Rattle.fop_types.specs.declared.messages.BrickReq.{BrickReq}
use Rattle.fop_types.specs.declared.messages.BrickReq.TheVariants as req
use Rattle.fop_types.specs.declared.messages.DoneArm.{DoneArm}
use Rattle.fop_types.specs.declared.messages.DoneArm.TheVariants as arm
use Rattle.fop_types.specs.declared.messages.BrickRep.{BrickRep}
use Rattle.fop_types.specs.declared.messages.BrickRep.TheVariants as rep
use Rattle.fop_types.specs.declared.messages.Proc.{Proc}
use Rattle.fop_types.specs.declared.messages.Proc.TheVariants as proc
use Rattle.fop_types.specs.declared.messages.Input.{Input}
use Rattle.fop_types.specs.declared.messages.Input.TheVariants as input
use Rattle.fop_types.specs.declared.messages.OutKind.{OutKind}
use Rattle.fop_types.specs.declared.messages.OutKind.TheVariants as out
use Rattle.fop_types.specs.declared.messages.Output.{Output}
use Rattle.wire_xdr.specs.Xdr.{unit, hyper, opaque, list, texts, IsUnit, IsHyper}
use Rattle.wire_xdr.specs.Order.{Each}
use Rattle.wire_xdr.specs.PartText.{cell_text, AreCells, content_kind, content_arm, content_text, IsContent, AreAttrs, AreItems}
use Rattle.wire_xdr.specs.MessageText.{op_number, op_arm, op_text, IsOp, req_number, mask_text, req_arm, req_text, AreFew, IsMask, IsOpenFd, IsReq, row_text, IsRow, done_number, done_arm, done_text, IsDoneArm, rep_number, rep_arm, rep_text, IsRep}
use Rattle.wire_xdr.specs.WireText.{proc_number, input_kind, input_arm, input_text, IsInputOf, out_number, out_arm, out_text, IsOutKind, output_text, IsOutputOf}
use Rattle.wire_xdr.specs.Limits.{is_between}
use Rattle.wire_xdr.specs.code.Parsers.{Parser, chain, any_byte, unit_where, between_at, bytes_at, list_at, items_at}
use Rattle.wire_xdr.specs.code.PartParsers.{cells_at, content_arm_at, content_at}
use Rattle.wire_xdr.specs.code.MessageParsers.{op_arm_at, op_at, few_at, mask_of, mask_at, open_fd_at, req_arm_at, req_at, proc_of, is_failing, proc_at, input_arm_at, input_at, row_of, counter_at, one_row_at, row_at, done_arm_at, done_at, rep_arm_at, rep_at, out_arm_at, output_of, output_at}
use Rattle.wire_xdr.proofs.UnitParsers.{between_true, between_holds}
use Rattle.wire_xdr.proofs.Laws.{IsLaw, weaker}
use Rattle.wire_xdr.proofs.QuadLaws.{Says, IsBetween, IsTested, between_law, unit_law, relegal, and_true}
use Rattle.wire_xdr.proofs.FieldLaws.{Made1, Made2, Made3, Made4, one_law, two_law, three_law, four_law, Keyed, keyed_law, IsValue, value_law, Items, total, items_law, list_law}
use Rattle.wire_xdr.proofs.StringLaws.{bytes_law}
use Rattle.wire_xdr.proofs.CellLaws.{rank_bound}
use Rattle.wire_xdr.proofs.HyperLaws.{gfid_law, any_unit_law, any_hyper_law}
use Rattle.wire_xdr.proofs.CellLists.{cells_law, any_cell_law}
use Rattle.wire_xdr.proofs.PartLaws.{any_all, none_above, flag_law, mode_law, span_law, retext, union_law, OfUnit, OfHyper, OfGfid, OfCell, OfFlag, OfMode, OfSpan, OfOneAttr, attr_law, OfAttrName, attr_name_law, attrs_law, OfOneItem, item_law, OfItemName, item_name_law, items_of_directory_law}
use Rattle.wire_xdr.proofs.ContentLaws.{any_content_law}
use Rattle.wire_xdr.proofs.RequestLaws.{OfIndex, index_law}

-- rows
abbrev pub OfCounters : Bool → List ℕ → Type 0
OfCounters o xs = (length xs ≡ 5) × Each IsUnit xs

each_unit : (n : ℕ) (e : Option ℕ) (o : Bool) (xs : List ℕ) → Items (λ _ _. OfUnit) e n o xs → (length xs ≡ n) × Each IsUnit xs
each_unit zero e o xs h = subst (λ (l : List ℕ). (length l ≡ 0) × Each IsUnit l) (sym h.made) (refl, tt)
each_unit (suc n) e o xs h = let r = each_unit n (Some h.a) o h.b h.said_b in subst (λ (l : List ℕ). (length l ≡ suc n) × Each IsUnit l) (sym h.made) (ap suc r.0, (h.said_a, r.1))

unit_each : (n : ℕ) (e : Option ℕ) (o : Bool) (xs : List ℕ) → length xs ≡ n → Each IsUnit xs → Items (λ _ _. OfUnit) e n o xs
unit_each zero e o [] size each = record { made = refl }
unit_each zero e o (x ∷ xs) size each = absurd (omega (arith, size))
unit_each (suc n) e o [] size each = absurd (omega (arith, size))
unit_each (suc n) e o (x ∷ xs) size each = record { a = x; b = xs; said_a = each.0; said_b = unit_each n (Some x) o xs (omega (arith, size)) each.1; made = refl }

pub counters_law : IsLaw 20 (Says OfCounters (texts unit)) (items_at counter_at None 5)
counters_law = relegal (λ o xs h. each_unit 5 None o xs h) (λ o xs h. unit_each 5 None o xs h.0 h.1)
    (items_law counter_at (λ _ _. OfUnit) unit (λ e n. Unit {0}) (λ e n r. any_unit_law) (λ e n x r h. tt) 5 None tt)

abbrev pub OfRow : Bool → Row → Type 0
OfRow o r = IsRow r

pub row_law : IsLaw 36 (Says OfRow row_text) one_row_at
row_law = relegal into from (four_law row_of row_text (λ a b c d. refl) flag_law (λ a x. any_unit_law) (λ a b x y. counters_law) (λ a b c x y z. any_hyper_law))
  where
    into : (o : Bool) (r : Row) → Made4 OfFlag (λ _. OfUnit) (λ _ _. OfCounters) (λ _ _ _. OfHyper) row_of o r → IsRow r
    into o r h = subst IsRow (sym h.made) (h.said_b, h.said_c.0, h.said_c.1, h.said_e)

    from : (o : Bool) (r : Row) → IsRow r → Made4 OfFlag (λ _. OfUnit) (λ _ _. OfCounters) (λ _ _ _. OfHyper) row_of o r
    from o r h = record { a = r.present; b = r.dirty; c = r.pending; e = r.last; said_a = tt; said_b = h.0; said_c = (h.1, h.2); said_e = h.3; made = refl }

each_row : (n : ℕ) (e : Option Row) (o : Bool) (xs : List Row) → Items (λ _ _. OfRow) e n o xs → (length xs ≡ n) × Each IsRow xs
each_row zero e o xs h = subst (λ (l : List Row). (length l ≡ 0) × Each IsRow l) (sym h.made) (refl, tt)
each_row (suc n) e o xs h = let r = each_row n (Some h.a) o h.b h.said_b in subst (λ (l : List Row). (length l ≡ suc n) × Each IsRow l) (sym h.made) (ap suc r.0, (h.said_a, r.1))

row_each : (n : ℕ) (e : Option Row) (o : Bool) (xs : List Row) → length xs ≡ n → Each IsRow xs → Items (λ _ _. OfRow) e n o xs
row_each zero e o [] size each = record { made = refl }
row_each zero e o (x ∷ xs) size each = absurd (omega (arith, size))
row_each (suc n) e o [] size each = absurd (omega (arith, size))
row_each (suc n) e o (x ∷ xs) size each = record { a = x; b = xs; said_a = each.0; said_b = row_each n (Some x) o xs (omega (arith, size)) each.1; made = refl }

total_rows : (k : ℕ) → total 36 k ≡ 36 * k
total_rows zero = refl
total_rows (suc k) = omega (arith, total_rows k)

abbrev pub OfRows : Bool → List Row → Type 0
OfRows o rows = (length rows ≤ 65536) × Each IsRow rows

pub rows_law : IsLaw 2359300 (Says OfRows (list row_text)) (list_at row_at 0 65536)
rows_law = relegal into from (list_law row_at (λ _ _. OfRow) row_text (λ e n. Unit {0}) (λ e n r. row_law) (λ e n x r h. tt) 0 65536 2359296 (omega arith) (omega arith) (λ k h. omega (arith, h, total_rows k)) (λ k h. tt))
  where
    into : (o : Bool) (xs : List Row) → Keyed (IsBetween 0 65536) (Items (λ _ _. OfRow) None) o xs → OfRows o xs
    into o xs h = let r = each_row h.number None o xs h.arm in (subst (λ (n : ℕ). n ≤ 65536) (sym r.0) h.named.high, r.1)

    from : (o : Bool) (xs : List Row) → OfRows o xs → Keyed (IsBetween 0 65536) (Items (λ _ _. OfRow) None) o xs
    from o xs h = record { number = length xs; named = record { low = omega arith; high = h.0 }; arm = row_each (length xs) None o xs refl h.1 }

abbrev pub DoneArms : ℕ → Bool → DoneArm → Type 0
DoneArms zero o y = IsValue arm.Nothing o y
DoneArms (suc zero) o y = Made1 OfRows arm.Rows o y
DoneArms (suc (suc zero)) o y = Made2 IsContent (λ _. OfHyper) arm.Content o y
DoneArms (suc (suc (suc zero))) o y = Made1 OfIndex arm.Cells o y
DoneArms (suc (suc (suc (suc k)))) o y = ⊥

pub done_arm_law : IsLaw 400000004 (Says IsDoneArm done_text) done_at
done_arm_law = union_law 0 3 done_number done_arm DoneArms IsDoneArm (omega arith) (omega arith) keys into back ends arms
  where
    keys : (k : ℕ) (o : Bool) (y : DoneArm) → DoneArms k o y → done_number y ≡ k
    keys zero o y h = ap done_number h.made
    keys (suc zero) o y h = ap done_number h.made
    keys (suc (suc zero)) o y h = ap done_number h.made
    keys (suc (suc (suc zero))) o y h = ap done_number h.made
    keys (suc (suc (suc (suc k)))) o y h = absurd h

    into : (k : ℕ) (o : Bool) (y : DoneArm) → 0 ≤ k → k ≤ 3 → DoneArms k o y → IsDoneArm o y
    into zero o y l m h = subst (IsDoneArm o) (sym h.made) tt
    into (suc zero) o y l m h = subst (IsDoneArm o) (sym h.made) h.said_a
    into (suc (suc zero)) o y l m h = subst (IsDoneArm o) (sym h.made) (h.said_a, h.said_b)
    into (suc (suc (suc zero))) o y l m h = subst (IsDoneArm o) (sym h.made) h.said_a
    into (suc (suc (suc (suc k)))) o y l m h = absurd h

    back : (o : Bool) (y : DoneArm) → IsDoneArm o y → DoneArms (done_number y) o y
    back o arm.Nothing h = record { made = refl }
    back o (arm.Rows rows) h = record { a = rows; said_a = h; made = refl }
    back o (arm.Content content last) h = record { a = content; b = last; said_a = h.0; said_b = h.1; made = refl }
    back o (arm.Cells cells) h = record { a = cells; said_a = h; made = refl }

    ends : (o : Bool) (y : DoneArm) → IsDoneArm o y → (0 ≤ done_number y) × (done_number y ≤ 3)
    ends o arm.Nothing h = (omega arith, omega arith)
    ends o (arm.Rows rows) h = (omega arith, omega arith)
    ends o (arm.Content content last) h = (omega arith, omega arith)
    ends o (arm.Cells cells) h = (omega arith, omega arith)

    arms : (k : ℕ) → 0 ≤ k → k ≤ 3 → IsLaw 400000000 (Says (DoneArms k) done_arm) (done_arm_at k)
    arms zero l m = weaker 0 400000000 (omega arith) (value_law arm.Nothing done_arm refl)
    arms (suc zero) l m = weaker 2359300 400000000 (omega arith) (one_law arm.Rows done_arm (λ o a x. refl) rows_law)
    arms (suc (suc zero)) l m = weaker 300000012 400000000 (omega arith) (two_law arm.Content done_arm (λ o a b x y. refl) any_content_law (λ a x. any_hyper_law))
    arms (suc (suc (suc zero))) l m = weaker 20971524 400000000 (omega arith) (one_law arm.Cells done_arm (λ o a x. refl) index_law)
    arms (suc (suc (suc (suc k)))) l m = absurd (omega (arith, m))

abbrev pub RepArm : ℕ → Bool → BrickRep → Type 0
RepArm zero o y = Made1 IsDoneArm rep.Done o y
RepArm (suc zero) o y = IsValue rep.Gone o y
RepArm (suc (suc zero)) o y = IsValue rep.Fault o y
RepArm (suc (suc (suc zero))) o y = IsValue rep.Unfit o y
RepArm (suc (suc (suc (suc zero)))) o y = IsValue rep.BadFd o y
RepArm (suc (suc (suc (suc (suc k))))) o y = ⊥

pub rep_law : IsLaw 500000004 (Says IsRep rep_text) rep_at
rep_law = union_law 0 4 rep_number rep_arm RepArm IsRep (omega arith) (omega arith) keys into back ends arms
  where
    keys : (k : ℕ) (o : Bool) (y : BrickRep) → RepArm k o y → rep_number y ≡ k
    keys zero o y h = ap rep_number h.made
    keys (suc zero) o y h = ap rep_number h.made
    keys (suc (suc zero)) o y h = ap rep_number h.made
    keys (suc (suc (suc zero))) o y h = ap rep_number h.made
    keys (suc (suc (suc (suc zero)))) o y h = ap rep_number h.made
    keys (suc (suc (suc (suc (suc k))))) o y h = absurd h

    into : (k : ℕ) (o : Bool) (y : BrickRep) → 0 ≤ k → k ≤ 4 → RepArm k o y → IsRep o y
    into zero o y l m h = subst (IsRep o) (sym h.made) h.said_a
    into (suc zero) o y l m h = subst (IsRep o) (sym h.made) tt
    into (suc (suc zero)) o y l m h = subst (IsRep o) (sym h.made) tt
    into (suc (suc (suc zero))) o y l m h = subst (IsRep o) (sym h.made) tt
    into (suc (suc (suc (suc zero)))) o y l m h = subst (IsRep o) (sym h.made) tt
    into (suc (suc (suc (suc (suc k))))) o y l m h = absurd h

    back : (o : Bool) (y : BrickRep) → IsRep o y → RepArm (rep_number y) o y
    back o (rep.Done arm) h = record { a = arm; said_a = h; made = refl }
    back o rep.Gone h = record { made = refl }
    back o rep.Fault h = record { made = refl }
    back o rep.Unfit h = record { made = refl }
    back o rep.BadFd h = record { made = refl }

    ends : (o : Bool) (y : BrickRep) → IsRep o y → (0 ≤ rep_number y) × (rep_number y ≤ 4)
    ends o (rep.Done arm) h = (omega arith, omega arith)
    ends o rep.Gone h = (omega arith, omega arith)
    ends o rep.Fault h = (omega arith, omega arith)
    ends o rep.Unfit h = (omega arith, omega arith)
    ends o rep.BadFd h = (omega arith, omega arith)

    arms : (k : ℕ) → 0 ≤ k → k ≤ 4 → IsLaw 500000000 (Says (RepArm k) rep_arm) (rep_arm_at k)
    arms zero l m = weaker 400000004 500000000 (omega arith) (one_law rep.Done rep_arm (λ o a x. refl) done_arm_law)
    arms (suc zero) l m = weaker 0 500000000 (omega arith) (value_law rep.Gone rep_arm refl)
    arms (suc (suc zero)) l m = weaker 0 500000000 (omega arith) (value_law rep.Fault rep_arm refl)
    arms (suc (suc (suc zero))) l m = weaker 0 500000000 (omega arith) (value_law rep.Unfit rep_arm refl)
    arms (suc (suc (suc (suc zero)))) l m = weaker 0 500000000 (omega arith) (value_law rep.BadFd rep_arm refl)
    arms (suc (suc (suc (suc (suc k))))) l m = absurd (omega (arith, m))

abbrev pub OutArm : ℕ → Bool → OutKind → Type 0
OutArm zero o y = Made2 OfHyper (λ _. IsRep) out.Reply o y
OutArm (suc zero) o y = IsValue out.Closed o y
OutArm (suc (suc zero)) o y = IsValue out.Opened o y
OutArm (suc (suc (suc zero))) o y = Made2 OfUnit (λ _. OfUnit) out.Connected o y
OutArm (suc (suc (suc (suc zero)))) o y = Made1 OfUnit out.Malformed o y
OutArm (suc (suc (suc (suc (suc k))))) o y = ⊥

pub out_law : IsLaw 600000004 (Says IsOutKind out_text) (chain (between_at 0 4) out_arm_at)
out_law = union_law 0 4 out_number out_arm OutArm IsOutKind (omega arith) (omega arith) keys into back ends arms
  where
    keys : (k : ℕ) (o : Bool) (y : OutKind) → OutArm k o y → out_number y ≡ k
    keys zero o y h = ap out_number h.made
    keys (suc zero) o y h = ap out_number h.made
    keys (suc (suc zero)) o y h = ap out_number h.made
    keys (suc (suc (suc zero))) o y h = ap out_number h.made
    keys (suc (suc (suc (suc zero)))) o y h = ap out_number h.made
    keys (suc (suc (suc (suc (suc k))))) o y h = absurd h

    into : (k : ℕ) (o : Bool) (y : OutKind) → 0 ≤ k → k ≤ 4 → OutArm k o y → IsOutKind o y
    into zero o y l m h = subst (IsOutKind o) (sym h.made) (h.said_a, h.said_b)
    into (suc zero) o y l m h = subst (IsOutKind o) (sym h.made) tt
    into (suc (suc zero)) o y l m h = subst (IsOutKind o) (sym h.made) tt
    into (suc (suc (suc zero))) o y l m h = subst (IsOutKind o) (sym h.made) (h.said_a, h.said_b)
    into (suc (suc (suc (suc zero)))) o y l m h = subst (IsOutKind o) (sym h.made) h.said_a
    into (suc (suc (suc (suc (suc k))))) o y l m h = absurd h

    back : (o : Bool) (y : OutKind) → IsOutKind o y → OutArm (out_number y) o y
    back o (out.Reply wind rep) h = record { a = wind; b = rep; said_a = h.0; said_b = h.1; made = refl }
    back o out.Closed h = record { made = refl }
    back o out.Opened h = record { made = refl }
    back o (out.Connected graph version) h = record { a = graph; b = version; said_a = h.0; said_b = h.1; made = refl }
    back o (out.Malformed place) h = record { a = place; said_a = h; made = refl }

    ends : (o : Bool) (y : OutKind) → IsOutKind o y → (0 ≤ out_number y) × (out_number y ≤ 4)
    ends o (out.Reply wind rep) h = (omega arith, omega arith)
    ends o out.Closed h = (omega arith, omega arith)
    ends o out.Opened h = (omega arith, omega arith)
    ends o (out.Connected graph version) h = (omega arith, omega arith)
    ends o (out.Malformed place) h = (omega arith, omega arith)

    arms : (k : ℕ) → 0 ≤ k → k ≤ 4 → IsLaw 600000000 (Says (OutArm k) out_arm) (out_arm_at k)
    arms zero l m = weaker 500000012 600000000 (omega arith) (two_law out.Reply out_arm (λ o a b x y. refl) any_hyper_law (λ a x. rep_law))
    arms (suc zero) l m = weaker 0 600000000 (omega arith) (value_law out.Closed out_arm refl)
    arms (suc (suc zero)) l m = weaker 0 600000000 (omega arith) (value_law out.Opened out_arm refl)
    arms (suc (suc (suc zero))) l m = weaker 8 600000000 (omega arith) (two_law out.Connected out_arm (λ o a b x y. refl) any_unit_law (λ a x. any_unit_law))
    arms (suc (suc (suc (suc zero)))) l m = weaker 4 600000000 (omega arith) (one_law out.Malformed out_arm (λ o a x. refl) any_unit_law)
    arms (suc (suc (suc (suc (suc k))))) l m = absurd (omega (arith, m))

pub output_law : IsLaw 600000012 (Says IsOutputOf output_text) output_at
output_law = relegal into from (two_law output_of output_text (λ o a b x y. refl) any_hyper_law (λ a x. out_law))
  where
    into : (o : Bool) (x : Output) → Made2 OfHyper (λ _. IsOutKind) output_of o x → IsOutputOf o x
    into o x h = subst (IsOutputOf o) (sym h.made) (h.said_a, h.said_b)

    from : (o : Bool) (x : Output) → IsOutputOf o x → Made2 OfHyper (λ _. IsOutKind) output_of o x
    from o x h = record { a = x.taken; b = x.kind; said_a = h.0; said_b = h.1; made = refl }
