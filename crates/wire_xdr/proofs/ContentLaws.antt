-- Contents are read exactly: each is a union by its kind.
use Rattle.std.proofs.Common.{◌≡◌, ◌≢◌, ◌<◌, ◌≤◌, ◌∷◌, ◌∙◌, ◌++◌, ◌+◌, ◌-◌, ◌*◌, ◌^◌, ℕ, suc, zero, Bool, true, false, not, ◌&&◌, ◌==◌, sym, refl, ap, ap₂, subst, List, [], length, arith, append_assoc, append-nil, Option, Some, None, if◌then◌else◌}
use Rattle.fop_types.specs.Rank.{rank}
use Rattle.fop_types.specs.declared.cells.Gfid.{Gfid}
use Rattle.fop_types.specs.declared.cells.Aspect.{Aspect}
use Rattle.fop_types.specs.declared.cells.Aspect.TheVariants.{Data, Meta, Entry}
use Rattle.fop_types.specs.declared.cells.Cell.{Cell}
use Rattle.fop_types.specs.declared.contents.Mask.{Mask}
use Rattle.fop_types.specs.declared.contents.Row.{Row}
use Rattle.fop_types.specs.declared.contents.Content.{Content}
use Rattle.fop_types.specs.declared.contents.Content.TheVariants as content
use Rattle.fop_types.specs.declared.store_ops.StoreOp.{StoreOp}
use Rattle.fop_types.specs.declared.store_ops.StoreOp.TheVariants as op
use Rattle.fop_types.specs.declared.messages.BrickReq.{BrickReq}
use Rattle.fop_types.specs.declared.messages.BrickReq.TheVariants as req
use Rattle.fop_types.specs.declared.messages.DoneArm.{DoneArm}
use Rattle.fop_types.specs.declared.messages.DoneArm.TheVariants as arm
use Rattle.fop_types.specs.declared.messages.BrickRep.{BrickRep}
use Rattle.fop_types.specs.declared.messages.BrickRep.TheVariants as rep
use Rattle.fop_types.specs.declared.messages.Proc.{Proc}
use Rattle.fop_types.specs.declared.messages.Proc.TheVariants as proc
use Rattle.fop_types.specs.declared.messages.Input.{Input}
use Rattle.fop_types.specs.declared.messages.Input.TheVariants as input
use Rattle.fop_types.specs.declared.messages.OutKind.{OutKind}
use Rattle.fop_types.specs.declared.messages.OutKind.TheVariants as out
use Rattle.fop_types.specs.declared.messages.Output.{Output}
use Rattle.wire_xdr.specs.Xdr.{unit, hyper, opaque, list, texts, IsUnit, IsHyper}
use Rattle.wire_xdr.specs.Order.{Each}
use Rattle.wire_xdr.specs.PartText.{cell_text, AreCells, content_kind, content_arm, content_text, IsContent, AreAttrs, AreItems}
use Rattle.wire_xdr.specs.MessageText.{op_number, op_arm, op_text, IsOp, req_number, mask_text, req_arm, req_text, AreFew, IsMask, IsOpenFd, IsReq, row_text, IsRow, done_number, done_arm, done_text, IsDoneArm, rep_number, rep_arm, rep_text, IsRep}
use Rattle.wire_xdr.specs.WireText.{proc_number, input_kind, input_arm, input_text, IsInputOf, out_number, out_arm, out_text, IsOutKind, output_text, IsOutputOf}
use Rattle.wire_xdr.specs.Limits.{is_between}
use Rattle.wire_xdr.specs.code.Parsers.{Parser, chain, any_byte, unit_where, between_at, bytes_at, list_at, items_at}
use Rattle.wire_xdr.specs.code.PartParsers.{cells_at, content_arm_at, content_at}
use Rattle.wire_xdr.specs.code.MessageParsers.{op_arm_at, op_at, few_at, mask_of, mask_at, open_fd_at, req_arm_at, req_at, proc_of, is_failing, proc_at, input_arm_at, input_at, row_of, counter_at, one_row_at, row_at, done_arm_at, done_at, rep_arm_at, rep_at, out_arm_at, output_of, output_at}
use Rattle.wire_xdr.proofs.UnitParsers.{between_true, between_holds}
use Rattle.wire_xdr.proofs.Laws.{IsLaw, weaker}
use Rattle.wire_xdr.proofs.QuadLaws.{Says, IsBetween, IsTested, between_law, unit_law, relegal, and_true}
use Rattle.wire_xdr.proofs.FieldLaws.{Made1, Made2, Made3, Made4, one_law, two_law, three_law, four_law, Keyed, keyed_law, IsValue, value_law, Items, total, items_law, list_law}
use Rattle.wire_xdr.proofs.StringLaws.{bytes_law}
use Rattle.wire_xdr.proofs.CellLaws.{rank_bound}
use Rattle.wire_xdr.proofs.HyperLaws.{gfid_law, any_unit_law, any_hyper_law}
use Rattle.wire_xdr.proofs.CellLists.{cells_law, any_cell_law}
use Rattle.wire_xdr.proofs.PartLaws.{any_all, none_above, flag_law, mode_law, span_law, retext, union_law, OfUnit, OfHyper, OfGfid, OfCell, OfFlag, OfMode, OfSpan, OfOneAttr, attr_law, OfAttrName, attr_name_law, attrs_law, OfOneItem, item_law, OfItemName, item_name_law, items_of_directory_law}

abbrev pub OfFile : Bool → List ℕ → Type 0
OfFile o b = length b ≤ 65536

pub file_law : IsLaw 262148 (Says OfFile opaque) (bytes_at 65536)
file_law = relegal (λ o b h. h.high) (λ o b h. record { low = omega arith; high = h; passes = any_all b; above = none_above o b }) (bytes_law 65536 (omega arith))

abbrev pub ContentArm : ℕ → Bool → Content → Type 0
ContentArm zero o y = Made1 OfFile content.Bytes o y
ContentArm (suc zero) o y = Made3 OfMode (λ _. AreAttrs) (λ _ _. OfSpan) content.Meta o y
ContentArm (suc (suc zero)) o y = Made2 OfFlag (λ _. AreItems) content.Names o y
ContentArm (suc (suc (suc k))) o y = ⊥

-- a content whose kind is between two numbers
abbrev pub OfContent : ℕ → ℕ → Bool → Content → Type 0
OfContent least most o c = (least ≤ content_kind c) × (content_kind c ≤ most) × IsContent o c

pub content_law : (least most : ℕ) → least ≤ most → most ≤ 2 → IsLaw 300000004 (Says (OfContent least most) content_text) (content_at least most)
content_law least most some few = union_law least most content_kind content_arm ContentArm (OfContent least most) some (omega (arith, few)) keys into back (λ o y h. (h.0, h.1)) arms
  where
    keys : (k : ℕ) (o : Bool) (y : Content) → ContentArm k o y → content_kind y ≡ k
    keys zero o y h = ap content_kind h.made
    keys (suc zero) o y h = ap content_kind h.made
    keys (suc (suc zero)) o y h = ap content_kind h.made
    keys (suc (suc (suc k))) o y h = absurd h

    into : (k : ℕ) (o : Bool) (y : Content) → least ≤ k → k ≤ most → ContentArm k o y → OfContent least most o y
    into zero o y l m h = subst (OfContent least most o) (sym h.made) (l, m, h.said_a)
    into (suc zero) o y l m h = subst (OfContent least most o) (sym h.made) (l, m, (h.said_a, h.said_b, h.said_c))
    into (suc (suc zero)) o y l m h = subst (OfContent least most o) (sym h.made) (l, m, h.said_b)
    into (suc (suc (suc k))) o y l m h = absurd h

    back : (o : Bool) (y : Content) → OfContent least most o y → ContentArm (content_kind y) o y
    back o (content.Bytes bytes) h = record { a = bytes; said_a = h.2; made = refl }
    back o (content.Meta mode attrs span) h = record { a = mode; b = attrs; c = span; said_a = h.2.0; said_b = h.2.1; said_c = h.2.2; made = refl }
    back o (content.Names removed items) h = record { a = removed; b = items; said_a = tt; said_b = h.2; made = refl }

    arms : (k : ℕ) → least ≤ k → k ≤ most → IsLaw 300000000 (Says (ContentArm k) content_arm) (content_arm_at k)
    arms zero l m = weaker 262148 300000000 (omega arith) (one_law content.Bytes content_arm (λ o a x. refl) file_law)
    arms (suc zero) l m = weaker 285736980 300000000 (omega arith) (three_law content.Meta content_arm (λ o a b c x y z. refl) mode_law (λ a x. attrs_law) (λ a b x y. span_law))
    arms (suc (suc zero)) l m = weaker 85458952 300000000 (omega arith) (two_law content.Names content_arm (λ o a b x y. refl) flag_law (λ a x. items_of_directory_law))
    arms (suc (suc (suc k))) l m = absurd (omega (arith, few, m))

kind_bound : (c : Content) → content_kind c ≤ 2
kind_bound (content.Bytes bytes) = omega arith
kind_bound (content.Meta mode attrs span) = omega arith
kind_bound (content.Names removed items) = omega arith

pub any_content_law : IsLaw 300000004 (Says IsContent content_text) (content_at 0 2)
any_content_law = relegal (λ o c h. h.2) (λ o c h. (omega arith, kind_bound c, h)) (content_law 0 2 (omega arith) (omega arith))

-- the content of a replace
abbrev pub OfCellContent : Cell → Bool → Content → Type 0
OfCellContent cell o c = (content_kind c ≡ rank cell.aspect) × IsContent o c

pub cell_content_law : (cell : Cell) → IsLaw 300000004 (Says (OfCellContent cell) content_text) (content_at (rank cell.aspect) (rank cell.aspect))
cell_content_law cell = relegal (λ o c h. (omega (arith, h.0, h.1), h.2)) (λ o c h. (omega (arith, h.0), omega (arith, h.0), h.1)) (content_law (rank cell.aspect) (rank cell.aspect) (omega arith) (rank_bound cell.aspect))
