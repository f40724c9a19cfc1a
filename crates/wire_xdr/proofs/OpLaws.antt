-- Store operations are read exactly, by their numbers.
use Rattle.std.proofs.Common.{◌≡◌, ◌≢◌, ◌<◌, ◌≤◌, ◌∷◌, ◌∙◌, ◌++◌, ◌+◌, ◌-◌, ◌*◌, ◌^◌, ℕ, suc, zero, Bool, true, false, not, ◌&&◌, ◌==◌, sym, refl, ap, ap₂, subst, List, [], length, arith, append_assoc, append-nil, Option, Some, None, if◌then◌else◌}
use Rattle.fop_types.specs.Rank.{rank}
use Rattle.fop_types.specs.declared.cells.Gfid.{Gfid}
use Rattle.fop_types.specs.declared.cells.Aspect.{Aspect}
use Rattle.fop_types.specs.declared.cells.Aspect.TheVariants.{Data, Meta, Entry}
use Rattle.fop_types.specs.declared.cells.Cell.{Cell}
use Rattle.fop_types.specs.declared.contents.Mask.{Mask}
use Rattle.fop_types.specs.declared.contents.Row.{Row}
use Rattle.fop_types.specs.declared.contents.Content.{Content}
use Rattle.fop_types.specs.declared.contents.Content.TheVariants as content
use Rattle.fop_types.specs.declared.store_ops.StoreOp.{StoreOp}
use Rattle.fop_types.specs.declared.store_ops.StoreOp.TheVariants as op
use Rattle.fop_types.specs.declared.messages.BrickReq.{BrickReq}
use Rattle.fop_types.specs.declared.messages.BrickReq.TheVariants as req
use Rattle.fop_types.specs.declared.messages.DoneArm.{DoneArm}
use Rattle.fop_types.specs.declared.messages.DoneArm.TheVariants as arm
use Rattle.fop_types.specs.declared.messages.BrickRep.{BrickRep}
use Rattle.fop_types.specs.declared.messages.BrickRep.TheVariants as rep
use Rattle.fop_types.specs.declared.messages.Proc.{Proc}
use Rattle.fop_types.specs.declared.messages.Proc.TheVariants as proc
use Rattle.fop_types.specs.declared.messages.Input.{Input}
use Rattle.fop_types.specs.declared.messages.Input.TheVariants as input
use Rattle.fop_types.specs.declared.messages.OutKind.{OutKind}
use Rattle.fop_types.specs.declared.messages.OutKind.TheVariants as out
use Rattle.fop_types.specs.declared.messages.Output.{Output}
use Rattle.wire_xdr.specs.Xdr.{unit, hyper, opaque, list, texts, IsUnit, IsHyper}
use Rattle.wire_xdr.specs.Order.{Each}
use Rattle.wire_xdr.specs.PartText.{cell_text, AreCells, content_kind, content_arm, content_text, IsContent, AreAttrs, AreItems}
use Rattle.wire_xdr.specs.MessageText.{op_number, op_arm, op_text, IsOp, req_number, mask_text, req_arm, req_text, AreFew, IsMask, IsOpenFd, IsReq, row_text, IsRow, done_number, done_arm, done_text, IsDoneArm, rep_number, rep_arm, rep_text, IsRep}
use Rattle.wire_xdr.specs.WireText.{proc_number, input_kind, input_arm, input_text, IsInputOf, out_number, out_arm, out_text, IsOutKind, output_text, IsOutputOf}
use Rattle.wire_xdr.specs.Limits.{is_between}
use Rattle.wire_xdr.specs.code.Parsers.{Parser, chain, any_byte, unit_where, between_at, bytes_at, list_at, items_at}
use Rattle.wire_xdr.specs.code.PartParsers.{cells_at, content_arm_at, content_at}
use Rattle.wire_xdr.specs.code.MessageParsers.{op_arm_at, op_at, few_at, mask_of, mask_at, open_fd_at, req_arm_at, req_at, proc_of, is_failing, proc_at, input_arm_at, input_at, row_of, counter_at, one_row_at, row_at, done_arm_at, done_at, rep_arm_at, rep_at, out_arm_at, output_of, output_at}
use Rattle.wire_xdr.proofs.UnitParsers.{between_true, between_holds}
use Rattle.wire_xdr.proofs.Laws.{IsLaw, weaker}
use Rattle.wire_xdr.proofs.QuadLaws.{Says, IsBetween, IsTested, between_law, unit_law, relegal, and_true}
use Rattle.wire_xdr.proofs.FieldLaws.{Made1, Made2, Made3, Made4, one_law, two_law, three_law, four_law, Keyed, keyed_law, IsValue, value_law, Items, total, items_law, list_law}
use Rattle.wire_xdr.proofs.StringLaws.{bytes_law}
use Rattle.wire_xdr.proofs.CellLaws.{rank_bound}
use Rattle.wire_xdr.proofs.HyperLaws.{gfid_law, any_unit_law, any_hyper_law}
use Rattle.wire_xdr.proofs.CellLists.{cells_law, any_cell_law}
use Rattle.wire_xdr.proofs.PartLaws.{any_all, none_above, flag_law, mode_law, span_law, retext, union_law, OfUnit, OfHyper, OfGfid, OfCell, OfFlag, OfMode, OfSpan, OfOneAttr, attr_law, OfAttrName, attr_name_law, attrs_law, OfOneItem, item_law, OfItemName, item_name_law, items_of_directory_law}
use Rattle.wire_xdr.proofs.ContentLaws.{OfFile, file_law}

abbrev pub OfOp : Bool → StoreOp → Type 0
OfOp o y = IsOp y

abbrev pub OpArm : ℕ → Bool → StoreOp → Type 0
OpArm zero o y = Made3 OfGfid (λ _. OfUnit) (λ _ _. OfFile) op.Write o y
OpArm (suc zero) o y = Made2 OfGfid (λ _. OfUnit) op.Truncate o y
OpArm (suc (suc zero)) o y = Made2 OfGfid (λ _. OfMode) op.SetMode o y
OpArm (suc (suc (suc zero))) o y = Made2 OfGfid (λ _. OfOneAttr) op.SetAttr o y
OpArm (suc (suc (suc (suc zero)))) o y = Made2 OfGfid (λ _. OfAttrName) op.DelAttr o y
OpArm (suc (suc (suc (suc (suc zero))))) o y = Made4 OfGfid (λ _. OfOneItem) (λ _ _. OfMode) (λ _ _ _. OfSpan) op.AddName o y
OpArm (suc (suc (suc (suc (suc (suc zero)))))) o y = Made2 OfGfid (λ _. OfItemName) op.DropName o y
OpArm (suc (suc (suc (suc (suc (suc (suc zero))))))) o y = Made3 OfGfid (λ _. OfItemName) (λ _ _. OfGfid) op.DropDir o y
OpArm (suc (suc (suc (suc (suc (suc (suc (suc zero)))))))) o y = Made4 OfGfid (λ _. OfItemName) (λ _ _. OfGfid) (λ _ _ _. OfItemName) op.Move o y
OpArm (suc (suc (suc (suc (suc (suc (suc (suc (suc zero))))))))) o y = Made2 OfGfid (λ _. OfSpan) op.MakeCopy o y
OpArm (suc (suc (suc (suc (suc (suc (suc (suc (suc (suc k)))))))))) o y = ⊥

pub op_law : IsLaw 300004 (Says OfOp op_text) op_at
op_law = union_law 0 9 op_number op_arm OpArm OfOp (omega arith) (omega arith) keys into back ends arms
  where
    keys : (k : ℕ) (o : Bool) (y : StoreOp) → OpArm k o y → op_number y ≡ k
    keys zero o y h = ap op_number h.made
    keys (suc zero) o y h = ap op_number h.made
    keys (suc (suc zero)) o y h = ap op_number h.made
    keys (suc (suc (suc zero))) o y h = ap op_number h.made
    keys (suc (suc (suc (suc zero)))) o y h = ap op_number h.made
    keys (suc (suc (suc (suc (suc zero))))) o y h = ap op_number h.made
    keys (suc (suc (suc (suc (suc (suc zero)))))) o y h = ap op_number h.made
    keys (suc (suc (suc (suc (suc (suc (suc zero))))))) o y h = ap op_number h.made
    keys (suc (suc (suc (suc (suc (suc (suc (suc zero)))))))) o y h = ap op_number h.made
    keys (suc (suc (suc (suc (suc (suc (suc (suc (suc zero))))))))) o y h = ap op_number h.made
    keys (suc (suc (suc (suc (suc (suc (suc (suc (suc (suc k)))))))))) o y h = absurd h

    into : (k : ℕ) (o : Bool) (y : StoreOp) → 0 ≤ k → k ≤ 9 → OpArm k o y → OfOp o y
    into zero o y l m h = subst (OfOp o) (sym h.made) (h.said_a, h.said_b, h.said_c)
    into (suc zero) o y l m h = subst (OfOp o) (sym h.made) (h.said_a, h.said_b)
    into (suc (suc zero)) o y l m h = subst (OfOp o) (sym h.made) (h.said_a, h.said_b)
    into (suc (suc (suc zero))) o y l m h = subst (OfOp o) (sym h.made) (h.said_a, h.said_b)
    into (suc (suc (suc (suc zero)))) o y l m h = subst (OfOp o) (sym h.made) (h.said_a, h.said_b)
    into (suc (suc (suc (suc (suc zero))))) o y l m h = subst (OfOp o) (sym h.made) (h.said_a, h.said_b, h.said_c, h.said_e)
    into (suc (suc (suc (suc (suc (suc zero)))))) o y l m h = subst (OfOp o) (sym h.made) (h.said_a, h.said_b)
    into (suc (suc (suc (suc (suc (suc (suc zero))))))) o y l m h = subst (OfOp o) (sym h.made) (h.said_a, h.said_b, h.said_c)
    into (suc (suc (suc (suc (suc (suc (suc (suc zero)))))))) o y l m h = subst (OfOp o) (sym h.made) (h.said_a, h.said_b, h.said_c, h.said_e)
    into (suc (suc (suc (suc (suc (suc (suc (suc (suc zero))))))))) o y l m h = subst (OfOp o) (sym h.made) (h.said_a, h.said_b)
    into (suc (suc (suc (suc (suc (suc (suc (suc (suc (suc k)))))))))) o y l m h = absurd h

    back : (o : Bool) (y : StoreOp) → OfOp o y → OpArm (op_number y) o y
    back o (op.Write gfid offset bytes) h = record { a = gfid; b = offset; c = bytes; said_a = h.0; said_b = h.1; said_c = h.2; made = refl }
    back o (op.Truncate gfid size) h = record { a = gfid; b = size; said_a = h.0; said_b = h.1; made = refl }
    back o (op.SetMode gfid mode) h = record { a = gfid; b = mode; said_a = h.0; said_b = h.1; made = refl }
    back o (op.SetAttr gfid attr) h = record { a = gfid; b = attr; said_a = h.0; said_b = h.1; made = refl }
    back o (op.DelAttr gfid name) h = record { a = gfid; b = name; said_a = h.0; said_b = h.1; made = refl }
    back o (op.AddName parent item mode span) h = record { a = parent; b = item; c = mode; e = span; said_a = h.0; said_b = h.1; said_c = h.2; said_e = h.3; made = refl }
    back o (op.DropName parent name) h = record { a = parent; b = name; said_a = h.0; said_b = h.1; made = refl }
    back o (op.DropDir parent name gfid) h = record { a = parent; b = name; c = gfid; said_a = h.0; said_b = h.1; said_c = h.2; made = refl }
    back o (op.Move parent name target new_name) h = record { a = parent; b = name; c = target; e = new_name; said_a = h.0; said_b = h.1; said_c = h.2; said_e = h.3; made = refl }
    back o (op.MakeCopy gfid span) h = record { a = gfid; b = span; said_a = h.0; said_b = h.1; made = refl }

    ends : (o : Bool) (y : StoreOp) → OfOp o y → (0 ≤ op_number y) × (op_number y ≤ 9)
    ends o (op.Write gfid offset bytes) h = (omega arith, omega arith)
    ends o (op.Truncate gfid size) h = (omega arith, omega arith)
    ends o (op.SetMode gfid mode) h = (omega arith, omega arith)
    ends o (op.SetAttr gfid attr) h = (omega arith, omega arith)
    ends o (op.DelAttr gfid name) h = (omega arith, omega arith)
    ends o (op.AddName parent item mode span) h = (omega arith, omega arith)
    ends o (op.DropName parent name) h = (omega arith, omega arith)
    ends o (op.DropDir parent name gfid) h = (omega arith, omega arith)
    ends o (op.Move parent name target new_name) h = (omega arith, omega arith)
    ends o (op.MakeCopy gfid span) h = (omega arith, omega arith)

    arms : (k : ℕ) → 0 ≤ k → k ≤ 9 → IsLaw 300000 (Says (OpArm k) op_arm) (op_arm_at k)
    arms zero l m = weaker 262168 300000 (omega arith) (three_law op.Write op_arm (λ o a b c x y z. refl) gfid_law (λ a x. any_unit_law) (λ a b x y. file_law))
    arms (suc zero) l m = weaker 20 300000 (omega arith) (two_law op.Truncate op_arm (λ o a b x y. refl) gfid_law (λ a x. any_unit_law))
    arms (suc (suc zero)) l m = weaker 20 300000 (omega arith) (two_law op.SetMode op_arm (λ o a b x y. refl) gfid_law (λ a x. mode_law))
    arms (suc (suc (suc zero))) l m = weaker 4376 300000 (omega arith) (two_law op.SetAttr op_arm (λ o a b x y. refl) gfid_law (λ a x. attr_law))
    arms (suc (suc (suc (suc zero)))) l m = weaker 276 300000 (omega arith) (two_law op.DelAttr op_arm (λ o a b x y. refl) gfid_law (λ a x. attr_name_law))
    arms (suc (suc (suc (suc (suc zero))))) l m = weaker 1336 300000 (omega arith) (four_law op.AddName op_arm (λ a b c d. refl) gfid_law (λ a x. item_law) (λ a b x y. mode_law) (λ a b c x y z. span_law))
    arms (suc (suc (suc (suc (suc (suc zero)))))) l m = weaker 1040 300000 (omega arith) (two_law op.DropName op_arm (λ o a b x y. refl) gfid_law (λ a x. item_name_law))
    arms (suc (suc (suc (suc (suc (suc (suc zero))))))) l m = weaker 1056 300000 (omega arith) (three_law op.DropDir op_arm (λ o a b c x y z. refl) gfid_law (λ a x. item_name_law) (λ a b x y. gfid_law))
    arms (suc (suc (suc (suc (suc (suc (suc (suc zero)))))))) l m = weaker 2080 300000 (omega arith) (four_law op.Move op_arm (λ a b c d. refl) gfid_law (λ a x. item_name_law) (λ a b x y. gfid_law) (λ a b c x y z. item_name_law))
    arms (suc (suc (suc (suc (suc (suc (suc (suc (suc zero))))))))) l m = weaker 28 300000 (omega arith) (two_law op.MakeCopy op_arm (λ o a b x y. refl) gfid_law (λ a x. span_law))
    arms (suc (suc (suc (suc (suc (suc (suc (suc (suc (suc k)))))))))) l m = absurd (omega (arith, m))
