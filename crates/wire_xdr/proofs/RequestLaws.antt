-- Requests are read exactly, by the numbers of their procedures.
use Rattle.std.proofs.Common.{◌≡◌, ◌≢◌, ◌<◌, ◌≤◌, ◌∷◌, ◌∙◌, ◌++◌, ◌+◌, ◌-◌, ◌*◌, ◌^◌, ℕ, suc, zero, Bool, true, false, not, ◌&&◌, ◌==◌, sym, refl, ap, ap₂, subst, List, [], length, arith, append_assoc, append-nil, Option, Some, None, if◌then◌else◌}
use Rattle.fop_types.specs.Rank.{rank}
use Rattle.fop_types.specs.declared.cells.Gfid.{Gfid}
use Rattle.fop_types.specs.declared.cells.Aspect.{Aspect}
use Rattle.fop_types.specs.declared.cells.Aspect.TheVariants.{Data, Meta, Entry}
use Rattle.fop_types.specs.declared.cells.Cell.{Cell}
use Rattle.fop_types.specs.declared.contents.Mask.{Mask}
use Rattle.fop_types.specs.declared.contents.Row.{Row}
use Rattle.fop_types.specs.declared.contents.Content.{Content}
use Rattle.fop_types.specs.declared.contents.Content.TheVariants as content
use Rattle.fop_types.specs.declared.store_ops.StoreOp.{StoreOp}
use Rattle.fop_types.specs.declared.store_ops.StoreOp.TheVariants as op
use Rattle.fop_types.specs.declared.messages.BrickReq.{BrickReq}
use Rattle.fop_types.specs.declared.messages.BrickReq.TheVariants as req
use Rattle.fop_types.specs.declared.messages.DoneArm.{DoneArm}
use Rattle.fop_types.specs.declared.messages.DoneArm.TheVariants as arm
use Rattle.fop_types.specs.declared.messages.BrickRep.{BrickRep}
use Rattle.fop_types.specs.declared.messages.BrickRep.TheVariants as rep
use Rattle.fop_types.specs.declared.messages.Proc.{Proc}
use Rattle.fop_types.specs.declared.messages.Proc.TheVariants as proc
use Rattle.fop_types.specs.declared.messages.Input.{Input}
use Rattle.fop_types.specs.declared.messages.Input.TheVariants as input
use Rattle.fop_types.specs.declared.messages.OutKind.{OutKind}
use Rattle.fop_types.specs.declared.messages.OutKind.TheVariants as out
use Rattle.fop_types.specs.declared.messages.Output.{Output}
use Rattle.wire_xdr.specs.Xdr.{unit, hyper, opaque, list, texts, IsUnit, IsHyper}
use Rattle.wire_xdr.specs.Order.{Each}
use Rattle.wire_xdr.specs.PartText.{cell_text, AreCells, content_kind, content_arm, content_text, IsContent, AreAttrs, AreItems}
use Rattle.wire_xdr.specs.MessageText.{op_number, op_arm, op_text, IsOp, req_number, mask_text, req_arm, req_text, AreFew, IsMask, IsOpenFd, IsReq, row_text, IsRow, done_number, done_arm, done_text, IsDoneArm, rep_number, rep_arm, rep_text, IsRep}
use Rattle.wire_xdr.specs.WireText.{proc_number, input_kind, input_arm, input_text, IsInputOf, out_number, out_arm, out_text, IsOutKind, output_text, IsOutputOf}
use Rattle.wire_xdr.specs.Limits.{is_between}
use Rattle.wire_xdr.specs.code.Parsers.{Parser, chain, any_byte, unit_where, between_at, bytes_at, list_at, items_at}
use Rattle.wire_xdr.specs.code.PartParsers.{cells_at, content_arm_at, content_at}
use Rattle.wire_xdr.specs.code.MessageParsers.{op_arm_at, op_at, few_at, mask_of, mask_at, open_fd_at, req_arm_at, req_at, proc_of, is_failing, proc_at, input_arm_at, input_at, row_of, counter_at, one_row_at, row_at, done_arm_at, done_at, rep_arm_at, rep_at, out_arm_at, output_of, output_at}
use Rattle.wire_xdr.proofs.UnitParsers.{between_true, between_holds}
use Rattle.wire_xdr.proofs.Laws.{IsLaw, weaker}
use Rattle.wire_xdr.proofs.QuadLaws.{Says, IsBetween, IsTested, between_law, unit_law, relegal, and_true}
use Rattle.wire_xdr.proofs.FieldLaws.{Made1, Made2, Made3, Made4, one_law, two_law, three_law, four_law, Keyed, keyed_law, IsValue, value_law, Items, total, items_law, list_law}
use Rattle.wire_xdr.proofs.StringLaws.{bytes_law}
use Rattle.wire_xdr.proofs.CellLaws.{rank_bound}
use Rattle.wire_xdr.proofs.HyperLaws.{gfid_law, any_unit_law, any_hyper_law}
use Rattle.wire_xdr.proofs.CellLists.{cells_law, any_cell_law}
use Rattle.wire_xdr.proofs.PartLaws.{any_all, none_above, flag_law, mode_law, span_law, retext, union_law, OfUnit, OfHyper, OfGfid, OfCell, OfFlag, OfMode, OfSpan, OfOneAttr, attr_law, OfAttrName, attr_name_law, attrs_law, OfOneItem, item_law, OfItemName, item_name_law, items_of_directory_law}
use Rattle.wire_xdr.proofs.ContentLaws.{OfCellContent, cell_content_law}
use Rattle.wire_xdr.proofs.OpLaws.{OfOp, op_law}

abbrev pub OfFew : Bool → List Cell → Type 0
OfFew o cs = AreFew cs

pub few_law : IsLaw 84 (Says OfFew (list cell_text)) few_at
few_law = cells_law 1 4 80 (omega arith) (omega arith) (omega arith)

abbrev pub OfIndex : Bool → List Cell → Type 0
OfIndex o cs = AreCells 0 1048576 cs

pub index_law : IsLaw 20971524 (Says OfIndex (list cell_text)) (cells_at 0 1048576)
index_law = cells_law 0 1048576 20971520 (omega arith) (omega arith) (omega arith)

abbrev pub OfMask : Bool → Mask → Type 0
OfMask o m = IsMask m

pub mask_law : IsLaw 4 (Says OfMask mask_text) mask_at
mask_law = relegal (λ o m h. subst IsMask (sym h.made) h.said_a.high) (λ o m h. record { a = m.0; said_a = record { low = omega arith; high = h }; made = refl }) (one_law mask_of mask_text (λ o a x. refl) (between_law 0 31 (omega arith) (omega arith)))

abbrev pub OfOpenFd : Bool → ℕ → Type 0
OfOpenFd o fd = IsOpenFd fd

pub open_fd_law : IsLaw 4 (Says OfOpenFd unit) open_fd_at
open_fd_law = relegal (λ o n h. (h.low, omega (arith, h.high))) (λ o n h. record { low = h.0; high = omega (arith, h.1) }) (between_law 1 4294967295 (omega arith) (omega arith))

abbrev pub ReqArm : ℕ → Bool → BrickReq → Type 0
ReqArm zero o y = ⊥
ReqArm (suc zero) o y = Made3 OfUnit (λ _. OfFlag) (λ _ _. OfFew) req.Lock o y
ReqArm (suc (suc zero)) o y = Made1 OfUnit req.Unlock o y
ReqArm (suc (suc (suc zero))) o y = Made2 OfHyper (λ _. OfFew) req.Mark o y
ReqArm (suc (suc (suc (suc zero)))) o y = Made3 OfHyper (λ _. OfUnit) (λ _ _. OfOp) req.Op o y
ReqArm (suc (suc (suc (suc (suc zero))))) o y = Made3 OfHyper (λ _. OfFew) (λ _ _. OfMask) req.Post o y
ReqArm (suc (suc (suc (suc (suc (suc zero)))))) o y = Made2 OfUnit (λ _. OfCell) req.Fetch o y
ReqArm (suc (suc (suc (suc (suc (suc (suc zero))))))) o y = Made3 OfCell (λ _. OfHyper) (λ a _. OfCellContent a) req.Replace o y
ReqArm (suc (suc (suc (suc (suc (suc (suc (suc zero)))))))) o y = Made2 OfFew (λ _. OfMask) req.Clear o y
ReqArm (suc (suc (suc (suc (suc (suc (suc (suc (suc zero))))))))) o y = Made2 OfFew (λ _. OfMask) req.Settle o y
ReqArm (suc (suc (suc (suc (suc (suc (suc (suc (suc (suc zero)))))))))) o y = IsValue req.Index o y
ReqArm (suc (suc (suc (suc (suc (suc (suc (suc (suc (suc (suc zero))))))))))) o y = Made2 OfOpenFd (λ _. OfGfid) req.Open o y
ReqArm (suc (suc (suc (suc (suc (suc (suc (suc (suc (suc (suc (suc zero)))))))))))) o y = Made1 OfOpenFd req.Release o y
ReqArm (suc (suc (suc (suc (suc (suc (suc (suc (suc (suc (suc (suc (suc k))))))))))))) o y = ⊥

pub req_law : IsLaw 400000004 (Says IsReq req_text) req_at
req_law = union_law 1 12 req_number req_arm ReqArm IsReq (omega arith) (omega arith) keys into back ends arms
  where
    keys : (k : ℕ) (o : Bool) (y : BrickReq) → ReqArm k o y → req_number y ≡ k
    keys zero o y h = absurd h
    keys (suc zero) o y h = ap req_number h.made
    keys (suc (suc zero)) o y h = ap req_number h.made
    keys (suc (suc (suc zero))) o y h = ap req_number h.made
    keys (suc (suc (suc (suc zero)))) o y h = ap req_number h.made
    keys (suc (suc (suc (suc (suc zero))))) o y h = ap req_number h.made
    keys (suc (suc (suc (suc (suc (suc zero)))))) o y h = ap req_number h.made
    keys (suc (suc (suc (suc (suc (suc (suc zero))))))) o y h = ap req_number h.made
    keys (suc (suc (suc (suc (suc (suc (suc (suc zero)))))))) o y h = ap req_number h.made
    keys (suc (suc (suc (suc (suc (suc (suc (suc (suc zero))))))))) o y h = ap req_number h.made
    keys (suc (suc (suc (suc (suc (suc (suc (suc (suc (suc zero)))))))))) o y h = ap req_number h.made
    keys (suc (suc (suc (suc (suc (suc (suc (suc (suc (suc (suc zero))))))))))) o y h = ap req_number h.made
    keys (suc (suc (suc (suc (suc (suc (suc (suc (suc (suc (suc (suc zero)))))))))))) o y h = ap req_number h.made
    keys (suc (suc (suc (suc (suc (suc (suc (suc (suc (suc (suc (suc (suc k))))))))))))) o y h = absurd h

    into : (k : ℕ) (o : Bool) (y : BrickReq) → 1 ≤ k → k ≤ 12 → ReqArm k o y → IsReq o y
    into zero o y l m h = absurd h
    into (suc zero) o y l m h = subst (IsReq o) (sym h.made) (h.said_a, h.said_c)
    into (suc (suc zero)) o y l m h = subst (IsReq o) (sym h.made) h.said_a
    into (suc (suc (suc zero))) o y l m h = subst (IsReq o) (sym h.made) (h.said_a, h.said_b)
    into (suc (suc (suc (suc zero)))) o y l m h = subst (IsReq o) (sym h.made) (h.said_a, h.said_b, h.said_c)
    into (suc (suc (suc (suc (suc zero))))) o y l m h = subst (IsReq o) (sym h.made) (h.said_a, h.said_b, h.said_c)
    into (suc (suc (suc (suc (suc (suc zero)))))) o y l m h = subst (IsReq o) (sym h.made) (h.said_a, h.said_b)
    into (suc (suc (suc (suc (suc (suc (suc zero))))))) o y l m h = subst (IsReq o) (sym h.made) (h.said_a, h.said_b, h.said_c.0, h.said_c.1)
    into (suc (suc (suc (suc (suc (suc (suc (suc zero)))))))) o y l m h = subst (IsReq o) (sym h.made) (h.said_a, h.said_b)
    into (suc (suc (suc (suc (suc (suc (suc (suc (suc zero))))))))) o y l m h = subst (IsReq o) (sym h.made) (h.said_a, h.said_b)
    into (suc (suc (suc (suc (suc (suc (suc (suc (suc (suc zero)))))))))) o y l m h = subst (IsReq o) (sym h.made) tt
    into (suc (suc (suc (suc (suc (suc (suc (suc (suc (suc (suc zero))))))))))) o y l m h = subst (IsReq o) (sym h.made) (h.said_a, h.said_b)
    into (suc (suc (suc (suc (suc (suc (suc (suc (suc (suc (suc (suc zero)))))))))))) o y l m h = subst (IsReq o) (sym h.made) h.said_a
    into (suc (suc (suc (suc (suc (suc (suc (suc (suc (suc (suc (suc (suc k))))))))))))) o y l m h = absurd h

    back : (o : Bool) (y : BrickReq) → IsReq o y → ReqArm (req_number y) o y
    back o (req.Lock call shared cells) h = record { a = call; b = shared; c = cells; said_a = h.0; said_b = tt; said_c = h.1; made = refl }
    back o (req.Unlock call) h = record { a = call; said_a = h; made = refl }
    back o (req.Mark change cells) h = record { a = change; b = cells; said_a = h.0; said_b = h.1; made = refl }
    back o (req.Op change fd op) h = record { a = change; b = fd; c = op; said_a = h.0; said_b = h.1; said_c = h.2; made = refl }
    back o (req.Post change cells mask) h = record { a = change; b = cells; c = mask; said_a = h.0; said_b = h.1; said_c = h.2; made = refl }
    back o (req.Fetch fd cell) h = record { a = fd; b = cell; said_a = h.0; said_b = h.1; made = refl }
    back o (req.Replace cell last content) h = record { a = cell; b = last; c = content; said_a = h.0; said_b = h.1; said_c = (h.2, h.3); made = refl }
    back o (req.Clear cells mask) h = record { a = cells; b = mask; said_a = h.0; said_b = h.1; made = refl }
    back o (req.Settle cells mask) h = record { a = cells; b = mask; said_a = h.0; said_b = h.1; made = refl }
    back o req.Index h = record { made = refl }
    back o (req.Open fd gfid) h = record { a = fd; b = gfid; said_a = h.0; said_b = h.1; made = refl }
    back o (req.Release fd) h = record { a = fd; said_a = h; made = refl }

    ends : (o : Bool) (y : BrickReq) → IsReq o y → (1 ≤ req_number y) × (req_number y ≤ 12)
    ends o (req.Lock call shared cells) h = (omega arith, omega arith)
    ends o (req.Unlock call) h = (omega arith, omega arith)
    ends o (req.Mark change cells) h = (omega arith, omega arith)
    ends o (req.Op change fd op) h = (omega arith, omega arith)
    ends o (req.Post change cells mask) h = (omega arith, omega arith)
    ends o (req.Fetch fd cell) h = (omega arith, omega arith)
    ends o (req.Replace cell last content) h = (omega arith, omega arith)
    ends o (req.Clear cells mask) h = (omega arith, omega arith)
    ends o (req.Settle cells mask) h = (omega arith, omega arith)
    ends o req.Index h = (omega arith, omega arith)
    ends o (req.Open fd gfid) h = (omega arith, omega arith)
    ends o (req.Release fd) h = (omega arith, omega arith)

    arms : (k : ℕ) → 1 ≤ k → k ≤ 12 → IsLaw 400000000 (Says (ReqArm k) req_arm) (req_arm_at k)
    arms zero l m = absurd (omega (arith, l))
    arms (suc zero) l m = weaker 92 400000000 (omega arith) (three_law req.Lock req_arm (λ o a b c x y z. refl) any_unit_law (λ a x. flag_law) (λ a b x y. few_law))
    arms (suc (suc zero)) l m = weaker 4 400000000 (omega arith) (one_law req.Unlock req_arm (λ o a x. refl) any_unit_law)
    arms (suc (suc (suc zero))) l m = weaker 92 400000000 (omega arith) (two_law req.Mark req_arm (λ o a b x y. refl) any_hyper_law (λ a x. few_law))
    arms (suc (suc (suc (suc zero)))) l m = weaker 300016 400000000 (omega arith) (three_law req.Op req_arm (λ o a b c x y z. refl) any_hyper_law (λ a x. any_unit_law) (λ a b x y. op_law))
    arms (suc (suc (suc (suc (suc zero))))) l m = weaker 96 400000000 (omega arith) (three_law req.Post req_arm (λ o a b c x y z. refl) any_hyper_law (λ a x. few_law) (λ a b x y. mask_law))
    arms (suc (suc (suc (suc (suc (suc zero)))))) l m = weaker 24 400000000 (omega arith) (two_law req.Fetch req_arm (λ o a b x y. refl) any_unit_law (λ a x. any_cell_law))
    arms (suc (suc (suc (suc (suc (suc (suc zero))))))) l m = weaker 300000032 400000000 (omega arith) (three_law req.Replace req_arm (λ o a b c x y z. refl) any_cell_law (λ a x. any_hyper_law) (λ a b x y. cell_content_law a))
    arms (suc (suc (suc (suc (suc (suc (suc (suc zero)))))))) l m = weaker 88 400000000 (omega arith) (two_law req.Clear req_arm (λ o a b x y. refl) few_law (λ a x. mask_law))
    arms (suc (suc (suc (suc (suc (suc (suc (suc (suc zero))))))))) l m = weaker 88 400000000 (omega arith) (two_law req.Settle req_arm (λ o a b x y. refl) few_law (λ a x. mask_law))
    arms (suc (suc (suc (suc (suc (suc (suc (suc (suc (suc zero)))))))))) l m = weaker 0 400000000 (omega arith) (value_law req.Index req_arm refl)
    arms (suc (suc (suc (suc (suc (suc (suc (suc (suc (suc (suc zero))))))))))) l m = weaker 20 400000000 (omega arith) (two_law req.Open req_arm (λ o a b x y. refl) open_fd_law (λ a x. gfid_law))
    arms (suc (suc (suc (suc (suc (suc (suc (suc (suc (suc (suc (suc zero)))))))))))) l m = weaker 4 400000000 (omega arith) (one_law req.Release req_arm (λ o a x. refl) open_fd_law)
    arms (suc (suc (suc (suc (suc (suc (suc (suc (suc (suc (suc (suc (suc k))))))))))))) l m = absurd (omega (arith, m))
