-- The parsers of the inputs and outputs of a brick.
use Rattle.std.specs.Prelude.{ℕ, zero, suc, ◌==◌, ◌&&◌, not, Bool, true, false, List, if◌then◌else◌}
use Rattle.fop_types.specs.Rank.{rank}
use Rattle.fop_types.specs.declared.cells.Cell.{Cell}
use Rattle.fop_types.specs.declared.contents.Row.{Row}
use Rattle.fop_types.specs.declared.contents.Mask.{Mask}
use Rattle.fop_types.specs.declared.contents.Content.{Content}
use Rattle.fop_types.specs.declared.store_ops.StoreOp.{StoreOp}
use Rattle.fop_types.specs.declared.store_ops.StoreOp.TheVariants as op
use Rattle.fop_types.specs.declared.messages.BrickReq.{BrickReq}
use Rattle.fop_types.specs.declared.messages.BrickReq.TheVariants as req
use Rattle.fop_types.specs.declared.messages.DoneArm.{DoneArm}
use Rattle.fop_types.specs.declared.messages.DoneArm.TheVariants as arm
use Rattle.fop_types.specs.declared.messages.BrickRep.{BrickRep}
use Rattle.fop_types.specs.declared.messages.BrickRep.TheVariants as rep
use Rattle.fop_types.specs.declared.messages.Proc.{Proc}
use Rattle.fop_types.specs.declared.messages.Proc.TheVariants as proc
use Rattle.fop_types.specs.declared.messages.Input.{Input}
use Rattle.fop_types.specs.declared.messages.Input.TheVariants as input
use Rattle.fop_types.specs.declared.messages.OutKind.{OutKind}
use Rattle.fop_types.specs.declared.messages.OutKind.TheVariants as out
use Rattle.fop_types.specs.declared.messages.Output.{Output}
use Rattle.wire_xdr.specs.Limits.{max_data, max_cells, max_mask, max_unit, max_list, max_index, is_between}
use Rattle.wire_xdr.specs.code.Parsers.{Parser, done, chain, one, two, three, four, unit_where, between_at, unit_at, flag_at, hyper_at, bytes_at, list_at, items_at}
use Rattle.wire_xdr.specs.code.PartParsers.{gfid_at, cell_at, cells_at, span_at, attr_after, attr_name_at, item_after, item_name_at, mode_at, content_at}
use Rattle.std.specs.Prelude.{Option, None}

abbrev pub op_arm_at : ℕ → Parser StoreOp
op_arm_at n =
    if n == 0 then three op.Write gfid_at (λ gfid. unit_at) (λ gfid offset. bytes_at max_data)
    else if n == 1 then two op.Truncate gfid_at (λ gfid. unit_at)
    else if n == 2 then two op.SetMode gfid_at (λ gfid. mode_at)
    else if n == 3 then two op.SetAttr gfid_at (λ gfid. attr_after None)
    else if n == 4 then two op.DelAttr gfid_at (λ gfid. attr_name_at None)
    else if n == 5 then four op.AddName gfid_at (λ parent. item_after None) (λ parent item. mode_at) (λ parent item mode. span_at)
    else if n == 6 then two op.DropName gfid_at (λ parent. item_name_at None)
    else if n == 7 then three op.DropDir gfid_at (λ parent. item_name_at None) (λ parent name. gfid_at)
    else if n == 8 then four op.Move gfid_at (λ parent. item_name_at None) (λ parent name. gfid_at) (λ parent name target. item_name_at None)
    else two op.MakeCopy gfid_at (λ gfid. span_at)

abbrev pub op_at : Parser StoreOp
op_at = chain (between_at 0 9) op_arm_at

abbrev pub few_at : Parser (List Cell)
few_at = cells_at 1 max_cells

abbrev pub mask_of : ℕ → Mask
mask_of n = record { 0 = n }

abbrev pub mask_at : Parser Mask
mask_at = one mask_of (between_at 0 max_mask)

abbrev pub open_fd_at : Parser ℕ
open_fd_at = between_at 1 max_unit

abbrev pub req_arm_at : ℕ → Parser BrickReq
req_arm_at n =
    if n == 1 then three req.Lock unit_at (λ call. flag_at) (λ call shared. few_at)
    else if n == 2 then one req.Unlock unit_at
    else if n == 3 then two req.Mark hyper_at (λ change. few_at)
    else if n == 4 then three req.Op hyper_at (λ change. unit_at) (λ change fd. op_at)
    else if n == 5 then three req.Post hyper_at (λ change. few_at) (λ change cells. mask_at)
    else if n == 6 then two req.Fetch unit_at (λ fd. cell_at)
    else if n == 7 then three req.Replace cell_at (λ cell. hyper_at) (λ cell last. content_at (rank cell.aspect) (rank cell.aspect))
    else if n == 8 then two req.Clear few_at (λ cells. mask_at)
    else if n == 9 then two req.Settle few_at (λ cells. mask_at)
    else if n == 10 then done req.Index
    else if n == 11 then two req.Open open_fd_at (λ fd. gfid_at)
    else one req.Release open_fd_at

abbrev pub req_at : Parser BrickReq
req_at = chain (between_at 1 12) req_arm_at

abbrev pub proc_of : ℕ → Proc
proc_of n =
    if n == 1 then proc.Lock else if n == 3 then proc.Mark else if n == 4 then proc.Op else if n == 5 then proc.Post
    else if n == 6 then proc.Fetch else if n == 7 then proc.Replace else if n == 8 then proc.Clear else if n == 9 then proc.Settle
    else if n == 10 then proc.Index else if n == 11 then proc.Open else proc.Release

-- a procedure that may be made to fail: any but unlock
abbrev pub is_failing : ℕ → Bool
is_failing n = is_between 1 12 n && not (n == 2)

abbrev pub proc_at : Parser Proc
proc_at = one proc_of (unit_where is_failing)

abbrev pub input_arm_at : ℕ → Parser Input
input_arm_at n =
    if n == 0 then three input.Request hyper_at (λ wind. unit_at) (λ wind graph. req_at)
    else if n == 1 then one input.Down unit_at
    else if n == 2 then done input.Up
    else if n == 3 then two input.Connect unit_at (λ graph. between_at 1 1)
    else if n == 4 then one input.Disconnect unit_at
    else two input.FaultAt proc_at (λ proc. between_at 1 max_unit)

abbrev pub input_at : Parser Input
input_at = chain (between_at 0 5) input_arm_at

abbrev pub row_of : Bool → ℕ → List ℕ → ℕ → Row
row_of present dirty pending last = record { present = present; dirty = dirty; pending = pending; last = last }

abbrev pub counter_at : Option ℕ → ℕ → Parser ℕ
counter_at earlier n = unit_at

abbrev pub one_row_at : Parser Row
one_row_at = four row_of flag_at (λ present. unit_at) (λ present dirty. items_at counter_at None 5) (λ present dirty pending. hyper_at)

abbrev pub row_at : Option Row → ℕ → Parser Row
row_at earlier n = one_row_at

abbrev pub done_arm_at : ℕ → Parser DoneArm
done_arm_at n =
    if n == 0 then done arm.Nothing
    else if n == 1 then one arm.Rows (list_at row_at 0 max_list)
    else if n == 2 then two arm.Content (content_at 0 2) (λ content. hyper_at)
    else one arm.Cells (cells_at 0 max_index)

abbrev pub done_at : Parser DoneArm
done_at = chain (between_at 0 3) done_arm_at

abbrev pub rep_arm_at : ℕ → Parser BrickRep
rep_arm_at n =
    if n == 0 then one rep.Done done_at
    else if n == 1 then done rep.Gone
    else if n == 2 then done rep.Fault
    else if n == 3 then done rep.Unfit
    else done rep.BadFd

abbrev pub rep_at : Parser BrickRep
rep_at = chain (between_at 0 4) rep_arm_at

abbrev pub out_arm_at : ℕ → Parser OutKind
out_arm_at n =
    if n == 0 then two out.Reply hyper_at (λ wind. rep_at)
    else if n == 1 then done out.Closed
    else if n == 2 then done out.Opened
    else if n == 3 then two out.Connected unit_at (λ graph. unit_at)
    else one out.Malformed unit_at

abbrev pub output_of : ℕ → OutKind → Output
output_of taken kind = record { taken = taken; kind = kind }

abbrev pub output_at : Parser Output
output_at = two output_of hyper_at (λ taken. chain (between_at 0 4) out_arm_at)
