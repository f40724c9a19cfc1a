-- The encoding of store operations, requests and replies of a brick, by their numbers; and which of them
-- have one.
use Rattle.std.specs.Prelude.{◌≡◌, ℕ, ◌≤◌, ◌<◌, ◌^◌, Bool, true, false, List, [], ◌∷◌, ◌++◌, length, Option, Some, None}
use Rattle.fop_types.specs.Rank.{rank}
use Rattle.fop_types.specs.declared.cells.Cell.{Cell}
use Rattle.fop_types.specs.declared.contents.Row.{Row}
use Rattle.fop_types.specs.declared.contents.Mask.{Mask}
use Rattle.fop_types.specs.declared.contents.Content.{Content}
use Rattle.fop_types.specs.declared.store_ops.StoreOp.{StoreOp}
use Rattle.fop_types.specs.declared.store_ops.StoreOp.TheVariants as op
use Rattle.fop_types.specs.declared.messages.BrickReq.{BrickReq}
use Rattle.fop_types.specs.declared.messages.BrickReq.TheVariants as req
use Rattle.fop_types.specs.declared.messages.DoneArm.{DoneArm}
use Rattle.fop_types.specs.declared.messages.DoneArm.TheVariants as arm
use Rattle.fop_types.specs.declared.messages.BrickRep.{BrickRep}
use Rattle.fop_types.specs.declared.messages.BrickRep.TheVariants as rep
use Rattle.wire_xdr.specs.Limits.{max_data, max_cells, max_mask, max_list, max_index}
use Rattle.wire_xdr.specs.Xdr.{unit, hyper, flag, opaque, list, texts, IsUnit, IsHyper}
use Rattle.wire_xdr.specs.Order.{Each}
use Rattle.wire_xdr.specs.PartText.{gfid_text, IsGfid, cell_text, IsCell, AreCells, span_text, IsSpan, attr_text, IsAttrName, IsAttr, IsItemName, item_text, IsItem, content_kind, content_text, IsMode, IsContent}
pub use Rattle.fop_types.specs.Bounds.{IsOp, AreFew, IsMask, IsOpenFd, IsReq, IsRow, IsDoneArm, IsRep}

abbrev pub op_number : StoreOp → ℕ
op_number (op.Write gfid offset bytes) = 0
op_number (op.Truncate gfid size) = 1
op_number (op.SetMode gfid mode) = 2
op_number (op.SetAttr gfid attr) = 3
op_number (op.DelAttr gfid name) = 4
op_number (op.AddName parent item mode span) = 5
op_number (op.DropName parent name) = 6
op_number (op.DropDir parent name gfid) = 7
op_number (op.Move parent name target new_name) = 8
op_number (op.MakeCopy gfid span) = 9

abbrev pub op_arm : StoreOp → List ℕ
op_arm (op.Write gfid offset bytes) = gfid_text gfid ++ (unit offset ++ opaque bytes)
op_arm (op.Truncate gfid size) = gfid_text gfid ++ unit size
op_arm (op.SetMode gfid mode) = gfid_text gfid ++ unit mode
op_arm (op.SetAttr gfid attr) = gfid_text gfid ++ attr_text attr
op_arm (op.DelAttr gfid name) = gfid_text gfid ++ opaque name
op_arm (op.AddName parent item mode span) = gfid_text parent ++ (item_text item ++ (unit mode ++ span_text span))
op_arm (op.DropName parent name) = gfid_text parent ++ opaque name
op_arm (op.DropDir parent name gfid) = gfid_text parent ++ (opaque name ++ gfid_text gfid)
op_arm (op.Move parent name target new_name) = gfid_text parent ++ (opaque name ++ (gfid_text target ++ opaque new_name))
op_arm (op.MakeCopy gfid span) = gfid_text gfid ++ span_text span

abbrev pub op_text : StoreOp → List ℕ
op_text o = unit (op_number o) ++ op_arm o

abbrev pub req_number : BrickReq → ℕ
req_number (req.Lock call shared cells) = 1
req_number (req.Unlock call) = 2
req_number (req.Mark change cells) = 3
req_number (req.Op change fd op) = 4
req_number (req.Post change cells mask) = 5
req_number (req.Fetch fd cell) = 6
req_number (req.Replace cell last content) = 7
req_number (req.Clear cells mask) = 8
req_number (req.Settle cells mask) = 9
req_number req.Index = 10
req_number (req.Open fd gfid) = 11
req_number (req.Release fd) = 12

abbrev pub mask_text : Mask → List ℕ
mask_text mask = unit mask.0

abbrev pub req_arm : BrickReq → List ℕ
req_arm (req.Lock call shared cells) = unit call ++ (flag shared ++ list cell_text cells)
req_arm (req.Unlock call) = unit call
req_arm (req.Mark change cells) = hyper change ++ list cell_text cells
req_arm (req.Op change fd op) = hyper change ++ (unit fd ++ op_text op)
req_arm (req.Post change cells mask) = hyper change ++ (list cell_text cells ++ mask_text mask)
req_arm (req.Fetch fd cell) = unit fd ++ cell_text cell
req_arm (req.Replace cell last content) = cell_text cell ++ (hyper last ++ content_text content)
req_arm (req.Clear cells mask) = list cell_text cells ++ mask_text mask
req_arm (req.Settle cells mask) = list cell_text cells ++ mask_text mask
req_arm req.Index = []
req_arm (req.Open fd gfid) = unit fd ++ gfid_text gfid
req_arm (req.Release fd) = unit fd

abbrev pub req_text : BrickReq → List ℕ
req_text r = unit (req_number r) ++ req_arm r

abbrev pub row_text : Row → List ℕ
row_text row = flag row.present ++ (unit row.dirty ++ (texts unit row.pending ++ hyper row.last))

abbrev pub done_number : DoneArm → ℕ
done_number arm.Nothing = 0
done_number (arm.Rows rows) = 1
done_number (arm.Content content last) = 2
done_number (arm.Cells cells) = 3

abbrev pub done_arm : DoneArm → List ℕ
done_arm arm.Nothing = []
done_arm (arm.Rows rows) = list row_text rows
done_arm (arm.Content content last) = content_text content ++ hyper last
done_arm (arm.Cells cells) = list cell_text cells

abbrev pub done_text : DoneArm → List ℕ
done_text d = unit (done_number d) ++ done_arm d

abbrev pub rep_number : BrickRep → ℕ
rep_number (rep.Done arm) = 0
rep_number rep.Gone = 1
rep_number rep.Fault = 2
rep_number rep.Unfit = 3
rep_number rep.BadFd = 4

abbrev pub rep_arm : BrickRep → List ℕ
rep_arm (rep.Done arm) = done_text arm
rep_arm rep.Gone = []
rep_arm rep.Fault = []
rep_arm rep.Unfit = []
rep_arm rep.BadFd = []

abbrev pub rep_text : BrickRep → List ℕ
rep_text r = unit (rep_number r) ++ rep_arm r
