-- The bounds of values: which gfids, cells, contents, store ops, requests and replies a message can hold, and which
-- calls and fops a script can ask for. The encoding has exactly one form for each value within these bounds.
use Rattle.std.specs.List.{list_all}
use Rattle.std.specs.Prelude.{◌≡◌, ℕ, ◌≤◌, ◌<◌, ◌^◌, ◌==◌, ◌&&◌, ◌||◌, not, nat_le, nat_eq, Bool, true, false, List, [], ◌∷◌, length, take, Option, Some, None, codes}
use Rattle.std.specs.declared.cmp.Ordering.{Ordering}
use Rattle.std.specs.declared.cmp.Ordering.TheVariants.{Less}
use Rattle.std.specs.Ordering.{nat_cmp}
use Rattle.std.specs.Cmp.Lexicographic.{slice_cmp, pointwise}
use Rattle.fop_types.specs.Limits.{min_attr_name, max_attr_name, max_attr_value, max_list, max_item_name, max_volume_name, max_mode, max_data, max_cells, max_mask, max_index, max_made, max_open_fds, is_between}
use Rattle.fop_types.specs.Rank.{rank}
use Rattle.fop_types.specs.Orders.{cell_cmp}
use Rattle.fop_types.specs.declared.cells.Gfid.{Gfid}
use Rattle.fop_types.specs.declared.cells.Cell.{Cell}
use Rattle.fop_types.specs.declared.cells.Kind.{Kind}
use Rattle.fop_types.specs.declared.cells.Kind.TheVariants.{File, Dir, Link}
use Rattle.fop_types.specs.declared.contents.Span.{Span}
use Rattle.fop_types.specs.declared.contents.Attr.{Attr}
use Rattle.fop_types.specs.declared.contents.Item.{Item}
use Rattle.fop_types.specs.declared.contents.Row.{Row}
use Rattle.fop_types.specs.declared.contents.Mask.{Mask}
use Rattle.fop_types.specs.declared.contents.Content.{Content}
use Rattle.fop_types.specs.declared.contents.Content.TheVariants as content
use Rattle.fop_types.specs.declared.store_ops.StoreOp.{StoreOp}
use Rattle.fop_types.specs.declared.store_ops.StoreOp.TheVariants as op
use Rattle.fop_types.specs.declared.messages.BrickReq.{BrickReq}
use Rattle.fop_types.specs.declared.messages.BrickReq.TheVariants as req
use Rattle.fop_types.specs.declared.messages.DoneArm.{DoneArm}
use Rattle.fop_types.specs.declared.messages.DoneArm.TheVariants as arm
use Rattle.fop_types.specs.declared.messages.BrickRep.{BrickRep}
use Rattle.fop_types.specs.declared.messages.BrickRep.TheVariants as rep
use Rattle.fop_types.specs.declared.calls.Path.{Path}
use Rattle.fop_types.specs.declared.calls.Call.{Call}
use Rattle.fop_types.specs.declared.calls.Call.TheVariants as call
use Rattle.fop_types.specs.declared.fops.Object.{Object}
use Rattle.fop_types.specs.declared.fops.OpenFd.{OpenFd}
use Rattle.fop_types.specs.declared.fops.Fop.{Fop}
use Rattle.fop_types.specs.declared.fops.Fop.TheVariants as fop

-- ---- lists

abbrev pub Each : {A : Type 0} → (A → Type 0) → List A → Type 0
Each P [] = Unit {0}
Each P (x ∷ xs) = P x × Each P xs

-- Lists that rise without repeats. Where `strict` is false the order is left open: such lists stand only where it
-- is said with what the units before a wrong one agree.
abbrev pub Follows : {A : Type 0} → (A → A → Ordering) → Bool → Option A → A → Type 0
Follows compare false earlier x = Unit {0}
Follows compare true None x = Unit {0}
Follows compare true (Some e) x = compare e x ≡ Less

abbrev pub RisesFrom : {A : Type 0} → (A → A → Ordering) → Bool → Option A → List A → Type 0
RisesFrom compare strict earlier [] = Unit {0}
RisesFrom compare strict earlier (x ∷ xs) = Follows compare strict earlier x × RisesFrom compare strict (Some x) xs

abbrev pub Rises : {A : Type 0} → (A → A → Ordering) → Bool → List A → Type 0
Rises compare strict xs = RisesFrom compare strict None xs

-- ---- numbers

abbrev pub IsUnit : ℕ → Type 0
IsUnit n = n < 2 ^ 32

abbrev pub IsHyper : ℕ → Type 0
IsHyper n = n < 2 ^ 64

-- a mode is three octal digits
abbrev pub IsMode : ℕ → Type 0
IsMode mode = mode ≤ max_mode

-- a mask of at most five replicas
abbrev pub IsMask : Mask → Type 0
IsMask mask = mask.0 ≤ max_mask

-- the number of an open descriptor
abbrev pub IsOpenFd : ℕ → Type 0
IsOpenFd fd = (1 ≤ fd) × IsUnit fd

-- ---- what a brick keeps

abbrev pub IsGfid : Gfid → Type 0
IsGfid g = IsHyper g.hi × IsHyper g.lo

abbrev pub IsCell : Cell → Type 0
IsCell c = IsGfid c.gfid

-- a list of cells that rise, with bounds for their number
abbrev pub AreCells : ℕ → ℕ → List Cell → Type 0
AreCells least most cells = (least ≤ length cells) × (length cells ≤ most) × Each IsCell cells × Rises cell_cmp true cells

-- the cells of a lock, mark, post, clear and settle
abbrev pub AreFew : List Cell → Type 0
AreFew cells = AreCells 1 max_cells cells

abbrev pub IsSpan : Option Span → Type 0
IsSpan None = Unit {0}
IsSpan (Some s) = IsUnit s.first × IsUnit s.last

abbrev pub IsAttrName : List ℕ → Type 0
IsAttrName name = (min_attr_name ≤ length name) × (length name ≤ max_attr_name)

abbrev pub IsAttr : Attr → Type 0
IsAttr a = IsAttrName a.name × (length a.value ≤ max_attr_value)

abbrev pub attr_cmp : Attr → Attr → Ordering
attr_cmp a b = slice_cmp nat_cmp a.name b.name

abbrev pub AreAttrs : Bool → List Attr → Type 0
AreAttrs strict attrs = (length attrs ≤ max_list) × Each IsAttr attrs × Rises attr_cmp strict attrs

-- bytes 33 to 126 without `/`; and the letters, digits, `_`, `-` and `.` of a volume's name
abbrev pub is_name_byte : ℕ → Bool
is_name_byte b = is_between 33 126 b && not (b == 47)

abbrev pub is_volume_byte : ℕ → Bool
is_volume_byte b = (is_between 48 57 b || is_between 65 90 b) || (is_between 97 122 b || (b == 95 || is_between 45 46 b))

abbrev pub IsItemName : List ℕ → Type 0
IsItemName name = (1 ≤ length name) × (length name ≤ max_item_name) × (list_all is_name_byte name ≡ true)

-- the name of a volume, a brick or a session
abbrev pub IsVolumeName : List ℕ → Type 0
IsVolumeName name = (1 ≤ length name) × (length name ≤ max_volume_name) × (list_all is_volume_byte name ≡ true)

-- the volume that a link points to; nothing for a file or a directory
abbrev pub IsTarget : Kind → List ℕ → Type 0
IsTarget File target = length target ≡ 0
IsTarget Dir target = length target ≡ 0
IsTarget Link target = (1 ≤ length target) × (length target ≤ max_volume_name) × (list_all is_volume_byte target ≡ true)

abbrev pub IsItem : Item → Type 0
IsItem i = IsItemName i.name × IsGfid i.gfid × IsTarget i.kind i.target

abbrev pub item_cmp : Item → Item → Ordering
item_cmp a b = slice_cmp nat_cmp a.name b.name

abbrev pub AreItems : Bool → List Item → Type 0
AreItems strict items = (length items ≤ max_list) × Each IsItem items × Rises item_cmp strict items

-- the aspect of the cells that hold such a content, by its number
abbrev pub content_kind : Content → ℕ
content_kind (content.Bytes bytes) = 0
content_kind (content.Meta mode attrs span) = 1
content_kind (content.Names removed items) = 2

abbrev pub IsContent : Bool → Content → Type 0
IsContent strict (content.Bytes bytes) = length bytes ≤ max_data
IsContent strict (content.Meta mode attrs span) = IsMode mode × AreAttrs strict attrs × IsSpan span
IsContent strict (content.Names removed items) = AreItems strict items

abbrev pub IsRow : Row → Type 0
IsRow row = IsUnit row.dirty × (length row.pending ≡ 5) × Each IsUnit row.pending × IsHyper row.last

-- ---- messages

abbrev pub IsOp : StoreOp → Type 0
IsOp (op.Write gfid offset bytes) = IsGfid gfid × IsUnit offset × (length bytes ≤ max_data)
IsOp (op.Truncate gfid size) = IsGfid gfid × IsUnit size
IsOp (op.SetMode gfid mode) = IsGfid gfid × IsMode mode
IsOp (op.SetAttr gfid attr) = IsGfid gfid × IsAttr attr
IsOp (op.DelAttr gfid name) = IsGfid gfid × IsAttrName name
IsOp (op.AddName parent item mode span) = IsGfid parent × IsItem item × IsMode mode × IsSpan span
IsOp (op.DropName parent name) = IsGfid parent × IsItemName name
IsOp (op.DropDir parent name gfid) = IsGfid parent × IsItemName name × IsGfid gfid
IsOp (op.Move parent name target new_name) = IsGfid parent × IsItemName name × IsGfid target × IsItemName new_name
IsOp (op.MakeCopy gfid span) = IsGfid gfid × IsSpan span

abbrev pub IsReq : Bool → BrickReq → Type 0
IsReq strict (req.Lock call shared cells) = IsUnit call × AreFew cells
IsReq strict (req.Unlock call) = IsUnit call
IsReq strict (req.Mark change cells) = IsHyper change × AreFew cells
IsReq strict (req.Op change fd op) = IsHyper change × IsUnit fd × IsOp op
IsReq strict (req.Post change cells mask) = IsHyper change × AreFew cells × IsMask mask
IsReq strict (req.Fetch fd cell) = IsUnit fd × IsCell cell
IsReq strict (req.Replace cell last content) = IsCell cell × IsHyper last × (content_kind content ≡ rank cell.aspect) × IsContent strict content
IsReq strict (req.Clear cells mask) = AreFew cells × IsMask mask
IsReq strict (req.Settle cells mask) = AreFew cells × IsMask mask
IsReq strict req.Index = Unit {0}
IsReq strict (req.Open fd gfid) = IsOpenFd fd × IsGfid gfid
IsReq strict (req.Release fd) = IsOpenFd fd

abbrev pub IsDoneArm : Bool → DoneArm → Type 0
IsDoneArm strict arm.Nothing = Unit {0}
IsDoneArm strict (arm.Rows rows) = (length rows ≤ max_list) × Each IsRow rows
IsDoneArm strict (arm.Content content last) = IsContent strict content × IsHyper last
IsDoneArm strict (arm.Cells cells) = AreCells 0 max_index cells

abbrev pub IsRep : Bool → BrickRep → Type 0
IsRep strict (rep.Done arm) = IsDoneArm strict arm
IsRep strict rep.Gone = Unit {0}
IsRep strict rep.Fault = Unit {0}
IsRep strict rep.Unfit = Unit {0}
IsRep strict rep.BadFd = Unit {0}

-- ---- calls and fops

-- one component of a path, of any length: at least one byte, each a byte of a name, and neither `.` nor `..`
abbrev pub is_component : List ℕ → Bool
is_component name =
    (nat_le 1 (length name) && list_all is_name_byte name)
    && not (pointwise nat_eq name (codes ".") || pointwise nat_eq name (codes ".."))

abbrev pub IsComponent : List ℕ → Type 0
IsComponent name = is_component name ≡ true

abbrev pub IsPath : Path → Type 0
IsPath path = Each IsComponent path.parts

-- an attribute's name as a script gives it begins with `user.`
abbrev pub IsUserAttrName : List ℕ → Type 0
IsUserAttrName name = IsAttrName name × (take 5 name ≡ codes "user.")

abbrev pub IsUserAttr : Attr → Type 0
IsUserAttr attr = IsUserAttrName attr.name × (length attr.value ≤ max_attr_value)

-- the number of a descriptor in its session
abbrev pub IsSessionFd : ℕ → Type 0
IsSessionFd fd = fd ≤ 255

abbrev pub IsCall : Call → Type 0
IsCall (call.Mkdir path mode) = IsPath path × IsMode mode
IsCall (call.Rmdir path) = IsPath path
IsCall (call.Create fd path mode) = IsSessionFd fd × IsPath path × IsMode mode
IsCall (call.Unlink path) = IsPath path
IsCall (call.Rename path target) = IsPath path × IsPath target
IsCall (call.Open fd path) = IsSessionFd fd × IsPath path
IsCall (call.Stat path) = IsPath path
IsCall (call.List path) = IsPath path
IsCall (call.Chmod path mode) = IsPath path × IsMode mode
IsCall (call.Truncate path size) = IsPath path × IsUnit size
IsCall (call.SetAttr path attr) = IsPath path × IsUserAttr attr
IsCall (call.GetAttr path name) = IsPath path × IsUserAttrName name
IsCall (call.DelAttr path name) = IsPath path × IsUserAttrName name
IsCall (call.Read fd count) = IsSessionFd fd × (count ≤ max_data)
IsCall (call.Write fd bytes) = IsSessionFd fd × (length bytes ≤ max_data)
IsCall (call.Seek fd offset) = IsSessionFd fd × IsUnit offset
IsCall (call.Close fd) = IsSessionFd fd

abbrev pub IsObject : Object → Type 0
IsObject object = IsGfid object.gfid

abbrev pub IsOpened : OpenFd → Type 0
IsOpened opened = IsOpenFd opened.fd × IsGfid opened.gfid

abbrev pub IsFop : Fop → Type 0
IsFop (fop.Lookup parent name) = IsObject parent × IsComponent name
IsFop (fop.Mkdir parent name mode drawn) = IsObject parent × IsComponent name × IsMode mode × IsGfid drawn
IsFop (fop.Rmdir parent name) = IsObject parent × IsComponent name
IsFop (fop.Create fd parent name mode drawn) = IsOpenFd fd × IsObject parent × IsComponent name × IsMode mode × IsGfid drawn
IsFop (fop.Unlink parent name) = IsObject parent × IsComponent name
IsFop (fop.Rename parent name target new_name) = IsObject parent × IsComponent name × IsObject target × IsComponent new_name
IsFop (fop.Open fd object) = IsOpenFd fd × IsObject object
IsFop (fop.Stat object) = IsObject object
IsFop (fop.List object) = IsObject object
IsFop (fop.Chmod object mode) = IsObject object × IsMode mode
IsFop (fop.Truncate object size) = IsObject object × IsUnit size
IsFop (fop.SetAttr object attr) = IsObject object × IsUserAttr attr
IsFop (fop.GetAttr object name) = IsObject object × IsUserAttrName name
IsFop (fop.DelAttr object name) = IsObject object × IsUserAttrName name
IsFop (fop.Read fd object offset count) = IsOpenFd fd × IsObject object × (offset ≤ max_data) × (count ≤ max_data)
IsFop (fop.Write fd object offset bytes) = IsOpenFd fd × IsObject object × (offset ≤ max_data) × (length bytes ≤ max_data)
IsFop (fop.Migrate fds) = (length fds ≤ max_open_fds) × Each IsOpened fds
IsFop (fop.Heal count) = count ≤ max_made
