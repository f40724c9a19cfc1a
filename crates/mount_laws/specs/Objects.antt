-- The objects of the files: each was made by one adopted change, with its kind and on its set; the names on the sets are of
-- objects that were made, and so are the objects that calls know and that fops name. Ours.
use Rattle.std.specs.Prelude.{◌≡◌, ◌≢◌, ◌⊎◌, ℕ, false, List, [], ◌∷◌, Option, Some}
use Rattle.afr_machine.specs.Changes.Verdict.{Adopted}
use Rattle.dht_fops.specs.Answers.{AreMade}
use Rattle.dht_fops.specs.Courses.{Course}
use Rattle.dht_fops.specs.Handed.{Handed, Event}
use Rattle.dht_fops.specs.Handed.Event.{Replied, Held}
use Rattle.dht_fops.specs.Shown.{Homes}
use Rattle.dht_fops.specs.Standing.{Volumes, IsMade}
use Rattle.fop_types.specs.Bounds.{Each}
use Rattle.fop_types.specs.Cells.{root}
use Rattle.fop_types.specs.Files.{first_files}
use Rattle.fop_types.specs.History.{files_after}
use Rattle.fop_types.specs.Names.{is_link}
use Rattle.fop_types.specs.StoreOps.{items_of}
use Rattle.fop_types.specs.declared.cells.Cell.{Cell}
use Rattle.fop_types.specs.declared.cells.Gfid.{Gfid}
use Rattle.fop_types.specs.declared.cells.Kind.{Kind}
use Rattle.fop_types.specs.declared.cells.Kind.TheVariants as kind
use Rattle.fop_types.specs.declared.contents.Content.{Content}
use Rattle.fop_types.specs.declared.contents.Item.{Item}
use Rattle.fop_types.specs.declared.contents.Span.{Span}
use Rattle.fop_types.specs.declared.history.Entry.{Entry}
use Rattle.fop_types.specs.declared.jobs.Job.{Job}
use Rattle.fop_types.specs.declared.jobs.Job.TheVariants as job
use Rattle.fop_types.specs.declared.jobs.SetReply.{SetReply}
use Rattle.fop_types.specs.declared.store_ops.StoreOp.{StoreOp}
use Rattle.fop_types.specs.declared.store_ops.StoreOp.TheVariants as op
use Rattle.mount_laws.specs.Effects.{DidNotFail}
use Rattle.mount_laws.specs.Runs.{Run, Stage}
use Rattle.mount_laws.specs.States.{State, Change, Runs}
use Rattle.mount_laws.specs.Steps.{contents_shown}

-- the sets, with the flat file system after the history
abbrev pub volumes : State → Volumes
volumes m = record { contents = m.adopted; homes = m.homes; kinds = m.kinds; files = files_after first_files m.ops }

-- ---- drawn gfids

-- No two calls drew one gfid, and none drew the root's.
pub record DrawnApart (m : State) : Type 0 where
  pub apart : (a b : ℕ) (gfid : Gfid) → (m.calls a).drawn ≡ Some gfid → (m.calls b).drawn ≡ Some gfid → a ≡ b
  pub no_root : (c : ℕ) (gfid : Gfid) → (m.calls c).drawn ≡ Some gfid → gfid ≢ root

-- ---- what was made

-- the adopted change that made the object, on the file's home
pub record IsMadeBy (changes : ℕ → Change) (homes : Homes) (gfid : Gfid) (k : Kind) : Type 0 where
  pub change : ℕ
  pub adopted : (changes change).verdict ≡ Adopted
  pub entry : Entry
  pub effect : (changes change).effect ≡ Some entry
  pub parent : Gfid
  pub item : Item
  pub mode : ℕ
  pub span : Option Span
  pub op_is : (changes change).op ≡ op.AddName parent item mode span
  pub gfid_is : item.gfid ≡ gfid
  pub kind_is : item.kind ≡ k
  pub home_is : homes gfid ≡ (changes change).set

-- Each object that was made is the root, or was made by a change that was adopted.
abbrev pub MadeByChange : State → Type 0
MadeByChange m = (gfid : Gfid) (k : Kind) → m.kinds gfid ≡ Some k → ((gfid ≡ root) × (k ≡ kind.Dir)) ⊎ IsMadeBy m.changes m.homes gfid k

-- ---- names

-- the object was made with this kind, and a file lives on the set
abbrev pub IsMadeOn : (Gfid → Option Kind) → Homes → ℕ → Gfid → Kind → Type 0
IsMadeOn kinds homes set gfid k = (kinds gfid ≡ Some k) × (k ≡ kind.File → homes gfid ≡ set)

-- an item is a link, or names such an object; a directory's name is on the first set
abbrev pub IsNameMade : (Gfid → Option Kind) → Homes → ℕ → Item → Type 0
IsNameMade kinds homes set item = is_link item.kind ≡ false → IsMadeOn kinds homes set item.gfid item.kind × (item.kind ≡ kind.Dir → set ≡ 0)

abbrev pub AreNamesMade : (Gfid → Option Kind) → Homes → ℕ → List Item → Type 0
AreNamesMade kinds homes set items = Each (λ (item : Item). IsNameMade kinds homes set item) items

-- Each name on a set is a link, or of an object that was made; a file's name is on its home, a directory's on the first set.
abbrev pub NamesAreMade : State → Type 0
NamesAreMade m = (set : ℕ) (cell : Cell) → AreNamesMade m.kinds m.homes set (items_of (m.adopted set cell))

-- ---- what a fop was handed in

-- the item that a change with an effect adds
abbrev pub item_added : StoreOp → List Item
item_added (op.AddName parent item mode span) = item ∷ []
item_added other = []

abbrev pub added_by : Job → List Item
added_by (job.Change cells fd o (Some entry)) = item_added o
added_by other = []

-- the contents that a read showed
abbrev pub contents_read : Job → SetReply → List (Option Content)
contents_read (job.Read cells fd dir) shown = contents_shown shown
contents_read other shown = []

-- the names that a read showed, and the name that an answered change added, are of objects that were made
abbrev pub IsEventMade : (Gfid → Option Kind) → Homes → Event → Type 0
IsEventMade kinds homes (Held dir) = Unit {0}
IsEventMade kinds homes (Replied set asked shown) =
    Each (λ (content : Option Content). AreNamesMade kinds homes set (items_of content)) (contents_read asked shown) × (DidNotFail shown → AreNamesMade kinds homes set (added_by asked))

abbrev pub AreEventsMade : (Gfid → Option Kind) → Homes → Handed → Type 0
AreEventsMade kinds homes [] = Unit {0}
AreEventsMade kinds homes (event ∷ handed) = IsEventMade kinds homes event × AreEventsMade kinds homes handed

-- and so is the name that the job under way has added
abbrev pub IsRunMade : (Gfid → Option Kind) → Homes → Run → Type 0
IsRunMade kinds homes run =
    AreEventsMade kinds homes run.handed
    × ((number : Option ℕ) (set : ℕ) (asked : Job) (next : SetReply → Course) → run.stage ≡ Stage.Decided number → run.course ≡ Course.Asks set asked next → AreNamesMade kinds homes set (added_by asked))

-- What a fop was handed in names objects that were made.
abbrev pub HandedIsMade : State → Type 0
HandedIsMade m = (c : ℕ) (run : Run) → Runs m c run → IsRunMade m.kinds m.homes run

-- ---- objects that calls know

-- Each object that was answered, or that a fop under way names, was made, with its kind, and a file's set is its home.
pub record ObjectsMade (m : State) : Type 0 where
  pub known : Each (IsMade (volumes m)) m.known
  pub fops : (c : ℕ) (run : Run) → Runs m c run → AreMade (volumes m) run.fop
