-- On which set a name is added: a directory's on the first, and a file's or a link's on the set to which the name belongs, by
-- the layout that is known, and where none is by the ranges that the sets showed.
use Rattle.std.specs.Prelude.{◌≡◌, ◌⊎◌, ℕ, ◌+◌, List, [], ◌∷◌, length, Option, Some, None, Result, Ok, Err}
use Rattle.dht_linkto.specs.DirNames.{first_content}
use Rattle.dht_linkto.specs.Search.{hashed_set}
use Rattle.dht_fops.specs.Courses.{contents_in}
use Rattle.dht_fops.specs.Fops.{fop_course}
use Rattle.dht_fops.specs.Handed.{Handed, Event, Always, AnyHold, AnyAnswer}
use Rattle.dht_fops.specs.Handed.Event.{Replied, Held}
use Rattle.dht_fops.specs.Looks.{span_job, span_of}
use Rattle.dht_fops.specs.Volumes.{Kept, known_set}
use Rattle.dht_fops.specs.declared.volume.Volume.{Volume}
use Rattle.fop_types.specs.declared.answers.IoError.{IoError}
use Rattle.fop_types.specs.declared.cells.Gfid.{Gfid}
use Rattle.fop_types.specs.declared.cells.Kind.{Kind}
use Rattle.fop_types.specs.declared.cells.Kind.TheVariants as kind
use Rattle.fop_types.specs.declared.contents.Content.{Content}
use Rattle.fop_types.specs.declared.contents.Span.{Span}
use Rattle.fop_types.specs.declared.fops.Fop.{Fop}
use Rattle.fop_types.specs.declared.jobs.Job.{Job}
use Rattle.fop_types.specs.declared.jobs.Job.TheVariants as job
use Rattle.fop_types.specs.declared.store_ops.StoreOp.{StoreOp}
use Rattle.fop_types.specs.declared.store_ops.StoreOp.TheVariants as op

-- ---- the layout as it was read

abbrev pub ShowsSpan : Result (List (Option Content) × ℕ) IoError → Option Span → Type 0
ShowsSpan (Ok read) span = span_of (first_content read.0) ≡ span
ShowsSpan (Err error) span = ⊥

abbrev pub IsSpanOf : Event → Gfid → ℕ → Option Span → Type 0
IsSpanOf (Replied one j said) dir set span = (one ≡ set) × (j ≡ span_job dir) × ShowsSpan (contents_in said) span
IsSpanOf (Held held) dir set span = ⊥

-- a read of the directory's metadata on the set showed this range, or none
abbrev pub SawSpan : Handed → Gfid → ℕ → Option Span → Type 0
SawSpan [] dir set span = ⊥
SawSpan (event ∷ handed) dir set span = IsSpanOf event dir set span ⊎ SawSpan handed dir set span

-- the sets from one on showed these
abbrev pub SawSpans : Handed → Gfid → ℕ → List (Option Span) → Type 0
SawSpans handed dir set [] = Unit {0}
SawSpans handed dir set (span ∷ spans) = SawSpan handed dir set span × SawSpans handed dir (set + 1) spans

-- the ranges of all sets were read, and the name belongs to the set by these
pub record SawLayout (count : ℕ) (handed : Handed) (dir : Gfid) (name : List ℕ) (set : ℕ) : Type 0 where
  pub spans : List (Option Span)
  pub whole : length spans ≡ count
  pub saw : SawSpans handed dir 0 spans
  pub set_is : hashed_set spans name ≡ set

-- by the set that is known, or, where none is, by the ranges that so many sets showed
abbrev pub IsSetBy : Option ℕ → ℕ → Handed → Gfid → List ℕ → ℕ → Type 0
IsSetBy (Some known) count handed dir name set = set ≡ known
IsSetBy None count handed dir name set = SawLayout count handed dir name set

-- the set, of so many, to which a name of the directory belongs
abbrev pub IsSetOf : Volume → ℕ → Kept → Handed → Gfid → List ℕ → ℕ → Type 0
IsSetOf v count kept handed dir name set = IsSetBy (known_set v kept dir name) count handed dir name set

-- ---- jobs

abbrev pub IsAddedOn : Volume → ℕ → Kept → Handed → ℕ → Gfid → List ℕ → Kind → Type 0
IsAddedOn v count kept handed set parent name kind.File = IsSetOf v count kept handed parent name set
IsAddedOn v count kept handed set parent name kind.Dir = set ≡ 0
IsAddedOn v count kept handed set parent name kind.Link = ⊥

abbrev pub IsOnSet : Volume → ℕ → Kept → Handed → ℕ → StoreOp → Type 0
IsOnSet v count kept handed set (op.AddName parent item mode span) = IsAddedOn v count kept handed set parent item.name item.kind
IsOnSet v count kept handed set (op.DropName parent name) = Unit {0}
IsOnSet v count kept handed set (op.DropDir parent name gfid) = Unit {0}
IsOnSet v count kept handed set (op.Move parent name target new_name) = Unit {0}
IsOnSet v count kept handed set (op.Write gfid offset bytes) = Unit {0}
IsOnSet v count kept handed set (op.Truncate gfid size) = Unit {0}
IsOnSet v count kept handed set (op.SetMode gfid mode) = Unit {0}
IsOnSet v count kept handed set (op.SetAttr gfid attr) = Unit {0}
IsOnSet v count kept handed set (op.DelAttr gfid name) = Unit {0}
IsOnSet v count kept handed set (op.MakeCopy gfid span) = Unit {0}

-- a link is added on the set to which its name belongs
abbrev pub IsLinkOnSet : Volume → ℕ → Kept → Handed → ℕ → StoreOp → Type 0
IsLinkOnSet v count kept handed set (op.AddName parent item mode span) = IsSetOf v count kept handed parent item.name set
IsLinkOnSet v count kept handed set (op.DropName parent name) = Unit {0}
IsLinkOnSet v count kept handed set (op.DropDir parent name gfid) = Unit {0}
IsLinkOnSet v count kept handed set (op.Move parent name target new_name) = Unit {0}
IsLinkOnSet v count kept handed set (op.Write gfid offset bytes) = Unit {0}
IsLinkOnSet v count kept handed set (op.Truncate gfid size) = Unit {0}
IsLinkOnSet v count kept handed set (op.SetMode gfid mode) = Unit {0}
IsLinkOnSet v count kept handed set (op.SetAttr gfid attr) = Unit {0}
IsLinkOnSet v count kept handed set (op.DelAttr gfid name) = Unit {0}
IsLinkOnSet v count kept handed set (op.MakeCopy gfid span) = Unit {0}

abbrev pub AddsOnSet : Volume → ℕ → Kept → Handed → ℕ → Job → Type 0
AddsOnSet v count kept handed set (job.Change cells fd o (Some entry)) = IsOnSet v count kept handed set o
AddsOnSet v count kept handed set (job.Change cells fd o None) = IsLinkOnSet v count kept handed set o
AddsOnSet v count kept handed set (job.Birth cells o) = Unit {0}
AddsOnSet v count kept handed set (job.Read cells fd dir) = Unit {0}
AddsOnSet v count kept handed set (job.Open fd gfid) = Unit {0}
AddsOnSet v count kept handed set job.Index = Unit {0}
AddsOnSet v count kept handed set (job.Heal cell) = Unit {0}

-- Each change that adds a name is on that set, of as many as there are names of sets, whatever the replies are.
abbrev pub FopsAddOnSets : Type 0
FopsAddOnSets = (v : Volume) (names : List (List ℕ)) (kept : Kept) (f : Fop) → Always (AddsOnSet v (length names) kept) AnyHold AnyAnswer [] (fop_course v names kept f)
