-- The bounds of what sets reply to a fop, whatever a reply answers, and of what the fop then asks of them.
use Rattle.std.specs.Prelude.{◌≡◌, ℕ, ◌<◌, ◌≤◌, true, List, [], ◌∷◌, length, Option, IfSome}
use Rattle.dht_fops.specs.Courses.{Course}
use Rattle.dht_fops.specs.Courses.Course.{Asks, Extends, Ends}
use Rattle.dht_fops.specs.Fops.{fop_course}
use Rattle.dht_fops.specs.Founded.{NamesSets}
use Rattle.dht_fops.specs.Volumes.{Kept}
use Rattle.dht_fops.specs.declared.volume.Volume.{Volume}
use Rattle.fop_types.specs.Bounds.{Each, IsGfid, IsFop, IsVolumeName}
use Rattle.fop_types.specs.Jobs.{IsJob, IsAnsweredBy, IsSetReply}
use Rattle.fop_types.specs.declared.answers.Answer.{Answer}
use Rattle.fop_types.specs.declared.answers.FopAnswer.{FopAnswer}
use Rattle.fop_types.specs.declared.answers.FopAnswer.TheVariants.{Found, Call}
use Rattle.fop_types.specs.declared.fops.Fop.{Fop}
use Rattle.fop_types.specs.declared.jobs.Job.{Job}
use Rattle.fop_types.specs.declared.jobs.SetReply.{SetReply}

-- an object that is found is on a set of the volume, with a gfid within its bounds
abbrev pub NamesObject : ℕ → FopAnswer → Type 0
NamesObject count (Found set gfid kind) = (set < count) × IsGfid gfid
NamesObject count (Call answer) = Unit {0}

-- Wherever replies within their bounds lead a course, each job is on a set of the volume and is one that a set takes, the
-- hold is extended by a gfid within its bounds, and so is an object that is found.
abbrev pub KeepsBounds : ℕ → Course → Type 0
KeepsBounds count (Asks set job next) = (set < count) × IsJob job × ((reply : SetReply) → IsSetReply reply → KeepsBounds count (next reply))
KeepsBounds count (Extends dir next) = IsGfid dir × KeepsBounds count next
KeepsBounds count (Ends answer place) = NamesObject count answer

-- Every fop does, from its beginning, where its values are within their bounds and the sets' names are names of volumes.
abbrev pub FopsKeepBounds : Type 0
FopsKeepBounds = (v : Volume) (names : List (List ℕ)) (kept : Kept) (f : Fop) → 1 ≤ v.root_sets → v.root_sets ≤ v.sets → length names ≡ v.sets → Each IsVolumeName names → NamesSets v.sets f → IsFop f
    → KeepsBounds v.sets (fop_course v names kept f)

-- A reply that answers its job is within its bounds.
abbrev pub AnswersHaveBounds : Type 0
AnswersHaveBounds = (set quorum : ℕ) (job : Job) (reply : SetReply) → IsAnsweredBy set quorum job reply → IsSetReply reply
