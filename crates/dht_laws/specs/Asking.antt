-- What a fop asks for before it is done that changes nothing by itself: an open its descriptor, the opening of descriptors in
-- a new graph each of them, and a heal the index of every set.
use Rattle.std.specs.Prelude.{◌≡◌, ◌⊎◌, ℕ, ◌<◌, List, [], ◌∷◌, Option}
use Rattle.dht_fops.specs.Fops.{fop_course}
use Rattle.dht_fops.specs.Handed.{Handed, Always, AnyJob, AnyHold}
use Rattle.dht_fops.specs.Handed.Event.{Replied, Held}
use Rattle.dht_fops.specs.Volumes.{Kept}
use Rattle.dht_fops.specs.declared.volume.Volume.{Volume}
use Rattle.fop_types.specs.Bounds.{Each}
use Rattle.fop_types.specs.declared.answers.Answer.TheVariants as answer
use Rattle.fop_types.specs.declared.answers.FopAnswer.{FopAnswer}
use Rattle.fop_types.specs.declared.answers.FopAnswer.TheVariants as fop_answer
use Rattle.fop_types.specs.declared.cells.Gfid.{Gfid}
use Rattle.fop_types.specs.declared.fops.Fop.{Fop}
use Rattle.fop_types.specs.declared.fops.Fop.TheVariants as fop
use Rattle.fop_types.specs.declared.fops.OpenFd.{OpenFd}
use Rattle.fop_types.specs.declared.jobs.Job.{Job}
use Rattle.fop_types.specs.declared.jobs.Job.TheVariants as job

-- ---- what was asked

-- the job opens the file by this descriptor
abbrev pub IsOpenJob : Job → ℕ → Gfid → Type 0
IsOpenJob (job.Read cells fd dir) own gfid = ⊥
IsOpenJob (job.Change cells fd o effect) own gfid = ⊥
IsOpenJob (job.Birth cells o) own gfid = ⊥
IsOpenJob (job.Open fd file) own gfid = (fd ≡ own) × (file ≡ gfid)
IsOpenJob job.Index own gfid = ⊥
IsOpenJob (job.Heal cell) own gfid = ⊥

abbrev pub IsIndexJob : Job → Type 0
IsIndexJob (job.Read cells fd dir) = ⊥
IsIndexJob (job.Change cells fd o effect) = ⊥
IsIndexJob (job.Birth cells o) = ⊥
IsIndexJob (job.Open fd file) = ⊥
IsIndexJob job.Index = Unit {0}
IsIndexJob (job.Heal cell) = ⊥

-- the set was asked to open the file
abbrev pub WasOpened : Handed → ℕ → ℕ → Gfid → Type 0
WasOpened [] set fd gfid = ⊥
WasOpened (Held dir ∷ handed) set fd gfid = WasOpened handed set fd gfid
WasOpened (Replied one asked said ∷ handed) set fd gfid = ((one ≡ set) × IsOpenJob asked fd gfid) ⊎ WasOpened handed set fd gfid

-- the set was asked for its index
abbrev pub WasIndexed : Handed → ℕ → Type 0
WasIndexed [] set = ⊥
WasIndexed (Held dir ∷ handed) set = WasIndexed handed set
WasIndexed (Replied one asked said ∷ handed) set = ((one ≡ set) × IsIndexJob asked) ⊎ WasIndexed handed set

-- ---- before an answer

abbrev pub HasAsked : Volume → Fop → Handed → FopAnswer → Option ℕ → Type 0
HasAsked v (fop.Open fd object) handed a place = a ≡ fop_answer.Call answer.Done → WasOpened handed object.set fd object.gfid
HasAsked v (fop.Migrate fds) handed a place = Each (λ (one : OpenFd). WasOpened handed one.set one.fd one.gfid) fds
HasAsked v (fop.Heal count) handed a place = (set : ℕ) → set < v.sets → WasIndexed handed set
HasAsked v other handed a place = Unit {0}

-- Each of these fops is answered after it has asked for this, whatever the replies are.
abbrev pub FopsAskAll : Type 0
FopsAskAll = (v : Volume) (names : List (List ℕ)) (kept : Kept) (f : Fop) → Always AnyJob AnyHold (HasAsked v f) [] (fop_course v names kept f)
