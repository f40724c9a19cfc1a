-- On which sets a fop changes contents, and which objects it answers: those that a name showed on a set of its own graph, or
-- that it made there. Ours.
use Rattle.std.specs.Prelude.{◌≡◌, ◌⊎◌, ℕ, ◌<◌, false, List, [], ◌∷◌, Option}
use Rattle.dht_fops.specs.Handed.{Handed, Event, SawName}
use Rattle.dht_fops.specs.Handed.Event.{Replied, Held}
use Rattle.fop_types.specs.Names.{is_link}
use Rattle.fop_types.specs.declared.answers.FopAnswer.{FopAnswer}
use Rattle.fop_types.specs.declared.answers.FopAnswer.TheVariants as fop_answer
use Rattle.fop_types.specs.declared.cells.Gfid.{Gfid}
use Rattle.fop_types.specs.declared.cells.Kind.{Kind}
use Rattle.fop_types.specs.declared.contents.Item.{Item}
use Rattle.fop_types.specs.declared.jobs.Job.{Job}
use Rattle.fop_types.specs.declared.jobs.Job.TheVariants as job
use Rattle.mount_laws.specs.Effects.{DidNotFail}
use Rattle.mount_laws.specs.Objects.{added_by}

abbrev pub IsWithin : ℕ → Handed → ℕ → Job → Type 0
IsWithin count handed set (job.Change cells fd op effect) = set < count
IsWithin count handed set (job.Birth cells op) = set < count
IsWithin count handed set other = Unit {0}

-- a name of a directory showed the object on the set
pub record SawObject (handed : Handed) (set : ℕ) (gfid : Gfid) (k : Kind) : Type 0 where
  pub dir : Gfid
  pub name : List ℕ
  pub saw : SawName handed dir name set gfid k

-- the job adds a name of the object
pub record IsAdd (asked : Job) (gfid : Gfid) (k : Kind) : Type 0 where
  pub item : Item
  pub added : added_by asked ≡ item ∷ []
  pub gfid_is : item.gfid ≡ gfid
  pub kind_is : item.kind ≡ k
  pub no_link : is_link item.kind ≡ false

abbrev pub IsAddOf : Event → ℕ → Gfid → Kind → Type 0
IsAddOf (Replied one asked shown) set gfid k = (one ≡ set) × (DidNotFail shown × IsAdd asked gfid k)
IsAddOf (Held dir) set gfid k = ⊥

-- the fop added a name of the object on the set
abbrev pub WasAdded : Handed → ℕ → Gfid → Kind → Type 0
WasAdded [] set gfid k = ⊥
WasAdded (event ∷ handed) set gfid k = IsAddOf event set gfid k ⊎ WasAdded handed set gfid k

abbrev pub AnswersWithin : ℕ → Handed → FopAnswer → Option ℕ → Type 0
AnswersWithin count handed (fop_answer.Found set gfid k) place = (set < count) × (SawObject handed set gfid k ⊎ WasAdded handed set gfid k)
AnswersWithin count handed (fop_answer.Call answer) place = Unit {0}
