-- What the steps of a node make, by its kind.
use Rattle.std.specs.Prelude.{◌≡◌, ℕ}
use Rattle.xlator_law.specs.declared.step.Step.{Step}
use Rattle.xlator_law.specs.Law.{Cause}
use Rattle.xlator_law.specs.Law.Cause.{Enter, Reply, Go}
use Rattle.graph_items.specs.declared.items.Down.{Down}
use Rattle.graph_items.specs.declared.items.Up.{Up}
use Rattle.graph_nodes.specs.declared.context.Context.{Context}
use Rattle.graph_nodes.specs.declared.locals.Local.{Local}
use Rattle.graph_nodes.specs.declared.locals.Local.TheVariants as local
use Rattle.graph_nodes.specs.declared.kinds.Kind.{Kind}
use Rattle.graph_nodes.specs.declared.kinds.Kind.TheVariants as kind
use Rattle.graph_nodes.specs.declared.kinds.Node.{Node}
use Rattle.graph_nodes.specs.declared.kinds.Distribute.{Distribute}
use Rattle.graph_nodes.specs.declared.kinds.IoCache.{IoCache}
use Rattle.graph_nodes.specs.declared.kinds.IoThreads.{IoThreads}
use Rattle.graph_nodes.specs.declared.kinds.Replicate.{Replicate}
use Rattle.graph_nodes.specs.Client.{enter_of as client_enter, resume_of as client_resume}
use Rattle.graph_nodes.specs.Distribute.{IsBegun as FopBegins, GoesOn as FopGoesOn, OnExtended}
use Rattle.graph_nodes.specs.IoCache.{IsEntered, IsAnswered}
use Rattle.graph_nodes.specs.IoThreads.{IsQueued, go_on_of}
use Rattle.graph_nodes.specs.Moves.{Move, IsMove}
use Rattle.graph_nodes.specs.Pass.{enter_of as pass_enter, resume_of as pass_resume}
use Rattle.graph_nodes.specs.Replicate.{IsTurn, resume_of as job_resume, IsBegun as JobBegins}
use Rattle.graph_nodes.specs.Root.{enter_of as root_enter, resume_of as root_resume}

-- the step is this move, and neither the node nor the context changes
pub record Plainly (move : Move) (old : Node) (cx : Context) (step : Step Down Up Local) (new : Node) (cx_new : Context) : Type 0 where
  pub move_is : IsMove move step
  pub node : new ≡ old
  pub cx_is : cx_new ≡ cx

-- the distribute node changes so, and else the node is the same
pub record AsFop (made : Distribute → Type 0) (old new : Node) : Type 0 where
  pub after : Distribute
  pub makes : made after
  pub kind_is : new.kind ≡ kind.Distribute after
  pub sets : new.sets ≡ old.sets
  pub weight : new.weight ≡ old.weight
  pub breadth : new.breadth ≡ old.breadth

-- the node stays as it is
pub record Stays (made : Type 0) (old new : Node) : Type 0 where
  pub makes : made
  pub node : new ≡ old

-- a fop under way takes a reply
abbrev pub FopResumes : Distribute → Context → Local → Up → Step Down Up Local → Distribute → Context → Type 0
FopResumes d cx (local.Distribute frame) reply step after cx_new = FopGoesOn d cx frame reply step after cx_new
FopResumes d cx local.Relay reply step after cx_new = ⊥
FopResumes d cx (local.Queued what) reply step after cx_new = ⊥
FopResumes d cx (local.Pages read) reply step after cx_new = ⊥
FopResumes d cx (local.Set frame) reply step after cx_new = ⊥

-- a fop goes on whose hold was extended
abbrev pub FopGoes : Distribute → Context → Local → Step Down Up Local → Context → Type 0
FopGoes d cx (local.Distribute frame) step cx_new = OnExtended frame.fop.asked d cx frame step cx_new
FopGoes d cx local.Relay step cx_new = ⊥
FopGoes d cx (local.Queued what) step cx_new = ⊥
FopGoes d cx (local.Pages read) step cx_new = ⊥
FopGoes d cx (local.Set frame) step cx_new = ⊥

-- a job under way takes the reply of a slot
abbrev pub JobResumes : Replicate → Context → Local → ℕ → Up → Step Down Up Local → Context → Type 0
JobResumes r cx (local.Set frame) slot reply step cx_new = IsTurn (job_resume r.plan cx frame slot reply) step cx_new
JobResumes r cx local.Relay slot reply step cx_new = ⊥
JobResumes r cx (local.Queued what) slot reply step cx_new = ⊥
JobResumes r cx (local.Pages read) slot reply step cx_new = ⊥
JobResumes r cx (local.Distribute frame) slot reply step cx_new = ⊥

abbrev pub FopMakes : Distribute → Node → Context → Cause Down Up Local → Step Down Up Local → Node → Context → Type 0
FopMakes d old cx (Enter entry what) step new cx_new = Stays (FopBegins d cx entry what step cx_new) old new
FopMakes d old cx (Reply l slot reply) step new cx_new = AsFop (λ after. FopResumes d cx l reply step after cx_new) old new
FopMakes d old cx (Go l) step new cx_new = Stays (FopGoes d cx l step cx_new) old new

abbrev pub JobMakes : Replicate → Node → Context → Cause Down Up Local → Step Down Up Local → Node → Context → Type 0
JobMakes r old cx (Enter entry what) step new cx_new = Stays (JobBegins r.plan cx entry.call what step cx_new) old new
JobMakes r old cx (Reply l slot reply) step new cx_new = Stays (JobResumes r cx l slot reply step cx_new) old new
JobMakes r old cx (Go l) step new cx_new = ⊥

-- the io-threads node changes so, and else the node is the same
pub record AsQueue (made : IoThreads → Type 0) (old new : Node) : Type 0 where
  pub after : IoThreads
  pub makes : made after
  pub node : new ≡ record old { kind = kind.IoThreads after }

-- the io-cache node changes so, and else neither the node nor the context does
pub record AsCache (made : IoCache → Type 0) (old new : Node) (cx cx_new : Context) : Type 0 where
  pub after : IoCache
  pub makes : made after
  pub node : new ≡ record old { kind = kind.IoCache after }
  pub cx_is : cx_new ≡ cx

abbrev pub QueueMakes : IoThreads → Node → Context → Cause Down Up Local → Step Down Up Local → Node → Context → Type 0
QueueMakes q old cx (Enter entry what) step new cx_new = AsQueue (λ after. IsQueued q cx entry what step after cx_new) old new
QueueMakes q old cx (Reply l slot reply) step new cx_new = Plainly (pass_resume reply) old cx step new cx_new
QueueMakes q old cx (Go l) step new cx_new = Plainly (go_on_of l) old cx step new cx_new

abbrev pub CacheMakes : IoCache → Node → Context → Cause Down Up Local → Step Down Up Local → Node → Context → Type 0
CacheMakes c old cx (Enter entry what) step new cx_new = AsCache (λ after. IsEntered c what step after) old new cx cx_new
CacheMakes c old cx (Reply l slot reply) step new cx_new = AsCache (λ after. IsAnswered c l reply step after) old new cx cx_new
CacheMakes c old cx (Go l) step new cx_new = ⊥

-- no frame of a kind that is not named here waits for what is no wind
abbrev pub MakesByKind : Kind → Node → Context → Cause Down Up Local → Step Down Up Local → Node → Context → Type 0
MakesByKind kind.Root old cx (Enter entry what) step new cx_new = Plainly (root_enter what) old cx step new cx_new
MakesByKind kind.Root old cx (Reply l slot reply) step new cx_new = Plainly (root_resume cx.ledger reply) old cx step new cx_new
MakesByKind kind.Root old cx (Go l) step new cx_new = ⊥
MakesByKind kind.Pass old cx (Enter entry what) step new cx_new = Plainly (pass_enter what) old cx step new cx_new
MakesByKind kind.Pass old cx (Reply l slot reply) step new cx_new = Plainly (pass_resume reply) old cx step new cx_new
MakesByKind kind.Pass old cx (Go l) step new cx_new = ⊥
MakesByKind (kind.IoThreads q) old cx cause step new cx_new = QueueMakes q old cx cause step new cx_new
MakesByKind (kind.IoCache c) old cx cause step new cx_new = CacheMakes c old cx cause step new cx_new
MakesByKind (kind.Distribute d) old cx cause step new cx_new = FopMakes d old cx cause step new cx_new
MakesByKind (kind.Replicate r) old cx cause step new cx_new = JobMakes r old cx cause step new cx_new
MakesByKind (kind.Client c) old cx (Enter entry what) step new cx_new = Plainly (client_enter cx.clients c.brick what) old cx step new cx_new
MakesByKind (kind.Client c) old cx (Reply l slot reply) step new cx_new = Plainly (client_resume reply) old cx step new cx_new
MakesByKind (kind.Client c) old cx (Go l) step new cx_new = ⊥

abbrev pub node_makes : Node → Context → Cause Down Up Local → Step Down Up Local → Node → Context → Type 0
node_makes old cx cause step new cx_new = MakesByKind old.kind old cx cause step new cx_new
