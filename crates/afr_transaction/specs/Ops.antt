-- The op of a change follows its mark: it goes only to replicas that have confirmed the mark.
use Rattle.std.specs.Prelude.{◌≡◌, ℕ, true, List}
use Rattle.fop_types.specs.Bounds.{Each}
use Rattle.fop_types.specs.declared.cells.Cell.{Cell}
use Rattle.fop_types.specs.declared.contents.Mask.{Mask}
use Rattle.fop_types.specs.declared.messages.BrickRep.{BrickRep}
use Rattle.fop_types.specs.declared.messages.BrickReq.{BrickReq}
use Rattle.fop_types.specs.declared.messages.BrickReq.TheVariants as req
use Rattle.afr_ledger.specs.Ledger.{State}
use Rattle.afr_phases.specs.declared.wave.Wave.{Wave}
use Rattle.afr_phases.specs.Answers.{is_plain_done}
use Rattle.afr_phases.specs.Flags.{flag}
use Rattle.afr_phases.specs.Waves.{is_asked, taken}
use Rattle.afr_transaction.specs.declared.need.Need.{Need}
use Rattle.afr_transaction.specs.declared.need.Need.TheVariants as need
use Rattle.afr_transaction.specs.declared.phase.Phase.TheVariants as phase
use Rattle.afr_transaction.specs.declared.txn.Txn.{Txn}
use Rattle.afr_transaction.specs.Answers.{answered}
use Rattle.afr_transaction.specs.Causes.{Tracks}
use Rattle.afr_transaction.specs.Shapes.{is_asking}

-- a request to replica k is no op, or the replica has confirmed
abbrev pub OpIsConfirmed : Wave → ℕ → BrickReq → Type 0
OpIsConfirmed wave k (req.Op change fd op) = flag wave.confirmed k ≡ true
OpIsConfirmed wave k (req.Lock call is_shared cells) = Unit {0}
OpIsConfirmed wave k (req.Unlock call) = Unit {0}
OpIsConfirmed wave k (req.Mark change cells) = Unit {0}
OpIsConfirmed wave k (req.Post change cells accused) = Unit {0}
OpIsConfirmed wave k (req.Fetch fd cell) = Unit {0}
OpIsConfirmed wave k (req.Replace cell last content) = Unit {0}
OpIsConfirmed wave k (req.Clear cells mask) = Unit {0}
OpIsConfirmed wave k (req.Settle cells mask) = Unit {0}
OpIsConfirmed wave k req.Index = Unit {0}
OpIsConfirmed wave k (req.Open fd gfid) = Unit {0}
OpIsConfirmed wave k (req.Release fd) = Unit {0}

abbrev pub OpsAreConfirmed : Wave → Need → Type 0
OpsAreConfirmed wave (need.Send list) = Each (λ (r : ℕ × BrickReq). OpIsConfirmed wave r.0 r.1) list
OpsAreConfirmed wave (need.Copy job rows) = Unit {0}
OpsAreConfirmed wave (need.Reply reply) = Unit {0}
OpsAreConfirmed wave need.Wait = Unit {0}

-- what follows a mark: an op goes only to replicas that have confirmed it
abbrev pub OpsFollowMarks : Type 0
OpsFollowMarks = (txn : Txn) (k mark change : ℕ) (rep : BrickRep) (ledger : State Cell) (live : Mask) (last : List ℕ)
    → is_asking txn ≡ true → Tracks txn → is_asked txn.wave k ≡ true → txn.phase ≡ phase.Marking change
    → OpsAreConfirmed (taken txn.wave k (is_plain_done rep)) (answered txn k rep mark ledger live last).1.0
