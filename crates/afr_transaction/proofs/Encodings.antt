-- A request of each phase has an encoding.
use Rattle.std.proofs.Common.{◌≡◌, ◌∙◌, ℕ, zero, suc, ◌+◌, ◌<◌, ◌≤◌, Bool, true, false, List, [], ◌∷◌, Option, Some, None, refl, sym, ap, subst, arith}
use Rattle.std.specs.Prelude.{length}
use Rattle.fop_types.specs.Bounds.{Each, IsCell, IsGfid, IsHyper, IsOp, IsOpenFd, IsReq, IsUnit}
use Rattle.fop_types.specs.Jobs.{IsJob}
use Rattle.fop_types.specs.declared.cells.Cell.{Cell}
use Rattle.fop_types.specs.declared.cells.Gfid.{Gfid}
use Rattle.fop_types.specs.declared.jobs.Job.{Job}
use Rattle.fop_types.specs.declared.jobs.Job.TheVariants as job
use Rattle.fop_types.specs.declared.messages.BrickReq.{BrickReq}
use Rattle.fop_types.specs.declared.messages.BrickReq.TheVariants as req
use Rattle.fop_types.specs.declared.store_ops.StoreOp.{StoreOp}
use Rattle.afr_phases.proofs.Encoded.{each_at}
use Rattle.afr_transaction.specs.declared.jobs.Kind.{Kind}
use Rattle.afr_transaction.specs.declared.jobs.Kind.TheVariants as kind
use Rattle.afr_transaction.specs.declared.phase.Phase.{Phase}
use Rattle.afr_transaction.specs.declared.phase.Phase.TheVariants as phase
use Rattle.afr_transaction.specs.declared.txn.Txn.{Txn}
use Rattle.afr_transaction.specs.Answers.{idle}
use Rattle.afr_transaction.specs.Encodings.{IsLocked, BoundsIn, IsOwn, RequestsAreEncoded}
use Rattle.afr_transaction.specs.Jobs.{kind_of, birth_op, change_op}
use Rattle.afr_transaction.specs.Reads.{fd_of}
use Rattle.afr_transaction.specs.Requests.{IsOfPhase}

unit_zero : IsUnit 0
unit_zero = omega arith

hyper_zero : IsHyper 0
hyper_zero = omega arith

fd_unit : (j : Job) → IsJob j → IsUnit (fd_of j)
fd_unit (job.Read cells fd dir) h = h.1
fd_unit (job.Change cells fd op effect) h = h.1
fd_unit (job.Birth cells op) h = unit_zero
fd_unit (job.Open fd gfid) h = h.0.1
fd_unit job.Index h = unit_zero
fd_unit (job.Heal cell) h = unit_zero

same_pair : (a b : ℕ × StoreOp) → ◌≡◌ {A = Option (ℕ × StoreOp)} (Some a) (Some b) → ◌≡◌ {A = ℕ × StoreOp} a b
same_pair a b e = cc

same_op : (a b : StoreOp) → ◌≡◌ {A = Option StoreOp} (Some a) (Some b) → a ≡ b
same_op a b e = cc

change_is : (j : Job) (op : ℕ × StoreOp) → IsJob j → ◌≡◌ {A = Option (ℕ × StoreOp)} (change_op j) (Some op) → IsUnit op.0 × IsOp op.1
change_is (job.Read cells fd dir) op h e = absurd cc
change_is (job.Change cells fd o effect) op h e = subst (λ (x : ℕ × StoreOp). IsUnit x.0 × IsOp x.1) (same_pair (fd, o) op e) (h.1, h.2)
change_is (job.Birth cells o) op h e = absurd cc
change_is (job.Open fd gfid) op h e = absurd cc
change_is job.Index op h e = absurd cc
change_is (job.Heal cell) op h e = absurd cc

birth_is : (j : Job) (op : StoreOp) → IsJob j → birth_op j ≡ Some op → IsOp op
birth_is (job.Read cells fd dir) op h e = absurd cc
birth_is (job.Change cells fd o effect) op h e = absurd cc
birth_is (job.Birth cells o) op h e = subst IsOp (same_op o op e) h.1
birth_is (job.Open fd gfid) op h e = absurd cc
birth_is job.Index op h e = absurd cc
birth_is (job.Heal cell) op h e = absurd cc

open_is : (j : Job) (fd : ℕ) (gfid : Gfid) → IsJob j → kind_of j ≡ kind.Open fd gfid → IsOpenFd fd × IsGfid gfid
open_is (job.Read cells a dir) fd gfid h e = absurd cc
open_is (job.Change cells a o effect) fd gfid h e = absurd cc
open_is (job.Birth cells o) fd gfid h e = absurd cc
open_is (job.Open a b) fd gfid h e =
    let f : a ≡ fd = cc in
    let g : b ≡ gfid = cc in
    (subst IsOpenFd f h.0, subst IsGfid g h.1)
open_is job.Index fd gfid h e = absurd cc
open_is (job.Heal cell) fd gfid h e = absurd cc

module _ (txn : Txn) (k : ℕ) (r : BrickReq) (own : IsOwn txn) where
  as_req : (q : BrickReq) → r ≡ q → IsReq true q → IsReq true r
  as_req q e h = subst (IsReq true) (sym e) h

  in_phase : (p : Phase) → BoundsIn p txn → IsOfPhase p txn k r → IsReq true r
  in_phase (phase.Locking at) b is = as_req _ is.1 (own.1, b.1)
  in_phase (phase.Unlocking after) b is = as_req _ is.1 own.1
  in_phase (phase.Fetching place from contents) b is = as_req _ is.1.is (fd_unit txn.job own.0, each_at IsCell txn.cells (length contents) is.1.cell b.1.2 is.1.at)
  in_phase (phase.Copying sinks rest) b is = absurd is
  in_phase (phase.Marking change) b is = as_req _ is.1 (b.1, b.0.1)
  in_phase (phase.Writing change) b is = as_req _ is.1.is (let c = change_is txn.job is.1.op own.0 is.1.at in (b.1, c.0, c.1))
  in_phase (phase.Posting change adopted) b is = as_req _ is.1.is (b.1, b.0.1, is.1.small)
  in_phase (phase.Settling verdict) b is = as_req _ is.1.is (b.1, is.1.small)
  in_phase phase.Bearing b is = as_req _ is.1.is (hyper_zero, unit_zero, birth_is txn.job is.1.op own.0 is.1.at)
  in_phase phase.Opening b is = as_req _ is.is (open_is txn.job is.fd is.gfid own.0 is.at)
  in_phase (phase.Listing all) b is = as_req req.Index is tt
  in_phase phase.Over b is = absurd is

pub encoded : RequestsAreEncoded
encoded txn k r bounds is = in_phase txn k r bounds.0 txn.phase bounds.1 is

-- the bounds of a phase are of the transaction's other values
pub in_idle : (p : Phase) (txn : Txn) → BoundsIn p txn → BoundsIn p (idle txn)
in_idle (phase.Locking at) txn b = b
in_idle (phase.Unlocking after) txn b = b
in_idle (phase.Fetching place from contents) txn b = b
in_idle (phase.Copying sinks parts) txn b = b
in_idle (phase.Marking change) txn b = b
in_idle (phase.Writing change) txn b = b
in_idle (phase.Posting change adopted) txn b = b
in_idle (phase.Settling verdict) txn b = b
in_idle phase.Bearing txn b = b
in_idle phase.Opening txn b = b
in_idle (phase.Listing all) txn b = b
in_idle phase.Over txn b = b
