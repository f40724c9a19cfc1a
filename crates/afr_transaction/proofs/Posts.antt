-- A post accuses exactly the replicas that have not confirmed the op.
use Rattle.std.proofs.Common.{◌≡◌, ℕ, ◌<◌, Bool, true, false, ◌&&◌, not, cond, List, [], Option, Some, None, is_none, refl, sym, subst, arith}
use Rattle.std.proofs.lemmas.Bool.{cond_both, and_parts}
use Rattle.fop_types.specs.declared.cells.Cell.{Cell}
use Rattle.fop_types.specs.declared.causes.SkipCause.TheVariants as skip
use Rattle.fop_types.specs.declared.contents.Mask.{Mask}
use Rattle.fop_types.specs.declared.jobs.SetReply.{SetReply}
use Rattle.fop_types.specs.declared.jobs.SetReply.TheVariants as reply
use Rattle.fop_types.specs.declared.messages.BrickRep.{BrickRep}
use Rattle.fop_types.specs.declared.messages.BrickReq.TheVariants as req
use Rattle.afr_ledger.specs.Ledger.{State}
use Rattle.afr_phases.specs.declared.wave.Wave.{Wave}
use Rattle.afr_phases.specs.Answers.{is_plain_done}
use Rattle.afr_phases.specs.Asked.{is_within, is_waiting, are_granted_within}
use Rattle.afr_phases.specs.Flags.{flag, lowest, mask_of, outside}
use Rattle.afr_phases.specs.Locks.{standing}
use Rattle.afr_phases.specs.Outs.{is_short}
use Rattle.afr_phases.specs.Tracked.{IsTracked}
use Rattle.afr_phases.specs.Waves.{is_asked, is_over, taken}
use Rattle.afr_phases.proofs.Asked.{each_sent, within_at}
use Rattle.afr_phases.proofs.Tracked.{heard_one, outsiders}
use Rattle.afr_transaction.specs.declared.need.Need.{Need}
use Rattle.afr_transaction.specs.declared.phase.Phase.{Phase}
use Rattle.afr_transaction.specs.declared.phase.Phase.TheVariants as phase
use Rattle.afr_transaction.specs.declared.phase.Then.TheVariants as next
use Rattle.afr_transaction.specs.declared.txn.Txn.{Txn}
use Rattle.afr_transaction.specs.Answers.{hearing, waiting, write_answered, answered_in, idle}
use Rattle.afr_transaction.specs.Changes.{posting}
use Rattle.afr_transaction.specs.Locked.{unlock, fail}
use Rattle.afr_transaction.specs.Requests.{AccusesUnconfirmed, KeepsIn, PostsAccuse, PostsFollowOps}
use Rattle.afr_transaction.specs.Shapes.{suits}
use Rattle.afr_transaction.specs.Txns.{alive, healing, io_of, is_heal}

module _ (live : Mask) (last : List ℕ) (n : ℕ) (wave : Wave) where
  -- a release is no post
  unlock_posts : (txn : Txn) (reply : SetReply) (ledger : State Cell) → PostsAccuse n wave (unlock txn (next.Answer reply) ledger live last).1
  unlock_posts txn reply ledger =
      cond_both (is_none (lowest (standing txn.locks live last))) _ _ (λ (t : Txn × Need). PostsAccuse n wave t.1) (λ e. tt)
      (λ e. each_sent (λ j r. AccusesUnconfirmed n wave r) (standing txn.locks live last) (req.Unlock txn.call) (λ j f. tt))

  fail_posts : (txn : Txn) (ledger : State Cell) → PostsAccuse n wave (fail txn ledger live last).1
  fail_posts txn ledger =
      cond_both (is_heal txn.job) (healing txn skip.Majority) (txn, reply.Io (io_of txn)) (λ (f : Txn × SetReply). PostsAccuse n wave (unlock f.0 (next.Answer f.1) ledger live last).1)
      (λ e. unlock_posts (record txn { records = [] }) (healing txn skip.Majority).1 ledger) (λ e. unlock_posts txn (reply.Io (io_of txn)) ledger)

-- who is used once the op is answered has confirmed it
post_accuses : (txn : Txn) (change : ℕ) (ledger : State Cell) (live : Mask) (last : List ℕ) → IsTracked txn.size.n txn.outs txn.wave → PostsAccuse txn.size.n txn.wave (write_answered txn change ledger live last).1
post_accuses txn change ledger live last tracked = by (is_over txn.wave) refl where
  accused : is_over txn.wave ≡ true → PostsAccuse txn.size.n txn.wave (posting txn change).1
  accused over =
      each_sent (λ j r. AccusesUnconfirmed txn.size.n txn.wave r) (alive txn) (req.Post change txn.cells (mask_of (outside txn.size.n (alive txn))))
      (λ j f. outsiders txn.size.n txn.outs txn.wave tracked over)

  by : (b : Bool) → is_over txn.wave ≡ b → PostsAccuse txn.size.n txn.wave (cond (not b) (waiting txn (phase.Writing change)) (cond (is_short txn.outs txn.size.n txn.size.q) (fail txn ledger live last) (posting txn change))).1
  by true over =
      cond_both (is_short txn.outs txn.size.n txn.size.q) (fail txn ledger live last) (posting txn change) (λ (t : Txn × Need). PostsAccuse txn.size.n txn.wave t.1)
      (λ e. fail_posts live last txn.size.n txn.wave txn ledger) (λ e. accused over)
  by false more = tt

module _ (txn : Txn) (k mark change : ℕ) (rep : BrickRep) (ledger : State Cell) (live : Mask) (last : List ℕ) (low : k < 5) (asked : is_asked txn.wave k ≡ true) where
  writing_posts : KeepsIn (phase.Writing change) txn → PostsAccuse txn.size.n (taken txn.wave k (is_plain_done rep)) (answered_in (phase.Writing change) (idle txn) k rep mark ledger live last).1.0
  writing_posts keeps = post_accuses (hearing (idle txn) k rep mark) change ledger live last (heard_one txn.size.n k mark rep txn.outs txn.wave low asked keeps.1)

  in_phase : (p : Phase) → p ≡ phase.Writing change → KeepsIn p txn → PostsAccuse txn.size.n (taken txn.wave k (is_plain_done rep)) (answered_in p (idle txn) k rep mark ledger live last).1.0
  in_phase p is =
      subst (λ (q : Phase). KeepsIn q txn → PostsAccuse txn.size.n (taken txn.wave k (is_plain_done rep)) (answered_in q (idle txn) k rep mark ledger live last).1.0) (sym is) writing_posts

pub posts_follow : PostsFollowOps
posts_follow txn k mark change rep ledger live last asking keeps asked is =
    let a = and_parts (is_waiting txn.size.n txn.wave) (are_granted_within txn.size.n txn.locks && suits txn.phase txn) asking in
    let b = and_parts (not (is_over txn.wave)) (is_within txn.size.n txn.wave.asked) a.0 in
    let low : k < txn.size.n = within_at txn.size.n k txn.wave.asked b.1 asked in
    in_phase txn k mark change rep ledger live last (omega (arith, txn.size.few)) asked txn.phase is keeps.locks
