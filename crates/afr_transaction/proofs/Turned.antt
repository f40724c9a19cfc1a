-- What a turn is, from its parts: the answer to a settle from its decision, and an arm of the turn of an answer from the call
-- for its phase.
use Rattle.std.proofs.Common.{◌≡◌, ◌∙◌, ℕ, Bool, List, Option, Result, Ok, Err, ap, sym, refl, subst}
use Rattle.std.specs.Prelude.{IfOk, OnErr}
use Rattle.fop_types.specs.declared.cells.Cell.{Cell}
use Rattle.fop_types.specs.declared.contents.Mask.{Mask}
use Rattle.fop_types.specs.declared.copy_jobs.CopyDone.{CopyDone}
use Rattle.fop_types.specs.declared.messages.BrickRep.{BrickRep}
use Rattle.afr_ledger.specs.Ledger.{State}
use Rattle.afr_transaction.specs.declared.need.Need.{Need}
use Rattle.afr_transaction.specs.declared.phase.Adopted.{Adopted}
use Rattle.afr_transaction.specs.declared.phase.Part.{Part}
use Rattle.afr_transaction.specs.declared.phase.Phase.{Phase}
use Rattle.afr_transaction.specs.declared.phase.Phase.TheVariants as phase
use Rattle.afr_transaction.specs.declared.phase.Then.{Then}
use Rattle.afr_transaction.specs.declared.phase.Verdict.{Verdict}
use Rattle.afr_transaction.specs.declared.txn.Txn.{Txn}
use Rattle.afr_transaction.specs.Txns.{kept}
use Rattle.afr_transaction.specs.Settles.{settle_decided}
use Rattle.afr_transaction.specs.Copied.{copy_taken}
use Rattle.afr_transaction.specs.Answers.{hearing, idle, unlock_answered, mark_answered, write_answered, post_answered, settle_step, settle_answered, birth_answered, open_answered, answered_in, answered, waiting, copied_in, copied, IsLeftIn}

pub settle_steps : (txn : Txn) (verdict : Verdict) (ledger after : State Cell) (live : Mask) (last : List ℕ) (decided : Bool) (turn : Txn × (Need × State Cell)) → (decided, after) ≡ settle_decided txn verdict ledger → turn ≡ settle_step txn (record verdict { decided = decided }) after live last → turn ≡ settle_answered txn verdict ledger live last
settle_steps txn verdict ledger after live last decided turn e step =
    let judged : settle_step txn (record verdict { decided = decided }) after live last ≡ settle_answered txn verdict ledger live last = ap (λ (d : Bool × State Cell). settle_step txn (record verdict { decided = d.0 }) d.1 live last) e in
    step ∙ judged

-- what holds anyway holds of an error
pub on_err : {T E : Type 0} {P : Type 0} (result : Result T E) → P → OnErr result P
on_err (Ok v) h = tt
on_err (Err e) h = h

-- a copy that is done, to a job that has asked for none: it waits on
module _ (txn : Txn) (done : CopyDone) (ledger : State Cell) (live : Mask) (last : List ℕ) where
  waits : (p : Phase) → ((sinks : List Bool) (parts : List Part) → ¬ (p ≡ phase.Copying sinks parts)) → copied_in p (idle txn) done ledger live last ≡ kept (waiting (idle txn) p) ledger
  waits (phase.Locking at) other = refl
  waits (phase.Unlocking after) other = refl
  waits (phase.Fetching place from contents) other = refl
  waits (phase.Marking change) other = refl
  waits (phase.Writing change) other = refl
  waits (phase.Posting change adopted) other = refl
  waits (phase.Settling verdict) other = refl
  waits phase.Bearing other = refl
  waits phase.Opening other = refl
  waits (phase.Listing all) other = refl
  waits phase.Over other = refl
  waits (phase.Copying sinks parts) other = absurd (other sinks parts refl)

  pub no_copy : (was : Phase) → was ≡ txn.phase → ((sinks : List Bool) (parts : List Part) → ¬ (was ≡ phase.Copying sinks parts)) → (to : Txn) (need : Need) → ◌≡◌ {A = Txn × Need} (to, need) (waiting (idle txn) was) → ◌≡◌ {A = Txn × (Need × State Cell)} (to, (need, ledger)) (copied txn done ledger live last)
  no_copy was value other to need made =
      let turn : ◌≡◌ {A = Txn × (Need × State Cell)} (to, (need, ledger)) (kept (waiting (idle txn) was) ledger) = ap (λ (t : Txn × Need). kept t ledger) made in
      turn ∙ sym (waits was other) ∙ ap (λ (p : Phase). copied_in p (idle txn) done ledger live last) value

  pub copy_ends : {E : Type 0} (was left : Phase) (sinks : List Bool) (parts : List Part) → was ≡ txn.phase → left ≡ phase.Over → was ≡ phase.Copying sinks parts → (to : Txn) (made : State Cell) (result : Result Need E)
      → IfOk result (λ need. (to, (need, made)) ≡ copy_taken (record txn { phase = left }) sinks parts done ledger live last) → IfOk result (λ need. (to, (need, made)) ≡ copied txn done ledger live last)
  copy_ends was left sinks parts value over is to made (Ok need) h =
      let taken : copy_taken (record txn { phase = left }) sinks parts done ledger live last ≡ copy_taken (idle txn) sinks parts done ledger live last = ap (λ (p : Phase). copy_taken (record txn { phase = p }) sinks parts done ledger live last) over in
      h ∙ taken ∙ ap (λ (p : Phase). copied_in p (idle txn) done ledger live last) (sym is ∙ value)
  copy_ends was left sinks parts value over is to made (Err e) h = h

-- A replica has answered where `was` is the phase of the job, `left` the phase that it is left in for the turn, and `now` the
-- job with the answer: the turn is that of the call for its phase. Such a call gives the ledger, or leaves it as it is.
module _ (txn : Txn) (k : ℕ) (rep : BrickRep) (mark : ℕ) (ledger : State Cell) (live : Mask) (last : List ℕ) (was left : Phase) (now : Txn) (value : was ≡ txn.phase) (after : left ≡ phase.Over) (heard : now ≡ hearing (record txn { phase = left }) k rep mark) where
  heard_idle : now ≡ hearing (idle txn) k rep mark
  heard_idle =
      let over : hearing (record txn { phase = left }) k rep mark ≡ hearing (idle txn) k rep mark = ap (λ (p : Phase). hearing (record txn { phase = p }) k rep mark) after in
      heard ∙ over

  turns : (p : Phase) (f : Txn → Txn × (Need × State Cell)) → was ≡ p → answered_in p (idle txn) k rep mark ledger live last ≡ f (hearing (idle txn) k rep mark) → f now ≡ answered txn k rep mark ledger live last
  turns p f is arm =
      let here : txn.phase ≡ p = sym value ∙ is in
      let turn : answered txn k rep mark ledger live last ≡ answered_in p (idle txn) k rep mark ledger live last = ap (λ (q : Phase). answered_in q (idle txn) k rep mark ledger live last) here in
      ap f heard_idle ∙ sym arm ∙ sym turn

  given : {E : Type 0} (p : Phase) (f : Txn → Txn × (Need × State Cell)) → was ≡ p → answered_in p (idle txn) k rep mark ledger live last ≡ f (hearing (idle txn) k rep mark) → (to : Txn) (made : State Cell) (result : Result Need E) → IfOk result (λ need. (to, (need, made)) ≡ f now) → IfOk result (λ need. (to, (need, made)) ≡ answered txn k rep mark ledger live last)
  given p f is arm to made (Ok need) h = h ∙ turns p f is arm
  given p f is arm to made (Err e) h = h

  given_kept : {E : Type 0} (p : Phase) (f : Txn → Txn × Need) → was ≡ p → answered_in p (idle txn) k rep mark ledger live last ≡ kept (f (hearing (idle txn) k rep mark)) ledger → (to : Txn) (result : Result Need E) → IfOk result (λ need. (to, need) ≡ f now) → IfOk result (λ need. (to, (need, ledger)) ≡ answered txn k rep mark ledger live last)
  given_kept p f is arm to (Ok need) h =
      let turn : ◌≡◌ {A = Txn × (Need × State Cell)} (to, (need, ledger)) (kept (f now) ledger) = ap (λ (t : Txn × Need). kept t ledger) h in
      turn ∙ turns p (λ t. kept (f t) ledger) is arm
  given_kept p f is arm to (Err e) h = h

  -- where the memory runs out, the ledger is what the call for the phase says
  pub given_err : {T E : Type 0} (p : Phase) (Left : Txn → State Cell → Type 0) → was ≡ p → ((t : Txn) (made : State Cell) → Left t made → IsLeftIn p t ledger made)
      → (made : State Cell) (result : Result T E) → OnErr result (Left now made) → OnErr result (IsLeftIn txn.phase (hearing (idle txn) k rep mark) ledger made)
  given_err p Left is leaves made (Ok v) h = tt
  given_err p Left is leaves made (Err e) h =
      subst (λ (q : Phase). IsLeftIn q (hearing (idle txn) k rep mark) ledger made) (sym (sym value ∙ is))
      (leaves (hearing (idle txn) k rep mark) made (subst (λ (t : Txn). Left t made) heard_idle h))

  pub after_unlock : {E : Type 0} (next : Then) → was ≡ phase.Unlocking next → (to : Txn) (result : Result Need E) → IfOk result (λ need. (to, need) ≡ unlock_answered now next ledger live last) → IfOk result (λ need. (to, (need, ledger)) ≡ answered txn k rep mark ledger live last)
  after_unlock next is = given_kept (phase.Unlocking next) (λ t. unlock_answered t next ledger live last) is refl

  pub after_mark : {E : Type 0} (change : ℕ) → was ≡ phase.Marking change → (to : Txn) (made : State Cell) (result : Result Need E) → IfOk result (λ need. (to, (need, made)) ≡ mark_answered now change ledger live last) → IfOk result (λ need. (to, (need, made)) ≡ answered txn k rep mark ledger live last)
  after_mark change is = given (phase.Marking change) (λ t. mark_answered t change ledger live last) is refl

  pub after_op : {E : Type 0} (change : ℕ) → was ≡ phase.Writing change → (to : Txn) (result : Result Need E) → IfOk result (λ need. (to, need) ≡ write_answered now change ledger live last) → IfOk result (λ need. (to, (need, ledger)) ≡ answered txn k rep mark ledger live last)
  after_op change is = given_kept (phase.Writing change) (λ t. write_answered t change ledger live last) is refl

  pub after_post : {E : Type 0} (change : ℕ) (adopted : Option Adopted) → was ≡ phase.Posting change adopted → (to : Txn) (made : State Cell) (result : Result Need E) → IfOk result (λ need. (to, (need, made)) ≡ post_answered now change adopted ledger live last) → IfOk result (λ need. (to, (need, made)) ≡ answered txn k rep mark ledger live last)
  after_post change adopted is = given (phase.Posting change adopted) (λ t. post_answered t change adopted ledger live last) is refl

  pub after_settle : {E : Type 0} (verdict : Verdict) → was ≡ phase.Settling verdict → (to : Txn) (made : State Cell) (result : Result Need E) → IfOk result (λ need. (to, (need, made)) ≡ settle_answered now verdict ledger live last) → IfOk result (λ need. (to, (need, made)) ≡ answered txn k rep mark ledger live last)
  after_settle verdict is = given (phase.Settling verdict) (λ t. settle_answered t verdict ledger live last) is refl

  pub after_birth : {E : Type 0} → was ≡ phase.Bearing → (to : Txn) (result : Result Need E) → IfOk result (λ need. (to, need) ≡ birth_answered now ledger live last) → IfOk result (λ need. (to, (need, ledger)) ≡ answered txn k rep mark ledger live last)
  after_birth is = given_kept phase.Bearing (λ t. birth_answered t ledger live last) is refl

  pub after_open : {E : Type 0} → was ≡ phase.Opening → (to : Txn) (result : Result Need E) → IfOk result (λ need. (to, need) ≡ open_answered now) → IfOk result (λ need. (to, (need, ledger)) ≡ answered txn k rep mark ledger live last)
  after_open is = given_kept phase.Opening (λ t. open_answered t) is refl
