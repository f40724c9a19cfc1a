-- What the steps of a transaction make of its grants.
use Rattle.std.proofs.Common.{◌≡◌, ◌∙◌, ℕ, Bool, true, false, refl, sym, ap, subst, Option, Some, None}
use Rattle.fop_types.specs.declared.jobs.Job.{Job}
use Rattle.fop_types.specs.declared.jobs.Job.TheVariants as job
use Rattle.afr_machine.specs.Replicas.{Size, Replicas, with_at}
use Rattle.afr_machine.specs.Transactions.{Work, Stage, Txn}
use Rattle.afr_machine.specs.Transactions.Stage.{Over, Choosing, Locking, Locked, Marking, Applying, Posting, Settling, Bearing, Copying, Polling, Unlocking}
use Rattle.afr_machine.specs.Transactions.Work.{Own, Settles}
use Rattle.afr_machine.specs.States.{State}
use Rattle.afr_machine.specs.Answering.{passed}
use Rattle.afr_machine.specs.Turns.{Turn, may_hold, IsCopied, FollowsSettling, MayLockFor, MayCopyAs, MayTurn, after_turn, entering, locking_for, skipping, drawing, posting, settling, bearing, clearing}
use Rattle.afr_machine.proofs.Tables.{at_same}
use Rattle.afr_laws.specs.Waiting.{IsCopying}
use Rattle.afr_laws.specs.Grants.{has_none, is_unlocking}
use Rattle.afr_laws.proofs.Stages.{StageGoes}
use Rattle.afr_laws.proofs.Stages.StageGoes.{StaysIn, PassesOn, CopiesOn}

-- the grants stay, and whether it unlocks and may have grants; or there is none
pub data GrantsTurn (old new : Txn) : Type 0 where
  KeepsGrants : new.grants ≡ old.grants → (is_unlocking new.stage ≡ false → is_unlocking old.stage ≡ false) → (has_none new.stage ≡ true → has_none old.stage ≡ true) → GrantsTurn old new
  NoGrants : ((k : ℕ) → new.grants k ≡ None) → GrantsTurn old new

pub same_grants : (x : Txn) → GrantsTurn x x
same_grants x = GrantsTurn.KeepsGrants refl (λ h. h) (λ h. h)

is_false : (stage other : Stage) → stage ≡ other → is_unlocking other ≡ false → is_unlocking stage ≡ false
is_false stage other is h = ap is_unlocking is ∙ h

-- into a stage that may have grants, from one that does not unlock
into : (x : Txn) (stage other : Stage) (to : Replicas) → x.stage ≡ other → is_unlocking other ≡ false → has_none stage ≡ false → GrantsTurn x (entering x stage to)
into x stage other to is from some = GrantsTurn.KeepsGrants refl (λ h. is_false x.stage other is from) (λ h. absurd (let never : true ≡ false = sym h ∙ some in cc))

copied_no_unlock : (stage : Stage) → IsCopied stage → is_unlocking stage ≡ false
copied_no_unlock Unlocking h = absurd h
copied_no_unlock other h = refl

follows_no_unlock : (m : State) (stage : Stage) (sources : Replicas) → FollowsSettling m stage sources → is_unlocking stage ≡ false
follows_no_unlock m Unlocking sources h = absurd h
follows_no_unlock m other sources h = refl

copies_no_unlock : (m : State) (t : ℕ) (work : Work) (group : Option Replicas) → MayCopyAs m t work group → is_unlocking (m.txns t).stage ≡ false
copies_no_unlock m t Own None h = copied_no_unlock (m.txns t).stage h.0
copies_no_unlock m t Own (Some sources) h = absurd h
copies_no_unlock m t (Settles u) None h = absurd h
copies_no_unlock m t (Settles u) (Some sources) h = follows_no_unlock m (m.txns t).stage sources h

holds_no_unlock : (stage : Stage) → may_hold stage ≡ true → is_unlocking stage ≡ false
holds_no_unlock Unlocking h = absurd cc
holds_no_unlock other h = refl

module _ (size : Size) (m : State) (t : ℕ) where
  locks_turn : (work : Work) → MayLockFor m t work → GrantsTurn (m.txns t) (locking_for m (m.txns t) work)
  locks_turn Own h = GrantsTurn.KeepsGrants refl (λ u. is_false (m.txns t).stage Choosing h.turn refl) (λ n. absurd cc)
  locks_turn (Settles u) h = GrantsTurn.KeepsGrants refl (λ u. is_false (m.txns t).stage Choosing h.turn refl) (λ n. absurd cc)

  skips_turn : (stage : Stage) → (m.txns t).stage ≡ stage → GrantsTurn (m.txns t) (skipping (m.txns t) stage)
  skips_turn (Locking cells shared next) is = GrantsTurn.KeepsGrants refl (λ u. is_false (m.txns t).stage (Locking cells shared next) is refl) (λ n. absurd cc)
  skips_turn other is = same_grants (m.txns t)

  here : (x : Txn) → GrantsTurn (m.txns t) x → GrantsTurn (m.txns t) (with_at m.txns t x t)
  here x g = subst (GrantsTurn (m.txns t)) (sym (at_same m.txns t x)) g

  draws_turn : (own : Job) (copied : IsCopied (m.txns t).stage) → GrantsTurn (m.txns t) ((drawing m t own).txns t)
  draws_turn (job.Change cells fd op effect) copied = here _ (GrantsTurn.KeepsGrants refl (λ u. copied_no_unlock (m.txns t).stage copied) (λ n. absurd cc))
  draws_turn other copied = same_grants (m.txns t)

  posts_turn : (stage : Stage) → (m.txns t).stage ≡ stage → GrantsTurn (m.txns t) ((posting size m t stage).txns t)
  posts_turn (Applying u) is = here _ (into (m.txns t) (Posting u) (Applying u) (m.changes u).done is refl refl)
  posts_turn other is = same_grants (m.txns t)

  settles_turn : (work : Work) (group : Replicas) (adopts : Bool) → (m.txns t).stage ≡ Locked → GrantsTurn (m.txns t) ((settling size m t work group adopts).txns t)
  settles_turn Own group adopts is = same_grants (m.txns t)
  settles_turn (Settles u) group adopts is = here _ (GrantsTurn.KeepsGrants refl (λ v. is_false (m.txns t).stage Locked is refl) (λ n. absurd cc))

  bears_turn : (own : Job) → (m.txns t).stage ≡ Locked → GrantsTurn (m.txns t) ((bearing m t own).txns t)
  bears_turn (job.Birth cells op) is = here _ (GrantsTurn.KeepsGrants refl (λ v. is_false (m.txns t).stage Locked is refl) (λ n. absurd cc))
  bears_turn other is = same_grants (m.txns t)

  clears_turn : (stage : Stage) → (m.txns t).stage ≡ stage → GrantsTurn (m.txns t) ((clearing m t stage).txns t)
  clears_turn (Copying run) is = here _ (GrantsTurn.KeepsGrants refl (λ v. is_false (m.txns t).stage (Copying run) is refl) (λ n. absurd cc))
  clears_turn other is = same_grants (m.txns t)

  pub turn_grants : (turn : Turn) → MayTurn size m t turn → GrantsTurn (m.txns t) ((after_turn size m t turn).txns t)
  turn_grants (Turn.Begins graph own) h = here _ (GrantsTurn.NoGrants (λ k. refl))
  turn_grants (Turn.LocksFor work) h = here _ (locks_turn work h)
  turn_grants Turn.Skips h = here _ (skips_turn (m.txns t).stage refl)
  turn_grants Turn.Reaches h = here _ (GrantsTurn.KeepsGrants refl (λ u. is_false (m.txns t).stage (Locking h.cells h.shared size.replicas) h.turn refl) (λ n. absurd cc))
  turn_grants Turn.Marks h = draws_turn (m.txns t).job h.copied
  turn_grants Turn.Posts h = posts_turn (m.txns t).stage refl
  turn_grants (Turn.SettlesAs group adopts) h = settles_turn (m.txns t).work group adopts h.turn
  turn_grants Turn.Bears h = bears_turn (m.txns t).job h.turn
  turn_grants Turn.Confirms h = same_grants (m.txns t)
  turn_grants (Turn.Copies run) h = here _ (GrantsTurn.KeepsGrants refl (λ u. copies_no_unlock m t (m.txns t).work run.group h.allowed) (λ n. absurd cc))
  turn_grants Turn.Clears h = clears_turn (m.txns t).stage refl
  turn_grants Turn.Polls h = here _ (GrantsTurn.KeepsGrants refl (λ u. is_false (m.txns t).stage Choosing h.turn refl) (λ n. ap has_none h.turn))
  turn_grants Turn.Unlocks h = here _ (GrantsTurn.KeepsGrants refl (λ u. absurd cc) (λ n. absurd cc))
  turn_grants Turn.Rests h = here _ (GrantsTurn.NoGrants (λ k. refl))
  turn_grants Turn.Ends h = here _ (GrantsTurn.KeepsGrants refl (λ u. is_false (m.txns t).stage Choosing h refl) (λ n. ap has_none h))

-- ---- the stage after a reply

passed_unlocks : (stage : Stage) → is_unlocking (passed stage) ≡ is_unlocking stage
passed_unlocks (Locking cells shared next) = refl
passed_unlocks Over = refl
passed_unlocks Choosing = refl
passed_unlocks Locked = refl
passed_unlocks (Marking u) = refl
passed_unlocks (Applying u) = refl
passed_unlocks (Posting u) = refl
passed_unlocks (Settling u group adopts) = refl
passed_unlocks Bearing = refl
passed_unlocks (Copying run) = refl
passed_unlocks Polling = refl
passed_unlocks Unlocking = refl

pub passed_none : (stage : Stage) → has_none (passed stage) ≡ has_none stage
passed_none (Locking cells shared next) = refl
passed_none Over = refl
passed_none Choosing = refl
passed_none Locked = refl
passed_none (Marking u) = refl
passed_none (Applying u) = refl
passed_none (Posting u) = refl
passed_none (Settling u group adopts) = refl
passed_none Bearing = refl
passed_none (Copying run) = refl
passed_none Polling = refl
passed_none Unlocking = refl

copying_is_other : (stage : Stage) → IsCopying stage → (is_unlocking stage ≡ false) × (has_none stage ≡ false)
copying_is_other (Copying run) h = (refl, refl)
copying_is_other other h = absurd h

pub goes_unlocks : (old new : Stage) → StageGoes old new → is_unlocking new ≡ false → is_unlocking old ≡ false
goes_unlocks old new (StaysIn is) h = sym (ap is_unlocking is) ∙ h
goes_unlocks old new (PassesOn is) h = sym (ap is_unlocking is ∙ passed_unlocks old) ∙ h
goes_unlocks old new (CopiesOn c d) h = (copying_is_other old c).0

pub goes_none : (old new : Stage) → StageGoes old new → has_none new ≡ true → has_none old ≡ true
goes_none old new (StaysIn is) h = sym (ap has_none is) ∙ h
goes_none old new (PassesOn is) h = sym (ap has_none is ∙ passed_none old) ∙ h
goes_none old new (CopiesOn c d) h = absurd (let never : true ≡ false = sym h ∙ (copying_is_other new d).1 in cc)
