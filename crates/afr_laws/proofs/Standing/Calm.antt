-- A transaction that gathers rows has nothing on its way that alters, where it holds a lock, over every list of steps.
use Rattle.std.proofs.Common.{◌≡◌, ◌∙◌, ℕ, ◌+◌, Bool, true, false, refl, sym, ap, subst, ◌⊎◌, inl, inr, Option, Some, None}
use Rattle.std.specs.Prelude.{if◌then◌else◌, List, [], ◌∷◌, ◌++◌, ◌||◌, ◌==◌, not}
use Rattle.std.proofs.lemmas.Bool.{cases_eq}
use Rattle.fop_types.specs.declared.jobs.Job.{Job}
use Rattle.fop_types.specs.declared.jobs.Job.TheVariants as job
use Rattle.afr_machine.specs.Replicas.{Size, Replicas, outside, with_at}
use Rattle.afr_machine.specs.Requests.{Sender, Ask, Answer, Output}
use Rattle.afr_machine.specs.Requests.Ask.{Mark, Op, Post, Replace, Clear, Settle}
use Rattle.afr_machine.specs.Requests.Output.{Answered, Closed, Opened, Connected}
use Rattle.afr_machine.specs.Transactions.{Work, Stage, Grant, Txn, new_txn}
use Rattle.afr_machine.specs.Transactions.Work.{Own, Settles}
use Rattle.afr_machine.specs.Transactions.Stage.{Over, Locking, Locked, Marking, Applying, Posting, Settling, Bearing, Copying, Polling, Unlocking}
use Rattle.afr_machine.specs.States.{State, is_current}
use Rattle.afr_machine.specs.Sending.{MayAsk, asks_of, asking}
use Rattle.afr_machine.specs.Answering.{without_first, passed, missing, landed, at_rest, forgetting, replied, taken_in, without_first_output}
use Rattle.afr_machine.specs.Turns.{Turn, MayLockFor, MayTurn, entering, members, open_grants, after_turn, locking_for, skipping, resting, drawing, posting, settling, bearing, clearing}
use Rattle.afr_machine.specs.Steps.{Step, Allowed, after, IsReached, take_in_front, unsettling, decided_by}
use Rattle.afr_machine.proofs.Tables.{at_same, at_other}
use Rattle.afr_laws.specs.Waiting.{IsCopying}
use Rattle.afr_laws.specs.Grants.{GrantsAreHeld, has_none}
use Rattle.afr_laws.specs.Covered.{alters}
use Rattle.afr_laws.specs.Standing.{is_gathering, any_alters, IsCalm, GatheringIsCalm}
use Rattle.afr_laws.proofs.Bools.{neither, neither_right, apart_bools}
use Rattle.afr_laws.proofs.Carry.{at_case}
use Rattle.afr_laws.proofs.Heard.{Heard, replied_txns}
use Rattle.afr_laws.proofs.Heard.Heard.{Took, Passed, OpenDone, OpenMissed}
use Rattle.afr_laws.proofs.Stages.{StageGoes, hearing_stage, GrantsGo, hearing_grants}
use Rattle.afr_laws.proofs.Stages.StageGoes.{StaysIn, PassesOn, CopiesOn}
use Rattle.afr_laws.proofs.Stages.GrantsGo.{SameGrants, Granted, Released}
use Rattle.afr_laws.proofs.Goes.{decided_txns}
use Rattle.afr_laws.proofs.Grants.{grants_are_held}

-- ---- stages

pub passed_gathers : (stage : Stage) → is_gathering (passed stage) ≡ is_gathering stage
passed_gathers (Locking cells shared next) = refl
passed_gathers other = refl

copying_gathers : (stage : Stage) → IsCopying stage → is_gathering stage ≡ false
copying_gathers (Copying run) h = refl
copying_gathers other h = absurd h

pub goes_gathers : (old new : Stage) → StageGoes old new → is_gathering new ≡ true → is_gathering old ≡ true
goes_gathers old new (StaysIn is) h = sym (ap is_gathering is) ∙ h
goes_gathers old new (PassesOn is) h = sym (ap is_gathering is ∙ passed_gathers old) ∙ h
goes_gathers old new (CopiesOn c d) h = apart_bools h (copying_gathers new d)

pub none_gathers : (stage : Stage) → has_none stage ≡ true → is_gathering stage ≡ true → ⊥
none_gathers Locked none h = absurd cc
none_gathers (Locking cells shared next) none h = absurd cc
none_gathers other none h = absurd cc

-- ---- lists

calm_append : (xs ys : List Ask) → any_alters xs ≡ false → any_alters ys ≡ false → any_alters (xs ++ ys) ≡ false
calm_append [] ys p q = q
calm_append (x ∷ xs) ys p q = by_case (alters x) p (calm_append xs ys) where
  by_case : (b : Bool) → (b || any_alters xs) ≡ false → (any_alters xs ≡ false → any_alters ys ≡ false → any_alters (xs ++ ys) ≡ false) → (b || any_alters (xs ++ ys)) ≡ false
  by_case true e more = absurd cc
  by_case false e more = more e q

calm_rest : (asks : List Ask) → any_alters asks ≡ false → any_alters (without_first asks) ≡ false
calm_rest [] h = h
calm_rest (a ∷ rest) h = neither_right (alters a) (any_alters rest) h

calm_asks : (first : Bool) (ask : Ask) → alters ask ≡ false → any_alters (asks_of first ask) ≡ false
calm_asks true ask h = neither (alters ask) false h refl
calm_asks false ask h = neither (alters ask) false h refl

-- ---- one transaction

-- where it gathers, it gathered; at each brick the grant was there and what is on its way is no more, or is nothing
calm_goes : (x y : Txn) → IsCalm x → (is_gathering y.stage ≡ true → is_gathering x.stage ≡ true) →
    ((k : ℕ) (grant : Grant) → y.grants k ≡ Some grant → (any_alters (y.flying k) ≡ false) ⊎ ((x.grants k ≡ Some grant) × (any_alters (x.flying k) ≡ false → any_alters (y.flying k) ≡ false))) → IsCalm y
calm_goes x y calm gathers each gathering k grant is = by_case (each k grant is) where
  by_case : (any_alters (y.flying k) ≡ false) ⊎ ((x.grants k ≡ Some grant) × (any_alters (x.flying k) ≡ false → any_alters (y.flying k) ≡ false)) → any_alters (y.flying k) ≡ false
  by_case (inl now) = now
  by_case (inr old) = old.1 (calm (gathers gathering) k grant old.0)

other_stage : (y : Txn) → is_gathering y.stage ≡ false → IsCalm y
other_stage y not_gathering gathering k grant is = apart_bools gathering not_gathering

module _ (x : Txn) (calm : IsCalm x) (k connection : ℕ) (ask : Ask) (answer : Answer) where
  -- what is on its way to a brick is shorter, and the grants are as they were
  landed_calm : IsCalm (landed x k)
  landed_calm = calm_goes x (landed x k) calm (λ g. g) (λ j grant is. inr (is, at_case (λ i f. any_alters (x.flying i) ≡ false → any_alters f ≡ false) x.flying k (without_first (x.flying k)) (calm_rest (x.flying k)) j (λ ne h. h)))

  took_each : (y : Txn) → y.flying ≡ with_at x.flying k [] → GrantsGo (at_rest x k) y k connection ask answer → (j : ℕ) (grant : Grant) → y.grants j ≡ Some grant →
      (any_alters (y.flying j) ≡ false) ⊎ ((x.grants j ≡ Some grant) × (any_alters (x.flying j) ≡ false → any_alters (y.flying j) ≡ false))
  took_each y flying goes j grant is = by_brick (cases_eq j k) where
    here : j ≡ k → any_alters (y.flying j) ≡ false
    here same = ap (λ (f : ℕ → List Ask). any_alters (f j)) flying ∙ ap (λ i. any_alters (with_at x.flying k [] i)) same ∙ ap any_alters (at_same x.flying k [])

    elsewhere : (j ≡ k → ⊥) → GrantsGo (at_rest x k) y k connection ask answer → x.grants j ≡ Some grant
    elsewhere other (SameGrants same) = sym (ap (λ (f : ℕ → Option Grant). f j) same) ∙ is
    elsewhere other (Granted shared cells rows is_lock is_rows grants stage) = sym (ap (λ (f : ℕ → Option Grant). f j) grants ∙ at_other x.grants k _ j other) ∙ is
    elsewhere other (Released is_unlock grants) = sym (ap (λ (f : ℕ → Option Grant). f j) grants ∙ at_other x.grants k None j other) ∙ is

    by_brick : (j ≡ k) ⊎ (j ≡ k → ⊥) → (any_alters (y.flying j) ≡ false) ⊎ ((x.grants j ≡ Some grant) × (any_alters (x.flying j) ≡ false → any_alters (y.flying j) ≡ false))
    by_brick (inl same) = inl (here same)
    by_brick (inr other) = inr (elsewhere other goes, λ h. ap (λ (f : ℕ → List Ask). any_alters (f j)) flying ∙ ap any_alters (at_other x.flying k [] j other) ∙ h)

  heard_calm : (y : Txn) → Heard x y k connection ask answer → IsCalm y
  heard_calm y (Took plain waits same is) =
      calm_goes x y calm (goes_gathers x.stage y.stage (subst (λ (z : Txn). StageGoes x.stage z.stage) (sym is) (hearing_stage (at_rest x k) k connection ask answer)))
      (took_each y same.flying (subst (λ (z : Txn). GrantsGo (at_rest x k) z k connection ask answer) (sym is) (hearing_grants (at_rest x k) k connection ask answer)))
  heard_calm y (Passed plain passes is) = subst IsCalm (sym is) landed_calm
  heard_calm y (OpenDone opens is) = subst IsCalm (sym is) landed_calm
  heard_calm y (OpenMissed opens is) = subst IsCalm (sym is) (calm_goes (landed x k) (record (landed x k) { waits = with_at x.waits k false; out = with_at x.out k true }) landed_calm (λ g. g) (λ j grant e. inr (e, λ h. h)))

-- ---- turns, and what is sent

module _ (size : Size) (m : State) (a : GatheringIsCalm m) (t : ℕ) where
  abbrev x : Txn
  x = m.txns t

  only : (y : Txn) → IsCalm y → (i : ℕ) → IsCalm (with_at m.txns t y i)
  only y c i = at_case (λ j z. IsCalm z) m.txns t y c i (λ ne. a i)

  -- with the grants and what is on its way as they are
  stays : (y : Txn) → y.grants ≡ x.grants → y.flying ≡ x.flying → (is_gathering y.stage ≡ true → is_gathering x.stage ≡ true) → IsCalm y
  stays y grants flying gathers = calm_goes x y (a t) gathers (λ k grant is. inr (sym (ap (λ (f : ℕ → Option Grant). f k) grants) ∙ is, λ h. ap (λ (f : ℕ → List Ask). any_alters (f k)) flying ∙ h))

  ungranted : (y : Txn) → ((k : ℕ) → y.grants k ≡ None) → IsCalm y
  ungranted y none gathering k grant is = absurd (let no : None ≡ Some grant = sym (none k) ∙ is in cc)

  skips_calm : (stage : Stage) → x.stage ≡ stage → IsCalm (skipping x stage)
  skips_calm (Locking cells shared next) is = stays (skipping x (Locking cells shared next)) refl refl (λ g. ap is_gathering is)
  skips_calm other is = a t

  draws_calm : (own : Job) → GatheringIsCalm (drawing m t own)
  draws_calm (job.Change cells fd op effect) =
      only (record (entering (m.txns t) (Marking (m.drawn + 1)) (members m t)) { own = m.drawn + 1 }) (other_stage (record (entering (m.txns t) (Marking (m.drawn + 1)) (members m t)) { own = m.drawn + 1 }) refl)
  draws_calm other = a

  posts_calm : (stage : Stage) → GatheringIsCalm (posting size m t stage)
  posts_calm (Applying u) = only (entering x (Posting u) (m.changes u).done) (other_stage (entering x (Posting u) (m.changes u).done) refl)
  posts_calm other = a

  settles_calm : (work : Work) (group : Replicas) (adopts : Bool) → GatheringIsCalm (settling size m t work group adopts)
  settles_calm Own group adopts = a
  settles_calm (Settles u) group adopts = only (entering x (Settling u group adopts) (members m t)) (other_stage (entering x (Settling u group adopts) (members m t)) refl)

  bears_calm : (own : Job) → GatheringIsCalm (bearing m t own)
  bears_calm (job.Birth cells op) = only (entering x Bearing (members m t)) (other_stage (entering x Bearing (members m t)) refl)
  bears_calm other = a

  clears_calm : (stage : Stage) → GatheringIsCalm (clearing m t stage)
  clears_calm (Copying run) = only (entering x (Copying (record run { clears = true })) (members m t)) (other_stage (entering x (Copying (record run { clears = true })) (members m t)) refl)
  clears_calm other = a

  locks_calm : GrantsAreHeld m → (work : Work) → MayLockFor m t work → IsCalm (locking_for m x work)
  locks_calm g Own h = ungranted (locking_for m x Own) (g.none t (ap has_none h.turn))
  locks_calm g (Settles u) h = ungranted (locking_for m x (Settles u)) (g.none t (ap has_none h.turn))

  turned_calm : GrantsAreHeld m → (turn : Turn) → MayTurn size m t turn → GatheringIsCalm (after_turn size m t turn)
  turned_calm g (Turn.Begins graph own) h = only (new_txn graph own) (ungranted (new_txn graph own) (λ k. refl))
  turned_calm g (Turn.LocksFor work) h = only (locking_for m x work) (locks_calm g work h)
  turned_calm g Turn.Skips h = only (skipping x x.stage) (skips_calm x.stage refl)
  turned_calm g Turn.Reaches h = only (record x { stage = Locked; phase = m.ended + 1; out = λ k. x.out k || not (open_grants m t k) }) (stays (record x { stage = Locked; phase = m.ended + 1; out = λ k. x.out k || not (open_grants m t k) }) refl refl (λ e. ap is_gathering h.turn))
  turned_calm g Turn.Marks h = draws_calm x.job
  turned_calm g Turn.Posts h = posts_calm x.stage
  turned_calm g (Turn.SettlesAs group adopts) h = settles_calm x.work group adopts
  turned_calm g Turn.Bears h = bears_calm x.job
  turned_calm g Turn.Confirms h = a
  turned_calm g (Turn.Copies run) h = only (entering x (Copying run) (λ k. false)) (other_stage (entering x (Copying run) (λ k. false)) refl)
  turned_calm g Turn.Clears h = clears_calm x.stage
  turned_calm g Turn.Polls h = only (entering x Polling (outside size x.out)) (other_stage (entering x Polling (outside size x.out)) refl)
  turned_calm g Turn.Unlocks h = only (entering x Unlocking (open_grants m t)) (other_stage (entering x Unlocking (open_grants m t)) refl)
  turned_calm g Turn.Rests h = only (resting m t) (other_stage (resting m t) refl)
  turned_calm g Turn.Ends h = only (record x { stage = Over }) (other_stage (record x { stage = Over }) refl)

  module _ (k : ℕ) where
    leaves : (stage : Stage) (ask : Ask) → x.stage ≡ stage → is_gathering stage ≡ false → is_gathering x.stage ≡ true → alters ask ≡ false
    leaves stage ask is not_gathering gathering = apart_bools gathering (ap is_gathering is ∙ not_gathering)

    -- what is sent while rows are gathered alters nothing
    gathered_asks : (ask : Ask) → MayAsk size m t k ask → is_gathering x.stage ≡ true → alters ask ≡ false
    gathered_asks (Mark u cells) h g = leaves (Marking u) (Mark u cells) h.turn refl g
    gathered_asks (Op u op) (inl h) g = leaves (Applying u) (Op u op) h.turn refl g
    gathered_asks (Op u op) (inr h) g = leaves Bearing (Op u op) h.turn refl g
    gathered_asks (Post u cells accused) h g = leaves (Posting u) (Post u cells accused) h.turn refl g
    gathered_asks (Replace cell found) h g = leaves (Copying h.run) (Replace cell found) h.turn refl g
    gathered_asks (Clear cells who) h g = leaves (Copying h.run) (Clear cells who) h.turn refl g
    gathered_asks (Settle u cells accused) h g = leaves (Settling u h.group h.adopts) (Settle u cells accused) h.turn refl g
    gathered_asks other h g = refl

    asked_calm : (first : Bool) (ask : Ask) → MayAsk size m t k ask → (i : ℕ) → IsCalm (with_at m.txns t (asking x k (m.links k x.graph).last first ask) i)
    asked_calm first ask h = only (asking x k (m.links k x.graph).last first ask) (λ gathering j grant is.
        at_case (λ n f. any_alters (x.flying n) ≡ false → any_alters f ≡ false) x.flying k (x.flying k ++ asks_of first ask) (λ old. calm_append (x.flying k) (asks_of first ask) old (calm_asks first ask (gathered_asks ask h gathering))) j (λ ne old. old) (a t gathering j grant is))

-- ---- other steps

module _ (m : State) (a : GatheringIsCalm m) where
  forgotten_calm : (ends : ℕ → Bool) (k i : ℕ) → IsCalm (forgetting ends k (m.txns i))
  forgotten_calm ends k i = by_case (ends (m.txns i).graph) where
    by_case : (b : Bool) → IsCalm (if b then record (m.txns i) { flying = with_at (m.txns i).flying k [] } else m.txns i)
    by_case true = λ gathering j grant is. at_case (λ n f. any_alters ((m.txns i).flying n) ≡ false → any_alters f ≡ false) (m.txns i).flying k [] (λ h. refl) j (λ ne h. h) (a i gathering j grant is)
    by_case false = a i

  replied_calm : (k : ℕ) (by : Sender) (ask : Ask) (answer : Answer) → GatheringIsCalm (replied m k by ask answer)
  replied_calm k by ask answer i =
      let p = replied_txns m k by ask answer in
      subst (λ (f : ℕ → Txn). IsCalm (f i)) (sym p.is) (at_case (λ n z. IsCalm z) m.txns by.txn p.after (heard_calm (m.txns by.txn) (a by.txn) k by.connection ask answer p.after p.heard) i (λ ne. a i))

  taken_calm : (k : ℕ) (o : Output) → GatheringIsCalm (taken_in m k o)
  taken_calm k (Answered by ask answer) = by_case (is_current (m.links k by.graph) by.connection) where
    by_case : (b : Bool) → GatheringIsCalm (if b then replied m k by ask answer else m)
    by_case true = replied_calm k by ask answer
    by_case false = a
  taken_calm k Closed = forgotten_calm (λ g. true) k
  taken_calm k Opened = a
  taken_calm k (Connected graph) = a

  front_calm : (k : ℕ) (os : List Output) → GatheringIsCalm (take_in_front m k os)
  front_calm k [] = a
  front_calm k (o ∷ os) = taken_calm k o

  one_calm : (t : ℕ) (y : Txn) → IsCalm y → (i : ℕ) → IsCalm (with_at m.txns t y i)
  one_calm t y c i = at_case (λ j z. IsCalm z) m.txns t y c i (λ ne. a i)

  missed_calm : (t k : ℕ) → IsCalm (missing (record (m.txns t) { waits = with_at (m.txns t).waits k false }) k)
  missed_calm t k gathering j grant is = a t (sym (passed_gathers (m.txns t).stage) ∙ gathering) j grant is

  unsettled_calm : (t : ℕ) (stage : Stage) → GatheringIsCalm (unsettling m t stage)
  unsettled_calm t (Marking u) = one_calm t (entering (m.txns t) (Applying u) (m.txns t).confirmed) (other_stage (entering (m.txns t) (Applying u) (m.txns t).confirmed) refl)
  unsettled_calm t other = a

step_calm : (size : Size) (m : State) (step : Step) → Allowed size m step → GrantsAreHeld m → GatheringIsCalm m → GatheringIsCalm (after size m step)
step_calm size m (Step.Turns t turn) h g a = turned_calm size m a t g turn h
step_calm size m (Step.Asks t k first asked) h g a = asked_calm size m a t k first asked h.0
step_calm size m (Step.HandsIn k) h g a = front_calm (without_first_output m k) a k (m.bricks k).outputs
step_calm size m (Step.Bails t k) h g a = one_calm m a t (missing (record (m.txns t) { waits = with_at (m.txns t).waits k false }) k) (missed_calm m a t k)
step_calm size m (Step.Misses t k) h g a = one_calm m a t (record (m.txns t) { left = with_at (m.txns t).left k false; out = with_at (m.txns t).out k true }) (λ gathering j grant is. a t gathering j grant is)
step_calm size m (Step.Cuts k g2) h g a = forgotten_calm m a (λ other. other == g2) k
step_calm size m (Step.Unsettles t) h g a = unsettled_calm m a t (m.txns t).stage
step_calm size m (Step.Decides t) h g a = λ i. subst (λ (f : ℕ → Txn). IsCalm (f i)) (sym (decided_txns m (decided_by (m.txns t).stage))) (a i)
step_calm size m other h g a = a

pub gathering_is_calm : (size : Size) (m : State) → IsReached size m → GatheringIsCalm m
gathering_is_calm size m IsReached.Start = λ t gathering k grant is. absurd cc
gathering_is_calm size m (IsReached.Further old step reached allowed) = step_calm size old step allowed (grants_are_held size old reached) (gathering_is_calm size old reached)
