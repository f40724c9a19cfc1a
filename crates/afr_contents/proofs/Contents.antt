-- What a step makes of what is adopted, and of what cells were born with.
use Rattle.std.proofs.Common.{◌≡◌, ◌∙◌, ℕ, Bool, true, false, refl, sym, ap, subst}
use Rattle.std.specs.Prelude.{List, [], ◌∷◌, if◌then◌else◌}
use Rattle.fop_types.specs.StoreOps.{births, after_births, contents_after}
use Rattle.fop_types.specs.declared.jobs.Job.{Job}
use Rattle.fop_types.specs.declared.jobs.Job.TheVariants as job
use Rattle.fop_types.specs.declared.store_ops.StoreOp.{StoreOp}
use Rattle.afr_machine.specs.Replicas.{Size}
use Rattle.afr_machine.specs.Requests.{Output}
use Rattle.afr_machine.specs.Requests.Output.{Answered}
use Rattle.afr_machine.specs.Changes.{is_unsettled}
use Rattle.afr_machine.specs.States.{State, is_current}
use Rattle.afr_machine.specs.Births.{AreAsFirst}
use Rattle.afr_machine.specs.Answering.{replied, taken_in, without_first_output}
use Rattle.afr_machine.specs.Turns.{Turn, MayTurn, MayBearNow, after_turn, drawing, posting, settling, bearing, clearing}
use Rattle.afr_machine.specs.Steps.{Step, Allowed, MayUnsettle, MayDecide, after, take_in_front, unsettling, deciding, decided, decided_by}
use Rattle.afr_machine.proofs.Keeping.{replied_beside}

pub data ContentsMove (size : Size) (m : State) (step : Step) (new : State) : Type 0 where
  Same : new.adopted ≡ m.adopted → new.born ≡ m.born → ContentsMove size m step new
  Bears : (op : StoreOp) → AreAsFirst m.born (births op) → new.adopted ≡ after_births m.adopted (births op) → new.born ≡ after_births m.born (births op) → ContentsMove size m step new
  Unsettles : (op : StoreOp) → AreAsFirst m.born (births op) → new.adopted ≡ m.adopted → new.born ≡ after_births m.born (births op) → ContentsMove size m step new
  Adopts : (t : ℕ) → step ≡ Step.Decides t → (h : MayDecide size m t) → is_unsettled (m.changes h.change).verdict ≡ true → h.adopts ≡ true →
      new.adopted ≡ contents_after m.adopted (m.changes h.change).op → new.born ≡ m.born → ContentsMove size m step new

module _ (size : Size) (m : State) where
  bears : (step : Step) (t : ℕ) (h : MayBearNow size m t) (own : Job) → (m.txns t).job ≡ own → ContentsMove size m step (bearing m t own)
  bears step t h (job.Birth cells op) is = ContentsMove.Bears op (subst (λ o. AreAsFirst m.born (births o)) same h.as_first) refl refl where
    jobs : job.Birth h.cells h.op ≡ job.Birth cells op
    jobs = sym h.job_is ∙ is

    same : h.op ≡ op
    same = cc
  bears step t h other is = ContentsMove.Same refl refl

  turned : (t : ℕ) (turn : Turn) → MayTurn size m t turn → ContentsMove size m (Step.Turns t turn) (after_turn size m t turn)
  turned t Turn.Bears h = bears (Step.Turns t Turn.Bears) t h (m.txns t).job refl
  turned t Turn.Marks h = ContentsMove.Same (ap (λ j. (drawing m t j).adopted) h.job_is) (ap (λ j. (drawing m t j).born) h.job_is)
  turned t Turn.Posts h = ContentsMove.Same (ap (λ s. (posting size m t s).adopted) h.turn) (ap (λ s. (posting size m t s).born) h.turn)
  turned t (Turn.SettlesAs group adopts) h = ContentsMove.Same (ap (λ w. (settling size m t w group adopts).adopted) h.work_is) (ap (λ w. (settling size m t w group adopts).born) h.work_is)
  turned t Turn.Clears h = ContentsMove.Same (ap (λ s. (clearing m t s).adopted) h.turn) (ap (λ s. (clearing m t s).born) h.turn)
  turned t other h = ContentsMove.Same refl refl

  unsettles : (t : ℕ) → (h : MayUnsettle size m t) → ContentsMove size m (Step.Unsettles t) (unsettling m t (m.txns t).stage)
  unsettles t h = ContentsMove.Unsettles (m.changes h.change).op h.as_first (ap (λ s. (unsettling m t s).adopted) h.turn) (ap (λ s. (unsettling m t s).born) h.turn)

  decides : (t : ℕ) → (h : MayDecide size m t) → ContentsMove size m (Step.Decides t) (decided m (decided_by (m.txns t).stage))
  decides t h = subst (λ d. ContentsMove size m (Step.Decides t) (decided m d)) (sym h.decision) (by_case h.adopts refl (is_unsettled (m.changes h.change).verdict) refl) where
    by_case : (a : Bool) → h.adopts ≡ a → (b : Bool) → is_unsettled (m.changes h.change).verdict ≡ b → ContentsMove size m (Step.Decides t) (deciding m h.change a b)
    by_case a a_is false is = ContentsMove.Same refl refl
    by_case false a_is true is = ContentsMove.Same refl refl
    by_case true a_is true is = ContentsMove.Adopts t refl h is a_is refl refl

  takes : (step : Step) (k : ℕ) (o : Output) → ContentsMove size m step (taken_in (without_first_output m k) k o)
  takes step k (Answered by ask answer) = by_case (is_current (m.links k by.graph) by.connection) where
    by_case : (b : Bool) → ContentsMove size m step (if b then replied (without_first_output m k) k by ask answer else without_first_output m k)
    by_case true = let b = replied_beside (without_first_output m k) k by ask answer in ContentsMove.Same b.adopted b.born
    by_case false = ContentsMove.Same refl refl
  takes step k other = ContentsMove.Same refl refl

  hands : (step : Step) (k : ℕ) (os : List Output) → ContentsMove size m step (take_in_front (without_first_output m k) k os)
  hands step k [] = ContentsMove.Same refl refl
  hands step k (o ∷ os) = takes step k o

pub contents_move : (size : Size) (m : State) (step : Step) → Allowed size m step → ContentsMove size m step (after size m step)
contents_move size m (Step.Turns t turn) h = turned size m t turn h
contents_move size m (Step.HandsIn k) h = hands size m (Step.HandsIn k) k (m.bricks k).outputs
contents_move size m (Step.Unsettles t) h = unsettles size m t h
contents_move size m (Step.Decides t) h = decides size m t h
contents_move size m other h = ContentsMove.Same refl refl
