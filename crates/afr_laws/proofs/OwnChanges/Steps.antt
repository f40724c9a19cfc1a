-- Each step keeps what is known of transactions' own changes.
use Rattle.std.proofs.Common.{◌≡◌, ◌∙◌, ℕ, ◌≤◌, Bool, true, false, refl, sym, ap, subst, ◌⊎◌, inl, inr, arith, Option, Some, None}
use Rattle.std.specs.Prelude.{if◌then◌else◌, List, [], ◌∷◌, ◌≢◌, ◌==◌}
use Rattle.std.proofs.lemmas.Bool.{cases_eq}
use Rattle.fop_types.specs.StoreOps.{needs}
use Rattle.afr_machine.specs.Replicas.{Size, with_at}
use Rattle.afr_machine.specs.Requests.{Sender, Ask, Answer, Output}
use Rattle.afr_machine.specs.Requests.Output.{Answered, Closed, Opened, Connected}
use Rattle.afr_machine.specs.Changes.{Change, Verdict, is_unsettled}
use Rattle.afr_machine.specs.Changes.Verdict.{Drawn, Unsettled, Adopted, Dropped}
use Rattle.afr_machine.specs.Transactions.{Stage, Txn, may_hold}
use Rattle.afr_machine.specs.Transactions.Stage.{Marking}
use Rattle.afr_machine.specs.States.{State, is_current}
use Rattle.afr_machine.specs.Answering.{forgetting, replied, taken_in, without_first_output}
use Rattle.afr_machine.specs.Turns.{entering}
use Rattle.afr_machine.specs.Steps.{Step, Allowed, after, IsReached, take_in_front, unsettling, deciding, decided, decided_by}
use Rattle.afr_machine.proofs.Tables.{at_same, at_other}
use Rattle.afr_machine.proofs.Keeping.{replied_beside}
use Rattle.afr_laws.specs.OwnChanges.{was_unsettled, IsOwnStage, KnowsOwn, ChangesFit, ChangesAreOwn}
use Rattle.afr_laws.proofs.Carry.{at_case}
use Rattle.afr_laws.proofs.Heard.{replied_txns}
use Rattle.afr_laws.proofs.Stages.{StageGoes}
use Rattle.afr_laws.proofs.OwnChanges.Carries.{ChangeGoes, same_goes, own_carry, own_goes}
use Rattle.afr_laws.proofs.OwnChanges.Replies.{SameTable, same_change_goes, replied_table, heard_own}
use Rattle.afr_laws.proofs.OwnChanges.Turns.{turned_own}

fit_table : (old new : ℕ → Change) → SameTable old new → ChangesFit old → ChangesFit new
fit_table old new s f = record { needs_are = λ u. (s u).cells ∙ f.needs_are u ∙ sym (ap needs (s u).op); none = (s 0).cells ∙ f.none }

-- one change with another verdict
fit_verdict : (old : ℕ → Change) (u : ℕ) (c : Change) → c.cells ≡ (old u).cells → c.op ≡ (old u).op → ChangesFit old → ChangesFit (with_at old u c)
fit_verdict old u c cells op f = record {
  needs_are = λ v. at_case (λ n (d : Change). d.cells ≡ needs d.op) old u c (cells ∙ f.needs_are u ∙ sym (ap needs op)) v (λ ne. f.needs_are v);
  none = at_case (λ n (d : Change). d.cells ≡ (old n).cells) old u c cells 0 (λ ne. refl) ∙ f.none;
}

module _ (m : State) (a : ChangesAreOwn m) where
  -- ---- replies and connections

  forgotten_own : (ends : ℕ → Bool) (k i : ℕ) → KnowsOwn m.changes m.drawn i (forgetting ends k (m.txns i))
  forgotten_own ends k i = by_case (ends (m.txns i).graph) where
    by_case : (b : Bool) → KnowsOwn m.changes m.drawn i (if b then record (m.txns i) { flying = with_at (m.txns i).flying k [] } else m.txns i)
    by_case true = own_goes m.changes m.drawn i (m.txns i) _ (record { job = refl; own = refl; settled = refl }) refl (StageGoes.StaysIn refl) (a.own i)
    by_case false = a.own i

  replied_own : (k : ℕ) (by : Sender) (ask : Ask) (answer : Answer) → ChangesAreOwn (replied m k by ask answer)
  replied_own k by ask answer =
      let p = replied_txns m k by ask answer in
      let s = replied_table m k by ask answer in
      record {
        fit = fit_table m.changes (replied m k by ask answer).changes s a.fit;
        own = λ i.
            own_carry m.changes (replied m k by ask answer).changes m.drawn (replied m k by ask answer).drawn i ((replied m k by ask answer).txns i) (omega (arith, (replied_beside m k by ask answer).drawn)) (λ u one is. same_change_goes _ _ (s u))
            (subst (λ (f : ℕ → Txn). KnowsOwn m.changes m.drawn i (f i)) (sym p.is)
            (at_case (λ n y. KnowsOwn m.changes m.drawn n y) m.txns by.txn p.after (heard_own m.changes m.drawn by.txn (m.txns by.txn) p.after k by.connection ask answer p.heard (a.own by.txn)) i (λ ne. a.own i)));
      }

  taken_own : (k : ℕ) (o : Output) → ChangesAreOwn (taken_in m k o)
  taken_own k (Answered by ask answer) = by_case (is_current (m.links k by.graph) by.connection) where
    by_case : (b : Bool) → ChangesAreOwn (if b then replied m k by ask answer else m)
    by_case true = replied_own k by ask answer
    by_case false = a
  taken_own k Closed = record { fit = a.fit; own = forgotten_own (λ g. true) k }
  taken_own k Opened = a
  taken_own k (Connected graph) = a

  front_own : (k : ℕ) (os : List Output) → ChangesAreOwn (take_in_front m k os)
  front_own k [] = a
  front_own k (o ∷ os) = taken_own k o

  -- ---- changes

  -- no other transaction has this change as its own
  not_own : (t u i : ℕ) → (m.changes u).by ≡ t → i ≢ t → 1 ≤ u → (m.txns i).own ≡ u → ⊥
  not_own t u i by ne one is = ne (sym ((a.own i).owns (subst (λ n. 1 ≤ n) (sym is) one)).by ∙ ap (λ n. (m.changes n).by) is ∙ by)

  module _ (u : ℕ) (c : Change) (by : c.by ≡ (m.changes u).by) (cells : c.cells ≡ (m.changes u).cells) (op : c.op ≡ (m.changes u).op) where
    -- a change goes on that is not drawn only
    goes_on : (was_unsettled (m.changes u).verdict ≡ true → was_unsettled c.verdict ≡ true) → (v : ℕ) → ((m.changes u).verdict ≡ Drawn → v ≡ u → c.verdict ≡ Drawn) → ChangeGoes (m.changes v) (with_at m.changes u c v)
    goes_on sent v drawn = by_case (cases_eq v u) where
      by_case : (v ≡ u) ⊎ (v ≢ u) → ChangeGoes (m.changes v) (with_at m.changes u c v)
      by_case (inl same) =
          subst (λ n. ChangeGoes (m.changes n) (with_at m.changes u c n)) (sym same)
          (subst (ChangeGoes (m.changes u)) (sym (at_same m.changes u c)) (record { by = by; cells = cells; drawn = λ h. drawn h same; sent = sent }))
      by_case (inr other) = subst (ChangeGoes (m.changes v)) (sym (at_other m.changes u c v other)) (same_goes (m.changes v))

  unsettles_own : (t : ℕ) (stage : Stage) → (m.txns t).stage ≡ stage → ChangesAreOwn (unsettling m t stage)
  unsettles_own t (Marking u) is = record {
    fit = fit_verdict m.changes u c refl refl a.fit;
    own = λ i. at_case (λ n y. KnowsOwn (with_at m.changes u c) m.drawn n y) m.txns t _ mine i (λ ne. theirs i ne);
  }
    where
      c : Change
      c = record (m.changes u) { verdict = Unsettled }

      s : ((m.txns t).own ≡ u) × ((1 ≤ u) × ((m.changes u).verdict ≡ Drawn))
      s = subst (λ x. IsOwnStage m.changes (m.txns t).own x) is (a.own t).stage

      by : (m.changes u).by ≡ t
      by = ap (λ n. (m.changes n).by) (sym s.0) ∙ ((a.own t).owns (subst (λ n. 1 ≤ n) (sym s.0) s.1.0)).by

      theirs : (i : ℕ) → i ≢ t → KnowsOwn (with_at m.changes u (record (m.changes u) { verdict = Unsettled })) m.drawn i (m.txns i)
      theirs i ne = own_carry m.changes _ m.drawn m.drawn i (m.txns i) (omega arith) (λ v one own. goes_on u c refl refl refl (λ h. refl) v (λ d same. absurd (not_own t u i by ne s.1.0 (own ∙ same)))) (a.own i)

      mine : KnowsOwn (with_at m.changes u (record (m.changes u) { verdict = Unsettled })) m.drawn t (entering (m.txns t) (Stage.Applying u) (m.txns t).confirmed)
      mine = record {
        job = (a.own t).job;
        owns = λ one.
            let o = (a.own t).owns one in
            let g = at_case (λ n (d : Change). (d.by ≡ (m.changes n).by) × (d.cells ≡ (m.changes n).cells)) m.changes u (record (m.changes u) { verdict = Unsettled }) (refl, refl) (m.txns t).own (λ ne. (refl, refl)) in
            record { drawn_yet = o.drawn_yet; by = g.0 ∙ o.by; settled = o.settled; first = o.first; cells = o.cells ∙ sym g.1 };
        stage = (s.0, (s.1.0, ap (λ (d : Change). was_unsettled d.verdict) (at_same m.changes u (record (m.changes u) { verdict = Unsettled }))));
        settled = λ w h. (a.own t).settled w (ap may_hold is);
      }
  unsettles_own t other is = a

  verdict_own : (u : ℕ) (verdict : Verdict) → is_unsettled (m.changes u).verdict ≡ true → was_unsettled verdict ≡ true → (new : State) → new.changes ≡ with_at m.changes u (record (m.changes u) { verdict = verdict }) → new.drawn ≡ m.drawn → new.txns ≡ m.txns → ChangesAreOwn new
  verdict_own u verdict is sent new changes drawn txns = record {
    fit = subst ChangesFit (sym changes) (fit_verdict m.changes u (record (m.changes u) { verdict = verdict }) refl refl a.fit);
    own = λ i. subst (λ (f : ℕ → Change). KnowsOwn f new.drawn i (new.txns i)) (sym changes) (subst (λ n. KnowsOwn (with_at m.changes u (record (m.changes u) { verdict = verdict })) n i (new.txns i)) (sym drawn) (subst (λ (f : ℕ → Txn). KnowsOwn (with_at m.changes u (record (m.changes u) { verdict = verdict })) m.drawn i (f i)) (sym txns)
        (own_carry m.changes _ m.drawn m.drawn i (m.txns i) (omega arith)
        (λ v one own. goes_on u (record (m.changes u) { verdict = verdict }) refl refl refl (λ h. sent) v (λ d same. absurd (let no : false ≡ true = sym (ap is_unsettled d) ∙ is in cc))) (a.own i))));
  }

  decides_own : (u : ℕ) (adopts first : Bool) → is_unsettled (m.changes u).verdict ≡ first → ChangesAreOwn (deciding m u adopts first)
  decides_own u adopts false is = a
  decides_own u true true is = verdict_own u Adopted is refl _ refl refl refl
  decides_own u false true is = verdict_own u Dropped is refl _ refl refl refl

  decision_own : (o : Option (ℕ × Bool)) → ChangesAreOwn (decided m o)
  decision_own None = a
  decision_own (Some o) = decides_own o.0 o.1 (is_unsettled (m.changes o.0).verdict) refl

step_own : (size : Size) (m : State) (step : Step) → Allowed size m step → ChangesAreOwn m → ChangesAreOwn (after size m step)
step_own size m (Step.Turns t turn) h a = turned_own size m a t turn h
step_own size m (Step.Asks t k first asked) h a = record { fit = a.fit; own = λ i. at_case (λ n y. KnowsOwn m.changes m.drawn n y) m.txns t _ (own_goes m.changes m.drawn t (m.txns t) _ (record { job = refl; own = refl; settled = refl }) refl (StageGoes.StaysIn refl) (a.own t)) i (λ ne. a.own i) }
step_own size m (Step.HandsIn k) h a = front_own (without_first_output m k) (record { fit = a.fit; own = a.own }) k (m.bricks k).outputs
step_own size m (Step.Bails t k) h a = record { fit = a.fit; own = λ i. at_case (λ n y. KnowsOwn m.changes m.drawn n y) m.txns t _ (own_goes m.changes m.drawn t (m.txns t) _ (record { job = refl; own = refl; settled = refl }) refl (StageGoes.PassesOn refl) (a.own t)) i (λ ne. a.own i) }
step_own size m (Step.Misses t k) h a = record { fit = a.fit; own = λ i. at_case (λ n y. KnowsOwn m.changes m.drawn n y) m.txns t _ (own_goes m.changes m.drawn t (m.txns t) _ (record { job = refl; own = refl; settled = refl }) refl (StageGoes.StaysIn refl) (a.own t)) i (λ ne. a.own i) }
step_own size m (Step.Cuts k g) h a = record { fit = a.fit; own = forgotten_own m a (λ other. other == g) k }
step_own size m (Step.Unsettles t) h a = unsettles_own m a t (m.txns t).stage refl
step_own size m (Step.Decides t) h a = decision_own m a (decided_by (m.txns t).stage)
step_own size m (Step.Draws number) h a = record { fit = a.fit; own = λ i. own_carry m.changes m.changes m.drawn number i (m.txns i) h (λ u one is. same_goes (m.changes u)) (a.own i) }
step_own size m other h a = record { fit = a.fit; own = a.own }

pub changes_are_own : (size : Size) (m : State) → IsReached size m → ChangesAreOwn m
changes_are_own size m IsReached.Start = record {
  fit = record { needs_are = λ u. refl; none = refl };
  own = λ t. record { job = tt; owns = λ one. absurd (omega (arith, one)); stage = tt; settled = λ w e. absurd cc };
}
changes_are_own size m (IsReached.Further old step reached allowed) = step_own size old step allowed (changes_are_own size old reached)
