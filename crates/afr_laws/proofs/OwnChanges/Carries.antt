-- What is known of a transaction's own change stays while the change goes on, and while the transaction does.
use Rattle.std.proofs.Common.{◌≡◌, ◌∙◌, ℕ, ◌≤◌, true, refl, sym, ap, subst, arith}
use Rattle.fop_types.specs.Jobs.{IsJob}
use Rattle.afr_machine.specs.Changes.{Change}
use Rattle.afr_machine.specs.Changes.Verdict.{Drawn}
use Rattle.afr_machine.specs.Transactions.{Stage, Txn, cells_of_job, settles_first, may_hold}
use Rattle.afr_machine.specs.Transactions.Work.{Own}
use Rattle.afr_machine.specs.Transactions.Stage.{Marking, Applying, Posting, Copying}
use Rattle.afr_machine.specs.Answering.{passed}
use Rattle.afr_laws.specs.Waiting.{IsCopying}
use Rattle.afr_laws.specs.OwnChanges.{was_unsettled, IsOwnStage, KnowsOwn}
use Rattle.afr_laws.proofs.Stages.{StageGoes}
use Rattle.afr_laws.proofs.Stages.StageGoes.{StaysIn, PassesOn, CopiesOn}

-- ---- the change goes on

pub record ChangeGoes (old new : Change) : Type 0 where
  pub by : new.by ≡ old.by
  pub cells : new.cells ≡ old.cells
  pub drawn : old.verdict ≡ Drawn → new.verdict ≡ Drawn
  pub sent : was_unsettled old.verdict ≡ true → was_unsettled new.verdict ≡ true

pub same_goes : (c : Change) → ChangeGoes c c
same_goes c = record { by = refl; cells = refl; drawn = λ h. h; sent = λ h. h }

module _ (old new : ℕ → Change) where
  stage_carry : (own : ℕ) (stage : Stage) → ((u : ℕ) → 1 ≤ u → own ≡ u → ChangeGoes (old u) (new u)) → IsOwnStage old own stage → IsOwnStage new own stage
  stage_carry own (Marking u) goes h = (h.0, (h.1.0, (goes u h.1.0 h.0).drawn h.1.1))
  stage_carry own (Applying u) goes h = (h.0, (h.1.0, (goes u h.1.0 h.0).sent h.1.1))
  stage_carry own (Posting u) goes h = (h.0, (h.1.0, (goes u h.1.0 h.0).sent h.1.1))
  stage_carry own other goes h = tt

  pub own_carry : (d e t : ℕ) (x : Txn) → d ≤ e → ((u : ℕ) → 1 ≤ u → x.own ≡ u → ChangeGoes (old u) (new u)) → KnowsOwn old d t x → KnowsOwn new e t x
  own_carry d e t x le goes k = record {
    job = k.job;
    owns = λ one. let o = k.owns one in let c = goes x.own one refl in record { drawn_yet = omega (arith, le, o.drawn_yet); by = c.by ∙ o.by; settled = o.settled; first = o.first; cells = o.cells ∙ sym c.cells };
    stage = stage_carry x.own x.stage goes k.stage;
    settled = k.settled;
  }

-- ---- the transaction goes on

pub record SameOwn (x y : Txn) : Type 0 where
  pub job : y.job ≡ x.job
  pub own : y.own ≡ x.own
  pub settled : y.settled ≡ x.settled

pub same_own : (x : Txn) → SameOwn x x
same_own x = record { job = refl; own = refl; settled = refl }

module _ (changes : ℕ → Change) (drawn t : ℕ) where
  -- in another stage
  pub restaged : (x y : Txn) → SameOwn x y → IsOwnStage changes y.own y.stage → (y.work ≡ Own → may_hold y.stage ≡ true → x.settled ≡ true) → KnowsOwn changes drawn t x → KnowsOwn changes drawn t y
  restaged x y s stage settled k = record {
    job = subst IsJob (sym s.job) k.job;
    owns = λ one.
        let o = k.owns (subst (λ n. 1 ≤ n) s.own one) in
        record {
          drawn_yet = omega (arith, s.own, o.drawn_yet);
          by = ap (λ n. (changes n).by) s.own ∙ o.by;
          settled = s.settled ∙ o.settled;
          first = ap settles_first s.job ∙ o.first;
          cells = ap cells_of_job s.job ∙ o.cells ∙ sym (ap (λ n. (changes n).cells) s.own);
        };
    stage = stage;
    settled = λ w h. s.settled ∙ settled w h;
  }

passed_own : (changes : ℕ → Change) (own : ℕ) (stage : Stage) → IsOwnStage changes own stage → IsOwnStage changes own (passed stage)
passed_own changes own (Marking u) h = h
passed_own changes own (Applying u) h = h
passed_own changes own (Posting u) h = h
passed_own changes own other h = tt

copying_own : (changes : ℕ → Change) (own : ℕ) (stage : Stage) → IsCopying stage → IsOwnStage changes own stage
copying_own changes own (Copying run) h = tt
copying_own changes own other h = absurd h

pub goes_own : (changes : ℕ → Change) (own : ℕ) (old new : Stage) → StageGoes old new → IsOwnStage changes own old → IsOwnStage changes own new
goes_own changes own old new (StaysIn is) h = subst (IsOwnStage changes own) (sym is) h
goes_own changes own old new (PassesOn is) h = subst (IsOwnStage changes own) (sym is) (passed_own changes own old h)
goes_own changes own old new (CopiesOn c d) h = copying_own changes own new d

passed_holds : (stage : Stage) → may_hold (passed stage) ≡ may_hold stage
passed_holds (Stage.Locking cells shared next) = refl
passed_holds other = refl

copying_holds : (stage : Stage) → IsCopying stage → may_hold stage ≡ true
copying_holds (Copying run) h = refl
copying_holds other h = absurd h

pub goes_holds : (old new : Stage) → StageGoes old new → may_hold new ≡ true → may_hold old ≡ true
goes_holds old new (StaysIn is) h = sym (ap may_hold is) ∙ h
goes_holds old new (PassesOn is) h = sym (ap may_hold is ∙ passed_holds old) ∙ h
goes_holds old new (CopiesOn c d) h = copying_holds old c

pub own_goes : (changes : ℕ → Change) (drawn t : ℕ) (x y : Txn) → SameOwn x y → y.work ≡ x.work → StageGoes x.stage y.stage → KnowsOwn changes drawn t x → KnowsOwn changes drawn t y
own_goes changes drawn t x y s work goes k =
    restaged changes drawn t x y s (subst (λ n. IsOwnStage changes n y.stage) (sym s.own) (goes_own changes x.own x.stage y.stage goes k.stage))
    (λ w h. k.settled (sym work ∙ w) (goes_holds x.stage y.stage goes h)) k
