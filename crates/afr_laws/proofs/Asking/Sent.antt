-- What is sent is what the phase sends.
use Rattle.std.proofs.Common.{◌≡◌, ◌∙◌, ℕ, Bool, true, refl, sym, subst, ◌⊎◌, inl, inr}
use Rattle.std.specs.Prelude.{◌++◌, ◌≢◌}
use Rattle.std.proofs.lemmas.Bool.{cases_eq}
use Rattle.afr_machine.specs.Replicas.{Size, with_at}
use Rattle.afr_machine.specs.Requests.{Ask}
use Rattle.afr_machine.specs.Requests.Ask.{Lock, Unlock, Mark, Op, Post, Fetch, Replace, Clear, Settle, Index, Open, Release, OpenFirst}
use Rattle.afr_machine.specs.States.{State}
use Rattle.afr_machine.specs.Sending.{MayAsk, asks_of, asking}
use Rattle.afr_machine.proofs.Tables.{at_same, at_other}
use Rattle.afr_laws.specs.Asking.{IsFetching, IsReplacing, IsClearing, IsSettlingBy, IsReadOf, IsBirthBy, IsAskedBy, LastIs, AsksAre}
use Rattle.afr_laws.proofs.Asking.Carries.{last_asked}

module _ (size : Size) (m : State) (t k : ℕ) where
  sent_asked : (ask : Ask) → MayAsk size m t k ask → IsAskedBy size m.changes (m.txns t).job (m.txns t).stage k ask
  sent_asked (Lock shared cells) h = h.turn
  sent_asked Unlock h = h.turn
  sent_asked (Mark u cells) h = (h.turn, h.cells_are)
  sent_asked (Op u op) (inl h) = inl (h.turn, h.op_is)
  sent_asked (Op u op) (inr h) = inr (h.turn, (h.no_number, subst (λ j. IsBirthBy j op) (sym h.job_is) refl))
  sent_asked (Post u cells accused) h = (h.turn, (h.cells_are, h.accused_are))
  sent_asked (Fetch cell) (inl h) = inl (h.turn, subst (λ j. IsReadOf j cell) (sym h.job_is) h.of_job)
  sent_asked (Fetch cell) (inr h) = inr (subst (λ s. IsFetching s k cell) (sym h.turn) (h.replacing, (h.of_run, h.source)))
  sent_asked (Replace cell found) h = subst (λ s. IsReplacing s k cell found) (sym h.turn) (h.replacing, (h.of_run, (h.sink, h.fetched)))
  sent_asked (Clear cells who) h = subst (λ s. IsClearing s cells who) (sym h.turn) (h.clearing, (h.cells_are, h.who_are))
  sent_asked (Settle u cells accused) h = (subst (λ s. IsSettlingBy size s u accused) (sym h.turn) (refl, h.accused_are), h.cells_are)
  sent_asked Index h = h.poll.turn
  sent_asked Open h = h.poll.turn
  sent_asked Release h = absurd h
  sent_asked OpenFirst h = absurd h

  pub asked_exactly : (first : Bool) (ask : Ask) → MayAsk size m t k ask → AsksAre size m.changes (m.txns t) → AsksAre size m.changes (asking (m.txns t) k (m.links k (m.txns t).graph).last first ask)
  asked_exactly first ask h old j is = by_case (cases_eq j k) where
    by_case : (j ≡ k) ⊎ (j ≢ k) → LastIs (IsAskedBy size m.changes (m.txns t).job (m.txns t).stage j) (with_at (m.txns t).flying k ((m.txns t).flying k ++ asks_of first ask) j)
    by_case (inl same) =
        subst (λ n. LastIs (IsAskedBy size m.changes (m.txns t).job (m.txns t).stage n) (with_at (m.txns t).flying k ((m.txns t).flying k ++ asks_of first ask) n)) (sym same)
        (subst (LastIs (IsAskedBy size m.changes (m.txns t).job (m.txns t).stage k)) (sym (at_same (m.txns t).flying k ((m.txns t).flying k ++ asks_of first ask))) (last_asked (IsAskedBy size m.changes (m.txns t).job (m.txns t).stage k) ((m.txns t).flying k) first ask (sent_asked ask h)))
    by_case (inr other) =
        subst (LastIs (IsAskedBy size m.changes (m.txns t).job (m.txns t).stage j)) (sym (at_other (m.txns t).flying k ((m.txns t).flying k ++ asks_of first ask) j other))
        (old j (sym (at_other (m.txns t).waits k true j other) ∙ is))
