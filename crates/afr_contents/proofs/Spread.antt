-- At the moment of a decision each replica has the change as decided, or a quorum accuses it and goes on doing so.
use Rattle.std.proofs.Common.{◌≡◌, ◌∙◌, ℕ, ◌<◌, ◌≤◌, Bool, true, false, refl, ap, subst, ◌⊎◌, inl, inr, arith, Option, Some, None}
use Rattle.std.specs.Prelude.{List, [], ◌∷◌, ◌&&◌, not, nat_lt}
use Rattle.std.proofs.lemmas.Bool.{lt-ltb}
use Rattle.fop_types.specs.declared.cells.Cell.{Cell}
use Rattle.afr_machine.specs.Replicas.{Size, Replicas, outside, count}
use Rattle.afr_machine.specs.Touching.{has_cell}
use Rattle.afr_machine.specs.Requests.{Sender, Ask, Input}
use Rattle.afr_machine.specs.Requests.Ask.{Clear}
use Rattle.afr_machine.specs.Requests.Input.{Asked, Steered}
use Rattle.afr_machine.specs.Changes.{is_unsettled}
use Rattle.afr_machine.specs.Transactions.{Stage}
use Rattle.afr_machine.specs.Transactions.Work.{Settles}
use Rattle.afr_machine.specs.Transactions.Stage.{Posting, Settling}
use Rattle.afr_machine.specs.States.{State, phase_of}
use Rattle.afr_machine.specs.Steps.{IsReached, decided_by}
use Rattle.afr_laws.specs.Senders.{EachInput}
use Rattle.afr_laws.specs.Rows.{accuses_at, pardons}
use Rattle.afr_laws.specs.Fresh.{is_behind, IsWorkOf}
use Rattle.afr_laws.proofs.Bools.{apart_bools, is_or_not, both, neither, not_false}
use Rattle.afr_laws.proofs.Counts.{count_within}
use Rattle.afr_laws.proofs.Fresh.Known.{phases_are_known}
use Rattle.afr_soundness.specs.CopyApart.{IsCopyApart}
use Rattle.afr_soundness.specs.Posted.{AccusesAll}
use Rattle.afr_soundness.specs.SettleDone.{ClearsNot}
use Rattle.afr_soundness.proofs.CopyApart.Steps.{keeps_copies_apart}
use Rattle.afr_soundness.proofs.Applied.{applied_holds}
use Rattle.afr_soundness.proofs.Agreeing.{keeps_agreeing}
use Rattle.afr_soundness.proofs.Posted.{post_done_accuses}
use Rattle.afr_soundness.proofs.SettleDone.{settle_done_accuses}
use Rattle.afr_contents.specs.Staying.{pardons_coming, accusers_staying}
use Rattle.afr_contents.specs.Spread.{HasAsDecided, IsAccusedOnEach, EveryDecisionIsSpread}

-- a line whose clears are all of other cells
pub none_coming : (P : Sender → Ask → Type 0) (cell : Cell) (i : ℕ) → ((by : Sender) (ask : Ask) → P by ask → pardons ask cell i ≡ false) → (line : List Input) → EachInput P line → pardons_coming line cell i ≡ false
none_coming P cell i free [] h = refl
none_coming P cell i free (Asked by ask ∷ is) h = neither (pardons ask cell i) (pardons_coming is cell i) (free by ask h.0) (none_coming P cell i free is h.1)
none_coming P cell i free (Steered control ∷ is) h = none_coming P cell i free is h

clears_not : (cell : Cell) (i : ℕ) (ask : Ask) → ClearsNot cell ask → pardons ask cell i ≡ false
clears_not cell i (Clear cells who) h = ap (λ b. b && who i) h
clears_not cell i other h = refl

pub is_outside : (size : Size) (set : Replicas) (i : ℕ) → i < size.replicas → set i ≡ false → outside size set i ≡ true
is_outside size set i low none = both (nat_lt i size.replicas) (not (set i)) (lt-ltb i size.replicas low) (not_false none)

module _ (size : Size) (m : State) (r : IsReached size m) (t u : ℕ) (unsettled : is_unsettled (m.changes u).verdict ≡ true) (many : size.quorum ≤ count size.replicas (m.txns t).confirmed) where
  -- those that confirmed accuse, and go on doing so
  module _ (i : ℕ) (accuses : (k : ℕ) (cell : Cell) → (m.txns t).confirmed k ≡ true → has_cell (m.changes u).cells cell ≡ true → accuses_at (m.bricks k).store cell i ≡ true)
      (free : (k : ℕ) (cell : Cell) → (m.txns t).confirmed k ≡ true → has_cell (m.changes u).cells cell ≡ true → pardons_coming (m.bricks k).line cell i ≡ false) where
    by_many : IsAccusedOnEach size m u i
    by_many cell has =
        let more = count_within size.replicas (m.txns t).confirmed (accusers_staying m cell i) (λ k low c. both (accuses_at (m.bricks k).store cell i) (not (pardons_coming (m.bricks k).line cell i)) (accuses k cell c has) (not_false (free k cell c has))) in
        omega (arith, more, many)

  posted : (m.txns t).stage ≡ Posting u → (i : ℕ) → i < size.replicas → HasAsDecided m u true i ⊎ IsAccusedOnEach size m u i
  posted stage i low = by_case (is_or_not ((m.changes u).done i)) where
    confirmed : (k : ℕ) → (m.txns t).confirmed k ≡ true → ((m.changes u).done k ≡ true) × AccusesAll m k (m.changes u).cells (outside size (m.changes u).done)
    confirmed k c = (post_done_accuses size m r).confirmed t u k stage unsettled c

    -- a brick that has the change gets no clear over its cells
    free : (k : ℕ) (cell : Cell) → (m.txns t).confirmed k ≡ true → has_cell (m.changes u).cells cell ≡ true → pardons_coming (m.bricks k).line cell i ≡ false
    free k cell c has = none_coming (λ by ask. IsCopyApart m k ask) cell i (λ by ask. of_ask ask) (m.bricks k).line ((keeps_copies_apart size m r).replaces k) where
      of_ask : (ask : Ask) → IsCopyApart m k ask → pardons ask cell i ≡ false
      of_ask (Clear cells who) apart = by_cell (is_or_not (has_cell cells cell)) where
        by_cell : (has_cell cells cell ≡ true) ⊎ (has_cell cells cell ≡ false) → (has_cell cells cell && who i) ≡ false
        by_cell (inl there) = apart_bools ((applied_holds size m r).done u k unsettled (confirmed k c).0 cell has) ((apart u cell unsettled there has).copies cell has)
        by_cell (inr other) = ap (λ b. b && who i) other
      of_ask other apart = refl

    by_case : ((m.changes u).done i ≡ true) ⊎ ((m.changes u).done i ≡ false) → HasAsDecided m u true i ⊎ IsAccusedOnEach size m u i
    by_case (inl done) = inl (λ cell has. (applied_holds size m r).done u i unsettled done cell has)
    by_case (inr none) = inr (by_many i (λ k cell c has. (confirmed k c).1 cell i has (is_outside size (m.changes u).done i low none)) free)

  settled : (group : Replicas) (adopts : Bool) → (m.txns t).stage ≡ Settling u group adopts → (i : ℕ) → i < size.replicas → HasAsDecided m u adopts i ⊎ IsAccusedOnEach size m u i
  settled group adopts stage i low = by_case (is_or_not (group i)) where
    confirmed : (k : ℕ) → (m.txns t).confirmed k ≡ true → ((phase_of m t).reached k ≡ true) × AccusesAll m k (m.changes u).cells (outside size group)
    confirmed k c = (settle_done_accuses size m r).confirmed t u k group adopts stage unsettled c

    work : (m.txns t).work ≡ Settles u
    work = subst (λ s. IsWorkOf s (m.txns t).work) stage (phases_are_known size m r t).work

    free : (k : ℕ) (cell : Cell) → (m.txns t).confirmed k ≡ true → has_cell (m.changes u).cells cell ≡ true → pardons_coming (m.bricks k).line cell i ≡ false
    free k cell c has =
        none_coming (λ by ask. ClearsNot cell ask) cell i (λ by ask. clears_not cell i ask) (m.bricks k).line
        ((settle_done_accuses size m r).clears t u k cell (ap is_behind stage) work unsettled (confirmed k c).0 has)

    by_case : (group i ≡ true) ⊎ (group i ≡ false) → HasAsDecided m u adopts i ⊎ IsAccusedOnEach size m u i
    by_case (inl in_it) = inl (λ cell has. (keeps_agreeing size m r).group t u i group adopts cell stage unsettled low in_it has)
    by_case (inr none) = inr (by_many i (λ k cell c has. (confirmed k c).1 cell i has (is_outside size group i low none)) free)

unwrap : (v u : ℕ) (a b : Bool) → ◌≡◌ {A = Option (ℕ × Bool)} (Some (v, a)) (Some (u, b)) → ◌≡◌ {A = ℕ × Bool} (v, a) (u, b)
unwrap v u a b e = cc

same_pair : (v u : ℕ) (a b : Bool) → ◌≡◌ {A = Option (ℕ × Bool)} (Some (v, a)) (Some (u, b)) → (v ≡ u) × (a ≡ b)
same_pair v u a b e = let p = unwrap v u a b e in (ap (λ q. q.0) p, ap (λ q. q.1) p)

module _ (size : Size) (m : State) (r : IsReached size m) (t u : ℕ) (adopts : Bool) (unsettled : is_unsettled (m.changes u).verdict ≡ true) (many : size.quorum ≤ count size.replicas (m.txns t).confirmed) (i : ℕ) (low : i < size.replicas) where
  decides : (stage : Stage) → (m.txns t).stage ≡ stage → decided_by stage ≡ Some (u, adopts) → HasAsDecided m u adopts i ⊎ IsAccusedOnEach size m u i
  decides (Posting v) is e =
      let p = same_pair v u true adopts e in
      subst (λ b. HasAsDecided m u b i ⊎ IsAccusedOnEach size m u i) p.1 (posted size m r t u unsettled many (is ∙ ap Posting p.0) i low)
  decides (Settling v group a) is e =
      let p = same_pair v u a adopts e in
      settled size m r t u unsettled many group adopts (is ∙ ap (λ n. Settling n group a) p.0 ∙ ap (Settling u group) p.1) i low
  decides other is e = absurd (let no : None ≡ Some (u, adopts) = e in cc)

pub decisions_spread : EveryDecisionIsSpread
decisions_spread size m r = λ t h unsettled i low. decides size m r t h.change h.adopts unsettled h.many i low (m.txns t).stage refl h.decision
