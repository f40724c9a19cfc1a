-- Where each copy is good or its replica accused, whoever is free is good; so what a read finds, and a change before it becomes unsettled,
-- is settled, and what is copied is good.
use Rattle.std.proofs.Common.{◌≡◌, ◌∙◌, ℕ, ◌≤◌, ◌<◌, Bool, true, false, refl, sym, ap, subst, ◌⊎◌, inl, inr, arith, Option, Some, None}
use Rattle.std.specs.Prelude.{[], ◌∷◌, ◌&&◌, ◌||◌, ◌≢◌, not, nat_lt, is_some}
use Rattle.std.proofs.lemmas.Bool.{cases_eq, eq-eqb}
use Rattle.fop_types.specs.declared.cells.Cell.{Cell}
use Rattle.afr_machine.specs.Replicas.{Size, IsSize, Replicas, outside}
use Rattle.afr_machine.specs.Touching.{has_cell, share}
use Rattle.afr_machine.specs.Copies.{Copy, changes_of, has_change}
use Rattle.afr_machine.specs.Phases.{Deciding, IsSoundIn, IsReadyIn}
use Rattle.afr_machine.specs.Phases.Deciding.{NoChange, ByPosts, BySettles}
use Rattle.afr_machine.specs.Transactions.{CopyRun, Stage, Work, cells_of_job}
use Rattle.afr_machine.specs.Transactions.Work.{Own, Settles}
use Rattle.afr_machine.specs.Transactions.Stage.{Copying}
use Rattle.afr_machine.specs.States.{State, phase_of}
use Rattle.afr_machine.specs.Births.{cells_of_work}
use Rattle.afr_machine.specs.Turns.{IsSource}
use Rattle.afr_machine.specs.Steps.{IsReached}
use Rattle.afr_laws.specs.Rows.{accuses_at}
use Rattle.afr_laws.specs.OwnChanges.{was_unsettled, IsOwnStage}
use Rattle.afr_laws.specs.Fresh.{is_behind}
use Rattle.afr_laws.specs.Seen.{IsSuperseded}
use Rattle.afr_laws.specs.Sound.{comes, accusers_coming, IsSpared}
use Rattle.afr_laws.proofs.Bools.{apart_bools, both_left, or_left}
use Rattle.afr_laws.proofs.Counts.{count_within}
use Rattle.afr_laws.proofs.Copies.Asks.{sent_is, share_at}
use Rattle.afr_laws.proofs.Fresh.Known.{phases_are_known}
use Rattle.afr_laws.proofs.OwnChanges.Steps.{changes_are_own}
use Rattle.afr_soundness.specs.Clears.{IsFree}
use Rattle.afr_soundness.specs.Deciding.{IsAccusedBy, IsDecidedIn, IsCopiedFrom, DecidesIn}
use Rattle.afr_soundness.specs.Later.{IsQuietFor, is_before}
use Rattle.afr_soundness.specs.Runs.{IsSourceOf}
use Rattle.afr_soundness.proofs.CopyApart.Static.{marked_in}
use Rattle.afr_soundness.proofs.Deciding.Whose.{decides_exactly}
use Rattle.afr_soundness.proofs.Free.{last_spares, ready_is_free}
use Rattle.afr_soundness.proofs.Later.Steps.{later_are_quiet}
use Rattle.afr_soundness.proofs.Runs.{runs_are_known}
use Rattle.afr_soundness.proofs.Unsettled.{is_some_change, one_unsettled, no_other_unsettled}
use Rattle.afr_contents.specs.Staying.{pardons_coming, accusers_staying, IsAccusedByMany}
use Rattle.afr_contents.specs.Adopted.{adopted_on}
use Rattle.afr_contents.specs.Good.{IsGood, IsGoodAt, IsGoodOrAccused, CopiesGoodOrAccused, IsSettledCopy}
use Rattle.afr_contents.specs.Good.IsGood.{Absent, Settled, Ahead}
use Rattle.afr_contents.specs.Found.{IsSettledFor, GoodIsSettled, IsApplying}
use Rattle.afr_contents.proofs.Ops.{first_has}

-- who goes on accusing accuses
pub staying_coming : (m : State) (cell : Cell) (i k : ℕ) → accusers_staying m cell i k ≡ true → accusers_coming m cell i k ≡ true
staying_coming m cell i k h =
    or_left (accuses_at (m.bricks k).store cell i) (comes (m.bricks k).line cell i) (both_left (accuses_at (m.bricks k).store cell i) (not (pardons_coming (m.bricks k).line cell i)) h)

pub not_accused : (size : Size) (m : State) (cell : Cell) (i : ℕ) → IsFree size m cell i → IsAccusedByMany size m cell i → ⊥
not_accused size m cell i free many =
    let more = count_within size.replicas (accusers_staying m cell i) (accusers_coming m cell i) (λ k low h. staying_coming m cell i k h) in
    let few = free.few in
    omega (arith, more, many, few)

pub free_is_good : (size : Size) (m : State) → CopiesGoodOrAccused size m → (i : ℕ) (cell : Cell) → i < size.replicas → IsFree size m cell i → IsGoodAt m i cell
free_is_good size m good i cell low free = by_case (good i cell low) where
  by_case : IsGoodOrAccused size m i cell → IsGoodAt m i cell
  by_case (inl is) = is
  by_case (inr accused) = absurd (not_accused size m cell i free accused)

-- ---- what is settled

pub good_is_settled : GoodIsSettled
good_is_settled size m r t cell s held (Absent e empty) = absurd (let no : Some held ≡ None = e in cc)
good_is_settled size m r t cell s held (Settled same e changes content) = record { held = same; is = e; changes = changes; content = content }
good_is_settled size m r t cell s held (Ahead same u e a) = apart_bools (sent_is (m.changes u).verdict a.unsettled) (subst (λ n. was_unsettled (m.changes n).verdict ≡ false) own (s.unmade one)) where
  shared : share (m.changes u).cells (cells_of_job (m.txns t).job) ≡ true
  shared = share_at (m.changes u).cells (cells_of_job (m.txns t).job) cell a.touches s.covers

  own : (m.txns t).own ≡ u
  own = no_other_unsettled size m r t u s.first s.settled s.running a.unsettled shared

  one : 1 ≤ (m.txns t).own
  one = subst (λ n. 1 ≤ n) (sym own) (is_some_change size m r u (cells_of_job (m.txns t).job) shared)

-- a copy that is there
module _ (size : Size) (m : State) (r : IsReached size m) (t : ℕ) (cell : Cell) (s : IsSettledFor m t cell) where
  present_settled : (copy : Option Copy) → is_some copy ≡ true → IsGood m cell copy → IsSettledCopy m cell copy
  present_settled (Some held) h good = good_is_settled size m r t cell s held good
  present_settled None h good = absurd (let no : false ≡ true = h in cc)

-- ---- who is spared

before_behind : (stage : Stage) → is_before stage ≡ true → is_behind stage ≡ true
before_behind Stage.Locked h = refl
before_behind (Stage.Marking u) h = refl
before_behind (Copying run) h = refl
before_behind other h = absurd (let no : false ≡ true = h in cc)

module _ (size : Size) (m : State) (is : IsSize size) (r : IsReached size m) (good : CopiesGoodOrAccused size m) (t : ℕ) where
  known_one : is_behind (m.txns t).stage ≡ true → 1 ≤ (m.txns t).phase
  known_one behind = ((decides_exactly size m r).transactions t).one behind

  low : (m.txns t).phase ≤ m.ended
  low = (phases_are_known size m r t).low

  module _ (k : ℕ) (cell : Cell) (few : k < size.replicas) (s : IsSettledFor m t cell) (before : is_before (m.txns t).stage ≡ true) (work : (m.txns t).work ≡ Own) (ready : IsReadyIn size (phase_of m t) cell k) where
    behind : is_behind (m.txns t).stage ≡ true
    behind = before_behind (m.txns t).stage before

    covers : has_cell (phase_of m t).cells cell ≡ true
    covers = ap (λ cs. has_cell cs cell) ((phases_are_known size m r t).cells behind ∙ ap (cells_of_work m.changes (m.txns t)) work) ∙ s.covers

    -- a lock phase that is quiet for its change accuses nobody
    quiet : (at : ℕ) → 1 ≤ at → at ≤ m.ended → has_cell (m.phases at).cells cell ≡ true → (d : Deciding) → IsQuietFor m.changes (m.txns t).own d → IsDecidedIn m at d → IsAccusedBy size m.changes d (m.phases at).accused → (m.phases at).accused k ≡ false
    quiet at one last there NoChange q decided nobody = nobody k
    quiet at one last there (ByPosts v) q decided (inl nobody) = nobody k
    quiet at one last there (ByPosts v) (inl same) decided (inr sent) = apart_bools sent.0 (subst (λ n. was_unsettled (m.changes n).verdict ≡ false) (sym same) (s.unmade (subst (λ n. 1 ≤ n) same decided.one)))
    quiet at one last there (ByPosts v) (inr never) decided (inr sent) = apart_bools sent.0 never
    quiet at one last there (BySettles v group adopts) same decided outside_it = apart_bools decided.sent (subst (λ n. was_unsettled (m.changes n).verdict ≡ false) (sym same) (s.unmade (subst (λ n. 1 ≤ n) same some))) where
      some : 1 ≤ v
      some = is_some_change size m r v (cell ∷ []) (share_at (m.changes v).cells (cell ∷ []) cell (ap (λ cs. has_cell cs cell) (sym decided.cells) ∙ there) (first_has cell []))

    quiet_at : (at : ℕ) → 1 ≤ at → at ≤ m.ended → has_cell (m.phases at).cells cell ≡ true → IsQuietFor m.changes (m.txns t).own (m.phases at).decides → (m.phases at).accused k ≡ false
    quiet_at at one last there q = let d = decides_exactly size m r in quiet at one last there (m.phases at).decides q (d.decided at one last) (d.accused at one last)

    -- its own one: it decides nothing, or the change that it marks
    own_quiet : IsQuietFor m.changes (m.txns t).own (phase_of m t).decides
    own_quiet = by_stage (m.txns t).stage refl before ((decides_exactly size m r).transactions t).decides where
      copied_from : (work : Work) (group : Option Replicas) (d : Deciding) → work ≡ Own → IsCopiedFrom work group d → d ≡ NoChange
      copied_from Own None d own from = from
      copied_from Own (Some group) d own from = absurd from
      copied_from (Settles u) group d own from = absurd (let no : Settles u ≡ Own = own in cc)

      nothing : (d : Deciding) → d ≡ NoChange → IsQuietFor m.changes (m.txns t).own d
      nothing NoChange e = tt
      nothing (ByPosts v) e = absurd (let no : ByPosts v ≡ NoChange = e in cc)
      nothing (BySettles v group adopts) e = absurd (let no : BySettles v group adopts ≡ NoChange = e in cc)

      marks : (u : ℕ) (d : Deciding) → d ≡ ByPosts u → (m.txns t).own ≡ u → IsQuietFor m.changes (m.txns t).own d
      marks u NoChange e own = tt
      marks u (ByPosts v) e own = inl (number v u e ∙ sym own) where
        number : (v u : ℕ) → ByPosts v ≡ ByPosts u → v ≡ u
        number v u e = cc
      marks u (BySettles v group adopts) e own = absurd (let no : BySettles v group adopts ≡ ByPosts u = e in cc)

      by_stage : (stage : Stage) → (m.txns t).stage ≡ stage → is_before stage ≡ true → DecidesIn size m.changes (m.txns t).work stage (phase_of m t) → IsQuietFor m.changes (m.txns t).own (phase_of m t).decides
      by_stage Stage.Locked at h d = nothing (phase_of m t).decides d
      by_stage (Stage.Marking u) at h d = marks u (phase_of m t).decides d.0 (subst (λ x. IsOwnStage m.changes (m.txns t).own x) at ((changes_are_own size m r).own t).stage).0
      by_stage (Copying run) at h d = nothing (phase_of m t).decides (copied_from (m.txns t).work run.group (phase_of m t).decides work d)
      by_stage other at h d = absurd (let no : false ≡ true = h in cc)

    spared : IsSpared m (m.txns t).phase cell k
    spared = record { itself = itself; later = later } where
      itself : (phase_of m t).accused k ≡ false
      itself = quiet_at (m.txns t).phase (known_one behind) low covers own_quiet

      later : (at : ℕ) → (m.txns t).phase ≤ at → at ≤ m.ended → has_cell (m.phases at).cells cell ≡ true → (m.phases at).wrote ≡ true → (m.phases at).accused k ≡ false
      later at from last there wrote = by_order (cases_eq at (m.txns t).phase) where
        by_order : (at ≡ (m.txns t).phase) ⊎ (at ≢ (m.txns t).phase) → (m.phases at).accused k ≡ false
        by_order (inl same) = subst (λ q. (m.phases q).accused k ≡ false) (sym same) itself
        by_order (inr other) =
            let one = known_one behind in
            quiet_at at (omega (arith, one, from)) last there
            ((later_are_quiet size m r).own t at before work s.first (record { later = omega (arith, from, other); ended = last; common = share_at (m.phases at).cells (cells_of_job (m.txns t).job) cell there s.covers }))

    pub ready_has : IsSettledCopy m cell ((m.bricks k).store cell).copy
    ready_has =
        let free = ready_is_free size m is r (m.txns t).phase cell (known_one behind) low covers k ready spared in
        present_settled size m r t cell s ((m.bricks k).store cell).copy free.present (free_is_good size m good k cell few free)

  -- ---- sources

  module _ (run : CopyRun) (cell : Cell) (copies : (m.txns t).stage ≡ Copying run) (has : has_cell run.cells cell ≡ true) (last : IsSuperseded m.phases m.ended (m.txns t).phase cell → ⊥) where
    not_outside : (size : Size) (group by : Replicas) (i : ℕ) → by ≡ group → group i ≡ true → outside size by i ≡ false
    not_outside size group by i same in_it = ap (λ (f : Replicas). nat_lt i size.replicas && not (f i)) same ∙ ap (λ b. nat_lt i size.replicas && not b) in_it ∙ and_none (nat_lt i size.replicas) where
      and_none : (b : Bool) → (b && false) ≡ false
      and_none true = refl
      and_none false = refl

    spares : (work : Work) (group : Option Replicas) (d : Deciding) (accused : Replicas) (i : ℕ) → IsCopiedFrom work group d → IsAccusedBy size m.changes d accused → IsSource size (phase_of m t) run.cells group i → accused i ≡ false
    spares Own None d accused i from by source = nobody d from by where
      nobody : (d : Deciding) → d ≡ NoChange → IsAccusedBy size m.changes d accused → accused i ≡ false
      nobody NoChange e h = h i
      nobody (ByPosts v) e h = absurd (let no : ByPosts v ≡ NoChange = e in cc)
      nobody (BySettles v group adopts) e h = absurd (let no : BySettles v group adopts ≡ NoChange = e in cc)
    spares (Settles u) (Some group) (BySettles v by adopts) accused i from outside_it source = outside_it i ∙ not_outside size group by i from.1 source.0
    spares (Settles u) (Some group) NoChange accused i from by source = absurd from
    spares (Settles u) (Some group) (ByPosts v) accused i from by source = absurd from
    spares Own (Some group) d accused i from by source = absurd from
    spares (Settles u) None d accused i from by source = absurd from

    copying_behind : is_behind (m.txns t).stage ≡ true
    copying_behind = ap is_behind copies

    pub source_good : (i : ℕ) → run.sources i ≡ true → IsGoodAt m i cell
    source_good i in_it = free_is_good size m good i cell known.replica (ready_is_free size m is r (m.txns t).phase cell (known_one copying_behind) low phase_covers i (inl (source_sound run.group known.source)) (last_spares m (m.txns t).phase i cell last unaccused)) where
      known : IsSourceOf size (phase_of m t) run i
      known = (runs_are_known size m r t run copies).sources_are i in_it

      phase_covers : has_cell (phase_of m t).cells cell ≡ true
      phase_covers = (runs_are_known size m r t run copies).within cell has

      source_sound : (group : Option Replicas) → IsSource size (phase_of m t) run.cells group i → IsSoundIn size (phase_of m t) cell i
      source_sound None s = s cell has
      source_sound (Some group) s = s.1 cell has

      unaccused : (phase_of m t).accused i ≡ false
      unaccused = let d = decides_exactly size m r in
          spares (m.txns t).work run.group (phase_of m t).decides (phase_of m t).accused i (subst (λ s. DecidesIn size m.changes (m.txns t).work s (phase_of m t)) copies (d.transactions t).decides)
          (d.accused (m.txns t).phase (known_one copying_behind) low) known.source

-- ---- who applies a change

module _ (size : Size) (m : State) (is : IsSize size) (r : IsReached size m) (good : CopiesGoodOrAccused size m) (t u k : ℕ) (cell : Cell) (a : IsApplying size m t u k cell) where
  applying_behind : is_behind (m.txns t).stage ≡ true
  applying_behind = ap is_behind a.stage

  phase_one : 1 ≤ (m.txns t).phase
  phase_one = ((decides_exactly size m r).transactions t).one applying_behind

  phase_low : (m.txns t).phase ≤ m.ended
  phase_low = (phases_are_known size m r t).low

  marks_it : (phase_of m t).decides ≡ ByPosts u
  marks_it = (subst (λ s. DecidesIn size m.changes (m.txns t).work s (phase_of m t)) a.stage ((decides_exactly size m r).transactions t).decides).0

  phase_covers : has_cell (phase_of m t).cells cell ≡ true
  phase_covers = ap (λ cs. has_cell cs cell) (marked_in size m r (m.txns t).phase u phase_one phase_low marks_it).cells ∙ a.touches

  free : IsFree size m cell k
  free = ready_is_free size m is r (m.txns t).phase cell phase_one phase_low phase_covers k a.ready a.spared

  without : (copy : Option Copy) → is_some copy ≡ true → has_change (changes_of copy) u ≡ false → IsGood m cell copy → IsSettledCopy m cell copy
  without copy there none (Absent e empty) = absurd (let no : false ≡ true = sym (ap is_some e) ∙ there in cc)
  without copy there none (Settled held e changes content) = record { held = held; is = e; changes = changes; content = content }
  without copy there none (Ahead held v e h) =
      apart_bools (ap (λ c. has_change (changes_of c) u) e ∙ ap (λ l. has_change l u) (h.changes ∙ ap (λ n. n ∷ adopted_on m cell) same) ∙ ap (λ b. b || has_change (adopted_on m cell) u) (eq-eqb u u refl)) none where
        same : v ≡ u
        same = one_unsettled size m r v u h.unsettled a.unsettled (share_at (m.changes v).cells (m.changes u).cells cell h.touches a.touches)

  pub appliers_have : IsSettledCopy m cell ((m.bricks k).store cell).copy
  appliers_have = without ((m.bricks k).store cell).copy free.present a.unapplied (free_is_good size m good k cell a.replica free)

pub ready_have_adopted : (size : Size) (m : State) → IsSize size → IsReached size m → CopiesGoodOrAccused size m → (t k : ℕ) (cell : Cell) → k < size.replicas → IsSettledFor m t cell →
    is_before (m.txns t).stage ≡ true → (m.txns t).work ≡ Own → IsReadyIn size (phase_of m t) cell k → IsSettledCopy m cell ((m.bricks k).store cell).copy
ready_have_adopted size m is r good t k cell few s before work ready = ready_has size m is r good t k cell few s before work ready
