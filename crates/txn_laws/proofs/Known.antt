-- The laws of what a job knows of its replicas, of who is out, and that the job stays.
use Rattle.std.proofs.Common.{◌≡◌, ◌∙◌, ℕ, ◌<◌, ◌⊎◌, inl, inr, true, false, ◌&&◌, not, List, [], Option, Some, None, is_none, is_some, refl, sym, ap, subst, arith}
use Rattle.std.specs.Prelude.{slice_index_or}
use Rattle.std.proofs.lemmas.Bool.{cond_both, and_parts, true≢false}
use Rattle.fop_types.specs.declared.cells.Cell.{Cell}
use Rattle.fop_types.specs.declared.contents.Mask.{Mask}
use Rattle.fop_types.specs.declared.contents.Row.{Row}
use Rattle.fop_types.specs.declared.copy_jobs.CopyDone.{CopyDone}
use Rattle.fop_types.specs.declared.copy_jobs.Out.{Out}
use Rattle.fop_types.specs.declared.jobs.Job.{Job}
use Rattle.fop_types.specs.declared.jobs.Job.TheVariants as job
use Rattle.fop_types.specs.declared.jobs.SetPlan.{SetPlan}
use Rattle.fop_types.specs.declared.jobs.SetReply.TheVariants as reply
use Rattle.fop_types.specs.declared.messages.BrickRep.{BrickRep}
use Rattle.fop_types.specs.declared.messages.BrickReq.TheVariants as req
use Rattle.afr_ledger.specs.Ledger.{State}
use Rattle.afr_phases.specs.declared.wave.Wave.{Wave}
use Rattle.afr_phases.specs.Asked.{is_waiting, is_within, are_granted_within}
use Rattle.afr_phases.specs.Flags.{lowest, mask_of, names, no_flags}
use Rattle.afr_phases.specs.Locks.{no_locks}
use Rattle.afr_phases.specs.Marks.{IsLost}
use Rattle.afr_phases.specs.Outs.{is_short, no_outs}
use Rattle.afr_phases.specs.Waves.{is_asked, is_over}
use Rattle.afr_phases.proofs.Asked.{only_at, within_at}
use Rattle.afr_transaction.specs.declared.need.Need.{Need}
use Rattle.afr_transaction.specs.declared.phase.Phase.{Phase}
use Rattle.afr_transaction.specs.declared.phase.Phase.TheVariants as phase
use Rattle.afr_transaction.specs.declared.size.Size.{Size}
use Rattle.afr_transaction.specs.declared.txn.Txn.{Txn}
use Rattle.afr_transaction.specs.Answers.{answered, copied, idle}
use Rattle.afr_transaction.specs.Begins.{fresh, started}
use Rattle.afr_transaction.specs.Polls.{polled, short_of}
use Rattle.afr_transaction.specs.Requests.{Keeps, HasGranted}
use Rattle.afr_transaction.specs.Shapes.{is_asking, is_copying, suits, are_copies}
use Rattle.afr_transaction.specs.Txns.{alive, io_of}
use Rattle.txn_laws.specs.Granted.{IsLocking, AnswersBegin, CopiesBegin, rows_by, SendsNone, SendsSome, IsGrant, IsShowing, AnswersTake, CopiesTake, CoversIn, Follows, BeginsGrant, AnswersGrant, CopiesGrant, BeginsShow, AnswersShow, CopiesShow, BeginsConfirm, AnswersConfirm, CopiesConfirm, BeginsFollow, AnswersFollow, CopiesFollow}
use Rattle.txn_laws.specs.Outs.{IsOutBy, IsAmong, IsLostAs, WasLost, BeginsOut, AnswersOut, CopiesOut, BeginsLose, AnswersLose, CopiesLose}
use Rattle.txn_laws.specs.Own.{BeginsStay, AnswersStay, CopiesStay}
use Rattle.txn_laws.proofs.LostBy.{none_there, Lost, polled_since}
use Rattle.txn_laws.proofs.Noted.{After, again_after, asks_after, over_after, since_after}
use Rattle.txn_laws.proofs.Handed.{HasAll, Given, OutBy, GrantBy, RowsBy, HandedIn, CopyHanded, phase_handed, copy_handed, own_after, grants_after, rows_after, follows_after}
use Rattle.txn_laws.proofs.Idle.{suits_idle}

-- ---- the begin

begins_after : (P : Type 0) (live : Mask) (last : List ℕ) (size : Size) (set : SetPlan) (call : ℕ) (j : Job) (ledger : State Cell) → After P ⊥ live last (fresh size set call j) (started (fresh size set call j) ledger live last)
begins_after P live last size set call (job.Read cells fd dir) ledger = again_after P ⊥ live last (fresh size set call (job.Read cells fd dir)) ledger (λ q. refl)
begins_after P live last size set call (job.Change cells fd op effect) ledger = again_after P ⊥ live last (fresh size set call (job.Change cells fd op effect)) ledger (λ q. refl)
begins_after P live last size set call (job.Birth cells op) ledger = again_after P ⊥ live last (fresh size set call (job.Birth cells op)) ledger (λ q. refl)
begins_after P live last size set call (job.Heal cell) ledger = again_after P ⊥ live last (fresh size set call (job.Heal cell)) ledger (λ q. refl)
begins_after P live last size set call (job.Open fd gfid) ledger =
    let first : Txn = fresh size set call (job.Open fd gfid) in
    let txn : Txn = polled first live last in
    since_after P ⊥ live last first txn.outs (started first ledger live last) (polled_since P live last first.locks first.outs size.n size.few)
    (cond_both (is_none (lowest (alive txn))) _ _ (After P ⊥ live last txn)
    (λ e. cond_both (is_short txn.outs txn.size.n txn.size.q) _ _ (After P ⊥ live last txn) (λ s. over_after P ⊥ live last txn (reply.Io (io_of txn))) (λ s. over_after P ⊥ live last txn reply.Opened))
    (λ e. asks_after P ⊥ live last txn (alive txn) (req.Open fd gfid) phase.Opening (λ q. tt) (λ at e. absurd cc)))
begins_after P live last size set call job.Index ledger =
    let first : Txn = fresh size set call job.Index in
    let txn : Txn = polled first live last in
    since_after P ⊥ live last first txn.outs (started first ledger live last) (polled_since P live last first.locks first.outs size.n size.few)
    (cond_both (is_none (lowest (alive txn))) _ _ (After P ⊥ live last txn) (λ e. over_after P ⊥ live last txn (reply.Listed [] (mask_of txn.wave.confirmed) (short_of txn)))
    (λ e. asks_after P ⊥ live last txn (alive txn) req.Index (phase.Listing []) (λ q. tt) (λ at e. absurd cc)))

module _ (size : Size) (set : SetPlan) (call : ℕ) (j : Job) (ledger : State Cell) (live : Mask) (last : List ℕ) where
  abbrev first : Txn
  first = fresh size set call j

  abbrev begun : Txn × Need
  begun = started first ledger live last

  -- with nothing to be given
  after : After (Unit {0}) ⊥ live last first begun
  after = begins_after (Unit {0}) live last size set call j ledger

  none_by : ((begun.0.wave ≡ first.wave) × SendsNone begun.1) ⊎ ((begun.0.wave.confirmed ≡ no_flags) × SendsSome begun.1) → begun.0.wave.confirmed ≡ no_flags
  none_by (inl e) = ap (λ (w : Wave). w.confirmed) e.0
  none_by (inr e) = e.0

  no_grants : (k : ℕ) → HasGranted first k → ⊥
  no_grants k g = by (slice_index_or no_locks.at k None) refl g where
    by : (o : Option ℕ) → slice_index_or no_locks.at k None ≡ o → HasGranted first k → ⊥
    by None at h = true≢false (sym h ∙ ap is_some at)
    by (Some c) at h = none_there k c at

  first_all : HasAll first
  first_all = record { outs_places = refl; locks_places = refl; rows_places = refl; rows = λ k g. absurd (no_grants k g) }

  begun_lost : (k : ℕ) (out : Out) → (slice_index_or no_outs.at k None ≡ Some out) ⊎ Lost (Unit {0}) live last no_locks k out → (slice_index_or no_outs.at k None ≡ Some out) ⊎ IsLost last out
  begun_lost k out (inl there) = inl there
  begun_lost k out (inr lost) = inr lost.is

  open_lost : (k : ℕ) → WasLost no_locks live last k → names live k ≡ false
  open_lost k (inl closed) = closed
  open_lost k (inr h) = absurd (none_there k h.connection h.granted)

  begun_closed : (k : ℕ) (out : Out) → (slice_index_or no_outs.at k None ≡ Some out) ⊎ Lost (Unit {0}) live last no_locks k out → names live k ≡ false
  begun_closed k out (inl there) = absurd (none_there k out there)
  begun_closed k out (inr lost) = open_lost k (lost.why tt)

pub begins_stay : BeginsStay
begins_stay size set call j ledger live last = own_after (Unit {0}) ⊥ live last (first size set call j ledger live last) (begun size set call j ledger live last) (after size set call j ledger live last)

pub begins_grant : BeginsGrant
begins_grant size set call j ledger live last k connection h =
    none_there k connection (grants_after (Unit {0}) ⊥ live last (first size set call j ledger live last) (begun size set call j ledger live last) (after size set call j ledger live last) k connection h)

pub begins_show : BeginsShow
begins_show size set call j ledger live last k rows h =
    rows_after (Unit {0}) ⊥ live last (first size set call j ledger live last) (begun size set call j ledger live last) (after size set call j ledger live last) k rows h

pub begins_confirm : BeginsConfirm
begins_confirm size set call j ledger live last = none_by size set call j ledger live last (after size set call j ledger live last).waits

pub begins_follow : BeginsFollow
begins_follow size set call j ledger live last =
    follows_after (Unit {0}) ⊥ live last (first size set call j ledger live last) (begun size set call j ledger live last) (after size set call j ledger live last) tt (first_all size set call j ledger live last)

pub begins_out : BeginsOut
begins_out size set call j ledger live last k out h = begun_lost size set call j ledger live last k out ((after size set call j ledger live last).since.from k out h)

pub begins_lose : BeginsLose
begins_lose size set call j ledger live last k out h = begun_closed size set call j ledger live last k out ((after size set call j ledger live last).since.from k out h)

-- ---- answers

module _ (txn : Txn) (k mark : ℕ) (r : BrickRep) (ledger : State Cell) (live : Mask) (last : List ℕ) where
  abbrev Handed : Type 0 → Type 0
  Handed P = HandedIn P live last (idle txn) k mark r txn.phase (answered txn k r mark ledger live last).0 (answered txn k r mark ledger live last).1.0

  -- whatever was before
  loose : Handed ⊥
  loose = phase_handed ⊥ live last (idle txn) k mark r ledger txn.phase (λ q. absurd q)

  pub given : is_asking txn ≡ true → Keeps txn → is_asked txn.wave k ≡ true → Follows txn → Given (idle txn) k txn.phase
  given asking keeps asked follows =
      let a = and_parts (is_waiting txn.size.n txn.wave) (are_granted_within txn.size.n txn.locks && suits txn.phase txn) asking in
      let b = and_parts (are_granted_within txn.size.n txn.locks) (suits txn.phase txn) a.1 in
      let c = and_parts (not (is_over txn.wave)) (is_within txn.size.n txn.wave.asked) a.0 in
      let low : k < txn.size.n = within_at txn.size.n k txn.wave.asked c.1 asked in
      record {
        low = omega (arith, txn.size.few);
        fits = suits_idle txn.phase txn b.1;
        all = record { outs_places = keeps.places; locks_places = follows.locks_places; rows_places = follows.rows_places; rows = λ j g. let s = follows.rows j g in record { rows = s.rows; shown = s.shown; one_each = s.one_each } };
        asked = λ at e. (sym (only_at at k txn.wave.asked (subst (λ (p : Phase). suits p txn ≡ true) e b.1) asked), subst (λ (p : Phase). CoversIn p txn) e follows.asked);
      }

  strict : is_asking txn ≡ true → Keeps txn → is_asked txn.wave k ≡ true → Follows txn → Handed (Unit {0})
  strict asking keeps asked follows = phase_handed (Unit {0}) live last (idle txn) k mark r ledger txn.phase (λ q. given asking keeps asked follows)

  out_by : (P : Type 0) (j : ℕ) (out : Out) → OutBy P live last (idle txn) k mark r txn.phase j out → IsOutBy txn k mark r j out
  out_by P j out h = record { replica = h.replica; out_is = h.out_is; other = h.other }

  grant_by : (j connection : ℕ) → (slice_index_or txn.locks.at j None ≡ Some connection) ⊎ GrantBy ⊥ live last (idle txn) k mark r txn.phase j connection → (slice_index_or txn.locks.at j None ≡ Some connection) ⊎ IsGrant txn k r last j connection
  grant_by j connection (inl there) = inl there
  grant_by j connection (inr h) = inr (record { replica = h.replica; at = h.at; phase_is = h.phase_is; as_asked = h.as_asked; connection_is = h.connection_is })

  rows_or : (j : ℕ) (rows : List Row) → (rows_by txn.shown j ≡ Some rows) ⊎ RowsBy ⊥ live last (idle txn) k mark r txn.phase j rows → (rows_by txn.shown j ≡ Some rows) ⊎ IsShowing txn k r j rows
  rows_or j rows (inl there) = inl there
  rows_or j rows (inr h) = inr (record { replica = h.replica; at = h.at; phase_is = h.phase_is; rows_are = h.rows_are })

  out_or : (j : ℕ) (out : Out) → (slice_index_or txn.outs.at j None ≡ Some out) ⊎ (OutBy ⊥ live last (idle txn) k mark r txn.phase j out ⊎ (IsLostAs last j out × (⊥ → WasLost txn.locks live last j)))
      → (slice_index_or txn.outs.at j None ≡ Some out) ⊎ (IsOutBy txn k mark r j out ⊎ IsLostAs last j out)
  out_or j out (inl there) = inl there
  out_or j out (inr (inl h)) = inr (inl (out_by ⊥ j out h))
  out_or j out (inr (inr h)) = inr (inr h.0)

  lost_or : (j : ℕ) (out : Out) → (slice_index_or txn.outs.at j None ≡ Some out) ⊎ (OutBy (Unit {0}) live last (idle txn) k mark r txn.phase j out ⊎ (IsLostAs last j out × (Unit {0} → WasLost txn.locks live last j)))
      → (slice_index_or txn.outs.at j None ≡ Some out) ⊎ (IsOutBy txn k mark r j out ⊎ WasLost txn.locks live last j)
  lost_or j out (inl there) = inl there
  lost_or j out (inr (inl h)) = inr (inl (out_by (Unit {0}) j out h))
  lost_or j out (inr (inr h)) = inr (inr (h.1 tt))

pub answers_stay : AnswersStay
answers_stay txn k mark r ledger live last = let o = (loose txn k mark r ledger live last).own in record { set = o.set; size = o.size; bricks = o.bricks; call = o.call; job = o.job }

pub answers_grant : AnswersGrant
answers_grant txn k mark r ledger live last j connection h = grant_by txn k mark r ledger live last j connection ((loose txn k mark r ledger live last).grants j connection h)

pub answers_show : AnswersShow
answers_show txn k mark r ledger live last j rows h = rows_or txn k mark r ledger live last j rows ((loose txn k mark r ledger live last).rows j rows h)

pub answers_confirm : AnswersConfirm
answers_confirm txn k mark r ledger live last j h = (loose txn k mark r ledger live last).confirmed j h

pub answers_out : AnswersOut
answers_out txn k mark r ledger live last j out h = out_or txn k mark r ledger live last j out ((loose txn k mark r ledger live last).outs j out h)

pub answers_lose : AnswersLose
answers_lose txn k mark r ledger live last j out asking keeps asked follows h =
    lost_or txn k mark r ledger live last j out ((strict txn k mark r ledger live last asking keeps asked follows).outs j out h)

pub answers_follow : AnswersFollow
answers_follow txn k mark r ledger live last asking keeps asked follows = (strict txn k mark r ledger live last asking keeps asked follows).follows tt

pub answers_take : AnswersTake
answers_take txn k mark r ledger live last asking keeps asked follows = (strict txn k mark r ledger live last asking keeps asked follows).wave tt

pub answers_begin : AnswersBegin
answers_begin txn k mark at r ledger live last e = (loose txn k mark r ledger live last).anew at e

-- ---- copies

module _ (txn : Txn) (done : CopyDone) (ledger : State Cell) (live : Mask) (last : List ℕ) where
  abbrev Copy : Type 0 → Type 0
  Copy P = CopyHanded P live last (idle txn) done (IsLocking txn.phase) (copied txn done ledger live last).0 (copied txn done ledger live last).1.0

  loose_copy : Copy ⊥
  loose_copy = copy_handed ⊥ live last (idle txn) done txn.phase ledger (λ q. absurd q) (λ q. absurd q)

  are : is_copying txn ≡ true → are_copies txn.phase ≡ true
  are copying =
      let a = and_parts (is_over txn.wave) (are_granted_within txn.size.n txn.locks && are_copies txn.phase) copying in
      (and_parts (are_granted_within txn.size.n txn.locks) (are_copies txn.phase) a.1).1

  copy_given : Keeps txn → Follows txn → HasAll (idle txn)
  copy_given keeps follows =
      record { outs_places = keeps.places; locks_places = follows.locks_places; rows_places = follows.rows_places; rows = λ j g. let s = follows.rows j g in record { rows = s.rows; shown = s.shown; one_each = s.one_each } }

  strict_copy : is_copying txn ≡ true → Keeps txn → Follows txn → Copy (Unit {0})
  strict_copy copying keeps follows = copy_handed (Unit {0}) live last (idle txn) done txn.phase ledger (λ q. copy_given keeps follows) (λ q. are copying)

  copy_lost : (j : ℕ) (out : Out) → (slice_index_or txn.outs.at j None ≡ Some out) ⊎ (IsAmong out done.outs ⊎ (IsLostAs last j out × (Unit {0} → WasLost txn.locks live last j)))
      → (slice_index_or txn.outs.at j None ≡ Some out) ⊎ (IsAmong out done.outs ⊎ WasLost txn.locks live last j)
  copy_lost j out (inl there) = inl there
  copy_lost j out (inr (inl among)) = inr (inl among)
  copy_lost j out (inr (inr h)) = inr (inr (h.1 tt))

  copy_or : (j : ℕ) (out : Out) → (slice_index_or txn.outs.at j None ≡ Some out) ⊎ (IsAmong out done.outs ⊎ (IsLostAs last j out × (⊥ → WasLost txn.locks live last j)))
      → (slice_index_or txn.outs.at j None ≡ Some out) ⊎ (IsAmong out done.outs ⊎ IsLostAs last j out)
  copy_or j out (inl there) = inl there
  copy_or j out (inr (inl among)) = inr (inl among)
  copy_or j out (inr (inr h)) = inr (inr h.0)

pub copies_stay : CopiesStay
copies_stay txn done ledger live last = let o = (loose_copy txn done ledger live last).own in record { set = o.set; size = o.size; bricks = o.bricks; call = o.call; job = o.job }

pub copies_grant : CopiesGrant
copies_grant txn done ledger live last j connection h = (loose_copy txn done ledger live last).grants j connection h

pub copies_show : CopiesShow
copies_show txn done ledger live last j rows h = (loose_copy txn done ledger live last).rows j rows h

pub copies_confirm : CopiesConfirm
copies_confirm txn done ledger live last j h = (loose_copy txn done ledger live last).confirmed j h

pub copies_begin : CopiesBegin
copies_begin txn done ledger live last at e = (loose_copy txn done ledger live last).anew at e

pub copies_take : CopiesTake
copies_take txn done ledger live last = (loose_copy txn done ledger live last).wave

pub copies_out : CopiesOut
copies_out txn done ledger live last j out h = copy_or txn done ledger live last j out ((loose_copy txn done ledger live last).outs j out h)

pub copies_lose : CopiesLose
copies_lose txn done ledger live last j out copying keeps follows h = copy_lost txn done ledger live last j out ((strict_copy txn done ledger live last copying keeps follows).outs j out h)

pub copies_follow : CopiesFollow
copies_follow txn done ledger live last copying keeps follows = (strict_copy txn done ledger live last copying keeps follows).follows tt
