-- Each request of a copy meets its guard.
use Rattle.std.proofs.Common.{◌≡◌, ◌∙◌, ℕ, ◌<◌, ◌≤◌, inr, Bool, true, false, ◌&&◌, ◌||◌, ◌==◌, not, nat_lt, List, [], ◌∷◌, Option, Some, None, is_none, length, refl, sym, ap, subst, arith}
use Rattle.std.proofs.lemmas.Bool.{cond_both, and_parts, or_from, eqb-true, ltb-true, ltb-false, not-true, true≢false}
use Rattle.std.proofs.lemmas.Nat.Bits.{bit_at_above}
use Rattle.std.proofs.Math.Path.{fun_ext}
use Rattle.fop_types.specs.Bounds.{Each}
use Rattle.fop_types.specs.declared.cells.Cell.{Cell}
use Rattle.fop_types.specs.declared.contents.Content.{Content}
use Rattle.fop_types.specs.declared.copy_jobs.CopyJob.{CopyJob}
use Rattle.fop_types.specs.declared.messages.BrickRep.{BrickRep}
use Rattle.fop_types.specs.declared.messages.BrickReq.{BrickReq}
use Rattle.fop_types.specs.declared.messages.BrickReq.TheVariants as req
use Rattle.afr_machine.specs.Copies.{Fetched}
use Rattle.afr_machine.specs.Replicas.{Replicas, Size}
use Rattle.afr_machine.specs.Sending.{HasGrant, IsMember, MayFetch, MayClear, is_confirmed_sink, cleared_by}
use Rattle.afr_machine.specs.States.{State}
use Rattle.afr_machine.specs.Touching.{has_cell}
use Rattle.afr_machine.specs.Transactions.{Grant, CopyRun as CopyRecord}
use Rattle.afr_machine.specs.Turns.{is_granted, open_grants}
use Rattle.afr_phases.specs.declared.outs.Outs.{Outs}
use Rattle.afr_phases.specs.declared.wave.Wave.{Wave}
use Rattle.afr_phases.specs.Answers.{is_fault, content_in}
use Rattle.afr_phases.specs.Asked.{is_within, is_waiting}
use Rattle.afr_phases.specs.Flags.{flag, flags_of, names, mask_of, lowest, no_flags}
use Rattle.afr_phases.specs.Outs.{is_out, left, used}
use Rattle.afr_phases.specs.Waves.{is_asked, is_over, sent_to, taken}
use Rattle.afr_phases.proofs.Asked.{each_sent, within_at}
use Rattle.afr_phases.proofs.Bits.{named}
use Rattle.afr_phases.proofs.Encoded.{mask_small}
use Rattle.afr_phases.proofs.Tracked.{flag_by}
use Rattle.afr_phases.proofs.Truths.{flags_at, flags_end, both_left, both_right, lowest_is}
use Rattle.self_heal.specs.declared.run.CopyRun.{CopyRun}
use Rattle.self_heal.specs.declared.stage.CopyNeed.{CopyNeed}
use Rattle.self_heal.specs.declared.stage.CopyNeed.TheVariants as need
use Rattle.self_heal.specs.declared.stage.Origin.{Origin}
use Rattle.self_heal.specs.declared.stage.Stage.{Stage as CopyStage}
use Rattle.self_heal.specs.declared.stage.Stage.TheVariants as stage
use Rattle.self_heal.specs.Runs.{new_run, held_of, sources_of, sinks_of, held_left, sources_left, sinks_left, cleared_of, cleared, only, asking, finished, fetching, clearing, at_cell, current_cell, next_cell, replacing, aspect_at, fetched, wave_taken, with_origin, answered_in, answered}
use Rattle.self_heal.specs.Turning.{is_staged, is_under_way, Begins, AfterAnswer}
use Rattle.self_heal.proofs.Turning.{begins, answers_on}
use Rattle.txn_machine.specs.Asks.{MayBeAsked}
use Rattle.txn_machine.specs.Copies.{replace_of, is_clearing, HasFetched, IsCopyOf, MeetsCopyGuard, AreCopiesMet, CopiesBeginMeet, CopyAnswersMeet}
use Rattle.txn_machine.proofs.Rows.{has_at}

-- ---- whom a turn asks, and for what

record IsFetchOf (run : CopyRun) (r : BrickReq) : Type 0 where
  cell : Cell
  at : current_cell run ≡ Some cell
  is : r ≡ req.Fetch 0 cell

record IsReplaceOf (run : CopyRun) (origin : Origin) (shows : Option (Content × ℕ)) (r : BrickReq) : Type 0 where
  cell : Cell
  content : Content
  at : current_cell run ≡ Some cell
  shown : ◌≡◌ {A = Option (Content × ℕ)} shows (Some (content, origin.last))
  is : r ≡ req.Replace cell origin.last content

record IsClearOf (run : CopyRun) (current : List Bool) (r : BrickReq) : Type 0 where
  left_are : current ≡ sinks_left run
  is : r ≡ req.Clear run.job.cells (mask_of (cleared run current))

abbrev AsksIn : CopyStage → CopyRun → Option (Content × ℕ) → ℕ → BrickReq → Type 0
AsksIn (stage.Fetching from) run shows k r = (flag (sources_left run) k ≡ true) × IsFetchOf run r
AsksIn (stage.Replacing origin) run shows k r = (flag (sinks_left run) k ≡ true) × IsReplaceOf run origin shows r
AsksIn (stage.Clearing current) run shows k r = (flag (held_left run) k ≡ true) × IsClearOf run current r
AsksIn stage.Over run shows k r = ⊥

abbrev AreAsked : CopyRun → CopyNeed → Option (Content × ℕ) → Type 0
AreAsked run (need.Send list) shows = Each (λ (r : ℕ × BrickReq). (is_asked run.wave r.0 ≡ true) × AsksIn run.stage run shows r.0 r.1) list
AreAsked run (need.Done done) shows = Unit {0}
AreAsked run need.Wait shows = Unit {0}

module _ (shows : Option (Content × ℕ)) where
  abbrev Fits : CopyRun × CopyNeed → Type 0
  Fits t = AreAsked t.0 t.1 shows

  asks_fit : (run : CopyRun) (to : List Bool) (r : BrickReq) (s : CopyStage) → ((j : ℕ) → flag to j ≡ true → AsksIn s (record run { wave = sent_to to; stage = s }) shows j r) → Fits (asking run to r s)
  asks_fit run to r s each = each_sent (λ j q. (is_asked (sent_to to) j ≡ true) × AsksIn s (record run { wave = sent_to to; stage = s }) shows j q) to r (λ j f. (f, each j f))

  fetching_fits : (run : CopyRun) (cell : Cell) (from : Option ℕ) → current_cell run ≡ Some cell → lowest (sources_left run) ≡ from → Fits (fetching run cell from)
  fetching_fits run cell None at e = tt
  fetching_fits run cell (Some k) at e =
      asks_fit run (only k) (req.Fetch 0 cell) (stage.Fetching k)
      (λ j f. (subst (λ (i : ℕ). flag (sources_left run) i ≡ true) (eqb-true k j (flags_at (λ i. k == i) j f)) (lowest_is (sources_left run) k e), record { cell = cell; at = at; is = refl }))

  clearing_fits : (run : CopyRun) → Fits (clearing run)
  clearing_fits run =
      asks_fit run (held_left run) (req.Clear run.job.cells (mask_of (cleared run (sinks_left run)))) (stage.Clearing (sinks_left run)) (λ j f. (f, record { left_are = refl; is = refl }))

  cell_fits : (run : CopyRun) (cell : Option Cell) → current_cell run ≡ cell → Fits (at_cell run cell)
  cell_fits run None at = clearing_fits run
  cell_fits run (Some cell) at = fetching_fits run cell (lowest (sources_left run)) at refl

  next_fits : (run : CopyRun) → Fits (next_cell run)
  next_fits run = cond_both (is_none (lowest (sinks_left run))) (finished run no_flags) (at_cell run (current_cell run)) Fits (λ e. tt) (λ e. cell_fits run (current_cell run) refl)

  replacing_fits : (run : CopyRun) (cell : Option Cell) (content : Content) (origin : Origin) → current_cell run ≡ cell → ◌≡◌ {A = Option (Content × ℕ)} shows (Some (content, origin.last)) → Fits (replacing run cell content origin)
  replacing_fits run None content origin at shown = clearing_fits run
  replacing_fits run (Some cell) content origin at shown =
      asks_fit run (sinks_left run) (req.Replace cell origin.last content) (stage.Replacing origin) (λ j f. (f, record { cell = cell; content = content; at = at; shown = shown; is = refl }))

  fetched_fits : (run : CopyRun) (k mark : ℕ) (fault : Bool) (o : Option (Content × ℕ)) → ◌≡◌ {A = Option (Content × ℕ)} shows o → Fits (fetched run k fault mark o)
  fetched_fits run k mark fault None is = next_fits (record run { wave = taken run.wave k false; outs = left run.outs k fault mark })
  fetched_fits run k mark fault (Some c) is = replacing_fits (record run { wave = taken run.wave k true }) (current_cell run) c.0 (record { source = k; last = c.1 }) refl is

  answer_fits : (s : CopyStage) (run : CopyRun) (k mark : ℕ) (rep : BrickRep) → shows ≡ content_in rep (aspect_at (current_cell run)) → Fits (answered_in s run k rep mark)
  answer_fits (stage.Fetching from) run k mark rep is = fetched_fits run k mark (is_fault rep) (content_in rep (aspect_at (current_cell run))) is
  answer_fits (stage.Replacing origin) run k mark rep is =
      cond_both (not (is_over (wave_taken run k rep mark).wave)) (wave_taken run k rep mark, need.Wait) (next_cell (with_origin (wave_taken run k rep mark) origin)) Fits (λ e. tt) (λ e. next_fits (with_origin (wave_taken run k rep mark) origin))
  answer_fits (stage.Clearing current) run k mark rep is =
      cond_both (not (is_over (wave_taken run k rep mark).wave)) (wave_taken run k rep mark, need.Wait) (finished (wave_taken run k rep mark) current) Fits (λ e. tt) (λ e. tt)
  answer_fits stage.Over run k mark rep is = tt

-- ---- who is left

held_has : (job : CopyJob) (outs : Outs) (k : ℕ) → flag (held_of job outs) k ≡ true → (names job.held k ≡ true) × (is_out outs k ≡ false)
unfolding held_of
held_has job outs k h = (
  flags_at (names job.held) k (both_left (flags_of job.held) (used outs 5) k h),
  not-true (is_out outs k) (and_parts (nat_lt k 5) (not (is_out outs k)) (flags_at (λ j. nat_lt j 5 && not (is_out outs j)) k (both_right (flags_of job.held) (used outs 5) k h))).1,
)

source_has : (job : CopyJob) (outs : Outs) (k : ℕ) → flag (sources_of job outs) k ≡ true → (flag (flags_of job.sources) k ≡ true) × (flag (held_of job outs) k ≡ true)
unfolding sources_of
source_has job outs k h = (both_left (flags_of job.sources) (held_of job outs) k h, both_right (flags_of job.sources) (held_of job outs) k h)

sink_has : (job : CopyJob) (outs : Outs) (k : ℕ) → flag (sinks_of job outs) k ≡ true → (flag (flags_of job.sinks) k ≡ true) × (flag (held_of job outs) k ≡ true)
unfolding sinks_of
sink_has job outs k h = (both_left (flags_of job.sinks) (held_of job outs) k h, both_right (flags_of job.sinks) (held_of job outs) k h)

sinks_end : (job : CopyJob) (outs : Outs) (k : ℕ) → (k < 5 → ⊥) → flag (sinks_of job outs) k ≡ false
unfolding sinks_of
sinks_end job outs k high = flags_end (λ j. flag (flags_of job.sinks) j && flag (held_of job outs) j) k high

-- the mask of a clear names the sources and these
cleared_names : (job : CopyJob) (current : List Bool) (k : ℕ) → ((k < 5 → ⊥) → flag current k ≡ false) → names (mask_of (cleared_of job current)) k ≡ (flag (flags_of job.sources) k || flag current k)
unfolding cleared_of
cleared_names job current k ends = by (nat_lt k 5) refl where
  by : (b : Bool) → nat_lt k 5 ≡ b → names (mask_of (cleared_of job current)) k ≡ (flag (flags_of job.sources) k || flag current k)
  by true e =
      let inside : flag (cleared_of job current) k ≡ (flag (flags_of job.sources) k || flag current k) = flag_by (λ j. flag (flags_of job.sources) j || flag current j) k (ltb-true k 5 e) in
      named (cleared_of job current) k (ltb-true k 5 e) ∙ inside
  by false e =
      let high : 5 ≤ k = ltb-false k 5 e in
      let over : k < 5 → ⊥ = (λ low. omega arith) in
      let none : names (mask_of (cleared_of job current)) k ≡ false = ap (λ (n : ℕ). n == 1) (bit_at_above (mask_of (cleared_of job current)).0 5 k (omega (arith, mask_small (cleared_of job current))) high) in
      let neither : (flag (flags_of job.sources) k || flag current k) ≡ false = or_from (flag (flags_of job.sources) k) (flag current k) (flags_end (names job.sources) k over) (ends over) in
      none ∙ sym neither

grant_of : (m : State) (t k : ℕ) → open_grants m t k ≡ true → HasGrant m t k
grant_of m t k h = by ((m.txns t).grants k) refl h where
  by : (g : Option Grant) → (m.txns t).grants k ≡ g → is_granted g m t k ≡ true → HasGrant m t k
  by None e holds = absurd (true≢false (sym holds))
  by (Some grant) e holds = record { grant = grant; granted = e; still_open = holds }

-- ---- one request

module _ (size : Size) (m : State) (t : ℕ) (run : CopyRun) (shows : Option (Content × ℕ)) (copy : CopyRecord) (is : IsCopyOf size m t run shows copy) (k : ℕ) (asked : is_asked run.wave k ≡ true) (low : k < size.replicas) where
  out_by : flag (held_left run) k ≡ true → (b : Bool) → (m.txns t).out k ≡ b → b ≡ false
  out_by h true e = absurd (true≢false (sym (is.outs k (held_has run.job run.outs k h).0 e) ∙ (held_has run.job run.outs k h).1))
  out_by h false e = refl

  member : open_grants m t k ≡ true → flag (held_left run) k ≡ true → IsMember size m t k
  member holds h = record {
    replica = low;
    reached = is.members k (held_has run.job run.outs k h).0;
    not_out = out_by h ((m.txns t).out k) refl;
    answered = is.answered k asked;
    grant = grant_of m t k holds;
  }

  of_run : (cell : Cell) → current_cell run ≡ Some cell → has_cell copy.cells cell ≡ true
  of_run cell at = ap (λ (cells : List Cell). has_cell cells cell) is.cells ∙ has_at run.job.cells (length run.origins) cell at

  fetch_met : (from : ℕ) (r : BrickReq) → run.stage ≡ stage.Fetching from → flag (sources_left run) k ≡ true → IsFetchOf run r → MeetsCopyGuard size m t copy k r
  fetch_met from r e source f = subst (λ (q : BrickReq). MeetsCopyGuard size m t copy k q) (sym f.is) (λ holds. inr (guard holds), tt) where
    guard : open_grants m t k ≡ true → MayFetch size m t k f.cell
    guard holds = record {
      member = member holds (source_has run.job run.outs k source).1;
      run = copy;
      turn = is.stage_is;
      replacing = is.clears ∙ ap is_clearing e;
      of_run = of_run f.cell f.at;
      source = ap (λ (s : Replicas). s k) is.sources ∙ (source_has run.job run.outs k source).0;
      not_fetched = is.not_fetched from f.cell e f.at;
    }

  replace_met : (origin : Origin) (r : BrickReq) → run.stage ≡ stage.Replacing origin → flag (sinks_left run) k ≡ true → IsReplaceOf run origin shows r → MeetsCopyGuard size m t copy k r
  replace_met origin r e sink f =
      let has : HasFetched copy.fetched f.cell f.content origin.last = is.fetched origin f.cell f.content e f.at f.shown in
      subst (λ (q : BrickReq). MeetsCopyGuard size m t copy k q) (sym f.is) (
        λ holds. subst (λ (o : Option Fetched). MayBeAsked size m t k (replace_of f.cell o)) (sym has.there)
            (record {
              member = member holds (sink_has run.job run.outs k sink).1;
              run = copy;
              turn = is.stage_is;
              replacing = is.clears ∙ ap is_clearing e;
              of_run = of_run f.cell f.at;
              sink = ap (λ (s : Replicas). s k) is.sinks ∙ (sink_has run.job run.outs k sink).0;
              fetched = has.there;
              not_replaced = is.not_replaced origin f.cell k e f.at;
            }),
        has,
      )

  clear_met : (current : List Bool) (r : BrickReq) → run.stage ≡ stage.Clearing current → flag (held_left run) k ≡ true → IsClearOf run current r → MeetsCopyGuard size m t copy k r
  clear_met current r e h f = subst (λ (q : BrickReq). MeetsCopyGuard size m t copy k q) (sym f.is) (guard, tt) where
    ends : (j : ℕ) → (j < 5 → ⊥) → flag current j ≡ false
    ends j high = ap (λ (flags : List Bool). flag flags j) f.left_are ∙ sinks_end run.job run.outs j high

    who_at : (j : ℕ) → names (mask_of (cleared run current)) j ≡ cleared_by copy j
    who_at j =
        let source : cleared_by copy j ≡ (flag (flags_of run.job.sources) j || is_confirmed_sink copy j) = ap (λ (s : Replicas). s j || is_confirmed_sink copy j) is.sources in
        let sink : (flag (flags_of run.job.sources) j || is_confirmed_sink copy j) ≡ (flag (flags_of run.job.sources) j || flag current j) = ap (λ (b : Bool). flag (flags_of run.job.sources) j || b) (is.confirmed current j e) in
        cleared_names run.job current j (ends j) ∙ sym (source ∙ sink)

    guard : open_grants m t k ≡ true → MayClear size m t k run.job.cells (names (mask_of (cleared run current)))
    guard holds = record {
      next = record { member = member holds h; is_left = is.is_left (ap is_clearing e) k asked };
      run = copy;
      turn = is.stage_is;
      clearing = is.clears ∙ ap is_clearing e;
      cells_are = sym is.cells;
      who_are = fun_ext who_at;
    }

  by_stage : (s : CopyStage) (r : BrickReq) → run.stage ≡ s → AsksIn s run shows k r → MeetsCopyGuard size m t copy k r
  by_stage (stage.Fetching from) r e asks = fetch_met from r e asks.0 asks.1
  by_stage (stage.Replacing origin) r e asks = replace_met origin r e asks.0 asks.1
  by_stage (stage.Clearing current) r e asks = clear_met current r e asks.0 asks.1
  by_stage stage.Over r e asks = absurd asks

-- ---- every turn

abbrev IsUnderWay : ℕ → CopyRun → CopyNeed → Type 0
IsUnderWay n run (need.Send list) = is_under_way n run ≡ true
IsUnderWay n run (need.Done done) = Unit {0}
IsUnderWay n run need.Wait = Unit {0}

each_from : (P Q : ℕ × BrickReq → Type 0) → ((r : ℕ × BrickReq) → P r → Q r) → (list : List (ℕ × BrickReq)) → Each P list → Each Q list
each_from P Q h [] p = tt
each_from P Q h (r ∷ rs) p = (h r p.0, each_from P Q h rs p.1)

asked_low : (n : ℕ) (run : CopyRun) (k : ℕ) → is_under_way n run ≡ true → is_asked run.wave k ≡ true → k < n
asked_low n run k way asked =
    let a = and_parts (is_waiting n run.wave) (is_within n (flags_of run.job.held) && is_staged run.stage run) way in
    within_at n k run.wave.asked (and_parts (not (is_over run.wave)) (is_within n run.wave.asked) a.0).1 asked

all_met : (n : ℕ) (run : CopyRun) (turned : CopyNeed) (shows : Option (Content × ℕ)) → IsUnderWay n run turned → AreAsked run turned shows → AreCopiesMet n run turned shows
all_met n run (need.Send list) shows way asks = λ size m t copy replicas is.
    each_from (λ (r : ℕ × BrickReq). (is_asked run.wave r.0 ≡ true) × AsksIn run.stage run shows r.0 r.1) (λ (r : ℕ × BrickReq). MeetsCopyGuard size m t copy r.0 r.1)
    (λ r a. by_stage size m t run shows copy is r.0 a.0 (omega (arith, asked_low n run r.0 way a.0, replicas)) run.stage r.1 refl a.1) list asks
all_met n run (need.Done done) shows way asks = tt
all_met n run need.Wait shows way asks = tt

way_of_begin : (n : ℕ) (run : CopyRun) (turned : CopyNeed) → Begins n run turned → IsUnderWay n run turned
way_of_begin n run (need.Send list) h = h.0
way_of_begin n run (need.Done done) h = tt
way_of_begin n run need.Wait h = tt

way_after : (n k : ℕ) (wave : Wave) (run : CopyRun) (turned : CopyNeed) → AfterAnswer n k wave run turned → IsUnderWay n run turned
way_after n k wave run (need.Send list) h = h.1.0
way_after n k wave run (need.Done done) h = tt
way_after n k wave run need.Wait h = tt

pub copies_begin_meet : CopiesBeginMeet
copies_begin_meet n job rows few work =
    all_met n (next_cell (new_run job rows)).0 (next_cell (new_run job rows)).1 None
    (way_of_begin n (next_cell (new_run job rows)).0 (next_cell (new_run job rows)).1 (begins n job rows few work)) (next_fits None (new_run job rows))

pub copy_answers_meet : CopyAnswersMeet
copy_answers_meet n k mark run rep few way asked =
    all_met n (answered run k rep mark).0 (answered run k rep mark).1 (content_in rep (aspect_at (current_cell run)))
    (way_after n k run.wave (answered run k rep mark).0 (answered run k rep mark).1 (answers_on n k mark run rep few way asked))
    (answer_fits (content_in rep (aspect_at (current_cell run))) run.stage run k mark rep refl)
