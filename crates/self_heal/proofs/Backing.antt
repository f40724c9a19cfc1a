-- Each replica that a clear names is a source, or it has confirmed every cell.
use Rattle.std.proofs.Common.{◌≡◌, ◌≢◌, ℕ, ◌<◌, Bool, true, false, not, ◌⊎◌, inl, inr, List, [], ◌∷◌, Option, Some, refl, sym, subst, ◌∙◌, length, if◌then◌else◌, slice_set, arith}
use Rattle.std.proofs.lemmas.Bool.{cases_eq}
use Rattle.fop_types.specs.Bounds.{Each}
use Rattle.fop_types.specs.declared.answers.SplitRow.{SplitRow}
use Rattle.fop_types.specs.declared.cells.Cell.{Cell}
use Rattle.fop_types.specs.declared.contents.Content.{Content}
use Rattle.fop_types.specs.declared.copy_jobs.CopyJob.{CopyJob}
use Rattle.fop_types.specs.declared.messages.BrickRep.{BrickRep}
use Rattle.fop_types.specs.declared.messages.BrickRep.TheVariants as rep
use Rattle.fop_types.specs.declared.messages.BrickReq.{BrickReq}
use Rattle.fop_types.specs.declared.messages.BrickReq.TheVariants as req
use Rattle.fop_types.specs.declared.messages.DoneArm.TheVariants as arm
use Rattle.afr_phases.specs.declared.outs.Outs.{Outs}
use Rattle.afr_phases.specs.Answers.{is_fault, content_in}
use Rattle.afr_phases.specs.Flags.{flag}
use Rattle.afr_phases.specs.Outs.{left}
use Rattle.afr_phases.specs.Waves.{taken, is_over}
use Rattle.afr_phases.proofs.Bits.{named}
use Rattle.self_heal.specs.declared.run.CopyRun.{CopyRun}
use Rattle.self_heal.specs.declared.stage.CopyNeed.TheVariants as need
use Rattle.self_heal.specs.declared.stage.Origin.{Origin}
use Rattle.self_heal.specs.declared.stage.Stage.{Stage}
use Rattle.self_heal.specs.declared.stage.Stage.TheVariants as stage
use Rattle.self_heal.specs.Runs.{new_run, sinks_left, sinks_of, asking, finished, current_cell, next_cell, replacing, aspect_at, with_origin, answered_in}
use Rattle.self_heal.specs.Handed.{Handed, after, given, earlier, requests, request_to, AreAnswers, HasAnswered}
use Rattle.self_heal.specs.Laws.{IsBacked, HaveEveryCell, ClearsFollowReplacements, CurrentHaveEveryCell}
use Rattle.self_heal.proofs.Answering.{request_sent, asked_before, asked_still, none_asked, content_is, plain_is}
use Rattle.self_heal.proofs.Branches.{confirmed, lost, replacing_cases, replaced_cases, cleared_cases, fetched_cases, taken_cases}
use Rattle.self_heal.proofs.Copied.{AreCopied, one_more, has_each, later}
use Rattle.self_heal.proofs.JobRequests.{job_stays}
use Rattle.self_heal.proofs.Kept.{IsFetching, IsReplacing, IsClearing, AsStaged, Keeps, clears, next_keeps}
use Rattle.self_heal.proofs.Leaving.{five_stay, sinks_before, sink_gone, sink_low}
use Rattle.self_heal.proofs.Truths.{only_at, each_sent}

some_same : (a b : Cell) → ◌≡◌ {A = Option Cell} (Some a) (Some b) → a ≡ b
some_same a b h = cc

-- ---- an answer

module _ (job : CopyJob) (rows : List SplitRow) (hs : List Handed) (reqs : List (ℕ × BrickReq)) (reqs_are : reqs ≡ requests job rows hs) (h : Handed) (run : CopyRun) (five : length run.outs.at ≡ 5)
    (copied : AreCopied job rows hs (sinks_left run) run.origins run.job.cells) (asked : flag run.wave.asked h.replica ≡ true) where
  five_after : length (left run.outs h.replica (is_fault h.rep) h.mark).at ≡ 5
  five_after = five_stay run.outs h.replica (is_fault h.rep) h.mark five

  fewer : (k : ℕ) → flag (sinks_left (lost run h.replica h.rep h.mark)) k ≡ true → flag (sinks_left run) k ≡ true
  fewer = sinks_before run.job run.outs h.replica (is_fault h.rep) h.mark

  copied_on : AreCopied job rows (h ∷ hs) (sinks_left run) run.origins run.job.cells
  copied_on = later job rows hs (sinks_left run) h (sinks_left run) (λ k f. f) run.origins run.job.cells copied

  copied_by : (o : Outs) → ((k : ℕ) → flag (sinks_of run.job o) k ≡ true → flag (sinks_left run) k ≡ true) → AreCopied job rows (h ∷ hs) (sinks_of run.job o) run.origins run.job.cells
  copied_by o sub = later job rows hs (sinks_left run) h (sinks_of run.job o) sub run.origins run.job.cells copied

  says : (req : BrickReq) (rep : BrickRep) → request_to reqs h.replica ≡ Some req → h.rep ≡ rep → HasAnswered job rows (h ∷ hs) h.replica req rep
  says req rep q r = inl (refl, r, subst (λ (x : List (ℕ × BrickReq)). request_to x h.replica ≡ Some req) reqs_are q)

  fetch_keeps : (from : ℕ) → IsFetching reqs run from → Keeps job rows (h ∷ hs) reqs (answered_in (stage.Fetching from) run h.replica h.rep h.mark)
  fetch_keeps from i = fetched_cases run h.replica h.rep h.mark (Keeps job rows (h ∷ hs) reqs) loses finds where
    loses : Keeps job rows (h ∷ hs) reqs (next_cell (lost run h.replica h.rep h.mark))
    loses = next_keeps job rows (h ∷ hs) reqs (lost run h.replica h.rep h.mark) five_after (copied_by (left run.outs h.replica (is_fault h.rep) h.mark) fewer)

    is_from : h.replica ≡ from
    is_from = only_at from h.replica (subst (λ (xs : List Bool). flag xs h.replica ≡ true) i.asked asked)

    request : request_to reqs h.replica ≡ Some (req.Fetch 0 i.cell)
    request = subst (λ (k : ℕ). request_to reqs k ≡ Some (req.Fetch 0 i.cell)) (sym is_from) i.request

    replaces : (content : Content) (last : ℕ) → h.rep ≡ rep.Done (arm.Content content last) → (cell : Cell) → current_cell run ≡ Some cell →
        Keeps job rows (h ∷ hs) reqs (asking (confirmed run h.replica) (sinks_left run) (req.Replace cell last content) (stage.Replacing (record { source = h.replica; last = last })))
    replaces content last r cell at =
        let same : i.cell ≡ cell = some_same i.cell cell (sym i.at ∙ at) in
        record {
          five = five;
          copied = copied_on;
          staged = record {
            cell = cell;
            at = at;
            content = content;
            fetched = says (req.Fetch 0 cell) (rep.Done (arm.Content content last)) (subst (λ (c : Cell). request_to reqs h.replica ≡ Some (req.Fetch 0 c)) same request) r;
            asked = λ k f. request_sent (sinks_left run) (req.Replace cell last content) reqs k (sink_low run.job run.outs k f) f;
            sinks = λ k f. inl f;
          };
          backed = each_sent (λ k r. IsBacked job rows (h ∷ hs) run.job.sources r) (sinks_left run) (req.Replace cell last content) (λ k f. tt);
          current = tt;
        }

    finds : (content : Content) (last : ℕ) → content_in h.rep (aspect_at (current_cell run)) ≡ Some (content, last) →
        Keeps job rows (h ∷ hs) reqs (replacing (confirmed run h.replica) (current_cell run) content (record { source = h.replica; last = last }))
    finds content last e =
        replacing_cases (Keeps job rows (h ∷ hs) reqs) (confirmed run h.replica) content (record { source = h.replica; last = last })
        (clears job rows (h ∷ hs) reqs (confirmed run h.replica) five copied_on)
        (replaces content last (content_is h.rep (aspect_at (current_cell run)) content last e))

  -- an answer to a replacement or a clear, after which these are asked and out
  module _ (confirms : Bool) (o : Outs) (o_five : length o.at ≡ 5) (sub : (k : ℕ) → flag (sinks_of run.job o) k ≡ true → flag (sinks_left run) k ≡ true) where
    replaced_keeps : (origin : Origin) → run.stage ≡ stage.Replacing origin → (i : IsReplacing job rows hs reqs run origin) →
        (flag (sinks_of run.job o) h.replica ≡ true → HasAnswered job rows (h ∷ hs) h.replica (req.Replace i.cell origin.last i.content) (rep.Done arm.Nothing)) →
        Keeps job rows (h ∷ hs) reqs (if not (is_over (taken run.wave h.replica confirms)) then (record run { wave = taken run.wave h.replica confirms; outs = o }, need.Wait)
        else next_cell (with_origin (record run { wave = taken run.wave h.replica confirms; outs = o }) origin))
    replaced_keeps origin e i own = replaced_cases (Keeps job rows (h ∷ hs) reqs) (record run { wave = taken run.wave h.replica confirms; outs = o }) origin (λ over. waits) goes where
      who : (k : ℕ) → flag (sinks_of run.job o) k ≡ true → (flag (slice_set run.wave.asked h.replica false) k ≡ true) ⊎ HasAnswered job rows (h ∷ hs) k (req.Replace i.cell origin.last i.content) (rep.Done arm.Nothing)
      who k f = by (cases_eq k h.replica) (i.sinks k (sub k f)) where
        by : (k ≡ h.replica) ⊎ (k ≢ h.replica) → (flag run.wave.asked k ≡ true) ⊎ HasAnswered job rows hs k (req.Replace i.cell origin.last i.content) (rep.Done arm.Nothing) →
            (flag (slice_set run.wave.asked h.replica false) k ≡ true) ⊎ HasAnswered job rows (h ∷ hs) k (req.Replace i.cell origin.last i.content) (rep.Done arm.Nothing)
        by (inl same) known = inr (subst (λ (j : ℕ). HasAnswered job rows (h ∷ hs) j (req.Replace i.cell origin.last i.content) (rep.Done arm.Nothing)) (sym same) (own (subst (λ (j : ℕ). flag (sinks_of run.job o) j ≡ true) same f)))
        by (inr other) (inl a) = inl (asked_still run.wave.asked h.replica k other a)
        by (inr other) (inr known) = inr (inr known)

      waits : Keeps job rows (h ∷ hs) reqs (record run { wave = taken run.wave h.replica confirms; outs = o }, need.Wait)
      waits = record {
        five = o_five;
        copied = copied_by o sub;
        staged = subst (λ (s : Stage). AsStaged job rows (h ∷ hs) reqs (record run { wave = taken run.wave h.replica confirms; outs = o }) s) (sym e)
            (record { cell = i.cell; at = i.at; content = i.content; fetched = inr i.fetched; asked = λ k a. i.asked k (asked_before run.wave.asked h.replica k a); sinks = who });
        backed = tt;
        current = tt;
      }

      goes : is_over (taken run.wave h.replica confirms) ≡ true → Keeps job rows (h ∷ hs) reqs (next_cell (with_origin (record run { wave = taken run.wave h.replica confirms; outs = o }) origin))
      goes over =
          next_keeps job rows (h ∷ hs) reqs (with_origin (record run { wave = taken run.wave h.replica confirms; outs = o }) origin) o_five
          (one_more job rows (h ∷ hs) (sinks_of run.job o) run.origins run.job.cells origin i.cell (copied_by o sub) i.at
          (record { content = i.content; fetched = inr i.fetched; replaced = λ k f. answered k f (who k f) }))
        where
          answered : (k : ℕ) → flag (sinks_of run.job o) k ≡ true → (flag (slice_set run.wave.asked h.replica false) k ≡ true) ⊎ HasAnswered job rows (h ∷ hs) k (req.Replace i.cell origin.last i.content) (rep.Done arm.Nothing) → HasAnswered job rows (h ∷ hs) k (req.Replace i.cell origin.last i.content) (rep.Done arm.Nothing)
          answered k f (inl a) = absurd (none_asked (taken run.wave h.replica confirms) k (sink_low run.job o k f) over a)
          answered k f (inr known) = known

    cleared_keeps : (current : List Bool) → run.stage ≡ stage.Clearing current → IsClearing job rows hs run current →
        Keeps job rows (h ∷ hs) reqs (if not (is_over (taken run.wave h.replica confirms)) then (record run { wave = taken run.wave h.replica confirms; outs = o }, need.Wait)
        else finished (record run { wave = taken run.wave h.replica confirms; outs = o }) current)
    cleared_keeps current e i =
        cleared_cases (Keeps job rows (h ∷ hs) reqs) (record run { wave = taken run.wave h.replica confirms; outs = o }) current (λ over. waits)
        (λ over. record { five = o_five; copied = copied_by o sub; staged = tt; backed = tt; current = have }) where
          all : AreCopied job rows (h ∷ hs) current run.origins run.job.cells
          all = later job rows hs current h current (λ k f. f) run.origins run.job.cells i.copied

          have : HaveEveryCell job rows (h ∷ hs) run.job (finished (record run { wave = taken run.wave h.replica confirms; outs = o }) current).1
          have k low n =
              let f = sym (named current k low) ∙ n in
              (i.sinks k f, has_each job rows (h ∷ hs) current run.origins run.job.cells k all i.none f)

          waits : Keeps job rows (h ∷ hs) reqs (record run { wave = taken run.wave h.replica confirms; outs = o }, need.Wait)
          waits = record {
            five = o_five;
            copied = copied_by o sub;
            staged = subst (λ (s : Stage). AsStaged job rows (h ∷ hs) reqs (record run { wave = taken run.wave h.replica confirms; outs = o }) s) (sym e)
                (record { none = i.none; copied = all; sinks = i.sinks });
            backed = tt;
            current = tt;
          }

  by_stage : (s : Stage) → run.stage ≡ s → AsStaged job rows hs reqs run s → Keeps job rows (h ∷ hs) reqs (answered_in s run h.replica h.rep h.mark)
  by_stage (stage.Fetching from) e i = fetch_keeps from i
  by_stage (stage.Replacing origin) e i =
      taken_cases run h.replica h.rep h.mark (λ x. Keeps job rows (h ∷ hs) reqs (if not (is_over x.wave) then (x, need.Wait) else next_cell (with_origin x origin)))
      (λ plain. replaced_keeps true run.outs five (λ k f. f) origin e i (λ f. says (req.Replace i.cell origin.last i.content) (rep.Done arm.Nothing) (i.asked h.replica asked) (plain_is h.rep plain)))
      (λ no. replaced_keeps false (left run.outs h.replica (is_fault h.rep) h.mark) five_after fewer origin e i
      (λ f. absurd (sink_gone run.job run.outs h.replica (is_fault h.rep) h.mark (within f) f)))
    where
      within : flag (sinks_of run.job (left run.outs h.replica (is_fault h.rep) h.mark)) h.replica ≡ true → h.replica < length run.outs.at
      within f = let small = sink_low run.job (left run.outs h.replica (is_fault h.rep) h.mark) h.replica f in omega arith
  by_stage (stage.Clearing current) e i =
      taken_cases run h.replica h.rep h.mark (λ x. Keeps job rows (h ∷ hs) reqs (if not (is_over x.wave) then (x, need.Wait) else finished x current))
      (λ plain. cleared_keeps true run.outs five (λ k f. f) current e i)
      (λ no. cleared_keeps false (left run.outs h.replica (is_fault h.rep) h.mark) five_after fewer current e i)
  by_stage stage.Over e i = record {
    five = five;
    copied = copied_on;
    staged = subst (λ (s : Stage). AsStaged job rows (h ∷ hs) reqs run s) (sym e) tt;
    backed = tt;
    current = tt;
  }

-- ---- over all answers

keeps : (job : CopyJob) (rows : List SplitRow) (hs : List Handed) → AreAnswers job rows hs → Keeps job rows hs (earlier job rows hs) (after job rows hs)
keeps job rows [] answers = next_keeps job rows [] [] (new_run job rows) refl tt
keeps job rows (h ∷ hs) answers =
    let before = keeps job rows hs answers.0 in
    let run = (after job rows hs).0 in
    by_stage job rows hs (requests job rows hs) refl h run before.five before.copied answers.1 run.stage refl before.staged

pub clears_follow_replacements : ClearsFollowReplacements
clears_follow_replacements job rows hs answers =
    subst (λ (j : CopyJob). Each (λ (x : ℕ × BrickReq). IsBacked job rows hs j.sources x.1) (given (after job rows hs).1)) (job_stays job rows hs) (keeps job rows hs answers).backed

pub current_have_every_cell : CurrentHaveEveryCell
current_have_every_cell job rows hs answers =
    subst (λ (j : CopyJob). HaveEveryCell job rows hs j (after job rows hs).1) (job_stays job rows hs) (keeps job rows hs answers).current
