-- Bricks to which no connection was opened are lost, wherever the ends of connections are.
use Rattle.std.proofs.Common.{◌≡◌, refl, sym, ap, subst, ◌∙◌, arith, inl}
use Rattle.std.specs.Prelude.{ℕ, ◌+◌, ◌-◌, ◌<◌, ◌≤◌, ◌^◌, ◌==◌, nat_le, nat_lt, ◌&&◌, min, Bool, true, false, List, [], ◌∷◌, Option, None, Some, Contains, map, if◌then◌else◌}
use Rattle.std.specs.List.{AllByRecursion}
use Rattle.std.proofs.lemmas.Bool.{leb-false}
use Rattle.fop_types.specs.declared.answers.Answer.{Answer}
use Rattle.fop_types.specs.declared.answers.Answer.TheVariants as answer
use Rattle.fop_types.specs.declared.answers.IoError.{IoError}
use Rattle.fop_types.specs.declared.answers.IoError.TheVariants as io
use Rattle.fop_types.specs.declared.jobs.SetPlan.{SetPlan}
use Rattle.graph_build.specs.declared.plans.Plan.{Plan}
use Rattle.script_lang.specs.declared.scripts.Script.{Script}
use Rattle.mount_log.specs.CallGraphs.{call_at}
use Rattle.mount_log.specs.declared.call_graphs.CallAt.{CallAt}
use Rattle.mount_log.specs.declared.logs.Log.{Log}
use Rattle.mount_log.specs.declared.logs.ReplyLine.{ReplyLine}
use Rattle.error_audit.specs.AtPlaces.{IsLostBy}
use Rattle.error_audit.specs.Finding.{openings_in, ends_in, IsPairLost, IsReplyFound, HasFound, span_at}
use Rattle.error_audit.specs.IoCauses.{AreTables}
use Rattle.error_audit.specs.Never.{IsNever, AreNever, IsKnownError, IsKnown}
use Rattle.error_audit.specs.Opened.{openings_of, openings_to}
use Rattle.error_audit.specs.code.Searches.{is_to, last_end, last_with, closed_until, moment_behind, loss_of}
use Rattle.error_audit.specs.declared.connections.Opening.{Opening}
use Rattle.error_audit.specs.declared.losses.End.{End}
use Rattle.error_audit.specs.declared.losses.Loss.{Loss}
use Rattle.error_audit.specs.declared.tables.Tables.{Tables}
use Rattle.error_audit.proofs.Openings.{same_to_brick}

-- ---- one connection more

-- it is behind the event, or another brick's or graph's
before : (late : Bool) (event until : ℕ) → nat_le event until ≡ late → late ≡ false → min until (event - 1) ≡ until
before late event until is early = let lt = leb-false event until (is ∙ early) in omega (arith, lt)

with_step : (to late : Bool) (event until rest others more : ℕ) → nat_le event until ≡ late → (if late && to then 1 else 0) + rest ≡ 0 → (rest ≡ 0 → others ≡ until)
    → (if to then (if 0 == 0 then min until (event - 1) else more) else others) ≡ until
with_step true true event until rest others more is none then_is = absurd (omega (arith, none))
with_step true false event until rest others more is none then_is = before false event until is refl
with_step false true event until rest others more is none then_is = then_is (omega (arith, none))
with_step false false event until rest others more is none then_is = then_is (omega (arith, none))

closed_step : (to late behind : Bool) (event until rest others : ℕ) → nat_le event until ≡ late → (if late && to then 1 else 0) + rest ≡ 0 → (rest ≡ 0 → others ≡ until)
    → (if to && behind then min until (event - 1) else others) ≡ until
closed_step true true behind event until rest others is none then_is = absurd (omega (arith, none))
closed_step true false true event until rest others is none then_is = before false event until is refl
closed_step true false false event until rest others is none then_is = then_is (omega (arith, none))
closed_step false true behind event until rest others is none then_is = then_is (omega (arith, none))
closed_step false false behind event until rest others is none then_is = then_is (omega (arith, none))

module _ (graph brick until : ℕ) where
  none_with : (openings : List Opening) → openings_to until graph brick openings ≡ 0 → last_with openings graph brick 0 until 0 ≡ until
  none_with [] none = refl
  none_with (o ∷ openings) none =
      with_step (is_to o graph brick) (nat_le o.event until) o.event until (openings_to until graph brick openings) (last_with openings graph brick 0 until 0)
      (last_with openings graph brick 0 until (min (0 + 1) (2 ^ 32 - 1))) refl none (none_with openings)

  none_behind : (openings : List Opening) (end : ℕ) → openings_to until graph brick openings ≡ 0 → closed_until openings graph brick end until ≡ until
  none_behind [] end none = refl
  none_behind (o ∷ openings) end none =
      closed_step (is_to o graph brick) (nat_le o.event until) (nat_lt end o.event) o.event until (openings_to until graph brick openings) (closed_until openings graph brick end until) refl none
      (none_behind openings end)

  none_moment : (openings : List Opening) (end : Option End) → openings_to until graph brick openings ≡ 0 → moment_behind openings graph brick until end ≡ until
  none_moment openings None none = refl
  none_moment openings (Some end) none = none_behind openings end.event none

  -- ---- a loss

  lost_then : (log : Log) (openings : List Opening) (plan : SetPlan) (since : ℕ) (loss : Loss) → Contains plan.bricks brick → since ≤ until + 1 → openings_to until graph brick openings ≡ 0 → loss.moment ≡ until → loss.found ≡ until
      → IsLostBy log openings plan graph since until (brick, 0) loss
  lost_then log openings plan since loss member in_time none moment found = record {
    member = member;
    within = record { submitted = omega (arith, in_time, moment); later = omega (arith, moment, found); replied = omega (arith, found) };
    number_is = sym (ap (λ (n : ℕ). openings_to n graph brick openings) found ∙ none);
    closed = inl (ap (λ (n : ℕ). openings_to n graph brick openings) moment ∙ none);
  }

  never_lost : (log : Log) (openings : List Opening) (ends : List End) (plan : SetPlan) (since : ℕ) → Contains plan.bricks brick → since ≤ until + 1 → openings_to until graph brick openings ≡ 0
      → IsLostBy log openings plan graph since until (brick, 0) (loss_of openings ends graph brick 0 until)
  never_lost log openings ends plan since member in_time none =
      let found : last_with openings graph brick 0 until 0 ≡ until = none_with openings none in
      let moment : (loss_of openings ends graph brick 0 until).moment ≡ until =
      ap (λ (n : ℕ). moment_behind openings graph brick n (last_end ends graph n None)) found ∙ none_moment openings (last_end ends graph until None) none in
      lost_then log openings plan since (loss_of openings ends graph brick 0 until) member in_time none moment found

-- ---- all that are named

module _ (script : Script) (plans : List Plan) (log : Log) (tables : Tables) (t : AreTables script log tables) where
  pair_lost : (plan : SetPlan) (at : CallAt) (until : ℕ) (pair : ℕ × ℕ) → at.event ≤ until + 1 → IsNever log plan at.graph until pair → IsPairLost log tables plan (span_at at) until pair
  pair_lost plan at until (brick, number) in_time never =
      let none : openings_to until at.graph brick (openings_in tables brick) ≡ 0 =
      ap (openings_to until at.graph brick) (t.openings brick) ∙ same_to_brick until at.graph brick (openings_of log.sent) ∙ never.none in
      subst (λ (n : ℕ). IsLostBy log (openings_in tables brick) plan at.graph at.event until (brick, n) (loss_of (openings_in tables brick) (ends_in tables brick) at.graph brick n until)) (sym never.number_is)
      (never_lost at.graph brick until log (openings_in tables brick) (ends_in tables brick) plan at.event never.member in_time none)

  pairs_lost : (plan : SetPlan) (at : CallAt) (until : ℕ) (lost : List (ℕ × ℕ)) → at.event ≤ until + 1 → AllByRecursion (IsNever log plan at.graph until) lost → AllByRecursion (IsPairLost log tables plan (span_at at) until) lost
  pairs_lost plan at until [] in_time all = record {}
  pairs_lost plan at until (pair ∷ lost) in_time all = (pair_lost plan at until pair in_time all.0, pairs_lost plan at until lost in_time all.1)

  error_found : (reply : ReplyLine) (error : IoError) → IsKnownError script plans log reply error → HasFound script plans log tables reply error
  error_found reply (io.Quorum set lost) known = record {
    at = known.at;
    at_is = ap (λ (l : List CallAt). call_at l reply.call) t.calls ∙ known.at_is;
    low = known.low;
    plan = known.plan;
    set = known.set_is;
    evidence = record { each = pairs_lost known.plan known.at reply.event lost known.in_time known.each; rising = known.rising; enough = known.enough };
  }
  error_found reply (io.Split set rows) known = absurd known
  error_found reply (io.Fault set faults lost) known = absurd known

  reply_found : (reply : ReplyLine) (a : Answer) → IsKnown script plans log reply a → IsReplyFound script plans log tables reply a
  reply_found reply (answer.Io error) known = error_found reply error known
  reply_found reply answer.Done known = known
  reply_found reply (answer.Count n) known = known
  reply_found reply (answer.Bytes bytes) known = known
  reply_found reply (answer.Stat kind mode size) known = known
  reply_found reply (answer.List items) known = known
  reply_found reply (answer.App error) known = known

  pub all_found : (replies : List ReplyLine) → AllByRecursion (λ (r : ReplyLine). IsKnown script plans log r r.answer) replies → AllByRecursion (λ (r : ReplyLine). IsReplyFound script plans log tables r r.answer) replies
  all_found [] all = record {}
  all_found (reply ∷ replies) all = (reply_found reply reply.answer all.0, all_found replies all.1)
