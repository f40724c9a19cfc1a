-- What a call adds to the log.
use Rattle.std.proofs.Common.{◌≡◌, refl, sym, ap, subst, ◌∙◌, append-nil, arith}
use Rattle.std.proofs.lemmas.List.{length_push}
use Rattle.std.specs.Prelude.{ℕ, ◌+◌, List, [], ◌∷◌, ◌++◌, length, slice_get, Option, Some, option_to_list, Result, Err, IfErr}
use Rattle.xlator_law.specs.declared.winds.Stop.{Stop}
use Rattle.xlator_law.specs.declared.winds.Stop.TheVariants as stopped
use Rattle.mount_log.specs.declared.logs.HubEvent.{HubEvent}
use Rattle.mount_log.specs.declared.logs.HubEvent.TheVariants as logged
use Rattle.mount_log.specs.declared.logs.Log.{Log}
use Rattle.mount_log.specs.declared.logs.WindLine.{WindLine}
use Rattle.mount_log.specs.Logs.{empty_log, with_event, with_lines}
use Rattle.script_lang.specs.declared.scripts.Script.{Script}
use Rattle.hub_tables.specs.Agendas.{with_output}
use Rattle.hub_tables.specs.PhaseControls.{ControlsState}
use Rattle.hub_tables.specs.declared.actions.Turned.TheVariants as turn
use Rattle.hub_calls.specs.EventNumbers.{AreOfEvent, HaveEvents, numbered, going_out, written_lines, IsCutOff}
use Rattle.hub_calls.proofs.EventNumbers.{numbered_are, none_of_event, both_have}
use Rattle.hub_calls.specs.Hubs.{HubState, AddsEvent, ClosesWith, IsTurn, is_due_output, HasCut, IsAfterStop}

pub adds_event : (old new lines : Log) (e : HubEvent) → AreOfEvent (length old.events + 1) lines → new ≡ with_lines old (record lines { events = e ∷ [] }) → AddsEvent old new e
adds_event old new lines e are added =
    let number : length old.events + 1 ≡ length new.events = omega (arith, ap (λ (l : Log). length l.events) added, length_push old.events e) in
    record {
      lines = record lines { events = e ∷ [] };
      event = refl;
      numbered = subst (λ (n : ℕ). AreOfEvent n (record lines { events = e ∷ [] })) number (record {
        sent = are.sent;
        replies = are.replies;
        entered = are.entered;
        answered = are.answered;
        winds = are.winds;
        copied = are.copied;
        skipped = are.skipped;
        each = record { entries = are.each.entries; copies = are.each.copies; skips = are.each.skips };
      });
      added = added;
    }

pub adds_no_event : (old new lines : Log) → lines.events ≡ [] → new ≡ with_lines old lines → new.events ≡ old.events
adds_no_event old new lines none added = ap (λ (l : Log). l.events) added ∙ ap (λ (es : List HubEvent). old.events ++ es) none ∙ append-nil old.events

-- the events are those before, and this one
pub one_event_more : (old new : Log) (e : HubEvent) → AddsEvent old new e → new.events ≡ old.events ++ e ∷ []
one_event_more old new e adds = ap (λ (l : Log). l.events) adds.added ∙ ap (λ (es : List HubEvent). old.events ++ es) adds.event

-- each entry, copy and skip has its event also after an event
pub events_after : (old new : Log) (e : HubEvent) → AddsEvent old new e → HaveEvents old → HaveEvents new
events_after old new e adds have = subst HaveEvents (sym adds.added) (both_have old adds.lines have adds.numbered.each)

-- ---- an event alone

nothing_more : (old : Log) (e : HubEvent) → with_lines old (record empty_log { events = e ∷ [] }) ≡ with_event old e
nothing_more old e =
    rw (append-nil old.sent, append-nil old.replies, append-nil old.history, append-nil old.entered, append-nil old.answered, append-nil old.winds, append-nil old.copies, append-nil old.copied, append-nil old.skips, append-nil old.skipped) refl

-- an event that has made no lines is added alone
pub event_alone : (old new lines : Log) (c : ControlsState) (e : HubEvent) → lines ≡ empty_log → new ≡ with_lines old (written_lines c old lines e) → new ≡ with_event old e
unfolding numbered going_out
event_alone old new lines c e none is = is ∙ ap (λ (l : Log). with_lines old (written_lines c old l e)) none ∙ nothing_more old e

-- the same where the log, and the lines, are those of a moment before
pub event_behind : (old now new before lines : Log) (c : ControlsState) (e : HubEvent) → now ≡ old → lines ≡ before → before ≡ empty_log → new ≡ with_lines now (written_lines c now lines e) → new ≡ with_event old e
event_behind old now new before lines c e same kept none is = event_alone now new lines c e (kept ∙ none) is ∙ ap (λ (l : Log). with_event l e) same

-- ---- an event that was cut

nothing_cut : (log : Log) → HasCut log log
nothing_cut log = record {
  lines = empty_log;
  numbered = none_of_event (length log.events + 1);
  cut = ap (λ (winds : List WindLine). record log { winds = winds }) (sym (append-nil log.winds));
}

pub after_cut : (s : Stop) (lines old new : Log) → IsCutOff s lines old new → IsAfterStop s old new
after_cut stopped.Mem lines old new same = same
after_cut stopped.Winds lines old new cut = record { lines = numbered (length old.events + 1) lines; numbered = numbered_are (length old.events + 1) lines; cut = cut }

-- an event for which no wind was lacking has left the log as it was
pub log_stays : {T : Type 0} (stop : Stop) (done : Result T Stop) (lines old now new : Log) → IsCutOff stop lines now new → (stop ≡ stopped.Winds → done ≡ Err stopped.Winds) → IfErr done (λ s. s ≡ stopped.Mem) → now ≡ old → new ≡ old
log_stays stopped.Mem done lines old now new same winds memory is = same ∙ is
log_stays stopped.Winds done lines old now new cut winds memory is = let no : ◌≡◌ {A = Stop} stopped.Winds stopped.Mem = subst (λ d. IfErr d (λ (s : Stop). s ≡ stopped.Mem)) (winds refl) memory in absurd cc

pub after_same : (s : Stop) (log : Log) → IsAfterStop s log log
after_same stopped.Mem log = refl
after_same stopped.Winds log = nothing_cut log

pub events_cut : (s : Stop) (old new : Log) → IsAfterStop s old new → HaveEvents old → HaveEvents new
events_cut stopped.Mem old new same have = subst HaveEvents (sym same) have
events_cut stopped.Winds old new cut have = subst HaveEvents (sym cut.cut) (record { entries = have.entries; copies = have.copies; skips = have.skips })

-- ---- a turn

pub turn_takes : (before after : List (ℕ × List ℕ)) (first : Option (ℕ × List ℕ)) (brick : ℕ) (output : List ℕ) (old new : HubState) → before ≡ option_to_list first ++ after → first ≡ Some (brick, output)
    → AddsEvent old.log new.log (logged.Arrive brick output) → new.script ≡ old.script → ClosesWith old.script old.log new.log new.tasks (with_output old.agenda (is_due_output output)) new.agenda → IsTurn turn.Did before after old new
turn_takes before after first brick output old new taken is event same agenda =
    let whole : before ≡ (brick, output) ∷ after = taken ∙ ap (λ (x : Option (ℕ × List ℕ)). option_to_list x ++ after) is in
    rw whole ((refl, event), subst (λ (s : Script). ClosesWith s old.log new.log new.tasks (with_output old.agenda (is_due_output output)) new.agenda) (sym same) agenda)

pub turn_runs : (before after : List (ℕ × List ℕ)) (graph task : ℕ) (old new : HubState) → before ≡ [] → after ≡ [] → slice_get old.tasks 0 ≡ Some (graph, task) → AddsEvent old.log new.log (logged.Run graph task) → new.script ≡ old.script
    → ClosesWith old.script old.log new.log new.tasks old.agenda new.agenda → IsTurn turn.Did before after old new
turn_runs before after graph task old new none left first event same agenda =
    rw none ((left, record { graph = graph; task = task; first = first; event = event }), subst (λ (s : Script). ClosesWith s old.log new.log new.tasks old.agenda new.agenda) (sym same) agenda)
