-- What an event makes of the agenda, by the log.
use Rattle.std.proofs.Common.{◌≡◌, ℕ, Bool, not, ◌==◌, List, [], ◌∷◌, ◌++◌, length, drop, Option, None, Some, MatchOption, refl, sym, ap, ◌∙◌, slice_get, subst}
use Rattle.script_lang.specs.declared.scripts.Phase.{Phase}
use Rattle.script_lang.specs.declared.scripts.Script.{Script}
use Rattle.xlator_law.specs.declared.winds.Stop.{Stop}
use Rattle.mount_log.specs.declared.logs.HubEvent.{HubEvent}
use Rattle.mount_log.specs.declared.logs.HubEvent.TheVariants as logged
use Rattle.mount_log.specs.declared.logs.Log.{Log}
use Rattle.mount_log.specs.declared.logs.ReplyLine.{ReplyLine}
use Rattle.mount_log.specs.declared.logs.SentLine.{SentLine}
use Rattle.mount_log.specs.declared.places.LineAt.{LineAt}
use Rattle.mount_log.specs.Lines.{places_from, TakesLine}
use Rattle.mount_log.specs.Logs.{empty_log, is_submit, with_lines}
use Rattle.mount_log.specs.Submissions.{submits_of}
use Rattle.hub_tables.specs.Agendas.{AgendaState, new_agenda, with_phase, with_sends, outgoing, moved_on, next_agenda}
use Rattle.hub_tables.specs.PhaseControls.{ControlsState}
use Rattle.hub_tables.specs.Sessions.{first_line}
use Rattle.hub_tables.proofs.Nexts.{moved_on_so, with_phase_so, next_agenda_so}
use Rattle.hub_calls.specs.Dues.{is_idle}
use Rattle.hub_calls.specs.Hubs.{AddsEvent, ClosesWith, GoesOut, new_replies, new_sent, is_answered_in, next_lines, agenda_after, agenda_before}
use Rattle.hub_calls.specs.Plans.{PlannedScript, AreLeft, IsNext}
use Rattle.hub_calls.proofs.Planning.{get_first, still_left, left_submitted}

-- ---- the lines that an event has added

behind : {T : Type 0} (xs ys : List T) → drop (length xs) (xs ++ ys) ≡ ys
behind [] ys = refl
behind (x ∷ xs) ys = behind xs ys

module _ (old new lines : Log) (added : new ≡ with_lines old lines) where
  replies_are : new_replies old new ≡ lines.replies
  replies_are = ap (λ (l : Log). new_replies old l) added ∙ behind old.replies lines.replies

  sent_are : new_sent old new ≡ lines.sent
  sent_are = ap (λ (l : Log). new_sent old l) added ∙ behind old.sent lines.sent

  answered_is : is_answered_in old new ≡ not (length lines.answered == 0)
  answered_is = ap (λ (l : Log). is_answered_in old l) added ∙ ap (λ (ns : List ℕ). not (length ns == 0)) (behind old.answered lines.answered)

pub agenda_closed : (next : ℕ → Option LineAt) (phases : List Phase) (idle : Bool) (old new lines : Log) (e : HubEvent) (agenda after : AgendaState) → after ≡ next_agenda next phases idle lines.replies lines.sent (not (length lines.answered == 0)) agenda
    → new ≡ with_lines old (record lines { events = e ∷ [] }) → after ≡ next_agenda next phases idle (new_replies old new) (new_sent old new) (is_answered_in old new) agenda
agenda_closed next phases idle old new lines e agenda after is added =
    let all : Log = record lines { events = e ∷ [] } in
    is
    ∙ ap (λ (rs : List ReplyLine). next_agenda next phases idle rs lines.sent (not (length lines.answered == 0)) agenda) (sym (replies_are old new all added))
    ∙ ap (λ (ls : List SentLine). next_agenda next phases idle (new_replies old new) ls (not (length lines.answered == 0)) agenda) (sym (sent_are old new all added))
    ∙ ap (λ (b : Bool). next_agenda next phases idle (new_replies old new) (new_sent old new) b agenda) (sym (answered_is old new all added))

pub goes_out : (controls : ControlsState) (inputs sent : List SentLine) → sent ≡ outgoing controls inputs → GoesOut controls sent
goes_out controls inputs sent are = record { inputs = inputs; are_sent = are }

pub out_closed : (controls : ControlsState) (old new lines : Log) (e : HubEvent) → GoesOut controls lines.sent → new ≡ with_lines old (record lines { events = e ∷ [] }) → GoesOut controls (new_sent old new)
out_closed controls old new lines e goes added = subst (GoesOut controls) (sym (sent_are old new (record lines { events = e ∷ [] }) added)) goes

pub agenda_begun : (next : ℕ → Option LineAt) (phases : List Phase) (idle : Bool) (old new lines : Log) (agenda after : AgendaState) → after ≡ moved_on next phases idle (length phases) (with_phase next phases (with_sends agenda lines.sent))
    → new ≡ with_lines old (record lines { events = [] }) → after ≡ moved_on next phases idle (length phases) (with_phase next phases (with_sends agenda (new_sent old new)))
agenda_begun next phases idle old new lines agenda after is added =
    is ∙ ap (λ (ls : List SentLine). moved_on next phases idle (length phases) (with_phase next phases (with_sends agenda ls))) (sym (sent_are old new (record lines { events = [] }) added))

-- ---- the next lines of the sessions

next_is : (script : Script) (events : List HubEvent) (left : List (List LineAt)) → AreLeft script events left → (session : ℕ) → first_line left session ≡ next_lines script events session
next_is script events left are session =
    ap (λ (queue : List LineAt). slice_get queue 0) (are session) ∙ get_first (submits_of session events) (places_from session 0 script.phases)

agenda_is : (script : Script) (left : List (List LineAt)) (old new : Log) (tasks : List (ℕ × ℕ)) (agenda after : AgendaState) → AreLeft script new.events left
    → after ≡ next_agenda (first_line left) script.phases (is_idle tasks) (new_replies old new) (new_sent old new) (is_answered_in old new) agenda → after ≡ agenda_after script old new tasks agenda
unfolding agenda_after
agenda_is script left old new tasks agenda after are is =
    is ∙ next_agenda_so (first_line left) (next_lines script new.events) (next_is script new.events left are) script.phases (is_idle tasks) (new_replies old new) (new_sent old new) (is_answered_in old new) agenda

-- an event that is no submission
pub closed_agenda : (script : Script) (old new : Log) (left : List (List LineAt)) (stop : Option Stop) (e : HubEvent) (tasks : List (ℕ × ℕ)) (agenda after : AgendaState) → MatchOption stop (AreLeft script old.events left) (λ _. Unit {0}) → stop ≡ None
    → is_submit e ≡ 0 → AddsEvent old new e → after ≡ next_agenda (first_line left) script.phases (is_idle tasks) (new_replies old new) (new_sent old new) (is_answered_in old new) agenda → GoesOut agenda.controls (new_sent old new)
    → ClosesWith script old new tasks agenda after
closed_agenda script old new left stop e tasks agenda after are goes other adds is out = record {
  agenda = agenda_is script left old new tasks agenda after (still_left script old new left stop e are goes other adds) is;
  out = out;
}

-- a submission
pub submitted_agenda : (on after_on : PlannedScript) (old new : Log) (stop : Option Stop) (session number : ℕ) (at : LineAt) (tasks : List (ℕ × ℕ)) (agenda after : AgendaState) → MatchOption stop (AreLeft on.script old.events on.left) (λ _. Unit {0})
    → stop ≡ None → IsNext on session at number → ((a : LineAt) → first_line on.left session ≡ Some a → TakesLine on.left session a after_on.left) → after_on.script ≡ on.script → AddsEvent old new (logged.Submit session number)
    → after ≡ next_agenda (first_line after_on.left) after_on.script.phases (is_idle tasks) (new_replies old new) (new_sent old new) (is_answered_in old new) agenda → GoesOut agenda.controls (new_sent old new) → ClosesWith on.script old new tasks agenda after
submitted_agenda on after_on old new stop session number at tasks agenda after are goes is takes same adds closed out = record {
  agenda =
      agenda_is after_on.script after_on.left old new tasks agenda after (left_submitted on after_on old new stop session number at are goes is takes same adds) closed
      ∙ ap (λ (s : Script). agenda_after s old new tasks agenda) same;
  out = out;
}

-- the start
pub begun_agenda : (script : Script) (left : List (List LineAt)) (old new : Log) (tasks : List (ℕ × ℕ)) (first after : AgendaState) → old ≡ empty_log → AreLeft script [] left → first ≡ new_agenda
    → after ≡ moved_on (first_line left) script.phases (is_idle tasks) (length script.phases) (with_phase (first_line left) script.phases (with_sends first (new_sent old new))) → after ≡ agenda_before script new tasks
unfolding agenda_before
begun_agenda script left old new tasks first after empty are new_is is =
    is
    ∙ ap (λ (a : AgendaState). moved_on (first_line left) script.phases (is_idle tasks) (length script.phases) (with_phase (first_line left) script.phases (with_sends a (new_sent old new)))) new_is
    ∙ ap (λ (o : Log). moved_on (first_line left) script.phases (is_idle tasks) (length script.phases) (with_phase (first_line left) script.phases (with_sends new_agenda (new_sent o new)))) empty
    ∙ moved_on_so (first_line left) (next_lines script []) (next_is script [] left are) script.phases (is_idle tasks) (length script.phases) (with_phase (first_line left) script.phases (with_sends new_agenda new.sent))
    ∙ ap (moved_on (next_lines script []) script.phases (is_idle tasks) (length script.phases)) (with_phase_so (first_line left) (next_lines script []) (next_is script [] left are) script.phases (with_sends new_agenda new.sent))
