use Rattle.std.proofs.Common.{◌≡◌, ap, ◌∙◌, ◌++◌, map}
use Rattle.std.specs.Prelude.{ℕ, List}
use Rattle.mount_log.specs.Phases.{internal_from, owed_in, arrived_from, opened_in, ended_in}
use Rattle.mount_log.specs.declared.logs.HubEvent.{HubEvent}
use Rattle.mount_log.specs.declared.logs.ReplyLine.{ReplyLine}
use Rattle.mount_log.specs.declared.logs.SentLine.{SentLine}
use Rattle.mount_log.specs.declared.logs.WindLine.{WindLine}
use Rattle.run_audit.specs.declared.numbers.Numbers.{Numbers}
use Rattle.run_audit.proofs.numbers.Numbers.note.Goals as goal

pub returns : goal.returns
returns c =
    let none = c.requires.none in let log = c.args.log.now in let old = c.args.self.now in
    record {
      replied =
          c.in_ok-add_replied.ensures ∙ ap (λ (l : List ReplyLine). old.replied ++ map (λ (r : ReplyLine). r.event) l) c.as_slice.ensures
          ∙ ap (λ (n : Numbers). n.replied ++ map (λ (r : ReplyLine). r.event) log.replies) none;
      internal = c.in_ok-add_internal.ensures ∙ ap (λ (l : List HubEvent). old.internal ++ internal_from 1 l) c.as_slice-2.ensures ∙ ap (λ (n : Numbers). n.internal ++ internal_from 1 log.events) none;
      answered = ap (λ (n : Numbers). n.answered) none;
      owed = c.in_ok-add_owed.ensures ∙ ap (λ (l : List SentLine). old.owed ++ owed_in l) c.as_slice-3.ensures ∙ ap (λ (n : Numbers). n.owed ++ owed_in log.sent) none;
      arrived = c.in_ok-add_arrivals.ensures ∙ ap (λ (n : Numbers). n.arrived ++ arrived_from 1 log.events) none;
      opened = c.in_ok-add_opened.ensures ∙ ap (λ (l : List WindLine). old.opened ++ opened_in l) c.as_slice-4.ensures ∙ ap (λ (n : Numbers). n.opened ++ opened_in log.winds) none;
      ended = c.in_ok-add_ended.ensures ∙ ap (λ (l : List WindLine). old.ended ++ ended_in l) c.as_slice-5.ensures ∙ ap (λ (n : Numbers). n.ended ++ ended_in log.winds) none;
    }
