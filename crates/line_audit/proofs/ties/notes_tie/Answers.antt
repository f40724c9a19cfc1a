use Rattle.line_audit.proofs.ties.notes_tie.Goals as goal

pub returns-clause-sound : goal.returns-clause-sound
returns-clause-sound c = λ yes. record {
  numbers = c.requires.numbers;
  replies = c.replies_are_tied.ensures.sound c.if-not-replies_are_tied.false;
  winds = c.winds_are_tied.ensures.sound c.if-not-winds_are_tied.false;
  all = c.as_slice-sent_for.result.now;
  requests = c.in_ok-yes.ensures.tied yes;
  ends = c.in_ok-yes.ensures.ended yes;
}
