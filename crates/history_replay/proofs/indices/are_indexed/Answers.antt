use Rattle.history_replay.proofs.indices.are_indexed.Goals as goal

pub returns : goal.returns
returns c = λ lasts. record {
  replies = c.are_replies.ensures c.if-not-are_replies.false;
  entries = c.are_entries.ensures c.if-not-are_entries.false;
  lasts = c.are_lasts.ensures lasts;
}
