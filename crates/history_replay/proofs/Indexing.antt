-- Replies that are found by their calls, one after another.
use Rattle.std.proofs.Common.{◌≡◌, subst, ℕ, ◌+◌, ◌<◌, ◌≤◌, List, length, get_or}
use Rattle.std.specs.Prelude.{Some, slice_get}
use Rattle.fop_types.specs.History.{Reply}
use Rattle.history_replay.specs.Traces.{Trace}
use Rattle.history_replay.specs.code.Runs.{IsReplyFound, AreRepliesFound}
use Rattle.history_replay.specs.declared.findings.Findings.{Findings}
use Rattle.history_replay.proofs.Below.{below_next, below_all}

module _ (t : Trace) (f : Findings) (replies : List Reply) (same : replies ≡ t.replies) (i : ℕ)
    (old : (k : ℕ) (r : Reply) → k < i → slice_get t.replies k ≡ Some r → IsReplyFound t f k r.call) where
  pub replies_next : (y : Reply) → y ≡ get_or replies i y → IsReplyFound t f i y.call
      → (k : ℕ) (r : Reply) → k < i + 1 → slice_get t.replies k ≡ Some r → IsReplyFound t f k r.call
  replies_next y read new = below_next (λ k r. IsReplyFound t f k r.call) t.replies i y (subst (λ (l : List Reply). y ≡ get_or l i y) same read) new old

  pub replies_all : length replies ≤ i → AreRepliesFound t f
  replies_all past = below_all (λ k r. IsReplyFound t f k r.call) t.replies i (subst (λ (l : List Reply). length l ≤ i) same past) old
