-- Where the open winds of all graphs are. Each open wind is in exactly one place: it opened an open frame; or a
-- task of the queue has it; or it left the graph, and is among those sent, or outside: `outer` says how often
-- each wind is there. A wind that is not open is nowhere. No wind is replied and not yet ended. Ours.
use Rattle.std.specs.Prelude.{ℕ, ◌≡◌, ◌≢◌, ◌+◌, ◌*◌, Bool, false, Option, Some, None, is_some, count_by}
use Rattle.xlator_law.specs.declared.winds.WindNo.{WindNo}
use Rattle.frame_stack.specs.declared.frame.Frame.{Frame}
use Rattle.frame_stack.specs.Moves.{is_wind}
use Rattle.frame_stack.specs.Stack.{Stack, word_at, opener_of}
use Rattle.frame_driver.specs.declared.board.Board.{Board}
use Rattle.frame_driver.specs.declared.items.Task.{Task}
use Rattle.frame_driver.specs.declared.items.Task.TheVariants.{Enter, Resume, Go}
use Rattle.frame_driver.specs.declared.items.Sent.{Sent}
use Rattle.frame_driver.specs.Tasks.{one}

abbrev pub is_same : WindNo → Option WindNo → Bool
is_same w None = false
is_same w (Some v) = is_wind w v

-- whether the wind opened this frame
abbrev pub is_parent : {L : Type 0} → WindNo → Option (Frame L) → Bool
is_parent w None = false
is_parent w (Some f) = is_same w f.place.parent

module _ {F R : Type 0} where
  abbrev pub is_queued : WindNo → Task F R → Bool
  is_queued w (Enter node call parent fop) = is_same w parent
  is_queued w (Resume frame slot reply) = false
  is_queued w (Go frame) = false

abbrev pub is_sent : {F : Type 0} → WindNo → Sent F → Bool
is_sent w s = is_wind w s.wind

-- whether the wind is open, as a number
abbrev pub opened : {L : Type 0} → Stack L → WindNo → ℕ
opened s w = one (is_some (opener_of s w))

module _ {F R L : Type 0} where
  -- in how many places a wind is
  abbrev pub places : (WindNo → ℕ) → Board F R L → WindNo → ℕ
  places outer b w = count_by (is_parent w) b.stack.frames + count_by (is_queued w) b.queue + count_by (is_sent w) b.sent + outer w

  pub record IsParted (outer : WindNo → ℕ) (b : Board F R L) : Type 0 where
    pub placed : (w : WindNo) → places outer b w ≡ opened b.stack w
    pub ended : (slot turn : ℕ) → word_at b.stack slot ≢ turn * 4 + 2
