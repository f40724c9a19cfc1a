-- What the frames of a board await that has nothing to do: the end of a wait for something that is no wind, or the answer
-- of a wind that left the graph. Ours.
use Rattle.std.specs.Prelude.{ℕ, ◌≡◌, ◌≤◌, ◌+◌, true, false, List, [], Some, count_by}
use Rattle.xlator_law.specs.Law.{Promise}
use Rattle.xlator_law.specs.declared.winds.WindNo.{WindNo}
use Rattle.frame_stack.specs.declared.frame.Opener.{Opener}
use Rattle.frame_stack.specs.Stack.{frame_at, opener_of}
use Rattle.frame_driver.specs.declared.board.Board.{Board}
use Rattle.frame_driver.specs.Follows.{waits_in}
use Rattle.frame_driver.specs.Parts.{is_sent, IsParted}
use Rattle.frame_driver.specs.Sound.{Sound}
use Rattle.frame_laws.specs.Under.{IsOpenIn, IsWoundBy, IsUnder}

-- how often a wind has left the graph: among those sent, and outside
abbrev pub away : {F R L : Type 0} → (WindNo → ℕ) → Board F R L → WindNo → ℕ
away outer b w = count_by (is_sent w) b.sent + outer w

module _ {F R L : Type 0} (ps : ℕ → List (Promise F L)) (outer : WindNo → ℕ) (b : Board F R L) where
  -- the board is as its calls keep it, and has nothing to do
  pub record IsAtRest : Type 0 where
    pub sound : Sound ps b
    pub parted : IsParted outer b
    pub idle : b.queue ≡ []

  -- a frame at or under this one waits for something that is no wind, or has an open wind that left the graph
  pub data AwaitsOutside (key : ℕ) : Type 0 where
    OnWait : (low : ℕ) → IsUnder b.stack low key → waits_in ps (frame_at b.stack low) ≡ true → AwaitsOutside key
    OnWind : (low : ℕ) → (w : WindNo) → IsUnder b.stack low key → IsWoundBy b.stack low w → 1 ≤ away outer b w → AwaitsOutside key

  -- no frame of the call in this graph waits for something that is no wind, and no open wind of it there left the graph
  pub record AwaitsNothing (g call : ℕ) : Type 0 where
    pub frames : (key : ℕ) → IsOpenIn b.stack g call key → waits_in ps (frame_at b.stack key) ≡ false
    pub winds : (w : WindNo) (o : Opener) → opener_of b.stack w ≡ Some o → o.graph ≡ g → o.call ≡ call → away outer b w ≡ 0
