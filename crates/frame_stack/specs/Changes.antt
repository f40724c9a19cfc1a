-- What a call changes and what it leaves as it was, for callers that look at one frame or at one wind.
use Rattle.std.specs.Prelude.{ℕ, ◌≡◌, ◌≢◌, Option, Some, None}
use Rattle.xlator_law.specs.declared.winds.WindNo.{WindNo}
use Rattle.frame_stack.specs.declared.frame.Frame.{Frame}
use Rattle.frame_stack.specs.declared.frame.Opener.{Opener}
use Rattle.frame_stack.specs.Stack.{Stack, frame_at, awaits, opener_of}

module _ {L : Type 0} where
  -- a frame, if it is open, with this local, or with its local out
  abbrev pub with_kept : Option L → Option (Frame L) → Option (Frame L)
  with_kept local None = None
  with_kept local (Some f) = Some (record f { local = local })

  -- under this number there is this frame now, or none, and every other frame is as it was
  pub record ChangesFrame (old new : Stack L) (key : ℕ) (now : Option (Frame L)) : Type 0 where
    pub here : frame_at new key ≡ now
    pub others : (k : ℕ) → k ≢ key → frame_at new k ≡ frame_at old k

  -- this wind has this opener now, or none, and every other wind the one that it had
  pub record ChangesOpener (old new : Stack L) (w : WindNo) (now : Option Opener) : Type 0 where
    pub here : opener_of new w ≡ now
    pub others : (v : WindNo) → v ≢ w → opener_of new v ≡ opener_of old v

  -- all winds are as they were
  pub record KeepsWinds (old new : Stack L) : Type 0 where
    pub openers : new.openers ≡ old.openers
    pub words : new.words ≡ old.words
    pub opened : new.opened ≡ old.opened
    pub lines : new.lines ≡ old.lines
    pub opener : (w : WindNo) → opener_of new w ≡ opener_of old w
    pub awaits : (key slot : ℕ) → awaits new key slot ≡ awaits old key slot
