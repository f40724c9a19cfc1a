-- The frames of a mount and their winds. A slot of the stack has a word: four times its turn, while it is
-- free; one more, while the wind of that slot and turn is pending; two more, once it is replied. It goes to
-- the next turn when the wind is resumed, so words only rise. Ours, after GlusterFS's call stacks.
use Rattle.std.specs.Prelude.{ℕ, ◌≡◌, ◌<◌, ◌≤◌, ◌+◌, ◌*◌, ◌==◌, ◌&&◌, ◌||◌, Bool, true, false, cond, not, List, [], ◌∷◌, ◌++◌, length, Option, Some, None, IfSome, IsSomeAnd, slice_index_or, slice_set}
use Rattle.std.specs.List.{list_any}
use Rattle.xlator_law.specs.declared.winds.WindNo.{WindNo}
use Rattle.xlator_law.specs.declared.winds.Parent.{Parent}
use Rattle.xlator_law.specs.declared.winds.Place.{Place}
use Rattle.xlator_law.specs.declared.winds.Settled.{Settled}
use Rattle.xlator_law.specs.declared.winds.Settled.TheVariants.{Won, Lost}
use Rattle.frame_stack.specs.declared.frame.Frame.{Frame}
use Rattle.frame_stack.specs.declared.frame.Opener.{Opener}
use Rattle.frame_stack.specs.Cells.{cell_at, put_at, taken}

-- a wind, the call of the frame that opened it, and whether it was opened or resumed
abbrev pub Line : Type 0
Line = WindNo × ℕ × Bool

pub record Stack (L : Type 0) : Type 0 where
  pub frames : List (Option (Frame L))
  pub openers : List (Option Opener)
  pub words : List ℕ
  pub opened : ℕ
  pub lines : List Line

abbrev pub word_of : List ℕ → ℕ → ℕ
word_of words slot = slice_index_or words slot 0

abbrev pub pending : WindNo → ℕ
pending w = w.turn * 4 + 1

abbrev pub replied : WindNo → ℕ
replied w = w.turn * 4 + 2

abbrev pub next_free : WindNo → ℕ
next_free w = w.turn * 4 + 4

abbrev pub is_in : ℕ → ℕ → Option Opener → Bool
is_in key slot None = false
is_in key slot (Some o) = (o.frame == key) && (o.slot == slot)

abbrev pub parent_of : Option Opener → Option Parent
parent_of None = None
parent_of (Some o) = Some (record { frame = o.frame; slot = o.slot })

abbrev pub call_of : Option Opener → ℕ
call_of None = 0
call_of (Some o) = o.call

module _ {L : Type 0} where
  abbrev pub empty_stack : Stack L
  empty_stack = record { frames = []; openers = []; words = []; opened = 0; lines = [] }

  abbrev pub frame : ℕ → ℕ → ℕ → Option WindNo → L → Frame L
  frame graph call node parent local = record { place = record { graph = graph; call = call; node = node; parent = parent }; local = Some local }

  -- a frame whose local is still to come
  abbrev pub begun : ℕ → ℕ → ℕ → Option WindNo → Frame L
  begun graph call node parent = record { place = record { graph = graph; call = call; node = node; parent = parent }; local = None }

  abbrev pub frame_at : Stack L → ℕ → Option (Frame L)
  frame_at s key = cell_at s.frames key

  abbrev pub word_at : Stack L → ℕ → ℕ
  word_at s slot = word_of s.words slot

  abbrev pub place_in : Option (Frame L) → Option Place
  place_in None = None
  place_in (Some f) = Some f.place

  abbrev pub place_at : Stack L → ℕ → Option Place
  place_at s key = place_in (frame_at s key)

  abbrev pub local_in : Option (Frame L) → Option L
  local_in None = None
  local_in (Some f) = f.local

  abbrev pub local_at : Stack L → ℕ → Option L
  local_at s key = local_in (frame_at s key)

  abbrev pub keeping : Stack L → ℕ → Option L → Option (Frame L) → Stack L
  keeping s key local None = s
  keeping s key local (Some f) = record s { frames = slice_set s.frames key (Some (record f { local = local })) }

  -- the stack where that frame, if it is open, keeps this local, or none
  abbrev pub with_local : Stack L → ℕ → Option L → Stack L
  with_local s key local = keeping s key local (frame_at s key)

  abbrev pub without_frame : Stack L → ℕ → Stack L
  without_frame s key = record s { frames = slice_set s.frames key None }

  -- whether the frame has an open wind in that slot of its own
  abbrev pub awaits : Stack L → ℕ → ℕ → Bool
  awaits s key slot = list_any (is_in key slot) s.openers

  abbrev pub HasNoWind : Stack L → ℕ → Type 0
  HasNoWind s key = (slot : ℕ) → awaits s key slot ≡ false

  -- that slot of that frame awaits from here on, and every other as before
  abbrev pub AwaitsMore : Stack L → Stack L → ℕ → ℕ → Type 0
  AwaitsMore old new key slot = (k n : ℕ) → awaits new k n ≡ (awaits old k n || ((key == k) && (slot == n)))

  -- that slot of that frame, if there is one, awaits no longer, and every other as before
  abbrev pub AwaitsLess : Stack L → Stack L → Option Parent → Type 0
  AwaitsLess old new None = (k n : ℕ) → awaits new k n ≡ awaits old k n
  AwaitsLess old new (Some p) = (k n : ℕ) → awaits new k n ≡ (awaits old k n && not ((p.frame == k) && (p.slot == n)))

  -- who opened the wind, None where it was not opened or was resumed
  abbrev pub opener_of : Stack L → WindNo → Option Opener
  opener_of s w = cond ((word_at s w.slot == pending w) || (word_at s w.slot == replied w)) (cell_at s.openers w.slot) None

  -- The wind that opens a frame in this graph and of this call, if there is one, is open itself, in this
  -- graph and of this call.
  abbrev pub HasParent : Stack L → ℕ → ℕ → Option WindNo → Type 0
  HasParent s graph call parent = IfSome parent (λ w. IsSomeAnd (opener_of s w) (λ o. (o.graph ≡ graph) × (o.call ≡ call)))

  abbrev pub opener_in : ℕ → ℕ → ℕ → Option (Frame L) → Opener
  opener_in key slot number None = record { frame = key; slot = slot; graph = 0; call = 0; number = number }
  opener_in key slot number (Some f) = record { frame = key; slot = slot; graph = f.place.graph; call = f.place.call; number = number }

  -- an open frame as the opener of the next wind, in that slot
  abbrev pub opener_at : Stack L → ℕ → ℕ → Opener
  opener_at s key slot = opener_in key slot s.opened (frame_at s key)

  abbrev pub wound : Stack L → WindNo → Opener → Stack L
  wound s w o = record s { openers = put_at s.openers w.slot (Some o); words = put_at s.words w.slot (pending w); opened = s.opened + 1; lines = s.lines ++ (w, o.call, true) ∷ [] }

  -- The frame opens this wind in this slot of its own: a free slot of the stack at its turn, which is
  -- pending from then on. A slot that was never used comes only where all others are taken.
  pub record IsWound (old new : Stack L) (key slot : ℕ) (w : WindNo) : Type 0 where
    pub below : w.slot < 2147483648
    pub within : w.slot ≤ length old.openers
    pub vacant : cell_at old.openers w.slot ≡ None
    pub full : w.slot ≡ length old.openers → taken old.openers ≡ length old.openers
    pub free : word_at old w.slot ≡ w.turn * 4
    pub made : new ≡ wound old w (opener_at old key slot)

  abbrev pub settled_as : Stack L → WindNo → Settled
  settled_as s w = cond (word_at s w.slot == pending w) Won (Lost (word_at s w.slot))

  abbrev pub after_settle : Stack L → WindNo → Stack L
  after_settle s w = cond (word_at s w.slot == pending w) (record s { words = slice_set s.words w.slot (replied w) }) s

  abbrev pub resumed_as : Stack L → WindNo → Option Parent
  resumed_as s w = cond (word_at s w.slot == replied w) (parent_of (cell_at s.openers w.slot)) None

  abbrev pub resumed : Stack L → WindNo → Option Opener → Stack L
  resumed s w o = record s { openers = slice_set s.openers w.slot None; words = slice_set s.words w.slot (next_free w); lines = s.lines ++ (w, call_of o, false) ∷ [] }

  abbrev pub after_resume : Stack L → WindNo → Stack L
  after_resume s w = cond (word_at s w.slot == replied w) (resumed s w (cell_at s.openers w.slot)) s
