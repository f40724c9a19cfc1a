-- Each request is answered once: at once where it is no lock, and else when its lock is granted or dropped; until then
-- it waits.
use Rattle.std.specs.Prelude.{◌≡◌, ℕ, ◌+◌, ◌≤◌, ◌==◌, Bool, true, false, List, [], ◌∷◌, length, take, Option, Some, None, if◌then◌else◌}
use Rattle.fop_types.specs.declared.messages.BrickReq.{BrickReq}
use Rattle.fop_types.specs.declared.messages.BrickReq.TheVariants.{Lock, Unlock, Mark, Op, Post, Fetch, Replace, Clear, Settle, Index, Open, Release}
use Rattle.fop_types.specs.declared.messages.Input.{Input}
use Rattle.fop_types.specs.declared.messages.Input.TheVariants.{Request, Down, Up, Connect, Disconnect, FaultAt}
use Rattle.fop_types.specs.declared.messages.OutKind.{OutKind}
use Rattle.fop_types.specs.declared.messages.OutKind.TheVariants.{Reply, Closed, Opened, Connected, Malformed}
use Rattle.fop_types.specs.declared.messages.Output.{Output}
use Rattle.wire_messages.specs.Messages.{input_in}
use Rattle.wire_messages.specs.declared.messages.Message.{Message}
use Rattle.wire_messages.specs.declared.messages.Message.TheVariants.{Whole, Wrong}
use Rattle.brick_machine.specs.Waiting.{Waiting}
use Rattle.brick_machine.specs.Waits.{IsOrderly}
use Rattle.brick_machine.specs.Serving.{request_served}
use Rattle.brick_machine.specs.Machine.{state_of, outputs_of}
use Rattle.brick_machine.specs.Laws.{outputs_up_to}
use Rattle.brick_machine.specs.declared.state.State.{State}

-- the wind of a request, and that of a reply
abbrev pub asked_by : Message Input → Option ℕ
asked_by (Whole (Request wind graph r)) = Some wind
asked_by (Whole (Down serve)) = None
asked_by (Whole Up) = None
asked_by (Whole (Connect graph version)) = None
asked_by (Whole (Disconnect graph)) = None
asked_by (Whole (FaultAt p number)) = None
asked_by (Wrong place) = None

abbrev pub answered_to : OutKind → Option ℕ
answered_to (Reply wind rep) = Some wind
answered_to Closed = None
answered_to Opened = None
answered_to (Connected graph version) = None
answered_to (Malformed place) = None

-- ---- how often

-- sums over inputs, outputs and waiters of a weight that goes by their wind, where they have one
abbrev pub sum_of_inputs : (Option ℕ → ℕ) → List (List ℕ) → ℕ
sum_of_inputs weight [] = 0
sum_of_inputs weight (bytes ∷ inputs) = weight (asked_by (input_in bytes)) + sum_of_inputs weight inputs

abbrev pub sum_of_outputs : (Option ℕ → ℕ) → List Output → ℕ
sum_of_outputs weight [] = 0
sum_of_outputs weight (o ∷ os) = weight (answered_to o.kind) + sum_of_outputs weight os

abbrev pub sum_of_waiters : (Option ℕ → ℕ) → Waiting → ℕ
sum_of_waiters weight [] = 0
sum_of_waiters weight (e ∷ es) = weight (Some e.1.wind) + sum_of_waiters weight es

abbrev pub is_on : ℕ → Option ℕ → ℕ
is_on wind None = 0
is_on wind (Some other) = if wind == other then 1 else 0

-- how often a wind was asked by, was answered, and waits
abbrev pub times_asked : ℕ → List (List ℕ) → ℕ
times_asked wind inputs = sum_of_inputs (is_on wind) inputs

abbrev pub times_answered : ℕ → List Output → ℕ
times_answered wind outputs = sum_of_outputs (is_on wind) outputs

abbrev pub times_waiting : ℕ → Waiting → ℕ
times_waiting wind waiters = sum_of_waiters (is_on wind) waiters

-- ---- the laws

-- Whatever n: each of the requests among the first n inputs was answered by an output with n inputs up to it at most,
-- or is a lock that waits after these inputs; and no other wind was answered or waits.
abbrev pub EachAnsweredOnce : Type 0
EachAnsweredOnce =
    (journal : List (List ℕ)) (n wind : ℕ)
    → times_answered wind (outputs_up_to n (outputs_of journal)) + times_waiting wind (state_of (take n journal)).waiters ≡ times_asked wind (take n journal)

-- The waiters are those of the requests that wait, one each, with their cells.
abbrev pub EachWaitsOnce : Type 0
EachWaitsOnce = (journal : List (List ℕ)) → IsOrderly (state_of journal)

-- A wind that was not asked by among the first n inputs is not answered by an output with n inputs up to it at most. So
-- a request, a lock too, is answered only after every earlier one of its line was served or given up.
abbrev pub AnsweredInTurn : Type 0
AnsweredInTurn =
    (journal : List (List ℕ)) (n wind : ℕ) → times_asked wind (take n journal) ≡ 0 → times_answered wind (outputs_up_to n (outputs_of journal)) ≡ 0

-- there are no more outputs than inputs, those that still come for locks that wait included
abbrev pub OutputsAreFew : Type 0
OutputsAreFew = (journal : List (List ℕ)) → length (outputs_of journal) + length (state_of journal).waiters ≤ length journal

abbrev pub is_lock : BrickReq → Bool
is_lock (Lock call shared those) = true
is_lock (Unlock call) = false
is_lock (Mark change those) = false
is_lock (Op change fd op) = false
is_lock (Post change those mask) = false
is_lock (Fetch fd cell) = false
is_lock (Replace cell last content) = false
is_lock (Clear those mask) = false
is_lock (Settle those mask) = false
is_lock Index = false
is_lock (Open fd gfid) = false
is_lock (Release fd) = false

abbrev pub BeginsOn : ℕ → List OutKind → Type 0
BeginsOn wind [] = ⊥
BeginsOn wind (kind ∷ kinds) = answered_to kind ≡ Some wind

-- in every state, what a request that is no lock puts out begins with its reply
abbrev pub AnsweredAtOnce : Type 0
AnsweredAtOnce = (s : State) (wind graph : ℕ) (r : BrickReq) → is_lock r ≡ false → BeginsOn wind (request_served s wind graph r).outs
