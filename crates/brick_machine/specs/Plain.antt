-- Fetches, marks, ops and posts on one connection, on which no descriptor was opened: what each is answered, and what
-- becomes of the cells. Nothing else of the brick counts, as long as it is up and no request is to fail.
use Rattle.std.specs.Prelude.{◌≡◌, ℕ, ◌+◌, ◌==◌, true, List, [], ◌∷◌, map, Some, None, is_some, if◌then◌else◌}
use Rattle.fop_types.specs.Bounds.{Each}
use Rattle.fop_types.specs.declared.cells.Cell.{Cell}
use Rattle.fop_types.specs.declared.contents.Mask.{Mask}
use Rattle.fop_types.specs.declared.messages.BrickRep.{BrickRep}
use Rattle.fop_types.specs.declared.messages.BrickRep.TheVariants.{BadFd}
use Rattle.fop_types.specs.declared.messages.BrickReq.{BrickReq}
use Rattle.fop_types.specs.declared.messages.BrickReq.TheVariants as req
use Rattle.fop_types.specs.declared.messages.Input.{Input}
use Rattle.fop_types.specs.declared.messages.Input.TheVariants.{Request, Connect}
use Rattle.fop_types.specs.declared.messages.OutKind.TheVariants.{Reply, Connected}
use Rattle.fop_types.specs.declared.messages.Output.{Output}
use Rattle.fop_types.specs.declared.store_ops.StoreOp.{StoreOp}
use Rattle.wire_xdr.specs.WireText.{input_text, IsInput}
use Rattle.cell_store.specs.Cells.{Cells, kept_at, copy_of, marked, posted, applied, root_alone}
use Rattle.brick_machine.specs.Connections.{fds_of}
use Rattle.brick_machine.specs.Serving.{after_op, fetched, change_answer, request_served}
use Rattle.brick_machine.specs.Machine.{state_of, outputs_of}
use Rattle.brick_machine.specs.declared.state.State.{State}

pub data Plain : Type 0 where
  Fetch : (fd : ℕ) → (cell : Cell) → Plain
  Mark : (change : ℕ) → (cells : List Cell) → Plain
  Op : (change : ℕ) → (fd : ℕ) → (op : StoreOp) → Plain
  Post : (change : ℕ) → (cells : List Cell) → (mask : Mask) → Plain

abbrev pub request_of : Plain → BrickReq
request_of (Fetch fd cell) = req.Fetch fd cell
request_of (Mark change cells) = req.Mark change cells
request_of (Op change fd op) = req.Op change fd op
request_of (Post change cells mask) = req.Post change cells mask

-- the answer, and the cells after it; a request that names a descriptor is BadFd and changes nothing
abbrev pub plain_answer : Cells → Plain → BrickRep
plain_answer cells (Fetch fd cell) = if fd == 0 then fetched (copy_of (kept_at cells cell)) else BadFd
plain_answer cells (Mark change those) = change_answer true
plain_answer cells (Op change fd op) = if fd == 0 then change_answer (is_some (applied cells change op)) else BadFd
plain_answer cells (Post change those mask) = change_answer true

abbrev pub after_plain : Cells → Plain → Cells
after_plain cells (Fetch fd cell) = cells
after_plain cells (Mark change those) = marked those cells
after_plain cells (Op change fd op) = if fd == 0 then after_op cells (applied cells change op) else cells
after_plain cells (Post change those mask) = posted those mask cells

-- ---- one request in a calm state

-- a graph is connected without descriptors, the brick is up, no request is to fail, and these are the cells
pub record IsCalm (graph : ℕ) (cells : Cells) (s : State) : Type 0 where
  pub up : s.down ≡ None
  pub there : fds_of s.graphs graph ≡ Some []
  pub trusted : s.faults.failing ≡ []
  pub cells_are : s.store.cells ≡ cells

pub record IsServedPlainly (graph wind : ℕ) (cells : Cells) (p : Plain) (s : State) : Type 0 where
  pub outs : (request_served s wind graph (request_of p)).outs ≡ Reply wind (plain_answer cells p) ∷ []
  pub calm : IsCalm graph (after_plain cells p) (request_served s wind graph (request_of p)).state

abbrev pub CalmStatesAnswerPlainly : Type 0
CalmStatesAnswerPlainly = (graph wind : ℕ) (cells : Cells) (p : Plain) (s : State) → IsCalm graph cells s → IsServedPlainly graph wind cells p s

-- ---- runs

-- a wind with its request
pub record PlainAsked : Type 0 where
  pub wind : ℕ
  pub request : Plain

abbrev pub input_by : ℕ → PlainAsked → Input
input_by graph asked = Request asked.wind graph (request_of asked.request)

-- one reply for each request, in order, on its wind and with its number, and the cells after them
abbrev pub replies_from : ℕ → Cells → List PlainAsked → List Output
replies_from before cells [] = []
replies_from before cells (a ∷ others) =
    record { taken = before + 1; kind = Reply a.wind (plain_answer cells a.request) } ∷ replies_from (before + 1) (after_plain cells a.request) others

abbrev pub cells_through : Cells → List PlainAsked → Cells
cells_through cells [] = cells
cells_through cells (a ∷ others) = cells_through (after_plain cells a.request) others

abbrev pub plain_journal : ℕ → ℕ → List PlainAsked → List (List ℕ)
plain_journal graph version asked = input_text (Connect graph version) ∷ map (λ a. input_text (input_by graph a)) asked

pub record IsPlainRun (graph version : ℕ) (asked : List PlainAsked) : Type 0 where
  pub outputs : outputs_of (plain_journal graph version asked) ≡ record { taken = 1; kind = Connected graph version } ∷ replies_from 1 root_alone asked
  pub calm : IsCalm graph (cells_through root_alone asked) (state_of (plain_journal graph version asked))

-- a journal that begins with a Connect and goes on with fetches, marks, ops and posts of that graph
abbrev pub PlainRunsAreAnswered : Type 0
PlainRunsAreAnswered =
    (graph version : ℕ) (asked : List PlainAsked) → IsInput (Connect graph version) → Each (λ a. IsInput (input_by graph a)) asked
    → IsPlainRun graph version asked
