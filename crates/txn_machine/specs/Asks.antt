-- A request of a transaction as the machine has it: without the call and the descriptor, with replicas in place of the mask.
-- A settle names its change there. Replacements and clears are requests of copies, which no transaction sends itself.
use Rattle.std.specs.Prelude.{ℕ, List, Option, Some, None}
use Rattle.fop_types.specs.declared.cells.Cell.{Cell}
use Rattle.fop_types.specs.declared.contents.Mask.{Mask}
use Rattle.fop_types.specs.declared.messages.BrickReq.{BrickReq}
use Rattle.fop_types.specs.declared.messages.BrickReq.TheVariants as req
use Rattle.afr_machine.specs.Requests.{Ask}
use Rattle.afr_machine.specs.Sending.{MayAsk}
use Rattle.afr_machine.specs.States.{State}
use Rattle.afr_machine.specs.Replicas.{Size}
use Rattle.afr_phases.specs.Flags.{names}

abbrev pub settle_of : Option ℕ → List Cell → Mask → Option Ask
settle_of None cells mask = None
settle_of (Some change) cells mask = Some (Ask.Settle change cells (names mask))

-- the request, of a lock phase that settles this change where it settles one
abbrev pub ask_of : Option ℕ → BrickReq → Option Ask
ask_of settles (req.Lock call is_shared cells) = Some (Ask.Lock is_shared cells)
ask_of settles (req.Unlock call) = Some Ask.Unlock
ask_of settles (req.Mark change cells) = Some (Ask.Mark change cells)
ask_of settles (req.Op change fd op) = Some (Ask.Op change op)
ask_of settles (req.Post change cells mask) = Some (Ask.Post change cells (names mask))
ask_of settles (req.Fetch fd cell) = Some (Ask.Fetch cell)
ask_of settles (req.Replace cell last content) = None
ask_of settles (req.Clear cells mask) = None
ask_of settles (req.Settle cells mask) = settle_of settles cells mask
ask_of settles req.Index = Some Ask.Index
ask_of settles (req.Open fd gfid) = Some Ask.Open
ask_of settles (req.Release fd) = Some Ask.Release

-- it is a request of a transaction, and its guard allows it
abbrev pub MayBeAsked : Size → State → ℕ → ℕ → Option Ask → Type 0
MayBeAsked size m t k None = ⊥
MayBeAsked size m t k (Some ask) = MayAsk size m t k ask
