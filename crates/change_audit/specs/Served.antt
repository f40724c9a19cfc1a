-- An op or a post that a brick has answered Done by what arrived, by the count of its inputs up to the request and the place of
-- the event. A request's text is what its bytes are behind the number of its wind: its graph, and what is asked.
use Rattle.std.specs.Prelude.{◌≡◌, ℕ, ◌+◌, ◌<◌, true, List, ◌++◌, Option, None, Some, slice_get, is_some, MatchOption}
use Rattle.std.specs.BTreeMap.{is_at}
use Rattle.std.specs.Map.{lookup}
use Rattle.std.specs.Ordering.{nat_cmp}
use Rattle.fop_types.specs.declared.cells.Cell.{Cell}
use Rattle.fop_types.specs.declared.contents.Mask.{Mask}
use Rattle.fop_types.specs.declared.messages.BrickRep.TheVariants.{Done}
use Rattle.fop_types.specs.declared.messages.BrickReq.{BrickReq}
use Rattle.fop_types.specs.declared.messages.BrickReq.TheVariants.{Op, Post}
use Rattle.fop_types.specs.declared.messages.DoneArm.TheVariants.{Nothing}
use Rattle.fop_types.specs.declared.messages.Input.{Input}
use Rattle.fop_types.specs.declared.messages.Input.TheVariants.{Request}
use Rattle.fop_types.specs.declared.messages.OutKind.{OutKind}
use Rattle.fop_types.specs.declared.messages.OutKind.TheVariants.{Reply}
use Rattle.fop_types.specs.declared.messages.Output.{Output}
use Rattle.fop_types.specs.declared.store_ops.StoreOp.{StoreOp}
use Rattle.wire_xdr.specs.MessageText.{req_text}
use Rattle.fop_types.specs.Bounds.{IsHyper}
use Rattle.wire_xdr.specs.WireText.{input_text, output_text, IsInput}
use Rattle.wire_xdr.specs.Xdr.{unit}
use Rattle.brick_machine.specs.Journal.{Journal}
use Rattle.mount_log.specs.declared.logs.HubEvent.TheVariants.{Arrive}
use Rattle.mount_log.specs.declared.logs.Log.{Log}
use Rattle.mount_log.specs.declared.logs.WindLine.{WindLine}
use Rattle.xlator_law.specs.Numbers.{wind_number}
use Rattle.change_audit.specs.Answered.{IsDoneIn, IsWindFor, IsOpenedSince}
use Rattle.change_audit.specs.declared.answers.Served.{Served}
use Rattle.change_audit.specs.declared.finding.Opening.{Opening}

-- the Done of a wind, which answers the input of this count, from 1
abbrev pub done_text : ℕ → ℕ → List ℕ
done_text taken wind = output_text (record { taken = taken; kind = Reply wind (Done Nothing) })

-- the wind that an output answers, if it is a reply
abbrev pub wind_answered : OutKind → Option ℕ
wind_answered (Reply wind rep) = Some wind
wind_answered other = None

-- the output is the Done of a wind, which answers the input of this count
pub record IsDoneOf (taken wind : ℕ) (x : Output) : Type 0 where
  pub taken_is : x.taken ≡ taken
  pub kind_is : x.kind ≡ Reply wind (Done Nothing)

-- the Done of a wind arrived from a brick, where and for which input this says
abbrev pub IsAnswered : Log → ℕ → Served → ℕ → Type 0
IsAnswered log brick at wind = slice_get log.events at.event ≡ Some (Arrive brick (done_text at.taken wind))

-- the bytes are a request on this wind
pub record IsOnWind (wind : ℕ) (bytes : List ℕ) : Type 0 where
  pub graph : ℕ
  pub req : BrickReq
  pub is : bytes ≡ input_text (Request wind graph req)

-- the input is a request on this wind
pub record IsRequestOn (wind : ℕ) (x : Input) : Type 0 where
  pub graph : ℕ
  pub req : BrickReq
  pub is : x ≡ Request wind graph req

-- the text of a request
abbrev pub text_of : ℕ → BrickReq → List ℕ
text_of graph req = unit graph ++ req_text req

-- the request is the op of a change
pub record IsOpOf (change : ℕ) (o : StoreOp) (req : BrickReq) : Type 0 where
  pub fd : ℕ
  pub is : req ≡ Op change fd o

-- the input is the op of a change in a graph
pub record IsOpIn (graph change : ℕ) (o : StoreOp) (x : Input) : Type 0 where
  pub wind : ℕ
  pub fd : ℕ
  pub is : x ≡ Request wind graph (Op change fd o)

-- the text is that of the op of a change in a graph
pub record IsOpText (graph change : ℕ) (o : StoreOp) (text : List ℕ) : Type 0 where
  pub fd : ℕ
  pub is : text ≡ text_of graph (Op change fd o)

-- the request is the post of a change
pub record IsPostOf (change : ℕ) (req : BrickReq) : Type 0 where
  pub cells : List Cell
  pub mask : Mask
  pub is : req ≡ Post change cells mask

-- the input is the post of a change in a graph, on this wind
pub record IsPostIn (wind graph change : ℕ) (x : Input) : Type 0 where
  pub cells : List Cell
  pub mask : Mask
  pub is : x ≡ Request wind graph (Post change cells mask)

-- the bytes are the post of a change in a graph, on this wind
pub record IsPostOn (wind graph change : ℕ) (bytes : List ℕ) : Type 0 where
  pub cells : List Cell
  pub mask : Mask
  pub is : bytes ≡ input_text (Request wind graph (Post change cells mask))

-- the request of this text on this wind
abbrev pub HasText : ℕ → List ℕ → List ℕ → Type 0
HasText wind text bytes = (graph : ℕ) (req : BrickReq) → text ≡ text_of graph req → bytes ≡ input_text (Request wind graph req)

-- the line opens the wind of this number for the call
pub record IsOpeningFor (call wind : ℕ) (line : WindLine) : Type 0 where
  pub opened : line.opened ≡ true
  pub call_is : line.call ≡ call
  pub number_is : wind_number line.wind ≡ wind

-- so does the line at this place
abbrev pub IsOpeningAt : List WindLine → ℕ → ℕ → ℕ → Type 0
IsOpeningAt winds place call wind = MatchOption (slice_get winds place) ⊥ (IsOpeningFor call wind)

-- so does the line at this place, in the event of this number
abbrev pub IsOpeningIn : List WindLine → ℕ → ℕ → ℕ → ℕ → Type 0
IsOpeningIn winds place call wind number = MatchOption (slice_get winds place) ⊥ (λ line. IsOpeningFor call wind line × (line.event ≡ number))

-- so does the line at this place, in the event at the other place, from 0, or behind it
abbrev pub IsOpeningSince : List WindLine → ℕ → ℕ → ℕ → ℕ → Type 0
IsOpeningSince winds place call wind event = MatchOption (slice_get winds place) ⊥ (λ line. IsOpeningFor call wind line × (event < line.event))

-- the opening of a wind in a table of openings
abbrev pub opening_of : List (ℕ × Opening) → ℕ → Option Opening
opening_of table wind = lookup (is_at (nat_cmp wind)) table

-- the table has an opening of each wind that was opened, and no other
pub record AreOpenings (winds : List WindLine) (table : List (ℕ × Opening)) : Type 0 where
  pub each : (wind : ℕ) (o : Opening) → opening_of table wind ≡ Some o → IsOpeningAt winds o.place o.call wind
  pub all : (k : ℕ) (line : WindLine) → slice_get winds k ≡ Some line → line.opened ≡ true → is_some (opening_of table (wind_number line.wind)) ≡ true

-- a brick has answered Done, where this says, to the request of a graph, which was sent for a wind of the call
pub record IsServedAs (log : Log) (bricks : List Journal) (brick : ℕ) (at : Served) (call graph : ℕ) (req : BrickReq) : Type 0 where
  pub wind : ℕ
  pub done : IsDoneIn log bricks brick wind graph at.event req Nothing
  pub counted : at.taken ≡ done.place + 1
  pub of_call : IsWindFor log.winds call wind

-- so to the request of this text
abbrev pub IsServed : Log → List Journal → ℕ → Served → ℕ → List ℕ → Type 0
IsServed log bricks brick at call text = (graph : ℕ) (req : BrickReq) → text ≡ text_of graph req → IsServedAs log bricks brick at call graph req

-- a brick has answered Done, where this says, to the post of a change in a graph, which was sent for a wind of the call since an
-- event at this place
pub record IsPosted (log : Log) (bricks : List Journal) (brick : ℕ) (at : Served) (call graph change since : ℕ) : Type 0 where
  pub cells : List Cell
  pub mask : Mask
  pub wind : ℕ
  pub done : IsDoneIn log bricks brick wind graph at.event (Post change cells mask) Nothing
  pub counted : at.taken ≡ done.place + 1
  pub of_call : IsOpenedSince log.winds call wind since

-- so where this says that its wind was opened, and the request has an encoding
pub record IsServedThere (log : Log) (bricks : List Journal) (brick : ℕ) (at : Served) (call graph : ℕ) (req : BrickReq) : Type 0 where
  pub served : IsServedAs log bricks brick at call graph req
  pub legal : IsInput (Request served.wind graph req)
  pub counted : IsHyper at.taken
  pub opened : IsOpeningAt log.winds at.opening call served.wind

-- so for a post
pub record IsPostedThere (log : Log) (bricks : List Journal) (brick : ℕ) (at : Served) (call graph change since : ℕ) : Type 0 where
  pub posted : IsPosted log bricks brick at call graph change since
  pub legal : IsInput (Request posted.wind graph (Post change posted.cells posted.mask))
  pub counted : IsHyper at.taken
  pub opened : IsOpeningSince log.winds at.opening call posted.wind since
