-- The texts of requests, and requests that were answered.
use Rattle.std.proofs.Common.{◌≡◌, refl, sym, ap, subst, ◌∙◌, append_assoc, length-append, arith}
use Rattle.std.specs.Prelude.{ℕ, ◌<◌, ◌≤◌, ◌+◌, true, List, ◌++◌, Some, length, drop, slice_get}
use Rattle.fop_types.specs.declared.flat.FlatOp.{FlatOp}
use Rattle.fop_types.specs.declared.messages.BrickRep.TheVariants.{Done}
use Rattle.fop_types.specs.declared.messages.BrickReq.{BrickReq}
use Rattle.fop_types.specs.declared.messages.BrickReq.TheVariants.{Op}
use Rattle.fop_types.specs.declared.messages.DoneArm.TheVariants.{Nothing}
use Rattle.fop_types.specs.declared.messages.Input.{Input}
use Rattle.fop_types.specs.declared.messages.Input.TheVariants.{Request}
use Rattle.fop_types.specs.declared.messages.OutKind.{OutKind}
use Rattle.fop_types.specs.declared.messages.OutKind.TheVariants.{Reply}
use Rattle.fop_types.specs.declared.messages.Output.{Output}
use Rattle.fop_types.specs.declared.store_ops.StoreOp.{StoreOp}
use Rattle.wire_xdr.specs.Xdr.{unit, hyper}
use Rattle.fop_types.specs.Bounds.{IsHyper}
use Rattle.wire_xdr.specs.WireText.{input_text, output_text, IsOutput, IsOutKind}
use Rattle.wire_xdr.proofs.QuadLaws.{unit_size}
use Rattle.brick_machine.specs.Journal.{Journal}
use Rattle.mount_log.specs.declared.logs.HubEvent.TheVariants.{Arrive}
use Rattle.mount_log.specs.declared.logs.Log.{Log}
use Rattle.mount_log.specs.declared.logs.WindLine.{WindLine}
use Rattle.change_audit.specs.Answered.{IsWindFor, IsOpenedIn, IsOpenedSince}
use Rattle.change_audit.specs.Journals.{IsInputOf}
use Rattle.change_audit.specs.Bearing.{IsMaking, IsMakingIn}
use Rattle.change_audit.specs.Served.{done_text, IsDoneOf, IsAnswered, IsRequestOn, IsOnWind, IsOpIn, IsOpText, IsPostIn, IsPostOn, IsPosted, HasText, IsServed, text_of}
use Rattle.change_audit.specs.declared.answers.Served.{Served}
use Rattle.change_audit.proofs.Items.{drop_front}

-- ---- texts of requests

front_size : (wind : ℕ) → length (unit 0 ++ hyper wind) ≡ 12
front_size wind = simp (length-append, unit_size) refl

pub text_behind : (wind graph : ℕ) (req : BrickReq) → drop 12 (input_text (Request wind graph req)) ≡ text_of graph req
text_behind wind graph req =
    ap (drop 12) (sym (append_assoc (unit 0) (hyper wind) (text_of graph req))) ∙ drop_front (unit 0 ++ hyper wind) (text_of graph req) 12 (front_size wind)

pub text_long : (wind graph : ℕ) (req : BrickReq) → 12 ≤ length (input_text (Request wind graph req))
text_long wind graph req =
    let whole : length (input_text (Request wind graph req)) ≡ length ((unit 0 ++ hyper wind) ++ text_of graph req) = ap length (sym (append_assoc (unit 0) (hyper wind) (text_of graph req))) in
    let sum = length-append (unit 0 ++ hyper wind) (text_of graph req) in let front = front_size wind in
    omega (arith, whole, sum, front)

pub has_text : (wind : ℕ) (text bytes : List ℕ) → drop 12 bytes ≡ text → IsOnWind wind bytes → HasText wind text bytes
has_text wind text bytes same on graph req is =
    let behind : text_of on.graph on.req ≡ text_of graph req = sym (text_behind wind on.graph on.req) ∙ sym (ap (drop 12) on.is) ∙ same ∙ is in
    on.is ∙ ap (λ (t : List ℕ). unit 0 ++ (hyper wind ++ t)) behind

pub on_wind : (wind : ℕ) (x : Input) (bytes : List ℕ) → bytes ≡ input_text x → IsRequestOn wind x → IsOnWind wind bytes
on_wind wind x bytes is on = record { graph = on.graph; req = on.req; is = is ∙ ap input_text on.is }

op_text : (graph change : ℕ) (o : StoreOp) (x : Input) (bytes : List ℕ) → bytes ≡ input_text x → IsOpIn graph change o x → IsOpText graph change o (drop 12 bytes)
op_text graph change o x bytes is op = record { fd = op.fd; is = ap (drop 12) (is ∙ ap input_text op.is) ∙ text_behind op.wind graph (Op change op.fd o) }

pub making : (graph change : ℕ) (operation : FlatOp) (x : Input) (bytes : List ℕ) → bytes ≡ input_text x → IsMakingIn graph change operation x → IsMaking graph change operation (drop 12 bytes)
making graph change operation x bytes is made = record { op = made.op; op_is = made.op_is; has_text = op_text graph change made.op x bytes is made.asked }

pub post_text : (wind graph change : ℕ) (x : Input) (bytes : List ℕ) → bytes ≡ input_text x → IsPostIn wind graph change x → IsPostOn wind graph change bytes
post_text wind graph change x bytes is post = record { cells = post.cells; mask = post.mask; is = is ∙ ap input_text post.is }

-- ---- what arrived

pub done_said : (output : Output) (bytes : List ℕ) (taken wind : ℕ) → bytes ≡ output_text output → IsDoneOf taken wind output → bytes ≡ done_text taken wind
done_said output bytes taken wind text done =
    text ∙ ap (λ (n : ℕ). output_text (record output { taken = n })) done.taken_is ∙ ap (λ (k : OutKind). output_text (record { taken = taken; kind = k })) done.kind_is

pub done_hypers : (output : Output) (taken wind : ℕ) → IsOutput output → IsDoneOf taken wind output → IsHyper taken × IsHyper wind
done_hypers output taken wind legal done = (
  subst IsHyper done.taken_is legal.0,
  let kind : IsOutKind true (Reply wind (Done Nothing)) = subst (IsOutKind true) done.kind_is legal.1 in kind.0,
)

pub answered_there : (log : Log) (brick : ℕ) (at : Served) (wind : ℕ) (bytes : List ℕ) → slice_get log.events at.event ≡ Some (Arrive brick bytes) → bytes ≡ done_text at.taken wind → IsAnswered log brick at wind
answered_there log brick at wind bytes there text = there ∙ ap (λ (b : List ℕ). Some (Arrive brick b)) text

-- ---- winds

pub opened_since : (winds : List WindLine) (call wind event number : ℕ) → IsOpenedIn winds call wind number → event < number → IsOpenedSince winds call wind event
opened_since winds call wind event number opened lt = record { number = number; opened = opened; since = lt }

-- ---- requests that were answered

module _ (log : Log) (bricks : List Journal) (brick : ℕ) (at : Served) where
  -- what arrived, by the place of the input that it answers
  arrived_for : (wind place : ℕ) → IsAnswered log brick at wind → at.taken ≡ place + 1 → slice_get log.events at.event ≡ Some (Arrive brick (done_text (place + 1) wind))
  arrived_for wind place put counted = put ∙ ap (λ (n : ℕ). Some (Arrive brick (done_text n wind))) counted

  pub served : (call wind : ℕ) (bytes text : List ℕ) → IsInputOf bricks brick at.taken bytes → HasText wind text bytes → IsWindFor log.winds call wind → IsAnswered log brick at wind → IsServed log bricks brick at call text
  served call wind bytes text sent has opened put graph req is = record {
    wind = wind;
    done = record { at = sent.at; there = sent.there; place = sent.place; request = sent.input ∙ ap Some (has graph req is); arrived = arrived_for wind sent.place put sent.counted };
    counted = sent.counted;
    of_call = opened;
  }

  pub posted : (call graph change since wind : ℕ) (bytes : List ℕ) → IsInputOf bricks brick at.taken bytes → IsPostOn wind graph change bytes → IsOpenedSince log.winds call wind since → IsAnswered log brick at wind
      → IsPosted log bricks brick at call graph change since
  posted call graph change since wind bytes sent post opened put = record {
    cells = post.cells;
    mask = post.mask;
    wind = wind;
    done = record { at = sent.at; there = sent.there; place = sent.place; request = sent.input ∙ ap Some post.is; arrived = arrived_for wind sent.place put sent.counted };
    counted = sent.counted;
    of_call = opened;
  }
