-- Requests are found where they are.
use Rattle.std.proofs.Common.{◌≡◌, ◌≢◌, refl, sym, ap, subst, ◌∙◌, arith, append_assoc, length-append}
use Rattle.std.specs.Prelude.{ℕ, ◌+◌, ◌≤◌, List, ◌++◌, Option, None, Some, length, drop, slice_get, IfSome, IfNone}
use Rattle.fop_types.specs.declared.messages.BrickReq.{BrickReq}
use Rattle.fop_types.specs.declared.messages.BrickReq.TheVariants.{Op, Post}
use Rattle.fop_types.specs.declared.messages.Input.{Input}
use Rattle.fop_types.specs.declared.messages.Input.TheVariants.{Request}
use Rattle.fop_types.specs.declared.store_ops.StoreOp.{StoreOp}
use Rattle.wire_xdr.specs.WireText.{input_text, IsInput}
use Rattle.brick_machine.specs.Journal.{Journal}
use Rattle.mount_log.proofs.Items.{some_is}
use Rattle.mount_log.specs.declared.logs.HubEvent.TheVariants.{Arrive}
use Rattle.mount_log.specs.declared.logs.Log.{Log}
use Rattle.change_audit.specs.Journals.{IsInputOf}
use Rattle.fop_types.specs.Bounds.{IsHyper}
use Rattle.change_audit.specs.Served.{text_of, done_text, IsAnswered, IsRequestOn, IsOpOf, IsOpIn, IsPostIn, IsPostOn, IsOpeningAt, IsOpeningSince, IsServedThere, IsPostedThere}
use Rattle.change_audit.specs.Bearing.{IsFirstOp}
use Rattle.change_audit.specs.declared.answers.Bearer.{Bearer}
use Rattle.change_audit.specs.declared.answers.Served.{Served}
use Rattle.change_audit.proofs.Reading.{one_input}
use Rattle.change_audit.proofs.Texts.{text_behind, text_long}

same_wind : (wind other graph of : ℕ) (req asked : BrickReq) → Request wind graph req ≡ Request other of asked → wind ≡ other
same_wind wind other graph of req asked e = cc

module _ (input : Input) (bytes : List ℕ) (text : bytes ≡ input_text input) (legal : IsInput input) where
  that : (x : Input) → IsInput x → bytes ≡ input_text x → input ≡ x
  that x other is = one_input input x legal other (sym text ∙ is)

  pub wind_found : (found : Option ℕ) → IfSome found (λ w. IsRequestOn w input) → IfNone found ((w : ℕ) → IsRequestOn w input → ⊥) → (wind graph : ℕ) (req : BrickReq) → IsInput (Request wind graph req)
      → bytes ≡ input_text (Request wind graph req) → found ≡ Some wind
  wind_found None is none wind graph req other there = absurd (none wind (record { graph = graph; req = req; is = that (Request wind graph req) other there }))
  wind_found (Some w) is none wind graph req other there = ap Some (same_wind w wind is.graph graph is.req req (sym is.is ∙ that (Request wind graph req) other there))

  pub post_found : (found : Option ℕ) (graph change : ℕ) → IfSome found (λ w. IsPostIn w graph change input) → IfNone found ((w : ℕ) → IsPostIn w graph change input → ⊥) → (wind : ℕ) (post : IsPostOn wind graph change bytes)
      → IsInput (Request wind graph (Post change post.cells post.mask)) → found ≡ Some wind
  post_found None graph change is none wind post other = absurd (none wind (record { cells = post.cells; mask = post.mask; is = that (Request wind graph (Post change post.cells post.mask)) other post.is }))
  post_found (Some w) graph change is none wind post other =
      ap Some (same_wind w wind graph graph (Post change is.cells is.mask) (Post change post.cells post.mask) (sym is.is ∙ that (Request wind graph (Post change post.cells post.mask)) other post.is))

-- bytes that are no input are no request
pub nothing_found : (bytes : List ℕ) (found : Option ℕ) → ((x : Input) → IsInput x → bytes ≢ input_text x) → (wind graph : ℕ) (req : BrickReq) → IsInput (Request wind graph req) → bytes ≡ input_text (Request wind graph req)
    → found ≡ Some wind
nothing_found bytes found none wind graph req legal is = absurd (none (Request wind graph req) legal is)

pub no_post_found : (bytes : List ℕ) (found : Option ℕ) (graph change : ℕ) → ((x : Input) → IsInput x → bytes ≢ input_text x) → (wind : ℕ) (post : IsPostOn wind graph change bytes)
    → IsInput (Request wind graph (Post change post.cells post.mask)) → found ≡ Some wind
no_post_found bytes found graph change none wind post legal = absurd (none (Request wind graph (Post change post.cells post.mask)) legal post.is)

-- a request has a text
pub text_there : (bytes text : List ℕ) (wind graph : ℕ) (req : BrickReq) → text ≡ text_of graph req → bytes ≡ input_text (Request wind graph req) → (12 ≤ length bytes) × (drop 12 bytes ≡ text)
text_there bytes text wind graph req has is = (
  subst (λ (l : List ℕ). 12 ≤ length l) (sym is) (text_long wind graph req),
  ap (drop 12) is ∙ text_behind wind graph req ∙ sym has,
)

-- ---- requests that were answered

-- an input is the one that is counted so
pub one_counted : (bricks : List Journal) (brick taken : ℕ) (bytes other : List ℕ) → IsInputOf bricks brick taken bytes → IsInputOf bricks brick taken other → bytes ≡ other
one_counted bricks brick taken bytes other i o =
    let counted = i.counted in let also = o.counted in let place : i.place ≡ o.place = omega (arith, counted, also) in
    let same : i.at ≡ o.at = some_is i.at o.at (sym i.there ∙ o.there) in
    some_is bytes other (sym i.input ∙ ap (λ (j : Journal). slice_get j.journal i.place) same ∙ ap (slice_get o.at.journal) place ∙ o.input)

module _ (log : Log) (bricks : List Journal) (brick : ℕ) (at : Served) (call graph : ℕ) (req : BrickReq) (s : IsServedThere log bricks brick at call graph req) where
  pub served_input : IsInputOf bricks brick at.taken (input_text (Request s.served.wind graph req))
  served_input = record { at = s.served.done.at; there = s.served.done.there; place = s.served.done.place; input = s.served.done.request; counted = s.served.counted }

  served_answer : IsAnswered log brick at s.served.wind
  served_answer = s.served.done.arrived ∙ ap (λ (n : ℕ). Some (Arrive brick (done_text n s.served.wind))) (sym s.served.counted)

  -- on the wind that was found
  pub served_on : (found : Option ℕ) (wind : ℕ) → found ≡ Some wind → found ≡ Some s.served.wind → IsOpeningAt log.winds at.opening call wind × IsHyper wind × IsAnswered log brick at wind
  served_on found wind is there =
      subst (λ (w : ℕ). IsOpeningAt log.winds at.opening call w × IsHyper w × IsAnswered log brick at w) (some_is s.served.wind wind (sym there ∙ is)) (s.opened, s.legal.0, served_answer)

module _ (log : Log) (bricks : List Journal) (brick : ℕ) (at : Served) (call graph change since : ℕ) (s : IsPostedThere log bricks brick at call graph change since) where
  pub post_input : IsInputOf bricks brick at.taken (input_text (Request s.posted.wind graph (Post change s.posted.cells s.posted.mask)))
  post_input = record { at = s.posted.done.at; there = s.posted.done.there; place = s.posted.done.place; input = s.posted.done.request; counted = s.posted.counted }

  abbrev pub post_on : (bytes : List ℕ) → IsInputOf bricks brick at.taken bytes → IsPostOn s.posted.wind graph change bytes
  post_on bytes sent = record { cells = s.posted.cells; mask = s.posted.mask; is = one_counted bricks brick at.taken bytes (input_text (Request s.posted.wind graph (Post change s.posted.cells s.posted.mask))) sent post_input }

  post_answer : IsAnswered log brick at s.posted.wind
  post_answer = s.posted.done.arrived ∙ ap (λ (n : ℕ). Some (Arrive brick (done_text n s.posted.wind))) (sym s.posted.counted)

  pub posted_on : (found : Option ℕ) (wind : ℕ) → found ≡ Some wind → found ≡ Some s.posted.wind → IsOpeningSince log.winds at.opening call wind since × IsHyper wind × IsAnswered log brick at wind
  posted_on found wind is there =
      subst (λ (w : ℕ). IsOpeningSince log.winds at.opening call w since × IsHyper w × IsAnswered log brick at w) (some_is s.posted.wind wind (sym there ∙ is)) (s.opened, s.legal.0, post_answer)

-- ---- ops

same_op : (wind other graph change fd of : ℕ) (o asked : StoreOp) → Request wind graph (Op change fd o) ≡ Request other graph (Op change of asked) → o ≡ asked
same_op wind other graph change fd of o asked e = cc

pub one_op : (graph change : ℕ) (o asked : StoreOp) (input : Input) → IsOpIn graph change o input → IsOpIn graph change asked input → o ≡ asked
one_op graph change o asked input a b = same_op a.wind b.wind graph change a.fd b.fd o asked (sym a.is ∙ b.is)

same_req : (wind other graph of : ℕ) (req asked : BrickReq) → Request wind graph req ≡ Request other of asked → req ≡ asked
same_req wind other graph of req asked e = cc

-- a request in the graph that is no op of the change
pub no_op : {X : Type 0} (found : Option X) (wind graph of change : ℕ) (req : BrickReq) (input : Input) → input ≡ Request wind of req → IfNone found ((o : StoreOp) → IsOpOf change o req → ⊥)
    → IfNone found ((o : StoreOp) → IsOpIn graph change o input → ⊥)
no_op None wind graph of change req input is none = λ o asked. none o (record { fd = asked.fd; is = same_req wind asked.wind of graph req (Op change asked.fd o) (sym is ∙ asked.is) })
no_op (Some x) wind graph of change req input is none = none

-- ---- the first bearer

pub first_is : (bricks : List Journal) (bearers : List Bearer) (bytes other : List ℕ) → IsFirstOp bricks bearers bytes → IsFirstOp bricks bearers other → bytes ≡ other
first_is bricks bearers bytes other a b =
    let same : a.first ≡ b.first = some_is a.first b.first (sym a.is ∙ b.is) in
    one_counted bricks b.first.brick b.first.op.taken bytes other (subst (λ (f : Bearer). IsInputOf bricks f.brick f.op.taken bytes) same a.input) b.input

pub first_none : {X : Type 0} (found : Option X) (bricks : List Journal) (bearers : List Bearer) (first : Bearer) → slice_get bearers 0 ≡ Some first → IfNone found ((bytes : List ℕ) → IsInputOf bricks first.brick first.op.taken bytes → ⊥)
    → IfNone found ((bytes : List ℕ) → IsFirstOp bricks bearers bytes → ⊥)
first_none None bricks bearers first is none = λ bytes f.
    none bytes (subst (λ (b : Bearer). IsInputOf bricks b.brick b.op.taken bytes) (some_is f.first first (sym f.is ∙ is)) f.input)
first_none (Some x) bricks bearers first is none = none

-- an op is long enough for a text
pub op_long : (graph change : ℕ) (o : StoreOp) (input : Input) (bytes : List ℕ) → IsOpIn graph change o input → bytes ≡ input_text input → 12 ≤ length bytes
op_long graph change o input bytes asked is = (text_there bytes (text_of graph (Op change asked.fd o)) asked.wind graph (Op change asked.fd o) refl (is ∙ ap input_text asked.is)).0
