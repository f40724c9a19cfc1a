-- What ends the wind of a request, at the places that notes name.
use Rattle.std.proofs.Common.{◌≡◌, refl, sym, ap, subst, ◌∙◌, arith}
use Rattle.std.specs.Prelude.{ℕ, zero, suc, ◌≤◌, ◌-◌, ◌==◌, Bool, true, false, List, [], ◌∷◌, Some, None, slice_get, if◌then◌else◌}
use Rattle.std.proofs.lemmas.Bool.{eqb-true}
use Rattle.fop_types.specs.declared.messages.Input.{Input}
use Rattle.wire_messages.specs.declared.messages.Message.{Message}
use Rattle.mount_log.specs.Follows.{IsEvent}
use Rattle.mount_log.specs.Heads.{heads_of}
use Rattle.mount_log.specs.Ties.{IsEndedBy, ByOutput, ByDisconnect, HasEnd}
use Rattle.mount_log.specs.declared.heads.Head.{Head}
use Rattle.mount_log.specs.declared.logs.HubEvent.{HubEvent}
use Rattle.mount_log.specs.declared.logs.Log.{Log}
use Rattle.mount_log.specs.declared.logs.WindLine.{WindLine}
use Rattle.line_audit.specs.Ended.{head_by, IsEndedByOutput, SaysDisconnect, IsDisconnectAt, IsPlaceOfDisconnect, IsEndingOf}
use Rattle.mount_log.proofs.Items.{some_is}

module _ (log : Log) (brick number graph : ℕ) (place : ℕ) where
  pub ending_found : (line : WindLine) → slice_get log.winds place ≡ Some line → (h : HasEnd log brick number graph) → h.place ≡ place → IsEndingOf number graph line × IsEndedBy log brick line
  ending_found line there h at =
      let same : h.ending ≡ line = some_is h.ending line (sym h.there ∙ ap (slice_get log.winds) at ∙ there) in (
        subst (λ (l : WindLine). IsEndingOf number graph l) same (record { is_end = h.is_end; same_graph = h.same_graph; of_wind = h.of_wind }),
        subst (λ (l : WindLine). IsEndedBy log brick l) same h.by,
      )

  pub no_ending : slice_get log.winds place ≡ None → (h : HasEnd log brick number graph) → h.place ≡ place → ⊥
  no_ending none h at = let there = sym none ∙ ap (slice_get log.winds) (sym at) ∙ h.there in absurd cc

-- neither an output nor a Disconnect at the place ends it
pub not_ended : (log : Log) (brick at : ℕ) (line : WindLine) (once sent : Bool) → (IsEndedByOutput log brick line → once ≡ true) → (IsDisconnectAt log.sent at line.event brick line.graph → sent ≡ true) → IsPlaceOfDisconnect log brick line at → IsEndedBy log brick line
    → once ≡ false → sent ≡ true
not_ended log brick at line once sent by_output by_line place (ByOutput bytes output event read ends) none = let hit = by_output (record { bytes = bytes; output = output; event = event; read = read; ends = ends }) in absurd cc
not_ended log brick at line once sent by_output by_line place (ByDisconnect found other there event brick_is read) none =
    by_line (place found (record { line = other; there = there; is = record { event_is = event; brick_is = brick_is; says = subst (λ (m : Message Input). SaysDisconnect line.graph m) (sym read) refl } }))

-- each event has a head
pub head_for : (log : Log) (heads : List Head) (number : ℕ) (e : HubEvent) → heads ≡ heads_of log.events → head_by heads number ≡ None → IsEvent log number e → ⊥
head_for log heads number e are none is = by (number == 0) refl none where
  get : (es : List HubEvent) (n : ℕ) → slice_get (heads_of es) n ≡ None → slice_get es n ≡ Some e → ⊥
  get [] n gone there = absurd cc
  get (x ∷ es) zero gone there = absurd cc
  get (x ∷ es) (suc n) gone there = get es n gone there

  by : (b : Bool) → (number == 0) ≡ b → (if b then None else slice_get heads (number - 1)) ≡ None → ⊥
  by true z gone = let from = is.from_one in let n = eqb-true number 0 z in absurd (omega (arith, from, n))
  by false z gone = get log.events (number - 1) (sym (ap (λ (l : List Head). slice_get l (number - 1)) are) ∙ gone) is.there
