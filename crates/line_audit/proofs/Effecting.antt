-- What an event does to connections, by what it is.
use Rattle.std.proofs.Common.{◌≡◌, refl, sym, ap, subst, ◌∙◌, arith}
use Rattle.std.specs.Prelude.{ℕ, ◌+◌, ◌==◌, ◌&&◌, true, false, List, Some, length, take, slice_get}
use Rattle.std.proofs.lemmas.Bool.{eq-eqb, eqb-true}
use Rattle.fop_types.specs.declared.messages.BrickRep.{BrickRep}
use Rattle.fop_types.specs.declared.messages.BrickRep.TheVariants as rep
use Rattle.fop_types.specs.declared.messages.OutKind.{OutKind}
use Rattle.fop_types.specs.declared.messages.OutKind.TheVariants as out
use Rattle.fop_types.specs.declared.messages.Output.{Output}
use Rattle.script_lang.specs.declared.scripts.Action.TheVariants as action
use Rattle.wire_messages.specs.Messages.{output_in}
use Rattle.wire_messages.specs.declared.messages.Message.{Message}
use Rattle.wire_messages.specs.declared.messages.Message.TheVariants.{Whole, Wrong}
use Rattle.mount_log.specs.Connections.{is_closed, says_closed, closes_by}
use Rattle.mount_log.specs.Connects.{is_opened, says_opened, opens_by, is_switch, newest_graph, IsEndIn, IsGone}
use Rattle.mount_log.specs.Follows.{IsEvent}
use Rattle.mount_log.specs.Graphs.{switches_in, switched_by}
use Rattle.mount_log.specs.declared.logs.HubEvent.{HubEvent}
use Rattle.mount_log.specs.declared.logs.HubEvent.TheVariants as logged
use Rattle.mount_log.specs.declared.logs.Log.{Log}
use Rattle.mount_log.specs.Heads.{reply_head, kind_head, head_in}
use Rattle.mount_log.specs.declared.heads.Said.{Said}
use Rattle.mount_log.specs.declared.heads.Said.TheVariants as said
use Rattle.line_audit.specs.Linked.{arrives, effect_of, is_started, is_switched, opened_as, closed_as, cut_as, newest_after, IsGoneAs}
use Rattle.line_audit.specs.declared.due.Moment.{Moment}
use Rattle.line_audit.specs.declared.effects.Effect.{Effect}
use Rattle.line_audit.specs.declared.effects.Effect.TheVariants as effect
use Rattle.mount_log.proofs.Lists.{take_next}
use Rattle.mount_log.proofs.Switching.{switches_push}
use Rattle.mount_log.proofs.Bools.{and_true, and_false}

-- what arrives has one of these effects
module _ (P : Effect → Type 0) (brick : ℕ) (other : P effect.Other) (opened : P (effect.Opened brick)) (closed : P (effect.Closed brick)) (gone : (wind : ℕ) → P (effect.Gone brick wind)) where
  by_said : (s : Said) → P (arrives brick s)
  by_said said.Other = other
  by_said (said.Reply wind) = other
  by_said (said.Gone wind) = gone wind
  by_said said.Closed = closed
  by_said said.Opened = opened

-- ---- a brick closes or opens

module _ (brick from : ℕ) where
  reply_no_close : (wind : ℕ) (r : BrickRep) → closed_as brick (arrives from (reply_head wind r)) ≡ false
  reply_no_close wind rep.Gone = refl
  reply_no_close wind (rep.Done arm) = refl
  reply_no_close wind rep.Fault = refl
  reply_no_close wind rep.Unfit = refl
  reply_no_close wind rep.BadFd = refl

  kind_closes : (kind : OutKind) → ((from == brick) && is_closed kind) ≡ closed_as brick (arrives from (kind_head kind))
  kind_closes out.Closed = and_true (from == brick)
  kind_closes out.Opened = and_false (from == brick)
  kind_closes (out.Reply wind r) = and_false (from == brick) ∙ sym (reply_no_close wind r)
  kind_closes (out.Connected graph version) = and_false (from == brick)
  kind_closes (out.Malformed place) = and_false (from == brick)

  message_closes : (m : Message Output) → ((from == brick) && says_closed m) ≡ closed_as brick (arrives from (head_in m).said)
  message_closes (Whole x) = kind_closes x.kind
  message_closes (Wrong place) = and_false (from == brick)

  reply_no_open : (wind : ℕ) (r : BrickRep) → opened_as brick (arrives from (reply_head wind r)) ≡ false
  reply_no_open wind rep.Gone = refl
  reply_no_open wind (rep.Done arm) = refl
  reply_no_open wind rep.Fault = refl
  reply_no_open wind rep.Unfit = refl
  reply_no_open wind rep.BadFd = refl

  kind_opens : (kind : OutKind) → ((from == brick) && is_opened kind) ≡ opened_as brick (arrives from (kind_head kind))
  kind_opens out.Opened = and_true (from == brick)
  kind_opens out.Closed = and_false (from == brick)
  kind_opens (out.Reply wind r) = and_false (from == brick) ∙ sym (reply_no_open wind r)
  kind_opens (out.Connected graph version) = and_false (from == brick)
  kind_opens (out.Malformed place) = and_false (from == brick)

  message_opens : (m : Message Output) → ((from == brick) && says_opened m) ≡ opened_as brick (arrives from (head_in m).said)
  message_opens (Whole x) = kind_opens x.kind
  message_opens (Wrong place) = and_false (from == brick)

pub closes_is : (brick : ℕ) (e : HubEvent) → closes_by brick (Some e) ≡ closed_as brick (effect_of e)
closes_is brick (logged.Arrive from bytes) = message_closes brick from (output_in bytes)
closes_is brick (logged.Act (action.Switch volfile)) = refl
closes_is brick (logged.Act (action.Cut b)) = refl
closes_is brick (logged.Act (action.Down b serve)) = refl
closes_is brick (logged.Act (action.Up b)) = refl
closes_is brick (logged.Act (action.Fault b p n)) = refl
closes_is brick (logged.Act action.Heal) = refl
closes_is brick (logged.Submit session line) = refl
closes_is brick (logged.Run graph task) = refl
closes_is brick (logged.Arm at p count a) = refl

pub opens_is : (brick : ℕ) (e : HubEvent) → opens_by brick (Some e) ≡ opened_as brick (effect_of e)
opens_is brick (logged.Arrive from bytes) = message_opens brick from (output_in bytes)
opens_is brick (logged.Act (action.Switch volfile)) = refl
opens_is brick (logged.Act (action.Cut b)) = refl
opens_is brick (logged.Act (action.Down b serve)) = refl
opens_is brick (logged.Act (action.Up b)) = refl
opens_is brick (logged.Act (action.Fault b p n)) = refl
opens_is brick (logged.Act action.Heal) = refl
opens_is brick (logged.Submit session line) = refl
opens_is brick (logged.Run graph task) = refl
opens_is brick (logged.Arm at p count a) = refl

-- ---- a switch

pub switch_is : (e : HubEvent) → is_switch (Some e) ≡ is_switched (effect_of e)
switch_is (logged.Arrive from bytes) = by_said (λ (f : Effect). false ≡ is_switched f) from refl refl refl (λ wind. refl) (head_in (output_in bytes)).said
switch_is (logged.Act (action.Switch volfile)) = refl
switch_is (logged.Act (action.Cut b)) = refl
switch_is (logged.Act (action.Down b serve)) = refl
switch_is (logged.Act (action.Up b)) = refl
switch_is (logged.Act (action.Fault b p n)) = refl
switch_is (logged.Act action.Heal) = refl
switch_is (logged.Submit session line) = refl
switch_is (logged.Run graph task) = refl
switch_is (logged.Arm at p count a) = refl

pub none_starts : (e : HubEvent) → is_started (effect_of e) ≡ false
none_starts (logged.Arrive from bytes) = by_said (λ (f : Effect). is_started f ≡ false) from refl refl refl (λ wind. refl) (head_in (output_in bytes)).said
none_starts (logged.Act (action.Switch volfile)) = refl
none_starts (logged.Act (action.Cut b)) = refl
none_starts (logged.Act (action.Down b serve)) = refl
none_starts (logged.Act (action.Up b)) = refl
none_starts (logged.Act (action.Fault b p n)) = refl
none_starts (logged.Act action.Heal) = refl
none_starts (logged.Submit session line) = refl
none_starts (logged.Run graph task) = refl
none_starts (logged.Arm at p count a) = refl

-- how many graphs an effect makes
abbrev makes : Effect → ℕ
makes effect.Switched = 1
makes _ = 0

newest_by : (newest : ℕ) (f : Effect) → newest_after newest f ≡ newest + makes f
newest_by newest effect.Switched = refl
newest_by newest effect.Started = omega arith
newest_by newest (effect.Opened b) = omega arith
newest_by newest (effect.Closed b) = omega arith
newest_by newest (effect.Cut b) = omega arith
newest_by newest (effect.Gone b wind) = omega arith
newest_by newest effect.Other = omega arith

made_by : (e : HubEvent) (rest : List ℕ) → length (switched_by e rest) ≡ makes (effect_of e) + length rest
made_by (logged.Arrive from bytes) rest = by_said (λ (f : Effect). length rest ≡ makes f + length rest) from (omega arith) (omega arith) (omega arith) (λ wind. omega arith) (head_in (output_in bytes)).said
made_by (logged.Act (action.Switch volfile)) rest = omega arith
made_by (logged.Act (action.Cut b)) rest = omega arith
made_by (logged.Act (action.Down b serve)) rest = omega arith
made_by (logged.Act (action.Up b)) rest = omega arith
made_by (logged.Act (action.Fault b p n)) rest = omega arith
made_by (logged.Act action.Heal) rest = omega arith
made_by (logged.Submit session line) rest = omega arith
made_by (logged.Run graph task) rest = omega arith
made_by (logged.Arm at p count a) rest = omega arith

pub newest_next : (log : Log) (k : ℕ) (e : HubEvent) → slice_get log.events k ≡ Some e → newest_graph log (k + 1) ≡ newest_after (newest_graph log k) (effect_of e)
newest_next log k e there =
    let pushed : length (switches_in (take (k + 1) log.events)) ≡ length (switches_in (take k log.events)) + makes (effect_of e) =
    ap (λ (es : List HubEvent). length (switches_in es)) (take_next log.events k e there) ∙ switches_push (take k log.events) e (makes (effect_of e)) (made_by e) in
    let own = newest_by (newest_graph log k) (effect_of e) in
    omega (arith, pushed, own)

-- ---- a cut

pub cut_is : (brick : ℕ) (e : HubEvent) → cut_as brick (effect_of e) ≡ true → e ≡ logged.Act (action.Cut brick)
cut_is brick (logged.Arrive from bytes) hits_it = absurd (by_said (λ (f : Effect). cut_as brick f ≡ true → ⊥) from (λ no. absurd cc) (λ no. absurd cc) (λ no. absurd cc) (λ wind no. absurd cc) (head_in (output_in bytes)).said hits_it)
cut_is brick (logged.Act (action.Switch volfile)) hits_it = absurd cc
cut_is brick (logged.Act (action.Cut b)) hits_it = ap (λ (n : ℕ). logged.Act (action.Cut n)) (eqb-true b brick hits_it)
cut_is brick (logged.Act (action.Down b serve)) hits_it = absurd cc
cut_is brick (logged.Act (action.Up b)) hits_it = absurd cc
cut_is brick (logged.Act (action.Fault b p n)) hits_it = absurd cc
cut_is brick (logged.Act action.Heal) hits_it = absurd cc
cut_is brick (logged.Submit session line) hits_it = absurd cc
cut_is brick (logged.Run graph task) hits_it = absurd cc
cut_is brick (logged.Arm at p count a) hits_it = absurd cc

pub cuts_it : (brick : ℕ) (e : HubEvent) → e ≡ logged.Act (action.Cut brick) → cut_as brick (effect_of e) ≡ true
cuts_it brick e is = ap (λ (x : HubEvent). cut_as brick (effect_of x)) is ∙ eq-eqb brick brick refl

-- ---- a brick answers Gone

module _ (log : Log) (now : Moment) (graph brick : ℕ) where
  gone_reply : (from number : ℕ) (bytes : List ℕ) (x : Output) (wind : ℕ) (r : BrickRep) → now.number ≡ number → IsEvent log number (logged.Arrive from bytes) → output_in bytes ≡ Whole x → x.kind ≡ out.Reply wind r
      → IsGoneAs log now graph brick (arrives from (reply_head wind r)) → IsGone log graph brick number
  gone_reply from number bytes x wind rep.Gone same event read kind gone = record {
    wind = wind;
    bytes = bytes;
    output = x;
    arrives = subst (λ (b : ℕ). IsEvent log number (logged.Arrive b bytes)) gone.0 event;
    read = read;
    says = kind;
    ends = subst (λ (n : ℕ). IsEndIn log.winds wind graph n) same gone.1;
  }
  gone_reply from number bytes x wind (rep.Done arm) same event read kind gone = absurd gone
  gone_reply from number bytes x wind rep.Fault same event read kind gone = absurd gone
  gone_reply from number bytes x wind rep.Unfit same event read kind gone = absurd gone
  gone_reply from number bytes x wind rep.BadFd same event read kind gone = absurd gone

  gone_kind : (from number : ℕ) (bytes : List ℕ) (x : Output) (kind : OutKind) → now.number ≡ number → IsEvent log number (logged.Arrive from bytes) → output_in bytes ≡ Whole x → x.kind ≡ kind
      → IsGoneAs log now graph brick (arrives from (kind_head kind)) → IsGone log graph brick number
  gone_kind from number bytes x (out.Reply wind r) same event read is gone = gone_reply from number bytes x wind r same event read is gone
  gone_kind from number bytes x out.Opened same event read is gone = absurd gone
  gone_kind from number bytes x out.Closed same event read is gone = absurd gone
  gone_kind from number bytes x (out.Connected g version) same event read is gone = absurd gone
  gone_kind from number bytes x (out.Malformed place) same event read is gone = absurd gone

  gone_message : (from number : ℕ) (bytes : List ℕ) (m : Message Output) → now.number ≡ number → IsEvent log number (logged.Arrive from bytes) → output_in bytes ≡ m → IsGoneAs log now graph brick (arrives from (head_in m).said) → IsGone log graph brick number
  gone_message from number bytes (Whole x) same event read gone = gone_kind from number bytes x x.kind same event read refl gone
  gone_message from number bytes (Wrong place) same event read gone = absurd gone

  pub gone_is : (number : ℕ) (e : HubEvent) → now.number ≡ number → IsEvent log number e → IsGoneAs log now graph brick (effect_of e) → IsGone log graph brick number
  gone_is number (logged.Arrive from bytes) same event gone = gone_message from number bytes (output_in bytes) same event refl gone
  gone_is number (logged.Act (action.Switch volfile)) same event gone = absurd gone
  gone_is number (logged.Act (action.Cut b)) same event gone = absurd gone
  gone_is number (logged.Act (action.Down b serve)) same event gone = absurd gone
  gone_is number (logged.Act (action.Up b)) same event gone = absurd gone
  gone_is number (logged.Act (action.Fault b p n)) same event gone = absurd gone
  gone_is number (logged.Act action.Heal) same event gone = absurd gone
  gone_is number (logged.Submit session line) same event gone = absurd gone
  gone_is number (logged.Run g task) same event gone = absurd gone
  gone_is number (logged.Arm at p count a) same event gone = absurd gone

  -- and where it answers Gone, that is what the event does
  pub gone_back : (number : ℕ) (e : HubEvent) → now.number ≡ number → (gone : IsGone log graph brick number) → e ≡ logged.Arrive brick gone.bytes → IsGoneAs log now graph brick (effect_of e)
  gone_back number e same gone is =
      subst (λ (x : HubEvent). IsGoneAs log now graph brick (effect_of x)) (sym is)
      (subst (λ (m : Message Output). IsGoneAs log now graph brick (arrives brick (head_in m).said)) (sym gone.read)
      (subst (λ (kind : OutKind). IsGoneAs log now graph brick (arrives brick (kind_head kind))) (sym gone.says) (refl, subst (λ (n : ℕ). IsEndIn log.winds gone.wind graph n) (sym same) gone.ends)))
