-- The causes of what was sent, from what an audit finds.
use Rattle.std.proofs.Common.{◌≡◌, refl, sym, ap, subst, ◌∙◌, arith, get_or}
use Rattle.std.specs.Prelude.{ℕ, zero, suc, ◌≢◌, ◌<◌, ◌≤◌, ◌-◌, ◌==◌, nat_lt, if◌then◌else◌, Bool, true, false, List, [], ◌++◌, Option, None, Some, is_some, length, slice_get}
use Rattle.std.proofs.lemmas.Bool.{eqb-false, ltb-true, ltb-false}
use Rattle.std.proofs.lemmas.List.{length-append}
use Rattle.std.proofs.lemmas.Option.{slice_get-get_or, slice_get_within}
use Rattle.fop_types.specs.declared.messages.Input.{Input}
use Rattle.fop_types.specs.declared.messages.Input.TheVariants as input
use Rattle.fop_types.specs.declared.messages.Proc.{Proc}
use Rattle.wire_xdr.specs.WireText.{input_text}
use Rattle.wire_xdr.specs.Xdr.{unit}
use Rattle.wire_xdr.proofs.QuadLaws.{unit_size}
use Rattle.wire_messages.specs.Messages.{input_in, MessagesReadBack}
use Rattle.wire_messages.specs.declared.messages.Message.{Message}
use Rattle.wire_messages.specs.declared.messages.Message.TheVariants.{Whole, Wrong}
use Rattle.mount_log.specs.Connects.{IsForDown, ByArmed}
use Rattle.mount_log.specs.Follows.{IsEvent, IsArmedLine}
use Rattle.mount_log.specs.Procedures.{proc_in}
use Rattle.mount_log.specs.declared.logs.HubEvent.{HubEvent}
use Rattle.mount_log.specs.declared.logs.HubEvent.TheVariants as logged
use Rattle.script_lang.specs.declared.scripts.Action.TheVariants as action
use Rattle.mount_log.specs.declared.logs.Log.{Log}
use Rattle.mount_log.specs.declared.logs.SentLine.{SentLine}
use Rattle.mount_log.specs.Switches.{event_of}
use Rattle.line_audit.specs.Caused.{IsBeforeRequest, IsArmedAt, IsDownAt, ByAct, ByArms, IsInputCaused, IsCaused}
use Rattle.log_audit.proofs.Arming.{no_request_text}
use Rattle.log_audit.specs.Armed.{AreArmedFrom}
use Rattle.log_audit.specs.declared.armed_lines.ArmedLines.{ArmedLines}

pub event_there : (log : Log) (number : ℕ) (e : HubEvent) → event_of log number ≡ Some e → IsEvent log number e
event_there log number e is = by (number == 0) refl is where
  from_one : (n : ℕ) → n ≢ 0 → 1 ≤ n
  from_one zero ne = absurd (ne refl)
  from_one (suc n) ne = omega arith

  by : (b : Bool) → (number == 0) ≡ b → (if b then None else slice_get log.events (number - 1)) ≡ Some e → IsEvent log number e
  by true z none = absurd cc
  by false z there = record { from_one = from_one number (eqb-false number 0 z); there = there }

-- ---- downs

-- two armed lines of one stretch are of the same event and brick
alike : {event brick : ℕ} {a b : SentLine} → IsArmedLine event brick a → IsArmedLine event brick b → IsArmedLine a.event a.brick b
alike x y = record { armable = y.armable; same_brick = y.same_brick ∙ sym x.same_brick; same_event = y.same_event ∙ sym x.same_event }

abbrev with_bytes : SentLine → List ℕ → SentLine
with_bytes line bytes = record { event = line.event; brick = line.brick; bytes = bytes }

pub down_armed : (log : Log) (k : ℕ) (line : SentLine) (serve : ℕ) (armed : ArmedLines) → slice_get log.sent k ≡ Some line → line.bytes ≡ input_text (input.Down serve) → AreArmedFrom log.sent k armed
    → IsBeforeRequest log.sent k armed.stop line → IsForDown log line serve
down_armed log k line serve armed there bytes is_run before = by (proc_in before.request.bytes) refl before.is_request where
  by : (o : Option Proc) → proc_in before.request.bytes ≡ o → is_some o ≡ true → IsForDown log line serve
  by None is none = absurd cc
  by (Some p) is some = ByArmed p (record {
    place = k;
    request_at = armed.stop;
    sent = input.Down serve;
    request = before.request;
    is_input = refl;
    there = there ∙ ap (λ (b : List ℕ). Some (with_bytes line b)) bytes;
    later = before.later;
    between = λ j other behind below is_there. alike (is_run.each k line (omega arith) before.later there) (is_run.each j other (omega (arith, behind)) below is_there);
    request_there = before.there;
    same_brick = before.same_brick;
    same_event = before.same_event;
    is_request = is;
  })

-- where the lines from a place up to a request can be armed, the armed lines of the place stop there
pub armed_stop : (log : Log) (k : ℕ) (line : SentLine) (armed : ArmedLines) → slice_get log.sent k ≡ Some line → AreArmedFrom log.sent k armed → k < armed.stop → IsArmedAt log.sent k line → IsBeforeRequest log.sent k armed.stop line
armed_stop log k line armed there is_run early at = by (nat_lt armed.stop at.stop) refl where
  own : IsArmedLine armed.event armed.brick line
  own = is_run.each k line (omega arith) early there

  -- the line at an earlier stop could be armed, too
  before : armed.stop < at.stop → ⊥
  before lt =
      let within = slice_get_within log.sent at.stop at.request.request at.request.there in
      let next = slice_get-get_or log.sent armed.stop line (omega (arith, lt, within)) in
      let is = at.armed armed.stop (get_or log.sent armed.stop line) early lt next in
      is_run.end (get_or log.sent armed.stop line) early next (record { same_event = is.same_event ∙ own.same_event; same_brick = is.same_brick ∙ own.same_brick; armable = is.armable })

  -- a request before a later stop could be armed
  behind : at.stop < armed.stop → ⊥
  behind lt =
      let later = at.request.later in
      let is = is_run.each at.stop at.request.request (omega (arith, later)) lt at.request.there in
      no_request_text at.request.request.bytes at.request.is_request is.armable.sent is.armable.text is.armable.can

  past : (b : Bool) → nat_lt at.stop armed.stop ≡ b → at.stop ≤ armed.stop → IsBeforeRequest log.sent k armed.stop line
  past true e le = absurd (behind (ltb-true at.stop armed.stop e))
  past false e le =
      let ge = ltb-false at.stop armed.stop e in let same : at.stop ≡ armed.stop = omega (arith, le, ge) in
      subst (λ (n : ℕ). IsBeforeRequest log.sent k n line) same at.request

  by : (b : Bool) → nat_lt armed.stop at.stop ≡ b → IsBeforeRequest log.sent k armed.stop line
  by true e = absurd (before (ltb-true armed.stop at.stop e))
  by false e = past (nat_lt at.stop armed.stop) refl (ltb-false armed.stop at.stop e)

pub down_at : (log : Log) (k : ℕ) (line : SentLine) (serve : ℕ) (armed : ArmedLines) → slice_get log.sent k ≡ Some line → AreArmedFrom log.sent k armed → k < armed.stop
    → (IsEvent log line.event (logged.Act (action.Down line.brick serve)) → ⊥) → IsDownAt log k line serve → IsBeforeRequest log.sent k armed.stop line
down_at log k line serve armed there is_run early not_act (ByAct acted) = absurd (not_act acted)
down_at log k line serve armed there is_run early not_act (ByArms at) = armed_stop log k line armed there is_run early at

-- ---- long inputs

-- what is longer than a Down has no brick go down or up
pub long_caused : MessagesReadBack → (log : Log) (line : SentLine) → 8 < length line.bytes → IsCaused log line (input_in line.bytes)
long_caused back log line long = by (input_in line.bytes) refl where
  whole : (x : Input) → line.bytes ≡ input_text x → IsInputCaused log line x
  whole input.Up text =
      let size : length line.bytes ≡ length (unit 2 ++ []) = ap length text in
      let parts = length-append (unit 2) [] in
      let first = unit_size 2 in
      absurd (omega (arith, long, size, parts, first))
  whole (input.Down serve) text =
      let size : length line.bytes ≡ length (unit 1 ++ unit serve) = ap length text in
      let parts = length-append (unit 1) (unit serve) in
      let first = unit_size 1 in
      let last = unit_size serve in
      absurd (omega (arith, long, size, parts, first, last))
  whole (input.Connect graph version) text = record {}
  whole (input.Request wind graph req) text = record {}
  whole (input.Disconnect graph) text = record {}
  whole (input.FaultAt p number) text = record {}

  by : (m : Message Input) → input_in line.bytes ≡ m → IsCaused log line m
  by (Whole x) read = whole x (back.0.1 line.bytes x read).1
  by (Wrong place) read = record {}
