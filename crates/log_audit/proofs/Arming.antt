-- Armed lines with one more, from a later place, and none of them.
use Rattle.std.proofs.Common.{◌≡◌, refl, sym, ap, subst, ◌∙◌, arith, get_or}
use Rattle.std.specs.Prelude.{ℕ, ◌<◌, ◌≤◌, ◌+◌, nat_lt, Bool, true, false, List, [], ◌∷◌, ◌++◌, Option, None, Some, is_some, if◌then◌else◌, length, slice_get}
use Rattle.std.proofs.lemmas.Bool.{ltb-true, ltb-false, lt-ltb}
use Rattle.std.proofs.lemmas.Option.{slice_get-get_or, slice_get_within}
use Rattle.std.proofs.lemmas.List.{length-append}
use Rattle.fop_types.specs.declared.messages.Input.{Input}
use Rattle.fop_types.specs.declared.messages.Input.TheVariants as input
use Rattle.wire_xdr.specs.WireText.{proc_number, input_text, IsInputOf}
use Rattle.wire_xdr.specs.Xdr.{unit}
use Rattle.wire_xdr.proofs.QuadLaws.{unit_size}
use Rattle.wire_messages.specs.Messages.{IsSaid, MessagesReadBack, input_in}
use Rattle.wire_messages.specs.declared.messages.Message.{Message}
use Rattle.wire_messages.specs.declared.messages.Message.TheVariants.{Whole, Wrong}
use Rattle.mount_log.specs.Arms.{CanBeArmed}
use Rattle.mount_log.specs.Follows.{AreArmable, IsArmedLine}
use Rattle.mount_log.specs.declared.logs.SentLine.{SentLine}
use Rattle.mount_log.specs.Procedures.{proc_in, proc_by}
use Rattle.log_audit.specs.Armed.{IsArmable, IsArmedFor, IsAmong, AreArmedFrom, AreAllArmed}
use Rattle.log_audit.specs.declared.armed_lines.ArmedLines.{ArmedLines}
use Rattle.mount_log.proofs.Items.{some_is}
use Rattle.mount_log.proofs.Lists.{each_next, each_push}

pub armable : (bytes : List ℕ) (message : Message Input) → IsSaid IsInputOf input_text bytes message → IsArmable message → AreArmable bytes
armable bytes (Whole x) said can = record { sent = x; can = can; text = said.1 }
armable bytes (Wrong place) said none = absurd none

pub armed_none : (sent : List SentLine) (from : ℕ) (armed : ArmedLines) → armed.stop ≡ 0 → AreArmedFrom sent from armed
armed_none sent from armed none = record { each = λ k line le lt is. absurd (omega (arith, lt, none)); end = λ line lt is own. absurd (omega (arith, lt, none)) }

-- so far each of these is an armed line
pub armed_next : (sent : List SentLine) (from stop event brick : ℕ) (line : SentLine) → stop < length sent → line ≡ get_or sent stop line → IsArmedLine event brick line
    → ((k : ℕ) (y : SentLine) → k < stop → slice_get sent k ≡ Some y → from ≤ k → IsArmedLine event brick y)
    → (k : ℕ) (y : SentLine) → k < stop + 1 → slice_get sent k ≡ Some y → from ≤ k → IsArmedLine event brick y
armed_next sent from stop event brick line lt is own armed =
    each_next (λ (n : ℕ) (x : SentLine). from ≤ n → IsArmedLine event brick x) sent stop line (slice_get-get_or sent stop line lt ∙ ap Some (sym is)) (λ _. own) armed

-- and the next line is not
pub armed_to : (sent : List SentLine) (from stop event brick : ℕ) → ((k : ℕ) (y : SentLine) → k < stop → slice_get sent k ≡ Some y → from ≤ k → IsArmedLine event brick y)
    → ((line : SentLine) → slice_get sent stop ≡ Some line → IsArmedFor event brick line → ⊥) → AreArmedFrom sent from (record { stop = stop; event = event; brick = brick })
armed_to sent from stop event brick each end = record { each = λ k y le lt is. each k y lt is le; end = λ line lt is own. end line is own }

pub not_at : (sent : List SentLine) (stop event brick : ℕ) (line : SentLine) → stop < length sent → line ≡ get_or sent stop line → (IsArmedFor event brick line → ⊥) → (y : SentLine) → slice_get sent stop ≡ Some y → IsArmedFor event brick y → ⊥
not_at sent stop event brick line lt is not_one y there own =
    let same : y ≡ line = some_is y line (sym there ∙ slice_get-get_or sent stop line lt ∙ ap Some (sym is)) in
    not_one (subst (λ (x : SentLine). IsArmedFor event brick x) same own)

pub none_at : (sent : List SentLine) (stop event brick : ℕ) → length sent ≤ stop → (y : SentLine) → slice_get sent stop ≡ Some y → IsArmedFor event brick y → ⊥
none_at sent stop event brick le y there own = let lt = slice_get_within sent stop y there in absurd (omega (arith, lt, le))

-- the first of them is one, where there are any
pub first_is : (sent : List SentLine) (from stop event brick : ℕ) → from ≤ stop → ((line : SentLine) → slice_get sent stop ≡ Some line → IsArmedFor event brick line → ⊥)
    → (line : SentLine) → slice_get sent from ≡ Some line → IsArmedFor event brick line → from < stop
first_is sent from stop event brick le end line there own = by (nat_lt from stop) refl where
  by : (b : Bool) → nat_lt from stop ≡ b → from < stop
  by true e = ltb-true from stop e
  by false e = let ge = ltb-false from stop e in let same : from ≡ stop = omega (arith, le, ge) in absurd (end line (ap (slice_get sent) (sym same) ∙ there) own)

pub armed_later : (sent : List SentLine) (from : ℕ) (armed : ArmedLines) → AreArmedFrom sent from armed → AreArmedFrom sent (from + 1) armed
armed_later sent from armed is = record { each = λ k line le lt there. is.each k line (omega (arith, le)) lt there; end = λ line lt there own. is.end line (omega (arith, lt)) there own }

pub armed_push : (sent : List SentLine) (all : List ArmedLines) (at : ℕ) (armed : ArmedLines) → length all ≡ at → AreArmedFrom sent at armed → AreAllArmed sent all → AreAllArmed sent (all ++ armed ∷ [])
armed_push sent all at armed many own before = each_push (λ (k : ℕ) (a : ArmedLines). AreArmedFrom sent k a) all armed (subst (λ (n : ℕ). AreArmedFrom sent n armed) (sym many) own) before

pub among_push : (sent : List SentLine) (all : List ArmedLines) (at : ℕ) (armed : ArmedLines) → length all ≡ at → IsAmong sent at armed → ((k : ℕ) (a : ArmedLines) → slice_get all k ≡ Some a → IsAmong sent k a)
    → (k : ℕ) (a : ArmedLines) → slice_get (all ++ armed ∷ []) k ≡ Some a → IsAmong sent k a
among_push sent all at armed many own before = each_push (λ (k : ℕ) (a : ArmedLines). IsAmong sent k a) all armed (subst (λ (n : ℕ). IsAmong sent n armed) (sym many) own) before

-- ---- what can be armed is no request

-- what is shorter than a request is none
short : (bytes : List ℕ) → length bytes < 20 → is_some (proc_in bytes) ≡ true → ⊥
short bytes lt some = by (nat_lt (length bytes) 20) (lt-ltb (length bytes) 20 lt) _ some where
  by : (b : Bool) → b ≡ true → (o : Option ℕ) → is_some (proc_by (if b then None else o)) ≡ true → ⊥
  by true e o is = absurd cc
  by false e o is = absurd cc

pub no_request_text : (bytes : List ℕ) → is_some (proc_in bytes) ≡ true → (x : Input) → bytes ≡ input_text x → CanBeArmed x → ⊥
no_request_text bytes some (input.Down serve) text can =
    let size : length bytes ≡ length (unit 1 ++ unit serve) = ap length text in let parts = length-append (unit 1) (unit serve) in
    let first = unit_size 1 in let last = unit_size serve in
    short bytes (omega (arith, size, parts, first, last)) some
no_request_text bytes some (input.FaultAt p number) text can =
    let size : length bytes ≡ length (unit 5 ++ (unit (proc_number p) ++ unit number)) = ap length text in let parts = length-append (unit 5) (unit (proc_number p) ++ unit number) in
    let others = length-append (unit (proc_number p)) (unit number) in let first = unit_size 5 in let second = unit_size (proc_number p) in let last = unit_size number in
    short bytes (omega (arith, size, parts, others, first, second, last)) some
no_request_text bytes some input.Up text can = can
no_request_text bytes some (input.Connect graph version) text can = can
no_request_text bytes some (input.Disconnect graph) text can = can
no_request_text bytes some (input.Request wind graph req) text can = can

pub no_request : MessagesReadBack → (bytes : List ℕ) → is_some (proc_in bytes) ≡ true → IsArmable (input_in bytes) → ⊥
no_request back bytes some armable = by (input_in bytes) refl armable where
  by : (m : Message Input) → input_in bytes ≡ m → IsArmable m → ⊥
  by (Whole x) read can = no_request_text bytes some x (back.0.1 bytes x read).1 can
  by (Wrong place) read can = can
