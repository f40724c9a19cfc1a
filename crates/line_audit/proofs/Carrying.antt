-- What was sent to connect and disconnect graphs and for controls, from what an audit finds.
use Rattle.std.proofs.Common.{◌≡◌, refl, sym, ap, subst, ◌∙◌, arith}
use Rattle.std.specs.Prelude.{ℕ, zero, suc, ◌<◌, ◌≤◌, ◌==◌, ◌+◌, ◌-◌, nat_lt, ◌&&◌, ◌||◌, not, Bool, true, false, List, [], ◌∷◌, Option, None, Some, length, slice_get, if◌then◌else◌}
use Rattle.std.specs.List.{list_any, AllByRecursion}
use Rattle.std.specs.Cmp.Derive.{both_true}
use Rattle.std.specs.Cmp.Lexicographic.{pointwise}
use Rattle.std.proofs.lemmas.Bool.{eq-eqb, eqb-true, ltb-true, ltb-false, or_parts}
use Rattle.std.proofs.lemmas.List.Folds.{list_any_at}
use Rattle.std.proofs.lemmas.Option.{get_or_from_slice_get, slice_get_within, slice_get_past}
use Rattle.fop_types.specs.declared.messages.Input.{Input}
use Rattle.fop_types.specs.declared.messages.Input.TheVariants as input
use Rattle.graph_build.specs.declared.plans.Plan.{Plan}
use Rattle.script_lang.specs.declared.scripts.Action.{Action}
use Rattle.script_lang.specs.declared.scripts.Action.TheVariants as action
use Rattle.script_lang.specs.declared.scripts.Script.{Script}
use Rattle.wire_xdr.specs.WireText.{input_text, IsInput}
use Rattle.wire_xdr.specs.Xdr.{IsUnit}
use Rattle.wire_messages.specs.Messages.{input_in, MessagesReadBack}
use Rattle.wire_messages.specs.declared.messages.Message.{Message}
use Rattle.wire_messages.specs.declared.messages.Message.TheVariants.{Whole, Wrong}
use Rattle.mount_log.specs.Connections.{is_sent_in, was_sent, is_open_after}
use Rattle.mount_log.specs.Connects.{sent_among, times_sent, uses_brick, newest_graph, is_live, opens_by, is_closed_after, is_switch, is_connect_due, control_input, IsInputText, ConnectsAreCaused}
use Rattle.mount_log.specs.Follows.{IsEvent}
use Rattle.mount_log.specs.declared.logs.HubEvent.{HubEvent}
use Rattle.mount_log.specs.declared.logs.HubEvent.TheVariants as logged
use Rattle.mount_log.specs.declared.logs.Log.{Log}
use Rattle.mount_log.specs.declared.logs.SentLine.{SentLine}
use Rattle.line_audit.specs.Caused.{IsSentFor, WasSentFor, IsActionCarried, AreCarried, IsCaused, AreCaused}
use Rattle.line_audit.specs.Linked.{what_of, item_of, items_of, in_event, IsConnectDue, IsLineDue, AreLinked, AreOfEvents}
use Rattle.line_audit.proofs.Linking.{at_line}
use Rattle.mount_log.proofs.Bools.{both, same_bool}
use Rattle.mount_log.proofs.Lists.{lists_same, same_list}

by_pair : (log : Log) (number : ℕ) (p q : ℕ × Input) → Some p ≡ Some q → was_sent log number p.0 p.1 ≡ true → was_sent log number q.0 q.1 ≡ true
by_pair log number p q is sent = subst (λ (r : ℕ × Input). was_sent log number r.0 r.1 ≡ true) (some_is p q is) sent where
  some_is : (a b : ℕ × Input) → Some a ≡ Some b → a ≡ b
  some_is a b e = cc

pub sent_at : (log : Log) (k number brick : ℕ) (x : Input) (line : SentLine) → slice_get log.sent k ≡ Some line → line.event ≡ number → line.brick ≡ brick → line.bytes ≡ input_text x → was_sent log number brick x ≡ true
sent_at log k number brick x line there event brick_is bytes =
    list_any_at (is_sent_in number brick x) log.sent k line (slice_get_within log.sent k line there)
    (subst (λ (l : SentLine). is_sent_in number brick x l ≡ true) (sym (get_or_from_slice_get log.sent k line line there)) here) where
      here : is_sent_in number brick x line ≡ true
      here = both_true (eq-eqb line.event number event) (both_true (eq-eqb line.brick brick brick_is) (lists_same line.bytes (input_text x) bytes))

-- the input of an action was sent
pub sent_for : (log : Log) (k number brick : ℕ) (a : Action) (line : SentLine) → slice_get log.sent k ≡ Some line → IsSentFor number brick a line → WasSentFor log number brick a
sent_for log k number brick (action.Down b serve) line there sent = sent_at log k number brick (input.Down serve) line there sent.event sent.brick_is (sent.bytes.text ∙ ap input_text sent.bytes.is_for)
sent_for log k number brick (action.Up b) line there sent = sent_at log k number brick input.Up line there sent.event sent.brick_is (sent.bytes.text ∙ ap input_text sent.bytes.is_for)
sent_for log k number brick (action.Fault b p n) line there sent = sent_at log k number brick (input.FaultAt p n) line there sent.event sent.brick_is (sent.bytes.text ∙ ap input_text sent.bytes.is_for)
sent_for log k number brick (action.Cut b) line there sent = record {}
sent_for log k number brick action.Heal line there sent = record {}
sent_for log k number brick (action.Switch volfile) line there sent = record {}

-- the action of an event has sent its input
carried_by : (log : Log) (number brick : ℕ) (a : Action) (x : Input) → IsActionCarried log number a → control_input a ≡ Some (brick, x) → was_sent log number brick x ≡ true
carried_by log number brick (action.Down b serve) x sent is = by_pair log number (b, input.Down serve) (brick, x) is sent
carried_by log number brick (action.Up b) x sent is = by_pair log number (b, input.Up) (brick, x) is sent
carried_by log number brick (action.Fault b p n) x sent is = by_pair log number (b, input.FaultAt p n) (brick, x) is sent
carried_by log number brick (action.Cut b) x sent is = absurd cc
carried_by log number brick action.Heal x sent is = absurd cc
carried_by log number brick (action.Switch volfile) x sent is = absurd cc

-- ---- what the text of an input is read as

module _ (back : MessagesReadBack) (script : Script) (plans : List Plan) (log : Log) (linked : AreLinked script plans log) where
  line_due : (k : ℕ) (line : SentLine) → slice_get log.sent k ≡ Some line → IsLineDue script plans log line (what_of (input_in line.bytes))
  line_due k line there = by (nat_lt (length log.events) line.event) refl where
    by : (b : Bool) → nat_lt (length log.events) line.event ≡ b → IsLineDue script plans log line (what_of (input_in line.bytes))
    by false e = (linked.each line.event (ltb-false (length log.events) line.event e)).lines k line there refl
    by true e = absurd (at_line (λ i. ⊥) log.sent k line.event line there refl (subst (AllByRecursion (λ i. ⊥)) (sym (linked.no_later line.event (ltb-true (length log.events) line.event e))) record {}))

  read_due : (k : ℕ) (line : SentLine) (x : Input) → slice_get log.sent k ≡ Some line → IsInput x → line.bytes ≡ input_text x → IsLineDue script plans log line (what_of (Whole x))
  read_due k line x there legal bytes = subst (λ (m : Message Input). IsLineDue script plans log line (what_of m)) (ap input_in bytes ∙ back.0.0 x legal) (line_due k line there)

  -- a Connect that was sent is among the lines
  found : (graph brick number : ℕ) → IsUnit graph → (lines : List SentLine) → ((k : ℕ) (line : SentLine) → slice_get lines k ≡ Some line → IsLineDue script plans log line (what_of (input_in line.bytes)))
      → list_any (is_sent_in number brick (input.Connect graph 1)) lines ≡ true → IsConnectDue script plans log graph brick number
  found graph brick number fits [] each sent = absurd cc
  found graph brick number fits (line ∷ lines) each sent = by (is_sent_in number brick (input.Connect graph 1) line) refl sent (found graph brick number fits lines (λ k l there. each (suc k) l there)) where
    by : (b : Bool) → is_sent_in number brick (input.Connect graph 1) line ≡ b → (b || list_any (is_sent_in number brick (input.Connect graph 1)) lines) ≡ true
        → (list_any (is_sent_in number brick (input.Connect graph 1)) lines ≡ true → IsConnectDue script plans log graph brick number) → IsConnectDue script plans log graph brick number
    by false is rest behind = behind rest
    by true is rest behind =
        let p = both (line.event == number) ((line.brick == brick) && pointwise ◌==◌ line.bytes (input_text (input.Connect graph 1))) is in
        let q = both (line.brick == brick) (pointwise ◌==◌ line.bytes (input_text (input.Connect graph 1))) p.1 in
        let bytes = same_list line.bytes (input_text (input.Connect graph 1)) q.1 in
        let due : IsConnectDue script plans log graph line.brick line.event =
        subst (λ (m : Message Input). IsLineDue script plans log line (what_of m)) (ap input_in bytes ∙ back.0.0 (input.Connect graph 1) (fits, refl)) (each 0 line refl) in
        subst (λ (n : ℕ). IsConnectDue script plans log graph n number) (eqb-true line.brick brick q.0) (subst (IsConnectDue script plans log graph line.brick) (eqb-true line.event number p.0) due)

  none_sent : (number brick : ℕ) (x : Input) (lines : List SentLine) → list_any (is_sent_in number brick x) lines ≡ false → sent_among number brick x lines ≡ 0
  none_sent number brick x [] none = refl
  none_sent number brick x (line ∷ lines) none =
      let p = or_parts (is_sent_in number brick x line) (list_any (is_sent_in number brick x) lines) none in
      let own : ◌≡◌ {A = ℕ} (if is_sent_in number brick x line then 1 else 0) 0 = ap (λ (b : Bool). if b then 1 else 0) p.0 in
      let rest = none_sent number brick x lines p.1 in
      omega (arith, own, rest)

  sent_once : (graph brick number : ℕ) → IsUnit graph → times_sent log number brick (input.Connect graph 1) ≤ 1
  sent_once graph brick number fits = by (was_sent log number brick (input.Connect graph 1)) refl where
    by : (b : Bool) → was_sent log number brick (input.Connect graph 1) ≡ b → times_sent log number brick (input.Connect graph 1) ≤ 1
    by true is = (found graph brick number fits log.sent line_due is).once
    by false is = let none = none_sent number brick (input.Connect graph 1) log.sent is in omega (arith, none)

  -- what has a cause is of an event
  none_later : (graph brick number : ℕ) → length log.events < number → is_connect_due script plans log graph brick number ≡ false
  none_later graph brick zero later = absurd (omega (arith, later))
  none_later graph brick (suc n) later =
      let none : slice_get log.events n ≡ None = slice_get_past log.events n (omega (arith, later)) in
      ap (λ (e : Option HubEvent).
      ((is_switch e && ((graph == newest_graph log (suc n)) && not (is_closed_after log brick n)))
      || (opens_by brick e && (is_live log graph (suc n) && not (is_open_after log graph brick n)))) && uses_brick script plans log graph brick) none

  connect_due : (graph brick number : ℕ) → IsUnit graph → brick < 256 → was_sent log number brick (input.Connect graph 1) ≡ is_connect_due script plans log graph brick number
  connect_due graph brick number fits low =
      same_bool (was_sent log number brick (input.Connect graph 1)) (is_connect_due script plans log graph brick number)
      (λ sent. (found graph brick number fits log.sent line_due sent).due) (λ due. by (nat_lt (length log.events) number) refl due) where
        by : (b : Bool) → nat_lt (length log.events) number ≡ b → is_connect_due script plans log graph brick number ≡ true → was_sent log number brick (input.Connect graph 1) ≡ true
        by false e due = (linked.each number (ltb-false (length log.events) number e)).due graph brick fits low due
        by true e due = let no : true ≡ false = sym due ∙ none_later graph brick number (ltb-true (length log.events) number e) in absurd cc

  whole : (line : SentLine) (m : Message Input) → input_in line.bytes ≡ m → IsLineDue script plans log line (what_of m) → IsInputText line.bytes
  whole line (Whole x) is due = let own = back.0.1 line.bytes x is in record { sent = x; legal = own.0; text = own.1 }
  whole line (Wrong place) is due = absurd due

  module _ (caused : AreCaused log) (carried : AreCarried log) where
    pub inputs_caused : ConnectsAreCaused script plans log
    inputs_caused = record {
      inputs = λ k line there. whole line (input_in line.bytes) refl (line_due k line there);
      connects = connect_due;
      once = sent_once;
      disconnects = λ k graph line there fits bytes. read_due k line (input.Disconnect graph) there fits bytes;
      cuts = λ graph brick number fits event opened. cut graph brick number fits event opened;
      requests = λ k wind graph line request there is. subst (λ (m : Message Input). IsLineDue script plans log line (what_of m)) is (line_due k line there);
      downs = λ k serve line there fits bytes.
          subst (λ m. IsCaused log line m) (ap input_in bytes ∙ back.0.0 (input.Down serve) fits) (caused.each k line there);
      ups = λ k line there bytes.
          subst (λ m. IsCaused log line m) (ap input_in bytes ∙ back.0.0 input.Up record {}) (caused.each k line there);
      carried = λ number brick a sent event is. carried_by log number brick a sent (acted number a event) is;
    } where
      acted : (number : ℕ) (a : Action) → IsEvent log number (logged.Act a) → IsActionCarried log number a
      acted number a event =
          let from = event.from_one in let n : (number - 1) + 1 ≡ number = omega (arith, from) in
          subst (λ (i : ℕ). IsActionCarried log i a) n (carried.each (number - 1) (logged.Act a) event.there)

      cut : (graph brick number : ℕ) → IsUnit graph → IsEvent log number (logged.Act (action.Cut brick)) → is_open_after log graph brick (number - 1) ≡ true → was_sent log number brick (input.Disconnect graph) ≡ true
      cut graph brick number fits event opened =
          let from = event.from_one in let lt = slice_get_within log.events (number - 1) (logged.Act (action.Cut brick)) event.there in
          (linked.each number (omega (arith, from, lt))).cuts graph brick fits event opened

-- ---- and back

none_of : (sent : List SentLine) (events number : ℕ) → AreOfEvents sent events → events < number → in_event number (items_of sent) ≡ []
none_of [] events number are later = refl
none_of (line ∷ sent) events number are later = by (line.event == number) refl (none_of sent events number (λ k l there. are (suc k) l there) later) where
  by : (b : Bool) → (line.event == number) ≡ b → in_event number (items_of sent) ≡ [] → (if b then item_of line ∷ in_event number (items_of sent) else in_event number (items_of sent)) ≡ []
  by true e rest = let le = are 0 line refl in let same = eqb-true line.event number e in absurd (omega (arith, le, same, later))
  by false e rest = rest

module _ (back : MessagesReadBack) (script : Script) (plans : List Plan) (log : Log) (caused : ConnectsAreCaused script plans log)
    (bricks : (k : ℕ) (line : SentLine) → slice_get log.sent k ≡ Some line → line.brick < 256) where
  line_due_back : (k : ℕ) (line : SentLine) → slice_get log.sent k ≡ Some line → (m : Message Input) → input_in line.bytes ≡ m → IsLineDue script plans log line (what_of m)
  line_due_back k line there (Whole (input.Connect graph version)) read =
      let own = back.0.1 line.bytes (input.Connect graph version) read in let fits : IsUnit graph = own.0.0 in
      let text : line.bytes ≡ input_text (input.Connect graph 1) = own.1 ∙ ap (λ (n : ℕ). input_text (input.Connect graph n)) own.0.1 in
      record {
        due = sym (caused.connects graph line.brick line.event fits (bricks k line there)) ∙ sent_at log k line.event line.brick (input.Connect graph 1) line there refl refl text;
        once = caused.once graph line.brick line.event fits;
      }
  line_due_back k line there (Whole (input.Disconnect graph)) read = let own = back.0.1 line.bytes (input.Disconnect graph) read in caused.disconnects k graph line there own.0 own.1
  line_due_back k line there (Whole (input.Request wind graph req)) read = caused.requests k wind graph line req there read
  line_due_back k line there (Whole (input.Down serve)) read = tt
  line_due_back k line there (Whole input.Up) read = tt
  line_due_back k line there (Whole (input.FaultAt p n)) read = tt
  line_due_back k line there (Wrong place) read =
      let text = caused.inputs k line there in
      let no : Wrong place ≡ Whole text.sent = sym read ∙ ap input_in text.text ∙ back.0.0 text.sent text.legal in absurd cc

  pub linked_back : AreOfEvents log.sent (length log.events) → AreLinked script plans log
  linked_back are = record {
    each = λ number le. record {
      lines = λ k line there same. line_due_back k line there (input_in line.bytes) refl;
      due = λ graph brick fits low due. caused.connects graph brick number fits low ∙ due;
      cuts = λ graph brick fits acts opened. caused.cuts graph brick number fits acts opened;
    };
    no_later = λ number later. none_of log.sent (length log.events) number are later;
  }
