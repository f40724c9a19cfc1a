-- How controls are carried out, from what an audit finds.
use Rattle.std.proofs.Common.{◌≡◌, refl, sym, ap, subst, ◌∙◌, arith, inl, inr}
use Rattle.std.specs.Prelude.{ℕ, zero, suc, ◌<◌, ◌≤◌, ◌+◌, ◌⊎◌, nat_lt, Bool, true, false, List, [], ◌∷◌, Option, None, Some, length, slice_get}
use Rattle.std.proofs.lemmas.Bool.{ltb-true, ltb-false}
use Rattle.fop_types.specs.declared.messages.Input.{Input}
use Rattle.fop_types.specs.declared.messages.Proc.{Proc}
use Rattle.script_lang.specs.declared.scripts.Action.{Action}
use Rattle.script_lang.specs.declared.scripts.ControlLine.{ControlLine}
use Rattle.script_lang.specs.declared.scripts.Script.{Script}
use Rattle.script_lang.specs.declared.scripts.When.TheVariants as moment
use Rattle.wire_xdr.specs.WireText.{input_text, IsInputOf}
use Rattle.wire_messages.proofs.ReadBack.{input_read_back}
use Rattle.wire_messages.specs.Messages.{IsSaid, input_in}
use Rattle.wire_messages.specs.declared.messages.Message.{Message}
use Rattle.wire_messages.specs.declared.messages.Message.TheVariants.{Whole, Wrong}
use Rattle.mount_log.proofs.Items.{some_is}
use Rattle.mount_log.specs.Arms.{IsArmedLine, IsSentBefore, IsNth}
use Rattle.mount_log.specs.Controls.{IsTimely, IsCarriedIn, ByEvent, ByRequest}
use Rattle.mount_log.specs.Events.{IsEvent}
use Rattle.mount_log.specs.Procedures.{rank_in, proc_by}
use Rattle.mount_log.specs.declared.logs.HubEvent.{HubEvent}
use Rattle.mount_log.specs.declared.logs.HubEvent.TheVariants as logged
use Rattle.mount_log.specs.declared.logs.Log.{Log}
use Rattle.mount_log.specs.declared.logs.SentLine.{SentLine}
use Rattle.log_audit.specs.Armed.{AreArmedFrom}
use Rattle.run_audit.specs.Noted.{event_in, begun, course_of, IsWithin}
use Rattle.run_audit.specs.Controlled.{Says, SendsAction, IsSentFor, IsCarriedSo, IsArmed, IsControlCarried, IsFound, AreControlsCarried, Passes, AreFromOne, AreInTurn, AreTables}
use Rattle.run_audit.specs.declared.carried.SentTables.{SentTables}
use Rattle.run_audit.specs.declared.run_notes.Carried.{Carried}
use Rattle.run_audit.specs.declared.run_notes.RunNotes.{RunNotes}
use Rattle.mount_log.proofs.Lists.{each_next}

pub sends : (action : Action) (bytes : List ℕ) (message : Message Input) → IsSaid IsInputOf input_text bytes message → Says action message → SendsAction action bytes
sends action bytes (Whole x) said is = record { sent = x; is_input = is; legal = said.0; text = said.1 }
sends action bytes (Wrong place) said none = absurd none

pub said_by : (action : Action) (bytes : List ℕ) (message : Message Input) → message ≡ input_in bytes → SendsAction action bytes → Says action message
said_by action bytes message read own = subst (λ (m : Message Input). Says action m) (sym (read ∙ ap input_in own.text ∙ input_read_back own.sent own.legal)) own.is_input

line_is : (line : SentLine) (number brick : ℕ) (bytes : List ℕ) → line.event ≡ number → line.brick ≡ brick → line.bytes ≡ bytes → line ≡ record { event = number; brick = brick; bytes = bytes }
line_is line number brick bytes e b t =
    let one : line ≡ record { event = number; brick = line.brick; bytes = line.bytes } = ap (λ (n : ℕ). record line { event = n }) e in
    let two : record line { event = number } ≡ record { event = number; brick = brick; bytes = line.bytes } = ap (λ (n : ℕ). record { event = number; brick = n; bytes = line.bytes }) b in
    one ∙ two ∙ ap (λ (l : List ℕ). record { event = number; brick = brick; bytes = l }) t

pub record IsRank (o : Option ℕ) : Type 0 where
  pub rank : ℕ
  pub is : o ≡ Some rank

pub rank_by_proc : (o : Option ℕ) (p : Proc) → proc_by o ≡ Some p → IsRank o
rank_by_proc None p none = absurd cc
rank_by_proc (Some rank) p is = record { rank = rank; is = refl }

-- the line at a place was sent before its request, and it is that one of its procedure
module _ (log : Log) (notes : RunNotes) (tables : SentTables) (are : AreTables notes.ended log tables) (phase at number brick count : ℕ) (p : Proc) (action : Action) (within : IsWithin notes.ended (length log.events) phase number)
    (found : IsSentFor log.sent tables at number brick p count action) where
  from : AreArmedFrom log.sent at found.before.lines
  from = are.armed at found.before.lines found.before.there

  alike : {line : SentLine} → IsArmedLine found.before.lines.event found.before.lines.brick found.own.line → IsArmedLine found.before.lines.event found.before.lines.brick line → IsArmedLine number brick line
  alike x y = record { armable = y.armable; same_brick = y.same_brick ∙ sym x.same_brick ∙ found.own.same_brick; same_event = y.same_event ∙ sym x.same_event ∙ found.own.same_event }

  pub sent_before : IsSentBefore log number brick p action
  sent_before = record {
    place = at;
    request_at = found.before.lines.stop;
    sent = found.own.sends.sent;
    request = found.before.request.line;
    is_input = found.own.sends.is_input;
    there = found.own.there ∙ ap Some (line_is found.own.line number brick (input_text found.own.sends.sent) found.own.same_event found.own.same_brick found.own.sends.text);
    later = found.before.later;
    between = λ k line behind below is. alike (from.each at found.own.line (omega arith) found.before.later found.own.there) (from.each k line (omega (arith, behind)) below is);
    request_there = found.before.request.there;
    same_brick = found.before.request.is.same_brick;
    same_event = found.before.request.is.same_event;
    is_request = found.before.request.is.is_request;
  }

  pub is_nth : IsNth log (begun notes.ended (length log.events) phase) found.before.lines.stop count
  is_nth = record {
    line = found.before.request.line;
    there = found.before.request.there;
    rank = ranked.rank;
    rank_is = ranked.is;
    count_is =
        are.nth found.before.lines.stop count found.before.nth found.before.request.line found.before.request.there phase ranked.rank
        (subst (λ (n : ℕ). IsWithin notes.ended (length log.events) phase n) (sym found.before.request.is.same_event) within) ranked.is;
  } where
    ranked : IsRank (rank_in found.before.request.line.bytes)
    ranked = rank_by_proc (rank_in found.before.request.line.bytes) p found.before.request.is.is_request

pub carried_in : (script : Script) (log : Log) (notes : RunNotes) (tables : SentTables) → AreTables notes.ended log tables → (phase at : ℕ) (c : ControlLine) (how : Carried)
    → IsWithin notes.ended (length log.events) phase how.event → (how.sent ≡ None → IsTimely script log (course_of notes (length log.events)) phase at how.event c)
    → IsCarriedSo log tables how.event how.sent c → IsCarriedIn script log (course_of notes (length log.events)) phase at how.event how.sent c
unfolding sent_before
carried_in script log notes tables are phase at c how within timely so = by how.sent refl so where
  by : (o : Option ℕ) → how.sent ≡ o → IsCarriedSo log tables how.event o c → IsCarriedIn script log (course_of notes (length log.events)) phase at how.event how.sent c
  by None is event = ByEvent is event (timely is)
  by (Some place) is own =
      ByRequest own.brick own.proc own.count own.when_is (sent_before log notes tables are phase place how.event own.brick own.count own.proc c.action within own.line) is
      (is_nth log notes tables are phase place how.event own.brick own.count own.proc c.action within own.line)

pub armed_by : (log : Log) (number brick count since until : ℕ) (p : Proc) (c : ControlLine) → c.when ≡ moment.Before brick p count → since < number → number < until → IsEvent log number (logged.Arm brick p count c.action)
    → IsArmed log number c since until
armed_by log number brick count since until p c is behind before event b n q when_is =
    let same : moment.Before brick p count ≡ moment.Before b q n = sym is ∙ when_is in
    record { event = subst (λ (e : HubEvent). IsEvent log number e) (arm_is same) event; behind = behind; before = before } where
      arm_is : moment.Before brick p count ≡ moment.Before b q n → logged.Arm brick p count c.action ≡ logged.Arm b q n c.action
      arm_is e = cc

pub no_arm : (log : Log) (number since until : ℕ) (c : ControlLine) → ((brick count : ℕ) (p : Proc) → c.when ≡ moment.Before brick p count → ⊥) → IsArmed log number c since until
no_arm log number since until c none b n q is = absurd (none b n q is)

-- ---- the controls of a phase, with one more

pub control_next : (log : Log) (tables : SentTables) (notes : RunNotes) (phase : ℕ) (controls : List ControlLine) (carried : List Carried) (n : ℕ) (c : ControlLine) (how : Carried)
    → slice_get controls n ≡ Some c → slice_get carried n ≡ Some how → IsControlCarried log tables notes phase n c how
    → ((k : ℕ) (a : ControlLine) → k < n → slice_get controls k ≡ Some a → IsFound log tables notes phase k a (slice_get carried k))
    → (k : ℕ) (a : ControlLine) → k < n + 1 → slice_get controls k ≡ Some a → IsFound log tables notes phase k a (slice_get carried k)
control_next log tables notes phase controls carried n c how there is own before =
    each_next (λ (k : ℕ) (a : ControlLine). IsFound log tables notes phase k a (slice_get carried k)) controls n c there
    (subst (λ (o : Option Carried). IsFound log tables notes phase n c o) (sym is) own) before

-- one of the first n controls has no condition, and was carried out in the event
pub record IsOneBefore (controls : List ControlLine) (carried : List Carried) (n number : ℕ) : Type 0 where
  pub index : ℕ
  pub control : ControlLine
  pub early : index < n
  pub there : slice_get controls index ≡ Some control
  pub now : control.when ≡ moment.Now
  pub is : event_in (slice_get carried index) ≡ number

-- the first n controls are carried out in turn, those without a condition by the event `last`
pub record AreSoFar (controls : List ControlLine) (carried : List Carried) (n last : ℕ) : Type 0 where
  pub low : (i : ℕ) (a : ControlLine) → i < n → slice_get controls i ≡ Some a → a.when ≡ moment.Now → event_in (slice_get carried i) ≤ last
  pub turns : (i j : ℕ) (a b : ControlLine) → slice_get controls i ≡ Some a → slice_get controls j ≡ Some b → a.when ≡ moment.Now → b.when ≡ moment.Now → i < j → j < n
      → event_in (slice_get carried i) < event_in (slice_get carried j)
  pub own : (last ≡ 0) ⊎ IsOneBefore controls carried n last

pub none_so_far : (controls : List ControlLine) (carried : List Carried) → AreSoFar controls carried 0 0
none_so_far controls carried = record { low = λ i a lt is now. absurd (omega (arith, lt)); turns = λ i j a b x y p q lt below. absurd (omega (arith, below)); own = inl refl }

pub next_so_far : (controls : List ControlLine) (carried : List Carried) (n last next : ℕ) (c : ControlLine) → slice_get controls n ≡ Some c → Passes c (event_in (slice_get carried n)) last next
    → AreSoFar controls carried n last → AreSoFar controls carried (n + 1) next
next_so_far controls carried n last next c there passes before = record { low = low; turns = turns; own = own passes.is before.own } where
  own : ((c.when ≡ moment.Now) × (next ≡ event_in (slice_get carried n))) ⊎ (next ≡ last) → (last ≡ 0) ⊎ IsOneBefore controls carried n last → (next ≡ 0) ⊎ IsOneBefore controls carried (n + 1) next
  own (inl here) was = inr (record { index = n; control = c; early = omega arith; there = there; now = here.0; is = sym here.1 })
  own (inr kept) (inl none) = inl (kept ∙ none)
  own (inr kept) (inr one) = inr (record { index = one.index; control = one.control; early = let e = one.early in omega (arith, e); there = one.there; now = one.now; is = one.is ∙ sym kept })

  same : (k : ℕ) (a : ControlLine) → n ≡ k → slice_get controls k ≡ Some a → a ≡ c
  same k a e is = some_is a c (sym is ∙ ap (slice_get controls) (sym e) ∙ there)

  low : (i : ℕ) (a : ControlLine) → i < n + 1 → slice_get controls i ≡ Some a → a.when ≡ moment.Now → event_in (slice_get carried i) ≤ next
  low i a lt is now = by (nat_lt i n) refl where
    by : (b : Bool) → nat_lt i n ≡ b → event_in (slice_get carried i) ≤ next
    by true e = let l = before.low i a (ltb-true i n e) is now in let k = passes.kept in omega (arith, l, k)
    by false e =
        let le = ltb-false i n e in let at : n ≡ i = omega (arith, lt, le) in
        let own = passes.own (ap (λ (x : ControlLine). x.when) (sym (same i a at is)) ∙ now) in
        subst (λ (k : ℕ). event_in (slice_get carried k) ≤ next) at own

  turns : (i j : ℕ) (a b : ControlLine) → slice_get controls i ≡ Some a → slice_get controls j ≡ Some b → a.when ≡ moment.Now → b.when ≡ moment.Now → i < j → j < n + 1
      → event_in (slice_get carried i) < event_in (slice_get carried j)
  turns i j a b x y p q lt below = by (nat_lt j n) refl where
    by : (t : Bool) → nat_lt j n ≡ t → event_in (slice_get carried i) < event_in (slice_get carried j)
    by true e = before.turns i j a b x y p q lt (ltb-true j n e)
    by false e =
        let le = ltb-false j n e in let at : n ≡ j = omega (arith, below, le) in
        let l = before.low i a (omega (arith, lt, at)) x p in
        let r = passes.rises (ap (λ (z : ControlLine). z.when) (sym (same j b at y)) ∙ q) in
        let here : event_in (slice_get carried n) ≡ event_in (slice_get carried j) = ap (λ (k : ℕ). event_in (slice_get carried k)) at in
        omega (arith, l, r, here)

pub all_in_turn : (controls : List ControlLine) (carried : List Carried) (n last : ℕ) → length controls ≤ n → AreSoFar controls carried n last → AreInTurn controls carried
all_in_turn controls carried n last past so_far i j a b x y p q lt = so_far.turns i j a b x y p q lt (let within = slice_within controls j b y in omega (arith, within, past)) where
  slice_within : (xs : List ControlLine) (k : ℕ) (c : ControlLine) → slice_get xs k ≡ Some c → k < length xs
  slice_within [] k c e = absurd cc
  slice_within (z ∷ xs) zero c e = omega arith
  slice_within (z ∷ xs) (suc k) c e = let ih = slice_within xs k c e in omega (arith, ih)

-- where controls without a condition are in turn, the next one comes later
pub in_turn_later : (controls : List ControlLine) (carried : List Carried) (n last : ℕ) (c : ControlLine) → slice_get controls n ≡ Some c → c.when ≡ moment.Now → event_in (slice_get carried n) ≤ last → AreSoFar controls carried n last
    → AreFromOne controls carried → AreInTurn controls carried → ⊥
in_turn_later controls carried n last c there now low so_far from_one turns = by so_far.own where
  by : (last ≡ 0) ⊎ IsOneBefore controls carried n last → ⊥
  by (inl none) = let f = from_one n c there in absurd (omega (arith, f, none, low))
  by (inr one) = let t = turns one.index n one.control c one.there there one.now now one.early in let is = one.is in absurd (omega (arith, t, is, low))

-- controls that were carried out were so in events
pub from_one : (log : Log) (tables : SentTables) (notes : RunNotes) (phase : ℕ) (controls : List ControlLine) (carried : List Carried) → AreControlsCarried log tables notes phase controls carried → AreFromOne controls carried
from_one log tables notes phase controls carried each i c there = by (slice_get carried i) (each i c there) where
  by : (o : Option Carried) → IsFound log tables notes phase i c o → 1 ≤ event_in o
  by None none = absurd none
  by (Some how) is = let b = is.within.behind in omega (arith, b)

pub found_at : (log : Log) (tables : SentTables) (notes : RunNotes) (phase at : ℕ) (c : ControlLine) (how : Carried) (o : Option Carried) → o ≡ Some how → IsFound log tables notes phase at c o → IsControlCarried log tables notes phase at c how
found_at log tables notes phase at c how o is own = subst (λ (x : Option Carried). IsFound log tables notes phase at c x) is own
