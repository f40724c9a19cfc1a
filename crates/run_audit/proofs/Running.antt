-- A run of a script, from what an audit finds.
use Rattle.std.proofs.Common.{◌≡◌, refl, sym, ap, subst, ◌∙◌, arith}
use Rattle.std.specs.Prelude.{ℕ, zero, suc, ◌<◌, ◌≤◌, ◌+◌, ◌-◌, ◌==◌, Bool, true, false, List, [], ◌∷◌, Option, None, Some, length, slice_get, take, if◌then◌else◌}
use Rattle.std.proofs.lemmas.Bool.{eqb-true}
use Rattle.script_lang.specs.declared.scripts.ControlLine.{ControlLine}
use Rattle.script_lang.specs.declared.scripts.Phase.{Phase}
use Rattle.script_lang.specs.declared.scripts.Script.{Script}
use Rattle.script_lang.specs.declared.scripts.When.TheVariants as moment
use Rattle.mount_log.proofs.Items.{some_is}
use Rattle.mount_log.specs.Controls.{control_in, control_at, IsTimely, IsCarriedIn, IsArmedIn}
use Rattle.mount_log.specs.Events.{IsEvent}
use Rattle.mount_log.specs.Follows.{RunOf}
use Rattle.fop_types.specs.declared.messages.Proc.{Proc}
use Rattle.mount_log.specs.Logs.{submits_in}
use Rattle.mount_log.specs.Submissions.{place_of_line, submits_of, submitted_at, event_of_reply, replied_at}
use Rattle.mount_log.specs.declared.logs.HubEvent.{HubEvent}
use Rattle.mount_log.specs.declared.logs.HubEvent.TheVariants as logged
use Rattle.mount_log.specs.declared.logs.Log.{Log}
use Rattle.mount_log.specs.declared.logs.ReplyLine.{ReplyLine}
use Rattle.mount_log.specs.declared.places.LineAt.{LineAt}
use Rattle.log_audit.specs.Called.{IsCallAt}
use Rattle.run_audit.specs.CallPhases.{IsAnsweredIn, HaveCalls}
use Rattle.run_audit.specs.Counting.{AreNumbers, AreSettled}
use Rattle.run_audit.specs.Controlled.{IsControlCarried, IsFound, IsOfControl, AreCarriedOut}
use Rattle.run_audit.specs.Noted.{event_in, sent_in, armed_in, how_at, carried_at, sent_at, armed_at, noted_for, course_of, ended_at, begun, AreRising, IsWithin}
use Rattle.run_audit.specs.Timed.{IsHowTimely}
use Rattle.run_audit.specs.declared.numbers.Numbers.{Numbers}
use Rattle.run_audit.specs.declared.carried.SentTables.{SentTables}
use Rattle.run_audit.specs.declared.run_notes.Carried.{Carried}
use Rattle.run_audit.specs.declared.run_notes.ControlAt.{ControlAt}
use Rattle.log_audit.specs.declared.calls_made.CallMade.{CallMade}
use Rattle.run_audit.specs.declared.run_notes.RunNotes.{RunNotes}
use Rattle.log_audit.proofs.Calling.{IsCallBy, by_number, counted, event_is, same_place}
use Rattle.run_audit.proofs.Called.{same_phase}
use Rattle.run_audit.proofs.Controlling.{carried_in}
use Rattle.run_audit.proofs.Settling.{nothing_else}
use Rattle.run_audit.proofs.Phased.{rises_to, begun_next}

-- ---- calls

record HasItem {X : Type 0} (xs : List X) (n : ℕ) : Type 0 where
  pub item : X
  pub there : slice_get xs n ≡ Some item

has_item : {X : Type 0} → (xs : List X) (n : ℕ) → n < length xs → HasItem xs n
has_item [] n lt = absurd (omega (arith, lt))
has_item (x ∷ xs) zero lt = record { item = x; there = refl }
has_item (x ∷ xs) (suc n) lt = let rest = has_item xs n (omega (arith, lt)) in record { item = rest.item; there = rest.there }

reply_bound : (replies : List ReplyLine) (number bound : ℕ) → ((k : ℕ) (r : ReplyLine) → slice_get replies k ≡ Some r → r.call ≡ number → r.event ≤ bound) → event_of_reply replies number ≤ bound
reply_bound [] number bound each = omega arith
reply_bound (r ∷ rs) number bound each = by (r.call == number) refl (reply_bound rs number bound (λ k x is. each (suc k) x is)) where
  by : (b : Bool) → (r.call == number) ≡ b → event_of_reply rs number ≤ bound → (if b then r.event else event_of_reply rs number) ≤ bound
  by true e rest = each 0 r refl (eqb-true r.call number e)
  by false e rest = rest

-- ---- the run

phases_are : (p q i j : ℕ) → ◌≡◌ {A = Option ControlAt} (Some (record { phase = p; at = i })) (Some (record { phase = q; at = j })) → (p ≡ q) × (i ≡ j)
phases_are p q i j e =
    let same : ◌≡◌ {A = ControlAt} (record { phase = p; at = i }) (record { phase = q; at = j }) = some_is (record { phase = p; at = i }) (record { phase = q; at = j }) e in
    (ap (λ (x : ControlAt). x.phase) same, ap (λ (x : ControlAt). x.at) same)

-- how a control was carried out
record IsHow (log : Log) (tables : SentTables) (notes : RunNotes) (phase at : ℕ) (c : ControlLine) : Type 0 where
  pub how : Carried
  pub is : how_at notes.carried phase at ≡ Some how
  pub carried : IsControlCarried log tables notes phase at c how

module _ (script : Script) (log : Log) (notes : RunNotes) (numbers : Numbers) (are : AreNumbers log numbers) (rising : AreRising notes.ended (length log.events)) (settled : AreSettled script numbers notes.ended (length log.events)) (have : HaveCalls script log notes.ended (length log.events)) (out : AreCarriedOut script log notes) where
  how_of : (phase at : ℕ) (c : ControlLine) → control_at script phase at ≡ Some c → IsHow log out.tables notes phase at c
  how_of phase at c is = by (slice_get script.phases phase) refl is where
    found : (o : Option Carried) → how_at notes.carried phase at ≡ o → IsFound log out.tables notes phase at c o → IsHow log out.tables notes phase at c
    found None e none = absurd none
    found (Some how) e own = record { how = how; is = e; carried = own }

    by : (o : Option Phase) → slice_get script.phases phase ≡ o → control_in o at ≡ Some c → IsHow log out.tables notes phase at c
    by None e none = absurd cc
    by (Some p) e there = found (how_at notes.carried phase at) refl ((out.phases phase p e).each at c there)

  turns : (phase i j : ℕ) (a b : ControlLine) → control_at script phase i ≡ Some a → control_at script phase j ≡ Some b → a.when ≡ moment.Now → b.when ≡ moment.Now → i < j
      → carried_at notes.carried phase i < carried_at notes.carried phase j
  turns phase i j a b x y p q lt = by (slice_get script.phases phase) refl x y where
    by : (o : Option Phase) → slice_get script.phases phase ≡ o → control_in o i ≡ Some a → control_in o j ≡ Some b → carried_at notes.carried phase i < carried_at notes.carried phase j
    by None e none other = absurd cc
    by (Some at) e first second = (out.phases phase at e).turns i j a b first second p q lt

  line : (phase i j m n brick count : ℕ) (p : Proc) (a b : ControlLine) → control_at script phase i ≡ Some a → control_at script phase j ≡ Some b
      → a.when ≡ moment.Before brick p count → b.when ≡ moment.Before brick p count → sent_at notes.carried phase i ≡ Some m → sent_at notes.carried phase j ≡ Some n → i < j → m < n
  line phase i j m n brick count p a b x y v w first second lt = by (slice_get script.phases phase) refl x y where
    by : (o : Option Phase) → slice_get script.phases phase ≡ o → control_in o i ≡ Some a → control_in o j ≡ Some b → m < n
    by None e none other = absurd cc
    by (Some at) e one two = (out.phases phase at e).line j b two i a lt one m n brick count p v w first second

  timely : (phase at : ℕ) (c : ControlLine) → control_at script phase at ≡ Some c → IsHowTimely script log notes phase at c (how_at notes.carried phase at)
  timely phase at c is = by (slice_get script.phases phase) refl is where
    by : (o : Option Phase) → slice_get script.phases phase ≡ o → control_in o at ≡ Some c → IsHowTimely script log notes phase at c (how_at notes.carried phase at)
    by None e none = absurd cc
    by (Some p) e there = out.timely phase p e at c there

  carried : (phase at : ℕ) (c : ControlLine) → control_at script phase at ≡ Some c
      → IsCarriedIn script log (course_of notes (length log.events)) phase at (carried_at notes.carried phase at) (sent_at notes.carried phase at) c
  carried phase at c is =
      let h = how_of phase at c is in
      subst (λ (o : Option Carried). IsCarriedIn script log (course_of notes (length log.events)) phase at (event_in o) (sent_in o) c) (sym h.is)
      (carried_in script log notes out.tables out.are phase at c h.how h.carried.within (subst (λ (o : Option Carried). IsHowTimely script log notes phase at c o) h.is (timely phase at c is)) h.carried.carried)

  within : (phase at : ℕ) (c : ControlLine) → control_at script phase at ≡ Some c → IsWithin notes.ended (length log.events) phase (carried_at notes.carried phase at)
  within phase at c is =
      let h = how_of phase at c is in subst (λ (o : Option Carried). IsWithin notes.ended (length log.events) phase (event_in o)) (sym h.is) h.carried.within

  arms : (phase at brick count : ℕ) (p : Proc) (c : ControlLine) → control_at script phase at ≡ Some c → c.when ≡ moment.Before brick p count
      → IsArmedIn log (armed_at notes.carried phase at) brick p count c.action (begun notes.ended (length log.events) phase) (carried_at notes.carried phase at)
  arms phase at brick count p c is when_is =
      let h = how_of phase at c is in
      subst (λ (o : Option Carried). IsArmedIn log (armed_in o) brick p count c.action (begun notes.ended (length log.events) phase) (event_in o)) (sym h.is) (h.carried.armed brick count p when_is)

  arm_is : (phase at brick count : ℕ) (p : Proc) (c : ControlLine) → control_at script phase at ≡ Some c → c.when ≡ moment.Before brick p count
      → noted_for notes (armed_at notes.carried phase at) None ≡ Some (record { phase = phase; at = at })
  arm_is phase at brick count p c is when_is =
      let h = how_of phase at c is in
      subst (λ (o : Option Carried). noted_for notes (armed_in o) None ≡ Some (record { phase = phase; at = at })) (sym h.is) (h.carried.arm brick count p when_is).own

  armed_once : (p i q j brick count other_brick other_count : ℕ) (proc other_proc : Proc) (a b : ControlLine) → control_at script p i ≡ Some a → control_at script q j ≡ Some b
      → a.when ≡ moment.Before brick proc count → b.when ≡ moment.Before other_brick other_proc other_count → armed_at notes.carried p i ≡ armed_at notes.carried q j → (p ≡ q) × (i ≡ j)
  armed_once p i q j brick count other_brick other_count proc other_proc a b x y v w e =
      phases_are p q i j (sym (arm_is p i brick count proc a x v) ∙ ap (λ (n : ℕ). noted_for notes n None) e ∙ arm_is q j other_brick other_count other_proc b y w)

  noted_is : (phase at : ℕ) (c : ControlLine) → control_at script phase at ≡ Some c → noted_for notes (carried_at notes.carried phase at) (sent_at notes.carried phase at) ≡ Some (record { phase = phase; at = at })
  noted_is phase at c is =
      let h = how_of phase at c is in
      subst (λ (o : Option Carried). noted_for notes (event_in o) (sent_in o) ≡ Some (record { phase = phase; at = at })) (sym h.is) h.carried.own

  once : (p i q j : ℕ) (a b : ControlLine) → control_at script p i ≡ Some a → control_at script q j ≡ Some b → carried_at notes.carried p i ≡ carried_at notes.carried q j → sent_at notes.carried p i ≡ sent_at notes.carried q j
      → (p ≡ q) × (i ≡ j)
  once p i q j a b x y e s =
      phases_are p q i j
      (sym (noted_is p i a x) ∙ ap (λ (n : ℕ). noted_for notes n (sent_at notes.carried p i)) e ∙ ap (λ (o : Option ℕ). noted_for notes (carried_at notes.carried q j) o) s ∙ noted_is q j b y)

  of_control : (number : ℕ) (e : HubEvent) → IsEvent log number e → IsOfControl script notes (length log.events) number e
  of_control number e event =
      let one = event.from_one in let n : number - 1 + 1 ≡ number = omega (arith, one) in
      subst (λ (k : ℕ). IsOfControl script notes (length log.events) k e) n (out.acts (number - 1) e event.there)

  submitted : (k session line : ℕ) (at : LineAt) → slice_get log.events k ≡ Some (logged.Submit session line) → place_of_line script session (submits_of session (take k log.events)) ≡ Some at
      → (k < ended_at notes.ended (length log.events) at.phase) × ((earlier : ℕ) → earlier < at.phase → ended_at notes.ended (length log.events) earlier ≤ k)
  submitted k session line at there place = (until, behind) where
    few : submits_in (take k log.events) < length have.calls
    few = let c = counted log.events k session line there in let m = have.are.many in omega (arith, c, m)

    found : HasItem have.calls (submits_in (take k log.events))
    found = has_item have.calls (submits_in (take k log.events)) few

    own : IsCallAt script log (submits_in (take k log.events)) found.item
    own = have.are.each (submits_in (take k log.events)) found.item found.there

    same : own.place ≡ k
    same = same_place log.events own.place k found.item.session found.item.line session line own.there there own.number_is

    phase : found.item.phase ≡ at.phase
    phase = same_phase script log (submits_in (take k log.events)) found.item own k session line at same there place

    event : found.item.event ≡ k + 1
    event = own.event_is ∙ ap (λ (n : ℕ). n + 1) same

    until : k < ended_at notes.ended (length log.events) at.phase
    until =
        let u = subst (λ (p : ℕ). found.item.event ≤ ended_at notes.ended (length log.events) p) phase (have.submitted (submits_in (take k log.events)) found.item found.there).until in
        omega (arith, u, event)

    behind : (earlier : ℕ) → earlier < at.phase → ended_at notes.ended (length log.events) earlier ≤ k
    behind earlier lt =
        let before : found.item.phase ≡ at.phase - 1 + 1 = let s : at.phase ≡ at.phase - 1 + 1 = omega (arith, lt) in phase ∙ s in
        let b : ended_at notes.ended (length log.events) (at.phase - 1) < found.item.event =
        subst (λ (n : ℕ). n < found.item.event) (ap (begun notes.ended (length log.events)) before ∙ begun_next notes.ended (length log.events) (at.phase - 1))
        (have.submitted (submits_in (take k log.events)) found.item found.there).behind in
        let r = rises_to notes.ended (length log.events) rising earlier (at.phase - 1) (omega (arith, lt)) in
        omega (arith, b, r, event)

  answered : (k session line number : ℕ) (at : LineAt) → slice_get log.events k ≡ Some (logged.Submit session line) → place_of_line script session (submits_of session (take k log.events)) ≡ Some at
      → submitted_at log number ≡ k + 1 → replied_at log number ≤ ended_at notes.ended (length log.events) at.phase
  answered k session line number at there place submit = reply_bound log.replies number (ended_at notes.ended (length log.events) at.phase) each where
    each : (j : ℕ) (r : ReplyLine) → slice_get log.replies j ≡ Some r → r.call ≡ number → r.event ≤ ended_at notes.ended (length log.events) at.phase
    each j r is call_is = subst (λ (p : ℕ). r.event ≤ ended_at notes.ended (length log.events) p) phase answer.until where
      answer : IsAnsweredIn have.calls notes.ended (length log.events) r
      answer = have.answered j r is

      by : IsCallBy have.calls r.call answer.call
      by = by_number have.calls r.call answer.call answer.there

      own : IsCallAt script log (r.call - 1) answer.call
      own = have.are.each (r.call - 1) answer.call by.there

      same : own.place ≡ k
      same =
          let e = event_is script log have.calls r.call answer.call have.are by in let p = own.event_is in
          let s : submitted_at log r.call ≡ k + 1 = ap (submitted_at log) call_is ∙ submit in
          omega (arith, e, p, s)

      phase : answer.call.phase ≡ at.phase
      phase = same_phase script log (r.call - 1) answer.call own k session line at same there place

  pub run_of : RunOf script log
  run_of = record {
    course = course_of notes (length log.events);
    phases = record {
      rises = rising;
      settled = λ phase le. nothing_else log numbers are script phase (ended_at notes.ended (length log.events) phase) (settled.each phase le);
      last = settled.all;
    };
    calls = record { alone = have.alone; submitted = submitted; answered = answered };
    controls = record {
      carried = carried;
      behind = λ phase at c is. (within phase at c is).behind;
      within = λ phase at c is. (within phase at c is).until;
      once = once;
      in_order = turns;
      in_line = line;
      answered = out.answered;
      no_other = λ number a event. of_control number (logged.Act a) event;
      sent_for = λ k line sent a there is can. out.sent k line there sent a is can;
    };
    arms = record {
      arms = arms;
      once = armed_once;
      no_other = λ number brick count p a event. of_control number (logged.Arm brick p count a) event;
    };
  }
