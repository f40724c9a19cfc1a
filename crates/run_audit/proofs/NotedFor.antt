-- The control that is noted for an event, or for a line that was sent, is the one that it carries out.
use Rattle.std.proofs.Common.{◌≡◌, refl, sym, ap, subst, ◌∙◌, arith}
use Rattle.std.specs.Prelude.{ℕ, ◌<◌, ◌≤◌, ◌+◌, ◌-◌, Bool, true, List, Option, None, Some, slice_get}
use Rattle.fop_types.specs.declared.messages.Proc.{Proc}
use Rattle.script_lang.specs.declared.scripts.Action.{Action}
use Rattle.script_lang.specs.declared.scripts.ControlLine.{ControlLine}
use Rattle.script_lang.specs.declared.scripts.Phase.{Phase}
use Rattle.script_lang.specs.declared.scripts.Script.{Script}
use Rattle.script_lang.specs.declared.scripts.When.TheVariants as moment
use Rattle.mount_log.proofs.Items.{some_is}
use Rattle.mount_log.specs.Controls.{control_in, control_at, IsFollowing, IsSentFor, ByAction, ByArmed}
use Rattle.mount_log.specs.Events.{IsEvent}
use Rattle.mount_log.specs.declared.logs.HubEvent.TheVariants as logged
use Rattle.mount_log.specs.declared.logs.Log.{Log}
use Rattle.mount_log.specs.declared.logs.SentLine.{SentLine}
use Rattle.run_audit.specs.Controlled.{IsCarriedSo, IsControlCarried, IsFound, ArePhasesCarried, IsNoted, AreNoted}
use Rattle.run_audit.specs.Noted.{event_in, armed_in, sent_in, how_at, carried_at, sent_at, armed_at, noted_for, course_of}
use Rattle.run_audit.specs.SentFor.{IsFirst}
use Rattle.run_audit.specs.declared.carried.SentTables.{SentTables}
use Rattle.run_audit.specs.declared.run_notes.Carried.{Carried}
use Rattle.run_audit.specs.declared.run_notes.ControlAt.{ControlAt}
use Rattle.run_audit.specs.declared.run_notes.RunNotes.{RunNotes}

-- what holds of a control at a place holds where a note says the place
moved : (P : ℕ → ℕ → Type 0) (phase place : ℕ) (at : ControlAt) → ◌≡◌ {A = Option ControlAt} (Some (record { phase = phase; at = place })) (Some at) → P phase place → P at.phase at.at
moved P phase place at e own = subst (λ (x : ControlAt). P x.phase x.at) (some_is (record { phase = phase; at = place }) at e) own

-- a control that was carried out in an event
pub record IsNotedAt (script : Script) (notes : RunNotes) (number : ℕ) (place : Option ℕ) (at : ControlAt) (c : ControlLine) : Type 0 where
  pub there : control_at script at.phase at.at ≡ Some c
  pub number_is : carried_at notes.carried at.phase at.at ≡ number
  pub sent_is : sent_at notes.carried at.phase at.at ≡ place

module _ (script : Script) (notes : RunNotes) (noted : AreNoted script notes) where
  pub noted_at : (number : ℕ) (place : Option ℕ) (at : ControlAt) (phase k : ℕ) (c : ControlLine) → 1 ≤ number → noted_for notes number place ≡ Some at → control_at script phase k ≡ Some c → carried_at notes.carried phase k ≡ number
      → sent_at notes.carried phase k ≡ place → IsNotedAt script notes number place at c
  noted_at number place at phase k c some own there carried sent = by (how_at notes.carried phase k) refl where
    by : (o : Option Carried) → how_at notes.carried phase k ≡ o → IsNotedAt script notes number place at c
    by None none = absurd (let z : event_in None ≡ number = ap event_in (sym none) ∙ carried in omega (arith, z, some))
    by (Some how) is =
        let event : how.event ≡ number = ap event_in (sym is) ∙ carried in
        let line : how.sent ≡ place = ap sent_in (sym is) ∙ sent in
        let here : noted_for notes number place ≡ Some (record { phase = phase; at = k }) =
        subst (λ (o : Option ℕ). noted_for notes number o ≡ Some (record { phase = phase; at = k })) line
        (subst (λ (n : ℕ). noted_for notes n how.sent ≡ Some (record { phase = phase; at = k })) event (noted phase k c how there is).own) in
        let e : ◌≡◌ {A = Option ControlAt} (Some (record { phase = phase; at = k })) (Some at) = sym here ∙ own in
        record {
          there = moved (λ p j. control_at script p j ≡ Some c) phase k at e there;
          number_is = moved (λ p j. carried_at notes.carried p j ≡ number) phase k at e carried;
          sent_is = moved (λ p j. sent_at notes.carried p j ≡ place) phase k at e sent;
        }

  -- the line of a control that was armed
  pub line_noted : (k phase place : ℕ) (c : ControlLine) → control_at script phase place ≡ Some c → sent_at notes.carried phase place ≡ Some k → slice_get notes.by_line k ≡ Some (record { phase = phase; at = place })
  line_noted k phase place c there sent = by (how_at notes.carried phase place) refl where
    by : (o : Option Carried) → how_at notes.carried phase place ≡ o → slice_get notes.by_line k ≡ Some (record { phase = phase; at = place })
    by None none = absurd (let z : sent_in None ≡ Some k = ap sent_in (sym none) ∙ sent in cc)
    by (Some how) is = subst (λ (o : Option ℕ). noted_for notes how.event o ≡ Some (record { phase = phase; at = place })) (ap sent_in (sym is) ∙ sent) (noted phase place c how there is).own

  -- the event that armed a control
  pub noted_arm : (number : ℕ) (at : ControlAt) (phase k brick count : ℕ) (p : Proc) (c : ControlLine) → 1 ≤ number → noted_for notes number None ≡ Some at → control_at script phase k ≡ Some c → armed_at notes.carried phase k ≡ number
      → c.when ≡ moment.Before brick p count → (control_at script at.phase at.at ≡ Some c) × (armed_at notes.carried at.phase at.at ≡ number)
  noted_arm number at phase k brick count p c some own there armed when_is = by (how_at notes.carried phase k) refl where
    by : (o : Option Carried) → how_at notes.carried phase k ≡ o → (control_at script at.phase at.at ≡ Some c) × (armed_at notes.carried at.phase at.at ≡ number)
    by None none = absurd (let z : armed_in None ≡ number = ap armed_in (sym none) ∙ armed in omega (arith, z, some))
    by (Some how) is =
        let event : how.armed ≡ number = ap armed_in (sym is) ∙ armed in
        let here : noted_for notes number None ≡ Some (record { phase = phase; at = k }) =
        subst (λ (n : ℕ). noted_for notes n None ≡ Some (record { phase = phase; at = k })) event ((noted phase k c how there is).arm brick count p when_is).own in
        let e : ◌≡◌ {A = Option ControlAt} (Some (record { phase = phase; at = k })) (Some at) = sym here ∙ own in (
          moved (λ q j. control_at script q j ≡ Some c) phase k at e there,
          moved (λ q j. armed_at notes.carried q j ≡ number) phase k at e armed,
        )

  -- an event that a control which follows a request carries out is noted for it
  pub following_noted : (last phase number : ℕ) → 1 ≤ number → (f : IsFollowing script (course_of notes last) phase number) → noted_for notes number None ≡ Some (record { phase = phase; at = f.at })
  following_noted last phase number some f = by (how_at notes.carried phase f.at) refl where
    by : (o : Option Carried) → how_at notes.carried phase f.at ≡ o → noted_for notes number None ≡ Some (record { phase = phase; at = f.at })
    by None none = absurd (let z : event_in None ≡ number = ap event_in (sym none) ∙ f.number_is in omega (arith, z, some))
    by (Some how) is =
        let own = noted phase f.at f.control how f.there is in
        let event : how.event ≡ number = ap event_in (sym is) ∙ f.number_is in
        subst (λ (o : Option ℕ). noted_for notes number o ≡ Some (record { phase = phase; at = f.at })) (own.by_event f.brick f.count f.proc f.when_is)
        (subst (λ (n : ℕ). noted_for notes n how.sent ≡ Some (record { phase = phase; at = f.at })) event own.own)

-- an event is noted by its place
pub by_place : (notes : RunNotes) (k : ℕ) (at : ControlAt) → slice_get notes.by_event k ≡ Some at → noted_for notes (k + 1) None ≡ Some at
by_place notes k at is = let s : k + 1 - 1 ≡ k = omega arith in ap (slice_get notes.by_event) s ∙ is

-- controls that were carried out are noted
pub noted_of : (script : Script) (log : Log) (tables : SentTables) (notes : RunNotes) → ArePhasesCarried script log tables notes → AreNoted script notes
noted_of script log tables notes carried phase at c how there is = by (slice_get script.phases phase) refl there where
  found : (o : Option Carried) → o ≡ Some how → IsFound log tables notes phase at c o → IsControlCarried log tables notes phase at c how
  found o e own = subst (λ (x : Option Carried). IsFound log tables notes phase at c x) e own

  no_line : (o : Option ℕ) → how.sent ≡ o → IsCarriedSo log tables how.event o c → (brick count : ℕ) (p : Proc) → c.when ≡ moment.After brick p count → how.sent ≡ None
  no_line None e so brick count p after = e
  no_line (Some place) e so brick count p after = absurd (let x : moment.Before so.brick so.proc so.count ≡ moment.After brick p count = sym so.when_is ∙ after in cc)

  by : (o : Option Phase) → slice_get script.phases phase ≡ o → control_in o at ≡ Some c → IsNoted notes phase at c how
  by None e none = absurd cc
  by (Some p) e here = let own = found (how_at notes.carried phase at) is ((carried phase p e).each at c here) in record { own = own.own; arm = own.arm; by_event = no_line how.sent refl own.carried }

-- what a line was sent for: the action of its event, as its first line, or the control that is noted for it
pub sent_by : (script : Script) (log : Log) (notes : RunNotes) (last k : ℕ) (line : SentLine) (a : Action) (at : ControlAt) (found : Bool) → AreNoted script notes → ((here : ControlAt) → slice_get notes.by_line k ≡ Some here → at ≡ here)
    → (IsEvent log line.event (logged.Act a) → IsFirst log.sent k line.event → found ≡ true)
    → ((c : ControlLine) → control_at script at.phase at.at ≡ Some c → sent_at notes.carried at.phase at.at ≡ Some k → found ≡ true) → IsSentFor script log (course_of notes last) k line a → found ≡ true
sent_by script log notes last k line a at found noted read act armed (ByAction event first) = act event (λ before some there. first before some there)
sent_by script log notes last k line a at found noted read act armed (ByArmed phase place c there sent) =
    let e = read (record { phase = phase; at = place }) (line_noted script notes noted k phase place c there sent) in
    armed c (subst (λ (x : ControlAt). control_at script x.phase x.at ≡ Some c) (sym e) there) (subst (λ (x : ControlAt). sent_at notes.carried x.phase x.at ≡ Some k) (sym e) sent)
