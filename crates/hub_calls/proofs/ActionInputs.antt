-- An action that sends its brick an input sends just that in its event.
use Rattle.std.proofs.Common.{◌≡◌, ℕ, ◌+◌, Bool, true, false, is_some, List, Option, Some, None, length, refl, sym, ap, ◌∙◌, append-nil}
use Rattle.fop_types.specs.declared.messages.Input.{Input}
use Rattle.fop_types.specs.declared.messages.Input.TheVariants as input
use Rattle.fop_types.specs.declared.messages.Proc.{Proc}
use Rattle.script_lang.specs.declared.scripts.Action.{Action}
use Rattle.script_lang.specs.declared.scripts.Action.TheVariants as action
use Rattle.wire_xdr.specs.WireText.{input_text}
use Rattle.wire_xdr.specs.Xdr.{unit}
use Rattle.mount_log.specs.Connects.{control_input}
use Rattle.mount_log.specs.Logs.{empty_log, sends, with_event, with_lines}
use Rattle.mount_log.specs.Procedures.{rank_in}
use Rattle.mount_log.specs.declared.logs.HubEvent.{HubEvent}
use Rattle.mount_log.specs.declared.logs.HubEvent.TheVariants as logged
use Rattle.mount_log.specs.declared.logs.Log.{Log}
use Rattle.hub_tables.specs.PhaseControls.{ControlsState}
use Rattle.hub_calls.specs.EventNumbers.{numbered, going_out, written_lines}
use Rattle.hub_calls.specs.Hubs.{ActsWhere, AddsInput, is_of_brick}

-- ---- such an input is no request

down_rank : (serve : ℕ) → rank_in (input_text (input.Down serve)) ≡ None
unfolding unit
down_rank serve = refl

up_rank : rank_in (input_text input.Up) ≡ None
unfolding unit
up_rank = refl

fault_rank : (p : Proc) (number : ℕ) → rank_in (input_text (input.FaultAt p number)) ≡ None
unfolding unit
fault_rank p number = refl

-- ---- an event with one line

one_line : (old : Log) (c : ControlsState) (e : HubEvent) (brick : ℕ) (bytes : List ℕ) → rank_in bytes ≡ None → with_lines old (written_lines c old (sends empty_log 0 brick bytes) e) ≡ sends (with_event old e) (length old.events + 1) brick bytes
unfolding numbered going_out
one_line old c e brick bytes none =
    rw (none, append-nil old.replies, append-nil old.history, append-nil old.entered, append-nil old.answered, append-nil old.winds, append-nil old.copies, append-nil old.copied, append-nil old.skips, append-nil old.skipped) refl

line_alone : (old new before lines : Log) (c : ControlsState) (e : HubEvent) (brick : ℕ) (bytes : List ℕ) → rank_in bytes ≡ None → before ≡ empty_log → lines ≡ sends before 0 brick bytes → new ≡ with_lines old (written_lines c old lines e)
    → new ≡ sends (with_event old e) (length old.events + 1) brick bytes
line_alone old new before lines c e brick bytes none empty are is =
    is
    ∙ ap (λ (l : Log). with_lines old (written_lines c old l e)) (are ∙ ap (λ (l : Log). sends l 0 brick bytes) empty)
    ∙ one_line old c e brick bytes none

-- ---- the event of an action

pub act_sends : (old new before lines : Log) (c : ControlsState) (a : Action) (many : ℕ) (internal did : Bool) → ActsWhere a many internal did → did ≡ true → before ≡ empty_log
    → ((m : ℕ) → is_of_brick m a ≡ true → AddsInput 0 (control_input a) before lines) → new ≡ with_lines old (written_lines c old lines (logged.Act a))
    → AddsInput (length old.events + 1) (control_input a) (with_event old (logged.Act a)) new
act_sends old new before lines c (action.Down brick serve) many internal did acts happened empty adds is =
    line_alone old new before lines c (logged.Act (action.Down brick serve)) brick (input_text (input.Down serve)) (down_rank serve) empty (adds many (sym (acts.0 refl) ∙ happened)) is
act_sends old new before lines c (action.Up brick) many internal did acts happened empty adds is =
    line_alone old new before lines c (logged.Act (action.Up brick)) brick (input_text input.Up) up_rank empty (adds many (sym (acts.0 refl) ∙ happened)) is
act_sends old new before lines c (action.Fault brick p number) many internal did acts happened empty adds is =
    line_alone old new before lines c (logged.Act (action.Fault brick p number)) brick (input_text (input.FaultAt p number)) (fault_rank p number) empty (adds many (sym (acts.0 refl) ∙ happened)) is
act_sends old new before lines c (action.Cut brick) many internal did acts happened empty adds is = tt
act_sends old new before lines c action.Heal many internal did acts happened empty adds is = tt
act_sends old new before lines c (action.Switch volfile) many internal did acts happened empty adds is = tt

pub no_input : (number : ℕ) (control : Option (ℕ × Input)) (old new : Log) → is_some control ≡ false → AddsInput number control old new
no_input number None old new none = tt
no_input number (Some control) old new none = let no : ◌≡◌ {A = Bool} true false = none in absurd cc
