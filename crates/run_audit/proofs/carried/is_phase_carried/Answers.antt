use Rattle.std.proofs.Common.{◌≡◌, sym, subst, ◌∙◌}
use Rattle.std.specs.Prelude.{List}
use Rattle.run_audit.specs.Controlled.{AreControlsCarried, AreFromOne, AreInTurn}
use Rattle.run_audit.specs.InLine.{AreInLine}
use Rattle.run_audit.specs.declared.run_notes.Carried.{Carried}
use Rattle.run_audit.proofs.Controlling.{from_one}
use Rattle.run_audit.proofs.carried.is_phase_carried.Goals as goal

pub returns : goal.returns
returns c = (
  λ yes. record {
    each =
        subst (λ (l : List Carried). AreControlsCarried c.args.log.now c.args.tables.now c.args.notes.now c.args.phase c.args.controls.now l) c.carried_of-carried.ensures
        (c.in_ok-yes.ensures.0 yes);
    turns = subst (λ (l : List Carried). AreInTurn c.args.controls.now l) c.carried_of-carried.ensures (c.are_in_turn.ensures.sound c.if-not-are_in_turn.false);
    line = subst (λ (l : List Carried). AreInLine c.args.controls.now l) c.carried_of-carried.ensures (c.are_in_line.ensures.0 c.if-not-are_in_line.false);
  },
  λ is. c.in_ok-yes.ensures.1 (subst (λ (l : List Carried). AreControlsCarried c.args.log.now c.args.tables.now c.args.notes.now c.args.phase c.args.controls.now l) (sym c.carried_of-carried.ensures) is.each),
)

pub returns-then-not-are_in_turn : goal.returns-then-not-are_in_turn
returns-then-not-are_in_turn c = (
  λ no. absurd cc,
  λ is. sym c.if-not-are_in_turn.true
      ∙ c.are_in_turn.ensures.complete
      (subst (λ (l : List Carried). AreFromOne c.args.controls.now l) (sym c.carried_of-carried.ensures)
      (from_one c.args.log.now c.args.tables.now c.args.notes.now c.args.phase c.args.controls.now _ is.each))
      (subst (λ (l : List Carried). AreInTurn c.args.controls.now l) (sym c.carried_of-carried.ensures) is.turns),
)

pub returns-then-not-are_in_line : goal.returns-then-not-are_in_line
returns-then-not-are_in_line c = (
  λ no. absurd cc,
  λ is. sym c.if-not-are_in_line.true ∙ c.are_in_line.ensures.1 (subst (λ (l : List Carried). AreInLine c.args.controls.now l) (sym c.carried_of-carried.ensures) is.line),
)
