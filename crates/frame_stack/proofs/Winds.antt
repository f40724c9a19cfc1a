-- Two winds differ by slot or turn.
use Rattle.std.proofs.Common.{◌≡◌}
use Rattle.std.specs.Prelude.{◌≢◌, ◌==◌, true, false}
use Rattle.std.proofs.lemmas.Bool.{eq-eqb, ne_eqb}
use Rattle.xlator_law.specs.declared.winds.WindNo.{WindNo}
use Rattle.frame_stack.specs.Moves.{is_wind}
use Rattle.frame_stack.proofs.Lists.{and_true, and_false, and_false_right}

pub same_wind : (a b : WindNo) → a.slot ≡ b.slot → a.turn ≡ b.turn → is_wind a b ≡ true
same_wind a b s t = and_true (a.slot == b.slot) (a.turn == b.turn) (eq-eqb a.slot b.slot s) (eq-eqb a.turn b.turn t)

pub other_slot : (a b : WindNo) → a.slot ≢ b.slot → is_wind a b ≡ false
other_slot a b s = and_false (a.slot == b.slot) (a.turn == b.turn) (ne_eqb a.slot b.slot s)

pub other_turn : (a b : WindNo) → a.turn ≢ b.turn → is_wind a b ≡ false
other_turn a b t = and_false_right (a.slot == b.slot) (a.turn == b.turn) (ne_eqb a.turn b.turn t)
