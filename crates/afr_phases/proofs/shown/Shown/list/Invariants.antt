use Rattle.std.proofs.Common.{◌≡◌, ◌++◌, drop}
use Rattle.afr_phases.specs.Shown.{rows_listed}
use Rattle.afr_phases.proofs.shown.Shown.list.Given as goal

abbrev pub invariant-loop-cell : goal.invariant-loop-cell
invariant-loop-cell l = record {
  at : l.c ≡ l.cell-index;
  listed : l.list.items ++ rows_listed l.self l.names l.c (drop l.cell-index l.cells) ≡ rows_listed l.self l.names 0 l.cells;
}
