use Rattle.std.proofs.Common.{◌≡◌, length, take, map}
use Rattle.history_replay.specs.Reports.{shown_item}
use Rattle.history_replay.proofs.shown.are_items.Given as goal

abbrev pub invariant-loop-index : goal.invariant-loop-index
invariant-loop-index l = record {
  long : length l.shown ≡ length l.items;
  so_far : take l.index l.shown ≡ map shown_item (take l.index l.items);
}
