use Rattle.std.proofs.Common.{◌≡◌, map, take}
use Rattle.history_replay.specs.Reports.{shown_item}
use Rattle.history_replay.proofs.shown.items_shown.Given as goal

abbrev pub invariant-loop-item : goal.invariant-loop-item
invariant-loop-item l = take l.item-index l.shown ≡ map shown_item l.items.items
