use Rattle.std.proofs.Common.{◌≡◌, ◌++◌, take, flat_map}
use Rattle.cell_store.specs.Dump.{item_line}
use Rattle.cell_store.proofs.text.Text.links.Given as goal

abbrev pub invariant-loop-item : goal.invariant-loop-item
invariant-loop-item l = l.self ≡ l.initial.self ++ flat_map (item_line l.parent) (take l.item-index l.items)
