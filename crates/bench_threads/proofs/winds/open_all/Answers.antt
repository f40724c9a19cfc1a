use Rattle.std.proofs.Common.{◌+◌, sym, ap, subst, ◌∙◌}
use Rattle.wind_words.specs.Calls.{Pass, IsUnusedFrom}
use Rattle.wind_words.proofs.Slots.{unused_still}
use Rattle.bench_threads.proofs.winds.open_all.Goals as goal

pub loop-slot-preserved : goal.loop-slot-preserved
loop-slot-preserved c =
    let before = c.loop-slot.invariant in
    let view = c.open.ensures.opens.view in record {
      same = record { words = ap (λ (p : Pass). p.words) view ∙ before.same.words; role = ap (λ (p : Pass). p.view.role) view ∙ before.same.role };
      collected = ap (λ (p : Pass). p.view.collected) view ∙ before.collected;
      unused = subst (λ (p : Pass). IsUnusedFrom p.view (c.loop-slot.slot + 1)) (sym view) (unused_still c.loop-slot.hub.view c.loop-slot.slot c.open.result (ap (λ w. w.slot) c.open.ensures.opens.next) before.unused);
    }
