use Rattle.std.proofs.Common.{◌∙◌, ap, refl}
use Rattle.std.specs.Map.{remove_entry}
use Rattle.io_cache.specs.Pages.{is_page}
use Rattle.io_cache.proofs.Dropping.{none_dropped, one_dropped, part_dropped}
use Rattle.io_cache.proofs.pages.drop_pages.Goals as goal

pub loop-page-init : goal.loop-page-init
loop-page-init c = record { run = none_dropped c.args.gfid c.args.held.now.entries; room = refl; part = λ p h. h }

pub loop-page-preserved : goal.loop-page-preserved
loop-page-preserved c = rw c.pop.ensures.entries record {
  run = ap (remove_entry (is_page c.args.gfid c.loop-page.page)) c.loop-page.invariant.run ∙ one_dropped c.args.gfid c.loop-page.page c.args.held.now.entries c.len.ensures.valid.0;
  room = c.loop-page.invariant.room;
  part = λ p h. c.loop-page.invariant.part p (part_dropped c.args.gfid c.loop-page.page c.loop-page.held.entries p h);
}
