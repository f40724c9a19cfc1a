use Rattle.std.proofs.Common.{sym, ◌∙◌}
use Rattle.io_cache.proofs.Reading.{ends_at}
use Rattle.io_cache.proofs.pages.is_past_end.Goals as goal

pub returns-then-unwrap_or : goal.returns-then-unwrap_or
returns-then-unwrap_or c = sym (ends_at c.args.held.now.entries c.args.gfid c.loop-page.page c.args.number (sym c.ends_file.ensures.short ∙ sym c.if-unwrap_or.ensures) c.loop-page-test.true)
