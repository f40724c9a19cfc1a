use Rattle.std.proofs.Common.{◌≡◌, ◌/◌, sym, ◌∙◌, subst, true}
use Rattle.io_cache.specs.Pages.{Held, ends_before}
use Rattle.io_cache.proofs.Reading.{answer_past, after_past, not_zero}
use Rattle.io_cache.proofs.page_cache.PageCache.read.Goals as goal

pub returns-then-is_past_end-clause-bytes : goal.returns-then-is_past_end-clause-bytes
returns-then-is_past_end-clause-bytes c = rw c.new-then-is_past_end.ensures (sym (answer_past c.args.self.now c.args.gfid c.args.offset c.args.len (not_zero c.args.len c.if-len-eq0.false) (subst (λ (v : Held). ends_before v.pages c.args.gfid (c.args.offset / 4096) ≡ true) c.self.view_is (sym c.is_past_end.ensures ∙ c.if-is_past_end.true))))

pub returns-then-is_past_end-clause-used : goal.returns-then-is_past_end-clause-used
returns-then-is_past_end-clause-used c = sym (after_past c.args.self.now c.args.gfid c.args.offset c.args.len (not_zero c.args.len c.if-len-eq0.false) (subst (λ (v : Held). ends_before v.pages c.args.gfid (c.args.offset / 4096) ≡ true) c.self.view_is (sym c.is_past_end.ensures ∙ c.if-is_past_end.true)))

pub invariant_of-self : goal.invariant_of-self
invariant_of-self c = record { numbers = λ p h. c.self.invariant.numbers p (c.use_pages.ensures.part p h); fits = c.self.invariant.fits }
