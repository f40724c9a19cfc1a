use Rattle.std.proofs.Common.{◌≤◌, ◌∙◌, subst, sym, length, arith, ℕ}
use Rattle.std.proofs.lemmas.Map.Entries.{length-keys_of}
use Rattle.io_cache.specs.Pages.{Held}
use Rattle.io_cache.specs.Uses.{HoldsLastUsed}
use Rattle.io_cache.proofs.LastUsed.{last_used}
use Rattle.io_cache.proofs.page_cache.PageCache.holds_the_last_used.Goals as goal

pub returns : goal.returns
returns c = subst (λ (v : Held). HoldsLastUsed v) c.self.view_is (last_used _ c.len.ensures.valid.0 (subst (λ (n : ℕ). n ≤ c.self.inside.held.cap) (sym (length-keys_of c.self.inside.held.entries)) c.len.ensures.valid.1))
