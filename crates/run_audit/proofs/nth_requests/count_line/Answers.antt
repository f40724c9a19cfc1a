use Rattle.std.proofs.Common.{◌≡◌, ◌≤◌, ◌<◌, inl, sym, ap, subst, ◌∙◌}
use Rattle.std.specs.Prelude.{ℕ}
use Rattle.mount_log.specs.Procedures.{rank_in}
use Rattle.run_audit.proofs.nth_requests.count_line.Goals as goal

pub returns-then-begun_of-line-clause-none : goal.returns-then-begun_of-line-clause-none
returns-then-begun_of-line-clause-none c = record {
  rank = c.in-Some.rank;
  rank_is = sym (ap rank_in c.as_slice.ensures) ∙ sym c.rank_of.ensures ∙ c.in-Some.is;
  is = inl (subst (λ (n : ℕ). c.args.line.now.event ≤ n) c.begun_of.ensures c.if-begun_of-line.true);
}
