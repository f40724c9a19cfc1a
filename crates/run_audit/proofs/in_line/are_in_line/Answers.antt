use Rattle.std.proofs.Common.{◌≡◌, ◌<◌, ◌≤◌, refl, sym, ◌∙◌, arith}
use Rattle.std.specs.Prelude.{ℕ, ◌+◌, length, slice_get}
use Rattle.std.proofs.lemmas.Option.{slice_get_within}
use Rattle.script_lang.specs.declared.scripts.ControlLine.{ControlLine}
use Rattle.run_audit.specs.InLine.{AreApart}
use Rattle.mount_log.proofs.Lists.{each_next, got}
use Rattle.run_audit.proofs.in_line.are_in_line.Goals as goal

pub loop-j-preserved : goal.loop-j-preserved
loop-j-preserved c =
    each_next (λ (k : ℕ) (b : ControlLine). AreApart c.args.controls.now c.args.carried.now k k b) c.args.controls.now c.loop-j.j c.in-Some.b.now
    (got c.args.controls.now c.loop-j.j c.in-Some.b.now c.in-Some.ensures.lookup.0 c.in-Some.ensures.lookup.1) (c.are_apart.ensures.sound c.if-not-are_apart.false) c.loop-j.invariant

pub returns : goal.returns
returns c = (λ _ k b is. c.loop-j.invariant k b (let lt = slice_get_within c.args.controls.now k b is in omega (arith, lt, c.loop-j-test.false)) is, λ _. refl)

pub returns-then-not-are_apart : goal.returns-then-not-are_apart
returns-then-not-are_apart c = (
  λ no. absurd cc,
  λ all. sym c.if-not-are_apart.true
      ∙ c.are_apart.ensures.complete (omega (arith, c.loop-j-test.true)) (all c.loop-j.j c.in-Some.b.now (got c.args.controls.now c.loop-j.j c.in-Some.b.now c.in-Some.ensures.lookup.0 c.in-Some.ensures.lookup.1)),
)
