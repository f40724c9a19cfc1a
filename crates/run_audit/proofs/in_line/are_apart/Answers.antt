use Rattle.std.proofs.Common.{◌≡◌, sym, subst, ◌∙◌}
use Rattle.std.specs.Prelude.{ℕ, Option, slice_get}
use Rattle.script_lang.specs.declared.scripts.ControlLine.{ControlLine}
use Rattle.run_audit.specs.InLine.{IsApart}
use Rattle.run_audit.specs.Noted.{sent_in}
use Rattle.mount_log.proofs.Lists.{each_next, got}
use Rattle.run_audit.proofs.in_line.are_apart.Goals as goal

pub loop-i-preserved : goal.loop-i-preserved
loop-i-preserved c =
    each_next (λ (i : ℕ) (a : ControlLine). IsApart a c.args.b.now (sent_in (slice_get c.args.carried.now i)) (sent_in (slice_get c.args.carried.now c.args.j))) c.args.controls.now c.loop-i.i c.in-Some.a.now
    (got c.args.controls.now c.loop-i.i c.in-Some.a.now c.in-Some.ensures.lookup.0 c.in-Some.ensures.lookup.1)
    (subst (λ (o : Option ℕ). IsApart c.in-Some.a.now c.args.b.now (sent_in (slice_get c.args.carried.now c.loop-i.i)) o) c.line_of-second.ensures
    (subst (λ (o : Option ℕ). IsApart c.in-Some.a.now c.args.b.now o c.line_of-second.result) c.line_of-first.ensures (c.is_apart.ensures.0 c.if-not-is_apart.false)))
    c.loop-i.invariant

pub returns-then-not-is_apart-clause-complete : goal.returns-then-not-is_apart-clause-complete
returns-then-not-is_apart-clause-complete c = λ few all.
    sym c.if-not-is_apart.true
    ∙ c.is_apart.ensures.1
    (subst (λ (o : Option ℕ). IsApart c.in-Some.a.now c.args.b.now c.line_of-first.result o) (sym c.line_of-second.ensures)
    (subst (λ (o : Option ℕ). IsApart c.in-Some.a.now c.args.b.now o (sent_in (slice_get c.args.carried.now c.args.j))) (sym c.line_of-first.ensures)
    (all c.loop-i.i c.in-Some.a.now c.loop-i-test.true (got c.args.controls.now c.loop-i.i c.in-Some.a.now c.in-Some.ensures.lookup.0 c.in-Some.ensures.lookup.1))))
