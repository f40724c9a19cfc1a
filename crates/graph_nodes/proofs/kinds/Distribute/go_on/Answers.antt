use Rattle.std.proofs.Common.{ℕ, IfOk, Option, is_none, refl, sym, ap, subst}
use Rattle.graph_nodes.specs.declared.locals.FopState.{FopState}
use Rattle.graph_nodes.specs.Distribute.{OnExtended}
use Rattle.graph_nodes.proofs.kinds.Distribute.go_on.Goals as goal

pub extended-requires-clause-waits : goal.extended-requires-clause-waits
extended-requires-clause-waits c = sym (ap is_none c.in-None.ensures)

pub returns-in-None : goal.returns-in-None
returns-in-None c = subst (λ (f : FopState). IfOk c.extended.result (λ step. OnExtended f.fop.asked c.args.self.now c.args.cx.now f step c.extended.new.cx)) c.into_state-state.ensures.is
    (subst (λ (o : Option ℕ). IfOk c.extended.result (λ step. OnExtended o c.args.self.now c.args.cx.now c.into_state-state.result step c.extended.new.cx)) c.in-None.ensures c.extended.ensures)

pub returns-in-Some : goal.returns-in-Some
returns-in-Some c = subst (λ (f : FopState). OnExtended f.fop.asked c.args.self.now c.args.cx.now f c.refuse.result c.args.cx.now) c.into_state-state.ensures.is
    (subst (λ (o : Option ℕ). OnExtended o c.args.self.now c.args.cx.now c.into_state-state.result c.refuse.result c.args.cx.now) c.in-Some.ensures (record { move = c.refuse.ensures; cx_is = refl }))
