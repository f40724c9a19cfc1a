use Rattle.std.proofs.Common.{◌≡◌, sym, ◌∙◌, arith}
use Rattle.std.specs.Prelude.{vec_len}
use Rattle.std.proofs.lemmas.Bool.{eqb-true}
use Rattle.frame_stack.proofs.Vacancy.{filled, filled_facts, grown, placed}
use Rattle.frame_stack.proofs.keyed.Keyed.insert.Goals as goal

pub invariant_of-self-then-is_empty : goal.invariant_of-self-then-is_empty
invariant_of-self-then-is_empty g c =
    let e : vec_len c.self.inside.vacant ≡ 0 = eqb-true (vec_len c.self.inside.vacant) 0 (sym c.is_empty.ensures ∙ c.if-is_empty.true) in
    grown c.self.inside.cells.items _ c.self.inside.vacant.items _ _ _ c.args.value c.self.invariant (let ok = c.self.inside.vacant.ok.0 in omega (arith, e, ok)) (let i = c.in_ok-reserve.ensures.len in let ok = c.reserve.new.self.ok.0 in omega (arith, e, ok, i)) (let r = c.in_ok-reserve.ensures.ok in let ok = c.self.inside.cells.ok.0 in let l = c.len.ensures in omega (arith, r, ok, l)) c.in_ok-push.ensures.items

pub index_mut-requires : goal.index_mut-requires
index_mut-requires g c = let facts = filled_facts _ _ _ _ c.in-Some.key c.in-Some.ensures.items c.self.invariant in let ok = c.self.inside.cells.ok.0 in let lt = facts.0 in omega (arith, ok, lt)

pub invariant_of-self-2 : goal.invariant_of-self-2
invariant_of-self-2 g c = rw c.in-Some.ensures.capacity (filled _ _ _ _ c.in-Some.key c.args.value c.in-Some.ensures.items c.self.invariant)

pub returns-clause-ok : goal.returns-clause-ok
returns-clause-ok g c = let facts = filled_facts _ _ _ _ c.in-Some.key c.in-Some.ensures.items c.self.invariant in rw (← c.self.view_is) (placed _ _ c.args.value facts.0 facts.1)
