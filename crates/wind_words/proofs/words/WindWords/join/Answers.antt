use Rattle.std.proofs.Common.{◌≡◌, ◌≢◌, ◌+◌, ◌++◌, sym, ap, subst, ◌∙◌, arith}
use Rattle.wind_words.specs.declared.view.Role.TheVariants.{Reader, Spent}
use Rattle.wind_words.specs.Winds.{times}
use Rattle.wind_words.specs.Calls.{Pass}
use Rattle.wind_words.proofs.Counts.{times_append}
use Rattle.wind_words.proofs.Joins.{join}
use Rattle.wind_words.proofs.Allowed.{looks_allowed}
use Rattle.wind_words.proofs.Asked.{same_words, role_is}
use Rattle.wind_words.proofs.words.WindWords.join.Goals as goal

pub join_seat-requires : goal.join_seat-requires
join_seat-requires c = let seat = c.pass.inside.seat in let other = c.other.inside.seat in let t = c.self.inside.table.shared in (
  same_words seat.table_id t.table_id seat.me.0 c.args.pass.now c.args.self.now c.pass.view_is c.self.view_is c.requires.words,
  same_words other.table_id t.table_id other.me.0 c.args.other c.args.self.now c.other.view_is c.self.view_is c.requires.other_words,
  c.other.invariant.0,
  c.self.invariant.1,
  λ s k at ne at'. join t.key s.words s.views seat.id other.id seat.me.0 other.me.0 k at c.pass.invariant.1 ne at' (role_is other.table_id other.me.0 c.args.other Reader c.other.view_is c.requires.reader),
)

pub load-requires : goal.load-requires
load-requires c = let seat = c.pass.inside.seat in let t = c.self.inside.table.shared in (
  c.join_seat.ensures.0 ∙ same_words seat.table_id t.table_id seat.me.0 c.args.pass.now c.args.self.now c.pass.view_is c.self.view_is c.requires.words,
  c.self.invariant.1,
  looks_allowed t.key t.table_id.slots c.join_seat.new.seat.id 0 c.join_seat.new.seat.me (subst (λ m. m.0.role ≢ Spent) (sym c.join_seat.ensures.2) c.pass.invariant.1),
)

pub returns-clause-apart : goal.returns-clause-apart
returns-clause-apart c = λ w.
    let v = c.pass.inside.seat.me.0.won in
    let u = c.other.inside.seat.me.0.won in
    let mine : times w c.args.pass.now.view.won ≡ times w v = ap (λ (p : Pass). times w p.view.won) (sym c.pass.view_is) in
    let theirs : times w c.args.other.view.won ≡ times w u = ap (λ (p : Pass). times w p.view.won) (sym c.other.view_is) in
    let both : times w c.join_seat.new.seat.me.0.won ≡ times w (v ++ u) = ap (λ m. times w m.0.won) c.join_seat.ensures.2 in
    omega (arith, mine, theirs, both, times_append w v u, c.load.ensures.2.1 w)
