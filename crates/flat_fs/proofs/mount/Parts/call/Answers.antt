use Rattle.std.proofs.Common.{◌≡◌, ◌∙◌, ◌+◌, ◌<◌, ap, arith, get_or, length}
use Rattle.std.specs.FinMap.{empty}
use Rattle.fop_types.specs.Calls.{makes}
use Rattle.flat_fs.specs.Mount.{Mount, Served, answer_to, after_call}
use Rattle.flat_fs.proofs.Called.{submitted, fds_are, served_is, after_is}
use Rattle.flat_fs.proofs.mount.Parts.call.Goals as goal

pub returns-clause-answer : goal.returns-clause-answer
returns-clause-answer c =
    let fits : c.args.session < length c.self.inside.sessions.items = omega (arith, c.self.invariant, c.ranges.session.fits) in
    let lo : c.in-Some-checked_add.lo ≡ 1 + (c.self.inside.made + makes c.args.call.now) = omega (arith, c.in-Some.ensures, c.in-Some-checked_add.ensures, c.makes.ensures) in
    let fds : c.index.result.now ≡ get_or c.self.inside.sessions.items c.args.session empty = fds_are _ _ _ c.index.ensures fits in
    c.in_ok-reply.ensures.answer
    ∙ ap (λ (s : Served). s.answer) (served_is c.self.inside.files c.self.inside.sessions.items c.self.inside.made c.args.session _ c.args.call.now _ fds lo)
    ∙ ap (λ (m : Mount). answer_to m (submitted c.args.session c.args.call.now)) c.self.view_is

pub returns-clause-after : goal.returns-clause-after
returns-clause-after c =
    let fits : c.args.session < length c.self.inside.sessions.items = omega (arith, c.self.invariant, c.ranges.session.fits) in
    let made : c.in-Some.made ≡ c.self.inside.made + makes c.args.call.now = omega (arith, c.in-Some.ensures, c.makes.ensures) in
    let lo : c.in-Some-checked_add.lo ≡ 1 + (c.self.inside.made + makes c.args.call.now) = omega (arith, c.in-Some.ensures, c.in-Some-checked_add.ensures, c.makes.ensures) in
    let fds : c.index.result.now ≡ get_or c.self.inside.sessions.items c.args.session empty = fds_are _ _ _ c.index.ensures fits in
    let same : c.index_mut.result.now ≡ get_or c.self.inside.sessions.items c.args.session empty = fds_are _ _ _ c.index_mut.ensures.value fits in
    let by = served_is c.self.inside.files c.self.inside.sessions.items c.self.inside.made c.args.session _ c.args.call.now _ fds lo in
    after_is c.self.inside.files c.serve.new.files c.self.inside.sessions.items c.self.inside.made c.in-Some.made c.args.session c.args.call.now c.index_mut.result.now c.after_answer.new.self
    c.in_ok-reply.reply.file c.in_ok-reply.reply.answer same made
    (c.in_ok-reply.ensures.answer ∙ ap (λ (s : Served). s.answer) by)
    (c.in_ok-reply.ensures.file ∙ ap (λ (s : Served). s.file) by)
    (c.in_ok-reply.ensures.files ∙ ap (λ (s : Served). s.files) by)
    c.in_ok-after_answer.ensures
    ∙ ap (λ (m : Mount). after_call m (submitted c.args.session c.args.call.now)) c.self.view_is
