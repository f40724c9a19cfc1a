use Rattle.std.proofs.Common.{◌≡◌, ◌∙◌, ◌==◌, ℕ, if◌then◌else◌, Some, Ok, ap}
use Rattle.dht_linkto.specs.Steps.{next as next_after}
use Rattle.dht_linkto.specs.declared.found.Next.TheVariants.{Ask}
use Rattle.dht_fops.proofs.LookSteps.{look_asked}
use Rattle.dht_fops.specs.code.Waits.{course_of}
use Rattle.dht_fops.proofs.look.look_further.Goals as goal

pub returns-in_ok-step-in-Ask : goal.returns-in_ok-step-in-Ask
returns-in_ok-step-in-Ask c =
    let given = c.in-Ok.ensures.next in
    let asked = c.in-Ask.is in
    let n : next_after c.args.look.lookup c.args.set (Ok c.args.shown.items) ≡ Ask c.in-Ask.next = cc in
    look_asked c.args.volume c.args.look.purpose c.args.look.lookup c.answer.new.self c.args.look.place c.args.look.copy c.copy_on-copy.result c.args.set c.in-Ask.next c.args.shown (course_of c.args.volume c.in_ok-step-in-Ask.step)
    c.requires.kept n c.answer.ensures.state c.in-Ok.ensures.moved
    (c.copy_on-copy.ensures ∙ ap (λ (w : ℕ). if c.args.set == w then Some c.args.shown.has_copy else c.args.look.copy) c.watched.ensures) c.in_ok-step-in-Ask.ensures
