-- What callers see of a turn is the turn.
use Rattle.std.proofs.Common.{◌≡◌, ◌∙◌, ℕ, Option, refl, ap, sym, subst}
use Rattle.dht_fops.specs.code.Fops.{course_seen, asked_of, GivesOneJob}
use Rattle.dht_fops.specs.code.Turns.{next_of, asked_by}
use Rattle.dht_fops.specs.code.Waits.{course_by, course_of, goes_on, goes_held}
use Rattle.dht_fops.specs.declared.step.DhtNext.{DhtNext}
use Rattle.dht_fops.specs.declared.step.Step.{Step}
use Rattle.dht_fops.specs.declared.step.Turn.{Turn}
use Rattle.dht_fops.specs.declared.state.State.{State}
use Rattle.dht_fops.specs.declared.step.Turn.TheVariants as turn
use Rattle.dht_fops.specs.declared.volume.Volume.{Volume}

turn_course : (v : Volume) (s : State) (t : Turn) → course_seen (goes_on v s) (goes_held v s) (next_of t) ≡ course_by v s t
turn_course v s (turn.Ask set job) = refl
turn_course v s (turn.Extend dir) = refl
turn_course v s (turn.End answer place) = refl

pub step_given : (v : Volume) (step : Step) (s : State) (next : DhtNext) → s ≡ step.state → next ≡ next_of step.turn → course_seen (goes_on v s) (goes_held v s) next ≡ course_of v step
step_given v step s next e h =
    ap (λ (n : DhtNext). course_seen (goes_on v s) (goes_held v s) n) h
    ∙ turn_course v s step.turn
    ∙ ap (λ (s : State). course_by v s step.turn) e

turn_asked : (t : Turn) → asked_by t ≡ asked_of (next_of t)
turn_asked (turn.Ask set job) = refl
turn_asked (turn.Extend dir) = refl
turn_asked (turn.End answer place) = refl

pub asked_given : (t : Turn) (next : DhtNext) (asked : Option ℕ) → next ≡ next_of t → asked ≡ asked_by t → asked ≡ asked_of next
asked_given t next asked e h = h ∙ turn_asked t ∙ sym (ap asked_of e)

turn_one : (t : Turn) → GivesOneJob (next_of t)
turn_one (turn.Ask set job) = refl
turn_one (turn.Extend dir) = tt
turn_one (turn.End answer place) = tt

pub one_given : (t : Turn) (next : DhtNext) → next ≡ next_of t → GivesOneJob next
one_given t next e = subst (λ (n : DhtNext). GivesOneJob n) (sym e) (turn_one t)
