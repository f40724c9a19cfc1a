use Rattle.std.proofs.Common.{◌∙◌, ℕ, List, Option, ap}
use Rattle.dht_linkto.specs.Search.{hashed_set as hashed_set_of}
use Rattle.dht_fops.proofs.LookSteps.{look_by_spans}
use Rattle.dht_fops.specs.code.Waits.{course_of, with_spans as with_spans_of}
use Rattle.fop_types.specs.declared.contents.Span.{Span}
use Rattle.dht_fops.proofs.spans.look_by.Goals as goal

pub returns-in_ok-step-in-Ok-clause-course : goal.returns-in_ok-step-in-Ok-clause-course
returns-in_ok-step-in-Ok-clause-course c =
    look_by_spans c.args.volume c.args.read c.with_spans-purpose.result c.hashed_set-hashed.result (course_of c.args.volume c.in_ok-step-in-Ok.step) c.requires.next
    (c.with_spans-purpose.ensures.purpose ∙ ap (λ (spans : List (Option Span)). with_spans_of c.args.read.dir spans c.args.read.purpose) c.as_slice-3.ensures)
    (c.hashed_set-hashed.ensures.set ∙ ap (λ (spans : List (Option Span)). hashed_set_of spans c.as_slice-2.result.now) c.as_slice.ensures ∙ ap (λ (name : List ℕ). hashed_set_of c.args.read.spans name) c.as_slice-2.ensures)
    c.in_ok-step-in-Ok.ensures
