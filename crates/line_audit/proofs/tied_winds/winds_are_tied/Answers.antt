use Rattle.std.proofs.Common.{◌≡◌, ◌<◌, ◌≤◌, sym, ap, subst, ◌∙◌, arith}
use Rattle.std.specs.Prelude.{ℕ, ◌+◌, length, slice_get, take}
use Rattle.std.proofs.lemmas.Option.{slice_get_within}
use Rattle.mount_log.specs.declared.logs.WindLine.{WindLine}
use Rattle.mount_log.specs.Graphs.{switches_in}
use Rattle.line_audit.specs.Tied.{IsPlaceOfReply}
use Rattle.line_audit.proofs.Ordering.{to_last, in_order}
use Rattle.line_audit.proofs.Tying.{wind_next}
use Rattle.line_audit.proofs.tied_winds.winds_are_tied.Goals as goal
use Rattle.line_audit.proofs.tied_winds.winds_are_tied.Goals.{then-not-is_made-via-then-not-is_made, then-not-is_made-via-else-not-is_made+then-not-is_wind_of}

pub loop-k-preserved : goal.loop-k-preserved
loop-k-preserved c = (
  wind_next c.args.log.now c.args.calls.now c.loop-k.k c.in-Some.line.now _ (sym c.in-Some.ensures) c.passed_to-passed.ensures.counted (c.is_made.ensures.next c.if-not-is_made.false) (c.is_made.ensures.graph c.if-not-is_made.false)
      (c.is_wind_of.ensures.sound c.if-not-is_wind_of.false) c.loop-k.invariant.0,
  (
    c.passed_to-passed.ensures.counted,
    λ order line there.
        let this = c.in-Some.line.now in
        let later : this.event ≤ line.event = in_order (λ (x : WindLine). x.event) (length c.args.log.now.events) 1 c.args.log.now.winds c.loop-k.k (c.loop-k.k + 1) this line order (omega arith) (sym c.in-Some.ensures) there in
        let next = c.passed_to-passed.ensures.next in let before = c.loop-k.invariant.1.1 order this (sym c.in-Some.ensures) in
        omega (arith, later, next, before),
  ),
)

pub returns-clause-sound : goal.returns-clause-sound
returns-clause-sound c = λ _ k line is. c.loop-k.invariant.0 k line (let lt = slice_get_within c.args.log.now.winds k line is in omega (arith, lt, c.loop-k-test.false, c.len-k-end.ensures)) is

pub returns-then-not-is_made-clause-complete : goal.returns-then-not-is_made-clause-complete
returns-then-not-is_made-clause-complete c = λ order places tied.
    let line = c.in-Some.line.now in let there = sym c.in-Some.ensures in let found = tied c.loop-k.k line there in
    let last : line.event ≤ length c.args.log.now.events = to_last (λ (x : WindLine). x.event) (length c.args.log.now.events) 1 c.args.log.now.winds c.loop-k.k line order there in
    let before = c.loop-k.invariant.1.1 order line there in let far = c.passed_to-passed.ensures.next in
    let next : c.passed_to-passed.result.next ≡ line.event = omega (arith, last, before, far) in
    let count : c.passed_to-passed.result.count ≡ length (switches_in (take line.event c.args.log.now.events)) =
    c.passed_to-passed.ensures.counted.count ∙ ap (λ (n : ℕ). length (switches_in (take n c.args.log.now.events))) next in
    let made = found.made in
    elim c.then-not-is_made.branch [
      | then-not-is_made-via-then-not-is_made w ↦ sym w.if-not-is_made.true ∙ c.is_made.ensures.complete next (omega (arith, made, count))
      | then-not-is_made-via-else-not-is_made+then-not-is_wind_of w ↦
          sym w.if-not-is_wind_of.true
          ∙ w.is_wind_of.ensures.complete (λ one. subst (λ (at : ℕ). IsPlaceOfReply c.args.log.now at line) (sym w.reply_for.ensures) (places c.loop-k.k line there one)) found.of_call
    ]
