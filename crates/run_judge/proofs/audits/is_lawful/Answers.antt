use Rattle.run_judge.proofs.audits.is_lawful.Goals as goal

pub returns : goal.returns
returns c = λ yes. record {
  follows = c.in_ok-has_course.ensures.follows c.if-not-branch.false;
  finished = c.in_ok-has_course.ensures.finished c.if-not-branch.false;
  honest = c.in_ok-has_course.ensures.honest c.if-not-branch.false;
  connections = c.in_ok-has_course.ensures.connections c.if-not-branch.false;
  ties = c.in_ok-has_course.ensures.ties c.if-not-branch.false;
  all_bricks = c.are_bricks.ensures.bricks c.if-not-are_bricks.false;
  files = c.in_ok-yes.ensures yes;
  causes = c.in_ok-has_course.ensures.causes c.if-not-branch.false;
  reads = c.in_ok-has_course.ensures.reads c.if-not-branch.false;
  names = c.in_ok-has_course.ensures.names c.if-not-branch.false;
  errors = c.in_ok-has_course.ensures.errors c.if-not-branch.false;
  copies = c.in_ok-has_heals.ensures.copies c.if-not-branch-2.false;
  skips = c.in_ok-has_heals.ensures.skips c.if-not-branch-2.false;
  winds = c.in_ok-has_course.ensures.winds c.if-not-branch.false;
}
