use Rattle.std.proofs.Common.{inl, inr}
use Rattle.mount_run.proofs.Seeding.{ran_by_seed, cut_short}
use Rattle.mount_run.proofs.tops.run.Goals as goal

pub returns-in-Ok-clause-ran : goal.returns-in-Ok-clause-ran
returns-in-Ok-clause-ran g c = λ is. ran_by_seed c.args.seed _ _ _ c.run_read.new.rack c.in-Ok.read c.in-Ok.ensures.accepted (c.run_read.ensures.seeded (inl is)) (c.run_read.ensures.ran is)

pub returns-in-Ok-clause-short : goal.returns-in-Ok-clause-short
returns-in-Ok-clause-short g c = λ is. inl (cut_short c.args.seed _ _ _ c.run_read.new.rack c.in-Ok.read c.in-Ok.ensures.accepted (c.run_read.ensures.seeded (inr is)) (c.run_read.ensures.write_fault is).1)
