use Rattle.std.specs.Ordering.{nat_cmp, is_eq}
use Rattle.std.specs.BTreeSet as sorted
use Rattle.queue_index.proofs.Contention.{put_first, put_all, put_number, key_start}
use Rattle.queue_index.proofs.rivals.add_numbers_of.Goals as goal

pub loop-number-init : goal.loop-number-init
loop-number-init g c = λ q. key_start g.T.Keyed.keys c.args.key q (sorted.contains nat_cmp c.args.found.now q) c.args.queue.now c.numbers_rise.ensures

pub loop-number-preserved : goal.loop-number-preserved
loop-number-preserved g c = λ q. put_first (λ n. is_eq (nat_cmp q n)) c.in-Some.number _ _ _ _ _ c.in-Some.ensures.found (put_number c.in-Some.number q _ _ (c.in_ok-insert.ensures.updates.0 q)) (c.loop-number.invariant q)

pub returns : goal.returns
returns g c = λ q. put_all (λ n. is_eq (nat_cmp q n)) _ _ _ c.in_default.ensures.none (c.loop-number.invariant q)
