use Rattle.std.proofs.Common.{arith, sym, ◌≡◌, false, ℕ, subst}
use Rattle.std.specs.BTreeSet as sorted
use Rattle.queue_index.specs.Places.{place_cmp, place}
use Rattle.queue_index.proofs.Steps.{put_one, put_back}
use Rattle.queue_index.proofs.place.add_places.Goals as goal

pub returns-in_default-clause-err : goal.returns-in_default-clause-err
returns-in_default-clause-err g c = λ q. put_back (g.T.Keyed.keys c.args.item.now) c.loop-at.at c.args.number q _ _ _ (λ e. subst (λ (n : ℕ). sorted.contains place_cmp c.args.places.now (place q.key n) ≡ false) (sym e) (c.requires q.key)) (rw c.in_default.ensures.err (c.loop-at.invariant q)) (c.remove_places.ensures q)

pub loop-at-preserved : goal.loop-at-preserved
loop-at-preserved g c = λ q. put_one _ c.loop-at.at c.key-key.result c.args.number q _ _ _ c.key-key.ensures (omega arith) (c.loop-at.invariant q) (c.in-Ok.ensures.updates.0 q)
