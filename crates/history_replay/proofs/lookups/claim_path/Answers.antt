use Rattle.std.proofs.lemmas.Option.{slice_get_past}
use Rattle.history_replay.proofs.Paths.{end_without_place, end_without_object, claims_without_place, claims_without_object}
use Rattle.history_replay.proofs.lookups.claim_path.Goals as goal

pub returns-in_default-clause-end : goal.returns-in_default-clause-end
returns-in_default-clause-end c =
    end_without_place c.args.path.now c.args.places.now c.args.found.now c.loop-index.index c.loop-index.at _ (slice_get_past c.args.places.now c.loop-index.index c.in_default.ensures.lookup.3)
    c.loop-index.invariant.end

pub returns-in_default-clause-claims : goal.returns-in_default-clause-claims
returns-in_default-clause-claims c =
    claims_without_place c.args.path.now c.args.places.now c.args.found.now c.loop-index.index c.loop-index.at c.loop-index.claims _
    (slice_get_past c.args.places.now c.loop-index.index c.in_default.ensures.lookup.3) c.loop-index.invariant.claims

pub returns-in_default-get-clause-end : goal.returns-in_default-get-clause-end
returns-in_default-get-clause-end c =
    end_without_object c.args.path.now c.args.places.now c.args.found.now c.loop-index.index c.loop-index.at _
    (slice_get_past c.args.found.now c.loop-index.index c.in_default-get.ensures.lookup.3) c.loop-index.invariant.end

pub returns-in_default-get-clause-claims : goal.returns-in_default-get-clause-claims
returns-in_default-get-clause-claims c =
    claims_without_object c.args.path.now c.args.places.now c.args.found.now c.loop-index.index c.loop-index.at c.loop-index.claims _
    (slice_get_past c.args.found.now c.loop-index.index c.in_default-get.ensures.lookup.3) c.loop-index.invariant.claims
