use Rattle.std.proofs.Common.{◌≡◌, ◌∙◌, ℕ, List, length, ap, sym, subst}
use Rattle.std.proofs.lemmas.Result.{IfOk-weaker}
use Rattle.dht_fops.specs.Fops.{fop_course}
use Rattle.dht_fops.specs.code.Fops.{volume_of, course_on}
use Rattle.graph_nodes.specs.Costs.{jobs_for}
use Rattle.graph_nodes.proofs.FopSteps.{fop_begun}
use Rattle.graph_nodes.proofs.FopTurns.{begun_turn, named_sets}
use Rattle.graph_nodes.proofs.kinds.Distribute.begin_over.Goals as goal

pub go-requires : goal.go-requires
go-requires c = record {
  turn = begun_turn c.fops_keep_bounds.ensures.courses c.fops_keep_bounds.ensures.fops (volume_of c.args.entry.call c.args.self.now.sets c.args.cx.now.root_sets) c.as_slice.result.now c.args.self.now.kept.entries c.args.fop c.in_ok-fop.fop c.in_ok-fop.next
      c.requires.some c.requires.within (subst (λ (names : List (List ℕ)). length names ≡ c.args.self.now.sets) (sym c.as_slice.ensures.is) c.args.self.now.named) c.as_slice.ensures.named
      (named_sets c.args.self.now.sets c.args.fop c.requires.named) c.requires.fop c.in_ok-fop.ensures.course c.in_ok-fop.ensures.asked c.in_ok-fop.ensures.one;
}

pub returns : goal.returns
returns c = IfOk-weaker c.go.result _ _ (λ step gives. fop_begun c.args.self.now c.args.cx.now c.go.new.cx c.args.entry c.args.fop c.in_ok-fop.fop c.in_ok-fop.next c.jobs_for-jobs.result step gives
    (subst (λ (names : List (List ℕ)). course_on c.in_ok-fop.fop c.in_ok-fop.next ≡ fop_course (volume_of c.args.entry.call c.args.self.now.sets c.args.cx.now.root_sets) names c.args.self.now.kept.entries c.args.fop) c.as_slice.ensures.is c.in_ok-fop.ensures.course)
    c.in_ok-fop.ensures.learnt c.in_ok-fop.ensures.asked (c.jobs_for-jobs.ensures ∙ ap (jobs_for c.args.self.now.sets) c.fop_units.ensures.is)) c.go.ensures
