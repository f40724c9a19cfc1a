use Rattle.std.proofs.Common.{◌≡◌, sym, ap, subst, ◌∙◌, get_or}
use Rattle.std.specs.Prelude.{◌+◌, ◌<◌, ◌∷◌, List, ℕ, Some, None, length, drop}
use Rattle.std.proofs.lemmas.List.{at_drop_more}
use Rattle.graph_build.specs.declared.plans.Plan.{Plan}
use Rattle.run_report.specs.Reports.{NamesState, set_among}
use Rattle.run_report.proofs.Sets.{stops, finds, goes_on}
use Rattle.run_report.proofs.names.Names.set_plan.Goals as goal

-- the volfiles that are left begin with this one
drops : (plans : List Plan) (n : ℕ) (items volfiles : List ℕ) (i : ℕ) → items ≡ volfiles → i < length items
    → set_among plans (drop i volfiles) n ≡ set_among plans (get_or items i 0 ∷ drop (i + 1) volfiles) n
drops plans n items volfiles i e lt =
    at_drop_more (λ (vs : List ℕ). set_among plans vs n) volfiles i 0 (subst (λ (l : List ℕ). i < length l) e lt)
    ∙ ap (λ (l : List ℕ). set_among plans (get_or l i 0 ∷ drop (i + 1) volfiles) n) (sym e)

pub returns-in_default : goal.returns-in_default
returns-in_default c =
    let e = c.deref-volfile-items.ensures.value ∙ ap (λ (s : NamesState). s.volfiles) c.self.view_is in
    sym (stops c.args.self.now.plans _ (drop (c.loop-volfile.volfile-index + 1) c.args.self.now.volfiles) c.args.set (sym c.in_default.ensures))
    ∙ sym (drops c.args.self.now.plans c.args.set c.deref-volfile-items.result.now c.args.self.now.volfiles c.loop-volfile.volfile-index e c.loop-volfile-test.true) ∙ c.loop-volfile.invariant

pub returns-in-Some-set_in : goal.returns-in-Some-set_in
returns-in-Some-set_in c =
    let e = c.deref-volfile-items.ensures.value ∙ ap (λ (s : NamesState). s.volfiles) c.self.view_is in
    sym (finds c.args.self.now.plans _ (drop (c.loop-volfile.volfile-index + 1) c.args.self.now.volfiles) c.args.set c.in-Some.plan.now _ (sym c.in-Some.ensures) (sym c.in-Some-set_in.ensures))
    ∙ sym (drops c.args.self.now.plans c.args.set c.deref-volfile-items.result.now c.args.self.now.volfiles c.loop-volfile.volfile-index e c.loop-volfile-test.true) ∙ c.loop-volfile.invariant

pub loop-volfile-preserved : goal.loop-volfile-preserved
loop-volfile-preserved c =
    let e = c.deref-volfile-items.ensures.value ∙ ap (λ (s : NamesState). s.volfiles) c.self.view_is in
    sym (goes_on c.args.self.now.plans _ (drop (c.loop-volfile.volfile-index + 1) c.args.self.now.volfiles) c.args.set c.in-Some.plan.now (sym c.in-Some.ensures) (sym c.in_default-set_in.ensures))
    ∙ sym (drops c.args.self.now.plans c.args.set c.deref-volfile-items.result.now c.args.self.now.volfiles c.loop-volfile.volfile-index e c.loop-volfile-test.true) ∙ c.loop-volfile.invariant
