-- A run of steps, one step after another.
use Rattle.std.proofs.Common.{◌≡◌, ◌∷◌, ◌++◌, refl, sym, ap, subst, ◌∙◌, ℕ, ◌+◌, List, [], true≢false, append_assoc}
use Rattle.std.specs.Prelude.{Bool, true, false, Option, Some, None, MatchBool}
use Rattle.fop_types.specs.Files.{Files, first_files}
use Rattle.fop_types.specs.History.{Reply}
use Rattle.fop_types.specs.declared.flat.FlatOp.{FlatOp}
use Rattle.history_replay.specs.code.Runs.{Runs, ops_of, with_op, Passes, LeadsOn, HasRun, Takes, RunsWith}
use Rattle.history_replay.specs.declared.steps.Change.{Change}
use Rattle.history_replay.specs.declared.steps.Pass.{Pass}
use Rattle.history_replay.specs.declared.steps.Pass.TheVariants.{Fails, Ends, GoesOn}
use Rattle.history_replay.specs.declared.steps.Run.{Run}
use Rattle.history_replay.specs.declared.steps.Step.{Step}

with_more : (change : Option Change) (ops : List FlatOp) → with_op change ops ≡ with_op change [] ++ ops
with_more None ops = refl
with_more (Some change) ops = refl

ops_more : (steps : List Step) (step : Step) → ops_of (steps ++ step ∷ []) ≡ ops_of steps ++ with_op step.change []
ops_more [] step = refl
ops_more (first ∷ steps) step =
    ap (with_op first.change) (ops_more steps step) ∙ with_more first.change (ops_of steps ++ with_op step.change [])
    ∙ sym (append_assoc (with_op first.change []) (ops_of steps) (with_op step.change []))
    ∙ ap (λ (l : List FlatOp). l ++ with_op step.change []) (sym (with_more first.change (ops_of steps)))

ops_next : (before after : List FlatOp) (passed : List Step) (step : Step) → before ≡ ops_of passed → after ≡ before ++ with_op step.change []
    → after ≡ ops_of (passed ++ step ∷ [])
ops_next before after passed step before_is more =
    more ∙ ap (λ (l : List FlatOp). l ++ with_op step.change []) before_is ∙ sym (ops_more passed step)

leads : (run : Run) (replies : List Reply) (passed : List Step) → run.ended ≡ false → HasRun run replies passed → LeadsOn run.files run.at replies passed
leads run replies passed goes h =
    subst (λ (b : Bool). MatchBool b (Runs first_files 0 replies passed) (LeadsOn run.files run.at replies passed)) goes h.so_far

pub begins : (run : Run) (replies : List Reply) → run.ended ≡ false → run.files ≡ first_files → run.at ≡ 0 → run.ops ≡ [] → HasRun run replies []
begins run replies goes files at ops = record {
  so_far = subst (λ (b : Bool). MatchBool b (Runs first_files 0 replies []) (LeadsOn run.files run.at replies [])) (sym goes)
      (λ rest runs. subst (λ (f : Files). Runs f 0 replies rest) files (subst (λ (n : ℕ). Runs run.files n replies rest) at runs));
  ops_are = ops;
}

-- the last step
pub ends : (before after : Run) (files : Files) (replies : List Reply) (step : Step) (pass : Pass) → before.ended ≡ false → pass ≡ Ends
    → Passes pass before.files files before.at replies step → after.ended ≡ true → after.ops ≡ before.ops ++ with_op step.change [] → Takes before after replies step
ends before after files replies step pass goes is passes ended more passed h =
    let last : Runs before.files before.at replies (step ∷ []) = subst (λ (p : Pass). Passes p before.files files before.at replies step) is passes in
    record {
      so_far = subst (λ (b : Bool). MatchBool b (Runs first_files 0 replies (passed ++ step ∷ [])) (LeadsOn after.files after.at replies (passed ++ step ∷ []))) (sym ended)
          (leads before replies passed goes h (step ∷ []) last);
      ops_are = ops_next before.ops after.ops passed step h.ops_are more;
    }

-- a step that others follow
pub goes_on : (before after : Run) (replies : List Reply) (step : Step) (pass : Pass) → before.ended ≡ false → pass ≡ GoesOn
    → Passes pass before.files after.files before.at replies step → after.ended ≡ false → after.at ≡ before.at + 1 → after.ops ≡ before.ops ++ with_op step.change []
    → Takes before after replies step
goes_on before after replies step pass goes is passes goes_after next more passed h =
    let here : (rest : List Step) → Runs after.files (before.at + 1) replies rest → Runs before.files before.at replies (step ∷ rest) =
    subst (λ (p : Pass). Passes p before.files after.files before.at replies step) is passes in
    let on : LeadsOn after.files (before.at + 1) replies (passed ++ step ∷ []) =
    λ rest runs. subst (Runs first_files 0 replies) (sym (append_assoc passed (step ∷ []) rest)) (leads before replies passed goes h (step ∷ rest) (here rest runs)) in
    record {
      so_far = subst (λ (b : Bool). MatchBool b (Runs first_files 0 replies (passed ++ step ∷ [])) (LeadsOn after.files after.at replies (passed ++ step ∷ []))) (sym goes_after)
          (subst (λ (n : ℕ). LeadsOn after.files n replies (passed ++ step ∷ [])) (sym next) on);
      ops_are = ops_next before.ops after.ops passed step h.ops_are more;
    }

pub is_run : (run : Run) (replies : List Reply) (steps : List Step) → HasRun run replies steps → run.ended ≡ true → RunsWith replies steps run.ops
is_run run replies steps h ended = record {
  runs = subst (λ (b : Bool). MatchBool b (Runs first_files 0 replies steps) (LeadsOn run.files run.at replies steps)) ended h.so_far;
  ops_are = h.ops_are;
}
