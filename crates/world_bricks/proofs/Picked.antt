-- The bricks that have inputs and outputs, as sets; and what is chosen.
use Rattle.std.proofs.Common.{◌≡◌, refl, sym, ap, ◌∙◌, inl, inr, arith, lt-ltb, le-ltb}
use Rattle.std.proofs.lemmas.Option.{slice_get_past, slice_get_cases}
use Rattle.std.specs.Prelude.{ℕ, ◌≤◌, ◌+◌, nat_lt, min, Bool, true, false, ◌&&◌, List, length, is_some, slice_get, Option, None, Some}
use Rattle.script_lang.specs.declared.scripts.Action.{Action}
use Rattle.brick_machine.specs.Journal.{Journal}
use Rattle.hub_tables.proofs.Numbers.{numbers_are}
use Rattle.hub_tables.proofs.SetsWhere.{AreBelow, none_below, next_below, skipped_below, all_below}
use Rattle.hub_tables.specs.Agendas.{AgendaState, plain_due}
use Rattle.hub_tables.specs.SmallSets.{no_numbers, Adds, numbers, numbers_where}
use Rattle.hub_tables.specs.declared.small_set.SmallSet.{SmallSet}
use Rattle.world_bricks.specs.Choices.{choices_of, choice_by, chosen_among, enabled, run_of, event_in, chosen_event}
use Rattle.world_bricks.specs.Lines.{LinesState, next_input, outputs_by, arrived_of, may_serve, may_arrive}
use Rattle.world_bricks.specs.declared.enabled.Choice.{Choice}
use Rattle.world_bricks.specs.declared.enabled.Choice.TheVariants as choice
use Rattle.world_bricks.specs.declared.enabled.Enabled.{Enabled}
use Rattle.world_bricks.specs.declared.events.Event.{Event}

pub some_output : {X : Type 0} (xs : List X) (n : ℕ) → nat_lt n (length xs) ≡ is_some (slice_get xs n)
some_output xs n = elim (slice_get_cases xs n).1 [
  | inl s ↦ lt-ltb n (length xs) s.1 ∙ sym (ap is_some s.2)
  | inr g ↦ le-ltb n (length xs) g.0 ∙ sym (ap is_some g.1)
]

-- ---- the bricks with an input

module _ (lines : LinesState) where
  past_serving : (k : ℕ) → length lines.bricks ≤ k → may_serve lines k ≡ false
  past_serving k past = ap (λ (b : Option Journal). is_some b && is_some (next_input lines k)) (slice_get_past lines.bricks k past)

  pub none_serving : AreBelow (may_serve lines) 0 no_numbers
  none_serving = none_below (may_serve lines)

  pub next_serving : (n : ℕ) (old new : SmallSet) → may_serve lines n ≡ true → AreBelow (may_serve lines) n old → Adds old n new → AreBelow (may_serve lines) (n + 1) new
  next_serving n old new = next_below (may_serve lines) n old new

  pub not_serving : (n : ℕ) (set : SmallSet) → may_serve lines n ≡ false → AreBelow (may_serve lines) n set → AreBelow (may_serve lines) (n + 1) set
  not_serving n set = skipped_below (may_serve lines) n set

  pub all_serving : (n : ℕ) (set : SmallSet) → min (length lines.bricks) 64 ≤ n → AreBelow (may_serve lines) n set → numbers set ≡ numbers_where (may_serve lines)
  all_serving n set all so_far = numbers_are set (may_serve lines) (all_below (may_serve lines) n set (λ k low past. past_serving k (omega (arith, all, low, past))) so_far)

  -- ---- the bricks with an output that has not arrived

  past_arriving : (k : ℕ) → length lines.bricks ≤ k → may_arrive lines k ≡ false
  past_arriving k past = ap (λ (b : Option Journal). is_some (slice_get (outputs_by b) (arrived_of lines k))) (slice_get_past lines.bricks k past)

  pub none_arriving : AreBelow (may_arrive lines) 0 no_numbers
  none_arriving = none_below (may_arrive lines)

  pub next_arriving : (n : ℕ) (old new : SmallSet) → may_arrive lines n ≡ true → AreBelow (may_arrive lines) n old → Adds old n new → AreBelow (may_arrive lines) (n + 1) new
  next_arriving n old new = next_below (may_arrive lines) n old new

  pub not_arriving : (n : ℕ) (set : SmallSet) → may_arrive lines n ≡ false → AreBelow (may_arrive lines) n set → AreBelow (may_arrive lines) (n + 1) set
  not_arriving n set = skipped_below (may_arrive lines) n set

  pub all_arriving : (n : ℕ) (set : SmallSet) → min (length lines.bricks) 64 ≤ n → AreBelow (may_arrive lines) n set → numbers set ≡ numbers_where (may_arrive lines)
  all_arriving n set all so_far = numbers_are set (may_arrive lines) (all_below (may_arrive lines) n set (λ k low past. past_arriving k (omega (arith, all, low, past))) so_far)

-- ---- what is chosen

-- what is enabled, by what the world has found of it
module _ (agenda : AgendaState) (ready : List (ℕ × ℕ)) (lines : LinesState) (value : ℕ) (e : Enabled) (c : Option Choice) (submits : numbers e.submits ≡ agenda.progress.ready) (arriving : numbers e.arriving ≡ numbers_where (may_arrive lines)) (serving : numbers e.serving ≡ numbers_where (may_serve lines))
    (tasks : e.tasks ≡ min (length ready) 4294967295) (plain : e.plain ≡ plain_due agenda) (is : c ≡ choice_by e value) where
  same : choices_of (numbers e.submits) (numbers e.arriving) (numbers e.serving) e.tasks e.plain ≡ enabled agenda ready lines
  same =
      ap (λ (ns : List ℕ). choices_of ns (numbers e.arriving) (numbers e.serving) e.tasks e.plain) submits
      ∙ ap (λ (ns : List ℕ). choices_of agenda.progress.ready ns (numbers e.serving) e.tasks e.plain) arriving
      ∙ ap (λ (ns : List ℕ). choices_of agenda.progress.ready (numbers_where (may_arrive lines)) ns e.tasks e.plain) serving
      ∙ ap (λ (n : ℕ). choices_of agenda.progress.ready (numbers_where (may_arrive lines)) (numbers_where (may_serve lines)) n e.plain) tasks
      ∙ ap (λ (p : Option Action). choices_of agenda.progress.ready (numbers_where (may_arrive lines)) (numbers_where (may_serve lines)) (min (length ready) 4294967295) p) plain

  is_chosen : event_in ready c ≡ chosen_event agenda ready lines value
  unfolding chosen_event
  is_chosen = ap (λ (x : Option Choice). event_in ready x) is ∙ ap (λ (cs : List Choice). event_in ready (chosen_among cs value)) same

  pub none_chosen : c ≡ None → None ≡ chosen_event agenda ready lines value
  none_chosen none = sym (ap (λ (x : Option Choice). event_in ready x) none) ∙ is_chosen

  pub event_chosen : (ev : Event) → c ≡ Some (choice.Event ev) → Some ev ≡ chosen_event agenda ready lines value
  event_chosen ev some = sym (ap (λ (x : Option Choice). event_in ready x) some) ∙ is_chosen

  pub task_chosen : (at : ℕ) (o : Option Event) → c ≡ Some (choice.Task at) → o ≡ run_of (slice_get ready at) → o ≡ chosen_event agenda ready lines value
  task_chosen at o some gives = gives ∙ sym (ap (λ (x : Option Choice). event_in ready x) some) ∙ is_chosen
