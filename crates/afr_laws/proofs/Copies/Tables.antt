-- The numbers in copies stay what they are while the table of changes goes on.
use Rattle.std.proofs.Common.{◌≡◌, ◌∙◌, ℕ, ◌+◌, ◌≤◌, Bool, true, false, refl, sym, ap, ◌⊎◌, inl, inr, arith, Option, Some, None}
use Rattle.std.specs.Prelude.{List, [], ◌∷◌}
use Rattle.fop_types.specs.declared.cells.Cell.{Cell}
use Rattle.fop_types.specs.declared.jobs.Job.{Job}
use Rattle.fop_types.specs.declared.jobs.Job.TheVariants as job
use Rattle.afr_machine.specs.Replicas.{with_at}
use Rattle.afr_machine.specs.Touching.{has_cell}
use Rattle.afr_machine.specs.Requests.{Ask, Input, Answer, Output}
use Rattle.afr_machine.specs.Requests.Ask.{Op, Fetch, Replace}
use Rattle.afr_machine.specs.Requests.Input.{Asked, Steered}
use Rattle.afr_machine.specs.Requests.Answer.{Content}
use Rattle.afr_machine.specs.Requests.Output.{Answered, Closed, Opened, Connected}
use Rattle.afr_machine.specs.Bricks.{Brick}
use Rattle.afr_machine.specs.Changes.{Change, Verdict, is_unsettled}
use Rattle.afr_machine.specs.Changes.Verdict.{Unsettled, Adopted, Dropped}
use Rattle.afr_machine.specs.Transactions.{Stage}
use Rattle.afr_machine.specs.Transactions.Stage.{Marking, Copying}
use Rattle.afr_machine.specs.States.{State}
use Rattle.afr_machine.specs.Turns.{drawing}
use Rattle.afr_machine.specs.Steps.{unsettling, deciding, decided}
use Rattle.afr_machine.proofs.Tables.{at_other}
use Rattle.afr_laws.specs.Senders.{EachInput}
use Rattle.afr_laws.specs.Drawn.{ChangesAreDrawn}
use Rattle.afr_laws.specs.OwnChanges.{was_unsettled}
use Rattle.afr_laws.specs.Copies.{IsChangeOf, AreChangesOf, IsLast, IsCopyOf, Carries, Shows, EachAnswer, RunShows, BrickCopies}
use Rattle.afr_laws.specs.Copies.IsLast.{NoneYet, Greatest}
use Rattle.afr_laws.proofs.Carry.{at_case}
use Rattle.afr_laws.proofs.Newest.Draws.{sent_drawn}
use Rattle.afr_laws.proofs.OwnChanges.Replies.{SameTable}

-- what became unsettled once stays so, with its cells and its op; number 0 stays no change's
pub record TableGoes (old new : ℕ → Change) : Type 0 where
  pub sent : (u : ℕ) → was_unsettled (old u).verdict ≡ true → was_unsettled (new u).verdict ≡ true
  pub cells : (u : ℕ) → was_unsettled (old u).verdict ≡ true → (new u).cells ≡ (old u).cells
  pub op : (u : ℕ) → was_unsettled (old u).verdict ≡ true → (new u).op ≡ (old u).op
  pub none : (new 0).cells ≡ (old 0).cells

module _ (old new : ℕ → Change) (g : TableGoes old new) where
  change_goes : (cell : Cell) (u : ℕ) → IsChangeOf old cell u → IsChangeOf new cell u
  change_goes cell u c = record { sent = g.sent u c.sent; touches = ap (λ cs. has_cell cs cell) (g.cells u c.sent) ∙ c.touches }

  changes_go : (cell : Cell) (us : List ℕ) → AreChangesOf old cell us → AreChangesOf new cell us
  changes_go cell [] c = tt
  changes_go cell (u ∷ us) c = (change_goes cell u c.0, changes_go cell us c.1)

  last_cells : (last : ℕ) → (last ≡ 0) ⊎ (was_unsettled (old last).verdict ≡ true) → (new last).cells ≡ (old last).cells
  last_cells last (inl zero) = ap (λ n. (new n).cells) zero ∙ g.none ∙ sym (ap (λ n. (old n).cells) zero)
  last_cells last (inr sent) = g.cells last sent

  last_goes : (cell : Cell) (last : ℕ) (us : List ℕ) → (new last).cells ≡ (old last).cells → IsLast old cell last us → IsLast new cell last us
  last_goes cell last us same (NoneYet none untouched) = NoneYet none (ap (λ cs. has_cell cs cell) same ∙ untouched)
  last_goes cell last us same (Greatest there most) = Greatest there most

  was_goes : (last : ℕ) → (last ≡ 0) ⊎ (was_unsettled (old last).verdict ≡ true) → (last ≡ 0) ⊎ (was_unsettled (new last).verdict ≡ true)
  was_goes last (inl zero) = inl zero
  was_goes last (inr sent) = inr (g.sent last sent)

  copy_goes : (cell : Cell) (us : List ℕ) (last : ℕ) → IsCopyOf old cell us last → IsCopyOf new cell us last
  copy_goes cell us last c = record { changes_are = changes_go cell us c.changes_are; last_was = was_goes last c.last_was; last_is = last_goes cell last us (last_cells last c.last_was) c.last_is }

  carries_goes : (ask : Ask) → Carries old ask → Carries new ask
  carries_goes (Op u op) (inl birth) = inl birth
  carries_goes (Op u op) (inr sent) = inr (g.sent u sent.0, sent.1 ∙ sym (g.op u sent.0))
  carries_goes (Replace cell found) c = copy_goes cell found.copy.changes found.last c
  carries_goes other c = tt

  shows_goes : (ask : Ask) (answer : Answer) → Shows old ask answer → Shows new ask answer
  shows_goes (Fetch cell) (Content found) s = copy_goes cell found.copy.changes found.last s
  shows_goes (Fetch cell) other s = tt
  shows_goes other answer s = tt

  line_goes : (line : List Input) → EachInput (λ by ask. Carries old ask) line → EachInput (λ by ask. Carries new ask) line
  line_goes [] c = tt
  line_goes (Asked by ask ∷ is) c = (carries_goes ask c.0, line_goes is c.1)
  line_goes (Steered control ∷ is) c = line_goes is c

  outputs_go : (os : List Output) → EachAnswer (Shows old) os → EachAnswer (Shows new) os
  outputs_go [] s = tt
  outputs_go (Answered by ask answer ∷ os) s = (shows_goes ask answer s.0, outputs_go os s.1)
  outputs_go (Closed ∷ os) s = outputs_go os s
  outputs_go (Opened ∷ os) s = outputs_go os s
  outputs_go (Connected graph ∷ os) s = outputs_go os s

  pub brick_goes : (b : Brick) → BrickCopies old b → BrickCopies new b
  brick_goes b c = record { stored = λ cell. copy_goes cell _ _ (c.stored cell); line = line_goes b.line c.line; outputs = outputs_go b.outputs c.outputs; below = c.below; rises = c.rises }

  pub run_goes : (stage : Stage) → RunShows old stage → RunShows new stage
  run_goes (Copying run) s = λ cell found is. copy_goes cell found.copy.changes found.last (s cell found is)
  run_goes other s = tt

-- ---- how the table goes on

pub table_goes : (old new : ℕ → Change) → new ≡ old → TableGoes old new
table_goes old new is = record { sent = λ u h. ap (λ (f : ℕ → Change). was_unsettled (f u).verdict) is ∙ h; cells = λ u h. ap (λ (f : ℕ → Change). (f u).cells) is; op = λ u h. ap (λ (f : ℕ → Change). (f u).op) is; none = ap (λ (f : ℕ → Change). (f 0).cells) is }

pub same_goes : (old new : ℕ → Change) → SameTable old new → TableGoes old new
same_goes old new s = record { sent = λ u h. ap was_unsettled (s u).verdict ∙ h; cells = λ u h. (s u).cells; op = λ u h. (s u).op; none = (s 0).cells }

-- one change has another verdict
pub verdict_goes : (old : ℕ → Change) (v : ℕ) (verdict : Verdict) → was_unsettled verdict ≡ true → TableGoes old (with_at old v (record (old v) { verdict = verdict }))
verdict_goes old v verdict now = record {
  sent = λ u. at_case (λ n (c : Change). was_unsettled (old n).verdict ≡ true → was_unsettled c.verdict ≡ true) old v _ (λ h. now) u (λ ne h. h);
  cells = λ u h. at_case (λ n (c : Change). c.cells ≡ (old n).cells) old v _ refl u (λ ne. refl);
  op = λ u h. at_case (λ n (c : Change). c.op ≡ (old n).op) old v _ refl u (λ ne. refl);
  none = at_case (λ n (c : Change). c.cells ≡ (old n).cells) old v _ refl 0 (λ ne. refl);
}

module _ (m : State) (d : ChangesAreDrawn m) where
  -- a new number leaves those that were drawn
  drawn_goes : (new : Change) → TableGoes m.changes (with_at m.changes (m.drawn + 1) new)
  drawn_goes new = record {
    sent = λ u h. ap (λ (c : Change). was_unsettled c.verdict) (old u (sent_drawn m d u h)) ∙ h;
    cells = λ u h. ap (λ (c : Change). c.cells) (old u (sent_drawn m d u h));
    op = λ u h. ap (λ (c : Change). c.op) (old u (sent_drawn m d u h));
    none = ap (λ (c : Change). c.cells) (old 0 (omega arith));
  }
    where
      old : (u : ℕ) → u ≤ m.drawn → with_at m.changes (m.drawn + 1) new u ≡ m.changes u
      old u low = at_other m.changes (m.drawn + 1) new u (λ e. absurd (omega (arith, e, low)))

  pub draw_table : (t : ℕ) (own : Job) → TableGoes m.changes (drawing m t own).changes
  draw_table t (job.Change cells fd op effect) = drawn_goes _
  draw_table t other = table_goes m.changes m.changes refl

pub unsettle_table : (m : State) (t : ℕ) (stage : Stage) → TableGoes m.changes (unsettling m t stage).changes
unsettle_table m t (Marking u) = verdict_goes m.changes u Unsettled refl
unsettle_table m t other = table_goes m.changes m.changes refl

pub decided_table : (m : State) (o : Option (ℕ × Bool)) → TableGoes m.changes (decided m o).changes
decided_table m None = table_goes m.changes m.changes refl
decided_table m (Some o) = by_case o.1 (is_unsettled (m.changes o.0).verdict) where
  by_case : (adopts first : Bool) → TableGoes m.changes (deciding m o.0 adopts first).changes
  by_case adopts false = table_goes m.changes m.changes refl
  by_case true true = verdict_goes m.changes o.0 Adopted refl
  by_case false true = verdict_goes m.changes o.0 Dropped refl
