-- The cells that were copied: each was fetched, and each sink that is still used has confirmed its replacement.
use Rattle.std.proofs.Common.{◌≡◌, ℕ, zero, suc, Bool, true, inr, List, [], ◌∷◌, ◌++◌, Some, None, subst, length, slice_get}
use Rattle.fop_types.specs.declared.answers.SplitRow.{SplitRow}
use Rattle.fop_types.specs.declared.cells.Cell.{Cell}
use Rattle.fop_types.specs.declared.contents.Content.{Content}
use Rattle.fop_types.specs.declared.copy_jobs.CopyJob.{CopyJob}
use Rattle.fop_types.specs.declared.messages.BrickRep.TheVariants as rep
use Rattle.fop_types.specs.declared.messages.BrickReq.TheVariants as req
use Rattle.fop_types.specs.declared.messages.DoneArm.TheVariants as arm
use Rattle.afr_phases.specs.Flags.{flag}
use Rattle.self_heal.specs.declared.stage.Origin.{Origin}
use Rattle.self_heal.specs.Handed.{Handed, HasAnswered}
use Rattle.self_heal.specs.Laws.{HasCopy}

pub record IsCopied (job : CopyJob) (rows : List SplitRow) (hs : List Handed) (sinks : List Bool) (origin : Origin) (cell : Cell) : Type 0 where
  pub content : Content
  pub fetched : HasAnswered job rows hs origin.source (req.Fetch 0 cell) (rep.Done (arm.Content content origin.last))
  pub replaced : (k : ℕ) → flag sinks k ≡ true → HasAnswered job rows hs k (req.Replace cell origin.last content) (rep.Done arm.Nothing)

abbrev pub AreCopied : CopyJob → List SplitRow → List Handed → List Bool → List Origin → List Cell → Type 0
AreCopied job rows hs sinks [] cells = Unit {0}
AreCopied job rows hs sinks (o ∷ os) [] = ⊥
AreCopied job rows hs sinks (o ∷ os) (c ∷ cs) = IsCopied job rows hs sinks o c × AreCopied job rows hs sinks os cs

module _ (job : CopyJob) (rows : List SplitRow) (hs : List Handed) (sinks : List Bool) where
  pub has_copy : (origin : Origin) (cell : Cell) (k : ℕ) → IsCopied job rows hs sinks origin cell → flag sinks k ≡ true → HasCopy job rows hs cell k
  has_copy origin cell k i f = record { source = origin.source; last = origin.last; content = i.content; fetched = i.fetched; replaced = i.replaced k f }

  -- one more cell is copied
  pub one_more : (os : List Origin) (cs : List Cell) (o : Origin) (cell : Cell) → AreCopied job rows hs sinks os cs → slice_get cs (length os) ≡ Some cell → IsCopied job rows hs sinks o cell → AreCopied job rows hs sinks (os ++ o ∷ []) cs
  one_more [] [] o cell all e i = absurd cc
  one_more [] (c ∷ cs) o cell all e i =
      let same : cell ≡ c = cc in (subst (λ (d : Cell). IsCopied job rows hs sinks o d) same i, tt)
  one_more (p ∷ os) [] o cell all e i = absurd all
  one_more (p ∷ os) (c ∷ cs) o cell all e i = (all.0, one_more os cs o cell all.1 e i)

  -- where no cell is left, a sink has all
  pub has_each : (os : List Origin) (cs : List Cell) (k : ℕ) → AreCopied job rows hs sinks os cs → slice_get cs (length os) ≡ None → flag sinks k ≡ true → (cell : Cell) (i : ℕ) → slice_get cs i ≡ Some cell → HasCopy job rows hs cell k
  has_each [] [] k all none f cell i e = absurd cc
  has_each [] (c ∷ cs) k all none f cell i e = absurd cc
  has_each (o ∷ os) [] k all none f cell i e = absurd all
  has_each (o ∷ os) (c ∷ cs) k all none f cell zero e =
      let same : c ≡ cell = cc in subst (λ (d : Cell). HasCopy job rows hs d k) same (has_copy o c k all.0 f)
  has_each (o ∷ os) (c ∷ cs) k all none f cell (suc i) e = has_each os cs k all.1 none f cell i e

  -- after a further answer, for fewer sinks
  pub later : (h : Handed) (fewer : List Bool) → ((k : ℕ) → flag fewer k ≡ true → flag sinks k ≡ true) → (os : List Origin) (cs : List Cell) → AreCopied job rows hs sinks os cs → AreCopied job rows (h ∷ hs) fewer os cs
  later h fewer sub [] cs all = tt
  later h fewer sub (o ∷ os) [] all = absurd all
  later h fewer sub (o ∷ os) (c ∷ cs) all =
      (record { content = all.0.content; fetched = inr all.0.fetched; replaced = λ k f. inr (all.0.replaced k (sub k f)) }, later h fewer sub os cs all.1)
