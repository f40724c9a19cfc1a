-- The turns of a copy keep its cells, and what they send has an encoding, by the law of copies.
use Rattle.std.proofs.Common.{◌≡◌, ℕ, true, List, sym, subst}
use Rattle.fop_types.specs.Bounds.{AreFew, IsRep}
use Rattle.fop_types.specs.declared.answers.SplitRow.{SplitRow}
use Rattle.fop_types.specs.declared.copy_jobs.CopyJob.{CopyJob}
use Rattle.fop_types.specs.declared.messages.BrickRep.{BrickRep}
use Rattle.self_heal.specs.Runs.{new_run, next_cell, answered}
use Rattle.self_heal.specs.Turning.{AreEncoded, BeginsAreEncoded, AnswersAreEncoded}
use Rattle.self_heal.specs.declared.run.CopyRun.{CopyRun}
use Rattle.self_heal.specs.declared.stage.CopyNeed.{CopyNeed}

few_of : (job now : CopyJob) → now ≡ job → AreFew job.cells → AreFew now.cells
few_of job now same few = subst (λ (j : CopyJob). AreFew j.cells) (sym same) few

module _ (begins : BeginsAreEncoded) (job : CopyJob) (rows : List SplitRow) (run : CopyRun) (n : CopyNeed) (is : ◌≡◌ {A = CopyRun × CopyNeed} (run, n) (next_cell (new_run job rows))) (few : AreFew job.cells) where
  pub begun_encoded : AreEncoded n
  begun_encoded = subst (λ (t : CopyRun × CopyNeed). AreEncoded t.1) (sym is) (begins job rows few).0

  pub begun_few : AreFew run.job.cells
  begun_few = subst (λ (t : CopyRun × CopyNeed). AreFew t.0.job.cells) (sym is) (few_of job (next_cell (new_run job rows)).0.job (begins job rows few).1 few)

module _ (answers : AnswersAreEncoded) (old run : CopyRun) (k mark : ℕ) (rep : BrickRep) (n : CopyNeed) (is : ◌≡◌ {A = CopyRun × CopyNeed} (run, n) (answered old k rep mark)) (few : AreFew old.job.cells) (fits : IsRep true rep) where
  pub answer_encoded : AreEncoded n
  answer_encoded = subst (λ (t : CopyRun × CopyNeed). AreEncoded t.1) (sym is) (answers k mark old rep few fits).0

  pub answer_few : AreFew run.job.cells
  answer_few = subst (λ (t : CopyRun × CopyNeed). AreFew t.0.job.cells) (sym is) (few_of old.job (answered old k rep mark).0.job (answers k mark old rep few fits).1 few)
