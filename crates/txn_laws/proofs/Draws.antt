-- Which turns draw a number.
use Rattle.std.proofs.Common.{◌≡◌, ◌∙◌, ℕ, ◌+◌, inl, inr, Bool, true, ◌&&◌, not, List, Option, Some, None, is_some, refl, ap, length, slice_index}
use Rattle.std.proofs.lemmas.Bool.{cond_both, and_parts}
use Rattle.fop_types.specs.declared.cells.Cell.{Cell}
use Rattle.fop_types.specs.declared.contents.Mask.{Mask}
use Rattle.fop_types.specs.declared.contents.Row.{Row}
use Rattle.fop_types.specs.declared.copy_jobs.CopyDone.{CopyDone}
use Rattle.fop_types.specs.declared.messages.BrickRep.{BrickRep}
use Rattle.fop_types.specs.declared.store_ops.StoreOp.{StoreOp}
use Rattle.afr_ledger.specs.Changes.{numbered}
use Rattle.afr_ledger.specs.Ledger.{State}
use Rattle.afr_ledger.specs.declared.unsettled.Unsettled.{Unsettled}
use Rattle.afr_phases.specs.declared.locking.LockStep.{LockStep}
use Rattle.afr_phases.specs.declared.locking.LockStep.TheVariants as step
use Rattle.afr_phases.specs.declared.outs.Outs.{Outs}
use Rattle.afr_phases.specs.Answers.{is_fault, rows_in}
use Rattle.afr_phases.specs.Asked.{is_waiting, are_granted_within}
use Rattle.afr_phases.specs.Locking.{next_lock}
use Rattle.afr_phases.specs.Locks.{granted}
use Rattle.afr_phases.specs.Outs.{is_short, left}
use Rattle.afr_phases.specs.Waves.{is_over}
use Rattle.afr_transaction.specs.declared.jobs.Kind.{Kind}
use Rattle.afr_transaction.specs.declared.jobs.Kind.TheVariants as kind
use Rattle.afr_transaction.specs.declared.need.Need.{Need}
use Rattle.afr_transaction.specs.declared.phase.Adopted.{Adopted}
use Rattle.afr_transaction.specs.declared.phase.Part.{Part}
use Rattle.afr_transaction.specs.declared.phase.Phase.{Phase}
use Rattle.afr_transaction.specs.declared.phase.Phase.TheVariants as phase
use Rattle.afr_transaction.specs.declared.phase.Verdict.{Verdict}
use Rattle.afr_transaction.specs.declared.txn.Txn.{Txn}
use Rattle.afr_transaction.specs.Answers.{answered_in, copied_in, hearing, idle, lock_on, lock_step, mark_answered, post_answered, settle_answered, write_by}
use Rattle.afr_transaction.specs.Changes.{adopted_by, decides, has_number, marking, may_begin, post_decided}
use Rattle.afr_transaction.specs.Copied.{copied_all, copy_by, copy_next, copy_noted, copy_taken, is_change}
use Rattle.afr_transaction.specs.Copies.{has_source, is_left, next_part}
use Rattle.afr_transaction.specs.Jobs.{change_op, kind_of}
use Rattle.afr_transaction.specs.Locked.{lock_taken, reached}
use Rattle.afr_transaction.specs.Parts.{all_parts, is_split}
use Rattle.afr_transaction.specs.Ready.{is_touched, ready_by, ready_for}
use Rattle.afr_transaction.specs.Settles.{settle_decided, verdict_by}
use Rattle.afr_transaction.specs.Shapes.{suits}
use Rattle.afr_transaction.specs.Txns.{is_heal}
use Rattle.txn_laws.specs.Laws.{DrawsToMark, AnswersDrawToMark, CopiesDrawToMark}
use Rattle.txn_laws.proofs.Idle.{suits_idle}
use Rattle.txn_laws.proofs.Quorums.{ended_leaves}

module _ (live : Mask) (last : List ℕ) (ledger : State Cell) where
  abbrev Few : Txn × (Need × State Cell) → Type 0
  Few t = DrawsToMark ledger t

  marking_few : (txn : Txn) → Few (marking txn ledger live last)
  marking_few txn = cond_both (has_number ledger) _ _ Few (λ e. inr (refl, (refl, tt))) (λ e. inl refl)

  all_few : (txn : Txn) → Few (copied_all txn ledger live last)
  all_few txn =
      cond_both (is_some txn.settles) _ _ Few (λ e. inl refl)
      (λ e. cond_both (is_change txn.job) _ _ Few (λ c. marking_few txn) (λ c. cond_both (is_heal txn.job) _ _ Few (λ h. inl refl) (λ h. inl refl)))

  by_few : (txn : Txn) (next : Option Part × List Part) → Few (copy_by txn next ledger live last)
  by_few txn (None, parts) = all_few txn
  by_few txn (Some part, parts) = cond_both (has_source txn part) _ _ Few (λ e. inl refl) (λ e. inl refl)

  next_few : (txn : Txn) (parts : List Part) → Few (copy_next txn parts ledger live last)
  next_few txn parts = by_few txn (next_part txn parts)

  taken_few : (txn : Txn) (sinks : List Bool) (parts : List Part) (done : CopyDone) → Few (copy_taken txn sinks parts done ledger live last)
  taken_few txn sinks parts done =
      cond_both (is_short (copy_noted txn done).outs (copy_noted txn done).size.n (copy_noted txn done).size.q) _ _ Few (λ e. inl refl)
      (λ e. cond_both (is_left (copy_noted txn done) sinks done.current) _ _ Few (λ l. inl refl) (λ l. next_few (copy_noted txn done) parts))

  kind_few : (k : Kind) (txn : Txn) → Few (ready_by k txn ledger live last)
  kind_few kind.Read txn = inl refl
  kind_few kind.Change txn = cond_both (is_split txn 0 txn.cells) _ _ Few (λ e. inl refl) (λ e. next_few txn (all_parts txn))
  kind_few kind.Birth txn = inl refl
  kind_few kind.Heal txn =
      cond_both (is_touched txn ledger) _ _ Few (λ e. inl refl)
      (λ e. cond_both (is_split txn 0 txn.cells) _ _ Few (λ s. inl refl) (λ s. next_few txn (all_parts txn)))
  kind_few (kind.Open fd gfid) txn = inl refl
  kind_few kind.Index txn = inl refl

  for_few : (settles : Option ℕ) (txn : Txn) → Few (ready_for settles txn ledger live last)
  for_few (Some change) txn = inl refl
  for_few None txn = kind_few (kind_of txn.job) txn

  step_few : (txn : Txn) (next : Outs × LockStep) → Few (lock_step txn next ledger live last)
  step_few txn (outs, step.Ask k) = inl refl
  step_few txn (outs, step.Short) = inl refl
  step_few txn (outs, step.Reached) = for_few txn.settles (reached (record txn { outs = outs }))

  locked_few : (txn : Txn) (k mark : ℕ) (rep : BrickRep) (rows : Option (List Row)) → Few (lock_on (lock_taken txn k rows (is_fault rep) mark last) (k + 1) ledger live last)
  locked_few txn k mark rep None = step_few (lock_taken txn k None (is_fault rep) mark last) (next_lock (left txn.outs k (is_fault rep) mark) txn.locks txn.size.n txn.size.q (k + 1) live last)
  locked_few txn k mark rep (Some rows) = step_few (lock_taken txn k (Some rows) (is_fault rep) mark last) (next_lock txn.outs (granted txn.locks k (slice_index last k)) txn.size.n txn.size.q (k + 1) live last)

  -- ---- a mark, a post, a settle

  write_few : (txn : Txn) (op : Option (ℕ × StoreOp)) (change : ℕ) → Few (write_by op txn change ledger live last)
  write_few txn None change = inl refl
  write_few txn (Some op) change = cond_both (may_begin txn change ledger) _ _ Few (λ e. inl refl) (λ e. inl refl)

  mark_few : (txn : Txn) (change : ℕ) → Few (mark_answered txn change ledger live last)
  mark_few txn change =
      cond_both (not (is_over txn.wave)) _ _ Few (λ e. inl refl) (λ e. cond_both (is_short txn.outs txn.size.n txn.size.q) _ _ Few (λ s. inl refl) (λ s. write_few txn (change_op txn.job) change))

  adopted_few : (u : Option (Unsettled Cell)) (txn : Txn) (change : ℕ) → (adopted_by u txn change ledger).1.drawn ≡ ledger.drawn
  adopted_few None txn change = refl
  adopted_few (Some u) txn change = refl

  decided_few : (txn : Txn) (change : ℕ) (adopted : Option Adopted) → (post_decided txn change adopted ledger).1.drawn ≡ ledger.drawn
  decided_few txn change (Some adopted) = refl
  decided_few txn change None =
      cond_both (decides txn ledger) _ _ (λ (d : Option Adopted × State Cell). d.1.drawn ≡ ledger.drawn) (λ h. adopted_few (numbered change ledger.unsettled) txn change) (λ h. refl)

  post_few : (txn : Txn) (change : ℕ) (adopted : Option Adopted) → Few (post_answered txn change adopted ledger live last)
  post_few txn change adopted = cond_both (is_over txn.wave) _ _ Few (λ e. inl (decided_few txn change adopted)) (λ e. inl (decided_few txn change adopted))

  verdict_few : (u : Option (Unsettled Cell)) (verdict : Verdict) → (verdict_by u verdict.change verdict.held ledger).drawn ≡ ledger.drawn
  verdict_few None verdict = refl
  verdict_few (Some u) verdict = refl

  settled_few : (txn : Txn) (verdict : Verdict) → (settle_decided txn verdict ledger).1.drawn ≡ ledger.drawn
  settled_few txn verdict =
      cond_both verdict.decided _ _ (λ (d : Bool × State Cell). d.1.drawn ≡ ledger.drawn) (λ e. refl)
      (λ e. cond_both (decides txn ledger) _ _ (λ (d : Bool × State Cell). d.1.drawn ≡ ledger.drawn) (λ h. verdict_few (numbered verdict.change ledger.unsettled) verdict) (λ h. refl))

  settle_few : (txn : Txn) (verdict : Verdict) → is_some txn.settles ≡ true → Few (settle_answered txn verdict ledger live last)
  settle_few txn verdict settles =
      cond_both (not (is_over txn.wave)) _ _ Few (λ e. inl (settled_few txn verdict))
      (λ e. inl (ap (λ (s : State Cell). s.drawn) (ended_leaves txn live last settles verdict.group (settle_decided txn verdict ledger).0 (settle_decided txn verdict ledger).1) ∙ settled_few txn verdict))

  -- ---- by the phase

  phase_few : (p : Phase) (txn : Txn) (k mark : ℕ) (rep : BrickRep) → suits p txn ≡ true → Few (answered_in p txn k rep mark ledger live last)
  phase_few (phase.Locking at) txn k mark rep fits = locked_few txn k mark rep (rows_in rep (length txn.cells))
  phase_few (phase.Unlocking after) txn k mark rep fits = inl refl
  phase_few (phase.Fetching place from contents) txn k mark rep fits = inl refl
  phase_few (phase.Copying sinks parts) txn k mark rep fits = inl refl
  phase_few (phase.Marking change) txn k mark rep fits = mark_few (hearing txn k rep mark) change
  phase_few (phase.Writing change) txn k mark rep fits = inl refl
  phase_few (phase.Posting change adopted) txn k mark rep fits = post_few (hearing txn k rep mark) change adopted
  phase_few (phase.Settling verdict) txn k mark rep fits = settle_few (hearing txn k rep mark) verdict (and_parts (is_some txn.settles) _ fits).0
  phase_few phase.Bearing txn k mark rep fits = inl refl
  phase_few phase.Opening txn k mark rep fits = inl refl
  phase_few (phase.Listing all) txn k mark rep fits = inl refl
  phase_few phase.Over txn k mark rep fits = inl refl

  copy_few : (p : Phase) (txn : Txn) (done : CopyDone) → Few (copied_in p txn done ledger live last)
  copy_few (phase.Copying sinks parts) txn done = taken_few txn sinks parts done
  copy_few (phase.Locking at) txn done = inl refl
  copy_few (phase.Unlocking after) txn done = inl refl
  copy_few (phase.Fetching place from contents) txn done = inl refl
  copy_few (phase.Marking change) txn done = inl refl
  copy_few (phase.Writing change) txn done = inl refl
  copy_few (phase.Posting change adopted) txn done = inl refl
  copy_few (phase.Settling verdict) txn done = inl refl
  copy_few phase.Bearing txn done = inl refl
  copy_few phase.Opening txn done = inl refl
  copy_few (phase.Listing all) txn done = inl refl
  copy_few phase.Over txn done = inl refl

pub answers_draw_to_mark : AnswersDrawToMark
answers_draw_to_mark txn k mark rep ledger live last asking =
    let a = and_parts (is_waiting txn.size.n txn.wave) (are_granted_within txn.size.n txn.locks && suits txn.phase txn) asking in
    let b = and_parts (are_granted_within txn.size.n txn.locks) (suits txn.phase txn) a.1 in
    phase_few live last ledger txn.phase (idle txn) k mark rep (suits_idle txn.phase txn b.1)

pub copies_draw_to_mark : CopiesDrawToMark
copies_draw_to_mark txn done ledger live last = copy_few live last ledger txn.phase (idle txn) done
