-- What each turn does to the ledger.
use Rattle.std.proofs.Common.{◌≡◌, ◌∙◌, ℕ, ◌+◌, ◌≤◌, ◌⊎◌, inl, inr, Bool, true, false, ◌&&◌, not, nat_le, cond, List, [], Option, Some, None, is_some, refl, sym, ap, subst, length, slice_index}
use Rattle.std.proofs.lemmas.Bool.{cond_both, and_parts, true≢false, leb-true}
use Rattle.fop_types.specs.declared.cells.Cell.{Cell}
use Rattle.fop_types.specs.declared.contents.Mask.{Mask}
use Rattle.fop_types.specs.declared.copy_jobs.CopyDone.{CopyDone}
use Rattle.fop_types.specs.declared.messages.BrickRep.{BrickRep}
use Rattle.fop_types.specs.declared.store_ops.StoreOp.{StoreOp}
use Rattle.afr_ledger.specs.Changes.{numbered, touching}
use Rattle.fop_types.specs.Orders.{cell_cmp}
use Rattle.fop_types.specs.declared.contents.Row.{Row}
use Rattle.afr_ledger.specs.Ledger.{State, with_number, with_begun, decided}
use Rattle.afr_ledger.specs.declared.unsettled.Unsettled.{Unsettled}
use Rattle.afr_phases.specs.declared.locking.LockStep.{LockStep}
use Rattle.afr_phases.specs.declared.locking.LockStep.TheVariants as step
use Rattle.afr_phases.specs.declared.outs.Outs.{Outs}
use Rattle.afr_phases.specs.declared.wave.Wave.{Wave}
use Rattle.afr_phases.specs.Answers.{is_fault, is_plain_done, rows_in}
use Rattle.afr_phases.specs.Locking.{next_lock}
use Rattle.afr_phases.specs.Locks.{granted}
use Rattle.afr_phases.specs.Outs.{is_short, left}
use Rattle.afr_phases.specs.Asked.{is_waiting, are_granted_within}
use Rattle.afr_phases.specs.Waves.{confirmations, taken, is_over}
use Rattle.afr_transaction.specs.declared.jobs.Kind.{Kind}
use Rattle.afr_transaction.specs.declared.jobs.Kind.TheVariants as kind
use Rattle.afr_transaction.specs.declared.need.Need.{Need}
use Rattle.afr_transaction.specs.declared.phase.Adopted.{Adopted}
use Rattle.afr_transaction.specs.declared.phase.Part.{Part}
use Rattle.afr_transaction.specs.declared.phase.Phase.{Phase}
use Rattle.afr_transaction.specs.declared.phase.Phase.TheVariants as phase
use Rattle.afr_transaction.specs.declared.phase.Verdict.{Verdict}
use Rattle.afr_transaction.specs.declared.txn.Txn.{Txn}
use Rattle.afr_transaction.specs.Answers.{lock_step, lock_on, write_by, mark_answered, post_answered, settle_answered, answered_in, answered, copied_in, copied, idle, hearing}
use Rattle.afr_transaction.specs.Changes.{marking, writing, may_begin, decides, has_number, adopted_by, post_decided}
use Rattle.afr_transaction.specs.Copied.{is_change, copied_all, copy_by, copy_next, copy_noted, copy_taken}
use Rattle.afr_transaction.specs.Copies.{has_source, next_part, is_left}
use Rattle.afr_transaction.specs.Jobs.{kind_of, change_op}
use Rattle.afr_transaction.specs.Locked.{lock_taken, reached}
use Rattle.afr_transaction.specs.Parts.{is_split, all_parts}
use Rattle.afr_transaction.specs.Txns.{is_heal}
use Rattle.afr_transaction.specs.Moves.{MayDecide, IsMove, Stays, Draws, Begins, Decides, AnswersMove, CopiesDraw}
use Rattle.afr_transaction.specs.Ready.{is_touched, ready_to_change, ready_to_heal, ready_by, ready_for, ready}
use Rattle.afr_transaction.specs.Settles.{verdict_by, settle_decided, settle_parts}
use Rattle.afr_transaction.specs.Shapes.{suits, is_asking, is_group}

-- at most a number is drawn
abbrev Few : State Cell → Txn × (Need × State Cell) → Type 0
Few ledger t = (t.1.1 ≡ ledger) ⊎ (t.1.1 ≡ with_number ledger)

module _ (live : Mask) (last : List ℕ) (ledger : State Cell) where
  marking_few : (txn : Txn) → Few ledger (marking txn ledger live last)
  marking_few txn = cond_both (has_number ledger) _ _ (Few ledger) (λ e. inr refl) (λ e. inl refl)

  all_few : (txn : Txn) → Few ledger (copied_all txn ledger live last)
  all_few txn =
      cond_both (is_some txn.settles) _ _ (Few ledger) (λ e. inl refl)
      (λ e. cond_both (is_change txn.job) _ _ (Few ledger) (λ c. marking_few txn) (λ c. cond_both (is_heal txn.job) _ _ (Few ledger) (λ h. inl refl) (λ h. inl refl)))

  by_few : (txn : Txn) (next : Option Part × List Part) → Few ledger (copy_by txn next ledger live last)
  by_few txn (None, parts) = all_few txn
  by_few txn (Some part, parts) = cond_both (has_source txn part) _ _ (Few ledger) (λ e. inl refl) (λ e. inl refl)

  next_few : (txn : Txn) (parts : List Part) → Few ledger (copy_next txn parts ledger live last)
  next_few txn parts = by_few txn (next_part txn parts)

  taken_few : (txn : Txn) (sinks : List Bool) (parts : List Part) (done : CopyDone) → Few ledger (copy_taken txn sinks parts done ledger live last)
  taken_few txn sinks parts done =
      cond_both (is_short (copy_noted txn done).outs (copy_noted txn done).size.n (copy_noted txn done).size.q) _ _ (Few ledger) (λ e. inl refl)
      (λ e. cond_both (is_left (copy_noted txn done) sinks done.current) _ _ (Few ledger) (λ l. inl refl) (λ l. next_few (copy_noted txn done) parts))

  change_few : (txn : Txn) → Few ledger (ready_to_change txn ledger live last)
  change_few txn = cond_both (is_split txn 0 txn.cells) _ _ (Few ledger) (λ e. inl refl) (λ e. next_few txn (all_parts txn))

  heal_few : (txn : Txn) → Few ledger (ready_to_heal txn ledger live last)
  heal_few txn =
      cond_both (is_touched txn ledger) _ _ (Few ledger) (λ e. inl refl)
      (λ e. cond_both (is_split txn 0 txn.cells) _ _ (Few ledger) (λ s. inl refl) (λ s. next_few txn (all_parts txn)))

  kind_few : (k : Kind) (txn : Txn) → Few ledger (ready_by k txn ledger live last)
  kind_few kind.Read txn = inl refl
  kind_few kind.Change txn = change_few txn
  kind_few kind.Birth txn = inl refl
  kind_few kind.Heal txn = heal_few txn
  kind_few (kind.Open fd gfid) txn = inl refl
  kind_few kind.Index txn = inl refl

  for_few : (settles : Option ℕ) (txn : Txn) → Few ledger (ready_for settles txn ledger live last)
  for_few (Some change) txn = inl refl
  for_few None txn = kind_few (kind_of txn.job) txn

  step_few : (txn : Txn) (next : Outs × LockStep) → Few ledger (lock_step txn next ledger live last)
  step_few txn (outs, step.Ask k) = inl refl
  step_few txn (outs, step.Short) = inl refl
  step_few txn (outs, step.Reached) = for_few txn.settles (reached (record txn { outs = outs }))

  -- a settling draws none
  settled_all : (txn : Txn) → is_some txn.settles ≡ true → (copied_all txn ledger live last).1.1 ≡ ledger
  settled_all txn s = cond_both (is_some txn.settles) _ _ (λ (t : Txn × (Need × State Cell)). t.1.1 ≡ ledger) (λ e. refl) (λ e. absurd (true≢false (sym s ∙ e)))

  settled_by : (txn : Txn) (next : Option Part × List Part) → is_some txn.settles ≡ true → (copy_by txn next ledger live last).1.1 ≡ ledger
  settled_by txn (None, parts) s = settled_all txn s
  settled_by txn (Some part, parts) s = cond_both (has_source txn part) _ _ (λ (t : Txn × (Need × State Cell)). t.1.1 ≡ ledger) (λ e. refl) (λ e. refl)

  settled_next : (txn : Txn) (parts : List Part) → is_some txn.settles ≡ true → (copy_next txn parts ledger live last).1.1 ≡ ledger
  settled_next txn parts s = settled_by txn (next_part txn parts) s

module _ (txn : Txn) (k mark : ℕ) (rep : BrickRep) (ledger : State Cell) (live : Mask) (last : List ℕ) where
  abbrev Moves : State Cell → Type 0
  Moves after = IsMove txn (taken txn.wave k (is_plain_done rep)) ledger after

  abbrev Turns : Txn × (Need × State Cell) → Type 0
  Turns t = IsMove txn (taken txn.wave k (is_plain_done rep)) ledger t.1.1

  of_few : (t : Txn × (Need × State Cell)) → Few ledger t → Turns t
  of_few t (inl same) = Stays same
  of_few t (inr more) = Draws more

  -- a change becomes unsettled once its mark is confirmed
  write_moves : (op : Option (ℕ × StoreOp)) (change : ℕ) → txn.phase ≡ phase.Marking change → Turns (write_by op (hearing (idle txn) k rep mark) change ledger live last)
  write_moves None change is = Stays refl
  write_moves (Some op) change is =
      cond_both (may_begin (hearing (idle txn) k rep mark) change ledger) _ _ Turns (λ may. Begins change is may refl) (λ e. Stays refl)

  mark_moves : (change : ℕ) → txn.phase ≡ phase.Marking change → Turns (mark_answered (hearing (idle txn) k rep mark) change ledger live last)
  mark_moves change is =
      cond_both (not (is_over (taken txn.wave k (is_plain_done rep)))) _ _ Turns (λ e. Stays refl)
      (λ e. cond_both (is_short (hearing (idle txn) k rep mark).outs txn.size.n txn.size.q) _ _ Turns (λ s. Stays refl) (λ s. write_moves (change_op txn.job) change is))

  has_quorum : decides (hearing (idle txn) k rep mark) ledger ≡ true → txn.size.q ≤ confirmations (taken txn.wave k (is_plain_done rep))
  has_quorum h = leb-true txn.size.q (confirmations (taken txn.wave k (is_plain_done rep))) (and_parts (nat_le txn.size.q (confirmations (taken txn.wave k (is_plain_done rep)))) _ h).0

  -- a post
  adopted_moves : (u : Option (Unsettled Cell)) (change : ℕ) → MayDecide txn.phase change true → decides (hearing (idle txn) k rep mark) ledger ≡ true → Moves (adopted_by u (hearing (idle txn) k rep mark) change ledger).1
  adopted_moves None change may h = Stays refl
  adopted_moves (Some u) change may h = Decides change true may (has_quorum h) refl

  decided_moves : (change : ℕ) (adopted : Option Adopted) → txn.phase ≡ phase.Posting change adopted → Moves (post_decided (hearing (idle txn) k rep mark) change adopted ledger).1
  decided_moves change (Some adopted) is = Stays refl
  decided_moves change None is =
      cond_both (decides (hearing (idle txn) k rep mark) ledger) _ _ (λ (d : Option Adopted × State Cell). Moves d.1)
      (λ h. adopted_moves (numbered change ledger.unsettled) change (subst (λ (p : Phase). MayDecide p change true) (sym is) (refl, refl)) h) (λ e. Stays refl)

  post_moves : (change : ℕ) (adopted : Option Adopted) → txn.phase ≡ phase.Posting change adopted → Turns (post_answered (hearing (idle txn) k rep mark) change adopted ledger live last)
  post_moves change adopted is =
      cond_both (is_over (taken txn.wave k (is_plain_done rep))) _ _ Turns (λ e. decided_moves change adopted is) (λ e. decided_moves change adopted is)

  -- a settle
  verdict_moves : (u : Option (Unsettled Cell)) (verdict : Verdict) → MayDecide txn.phase verdict.change verdict.held → decides (hearing (idle txn) k rep mark) ledger ≡ true → Moves (verdict_by u verdict.change verdict.held ledger)
  verdict_moves None verdict may h = Stays refl
  verdict_moves (Some u) verdict may h = Decides verdict.change verdict.held may (has_quorum h) refl

  settled_moves : (verdict : Verdict) → txn.phase ≡ phase.Settling verdict → Moves (settle_decided (hearing (idle txn) k rep mark) verdict ledger).1
  settled_moves verdict is =
      cond_both verdict.decided _ _ (λ (d : Bool × State Cell). Moves d.1) (λ e. Stays refl)
      (λ e. cond_both (decides (hearing (idle txn) k rep mark) ledger) _ _ (λ (d : Bool × State Cell). Moves d.1)
      (λ h. verdict_moves (numbered verdict.change ledger.unsettled) verdict (subst (λ (p : Phase). MayDecide p verdict.change verdict.held) (sym is) (refl, (refl, e))) h) (λ h. Stays refl))

  settle_moves : (verdict : Verdict) → txn.phase ≡ phase.Settling verdict → is_some txn.settles ≡ true → Turns (settle_answered (hearing (idle txn) k rep mark) verdict ledger live last)
  settle_moves verdict is settles =
      cond_both (not (is_over (taken txn.wave k (is_plain_done rep)))) _ _ Turns (λ e. settled_moves verdict is)
      (λ e. cond_both (settle_decided (hearing (idle txn) k rep mark) verdict ledger).0 _ _ Turns
      (λ d. subst Moves (sym (settled_next live last (settle_decided (hearing (idle txn) k rep mark) verdict ledger).1 (hearing (idle txn) k rep mark) (settle_parts (hearing (idle txn) k rep mark) verdict.group) settles)) (settled_moves verdict is))
      (λ d. settled_moves verdict is))

  in_lock : (rows : Option (List Row)) → Few ledger (lock_on (lock_taken (idle txn) k rows (is_fault rep) mark last) (k + 1) ledger live last)
  in_lock None = step_few live last ledger (lock_taken (idle txn) k None (is_fault rep) mark last) (next_lock (left txn.outs k (is_fault rep) mark) txn.locks txn.size.n txn.size.q (k + 1) live last)
  in_lock (Some rows) = step_few live last ledger (lock_taken (idle txn) k (Some rows) (is_fault rep) mark last) (next_lock txn.outs (granted txn.locks k (slice_index last k)) txn.size.n txn.size.q (k + 1) live last)

  in_phase : (p : Phase) → txn.phase ≡ p → suits p txn ≡ true → Turns (answered_in p (idle txn) k rep mark ledger live last)
  in_phase (phase.Locking at) is fits = of_few (answered_in (phase.Locking at) (idle txn) k rep mark ledger live last) (in_lock (rows_in rep (length txn.cells)))
  in_phase (phase.Unlocking after) is fits = Stays refl
  in_phase (phase.Fetching place from contents) is fits = Stays refl
  in_phase (phase.Copying sinks parts) is fits = Stays refl
  in_phase (phase.Marking change) is fits = mark_moves change is
  in_phase (phase.Writing change) is fits = Stays refl
  in_phase (phase.Posting change adopted) is fits = post_moves change adopted is
  in_phase (phase.Settling verdict) is fits = settle_moves verdict is (and_parts (is_some txn.settles) _ fits).0
  in_phase phase.Bearing is fits = Stays refl
  in_phase phase.Opening is fits = Stays refl
  in_phase (phase.Listing all) is fits = Stays refl
  in_phase phase.Over is fits = Stays refl

pub answers_move : AnswersMove
answers_move txn k mark rep ledger live last asking =
    let a = and_parts (is_waiting txn.size.n txn.wave) (are_granted_within txn.size.n txn.locks && suits txn.phase txn) asking in
    let b = and_parts (are_granted_within txn.size.n txn.locks) (suits txn.phase txn) a.1 in
    in_phase txn k mark rep ledger live last txn.phase refl b.1

copy_draws : (p : Phase) (txn : Txn) (done : CopyDone) (ledger : State Cell) (live : Mask) (last : List ℕ) → Few ledger (copied_in p txn done ledger live last)
copy_draws (phase.Copying sinks parts) txn done ledger live last = taken_few live last ledger txn sinks parts done
copy_draws (phase.Locking at) txn done ledger live last = inl refl
copy_draws (phase.Unlocking after) txn done ledger live last = inl refl
copy_draws (phase.Fetching place from contents) txn done ledger live last = inl refl
copy_draws (phase.Marking change) txn done ledger live last = inl refl
copy_draws (phase.Writing change) txn done ledger live last = inl refl
copy_draws (phase.Posting change adopted) txn done ledger live last = inl refl
copy_draws (phase.Settling verdict) txn done ledger live last = inl refl
copy_draws phase.Bearing txn done ledger live last = inl refl
copy_draws phase.Opening txn done ledger live last = inl refl
copy_draws (phase.Listing all) txn done ledger live last = inl refl
copy_draws phase.Over txn done ledger live last = inl refl

pub copies_draw : CopiesDraw
copies_draw txn done ledger live last = copy_draws txn.phase (idle txn) done ledger live last
