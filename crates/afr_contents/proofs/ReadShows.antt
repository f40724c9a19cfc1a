-- What a read shows is what is adopted, over every list of steps.
use Rattle.std.proofs.Common.{◌≡◌, ◌∙◌, ℕ, Bool, true, false, refl, sym, ap, subst, ◌⊎◌, inl, inr, Option, Some, None, arith}
use Rattle.std.specs.Prelude.{List, ◌∷◌}
use Rattle.fop_types.specs.declared.cells.Cell.{Cell}
use Rattle.fop_types.specs.declared.contents.Content.{Content}
use Rattle.fop_types.specs.declared.contents.Row.{Row}
use Rattle.fop_types.specs.declared.jobs.Job.{Job}
use Rattle.fop_types.specs.declared.jobs.Job.TheVariants as job
use Rattle.afr_machine.specs.Replicas.{Size, IsSize}
use Rattle.afr_machine.specs.Touching.{has_cell, share}
use Rattle.afr_machine.specs.Copies.{Copy, Fetched}
use Rattle.afr_machine.specs.Requests.{Sender, Ask, Answer, Input}
use Rattle.afr_machine.specs.Requests.Ask.{Fetch}
use Rattle.afr_machine.specs.Requests.Answer.{Content as Shows, Gone, Rows}
use Rattle.afr_machine.specs.Requests.Input.{Asked}
use Rattle.afr_machine.specs.Bricks.{answer_of, answer_of_fetch}
use Rattle.afr_machine.specs.Transactions.{Stage, Txn, cells_of_job, settles_first, is_over, may_hold}
use Rattle.afr_machine.specs.Transactions.Work.{Own, Settles}
use Rattle.afr_machine.specs.Transactions.Stage.{Over, Locking, Locked, Copying, Polling, Unlocking}
use Rattle.afr_machine.specs.States.{State, is_current, phase_of}
use Rattle.afr_machine.specs.Answering.{passed}
use Rattle.afr_machine.specs.Turns.{MayReach, IsCopied, open_grants}
use Rattle.afr_machine.specs.Steps.{Step, Allowed, after, IsReached, IsRefusal}
use Rattle.afr_machine.specs.Moves.{IsTaken}
use Rattle.afr_machine.proofs.BrickMoves.{bricks_move}
use Rattle.afr_laws.specs.Senders.{EachInput}
use Rattle.afr_laws.specs.Asking.{IsReadOf, IsFetching, IsAskedBy}
use Rattle.afr_laws.specs.Fresh.{is_behind}
use Rattle.afr_laws.proofs.Bools.{apart_bools, both}
use Rattle.afr_laws.proofs.Copies.Asks.{share_at}
use Rattle.afr_laws.proofs.Fresh.Turns.{copied_behind, copies_behind}
use Rattle.afr_laws.proofs.OwnChanges.Steps.{changes_are_own}
use Rattle.afr_laws.proofs.Sound.{soundness_is_counted}
use Rattle.afr_laws.proofs.Standing.Steps.{links_back}
use Rattle.afr_laws.proofs.Waiting.{waits_fit}
use Rattle.afr_soundness.specs.Copied.{copy_in, is_copying}
use Rattle.afr_soundness.specs.Later.{is_before}
use Rattle.afr_soundness.specs.Replies.{EachReply, IsReplyIn}
use Rattle.afr_soundness.specs.Takers.{IsMemberOf}
use Rattle.afr_soundness.proofs.TxnMoves.{StageKeeps, GoesOn, TxnMove, txn_moves}
use Rattle.afr_soundness.proofs.Copied.Kept.{out_back}
use Rattle.afr_soundness.proofs.Copied.Steps.{asked_now}
use Rattle.afr_soundness.proofs.Posted.{front_numbered, front_asked}
use Rattle.afr_soundness.proofs.Replies.{move_replies, replies_of, reply_at, reply_numbered}
use Rattle.afr_soundness.proofs.Takers.Asked.{asked_are_members}
use Rattle.afr_soundness.proofs.Unsettled.{is_some_change, no_other_unsettled}
use Rattle.afr_decisions.proofs.Handed.{handed_open}
use Rattle.afr_decisions.proofs.Noted.{handed_waits, handed_asked}
use Rattle.afr_contents.specs.Adopted.{adopted_on, first_of, settled}
use Rattle.afr_contents.specs.Good.{IsSettledCopy}
use Rattle.afr_contents.specs.Found.{IsSettledFor}
use Rattle.afr_contents.specs.Coming.{IsUsed}
use Rattle.afr_contents.specs.Reading.{IsAdoptedContent, IsAdoptedCopy, IsShown, ReadsShowAdopted, EveryReadShowsAdopted}
use Rattle.afr_contents.proofs.Keeping.{DecidesOn, list_stays, content_stays}
use Rattle.afr_contents.proofs.Served.{found_copy}
use Rattle.afr_contents.proofs.FetchedGood.{used_before}
use Rattle.afr_contents.proofs.Laws.{ready_adopted}
use Rattle.afr_contents.proofs.ShownMoves.{ShowsNow, shown_from}
use Rattle.afr_contents.proofs.ReadAsks.{SoundFetch, IsSoundAsk, read_owns_none, keeps_locked, is_locked, fetches_are_sound}

-- ---- contents

content_of : (adopted born : Option Content) (content : Content) → first_of adopted born ≡ Some content → IsAdoptedContent adopted born content
content_of None born content h = h
content_of (Some there) born content h = cc

first_is : (adopted born : Option Content) (content : Content) → IsAdoptedContent adopted born content → first_of adopted born ≡ Some content
first_is None born content h = h
first_is (Some there) born content h = ap Some (sym h)

adopted_of : (m : State) (cell : Cell) (copy : Option Copy) (held : Copy) → copy ≡ Some held → IsSettledCopy m cell copy → IsAdoptedCopy m cell held
adopted_of m cell copy held is s = record { changes = subst (λ c. c.changes ≡ adopted_on m cell) same s.changes; content = subst (λ (c : Copy). IsAdoptedContent (m.adopted cell) (m.born cell) c.content) same (content_of (m.adopted cell) (m.born cell) s.held.content s.content) } where
  both_some : Some s.held ≡ Some held
  both_some = sym s.is ∙ is

  same : s.held ≡ held
  same = let e : Some s.held ≡ Some held = both_some in cc

-- ---- reads

read_first : (own : Job) (cell : Cell) → IsReadOf own cell → settles_first own ≡ true
read_first (job.Read cells fd dir) cell h = refl
read_first other cell h = absurd h

read_covers : (own : Job) (cell : Cell) → IsReadOf own cell → has_cell (cells_of_job own) cell ≡ true
read_covers (job.Read cells fd dir) cell h = h
read_covers other cell h = absurd h

-- the read is for itself, and what it fetched is what is adopted
record ReadRight (m : State) (t : ℕ) (cell : Cell) (found : Fetched) : Type 0 where
  work : (m.txns t).work ≡ Own
  reads : IsReadOf (m.txns t).job cell
  adopted : IsAdoptedCopy m cell found.copy

abbrev ShowsRead : State → ℕ → Sender → Ask → Answer → Type 0
ShowsRead m k by (Fetch cell) (Shows found) = is_current (m.links k by.graph) by.connection ≡ true → (m.txns by.txn).stage ≡ Locked → IsUsed m by.txn k → ReadRight m by.txn cell found
ShowsRead m k by ask answer = Unit {0}

abbrev RepliesShow : State → Type 0
RepliesShow m = (k : ℕ) → EachReply (ShowsRead m k) (m.bricks k).outputs

module _ (size : Size) (m : State) (is_size : IsSize size) (r : IsReached size m) (step : Step) (allowed : Allowed size m step) where
  abbrev new : State
  new = after size m step

  -- no change is decided on a cell of a read that runs
  undecided : (t : ℕ) (cell : Cell) → IsReadOf (m.txns t).job cell → (m.txns t).settled ≡ true → is_over (m.txns t).stage ≡ false → (u : ℕ) → DecidesOn size m r step allowed cell u → ⊥
  undecided t cell reads has_settled runs u d =
      let shared : share (m.changes u).cells (cells_of_job (m.txns t).job) ≡ true = share_at (m.changes u).cells (cells_of_job (m.txns t).job) cell d.touches (read_covers (m.txns t).job cell reads) in
      let own = no_other_unsettled size m r t u (read_first (m.txns t).job cell reads) has_settled runs d.decision.unsettled shared in
      let one = is_some_change size m r u (cells_of_job (m.txns t).job) shared in
      let none = read_owns_none size m r t cell reads in
      absurd (omega (arith, own, one, none))

  adopted_goes : (cell : Cell) (copy : Copy) → ((u : ℕ) → DecidesOn size m r step allowed cell u → ⊥) → IsAdoptedCopy m cell copy → IsAdoptedCopy new cell copy
  adopted_goes cell copy none a = record {
    changes = a.changes ∙ sym (list_stays size m r step allowed cell none);
    content = content_of (new.adopted cell) (new.born cell) copy.content (content_stays size m r step allowed cell none copy.content (first_is (m.adopted cell) (m.born cell) copy.content a.content));
  }

  -- ---- a transaction that is locked was so before, or its lock phase ends now

  data LockedFrom (t : ℕ) : Type 0 where
    Was : GoesOn (m.txns t) (new.txns t) → LockedFrom t
    Ends : MayReach size m t → LockedFrom t

  locked_from : (t : ℕ) → (new.txns t).stage ≡ Locked → LockedFrom t
  locked_from t stage = by_move (txn_moves size m step allowed t) where
    not_so : (y : Txn) → new.txns t ≡ y → is_locked y.stage ≡ false → LockedFrom t
    not_so y is none = apart_bools (ap is_locked stage) (ap (λ (z : Txn). is_locked z.stage) is ∙ none)

    by_move : TxnMove size m step t (new.txns t) → LockedFrom t
    by_move (TxnMove.Goes quiet g) = Was g
    by_move (TxnMove.Begins graph own step_is at is) = not_so _ is refl
    by_move (TxnMove.Locks Own step_is may is) = not_so _ is refl
    by_move (TxnMove.Locks (Settles u) step_is may is) = not_so _ is refl
    by_move (TxnMove.Reaches step_is may is) = Ends may
    by_move (TxnMove.Marks step_is may is) = not_so _ is refl
    by_move (TxnMove.Unsettles step_is may is) = not_so _ is refl
    by_move (TxnMove.Posts step_is may is) = not_so _ is refl
    by_move (TxnMove.SettlesAs group adopts step_is may is) = not_so _ is refl
    by_move (TxnMove.Bears step_is may is) = not_so _ is refl
    by_move (TxnMove.Copies run step_is may is) = not_so _ is refl
    by_move (TxnMove.Clears step_is may is) = not_so _ is refl
    by_move (TxnMove.Polls step_is may is) = not_so _ is refl
    by_move (TxnMove.Unlocks step_is may is) = not_so _ is refl
    by_move (TxnMove.Rests step_is may is) = not_so _ is refl
    by_move (TxnMove.Ends step_is may is) = not_so _ is refl

  module _ (t k : ℕ) (stage : (new.txns t).stage ≡ Locked) (used : IsUsed new t k) (g : GoesOn (m.txns t) (new.txns t)) where
    locked : (m.txns t).stage ≡ Locked
    locked = keeps_locked (m.txns t).stage (new.txns t).stage g.stage stage

    used_then : IsUsed m t k
    used_then = used_before size m is_size r step allowed t k (ap is_behind locked) (ap is_behind stage) used

    right_goes : (cell : Cell) (found : Fetched) → ReadRight m t cell found → ReadRight new t cell found
    right_goes cell found h = record {
      work = g.task.work ∙ h.work;
      reads = subst (λ j. IsReadOf j cell) (sym g.task.own.job) h.reads;
      adopted = adopted_goes cell found.copy (undecided t cell h.reads (((changes_are_own size m r).own t).settled h.work (ap may_hold locked)) (ap is_over locked)) h.adopted;
    }

  -- ---- replies

  module _ (k : ℕ) where
    shows_on : (by : Sender) (ask : Ask) (answer : Answer) → IsReplyIn by ask answer (m.bricks k).outputs → ShowsRead m k by ask answer → ShowsRead new k by ask answer
    shows_on by (Fetch cell) (Shows found) reply h = λ current stage used. by_from current stage used (locked_from by.txn stage) where
      current_then : is_current (new.links k by.graph) by.connection ≡ true → is_current (m.links k by.graph) by.connection ≡ true
      current_then current = links_back size m step allowed k by.graph by.connection (reply_numbered size m r k by (Fetch cell) (Shows found) reply).connection current

      by_from : is_current (new.links k by.graph) by.connection ≡ true → (new.txns by.txn).stage ≡ Locked → IsUsed new by.txn k → LockedFrom by.txn → ReadRight new by.txn cell found
      by_from current stage used (Was g) = right_goes by.txn k stage used g cell found (h (current_then current) (locked by.txn k stage used g) (used_then by.txn k stage used g))
      by_from current stage used (Ends may) =
          let a = asked_now size m r k by (Fetch cell) (Shows found) reply (current_then current) (out_back size m r step allowed by.txn (reply_numbered size m r k by (Fetch cell) (Shows found) reply).begun k used.not_out) refl in
          apart_bools a.waits (may.answered.waits k (waits_fit size m r by.txn k a.waits).replica)
    shows_on by ask answer reply h = tt

    -- the fetch is served now
    module _ (by : Sender) (cell : Cell) (rest : List Input) (front : (m.bricks k).line ≡ Asked by (Fetch cell) ∷ rest) (found : Fetched) (is : copy_in (m.bricks k).store cell ≡ Some found) (current : is_current (new.links k by.graph) by.connection ≡ true) (stage : (new.txns by.txn).stage ≡ Locked) (used : IsUsed new by.txn k) where
      current_now : is_current (m.links k by.graph) by.connection ≡ true
      current_now = links_back size m step allowed k by.graph by.connection (front_numbered size m r step allowed k by (Fetch cell) rest front).connection current

      asked : IsAskedBy size m.changes (m.txns by.txn).job (m.txns by.txn).stage k (Fetch cell)
      asked = front_asked size m r step allowed k by (Fetch cell) rest front current_now (out_back size m r step allowed by.txn (front_numbered size m r step allowed k by (Fetch cell) rest front).begun k used.not_out) refl

      not_locking : (cells : List Cell) (shared : Bool) (next : ℕ) → (m.txns by.txn).stage ≡ Locking cells shared next → ((m.txns by.txn).stage ≡ Locked) × IsReadOf (m.txns by.txn).job cell ⊎ IsFetching (m.txns by.txn).stage k cell → ⊥
      not_locking cells shared next turn (inl reads) = absurd (let no : Locking cells shared next ≡ Locked = sym turn ∙ reads.0 in cc)
      not_locking cells shared next turn (inr fetches) = absurd (subst (λ s. IsFetching s k cell) turn fetches)

      module _ (g : GoesOn (m.txns by.txn) (new.txns by.txn)) where
        t : ℕ
        t = by.txn

        sound : SoundFetch size m by.txn k cell
        sound = (subst (EachInput (λ b a. b.txn ≡ by.txn → IsSoundAsk size m by.txn k a)) front (fetches_are_sound size m is_size r by.txn k (locked by.txn k stage used g) (used_then by.txn k stage used g))).0 refl

        settled_for : IsSettledFor m by.txn cell
        settled_for = record {
          first = read_first (m.txns by.txn).job cell sound.reads;
          settled = ((changes_are_own size m r).own by.txn).settled sound.work (ap may_hold (locked by.txn k stage used g));
          running = ap is_over (locked by.txn k stage used g);
          unmade = λ one. absurd (let none = read_owns_none size m r by.txn cell sound.reads in omega (arith, one, none));
          covers = read_covers (m.txns by.txn).job cell sound.reads;
        }

        serves : ReadRight new by.txn cell found
        serves = right_goes by.txn k stage used g cell found (record {
          work = sound.work;
          reads = sound.reads;
          adopted = adopted_of m cell ((m.bricks k).store cell).copy found.copy (found_copy ((m.bricks k).store cell).copy ((m.bricks k).store cell).last found is)
              (ready_adopted size m is_size r by.txn k cell ((soundness_is_counted size (phase_of m by.txn) cell k).0 sound.sound).replica settled_for (ap is_before (locked by.txn k stage used g)) sound.work (inl sound.sound));
        })

      served_right : LockedFrom by.txn → ReadRight new by.txn cell found
      served_right (Was g) = serves g
      served_right (Ends may) = absurd (not_locking may.cells may.shared _ may.turn asked)

    shows_now : (by : Sender) (ask : Ask) (rest : List Input) → (m.bricks k).line ≡ Asked by ask ∷ rest → ShowsRead new k by ask (answer_of ask (m.bricks k).store)
    shows_now by (Fetch cell) rest front = by_copy (copy_in (m.bricks k).store cell) refl where
      by_copy : (o : Option Fetched) → copy_in (m.bricks k).store cell ≡ o → ShowsRead new k by (Fetch cell) (answer_of_fetch o)
      by_copy None is = tt
      by_copy (Some found) is = λ current stage used. served_right by cell rest front found is current stage used (locked_from by.txn stage)
    shows_now by other rest front = tt

    gone_shows : (by : Sender) (ask : Ask) → ShowsRead new k by ask Gone
    gone_shows by (Fetch cell) = tt
    gone_shows by other = tt

    rows_show : (by : Sender) (ask : Ask) (rows : Cell → Row) → ShowsRead new k by ask (Rows rows)
    rows_show by (Fetch cell) rows = tt
    rows_show by other rows = tt

    refused_shows : (by : Sender) (ask : Ask) (answer : Answer) → IsRefusal answer → ShowsRead new k by ask answer
    refused_shows by (Fetch cell) (Shows found) h = absurd h
    refused_shows by ask answer h = tt

    replies_after : EachReply (ShowsRead m k) (m.bricks k).outputs → EachReply (ShowsRead new k) (new.bricks k).outputs
    replies_after was =
        move_replies (ShowsRead new k) (record { gone = gone_shows; rows = rows_show; unlock = λ by. tt; refused = refused_shows }) (IsTaken m step k) (m.bricks k) (new.bricks k) (λ by ask rest front stored. shows_now by ask rest front)
        (replies_of (ShowsRead new k) (m.bricks k).outputs (λ by ask answer reply. shows_on by ask answer reply (reply_at (ShowsRead m k) by ask answer (m.bricks k).outputs was reply)))
        (bricks_move size m step allowed k)

replies_show : (size : Size) (m : State) → IsSize size → IsReached size m → RepliesShow m
replies_show size m is_size IsReached.Start = λ k. tt
replies_show size m is_size (IsReached.Further old step reached allowed) = λ k. replies_after size old is_size reached step allowed k (replies_show size old is_size reached k)

-- ---- what is shown

passed_over : (stage : Stage) → is_over (passed stage) ≡ is_over stage
passed_over (Locking cells shared next) = refl
passed_over other = refl

keeps_over : (old later : Stage) → StageKeeps old later → is_over later ≡ is_over old
keeps_over old later (StageKeeps.StaysIn is) = ap is_over is
keeps_over old later (StageKeeps.PassesOn is) = ap is_over is ∙ passed_over old
keeps_over old later (StageKeeps.CopiesOn run other was is same) = ap is_over is ∙ sym (ap is_over was)

behind_runs : (stage : Stage) → is_behind stage ≡ true → is_over stage ≡ false
behind_runs Over h = absurd (let no : false ≡ true = h in cc)
behind_runs other h = refl

copied_runs : (stage : Stage) → IsCopied stage → is_over stage ≡ false
copied_runs stage h = behind_runs stage (copied_behind stage h)

holds_runs : (stage : Stage) → may_hold stage ≡ true → is_over stage ≡ false
holds_runs Over h = absurd (let no : false ≡ true = h in cc)
holds_runs other h = refl

rests_runs : (stage : Stage) → (stage ≡ Unlocking) ⊎ (stage ≡ Polling) → is_over stage ≡ false
rests_runs stage (inl is) = ap is_over is
rests_runs stage (inr is) = ap is_over is

module _ (size : Size) (m : State) (is_size : IsSize size) (r : IsReached size m) (was : ReadsShowAdopted m) (step : Step) (allowed : Allowed size m step) (t : ℕ) (cell : Cell) (found : Fetched) where
  abbrev next : State
  next = after size m step

  not_copying : (stage : Stage) (k : ℕ) → is_copying stage ≡ false → IsFetching stage k cell → ⊥
  not_copying (Copying run) k plain h = absurd (let no : true ≡ false = plain in cc)
  not_copying other k plain h = absurd h

  -- what comes now is right
  module _ (now : ShowsNow m step t cell found) where
    locked_by : ((m.txns now.by.txn).stage ≡ Locked) × IsReadOf (m.txns now.by.txn).job cell ⊎ IsFetching (m.txns now.by.txn).stage now.brick cell → (m.txns now.by.txn).stage ≡ Locked
    locked_by (inl reads) = reads.0
    locked_by (inr fetches) = absurd (not_copying (m.txns now.by.txn).stage now.brick (ap (λ n. is_copying (m.txns n).stage) now.txn ∙ now.plain) fetches)

    locked_now : (m.txns now.by.txn).stage ≡ Locked
    locked_now = locked_by (handed_asked size m r now.brick now.by (Fetch cell) (Shows found) now.handed)

    member : IsMemberOf (phase_of m now.by.txn) (m.txns now.by.txn) now.brick
    member = asked_are_members size m r now.by.txn now.brick (ap is_behind locked_now) (handed_waits size m r now.brick now.by (Fetch cell) (Shows found) now.handed)

    used_now : IsUsed m now.by.txn now.brick
    used_now = record {
      not_out = member.not_out;
      held = both ((phase_of m now.by.txn).reached now.brick) (open_grants m now.by.txn now.brick) member.reached (handed_open size m r now.brick now.by (Fetch cell) (Shows found) now.handed (ap is_behind locked_now));
    }

    right : ReadRight m now.by.txn cell found
    right = reply_at (ShowsRead m now.brick) now.by (Fetch cell) (Shows found) (m.bricks now.brick).outputs (replies_show size m is_size r now.brick)
        (subst (IsReplyIn now.by (Fetch cell) (Shows found)) (sym now.handed.front) (inl (refl, (refl, refl)))) now.handed.current locked_now used_now

    shown_now : IsShown m t cell found
    shown_now = subst (λ n. IsShown m n cell found) now.txn (record {
      reads = right.reads;
      settled = ((changes_are_own size m r).own now.by.txn).settled right.work (ap may_hold locked_now);
      adopted = λ runs. right.adopted;
    })

  -- and stays so
  module _ (s : IsShown m t cell found) where
    kept : (y : Txn) → next.txns t ≡ y → y.job ≡ (m.txns t).job → ((m.txns t).settled ≡ true → y.settled ≡ true) → (is_over y.stage ≡ false → is_over (m.txns t).stage ≡ false) → IsShown next t cell found
    kept y is same_job more ran = record {
      reads = subst (λ j. IsReadOf j cell) (sym (ap (λ (z : Txn). z.job) is ∙ same_job)) s.reads;
      settled = ap (λ (z : Txn). z.settled) is ∙ more s.settled;
      adopted = λ runs. by_run (ran (sym (ap (λ (z : Txn). is_over z.stage) is) ∙ runs));
    } where
      by_run : is_over (m.txns t).stage ≡ false → IsAdoptedCopy next cell found.copy
      by_run runs = adopted_goes size m is_size r step allowed cell found.copy (undecided size m is_size r step allowed t cell s.reads s.settled runs) (s.adopted runs)

    running : (stage : Stage) → (m.txns t).stage ≡ stage → is_over stage ≡ false → is_over (m.txns t).stage ≡ false
    running stage is h = ap is_over is ∙ h

    shown_stays : ((next.txns t).shown cell ≡ Some found) → TxnMove size m step t (next.txns t) → IsShown next t cell found
    shown_stays shown (TxnMove.Goes quiet g) = kept (next.txns t) refl g.task.own.job (λ h. g.task.own.settled ∙ h) (λ h. sym (keeps_over (m.txns t).stage (next.txns t).stage g.stage) ∙ h)
    shown_stays shown (TxnMove.Begins graph own step_is at is) = absurd (let no : None ≡ Some found = sym (ap (λ (z : Txn). z.shown cell) is) ∙ shown in cc)
    shown_stays shown (TxnMove.Locks Own step_is may is) = kept _ is refl (λ h. refl) (λ h. running _ may.turn refl)
    shown_stays shown (TxnMove.Locks (Settles u) step_is may is) = kept _ is refl (λ h. h) (λ h. running _ may.turn refl)
    shown_stays shown (TxnMove.Reaches step_is may is) = kept _ is refl (λ h. h) (λ h. running _ may.turn refl)
    shown_stays shown (TxnMove.Marks step_is may is) = kept _ is refl (λ h. h) (λ h. copied_runs (m.txns t).stage may.copied)
    shown_stays shown (TxnMove.Unsettles step_is may is) = kept _ is refl (λ h. h) (λ h. running _ may.turn refl)
    shown_stays shown (TxnMove.Posts step_is may is) = kept _ is refl (λ h. h) (λ h. running _ may.turn refl)
    shown_stays shown (TxnMove.SettlesAs group adopts step_is may is) = kept _ is refl (λ h. h) (λ h. running _ may.turn refl)
    shown_stays shown (TxnMove.Bears step_is may is) = kept _ is refl (λ h. h) (λ h. running _ may.turn refl)
    shown_stays shown (TxnMove.Copies run step_is may is) = kept _ is refl (λ h. h) (λ h. behind_runs (m.txns t).stage (copies_behind m t (m.txns t).work run.group may.allowed))
    shown_stays shown (TxnMove.Clears step_is may is) = kept _ is refl (λ h. h) (λ h. running _ may.turn refl)
    shown_stays shown (TxnMove.Polls step_is may is) = kept _ is refl (λ h. h) (λ h. running _ may.turn refl)
    shown_stays shown (TxnMove.Unlocks step_is may is) = kept _ is refl (λ h. h) (λ h. holds_runs (m.txns t).stage may.turn)
    shown_stays shown (TxnMove.Rests step_is may is) = kept _ is refl (λ h. h) (λ h. rests_runs (m.txns t).stage may.turn)
    shown_stays shown (TxnMove.Ends step_is may is) = kept _ is refl (λ h. h) (λ h. running _ may refl)

  shown_after : (next.txns t).shown cell ≡ Some found → IsShown next t cell found
  shown_after shown = by_case (shown_from size m step allowed t cell found shown) where
    by_case : ((m.txns t).shown cell ≡ Some found) ⊎ ShowsNow m step t cell found → IsShown next t cell found
    by_case (inl old) = shown_stays (was t cell found old) shown (txn_moves size m step allowed t)
    by_case (inr now) = shown_stays (shown_now now) shown (txn_moves size m step allowed t)

pub reads_show_adopted : EveryReadShowsAdopted
reads_show_adopted size m is_size IsReached.Start = λ t cell found shown. absurd (let no : None ≡ Some found = shown in cc)
reads_show_adopted size m is_size (IsReached.Further old step reached allowed) = λ t cell found shown. shown_after size old is_size reached (reads_show_adopted size old is_size reached) step allowed t cell found shown
