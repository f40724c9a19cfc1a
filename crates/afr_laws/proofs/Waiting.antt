-- A transaction waits for the request that its stage sends, over every list of steps.
use Rattle.std.proofs.Common.{◌≡◌, ◌∙◌, ℕ, ◌<◌, Bool, true, false, refl, sym, ap, subst, ◌⊎◌, inl, inr}
use Rattle.std.specs.Prelude.{if◌then◌else◌, List, [], ◌∷◌, ◌++◌, ◌==◌, ◌≢◌}
use Rattle.std.proofs.lemmas.Bool.{cases_eq}
use Rattle.fop_types.specs.declared.jobs.Job.{Job}
use Rattle.fop_types.specs.declared.jobs.Job.TheVariants as job
use Rattle.afr_machine.specs.Replicas.{Size, Replicas, with_at}
use Rattle.afr_machine.specs.Requests.{Sender, Ask, Answer, Output}
use Rattle.afr_machine.specs.Requests.Ask.{Lock, Unlock, Mark, Op, Post, Fetch, Replace, Clear, Settle, Index, Open, Release, OpenFirst}
use Rattle.afr_machine.specs.Requests.Output.{Answered, Closed, Opened, Connected}
use Rattle.afr_machine.specs.Transactions.{Work, CopyRun, Stage, Txn, new_txn}
use Rattle.afr_machine.specs.Transactions.Work.{Own, Settles}
use Rattle.afr_machine.specs.Transactions.Stage.{Over, Choosing, Locking, Locked, Marking, Applying, Posting, Settling, Bearing, Copying, Polling, Unlocking}
use Rattle.afr_machine.specs.States.{State, is_current}
use Rattle.afr_machine.specs.Sending.{MayAsk, asks_of, asking}
use Rattle.afr_machine.specs.Answering.{passed, missing, landed, at_rest, without_first, forgetting, replied, taken_in, without_first_output}
use Rattle.afr_machine.specs.Turns.{Turn, IsAnswered, MayLockFor, MayTurn, after_turn, drawing, posting, settling, bearing, clearing}
use Rattle.afr_machine.specs.Steps.{Step, Allowed, after, IsReached, take_in_front, unsettling, decided_by}
use Rattle.afr_machine.proofs.Tables.{at_same, at_other}
use Rattle.afr_laws.specs.Waiting.{IsCopying, IsSettling, Fits, LastFits, MayWait, WaitsFor, WaitsFit, EachWaitsFit}
use Rattle.afr_laws.proofs.Bools.{both_left}
use Rattle.afr_laws.proofs.Carry.{at_case}
use Rattle.afr_laws.proofs.Txns.{is_beginning, turn_flights}
use Rattle.afr_laws.proofs.Heard.{Heard, replied_txns}
use Rattle.afr_laws.proofs.Heard.Heard.{Took, Passed, OpenDone, OpenMissed}
use Rattle.afr_laws.proofs.Stages.{StageGoes, hearing_stage}
use Rattle.afr_laws.proofs.Stages.StageGoes.{StaysIn, PassesOn, CopiesOn}
use Rattle.afr_laws.proofs.Goes.{decided_txns}

-- ---- what fits may wait

copying_waits : (stage : Stage) (k : ℕ) → IsCopying stage → MayWait stage k
copying_waits (Copying run) k h = tt
copying_waits other k h = absurd h

settling_waits : (u : ℕ) (stage : Stage) (k : ℕ) → IsSettling u stage → MayWait stage k
settling_waits u (Settling change group adopts) k h = tt
settling_waits u other k h = absurd h

in_stage : (stage other : Stage) (k : ℕ) → stage ≡ other → MayWait other k → MayWait stage k
in_stage stage other k is h = subst (λ s. MayWait s k) (sym is) h

pub fits_waits : (ask : Ask) (stage : Stage) (k : ℕ) → Fits ask stage k → MayWait stage k
fits_waits (Lock shared cells) stage k h = in_stage stage (Locking cells shared k) k h refl
fits_waits Unlock stage k h = in_stage stage Unlocking k h tt
fits_waits (Mark u cells) stage k h = in_stage stage (Marking u) k h tt
fits_waits (Op u op) stage k (inl h) = in_stage stage (Applying u) k h tt
fits_waits (Op u op) stage k (inr h) = in_stage stage Bearing k h tt
fits_waits (Post u cells accused) stage k h = in_stage stage (Posting u) k h tt
fits_waits (Fetch cell) stage k (inl h) = in_stage stage Locked k h tt
fits_waits (Fetch cell) stage k (inr h) = copying_waits stage k h
fits_waits (Replace cell found) stage k h = copying_waits stage k h
fits_waits (Clear cells who) stage k h = copying_waits stage k h
fits_waits (Settle u cells accused) stage k h = settling_waits u stage k h
fits_waits Index stage k h = in_stage stage Polling k h tt
fits_waits Open stage k h = in_stage stage Polling k h tt
fits_waits Release stage k h = absurd h
fits_waits OpenFirst stage k h = absurd h

-- ---- what is sent fits

copying_is : (stage : Stage) (run : CopyRun) → stage ≡ Copying run → IsCopying stage
copying_is stage run is = subst IsCopying (sym is) tt

module _ (size : Size) (m : State) (t k : ℕ) where
  pub sent_fits : (ask : Ask) → MayAsk size m t k ask → (k < size.replicas) × Fits ask (m.txns t).stage k
  sent_fits (Lock shared cells) h = (h.replica, h.turn)
  sent_fits Unlock h = (h.replica, h.turn)
  sent_fits (Mark u cells) h = (h.next.member.replica, h.turn)
  sent_fits (Op u op) (inl h) = (h.next.member.replica, inl h.turn)
  sent_fits (Op u op) (inr h) = (h.next.member.replica, inr h.turn)
  sent_fits (Post u cells accused) h = (h.next.member.replica, h.turn)
  sent_fits (Fetch cell) (inl h) = (h.member.replica, inl h.turn)
  sent_fits (Fetch cell) (inr h) = (h.member.replica, inr (copying_is (m.txns t).stage h.run h.turn))
  sent_fits (Replace cell found) h = (h.member.replica, copying_is (m.txns t).stage h.run h.turn)
  sent_fits (Clear cells who) h = (h.next.member.replica, copying_is (m.txns t).stage h.run h.turn)
  sent_fits (Settle u cells accused) h = (h.next.member.replica, subst (IsSettling u) (sym h.turn) refl)
  sent_fits Index h = (h.poll.replica, h.poll.turn)
  sent_fits Open h = (h.poll.replica, h.poll.turn)
  sent_fits Release h = absurd h
  sent_fits OpenFirst h = absurd h

-- ---- the last request

last_asked : (flying : List Ask) (first : Bool) (ask : Ask) (stage : Stage) (k : ℕ) → Fits ask stage k → LastFits (flying ++ asks_of first ask) stage k
last_asked [] true ask stage k h = h
last_asked [] false ask stage k h = h
last_asked (a ∷ []) true ask stage k h = h
last_asked (a ∷ []) false ask stage k h = h
last_asked (a ∷ (b ∷ rest)) first ask stage k h = last_asked (b ∷ rest) first ask stage k h

last_landed : (flying : List Ask) (stage : Stage) (k : ℕ) → LastFits flying stage k → LastFits (without_first flying) stage k
last_landed [] stage k h = tt
last_landed (a ∷ []) stage k h = tt
last_landed (a ∷ (b ∷ rest)) stage k h = h

-- another stage in which the same request fits
last_moved : (flying : List Ask) (old new : Stage) (k : ℕ) → ((ask : Ask) → Fits ask old k → Fits ask new k) → LastFits flying old k → LastFits flying new k
last_moved [] old new k more h = tt
last_moved (a ∷ []) old new k more h = more a h
last_moved (a ∷ (b ∷ rest)) old new k more h = last_moved (b ∷ rest) old new k more h

-- ---- stages that go on

copies_no : (stage other : Stage) → stage ≡ other → (IsCopying other → ⊥) → IsCopying stage → ⊥
copies_no stage other is never c = never (subst IsCopying is c)

-- in the stage of a copy only copies are asked for, whichever copy it is
copies_fit : (ask : Ask) (old new : Stage) (k : ℕ) → IsCopying old → IsCopying new → Fits ask old k → Fits ask new k
copies_fit (Fetch cell) old new k c d h = inr d
copies_fit (Replace cell found) old new k c d h = d
copies_fit (Clear cells who) old new k c d h = d
copies_fit (Lock shared cells) old new k c d h = absurd (copies_no old (Locking cells shared k) h (λ e. e) c)
copies_fit Unlock old new k c d h = absurd (copies_no old Unlocking h (λ e. e) c)
copies_fit (Mark u cells) old new k c d h = absurd (copies_no old (Marking u) h (λ e. e) c)
copies_fit (Op u op) old new k c d (inl h) = absurd (copies_no old (Applying u) h (λ e. e) c)
copies_fit (Op u op) old new k c d (inr h) = absurd (copies_no old Bearing h (λ e. e) c)
copies_fit (Post u cells accused) old new k c d h = absurd (copies_no old (Posting u) h (λ e. e) c)
copies_fit (Settle u cells accused) old new k c d h = absurd (both old c h)
  where
    both : (stage : Stage) → IsCopying stage → IsSettling u stage → ⊥
    both (Copying run) c s = s
    both other c s = c
copies_fit Index old new k c d h = absurd (copies_no old Polling h (λ e. e) c)
copies_fit Open old new k c d h = absurd (copies_no old Polling h (λ e. e) c)
copies_fit Release old new k c d h = absurd h
copies_fit OpenFirst old new k c d h = absurd h

-- where two bricks may have an answer missing, no lock is asked
pub passed_stays : (stage : Stage) (j k : ℕ) → j ≢ k → MayWait stage j → MayWait stage k → passed stage ≡ stage
passed_stays (Locking cells shared next) j k ne a b = absurd (ne (a ∙ sym b))
passed_stays Over j k ne a b = refl
passed_stays Choosing j k ne a b = refl
passed_stays Locked j k ne a b = refl
passed_stays (Marking u) j k ne a b = refl
passed_stays (Applying u) j k ne a b = refl
passed_stays (Posting u) j k ne a b = refl
passed_stays (Settling u group adopts) j k ne a b = refl
passed_stays Bearing j k ne a b = refl
passed_stays (Copying run) j k ne a b = refl
passed_stays Polling j k ne a b = refl
passed_stays Unlocking j k ne a b = refl

-- another brick's answer leaves what this one is waited for
goes_fits : (old new : Stage) (j k : ℕ) (flying : List Ask) → j ≢ k → StageGoes old new → MayWait old j → MayWait old k → LastFits flying old j → MayWait new j × LastFits flying new j
goes_fits old new j k flying ne (StaysIn is) a b l = (subst (λ s. MayWait s j) (sym is) a, subst (λ s. LastFits flying s j) (sym is) l)
goes_fits old new j k flying ne (PassesOn is) a b l =
    let same : new ≡ old = is ∙ passed_stays old j k ne a b in (subst (λ s. MayWait s j) (sym same) a, subst (λ s. LastFits flying s j) (sym same) l)
goes_fits old new j k flying ne (CopiesOn c d) a b l = (copying_waits new j d, last_moved flying old new j (λ ask f. copies_fit ask old new j c d f) l)

-- ---- what turns leave

drawing_others : (m : State) (t : ℕ) (own : Job) (i : ℕ) → i ≢ t → (drawing m t own).txns i ≡ m.txns i
drawing_others m t (job.Change cells fd op effect) i ne = at_other m.txns t _ i ne
drawing_others m t other i ne = refl

posting_others : (size : Size) (m : State) (t : ℕ) (stage : Stage) (i : ℕ) → i ≢ t → (posting size m t stage).txns i ≡ m.txns i
posting_others size m t (Applying u) i ne = at_other m.txns t _ i ne
posting_others size m t other i ne = refl

settling_others : (size : Size) (m : State) (t : ℕ) (work : Work) (group : Replicas) (adopts : Bool) (i : ℕ) → i ≢ t → (settling size m t work group adopts).txns i ≡ m.txns i
settling_others size m t Own group adopts i ne = refl
settling_others size m t (Settles u) group adopts i ne = at_other m.txns t _ i ne

bearing_others : (m : State) (t : ℕ) (own : Job) (i : ℕ) → i ≢ t → (bearing m t own).txns i ≡ m.txns i
bearing_others m t (job.Birth cells op) i ne = at_other m.txns t _ i ne
bearing_others m t other i ne = refl

clearing_others : (m : State) (t : ℕ) (stage : Stage) (i : ℕ) → i ≢ t → (clearing m t stage).txns i ≡ m.txns i
clearing_others m t (Copying run) i ne = at_other m.txns t _ i ne
clearing_others m t other i ne = refl

-- another transaction than the one that turns
pub turn_others : (size : Size) (m : State) (t : ℕ) (turn : Turn) (i : ℕ) → i ≢ t → (after_turn size m t turn).txns i ≡ m.txns i
turn_others size m t Turn.Marks i ne = drawing_others m t (m.txns t).job i ne
turn_others size m t Turn.Posts i ne = posting_others size m t (m.txns t).stage i ne
turn_others size m t (Turn.SettlesAs group adopts) i ne = settling_others size m t (m.txns t).work group adopts i ne
turn_others size m t Turn.Bears i ne = bearing_others m t (m.txns t).job i ne
turn_others size m t Turn.Clears i ne = clearing_others m t (m.txns t).stage i ne
turn_others size m t Turn.Confirms i ne = refl
turn_others size m t (Turn.Begins graph own) i ne = at_other m.txns t _ i ne
turn_others size m t (Turn.LocksFor work) i ne = at_other m.txns t _ i ne
turn_others size m t Turn.Skips i ne = at_other m.txns t _ i ne
turn_others size m t Turn.Reaches i ne = at_other m.txns t _ i ne
turn_others size m t (Turn.Copies run) i ne = at_other m.txns t _ i ne
turn_others size m t Turn.Polls i ne = at_other m.txns t _ i ne
turn_others size m t Turn.Unlocks i ne = at_other m.txns t _ i ne
turn_others size m t Turn.Rests i ne = at_other m.txns t _ i ne
turn_others size m t Turn.Ends i ne = at_other m.txns t _ i ne

abbrev pub is_confirming : Turn → Bool
is_confirming Turn.Confirms = true
is_confirming other = false

pub not_answered : (size : Size) (x : Txn) (k : ℕ) → IsAnswered size x → x.waits k ≡ true → WaitsFor size x k → ⊥
not_answered size x k a is w = absurd (let same : true ≡ false = sym is ∙ a.waits k w.replica in cc)

not_choosing : (size : Size) (x : Txn) (k : ℕ) → x.stage ≡ Choosing → WaitsFor size x k → ⊥
not_choosing size x k is w = subst (λ s. MayWait s k) is w.stage

locks_idle : (size : Size) (m : State) (t : ℕ) (work : Work) (k : ℕ) → MayLockFor m t work → WaitsFor size (m.txns t) k → ⊥
locks_idle size m t Own k h w = not_choosing size (m.txns t) k h.turn w
locks_idle size m t (Settles u) k h w = not_choosing size (m.txns t) k h.turn w

-- no answer is missing where a transaction turns
pub turn_idle : (size : Size) (m : State) (t : ℕ) (turn : Turn) (k : ℕ) → MayTurn size m t turn → is_beginning turn ≡ false → is_confirming turn ≡ false → (m.txns t).waits k ≡ true → WaitsFor size (m.txns t) k → ⊥
turn_idle size m t (Turn.Begins graph own) k h b c is w = absurd cc
turn_idle size m t Turn.Confirms k h b c is w = absurd cc
turn_idle size m t (Turn.LocksFor work) k h b c is w = locks_idle size m t work k h w
turn_idle size m t Turn.Skips k h b c is w =
    let turned : k ≡ h.next = subst (λ s. MayWait s k) h.turn w.stage in
    absurd (let same : true ≡ false = sym is ∙ ap (m.txns t).waits turned ∙ h.answered in cc)
turn_idle size m t Turn.Reaches k h b c is w = not_answered size (m.txns t) k h.answered is w
turn_idle size m t Turn.Marks k h b c is w = not_answered size (m.txns t) k h.answered is w
turn_idle size m t Turn.Posts k h b c is w = not_answered size (m.txns t) k h.answered is w
turn_idle size m t (Turn.SettlesAs group adopts) k h b c is w = not_answered size (m.txns t) k h.answered is w
turn_idle size m t Turn.Bears k h b c is w = not_answered size (m.txns t) k h.answered is w
turn_idle size m t (Turn.Copies run) k h b c is w = not_answered size (m.txns t) k h.answered is w
turn_idle size m t Turn.Clears k h b c is w = not_answered size (m.txns t) k h.answered is w
turn_idle size m t Turn.Polls k h b c is w = not_choosing size (m.txns t) k h.turn w
turn_idle size m t Turn.Unlocks k h b c is w = not_answered size (m.txns t) k h.answered is w
turn_idle size m t Turn.Rests k h b c is w = not_answered size (m.txns t) k h.answered is w
turn_idle size m t Turn.Ends k h b c is w = not_choosing size (m.txns t) k h w

-- ---- each step

carry_waits : (size : Size) (x y : Txn) → y.waits ≡ x.waits → y.stage ≡ x.stage → y.flying ≡ x.flying → WaitsFit size x → WaitsFit size y
carry_waits size x y ws ss fs fit k is =
    let w = fit k (sym (ap (λ (f : ℕ → Bool). f k) ws) ∙ is) in
    record {
      replica = w.replica;
      stage = subst (λ s. MayWait s k) (sym ss) w.stage;
      last = subst (λ s. LastFits (y.flying k) s k) (sym ss) (subst (λ (f : ℕ → List Ask). LastFits (f k) x.stage k) (sym fs) w.last);
    }

-- at brick k the answer is no longer missing, at others it is as it was
module _ (size : Size) (x y : Txn) (k : ℕ) (fit : WaitsFit size x) (goes : StageGoes x.stage y.stage) (waited : MayWait x.stage k)
    (ws : y.waits ≡ with_at x.waits k false) (fs : (j : ℕ) → j ≢ k → y.flying j ≡ x.flying j) where
  heard_waits : WaitsFit size y
  heard_waits j is = by_case (cases_eq j k) where
    now : with_at x.waits k false j ≡ true
    now = sym (ap (λ (f : ℕ → Bool). f j) ws) ∙ is

    by_case : (j ≡ k) ⊎ (j ≢ k) → WaitsFor size y j
    by_case (inl same) = absurd (let no_more : false ≡ true = sym (ap (with_at x.waits k false) same ∙ at_same x.waits k false) ∙ now in cc)
    by_case (inr other) =
        let w = fit j (sym (at_other x.waits k false j other) ∙ now) in
        let g = goes_fits x.stage y.stage j k (x.flying j) other goes w.stage waited w.last in
        record { replica = w.replica; stage = g.0; last = subst (λ f. LastFits f y.stage j) (sym (fs j other)) g.1 }

module _ (size : Size) (x : Txn) (k : ℕ) (fit : WaitsFit size x) where
  shorter_waits : (r : List Ask) → ((stage : Stage) → LastFits (x.flying k) stage k → LastFits r stage k) → (y : Txn) → y.waits ≡ x.waits → y.stage ≡ x.stage → y.flying ≡ with_at x.flying k r → WaitsFit size y
  shorter_waits r less y ws ss fs j is =
      let w = fit j (sym (ap (λ (f : ℕ → Bool). f j) ws) ∙ is) in
      record {
        replica = w.replica;
        stage = subst (λ s. MayWait s j) (sym ss) w.stage;
        last = subst (λ s. LastFits (y.flying j) s j) (sym ss) (subst (λ (f : ℕ → List Ask). LastFits (f j) x.stage j) (sym fs) (at_case (λ n f. LastFits (x.flying n) x.stage n → LastFits f x.stage n) x.flying k r (less x.stage) j (λ ne l. l) w.last));
      }

  missed_waits : (y : Txn) → y ≡ record (landed x k) { waits = with_at x.waits k false; out = with_at x.out k true } → WaitsFit size y
  missed_waits y is j waiting = by_case (cases_eq j k) where
    now : with_at x.waits k false j ≡ true
    now = sym (ap (λ (z : Txn). z.waits j) is) ∙ waiting

    by_case : (j ≡ k) ⊎ (j ≢ k) → WaitsFor size y j
    by_case (inl same) = absurd (let no_more : false ≡ true = sym (ap (with_at x.waits k false) same ∙ at_same x.waits k false) ∙ now in cc)
    by_case (inr other) =
        let w = fit j (sym (at_other x.waits k false j other) ∙ now) in
        subst (λ (z : Txn). WaitsFor size z j) (sym is) (record { replica = w.replica; stage = w.stage; last = subst (λ f. LastFits f x.stage j) (sym (at_other x.flying k (without_first (x.flying k)) j other)) w.last })

  reply_waits : (connection : ℕ) (ask : Ask) (answer : Answer) (y : Txn) → Heard x y k connection ask answer → WaitsFit size y
  reply_waits connection ask answer y (Took plain waits same is) =
      let w = fit k (both_left _ _ waits) in
      heard_waits size x y k fit (subst (λ (z : Txn). StageGoes x.stage z.stage) (sym is) (hearing_stage (at_rest x k) k connection ask answer)) w.stage same.waits
      (λ j ne. ap (λ (f : ℕ → List Ask). f j) same.flying ∙ at_other x.flying k [] j ne)
  reply_waits connection ask answer y (Passed plain passes is) = shorter_waits (without_first (x.flying k)) (λ stage l. last_landed (x.flying k) stage k l) y (ap (λ (z : Txn). z.waits) is) (ap (λ (z : Txn). z.stage) is) (ap (λ (z : Txn). z.flying) is)
  reply_waits connection ask answer y (OpenDone opens is) = shorter_waits (without_first (x.flying k)) (λ stage l. last_landed (x.flying k) stage k l) y (ap (λ (z : Txn). z.waits) is) (ap (λ (z : Txn). z.stage) is) (ap (λ (z : Txn). z.flying) is)
  reply_waits connection ask answer y (OpenMissed opens is) = missed_waits y is

  forgotten_waits : (ends : ℕ → Bool) → WaitsFit size (forgetting ends k x)
  forgotten_waits ends = by_case (ends x.graph) where
    by_case : (b : Bool) → WaitsFit size (if b then record x { flying = with_at x.flying k [] } else x)
    by_case true = shorter_waits [] (λ stage l. tt) (record x { flying = with_at x.flying k [] }) refl refl refl
    by_case false = fit

module _ (size : Size) (m : State) (fit : EachWaitsFit size m) where
  asked_waits : (t k : ℕ) (first : Bool) (ask : Ask) → MayAsk size m t k ask → WaitsFit size (asking (m.txns t) k (m.links k (m.txns t).graph).last first ask)
  asked_waits t k first ask h j is = by_case (cases_eq j k) where
    x : Txn
    x = m.txns t

    s : (k < size.replicas) × Fits ask (m.txns t).stage k
    s = sent_fits size m t k ask h

    by_case : (j ≡ k) ⊎ (j ≢ k) → WaitsFor size (asking (m.txns t) k (m.links k (m.txns t).graph).last first ask) j
    by_case (inl same) = subst (λ n. WaitsFor size (asking (m.txns t) k (m.links k (m.txns t).graph).last first ask) n) (sym same)
        (record {
          replica = s.0;
          stage = fits_waits ask (m.txns t).stage k s.1;
          last = subst (λ f. LastFits f (m.txns t).stage k) (sym (at_same (m.txns t).flying k ((m.txns t).flying k ++ asks_of first ask))) (last_asked ((m.txns t).flying k) first ask (m.txns t).stage k s.1);
        })
    by_case (inr other) =
        let w = fit t j (sym (at_other (m.txns t).waits k true j other) ∙ is) in
        record { replica = w.replica; stage = w.stage; last = subst (λ f. LastFits f (m.txns t).stage j) (sym (at_other (m.txns t).flying k ((m.txns t).flying k ++ asks_of first ask) j other)) w.last }

  replied_waits : (k : ℕ) (by : Sender) (ask : Ask) (answer : Answer) (i : ℕ) → WaitsFit size ((replied m k by ask answer).txns i)
  replied_waits k by ask answer i =
      let r = replied_txns m k by ask answer in
      subst (λ (txns : ℕ → Txn). WaitsFit size (txns i)) (sym r.is)
      (at_case (λ n y. WaitsFit size y) m.txns by.txn r.after (reply_waits size (m.txns by.txn) k (fit by.txn) by.connection ask answer r.after r.heard) i (λ ne. fit i))

  taken_waits : (k : ℕ) (o : Output) (i : ℕ) → WaitsFit size ((taken_in m k o).txns i)
  taken_waits k (Answered by ask answer) i = by_case (is_current (m.links k by.graph) by.connection) where
    by_case : (b : Bool) → WaitsFit size ((if b then replied m k by ask answer else m).txns i)
    by_case true = replied_waits k by ask answer i
    by_case false = fit i
  taken_waits k Closed i = forgotten_waits size (m.txns i) k (fit i) (λ g. true)
  taken_waits k Opened i = fit i
  taken_waits k (Connected graph) i = fit i

  front_waits : (k : ℕ) (os : List Output) (i : ℕ) → WaitsFit size ((take_in_front m k os).txns i)
  front_waits k [] i = fit i
  front_waits k (o ∷ os) i = taken_waits k o i

  turned_waits : (t : ℕ) (turn : Turn) → MayTurn size m t turn → is_beginning turn ≡ false → is_confirming turn ≡ false → (i : ℕ) → WaitsFit size ((after_turn size m t turn).txns i)
  turned_waits t turn h b c i = by_case (cases_eq i t) where
    by_case : (i ≡ t) ⊎ (i ≢ t) → WaitsFit size ((after_turn size m t turn).txns i)
    by_case (inl same) = subst (λ n. WaitsFit size ((after_turn size m t turn).txns n)) (sym same)
        (λ k is. let was : (m.txns t).waits k ≡ true = sym (ap (λ (f : ℕ → Bool). f k) (turn_flights size m t turn h b t).waits) ∙ is in absurd (turn_idle size m t turn k h b c was (fit t k was)))
    by_case (inr other) = subst (WaitsFit size) (sym (turn_others size m t turn i other)) (fit i)

  unsettled_waits : (t : ℕ) → IsAnswered size (m.txns t) → (stage : Stage) (i : ℕ) → WaitsFit size ((unsettling m t stage).txns i)
  unsettled_waits t answered (Marking u) i = at_case (λ n y. WaitsFit size y) m.txns t _ (λ k is. absurd (not_answered size (m.txns t) k answered is (fit t k is))) i (λ ne. fit i)
  unsettled_waits t answered other i = fit i

step_waits : (size : Size) (m : State) (step : Step) → Allowed size m step → EachWaitsFit size m → EachWaitsFit size (after size m step)
step_waits size m (Step.Turns t (Turn.Begins graph own)) h fit i = at_case (λ n y. WaitsFit size y) m.txns t (new_txn graph own) (λ k is. absurd cc) i (λ ne. fit i)
step_waits size m (Step.Turns t Turn.Confirms) h fit i = fit i
step_waits size m (Step.Turns t turn) h fit i = turned_waits size m fit t turn h refl refl i
step_waits size m (Step.Asks t k first asked) h fit i = at_case (λ n y. WaitsFit size y) m.txns t _ (asked_waits size m fit t k first asked h.0) i (λ ne. fit i)
step_waits size m (Step.HandsIn k) h fit i = front_waits size (without_first_output m k) fit k (m.bricks k).outputs i
step_waits size m (Step.Bails t k) h fit i =
    at_case (λ n y. WaitsFit size y) m.txns t _
    (heard_waits size (m.txns t) (missing (record (m.txns t) { waits = with_at (m.txns t).waits k false }) k) k (fit t) (PassesOn refl) (fit t k h.waits).stage refl (λ j ne. refl)) i (λ ne. fit i)
step_waits size m (Step.Misses t k) h fit i = at_case (λ n y. WaitsFit size y) m.txns t _ (carry_waits size (m.txns t) _ refl refl refl (fit t)) i (λ ne. fit i)
step_waits size m (Step.Cuts k g) h fit i = forgotten_waits size (m.txns i) k (fit i) (λ other. other == g)
step_waits size m (Step.Unsettles t) h fit i = unsettled_waits size m fit t h.answered (m.txns t).stage i
step_waits size m (Step.Decides t) h fit i = subst (λ (f : ℕ → Txn). WaitsFit size (f i)) (sym (decided_txns m (decided_by (m.txns t).stage))) (fit i)
step_waits size m other h fit i = fit i

pub waits_fit : (size : Size) (m : State) → IsReached size m → EachWaitsFit size m
waits_fit size m IsReached.Start = λ t k is. absurd cc
waits_fit size m (IsReached.Further old step reached allowed) = step_waits size old step allowed (waits_fit size old reached)
