-- A reply leaves what the other bricks were asked.
use Rattle.std.proofs.Common.{◌≡◌, ◌∙◌, ℕ, Bool, true, false, refl, sym, ap, subst, ◌⊎◌, inl, inr}
use Rattle.std.specs.Prelude.{if◌then◌else◌, List, [], ◌≢◌}
use Rattle.std.proofs.lemmas.Bool.{cases_eq}
use Rattle.afr_machine.specs.Replicas.{Size, with_at}
use Rattle.afr_machine.specs.Requests.{Sender, Ask, Answer}
use Rattle.afr_machine.specs.Requests.Ask.{Op, Clear, OpenFirst}
use Rattle.afr_machine.specs.Changes.{Change}
use Rattle.afr_machine.specs.Transactions.{Stage, Txn}
use Rattle.afr_machine.specs.Transactions.Stage.{Applying, Copying}
use Rattle.afr_machine.specs.States.{State, with_txn}
use Rattle.afr_machine.specs.Answering.{is_wanted, is_single, without_first, passed, hearing, landed, at_rest, awaits, applied_by, cleared_for, noting, answered, forgetting, replied}
use Rattle.afr_machine.proofs.Tables.{at_same, at_other}
use Rattle.afr_laws.specs.Txns.{SameFlights}
use Rattle.afr_laws.specs.Waiting.{WaitsFit}
use Rattle.afr_laws.specs.Asking.{IsAskedBy, LastIs, AsksAre}
use Rattle.afr_laws.proofs.Bools.{both_left}
use Rattle.afr_laws.proofs.Carry.{at_case}
use Rattle.afr_laws.proofs.Heard.{Heard}
use Rattle.afr_laws.proofs.Heard.Heard.{Took, Passed, OpenDone, OpenMissed}
use Rattle.afr_laws.proofs.Waiting.{passed_stays}
use Rattle.afr_laws.proofs.OwnChanges.Replies.{hearing_task}
use Rattle.afr_laws.proofs.Asking.Carries.{last_landed, last_map, hearing_asked}

-- ---- who applied a change

-- who applied a change is noted where its own transaction applies it
module _ (m : State) (k u : ℕ) where
  applied_done : (stage : Stage) → (stage ≡ Applying u → ⊥) → ((applied_by m stage k).changes u).done ≡ (m.changes u).done
  applied_done (Applying v) never = at_case (λ n (c : Change). (Applying v ≡ Applying n → ⊥) → c.done ≡ (m.changes n).done) m.changes v (record (m.changes v) { done = with_at (m.changes v).done k true }) (λ no. absurd (no refl)) u (λ ne no. refl) never
  applied_done other never = refl

  cleared_done : (x : Txn) (stage : Stage) → ((cleared_for m x stage k).changes u).done ≡ (m.changes u).done
  cleared_done x (Copying run) = refl
  cleared_done x other = refl

  noting_done : (x : Txn) (ask : Ask) → (x.stage ≡ Applying u → ⊥) → ((noting m x k ask).changes u).done ≡ (m.changes u).done
  noting_done x (Op change op) never = applied_done x.stage never
  noting_done x (Clear cells who) never = cleared_done x x.stage
  noting_done x other never = refl

  module _ (by : Sender) (never : (m.txns by.txn).stage ≡ Applying u → ⊥) where
    answered_done : (ask : Ask) (answer : Answer) → ((answered m k by ask answer).changes u).done ≡ (m.changes u).done
    answered_done ask answer = by_case (awaits (m.txns by.txn) k) (is_wanted ask answer) where
      wanted : (c : Bool) → ((if c then noting m (m.txns by.txn) k ask else m).changes u).done ≡ (m.changes u).done
      wanted true = noting_done (m.txns by.txn) ask never
      wanted false = refl

      by_case : (b c : Bool) → ((if b then with_txn (if c then noting m (m.txns by.txn) k ask else m) by.txn (hearing (at_rest (m.txns by.txn) k) k by.connection ask answer) else with_txn m by.txn (landed (m.txns by.txn) k)).changes u).done ≡ (m.changes u).done
      by_case true c = wanted c
      by_case false c = refl

    pub replied_done : (ask : Ask) (answer : Answer) → ((replied m k by ask answer).changes u).done ≡ (m.changes u).done
    replied_done OpenFirst answer = refl
    replied_done other answer = answered_done other answer

-- ---- the transaction

module _ (size : Size) (changes : ℕ → Change) (x : Txn) (k : ℕ) (fit : WaitsFit size x) (old : AsksAre size changes x) where
  -- fewer requests on their way to this brick
  pub shorter_asks : (r : List Ask) → ((P : Ask → Type 0) → LastIs P (x.flying k) → LastIs P r) → (y : Txn) → y.job ≡ x.job → y.stage ≡ x.stage → y.flying ≡ with_at x.flying k r → ((j : ℕ) → y.waits j ≡ true → x.waits j ≡ true) → AsksAre size changes y
  shorter_asks r less y job stage flying waits j is =
      subst (λ w. LastIs (IsAskedBy size changes w y.stage j) (y.flying j)) (sym job)
      (subst (λ s. LastIs (IsAskedBy size changes x.job s j) (y.flying j)) (sym stage)
      (subst (λ (f : ℕ → List Ask). LastIs (IsAskedBy size changes x.job x.stage j) (f j)) (sym flying)
      (at_case (λ n f. LastIs (IsAskedBy size changes x.job x.stage n) (x.flying n) → LastIs (IsAskedBy size changes x.job x.stage n) f) x.flying k r (less (IsAskedBy size changes x.job x.stage k)) j (λ ne l. l) (old j (waits j is)))))

  fewer_waits : (j : ℕ) → with_at x.waits k false j ≡ true → x.waits j ≡ true
  fewer_waits j = at_case (λ n b. b ≡ true → x.waits n ≡ true) x.waits k false (λ h. absurd cc) j (λ ne h. h)

  took_asks : (connection : ℕ) (ask : Ask) (answer : Answer) (y : Txn) → y ≡ hearing (at_rest x k) k connection ask answer → SameFlights (at_rest x k) y → x.waits k ≡ true → IsAskedBy size changes x.job x.stage k ask → AsksAre size changes y
  took_asks connection ask answer y is same waiting asked j waits = by_case (cases_eq j k) where
    now : with_at x.waits k false j ≡ true
    now = sym (ap (λ (f : ℕ → Bool). f j) same.waits) ∙ waits

    by_case : (j ≡ k) ⊎ (j ≢ k) → LastIs (IsAskedBy size changes y.job y.stage j) (y.flying j)
    by_case (inl equal) = absurd (let no : false ≡ true = sym (ap (with_at x.waits k false) equal ∙ at_same x.waits k false) ∙ now in cc)
    by_case (inr other) =
        let there : x.waits j ≡ true = fewer_waits j now in
        let stays : passed x.stage ≡ x.stage = passed_stays x.stage j k other (fit j there).stage (fit k waiting).stage in
        let flying : y.flying j ≡ x.flying j = ap (λ (f : ℕ → List Ask). f j) same.flying ∙ at_other x.flying k [] j other in
        let job : y.job ≡ x.job = ap (λ (z : Txn). z.job) is ∙ (hearing_task (at_rest x k) k connection ask answer).own.job in
        subst (λ w. LastIs (IsAskedBy size changes w y.stage j) (y.flying j)) (sym job)
        (subst (λ f. LastIs (IsAskedBy size changes x.job y.stage j) f) (sym flying)
        (subst (λ (z : Txn). LastIs (IsAskedBy size changes x.job z.stage j) (x.flying j)) (sym is)
        (last_map (IsAskedBy size changes x.job x.stage j) (IsAskedBy size changes x.job (hearing (at_rest x k) k connection ask answer).stage j) (x.flying j) (hearing_asked size changes x.job j (at_rest x k) k connection stays ask answer asked) (old j there))))

  pub heard_asks : (connection : ℕ) (ask : Ask) (answer : Answer) (y : Txn) → (awaits x k ≡ true → IsAskedBy size changes x.job x.stage k ask) → Heard x y k connection ask answer → AsksAre size changes y
  heard_asks connection ask answer y asked (Took plain waits same is) = took_asks connection ask answer y is same (both_left (x.waits k) (is_single (x.flying k)) waits) (asked waits)
  heard_asks connection ask answer y asked (Passed plain passes is) =
      shorter_asks (without_first (x.flying k)) (λ P l. last_landed P (x.flying k) l) y (ap (λ (z : Txn). z.job) is) (ap (λ (z : Txn). z.stage) is) (ap (λ (z : Txn). z.flying) is) (λ j h. sym (ap (λ (z : Txn). z.waits j) is) ∙ h)
  heard_asks connection ask answer y asked (OpenDone opens is) =
      shorter_asks (without_first (x.flying k)) (λ P l. last_landed P (x.flying k) l) y (ap (λ (z : Txn). z.job) is) (ap (λ (z : Txn). z.stage) is) (ap (λ (z : Txn). z.flying) is) (λ j h. sym (ap (λ (z : Txn). z.waits j) is) ∙ h)
  heard_asks connection ask answer y asked (OpenMissed opens is) =
      shorter_asks (without_first (x.flying k)) (λ P l. last_landed P (x.flying k) l) y (ap (λ (z : Txn). z.job) is) (ap (λ (z : Txn). z.stage) is) (ap (λ (z : Txn). z.flying) is) (λ j h. fewer_waits j (sym (ap (λ (z : Txn). z.waits j) is) ∙ h))

  pub forgotten_asks : (ends : ℕ → Bool) → AsksAre size changes (forgetting ends k x)
  forgotten_asks ends = by_case (ends x.graph) where
    by_case : (b : Bool) → AsksAre size changes (if b then record x { flying = with_at x.flying k [] } else x)
    by_case true = shorter_asks [] (λ P l. tt) (record x { flying = with_at x.flying k [] }) refl refl refl (λ j h. h)
    by_case false = old
