-- Steps that leave the bricks' locks alone: turns, requests, replies, connections.
use Rattle.std.proofs.Common.{◌≡◌, ◌∙◌, ℕ, ◌≤◌, Bool, true, false, refl, sym, ap, subst, arith, Option, Some, None}
use Rattle.std.specs.Prelude.{List, ◌∷◌}
use Rattle.fop_types.specs.declared.contents.Row.{Row}
use Rattle.fop_types.specs.declared.cells.Cell.{Cell}
use Rattle.afr_machine.specs.Replicas.{with_at}
use Rattle.afr_machine.specs.Requests.{Sender, Ask, Answer, Output}
use Rattle.afr_machine.specs.Requests.Ask.{Lock}
use Rattle.afr_machine.specs.Requests.Answer.{Rows}
use Rattle.afr_machine.specs.Requests.Output.{Answered}
use Rattle.afr_machine.specs.Locks.{BrickLock}
use Rattle.afr_machine.specs.Transactions.{Grant, Txn}
use Rattle.afr_machine.specs.States.{State, Link, is_current}
use Rattle.afr_machine.specs.Answering.{passed, awaits, landed, at_rest}
use Rattle.afr_laws.specs.Senders.{EachOutput}
use Rattle.afr_laws.specs.Numbered.{IsNumbered, AreNumbered}
use Rattle.afr_laws.specs.Grants.{IsHeldBy, lock_of, lock_granted, OnLock, EachGranted, has_none, is_unlocking, StandsGrant, GrantsAreHeld}
use Rattle.afr_laws.proofs.Carry.{at_case}
use Rattle.afr_laws.proofs.Heard.{Heard}
use Rattle.afr_laws.proofs.Heard.Heard.{Took, Passed, OpenDone, OpenMissed}
use Rattle.afr_laws.proofs.Stages.{StageGoes, hearing_stage, GrantsGo, hearing_grants}
use Rattle.afr_laws.proofs.Stages.GrantsGo.{SameGrants, Granted, Released}
use Rattle.afr_laws.proofs.Holding.{granted_map}
use Rattle.afr_laws.proofs.Unlocks.{granted_sender}
use Rattle.afr_laws.proofs.GrantTurns.{GrantsTurn, goes_unlocks, goes_none, passed_none}
use Rattle.afr_laws.proofs.GrantTurns.GrantsTurn.{KeepsGrants, NoGrants}

-- what a transaction's grants need: each is numbered and held, and a stage without grants has none
pub record HasGrants (m new : State) (i : ℕ) (y : Txn) : Type 0 where
  pub numbered : (k : ℕ) (grant : Grant) → y.grants k ≡ Some grant → grant.connection ≤ (new.links k y.graph).last
  pub held : (k : ℕ) (grant : Grant) → y.grants k ≡ Some grant → is_current (new.links k y.graph) grant.connection ≡ true → is_unlocking y.stage ≡ false → IsHeldBy (new.bricks k) (lock_of i y.graph grant)
  pub none : has_none y.stage ≡ true → (k : ℕ) → y.grants k ≡ None

-- a state in which connections only end or open anew, locks stay held, and outputs are at most handed over
pub record LeavesLocks (m new : State) : Type 0 where
  pub last : (k g : ℕ) → (m.links k g).last ≤ (new.links k g).last
  pub stays : (k g c : ℕ) → c ≤ (m.links k g).last → is_current (new.links k g) c ≡ true → new.links k g ≡ m.links k g
  pub holds : (k : ℕ) (lock : BrickLock) → is_current (new.links k lock.by.graph) lock.by.connection ≡ true → IsHeldBy (m.bricks k) lock → IsHeldBy (new.bricks k) lock
  pub outputs : (k : ℕ) → EachGranted (λ lock. is_current (new.links k lock.by.graph) lock.by.connection ≡ true → IsHeldBy (new.bricks k) lock) (m.bricks k).outputs →
      EachGranted (λ lock. is_current (new.links k lock.by.graph) lock.by.connection ≡ true → IsHeldBy (new.bricks k) lock) (new.bricks k).outputs

module _ (m new : State) (numbered : AreNumbered m) (g : GrantsAreHeld m) (l : LeavesLocks m new) where
  -- a transaction that keeps its grants, or has none
  pub turned : (i : ℕ) (y : Txn) → y.graph ≡ (m.txns i).graph → GrantsTurn (m.txns i) y → HasGrants m new i y
  turned i y graph (KeepsGrants same ul less) = record {
    numbered = λ k grant is. subst (λ h. grant.connection ≤ (new.links k h).last) (sym graph) (omega (arith, (old k grant is).numbered, l.last k (m.txns i).graph));
    held = λ k grant is cur unl.
        let s = old k grant is in
        let cur' : is_current (new.links k (m.txns i).graph) grant.connection ≡ true = subst (λ h. is_current (new.links k h) grant.connection ≡ true) graph cur in
        let was : is_current (m.links k (m.txns i).graph) grant.connection ≡ true = subst (λ (x : Link). is_current x grant.connection ≡ true) (l.stays k (m.txns i).graph grant.connection s.numbered cur') cur' in
        subst (λ h. IsHeldBy (new.bricks k) (lock_of i h grant)) (sym graph) (l.holds k (lock_of i (m.txns i).graph grant) cur' (s.held was (ul unl)));
    none = λ h k. ap (λ (f : ℕ → Option Grant). f k) same ∙ g.none i (less h) k;
  }
    where
      old : (k : ℕ) (grant : Grant) → y.grants k ≡ Some grant → StandsGrant m i k grant
      old k grant is = g.handed i k grant (sym (ap (λ (f : ℕ → Option Grant). f k) same) ∙ is)
  turned i y graph (NoGrants empty) = record {
    numbered = λ k grant is. absurd (let never : None ≡ Some grant = sym (empty k) ∙ is in cc);
    held = λ k grant is cur unl. absurd (let never : None ≡ Some grant = sym (empty k) ∙ is in cc);
    none = λ h k. empty k;
  }

  -- one that has none needs no graph
  pub emptied : (i : ℕ) (y : Txn) → ((k : ℕ) → y.grants k ≡ None) → HasGrants m new i y
  emptied i y empty = record {
    numbered = λ k grant is. absurd (let never : None ≡ Some grant = sym (empty k) ∙ is in cc);
    held = λ k grant is cur unl. absurd (let never : None ≡ Some grant = sym (empty k) ∙ is in cc);
    none = λ h k. empty k;
  }

  pub regranted : ((i : ℕ) → HasGrants m new i (new.txns i)) → GrantsAreHeld new
  regranted has = record {
    handed = λ t k grant is. record { numbered = (has t).numbered k grant is; held = λ cur ul. (has t).held k grant is cur ul };
    coming = λ k. l.outputs k
        (granted_map (λ lock. is_current (m.links k lock.by.graph) lock.by.connection ≡ true → IsHeldBy (m.bricks k) lock) (λ lock. is_current (new.links k lock.by.graph) lock.by.connection ≡ true → IsHeldBy (new.bricks k) lock) (m.bricks k).outputs
        (λ lock i p cur.
        let low : lock.by.connection ≤ (m.links k lock.by.graph).last = (granted_sender (IsNumbered m k) lock (m.bricks k).outputs (numbered k).outputs i).1.connection in
        l.holds k lock cur (p (subst (λ (x : Link). is_current x lock.by.connection ≡ true) (l.stays k lock.by.graph lock.by.connection low cur) cur)))
        (g.coming k));
    none = λ t h k. (has t).none h k;
  }

-- ---- a reply on the open connection, the links as they are

module _ (m new : State) (numbered : AreNumbered m) (g : GrantsAreHeld m) (l : LeavesLocks m new) (k : ℕ) (by : Sender) (ask : Ask) (answer : Answer) (rest : List Output)
    (front : (m.bricks k).outputs ≡ Answered by ask answer ∷ rest) (links : new.links ≡ m.links) (connected : is_current (m.links k by.graph) by.connection ≡ true)
    (fits : awaits (m.txns by.txn) k ≡ true → (shared : Bool) (cells : List Cell) → ask ≡ Lock shared cells → has_none (m.txns by.txn).stage ≡ false) where
  sender : IsNumbered m k by ask
  sender = (subst (EachOutput (IsNumbered m k)) front (numbered k).outputs).0

  coming_front : (shared : Bool) (cells : List Cell) (rows : Cell → Row) → ask ≡ Lock shared cells → answer ≡ Rows rows → IsHeldBy (m.bricks k) (record { by = by; shared = shared; cells = cells })
  coming_front shared cells rows is_lock is_rows =
      let P : BrickLock → Type 0 = λ lock. is_current (m.links k lock.by.graph) lock.by.connection ≡ true → IsHeldBy (m.bricks k) lock in
      let first : OnLock P (lock_granted by ask answer) = (subst (EachGranted P) front (g.coming k)).0 in
      let one : OnLock P (lock_granted by (Lock shared cells) (Rows rows)) = subst (λ a. OnLock P (lock_granted by (Lock shared cells) a)) is_rows (subst (λ a. OnLock P (lock_granted by a answer)) is_lock first) in
      one connected

  x : Txn
  x = m.txns by.txn

  granted : (waits : awaits (m.txns by.txn) k ≡ true) (y : Txn) (shared : Bool) (cells : List Cell) (rows : Cell → Row) → ask ≡ Lock shared cells → answer ≡ Rows rows → y.graph ≡ (m.txns by.txn).graph →
      y.grants ≡ with_at (m.txns by.txn).grants k (Some (record { connection = by.connection; shared = shared; cells = cells; rows = rows })) → y.stage ≡ passed (m.txns by.txn).stage → StageGoes (m.txns by.txn).stage y.stage → HasGrants m new by.txn y
  granted waits y shared cells rows is_lock is_rows graph grants stage goes = record {
    numbered = λ j grant is. (at j grant (sym (ap (λ (f : ℕ → Option Grant). f j) grants) ∙ is)).0;
    held = λ j grant is cur unl. (at j grant (sym (ap (λ (f : ℕ → Option Grant). f j) grants) ∙ is)).1 cur unl;
    none = λ h j. absurd (let never : true ≡ false = sym h ∙ ap has_none stage ∙ passed_none (m.txns by.txn).stage ∙ fits waits shared cells is_lock in cc);
  }
    where
      g0 : Grant
      g0 = record { connection = by.connection; shared = shared; cells = cells; rows = rows }

      old : HasGrants m new by.txn (record y { grants = (m.txns by.txn).grants })
      old = turned m new numbered g l by.txn (record y { grants = (m.txns by.txn).grants }) graph (KeepsGrants refl (goes_unlocks (m.txns by.txn).stage y.stage goes) (goes_none (m.txns by.txn).stage y.stage goes))

      by_graph : by.graph ≡ y.graph
      by_graph = sender.graph ∙ sym graph

      Stands : ℕ → Option Grant → Type 0
      Stands n o = (grant : Grant) → o ≡ Some grant → (grant.connection ≤ (new.links n y.graph).last) × (is_current (new.links n y.graph) grant.connection ≡ true → is_unlocking y.stage ≡ false → IsHeldBy (new.bricks n) (lock_of by.txn y.graph grant))

      fresh : (grant : Grant) → Some (record { connection = by.connection; shared = shared; cells = cells; rows = rows }) ≡ Some grant →
          (grant.connection ≤ (new.links k y.graph).last) × (is_current (new.links k y.graph) grant.connection ≡ true → is_unlocking y.stage ≡ false → IsHeldBy (new.bricks k) (lock_of by.txn y.graph grant))
      fresh grant e =
          let same : g0_of ≡ grant = cc in
          subst (λ (z : Grant). (z.connection ≤ (new.links k y.graph).last) × (is_current (new.links k y.graph) z.connection ≡ true → is_unlocking y.stage ≡ false → IsHeldBy (new.bricks k) (lock_of by.txn y.graph z))) same (
            subst (λ h. by.connection ≤ (new.links k h).last) by_graph (omega (arith, sender.connection, l.last k by.graph)),
            λ cur unl. subst (λ h. IsHeldBy (new.bricks k) (lock_of by.txn h (record { connection = by.connection; shared = shared; cells = cells; rows = rows }))) by_graph
                (l.holds k (record { by = by; shared = shared; cells = cells }) (ap (λ (f : ℕ → ℕ → Link). is_current (f k by.graph) by.connection) links ∙ connected) (coming_front shared cells rows is_lock is_rows)),
          )
        where
          g0_of : Grant
          g0_of = record { connection = by.connection; shared = shared; cells = cells; rows = rows }

      at : (j : ℕ) (grant : Grant) → with_at (m.txns by.txn).grants k (Some (record { connection = by.connection; shared = shared; cells = cells; rows = rows })) j ≡ Some grant →
          (grant.connection ≤ (new.links j y.graph).last) × (is_current (new.links j y.graph) grant.connection ≡ true → is_unlocking y.stage ≡ false → IsHeldBy (new.bricks j) (lock_of by.txn y.graph grant))
      at j = at_case (λ n o. (grant : Grant) → o ≡ Some grant → (grant.connection ≤ (new.links n y.graph).last) × (is_current (new.links n y.graph) grant.connection ≡ true → is_unlocking y.stage ≡ false → IsHeldBy (new.bricks n) (lock_of by.txn y.graph grant)))
          (m.txns by.txn).grants k (Some (record { connection = by.connection; shared = shared; cells = cells; rows = rows })) fresh j (λ ne grant is. (old.numbered j grant is, old.held j grant is))

  released : (y : Txn) → y.graph ≡ (m.txns by.txn).graph → y.grants ≡ with_at (m.txns by.txn).grants k None → StageGoes (m.txns by.txn).stage y.stage → HasGrants m new by.txn y
  released y graph grants goes = record {
    numbered = λ j grant is. (at j grant (sym (ap (λ (f : ℕ → Option Grant). f j) grants) ∙ is)).0;
    held = λ j grant is cur unl. (at j grant (sym (ap (λ (f : ℕ → Option Grant). f j) grants) ∙ is)).1 cur unl;
    none = λ h j. ap (λ (f : ℕ → Option Grant). f j) grants ∙ at_case (λ n o. o ≡ None) (m.txns by.txn).grants k None refl j (λ ne. old.none h j);
  }
    where
      old : HasGrants m new by.txn (record y { grants = (m.txns by.txn).grants })
      old = turned m new numbered g l by.txn (record y { grants = (m.txns by.txn).grants }) graph (KeepsGrants refl (goes_unlocks (m.txns by.txn).stage y.stage goes) (goes_none (m.txns by.txn).stage y.stage goes))

      at : (j : ℕ) (grant : Grant) → with_at (m.txns by.txn).grants k None j ≡ Some grant →
          (grant.connection ≤ (new.links j y.graph).last) × (is_current (new.links j y.graph) grant.connection ≡ true → is_unlocking y.stage ≡ false → IsHeldBy (new.bricks j) (lock_of by.txn y.graph grant))
      at j = at_case (λ n o. (grant : Grant) → o ≡ Some grant → (grant.connection ≤ (new.links n y.graph).last) × (is_current (new.links n y.graph) grant.connection ≡ true → is_unlocking y.stage ≡ false → IsHeldBy (new.bricks n) (lock_of by.txn y.graph grant)))
          (m.txns by.txn).grants k None (λ grant e. absurd cc) j (λ ne grant is. (old.numbered j grant is, old.held j grant is))

  heard_by : awaits (m.txns by.txn) k ≡ true → (y : Txn) → y.graph ≡ (m.txns by.txn).graph → StageGoes (m.txns by.txn).stage y.stage → GrantsGo (at_rest (m.txns by.txn) k) y k by.connection ask answer → HasGrants m new by.txn y
  heard_by waits y graph goes (SameGrants same) = turned m new numbered g l by.txn y graph (KeepsGrants same (goes_unlocks (m.txns by.txn).stage y.stage goes) (goes_none (m.txns by.txn).stage y.stage goes))
  heard_by waits y graph goes (Granted shared cells rows is_lock is_rows grants stage) = granted waits y shared cells rows is_lock is_rows graph grants stage goes
  heard_by waits y graph goes (Released is grants) = released y graph grants goes

  left_as : (y z : Txn) → y ≡ z → z.graph ≡ (m.txns by.txn).graph → z.grants ≡ (m.txns by.txn).grants → z.stage ≡ (m.txns by.txn).stage → HasGrants m new by.txn y
  left_as y z is graph grants stage =
      turned m new numbered g l by.txn y (ap (λ (w : Txn). w.graph) is ∙ graph)
      (KeepsGrants (ap (λ (w : Txn). w.grants) is ∙ grants) (λ h. sym (ap (λ (w : Txn). is_unlocking w.stage) is ∙ ap is_unlocking stage) ∙ h) (λ h. sym (ap (λ (w : Txn). has_none w.stage) is ∙ ap has_none stage) ∙ h))

  pub heard_has : (y : Txn) → Heard (m.txns by.txn) y k by.connection ask answer → HasGrants m new by.txn y
  heard_has y (Took plain waits same is) =
      heard_by waits y same.graph (subst (λ (z : Txn). StageGoes (m.txns by.txn).stage z.stage) (sym is) (hearing_stage (at_rest (m.txns by.txn) k) k by.connection ask answer))
      (subst (λ (z : Txn). GrantsGo (at_rest (m.txns by.txn) k) z k by.connection ask answer) (sym is) (hearing_grants (at_rest (m.txns by.txn) k) k by.connection ask answer))
  heard_has y (Passed plain passes is) = left_as y (landed (m.txns by.txn) k) is refl refl refl
  heard_has y (OpenDone opens is) = left_as y (landed (m.txns by.txn) k) is refl refl refl
  heard_has y (OpenMissed opens is) = left_as y (record (landed (m.txns by.txn) k) { waits = with_at (m.txns by.txn).waits k false; out = with_at (m.txns by.txn).out k true }) is refl refl refl
