-- What changes a copy at a brick where the transaction that copies holds its lock: its own phase's requests alone.
use Rattle.std.proofs.Common.{◌≡◌, ◌∙◌, ℕ, Bool, true, false, refl, sym, ap, subst, ◌⊎◌, inl, inr}
use Rattle.std.specs.Prelude.{if◌then◌else◌, List, [], ◌∷◌, ◌++◌, not, ◌≢◌}
use Rattle.std.proofs.lemmas.Bool.{cases_eq, eq-eqb}
use Rattle.fop_types.specs.declared.cells.Cell.{Cell}
use Rattle.afr_machine.specs.Replicas.{Size}
use Rattle.afr_machine.specs.Touching.{has_cell}
use Rattle.afr_machine.specs.Requests.{Sender, Ask, Input}
use Rattle.afr_machine.specs.Requests.Ask.{OpenFirst}
use Rattle.afr_machine.specs.Requests.Input.{Asked, Steered}
use Rattle.afr_machine.specs.Transactions.{Stage}
use Rattle.afr_machine.specs.Transactions.Stage.{Unlocking}
use Rattle.afr_machine.specs.States.{State, is_current}
use Rattle.afr_machine.specs.Births.{cells_of_work}
use Rattle.afr_machine.specs.Turns.{open_grants}
use Rattle.afr_machine.specs.Steps.{IsReached}
use Rattle.afr_laws.specs.Senders.{EachInput}
use Rattle.afr_laws.specs.Numbered.{IsNumbered}
use Rattle.afr_laws.specs.Flights.{is_mine, in_locks, in_line, in_outputs, IsFlight}
use Rattle.afr_laws.specs.Flights.IsFlight.{NoFlight, OneFlight, OpensFirst, Strayed, StrayedThenUnlocks}
use Rattle.afr_laws.specs.Connections.{is_control_of, has_control, IsOrdered}
use Rattle.afr_laws.specs.Grants.{lock_of, is_unlocking}
use Rattle.afr_laws.specs.Apart.{IsGranted}
use Rattle.afr_laws.specs.Apart.IsGranted.{HandedIn}
use Rattle.afr_laws.specs.Asking.{LastIs, IsAskedBy}
use Rattle.afr_laws.specs.Alone.{IsApartFrom}
use Rattle.afr_laws.specs.Covered.{cells_asked}
use Rattle.afr_laws.specs.Fresh.{is_behind}
use Rattle.afr_laws.proofs.Bools.{apart_bools, both, both_left, neither_right}
use Rattle.afr_laws.proofs.Heard.{is_open_first}
use Rattle.afr_laws.proofs.Flying.{on_their_way}
use Rattle.afr_laws.proofs.ConnectsFirst.{connects_come_first}
use Rattle.afr_laws.proofs.Covered.Granted.{grants_stand}
use Rattle.afr_laws.proofs.Asking.Steps.{asks_are_of_phases}
use Rattle.afr_laws.proofs.Work.Known.{works_are_known}
use Rattle.afr_laws.proofs.Overtaken.Steps.{HasOpen, has_open}
use Rattle.afr_laws.proofs.Standing.Alone.{granted_alone}
use Rattle.afr_laws.proofs.Standing.Stores.{share_none_at}
use Rattle.afr_soundness.proofs.Copied.Stores.{recopies, recopies_alters}

-- ---- lists

abbrev pub AllAsks : (Ask → Type 0) → List Ask → Type 0
AllAsks P [] = Unit {0}
AllAsks P (ask ∷ asks) = P ask × AllAsks P asks

pub all_right : (P : Ask → Type 0) (xs ys : List Ask) → AllAsks P (xs ++ ys) → AllAsks P ys
all_right P [] ys h = h
all_right P (x ∷ xs) ys h = all_right P xs ys h.1

pub all_left : (P : Ask → Type 0) (xs ys : List Ask) → AllAsks P (xs ++ ys) → AllAsks P xs
all_left P [] ys h = tt
all_left P (x ∷ xs) ys h = (h.0, all_left P xs ys h.1)

pub each_both : (P Q R : Sender → Ask → Type 0) → ((by : Sender) (ask : Ask) → P by ask → Q by ask → R by ask) → (line : List Input) → EachInput P line → EachInput Q line → EachInput R line
each_both P Q R f [] p q = tt
each_both P Q R f (Asked by ask ∷ is) p q = (f by ask p.0 q.0, each_both P Q R f is p.1 q.1)
each_both P Q R f (Steered control ∷ is) p q = each_both P Q R f is p q

-- of a brick that its transaction still uses, what is on its way is what its stage asked for
flying_asked : (Q : Ask → Type 0) (f : List Ask) (w o c : Bool) → IsFlight f w o c → o ≡ false → (w ≡ true → LastIs Q f) → AllAsks (λ a. is_open_first a ≡ false → Q a) f
flying_asked Q f w o c (NoFlight e) used last = subst (AllAsks (λ a. is_open_first a ≡ false → Q a)) (sym e) tt
flying_asked Q f w o c (OneFlight a e waits current) used last = subst (AllAsks (λ b. is_open_first b ≡ false → Q b)) (sym e) (λ plain. subst (LastIs Q) e (last waits), tt)
flying_asked Q f w o c (OpensFirst a e fd waits current) used last = subst (AllAsks (λ b. is_open_first b ≡ false → Q b)) (sym e) (λ plain. absurd (let no : true ≡ false = plain in cc), (λ plain. subst (LastIs Q) e (last waits), tt))
flying_asked Q f w o c (Strayed a e fd out) used last = apart_bools out used
flying_asked Q f w o c (StrayedThenUnlocks a e fd out waits current) used last = apart_bools out used

flying_waits : (ask : Ask) (f : List Ask) (w o c : Bool) → IsFlight f w o c → o ≡ false → (f ≡ [] → ⊥) → w ≡ true
flying_waits ask f w o c (NoFlight e) used some = absurd (some e)
flying_waits ask f w o c (OneFlight a e waits current) used some = waits
flying_waits ask f w o c (OpensFirst a e fd waits current) used some = waits
flying_waits ask f w o c (Strayed a e fd out) used some = apart_bools out used
flying_waits ask f w o c (StrayedThenUnlocks a e fd out waits current) used some = waits

-- ---- its own requests in the line

module _ (m : State) (k t : ℕ) (P : Ask → Type 0) where
  tail_all : (b : Bool) (ask : Ask) (rest : List Ask) → AllAsks P (if b then ask ∷ rest else rest) → AllAsks P rest
  tail_all true ask rest h = h.1
  tail_all false ask rest h = h

  pub own_each : (line : List Input) → EachInput (IsNumbered m k) line → IsOrdered (m.txns t).graph (m.links k (m.txns t).graph) line → has_control (m.txns t).graph line ≡ false →
      AllAsks P (in_line (is_mine t (m.links k (m.txns t).graph)) line) → EachInput (λ by ask. by.txn ≡ t → P ask) line
  own_each [] n o none h = tt
  own_each (Asked by ask ∷ is) n o none h = (here, own_each is n.1 o.1 none (tail_all (is_mine t (m.links k (m.txns t).graph) by) ask (in_line (is_mine t (m.links k (m.txns t).graph)) is) h)) where
    here : by.txn ≡ t → P ask
    here same =
        let current : is_current (m.links k (m.txns t).graph) by.connection ≡ true = o.0 (n.0.graph ∙ ap (λ i. (m.txns i).graph) same) ∙ ap not none in
        let own : is_mine t (m.links k (m.txns t).graph) by ≡ true = both _ _ (eq-eqb by.txn t same) current in
        (subst (λ b. AllAsks P (if b then ask ∷ in_line (is_mine t (m.links k (m.txns t).graph)) is else in_line (is_mine t (m.links k (m.txns t).graph)) is)) own h).0
  own_each (Steered control ∷ is) n o none h = own_each is n o (neither_right (is_control_of (m.txns t).graph control) (has_control (m.txns t).graph is) none) h

pub behind_locks : (stage : Stage) → is_behind stage ≡ true → is_unlocking stage ≡ false
behind_locks Unlocking h = absurd (let e : false ≡ true = h in cc)
behind_locks other h = refl

-- ---- the line of a brick where it holds its lock

module _ (size : Size) (m : State) (r : IsReached size m) (t k : ℕ) (used : (m.txns t).out k ≡ false) where
  -- what is on its way
  pub all_asked : AllAsks (λ a. is_open_first a ≡ false → IsAskedBy size m.changes (m.txns t).job (m.txns t).stage k a) ((m.txns t).flying k)
  all_asked = flying_asked (IsAskedBy size m.changes (m.txns t).job (m.txns t).stage k) ((m.txns t).flying k) ((m.txns t).waits k) ((m.txns t).out k) _ ((on_their_way size m r).few t k) used (asks_are_of_phases size m r t k)

  pub waits_for : ((m.txns t).flying k ≡ [] → ⊥) → (m.txns t).waits k ≡ true
  waits_for some = flying_waits OpenFirst ((m.txns t).flying k) ((m.txns t).waits k) ((m.txns t).out k) _ ((on_their_way size m r).few t k) used some

  module _ (behind : is_behind (m.txns t).stage ≡ true) (granted : open_grants m t k ≡ true) (cell : Cell) (covers : has_cell (cells_of_work m.changes (m.txns t) (m.txns t).work) cell ≡ true) where
    open_one : HasOpen m t k
    open_one = has_open m t k granted

    held : IsGranted m k (lock_of t (m.txns t).graph open_one.grant)
    held = HandedIn t open_one.grant (record { granted = open_one.granted; still_open = open_one.current; holding = behind_locks (m.txns t).stage behind }) refl

    own_asked : EachInput (λ by ask. by.txn ≡ t → is_open_first ask ≡ false → IsAskedBy size m.changes (m.txns t).job (m.txns t).stage k ask) (m.bricks k).line
    own_asked =
        own_each m k t (λ a. is_open_first a ≡ false → IsAskedBy size m.changes (m.txns t).job (m.txns t).stage k a) (m.bricks k).line ((on_their_way size m r).numbered k).line
        (connects_come_first size m r k (m.txns t).graph (both_left _ _ open_one.current)).line
        (grants_stand size m r k (lock_of t (m.txns t).graph open_one.grant) held).behind
        (all_right (λ a. is_open_first a ≡ false → IsAskedBy size m.changes (m.txns t).job (m.txns t).stage k a) (in_locks mine (m.bricks k).waiting) (in_line mine (m.bricks k).line)
        (all_right (λ a. is_open_first a ≡ false → IsAskedBy size m.changes (m.txns t).job (m.txns t).stage k a) (in_outputs mine (m.bricks k).outputs) (in_locks mine (m.bricks k).waiting ++ in_line mine (m.bricks k).line)
        (subst (AllAsks (λ a. is_open_first a ≡ false → IsAskedBy size m.changes (m.txns t).job (m.txns t).stage k a)) (sym ((on_their_way size m r).known t k)) all_asked))) where
          mine : Sender → Bool
          mine = is_mine t (m.links k (m.txns t).graph)

    recopied_plain : (ask : Ask) → recopies ask cell ≡ true → is_open_first ask ≡ false
    recopied_plain OpenFirst h = absurd (let e : false ≡ true = h in cc)
    recopied_plain other h = refl

    -- whatever changes the copy of the cell is what its stage asked for
    pub recopied_by_own : EachInput (λ by ask. recopies ask cell ≡ true → IsAskedBy size m.changes (m.txns t).job (m.txns t).stage k ask) (m.bricks k).line
    recopied_by_own =
        each_both (IsApartFrom (lock_of t (m.txns t).graph open_one.grant)) (λ by ask. by.txn ≡ t → is_open_first ask ≡ false → IsAskedBy size m.changes (m.txns t).job (m.txns t).stage k ask)
        (λ by ask. recopies ask cell ≡ true → IsAskedBy size m.changes (m.txns t).job (m.txns t).stage k ask) by_owner (m.bricks k).line (granted_alone size m r k (lock_of t (m.txns t).graph open_one.grant) held) own_asked where
          over : has_cell open_one.grant.cells cell ≡ true
          over = ap (λ cs. has_cell cs cell) ((works_are_known size m r t).grants k open_one.grant open_one.granted).over ∙ covers

          by_owner : (by : Sender) (ask : Ask) → IsApartFrom (lock_of t (m.txns t).graph open_one.grant) by ask → (by.txn ≡ t → is_open_first ask ≡ false → IsAskedBy size m.changes (m.txns t).job (m.txns t).stage k ask) → recopies ask cell ≡ true → IsAskedBy size m.changes (m.txns t).job (m.txns t).stage k ask
          by_owner by ask apart own h = by_txn (cases_eq by.txn t) where
            by_txn : (by.txn ≡ t) ⊎ (by.txn ≢ t) → IsAskedBy size m.changes (m.txns t).job (m.txns t).stage k ask
            by_txn (inl same) = own same (recopied_plain ask h)
            by_txn (inr other) = let a = recopies_alters ask cell h in apart_bools a.1 (share_none_at open_one.grant.cells (cells_asked ask) cell (apart a.0 other) over)
