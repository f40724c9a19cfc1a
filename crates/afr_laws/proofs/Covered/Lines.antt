-- The lines of bricks are covered, over every list of steps.
use Rattle.std.proofs.Common.{◌≡◌, ◌∙◌, ℕ, Bool, true, false, refl, sym, ap, subst, ◌⊎◌, inl, inr}
use Rattle.std.specs.Prelude.{List, [], ◌∷◌, ◌++◌, ◌==◌}
use Rattle.std.proofs.lemmas.Bool.{eqb-true, ne_eqb}
use Rattle.afr_machine.specs.Replicas.{Size}
use Rattle.afr_machine.specs.Touching.{has_cell}
use Rattle.afr_machine.specs.Requests.{Sender, Ask, Control, Input}
use Rattle.afr_machine.specs.Requests.Ask.{Unlock, OpenFirst}
use Rattle.afr_machine.specs.Requests.Input.{Asked, Steered}
use Rattle.afr_machine.specs.Locks.{BrickLock}
use Rattle.afr_machine.specs.Bricks.{Brick, served_by, steered}
use Rattle.afr_machine.specs.States.{State}
use Rattle.afr_machine.specs.Births.{cells_of_work}
use Rattle.afr_machine.specs.Sending.{HasGrant, MayAsk, carries_fd, asks_of, inputs_of, sender_of}
use Rattle.afr_machine.specs.Steps.{Step, Allowed, after, IsReached}
use Rattle.afr_machine.specs.Moves.{IsTaken, BrickMove}
use Rattle.afr_machine.specs.Moves.BrickMove.{Stays, Takes, Hands, Serves, Refuses, GivesUp, Steers}
use Rattle.afr_machine.proofs.BrickMoves.{bricks_move}
use Rattle.afr_laws.specs.Senders.{EachInput}
use Rattle.afr_laws.specs.Flights.{AreOnTheirWay}
use Rattle.afr_laws.specs.Connections.{is_control_of, has_control, ConnectsComeFirst}
use Rattle.afr_laws.specs.Grants.{lock_of}
use Rattle.afr_laws.specs.Apart.{Holds}
use Rattle.afr_laws.specs.Apart.IsGranted.{HandedIn}
use Rattle.afr_laws.specs.OwnChanges.{ChangesAreOwn}
use Rattle.afr_laws.specs.Fresh.{EachKnowsPhase}
use Rattle.afr_laws.specs.Work.{shares_of, IsOfWork, EachKnowsWork}
use Rattle.afr_laws.specs.Covered.{Stands, GrantsStand, needs_lock, HasLock, IsWithin, IsCovered, IsOfOtherTxn, IsOfOtherGraph, IsInTurn, LineIsCovered, LinesAreCovered}
use Rattle.afr_laws.proofs.Bools.{both_left, both_right, neither_left, neither_right, is_or_not, apart_bools}
use Rattle.afr_laws.proofs.Senders.{inputs_append}
use Rattle.afr_laws.proofs.Connecting.{served_line, steered_line}
use Rattle.afr_laws.proofs.ConnectsFirst.{connects_come_first}
use Rattle.afr_laws.proofs.Flying.{on_their_way}
use Rattle.afr_laws.proofs.Holding.{drops}
use Rattle.afr_laws.proofs.Unlocks.{is_unlock, unlock_is}
use Rattle.afr_laws.proofs.Covered.Kept.{served_among, served_connected, steered_among, steered_connected}
use Rattle.afr_laws.proofs.Covered.Granted.{grants_stand}
use Rattle.afr_laws.proofs.OwnChanges.Steps.{changes_are_own}
use Rattle.afr_laws.proofs.Fresh.Known.{phases_are_known}
use Rattle.afr_laws.proofs.Work.Known.{works_are_known}
use Rattle.afr_laws.proofs.Covered.Asked.{IsOnWork, sent_on}
use Rattle.afr_laws.proofs.Covered.Sent.{IsSentUnder, sent_under, fd_needs, IsOtherUnlock, no_unlocks}

-- ---- lists

pub zip : (P Q R : Sender → Ask → Type 0) → ((by : Sender) (ask : Ask) → P by ask → Q by ask → R by ask) → (is : List Input) → EachInput P is → EachInput Q is → EachInput R is
zip P Q R f [] p q = tt
zip P Q R f (Asked by ask ∷ is) p q = (f by ask p.0 q.0, zip P Q R f is p.1 q.1)
zip P Q R f (Steered control ∷ is) p q = zip P Q R f is p q

all_of : (P : Sender → Ask → Type 0) (by : Sender) (asks : List Ask) → ((ask : Ask) → P by ask) → EachInput P (inputs_of by asks)
all_of P by [] f = tt
all_of P by (ask ∷ asks) f = (f ask, all_of P by asks f)

-- the open before a request, and the request
asks_each : (P : Sender → Ask → Type 0) (by : Sender) (first : Bool) (ask : Ask) → (first ≡ true → P by OpenFirst) → P by ask → EachInput P (inputs_of by (asks_of first ask))
asks_each P by true ask opens p = (opens refl, (p, tt))
asks_each P by false ask opens p = (p, tt)

pub everywhere : (P : Sender → Ask → Type 0) → ((by : Sender) (ask : Ask) → P by ask) → (is : List Input) → EachInput P is
everywhere P f [] = tt
everywhere P f (Asked by ask ∷ is) = (f by ask, everywhere P f is)
everywhere P f (Steered control ∷ is) = everywhere P f is

-- inputs that need no lock, at the end of a line
free_in_turn : (xs ys : List Input) → ((t : ℕ) → EachInput (IsOfOtherTxn t) ys) → ((own : ℕ → Bool) → EachInput (IsOfOtherGraph own) ys) → IsInTurn ys → IsInTurn xs → IsInTurn (xs ++ ys)
free_in_turn [] ys txns graphs q p = q
free_in_turn (Asked by ask ∷ xs) ys txns graphs q p = (λ is. inputs_append (IsOfOtherTxn by.txn) xs ys (p.0 is) (txns by.txn), free_in_turn xs ys txns graphs q p.1)
free_in_turn (Steered control ∷ xs) ys txns graphs q p = (inputs_append (IsOfOtherGraph (λ g. is_control_of g control)) xs ys p.0 (graphs (λ g. is_control_of g control)), free_in_turn xs ys txns graphs q p.1)

-- requests of one sender, with neither an unlock of its transaction nor a control of its graph before them
sent_in_turn : (by : Sender) (asks : List Ask) (xs : List Input) → EachInput (IsOtherUnlock by.txn) xs → has_control by.graph xs ≡ false → IsInTurn (inputs_of by asks) → IsInTurn xs → IsInTurn (xs ++ inputs_of by asks)
sent_in_turn by asks [] others none q p = q
sent_in_turn by asks (Asked other ask ∷ xs) others none q p =
    (λ is. inputs_append (IsOfOtherTxn other.txn) xs (inputs_of by asks) (p.0 is) (all_of (IsOfOtherTxn other.txn) by asks (λ a needs same. others.0 is (sym same))), sent_in_turn by asks xs others.1 none q p.1)
sent_in_turn by asks (Steered control ∷ xs) others none q p = (
  inputs_append (IsOfOtherGraph (λ g. is_control_of g control)) xs (inputs_of by asks) p.0 (all_of (IsOfOtherGraph (λ g. is_control_of g control)) by asks (λ a needs. neither_left (is_control_of by.graph control) (has_control by.graph xs) none)),
  sent_in_turn by asks xs others (neither_right (is_control_of by.graph control) (has_control by.graph xs) none) q p.1,
)

asks_in_turn : (by : Sender) (first : Bool) (ask : Ask) → IsInTurn (inputs_of by (asks_of first ask))
asks_in_turn by true ask = (λ e. absurd (let no : OpenFirst ≡ Unlock = e in cc), (λ e. tt, tt))
asks_in_turn by false ask = (λ e. tt, tt)

-- ---- one move of the brick

other_drops : (ask : Ask) (by : Sender) (lock : BrickLock) → is_unlock ask ≡ false → drops ask by lock ≡ false
other_drops Unlock by lock differs = absurd cc
other_drops other by lock differs = refl

-- serving the request drops no lock of this sender, if it needs one
abbrev IsSpared : Sender → Ask → Sender → Ask → Type 0
IsSpared by ask other asked = needs_lock asked ≡ true → (lock : BrickLock) → lock.by ≡ other → drops ask by lock ≡ false

spared : (by : Sender) (ask : Ask) (rest : List Input) → (ask ≡ Unlock → EachInput (IsOfOtherTxn by.txn) rest) → EachInput (IsSpared by ask) rest
spared by ask rest others = by_case (is_or_not (is_unlock ask)) where
  unlocks : ask ≡ Unlock → (other : Sender) (asked : Ask) → IsOfOtherTxn by.txn other asked → IsSpared by ask other asked
  unlocks is other asked apart needs lock owner = ap (λ a. drops a by lock) is ∙ ne_eqb lock.by.txn by.txn (λ same. apart needs (ap (λ (s : Sender). s.txn) (sym owner) ∙ same))

  by_case : (is_unlock ask ≡ true) ⊎ (is_unlock ask ≡ false) → EachInput (IsSpared by ask) rest
  by_case (inl same) = let is : ask ≡ Unlock = unlock_is ask same in
      zip (IsOfOtherTxn by.txn) (IsOfOtherTxn by.txn) (IsSpared by ask) (λ other asked p q. unlocks is other asked p) rest (others is) (others is)
  by_case (inr differs) = everywhere (IsSpared by ask) (λ other asked needs lock owner. other_drops ask by lock differs) rest

module _ (may : List Input → Type 0) (old new : Brick) (c : LineIsCovered old) (taken : (inputs : List Input) → may inputs → EachInput (IsCovered old) inputs × IsInTurn (old.line ++ inputs)) where
  served : (by : Sender) (ask : Ask) (rest : List Input) → old.line ≡ Asked by ask ∷ rest → LineIsCovered (served_by old.power by ask (record old { line = rest }))
  served by ask rest front =
      let b : Brick = record old { line = rest } in
      let line_is : (served_by old.power by ask (record old { line = rest })).line ≡ rest = served_line old.power by ask (record old { line = rest }) in
      let turn : IsInTurn (Asked by ask ∷ rest) = subst IsInTurn front c.in_turn in
      let covers : EachInput (IsCovered old) (Asked by ask ∷ rest) = subst (EachInput (IsCovered old)) front c.covered in
      record {
        covered = subst (EachInput (IsCovered (served_by old.power by ask (record old { line = rest })))) (sym line_is)
            (zip (IsCovered old) (IsSpared by ask) (IsCovered (served_by old.power by ask (record old { line = rest }))) kept rest covers.1 (spared by ask rest turn.0));
        in_turn = subst IsInTurn (sym line_is) turn.1;
      }
    where
      kept : (other : Sender) (asked : Ask) → IsCovered old other asked → IsSpared by ask other asked → IsCovered (served_by old.power by ask (record old { line = rest })) other asked
      kept other asked covers spares needs connected =
          let h : IsWithin old.held other asked = covers needs (sym (ap (λ (f : ℕ → Bool). f other.graph) (served_connected (record old { line = rest }) old.power by ask)) ∙ connected) in
          record { own = record { lock = h.own.lock; among = served_among h.own.lock (record old { line = rest }) h.own.among old.power by ask (spares needs h.own.lock h.own.owner); owner = h.own.owner }; within = h.within; exclusive = h.exclusive }

  steers : (control : Control) (rest : List Input) → old.line ≡ Steered control ∷ rest → LineIsCovered (steered control (record old { line = rest }))
  steers control rest front =
      let line_is : (steered control (record old { line = rest })).line ≡ rest = steered_line control (record old { line = rest }) in
      let turn : IsInTurn (Steered control ∷ rest) = subst IsInTurn front c.in_turn in
      let covers : EachInput (IsCovered old) rest = subst (EachInput (IsCovered old)) front c.covered in
      record {
        covered = subst (EachInput (IsCovered (steered control (record old { line = rest })))) (sym line_is)
            (zip (IsCovered old) (IsOfOtherGraph (λ g. is_control_of g control)) (IsCovered (steered control (record old { line = rest }))) kept rest covers turn.0);
        in_turn = subst IsInTurn (sym line_is) turn.1;
      }
    where
      kept : (other : Sender) (asked : Ask) → IsCovered old other asked → IsOfOtherGraph (λ g. is_control_of g control) other asked → IsCovered (steered control (record old { line = rest })) other asked
      kept other asked covers apart needs connected =
          let h : IsWithin old.held other asked = covers needs (steered_connected (record old { line = rest }) other.graph control (apart needs) connected) in
          let graph : h.own.lock.by.graph ≡ other.graph = ap (λ (s : Sender). s.graph) h.own.owner in
          record {
            own = record {
              lock = h.own.lock;
              among = steered_among h.own.lock (record old { line = rest }) h.own.among control (ap (λ g. is_control_of g control) graph ∙ apart needs) (ap (λ g. (steered control (record old { line = rest })).connected g) graph ∙ connected);
              owner = h.own.owner;
            };
            within = h.within;
            exclusive = h.exclusive;
          }

  popped : (by : Sender) (ask : Ask) (rest : List Input) → old.line ≡ Asked by ask ∷ rest → EachInput (IsCovered old) rest × IsInTurn rest
  popped by ask rest front = ((subst (EachInput (IsCovered old)) front c.covered).1, (subst IsInTurn front c.in_turn).1)

  pub move_covers : BrickMove may old new → LineIsCovered new
  move_covers (Stays is) = subst LineIsCovered (sym is) c
  move_covers (Takes inputs its is) = let t = taken inputs its in
      subst LineIsCovered (sym is) (record { covered = inputs_append (IsCovered old) old.line inputs c.covered t.0; in_turn = t.1 })
  move_covers (Hands first rest front is) = subst LineIsCovered (sym is) (record { covered = c.covered; in_turn = c.in_turn })
  move_covers (Serves by ask rest front would is) = subst LineIsCovered (sym is) (served by ask rest front)
  move_covers (Refuses by ask answer rest front may refusal is) = let p = popped by ask rest front in subst LineIsCovered (sym is) (record { covered = p.0; in_turn = p.1 })
  move_covers (GivesUp by ask rest front would is) = let p = popped by ask rest front in subst LineIsCovered (sym is) (record { covered = p.0; in_turn = p.1 })
  move_covers (Steers control rest front is) = subst LineIsCovered (sym is) (steers control rest front)

-- ---- what a brick takes

module _ (size : Size) (m : State) (way : AreOnTheirWay m) (first : ConnectsComeFirst m) (stands : GrantsStand m) (works : EachKnowsWork m) (phases : EachKnowsPhase m) (changes : ChangesAreOwn m) (c : LinesAreCovered m) (k : ℕ) where
  Taken : List Input → Type 0
  Taken inputs = EachInput (IsCovered (m.bricks k)) inputs × IsInTurn ((m.bricks k).line ++ inputs)

  control_taken : (control : Control) (inputs : List Input) → inputs ≡ Steered control ∷ [] → EachInput (IsCovered (m.bricks k)) inputs × IsInTurn ((m.bricks k).line ++ inputs)
  control_taken control inputs is =
      subst (λ l. EachInput (IsCovered (m.bricks k)) l × IsInTurn ((m.bricks k).line ++ l)) (sym is)
      (tt, free_in_turn (m.bricks k).line (Steered control ∷ []) (λ t. tt) (λ own. tt) (tt, tt) (c k).in_turn)

  under_taken : (t : ℕ) (before : Bool) (ask : Ask) → IsSentUnder m t k → IsOnWork m t ask → EachInput (IsCovered (m.bricks k)) (inputs_of (sender_of m t k) (asks_of before ask)) × IsInTurn ((m.bricks k).line ++ inputs_of (sender_of m t k) (asks_of before ask))
  under_taken t before ask s on = (
    asks_each (IsCovered (m.bricks k)) (sender_of m t k) before ask
        (λ opens needs connected. record { own = own connected; within = λ cell none. absurd cc; exclusive = λ alter. absurd cc })
        (λ needs connected. record { own = own connected; within = λ cell asked. ap (λ cs. has_cell cs cell) (of_work s.grant).over ∙ on.over cell asked; exclusive = λ alter. (of_work s.grant).kind ∙ on.alone alter }),
    sent_in_turn (sender_of m t k) (asks_of before ask) (m.bricks k).line
        (no_unlocks m k t way (first k (m.txns t).graph (both_left _ _ s.grant.still_open)).line stand.behind s.answered) stand.behind (asks_in_turn (sender_of m t k) before ask) (c k).in_turn,
  )
    where
      of_work : (g : HasGrant m t k) → IsOfWork (cells_of_work m.changes (m.txns t) (m.txns t).work) (shares_of (m.txns t).job (m.txns t).work) g.grant
      of_work g = (works t).grants k g.grant g.granted

      holds : Holds m t k s.grant.grant
      holds = record { granted = s.grant.granted; still_open = s.grant.still_open; holding = s.holding }

      stand : Stands m k (lock_of t (m.txns t).graph s.grant.grant)
      stand = stands k (lock_of t (m.txns t).graph s.grant.grant) (HandedIn t s.grant.grant holds refl)

      owner : (lock_of t (m.txns t).graph s.grant.grant).by ≡ sender_of m t k
      owner = ap (λ n. record { txn = t; graph = (m.txns t).graph; connection = n }) (eqb-true s.grant.grant.connection (m.links k (m.txns t).graph).last (both_right (m.links k (m.txns t).graph).is_open (s.grant.grant.connection == (m.links k (m.txns t).graph).last) s.grant.still_open))

      own : (m.bricks k).connected (m.txns t).graph ≡ true → HasLock (m.bricks k).held (sender_of m t k)
      own connected = record { lock = lock_of t (m.txns t).graph s.grant.grant; among = stand.held connected; owner = owner }

  asks_taken : (t : ℕ) (before : Bool) (ask : Ask) → MayAsk size m t k ask → (before ≡ true → carries_fd ask ≡ true) → EachInput (IsCovered (m.bricks k)) (inputs_of (sender_of m t k) (asks_of before ask)) × IsInTurn ((m.bricks k).line ++ inputs_of (sender_of m t k) (asks_of before ask))
  asks_taken t before ask may fd = by_case (is_or_not (needs_lock ask)) where
    free : (first : Bool) → (first ≡ true → carries_fd ask ≡ true) → needs_lock ask ≡ false → EachInput (IsCovered (m.bricks k)) (inputs_of (sender_of m t k) (asks_of first ask)) × IsInTurn ((m.bricks k).line ++ inputs_of (sender_of m t k) (asks_of first ask))
    free true carries lacks = apart_bools (fd_needs ask (carries refl)) lacks
    free false carries lacks = (
      (λ needs. apart_bools needs lacks, tt),
      free_in_turn (m.bricks k).line (Asked (sender_of m t k) ask ∷ []) (λ n. (λ needs. apart_bools needs lacks, tt)) (λ own. (λ needs. apart_bools needs lacks, tt)) (λ e. tt, tt) (c k).in_turn,
    )

    by_case : (needs_lock ask ≡ true) ⊎ (needs_lock ask ≡ false) → EachInput (IsCovered (m.bricks k)) (inputs_of (sender_of m t k) (asks_of before ask)) × IsInTurn ((m.bricks k).line ++ inputs_of (sender_of m t k) (asks_of before ask))
    by_case (inl needs) = under_taken t before ask (sent_under size m t k ask may needs) (sent_on size m t k works phases changes ask may)
    by_case (inr lacks) = free before fd lacks

  taken_covers : (step : Step) → Allowed size m step → (inputs : List Input) → IsTaken m step k inputs → EachInput (IsCovered (m.bricks k)) inputs × IsInTurn ((m.bricks k).line ++ inputs)
  taken_covers (Step.Asks t j before ask) h inputs taken =
      let may : MayAsk size m t k ask = subst (λ n. MayAsk size m t n ask) (sym taken.0) h.0 in
      let is : inputs ≡ inputs_of (sender_of m t k) (asks_of before ask) = taken.1 ∙ ap (λ n. inputs_of (sender_of m t n) (asks_of before ask)) (sym taken.0) in
      subst (λ l. EachInput (IsCovered (m.bricks k)) l × IsInTurn ((m.bricks k).line ++ l)) (sym is) (asks_taken t before ask may h.1)
  taken_covers (Step.Controls j steering) h inputs taken = control_taken steering inputs taken.1
  taken_covers (Step.Connects j g) h inputs taken = control_taken (Control.Connect g) inputs taken.1
  taken_covers (Step.Cuts j g) h inputs taken = control_taken (Control.Disconnect g) inputs taken.1
  taken_covers other h inputs taken = absurd taken

-- ---- every list of steps

pub lines_are_covered : (size : Size) (m : State) → IsReached size m → LinesAreCovered m
lines_are_covered size m IsReached.Start = λ k. record { covered = tt; in_turn = tt }
lines_are_covered size m (IsReached.Further old step reached allowed) = λ k.
    let c = lines_are_covered size old reached in
    move_covers (IsTaken old step k) (old.bricks k) ((after size old step).bricks k) (c k)
    (taken_covers size old (on_their_way size old reached) (connects_come_first size old reached) (grants_stand size old reached) (works_are_known size old reached) (phases_are_known size old reached) (changes_are_own size old reached) c k step allowed)
    (bricks_move size old step allowed k)
