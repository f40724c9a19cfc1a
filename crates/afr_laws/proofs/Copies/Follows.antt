-- What follows from the numbers in copies.
use Rattle.std.proofs.Common.{◌≡◌, ℕ, ◌≤◌, true, false, ap, subst, ◌⊎◌, inl, inr, arith}
use Rattle.std.specs.Prelude.{List, [], ◌∷◌, ◌≢◌, ◌==◌}
use Rattle.std.proofs.lemmas.Bool.{eqb-true}
use Rattle.fop_types.specs.declared.cells.Cell.{Cell}
use Rattle.afr_machine.specs.Touching.{has_cell}
use Rattle.afr_machine.specs.Copies.{has_change}
use Rattle.afr_machine.specs.Requests.{Ask, Input}
use Rattle.afr_machine.specs.Requests.Ask.{Op}
use Rattle.afr_machine.specs.Requests.Input.{Asked, Steered}
use Rattle.afr_machine.specs.Changes.{is_unsettled}
use Rattle.afr_machine.specs.Transactions.Stage.{Marking}
use Rattle.afr_machine.specs.States.{State}
use Rattle.afr_laws.specs.Senders.{EachInput}
use Rattle.afr_laws.specs.OwnChanges.{was_unsettled, IsOwnStage, ChangesAreOwn}
use Rattle.afr_laws.specs.Newest.{NumbersRise}
use Rattle.afr_laws.specs.Copies.{AreChangesOf, AreUpTo, IsLast, IsCopyOf, Carries, IsBelowAsk, CopiesAreOfChanges}
use Rattle.afr_laws.specs.Copies.IsLast.{NoneYet, Greatest}
use Rattle.afr_laws.specs.Numbers.{applied, last_at, MarkedIsNewest, LastIsGreatest, LastTellsOf, LastTells, IsNextAt, EveryStateKeepsNumbers}
use Rattle.afr_laws.proofs.Bools.{either_way, is_or_not, apart_bools}
use Rattle.afr_laws.proofs.OwnChanges.Steps.{changes_are_own}
use Rattle.afr_laws.proofs.Newest.Steps.{numbers_rise}
use Rattle.afr_laws.proofs.Copies.Asks.{share_at}
use Rattle.afr_laws.proofs.Copies.Stores.{up_to_all}
use Rattle.afr_laws.proofs.Copies.Lines.{change_in}
use Rattle.afr_laws.proofs.Copies.Steps.{copies_are_of_changes}

-- one of a list that is up to a number
up_to_each : (last : ℕ) (us : List ℕ) (v : ℕ) → AreUpTo last us → has_change us v ≡ true → v ≤ last
up_to_each last [] v p h = absurd cc
up_to_each last (u ∷ us) v p h = by_case (up_to_each last us v p.1) (either_way (v == u) (has_change us v) h) where
  by_case : (has_change us v ≡ true → v ≤ last) → ((v == u) ≡ true) ⊎ (has_change us v ≡ true) → v ≤ last
  by_case more (inl same) = omega (arith, p.0, eqb-true v u same)
  by_case more (inr other) = more other

has_none : (us : List ℕ) (v : ℕ) → us ≡ [] → has_change us v ≡ true → ⊥
has_none us v none h = apart_bools h (ap (λ xs. has_change xs v) none)

module _ (m : State) (a : ChangesAreOwn m) (r : NumbersRise m) (c : CopiesAreOfChanges m) where
  copy_at : (k : ℕ) (cell : Cell) → IsCopyOf m.changes cell (applied m k cell) (last_at m k cell)
  copy_at k cell = (c.bricks k).stored cell

  -- ---- a number that is being marked

  marked_new : (t u : ℕ) → (m.txns t).stage ≡ Marking u → (1 ≤ u) × (was_unsettled (m.changes u).verdict ≡ false)
  marked_new t u is = let s = subst (IsOwnStage m.changes (m.txns t).own) is (a.own t).stage in (s.1.0, ap was_unsettled s.1.1)

  marked : MarkedIsNewest m
  marked t u k cell is = (not_in (is_or_not (has_change (applied m k cell) u)), not_last (copy_at k cell).last_was) where
    new : (1 ≤ u) × (was_unsettled (m.changes u).verdict ≡ false)
    new = marked_new t u is

    not_in : (has_change (applied m k cell) u ≡ true) ⊎ (has_change (applied m k cell) u ≡ false) → has_change (applied m k cell) u ≡ false
    not_in (inl there) = apart_bools (change_in m.changes cell (applied m k cell) u (copy_at k cell).changes_are there).sent new.1
    not_in (inr absent) = absent

    not_last : (last_at m k cell ≡ 0) ⊎ (was_unsettled (m.changes (last_at m k cell)).verdict ≡ true) → last_at m k cell ≢ u
    not_last (inl zero) = λ same. absurd (omega (arith, zero, same, new.0))
    not_last (inr sent) = λ same. apart_bools (subst (λ n. was_unsettled (m.changes n).verdict ≡ true) same sent) new.1

  -- ---- the last change

  greatest_of : (cell : Cell) (last : ℕ) (us : List ℕ) → us ≢ [] → IsLast m.changes cell last us → (has_change us last ≡ true) × AreUpTo last us
  greatest_of cell last us some (NoneYet none untouched) = absurd (some none)
  greatest_of cell last us some (Greatest there most) = (there, most)

  greatest : LastIsGreatest m
  greatest k cell some = greatest_of cell (last_at m k cell) (applied m k cell) some (copy_at k cell).last_is

  -- ---- an unsettled change

  module _ (u : ℕ) (cell : Cell) (is : is_unsettled (m.changes u).verdict ≡ true) (touches : has_cell (m.changes u).cells cell ≡ true) where
    all_up_to : (us : List ℕ) → AreChangesOf m.changes cell us → AreUpTo u us
    all_up_to [] p = tt
    all_up_to (v ∷ vs) p = (r.unsettled u v is p.0.sent (share_at (m.changes v).cells (m.changes u).cells cell p.0.touches touches), all_up_to vs p.1)

    said_there : (last : ℕ) (us : List ℕ) → IsLast m.changes cell last us → last ≡ u → has_change us u ≡ true
    said_there last us (NoneYet none untouched) same = apart_bools touches (subst (λ n. has_cell (m.changes n).cells cell ≡ false) same untouched)
    said_there last us (Greatest there most) same = subst (λ n. has_change us n ≡ true) same there

    there_said : (last : ℕ) (us : List ℕ) → IsLast m.changes cell last us → AreUpTo u us → has_change us u ≡ true → last ≡ u
    there_said last us (NoneYet none untouched) newest h = absurd (has_none us u none h)
    there_said last us (Greatest there most) newest h = omega (arith, up_to_each last us u most h, up_to_each u us last newest there)

    tells_of : (k : ℕ) → LastTellsOf m u k cell
    tells_of k =
        let n = copy_at k cell in
        let newest = all_up_to (applied m k cell) n.changes_are in
        record { newest = newest; tells = (said_there (last_at m k cell) (applied m k cell) n.last_is, there_said (last_at m k cell) (applied m k cell) n.last_is newest) }

  tells : LastTells m
  tells u k cell is touches = tells_of u cell is touches k

-- ---- ops in a line

module _ (m : State) (k : ℕ) where
  next_ask : (ask : Ask) → Carries m.changes ask → ((cell : Cell) (v : ℕ) → has_change (applied m k cell) v ≡ true → IsBelowAsk v cell ask) → IsNextAt m k ask
  next_ask (Op u op) c below = record { of_change = c; next = λ cell need. up_to_all u (applied m k cell) (λ v had. below cell v had need) }
  next_ask other c below = tt

  next_each : (line : List Input) → EachInput (λ by ask. Carries m.changes ask) line → ((cell : Cell) (v : ℕ) → has_change (applied m k cell) v ≡ true → EachInput (λ by ask. IsBelowAsk v cell ask) line) → EachInput (λ by ask. IsNextAt m k ask) line
  next_each [] c below = tt
  next_each (Asked by ask ∷ is) c below = (next_ask ask c.0 (λ cell v had. (below cell v had).0), next_each is c.1 (λ cell v had. (below cell v had).1))
  next_each (Steered control ∷ is) c below = next_each is c below

pub keeps_numbers : EveryStateKeepsNumbers
keeps_numbers size m reached =
    let a = changes_are_own size m reached in
    let r = numbers_rise size m reached in
    let c = copies_are_of_changes size m reached in
    record { own = a; rise = r; copies = c; marked = marked m a r c; greatest = greatest m a r c; tells = tells m a r c; next = λ k. let b = c.bricks k in (next_each m k (m.bricks k).line b.line b.below, b.rises) }
