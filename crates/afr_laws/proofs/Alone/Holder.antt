-- Who holds a lock writes alone: other requests that need a lock are of senders whose locks are held beside it.
use Rattle.std.proofs.Common.{◌≡◌, ◌∙◌, ℕ, Bool, true, false, refl, sym, ap, ◌⊎◌, inl, inr}
use Rattle.std.specs.Prelude.{List, [], ◌∷◌, ◌≢◌, ◌&&◌, not}
use Rattle.fop_types.specs.declared.cells.Cell.{Cell}
use Rattle.afr_machine.specs.Replicas.{Size}
use Rattle.afr_machine.specs.Touching.{has_cell, share}
use Rattle.afr_machine.specs.Requests.{Sender, Ask, Input}
use Rattle.afr_machine.specs.Requests.Ask.{Mark, Op, Post, Replace, Clear, Settle}
use Rattle.afr_machine.specs.Requests.Input.{Asked, Steered}
use Rattle.afr_machine.specs.Locks.{BrickLock}
use Rattle.afr_machine.specs.Bricks.{Brick}
use Rattle.afr_machine.specs.States.{State, Link}
use Rattle.afr_machine.specs.Steps.{IsReached}
use Rattle.afr_laws.specs.Senders.{EachInput}
use Rattle.afr_laws.specs.Locks.{AreApartFrom}
use Rattle.afr_laws.specs.Connections.{is_control_of, has_control, ConnectsFirst}
use Rattle.afr_laws.specs.Grants.{IsAmong, has_closed}
use Rattle.afr_laws.specs.Covered.{needs_lock, IsCovered, cells_asked, alters, IsWithin}
use Rattle.afr_laws.specs.Alone.{IsLate, IsHeldBeside, IsApartFrom, HolderIsAlone, HolderWritesAlone, KeepsHoldersAlone}
use Rattle.afr_laws.proofs.Bools.{both_left, is_or_not, apart_bools, neither, neither_left, neither_right}
use Rattle.afr_laws.proofs.HeldApart.{held_apart}
use Rattle.afr_laws.proofs.ConnectsFirst.{connects_come_first}
use Rattle.afr_laws.proofs.Unlocks.{controlled_closes}
use Rattle.afr_laws.proofs.Apart.Pairs.{two_apart}
use Rattle.afr_laws.proofs.Covered.Lines.{lines_are_covered}
use Rattle.afr_laws.proofs.Alone.Connected.{locks_are_connected}
use Rattle.afr_laws.proofs.Connecting.{or_true}
use Rattle.afr_laws.proofs.Alone.Steps.{requests_are_late}

module _ (b : Brick) (links : ℕ → Link) (lock : BrickLock) (among : IsAmong lock b.held) (is_open : (links lock.by.graph).is_open ≡ true) (none : has_closed b.outputs ≡ false)
    (apart : AreApartFrom [] b.held) (stop : has_control lock.by.graph b.line ≡ true → ⊥) where
  -- the other's lock, where its graph is connected
  beside : (by : Sender) (ask : Ask) → by.txn ≢ lock.by.txn → IsWithin b.held by ask → IsHeldBeside b.held lock by ask
  beside by ask differs w = record {
    within = w;
    apart = two_apart lock w.own.lock [] b.held apart among w.own.among (λ e. differs (ap (λ (s : Sender). s.txn) (sym w.own.owner) ∙ ap (λ (l : BrickLock). l.by.txn) (sym e)));
  }

  -- by what is in the rest of the line
  alone_in : (is : List Input) → (has_control lock.by.graph is ≡ true → ⊥) → EachInput (IsCovered b) is → IsLate b links is → EachInput (λ by ask. needs_lock ask ≡ true → by.txn ≢ lock.by.txn → IsHeldBeside b.held lock by ask) is
  alone_in [] ends c p = tt
  alone_in (Asked by ask ∷ is) ends c p = (λ needs differs. beside by ask differs (by_case needs (is_or_not (b.connected by.graph))), alone_in is ends c.1 p.1) where
    late : (has_closed b.outputs ≡ true) ⊎ ((g : ℕ) → (links g).is_open ≡ true → has_control g is ≡ true) → IsWithin b.held by ask
    late (inl closing) = apart_bools closing none
    late (inr behind) = absurd (ends (behind lock.by.graph is_open))

    by_case : needs_lock ask ≡ true → (b.connected by.graph ≡ true) ⊎ (b.connected by.graph ≡ false) → IsWithin b.held by ask
    by_case needs (inl connected) = c.0 needs connected
    by_case needs (inr lost) = late (p.0 needs lost)
  alone_in (Steered control ∷ is) ends c p = alone_in is (λ has. ends (or_true (is_control_of lock.by.graph control) (has_control lock.by.graph is) has)) c p

pub holders_are_alone : (size : Size) (m : State) → IsReached size m → HolderIsAlone m
holders_are_alone size m reached k lock among current none =
    let is_open : (m.links k lock.by.graph).is_open ≡ true = both_left _ _ current in
    let first : ConnectsFirst lock.by.graph (m.links k lock.by.graph) (m.bricks k) = connects_come_first size m reached k lock.by.graph is_open in
    let stop : has_control lock.by.graph (m.bricks k).line ≡ true → ⊥ = λ has. apart_bools (controlled_closes lock.by.graph (m.links k lock.by.graph) (m.bricks k) first lock refl current has (inl among)) none in
    alone_in (m.bricks k) (m.links k) lock among is_open none (held_apart size m reached k) stop (m.bricks k).line stop (lines_are_covered size m reached k).covered (requests_are_late size m reached k)

-- ---- requests that alter copies or counters

pub alters_needs : (ask : Ask) → alters ask ≡ true → needs_lock ask ≡ true
alters_needs (Mark change cells) h = refl
alters_needs (Op change op) h = refl
alters_needs (Post change cells accused) h = refl
alters_needs (Replace cell found) h = refl
alters_needs (Clear cells who) h = refl
alters_needs (Settle change cells accused) h = refl
alters_needs other h = absurd cc

-- no cell in common with a list is none with a part of it
pub part_apart : (cells whole part : List Cell) → ((cell : Cell) → has_cell part cell ≡ true → has_cell whole cell ≡ true) → share cells whole ≡ false → share cells part ≡ false
part_apart [] whole part within none = refl
part_apart (c ∷ cs) whole part within none =
    neither (has_cell part c) (share cs part) (by_case (is_or_not (has_cell part c))) (part_apart cs whole part within (neither_right (has_cell whole c) (share cs whole) none)) where
      by_case : (has_cell part c ≡ true) ⊎ (has_cell part c ≡ false) → has_cell part c ≡ false
      by_case (inl has) = apart_bools (within c has) (neither_left (has_cell whole c) (share cs whole) none)
      by_case (inr lacks) = lacks

-- locks that do not conflict have no cell in common where the other is exclusive
pub exclusive_apart : (s a b : Bool) → (s && not (a && b)) ≡ false → b ≡ false → s ≡ false
exclusive_apart false a b e alone = refl
exclusive_apart true true true e alone = alone
exclusive_apart true true false e alone = e
exclusive_apart true false b e alone = e

writes_in : (held : List BrickLock) (lock : BrickLock) (is : List Input) → EachInput (λ by ask. needs_lock ask ≡ true → by.txn ≢ lock.by.txn → IsHeldBeside held lock by ask) is →
    EachInput (IsApartFrom lock) is
writes_in held lock [] p = tt
writes_in held lock (Asked by ask ∷ is) p = (λ alter differs. apart_now (p.0 (alters_needs ask alter) differs) alter, writes_in held lock is p.1) where
  apart_now : IsHeldBeside held lock by ask → alters ask ≡ true → share lock.cells (cells_asked ask) ≡ false
  apart_now h alter =
      part_apart lock.cells h.within.own.lock.cells (cells_asked ask) h.within.within
      (exclusive_apart (share lock.cells h.within.own.lock.cells) lock.shared h.within.own.lock.shared h.apart (h.within.exclusive alter))
writes_in held lock (Steered control ∷ is) p = writes_in held lock is p

pub holders_write_alone : (size : Size) (m : State) → IsReached size m → HolderWritesAlone m
holders_write_alone size m reached k lock among current none = writes_in (m.bricks k).held lock (m.bricks k).line (holders_are_alone size m reached k lock among current none)

pub holders_alone : (size : Size) (m : State) → IsReached size m → KeepsHoldersAlone m
holders_alone size m reached = record { connected = locks_are_connected size m reached; late = requests_are_late size m reached; alone = holders_are_alone size m reached; writes_alone = holders_write_alone size m reached }
