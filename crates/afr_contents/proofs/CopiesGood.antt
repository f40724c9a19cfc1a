-- Each copy is good, or its replica is accused for good: one step.
use Rattle.std.proofs.Common.{◌≡◌, ◌∙◌, ℕ, ◌<◌, Bool, true, false, refl, sym, ap, subst, ◌⊎◌, inl, inr, Option, Some}
use Rattle.std.specs.Prelude.{List, [], ◌∷◌, ◌||◌}
use Rattle.fop_types.specs.declared.cells.Cell.{Cell}
use Rattle.afr_machine.specs.Replicas.{Size, IsSize, nobody}
use Rattle.afr_machine.specs.Touching.{is_cell, has_cell}
use Rattle.afr_machine.specs.Copies.{Copy, changes_of, has_change}
use Rattle.afr_machine.specs.Requests.{Sender, Ask, Input, Output}
use Rattle.afr_machine.specs.Requests.Input.{Asked}
use Rattle.afr_machine.specs.Requests.Output.{Answered}
use Rattle.afr_machine.specs.Bricks.{stored_by}
use Rattle.afr_machine.specs.States.{State}
use Rattle.afr_machine.specs.Sending.{is_replaced}
use Rattle.afr_machine.specs.Steps.{Step, Allowed, after, IsReached}
use Rattle.afr_laws.specs.Senders.{EachInput}
use Rattle.afr_laws.specs.Numbers.{applied}
use Rattle.afr_laws.proofs.Bools.{apart_bools, both_left, both_right, is_or_not}
use Rattle.afr_laws.proofs.Sharing.{cells_are}
use Rattle.afr_soundness.specs.Copied.{is_copying, IsReplacedAt}
use Rattle.afr_soundness.proofs.Copied.Stores.{recopies}
use Rattle.afr_soundness.proofs.Copied.Steps.{copies_stand}
use Rattle.afr_contents.specs.Good.{IsGood, IsGoodAt}
use Rattle.afr_contents.specs.Naming.{is_copied_to, held_by}
use Rattle.afr_contents.specs.Lasting.{IsAccusedApart}
use Rattle.afr_contents.specs.Coming.{IsRightAt, IsUsed, ComesGood}
use Rattle.afr_contents.proofs.Keeping.{DecidesOn}
use Rattle.afr_contents.proofs.Naming.{ConfirmsNow}
use Rattle.afr_contents.proofs.Using.{held_granted}
use Rattle.afr_contents.proofs.Confirming.{now_used}
use Rattle.afr_contents.proofs.Lasting.{next_reached}
use Rattle.afr_contents.proofs.Decided.{new_is, left_out_now, decided_accused}
use Rattle.afr_contents.proofs.Values.{same_or_not, accused_of, front_carries, front_born, value_goes, accused_on, front_good, moved}
use Rattle.afr_contents.proofs.Served.{found_copy, stored_right}
use Rattle.afr_contents.proofs.FetchedGood.{IsCopiedTo, copied_run, fetched_after}

-- whose answer is handed in
abbrev pub sender_in : List Output → ℕ
sender_in [] = 0
sender_in (Answered by ask answer ∷ os) = by.txn
sender_in (o ∷ os) = 0

abbrev pub handed_txn : State → Step → ℕ
handed_txn m (Step.HandsIn k) = sender_in (m.bricks k).outputs
handed_txn m other = 0

pub each_replaced : (replaced : Cell → Bool) (cells : List Cell) (cell : Cell) → is_replaced replaced cells ≡ true → has_cell cells cell ≡ true → replaced cell ≡ true
each_replaced replaced [] cell all has = absurd (let no : false ≡ true = has in cc)
each_replaced replaced (c ∷ cs) cell all has = by_case (is_cell cell c) refl (each_replaced replaced cs cell (both_right (replaced c) (is_replaced replaced cs) all)) has where
  by_case : (b : Bool) → is_cell cell c ≡ b → (has_cell cs cell ≡ true → replaced cell ≡ true) → has_cell (c ∷ cs) cell ≡ true → replaced cell ≡ true
  by_case true is rest h = ap replaced (cells_are cell c is) ∙ both_left (replaced c) (is_replaced replaced cs) all
  by_case false is rest h = rest (sym (ap (λ b. b || has_cell cs cell) is) ∙ h)

module _ (size : Size) (m : State) (is_size : IsSize size) (r : IsReached size m) (was : ComesGood size m) (step : Step) (allowed : Allowed size m step) where
  abbrev new : State
  new = after size m step

  -- ---- whether the replica is one that a clear may name from now on

  abbrev pub namer : ℕ
  namer = handed_txn m step

  pub record NamedNow (i : ℕ) (cell : Cell) : Type 0 where
    pub copied : is_copied_to (new.txns namer).stage cell i ≡ true
    pub used : IsUsed new namer i

  pub named_now : (t i : ℕ) (cell : Cell) → ConfirmsNow size m r step allowed t i cell → NamedNow i cell
  named_now t i cell c = record { copied = subst (λ n. is_copied_to (new.txns n).stage cell i ≡ true) (sym same) c.copied; used = subst (λ n. IsUsed new n i) (sym same) (now_used size m r step allowed t i cell c) } where
    same : namer ≡ t
    same = ap (handed_txn m) c.step_is ∙ ap sender_in c.handed.front ∙ c.txn

  pub is_named : (i : ℕ) (cell : Cell) → NamedNow i cell ⊎ ((t : ℕ) → ConfirmsNow size m r step allowed t i cell → ⊥)
  is_named i cell = by_case (is_or_not (is_copied_to (new.txns namer).stage cell i)) (is_or_not ((new.txns namer).out i)) (is_or_not (held_by new namer i)) where
    by_case : (is_copied_to (new.txns namer).stage cell i ≡ true) ⊎ (is_copied_to (new.txns namer).stage cell i ≡ false) → ((new.txns namer).out i ≡ true) ⊎ ((new.txns namer).out i ≡ false) → (held_by new namer i ≡ true) ⊎ (held_by new namer i ≡ false) → NamedNow i cell ⊎ ((t : ℕ) → ConfirmsNow size m r step allowed t i cell → ⊥)
    by_case (inl copied) (inr inside) (inl held) = inl (record { copied = copied; used = record { not_out = inside; held = held } })
    by_case (inr none) out held = inr (λ t c. apart_bools (named_now t i cell c).copied none)
    by_case copied (inl out) held = inr (λ t c. apart_bools out (named_now t i cell c).used.not_out)
    by_case copied out (inr none) = inr (λ t c. apart_bools (named_now t i cell c).used.held none)

  -- ---- a sink that is named has what was fetched

  module _ (i : ℕ) (few : i < size.replicas) (cell : Cell) (n : NamedNow i cell) where
    k : IsCopiedTo (new.txns namer).stage cell i
    k = copied_run (new.txns namer).stage cell i n.copied

    put : IsReplacedAt new namer i k.run cell
    put = (copies_stand size (after size m step) (next_reached size m r step allowed)).replaced namer k.run k.is i cell (each_replaced (k.run.replaced i) k.run.cells cell (both_right (k.run.sinks i) (is_replaced (k.run.replaced i) k.run.cells) k.confirmed) k.has)

    named_good : IsGoodAt new i cell ⊎ IsAccusedApart size new cell i nobody
    named_good = by_case (fetched_after size m is_size r step allowed was.sources was.fetched namer i k.run cell put.found few k.is put.fetched n.used) where
      by_case : IsGood new cell (Some put.found.copy) ⊎ IsAccusedApart size new cell i (held_by new namer) → IsGoodAt new i cell ⊎ IsAccusedApart size new cell i nobody
      by_case (inl good) = inl (subst (IsGood new cell) (sym (found_copy ((new.bricks i).store cell).copy ((new.bricks i).store cell).last put.found
          (put.stands (record { copying = ap is_copying k.is; not_out = n.used.not_out; granted = held_granted new namer i n.used.held })))) good)
      by_case (inr accused) = inr (accused_of size new cell i (held_by new namer) accused)

  -- ---- what is served

  module _ (i : ℕ) (few : i < size.replicas) (cell : Cell) where
    abbrev Value : Option Copy → Type 0
    Value copy = IsGood m cell copy ⊎ IsAccusedApart size m cell i nobody

    module _ (good : IsGoodAt m i cell) where
      front_right : (by : Sender) (ask : Ask) (rest : List Input) → (m.bricks i).line ≡ Asked by ask ∷ rest → IsRightAt size m i ask
      front_right by ask rest front = (subst (EachInput (λ b a. IsRightAt size m i a)) front (was.lines i few)).0

      served : (by : Sender) (ask : Ask) (rest : List Input) → (m.bricks i).line ≡ Asked by ask ∷ rest → Value (stored_by ask (m.bricks i).store cell).copy
      served by ask rest front = by_case (is_or_not (recopies ask cell)) where
        by_case : (recopies ask cell ≡ true) ⊎ (recopies ask cell ≡ false) → Value (stored_by ask (m.bricks i).store cell).copy
        by_case (inl has) = stored_right size m r (m.bricks i).store cell good i ask (front_carries size m r i by ask rest front) (front_born size m r i by ask rest front) has (front_right by ask rest front)
        by_case (inr none) = inl (front_good size m is_size r step allowed i cell good by ask rest front none)

    value : IsGoodAt m i cell ⊎ IsAccusedApart size m cell i nobody → Value ((new.bricks i).store cell).copy
    value (inl good) = moved size m is_size r step allowed i cell Value (inl good) (served good)
    value (inr accused) = inr accused

    -- ---- a decision

    module _ (u : ℕ) (d : DecidesOn size m r step allowed cell u) where
      same_copy : ((new.bricks i).store cell).copy ≡ ((m.bricks i).store cell).copy
      same_copy = ap (λ (x : State). ((x.bricks i).store cell).copy) (new_is size m is_size r step allowed u d.decision)

      on_decision : (has_change (changes_of ((new.bricks i).store cell).copy) u ≡ d.decision.may.adopts) ⊎ IsAccusedApart size new cell i nobody
      on_decision = by_case (same_or_not (has_change (applied m i cell) u) d.decision.may.adopts) where
        by_case : (has_change (applied m i cell) u ≡ d.decision.may.adopts) ⊎ (has_change (applied m i cell) u ≡ d.decision.may.adopts → ⊥) → (has_change (changes_of ((new.bricks i).store cell).copy) u ≡ d.decision.may.adopts) ⊎ IsAccusedApart size new cell i nobody
        by_case (inl same) = inl (ap (λ c. has_change (changes_of c) u) same_copy ∙ same)
        by_case (inr other) = inr (decided_accused size m is_size r step allowed u d.decision cell d.touches i few (left_out_now size m is_size r step allowed u d.decision i few (λ s. other (s.has cell d.touches))) nobody (λ k noted. refl))

    pub copy_after : IsGoodAt new i cell ⊎ IsAccusedApart size new cell i nobody
    copy_after = by_case (is_named i cell) where
      by_case : NamedNow i cell ⊎ ((t : ℕ) → ConfirmsNow size m r step allowed t i cell → ⊥) → IsGoodAt new i cell ⊎ IsAccusedApart size new cell i nobody
      by_case (inl n) = named_good i few cell n
      by_case (inr none) =
          value_goes size m is_size r step allowed i few cell nobody nobody (λ k h. h) (accused_on size m is_size r step allowed i few cell nobody nobody (λ k h. h) (λ t k low apart held c. none t c))
          ((new.bricks i).store cell).copy on_decision (value (was.copies i cell few))
