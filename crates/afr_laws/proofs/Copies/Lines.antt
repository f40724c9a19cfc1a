-- Lines that rise, and what the inputs of a line bring.
use Rattle.std.proofs.Common.{◌≡◌, ℕ, true, sym, subst, ◌⊎◌, inl, inr}
use Rattle.std.specs.Prelude.{List, [], ◌∷◌, ◌++◌, ◌==◌}
use Rattle.std.proofs.lemmas.Bool.{eqb-true}
use Rattle.fop_types.specs.declared.cells.Cell.{Cell}
use Rattle.afr_machine.specs.Copies.{has_change}
use Rattle.afr_machine.specs.Requests.{Ask, Input}
use Rattle.afr_machine.specs.Requests.Ask.{Op, Replace}
use Rattle.afr_machine.specs.Requests.Input.{Asked, Steered}
use Rattle.afr_machine.specs.Changes.{Change}
use Rattle.afr_laws.specs.Senders.{EachInput}
use Rattle.afr_laws.specs.OwnChanges.{ChangesFit}
use Rattle.afr_laws.specs.Copies.{IsChangeOf, AreChangesOf, Carries, IsBelowAsk, IsBelowOps, Brings, LineRises}
use Rattle.afr_laws.proofs.Bools.{either_way}
use Rattle.afr_laws.proofs.Senders.{inputs_append}
use Rattle.afr_laws.proofs.Copies.Stores.{touched}

-- an input of the line brings the change to the cell
abbrev pub IsBrought : List Input → Cell → ℕ → Type 0
IsBrought [] cell v = ⊥
IsBrought (Asked by ask ∷ is) cell v = Brings ask cell v ⊎ IsBrought is cell v
IsBrought (Steered control ∷ is) cell v = IsBrought is cell v

pub rises_append : (xs ys : List Input) → LineRises xs → LineRises ys → ((cell : Cell) (v : ℕ) → IsBrought xs cell v → IsBelowOps v cell ys) → LineRises (xs ++ ys)
rises_append [] ys p q b = q
rises_append (Asked by ask ∷ xs) ys p q b = (λ cell v br. inputs_append (λ by a. IsBelowAsk v cell a) xs ys (p.0 cell v br) (b cell v (inl br)), rises_append xs ys p.1 q (λ cell v i. b cell v (inr i)))
rises_append (Steered control ∷ xs) ys p q b = rises_append xs ys p q b

pub change_in : (changes : ℕ → Change) (cell : Cell) (us : List ℕ) (v : ℕ) → AreChangesOf changes cell us → has_change us v ≡ true → IsChangeOf changes cell v
change_in changes cell [] v p h = absurd cc
change_in changes cell (u ∷ us) v p h = by_case (change_in changes cell us v p.1) (either_way (v == u) (has_change us v) h) where
  by_case : (has_change us v ≡ true → IsChangeOf changes cell v) → ((v == u) ≡ true) ⊎ (has_change us v ≡ true) → IsChangeOf changes cell v
  by_case more (inl same) = subst (IsChangeOf changes cell) (sym (eqb-true v u same)) p.0
  by_case more (inr other) = more other

module _ (changes : ℕ → Change) (fit : ChangesFit changes) (cell : Cell) (v : ℕ) where
  brings_change : (ask : Ask) → Carries changes ask → Brings ask cell v → IsChangeOf changes cell v
  brings_change (Op u op) c b = subst (IsChangeOf changes cell) (sym b.1) (touched changes fit u op c cell b.0)
  brings_change (Replace at found) c b = subst (λ x. IsChangeOf changes x v) (sym b.0) (change_in changes at found.copy.changes v c.changes_are b.1)
  brings_change other c b = absurd b

  pub brought_change : (line : List Input) → EachInput (λ by ask. Carries changes ask) line → IsBrought line cell v → IsChangeOf changes cell v
  brought_change [] c b = absurd b
  brought_change (Asked by ask ∷ is) c (inl b) = brings_change ask c.0 b
  brought_change (Asked by ask ∷ is) c (inr b) = brought_change is c.1 b
  brought_change (Steered control ∷ is) c b = brought_change is c b
