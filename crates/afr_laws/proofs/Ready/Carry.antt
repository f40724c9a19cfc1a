-- Who is ready stays ready while lock phases, changes and the transaction go on.
use Rattle.std.proofs.Common.{◌≡◌, ◌∙◌, ℕ, Bool, true, false, sym, ap, subst, ◌⊎◌, inl, inr, arith, Some, None}
use Rattle.std.specs.Prelude.{if◌then◌else◌, List}
use Rattle.fop_types.specs.declared.cells.Cell.{Cell}
use Rattle.fop_types.specs.declared.contents.Row.{Row}
use Rattle.afr_changelog.specs.Soundness.{IsSound}
use Rattle.afr_machine.specs.Replicas.{Size, Replicas}
use Rattle.afr_machine.specs.Touching.{has_cell}
use Rattle.afr_machine.specs.Phases.{Phase, rows_up_to, IsSoundIn, IsCopiedIn, IsReadyIn}
use Rattle.afr_machine.specs.Turns.{IsInGroup, holds_last}
use Rattle.afr_laws.specs.Ready.{AreReady, IsGroup}
use Rattle.afr_laws.proofs.Bools.{is_or_not}
use Rattle.afr_laws.proofs.Counts.{count_within}
use Rattle.afr_laws.proofs.Fresh.Phased.{ClearedGoes}

module _ (size : Size) (old new : Phase) (reached : new.reached ≡ old.reached) (rows : new.rows ≡ old.rows) where
  sound_carry : (cell : Cell) (i : ℕ) → IsSoundIn size old cell i → IsSoundIn size new cell i
  sound_carry cell i h =
      subst (λ (r : Replicas). IsSound (rows_up_to size.replicas (λ k. if r k then Some (new.rows k cell) else None)) size.replicas size.quorum i) (sym reached)
      (subst (λ (w : ℕ → Cell → Row). IsSound (rows_up_to size.replicas (λ k. if old.reached k then Some (w k cell) else None)) size.replicas size.quorum i) (sym rows) h)

  member_carry : (u : ℕ) (cells others : List Cell) (adopts : Bool) (i : ℕ) → others ≡ cells → IsInGroup size old u cells adopts i → IsInGroup size new u others adopts i
  member_carry u cells others adopts i same h = record {
    reached = ap (λ (r : Replicas). r i) reached ∙ h.reached;
    sound = λ cell has. sound_carry cell i (h.sound cell (ap (λ cs. has_cell cs cell) (sym same) ∙ has));
    agrees = λ cell has. ap (λ (w : ℕ → Cell → Row). holds_last u (w i cell)) rows ∙ h.agrees cell (ap (λ cs. has_cell cs cell) (sym same) ∙ has);
  }

-- the group stays
pub group_carry : (size : Size) (old new : Phase) → new.reached ≡ old.reached → new.rows ≡ old.rows → (u : ℕ) (cells others : List Cell) (adopts : Bool) (group : Replicas) → others ≡ cells → IsGroup size old u cells adopts group → IsGroup size new u others adopts group
group_carry size old new reached rows u cells others adopts group same h i low = (
  λ in_it. member_carry size old new reached rows u cells others adopts i same ((h i low).0 in_it),
  λ member. (h i low).1 (member_carry size new old (sym reached) (sym rows) u others cells adopts i (sym same) member),
)

module _ (size : Size) (old new : Phase) (reached : new.reached ≡ old.reached) (rows : new.rows ≡ old.rows) (cleared : ClearedGoes old new) where
  copied_carry : (cell : Cell) (i : ℕ) → IsCopiedIn size old cell i → IsCopiedIn size new cell i
  copied_carry cell i h = record {
    itself = cleared i cell i h.itself;
    many = omega (arith, h.many, count_within size.replicas (old.cleared i cell) (new.cleared i cell) (λ k low. cleared i cell k));
  }

  pub ready_carry : (cell : Cell) (i : ℕ) → IsReadyIn size old cell i → IsReadyIn size new cell i
  ready_carry cell i (inl sound) = inl (sound_carry size old new reached rows cell i sound)
  ready_carry cell i (inr copied) = inr (copied_carry cell i copied)

  -- fewer are used, of the same cells
  pub are_carry : (out gone : Replicas) (cells others : List Cell) → others ≡ cells → ((k : ℕ) → out k ≡ true → gone k ≡ true) → AreReady size old out cells → AreReady size new gone others
  are_carry out gone cells others same more h k low there used cell has =
      ready_carry cell k (h k low (ap (λ (r : Replicas). r k) (sym reached) ∙ there) (in_use (is_or_not (out k))) cell (ap (λ cs. has_cell cs cell) (sym same) ∙ has)) where
        in_use : (out k ≡ true) ⊎ (out k ≡ false) → out k ≡ false
        in_use (inl left) = absurd (let e : true ≡ false = sym (more k left) ∙ used in cc)
        in_use (inr used1) = used1
