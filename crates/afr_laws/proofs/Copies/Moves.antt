-- The numbers at a brick, after each of its moves.
use Rattle.std.proofs.Common.{◌≡◌, ℕ, true, refl, sym, subst, ◌⊎◌, inl, inr}
use Rattle.std.specs.Prelude.{List, [], ◌∷◌, ◌++◌}
use Rattle.fop_types.specs.declared.cells.Cell.{Cell}
use Rattle.afr_machine.specs.Copies.{Store, changes_of, has_change}
use Rattle.afr_machine.specs.Requests.{Sender, Ask, Control, Input, Output}
use Rattle.afr_machine.specs.Requests.Input.{Asked, Steered}
use Rattle.afr_machine.specs.Requests.Answer.{Gone}
use Rattle.afr_machine.specs.Requests.Output.{Answered, Closed, Opened, Connected}
use Rattle.afr_machine.specs.Bricks.{Brick, stored_by}
use Rattle.afr_machine.specs.Changes.{Change}
use Rattle.afr_machine.specs.Moves.{BrickMove}
use Rattle.afr_machine.specs.Moves.BrickMove.{Stays, Takes, Hands, Serves, Refuses, GivesUp, Steers}
use Rattle.afr_laws.specs.Senders.{EachInput}
use Rattle.afr_laws.specs.OwnChanges.{ChangesFit}
use Rattle.afr_laws.specs.Copies.{IsChangeOf, IsCopyOf, Carries, Shows, EachAnswer, IsBelowAsk, IsBelowOps, Brings, LineRises, BrickCopies}
use Rattle.afr_laws.proofs.Senders.{inputs_append}
use Rattle.afr_laws.proofs.Connecting.{served_line, steered_line}
use Rattle.afr_laws.proofs.Copies.Stores.{stored_numbers, stored_had}
use Rattle.afr_laws.proofs.Copies.Lines.{rises_append, change_in, brought_change}
use Rattle.afr_laws.proofs.Copies.Served.{served_store, steered_store, answers_append, gone_shows, refusal_shows, served_shows, steered_shows}

-- what the inputs that a brick takes must meet
pub record MayTake (changes : ℕ → Change) (inputs : List Input) : Type 0 where
  pub carried : EachInput (λ by ask. Carries changes ask) inputs
  pub below : (cell : Cell) (v : ℕ) → IsChangeOf changes cell v → IsBelowOps v cell inputs
  pub rises : LineRises inputs

module _ (changes : ℕ → Change) (fit : ChangesFit changes) where
  taking : (b : Brick) (inputs : List Input) → MayTake changes inputs → BrickCopies changes b → BrickCopies changes (record b { line = b.line ++ inputs })
  taking b inputs may c = record {
    stored = c.stored;
    line = inputs_append (λ by ask. Carries changes ask) b.line inputs c.line may.carried;
    outputs = c.outputs;
    below = λ cell v had. inputs_append (λ by ask. IsBelowAsk v cell ask) b.line inputs (c.below cell v had) (may.below cell v (change_in changes cell _ v (c.stored cell).changes_are had));
    rises = rises_append b.line inputs c.rises may.rises (λ cell v i. may.below cell v (brought_change changes fit cell v b.line c.line i));
  }

  -- the same store and line, other outputs
  rebuilt : (b new : Brick) → new.store ≡ b.store → new.line ≡ b.line → EachAnswer (Shows changes) new.outputs → BrickCopies changes b → BrickCopies changes new
  rebuilt b new store line outputs c = record {
    stored = λ cell. subst (λ (s : Store). IsCopyOf changes cell (changes_of (s cell).copy) (s cell).last) (sym store) (c.stored cell);
    line = subst (EachInput (λ by ask. Carries changes ask)) (sym line) c.line;
    outputs = outputs;
    below = λ cell v had. subst (IsBelowOps v cell) (sym line) (c.below cell v (subst (λ (s : Store). has_change (changes_of (s cell).copy) v ≡ true) store had));
    rises = subst LineRises (sym line) c.rises;
  }

  -- ---- the front of the line

  module _ (b : Brick) (rest : List Input) (c : BrickCopies changes b) where
    behind_control : (control : Control) → b.line ≡ Steered control ∷ rest → BrickCopies changes (record b { line = rest })
    behind_control control front = record {
      stored = c.stored;
      line = subst (EachInput (λ by ask. Carries changes ask)) front c.line;
      outputs = c.outputs;
      below = λ cell v had. subst (IsBelowOps v cell) front (c.below cell v had);
      rises = subst LineRises front c.rises;
    }

    module _ (by : Sender) (ask : Ask) (front : b.line ≡ Asked by ask ∷ rest) where
      front_carries : Carries changes ask × EachInput (λ by a. Carries changes a) rest
      front_carries = subst (EachInput (λ by a. Carries changes a)) front c.line

      front_below : (cell : Cell) (v : ℕ) → has_change (changes_of (b.store cell).copy) v ≡ true → IsBelowAsk v cell ask × IsBelowOps v cell rest
      front_below cell v had = subst (IsBelowOps v cell) front (c.below cell v had)

      front_rises : ((cell : Cell) (v : ℕ) → Brings ask cell v → IsBelowOps v cell rest) × LineRises rest
      front_rises = subst LineRises front c.rises

      behind_request : BrickCopies changes (record b { line = rest })
      behind_request = record { stored = c.stored; line = front_carries.1; outputs = c.outputs; below = λ cell v had. (front_below cell v had).1; rises = front_rises.1 }

      -- the request has changed the store
      serving : (new : Brick) → new.store ≡ stored_by ask b.store → new.line ≡ rest → EachAnswer (Shows changes) new.outputs → BrickCopies changes new
      serving new store line outputs = record {
        stored = λ cell. subst (λ (s : Store). IsCopyOf changes cell (changes_of (s cell).copy) (s cell).last) (sym store)
            (stored_numbers changes b.store cell (c.stored cell) ask fit front_carries.0 (λ u op is need v had. subst (IsBelowAsk v cell) is (front_below cell v had).0 need));
        line = subst (EachInput (λ by a. Carries changes a)) (sym line) front_carries.1;
        outputs = outputs;
        below = λ cell v had. subst (IsBelowOps v cell) (sym line) (came cell v (stored_had b.store cell v ask (subst (λ (s : Store). has_change (changes_of (s cell).copy) v ≡ true) store had)));
        rises = subst LineRises (sym line) front_rises.1;
      }
        where
          came : (cell : Cell) (v : ℕ) → (has_change (changes_of (b.store cell).copy) v ≡ true) ⊎ Brings ask cell v → IsBelowOps v cell rest
          came cell v (inl had) = (front_below cell v had).1
          came cell v (inr brought) = front_rises.0 cell v brought

  -- ---- each move

  without_first : (o : Output) (os : List Output) → EachAnswer (Shows changes) (o ∷ os) → EachAnswer (Shows changes) os
  without_first (Answered by ask answer) os p = p.1
  without_first Closed os p = p
  without_first Opened os p = p
  without_first (Connected graph) os p = p

  pub move_copies : (may : List Input → Type 0) (old new : Brick) → BrickMove may old new → ((inputs : List Input) → may inputs → MayTake changes inputs) → BrickCopies changes old → BrickCopies changes new
  move_copies may old new (Stays is) takes c = subst (BrickCopies changes) (sym is) c
  move_copies may old new (Takes inputs its is) takes c = subst (BrickCopies changes) (sym is) (taking old inputs (takes inputs its) c)
  move_copies may old new (Hands first rest front is) takes c =
      subst (BrickCopies changes) (sym is) (record { stored = c.stored; line = c.line; outputs = without_first first rest (subst (EachAnswer (Shows changes)) front c.outputs); below = c.below; rises = c.rises })
  move_copies may old new (Serves by ask rest front served is) takes c =
      subst (BrickCopies changes) (sym is)
      (serving old rest c by ask front _ (served_store old.power by ask (record old { line = rest })) (served_line old.power by ask (record old { line = rest })) (served_shows changes (record old { line = rest }) c.stored c.outputs old.power by ask))
  move_copies may old new (Refuses by ask answer rest front refusable refusal is) takes c =
      subst (BrickCopies changes) (sym is)
      (rebuilt (record old { line = rest }) _ refl refl (answers_append changes old.outputs (Answered by ask answer ∷ []) c.outputs (refusal_shows changes ask answer refusal, tt)) (behind_request old rest c by ask front))
  move_copies may old new (GivesUp by ask rest front served is) takes c =
      subst (BrickCopies changes) (sym is)
      (rebuilt (record old { line = rest }) _ refl refl (answers_append changes old.outputs (Answered by ask Gone ∷ []) c.outputs (gone_shows changes ask, tt)) (behind_request old rest c by ask front))
  move_copies may old new (Steers control rest front is) takes c =
      subst (BrickCopies changes) (sym is)
      (rebuilt (record old { line = rest }) _ (steered_store control (record old { line = rest })) (steered_line control (record old { line = rest })) (steered_shows changes (record old { line = rest }) c.stored c.outputs control) (behind_control old rest c control front))
