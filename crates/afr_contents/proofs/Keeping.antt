-- A good copy stays good, but for a decision that leaves it out.
use Rattle.std.proofs.Common.{◌≡◌, ◌∙◌, ℕ, Bool, true, false, refl, sym, ap, subst, ◌⊎◌, inl, inr, arith, Option, Some}
use Rattle.std.specs.Prelude.{List, ◌∷◌, ◌||◌}
use Rattle.std.proofs.lemmas.Bool.{eq-eqb}
use Rattle.fop_types.specs.StoreOps.{Contents, needs, fits, content_after}
use Rattle.fop_types.specs.declared.cells.Cell.{Cell}
use Rattle.fop_types.specs.declared.contents.Content.{Content}
use Rattle.afr_machine.specs.Replicas.{Size}
use Rattle.afr_machine.specs.Touching.{has_cell}
use Rattle.afr_machine.specs.Copies.{Copy, changes_of, has_change}
use Rattle.afr_machine.specs.Changes.{Change, is_unsettled}
use Rattle.afr_machine.specs.States.{State}
use Rattle.afr_machine.specs.Steps.{Step, Allowed, after, IsReached}
use Rattle.afr_laws.proofs.Bools.{apart_bools, is_or_not}
use Rattle.afr_laws.proofs.Copies.Asks.{share_at}
use Rattle.afr_laws.proofs.Copies.Contents.{needed_present}
use Rattle.afr_laws.proofs.Drawn.{changes_are_drawn}
use Rattle.afr_laws.proofs.OwnChanges.Steps.{changes_are_own}
use Rattle.afr_soundness.proofs.ChangeMoves.{ChangeMove, change_moves}
use Rattle.afr_soundness.proofs.Unsettled.{one_unsettled}
use Rattle.afr_contents.specs.Adopted.{adopted_on, first_of, settled, ChangesOfAdopted}
use Rattle.afr_contents.specs.Good.{IsAhead, IsGood}
use Rattle.afr_contents.specs.Good.IsGood.{Absent, Settled, Ahead}
use Rattle.afr_contents.proofs.Lists.{below_adopted}
use Rattle.afr_contents.proofs.Ops.{some_of, first_is, fits_same, content_same, contents_on}
use Rattle.afr_contents.proofs.Settled.{Deciding, Adopting, decides_that, decides_alike, on_stays, on_adds, adopted_now, settled_stays, unsettled_not_on}

abbrev is_decision : Step → Bool
is_decision (Step.Decides t) = true
is_decision other = false

module _ (size : Size) (m : State) (r : IsReached size m) (step : Step) (allowed : Allowed size m step) where
  abbrev new : State
  new = after size m step

  -- the step decides an unsettled change that touches the cell
  pub record DecidesOn (cell : Cell) (u : ℕ) : Type 0 where
    pub decision : Deciding size m r step allowed u
    pub touches : has_cell (m.changes u).cells cell ≡ true

  decides_adopting : (cell : Cell) (u : ℕ) → Adopting size m r step allowed cell u → DecidesOn cell u
  decides_adopting cell u a = record { decision = a.decision; touches = a.touches }

  record Unsettled (u : ℕ) : Type 0 where
    still : is_unsettled (new.changes u).verdict ≡ true
    op : (new.changes u).op ≡ (m.changes u).op
    cells : (new.changes u).cells ≡ (m.changes u).cells

  unsettled_goes : (u : ℕ) → is_unsettled (m.changes u).verdict ≡ true → (Deciding size m r step allowed u → ⊥) → Unsettled u
  unsettled_goes u h none = by_case (change_moves size m step allowed u) where
    by_case : ChangeMove size m step u (new.changes u) → Unsettled u
    by_case (ChangeMove.Same is) = record { still = ap (λ (c : Change). is_unsettled c.verdict) is ∙ h; op = ap (λ (c : Change). c.op) is; cells = ap (λ (c : Change). c.cells) is }
    by_case (ChangeMove.Marks t step_is may at is) = apart_bools h (ap is_unsettled ((changes_are_drawn size m r).beyond u (omega (arith, at))))
    by_case (ChangeMove.Unsettles t step_is may at is) = record { still = ap (λ (c : Change). is_unsettled c.verdict) is; op = ap (λ (c : Change). c.op) is; cells = ap (λ (c : Change). c.cells) is }
    by_case (ChangeMove.Applies k by v op answer step_is handed stage is) = record { still = ap (λ (c : Change). is_unsettled c.verdict) is ∙ h; op = ap (λ (c : Change). c.op) is; cells = ap (λ (c : Change). c.cells) is }
    by_case (ChangeMove.Decides t step_is may at unsettled is) = absurd (none (record { txn = t; step_is = step_is; may = may; at = at; unsettled = unsettled }))

  needed : (u : ℕ) → (m.changes u).cells ≡ needs (m.changes u).op
  needed u = (changes_are_own size m r).fit.needs_are u

  -- two unsettled changes of one cell are one
  pub one_on : (cell : Cell) (u v : ℕ) → is_unsettled (m.changes u).verdict ≡ true → is_unsettled (m.changes v).verdict ≡ true → has_cell (m.changes u).cells cell ≡ true → has_cell (m.changes v).cells cell ≡ true → u ≡ v
  one_on cell u v x y h k = one_unsettled size m r u v x y (share_at (m.changes u).cells (m.changes v).cells cell h k)

  -- ---- no decision on the cell

  module _ (cell : Cell) (none : (u : ℕ) → DecidesOn cell u → ⊥) where
    pub list_stays : adopted_on new cell ≡ adopted_on m cell
    list_stays = on_stays size m r step allowed cell (λ u a. none u (decides_adopting cell u a))

    pub content_stays : (content : Content) → settled m cell ≡ Some content → settled new cell ≡ Some content
    content_stays content h = settled_stays size m r step allowed cell content (λ u a. none u (decides_adopting cell u a)) h

    module _ (u : ℕ) (held : Copy) (a : IsAhead m cell u held) where
      goes : Unsettled u
      goes = unsettled_goes u a.unsettled (λ d. none u (record { decision = d; touches = a.touches }))

      -- no other change is decided on its cells
      agrees : (d : Cell) → has_cell (needs (m.changes u).op) d ≡ true → settled new d ≡ settled m d
      agrees d has = some_of (settled m d) (needed_present (settled m) (m.changes u).op d a.fitting has) (λ content is. settled_stays size m r step allowed d content apart is ∙ sym is) where
        touched : has_cell (m.changes u).cells d ≡ true
        touched = ap (λ cs. has_cell cs d) (needed u) ∙ has

        apart : (v : ℕ) → Adopting size m r step allowed d v → ⊥
        apart v b = none u (record { decision = subst (Deciding size m r step allowed) (one_on d v u b.decision.unsettled a.unsettled b.touches touched) b.decision; touches = a.touches })

      cell_agrees : settled new cell ≡ settled m cell
      cell_agrees = agrees cell (sym (ap (λ cs. has_cell cs cell) (needed u)) ∙ a.touches)

      ahead_stays : IsAhead new cell u held
      ahead_stays = record {
        unsettled = goes.still;
        touches = ap (λ cs. has_cell cs cell) goes.cells ∙ a.touches;
        fitting = ap (fits (settled new)) goes.op ∙ fits_same (settled new) (settled m) (m.changes u).op agrees ∙ a.fitting;
        changes = a.changes ∙ ap (λ l. u ∷ l) (sym list_stays);
        content = ap (λ o. content_after (settled new) o cell) goes.op ∙ content_same (settled new) (settled m) (m.changes u).op agrees cell cell_agrees ∙ a.content;
      }

    pub good_stays : (copy : Option Copy) → IsGood m cell copy → IsGood new cell copy
    good_stays copy (Absent e empty) = Absent e (list_stays ∙ empty)
    good_stays copy (Settled held e changes content) = Settled held e (changes ∙ sym list_stays) (content_stays held.content content)
    good_stays copy (Ahead held u e a) = Ahead held u e (ahead_stays u held a)

  -- ---- a decision

  module _ (adopted : ChangesOfAdopted m) (cell : Cell) (u : ℕ) (d : DecidesOn cell u) where
    not_on : has_change (adopted_on m cell) u ≡ true → ⊥
    not_on h = apart_bools (below_adopted cell m.changes m.drawn u h) (unsettled_not_on (m.changes u) cell d.decision.unsettled)

    same : (v : ℕ) (held : Copy) → IsAhead m cell v held → v ≡ u
    same v held a = one_on cell v u a.unsettled d.decision.unsettled a.touches d.touches

    -- that adopts it
    module _ (adopts : d.decision.may.adopts ≡ true) where
      now : Adopting size m r step allowed cell u
      now = record { decision = d.decision; adopts = adopts; touches = d.touches }

      agree : (c : Cell) → has_cell (needs (m.changes u).op) c ≡ true → m.adopted c ≡ settled m c
      agree c has = sym (first_is (m.adopted c) (m.born c) (adopted u c d.decision.unsettled (ap (λ cs. has_cell cs c) (needed u) ∙ has)))

      content_now : (held : Copy) → content_after (settled m) (m.changes u).op cell ≡ Some held.content → settled new cell ≡ Some held.content
      content_now held is =
          ap (λ (f : Contents). first_of (f cell) (new.born cell)) (adopted_now size m r step allowed cell u now).1
          ∙ ap (λ x. first_of x (new.born cell)) (contents_on m.adopted (m.changes u).op cell ∙ content_same m.adopted (settled m) (m.changes u).op agree cell (agree cell (sym (ap (λ cs. has_cell cs cell) (needed u)) ∙ d.touches)) ∙ is)

      good_adopted : (copy : Option Copy) → has_change (changes_of copy) u ≡ true → IsGood m cell copy → IsGood new cell copy
      good_adopted copy has (Absent e empty) = absurd (let no : false ≡ true = sym (ap (λ c. has_change (changes_of c) u) e) ∙ has in cc)
      good_adopted copy has (Settled held e changes content) = absurd (not_on (sym (ap (λ l. has_change l u) changes) ∙ sym (ap (λ c. has_change (changes_of c) u) e) ∙ has))
      good_adopted copy has (Ahead held v e a) =
          Settled held e (a.changes ∙ ap (λ n. n ∷ adopted_on m cell) (same v held a) ∙ sym (on_adds size m r step allowed cell u now))
          (content_now held (sym (ap (λ n. content_after (settled m) (m.changes n).op cell) (same v held a)) ∙ a.content))

    -- that drops it
    module _ (drops : d.decision.may.adopts ≡ false) where
      none_adopted : (c : Cell) (v : ℕ) → Adopting size m r step allowed c v → ⊥
      none_adopted c v a = apart_bools (adopts_too) drops where
        adopts_too : d.decision.may.adopts ≡ true
        adopts_too = decides_alike size m r step allowed v u a.decision d.decision a.adopts

      good_dropped : (copy : Option Copy) → has_change (changes_of copy) u ≡ false → IsGood m cell copy → IsGood new cell copy
      good_dropped copy has (Absent e empty) = Absent e (on_stays size m r step allowed cell (none_adopted cell) ∙ empty)
      good_dropped copy has (Settled held e changes content) = Settled held e (changes ∙ sym (on_stays size m r step allowed cell (none_adopted cell))) (settled_stays size m r step allowed cell held.content (none_adopted cell) content)
      good_dropped copy has (Ahead held v e a) =
          apart_bools (ap (λ c. has_change (changes_of c) u) e ∙ ap (λ l. has_change l u) (a.changes ∙ ap (λ n. n ∷ adopted_on m cell) (same v held a)) ∙ first_number u (adopted_on m cell)) has where
            first_number : (u : ℕ) (us : List ℕ) → has_change (u ∷ us) u ≡ true
            first_number u us = ap (λ b. b || has_change us u) (eq-eqb u u refl)

    pub good_decided : (copy : Option Copy) → has_change (changes_of copy) u ≡ d.decision.may.adopts → IsGood m cell copy → IsGood new cell copy
    good_decided copy has good = by_case (is_or_not d.decision.may.adopts) where
      by_case : (d.decision.may.adopts ≡ true) ⊎ (d.decision.may.adopts ≡ false) → IsGood new cell copy
      by_case (inl does) = good_adopted does copy (has ∙ does) good
      by_case (inr drops) = good_dropped drops copy (has ∙ drops) good

  -- ---- whether it decides one

  pub data IsDeciding (cell : Cell) : Type 0 where
    Decides : (u : ℕ) → DecidesOn cell u → IsDeciding cell
    Leaves : ((u : ℕ) → DecidesOn cell u → ⊥) → IsDeciding cell

  pub is_deciding : (cell : Cell) (st : Step) → step ≡ st → Allowed size m st → IsDeciding cell
  is_deciding cell (Step.Decides t) is h = by_case (is_or_not (is_unsettled (m.changes h.change).verdict)) (is_or_not (has_cell (m.changes h.change).cells cell)) where
    only : (u : ℕ) → DecidesOn cell u → u ≡ h.change
    only u d = decides_that size m r step allowed u d.decision t h is

    by_case : (is_unsettled (m.changes h.change).verdict ≡ true) ⊎ (is_unsettled (m.changes h.change).verdict ≡ false) → (has_cell (m.changes h.change).cells cell ≡ true) ⊎ (has_cell (m.changes h.change).cells cell ≡ false) → IsDeciding cell
    by_case (inl unsettled) (inl there) = Decides h.change (record { decision = record { txn = t; step_is = is; may = h; at = refl; unsettled = unsettled }; touches = there })
    by_case (inr not_so) there = Leaves (λ u d. apart_bools (sym (ap (λ n. is_unsettled (m.changes n).verdict) (only u d)) ∙ d.decision.unsettled) not_so)
    by_case unsettled (inr other) = Leaves (λ u d. apart_bools (sym (ap (λ n. has_cell (m.changes n).cells cell) (only u d)) ∙ d.touches) other)
  is_deciding cell other is h = Leaves (λ u d. absurd (let e : false ≡ true = ap is_decision (sym is ∙ d.decision.step_is) in cc))
