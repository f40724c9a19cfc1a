-- Each cell that counts as present has an adopted content and a copy at a quorum, over every list of steps.
use Rattle.std.proofs.Common.{◌≡◌, ◌∙◌, ℕ, ◌≤◌, Bool, true, false, refl, sym, Option, Some, None, arith}
use Rattle.std.specs.Prelude.{[], ◌∷◌, ◌||◌, is_some, if◌then◌else◌}
use Rattle.fop_types.specs.Cells.{root, meta_cell, names_cell}
use Rattle.fop_types.specs.declared.cells.Cell.{Cell}
use Rattle.fop_types.specs.declared.contents.Content.TheVariants.{Meta, Names}
use Rattle.afr_machine.specs.Replicas.{Size, IsSize, count}
use Rattle.afr_machine.specs.Touching.{is_cell, has_cell}
use Rattle.afr_machine.specs.Changes.{Verdict}
use Rattle.afr_machine.specs.Copies.{Copy, content_of, root_alone, born_as, nothing_kept}
use Rattle.afr_machine.specs.States.{State, start}
use Rattle.afr_machine.specs.Steps.{Step, Allowed, MayUnsettle, after, IsReached}
use Rattle.afr_laws.proofs.Counts.{count_within}
use Rattle.afr_soundness.proofs.Unsettled.{becomes_own}
use Rattle.afr_contents.specs.Present.{having}
use Rattle.afr_contents.specs.Firm.{EveryFirmIsPresent}
use Rattle.afr_contents.proofs.Aspects.{holds_own, adopted_of_aspect}
use Rattle.afr_contents.proofs.Born.{born_have_copies}
use Rattle.afr_contents.proofs.FirmMoves.{FirmMove, firm_move}
use Rattle.afr_contents.proofs.OfAdopted.{adopted_stays}
use Rattle.afr_contents.proofs.Present.{keeps_present, many_stay}
use Rattle.afr_contents.proofs.Split.{count_all}

-- ---- the start

root_there : (cell : Cell) → has_cell (meta_cell root ∷ names_cell root ∷ []) cell ≡ true → is_some (root_alone cell).copy ≡ true
root_there cell h = by_case (is_cell cell (meta_cell root)) (is_cell cell (names_cell root)) h where
  by_case : (a b : Bool) → (a || (b || false)) ≡ true → is_some (if a then born_as (Meta 493 [] None) else (if b then born_as (Names false []) else nothing_kept)).copy ≡ true
  by_case true b h = refl
  by_case false true h = refl
  by_case false false h = absurd (let no : false ≡ true = h in cc)

content_there : (copy : Option Copy) → is_some copy ≡ true → is_some (content_of copy) ≡ true
content_there (Some copy) h = refl
content_there None h = absurd (let no : false ≡ true = h in cc)

-- a content is adopted, and a quorum has a copy
record IsThere (size : Size) (m : State) (cell : Cell) : Type 0 where
  adopted : is_some (m.adopted cell) ≡ true
  copies : size.quorum ≤ count size.replicas (having m cell)

firm_at_start : (size : Size) → IsSize size → (cell : Cell) → start.firm cell ≡ true → IsThere size start cell
firm_at_start size is cell firm = record {
  adopted = content_there (root_alone cell).copy (root_there cell firm);
  copies =
      let odd = is.odd in
      let all = count_all size.replicas (having start cell) (λ k low. root_there cell firm) in
      omega (arith, odd, all);
}

-- ---- one step

module _ (size : Size) (m : State) (r : IsReached size m) (was : (cell : Cell) → m.firm cell ≡ true → IsThere size m cell) (step : Step) (allowed : Allowed size m step) (cell : Cell) where
  abbrev new : State
  new = after size m step

  drawn : (t : ℕ) (may : MayUnsettle size m t) → (m.changes may.change).verdict ≡ Verdict.Undrawn → ⊥
  drawn t may e = absurd (let no : Verdict.Undrawn ≡ Verdict.Drawn = sym e ∙ (becomes_own size m r step allowed t may).1.1 in cc)

  there : FirmMove size m step cell → IsThere size m cell
  there (FirmMove.Was firm) = was cell firm
  there (FirmMove.Confirms t step_is may has) = record {
    adopted = (born_have_copies size m r).adopted t may.turn cell has;
    copies =
        let more = count_within size.replicas (m.txns t).confirmed (having m cell) (λ k low confirmed. (born_have_copies size m r).confirmed t k may.turn confirmed cell has) in
        let many = may.many in
        omega (arith, more, many);
  }
  there (FirmMove.Unsettles t step_is may has) = record { adopted = may.present cell has; copies = (keeps_present size m r).changes may.change cell (drawn t may) has }

  there_after : IsThere size m cell → IsThere size new cell
  there_after h = record { adopted = adopted_stays size m step allowed cell h.adopted; copies = many_stay size m r step allowed cell h.copies }

-- ---- every list of steps

firm_there : (size : Size) (m : State) → IsSize size → IsReached size m → (cell : Cell) → m.firm cell ≡ true → IsThere size m cell
firm_there size m is IsReached.Start cell firm = firm_at_start size is cell firm
firm_there size m is (IsReached.Further old step reached allowed) cell firm =
    there_after size old reached (firm_there size old is reached) step allowed cell (there size old reached (firm_there size old is reached) step allowed cell (firm_move size old step allowed cell firm))

pub firm_is_present : EveryFirmIsPresent
firm_is_present size m is r = record {
  adopted = λ cell firm. holds_own cell (m.adopted cell) (adopted_of_aspect size m r cell) (firm_there size m is r cell firm).adopted;
  copies = λ cell firm. (firm_there size m is r cell firm).copies;
}
