-- Copies are good, or their replicas accused for good, and so is what is on its way to them, over every list of steps.
use Rattle.std.proofs.Common.{◌≡◌, ◌∙◌, Bool, true, false, refl, sym, ap, inl, Option, Some, None}
use Rattle.std.specs.Prelude.{[], if◌then◌else◌}
use Rattle.fop_types.specs.Cells.{root, meta_cell, names_cell}
use Rattle.fop_types.specs.declared.cells.Cell.{Cell}
use Rattle.fop_types.specs.declared.contents.Content.TheVariants.{Meta, Names}
use Rattle.afr_machine.specs.Replicas.{Size}
use Rattle.afr_machine.specs.Touching.{is_cell}
use Rattle.afr_machine.specs.Copies.{Copy, content_of, changes_of, nothing_kept, born_as, root_alone}
use Rattle.afr_machine.specs.States.{start}
use Rattle.afr_machine.specs.Steps.{IsReached}
use Rattle.afr_laws.specs.Seen.{is_applying}
use Rattle.afr_soundness.specs.Copied.{is_copying}
use Rattle.afr_contents.specs.Adopted.{first_of}
use Rattle.afr_contents.specs.Good.{IsGood, EveryCopyIsGood}
use Rattle.afr_contents.specs.Good.IsGood.{Absent, Settled}
use Rattle.afr_contents.specs.Coming.{ComesGood, EveryStateComesGood}
use Rattle.afr_contents.proofs.FetchedGood.{fetched_after}
use Rattle.afr_contents.proofs.CopiesGood.{copy_after}
use Rattle.afr_contents.proofs.LinesGood.{lines_after}
use Rattle.afr_contents.proofs.SourcesGood.{sources_after}
use Rattle.afr_contents.proofs.LeftGood.{copies_of, left_after}

-- ---- the start

root_changes : (cell : Cell) → changes_of (root_alone cell).copy ≡ []
root_changes cell = by_case (is_cell cell (meta_cell root)) (is_cell cell (names_cell root)) where
  by_case : (b c : Bool) → changes_of (if b then born_as (Meta 493 [] None) else (if c then born_as (Names false []) else nothing_kept)).copy ≡ []
  by_case true c = refl
  by_case false true = refl
  by_case false false = refl

start_good : (cell : Cell) → IsGood start cell (root_alone cell).copy
start_good cell = by_copy (root_alone cell).copy refl where
  by_copy : (copy : Option Copy) → (root_alone cell).copy ≡ copy → IsGood start cell (root_alone cell).copy
  by_copy None is = Absent is refl
  by_copy (Some held) is = Settled held is (sym (ap changes_of is) ∙ root_changes cell) (ap (λ c. first_of (content_of c) (content_of c)) is)

start_comes : (size : Size) → ComesGood size start
start_comes size = record {
  copies = λ i cell few. inl (start_good cell);
  lines = λ i few. tt;
  sources = λ t s i cell few_s few covers. absurd (let no : false ≡ true = covers in cc);
  fetched = λ t i run cell found few stage. absurd (let no : false ≡ true = ap is_copying stage in cc);
  left = λ t u k cell few stage. absurd (let no : false ≡ true = ap is_applying stage in cc);
}

-- ---- every list of steps

pub comes_good : EveryStateComesGood
comes_good size m is_size IsReached.Start = start_comes size
comes_good size m is_size (IsReached.Further old step reached allowed) =
    let was : ComesGood size old = comes_good size old is_size reached in
    record {
      copies = λ i cell few. copy_after size old is_size reached was step allowed i few cell;
      lines = λ i few. lines_after size old is_size reached was step allowed i few;
      sources = sources_after size old is_size reached was step allowed;
      fetched = fetched_after size old is_size reached step allowed was.sources was.fetched;
      left = left_after size old is_size reached was step allowed;
    }

pub every_copy_is_good : EveryCopyIsGood
every_copy_is_good size m is_size r = copies_of size m (comes_good size m is_size r).copies
