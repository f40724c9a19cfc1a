-- A cell that joins a part.
use Rattle.std.proofs.Common.{◌≡◌, ℕ, zero, suc, ◌<◌, ◌≤◌, Bool, List, [], ◌∷◌, ◌++◌, refl, sym, ap, ◌∙◌, length, arith}
use Rattle.std.specs.List.{remove, insert}
use Rattle.fop_types.specs.declared.cells.Cell.{Cell}
use Rattle.afr_transaction.specs.declared.phase.Part.{Part}
use Rattle.afr_transaction.specs.Parts.{place_of, joined_at, joined, with_cell}

-- the part at a place is taken out, gets the cell, and goes back
pub put_back : (place : ℕ) (parts : List Part) (part : Part) (cell : Cell) (sources sinks : List Bool) → place < length parts → parts ≡ insert (remove parts place) place part → insert (remove parts place) place (with_cell part cell) ≡ joined_at place parts cell sources sinks
put_back place [] part cell sources sinks fits was = absurd (omega arith)
put_back zero (p ∷ ps) part cell sources sinks fits was = (let e : p ≡ part = cc in ap (λ (x : Part). with_cell x cell ∷ ps) (sym e))
put_back (suc place) (p ∷ ps) part cell sources sinks fits was =
    (let e : ps ≡ insert (remove ps place) place part = cc in ap (λ (l : List Part). p ∷ l) (put_back place ps part cell sources sinks (omega arith) e))

-- at the end there is no part to join
pub at_the_end : (place : ℕ) (parts : List Part) (cell : Cell) (sources sinks : List Bool) → length parts ≤ place → parts ++ record { cells = cell ∷ []; sources = sources; sinks = sinks } ∷ [] ≡ joined_at place parts cell sources sinks
at_the_end place [] cell sources sinks h = refl
at_the_end zero (p ∷ ps) cell sources sinks h = absurd (omega arith)
at_the_end (suc place) (p ∷ ps) cell sources sinks h = ap (λ (l : List Part). p ∷ l) (at_the_end place ps cell sources sinks (omega arith))

-- the part at the cell's place gets it
pub join_there : (parts rest new : List Part) (part more : Part) (place : ℕ) (cell : Cell) (sources sinks : List Bool) → place ≡ place_of parts sources sinks → place < length parts
    → parts ≡ insert rest place part → rest ≡ remove parts place → more ≡ with_cell part cell → new ≡ insert rest place more → new ≡ joined parts cell sources sinks
join_there parts rest new part more place cell sources sinks at fits was gone grown made =
    made ∙ ap (λ (r : List Part). insert r place more) gone ∙ ap (λ (x : Part). insert (remove parts place) place x) grown
    ∙ put_back place parts part cell sources sinks fits (was ∙ ap (λ (r : List Part). insert r place part) gone)
    ∙ ap (λ (p : ℕ). joined_at p parts cell sources sinks) at

-- no part is at the cell's place: it makes one of its own
pub join_end : (parts new : List Part) (place : ℕ) (cell : Cell) (sources sinks : List Bool) → place ≡ place_of parts sources sinks → length parts ≤ place
    → new ≡ parts ++ record { cells = cell ∷ []; sources = sources; sinks = sinks } ∷ [] → new ≡ joined parts cell sources sinks
join_end parts new place cell sources sinks at past made =
    made ∙ at_the_end place parts cell sources sinks past ∙ ap (λ (p : ℕ). joined_at p parts cell sources sinks) at

-- the same, by the cells of the part that goes back
pub join_back : (parts rest new : List Part) (part : Part) (cs : List Cell) (place : ℕ) (cell : Cell) (sources sinks : List Bool) → place ≡ place_of parts sources sinks → place < length parts
    → parts ≡ insert rest place part → rest ≡ remove parts place → cs ≡ part.cells ++ cell ∷ [] → new ≡ insert rest place (record { cells = cs; sources = part.sources; sinks = part.sinks }) → new ≡ joined parts cell sources sinks
join_back parts rest new part cs place cell sources sinks at fits was gone grown made =
    join_there parts rest new part (record { cells = cs; sources = part.sources; sinks = part.sinks }) place cell sources sinks at fits was gone (ap (λ (l : List Cell). record part { cells = l }) grown) made

-- the same, by the cells of the new part
pub join_new : (parts new : List Part) (cs : List Cell) (place : ℕ) (cell : Cell) (sources sinks : List Bool) → place ≡ place_of parts sources sinks → length parts ≤ place
    → cs ≡ cell ∷ [] → new ≡ parts ++ record { cells = cs; sources = sources; sinks = sinks } ∷ [] → new ≡ joined parts cell sources sinks
join_new parts new cs place cell sources sinks at past is made =
    join_end parts new place cell sources sinks at past (made ∙ ap (λ (l : List Cell). parts ++ record { cells = l; sources = sources; sinks = sinks } ∷ []) is)
