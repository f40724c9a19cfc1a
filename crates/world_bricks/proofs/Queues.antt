-- The lines of bricks: the first input of one, and those of one brick more.
use Rattle.std.proofs.Common.{◌≡◌, refl, sym, ap, ◌∙◌, arith}
use Rattle.std.specs.Prelude.{ℕ, suc, ◌<◌, ◌+◌, List, [], ◌∷◌, ◌++◌, length, map, replicate, get_or, nat_lt, slice_get, Option, None, Some, is_some, MatchOption}
use Rattle.std.specs.List.{range_with_len}
use Rattle.std.proofs.Math.Nat.{zero-add}
use Rattle.std.proofs.lemmas.Bool.{lt-ltb}
use Rattle.std.proofs.lemmas.List.{replicate_more}
use Rattle.std.proofs.lemmas.List.FromFn.{map-range_with_len_more}
use Rattle.graph_build.specs.declared.plans.Plan.{Plan}
use Rattle.script_lang.specs.declared.scripts.Script.{Script}
use Rattle.brick_machine.specs.Journal.{Journal}
use Rattle.world_bricks.specs.Lines.{LineState, LinesState, empty_line, new_brick, new_lines}

pub first_of : {X : Type 0} (old : List X) (r : Option X) (n m : ℕ) → n ≡ length old → MatchOption r ((n ≡ 0) × (m ≡ 0)) (λ _. m + 1 ≡ n) → ((d : X) → 0 < n → r ≡ Some (get_or old 0 d)) → r ≡ slice_get old 0
first_of [] None n m long cases value = refl
first_of [] (Some y) n m long cases value = absurd (let z : n ≡ 0 = long in omega (arith, z, cases))
first_of (x ∷ xs) r n m long cases value = value x (let z : n ≡ suc (length xs) = long in omega (arith, z))

pub some_first : {X : Type 0} (xs : List X) → nat_lt 0 (length xs) ≡ is_some (slice_get xs 0)
some_first [] = refl
some_first (x ∷ xs) = let more : 0 < suc (length xs) = omega arith in lt-ltb 0 (suc (length xs)) more

-- ---- one brick more

abbrev lines_with : List Journal → List LineState → LinesState
lines_with bricks queues = record { bricks = bricks; queues = queues; delivered = 0 }

pub new_more : (script : Script) (plans : List Plan) (n : ℕ)
    → record (new_lines script plans n) { bricks = (new_lines script plans n).bricks ++ new_brick script plans n ∷ []; queues = (new_lines script plans n).queues ++ empty_line ∷ [] } ≡ new_lines script plans (n + 1)
new_more script plans n =
    let bricks : lines_with (map (new_brick script plans) (range_with_len 0 n) ++ new_brick script plans n ∷ []) (replicate n empty_line ++ empty_line ∷ [])
    ≡ lines_with (map (new_brick script plans) (range_with_len 0 (n + 1))) (replicate n empty_line ++ empty_line ∷ [])
    = ap (λ (bs : List Journal). lines_with bs (replicate n empty_line ++ empty_line ∷ [])) (sym (map-range_with_len_more (new_brick script plans) 0 n n (zero-add n))) in
    let queues : lines_with (map (new_brick script plans) (range_with_len 0 (n + 1))) (replicate n empty_line ++ empty_line ∷ [])
    ≡ lines_with (map (new_brick script plans) (range_with_len 0 (n + 1))) (replicate (n + 1) empty_line)
    = ap (λ (qs : List LineState). lines_with (map (new_brick script plans) (range_with_len 0 (n + 1))) qs) (replicate_more n empty_line) in
    bricks ∙ queues

abbrev with_brick : LinesState → Journal → LinesState
with_brick lines b = record lines { bricks = lines.bricks ++ b ∷ []; queues = lines.queues ++ empty_line ∷ [] }

pub next_brick : (script : Script) (plans : List Plan) (n : ℕ) (old new : LinesState) (b : Journal) → old ≡ new_lines script plans n → b ≡ new_brick script plans n
    → new ≡ record old { bricks = old.bricks ++ b ∷ []; queues = old.queues ++ empty_line ∷ [] } → new ≡ new_lines script plans (n + 1)
next_brick script plans n old new b were is put =
    let named : new ≡ with_brick old (new_brick script plans n) = put ∙ ap (with_brick old) is in
    let grown : new ≡ with_brick (new_lines script plans n) (new_brick script plans n) = named ∙ ap (λ (l : LinesState). with_brick l (new_brick script plans n)) were in
    grown ∙ new_more script plans n
