-- Parts with a byte between each two: bytes are their parts joined, and parts that do not hold the byte are those of their join.
use Rattle.std.proofs.Common.{◌≡◌, ℕ, ◌+◌, ◌-◌, ◌<◌, ◌==◌, not, Bool, true, false, cond, List, [], ◌∷◌, ◌++◌, append_assoc, append-nil, length, take, drop, refl, sym, ap, ◌∙◌, arith}
use Rattle.std.specs.List.{list_all}
use Rattle.std.proofs.lemmas.Bool.{eqb-true, eq-eqb}
use Rattle.std.proofs.lemmas.List.{take_rest}
use Rattle.fop_types.specs.Bounds.{Each}
use Rattle.volfile.specs.TextLines.{onto_first, front_len}
use Rattle.volfile.proofs.PartLemmas.{parts_whole, parts_cut}
use Rattle.volfile.proofs.PrintedLines.{parts_front, parts_alone}
use Rattle.report_reader.specs.code.Readers.{parts_at}

-- parts and what follows them, with `stop` between each two
abbrev pub joined : ℕ → List ℕ → List (List ℕ) → List ℕ → List ℕ
joined stop w [] end = w ++ end
joined stop w (v ∷ vs) end = w ++ stop ∷ joined stop v vs end

abbrev pub text_of : ℕ → List (List ℕ) → List ℕ → List ℕ
text_of stop [] end = end
text_of stop (w ∷ ws) end = joined stop w ws end

abbrev pub has_no : ℕ → List ℕ → Type 0
has_no stop w = list_all (λ b. not (b == stop)) w ≡ true

-- ---- the parts of a join
itself : (n : ℕ) → (n == n) ≡ true
itself n = eq-eqb n n refl

pub parts_joined : (stop : ℕ) (w : List ℕ) (ws : List (List ℕ)) → has_no stop w → Each (has_no stop) ws → parts_at stop (joined stop w ws []) ≡ w ∷ ws
parts_joined stop w [] h hs = ap (parts_at stop) (append-nil w) ∙ parts_alone (λ b. b == stop) w h
parts_joined stop w (v ∷ vs) h hs =
    parts_front (λ b. b == stop) w stop (joined stop v vs []) h (itself stop) ∙ ap (λ l. w ∷ l) (parts_joined stop v vs hs.0 hs.1)

-- ---- the join of parts
joined_more : (stop b : ℕ) (w : List ℕ) (ws : List (List ℕ)) (end : List ℕ) → joined stop (b ∷ w) ws end ≡ b ∷ joined stop w ws end
joined_more stop b w [] end = refl
joined_more stop b w (v ∷ vs) end = refl

text_onto : (stop b : ℕ) (ws : List (List ℕ)) → text_of stop (onto_first b ws) [] ≡ b ∷ text_of stop ws []
text_onto stop b [] = refl
text_onto stop b (w ∷ ws) = joined_more stop b w ws []

-- an empty part before others
text_behind_onto : (stop b : ℕ) (ws : List (List ℕ)) → text_of stop ([] ∷ onto_first b ws) [] ≡ stop ∷ text_of stop (onto_first b ws) []
text_behind_onto stop b [] = refl
text_behind_onto stop b (w ∷ ws) = refl

text_behind : (stop : ℕ) (bs : List ℕ) → text_of stop ([] ∷ parts_at stop bs) [] ≡ stop ∷ text_of stop (parts_at stop bs) []
text_behind stop [] = refl
text_behind stop (b ∷ bs) =
    elim (b == stop) as (λ t. text_of stop ([] ∷ cond t ([] ∷ parts_at stop bs) (onto_first b (parts_at stop bs))) [] ≡ stop ∷ text_of stop (cond t ([] ∷ parts_at stop bs) (onto_first b (parts_at stop bs))) []) [
      | true ↦ refl
      | false ↦ text_behind_onto stop b (parts_at stop bs)
    ]

pub text_whole : (stop : ℕ) (bs : List ℕ) → text_of stop (parts_at stop bs) [] ≡ bs
text_whole stop [] = refl
text_whole stop (b ∷ bs) = by (b == stop) refl (text_whole stop bs)
  where
    by : (t : Bool) → (b == stop) ≡ t → text_of stop (parts_at stop bs) [] ≡ bs → text_of stop (cond t ([] ∷ parts_at stop bs) (onto_first b (parts_at stop bs))) [] ≡ b ∷ bs
    by true is rest = text_behind stop bs ∙ ap (λ l. stop ∷ l) rest ∙ ap (λ n. n ∷ bs) (sym (eqb-true b stop is))
    by false is rest = text_onto stop b (parts_at stop bs) ∙ ap (λ l. b ∷ l) rest

-- ---- what follows
pub joined_end : (stop : ℕ) (w : List ℕ) (ws : List (List ℕ)) (end : List ℕ) → joined stop w ws end ≡ joined stop w ws [] ++ end
joined_end stop w [] end = ap (λ l. l ++ end) (sym (append-nil w))
joined_end stop w (v ∷ vs) end = ap (λ l. w ++ stop ∷ l) (joined_end stop v vs end) ∙ sym (append_assoc w (stop ∷ joined stop v vs []) end)

pub text_end : (stop : ℕ) (ws : List (List ℕ)) (end : List ℕ) → text_of stop ws end ≡ text_of stop ws [] ++ end
text_end stop [] end = refl
text_end stop (w ∷ ws) end = joined_end stop w ws end

-- ---- the cursor over parts
-- a rest with its first `stop` behind `n` bytes is these bytes and the parts behind the `stop`
pub part_first : (stop : ℕ) (rest : List ℕ) (n : ℕ) → n ≡ front_len (λ b. b == stop) rest → n < length rest
    → parts_at stop rest ≡ take n rest ∷ parts_at stop (take (length rest - (n + 1)) (drop (n + 1) rest))
part_first stop rest n is within =
    parts_cut (λ b. b == stop) rest (omega (arith, is, within)) ∙ ap (λ k. take k rest ∷ parts_at stop (drop (k + 1) rest)) (sym is)
    ∙ ap (λ l. take n rest ∷ parts_at stop l) (sym (take_rest rest (n + 1)))

-- one without a `stop` is its only part
pub part_last : (stop : ℕ) (rest : List ℕ) (n : ℕ) → n ≡ front_len (λ b. b == stop) rest → n ≡ length rest → parts_at stop rest ≡ rest ∷ []
part_last stop rest n is all = parts_whole (λ b. b == stop) rest (sym is ∙ all)
