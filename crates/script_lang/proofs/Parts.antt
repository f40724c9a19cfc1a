-- The parts between slashes, one at a time.
use Rattle.std.proofs.Common.{◌≡◌, ℕ, suc, ◌+◌, ◌<◌, ◌≤◌, ◌==◌, true, false, cond, List, [], ◌∷◌, ◌++◌, append_assoc, length, length-drop, take, drop, ap, sym, refl, ◌∙◌, arith}
use Rattle.std.proofs.lemmas.List.{drop-drop}
use Rattle.volfile.specs.TextLines.{parts_between, onto_first, front_len}
use Rattle.script_lang.specs.WordForms.{is_slash}

-- the first part is the last where no slash is
pub parts_last : (bs : List ℕ) → front_len is_slash bs ≡ length bs → parts_between is_slash bs ≡ take (front_len is_slash bs) bs ∷ []
parts_last [] all = refl
parts_last (b ∷ bs) all =
    elim (b == 47) as (λ t. cond t 0 (suc (front_len is_slash bs)) ≡ suc (length bs) → cond t ([] ∷ parts_between is_slash bs) (onto_first b (parts_between is_slash bs)) ≡ take (cond t 0 (suc (front_len is_slash bs))) (b ∷ bs) ∷ []) [
      | true ↦ λ no. absurd (omega (arith, no))
      | false ↦ λ more. ap (onto_first b) (parts_last bs (omega (arith, more)))
    ] all

-- else the others follow behind it
pub parts_more : (bs : List ℕ) → front_len is_slash bs < length bs → parts_between is_slash bs ≡ take (front_len is_slash bs) bs ∷ parts_between is_slash (drop (front_len is_slash bs + 1) bs)
parts_more [] some = absurd (omega (arith, some))
parts_more (b ∷ bs) some =
    elim (b == 47) as (λ t. cond t 0 (suc (front_len is_slash bs)) < suc (length bs) → cond t ([] ∷ parts_between is_slash bs) (onto_first b (parts_between is_slash bs)) ≡ take (cond t 0 (suc (front_len is_slash bs))) (b ∷ bs) ∷ parts_between is_slash (drop (cond t 0 (suc (front_len is_slash bs)) + 1) (b ∷ bs))) [
      | true ↦ λ no. refl
      | false ↦ λ more.
          let n = front_len is_slash bs in
          let after : suc n + 1 ≡ suc (n + 1) = omega arith in
          ap (onto_first b) (parts_more bs (omega (arith, more))) ∙ ap (λ k. (b ∷ take n bs) ∷ parts_between is_slash (drop k (b ∷ bs))) (sym after)
    ] some

-- the word ends with the part at this place
pub parts_end : (word rest : List ℕ) (parts new : List (List ℕ)) (at end : ℕ) → rest ≡ drop at word → end ≡ front_len is_slash rest → end ≡ length rest
    → parts ++ parts_between is_slash (drop at word) ≡ parts_between is_slash word → new ≡ parts ++ take end rest ∷ [] → new ≡ parts_between is_slash word
parts_end word rest parts new at end is len all whole took =
    let last : parts_between is_slash rest ≡ take end rest ∷ [] = parts_last rest (sym len ∙ all) ∙ ap (λ k. take k rest ∷ []) (sym len) in
    took ∙ ap (λ ps. parts ++ ps) (sym last ∙ ap (parts_between is_slash) is) ∙ whole

-- others follow behind it
pub parts_next : (word rest : List ℕ) (parts new : List (List ℕ)) (at end : ℕ) → at ≤ length word → rest ≡ drop at word → end ≡ front_len is_slash rest → end ≤ length rest → (end ≡ length rest → ⊥)
    → parts ++ parts_between is_slash (drop at word) ≡ parts_between is_slash word → new ≡ parts ++ take end rest ∷ []
    → (at + (end + 1) ≤ length word) × (new ++ parts_between is_slash (drop (at + (end + 1)) word) ≡ parts_between is_slash word)
parts_next word rest parts new at end low is len fits not_all whole took =
    let some : front_len is_slash rest < length rest = omega (arith, len, fits, not_all) in
    let here : parts_between is_slash rest ≡ take end rest ∷ parts_between is_slash (drop (end + 1) rest) =
    parts_more rest some ∙ ap (λ k. take k rest ∷ parts_between is_slash (drop (k + 1) rest)) (sym len) in
    let behind : drop (end + 1) rest ≡ drop (at + (end + 1)) word = ap (drop (end + 1)) is ∙ drop-drop (end + 1) at word in (
      omega (arith, ap length is, length-drop at word, fits, not_all, low),
      ap (λ ps. ps ++ parts_between is_slash (drop (at + (end + 1)) word)) took
          ∙ append_assoc parts (take end rest ∷ []) (parts_between is_slash (drop (at + (end + 1)) word))
          ∙ ap (λ bs. parts ++ take end rest ∷ parts_between is_slash bs) (sym behind)
          ∙ ap (λ ps. parts ++ ps) (sym here ∙ ap (parts_between is_slash) is) ∙ whole,
    )
