-- Cutting bytes at those that pass a test: a text into lines, a line into words.
use Rattle.std.proofs.Common.{◌≡◌, get_or, ◌⊎◌, inl, inr, nat_lt, ℕ, suc, ◌+◌, ◌-◌, ◌<◌, ◌≤◌, ◌==◌, ◌&&◌, Bool, true, false, not, cond, List, [], ◌∷◌, length, length-take, length-drop, take, drop, refl, sym, ap, ◌∙◌, arith}
use Rattle.std.proofs.lemmas.List.{drop-drop, drop_all, take_all}
use Rattle.std.proofs.lemmas.Bool.{ltb-true, ltb-false}
use Rattle.volfile.specs.TextLines.{lines_of, onto_first, front_len, parts_between, non_empty, with_word, words_of, is_blank}
use Rattle.volfile.specs.VolfileText.{before_comment, ends_blank}

module _ (test : ℕ → Bool) where
  pub front_within : (bs : List ℕ) → front_len test bs ≤ length bs
  front_within [] = omega arith
  front_within (b ∷ bs) =
      elim (test b) as (λ t. cond t 0 (suc (front_len test bs)) ≤ suc (length bs)) [
        | true ↦ omega arith
        | false ↦ omega (arith, front_within bs)
      ]

  -- bytes of which none passes are their only part
  pub parts_whole : (bs : List ℕ) → front_len test bs ≡ length bs → parts_between test bs ≡ bs ∷ []
  parts_whole [] all = refl
  parts_whole (b ∷ bs) all =
      elim (test b) as (λ t. cond t 0 (suc (front_len test bs)) ≡ suc (length bs) → cond t ([] ∷ parts_between test bs) (onto_first b (parts_between test bs)) ≡ (b ∷ bs) ∷ []) [
        | true ↦ λ e. absurd (omega (arith, e))
        | false ↦ λ e. ap (onto_first b) (parts_whole bs (omega (arith, e)))
      ] all

  -- the first part, and those behind the byte that passes
  pub parts_cut : (bs : List ℕ) → front_len test bs < length bs → parts_between test bs ≡ take (front_len test bs) bs ∷ parts_between test (drop (front_len test bs + 1) bs)
  parts_cut [] some = absurd (omega (arith, some))
  parts_cut (b ∷ bs) some =
      elim (test b) as (λ t. cond t 0 (suc (front_len test bs)) < suc (length bs) → cond t ([] ∷ parts_between test bs) (onto_first b (parts_between test bs))
      ≡ take (cond t 0 (suc (front_len test bs))) (b ∷ bs) ∷ parts_between test (drop (cond t 0 (suc (front_len test bs)) + 1) (b ∷ bs))) [
        | true ↦ λ h. refl
        | false ↦ λ h.
            let n = front_len test bs in
            let after : suc n + 1 ≡ suc (n + 1) = omega arith in
            ap (onto_first b) (parts_cut bs (omega (arith, h))) ∙ ap (λ k. (b ∷ take n bs) ∷ parts_between test (drop k (b ∷ bs))) (sym after)
      ] some

  -- bytes of which one passes are two parts
  pub parts_two : (bs rest : List ℕ) (n : ℕ) → n ≡ front_len test bs → n < length bs → rest ≡ drop (n + 1) bs → front_len test rest ≡ length rest
      → parts_between test bs ≡ take n bs ∷ rest ∷ []
  parts_two bs rest n is within there all =
      parts_cut bs (omega (arith, is, within)) ∙ ap (λ k. take k bs ∷ parts_between test (drop (k + 1) bs)) (sym is)
      ∙ ap (λ l. take n bs ∷ parts_between test l) (sym there) ∙ ap (λ l. take n bs ∷ l) (parts_whole rest all)

-- a place behind what was cut off at another place
pub behind : (text rest : List ℕ) (at n : ℕ) → rest ≡ drop at text → n ≤ length rest → drop (n + 1) rest ≡ drop (at + (length (take n rest) + 1)) text
behind text rest at n is short =
    let taken : length (take n rest) ≡ n = omega (arith, length-take n rest, short) in
    let place : at + (n + 1) ≡ at + (length (take n rest) + 1) = omega (arith, taken) in
    ap (drop (n + 1)) is ∙ drop-drop (n + 1) at text ∙ ap (λ k. drop k text) place

-- the first line, and those behind its line feed
pub lines_cut : (bs : List ℕ) → 0 < length bs → lines_of bs ≡ take (front_len (λ b. b == 10) bs) bs ∷ lines_of (drop (front_len (λ b. b == 10) bs + 1) bs)
lines_cut [] some = absurd (omega (arith, some))
lines_cut (b ∷ bs) some =
    elim (b == 10) as (λ t. cond t ([] ∷ lines_of bs) (onto_first b (lines_of bs))
    ≡ take (cond t 0 (suc (front_len (λ b. b == 10) bs))) (b ∷ bs) ∷ lines_of (drop (cond t 0 (suc (front_len (λ b. b == 10) bs)) + 1) (b ∷ bs))) [
      | true ↦ refl
      | false ↦ longer b bs (λ more. lines_cut bs more)
    ]
  where
    longer : (b : ℕ) (bs : List ℕ) → (0 < length bs → lines_of bs ≡ take (front_len (λ b. b == 10) bs) bs ∷ lines_of (drop (front_len (λ b. b == 10) bs + 1) bs))
        → onto_first b (lines_of bs) ≡ (b ∷ take (front_len (λ b. b == 10) bs) bs) ∷ lines_of (drop (suc (front_len (λ b. b == 10) bs) + 1) (b ∷ bs))
    longer b [] next = refl
    longer b (c ∷ cs) next =
        let n = front_len (λ b. b == 10) (c ∷ cs) in
        let after : suc n + 1 ≡ suc (n + 1) = omega arith in
        ap (onto_first b) (next (omega arith)) ∙ ap (λ k. (b ∷ take n (c ∷ cs)) ∷ lines_of (drop k (b ∷ c ∷ cs))) (sym after)

-- the same at a place in the text
pub line_cut : (text rest : List ℕ) (at n : ℕ) → at < length text → rest ≡ drop at text → n ≡ front_len (λ b. b == 10) rest → n ≤ length rest
    → lines_of (drop at text) ≡ take n rest ∷ lines_of (drop (at + (length (take n rest) + 1)) text)
line_cut text rest at n within is len short =
    let cut = lines_cut rest (omega (arith, ap length is, length-drop at text)) in
    ap lines_of (sym is) ∙ cut ∙ ap (λ k. take k rest ∷ lines_of (drop (k + 1) rest)) (sym len) ∙ ap (λ l. take n rest ∷ lines_of l) (behind text rest at n is short)

-- a part is a word where it is not empty
pub non_empty_first : (w : List ℕ) (ws : List (List ℕ)) → non_empty (w ∷ ws) ≡ with_word w (non_empty ws)
non_empty_first [] ws = refl
non_empty_first (b ∷ bs) ws = refl

-- the first part of a line, and the words behind it
word_cut_by : (bs : List ℕ) (n : ℕ) → n ≡ front_len is_blank bs → (b : Bool) → (n < length bs) ⊎ (n ≡ length bs) → words_of bs ≡ with_word (take n bs) (words_of (drop (n + 1) bs))
word_cut_by bs n is b (inl short) =
    ap non_empty (parts_cut is_blank bs (omega (arith, is, short))) ∙ ap (λ k. non_empty (take k bs ∷ parts_between is_blank (drop (k + 1) bs))) (sym is)
    ∙ non_empty_first (take n bs) (parts_between is_blank (drop (n + 1) bs))
word_cut_by bs n is b (inr all) =
    ap non_empty (parts_whole is_blank bs (sym is ∙ all)) ∙ non_empty_first bs [] ∙ ap (λ w. with_word w []) (sym (take_all n bs (omega (arith, all))))
    ∙ ap (λ l. with_word (take n bs) (words_of l)) (sym (drop_all (n + 1) bs (omega (arith, all))))

word_cut : (bs : List ℕ) (n : ℕ) → n ≡ front_len is_blank bs → n ≤ length bs → words_of bs ≡ with_word (take n bs) (words_of (drop (n + 1) bs))
word_cut bs n is short = word_cut_by bs n is true (nearer n (length bs) short)
  where
    nearer : (n m : ℕ) → n ≤ m → (n < m) ⊎ (n ≡ m)
    nearer n m h = elim (nat_lt n m) as (λ b. nat_lt n m ≡ b → (n < m) ⊎ (n ≡ m)) [
      | true ↦ λ is. inl (ltb-true n m is)
      | false ↦ λ is. inr (omega (arith, h, ltb-false n m is))
    ] refl

-- the same at a place in the line
pub part_cut : (line rest : List ℕ) (at n : ℕ) → rest ≡ drop at line → n ≡ front_len is_blank rest → n ≤ length rest
    → words_of (drop at line) ≡ with_word (take n rest) (words_of (drop (at + (length (take n rest) + 1)) line))
part_cut line rest at n is len short =
    ap words_of (sym is) ∙ word_cut rest n len short ∙ ap (λ l. with_word (take n rest) (words_of l)) (behind line rest at n is short)

-- what is before a comment is a prefix of the line
pub comment_front : (line : List ℕ) (inside : Bool) → take (length (before_comment inside line)) line ≡ before_comment inside line
comment_front [] inside = refl
comment_front (b ∷ bs) inside =
    elim ((b == 35) && not inside) as (λ t. take (length (cond t [] (b ∷ before_comment (cond (b == 34) (not inside) inside) bs))) (b ∷ bs) ≡ cond t [] (b ∷ before_comment (cond (b == 34) (not inside) inside) bs)) [
      | true ↦ refl
      | false ↦ ap (λ l. b ∷ l) (comment_front bs (cond (b == 34) (not inside) inside))
    ]

-- the last byte
pub ends_at : (bs : List ℕ) (d : ℕ) → 0 < length bs → is_blank (get_or bs (length bs - 1) d) ≡ ends_blank bs
ends_at [] d some = absurd (omega (arith, some))
ends_at (b ∷ []) d some = refl
ends_at (b ∷ c ∷ cs) d some =
    let last : length (b ∷ c ∷ cs) - 1 ≡ suc (length (c ∷ cs) - 1) = omega arith in
    ap (λ k. is_blank (get_or (b ∷ c ∷ cs) k d)) last ∙ ends_at (c ∷ cs) d (omega arith)
