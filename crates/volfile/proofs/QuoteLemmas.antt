-- A line that its quotes cut: no quote, one that is open, one text, and more.
use Rattle.std.proofs.Common.{◌≡◌, ℕ, ◌+◌, ◌<◌, ◌==◌, ◌&&◌, Bool, true, false, cond, List, [], ◌∷◌, ◌++◌, length, take, drop, Some, None, refl, sym, ap, ◌∙◌, arith}
use Rattle.std.proofs.lemmas.List.{take_all}
use Rattle.volfile.specs.TextLines.{front_len, parts_between, onto_first, words_of}
use Rattle.volfile.specs.VolfileText.{is_quote, is_option_and_key, ends_blank, begins_blank, words_around, words_said, are_two_parts, is_type}
use Rattle.volfile.proofs.PartLemmas.{parts_whole, parts_cut, parts_two}

-- there is always a part
parts_some : (test : ℕ → Bool) (bs : List ℕ) → (p : List ℕ) × (ps : List (List ℕ)) × (parts_between test bs ≡ p ∷ ps)
parts_some test [] = ([], [], refl)
parts_some test (b ∷ bs) =
    let rest = parts_some test bs in
    elim (test b) as (λ t. (p : List ℕ) × (ps : List (List ℕ)) × (cond t ([] ∷ parts_between test bs) (onto_first b (parts_between test bs)) ≡ p ∷ ps)) [
      | true ↦ ([], parts_between test bs, refl)
      | false ↦ (b ∷ rest.0, rest.1, ap (onto_first b) rest.2)
    ]

pub no_quote : (words : List (List ℕ)) (line : List ℕ) (n : ℕ) → n ≡ front_len is_quote line → n ≡ length line → words ≡ words_of (take n line) → Some words ≡ words_said line
no_quote words line n is all made =
    let whole : take n line ≡ line = take_all n line (omega (arith, all)) in
    ap Some (made ∙ ap words_of whole) ∙ sym (ap words_around (parts_whole is_quote line (sym is ∙ all)))

pub open_quote : (line rest : List ℕ) (n m : ℕ) → n ≡ front_len is_quote line → n < length line → rest ≡ drop (n + 1) line → m ≡ front_len is_quote rest → m ≡ length rest → None ≡ words_said line
open_quote line rest n m is within there next all = sym (ap words_around (parts_two is_quote line rest n is within there (sym next ∙ all)))

three : (line rest behind : List ℕ) (n m : ℕ) → n ≡ front_len is_quote line → n < length line → rest ≡ drop (n + 1) line → m ≡ front_len is_quote rest → m < length rest → behind ≡ drop (m + 1) rest
    → parts_between is_quote line ≡ take n line ∷ take m rest ∷ parts_between is_quote behind
three line rest behind n m is within there next short after =
    parts_cut is_quote line (omega (arith, is, within)) ∙ ap (λ k. take k line ∷ parts_between is_quote (drop (k + 1) line)) (sym is) ∙ ap (λ l. take n line ∷ parts_between is_quote l) (sym there)
    ∙ ap (λ l. take n line ∷ l) (parts_cut is_quote rest (omega (arith, next, short))) ∙ ap (λ k. take n line ∷ take k rest ∷ parts_between is_quote (drop (k + 1) rest)) (sym next)
    ∙ ap (λ l. take n line ∷ take m rest ∷ parts_between is_quote l) (sym after)

pub more_quotes : (line rest behind : List ℕ) (n m : ℕ) → n ≡ front_len is_quote line → n < length line → rest ≡ drop (n + 1) line → m ≡ front_len is_quote rest → m < length rest → behind ≡ drop (m + 1) rest
    → front_len is_quote behind < length behind → None ≡ words_said line
more_quotes line rest behind n m is within there next short after more =
    let last = parts_some is_quote (drop (front_len is_quote behind + 1) behind) in
    sym (ap words_around (three line rest behind n m is within there next short after
    ∙ ap (λ l. take n line ∷ take m rest ∷ l) (parts_cut is_quote behind more ∙ ap (λ l. take (front_len is_quote behind) behind ∷ l) last.2)))

one_text : (line rest behind : List ℕ) (n m : ℕ) → n ≡ front_len is_quote line → n < length line → rest ≡ drop (n + 1) line → m ≡ front_len is_quote rest → m < length rest → behind ≡ drop (m + 1) rest
    → front_len is_quote behind ≡ length behind → words_said line ≡ words_around (take n line ∷ take m rest ∷ behind ∷ [])
one_text line rest behind n m is within there next short after all =
    ap words_around (three line rest behind n m is within there next short after ∙ ap (λ l. take n line ∷ take m rest ∷ l) (parts_whole is_quote behind all))

pub text_refused : (line rest behind : List ℕ) (n m : ℕ) (found : List (List ℕ)) (b : Bool) → n ≡ front_len is_quote line → n < length line → rest ≡ drop (n + 1) line → m ≡ front_len is_quote rest → m < length rest
    → behind ≡ drop (m + 1) rest → front_len is_quote behind ≡ length behind → found ≡ words_of (take n line) → b ≡ (is_option_and_key found && ends_blank (take n line) && begins_blank behind) → b ≡ false
    → None ≡ words_said line
text_refused line rest behind n m found b is within there next short after all words may off =
    let test : (is_option_and_key (words_of (take n line)) && ends_blank (take n line) && begins_blank behind) ≡ false =
    ap (λ (l : List (List ℕ)). is_option_and_key l && ends_blank (take n line) && begins_blank behind) (sym words) ∙ sym may ∙ off in
    sym (one_text line rest behind n m is within there next short after all
    ∙ ap (λ t. cond t (Some (words_of (take n line) ++ take m rest ∷ words_of behind)) None) test)

pub text_taken : (line rest behind : List ℕ) (n m : ℕ) (found words : List (List ℕ)) (b : Bool) → n ≡ front_len is_quote line → n < length line → rest ≡ drop (n + 1) line → m ≡ front_len is_quote rest → m < length rest
    → behind ≡ drop (m + 1) rest → front_len is_quote behind ≡ length behind → found ≡ words_of (take n line) → b ≡ (is_option_and_key found && ends_blank (take n line) && begins_blank behind) → b ≡ true
    → words ≡ found ++ take m rest ∷ words_of behind → Some words ≡ words_said line
text_taken line rest behind n m found words b is within there next short after all before may on made =
    let test : (is_option_and_key (words_of (take n line)) && ends_blank (take n line) && begins_blank behind) ≡ true =
    ap (λ (l : List (List ℕ)). is_option_and_key l && ends_blank (take n line) && begins_blank behind) (sym before) ∙ sym may ∙ on in
    let whole : words ≡ words_of (take n line) ++ take m rest ∷ words_of behind =
    made ∙ ap (λ (l : List (List ℕ)). l ++ take m rest ∷ words_of behind) before in
    ap Some whole ∙ sym (one_text line rest behind n m is within there next short after all
    ∙ ap (λ t. cond t (Some (words_of (take n line) ++ take m rest ∷ words_of behind)) None) test)

-- ---- types
pub no_slash : (word : List ℕ) (n : ℕ) → n ≡ front_len (λ b. b == 47) word → n ≡ length word → false ≡ is_type word
no_slash word n is all = sym (ap are_two_parts (parts_whole (λ b. b == 47) word (sym is ∙ all)))

pub two_slashes : (word rest : List ℕ) (n : ℕ) → n ≡ front_len (λ b. b == 47) word → n < length word → rest ≡ drop (n + 1) word → front_len (λ b. b == 47) rest < length rest → false ≡ is_type word
two_slashes word rest n is within there more =
    let last = parts_some (λ b. b == 47) (drop (front_len (λ b. b == 47) rest + 1) rest) in
    sym (ap are_two_parts (parts_cut (λ b. b == 47) word (omega (arith, is, within)) ∙ ap (λ k. take k word ∷ parts_between (λ b. b == 47) (drop (k + 1) word)) (sym is)
    ∙ ap (λ l. take n word ∷ parts_between (λ b. b == 47) l) (sym there)
    ∙ ap (λ l. take n word ∷ l) (parts_cut (λ b. b == 47) rest more ∙ ap (λ l. take (front_len (λ b. b == 47) rest) rest ∷ l) last.2)))

pub one_slash : (word rest : List ℕ) (n : ℕ) → n ≡ front_len (λ b. b == 47) word → n < length word → rest ≡ drop (n + 1) word → front_len (λ b. b == 47) rest ≡ length rest
    → is_type word ≡ are_two_parts (take n word ∷ rest ∷ [])
one_slash word rest n is within there all = ap are_two_parts (parts_two (λ b. b == 47) word rest n is within there all)
