-- Each printed line is the statement that it was printed for.
use Rattle.std.proofs.Common.{◌≡◌, ℕ, ◌==◌, ◌&&◌, ◌||◌, not, Bool, true, false, cond, List, [], ◌∷◌, ◌++◌, append_assoc, append-nil, length, codes, flat_map, Some, None, Err, refl, sym, ap, ◌∙◌, arith}
use Rattle.std.proofs.lemmas.Bool.Decides.{nat_tests}
use Rattle.std.proofs.lemmas.List.Folds.{list_all-append}
use Rattle.std.specs.Cmp.{first_so, second_so}
use Rattle.std.specs.List.{list_all}
use Rattle.volfile.specs.TextLines.{is_name_byte, is_text_byte, is_blank, words_of, non_empty, parts_between, onto_first, lines_of}
use Rattle.volfile.specs.VolfileText.{Reading, before_comment, is_quote, is_no_backquote, is_option_and_key, ends_blank, words_around, words_said, statement, statement_if, said_read, line_read}
use Rattle.volfile.specs.VolfilePrint.{stands_alone, needs_quotes, value_text, word_text}
use Rattle.volfile.specs.Volumes.{is_plain, is_plain_word, is_value_byte}
use Rattle.volfile.specs.declared.errors.VolKind.TheVariants.{BadByte, Backquote}
use Rattle.volfile.proofs.WellRead.{both_so, weaker}

-- ---- bytes
abbrev pub no_feed : ℕ → Bool
no_feed b = not (b == 10)

-- neither a quote nor a comment sign
abbrev pub is_calm : ℕ → Bool
is_calm b = not (b == 35) && not (b == 34)

-- a byte of a line of plain words with single spaces
abbrev pub is_clear : ℕ → Bool
is_clear b = is_plain b || (b == 32)

pub plain_clear : (b : ℕ) → is_plain b ≡ true → is_clear b ≡ true
plain_clear b h = grind (arith, nat_tests)

pub clear_text : (b : ℕ) → is_clear b ≡ true → is_text_byte b ≡ true
clear_text b h = grind (arith, nat_tests)

pub clear_back : (b : ℕ) → is_clear b ≡ true → is_no_backquote b ≡ true
clear_back b h = grind (arith, nat_tests)

pub clear_calm : (b : ℕ) → is_clear b ≡ true → is_calm b ≡ true
clear_calm b h = grind (arith, nat_tests)

pub clear_quote : (b : ℕ) → is_clear b ≡ true → not (is_quote b) ≡ true
clear_quote b h = grind (arith, nat_tests)

pub clear_feed : (b : ℕ) → is_clear b ≡ true → no_feed b ≡ true
clear_feed b h = grind (arith, nat_tests)

pub plain_blank : (b : ℕ) → is_plain b ≡ true → not (is_blank b) ≡ true
plain_blank b h = grind (arith, nat_tests)

pub value_quote : (b : ℕ) → is_value_byte b ≡ true → not (is_quote b) ≡ true
value_quote b h = grind (arith, nat_tests)

pub value_text_byte : (b : ℕ) → is_value_byte b ≡ true → is_text_byte b ≡ true
value_text_byte b h = grind (arith, nat_tests)

pub value_back : (b : ℕ) → is_value_byte b ≡ true → is_no_backquote b ≡ true
value_back b h = grind (arith, nat_tests)

pub value_feed : (b : ℕ) → is_value_byte b ≡ true → no_feed b ≡ true
value_feed b h = grind (arith, nat_tests)

pub value_plain : (b : ℕ) → is_value_byte b ≡ true → stands_alone b ≡ true → is_plain b ≡ true
value_plain b h k = grind (arith, nat_tests)

pub name_plain : (b : ℕ) → is_name_byte b ≡ true → is_plain b ≡ true
name_plain b h = grind (arith, nat_tests)

pub untrue : (b : Bool) → not b ≡ true → b ≡ false
untrue true h = absurd cc
untrue false h = refl

pub and_false : (a : Bool) → (a && false) ≡ false
and_false true = refl
and_false false = refl

-- ---- fronts
pub lines_front : (w rest : List ℕ) → list_all no_feed w ≡ true → lines_of (w ++ 10 ∷ rest) ≡ w ∷ lines_of rest
lines_front [] rest h = refl
lines_front (b ∷ bs) rest h =
    rw (untrue (b == 10) (first_so (no_feed b) (list_all no_feed bs) h)) (ap (onto_first b) (lines_front bs rest (second_so (no_feed b) (list_all no_feed bs) h)))

pub calm_front : (w rest : List ℕ) → list_all is_calm w ≡ true → before_comment false (w ++ rest) ≡ w ++ before_comment false rest
calm_front [] rest h = refl
calm_front (b ∷ bs) rest h =
    let calm = first_so (is_calm b) (list_all is_calm bs) h in
    let hash = untrue (b == 35) (first_so (not (b == 35)) (not (b == 34)) calm) in
    let quote = untrue (b == 34) (second_so (not (b == 35)) (not (b == 34)) calm) in
    rw hash (rw quote (ap (λ l. b ∷ l) (calm_front bs rest (second_so (is_calm b) (list_all is_calm bs) h))))

pub quoted_front : (w rest : List ℕ) → list_all (λ b. not (is_quote b)) w ≡ true → before_comment true (w ++ rest) ≡ w ++ before_comment true rest
quoted_front [] rest h = refl
quoted_front (b ∷ bs) rest h =
    let quote = untrue (b == 34) (first_so (not (b == 34)) (list_all (λ b. not (is_quote b)) bs) h) in
    rw (and_false (b == 35)) (rw quote (ap (λ l. b ∷ l) (quoted_front bs rest (second_so (not (b == 34)) (list_all (λ b. not (is_quote b)) bs) h))))

module _ (test : ℕ → Bool) where
  pub parts_front : (w : List ℕ) (c : ℕ) (rest : List ℕ) → list_all (λ b. not (test b)) w ≡ true → test c ≡ true → parts_between test (w ++ c ∷ rest) ≡ w ∷ parts_between test rest
  parts_front [] c rest h is = rw is refl
  parts_front (b ∷ bs) c rest h is =
      rw (untrue (test b) (first_so (not (test b)) (list_all (λ b. not (test b)) bs) h))
      (ap (onto_first b) (parts_front bs c rest (second_so (not (test b)) (list_all (λ b. not (test b)) bs) h) is))

  pub parts_alone : (w : List ℕ) → list_all (λ b. not (test b)) w ≡ true → parts_between test w ≡ w ∷ []
  parts_alone [] h = refl
  parts_alone (b ∷ bs) h =
      rw (untrue (test b) (first_so (not (test b)) (list_all (λ b. not (test b)) bs) h))
      (ap (onto_first b) (parts_alone bs (second_so (not (test b)) (list_all (λ b. not (test b)) bs) h)))

-- ---- words
pub plain_bytes : (w : List ℕ) → is_plain_word w ≡ true → list_all is_plain w ≡ true
plain_bytes w h = second_so (not (length w == 0)) (list_all is_plain w) h

pub kept_word : (w : List ℕ) (ws : List (List ℕ)) → is_plain_word w ≡ true → non_empty (w ∷ ws) ≡ w ∷ non_empty ws
kept_word [] ws h = absurd cc
kept_word (b ∷ bs) ws h = refl

pub words_front : (w rest : List ℕ) → is_plain_word w ≡ true → words_of (w ++ 32 ∷ rest) ≡ w ∷ words_of rest
words_front w rest h =
    ap non_empty (parts_front is_blank w 32 rest (weaker is_plain (λ b. not (is_blank b)) plain_blank w (plain_bytes w h)) refl) ∙ kept_word w (parts_between is_blank rest) h

pub words_last : (w : List ℕ) → is_plain_word w ≡ true → words_of w ≡ w ∷ []
words_last w h = ap non_empty (parts_alone is_blank w (weaker is_plain (λ b. not (is_blank b)) plain_blank w (plain_bytes w h))) ∙ kept_word w [] h

abbrev pub are_plain : List (List ℕ) → Bool
are_plain ws = list_all is_plain_word ws

pub words_list : (ws : List (List ℕ)) (w : List ℕ) → is_plain_word w ≡ true → are_plain ws ≡ true → words_of (w ++ flat_map word_text ws) ≡ w ∷ ws
words_list [] w h hs = ap words_of (append-nil w) ∙ words_last w h
words_list (v ∷ vs) w h hs =
    words_front w (v ++ flat_map word_text vs) h ∙ ap (λ l. w ∷ l) (words_list vs v (first_so (is_plain_word v) (are_plain vs) hs) (second_so (is_plain_word v) (are_plain vs) hs))

pub list_clear : (ws : List (List ℕ)) → are_plain ws ≡ true → list_all is_clear (flat_map word_text ws) ≡ true
list_clear [] h = refl
list_clear (w ∷ ws) h =
    list_all-append is_clear w (flat_map word_text ws)
    ∙ both_so (list_all is_clear w) (list_all is_clear (flat_map word_text ws)) (weaker is_plain is_clear plain_clear w (plain_bytes w (first_so (is_plain_word w) (are_plain ws) h))) (list_clear ws (second_so (is_plain_word w) (are_plain ws) h))

-- ---- lines
pub read_by : (r : Reading) (n : ℕ) (line said : List ℕ) (ws : List (List ℕ)) → before_comment false line ≡ said → list_all is_text_byte said ≡ true → list_all is_no_backquote said ≡ true → words_said said ≡ Some ws
    → line_read r n line ≡ statement r n ws
unfolding line_read
read_by r n line said ws is text back words =
    ap (said_read r n) is
    ∙ ap (λ t. cond (not t) (Err BadByte) (cond (not (list_all is_no_backquote said)) (Err Backquote) (statement_if (words_said said) r n))) text
    ∙ ap (λ t. cond (not t) (Err Backquote) (statement_if (words_said said) r n)) back ∙ ap (λ o. statement_if o r n) words

pub clear_read : (r : Reading) (n : ℕ) (line : List ℕ) → list_all is_clear line ≡ true → line_read r n line ≡ statement r n (words_of line)
clear_read r n line h =
    let whole : before_comment false line ≡ line =
    ap (before_comment false) (sym (append-nil line)) ∙ calm_front line [] (weaker is_clear is_calm clear_calm line h) ∙ append-nil line in
    read_by r n line line (words_of line) whole (weaker is_clear is_text_byte clear_text line h) (weaker is_clear is_no_backquote clear_back line h)
    (ap words_around (parts_alone is_quote line (weaker is_clear (λ b. not (is_quote b)) clear_quote line h)))

-- ---- an option's line
pub front_clear : (key : List ℕ) → is_plain_word key ≡ true → list_all is_clear (codes "option " ++ key ++ 32 ∷ []) ≡ true
front_clear key h =
    list_all-append is_clear key (32 ∷ []) ∙ both_so (list_all is_clear key) true (weaker is_plain is_clear plain_clear key (plain_bytes key h)) refl

pub front_words : (key : List ℕ) → is_plain_word key ≡ true → words_of (codes "option " ++ key ++ 32 ∷ []) ≡ codes "option" ∷ key ∷ []
front_words key h = words_front (codes "option") (key ++ 32 ∷ []) refl ∙ ap (λ l. codes "option" ∷ l) (words_front key [] h)

pub ends_after : (w : List ℕ) → ends_blank (w ++ 32 ∷ []) ≡ true
ends_after [] = refl
ends_after (a ∷ []) = refl
ends_after (a ∷ b ∷ bs) = ends_after (b ∷ bs)

pub quoted_read : (r : Reading) (n : ℕ) (key value : List ℕ) → is_plain_word key ≡ true → list_all is_value_byte value ≡ true
    → line_read r n ((codes "option " ++ key ++ 32 ∷ []) ++ 34 ∷ (value ++ 34 ∷ [])) ≡ statement r n (codes "option" ∷ key ∷ value ∷ [])
quoted_read r n key value h k =
    let front = codes "option " ++ key ++ 32 ∷ [] in
    let clear = front_clear key h in
    let line = front ++ 34 ∷ (value ++ 34 ∷ []) in
    let whole : before_comment false line ≡ line =
    calm_front front (34 ∷ (value ++ 34 ∷ [])) (weaker is_clear is_calm clear_calm front clear)
    ∙ ap (λ (l : List ℕ). front ++ 34 ∷ l) (quoted_front value (34 ∷ []) (weaker is_value_byte (λ b. not (is_quote b)) value_quote value k)) in
    let text : list_all is_text_byte line ≡ true =
    list_all-append is_text_byte front (34 ∷ (value ++ 34 ∷ []))
    ∙ both_so (list_all is_text_byte front) (list_all is_text_byte (34 ∷ (value ++ 34 ∷ []))) (weaker is_clear is_text_byte clear_text front clear)
    (list_all-append is_text_byte value (34 ∷ []) ∙ both_so (list_all is_text_byte value) true (weaker is_value_byte is_text_byte value_text_byte value k) refl) in
    let back : list_all is_no_backquote line ≡ true =
    list_all-append is_no_backquote front (34 ∷ (value ++ 34 ∷ []))
    ∙ both_so (list_all is_no_backquote front) (list_all is_no_backquote (34 ∷ (value ++ 34 ∷ []))) (weaker is_clear is_no_backquote clear_back front clear)
    (list_all-append is_no_backquote value (34 ∷ []) ∙ both_so (list_all is_no_backquote value) true (weaker is_value_byte is_no_backquote value_back value k) refl) in
    let parts : parts_between is_quote line ≡ front ∷ value ∷ [] ∷ [] =
    parts_front is_quote front 34 (value ++ 34 ∷ []) (weaker is_clear (λ b. not (is_quote b)) clear_quote front clear) refl
    ∙ ap (λ (l : List (List ℕ)). front ∷ l) (parts_front is_quote value 34 [] (weaker is_value_byte (λ b. not (is_quote b)) value_quote value k) refl) in
    let words = front_words key h in
    let ends : ends_blank front ≡ true = ends_after (codes "option " ++ key) in
    let said : words_said line ≡ Some (codes "option" ∷ key ∷ value ∷ []) =
    ap words_around parts
    ∙ ap (λ (ws : List (List ℕ)). cond (is_option_and_key ws && ends_blank front && true) (Some (ws ++ value ∷ [])) None) words
    ∙ ap (λ t. cond (t && true) (Some (codes "option" ∷ key ∷ value ∷ [])) None) ends in
    read_by r n line line (codes "option" ∷ key ∷ value ∷ []) whole text back said

pub unquoted_read : (r : Reading) (n : ℕ) (key value : List ℕ) → is_plain_word key ≡ true → is_plain_word value ≡ true
    → line_read r n ((codes "option " ++ key ++ 32 ∷ []) ++ value) ≡ statement r n (codes "option" ∷ key ∷ value ∷ [])
unquoted_read r n key value h k =
    let front = codes "option " ++ key ++ 32 ∷ [] in
    let clear : list_all is_clear (front ++ value) ≡ true =
    list_all-append is_clear front value ∙ both_so (list_all is_clear front) (list_all is_clear value) (front_clear key h) (weaker is_plain is_clear plain_clear value (plain_bytes value k)) in
    let words : words_of (front ++ value) ≡ codes "option" ∷ key ∷ value ∷ [] =
    ap (λ l. words_of (codes "option " ++ l)) (append_assoc key (32 ∷ []) value) ∙ words_front (codes "option") (key ++ 32 ∷ value) refl
    ∙ ap (λ l. codes "option" ∷ l) (words_front key value h ∙ ap (λ l. key ∷ l) (words_last value k)) in
    clear_read r n (front ++ value) clear ∙ ap (statement r n) words

pub value_read : (r : Reading) (n : ℕ) (key value : List ℕ) → is_plain_word key ≡ true → list_all is_value_byte value ≡ true
    → line_read r n ((codes "option " ++ key ++ 32 ∷ []) ++ value_text value) ≡ statement r n (codes "option" ∷ key ∷ value ∷ [])
value_read r n key value h k =
    elim (needs_quotes value) as (λ t. needs_quotes value ≡ t → line_read r n ((codes "option " ++ key ++ 32 ∷ []) ++ cond t (34 ∷ (value ++ 34 ∷ [])) value) ≡ statement r n (codes "option" ∷ key ∷ value ∷ [])) [
      | true ↦ λ is. quoted_read r n key value h k
      | false ↦ λ is. unquoted_read r n key value h (plain_value value (length value == 0) is k)
    ] refl
  where
    all_plain : (bs : List ℕ) → list_all is_value_byte bs ≡ true → list_all stands_alone bs ≡ true → list_all is_plain bs ≡ true
    all_plain [] a b = refl
    all_plain (c ∷ cs) a b =
        both_so (is_plain c) (list_all is_plain cs) (value_plain c (first_so (is_value_byte c) (list_all is_value_byte cs) a) (first_so (stands_alone c) (list_all stands_alone cs) b))
        (all_plain cs (second_so (is_value_byte c) (list_all is_value_byte cs) a) (second_so (stands_alone c) (list_all stands_alone cs) b))

    neither : (a b : Bool) → (a || not b) ≡ false → (not a ≡ true) × (b ≡ true)
    neither true b h = absurd cc
    neither false true h = (refl, refl)
    neither false false h = absurd cc

    plain_value : (value : List ℕ) (t : Bool) → needs_quotes value ≡ false → list_all is_value_byte value ≡ true → is_plain_word value ≡ true
    plain_value value t is k =
        let so = neither (length value == 0) (list_all stands_alone value) is in
        both_so (not (length value == 0)) (list_all is_plain value) so.0 (all_plain value k so.1)

pub option_feed : (key value : List ℕ) → is_plain_word key ≡ true → list_all is_value_byte value ≡ true → list_all no_feed ((codes "option " ++ key ++ 32 ∷ []) ++ value_text value) ≡ true
option_feed key value h k =
    let front = codes "option " ++ key ++ 32 ∷ [] in
    list_all-append no_feed front (value_text value)
    ∙ both_so (list_all no_feed front) (list_all no_feed (value_text value)) (weaker is_clear no_feed clear_feed front (front_clear key h)) (by_quotes (needs_quotes value))
  where
    by_quotes : (t : Bool) → list_all no_feed (cond t (34 ∷ (value ++ 34 ∷ [])) value) ≡ true
    by_quotes true = list_all-append no_feed value (34 ∷ []) ∙ both_so (list_all no_feed value) true (weaker is_value_byte no_feed value_feed value k) refl
    by_quotes false = weaker is_value_byte no_feed value_feed value k
