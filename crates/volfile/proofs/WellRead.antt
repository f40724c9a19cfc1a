-- What is read keeps its form: each line leaves volumes, and a block, that the grammar could have given.
use Rattle.std.proofs.Common.{◌≡◌, ℕ, suc, ◌==◌, ◌&&◌, ◌||◌, not, Bool, true, false, cond, List, [], ◌∷◌, ◌++◌, append_assoc, append-nil, length, codes, Option, Some, None, Result, Ok, Err, refl, sym, ap, subst, ◌∙◌, arith}
use Rattle.std.specs.Prelude.{⊤, is_some, nat_le}
use Rattle.std.proofs.lemmas.Bool.Decides.{nat_tests}
use Rattle.std.proofs.lemmas.List.Folds.{list_all-append}
use Rattle.std.specs.Cmp.{first_so, second_so}
use Rattle.std.specs.List.{list_all}
use Rattle.volfile.specs.TextLines.{is_name, is_text, is_text_byte, is_blank, words_of, non_empty, parts_between, onto_first, lines_of, line_after}
use Rattle.volfile.specs.VolumeNames.{place_of}
use Rattle.volfile.specs.VolfileText.{Reading, nothing_read, before_comment, is_quote, is_no_backquote, is_option_and_key, ends_blank, begins_blank, words_around, words_said, is_type, is_defined, volume_begun, type_given, option_given, subvolumes_given, with_block, block_ended, said_inside, said_in, statement, statement_if, line_read, ended_by, read_on, lines_read, parsed}
use Rattle.volfile.specs.Volumes.{is_plain, is_plain_word, is_value_byte, is_option, is_kind, IsBlock, AreVolumes, IsOpen, IsRead}
use Rattle.volfile.specs.declared.volumes.OptionLine.{OptionLine}
use Rattle.volfile.specs.declared.volumes.Volume.{Volume}
use Rattle.volfile.specs.declared.volumes.Volfile.{Volfile}
use Rattle.volfile.specs.declared.errors.VolKind.{VolKind}

-- ---- choices that did not end in a refusal
pub past : {A E : Type 0} (b : Bool) (e : E) (x : Result A E) (s : A) → cond b (Err e) x ≡ Ok s → (b ≡ false) × (x ≡ Ok s)
past true e x s h = absurd cc
past false e x s h = (refl, h)

pub chosen : {A E : Type 0} (b : Bool) (e : E) (x : Result A E) (s : A) → cond b x (Err e) ≡ Ok s → (b ≡ true) × (x ≡ Ok s)
chosen true e x s h = (refl, h)
chosen false e x s h = absurd cc

pub ok_same : {A E : Type 0} (x y : A) → ◌≡◌ {A = Result A E} (Ok x) (Ok y) → x ≡ y
ok_same x y h = cc

pub not_false : (b : Bool) → not b ≡ false → b ≡ true
not_false true h = refl
not_false false h = absurd cc

pub both_so : (a b : Bool) → a ≡ true → b ≡ true → (a && b) ≡ true
both_so a b h k = rw h (rw k refl)

pub suc_some : (n : ℕ) → (suc n == 0) ≡ false
suc_some n = grind (arith, nat_tests)

-- ---- bytes
-- a byte outside quotes: of a plain word, or a blank
abbrev pub is_outside : ℕ → Bool
is_outside b = is_plain b || is_blank b

outside_byte : (b : ℕ) → is_text_byte b ≡ true → is_no_backquote b ≡ true → (b == 34) ≡ false → (b == 35) ≡ false → is_outside b ≡ true
outside_byte b text back quote hash = grind (arith, nat_tests)

inside_byte : (b : ℕ) → is_text_byte b ≡ true → is_no_backquote b ≡ true → (b == 34) ≡ false → is_value_byte b ≡ true
inside_byte b text back quote = grind (arith, nat_tests)

plain_value : (b : ℕ) → is_plain b ≡ true → is_value_byte b ≡ true
plain_value b plain = grind (arith, nat_tests)

plain_byte : (b : ℕ) → is_outside b ≡ true → is_blank b ≡ false → is_plain b ≡ true
plain_byte b out blank = grind (arith, nat_tests)

pub weaker : (p q : ℕ → Bool) → ((b : ℕ) → p b ≡ true → q b ≡ true) → (bs : List ℕ) → list_all p bs ≡ true → list_all q bs ≡ true
weaker p q leads [] h = refl
weaker p q leads (b ∷ bs) h = both_so (q b) (list_all q bs) (leads b (first_so (p b) (list_all p bs) h)) (weaker p q leads bs (second_so (p b) (list_all p bs) h))

-- ---- the parts of a line between its quotes: outside and inside take turns
abbrev pub AreParts : Bool → List (List ℕ) → Type 0
AreParts inside [] = ⊤
AreParts false (p ∷ ps) = (list_all is_outside p ≡ true) × AreParts true ps
AreParts true (p ∷ ps) = (list_all is_value_byte p ≡ true) × AreParts false ps

onto_outside : (b : ℕ) (ps : List (List ℕ)) → is_outside b ≡ true → AreParts false ps → AreParts false (onto_first b ps)
onto_outside b [] is h = (both_so (is_outside b) true is refl, tt)
onto_outside b (p ∷ ps) is h = (both_so (is_outside b) (list_all is_outside p) is h.0, h.1)

onto_inside : (b : ℕ) (ps : List (List ℕ)) → is_value_byte b ≡ true → AreParts true ps → AreParts true (onto_first b ps)
onto_inside b [] is h = (both_so (is_value_byte b) true is refl, tt)
onto_inside b (p ∷ ps) is h = (both_so (is_value_byte b) (list_all is_value_byte p) is h.0, h.1)

begun : (inside : Bool) (ps : List (List ℕ)) → AreParts (not inside) ps → AreParts inside ([] ∷ ps)
begun false ps h = (refl, h)
begun true ps h = (refl, h)

onto : (inside : Bool) (b : ℕ) (ps : List (List ℕ)) → is_text_byte b ≡ true → is_no_backquote b ≡ true → (b == 34) ≡ false → ((b == 35) && not inside) ≡ false → AreParts inside ps → AreParts inside (onto_first b ps)
onto false b ps text back quote hash h = onto_outside b ps (outside_byte b text back quote (unhashed (b == 35) hash)) h
  where
    unhashed : (t : Bool) → (t && true) ≡ false → t ≡ false
    unhashed true e = e
    unhashed false e = refl
onto true b ps text back quote hash h = onto_inside b ps (inside_byte b text back quote) h

pub parts_clear : (line : List ℕ) (inside : Bool) → list_all is_text_byte (before_comment inside line) ≡ true → list_all is_no_backquote (before_comment inside line) ≡ true
    → AreParts inside (parts_between is_quote (before_comment inside line))
parts_clear [] inside text back = begun inside [] tt
parts_clear (b ∷ bs) inside text back =
    elim ((b == 35) && not inside) as (λ t. ((b == 35) && not inside) ≡ t → list_all is_text_byte (cond t [] (b ∷ before_comment (cond (b == 34) (not inside) inside) bs)) ≡ true
    → list_all is_no_backquote (cond t [] (b ∷ before_comment (cond (b == 34) (not inside) inside) bs)) ≡ true
    → AreParts inside (parts_between is_quote (cond t [] (b ∷ before_comment (cond (b == 34) (not inside) inside) bs)))) [
      | true ↦ λ is text back. begun inside [] tt
      | false ↦ λ hash text back. quoted (b == 34) refl hash (first_so (is_text_byte b) _ text) (second_so (is_text_byte b) _ text) (first_so (is_no_backquote b) _ back) (second_so (is_no_backquote b) _ back) (λ k t u. parts_clear bs k t u)
    ] refl text back
  where
    quoted : (q : Bool) → (b == 34) ≡ q → ((b == 35) && not inside) ≡ false → is_text_byte b ≡ true → list_all is_text_byte (before_comment (cond q (not inside) inside) bs) ≡ true
        → is_no_backquote b ≡ true → list_all is_no_backquote (before_comment (cond q (not inside) inside) bs) ≡ true
        → ((k : Bool) → list_all is_text_byte (before_comment k bs) ≡ true → list_all is_no_backquote (before_comment k bs) ≡ true → AreParts k (parts_between is_quote (before_comment k bs)))
        → AreParts inside (cond (b == 34) ([] ∷ parts_between is_quote (before_comment (cond q (not inside) inside) bs)) (onto_first b (parts_between is_quote (before_comment (cond q (not inside) inside) bs))))
    quoted true is hash first texts second backs rest = rw is (begun inside (parts_between is_quote (before_comment (not inside) bs)) (rest (not inside) texts backs))
    quoted false is hash first texts second backs rest =
        rw is (onto inside b (parts_between is_quote (before_comment inside bs)) first second is hash (rest inside texts backs))

-- ---- the words of what is outside
abbrev pub ArePlain : List (List ℕ) → Type 0
ArePlain [] = ⊤
ArePlain (w ∷ ws) = (is_plain_word w ≡ true) × ArePlain ws

-- parts of plain bytes, of which the empty ones are no words
abbrev pub ArePieces : List (List ℕ) → Type 0
ArePieces [] = ⊤
ArePieces (p ∷ ps) = (list_all is_plain p ≡ true) × ArePieces ps

onto_piece : (b : ℕ) (ps : List (List ℕ)) → is_plain b ≡ true → ArePieces ps → ArePieces (onto_first b ps)
onto_piece b [] is h = (both_so (is_plain b) true is refl, tt)
onto_piece b (p ∷ ps) is h = (both_so (is_plain b) (list_all is_plain p) is h.0, h.1)

pieces_plain : (bs : List ℕ) → list_all is_outside bs ≡ true → ArePieces (parts_between is_blank bs)
pieces_plain [] h = (refl, tt)
pieces_plain (b ∷ bs) h =
    elim (is_blank b) as (λ t. is_blank b ≡ t → ArePieces (cond t ([] ∷ parts_between is_blank bs) (onto_first b (parts_between is_blank bs)))) [
      | true ↦ λ is. (refl, pieces_plain bs (second_so (is_outside b) (list_all is_outside bs) h))
      | false ↦ λ is. onto_piece b (parts_between is_blank bs) (plain_byte b (first_so (is_outside b) (list_all is_outside bs) h) is) (pieces_plain bs (second_so (is_outside b) (list_all is_outside bs) h))
    ] refl

words_plain : (ps : List (List ℕ)) → ArePieces ps → ArePlain (non_empty ps)
words_plain [] h = tt
words_plain ([] ∷ ps) h = words_plain ps h.1
words_plain ((b ∷ bs) ∷ ps) h = (both_so (not (suc (length bs) == 0)) (list_all is_plain (b ∷ bs)) (ap not (suc_some (length bs))) h.0, words_plain ps h.1)

-- what the words of a statement are: its first two are plain, and its third may be a value
abbrev pub AreSaid : List (List ℕ) → Type 0
AreSaid [] = ⊤
AreSaid (word ∷ []) = is_plain_word word ≡ true
AreSaid (word ∷ second ∷ []) = (is_plain_word word ≡ true) × (is_plain_word second ≡ true)
AreSaid (word ∷ second ∷ third ∷ rest) = (is_plain_word word ≡ true) × (is_plain_word second ≡ true) × (list_all is_value_byte third ≡ true)

plain_said : (ws : List (List ℕ)) → ArePlain ws → AreSaid ws
plain_said [] h = tt
plain_said (a ∷ []) h = h.0
plain_said (a ∷ b ∷ []) h = (h.0, h.1.0)
plain_said (a ∷ b ∷ c ∷ rest) h = (h.0, h.1.0, weaker is_plain is_value_byte plain_value c (second_so (not (length c == 0)) (list_all is_plain c) h.1.1.0))

text_said : (ws : List (List ℕ)) (text : List ℕ) (rest : List (List ℕ)) → is_option_and_key ws ≡ true → ArePlain ws → list_all is_value_byte text ≡ true → AreSaid (ws ++ text ∷ rest)
text_said [] text rest is h t = absurd cc
text_said (a ∷ []) text rest is h t = absurd cc
text_said (a ∷ b ∷ []) text rest is h t = (h.0, h.1.0, t)
text_said (a ∷ b ∷ c ∷ more) text rest is h t = absurd cc

some_same : {A : Type 0} (x y : A) → ◌≡◌ {A = Option A} (Some x) (Some y) → x ≡ y
some_same x y h = cc

around_said : (ps : List (List ℕ)) (ws : List (List ℕ)) → AreParts false ps → words_around ps ≡ Some ws → AreSaid ws
around_said [] ws h e = absurd cc
around_said (p ∷ []) ws h e = subst AreSaid (some_same _ _ e) (plain_said (words_of p) (words_plain (parts_between is_blank p) (pieces_plain p h.0)))
around_said (p ∷ q ∷ []) ws h e = absurd cc
around_said (p ∷ q ∷ r ∷ []) ws h e = may (is_option_and_key (words_of p)) (ends_blank p) (begins_blank r) refl e
  where
    may : (a b c : Bool) → is_option_and_key (words_of p) ≡ a → cond (a && b && c) (Some (words_of p ++ q ∷ words_of r)) None ≡ Some ws → AreSaid ws
    may true true true is e = subst AreSaid (some_same _ _ e) (text_said (words_of p) q (words_of r) is (words_plain (parts_between is_blank p) (pieces_plain p h.0)) h.1.0)
    may true true false is e = absurd cc
    may true false c is e = absurd cc
    may false b c is e = absurd cc
around_said (p ∷ q ∷ r ∷ s ∷ rest) ws h e = absurd cc

-- ---- each statement
none_of : (o : Option ℕ) → is_some o ≡ false → o ≡ None
none_of None h = refl
none_of (Some n) h = absurd cc

begun_kept : (vs : List Volume) (n : ℕ) (rest : List (List ℕ)) (s : Reading) → AreVolumes [] vs → volume_begun vs n rest ≡ Ok s → IsRead s
begun_kept vs n [] s h e = absurd cc
begun_kept vs n (name ∷ []) s h e =
    let named = past (not (is_name name)) _ _ s e in
    let fresh = past (is_defined vs name) _ _ s named.1 in
    let room = past (nat_le 256 (length vs)) _ _ s fresh.1 in
    subst IsRead (ok_same _ _ room.1) (record {
      volumes = h;
      block = record { name = not_false (is_name name) named.0; fresh = none_of (place_of name vs) fresh.0; room = room.0; kind = refl; options = refl; names = refl; defined = refl };
    })
begun_kept vs n (name ∷ more ∷ rest) s h e = absurd cc

or_right : (a b : Bool) → b ≡ true → (a || b) ≡ true
or_right true b h = refl
or_right false b h = h

type_kept : (vs : List Volume) (v : Volume) (word : List ℕ) (rest : List (List ℕ)) (w : Volume) → IsBlock vs v → AreSaid (word ∷ rest) → type_given v rest ≡ Ok w → IsBlock vs w
type_kept vs v word [] w h said e = absurd cc
type_kept vs v word (kind ∷ []) w h said e =
    let typed = chosen (is_type kind) _ _ w e in
    let is : is_kind kind ≡ true = or_right (length kind == 0) (is_type kind && is_plain_word kind) (both_so (is_type kind) (is_plain_word kind) typed.0 said.1) in
    subst (IsBlock vs) (ok_same _ _ typed.1) (record { name = h.name; fresh = h.fresh; room = h.room; kind = is; options = h.options; names = h.names; defined = h.defined })
type_kept vs v word (kind ∷ more ∷ rest) w h said e = absurd cc

option_kept : (vs : List Volume) (v : Volume) (word : List ℕ) (rest : List (List ℕ)) (w : Volume) → IsBlock vs v → AreSaid (word ∷ rest) → option_given v rest ≡ Ok w → IsBlock vs w
option_kept vs v word [] w h said e = absurd cc
option_kept vs v word (key ∷ []) w h said e = absurd cc
option_kept vs v word (key ∷ value ∷ []) w h said e =
    let o : OptionLine = record { key = key; value = value } in
    let fits : is_option o ≡ true = both_so (is_plain_word key) (list_all is_value_byte value) said.1 said.2 in
    let all : list_all is_option (v.options ++ o ∷ []) ≡ true =
    list_all-append is_option v.options (o ∷ []) ∙ both_so (list_all is_option v.options) (is_option o && true) h.options (both_so (is_option o) true fits refl) in
    subst (IsBlock vs) (ok_same _ _ e) (record { name = h.name; fresh = h.fresh; room = h.room; kind = h.kind; options = all; names = h.names; defined = h.defined })
option_kept vs v word (key ∷ value ∷ more ∷ rest) w h said e = absurd cc

subvolumes_kept : (vs : List Volume) (v : Volume) (rest : List (List ℕ)) (w : Volume) → IsBlock vs v → subvolumes_given vs v rest ≡ Ok w → IsBlock vs w
subvolumes_kept vs v rest w h e =
    let some = past (length rest == 0) _ _ w e in
    let names = past (not (list_all is_name rest)) _ _ w some.1 in
    let known = past (not (list_all (is_defined vs) rest)) _ _ w names.1 in
    subst (IsBlock vs) (ok_same _ _ known.1) (record {
      name = h.name;
      fresh = h.fresh;
      room = h.room;
      kind = h.kind;
      options = h.options;
      names = not_false (list_all is_name rest) names.0;
      defined = not_false (list_all (is_defined vs) rest) known.0;
    })

pub volumes_push : (vs before : List Volume) (v : Volume) → AreVolumes before vs → IsBlock (before ++ vs) v → (length v.kind == 0) ≡ false → AreVolumes before (vs ++ v ∷ [])
volumes_push [] before v h b t = (subst (λ l. IsBlock l v) (append-nil before) b, t, tt)
volumes_push (u ∷ us) before v h b t = (h.0, h.1, volumes_push us (before ++ u ∷ []) v h.2 (subst (λ l. IsBlock l v) (sym (append_assoc before (u ∷ []) us)) b) t)

ended_kept : (vs : List Volume) (v : Volume) (rest : List (List ℕ)) (s : Reading) → AreVolumes [] vs → IsBlock vs v → block_ended vs v rest ≡ Ok s → IsRead s
ended_kept vs v rest s h b e =
    let alone = past (not (length rest == 0)) _ _ s e in
    let typed = past (length v.kind == 0) _ _ s alone.1 in
    subst IsRead (ok_same _ _ typed.1) (record { volumes = volumes_push vs [] v h b typed.0; block = tt })

block_kept : (vs : List Volume) (r : Result Volume VolKind) (s : Reading) → AreVolumes [] vs → ((w : Volume) → r ≡ Ok w → IsBlock vs w) → with_block vs r ≡ Ok s → IsRead s
block_kept vs (Err k) s h kept e = absurd cc
block_kept vs (Ok w) s h kept e = subst IsRead (ok_same _ _ e) (record { volumes = h; block = kept w refl })

picked : {A E Q : Type 0} (a b c d : Bool) (p q r t : Result A E) (k : E) (s : A) → (p ≡ Ok s → Q) → (q ≡ Ok s → Q) → (r ≡ Ok s → Q) → (t ≡ Ok s → Q)
    → cond a p (cond b q (cond c r (cond d t (Err k)))) ≡ Ok s → Q
picked true b c d p q r t k s f g h i e = f e
picked false true c d p q r t k s f g h i e = g e
picked false false true d p q r t k s f g h i e = h e
picked false false false true p q r t k s f g h i e = i e
picked false false false false p q r t k s f g h i e = absurd cc

inside_kept : (vs : List Volume) (v : Volume) (word : List ℕ) (rest : List (List ℕ)) (s : Reading) → AreVolumes [] vs → IsBlock vs v → AreSaid (word ∷ rest) → said_inside vs v word rest ≡ Ok s → IsRead s
inside_kept vs v word rest s h b said e =
    picked (is_text word (codes "type") && (length v.kind == 0)) (is_text word (codes "option")) (is_text word (codes "subvolumes") && (length v.subvolumes == 0)) (is_text word (codes "end-volume")) _ _ _ _ _ s
    (block_kept vs (type_given v rest) s h (λ w is. type_kept vs v word rest w b said is))
    (block_kept vs (option_given v rest) s h (λ w is. option_kept vs v word rest w b said is))
    (block_kept vs (subvolumes_given vs v rest) s h (λ w is. subvolumes_kept vs v rest w b is))
    (ended_kept vs v rest s h b) e

said_kept : (o : Option Volume) (vs : List Volume) (n : ℕ) (word : List ℕ) (rest : List (List ℕ)) (s : Reading) → AreVolumes [] vs → IsOpen vs o → AreSaid (word ∷ rest) → said_in o vs n word rest ≡ Ok s → IsRead s
said_kept None vs n word rest s h b said e = begun_kept vs n rest s h (chosen (is_text word (codes "volume")) _ _ s e).1
said_kept (Some v) vs n word rest s h b said e = inside_kept vs v word rest s h b said e

statement_kept : (r : Reading) (n : ℕ) (ws : List (List ℕ)) (s : Reading) → IsRead r → AreSaid ws → statement r n ws ≡ Ok s → IsRead s
statement_kept r n [] s h said e = subst IsRead (ok_same _ _ e) h
statement_kept r n (word ∷ rest) s h said e = said_kept r.block r.volumes n word rest s h.volumes h.block said e

-- a line
pub line_kept : (r : Reading) (n : ℕ) (line : List ℕ) (s : Reading) → IsRead r → line_read r n line ≡ Ok s → IsRead s
unfolding line_read
line_kept r n line s h e =
    let said = before_comment false line in
    let text = past (not (list_all is_text_byte said)) _ _ s e in
    let back = past (not (list_all is_no_backquote said)) _ _ s text.1 in
    by_words (words_said said) refl (parts_clear line false (not_false (list_all is_text_byte said) text.0) (not_false (list_all is_no_backquote said) back.0)) back.1
  where
    by_words : (o : Option (List (List ℕ))) → words_said (before_comment false line) ≡ o → AreParts false (parts_between is_quote (before_comment false line)) → statement_if o r n ≡ Ok s → IsRead s
    by_words None is clear e = absurd cc
    by_words (Some ws) is clear e = statement_kept r n ws s h (around_said (parts_between is_quote (before_comment false line)) ws clear is) e

pub record AreWhole (vs : List Volume) : Type 0 where
  pub each : AreVolumes [] vs
  pub some : (length vs == 0) ≡ false

pub ended_whole : (o : Option Volume) (vs : List Volume) (n : ℕ) (v : Volfile) → AreVolumes [] vs → ended_by o vs n ≡ Ok v → AreWhole v.volumes
ended_whole (Some u) vs n v h e = absurd cc
ended_whole None [] n v h e = absurd cc
ended_whole None (u ∷ us) n v h e = subst (λ (w : Volfile). AreWhole w.volumes) (ok_same _ _ e) (record { each = h; some = suc_some (length us) })

-- a text
pub lines_whole : (ls : List (List ℕ)) (r : Reading) (n : ℕ) (v : Volfile) → IsRead r → lines_read ls r n ≡ Ok v → AreWhole v.volumes
lines_whole [] r n v h e = ended_whole r.block r.volumes n v h.volumes e
lines_whole (l ∷ ls) r n v h e = by_line (line_read r (line_after n) l) (λ s is. line_kept r (line_after n) l s h is) (λ s kept rest. lines_whole ls s (line_after n) v kept rest) e
  where
    by_line : (o : Result Reading VolKind) → ((s : Reading) → o ≡ Ok s → IsRead s) → ((s : Reading) → IsRead s → lines_read ls s (line_after n) ≡ Ok v → AreWhole v.volumes)
        → read_on o (line_after n) (λ s. lines_read ls s (line_after n)) ≡ Ok v → AreWhole v.volumes
    by_line (Err k) kept rest e = absurd cc
    by_line (Ok s) kept rest e = rest s (kept s refl) e

pub parsed_whole : (text : List ℕ) (v : Volfile) → parsed text ≡ Ok v → AreWhole v.volumes
parsed_whole text v e = lines_whole (lines_of text) nothing_read 0 v (record { volumes = tt; block = tt }) e
