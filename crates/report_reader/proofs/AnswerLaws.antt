-- Answers are read exactly, up to the end of the line.
use Rattle.std.proofs.Common.{◌≡◌, ℕ, ◌<◌, ◌≤◌, ◌==◌, ◌&&◌, Bool, true, false, cond, List, [], ◌∷◌, ◌++◌, length, take, drop, take-append-drop, codes, Option, Some, None, Result, Ok, Err, decimal, inl, inr, ◌⊎◌, refl, sym, ap, subst, ◌∙◌, arith, eqb-true, eq-eqb}
use Rattle.std.specs.Cmp.{first_so, second_so}
use Rattle.std.specs.List.{list_all}
use Rattle.std.specs.Fmt.{digits}
use Rattle.std.proofs.lemmas.Fmt.{decimal_nonempty}
use Rattle.xl_base.specs.Words.{is_digit, hex_of}
use Rattle.volfile.specs.TextLines.{is_text}
use Rattle.volfile.proofs.Places.{same_word}
use Rattle.fop_types.specs.Bounds.{Each, IsUnit}
use Rattle.fop_types.specs.Errors.{number_of as error_number, name_of}
use Rattle.fop_types.specs.declared.answers.AppError.{AppError}
use Rattle.fop_types.specs.declared.answers.AppError.TheVariants.{Enoent, Ebadf, Ebusy, Eexist, Enotdir, Eisdir, Einval, Efbig, Enametoolong, Enotempty, Enodata, Eopnotsupp}
use Rattle.fop_types.specs.declared.cells.Kind.{Kind}
use Rattle.fop_types.specs.declared.cells.Kind.TheVariants.{File, Dir, Link}
use Rattle.report_text.specs.Words.{kind_word, bytes_hex}
use Rattle.report_text.specs.declared.answers.ReportAnswer.{ReportAnswer}
use Rattle.report_text.specs.declared.answers.ReportAnswer.TheVariants as answer
use Rattle.report_text.specs.declared.faults.ReportIo.{ReportIo}
use Rattle.report_text.specs.declared.faults.ReportIo.TheVariants.{Quorum, Split, Fault}
use Rattle.report_reader.specs.Reports.{IsName, IsShown, IsItem, IsLost, IsIo, IsAnswer}
use Rattle.report_reader.specs.declared.bad.Bad.{Bad}
use Rattle.report_reader.specs.declared.bad.Bad.TheVariants.{Line}
use Rattle.report_reader.specs.code.Readers.{after_all, chain_all, word_at, form_at, ended, each_word}
use Rattle.report_reader.specs.code.Forms.{unit_of, kind_of, item_of, numbered, named}
use Rattle.report_reader.specs.code.AnswerForms.{quorum_of, stat_of, is_hex_word, bytes_made, items_made, counted, shown_of, success_of, io_made, app_made, error_with, error_of, input_output_of, answer_of}
use Rattle.report_reader.proofs.Laws.{IsAll, not_some, some_is, not_ok, ok_is, form_law, chain_law, ended_law, each_law, words_each}
use Rattle.report_reader.proofs.NumberLaws.{unit_law, bytes_law, octal_law, decimal_digits}
use Rattle.report_reader.proofs.WordLaws.{kind_law, item_law}
use Rattle.report_reader.proofs.LineWords.{item_word, quorum_words, io_words, answer_words}
use Rattle.report_reader.proofs.FaultLaws.{io_set, quorum_lost, IsQuorum, quorum_law, IsLocal, local_words, input_output_law}

-- ---- the words behind `ok` and `error`
abbrev pub IsError : ReportAnswer → Type 0
IsError answer.Done = ⊥
IsError (answer.Count n) = ⊥
IsError (answer.Bytes bytes) = ⊥
IsError (answer.Stat kind mode size) = ⊥
IsError (answer.List items) = ⊥
IsError (answer.App error) = Unit {0}
IsError (answer.Io io) = Unit {0}

abbrev pub IsSuccess : ReportAnswer → Type 0
IsSuccess answer.Done = Unit {0}
IsSuccess (answer.Count n) = Unit {0}
IsSuccess (answer.Bytes bytes) = Unit {0}
IsSuccess (answer.Stat kind mode size) = Unit {0}
IsSuccess (answer.List items) = Unit {0}
IsSuccess (answer.App error) = ⊥
IsSuccess (answer.Io io) = ⊥

abbrev pub error_words : ReportAnswer → List (List ℕ)
error_words answer.Done = []
error_words (answer.Count n) = []
error_words (answer.Bytes bytes) = []
error_words (answer.Stat kind mode size) = []
error_words (answer.List items) = []
error_words (answer.App error) = decimal (error_number error) ∷ name_of error ∷ []
error_words (answer.Io io) = io_words io

abbrev pub success_words : ReportAnswer → List (List ℕ)
success_words answer.Done = []
success_words (answer.Count n) = decimal n ∷ []
success_words (answer.Bytes bytes) = (120 ∷ 58 ∷ bytes_hex bytes) ∷ []
success_words (answer.Stat kind mode size) = kind_word kind ∷ digits 8 false mode ∷ decimal size ∷ []
success_words (answer.List items) = decimal (length items) ∷ words_each item_word items
success_words (answer.App error) = []
success_words (answer.Io io) = []

-- ---- a word of one form that has not another
no_form : {B : Type 0} (form : List ℕ → Option B) (w : List ℕ) → ((b : B) → form w ≡ Some b → ⊥) → form w ≡ None
no_form {B = B} form w never = by (form w) refl
  where
    by : (o : Option B) → form w ≡ o → o ≡ None
    by None is = refl
    by (Some b) is = absurd (never b is)

-- a number is no kind
number_no_kind : (n : ℕ) → IsUnit n → kind_of (decimal n) ≡ None
number_no_kind n h = no_form kind_of (decimal n) (λ k e. never k (kind_law.again (decimal n) k e))
  where
    never : (k : Kind) → IsShown k × (decimal n ≡ kind_word k) → ⊥
    never File p = not_some n (sym (ap unit_of p.1) ∙ unit_law.takes n h)
    never Dir p = not_some n (sym (ap unit_of p.1) ∙ unit_law.takes n h)
    never Link p = absurd p.0

-- nor does it begin with `x:`
number_no_hex : (n : ℕ) → IsUnit n → is_hex_word (decimal n) ≡ false
number_no_hex n h = by (is_hex_word (decimal n)) refl
  where
    first : (w : List ℕ) → list_all is_digit w ≡ true → 0 < length w → codes "x:" ≡ take 2 w → ⊥
    first [] all some e = omega (arith, some)
    first (d ∷ w) all some e =
        let is : d ≡ 120 = cc in
        let no : is_digit 120 ≡ true = subst (λ c. is_digit c ≡ true) is (first_so (is_digit d) (list_all is_digit w) all) in
        absurd cc

    by : (b : Bool) → is_hex_word (decimal n) ≡ b → b ≡ false
    by false is = refl
    by true is = absurd (first (decimal n) (decimal_digits n (omega (arith, h))) (decimal_nonempty n (omega (arith, h))) (same_word (codes "x:") (take 2 (decimal n)) is))

-- bytes are no kind: their word begins with `x`
abbrev pub head_byte : List ℕ → ℕ
head_byte [] = 0
head_byte (b ∷ bs) = b

bytes_no_kind : (bs : List ℕ) → kind_of (120 ∷ 58 ∷ bytes_hex bs) ≡ None
bytes_no_kind bs = no_form kind_of (120 ∷ 58 ∷ bytes_hex bs) (λ k e. never k (kind_law.again (120 ∷ 58 ∷ bytes_hex bs) k e))
  where
    never : (k : Kind) → IsShown k × ((120 ∷ 58 ∷ bytes_hex bs) ≡ kind_word k) → ⊥
    never File p = let is : 120 ≡ 102 = ap head_byte p.1 in omega (arith, is)
    never Dir p = let is : 120 ≡ 100 = ap head_byte p.1 in omega (arith, is)
    never Link p = absurd p.0

-- a word that begins with `x:`
hex_whole : (w : List ℕ) → is_hex_word w ≡ true → w ≡ 120 ∷ 58 ∷ drop 2 w
hex_whole w is = sym (take-append-drop 2 w) ∙ ap (λ l. l ++ drop 2 w) (sym (same_word (codes "x:") (take 2 w) is))

-- ---- what follows `error`
pub numbers_error : (e : AppError) → IsUnit (error_number e)
numbers_error Enoent = omega arith
numbers_error Ebadf = omega arith
numbers_error Ebusy = omega arith
numbers_error Eexist = omega arith
numbers_error Enotdir = omega arith
numbers_error Eisdir = omega arith
numbers_error Einval = omega arith
numbers_error Efbig = omega arith
numbers_error Enametoolong = omega arith
numbers_error Enotempty = omega arith
numbers_error Enodata = omega arith
numbers_error Eopnotsupp = omega arith

error_read : (e : AppError) → error_with (error_number e) (name_of e) [] ≡ Ok (answer.App e)
error_read Enoent = refl
error_read Ebadf = refl
error_read Ebusy = refl
error_read Eexist = refl
error_read Enotdir = refl
error_read Eisdir = refl
error_read Einval = refl
error_read Efbig = refl
error_read Enametoolong = refl
error_read Enotempty = refl
error_read Enodata = refl
error_read Eopnotsupp = refl

-- the number that an error has
numbered_as : (n : ℕ) (e : AppError) → numbered n ≡ Some e → n ≡ error_number e
numbered_as n e is =
    tried n 2 Enoent e _ refl (tried n 9 Ebadf e _ refl (tried n 16 Ebusy e _ refl (tried n 17 Eexist e _ refl (tried n 20 Enotdir e _ refl (tried n 21 Eisdir e _ refl (tried n 22 Einval e _ refl (tried n 27 Efbig e _ refl
    (tried n 36 Enametoolong e _ refl (tried n 39 Enotempty e _ refl (tried n 61 Enodata e _ refl (tried n 95 Eopnotsupp e None refl (λ no. absurd (not_some e no))))))))))))) is
  where
    tried : (n k : ℕ) (x e : AppError) (y : Option AppError) → error_number x ≡ k → (y ≡ Some e → n ≡ error_number e) → cond (n == k) (Some x) y ≡ Some e → n ≡ error_number e
    tried n k x e y is later chosen = by (n == k) refl chosen
      where
        by : (b : Bool) → (n == k) ≡ b → cond b (Some x) y ≡ Some e → n ≡ error_number e
        by true same chosen = eqb-true n k same ∙ sym is ∙ ap error_number (some_is x e chosen)
        by false other chosen = later chosen

-- a value that ends its line
ended_is : (v y : ReportAnswer) (ws : List (List ℕ)) → ended v ws ≡ Ok y → (y ≡ v) × (ws ≡ [])
ended_is v y ws e = let g = (ended_law v (λ z. z ≡ v) refl (λ z k. k)).again ws y e in (g.0.1, g.1)

-- a number as it is written
written : (w : List ℕ) (n : ℕ) → unit_of w ≡ Some n → decimal n ≡ w
written w n e = sym (unit_law.again w n e).1

pub error_law : IsAll (λ (a : ReportAnswer). IsError a × IsAnswer a) error_words error_of
error_law = record { takes = takes; again = again }
  where
    takes_io : (io : ReportIo) → IsIo io → error_of (io_words io) ≡ Ok (answer.Io io)
    takes_io (Quorum set lost) h = ap io_made (quorum_law.takes (Quorum set lost) ((h.0, h.1), tt))
    takes_io (Split set rows) h = ap io_made (input_output_law.takes (Split set rows) h)
    takes_io (Fault set faults lost) h = ap io_made (input_output_law.takes (Fault set faults lost) h)

    takes : (a : ReportAnswer) → IsError a × IsAnswer a → error_of (error_words a) ≡ Ok a
    takes (answer.App e) h =
        ap (after_all (λ n. chain_all word_at (λ name. error_with n name))) ((form_law unit_law).takes (error_number e) (name_of e ∷ []) (numbers_error e)) ∙ error_read e
    takes (answer.Io io) h = takes_io io h.1
    takes answer.Done h = absurd h.0
    takes (answer.Count n) h = absurd h.0
    takes (answer.Bytes bytes) h = absurd h.0
    takes (answer.Stat kind mode size) h = absurd h.0
    takes (answer.List items) h = absurd h.0

    of_quorum : (io : ReportIo) (vs : List (List ℕ)) → ((IsName (io_set io) × Each IsLost (quorum_lost io)) × IsQuorum io) × (vs ≡ quorum_words (io_set io) (quorum_lost io))
        → IsIo io × ◌≡◌ {A = List (List ℕ)} (codes "107" ∷ codes "ENOTCONN" ∷ vs) (io_words io)
    of_quorum (Quorum set lost) vs g = ((g.0.0.0, g.0.0.1), ap (λ (l : List (List ℕ)). codes "107" ∷ codes "ENOTCONN" ∷ l) g.1)
    of_quorum (Split set rows) vs g = absurd g.0.1
    of_quorum (Fault set faults lost) vs g = absurd g.0.1

    of_local : (io : ReportIo) (vs : List (List ℕ)) → IsLocal io × (vs ≡ local_words io) → IsIo io × ◌≡◌ {A = List (List ℕ)} (codes "5" ∷ codes "EIO" ∷ vs) (io_words io)
    of_local (Quorum set lost) vs g = absurd g.0
    of_local (Split set rows) vs g = (g.0, ap (λ (l : List (List ℕ)). codes "5" ∷ codes "EIO" ∷ l) g.1)
    of_local (Fault set faults lost) vs g = (g.0, ap (λ (l : List (List ℕ)). codes "5" ∷ codes "EIO" ∷ l) g.1)

    -- the words of an I/O error, which begin with this number and this name
    io_again : (n k : ℕ) (name word number : List ℕ) (vs : List (List ℕ)) (y : ReportAnswer) (io : ReportIo) → n ≡ k → decimal k ≡ number → name ≡ word → answer.Io io ≡ y
        → IsIo io × ◌≡◌ {A = List (List ℕ)} (number ∷ word ∷ vs) (io_words io) → (IsError y × IsAnswer y) × ◌≡◌ {A = List (List ℕ)} (decimal n ∷ name ∷ vs) (error_words y)
    io_again n k name word number vs y io same is named_is made g =
        subst (λ (z : ReportAnswer). (IsError z × IsAnswer z) × ◌≡◌ {A = List (List ℕ)} (decimal n ∷ name ∷ vs) (error_words z)) made
        ((tt, g.0), (λ i. (ap decimal same ∙ is) i ∷ named_is i ∷ vs) ∙ g.1)

    quorum_again : (n : ℕ) (name : List ℕ) (vs : List (List ℕ)) (y : ReportAnswer) (r : Result ReportIo Bad) → n ≡ 107 → name ≡ codes "ENOTCONN" → quorum_of vs ≡ r → io_made r ≡ Ok y
        → (IsError y × IsAnswer y) × ◌≡◌ {A = List (List ℕ)} (decimal n ∷ name ∷ vs) (error_words y)
    quorum_again n name vs y (Err bad) same called is e = absurd (not_ok bad y e)
    quorum_again n name vs y (Ok io) same called is e =
        io_again n 107 name (codes "ENOTCONN") (codes "107") vs y io same (written (codes "107") 107 refl) called (ok_is (answer.Io io) y e) (of_quorum io vs (quorum_law.again vs io is))

    local_again : (n : ℕ) (name : List ℕ) (vs : List (List ℕ)) (y : ReportAnswer) (r : Result ReportIo Bad) → n ≡ 5 → name ≡ codes "EIO" → input_output_of vs ≡ r → io_made r ≡ Ok y
        → (IsError y × IsAnswer y) × ◌≡◌ {A = List (List ℕ)} (decimal n ∷ name ∷ vs) (error_words y)
    local_again n name vs y (Err bad) same called is e = absurd (not_ok bad y e)
    local_again n name vs y (Ok io) same called is e =
        io_again n 5 name (codes "EIO") (codes "5") vs y io same (written (codes "5") 5 refl) called (ok_is (answer.Io io) y e) (of_local io vs (input_output_law.again vs io is))

    app_again : (n : ℕ) (name : List ℕ) (vs : List (List ℕ)) (y : ReportAnswer) (o : Option AppError) → numbered n ≡ o → app_made (named o name) vs ≡ Ok y
        → (IsError y × IsAnswer y) × ◌≡◌ {A = List (List ℕ)} (decimal n ∷ name ∷ vs) (error_words y)
    app_again n name vs y None is e = absurd (not_ok Line y e)
    app_again n name vs y (Some x) is e = by (is_text name (name_of x)) refl e
      where
        by : (b : Bool) → is_text name (name_of x) ≡ b → app_made (cond b (Some x) None) vs ≡ Ok y → (IsError y × IsAnswer y) × ◌≡◌ {A = List (List ℕ)} (decimal n ∷ name ∷ vs) (error_words y)
        by false other e = absurd (not_ok Line y e)
        by true same e =
            let g = ended_is (answer.App x) y vs e in
            subst (λ (z : ReportAnswer). (IsError z × IsAnswer z) × ◌≡◌ {A = List (List ℕ)} (decimal n ∷ name ∷ vs) (error_words z)) (sym g.0)
            ((tt, tt), (λ i. (ap decimal (numbered_as n x is)) i ∷ (same_word name (name_of x) same) i ∷ g.1 i))

    with_again : (n : ℕ) (name : List ℕ) (vs : List (List ℕ)) (y : ReportAnswer) → error_with n name vs ≡ Ok y → (IsError y × IsAnswer y) × ◌≡◌ {A = List (List ℕ)} (decimal n ∷ name ∷ vs) (error_words y)
    with_again n name vs y e = by ((n == 107) && is_text name (codes "ENOTCONN")) ((n == 5) && is_text name (codes "EIO")) refl refl e
      where
        by : (a b : Bool) → ((n == 107) && is_text name (codes "ENOTCONN")) ≡ a → ((n == 5) && is_text name (codes "EIO")) ≡ b
            → cond a (io_made (quorum_of vs)) (cond b (io_made (input_output_of vs)) (app_made (named (numbered n) name) vs)) ≡ Ok y → (IsError y × IsAnswer y) × ◌≡◌ {A = List (List ℕ)} (decimal n ∷ name ∷ vs) (error_words y)
        by true b is out e = quorum_again n name vs y (quorum_of vs) (eqb-true n 107 (first_so (n == 107) (is_text name (codes "ENOTCONN")) is)) (same_word name (codes "ENOTCONN") (second_so (n == 107) (is_text name (codes "ENOTCONN")) is)) refl e
        by false true out is e = local_again n name vs y (input_output_of vs) (eqb-true n 5 (first_so (n == 5) (is_text name (codes "EIO")) is)) (same_word name (codes "EIO") (second_so (n == 5) (is_text name (codes "EIO")) is)) refl e
        by false false out nor e = app_again n name vs y (numbered n) refl e

    again : (ws : List (List ℕ)) (y : ReportAnswer) → error_of ws ≡ Ok y → (IsError y × IsAnswer y) × (ws ≡ error_words y)
    again ws y e = first (form_at unit_of ws) refl e
      where
        second : (n : ℕ) (us : List (List ℕ)) → ws ≡ decimal n ∷ us → chain_all word_at (λ name. error_with n name) us ≡ Ok y → (IsError y × IsAnswer y) × (ws ≡ error_words y)
        second n [] is e = absurd (not_ok Line y e)
        second n (name ∷ vs) is e = let g = with_again n name vs y e in (g.0, is ∙ g.1)

        first : (r : Result (ℕ × List (List ℕ)) Bad) → form_at unit_of ws ≡ r → after_all (λ n. chain_all word_at (λ name. error_with n name)) r ≡ Ok y → (IsError y × IsAnswer y) × (ws ≡ error_words y)
        first (Err bad) is e = absurd (not_ok bad y e)
        first (Ok p) is e = second p.0 p.1 ((form_law unit_law).again ws p.1 p.0 is).1 e

-- ---- ok KIND MODE SIZE
abbrev pub IsStatOf : Kind → ReportAnswer → Type 0
IsStatOf kind answer.Done = ⊥
IsStatOf kind (answer.Count n) = ⊥
IsStatOf kind (answer.Bytes bytes) = ⊥
IsStatOf kind (answer.Stat k mode size) = k ≡ kind
IsStatOf kind (answer.List items) = ⊥
IsStatOf kind (answer.App error) = ⊥
IsStatOf kind (answer.Io io) = ⊥

abbrev pub stat_mode : ReportAnswer → ℕ
stat_mode answer.Done = 0
stat_mode (answer.Count n) = 0
stat_mode (answer.Bytes bytes) = 0
stat_mode (answer.Stat kind mode size) = mode
stat_mode (answer.List items) = 0
stat_mode (answer.App error) = 0
stat_mode (answer.Io io) = 0

abbrev pub stat_size : ReportAnswer → ℕ
stat_size answer.Done = 0
stat_size (answer.Count n) = 0
stat_size (answer.Bytes bytes) = 0
stat_size (answer.Stat kind mode size) = size
stat_size (answer.List items) = 0
stat_size (answer.App error) = 0
stat_size (answer.Io io) = 0

stat_only : (kind : Kind) (mode size : ℕ) (y : ReportAnswer) → (IsStatOf kind y × (stat_mode y ≡ mode)) × (stat_size y ≡ size) → y ≡ answer.Stat kind mode size
stat_only kind mode size (answer.Stat k m n) e = λ i. answer.Stat (e.0.0 i) (e.0.1 i) (e.1 i)
stat_only kind mode size answer.Done e = absurd e.0.0
stat_only kind mode size (answer.Count n) e = absurd e.0.0
stat_only kind mode size (answer.Bytes bytes) e = absurd e.0.0
stat_only kind mode size (answer.List items) e = absurd e.0.0
stat_only kind mode size (answer.App error) e = absurd e.0.0
stat_only kind mode size (answer.Io io) e = absurd e.0.0

stat_law : (kind : Kind) → IsAll (λ y. ((stat_mode y < 65536) × (IsUnit (stat_size y) × Unit {0})) × IsStatOf kind y) (λ y. digits 8 false (stat_mode y) ∷ decimal (stat_size y) ∷ []) (stat_of kind)
stat_law kind = chain_law stat_mode (IsStatOf kind) (λ y. IsUnit (stat_size y) × Unit {0}) (λ y. decimal (stat_size y) ∷ []) (form_law octal_law)
    (λ mode k. chain_law stat_size (λ y. IsStatOf kind y × (stat_mode y ≡ mode)) (λ y. Unit {0}) (λ y. []) (form_law unit_law)
    (λ size j. ended_law (answer.Stat kind mode size) (λ y. (IsStatOf kind y × (stat_mode y ≡ mode)) × (stat_size y ≡ size)) ((refl, refl), refl) (stat_only kind mode size)))

-- ---- what follows `ok`
pub success_law : IsAll (λ (a : ReportAnswer). IsSuccess a × IsAnswer a) success_words success_of
success_law = record { takes = takes; again = again }
  where
    -- a number is read as a count
    number_read : (n : ℕ) (ws : List (List ℕ)) → IsUnit n → success_of (decimal n ∷ ws) ≡ counted (Some n) ws
    number_read n ws h =
        ap (λ (o : Option Kind). shown_of o (decimal n) ws) (number_no_kind n h)
        ∙ ap (λ b. cond b (bytes_made (hex_of (drop 2 (decimal n))) ws) (counted (unit_of (decimal n)) ws)) (number_no_hex n h) ∙ ap (λ (o : Option ℕ). counted o ws) (unit_law.takes n h)

    takes_items : (items : List (List ℕ × Kind)) → (1 ≤ length items) × IsUnit (length items) × Each IsItem items → success_of (success_words (answer.List items)) ≡ Ok (answer.List items)
    takes_items [] h = absurd (omega (arith, h.0))
    takes_items (i ∷ is) h =
        number_read (length (i ∷ is)) (words_each item_word (i ∷ is)) h.1
        ∙ ap (items_made (length (i ∷ is))) ((each_law item_law).takes (i ∷ is) h.2)
        ∙ ap (λ b. cond b (Ok (answer.List (i ∷ is))) (Err Line)) (eq-eqb (length (i ∷ is)) (length (i ∷ is)) refl)

    takes : (a : ReportAnswer) → IsSuccess a × IsAnswer a → success_of (success_words a) ≡ Ok a
    takes answer.Done h = refl
    takes (answer.Count n) h = number_read n [] h.1
    takes (answer.Bytes bytes) h =
        ap (λ (o : Option Kind). shown_of o (120 ∷ 58 ∷ bytes_hex bytes) []) (bytes_no_kind bytes) ∙ ap (λ (o : Option (List ℕ)). bytes_made o []) (bytes_law.takes bytes h.1)
    takes (answer.Stat kind mode size) h =
        ap (λ (o : Option Kind). shown_of o (kind_word kind) (digits 8 false mode ∷ decimal size ∷ [])) (kind_law.takes kind h.1.0)
        ∙ (stat_law kind).takes (answer.Stat kind mode size) ((h.1.1, (h.1.2, tt)), refl)
    takes (answer.List items) h = takes_items items h.1
    takes (answer.App error) h = absurd h.0
    takes (answer.Io io) h = absurd h.0

    stat_again : (kind : Kind) (w : List ℕ) (ws : List (List ℕ)) (y : ReportAnswer) → IsShown kind → w ≡ kind_word kind
        → (((stat_mode y < 65536) × (IsUnit (stat_size y) × Unit {0})) × IsStatOf kind y) × (ws ≡ digits 8 false (stat_mode y) ∷ decimal (stat_size y) ∷ [])
        → (IsSuccess y × IsAnswer y) × ◌≡◌ {A = List (List ℕ)} (w ∷ ws) (success_words y)
    stat_again kind w ws (answer.Stat k mode size) shown is g =
        ((tt, (subst IsShown (sym g.0.1) shown, g.0.0.0, g.0.0.1.0)), (λ i. (is ∙ ap kind_word (sym g.0.1)) i ∷ g.1 i))
    stat_again kind w ws answer.Done shown is g = absurd g.0.1
    stat_again kind w ws (answer.Count n) shown is g = absurd g.0.1
    stat_again kind w ws (answer.Bytes bytes) shown is g = absurd g.0.1
    stat_again kind w ws (answer.List items) shown is g = absurd g.0.1
    stat_again kind w ws (answer.App error) shown is g = absurd g.0.1
    stat_again kind w ws (answer.Io io) shown is g = absurd g.0.1

    bytes_again : (w : List ℕ) (ws : List (List ℕ)) (y : ReportAnswer) (o : Option (List ℕ)) → is_hex_word w ≡ true → hex_of (drop 2 w) ≡ o → bytes_made o ws ≡ Ok y
        → (IsSuccess y × IsAnswer y) × ◌≡◌ {A = List (List ℕ)} (w ∷ ws) (success_words y)
    bytes_again w ws y None front is e = absurd (not_ok Line y e)
    bytes_again w ws y (Some bs) front is e =
        let g = ended_is (answer.Bytes bs) y ws e in
        let b = bytes_law.again (drop 2 w) bs is in
        subst (λ (z : ReportAnswer). (IsSuccess z × IsAnswer z) × ◌≡◌ {A = List (List ℕ)} (w ∷ ws) (success_words z)) (sym g.0)
        ((tt, b.0), (λ i. (hex_whole w front ∙ ap (λ (l : List ℕ). 120 ∷ 58 ∷ l) b.1) i ∷ g.1 i))

    items_again : (w : List ℕ) (n : ℕ) (v : List ℕ) (vs : List (List ℕ)) (y : ReportAnswer) (r : Result (List (List ℕ × Kind)) Bad) → IsUnit n → w ≡ decimal n → each_word item_of (v ∷ vs) ≡ r → items_made n r ≡ Ok y
        → (IsSuccess y × IsAnswer y) × ◌≡◌ {A = List (List ℕ)} (w ∷ v ∷ vs) (success_words y)
    items_again w n v vs y (Err bad) h is was e = absurd (not_ok bad y e)
    items_again w n v vs y (Ok items) h is was e = by (length items == n) refl e
      where
        some : (l : List (List ℕ × Kind)) → (v ∷ vs) ≡ words_each item_word l → 1 ≤ length l
        some [] e = absurd cc
        some (i ∷ l) e = omega arith

        by : (b : Bool) → (length items == n) ≡ b → cond b (Ok (answer.List items)) (Err Line) ≡ Ok y → (IsSuccess y × IsAnswer y) × ◌≡◌ {A = List (List ℕ)} (w ∷ v ∷ vs) (success_words y)
        by false other e = absurd (not_ok Line y e)
        by true same e =
            let g = (each_law item_law).again (v ∷ vs) items was in
            let size = eqb-true (length items) n same in
            subst (λ (z : ReportAnswer). (IsSuccess z × IsAnswer z) × ◌≡◌ {A = List (List ℕ)} (w ∷ v ∷ vs) (success_words z)) (ok_is (answer.List items) y e)
            ((tt, (some items g.1, subst IsUnit (sym size) h, g.0)), (λ i. (is ∙ ap decimal (sym size)) i ∷ g.1 i))

    count_again : (w : List ℕ) (ws : List (List ℕ)) (y : ReportAnswer) (o : Option ℕ) → unit_of w ≡ o → counted o ws ≡ Ok y → (IsSuccess y × IsAnswer y) × ◌≡◌ {A = List (List ℕ)} (w ∷ ws) (success_words y)
    count_again w ws y None is e = absurd (not_ok Line y e)
    count_again w [] y (Some n) is e =
        let g = unit_law.again w n is in
        subst (λ (z : ReportAnswer). (IsSuccess z × IsAnswer z) × ◌≡◌ {A = List (List ℕ)} (w ∷ []) (success_words z)) (ok_is (answer.Count n) y e) ((tt, g.0), ap (λ (l : List ℕ). l ∷ []) g.1)
    count_again w (v ∷ vs) y (Some n) is e = let g = unit_law.again w n is in items_again w n v vs y (each_word item_of (v ∷ vs)) g.0 g.1 refl e

    again : (ws : List (List ℕ)) (y : ReportAnswer) → success_of ws ≡ Ok y → (IsSuccess y × IsAnswer y) × (ws ≡ success_words y)
    again [] y e = subst (λ (z : ReportAnswer). (IsSuccess z × IsAnswer z) × ([] ≡ success_words z)) (ok_is answer.Done y e) ((tt, tt), refl)
    again (w ∷ ws) y e = by (kind_of w) refl e
      where
        plain : (b : Bool) → is_hex_word w ≡ b → cond b (bytes_made (hex_of (drop 2 w)) ws) (counted (unit_of w) ws) ≡ Ok y → (IsSuccess y × IsAnswer y) × ◌≡◌ {A = List (List ℕ)} (w ∷ ws) (success_words y)
        plain true is e = bytes_again w ws y (hex_of (drop 2 w)) is refl e
        plain false is e = count_again w ws y (unit_of w) refl e

        by : (o : Option Kind) → kind_of w ≡ o → shown_of o w ws ≡ Ok y → (IsSuccess y × IsAnswer y) × ◌≡◌ {A = List (List ℕ)} (w ∷ ws) (success_words y)
        by (Some kind) is e = let k = kind_law.again w kind is in stat_again kind w ws y k.0 k.1 ((stat_law kind).again ws y e)
        by None is e = plain (is_hex_word w) refl e

-- ---- an answer
answer_cut : (a : ReportAnswer) → (IsError a × (answer_words a ≡ codes "error" ∷ error_words a)) ⊎ (IsSuccess a × (answer_words a ≡ codes "ok" ∷ success_words a))
answer_cut answer.Done = inr (tt, refl)
answer_cut (answer.Count n) = inr (tt, refl)
answer_cut (answer.Bytes bytes) = inr (tt, refl)
answer_cut (answer.Stat kind mode size) = inr (tt, refl)
answer_cut (answer.List items) = inr (tt, refl)
answer_cut (answer.App error) = inl (tt, refl)
answer_cut (answer.Io io) = inl (tt, refl)

error_cut : (a : ReportAnswer) → IsError a → answer_words a ≡ codes "error" ∷ error_words a
error_cut (answer.App error) h = refl
error_cut (answer.Io io) h = refl
error_cut answer.Done h = absurd h
error_cut (answer.Count n) h = absurd h
error_cut (answer.Bytes bytes) h = absurd h
error_cut (answer.Stat kind mode size) h = absurd h
error_cut (answer.List items) h = absurd h

success_cut : (a : ReportAnswer) → IsSuccess a → answer_words a ≡ codes "ok" ∷ success_words a
success_cut answer.Done h = refl
success_cut (answer.Count n) h = refl
success_cut (answer.Bytes bytes) h = refl
success_cut (answer.Stat kind mode size) h = refl
success_cut (answer.List items) h = refl
success_cut (answer.App error) h = absurd h
success_cut (answer.Io io) h = absurd h

pub answer_law : IsAll IsAnswer answer_words answer_of
answer_law = record { takes = λ a h. takes a h (answer_cut a); again = again }
  where
    takes : (a : ReportAnswer) → IsAnswer a → (IsError a × (answer_words a ≡ codes "error" ∷ error_words a)) ⊎ (IsSuccess a × (answer_words a ≡ codes "ok" ∷ success_words a)) → answer_of (answer_words a) ≡ Ok a
    takes a h (inl k) = ap answer_of k.1 ∙ error_law.takes a (k.0, h)
    takes a h (inr k) = ap answer_of k.1 ∙ success_law.takes a (k.0, h)

    again : (ws : List (List ℕ)) (a : ReportAnswer) → answer_of ws ≡ Ok a → IsAnswer a × (ws ≡ answer_words a)
    again [] a e = absurd (not_ok Line a e)
    again (w ∷ ws) a e = by (is_text w (codes "ok")) (is_text w (codes "error")) refl refl e
      where
        by : (b c : Bool) → is_text w (codes "ok") ≡ b → is_text w (codes "error") ≡ c → cond b (success_of ws) (cond c (error_of ws) (Err Line)) ≡ Ok a → IsAnswer a × ◌≡◌ {A = List (List ℕ)} (w ∷ ws) (answer_words a)
        by true c is out e = let g = success_law.again ws a e in (g.0.1, ap (λ (v : List ℕ). v ∷ ws) (same_word w (codes "ok") is) ∙ ap (λ (l : List (List ℕ)). codes "ok" ∷ l) g.1 ∙ sym (success_cut a g.0.0))
        by false true out is e = let g = error_law.again ws a e in (g.0.1, ap (λ (v : List ℕ). v ∷ ws) (same_word w (codes "error") is) ∙ ap (λ (l : List (List ℕ)). codes "error" ∷ l) g.1 ∙ sym (error_cut a g.0.0))
        by false false out nor e = absurd (not_ok Line a e)
