-- What makes a reader exact: it reads each legal value from its words, and reads nothing else. `Known` is what earlier
-- words of a line said of its value.
use Rattle.std.proofs.Common.{◌≡◌, ℕ, Bool, true, false, cond, List, [], ◌∷◌, ◌++◌, Option, Some, None, Result, Ok, Err, refl, sym, ap, subst, ◌∙◌, arith}
use Rattle.volfile.specs.TextLines.{is_text}
use Rattle.volfile.proofs.Places.{same_word, word_itself}
use Rattle.fop_types.specs.Bounds.{Each}
use Rattle.report_reader.specs.declared.bad.Bad.{Bad}
use Rattle.report_reader.specs.declared.bad.Bad.TheVariants.{Line}
use Rattle.report_reader.specs.code.Readers.{Reader, Whole, after_all, chain_all, found_or_bad, form_at, text_at, go_on, behind, is_end, ended, with_first, each_word}

-- a form of words
pub record IsWord {A : Type 0} (Legal : A → Type 0) (text : A → List ℕ) (form : List ℕ → Option A) : Type 0 where
  pub takes : (a : A) → Legal a → form (text a) ≡ Some a
  pub again : (w : List ℕ) (a : A) → form w ≡ Some a → Legal a × (w ≡ text a)

-- a reader of the first words
pub record IsFirst {A : Type 0} (Legal : A → Type 0) (words : A → List (List ℕ)) (read : Reader A) : Type 0 where
  pub takes : (a : A) (rest : List (List ℕ)) → Legal a → read (words a ++ rest) ≡ Ok (a, rest)
  pub again : (ws rest : List (List ℕ)) (a : A) → read ws ≡ Ok (a, rest) → Legal a × (ws ≡ words a ++ rest)

-- a reader of all words
pub record IsAll {A : Type 0} (Legal : A → Type 0) (words : A → List (List ℕ)) (read : Whole A) : Type 0 where
  pub takes : (a : A) → Legal a → read (words a) ≡ Ok a
  pub again : (ws : List (List ℕ)) (a : A) → read ws ≡ Ok a → Legal a × (ws ≡ words a)

-- ---- constructors
pub not_some : {A : Type 0} (a : A) → ◌≡◌ {A = Option A} None (Some a) → ⊥
not_some a e = absurd cc

pub some_is : {A : Type 0} (a b : A) → ◌≡◌ {A = Option A} (Some a) (Some b) → a ≡ b
some_is a b e = cc

pub not_ok : {A : Type 0} (bad : Bad) (a : A) → ◌≡◌ {A = Result A Bad} (Err bad) (Ok a) → ⊥
not_ok bad a e = absurd cc

pub ok_is : {A : Type 0} (a b : A) → ◌≡◌ {A = Result A Bad} (Ok a) (Ok b) → a ≡ b
ok_is a b e = cc

pub ok_pair : {A : Type 0} (a b : A) (us vs : List (List ℕ)) → ◌≡◌ {A = Result (A × List (List ℕ)) Bad} (Ok (a, us)) (Ok (b, vs)) → (a ≡ b) × (us ≡ vs)
ok_pair {A = A} a b us vs e = let p : ◌≡◌ {A = A × List (List ℕ)} (a, us) (b, vs) = cc in (ap (λ (q : A × List (List ℕ)). q.0) p, ap (λ (q : A × List (List ℕ)). q.1) p)

-- ---- the same in other words
pub all_again : {A : Type 0} {P Q : A → Type 0} {words : A → List (List ℕ)} {read : Whole A} → ((a : A) → P a → Q a) → ((a : A) → Q a → P a) → IsAll P words read → IsAll Q words read
all_again into from law = record { takes = λ a h. law.takes a (from a h); again = λ ws a e. let g = law.again ws a e in (into a g.0, g.1) }

-- ---- one word
pub form_law : {A : Type 0} {Legal : A → Type 0} {text : A → List ℕ} {form : List ℕ → Option A} → IsWord Legal text form → IsFirst Legal (λ a. text a ∷ []) (form_at form)
form_law {A = A} {Legal = Legal} {text = text} {form = form} law = record {
  takes = λ a rest h. ap (λ (o : Option A). found_or_bad o rest) (law.takes a h);
  again = again;
}
  where
    found : (w : List ℕ) (ws rest : List (List ℕ)) (a : A) (o : Option A) → form w ≡ o → found_or_bad o ws ≡ Ok (a, rest) → Legal a × ◌≡◌ {A = List (List ℕ)} (w ∷ ws) (text a ∷ rest)
    found w ws rest a None is e = absurd (not_ok Line (a, rest) e)
    found w ws rest a (Some b) is e =
        let same = ok_pair b a ws rest e in
        let g = law.again w a (is ∙ ap Some same.0) in
        (g.0, ap (λ v. v ∷ ws) g.1 ∙ ap (λ vs. text a ∷ vs) same.1)

    again : (ws rest : List (List ℕ)) (a : A) → form_at form ws ≡ Ok (a, rest) → Legal a × (ws ≡ (text a ∷ []) ++ rest)
    again [] rest a e = absurd (not_ok Line (a, rest) e)
    again (w ∷ ws) rest a e = found w ws rest a (form w) refl e

-- ---- a given word
text_takes : (text : List ℕ) (ws : List (List ℕ)) → text_at text (text ∷ ws) ≡ Ok ws
text_takes text ws = ap (λ b. cond b (Ok ws) (Err Line)) (word_itself text)

text_again : (text : List ℕ) (ws rest : List (List ℕ)) → text_at text ws ≡ Ok rest → ws ≡ text ∷ rest
text_again text [] rest e = absurd (not_ok Line rest e)
text_again text (w ∷ ws) rest e = by (is_text w text) refl e
  where
    by : (b : Bool) → is_text w text ≡ b → cond b (Ok ws) (Err Line) ≡ Ok rest → ◌≡◌ {A = List (List ℕ)} (w ∷ ws) (text ∷ rest)
    by true is e = ap (λ v. v ∷ ws) (same_word w text is) ∙ ap (λ vs. text ∷ vs) (ok_is ws rest e)
    by false is e = absurd (not_ok Line rest e)

-- what a reader behind a given word reads
behind_takes : {A : Type 0} (text : List ℕ) (read : List (List ℕ) → Result A Bad) (ws : List (List ℕ)) → behind text read (text ∷ ws) ≡ read ws
behind_takes text read ws = ap (go_on read) (text_takes text ws)

pub behind_again : {A : Type 0} (text : List ℕ) (read : List (List ℕ) → Result A Bad) (ws : List (List ℕ)) (a : A) → behind text read ws ≡ Ok a → (rest : List (List ℕ)) × (ws ≡ text ∷ rest) × (read rest ≡ Ok a)
behind_again {A = A} text read ws a e = by (text_at text ws) refl e
  where
    by : (r : Result (List (List ℕ)) Bad) → text_at text ws ≡ r → go_on read r ≡ Ok a → (rest : List (List ℕ)) × (ws ≡ text ∷ rest) × (read rest ≡ Ok a)
    by (Ok rest) is e = (rest, text_again text ws rest is, e)
    by (Err bad) is e = absurd (not_ok bad a e)

pub behind_all : {A : Type 0} {Legal : A → Type 0} {words : A → List (List ℕ)} {read : Whole A} (text : List ℕ) → IsAll Legal words read → IsAll Legal (λ a. text ∷ words a) (behind text read)
behind_all {words = words} {read = read} text law = record {
  takes = λ a h. behind_takes text read (words a) ∙ law.takes a h;
  again = λ ws a e. let b = behind_again text read ws a e in let g = law.again b.0 a b.2 in (g.0, b.1 ∙ ap (λ l. text ∷ l) g.1);
}

pub behind_first : {A : Type 0} {Legal : A → Type 0} {words : A → List (List ℕ)} {read : Reader A} (text : List ℕ) → IsFirst Legal words read → IsFirst Legal (λ a. text ∷ words a) (behind text read)
behind_first {words = words} {read = read} text law = record {
  takes = λ a rest h. behind_takes text read (words a ++ rest) ∙ law.takes a rest h;
  again = λ ws rest a e. let b = behind_again text read ws (a, rest) e in let g = law.again b.0 rest a b.2 in (g.0, b.1 ∙ ap (λ l. text ∷ l) g.1);
}

-- ---- one part of a value and then the others
pub chain_law : {A D : Type 0} {LA : A → Type 0} {wA : A → List (List ℕ)} {rA : Reader A} {rB : A → Whole D} (part : D → A) (Known More : D → Type 0) (wB : D → List (List ℕ))
    → IsFirst LA wA rA → ((a : A) → LA a → IsAll (λ y. More y × (Known y × (part y ≡ a))) wB (rB a)) → IsAll (λ y. (LA (part y) × More y) × Known y) (λ y. wA (part y) ++ wB y) (chain_all rA rB)
chain_law {A = A} {D = D} {LA = LA} {wA = wA} {rA = rA} {rB = rB} part Known More wB la lb = record {
  takes = λ y h. ap (after_all rB) (la.takes (part y) (wB y) h.0.0) ∙ (lb (part y) h.0.0).takes y (h.0.1, (h.1, refl));
  again = λ ws y e. again ws y (rA ws) refl e;
}
  where
    again : (ws : List (List ℕ)) (y : D) (r : Result (A × List (List ℕ)) Bad) → rA ws ≡ r → after_all rB r ≡ Ok y → ((LA (part y) × More y) × Known y) × (ws ≡ wA (part y) ++ wB y)
    again ws y (Err bad) is e = absurd (not_ok bad y e)
    again ws y (Ok p) is e =
        let a = la.again ws p.1 p.0 is in
        let b = (lb p.0 a.0).again p.1 y e in
        let same : p.0 ≡ part y = sym b.0.1.1 in
        (((subst LA same a.0, b.0.0), b.0.1.0), a.1 ∙ ap (λ l. wA p.0 ++ l) b.1 ∙ ap (λ (x : A). wA x ++ wB y) same)

-- ---- the last part of a value
pub last_law : {A D : Type 0} {LA : A → Type 0} {wA : A → List (List ℕ)} {read : Whole A} (part : D → A) (make : A → D) (Known : D → Type 0) (made : Result A Bad → Result D Bad)
    → ((a : A) → made (Ok a) ≡ Ok (make a)) → ((bad : Bad) → made (Err bad) ≡ Err bad) → ((a : A) → part (make a) ≡ a) → ((a : A) → Known (make a)) → ((y : D) → Known y → make (part y) ≡ y)
    → IsAll LA wA read → IsAll (λ y. LA (part y) × Known y) (λ y. wA (part y)) (λ ws. made (read ws))
last_law {A = A} {D = D} {LA = LA} {wA = wA} {read = read} part make Known made ok bad back holds only law = record {
  takes = λ y h. ap made (law.takes (part y) h.0) ∙ ok (part y) ∙ ap Ok (only y h.1);
  again = λ ws y e. again ws y (read ws) refl e;
}
  where
    again : (ws : List (List ℕ)) (y : D) (r : Result A Bad) → read ws ≡ r → made r ≡ Ok y → (LA (part y) × Known y) × (ws ≡ wA (part y))
    again ws y (Err b) is e = absurd (not_ok b y (sym (bad b) ∙ e))
    again ws y (Ok a) is e =
        let made_is : make a ≡ y = ok_is (make a) y (sym (ok a) ∙ e) in
        let same : a ≡ part y = sym (back a) ∙ ap part made_is in
        let g = law.again ws a is in
        ((subst LA same g.0, subst Known made_is (holds a)), g.1 ∙ ap wA same)

-- the line ends, and all that was read makes the value
pub ended_law : {D : Type 0} (v : D) (Known : D → Type 0) → Known v → ((y : D) → Known y → y ≡ v) → IsAll (λ y. Unit {0} × Known y) (λ y. []) (ended v)
ended_law {D = D} v Known holds only = record { takes = λ y h. ap Ok (sym (only y h.1)); again = again }
  where
    again : (ws : List (List ℕ)) (y : D) → ended v ws ≡ Ok y → (Unit {0} × Known y) × (ws ≡ [])
    again [] y e = ((tt, subst Known (ok_is v y e) holds), refl)
    again (w ∷ ws) y e = absurd (not_end w ws e)
      where
        not_end : (w : List ℕ) (ws : List (List ℕ)) → ended v (w ∷ ws) ≡ Ok y → ⊥
        not_end w ws e = let no : is_end (w ∷ ws) ≡ false = grind arith in not_ok Line y (sym (ap (λ b. cond b (Ok v) (Err Line)) no) ∙ e)

-- ---- lists up to the end of the line
abbrev pub words_each : {A : Type 0} → (A → List ℕ) → List A → List (List ℕ)
words_each text [] = []
words_each text (a ∷ xs) = text a ∷ words_each text xs

pub each_law : {A : Type 0} {Legal : A → Type 0} {text : A → List ℕ} {form : List ℕ → Option A} → IsWord Legal text form → IsAll (Each Legal) (words_each text) (each_word form)
each_law {A = A} {Legal = Legal} {text = text} {form = form} law = record { takes = takes; again = again }
  where
    takes : (xs : List A) → Each Legal xs → each_word form (words_each text xs) ≡ Ok xs
    takes [] h = refl
    takes (a ∷ xs) h = ap (λ (o : Option A). with_first o (each_word form (words_each text xs))) (law.takes a h.0) ∙ ap (with_first (Some a)) (takes xs h.1)

    none : (xs : List A) (r : Result (List A) Bad) → with_first None r ≡ Ok xs → ⊥
    none xs r e = not_ok Line xs e

    again : (ws : List (List ℕ)) (xs : List A) → each_word form ws ≡ Ok xs → Each Legal xs × (ws ≡ words_each text xs)
    again [] xs e = let is : [] ≡ xs = ok_is [] xs e in subst (λ (l : List A). Each Legal l × ([] ≡ words_each text l)) is (tt, refl)
    again (w ∷ ws) xs e = by (form w) (each_word form ws) refl refl e (λ ys k. again ws ys k)
      where
        by : (o : Option A) (r : Result (List A) Bad) → form w ≡ o → each_word form ws ≡ r → with_first o r ≡ Ok xs → ((ys : List A) → each_word form ws ≡ Ok ys → Each Legal ys × (ws ≡ words_each text ys)) → Each Legal xs × ◌≡◌ {A = List (List ℕ)} (w ∷ ws) (words_each text xs)
        by None r is was e next = absurd (none xs r e)
        by (Some a) (Err bad) is was e next = absurd (not_ok bad xs e)
        by (Some a) (Ok ys) is was e next =
            let g = law.again w a is in
            let h = next ys was in
            subst (λ (l : List A). Each Legal l × ◌≡◌ {A = List (List ℕ)} (w ∷ ws) (words_each text l)) (ok_is (a ∷ ys) xs e) ((g.0, h.0), ap (λ v. v ∷ ws) g.1 ∙ ap (λ vs. text a ∷ vs) h.1)
