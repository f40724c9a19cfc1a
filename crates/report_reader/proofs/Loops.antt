-- One step of each loop of the code.
use Rattle.std.proofs.Common.{◌≡◌, ℕ, ◌+◌, ◌-◌, ◌*◌, ◌^◌, ◌<◌, ◌≤◌, ◌==◌, ◌&&◌, Bool, true, false, cond, List, [], ◌∷◌, ◌++◌, append_assoc, append-nil, length, take, drop, take-append-drop, get_or, codes, Option, Some, None, Result, Ok, Err, arith, ap, ◌∙◌, sym, refl, eqb-true}
use Rattle.std.proofs.Math.Nat.{pow-le-pow_right}
use Rattle.std.proofs.lemmas.List.{drop_more, take_rest}
use Rattle.std.proofs.lemmas.List.Folds.{list_all-append}
use Rattle.std.proofs.lemmas.Bool.Decides.{nat_tests}
use Rattle.std.specs.Cmp.{first_so, second_so}
use Rattle.std.specs.List.{list_all}
use Rattle.fop_types.specs.declared.cells.Gfid.{Gfid}
use Rattle.xl_base.specs.Words.{is_hex_digit}
use Rattle.volfile.specs.TextLines.{is_text}
use Rattle.report_reader.specs.declared.bad.Bad.{Bad}
use Rattle.report_reader.specs.declared.bad.Bad.TheVariants.{Line}
use Rattle.report_reader.specs.code.Readers.{each_word, onto, with_first}
use Rattle.report_reader.specs.code.Forms.{octal_after, sixteen_bits, hex_after, with_item, each_of, items_onto, failed_of, is_gfid, gfid_of}
use Rattle.report_reader.specs.code.AnswerForms.{Failures, losses_of, failures_of, failures_onto, with_fault}
use Rattle.report_reader.proofs.NumberLaws.{octal_grows}

-- ---- octal digits
too_great : (n : ℕ) → 65536 ≤ n → None ≡ sixteen_bits n
too_great n great = grind (arith, nat_tests)

-- a front of 65,536 or more leaves no mode
pub octal_too_great : (w : List ℕ) (i value digit e : ℕ) → i < length w → digit ≡ get_or w i e - 48 → 65536 ≤ value * 8 + digit
    → octal_after value (drop i w) ≡ octal_after 0 w → None ≡ sixteen_bits (octal_after 0 w)
octal_too_great w i value digit e within is great whole =
    let next = value * 8 + digit in
    let here : octal_after next (drop (i + 1) w) ≡ octal_after 0 w =
    ap (λ d. octal_after (value * 8 + d) (drop (i + 1) w)) is ∙ ap (octal_after value) (sym (drop_more w i e within)) ∙ whole in
    too_great (octal_after 0 w) (omega (arith, here, octal_grows next (drop (i + 1) w)))

-- ---- items that were read, and one more
pub each_step : {A : Type 0} (form : List ℕ → Option A) (all more : List A) (a : A) (w : List ℕ) (rest behind : List (List ℕ)) (whole : Result (List A) Bad) → rest ≡ w ∷ behind → form w ≡ Some a → more ≡ all ++ a ∷ []
    → onto all (each_word form rest) ≡ whole → onto more (each_word form behind) ≡ whole
each_step {A = A} form all more a w rest behind whole cut is pushed so_far =
    ap (λ l. onto l (each_word form behind)) pushed ∙ together (each_word form behind)
    ∙ ap (λ o. onto all (with_first o (each_word form behind))) (sym is) ∙ ap (λ ws. onto all (each_word form ws)) (sym cut) ∙ so_far
  where
    together : (r : Result (List A) Bad) → onto (all ++ a ∷ []) r ≡ onto all (with_first (Some a) r)
    together (Ok bs) = ap Ok (append_assoc all (a ∷ []) bs)
    together (Err bad) = refl

pub each_end : {A : Type 0} (form : List ℕ → Option A) (all : List A) (rest : List (List ℕ)) (whole : Result (List A) Bad) → rest ≡ [] → onto all (each_word form rest) ≡ whole → whole ≡ Ok all
each_end form all rest whole none so_far = sym so_far ∙ ap (λ ws. onto all (each_word form ws)) none ∙ ap Ok (append-nil all)

-- at the start, and where a word has not the form
pub each_start : {A : Type 0} (r : Result (List A) Bad) → onto [] r ≡ r
each_start (Ok xs) = refl
each_start (Err bad) = refl

pub each_none : {A : Type 0} (form : List ℕ → Option A) (all : List A) (w : List ℕ) (rest behind : List (List ℕ)) (whole : Result (List A) Bad) → rest ≡ w ∷ behind → form w ≡ None
    → onto all (each_word form rest) ≡ whole → whole ≡ Err Line
each_none form all w rest behind whole cut none so_far =
    sym so_far ∙ ap (λ ws. onto all (each_word form ws)) cut ∙ ap (λ o. onto all (with_first o (each_word form behind))) none

pub items_step : {A : Type 0} (form : List ℕ → Option A) (all more : List A) (a : A) (w : List ℕ) (rest behind : List (List ℕ)) (whole : Option (List A)) → rest ≡ w ∷ behind → form w ≡ Some a → more ≡ all ++ a ∷ []
    → items_onto all (each_of form rest) ≡ whole → items_onto more (each_of form behind) ≡ whole
items_step {A = A} form all more a w rest behind whole cut is pushed so_far =
    ap (λ l. items_onto l (each_of form behind)) pushed ∙ together (each_of form behind)
    ∙ ap (λ o. items_onto all (with_item o (each_of form behind))) (sym is) ∙ ap (λ ws. items_onto all (each_of form ws)) (sym cut) ∙ so_far
  where
    together : (r : Option (List A)) → items_onto (all ++ a ∷ []) r ≡ items_onto all (with_item (Some a) r)
    together (Some bs) = ap Some (append_assoc all (a ∷ []) bs)
    together None = refl

pub items_start : {A : Type 0} (o : Option (List A)) → items_onto [] o ≡ o
items_start (Some xs) = refl
items_start None = refl

pub items_end : {A : Type 0} (form : List ℕ → Option A) (all : List A) (rest : List (List ℕ)) (whole : Option (List A)) → rest ≡ [] → items_onto all (each_of form rest) ≡ whole → whole ≡ Some all
items_end form all rest whole none so_far = sym so_far ∙ ap (λ ws. items_onto all (each_of form ws)) none ∙ ap Some (append-nil all)

pub items_none : {A : Type 0} (form : List ℕ → Option A) (all : List A) (w : List ℕ) (rest behind : List (List ℕ)) (whole : Option (List A)) → rest ≡ w ∷ behind → form w ≡ None
    → items_onto all (each_of form rest) ≡ whole → whole ≡ None
items_none form all w rest behind whole cut none so_far =
    sym so_far ∙ ap (λ ws. items_onto all (each_of form ws)) cut ∙ ap (λ o. items_onto all (with_item o (each_of form behind))) none

fault_step : (form : List ℕ → Option (List ℕ × ℕ)) (all more : List (List ℕ × ℕ)) (f : List ℕ × ℕ) (w : List ℕ) (r whole : Result Failures Bad) → form w ≡ Some f → more ≡ all ++ f ∷ []
    → failures_onto all (with_fault (form w) r) ≡ whole → failures_onto more r ≡ whole
fault_step form all more f w r whole is pushed so_far = ap (λ l. failures_onto l r) pushed ∙ together r ∙ ap (λ o. failures_onto all (with_fault o r)) (sym is) ∙ so_far
  where
    together : (r : Result Failures Bad) → failures_onto (all ++ f ∷ []) r ≡ failures_onto all (with_fault (Some f) r)
    together (Ok p) = ap (λ (l : List (List ℕ × ℕ)). Ok (l, p.1)) (append_assoc all (f ∷ []) p.0)
    together (Err bad) = refl

-- what a word does that is not `lost`, and one that is
abbrev pub failures_by : Bool → List ℕ → List (List ℕ) → Result Failures Bad
failures_by is_lost w behind = cond is_lost (losses_of behind) (with_fault (failed_of w) (failures_of behind))

fault_cut : (all : List (List ℕ × ℕ)) (w : List ℕ) (rest behind : List (List ℕ)) (b : Bool) (whole : Result Failures Bad) → rest ≡ w ∷ behind → is_text w (codes "lost") ≡ b
    → failures_onto all (failures_of rest) ≡ whole → failures_onto all (failures_by b w behind) ≡ whole
fault_cut all w rest behind b whole cut is so_far =
    ap (λ t. failures_onto all (failures_by t w behind)) (sym is) ∙ ap (λ (ws : List (List ℕ)). failures_onto all (failures_of ws)) (sym cut) ∙ so_far

pub fault_start : (r : Result Failures Bad) → failures_onto [] r ≡ r
fault_start (Ok p) = refl
fault_start (Err bad) = refl

pub fault_next : (all more : List (List ℕ × ℕ)) (f : List ℕ × ℕ) (w : List ℕ) (rest behind : List (List ℕ)) (whole : Result Failures Bad) → rest ≡ w ∷ behind → is_text w (codes "lost") ≡ false → failed_of w ≡ Some f → more ≡ all ++ f ∷ []
    → failures_onto all (failures_of rest) ≡ whole → failures_onto more (failures_of behind) ≡ whole
fault_next all more f w rest behind whole cut other is pushed so_far = fault_step failed_of all more f w (failures_of behind) whole is pushed (fault_cut all w rest behind false whole cut other so_far)

pub fault_none : (all : List (List ℕ × ℕ)) (w : List ℕ) (rest behind : List (List ℕ)) (whole : Result Failures Bad) → rest ≡ w ∷ behind → is_text w (codes "lost") ≡ false → failed_of w ≡ None
    → failures_onto all (failures_of rest) ≡ whole → whole ≡ Err Line
fault_none all w rest behind whole cut other none so_far = sym (fault_cut all w rest behind false whole cut other so_far) ∙ ap (λ o. failures_onto all (with_fault o (failures_of behind))) none

pub fault_lost : (all lost : List (List ℕ × ℕ)) (w : List ℕ) (rest behind : List (List ℕ)) (whole : Result Failures Bad) → rest ≡ w ∷ behind → is_text w (codes "lost") ≡ true → losses_of behind ≡ Ok ([], lost)
    → failures_onto all (failures_of rest) ≡ whole → whole ≡ Ok (all, lost)
fault_lost all lost w rest behind whole cut same is so_far =
    sym (fault_cut all w rest behind true whole cut same so_far) ∙ ap (failures_onto all) is ∙ ap (λ (l : List (List ℕ × ℕ)). Ok (l, lost)) (append-nil all)

pub fault_lost_none : (all : List (List ℕ × ℕ)) (w : List ℕ) (rest behind : List (List ℕ)) (whole : Result Failures Bad) → rest ≡ w ∷ behind → is_text w (codes "lost") ≡ true → losses_of behind ≡ Err Line
    → failures_onto all (failures_of rest) ≡ whole → whole ≡ Err Line
fault_lost_none all w rest behind whole cut same is so_far = sym (fault_cut all w rest behind true whole cut same so_far) ∙ ap (failures_onto all) is

pub fault_end : (all : List (List ℕ × ℕ)) (rest : List (List ℕ)) (whole : Result Failures Bad) → rest ≡ [] → failures_onto all (failures_of rest) ≡ whole → whole ≡ Ok (all, [])
fault_end all rest whole none so_far =
    sym so_far ∙ ap (λ (ws : List (List ℕ)). failures_onto all (failures_of ws)) none ∙ ap (λ (l : List (List ℕ × ℕ)). Ok (l, [])) (append-nil all)

-- ---- hexadecimal digits
pub hex_room : (w : List ℕ) (i n : ℕ) → n < 16 ^ i → i < length w → length w ≤ 16 → n * 16 + 15 < 2 ^ 64
hex_room w i n low within few =
    let up : 16 ^ i ≤ 1152921504606846976 = pow-le-pow_right {n = 16} (omega arith) {i = i} {j = 15} (omega (arith, within, few)) in
    omega (arith, up, low)

-- ---- the halves of a gfid
pub gfid_size : (w : List ℕ) → is_gfid w ≡ true → length w ≡ 32
gfid_size w h = eqb-true (length w) 32 (first_so (length w == 32) (list_all is_hex_digit w) h)

gfid_digits : (w : List ℕ) → is_gfid w ≡ true → (list_all is_hex_digit (take 16 w) && list_all is_hex_digit (drop 16 w)) ≡ true
gfid_digits w h = sym (list_all-append is_hex_digit (take 16 w) (drop 16 w)) ∙ ap (list_all is_hex_digit) (take-append-drop 16 w) ∙ second_so (length w == 32) (list_all is_hex_digit w) h

pub front_digits : (w : List ℕ) → is_gfid w ≡ true → list_all is_hex_digit (take 16 w) ≡ true
front_digits w h = first_so (list_all is_hex_digit (take 16 w)) (list_all is_hex_digit (drop 16 w)) (gfid_digits w h)

pub back_digits : (w : List ℕ) → is_gfid w ≡ true → list_all is_hex_digit (take (length w - 16) (drop 16 w)) ≡ true
back_digits w h = ap (list_all is_hex_digit) (take_rest w 16) ∙ second_so (list_all is_hex_digit (take 16 w)) (list_all is_hex_digit (drop 16 w)) (gfid_digits w h)

pub gfid_made : (w : List ℕ) (hi lo : ℕ) → hi ≡ hex_after 0 (take 16 w) → lo ≡ hex_after 0 (take (length w - 16) (drop 16 w)) → ◌≡◌ {A = Gfid} (record { hi = hi; lo = lo }) (gfid_of w)
gfid_made w hi lo first second = λ i. record { hi = first i; lo = (second ∙ ap (hex_after 0) (take_rest w 16)) i }
