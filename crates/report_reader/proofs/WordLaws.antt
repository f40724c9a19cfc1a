-- The forms of words are exact: each legal value has one word, and each word of a form is that of its value.
use Rattle.std.proofs.Common.{◌≡◌, ℕ, suc, ◌+◌, ◌^◌, ◌<◌, ◌≤◌, ◌==◌, ◌&&◌, not, nat_le, Bool, true, false, cond, List, [], ◌∷◌, ◌++◌, length, length-append, length-take, length-drop, take, drop, take-append-drop, codes, flat_map, Option, Some, None, decimal, refl, sym, ap, subst, ◌∙◌, arith, inl, inr, ◌⊎◌, eqb-true, eq-eqb, le-leb, leb-true}
use Rattle.std.proofs.lemmas.List.Folds.{list_all-append}
use Rattle.std.specs.Cmp.{first_so, second_so}
use Rattle.std.specs.List.{list_all}
use Rattle.std.proofs.lemmas.Fmt.{decimal_nonempty}
use Rattle.xl_base.specs.Words.{is_digit, decimal_of, is_hex_digit}
use Rattle.volfile.specs.TextLines.{front_len, onto_first, is_name, is_name_byte, is_text}
use Rattle.volfile.proofs.PrintedLines.{untrue}
use Rattle.volfile.proofs.WellRead.{both_so, weaker}
use Rattle.volfile.proofs.Places.{same_word}
use Rattle.fop_types.specs.Bounds.{Each, IsUnit, IsHyper, IsCell, is_component, is_name_byte as is_item_byte}
use Rattle.fop_types.specs.declared.cells.Gfid.{Gfid}
use Rattle.fop_types.specs.declared.cells.Cell.{Cell}
use Rattle.fop_types.specs.declared.cells.Aspect.{Aspect}
use Rattle.fop_types.specs.declared.cells.Aspect.TheVariants.{Data, Meta, Entry}
use Rattle.fop_types.specs.declared.cells.Kind.{Kind}
use Rattle.fop_types.specs.declared.cells.Kind.TheVariants.{File, Dir, Link}
use Rattle.fop_types.specs.declared.causes.SkipCause.{SkipCause}
use Rattle.fop_types.specs.declared.causes.SkipCause.TheVariants.{Majority, Unsettled, Split}
use Rattle.report_text.specs.Words.{hex_of, gfid_text, aspect_word, kind_word, cause_word, numbers_text, after_comma, places_text}
use Rattle.report_text.specs.AnswerText.{present_word}
use Rattle.report_reader.specs.Reports.{IsName, IsItemName, IsShown, IsItem, IsLost, IsFailed}
use Rattle.report_reader.specs.code.Readers.{parts_at}
use Rattle.report_reader.specs.code.Forms.{unit_of, numbers_of, places_of, at_most_five, counters_of, with_item, each_of, hex_after, before_first, behind_first, aspect_of, is_gfid, gfid_of, with_gfid, cell_of, name_at, kind_of, is_item_name, with_item_name, item_of, with_brick, failed_of, lost_of, presence_of, cause_of}
use Rattle.report_reader.proofs.Joins.{joined, text_of, has_no, parts_joined, text_whole}
use Rattle.report_reader.proofs.Laws.{IsWord, not_some, some_is}
use Rattle.report_reader.proofs.NumberLaws.{hyper_law, unit_law, hex_length, hex_digits, hex_back, hex_written, hex_small, decimal_digits}

-- ---- a choice that gave something
pub chosen : {A : Type 0} (b : Bool) (x y : Option A) (a : A) → cond b x y ≡ Some a → ((b ≡ true) × (x ≡ Some a)) ⊎ ((b ≡ false) × (y ≡ Some a))
chosen true x y a e = inl (refl, e)
chosen false x y a e = inr (refl, e)

pub kept : {A : Type 0} (b : Bool) (x a : A) → cond b (Some x) None ≡ Some a → (b ≡ true) × (x ≡ a)
kept true x a e = (refl, some_is x a e)
kept false x a e = absurd (not_some a e)

pub keeps : {A : Type 0} (b : Bool) (x : A) → b ≡ true → cond b (Some x) None ≡ Some x
keeps b x is = ap (λ t. cond t (Some x) None) is

-- one word of a few
tried : {A : Type 0} (Is : List ℕ → A → Type 0) (w word : List ℕ) (x a : A) (y : Option A) → Is word x → (y ≡ Some a → Is w a) → cond (is_text w word) (Some x) y ≡ Some a → Is w a
tried Is w word x a y here later e = by (is_text w word) refl e
  where
    by : (b : Bool) → is_text w word ≡ b → cond b (Some x) y ≡ Some a → Is w a
    by true is e = subst (Is w) (some_is x a e) (subst (λ (v : List ℕ). Is v x) (sym (same_word w word is)) here)
    by false is e = later e

-- ---- words of a few
abbrev pub IsAspect : List ℕ → Aspect → Type 0
IsAspect w a = w ≡ aspect_word a

pub aspect_law : IsWord (λ (a : Aspect). Unit {0}) aspect_word aspect_of
aspect_law = record {
  takes = takes;
  again = λ w a e. (tt, tried IsAspect w (codes "data") Data a _ refl (tried IsAspect w (codes "metadata") Meta a _ refl (tried IsAspect w (codes "entry") Entry a None refl (λ no. absurd (not_some a no)))) e);
}
  where
    takes : (a : Aspect) → Unit {0} → aspect_of (aspect_word a) ≡ Some a
    takes Data h = refl
    takes Meta h = refl
    takes Entry h = refl

abbrev pub IsKindWord : List ℕ → Kind → Type 0
IsKindWord w k = IsShown k × (w ≡ kind_word k)

pub kind_law : IsWord IsShown kind_word kind_of
kind_law = record {
  takes = takes;
  again = λ w k e. tried IsKindWord w (codes "file") File k _ (tt, refl) (tried IsKindWord w (codes "dir") Dir k None (tt, refl) (λ no. absurd (not_some k no))) e;
}
  where
    takes : (k : Kind) → IsShown k → kind_of (kind_word k) ≡ Some k
    takes File h = refl
    takes Dir h = refl
    takes Link h = absurd h

abbrev pub IsCause : List ℕ → SkipCause → Type 0
IsCause w c = w ≡ cause_word c

pub cause_law : IsWord (λ (c : SkipCause). Unit {0}) cause_word cause_of
cause_law = record {
  takes = takes;
  again = λ w c e. (tt, tried IsCause w (codes "majority") Majority c _ refl (tried IsCause w (codes "unsettled") Unsettled c _ refl (tried IsCause w (codes "split") Split c None refl (λ no. absurd (not_some c no)))) e);
}
  where
    takes : (c : SkipCause) → Unit {0} → cause_of (cause_word c) ≡ Some c
    takes Majority h = refl
    takes Unsettled h = refl
    takes Split h = refl

abbrev pub IsPresence : List ℕ → Bool → Type 0
IsPresence w b = w ≡ present_word b

pub presence_law : IsWord (λ (b : Bool). Unit {0}) present_word presence_of
presence_law = record {
  takes = takes;
  again = λ w b e. (tt, tried IsPresence w (codes "1") true b _ refl (tried IsPresence w (codes "0") false b None refl (λ no. absurd (not_some b no))) e);
}
  where
    takes : (b : Bool) → Unit {0} → presence_of (present_word b) ≡ Some b
    takes true h = refl
    takes false h = refl

-- ---- names
pub name_law : IsWord IsName (λ w. w) name_at
name_law = record {
  takes = λ w h. keeps (is_name w) w h;
  again = λ w v e. let k = kept (is_name w) w v e in (subst IsName k.1 k.0, k.1);
}

-- ---- a word of two parts
front_is : (stop : ℕ) (w rest : List ℕ) → has_no stop w → front_len (λ b. b == stop) (w ++ stop ∷ rest) ≡ length w
front_is stop [] rest h = ap (λ t. cond t 0 (suc (front_len (λ b. b == stop) rest))) (eq-eqb stop stop refl)
front_is stop (b ∷ w) rest h =
    let n = front_len (λ b. b == stop) (w ++ stop ∷ rest) in
    ap (λ t. cond t 0 (suc n)) (untrue (b == stop) (first_so (not (b == stop)) (list_all (λ b. not (b == stop)) w) h))
    ∙ ap suc (front_is stop w rest (second_so (not (b == stop)) (list_all (λ b. not (b == stop)) w) h))

take_front : (w rest : List ℕ) → take (length w) (w ++ rest) ≡ w
take_front [] rest = refl
take_front (b ∷ w) rest = ap (λ l. b ∷ l) (take_front w rest)

drop_front : (w : List ℕ) (b : ℕ) (rest : List ℕ) → drop (length w + 1) (w ++ b ∷ rest) ≡ rest
drop_front [] b rest = refl
drop_front (c ∷ w) b rest = let more : length (c ∷ w) + 1 ≡ suc (length w + 1) = omega arith in ap (λ n. drop n (c ∷ w ++ b ∷ rest)) more ∙ drop_front w b rest

pub before_is : (stop : ℕ) (w rest : List ℕ) → has_no stop w → before_first stop (w ++ stop ∷ rest) ≡ w
before_is stop w rest h = ap (λ n. take n (w ++ stop ∷ rest)) (front_is stop w rest h) ∙ take_front w (stop ∷ rest)

pub behind_is : (stop : ℕ) (w rest : List ℕ) → has_no stop w → behind_first stop (w ++ stop ∷ rest) ≡ rest
behind_is stop w rest h = ap (λ n. drop (n + 1) (w ++ stop ∷ rest)) (front_is stop w rest h) ∙ drop_front w stop rest

-- where something is behind the first `stop`, the word is its two parts
pub two_parts : (stop : ℕ) (w : List ℕ) → 0 < length (behind_first stop w) → w ≡ before_first stop w ++ stop ∷ behind_first stop w
two_parts stop [] some = absurd (omega (arith, some))
two_parts stop (b ∷ w) some = by (b == stop) refl some (λ k. two_parts stop w k)
  where
    n : ℕ
    n = front_len (λ b. b == stop) w

    by : (t : Bool) → (b == stop) ≡ t → 0 < length (drop (cond t 0 (suc n) + 1) (b ∷ w)) → (0 < length (behind_first stop w) → w ≡ before_first stop w ++ stop ∷ behind_first stop w) → ◌≡◌ {A = List ℕ} (b ∷ w) (take (cond t 0 (suc n)) (b ∷ w) ++ stop ∷ drop (cond t 0 (suc n) + 1) (b ∷ w))
    by true is some next = ap (λ c. c ∷ w) (eqb-true b stop is)
    by false is some next =
        let more : suc n + 1 ≡ suc (n + 1) = omega arith in
        let later : 0 < length (behind_first stop w) = subst (λ k. 0 < length (drop k (b ∷ w))) more some in
        ap (λ l. b ∷ l) (next later) ∙ ap (λ k. b ∷ take n w ++ stop ∷ drop k (b ∷ w)) (sym more)

-- bytes of a class without the byte between the parts
pub apart : (class : ℕ → Bool) (stop : ℕ) → class stop ≡ false → (w : List ℕ) → list_all class w ≡ true → has_no stop w
apart class stop out w h = weaker class (λ b. not (b == stop)) (λ b k. by b (b == stop) refl k) w h
  where
    by : (b : ℕ) (t : Bool) → (b == stop) ≡ t → class b ≡ true → not (b == stop) ≡ true
    by b true is k = absurd (true_false (sym (subst (λ c. class c ≡ true) (eqb-true b stop is) k) ∙ out))
      where
        true_false : ◌≡◌ {A = Bool} true false → ⊥
        true_false e = absurd cc
    by b false is k = ap not is

-- ---- BRICK:NUMBER
pub name_bytes : (w : List ℕ) → is_name w ≡ true → list_all is_name_byte w ≡ true
name_bytes w h = second_so (nat_le 1 (length w) && nat_le (length w) 64) (list_all is_name_byte w) h

brick_takes : (name : List ℕ) (n : ℕ) → is_name name ≡ true → with_brick name (Some n) ≡ Some (name, n)
brick_takes name n h = keeps (is_name name) (name, n) h

module _ (Legal : ℕ → Type 0) (number : List ℕ → Option ℕ) (law : IsWord Legal decimal number) (some : (n : ℕ) → Legal n → 0 < length (decimal n)) where
  pub brick_law : IsWord (λ (b : List ℕ × ℕ). IsName b.0 × Legal b.1) (λ b. b.0 ++ 58 ∷ decimal b.1) (λ w. with_brick (before_first 58 w) (number (behind_first 58 w)))
  brick_law = record { takes = takes; again = again }
    where
      takes : (b : List ℕ × ℕ) → IsName b.0 × Legal b.1 → with_brick (before_first 58 (b.0 ++ 58 ∷ decimal b.1)) (number (behind_first 58 (b.0 ++ 58 ∷ decimal b.1))) ≡ Some b
      takes b h =
          let clear = apart is_name_byte 58 refl b.0 (name_bytes b.0 h.0) in
          ap (λ (w : List ℕ). with_brick w (number (behind_first 58 (b.0 ++ 58 ∷ decimal b.1)))) (before_is 58 b.0 (decimal b.1) clear)
          ∙ ap (λ (w : List ℕ). with_brick b.0 (number w)) (behind_is 58 b.0 (decimal b.1) clear)
          ∙ ap (with_brick b.0) (law.takes b.1 h.1) ∙ brick_takes b.0 b.1 h.0

      again : (w : List ℕ) (b : List ℕ × ℕ) → with_brick (before_first 58 w) (number (behind_first 58 w)) ≡ Some b → (IsName b.0 × Legal b.1) × (w ≡ b.0 ++ 58 ∷ decimal b.1)
      again w b e = by (number (behind_first 58 w)) refl e
        where
          by : (o : Option ℕ) → number (behind_first 58 w) ≡ o → with_brick (before_first 58 w) o ≡ Some b → (IsName b.0 × Legal b.1) × (w ≡ b.0 ++ 58 ∷ decimal b.1)
          by None is e = absurd (not_some b e)
          by (Some n) is e =
              let k = kept (is_name (before_first 58 w)) (before_first 58 w, n) b e in
              let g = law.again (behind_first 58 w) n is in
              let name : before_first 58 w ≡ b.0 = ap (λ (q : List ℕ × ℕ). q.0) k.1 in
              let same : n ≡ b.1 = ap (λ (q : List ℕ × ℕ). q.1) k.1 in
              let whole = two_parts 58 w (subst (λ (l : List ℕ). 0 < length l) (sym g.1) (some n g.0)) in
              ((subst IsName name k.0, subst Legal same g.0), whole ∙ (λ i. name i ++ 58 ∷ (g.1 ∙ ap decimal same) i))

pub failed_law : IsWord IsFailed (λ (b : List ℕ × ℕ). b.0 ++ 58 ∷ decimal b.1) failed_of
failed_law = brick_law IsHyper decimal_of hyper_law (λ n h. decimal_nonempty n h)

pub lost_law : IsWord IsLost (λ (b : List ℕ × ℕ). b.0 ++ 58 ∷ decimal b.1) lost_of
lost_law = brick_law IsUnit unit_of unit_law (λ n h. decimal_nonempty n (omega (arith, h)))

-- ---- NAME/KIND
kind_some : (k : Kind) → 0 < length (kind_word k)
kind_some File = omega arith
kind_some Dir = omega arith
kind_some Link = omega arith

pub item_bytes : (w : List ℕ) → is_component w ≡ true → list_all is_item_byte w ≡ true
item_bytes w h = second_so (nat_le 1 (length w)) (list_all is_item_byte w) (first_so (nat_le 1 (length w) && list_all is_item_byte w) _ h)

item_fine : (w : List ℕ) → IsItemName w → is_item_name w ≡ true
item_fine w h = both_so (is_component w) (nat_le (length w) 255) h.0 (le-leb (length w) 255 h.1)

fine_item : (w : List ℕ) → is_item_name w ≡ true → IsItemName w
fine_item w h = (first_so (is_component w) (nat_le (length w) 255) h, leb-true (length w) 255 (second_so (is_component w) (nat_le (length w) 255) h))

pub item_law : IsWord IsItem (λ (i : List ℕ × Kind). i.0 ++ 47 ∷ kind_word i.1) item_of
item_law = record { takes = takes; again = again }
  where
    takes : (i : List ℕ × Kind) → IsItem i → item_of (i.0 ++ 47 ∷ kind_word i.1) ≡ Some i
    takes i h =
        let w = i.0 ++ 47 ∷ kind_word i.1 in
        let clear = apart is_item_byte 47 refl i.0 (item_bytes i.0 h.0.0) in
        ap (λ (v : List ℕ). with_item_name v (kind_of (behind_first 47 w))) (before_is 47 i.0 (kind_word i.1) clear)
        ∙ ap (λ (v : List ℕ). with_item_name i.0 (kind_of v)) (behind_is 47 i.0 (kind_word i.1) clear)
        ∙ ap (with_item_name i.0) (kind_law.takes i.1 h.1) ∙ keeps (is_item_name i.0) i (item_fine i.0 h.0)

    again : (w : List ℕ) (i : List ℕ × Kind) → item_of w ≡ Some i → IsItem i × (w ≡ i.0 ++ 47 ∷ kind_word i.1)
    again w i e = by (kind_of (behind_first 47 w)) refl e
      where
        by : (o : Option Kind) → kind_of (behind_first 47 w) ≡ o → with_item_name (before_first 47 w) o ≡ Some i → IsItem i × (w ≡ i.0 ++ 47 ∷ kind_word i.1)
        by None is e = absurd (not_some i e)
        by (Some kind) is e =
            let k = kept (is_item_name (before_first 47 w)) (before_first 47 w, kind) i e in
            let g = kind_law.again (behind_first 47 w) kind is in
            let name : before_first 47 w ≡ i.0 = ap (λ (q : List ℕ × Kind). q.0) k.1 in
            let same : kind ≡ i.1 = ap (λ (q : List ℕ × Kind). q.1) k.1 in
            let whole = two_parts 47 w (subst (λ (l : List ℕ). 0 < length l) (sym g.1) (kind_some kind)) in
            ((subst IsItemName name (fine_item (before_first 47 w) k.0), subst IsShown same g.0), whole ∙ (λ j. name j ++ 47 ∷ (g.1 ∙ ap kind_word same) j))

-- ---- GFID/ASPECT
halves : (g : Gfid) → IsHyper g.hi → IsHyper g.lo → (is_gfid (gfid_text g) ≡ true) × (gfid_of (gfid_text g) ≡ g)
halves g high low =
    let hi = hex_of 16 g.hi in
    let lo = hex_of 16 g.lo in
    let size : length (hi ++ lo) ≡ 32 = length-append hi lo ∙ omega (arith, hex_length 16 g.hi, hex_length 16 g.lo) in
    let all : list_all is_hex_digit (hi ++ lo) ≡ true = list_all-append is_hex_digit hi lo ∙ both_so (list_all is_hex_digit hi) (list_all is_hex_digit lo) (hex_digits 16 g.hi) (hex_digits 16 g.lo) in
    let front : take 16 (hi ++ lo) ≡ hi = ap (λ n. take n (hi ++ lo)) (sym (hex_length 16 g.hi)) ∙ take_front hi lo in
    let back : drop 16 (hi ++ lo) ≡ lo = ap (λ n. drop n (hi ++ lo)) (sym (hex_length 16 g.hi)) ∙ drop_all_front hi lo in
    let first : hex_after 0 (take 16 (hi ++ lo)) ≡ g.hi = ap (hex_after 0) front ∙ hex_back 16 g.hi (omega (arith, high)) in
    let second : hex_after 0 (drop 16 (hi ++ lo)) ≡ g.lo = ap (hex_after 0) back ∙ hex_back 16 g.lo (omega (arith, low)) in (
      both_so (length (hi ++ lo) == 32) (list_all is_hex_digit (hi ++ lo)) (eq-eqb (length (hi ++ lo)) 32 size) all,
      λ i. record { hi = first i; lo = second i },
    )
  where
    drop_all_front : (w rest : List ℕ) → drop (length w) (w ++ rest) ≡ rest
    drop_all_front [] rest = refl
    drop_all_front (b ∷ w) rest = drop_all_front w rest

digits_of_gfid : (w : List ℕ) → is_gfid w ≡ true → (IsHyper (gfid_of w).hi × IsHyper (gfid_of w).lo) × (w ≡ gfid_text (gfid_of w))
digits_of_gfid w h =
    let size : length w ≡ 32 = eqb-true (length w) 32 (first_so (length w == 32) (list_all is_hex_digit w) h) in
    let all = second_so (length w == 32) (list_all is_hex_digit w) h in
    let cut : w ≡ take 16 w ++ drop 16 w = sym (take-append-drop 16 w) in
    let both : (list_all is_hex_digit (take 16 w) && list_all is_hex_digit (drop 16 w)) ≡ true = sym (list_all-append is_hex_digit (take 16 w) (drop 16 w)) ∙ ap (list_all is_hex_digit) (sym cut) ∙ all in
    let front = first_so (list_all is_hex_digit (take 16 w)) (list_all is_hex_digit (drop 16 w)) both in
    let back = second_so (list_all is_hex_digit (take 16 w)) (list_all is_hex_digit (drop 16 w)) both in
    let first : length (take 16 w) ≡ 16 = omega (arith, length-take 16 w, size) in
    let second : length (drop 16 w) ≡ 16 = omega (arith, length-drop 16 w, size) in (
      (hex_small (take 16 w) first front, hex_small (drop 16 w) second back),
      cut ∙ (λ i. (sym (hex_written (take 16 w) 16 first front)) i ++ (sym (hex_written (drop 16 w) 16 second back)) i),
    )

aspect_some : (a : Aspect) → 0 < length (aspect_word a)
aspect_some Data = omega arith
aspect_some Meta = omega arith
aspect_some Entry = omega arith

pub cell_law : IsWord IsCell (λ (c : Cell). gfid_text c.gfid ++ 47 ∷ aspect_word c.aspect) cell_of
cell_law = record { takes = takes; again = again }
  where
    takes : (c : Cell) → IsCell c → cell_of (gfid_text c.gfid ++ 47 ∷ aspect_word c.aspect) ≡ Some c
    takes c h =
        let g = gfid_text c.gfid in
        let w = g ++ 47 ∷ aspect_word c.aspect in
        let half = halves c.gfid h.0 h.1 in
        let clear = apart is_hex_digit 47 refl g (second_so (length g == 32) (list_all is_hex_digit g) half.0) in
        ap (λ (v : List ℕ). with_gfid v (aspect_of (behind_first 47 w))) (before_is 47 g (aspect_word c.aspect) clear)
        ∙ ap (λ (v : List ℕ). with_gfid g (aspect_of v)) (behind_is 47 g (aspect_word c.aspect) clear)
        ∙ ap (with_gfid g) (aspect_law.takes c.aspect tt)
        ∙ keeps (is_gfid g) (record { gfid = gfid_of g; aspect = c.aspect }) half.0
        ∙ ap (λ (x : Gfid). Some (record { gfid = x; aspect = c.aspect })) half.1

    again : (w : List ℕ) (c : Cell) → cell_of w ≡ Some c → IsCell c × (w ≡ gfid_text c.gfid ++ 47 ∷ aspect_word c.aspect)
    again w c e = by (aspect_of (behind_first 47 w)) refl e
      where
        by : (o : Option Aspect) → aspect_of (behind_first 47 w) ≡ o → with_gfid (before_first 47 w) o ≡ Some c → IsCell c × (w ≡ gfid_text c.gfid ++ 47 ∷ aspect_word c.aspect)
        by None is e = absurd (not_some c e)
        by (Some a) is e =
            let v = before_first 47 w in
            let k = kept (is_gfid v) (record { gfid = gfid_of v; aspect = a }) c e in
            let g = aspect_law.again (behind_first 47 w) a is in
            let d = digits_of_gfid v k.0 in
            let gfid : gfid_of v ≡ c.gfid = ap (λ (x : Cell). x.gfid) k.1 in
            let aspect : a ≡ c.aspect = ap (λ (x : Cell). x.aspect) k.1 in
            let whole = two_parts 47 w (subst (λ (l : List ℕ). 0 < length l) (sym g.1) (aspect_some a)) in
            (subst (λ (x : Gfid). IsHyper x.hi × IsHyper x.lo) gfid d.0, whole ∙ (λ i. (d.1 ∙ ap gfid_text gfid) i ++ 47 ∷ (g.1 ∙ ap aspect_word aspect) i))

-- ---- numbers with commas
-- there is always a part
some_part : (w : List ℕ) → parts_at 44 w ≡ [] → ⊥
some_part [] e = absurd cc
some_part (b ∷ w) e = by (b == 44) (parts_at 44 w) e
  where
    by : (t : Bool) (ps : List (List ℕ)) → cond t ([] ∷ ps) (onto_first b ps) ≡ [] → ⊥
    by true ps e = absurd cc
    by false [] e = absurd cc
    by false (p ∷ ps) e = absurd cc

-- the first byte of a number is a digit
no_dash : (n : ℕ) (ns : List ℕ) → IsUnit n → is_text (numbers_text (n ∷ ns)) (codes "-") ≡ false
no_dash n ns h = by (is_text (numbers_text (n ∷ ns)) (codes "-")) refl
  where
    first : (w rest : List ℕ) → list_all is_digit w ≡ true → 0 < length w → w ++ rest ≡ codes "-" → ⊥
    first [] rest all some e = omega (arith, some)
    first (d ∷ w) rest all some e =
        let digit = first_so (is_digit d) (list_all is_digit w) all in
        let is : d ≡ 45 = cc in
        let no : is_digit 45 ≡ true = subst (λ c. is_digit c ≡ true) is digit in
        absurd cc

    by : (b : Bool) → is_text (numbers_text (n ∷ ns)) (codes "-") ≡ b → b ≡ false
    by false is = refl
    by true is = absurd (first (decimal n) (flat_map after_comma ns) (decimal_digits n (omega (arith, h))) (decimal_nonempty n (omega (arith, h))) (same_word (numbers_text (n ∷ ns)) (codes "-") is))

digit_apart : (n : ℕ) → n < 2 ^ 64 → has_no 44 (decimal n)
digit_apart n h = apart is_digit 44 refl (decimal n) (decimal_digits n h)

-- the words of numbers
abbrev pub decimals : List ℕ → List (List ℕ)
decimals [] = []
decimals (n ∷ ns) = decimal n ∷ decimals ns

numbers_joined : (n : ℕ) (ns : List ℕ) → numbers_text (n ∷ ns) ≡ joined 44 (decimal n) (decimals ns) []
numbers_joined n [] = refl
numbers_joined n (m ∷ ms) = ap (λ l. decimal n ++ 44 ∷ l) (numbers_joined m ms)

decimals_apart : (ns : List ℕ) → Each IsUnit ns → Each (has_no 44) (decimals ns)
decimals_apart [] h = tt
decimals_apart (n ∷ ns) h = (digit_apart n (omega (arith, h.0)), decimals_apart ns h.1)

each_takes : (ns : List ℕ) → Each IsUnit ns → each_of unit_of (decimals ns) ≡ Some ns
each_takes [] h = refl
each_takes (n ∷ ns) h = ap (λ (o : Option ℕ). with_item o (each_of unit_of (decimals ns))) (unit_law.takes n h.0) ∙ ap (with_item (Some n)) (each_takes ns h.1)

each_again : (ws : List (List ℕ)) (ns : List ℕ) → each_of unit_of ws ≡ Some ns → Each IsUnit ns × (ws ≡ decimals ns)
each_again [] ns e = let is : [] ≡ ns = some_is [] ns e in subst (λ (l : List ℕ). Each IsUnit l × ([] ≡ decimals l)) is (tt, refl)
each_again (w ∷ ws) ns e = by (unit_of w) (each_of unit_of ws) refl refl e (λ ms k. each_again ws ms k)
  where
    by : (o : Option ℕ) (r : Option (List ℕ)) → unit_of w ≡ o → each_of unit_of ws ≡ r → with_item o r ≡ Some ns → ((ms : List ℕ) → each_of unit_of ws ≡ Some ms → Each IsUnit ms × (ws ≡ decimals ms)) → Each IsUnit ns × ◌≡◌ {A = List (List ℕ)} (w ∷ ws) (decimals ns)
    by None r is was e next = absurd (not_some ns e)
    by (Some n) None is was e next = absurd (not_some ns e)
    by (Some n) (Some ms) is was e next =
        let g = unit_law.again w n is in
        let h = next ms was in
        subst (λ (l : List ℕ). Each IsUnit l × ◌≡◌ {A = List (List ℕ)} (w ∷ ws) (decimals l)) (some_is (n ∷ ms) ns e) ((g.0, h.0), ap (λ v. v ∷ ws) g.1 ∙ ap (λ vs. decimal n ∷ vs) h.1)

-- one number or more
abbrev pub AreNumbers : List ℕ → Type 0
AreNumbers ns = (1 ≤ length ns) × Each IsUnit ns

pub numbers_law : IsWord AreNumbers numbers_text numbers_of
numbers_law = record { takes = takes; again = again }
  where
    takes : (ns : List ℕ) → AreNumbers ns → numbers_of (numbers_text ns) ≡ Some ns
    takes [] h = absurd (omega (arith, h.0))
    takes (n ∷ ns) h =
        ap (λ (w : List ℕ). each_of unit_of (parts_at 44 w)) (numbers_joined n ns)
        ∙ ap (each_of unit_of) (parts_joined 44 (decimal n) (decimals ns) (digit_apart n (omega (arith, h.1.0))) (decimals_apart ns h.1.1)) ∙ each_takes (n ∷ ns) h.1

    parts : (w : List ℕ) (ns : List ℕ) → parts_at 44 w ≡ decimals ns → (1 ≤ length ns) × (w ≡ numbers_text ns)
    parts w [] e = absurd (some_part w e)
    parts w (n ∷ ns) e = (omega arith, sym (text_whole 44 w) ∙ ap (λ (ps : List (List ℕ)). text_of 44 ps []) e ∙ sym (numbers_joined n ns))

    again : (w ns : List ℕ) → numbers_of w ≡ Some ns → AreNumbers ns × (w ≡ numbers_text ns)
    again w ns e = let g = each_again (parts_at 44 w) ns e in let p = parts w ns g.1 in ((p.0, g.0), p.1)

-- ---- places and counters
pub places_law : IsWord (Each IsUnit) places_text places_of
places_law = record { takes = takes; again = again }
  where
    takes : (ns : List ℕ) → Each IsUnit ns → places_of (places_text ns) ≡ Some ns
    takes [] h = refl
    takes (n ∷ ns) h = ap (λ b. cond b (Some []) (numbers_of (numbers_text (n ∷ ns)))) (no_dash n ns h.0) ∙ numbers_law.takes (n ∷ ns) (omega arith, h)

    again : (w ns : List ℕ) → places_of w ≡ Some ns → Each IsUnit ns × (w ≡ places_text ns)
    again w ns e = by (is_text w (codes "-")) refl e
      where
        some : (ns : List ℕ) → AreNumbers ns → w ≡ numbers_text ns → w ≡ places_text ns
        some [] h e = absurd (omega (arith, h.0))
        some (n ∷ ns) h e = e

        by : (b : Bool) → is_text w (codes "-") ≡ b → cond b (Some []) (numbers_of w) ≡ Some ns → Each IsUnit ns × (w ≡ places_text ns)
        by true is e = subst (λ (l : List ℕ). Each IsUnit l × (w ≡ places_text l)) (some_is [] ns e) (tt, same_word w (codes "-") is)
        by false is e = let g = numbers_law.again w ns e in (g.0.1, some ns g.0 g.1)

abbrev pub AreCounters : List ℕ → Type 0
AreCounters ns = AreNumbers ns × (length ns ≤ 5)

pub counters_law : IsWord AreCounters numbers_text counters_of
counters_law = record {
  takes = λ ns h. ap at_most_five (numbers_law.takes ns h.0) ∙ keeps (nat_le (length ns) 5) ns (le-leb (length ns) 5 h.1);
  again = λ w ns e. by w ns (numbers_of w) refl e;
}
  where
    by : (w ns : List ℕ) (o : Option (List ℕ)) → numbers_of w ≡ o → at_most_five o ≡ Some ns → AreCounters ns × (w ≡ numbers_text ns)
    by w ns None is e = absurd (not_some ns e)
    by w ns (Some ms) is e =
        let k = kept (nat_le (length ms) 5) ms ns e in
        let g = numbers_law.again w ms is in
        subst (λ (l : List ℕ). AreCounters l × (w ≡ numbers_text l)) k.1 ((g.0, leb-true (length ms) 5 k.0), g.1)
