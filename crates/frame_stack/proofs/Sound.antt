-- A step that writes one slot's opener and word keeps what openers and words keep.
use Rattle.std.proofs.Common.{◌≡◌, refl, sym, ap, subst, ◌∙◌, arith, set, inl, inr}
use Rattle.std.specs.Prelude.{ℕ, ◌≢◌, ◌⊎◌, zero, suc, ◌≤◌, ◌<◌, ◌+◌, ◌*◌, ◌==◌, cond, Bool, true, false, List, [], ◌∷◌, length, Option, Some, None}
use Rattle.std.proofs.lemmas.Bool.{cases_eq, eqb-true, eq-eqb}
use Rattle.std.proofs.lemmas.List.{set-get_or, length-set}
use Rattle.frame_stack.specs.declared.frame.Opener.{Opener}
use Rattle.frame_stack.specs.Cells.{cell_at, put_at, taken, IsInserted}
use Rattle.frame_stack.specs.Stack.{word_of, is_in}
use Rattle.frame_stack.specs.Sound.{AreKept, IsWordOf}
use Rattle.std.specs.List.{list_any}
use Rattle.frame_stack.proofs.Lists.{none_passes, and_true}
use Rattle.frame_stack.proofs.Puts.{put_same, put_other, put_within, length_put, length_puts}

-- no other slot has the opener's slot of its frame
abbrev IsSingle : List (Option Opener) → ℕ → Option Opener → Type 0
IsSingle os slot o = (a b : Opener) (j : ℕ) → o ≡ Some a → j ≢ slot → cell_at os j ≡ Some b → a.frame ≡ b.frame → a.slot ≡ b.slot → ⊥

kept_put : (os : List (Option Opener)) (ws : List ℕ) (opened more slot : ℕ) (o : Option Opener) (x : ℕ) → IsSingle os slot o → AreKept os ws opened → slot ≤ length os → length (put_at os slot o) ≤ 2147483648 → IsWordOf o x → x ≤ more * 4 → opened ≤ more → more ≤ 4294967295 → AreKept (put_at os slot o) (put_at ws slot x) more
kept_put os ws opened more slot o x alone k h few is small rise top =
    let l = k.lengths in
    let h2 : slot ≤ length ws = omega (arith, h, l) in
    record {
      lengths = length_puts ws os slot x o k.lengths h2;
      few = few;
      word = λ j. elim (cases_eq j slot) [
        | inl same ↦ subst (λ n. IsWordOf (cell_at (put_at os slot o) n) (word_of (put_at ws slot x) n)) (sym same) (subst (λ c. IsWordOf c (word_of (put_at ws slot x) slot)) (sym (put_same os slot o None h)) (subst (λ w. IsWordOf o w) (sym (put_same ws slot x 0 h2)) is))
        | inr differs ↦ subst (λ c. IsWordOf c (word_of (put_at ws slot x) j)) (sym (put_other os slot j o None differs)) (subst (λ w. IsWordOf (cell_at os j) w) (sym (put_other ws slot j x 0 differs)) (k.word j))
      ];
      single = λ i j a b at_i at_j frames slots. apart i j a b at_i at_j frames slots (cases_eq i slot) (cases_eq j slot);
      counted = λ j. elim (cases_eq j slot) [
        | inl same ↦ let e : word_of (put_at ws slot x) j ≡ x = ap (word_of (put_at ws slot x)) same ∙ put_same ws slot x 0 h2 in omega (arith, e, small)
        | inr differs ↦ let e = put_other ws slot j x 0 differs in let old = k.counted j in omega (arith, e, old, rise)
      ];
      bounded = top;
    } where
      put_here : (i : ℕ) (a : Opener) → i ≡ slot → cell_at (put_at os slot o) i ≡ Some a → o ≡ Some a
      put_here i a same at = sym (put_same os slot o None h) ∙ ap (cell_at (put_at os slot o)) (sym same) ∙ at

      there : (i : ℕ) (a : Opener) → i ≢ slot → cell_at (put_at os slot o) i ≡ Some a → cell_at os i ≡ Some a
      there i a differs at = sym (put_other os slot i o None differs) ∙ at

      apart : (i j : ℕ) (a b : Opener) → cell_at (put_at os slot o) i ≡ Some a → cell_at (put_at os slot o) j ≡ Some b → a.frame ≡ b.frame → a.slot ≡ b.slot → (i ≡ slot) ⊎ (i ≢ slot) → (j ≡ slot) ⊎ (j ≢ slot) → i ≡ j
      apart i j a b at_i at_j frames slots (inl x) (inl y) = x ∙ sym y
      apart i j a b at_i at_j frames slots (inl x) (inr y) = absurd (alone a b j (put_here i a x at_i) y (there j b y at_j) frames slots)
      apart i j a b at_i at_j frames slots (inr x) (inl y) = absurd (alone b a i (put_here j b y at_j) x (there i a x at_i) (sym frames) (sym slots))
      apart i j a b at_i at_j frames slots (inr x) (inr y) = k.single i j a b (there i a x at_i) (there j b y at_j) frames slots

some_word : (os : List (Option Opener)) (ws : List ℕ) (opened slot turn : ℕ) → AreKept os ws opened → word_of ws slot ≡ turn * 4 + 1 → IsWordOf (cell_at os slot) (turn * 4 + 2)
some_word os ws opened slot turn k e = of_cell (cell_at os slot) (k.word slot) where
  of_cell : (c : Option Opener) → IsWordOf c (word_of ws slot) → IsWordOf c (turn * 4 + 2)
  of_cell None was = absurd (let w = was.1 in omega (arith, e, w))
  of_cell (Some o) was = (turn, inr refl)

pub in_range : (ws : List ℕ) (slot : ℕ) → 0 < word_of ws slot → slot < length ws
in_range [] slot h = absurd (omega (arith, h))
in_range (w ∷ ws) zero h = omega (arith)
in_range (w ∷ ws) (suc slot) h = let ih = in_range ws slot h in omega (arith, ih)

pub settled_kept : (os : List (Option Opener)) (ws : List ℕ) (opened slot turn x : ℕ) → word_of ws slot ≡ turn * 4 + 1 → x ≡ turn * 4 + 2 → AreKept os ws opened → AreKept os (set ws slot x) opened
settled_kept os ws opened slot turn x e is k =
    let lt = in_range ws slot (omega (arith, e)) in
    let l = k.lengths in
    let lt2 : slot < length os = omega (arith, lt, l) in
    let c = k.counted slot in
    let same : put_at os slot (cell_at os slot) ≡ os = put_within os slot (cell_at os slot) lt2 ∙ set-get_or os slot None in
    let few : length (put_at os slot (cell_at os slot)) ≤ 2147483648 = subst (λ xs. length xs ≤ 2147483648) (sym same) k.few in
    subst (λ xs. AreKept xs (set ws slot x) opened) same (subst (λ ys. AreKept (put_at os slot (cell_at os slot)) ys opened) (put_within ws slot x lt) (kept_put os ws opened opened slot (cell_at os slot) x (λ a b j here differs stood frames slots. differs (sym (k.single slot j a b here stood frames slots))) k (omega (arith, lt2)) few (subst (λ n. IsWordOf (cell_at os slot) n) (sym is) (some_word os ws opened slot turn k e)) (omega (arith, c, e, is)) (omega (arith)) k.bounded))

pub resumed_kept : (os : List (Option Opener)) (ws : List ℕ) (opened slot turn x : ℕ) → word_of ws slot ≡ turn * 4 + 2 → x ≡ turn * 4 + 4 → AreKept os ws opened → AreKept (set os slot None) (set ws slot x) opened
resumed_kept os ws opened slot turn x e is k =
    let lt = in_range ws slot (omega (arith, e)) in
    let l = k.lengths in
    let lt2 : slot < length os = omega (arith, lt, l) in
    let c = k.counted slot in
    let same = put_within os slot None lt2 in
    let f = k.few in
    let few : length (put_at os slot None) ≤ 2147483648 = subst (λ xs. length xs ≤ 2147483648) (sym same) (let n = length-set os slot None in omega (arith, f, n)) in
    subst (λ xs. AreKept xs (set ws slot x) opened) same (subst (λ ys. AreKept (put_at os slot None) ys opened) (put_within ws slot x lt) (kept_put os ws opened opened slot None x (λ a b j here differs stood frames slots. absurd cc) k (omega (arith, lt2)) few (suc turn, omega (arith, is)) (omega (arith, c, e, is)) (omega (arith)) k.bounded))

pub wound_kept : (os os2 : List (Option Opener)) (ws ws2 : List ℕ) (opened slot turn : ℕ) (o : Opener) → list_any (is_in o.frame o.slot) os ≡ false → AreKept os ws opened → opened ≢ 4294967295 → taken os < 2147483648 → IsInserted os os2 slot o → word_of ws slot ≡ turn * 4 → ws2 ≡ put_at ws slot (turn * 4 + 1) → AreKept os2 ws2 (opened + 1)
wound_kept os os2 ws ws2 opened slot turn o free k room few ins e is =
    let c = k.counted slot in
    let b = k.bounded in
    let f = k.few in
    subst (λ xs. AreKept xs ws2 (opened + 1)) (sym ins.put) (subst (λ ys. AreKept (put_at os slot (Some o)) ys (opened + 1)) (sym is) (kept_put os ws opened (opened + 1) slot (Some o) (turn * 4 + 1) alone k ins.within small (turn, inl refl) (omega (arith, c, e)) (omega (arith)) (omega (arith, b, room)))) where
      small : length (put_at os slot (Some o)) ≤ 2147483648
      small = by_case (slot == length os) refl where
        by_case : (b : Bool) → (slot == length os) ≡ b → length (put_at os slot (Some o)) ≤ 2147483648
        by_case true y = let full = ins.full (eqb-true slot (length os) y) in let n = length_put os slot (Some o) ins.within in let m : length (put_at os slot (Some o)) ≡ length os + 1 = n ∙ ap (λ t. cond t (length os + 1) (length os)) y in omega (arith, full, few, m)
        by_case false y = let n = length_put os slot (Some o) ins.within in let m : length (put_at os slot (Some o)) ≡ length os = n ∙ ap (λ t. cond t (length os + 1) (length os)) y in let f = k.few in omega (arith, f, m)

      some_is : (a b : Opener) → Some a ≡ Some b → a ≡ b
      some_is a b e = cc

      -- the opener's slot of its frame was free
      alone : IsSingle os slot (Some o)
      alone a b j here differs stood frames slots =
          let same = some_is o a here in
          let passes : is_in o.frame o.slot (Some b) ≡ true = and_true (b.frame == o.frame) (b.slot == o.slot) (eq-eqb b.frame o.frame (sym frames ∙ ap (λ (x : Opener). x.frame) (sym same))) (eq-eqb b.slot o.slot (sym slots ∙ ap (λ (x : Opener). x.slot) (sym same))) in
          let fails = none_passes (is_in o.frame o.slot) os j b free stood in
          absurd cc
