-- The step that opens a wind keeps what every reached stack keeps.
use Rattle.std.proofs.Common.{◌≡◌, refl, sym, ap, subst, ◌∙◌, arith, inl, inr}
use Rattle.std.specs.Prelude.{ℕ, ◌≢◌, ◌⊎◌, ◌≤◌, ◌<◌, ◌+◌, ◌*◌, ◌==◌, ◌&&◌, Bool, true, false, List, [], ◌∷◌, ◌++◌, length, map, slice_get, Option, Some, None, IsSome, IsSomeAnd}
use Rattle.std.specs.List.{list_any}
use Rattle.std.proofs.lemmas.Bool.{cases_eq, eq-eqb}
use Rattle.std.proofs.lemmas.List.{append_assoc, length-append}
use Rattle.xlator_law.specs.declared.winds.WindNo.{WindNo}
use Rattle.frame_stack.specs.declared.frame.Opener.{Opener}
use Rattle.frame_stack.specs.declared.frame.Frame.{Frame}
use Rattle.frame_stack.specs.Cells.{cell_at, put_at}
use Rattle.frame_stack.specs.Stack.{Stack, Line, frame_at, word_at, word_of, pending, opener_at, opener_in, IsWound, wound}
use Rattle.frame_stack.specs.Moves.{Move, line_of, is_opening, is_ending, is_opening_of, is_wind, openings, opens_in, ends_in}
use Rattle.frame_stack.specs.Reached.{opening, ending, IsOpenAs}
use Rattle.frame_stack.proofs.Puts.{put_same, put_other, length_puts}
use Rattle.frame_stack.proofs.Lists.{any_push, get_later, get_last, count_push, count_put, or_true, or_left, or_none, and_true}
use Rattle.frame_stack.proofs.Winds.{same_wind, other_slot, other_turn}
use Rattle.frame_stack.proofs.Reported.{AreReported, Says, IsSlot, still_under, openings_push, openings_same, orderly_push, is_of_graph}
use Rattle.frame_stack.proofs.Openers.{opener_wound}

-- a move is reported at the end
pub reported_push : (handed lines : List Line) (moves : List Move) (m : Move) → handed ++ lines ≡ map line_of moves → handed ++ (lines ++ line_of m ∷ []) ≡ map line_of (moves ++ m ∷ [])
reported_push handed lines moves m h = sym (append_assoc handed lines (line_of m ∷ [])) ∙ ap (λ ls. ls ++ line_of m ∷ []) h ∙ sym (map-push moves) where
  map-push : (ms : List Move) → map line_of (ms ++ m ∷ []) ≡ map line_of ms ++ line_of m ∷ []
  map-push [] = refl
  map-push (x ∷ xs) = ap (λ ls. line_of x ∷ ls) (map-push xs)

-- an occupied slot stays so, whatever is moved afterwards
pub slot_later : (moves : List Move) (m : Move) (k : ℕ) (c : Option Opener) (word : ℕ) → IsSlot moves k c word → IsSlot (moves ++ m ∷ []) k c word
slot_later moves m k None word was = was
slot_later moves m k (Some o) word was = (was.0, was.1, any_push (is_opening_of e) moves m ∙ or_left (list_any (is_opening_of e) moves) (is_opening_of e m) was.2, number m.opened refl) where
  e : Move
  e = ending (record { slot = k; turn = was.0 }) o

  number : (b : Bool) → m.opened ≡ b → slice_get (openings (moves ++ m ∷ [])) o.number ≡ Some (opening (record { slot = k; turn = was.0 }) o)
  number true is = ap (λ (l : List Move). slice_get l o.number) (openings_push moves m is) ∙ get_later (openings moves) m (opening (record { slot = k; turn = was.0 }) o) o.number was.3
  number false is = ap (λ (l : List Move). slice_get l o.number) (openings_same moves m is) ∙ was.3

-- a yes stays a yes, and a no stays one where the new move doesn't count
pub says_push : (p : Move → Bool) (moves : List Move) (m : Move) (n word word2 : ℕ) → Says (list_any p moves) n word → (n ≤ word2 → (n ≤ word) ⊎ (p m ≡ true)) → (word2 < n → (word < n) × (p m ≡ false)) → Says (list_any p (moves ++ m ∷ [])) n word2
says_push p moves m n word word2 s f g = record {
  yes = λ h. any_push p moves m ∙ elim (f h) [
    | inl old ↦ or_left (list_any p moves) (p m) (s.yes old)
    | inr new ↦ or_true (list_any p moves) (p m) new
  ];
  no = λ h. any_push p moves m ∙ or_none (list_any p moves) (p m) (s.no (g h).0) (g h).1;
}

module _ {L : Type 0} (s : Stack L) (moves : List Move) (handed : List Line) (w : WindNo) (o : Opener) where
  opened_by : AreReported s moves handed → w.slot ≤ length s.openers → cell_at s.openers w.slot ≡ None → word_at s w.slot ≡ w.turn * 4 → IsOpenAs s.frames o → o.number ≡ s.opened → AreReported (wound s w o) (moves ++ opening w o ∷ []) handed
  opened_by t within vacant at frame number = record {
    reported = reported_push handed s.lines moves (opening w o) t.reported;
    orderly = orderly_push [] moves (opening w o) t.orderly ((t.opened w).no (omega (arith, at)));
    lengths = length_puts s.words s.openers w.slot (pending w) (Some o) t.lengths within2;
    opened = λ v. elim (cases_eq v.slot w.slot) [
      | inl same ↦ let old = before v.slot same in let new = after v.slot same in says_push (is_opening v) moves (opening w o) _ _ _ (t.opened v) (λ h. elim (cases_eq v.turn w.turn) [
        | inl turn ↦ inr (same_wind v w same turn)
        | inr turn ↦ inl (omega (arith, h, old, new, turn))
      ]) (λ h. (omega (arith, h, old, new), other_turn v w (λ e. omega (arith, h, new, e))))
      | inr differs ↦ let e = other v.slot differs in says_push (is_opening v) moves (opening w o) _ _ _ (t.opened v) (λ h. inl (omega (arith, h, e))) (λ h. (omega (arith, h, e), other_slot v w differs))
    ];
    ended = λ v. elim (cases_eq v.slot w.slot) [
      | inl same ↦ let old = before v.slot same in let new = after v.slot same in says_push (is_ending v) moves (opening w o) _ _ _ (t.ended v) (λ h. inl (omega (arith, h, old, new))) (λ h. (omega (arith, h, old, new), refl))
      | inr differs ↦ let e = other v.slot differs in says_push (is_ending v) moves (opening w o) _ _ _ (t.ended v) (λ h. inl (omega (arith, h, e))) (λ h. (omega (arith, h, e), refl))
    ];
    slots = λ k. elim (cases_eq k w.slot) [
      | inl same ↦ subst (λ n. IsSlot (moves ++ opening w o ∷ []) n (cell_at os2 n) (word_of ws2 n)) (sym same) (subst (λ c. IsSlot (moves ++ opening w o ∷ []) w.slot c (word_of ws2 w.slot)) (sym (put_same s.openers w.slot (Some o) None within)) (subst (λ n. IsSlot (moves ++ opening w o ∷ []) w.slot (Some o) n) (sym (put_same s.words w.slot (pending w) 0 within2)) (w.turn, inl refl, last_opens, last_number)))
      | inr differs ↦ subst (λ c. IsSlot (moves ++ opening w o ∷ []) k c (word_of ws2 k)) (sym (put_other s.openers w.slot k (Some o) None differs)) (subst (λ n. IsSlot (moves ++ opening w o ∷ []) k (cell_at s.openers k) n) (sym (other k differs)) (slot_later moves (opening w o) k (cell_at s.openers k) (word_at s k) (t.slots k)))
    ];
    held = λ k x is. elim (cases_eq k w.slot) [
      | inl same ↦ is_last k x same is
      | inr differs ↦ t.held k x (sym (put_other s.openers w.slot k (Some o) None differs) ∙ is)
    ];
    parents = λ key f is. still_under s (wound s w o) f.place (λ v h. (risen v h (cases_eq v.slot w.slot), inl ((opener_wound s w o within within2 at).others v (λ same. earlier v h same)))) (t.parents key f is);
    numbered = let n = t.numbered in let l = length-append (openings moves) (opening w o ∷ []) in ap (λ (ms : List Move). length ms) (openings_push moves (opening w o) refl) ∙ omega (arith, n, l);
    counted = λ g.
        let a = count_push (opens_in g) moves (opening w o) in
        let b = count_push (ends_in g) moves (opening w o) in
        let c = count_put (is_of_graph g) s.openers w.slot (Some o) within (ap (is_of_graph g) vacant) in
        let d = t.counted g in
        omega (arith, a, b, c, d);
  } where
    os2 : List (Option Opener)
    os2 = put_at s.openers w.slot (Some o)

    ws2 : List ℕ
    ws2 = put_at s.words w.slot (pending w)

    within2 : w.slot ≤ length s.words
    within2 = let l = t.lengths in omega (arith, within, l)

    before : (k : ℕ) → k ≡ w.slot → word_of s.words k ≡ w.turn * 4
    before k same = ap (word_of s.words) same ∙ at

    after : (k : ℕ) → k ≡ w.slot → word_of (put_at s.words w.slot (pending w)) k ≡ w.turn * 4 + 1
    after k same = ap (word_of (put_at s.words w.slot (pending w))) same ∙ put_same s.words w.slot (pending w) 0 within2

    other : (k : ℕ) → k ≢ w.slot → word_of (put_at s.words w.slot (pending w)) k ≡ word_of s.words k
    other k differs = put_other s.words w.slot k (pending w) 0 differs

    risen : (v : WindNo) → pending v ≤ word_at s v.slot → (v.slot ≡ w.slot) ⊎ (v.slot ≢ w.slot) → pending v ≤ word_of (put_at s.words w.slot (pending w)) v.slot
    risen v h (inl same) = let old = before v.slot same in let new = after v.slot same in omega (arith, h, old, new)
    risen v h (inr differs) = let e = other v.slot differs in omega (arith, h, e)

    -- a wind that was opened before is another one
    earlier : (v : WindNo) → pending v ≤ word_at s v.slot → v ≡ w → ⊥
    earlier v h same = let old = before v.slot (ap (λ (x : WindNo). x.slot) same) in let turn : v.turn ≡ w.turn = ap (λ (x : WindNo). x.turn) same in omega (arith, h, old, turn)

    last_number : slice_get (openings (moves ++ opening w o ∷ [])) o.number ≡ Some (opening w o)
    last_number = ap (λ (l : List Move). slice_get l o.number) (openings_push moves (opening w o) refl) ∙ ap (slice_get (openings moves ++ opening w o ∷ [])) (number ∙ sym t.numbered) ∙ get_last (openings moves) (opening w o)

    last_opens : list_any (is_opening_of (ending w o)) (moves ++ opening w o ∷ []) ≡ true
    last_opens = any_push (is_opening_of (ending w o)) moves (opening w o) ∙ or_true (list_any (is_opening_of (ending w o)) moves) (is_opening_of (ending w o) (opening w o)) (and_true (is_wind w w) ((o.graph == o.graph) && (o.call == o.call)) (same_wind w w refl refl) (and_true (o.graph == o.graph) (o.call == o.call) (eq-eqb o.graph o.graph refl) (eq-eqb o.call o.call refl)))

    is_last : (k : ℕ) (x : Opener) → k ≡ w.slot → cell_at (put_at s.openers w.slot (Some o)) k ≡ Some x → IsOpenAs s.frames x
    is_last k x same is = let e : Some o ≡ Some x = sym (put_same s.openers w.slot (Some o) None within) ∙ ap (cell_at (put_at s.openers w.slot (Some o))) (sym same) ∙ is in subst (λ y. IsOpenAs s.frames y) (some_is o x e) frame where
      some_is : (a b : Opener) → Some a ≡ Some b → a ≡ b
      some_is a b e = cc

-- the opener that an open frame makes is open as itself
opens_as : {L : Type 0} (frames : List (Option (Frame L))) (key slot number : ℕ) → IsSome (cell_at frames key) → IsOpenAs frames (opener_in key slot number (cell_at frames key))
opens_as frames key slot number there = by_cell (cell_at frames key) refl there where
  by_cell : (c : Option (Frame _)) → cell_at frames key ≡ c → IsSome c → IsOpenAs frames (opener_in key slot number c)
  by_cell None at h = absurd cc
  by_cell (Some f) at h = subst (λ c. IsSomeAnd c (λ x. (x.place.graph ≡ f.place.graph) × (x.place.call ≡ f.place.call))) (sym at) (refl, refl)

-- the next wind has the number of winds so far
next_number : {L : Type 0} (key slot number : ℕ) (c : Option (Frame L)) → (opener_in key slot number c).number ≡ number
next_number key slot number None = refl
next_number key slot number (Some f) = refl

pub wind_opened : {L : Type 0} (s t : Stack L) (moves : List Move) (handed : List Line) (key slot : ℕ) (w : WindNo) → AreReported s moves handed → IsSome (frame_at s key) → IsWound s t key slot w → AreReported t (moves ++ opening w (opener_at s key slot) ∷ []) handed
wind_opened s t moves handed key slot w reported there is = subst (λ x. AreReported x (moves ++ opening w (opener_at s key slot) ∷ []) handed) (sym is.made) (opened_by s moves handed w (opener_at s key slot) reported is.within is.vacant is.free (opens_as s.frames key slot s.opened there) (next_number key slot s.opened (frame_at s key)))
