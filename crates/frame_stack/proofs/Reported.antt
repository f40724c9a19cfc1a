-- What every reached stack keeps: the words say which winds were opened and which were ended; an occupied
-- slot's opener is the frame of the wind's opening, which is open; and a frame is in the graph and of the
-- call of its parent wind.
use Rattle.std.proofs.Common.{◌≡◌, refl, sym, ap, subst, arith, inl, inr}
use Rattle.std.specs.Prelude.{ℕ, ◌⊎◌, ◌≤◌, ◌<◌, ◌+◌, ◌*◌, ◌==◌, cond, Bool, true, false, List, [], ◌∷◌, ◌++◌, length, map, slice_get, Option, Some, None, IfSome, count_by}
use Rattle.std.specs.List.{list_any}
use Rattle.xlator_law.specs.declared.winds.WindNo.{WindNo}
use Rattle.xlator_law.specs.declared.winds.Place.{Place}
use Rattle.frame_stack.specs.declared.frame.Opener.{Opener}
use Rattle.frame_stack.specs.declared.frame.Frame.{Frame}
use Rattle.frame_stack.specs.Cells.{cell_at}
use Rattle.frame_stack.specs.Stack.{Stack, Line, frame_at, word_at, opener_of, pending, next_free}
use Rattle.frame_stack.specs.Moves.{Move, line_of, is_opening, is_ending, is_opening_of, AreOrderly, IsNextAs, openings, opened_in, ended_in}
use Rattle.frame_stack.specs.Reached.{opening, ending, IsOpenAs}
use Rattle.std.proofs.lemmas.List.{append_assoc, append-nil}

abbrev pub is_of_graph : ℕ → Option Opener → Bool
is_of_graph g None = false
is_of_graph g (Some o) = o.graph == g

-- a yes or no that says whether n is at most m
pub record Says (b : Bool) (n m : ℕ) : Type 0 where
  pub yes : n ≤ m → b ≡ true
  pub no : m < n → b ≡ false

-- the word of a slot, free or with an opener whose wind was opened by these moves, at its number
abbrev pub IsSlot : List Move → ℕ → Option Opener → ℕ → Type 0
IsSlot moves k None word = (turn : ℕ) × (word ≡ turn * 4)
IsSlot moves k (Some o) word = (turn : ℕ) × ((word ≡ turn * 4 + 1) ⊎ (word ≡ turn * 4 + 2)) × (list_any (is_opening_of (ending (record { slot = k; turn = turn }) o)) moves ≡ true) × (slice_get (openings moves) o.number ≡ Some (opening (record { slot = k; turn = turn }) o))

-- the parent wind of a place, if there is one, was opened, and while it is open it is of the place's graph
-- and call
abbrev pub IsUnder : {L : Type 0} → Stack L → Place → Type 0
IsUnder s p = IfSome p.parent (λ w. (pending w ≤ word_at s w.slot) × IfSome (opener_of s w) (λ o. (o.graph ≡ p.graph) × (o.call ≡ p.call)))

pub record AreReported {L : Type 0} (s : Stack L) (moves : List Move) (handed : List Line) : Type 0 where
  pub reported : handed ++ s.lines ≡ map line_of moves
  pub orderly : AreOrderly [] moves
  pub lengths : length s.words ≡ length s.openers
  pub opened : (w : WindNo) → Says (list_any (is_opening w) moves) (pending w) (word_at s w.slot)
  pub ended : (w : WindNo) → Says (list_any (is_ending w) moves) (next_free w) (word_at s w.slot)
  pub slots : (k : ℕ) → IsSlot moves k (cell_at s.openers k) (word_at s k)
  pub held : (k : ℕ) (o : Opener) → cell_at s.openers k ≡ Some o → IsOpenAs s.frames o
  pub parents : (key : ℕ) (f : Frame L) → frame_at s key ≡ Some f → IsUnder s f.place
  pub numbered : length (openings moves) ≡ s.opened
  pub counted : (g : ℕ) → opened_in g moves ≡ ended_in g moves + count_by (is_of_graph g) s.openers

-- an opening is one more, and an end is none
pub openings_push : (moves : List Move) (m : Move) → m.opened ≡ true → openings (moves ++ m ∷ []) ≡ openings moves ++ m ∷ []
openings_push [] m is = ap (λ (b : Bool). cond b (m ∷ []) []) is
openings_push (x ∷ moves) m is = by_case x.opened (openings_push moves m is) where
  by_case : (b : Bool) → openings (moves ++ m ∷ []) ≡ openings moves ++ m ∷ [] → cond b (x ∷ openings (moves ++ m ∷ [])) (openings (moves ++ m ∷ [])) ≡ cond b (x ∷ openings moves) (openings moves) ++ m ∷ []
  by_case true ih = ap (λ (l : List Move). x ∷ l) ih
  by_case false ih = ih

pub openings_same : (moves : List Move) (m : Move) → m.opened ≡ false → openings (moves ++ m ∷ []) ≡ openings moves
openings_same [] m is = ap (λ (b : Bool). cond b (m ∷ []) []) is
openings_same (x ∷ moves) m is = by_case x.opened (openings_same moves m is) where
  by_case : (b : Bool) → openings (moves ++ m ∷ []) ≡ openings moves → cond b (x ∷ openings (moves ++ m ∷ [])) (openings (moves ++ m ∷ [])) ≡ cond b (x ∷ openings moves) (openings moves)
  by_case true ih = ap (λ (l : List Move). x ∷ l) ih
  by_case false ih = ih

-- a move that may come next is put at the end
pub orderly_push : (passed ms : List Move) (m : Move) → AreOrderly passed ms → IsNextAs m.opened (passed ++ ms) m → AreOrderly passed (ms ++ m ∷ [])
orderly_push passed [] m h next = (subst (λ ps. IsNextAs m.opened ps m) (append-nil passed) next, tt)
orderly_push passed (x ∷ ms) m h next = (h.0, orderly_push (passed ++ x ∷ []) ms m h.1 (subst (λ ps. IsNextAs m.opened ps m) (sym (append_assoc passed (x ∷ []) ms)) next))

module _ {L : Type 0} where
  -- a place stays under its parent wind, where no opener of another one came to it
  pub still_under : (s t : Stack L) (p : Place) → ((v : WindNo) → pending v ≤ word_at s v.slot → (pending v ≤ word_at t v.slot) × ((opener_of t v ≡ opener_of s v) ⊎ (opener_of t v ≡ None))) → IsUnder s p → IsUnder t p
  still_under s t p stays under = by_parent p.parent under where
    by_opener : (v : WindNo) → (opener_of t v ≡ opener_of s v) ⊎ (opener_of t v ≡ None) → IfSome (opener_of s v) (λ o. (o.graph ≡ p.graph) × (o.call ≡ p.call)) → IfSome (opener_of t v) (λ o. (o.graph ≡ p.graph) × (o.call ≡ p.call))
    by_opener v (inl same) was = subst (λ (c : Option Opener). IfSome c (λ o. (o.graph ≡ p.graph) × (o.call ≡ p.call))) (sym same) was
    by_opener v (inr none) was = subst (λ (c : Option Opener). IfSome c (λ o. (o.graph ≡ p.graph) × (o.call ≡ p.call))) (sym none) tt

    by_parent : (parent : Option WindNo) → IfSome parent (λ w. (pending w ≤ word_at s w.slot) × IfSome (opener_of s w) (λ o. (o.graph ≡ p.graph) × (o.call ≡ p.call))) → IfSome parent (λ w. (pending w ≤ word_at t w.slot) × IfSome (opener_of t w) (λ o. (o.graph ≡ p.graph) × (o.call ≡ p.call)))
    by_parent None was = tt
    by_parent (Some v) was = let st = stays v was.0 in (st.0, by_opener v st.1 was.1)

  -- a step that changes frames alone, leaves those of openers open in their graph and call, and adds none
  -- that is not under its parent wind
  pub frames_changed : (s : Stack L) (frames : List (Option (Frame L))) (moves : List Move) (handed : List Line) → AreReported s moves handed → ((k : ℕ) (o : Opener) → cell_at s.openers k ≡ Some o → IsOpenAs s.frames o → IsOpenAs frames o) → ((k : ℕ) (f : Frame L) → cell_at frames k ≡ Some f → IsUnder s f.place) → AreReported (record s { frames = frames }) moves handed
  frames_changed s frames moves handed t stay under = record {
    reported = t.reported;
    orderly = t.orderly;
    lengths = t.lengths;
    opened = t.opened;
    ended = t.ended;
    slots = t.slots;
    held = λ k o is. stay k o is (t.held k o is);
    parents = under;
    numbered = t.numbered;
    counted = t.counted;
  }

  pub started : AreReported {L = L} (record { frames = []; openers = []; words = []; opened = 0; lines = [] }) [] []
  started = record {
    reported = refl;
    orderly = tt;
    lengths = refl;
    opened = λ w. record { yes = λ h. absurd (omega (arith, h)); no = λ h. refl };
    ended = λ w. record { yes = λ h. absurd (omega (arith, h)); no = λ h. refl };
    slots = λ k. (0, omega (arith));
    held = λ k o is. absurd cc;
    parents = λ key f is. absurd cc;
    numbered = refl;
    counted = λ g. refl;
  }
