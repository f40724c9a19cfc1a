-- Each open wind has a credit: one, and what the node that opened it counts below a child. The credits of a frame's
-- winds are within its node's breadth, which is within the credit, less one, of the wind that opened the frame. Each
-- open wind opened one frame at most; so the open winds are within the breadth of the frames that none opened.
use Rattle.std.proofs.Common.{◌≡◌, refl, sym, ap, subst, ◌∙◌, arith, inl, inr}
use Rattle.std.proofs.lemmas.Bool.{cases_eq, eqb-true, eq-eqb, ne_eqb}
use Rattle.std.specs.List.{sum_by}
use Rattle.std.specs.Prelude.{ℕ, ◌⊎◌, ◌≢◌, ◌≤◌, ◌<◌, ◌+◌, ◌*◌, ◌/◌, ◌==◌, cond, Bool, true, false, List, length, Option, Some, None, IfSome, IsSomeAnd, is_some, count_by}
use Rattle.xlator_law.specs.declared.step.Step.{Step}
use Rattle.xlator_law.specs.declared.step.Step.TheVariants.{Wind, Wait, Unwind}
use Rattle.xlator_law.specs.declared.winds.WindNo.{WindNo}
use Rattle.xlator_law.specs.Law.{Promise, Cause, breadth}
use Rattle.xlator_law.specs.Frames.{unanswered_after}
use Rattle.xlator_law.proofs.Frames.{bounded}
use Rattle.frame_stack.specs.Cells.{cell_at}
use Rattle.frame_stack.specs.declared.frame.Frame.{Frame}
use Rattle.frame_stack.specs.declared.frame.Opener.{Opener}
use Rattle.frame_stack.specs.Moves.{is_wind}
use Rattle.frame_stack.specs.Stack.{is_in, frame_at, word_at, pending, replied, awaits, opener_of}
use Rattle.frame_stack.proofs.Openers.{opener_word}
use Rattle.frame_stack.proofs.Balanced.{balanced, reported}
use Rattle.frame_stack.proofs.Reported.{AreReported}
use Rattle.frame_stack.proofs.Vacancy.{some_within}
use Rattle.frame_driver.specs.declared.board.Board.{Board}
use Rattle.frame_driver.specs.Breadth.{is_open_for, own_by, own_breadth, promise_in, HasRoom, HasRoomUnder, FrameFits, Nests}
use Rattle.frame_driver.specs.Follows.{promise_of, slots_by, slots_in}
use Rattle.frame_driver.specs.Laws.{OpenWindsAreWithin}
use Rattle.frame_driver.specs.Parts.{is_parent, is_same, IsParted}
use Rattle.frame_driver.specs.Sound.{Sound}
use Rattle.frame_driver.specs.Tasks.{one}
use Rattle.frame_driver.specs.Traces.{Leaves, SomeMakes, Trace, IsTraced, TracedBy, AreTraced}
use Rattle.frame_driver.proofs.Ending.{any_cell, both, first_yes, last_yes}
use Rattle.frame_driver.proofs.Parts.{itself, open_pending, open_some}
use Rattle.frame_driver.proofs.Single.{single}
use Rattle.frame_driver.proofs.Sums.{sum_to, sum_le, sum_add, sum_none, sum_const, sum_swap, sum_has, sum_once, sum_single, sum_cells}

one_most : (b : Bool) → one b ≤ 1
one_most true = omega (arith)
one_most false = omega (arith)

cond_le : (t : Bool) (x y : ℕ) → x ≤ y → cond t x 0 ≤ cond t y 0
cond_le true x y h = h
cond_le false x y h = omega (arith)

cond_most : (t : Bool) (x : ℕ) → cond t x 0 ≤ x
cond_most true x = omega (arith)
cond_most false x = omega (arith)

module _ {F R L : Type 0} (ps : ℕ → List (Promise F L)) (outer : WindNo → ℕ) (b : Board F R L) (sound : Sound ps b) (parted : IsParted outer b) (nests : Nests ps b) (narrow : (key n : ℕ) → awaits b.stack key n ≡ true → n < (promise_in ps (frame_at b.stack key)).slots) (call : ℕ) where
  facts : AreReported b.stack sound.reachable.moves sound.reachable.handed
  facts = reported b.stack sound.reachable.moves sound.reachable.handed sound.reachable.reached

  abbrev cell : ℕ → Option Opener
  cell j = cell_at b.stack.openers j

  abbrev cells : ℕ
  cells = length b.stack.openers

  abbrev frames : ℕ
  frames = length b.stack.frames

  -- what the node that opened a wind of the call counts below it
  abbrev below_of : Option Opener → ℕ
  below_of None = 0
  below_of (Some o) = cond (o.call == call) (promise_in ps (frame_at b.stack o.frame)).below 0

  abbrev credit : Option Opener → ℕ
  credit c = below_of c + one (is_open_for call c)

  abbrev wide : Option (Frame L) → ℕ
  wide None = 0
  wide (Some f) = cond (f.place.call == call) (breadth (promise_of ps f.place)) 0

  abbrev opened_by : ℕ → Option Opener → Bool
  opened_by k None = false
  opened_by k (Some o) = o.frame == k

  -- the frame that opened a wind is open
  opener_open : (j : ℕ) (o : Opener) → cell j ≡ Some o → IsSomeAnd (frame_at b.stack o.frame) (λ f. (f.place.graph ≡ o.graph) × (f.place.call ≡ o.call))
  opener_open j o is = facts.held j o is

  opener_within : (j : ℕ) (o : Opener) → cell j ≡ Some o → o.frame < frames
  opener_within j o is = by_cell (frame_at b.stack o.frame) refl (opener_open j o is) where
    by_cell : (c : Option (Frame L)) → frame_at b.stack o.frame ≡ c → IsSomeAnd c (λ f. (f.place.graph ≡ o.graph) × (f.place.call ≡ o.call)) → o.frame < frames
    by_cell None at h = absurd h
    by_cell (Some f) at h = some_within b.stack.frames o.frame f at

  abbrev pays : ℕ → ℕ → ℕ
  pays j k = cond (opened_by k (cell j)) (credit (cell j)) 0

  -- each wind is paid by the frame that opened it
  paid_by : (j : ℕ) → j < cells → credit (cell j) ≤ sum_to frames (λ k. pays j k)
  paid_by j lt = by_cell (cell j) refl where
    by_cell : (c : Option Opener) → cell j ≡ c → credit (cell j) ≤ sum_to frames (λ k. pays j k)
    by_cell None at = let z : credit (cell j) ≡ 0 = ap credit at in omega (arith, z)
    by_cell (Some o) at =
        let h = sum_has frames o.frame (λ k. pays j k) (opener_within j o at) in
        let e : pays j o.frame ≡ credit (cell j) = ap (λ t. cond t (credit (cell j)) 0) (ap (opened_by o.frame) at ∙ eq-eqb o.frame o.frame refl) in
        omega (arith, h, e)

  -- a frame has one wind a slot at most, and as many slots as its node promises
  module _ (k : ℕ) (f : Frame L) (is : frame_at b.stack k ≡ Some f) where
    abbrev most : ℕ
    most = 1 + (promise_of ps f.place).below

    abbrev in_slot : ℕ → ℕ → ℕ
    in_slot j n = cond (is_in k n (cell j)) most 0

    slot_pays : (j : ℕ) → j < cells → pays j k ≤ sum_to (promise_of ps f.place).slots (λ n. in_slot j n)
    slot_pays j lt = by_cell (cell j) refl where
      by_cell : (c : Option Opener) → cell j ≡ c → pays j k ≤ sum_to (promise_of ps f.place).slots (λ n. in_slot j n)
      by_cell None at = let z : pays j k ≡ 0 = ap (λ t. cond t (credit (cell j)) 0) (ap (opened_by k) at) in omega (arith, z)
      by_cell (Some o) at = by_frame (cases_eq o.frame k) where
        by_frame : (o.frame ≡ k) ⊎ (o.frame ≢ k) → pays j k ≤ sum_to (promise_of ps f.place).slots (λ n. in_slot j n)
        by_frame (inr differs) = let z : pays j k ≡ 0 = ap (λ t. cond t (credit (cell j)) 0) (ap (opened_by k) at ∙ ne_eqb o.frame k differs) in omega (arith, z)
        by_frame (inl same) =
            let p : promise_in ps (frame_at b.stack o.frame) ≡ promise_of ps f.place = ap (λ i. promise_in ps (frame_at b.stack i)) same ∙ ap (promise_in ps) is in
            let a : awaits b.stack k o.slot ≡ true = any_cell (is_in k o.slot) b.stack.openers j o at (both (o.frame == k) (o.slot == o.slot) (eq-eqb o.frame k same) (eq-eqb o.slot o.slot refl)) in
            let n : o.slot < (promise_of ps f.place).slots = subst (λ (c : Option (Frame L)). o.slot < (promise_in ps c).slots) is (narrow k o.slot a) in
            let h = sum_has (promise_of ps f.place).slots o.slot (λ n. in_slot j n) n in
            let i : in_slot j o.slot ≡ most = ap (λ c. cond (is_in k o.slot c) most 0) at ∙ ap (λ t. cond t most 0) (both (o.frame == k) (o.slot == o.slot) (eq-eqb o.frame k same) (eq-eqb o.slot o.slot refl)) in
            let c : credit (cell j) ≡ cond (o.call == call) (promise_in ps (frame_at b.stack o.frame)).below 0 + one (o.call == call) = ap credit at in
            let d = cond_most (o.call == call) (promise_in ps (frame_at b.stack o.frame)).below in
            let e : (promise_in ps (frame_at b.stack o.frame)).below ≡ (promise_of ps f.place).below = ap (λ (q : Promise F L). q.below) p in
            let u = one_most (o.call == call) in
            let l = cond_most (opened_by k (cell j)) (credit (cell j)) in
            omega (arith, h, i, c, d, e, u, l)

    slot_once : (n : ℕ) → n < (promise_of ps f.place).slots → sum_to cells (λ j. in_slot j n) ≤ most
    slot_once n lt = sum_once cells most (λ j. is_in k n (cell j)) (sum_single cells (λ j. is_in k n (cell j)) (λ i j x y. alone i j (cell i) (cell j) refl refl x y)) where
      alone : (i j : ℕ) (c d : Option Opener) → cell i ≡ c → cell j ≡ d → is_in k n (cell i) ≡ true → is_in k n (cell j) ≡ true → i ≡ j
      alone i j None d ci dj x y = absurd (let e : is_in k n (cell i) ≡ false = ap (is_in k n) ci in cc)
      alone i j (Some o) None ci dj x y = absurd (let e : is_in k n (cell j) ≡ false = ap (is_in k n) dj in cc)
      alone i j (Some o) (Some q) ci dj x y =
          let u = in_there o (ap (is_in k n) (sym ci) ∙ x) in
          let v = in_there q (ap (is_in k n) (sym dj) ∙ y) in
          single b.stack sound.reachable.moves sound.reachable.handed sound.reachable.reached i j o q ci dj (u.0 ∙ sym v.0) (u.1 ∙ sym v.1) where
            in_there : (o : Opener) → is_in k n (Some o) ≡ true → (o.frame ≡ k) × (o.slot ≡ n)
            in_there o e = (eqb-true o.frame k (first_yes (o.frame == k) (o.slot == n) e), eqb-true o.slot n (last_yes (o.frame == k) (o.slot == n) e))

    all_slots : sum_to cells (λ j. pays j k) ≤ breadth (promise_of ps f.place)
    all_slots =
        let a = sum_le cells (λ j. pays j k) (λ j. sum_to (promise_of ps f.place).slots (λ n. in_slot j n)) slot_pays in
        let s = sum_swap cells (promise_of ps f.place).slots (λ j n. in_slot j n) in
        let l = sum_le (promise_of ps f.place).slots (λ n. sum_to cells (λ j. in_slot j n)) (λ n. most) slot_once in
        let c = sum_const (promise_of ps f.place).slots most in
        omega (arith, a, s, l, c)

    -- a frame of another call pays nothing
    other_call : (f.place.call == call) ≡ false → (j : ℕ) → j < cells → pays j k ≤ 0
    other_call off j lt = by_cell (cell j) refl where
      by_cell : (c : Option Opener) → cell j ≡ c → pays j k ≤ 0
      by_cell None at = let z : pays j k ≡ 0 = ap (λ t. cond t (credit (cell j)) 0) (ap (opened_by k) at) in omega (arith, z)
      by_cell (Some o) at = by_frame (cases_eq o.frame k) where
        by_frame : (o.frame ≡ k) ⊎ (o.frame ≢ k) → pays j k ≤ 0
        by_frame (inr differs) = let z : pays j k ≡ 0 = ap (λ t. cond t (credit (cell j)) 0) (ap (opened_by k) at ∙ ne_eqb o.frame k differs) in omega (arith, z)
        by_frame (inl same) =
            let h : (f.place.graph ≡ o.graph) × (f.place.call ≡ o.call) = subst (λ (c : Option (Frame L)). IsSomeAnd c (λ x. (x.place.graph ≡ o.graph) × (x.place.call ≡ o.call))) (ap (frame_at b.stack) same ∙ is) (opener_open j o at) in
            let t : (o.call == call) ≡ false = ap (λ m. m == call) (sym h.1) ∙ off in
            let c : credit (cell j) ≡ 0 = ap credit at ∙ ap (λ t. cond t (promise_in ps (frame_at b.stack o.frame)).below 0 + one t) t in
            let l = cond_most (opened_by k (cell j)) (credit (cell j)) in
            omega (arith, c, l)

    frame_pays : sum_to cells (λ j. pays j k) ≤ wide (Some f)
    frame_pays = by_call (f.place.call == call) refl where
      by_call : (t : Bool) → (f.place.call == call) ≡ t → sum_to cells (λ j. pays j k) ≤ wide (Some f)
      by_call true on = let a = all_slots in let w : wide (Some f) ≡ breadth (promise_of ps f.place) = ap (λ t. cond t (breadth (promise_of ps f.place)) 0) on in omega (arith, a, w)
      by_call false off = let a = sum_le cells (λ j. pays j k) (λ j. 0) (other_call off) in let z = sum_none cells in omega (arith, a, z)

  no_frame : (k : ℕ) → frame_at b.stack k ≡ None → (j : ℕ) → j < cells → pays j k ≤ 0
  no_frame k none j lt = by_cell (cell j) refl where
    by_cell : (c : Option Opener) → cell j ≡ c → pays j k ≤ 0
    by_cell None at = let z : pays j k ≡ 0 = ap (λ t. cond t (credit (cell j)) 0) (ap (opened_by k) at) in omega (arith, z)
    by_cell (Some o) at = by_frame (cases_eq o.frame k) where
      by_frame : (o.frame ≡ k) ⊎ (o.frame ≢ k) → pays j k ≤ 0
      by_frame (inr differs) = let z : pays j k ≡ 0 = ap (λ t. cond t (credit (cell j)) 0) (ap (opened_by k) at ∙ ne_eqb o.frame k differs) in omega (arith, z)
      by_frame (inl same) = absurd (subst (λ (c : Option (Frame L)). IsSomeAnd c (λ x. (x.place.graph ≡ o.graph) × (x.place.call ≡ o.call))) (ap (frame_at b.stack) same ∙ none) (opener_open j o at))

  cell_pays : (k : ℕ) → k < frames → sum_to cells (λ j. pays j k) ≤ wide (frame_at b.stack k)
  cell_pays k lt = by_cell (frame_at b.stack k) refl where
    by_cell : (c : Option (Frame L)) → frame_at b.stack k ≡ c → sum_to cells (λ j. pays j k) ≤ wide c
    by_cell None at = let a = sum_le cells (λ j. pays j k) (λ j. 0) (no_frame k at) in let z = sum_none cells in omega (arith, a, z)
    by_cell (Some f) at = frame_pays k f at

  credits_paid : sum_to cells (λ j. credit (cell j)) ≤ sum_to frames (λ k. wide (frame_at b.stack k))
  credits_paid =
      let a = sum_le cells (λ j. credit (cell j)) (λ j. sum_to frames (λ k. pays j k)) paid_by in
      let s = sum_swap cells frames (λ j k. pays j k) in
      let l = sum_le frames (λ k. sum_to cells (λ j. pays j k)) (λ k. wide (frame_at b.stack k)) cell_pays in
      omega (arith, a, s, l)

  -- ---- a frame that a wind opened is within what is counted below the wind

  -- the wind of a slot that is open
  abbrev wind_at : ℕ → WindNo
  wind_at j = record { slot = j; turn = word_at b.stack j / 4 }

  abbrev under : ℕ → ℕ → ℕ
  under k j = cond (is_parent (wind_at j) (frame_at b.stack k)) (below_of (cell j)) 0

  fits_wind : (k : ℕ) (f : Frame L) (w : WindNo) → frame_at b.stack k ≡ Some f → f.place.parent ≡ Some w → wide (Some f) ≤ sum_to cells (λ j. under k j)
  fits_wind k f w is parent =
      let h = sum_has cells w.slot (λ j. under k j) (some_within b.stack.openers w.slot has.0 stands.1) in
      let l = cond_le (f.place.call == call) (breadth (promise_of ps f.place)) (promise_in ps (frame_at b.stack has.0.frame)).below room in
      let c : cond (f.place.call == call) (promise_in ps (frame_at b.stack has.0.frame)).below 0 ≡ below_of (cell w.slot) = ap (λ m. cond (m == call) (promise_in ps (frame_at b.stack has.0.frame)).below 0) of_call ∙ ap below_of (sym stands.1) in
      let u : under k w.slot ≡ below_of (cell w.slot) = ap (λ t. cond t (below_of (cell w.slot)) 0) (ap (is_parent (wind_at w.slot)) is ∙ ap (is_same (wind_at w.slot)) parent ∙ ap (λ t. is_wind (record { slot = w.slot; turn = t }) w) turn ∙ itself w) in
      omega (arith, h, l, c, u) where
        count : one (is_parent w (frame_at b.stack k)) ≡ 1
        count = ap one (ap (is_parent w) is ∙ ap (is_same w) parent ∙ itself w)

        within : k < frames
        within = some_within b.stack.frames k f is

        counted : count_by (is_parent w) b.stack.frames ≡ sum_to frames (λ i. one (is_parent w (frame_at b.stack i)))
        counted = sum_cells (λ (c : Option (Frame L)). one (is_parent w c)) None b.stack.frames

        has : (o : Opener) × (opener_of b.stack w ≡ Some o)
        has = open_some b.stack w (let p = parted.placed w in let s = sum_has frames k (λ i. one (is_parent w (frame_at b.stack i))) within in let c = counted in let n = count in omega (arith, p, s, c, n))

        stands : ((word_at b.stack w.slot ≡ pending w) ⊎ (word_at b.stack w.slot ≡ replied w)) × (cell_at b.stack.openers w.slot ≡ Some has.0)
        stands = opener_word b.stack w has.0 has.1

        turn : word_at b.stack w.slot / 4 ≡ w.turn
        turn = let e : word_at b.stack w.slot ≡ w.turn * 4 + 1 = open_pending b.stack w has.0 parted.ended has.1 in omega (arith, e)

        room : breadth (promise_of ps f.place) ≤ (promise_in ps (frame_at b.stack has.0.frame)).below
        room = let h : HasRoom ps b.stack (promise_of ps f.place) w = subst (HasRoomUnder ps b.stack (promise_of ps f.place)) parent (subst (FrameFits ps b.stack) is (nests.frames k)) in h.room has.0 has.1

        of_call : f.place.call ≡ has.0.call
        of_call = let h : IfSome (Some w) (λ v. IfSome (opener_of b.stack v) (λ o. (o.graph ≡ f.place.graph) × (o.call ≡ f.place.call))) = subst (λ (q : Option WindNo). IfSome q (λ v. IfSome (opener_of b.stack v) (λ o. (o.graph ≡ f.place.graph) × (o.call ≡ f.place.call)))) parent ((balanced b.stack sound.reachable.moves sound.reachable.handed sound.reachable.reached).parents k f is) in
            let i : (has.0.graph ≡ f.place.graph) × (has.0.call ≡ f.place.call) = subst (λ (c : Option Opener). IfSome c (λ o. (o.graph ≡ f.place.graph) × (o.call ≡ f.place.call))) has.1 h in sym i.1

  fits_frame : (k : ℕ) → k < frames → wide (frame_at b.stack k) ≤ own_breadth ps call (frame_at b.stack k) + sum_to cells (λ j. under k j)
  fits_frame k lt = by_cell (frame_at b.stack k) refl where
    by_cell : (c : Option (Frame L)) → frame_at b.stack k ≡ c → wide c ≤ own_breadth ps call c + sum_to cells (λ j. under k j)
    by_cell None at = omega (arith)
    by_cell (Some f) at = by_parent f.place.parent refl where
      by_parent : (q : Option WindNo) → f.place.parent ≡ q → wide (Some f) ≤ own_by f.place.parent (wide (Some f)) + sum_to cells (λ j. under k j)
      by_parent None is = let e : own_by f.place.parent (wide (Some f)) ≡ wide (Some f) = ap (λ q. own_by q (wide (Some f))) is in omega (arith, e)
      by_parent (Some w) is = let h = fits_wind k f w at is in omega (arith, h)

  -- a wind opened one frame at most
  opens_one : (j : ℕ) → j < cells → sum_to frames (λ k. under k j) ≤ below_of (cell j)
  opens_one j lt = sum_once frames (below_of (cell j)) (λ k. is_parent (wind_at j) (frame_at b.stack k))
      (let p = parted.placed (wind_at j) in let c = sum_cells (λ (c : Option (Frame L)). one (is_parent (wind_at j) c)) None b.stack.frames in let o = one_most (is_some (opener_of b.stack (wind_at j))) in omega (arith, p, c, o))

  pub within_own : count_by (is_open_for call) b.stack.openers ≤ sum_by (own_breadth ps call) b.stack.frames
  within_own =
      let paid = credits_paid in
      let a = sum_add cells (λ j. below_of (cell j)) (λ j. one (is_open_for call (cell j))) in
      let f = sum_le frames (λ k. wide (frame_at b.stack k)) (λ k. own_breadth ps call (frame_at b.stack k) + sum_to cells (λ j. under k j)) fits_frame in
      let g = sum_add frames (λ k. own_breadth ps call (frame_at b.stack k)) (λ k. sum_to cells (λ j. under k j)) in
      let s = sum_swap frames cells (λ k j. under k j) in
      let l = sum_le cells (λ j. sum_to frames (λ k. under k j)) (λ j. below_of (cell j)) opens_one in
      let x : count_by (is_open_for call) b.stack.openers ≡ sum_to cells (λ j. one (is_open_for call (cell j))) = sum_cells (λ (c : Option Opener). one (is_open_for call c)) None b.stack.openers in
      let y : sum_by (own_breadth ps call) b.stack.frames ≡ sum_to frames (λ k. own_breadth ps call (frame_at b.stack k)) = sum_cells (own_breadth ps call) None b.stack.frames in
      omega (arith, paid, a, f, g, s, l, x, y)

-- ---- the slots of a frame, by its trace

slots_narrow : {X C F R L : Type 0} (promise : X → Promise F L) (makes : X → C → Cause F R L → Step F R L → X → C → Type 0) (p : Promise F L) (key call : ℕ) (local : L) → Trace promise makes p key call local → (n : ℕ) → p.unanswered local n ≡ true → n < p.slots
slots_narrow {F = F} {R = R} {L = L} promise makes p key call local t n is = (bounded p (SomeMakes promise makes p) (record { frame = key; call = call }) t.fop t.events t.step t.trace).narrow n (by_step t.step t.leaves) where
  by_step : (step : Step F R L) → Leaves step local → unanswered_after p step n ≡ true
  by_step (Wind winds kept) same = ap (λ l. p.unanswered l n) same ∙ is
  by_step (Wait kept) same = ap (λ l. p.unanswered l n) same ∙ is
  by_step (Unwind reply) none = absurd none

module _ {X C F R L : Type 0} (promise : X → Promise F L) (makes : X → C → Cause F R L → Step F R L → X → C → Type 0) where
  frame_narrow : (ps : ℕ → List (Promise F L)) (b : Board F R L) → Sound ps b → AreTraced promise makes ps b → (key n : ℕ) → awaits b.stack key n ≡ true → n < (promise_in ps (frame_at b.stack key)).slots
  frame_narrow ps b sound traced key n is = by_cell (frame_at b.stack key) (traced key) expects where
    expects : 1 ≤ one (slots_in ps (frame_at b.stack key) n)
    expects = let e = (sound.follows key).expects n in let a : one (awaits b.stack key n) ≡ 1 = ap one is in omega (arith, e, a)

    yes : (t : Bool) → 1 ≤ one t → t ≡ true
    yes true h = refl
    yes false h = absurd (omega (arith, h))

    by_local : (p : Promise F L) (call : ℕ) (o : Option L) → TracedBy promise makes p key call o → 1 ≤ one (slots_by p o n) → n < p.slots
    by_local p call None t h = absurd (omega (arith, h))
    by_local p call (Some l) t h = slots_narrow promise makes p key call l t n (yes (p.unanswered l n) h)

    by_cell : (c : Option (Frame L)) → IsTraced promise makes ps key c → 1 ≤ one (slots_in ps c n) → n < (promise_in ps c).slots
    by_cell None t h = absurd (omega (arith, h))
    by_cell (Some f) t h = by_local (promise_of ps f.place) f.place.call f.local t h

  pub open_within : OpenWindsAreWithin promise makes
  open_within ps outer b sound traced parted nests call = within_own ps outer b sound parted nests (frame_narrow ps b sound traced) call
