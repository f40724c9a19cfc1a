-- A frame of a board with nothing to do waits for something that is no wind, or has an open wind. That left the graph, or it
-- opened a frame whose open winds have higher numbers; and numbers are below the count of all winds.
use Rattle.std.proofs.Common.{◌≡◌, refl, sym, ap, subst, ◌∙◌, arith, inl, inr}
use Rattle.std.proofs.lemmas.Bool.{eqb-true, ne_eqb}
use Rattle.std.specs.List.{list_any}
use Rattle.std.specs.Prelude.{ℕ, zero, suc, ◌⊎◌, ◌≤◌, ◌+◌, ◌*◌, ◌==◌, ◌||◌, Bool, true, false, List, [], ◌∷◌, Option, Some, None, is_some, IsSome, count_by}
use Rattle.xlator_law.specs.Law.{Promise, IsNone, IsSomeSlot}
use Rattle.xlator_law.specs.declared.winds.WindNo.{WindNo}
use Rattle.frame_stack.specs.declared.frame.Frame.{Frame}
use Rattle.frame_stack.specs.declared.frame.Opener.{Opener}
use Rattle.frame_stack.specs.Cells.{cell_at}
use Rattle.frame_stack.specs.Stack.{is_in, frame_at, word_at, awaits, opener_of}
use Rattle.frame_stack.proofs.Balanced.{reported}
use Rattle.frame_stack.proofs.Lists.{none_passes, count_none}
use Rattle.frame_stack.proofs.Openers.{opener_pending, opener_word}
use Rattle.frame_stack.proofs.Reported.{AreReported, IsSlot}
use Rattle.frame_driver.specs.declared.board.Board.{Board}
use Rattle.frame_driver.specs.declared.items.Task.{Task}
use Rattle.frame_driver.specs.Follows.{promise_of, slots_by, slots_in, waits_by, waits_in, StandsBy, Stands}
use Rattle.frame_driver.specs.Parts.{is_same, is_parent, is_queued}
use Rattle.frame_driver.specs.Sound.{is_of}
use Rattle.frame_driver.specs.Tasks.{one, is_due}
use Rattle.frame_driver.proofs.Ending.{first_yes}
use Rattle.frame_driver.proofs.Parts.{is_same_wind}
use Rattle.frame_laws.specs.Laws.{RestingBoardsAwait, RestingCallsHaveNoFrame, RestingBoardsHaveNoFrame}
use Rattle.frame_laws.specs.Resting.{away, IsAtRest, AwaitsOutside, AwaitsNothing}
use Rattle.frame_laws.specs.Resting.AwaitsOutside.{OnWait, OnWind}
use Rattle.frame_laws.specs.Under.{IsOpenIn, IsWoundBy, IsOpenedBy}
use Rattle.frame_laws.specs.Under.IsUnder.{Itself, Further}
use Rattle.frame_laws.proofs.Calls.{IsOf, wind_of, under_of}
use Rattle.frame_laws.proofs.Rising.{number_below, rises}

abbrev wind_at : ℕ → ℕ → WindNo
wind_at slot turn = record { slot = slot; turn = turn }

at_least_one : (b : Bool) → 1 ≤ one b → b ≡ true
at_least_one true h = refl
at_least_one false h = absurd (omega (arith, h))

-- a cell that passes, where one does
module _ {X : Type 0} (p : Option X → Bool) (none : p None ≡ false) where
  abbrev SomePasses : List (Option X) → Type 0
  SomePasses cells = (k : ℕ) × (x : X) × (cell_at cells k ≡ Some x) × (p (Some x) ≡ true)

  later : (c : Option X) (cells : List (Option X)) → SomePasses cells → SomePasses (c ∷ cells)
  later c cells found = (suc found.0, found.1, found.2, found.3)

  some_passes : (cells : List (Option X)) → list_any p cells ≡ true → SomePasses cells
  some_passes [] any = absurd cc
  some_passes (None ∷ cells) any = later None cells (some_passes cells (subst (λ b. (b || list_any p cells) ≡ true) none any))
  some_passes (Some x ∷ cells) any = by_first (p (Some x)) refl (λ rest. some_passes cells rest) any where
    by_first : (b : Bool) → p (Some x) ≡ b → (list_any p cells ≡ true → SomePasses cells) → (b || list_any p cells) ≡ true → SomePasses (Some x ∷ cells)
    by_first true is search any = (zero, x, refl, is)
    by_first false is search any = later (Some x) cells (search any)

same_parent : (w : WindNo) (parent : Option WindNo) → is_same w parent ≡ true → parent ≡ Some w
same_parent w None is = absurd cc
same_parent w (Some v) is = ap (λ (x : WindNo). Some x) (sym (is_same_wind w v is))

module _ {F R L : Type 0} (ps : ℕ → List (Promise F L)) (outer : WindNo → ℕ) (b : Board F R L) (rest : IsAtRest ps outer b) where
  facts : AreReported b.stack rest.sound.reachable.moves rest.sound.reachable.handed
  facts = reported b.stack rest.sound.reachable.moves rest.sound.reachable.handed rest.sound.reachable.reached

  -- ---- what a frame awaits by itself

  -- it waits for something that is no wind; or it has an open wind that left the graph, or one that opened a frame
  data Next (key : ℕ) : Type 0 where
    Waits : waits_in ps (frame_at b.stack key) ≡ true → Next key
    Left : (w : WindNo) → IsWoundBy b.stack key w → 1 ≤ away outer b w → Next key
    Leads : (low : ℕ) → IsOpenedBy b.stack low key → Next key

  -- an unanswered slot has an open wind, since no task has its answer
  awaited : (key n : ℕ) (f : Frame L) → frame_at b.stack key ≡ Some f → slots_by (promise_of ps f.place) f.local n ≡ true → awaits b.stack key n ≡ true
  awaited key n f is slot =
      let expects = (rest.sound.follows key).expects n in
      let due : count_by (is_due key n) b.queue ≡ 0 = ap (λ (q : List (Task F R)). count_by (is_due key n) q) rest.idle in
      let has : one (slots_in ps (frame_at b.stack key) n) ≡ 1 = ap (λ (c : Option (Frame L)). one (slots_in ps c n)) is ∙ ap one slot in
      at_least_one (awaits b.stack key n) (omega (arith, expects, due, has))

  -- an opener's wind is open, since none is replied and not ended
  open_at : (j : ℕ) (o : Opener) → cell_at b.stack.openers j ≡ Some o → (w : WindNo) × (opener_of b.stack w ≡ Some o)
  open_at j o at = by_word slot.0 slot.1 where
    slot : IsSlot rest.sound.reachable.moves j (Some o) (word_at b.stack j)
    slot = subst (λ (c : Option Opener). IsSlot rest.sound.reachable.moves j c (word_at b.stack j)) at (facts.slots j)

    by_word : (turn : ℕ) → (word_at b.stack j ≡ turn * 4 + 1) ⊎ (word_at b.stack j ≡ turn * 4 + 2) → (w : WindNo) × (opener_of b.stack w ≡ Some o)
    by_word turn (inl pending) = (wind_at j turn, opener_pending b.stack (wind_at j turn) pending ∙ at)
    by_word turn (inr replied) = absurd (rest.parted.ended j turn replied)

  -- an open wind opened a frame, or left the graph, since no task has it
  led : (key : ℕ) (w : WindNo) → IsWoundBy b.stack key w → Next key
  led key w wound = by_parent (list_any (is_parent w) b.stack.frames) refl where
    by_parent : (t : Bool) → list_any (is_parent w) b.stack.frames ≡ t → Next key
    by_parent true is =
        let found = some_passes (is_parent w) refl b.stack.frames is in
        Leads found.0 (record { wind = w; wound = wound; frame = found.1; there = found.2; parent = same_parent w found.1.place.parent found.3 })
    by_parent false is =
        let placed = rest.parted.placed w in
        let none : count_by (is_parent w) b.stack.frames ≡ 0 = count_none (is_parent w) b.stack.frames refl (λ k f at. none_passes (is_parent w) b.stack.frames k f is at) in
        let queued : count_by (is_queued w) b.queue ≡ 0 = ap (λ (q : List (Task F R)). count_by (is_queued w) q) rest.idle in
        let opened : one (is_some (opener_of b.stack w)) ≡ 1 = ap (λ (c : Option Opener). one (is_some c)) wound.opened in
        Left w wound (omega (arith, placed, none, queued, opened))

  winds : (key n : ℕ) → awaits b.stack key n ≡ true → Next key
  winds key n is =
      let found = some_passes (is_in key n) refl b.stack.openers is in
      let wind = open_at found.0 found.1 found.2 in
      led key wind.0 (record { opener = found.1; opened = wind.1; own = eqb-true found.1.frame key (first_yes (found.1.frame == key) (found.1.slot == n) found.3) })

  next : (key : ℕ) (f : Frame L) → frame_at b.stack key ≡ Some f → Next key
  next key f is = by_local f.local refl (subst (Stands ps) is (rest.sound.follows key).stands) where
    by_local : (l : Option L) → f.local ≡ l → StandsBy (promise_of ps f.place) l → Next key
    by_local None at stands = absurd stands
    by_local (Some l) at stands = by_case stands.1 where
      by_case : (((promise_of ps f.place).waits l ≡ true) × IsNone ((promise_of ps f.place).unanswered l)) ⊎ (((promise_of ps f.place).waits l ≡ false) × IsSomeSlot ((promise_of ps f.place).unanswered l)) → Next key
      by_case (inl waiting) = Waits (ap (waits_in ps) is ∙ ap (waits_by (promise_of ps f.place)) at ∙ waiting.0)
      by_case (inr winding) = winds key winding.1.0 (awaited key winding.1.0 f is (ap (λ (o : Option L). slots_by (promise_of ps f.place) o winding.1.0) at ∙ winding.1.1))

  -- ---- what is awaited under it

  -- the open winds of the frame are among the last so many
  abbrev IsLate : ℕ → ℕ → Type 0
  IsLate n key = (j : ℕ) (o : Opener) → cell_at b.stack.openers j ≡ Some o → o.frame ≡ key → b.stack.opened ≤ o.number + n

  later_below : (n key low : ℕ) → IsOpenedBy b.stack low key → IsLate (suc n) key → IsLate n low
  later_below n key low opened late j o at own =
      let above = late opened.wind.slot opened.wound.opener (opener_word b.stack opened.wind opened.wound.opener opened.wound.opened).1 opened.wound.own in
      let higher = rises b.stack rest.sound.reachable.moves rest.sound.reachable.handed rest.sound.reachable.reached low opened.frame opened.wind opened.wound.opener j o opened.there opened.parent opened.wound.opened at own in
      omega (arith, above, higher)

  none_late : (key low : ℕ) → IsOpenedBy b.stack low key → IsLate zero key → ⊥
  none_late key low opened late =
      let above = late opened.wind.slot opened.wound.opener (opener_word b.stack opened.wind opened.wound.opener opened.wound.opened).1 opened.wound.own in
      let below = number_below b.stack rest.sound.reachable.moves rest.sound.reachable.handed rest.sound.reachable.reached opened.wind opened.wound.opener opened.wound.opened in
      omega (arith, above, below)

  further : (key low : ℕ) → IsOpenedBy b.stack low key → AwaitsOutside ps outer b low → AwaitsOutside ps outer b key
  further key low opened (OnWait at under waits) = OnWait at (Further low key under opened) waits
  further key low opened (OnWind at w under wound left) = OnWind at w (Further low key under opened) wound left

  reaches : (n key : ℕ) → IsLate n key → Next key → AwaitsOutside ps outer b key
  reaches zero key late (Waits waits) = OnWait key Itself waits
  reaches zero key late (Left w wound left) = OnWind key w Itself wound left
  reaches zero key late (Leads low opened) = absurd (none_late key low opened late)
  reaches (suc n) key late (Waits waits) = OnWait key Itself waits
  reaches (suc n) key late (Left w wound left) = OnWind key w Itself wound left
  reaches (suc n) key late (Leads low opened) = further key low opened (reaches n low (later_below n key low opened late) (next low opened.frame opened.there))

  awaits_outside : (key : ℕ) → IsSome (frame_at b.stack key) → AwaitsOutside ps outer b key
  awaits_outside key some = by_cell (frame_at b.stack key) refl some where
    by_cell : (c : Option (Frame L)) → frame_at b.stack key ≡ c → IsSome c → AwaitsOutside ps outer b key
    by_cell None at some = absurd cc
    by_cell (Some f) at some = reaches b.stack.opened key (λ j o has own. omega (arith)) (next key f at)

  -- ---- a call that awaits nothing

  some_open : (c : Option (Frame L)) (g call : ℕ) → IsOf g call c → IsSome c
  some_open None g call is = absurd is
  some_open (Some f) g call is = refl

  no_frame : (g call : ℕ) → AwaitsNothing ps outer b g call → (key : ℕ) → IsOpenIn b.stack g call key → ⊥
  no_frame g call nothing key is = by_end (awaits_outside key (some_open (frame_at b.stack key) g call is)) where
    by_end : AwaitsOutside ps outer b key → ⊥
    by_end (OnWait low under waits) = let still = nothing.frames low (under_of b.stack rest.sound.reachable g call low key is under) in absurd cc
    by_end (OnWind low w under wound left) =
        let mine = wind_of b.stack rest.sound.reachable g call low w (under_of b.stack rest.sound.reachable g call low key is under) wound in
        let none = nothing.winds w wound.opener wound.opened mine.0 mine.1 in
        omega (arith, left, none)

  no_frames : ((call : ℕ) → AwaitsNothing ps outer b b.graph call) → b.frames ≡ 0
  no_frames nothing = rest.sound.counted ∙ count_none (is_of b.graph) b.stack.frames refl (λ k f at. ne_eqb f.place.graph b.graph (λ same. no_frame b.graph f.place.call (nothing f.place.call) k (open_in k f at same))) where
    open_in : (k : ℕ) (f : Frame L) → frame_at b.stack k ≡ Some f → f.place.graph ≡ b.graph → IsOpenIn b.stack b.graph f.place.call k
    open_in k f at same = subst (λ (c : Option (Frame L)). IsOf b.graph f.place.call c) (sym at) (same, refl)

pub boards_await : (F R L : Type 0) → RestingBoardsAwait F R L
boards_await F R L ps outer b rest key some = awaits_outside ps outer b rest key some

pub no_frame_of_calls : (F R L : Type 0) → RestingCallsHaveNoFrame F R L
no_frame_of_calls F R L ps outer b rest g call nothing key is = no_frame ps outer b rest g call nothing key is

pub no_frame_of_boards : (F R L : Type 0) → RestingBoardsHaveNoFrame F R L
no_frame_of_boards F R L ps outer b rest nothing = no_frames ps outer b rest nothing
