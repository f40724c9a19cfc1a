-- A board at rest: its one frame has one open wind, which was sent.
use Rattle.std.proofs.Common.{◌≡◌, refl, sym, ap, subst, ◌∙◌, arith, inl, inr}
use Rattle.std.proofs.lemmas.Bool.{cases_eq, ne_eqb}
use Rattle.std.specs.Prelude.{ℕ, zero, suc, ◌⊎◌, ◌≢◌, ◌+◌, ◌*◌, ◌==◌, ◌||◌, ◌&&◌, Bool, true, false, List, [], ◌∷◌, Option, Some, None, is_some, count_by}
use Rattle.xlator_law.specs.Law.{Promise}
use Rattle.xlator_law.specs.declared.winds.Place.{Place}
use Rattle.xlator_law.specs.declared.winds.WindNo.{WindNo}
use Rattle.frame_stack.specs.Cells.{IsInserted}
use Rattle.frame_stack.specs.Moves.{is_wind}
use Rattle.frame_stack.specs.Reached.{opening}
use Rattle.frame_stack.specs.Reached.IsReached.{Started, Opened, Wound}
use Rattle.frame_stack.specs.Stack.{Stack, empty_stack, word_of, awaits, opener_of, IsWound}
use Rattle.frame_stack.specs.declared.frame.Frame.{Frame}
use Rattle.frame_stack.specs.declared.frame.Opener.{Opener}
use Rattle.frame_stack.proofs.Changes.{wound_openers}
use Rattle.frame_stack.proofs.Openers.{cases_wind, no_opener}
use Rattle.frame_driver.specs.declared.board.Board.{Board}
use Rattle.frame_driver.specs.declared.items.Sent.{Sent}
use Rattle.frame_driver.specs.Follows.{FollowsAt, expected}
use Rattle.frame_driver.specs.Parts.{is_sent, places, opened, IsParted}
use Rattle.frame_driver.specs.Sound.{IsReachable, Sound}
use Rattle.frame_driver.specs.Tasks.{one}
use Rattle.frame_driver.proofs.Parts.{is_same_wind}
use Rattle.frame_laws.specs.Witness.{RestIsMet}

-- a node with one slot, whose frames wait for the answer in it
abbrev relay : Promise ℕ ℕ
relay = record { children = 1; slots = 1; below = 0; cost = λ _. 1; child_cost = λ _ _. 0; owns = λ _. true; unanswered = λ _ s. s == 0; waits = λ _. false; left = λ _. 0 }

abbrev all : ℕ → List (Promise ℕ ℕ)
all _ = relay ∷ []

abbrev wind : WindNo
wind = record { slot = 0; turn = 0 }

abbrev place : Place
place = record { graph = 0; call = 0; node = 0; parent = None }

abbrev root : Frame ℕ
root = record { place = place; local = Some 0 }

abbrev opener : Opener
opener = record { frame = 0; slot = 0; graph = 0; call = 0; number = 0 }

abbrev before : Stack ℕ
before = record { frames = Some root ∷ []; openers = []; words = []; opened = 0; lines = [] }

abbrev stack : Stack ℕ
stack = record { frames = Some root ∷ []; openers = Some opener ∷ []; words = 1 ∷ []; opened = 1; lines = (wind, 0, true) ∷ [] }

abbrev sent : Sent ℕ
sent = record { wind = wind; node = 0; child = 0; fop = 0 }

abbrev board : Board ℕ ℕ ℕ
board = record { graph = 0; frames = 1; stack = stack; queue = []; sent = sent ∷ []; answers = []; waiting = [] }

-- ---- the stack

inserted : IsInserted [] before.frames 0 root
inserted = record { vacant = refl; within = omega (arith); full = λ e. refl; put = refl }

wound : IsWound before stack 0 0 wind
wound = record { below = omega (arith); within = omega (arith); vacant = refl; full = λ e. refl; free = refl; made = refl }

reachable : IsReachable stack
reachable = record {
  moves = opening wind opener ∷ [];
  handed = [];
  reached = Wound before stack [] [] 0 0 wind (Opened empty_stack before [] [] 0 root Started tt inserted refl) refl refl wound;
}

no_wind : (v : WindNo) → v ≢ wind → opener_of stack v ≡ None
no_wind v differs = (wound_openers before stack 0 0 wind refl wound).others v differs ∙ no_opener before v (λ e. omega (arith, e)) (λ e. omega (arith, e))

-- ---- the board

own_slot : (n : ℕ) → expected board 0 n ≡ one (n == 0)
own_slot n = by_slot (cases_eq n 0) where
  by_slot : (n ≡ 0) ⊎ (n ≢ 0) → expected board 0 n ≡ one (n == 0)
  by_slot (inl same) = subst (λ m. expected board 0 m ≡ one (m == 0)) (sym same) refl
  by_slot (inr differs) =
      let a : one (awaits stack 0 n) ≡ 0 = ap (λ t. one (((0 == 0) && t) || false)) (ne_eqb 0 n (λ e. differs (sym e))) in
      let s : one (n == 0) ≡ 0 = ap one (ne_eqb n 0 differs) in
      omega (arith, a, s)

other_slot : (k n : ℕ) → expected board (suc k) n ≡ 0
other_slot k n =
    let a : one (awaits stack (suc k) n) ≡ 0 = ap (λ t. one ((t && (0 == n)) || false)) (ne_eqb 0 (suc k) (λ e. omega (arith, e))) in
    omega (arith, a)

follows : (key : ℕ) → FollowsAt all board key
follows zero = record { expects = own_slot; going = omega (arith); stands = (refl, inr (refl, (0, refl))) }
follows (suc k) = record { expects = other_slot k; going = omega (arith); stands = tt }

sound : Sound all board
sound = record { follows = follows; tasks = tt; reachable = reachable; counted = refl }

apart : (v : WindNo) → v ≢ wind → is_wind v wind ≡ false
apart v differs = by_case (is_wind v wind) refl where
  by_case : (b : Bool) → is_wind v wind ≡ b → is_wind v wind ≡ false
  by_case false e = e
  by_case true e = absurd (differs (is_same_wind v wind e))

parted : IsParted (λ _. 0) board
parted = record {
  placed = λ v. by_wind v (cases_wind v wind);
  ended = by_word;
} where
  by_wind : (v : WindNo) → (v ≡ wind) ⊎ (v ≢ wind) → places (λ _. 0) board v ≡ opened stack v
  by_wind v (inl same) = subst (λ (w : WindNo). places (λ _. 0) board w ≡ opened stack w) (sym same) refl
  by_wind v (inr differs) =
      let s : count_by (is_sent v) (sent ∷ []) ≡ 0 = ap (λ t. 0 + one t) (apart v differs) in
      let o : opened stack v ≡ 0 = ap (λ (c : Option Opener). one (is_some c)) (no_wind v differs) in
      omega (arith, s, o)

  by_word : (slot turn : ℕ) → word_of stack.words slot ≢ turn * 4 + 2
  by_word zero turn e = omega (arith, e)
  by_word (suc slot) turn e = omega (arith, e)

pub rest_is_met : RestIsMet
rest_is_met = record { all = all; board = board; rests = record { sound = sound; parted = parted; idle = refl }; key = 0; there = refl }
