-- A tree stays one where its board keeps what the driver's calls keep; the first frame that waits may go on.
use Rattle.std.proofs.Common.{◌≡◌, refl, sym, ap, subst, ◌∙◌, arith}
use Rattle.std.proofs.lemmas.Bool.{eq-eqb}
use Rattle.std.proofs.lemmas.List.{length-map}
use Rattle.std.proofs.lemmas.List.Sums.{sum_by-cons}
use Rattle.std.specs.Prelude.{ℕ, ◌<◌, ◌≤◌, ◌+◌, ◌==◌, cond, Bool, true, false, List, [], ◌∷◌, map, length, Option, IsSomeAnd, count_by}
use Rattle.frame_stack.specs.Stack.{Stack, frame_at}
use Rattle.xlator_law.specs.Law.{Promise}
use Rattle.frame_driver.specs.declared.board.Board.{Board}
use Rattle.frame_driver.specs.declared.items.Answered.{Answered}
use Rattle.frame_driver.specs.declared.items.Bailed.{Bailed}
use Rattle.frame_driver.specs.declared.items.Sent.{Sent}
use Rattle.frame_driver.specs.Bailing.{is_bailed, AreOurs}
use Rattle.frame_driver.specs.declared.wiring.Wiring.{Wiring}
use Rattle.frame_driver.specs.Follows.{Fits, waits_in}
use Rattle.frame_driver.specs.Machine.{empty_board}
use Rattle.frame_driver.specs.Sound.{Sound, SoundWith}
use Rattle.frame_driver.specs.Tasks.{one, is_going, IsWindOurs}
use Rattle.frame_driver.specs.Waits.{times, noted, AreHeld}
use Rattle.frame_driver.proofs.Parts.{is_same_wind}
use Rattle.frame_driver.proofs.Sharing.{handed_sound}
use Rattle.frame_driver.proofs.Standing.{count_cons}
use Rattle.frame_trees.specs.declared.kinds.Node.{Node}
use Rattle.frame_trees.specs.declared.kinds.Kept.{Kept}
use Rattle.frame_trees.specs.Kinds.{node_promise}
use Rattle.frame_trees.specs.Trees.{IsTree}

-- a board without frames
pub new_tree : (nodes : List Node) (w : Wiring) (b : Board ℕ ℕ Kept) → 0 < length nodes → Fits (map node_promise nodes) w → b ≡ empty_board 1 → ((ps : ℕ → List (Promise ℕ Kept)) → Sound ps b) → IsTree nodes w b
new_tree nodes w b some fits is sound = record {
  some = some;
  fits = fits;
  fine = record { all = λ _. map node_promise nodes; ours = refl; sound = sound (λ _. map node_promise nodes) };
  held = subst (AreHeld (λ _. map node_promise nodes) (λ _. 0)) (sym is) (λ key. refl);
}

-- what a call keeps for all promises makes a tree again, of nodes that promise the same
pub next_tree : (nodes nodes2 : List Node) (w : Wiring) (b c : Board ℕ ℕ Kept) → IsTree nodes w b → map node_promise nodes2 ≡ map node_promise nodes → c.graph ≡ b.graph →
    ((ps : ℕ → List (Promise ℕ Kept)) → ps b.graph ≡ map node_promise nodes → Sound ps b → Sound ps c) →
    ((ps : ℕ → List (Promise ℕ Kept)) → ps b.graph ≡ map node_promise nodes → Sound ps b → AreHeld ps (λ _. 0) b → AreHeld ps (λ _. 0) c) → IsTree nodes2 w c
next_tree nodes nodes2 w b c is same graph sound held = record {
  some = let l = length-map nodes node_promise in let m = length-map nodes2 node_promise in let e : length (map node_promise nodes2) ≡ length (map node_promise nodes) = ap length same in let s = is.some in omega (arith, l, m, e, s);
  fits = subst (λ ps. Fits ps w) (sym same) is.fits;
  fine = record { all = is.fine.all; ours = ap is.fine.all graph ∙ is.fine.ours ∙ sym same; sound = sound is.fine.all is.fine.ours is.fine.sound };
  held = held is.fine.all is.fine.ours is.fine.sound is.held;
}

-- the first frame that waits is taken
module _ (ps : ℕ → List (Promise ℕ Kept)) (b c : Board ℕ ℕ Kept) (frame : ℕ) (held : AreHeld ps (λ _. 0) b) (is : b ≡ record c { waiting = frame ∷ c.waiting }) where
  pub taken_held : AreHeld ps (λ k. 0 + one (k == frame)) c
  taken_held key =
      let h : noted (λ _. 0) (record c { waiting = frame ∷ c.waiting }) key ≡ one (waits_in ps (frame_at c.stack key)) = subst (λ (x : Board ℕ ℕ Kept). noted (λ _. 0) x key ≡ one (waits_in ps (frame_at x.stack key))) is (held key) in
      let a = sum_by-cons (λ k. cond (key == k) 1 0) frame c.waiting in
      omega (arith, h, a)

  pub taken_once : count_by (is_going frame) c.queue + 1 ≤ one (waits_in ps (frame_at c.stack frame))
  taken_once = let h = taken_held frame in let i : one (frame == frame) ≡ 1 = ap one (eq-eqb frame frame refl) in omega (arith, h, i)

-- the root is a node
pub root_there : (nodes : List Node) (w : Wiring) (b : Board ℕ ℕ Kept) → IsTree nodes w b → 0 < length (map node_promise nodes)
root_there nodes w b is = let l = length-map nodes node_promise in let s = is.some in omega (arith, l, s)

-- what was shown is taken away
pub shown_tree : (nodes : List Node) (w : Wiring) (b : Board ℕ ℕ Kept) (sent : List (Sent ℕ)) (answers : List (Answered ℕ)) → IsTree nodes w b → IsTree nodes w (record b { sent = sent; answers = answers })
shown_tree nodes w b sent answers is = record {
  some = is.some;
  fits = is.fits;
  fine = record {
    all = is.fine.all;
    ours = is.fine.ours;
    sound = record {
      follows = λ key. let f = is.fine.sound.follows key in record { expects = f.expects; going = f.going; stands = f.stands };
      tasks = is.fine.sound.tasks;
      reachable = is.fine.sound.reachable;
      counted = is.fine.sound.counted;
    };
  };
  held = is.held;
}

-- so are the lines of the winds
pub listed_tree : (nodes : List Node) (w : Wiring) (b : Board ℕ ℕ Kept) (s : Stack Kept) → IsTree nodes w b → s ≡ record b.stack { lines = [] } → IsTree nodes w (record b { stack = s })
listed_tree nodes w b s is at = subst (λ (t : Stack Kept). IsTree nodes w (record b { stack = t })) (sym at) (record {
  some = is.some;
  fits = is.fits;
  fine = record { all = is.fine.all; ours = is.fine.ours; sound = handed_sound is.fine.all b is.fine.sound };
  held = is.held;
})

-- a fop is submitted to the root
pub submitted_tree : (nodes : List Node) (w : Wiring) (b c : Board ℕ ℕ Kept) → IsTree nodes w b → c.graph ≡ b.graph →
    ((ps : ℕ → List (Promise ℕ Kept)) → 0 < length (ps b.graph) → Sound ps b → Sound ps c) →
    ((ps : ℕ → List (Promise ℕ Kept)) (outer : ℕ → ℕ) → AreHeld ps outer b → AreHeld ps outer c) → IsTree nodes w c
submitted_tree nodes w b c is graph sound held = next_tree nodes nodes w b c is refl graph
    (λ ps ours s. sound ps (subst (λ (qs : List (Promise ℕ Kept)). 0 < length qs) (sym ours) (root_there nodes w b is)) s)
    (λ ps ours s h. held ps (λ _. 0) h)

-- what ends winds
pub ended_tree : (nodes : List Node) (w : Wiring) (b c : Board ℕ ℕ Kept) → IsTree nodes w b → c.graph ≡ b.graph →
    ((ps : ℕ → List (Promise ℕ Kept)) → Sound ps b → Sound ps c) →
    ((ps : ℕ → List (Promise ℕ Kept)) (outer : ℕ → ℕ) → AreHeld ps outer b → AreHeld ps outer c) → IsTree nodes w c
ended_tree nodes w b c is graph sound held = next_tree nodes nodes w b c is refl graph (λ ps ours s. sound ps s) (λ ps ours s h. held ps (λ _. 0) h)

-- no frame waits
pub idle_tree : (nodes : List Node) (w : Wiring) (b : Board ℕ ℕ Kept) (waiting : List ℕ) → IsTree nodes w b → b.waiting ≡ waiting → IsTree nodes w (record b { waiting = waiting })
idle_tree nodes w b waiting is same = subst (λ (l : List ℕ). IsTree nodes w (record b { waiting = l })) same is

-- the first frame that waits goes on
pub went_tree : (nodes : List Node) (w : Wiring) (b c : Board ℕ ℕ Kept) (frame : ℕ) (rest : List ℕ) → IsTree nodes w b → b.waiting ≡ frame ∷ rest →
    IsSomeAnd (frame_at b.stack frame) (λ f. f.place.graph ≡ b.graph) → c.graph ≡ b.graph →
    ((ps : ℕ → List (Promise ℕ Kept)) → IsSomeAnd (frame_at b.stack frame) (λ f. f.place.graph ≡ b.graph) → count_by (is_going frame) b.queue + 1 ≤ one (waits_in ps (frame_at b.stack frame)) → Sound ps (record b { waiting = rest }) → Sound ps c) →
    ((ps : ℕ → List (Promise ℕ Kept)) (outer : ℕ → ℕ) → AreHeld ps (λ k. outer k + one (k == frame)) (record b { waiting = rest }) → AreHeld ps outer c) → IsTree nodes w c
went_tree nodes w b c frame rest is first home graph sound held = record {
  some = is.some;
  fits = is.fits;
  fine = record {
    all = is.fine.all;
    ours = ap is.fine.all graph ∙ is.fine.ours;
    sound = sound is.fine.all home (taken_once is.fine.all b (record b { waiting = rest }) frame is.held whole) (record {
      follows = λ key. let f = is.fine.sound.follows key in record { expects = f.expects; going = f.going; stands = f.stands };
      tasks = is.fine.sound.tasks;
      reachable = is.fine.sound.reachable;
      counted = is.fine.sound.counted;
    });
  };
  held = held is.fine.all (λ _. 0) (taken_held is.fine.all b (record b { waiting = rest }) frame is.held whole);
} where
  whole : b ≡ record b { waiting = frame ∷ rest }
  whole = ap (λ (l : List ℕ). record b { waiting = l }) first

-- two winds of a graph
pub both_ours : (s : Stack Kept) (g : ℕ) (winds : List (Bailed ℕ)) (x y : Bailed ℕ) → winds ≡ x ∷ y ∷ [] → IsWindOurs s g x.wind × IsWindOurs s g y.wind → AreOurs s g winds
both_ours s g winds x y is ours v h = by_first (is_bailed v x) refl where
  split : count_by (is_bailed v) winds ≡ one (is_bailed v x) + one (is_bailed v y)
  split = let e : count_by (is_bailed v) winds ≡ count_by (is_bailed v) (x ∷ y ∷ []) = ap (count_by (is_bailed v)) is in let a = count_cons (is_bailed v) x (y ∷ []) in let b = count_cons (is_bailed v) y [] in omega (arith, e, a, b)

  by_second : (t : Bool) → is_bailed v y ≡ t → is_bailed v x ≡ false → IsWindOurs s g v
  by_second true on off = subst (IsWindOurs s g) (sym (is_same_wind v y.wind on)) ours.1
  by_second false none off = absurd (let p = split in let a : one (is_bailed v x) ≡ 0 = ap one off in let b : one (is_bailed v y) ≡ 0 = ap one none in omega (arith, h, p, a, b))

  by_first : (t : Bool) → is_bailed v x ≡ t → IsWindOurs s g v
  by_first true on = subst (IsWindOurs s g) (sym (is_same_wind v x.wind on)) ours.0
  by_first false off = by_second (is_bailed v y) refl off
