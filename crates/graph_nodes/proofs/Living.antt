-- A call leaves a graph live: each of its parts keeps what the graph has while the mount's stack is lent to it, and with
-- nothing left to do the stack goes back.
use Rattle.std.proofs.Common.{◌≡◌, refl, sym, ap, subst, ◌∙◌, arith}
use Rattle.std.proofs.lemmas.Bool.{eq-eqb}
use Rattle.std.proofs.lemmas.List.{length-map}
use Rattle.std.specs.Prelude.{ℕ, ◌<◌, ◌≤◌, ◌+◌, ◌==◌, Bool, true, false, List, [], ◌∷◌, ◌++◌, map, length, Result, Ok, Err, OnOk, IsSomeAnd, count_by}
use Rattle.std.specs.List.{list_any}
use Rattle.std.specs.Ordering.{nat_cmp}
use Rattle.std.specs.BTreeMap.{is_at}
use Rattle.std.specs.Set.{remove_key}
use Rattle.xlator_law.specs.Law.{Promise}
use Rattle.frame_stack.specs.Stack.{Stack, frame_at}
use Rattle.frame_driver.specs.declared.board.Board.{Board}
use Rattle.frame_driver.specs.declared.items.Bailed.{Bailed}
use Rattle.frame_driver.specs.declared.wiring.Wiring.{Wiring}
use Rattle.frame_driver.specs.Bailing.{is_bailed, AreOurs}
use Rattle.frame_driver.specs.Follows.{Fits, waits_in}
use Rattle.frame_driver.specs.Leading.{KeepsOthers, Leads}
use Rattle.frame_driver.specs.Sound.{Sound, SoundWith}
use Rattle.frame_driver.specs.Tasks.{one, is_going, IsWindOurs}
use Rattle.frame_driver.specs.Waits.{times, noted, AreHeld}
use Rattle.frame_driver.proofs.Parts.{is_same_wind}
use Rattle.frame_driver.proofs.Sharing.{handed_sound}
use Rattle.frame_stack.proofs.Lists.{count_push}
use Rattle.graph_items.specs.declared.items.Down.{Down}
use Rattle.graph_items.specs.declared.items.Up.{Up}
use Rattle.graph_nodes.specs.declared.graph.Graph.{Graph}
use Rattle.graph_nodes.specs.declared.kinds.IoCache.{IoCache}
use Rattle.graph_nodes.specs.declared.kinds.IoThreads.{IoThreads}
use Rattle.graph_nodes.specs.declared.kinds.Kind.{Kind}
use Rattle.graph_nodes.specs.declared.kinds.Kind.TheVariants as kind
use Rattle.graph_nodes.specs.declared.kinds.Node.{Node}
use Rattle.graph_nodes.specs.declared.locals.Local.{Local}
use Rattle.graph_nodes.specs.declared.moved.Mount.{Mount}
use Rattle.graph_nodes.specs.Costs.{shape_of, sets_of}
use Rattle.graph_nodes.specs.Live.{AreOnce, IsAtWork, HasNothingLeft, lent, HasLive, HasWork, KeepsWork, KeepsBoard, Settles, KeepsGraph, shown, exchanged, borrowing, lending, KeepsMount, StaysLive}
use Rattle.graph_nodes.specs.Promises.{promise_of, node_promise}
use Rattle.graph_nodes.proofs.Parking.{times_removed}

-- ---- frames of other graphs

pub others_same : (g : ℕ) (s t : Stack Local) → t ≡ s → KeepsOthers g s t
others_same g s t same = subst (λ (u : Stack Local). KeepsOthers g s u) (sym same) (record { frames = λ key f other is. is; framed = λ key f other is. is; winds = λ w o other is. is; wound = λ w o other is. is; counts = λ h other. refl })

pub others_both : (g : ℕ) (s t u : Stack Local) → KeepsOthers g s t → KeepsOthers g t u → KeepsOthers g s u
others_both g s t u a b = record {
  frames = λ key f other is. b.frames key f other (a.frames key f other is);
  framed = λ key f other is. a.framed key f other (b.framed key f other is);
  winds = λ w o other is. b.winds w o other (a.winds w o other is);
  wound = λ w o other is. a.wound w o other (b.wound w o other is);
  counts = λ h other. b.counts h other ∙ a.counts h other;
}

-- the lines of winds are no frames
pub others_listed : (g : ℕ) (s t u : Stack Local) → KeepsOthers g s t → u ≡ record t { lines = [] } → KeepsOthers g s u
others_listed g s t u a is = subst (λ (v : Stack Local). KeepsOthers g s v) (sym is) (record { frames = λ key f other at. a.frames key f other at; framed = λ key f other at. a.framed key f other at; winds = λ w o other at. a.winds w o other at; wound = λ w o other at. a.wound w o other at; counts = λ h other. a.counts h other })

-- ---- parts of a call, one after another

pub keeps_then : (a b c : Graph) → KeepsGraph a b → KeepsGraph b c → KeepsGraph a c
keeps_then a b c first next = record {
  number = next.number ∙ first.number;
  top = next.top ∙ first.top;
  wiring = next.wiring ∙ first.wiring;
  promises = next.promises ∙ first.promises;
  others = others_both a.board.graph a.board.stack b.board.stack c.board.stack first.others (subst (λ (n : ℕ). KeepsOthers n b.board.stack c.board.stack) first.number next.others);
}

-- parts of the graph of which nothing is kept may change
pub keeps_as : (a b : Graph) → b.board ≡ a.board → b.nodes.items ≡ a.nodes.items → b.wiring ≡ a.wiring → b.top ≡ a.top → KeepsGraph a b
keeps_as a b board nodes wiring top = record {
  number = ap (λ (x : Board Down Up Local). x.graph) board;
  top = top;
  wiring = wiring;
  promises = ap (map node_promise) nodes;
  others = others_same a.board.graph a.board.stack b.board.stack (ap (λ (x : Board Down Up Local). x.stack) board);
}

pub works_as : (a b : Graph) → b.board ≡ a.board → b.nodes.items ≡ a.nodes.items → b.wiring ≡ a.wiring → (parked : List ℕ) → KeepsWork a parked b parked
works_as a b board nodes wiring parked = λ ps is. subst (λ (x : Board Down Up Local). IsAtWork ps b.nodes.items b.wiring x parked) (sym board) (subst (λ (ns : List Node). IsAtWork ps ns b.wiring a.board parked) (sym nodes) (subst (λ (w : Wiring). IsAtWork ps a.nodes.items w a.board parked) (sym wiring) is))

pub keeps_on : (a b c : Graph) → b.board ≡ a.board → b.nodes.items ≡ a.nodes.items → b.wiring ≡ a.wiring → b.top ≡ a.top → KeepsGraph b c → KeepsGraph a c
keeps_on a b c board nodes wiring top next = keeps_then a b c (keeps_as a b board nodes wiring top) next

pub works_on : (a b c : Graph) → b.board ≡ a.board → b.nodes.items ≡ a.nodes.items → b.wiring ≡ a.wiring → ((parked : List ℕ) → KeepsWork b parked c parked) → (parked : List ℕ) → KeepsWork a parked c parked
works_on a b c board nodes wiring next parked = λ ps is. next parked ps (works_as a b board nodes wiring parked ps is)

-- only the board changed, as its calls say
pub keeps_led : (a b : Graph) → Leads a.board b.board → b.nodes.items ≡ a.nodes.items → b.wiring ≡ a.wiring → b.top ≡ a.top → KeepsGraph a b
keeps_led a b leads nodes wiring top = record { number = leads.same; top = top; wiring = wiring; promises = ap (map node_promise) nodes; others = leads.others }

-- whatever is parked stays so
pub settles_then : (a b c : Graph) (p q : List ℕ) → ((parked : List ℕ) → KeepsWork a parked b parked) → Settles b p c q → Settles a p c q
settles_then a b c p q first next = record { works = λ ps is. next.works ps (first p ps is); rest = next.rest }

pub settles_by : (a b c : Graph) (p q r : List ℕ) → KeepsWork a p b q → Settles b q c r → Settles a p c r
settles_by a b c p q r first next = record { works = λ ps is. next.works ps (first ps is); rest = next.rest }

pub work_then : (a b : Graph) (p : List ℕ) → HasWork a p → ((parked : List ℕ) → KeepsWork a parked b parked) → HasWork b p
work_then a b p has first = record { all = has.all; works = first p has.all has.works }

pub work_by : (a b : Graph) (p q : List ℕ) → HasWork a p → KeepsWork a p b q → HasWork b q
work_by a b p q has first = record { all = has.all; works = first has.all has.works }

pub works_on_board : (a b : Graph) (p q : List ℕ) → b.nodes.items ≡ a.nodes.items → b.wiring ≡ a.wiring → KeepsBoard a.board p b.board q → KeepsWork a p b q
works_on_board a b p q nodes wiring board = λ ps is. subst (λ (ns : List Node). IsAtWork ps ns b.wiring b.board q) (sym nodes) (subst (λ (w : Wiring). IsAtWork ps a.nodes.items w b.board q) (sym wiring) (board ps a.nodes.items a.wiring is))

-- ---- what the calls of the board keep

module _ (b c : Board Down Up Local) where
  -- winds end
  pub ended_works : c.graph ≡ b.graph → ((ps : ℕ → List (Promise Down Local)) → Sound ps b → Sound ps c) → ((ps : ℕ → List (Promise Down Local)) (outer : ℕ → ℕ) → AreHeld ps outer b → AreHeld ps outer c) → (parked : List ℕ) → KeepsBoard b parked c parked
  ended_works graph sound held parked = λ ps nodes wiring is. record {
    ours = ap ps graph ∙ is.ours;
    fits = is.fits;
    sound = sound ps is.sound;
    held = held ps (λ key. times key parked) is.held;
  }

  -- a fop is to enter a node that there is
  pub submitted_works : (nodes : List Node) (node : ℕ) → node < length nodes → c.graph ≡ b.graph
      → ((ps : ℕ → List (Promise Down Local)) → node < length (ps b.graph) → Sound ps b → Sound ps c)
      → ((ps : ℕ → List (Promise Down Local)) (outer : ℕ → ℕ) → AreHeld ps outer b → AreHeld ps outer c)
      → (parked : List ℕ) (ps : ℕ → List (Promise Down Local)) (wiring : Wiring) → IsAtWork ps nodes wiring b parked → IsAtWork ps nodes wiring c parked
  submitted_works nodes node low graph sound held parked ps wiring is = record {
    ours = ap ps graph ∙ is.ours;
    fits = is.fits;
    sound = sound ps (let l = length-map nodes node_promise in let o : length (ps b.graph) ≡ length (map node_promise nodes) = ap length is.ours in omega (arith, l, o, low)) is.sound;
    held = held ps (λ key. times key parked) is.held;
  }

  -- a frame that is parked goes on
  module _ (p q : List ℕ) (frame : ℕ) (home : IsSomeAnd (frame_at b.stack frame) (λ f. f.place.graph ≡ b.graph)) (there : list_any (is_at (nat_cmp frame)) p ≡ true) (taken : q ≡ remove_key (is_at (nat_cmp frame)) p) where
    removed : (key : ℕ) → times key q + one (key == frame) ≡ times key p
    removed key = ap (λ (l : List ℕ). times key l + one (key == frame)) taken ∙ times_removed key frame p there

    once : (ps : ℕ → List (Promise Down Local)) → AreHeld ps (λ key. times key p) b → count_by (is_going frame) b.queue + 1 ≤ one (waits_in ps (frame_at b.stack frame))
    once ps held =
        let h : noted (λ key. times key p) b frame ≡ one (waits_in ps (frame_at b.stack frame)) = held frame in
        let r = removed frame in
        let i : one (frame == frame) ≡ 1 = ap one (eq-eqb frame frame refl) in
        omega (arith, h, r, i)

    going : (ps : ℕ → List (Promise Down Local)) → AreHeld ps (λ key. times key p) b → AreHeld ps (λ key. times key q + one (key == frame)) b
    going ps held key =
        let h : noted (λ k. times k p) b key ≡ one (waits_in ps (frame_at b.stack key)) = held key in
        let r = removed key in
        omega (arith, h, r)

    pub woken_works : c.graph ≡ b.graph
        → ((ps : ℕ → List (Promise Down Local)) → IsSomeAnd (frame_at b.stack frame) (λ f. f.place.graph ≡ b.graph) → count_by (is_going frame) b.queue + 1 ≤ one (waits_in ps (frame_at b.stack frame)) → Sound ps b → Sound ps c)
        → ((ps : ℕ → List (Promise Down Local)) (outer : ℕ → ℕ) → AreHeld ps (λ k. outer k + one (k == frame)) b → AreHeld ps outer c)
        → KeepsBoard b p c q
    woken_works graph sound held = λ ps nodes wiring is. record {
      ours = ap ps graph ∙ is.ours;
      fits = is.fits;
      sound = sound ps home (once ps is.held) is.sound;
      held = held ps (λ key. times key q) (going ps is.held);
    }

-- ---- a run, and what comes out of it

pub fine_with : (g : Graph) (parked : List ℕ) → HasWork g parked → SoundWith (map node_promise g.nodes.items) g.board
fine_with g parked has = record { all = has.all; ours = has.works.ours; sound = has.works.sound }

module _ (nodes nodes2 : List Node) (wiring : Wiring) (b c : Board Down Up Local) (same : map node_promise nodes2 ≡ map node_promise nodes) (graph : c.graph ≡ b.graph) (sound : (ps : ℕ → List (Promise Down Local)) → ps b.graph ≡ map node_promise nodes → Sound ps b → Sound ps c) (held : (ps : ℕ → List (Promise Down Local)) (outer : ℕ → ℕ) → ps b.graph ≡ map node_promise nodes → Sound ps b → AreHeld ps outer b → AreHeld ps outer c) where
  pub ran_works : (ps : ℕ → List (Promise Down Local)) (parked : List ℕ) → IsAtWork ps nodes wiring b parked → IsAtWork ps nodes2 wiring c parked
  ran_works ps parked is = record {
    ours = ap ps graph ∙ is.ours ∙ sym same;
    fits = subst (λ (qs : List (Promise Down Local)). Fits qs wiring) (sym same) is.fits;
    sound = sound ps is.ours is.sound;
    held = held ps (λ key. times key parked) is.ours is.sound is.held;
  }

at_most_one : (t : Bool) → one t ≤ 1
at_most_one true = omega (arith)
at_most_one false = omega (arith)

-- a frame that began to wait in the run was not parked
pub parked_once : (ps : ℕ → List (Promise Down Local)) (nodes : List Node) (wiring : Wiring) (b : Board Down Up Local) (parked : List ℕ) → IsAtWork ps nodes wiring b parked → AreOnce b.waiting parked
parked_once ps nodes wiring b parked is key =
    let h : noted (λ k. times k parked) b key ≡ one (waits_in ps (frame_at b.stack key)) = is.held key in
    let m = at_most_one (waits_in ps (frame_at b.stack key)) in
    omega (arith, h, m)

-- what came out is taken, and what began to wait is parked
pub shown_works : (ps : ℕ → List (Promise Down Local)) (nodes : List Node) (wiring : Wiring) (b : Board Down Up Local) (parked parked_new : List ℕ)
    → ((key : ℕ) → times key parked_new ≡ times key b.waiting + times key parked) → IsAtWork ps nodes wiring b parked → IsAtWork ps nodes wiring (shown b) parked_new
shown_works ps nodes wiring b parked parked_new all is = record {
  ours = is.ours;
  fits = is.fits;
  sound = record {
    follows = λ key. let f = handed.follows key in record { expects = f.expects; going = f.going; stands = f.stands };
    tasks = handed.tasks;
    reachable = handed.reachable;
    counted = handed.counted;
  };
  held = λ key.
      let h : noted (λ k. times k parked) b key ≡ one (waits_in ps (frame_at b.stack key)) = is.held key in
      let a = all key in
      let goal : times key [] + times key parked_new + count_by (is_going key) b.queue ≡ one (waits_in ps (frame_at b.stack key)) = let z : times key [] ≡ 0 = refl in omega (arith, h, a, z) in
      goal;
} where
  handed : Sound ps (record b { stack = record b.stack { lines = [] } })
  handed = handed_sound ps b is.sound

pub ran_settles : (g h : Graph) (c : Board Down Up Local) (parked parked_new : List ℕ)
    → ((ps : ℕ → List (Promise Down Local)) → IsAtWork ps g.nodes.items g.wiring g.board parked → IsAtWork ps h.nodes.items h.wiring c parked)
    → c.queue ≡ [] → h.board ≡ shown c → ((key : ℕ) → times key parked_new ≡ times key c.waiting + times key parked) → Settles g parked h parked_new
ran_settles g h c parked parked_new works none is all = record {
  works = λ ps w. subst (λ (b : Board Down Up Local). IsAtWork ps h.nodes.items h.wiring b parked_new) (sym is) (shown_works ps h.nodes.items h.wiring c parked parked_new all (works ps w));
  rest = subst HasNothingLeft (sym is) (record { queue = none; sent = refl; answers = refl; waiting = refl });
}

-- ---- the stack is lent, and comes back

pub work_of : (g h : Graph) (mount m : Mount) → HasLive g mount → h ≡ borrowing g mount → m ≡ lending g mount → HasWork h m.parked.keys
work_of g h mount m has to from = record {
  all = has.all;
  works = subst (λ (x : Graph). IsAtWork has.all x.nodes.items x.wiring x.board m.parked.keys) (sym to) (subst (λ (x : Mount). IsAtWork has.all g.nodes.items g.wiring (lent g.board mount.frames) x.parked.keys) (sym from) has.live.works);
}

pub top_of : (g h : Graph) (mount : Mount) → HasLive g mount → h ≡ borrowing g mount → h.top < length h.nodes.items
top_of g h mount has to = subst (λ (x : Graph). x.top < length x.nodes.items) (sym to) has.live.top

-- `mid` has the stack, `after` is what a part of the call makes of it
module _ (g mid after back : Graph) (mount lend_mount after_mount back_mount : Mount) (to : mid ≡ borrowing g mount) (from : lend_mount ≡ lending g mount) (at : after_mount ≡ record lend_mount { parked = after_mount.parked }) (to_back : back ≡ exchanged after after_mount) (from_back : back_mount ≡ lending after after_mount) (kept : KeepsGraph mid after) where
  frames_back : back_mount.frames ≡ after.board.stack
  frames_back = ap (λ (m : Mount). m.frames) from_back

  pub called_keeps : KeepsMount g mount back back_mount
  called_keeps = record {
    number = ap (λ (x : Graph). x.board.graph) to_back ∙ kept.number ∙ ap (λ (x : Graph). x.board.graph) to;
    others = subst (λ (s : Stack Local). KeepsOthers g.board.graph mount.frames s) (sym frames_back) (subst (λ (s : Stack Local). KeepsOthers g.board.graph s after.board.stack) (ap (λ (x : Graph). x.board.stack) to) (subst (λ (n : ℕ). KeepsOthers n mid.board.stack after.board.stack) (ap (λ (x : Graph). x.board.graph) to) kept.others));
    inodes = ap (λ (m : Mount). m.inodes) from_back ∙ ap (λ (m : Mount). m.inodes) at ∙ ap (λ (m : Mount). m.inodes) from;
    root_sets = ap (λ (m : Mount). m.root_sets) from_back ∙ ap (λ (m : Mount). m.root_sets) at ∙ ap (λ (m : Mount). m.root_sets) from;
  }

  pub called_live : Settles mid lend_mount.parked.keys after after_mount.parked.keys → StaysLive g mount back back_mount
  called_live well = λ ps live. record {
    works = subst (λ (x : Graph). IsAtWork ps x.nodes.items x.wiring (lent x.board back_mount.frames) back_mount.parked.keys) (sym to_back)
        (subst (λ (m : Mount). IsAtWork ps after.nodes.items after.wiring (lent after.board m.frames) m.parked.keys) (sym from_back)
        (well.works ps (subst (λ (x : Graph). IsAtWork ps x.nodes.items x.wiring x.board lend_mount.parked.keys) (sym to)
        (subst (λ (m : Mount). IsAtWork ps g.nodes.items g.wiring (lent g.board mount.frames) m.parked.keys) (sym from) live.works))));
    top = subst (λ (x : Graph). x.top < length x.nodes.items) (sym to_back) (
        let l = length-map after.nodes.items node_promise in
        let k = length-map mid.nodes.items node_promise in
        let e : length (map node_promise after.nodes.items) ≡ length (map node_promise mid.nodes.items) = ap length kept.promises in
        let t = kept.top in
        let low : mid.top < length mid.nodes.items = subst (λ (x : Graph). x.top < length x.nodes.items) (sym to) live.top in
        let goal : after.top < length after.nodes.items = omega (arith, l, k, e, t, low) in
        goal);
    rest = subst (λ (x : Graph). HasNothingLeft x.board) (sym to_back) (record { queue = well.rest.queue; sent = well.rest.sent; answers = well.rest.answers; waiting = well.rest.waiting });
  }

  -- the same as a clause of a call that hands on another one's result
  pub called_clause : {T E : Type 0} (result : Result T E) → OnOk result (Settles mid lend_mount.parked.keys after after_mount.parked.keys) → OnOk result (StaysLive g mount back back_mount)
  called_clause (Ok x) well = called_live well
  called_clause (Err e) well = tt

-- an io-threads or io-cache node keeps its promise, whatever it has
pub queue_promise : (n : Node) (q r : IoThreads) → n.kind ≡ kind.IoThreads q → node_promise (record n { kind = kind.IoThreads r }) ≡ node_promise n
queue_promise n q r is = sym (ap (λ (k : Kind). promise_of (shape_of k) (sets_of k n.sets) n.weight n.breadth) is)

pub cache_promise : (n : Node) (c d : IoCache) → n.kind ≡ kind.IoCache c → node_promise (record n { kind = kind.IoCache d }) ≡ node_promise n
cache_promise n c d is = sym (ap (λ (k : Kind). promise_of (shape_of k) (sets_of k n.sets) n.weight n.breadth) is)

-- a node that keeps its promise changes before the call
pub turned_live : (g h : Graph) (mount : Mount) → h.board ≡ g.board → h.wiring ≡ g.wiring → h.top ≡ g.top → map node_promise h.nodes.items ≡ map node_promise g.nodes.items → StaysLive g mount h mount
turned_live g h mount board wiring top same = λ ps live. record {
  works = subst (λ (b : Board Down Up Local). IsAtWork ps h.nodes.items h.wiring (lent b mount.frames) mount.parked.keys) (sym board) (subst (λ (w : Wiring). IsAtWork ps h.nodes.items w (lent g.board mount.frames) mount.parked.keys) (sym wiring) (record {
    ours = live.works.ours ∙ sym same;
    fits = subst (λ (qs : List (Promise Down Local)). Fits qs g.wiring) (sym same) live.works.fits;
    sound = live.works.sound;
    held = live.works.held;
  }));
  top = let l = length-map h.nodes.items node_promise in
      let k = length-map g.nodes.items node_promise in
      let e : length (map node_promise h.nodes.items) ≡ length (map node_promise g.nodes.items) = ap length same in
      let low = live.top in
      omega (arith, l, k, e, top, low);
  rest = subst HasNothingLeft (sym board) live.rest;
}

pub turned_has : (g h : Graph) (mount : Mount) → StaysLive g mount h mount → HasLive g mount → HasLive h mount
turned_has g h mount stays has = record { all = has.all; live = stays has.all has.live }

-- what is kept of a graph whose board was the same before
pub keeps_from : (a b c : Graph) (m n : Mount) → b.board ≡ a.board → KeepsMount b m c n → KeepsMount a m c n
keeps_from a b c m n same kept = record {
  number = kept.number ∙ ap (λ (x : Board Down Up Local). x.graph) same;
  others = subst (λ (x : Board Down Up Local). KeepsOthers x.graph m.frames n.frames) same kept.others;
  inodes = kept.inodes;
  root_sets = kept.root_sets;
}

pub keeps_all : (a b : Graph) (m : Mount) → b.board.graph ≡ a.board.graph → KeepsMount a m b m
keeps_all a b m same = record { number = same; others = others_same a.board.graph m.frames m.frames refl; inodes = refl; root_sets = refl }

pub stays_then : (a b c : Graph) (m n o : Mount) → StaysLive a m b n → StaysLive b n c o → StaysLive a m c o
stays_then a b c m n o first next = λ ps live. next ps (first ps live)

-- ---- winds of the graph

pub none_ours : (s : Stack Local) (g : ℕ) (winds : List (Bailed Up)) → winds ≡ [] → AreOurs s g winds
none_ours s g winds none w h = absurd (let z : count_by (is_bailed w) winds ≡ 0 = ap (count_by (is_bailed w)) none in omega (arith, h, z))

pub one_more_ours : (s : Stack Local) (g : ℕ) (winds more : List (Bailed Up)) (x : Bailed Up) → AreOurs s g winds → IsWindOurs s g x.wind → more ≡ winds ++ x ∷ [] → AreOurs s g more
one_more_ours s g winds more x ours own is w h = by (is_bailed w x) refl where
  split : count_by (is_bailed w) more ≡ count_by (is_bailed w) winds + one (is_bailed w x)
  split = ap (count_by (is_bailed w)) is ∙ count_push (is_bailed w) winds x

  by : (t : Bool) → is_bailed w x ≡ t → IsWindOurs s g w
  by true on = subst (IsWindOurs s g) (sym (is_same_wind w x.wind on)) own
  by false off = ours w (let p = split in let z : one (is_bailed w x) ≡ 0 = ap one off in omega (arith, h, p, z))
