-- All graphs of a mount: a call of one leaves the others live, a new one takes a number that was vacant, and the number of
-- one without frames is vacant once it is gone.
use Rattle.std.proofs.Common.{◌≡◌, refl, sym, ap, subst, ◌∙◌, arith}
use Rattle.std.proofs.lemmas.Bool.{eq-eqb, ne_eqb}
use Rattle.std.specs.Prelude.{ℕ, zero, suc, ◌≢◌, ◌<◌, ◌≤◌, ◌+◌, ◌==◌, ◌||◌, ◌&&◌, not, cond, Bool, true, false, List, [], ◌∷◌, Option, None, Some, is_some, IsSome, IsSomeAnd, MatchBool, map, length, slice_index_or, count_by}
use Rattle.std.specs.BTreeMap.{BTreeMap, get, keys, is_at, WritesThrough}
use Rattle.std.specs.List.{list_any}
use Rattle.std.specs.Map.{lookup, keys_of}
use Rattle.std.specs.Ordering.{is_eq, nat_cmp}
use Rattle.xlator_law.specs.Law.{Promise}
use Rattle.frame_stack.specs.declared.frame.Frame.{Frame}
use Rattle.frame_stack.specs.Stack.{Stack, empty_stack, frame_at}
use Rattle.frame_driver.specs.declared.board.Board.{Board}
use Rattle.frame_driver.specs.declared.items.Task.{Task}
use Rattle.frame_driver.specs.Follows.{Fits, slots_in, waits_in, Stands}
use Rattle.frame_driver.specs.Machine.{empty_board}
use Rattle.frame_driver.specs.Sound.{is_of, Sound}
use Rattle.frame_driver.specs.Tasks.{one, is_going, AreTasks}
use Rattle.frame_driver.specs.Waits.{times, noted}
use Rattle.frame_driver.proofs.Sharing.{empty_sound, shared}
use Rattle.frame_driver.proofs.Standing.{count_cons}
use Rattle.graph_items.specs.declared.items.Down.{Down}
use Rattle.graph_items.specs.declared.items.Up.{Up}
use Rattle.graph_nodes.specs.declared.graph.Graph.{Graph}
use Rattle.graph_nodes.specs.declared.locals.Local.{Local}
use Rattle.graph_nodes.specs.declared.moved.Mount.{Mount}
use Rattle.graph_nodes.specs.Live.{IsAtWork, HasNothingLeft, lent, IsLive, HasLive, KeepsMount, StaysLive, IsVacant, AreLive, AllLive}
use Rattle.graph_nodes.specs.Mounted.{has}
use Rattle.graph_nodes.specs.Promises.{node_promise}

pub is_same : (a b : ℕ) → is_eq (nat_cmp a b) ≡ true → a ≡ b
is_same a b h = grind (arith, h)

pub at_is : (a b : ℕ) → is_eq (nat_cmp a b) ≡ (a == b)
at_is a b = grind arith

at_itself : (a : ℕ) → is_eq (nat_cmp a a) ≡ true
at_itself a = at_is a a ∙ eq-eqb a a refl

-- ---- what one graph gives the others

module _ (ps : ℕ → List (Promise Down Local)) (g : Graph) (mount : Mount) (live : IsLive ps g mount) where
  -- a board with nothing to do, of a graph that counts its frames
  pub other_sound : (b : Board Down Up Local) → b.queue ≡ [] → b.stack ≡ mount.frames → b.frames ≡ count_by (is_of b.graph) mount.frames.frames → Sound ps b
  other_sound b idle stack counted = shared ps (lent g.board mount.frames) b live.works.sound live.rest.queue idle stack (subst (λ (s : Stack Local). b.frames ≡ count_by (is_of b.graph) s.frames) (sym stack) counted)

  -- exactly the frames that wait are parked
  pub all_parked : (key : ℕ) → times key mount.parked.keys ≡ one (waits_in ps (frame_at mount.frames key))
  all_parked key =
      let h : noted (λ k. times k mount.parked.keys) (lent g.board mount.frames) key ≡ one (waits_in ps (frame_at mount.frames key)) = live.works.held key in
      let w : times key g.board.waiting ≡ 0 = ap (times key) live.rest.waiting in
      let q : count_by (is_going key) g.board.queue ≡ 0 = ap (count_by (is_going key)) live.rest.queue in
      omega (arith, h, w, q)

-- with nothing left, and each frame that waits parked, a graph is live where its board is sound
pub still_live : (ps : ℕ → List (Promise Down Local)) (g : Graph) (mount : Mount) → ps g.board.graph ≡ map node_promise g.nodes.items → Fits (map node_promise g.nodes.items) g.wiring
    → g.top < length g.nodes.items → HasNothingLeft g.board → Sound ps (lent g.board mount.frames)
    → ((key : ℕ) → times key mount.parked.keys ≡ one (waits_in ps (frame_at mount.frames key))) → IsLive ps g mount
still_live ps g mount ours fits top rest sound parked = record {
  works = record {
    ours = ours;
    fits = fits;
    sound = sound;
    held = λ key.
        let p = parked key in
        let w : times key g.board.waiting ≡ 0 = ap (times key) rest.waiting in
        let q : count_by (is_going key) g.board.queue ≡ 0 = ap (count_by (is_going key)) rest.queue in
        let goal : times key g.board.waiting + times key mount.parked.keys + count_by (is_going key) g.board.queue ≡ one (waits_in ps (frame_at mount.frames key)) = omega (arith, p, w, q) in
        goal;
  };
  top = top;
  rest = rest;
}

-- ---- a call of one graph

module _ (ps : ℕ → List (Promise Down Local)) (old new : Graph) (mount mount_new : Mount) (now : IsLive ps new mount_new) (kept : KeepsMount old mount new mount_new) where
  counted_on : (h : ℕ) → h ≢ old.board.graph → count_by (is_of h) mount_new.frames.frames ≡ count_by (is_of h) mount.frames.frames
  counted_on h other = kept.others.counts h other

  -- another graph is live as before
  pub other_live : (g : Graph) → g.board.graph ≢ old.board.graph → IsLive ps g mount → IsLive ps g mount_new
  other_live g other was = still_live ps g mount_new was.works.ours was.works.fits was.top was.rest
      (other_sound ps new mount_new now (lent g.board mount_new.frames) was.rest.queue refl (was.works.sound.counted ∙ sym (counted_on g.board.graph other)))
      (all_parked ps new mount_new now)

  -- and another number as vacant
  pub other_vacant : (n : ℕ) → n ≢ old.board.graph → IsVacant ps n mount → IsVacant ps n mount_new
  other_vacant n other was = record {
    sound = other_sound ps new mount_new now (lent (empty_board n) mount_new.frames) refl refl (was.sound.counted ∙ sym (counted_on n other));
    held = all_parked ps new mount_new now;
  }

-- the graphs after one of them changed, at its number
module _ (ps : ℕ → List (Promise Down Local)) (live live_new : BTreeMap ℕ Graph) (n : ℕ) (old new : Graph) (mount mount_new : Mount) (all : AreLive ps live mount) (was : get nat_cmp live n ≡ Some old) (changed : (q : ℕ) → get nat_cmp live_new q ≡ cond (is_at (nat_cmp n) q) (Some new) (get nat_cmp live q)) (now : IsLive ps new mount_new) (kept : KeepsMount old mount new mount_new) where
  numbered : old.board.graph ≡ n
  numbered = all.number n old was

  called_number : (q : ℕ) (g : Graph) (b : Bool) → is_at (nat_cmp n) q ≡ b → cond b (Some new) (get nat_cmp live q) ≡ Some g → g.board.graph ≡ q
  called_number q g true at is = let e : new ≡ g = cc in ap (λ (x : Graph). x.board.graph) (sym e) ∙ kept.number ∙ numbered ∙ is_same n q at
  called_number q g false off is = all.number q g is

  called_graph : (q : ℕ) (g : Graph) (b : Bool) → is_at (nat_cmp n) q ≡ b → cond b (Some new) (get nat_cmp live q) ≡ Some g → IsLive ps g mount_new
  called_graph q g true at is = let e : new ≡ g = cc in subst (λ (x : Graph). IsLive ps x mount_new) e now
  called_graph q g false off is = other_live ps old new mount mount_new now kept g (λ same. apart (sym (all.number q g is) ∙ same ∙ numbered)) (all.each q g is) where
    apart : q ≡ n → ⊥
    apart e = let i : is_at (nat_cmp n) q ≡ true = subst (λ (k : ℕ). is_eq (nat_cmp n k) ≡ true) (sym e) (at_itself n) in absurd cc

  called_vacant : (q : ℕ) (b : Bool) → is_at (nat_cmp n) q ≡ b → cond b (Some new) (get nat_cmp live q) ≡ None → IsVacant ps q mount_new
  called_vacant q true at is = absurd cc
  called_vacant q false off is = other_vacant ps old new mount mount_new now kept q (λ same. apart (same ∙ numbered)) (all.others q is) where
    apart : q ≡ n → ⊥
    apart e = let i : is_at (nat_cmp n) q ≡ true = subst (λ (k : ℕ). is_eq (nat_cmp n k) ≡ true) (sym e) (at_itself n) in absurd cc

  pub one_called : AreLive ps live_new mount_new
  one_called = record {
    number = λ q g is. called_number q g (is_at (nat_cmp n) q) refl (sym (changed q) ∙ is);
    each = λ q g is. called_graph q g (is_at (nat_cmp n) q) refl (sym (changed q) ∙ is);
    others = λ q is. called_vacant q (is_at (nat_cmp n) q) refl (sym (changed q) ∙ is);
  }

-- as the type of all graphs keeps it
pub called_all : (live live_new : BTreeMap ℕ Graph) (n : ℕ) (old new : Graph) (mount mount_new : Mount) → AllLive live mount → get nat_cmp live n ≡ Some old
    → ((q : ℕ) → get nat_cmp live_new q ≡ cond (is_at (nat_cmp n) q) (Some new) (get nat_cmp live q)) → StaysLive old mount new mount_new → KeepsMount old mount new mount_new → AllLive live_new mount_new
called_all live live_new n old new mount mount_new all was changed stays kept = record {
  all = all.all;
  are = one_called all.all live live_new n old new mount mount_new all.are was changed (stays all.all (all.are.each n old was)) kept;
}

pub one_of_all : (live : BTreeMap ℕ Graph) (n : ℕ) (g : Graph) (mount : Mount) → AllLive live mount → get nat_cmp live n ≡ Some g → HasLive g mount
one_of_all live n g mount all there = record { all = all.all; live = all.are.each n g there }

-- the same in the words of a look-up that lends a graph
pub one_found : (live : BTreeMap ℕ Graph) (n : ℕ) (g : Graph) (mount : Mount) → AllLive live mount → Some g ≡ get nat_cmp live n → HasLive g mount
one_found live n g mount all found = one_of_all live n g mount all (sym found)

pub called_through : (live live_new : BTreeMap ℕ Graph) (n : ℕ) (old new : Graph) (mount mount_new : Mount) → AllLive live mount → Some old ≡ get nat_cmp live n
    → WritesThrough nat_cmp (nat_cmp n) live new live_new → StaysLive old mount new mount_new → KeepsMount old mount new mount_new → AllLive live_new mount_new
called_through live live_new n old new mount mount_new all found through stays kept =
    called_all live live_new n old new mount mount_new all (sym found) (through.3 (subst (λ (o : Option Graph). IsSome o) found refl)).0 stays kept

pub all_same : (live live_new : BTreeMap ℕ Graph) (mount : Mount) → live_new ≡ live → AllLive live mount → AllLive live_new mount
all_same live live_new mount same all = subst (λ (l : BTreeMap ℕ Graph). AllLive l mount) (sym same) all

-- ---- no graphs

abbrev pub no_promises : ℕ → List (Promise Down Local)
no_promises n = []

pub none_live : (live : BTreeMap ℕ Graph) (mount : Mount) → live.entries ≡ [] → mount.frames ≡ empty_stack → mount.parked.keys ≡ [] → AllLive live mount
none_live live mount none frames parked = record {
  all = no_promises;
  are = record {
    number = λ n g is. absurd (let z : get nat_cmp live n ≡ None = absent n in cc);
    each = λ n g is. absurd (let z : get nat_cmp live n ≡ None = absent n in cc);
    others = λ n _. record {
      sound = subst (λ (s : Stack Local). Sound {F = Down} {R = Up} {L = Local} no_promises (lent (empty_board n) s)) (sym frames) (empty_sound {F = Down} {R = Up} {L = Local} no_promises n);
      held = λ key. subst (λ (s : Stack Local). times key mount.parked.keys ≡ one (waits_in {F = Down} {L = Local} no_promises (frame_at s key))) (sym frames) (ap (times key) parked);
    };
  };
} where
  absent : (n : ℕ) → get nat_cmp live n ≡ None
  absent n = ap (λ (es : List (ℕ × Graph)). lookup (is_at (nat_cmp n)) es) none

-- ---- a graph comes: the frames of others follow the same promises

-- these promises, with others for one graph
abbrev pub with_promises : (ℕ → List (Promise Down Local)) → ℕ → List (Promise Down Local) → ℕ → List (Promise Down Local)
with_promises ps n own k = cond (n == k) own (ps k)

module _ (ps : ℕ → List (Promise Down Local)) (n : ℕ) (own : List (Promise Down Local)) where
  with_own : with_promises ps n own n ≡ own
  with_own = ap (λ (b : Bool). cond b own (ps n)) (eq-eqb n n refl)

  with_other : (k : ℕ) → k ≢ n → with_promises ps n own k ≡ ps k
  with_other k other = ap (λ (b : Bool). cond b own (ps k)) (ne_eqb n k (λ e. other (sym e)))

  -- no frame is of the graph
  none_of : (frames : List (Option (Frame Local))) (key : ℕ) (f : Frame Local) → count_by (is_of n) frames ≡ 0 → slice_index_or frames key None ≡ Some f → f.place.graph ≢ n
  none_of [] key f none is = absurd cc
  none_of (x ∷ xs) zero f none is = λ same. let c = count_cons (is_of n) x xs in let e : x ≡ Some f = is in let o : one (is_of n x) ≡ 1 = ap (λ (c : Option (Frame Local)). one (is_of n c)) e ∙ ap one (eq-eqb f.place.graph n same) in absurd (omega (arith, c, none, o))
  none_of (x ∷ xs) (suc key) f none is = none_of xs key f (let c = count_cons (is_of n) x xs in omega (arith, c, none)) is

  module _ (b : Board Down Up Local) (none : count_by (is_of n) b.stack.frames ≡ 0) where
    same_promise : (key : ℕ) (c : Option (Frame Local)) → frame_at b.stack key ≡ c → (slots : ℕ) → (slots_in (with_promises ps n own) c slots ≡ slots_in ps c slots)
    same_promise key None is s = refl
    same_promise key (Some f) is s = ap (λ (qs : List (Promise Down Local)). slots_in (λ _. qs) (Some f) s) (with_other f.place.graph (none_of b.stack.frames key f none is))

    same_waits : (key : ℕ) (c : Option (Frame Local)) → frame_at b.stack key ≡ c → waits_in (with_promises ps n own) c ≡ waits_in ps c
    same_waits key None is = refl
    same_waits key (Some f) is = ap (λ (qs : List (Promise Down Local)). waits_in (λ _. qs) (Some f)) (with_other f.place.graph (none_of b.stack.frames key f none is))

    same_stands : (key : ℕ) (c : Option (Frame Local)) → frame_at b.stack key ≡ c → Stands ps c → Stands (with_promises ps n own) c
    same_stands key None is h = tt
    same_stands key (Some f) is h = subst (λ (qs : List (Promise Down Local)). Stands (λ _. qs) (Some f)) (sym (with_other f.place.graph (none_of b.stack.frames key f none is))) h

    -- with nothing to do, the board is sound for the new promises too
    pub sound_with : b.queue ≡ [] → Sound ps b → Sound (with_promises ps n own) b
    sound_with idle s = record {
      follows = λ key. let f = s.follows key in record {
        expects = λ slot. f.expects slot ∙ ap one (sym (same_promise key (frame_at b.stack key) refl slot));
        going = subst (λ (t : Bool). count_by (is_going key) b.queue ≤ one t) (sym (same_waits key (frame_at b.stack key) refl)) f.going;
        stands = same_stands key (frame_at b.stack key) refl f.stands;
      };
      tasks = subst (λ (q : List (Task Down Up)). AreTasks (length (with_promises ps n own b.graph)) b.graph b.stack q) (sym idle) tt;
      reachable = s.reachable;
      counted = s.counted;
    }

    pub parked_with : (parked : List ℕ) → ((key : ℕ) → times key parked ≡ one (waits_in ps (frame_at b.stack key))) → (key : ℕ) → times key parked ≡ one (waits_in (with_promises ps n own) (frame_at b.stack key))
    parked_with parked all key = all key ∙ ap one (sym (same_waits key (frame_at b.stack key) refl))

-- a new graph takes a number at which no graph is
module _ (ps : ℕ → List (Promise Down Local)) (live live_new : BTreeMap ℕ Graph) (n : ℕ) (new : Graph) (mount : Mount) (all : AreLive ps live mount) (absent : get nat_cmp live n ≡ None) (put : (q : ℕ) → get nat_cmp live_new q ≡ cond (is_at (nat_cmp n) q) (Some new) (get nat_cmp live q)) (board : new.board ≡ empty_board n) (fits : Fits (map node_promise new.nodes.items) new.wiring) (top : new.top < length new.nodes.items) where
  abbrev pub promises : ℕ → List (Promise Down Local)
  promises = with_promises ps n (map node_promise new.nodes.items)

  was_vacant : IsVacant ps n mount
  was_vacant = all.others n absent

  no_frame : count_by (is_of n) mount.frames.frames ≡ 0
  no_frame = sym was_vacant.sound.counted

  all_noted : (key : ℕ) → times key mount.parked.keys ≡ one (waits_in promises (frame_at mount.frames key))
  all_noted = parked_with ps n (map node_promise new.nodes.items) (lent (empty_board n) mount.frames) no_frame mount.parked.keys was_vacant.held

  another : (q : ℕ) → is_at (nat_cmp n) q ≡ false → q ≢ n
  another q off e = let i : is_at (nat_cmp n) q ≡ true = subst (λ (k : ℕ). is_eq (nat_cmp n k) ≡ true) (sym e) (at_itself n) in absurd cc

  new_live : IsLive promises new mount
  new_live = still_live promises new mount
      (ap promises (ap (λ (b : Board Down Up Local). b.graph) board) ∙ with_own ps n (map node_promise new.nodes.items))
      fits top
      (subst HasNothingLeft (sym board) (record { queue = refl; sent = refl; answers = refl; waiting = refl }))
      (subst (λ (b : Board Down Up Local). Sound promises (lent b mount.frames)) (sym board) (sound_with ps n (map node_promise new.nodes.items) (lent (empty_board n) mount.frames) no_frame refl was_vacant.sound))
      all_noted

  made_number : (q : ℕ) (g : Graph) (b : Bool) → is_at (nat_cmp n) q ≡ b → cond b (Some new) (get nat_cmp live q) ≡ Some g → g.board.graph ≡ q
  made_number q g true at is = let e : new ≡ g = cc in ap (λ (x : Graph). x.board.graph) (sym e) ∙ ap (λ (b : Board Down Up Local). b.graph) board ∙ is_same n q at
  made_number q g false off is = all.number q g is

  made_live : (q : ℕ) (g : Graph) (b : Bool) → is_at (nat_cmp n) q ≡ b → cond b (Some new) (get nat_cmp live q) ≡ Some g → IsLive promises g mount
  made_live q g true at is = let e : new ≡ g = cc in subst (λ (x : Graph). IsLive promises x mount) e new_live
  made_live q g false off is = let was = all.each q g is in still_live promises g mount
      (ap promises (all.number q g is) ∙ with_other ps n (map node_promise new.nodes.items) q (another q off) ∙ ap ps (sym (all.number q g is)) ∙ was.works.ours)
      was.works.fits was.top was.rest
      (sound_with ps n (map node_promise new.nodes.items) (lent g.board mount.frames) no_frame was.rest.queue was.works.sound)
      all_noted

  made_vacant : (q : ℕ) (b : Bool) → is_at (nat_cmp n) q ≡ b → cond b (Some new) (get nat_cmp live q) ≡ None → IsVacant promises q mount
  made_vacant q true at is = absurd cc
  made_vacant q false off is = record { sound = sound_with ps n (map node_promise new.nodes.items) (lent (empty_board q) mount.frames) no_frame refl (all.others q is).sound; held = all_noted }

  pub one_made : AreLive promises live_new mount
  one_made = record {
    number = λ q g is. made_number q g (is_at (nat_cmp n) q) refl (sym (put q) ∙ is);
    each = λ q g is. made_live q g (is_at (nat_cmp n) q) refl (sym (put q) ∙ is);
    others = λ q is. made_vacant q (is_at (nat_cmp n) q) refl (sym (put q) ∙ is);
  }

pub made_all : (live live_new : BTreeMap ℕ Graph) (n : ℕ) (new : Graph) (mount : Mount) → AllLive live mount → get nat_cmp live n ≡ None
    → ((q : ℕ) → get nat_cmp live_new q ≡ cond (is_at (nat_cmp n) q) (Some new) (get nat_cmp live q)) → new.board ≡ empty_board n → Fits (map node_promise new.nodes.items) new.wiring → new.top < length new.nodes.items → AllLive live_new mount
made_all live live_new n new mount all absent put board fits top = record { all = with_promises all.all n (map node_promise new.nodes.items); are = one_made all.all live live_new n new mount all.are absent put board fits top }

-- ---- a graph without frames goes

pub dropped_all : (live live_new : BTreeMap ℕ Graph) (n : ℕ) (g : Graph) (mount : Mount) → AllLive live mount → get nat_cmp live n ≡ Some g → g.board.frames ≡ 0
    → ((q : ℕ) → get nat_cmp live_new q ≡ cond (is_at (nat_cmp n) q) None (get nat_cmp live q)) → AllLive live_new mount
dropped_all live live_new n g mount all there drained gone = record {
  all = all.all;
  are = record {
    number = λ q h is. number_by q h (is_at (nat_cmp n) q) (sym (gone q) ∙ is);
    each = λ q h is. live_by q h (is_at (nat_cmp n) q) (sym (gone q) ∙ is);
    others = λ q is. vacant_by q (is_at (nat_cmp n) q) refl (sym (gone q) ∙ is);
  };
} where
  was : IsLive all.all g mount
  was = all.are.each n g there

  number_by : (q : ℕ) (h : Graph) (b : Bool) → cond b None (get nat_cmp live q) ≡ Some h → h.board.graph ≡ q
  number_by q h true is = absurd cc
  number_by q h false is = all.are.number q h is

  live_by : (q : ℕ) (h : Graph) (b : Bool) → cond b None (get nat_cmp live q) ≡ Some h → IsLive all.all h mount
  live_by q h true is = absurd cc
  live_by q h false is = all.are.each q h is

  here : IsVacant all.all n mount
  here = record {
    sound = other_sound all.all g mount was (lent (empty_board n) mount.frames) refl refl (sym drained ∙ was.works.sound.counted ∙ ap (λ (k : ℕ). count_by (is_of k) mount.frames.frames) (all.are.number n g there));
    held = all_parked all.all g mount was;
  }

  vacant_by : (q : ℕ) (b : Bool) → is_at (nat_cmp n) q ≡ b → cond b None (get nat_cmp live q) ≡ None → IsVacant all.all q mount
  vacant_by q true at is = subst (λ (k : ℕ). IsVacant all.all k mount) (is_same n q at) here
  vacant_by q false off is = all.are.others q is

-- ---- the type of all graphs

-- what holds of graphs that are not spent
pub usable : (spent : Bool) (A : Type 0) → MatchBool spent (Unit {0}) A → spent ≡ false → A
usable true A h fresh = absurd cc
usable false A h fresh = h

pub still_all : (spent : Bool) (A B : Type 0) → (A → B) → MatchBool spent (Unit {0}) A → MatchBool spent (Unit {0}) B
still_all true A B f h = tt
still_all false A B f h = f h

pub spent_all : (spent : Bool) (A : Type 0) → spent ≡ true → MatchBool spent (Unit {0}) A
spent_all true A is = tt
spent_all false A is = absurd cc

-- the inodes may change
pub linked_all : (live : BTreeMap ℕ Graph) (m n : Mount) → n.frames ≡ m.frames → n.parked.keys ≡ m.parked.keys → AllLive live m → AllLive live n
linked_all live m n frames parked all = record {
  all = all.all;
  are = record {
    number = all.are.number;
    each = λ q g is. let was = all.are.each q g is in record {
      works = subst (λ (s : Stack Local). IsAtWork all.all g.nodes.items g.wiring (lent g.board s) n.parked.keys) (sym frames) (subst (λ (p : List ℕ). IsAtWork all.all g.nodes.items g.wiring (lent g.board m.frames) p) (sym parked) was.works);
      top = was.top;
      rest = was.rest;
    };
    others = λ q is. let was = all.are.others q is in record {
      sound = subst (λ (s : Stack Local). Sound all.all (lent (empty_board q) s)) (sym frames) was.sound;
      held = λ key. ap (times key) parked ∙ was.held key ∙ ap (λ (s : Stack Local). one (waits_in all.all (frame_at s key))) (sym frames);
    };
  };
}

pub absent_by : (o : Option Graph) → is_some o ≡ false → o ≡ None
absent_by None h = refl
absent_by (Some g) h = absurd cc

-- a graph without frames, as it was looked up
pub dropped_by : (live live_new : BTreeMap ℕ Graph) (n : ℕ) (mount : Mount) → IsSomeAnd (get nat_cmp live n) (λ g. g.board.frames ≡ 0)
    → ((q : ℕ) → get nat_cmp live_new q ≡ cond (is_at (nat_cmp n) q) None (get nat_cmp live q)) → AllLive live mount → AllLive live_new mount
dropped_by live live_new n mount drained gone all = by (get nat_cmp live n) refl drained where
  by : (o : Option Graph) → get nat_cmp live n ≡ o → IsSomeAnd o (λ g. g.board.frames ≡ 0) → AllLive live_new mount
  by None is d = absurd d
  by (Some g) is d = dropped_all live live_new n g mount all is d gone

-- ---- the numbers that there are

some_put : (b : Bool) (v : Graph) (o : Option Graph) → is_some (cond b (Some v) o) ≡ (b || is_some o)
some_put true v o = refl
some_put false v o = refl

some_gone : (b : Bool) (o : Option Graph) → is_some (cond b None o) ≡ (not b && is_some o)
some_gone true o = refl
some_gone false o = refl

pub put_numbers : (live live_new : BTreeMap ℕ Graph) (n : ℕ) (v : Graph) → ((q : ℕ) → get nat_cmp live_new q ≡ cond (is_at (nat_cmp n) q) (Some v) (get nat_cmp live q)) → (q : ℕ) → is_some (get nat_cmp live_new q) ≡ (is_at (nat_cmp n) q || is_some (get nat_cmp live q))
put_numbers live live_new n v put q = ap is_some (put q) ∙ some_put (is_at (nat_cmp n) q) v (get nat_cmp live q)

-- a number at which a graph is
pub same_numbers : (live : BTreeMap ℕ Graph) (n : ℕ) → is_some (get nat_cmp live n) ≡ true → (q : ℕ) → is_some (get nat_cmp live q) ≡ (is_at (nat_cmp n) q || is_some (get nat_cmp live q))
same_numbers live n there q = by (is_at (nat_cmp n) q) refl where
  by : (b : Bool) → is_at (nat_cmp n) q ≡ b → is_some (get nat_cmp live q) ≡ (b || is_some (get nat_cmp live q))
  by true at = subst (λ (k : ℕ). is_some (get nat_cmp live k) ≡ true) (is_same n q at) there
  by false off = refl

pub gone_numbers : (live live_new : BTreeMap ℕ Graph) (n : ℕ) → ((q : ℕ) → get nat_cmp live_new q ≡ cond (is_at (nat_cmp n) q) None (get nat_cmp live q)) → (q : ℕ) → is_some (get nat_cmp live_new q) ≡ (not (is_at (nat_cmp n) q) && is_some (get nat_cmp live q))
gone_numbers live live_new n gone q = ap is_some (gone q) ∙ some_gone (is_at (nat_cmp n) q) (get nat_cmp live q)

-- by the list of the numbers
has_key : (test : ℕ → Bool) (es : List (ℕ × Graph)) → is_some (lookup test es) ≡ list_any test (keys_of es)
has_key test [] = refl
has_key test (e ∷ es) = by (test e.0) (has_key test es) where
  by : (b : Bool) → is_some (lookup test es) ≡ list_any test (keys_of es) → is_some (cond b (Some e.1) (lookup test es)) ≡ (b || list_any test (keys_of es))
  by true h = refl
  by false h = h

pub has_is : (live : BTreeMap ℕ Graph) (n : ℕ) → is_some (get nat_cmp live n) ≡ has (keys live) n
has_is live n = has_key (is_at (nat_cmp n)) live.entries

pub has_put : (live live_new : BTreeMap ℕ Graph) (n : ℕ) → ((q : ℕ) → is_some (get nat_cmp live_new q) ≡ (is_at (nat_cmp n) q || is_some (get nat_cmp live q))) → (q : ℕ) → has (keys live_new) q ≡ (is_at (nat_cmp n) q || has (keys live) q)
has_put live live_new n put q = sym (has_is live_new q) ∙ put q ∙ ap (λ (b : Bool). is_at (nat_cmp n) q || b) (has_is live q)

pub has_gone : (live live_new : BTreeMap ℕ Graph) (n : ℕ) (done : Bool) → ((q : ℕ) → is_some (get nat_cmp live_new q) ≡ (not (done && is_at (nat_cmp n) q) && is_some (get nat_cmp live q))) → (q : ℕ) → has (keys live_new) q ≡ (not (done && is_at (nat_cmp n) q) && has (keys live) q)
has_gone live live_new n done gone q = sym (has_is live_new q) ∙ gone q ∙ ap (λ (b : Bool). not (done && is_at (nat_cmp n) q) && b) (has_is live q)

-- no graph that was found has a number that is not there
pub not_there : (A : Type 0) (live : BTreeMap ℕ Graph) (n : ℕ) (g : Graph) (numbers : List ℕ) → keys live ≡ numbers → get nat_cmp live n ≡ Some g → has numbers n ≡ false → A
not_there A live n g numbers are found off =
    let there : has numbers n ≡ true = sym (ap (λ (ns : List ℕ). has ns n) are) ∙ sym (has_is live n) ∙ ap is_some found in absurd cc

-- a graph that was found is there
pub not_absent : (A : Type 0) (g : Graph) (o : Option Graph) → Some g ≡ o → is_some o ≡ false → A
not_absent A g o found off = let there : is_some o ≡ true = sym (ap is_some found) in absurd cc
