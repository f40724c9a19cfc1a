-- What calls give: parts of a call one after another, lists that are taken item by item, and the choices of a call by its
-- words.
use Rattle.std.proofs.Common.{◌≡◌, refl, sym, ap, subst, ◌∙◌, arith}
use Rattle.std.proofs.lemmas.Bool.{eq-eqb, ne_eqb, lt-ltb, le-ltb}
use Rattle.std.proofs.lemmas.List.{append_assoc, append-nil}
use Rattle.std.proofs.lemmas.Option.{slice_get_past}
use Rattle.std.specs.Prelude.{ℕ, ◌<◌, ◌≤◌, ◌+◌, ◌-◌, ◌==◌, ◌&&◌, ◌↔◌, nat_lt, Bool, true, false, List, [], ◌∷◌, ◌++◌, map, length, Option, None, Some, Result, Ok, Err, IfOk, OnOk, IfSome, IsSomeAnd, IsTrue, IsErrOf, MatchOption, if◌then◌else◌, slice_get, slice_set}
use Rattle.std.specs.BTreeMap.{BTreeMap, get, is_at}
use Rattle.std.specs.List.{flat_map}
use Rattle.std.specs.Ordering.{nat_cmp}
use Rattle.std.specs.Result.{result_and}
use Rattle.std.specs.Set.{remove_key}
use Rattle.afr_ledger.specs.Ledger.{State}
use Rattle.client_xlator.specs.Client.{ClientState}
use Rattle.fop_types.specs.declared.cells.Cell.{Cell}
use Rattle.fop_types.specs.declared.messages.BrickRep.{BrickRep}
use Rattle.frame_driver.specs.Bailing.{IsBailed}
use Rattle.frame_driver.specs.Machine.{IsRun, IsCutShort}
use Rattle.frame_driver.specs.Tasks.{IsOpenerOurs}
use Rattle.frame_driver.specs.declared.board.Board.{Board}
use Rattle.frame_driver.specs.declared.items.Bailed.{Bailed}
use Rattle.frame_driver.specs.declared.items.Sent.{Sent}
use Rattle.frame_driver.specs.declared.wiring.Wiring.{Wiring}
use Rattle.frame_stack.specs.declared.frame.Frame.{Frame}
use Rattle.frame_stack.specs.declared.frame.Opener.{Opener}
use Rattle.graph_items.specs.Clients.{last_at, ended_at}
use Rattle.graph_items.specs.declared.items.Down.{Down}
use Rattle.graph_items.specs.declared.items.Up.{Up}
use Rattle.io_threads.specs.Lanes.{first_of, in_turn}
use Rattle.xlator_law.specs.Law.{Promise}
use Rattle.xlator_law.specs.Numbers.{open_before}
use Rattle.xlator_law.specs.declared.winds.Settled.{Settled}
use Rattle.xlator_law.specs.declared.winds.Stop.TheVariants.{Mem, Winds}
use Rattle.xlator_law.specs.declared.winds.WindNo.{WindNo}
use Rattle.graph_nodes.specs.declared.context.Context.{Context}
use Rattle.graph_nodes.specs.declared.graph.Graph.{Graph}
use Rattle.graph_nodes.specs.declared.kinds.IoThreads.{IoThreads}
use Rattle.graph_nodes.specs.declared.kinds.Kind.TheVariants as kind
use Rattle.graph_nodes.specs.declared.kinds.Node.{Node}
use Rattle.graph_nodes.specs.declared.locals.Local.{Local}
use Rattle.graph_nodes.specs.declared.moved.Mount.{Mount}
use Rattle.graph_nodes.specs.declared.moved.Moved.{Moved}
use Rattle.graph_nodes.specs.declared.opening.Asked.{Asked}
use Rattle.graph_nodes.specs.declared.outer.Waiting.{Waiting}
use Rattle.graph_nodes.specs.Calls.{Running, running, Gives, EndsEarly, CallGives, CallEndsEarly, Here, Wakes, RunsTask, TakesTurn, moved_of, taken_from, sends_in, gone_in, gone_of, is_home, is_ours, is_opener_ours, turn_by, turn_in, turn_at, TurnIs, after_turn, rested, woken, asked_by, is_done, noted_of, brick_of, IsTaken, IsTakenBy, TakesOutput, EndsAt}
use Rattle.graph_nodes.specs.Live.{lent, shown, borrowing, lending, exchanged}
use Rattle.graph_nodes.specs.Nodes.{node_makes}
use Rattle.graph_nodes.specs.OpenWinds.{winds_at}
use Rattle.graph_nodes.specs.Promises.{node_promise}

-- ---- lists

pub none_more : {A : Type 0} (xs : List A) → xs ≡ xs ++ []
none_more xs = sym (append-nil xs)

module _ {A B : Type 0} (f : A → List B) where
  -- an item is taken from the front of a list, and what it gives goes behind what was given
  pub flat_next : (from rest : List A) (x : A) (out more all : List B) → from ≡ x ∷ rest → more ≡ out ++ f x → out ++ flat_map f from ≡ all → more ++ flat_map f rest ≡ all
  flat_next from rest x out more all taken put is =
      ap (λ (o : List B). o ++ flat_map f rest) put ∙ append_assoc out (f x) (flat_map f rest) ∙ ap (λ (q : List A). out ++ flat_map f q) (sym taken) ∙ is

  pub flat_last : (from : List A) (out all : List B) → from ≡ [] → out ++ flat_map f from ≡ all → out ≡ all
  flat_last from out all none is = sym (append-nil out) ∙ ap (λ (q : List A). out ++ flat_map f q) (sym none) ∙ is

module _ {A B : Type 0} (f : A → B) where
  pub map_next : (from rest : List A) (x : A) (out more all : List B) → from ≡ x ∷ rest → more ≡ out ++ f x ∷ [] → out ++ map f from ≡ all → more ++ map f rest ≡ all
  map_next from rest x out more all taken put is =
      ap (λ (o : List B). o ++ map f rest) put ∙ append_assoc out (f x ∷ []) (map f rest) ∙ ap (λ (q : List A). out ++ map f q) (sym taken) ∙ is

  pub map_last : (from : List A) (out all : List B) → from ≡ [] → out ++ map f from ≡ all → out ≡ all
  map_last from out all none is = sym (append-nil out) ∙ ap (λ (q : List A). out ++ map f q) (sym none) ∙ is

module _ {A : Type 0} where
  pub item_next : (from rest : List A) (x : A) (out more all : List A) → from ≡ x ∷ rest → more ≡ out ++ x ∷ [] → out ++ from ≡ all → more ++ rest ≡ all
  item_next from rest x out more all taken put is =
      ap (λ (o : List A). o ++ rest) put ∙ append_assoc out (x ∷ []) rest ∙ ap (λ (q : List A). out ++ q) (sym taken) ∙ is

  pub item_last : (from out all : List A) → from ≡ [] → out ++ from ≡ all → out ≡ all
  item_last from out all none is = sym (append-nil out) ∙ ap (λ (q : List A). out ++ q) (sym none) ∙ is

-- the messages of winds, while the clients stay
module _ (nodes : List Node) (first : List ClientState) where
  pub sends_next : (cs cs_new : List ClientState) (from rest : List (Sent Down)) (s : Sent Down) (out more all : List (ℕ × List ℕ)) → from ≡ s ∷ rest → more ≡ out ++ sends_in nodes cs s → cs_new ≡ cs
      → (cs ≡ first) × (out ++ flat_map (sends_in nodes first) from ≡ all) → (cs_new ≡ first) × (more ++ flat_map (sends_in nodes first) rest ≡ all)
  sends_next cs cs_new from rest s out more all taken put same inv =
      (same ∙ inv.0, flat_next (sends_in nodes first) from rest s out more all taken (put ∙ ap (λ (c : List ClientState). out ++ sends_in nodes c s) inv.0) inv.1)

  pub sends_last : (cs : List ClientState) (from : List (Sent Down)) (out all : List (ℕ × List ℕ)) → from ≡ [] → (cs ≡ first) × (out ++ flat_map (sends_in nodes first) from ≡ all) → out ≡ all
  sends_last cs from out all none inv = flat_last (sends_in nodes first) from out all none inv.1

-- winds that are gone
module _ (b : Board Down Up Local) (mark : ℕ) where
  pub gone_next : (from rest : List Waiting) (w : Waiting) (out more all : List (Bailed Up)) → from ≡ w ∷ rest → more ≡ out ++ gone_in (is_ours b w.wind) w.wind mark → out ++ gone_of b mark from ≡ all → more ++ gone_of b mark rest ≡ all
  gone_next from rest w out more all taken put is = flat_next (λ (x : Waiting). gone_in (is_ours b x.wind) x.wind mark) from rest w out more all taken put is

  pub gone_last : (from : List Waiting) (out all : List (Bailed Up)) → from ≡ [] → out ++ gone_of b mark from ≡ all → out ≡ all
  gone_last from out all none is = flat_last (λ (x : Waiting). gone_in (is_ours b x.wind) x.wind mark) from out all none is

-- ---- results that are handed on

pub gives_and : {T U E : Type 0} (r : Result T E) (x : U) (P : U → Type 0) → OnOk r (P x) → IfOk (result_and r (Ok x)) P
gives_and (Ok y) x P h = h
gives_and (Err e) x P h = tt

pub if_ok_weaker : {T E : Type 0} (P Q : T → Type 0) (r : Result T E) → ((x : T) → P x → Q x) → IfOk r P → IfOk r Q
if_ok_weaker P Q (Ok x) f h = f x h
if_ok_weaker P Q (Err e) f h = tt

pub with_some : {A : Type 0} (P : Type 0) (o : Option A) → P → IfSome o (λ _. P)
with_some P None p = tt
with_some P (Some x) p = p

-- out of memory is not that no wind was left
pub not_winds : {T : Type 0} (A : Type 0) → IsErrOf {T = T} (Err Mem) Winds → A
not_winds A is = absurd cc

-- ---- parts of a call, one after another

module _ (g mid : Graph) (starts starts_mid : Running → Type 0) (promises : map node_promise mid.nodes.items ≡ map node_promise g.nodes.items) (wiring : mid.wiring ≡ g.wiring) (from : (r : Running) → starts_mid r → starts r) where
  pub gives_from : (moved : Moved) (after after_too : Running) → after ≡ after_too → Gives starts_mid mid moved after → Gives starts g moved after_too
  gives_from moved after after_too same gives = record {
    start = gives.start;
    started = from gives.start gives.started;
    end = gives.end;
    ran = subst (λ (w : Wiring). IsRun node_makes (map node_promise g.nodes.items) w gives.start gives.end) wiring (subst (λ (ps : List (Promise Down Local)). IsRun node_makes ps mid.wiring gives.start gives.end) promises gives.ran);
    done = gives.done;
    moved_is = gives.moved_is;
    after_is = sym same ∙ gives.after_is;
  }

  pub early_from : (after after_too : Running) → after ≡ after_too → EndsEarly starts_mid mid after → EndsEarly starts g after_too
  early_from after after_too same early = record {
    start = early.start;
    started = from early.start early.started;
    cut = subst (λ (r : Running). IsCutShort node_makes (map node_promise g.nodes.items) g.wiring early.start r) same (subst (λ (w : Wiring). IsCutShort node_makes (map node_promise g.nodes.items) w early.start after) wiring (subst (λ (ps : List (Promise Down Local)). IsCutShort node_makes ps mid.wiring early.start after) promises early.cut));
  }

-- the parts that run to their end
module _ (g mid : Graph) (starts : Running → Type 0) (promises : map node_promise mid.nodes.items ≡ map node_promise g.nodes.items) (wiring : mid.wiring ≡ g.wiring) (begun : starts (running mid)) (after : Running) where
  starts_there : (r : Running) → Here mid r → starts r
  starts_there r is = subst starts (sym is) begun

  pub gives_then : (moved : Moved) → Gives (Here mid) mid moved after → Gives starts g moved after
  gives_then moved gives = gives_from g mid starts (Here mid) promises wiring starts_there moved after after refl gives

  pub early_then : EndsEarly (Here mid) mid after → EndsEarly starts g after
  early_then early = early_from g mid starts (Here mid) promises wiring starts_there after after refl early

-- `mid` has the stack, `after` is what a part of the call makes of it, and both give back
module _ (g mid after back : Graph) (mount lend_mount after_mount back_mount : Mount) (to : mid ≡ borrowing g mount) (to_back : back ≡ exchanged after after_mount) (from_back : back_mount ≡ lending after after_mount) where
  ended : running after ≡ running (exchanged back back_mount)
  ended = ap (λ (b : Graph). running (exchanged b (lending after after_mount))) (sym to_back) ∙ ap (λ (m : Mount). running (exchanged back m)) (sym from_back)

  pub called_gives : (starts : Graph → Running → Type 0) (moved : Moved) → Gives (starts mid) mid moved (running after) → CallGives starts g mount moved back back_mount
  called_gives starts moved gives = gives_from g mid (starts (borrowing g mount)) (starts mid)
      (ap (λ (x : Graph). map node_promise x.nodes.items) to) (ap (λ (x : Graph). x.wiring) to) (λ r is. subst (λ (x : Graph). starts x r) to is) moved (running after) (running (exchanged back back_mount)) ended gives

  pub called_early : (starts : Graph → Running → Type 0) → EndsEarly (starts mid) mid (running after) → CallEndsEarly starts g mount back back_mount
  called_early starts early = early_from g mid (starts (borrowing g mount)) (starts mid)
      (ap (λ (x : Graph). map node_promise x.nodes.items) to) (ap (λ (x : Graph). x.wiring) to) (λ r is. subst (λ (x : Graph). starts x r) to is) (running after) (running (exchanged back back_mount)) ended early

-- ---- a run, and what came out of it

abbrev as_running : List Node → Context → Board Down Up Local → Running
as_running nodes cx b = record { nodes = nodes; cx = cx; board = b }

pub run_gives : (g : Graph) (nodes looked : List Node) (cx cx_new : Context) (b b_new : Board Down Up Local) (moved : Moved) → IsRun node_makes (map node_promise g.nodes.items) g.wiring (running g) (as_running nodes cx b) → b.queue ≡ []
    → looked ≡ nodes → moved ≡ moved_of (as_running looked cx b) → cx_new ≡ taken_from cx → b_new ≡ shown b → Gives (Here g) g moved (as_running nodes cx_new b_new)
run_gives g nodes looked cx cx_new b b_new moved ran done at moved_is cx_is board_is = record {
  start = running g;
  started = refl;
  end = as_running nodes cx b;
  ran = ran;
  done = done;
  moved_is = moved_is ∙ ap (λ (ns : List Node). moved_of (as_running ns cx b)) at;
  after_is = ap (λ (x : Context). as_running nodes x b_new) cx_is ∙ ap (λ (x : Board Down Up Local). as_running nodes (taken_from cx) x) board_is;
}

pub run_early : (g : Graph) (end : Running) → IsCutShort node_makes (map node_promise g.nodes.items) g.wiring (running g) end → EndsEarly (Here g) g end
run_early g end cut = record { start = running g; started = refl; cut = cut }

-- ---- frames that go on

pub home_is : (graph : ℕ) (o : Option (Frame Local)) (b : Bool) → (IsTrue b ↔ IsSomeAnd o (λ f. f.place.graph ≡ graph)) → b ≡ is_home graph o
home_is graph None true both = absurd (both.0 refl)
home_is graph None false both = refl
home_is graph (Some f) true both = sym (eq-eqb f.place.graph graph (both.0 refl))
home_is graph (Some f) false both = sym (ne_eqb f.place.graph graph (λ e. let t : false ≡ true = both.1 e in absurd cc))

pub ours_is : (graph : ℕ) (o : Option Opener) (b : Bool) → (IsTrue b ↔ IsOpenerOurs graph o) → b ≡ is_opener_ours graph o
ours_is graph None true both = refl
ours_is graph None false both = both.1 tt
ours_is graph (Some o) true both = sym (eq-eqb o.graph graph (both.0 refl))
ours_is graph (Some o) false both = sym (ne_eqb o.graph graph (λ e. let t : false ≡ true = both.1 e in absurd cc))

-- the turn of a frame in an io-threads node
pub turn_taken : (n : Node) (q after : IoThreads) (cx cx_new : Context) (result : Option ℕ) → n.kind ≡ kind.IoThreads q → result ≡ first_of (in_turn q.queues)
    → IfSome result (λ _. after ≡ after_turn q) → IfSome result (λ _. cx_new ≡ rested (after_turn q) cx) → MatchOption result (turn_by n.kind ≡ None) (λ key. TurnIs n cx key (record n { kind = kind.IoThreads after }) cx_new)
turn_taken n q after cx cx_new None is first node cx_is = ap turn_by is ∙ sym first
turn_taken n q after cx cx_new (Some key) is first node cx_is = record {
  queue = q;
  kind_is = is;
  first = sym first;
  node = ap (λ (r : IoThreads). record n { kind = kind.IoThreads r }) node;
  cx_is = cx_is;
}

-- the same of the node at a place
pub turn_there : (nodes : List Node) (task : ℕ) (before after : Node) (cx cx_new : Context) (result : Option ℕ) → slice_get nodes task ≡ Some before
    → MatchOption result (turn_by before.kind ≡ None) (λ key. TurnIs before cx key after cx_new) → MatchOption result (turn_at nodes task ≡ None) (λ key. TakesTurn task nodes cx key (slice_set nodes task after) cx_new)
turn_there nodes task before after cx cx_new None there turn = ap turn_in there ∙ turn
turn_there nodes task before after cx cx_new (Some key) there turn = record { before = before; after = after; there = there; turn = turn; nodes_are = refl }

pub no_turn : (nodes : List Node) (task : ℕ) → length nodes ≤ task → turn_at nodes task ≡ None
no_turn nodes task past = ap turn_in (slice_get_past nodes task past)

-- a task of a graph is run: its node takes the turn, and the frame is woken in the graph that has the stack
rested_borrows : (b : Bool) (cx : Context) (keys : List ℕ) (ledger : State Cell) (sets : ℕ) → (record (if b then record cx { ready = record { keys = keys } } else cx) { ledger = ledger; root_sets = sets }) ≡ (if b then record (record cx { ledger = ledger; root_sets = sets }) { ready = record { keys = keys } } else record cx { ledger = ledger; root_sets = sets })
rested_borrows true cx keys ledger sets = refl
rested_borrows false cx keys ledger sets = refl

module _ (g turned : Graph) (mount : Mount) (task key : ℕ) (turn : TakesTurn task g.nodes.items g.cx key turned.nodes.items turned.cx) (board : turned.board ≡ g.board) where
  pub runs_task : (r : Running) → Wakes mount.parked.keys (Some key) (borrowing turned mount) r → RunsTask task mount.parked.keys (borrowing g mount) r
  runs_task r is = record {
    key = key;
    turn = record {
      before = turn.before;
      after = turn.after;
      there = turn.there;
      turn = record {
        queue = turn.turn.queue;
        kind_is = turn.turn.kind_is;
        first = turn.turn.first;
        node = turn.turn.node;
        cx_is = ap (λ (x : Running). x.cx) is ∙ ap (λ (x : Context). record x { ledger = mount.ledger; root_sets = mount.root_sets }) turn.turn.cx_is
            ∙ rested_borrows ((after_turn turn.turn.queue).waiting == 0) g.cx (remove_key (is_at (nat_cmp turn.turn.queue.number)) g.cx.ready.keys) mount.ledger mount.root_sets;
      };
      nodes_are = ap (λ (x : Running). x.nodes) is ∙ turn.nodes_are;
    };
    woken_is = ap (λ (x : Running). x.board) is ∙ ap (λ (b : Board Down Up Local). woken mount.parked.keys (Some key) (lent b mount.frames)) board;
  }

-- ---- winds of outputs

abbrev asked_as : Bool → WindNo → Asked
asked_as before w = record { wind = w; before = before }

abbrev with_slot : WindNo → ℕ → WindNo
with_slot w slot = record w { slot = slot }

pub asked_before : (w v : WindNo) → w ≡ open_before v → asked_as true v ≡ asked_by w
asked_before w v is =
    let high : nat_lt (v.slot + 2147483648) 2147483648 ≡ false = le-ltb (v.slot + 2147483648) 2147483648 (omega arith) in
    let back : v.slot + 2147483648 - 2147483648 ≡ v.slot = omega arith in
    let choice : asked_by (open_before v) ≡ asked_as true (with_slot v (v.slot + 2147483648 - 2147483648)) = ap (λ (b : Bool). if b then asked_as false (open_before v) else asked_as true (with_slot v (v.slot + 2147483648 - 2147483648))) high in
    let slot : asked_as true (with_slot v (v.slot + 2147483648 - 2147483648)) ≡ asked_as true v = ap (λ (n : ℕ). asked_as true (with_slot v n)) back in
    sym (ap asked_by is ∙ choice ∙ slot)

pub asked_itself : (w : WindNo) → w.slot < 2147483648 → asked_as false w ≡ asked_by w
asked_itself w low =
    let here : nat_lt w.slot 2147483648 ≡ true = lt-ltb w.slot 2147483648 low in
    sym (ap (λ (b : Bool). if b then asked_as false w else asked_as true (with_slot w (w.slot - 2147483648))) here)

-- ---- a hold that was granted, and a task

module _ (g : Graph) (waits : BTreeMap ℕ ℕ) (mount : Mount) (new : Graph) (mount_new : Mount) (call : ℕ) (frame : Option ℕ) (waited : frame ≡ get nat_cmp g.waits call) where
  woken_for : (r : Running) → Wakes mount.parked.keys frame (borrowing (record g { waits = waits }) mount) r → Wakes mount.parked.keys (get nat_cmp g.waits call) (borrowing g mount) r
  woken_for r is = is ∙ ap (λ (f : Option ℕ). as_running g.nodes.items (borrowing g mount).cx (woken mount.parked.keys f (borrowing g mount).board)) waited

  pub held_gives : (moved : Moved) → CallGives (Wakes mount.parked.keys frame) (record g { waits = waits }) mount moved new mount_new → CallGives (Wakes mount.parked.keys (get nat_cmp g.waits call)) g mount moved new mount_new
  held_gives moved gives = gives_from g (record g { waits = waits }) (Wakes mount.parked.keys (get nat_cmp g.waits call) (borrowing g mount)) (Wakes mount.parked.keys frame (borrowing (record g { waits = waits }) mount)) refl refl woken_for moved (running (exchanged new mount_new)) (running (exchanged new mount_new)) refl gives

  pub held_early : CallEndsEarly (Wakes mount.parked.keys frame) (record g { waits = waits }) mount new mount_new → CallEndsEarly (Wakes mount.parked.keys (get nat_cmp g.waits call)) g mount new mount_new
  held_early early = early_from g (record g { waits = waits }) (Wakes mount.parked.keys (get nat_cmp g.waits call) (borrowing g mount)) (Wakes mount.parked.keys frame (borrowing (record g { waits = waits }) mount)) refl refl woken_for (running (exchanged new mount_new)) (running (exchanged new mount_new)) refl early

module _ (g turned : Graph) (mount : Mount) (new : Graph) (mount_new : Mount) (task key : ℕ) (board : turned.board ≡ g.board) (wiring : turned.wiring ≡ g.wiring) (promises : map node_promise turned.nodes.items ≡ map node_promise g.nodes.items) (turn : TakesTurn task g.nodes.items g.cx key turned.nodes.items turned.cx) where
  pub task_gives : (moved : Moved) → CallGives (Wakes mount.parked.keys (Some key)) turned mount moved new mount_new → CallGives (RunsTask task mount.parked.keys) g mount moved new mount_new
  task_gives moved gives = gives_from g turned (RunsTask task mount.parked.keys (borrowing g mount)) (Wakes mount.parked.keys (Some key) (borrowing turned mount)) promises wiring (runs_task g turned mount task key turn board) moved (running (exchanged new mount_new)) (running (exchanged new mount_new)) refl gives

  pub task_early : CallEndsEarly (Wakes mount.parked.keys (Some key)) turned mount new mount_new → CallEndsEarly (RunsTask task mount.parked.keys) g mount new mount_new
  task_early early = early_from g turned (RunsTask task mount.parked.keys (borrowing g mount)) (Wakes mount.parked.keys (Some key) (borrowing turned mount)) promises wiring (runs_task g turned mount task key turn board) (running (exchanged new mount_new)) (running (exchanged new mount_new)) refl early

-- ---- an output, and the end of a connection

module _ (b : Bool) (brick : Option ℕ) (w : WindNo) (r : BrickRep) (taken : ℕ) (cs : List ClientState) (old : Board Down Up Local) where
  pub taken_early : b ≡ true → IsTakenBy b brick w r taken cs old None old
  taken_early is = subst (λ (x : Bool). IsTakenBy x brick w r taken cs old None old) (sym is) (refl, refl)

  pub taken_late : (settled : Settled) (new : Board Down Up Local) → b ≡ false → IsTaken brick w r taken cs old settled new → IsTakenBy b brick w r taken cs old (Some settled) new
  taken_late settled new is it = subst (λ (x : Bool). IsTakenBy x brick w r taken cs old (Some settled) new) (sym is) it

module _ (g new : Graph) (clients : List ClientState) (w : WindNo) (r : BrickRep) (taken : ℕ) (asked : Asked) (brick : Option ℕ) (done : Bool) (asked_is : asked ≡ asked_by w) (brick_is : brick ≡ brick_of g asked.wind) (done_is : done ≡ is_done r)
    (noted : clients ≡ noted_of done g.cx.clients g.outer.items brick asked) (nodes : new.nodes.items ≡ g.nodes.items) (cx : new.cx ≡ record g.cx { clients = clients }) where
  clients_are : clients ≡ noted_of (is_done r) g.cx.clients g.outer.items (brick_of g (asked_by w).wind) (asked_by w)
  clients_are = noted ∙ ap (λ (d : Bool). noted_of d g.cx.clients g.outer.items brick asked) done_is ∙ ap (λ (b : Option ℕ). noted_of (is_done r) g.cx.clients g.outer.items b asked) brick_is
      ∙ ap (λ (a : Asked). noted_of (is_done r) g.cx.clients g.outer.items (brick_of g a.wind) a) asked_is

  pub output_taken : (settled : Option Settled) → IsTakenBy (asked.before && is_done r) brick asked.wind r taken clients g.board settled new.board → TakesOutput w r taken settled g (running new)
  output_taken settled it = record {
    nodes = nodes;
    noted = cx ∙ ap (λ (cs : List ClientState). record g.cx { clients = cs }) clients_are;
    ended = subst (λ (x : Context). IsTakenBy ((asked_by w).before && is_done r) (brick_of g (asked_by w).wind) (asked_by w).wind r taken x.clients g.board settled new.board) (sym cx)
        (subst (λ (a : Asked). IsTakenBy (a.before && is_done r) (brick_of g a.wind) a.wind r taken clients g.board settled new.board) asked_is
        (subst (λ (b : Option ℕ). IsTakenBy (asked.before && is_done r) b asked.wind r taken clients g.board settled new.board) brick_is it));
  }

pub ends_at : (g : Graph) (new : Board Down Up Local) (brick won mark : ℕ) (clients : List ClientState) (waiting : List Waiting) (winds : List (Bailed Up)) → clients ≡ ended_at g.cx.clients brick → mark ≡ last_at clients brick → waiting ≡ winds_at g.outer.items brick
    → winds ≡ gone_of g.board mark waiting → IsBailed winds g.board new won → EndsAt brick won g (record { nodes = g.nodes.items; cx = record g.cx { clients = clients }; board = new })
ends_at g new brick won mark clients waiting winds clients_are mark_is waiting_are winds_are bailed = record {
  nodes = refl;
  cx_is = ap (λ (cs : List ClientState). record g.cx { clients = cs }) clients_are;
  ended = subst (λ (cs : List ClientState). IsBailed (gone_of g.board (last_at cs brick) (winds_at g.outer.items brick)) g.board new won) clients_are
      (subst (λ (ws : List Waiting). IsBailed (gone_of g.board (last_at clients brick) ws) g.board new won) waiting_are
      (subst (λ (m : ℕ). IsBailed (gone_of g.board m waiting) g.board new won) mark_is
      (subst (λ (bs : List (Bailed Up)). IsBailed bs g.board new won) winds_are bailed)));
}
