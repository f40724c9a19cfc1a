-- What is due in an event, by what is known before it, is what is due by the log.
use Rattle.std.proofs.Common.{◌≡◌, refl, sym, ap, subst, ◌∙◌, arith, inl, inr}
use Rattle.std.specs.Prelude.{ℕ, suc, ◌+◌, ◌-◌, ◌^◌, ◌<◌, ◌≤◌, ◌==◌, nat_lt, ◌&&◌, ◌||◌, ◌⊎◌, not, Bool, true, false, List, [], ◌∷◌, Some, slice_get}
use Rattle.std.specs.List.{list_any, AllByRecursion}
use Rattle.std.specs.Cmp.Derive.{both_true}
use Rattle.std.proofs.lemmas.Bool.{eqb-true, eq-eqb, ltb-true, ltb-false, or_right}
use Rattle.fop_types.specs.declared.messages.Input.{Input}
use Rattle.fop_types.specs.declared.messages.Input.TheVariants as input
use Rattle.graph_build.specs.declared.plans.Plan.{Plan}
use Rattle.script_lang.specs.declared.scripts.Action.TheVariants as action
use Rattle.script_lang.specs.declared.scripts.Script.{Script}
use Rattle.wire_xdr.specs.Xdr.{IsUnit}
use Rattle.wire_messages.specs.Messages.{input_in, MessagesReadBack}
use Rattle.wire_messages.specs.declared.messages.Message.{Message}
use Rattle.wire_messages.specs.declared.messages.Message.TheVariants.{Whole, Wrong}
use Rattle.mount_log.specs.Causes.{plan_of_volfile}
use Rattle.mount_log.specs.Connections.{was_sent, is_open_after}
use Rattle.mount_log.specs.Connects.{times_sent, plan_uses, uses_brick, newest_graph, is_live, opens_by, is_closed_after, is_switch, is_made_at, is_opened_for, is_connect_due, IsDisconnected, ByCut, ByGone, AtEnd}
use Rattle.mount_log.specs.Follows.{IsEvent}
use Rattle.mount_log.specs.declared.logs.HubEvent.{HubEvent}
use Rattle.mount_log.specs.declared.logs.HubEvent.TheVariants as logged
use Rattle.mount_log.specs.declared.logs.Log.{Log}
use Rattle.mount_log.specs.declared.logs.SentLine.{SentLine}
use Rattle.line_audit.specs.Linked.{what_of, items_of, in_event, has_connect, has_disconnect, count_connects, is_started, is_switched, opened_as, cut_as, newest_after, has_link, until_at, live_as, uses_as, started_as, made_as, opened_for_as, due_as, IsGoneAs, IsLostAs, CutAs, GoneAs, EndAs, IsDueAs, IsItemDue, all_cut, AreUnits, IsLinkedAs, IsEffectAt, IsKnown, AreGraphTables, AreGraphsFew, IsLineDue, IsLinked}
use Rattle.line_audit.specs.declared.due.GraphTables.{GraphTables}
use Rattle.line_audit.specs.declared.due.Moment.{Moment}
use Rattle.line_audit.specs.declared.effects.Effect.{Effect}
use Rattle.line_audit.specs.declared.effects.Effect.TheVariants as effect
use Rattle.line_audit.specs.declared.known.Known.{Known}
use Rattle.line_audit.specs.declared.lines_sent.Item.{Item}
use Rattle.line_audit.specs.declared.links.Link.{Link}
use Rattle.line_audit.proofs.Effecting.{opens_is, switch_is, none_starts, newest_next, cut_is, cuts_it, gone_is, gone_back}
use Rattle.line_audit.proofs.Linking.{connect_sent, connect_times, disconnect_sent, at_line, all_lines}
use Rattle.mount_log.proofs.Bools.{both}
use Rattle.mount_log.proofs.Items.{some_is}

and_same : (a a' b b' : Bool) → a ≡ a' → b ≡ b' → (a && b) ≡ (a' && b')
and_same a a' b b' p q = cc

or_same : (a a' b b' : Bool) → a ≡ a' → b ≡ b' → (a || b) ≡ (a' || b')
or_same a a' b b' p q = cc

or_parts_true : (a b : Bool) → (a || b) ≡ true → (a ≡ true) ⊎ (b ≡ true)
or_parts_true true b e = inl refl
or_parts_true false b e = inr e

not_true : (b : Bool) → not b ≡ true → b ≡ false
not_true true e = absurd cc
not_true false e = refl

-- ---- the numbers below the next one

pub below_next : (P : ℕ → Type 0) (n : ℕ) → P n → ((m : ℕ) → m < n → P m) → (m : ℕ) → m < n + 1 → P m
below_next P n own before m lt = by (nat_lt m n) refl where
  by : (b : Bool) → nat_lt m n ≡ b → P m
  by true e = before m (ltb-true m n e)
  by false e = let le = ltb-false m n e in let same : n ≡ m = omega (arith, lt, le) in subst (λ (i : ℕ). P i) same own

pub up_to_next : (P : ℕ → Type 0) (n : ℕ) → P (n + 1) → ((m : ℕ) → m ≤ n → P m) → (m : ℕ) → m ≤ n + 1 → P m
up_to_next P n own before m le = by (nat_lt n m) refl where
  by : (b : Bool) → nat_lt n m ≡ b → P m
  by false e = before m (ltb-false n m e)
  by true e = let lt = ltb-true n m e in let same : n + 1 ≡ m = omega (arith, lt, le) in subst (λ (i : ℕ). P i) same own

-- ---- each link is cut

pub cut_each : (graph brick : ℕ) (items : List Item) (ls : List Link) → all_cut brick items ls ≡ true → has_link graph brick ls ≡ true → has_disconnect graph brick items ≡ true
cut_each graph brick items [] all has = absurd cc
cut_each graph brick items (l ∷ ls) all has =
    by (or_parts_true ((l.graph == graph) && (l.brick == brick)) (has_link graph brick ls) has) (both (not (l.brick == brick) || has_disconnect l.graph brick items) (all_cut brick items ls) all) (cut_each graph brick items ls) where
      by : (((l.graph == graph) && (l.brick == brick)) ≡ true) ⊎ (has_link graph brick ls ≡ true) → ((not (l.brick == brick) || has_disconnect l.graph brick items) ≡ true) × (all_cut brick items ls ≡ true)
          → (all_cut brick items ls ≡ true → has_link graph brick ls ≡ true → has_disconnect graph brick items ≡ true) → has_disconnect graph brick items ≡ true
      by (inl own) parts behind =
          let p = both (l.graph == graph) (l.brick == brick) own in
          let cut : (not true || has_disconnect l.graph brick items) ≡ true = ap (λ (b : Bool). not b || has_disconnect l.graph brick items) (sym p.1) ∙ parts.0 in
          ap (λ (g : ℕ). has_disconnect g brick items) (sym (eqb-true l.graph graph p.0)) ∙ cut
      by (inr rest) parts behind = behind parts.1 rest

-- each link of a brick is cut, where each of its graphs disconnects
cut_all : (brick : ℕ) (items : List Item) (all ls : List Link) → ((g : ℕ) → IsUnit g → has_link g brick all ≡ true → has_disconnect g brick items ≡ true) → ((g : ℕ) → has_link g brick ls ≡ true → has_link g brick all ≡ true)
    → AreUnits ls → all_cut brick items ls ≡ true
cut_all brick items all [] each within units = refl
cut_all brick items all (l ∷ ls) each within units =
    both_true (own (l.brick == brick) refl) (cut_all brick items all ls each (λ g has. within g (or_right ((l.graph == g) && (l.brick == brick)) (has_link g brick ls) has)) units.1) where
      own : (b : Bool) → (l.brick == brick) ≡ b → (not b || has_disconnect l.graph brick items) ≡ true
      own false e = refl
      own true e = each l.graph units.0 (within l.graph (ap (λ (x : Bool). x || has_link l.graph brick ls) (both_true (eq-eqb l.graph l.graph refl) e)))

-- a further graph has a number, where graphs are few
pub few_behind : (log : Log) (k : ℕ) (known : Known) (f : Effect) → AreGraphsFew log → IsKnown log k known → IsEffectAt log k f → newest_after known.newest f < 2 ^ 32
few_behind log k known f few is_known at =
    let is : newest_after known.newest f ≡ newest_graph log (k + 1) = ap (λ (n : ℕ). newest_after n f) is_known.newest ∙ ap (newest_after (newest_graph log k)) at.is ∙ sym (newest_next log k at.event at.there) in
    let low = few (k + 1) in omega (arith, is, low)

-- ---- graphs

module _ (script : Script) (plans : List Plan) (log : Log) (tables : GraphTables) (are : AreGraphTables script log tables) where
  uses_is : (graph brick : ℕ) → uses_as plans tables graph brick ≡ uses_brick script plans log graph brick
  uses_is graph brick = ap (λ (l : List ℕ). plan_uses (plan_of_volfile plans (slice_get l (graph - 1))) brick) are.volfiles

  live_is : (newest graph n : ℕ) → newest ≡ newest_graph log n → live_as tables.until.items newest graph n ≡ is_live log graph n
  live_is newest graph n is =
      ap (λ (m : ℕ). (graph == m) || (nat_lt 0 graph && (nat_lt graph m && nat_lt n (until_at tables.until.items graph)))) is
      ∙ ap (λ (b : Bool). (graph == newest_graph log n) || (nat_lt 0 graph && (nat_lt graph (newest_graph log n) && b))) (are.until graph n)

  -- ---- an event

  module _ (back : MessagesReadBack) (k : ℕ) (known : Known) (now : Moment) (items : List Item) (is_known : IsKnown log k known) (at : IsEffectAt log k now.effect) (number : now.number ≡ k + 1)
      (newest : now.newest ≡ newest_after known.newest now.effect) (items_are : items ≡ in_event (k + 1) (items_of log.sent)) where
    one : suc k ≡ k + 1
    one = omega arith

    less : k + 1 - 1 ≡ k
    less = omega arith

    newest_is : now.newest ≡ newest_graph log (suc k)
    newest_is = newest ∙ ap (λ (n : ℕ). newest_after n now.effect) is_known.newest ∙ ap (newest_after (newest_graph log k)) at.is ∙ sym (newest_next log k at.event at.there) ∙ ap (newest_graph log) (sym one)

    event : IsEvent log (k + 1) at.event
    event = record { from_one = omega arith; there = ap (slice_get log.events) less ∙ at.there }

    not_started : (graph : ℕ) → started_as now graph ≡ false
    not_started graph = ap (λ (b : Bool). b && (graph == 1)) (ap is_started at.is ∙ none_starts at.event)

    made_is : (graph brick : ℕ) → made_as known now graph brick ≡ is_made_at log graph brick k
    made_is graph brick =
        and_same (is_switched now.effect) (is_switch (slice_get log.events k)) ((graph == now.newest) && not (list_any (λ b. b == brick) known.closed.items)) ((graph == newest_graph log (suc k)) && not (is_closed_after log brick k))
        (ap is_switched at.is ∙ sym (switch_is at.event) ∙ ap is_switch (sym at.there))
        (and_same (graph == now.newest) (graph == newest_graph log (suc k)) (not (list_any (λ b. b == brick) known.closed.items)) (not (is_closed_after log brick k))
        (ap (λ (n : ℕ). graph == n) newest_is) (ap not (is_known.closed brick)))

    opened_is : (graph brick : ℕ) → IsUnit graph → opened_for_as tables known now graph brick ≡ is_opened_for log graph brick k
    opened_is graph brick fits =
        and_same (opened_as brick now.effect) (opens_by brick (slice_get log.events k)) (live_as tables.until.items now.newest graph now.number && not (has_link graph brick known.links.items)) (is_live log graph (suc k) && not (is_open_after log graph brick k))
        (ap (opened_as brick) at.is ∙ sym (opens_is brick at.event) ∙ ap (opens_by brick) (sym at.there))
        (and_same (live_as tables.until.items now.newest graph now.number) (is_live log graph (suc k)) (not (has_link graph brick known.links.items)) (not (is_open_after log graph brick k))
        (ap (live_as tables.until.items now.newest graph) (number ∙ sym one) ∙ live_is now.newest graph (suc k) newest_is) (ap not (is_known.links graph brick fits)))

    due_is : (graph brick : ℕ) → IsUnit graph → due_as plans tables known now graph brick ≡ is_connect_due script plans log graph brick (k + 1)
    due_is graph brick fits =
        and_same (started_as now graph || (made_as known now graph brick || opened_for_as tables known now graph brick)) (is_made_at log graph brick k || is_opened_for log graph brick k) (uses_as plans tables graph brick) (uses_brick script plans log graph brick)
        (or_same (started_as now graph) false (made_as known now graph brick || opened_for_as tables known now graph brick) (is_made_at log graph brick k || is_opened_for log graph brick k) (not_started graph)
        (or_same (made_as known now graph brick) (is_made_at log graph brick k) (opened_for_as tables known now graph brick) (is_opened_for log graph brick k) (made_is graph brick) (opened_is graph brick fits)))
        (uses_is graph brick) ∙ ap (is_connect_due script plans log graph brick) one

    open_is : (graph brick event : ℕ) → event ≡ k + 1 → IsUnit graph → has_link graph brick known.links.items ≡ true → is_open_after log graph brick (event - 1) ≡ true
    open_is graph brick number is fits has = ap (λ (n : ℕ). is_open_after log graph brick (n - 1)) is ∙ ap (is_open_after log graph brick) less ∙ sym (is_known.links graph brick fits) ∙ has

    lost : (line : SentLine) (graph : ℕ) → line.event ≡ k + 1 → IsUnit graph → IsLostAs log plans tables known now graph line.brick → IsDisconnected script plans log line graph
    lost line graph same fits (CutAs has cut) =
        ByCut (open_is graph line.brick line.event same fits has)
        (subst (λ (n : ℕ). IsEvent log n (logged.Act (action.Cut line.brick))) (sym same)
        (subst (λ (e : HubEvent). IsEvent log (k + 1) e) (cut_is line.brick at.event (ap (cut_as line.brick) (sym at.is) ∙ cut)) event))
    lost line graph same fits (GoneAs has gone) =
        ByGone (open_is graph line.brick line.event same fits has)
        (gone_is log now graph line.brick line.event at.event (number ∙ sym same) (subst (λ (n : ℕ). IsEvent log n at.event) (sym same) event) (subst (λ (f : Effect). IsGoneAs log now graph line.brick f) at.is gone))
    lost line graph same fits (EndAs ended) =
        let p = both (live_as tables.until.items known.newest graph (now.number - 1) && not (live_as tables.until.items now.newest graph now.number)) (uses_as plans tables graph line.brick) ended in
        let q = both (live_as tables.until.items known.newest graph (now.number - 1)) (not (live_as tables.until.items now.newest graph now.number)) p.0 in
        let before : now.number - 1 ≡ k = ap (λ (n : ℕ). n - 1) number ∙ less in
        AtEnd (sym (uses_is graph line.brick) ∙ p.1)
        (ap (λ (n : ℕ). is_live log graph (n - 1)) same ∙ ap (is_live log graph) less ∙ sym (live_is known.newest graph k is_known.newest) ∙ ap (live_as tables.until.items known.newest graph) (sym before) ∙ q.0)
        (ap (is_live log graph) (same ∙ sym one) ∙ sym (live_is now.newest graph (suc k) newest_is) ∙ ap (live_as tables.until.items now.newest graph) (one ∙ sym number)
        ∙ not_true (live_as tables.until.items now.newest graph now.number) q.1)

    line_due : (line : SentLine) → line.event ≡ k + 1 → (m : Message Input) → input_in line.bytes ≡ m → IsDueAs log plans tables known now items line.brick (what_of m) → IsLineDue script plans log line (what_of m)
    line_due line same (Whole (input.Connect graph version)) is wanted =
        let fits : IsUnit graph = (back.0.1 line.bytes (input.Connect graph version) is).0.0 in
        record {
          due = ap (is_connect_due script plans log graph line.brick) same ∙ sym (due_is graph line.brick fits) ∙ wanted.due;
          once = subst (λ (n : ℕ). n ≤ 1) (ap (count_connects graph line.brick) items_are ∙ sym (connect_times back log graph fits (k + 1) line.brick) ∙ ap (λ (n : ℕ). times_sent log n line.brick (input.Connect graph 1)) (sym same)) wanted.once;
        }
    line_due line same (Whole (input.Disconnect graph)) is due = lost line graph same (back.0.1 line.bytes (input.Disconnect graph) is).0 due
    line_due line same (Whole (input.Request wind graph req)) is due =
        let fits : IsUnit graph = (back.0.1 line.bytes (input.Request wind graph req) is).0.1 in
        by fits (or_parts_true (has_link graph line.brick known.links.items) (has_connect graph line.brick items) due) where
          by : IsUnit graph → (has_link graph line.brick known.links.items ≡ true) ⊎ (has_connect graph line.brick items ≡ true)
              → (is_open_after log graph line.brick (line.event - 1) ≡ true) ⊎ (was_sent log line.event line.brick (input.Connect graph 1) ≡ true)
          by fits (inl has) = inl (open_is graph line.brick line.event same fits has)
          by fits (inr has) = inr (ap (λ (n : ℕ). was_sent log n line.brick (input.Connect graph 1)) same ∙ connect_sent back log graph fits (k + 1) line.brick ∙ ap (has_connect graph line.brick) (sym items_are) ∙ has)
    line_due line same (Whole (input.Down serve)) is due = due
    line_due line same (Whole input.Up) is due = due
    line_due line same (Whole (input.FaultAt p n)) is due = due
    line_due line same (Wrong place) is due = due

    pub event_linked : IsLinkedAs log plans tables known now items → IsLinked script plans log (k + 1)
    event_linked linked = record {
      lines = λ i line there same. line_due line same (input_in line.bytes) refl (at_line (IsItemDue log plans tables known now items) log.sent i (k + 1) line there same (subst (AllByRecursion (IsItemDue log plans tables known now items)) items_are linked.each));
      due = λ graph brick fits low wanted. connect_sent back log graph fits (k + 1) brick ∙ ap (has_connect graph brick) (sym items_are) ∙ linked.due graph brick low (due_is graph brick fits ∙ wanted);
      cuts = λ graph brick fits acts opened.
          let same : Some at.event ≡ Some (logged.Act (action.Cut brick)) = sym event.there ∙ acts.there in
          let is : at.event ≡ logged.Act (action.Cut brick) = cc in
          disconnect_sent back log graph fits (k + 1) brick ∙ ap (has_disconnect graph brick) (sym items_are)
          ∙ cut_each graph brick items known.links.items (linked.cuts brick (ap (cut_as brick) at.is ∙ cuts_it brick at.event is)) (is_known.links graph brick fits ∙ ap (is_open_after log graph brick) (sym less) ∙ opened);
    }

    -- ---- and back: what is due by the log is due by what is known

    has_back : (graph brick event : ℕ) → event ≡ k + 1 → IsUnit graph → is_open_after log graph brick (event - 1) ≡ true → has_link graph brick known.links.items ≡ true
    has_back graph brick number is fits opened = is_known.links graph brick fits ∙ sym (ap (is_open_after log graph brick) less) ∙ sym (ap (λ (n : ℕ). is_open_after log graph brick (n - 1)) is) ∙ opened

    event_is : (number : ℕ) (e : HubEvent) → number ≡ k + 1 → IsEvent log number e → at.event ≡ e
    event_is number e same acts = some_is at.event e (sym event.there ∙ ap (λ (n : ℕ). slice_get log.events (n - 1)) (sym same) ∙ acts.there)

    lost_back : (line : SentLine) (graph : ℕ) → line.event ≡ k + 1 → IsUnit graph → IsDisconnected script plans log line graph → IsLostAs log plans tables known now graph line.brick
    lost_back line graph same fits (ByCut opened acts) =
        CutAs (has_back graph line.brick line.event same fits opened) (ap (cut_as line.brick) at.is ∙ cuts_it line.brick at.event (event_is line.event (logged.Act (action.Cut line.brick)) same acts))
    lost_back line graph same fits (ByGone opened gone) =
        GoneAs (has_back graph line.brick line.event same fits opened)
        (subst (λ (f : Effect). IsGoneAs log now graph line.brick f) (sym at.is)
        (gone_back log now graph line.brick line.event at.event (number ∙ sym same) gone (event_is line.event (logged.Arrive line.brick gone.bytes) same gone.arrives)))
    lost_back line graph same fits (AtEnd uses before behind) =
        let before_is : now.number - 1 ≡ k = ap (λ (n : ℕ). n - 1) number ∙ less in
        let was : live_as tables.until.items known.newest graph (now.number - 1) ≡ true =
        sym (ap (λ (n : ℕ). is_live log graph (n - 1)) same ∙ ap (is_live log graph) less ∙ sym (live_is known.newest graph k is_known.newest) ∙ ap (live_as tables.until.items known.newest graph) (sym before_is)) ∙ before in
        let is : live_as tables.until.items now.newest graph now.number ≡ false =
        sym (ap (is_live log graph) (same ∙ sym one) ∙ sym (live_is now.newest graph (suc k) newest_is) ∙ ap (live_as tables.until.items now.newest graph) (one ∙ sym number)) ∙ behind in
        EndAs (both_true (both_true was (ap not is)) (uses_is graph line.brick ∙ uses))

    line_back : (line : SentLine) → line.event ≡ k + 1 → (m : Message Input) → input_in line.bytes ≡ m → IsLineDue script plans log line (what_of m) → IsDueAs log plans tables known now items line.brick (what_of m)
    line_back line same (Whole (input.Connect graph version)) is wanted =
        let fits : IsUnit graph = (back.0.1 line.bytes (input.Connect graph version) is).0.0 in
        record {
          due = due_is graph line.brick fits ∙ ap (is_connect_due script plans log graph line.brick) (sym same) ∙ wanted.due;
          once = subst (λ (n : ℕ). n ≤ 1) (ap (λ (n : ℕ). times_sent log n line.brick (input.Connect graph 1)) same ∙ connect_times back log graph fits (k + 1) line.brick ∙ ap (count_connects graph line.brick) (sym items_are)) wanted.once;
        }
    line_back line same (Whole (input.Disconnect graph)) is due = lost_back line graph same (back.0.1 line.bytes (input.Disconnect graph) is).0 due
    line_back line same (Whole (input.Request wind graph req)) is due =
        let fits : IsUnit graph = (back.0.1 line.bytes (input.Request wind graph req) is).0.1 in by fits due where
          by : IsUnit graph → (is_open_after log graph line.brick (line.event - 1) ≡ true) ⊎ (was_sent log line.event line.brick (input.Connect graph 1) ≡ true)
              → (has_link graph line.brick known.links.items || has_connect graph line.brick items) ≡ true
          by fits (inl opened) = ap (λ (b : Bool). b || has_connect graph line.brick items) (has_back graph line.brick line.event same fits opened)
          by fits (inr sent) =
              or_right (has_link graph line.brick known.links.items) (has_connect graph line.brick items)
              (ap (has_connect graph line.brick) items_are ∙ sym (connect_sent back log graph fits (k + 1) line.brick) ∙ ap (λ (n : ℕ). was_sent log n line.brick (input.Connect graph 1)) (sym same) ∙ sent)
    line_back line same (Whole (input.Down serve)) is due = due
    line_back line same (Whole input.Up) is due = due
    line_back line same (Whole (input.FaultAt p n)) is due = due
    line_back line same (Wrong place) is due = due

    live_low : (graph : ℕ) → live_as tables.until.items now.newest graph now.number ≡ true → graph ≤ now.newest
    live_low graph live = by (or_parts_true (graph == now.newest) (nat_lt 0 graph && (nat_lt graph now.newest && nat_lt now.number (until_at tables.until.items graph))) live) where
      by : ((graph == now.newest) ≡ true) ⊎ ((nat_lt 0 graph && (nat_lt graph now.newest && nat_lt now.number (until_at tables.until.items graph))) ≡ true) → graph ≤ now.newest
      by (inl e) = let same = eqb-true graph now.newest e in omega (arith, same)
      by (inr e) =
          let p = both (nat_lt 0 graph) (nat_lt graph now.newest && nat_lt now.number (until_at tables.until.items graph)) e in
          let q = both (nat_lt graph now.newest) (nat_lt now.number (until_at tables.until.items graph)) p.1 in
          let lt = ltb-true graph now.newest q.0 in omega (arith, lt)

    -- a graph that is to connect is not above the newest
    due_low : (graph brick : ℕ) → due_as plans tables known now graph brick ≡ true → graph ≤ now.newest
    due_low graph brick due =
        let p = both (started_as now graph || (made_as known now graph brick || opened_for_as tables known now graph brick)) (uses_as plans tables graph brick) due in
        by (or_parts_true (started_as now graph) (made_as known now graph brick || opened_for_as tables known now graph brick) p.0) where
          opens : (made_as known now graph brick ≡ true) ⊎ (opened_for_as tables known now graph brick ≡ true) → graph ≤ now.newest
          opens (inl made) =
              let p = both (is_switched now.effect) ((graph == now.newest) && not (list_any (λ b. b == brick) known.closed.items)) made in
              let q = both (graph == now.newest) (not (list_any (λ b. b == brick) known.closed.items)) p.1 in
              let same = eqb-true graph now.newest q.0 in omega (arith, same)
          opens (inr opened) =
              let p = both (opened_as brick now.effect) (live_as tables.until.items now.newest graph now.number && not (has_link graph brick known.links.items)) opened in
              let q = both (live_as tables.until.items now.newest graph now.number) (not (has_link graph brick known.links.items)) p.1 in
              live_low graph q.0

          by : (started_as now graph ≡ true) ⊎ ((made_as known now graph brick || opened_for_as tables known now graph brick) ≡ true) → graph ≤ now.newest
          by (inl started) = let none = not_started graph in absurd cc
          by (inr other) = opens (or_parts_true (made_as known now graph brick) (opened_for_as tables known now graph brick) other)

    pub event_back : now.newest < 2 ^ 32 → IsLinked script plans log (k + 1) → IsLinkedAs log plans tables known now items
    event_back few linked = record {
      each = subst (AllByRecursion (IsItemDue log plans tables known now items)) (sym items_are)
          (all_lines (IsItemDue log plans tables known now items) log.sent (k + 1) (λ i line there same. line_back line same (input_in line.bytes) refl (linked.lines i line there same)));
      due = λ graph brick low due.
          let fits : IsUnit graph = let le = due_low graph brick due in omega (arith, le, few) in
          ap (has_connect graph brick) items_are ∙ sym (connect_sent back log graph fits (k + 1) brick) ∙ linked.due graph brick fits low (sym (due_is graph brick fits) ∙ due);
      cuts = λ brick cut.
          cut_all brick items known.links.items known.links.items
          (λ g fits has.
          ap (has_disconnect g brick) items_are ∙ sym (disconnect_sent back log g fits (k + 1) brick)
          ∙ linked.cuts g brick fits (subst (λ (e : HubEvent). IsEvent log (k + 1) e) (cut_is brick at.event (ap (cut_as brick) (sym at.is) ∙ cut)) event) (open_is g brick (k + 1) refl fits has))
          (λ g has. has) is_known.units;
    }

  -- ---- the making

  module _ (back : MessagesReadBack) (known : Known) (now : Moment) (items : List Item) (no_links : known.links.items ≡ []) (starts : now.effect ≡ effect.Started) (number : now.number ≡ 0) (known_newest : known.newest ≡ 1)
      (newest : now.newest ≡ 1) (items_are : items ≡ in_event 0 (items_of log.sent)) where
    start_due : (graph brick : ℕ) → due_as plans tables known now graph brick ≡ is_connect_due script plans log graph brick 0
    start_due graph brick =
        and_same (started_as now graph || (made_as known now graph brick || opened_for_as tables known now graph brick)) (graph == 1) (uses_as plans tables graph brick) (uses_brick script plans log graph brick)
        (ap (λ (f : Effect).
        (is_started f && (graph == 1))
        || ((is_switched f && ((graph == now.newest) && not (list_any (λ b. b == brick) known.closed.items)))
        || (opened_as brick f && (live_as tables.until.items now.newest graph now.number && not (has_link graph brick known.links.items))))) starts ∙ or_false (graph == 1))
        (uses_is graph brick) where
          or_false : (b : Bool) → (b || (false || false)) ≡ b
          or_false true = refl
          or_false false = refl

    no_link : (graph brick : ℕ) → has_link graph brick known.links.items ≡ false
    no_link graph brick = ap (has_link graph brick) no_links

    none_lost : (graph brick : ℕ) → IsLostAs log plans tables known now graph brick → ⊥
    none_lost graph brick (CutAs has cut) = let no : true ≡ false = sym has ∙ no_link graph brick in absurd cc
    none_lost graph brick (GoneAs has gone) = let no : true ≡ false = sym has ∙ no_link graph brick in absurd cc
    none_lost graph brick (EndAs ended) =
        let p = both (live_as tables.until.items known.newest graph (now.number - 1) && not (live_as tables.until.items now.newest graph now.number)) (uses_as plans tables graph brick) ended in
        let q = both (live_as tables.until.items known.newest graph (now.number - 1)) (not (live_as tables.until.items now.newest graph now.number)) p.0 in
        let gone = not_true (live_as tables.until.items now.newest graph now.number) q.1 in
        let same : live_as tables.until.items known.newest graph (now.number - 1) ≡ live_as tables.until.items now.newest graph now.number =
        ap (λ (m : ℕ). live_as tables.until.items m graph (now.number - 1)) (known_newest ∙ sym newest) ∙ ap (live_as tables.until.items now.newest graph) (ap (λ (n : ℕ). n - 1) number ∙ sym number) in
        let no : true ≡ false = sym q.0 ∙ same ∙ gone in
        absurd cc

    start_line : (line : SentLine) → line.event ≡ 0 → (m : Message Input) → input_in line.bytes ≡ m → IsDueAs log plans tables known now items line.brick (what_of m) → IsLineDue script plans log line (what_of m)
    start_line line same (Whole (input.Connect graph version)) is wanted =
        let fits : IsUnit graph = (back.0.1 line.bytes (input.Connect graph version) is).0.0 in
        record {
          due = ap (is_connect_due script plans log graph line.brick) same ∙ sym (start_due graph line.brick) ∙ wanted.due;
          once = subst (λ (n : ℕ). n ≤ 1) (ap (count_connects graph line.brick) items_are ∙ sym (connect_times back log graph fits 0 line.brick) ∙ ap (λ (n : ℕ). times_sent log n line.brick (input.Connect graph 1)) (sym same)) wanted.once;
        }
    start_line line same (Whole (input.Disconnect graph)) is due = absurd (none_lost graph line.brick due)
    start_line line same (Whole (input.Request wind graph req)) is due =
        let fits : IsUnit graph = (back.0.1 line.bytes (input.Request wind graph req) is).0.1 in
        let has : has_connect graph line.brick items ≡ true = ap (λ (b : Bool). b || has_connect graph line.brick items) (sym (no_link graph line.brick)) ∙ due in
        inr (ap (λ (n : ℕ). was_sent log n line.brick (input.Connect graph 1)) same ∙ connect_sent back log graph fits 0 line.brick ∙ ap (has_connect graph line.brick) (sym items_are) ∙ has)
    start_line line same (Whole (input.Down serve)) is due = due
    start_line line same (Whole input.Up) is due = due
    start_line line same (Whole (input.FaultAt p n)) is due = due
    start_line line same (Wrong place) is due = due

    pub start_linked : IsLinkedAs log plans tables known now items → IsLinked script plans log 0
    start_linked linked = record {
      lines = λ i line there same. start_line line same (input_in line.bytes) refl (at_line (IsItemDue log plans tables known now items) log.sent i 0 line there same (subst (AllByRecursion (IsItemDue log plans tables known now items)) items_are linked.each));
      due = λ graph brick fits low wanted. connect_sent back log graph fits 0 brick ∙ ap (has_connect graph brick) (sym items_are) ∙ linked.due graph brick low (start_due graph brick ∙ wanted);
      cuts = λ graph brick fits acts opened. let from = acts.from_one in let no : 1 ≤ 0 = from in absurd (omega (arith, no));
    }

    -- ---- and back

    none_disconnected : (line : SentLine) (graph : ℕ) → line.event ≡ 0 → IsDisconnected script plans log line graph → ⊥
    none_disconnected line graph same (ByCut opened acts) = let from = acts.from_one in absurd (omega (arith, from, same))
    none_disconnected line graph same (ByGone opened gone) = let from = gone.arrives.from_one in absurd (omega (arith, from, same))
    none_disconnected line graph same (AtEnd uses before behind) =
        let n : line.event - 1 ≡ line.event = omega (arith, same) in
        let no : true ≡ false = sym before ∙ ap (is_live log graph) n ∙ behind in absurd cc

    start_line_back : (line : SentLine) → line.event ≡ 0 → (m : Message Input) → input_in line.bytes ≡ m → IsLineDue script plans log line (what_of m) → IsDueAs log plans tables known now items line.brick (what_of m)
    start_line_back line same (Whole (input.Connect graph version)) is wanted =
        let fits : IsUnit graph = (back.0.1 line.bytes (input.Connect graph version) is).0.0 in
        record {
          due = start_due graph line.brick ∙ ap (is_connect_due script plans log graph line.brick) (sym same) ∙ wanted.due;
          once = subst (λ (n : ℕ). n ≤ 1) (ap (λ (n : ℕ). times_sent log n line.brick (input.Connect graph 1)) same ∙ connect_times back log graph fits 0 line.brick ∙ ap (count_connects graph line.brick) (sym items_are)) wanted.once;
        }
    start_line_back line same (Whole (input.Disconnect graph)) is due = absurd (none_disconnected line graph same due)
    start_line_back line same (Whole (input.Request wind graph req)) is due =
        let fits : IsUnit graph = (back.0.1 line.bytes (input.Request wind graph req) is).0.1 in by fits due where
          sent_back : IsUnit graph → was_sent log 0 line.brick (input.Connect graph 1) ≡ true → (has_link graph line.brick known.links.items || has_connect graph line.brick items) ≡ true
          sent_back fits sent = or_right (has_link graph line.brick known.links.items) (has_connect graph line.brick items) (ap (has_connect graph line.brick) items_are ∙ sym (connect_sent back log graph fits 0 line.brick) ∙ sent)

          by : IsUnit graph → (is_open_after log graph line.brick (line.event - 1) ≡ true) ⊎ (was_sent log line.event line.brick (input.Connect graph 1) ≡ true)
              → (has_link graph line.brick known.links.items || has_connect graph line.brick items) ≡ true
          by fits (inl opened) = let n : line.event - 1 ≡ 0 = omega (arith, same) in sent_back fits (sym (ap (is_open_after log graph line.brick) n) ∙ opened)
          by fits (inr sent) = sent_back fits (ap (λ (n : ℕ). was_sent log n line.brick (input.Connect graph 1)) (sym same) ∙ sent)
    start_line_back line same (Whole (input.Down serve)) is due = due
    start_line_back line same (Whole input.Up) is due = due
    start_line_back line same (Whole (input.FaultAt p n)) is due = due
    start_line_back line same (Wrong place) is due = due

    pub start_back : IsLinked script plans log 0 → IsLinkedAs log plans tables known now items
    start_back linked = record {
      each = subst (AllByRecursion (IsItemDue log plans tables known now items)) (sym items_are)
          (all_lines (IsItemDue log plans tables known now items) log.sent 0 (λ i line there same. start_line_back line same (input_in line.bytes) refl (linked.lines i line there same)));
      due = λ graph brick low due.
          let wanted : is_connect_due script plans log graph brick 0 ≡ true = sym (start_due graph brick) ∙ due in
          let p = both (graph == 1) (uses_brick script plans log graph brick) wanted in
          let fits : IsUnit graph = let same = eqb-true graph 1 p.0 in omega (arith, same) in
          ap (has_connect graph brick) items_are ∙ sym (connect_sent back log graph fits 0 brick) ∙ linked.due graph brick fits low wanted;
      cuts = λ brick cut. let none : cut_as brick now.effect ≡ false = ap (cut_as brick) starts in let no : true ≡ false = sym cut ∙ none in absurd cc;
    }
