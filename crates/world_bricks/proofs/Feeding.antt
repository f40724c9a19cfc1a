-- Every event keeps the bricks fed: what a brick has served and what is in its line is what was sent to it, and what arrived from
-- it are its first outputs.
use Rattle.std.proofs.Common.{◌≡◌, refl, sym, ap, subst, ◌∙◌, append-nil, append_assoc, arith}
use Rattle.std.proofs.lemmas.Bool.{eq-eqb, eqb-true, eqb-false}
use Rattle.std.proofs.lemmas.List.{drop_at}
use Rattle.std.specs.Prelude.{ℕ, zero, suc, ◌+◌, ◌≤◌, ◌==◌, Bool, true, false, List, [], ◌∷◌, ◌++◌, length, map, take, drop, replicate, slice_get, Option, None, Some, if◌then◌else◌}
use Rattle.std.specs.List.{range_with_len}
use Rattle.graph_build.specs.declared.plans.Plan.{Plan}
use Rattle.script_lang.specs.declared.scripts.Script.{Script}
use Rattle.brick_machine.specs.Journal.{Journal}
use Rattle.brick_machine.specs.Machine.{texts_of}
use Rattle.brick_machine.proofs.Runs.{texts_of_push}
use Rattle.mount_log.specs.Arrivals.{inputs_to, arrivals_from, arrival_from}
use Rattle.mount_log.specs.declared.logs.HubEvent.{HubEvent}
use Rattle.mount_log.specs.declared.logs.HubEvent.TheVariants as logged
use Rattle.mount_log.specs.declared.logs.Log.{Log}
use Rattle.mount_log.specs.declared.logs.SentLine.{SentLine}
use Rattle.world_bricks.specs.Feeding.{IsFed, AreFed, WorldsAreFed}
use Rattle.world_bricks.specs.Lines.{LineState, LinesState, empty_line, new_brick, new_lines, put_all, with_sent, first_input, shortened_by, served_by, with_served, outputs_by, arrived_by, next_output, noted_by, with_arrival}
use Rattle.world_bricks.specs.Worlds.{HubDoes, Happens, HappenInTurn}
use Rattle.world_bricks.specs.declared.events.Event.{Event}
use Rattle.world_bricks.specs.declared.events.Event.TheVariants as event
use Rattle.world_bricks.proofs.Places.{get_same, get_other, take_next, of_front, first_rest, all_alike}
use Rattle.world_bricks.proofs.Sent.{inputs_both, arrivals_more, with_inputs, longer_by, all_put}

-- ---- events of the hub

-- a brick with its line, where an event is still to be added to the log
record IsFedBefore (e : HubEvent) (log : Log) (brick : ℕ) (b : Journal) (line : LineState) : Type 0 where
  pub served : b.journal ++ line.inputs ≡ inputs_to brick log.sent
  pub arrived : arrivals_from brick log.events ++ arrival_from brick e [] ≡ take line.arrived (texts_of b.journal)
  pub few : line.arrived ≤ length (texts_of b.journal)

module _ (e : HubEvent) (log : Log) (lines : LinesState) (delivered : lines.delivered ≡ length log.sent)
    (each : (brick : ℕ) (b : Journal) (line : LineState) → slice_get lines.bricks brick ≡ Some b → slice_get lines.queues brick ≡ Some line → IsFedBefore e log brick b line)
    (log_after : Log) (lines_after : LinesState) (does : HubDoes e log lines log_after lines_after) where
  abbrev sent : List SentLine
  sent = does.event.lines.sent

  sent_is : log_after.sent ≡ log.sent ++ sent
  sent_is = ap (λ (l : Log). l.sent) does.event.added

  events_are : log_after.events ≡ log.events ++ e ∷ []
  events_are =
      let grown : log_after.events ≡ log.events ++ does.event.lines.events = ap (λ (l : Log). l.events) does.event.added in
      grown ∙ ap (λ (es : List HubEvent). log.events ++ es) does.event.event

  rest : drop lines.delivered log_after.sent ≡ sent
  rest = ap (λ (n : ℕ). drop n log_after.sent) delivered ∙ ap (λ (l : List SentLine). drop (length log.sent) l) sent_is ∙ drop_at log.sent sent (length log.sent) refl

  queues_are : lines_after.queues ≡ put_all sent lines.queues
  queues_are =
      let all : lines_after.queues ≡ put_all (drop lines.delivered log_after.sent) lines.queues = ap (λ (l : LinesState). l.queues) does.sent in
      all ∙ ap (λ (l : List SentLine). put_all l lines.queues) rest

  fed_after : (brick : ℕ) (b : Journal) (line : LineState) → IsFedBefore e log brick b line → IsFed log_after brick b (with_inputs (inputs_to brick sent) line)
  fed_after brick b line fed = record {
    served =
        sym (append_assoc b.journal line.inputs (inputs_to brick sent))
        ∙ ap (λ (l : List (List ℕ)). l ++ inputs_to brick sent) fed.served
        ∙ sym (inputs_both brick log.sent sent)
        ∙ ap (inputs_to brick) (sym sent_is);
    arrived = ap (arrivals_from brick) events_are ∙ arrivals_more brick log.events e ∙ fed.arrived;
    few = fed.few;
  }

  by_line : (brick : ℕ) (b : Journal) (line_after : LineState) (o : Option LineState) → slice_get lines.bricks brick ≡ Some b → slice_get lines.queues brick ≡ o
      → longer_by (inputs_to brick sent) o ≡ Some line_after → IsFed log_after brick b line_after
  by_line brick b line_after None there is found = absurd cc
  by_line brick b line_after (Some line) there is found =
      let same : with_inputs (inputs_to brick sent) line ≡ line_after = cc in
      subst (λ (l : LineState). IsFed log_after brick b l) same (fed_after brick b line (each brick b line there is))

  hub_feeds : AreFed log_after lines_after
  hub_feeds = record {
    delivered = ap (λ (l : LinesState). l.delivered) does.sent;
    each = λ brick b line there found.
        let same : slice_get lines.bricks brick ≡ slice_get lines_after.bricks brick = ap (λ (l : LinesState). slice_get l.bricks brick) (sym does.sent) in
        let put : longer_by (inputs_to brick sent) (slice_get lines.queues brick) ≡ slice_get lines_after.queues brick
        = sym (all_put sent lines.queues brick) ∙ ap (λ (l : List LineState). slice_get l brick) (sym queues_are) in
        by_line brick b line (slice_get lines.queues brick) (same ∙ there) refl (put ∙ found);
  }

-- an event in which nothing arrives
nothing_arrives : (e : HubEvent) (log : Log) (lines : LinesState) (log_after : Log) (lines_after : LinesState) → ((brick : ℕ) → arrival_from brick e [] ≡ [])
    → AreFed log lines → HubDoes e log lines log_after lines_after → AreFed log_after lines_after
nothing_arrives e log lines log_after lines_after none are does = hub_feeds e log lines are.delivered before log_after lines_after does where
  before : (brick : ℕ) (b : Journal) (line : LineState) → slice_get lines.bricks brick ≡ Some b → slice_get lines.queues brick ≡ Some line → IsFedBefore e log brick b line
  before brick b line there is =
      let fed = are.each brick b line there is in
      record {
        served = fed.served;
        arrived = ap (λ (l : List (List ℕ)). arrivals_from brick log.events ++ l) (none brick) ∙ append-nil (arrivals_from brick log.events) ∙ fed.arrived;
        few = fed.few;
      }

-- ---- arrivals

module _ (brick : ℕ) (log : Log) (lines : LinesState) (are : AreFed log lines) (output : List ℕ) (next : next_output lines brick ≡ Some output) where
  abbrev arrival : HubEvent
  arrival = logged.Arrive brick output

  abbrev after_one : LineState → LineState
  after_one line = record line { arrived = line.arrived + 1 }

  -- of the brick itself
  arrived_here : (b : Journal) (line : LineState) → slice_get lines.bricks brick ≡ Some b → slice_get lines.queues brick ≡ Some line → IsFedBefore arrival log brick b (after_one line)
  arrived_here b line there is =
      let fed : IsFed log brick b line = are.each brick b line there is in
      let by_b : slice_get (texts_of b.journal) line.arrived ≡ slice_get (outputs_by (slice_get lines.bricks brick)) line.arrived
      = sym (ap (λ (o : Option Journal). slice_get (outputs_by o) line.arrived) there) in
      let by_l : slice_get (outputs_by (slice_get lines.bricks brick)) line.arrived ≡ next_output lines brick
      = sym (ap (λ (o : Option LineState). slice_get (outputs_by (slice_get lines.bricks brick)) (arrived_by o)) is) in
      let taken = take_next (texts_of b.journal) line.arrived output (by_b ∙ by_l ∙ next) in
      let one : suc line.arrived ≡ line.arrived + 1 = omega arith in
      let mine : arrival_from brick arrival [] ≡ output ∷ [] = ap (λ (t : Bool). if t then output ∷ [] else []) (eq-eqb brick brick refl) in
      record {
        served = fed.served;
        arrived =
            ap (λ (l : List (List ℕ)). arrivals_from brick log.events ++ l) mine
            ∙ ap (λ (l : List (List ℕ)). l ++ output ∷ []) fed.arrived
            ∙ sym taken.0
            ∙ ap (λ (n : ℕ). take n (texts_of b.journal)) one;
        few = omega (arith, taken.1);
      }

  some_line : (x y : LineState) → ◌≡◌ {A = Option LineState} (Some x) (Some y) → x ≡ y
  some_line x y e = cc

  at_brick : (b : Journal) (line_after : LineState) (o : Option LineState) → slice_get lines.bricks brick ≡ Some b → slice_get lines.queues brick ≡ o
      → slice_get (noted_by o brick lines.queues) brick ≡ Some line_after → IsFedBefore arrival log brick b line_after
  at_brick b line_after None there is found = let no : ◌≡◌ {A = Option LineState} None (Some line_after) = sym is ∙ found in absurd cc
  at_brick b line_after (Some line) there is found =
      let put : Some (after_one line) ≡ slice_get (noted_by (Some line) brick lines.queues) brick = sym (get_same lines.queues brick line (after_one line) is) in
      let same : after_one line ≡ line_after = some_line (after_one line) line_after (put ∙ found) in
      subst (λ (l : LineState). IsFedBefore arrival log brick b l) same (arrived_here b line there is)

  unmoved : (other : ℕ) (o : Option LineState) → (brick == other) ≡ false → slice_get (noted_by o brick lines.queues) other ≡ slice_get lines.queues other
  unmoved other None off = refl
  unmoved other (Some line) off = get_other lines.queues brick other (after_one line) (eqb-false brick other off)

  elsewhere : (other : ℕ) (b : Journal) (line_after : LineState) (o : Option LineState) → (brick == other) ≡ false → slice_get lines.bricks other ≡ Some b
      → slice_get (noted_by o brick lines.queues) other ≡ Some line_after → IsFedBefore arrival log other b line_after
  elsewhere other b line_after o off there found =
      let fed = are.each other b line_after there (sym (unmoved other o off) ∙ found) in
      let none : arrival_from other arrival [] ≡ [] = ap (λ (t : Bool). if t then output ∷ [] else []) off in
      record {
        served = fed.served;
        arrived = ap (λ (l : List (List ℕ)). arrivals_from other log.events ++ l) none ∙ append-nil (arrivals_from other log.events) ∙ fed.arrived;
        few = fed.few;
      }

  by_brick : (other : ℕ) (t : Bool) → (brick == other) ≡ t → (b : Journal) (line_after : LineState) → slice_get lines.bricks other ≡ Some b
      → slice_get (noted_by (slice_get lines.queues brick) brick lines.queues) other ≡ Some line_after → IsFedBefore arrival log other b line_after
  by_brick other true on =
      subst (λ (n : ℕ). (b : Journal) (line_after : LineState) → slice_get lines.bricks n ≡ Some b
      → slice_get (noted_by (slice_get lines.queues brick) brick lines.queues) n ≡ Some line_after → IsFedBefore arrival log n b line_after)
      (eqb-true brick other on) (λ b line_after there found. at_brick b line_after (slice_get lines.queues brick) there refl found)
  by_brick other false off = λ b line_after there found. elsewhere other b line_after (slice_get lines.queues brick) off there found

  arrival_feeds : (log_after : Log) (lines_after : LinesState) → HubDoes arrival log (with_arrival lines brick) log_after lines_after → AreFed log_after lines_after
  arrival_feeds log_after lines_after does =
      hub_feeds arrival log (with_arrival lines brick) are.delivered (λ other b line there found. by_brick other (brick == other) refl b line there found) log_after lines_after does

-- ---- inputs that are served

module _ (brick : ℕ) (log : Log) (lines : LinesState) (are : AreFed log lines) (input : List ℕ) (next : first_input (slice_get lines.queues brick) ≡ Some input) where
  abbrev one_more : Journal → Journal
  one_more b = record { journal = b.journal ++ input ∷ []; names = b.names; spent = false }

  abbrev one_less : LineState → LineState
  one_less line = record line { inputs = drop 1 line.inputs }

  served_here : (b : Journal) (line : LineState) → slice_get lines.bricks brick ≡ Some b → slice_get lines.queues brick ≡ Some line → IsFed log brick (one_more b) (one_less line)
  served_here b line there is =
      let fed : IsFed log brick b line = are.each brick b line there is in
      let front : slice_get line.inputs 0 ≡ first_input (slice_get lines.queues brick) = sym (ap first_input is) in
      let whole : line.inputs ≡ input ∷ drop 1 line.inputs = first_rest line.inputs input (front ∙ next) in
      let stay = of_front (texts_of b.journal) _ (texts_of (b.journal ++ input ∷ [])) line.arrived (texts_of_push b.journal input) fed.few in
      let joined : (b.journal ++ input ∷ []) ++ drop 1 line.inputs ≡ b.journal ++ (input ∷ drop 1 line.inputs) = append_assoc b.journal (input ∷ []) (drop 1 line.inputs) in
      record {
        served = joined ∙ ap (λ (l : List (List ℕ)). b.journal ++ l) (sym whole) ∙ fed.served;
        arrived = fed.arrived ∙ stay.0;
        few = stay.1;
      }

  some_brick : (x y : Journal) → ◌≡◌ {A = Option Journal} (Some x) (Some y) → x ≡ y
  some_brick x y e = cc

  some_less : (x y : LineState) → ◌≡◌ {A = Option LineState} (Some x) (Some y) → x ≡ y
  some_less x y e = cc

  at_served : (o : Option Journal) (q : Option LineState) (b_after : Journal) (line_after : LineState) → slice_get lines.bricks brick ≡ o → slice_get lines.queues brick ≡ q
      → slice_get (served_by o brick input lines.bricks) brick ≡ Some b_after → slice_get (shortened_by q brick lines.queues) brick ≡ Some line_after → IsFed log brick b_after line_after
  at_served None q b_after line_after there is found line = let no : ◌≡◌ {A = Option Journal} None (Some b_after) = sym there ∙ found in absurd cc
  at_served (Some b) None b_after line_after there is found line =
      let none : ◌≡◌ {A = Option (List ℕ)} None (first_input (slice_get lines.queues brick)) = sym (ap first_input is) in
      let no : ◌≡◌ {A = Option (List ℕ)} None (Some input) = none ∙ next in absurd cc
  at_served (Some b) (Some l) b_after line_after there is found line =
      let put : Some (one_more b) ≡ slice_get (served_by (Some b) brick input lines.bricks) brick = sym (get_same lines.bricks brick b (one_more b) there) in
      let less : Some (one_less l) ≡ slice_get (shortened_by (Some l) brick lines.queues) brick = sym (get_same lines.queues brick l (one_less l) is) in
      subst (λ (x : LineState). IsFed log brick b_after x) (some_less (one_less l) line_after (less ∙ line))
      (subst (λ (x : Journal). IsFed log brick x (one_less l)) (some_brick (one_more b) b_after (put ∙ found)) (served_here b l there is))

  same_brick : (other : ℕ) (o : Option Journal) → (brick == other) ≡ false → slice_get (served_by o brick input lines.bricks) other ≡ slice_get lines.bricks other
  same_brick other None off = refl
  same_brick other (Some b) off = get_other lines.bricks brick other (one_more b) (eqb-false brick other off)

  same_line : (other : ℕ) (q : Option LineState) → (brick == other) ≡ false → slice_get (shortened_by q brick lines.queues) other ≡ slice_get lines.queues other
  same_line other None off = refl
  same_line other (Some l) off = get_other lines.queues brick other (one_less l) (eqb-false brick other off)

  not_served : (other : ℕ) (o : Option Journal) (q : Option LineState) (b_after : Journal) (line_after : LineState) → (brick == other) ≡ false
      → slice_get (served_by o brick input lines.bricks) other ≡ Some b_after → slice_get (shortened_by q brick lines.queues) other ≡ Some line_after → IsFed log other b_after line_after
  not_served other o q b_after line_after off found line = are.each other b_after line_after (sym (same_brick other o off) ∙ found) (sym (same_line other q off) ∙ line)

  by_served : (other : ℕ) (t : Bool) → (brick == other) ≡ t → (b_after : Journal) (line_after : LineState) → slice_get (with_served lines brick input).bricks other ≡ Some b_after
      → slice_get (with_served lines brick input).queues other ≡ Some line_after → IsFed log other b_after line_after
  by_served other true on =
      subst (λ (n : ℕ). (b_after : Journal) (line_after : LineState) → slice_get (with_served lines brick input).bricks n ≡ Some b_after
      → slice_get (with_served lines brick input).queues n ≡ Some line_after → IsFed log n b_after line_after)
      (eqb-true brick other on) (λ b_after line_after found line. at_served (slice_get lines.bricks brick) (slice_get lines.queues brick) b_after line_after refl refl found line)
  by_served other false off = λ b_after line_after found line. not_served other (slice_get lines.bricks brick) (slice_get lines.queues brick) b_after line_after off found line

  serving_feeds : AreFed log (with_served lines brick input)
  serving_feeds = record {
    delivered = are.delivered;
    each = λ other b line found is. by_served other (brick == other) refl b line found is;
  }

-- ---- every event, and runs

event_feeds : (script : Script) (e : Event) (log : Log) (lines : LinesState) (log_after : Log) (lines_after : LinesState) → AreFed log lines → Happens script e log lines log_after lines_after
    → AreFed log_after lines_after
event_feeds script (event.Submit session) log lines log_after lines_after are h =
    nothing_arrives (logged.Submit session h.submission.line.line) log lines log_after lines_after (λ brick. refl) are (record { event = h.submission.event; sent = h.sent })
event_feeds script (event.Arrive brick) log lines log_after lines_after are h = arrival_feeds brick log lines are h.output h.next log_after lines_after h.does
event_feeds script (event.Serve brick) log lines log_after lines_after are h =
    subst (λ (l : Log). AreFed l lines_after) (sym h.1) (subst (λ (ls : LinesState). AreFed log ls) (sym h.0.after) (serving_feeds brick log lines are h.0.input h.0.next))
event_feeds script (event.Run graph task) log lines log_after lines_after are h = nothing_arrives (logged.Run graph task) log lines log_after lines_after (λ brick. refl) are h
event_feeds script (event.Act action) log lines log_after lines_after are h = nothing_arrives (logged.Act action) log lines log_after lines_after (λ brick. refl) are h.does
event_feeds script (event.Arm at p count action) log lines log_after lines_after are h =
    nothing_arrives (logged.Arm at p count action) log lines log_after lines_after (λ brick. refl) are h.does

chain_feeds : (script : Script) (es : List Event) (log : Log) (lines : LinesState) (log_after : Log) (lines_after : LinesState) → AreFed log lines
    → HappenInTurn script es log lines log_after lines_after → AreFed log_after lines_after
chain_feeds script [] log lines log_after lines_after are same =
    subst (λ (l : Log). AreFed l lines_after) (sym same.0) (subst (λ (ls : LinesState). AreFed log ls) (sym same.1) are)
chain_feeds script (e ∷ es) log lines log_after lines_after are h =
    chain_feeds script es h.log_after h.lines_after log_after lines_after (event_feeds script e log lines h.log_after h.lines_after are h.happens) h.then_follows

-- ---- the start

new_journal : (script : Script) (plans : List Plan) (from many brick : ℕ) (b : Journal) → slice_get (map (new_brick script plans) (range_with_len from many)) brick ≡ Some b → b.journal ≡ []
new_journal script plans from zero brick b is = absurd cc
new_journal script plans from (suc many) zero b is = let same : new_brick script plans from ≡ b = cc in sym (ap (λ (j : Journal). j.journal) same)
new_journal script plans from (suc many) (suc brick) b is = new_journal script plans (from + 1) many brick b is

start_fed : (script : Script) (plans : List Plan) (many : ℕ) (log : Log) → log.events ≡ [] → AreFed log (with_sent (new_lines script plans many) log.sent)
start_fed script plans many log none = record { delivered = refl; each = each } where
  by_line : (brick : ℕ) (b : Journal) (line : LineState) (o : Option LineState) → slice_get (replicate many empty_line) brick ≡ o → b.journal ≡ []
      → longer_by (inputs_to brick log.sent) o ≡ Some line → IsFed log brick b line
  by_line brick b line None is new found = absurd cc
  by_line brick b line (Some l) is new found =
      let fresh : empty_line ≡ l = all_alike many brick empty_line l is in
      let same : with_inputs (inputs_to brick log.sent) l ≡ line = cc in
      let whole : with_inputs (inputs_to brick log.sent) empty_line ≡ line = ap (with_inputs (inputs_to brick log.sent)) fresh ∙ same in
      subst (λ (x : LineState). IsFed log brick b x) whole
      (record {
        served = ap (λ (j : List (List ℕ)). j ++ inputs_to brick log.sent) new;
        arrived = ap (arrivals_from brick) none;
        few = omega arith;
      })

  each : (brick : ℕ) (b : Journal) (line : LineState) → slice_get (with_sent (new_lines script plans many) log.sent).bricks brick ≡ Some b
      → slice_get (with_sent (new_lines script plans many) log.sent).queues brick ≡ Some line → IsFed log brick b line
  each brick b line there found =
      by_line brick b line (slice_get (replicate many empty_line) brick) refl (new_journal script plans 0 many brick b there)
      (sym (all_put log.sent (replicate many empty_line) brick) ∙ found)

pub worlds_are_fed : WorldsAreFed
worlds_are_fed script plans many log log_after lines_after none reached =
    chain_feeds script reached.events log (with_sent (new_lines script plans many) log.sent) log_after lines_after (start_fed script plans many log none) reached.happen
