-- The steps of a set's node meet the law, by the laws of transactions and copies.
use Rattle.std.proofs.Common.{◌≡◌, ◌∙◌, ℕ, ◌+◌, ◌*◌, ◌-◌, ◌<◌, ◌≤◌, Bool, true, false, ◌&&◌, ◌||◌, ◌==◌, not, nat_le, List, [], ◌∷◌, ◌++◌, map, length, Option, Some, None, refl, sym, ap, subst, arith, if◌then◌else◌}
use Rattle.std.proofs.Math.Bool.{or-true}
use Rattle.std.proofs.Math.Nat.{zero-mul, suc-mul, add-mul}
use Rattle.std.proofs.lemmas.Bool.{and_from, and_parts, true≢false, eqb-true, eq-eqb, leb-true}
use Rattle.fop_types.specs.declared.answers.IoError.TheVariants as io
use Rattle.fop_types.specs.declared.cells.Cell.{Cell}
use Rattle.fop_types.specs.declared.jobs.Job.{Job}
use Rattle.fop_types.specs.declared.jobs.SetPlan.{SetPlan}
use Rattle.fop_types.specs.declared.jobs.SetReply.TheVariants as set_reply
use Rattle.fop_types.specs.declared.messages.BrickRep.{BrickRep}
use Rattle.fop_types.specs.declared.messages.BrickReq.{BrickReq}
use Rattle.afr_ledger.specs.Ledger.{State}
use Rattle.afr_phases.specs.Asked.{is_within, is_waiting, is_named, are_granted_within, AreApart, AreSent}
use Rattle.afr_phases.specs.CopyWork.{HasWork}
use Rattle.afr_phases.specs.Flags.{flags_of}
use Rattle.afr_phases.specs.Waves.{is_asked, is_over}
use Rattle.afr_phases.specs.declared.locks.Locks.{Locks}
use Rattle.afr_phases.specs.declared.wave.Wave.{Wave}
use Rattle.afr_phases.proofs.Asked.{within_at}
use Rattle.afr_transaction.specs.Answers.{answered, copied}
use Rattle.afr_transaction.specs.Shapes.{is_asking, is_copying, suits, GoesOn, BeginsGoOn, AnswersGoOn, AfterAnswer as TxnAfterAnswer, CopiesGoOn as TxnCopiesGoOn}
use Rattle.afr_transaction.specs.declared.need.Need.{Need}
use Rattle.afr_transaction.specs.declared.need.Need.TheVariants as need
use Rattle.afr_transaction.specs.declared.size.Size.{Size}
use Rattle.afr_transaction.specs.declared.txn.Txn.{Txn}
use Rattle.self_heal.specs.declared.run.CopyRun.{CopyRun}
use Rattle.self_heal.specs.declared.stage.CopyNeed.{CopyNeed}
use Rattle.self_heal.specs.declared.stage.CopyNeed.TheVariants as copy_need
use Rattle.self_heal.specs.Runs.{new_run, next_cell, answered as copy_answered}
use Rattle.self_heal.specs.Turning.{is_under_way, is_staged, Begins, AfterAnswer, CopiesBegin, CopiesGoOn}
use Rattle.xlator_law.specs.Law.{Promise, Slots, no_slots, without, IsNone, IsSomeSlot, AreFresh, AreWithin, is_wound, wind_cost, with_winds, IsWinding, IsStep, IsStepFrom}
use Rattle.xlator_law.specs.Law.Cause.{Enter, Reply}
use Rattle.xlator_law.specs.declared.step.Step.{Step}
use Rattle.xlator_law.specs.declared.winds.Entry.{Entry}
use Rattle.graph_items.specs.Items.{ReplyValue}
use Rattle.graph_items.specs.declared.items.Down.{Down}
use Rattle.graph_items.specs.declared.items.Down.TheVariants as down
use Rattle.graph_items.specs.declared.items.Up.{Up}
use Rattle.graph_items.specs.declared.items.Up.TheVariants as up
use Rattle.graph_nodes.specs.declared.context.Context.{Context}
use Rattle.graph_nodes.specs.declared.costs.Shape.TheVariants as shape
use Rattle.graph_nodes.specs.declared.locals.Local.{Local}
use Rattle.graph_nodes.specs.declared.locals.Local.TheVariants as local
use Rattle.graph_nodes.specs.declared.locals.JobState.{JobState}
use Rattle.graph_nodes.specs.declared.kinds.Replicate.{Replicate}
use Rattle.graph_nodes.specs.Costs.{units_of, requests_for, cost_of}
use Rattle.graph_nodes.specs.Moves.{IsMove}
use Rattle.graph_nodes.specs.Moves.Move.{On}
use Rattle.graph_nodes.specs.Nodes.{JobResumes}
use Rattle.graph_nodes.specs.Promises.{owns_by, unanswered_of, promise_of}
use Rattle.graph_nodes.specs.Replicate.{is_asked_by, said_of, wind_of, send_of, refused, copy_begun, recorded, went, turned, on_copy, on_reply, live, lasts, IsBegun}
use Rattle.graph_nodes.specs.Shapes.{waits_well}
use Rattle.graph_nodes.proofs.Steps.{wound, unwound}

-- ---- the winds of requests

eqb_sym : (a b : ℕ) → (a == b) ≡ (b == a)
eqb_sym a b = by (a == b) (b == a) refl refl where
  by : (x y : Bool) → (a == b) ≡ x → (b == a) ≡ y → (a == b) ≡ (b == a)
  by true y e f = e ∙ sym (eq-eqb b a (sym (eqb-true a b e)))
  by false true e f = absurd (true≢false (sym (eq-eqb a b (sym (eqb-true b a f))) ∙ e))
  by false false e f = e ∙ sym f

pub wound_named : (locks : Locks) (list : List (ℕ × BrickReq)) (s : ℕ) → is_wound (map (wind_of locks) list) s ≡ is_named s list
wound_named locks [] s = refl
wound_named locks (r ∷ rs) s = ap (λ (b : Bool). (s == r.0) || b) (wound_named locks rs s) ∙ ap (λ (b : Bool). b || is_named s rs) (eqb_sym s r.0)

fresh_winds : (before : Slots) (locks : Locks) (list : List (ℕ × BrickReq)) → IsNone before → AreApart list → AreFresh before (map (wind_of locks) list)
fresh_winds before locks [] none apart = tt
fresh_winds before locks (r ∷ rs) none apart = (none r.0, wound_named locks rs r.0 ∙ apart.0, fresh_winds before locks rs none apart.1)

within_winds : (n : ℕ) (locks : Locks) (list : List (ℕ × BrickReq)) → ((k : ℕ) → is_named k list ≡ true → k < n) → AreWithin n n (map (wind_of locks) list)
within_winds n locks [] low = tt
within_winds n locks (r ∷ rs) low =
    let here : r.0 < n = low r.0 (ap (λ (b : Bool). b || is_named r.0 rs) (eq-eqb r.0 r.0 refl)) in
    (here, here, within_winds n locks rs (λ k e. low k (ap (λ (b : Bool). (r.0 == k) || b) e ∙ or-true (r.0 == k))))

cost_winds : (sets weight : ℕ) (locks : Locks) (list : List (ℕ × BrickReq)) → wind_cost (λ _ d. units_of sets d * weight) (map (wind_of locks) list) ≡ length list * (1 + weight)
cost_winds sets weight locks [] = sym (zero-mul (1 + weight))
cost_winds sets weight locks (r ∷ rs) =
    let ih = cost_winds sets weight locks rs in
    let m = suc-mul (length rs) (1 + weight) in
    omega (arith, ih, m)

-- somebody is asked
some_asked : (wave : Wave) → is_over wave ≡ false → IsSomeSlot (is_asked wave)
some_asked wave h = first (is_asked wave 0) (is_asked wave 1) (is_asked wave 2) (is_asked wave 3) (is_asked wave 4) refl refl refl refl refl h where
  first : (a b c d e : Bool) → is_asked wave 0 ≡ a → is_asked wave 1 ≡ b → is_asked wave 2 ≡ c → is_asked wave 3 ≡ d → is_asked wave 4 ≡ e → not (a || (b || (c || (d || e)))) ≡ false → IsSomeSlot (is_asked wave)
  first true b c d e at0 at1 at2 at3 at4 h = (0, at0)
  first false true c d e at0 at1 at2 at3 at4 h = (1, at1)
  first false false true d e at0 at1 at2 at3 at4 h = (2, at2)
  first false false false true e at0 at1 at2 at3 at4 h = (3, at3)
  first false false false false true at0 at1 at2 at3 at4 h = (4, at4)
  first false false false false false at0 at1 at2 at3 at4 h = absurd (true≢false h)

-- ---- steps of a set's node

-- what answers a job that can't go on
abbrev pub refused_reply : SetPlan → Up
refused_reply plan = up.Set (set_reply.Io (io.Quorum plan.number []))

-- what the node of a set promises
abbrev pub set_promise : ℕ → ℕ → ℕ → Replicate → Promise Down Local
set_promise sets weight breadth r = promise_of (shape.Set (length r.plan.bricks)) sets weight breadth

module _ (sets weight breadth : ℕ) (r : Replicate) (before : Slots) (most : ℕ) (none : IsNone before) where
  -- requests go out
  pub sent : (txn : Txn) (copy : Option CopyRun) (requests : ℕ) (wave : Wave) (list : List (ℕ × BrickReq)) (s : Step Down Up Local)
      → ((k : ℕ) → is_asked_by txn copy k ≡ is_asked wave k) → AreSent wave list → is_waiting (length r.plan.bricks) wave ≡ true → waits_well (length r.plan.bricks) txn copy ≡ true
      → requests * (1 + weight) ≤ most → IsMove (send_of r.plan (record { txn = txn; copy = copy; requests = requests }) list) s → IsStepFrom (set_promise sets weight breadth r) before most s
  sent txn copy requests wave list s asked out waiting way paid m = by (nat_le (length list) requests) refl m where
    left : JobState
    left = record { txn = txn; copy = copy; requests = requests - length list }

    parts : (not (is_over wave) ≡ true) × (is_within (length r.plan.bricks) wave.asked ≡ true)
    parts = and_parts (not (is_over wave)) (is_within (length r.plan.bricks) wave.asked) waiting

    not_over : (b : Bool) → not b ≡ true → b ≡ false
    not_over true h = absurd (true≢false (sym h))
    not_over false h = refl

    named_asked : (k : ℕ) → is_asked_by txn copy k ≡ with_winds before (map (wind_of txn.locks) list) k
    named_asked k = asked k ∙ sym (ap (λ (b : Bool). b || is_wound (map (wind_of txn.locks) list) k) (none k) ∙ wound_named txn.locks list k ∙ out.asked k)

    some : IsSomeSlot (is_asked_by txn copy)
    some = let s = some_asked wave (not_over (is_over wave) parts.0) in (s.0, asked s.0 ∙ s.1)

    paid_by : length list ≤ requests → wind_cost (λ _ d. units_of sets d * weight) (map (wind_of txn.locks) list) + (requests - length list) * (1 + weight) ≤ most
    paid_by few = rw (cost_winds sets weight txn.locks list) (halves (length list) (requests - length list) (omega (arith, few))) where
      halves : (a b : ℕ) → a + b ≡ requests → a * (1 + weight) + b * (1 + weight) ≤ most
      halves a b e = rw (sym (add-mul a b (1 + weight))) (rw e paid)

    winds : length list ≤ requests → IsWinding (set_promise sets weight breadth r) before most (map (wind_of txn.locks) list) (local.Set left)
    winds few = record {
      fresh = fresh_winds before txn.locks list none out.apart;
      within = within_winds (length r.plan.bricks) txn.locks list (λ k e. within_at (length r.plan.bricks) k wave.asked parts.1 (sym (out.asked k) ∙ e));
      paid = paid_by few;
      kept = named_asked;
      some = some;
      going = refl;
      own = way;
    }

    by : (b : Bool) → nat_le (length list) requests ≡ b → IsMove (if b then On (map (wind_of txn.locks) list) (local.Set left) else refused r.plan) s → IsStepFrom (set_promise sets weight breadth r) before most s
    by true e m = wound (set_promise sets weight breadth r) before most (map (wind_of txn.locks) list) (local.Set left) s (winds (leb-true (length list) requests e)) m
    by false e m = unwound (set_promise sets weight breadth r) before most (refused_reply r.plan) s none m

  -- what the transaction needs next, where nobody is asked before it
  module _ (few : length r.plan.bricks ≤ 5) (copies : CopiesBegin) where
    pub goes : (size : Size) (txn : Txn) (requests : ℕ) (cx : Context) (need : Need) (s : Step Down Up Local) → size.n ≡ length r.plan.bricks → GoesOn size txn need
        → requests * (1 + weight) ≤ most → IsMove (went r.plan txn requests cx need).move s → IsStepFrom (set_promise sets weight breadth r) before most s
    goes size txn requests cx (need.Send list) s count g paid m =
        let same : txn.size.n ≡ length r.plan.bricks = ap (λ (z : Size). z.n) g.0 ∙ count in
        let waiting = (and_parts (is_waiting txn.size.n txn.wave) (are_granted_within txn.size.n txn.locks && suits txn.phase txn) g.1.0).0 in
        sent txn None requests txn.wave list s (λ k. refl) g.1.1 (subst (λ (m : ℕ). is_waiting m txn.wave ≡ true) same waiting)
        (and_from (txn.size.n == length r.plan.bricks) (is_asking txn) (eq-eqb txn.size.n (length r.plan.bricks) same) g.1.0) paid m
    goes size txn requests cx (need.Copy job rows) s count g paid m =
        let work = subst (λ (m : ℕ). HasWork m job) count g.1.1 in
        let same : txn.size.n ≡ length r.plan.bricks = ap (λ (z : Size). z.n) g.0 ∙ count in
        begun same g.1.0 (next_cell (new_run job rows)) (copies (length r.plan.bricks) job rows few work) m where
          begun : txn.size.n ≡ length r.plan.bricks → is_copying txn ≡ true → (t : CopyRun × CopyNeed) → Begins (length r.plan.bricks) t.0 t.1 → IsMove (copy_begun r.plan txn requests t) s → IsStepFrom (set_promise sets weight breadth r) before most s
          begun same copying (run, copy_need.Send list) b m =
              sent txn (Some run) requests run.wave list s (λ k. refl) b.1 (and_parts (is_waiting (length r.plan.bricks) run.wave) (is_within (length r.plan.bricks) (flags_of run.job.held) && is_staged run.stage run) b.0).0
              (and_from (txn.size.n == length r.plan.bricks) (is_copying txn && is_under_way (length r.plan.bricks) run) (eq-eqb txn.size.n (length r.plan.bricks) same) (and_from (is_copying txn) (is_under_way (length r.plan.bricks) run) copying b.0)) paid m
          begun same copying (run, copy_need.Done done) b m = absurd b
          begun same copying (run, copy_need.Wait) b m = absurd b
    goes size txn requests cx (need.Reply reply) s count g paid m = unwound (set_promise sets weight breadth r) before most (up.Set reply) s none m
    goes size txn requests cx need.Wait s count g paid m = absurd g

-- ---- a job begins

module _ (sets weight breadth : ℕ) (r : Replicate) (begins : BeginsGoOn) (copies : CopiesBegin) where
  -- what a job may spend
  paid_enter : (j : Job) → requests_for (length r.plan.bricks) * (1 + weight) ≤ cost_of (shape.Set (length r.plan.bricks)) sets weight (down.Job j)
  paid_enter j = omega arith

  none : IsNone no_slots
  none s = refl

  pub begun : (cx cx_new : Context) (entry : Entry) (d : Down) (s : Step Down Up Local) → IsBegun r.plan cx entry.call d s cx_new → IsStep (set_promise sets weight breadth r) (Enter entry d) s
  begun cx cx_new entry (down.Job j) s h =
      let started_is = h.begun.turn in
      let g = begins h.begun.size r.plan entry.call j cx.ledger (live r.plan cx.clients) (lasts r.plan cx.clients) in
      let g2 = subst (λ (t : Txn × Need). GoesOn h.begun.size t.0 t.1) (sym started_is) g in
      goes sets weight breadth r no_slots (cost_of (shape.Set (length r.plan.bricks)) sets weight (down.Job j)) none r.few copies h.begun.size h.txn (requests_for (length r.plan.bricks)) cx h.need s h.begun.replicas g2 (paid_enter j) h.turn.move
  begun cx cx_new entry (down.Fop f) s h = unwound (set_promise sets weight breadth r) no_slots (cost_of (shape.Set (length r.plan.bricks)) sets weight (down.Fop f)) (refused_reply r.plan) s none h.move
  begun cx cx_new entry (down.Request q) s h = unwound (set_promise sets weight breadth r) no_slots (cost_of (shape.Set (length r.plan.bricks)) sets weight (down.Request q)) (refused_reply r.plan) s none h.move

-- ---- a replica answers

module _ (sets weight breadth : ℕ) (r : Replicate) (answers : AnswersGoOn) (done : TxnCopiesGoOn) (copies : CopiesBegin) (copy_answers : CopiesGoOn) (cx : Context) (requests : ℕ) (s : Step Down Up Local) where
  -- the frame waits on, for those who have not answered
  waits : (txn : Txn) (copy : Option CopyRun) (before : Slots) (wave : Wave) → ((k : ℕ) → is_asked_by txn copy k ≡ is_asked wave k) → ((k : ℕ) → is_asked wave k ≡ before k) → is_over wave ≡ false
      → waits_well (length r.plan.bricks) txn copy ≡ true → IsMove (On [] (local.Set (record { txn = txn; copy = copy; requests = requests }))) s → IsStepFrom (set_promise sets weight breadth r) before (requests * (1 + weight)) s
  waits txn copy before wave asked others not_over way m = wound (set_promise sets weight breadth r) before (requests * (1 + weight)) [] (local.Set (record { txn = txn; copy = copy; requests = requests })) s (record {
    fresh = tt;
    within = tt;
    paid = omega arith;
    kept = λ k. asked k ∙ others k ∙ sym (or_none (before k));
    some = let some = some_asked wave not_over in (some.0, asked some.0 ∙ some.1);
    going = refl;
    own = way;
  }) m where
    or_none : (b : Bool) → (b || false) ≡ b
    or_none true = refl
    or_none false = refl

  not_over : (m : ℕ) (wave : Wave) → is_waiting m wave ≡ true → is_over wave ≡ false
  not_over m wave h = by (is_over wave) refl (and_parts (not (is_over wave)) (is_within m wave.asked) h).0 where
    by : (b : Bool) → is_over wave ≡ b → not b ≡ true → is_over wave ≡ false
    by true e h = absurd (true≢false (sym h))
    by false e h = e

  pub answered_lawful : (txn : Txn) (slot mark : ℕ) (rep : BrickRep) → waits_well (length r.plan.bricks) txn None ≡ true → is_asked txn.wave slot ≡ true
      → IsMove (turned r.plan requests cx (answered txn slot rep mark cx.ledger (live r.plan cx.clients) (lasts r.plan cx.clients))).move s
      → IsStepFrom (set_promise sets weight breadth r) (without slot (is_asked txn.wave)) (requests * (1 + weight)) s
  answered_lawful txn slot mark rep way asked m =
      let parts = and_parts (txn.size.n == length r.plan.bricks) (is_asking txn) way in
      by (eqb-true txn.size.n (length r.plan.bricks) parts.0) (answered txn slot rep mark cx.ledger (live r.plan cx.clients) (lasts r.plan cx.clients)) (answers txn slot mark rep cx.ledger (live r.plan cx.clients) (lasts r.plan cx.clients) parts.1 asked) m where
        by : txn.size.n ≡ length r.plan.bricks → (t : Txn × (Need × State Cell)) → TxnAfterAnswer txn.size slot txn.wave t.0 t.1.0 → IsMove (turned r.plan requests cx t).move s → IsStepFrom (set_promise sets weight breadth r) (without slot (is_asked txn.wave)) (requests * (1 + weight)) s
        by count (t, (need.Send list, ledger)) a m = goes sets weight breadth r (without slot (is_asked txn.wave)) (requests * (1 + weight)) a.0 r.few copies txn.size t requests (record cx { ledger = ledger }) (need.Send list) s count a.1 (omega arith) m
        by count (t, (need.Copy job rows, ledger)) a m = goes sets weight breadth r (without slot (is_asked txn.wave)) (requests * (1 + weight)) a.0 r.few copies txn.size t requests (record cx { ledger = ledger }) (need.Copy job rows) s count a.1 (omega arith) m
        by count (t, (need.Reply reply, ledger)) a m = goes sets weight breadth r (without slot (is_asked txn.wave)) (requests * (1 + weight)) a.0 r.few copies txn.size t requests (record cx { ledger = ledger }) (need.Reply reply) s count a.1 (omega arith) m
        by count (t, (need.Wait, ledger)) a m =
            let same : t.size.n ≡ length r.plan.bricks = ap (λ (z : Size). z.n) a.0 ∙ count in
            let waiting = (and_parts (is_waiting t.size.n t.wave) (are_granted_within t.size.n t.locks && suits t.phase t) a.1.0).0 in
            waits t None (without slot (is_asked txn.wave)) t.wave (λ k. refl) a.1.1 (not_over t.size.n t.wave waiting)
            (and_from (t.size.n == length r.plan.bricks) (is_asking t) (eq-eqb t.size.n (length r.plan.bricks) same) a.1.0) m

  pub copy_lawful : (txn : Txn) (run : CopyRun) (slot mark : ℕ) (rep : BrickRep) → waits_well (length r.plan.bricks) txn (Some run) ≡ true → is_asked run.wave slot ≡ true
      → IsMove (on_copy r.plan requests cx txn (copy_answered run slot rep mark)).move s
      → IsStepFrom (set_promise sets weight breadth r) (without slot (is_asked run.wave)) (requests * (1 + weight)) s
  copy_lawful txn run slot mark rep way asked m =
      let parts = and_parts (txn.size.n == length r.plan.bricks) (is_copying txn && is_under_way (length r.plan.bricks) run) way in
      let both = and_parts (is_copying txn) (is_under_way (length r.plan.bricks) run) parts.1 in
      by (eqb-true txn.size.n (length r.plan.bricks) parts.0) parts.0 both.0 (copy_answered run slot rep mark) (copy_answers (length r.plan.bricks) slot mark run rep r.few both.1 asked) m where
        by : txn.size.n ≡ length r.plan.bricks → (txn.size.n == length r.plan.bricks) ≡ true → is_copying txn ≡ true → (t : CopyRun × CopyNeed) → AfterAnswer (length r.plan.bricks) slot run.wave t.0 t.1
            → IsMove (on_copy r.plan requests cx txn t).move s → IsStepFrom (set_promise sets weight breadth r) (without slot (is_asked run.wave)) (requests * (1 + weight)) s
        by count same copying (run2, copy_need.Send list) a m =
            sent sets weight breadth r (without slot (is_asked run.wave)) (requests * (1 + weight)) a.0 txn (Some run2) requests run2.wave list s (λ k. refl) a.1.1 (and_parts (is_waiting (length r.plan.bricks) run2.wave) (is_within (length r.plan.bricks) (flags_of run2.job.held) && is_staged run2.stage run2) a.1.0).0
            (and_from (txn.size.n == length r.plan.bricks) (is_copying txn && is_under_way (length r.plan.bricks) run2) same (and_from (is_copying txn) (is_under_way (length r.plan.bricks) run2) copying a.1.0)) (omega arith) m
        by count same copying (run2, copy_need.Done made) a m =
            let cx2 = recorded r.plan.bricks cx made.records in
            goes sets weight breadth r (without slot (is_asked run.wave)) (requests * (1 + weight)) a.0 r.few copies txn.size (copied txn made cx.ledger (live r.plan cx.clients) (lasts r.plan cx.clients)).0 requests (record cx2 { ledger = (copied txn made cx.ledger (live r.plan cx.clients) (lasts r.plan cx.clients)).1.1 }) (copied txn made cx.ledger (live r.plan cx.clients) (lasts r.plan cx.clients)).1.0 s count
            (done txn made cx.ledger (live r.plan cx.clients) (lasts r.plan cx.clients) copying) (omega arith) m
        by count same copying (run2, copy_need.Wait) a m =
            waits txn (Some run2) (without slot (is_asked run.wave)) run2.wave (λ k. refl) a.1 (not_over (length r.plan.bricks) run2.wave (and_parts (is_waiting (length r.plan.bricks) run2.wave) (is_within (length r.plan.bricks) (flags_of run2.job.held) && is_staged run2.stage run2) a.0).0)
            (and_from (txn.size.n == length r.plan.bricks) (is_copying txn && is_under_way (length r.plan.bricks) run2) same (and_from (is_copying txn) (is_under_way (length r.plan.bricks) run2) copying a.0)) m

  pub resumed : (txn : Txn) (copy : Option CopyRun) (slot : ℕ) (said : ReplyValue) → waits_well (length r.plan.bricks) txn copy ≡ true → is_asked_by txn copy slot ≡ true
      → IsMove (on_reply r.plan requests cx txn copy slot said).move s
      → IsStepFrom (set_promise sets weight breadth r) (without slot (is_asked_by txn copy)) (requests * (1 + weight)) s
  resumed txn None slot said way asked m = answered_lawful txn slot said.mark said.rep way asked m
  resumed txn (Some run) slot said way asked m = copy_lawful txn run slot said.mark said.rep way asked m

module _ (sets weight breadth : ℕ) (r : Replicate) (answers : AnswersGoOn) (done : TxnCopiesGoOn) (copies : CopiesBegin) (copy_answers : CopiesGoOn) (cx cx_new : Context) (slot : ℕ) (reply : Up) (s : Step Down Up Local) where
  pub job_resumes : (l : Local) → owns_by (shape.Set (length r.plan.bricks)) l ≡ true → unanswered_of l slot ≡ true → JobResumes r cx l slot reply s cx_new → IsStep (set_promise sets weight breadth r) (Reply l slot reply) s
  job_resumes (local.Set frame) own asked h = resumed sets weight breadth r answers done copies copy_answers cx frame.requests s frame.txn frame.copy slot (said_of reply) own asked h.move
  job_resumes local.Relay own asked h = absurd h
  job_resumes (local.Queued what) own asked h = absurd h
  job_resumes (local.Pages read) own asked h = absurd h
  job_resumes (local.Distribute frame) own asked h = absurd h
