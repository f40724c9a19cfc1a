-- A connected graph that fetches, marks, changes and posts is answered request by request, by the cells alone.
use Rattle.std.proofs.Common.{◌≡◌, ◌∙◌, ◌++◌, ◌∷◌, ◌+◌, ◌==◌, ◌||◌, [], ℕ, Bool, true, false, List, map, refl, sym, ap, subst}
use Rattle.std.specs.Prelude.{Option, Some, None, is_some, if◌then◌else◌}
use Rattle.std.specs.Ordering.{nat_cmp}
use Rattle.std.specs.List.{list_any}
use Rattle.std.specs.BTreeMap.{is_at, insert_entry}
use Rattle.std.proofs.lemmas.Cmp.{tied_itself, nat_cmp_total}
use Rattle.std.specs.Set.{remove_key}
use Rattle.fop_types.specs.Bounds.{Each}
use Rattle.fop_types.specs.declared.messages.BrickReq.{BrickReq}
use Rattle.fop_types.specs.declared.messages.BrickReq.TheVariants as req
use Rattle.fop_types.specs.declared.messages.BrickRep.{BrickRep}
use Rattle.fop_types.specs.declared.messages.BrickRep.TheVariants.{Gone, Fault, BadFd}
use Rattle.fop_types.specs.declared.messages.Input.{Input}
use Rattle.fop_types.specs.declared.messages.Input.TheVariants.{Request, Connect}
use Rattle.fop_types.specs.declared.messages.OutKind.{OutKind}
use Rattle.fop_types.specs.declared.messages.OutKind.TheVariants.{Reply, Connected}
use Rattle.fop_types.specs.declared.messages.Output.{Output}
use Rattle.fop_types.specs.declared.store_ops.StoreOp.{StoreOp}
use Rattle.wire_xdr.specs.WireText.{input_text, IsInput}
use Rattle.wire_messages.specs.Messages.{input_in}
use Rattle.wire_messages.specs.declared.messages.Message.{Message}
use Rattle.wire_messages.specs.declared.messages.Message.TheVariants.{Whole}
use Rattle.wire_messages.proofs.ReadBack.{input_read_back}
use Rattle.cell_store.specs.Cells.{Cells, kept_at, copy_of, applied, marked, posted, root_alone}
use Rattle.brick_machine.specs.Connections.{Connections, fds_of, is_among, is_connected, is_good}
use Rattle.brick_machine.specs.State.{proc_of, failing_cmp, request_after, is_to_fail, start}
use Rattle.brick_machine.specs.declared.faults.Failing.{Failing}
use Rattle.brick_machine.specs.Locking.{Served}
use Rattle.brick_machine.specs.Serving.{after_op, fetched, change_answer, counted, replied, changed, served_now, unless_failing, request_down, request_up, request_served}
use Rattle.brick_machine.specs.Machine.{served, with_taken, state_from, outputs_from}
use Rattle.brick_machine.specs.Plain.{Plain, request_of, plain_answer, after_plain, IsCalm, IsServedPlainly, CalmStatesAnswerPlainly, PlainAsked, input_by, replies_from, cells_through, PlainRunsAreAnswered}
use Rattle.brick_machine.specs.Plain.Plain.{Fetch, Mark, Op, Post}
use Rattle.brick_machine.specs.declared.late.Late.{Late}
use Rattle.brick_machine.specs.declared.state.State.{State}

-- served with this reply, and calm with these cells after it
record IsOne (graph wind : ℕ) (cells : Cells) (rep : BrickRep) (by : Served) : Type 0 where
  outs : by.outs ≡ Reply wind rep ∷ []
  calm : IsCalm graph cells by.state

module _ (graph wind : ℕ) where
  when_false : (cells : Cells) (rep : BrickRep) (b : Bool) (x y : Served) → b ≡ false → IsOne graph wind cells rep y → IsOne graph wind cells rep (if b then x else y)
  when_false cells rep true x y h one = absurd cc
  when_false cells rep false x y h one = one

  when_true : (cells : Cells) (rep : BrickRep) (b : Bool) (x y : Served) → b ≡ true → IsOne graph wind cells rep x → IsOne graph wind cells rep (if b then x else y)
  when_true cells rep true x y h one = one
  when_true cells rep false x y h one = absurd cc

  -- no descriptor is open, so a request may name none
  or_none : (b : Bool) → (b || false) ≡ b
  or_none true = refl
  or_none false = refl

  named : (graphs : Connections) (fd : ℕ) → fds_of graphs graph ≡ Some [] → is_good graphs graph fd ≡ (fd == 0)
  named graphs fd there = ap (λ (o : Option (List ℕ)). (fd == 0) || is_among fd o) there ∙ or_none (fd == 0)

  by_fd : (none good : Bool) (cells other : Cells) (rep : BrickRep) (x y : Served) → good ≡ none → IsOne graph wind cells rep x → IsOne graph wind other BadFd y
      → IsOne graph wind (if none then cells else other) (if none then rep else BadFd) (if good then x else y)
  by_fd true true cells other rep x y h one bad = one
  by_fd true false cells other rep x y h one bad = absurd cc
  by_fd false true cells other rep x y h one bad = absurd cc
  by_fd false false cells other rep x y h one bad = bad

  one_now : (cells : Cells) (s : State) (p : Plain) → IsCalm graph cells s → IsOne graph wind (after_plain cells p) (plain_answer cells p) (served_now s wind graph (request_of p))
  one_now cells s (Mark change those) calm =
      record { outs = refl; calm = record { up = calm.up; there = calm.there; trusted = calm.trusted; cells_are = ap (marked those) calm.cells_are } }
  one_now cells s (Post change those mask) calm =
      record { outs = refl; calm = record { up = calm.up; there = calm.there; trusted = calm.trusted; cells_are = ap (posted those mask) calm.cells_are } }
  one_now cells s (Op change fd op) calm =
      by_fd (fd == 0) (is_good s.graphs graph fd) _ _ _ _ _ (named s.graphs fd calm.there)
      (record {
        outs = ap (λ (c : Cells). Reply wind (change_answer (is_some (applied c change op))) ∷ []) calm.cells_are;
        calm = record { up = calm.up; there = calm.there; trusted = calm.trusted; cells_are = ap (λ (c : Cells). after_op c (applied c change op)) calm.cells_are };
      })
      (record { outs = refl; calm = calm })
  one_now cells s (Fetch fd cell) calm = same (fd == 0) (by_fd (fd == 0) (is_good s.graphs graph fd) cells cells _ _ _ (named s.graphs fd calm.there)
      (record { outs = ap (λ (c : Cells). Reply wind (fetched (copy_of (kept_at c cell))) ∷ []) calm.cells_are; calm = calm })
      (record { outs = refl; calm = calm }))
    where
      same : {rep : BrickRep} {by : Served} (b : Bool) → IsOne graph wind (if b then cells else cells) rep by → IsOne graph wind cells rep by
      same true one = one
      same false one = one

  counted_calm : (cells : Cells) (s : State) (r : BrickReq) → IsCalm graph cells s → IsCalm graph cells (counted s r)
  counted_calm cells s r calm = record {
    up = calm.up;
    there = calm.there;
    trusted = ap (λ (l : List Failing). remove_key (is_at (failing_cmp (request_after s.faults (proc_of r) 1))) l) calm.trusted;
    cells_are = calm.cells_are;
  }

  one_of : (cells : Cells) (s : State) (p : Plain) → IsCalm graph cells s → IsOne graph wind (after_plain cells p) (plain_answer cells p) (request_served s wind graph (request_of p))
  one_of cells s p calm =
      let r : BrickReq = request_of p in
      when_false _ _ (is_some s.down) (request_down s wind graph r) (request_up s wind graph r) (ap (λ (d : Option Late). is_some d) calm.up)
      (when_true _ _ (is_connected s.graphs graph) (unless_failing s wind r (served_now (counted s r) wind graph r)) (replied s wind Gone)
      (ap (λ (d : Option (List ℕ)). is_some d) calm.there)
      (when_false _ _ (is_to_fail s.faults (proc_of r)) (replied (counted s r) wind Fault) (served_now (counted s r) wind graph r)
      (ap (λ (l : List Failing). list_any (is_at (failing_cmp (request_after s.faults (proc_of r) 1))) l) calm.trusted)
      (one_now cells (counted s r) p (counted_calm cells s r calm))))

pub calm_answers : CalmStatesAnswerPlainly
calm_answers graph wind cells p s calm = let one = one_of graph wind cells s p calm in record { outs = one.outs; calm = one.calm }

-- ---- one input after another

module _ (graph : ℕ) where
  -- the run of the inputs, in a calm state
  record IsRun (before : ℕ) (cells : Cells) (asked : List PlainAsked) (s : State) : Type 0 where
    outputs : outputs_from s before (map (λ a. input_text (input_by graph a)) asked) ≡ replies_from before cells asked
    calm : IsCalm graph (cells_through cells asked) (state_from s (map (λ a. input_text (input_by graph a)) asked))

  step : (before : ℕ) (cells : Cells) (a : PlainAsked) (asked : List PlainAsked) (s : State) (by : Served) → IsOne graph a.wind (after_plain cells a.request) (plain_answer cells a.request) by
      → served s (input_in (input_text (input_by graph a))) ≡ by → IsRun (before + 1) (after_plain cells a.request) asked by.state → IsRun before cells (a ∷ asked) s
  step before cells a asked s by one read later = record {
    outputs = (ap (λ (t : Served). with_taken (before + 1) t.outs ++ outputs_from t.state (before + 1) (map (λ a. input_text (input_by graph a)) asked)) read
        ∙ ap (λ (l : List OutKind). with_taken (before + 1) l ++ outputs_from by.state (before + 1) (map (λ a. input_text (input_by graph a)) asked)) one.outs
        ∙ ap (λ (l : List Output). record { taken = before + 1; kind = Reply a.wind (plain_answer cells a.request) } ∷ l) later.outputs);
    calm = subst (λ (t : Served). IsCalm graph (cells_through (after_plain cells a.request) asked) (state_from t.state (map (λ a. input_text (input_by graph a)) asked))) (sym read) later.calm;
  }

  run : (before : ℕ) (cells : Cells) (asked : List PlainAsked) (s : State) → Each (λ a. IsInput (input_by graph a)) asked → IsCalm graph cells s → IsRun before cells asked s
  run before cells [] s legal calm = record { outputs = refl; calm = calm }
  run before cells (a ∷ asked) s legal calm =
      let one = one_of graph a.wind cells s a.request calm in
      step before cells a asked s (request_served s a.wind graph (request_of a.request)) one
      (ap (served s) (input_read_back (input_by graph a) legal.0))
      (run (before + 1) (after_plain cells a.request) asked (request_served s a.wind graph (request_of a.request)).state legal.1 one.calm)

fresh : (n : ℕ) → fds_of (insert_entry nat_cmp [] n []) n ≡ Some []
fresh n = rw (tied_itself nat_cmp_total n) refl

pub plain_runs : PlainRunsAreAnswered
plain_runs graph version asked legal plain =
    let inputs : List (List ℕ) = map (λ a. input_text (input_by graph a)) asked in
    let read : input_in (input_text (Connect graph version)) ≡ Whole (Connect graph version) = input_read_back (Connect graph version) legal in
    let later = run graph 1 root_alone asked (served start (Whole (Connect graph version))).state plain (record { up = refl; there = fresh graph; trusted = refl; cells_are = refl }) in
    record {
      outputs = (ap (λ (m : Message Input). with_taken (0 + 1) (served start m).outs ++ outputs_from (served start m).state (0 + 1) inputs) read
          ∙ ap (λ (l : List Output). record { taken = 1; kind = Connected graph version } ∷ l) later.outputs);
      calm = subst (λ (m : Message Input). IsCalm graph (cells_through root_alone asked) (state_from (served start m).state inputs)) (sym read) later.calm;
    }
