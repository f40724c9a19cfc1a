-- All that a graph has given is written down, where memory suffices for each part.
use Rattle.std.proofs.Common.{◌≡◌, ℕ, List, [], ◌∷◌, ◌++◌, map, Option, Result, Ok, Err, IsOk, IfOk, IfSome, OnOk, ap, sym, subst, ◌∙◌, append_assoc}
use Rattle.std.specs.Result.{result_and}
use Rattle.graph_nodes.specs.Among.{Start, SeemsToGive}
use Rattle.graph_nodes.specs.Mounted.{Mounted}
use Rattle.graph_nodes.specs.declared.moved.Moved.{Moved}
use Rattle.mount_log.specs.Logs.{with_winds}
use Rattle.xlator_law.specs.declared.winds.Stop.{Stop}
use Rattle.hub_calls.specs.Noted.{noted_lines, answer_item, noted_items, noted, noted_by, IsNoted}
use Rattle.hub_calls.specs.declared.parts.Parts.{Parts}
use Rattle.hub_calls.specs.declared.turn.Todo.{Todo}
use Rattle.hub_calls.specs.declared.turn.Todo.TheVariants.{Take}
use Rattle.hub_calls.specs.declared.turn.Turn.{Turn}

module _ (graph : ℕ) (m : Moved) where
  abbrev pub taken : Todo
  taken = Take (record { graph = graph; sends = m.sends; holds = m.holds })

  module _ (old wound copied skipped after : Turn) (todo : List Todo) where
    whole : wound ≡ record old { lines = with_winds old.lines 0 graph m.winds } → copied ≡ record wound { lines = record (wound.lines) { copies = wound.lines.copies ++ m.copies } }
        → skipped ≡ record copied { lines = record (copied.lines) { skips = copied.lines.skips ++ m.skips } } → todo ≡ skipped.todo ++ taken ∷ [] → after ≡ record skipped { todo = todo ++ map answer_item m.answers }
        → after ≡ noted graph m old
    whole winds copies skips item answers =
        let lines : skipped ≡ record old { lines = noted_lines graph m old.lines } =
        skips ∙ ap (λ (t : Turn). record t { lines = record (t.lines) { skips = t.lines.skips ++ m.skips } }) (copies ∙ ap (λ (t : Turn). record t { lines = record (t.lines) { copies = t.lines.copies ++ m.copies } }) winds) in
        let items : todo ++ map answer_item m.answers ≡ skipped.todo ++ noted_items graph m =
        ap (λ (ts : List Todo). ts ++ map answer_item m.answers) item ∙ append_assoc skipped.todo (taken ∷ []) (map answer_item m.answers) in
        answers ∙ ap (λ (ts : List Todo). record skipped { todo = ts }) items ∙ ap (λ (t : Turn). record t { todo = t.todo ++ noted_items graph m }) lines

    pub all_noted : {T E : Type 0} (a b c d e : Result T E) → OnOk a (wound ≡ record old { lines = with_winds old.lines 0 graph m.winds }) → OnOk b (copied ≡ record wound { lines = record (wound.lines) { copies = wound.lines.copies ++ m.copies } })
        → OnOk c (skipped ≡ record copied { lines = record (copied.lines) { skips = copied.lines.skips ++ m.skips } }) → OnOk d (todo ≡ skipped.todo ++ taken ∷ []) → OnOk e (after ≡ record skipped { todo = todo ++ map answer_item m.answers })
        → OnOk (result_and (result_and (result_and (result_and a b) c) d) e) (after ≡ noted graph m old)
    all_noted (Ok a) (Ok b) (Ok c) (Ok d) (Ok e) winds copies skips item answers = whole winds copies skips item answers
    all_noted (Ok a) (Ok b) (Ok c) (Ok d) (Err e) winds copies skips item answers = tt
    all_noted (Ok a) (Ok b) (Ok c) (Err d) e winds copies skips item answers = tt
    all_noted (Ok a) (Ok b) (Err c) d e winds copies skips item answers = tt
    all_noted (Ok a) (Err b) c d e winds copies skips item answers = tt
    all_noted (Err a) b c d e winds copies skips item answers = tt

-- a graph was moved, and what it gave is written down
pub is_noted : {U : Type 0} (graph : ℕ) (starts : Start) (graphs : Mounted) (moved_on new : Parts) (r : Result U Stop) (moved : Result (Option Moved) Stop) → OnOk r (IsOk moved)
    → IfOk moved (λ given. OnOk r (new ≡ record moved_on { turn = noted_by graph given moved_on.turn })) → IfOk moved (λ given. IfSome given (λ m. SeemsToGive graph starts graphs m moved_on.graphs.nodes)) → OnOk r (IsNoted graph starts graphs moved_on.turn new)
is_noted graph starts graphs moved_on new (Ok x) (Ok given) ok noted gives = record {
  moved = given;
  gives = subst (λ (p : Parts). IfSome given (λ m. SeemsToGive graph starts graphs m p.graphs.nodes)) (sym noted) gives;
  noted = ap (λ (p : Parts). p.turn) noted;
}
is_noted graph starts graphs moved_on new (Ok x) (Err s) ok noted gives = absurd cc
is_noted graph starts graphs moved_on new (Err s) moved ok noted gives = tt
