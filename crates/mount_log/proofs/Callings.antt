-- The calls of some events are those that the events submit, each in its graph.
use Rattle.std.proofs.Common.{◌≡◌, refl, sym, ap, subst, ◌∙◌, arith}
use Rattle.std.specs.Prelude.{ℕ, zero, suc, ◌≢◌, ◌+◌, ◌-◌, ◌<◌, ◌≤◌, ◌==◌, Bool, true, false, List, [], ◌∷◌, Option, None, Some, length, take, slice_get, if◌then◌else◌}
use Rattle.std.proofs.lemmas.Bool.{eqb-false}
use Rattle.script_lang.specs.declared.scripts.Action.TheVariants as action
use Rattle.mount_log.proofs.Items.{some_is}
use Rattle.mount_log.specs.Connections.{graph_of_call}
use Rattle.mount_log.specs.Graphs.{switches_in, switched_by}
use Rattle.mount_log.specs.Submissions.{submit_event, submitted_at}
use Rattle.mount_log.specs.declared.logs.HubEvent.{HubEvent}
use Rattle.mount_log.specs.declared.logs.HubEvent.TheVariants as logged
use Rattle.mount_log.specs.declared.logs.Log.{Log}
use Rattle.mount_log.specs.CallGraphs.{calls_from, call_at, IsCallAt}
use Rattle.mount_log.specs.declared.call_graphs.CallAt.{CallAt}

record IsFound (last graph : ℕ) (es : List HubEvent) (i : ℕ) (c : CallAt) : Type 0 where
  pub later : last < c.event
  pub event_is : submit_event last es (suc i) ≡ c.event
  pub graph_is : c.graph ≡ graph + length (switches_in (take (c.event - 1 - last) es))

-- a call of the events behind the first
behind : (last graph n : ℕ) (e : HubEvent) (es : List HubEvent) (i j : ℕ) (c : CallAt) → submit_event last (e ∷ es) (suc j) ≡ submit_event (last + 1) es (suc i)
    → ((rest : List ℕ) → length (switched_by e rest) ≡ n + length rest) → IsFound (last + 1) (graph + n) es i c → IsFound last graph (e ∷ es) j c
behind last graph n e es i j c same made f =
    let later = f.later in let k : ℕ = c.event - 1 - (last + 1) in let next : c.event - 1 - last ≡ suc (c.event - 1 - (last + 1)) = omega (arith, later) in
    let long : length (switches_in (take (c.event - 1 - last) (e ∷ es))) ≡ n + length (switches_in (take k es)) =
    ap (λ (m : ℕ). length (switches_in (take m (e ∷ es)))) next ∙ made (switches_in (take k es)) in
    let g : c.graph ≡ graph + n + length (switches_in (take k es)) = f.graph_is in
    record { later = omega (arith, later); event_is = same ∙ f.event_is; graph_is = omega (arith, long, g) }

first : (last graph session line : ℕ) (es : List HubEvent) → IsFound last graph (logged.Submit session line ∷ es) 0 (record { event = last + 1; graph = graph })
first last graph session line es =
    let none : last + 1 - 1 - last ≡ 0 = omega arith in
    let long : length (switches_in (take (last + 1 - 1 - last) (logged.Submit session line ∷ es))) ≡ 0 = ap (λ (m : ℕ). length (switches_in (take m (logged.Submit session line ∷ es)))) none in
    record { later = omega arith; event_is = refl; graph_is = omega (arith, long) }

call_found : (last graph : ℕ) (es : List HubEvent) (i : ℕ) (c : CallAt) → slice_get (calls_from last graph es) i ≡ Some c → IsFound last graph es i c
call_found last graph [] i c is = absurd cc
call_found last graph (logged.Submit session line ∷ es) zero c is =
    subst (λ (x : CallAt). IsFound last graph (logged.Submit session line ∷ es) 0 x) (some_is (record { event = last + 1; graph = graph }) c is) (first last graph session line es)
call_found last graph (logged.Submit session line ∷ es) (suc i) c is = behind last graph 0 (logged.Submit session line) es i (suc i) c refl (λ rest. omega arith) (call_found (last + 1) (graph + 0) es i c is)
call_found last graph (logged.Act (action.Switch volfile) ∷ es) i c is = behind last graph 1 (logged.Act (action.Switch volfile)) es i i c refl (λ rest. omega arith) (call_found (last + 1) (graph + 1) es i c is)
call_found last graph (logged.Act (action.Down brick serve) ∷ es) i c is = behind last graph 0 (logged.Act (action.Down brick serve)) es i i c refl (λ rest. omega arith) (call_found (last + 1) (graph + 0) es i c is)
call_found last graph (logged.Act (action.Up brick) ∷ es) i c is = behind last graph 0 (logged.Act (action.Up brick)) es i i c refl (λ rest. omega arith) (call_found (last + 1) (graph + 0) es i c is)
call_found last graph (logged.Act (action.Cut brick) ∷ es) i c is = behind last graph 0 (logged.Act (action.Cut brick)) es i i c refl (λ rest. omega arith) (call_found (last + 1) (graph + 0) es i c is)
call_found last graph (logged.Act (action.Fault brick p number) ∷ es) i c is = behind last graph 0 (logged.Act (action.Fault brick p number)) es i i c refl (λ rest. omega arith) (call_found (last + 1) (graph + 0) es i c is)
call_found last graph (logged.Act action.Heal ∷ es) i c is = behind last graph 0 (logged.Act action.Heal) es i i c refl (λ rest. omega arith) (call_found (last + 1) (graph + 0) es i c is)
call_found last graph (logged.Arrive brick bytes ∷ es) i c is = behind last graph 0 (logged.Arrive brick bytes) es i i c refl (λ rest. omega arith) (call_found (last + 1) (graph + 0) es i c is)
call_found last graph (logged.Run of task ∷ es) i c is = behind last graph 0 (logged.Run of task) es i i c refl (λ rest. omega arith) (call_found (last + 1) (graph + 0) es i c is)
call_found last graph (logged.Arm brick p count a ∷ es) i c is = behind last graph 0 (logged.Arm brick p count a) es i i c refl (λ rest. omega arith) (call_found (last + 1) (graph + 0) es i c is)

from_one : (n : ℕ) → n ≢ 0 → 1 ≤ n
from_one zero ne = absurd (ne refl)
from_one (suc n) ne = omega arith

pub call_is : (log : Log) (call : ℕ) (c : CallAt) → call_at (calls_from 0 1 log.events) call ≡ Some c → IsCallAt log call c
call_is log call c is = by (call == 0) refl is where
  by : (b : Bool) → (call == 0) ≡ b → (if b then None else slice_get (calls_from 0 1 log.events) (call - 1)) ≡ Some c → IsCallAt log call c
  by true z none = absurd cc
  by false z there =
      let one = from_one call (eqb-false call 0 z) in let number : suc (call - 1) ≡ call = omega (arith, one) in
      let f = call_found 0 1 log.events (call - 1) c there in
      let event : submitted_at log call ≡ c.event = ap (λ (n : ℕ). submit_event 0 log.events n) (sym number) ∙ f.event_is in
      let at : c.event - 1 - 0 ≡ submitted_at log call - 1 = omega (arith, event) in
      let graph : c.graph ≡ graph_of_call log call = f.graph_is ∙ ap (λ (n : ℕ). 1 + length (switches_in (take n log.events))) at in
      record { event_is = event; graph_is = sym graph; from_one = omega (arith, graph) }
