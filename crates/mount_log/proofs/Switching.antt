-- Switches among the events that were passed, with one event more.
use Rattle.std.proofs.Common.{◌≡◌, sym, ap, ◌∙◌, arith, get_or}
use Rattle.std.specs.Prelude.{ℕ, ◌<◌, ◌≤◌, ◌+◌, List, [], ◌∷◌, ◌++◌, length, take}
use Rattle.std.proofs.lemmas.List.{take_more}
use Rattle.script_lang.specs.declared.scripts.Action.TheVariants as action
use Rattle.mount_log.specs.Graphs.{switches_in, switched_by}
use Rattle.mount_log.specs.declared.logs.HubEvent.{HubEvent}
use Rattle.mount_log.specs.declared.logs.HubEvent.TheVariants as logged
use Rattle.mount_log.specs.Switches.{IsCounted}
use Rattle.mount_log.specs.declared.switches.Switched.{Switched}

pub switches_push : (es : List HubEvent) (e : HubEvent) (n : ℕ) → ((rest : List ℕ) → length (switched_by e rest) ≡ n + length rest) → length (switches_in (es ++ e ∷ [])) ≡ length (switches_in es) + n
switches_push [] e n one = let o = one [] in omega (arith, o)
switches_push (logged.Act (action.Switch volfile) ∷ es) e n one = let ih = switches_push es e n one in omega (arith, ih)
switches_push (logged.Act (action.Down brick serve) ∷ es) e n one = switches_push es e n one
switches_push (logged.Act (action.Up brick) ∷ es) e n one = switches_push es e n one
switches_push (logged.Act (action.Cut brick) ∷ es) e n one = switches_push es e n one
switches_push (logged.Act (action.Fault brick p number) ∷ es) e n one = switches_push es e n one
switches_push (logged.Act action.Heal ∷ es) e n one = switches_push es e n one
switches_push (logged.Submit session line ∷ es) e n one = switches_push es e n one
switches_push (logged.Arrive brick bytes ∷ es) e n one = switches_push es e n one
switches_push (logged.Run graph task ∷ es) e n one = switches_push es e n one
switches_push (logged.Arm brick p count a ∷ es) e n one = switches_push es e n one

pub counted_next : (events : List HubEvent) (p : Switched) (e : HubEvent) (n : ℕ) → p.next < length events → e ≡ get_or events p.next e → ((rest : List ℕ) → length (switched_by e rest) ≡ n + length rest) → n ≤ 1
    → IsCounted events p → IsCounted events (record { next = p.next + 1; count = p.count + n })
counted_next events p e n lt is one few c =
    let more = take_more events p.next e lt ∙ ap (λ (x : HubEvent). take p.next events ++ x ∷ []) (sym is) in
    let pushed = ap (λ (l : List HubEvent). length (switches_in l)) more ∙ switches_push (take p.next events) e n one in
    let a = c.count in let b = c.few in
    record { count = omega (arith, pushed, a); few = omega (arith, few, b) }
