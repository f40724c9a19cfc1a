-- The calls of a log, event by event.
use Rattle.std.proofs.Common.{◌≡◌, refl, sym, ap, subst, ◌∙◌, arith}
use Rattle.std.specs.Prelude.{ℕ, zero, suc, ◌≢◌, ◌<◌, ◌≤◌, ◌+◌, ◌-◌, ◌==◌, Bool, true, false, List, [], ◌∷◌, ◌++◌, None, Some, length, slice_get, take, if◌then◌else◌}
use Rattle.std.proofs.lemmas.Bool.{eqb-false}
use Rattle.std.proofs.lemmas.List.{length-append, take_all}
use Rattle.script_lang.specs.declared.scripts.Script.{Script}
use Rattle.mount_log.specs.Lines.{queue_of, places_from, TakesLine}
use Rattle.mount_log.specs.Graphs.{switches_in}
use Rattle.mount_log.specs.Logs.{submits_in, is_submit}
use Rattle.mount_log.specs.Submissions.{submit_event, submitted_at}
use Rattle.mount_log.specs.declared.logs.HubEvent.{HubEvent}
use Rattle.mount_log.specs.declared.logs.HubEvent.TheVariants as logged
use Rattle.mount_log.specs.declared.logs.Log.{Log}
use Rattle.mount_log.specs.declared.places.LineAt.{LineAt}
use Rattle.mount_log.specs.Switches.{IsCounted}
use Rattle.log_audit.specs.Called.{IsCallAt, AreCalls, AreGathered, call_by}
use Rattle.log_audit.specs.Submitted.{HaveLeft}
use Rattle.log_audit.specs.declared.calls_made.CallMade.{CallMade}
use Rattle.mount_log.specs.declared.switches.Switched.{Switched}
use Rattle.mount_log.proofs.Lists.{each_push, take_next}
use Rattle.log_audit.proofs.Submitting.{its_next, left_submit, left_other, submits_none}

submits_push : (es : List HubEvent) (e : HubEvent) → submits_in (es ++ e ∷ []) ≡ submits_in es + is_submit e
submits_push [] e = let n = is_submit e in let z : n + 0 ≡ 0 + n = omega arith in z
submits_push (x ∷ es) e = let ih = submits_push es e in omega (arith, ih)

is_none : (e : HubEvent) → ((session line : ℕ) → e ≡ logged.Submit session line → ⊥) → is_submit e ≡ 0
is_none (logged.Submit at line) not_one = absurd (not_one at line refl)
is_none (logged.Arrive brick bytes) not_one = refl
is_none (logged.Run graph task) not_one = refl
is_none (logged.Act a) not_one = refl
is_none (logged.Arm brick p count a) not_one = refl

module _ (script : Script) (log : Log) (n : ℕ) (e : HubEvent) (there : slice_get log.events n ≡ Some e) (queues : List (List LineAt)) (calls : List CallMade) (so_far : AreGathered script log n queues calls) where
  passed : take (n + 1) log.events ≡ take n log.events ++ e ∷ []
  passed = take_next log.events n e there

  pub pass_other : ((session line : ℕ) → e ≡ logged.Submit session line → ⊥) → AreGathered script log (n + 1) queues calls
  pass_other not_one = record {
    left = subst (λ (l : List HubEvent). HaveLeft script l queues) (sym passed) (left_other script (take n log.events) e queues (submits_none e not_one) so_far.left);
    each = so_far.each;
    many =
        let pushed = ap submits_in passed ∙ submits_push (take n log.events) e in let z = is_none e not_one in let m = so_far.many in
        omega (arith, pushed, z, m);
  }

  pub pass_submit : (session line : ℕ) (new : List (List LineAt)) (at : LineAt) (count : Switched) → e ≡ logged.Submit session line → TakesLine queues session at new → IsCounted log.events count → count.next ≡ n
      → AreGathered script log (n + 1) new (calls ++ record { event = n + 1; session = session; line = line; phase = at.phase; switches = count.count } ∷ [])
  pass_submit session line new at count e_is takes counted next = record {
    left = subst (λ (l : List HubEvent). HaveLeft script l new) (sym (passed ∙ ap (λ (x : HubEvent). take n log.events ++ x ∷ []) e_is)) (left_submit script (take n log.events) session line queues new at takes so_far.left);
    each = each_push (λ (k : ℕ) (call : CallMade). IsCallAt script log k call) calls (record { event = n + 1; session = session; line = line; phase = at.phase; switches = count.count }) own so_far.each;
    many =
        let pushed = ap submits_in (passed ∙ ap (λ (x : HubEvent). take n log.events ++ x ∷ []) e_is) ∙ submits_push (take n log.events) (logged.Submit session line) in
        let m = so_far.many in let a = length-append calls (record { event = n + 1; session = session; line = line; phase = at.phase; switches = count.count } ∷ []) in
        omega (arith, pushed, m, a);
  } where
    own : IsCallAt script log (length calls) (record { event = n + 1; session = session; line = line; phase = at.phase; switches = count.count })
    own = record {
      place = n;
      at = at;
      event_is = refl;
      there = there ∙ ap Some e_is;
      line_at = its_next script (take n log.events) session line queues new at takes so_far.left;
      phase_is = refl;
      number_is = sym so_far.many;
      switches_are = counted.count ∙ ap (λ (m : ℕ). length (switches_in (take m log.events))) next;
    }

-- ---- the number of a call's event

number_more : (n : ℕ) → 1 + n + 1 ≡ suc (suc n)
number_more n = omega arith

pub event_of_call : (last : ℕ) (es : List HubEvent) (k session line : ℕ) → slice_get es k ≡ Some (logged.Submit session line) → submit_event last es (submits_in (take k es) + 1) ≡ last + k + 1
event_of_call last [] k session line is = absurd cc
event_of_call last (logged.Submit a b ∷ es) zero session line is = omega arith
event_of_call last (logged.Submit a b ∷ es) (suc k) session line is =
    let m = submits_in (take k es) in
    let s : m + 1 ≡ suc m = omega arith in
    let ih = event_of_call (last + 1) es k session line is in
    let e : last + 1 + k + 1 ≡ last + suc k + 1 = omega arith in
    ap (λ (n : ℕ). submit_event last (logged.Submit a b ∷ es) n) (number_more m) ∙ ap (submit_event (last + 1) es) (sym s) ∙ ih ∙ e
event_of_call last (logged.Arrive a b ∷ es) (suc k) session line is = let ih = event_of_call (last + 1) es k session line is in let s : 0 + submits_in (take k es) + 1 ≡ submits_in (take k es) + 1 = omega arith in ap (submit_event (last + 1) es) s ∙ omega (arith, ih)
event_of_call last (logged.Run a b ∷ es) (suc k) session line is = let ih = event_of_call (last + 1) es k session line is in let s : 0 + submits_in (take k es) + 1 ≡ submits_in (take k es) + 1 = omega arith in ap (submit_event (last + 1) es) s ∙ omega (arith, ih)
event_of_call last (logged.Act a ∷ es) (suc k) session line is = let ih = event_of_call (last + 1) es k session line is in let s : 0 + submits_in (take k es) + 1 ≡ submits_in (take k es) + 1 = omega arith in ap (submit_event (last + 1) es) s ∙ omega (arith, ih)
event_of_call last (logged.Arm a p c d ∷ es) (suc k) session line is = let ih = event_of_call (last + 1) es k session line is in let s : 0 + submits_in (take k es) + 1 ≡ submits_in (take k es) + 1 = omega arith in ap (submit_event (last + 1) es) s ∙ omega (arith, ih)
event_of_call last (logged.Arrive a b ∷ es) zero session line is = absurd cc
event_of_call last (logged.Run a b ∷ es) zero session line is = absurd cc
event_of_call last (logged.Act a ∷ es) zero session line is = absurd cc
event_of_call last (logged.Arm a p c d ∷ es) zero session line is = absurd cc

pub counted : (es : List HubEvent) (k session line : ℕ) → slice_get es k ≡ Some (logged.Submit session line) → submits_in (take k es) < submits_in es
counted [] k session line is = absurd cc
counted (logged.Submit a b ∷ es) zero session line is = omega arith
counted (e ∷ es) (suc k) session line is = let ih = counted es k session line is in omega (arith, ih)
counted (logged.Arrive a b ∷ es) zero session line is = absurd cc
counted (logged.Run a b ∷ es) zero session line is = absurd cc
counted (logged.Act a ∷ es) zero session line is = absurd cc
counted (logged.Arm a p c d ∷ es) zero session line is = absurd cc

-- two submissions behind as many are the same
pub same_place : (es : List HubEvent) (j k s l t m : ℕ) → slice_get es j ≡ Some (logged.Submit s l) → slice_get es k ≡ Some (logged.Submit t m) → submits_in (take j es) ≡ submits_in (take k es) → j ≡ k
same_place es j k s l t m a b e =
    let p = event_of_call 0 es j s l a in let q = event_of_call 0 es k t m b in
    let same : submit_event 0 es (submits_in (take j es) + 1) ≡ submit_event 0 es (submits_in (take k es) + 1) = ap (λ (n : ℕ). submit_event 0 es (n + 1)) e in
    omega (arith, p, q, same)

pub none_passed : (script : Script) (log : Log) (queues : List (List LineAt)) → ((session : ℕ) → queue_of queues session ≡ places_from session 0 script.phases) → AreGathered script log 0 queues []
none_passed script log queues all = record { left = λ session. all session; each = λ n call none. absurd cc; many = refl }

pub all_passed : (script : Script) (log : Log) (n : ℕ) (queues : List (List LineAt)) (calls : List CallMade) → length log.events ≤ n → AreGathered script log n queues calls → AreCalls script log calls
all_passed script log n queues calls past so_far = record { each = so_far.each; many = so_far.many ∙ ap submits_in (take_all n log.events past) }

-- ---- a call by its number

pub record IsCallBy (calls : List CallMade) (number : ℕ) (call : CallMade) : Type 0 where
  pub from_one : 1 ≤ number
  pub there : slice_get calls (number - 1) ≡ Some call

pub by_number : (calls : List CallMade) (number : ℕ) (call : CallMade) → call_by calls number ≡ Some call → IsCallBy calls number call
by_number calls number call is = by (number == 0) refl is where
  from_one : (n : ℕ) → n ≢ 0 → 1 ≤ n
  from_one zero ne = absurd (ne refl)
  from_one (suc n) ne = omega arith

  by : (b : Bool) → (number == 0) ≡ b → (if b then None else slice_get calls (number - 1)) ≡ Some call → IsCallBy calls number call
  by true z none = absurd cc
  by false z there = record { from_one = from_one number (eqb-false number 0 z); there = there }

module _ (script : Script) (log : Log) where
  -- the number of a call's event is what the log says
  pub event_is : (calls : List CallMade) (number : ℕ) (call : CallMade) → AreCalls script log calls → IsCallBy calls number call → submitted_at log number ≡ call.event
  event_is calls number call are by =
      let own = are.each (number - 1) call by.there in
      let one = by.from_one in let n : number - 1 + 1 ≡ number = omega (arith, one) in
      let at : submit_event 0 log.events (submits_in (take own.place log.events) + 1) ≡ 0 + own.place + 1 = event_of_call 0 log.events own.place call.session call.line own.there in
      let z : 0 + own.place + 1 ≡ own.place + 1 = omega arith in
      ap (submit_event 0 log.events) (sym n ∙ ap (λ (m : ℕ). m + 1) (sym own.number_is)) ∙ at ∙ z ∙ sym own.event_is
