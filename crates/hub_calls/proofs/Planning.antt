-- The plans of a script are plans that graphs can be made from; and the lines that its sessions have left.
use Rattle.std.proofs.Common.{◌≡◌, ℕ, zero, suc, ◌+◌, ◌<◌, inl, inr, ◌⊎◌, Bool, true, false, ◌&&◌, if◌then◌else◌, is_some, IsSome, MatchOption, List, [], ◌∷◌, ◌++◌, length, drop, slice_get, Option, None, Some, refl, sym, ap, subst, ◌∙◌, arith, eq-eqb, ne_eqb}
use Rattle.std.proofs.lemmas.Bool.{cases_eq}
use Rattle.std.specs.List.{AllByRecursion}
use Rattle.graph_build.specs.declared.plans.Plan.{Plan}
use Rattle.script_lang.specs.declared.scripts.Script.{Script}
use Rattle.graph_nodes.specs.Plans.{IsPlan}
use Rattle.mount_log.specs.Scripts.{IsPlanOver, IsScript}
use Rattle.script_lang.specs.declared.scripts.CallLine.{CallLine}
use Rattle.script_lang.specs.declared.scripts.Phase.{Phase}
use Rattle.xlator_law.specs.declared.winds.Stop.{Stop}
use Rattle.mount_log.specs.declared.logs.HubEvent.{HubEvent}
use Rattle.mount_log.specs.declared.logs.HubEvent.TheVariants as logged
use Rattle.mount_log.specs.declared.logs.Log.{Log}
use Rattle.mount_log.specs.declared.places.LineAt.{LineAt}
use Rattle.mount_log.specs.Lines.{line_in, line_of, queue_of, places_from, TakesLine}
use Rattle.mount_log.specs.Logs.{is_submit}
use Rattle.mount_log.specs.Submissions.{is_submit_of, submits_of, session_line, line_by}
use Rattle.hub_tables.specs.Agendas.{AgendaState}
use Rattle.hub_tables.specs.Sessions.{first_line}
use Rattle.hub_tables.specs.SmallSets.{has, numbers, is_among}
use Rattle.hub_tables.specs.declared.small_set.SmallSet.{SmallSet}
use Rattle.hub_calls.specs.Dues.{may_submit}
use Rattle.hub_calls.specs.Plans.{PlannedScript, AreLeft, IsNext}
use Rattle.hub_calls.specs.Hubs.{AddsEvent, AddsSubmission}
use Rattle.hub_calls.proofs.Additions.{one_event_more}
use Rattle.hub_tables.proofs.Numbers.{among}

each_plan : (bricks : ℕ) (plans : List Plan) → AllByRecursion (IsPlanOver bricks) plans → AllByRecursion IsPlan plans
each_plan bricks [] all = tt
each_plan bricks (p ∷ ps) all = (record { bricks = bricks; nodes = all.0.nodes; sets = all.0.sets }, each_plan bricks ps all.1)

pub are_plans : (script : Script) (plans : List Plan) → IsScript script plans → AllByRecursion IsPlan plans
are_plans script plans is = each_plan (length script.bricks) plans is.each

-- the plan of a volfile is one of them
pub is_plan : (plans : List Plan) (at : ℕ) (plan : Plan) → AllByRecursion IsPlan plans → slice_get plans at ≡ Some plan → IsPlan plan
is_plan [] at plan all is = let no : ◌≡◌ {A = Option Plan} None (Some plan) = is in absurd cc
is_plan (p ∷ ps) zero plan all is = let first : p ≡ plan = cc in subst IsPlan first all.0
is_plan (p ∷ ps) (suc at) plan all is = is_plan ps at plan all.1 is

-- the script begins with one of them
there : {T : Type 0} (xs : List T) (k : ℕ) → k < length xs → IsSome (slice_get xs k)
there [] k below = let no : ⊥ = omega arith in absurd no
there (x ∷ xs) zero below = refl
there (x ∷ xs) (suc k) below = there xs k (omega arith)

pub start_planned : (script : Script) (on : PlannedScript) → IsScript script on.plans → on.script ≡ script → IsSome (slice_get on.plans on.script.start)
start_planned script on is same = subst (λ (s : Script). IsSome (slice_get on.plans s.start)) (sym same) (there on.plans script.start (omega (arith, is.accepted.start, is.many)))

-- ---- the lines that sessions have left

pub is_line : (script : Script) (at : LineAt) (phase : Phase) (line : CallLine) → slice_get script.phases at.phase ≡ Some phase → slice_get phase.calls at.index ≡ Some line → line_of script at ≡ Some line
is_line script at phase line there is = ap (λ (p : Option Phase). line_in p at.index) there ∙ is

pub is_next : (on : PlannedScript) (session : ℕ) (at : LineAt) (line : CallLine) → first_line on.left session ≡ Some at → line_of on.script at ≡ Some line → IsNext on session at line.line
is_next on session at line first there = record { first = first; line = line; there = there; numbered = refl }

-- nothing is there

pub is_past : (script : Script) (left : List (List LineAt)) (session : ℕ) (first : Option LineAt) → first ≡ first_line left session → first ≡ None → false ≡ is_some (line_by script (first_line left session))
is_past script left session first is none = sym (ap (λ (at : Option LineAt). is_some (line_by script at)) (sym is ∙ none))

pub is_gone : (script : Script) (left : List (List LineAt)) (session : ℕ) (first : Option LineAt) (at : LineAt) → first ≡ first_line left session → first ≡ Some at → line_of script at ≡ None → false ≡ is_some (line_by script (first_line left session))
is_gone script left session first at is some none = sym (ap (λ (a : Option LineAt). is_some (line_by script a)) (sym is ∙ some) ∙ ap is_some none)

pub is_there : (script : Script) (left : List (List LineAt)) (session : ℕ) (first : Option LineAt) (at : LineAt) (line : CallLine) → first ≡ first_line left session → first ≡ Some at → line_of script at ≡ Some line → true ≡ is_some (line_by script (first_line left session))
is_there script left session first at line is some there = sym (ap (λ (a : Option LineAt). is_some (line_by script a)) (sym is ∙ some) ∙ ap is_some there)

-- before any event

pub left_before : (script : Script) (events : List HubEvent) (left : List (List LineAt)) → events ≡ [] → AreLeft script [] left → AreLeft script events left
left_before script events left none are = rw none are

-- one event more

submits_push : (session : ℕ) (events : List HubEvent) (e : HubEvent) → submits_of session (events ++ e ∷ []) ≡ submits_of session events + is_submit_of session e
submits_push session [] e = omega arith
submits_push session (x ∷ events) e = omega (arith, submits_push session events e)

no_submit : (session : ℕ) (e : HubEvent) → is_submit e ≡ 0 → is_submit_of session e ≡ 0
no_submit session (logged.Submit at line) none = absurd cc
no_submit session (logged.Arrive brick bytes) none = refl
no_submit session (logged.Run graph task) none = refl
no_submit session (logged.Act a) none = refl
no_submit session (logged.Arm brick p count a) none = refl

same_left : (script : Script) (events : List HubEvent) (left : List (List LineAt)) (e : HubEvent) (session : ℕ) → queue_of left session ≡ drop (submits_of session events) (places_from session 0 script.phases)
    → is_submit_of session e ≡ 0 → queue_of left session ≡ drop (submits_of session (events ++ e ∷ [])) (places_from session 0 script.phases)
same_left script events left e session so_far none =
    let count : submits_of session events ≡ submits_of session (events ++ e ∷ []) = omega (arith, submits_push session events e, none) in
    so_far ∙ ap (λ (n : ℕ). drop n (places_from session 0 script.phases)) count

-- what is left of a hub that has not stopped, by its invariant
pub left_now : (script : Script) (events : List HubEvent) (left : List (List LineAt)) (stop : Option Stop) → MatchOption stop (AreLeft script events left) (λ _. Unit {0}) → stop ≡ None → AreLeft script events left
left_now script events left None are goes = are
left_now script events left (Some s) are goes = absurd cc

pub still_left : (script : Script) (old new : Log) (left : List (List LineAt)) (stop : Option Stop) (e : HubEvent) → MatchOption stop (AreLeft script old.events left) (λ _. Unit {0}) → stop ≡ None → is_submit e ≡ 0
    → AddsEvent old new e → AreLeft script new.events left
still_left script old new left stop e are goes other adds = λ session.
    let now : queue_of left session ≡ drop (submits_of session old.events) (places_from session 0 script.phases) = left_now script old.events left stop are goes session in
    same_left script old.events left e session now (no_submit session e other)
    ∙ ap (λ (events : List HubEvent). drop (submits_of session events) (places_from session 0 script.phases)) (sym (one_event_more old new e adds))

-- a submission

drop_first : {A : Type 0} (n : ℕ) (xs : List A) (x : A) (rest : List A) → x ∷ rest ≡ drop n xs → rest ≡ drop (suc n) xs
drop_first zero [] x rest is = absurd cc
drop_first zero (y ∷ ys) x rest is = cc
drop_first (suc n) [] x rest is = absurd cc
drop_first (suc n) (y ∷ ys) x rest is = drop_first n ys x rest is

pub get_first : {A : Type 0} (n : ℕ) (xs : List A) → slice_get (drop n xs) 0 ≡ slice_get xs n
get_first zero xs = refl
get_first (suc n) [] = refl
get_first (suc n) (x ∷ xs) = get_first n xs

-- one line fewer is left of the session that submits it
left_after : (script : Script) (old new : Log) (left after : List (List LineAt)) (session line : ℕ) (at : LineAt) → AreLeft script old.events left → TakesLine left session at after
    → AddsEvent old new (logged.Submit session line) → AreLeft script new.events after
left_after script old new left after session line at now takes adds = λ s. by s (cases_eq session s)
  where
    e : HubEvent
    e = logged.Submit session line

    more : (s : ℕ) → queue_of after s ≡ drop (submits_of s (old.events ++ e ∷ [])) (places_from s 0 script.phases) → queue_of after s ≡ drop (submits_of s new.events) (places_from s 0 script.phases)
    more s is = is ∙ ap (λ (events : List HubEvent). drop (submits_of s events) (places_from s 0 script.phases)) (sym (one_event_more old new e adds))

    by : (s : ℕ) → (session ≡ s) ⊎ (session ≡ s → ⊥) → queue_of after s ≡ drop (submits_of s new.events) (places_from s 0 script.phases)
    by s (inl same) =
        let one : is_submit_of s e ≡ 1 = ap (λ (b : Bool). if b then 1 else 0) (eq-eqb session s same) in
        let count : suc (submits_of s old.events) ≡ submits_of s (old.events ++ e ∷ []) = omega (arith, submits_push s old.events e, one) in
        let line_is : queue_of left s ≡ at ∷ queue_of after s = subst (λ (k : ℕ). queue_of left k ≡ at ∷ queue_of after k) same takes.line in
        more s (drop_first (submits_of s old.events) (places_from s 0 script.phases) at (queue_of after s) (sym line_is ∙ now s) ∙ ap (λ (n : ℕ). drop n (places_from s 0 script.phases)) count)
    by s (inr apart) =
        let none : is_submit_of s e ≡ 0 = ap (λ (b : Bool). if b then 1 else 0) (ne_eqb session s apart) in
        more s (takes.others s (λ is. apart (sym is)) ∙ same_left script old.events left e s (now s) none)

pub left_submitted : (on after : PlannedScript) (old new : Log) (stop : Option Stop) (session number : ℕ) (at : LineAt) → MatchOption stop (AreLeft on.script old.events on.left) (λ _. Unit {0}) → stop ≡ None
    → IsNext on session at number → ((a : LineAt) → first_line on.left session ≡ Some a → TakesLine on.left session a after.left) → after.script ≡ on.script → AddsEvent old new (logged.Submit session number)
    → AreLeft after.script new.events after.left
left_submitted on after old new stop session number at are goes is takes same adds =
    rw same (left_after on.script old new on.left after.left session number at (left_now on.script old.events on.left stop are goes) (takes at is.first) adds)

pub adds_submission : (script : Script) (old new : Log) (on : PlannedScript) (stop : Option Stop) (session number : ℕ) (at : LineAt) → MatchOption stop (AreLeft on.script old.events on.left) (λ _. Unit {0}) → stop ≡ None
    → on.script ≡ script → IsNext on session at number → AddsEvent old new (logged.Submit session number) → AddsSubmission script old new session
adds_submission script old new on stop session number at are goes same is adds = record {
  line = is.line;
  next = ap (line_by script) place ∙ ap (λ (s : Script). line_of s at) (sym same) ∙ is.there;
  event = subst (λ (n : ℕ). AddsEvent old new (logged.Submit session n)) (sym is.numbered) adds;
}
  where
    places : List LineAt
    places = places_from session 0 script.phases

    now : queue_of on.left session ≡ drop (submits_of session old.events) places
    now = left_now on.script old.events on.left stop are goes session ∙ ap (λ (s : Script). drop (submits_of session old.events) (places_from session 0 s.phases)) same

    place : slice_get places (submits_of session old.events) ≡ Some at
    place = sym (get_first (submits_of session old.events) places) ∙ ap (λ (queue : List LineAt). slice_get queue 0) (sym now) ∙ is.first

-- which sessions may submit

pub submits_are : (script : Script) (log : Log) (on : PlannedScript) (agenda : AgendaState) (ready : SmallSet) (stop : Option Stop) (session : ℕ) (next : Option (LineAt × ℕ)) (did : Bool) → MatchOption stop (AreLeft on.script log.events on.left) (λ _. Unit {0})
    → stop ≡ None → on.script ≡ script → numbers ready ≡ agenda.progress.ready → is_some next ≡ (has ready session && is_some (line_by on.script (first_line on.left session))) → is_some next ≡ did → did ≡ may_submit agenda script log session
unfolding may_submit
submits_are script log on agenda ready stop session next did are goes same submits there is =
    sym is ∙ there
    ∙ ap (λ (b : Bool). b && is_some (line_by on.script (first_line on.left session))) (sym (among ready session) ∙ ap (is_among session) submits)
    ∙ ap (λ (l : Option CallLine). is_among session agenda.progress.ready && is_some l) next_line
  where
    places : List LineAt
    places = places_from session 0 script.phases

    now : queue_of on.left session ≡ drop (submits_of session log.events) places
    now = left_now on.script log.events on.left stop are goes session ∙ ap (λ (s : Script). drop (submits_of session log.events) (places_from session 0 s.phases)) same

    next_line : line_by on.script (first_line on.left session) ≡ session_line script session (submits_of session log.events)
    next_line = ap (λ (s : Script). line_by s (first_line on.left session)) same ∙ ap (line_by script) (ap (λ (queue : List LineAt). slice_get queue 0) now ∙ get_first (submits_of session log.events) places)
