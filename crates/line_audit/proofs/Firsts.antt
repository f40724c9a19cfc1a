-- The first line of an event, or of a later one; and lines by their places.
use Rattle.std.proofs.Common.{◌≡◌, refl, sym, ap, subst, ◌∙◌, arith, get_or}
use Rattle.std.specs.Prelude.{ℕ, zero, suc, ◌<◌, ◌≤◌, ◌+◌, nat_lt, Bool, true, false, List, [], ◌∷◌, Some, None, length, slice_get}
use Rattle.std.specs.List.{AllByRecursion}
use Rattle.std.proofs.lemmas.Bool.{ltb-true, ltb-false}
use Rattle.std.proofs.lemmas.Option.{slice_get_within, slice_get-get_or}
use Rattle.script_lang.specs.declared.scripts.Action.{Action}
use Rattle.mount_log.specs.Heads.{heads_of}
use Rattle.mount_log.specs.declared.heads.Head.{Head}
use Rattle.script_lang.specs.declared.scripts.Action.TheVariants as action
use Rattle.mount_log.specs.declared.logs.HubEvent.{HubEvent}
use Rattle.mount_log.specs.declared.logs.HubEvent.TheVariants as logged
use Rattle.mount_log.specs.declared.logs.Log.{Log}
use Rattle.mount_log.specs.declared.logs.SentLine.{SentLine}
use Rattle.mount_log.specs.declared.logs.WindLine.{WindLine}
use Rattle.mount_log.specs.Connects.{IsEndIn}
use Rattle.line_audit.specs.Linked.{WindsInOrder}
use Rattle.line_audit.specs.Caused.{IsLineAt, AreBefore, IsSentFirst, IsEventAt, IsEventFirst}
use Rattle.mount_log.proofs.Lists.{each_next}

-- there is an item at a place within a list
pub there_is : {X : Type 0} (xs : List X) (k : ℕ) → k < length xs → slice_get xs k ≡ None → ⊥
there_is [] k lt none = absurd (omega (arith, lt))
there_is (x ∷ xs) zero lt none = absurd cc
there_is (x ∷ xs) (suc k) lt none = there_is xs k (omega (arith, lt)) none

pub none_there : {X : Type 0} (xs : List X) (k : ℕ) → slice_get xs k ≡ None → length xs ≤ k
none_there xs k none = by (nat_lt k (length xs)) refl where
  by : (b : Bool) → nat_lt k (length xs) ≡ b → length xs ≤ k
  by true e = absurd (there_is xs k (ltb-true k (length xs) e) none)
  by false e = ltb-false k (length xs) e

-- each event has a head
pub no_head : (heads : List Head) (events : List HubEvent) (k : ℕ) → heads ≡ heads_of events → slice_get heads k ≡ None → length events ≤ k
no_head heads events k are none = by events k (sym (ap (λ (l : List Head). slice_get l k) are) ∙ none) where
  by : (es : List HubEvent) (n : ℕ) → slice_get (heads_of es) n ≡ None → length es ≤ n
  by [] n gone = omega arith
  by (e ∷ es) zero gone = absurd cc
  by (e ∷ es) (suc n) gone = let ih = by es n gone in omega (arith, ih)

-- what holds of each item holds of the one at a place
pub all_get : {X : Type 0} (P : X → Type 0) (xs : List X) (k : ℕ) (d : X) → k < length xs → AllByRecursion P xs → P (get_or xs k d)
all_get P [] k d lt all = absurd (omega (arith, lt))
all_get P (x ∷ xs) zero d lt all = all.0
all_get P (x ∷ xs) (suc k) d lt all = all_get P xs k d (omega (arith, lt)) all.1

-- ---- wind lines in their order

-- an end in an event is not behind a line of a later one
pub not_behind : (winds items : List WindLine) → items ≡ winds → (number place : ℕ) (d : WindLine) → place < length items → number < (get_or items place d).event → WindsInOrder winds → (wind graph : ℕ) (e : IsEndIn winds wind graph number) → place ≤ e.place → ⊥
not_behind winds items is number place d lt late order wind graph e le =
    let there : slice_get winds place ≡ Some (get_or items place d) = ap (λ (l : List WindLine). slice_get l place) (sym is) ∙ slice_get-get_or items place d lt in
    let after = order place e.place (get_or items place d) e.ending le there e.there in let same = e.same_event in absurd (omega (arith, after, same, late))

-- a place that is not this one is behind it
pub behind_it : (n m : ℕ) → n ≤ m → (m ≡ n → ⊥) → n + 1 ≤ m
behind_it n m le other = by (nat_lt n m) refl where
  by : (b : Bool) → nat_lt n m ≡ b → n + 1 ≤ m
  by true e = let lt = ltb-true n m e in omega (arith, lt)
  by false e = let ge = ltb-false n m e in absurd (other (omega (arith, le, ge)))

-- a line more was sent before the event
pub before_next : (sent : List SentLine) (at number : ℕ) (line : SentLine) → at < length sent → line ≡ get_or sent at line → line.event < number → AreBefore sent at number → AreBefore sent (at + 1) number
before_next sent at number line lt is earlier before =
    each_next (λ (k : ℕ) (l : SentLine). l.event < number) sent at line (slice_get-get_or sent at line lt ∙ ap Some (sym is)) earlier before

pub before_later : (sent : List SentLine) (at n m : ℕ) → n ≤ m → AreBefore sent at n → AreBefore sent at m
before_later sent at n m le before k line lt is = let early = before k line lt is in omega (arith, early, le)

module _ (log : Log) (at number : ℕ) (before : AreBefore log.sent at number) where
  pub event_first : (e : HubEvent) → IsEventAt log.sent at number e → IsEventFirst log number e
  event_first (logged.Act (action.Down brick serve)) is = record { place = at; first = before; sends = is }
  event_first (logged.Act (action.Up brick)) is = record { place = at; first = before; sends = is }
  event_first (logged.Act (action.Fault brick p n)) is = record { place = at; first = before; sends = is }
  event_first (logged.Act (action.Cut brick)) is = tt
  event_first (logged.Act action.Heal) is = tt
  event_first (logged.Act (action.Switch volfile)) is = tt
  event_first (logged.Submit session line) is = tt
  event_first (logged.Arrive from bytes) is = tt
  event_first (logged.Run graph task) is = tt
  event_first (logged.Arm p q count a) is = tt

  module _ (stops : (line : SentLine) → slice_get log.sent at ≡ Some line → number ≤ line.event) where
    first_at : (brick : ℕ) (a : Action) → IsSentFirst log number brick a → IsLineAt log.sent at number brick a
    first_at brick a h = subst (λ (n : ℕ). IsLineAt log.sent n number brick a) same h.sends where
      same : h.place ≡ at
      same = by (nat_lt at h.place) refl (nat_lt h.place at) refl where
        by : (b : Bool) → nat_lt at h.place ≡ b → (d : Bool) → nat_lt h.place at ≡ d → h.place ≡ at
        by true e d f =
            let within = slice_get_within log.sent h.place h.sends.line h.sends.there in let lt = ltb-true at h.place e in
            let there = slice_get-get_or log.sent at h.sends.line (omega (arith, lt, within)) in
            let early = h.first at (get_or log.sent at h.sends.line) lt there in let late = stops (get_or log.sent at h.sends.line) there in
            absurd (omega (arith, early, late))
        by false e true f = let early = before h.place h.sends.line (ltb-true h.place at f) h.sends.there in let event = h.sends.is.event in absurd (omega (arith, early, event))
        by false e false f = let a = ltb-false at h.place e in let b = ltb-false h.place at f in omega (arith, a, b)

    pub event_at : (e : HubEvent) → IsEventFirst log number e → IsEventAt log.sent at number e
    event_at (logged.Act (action.Down brick serve)) h = first_at brick (action.Down brick serve) h
    event_at (logged.Act (action.Up brick)) h = first_at brick (action.Up brick) h
    event_at (logged.Act (action.Fault brick p n)) h = first_at brick (action.Fault brick p n) h
    event_at (logged.Act (action.Cut brick)) h = tt
    event_at (logged.Act action.Heal) h = tt
    event_at (logged.Act (action.Switch volfile)) h = tt
    event_at (logged.Submit session line) h = tt
    event_at (logged.Arrive from bytes) h = tt
    event_at (logged.Run graph task) h = tt
    event_at (logged.Arm p q count a) h = tt
