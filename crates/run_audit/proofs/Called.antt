-- The calls of a log: there is one list of them, and where sessions submit their lines in order, none submits too many.
use Rattle.std.proofs.Common.{◌≡◌, refl, sym, ap, subst, ◌∙◌, arith}
use Rattle.std.specs.Prelude.{ℕ, zero, suc, ◌+◌, List, [], ◌∷◌, Option, None, Some, IfNone, length, slice_get, take}
use Rattle.script_lang.specs.declared.scripts.CallLine.{CallLine}
use Rattle.script_lang.specs.declared.scripts.Script.{Script}
use Rattle.mount_log.proofs.Items.{some_is}
use Rattle.mount_log.specs.Graphs.{switches_in}
use Rattle.mount_log.specs.Submissions.{place_of_line, line_by, submits_of}
use Rattle.mount_log.specs.Turns.{IsNextLine, AreInOrder}
use Rattle.mount_log.specs.declared.logs.HubEvent.TheVariants as logged
use Rattle.mount_log.specs.declared.logs.Log.{Log}
use Rattle.mount_log.specs.declared.places.LineAt.{LineAt}
use Rattle.log_audit.specs.Called.{IsCallAt, AreCalls, SubmitsTooMany}
use Rattle.log_audit.specs.declared.calls_made.CallMade.{CallMade}
use Rattle.log_audit.proofs.Calling.{same_place}

-- lists as long as each other with the same items
same_items : {X : Type 0} → (xs ys : List X) → length xs ≡ length ys → ((n : ℕ) (x y : X) → slice_get xs n ≡ Some x → slice_get ys n ≡ Some y → x ≡ y) → xs ≡ ys
same_items [] [] many each = refl
same_items [] (y ∷ ys) many each = absurd (omega (arith, many))
same_items (x ∷ xs) [] many each = absurd (omega (arith, many))
same_items (x ∷ xs) (y ∷ ys) many each =
    let head : x ≡ y = each 0 x y refl refl in let rest : xs ≡ ys = same_items xs ys (omega (arith, many)) (λ n a b p q. each (suc n) a b p q) in cc

-- what holds of none holds where there is none
pub none_is : {X : Type 0} {P : Type 0} → (o : Option X) → ((x : X) → o ≡ Some x → ⊥) → IfNone o P → P
none_is None not_some is = is
none_is (Some x) not_some is = absurd (not_some x refl)

abbrev made : ℕ → ℕ → ℕ → ℕ → ℕ → CallMade
made event session line phase switches = record { event = event; session = session; line = line; phase = phase; switches = switches }

same_made : (a b c d e v w x y z : ℕ) → a ≡ v → b ≡ w → c ≡ x → d ≡ y → e ≡ z → made a b c d e ≡ made v w x y z
same_made a b c d e v w x y z p q r s t = cc

session_is : (a b c d : ℕ) → logged.Submit a b ≡ logged.Submit c d → a ≡ c
session_is a b c d e = cc

line_is : (a b c d : ℕ) → logged.Submit a b ≡ logged.Submit c d → b ≡ d
line_is a b c d e = cc

module _ (script : Script) (log : Log) where
  -- the line of a submission is that of its call
  pub same_phase : (n : ℕ) (call : CallMade) (own : IsCallAt script log n call) (k session line : ℕ) (at : LineAt) → own.place ≡ k → slice_get log.events k ≡ Some (logged.Submit session line)
      → place_of_line script session (submits_of session (take k log.events)) ≡ Some at → call.phase ≡ at.phase
  same_phase n call own k session line at same there place =
      let e : logged.Submit call.session call.line ≡ logged.Submit session line = some_is (logged.Submit call.session call.line) (logged.Submit session line) (sym own.there ∙ ap (slice_get log.events) same ∙ there) in
      let s : call.session ≡ session = session_is call.session call.line session line e in
      let moved : place_of_line script session (submits_of session (take k log.events)) ≡ Some own.at =
      subst (λ (m : ℕ). place_of_line script session (submits_of session (take m log.events)) ≡ Some own.at) same
      (subst (λ (t : ℕ). place_of_line script t (submits_of t (take own.place log.events)) ≡ Some own.at) s own.line_at) in
      let ats : own.at ≡ at = some_is own.at at (sym moved ∙ place) in
      sym own.phase_is ∙ ap (λ (x : LineAt). x.phase) ats

  same_call : (n : ℕ) (x y : CallMade) → IsCallAt script log n x → IsCallAt script log n y → x ≡ y
  same_call n x y a b =
      let place : a.place ≡ b.place = same_place log.events a.place b.place x.session x.line y.session y.line a.there b.there (a.number_is ∙ sym b.number_is) in
      let e : logged.Submit x.session x.line ≡ logged.Submit y.session y.line = some_is (logged.Submit x.session x.line) (logged.Submit y.session y.line) (sym a.there ∙ ap (slice_get log.events) place ∙ b.there) in
      same_made x.event x.session x.line x.phase x.switches y.event y.session y.line y.phase y.switches
      (a.event_is ∙ ap (λ (k : ℕ). k + 1) place ∙ sym b.event_is)
      (session_is x.session x.line y.session y.line e)
      (line_is x.session x.line y.session y.line e)
      (same_phase n x a b.place y.session y.line b.at place b.there b.line_at ∙ b.phase_is)
      (a.switches_are ∙ ap (λ (k : ℕ). length (switches_in (take k log.events))) place ∙ sym b.switches_are)

  pub same_calls : (xs ys : List CallMade) → AreCalls script log xs → AreCalls script log ys → xs ≡ ys
  same_calls xs ys one other = same_items xs ys (one.many ∙ sym other.many) (λ n x y p q. same_call n x y (one.each n x p) (other.each n y q))

  pub none_too_many : AreInOrder script log → SubmitsTooMany script log → ⊥
  none_too_many order many = by (place_of_line script many.session (submits_of many.session (take many.place log.events))) many.none_left own.there own.next where
    own : IsNextLine script log many.place many.session many.line
    own = order many.place many.session many.line many.there

    by : (o : Option LineAt) → o ≡ None → (there : CallLine) → line_by script o ≡ Some there → ⊥
    by None e there is = absurd cc
    by (Some at) e there is = absurd cc
