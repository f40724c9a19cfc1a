-- From what a step told to what the call ensures.
use Rattle.std.proofs.Common.{◌≡◌, ◌≢◌, ℕ, ◌+◌, ◌⊎◌, inl, inr, ⊎_elim, Bool, true, false, eqb, [], refl, sym, ap, ◌∙◌, subst, arith}
use mathlib.Core.Option.{none}
use Rattle.std.proofs.lemmas.Bool.{cases_eq, eqb-true, eqb-false}
use Rattle.atomic_table.specs.Seated.{TableId}
use Rattle.atomic_table.specs.Table.{Me, step}
use Rattle.xlator_law.specs.declared.winds.WindNo.{WindNo}
use Rattle.xlator_law.specs.declared.winds.Settled.{Settled}
use Rattle.xlator_law.specs.declared.winds.Settled.TheVariants.{Won, Lost}
use Rattle.wind_words.specs.declared.view.View.{View}
use Rattle.wind_words.specs.declared.view.Role.TheVariants.{Hub, Spent}
use Rattle.wind_words.specs.Word.{free_at, pending_at, replied_at, bailed_at}
use Rattle.wind_words.specs.Winds.{times}
use Rattle.wind_words.specs.Calls.{Pass, IsShown, Ends, Collects, with_view, with_collected, with_lost}
use Rattle.wind_words.specs.Steps.{ends, collects_replied}
use Rattle.wind_words.proofs.Counts.{once}
use Rattle.wind_words.proofs.Asked.{pass_of}

module _ {S : Type 0} where
  -- a pass stays what it is, whatever it learns
  pub record Stays (m n : Me S View) : Type 0 where
    pub rest : n.1 ≡ m.1
    pub role : n.0.role ≡ m.0.role

  pub live_still : (m n : Me S View) → Stays m n → (m.1 ≡ []) × (m.0.role ≢ Spent) → (n.1 ≡ []) × (n.0.role ≢ Spent)
  live_still m n s h = (s.rest ∙ h.0, subst (λ r. r ≢ Spent) (sym s.role) h.1)

  pub stays_by : (m n : Me S View) (v : View) → ◌≡◌ {A = Me S View} n (v, m.1) → v.role ≡ m.0.role → Stays m n
  stays_by m n v e r = record { rest = ap (λ (x : Me S View). x.1) e; role = ap (λ (x : Me S View). x.0.role) e ∙ r }

  module _ (with_end : View → WindNo → View) (m n : Me S View) (w : WindNo) (old found : ℕ) where
    pub record Ended : Type 0 where
      pub first : old ≡ pending_at w.turn
      pub shown : IsShown m.0 w found
      pub hit : found ≡ old → ◌≡◌ {A = Me S View} n (with_end m.0 w, m.1)
      pub miss : found ≢ old → ◌≡◌ {A = Me S View} n (with_lost m.0 w found, m.1)

    pub ended_stays : ((v : View) (x : WindNo) → (with_end v x).role ≡ v.role) → Ended → Stays m n
    ended_stays same t = ⊎_elim (λ (e : found ≡ old). stays_by m n (with_end m.0 w) (t.hit e) (same m.0 w)) (λ (ne : found ≡ old → ⊥). stays_by m n (with_lost m.0 w found) (t.miss ne) refl) (cases_eq found old)

    pub ended : (z z' : TableId) (p : Pass) (r : Settled) → pass_of z m.0 ≡ p → z' ≡ z → (found ≡ old → r ≡ Won) → (found ≢ old → r ≡ Lost found) → Ended → Ends with_end p w r (pass_of z' n.0)
    ended z z' p r is same won lost t = subst (λ (q : Pass). Ends with_end q w r (pass_of z' n.0)) is (⊎_elim
        (λ (e : found ≡ old). subst (λ (s : Settled). Ends with_end (pass_of z m.0) w s (pass_of z' n.0)) (sym (won e))
        (subst (IsShown m.0 w) (e ∙ t.first) t.shown, after (with_end m.0 w) (t.hit e)))
        (λ (ne : found ≡ old → ⊥). subst (λ (s : Settled). Ends with_end (pass_of z m.0) w s (pass_of z' n.0)) (sym (lost ne))
        ((λ e. ne (e ∙ sym t.first)), t.shown, after (with_lost m.0 w found) (t.miss ne)))
        (cases_eq found old))
      where
        after : (v : View) → ◌≡◌ {A = Me S View} n (v, m.1) → pass_of z' n.0 ≡ with_view (pass_of z m.0) v
        after v e = λ i. pass_of (same i) (e i).0

    pub ended_from : (slots new : ℕ) → ends with_end (step slots w.slot old new none) m found n → old ≡ pending_at w.turn → Ended
    ended_from slots new told e = let t = told w.turn e in record { first = e; shown = t.0; hit = t.1; miss = t.2 }

  module _ (m n : Me S View) (w : WindNo) (old found : ℕ) where
    pub record Looked : Type 0 where
      pub shown : IsShown m.0 w found
      pub hit : found ≡ replied_at w.turn → ◌≡◌ {A = Me S View} n (with_collected m.0 w, m.1)
      pub bailed : found ≡ bailed_at w.turn → ◌≡◌ {A = Me S View} n m
      pub miss : found ≢ replied_at w.turn → found ≢ bailed_at w.turn → ◌≡◌ {A = Me S View} n (with_lost m.0 w found, m.1)

    pub looked_from : (slots new : ℕ) → collects_replied (step slots w.slot old new none) m found n → old ≡ replied_at w.turn → Looked
    looked_from slots new told e = let t = told w.turn e in record { shown = t.0; hit = t.1; bailed = t.2; miss = t.3 }

    pub looked_stays : Looked → Stays m n
    looked_stays t = ⊎_elim (λ (r : found ≡ replied_at w.turn). stays_by m n (with_collected m.0 w) (t.hit r) refl)
        (λ (nr : found ≡ replied_at w.turn → ⊥). ⊎_elim (λ (b : found ≡ bailed_at w.turn). stays_by m n m.0 (t.bailed b) refl)
        (λ (nb : found ≡ bailed_at w.turn → ⊥). stays_by m n (with_lost m.0 w found) (t.miss nr nb) refl) (cases_eq found (bailed_at w.turn)))
        (cases_eq found (replied_at w.turn))

    -- the call after a first step that found no bailed word
    pub looked : (z z' : TableId) (p : Pass) → pass_of z m.0 ≡ p → z' ≡ z → old ≡ replied_at w.turn → found ≢ bailed_at w.turn → Looked → Collects p w (eqb found old) (pass_of z' n.0)
    looked z z' p is same first nb t = subst (λ (q : Pass). Collects q w (eqb found old) (pass_of z' n.0)) is (by_test (eqb found old) refl)
      where
        after : (v : View) → ◌≡◌ {A = Me S View} n (v, m.1) → pass_of z' n.0 ≡ with_view (pass_of z m.0) v
        after v e = λ i. pass_of (same i) (e i).0

        by_test : (b : Bool) → eqb found old ≡ b → Collects (pass_of z m.0) w b (pass_of z' n.0)
        by_test true e = let r = eqb-true found old e ∙ first in (found, inl r, t.shown, after (with_collected m.0 w) (t.hit r))
        by_test false e = let nr : found ≢ replied_at w.turn = λ r. eqb-false found old e (r ∙ sym first) in (found, (nr, nb), t.shown, after (with_lost m.0 w found) (t.miss nr nb))

    -- and after one that did
    pub bailed_once : m.0.role ≡ Hub → found ≡ bailed_at w.turn → Looked → (n.0.role ≡ Hub) × (times w n.0.bailed ≡ 1) × (times w n.0.collected ≡ 0)
    bailed_once hub b t = subst (λ (x : Me S View). (x.0.role ≡ Hub) × (times w x.0.bailed ≡ 1) × (times w x.0.collected ≡ 0)) (sym (t.bailed b))
        (hub, ((t.shown.hubs hub).bailed b).0, omega (arith, b, (t.shown.hubs hub).collected, once (free_at (w.turn + 1)) found))

    pub collected_bailed : (z z' z'' : TableId) (o : Me S View) (p : Pass) → pass_of z m.0 ≡ p → z' ≡ z → z'' ≡ z' → found ≡ bailed_at w.turn → Looked
        → ◌≡◌ {A = Me S View} o (with_collected n.0 w, n.1) → Collects p w true (pass_of z'' o.0)
    collected_bailed z z' z'' o p is same again b t e = subst (λ (q : Pass). Collects q w true (pass_of z'' o.0)) is
        (found, inr b, t.shown, λ i. pass_of ((again ∙ same) i) ((e ∙ ap (λ (x : Me S View). (with_collected x.0 w, x.1)) (t.bailed b)) i).0)
