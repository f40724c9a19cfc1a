-- What the hub knows of an open wind after its own calls.
use Rattle.std.proofs.Common.{◌≡◌, ◌≢◌, ℕ, ◌+◌, ◌/◌, ◌<◌, ◌≤◌, ◌⊎◌, inl, inr, ⊎_elim, Bool, true, false, [], ◌∷◌, ◌++◌, max, refl, sym, subst, ◌∙◌, arith}
use Rattle.std.proofs.lemmas.Bool.Decides.{nat_tests}
use Rattle.atomic_table.specs.Table.{Me}
use Rattle.xlator_law.specs.declared.winds.WindNo.{WindNo}
use Rattle.xlator_law.specs.declared.winds.Settled.{Settled}
use Rattle.xlator_law.specs.declared.winds.Settled.TheVariants.{Won, Lost}
use Rattle.wind_words.specs.declared.view.View.{View}
use Rattle.wind_words.specs.declared.view.Role.TheVariants.{Hub}
use Rattle.wind_words.specs.Word.{free_at, pending_at, replied_at, bailed_at}
use Rattle.wind_words.specs.Winds.{wind, times, highest_seen, turn_after}
use Rattle.wind_words.specs.Calls.{Pass, IsShown, IsFree, IsOpen, KnowsEnd, Ends, Collects, with_opened, with_won, with_bailed, with_lost}
use Rattle.wind_words.proofs.Counts.{once, one_here, times_push, highest_append}

-- a wind that is won, seen from the view before and the one after
won_known : (v u : View) (w : WindNo) → IsOpen v w → times w v.won ≡ 0 → u.role ≡ v.role → u.opened ≡ v.opened → u.collected ≡ v.collected → u.won ≡ v.won ++ w ∷ []
    → KnowsEnd u w
won_known v u w o none role opened collected won = record {
  is_open = record { hub = role ∙ o.hub; opened = subst (λ l. times w l ≡ 1) (sym opened) o.opened; collected = subst (λ l. times w l ≡ 0) (sym collected) o.collected };
  ended = inl (subst (λ l. times w l ≡ 1) (sym won) (omega (arith, none, times_push w v.won w, one_here w w refl refl)));
}

not_won : (v : View) (w : WindNo) → IsShown v w (pending_at w.turn) → times w v.won ≡ 0
not_won v w s = omega (arith, s.won, once (replied_at w.turn) (pending_at w.turn))

lost_known : (v : View) (w : WindNo) (word : ℕ) → IsOpen v w → word ≢ pending_at w.turn → IsShown v w word → KnowsEnd (with_lost v w word) w
lost_known v w word o other s =
    let come = (s.hubs o.hub).opened in
    let above : pending_at w.turn < word = omega (arith, o.opened, come, other, once (pending_at w.turn) word) in record {
      is_open = record { hub = o.hub; opened = o.opened; collected = o.collected };
      ended = inr (omega (arith, above, highest_append w.slot v.lost (record { wind = w; word = word } ∷ []), seen_last w word));
    }
  where
    seen_last : (x : WindNo) (n : ℕ) → highest_seen x.slot (record { wind = x; word = n } ∷ []) ≡ n
    seen_last x n = grind (arith, nat_tests)

pub settle_known : (old new : Pass) (w : WindNo) (s : Settled) → Ends with_won old w s new → IsOpen old.view w → KnowsEnd new.view w
settle_known old new w Won e o = subst (λ (p : Pass). KnowsEnd p.view w) (sym e.1) (won_known old.view (with_won old.view w) w o (not_won old.view w e.0) refl refl refl refl)
settle_known old new w (Lost word) e o = subst (λ (p : Pass). KnowsEnd p.view w) (sym e.2) (lost_known old.view w word o e.0 e.1)

pub bail_known : (old new : Pass) (w : WindNo) (s : Settled) → Ends with_bailed old w s new → IsOpen old.view w → KnowsEnd new.view w
bail_known old new w Won e o = subst (λ (p : Pass). KnowsEnd p.view w) (sym e.1) (won_known old.view (with_bailed old.view w) w o (not_won old.view w e.0) refl refl refl refl)
bail_known old new w (Lost word) e o = subst (λ (p : Pass). KnowsEnd p.view w) (sym e.2) (lost_known old.view w word o e.0 e.1)

pub collect_known : (old new : Pass) (w : WindNo) (did : Bool) → Collects old w did new → KnowsEnd old.view w → did ≡ true
collect_known old new w true c k = refl
collect_known old new w false c k =
    let word : ℕ = c.0 in
    let s = c.2 in
    let kept = (s.hubs k.is_open.hub).collected in
    let low : replied_at w.turn ≤ word = ⊎_elim
    (λ (won : times w old.view.won ≡ 1). omega (arith, won, s.won, once (replied_at w.turn) word))
    (λ (seen : pending_at w.turn < highest_seen w.slot old.view.lost). omega (arith, seen, s.seen))
    k.ended in
    absurd (omega (arith, low, kept, k.is_open.collected, once (free_at (w.turn + 1)) word, c.1.0, c.1.1))

module _ {S : Type 0} (m n : Me S View) (slot found : ℕ) where
  pub open_known : m.0.role ≡ Hub → IsFree m.0 slot → found ≡ free_at (turn_after slot m.0.collected) → times (wind slot (turn_after slot m.0.collected)) m.0.opened ≡ 0
      → ◌≡◌ {A = Me S View} n (with_opened m.0 (wind slot (turn_after slot m.0.collected)), m.1) → IsOpen n.0 (wind slot (found / 4))
  open_known hub free word first is =
      let turn : ℕ = turn_after slot m.0.collected in
      let x = wind slot turn in
      let same : found / 4 ≡ turn = omega (arith, word) in
      subst (λ (t : ℕ). IsOpen n.0 (wind slot t)) (sym same) (subst (λ (y : Me S View). IsOpen y.0 x) (sym is) record {
        hub = hub;
        opened = omega (arith, first, times_push x m.0.opened x, one_here x x refl refl);
        collected = sym (free.collected turn) ∙ first;
      })
