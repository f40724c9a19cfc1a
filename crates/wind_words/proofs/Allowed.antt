-- What the table asks of each kind of step.
use Rattle.std.proofs.Common.{◌≡◌, ◌≢◌, ℕ, zero, suc, ◌+◌, ◌*◌, ◌<◌, ◌≤◌, ◌%◌, ◌/◌, ◌^◌, ◌⊎◌, ⊎_elim, List, eqb, set, refl, sym, ap, ◌∙◌, subst, arith}
use mathlib.Core.Option.{some, none}
use lib.ListN.{get_elem?}
use prog.Atomic.{either}
use Rattle.std.proofs.lemmas.Bool.{cases_eq}
use Rattle.std.proofs.lemmas.List.{set-get_or}
use Rattle.std.proofs.lemmas.Nat.{div-add-mod', mod_below, mod-mul-add}
use Rattle.atomic_table.specs.Table.{State, Me, keeps, step, Allows}
use Rattle.atomic_table.proofs.Lists.{exchanged, set_again}
use Rattle.xlator_law.specs.declared.winds.WindNo.{WindNo}
use Rattle.wind_words.specs.declared.view.View.{View}
use Rattle.wind_words.specs.declared.view.Role.TheVariants.{Hub, Spent}
use Rattle.wind_words.specs.Word.{word_of, once_from, free_at, pending_at, replied_at, bailed_at}
use Rattle.wind_words.specs.Winds.{wind, times, turn_after}
use Rattle.wind_words.specs.Rule.{IsHubs, WordRule}
use Rattle.wind_words.specs.Calls.{IsShown, IsFree, with_opened, with_won, with_bailed, with_collected, with_lost}
use Rattle.wind_words.specs.Steps.{opens, ends, collects_replied, collects_bailed, looks}
use Rattle.wind_words.proofs.Counts.{once, turn_is_after, turn_not_after}
use Rattle.wind_words.proofs.Keeping.{opened, settled, bailed, collected, lost, shown}

module _ {S : Type 0} (count slots id i : ℕ) (me : Me S View) where
  abbrev Rule : State S View → Type 0
  Rule s = WordRule count s.words s.views

  -- what a step that finds the word `found` and leaves `n` gives: a view under which the rule holds, and what it tells
  abbrev Leaves : List ℕ → List View → ℕ → (ℕ → Me S View → Type 0) → Type 0
  Leaves words views n then = (w : View) × WordRule count (set words i n) (set views id w) × then (word_of words i) (w, me.1)

  -- a compare and exchange, by its two outcomes
  exchanges : (old new : ℕ) (then : ℕ → Me S View → Type 0)
      → ((words : List ℕ) (views : List View) → WordRule count words views → get_elem? views id ≡ some me.0 → word_of words i ≡ old → Leaves words views new then)
      → ((words : List ℕ) (views : List View) → WordRule count words views → get_elem? views id ≡ some me.0 → word_of words i ≢ old → (w : View) × WordRule count words (set views id w) × then (word_of words i) (w, me.1))
      → Allows Rule slots id me i (λ n. either (eqb n old) new n) then
  exchanges old new then hit miss s holds homes at small =
      let n = word_of s.words i in
      let found = exchanged n old new (λ m. Leaves s.words s.views m then)
      (λ e. hit s.words s.views holds at e)
      (λ ne. let m = miss s.words s.views holds at ne in (m.0, subst (λ ws. WordRule count ws (set s.views id m.0)) (sym (set-get_or s.words i 0)) m.1, m.2)) in
      (found.0, keeps, tt, found.1, found.2)

  same_turn : (k turn turn' : ℕ) → turn * 4 + k ≡ turn' * 4 + k → turn ≡ turn'
  same_turn k turn turn' e = omega arith

  seen_in : (words : List ℕ) (views : List View) (w : WindNo) → me.0.role ≢ Spent → WordRule count words views → get_elem? views id ≡ some me.0 → IsShown me.0 w (word_of words w.slot)
  seen_in words views w live k at = shown count words views id me.0 w k at live

  live_hub : me.0.role ≡ Hub → me.0.role ≢ Spent
  live_hub hub spent = absurd cc

  -- what a settle or a bail tells, of the word found, the view after and the turn
  abbrev Told : (View → WindNo → View) → ℕ → ℕ → View → ℕ → Type 0
  Told with_end turn found v t = IsShown me.0 (wind i t) found
      × (found ≡ pending_at turn → ◌≡◌ {A = Me S View} (v, me.1) (with_end me.0 (wind i t), me.1))
      × (found ≢ pending_at turn → ◌≡◌ {A = Me S View} (v, me.1) (with_lost me.0 (wind i t) found, me.1))

  -- a settle or a bail: `hit` is what the step that ends the wind keeps
  pub ends_allowed : (with_end : View → WindNo → View) (turn end : ℕ) → me.0.role ≢ Spent
      → ((words : List ℕ) (views : List View) → WordRule count words views → get_elem? views id ≡ some me.0 → word_of words i ≡ pending_at turn
      → WordRule count (set words i end) (set views id (with_end me.0 (wind i turn))))
      → Allows Rule slots id me i (λ n. either (eqb n (pending_at turn)) end n) (ends with_end (step slots i (pending_at turn) end none) me)
  ends_allowed with_end turn end live hit = exchanges (pending_at turn) end (ends with_end (step slots i (pending_at turn) end none) me)
      (λ words views k at e. (
        with_end me.0 (wind i turn),
        hit words views k at e,
        λ turn' e'. subst (Told with_end turn (word_of words i) (with_end me.0 (wind i turn))) (same_turn 1 turn turn' e') (seen_in words views (wind i turn) live k at, (λ _. refl), (λ ne. absurd (ne e))),
      ))
      (λ words views k at ne. (
        with_lost me.0 (wind i turn) (word_of words i),
        lost count words me.0 (wind i turn) views id k at live,
        λ turn' e'. subst (Told with_end turn (word_of words i) (with_lost me.0 (wind i turn) (word_of words i))) (same_turn 1 turn turn' e')
            (seen_in words views (wind i turn) live k at, (λ e. absurd (ne e)), (λ _. refl)),
      ))

  -- what a collect of a word that may be replied tells
  abbrev Collected : ℕ → View → ℕ → Type 0
  Collected found v t = IsShown me.0 (wind i t) found
      × (found ≡ replied_at t → ◌≡◌ {A = Me S View} (v, me.1) (with_collected me.0 (wind i t), me.1))
      × (found ≡ bailed_at t → ◌≡◌ {A = Me S View} (v, me.1) me)
      × (found ≢ replied_at t → found ≢ bailed_at t → ◌≡◌ {A = Me S View} (v, me.1) (with_lost me.0 (wind i t) found, me.1))

  pub collects_allowed : (turn : ℕ) → me.0.role ≡ Hub → i < count
      → Allows Rule slots id me i (λ n. either (eqb n (replied_at turn)) (free_at (turn + 1)) n) (collects_replied (step slots i (replied_at turn) (free_at (turn + 1)) none) me)
  collects_allowed turn hub within = exchanges (replied_at turn) (free_at (turn + 1)) (collects_replied (step slots i (replied_at turn) (free_at (turn + 1)) none) me)
      (λ words views k at e. (
        with_collected me.0 (wind i turn),
        collected count words me.0 (wind i turn) within views id k at hub (omega (arith, e)) (omega (arith, e)),
        λ turn' e'. subst (Collected (word_of words i) (with_collected me.0 (wind i turn))) (same_turn 2 turn turn' e')
            (seen_in words views (wind i turn) (live_hub hub) k at, (λ _. refl), (λ b. absurd (omega (arith, e, b))), (λ ne. absurd (ne e))),
      ))
      (λ words views k at ne. ⊎_elim
      (λ (b : word_of words i ≡ bailed_at turn). (
        me.0,
        subst (λ vs. WordRule count words vs) (sym (set_again views id me.0 at)) k,
        λ turn' e'. subst (Collected (word_of words i) me.0) (same_turn 2 turn turn' e')
            (seen_in words views (wind i turn) (live_hub hub) k at, (λ e. absurd (ne e)), (λ _. refl), (λ _ nb. absurd (nb b))),
      ))
      (λ (nb : word_of words i ≡ bailed_at turn → ⊥). (
        with_lost me.0 (wind i turn) (word_of words i),
        lost count words me.0 (wind i turn) views id k at (live_hub hub),
        λ turn' e'. subst (Collected (word_of words i) (with_lost me.0 (wind i turn) (word_of words i))) (same_turn 2 turn turn' e')
            (seen_in words views (wind i turn) (live_hub hub) k at, (λ e. absurd (ne e)), (λ b. absurd (nb b)), (λ _ _. refl)),
      ))
      (cases_eq (word_of words i) (bailed_at turn)))

  -- a word that the hub bailed and did not collect is bailed still
  stays_bailed : (words : List ℕ) (views : List View) (turn : ℕ) → me.0.role ≡ Hub → times (wind i turn) me.0.bailed ≡ 1 → times (wind i turn) me.0.collected ≡ 0
      → WordRule count words views → get_elem? views id ≡ some me.0 → word_of words i ≡ bailed_at turn
  stays_bailed words views turn hub b c k at = let h = (seen_in words views (wind i turn) (live_hub hub) k at).hubs hub in
      omega (arith, b, c, h.bailed_late, h.collected, once (bailed_at turn) (word_of words i), once (free_at (turn + 1)) (word_of words i))

  pub collects_bailed_allowed : (turn : ℕ) → me.0.role ≡ Hub → i < count → times (wind i turn) me.0.bailed ≡ 1 → times (wind i turn) me.0.collected ≡ 0
      → Allows Rule slots id me i (λ n. either (eqb n (bailed_at turn)) (free_at (turn + 1)) n) (collects_bailed (step slots i (bailed_at turn) (free_at (turn + 1)) none) me)
  collects_bailed_allowed turn hub within b c = exchanges (bailed_at turn) (free_at (turn + 1)) (collects_bailed (step slots i (bailed_at turn) (free_at (turn + 1)) none) me)
      (λ words views k at e. (
        with_collected me.0 (wind i turn),
        collected count words me.0 (wind i turn) within views id k at hub (omega (arith, e)) (omega (arith, e)),
        λ turn' e'. subst (λ (t : ℕ). (word_of words i ≡ bailed_at t) × (◌≡◌ {A = Me S View} (with_collected me.0 (wind i turn), me.1) (with_collected me.0 (wind i t), me.1))) (same_turn 3 turn turn' e') (e, refl),
      ))
      (λ words views k at ne. absurd (ne (stays_bailed words views turn hub b c k at)))

  -- the word of a free slot is that of the turn after its last one
  free_word : (words : List ℕ) (views : List View) → me.0.role ≡ Hub → IsFree me.0 i → WordRule count words views → get_elem? views id ≡ some me.0
      → word_of words i ≡ free_at (turn_after i me.0.collected)
  free_word words views hub free k at =
      let n = word_of words i in
      let q : ℕ = n / 4 in
      let shows : (t : ℕ) → IsHubs me.0 (wind i t) n = λ t. (seen_in words views (wind i t) (live_hub hub) k at).hubs hub in
      let split_at : q * 4 + n % 4 ≡ n = div-add-mod' n 4 in
      let low : n % 4 < 4 = mod_below n 4 (omega arith) in
      let whole : n ≡ q * 4 = let h = shows q in omega (arith, split_at, low, h.opened, h.collected, free.collected q, once (pending_at q) n, once (free_at (q + 1)) n) in
      let below : turn_after i me.0.collected ≤ q = turn_not_after i q me.0.collected (λ t some. let h = shows t in omega (arith, some, whole, h.collected, once (free_at (t + 1)) n)) in
      let above : q ≤ turn_after i me.0.collected = reaches q n whole (λ t. (shows t).collected) in
      omega (arith, whole, below, above)
    where
      reaches : (q n : ℕ) → n ≡ q * 4 → ((t : ℕ) → times (wind i t) me.0.collected ≡ once_from (free_at (t + 1)) n) → q ≤ turn_after i me.0.collected
      reaches zero n e h = omega arith
      reaches (suc t) n e h = let last = turn_is_after i t me.0.collected (omega (arith, e, h t, once (free_at (t + 1)) n)) in omega (arith, last)

  small_next : (n turn : ℕ) → n ≡ turn * 4 → turn * 4 + 1 < 2 ^ 64 → (n + 1) % 2 ^ 64 ≡ turn * 4 + 1
  small_next n turn e room = let whole : n + 1 ≡ 0 * 2 ^ 64 + (turn * 4 + 1) = omega (arith, e) in ap (λ (m : ℕ). m % 2 ^ 64) whole ∙ mod-mul-add 0 (2 ^ 64) (turn * 4 + 1) room

  pub opens_allowed : me.0.role ≡ Hub → i < count → IsFree me.0 i → Allows Rule slots id me i (λ n. (n + 1) % 2 ^ 64) (opens (step slots i 1 0 none) me)
  opens_allowed hub within free s k homes at small =
      let turn = turn_after i me.0.collected in
      let x = wind i turn in
      let n = word_of s.words i in
      let is : n ≡ free_at turn = free_word s.words s.views hub free k at in
      let next : (n + 1) % 2 ^ 64 ≡ pending_at turn = small_next n turn is (omega (arith, free.left)) in
      let rule = opened count s.words me.0 x within s.views id k at hub is in
      let shows = (seen_in s.words s.views x (live_hub hub) k at).hubs hub in (
        with_opened me.0 x,
        keeps,
        tt,
        subst (λ (m : ℕ). WordRule count (set s.words i m) (set s.views id (with_opened me.0 x))) (sym next) rule,
        (is, omega (arith, is, shows.opened, once (pending_at turn) n), refl),
      )

  pub looks_allowed : me.0.role ≢ Spent → Allows Rule slots id me i (λ n. n) (looks (step slots i 0 0 none) me)
  looks_allowed live s k homes at small = (
    me.0,
    keeps,
    tt,
    subst (λ ws. WordRule count ws (set s.views id me.0)) (sym (set-get_or s.words i 0)) (subst (λ vs. WordRule count s.words vs) (sym (set_again s.views id me.0 at)) k),
    (refl, λ w. omega (arith, (seen_in s.words s.views w live k at).won, once (replied_at w.turn) (word_of s.words w.slot))),
  )

  -- the same with the two words of a step as they were made
  pub settle_asked : (old new turn : ℕ) → old ≡ pending_at turn → new ≡ replied_at turn → me.0.role ≢ Spent → i < count
      → Allows Rule slots id me i (λ n. either (eqb n old) new n) (ends with_won (step slots i old new none) me)
  settle_asked old new turn o e live within = subst (λ (t : ℕ × ℕ). Allows Rule slots id me i (λ n. either (eqb n t.0) t.1 n) (ends with_won (step slots i t.0 t.1 none) me)) (λ j. (sym o j, sym e j))
      (ends_allowed with_won turn (replied_at turn) live (λ words views k at is. settled count words me.0 (wind i turn) within views id k at live is))

  pub bail_asked : (old new turn : ℕ) → old ≡ pending_at turn → new ≡ bailed_at turn → me.0.role ≡ Hub → i < count
      → Allows Rule slots id me i (λ n. either (eqb n old) new n) (ends with_bailed (step slots i old new none) me)
  bail_asked old new turn o e hub within = subst (λ (t : ℕ × ℕ). Allows Rule slots id me i (λ n. either (eqb n t.0) t.1 n) (ends with_bailed (step slots i t.0 t.1 none) me)) (λ j. (sym o j, sym e j))
      (ends_allowed with_bailed turn (bailed_at turn) (live_hub hub) (λ words views k at is. bailed count words me.0 (wind i turn) within views id k at hub is))

  pub collect_asked : (old new turn : ℕ) → old ≡ replied_at turn → new ≡ free_at (turn + 1) → me.0.role ≡ Hub → i < count
      → Allows Rule slots id me i (λ n. either (eqb n old) new n) (collects_replied (step slots i old new none) me)
  collect_asked old new turn o e hub within = subst (λ (t : ℕ × ℕ). Allows Rule slots id me i (λ n. either (eqb n t.0) t.1 n) (collects_replied (step slots i t.0 t.1 none) me)) (λ j. (sym o j, sym e j))
      (collects_allowed turn hub within)

  pub collect_bailed_asked : (old new turn : ℕ) → old ≡ bailed_at turn → new ≡ free_at (turn + 1) → me.0.role ≡ Hub → i < count
      → times (wind i turn) me.0.bailed ≡ 1 → times (wind i turn) me.0.collected ≡ 0
      → Allows Rule slots id me i (λ n. either (eqb n old) new n) (collects_bailed (step slots i old new none) me)
  collect_bailed_asked old new turn o e hub within b c = subst (λ (t : ℕ × ℕ). Allows Rule slots id me i (λ n. either (eqb n t.0) t.1 n) (collects_bailed (step slots i t.0 t.1 none) me)) (λ j. (sym o j, sym e j))
      (collects_bailed_allowed turn hub within b c)
