-- The rule after a change of the hub's view, or of another one.
use Rattle.std.proofs.Common.{◌≡◌, ◌≢◌, ℕ, ◌+◌, ◌<◌, ◌≤◌, ◌⊎◌, ⊎_elim, Bool, List, length, set, length-set, refl, sym, ◌∙◌, subst, arith}
use mathlib.Core.Option.{some}
use lib.ListN.{get_elem?}
use Rattle.xlator_law.specs.declared.winds.WindNo.{WindNo}
use Rattle.wind_words.specs.declared.view.View.{View}
use Rattle.wind_words.specs.declared.view.Role.TheVariants.{Reader}
use Rattle.wind_words.specs.Word.{word_of, pending_at, replied_at}
use Rattle.wind_words.specs.Winds.{one_of, times}
use Rattle.wind_words.specs.Rule.{IsCounted, won_by, WereSeen, IsOther, AreOthers, Keeps}
use Rattle.wind_words.specs.Calls.{with_won}
use Rattle.wind_words.proofs.Counts.{times_push}
use Rattle.wind_words.proofs.Others.{Rises, set_rises, set_cases, seen_rises, others_rise, others_set, other_rises, other_same, won_by_set}
use Rattle.wind_words.proofs.Counted.{counted_off, hubs_replied, won_on}

-- a fact of each wind by its word, where the word of one slot changes
pub by_slot : (words : List ℕ) (x : WindNo) (n : ℕ) → x.slot < length words → (P Q : WindNo → ℕ → Type 0)
    → ((w : WindNo) → x.slot ≡ w.slot → P w (word_of words x.slot) → Q w n)
    → ((w : WindNo) → x.slot ≢ w.slot → (word : ℕ) → P w word → Q w word)
    → (w : WindNo) → P w (word_of words w.slot) → Q w (word_of (set words x.slot n) w.slot)
by_slot words x n within P Q on off w p = ⊎_elim
    (λ (h : (w.slot ≡ x.slot) × (word_of (set words x.slot n) w.slot ≡ n)).
    subst (λ (m : ℕ). Q w m) (sym h.1) (on w (sym h.0) (subst (λ (s : ℕ). P w (word_of words s)) h.0 p)))
    (λ (h : (w.slot ≢ x.slot) × (word_of (set words x.slot n) w.slot ≡ word_of words w.slot)).
    subst (λ (m : ℕ). Q w m) (sym h.1) (off w (λ e. h.0 (sym e)) (word_of words w.slot) p))
    (set_cases words x.slot n w.slot within)

-- the word of a slot rises, and the hub's view changes with it
pub hub_raised : (count : ℕ) (words : List ℕ) (hub hub' : View) (others : List View) (x : WindNo) (n : ℕ)
    → Keeps count words hub others → x.slot < count → word_of words x.slot ≤ n
    → hub'.role ≡ hub.role → hub'.alone ≡ hub.alone → hub'.lost ≡ hub.lost
    → ((w : WindNo) → x.slot ≡ w.slot → IsCounted hub others w (word_of words x.slot) → IsCounted hub' others w n)
    → ((w : WindNo) → x.slot ≢ w.slot → (word : ℕ) → IsCounted hub others w word → IsCounted hub' others w word)
    → Keeps count (set words x.slot n) hub' others
hub_raised count words hub hub' others x n k within up role alone lost on off =
    let rises = set_rises words x.slot n up in
    let here : x.slot < length words = omega (arith, k.sized) in record {
      sized = length-set words x.slot n ∙ k.sized;
      is_hub = role ∙ k.is_hub;
      counted = λ w. by_slot words x n here (IsCounted hub others) (IsCounted hub' others) on off w (k.counted w);
      seen = subst (λ l. WereSeen (set words x.slot n) l) (sym lost) (seen_rises words (set words x.slot n) rises hub.lost k.seen);
      others_keep = subst (λ (b : Bool). AreOthers (set words x.slot n) b others) (sym alone) (others_rise words (set words x.slot n) rises hub.alone others k.others_keep);
    }

-- a wind that a pass other than the hub's wins
pub reader_settled : (count : ℕ) (words : List ℕ) (hub : View) (others : List View) (i : ℕ) (v : View) (x : WindNo)
    → Keeps count words hub others → get_elem? others i ≡ some v → v.role ≡ Reader → IsOther words hub.alone v v.role
    → x.slot < count → word_of words x.slot ≡ pending_at x.turn
    → Keeps count (set words x.slot (replied_at x.turn)) hub (set others i (with_won v x))
reader_settled count words hub others i v x k at reader other within is =
    let n = replied_at x.turn in
    let words' = set words x.slot n in
    let rises : Rises words words' = set_rises words x.slot n (omega (arith, is)) in
    let here : x.slot < length words = omega (arith, k.sized) in
    let v' = with_won v x in
    let total : (w : WindNo) → won_by w (set others i v') ≡ won_by w others + one_of w x = λ w. omega (arith, won_by_set w others i v v' at, times_push w v.won x) in record {
      sized = length-set words x.slot n ∙ k.sized;
      is_hub = k.is_hub;
      counted = λ w. by_slot words x n here (IsCounted hub others) (IsCounted hub (set others i v'))
          (λ u s c. let at_pending = subst (λ (m : ℕ). IsCounted hub others u m) is c in record {
            hubs = hubs_replied hub others u x at_pending.hubs;
            won = omega (arith, total u, won_on hub others u x s (times u hub.won + won_by u others) at_pending.won);
          })
          (λ u s word c. record { hubs = c.hubs; won = omega (arith, total u, times_push u v.won x, counted_off u x v.won s, c.won) })
          w
          (k.counted w);
      seen = seen_rises words words' rises hub.lost k.seen;
      others_keep = others_set words' hub.alone others i v' (others_rise words words' rises hub.alone others k.others_keep) (other_same words' hub.alone v v' v.role refl reader (other_rises words words' rises hub.alone v v.role other));
    }
