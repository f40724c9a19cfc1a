-- What each kind of step does to the counts of one wind.
use Rattle.std.proofs.Common.{◌≡◌, ◌≢◌, ℕ, ◌+◌, ◌*◌, ◌<◌, ◌≤◌, inl, inr, List, [], ◌∷◌, ◌++◌, refl, ◌∙◌, arith}
use Rattle.std.proofs.lemmas.Bool.{cases_eq}
use Rattle.xlator_law.specs.declared.winds.WindNo.{WindNo}
use Rattle.wind_words.specs.declared.view.View.{View}
use Rattle.wind_words.specs.Word.{once_from, free_at, pending_at, replied_at, bailed_at}
use Rattle.wind_words.specs.Winds.{one_of, times}
use Rattle.wind_words.specs.Rule.{IsHubs, IsCounted, won_by}
use Rattle.wind_words.specs.Calls.{with_opened, with_won, with_bailed, with_collected}
use Rattle.wind_words.proofs.Counts.{once, one_here, one_other_slot, one_other_turn, times_push}

-- A count that is once from `from` on, and is counted once more where the word comes to `from` at this turn.
pub counted_on : (w x : WindNo) (n from k word word' : ℕ) → from ≡ w.turn * 4 + k → x.slot ≡ w.slot
    → word < x.turn * 4 + k → x.turn * 4 + k ≤ word + 4 → x.turn * 4 + k ≤ word' → word' < x.turn * 4 + k + 4
    → n ≡ once_from from word → n + one_of w x ≡ once_from from word'
counted_on w x n from k word word' f s a b c d e = elim (cases_eq x.turn w.turn) [
  | inl t ↦ omega (arith, one_here w x s t, once from word, once from word')
  | inr t ↦ omega (arith, one_other_turn w x t, once from word, once from word')
]

-- a wind of another slot counts as before
pub counted_off : (w x : WindNo) (xs : List WindNo) → x.slot ≢ w.slot → times w (xs ++ x ∷ []) ≡ times w xs
counted_off w x xs s = omega (arith, times_push w xs x, one_other_slot w x s)

module _ (hub : View) (others : List View) (w x : WindNo) where
  pub opened_on : x.slot ≡ w.slot → IsCounted hub others w (free_at x.turn) → IsCounted (with_opened hub x) others w (pending_at x.turn)
  opened_on s c = record {
    hubs = record {
      opened = times_push w hub.opened x ∙ counted_on w x (times w hub.opened) (pending_at w.turn) 1 (free_at x.turn) (pending_at x.turn) refl s (omega arith) (omega arith) (omega arith) (omega arith) c.hubs.opened;
      collected = omega (arith, c.hubs.collected, once (free_at (w.turn + 1)) (free_at x.turn), once (free_at (w.turn + 1)) (pending_at x.turn));
      bailed_late = omega (arith, c.hubs.bailed_late, once (bailed_at w.turn) (free_at x.turn), once (bailed_at w.turn) (pending_at x.turn));
      bailed = λ h. absurd (omega arith);
    };
    won = omega (arith, c.won, once (replied_at w.turn) (free_at x.turn), once (replied_at w.turn) (pending_at x.turn));
  }

  pub opened_off : x.slot ≢ w.slot → (word : ℕ) → IsCounted hub others w word → IsCounted (with_opened hub x) others w word
  opened_off s word c = record {
    hubs = record { opened = counted_off w x hub.opened s ∙ c.hubs.opened; collected = c.hubs.collected; bailed_late = c.hubs.bailed_late; bailed = c.hubs.bailed };
    won = c.won;
  }

  -- the hub's lists, where another pass's settle makes the word replied
  pub hubs_replied : IsHubs hub w (pending_at x.turn) → IsHubs hub w (replied_at x.turn)
  hubs_replied c = record {
    opened = omega (arith, c.opened, once (pending_at w.turn) (pending_at x.turn), once (pending_at w.turn) (replied_at x.turn));
    collected = omega (arith, c.collected, once (free_at (w.turn + 1)) (pending_at x.turn), once (free_at (w.turn + 1)) (replied_at x.turn));
    bailed_late = omega (arith, c.bailed_late, once (bailed_at w.turn) (pending_at x.turn), once (bailed_at w.turn) (replied_at x.turn));
    bailed = λ h. absurd (omega arith);
  }

  -- the wind is won once more, by whichever pass, where the word becomes replied
  pub won_on : x.slot ≡ w.slot → (n : ℕ) → n ≡ once_from (replied_at w.turn) (pending_at x.turn) → n + one_of w x ≡ once_from (replied_at w.turn) (replied_at x.turn)
  won_on s n e = counted_on w x n (replied_at w.turn) 2 (pending_at x.turn) (replied_at x.turn) refl s (omega arith) (omega arith) (omega arith) (omega arith) e

  pub settled_on : x.slot ≡ w.slot → IsCounted hub others w (pending_at x.turn) → IsCounted (with_won hub x) others w (replied_at x.turn)
  settled_on s c = let h = hubs_replied c.hubs in record {
    hubs = record { opened = h.opened; collected = h.collected; bailed_late = h.bailed_late; bailed = λ e. absurd (omega arith) };
    won = omega (arith, times_push w hub.won x, won_on s (times w hub.won + won_by w others) c.won);
  }

  pub settled_off : x.slot ≢ w.slot → (word : ℕ) → IsCounted hub others w word → IsCounted (with_won hub x) others w word
  settled_off s word c = let e = counted_off w x hub.won s in record {
    hubs = record {
      opened = c.hubs.opened;
      collected = c.hubs.collected;
      bailed_late = c.hubs.bailed_late;
      bailed = λ h. ((c.hubs.bailed h).0, e ∙ (c.hubs.bailed h).1);
    };
    won = omega (arith, e, c.won);
  }

  pub bailed_on : x.slot ≡ w.slot → IsCounted hub others w (pending_at x.turn) → IsCounted (with_bailed hub x) others w (bailed_at x.turn)
  bailed_on s c = elim (cases_eq x.turn w.turn) [
    | inl t ↦ record {
      hubs = record {
        opened = omega (arith, c.hubs.opened, once (pending_at w.turn) (pending_at x.turn), once (pending_at w.turn) (bailed_at x.turn));
        collected = omega (arith, c.hubs.collected, once (free_at (w.turn + 1)) (pending_at x.turn), once (free_at (w.turn + 1)) (bailed_at x.turn));
        bailed_late = omega (arith, c.hubs.bailed_late, times_push w hub.bailed x, one_here w x s t, once (bailed_at w.turn) (pending_at x.turn), once (bailed_at w.turn) (bailed_at x.turn));
        bailed = λ h. (
          omega (arith, c.hubs.bailed_late, times_push w hub.bailed x, one_here w x s t, once (bailed_at w.turn) (pending_at x.turn)),
          omega (arith, c.won, times_push w hub.won x, one_here w x s t, once (replied_at w.turn) (pending_at x.turn)),
        );
      };
      won = omega (arith, c.won, times_push w hub.won x, one_here w x s t, once (replied_at w.turn) (pending_at x.turn), once (replied_at w.turn) (bailed_at x.turn));
    }
    | inr t ↦ record {
      hubs = record {
        opened = omega (arith, c.hubs.opened, once (pending_at w.turn) (pending_at x.turn), once (pending_at w.turn) (bailed_at x.turn));
        collected = omega (arith, c.hubs.collected, once (free_at (w.turn + 1)) (pending_at x.turn), once (free_at (w.turn + 1)) (bailed_at x.turn));
        bailed_late = omega (arith, c.hubs.bailed_late, times_push w hub.bailed x, one_other_turn w x t, once (bailed_at w.turn) (pending_at x.turn), once (bailed_at w.turn) (bailed_at x.turn));
        bailed = λ h. absurd (t (omega arith));
      };
      won = omega (arith, c.won, times_push w hub.won x, one_other_turn w x t, once (replied_at w.turn) (pending_at x.turn), once (replied_at w.turn) (bailed_at x.turn));
    }
  ]

  pub bailed_off : x.slot ≢ w.slot → (word : ℕ) → IsCounted hub others w word → IsCounted (with_bailed hub x) others w word
  bailed_off s word c = let e = counted_off w x hub.won s in let b = counted_off w x hub.bailed s in record {
    hubs = record {
      opened = c.hubs.opened;
      collected = c.hubs.collected;
      bailed_late = omega (arith, b, c.hubs.bailed_late);
      bailed = λ h. (b ∙ (c.hubs.bailed h).0, e ∙ (c.hubs.bailed h).1);
    };
    won = omega (arith, e, c.won);
  }

  -- the word was replied or bailed
  pub collected_on : x.slot ≡ w.slot → (word : ℕ) → replied_at x.turn ≤ word → word ≤ bailed_at x.turn → IsCounted hub others w word → IsCounted (with_collected hub x) others w (free_at (x.turn + 1))
  collected_on s word low high c = record {
    hubs = record {
      opened = omega (arith, c.hubs.opened, once (pending_at w.turn) word, once (pending_at w.turn) (free_at (x.turn + 1)));
      collected = times_push w hub.collected x
          ∙ counted_on w x (times w hub.collected) (free_at (w.turn + 1)) 4 word (free_at (x.turn + 1)) (omega arith) s (omega arith) (omega arith) (omega arith) (omega arith) c.hubs.collected;
      bailed_late = omega (arith, c.hubs.bailed_late, once (bailed_at w.turn) word, once (bailed_at w.turn) (free_at (x.turn + 1)));
      bailed = λ h. absurd (omega arith);
    };
    won = omega (arith, c.won, once (replied_at w.turn) word, once (replied_at w.turn) (free_at (x.turn + 1)));
  }

  pub collected_off : x.slot ≢ w.slot → (word : ℕ) → IsCounted hub others w word → IsCounted (with_collected hub x) others w word
  collected_off s word c = record {
    hubs = record { opened = c.hubs.opened; collected = counted_off w x hub.collected s ∙ c.hubs.collected; bailed_late = c.hubs.bailed_late; bailed = c.hubs.bailed };
    won = c.won;
  }
