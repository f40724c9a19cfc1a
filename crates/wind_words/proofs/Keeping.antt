-- Each kind of step keeps the rule.
use Rattle.std.proofs.Common.{◌≡◌, ◌≢◌, ℕ, zero, suc, ◌+◌, ◌<◌, ◌≤◌, Bool, true, false, List, [], ◌∷◌, ◌++◌, set, replicate, refl, sym, ap, subst, arith}
use mathlib.Core.Option.{some, some-injective}
use lib.ListN.{get_elem?}
use Rattle.std.proofs.lemmas.List.{length-replicate}
use Rattle.xlator_law.specs.declared.winds.WindNo.{WindNo}
use Rattle.wind_words.specs.declared.view.View.{View}
use Rattle.wind_words.specs.declared.view.Role.{Role}
use Rattle.wind_words.specs.declared.view.Role.TheVariants.{Hub, Reader, Spent}
use Rattle.wind_words.specs.Word.{word_of, free_at, pending_at, replied_at, bailed_at}
use Rattle.wind_words.specs.Winds.{wind, times}
use Rattle.wind_words.specs.Rule.{IsCounted, won_by, IsOther, AreOthers, Keeps, WordRule}
use Rattle.wind_words.specs.Calls.{IsShown, first_hub, new_reader, with_opened, with_won, with_bailed, with_collected, with_lost, with_reader}
use Rattle.wind_words.proofs.Counts.{once}
use Rattle.wind_words.proofs.Others.{seen_append, seen_none, seen_now, seen_by, others_set, others_push, others_shared, other_at, other_same, won_by_set, won_by_push, won_by_at}
use Rattle.wind_words.proofs.Counted.{opened_on, opened_off, settled_on, settled_off, bailed_on, bailed_off, collected_on, collected_off}
use Rattle.wind_words.proofs.Raised.{hub_raised, reader_settled}

pub reader_of : (words : List ℕ) (alone : Bool) (v : View) (r : Role) → r ≢ Spent → IsOther words alone v r → r ≡ Reader
reader_of words alone v Hub live o = absurd o
reader_of words alone v Reader live o = refl
reader_of words alone v Spent live o = absurd (live refl)

pub not_hub : (words : List ℕ) (alone : Bool) (v : View) (r : Role) → r ≡ Hub → IsOther words alone v r → ⊥
not_hub words alone v Hub h o = o
not_hub words alone v Reader h o = absurd cc
not_hub words alone v Spent h o = absurd cc

-- a statement of the rule with the hub's view at its place
pub at_head : (P : View → Type 0) (hub v : View) → some hub ≡ some v → P hub → P v
at_head P hub v at p = subst P (some-injective hub v at) p

zero_word : (n slot : ℕ) → word_of (replicate n 0) slot ≡ 0
zero_word zero slot = refl
zero_word (suc n) zero = refl
zero_word (suc n) (suc slot) = zero_word n slot

pub starts : (count : ℕ) (words : List ℕ) → words ≡ replicate count 0 → Keeps count words first_hub []
starts count words e = subst (λ ws. Keeps count ws first_hub []) (sym e) record {
  sized = length-replicate count 0;
  is_hub = refl;
  counted = λ w. subst (λ (n : ℕ). IsCounted first_hub [] w n) (sym (zero_word count w.slot)) record {
    hubs = record {
      opened = omega (arith, once (pending_at w.turn) 0);
      collected = omega (arith, once (free_at (w.turn + 1)) 0);
      bailed_late = omega arith;
      bailed = λ h. absurd (omega arith);
    };
    won = omega (arith, once (replied_at w.turn) 0);
  };
  seen = seen_none (replicate count 0);
  others_keep = tt;
}

-- the hub's steps

module _ (count : ℕ) (words : List ℕ) (v : View) (x : WindNo) (within : x.slot < count) where
  pub opened : (views : List View) (id : ℕ) → WordRule count words views → get_elem? views id ≡ some v → v.role ≡ Hub → word_of words x.slot ≡ free_at x.turn
      → WordRule count (set words x.slot (pending_at x.turn)) (set views id (with_opened v x))
  opened [] id k at hub is = absurd k
  opened (h ∷ others) zero k at hub is = at_head (λ u. WordRule count (set words x.slot (pending_at x.turn)) (with_opened u x ∷ others)) h v at
      (hub_raised count words h (with_opened h x) others x (pending_at x.turn) k within (omega (arith, is)) refl refl refl
      (λ w s c. opened_on h others w x s (subst (λ (m : ℕ). IsCounted h others w m) is c)) (λ w s. opened_off h others w x s))
  opened (h ∷ others) (suc i) k at hub is = absurd (not_hub words h.alone v v.role hub (other_at words h.alone others i v k.others_keep at))

  pub settled : (views : List View) (id : ℕ) → WordRule count words views → get_elem? views id ≡ some v → v.role ≢ Spent → word_of words x.slot ≡ pending_at x.turn
      → WordRule count (set words x.slot (replied_at x.turn)) (set views id (with_won v x))
  settled [] id k at live is = absurd k
  settled (h ∷ others) zero k at live is = at_head (λ u. WordRule count (set words x.slot (replied_at x.turn)) (with_won u x ∷ others)) h v at
      (hub_raised count words h (with_won h x) others x (replied_at x.turn) k within (omega (arith, is)) refl refl refl
      (λ w s c. settled_on h others w x s (subst (λ (m : ℕ). IsCounted h others w m) is c)) (λ w s. settled_off h others w x s))
  settled (h ∷ others) (suc i) k at live is = let o = other_at words h.alone others i v k.others_keep at in
      reader_settled count words h others i v x k at (reader_of words h.alone v v.role live o) o within is

  pub bailed : (views : List View) (id : ℕ) → WordRule count words views → get_elem? views id ≡ some v → v.role ≡ Hub → word_of words x.slot ≡ pending_at x.turn
      → WordRule count (set words x.slot (bailed_at x.turn)) (set views id (with_bailed v x))
  bailed [] id k at hub is = absurd k
  bailed (h ∷ others) zero k at hub is = at_head (λ u. WordRule count (set words x.slot (bailed_at x.turn)) (with_bailed u x ∷ others)) h v at
      (hub_raised count words h (with_bailed h x) others x (bailed_at x.turn) k within (omega (arith, is)) refl refl refl
      (λ w s c. bailed_on h others w x s (subst (λ (m : ℕ). IsCounted h others w m) is c)) (λ w s. bailed_off h others w x s))
  bailed (h ∷ others) (suc i) k at hub is = absurd (not_hub words h.alone v v.role hub (other_at words h.alone others i v k.others_keep at))

  pub collected : (views : List View) (id : ℕ) → WordRule count words views → get_elem? views id ≡ some v → v.role ≡ Hub
      → replied_at x.turn ≤ word_of words x.slot → word_of words x.slot ≤ bailed_at x.turn
      → WordRule count (set words x.slot (free_at (x.turn + 1))) (set views id (with_collected v x))
  collected [] id k at hub low high = absurd k
  collected (h ∷ others) zero k at hub low high = at_head (λ u. WordRule count (set words x.slot (free_at (x.turn + 1))) (with_collected u x ∷ others)) h v at
      (hub_raised count words h (with_collected h x) others x (free_at (x.turn + 1)) k within (omega (arith, high)) refl refl refl
      (λ w s c. collected_on h others w x s (word_of words x.slot) low high c) (λ w s. collected_off h others w x s))
  collected (h ∷ others) (suc i) k at hub low high = absurd (not_hub words h.alone v v.role hub (other_at words h.alone others i v k.others_keep at))

-- a wind that is not won or collected: the word that was seen goes into the view
module _ (count : ℕ) (words : List ℕ) (v : View) (w : WindNo) where
  pub lost : (views : List View) (id : ℕ) → WordRule count words views → get_elem? views id ≡ some v → v.role ≢ Spent
      → WordRule count words (set views id (with_lost v w (word_of words w.slot)))
  lost [] id k at live = absurd k
  lost (h ∷ others) zero k at live = let n = word_of words w.slot in at_head (λ u. WordRule count words (with_lost u w n ∷ others)) h v at record {
    sized = k.sized;
    is_hub = k.is_hub;
    counted = λ u. let c = k.counted u in record { hubs = record { opened = c.hubs.opened; collected = c.hubs.collected; bailed_late = c.hubs.bailed_late; bailed = c.hubs.bailed }; won = c.won };
    seen = seen_append words h.lost (record { wind = w; word = n } ∷ []) k.seen (seen_now words w);
    others_keep = k.others_keep;
  }
  lost (h ∷ others) (suc i) k at live =
      let n = word_of words w.slot in
      let v' = with_lost v w n in
      let o = other_at words h.alone others i v k.others_keep at in
      let r = reader_of words h.alone v v.role live o in record {
        sized = k.sized;
        is_hub = k.is_hub;
        counted = λ u. let c = k.counted u in record { hubs = c.hubs; won = omega (arith, c.won, won_by_set u others i v v' at) };
        seen = k.seen;
        others_keep = others_set words h.alone others i v' k.others_keep (lost_other v.role r o);
      }
    where
      lost_other : (r : Role) → r ≡ Reader → IsOther words h.alone v r → IsOther words h.alone (with_lost v w (word_of words w.slot)) r
      lost_other Hub e o = o
      lost_other Reader e o = (o.0, seen_append words v.lost (record { wind = w; word = word_of words w.slot } ∷ []) o.1 (seen_now words w))
      lost_other Spent e o = absurd cc

-- what the word of a slot shows of the pass that looks
alone_wins : (words : List ℕ) (w : WindNo) (vs : List View) → AreOthers words true vs → won_by w vs ≡ 0
alone_wins words w [] o = refl
alone_wins words w (v ∷ vs) o = omega (arith, none v v.role o.0, alone_wins words w vs o.1)
  where
    none : (u : View) (r : Role) → IsOther words true u r → times w u.won ≡ 0
    none u Hub h = absurd h
    none u Reader h = absurd cc
    none u Spent h = ap (times w) h.0

pub shown : (count : ℕ) (words : List ℕ) (views : List View) (id : ℕ) (v : View) (w : WindNo) → WordRule count words views → get_elem? views id ≡ some v → v.role ≢ Spent
    → IsShown v w (word_of words w.slot)
shown count words [] id v w k at live = absurd k
shown count words (h ∷ others) zero v w k at live = let c = k.counted w in at_head (λ u. IsShown u w (word_of words w.slot)) h v at record {
  won = omega (arith, c.won);
  seen = k.seen w.slot;
  hubs = λ _. c.hubs;
  alone = λ _ a. omega (arith, c.won, alone_wins words w others (subst (λ (b : Bool). AreOthers words b others) a k.others_keep));
}
shown count words (h ∷ others) (suc i) v w k at live = let c = k.counted w in let o = other_at words h.alone others i v k.others_keep at in record {
  won = omega (arith, c.won, won_by_at w others i v at);
  seen = seen_by words h.alone v v.role (reader_of words h.alone v v.role live o) o w.slot;
  hubs = λ hub. absurd (not_hub words h.alone v v.role hub o);
  alone = λ hub. absurd (not_hub words h.alone v v.role hub o);
}

-- a pass is split off
pub split : (count : ℕ) (words : List ℕ) (views : List View) (id : ℕ) (v : View) → WordRule count words views → get_elem? views id ≡ some v → v.role ≢ Spent
    → WordRule count words (set views id (with_reader v) ++ new_reader ∷ [])
split count words [] id v k at live = absurd k
split count words (h ∷ others) zero v k at live = at_head (λ u. WordRule count words (with_reader u ∷ others ++ new_reader ∷ [])) h v at record {
  sized = k.sized;
  is_hub = k.is_hub;
  counted = λ u. let c = k.counted u in record {
    hubs = record { opened = c.hubs.opened; collected = c.hubs.collected; bailed_late = c.hubs.bailed_late; bailed = c.hubs.bailed };
    won = omega (arith, c.won, won_by_push u others new_reader);
  };
  seen = k.seen;
  others_keep = others_push words false others new_reader (others_shared words h.alone others k.others_keep) (refl, seen_none words);
}
split count words (h ∷ others) (suc i) v k at live =
    let o = other_at words h.alone others i v k.others_keep at in
    let r = reader_of words h.alone v v.role live o in record {
      sized = k.sized;
      is_hub = k.is_hub;
      counted = λ u. let c = k.counted u in record {
        hubs = c.hubs;
        won = omega (arith, c.won, won_by_push u (set others i (with_reader v)) new_reader, won_by_set u others i v (with_reader v) at);
      };
      seen = k.seen;
      others_keep = others_push words h.alone (set others i (with_reader v)) new_reader (others_set words h.alone others i (with_reader v) k.others_keep (other_same words h.alone v (with_reader v) v.role refl r o)) (was_shared v.role r o, seen_none words);
    }
  where
    was_shared : (r : Role) → r ≡ Reader → IsOther words h.alone v r → h.alone ≡ false
    was_shared Hub e o = absurd o
    was_shared Reader e o = o.0
    was_shared Spent e o = absurd cc
