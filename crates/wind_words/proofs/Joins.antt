-- A pass that takes in a reader's keeps the rule.
use Rattle.std.proofs.Common.{◌≡◌, ◌≢◌, ℕ, zero, suc, ◌⊎◌, ⊎_elim, Bool, List, [], ◌∷◌, set, refl, ap, subst, arith}
use mathlib.Core.Option.{some, some-injective}
use lib.ListN.{get_elem?}
use Rattle.atomic_table.proofs.Lists.{at_set}
use Rattle.wind_words.specs.declared.view.View.{View}
use Rattle.wind_words.specs.declared.view.Role.{Role}
use Rattle.wind_words.specs.declared.view.Role.TheVariants.{Hub, Reader, Spent}
use Rattle.wind_words.specs.Word.{word_of, replied_at}
use Rattle.wind_words.specs.Rule.{WereSeen, IsOther, WordRule}
use Rattle.wind_words.specs.Calls.{spent_view, joined}
use Rattle.wind_words.proofs.Counts.{once, times_append}
use Rattle.wind_words.proofs.Others.{seen_append, seen_by, others_set, other_at, won_by_set, won_by_at}
use Rattle.wind_words.proofs.Keeping.{at_head, reader_of}

joined_other : (words : List ℕ) (alone : Bool) (v u : View) (r : Role) → r ≡ Reader → IsOther words alone v r → WereSeen words u.lost → IsOther words alone (joined v u) r
joined_other words alone v u Hub e o s = o
joined_other words alone v u Reader e o s = (o.0, seen_append words v.lost u.lost o.1 s)
joined_other words alone v u Spent e o s = absurd cc

not_reader : (v : View) → v.role ≡ Hub → v.role ≡ Reader → ⊥
not_reader v h r = absurd cc

pub join : (count : ℕ) (words : List ℕ) (views : List View) (id other : ℕ) (v u : View) → WordRule count words views → get_elem? views id ≡ some v → v.role ≢ Spent
    → ¬ (other ≡ id) → get_elem? (set views id (joined v u)) other ≡ some u → u.role ≡ Reader
    → WordRule count words (set (set views id (joined v u)) other spent_view)
join count words [] id other v u k at live apart at' reader = absurd k
join count words (h ∷ others) zero zero v u k at live apart at' reader = absurd (apart refl)
join count words (h ∷ others) zero (suc j) v u k at live apart at' reader =
    let o = other_at words h.alone others j u k.others_keep at' in
    at_head (λ y. WordRule count words (joined y u ∷ set others j spent_view)) h v at record {
      sized = k.sized;
      is_hub = k.is_hub;
      counted = λ w. let c = k.counted w in let a = times_append w h.won u.won in let b = won_by_set w others j u spent_view at' in record {
        hubs = record {
          opened = c.hubs.opened;
          collected = c.hubs.collected;
          bailed_late = c.hubs.bailed_late;
          bailed = λ e. let was = c.hubs.bailed e in (was.0, omega (arith, was.1, a, c.won, won_by_at w others j u at', once (replied_at w.turn) (word_of words w.slot)));
        };
        won = omega (arith, a, b, c.won);
      };
      seen = seen_append words h.lost u.lost k.seen (seen_by words h.alone u u.role reader o);
      others_keep = others_set words h.alone others j spent_view k.others_keep (refl, refl);
    }
join count words (h ∷ others) (suc i) zero v u k at live apart at' reader = absurd (not_reader u (subst (λ (y : View). y.role ≡ Hub) (some-injective h u at') k.is_hub) reader)
join count words (h ∷ others) (suc i) (suc j) v u k at live apart at' reader =
    let v' = joined v u in
    let mid = set others i v' in
    let o = other_at words h.alone others i v k.others_keep at in
    let r = reader_of words h.alone v v.role live o in
    let before = was_there others i j v' u (λ e. apart (ap suc e)) at' in
    let p = other_at words h.alone others j u k.others_keep before in record {
      sized = k.sized;
      is_hub = k.is_hub;
      counted = λ w. let c = k.counted w in record {
        hubs = c.hubs;
        won = omega (arith, c.won, times_append w v.won u.won, won_by_set w others i v v' at, won_by_set w mid j u spent_view at');
      };
      seen = k.seen;
      others_keep = others_set words h.alone mid j spent_view
          (others_set words h.alone others i v' k.others_keep (joined_other words h.alone v u v.role r o (seen_by words h.alone u u.role reader p))) (refl, refl);
    }
  where
    was_there : (vs : List View) (a b : ℕ) (x y : View) → ¬ (b ≡ a) → get_elem? (set vs a x) b ≡ some y → get_elem? vs b ≡ some y
    was_there vs a b x y ne e = ⊎_elim (λ (h : (b ≡ a) × (x ≡ y)). absurd (ne h.0)) (λ (h : (b ≢ a) × (get_elem? vs b ≡ some y)). h.1) (at_set vs a b x y e)
