-- Lines in the order of their events.
use Rattle.std.proofs.Common.{◌≡◌, sym, ap, ◌∙◌, arith}
use Rattle.std.specs.Prelude.{ℕ, zero, suc, ◌≤◌, nat_le, ◌&&◌, Bool, true, List, [], ◌∷◌, Some, map, slice_get}
use Rattle.std.proofs.lemmas.Bool.{leb-true}
use Rattle.mount_log.specs.Ties.{do_rise}
use Rattle.mount_log.proofs.Bools.{both}
use Rattle.mount_log.proofs.Items.{some_is}

module _ {X : Type 0} (f : X → ℕ) (last : ℕ) where
  -- the first number is not below the floor, none is above the last, and the others rise from the first
  record Rises (floor first : ℕ) (others : List X) : Type 0 where
    pub from : floor ≤ first
    pub to : first ≤ last
    pub others_rise : do_rise first last (map f others) ≡ true

  rises : (floor : ℕ) (x : X) (others : List X) → do_rise floor last (map f (x ∷ others)) ≡ true → Rises floor (f x) others
  rises floor x others order =
      let p = both (nat_le floor (f x)) (nat_le (f x) last && do_rise (f x) last (map f others)) order in let q = both (nat_le (f x) last) (do_rise (f x) last (map f others)) p.1 in
      record { from = leb-true floor (f x) p.0; to = leb-true (f x) last q.0; others_rise = q.1 }

  pub from_floor : (floor : ℕ) (xs : List X) (k : ℕ) (x : X) → do_rise floor last (map f xs) ≡ true → slice_get xs k ≡ Some x → floor ≤ f x
  from_floor floor [] k x order is = absurd cc
  from_floor floor (y ∷ xs) zero x order is = let r = rises floor y xs order in let le = r.from in let e : f y ≡ f x = ap f (some_is y x is) in omega (arith, le, e)
  from_floor floor (y ∷ xs) (suc k) x order is = let r = rises floor y xs order in let le = r.from in let ih = from_floor (f y) xs k x r.others_rise is in omega (arith, le, ih)

  pub to_last : (floor : ℕ) (xs : List X) (k : ℕ) (x : X) → do_rise floor last (map f xs) ≡ true → slice_get xs k ≡ Some x → f x ≤ last
  to_last floor [] k x order is = absurd cc
  to_last floor (y ∷ xs) zero x order is = let r = rises floor y xs order in let le = r.to in let e : f y ≡ f x = ap f (some_is y x is) in omega (arith, le, e)
  to_last floor (y ∷ xs) (suc k) x order is = let r = rises floor y xs order in to_last (f y) xs k x r.others_rise is

  -- a line is not of an earlier event than one before it
  pub in_order : (floor : ℕ) (xs : List X) (i j : ℕ) (x y : X) → do_rise floor last (map f xs) ≡ true → i ≤ j → slice_get xs i ≡ Some x → slice_get xs j ≡ Some y → f x ≤ f y
  in_order floor [] i j x y order le a b = absurd cc
  in_order floor (z ∷ xs) zero zero x y order le a b = let e : f x ≡ f y = ap f (some_is x y (sym a ∙ b)) in omega (arith, e)
  in_order floor (z ∷ xs) zero (suc j) x y order le a b = let r = rises floor z xs order in let e : f z ≡ f x = ap f (some_is z x a) in let below = from_floor (f z) xs j y r.others_rise b in omega (arith, e, below)
  in_order floor (z ∷ xs) (suc i) zero x y order le a b = absurd (omega (arith, le))
  in_order floor (z ∷ xs) (suc i) (suc j) x y order le a b = let r = rises floor z xs order in in_order (f z) xs i j x y r.others_rise (omega (arith, le)) a b
