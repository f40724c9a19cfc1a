-- How often a frame is among those that are parked, as frames come and go.
use Rattle.std.proofs.Common.{◌≡◌, refl, sym, ap, ◌∙◌, arith}
use Rattle.std.proofs.lemmas.Bool.{eq-eqb}
use Rattle.std.specs.Prelude.{ℕ, ◌+◌, ◌==◌, ◌||◌, Bool, true, false, cond, List, [], ◌∷◌}
use Rattle.std.specs.List.{list_any}
use Rattle.std.specs.Ordering.{is_eq, nat_cmp, match_ordering}
use Rattle.std.specs.declared.cmp.Ordering.{Ordering}
use Rattle.std.specs.declared.cmp.Ordering.TheVariants.{Less, Equal, Greater}
use Rattle.std.specs.BTreeMap.{is_at}
use Rattle.std.specs.BTreeSet.{insert_key}
use Rattle.std.specs.Set.{remove_key}
use Rattle.frame_driver.specs.Tasks.{one}
use Rattle.frame_driver.specs.Waits.{times}
use Rattle.frame_driver.proofs.Standing.{count_cons}
use Rattle.graph_nodes.specs.Live.{AreOnce}

eq_is : (a b : ℕ) → is_eq (nat_cmp a b) ≡ true → a ≡ b
eq_is a b h = grind (arith, h)

times_cons : (key x : ℕ) (xs : List ℕ) → times key (x ∷ xs) ≡ one (key == x) + times key xs
times_cons key x xs = count_cons (λ k. key == k) x xs

itself : (f : ℕ) → one (f == f) ≡ 1
itself f = ap one (eq-eqb f f refl)

-- a frame that is not there comes
pub times_inserted : (key f : ℕ) (ks : List ℕ) → times f ks ≡ 0 → times key (insert_key nat_cmp ks f) ≡ times key ks + one (key == f)
times_inserted key f [] none = let a = times_cons key f [] in let z : times key [] ≡ 0 = refl in omega (arith, a, z)
times_inserted key f (x ∷ xs) none = by (nat_cmp f x) refl (times_inserted key f xs rest) where
  head : one (f == x) + times f xs ≡ 0
  head = sym (times_cons f x xs) ∙ none

  rest : times f xs ≡ 0
  rest = let h = head in omega (arith, h)

  by : (o : Ordering) → nat_cmp f x ≡ o → times key (insert_key nat_cmp xs f) ≡ times key xs + one (key == f) → times key (match_ordering o (f ∷ x ∷ xs) (x ∷ xs) (x ∷ insert_key nat_cmp xs f)) ≡ times key (x ∷ xs) + one (key == f)
  by Less is ih = let a = times_cons key f (x ∷ xs) in omega (arith, a)
  by Equal is ih = absurd (let h = head in let e : one (f == x) ≡ 1 = ap one (eq-eqb f x (eq_is f x (ap is_eq is))) in omega (arith, h, e))
  by Greater is ih = let a = times_cons key x (insert_key nat_cmp xs f) in let b = times_cons key x xs in omega (arith, a, b, ih)

-- a frame that is there goes
pub times_removed : (key f : ℕ) (ks : List ℕ) → list_any (is_at (nat_cmp f)) ks ≡ true → times key (remove_key (is_at (nat_cmp f)) ks) + one (key == f) ≡ times key ks
times_removed key f [] there = absurd cc
times_removed key f (x ∷ xs) there = by (is_at (nat_cmp f) x) refl there (times_removed key f xs) where
  by : (b : Bool) → is_at (nat_cmp f) x ≡ b → (b || list_any (is_at (nat_cmp f)) xs) ≡ true → (list_any (is_at (nat_cmp f)) xs ≡ true → times key (remove_key (is_at (nat_cmp f)) xs) + one (key == f) ≡ times key xs) → times key (cond b xs (x ∷ remove_key (is_at (nat_cmp f)) xs)) + one (key == f) ≡ times key (x ∷ xs)
  by true is h ih = let s : one (key == f) ≡ one (key == x) = ap (λ (n : ℕ). one (key == n)) (eq_is f x is) in let a = times_cons key x xs in omega (arith, s, a)
  by false is h ih = let r = ih h in let a = times_cons key x (remove_key (is_at (nat_cmp f)) xs) in let b = times_cons key x xs in omega (arith, r, a, b)

-- ---- the frames that began to wait are parked, one after another

pub record Parking (waiting parked rest now : List ℕ) : Type 0 where
  pub once : AreOnce waiting parked
  pub same : (key : ℕ) → times key rest + times key now ≡ times key waiting + times key parked

pub parking_first : (waiting parked : List ℕ) → AreOnce waiting parked → Parking waiting parked waiting parked
parking_first waiting parked once = record { once = once; same = λ key. refl }

module _ (waiting parked : List ℕ) (rest now : List ℕ) (is : Parking waiting parked rest now) where
  pub parking_next : (frame : ℕ) (left next : List ℕ) → rest ≡ frame ∷ left → next ≡ insert_key nat_cmp now frame → Parking waiting parked left next
  parking_next frame left next first put = record { once = is.once; same = same } where
    split : (key : ℕ) → times key rest ≡ one (key == frame) + times key left
    split key = ap (times key) first ∙ times_cons key frame left

    absent : times frame now ≡ 0
    absent = let o = is.once frame in let s = is.same frame in let t = split frame in let i = itself frame in omega (arith, o, s, t, i)

    same : (key : ℕ) → times key left + times key next ≡ times key waiting + times key parked
    same key = let s = is.same key in let t = split key in let n : times key next ≡ times key now + one (key == frame) = ap (times key) put ∙ times_inserted key frame now absent in omega (arith, s, t, n)

  pub parking_last : rest ≡ [] → (key : ℕ) → times key now ≡ times key waiting + times key parked
  parking_last none key = let s = is.same key in let z : times key rest ≡ 0 = ap (times key) none in omega (arith, s, z)
