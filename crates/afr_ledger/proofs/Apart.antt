-- What the unsettled changes keep, from what is entered at their cells.
use Rattle.std.proofs.Common.{◌≡◌, ℕ, Bool, true, false, ◌==◌, cond, List, Option, Some, None, refl, sym, ap, ◌∙◌, arith}
use Rattle.std.specs.declared.cmp.Ordering.{Ordering}
use Rattle.std.specs.Ordering.{is_eq, nat_cmp}
use Rattle.std.specs.BTreeMap.{BTreeMap}
use Rattle.afr_ledger.specs.declared.place.Place.{Place}
use Rattle.afr_ledger.specs.declared.unsettled.Unsettled.{Unsettled}
use Rattle.afr_ledger.specs.Changes.{numbered, touches, AreKept}
use Rattle.afr_ledger.specs.code.Places.{owner, touched, IsWhole}
use Rattle.afr_ledger.proofs.Places.{one_number}

pub kept : {C : Type 0} (cmp : C → C → Ordering) (us : List (ℕ × Unsettled C)) (places : BTreeMap (Place C) ℕ) → IsWhole cmp us places → AreKept cmp us
kept cmp us places w = record {
  rising = w.rising;
  named = w.named;
  apart = λ n m s cell u v is at t k. one_number n m (owner cmp places s cell) (w.entered n s cell ∙ ap (touched cmp s cell) is ∙ t) (w.entered m s cell ∙ ap (touched cmp s cell) at ∙ k);
}

eq_is : (a b : ℕ) → is_eq (nat_cmp a b) ≡ true → a ≡ b
eq_is a b h = grind (arith, h)

module _ {C : Type 0} where
  named_at : (n m : ℕ) (u v : Unsettled C) (o : Option (Unsettled C)) (b : Bool) → u.change ≡ n → (o ≡ Some v → v.change ≡ m) → is_eq (nat_cmp n m) ≡ b → cond b (Some u) o ≡ Some v → v.change ≡ m
  named_at n m u v o true name h t is = let e : u ≡ v = cc in ap (λ (x : Unsettled C). x.change) (sym e) ∙ name ∙ eq_is n m t
  named_at n m u v o false name h t is = h is

  pub named_more : (us fs : List (ℕ × Unsettled C)) (n : ℕ) (u : Unsettled C) → u.change ≡ n → ((m : ℕ) (v : Unsettled C) → numbered m us ≡ Some v → v.change ≡ m) → ((m : ℕ) → numbered m fs ≡ cond (is_eq (nat_cmp n m)) (Some u) (numbered m us)) → (m : ℕ) (v : Unsettled C) → numbered m fs ≡ Some v → v.change ≡ m
  named_more us fs n u name h nums m v is = named_at n m u v (numbered m us) (is_eq (nat_cmp n m)) name (h m v) refl (sym (nums m) ∙ is)

  less_at : (m : ℕ) (v : Unsettled C) (o : Option (Unsettled C)) (b : Bool) → (o ≡ Some v → v.change ≡ m) → cond b None o ≡ Some v → v.change ≡ m
  less_at m v o true h is = absurd cc
  less_at m v o false h is = h is

  pub named_less : (us fs : List (ℕ × Unsettled C)) (n : ℕ) → ((m : ℕ) (v : Unsettled C) → numbered m us ≡ Some v → v.change ≡ m) → ((m : ℕ) → numbered m fs ≡ cond (is_eq (nat_cmp n m)) None (numbered m us)) → (m : ℕ) (v : Unsettled C) → numbered m fs ≡ Some v → v.change ≡ m
  named_less us fs n h nums m v is = less_at m v (numbered m us) (is_eq (nat_cmp n m)) (h m v) (sym (nums m) ∙ is)

  pub named_same : (us fs : List (ℕ × Unsettled C)) → fs ≡ us → ((m : ℕ) (v : Unsettled C) → numbered m us ≡ Some v → v.change ≡ m) → (m : ℕ) (v : Unsettled C) → numbered m fs ≡ Some v → v.change ≡ m
  named_same us fs same h m v is = h m v (sym (ap (numbered m) same) ∙ is)
