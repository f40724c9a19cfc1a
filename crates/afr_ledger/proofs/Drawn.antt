-- That the numbers of the changes were drawn, after one change more or one less.
use Rattle.std.proofs.Common.{◌≡◌, ℕ, Bool, true, false, cond, List, [], ◌∷◌, Option, Some, None, refl, subst, sym, arith}
use Rattle.std.specs.declared.cmp.Ordering.{Ordering}
use Rattle.std.specs.declared.cmp.Ordering.TheVariants.{Less, Equal, Greater}
use Rattle.std.specs.Ordering.{is_eq, nat_cmp, match_ordering}
use Rattle.std.specs.BTreeMap.{insert_entry, is_at}
use Rattle.afr_ledger.specs.declared.unsettled.Unsettled.{Unsettled}
use Rattle.afr_ledger.specs.Changes.{numbered, without, with_change}

eq_is : (a b : ℕ) → is_eq (nat_cmp a b) ≡ true → a ≡ b
eq_is a b h = grind (arith, h)

module _ {C : Type 0} (P : ℕ → Type 0) where
  -- each number of a change has the property
  abbrev pub AllNumbers : List (ℕ × Unsettled C) → Type 0
  AllNumbers us = (n : ℕ) (u : Unsettled C) → numbered n us ≡ Some u → P n

  numbers_rest : (e : ℕ × Unsettled C) (us : List (ℕ × Unsettled C)) → AllNumbers (e ∷ us) → AllNumbers us
  numbers_rest e us h n u is = elim (is_eq (nat_cmp n e.0)) as (λ (b : Bool). is_eq (nat_cmp n e.0) ≡ b → P n) [
    | true ↦ λ t. h n e.1 (let s : cond (is_eq (nat_cmp n e.0)) (Some e.1) (numbered n us) ≡ Some e.1 = rw t refl in s)
    | false ↦ λ t. h n u (let s : cond (is_eq (nat_cmp n e.0)) (Some e.1) (numbered n us) ≡ Some u = rw t is in s)
  ] refl

  number_first : (e : ℕ × Unsettled C) (us : List (ℕ × Unsettled C)) (n : ℕ) → AllNumbers (e ∷ us) → is_eq (nat_cmp n e.0) ≡ true → P n
  number_first e us n h t = h n e.1 (let s : cond (is_eq (nat_cmp n e.0)) (Some e.1) (numbered n us) ≡ Some e.1 = rw t refl in s)

  pub numbers_without : (k : ℕ) (us : List (ℕ × Unsettled C)) → AllNumbers us → AllNumbers (without k us)
  numbers_without k [] h n u is = absurd cc
  numbers_without k (e ∷ us) h n u is = elim (is_eq (nat_cmp k e.0)) as (λ (b : Bool). numbered n (cond b us (e ∷ without k us)) ≡ Some u → P n) [
    | true ↦ λ t. numbers_rest e us h n u t
    | false ↦ λ t. elim (is_eq (nat_cmp n e.0)) as (λ (b : Bool). is_eq (nat_cmp n e.0) ≡ b → cond b (Some e.1) (numbered n (without k us)) ≡ Some u → P n) [
      | true ↦ λ g s. number_first e us n h g
      | false ↦ λ g s. numbers_without k us (numbers_rest e us h) n u s
    ] refl t
  ] is

  pub numbers_with : (k : ℕ) (w : Unsettled C) (us : List (ℕ × Unsettled C)) → P k → AllNumbers us → AllNumbers (insert_entry nat_cmp us k w)
  numbers_with k w [] p h n u is = elim (is_eq (nat_cmp n k)) as (λ (b : Bool). is_eq (nat_cmp n k) ≡ b → cond b (Some w) None ≡ Some u → P n) [
    | true ↦ λ g s. subst P (sym (eq_is n k g)) p
    | false ↦ λ g s. absurd cc
  ] refl is
  numbers_with k w (e ∷ us) p h n u is = elim (nat_cmp k e.0) as (λ (o : Ordering). numbered n (match_ordering o ((k, w) ∷ e ∷ us) ((e.0, w) ∷ us) (e ∷ insert_entry nat_cmp us k w)) ≡ Some u → P n) [
    | Less ↦ λ t. elim (is_eq (nat_cmp n k)) as (λ (b : Bool). is_eq (nat_cmp n k) ≡ b → cond b (Some w) (numbered n (e ∷ us)) ≡ Some u → P n) [
      | true ↦ λ g s. subst P (sym (eq_is n k g)) p
      | false ↦ λ g s. h n u s
    ] refl t
    | Equal ↦ λ t. elim (is_eq (nat_cmp n e.0)) as (λ (b : Bool). is_eq (nat_cmp n e.0) ≡ b → cond b (Some w) (numbered n us) ≡ Some u → P n) [
      | true ↦ λ g s. number_first e us n h g
      | false ↦ λ g s. numbers_rest e us h n u s
    ] refl t
    | Greater ↦ λ t. elim (is_eq (nat_cmp n e.0)) as (λ (b : Bool). is_eq (nat_cmp n e.0) ≡ b → cond b (Some e.1) (numbered n (insert_entry nat_cmp us k w)) ≡ Some u → P n) [
      | true ↦ λ g s. number_first e us n h g
      | false ↦ λ g s. numbers_with k w us p (numbers_rest e us h) n u s
    ] refl t
  ] is
