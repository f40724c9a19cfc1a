-- Phases end in their order.
use Rattle.std.proofs.Common.{◌≡◌, refl, sym, ap, subst, ◌∙◌, arith, get_or}
use Rattle.std.specs.Prelude.{ℕ, zero, suc, ◌<◌, ◌≤◌, ◌+◌, ◌-◌, ◌==◌, nat_lt, Bool, true, false, List, length, if◌then◌else◌}
use Rattle.std.proofs.lemmas.Bool.{ltb-true, ltb-false, eqb-true}
use Rattle.std.proofs.lemmas.List.{get_or_past}
use Rattle.run_audit.specs.Noted.{ended_at, begun, AreRising, IsWithin}

module _ (ended : List ℕ) (last : ℕ) where
  pub rises_next : (n : ℕ) → ((p : ℕ) → p < n → ended_at ended last p ≤ ended_at ended last (p + 1)) → ended_at ended last n ≤ ended_at ended last (n + 1)
      → (p : ℕ) → p < n + 1 → ended_at ended last p ≤ ended_at ended last (p + 1)
  rises_next n before own p lt = by (nat_lt p n) refl where
    by : (b : Bool) → nat_lt p n ≡ b → ended_at ended last p ≤ ended_at ended last (p + 1)
    by true e = before p (ltb-true p n e)
    by false e =
        let le = ltb-false p n e in let same : n ≡ p = omega (arith, lt, le) in
        subst (λ (m : ℕ). ended_at ended last m ≤ ended_at ended last (m + 1)) same own

  pub rises_all : (n : ℕ) → length ended ≤ n → ((p : ℕ) → p < n → ended_at ended last p ≤ ended_at ended last (p + 1)) → AreRising ended last
  rises_all n past before p = by (nat_lt p n) refl where
    by : (b : Bool) → nat_lt p n ≡ b → ended_at ended last p ≤ ended_at ended last (p + 1)
    by true e = before p (ltb-true p n e)
    by false e =
        let le = ltb-false p n e in
        let here : ended_at ended last p ≡ last = get_or_past ended p last (omega (arith, past, le)) in
        let next : ended_at ended last (p + 1) ≡ last = get_or_past ended (p + 1) last (omega (arith, past, le)) in
        omega (arith, here, next)

  module _ (rises : AreRising ended last) where
    so_many : (p d : ℕ) → ended_at ended last p ≤ ended_at ended last (p + d)
    so_many p zero = let z : p + 0 ≡ p = omega arith in subst (λ (m : ℕ). ended_at ended last p ≤ ended_at ended last m) (sym z) (omega arith)
    so_many p (suc d) =
        let ih = so_many p d in let one = rises (p + d) in let s : p + d + 1 ≡ p + suc d = omega arith in
        subst (λ (m : ℕ). ended_at ended last p ≤ ended_at ended last m) s (omega (arith, ih, one))

    pub rises_to : (p q : ℕ) → p ≤ q → ended_at ended last p ≤ ended_at ended last q
    rises_to p q le = let s : p + (q - p) ≡ q = omega (arith, le) in subst (λ (m : ℕ). ended_at ended last p ≤ ended_at ended last m) s (so_many p (q - p))

-- ---- the events of a phase

pub begun_next : (ended : List ℕ) (last phase : ℕ) → begun ended last (phase + 1) ≡ ended_at ended last phase
begun_next ended last phase = by (phase + 1 == 0) refl where
  by : (b : Bool) → (phase + 1 == 0) ≡ b → (if b then 0 else ended_at ended last (phase + 1 - 1)) ≡ ended_at ended last phase
  by true z = absurd (let e = eqb-true (phase + 1) 0 z in omega (arith, e))
  by false z = let s : phase + 1 - 1 ≡ phase = omega arith in ap (ended_at ended last) s

-- a phase that is not the first
pub begun_behind : (ended : List ℕ) (last p q : ℕ) → AreRising ended last → p < q → ended_at ended last p ≤ begun ended last q
begun_behind ended last p q rising lt =
    let s : q - 1 + 1 ≡ q = omega (arith, lt) in
    subst (λ (n : ℕ). ended_at ended last p ≤ begun ended last n) s
    (subst (λ (n : ℕ). ended_at ended last p ≤ n) (sym (begun_next ended last (q - 1))) (rises_to ended last rising p (q - 1) (omega (arith, lt))))

-- an event is one of at most one phase
pub same_phase : (ended : List ℕ) (last p q number : ℕ) → AreRising ended last → IsWithin ended last p number → IsWithin ended last q number → p ≡ q
same_phase ended last p q number rising a b = by (nat_lt p q) refl where
  by : (t : Bool) → nat_lt p q ≡ t → p ≡ q
  by true e =
      let c = begun_behind ended last p q rising (ltb-true p q e) in let d = a.until in let f = b.behind in
      absurd (omega (arith, c, d, f))
  by false e = other (nat_lt q p) refl where
    other : (t : Bool) → nat_lt q p ≡ t → p ≡ q
    other true g =
        let c = begun_behind ended last q p rising (ltb-true q p g) in let d = b.until in let f = a.behind in
        absurd (omega (arith, c, d, f))
    other false g = let x = ltb-false p q e in let y = ltb-false q p g in omega (arith, x, y)

pub past_all : (ended : List ℕ) (last phase number : ℕ) → length ended ≤ phase → number ≤ last → number ≤ ended_at ended last phase
past_all ended last phase number past le = let e : ended_at ended last phase ≡ last = get_or_past ended phase last past in omega (arith, e, le)
