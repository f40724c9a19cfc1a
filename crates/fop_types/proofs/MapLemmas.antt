-- Looking up in a list of entries after one was put in, for any order that tells all keys apart.
use Rattle.std.proofs.Common.{◌≡◌, ℕ, false, cond, List, [], ◌∷◌, Option, Some, refl, ap, subst}
use Rattle.std.specs.declared.cmp.Ordering.{Ordering}
use Rattle.std.specs.declared.cmp.Ordering.TheVariants.{Less, Equal, Greater}
use Rattle.std.specs.Ordering.{match_ordering, is_eq, nat_cmp}
use Rattle.std.specs.Map.{lookup}
use Rattle.std.specs.BTreeMap.{insert_entry, is_at}
use Rattle.std.specs.Cmp.{IsTotalOrder}
use Rattle.std.proofs.lemmas.Map.Lookups.{CmpEqualImpliesEq, exact_unsigned, exact_pairs}
use Rattle.std.proofs.lemmas.Cmp.{tied_itself, then_total, on_total, nat_cmp_total}
use Rattle.fop_types.specs.declared.cells.Aspect.{Aspect}
use Rattle.fop_types.specs.declared.cells.Aspect.TheVariants.{Data, Meta, Entry}
use Rattle.fop_types.specs.Orders.{gfid_cmp, cell_cmp}
use Rattle.fop_types.specs.Rank.{rank}
use Rattle.fop_types.specs.declared.cells.Gfid.{Gfid}
use Rattle.fop_types.specs.declared.cells.Cell.{Cell}

module _ {K X : Type 0} (R : K → K → Ordering) (exact : CmpEqualImpliesEq R) (o : IsTotalOrder R) where
  pub lookup-put_same : (es : List (K × X)) (k : K) (v : X) → lookup (is_at (R k)) (insert_entry R es k v) ≡ Some v
  lookup-put_same [] k v = rw (tied_itself o k) refl
  lookup-put_same (e ∷ es) k v =
      elim (R k e.0) as (λ o. (R k e.0 ≡ o) → lookup (is_at (R k)) (match_ordering o ((k, v) ∷ e ∷ es) ((e.0, v) ∷ es) (e ∷ insert_entry R es k v)) ≡ Some v) [
        | Less ↦ λ h. rw (tied_itself o k) refl
        | Equal ↦ λ h. rw h refl
        | Greater ↦ λ h. rw h (lookup-put_same es k v)
      ] refl

  pub lookup-put_other : (es : List (K × X)) (k q : K) (v : X) → is_eq (R q k) ≡ false → lookup (is_at (R q)) (insert_entry R es k v) ≡ lookup (is_at (R q)) es
  lookup-put_other [] k q v apart = rw apart refl
  lookup-put_other (e ∷ es) k q v apart =
      elim (R k e.0) as (λ o. (R k e.0 ≡ o) → lookup (is_at (R q)) (match_ordering o ((k, v) ∷ e ∷ es) ((e.0, v) ∷ es) (e ∷ insert_entry R es k v)) ≡ lookup (is_at (R q)) (e ∷ es)) [
        | Less ↦ λ h. rw apart refl
        | Equal ↦ λ h. (let there : k ≡ e.0 = exact k e.0 h in let off : is_eq (R q e.0) ≡ false = subst (λ (x : K). is_eq (R q x) ≡ false) there apart in rw off refl)
        | Greater ↦ λ h. ap (λ (t : Option X). cond (is_eq (R q e.0)) (Some e.1) t) (lookup-put_other es k q v apart)
      ] refl

-- ---- the orders of gfids and cells are total and tell all of them apart
pub gfid_cmp_total : IsTotalOrder gfid_cmp
gfid_cmp_total = then_total (on_total (λ (g : Gfid). g.hi) nat_cmp_total) (on_total (λ (g : Gfid). g.lo) nat_cmp_total)

pub gfid_exact : CmpEqualImpliesEq gfid_cmp
gfid_exact a b h =
    let made : ℕ × ℕ → Gfid = λ p. record { hi = p.0; lo = p.1 } in
    ap made (exact_pairs nat_cmp nat_cmp exact_unsigned exact_unsigned (a.hi, a.lo) (b.hi, b.lo) h)

rank_tells : (a b : Aspect) → rank a ≡ rank b → a ≡ b
rank_tells Data Data h = refl
rank_tells Data Meta h = absurd cc
rank_tells Data Entry h = absurd cc
rank_tells Meta Data h = absurd cc
rank_tells Meta Meta h = refl
rank_tells Meta Entry h = absurd cc
rank_tells Entry Data h = absurd cc
rank_tells Entry Meta h = absurd cc
rank_tells Entry Entry h = refl

aspect_exact : CmpEqualImpliesEq (λ (x y : Aspect). nat_cmp (rank x) (rank y))
aspect_exact a b h = rank_tells a b (exact_unsigned (rank a) (rank b) h)

pub cell_cmp_total : IsTotalOrder cell_cmp
cell_cmp_total = then_total (on_total (λ (c : Cell). c.gfid) gfid_cmp_total) (on_total (λ (c : Cell). rank c.aspect) nat_cmp_total)

pub cell_exact : CmpEqualImpliesEq cell_cmp
cell_exact a b h =
    let made : Gfid × Aspect → Cell = λ p. record { gfid = p.0; aspect = p.1 } in
    ap made (exact_pairs gfid_cmp (λ (x y : Aspect). nat_cmp (rank x) (rank y)) gfid_exact aspect_exact (a.gfid, a.aspect) (b.gfid, b.aspect) h)

-- two that differ compare apart
pub apart : {K : Type 0} (R : K → K → Ordering) → CmpEqualImpliesEq R → (q k : K) → (q ≡ k → ⊥) → is_eq (R q k) ≡ false
apart R exact q k differ = tested (R q k) refl
  where
    tested : (o : Ordering) → R q k ≡ o → is_eq o ≡ false
    tested Less h = refl
    tested Equal h = absurd (differ (exact q k h))
    tested Greater h = refl
