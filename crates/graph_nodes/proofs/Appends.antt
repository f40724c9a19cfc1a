-- Lists that grow at their ends.
use Rattle.std.proofs.Common.{◌≡◌, ℕ, zero, suc, ◌+◌, ◌≤◌, List, [], ◌∷◌, ◌++◌, drop, length, Some, refl, ap, arith}
use Rattle.std.specs.Prelude.{slice_get}
use Rattle.std.specs.BTreeMap.{insert_entry}
use Rattle.dht_fops.specs.Volumes.{Kept}
use Rattle.dht_fops.specs.declared.layouts.Layout.{Layout}
use Rattle.fop_types.specs.Bounds.{Each}
use Rattle.fop_types.specs.Orders.{gfid_cmp}
use Rattle.graph_nodes.specs.Distribute.{kept_with}

-- the layouts from one on are that one and those after it
pub kept_next : (kept : Kept) (layouts : List Layout) (at : ℕ) (layout : Layout) → slice_get layouts at ≡ Some layout → kept_with kept (drop at layouts) ≡ kept_with (insert_entry gfid_cmp kept layout.dir layout.spans) (drop (at + 1) layouts)
kept_next kept [] at layout is = absurd cc
kept_next kept (l ∷ ls) zero layout is = let same : l ≡ layout = cc in ap (λ (x : Layout). kept_with (insert_entry gfid_cmp kept x.dir x.spans) ls) same
kept_next kept (l ∷ ls) (suc at) layout is = let one : suc at + 1 ≡ suc (at + 1) = omega arith in rw one (kept_next kept ls at layout is)

pub kept_past : (kept : Kept) (layouts : List Layout) (at : ℕ) → length layouts ≤ at → kept_with kept (drop at layouts) ≡ kept
kept_past kept [] zero h = refl
kept_past kept [] (suc at) h = refl
kept_past kept (l ∷ ls) zero h = absurd (omega (arith, h))
kept_past kept (l ∷ ls) (suc at) h = kept_past kept ls at (omega (arith, h))

-- each of a list and one more
pub each_more : {A : Type 0} (P : A → Type 0) (xs : List A) (x : A) → Each P xs → P x → Each P (xs ++ x ∷ [])
each_more P [] x h p = (p, tt)
each_more P (y ∷ ys) x h p = (h.0, each_more P ys x h.1 p)
