-- Two names are compared by an order of their bytes, or byte by byte: the two agree.
use Rattle.std.proofs.Common.{◌≡◌, ℕ, Bool, true, false, List, sym, ap, ◌∙◌, arith}
use Rattle.std.specs.Prelude.{nat_eq}
use Rattle.std.specs.declared.cmp.Ordering.{Ordering}
use Rattle.std.specs.declared.cmp.Ordering.TheVariants.{Equal}
use Rattle.std.specs.Ordering.{nat_cmp, is_eq, eq_by_cmp}
use Rattle.std.specs.Cmp.Lexicographic.{slice_cmp, pointwise, lists_ties}
use Rattle.std.proofs.lemmas.Cmp.{nat_list_cmp_total, tied_itself}
use Rattle.std.proofs.lemmas.Map.Lookups.{exact_bytes}

byte_ties : (x y : ℕ) → nat_eq x y ≡ eq_by_cmp nat_cmp x y
byte_ties x y = grind (arith)

name_ties : (a b : List ℕ) → pointwise nat_eq a b ≡ is_eq (slice_cmp nat_cmp a b)
name_ties a b = lists_ties nat_cmp byte_ties a b

pub same_name : (a b : List ℕ) → a ≡ b → pointwise nat_eq a b ≡ true
same_name a b h = name_ties a b ∙ ap (λ (c : List ℕ). is_eq (slice_cmp nat_cmp c b)) h ∙ ap is_eq (tied_itself nat_list_cmp_total b)

pub other_name : (a b : List ℕ) → is_eq (slice_cmp nat_cmp a b) ≡ false → pointwise nat_eq a b ≡ false
other_name a b h = name_ties a b ∙ h

pub name_is : (a b : List ℕ) → slice_cmp nat_cmp a b ≡ Equal → a ≡ b
name_is a b h = exact_bytes a b h
