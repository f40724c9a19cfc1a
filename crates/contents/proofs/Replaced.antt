-- An attribute that takes the place of one of an equal name.
use Rattle.std.proofs.Common.{◌≡◌, ◌∷◌, ◌++◌, ◌∙◌, sym, refl, ap, ℕ, ◌<◌, suc, List, length, take, drop, get_or, drop-cons}
use Rattle.std.specs.declared.cmp.Ordering.TheVariants.{Equal}
use Rattle.std.specs.Ordering.{nat_cmp}
use Rattle.std.specs.Cmp.Lexicographic.{slice_cmp}
use Rattle.fop_types.specs.Names.{with_attr}
use Rattle.fop_types.specs.declared.contents.Attr.{Attr}

pub replaced : (attrs : List Attr) (i place : ℕ) (attr other : Attr) → place ≡ i → i < length attrs → other ≡ get_or attrs i other
    → slice_cmp nat_cmp attr.name other.name ≡ Equal → with_attr attrs attr ≡ take i attrs ++ with_attr (drop i attrs) attr
    → with_attr attrs attr ≡ take place attrs ++ attr ∷ drop (suc place) attrs
replaced attrs i place attr other same fits is tie so_far =
    let split : drop i attrs ≡ other ∷ drop (suc i) attrs = drop-cons attrs i other fits ∙ ap (λ (o : Attr). o ∷ drop (suc i) attrs) (sym is) in
    let here : with_attr (other ∷ drop (suc i) attrs) attr ≡ attr ∷ drop (suc i) attrs = rw tie refl in
    rw same (so_far ∙ ap (λ (l : List Attr). take i attrs ++ with_attr l attr) split ∙ ap (λ (l : List Attr). take i attrs ++ l) here)
