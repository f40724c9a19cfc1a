-- A noted descriptor is known with its gfid, and the others are as before.
use Rattle.std.proofs.Common.{◌≡◌, refl, ap, ◌∙◌}
use Rattle.std.specs.Prelude.{ℕ, ◌≢◌, ◌==◌, ◌&&◌, Bool, true, false, Option, Some, None, IsSome}
use Rattle.std.specs.Ordering.{nat_cmp}
use Rattle.std.proofs.lemmas.Bool.{eq-eqb}
use Rattle.std.proofs.lemmas.Cmp.{nat_cmp_total}
use Rattle.std.proofs.lemmas.Map.Lookups.{exact_unsigned}
use Rattle.fop_types.specs.declared.cells.Gfid.{Gfid}
use Rattle.fop_types.proofs.MapLemmas.{lookup-put_same, lookup-put_other, apart}
use Rattle.client_xlator.specs.Client.{ClientState, noted, noted_on, is_gfid, is_known, known_at}

itself : (g : Gfid) → is_gfid (Some g) g ≡ true
itself g = both (g.hi == g.hi) (g.lo == g.lo) (eq-eqb g.hi g.hi refl) (eq-eqb g.lo g.lo refl) where
  both : (a b : Bool) → a ≡ true → b ≡ true → (a && b) ≡ true
  both true b h i = i
  both false b h i = absurd cc

known_on : (o : Option ℕ) (c : ClientState) (fd : ℕ) (gfid : Gfid) → IsSome o → is_known (noted_on o c fd gfid) fd gfid ≡ true
known_on None c fd gfid h = absurd cc
known_on (Some n) c fd gfid h = ap (λ g. is_gfid g gfid) (lookup-put_same nat_cmp exact_unsigned nat_cmp_total c.known fd gfid) ∙ itself gfid

others_on : (o : Option ℕ) (c : ClientState) (fd : ℕ) (gfid : Gfid) (other : ℕ) → other ≢ fd → known_at (noted_on o c fd gfid) other ≡ known_at c other
others_on None c fd gfid other h = refl
others_on (Some n) c fd gfid other h = lookup-put_other nat_cmp exact_unsigned nat_cmp_total c.known fd other gfid (apart nat_cmp exact_unsigned other fd h)

pub noted_known : (c d : ClientState) (fd : ℕ) (gfid : Gfid) → d ≡ noted c fd gfid → IsSome c.connection → is_known d fd gfid ≡ true
noted_known c d fd gfid is h = ap (λ x. is_known x fd gfid) is ∙ known_on c.connection c fd gfid h

pub noted_others : (c d : ClientState) (fd : ℕ) (gfid : Gfid) → d ≡ noted c fd gfid → (other : ℕ) → other ≢ fd → known_at d other ≡ known_at c other
noted_others c d fd gfid is other h = ap (λ x. known_at x other) is ∙ others_on c.connection c fd gfid other h
