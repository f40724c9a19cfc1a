-- The map of a session's descriptors: what a search, an insert and a removal make of it.
use Rattle.std.proofs.Common.{◌≡◌, sym, ap, ◌∙◌, ℕ, List}
use Rattle.std.specs.Prelude.{Some, None, cond}
use Rattle.std.specs.Cmp.{nat_cmp_total}
use Rattle.std.specs.Map.{lookup}
use Rattle.std.specs.BTreeMap.{is_at}
use Rattle.std.specs.FinMap as map
use Rattle.std.specs.Ordering.{nat_cmp}
use Rattle.fop_types.specs.Calls.{Descriptor, Descriptors}
use Rattle.contents.proofs.Keyed.{get_made, insert_made, remove_made}

pub fd_at : (es : List (ℕ × Descriptor)) (now : Descriptors) (fd : ℕ) → map.from_entries es ≡ now → lookup (is_at (nat_cmp fd)) es ≡ map.get now fd
fd_at es now fd seen = sym (get_made nat_cmp nat_cmp_total map.nat_cmp-IsAntisymmetric es fd) ∙ ap (λ (m : Descriptors). map.get m fd) seen

pub fd_put : (es fs : List (ℕ × Descriptor)) (now : Descriptors) (fd : ℕ) (d : Descriptor) → map.from_entries es ≡ now
    → ((q : ℕ) → lookup (is_at (nat_cmp q)) fs ≡ cond (is_at (nat_cmp fd) q) (Some d) (lookup (is_at (nat_cmp q)) es))
    → map.from_entries fs ≡ map.insert now fd d
fd_put es fs now fd d seen updates =
    insert_made nat_cmp nat_cmp_total map.nat_cmp-IsAntisymmetric es fs fd d updates ∙ ap (λ (m : Descriptors). map.insert m fd d) seen

pub fd_gone : (es fs : List (ℕ × Descriptor)) (now : Descriptors) (fd : ℕ) → map.from_entries es ≡ now
    → ((q : ℕ) → lookup (is_at (nat_cmp q)) fs ≡ cond (is_at (nat_cmp fd) q) None (lookup (is_at (nat_cmp q)) es))
    → map.from_entries fs ≡ map.remove now fd
fd_gone es fs now fd seen updates =
    remove_made nat_cmp nat_cmp_total map.nat_cmp-IsAntisymmetric es fs fd updates ∙ ap (λ (m : Descriptors). map.remove m fd) seen
