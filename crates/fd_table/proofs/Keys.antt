-- The order of descriptors is total, and equal in it are only equal ones.
use Rattle.std.proofs.Common.{ap, sym, ◌∙◌}
use Rattle.std.specs.Cmp.{IsTotalOrder, then_total, on_total, nat_cmp_total}
use Rattle.std.specs.Ordering.{nat_cmp}
use Rattle.std.specs.FinMap as map
use Rattle.std.proofs.lemmas.Map.Lookups.{exact_pairs, exact_unsigned}
use Rattle.fd_table.specs.declared.fd.FdKey.{FdKey}
use Rattle.fd_table.specs.declared.fd.Fd.{Fd}
use Rattle.fd_table.specs.Fds.{Fds, fd_cmp, fd_key, fd_at, with_fd, without_fd}
use Rattle.contents.proofs.Keyed.{get_made, entries_made, insert_made, remove_made}
use Rattle.std.specs.Prelude.{◌≡◌, ℕ, List, cond, Some, None, IsSome, is_some, Option, true, false}
use Rattle.std.specs.Map.{lookup, keys_of}
use Rattle.std.specs.List.Sorted.{IsStrictlySortedBy}
use Rattle.std.specs.BTreeMap.{is_at}

pub fd_total : IsTotalOrder fd_cmp
fd_total = then_total (on_total (λ (k : FdKey). k.session) nat_cmp_total) (on_total (λ (k : FdKey). k.fd) nat_cmp_total)

pub fd_exact : map.IsAntisymmetric fd_cmp
fd_exact x y e = ap (λ (p : ℕ × ℕ). the_key p) (exact_pairs nat_cmp nat_cmp exact_unsigned exact_unsigned (x.session, x.fd) (y.session, y.fd) e) where
  the_key : ℕ × ℕ → FdKey
  the_key p = record { session = p.0; fd = p.1 }

pub fd_at_made : (es : List (FdKey × Fd)) (session fd : ℕ) → fd_at (map.from_entries es) session fd ≡ lookup (is_at (fd_cmp (fd_key session fd))) es
fd_at_made es session fd = get_made fd_cmp fd_total fd_exact es (fd_key session fd)

pub with_fd_made : (es fs : List (FdKey × Fd)) (session fd : ℕ) (d : Fd) → ((q : FdKey) → lookup (is_at (fd_cmp q)) fs ≡ cond (is_at (fd_cmp (fd_key session fd)) q) (Some d) (lookup (is_at (fd_cmp q)) es)) → map.from_entries fs ≡ with_fd (map.from_entries es) session fd d
with_fd_made es fs session fd d h = insert_made fd_cmp fd_total fd_exact es fs (fd_key session fd) d h

pub without_fd_made : (es fs : List (FdKey × Fd)) (session fd : ℕ) → ((q : FdKey) → lookup (is_at (fd_cmp q)) fs ≡ cond (is_at (fd_cmp (fd_key session fd)) q) None (lookup (is_at (fd_cmp q)) es)) → map.from_entries fs ≡ without_fd (map.from_entries es) session fd
without_fd_made es fs session fd h = remove_made fd_cmp fd_total fd_exact es fs (fd_key session fd) h

pub present_made : (es : List (FdKey × Fd)) (session fd : ℕ) {fds : Fds} → map.from_entries es ≡ fds → IsSome (fd_at fds session fd) → IsSome (lookup (is_at (fd_cmp (fd_key session fd))) es)
present_made es session fd is there = sym (ap is_some (fd_at_made es session fd)) ∙ ap (λ t. is_some (fd_at t session fd)) is ∙ there

pub entries_fds : (es : List (FdKey × Fd)) {fds : Fds} → map.from_entries es ≡ fds → IsStrictlySortedBy fd_cmp (keys_of es) → es ≡ map.entries fds
entries_fds es is h = sym (entries_made fd_cmp fd_total fd_exact es h) ∙ ap map.entries is

pub not_none : (o : Option Fd) → o ≡ None → IsSome o → ⊥
not_none o is there = let e : is_some o ≡ false = ap is_some is in let f : true ≡ false = sym there ∙ e in absurd cc
