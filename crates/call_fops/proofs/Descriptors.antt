-- The descriptors of one session against the table of all: what one look-up finds, and what each move makes of them.
use Rattle.std.proofs.Common.{◌≡◌, ◌∷◌, refl, sym, ap, ◌∙◌, ℕ, ◌==◌, List, [], Less, Equal, Greater, inl, inr, ◌⊎◌, ◌≢◌}
use Rattle.std.specs.Prelude.{Bool, true, false, cond, Option, Some, if◌then◌else◌}
use Rattle.std.specs.Option.{option_map}
use Rattle.std.specs.FinMap as fin
use Rattle.std.specs.FinMap.{find}
use Rattle.std.specs.Ordering.{nat_cmp, is_eq, ordering_then}
use Rattle.std.specs.declared.cmp.Ordering.{Ordering}
use Rattle.std.specs.Cmp.{nat_cmp_total, nat_cmp_is}
use Rattle.std.specs.FinMap.{nat_cmp-IsAntisymmetric}
use Rattle.std.proofs.lemmas.Bool.Decides.{eqb_tells}
use Rattle.std.proofs.Math.Dec.{eqb}
use Rattle.fop_types.specs.Calls.{Descriptor}
use Rattle.fd_table.specs.Fds.{Fds, fd_cmp, fd_key, fd_at}
use Rattle.fd_table.specs.declared.fd.Fd.{Fd}
use Rattle.fd_table.specs.declared.fd.FdKey.{FdKey}
use Rattle.call_fops.specs.Descriptors.{descriptor_of, entries_of, fds_of}

not_tied : (r : Ordering) → (r ≡ Equal → ⊥) → is_eq r ≡ false
not_tied Less h = refl
not_tied Equal h = absurd (h refl)
not_tied Greater h = refl

tied_by : (s a : ℕ) → ((eqb a s ≡ true) × (a ≡ s)) ⊎ ((eqb a s ≡ false) × (a ≢ s)) → is_eq (nat_cmp s a) ≡ (a == s)
tied_by s a (inl h) = sym (ap is_eq (nat_cmp_is s a Equal (sym h.1))) ∙ sym h.0
tied_by s a (inr h) = not_tied (nat_cmp s a) (λ e. h.1 (sym (nat_cmp-IsAntisymmetric s a e))) ∙ sym h.0

pub tied : (s a : ℕ) → is_eq (nat_cmp s a) ≡ (a == s)
tied s a = tied_by s a (eqb_tells a s)

then_tied : (r t : Ordering) → is_eq (ordering_then r t) ≡ cond (is_eq r) (is_eq t) false
then_tied Less t = refl
then_tied Equal t = refl
then_tied Greater t = refl

by_key : (b : Bool) (d : Fd) (x : Option Descriptor) (rest : Option Fd) → x ≡ option_map descriptor_of rest
    → cond b (Some (descriptor_of d)) x ≡ option_map descriptor_of (cond b (Some d) rest)
by_key true d x rest h = refl
by_key false d x rest h = h

by_session : (b : Bool) (fd k : ℕ) (d : Fd) (es : List (ℕ × Descriptor)) (rest : Option Fd) → find nat_cmp fd es ≡ option_map descriptor_of rest
    → find nat_cmp fd (if b then (k, descriptor_of d) ∷ es else es) ≡ option_map descriptor_of (cond (cond b (is_eq (nat_cmp fd k)) false) (Some d) rest)
by_session true fd k d es rest h = by_key (is_eq (nat_cmp fd k)) d (find nat_cmp fd es) rest h
by_session false fd k d es rest h = h

pub same_key : (session fd : ℕ) (key : FdKey) → is_eq (fd_cmp (fd_key session fd) key) ≡ cond (key.session == session) (is_eq (nat_cmp fd key.fd)) false
same_key session fd key = then_tied (nat_cmp session key.session) (nat_cmp fd key.fd) ∙ ap (λ (b : Bool). cond b (is_eq (nat_cmp fd key.fd)) false) (tied session key.session)

find_entries : (session fd : ℕ) (es : List (FdKey × Fd)) → find nat_cmp fd (entries_of session es) ≡ option_map descriptor_of (find fd_cmp (fd_key session fd) es)
find_entries session fd [] = refl
find_entries session fd (e ∷ es) =
    by_session (e.0.session == session) fd e.0.fd e.1 (entries_of session es) (find fd_cmp (fd_key session fd) es) (find_entries session fd es)
    ∙ ap (λ (b : Bool). option_map descriptor_of (cond b (Some e.1) (find fd_cmp (fd_key session fd) es))) (sym (same_key session fd e.0))

pub get_fds_of : (fds : Fds) (session fd : ℕ) → fin.get (fds_of fds session) fd ≡ option_map descriptor_of (fd_at fds session fd)
get_fds_of fds session fd =
    fin.get-from_entries nat_cmp_total (entries_of session (fin.entries fds)) fd
    ∙ find_entries session fd (fin.entries fds)
    ∙ ap (option_map descriptor_of) (sym (fin.get-entries fds (fd_key session fd)))
