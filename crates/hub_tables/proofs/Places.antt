-- The places of procedures tell them apart.
use Rattle.std.proofs.Common.{◌≡◌, false, Some, refl, sym, ap, ◌∙◌, ◌==◌, slice_get, ne_eqb}
use Rattle.fop_types.specs.declared.messages.Proc.{Proc}
use Rattle.fop_types.specs.declared.messages.Proc.TheVariants as proc
use Rattle.brick_machine.specs.State.{place_of}
use Rattle.mount_log.specs.Procedures.{procs}

place_is : (p : Proc) → slice_get procs (place_of p) ≡ Some p
place_is proc.Lock = refl
place_is proc.Unlock = refl
place_is proc.Mark = refl
place_is proc.Op = refl
place_is proc.Post = refl
place_is proc.Fetch = refl
place_is proc.Replace = refl
place_is proc.Clear = refl
place_is proc.Settle = refl
place_is proc.Index = refl
place_is proc.Open = refl
place_is proc.Release = refl

proc_is : (p q : Proc) → place_of p ≡ place_of q → p ≡ q
proc_is p q same = let e : Some p ≡ Some q = sym (place_is p) ∙ ap (slice_get procs) same ∙ place_is q in cc

pub other_procs : (p q : Proc) → (p ≡ q → ⊥) → (place_of p == place_of q) ≡ false
other_procs p q apart = ne_eqb (place_of p) (place_of q) (λ same. apart (proc_is p q same))
