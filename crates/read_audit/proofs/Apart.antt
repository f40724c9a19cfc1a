-- The sets of the entries of one call, and an entry that unlinks a name.
use Rattle.std.proofs.Common.{◌≡◌, sym, ap, subst, ◌∙◌}
use Rattle.std.specs.Prelude.{ℕ, List, Option, None, Some, slice_get}
use Rattle.fop_types.specs.declared.cells.Gfid.{Gfid}
use Rattle.fop_types.specs.declared.flat.FlatOp.{FlatOp}
use Rattle.fop_types.specs.declared.flat.FlatOp.TheVariants as flat
use Rattle.fop_types.specs.declared.history.Entry.{Entry}
use Rattle.mount_log.proofs.Items.{some_is}
use Rattle.mount_log.specs.declared.logs.Log.{Log}
use Rattle.change_audit.specs.Claims.{claim_of}
use Rattle.read_audit.specs.Taken.{IsUnlinked}
use Rattle.read_audit.specs.Taking.{key_of, IsSetClaimed}

-- the set that was taken for an entry
pub set_claimed : (log : Log) (claims : List (ℕ × ℕ)) (k key set : ℕ) (entry : Entry) (from : Option ℕ) → Some entry ≡ slice_get log.history k → from ≡ Some set → key ≡ key_of entry.call set → claim_of claims key ≡ Some k → IsSetClaimed log claims k from
set_claimed log claims k key set entry from here from_is key_is claimed other one there one_is =
    subst (λ (n : ℕ). claim_of claims n ≡ Some k)
    (key_is ∙ ap (λ (e : Entry). key_of e.call set) (some_is entry other (here ∙ there)) ∙ ap (λ (n : ℕ). key_of other.call n) (some_is set one (sym from_is ∙ one_is)))
    claimed

pub none_claimed : (log : Log) (claims : List (ℕ × ℕ)) (k : ℕ) (from : Option ℕ) → from ≡ None → IsSetClaimed log claims k from
none_claimed log claims k from none entry set there is = let no : ◌≡◌ {A = Option ℕ} None (Some set) = sym none ∙ is in absurd cc

-- two entries of one call that have the same set are one
pub one_entry : (claims : List (ℕ × ℕ)) (j k set : ℕ) (one other : Entry) → one.call ≡ other.call → claim_of claims (key_of one.call set) ≡ Some j → claim_of claims (key_of other.call set) ≡ Some k → j ≡ k
one_entry claims j k set one other same first second = some_is j k (sym first ∙ ap (λ (n : ℕ). claim_of claims (key_of n set)) same ∙ second)

pub unlinked_is : (log : Log) (ops : List FlatOp) (call : ℕ) (dir : Gfid) (name : List ℕ) (place : ℕ) (entry : Entry) (operation : FlatOp) → Some entry ≡ slice_get log.history place → Some operation ≡ slice_get ops place → entry.call ≡ call
    → operation ≡ flat.Unlink dir name → IsUnlinked log ops call dir name
unlinked_is log ops call dir name place entry operation here op_here same is = record { place = place; entry = entry; there = sym here; call_is = same; unlinks = sym op_here ∙ ap Some is }
