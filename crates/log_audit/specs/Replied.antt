-- Which calls have a reply, each once.
use Rattle.std.specs.Prelude.{◌≡◌, ℕ, suc, ◌+◌, ◌≤◌, Bool, true, false, List, [], ◌∷◌, Some, length, slice_get, slice_set, if◌then◌else◌}
use Rattle.mount_log.specs.Follows.{replies_to}
use Rattle.mount_log.specs.declared.logs.ReplyLine.{ReplyLine}

pub record HaveOne (calls : ℕ) (replies : List ReplyLine) : Type 0 where
  pub many : length replies ≡ calls
  pub each : (number : ℕ) → 1 ≤ number → number ≤ calls → replies_to number replies ≡ 1

-- each call of so many has no reply yet, or one that was seen
pub record AreSeen (calls : ℕ) (replies : List ReplyLine) (seen : List Bool) : Type 0 where
  pub long : length seen ≡ calls
  pub each : (index : ℕ) (b : Bool) → slice_get seen index ≡ Some b → replies_to (index + 1) replies ≡ (if b then 1 else 0)

-- a call was not seen
pub record IsUnseen (seen : List Bool) (call : ℕ) : Type 0 where
  pub index : ℕ
  pub call_is : call ≡ suc index
  pub unseen : slice_get seen index ≡ Some false

-- a call that was not seen is
pub record Sees (old : List Bool) (call : ℕ) (new : List Bool) : Type 0 where
  pub index : ℕ
  pub call_is : call ≡ suc index
  pub before : slice_get old index ≡ Some false
  pub after : new ≡ slice_set old index true

abbrev pub all_seen : List Bool → Bool
all_seen [] = true
all_seen (b ∷ bs) = if b then all_seen bs else false
