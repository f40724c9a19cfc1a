-- What a text that was read is, where the source shows its bytes: what it is accepted as, or why it is refused.
use Rattle.std.specs.Prelude.{◌≡◌, ℕ, List, Option, Ok, Err, IfSome}
use Rattle.script_commands.specs.Plans.{accepted}
use Rattle.script_commands.specs.Refusals.{fault_text}
use Rattle.script_commands.specs.declared.plans.Accepted.{Accepted}
use Rattle.script_commands.specs.declared.readings.NotRead.{NotRead}
use Rattle.script_commands.specs.declared.readings.NotRead.TheVariants as not_read
use Rattle.script_commands.specs.declared.refusals.Refusal.{Refusal}

-- the text that was read, where the source shows its bytes
abbrev pub IsRead : Option (List ℕ) → List ℕ → Type 0
IsRead known text = IfSome known (λ bytes. text ≡ bytes)

-- a text was read that is accepted as this
pub record IsAccepted (known : Option (List ℕ)) (read : Accepted) : Type 0 where
  pub text : List ℕ
  pub is_text : IsRead known text
  pub accepted_as : accepted text ≡ Ok read

-- the text that was read is refused, for this as the first
abbrev pub IsRefused : Option (List ℕ) → Refusal → Type 0
IsRefused known refusal = IfSome known (λ text. accepted text ≡ Err refusal)

-- what was written of a text that is refused
abbrev pub IsRefusal : NotRead → (List ℕ → Type 0) → Type 0
IsRefusal (not_read.Refused refusal) Wrote = Wrote (fault_text refusal)
IsRefusal not_read.Fault Wrote = ⊥
IsRefusal not_read.Mem Wrote = ⊥
