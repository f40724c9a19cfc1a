-- The session of a `do` line: it has its place among those that were read, or it is the next one. It takes
-- a call, or the line is refused.
use Rattle.std.specs.Prelude.{◌≡◌, ℕ, ◌<◌, List, length, Option, Some, None, Ok, Err}
use Rattle.fop_types.specs.declared.calls.Call.{Call}
use Rattle.script_lang.specs.StatementText.{call_named, call_placed}
use Rattle.script_lang.specs.declared.errors.ScriptKind.{ScriptKind}
use Rattle.script_lang.specs.declared.drafts.Draft.{Draft}
use Rattle.script_lang.specs.declared.drafts.Reading.TheVariants.{InScript}

-- the session has a number, or one is left
abbrev pub HasNumber : Draft → Option ℕ → Type 0
HasNumber d (Some session) = Unit {0}
HasNumber d None = length d.sessions < 64

-- the session takes every call, or each is refused
abbrev pub TakesCalls : Draft → List ℕ → Option ℕ → Option ScriptKind → Type 0
TakesCalls d name place None = (d.call_count < 4096) × HasNumber d place × ((number : ℕ) (call : Call) → call_named d number name place call ≡ Ok (InScript (call_placed d number name place call)))
TakesCalls d name place (Some kind) = (number : ℕ) (call : Call) → call_named d number name place call ≡ Err kind
