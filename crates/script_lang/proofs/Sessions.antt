-- A `do` line whose session takes no call.
use Rattle.std.proofs.Common.{◌≡◌, ℕ, List, Option, Result, Ok, Err, ap, sym, ◌∙◌}
use Rattle.volfile.specs.TextLines.{is_text}
use Rattle.fop_types.specs.declared.calls.Call.{Call}
use Rattle.script_lang.specs.WordForms.{place_of}
use Rattle.script_lang.specs.StatementText.{call_named, call_said}
use Rattle.script_lang.specs.declared.drafts.Draft.{Draft}
use Rattle.script_lang.specs.declared.errors.ScriptKind.{ScriptKind}

pub said_refused : (d : Draft) (number : ℕ) (name : List ℕ) (said : Result Call ScriptKind) (call : Call) (place : Option ℕ) (kind : ScriptKind)
    → said ≡ Ok call → place ≡ place_of (λ s. is_text s name) d.sessions → ((n : ℕ) (c : Call) → call_named d n name place c ≡ Err kind) → call_said d number name said ≡ Err kind
said_refused d number name said call place kind is_call is_place refused =
    let read : call_said d number name said ≡ call_named d number name (place_of (λ s. is_text s name) d.sessions) call = ap (call_said d number name) is_call in
    let here : call_named d number name (place_of (λ s. is_text s name) d.sessions) call ≡ call_named d number name place call = ap (λ p. call_named d number name p call) (sym is_place) in
    read ∙ here ∙ refused number call
