use Rattle.std.proofs.Common.{◌≡◌, ◌≤◌, ◌+◌, length, drop}
use Rattle.std.specs.Option.{option_map}
use Rattle.volfile.specs.TextLines.{is_text}
use Rattle.script_lang.specs.WordForms.{place_of}
use Rattle.script_lang.proofs.few.Few.place.Given as goal

abbrev pub invariant-loop-item : goal.invariant-loop-item
invariant-loop-item g l = (l.place ≡ l.item-index) × (length l.self ≤ 64)
    × (place_of (λ x. is_text (g.T.Named.name_of x) l.name) l.self ≡ option_map (λ n. l.place + n) (place_of (λ x. is_text (g.T.Named.name_of x) l.name) (drop l.place l.self)))
