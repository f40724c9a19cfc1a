-- From what a call asks, of the values that contracts see, to what the table asks, of the fields.
use Rattle.std.proofs.Common.{◌≡◌, ℕ, ◌<◌, sym, ap, ◌∙◌, arith}
use Rattle.atomic_table.specs.Seated.{TableId}
use Rattle.wind_words.specs.declared.view.View.{View}
use Rattle.wind_words.specs.declared.view.Role.{Role}
use Rattle.wind_words.specs.Calls.{Pass}

abbrev pub pass_of : TableId → View → Pass
pass_of z v = record { words = z; view = v }

-- the pass and the words have one name
pub same_words : (z t : TableId) (v : View) (p : Pass) (now : TableId) → pass_of z v ≡ p → t ≡ now → p.words ≡ now → z ≡ t
same_words z t v p now is here e = ap (λ (q : Pass). q.words) is ∙ e ∙ sym here

-- the slot is one of the words
pub in_words : (key slot : ℕ) (t now : TableId) → t ≡ now → key ≡ t.words → slot < now.words → slot < key
in_words key slot t now here e within = omega (arith, e, within, ap (λ (y : TableId). y.words) here)

pub role_is : (z : TableId) (v : View) (p : Pass) (r : Role) → pass_of z v ≡ p → p.view.role ≡ r → v.role ≡ r
role_is z v p r is e = ap (λ (q : Pass). q.view.role) is ∙ e
