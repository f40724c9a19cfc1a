-- A link on the hashed set is followed: the set to which it leads is asked, and is not read in turn again.
use Rattle.std.proofs.Common.{◌≡◌, ◌∙◌, ℕ, Bool, true, List, ◌∷◌, Option, Some, None, length, refl, ap, subst, eq-eqb}
use Rattle.dht_linkto.specs.Cursor.{left_from}
use Rattle.dht_linkto.specs.Search.{Search, is_set, without, led, set_named}
use Rattle.dht_linkto.specs.Steps.{reading}
use Rattle.dht_linkto.proofs.Left.{left_linked}
use Rattle.fop_types.specs.declared.cells.Gfid.{Gfid}

abbrev pub search_at : Gfid → List ℕ → List (List ℕ) → ℕ → Option ℕ → Option ℕ → ℕ → Bool → Search
search_at parent name names hashed asked linked first has_link = record {
  parent = parent;
  name = name;
  names = names;
  hashed = hashed;
  asked = asked;
  rest = left_from first (length names) hashed linked;
  has_link = has_link;
}

pub followed : (parent : Gfid) (name : List ℕ) (names : List (List ℕ)) (hashed : ℕ) (asked linked : Option ℕ) (first : ℕ) (has_link : Bool) (target : List ℕ) (set : ℕ) (s : Search)
    → search_at parent name names hashed asked linked first has_link ≡ s → s.asked ≡ Some s.hashed → (is_set asked hashed ≡ true → linked ≡ None)
    → ((sets : List ℕ) → led hashed sets (set_named names target) ≡ set ∷ without sets (Some set))
    → search_at parent name names hashed (Some set) (Some set) first true ≡ reading (record s { has_link = true }) (led s.hashed s.rest (set_named s.names target))
followed parent name names hashed asked linked first has_link target set s view asks unlinked leads =
    let P : Search → Type 0 = λ (t : Search). t.asked ≡ Some t.hashed → search_at parent name names hashed (Some set) (Some set) first true ≡ reading (record t { has_link = true }) (led t.hashed t.rest (set_named t.names target)) in
    subst P view (λ (a : asked ≡ Some hashed).
    let none : linked ≡ None = unlinked (ap (λ (o : Option ℕ). is_set o hashed) a ∙ eq-eqb hashed hashed refl) in
    rw (leads (left_from first (length names) hashed linked), left_linked first (length names) hashed linked set none) refl) asks
