-- The search for one name of a directory over the sets. The name belongs to the set whose range holds its hash, and
-- that set is read first. A link there leads to the set that it names. Then the sets that are left are read, rising.
-- The first file or directory of that name ends the search. (cluster/distribute: linkto files, lookup everywhere; the
-- order of the sets is ours.)
use Rattle.std.specs.Prelude.{ℕ, ◌==◌, Bool, false, List, [], ◌∷◌, Option, Some, None, length, nat_eq, if◌then◌else◌}
use Rattle.std.specs.List.{range_with_len, position}
use Rattle.std.specs.Cmp.Lexicographic.{pointwise}
use Rattle.dht_layout.specs.Hashes.{name_hash}
use Rattle.dht_layout.specs.Layouts.{holds}
use Rattle.fop_types.specs.declared.cells.Gfid.{Gfid}
use Rattle.fop_types.specs.declared.contents.Span.{Span}

-- A search under way. `names` are the names of the sets, in order; `asked` is the set that is read now, none once the
-- search has ended; `rest` are the sets that are read after it, in this order, while none shows the name; `has_link`
-- says whether the hashed set showed a link of the name.
pub record Search : Type 0 where
  pub parent : Gfid
  pub name : List ℕ
  pub names : List (List ℕ)
  pub hashed : ℕ
  pub asked : Option ℕ
  pub rest : List ℕ
  pub has_link : Bool

-- the set to which a name belongs; a name whose hash is in no range belongs to the first
abbrev pub set_or_first : Option ℕ → ℕ
set_or_first None = 0
set_or_first (Some set) = set

abbrev pub hashed_set : List (Option Span) → List ℕ → ℕ
hashed_set layout name = set_or_first (position (holds (name_hash name)) layout)

-- whether this is the one
abbrev pub is_set : Option ℕ → ℕ → Bool
is_set None set = false
is_set (Some one) set = one == set

-- the sets but for one
abbrev pub without : List ℕ → Option ℕ → List ℕ
without [] one = []
without (set ∷ sets) one = if is_set one set then without sets one else set ∷ without sets one

-- all sets but for the hashed one, rising
abbrev pub others : ℕ → ℕ → List ℕ
others count hashed = without (range_with_len 0 count) (Some hashed)

-- a search begins on the hashed set
abbrev pub search_of : Gfid → List ℕ → List (List ℕ) → ℕ → Search
search_of parent name names hashed = record {
  parent = parent;
  name = name;
  names = names;
  hashed = hashed;
  asked = Some hashed;
  rest = others (length names) hashed;
  has_link = false;
}

-- the set that has a name
abbrev pub set_named : List (List ℕ) → List ℕ → Option ℕ
set_named names target = position (λ name. pointwise nat_eq name target) names

-- the sets that are left, in the order in which they are read once the hashed set showed a link: the set to which the
-- link leads comes first. A link that names none of the sets, or the hashed set itself, leads nowhere
abbrev pub led : ℕ → List ℕ → Option ℕ → List ℕ
led hashed sets None = sets
led hashed sets (Some set) = if set == hashed then sets else set ∷ without sets (Some set)
