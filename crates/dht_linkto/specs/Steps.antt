-- What a search makes of what a set showed: whom it asks next or what it found, and what is left of it.
use Rattle.std.specs.Prelude.{◌≡◌, ℕ, ◌<◌, ◌==◌, true, List, [], ◌∷◌, Option, Some, None, Result, Ok, Err, if◌then◌else◌}
use Rattle.dht_linkto.specs.Search.{Search, set_named, led}
use Rattle.dht_linkto.specs.declared.found.Found.TheVariants as found
use Rattle.dht_linkto.specs.declared.found.Next.{Next}
use Rattle.dht_linkto.specs.declared.found.Next.TheVariants.{Ask, Done}
use Rattle.fop_types.specs.Names.{item_named, is_link}
use Rattle.fop_types.specs.declared.answers.IoError.{IoError}
use Rattle.fop_types.specs.declared.contents.Item.{Item}

-- the first of the sets that are left is asked; where none is left, no set has the name
abbrev pub next_of : List ℕ → Next
next_of [] = Done found.Absent
next_of (set ∷ sets) = Ask set

abbrev pub reading : Search → List ℕ → Search
reading s [] = record s { asked = None; rest = [] }
reading s (set ∷ sets) = record s { asked = Some set; rest = sets }

abbrev pub ended : Search → Search
ended s = record s { asked = None }

-- a link counts on the hashed set alone
abbrev pub sets_after_link : Search → ℕ → List ℕ → List ℕ
sets_after_link s set target = if set == s.hashed then led s.hashed s.rest (set_named s.names target) else s.rest

abbrev pub with_link : Search → ℕ → Search
with_link s set = if set == s.hashed then record s { has_link = true } else s

-- by the item of the name on the set that was read
abbrev pub next_by : Search → ℕ → Option Item → Next
next_by s set None = next_of s.rest
next_by s set (Some item) =
    if is_link item.kind then next_of (sets_after_link s set item.target) else Done (found.Item set item.gfid item.kind)

abbrev pub after_item : Search → ℕ → Option Item → Search
after_item s set None = reading s s.rest
after_item s set (Some item) =
    if is_link item.kind then reading (with_link s set) (sets_after_link s set item.target) else ended s

-- by the names that the set showed, or the I/O error by which it was not read
abbrev pub next : Search → ℕ → Result (List Item) IoError → Next
next s set (Ok items) = next_by s set (item_named items s.name)
next s set (Err error) = Done (found.Io error)

abbrev pub after : Search → ℕ → Result (List Item) IoError → Search
after s set (Ok items) = after_item s set (item_named items s.name)
after s set (Err error) = ended s

-- the set that is asked is the one that the search waits for; it waits for none once it is done
abbrev pub WaitsFor : Next → Option ℕ → Type 0
WaitsFor (Ask set) asked = asked ≡ Some set
WaitsFor (Done result) asked = asked ≡ None

-- the set that is asked is one of so many
abbrev pub AsksOne : Next → ℕ → Type 0
AsksOne (Ask set) count = set < count
AsksOne (Done result) count = Unit {0}
