-- A whole search over sets each of which shows the same whenever it is read.
use Rattle.std.specs.Prelude.{◌≡◌, ℕ, zero, suc, ◌<◌, ◌==◌, List, [], ◌∷◌, Option, Some, None, Result, Ok, Err, length, if◌then◌else◌}
use Rattle.dht_linkto.specs.Search.{Search, search_of, others, led, set_named}
use Rattle.dht_linkto.specs.Steps.{next, after}
use Rattle.dht_linkto.specs.declared.found.Found.{Found}
use Rattle.dht_linkto.specs.declared.found.Found.TheVariants as found
use Rattle.dht_linkto.specs.declared.found.Next.{Next}
use Rattle.dht_linkto.specs.declared.found.Next.TheVariants.{Ask, Done}
use Rattle.fop_types.specs.Names.{item_named, is_link}
use Rattle.fop_types.specs.declared.answers.IoError.{IoError}
use Rattle.fop_types.specs.declared.cells.Gfid.{Gfid}
use Rattle.fop_types.specs.declared.contents.Item.{Item}

-- what each set shows of a directory's names, or the I/O error by which it can not be read
abbrev pub Shown : Type 0
Shown = ℕ → Result (List Item) IoError

-- what one set gives, before what the sets after it give: a link counts for nothing
abbrev pub by_item : ℕ → Found → Option Item → Found
by_item set later None = later
by_item set later (Some item) = if is_link item.kind then later else found.Item set item.gfid item.kind

abbrev pub by_shown : List ℕ → ℕ → Found → Result (List Item) IoError → Found
by_shown name set later (Ok items) = by_item set later (item_named items name)
by_shown name set later (Err error) = found.Io error

-- the first of the sets, in this order, that shows the name or can not be read
abbrev pub first_found : Shown → List ℕ → List ℕ → Found
first_found shown name [] = found.Absent
first_found shown name (set ∷ sets) = by_shown name set (first_found shown name sets) (shown set)

-- the set that the link of the name leads to
abbrev pub leads_to : List (List ℕ) → Option Item → Option ℕ
leads_to names None = None
leads_to names (Some item) = if is_link item.kind then set_named names item.target else None

abbrev pub link_in : List (List ℕ) → List ℕ → Result (List Item) IoError → Option ℕ
link_in names name (Ok items) = leads_to names (item_named items name)
link_in names name (Err error) = None

-- the order of the sets, by where the link on the hashed one leads
abbrev pub order : ℕ → ℕ → Option ℕ → List ℕ
order count hashed link = hashed ∷ led hashed (others count hashed) link

-- how a search ends, after so many replies at most
abbrev pub outcome : ℕ → Shown → Search → Next → Found
outcome n shown s (Done result) = result
outcome zero shown s (Ask set) = found.Absent
outcome (suc n) shown s (Ask set) = outcome n shown (after s set (shown set)) (next s set (shown set))

-- one reply for each set is enough
abbrev pub FindsTheFirst : Type 0
FindsTheFirst = (shown : Shown) (parent : Gfid) (name : List ℕ) (names : List (List ℕ)) (hashed : ℕ) → hashed < length names
    → outcome (length names) shown (search_of parent name names hashed) (Ask hashed)
    ≡ first_found shown name (order (length names) hashed (link_in names name (shown hashed)))

-- how often a set stands in a list
abbrev pub times : ℕ → List ℕ → ℕ
times set [] = 0
times set (other ∷ sets) = if other == set then suc (times set sets) else times set sets

-- wherever a link leads, each set has its turn once
abbrev pub ReadsEachOnce : Type 0
ReadsEachOnce = (count hashed set : ℕ) (link : Option ℕ) → hashed < count → set < count → times set (order count hashed link) ≡ 1
