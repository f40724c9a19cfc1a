-- Types of dht_fops that it does not export, by the functions that take them.
use Rattle.dht_linkto.specs.declared.found.Found.TheVariants as found
use Rattle.dht_fops.specs.Entries.{lookup_found}
use Rattle.dht_fops.specs.Renames.{drops_old_link, adds_link}

module _ {A B : Type 0} where
  -- the first argument of a function
  abbrev pub ArgOf : (A → B) → Type 0
  ArgOf f = A

-- what a look has in hand, the file that a rename moves, and the rename
abbrev pub Seen : Type 0
Seen = ArgOf (lookup_found found.Absent)

abbrev pub Source : Type 0
Source = ArgOf drops_old_link

abbrev pub Renaming : Type 0
Renaming = ArgOf adds_link
