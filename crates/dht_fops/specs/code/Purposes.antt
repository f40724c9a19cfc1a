-- What the second set of a rename is bound to, while its first name is looked for.
use Rattle.std.specs.Prelude.{ℕ, ◌<◌, IfSome}
use Rattle.dht_fops.specs.declared.purpose.Purpose.{Purpose}
use Rattle.dht_fops.specs.declared.purpose.Purpose.TheVariants as purpose

-- where the set of the new name is known, it is one of so many
abbrev pub IsSecondSet : Purpose → ℕ → Type 0
IsSecondSet purpose.Lookup count = Unit {0}
IsSecondSet (purpose.Mkdir mode drawn) count = Unit {0}
IsSecondSet (purpose.Create mode drawn) count = Unit {0}
IsSecondSet purpose.Unlink count = Unit {0}
IsSecondSet purpose.Rmdir count = Unit {0}
IsSecondSet (purpose.RenameFrom target new_name second) count = IfSome second (λ set. set < count)
IsSecondSet (purpose.RenameTo source) count = Unit {0}
