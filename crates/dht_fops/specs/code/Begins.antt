-- How a fop on a name begins, by what the name is looked for.
use Rattle.std.specs.Prelude.{ℕ, List, None}
use Rattle.dht_fops.specs.Courses.{Course}
use Rattle.dht_fops.specs.Looks.{where_named}
use Rattle.dht_fops.specs.Volumes.{Kept, known_set}
use Rattle.dht_fops.specs.code.Waits.{looks_for}
use Rattle.dht_fops.specs.declared.purpose.Purpose.{Purpose}
use Rattle.dht_fops.specs.declared.volume.Volume.{Volume}
use Rattle.fop_types.specs.declared.fops.Object.{Object}

abbrev pub begins : Volume → List (List ℕ) → Kept → Object → List ℕ → Purpose → Course
begins v names kept parent name purpose =
    where_named parent name None (looks_for v purpose parent.gfid name names (known_set v kept parent.gfid name))
