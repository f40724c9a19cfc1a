-- How a search is kept: the sets that are left are those from a number on, but for the two that are read out of turn,
-- the hashed set and the set to which its link led.
use Rattle.std.specs.Prelude.{ℕ, ◌-◌, List, Option, Some}
use Rattle.std.specs.List.{range_with_len}
use Rattle.dht_linkto.specs.Search.{without}

abbrev pub left_from : ℕ → ℕ → ℕ → Option ℕ → List ℕ
left_from first count hashed linked = without (without (range_with_len first (count - first)) (Some hashed)) linked
