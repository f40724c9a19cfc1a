-- What a fop knows of its volume, and the set to which a name of a directory belongs.
use Rattle.std.specs.Prelude.{ℕ, ◌==◌, ◌-◌, length, List, Option, Some, None, if◌then◌else◌}
use Rattle.std.specs.BTreeMap.{is_at}
use Rattle.std.specs.List.{range_with_len}
use Rattle.std.specs.Map.{lookup}
use Rattle.std.specs.Ordering.{is_eq}
use Rattle.dht_layout.specs.Layouts.{even_layout}
use Rattle.dht_linkto.specs.Search.{hashed_set}
use Rattle.dht_fops.specs.declared.volume.Volume.{Volume}
use Rattle.fop_types.specs.Cells.{root}
use Rattle.fop_types.specs.Orders.{gfid_cmp}
use Rattle.fop_types.specs.declared.cells.Gfid.{Gfid}
use Rattle.fop_types.specs.declared.contents.Span.{Span}
use Rattle.fop_types.specs.declared.history.Entry.{Entry}

-- the sets from one on, rising
abbrev pub sets_from : Volume → ℕ → List ℕ
sets_from v first = range_with_len first (v.sets - first)

-- the entry of the history that is a part of the fop's call
abbrev pub entry : Volume → ℕ → Entry
entry v part = record { call = v.call; part = part }

-- the layouts that a node keeps, by directory: the ranges of its copies, by set
abbrev pub Kept : Type 0
Kept = List (Gfid × List (Option Span))

-- the layout of a directory, if it has a range, or none, for each of so many sets
abbrev pub whole_spans : ℕ → Option (List (Option Span)) → Option (List (Option Span))
whole_spans count None = None
whole_spans count (Some spans) = if length spans == count then Some spans else None

abbrev pub kept_spans : ℕ → Kept → Gfid → Option (List (Option Span))
kept_spans count kept dir = whole_spans count (lookup (is_at (gfid_cmp dir)) kept)

abbrev pub set_in : Option (List (Option Span)) → List ℕ → Option ℕ
set_in None name = None
set_in (Some spans) name = Some (hashed_set spans name)

-- The set to which a name of a directory belongs, where no layout has to be read for it: with one set; in the root, whose
-- layout is the even split over the sets of the first graph; in a directory whose layout is kept.
abbrev pub known_set : Volume → Kept → Gfid → List ℕ → Option ℕ
known_set v kept dir name =
    if v.sets == 1 then Some 0
    else (if is_eq (gfid_cmp dir root) then Some (hashed_set (even_layout v.root_sets) name)
    else set_in (kept_spans v.sets kept dir) name)
