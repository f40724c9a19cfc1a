-- The set to which a name belongs is a set of the volume.
use Rattle.std.proofs.Common.{◌≡◌, ℕ, ◌<◌, ◌≤◌, ◌==◌, Bool, true, false, List, Option, Some, None, IfSome, if◌then◌else◌, length, refl, arith}
use Rattle.std.proofs.lemmas.Bool.{eqb-true}
use Rattle.std.proofs.lemmas.List.FromFn.{length-map-range_with_len}
use Rattle.std.proofs.lemmas.List.Quantifiers.{position-Some}
use Rattle.std.specs.List.{position}
use Rattle.std.specs.BTreeMap.{is_at}
use Rattle.std.specs.Map.{lookup}
use Rattle.std.specs.Ordering.{is_eq}
use Rattle.dht_layout.specs.Hashes.{name_hash}
use Rattle.dht_layout.specs.Layouts.{holds, even_layout, even_span}
use Rattle.dht_linkto.specs.Search.{hashed_set, set_or_first}
use Rattle.dht_fops.specs.Volumes.{Kept, whole_spans, kept_spans, set_in, known_set}
use Rattle.dht_fops.specs.declared.volume.Volume.{Volume}
use Rattle.fop_types.specs.Cells.{root}
use Rattle.fop_types.specs.Orders.{gfid_cmp}
use Rattle.fop_types.specs.declared.cells.Gfid.{Gfid}
use Rattle.fop_types.specs.declared.contents.Span.{Span}

place_below : (layout : List (Option Span)) (hash : ℕ) (found : Option ℕ) → position (holds hash) layout ≡ found → 1 ≤ length layout → set_or_first found < length layout
place_below layout hash None e some = omega arith
place_below layout hash (Some set) e some = (position-Some (holds hash) layout set None e).0

pub hashed_below : (n : ℕ) (layout : List (Option Span)) (name : List ℕ) → length layout ≡ n → 1 ≤ n → hashed_set layout name < n
hashed_below n layout name e some = let h = place_below layout (name_hash name) (position (holds (name_hash name)) layout) refl (omega arith) in omega arith

-- ---- kept layouts

whole_by : (n : ℕ) (found spans : List (Option Span)) (b : Bool) → (length found == n) ≡ b → (if b then Some found else None) ≡ Some spans → length spans ≡ n
whole_by n found spans true e k =
    let same : found ≡ spans = cc in
    let whole : length found ≡ n = eqb-true (length found) n e in
    rw (← same) whole
whole_by n found spans false e k = absurd cc

whole_length : (n : ℕ) (found : Option (List (Option Span))) (spans : List (Option Span)) → whole_spans n found ≡ Some spans → length spans ≡ n
whole_length n None spans k = absurd cc
whole_length n (Some found) spans k = whole_by n found spans (length found == n) refl k

pub kept_whole : (n : ℕ) (kept : Kept) (dir : Gfid) (spans : List (Option Span)) → kept_spans n kept dir ≡ Some spans → length spans ≡ n
kept_whole n kept dir spans k = whole_length n (lookup (is_at (gfid_cmp dir)) kept) spans k

set_in_below : (n : ℕ) (spans : Option (List (Option Span))) (name : List ℕ) → 1 ≤ n → ((whole : List (Option Span)) → spans ≡ Some whole → length whole ≡ n) → IfSome (set_in spans name) (λ set. set < n)
set_in_below n None name some w = tt
set_in_below n (Some spans) name some w = hashed_below n spans name (w spans refl) some

known_by : (v : Volume) (kept : Kept) (dir : Gfid) (name : List ℕ) (one is_root : Bool) → (v.sets == 1) ≡ one → is_eq (gfid_cmp dir root) ≡ is_root → 1 ≤ v.root_sets → v.root_sets ≤ v.sets
    → IfSome (if one then Some 0 else (if is_root then Some (hashed_set (even_layout v.root_sets) name) else set_in (kept_spans v.sets kept dir) name)) (λ set. set < v.sets)
known_by v kept dir name true is_root e f some within = omega arith
known_by v kept dir name false true e f some within =
    let h = hashed_below v.root_sets (even_layout v.root_sets) name (length-map-range_with_len (λ set. Some (even_span v.root_sets set)) 0 v.root_sets) some in omega arith
known_by v kept dir name false false e f some within =
    set_in_below v.sets (kept_spans v.sets kept dir) name (omega arith) (λ whole k. kept_whole v.sets kept dir whole k)

pub known_below : (v : Volume) (kept : Kept) (dir : Gfid) (name : List ℕ) → 1 ≤ v.root_sets → v.root_sets ≤ v.sets → IfSome (known_set v kept dir name) (λ set. set < v.sets)
known_below v kept dir name some within = known_by v kept dir name (v.sets == 1) (is_eq (gfid_cmp dir root)) refl refl some within
