-- The fops on a name of a directory ask well.
use Rattle.std.proofs.Common.{◌≡◌, ◌∙◌, ℕ, ◌-◌, ◌<◌, ◌≤◌, inl, Bool, true, false, List, [], ◌∷◌, Option, Some, None, length, nat_lt, ◌==◌, refl, sym, subst, arith}
use Rattle.std.proofs.lemmas.Bool.{eqb-true, ltb-true, ltb-false}
use Rattle.std.specs.List.{range_with_len}
use Rattle.dht_layout.specs.Layouts.{even_span}
use Rattle.dht_linkto.proofs.Knowing.{Below, below_range}
use Rattle.dht_linkto.proofs.Orders.{times_range}
use Rattle.dht_linkto.specs.Laws.{times}
use Rattle.dht_linkto.specs.Search.{hashed_set}
use Rattle.dht_linkto.specs.declared.found.Found.{Found}
use Rattle.dht_linkto.specs.declared.found.Found.TheVariants as found
use Rattle.dht_fops.proofs.AskLooks.{EndsWell, looks_in_asks, finds_asks}
use Rattle.dht_fops.proofs.AskRenames.{file_by, drops_link_asks}
use Rattle.dht_fops.proofs.Gfids.{saw_known}
use Rattle.dht_fops.proofs.JobBounds.{one_few, both_few, birth_is_job, even_within, item_name}
use Rattle.dht_fops.proofs.Handing.{Later, IsKnown, later_push, name_later, empty_later, nowhere_later, names_asks, change_asks, birth_asks, kept_asks, if_asks}
use Rattle.dht_fops.proofs.Known.{hashed_below, known_below}
use Rattle.dht_fops.proofs.Looking.{IsFoundIn}
use Rattle.dht_fops.specs.Courses.{Course}
use Rattle.dht_fops.specs.Entries.{lookup_found, lists_from, births_from, mkdir_found, create_found, unlink_found, empties, rmdir_found}
use Rattle.dht_fops.specs.Fops.{on_name}
use Rattle.dht_fops.specs.Founded.{AsksWell}
use Rattle.dht_fops.specs.Handed.{Handed, SawName, SawEmpty, SawNowhere, WasHeld}
use Rattle.dht_fops.specs.Handed.Event.{Held}
use Rattle.dht_fops.specs.Looks.{Ending, where_named}
use Rattle.dht_fops.specs.Merges.{merged, real_items}
use Rattle.dht_fops.specs.Volumes.{Kept, known_set, sets_from}
use Rattle.dht_fops.specs.declared.look.Seen.{Seen}
use Rattle.dht_fops.specs.declared.volume.Volume.{Volume}
use Rattle.fop_types.specs.Bounds.{IsGfid, IsMode, IsComponent, IsItemName}
use Rattle.fop_types.specs.Cells.{names_cell}
use Rattle.fop_types.specs.Flat.{item_of}
use Rattle.fop_types.specs.Limits.{max_item_name}
use Rattle.fop_types.specs.Names.{is_directory, has_real_name}
use Rattle.fop_types.specs.declared.cells.Gfid.{Gfid}
use Rattle.fop_types.specs.declared.cells.Kind.{Kind}
use Rattle.fop_types.specs.declared.cells.Kind.TheVariants as kind
use Rattle.fop_types.specs.declared.contents.Item.{Item}
use Rattle.fop_types.specs.declared.fops.Object.{Object}
use Rattle.fop_types.specs.declared.store_ops.StoreOp.TheVariants as op

-- ---- fops on a name

pub below_from : (n first : ℕ) → Below n (range_with_len first (n - first))
below_from n first = by_order n first (nat_lt n first) refl
  where
    by_order : (n first : ℕ) (b : Bool) → nat_lt n first ≡ b → Below n (range_with_len first (n - first))
    by_order n first true e = let less = ltb-true n first e in let none : n - first ≡ 0 = omega arith in rw none tt
    by_order n first false e = let more = ltb-false n first e in below_range n first (n - first) (omega arith)

pub named_asks : (n : ℕ) (handed : Handed) (parent : Object) (name : List ℕ) (place : Option ℕ) (next : Course) → IsComponent name → (IsItemName name → AsksWell n handed next) → AsksWell n handed (where_named parent name place next)
named_asks n handed parent name place next c k =
    if_asks n handed _ _ (is_directory parent.kind)
    (λ dir. if_asks n handed _ _ (nat_lt max_item_name (length name)) (λ long. tt) (λ short. k (item_name name c (ltb-false max_item_name (length name) short)))) (λ file. tt)

pub on_name_asks : (v : Volume) (names : List (List ℕ)) (kept : Kept) (parent : Object) (name : List ℕ) (ending : ℕ → Ending) → 1 ≤ v.root_sets → v.root_sets ≤ v.sets → length names ≡ v.sets → IsGfid parent.gfid → IsComponent name
    → ((hashed : ℕ) (handed : Handed) → hashed < v.sets → IsItemName name → EndsWell v.sets handed parent.gfid name (ending hashed)) → AsksWell v.sets [] (on_name v names kept parent name ending)
on_name_asks v names kept parent name ending some within e g c ends =
    named_asks v.sets [] parent name None _ c
    (λ short. finds_asks v.sets (length names) parent.gfid (known_set v kept parent.gfid name) _ _ [] e (λ bounds. g) (known_below v kept parent.gfid name some within)
    (λ set i. looks_in_asks v.sets parent.gfid name names 0 ending set [] e i (λ bounds. g) (ends set [] i short))
    (λ whole later w l. looks_in_asks v.sets parent.gfid name names 0 ending (hashed_set whole name) later e (hashed_below v.sets whole name w (omega arith)) (λ bounds. g)
    (ends _ later (hashed_below v.sets whole name w (omega arith)) short)))

pub lookup_ends : (n : ℕ) (handed : Handed) (dir : Gfid) (name : List ℕ) → EndsWell n handed dir name lookup_found
lookup_ends n handed dir name = λ result seen later l f. by_found later result seen f
  where
    by_found : (later : Handed) (result : Found) (seen : Seen) → IsFoundIn n later dir name result → AsksWell n later (lookup_found result seen)
    by_found later (found.Item set gfid kind) seen f = (f.0, saw_known later dir name set gfid kind f.1)
    by_found later found.Absent seen f = tt
    by_found later (found.Io error) seen f = tt

-- ---- mkdir and create

-- a new file or directory within its bounds
pub record IsNew (parent : Gfid) (name : List ℕ) (mode : ℕ) (drawn : Gfid) : Type 0 where
  pub parent_is : IsGfid parent
  pub name_is : IsItemName name
  pub mode_is : IsMode mode
  pub drawn_is : IsGfid drawn

births_asks : (v : Volume) (parent : Gfid) (name : List ℕ) (mode : ℕ) (drawn : Gfid) (sets : List ℕ) (handed : Handed) → IsNew parent name mode drawn → 1 ≤ v.sets → Below v.sets sets
    → SawNowhere v.sets handed parent name → AsksWell v.sets handed (births_from v parent name mode drawn sets)
births_asks v parent name mode drawn [] handed new some b free =
    change_asks v.sets handed 0 _ 0 (op.AddName parent (item_of name drawn kind.Dir) mode (Some (even_span v.sets 0))) _ _ some free
    (λ bounds. (one_few (names_cell parent) new.parent_is, omega arith, (new.parent_is, (new.name_is, new.drawn_is, refl), new.mode_is, even_within v.sets 0 some), refl))
    (λ reply number done. tt)
births_asks v parent name mode drawn (set ∷ sets) handed new some b free =
    birth_asks v.sets handed set _ _ _ b.0 (λ bounds. birth_is_job drawn (Some (even_span v.sets set)) new.drawn_is (even_within v.sets set b.0))
    (λ later number l. births_asks v parent name mode drawn sets later new some b.1 (nowhere_later v.sets handed later parent name l free))

pub mkdir_ends : (v : Volume) (handed : Handed) (parent : Gfid) (name : List ℕ) (mode : ℕ) (drawn : Gfid) → IsNew parent name mode drawn → 1 ≤ v.sets → EndsWell v.sets handed parent name (mkdir_found v parent name mode drawn)
mkdir_ends v handed parent name mode drawn new some = λ result seen later l f. by_found later result seen f
  where
    by_found : (later : Handed) (result : Found) (seen : Seen) → IsFoundIn v.sets later parent name result → AsksWell v.sets later (mkdir_found v parent name mode drawn result seen)
    by_found later (found.Item set gfid kind) seen f = tt
    by_found later found.Absent seen f = births_asks v parent name mode drawn (sets_from v 1) later new some (below_from v.sets 1) f
    by_found later (found.Io error) seen f = tt

pub create_ends : (v : Volume) (handed : Handed) (parent : Gfid) (name : List ℕ) (mode : ℕ) (drawn : Gfid) (hashed : ℕ) → IsNew parent name mode drawn → hashed < v.sets → EndsWell v.sets handed parent name (create_found v parent name mode drawn hashed)
create_ends v handed parent name mode drawn hashed new h = λ result seen later l f. by_found later result seen f
  where
    by_found : (later : Handed) (result : Found) (seen : Seen) → IsFoundIn v.sets later parent name result → AsksWell v.sets later (create_found v parent name mode drawn hashed result seen)
    by_found later (found.Item set gfid kind) seen f = tt
    by_found later found.Absent seen f = change_asks v.sets later hashed _ 0 (op.AddName parent (item_of name drawn kind.File) mode None) _ _ h f
        (λ bounds. (one_few (names_cell parent) new.parent_is, omega arith, (new.parent_is, (new.name_is, new.drawn_is, refl), new.mode_is, tt), refl)) (λ reply number done. (h, λ bounds. new.drawn_is))
    by_found later (found.Io error) seen f = tt

-- ---- unlink and rmdir

pub unlink_ends : (v : Volume) (handed : Handed) (parent : Gfid) (name : List ℕ) (hashed : ℕ) → IsGfid parent → IsItemName name → hashed < v.sets → EndsWell v.sets handed parent name (unlink_found v parent name hashed)
unlink_ends v handed parent name hashed g short h = λ result seen later l f. by_found later result seen f
  where
    by_found : (later : Handed) (result : Found) (seen : Seen) → IsFoundIn v.sets later parent name result → AsksWell v.sets later (unlink_found v parent name hashed result seen)
    by_found later (found.Item set gfid kind) seen f =
        if_asks v.sets later _ _ (is_directory kind) (λ dir. tt)
        (λ file. change_asks v.sets later set _ 0 (op.DropName parent name) _ _ f.0 (file_by later parent name set gfid kind f.1 file)
        (λ bounds. (one_few (names_cell parent) g, omega arith, (g, short), refl)) (λ reply number done. drops_link_asks v.sets _ parent name hashed number seen.has_link g short h))
    by_found later found.Absent seen f = tt
    by_found later (found.Io error) seen f = tt

-- every set but those in the list showed the directory empty
abbrev EmptyBut : ℕ → Handed → Gfid → List ℕ → Type 0
EmptyBut n handed dir sets = (other : ℕ) → other < n → times other sets ≡ 0 → SawEmpty handed dir other

empty_push_by : (n : ℕ) (a b : Handed) (dir : Gfid) (set other : ℕ) (sets : List ℕ) (c : Bool) → (set == other) ≡ c → Later a b → SawEmpty b dir set → (times other (set ∷ sets) ≡ 0 → SawEmpty a dir other) → times other sets ≡ 0 → SawEmpty b dir other
empty_push_by n a b dir set other sets true e l s before t = subst (λ (one : ℕ). SawEmpty b dir one) (eqb-true set other e) s
empty_push_by n a b dir set other sets false e l s before t = empty_later a b dir other l (before (rw e t))

-- a directory of the name was seen, and the hold was extended by it
pub record SawDir (handed : Handed) (parent : Gfid) (name : List ℕ) (gfid : Gfid) : Type 0 where
  pub set : ℕ
  pub saw : SawName handed parent name set gfid kind.Dir
  pub held : WasHeld handed gfid

dir_later : (a b : Handed) (parent : Gfid) (name : List ℕ) (gfid : Gfid) → Later a b → SawDir a parent name gfid → SawDir b parent name gfid
dir_later a b parent name gfid l s = record { set = s.set; saw = name_later a b parent name s.set gfid kind.Dir l s.saw; held = l.held gfid s.held }

dir_known : (handed : Handed) (parent : Gfid) (name : List ℕ) (gfid : Gfid) → SawDir handed parent name gfid → IsKnown handed gfid
dir_known handed parent name gfid s = saw_known handed parent name s.set gfid kind.Dir s.saw

empties_asks : (v : Volume) (parent : Gfid) (name : List ℕ) (gfid : Gfid) (sets : List ℕ) (handed : Handed) → IsGfid parent → IsItemName name → 1 ≤ v.sets → Below v.sets sets → SawDir handed parent name gfid → EmptyBut v.sets handed gfid sets
    → AsksWell v.sets handed (empties v parent name gfid sets)
empties_asks v parent name gfid [] handed g short some b saw empty =
    change_asks v.sets handed 0 _ 0 (op.DropDir parent name gfid) _ _ some (record { set = saw.set; saw = saw.saw; held = saw.held; empty = λ other i. empty other i refl })
    (λ bounds. (both_few parent gfid g (dir_known handed parent name gfid saw bounds), omega arith, (g, short, dir_known handed parent name gfid saw bounds), refl)) (λ reply number done. tt)
empties_asks v parent name gfid (set ∷ sets) handed g short some b saw empty =
    names_asks v.sets handed set gfid _ b.0 (dir_known handed parent name gfid saw)
    (λ later shown l seen. if_asks v.sets later _ _ (has_real_name shown.items) (λ full. tt)
    (λ none. empties_asks v parent name gfid sets later g short some b.1 (dir_later handed later parent name gfid l saw)
    (λ other i t. empty_push_by v.sets handed later gfid set other sets (set == other) refl l (record { shown = shown; saw = seen; none = none }) (empty other i) t)))

-- what was found and is a directory
pub dir_by : (handed : Handed) (dir : Gfid) (name : List ℕ) (set : ℕ) (gfid : Gfid) (k : Kind) → SawName handed dir name set gfid k → is_directory k ≡ true → SawName handed dir name set gfid kind.Dir
dir_by handed dir name set gfid kind.File s e = absurd cc
dir_by handed dir name set gfid kind.Dir s e = s
dir_by handed dir name set gfid kind.Link s e = absurd cc

-- every set is left at the beginning
all_left : (n other : ℕ) → other < n → times other (range_with_len 0 (n - 0)) ≡ 0 → ⊥
all_left n other i t =
    let once : times other (range_with_len 0 (n - 0)) ≡ 1 = times_range other 0 (n - 0) (omega arith) (omega arith) in
    let clash : 0 ≡ 1 = sym t ∙ once in
    omega arith

pub rmdir_ends : (v : Volume) (handed : Handed) (parent : Gfid) (name : List ℕ) → IsGfid parent → IsItemName name → 1 ≤ v.sets → EndsWell v.sets handed parent name (rmdir_found v parent name)
rmdir_ends v handed parent name g short some = λ result seen later l f. by_found later result seen f
  where
    by_found : (later : Handed) (result : Found) (seen : Seen) → IsFoundIn v.sets later parent name result → AsksWell v.sets later (rmdir_found v parent name result seen)
    by_found later (found.Item set gfid k) seen f =
        if_asks v.sets later _ _ (is_directory k)
        (λ dir. (
          saw_known later parent name set gfid k f.1,
          empties_asks v parent name gfid (sets_from v 0) (Held gfid ∷ later) g short some (below_from v.sets 0)
              (record { set = set; saw = name_later later (Held gfid ∷ later) parent name set gfid kind.Dir (later_push (Held gfid) later) (dir_by later parent name set gfid k f.1 dir); held = inl refl })
              (λ other i t. absurd (all_left v.sets other i t)),
        ))
        (λ file. tt)
    by_found later found.Absent seen f = tt
    by_found later (found.Io error) seen f = tt

-- ---- list

pub lists_asks : (n : ℕ) (dir : Gfid) (sets : List ℕ) (names : List Item) (place : Option ℕ) (handed : Handed) → IsGfid dir → Below n sets → AsksWell n handed (lists_from dir sets names place)
lists_asks n dir [] names place handed g b = tt
lists_asks n dir (set ∷ sets) names place handed g b =
    names_asks n handed set dir _ b.0 (λ bounds. g) (λ later shown l saw. kept_asks n later shown _ (λ kept. lists_asks n dir sets (merged names (real_items shown.items)) (Some shown.place) later g b.1))
