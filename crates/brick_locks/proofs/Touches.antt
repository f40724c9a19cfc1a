-- What a request has: its owner's key, its graph's, and those of its cells.
use Rattle.std.proofs.Common.{◌≡◌, ℕ, zero, suc, ◌<◌, Bool, true, false, not, ◌&&◌, ◌||◌, ◌==◌, cond, List, [], ◌∷◌, refl, sym, ap, ◌∙◌, arith, map, length, get_or}
use Rattle.std.specs.List.{list_any, filter}
use Rattle.fop_types.specs.declared.cells.Cell.{Cell}
use Rattle.fop_types.specs.declared.cells.Aspect.{Aspect}
use Rattle.fop_types.specs.declared.cells.Aspect.TheVariants.{Data, Meta, Entry}
use Rattle.fop_types.specs.Rank.{rank}
use Rattle.queue_index.specs.declared.key.Key.{Key}
use Rattle.queue_index.specs.Places.{is_key, has_key}
use Rattle.queue_index.specs.Queue.{touches}
use Rattle.queue_index.specs.Rivals.{meets_key, conflicts as by_keys}
use Rattle.brick_locks.specs.declared.owner.Owner.{Owner}
use Rattle.brick_locks.specs.declared.request.Request.{Request}
use Rattle.brick_locks.specs.Locks.{is_cell, has_cell, is_of}
use Rattle.brick_locks.specs.Keys.{owner_key, graph_key, cell_key, mode_of, keys_of}
use Rattle.brick_locks.specs.Walks.{bars, meets}
use Rattle.queue_index.proofs.Lists.{any_same, any_or, any_and, any_swap, any_map, none}

-- ---- the key at a place
get_map : {A B : Type 0} (f : A → B) (xs : List A) (j : ℕ) (d : A) (r : B) → j < length (map f xs) → r ≡ f (get_or xs j d) → r ≡ get_or (map f xs) j r
get_map f [] j d r low is = absurd (omega (arith, low))
get_map f (x ∷ xs) zero d r low is = is
get_map f (x ∷ xs) (suc j) d r low is = get_map f xs j d r (omega (arith, low)) is

pub key_at : (f : Cell → Key) (xs ys : List Cell) (a j : ℕ) (o g : Key) (d : Cell) (r : Key) → a ≡ suc (suc j) → a < length (o ∷ g ∷ map f xs) → ys ≡ xs → r ≡ f (get_or ys j d) → r ≡ get_or (o ∷ g ∷ map f xs) a r
key_at f xs ys a j o g d r at low same is = get_map f xs j d r (omega (arith, at, low)) (is ∙ ap (λ (l : List Cell). f (get_or l j d)) same) ∙ ap (λ (n : ℕ). get_or (o ∷ g ∷ map f xs) n r) (sym at)

-- ---- no two sorts of keys meet
not_three : (a : Aspect) → (3 == rank a) ≡ false
not_three Data = refl
not_three Meta = refl
not_three Entry = refl

not_four : (a : Aspect) → (4 == rank a) ≡ false
not_four Data = refl
not_four Meta = refl
not_four Entry = refl

three_not : (a : Aspect) → (rank a == 3) ≡ false
three_not Data = refl
three_not Meta = refl
three_not Entry = refl

four_not : (a : Aspect) → (rank a == 4) ≡ false
four_not Data = refl
four_not Meta = refl
four_not Entry = refl

and_true : (a : Bool) → (a && true) ≡ a
and_true true = refl
and_true false = refl

or_false : (a : Bool) → (a || false) ≡ a
or_false true = refl
or_false false = refl

owner_cells : (o : Owner) (together : Bool) (cs : List Cell) → has_key (owner_key o) (map (λ c. cell_key c together) cs) ≡ false
owner_cells o together [] = refl
owner_cells o together (c ∷ cs) = ap (λ (b : Bool). (b && ((o.graph == c.gfid.hi) && ((o.call == c.gfid.lo) && (2 == mode_of together)))) || has_key (owner_key o) (map (λ c. cell_key c together) cs)) (not_three c.aspect) ∙ owner_cells o together cs

graph_cells : (g : ℕ) (together : Bool) (cs : List Cell) → has_key (graph_key g) (map (λ c. cell_key c together) cs) ≡ false
graph_cells g together [] = refl
graph_cells g together (c ∷ cs) = ap (λ (b : Bool). (b && ((g == c.gfid.hi) && ((0 == c.gfid.lo) && (2 == mode_of together)))) || has_key (graph_key g) (map (λ c. cell_key c together) cs)) (not_four c.aspect) ∙ graph_cells g together cs

pub touches_owner : (o : Owner) (r : Request) → touches keys_of (owner_key o) r ≡ is_of o r
touches_owner o r =
    ap (λ (b : Bool). is_key (owner_key o) (owner_key r.owner) || b) (owner_cells o r.shared r.cells)
    ∙ or_false (is_key (owner_key o) (owner_key r.owner))
    ∙ ap (λ (b : Bool). (o.graph == r.owner.graph) && b) (and_true (o.call == r.owner.call))

pub touches_graph : (g : ℕ) (r : Request) → touches keys_of (graph_key g) r ≡ (g == r.owner.graph)
touches_graph g r =
    ap (λ (b : Bool). is_key (graph_key g) (graph_key r.owner.graph) || b) (graph_cells g r.shared r.cells)
    ∙ or_false (is_key (graph_key g) (graph_key r.owner.graph))
    ∙ and_true (g == r.owner.graph)

abbrev pub same_mode : Bool → Bool → Bool
same_mode a b = mode_of a == mode_of b

four_turn : (r h l m : Bool) → (r && (h && (l && m))) ≡ (((h && l) && r) && m)
four_turn true true true m = refl
four_turn true true false m = refl
four_turn true false l m = refl
four_turn false true true m = refl
four_turn false true false m = refl
four_turn false false l m = refl

cell_cells : (c : Cell) (a b : Bool) (cs : List Cell) → has_key (cell_key c a) (map (λ d. cell_key d b) cs) ≡ (list_any (is_cell c) cs && same_mode a b)
cell_cells c a b cs =
    any_map (is_key (cell_key c a)) (λ d. cell_key d b) cs
    ∙ any_same (λ d. is_key (cell_key c a) (cell_key d b)) (λ d. is_cell c d && same_mode a b) cs (λ d. four_turn (rank c.aspect == rank d.aspect) (c.gfid.hi == d.gfid.hi) (c.gfid.lo == d.gfid.lo) (same_mode a b))
    ∙ any_and (is_cell c) (same_mode a b) cs

pub touches_cell : (c : Cell) (a : Bool) (r : Request) → touches keys_of (cell_key c a) r ≡ (has_cell r c && same_mode a r.shared)
touches_cell c a r =
    ap (λ (b : Bool). (b && ((c.gfid.hi == r.owner.graph) && ((c.gfid.lo == r.owner.call) && (mode_of a == 2)))) || (is_key (cell_key c a) (graph_key r.owner.graph) || has_key (cell_key c a) (map (λ d. cell_key d r.shared) r.cells))) (three_not c.aspect)
    ∙ ap (λ (b : Bool). (b && ((c.gfid.hi == r.owner.graph) && ((c.gfid.lo == 0) && (mode_of a == 2)))) || has_key (cell_key c a) (map (λ d. cell_key d r.shared) r.cells)) (four_not c.aspect)
    ∙ cell_cells c a r.shared r.cells

-- ---- the exclusive ones, and the shared ones where the request is exclusive
two_modes : (h together s : Bool) → ((h && same_mode false s) || (not together && (h && same_mode true s))) ≡ (h && not (together && s))
two_modes true true true = refl
two_modes true true false = refl
two_modes true false true = refl
two_modes true false false = refl
two_modes false true s = refl
two_modes false false s = refl

pub bars_is : (c : Cell) (together : Bool) (s : Request) → (touches keys_of (cell_key c false) s || (not together && touches keys_of (cell_key c true) s)) ≡ bars c together s
bars_is c together s =
    ap (λ (b : Bool). b || (not together && touches keys_of (cell_key c true) s)) (touches_cell c false s)
    ∙ ap (λ (b : Bool). (has_cell s c && same_mode false s.shared) || (not together && b)) (touches_cell c true s)
    ∙ two_modes (has_cell s c) together s.shared

any_when : {X : Type 0} (b : Bool) (p : X → Bool) (xs : List X) → list_any (λ x. b && p x) xs ≡ (b && list_any p xs)
any_when true p xs = refl
any_when false p xs = none xs

any_bars : (c : Cell) (together : Bool) (rs : List Request) → list_any (bars c together) rs ≡ (list_any (touches keys_of (cell_key c false)) rs || (not together && list_any (touches keys_of (cell_key c true)) rs))
any_bars c together rs =
    sym (any_same (λ s. touches keys_of (cell_key c false) s || (not together && touches keys_of (cell_key c true) s)) (bars c together) rs (bars_is c together))
    ∙ any_or (touches keys_of (cell_key c false)) (λ s. not together && touches keys_of (cell_key c true) s) rs
    ∙ ap (λ (b : Bool). list_any (touches keys_of (cell_key c false)) rs || b) (any_when (not together) (touches keys_of (cell_key c true)) rs)

pub barred_exclusive : (c : Cell) (together : Bool) (k : Key) (rs : List Request) → k ≡ cell_key c false → true ≡ list_any (touches keys_of k) rs → true ≡ list_any (bars c together) rs
barred_exclusive c together k rs is h = sym (any_bars c together rs ∙ ap (λ (b : Bool). b || (not together && list_any (touches keys_of (cell_key c true)) rs)) (ap (λ (t : Key). list_any (touches keys_of t) rs) (sym is) ∙ sym h))

pub barred_none : (c : Cell) (together : Bool) (k : Key) (rs : List Request) → k ≡ cell_key c false → false ≡ list_any (touches keys_of k) rs → together ≡ true → false ≡ list_any (bars c together) rs
barred_none c together k rs is h t =
    sym (any_bars c together rs
    ∙ ap (λ (b : Bool). b || (not together && list_any (touches keys_of (cell_key c true)) rs)) (ap (λ (t : Key). list_any (touches keys_of t) rs) (sym is) ∙ sym h)
    ∙ ap (λ (b : Bool). not b && list_any (touches keys_of (cell_key c true)) rs) t)

pub barred_shared : (c : Cell) (together b : Bool) (k l : Key) (rs : List Request) → k ≡ cell_key c false → l ≡ cell_key c true → false ≡ list_any (touches keys_of k) rs → together ≡ false → b ≡ list_any (touches keys_of l) rs → b ≡ list_any (bars c together) rs
barred_shared c together b k l rs is js h t e =
    e ∙ ap (λ (t : Key). list_any (touches keys_of t) rs) js ∙
    sym (any_bars c together rs
    ∙ ap (λ (b : Bool). b || (not together && list_any (touches keys_of (cell_key c true)) rs)) (ap (λ (t : Key). list_any (touches keys_of t) rs) (sym is) ∙ sym h)
    ∙ ap (λ (b : Bool). not b && list_any (touches keys_of (cell_key c true)) rs) t)

pub any_meets : (cs : List Cell) (together : Bool) (rs : List Request) → list_any (λ c. list_any (bars c together) rs) cs ≡ list_any (meets cs together) rs
any_meets cs together rs =
    any_swap (λ c s. bars c together s) cs rs
    ∙ any_same (λ s. list_any (λ c. bars c together s) cs) (meets cs together) rs (λ s. any_and (has_cell s) (not (together && s.shared)) cs)

-- ---- which requests an owner or a graph has
pub any_known : (o : Owner) (k : Key) (rs : List Request) → k ≡ owner_key o → list_any (touches keys_of k) rs ≡ list_any (is_of o) rs
any_known o k rs is = ap (λ (t : Key). list_any (touches keys_of t) rs) is ∙ any_same (touches keys_of (owner_key o)) (is_of o) rs (touches_owner o)

-- ---- two requests conflict by their keys exactly where they conflict
on_mode : (b : Bool) (c : Cell) (s : Request) → meets_key keys_of (cell_key c b) s ≡ bars c b s
on_mode true c s = bars_is c true s
on_mode false c s = ap (λ (x : Bool). touches keys_of (cell_key c false) s || x) (or_false (touches keys_of (cell_key c true) s)) ∙ bars_is c false s

pub keys_meet : (r s : Request) → by_keys keys_of r s ≡ meets r.cells r.shared s
keys_meet r s =
    any_map (λ k. meets_key keys_of k s) (λ c. cell_key c r.shared) r.cells
    ∙ any_same (λ c. meets_key keys_of (cell_key c r.shared) s) (λ c. bars c r.shared s) r.cells (λ c. on_mode r.shared c s)
    ∙ any_and (has_cell s) (not (r.shared && s.shared)) r.cells
