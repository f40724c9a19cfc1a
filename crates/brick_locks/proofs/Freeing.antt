-- Where the requests of a key leave: which numbers are found, who is gone, and who is freed.
use Rattle.std.proofs.Common.{◌≡◌, ℕ, Bool, true, false, not, ◌&&◌, ◌||◌, ◌==◌, nat_lt, cond, List, [], ◌∷◌, ◌++◌, Option, Some, None, refl, sym, ap, ◌∙◌, subst, map}
use Rattle.std.specs.List.{list_any, filter, AllByRecursion}
use Rattle.std.specs.Ordering.{nat_cmp, is_eq}
use Rattle.std.specs.Map.{keys_of as keys_in}
use Rattle.std.specs.List.Sorted.{IsStrictlySortedBy}
use Rattle.std.specs.BTreeSet as sorted
use Rattle.std.specs.BTreeSet.{BTreeSet}
use Rattle.std.specs.Cmp.{nat_eq_equiv}
use Rattle.std.proofs.lemmas.List.Elements.{filter_agree}
use Rattle.fop_types.specs.declared.cells.Cell.{Cell}
use Rattle.fop_types.specs.Rank.{rank}
use Rattle.queue_index.specs.declared.key.Key.{Key}
use Rattle.queue_index.specs.Queue.{item_at, items, numbers, before, touches, touching, passes, is_at_number}
use Rattle.queue_index.proofs.Entries.{founds}
use Rattle.brick_locks.specs.declared.owner.Owner.{Owner}
use Rattle.brick_locks.specs.declared.request.Request.{Request}
use Rattle.brick_locks.specs.Locks.{is_cell, has_cell, conflicts, is_kept_by, is_of, held, waiting, is_freed, freed, gone, owners, holds}
use Rattle.brick_locks.specs.Keys.{owner_key, graph_key, keys_of}
use Rattle.brick_locks.specs.Leaving.{other_owner, other_graph}
use Rattle.brick_locks.specs.Walks.{meets, waits, picked}
use Rattle.queue_index.specs.Next.{is_next}
use Rattle.queue_index.proofs.Stopping.{keeps, kept_is_next, next_is_kept}
use Rattle.queue_index.proofs.Lists.{any_same, any_swap, any_map, any_filter, none, filter_filter, filter_all, filter_members, filter_map_is}
use Rattle.brick_locks.proofs.Touches.{touches_owner, touches_graph, keys_meet}
use Rattle.queue_index.proofs.Numbers.{any_numbers, number_in, set_is}
use Rattle.brick_locks.proofs.Numbered.{held_is, waiting_is, freed_is, gone_is, picked_is}
use Rattle.brick_locks.proofs.Picked.{items_there, picked_left}

-- ---- what stays
in_touching : (k : Key) (es fs : List (ℕ × Request)) → IsStrictlySortedBy nat_cmp (keys_in es) → AllByRecursion (λ e. item_at e.0 es ≡ Some e.1) fs → AllByRecursion (λ e. not (list_any (λ n. is_eq (nat_cmp e.0 n)) (numbers (touching keys_of k es))) ≡ not (touches keys_of k e.1)) fs
in_touching k es [] s h = tt
in_touching k es (e ∷ fs) s h = (ap not (number_in (λ f. touches keys_of k f.1) e.0 es s ∙ ap (λ (o : Option Request). passes (λ _ r. touches keys_of k r) e.0 o) h.0), in_touching k es fs s h.1)

pub left_is : (k : Key) (es fs : List (ℕ × Request)) (ns : List ℕ) → IsStrictlySortedBy nat_cmp (keys_in es) → ns ≡ numbers (touching keys_of k es) → fs ≡ filter (λ e. not (list_any (λ n. is_eq (nat_cmp e.0 n)) ns)) es → fs ≡ filter (λ e. not (touches keys_of k e.1)) es
left_is k es fs ns s all is =
    is
    ∙ ap (λ (l : List ℕ). filter (λ e. not (list_any (λ n. is_eq (nat_cmp e.0 n)) l)) es) all
    ∙ filter_members (λ e. not (list_any (λ n. is_eq (nat_cmp e.0 n)) (numbers (touching keys_of k es)))) (λ e. not (touches keys_of k e.1)) es (in_touching k es es s (founds es s))

pub items_left : (k : Key) (es fs : List (ℕ × Request)) → fs ≡ filter (λ e. not (touches keys_of k e.1)) es → items fs ≡ filter (λ r. not (touches keys_of k r)) (items es)
items_left k es fs is = ap (λ (l : List (ℕ × Request)). items l) is ∙ sym (filter_map_is (λ r. not (touches keys_of k r)) (λ e. e.1) es)

-- ---- who is gone
not_not : (b : Bool) → not (not b) ≡ b
not_not true = refl
not_not false = refl

pub gone_are : (k : Key) (es : List (ℕ × Request)) (ns : List ℕ) (os : List Owner) → IsStrictlySortedBy nat_cmp (keys_in es) → ns ≡ numbers (touching keys_of k es) → os ≡ picked (waits es) es ns → os ≡ owners (gone (λ r. not (touches keys_of k r)) (items es))
gone_are k es ns os s all is =
    is
    ∙ ap (λ (l : List ℕ). picked (waits es) es l) all
    ∙ picked_is (waits es) (λ e. touches keys_of k e.1) es es (founds es s)
    ∙ ap (λ (l : List (ℕ × Request)). owners (items l)) (filter_agree (λ e. touches keys_of k e.1 && waits es e.0 e.1) (λ e. not (not (touches keys_of k e.1)) && waits es e.0 e.1) (λ e. ap (λ (b : Bool). b && waits es e.0 e.1) (sym (not_not (touches keys_of k e.1)))) es)
    ∙ ap (λ (l : List Request). owners l) (sym (gone_is (λ r. not (touches keys_of k r)) es s))

numbers_all : (es : List (ℕ × Request)) → numbers es ≡ numbers (filter (λ _. true) es)
numbers_all es = ap (λ (l : List (ℕ × Request)). numbers l) (sym (filter_all es))

pub all_gone : (es : List (ℕ × Request)) (ns : List ℕ) (os : List Owner) → IsStrictlySortedBy nat_cmp (keys_in es) → ns ≡ numbers es → os ≡ picked (waits es) es ns → os ≡ owners (waiting (items es))
all_gone es ns os s all is =
    is
    ∙ ap (λ (l : List ℕ). picked (waits es) es l) (all ∙ numbers_all es)
    ∙ picked_is (waits es) (λ _. true) es es (founds es s)
    ∙ ap (λ (l : List Request). owners l) (sym (waiting_is es s))

-- ---- who is freed: one that waited and waits no longer conflicts with one that left
pub eq_flip : (a b : ℕ) → (a == b) ≡ (b == a)
eq_flip a b = nat_eq_equiv.symm a b

cell_flip : (a b : Cell) → is_cell a b ≡ is_cell b a
cell_flip a b =
    ap (λ (t : Bool). (t && (a.gfid.lo == b.gfid.lo)) && (rank a.aspect == rank b.aspect)) (eq_flip a.gfid.hi b.gfid.hi)
    ∙ ap (λ (t : Bool). ((b.gfid.hi == a.gfid.hi) && t) && (rank a.aspect == rank b.aspect)) (eq_flip a.gfid.lo b.gfid.lo)
    ∙ ap (λ (t : Bool). ((b.gfid.hi == a.gfid.hi) && (b.gfid.lo == a.gfid.lo)) && t) (eq_flip (rank a.aspect) (rank b.aspect))

and_flip : (a b : Bool) → (a && b) ≡ (b && a)
and_flip true true = refl
and_flip true false = refl
and_flip false true = refl
and_flip false false = refl

conflict_flip : (r s : Request) → conflicts r s ≡ meets s.cells s.shared r
conflict_flip r s =
    ap (λ (b : Bool). b && not (r.shared && s.shared)) (any_swap (λ c d. is_cell c d) r.cells s.cells ∙ any_same (λ d. list_any (λ c. is_cell c d) r.cells) (has_cell r) s.cells (λ d. any_same (λ c. is_cell c d) (is_cell d) r.cells (λ c. cell_flip c d)))
    ∙ ap (λ (b : Bool). list_any (has_cell r) s.cells && not b) (and_flip r.shared s.shared)

-- what stood before a number and stays
before_left : (st : Request → Bool) (n : ℕ) (es : List (ℕ × Request)) → items (before n (filter (λ e. st e.1) es)) ≡ filter st (items (before n es))
before_left st n es =
    ap (λ (l : List (ℕ × Request)). items l) (filter_filter (λ e. nat_lt e.0 n) (λ e. st e.1) es ∙ filter_agree (λ e. st e.1 && nat_lt e.0 n) (λ e. nat_lt e.0 n && st e.1) (λ e. and_flip (st e.1) (nat_lt e.0 n)) es ∙ sym (filter_filter (λ e. st e.1) (λ e. nat_lt e.0 n) es))
    ∙ sym (filter_map_is st (λ e. e.1) (before n es))

-- ---- what conflicts by its keys with one before a number
kept_by_keys : (q : ℕ) (r : Request) (es : List (ℕ × Request)) → list_any (keeps keys_of q r) es ≡ is_kept_by (items (before q es)) r
kept_by_keys q r es =
    any_same (keeps keys_of q r) (λ e. nat_lt e.0 q && conflicts r e.1) es (λ e. ap (λ (b : Bool). nat_lt e.0 q && b) (keys_meet e.1 r ∙ sym (conflict_flip r e.1)))
    ∙ sym (any_map (conflicts r) (λ (e : ℕ × Request). e.1) (before q es) ∙ any_filter (λ e. conflicts r e.1) (λ e. nat_lt e.0 q) es)

kept_by_left : (st : Request → Bool) (q : ℕ) (r : Request) (es : List (ℕ × Request)) → list_any (λ e. st e.1 && keeps keys_of q r e) es ≡ is_kept_by (filter st (items (before q es))) r
kept_by_left st q r es =
    sym (any_filter (keeps keys_of q r) (λ e. st e.1) es)
    ∙ kept_by_keys q r (filter (λ e. st e.1) es)
    ∙ ap (λ (l : List Request). is_kept_by l r) (before_left st q es)

comes_next : (k : Key) (es : List (ℕ × Request)) (n : ℕ) (r : Request) → IsStrictlySortedBy nat_cmp (keys_in es) → is_kept_by (items (before n es)) r ≡ true → is_kept_by (filter (λ s. not (touches keys_of k s)) (items (before n es))) r ≡ false → is_next keys_of k es n r ≡ true
comes_next k es n r s kept free = kept_is_next keys_of k n r es s (kept_by_keys n r es ∙ kept) (kept_by_left (λ s. not (touches keys_of k s)) n r es ∙ free)

-- ---- an entry among those that stay
choose : (st nxt wt w2 : Bool) → (nxt ≡ true → wt ≡ true) → (wt ≡ true → w2 ≡ false → nxt ≡ true) → ((nxt && st) && not w2) ≡ (st && (wt && not w2))
choose true true wt w2 h k = ap (λ (b : Bool). b && not w2) (sym (h refl))
choose false true wt w2 h k = refl
choose true false true true h k = refl
choose true false true false h k = absurd (let t = k refl refl in cc)
choose true false false w2 h k = refl
choose false false wt w2 h k = refl

pub freed_are : (k : Key) (es fs : List (ℕ × Request)) (ns : List ℕ) (os : List Owner) → IsStrictlySortedBy nat_cmp (keys_in es) → fs ≡ filter (λ e. not (touches keys_of k e.1)) es → ns ≡ numbers (filter (λ e. is_next keys_of k es e.0 e.1) es) → os ≡ picked (λ n r. not (waits fs n r)) fs ns → os ≡ owners (freed (λ r. not (touches keys_of k r)) (items es))
freed_are k es fs ns os s left found is =
    let stays = λ (r : Request). not (touches keys_of k r) in
    let st = λ (e : ℕ × Request). stays e.1 in
    let w = λ (e : ℕ × Request). is_next keys_of k es e.0 e.1 in
    is
    ∙ ap (λ (l : List ℕ). picked (λ n r. not (waits fs n r)) fs l) found
    ∙ ap (λ (l : List (ℕ × Request)). picked (λ n r. not (waits l n r)) l (numbers (filter w es))) left
    ∙ picked_left (λ n r. not (waits (filter st es) n r)) w st (filter st es) es (items_there st es s)
    ∙ ap (λ (l : List (ℕ × Request)). owners (items l)) (filter_agree (λ e. (w e && st e) && not (waits (filter st es) e.0 e.1)) (λ e. is_freed stays (items (before e.0 es)) e.1) (λ e.
    ap (λ (l : List Request). (w e && st e) && not (is_kept_by l e.1)) (before_left stays e.0 es)
    ∙ choose (st e) (w e) (waits es e.0 e.1) (is_kept_by (filter stays (items (before e.0 es))) e.1) (λ h. sym (kept_by_keys e.0 e.1 es) ∙ next_is_kept keys_of k e.0 e.1 es h) (comes_next k es e.0 e.1 s)) es)
    ∙ ap (λ (l : List Request). owners l) (sym (freed_is stays es s))

-- ---- whether an owner holds
pub holds_is : (o : Owner) (k : Key) (es : List (ℕ × Request)) (ns : List ℕ) (b : Bool) → k ≡ owner_key o → IsStrictlySortedBy nat_cmp (keys_in es) → ns ≡ numbers (touching keys_of k es) → b ≡ list_any (is_at_number (λ n r. not (waits es n r)) es) ns → b ≡ holds o (items es)
holds_is o k es ns b key s all is =
    is
    ∙ ap (list_any (is_at_number (λ n r. not (waits es n r)) es)) all
    ∙ any_numbers (λ n r. not (waits es n r)) (λ e. touches keys_of k e.1) es es (founds es s)
    ∙ any_same (λ e. touches keys_of k e.1 && not (waits es e.0 e.1)) (λ e. not (waits es e.0 e.1) && is_of o e.1) es (λ e. ap (λ (j : Key). touches keys_of j e.1 && not (waits es e.0 e.1)) key ∙ ap (λ (b : Bool). b && not (waits es e.0 e.1)) (touches_owner o e.1) ∙ and_flip (is_of o e.1) (not (waits es e.0 e.1)))
    ∙ sym (ap (list_any (is_of o)) (held_is es s) ∙ any_map (is_of o) (λ (e : ℕ × Request). e.1) (filter (λ e. not (waits es e.0 e.1)) es) ∙ any_filter (λ e. is_of o e.1) (λ e. not (waits es e.0 e.1)) es)

-- ---- the two keys by which requests leave
pub owner_stays : (o : Owner) (k : Key) → k ≡ owner_key o → ◌≡◌ {A = Request → Bool} (λ r. not (touches keys_of k r)) (other_owner o)
owner_stays o k is = λ i r. (ap (λ (j : Key). not (touches keys_of j r)) is ∙ ap not (touches_owner o r)) i

pub graph_stays : (g : ℕ) (k : Key) → k ≡ graph_key g → ◌≡◌ {A = Request → Bool} (λ r. not (touches keys_of k r)) (other_graph g)
graph_stays g k is = λ i r. (ap (λ (j : Key). not (touches keys_of j r)) is ∙ ap not (touches_graph g r)) i
