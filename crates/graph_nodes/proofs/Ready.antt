-- The ready tasks of a mount, as they are counted and looked up, and what leaves them as they are.
use Rattle.std.proofs.Common.{◌≡◌, refl, sym, ap, subst, ◌∙◌, arith, ne_eqb}
use Rattle.std.proofs.lemmas.List.{length-append, length-map}
use Rattle.std.proofs.lemmas.List.Elements.{recursion_from_All}
use Rattle.std.specs.Prelude.{ℕ, zero, suc, ◌<◌, ◌≤◌, ◌+◌, ◌-◌, ◌==◌, cond, min, Bool, true, false, ◌&&◌, ◌||◌, List, [], ◌∷◌, ◌++◌, map, length, slice_get, None, Some}
use Rattle.std.specs.BTreeMap.{BTreeMap, get, insert_entry, is_at}
use Rattle.std.specs.List.{All, AllByRecursion, list_any}
use Rattle.std.specs.List.Sorted.{IsStrictlySortedBy}
use Rattle.std.specs.Map.{lookup, keys_of, set_value, values_of}
use Rattle.std.specs.Ordering.{nat_cmp, is_eq, is_lt, match_ordering}
use Rattle.std.specs.declared.cmp.Ordering.{Ordering}
use Rattle.std.specs.declared.cmp.Ordering.TheVariants.{Less, Equal, Greater}
use Rattle.graph_nodes.specs.declared.graph.Graph.{Graph}
use Rattle.graph_nodes.specs.Ready.{task_of, tasks_of, tasks_in, has_task}
use Rattle.graph_nodes.proofs.Together.{is_same, at_is}

-- ---- how many

-- how many tasks are ready in these graphs
abbrev pub many_in : List Graph → ℕ
many_in [] = 0
many_in (g ∷ gs) = length g.cx.ready.keys + many_in gs

pub many_are : (es : List (ℕ × Graph)) → length (tasks_in es) ≡ many_in (values_of es)
many_are [] = refl
many_are (e ∷ es) =
    let both : length (tasks_of e.0 e.1 ++ tasks_in es) ≡ length (tasks_of e.0 e.1) + length (tasks_in es) = length-append (tasks_of e.0 e.1) (tasks_in es) in
    let first : length (tasks_of e.0 e.1) ≡ length e.1.cx.ready.keys = length-map e.1.cx.ready.keys (task_of e.0) in
    let rest = many_are es in
    omega (arith, both, first, rest)

-- one graph more was counted
pub counted : (count keys rest all : ℕ) → min (count + (keys + rest)) 4294967295 ≡ all → min (min (count + min keys 4294967295) 4294967295 + rest) 4294967295 ≡ all
counted count keys rest all so_far = omega (arith, so_far)

pub all_counted : (es : List (ℕ × Graph)) (tasks : List (ℕ × ℕ)) (count : ℕ) → tasks ≡ tasks_in es → count ≤ 4294967295 → min (count + 0) 4294967295 ≡ min (many_in (values_of es)) 4294967295 → count ≡ min (length tasks) 4294967295
all_counted es tasks count is low so_far =
    let long = ap length is in
    let many = many_are es in
    omega (arith, long, many, low, so_far)

-- ---- by place

found_in : (f : ℕ → ℕ × ℕ) (keys : List ℕ) (rest : List (ℕ × ℕ)) (at task : ℕ) → slice_get keys at ≡ Some task → slice_get (map f keys ++ rest) at ≡ Some (f task)
found_in f [] rest at task is = absurd cc
found_in f (k ∷ ks) rest zero task is = let e : k ≡ task = cc in ap (λ (x : ℕ). Some (f x)) e
found_in f (k ∷ ks) rest (suc at) task is = found_in f ks rest at task is

past_all : (f : ℕ → ℕ × ℕ) (keys : List ℕ) (rest : List (ℕ × ℕ)) (at : ℕ) → slice_get keys at ≡ None → (length keys ≤ at) × (slice_get (map f keys ++ rest) at ≡ slice_get rest (at - length keys))
past_all f [] rest at none = (omega arith, ap (slice_get rest) (omega arith))
past_all f (k ∷ ks) rest zero none = absurd cc
past_all f (k ∷ ks) rest (suc at) none =
    let more = past_all f ks rest at none in
    let left : at - length ks ≡ suc at - suc (length ks) = omega arith in
    (omega (arith, more.0), more.1 ∙ ap (slice_get rest) left)

-- the graph has the task
pub task_found : (number : ℕ) (g : Graph) (es all : List (ℕ × Graph)) (at left task : ℕ) → slice_get (tasks_in ((number, g) ∷ es)) left ≡ slice_get (tasks_in all) at → slice_get g.cx.ready.keys left ≡ Some task → Some (number, task) ≡ slice_get (tasks_in all) at
task_found number g es all at left task so_far is = sym (found_in (task_of number) g.cx.ready.keys (tasks_in es) left task is) ∙ so_far

-- it has fewer tasks
pub task_past : (number : ℕ) (g : Graph) (es all : List (ℕ × Graph)) (at left : ℕ) → left ≤ 4294967295 → slice_get (tasks_in ((number, g) ∷ es)) left ≡ slice_get (tasks_in all) at → slice_get g.cx.ready.keys left ≡ None
    → slice_get (tasks_in es) (left - min (length g.cx.ready.keys) 4294967295) ≡ slice_get (tasks_in all) at
task_past number g es all at left low so_far none =
    let past = past_all (task_of number) g.cx.ready.keys (tasks_in es) left none in
    let long : left - min (length g.cx.ready.keys) 4294967295 ≡ left - length g.cx.ready.keys = omega (arith, past.0, low) in
    ap (slice_get (tasks_in es)) long ∙ sym past.1 ∙ so_far

-- ---- whether one is ready

not_below : (a b : ℕ) → is_lt (nat_cmp a b) ≡ false → b ≤ a
not_below a b h = grind (arith, h)

none_behind : (task last : ℕ) (keys : List ℕ) → AllByRecursion (λ (q : ℕ). is_lt (nat_cmp last q) ≡ false) keys → last < task → list_any (is_at (nat_cmp task)) keys ≡ false
none_behind task last [] all behind = refl
none_behind task last (k ∷ ks) all behind =
    let low : k ≤ last = not_below last k all.0 in
    let apart : is_at (nat_cmp task) k ≡ false = at_is task k ∙ ne_eqb task k (λ same. omega (arith, same, low, behind)) in
    ap (λ (b : Bool). b || list_any (is_at (nat_cmp task)) ks) apart ∙ none_behind task last ks all.1 behind

-- none is behind the last one
pub behind_last : (task last : ℕ) (keys : List ℕ) → All (λ (q : ℕ). is_lt (nat_cmp last q) ≡ false) keys → last < task → false ≡ list_any (is_at (nat_cmp task)) keys
behind_last task last keys all behind = sym (none_behind task last keys (recursion_from_All (λ (q : ℕ). is_lt (nat_cmp last q) ≡ false) keys all) behind)

pub none_ready : (task : ℕ) (keys : List ℕ) → (0 < length keys → ⊥) → false ≡ list_any (is_at (nat_cmp task)) keys
none_ready task [] none = refl
none_ready task (k ∷ ks) none = absurd (none (omega arith))

or_both : (a b c : Bool) → (a || (b || c)) ≡ ((a || b) || c)
or_both true b c = refl
or_both false b c = refl

or_none : (a b : Bool) → b ≡ false → (a || b) ≡ a
or_none true b none = refl
or_none false b none = none

-- of a graph, and of others
of_graph : (number other task : ℕ) (keys : List ℕ) (rest : List (ℕ × ℕ)) → (number == other) ≡ true → has_task (map (task_of other) keys ++ rest) number task ≡ (list_any (is_at (nat_cmp task)) keys || has_task rest number task)
of_graph number other task [] rest same = refl
of_graph number other task (k ∷ ks) rest same =
    let others : Bool = has_task (map (task_of other) ks ++ rest) number task in
    ap (λ (b : Bool). (b && (task == k)) || others) same
    ∙ ap (λ (b : Bool). b || others) (sym (at_is task k))
    ∙ ap (λ (b : Bool). is_at (nat_cmp task) k || b) (of_graph number other task ks rest same)
    ∙ or_both (is_at (nat_cmp task) k) (list_any (is_at (nat_cmp task)) ks) (has_task rest number task)

of_others : (number other task : ℕ) (keys : List ℕ) (rest : List (ℕ × ℕ)) → (number == other) ≡ false → has_task (map (task_of other) keys ++ rest) number task ≡ has_task rest number task
of_others number other task [] rest apart = refl
of_others number other task (k ∷ ks) rest apart =
    ap (λ (b : Bool). (b && (task == k)) || has_task (map (task_of other) ks ++ rest) number task) apart ∙ of_others number other task ks rest apart

pub no_graph : (number task : ℕ) (es : List (ℕ × Graph)) → lookup (is_at (nat_cmp number)) es ≡ None → has_task (tasks_in es) number task ≡ false
no_graph number task [] none = refl
no_graph number task (e ∷ es) none = by (is_at (nat_cmp number) e.0) refl none (λ later. no_graph number task es later) where
  by : (b : Bool) → is_at (nat_cmp number) e.0 ≡ b → cond b (Some e.1) (lookup (is_at (nat_cmp number)) es) ≡ None → (lookup (is_at (nat_cmp number)) es ≡ None → has_task (tasks_in es) number task ≡ false)
      → has_task (tasks_in (e ∷ es)) number task ≡ false
  by true is none rest = absurd cc
  by false is none rest = of_others number e.0 task e.1.cx.ready.keys (tasks_in es) (sym (at_is number e.0) ∙ is) ∙ rest none

none_after : (number task : ℕ) (es : List (ℕ × Graph)) → AllByRecursion (λ (k : ℕ). nat_cmp number k ≡ Less) (keys_of es) → has_task (tasks_in es) number task ≡ false
none_after number task [] all = refl
none_after number task (e ∷ es) all = of_others number e.0 task e.1.cx.ready.keys (tasks_in es) (sym (at_is number e.0) ∙ ap is_eq all.0) ∙ none_after number task es all.1

-- a task of a graph is among those of all graphs exactly where the graph has it, since each graph has its own number
pub ready_in : (number task : ℕ) (es : List (ℕ × Graph)) (g : Graph) → IsStrictlySortedBy nat_cmp (keys_of es) → lookup (is_at (nat_cmp number)) es ≡ Some g → has_task (tasks_in es) number task ≡ list_any (is_at (nat_cmp task)) g.cx.ready.keys
unfolding IsStrictlySortedBy
ready_in number task [] g sorted found = absurd cc
ready_in number task (e ∷ es) g sorted found = by (is_at (nat_cmp number) e.0) refl found (λ later. ready_in number task es g sorted.1 later) where
  by : (b : Bool) → is_at (nat_cmp number) e.0 ≡ b → cond b (Some e.1) (lookup (is_at (nat_cmp number)) es) ≡ Some g
      → (lookup (is_at (nat_cmp number)) es ≡ Some g → has_task (tasks_in es) number task ≡ list_any (is_at (nat_cmp task)) g.cx.ready.keys)
      → has_task (tasks_in (e ∷ es)) number task ≡ list_any (is_at (nat_cmp task)) g.cx.ready.keys
  by true is found rest =
      let this : e.1 ≡ g = cc in
      let same : e.0 ≡ number = sym (is_same number e.0 is) in
      let after : AllByRecursion (λ (k : ℕ). nat_cmp number k ≡ Less) (keys_of es) = subst (λ (n : ℕ). AllByRecursion (λ (k : ℕ). nat_cmp n k ≡ Less) (keys_of es)) same sorted.0 in
      of_graph number e.0 task e.1.cx.ready.keys (tasks_in es) (sym (at_is number e.0) ∙ is)
      ∙ or_none (list_any (is_at (nat_cmp task)) e.1.cx.ready.keys) (has_task (tasks_in es) number task) (none_after number task es after)
      ∙ ap (λ (x : Graph). list_any (is_at (nat_cmp task)) x.cx.ready.keys) this
  by false is found rest = of_others number e.0 task e.1.cx.ready.keys (tasks_in es) (sym (at_is number e.0) ∙ is) ∙ rest found

-- ---- a graph changes, but not which of its tasks are ready

tasks_kept : (n : ℕ) (es : List (ℕ × Graph)) (old new : Graph) → lookup (is_at (nat_cmp n)) es ≡ Some old → new.cx.ready.keys ≡ old.cx.ready.keys → tasks_in (set_value (is_at (nat_cmp n)) es new) ≡ tasks_in es
tasks_kept n [] old new found same = refl
tasks_kept n (e ∷ es) old new found same = by (is_at (nat_cmp n) e.0) found (λ later. tasks_kept n es old new later same) where
  by : (b : Bool) → cond b (Some e.1) (lookup (is_at (nat_cmp n)) es) ≡ Some old → (lookup (is_at (nat_cmp n)) es ≡ Some old → tasks_in (set_value (is_at (nat_cmp n)) es new) ≡ tasks_in es)
      → tasks_in (cond b ((e.0, new) ∷ es) (e ∷ set_value (is_at (nat_cmp n)) es new)) ≡ tasks_in (e ∷ es)
  by true found rest = let is : old ≡ e.1 = cc in ap (λ (ks : List ℕ). map (task_of e.0) ks ++ tasks_in es) (same ∙ ap (λ (g : Graph). g.cx.ready.keys) is)
  by false found rest = ap (λ (ts : List (ℕ × ℕ)). tasks_of e.0 e.1 ++ ts) (rest found)

pub called_tasks : (live : BTreeMap ℕ Graph) (written : List (ℕ × Graph)) (n : ℕ) (old new : Graph) → Some old ≡ get nat_cmp live n → written ≡ set_value (is_at (nat_cmp n)) live.entries new → new.cx.ready.keys ≡ old.cx.ready.keys
    → tasks_in written ≡ tasks_in live.entries
called_tasks live written n old new found is same = ap tasks_in is ∙ tasks_kept n live.entries old new (sym found) same

-- ---- a graph without ready tasks comes

tasks_put : (es : List (ℕ × Graph)) (n : ℕ) (g : Graph) → lookup (is_at (nat_cmp n)) es ≡ None → g.cx.ready.keys ≡ [] → tasks_in (insert_entry nat_cmp es n g) ≡ tasks_in es
tasks_put [] n g none idle = ap (λ (ks : List ℕ). map (task_of n) ks ++ []) idle
tasks_put (e ∷ es) n g none idle = by (nat_cmp n e.0) none (λ later. tasks_put es n g later idle) where
  by : (o : Ordering) → cond (is_eq o) (Some e.1) (lookup (is_at (nat_cmp n)) es) ≡ None → (lookup (is_at (nat_cmp n)) es ≡ None → tasks_in (insert_entry nat_cmp es n g) ≡ tasks_in es)
      → tasks_in (match_ordering o ((n, g) ∷ e ∷ es) ((e.0, g) ∷ es) (e ∷ insert_entry nat_cmp es n g)) ≡ tasks_in (e ∷ es)
  by Less none rest = ap (λ (ks : List ℕ). map (task_of n) ks ++ tasks_in (e ∷ es)) idle
  by Equal none rest = absurd cc
  by Greater none rest = ap (λ (ts : List (ℕ × ℕ)). tasks_of e.0 e.1 ++ ts) (rest none)

pub put_tasks : (live live_new : BTreeMap ℕ Graph) (n : ℕ) (g : Graph) → get nat_cmp live n ≡ None → live_new.entries ≡ insert_entry nat_cmp live.entries n g → g.cx.ready.keys ≡ [] → tasks_in live_new.entries ≡ tasks_in live.entries
put_tasks live live_new n g none put idle = ap tasks_in put ∙ tasks_put live.entries n g none idle
