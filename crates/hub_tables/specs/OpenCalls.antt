-- The calls of a hub by their numbers: the state of each that has no reply; those among them that wait for the calls of an older
-- graph; how many without a reply each graph has; how many calls were numbered, and gfids drawn; and the place of each reply in
-- the log. Ours.
use Rattle.std.specs.Prelude.{ℕ, zero, suc, ◌+◌, ◌-◌, ◌^◌, min, nat_le, Bool, List, [], ◌∷◌, ◌++◌, slice_get, slice_set, option_map, unwrap_or, Option, None, Some, if◌then◌else◌}
use Rattle.std.specs.BTreeMap.{insert_entry, is_at}
use Rattle.std.specs.BTreeSet.{insert_key}
use Rattle.std.specs.List.{filter}
use Rattle.std.specs.Map.{lookup, remove_entry, set_value}
use Rattle.std.specs.Set.{remove_key}
use Rattle.std.specs.Ordering.{nat_cmp}
use Rattle.fop_types.specs.declared.cells.Gfid.{Gfid}
use Rattle.hub_tables.specs.declared.calls.CallState.{CallState}

pub record CallsState : Type 0 where
  pub states : List (ℕ × CallState)
  pub parked : List ℕ
  pub by_graph : List (ℕ × ℕ)
  pub submitted : ℕ
  pub drawn : ℕ
  pub replies : List (Option ℕ)

abbrev pub no_calls : CallsState
no_calls = record { states = []; parked = []; by_graph = []; submitted = 0; drawn = 0; replies = [] }

-- ---- calls without a reply

abbrev pub call_at : CallsState → ℕ → Option CallState
call_at c call = lookup (is_at (nat_cmp call)) c.states

abbrev pub count_of : CallsState → ℕ → ℕ
count_of c graph = unwrap_or (lookup (is_at (nat_cmp graph)) c.by_graph) 0

-- a call more, which is of its graph
abbrev pub with_call : CallsState → ℕ → CallState → CallsState
with_call c call state = record c {
  states = insert_entry nat_cmp c.states call state;
  by_graph = insert_entry nat_cmp c.by_graph state.graph (min (count_of c state.graph + 1) (2 ^ 32 - 1));
}

abbrev pub put_state : List (ℕ × CallState) → ℕ → Option CallState → List (ℕ × CallState)
put_state states call None = states
put_state states call (Some state) = set_value (is_at (nat_cmp call)) states state

-- a call, if it is there, has changed so
abbrev pub with_change : CallsState → ℕ → (CallState → CallState) → CallsState
with_change c call change = record c { states = put_state c.states call (option_map change (call_at c call)) }

abbrev pub without_call : CallsState → ℕ → CallsState
without_call c call = record c { states = remove_entry (is_at (nat_cmp call)) c.states }

-- ---- numbers, gfids and replies

-- the next call, whose reply is at no place so far
abbrev pub with_number : CallsState → CallsState
with_number c = record c { submitted = c.submitted + 1; replies = c.replies ++ None ∷ [] }

-- one gfid more is drawn
abbrev pub with_draw : CallsState → CallsState
with_draw c = record c { drawn = min (c.drawn + 1) (2 ^ 64 - 1) }

-- the gfid that was drawn last: the first one is 2
abbrev pub last_gfid : CallsState → Gfid
last_gfid c = record { hi = 0; lo = min (c.drawn + 1) (2 ^ 64 - 1) }

abbrev pub put_reply : List (Option ℕ) → ℕ → ℕ → List (Option ℕ)
put_reply replies zero at = replies
put_reply replies (suc before) at = slice_set replies before (Some at)

abbrev pub reply_in : List (Option ℕ) → ℕ → Option ℕ
reply_in replies zero = None
reply_in replies (suc before) = unwrap_or (slice_get replies before) None

abbrev pub is_last : CallsState → ℕ → Bool
is_last c graph = nat_le (count_of c graph) 1

-- the reply of a call is at this place, and its graph has one call less without a reply; a graph that has none is not kept
abbrev pub with_reply : CallsState → ℕ → ℕ → ℕ → CallsState
with_reply c call graph at = record c {
  replies = put_reply c.replies call at;
  by_graph = if is_last c graph then remove_entry (is_at (nat_cmp graph)) c.by_graph else set_value (is_at (nat_cmp graph)) c.by_graph (count_of c graph - 1);
}

abbrev pub oldest_graph : CallsState → Option ℕ
oldest_graph c = option_map (λ e. e.0) (slice_get c.by_graph 0)

-- ---- calls that wait

abbrev pub with_parked : CallsState → ℕ → CallsState
with_parked c call = record c { parked = insert_key nat_cmp c.parked call }

abbrev pub without_parked : CallsState → ℕ → CallsState
without_parked c call = record c { parked = remove_key (is_at (nat_cmp call)) c.parked }

-- the first of these from a number on
abbrev pub first_from : List ℕ → ℕ → Option ℕ
first_from calls from = slice_get (filter (nat_le from) calls) 0
