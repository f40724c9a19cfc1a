-- The requests by their numbers: which of them are blocked, and what their turns make of the queue.
use Rattle.std.specs.Prelude.{◌≡◌, ℕ, Bool, true, false, cond, not, ◌==◌, nat_lt, ◌&&◌, ◌||◌, List, [], ◌∷◌, Option, Some, None}
use Rattle.std.specs.List.{list_any}
use Rattle.fop_types.specs.declared.cells.Gfid.{Gfid}
use Rattle.queue_index.specs.declared.key.Key.{Key}
use Rattle.queue_index.specs.Queue.{item_at, items, changed_at, touching}
use Rattle.mount_locks.specs.declared.request.Request.{Request}
use Rattle.mount_locks.specs.Rule.{held, names, shares, conflicts, AreApart, GrantPass}
use Rattle.mount_locks.specs.Keys.{keys_of, marked}

abbrev pub grant_pass : List Request → List ℕ → GrantPass
grant_pass queue calls = record { queue = queue; calls = calls }

-- whether s of number m is of another call, and is before the number n or, where an exclusive one asks, is
-- granted
abbrev pub bars : Bool → ℕ → ℕ → ℕ → Request → Bool
bars together call n m s = not (s.call == call) && (nat_lt m n || (not together && s.granted))

-- whether s names a gfid, and s or one that asks for it, together with others or not, is exclusive
abbrev pub is_on : Gfid → Bool → Request → Bool
is_on g together s = names s.gfids g && not (together && s.shared)

-- the same of several gfids
abbrev pub meets : List Gfid → Bool → Request → Bool
meets gs together s = shares s.gfids gs && not (together && s.shared)

-- whether an entry blocks a request at a number: the two conflict, and the entry is before it or is
-- granted
abbrev pub blocks : ℕ → Request → ℕ × Request → Bool
blocks n r e = conflicts e.1 r && (nat_lt e.0 n || e.1.granted)

abbrev pub is_blocked : List (ℕ × Request) → ℕ → Request → Bool
is_blocked es n r = list_any (blocks n r) es

-- the same of what is looked at: of what is behind a shared request, nothing
abbrev pub keeps : ℕ → Request → ℕ × Request → Bool
keeps n r e = conflicts e.1 r && (nat_lt e.0 n || (not r.shared && e.1.granted))

abbrev pub is_kept : List (ℕ × Request) → ℕ → Request → Bool
is_kept es n r = list_any (keeps n r) es

-- whether an entry conflicts with a request at a number, is behind it and is granted
abbrev pub passes_by : ℕ → Request → ℕ × Request → Bool
passes_by n r e = conflicts e.1 r && (not (nat_lt e.0 n) && e.1.granted)

abbrev pub is_passed : List (ℕ × Request) → ℕ → Request → Bool
is_passed es n r = list_any (passes_by n r) es

-- no shared request that waits is passed, since only an extension comes before others, and is exclusive
abbrev pub AreUnpassed : List (ℕ × Request) → Type 0
AreUnpassed es = (n : ℕ) (r : Request) → item_at n es ≡ Some r → r.granted ≡ false → r.shared ≡ true → is_passed es n r ≡ false

-- each request that waits is blocked
abbrev pub AreBlocked : List (ℕ × Request) → Type 0
AreBlocked es = (n : ℕ) (r : Request) → item_at n es ≡ Some r → r.granted ≡ false → is_blocked es n r ≡ true

-- what the queue keeps: no two holds conflict, none waits that could be granted, and no shared one that
-- waits is passed
pub record IsSettled (es : List (ℕ × Request)) : Type 0 where
  pub apart : AreApart (held (items es))
  pub blocked : AreBlocked es
  pub unpassed : AreUnpassed es

-- a request is due where it waits and nothing blocks it
abbrev pub is_due : List (ℕ × Request) → ℕ → Request → Bool
is_due es n r = not r.granted && not (is_blocked es n r)

-- the queue after the turn of a number: its request is granted where it is due
abbrev pub turn_of : List (ℕ × Request) → ℕ → Option Request → List (ℕ × Request)
turn_of es n None = es
turn_of es n (Some r) = cond (is_due es n r) (changed_at marked n es) es

abbrev pub turn_at : List (ℕ × Request) → ℕ → List (ℕ × Request)
turn_at es n = turn_of es n (item_at n es)

-- the call that is granted at the turn of a number
abbrev pub call_of : List (ℕ × Request) → ℕ → Option Request → Option ℕ
call_of es n None = None
call_of es n (Some r) = cond (is_due es n r) (Some r.call) None

abbrev pub call_at : List (ℕ × Request) → ℕ → Option ℕ
call_at es n = call_of es n (item_at n es)

abbrev pub with_call : Option ℕ → List ℕ → List ℕ
with_call None calls = calls
with_call (Some call) calls = call ∷ calls

-- the turns of several numbers, one after the other
abbrev pub turns : List (ℕ × Request) → List ℕ → List (ℕ × Request)
turns es [] = es
turns es (n ∷ ns) = turns (turn_at es n) ns

abbrev pub calls_of : List (ℕ × Request) → List ℕ → List ℕ
calls_of es [] = []
calls_of es (n ∷ ns) = with_call (call_at es n) (calls_of (turn_at es n) ns)
