-- The queue of requests for holds, and which of them are granted. A request is in the queue from
-- the time that it is asked until its call is released, and is granted or waits. So the queue is two
-- lists, both in queue order: the requests that are held and those that wait.
use Rattle.std.specs.Prelude.{◌≡◌, ℕ, Bool, true, false, not, ◌&&◌, ◌||◌, ◌==◌, List, [], ◌∷◌, ◌++◌, if◌then◌else◌}
use Rattle.std.specs.List.{list_any, filter, AllByRecursion}
use Rattle.fop_types.specs.declared.cells.Gfid.{Gfid}
use Rattle.mount_locks.specs.declared.request.Request.{Request}
use Rattle.mount_locks.specs.declared.request.Held.{Held}
use Rattle.mount_locks.specs.declared.request.Held.TheVariants.{Granted, Waiting}

-- the requests that are granted
abbrev pub held : List Request → List Request
held queue = filter (λ r. r.granted) queue

-- the requests that wait
abbrev pub waiting : List Request → List Request
waiting queue = filter (λ r. not r.granted) queue

abbrev pub is_gfid : Gfid → Gfid → Bool
is_gfid a b = (a.hi == b.hi) && (a.lo == b.lo)

abbrev pub names : List Gfid → Gfid → Bool
names gfids g = list_any (λ x. is_gfid x g) gfids

-- a gfid is in both lists
abbrev pub shares : List Gfid → List Gfid → Bool
shares a b = list_any (names a) b

-- two requests of different calls conflict where they name a common gfid and one of the two is exclusive
abbrev pub conflicts : Request → Request → Bool
conflicts a b = not (a.call == b.call) && (not (a.shared && b.shared) && shares a.gfids b.gfids)

-- one of the requests conflicts with r
abbrev pub any_conflicts : List Request → Request → Bool
any_conflicts rs r = list_any (λ a. conflicts a r) rs

-- a request is granted where no granted and no earlier waiting request conflicts with it
abbrev pub granted_now : List Request → List Request → Request → Bool
granted_now granted earlier r = not (any_conflicts granted r || any_conflicts earlier r)

-- what a call asks for, before its first turn
abbrev pub request_of : ℕ → List Gfid → Bool → Request
request_of call gfids shared = record { call = call; gfids = gfids; shared = shared; extends = false; granted = false }

-- the extension of a call's hold by some gfids, exclusive, before its first turn
abbrev pub extension_of : ℕ → List Gfid → Request
extension_of call gfids = record { call = call; gfids = gfids; shared = false; extends = true; granted = false }

abbrev pub answer : Bool → Held
answer true = Granted
answer false = Waiting

-- the queue with a request at its end: granted at once where the rule says so, or waiting
abbrev pub asked : List Request → Request → List Request
asked queue r = queue ++ record r { granted = granted_now (held queue) (waiting queue) r } ∷ []

-- the queue with an extension before all waiting requests
abbrev pub extended : List Request → Request → List Request
extended queue r = record r { granted = granted_now (held queue) [] r } ∷ queue

-- the queue without the requests of a call
abbrev pub without : ℕ → List Request → List Request
without call queue = filter (λ r. not (r.call == call)) queue

-- a pass over the queue that grants: the requests so far, and the calls that were granted on the way
pub record GrantPass : Type 0 where
  pub queue : List Request
  pub calls : List ℕ

-- the turn of a request, with those before it and those after it
abbrev pub turn : GrantPass → Request → List Request → GrantPass
turn before r after =
    if not r.granted && granted_now (held before.queue ++ held after) (waiting before.queue) r
    then record { queue = before.queue ++ record r { granted = true } ∷ []; calls = before.calls ++ r.call ∷ [] }
    else record { queue = before.queue ++ r ∷ []; calls = before.calls }

-- each waiting request has its turn, in queue order
abbrev pub grant_in_order : GrantPass → List Request → GrantPass
grant_in_order before [] = before
grant_in_order before (r ∷ after) = grant_in_order (turn before r after) after

-- what a release makes of the queue, and the calls that it grants, in queue order
abbrev pub released : ℕ → List Request → GrantPass
released call queue = grant_in_order (record { queue = []; calls = [] }) (without call queue)

-- no two of the requests conflict
abbrev pub AreApart : List Request → Type 0
AreApart [] = Unit {0}
AreApart (a ∷ rest) = (any_conflicts rest a ≡ false) × AreApart rest

-- Each request that waits is kept waiting by the rule: it conflicts with a hold, or with a request that
-- waits and is before it.
abbrev pub WaitersAreBlocked : List Request → Type 0
WaitersAreBlocked queue = (earlier : List Request) (r : Request) (later : List Request) → queue ≡ earlier ++ r ∷ later → r.granted ≡ false → granted_now (held queue) (waiting earlier) r ≡ false

-- whether a call holds or waits
abbrev pub is_known : ℕ → List Request → Bool
is_known call queue = list_any (λ r. r.call == call) queue

-- whether a call has asked, and was not released since
abbrev pub has_asked : ℕ → List Request → Bool
has_asked call queue = list_any (λ r. (r.call == call) && not r.extends) queue

-- whether a call holds what it asked for
abbrev pub is_holding : ℕ → List Request → Bool
is_holding call queue = list_any (λ r. (r.call == call) && (r.granted && not r.extends)) queue

-- no two requests that are no extensions are of one call
abbrev pub AsksDiffer : List Request → Type 0
AsksDiffer [] = Unit {0}
AsksDiffer (r ∷ rest) = (r.extends ≡ false → has_asked r.call rest ≡ false) × AsksDiffer rest

-- no extension is behind a request that is none
abbrev pub ExtensionsFirst : List Request → Type 0
ExtensionsFirst [] = Unit {0}
ExtensionsFirst (r ∷ rest) = (r.extends ≡ false → list_any (λ s. s.extends) rest ≡ false) × ExtensionsFirst rest

-- What the queue is where each call asks when it neither holds nor waits, and extends when it holds: no
-- call has asked twice, each extension is of a call that holds what it asked for, and extensions come first.
pub record AskOnce (queue : List Request) : Type 0 where
  pub once : AsksDiffer queue
  pub holding : AllByRecursion (λ r. r.extends ≡ true → is_holding r.call queue ≡ true) queue
  pub first : ExtensionsFirst queue
