-- The requests for locks on a brick, in the order in which they were asked. Two conflict where they have
-- a cell in common and one of the two is exclusive. One holds exactly where no earlier one conflicts with
-- it, and waits otherwise.
use Rattle.std.specs.Prelude.{ℕ, ◌≡◌, Bool, true, false, cond, not, ◌&&◌, ◌||◌, ◌==◌, List, [], ◌∷◌, ◌++◌, map}
use Rattle.std.specs.List.{filter, list_any}
use Rattle.fop_types.specs.declared.cells.Cell.{Cell}
use Rattle.fop_types.specs.Rank.{rank}
use Rattle.brick_locks.specs.declared.owner.Owner.{Owner}
use Rattle.brick_locks.specs.declared.request.Request.{Request}

abbrev pub is_cell : Cell → Cell → Bool
is_cell a b = ((a.gfid.hi == b.gfid.hi) && (a.gfid.lo == b.gfid.lo)) && (rank a.aspect == rank b.aspect)

abbrev pub has_cell : Request → Cell → Bool
has_cell r c = list_any (is_cell c) r.cells

-- two requests conflict where they have a cell in common and one of them is exclusive
abbrev pub conflicts : Request → Request → Bool
conflicts r s = list_any (has_cell s) r.cells && not (r.shared && s.shared)

-- whether r conflicts with one of these
abbrev pub is_kept_by : List Request → Request → Bool
is_kept_by rs r = list_any (conflicts r) rs

abbrev pub is_of : Owner → Request → Bool
is_of o r = (o.graph == r.owner.graph) && (o.call == r.owner.call)

abbrev pub request : Owner → List Cell → Bool → Request
request o cs together = record { owner = o; cells = cs; shared = together }

abbrev pub owners : List Request → List Owner
owners rs = map (λ r. r.owner) rs

-- of the requests rs, asked after those before, the ones that hold and the ones that wait
abbrev pub held_after : List Request → List Request → List Request
held_after before [] = []
held_after before (r ∷ rs) = cond (is_kept_by before r) (held_after (before ++ r ∷ []) rs) (r ∷ held_after (before ++ r ∷ []) rs)

abbrev pub waiting_after : List Request → List Request → List Request
waiting_after before [] = []
waiting_after before (r ∷ rs) = cond (is_kept_by before r) (r ∷ waiting_after (before ++ r ∷ []) rs) (waiting_after (before ++ r ∷ []) rs)

abbrev pub held : List Request → List Request
held rs = held_after [] rs

abbrev pub waiting : List Request → List Request
waiting rs = waiting_after [] rs

abbrev pub is_known : Owner → List Request → Bool
is_known o rs = list_any (is_of o) rs

-- Where only the requests that pass a test stay, the others that waited are gone, and of those that
-- stay the ones that waited and now wait no longer are freed: no earlier one that stays conflicts
-- with them.
abbrev pub is_freed : (Request → Bool) → List Request → Request → Bool
is_freed stays before r = stays r && (is_kept_by before r && not (is_kept_by (filter stays before) r))

abbrev pub freed_after : (Request → Bool) → List Request → List Request → List Request
freed_after stays before [] = []
freed_after stays before (r ∷ rs) = cond (is_freed stays before r) (r ∷ freed_after stays (before ++ r ∷ []) rs) (freed_after stays (before ++ r ∷ []) rs)

abbrev pub freed : (Request → Bool) → List Request → List Request
freed stays rs = freed_after stays [] rs

abbrev pub gone_after : (Request → Bool) → List Request → List Request → List Request
gone_after stays before [] = []
gone_after stays before (r ∷ rs) = cond (not (stays r) && is_kept_by before r) (r ∷ gone_after stays (before ++ r ∷ []) rs) (gone_after stays (before ++ r ∷ []) rs)

abbrev pub gone : (Request → Bool) → List Request → List Request
gone stays rs = gone_after stays [] rs

abbrev pub holds : Owner → List Request → Bool
holds o rs = list_any (is_of o) (held rs)

-- none conflicts with an earlier one
abbrev pub AreApart : List Request → Type 0
AreApart [] = Unit {0}
AreApart (r ∷ rs) = (list_any (λ s. conflicts s r) rs ≡ false) × AreApart rs

-- Each request that waits conflicts with one before it that holds or waits.
abbrev pub WaitersAreBlocked : List Request → Type 0
WaitersAreBlocked rs = (earlier : List Request) (r : Request) (later : List Request) → rs ≡ earlier ++ r ∷ later → is_kept_by earlier r ≡ true → (is_kept_by (held earlier) r || is_kept_by (waiting earlier) r) ≡ true

-- no owner has two requests
abbrev pub OwnersDiffer : List Request → Type 0
OwnersDiffer [] = Unit {0}
OwnersDiffer (r ∷ rs) = (is_known r.owner rs ≡ false) × OwnersDiffer rs
