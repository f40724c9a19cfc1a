-- The claims of one call: by its descriptors, its places, what its lookups are said to have found, its entries and its reply.
-- `None` where the call is not lawful whatever the flat file system answers.
use Rattle.std.specs.Prelude.{◌≡◌, ℕ, ◌+◌, ◌-◌, ◌==◌, ◌&&◌, nat_lt, nat_le, not, Bool, true, false, List, [], ◌∷◌, ◌++◌, length, take, Option, Some, None, get_or, if◌then◌else◌}
use Rattle.fop_types.specs.Calls.{Descriptors, looked_up, at_once, last_op}
use Rattle.fop_types.specs.Cells.{root}
use Rattle.fop_types.specs.Flat.{is_change}
use Rattle.fop_types.specs.Names.{is_same_name}
use Rattle.fop_types.specs.Replies.{is_ok}
use Rattle.fop_types.specs.declared.answers.Answer.{Answer}
use Rattle.fop_types.specs.declared.answers.Answer.TheVariants as answers
use Rattle.fop_types.specs.declared.calls.Call.{Call}
use Rattle.fop_types.specs.declared.calls.Call.TheVariants as call
use Rattle.fop_types.specs.declared.cells.Gfid.{Gfid}
use Rattle.fop_types.specs.declared.flat.FlatOp.{FlatOp}
use Rattle.fop_types.specs.declared.flat.FlatOp.TheVariants as op
use Rattle.history_replay.specs.code.Claims.{walk_claims, walk_ends, next_lookup}
use Rattle.history_replay.specs.declared.claims.Claim.{Claim}
use Rattle.history_replay.specs.declared.claims.Claim.TheVariants as claim

-- One call, with the number of its lookups. `found` is what its lookups are said to have found; `first` and `last` are the indices of its entries, `first` of a
-- rename's part 1; `seen` is where the rename of that part is said to have been possible; `reply` is the index of its reply,
-- with the answer.
pub record Case : Type 0 where
  pub call : Call
  pub lookups : ℕ
  pub places : List ℕ
  pub found : List Gfid
  pub drawn : Gfid
  pub submitted : ℕ
  pub seen : ℕ
  pub first : Option ℕ
  pub last : Option ℕ
  pub reply : Option (ℕ × Answer)

-- ---- claims that are made one after another

abbrev pub when : Bool → List Claim → Option (List Claim)
when true claims = Some claims
when false claims = None

abbrev pub both : Option (List Claim) → Option (List Claim) → Option (List Claim)
both None more = None
both (Some claims) None = None
both (Some claims) (Some more) = Some (claims ++ more)

-- what a function that may make claims says of them
abbrev pub Adds : Bool → List Claim → List Claim → Option (List Claim) → Type 0
Adds did before after None = did ≡ false
Adds did before after (Some claims) = (did ≡ true) × (after ≡ before ++ claims)

-- ---- tests

abbrev pub is_none : Option ℕ → Bool
is_none None = true
is_none (Some n) = false

abbrev pub is_io : Answer → Bool
is_io (answers.Io error) = true
is_io answers.Done = false
is_io (answers.Count count) = false
is_io (answers.Bytes bytes) = false
is_io (answers.Stat kind mode size) = false
is_io (answers.List items) = false
is_io (answers.App error) = false

abbrev pub is_app : Answer → Bool
is_app (answers.App error) = true
is_app answers.Done = false
is_app (answers.Count count) = false
is_app (answers.Bytes bytes) = false
is_app (answers.Stat kind mode size) = false
is_app (answers.List items) = false
is_app (answers.Io error) = false

-- no place is above this one
abbrev pub are_at_most : List ℕ → ℕ → Bool
are_at_most [] most = true
are_at_most (place ∷ places) most = nat_le place most && are_at_most places most

-- places never fall, and are between these bounds
abbrev pub are_between : List ℕ → ℕ → ℕ → Bool
are_between [] low high = true
are_between (place ∷ places) low high = nat_le low place && (nat_le place high && are_between places place high)

-- the call has no entry
abbrev pub is_free : Case → Bool
is_free c = is_none c.first && is_none c.last

-- the places of the lookups, and the place of the last fop
abbrev pub lookup_places : Case → List ℕ
lookup_places c = take c.lookups c.places

abbrev pub last_place : Case → ℕ
last_place c = get_or c.places c.lookups 0

-- all lookups have a place, and are said to have found something
abbrev pub is_whole : Case → Bool
is_whole c = (length c.found == c.lookups) && nat_le c.lookups (length c.places)

-- ---- entries

-- an entry of this index may be the call's last part
abbrev pub is_late : Case → ℕ → Bool
is_late c index = nat_le c.submitted index && are_at_most (lookup_places c) index

-- such an entry is that of a change that is done, whose place is the last
abbrev pub is_done : Case → ℕ → Bool
is_done c index = is_late c index && (index + 1 == last_place c)

abbrev pub is_before : ℕ → Option ℕ → Bool
is_before index None = true
is_before index (Some other) = nat_lt index other

-- an entry of this index may be a rename's part 1
abbrev pub is_first : Case → ℕ → Bool
is_first c index =
    nat_le c.submitted c.seen && (are_at_most (lookup_places c) c.seen && (nat_le c.seen index && is_before index c.last))

abbrev pub part_claims : ℕ → ℕ → FlatOp → Option (List Claim)
part_claims index seen (op.Rename parent name target new_name) =
    when (not (is_same_name parent name target new_name))
    (claim.Enters index (op.Unlink target new_name) None ∷ claim.Accepts seen (op.Rename parent name target new_name) ∷ [])
part_claims index seen other = None

abbrev pub first_by : Option ℕ → Case → FlatOp → Option (List Claim)
first_by None c last = Some []
first_by (Some index) c last = if is_first c index then part_claims index c.seen last else None

abbrev pub entry_by : Option ℕ → Case → FlatOp → Option (List Claim)
entry_by None c last = Some []
entry_by (Some index) c last = when (is_late c index) (claim.Enters index last None ∷ [])

abbrev pub done_by : Option ℕ → Case → ℕ → FlatOp → Option (List Claim)
done_by None c reply last = None
done_by (Some index) c reply last =
    when (is_done c index) (claim.Enters index last (Some reply) ∷ [])

abbrev pub read_by : Case → ℕ → FlatOp → Option (List Claim)
read_by c reply last = when (is_free c) (claim.Answers (last_place c) last reply ∷ [])

-- ---- the last operation, of a call whose lookups found all that they looked for

abbrev pub placed_by : Bool → Case → ℕ → FlatOp → Option (List Claim)
placed_by true c reply last = done_by c.last c reply last
placed_by false c reply last = read_by c reply last

abbrev pub answered_by : Case → ℕ → Answer → FlatOp → Option (List Claim)
answered_by c reply answer last =
    if length c.places == c.lookups
    then (if is_io answer then entry_by c.last c last else None)
    else (if length c.places == c.lookups + 1 then placed_by (is_change last && is_ok answer) c reply last else None)

abbrev pub last_by : Option (ℕ × Answer) → Case → FlatOp → Option (List Claim)
last_by None c last = entry_by c.last c last
last_by (Some r) c last = answered_by c r.0 r.1 last

abbrev pub op_claims : Case → Option FlatOp → Option (List Claim)
op_claims c None = None
op_claims c (Some last) = both (first_by c.first c last) (last_by c.reply c last)

abbrev pub op_of : Case → Descriptors → Option FlatOp
op_of c fds = last_op c.call (walk_ends (looked_up c.call) c.places c.found) c.drawn fds

-- ---- a call whose lookups did not find all

-- a lookup is the last fop that has a place, and its error is the answer; or a lookup has no place, and the answer is an I/O
-- error
abbrev pub stopped_by : Case → ℕ → Answer → Option (List Claim)
stopped_by c reply answer =
    if length c.places == length c.found then when (is_io answer) []
    else when (is_app answer && (length c.places == length c.found + 1))
    (claim.Answers (get_or c.places (length c.found) 0) (next_lookup (looked_up c.call) c.found) reply ∷ [])

abbrev pub unfound_by : Option (ℕ × Answer) → Case → Option (List Claim)
unfound_by None c = Some []
unfound_by (Some r) c = if nat_lt (length c.found) c.lookups then stopped_by c r.0 r.1 else None

-- ---- the call

abbrev pub said_by : Option (ℕ × Answer) → Case → Answer → Option (List Claim)
said_by None c answer = Some []
said_by (Some r) c answer = when (length c.places == 0) (claim.Says r.0 answer ∷ [])

abbrev pub found_by : Bool → Case → Option FlatOp → Option (List Claim)
found_by true c last = op_claims c last
found_by false c last = if is_free c then unfound_by c.reply c else None

abbrev pub once_by : Option Answer → Case → Descriptors → Option (List Claim)
once_by (Some answer) c fds = if is_free c then said_by c.reply c answer else None
once_by None c fds = both (Some (walk_claims (looked_up c.call) c.places c.found)) (found_by (is_whole c) c (op_of c fds))

abbrev pub case_claims : Case → Descriptors → Option (List Claim)
case_claims c fds = once_by (at_once fds c.call) c fds

-- the last of these objects, the root where there is none
abbrev pub last_found : Gfid → List Gfid → Gfid
last_found at [] = at
last_found at (gfid ∷ found) = last_found gfid found

-- the file of the descriptor that a create or an open gives
abbrev pub file_by : Call → Case → Gfid
file_by (call.Create fd path mode) c = c.drawn
file_by (call.Open fd path) c = if is_whole c then last_found root c.found else root
file_by other c = root

abbrev pub file_given : Case → Gfid
file_given c = file_by c.call c
