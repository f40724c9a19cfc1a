-- The clients of a graph, by the numbers of their bricks: which are connected, and the number of the last connection of
-- each. What a transaction is told is by replica of its set.
use Rattle.std.specs.Prelude.{ℕ, Bool, false, List, [], ◌∷◌, map, Option, Some, None, slice_get}
use Rattle.std.specs.List.{range_with_len, slice_set}
use Rattle.fop_types.specs.declared.cells.Gfid.{Gfid}
use Rattle.fop_types.specs.declared.contents.Mask.{Mask}
use Rattle.fop_types.specs.declared.messages.BrickReq.{BrickReq}
use Rattle.afr_phases.specs.Flags.{flags_by, mask_of}
use Rattle.client_xlator.specs.Client.{ClientState, new_client, connected, ended, noted, sent_by, is_reachable}
use Rattle.client_xlator.specs.declared.sent.Sent.{Sent}
use Rattle.client_xlator.specs.declared.sent.Sent.TheVariants.{NotConnected}
use Rattle.xlator_law.specs.declared.winds.WindNo.{WindNo}

-- the clients of so many bricks, none of them connected
abbrev pub new_clients : ℕ → ℕ → List ClientState
new_clients bricks graph = map (λ (brick : ℕ). new_client brick graph) (range_with_len 0 bricks)

-- ---- connections

abbrev pub reaches_by : Option ClientState → Option ℕ → Bool
reaches_by None bound = false
reaches_by (Some c) bound = is_reachable c.connection bound

-- whether a request that is bound to this connection, or to none, goes out to the brick
abbrev pub reaches_at : List ClientState → ℕ → Option ℕ → Bool
reaches_at cs brick bound = reaches_by (slice_get cs brick) bound

abbrev pub connection_by : Option ClientState → Option ℕ
connection_by None = None
connection_by (Some c) = c.connection

abbrev pub connection_at : List ClientState → ℕ → Option ℕ
connection_at cs brick = connection_by (slice_get cs brick)

abbrev pub last_by : Option ClientState → ℕ
last_by None = 0
last_by (Some c) = c.last

abbrev pub last_at : List ClientState → ℕ → ℕ
last_at cs brick = last_by (slice_get cs brick)

-- the client of the brick, if there is one, becomes this
abbrev pub changed_by : (ClientState → ClientState) → List ClientState → ℕ → Option ClientState → List ClientState
changed_by change cs brick None = cs
changed_by change cs brick (Some c) = slice_set cs brick (change c)

abbrev pub connected_at : List ClientState → ℕ → List ClientState
connected_at cs brick = changed_by connected cs brick (slice_get cs brick)

abbrev pub ended_at : List ClientState → ℕ → List ClientState
ended_at cs brick = changed_by ended cs brick (slice_get cs brick)

abbrev pub noted_at : List ClientState → ℕ → ℕ → Gfid → List ClientState
noted_at cs brick fd gfid = changed_by (λ c. noted c fd gfid) cs brick (slice_get cs brick)

-- ---- messages

abbrev pub sent_from : Option ClientState → WindNo → Option ℕ → Option (ℕ × Gfid) → BrickReq → Sent
sent_from None w bound fd req = NotConnected
sent_from (Some c) w bound fd req = sent_by c w bound fd req

-- what carries a request to the brick
abbrev pub sent_at : List ClientState → ℕ → WindNo → Option ℕ → Option (ℕ × Gfid) → BrickReq → Sent
sent_at cs brick w bound fd req = sent_from (slice_get cs brick) w bound fd req

-- ---- the replicas of a set with these bricks

abbrev pub is_open_by : List ClientState → Option ℕ → Bool
is_open_by cs None = false
is_open_by cs (Some brick) = reaches_at cs brick None

abbrev pub is_open_at : List ClientState → List ℕ → ℕ → Bool
is_open_at cs bricks replica = is_open_by cs (slice_get bricks replica)

abbrev pub last_of_by : List ClientState → Option ℕ → ℕ
last_of_by cs None = 0
last_of_by cs (Some brick) = last_at cs brick

abbrev pub last_of : List ClientState → List ℕ → ℕ → ℕ
last_of cs bricks replica = last_of_by cs (slice_get bricks replica)

-- the replicas that are connected
abbrev pub live_of : List ClientState → List ℕ → Mask
live_of cs bricks = mask_of (flags_by (is_open_at cs bricks))

-- the number of each replica's last connection
abbrev pub lasts_of : List ClientState → List ℕ → List ℕ
lasts_of cs bricks = last_of cs bricks 0 ∷ last_of cs bricks 1 ∷ last_of cs bricks 2 ∷ last_of cs bricks 3 ∷ last_of cs bricks 4 ∷ []
