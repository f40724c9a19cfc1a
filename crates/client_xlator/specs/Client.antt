-- A client's connections, and what it sends. Connections are numbered from 1, one at a time is open, and
-- descriptors are known to the brick on the connection on which they were opened. A request that is bound
-- to a connection goes over no other. Ours, after the client protocol of GlusterFS.
use Rattle.std.specs.Prelude.{ℕ, ◌+◌, ◌==◌, ◌&&◌, Bool, true, false, cond, List, [], ◌∷◌, ◌++◌, Option, Some, None}
use Rattle.std.specs.Map.{lookup}
use Rattle.std.specs.Ordering.{nat_cmp}
use Rattle.std.specs.BTreeMap.{insert_entry, is_at}
use Rattle.fop_types.specs.declared.cells.Gfid.{Gfid}
use Rattle.fop_types.specs.declared.messages.BrickReq.{BrickReq}
use Rattle.fop_types.specs.declared.messages.BrickReq.TheVariants as req
use Rattle.fop_types.specs.declared.messages.Input.TheVariants.{Request}
use Rattle.wire_xdr.specs.WireText.{input_text}
use Rattle.xlator_law.specs.declared.winds.WindNo.{WindNo}
use Rattle.xlator_law.specs.Numbers.{wind_number, open_before}
use Rattle.client_xlator.specs.declared.sent.Sent.{Sent}
use Rattle.client_xlator.specs.declared.sent.Sent.TheVariants.{Messages, NotConnected}

-- `known` has the gfid of the last open of each descriptor that was answered Done on the open connection
pub record ClientState : Type 0 where
  pub brick : ℕ
  pub graph : ℕ
  pub last : ℕ
  pub connection : Option ℕ
  pub known : List (ℕ × Gfid)

abbrev pub new_client : ℕ → ℕ → ClientState
new_client brick graph = record { brick = brick; graph = graph; last = 0; connection = None; known = [] }

abbrev pub connected : ClientState → ClientState
connected c = record c { last = c.last + 1; connection = Some (c.last + 1); known = [] }

abbrev pub ended : ClientState → ClientState
ended c = record c { connection = None; known = [] }

abbrev pub noted_on : Option ℕ → ClientState → ℕ → Gfid → ClientState
noted_on None c fd gfid = c
noted_on (Some n) c fd gfid = record c { known = insert_entry nat_cmp c.known fd gfid }

abbrev pub noted : ClientState → ℕ → Gfid → ClientState
noted c fd gfid = noted_on c.connection c fd gfid

abbrev pub is_gfid : Option Gfid → Gfid → Bool
is_gfid None gfid = false
is_gfid (Some g) gfid = (g.hi == gfid.hi) && (g.lo == gfid.lo)

-- the gfid of the last open of that number on the connection
abbrev pub known_at : ClientState → ℕ → Option Gfid
known_at c fd = lookup (is_at (nat_cmp fd)) c.known

-- whether the descriptor, with this gfid, is open on the connection
abbrev pub is_known : ClientState → ℕ → Gfid → Bool
is_known c fd gfid = is_gfid (known_at c fd) gfid

-- whether a request goes out: a connection is open, and it is the one that the request is bound to
abbrev pub is_reachable : Option ℕ → Option ℕ → Bool
is_reachable None bound = false
is_reachable (Some open_one) None = true
is_reachable (Some open_one) (Some asked) = open_one == asked

abbrev pub message : ℕ → ℕ → BrickReq → List ℕ
message graph wind r = input_text (Request wind graph r)

abbrev pub opens : ClientState → WindNo → Option (ℕ × Gfid) → List (List ℕ)
opens c w None = []
opens c w (Some f) = cond (is_known c f.0 f.1) [] (message c.graph (wind_number (open_before w)) (req.Open f.0 f.1) ∷ [])

abbrev pub sent_by : ClientState → WindNo → Option ℕ → Option (ℕ × Gfid) → BrickReq → Sent
sent_by c w bound fd r = cond (is_reachable c.connection bound) (Messages (opens c w fd ++ message c.graph (wind_number w) r ∷ [])) NotConnected

-- the descriptor's number that a request carries, 0 where it carries none
abbrev pub carried : BrickReq → ℕ
carried (req.Op change fd op) = fd
carried (req.Fetch fd cell) = fd
carried (req.Open fd gfid) = fd
carried (req.Release fd) = fd
carried (req.Lock call shared cells) = 0
carried (req.Unlock call) = 0
carried (req.Mark change cells) = 0
carried (req.Post change cells mask) = 0
carried (req.Replace cell last content) = 0
carried (req.Clear cells mask) = 0
carried (req.Settle cells mask) = 0
carried req.Index = 0
