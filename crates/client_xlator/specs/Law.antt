-- A connection that has ended is never open again, whatever happens to the client later; so a request that
-- is bound to it is not sent.
use Rattle.std.specs.Prelude.{ℕ, ◌≡◌, ◌≢◌, ◌≤◌, List, [], ◌∷◌, Option, Some, IfSome}
use Rattle.fop_types.specs.declared.cells.Gfid.{Gfid}
use Rattle.fop_types.specs.declared.messages.BrickReq.{BrickReq}
use Rattle.xlator_law.specs.declared.winds.WindNo.{WindNo}
use Rattle.client_xlator.specs.declared.sent.Sent.TheVariants.{NotConnected}
use Rattle.client_xlator.specs.Client.{ClientState, new_client, connected, ended, noted, sent_by}

-- the calls that change a client
pub data Change : Type 0 where
  Connects : Change
  Ends : Change
  Notes : (fd : ℕ) (gfid : Gfid) → Change

abbrev pub changed : ClientState → Change → ClientState
changed c Connects = connected c
changed c Ends = ended c
changed c (Notes fd gfid) = noted c fd gfid

abbrev pub after : ClientState → List Change → ClientState
after c [] = c
after c (x ∷ xs) = after (changed c x) xs

-- the open connection is the last one
abbrev pub IsNumbered : ClientState → Type 0
IsNumbered c = IfSome c.connection (λ n. n ≡ c.last)

pub record StaysEnded (brick graph : ℕ) (before later : List Change) : Type 0 where
  pub numbered : IsNumbered (after (new_client brick graph) before)
  pub stays : (n : ℕ) → n ≤ (after (new_client brick graph) before).last → (after (new_client brick graph) before).connection ≢ Some n →
      (after (after (new_client brick graph) before) later).connection ≢ Some n
  pub unsent : (n : ℕ) → n ≤ (after (new_client brick graph) before).last → (after (new_client brick graph) before).connection ≢ Some n →
      (w : WindNo) (fd : Option (ℕ × Gfid)) (r : BrickReq) → sent_by (after (after (new_client brick graph) before) later) w (Some n) fd r ≡ NotConnected

abbrev pub EndedStaysEnded : Type 0
EndedStaysEnded = (brick graph : ℕ) (before later : List Change) → StaysEnded brick graph before later
