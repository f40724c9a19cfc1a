-- The names of replicas change nothing that a brick does, and nothing that it does changes them.
use Rattle.std.proofs.Common.{◌≡◌, ◌∙◌, ℕ, Bool, true, false, List, refl, sym, ap}
use Rattle.std.specs.Prelude.{is_some, MatchBool, if◌then◌else◌}
use Rattle.std.proofs.lemmas.Bool.{MatchBool-at_false}
use Rattle.fop_types.specs.declared.messages.BrickReq.{BrickReq}
use Rattle.fop_types.specs.declared.messages.BrickReq.TheVariants as req
use Rattle.fop_types.specs.declared.messages.Input.{Input}
use Rattle.fop_types.specs.declared.messages.Input.TheVariants.{Request, Down, Up, Connect, Disconnect, FaultAt}
use Rattle.wire_messages.specs.declared.messages.Message.{Message}
use Rattle.wire_messages.specs.declared.messages.Message.TheVariants.{Whole, Wrong}
use Rattle.brick_locks.specs.Locks.{request, is_known, is_kept_by}
use Rattle.cell_store.specs.StoreState.{StoreState}
use Rattle.brick_machine.specs.Connections.{is_good, is_connected}
use Rattle.brick_machine.specs.State.{proc_of, is_to_fail, named}
use Rattle.brick_machine.specs.Locking.{Served}
use Rattle.brick_machine.specs.Serving.{owner_of, is_late, one_less, counted, served_now, request_served}
use Rattle.brick_machine.specs.Journal.{Journal}
use Rattle.brick_machine.specs.Machine.{served, state_of, texts_of}
use Rattle.brick_machine.specs.declared.state.State.{State}

module _ (names : List (List ℕ)) where
  -- what was served is the same, its state under the names
  pub record IsNamed (p x : Served) : Type 0 where
    pub state : p.state ≡ named names x.state
    pub outs : p.outs ≡ x.outs

  chosen : (b : Bool) (x y p q : Served) → IsNamed p x → IsNamed q y → IsNamed (if b then p else q) (if b then x else y)
  chosen true x y p q h k = h
  chosen false x y p q h k = k

  now_named : (s : State) (wind graph : ℕ) (r : BrickReq) → IsNamed (served_now (named names s) wind graph r) (served_now s wind graph r)
  now_named s wind graph (req.Lock call shared those) =
      chosen (is_known (owner_of graph call) s.locks) _ _ _ _ (record { state = refl; outs = refl })
      (chosen (is_kept_by s.locks (request (owner_of graph call) those shared)) _ _ _ _ (record { state = refl; outs = refl }) (record { state = refl; outs = refl }))
  now_named s wind graph (req.Unlock call) = record { state = refl; outs = refl }
  now_named s wind graph (req.Mark change those) = record { state = refl; outs = refl }
  now_named s wind graph (req.Op change fd op) = chosen (is_good s.graphs graph fd) _ _ _ _ (record { state = refl; outs = refl }) (record { state = refl; outs = refl })
  now_named s wind graph (req.Post change those mask) = record { state = refl; outs = refl }
  now_named s wind graph (req.Fetch fd cell) = chosen (is_good s.graphs graph fd) _ _ _ _ (record { state = refl; outs = refl }) (record { state = refl; outs = refl })
  now_named s wind graph (req.Replace cell last content) = record { state = refl; outs = refl }
  now_named s wind graph (req.Clear those mask) = record { state = refl; outs = refl }
  now_named s wind graph (req.Settle those mask) = record { state = refl; outs = refl }
  now_named s wind graph req.Index = record { state = refl; outs = refl }
  now_named s wind graph (req.Open fd gfid) = record { state = refl; outs = refl }
  now_named s wind graph (req.Release fd) = chosen (is_good s.graphs graph fd) _ _ _ _ (record { state = refl; outs = refl }) (record { state = refl; outs = refl })

  request_named : (s : State) (wind graph : ℕ) (r : BrickReq) → IsNamed (request_served (named names s) wind graph r) (request_served s wind graph r)
  request_named s wind graph r =
      chosen (is_some s.down) _ _ _ _
      (chosen (is_late s.down graph) _ _ _ _
      (chosen (is_to_fail (one_less s).faults (proc_of r)) _ _ _ _ (record { state = refl; outs = refl }) (record { state = refl; outs = refl }))
      (record { state = refl; outs = refl }))
      (chosen (is_connected s.graphs graph) _ _ _ _
      (chosen (is_to_fail s.faults (proc_of r)) _ _ _ _ (record { state = refl; outs = refl }) (now_named (counted s r) wind graph r))
      (record { state = refl; outs = refl }))

  pub served_named : (s : State) (m : Message Input) → IsNamed (served (named names s) m) (served s m)
  served_named s (Whole (Request wind graph r)) = request_named s wind graph r
  served_named s (Whole (Down serve)) = record { state = refl; outs = refl }
  served_named s (Whole Up) = record { state = refl; outs = refl }
  served_named s (Whole (Connect graph version)) = chosen (is_some s.down) _ _ _ _ (record { state = refl; outs = refl }) (record { state = refl; outs = refl })
  served_named s (Whole (Disconnect graph)) = record { state = refl; outs = refl }
  served_named s (Whole (FaultAt p number)) = record { state = refl; outs = refl }
  served_named s (Wrong place) = record { state = refl; outs = refl }

-- the state of a brick's type after other names are bound
pub bound : (made journal names : List (List ℕ)) (s : State) (store : StoreState) (spent : Bool)
    → (made ≡ texts_of journal) × MatchBool spent (Unit {0}) (s ≡ named s.store.names (state_of journal)) → store ≡ record (s.store) { names = names }
    → (made ≡ texts_of journal) × MatchBool spent (Unit {0}) (record s { store = store } ≡ named store.names (state_of journal))
bound made journal names s store true whole put = (whole.0, tt)
bound made journal names s store false whole put =
    let after : record s { store = store } ≡ named names s = ap (λ (x : StoreState). record s { store = x }) put in
    let same : record s { store = store } ≡ named names (state_of journal) = after ∙ ap (named names) whole.1 in
    let own : store.names ≡ names = ap (λ (x : StoreState). x.names) put in
    (whole.0, same ∙ ap (λ (l : List (List ℕ)). named l (state_of journal)) (sym own))

-- what contracts see of the store of a brick that is not spent
abbrev store_of : Journal → StoreState
store_of now = record { cells = (state_of now.journal).store.cells; names = now.names }

pub store_is : (made journal : List (List ℕ)) (s : State) (spent : Bool) (now : Journal) → record { journal = journal; names = s.store.names; spent = spent } ≡ now
    → (made ≡ texts_of journal) × MatchBool spent (Unit {0}) (s ≡ named s.store.names (state_of journal))
    → now.spent ≡ false → s.store ≡ record { cells = (state_of now.journal).store.cells; names = now.names }
store_is made journal s spent now seen whole on =
    let still : spent ≡ false = ap (λ (j : Journal). j.spent) seen ∙ on in
    let is : s ≡ named s.store.names (state_of journal) = MatchBool-at_false (Unit {0}) (s ≡ named s.store.names (state_of journal)) still whole.1 in
    let own : s.store ≡ store_of (record { journal = journal; names = s.store.names; spent = spent }) = ap (λ (t : State). t.store) is in
    own ∙ ap store_of seen
