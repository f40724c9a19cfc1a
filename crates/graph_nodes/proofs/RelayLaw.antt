-- The steps of the root, of a pass node and of a client meet the law: each hands on one thing, and hands back its answer.
use Rattle.std.proofs.Common.{◌≡◌, ◌∙◌, ℕ, ◌+◌, ◌*◌, ◌<◌, ◌≤◌, Bool, true, false, ◌&&◌, ◌==◌, not, nat_le, List, length, refl, sym, ap, subst, arith, if◌then◌else◌}
use Rattle.std.proofs.Math.Nat.{mul-add, one-le-mul}
use Rattle.std.proofs.lemmas.Bool.{eqb-true, leb-true}
use Rattle.fop_types.specs.declared.fops.Fop.{Fop}
use Rattle.fop_types.specs.declared.fops.Fop.TheVariants as fop
use Rattle.client_xlator.specs.Client.{ClientState}
use Rattle.xlator_law.specs.Law.{no_slots, without, IsNone, IsStep}
use Rattle.xlator_law.specs.Law.Cause.{Enter, Reply}
use Rattle.xlator_law.specs.declared.step.Step.{Step}
use Rattle.xlator_law.specs.declared.winds.Entry.{Entry}
use Rattle.graph_items.specs.Clients.{reaches_at}
use Rattle.graph_items.specs.declared.items.Down.{Down}
use Rattle.graph_items.specs.declared.items.Down.TheVariants as down
use Rattle.graph_items.specs.declared.items.Up.{Up}
use Rattle.graph_nodes.specs.declared.costs.Shape.{Shape}
use Rattle.graph_nodes.specs.declared.costs.Shape.TheVariants as shape
use Rattle.graph_nodes.specs.declared.locals.Local.{Local}
use Rattle.graph_nodes.specs.declared.locals.Local.TheVariants as local
use Rattle.graph_nodes.specs.Client.{gone, gone_reply, enter_of}
use Rattle.graph_nodes.specs.Costs.{at_least, at_most, fop_units, units_of, weight_of, cost_of}
use Rattle.graph_nodes.specs.Moves.{IsMove, to_child}
use Rattle.graph_nodes.specs.Moves.Move.{Back}
use Rattle.graph_nodes.specs.Promises.{children_of, slots_of, owns_by, unanswered_of, waits_of, promise_of}
use Rattle.graph_nodes.proofs.Steps.{handed, unwound}

-- what enters a node is one unit at least
least : (n : ℕ) → 1 ≤ at_least 1 n
least n = by (nat_le 1 n) refl where
  by : (b : Bool) → nat_le 1 n ≡ b → 1 ≤ (if b then n else 1)
  by true e = leb-true 1 n e
  by false e = omega arith

fop_some : (sets : ℕ) (f : Fop) → 1 ≤ fop_units sets f
fop_some sets (fop.Migrate fds) = least (at_most 16384 (length fds))
fop_some sets (fop.Heal count) = omega arith
fop_some sets (fop.Lookup parent name) = omega arith
fop_some sets (fop.Mkdir parent name mode drawn) = omega arith
fop_some sets (fop.Rmdir parent name) = omega arith
fop_some sets (fop.Create fd parent name mode drawn) = omega arith
fop_some sets (fop.Unlink parent name) = omega arith
fop_some sets (fop.Rename parent name target new_name) = omega arith
fop_some sets (fop.Open fd object) = omega arith
fop_some sets (fop.Stat object) = omega arith
fop_some sets (fop.List object) = omega arith
fop_some sets (fop.Chmod object mode) = omega arith
fop_some sets (fop.Truncate object size) = omega arith
fop_some sets (fop.SetAttr object attr) = omega arith
fop_some sets (fop.GetAttr object name) = omega arith
fop_some sets (fop.DelAttr object name) = omega arith
fop_some sets (fop.Read fd object offset count) = omega arith
fop_some sets (fop.Write fd object offset bytes) = omega arith

pub units_some : (sets : ℕ) (d : Down) → 1 ≤ units_of sets d
units_some sets (down.Fop f) = fop_some sets f
units_some sets (down.Job j) = omega arith
units_some sets (down.Request q) = omega arith

-- one wind is paid, where a unit costs one or three more than below
pub paid_one : (units more weight : ℕ) → 1 ≤ units → 1 ≤ more → 1 + units * weight + 0 ≤ units * (more + weight)
paid_one units more weight some least =
    let m = mul-add units more weight in
    let u = many units more some least in
    omega (arith, m, u) where
      many : (a b : ℕ) → 1 ≤ a → 1 ≤ b → 1 ≤ a * b
      many a b x y = one-le-mul x y

-- the one slot was answered
pub none_left : (slot : ℕ) → (slot == 0) ≡ true → IsNone (without slot (λ s. s == 0))
none_left slot is k = subst (λ (j : ℕ). ((k == 0) && not (k == j)) ≡ false) (sym (eqb-true slot 0 is)) (by (k == 0)) where
  by : (b : Bool) → (b && not b) ≡ false
  by true = refl
  by false = refl

-- a shape that hands one thing on to its child
module _ (kind : Shape) (more sets weight breadth : ℕ) (some : 1 ≤ more) (child : 0 < children_of kind sets) (slot : 0 < slots_of kind) (costs : weight_of kind sets weight ≡ more + weight) (own : owns_by kind local.Relay ≡ true) where
  pub enters : (d : Down) (entry : Entry) (s : Step Down Up Local) → IsMove (to_child 0 d local.Relay) s → IsStep (promise_of kind sets weight breadth) (Enter entry d) s
  enters d entry s m = handed (promise_of kind sets weight breadth) no_slots (cost_of kind sets weight d) 0 d local.Relay s (λ j. refl) child slot paid (λ j. refl) refl own m where
    paid : 1 + units_of sets d * weight + 0 ≤ units_of sets d * weight_of kind sets weight
    paid = rw costs (paid_one (units_of sets d) more weight (units_some sets d) some)

-- the root and a pass node
pub relay_enters : (sets weight breadth : ℕ) (d : Down) (entry : Entry) (s : Step Down Up Local) → IsMove (to_child 0 d local.Relay) s → IsStep (promise_of shape.Relay sets weight breadth) (Enter entry d) s
relay_enters sets weight breadth d entry s m = enters shape.Relay 1 sets weight breadth (omega arith) (omega arith) (omega arith) refl refl d entry s m

pub client_enters : (sets weight breadth : ℕ) (cs : List ClientState) (brick : ℕ) (d : Down) (entry : Entry) (s : Step Down Up Local) → IsMove (enter_of cs brick d) s → IsStep (promise_of shape.Client sets weight breadth) (Enter entry d) s
client_enters sets weight breadth cs brick (down.Fop f) entry s m = unwound (promise_of shape.Client sets weight breadth) no_slots (cost_of shape.Client sets weight (down.Fop f)) (gone_reply cs brick) s (λ j. refl) m
client_enters sets weight breadth cs brick (down.Job j) entry s m = unwound (promise_of shape.Client sets weight breadth) no_slots (cost_of shape.Client sets weight (down.Job j)) (gone_reply cs brick) s (λ j. refl) m
client_enters sets weight breadth cs brick (down.Request q) entry s m = by (reaches_at cs brick q.bound) m where
  by : (r : Bool) → IsMove (if r then to_child 0 (down.Request q) local.Relay else gone cs brick) s → IsStep (promise_of shape.Client sets weight breadth) (Enter entry (down.Request q)) s
  by true m = enters shape.Client 3 sets weight breadth (omega arith) (omega arith) (omega arith) refl refl (down.Request q) entry s m
  by false m = unwound (promise_of shape.Client sets weight breadth) no_slots (cost_of shape.Client sets weight (down.Request q)) (gone_reply cs brick) s (λ j. refl) m

-- a frame of these shapes waits for one answer, which it hands back
module _ (sets weight breadth slot : ℕ) (reply back : Up) (s : Step Down Up Local) (m : IsMove (Back back) s) where
  pub relay_resumes : (l : Local) → owns_by shape.Relay l ≡ true → unanswered_of l slot ≡ true → IsStep (promise_of shape.Relay sets weight breadth) (Reply l slot reply) s
  relay_resumes local.Relay own asked = unwound (promise_of shape.Relay sets weight breadth) (without slot (unanswered_of local.Relay)) 0 back s (none_left slot asked) m
  relay_resumes (local.Queued d) own asked = absurd cc
  relay_resumes (local.Pages read) own asked = absurd cc
  relay_resumes (local.Distribute frame) own asked = absurd cc
  relay_resumes (local.Set frame) own asked = absurd cc

  pub client_resumes : (l : Local) → owns_by shape.Client l ≡ true → unanswered_of l slot ≡ true → IsStep (promise_of shape.Client sets weight breadth) (Reply l slot reply) s
  client_resumes local.Relay own asked = unwound (promise_of shape.Client sets weight breadth) (without slot (unanswered_of local.Relay)) 0 back s (none_left slot asked) m
  client_resumes (local.Queued d) own asked = absurd cc
  client_resumes (local.Pages read) own asked = absurd cc
  client_resumes (local.Distribute frame) own asked = absurd cc
  client_resumes (local.Set frame) own asked = absurd cc

-- such a frame waits for nothing else
pub relay_waits_not : (l : Local) → owns_by shape.Relay l ≡ true → waits_of l ≡ true → ⊥
relay_waits_not local.Relay own waits = absurd cc
relay_waits_not (local.Queued d) own waits = absurd cc
relay_waits_not (local.Pages read) own waits = absurd cc
relay_waits_not (local.Distribute frame) own waits = absurd cc
relay_waits_not (local.Set frame) own waits = absurd cc

pub client_waits_not : (l : Local) → owns_by shape.Client l ≡ true → waits_of l ≡ true → ⊥
client_waits_not local.Relay own waits = absurd cc
client_waits_not (local.Queued d) own waits = absurd cc
client_waits_not (local.Pages read) own waits = absurd cc
client_waits_not (local.Distribute frame) own waits = absurd cc
client_waits_not (local.Set frame) own waits = absurd cc

pub set_waits_not : (replicas : ℕ) (l : Local) → owns_by (shape.Set replicas) l ≡ true → waits_of l ≡ true → ⊥
set_waits_not replicas local.Relay own waits = absurd cc
set_waits_not replicas (local.Queued d) own waits = absurd cc
set_waits_not replicas (local.Pages read) own waits = absurd cc
set_waits_not replicas (local.Distribute frame) own waits = absurd cc
set_waits_not replicas (local.Set frame) own waits = absurd cc
