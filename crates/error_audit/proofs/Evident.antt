-- Evidence from what the tests find.
use Rattle.std.proofs.Common.{◌≡◌, refl, sym, ap, subst, ◌∙◌, arith, get_or}
use Rattle.std.specs.Prelude.{ℕ, zero, suc, ◌+◌, ◌-◌, ◌<◌, ◌≤◌, ◌==◌, ◌||◌, Bool, true, false, List, [], ◌∷◌, Some, Contains, length, slice_get, slice_index_or}
use Rattle.std.specs.List.{list_any}
use Rattle.std.specs.Cmp.Derive.{both_true}
use Rattle.std.specs.Cmp.Lexicographic.{pointwise}
use Rattle.std.proofs.lemmas.Bool.{eq-eqb, eqb-true, or_cases}
use Rattle.std.proofs.lemmas.List.Folds.{list_any_at}
use Rattle.std.proofs.lemmas.Option.{get_or_from_slice_get, slice_get_within}
use Rattle.fop_types.specs.declared.jobs.SetPlan.{SetPlan}
use Rattle.fop_types.specs.declared.messages.BrickRep.{BrickRep}
use Rattle.fop_types.specs.declared.messages.BrickRep.TheVariants as rep
use Rattle.fop_types.specs.declared.messages.Input.{Input}
use Rattle.fop_types.specs.declared.messages.Input.TheVariants as input
use Rattle.fop_types.specs.declared.messages.OutKind.{OutKind}
use Rattle.fop_types.specs.declared.messages.OutKind.TheVariants as out
use Rattle.fop_types.specs.declared.messages.Output.{Output}
use Rattle.wire_xdr.specs.WireText.{input_text}
use Rattle.mount_log.specs.Causes.{IsWindOf, IsRepliedBy, IsLost, IsFaulted}
use Rattle.mount_log.specs.Connections.{is_sent_in, was_sent, is_open_after, last_connection, graph_of_call}
use Rattle.mount_log.specs.Submissions.{submitted_at}
use Rattle.mount_log.specs.declared.logs.Log.{Log}
use Rattle.mount_log.specs.declared.logs.SentLine.{SentLine}
use Rattle.error_audit.specs.Evidence.{IsSentTo, HasNumbers, IsArrived, IsFaultOf}
use Rattle.error_audit.specs.Opened.{openings_to}
use Rattle.error_audit.specs.declared.connections.Opening.{Opening}
use Rattle.error_audit.proofs.Different.{behind}
use Rattle.mount_log.proofs.Lists.{lists_same}

-- a line is among those that were sent
pub sent_at : (log : Log) (k number brick : ℕ) (x : Input) (line : SentLine) → slice_get log.sent k ≡ Some line → IsSentTo number brick x line → was_sent log number brick x ≡ true
sent_at log k number brick x line there to =
    list_any_at (is_sent_in number brick x) log.sent k line (slice_get_within log.sent k line there)
    (subst (λ (l : SentLine). is_sent_in number brick x l ≡ true) (sym (get_or_from_slice_get log.sent k line line there)) here) where
      here : is_sent_in number brick x line ≡ true
      here = both_true (eq-eqb line.event number to.event_is) (both_true (eq-eqb line.brick brick to.brick_is) (lists_same line.bytes (input_text x) to.bytes_are))

-- either test
pub ends_left : (a b : Bool) → a ≡ true → (a || b) ≡ true
ends_left true b e = refl
ends_left false b e = absurd cc

pub ends_right : (a b : Bool) → b ≡ true → (a || b) ≡ true
ends_right true b e = refl
ends_right false b e = e

-- a brick that a test finds is one of the list
pub member : (xs : List ℕ) (x : ℕ) → list_any (λ y. y == x) xs ≡ true → Contains xs x
member [] x any = absurd cc
member (y ∷ xs) x any = by (y == x) refl any (member xs x) where
  by : (b : Bool) → (y == x) ≡ b → (b || list_any (λ y. y == x) xs) ≡ true → (list_any (λ y. y == x) xs ≡ true → Contains xs x) → Contains (y ∷ xs) x
  by true is rest later = (0, omega arith, eqb-true y x is)
  by false is rest later = behind y xs x (later rest)

-- and the other way
pub is_member : (xs : List ℕ) (x : ℕ) → Contains xs x → list_any (λ y. y == x) xs ≡ true
is_member xs x (k, lt, is) = list_any_at (λ y. y == x) xs k x lt (eq-eqb (get_or xs k x) x is)

pub faulted : (log : Log) (plan : SetPlan) (call until : ℕ) (pair : ℕ × ℕ) (output : Output) → Contains plan.bricks pair.0 → IsArrived log until pair.0 output → output.taken ≡ pair.1 → IsFaultOf log call output.kind
    → IsFaulted log plan call until pair
faulted log plan call until pair output member came taken f = record {
  member = member;
  wind = f.wind;
  output = output;
  answered = record { place = came.place; bytes = came.bytes; arrives = came.arrives; by_then = came.by_then; read = came.read; reply = f.is; of_call = f.of_call };
  place = sym taken;
}

pub fault_of : (log : Log) (call wind : ℕ) (kind : OutKind) (answer : BrickRep) → kind ≡ out.Reply wind answer → answer ≡ rep.Fault → IsWindOf log call wind → IsFaultOf log call kind
fault_of log call wind kind answer is fault of_call = record { wind = wind; is = is ∙ ap (out.Reply wind) fault; of_call = of_call }

-- a loss, in the words of a call's graph
pub lost : (log : Log) (plan : SetPlan) (call until graph since moment found : ℕ) (pair : ℕ × ℕ) (openings : List Opening) → HasNumbers log graph pair.0 openings → graph ≡ graph_of_call log call → since ≡ submitted_at log call
    → Contains plan.bricks pair.0 → since ≤ moment + 1 → moment ≤ found → found ≤ until → pair.1 ≡ openings_to found graph pair.0 openings → is_open_after log graph pair.0 moment ≡ false → IsLost log plan call until pair
lost log plan call until graph since moment found pair openings numbers graph_is since_is member from later before number closed = record {
  member = member;
  moment = moment;
  since = subst (λ (n : ℕ). n ≤ moment + 1) since_is from;
  closed = subst (λ (g : ℕ). is_open_after log g pair.0 moment ≡ false) graph_is closed;
  found = found;
  later = later;
  before = before;
  number = number ∙ numbers found ∙ ap (λ (g : ℕ). last_connection log g pair.0 found) graph_is;
}
