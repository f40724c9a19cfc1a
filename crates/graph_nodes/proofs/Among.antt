-- A call of one graph among those of a mount gives what the graph does.
use Rattle.std.proofs.Common.{◌≡◌, refl, sym, ap, subst, ◌∙◌}
use Rattle.std.specs.Prelude.{ℕ, Bool, false, List, Option, None, Some, IsSome, IfSome, MatchOption}
use Rattle.std.specs.BTreeMap.{BTreeMap, get, keys, WritesThrough}
use Rattle.std.specs.Ordering.{nat_cmp}
use Rattle.graph_nodes.specs.declared.graph.Graph.{Graph}
use Rattle.graph_nodes.specs.declared.moved.Mount.{Mount}
use Rattle.graph_nodes.specs.declared.moved.Moved.{Moved}
use Rattle.graph_nodes.specs.Among.{Start, GivesAt, SeemsToGive, seen}
use Rattle.graph_nodes.specs.Calls.{CallGives}
use Rattle.graph_nodes.specs.Live.{AllLive}
use Rattle.graph_nodes.specs.Mounted.{Mounted}
use Rattle.graph_nodes.specs.Ready.{tasks_in}
use Rattle.graph_nodes.specs.Seen.{SeenGraph, changed_at, seen_in}

pub gives_at : (number : ℕ) (starts : Start) (live live_new : BTreeMap ℕ Graph) (g g_new : Graph) (mount mount_new : Mount) (moved : Moved) → Some g ≡ get nat_cmp live number → WritesThrough nat_cmp (nat_cmp number) live g_new live_new
    → CallGives (starts g mount) g mount moved g_new mount_new → GivesAt number starts live mount moved live_new mount_new
gives_at number starts live live_new g g_new mount mount_new moved found through gives = record {
  graph = g;
  graph_new = g_new;
  there = sym found;
  there_new = (through.3 (subst (λ (o : Option Graph). IsSome o) found refl)).1;
  gives = gives;
}

pub some_weaker : {T : Type 0} (o : Option T) (A : Type 0) (P Q : T → Type 0) → ((x : T) → P x → Q x) → MatchOption o A P → IfSome o Q
some_weaker None A P Q f h = tt
some_weaker (Some x) A P Q f h = f x h

abbrev seen_with : List ℕ → List (ℕ × SeenGraph) → List (ℕ × ℕ) → Mount → Bool → Mounted
seen_with numbers graphs tasks mount spent = record { numbers = numbers; graphs = graphs; tasks = tasks; inodes = mount.inodes; history = mount.ledger.history; spent = spent }

-- what is seen before a call of graphs that are not spent
abbrev seen_as : BTreeMap ℕ Graph → Mount → Bool → Mounted
seen_as live mount spent = record { numbers = keys live; graphs = seen_in live.entries; tasks = tasks_in live.entries; inodes = mount.inodes; history = mount.ledger.history; spent = spent }

pub seems_to_give : {T : Type 0} (moved : T → Moved) (starts : T → Start) (number : ℕ) (old : Mounted) (live live_new : BTreeMap ℕ Graph) (mount mount_new : Mount) (spent : Bool) (o : Option T) → seen_as live mount spent ≡ old → spent ≡ false → AllLive live mount
    → IfSome o (λ x. GivesAt number (starts x) live mount (moved x) live_new mount_new) → IfSome o (λ x. SeemsToGive number (starts x) old (moved x) (seen live_new mount_new))
seems_to_give moved starts number old live live_new mount mount_new spent None view fresh all gives = tt
seems_to_give moved starts number old live live_new mount mount_new spent (Some x) view fresh all gives = record {
  live = live;
  mount = mount;
  live_new = live_new;
  mount_new = mount_new;
  old_is = sym view ∙ ap (seen_as live mount) fresh;
  new_is = refl;
  are_live = all;
  gives = gives;
}

-- one of the graphs has changed, and else nothing that is seen
pub seen_changed : (change : SeenGraph → SeenGraph) (n : ℕ) (live live_new : BTreeMap ℕ Graph) (mount : Mount) (spent : Bool) (old : Mounted) → seen_as live mount spent ≡ old → keys live_new ≡ keys live → seen_in live_new.entries ≡ changed_at change n (seen_in live.entries)
    → tasks_in live_new.entries ≡ tasks_in live.entries → seen_as live_new mount spent ≡ record old { graphs = changed_at change n old.graphs }
seen_changed change n live live_new mount spent old view numbers graphs tasks =
    let numbered : seen_as live_new mount spent ≡ seen_with (keys live) (seen_in live_new.entries) (tasks_in live_new.entries) mount spent = ap (λ (ns : List ℕ). seen_with ns (seen_in live_new.entries) (tasks_in live_new.entries) mount spent) numbers in
    let changed : seen_with (keys live) (seen_in live_new.entries) (tasks_in live_new.entries) mount spent ≡ seen_with (keys live) (changed_at change n (seen_in live.entries)) (tasks_in live_new.entries) mount spent = ap (λ (gs : List (ℕ × SeenGraph)). seen_with (keys live) gs (tasks_in live_new.entries) mount spent) graphs in
    let same : seen_with (keys live) (changed_at change n (seen_in live.entries)) (tasks_in live_new.entries) mount spent ≡ seen_with (keys live) (changed_at change n (seen_in live.entries)) (tasks_in live.entries) mount spent = ap (λ (ts : List (ℕ × ℕ)). seen_with (keys live) (changed_at change n (seen_in live.entries)) ts mount spent) tasks in
    let old_is : seen_with (keys live) (changed_at change n (seen_in live.entries)) (tasks_in live.entries) mount spent ≡ record old { graphs = changed_at change n old.graphs } = ap (λ (m : Mounted). record m { graphs = changed_at change n m.graphs }) view in
    numbered ∙ changed ∙ same ∙ old_is
