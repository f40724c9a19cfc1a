-- What contracts see of the graphs of a mount: their numbers, rising, the graphs by these numbers, the ready tasks by graph and
-- then by node, the inodes in use, the accepted changes with an effect, in the order in which they were decided, and whether the
-- graphs are spent: a call failed, and none does anything from then on. Of frames it is seen only whether a graph has one. Ours.
use Rattle.std.specs.Prelude.{ℕ, ◌≡◌, Bool, true, false, List, refl}
use Rattle.std.specs.BTreeMap.{is_at}
use Rattle.std.specs.List.{list_any}
use Rattle.std.specs.Ordering.{nat_cmp}
use Rattle.std.specs.Coded.{Coded, code_by, coded×, coded_ℕ, coded_bool, coded_list}
use Rattle.fop_types.specs.declared.history.Entry.{Entry}
use Rattle.inode_table.specs.Inodes.{Inodes, inodes_code}
use Rattle.graph_nodes.specs.Seen.{SeenGraph, seen_code}

-- whether there is a graph of this number
abbrev pub has : List ℕ → ℕ → Bool
has numbers n = list_any (is_at (nat_cmp n)) numbers

pub record Mounted : Type 0 where
  pub numbers : List ℕ
  pub graphs : List (ℕ × SeenGraph)
  pub tasks : List (ℕ × ℕ)
  pub inodes : Inodes
  pub history : List Entry
  pub spent : Bool

-- how one is distinguished from another: by its fields
abbrev pub entry_code : Coded Entry
entry_code = code_by (ℕ × ℕ) (coded× coded_ℕ coded_ℕ) (λ e. (e.call, e.part)) (λ p. record { call = p.0; part = p.1 }) (λ _. refl)

abbrev pub mounted_code : Coded Mounted
mounted_code =
    code_by (List ℕ × (List (ℕ × SeenGraph) × (List (ℕ × ℕ) × (Inodes × (List Entry × Bool))))) (coded× (coded_list coded_ℕ) (coded× (coded_list (coded× coded_ℕ seen_code)) (coded× (coded_list (coded× coded_ℕ coded_ℕ)) (coded× inodes_code (coded× (coded_list entry_code) coded_bool)))))
    (λ m. (m.numbers, (m.graphs, (m.tasks, (m.inodes, (m.history, m.spent)))))) (λ p. record { numbers = p.0; graphs = p.1.0; tasks = p.1.1.0; inodes = p.1.1.1.0; history = p.1.1.1.1.0; spent = p.1.1.1.1.1 }) (λ _. refl)

-- a call that was made: the graphs were not spent, and are the same ones
pub record KeepsMounted (old new : Mounted) : Type 0 where
  pub fresh : old.spent ≡ false
  pub numbers : new.numbers ≡ old.numbers
  pub inodes : new.inodes ≡ old.inodes
  pub usable : new.spent ≡ false

-- a call that failed: the graphs are spent
pub record IsSpentBy (old new : Mounted) : Type 0 where
  pub numbers : new.numbers ≡ old.numbers
  pub inodes : new.inodes ≡ old.inodes
  pub spent : new.spent ≡ true
