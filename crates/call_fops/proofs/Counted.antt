-- Each lookup that found its object is one component fewer to be looked up.
use Rattle.std.proofs.Common.{◌≡◌, ◌∷◌, refl, subst, ◌∙◌, ℕ, ◌+◌, ◌-◌, ◌<◌, ◌≤◌, List, [], length, slice_get, arith}
use Rattle.std.specs.Prelude.{Option, Some, None}
use Rattle.std.specs.Option.{option_or}
use Rattle.std.proofs.lemmas.Option.{slice_get_within}
use Rattle.fop_types.specs.Calls.{looked_up, lookups}
use Rattle.fop_types.specs.Files.{Files}
use Rattle.fop_types.specs.declared.calls.Call.{Call}
use Rattle.call_fops.specs.Counts.{LookupsAreCounted}
use Rattle.call_fops.specs.Lawful.{Sight, IsSeen, AreSeen, walk_after}
use Rattle.call_fops.specs.Walks.{Walked, begun, first_path, second_path, on_first, on_second, parent_by, stepped, stepped_by}
use Rattle.call_fops.proofs.Legs.{AreFew, few_paths, past}

-- after n lookups, of `all`, on paths p and q
record Counted (p q : List (List ℕ)) (all n : ℕ) (w : Walked) : Type 0 where
  first : w.first.found ≤ length p
  second : w.second.found ≤ length q
  left : n + (length p - w.first.found) + (length q - w.second.found) ≡ all

one_more : (p q : List (List ℕ)) (all n : ℕ) (w : Walked) (files : ℕ → Files) (s : Sight) (one two : Option (List ℕ))
    → slice_get p w.first.found ≡ one → slice_get q w.second.found ≡ two → IsSeen files (parent_by one w) (option_or one two) s
    → Counted p q all n w → Counted p q all (n + 1) (stepped_by one two w s.object)
one_more p q all n w files s (Some name) two e f seen so =
    let low = slice_get_within p w.first.found name e in
    let a = so.first in let b = so.second in let d = so.left in
    record { first = omega arith; second = b; left = omega arith }
one_more p q all n w files s None (Some name) e f seen so =
    let low = slice_get_within q w.second.found name f in
    let a = so.first in let b = so.second in let d = so.left in
    record { first = a; second = omega arith; left = omega arith }
one_more p q all n w files s None None e f seen so = absurd seen

abbrev firsts : Call → List (List ℕ)
firsts c = first_path (looked_up c)

abbrev seconds : Call → List (List ℕ)
seconds c = second_path (looked_up c)

all_more : (files : ℕ → Files) (c : Call) (w : Walked) (seen : List Sight) (all n : ℕ) → AreSeen files c w seen
    → Counted (firsts c) (seconds c) all n w → Counted (firsts c) (seconds c) all (n + length seen) (walk_after c w seen)
all_more files c w [] all n h so =
    let same : n ≡ n + 0 = omega arith in subst (λ (k : ℕ). Counted (firsts c) (seconds c) all k w) same so
all_more files c w (s ∷ seen) all n h so =
    let one = one_more (firsts c) (seconds c) all n w files s (on_first c w) (on_second c w) refl refl h.0 so in
    let same : (n + 1) + length seen ≡ n + length (s ∷ seen) = omega arith in
    subst (λ (k : ℕ). Counted (firsts c) (seconds c) all k (walk_after c w (s ∷ seen))) same
    (all_more files c (stepped c w s.object) seen all (n + 1) h.1 one)

two_lengths : (paths : List (List (List ℕ))) → AreFew paths → length (first_path paths) + length (second_path paths) ≡ lookups paths
two_lengths [] few = refl
two_lengths (p ∷ []) few = refl
two_lengths (p ∷ q ∷ []) few = omega arith
two_lengths (p ∷ q ∷ r ∷ ps) few = absurd few

at_start : (c : Call) → Counted (firsts c) (seconds c) (lookups (looked_up c)) 0 begun
at_start c =
    let both = two_lengths (looked_up c) (few_paths c) in
    record { first = omega arith; second = omega arith; left = omega arith }

counted : (files : ℕ → Files) (c : Call) (seen : List Sight) → AreSeen files c begun seen
    → Counted (firsts c) (seconds c) (lookups (looked_up c)) (length seen) (walk_after c begun seen)
counted files c seen h =
    let same : 0 + length seen ≡ length seen = omega arith in
    subst (λ (k : ℕ). Counted (firsts c) (seconds c) (lookups (looked_up c)) k (walk_after c begun seen)) same
    (all_more files c begun seen (lookups (looked_up c)) 0 h (at_start c))

most : (files : ℕ → Files) (c : Call) (seen : List Sight) → AreSeen files c begun seen → length seen ≤ lookups (looked_up c)
most files c seen h = let d = (counted files c seen h).left in omega arith

some_left : (p q : List (List ℕ)) (all n : ℕ) (w : Walked) (name : List ℕ) (one two : Option (List ℕ))
    → slice_get p w.first.found ≡ one → slice_get q w.second.found ≡ two → option_or one two ≡ Some name → Counted p q all n w → n < all
some_left p q all n w name (Some x) two e f is so =
    let low = slice_get_within p w.first.found x e in let d = so.left in omega arith
some_left p q all n w name None two e f is so =
    let low = slice_get_within q w.second.found name (f ∙ is) in let d = so.left in omega arith

none_left : (p q : List (List ℕ)) (all n : ℕ) (w : Walked) (one two : Option (List ℕ))
    → slice_get p w.first.found ≡ one → slice_get q w.second.found ≡ two → option_or one two ≡ None → Counted p q all n w → n ≡ all
none_left p q all n w (Some x) two e f is so = absurd cc
none_left p q all n w None two e f is so =
    let a = past p w.first.found e in let b = past q w.second.found (f ∙ is) in let d = so.left in omega arith

pub lookups_are_counted : LookupsAreCounted
lookups_are_counted = record {
  most = most;
  fewer = λ files c seen name h is. some_left (firsts c) (seconds c) (lookups (looked_up c)) (length seen) (walk_after c begun seen) name
      (on_first c (walk_after c begun seen)) (on_second c (walk_after c begun seen)) refl refl is (counted files c seen h);
  all = λ files c seen h is. none_left (firsts c) (seconds c) (lookups (looked_up c)) (length seen) (walk_after c begun seen)
      (on_first c (walk_after c begun seen)) (on_second c (walk_after c begun seen)) refl refl is (counted files c seen h);
}
