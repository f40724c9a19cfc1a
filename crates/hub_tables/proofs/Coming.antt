-- The actions that wait for a request are moved one after another, each time the first of them.
use Rattle.std.proofs.Common.{◌≡◌, ℕ, suc, ◌+◌, ◌-◌, ◌≤◌, Bool, true, false, cond, List, [], ◌∷◌, Option, Some, None, is_some, refl, sym, ap, ◌∙◌, subst, length, arith, if◌then◌else◌}
use Rattle.std.specs.Ordering.{nat_cmp}
use Rattle.std.specs.BTreeMap.{insert_entry, is_at}
use Rattle.std.specs.Map.{lookup, remove_entry}
use Rattle.script_lang.specs.declared.scripts.Action.{Action}
use Rattle.hub_tables.specs.PhaseControls.{rank_cmp, is_request, first_of_request, coming, waiting}
use Rattle.hub_tables.specs.declared.controls.Rank.{Rank}
use Rattle.hub_tables.specs.declared.requests.Nth.{Nth}
use Rattle.hub_tables.proofs.Orders.{rank_itself, rank_is}
use Rattle.hub_tables.proofs.Ranks.{found_there}

module _ (request : Nth) where
  -- what is found is there
  pub never_gone : (es : List (Rank × Action)) (r : Rank) → first_of_request es request ≡ Some r → lookup (is_at (rank_cmp r)) es ≡ None → ⊥
  never_gone es r first gone = let t : false ≡ true = sym (ap is_some gone) ∙ (found_there request es r first).1 in absurd cc

  -- where none waits, none comes
  pub none_come : (es : List (Rank × Action)) (come : List (ℕ × Action)) → first_of_request es request ≡ None → coming es request come ≡ come
  none_come [] come none = refl
  none_come (e ∷ es) come none = by (is_request e.0.request request) none (λ later. none_come es come later) where
    by : (b : Bool) → (if b then Some e.0 else first_of_request es request) ≡ None → (first_of_request es request ≡ None → coming es request come ≡ come)
        → coming es request (if b then insert_entry nat_cmp come e.0.order e.1 else come) ≡ come
    by true none rest = absurd cc
    by false none rest = rest none

  pub all_wait : (es : List (Rank × Action)) → first_of_request es request ≡ None → waiting es request ≡ es
  all_wait [] none = refl
  all_wait (e ∷ es) none = by (is_request e.0.request request) none (λ later. all_wait es later) where
    by : (b : Bool) → (if b then Some e.0 else first_of_request es request) ≡ None → (first_of_request es request ≡ None → waiting es request ≡ es)
        → (if b then waiting es request else e ∷ waiting es request) ≡ e ∷ es
    by true none rest = absurd cc
    by false none rest = ap (λ (l : List (Rank × Action)). e ∷ l) (rest none)

  -- the first that waits is moved
  pub one_comes : (es : List (Rank × Action)) (come : List (ℕ × Action)) (r : Rank) (a : Action) → first_of_request es request ≡ Some r → lookup (is_at (rank_cmp r)) es ≡ Some a
      → coming (remove_entry (is_at (rank_cmp r)) es) request (insert_entry nat_cmp come r.order a) ≡ coming es request come
  one_comes [] come r a first found = absurd cc
  one_comes (e ∷ es) come r a first found = by (is_request e.0.request request) refl (is_at (rank_cmp r) e.0) refl first found (λ f l. one_comes es come r a f l) where
    by : (b : Bool) → is_request e.0.request request ≡ b → (i : Bool) → is_at (rank_cmp r) e.0 ≡ i
        → (if b then Some e.0 else first_of_request es request) ≡ Some r → cond i (Some e.1) (lookup (is_at (rank_cmp r)) es) ≡ Some a
        → (first_of_request es request ≡ Some r → lookup (is_at (rank_cmp r)) es ≡ Some a → coming (remove_entry (is_at (rank_cmp r)) es) request (insert_entry nat_cmp come r.order a) ≡ coming es request come)
        → coming (cond i es (e ∷ remove_entry (is_at (rank_cmp r)) es)) request (insert_entry nat_cmp come r.order a) ≡ coming es request (if b then insert_entry nat_cmp come e.0.order e.1 else come)
    by true of_it true here first found rest =
        let this : e.0 ≡ r = cc in
        let value : e.1 ≡ a = cc in
        ap (λ (q : Rank). coming es request (insert_entry nat_cmp come q.order a)) (sym this) ∙ ap (λ (v : Action). coming es request (insert_entry nat_cmp come e.0.order v)) (sym value)
    by true of_it false here first found rest =
        let this : e.0 ≡ r = cc in
        absurd (let t : true ≡ false = sym (rank_itself r) ∙ sym (ap (is_at (rank_cmp r)) this) ∙ here in cc)
    by false of_it true here first found rest = absurd (let t : true ≡ false = sym (found_there request es r first).0 ∙ ap (λ (q : Rank). is_request q.request request) (rank_is r e.0 here) ∙ of_it in cc)
    by false of_it false here first found rest = ap (λ (b : Bool). coming (remove_entry (is_at (rank_cmp r)) es) request (if b then insert_entry nat_cmp (insert_entry nat_cmp come r.order a) e.0.order e.1 else insert_entry nat_cmp come r.order a)) of_it ∙ rest first found

  pub one_waits_no_more : (es : List (Rank × Action)) (r : Rank) → first_of_request es request ≡ Some r → waiting (remove_entry (is_at (rank_cmp r)) es) request ≡ waiting es request
  one_waits_no_more [] r first = absurd cc
  one_waits_no_more (e ∷ es) r first = by (is_request e.0.request request) refl (is_at (rank_cmp r) e.0) refl first (λ f. one_waits_no_more es r f) where
    by : (b : Bool) → is_request e.0.request request ≡ b → (i : Bool) → is_at (rank_cmp r) e.0 ≡ i
        → (if b then Some e.0 else first_of_request es request) ≡ Some r
        → (first_of_request es request ≡ Some r → waiting (remove_entry (is_at (rank_cmp r)) es) request ≡ waiting es request)
        → waiting (cond i es (e ∷ remove_entry (is_at (rank_cmp r)) es)) request ≡ (if b then waiting es request else e ∷ waiting es request)
    by true of_it true here first rest = refl
    by true of_it false here first rest =
        let this : e.0 ≡ r = cc in
        absurd (let t : true ≡ false = sym (rank_itself r) ∙ sym (ap (is_at (rank_cmp r)) this) ∙ here in cc)
    by false of_it true here first rest = absurd (let t : true ≡ false = sym (found_there request es r first).0 ∙ ap (λ (q : Rank). is_request q.request request) (rank_is r e.0 here) ∙ of_it in cc)
    by false of_it false here first rest =
        ap (λ (b : Bool). if b then waiting (remove_entry (is_at (rank_cmp r)) es) request else e ∷ waiting (remove_entry (is_at (rank_cmp r)) es) request) of_it
        ∙ ap (λ (l : List (Rank × Action)). e ∷ l) (rest first)
