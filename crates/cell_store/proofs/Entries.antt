-- A map's entries in the order of keys: a value written in place against one put in, and the ways back.
use Rattle.std.proofs.Common.{◌≡◌, ◌∷◌, ◌∙◌, true, false, true≢false, sym, refl, ap, List, []}
use Rattle.std.specs.Prelude.{Bool, Some, None, is_some, cond}
use Rattle.std.specs.declared.cmp.Ordering.{Ordering}
use Rattle.std.specs.declared.cmp.Ordering.TheVariants.{Less, Equal, Greater}
use Rattle.std.specs.Ordering.{is_eq}
use Rattle.std.specs.Cmp.{IsTotalOrder, tied_itself}
use Rattle.std.specs.List.Sorted.{IsStrictlySortedBy}
use Rattle.std.specs.Map.{lookup, set_value, remove_entry, keys_of}
use Rattle.std.specs.BTreeMap.{insert_entry, is_at}
use Rattle.std.proofs.lemmas.Map.{lookup-none}
use Rattle.std.proofs.lemmas.Map.Keys.{sorted_tail}
use Rattle.std.proofs.lemmas.Map.Entries.{none_below_head}
use Rattle.std.proofs.lemmas.Map.Steps.{set_value_same}

module _ {K X : Type 0} where
  lookup_set_by : (test : K → Bool) (e : K × X) (es : List (K × X)) (w : X) (b : Bool) → test e.0 ≡ b
      → (is_some (lookup test es) ≡ true → lookup test (set_value test es w) ≡ Some w)
      → is_some (lookup test (e ∷ es)) ≡ true → lookup test (set_value test (e ∷ es) w) ≡ Some w
  lookup_set_by test e es w true t rest h = rw t (rw t refl)
  lookup_set_by test e es w false t rest h =
      let later : is_some (lookup test es) ≡ true = sym (ap (λ (c : Bool). is_some (cond c (Some e.1) (lookup test es))) t) ∙ h in
      rw t (rw t (rest later))

  -- what was written in place is found there
  pub lookup_set : (test : K → Bool) (es : List (K × X)) (w : X) → is_some (lookup test es) ≡ true → lookup test (set_value test es w) ≡ Some w
  lookup_set test [] w h = absurd (true≢false (sym h))
  lookup_set test (e ∷ es) w h = lookup_set_by test e es w (test e.0) refl (lookup_set test es w) h

  set_twice_by : (test : K → Bool) (e : K × X) (es : List (K × X)) (w v : X) (b : Bool) → test e.0 ≡ b
      → set_value test (set_value test es w) v ≡ set_value test es v
      → set_value test (set_value test (e ∷ es) w) v ≡ set_value test (e ∷ es) v
  set_twice_by test e es w v true t rest = rw t (rw t refl)
  set_twice_by test e es w v false t rest = rw t (rw t (ap (λ (l : List (K × X)). e ∷ l) rest))

  -- of two values written in place the second stays
  pub set_twice : (test : K → Bool) (es : List (K × X)) (w v : X) → set_value test (set_value test es w) v ≡ set_value test es v
  set_twice test [] w v = refl
  set_twice test (e ∷ es) w v = set_twice_by test e es w v (test e.0) refl (set_twice test es w v)

  set_missing_by : (test : K → Bool) (e : K × X) (es : List (K × X)) (w : X) (b : Bool) → test e.0 ≡ b
      → (lookup test es ≡ None → set_value test es w ≡ es)
      → lookup test (e ∷ es) ≡ None → set_value test (e ∷ es) w ≡ e ∷ es
  set_missing_by test e es w true t rest h =
      let found : Some e.1 ≡ None = sym (ap (λ (c : Bool). cond c (Some e.1) (lookup test es)) t) ∙ h in
      absurd (true≢false (ap is_some found))
  set_missing_by test e es w false t rest h =
      let later : lookup test es ≡ None = sym (ap (λ (c : Bool). cond c (Some e.1) (lookup test es)) t) ∙ h in
      rw t (ap (λ (l : List (K × X)). e ∷ l) (rest later))

  -- where no key passes nothing is written
  pub set_missing : (test : K → Bool) (es : List (K × X)) (w : X) → lookup test es ≡ None → set_value test es w ≡ es
  set_missing test [] w h = refl
  set_missing test (e ∷ es) w h = set_missing_by test e es w (test e.0) refl (set_missing test es w) h

  -- an earlier value written back
  pub set_back : (test : K → Bool) (es : List (K × X)) (w v : X) → lookup test es ≡ Some v → set_value test (set_value test es w) v ≡ es
  set_back test es w v h = set_twice test es w v ∙ set_value_same test es v h

module _ {K X : Type 0} (R : K → K → Ordering) (o : IsTotalOrder R) where
  set_is_insert_by : (e : K × X) (es : List (K × X)) (k : K) (w : X) (r : Ordering) → R k e.0 ≡ r → IsStrictlySortedBy R (keys_of (e ∷ es))
      → is_some (lookup (is_at (R k)) (e ∷ es)) ≡ true
      → (is_some (lookup (is_at (R k)) es) ≡ true → set_value (is_at (R k)) es w ≡ insert_entry R es k w)
      → set_value (is_at (R k)) (e ∷ es) w ≡ insert_entry R (e ∷ es) k w
  set_is_insert_by e es k w Less t s h rest =
      absurd (true≢false (sym h ∙ ap is_some (lookup-none (is_at (R k)) (e ∷ es) (none_below_head o k e es s t))))
  set_is_insert_by e es k w Equal t s h rest = rw t refl
  set_is_insert_by e es k w Greater t s h rest =
      let later : is_some (lookup (is_at (R k)) es) ≡ true = sym (ap (λ (c : Ordering). is_some (cond (is_eq c) (Some e.1) (lookup (is_at (R k)) es))) t) ∙ h in
      rw t (ap (λ (l : List (K × X)). e ∷ l) (rest later))

  -- where the key is there a value written in place is the value put in
  pub set_is_insert : (es : List (K × X)) (k : K) (w : X) → IsStrictlySortedBy R (keys_of es) → is_some (lookup (is_at (R k)) es) ≡ true
      → set_value (is_at (R k)) es w ≡ insert_entry R es k w
  set_is_insert [] k w s h = absurd (true≢false (sym h))
  set_is_insert (e ∷ es) k w s h =
      set_is_insert_by e es k w (R k e.0) refl s h (λ later. set_is_insert es k w (sorted_tail R e.0 (keys_of es) s) later)

  remove_new_by : (e : K × X) (es : List (K × X)) (k : K) (v : X) (r : Ordering) → R k e.0 ≡ r
      → lookup (is_at (R k)) (e ∷ es) ≡ None
      → (lookup (is_at (R k)) es ≡ None → remove_entry (is_at (R k)) (insert_entry R es k v) ≡ es)
      → remove_entry (is_at (R k)) (insert_entry R (e ∷ es) k v) ≡ e ∷ es
  remove_new_by e es k v Less t h rest = rw t (rw (tied_itself o k) refl)
  remove_new_by e es k v Equal t h rest =
      let found : Some e.1 ≡ None = sym (ap (λ (c : Ordering). cond (is_eq c) (Some e.1) (lookup (is_at (R k)) es)) t) ∙ h in
      absurd (true≢false (ap is_some found))
  remove_new_by e es k v Greater t h rest =
      let later : lookup (is_at (R k)) es ≡ None = sym (ap (λ (c : Ordering). cond (is_eq c) (Some e.1) (lookup (is_at (R k)) es)) t) ∙ h in
      rw t (rw t (ap (λ (l : List (K × X)). e ∷ l) (rest later)))

  -- a new entry that is taken out again
  pub remove_new : (es : List (K × X)) (k : K) (v : X) → lookup (is_at (R k)) es ≡ None → remove_entry (is_at (R k)) (insert_entry R es k v) ≡ es
  remove_new [] k v h = rw (tied_itself o k) refl
  remove_new (e ∷ es) k v h = remove_new_by e es k v (R k e.0) refl h (remove_new es k v)
