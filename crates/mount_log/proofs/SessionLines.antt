-- The lines of sessions, as they are shared out.
use Rattle.std.proofs.Common.{◌≡◌, ◌≢◌, ℕ, zero, suc, ◌+◌, ◌-◌, ◌<◌, ◌≤◌, inl, inr, ◌==◌, Bool, true, false, ◌&&◌, ◌||◌, not, nat_lt, if◌then◌else◌, List, [], ◌∷◌, ◌++◌, length, map, take, slice_get, slice_index_or, slice_set, option_map, option_to_list, IfSome, IfNone, Option, Some, None, is_some, refl, sym, ap, ap₂, ◌∙◌, arith, ltb-true, eqb-true, eq-eqb, ne_eqb, lt-ltb, le-ltb, append_assoc, append-nil, take-suc, length-take-le, subst, ◌⊎◌, ⊎_elim}
use Rattle.std.proofs.lemmas.Bool.{cases_eq}
use Rattle.std.proofs.lemmas.List.{map-set, get_or-set_same, get_or-set_other, length-set, length-map, get_or_past, get_or-map}
use Rattle.std.proofs.Math.Seq.{map-set_same}
use Rattle.std.proofs.lemmas.Option.{slice_get-map, slice_get_within, get_or_from_slice_get}
use Rattle.std.specs.List.{AllByRecursion}
use Rattle.script_lang.specs.declared.scripts.CallLine.{CallLine}
use Rattle.mount_log.specs.declared.places.LineAt.{LineAt}
use Rattle.mount_log.specs.Lines.{queue_of, places_in, TakesLine}

module _ {A : Type 0} (f : A → List LineAt) where
  pub queue_in : (qs : List A) (i : ℕ) (q : A) → slice_get qs i ≡ Some q → queue_of (map f qs) i ≡ f q
  queue_in qs i q e = get_or_from_slice_get (map f qs) i (f q) [] (slice_get-map f qs i ∙ ap (option_map f) e)

  pub queue_past : (qs : List A) (i : ℕ) → length qs ≤ i → queue_of (map f qs) i ≡ []
  queue_past qs i past = get_or_past (map f qs) i [] (omega (arith, length-map qs f))

  -- one queue has lost its first line
  pub takes_line : (qs : List A) (i : ℕ) (q : A) (at : LineAt) → i < length qs → queue_of (map f qs) i ≡ at ∷ f q → TakesLine (map f qs) i at (map f (slice_set qs i q))
  takes_line qs i q at fits e = record {
    line = e ∙ ap (λ (rest : List LineAt). at ∷ rest) (sym (ap (λ (l : List (List LineAt)). queue_of l i) (map-set f qs i q) ∙ get_or-set_same (map f qs) i (f q) [] (omega (arith, length-map qs f))));
    others = λ other apart. ap (λ (l : List (List LineAt)). queue_of l other) (map-set f qs i q) ∙ get_or-set_other (map f qs) i other (f q) [] apart;
    sessions = ap length (map-set f qs i q) ∙ length-set (map f qs) i (f q);
  }

  queue_at : (qs : List A) (i : ℕ) (q : A) → i < length qs → q ≡ slice_index_or qs i q → queue_of (map f qs) i ≡ f q
  queue_at qs i q fits is = get_or-map f qs i q [] fits ∙ ap f (sym is)

  pub pops_taken : (qs : List A) (i : ℕ) (q new : A) (r : Option LineAt) → i < length qs → q ≡ slice_index_or qs i q → f q ≡ option_to_list r ++ f new → IfSome r (λ at. TakesLine (map f qs) i at (map f (slice_set qs i new)))
  pops_taken qs i q new None fits is pops = tt
  pops_taken qs i q new (Some at) fits is pops = takes_line qs i new at fits (queue_at qs i q fits is ∙ pops)

  pub pops_none : (qs : List A) (i : ℕ) (q new : A) (r : Option LineAt) → q ≡ slice_index_or qs i q → f q ≡ option_to_list r ++ f new → IfNone r (map f (slice_set qs i new) ≡ map f qs)
  pops_none qs i q new None is pops = map-set_same f qs i new q (sym pops ∙ ap f is)
  pops_none qs i q new (Some at) is pops = tt

-- ---- lines that are shared out

abbrev pub place_if : ℕ → ℕ → ℕ → CallLine → List LineAt
place_if session phase index line = if line.session == session then record { phase = phase; index = index } ∷ [] else []

cons_if : (b : Bool) (x : LineAt) (xs : List LineAt) → (if b then x ∷ xs else xs) ≡ (if b then x ∷ [] else []) ++ xs
cons_if true x xs = refl
cons_if false x xs = refl

pub places_push : (session phase index : ℕ) (calls : List CallLine) (line : CallLine) → places_in session phase index (calls ++ line ∷ []) ≡ places_in session phase index calls ++ place_if session phase (index + length calls) line
places_push session phase index [] line =
    let e : index ≡ index + 0 = omega arith in
    cons_if (line.session == session) (record { phase = phase; index = index }) [] ∙ append-nil (place_if session phase index line) ∙ ap (λ (n : ℕ). place_if session phase n line) e
places_push session phase index (c ∷ cs) line =
    let e : index + 1 + length cs ≡ index + suc (length cs) = omega arith in
    let x : LineAt = record { phase = phase; index = index } in
    let more = places_in session phase (index + 1) cs in
    let last = place_if session phase (index + suc (length cs)) line in
    ap (λ (l : List LineAt). if c.session == session then x ∷ l else l) (places_push session phase (index + 1) cs line ∙ ap (λ (n : ℕ). more ++ place_if session phase n line) e)
    ∙ cons_if (c.session == session) x (more ++ last)
    ∙ sym (append_assoc (if c.session == session then x ∷ [] else []) more last)
    ∙ ap (λ (l : List LineAt). l ++ last) (sym (cons_if (c.session == session) x more))

-- the next line goes to the queue of its session
pub share_next : (phase i : ℕ) (old now new : List (List LineAt)) (calls : List CallLine) (line : CallLine)
    → ((s : ℕ) → queue_of now s ≡ queue_of old s ++ places_in s phase 0 calls) → length calls ≡ i
    → queue_of new line.session ≡ queue_of now line.session ++ record { phase = phase; index = i } ∷ []
    → ((other : ℕ) → other ≢ line.session → queue_of new other ≡ queue_of now other)
    → (s : ℕ) → queue_of new s ≡ queue_of old s ++ places_in s phase 0 (calls ++ line ∷ [])
share_next phase i old now new calls line so_far long here others s = by (cases_eq line.session s)
  where
    long_is : 0 + length calls ≡ i
    long_is = omega (arith, long)

    pushed : places_in s phase 0 (calls ++ line ∷ []) ≡ places_in s phase 0 calls ++ place_if s phase i line
    pushed = places_push s phase 0 calls line ∙ ap (λ (n : ℕ). places_in s phase 0 calls ++ place_if s phase n line) long_is

    by : (line.session ≡ s) ⊎ (line.session ≡ s → ⊥) → queue_of new s ≡ queue_of old s ++ places_in s phase 0 (calls ++ line ∷ [])
    by (inl e) =
        let x : LineAt = record { phase = phase; index = i } in
        let same : place_if s phase i line ≡ x ∷ [] = ap (λ (b : Bool). if b then x ∷ [] else []) (eq-eqb line.session s e) in
        let there : queue_of new s ≡ queue_of now s ++ x ∷ [] = subst (λ (k : ℕ). queue_of new k ≡ queue_of now k ++ x ∷ []) e here in
        there ∙ ap (λ (l : List LineAt). l ++ x ∷ []) (so_far s) ∙ append_assoc (queue_of old s) (places_in s phase 0 calls) (x ∷ [])
        ∙ ap (λ (l : List LineAt). queue_of old s ++ l) (ap (λ (l : List LineAt). places_in s phase 0 calls ++ l) (sym same) ∙ sym pushed)
    by (inr d) =
        let x : LineAt = record { phase = phase; index = i } in
        let none : place_if s phase i line ≡ [] = ap (λ (b : Bool). if b then x ∷ [] else []) (ne_eqb line.session s d) in
        others s (λ e. d (sym e)) ∙ so_far s
        ∙ ap (λ (l : List LineAt). queue_of old s ++ l) (sym (append-nil (places_in s phase 0 calls)) ∙ ap (λ (l : List LineAt). places_in s phase 0 calls ++ l) (sym none) ∙ sym pushed)

abbrev the_line : ℕ → ℕ → LineAt
the_line phase index = record { phase = phase; index = index }

one_more : (n : ℕ) → n + 1 ≡ suc n
one_more n = omega arith

module _ {A : Type 0} (f : A → List LineAt) where
  pub share_step : (phase i : ℕ) (old : List (List LineAt)) (qs : List A) (q : A) (calls : List CallLine) (line : CallLine) → i < length calls → line ≡ slice_index_or calls i line → line.session < length qs
      → f q ≡ queue_of (map f qs) line.session ++ record { phase = phase; index = i } ∷ []
      → ((s : ℕ) → queue_of (map f qs) s ≡ queue_of old s ++ places_in s phase 0 (take i calls))
      → (s : ℕ) → queue_of (map f (slice_set qs line.session q)) s ≡ queue_of old s ++ places_in s phase 0 (take (i + 1) calls)
  share_step phase i old qs q calls line fits is low pushes so_far s =
      let new = map f (slice_set qs line.session q) in
      let more : take (i + 1) calls ≡ take i calls ++ line ∷ [] = ap (λ (n : ℕ). take n calls) (one_more i) ∙ take-suc calls i line fits ∙ ap (λ (x : CallLine). take i calls ++ x ∷ []) (sym is) in
      let here : queue_of new line.session ≡ queue_of (map f qs) line.session ++ record { phase = phase; index = i } ∷ [] =
      ap (λ (l : List (List LineAt)). queue_of l line.session) (map-set f qs line.session q) ∙ get_or-set_same (map f qs) line.session (f q) [] (omega (arith, length-map qs f)) ∙ pushes in
      let others : (other : ℕ) → other ≢ line.session → queue_of new other ≡ queue_of (map f qs) other =
      λ other apart. ap (λ (l : List (List LineAt)). queue_of l other) (map-set f qs line.session q) ∙ get_or-set_other (map f qs) line.session other (f q) [] apart in
      share_next phase i old (map f qs) new (take i calls) line so_far (length-take-le i calls (omega arith)) here others s
      ∙ ap (λ (l : List CallLine). queue_of old s ++ places_in s phase 0 l) (sym more)

  pub share_at : (phase i : ℕ) (old : List (List LineAt)) (qs : List A) (before q : A) (at : LineAt) (calls : List CallLine) (line : CallLine) → i < length calls → line ≡ slice_index_or calls i line → line.session < length qs
      → before ≡ slice_index_or qs line.session before → f q ≡ f before ++ at ∷ [] → at.phase ≡ phase → at.index ≡ i
      → ((s : ℕ) → queue_of (map f qs) s ≡ queue_of old s ++ places_in s phase 0 (take i calls))
      → (s : ℕ) → queue_of (map f (slice_set qs line.session q)) s ≡ queue_of old s ++ places_in s phase 0 (take (i + 1) calls)
  share_at phase i old qs before q at calls line fits is low there pushes phase_is index_is so_far =
      let at_is : at ≡ the_line phase i = ap₂ the_line phase_is index_is in
      share_step phase i old qs q calls line fits is low
      (pushes ∙ ap (λ (l : List LineAt). l ++ at ∷ []) (sym (queue_at f qs line.session before low there)) ∙ ap (λ (x : LineAt). queue_of (map f qs) line.session ++ x ∷ []) at_is)
      so_far

pub below_at : (n : ℕ) (calls : List CallLine) (i : ℕ) (d : CallLine) → AllByRecursion (λ (line : CallLine). line.session < n) calls → i < length calls → (slice_index_or calls i d).session < n
below_at n [] i d h fits = absurd (omega arith)
below_at n (c ∷ calls) zero d h fits = h.0
below_at n (c ∷ calls) (suc i) d h fits = below_at n calls i d h.1 (omega (arith, fits))
