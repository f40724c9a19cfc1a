-- The lookups that are left to a walk, one path after another, and what one lookup makes of them.
use Rattle.std.proofs.Common.{◌≡◌, ◌∷◌, ◌⊎◌, inl, inr, refl, sym, ap, ◌∙◌, ℕ, ◌+◌, ◌<◌, ◌≤◌, suc, List, [], length, drop, get_or, slice_get, drop-cons, arith}
use Rattle.std.specs.Prelude.{Option, Some, None}
use Rattle.std.specs.Option.{option_or}
use Rattle.std.proofs.Math.ListN.{drop_of_length-le}
use Rattle.std.proofs.lemmas.Option.{slice_get_within, get_or_from_slice_get, slice_get_cases}
use Rattle.fop_types.specs.Calls.{looked_up}
use Rattle.fop_types.specs.Files.{Files}
use Rattle.fop_types.specs.Flat.{flat_answer}
use Rattle.fop_types.specs.History.{Walk, walk_path, walk, after_lookup, after_path, with_found}
use Rattle.fop_types.specs.History.Walk.{Reached, Stopped, Short}
use Rattle.fop_types.specs.declared.answers.AppError.{AppError}
use Rattle.fop_types.specs.declared.answers.Answer.TheVariants as answers
use Rattle.fop_types.specs.declared.calls.Call.{Call}
use Rattle.fop_types.specs.declared.calls.Call.TheVariants as call
use Rattle.fop_types.specs.declared.flat.FlatAnswer.{FlatAnswer}
use Rattle.fop_types.specs.declared.flat.FlatAnswer.TheVariants as flat_answers
use Rattle.fop_types.specs.declared.flat.FlatOp.TheVariants.{Lookup}
use Rattle.fop_types.specs.declared.fops.Object.{Object}
use Rattle.call_fops.specs.Lawful.{Sight, IsSeen}
use Rattle.call_fops.specs.Walks.{Leg, Walked, begun, first_path, second_path, onto, stepped_by, parent_by, reached_on}

-- ---- one path

-- at a component that is there
pub drop_at : (path : List (List ℕ)) (i : ℕ) (name : List ℕ) → slice_get path i ≡ Some name → drop i path ≡ name ∷ drop (i + 1) path
drop_at path i name is =
    let one : suc i ≡ i + 1 = omega arith in
    drop-cons path i name (slice_get_within path i name is)
    ∙ ap (λ (n : List ℕ). n ∷ drop (suc i) path) (get_or_from_slice_get path i name name is)
    ∙ ap (λ (k : ℕ). name ∷ drop k path) one

past_by : (path : List (List ℕ)) (i : ℕ) → slice_get path i ≡ None
    → ((x : List ℕ) × (i < length path) × (slice_get path i ≡ Some x) × (get_or path i x ≡ x)) ⊎ ((length path ≤ i) × (slice_get path i ≡ None)) → length path ≤ i
past_by path i none (inl h) = let e : ◌≡◌ {A = Option (List ℕ)} None (Some h.0) = sym none ∙ h.2 in absurd cc
past_by path i none (inr h) = h.0

pub past : (path : List (List ℕ)) (i : ℕ) → slice_get path i ≡ None → length path ≤ i
past path i none = past_by path i none (slice_get_cases path i).1

abbrev pub leg_walk : (ℕ → Files) → List (List ℕ) → Leg → List ℕ → Walk
leg_walk files path leg more = walk_path files (drop leg.found path) leg.at.gfid more

abbrev pub one_lookup : (ℕ → Files) → List (List ℕ) → Leg → List ℕ → ℕ → List ℕ → Walk
one_lookup files path leg name place more =
    after_lookup (flat_answer (files place) (Lookup leg.at.gfid name)) more (λ found. walk_path files (drop (leg.found + 1) path) found more)

pub leg_looks : (files : ℕ → Files) (path : List (List ℕ)) (leg : Leg) (name : List ℕ) (place : ℕ) (more : List ℕ) → slice_get path leg.found ≡ Some name
    → leg_walk files path leg (place ∷ more) ≡ one_lookup files path leg name place more
leg_looks files path leg name place more is = ap (λ (l : List (List ℕ)). walk_path files l leg.at.gfid (place ∷ more)) (drop_at path leg.found name is)

pub leg_finds : (files : ℕ → Files) (path : List (List ℕ)) (leg : Leg) (name : List ℕ) (place : ℕ) (more : List ℕ) (object : Object) → slice_get path leg.found ≡ Some name
    → flat_answer (files place) (Lookup leg.at.gfid name) ≡ flat_answers.Found object.gfid object.kind
    → leg_walk files path leg (place ∷ more) ≡ leg_walk files path (onto leg object) more
leg_finds files path leg name place more object is found =
    leg_looks files path leg name place more is
    ∙ ap (λ (a : FlatAnswer). after_lookup a more (λ f. walk_path files (drop (leg.found + 1) path) f more)) found

pub leg_misses : (files : ℕ → Files) (path : List (List ℕ)) (leg : Leg) (name : List ℕ) (place : ℕ) (more : List ℕ) (error : AppError) → slice_get path leg.found ≡ Some name
    → flat_answer (files place) (Lookup leg.at.gfid name) ≡ flat_answers.Call (answers.App error)
    → leg_walk files path leg (place ∷ more) ≡ Stopped error more
leg_misses files path leg name place more error is missing =
    leg_looks files path leg name place more is
    ∙ ap (λ (a : FlatAnswer). after_lookup a more (λ f. walk_path files (drop (leg.found + 1) path) f more)) missing

pub leg_short : (files : ℕ → Files) (path : List (List ℕ)) (leg : Leg) (name : List ℕ) → slice_get path leg.found ≡ Some name → leg_walk files path leg [] ≡ Short
leg_short files path leg name is = ap (λ (l : List (List ℕ)). walk_path files l leg.at.gfid []) (drop_at path leg.found name is)

pub leg_ends : (files : ℕ → Files) (path : List (List ℕ)) (leg : Leg) (more : List ℕ) → slice_get path leg.found ≡ None → leg_walk files path leg more ≡ Reached (leg.at.gfid ∷ []) more
leg_ends files path leg more none = ap (λ (l : List (List ℕ)). walk_path files l leg.at.gfid more) (drop_of_length-le path (past path leg.found none))

-- ---- all paths

abbrev pub rest_on : (ℕ → Files) → List (List (List ℕ)) → Walked → List ℕ → Walk
rest_on files [] w more = Reached [] more
rest_on files (p ∷ []) w more = after_path (leg_walk files p w.first more) (λ r. Reached [] r)
rest_on files (p ∷ q ∷ ps) w more = after_path (leg_walk files p w.first more) (λ r. after_path (leg_walk files q w.second r) (λ t. walk files ps t))

pub rest_begun : (files : ℕ → Files) (paths : List (List (List ℕ))) (more : List ℕ) → rest_on files paths begun more ≡ walk files paths more
rest_begun files [] more = refl
rest_begun files (p ∷ []) more = refl
rest_begun files (p ∷ q ∷ ps) more = refl

abbrev pub first_at : List (List (List ℕ)) → Walked → Option (List ℕ)
first_at paths w = slice_get (first_path paths) w.first.found

abbrev pub second_at : List (List (List ℕ)) → Walked → Option (List ℕ)
second_at paths w = slice_get (second_path paths) w.second.found

nothing : (name : List ℕ) → ◌≡◌ {A = Option (List ℕ)} None (Some name) → ⊥
nothing name is = absurd cc

-- a path that ended hands its places on to the next one
pub handed_on : (files : ℕ → Files) (p : List (List ℕ)) (leg : Leg) (more : List ℕ) (k : List ℕ → Walk) → slice_get p leg.found ≡ None
    → after_path (leg_walk files p leg more) k ≡ with_found (leg.at.gfid ∷ []) (k more)
handed_on files p leg more k none = ap (λ (x : Walk). after_path x k) (leg_ends files p leg more none)

-- one lookup that found its object
pub rest_found : (files : ℕ → Files) (paths : List (List (List ℕ))) (w : Walked) (s : Sight) (more : List ℕ) (one two : Option (List ℕ))
    → first_at paths w ≡ one → second_at paths w ≡ two → IsSeen files (parent_by one w) (option_or one two) s
    → rest_on files paths w (s.place ∷ more) ≡ rest_on files paths (stepped_by one two w s.object) more
rest_found files [] w s more (Some name) two e f seen = absurd (nothing name e)
rest_found files [] w s more None (Some name) e f seen = absurd (nothing name f)
rest_found files [] w s more None None e f seen = absurd seen
rest_found files (p ∷ []) w s more (Some name) two e f seen =
    ap (λ (x : Walk). after_path x (λ r. Reached [] r)) (leg_finds files p w.first name s.place more s.object e seen)
rest_found files (p ∷ []) w s more None (Some name) e f seen = absurd (nothing name f)
rest_found files (p ∷ []) w s more None None e f seen = absurd seen
rest_found files (p ∷ q ∷ ps) w s more (Some name) two e f seen =
    ap (λ (x : Walk). after_path x (λ r. after_path (leg_walk files q w.second r) (λ t. walk files ps t))) (leg_finds files p w.first name s.place more s.object e seen)
rest_found files (p ∷ q ∷ ps) w s more None (Some name) e f seen =
    handed_on files p w.first (s.place ∷ more) (λ r. after_path (leg_walk files q w.second r) (λ t. walk files ps t)) e
    ∙ ap (λ (x : Walk). with_found (w.first.at.gfid ∷ []) (after_path x (λ t. walk files ps t))) (leg_finds files q w.second name s.place more s.object f seen)
    ∙ sym (handed_on files p w.first more (λ r. after_path (leg_walk files q (onto w.second s.object) r) (λ t. walk files ps t)) e)
rest_found files (p ∷ q ∷ ps) w s more None None e f seen = absurd seen

-- one that found nothing
pub rest_missed : (files : ℕ → Files) (paths : List (List (List ℕ))) (w : Walked) (name : List ℕ) (place : ℕ) (error : AppError) (one two : Option (List ℕ))
    → first_at paths w ≡ one → second_at paths w ≡ two → option_or one two ≡ Some name
    → flat_answer (files place) (Lookup (parent_by one w).gfid name) ≡ flat_answers.Call (answers.App error)
    → rest_on files paths w (place ∷ []) ≡ Stopped error []
rest_missed files [] w name place error (Some n) two e f is missing = absurd (nothing n e)
rest_missed files [] w name place error None two e f is missing = absurd (nothing name (f ∙ is))
rest_missed files (p ∷ []) w name place error (Some n) two e f is missing =
    ap (λ (x : Walk). after_path x (λ r. Reached [] r)) (leg_misses files p w.first name place [] error (e ∙ is) missing)
rest_missed files (p ∷ []) w name place error None two e f is missing = absurd (nothing name (f ∙ is))
rest_missed files (p ∷ q ∷ ps) w name place error (Some n) two e f is missing =
    ap (λ (x : Walk). after_path x (λ r. after_path (leg_walk files q w.second r) (λ t. walk files ps t))) (leg_misses files p w.first name place [] error (e ∙ is) missing)
rest_missed files (p ∷ q ∷ ps) w name place error None two e f is missing =
    handed_on files p w.first (place ∷ []) (λ r. after_path (leg_walk files q w.second r) (λ t. walk files ps t)) e
    ∙ ap (λ (x : Walk). with_found (w.first.at.gfid ∷ []) (after_path x (λ t. walk files ps t))) (leg_misses files q w.second name place [] error (f ∙ is) missing)

-- one that has no place
pub rest_short : (files : ℕ → Files) (paths : List (List (List ℕ))) (w : Walked) (name : List ℕ) (one two : Option (List ℕ))
    → first_at paths w ≡ one → second_at paths w ≡ two → option_or one two ≡ Some name → rest_on files paths w [] ≡ Short
rest_short files [] w name (Some n) two e f is = absurd (nothing n e)
rest_short files [] w name None two e f is = absurd (nothing name (f ∙ is))
rest_short files (p ∷ []) w name (Some n) two e f is =
    ap (λ (x : Walk). after_path x (λ r. Reached [] r)) (leg_short files p w.first n e)
rest_short files (p ∷ []) w name None two e f is = absurd (nothing name (f ∙ is))
rest_short files (p ∷ q ∷ ps) w name (Some n) two e f is =
    ap (λ (x : Walk). after_path x (λ r. after_path (leg_walk files q w.second r) (λ t. walk files ps t))) (leg_short files p w.first n e)
rest_short files (p ∷ q ∷ ps) w name None two e f is =
    handed_on files p w.first [] (λ r. after_path (leg_walk files q w.second r) (λ t. walk files ps t)) e
    ∙ ap (λ (x : Walk). with_found (w.first.at.gfid ∷ []) (after_path x (λ t. walk files ps t))) (leg_short files q w.second name (f ∙ is))

-- no call has three paths
abbrev pub AreFew : List (List (List ℕ)) → Type 0
AreFew [] = Unit {0}
AreFew (p ∷ []) = Unit {0}
AreFew (p ∷ q ∷ []) = Unit {0}
AreFew (p ∷ q ∷ r ∷ ps) = ⊥

pub few_paths : (c : Call) → AreFew (looked_up c)
few_paths (call.Mkdir path mode) = tt
few_paths (call.Rmdir path) = tt
few_paths (call.Create fd path mode) = tt
few_paths (call.Unlink path) = tt
few_paths (call.Rename path target) = tt
few_paths (call.Open fd path) = tt
few_paths (call.Stat path) = tt
few_paths (call.List path) = tt
few_paths (call.Chmod path mode) = tt
few_paths (call.Truncate path size) = tt
few_paths (call.SetAttr path attr) = tt
few_paths (call.GetAttr path name) = tt
few_paths (call.DelAttr path name) = tt
few_paths (call.Read fd count) = tt
few_paths (call.Write fd bytes) = tt
few_paths (call.Seek fd offset) = tt
few_paths (call.Close fd) = tt

-- all components were found
pub rest_reached : (files : ℕ → Files) (paths : List (List (List ℕ))) (w : Walked) (more : List ℕ) (one two : Option (List ℕ))
    → AreFew paths → first_at paths w ≡ one → second_at paths w ≡ two → option_or one two ≡ None
    → rest_on files paths w more ≡ Reached (reached_on paths w) more
rest_reached files [] w more one two few e f is = refl
rest_reached files (p ∷ []) w more (Some n) two few e f is = absurd cc
rest_reached files (p ∷ []) w more None two few e f is = handed_on files p w.first more (λ r. Reached [] r) e
rest_reached files (p ∷ q ∷ []) w more (Some n) two few e f is = absurd cc
rest_reached files (p ∷ q ∷ []) w more None two few e f is =
    handed_on files p w.first more (λ r. after_path (leg_walk files q w.second r) (λ t. walk files [] t)) e
    ∙ ap (λ (x : Walk). with_found (w.first.at.gfid ∷ []) x) (handed_on files q w.second more (λ t. walk files [] t) (f ∙ is))
rest_reached files (p ∷ q ∷ r ∷ ps) w more one two few e f is = absurd few
