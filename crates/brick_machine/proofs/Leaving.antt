-- What an owner's waiting requests are where a request is put in at the end, and where some leave.
use Rattle.std.proofs.Common.{◌≡◌, ◌∙◌, ◌++◌, ◌∷◌, ◌&&◌, ◌||◌, not, cond, ℕ, Bool, true, false, List, [], length, drop, refl, ap, sym, append-nil, append_assoc}
use Rattle.std.specs.Prelude.{if◌then◌else◌}
use Rattle.std.specs.List.{filter, list_any}
use Rattle.std.proofs.lemmas.List.Elements.{filter-append}
use Rattle.fop_types.specs.declared.cells.Cell.{Cell}
use Rattle.brick_locks.specs.Locks.{conflicts, is_kept_by, is_of, is_known, held_after, waiting_after, waiting, freed_after, gone_after, OwnersDiffer}
use Rattle.brick_locks.specs.Leaving.{other_owner, is_owner}
use Rattle.brick_locks.specs.declared.owner.Owner.{Owner}
use Rattle.brick_locks.specs.declared.request.Request.{Request}
use Rattle.brick_machine.specs.Waits.{request_cells}
use Rattle.brick_machine.proofs.Owners.{one_owner}

-- ---- lists

pub neither : (a b : Bool) → (a || b) ≡ false → (a ≡ false) × (b ≡ false)
neither true b h = absurd cc
neither false b h = (refl, h)

any_of_one : (p : Request → Bool) (b : Bool) (r : Request) (rs : List Request) → p r ≡ false → list_any p (cond b (r ∷ rs) rs) ≡ list_any p rs
any_of_one p true r rs h = ap (λ (x : Bool). x || list_any p rs) h
any_of_one p false r rs h = refl

-- none passes among fewer
pub fewer : (p t : Request → Bool) (rs : List Request) → list_any p rs ≡ false → list_any p (filter t rs) ≡ false
fewer p t [] h = refl
fewer p t (r ∷ rs) h = let two = neither (p r) (list_any p rs) h in any_of_one p (t r) r (filter t rs) two.0 ∙ fewer p t rs two.1

any_last : (p : Request → Bool) (rs : List Request) (r : Request) → list_any p rs ≡ false → p r ≡ false → list_any p (rs ++ r ∷ []) ≡ false
any_last p [] r none one = ap (λ (x : Bool). x || false) one
any_last p (s ∷ rs) r none one = let two = neither (p s) (list_any p rs) none in ap (λ (x : Bool). x || list_any p (rs ++ r ∷ [])) two.0 ∙ any_last p rs r two.1 one

-- ---- no owner has two requests

of_turn : (r s : Request) → is_of r.owner s ≡ false → is_of s.owner r ≡ false
of_turn r s h = by_test (is_owner s.owner r.owner) refl
  where
    by_test : (b : Bool) → is_owner s.owner r.owner ≡ b → b ≡ false
    by_test false e = refl
    by_test true e =
        let same : s.owner ≡ r.owner = one_owner s.owner r.owner e in
        let turned : is_owner s.owner r.owner ≡ is_owner r.owner s.owner = ap (λ (o : Owner). is_owner o r.owner) same ∙ ap (λ (o : Owner). is_owner r.owner o) (sym same) in
        sym e ∙ turned ∙ h

pub differ_last : (rs : List Request) (r : Request) → OwnersDiffer rs → is_known r.owner rs ≡ false → OwnersDiffer (rs ++ r ∷ [])
differ_last [] r h none = (refl, tt)
differ_last (x ∷ rs) r h none =
    let two = neither (is_of r.owner x) (is_known r.owner rs) none in
    (any_last (is_of x.owner) rs r h.0 (of_turn r x two.0), differ_last rs r h.1 two.1)

pub differ_fewer : (t : Request → Bool) (rs : List Request) → OwnersDiffer rs → OwnersDiffer (filter t rs)
differ_fewer t [] h = tt
differ_fewer t (r ∷ rs) h = by_test (differ_fewer t rs h.1) (t r)
  where
    by_test : OwnersDiffer (filter t rs) → (b : Bool) → OwnersDiffer (cond b (r ∷ filter t rs) (filter t rs))
    by_test rest true = (fewer (is_of r.owner) t rs h.0, rest)
    by_test rest false = rest

-- ---- the requests of an owner

pub cells_both : (o : Owner) (xs ys : List Request) → request_cells o (xs ++ ys) ≡ request_cells o xs ++ request_cells o ys
cells_both o [] ys = refl
cells_both o (x ∷ xs) ys = by_test (cells_both o xs ys) (is_of o x)
  where
    by_test : request_cells o (xs ++ ys) ≡ request_cells o xs ++ request_cells o ys
        → (b : Bool) → (if b then x.cells ∷ request_cells o (xs ++ ys) else request_cells o (xs ++ ys)) ≡ (if b then x.cells ∷ request_cells o xs else request_cells o xs) ++ request_cells o ys
    by_test rest true = ap (λ (l : List (List Cell)). x.cells ∷ l) rest
    by_test rest false = rest

skip : (o : Owner) (b : Bool) (r : Request) (rs : List Request) → is_of o r ≡ false → request_cells o (cond b (r ∷ rs) rs) ≡ request_cells o rs
skip o true r rs h = rw h refl
skip o false r rs h = refl

only : (o : Owner) (b : Bool) (r : Request) (rs : List Request) → is_of o r ≡ true → request_cells o rs ≡ [] → request_cells o (cond b (r ∷ rs) rs) ≡ cond b (r.cells ∷ []) []
only o true r rs h none = rw h (ap (λ (l : List (List Cell)). r.cells ∷ l) none)
only o false r rs h none = none

-- an owner that is not known has no request among those that wait, leave or are freed
module _ (o : Owner) where
  pub none_waiting : (before rs : List Request) → is_known o rs ≡ false → request_cells o (waiting_after before rs) ≡ []
  none_waiting before [] h = refl
  none_waiting before (r ∷ rs) h =
      let two = neither (is_of o r) (is_known o rs) h in
      skip o (is_kept_by before r) r (waiting_after (before ++ r ∷ []) rs) two.0 ∙ none_waiting (before ++ r ∷ []) rs two.1

  none_gone : (stays : Request → Bool) (before rs : List Request) → is_known o rs ≡ false → request_cells o (gone_after stays before rs) ≡ []
  none_gone stays before [] h = refl
  none_gone stays before (r ∷ rs) h =
      let two = neither (is_of o r) (is_known o rs) h in
      skip o (not (stays r) && is_kept_by before r) r (gone_after stays (before ++ r ∷ []) rs) two.0 ∙ none_gone stays (before ++ r ∷ []) rs two.1

  none_freed : (stays : Request → Bool) (before rs : List Request) → is_known o rs ≡ false → request_cells o (freed_after stays before rs) ≡ []
  none_freed stays before [] h = refl
  none_freed stays before (r ∷ rs) h =
      let two = neither (is_of o r) (is_known o rs) h in
      skip o (stays r && (is_kept_by before r && not (is_kept_by (filter stays before) r))) r (freed_after stays (before ++ r ∷ []) rs) two.0
      ∙ none_freed stays (before ++ r ∷ []) rs two.1

  none_held : (before rs : List Request) → is_known o rs ≡ false → list_any (is_of o) (held_after before rs) ≡ false
  none_held before [] h = refl
  none_held before (r ∷ rs) h = by_test (none_held (before ++ r ∷ []) rs (neither (is_of o r) (is_known o rs) h).1) (is_kept_by before r)
    where
      by_test : list_any (is_of o) (held_after (before ++ r ∷ []) rs) ≡ false
          → (b : Bool) → list_any (is_of o) (cond b (held_after (before ++ r ∷ []) rs) (r ∷ held_after (before ++ r ∷ []) rs)) ≡ false
      by_test rest true = rest
      by_test rest false = ap (λ (x : Bool). x || list_any (is_of o) (held_after (before ++ r ∷ []) rs)) (neither (is_of o r) (is_known o rs) h).0 ∙ rest

-- ---- one more request

added : (b : Bool) (r : Request) (xs ys : List Request) → cond b (r ∷ (xs ++ ys)) (xs ++ ys) ≡ cond b (r ∷ xs) xs ++ ys
added true r xs ys = refl
added false r xs ys = refl

pub waiting_push : (before rs : List Request) (r : Request) → waiting_after before (rs ++ r ∷ []) ≡ waiting_after before rs ++ cond (is_kept_by (before ++ rs) r) (r ∷ []) []
waiting_push before [] r = ap (λ (l : List Request). cond (is_kept_by l r) (r ∷ []) []) (sym (append-nil before))
waiting_push before (x ∷ rs) r =
    ap (λ (l : List Request). cond (is_kept_by before x) (x ∷ l) l)
    (waiting_push (before ++ x ∷ []) rs r
    ∙ ap (λ (l : List Request). waiting_after (before ++ x ∷ []) rs ++ cond (is_kept_by l r) (r ∷ []) []) (append_assoc before (x ∷ []) rs))
    ∙ added (is_kept_by before x) x (waiting_after (before ++ x ∷ []) rs) (cond (is_kept_by (before ++ x ∷ rs) r) (r ∷ []) [])

-- ---- some requests leave

module _ (o : Owner) (stays : Request → Bool) where
  filter_push : (before : List Request) (r : Request) → filter stays (before ++ r ∷ []) ≡ filter stays before ++ cond (stays r) (r ∷ []) []
  filter_push before r = filter-append stays before (r ∷ [])

  -- the request is known, and no later one of its owner
  one_of_it : (st k still : Bool) (c : List Cell) → (k ≡ false → still ≡ false)
      → cond st (cond still (c ∷ []) []) [] ≡ drop (length (cond (st && (k && not still)) (c ∷ []) [])) (drop (length (cond (not st && k) (c ∷ []) [])) (cond k (c ∷ []) []))
  one_of_it true true true c h = refl
  one_of_it true true false c h = refl
  one_of_it true false true c h = absurd (let t = h refl in cc)
  one_of_it true false false c h = refl
  one_of_it false true still c h = refl
  one_of_it false false still c h = refl

  drops_same : {f g w x y z : List (List Cell)} → f ≡ x → g ≡ y → w ≡ z → drop (length f) (drop (length g) w) ≡ drop (length x) (drop (length y) z)
  drops_same {f} {g} {w} {x} {y} {z} a b c =
      ap (λ (l : List (List Cell)). drop (length l) (drop (length g) w)) a
      ∙ ap (λ (l : List (List Cell)). drop (length x) (drop (length l) w)) b ∙ ap (λ (l : List (List Cell)). drop (length x) (drop (length y) l)) c

  -- a request and the later ones, of those that stay
  module _ (before rs : List Request) (r : Request) where
    abbrev later : List Request
    later = waiting_after (filter stays (before ++ r ∷ [])) (filter stays rs)

    front_stays : (st : Bool) → stays r ≡ st → waiting_after (filter stays before) (cond st (r ∷ filter stays rs) (filter stays rs)) ≡ cond st (cond (is_kept_by (filter stays before) r) (r ∷ later) later) later
    front_stays true h =
        ap (λ (l : List Request). cond (is_kept_by (filter stays before) r) (r ∷ waiting_after l (filter stays rs)) (waiting_after l (filter stays rs)))
        (sym (filter_push before r ∙ ap (λ (b : Bool). filter stays before ++ cond b (r ∷ []) []) h))
    front_stays false h =
        ap (λ (l : List Request). waiting_after l (filter stays rs))
        (sym (filter_push before r ∙ ap (λ (b : Bool). filter stays before ++ cond b (r ∷ []) []) h ∙ append-nil (filter stays before)))

    skipped : (st still : Bool) → is_of o r ≡ false → request_cells o (cond st (cond still (r ∷ later) later) later) ≡ request_cells o later
    skipped true still other = skip o still r later other
    skipped false still other = refl

    single : (st still : Bool) → is_of o r ≡ true → request_cells o later ≡ [] → request_cells o (cond st (cond still (r ∷ later) later) later) ≡ cond st (cond still (r.cells ∷ []) []) []
    single true still own none = only o still r later own none
    single false still own none = none

  pub after_leaving : (before rs : List Request) → OwnersDiffer rs
      → request_cells o (waiting_after (filter stays before) (filter stays rs))
      ≡ drop (length (request_cells o (freed_after stays before rs))) (drop (length (request_cells o (gone_after stays before rs))) (request_cells o (waiting_after before rs)))
  after_leaving before [] differ = refl
  after_leaving before (r ∷ rs) differ =
      ap (λ (l : List Request). request_cells o l) (front_stays before rs r (stays r) refl)
      ∙ by_owner (after_leaving (before ++ r ∷ []) rs differ.1) (is_of o r) refl
    where
      kept : Bool
      kept = is_kept_by before r

      still : Bool
      still = is_kept_by (filter stays before) r

      freed : List Request
      freed = freed_after stays (before ++ r ∷ []) rs

      gone : List Request
      gone = gone_after stays (before ++ r ∷ []) rs

      waits : List Request
      waits = waiting_after (before ++ r ∷ []) rs

      by_owner : request_cells o (later before rs r) ≡ drop (length (request_cells o freed)) (drop (length (request_cells o gone)) (request_cells o waits))
          → (b : Bool) → is_of o r ≡ b
          → request_cells o (cond (stays r) (cond still (r ∷ later before rs r) (later before rs r)) (later before rs r))
          ≡ drop (length (request_cells o (cond (stays r && (kept && not still)) (r ∷ freed) freed)))
          (drop (length (request_cells o (cond (not (stays r) && kept) (r ∷ gone) gone))) (request_cells o (cond kept (r ∷ waits) waits)))
      by_owner rest false other =
          skipped before rs r (stays r) still other ∙ rest
          ∙ sym (drops_same (skip o (stays r && (kept && not still)) r freed other) (skip o (not (stays r) && kept) r gone other) (skip o kept r waits other))
      by_owner rest true own =
          let nobody : is_known o rs ≡ false = ap (λ (p : Owner). is_known p rs) (one_owner o r.owner own) ∙ differ.0 in
          single before rs r (stays r) still own (none_waiting o (filter stays (before ++ r ∷ [])) (filter stays rs) (fewer (is_of o) stays rs nobody))
          ∙ one_of_it (stays r) kept still r.cells (fewer (conflicts r) stays before)
          ∙ sym (drops_same
          (only o (stays r && (kept && not still)) r freed own (none_freed o stays (before ++ r ∷ []) rs nobody))
          (only o (not (stays r) && kept) r gone own (none_gone o stays (before ++ r ∷ []) rs nobody))
          (only o kept r waits own (none_waiting o (before ++ r ∷ []) rs nobody)))

-- ---- an owner that holds leaves, and is not among those that waited

none_of_it : (o : Owner) (before rs : List Request) → is_known o rs ≡ false → gone_after (other_owner o) before rs ≡ []
none_of_it o before [] h = refl
none_of_it o before (r ∷ rs) h =
    let two = neither (is_of o r) (is_known o rs) h in
    ap (λ (b : Bool). cond (not (not b) && is_kept_by before r) (r ∷ gone_after (other_owner o) (before ++ r ∷ []) rs) (gone_after (other_owner o) (before ++ r ∷ []) rs)) two.0
    ∙ none_of_it o (before ++ r ∷ []) rs two.1

pub holder_is_not_gone : (o : Owner) (before rs : List Request) → OwnersDiffer rs → list_any (is_of o) (held_after before rs) ≡ true → gone_after (other_owner o) before rs ≡ []
holder_is_not_gone o before [] differ holds = refl
holder_is_not_gone o before (r ∷ rs) differ holds = by_owner (holder_is_not_gone o (before ++ r ∷ []) rs differ.1) (is_of o r) refl (is_kept_by before r) refl holds
  where
    gone : List Request
    gone = gone_after (other_owner o) (before ++ r ∷ []) rs

    held : List Request
    held = held_after (before ++ r ∷ []) rs

    by_owner : (list_any (is_of o) held ≡ true → gone ≡ []) → (own : Bool) → is_of o r ≡ own → (kept : Bool) → is_kept_by before r ≡ kept
        → list_any (is_of o) (cond kept held (r ∷ held)) ≡ true → cond (not (not own) && kept) (r ∷ gone) gone ≡ []
    by_owner rest false e true k h = rest h
    by_owner rest false e false k h = rest (ap (λ (b : Bool). b || list_any (is_of o) held) (sym e) ∙ h)
    by_owner rest true e true k h =
        let nobody : is_known o rs ≡ false = ap (λ (p : Owner). is_known p rs) (one_owner o r.owner e) ∙ differ.0 in
        absurd (let t : true ≡ false = sym h ∙ none_held o (before ++ r ∷ []) rs nobody in cc)
    by_owner rest true e false k h = none_of_it o (before ++ r ∷ []) rs (ap (λ (p : Owner). is_known p rs) (one_owner o r.owner e) ∙ differ.0)
