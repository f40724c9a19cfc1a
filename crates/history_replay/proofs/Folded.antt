-- The claims of all calls, which hold, make a trace lawful.
use Rattle.std.proofs.Common.{◌≡◌, ◌≢◌, ◌∷◌, ◌++◌, refl, sym, ap, subst, ◌∙◌, ℕ, ◌+◌, ◌-◌, ◌<◌, ◌≤◌, ◌==◌, suc, zero, ◌⊎◌, inl, inr, List, [], length, take, drop, get_or, replicate, true≢false, arith, length-set, get_or-set_same, get_or-set_other}
use Rattle.std.specs.Prelude.{Bool, true, false, ◌&&◌, nat_le, nat_lt, Option, Some, None, slice_get, slice_set, if◌then◌else◌}
use Rattle.std.specs.FinMap.{empty}
use Rattle.std.proofs.Math.Dec.{eqb-suc-zero}
use Rattle.std.proofs.lemmas.Bool.{and_parts, cases_eq, cases_lt, eqb-true, leb-true, ltb-true, eq-eqb, lt-ltb}
use Rattle.std.proofs.lemmas.Option.{slice_get_within}
use Rattle.fop_types.specs.Calls.{Submission, Descriptors, call_numbered, makes, objects_made, drawn_by, looked_up, lookups, after_answer, last_part_number}
use Rattle.fop_types.specs.History.{Reply, descriptors_at, file_of}
use Rattle.fop_types.specs.declared.answers.Answer.{Answer}
use Rattle.fop_types.specs.declared.flat.FlatOp.{FlatOp}
use Rattle.fop_types.specs.declared.history.Entry.{Entry}
use Rattle.history_replay.specs.Traces.{Trace, of_call}
use Rattle.history_replay.specs.code.Cases.{Case, case_claims, file_given, are_between}
use Rattle.history_replay.specs.code.Claims.{AreHeld}
use Rattle.history_replay.specs.code.Runs.{Progress, begun, places_in, places_by, answer_in, answer_by, reply_at, case_of, fits_reply, fits, fits_by, fits_at, has_session, fds_after, bounds_after, after_case, after_submission, after_call, after_calls, AreIndexed, IsReplyFound}
use Rattle.history_replay.specs.declared.claims.Claim.{Claim}
use Rattle.history_replay.specs.declared.findings.Findings.{Findings}
use Rattle.history_replay.proofs.Basics.{some_is, same_some, none_some}
use Rattle.history_replay.proofs.Files.{file_agrees}
use Rattle.history_replay.proofs.Earlier.{IsNot, Skips, skip_all, same_all, next_all}
use Rattle.history_replay.proofs.Shapes.{Shape, shape_of}
use Rattle.history_replay.proofs.Walks.{held_parts}

-- ---- numbers of calls

pub numbered : (calls : List Submission) (at : ℕ) (s : Submission) → slice_get calls at ≡ Some s → call_numbered calls (at + 1) ≡ Some s
numbered calls at s h =
    let one : at + 1 ≡ suc at = omega arith in
    let before : suc at - 1 ≡ at = omega arith in
    rw one (rw (eqb-suc-zero at) (rw before h))

pub from_one : (calls : List Submission) (number : ℕ) (s : Submission) → call_numbered calls number ≡ Some s → 0 < number
from_one calls zero s h = absurd cc
from_one calls (suc n) s h = omega arith

objects_next : (calls : List Submission) (at : ℕ) (s : Submission) → slice_get calls at ≡ Some s → objects_made (take (suc at) calls) ≡ objects_made (take at calls) + makes s.call
objects_next [] at s h = absurd cc
objects_next (c ∷ calls) zero s h = let same : makes c.call ≡ makes s.call = ap (λ (x : Submission). makes x.call) (some_is c s h) in omega (arith, same)
objects_next (c ∷ calls) (suc at) s h = let rest = objects_next calls at s h in omega (arith, rest)

drop_next : (calls : List Submission) (at : ℕ) (s : Submission) (rest : List Submission) → drop at calls ≡ s ∷ rest → (slice_get calls at ≡ Some s) × (drop (suc at) calls ≡ rest)
drop_next [] zero s rest h = absurd cc
drop_next [] (suc at) s rest h = absurd cc
drop_next (c ∷ calls) zero s rest h = let a : c ≡ s = cc in let b : calls ≡ rest = cc in (ap Some a, b)
drop_next (c ∷ calls) (suc at) s rest h = drop_next calls at s rest h

none_there : (calls : List Submission) (at i : ℕ) (s : Submission) → drop at calls ≡ [] → at ≤ i → slice_get calls i ≡ Some s → ⊥
none_there [] at i s h l there = absurd cc
none_there (c ∷ calls) zero i s h l there = absurd cc
none_there (c ∷ calls) (suc at) zero s h l there = absurd (omega (arith, l))
none_there (c ∷ calls) (suc at) (suc i) s h l there = none_there calls at i s h (omega (arith, l)) there

replicate_at : {X : Type 0} (n i : ℕ) (x : X) → get_or (replicate n x) i x ≡ x
replicate_at zero i x = refl
replicate_at (suc n) zero x = refl
replicate_at (suc n) (suc i) x = replicate_at n i x

module _ (t : Trace) (f : Findings) (count : ℕ) (all : length t.calls ≤ count) (ops : List FlatOp) (indexed : AreIndexed t f) where
  abbrev pub made_at : ℕ → ℕ
  made_at at = objects_made (take (suc at) t.calls)

  abbrev pub case_at : ℕ → Submission → Case
  case_at at s = case_of t f count at s (made_at at)

  abbrev pub fds_at : ℕ → Submission → Descriptors
  fds_at at s = descriptors_at t.calls ops t.replies s.session (at + 1)

  -- the reply of an index is the call's, and has its places between the bounds
  pub record Fitting (at k : ℕ) : Type 0 where
    pub r : Reply
    pub there : slice_get t.replies k ≡ Some r
    pub number : r.call ≡ at + 1
    pub between : are_between r.places (get_or t.since at 0) (get_or t.until at 0) ≡ true
    pub within : get_or t.until at 0 ≤ length t.history

  -- all earlier replies of the session have smaller indices
  abbrev pub IsBehind : ℕ → Submission → ℕ → Type 0
  IsBehind at s k = (j : ℕ) (x : Reply) (z : Submission) → slice_get t.replies j ≡ Some x → call_numbered t.calls x.call ≡ Some z → z.session ≡ s.session
      → x.call < at + 1 → j < k

  pub record Fact (at : ℕ) (s : Submission) : Type 0 where
    pub shape : Shape ops t.replies (case_at at s) (fds_at at s)
    pub fitting : (k : ℕ) → reply_at f at ≡ Some k → Fitting at k
    pub order : (k : ℕ) → reply_at f at ≡ Some k → IsBehind at s k

  pub record Inv (p : Progress) : Type 0 where
    pub fds_are : (session : ℕ) → session < length p.fds → get_or p.fds session empty ≡ descriptors_at t.calls ops t.replies session (p.at + 1)
    pub bounded : (j : ℕ) (x : Reply) (z : Submission) → slice_get t.replies j ≡ Some x → call_numbered t.calls x.call ≡ Some z → z.session < length p.bounds
        → x.call < p.at + 1 → j < get_or p.bounds z.session 0
    pub made : p.made ≡ objects_made (take p.at t.calls)

  -- ---- one call

  fitting_by : (at bound k : ℕ) (o : Option Reply) → slice_get t.replies k ≡ o → fits_reply t at bound k o ≡ true → Fitting at k × (bound ≤ k)
  fitting_by at bound k None is h = absurd (true≢false (sym h))
  fitting_by at bound k (Some r) is h =
      let one = and_parts (r.call == at + 1) (nat_le bound k && (are_between r.places (get_or t.since at 0) (get_or t.until at 0) && nat_le (get_or t.until at 0) (length t.history))) h in
      let two = and_parts (nat_le bound k) (are_between r.places (get_or t.since at 0) (get_or t.until at 0) && nat_le (get_or t.until at 0) (length t.history)) one.1 in
      let three = and_parts (are_between r.places (get_or t.since at 0) (get_or t.until at 0)) (nat_le (get_or t.until at 0) (length t.history)) two.1 in (
        record { r = r; there = is; number = eqb-true r.call (at + 1) one.0; between = three.0; within = leb-true (get_or t.until at 0) (length t.history) three.1 },
        leb-true bound k two.0,
      )

  pub record Stepped (p : Progress) (s : Submission) (q : Progress) : Type 0 where
    pub in_fds : s.session < length p.fds
    pub in_bounds : s.session < length p.bounds
    pub fits_is : fits t p.at (get_or p.bounds s.session 0) (reply_at f p.at) ≡ true
    pub more : List Claim
    pub made : case_claims (case_of t f count p.at s (p.made + makes s.call)) (get_or p.fds s.session empty) ≡ Some more
    pub at_is : q.at ≡ p.at + 1
    pub fds_is : q.fds ≡ fds_after p.fds s.session (case_of t f count p.at s (p.made + makes s.call)) (answer_by t.replies (reply_at f p.at))
    pub bounds_is : q.bounds ≡ bounds_after p.bounds s.session (reply_at f p.at)
    pub made_is : q.made ≡ p.made + makes s.call
    pub claims_is : q.claims ≡ p.claims ++ more

  stepped_by : (p : Progress) (s : Submission) (q : Progress) (fit : Bool) (o : Option (List Claim)) → p.at < count → fits_at t f count p s ≡ fit
      → case_claims (case_of t f count p.at s (p.made + makes s.call)) (get_or p.fds s.session empty) ≡ o
      → (if fit then after_case t f p s (case_of t f count p.at s (p.made + makes s.call)) o else None) ≡ Some q → Stepped p s q
  stepped_by p s q false o below fit made h = absurd cc
  stepped_by p s q true None below fit made h = absurd cc
  stepped_by p s q true (Some more) below fit made h =
      let same : record {
        at = p.at + 1;
        fds = fds_after p.fds s.session (case_of t f count p.at s (p.made + makes s.call)) (answer_by t.replies (reply_at f p.at));
        bounds = bounds_after p.bounds s.session (reply_at f p.at);
        made = p.made + makes s.call;
        claims = p.claims ++ more;
      } ≡ q = some_is _ q h in
      let one = and_parts (has_session p s.session) (fits_by t f count p s) fit in
      let two = and_parts (nat_lt s.session (length p.fds)) (nat_lt s.session (length p.bounds)) one.0 in
      record {
        in_fds = ltb-true s.session (length p.fds) two.0;
        in_bounds = ltb-true s.session (length p.bounds) two.1;
        fits_is = subst (λ (b : Bool). (if b then fits t p.at (get_or p.bounds s.session 0) (reply_at f p.at) else true) ≡ true) (lt-ltb p.at count below) one.1;
        more = more;
        made = made;
        at_is = ap (λ (x : Progress). x.at) (sym same);
        fds_is = ap (λ (x : Progress). x.fds) (sym same);
        bounds_is = ap (λ (x : Progress). x.bounds) (sym same);
        made_is = ap (λ (x : Progress). x.made) (sym same);
        claims_is = ap (λ (x : Progress). x.claims) (sym same);
      }

  -- the reply of an index is found by its call
  found_at : (at k : ℕ) (r : Reply) → slice_get t.replies k ≡ Some r → r.call ≡ at + 1 → reply_at f at ≡ Some k
  found_at at k r there is =
      let before : r.call - 1 ≡ at = omega (arith, is) in
      ap (reply_at f) (sym before) ∙ (indexed.replies k r there).found

  -- ---- the invariant goes on

  module _ (p : Progress) (s : Submission) (q : Progress) (there : slice_get t.calls p.at ≡ Some s) (step : Stepped p s q) (inv : Inv p) where
    made_here : p.made + makes s.call ≡ made_at p.at
    made_here = let next = objects_next t.calls p.at s there in let now = inv.made in omega (arith, next, now)

    case_is : case_of t f count p.at s (p.made + makes s.call) ≡ case_at p.at s
    case_is = ap (case_of t f count p.at s) made_here

    fds_here : get_or p.fds s.session empty ≡ fds_at p.at s
    fds_here = inv.fds_are s.session step.in_fds

    called : call_numbered t.calls (p.at + 1) ≡ Some s
    called = numbered t.calls p.at s there

    claims_here : case_claims (case_at p.at s) (fds_at p.at s) ≡ Some step.more
    claims_here = subst (λ (d : Descriptors). case_claims (case_at p.at s) d ≡ Some step.more) fds_here (subst (λ (c : Case). case_claims c (get_or p.fds s.session empty) ≡ Some step.more) case_is step.made)

    fitting_here : (k : ℕ) → reply_at f p.at ≡ Some k → Fitting p.at k × (get_or p.bounds s.session 0 ≤ k)
    fitting_here k is =
        fitting_by p.at (get_or p.bounds s.session 0) k (slice_get t.replies k) refl
        (subst (λ (o : Option ℕ). fits t p.at (get_or p.bounds s.session 0) o ≡ true) is step.fits_is)

    behind_here : (k : ℕ) → reply_at f p.at ≡ Some k → IsBehind p.at s k
    behind_here k is j x z at_j numbered_x same less =
        let low = inv.bounded j x z at_j numbered_x (subst (λ (n : ℕ). n < length p.bounds) (sym same) step.in_bounds) less in
        let low_here : j < get_or p.bounds s.session 0 = subst (λ (n : ℕ). j < get_or p.bounds n 0) same low in
        let high = (fitting_here k is).1 in
        omega (arith, low_here, high)

    pub fact_here : AreHeld ops t.replies step.more → Fact p.at s
    fact_here held = record {
      shape = shape_of ops t.replies (case_at p.at s) (fds_at p.at s) step.more claims_here held;
      fitting = λ k is. (fitting_here k is).0;
      order = behind_here;
    }

    -- no reply is to this call where it has none
    none_here : reply_at f p.at ≡ None → (session k : ℕ) (r : Reply) → slice_get t.replies k ≡ Some r → IsNot t.calls ops session (p.at + 1) r
    none_here none session k r at_k z is same number = none_some k (reply_at f p.at) none (found_at p.at k r at_k number)

    -- the replies to this call are of its session
    other_here : (session : ℕ) → (s.session ≡ session → ⊥) → (k : ℕ) (r : Reply) → slice_get t.replies k ≡ Some r → IsNot t.calls ops session (p.at + 1) r
    other_here session other k r at_k z is same number =
        let z_is : z ≡ s = same_some z s (call_numbered t.calls (p.at + 1)) (ap (call_numbered t.calls) (sym number) ∙ is) called in
        other (ap (λ (x : Submission). x.session) (sym z_is) ∙ same)

    reply_is : (k : ℕ) → reply_at f p.at ≡ Some k → (g : Fitting p.at k) → (case_at p.at s).reply ≡ Some (k, g.r.answer)
    reply_is k is g =
        let below : p.at < count = let w = slice_get_within t.calls p.at s there in omega (arith, w, all) in
        ap (λ (b : Bool). if b then answer_by t.replies (reply_at f p.at) else None) (lt-ltb p.at count below)
        ∙ ap (answer_by t.replies) is ∙ ap (answer_in k) g.there

    places_is : (k : ℕ) → reply_at f p.at ≡ Some k → (g : Fitting p.at k) → (case_at p.at s).places ≡ g.r.places
    places_is k is g = ap (places_by t.replies) is ∙ ap places_in g.there

    drawn_is : (k : ℕ) (g : Fitting p.at k) → (case_at p.at s).drawn ≡ drawn_by t.calls g.r.call
    drawn_is k g = let one : suc p.at ≡ g.r.call = let n = g.number in omega (arith, n) in ap (λ (n : ℕ). record { hi = 0; lo = 1 + objects_made (take n t.calls) }) one

    -- the descriptors of the session after the reply
    next_here : AreHeld ops t.replies step.more → (k : ℕ) → reply_at f p.at ≡ Some k → (g : Fitting p.at k)
        → after_answer (fds_at p.at s) s.call (file_given (case_at p.at s)) g.r.answer ≡ descriptors_at t.calls ops t.replies s.session (p.at + 1 + 1)
    next_here held k is g =
        let fact = fact_here held in
        file_agrees ops t.replies t.calls (case_at p.at s) (fds_at p.at s) refl k g.r g.there (reply_is k is g) (places_is k is g) (drawn_is k g) fact.shape
        ∙ sym (next_all t.calls ops s.session (p.at + 1) empty t.replies k g.r s g.there g.number (ap (call_numbered t.calls) g.number ∙ called) refl before behind) where
          before : (j : ℕ) (x : Reply) → j < k → slice_get t.replies j ≡ Some x → IsNot t.calls ops s.session (p.at + 1) x
          before j x less at_j z z_is same number =
              let found = found_at p.at j x at_j number in let j_is : j ≡ k = same_some j k (reply_at f p.at) found is in absurd (omega (arith, less, j_is))

          behind : (j : ℕ) (x : Reply) → k < j → slice_get t.replies j ≡ Some x → Skips t.calls ops s.session (p.at + 1 + 1) x
          behind j x less at_j z z_is same low = by_number (cases_eq x.call (p.at + 1)) where
            by_number : (x.call ≡ p.at + 1) ⊎ (x.call ≡ p.at + 1 → ⊥) → ⊥
            by_number (inl number) =
                let found = found_at p.at j x at_j number in let j_is : j ≡ k = same_some j k (reply_at f p.at) found is in absurd (omega (arith, less, j_is))
            by_number (inr differs) =
                let lower : x.call < p.at + 1 = below_by (cases_lt x.call (p.at + 1)) in
                let first = behind_here k is j x z at_j z_is same lower in absurd (omega (arith, less, first)) where
                  below_by : (x.call < p.at + 1) ⊎ (p.at + 1 ≤ x.call) → x.call < p.at + 1
                  below_by (inl l) = l
                  below_by (inr m) = absurd (differs (omega (arith, m, low)))

    fds_next : AreHeld ops t.replies step.more → (reply : Option ℕ) → reply_at f p.at ≡ reply → (session : ℕ) → session < length (fds_after p.fds s.session (case_at p.at s) (answer_by t.replies reply))
        → get_or (fds_after p.fds s.session (case_at p.at s) (answer_by t.replies reply)) session empty ≡ descriptors_at t.calls ops t.replies session (p.at + 1 + 1)
    fds_next held None is session within =
        inv.fds_are session within ∙ sym (same_all t.calls ops session (p.at + 1) empty t.replies (none_here is session))
    fds_next held (Some k) is session within = by_session (cases_eq s.session session) where
      g : Fitting p.at k
      g = (fitting_here k is).0

      new : Descriptors
      new = after_answer (get_or p.fds s.session empty) s.call (file_given (case_at p.at s)) g.r.answer

      set_is : fds_after p.fds s.session (case_at p.at s) (answer_by t.replies (Some k)) ≡ slice_set p.fds s.session new
      set_is = ap (λ (o : Option Reply). fds_after p.fds s.session (case_at p.at s) (answer_in k o)) g.there

      in_old : session < length p.fds
      in_old = let l = subst (λ (d : List Descriptors). session < length d) set_is within in let n = length-set p.fds s.session new in omega (arith, l, n)

      by_session : (s.session ≡ session) ⊎ (s.session ≡ session → ⊥)
          → get_or (fds_after p.fds s.session (case_at p.at s) (answer_by t.replies (Some k))) session empty ≡ descriptors_at t.calls ops t.replies session (p.at + 1 + 1)
      by_session (inl same) =
          ap (λ (d : List Descriptors). get_or d session empty) set_is ∙ (subst (λ (n : ℕ). get_or (slice_set p.fds s.session new) n empty ≡ descriptors_at t.calls ops t.replies n (p.at + 1 + 1)) same
          (get_or-set_same p.fds s.session new empty step.in_fds
          ∙ ap (λ (d : Descriptors). after_answer d s.call (file_given (case_at p.at s)) g.r.answer) fds_here ∙ next_here held k is g))
      by_session (inr other) =
          ap (λ (d : List Descriptors). get_or d session empty) set_is ∙ (get_or-set_other p.fds s.session session new empty (λ e. other (sym e))
          ∙ inv.fds_are session in_old ∙ sym (same_all t.calls ops session (p.at + 1) empty t.replies (other_here session other)))

    bounds_next : (reply : Option ℕ) → reply_at f p.at ≡ reply → (j : ℕ) (x : Reply) (z : Submission) → slice_get t.replies j ≡ Some x → call_numbered t.calls x.call ≡ Some z
        → z.session < length (bounds_after p.bounds s.session reply) → x.call < p.at + 1 + 1 → j < get_or (bounds_after p.bounds s.session reply) z.session 0
    bounds_next reply is j x z at_j z_is within low = by_number (cases_eq x.call (p.at + 1)) where
      old_within : (o : Option ℕ) → z.session < length (bounds_after p.bounds s.session o) → z.session < length p.bounds
      old_within None w = w
      old_within (Some k) w = let n = length-set p.bounds s.session (k + 1) in omega (arith, w, n)

      grown : (o : Option ℕ) → reply_at f p.at ≡ o → j < get_or p.bounds z.session 0 → j < get_or (bounds_after p.bounds s.session o) z.session 0
      grown None o_is l = l
      grown (Some k) o_is l = by_session (cases_eq s.session z.session) where
        by_session : (s.session ≡ z.session) ⊎ (s.session ≡ z.session → ⊥) → j < get_or (slice_set p.bounds s.session (k + 1)) z.session 0
        by_session (inl same) =
            let high = (fitting_here k o_is).1 in
            let here : j < get_or p.bounds s.session 0 = subst (λ (n : ℕ). j < get_or p.bounds n 0) (sym same) l in
            let new = get_or-set_same p.bounds s.session (k + 1) 0 step.in_bounds in
            subst (λ (n : ℕ). j < get_or (slice_set p.bounds s.session (k + 1)) n 0) same (omega (arith, here, high, new))
        by_session (inr other) = let old = get_or-set_other p.bounds s.session z.session (k + 1) 0 (λ e. other (sym e)) in omega (arith, old, l)

      placed : (o : Option ℕ) → reply_at f p.at ≡ o → reply_at f p.at ≡ Some j → z ≡ s → j < get_or (bounds_after p.bounds s.session o) z.session 0
      placed None o_is found same = absurd cc
      placed (Some k) o_is found same =
          let k_is : j ≡ k = same_some j k (reply_at f p.at) found o_is in
          let new = get_or-set_same p.bounds s.session (k + 1) 0 step.in_bounds in
          subst (λ (y : Submission). j < get_or (slice_set p.bounds s.session (k + 1)) y.session 0) (sym same) (omega (arith, new, k_is))

      by_number : (x.call ≡ p.at + 1) ⊎ (x.call ≡ p.at + 1 → ⊥) → j < get_or (bounds_after p.bounds s.session reply) z.session 0
      by_number (inl number) =
          placed reply is (found_at p.at j x at_j number) (same_some z s (call_numbered t.calls (p.at + 1)) (ap (call_numbered t.calls) (sym number) ∙ z_is) called)
      by_number (inr differs) = grown reply is (inv.bounded j x z at_j z_is (old_within reply within) (below_by (cases_lt x.call (p.at + 1)))) where
        below_by : (x.call < p.at + 1) ⊎ (p.at + 1 ≤ x.call) → x.call < p.at + 1
        below_by (inl l) = l
        below_by (inr m) = absurd (differs (omega (arith, m, low)))

    pub inv_next : AreHeld ops t.replies step.more → Inv q
    inv_next held = record {
      fds_are = λ session within.
          ap (λ (d : List Descriptors). get_or d session empty) fds_new
          ∙ fds_next held (reply_at f p.at) refl session (subst (λ (d : List Descriptors). session < length d) fds_new within)
          ∙ ap (λ (n : ℕ). descriptors_at t.calls ops t.replies session (n + 1)) (sym step.at_is);
      bounded = λ j x z at_j z_is within low.
          subst (λ (b : List ℕ). j < get_or b z.session 0) (sym step.bounds_is) (bounds_next (reply_at f p.at) refl j x z at_j z_is (subst (λ (b : List ℕ). z.session < length b) step.bounds_is within)
          (subst (λ (n : ℕ). x.call < n + 1) step.at_is low));
      made = step.made_is ∙ made_here ∙ ap (λ (n : ℕ). objects_made (take n t.calls)) (let one : suc p.at ≡ q.at = let a = step.at_is in omega (arith, a) in one);
    } where
      fds_new : q.fds ≡ fds_after p.fds s.session (case_at p.at s) (answer_by t.replies (reply_at f p.at))
      fds_new = step.fds_is ∙ ap (λ (c : Case). fds_after p.fds s.session c (answer_by t.replies (reply_at f p.at))) case_is

  -- ---- all calls

  stepped : (p : Progress) (s : Submission) (q : Progress) → p.at < count → after_call t f count p s ≡ Some q → Stepped p s q
  stepped p s q below h =
      stepped_by p s q (fits_at t f count p s) (case_claims (case_of t f count p.at s (p.made + makes s.call)) (get_or p.fds s.session empty)) below refl refl h

  pub record Gone (p : Progress) : Type 0 where
    pub held : AreHeld ops t.replies p.claims
    pub facts : Inv p → (i : ℕ) (s : Submission) → p.at ≤ i → slice_get t.calls i ≡ Some s → Fact i s

  by_index : (p : Progress) (s : Submission) (q : Progress) → Inv p → (i : ℕ) (x : Submission) → slice_get t.calls i ≡ Some x → slice_get t.calls p.at ≡ Some s
      → (step : Stepped p s q) → AreHeld ops t.replies step.more → Gone q → (p.at ≡ i) ⊎ (p.at ≡ i → ⊥) → p.at ≤ i → Fact i x
  by_index p s q inv i x there here step more later (inl same) l =
      let x_is : s ≡ x = same_some s x (slice_get t.calls i) (ap (slice_get t.calls) (sym same) ∙ here) there in
      subst (λ (n : ℕ). Fact n x) same (subst (λ (y : Submission). Fact p.at y) x_is (fact_here p s q here step inv more))
  by_index p s q inv i x there here step more later (inr differs) l =
      later.facts (inv_next p s q here step inv more) i x (subst (λ (n : ℕ). n ≤ i) (sym step.at_is) (above_by (cases_lt p.at i))) there where
        above_by : (p.at < i) ⊎ (i ≤ p.at) → p.at + 1 ≤ i
        above_by (inl less) = omega (arith, less)
        above_by (inr more_than) = absurd (differs (omega (arith, more_than, l)))

  gone_by : (p end : Progress) (s : Submission) (rest : List Submission) → drop p.at t.calls ≡ s ∷ rest → (o : Option Progress) → after_call t f count p s ≡ o
      → after_calls t f count o rest ≡ Some end
      → ((q : Progress) → drop q.at t.calls ≡ rest → after_calls t f count (Some q) rest ≡ Some end → Gone q) → Gone p
  gone_by p end s rest is None o_is after later = absurd (none_some end None refl after)
  gone_by p end s rest is (Some q) o_is after later =
      let next = drop_next t.calls p.at s rest is in
      let below : p.at < count = let w = slice_get_within t.calls p.at s next.0 in omega (arith, w, all) in
      let step = stepped p s q below o_is in
      let one : suc p.at ≡ q.at = let a = step.at_is in omega (arith, a) in
      let behind = later q (ap (λ (n : ℕ). drop n t.calls) (sym one) ∙ next.1) after in
      let parts = held_parts ops t.replies p.claims step.more (subst (AreHeld ops t.replies) step.claims_is behind.held) in
      record { held = parts.0; facts = λ inv i x l there. by_index p s q inv i x there next.0 step parts.1 behind (cases_eq p.at i) l }

  pub gone : (p end : Progress) (rest : List Submission) → drop p.at t.calls ≡ rest → after_calls t f count (Some p) rest ≡ Some end
      → AreHeld ops t.replies end.claims → Gone p
  gone p end [] is h held =
      let same : p ≡ end = some_is p end h in
      record { held = subst (λ (x : Progress). AreHeld ops t.replies x.claims) (sym same) held; facts = λ inv i s l there. absurd (none_there t.calls p.at i s is l there) }
  gone p end (s ∷ rest) is h held =
      gone_by p end s rest is (after_call t f count p s) refl h (λ q q_is after. gone q end rest q_is after held)

  inv_begun : Inv begun
  inv_begun = record {
    fds_are = λ session within. replicate_at 256 session empty ∙ sym (skip_all t.calls ops session (0 + 1) empty t.replies (none session));
    bounded = λ j x z at_j z_is within low. let first = from_one t.calls x.call z z_is in absurd (omega (arith, low, first));
    made = refl;
  } where
    none : (session k : ℕ) (r : Reply) → slice_get t.replies k ≡ Some r → Skips t.calls ops session (0 + 1) r
    none session k r at_k z z_is same low = let first = from_one t.calls r.call z z_is in absurd (omega (arith, low, first))

  pub facts_of : (end : Progress) → after_calls t f count (Some begun) t.calls ≡ Some end → AreHeld ops t.replies end.claims
      → (i : ℕ) (s : Submission) → slice_get t.calls i ≡ Some s → Fact i s
  facts_of end h held i s there = (gone begun end t.calls refl h held).facts inv_begun i s (omega arith) there
