-- Claims that are added one after another.
use Rattle.std.proofs.Common.{◌≡◌, ◌∷◌, ◌++◌, refl, sym, ap, subst, ◌∙◌, ℕ, ◌+◌, ◌<◌, List, [], length, drop, replicate, get_or, append_assoc, append-nil, true≢false}
use Rattle.std.proofs.lemmas.Bool.{and_parts, ltb-true}
use Rattle.std.proofs.lemmas.List.{drop_more}
use Rattle.std.specs.Prelude.{Bool, true, false, ◌&&◌, nat_lt, Option, Some, None, if◌then◌else◌}
use Rattle.history_replay.specs.code.Cases.{Adds, when, both}
use Rattle.fop_types.specs.Calls.{Submission}
use Rattle.history_replay.specs.Traces.{Trace}
use Rattle.std.specs.FinMap.{empty}
use Rattle.fop_types.specs.Calls.{Descriptors, makes, looked_up, at_once, last_op}
use Rattle.fop_types.specs.declared.answers.Answer.{Answer}
use Rattle.fop_types.specs.declared.cells.Gfid.{Gfid}
use Rattle.history_replay.specs.code.Cases.{Case, is_whole, op_of, found_by, once_by, case_claims}
use Rattle.history_replay.specs.code.Claims.{walk_claims, walk_ends}
use Rattle.history_replay.specs.code.Runs.{Progress, GoesTo, has_session, fits_at, fits_by, case_of, reply_at, answer_by, fds_after, bounds_after, after_claims, after_case, after_submission, after_call, after_calls, begun, AreClaimsOf}
use Rattle.history_replay.specs.declared.findings.Findings.{Findings}
use Rattle.history_replay.specs.declared.claims.Claim.{Claim}

pub adds_both : (x y : Option (List Claim)) (did : Bool) (old mid new : List Claim) → Adds true old mid x → Adds did mid new y → Adds did old new (both x y)
adds_both None y did old mid new a b = absurd (true≢false a)
adds_both (Some first) None did old mid new a b = b
adds_both (Some first) (Some second) did old mid new a b =
    (b.0, b.1 ∙ ap (λ (l : List Claim). l ++ second) a.1 ∙ append_assoc old first second)

pub adds_stop : (x y : Option (List Claim)) (old mid : List Claim) → Adds false old mid x → Adds false old mid (both x y)
adds_stop None y old mid a = refl
adds_stop (Some first) y old mid a = absurd (true≢false (sym a.0))

pub adds_nothing : (old : List Claim) → Adds true old old (Some [])
adds_nothing old = (refl, sym (append-nil old))

pub goes_there : (p : Progress) (o : Option Progress) → GoesTo true p o → o ≡ Some p
goes_there p None h = absurd (true≢false h)
goes_there p (Some q) h = ap Some (sym h.1)

-- one call more
pub calls_next : (t : Trace) (f : Findings) (count : ℕ) (p q : Progress) (o : Option Progress) (calls : List Submission) (i : ℕ) (s : Submission) (did : Bool)
    → calls ≡ t.calls → i < length calls → s ≡ get_or calls i s → did ≡ true → GoesTo did q (after_call t f count p s)
    → after_calls t f count (Some p) (drop i t.calls) ≡ o → after_calls t f count (Some q) (drop (i + 1) t.calls) ≡ o
calls_next t f count p q o calls i s did same within read holds goes so_far =
    let there : after_call t f count p s ≡ Some q = goes_there q (after_call t f count p s) (subst (λ (b : Bool). GoesTo b q (after_call t f count p s)) holds goes) in
    let first : drop i calls ≡ s ∷ drop (i + 1) calls = drop_more calls i s within ∙ ap (λ (x : Submission). x ∷ drop (i + 1) calls) (sym read) in
    let here : after_calls t f count (Some p) (drop i calls) ≡ o = ap (λ (l : List Submission). after_calls t f count (Some p) (drop i l)) same ∙ so_far in
    ap (λ (l : List Submission). after_calls t f count (Some q) (drop (i + 1) l)) (sym same)
    ∙ ap (λ (x : Option Progress). after_calls t f count x (drop (i + 1) calls)) (sym there)
    ∙ ap (after_calls t f count (Some p)) (sym first) ∙ here

-- ---- one call

abbrev made_of : ℕ → List Descriptors → List ℕ → ℕ → List Claim → Progress
made_of at fds bounds made claims = record { at = at; fds = fds; bounds = bounds; made = made; claims = claims }

pub claims_reached : (t : Trace) (f : Findings) (count : ℕ) (p q : Progress) (claims : List Claim) → p ≡ begun → after_calls t f count (Some p) t.calls ≡ Some q
    → claims ≡ q.claims → AreClaimsOf t f count claims
claims_reached t f count p q claims is reached same = record {
  end = q;
  reached = subst (λ (x : Progress). after_calls t f count (Some x) t.calls ≡ Some q) is reached;
  claims_are = sym same;
}

pub begins : (fds : List Descriptors) (bounds : List ℕ) (claims : List Claim) → fds ≡ replicate 256 empty → bounds ≡ replicate 256 0 → claims ≡ []
    → made_of 0 fds bounds 0 claims ≡ begun
begins fds bounds claims fds_are bounds_are none =
    ap (λ (x : List Descriptors). made_of 0 x bounds 0 claims) fds_are ∙ ap (λ (x : List ℕ). made_of 0 (replicate 256 empty) x 0 claims) bounds_are
    ∙ ap (λ (x : List Claim). made_of 0 (replicate 256 empty) (replicate 256 0) 0 x) none

-- a call with its claims
pub goes_on : (t : Trace) (f : Findings) (p q : Progress) (s : Submission) (made : ℕ) (c : Case) (o : Option (List Claim)) → Adds true p.claims q.claims o
    → q.at ≡ p.at + 1 → q.fds ≡ fds_after p.fds s.session c (answer_by t.replies (reply_at f p.at)) → q.bounds ≡ bounds_after p.bounds s.session (reply_at f p.at)
    → q.made ≡ made → GoesTo true q (after_claims t f p s made c o)
goes_on t f p q s made c None adds at fds bounds made_is = absurd (true≢false adds)
goes_on t f p q s made c (Some more) adds at fds bounds made_is = (
  refl,
  ap (λ (x : ℕ). made_of x q.fds q.bounds q.made q.claims) at
      ∙ ap (λ (x : List Descriptors). made_of (p.at + 1) x q.bounds q.made q.claims) fds
      ∙ ap (λ (x : List ℕ). made_of (p.at + 1) (fds_after p.fds s.session c (answer_by t.replies (reply_at f p.at))) x q.made q.claims) bounds
      ∙ ap (λ (x : ℕ). made_of (p.at + 1) (fds_after p.fds s.session c (answer_by t.replies (reply_at f p.at))) (bounds_after p.bounds s.session (reply_at f p.at)) x q.claims) made_is
      ∙ ap (made_of (p.at + 1) (fds_after p.fds s.session c (answer_by t.replies (reply_at f p.at))) (bounds_after p.bounds s.session (reply_at f p.at)) made) adds.1,
)

-- a call that has none
pub goes_nowhere : (t : Trace) (f : Findings) (p q : Progress) (s : Submission) (made : ℕ) (c : Case) (o : Option (List Claim)) (old new : List Claim) → Adds false old new o
    → GoesTo false q (after_claims t f p s made c o)
goes_nowhere t f p q s made c None old new adds = refl
goes_nowhere t f p q s made c (Some more) old new adds = absurd (true≢false (sym adds.0))

-- a call that may be the next one
pub follows : (t : Trace) (f : Findings) (count : ℕ) (p q : Progress) (s : Submission) (made : ℕ) (c : Case) (did : Bool) → fits_at t f count p s ≡ true
    → made ≡ p.made + makes s.call → c ≡ case_of t f count p.at s made
    → GoesTo did q (after_claims t f p s made c (case_claims c (get_or p.fds s.session empty))) → GoesTo did q (after_call t f count p s)
follows t f count p q s made c did fit made_is c_is goes =
    let case_is : c ≡ case_of t f count p.at s (p.made + makes s.call) = c_is ∙ ap (case_of t f count p.at s) made_is in
    let first : GoesTo did q (after_claims t f p s (p.made + makes s.call) c (case_claims c (get_or p.fds s.session empty))) =
    subst (λ (n : ℕ). GoesTo did q (after_claims t f p s n c (case_claims c (get_or p.fds s.session empty)))) made_is goes in
    let second : GoesTo did q (after_case t f p s (case_of t f count p.at s (p.made + makes s.call)) (case_claims (case_of t f count p.at s (p.made + makes s.call)) (get_or p.fds s.session empty))) =
    subst (λ (x : Case). GoesTo did q (after_case t f p s x (case_claims x (get_or p.fds s.session empty)))) case_is first in
    subst (λ (b : Bool). GoesTo did q (if b then after_case t f p s (case_of t f count p.at s (p.made + makes s.call)) (case_claims (case_of t f count p.at s (p.made + makes s.call)) (get_or p.fds s.session empty)) else None))
    (sym fit) second

pub in_fds : (t : Trace) (f : Findings) (count : ℕ) (p : Progress) (s : Submission) → fits_at t f count p s ≡ true → s.session < length p.fds
in_fds t f count p s fit =
    let one = and_parts (has_session p s.session) (fits_by t f count p s) fit in
    let two = and_parts (nat_lt s.session (length p.fds)) (nat_lt s.session (length p.bounds)) one.0 in
    ltb-true s.session (length p.fds) two.0

pub in_bounds : (t : Trace) (f : Findings) (count : ℕ) (p : Progress) (s : Submission) → fits_at t f count p s ≡ true → s.session < length p.bounds
in_bounds t f count p s fit =
    let one = and_parts (has_session p s.session) (fits_by t f count p s) fit in
    let two = and_parts (nat_lt s.session (length p.fds)) (nat_lt s.session (length p.bounds)) one.0 in
    ltb-true s.session (length p.bounds) two.1

-- a call that sends fops
pub sent_adds : (c : Case) (fds : Descriptors) (did : Bool) (old mid new : List Claim) (ends : List Gfid) → mid ≡ old ++ walk_claims (looked_up c.call) c.places c.found
    → ends ≡ walk_ends (looked_up c.call) c.places c.found → Adds did mid new (found_by (is_whole c) c (last_op c.call ends c.drawn fds))
    → Adds did old new (once_by None c fds)
sent_adds c fds did old mid new ends walked ends_are adds =
    adds_both (Some (walk_claims (looked_up c.call) c.places c.found)) (found_by (is_whole c) c (op_of c fds)) did old mid new (refl, walked)
    (subst (λ (g : List Gfid). Adds did mid new (found_by (is_whole c) c (last_op c.call g c.drawn fds))) ends_are adds)

pub case_said : (c : Case) (fds : Descriptors) (did : Bool) (old new : List Claim) (a : Answer) → at_once fds c.call ≡ Some a
    → ((others : Descriptors) → Adds did old new (once_by (Some a) c others)) → Adds did old new (case_claims c fds)
case_said c fds did old new a once adds = subst (λ (o : Option Answer). Adds did old new (once_by o c fds)) (sym once) (adds fds)

pub case_sent : (c : Case) (fds : Descriptors) (did : Bool) (old new : List Claim) → at_once fds c.call ≡ None → Adds did old new (once_by None c fds)
    → Adds did old new (case_claims c fds)
case_sent c fds did old new once adds = subst (λ (o : Option Answer). Adds did old new (once_by o c fds)) (sym once) adds
