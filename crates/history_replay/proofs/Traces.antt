-- A trace whose claims hold is lawful.
use Rattle.std.proofs.Common.{◌≡◌, ◌≢◌, ◌∷◌, ◌++◌, refl, sym, ap, subst, ◌∙◌, ℕ, ◌+◌, ◌-◌, ◌<◌, ◌≤◌, ◌==◌, suc, zero, ◌⊎◌, inl, inr, List, [], length, take, get_or, true≢false, arith}
use Rattle.std.specs.Prelude.{Bool, true, false, ◌&&◌, nat_le, nat_lt, Option, Some, None, IfSome, slice_get, if◌then◌else◌}
use Rattle.std.proofs.Math.Dec.{eqb-suc-zero}
use Rattle.std.proofs.lemmas.Bool.{and_parts, cases_eq, eqb-true, leb-true, ltb-true, eq-eqb, lt-ltb}
use Rattle.std.proofs.lemmas.Option.{slice_get_within}
use Rattle.fop_types.specs.Calls.{Submission, Descriptors, call_numbered, objects_made, drawn_by, looked_up, lookups, at_once, last_op, last_part_number, is_rename}
use Rattle.fop_types.specs.History.{Reply, walk, fs_after, descriptors_at, AreAtMost, IsLegalEntry, IsLegalHistory}
use Rattle.fop_types.specs.History.Walk.{Reached}
use Rattle.fop_types.specs.Replies.{HasNoEntry, AreBetween, IsLawfulAnswer, IsLawfulReply, AreLawfulReplies, session_of}
use Rattle.fop_types.specs.declared.calls.Call.{Call}
use Rattle.fop_types.specs.declared.cells.Gfid.{Gfid}
use Rattle.fop_types.specs.declared.flat.FlatOp.{FlatOp}
use Rattle.fop_types.specs.declared.history.Entry.{Entry}
use Rattle.history_replay.specs.Traces.{Trace, of_call, IsLawfulWith, IsLawfulTrace}
use Rattle.history_replay.specs.code.Cases.{Case, is_none, is_free, are_between}
use Rattle.history_replay.specs.code.Claims.{AreHeld}
use Rattle.history_replay.specs.code.Runs.{Progress, begun, places_in, places_by, answer_in, answer_by, reply_at, case_of, after_calls, index_by, IsEntryFound, IsReplyFound, IsLastOf, AreIndexed, AreClaimsOf, Bears}
use Rattle.history_replay.specs.declared.claims.Claim.{Claim}
use Rattle.history_replay.specs.declared.findings.Findings.{Findings}
use Rattle.history_replay.proofs.Answers.{lawful_answer}
use Rattle.history_replay.proofs.Basics.{some_is, same_some, none_some}
use Rattle.history_replay.proofs.Folded.{numbered, case_at, fds_at, made_at, Fitting, Fact, facts_of}
use Rattle.history_replay.proofs.Parts.{IsPart, last_is_legal, first_is_legal, first_before_last}
use Rattle.history_replay.proofs.Shapes.{Said, Unfound, Whole, Shape}
use Rattle.history_replay.proofs.Shapes.Shape.{IsSaid, IsUnfound, IsWhole}

between_is : (places : List ℕ) (low high : ℕ) → are_between places low high ≡ true → AreBetween places low high
between_is [] low high h = tt
between_is (place ∷ places) low high h =
    let one = and_parts (nat_le low place) (nat_le place high && are_between places place high) h in
    let two = and_parts (nat_le place high) (are_between places place high) one.1 in
    (leb-true low place one.0, leb-true place high two.0, between_is places place high two.1)

one_or_two : (c : Call) → (last_part_number c ≡ 1) ⊎ (last_part_number c ≡ 2)
one_or_two c = by_rename (is_rename c) where
  by_rename : (b : Bool) → (◌≡◌ {A = ℕ} (if b then 2 else 1) 1) ⊎ (◌≡◌ {A = ℕ} (if b then 2 else 1) 2)
  by_rename true = inr refl
  by_rename false = inl refl

module _ (t : Trace) (f : Findings) (count : ℕ) (all : length t.calls ≤ count) (ops : List FlatOp) (indexed : AreIndexed t f)
    (as_many : length ops ≡ length t.history) (facts : (i : ℕ) (s : Submission) → slice_get t.calls i ≡ Some s → Fact t f count all ops indexed i s) where
  abbrev places : ℕ → List ℕ
  places number = places_by t.replies (reply_at f (number - 1))

  abbrev answered : ℕ → ℕ
  answered number = length (places number)

  abbrev case_here : ℕ → Submission → Case
  case_here at s = case_at t f count all ops indexed at s

  abbrev fds_here : ℕ → Submission → Descriptors
  fds_here at s = fds_at t f count all ops indexed at s

  -- ---- entries

  whole_by : (at : ℕ) (s : Submission) → is_free (case_here at s) ≡ false → Shape ops t.replies (case_here at s) (fds_here at s) → Whole ops t.replies (case_here at s) (fds_here at s)
  whole_by at s entry (IsSaid x) = absurd (true≢false (sym x.free ∙ entry))
  whole_by at s entry (IsUnfound x) = absurd (true≢false (sym x.free ∙ entry))
  whole_by at s entry (IsWhole w) = w

  not_free_first : (c : Case) (index : ℕ) → c.first ≡ Some index → is_free c ≡ false
  not_free_first c index is = rw is refl

  not_free_last : (c : Case) (index : ℕ) → c.last ≡ Some index → is_free c ≡ false
  not_free_last c index is = rw is (and_none (is_none c.first)) where
    and_none : (b : Bool) → (b && false) ≡ false
    and_none true = refl
    and_none false = refl

  -- where an entry is found: the last part of its call, or part 1 of a rename
  pub data Place (at : ℕ) (s : Submission) (e : Entry) (index : ℕ) : Type 0 where
    IsLast : e.part ≡ last_part_number s.call → get_or f.last at None ≡ Some index → Place at s e index
    IsFirst : e.part ≡ 1 → (last_part_number s.call == 1) ≡ false → get_or f.first at None ≡ Some index → Place at s e index

  place_by : (at : ℕ) (s : Submission) (e : Entry) (index : ℕ) (last first : Bool) → (e.part == last_part_number s.call) ≡ last → (e.part == 1) ≡ first
      → (if last then get_or f.last at None else (if first then get_or f.first at None else None)) ≡ Some index → Place at s e index
  place_by at s e index true first is one h = IsLast (eqb-true e.part (last_part_number s.call) is) h
  place_by at s e index false false is one h = absurd cc
  place_by at s e index false true is one h =
      let part = eqb-true e.part 1 one in
      IsFirst part (by_equal (last_part_number s.call == 1) refl part) h where
        by_equal : (b : Bool) → (last_part_number s.call == 1) ≡ b → e.part ≡ 1 → (last_part_number s.call == 1) ≡ false
        by_equal false b_is part = b_is
        by_equal true b_is part =
            absurd (true≢false (sym (eq-eqb e.part (last_part_number s.call) (part ∙ sym (eqb-true (last_part_number s.call) 1 b_is))) ∙ is))

  pub record Found (index : ℕ) (e : Entry) : Type 0 where
    pub at : ℕ
    pub number : e.call ≡ at + 1
    pub s : Submission
    pub there : slice_get t.calls at ≡ Some s
    pub place : Place at s e index

  found_by : (index : ℕ) (e : Entry) (at : ℕ) → e.call ≡ at + 1 → (o : Option Submission) → slice_get t.calls at ≡ o → index_by f at e o ≡ Some index → Found index e
  found_by index e at number None is h = absurd cc
  found_by index e at number (Some s) is h =
      record { at = at; number = number; s = s; there = is; place = place_by at s e index (e.part == last_part_number s.call) (e.part == 1) refl refl h }

  found_of : (index : ℕ) (e : Entry) → slice_get t.history index ≡ Some e → Found index e
  found_of index e there =
      let x = indexed.entries index e there in
      found_by index e (e.call - 1) (let one = x.from_one in omega (arith, one)) (slice_get t.calls (e.call - 1)) refl x.found

  part_by : (at : ℕ) (s : Submission) (e : Entry) (index : ℕ) → Fact t f count all ops indexed at s → Place at s e index → IsPart (case_here at s) (fds_here at s) ops index e.part
  part_by at s e index fact (IsLast part last) =
      subst (λ (n : ℕ). IsPart (case_here at s) (fds_here at s) ops index n) (sym part)
      (last_is_legal ops t.replies (case_here at s) (fds_here at s) refl index (whole_by at s (not_free_last (case_here at s) index last) fact.shape) last)
  part_by at s e index fact (IsFirst part other first) =
      subst (λ (n : ℕ). IsPart (case_here at s) (fds_here at s) ops index n) (sym part)
      (first_is_legal ops t.replies (case_here at s) (fds_here at s) refl index (whole_by at s (not_free_first (case_here at s) index first) fact.shape) first other)

  legal_by : (index : ℕ) (e : Entry) → Found index e → IsLegalEntry t.calls t.replies (of_call t.submitted e.call) places ops index e
  legal_by index e x =
      let part = part_by x.at x.s e index (facts x.at x.s x.there) x.place in
      let before : e.call - 1 ≡ x.at = let n = x.number in omega (arith, n) in
      let places_are : places e.call ≡ (case_here x.at x.s).places = ap (λ (n : ℕ). places_by t.replies (reply_at f n)) before in
      let fds_are : descriptors_at t.calls ops t.replies x.s.session e.call ≡ fds_here x.at x.s = ap (descriptors_at t.calls ops t.replies x.s.session) x.number in
      let up : e.call ≡ suc x.at = let n = x.number in omega (arith, n) in
      let drawn_is : drawn_by t.calls e.call ≡ (case_here x.at x.s).drawn = ap (λ (n : ℕ). record { hi = 0; lo = 1 + objects_made (take n t.calls) }) up in
      let submitted_is : of_call t.submitted e.call ≡ (case_here x.at x.s).submitted = ap (λ (n : ℕ). get_or t.submitted n 0) before in
      record {
        submission = x.s;
        asked = ap (call_numbered t.calls) x.number ∙ numbered t.calls x.at x.s x.there;
        sent = subst (λ (d : Descriptors). at_once d x.s.call ≡ None) (sym fds_are) part.sent;
        found = part.found;
        rest = part.rest;
        reached = subst (λ (ps : List ℕ). walk (fs_after ops) (looked_up x.s.call) ps ≡ Reached part.found part.rest) (sym places_are) part.reached;
        below = subst (λ (ps : List ℕ). AreAtMost (take (lookups (looked_up x.s.call)) ps) index) (sym places_are) part.below;
        last = part.last;
        whole = subst (λ (g : Gfid). last_op x.s.call part.found g (descriptors_at t.calls ops t.replies x.s.session e.call) ≡ Some part.last) (sym drawn_is)
            (subst (λ (d : Descriptors). last_op x.s.call part.found (case_here x.at x.s).drawn d ≡ Some part.last) (sym fds_are) part.whole);
        op = part.op;
        fixed = part.fixed;
        stands = part.stands;
        accepted = part.accepted;
        seen = part.seen;
        after_submission = subst (λ (n : ℕ). n ≤ part.seen) (sym submitted_is) part.after_submission;
        after_lookups = subst (λ (ps : List ℕ). AreAtMost (take (lookups (looked_up x.s.call)) ps) part.seen) (sym places_are) part.after_lookups;
        not_later = part.not_later;
        possible = part.possible;
      }

  same_index : (i j : ℕ) (e : Entry) → slice_get t.history i ≡ Some e → slice_get t.history j ≡ Some e → i ≡ j
  same_index i j e at_i at_j = same_some i j _ (indexed.entries i e at_i).found (indexed.entries j e at_j).found

  order_by : (i j : ℕ) (a b : Entry) (at : ℕ) (s : Submission) → Fact t f count all ops indexed at s → Place at s a i → Place at s b j → a.part < b.part → i < j
  order_by i j a b at s fact (IsLast pa la) (IsLast pb lb) less = absurd (omega (arith, pa, pb, less))
  order_by i j a b at s fact (IsLast pa la) (IsFirst pb other lb) less = by_number (one_or_two s.call) where
    by_number : (last_part_number s.call ≡ 1) ⊎ (last_part_number s.call ≡ 2) → i < j
    by_number (inl one) = absurd (omega (arith, pa, pb, less, one))
    by_number (inr two) = absurd (omega (arith, pa, pb, less, two))
  order_by i j a b at s fact (IsFirst pa other la) (IsFirst pb more lb) less = absurd (omega (arith, pa, pb, less))
  order_by i j a b at s fact (IsFirst pa other la) (IsLast pb lb) less =
      first_before_last ops t.replies (case_here at s) (fds_here at s) refl i j (whole_by at s (not_free_first (case_here at s) i la) fact.shape) la lb

  in_order_by : (i j : ℕ) (a b : Entry) → Found i a → Found j b → a.call ≡ b.call → a.part < b.part → i < j
  in_order_by i j a b x y same less =
      let at_is : y.at ≡ x.at = let n = x.number in let m = y.number in omega (arith, n, m, same) in
      let s_is : y.s ≡ x.s = same_some y.s x.s (slice_get t.calls x.at) (ap (slice_get t.calls) (sym at_is) ∙ y.there) x.there in
      let place : Place x.at x.s b j = subst (λ (n : ℕ). Place n x.s b j) at_is (subst (λ (z : Submission). Place y.at z b j) s_is y.place) in
      order_by i j a b x.at x.s (facts x.at x.s x.there) x.place place less

  written_by : (k : ℕ) (r : Reply) → slice_get t.replies k ≡ Some r → places r.call ≡ r.places
  written_by k r there = ap (places_by t.replies) (indexed.replies k r there).found ∙ ap places_in there

  pub legal_history : IsLegalHistory t.calls t.replies (of_call t.submitted) places ops t.history
  legal_history = record {
    as_many = as_many;
    distinct = same_index;
    legal = λ index e there. legal_by index e (found_of index e there);
    in_order = λ i j a b at_i at_j same less. in_order_by i j a b (found_of i a at_i) (found_of j b at_j) same less;
    written = written_by;
  }

  -- ---- replies

  pub record Called (k : ℕ) (r : Reply) : Type 0 where
    pub at : ℕ
    pub number : r.call ≡ at + 1
    pub s : Submission
    pub there : slice_get t.calls at ≡ Some s
    pub found : reply_at f at ≡ Some k

  some_there : (calls : List Submission) (at : ℕ) → at < length calls → (s : Submission) × (slice_get calls at ≡ Some s)
  some_there [] at l = absurd (omega (arith, l))
  some_there (c ∷ calls) zero l = (c, refl)
  some_there (c ∷ calls) (suc at) l = some_there calls at (omega (arith, l))

  called_of : (k : ℕ) (r : Reply) → slice_get t.replies k ≡ Some r → Called k r
  called_of k r there =
      let x = indexed.replies k r there in
      let low = x.from_one in
      let high = x.within in
      let s = some_there t.calls (r.call - 1) (omega (arith, low, high)) in
      record { at = r.call - 1; number = omega (arith, low); s = s.0; there = s.1; found = x.found }

  no_entry_by : (c : Case) (r : Reply) (at : ℕ) (s : Submission) → r.call ≡ at + 1 → slice_get t.calls at ≡ Some s → c ≡ case_here at s → is_free c ≡ true → HasNoEntry t.history r.call
  no_entry_by c r at s number there c_is free k e at_k same =
      let x = found_of k e at_k in
      let at_is : x.at ≡ at = let n = x.number in omega (arith, n, number, same) in
      let s_is : x.s ≡ s = same_some x.s s (slice_get t.calls at) (ap (slice_get t.calls) (sym at_is) ∙ x.there) there in
      by_place (subst (λ (n : ℕ). Place n s e k) at_is (subst (λ (z : Submission). Place x.at z e k) s_is x.place)) where
        free_here : is_free (case_here at s) ≡ true
        free_here = subst (λ (d : Case). is_free d ≡ true) c_is free

        by_place : Place at s e k → ⊥
        by_place (IsLast part last) = true≢false (sym free_here ∙ not_free_last (case_here at s) k last)
        by_place (IsFirst part other first) = true≢false (sym free_here ∙ not_free_first (case_here at s) k first)

  last_by_index : (at : ℕ) (s : Submission) (r : Reply) → r.call ≡ at + 1 → slice_get t.calls at ≡ Some s → (i : ℕ) → (case_here at s).last ≡ Some i
      → slice_get t.history i ≡ Some (record { call = r.call; part = last_part_number s.call })
  last_by_index at s r number there i is =
      let h = indexed.lasts at s there in
      let entry : slice_get t.history i ≡ Some (record { call = at + 1; part = last_part_number s.call }) =
      subst (λ (o : Option ℕ). IsLastOf t at s o) is h in
      entry ∙ ap (λ (n : ℕ). Some (record { call = n; part = last_part_number s.call })) (sym number)

  lawful_by : (k : ℕ) (r : Reply) → slice_get t.replies k ≡ Some r → Called k r
      → IsLawfulReply t.calls t.replies ops t.history (of_call t.since r.call) (of_call t.until r.call) (answered r.call) r
  lawful_by k r there x =
      let fact = facts x.at x.s x.there in
      let g = fact.fitting k x.found in
      let same : g.r ≡ r = same_some g.r r (slice_get t.replies k) g.there there in
      let before : r.call - 1 ≡ x.at = let n = x.number in omega (arith, n) in
      let since_is : of_call t.since r.call ≡ get_or t.since x.at 0 = ap (λ (n : ℕ). get_or t.since n 0) before in
      let until_is : of_call t.until r.call ≡ get_or t.until x.at 0 = ap (λ (n : ℕ). get_or t.until n 0) before in
      let below : x.at < count = let w = slice_get_within t.calls x.at x.s x.there in omega (arith, w, all) in
      let up : suc x.at ≡ r.call = let n = x.number in omega (arith, n) in
      let fds_are : descriptors_at t.calls ops t.replies x.s.session r.call ≡ fds_here x.at x.s = ap (descriptors_at t.calls ops t.replies x.s.session) x.number in
      record {
        submission = x.s;
        asked = ap (call_numbered t.calls) x.number ∙ numbered t.calls x.at x.s x.there;
        counted = ap length (sym (written_by k r there));
        between = subst (λ (n : ℕ). AreBetween r.places n (of_call t.until r.call)) (sym since_is)
            (subst (λ (n : ℕ). AreBetween r.places (get_or t.since x.at 0) n) (sym until_is)
            (between_is r.places (get_or t.since x.at 0) (get_or t.until x.at 0)
            (subst (λ (y : Reply). are_between y.places (get_or t.since x.at 0) (get_or t.until x.at 0) ≡ true) same g.between)));
        within = subst (λ (n : ℕ). n ≤ length t.history) (sym until_is) g.within;
        lawful = subst (λ (d : Descriptors). IsLawfulAnswer (at_once d x.s.call) t.calls d ops t.history x.s.call r) (sym fds_are) (lawful_answer ops t.replies t.calls t.history (case_here x.at x.s) (fds_here x.at x.s) refl k r there
            (ap (λ (b : Bool). if b then answer_by t.replies (reply_at f x.at) else None) (lt-ltb x.at count below) ∙ ap (answer_by t.replies) x.found ∙ ap (answer_in k) there)
            (ap (places_by t.replies) x.found ∙ ap places_in there)
            (ap (λ (n : ℕ). record { hi = 0; lo = 1 + objects_made (take n t.calls) }) up)
            (no_entry_by (case_here x.at x.s) r x.at x.s x.number x.there refl)
            (last_by_index x.at x.s r x.number x.there)
            fact.shape);
      }

  once_by_index : (i j : ℕ) (a b : Reply) → slice_get t.replies i ≡ Some a → slice_get t.replies j ≡ Some b → a.call ≡ b.call → i ≡ j
  once_by_index i j a b at_i at_j same =
      same_some i j (reply_at f (b.call - 1)) (ap (λ (n : ℕ). reply_at f (n - 1)) (sym same) ∙ (indexed.replies i a at_i).found) (indexed.replies j b at_j).found

  behind_by : (i j : ℕ) (a b : Reply) → slice_get t.replies i ≡ Some a → Called i a → Called j b
      → session_of (call_numbered t.calls a.call) ≡ session_of (call_numbered t.calls b.call) → a.call < b.call → i < j
  behind_by i j a b at_i x y same less =
      let a_is : call_numbered t.calls a.call ≡ Some x.s = ap (call_numbered t.calls) x.number ∙ numbered t.calls x.at x.s x.there in
      let b_is : call_numbered t.calls b.call ≡ Some y.s = ap (call_numbered t.calls) y.number ∙ numbered t.calls y.at y.s y.there in
      let sessions : Some x.s.session ≡ Some y.s.session = ap session_of (sym a_is) ∙ same ∙ ap session_of b_is in
      let session : x.s.session ≡ y.s.session = some_is x.s.session y.s.session sessions in
      (facts y.at y.s y.there).order j y.found i a x.s at_i a_is session (let n = y.number in omega (arith, less, n))

  pub lawful_replies : AreLawfulReplies t.calls t.replies ops t.history (of_call t.since) (of_call t.until) answered
  lawful_replies = record {
    once = once_by_index;
    in_order = λ i j a b at_i at_j same less. behind_by i j a b at_i (called_of i a at_i) (called_of j b at_j) same less;
    each = λ k r there. lawful_by k r there (called_of k r there);
  }

lawful_with : (t : Trace) (f : Findings) (count : ℕ) (claims : List Claim) (ops : List FlatOp) → AreIndexed t f → AreClaimsOf t f count claims
    → Bears t.replies (length t.history) claims ops → length t.calls ≤ count → IsLawfulWith t ops
lawful_with t f count claims ops indexed made bears all =
    let held : AreHeld ops t.replies made.end.claims = subst (AreHeld ops t.replies) (sym made.claims_are) bears.held in
    let facts = facts_of t f count all ops indexed made.end made.reached held in
    record {
      places = λ number. places_by t.replies (reply_at f (number - 1));
      legal = legal_history t f count all ops indexed bears.as_many facts;
      lawful = lawful_replies t f count all ops indexed bears.as_many facts;
    }

pub lawful_if : (t : Trace) (f : Findings) (count : ℕ) (claims : List Claim) (replies : List Reply) (entries : ℕ) (o : Option (List FlatOp)) → replies ≡ t.replies
    → entries ≡ length t.history → AreIndexed t f → AreClaimsOf t f count claims → IfSome o (λ ops. Bears replies entries claims ops)
    → IfSome o (λ ops. length t.calls ≤ count → IsLawfulWith t ops)
lawful_if t f count claims replies entries None replies_are entries_are indexed made bears = tt
lawful_if t f count claims replies entries (Some ops) replies_are entries_are indexed made bears =
    lawful_with t f count claims ops indexed made
    (subst (λ (r : List Reply). Bears r (length t.history) claims ops) replies_are (subst (λ (n : ℕ). Bears replies n claims ops) entries_are bears))

pub lawful_trace : (t : Trace) (count : ℕ) (o : Option (List FlatOp)) (ops : List FlatOp) → o ≡ Some ops → IfSome o (λ ops. length t.calls ≤ count → IsLawfulWith t ops)
    → length t.calls ≤ count → IsLawfulTrace t
lawful_trace t count None ops is lawful all = absurd cc
lawful_trace t count (Some found) ops is lawful all = record { ops = found; lawful = lawful all }

pub all_lawful : (t : Trace) (count : ℕ) (o : Option (List FlatOp)) → length t.calls ≤ count → IfSome o (λ ops. length t.calls ≤ count → IsLawfulWith t ops)
    → IfSome o (λ ops. IsLawfulWith t ops)
all_lawful t count None all lawful = tt
all_lawful t count (Some ops) all lawful = lawful all
