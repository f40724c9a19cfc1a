-- The entries of a call are legal.
use Rattle.std.proofs.Common.{◌≡◌, ◌∷◌, ◌++◌, refl, sym, ap, subst, ◌∙◌, ℕ, ◌+◌, ◌-◌, ◌<◌, ◌≤◌, ◌==◌, suc, List, [], length, take, drop, get_or, true≢false, arith}
use Rattle.std.specs.Prelude.{Bool, true, false, not, ◌&&◌, nat_le, nat_lt, Option, Some, None, slice_get, if◌then◌else◌}
use Rattle.std.proofs.lemmas.Bool.{and_parts, eqb-true, leb-true, ltb-true, eq-eqb, false_from_ne_true}
use Rattle.fop_types.specs.Calls.{Descriptors, looked_up, lookups, at_once, last_op, part_op, first_op, last_part_number, is_rename}
use Rattle.fop_types.specs.Flat.{flat, IsChange, is_change}
use Rattle.fop_types.specs.Names.{is_same_name}
use Rattle.fop_types.specs.History.{Reply, Walk, walk, fs_after, AreAtMost}
use Rattle.fop_types.specs.History.Walk.{Reached}
use Rattle.fop_types.specs.Replies.{is_ok}
use Rattle.fop_types.specs.declared.answers.Answer.{Answer}
use Rattle.fop_types.specs.declared.calls.Call.{Call}
use Rattle.fop_types.specs.declared.cells.Gfid.{Gfid}
use Rattle.fop_types.specs.declared.flat.FlatOp.{FlatOp}
use Rattle.fop_types.specs.declared.flat.FlatOp.TheVariants as op
use Rattle.history_replay.specs.code.Cases.{Case, when, is_none, is_free, is_whole, is_late, is_first, is_before, is_io, are_at_most, lookup_places, last_place, first_by, part_claims, entry_by, done_by, read_by, placed_by, answered_by, last_by, op_of}
use Rattle.history_replay.specs.code.Claims.{IsEntered, AreHeld, walk_claims, walk_ends}
use Rattle.history_replay.specs.declared.claims.Claim.{Claim}
use Rattle.history_replay.specs.declared.claims.Claim.TheVariants as claim
use Rattle.history_replay.proofs.Shapes.{Whole, when_parts, if_parts}
use Rattle.history_replay.proofs.Walks.{walk_whole, few_paths}

pub at_most : (places : List ℕ) (most : ℕ) → are_at_most places most ≡ true → AreAtMost places most
at_most [] most h = tt
at_most (place ∷ places) most h =
    let parts = and_parts (nat_le place most) (are_at_most places most) h in
    (leb-true place most parts.0, at_most places most parts.1)

pub at_most_more : (places : List ℕ) (most more : ℕ) → most ≤ more → AreAtMost places most → AreAtMost places more
at_most_more [] most more l h = tt
at_most_more (place ∷ places) most more l h = (omega (arith, h.0), at_most_more places most more l h.1)

-- an entry of a call, as it is legal
pub record IsPart (c : Case) (fds : Descriptors) (ops : List FlatOp) (index part : ℕ) : Type 0 where
  pub sent : at_once fds c.call ≡ None
  pub found : List Gfid
  pub rest : List ℕ
  pub reached : walk (fs_after ops) (looked_up c.call) c.places ≡ Reached found rest
  pub below : AreAtMost (take (lookups (looked_up c.call)) c.places) index
  pub last : FlatOp
  pub whole : last_op c.call found c.drawn fds ≡ Some last
  pub op : FlatOp
  pub fixed : part_op c.call (Some last) part ≡ Some op
  pub stands : slice_get ops index ≡ Some op
  pub accepted : IsChange (flat (fs_after ops index) op)
  pub seen : ℕ
  pub after_submission : c.submitted ≤ seen
  pub after_lookups : AreAtMost (take (lookups (looked_up c.call)) c.places) seen
  pub not_later : seen ≤ index
  pub possible : IsChange (flat (fs_after ops seen) last)

module _ (ops : List FlatOp) (replies : List Reply) (c : Case) (fds : Descriptors) (counted : c.lookups ≡ lookups (looked_up c.call)) where
  -- the walk of a call whose lookups found all
  pub reached_all : is_whole c ≡ true → AreHeld ops replies (walk_claims (looked_up c.call) c.places c.found)
      → walk (fs_after ops) (looked_up c.call) c.places ≡ Reached (walk_ends (looked_up c.call) c.places c.found) (drop c.lookups c.places)
  reached_all whole held =
      let parts = and_parts (length c.found == c.lookups) (nat_le c.lookups (length c.places)) whole in
      let found_all : length c.found ≡ c.lookups = eqb-true (length c.found) c.lookups parts.0 in
      let placed : c.lookups ≤ length c.places = leb-true c.lookups (length c.places) parts.1 in
      walk_whole ops replies (looked_up c.call) c.places c.found (few_paths c.call) (subst (λ (n : ℕ). n ≤ length c.places) counted placed) (found_all ∙ counted) held
      ∙ ap (λ (n : ℕ). Reached (walk_ends (looked_up c.call) c.places c.found) (drop n c.places)) (sym counted)

  -- an entry that may be the last part
  pub record Late (index : ℕ) (last : FlatOp) : Type 0 where
    pub late : is_late c index ≡ true
    pub reply : Option ℕ
    pub entered : IsEntered ops replies index last reply

  late_by_entry : (index : ℕ) (last : FlatOp) (claims : List Claim) → entry_by (Some index) c last ≡ Some claims → AreHeld ops replies claims → Late index last
  late_by_entry index last claims made held =
      let parts = when_parts (is_late c index) (claim.Enters index last None ∷ []) claims made in
      let h = subst (AreHeld ops replies) parts.1 held in
      record { late = parts.0; reply = None; entered = h.0 }

  late_by_done : (index k : ℕ) (last : FlatOp) (claims : List Claim) → done_by (Some index) c k last ≡ Some claims → AreHeld ops replies claims → Late index last
  late_by_done index k last claims made held =
      let parts = when_parts (is_late c index && (index + 1 == last_place c)) (claim.Enters index last (Some k) ∷ []) claims made in
      let tests = and_parts (is_late c index) (index + 1 == last_place c) parts.0 in
      let h = subst (AreHeld ops replies) parts.1 held in
      record { late = tests.0; reply = Some k; entered = h.0 }

  not_free : (index : ℕ) → c.last ≡ Some index → is_free c ≡ false
  not_free index is = rw is (and_none (is_none c.first)) where
    and_none : (b : Bool) → (b && false) ≡ false
    and_none true = refl
    and_none false = refl

  late_by_placed : (b : Bool) (index k : ℕ) (last : FlatOp) (claims : List Claim) → c.last ≡ Some index → placed_by b c k last ≡ Some claims
      → AreHeld ops replies claims → Late index last
  late_by_placed true index k last claims is made held =
      late_by_done index k last claims (subst (λ (o : Option ℕ). done_by o c k last ≡ Some claims) is made) held
  late_by_placed false index k last claims is made held =
      let parts = when_parts (is_free c) (claim.Answers (last_place c) last k ∷ []) claims made in
      absurd (true≢false (sym parts.0 ∙ not_free index is))

  late_by_answer : (index k : ℕ) (a : Answer) (last : FlatOp) (claims : List Claim) → c.last ≡ Some index
      → (equal more : Bool) → (if equal then (if is_io a then entry_by c.last c last else None) else (if more then placed_by (is_change last && is_ok a) c k last else None)) ≡ Some claims
      → AreHeld ops replies claims → Late index last
  late_by_answer index k a last claims is true more made held =
      let parts = if_parts (is_io a) (entry_by c.last c last) claims made in
      late_by_entry index last claims (subst (λ (o : Option ℕ). entry_by o c last ≡ Some claims) is parts.1) held
  late_by_answer index k a last claims is false more made held =
      let parts = if_parts more (placed_by (is_change last && is_ok a) c k last) claims made in
      late_by_placed (is_change last && is_ok a) index k last claims is parts.1 held

  late_by_reply : (index : ℕ) (reply : Option (ℕ × Answer)) (last : FlatOp) (claims : List Claim) → c.last ≡ Some index → last_by reply c last ≡ Some claims
      → AreHeld ops replies claims → Late index last
  late_by_reply index None last claims is made held =
      late_by_entry index last claims (subst (λ (o : Option ℕ). entry_by o c last ≡ Some claims) is made) held
  late_by_reply index (Some r) last claims is made held =
      late_by_answer index r.0 r.1 last claims is (length c.places == c.lookups) (length c.places == c.lookups + 1) made held

  lookups_at : (most : ℕ) → are_at_most (lookup_places c) most ≡ true → AreAtMost (take (lookups (looked_up c.call)) c.places) most
  lookups_at most h = subst (λ (n : ℕ). AreAtMost (take n c.places) most) counted (at_most (lookup_places c) most h)

  part_last : (last : FlatOp) → part_op c.call (Some last) (last_part_number c.call) ≡ Some last
  part_last last = rw (eq-eqb (last_part_number c.call) (last_part_number c.call) refl) refl

  pub last_is_legal : (index : ℕ) → Whole ops replies c fds → c.last ≡ Some index → IsPart c fds ops index (last_part_number c.call)
  last_is_legal index w is =
      let l = late_by_reply index c.reply w.last w.lasts is w.last_is w.last_held in
      let tests = and_parts (nat_le c.submitted index) (are_at_most (lookup_places c) index) l.late in
      let below = lookups_at index tests.1 in
      record {
        sent = w.sent;
        found = walk_ends (looked_up c.call) c.places c.found;
        rest = drop c.lookups c.places;
        reached = reached_all w.whole w.walk_held;
        below = below;
        last = w.last;
        whole = w.op_is;
        op = w.last;
        fixed = part_last w.last;
        stands = l.entered.stands;
        accepted = l.entered.accepted;
        seen = index;
        after_submission = leb-true c.submitted index tests.0;
        after_lookups = below;
        not_later = omega arith;
        possible = l.entered.accepted;
      }

  -- ---- a rename's part 1

  pub record First (index : ℕ) (last : FlatOp) : Type 0 where
    pub op : FlatOp
    pub op_is : first_op (Some last) ≡ Some op
    pub reply : Option ℕ
    pub entered : IsEntered ops replies index op reply
    pub possible : IsChange (flat (fs_after ops c.seen) last)

  unlike : (b : Bool) → not b ≡ true → b ≡ false
  unlike true h = absurd (true≢false (sym h))
  unlike false h = refl

  first_by_op : (index : ℕ) (last : FlatOp) (claims : List Claim) → part_claims index c.seen last ≡ Some claims → AreHeld ops replies claims → First index last
  first_by_op index (op.Rename parent name target new_name) claims made held =
      let parts = when_parts (not (is_same_name parent name target new_name)) (claim.Enters index (op.Unlink target new_name) None ∷ claim.Accepts c.seen (op.Rename parent name target new_name) ∷ []) claims made in
      let h = subst (AreHeld ops replies) parts.1 held in
      record {
        op = op.Unlink target new_name;
        op_is = ap (λ (b : Bool). if b then None else Some (op.Unlink target new_name)) (unlike (is_same_name parent name target new_name) parts.0);
        reply = None;
        entered = h.0;
        possible = h.1.0;
      }
  first_by_op index (op.Lookup parent name) claims made held = absurd cc
  first_by_op index (op.Mkdir parent name mode drawn) claims made held = absurd cc
  first_by_op index (op.Rmdir parent name) claims made held = absurd cc
  first_by_op index (op.Create parent name mode drawn) claims made held = absurd cc
  first_by_op index (op.Unlink parent name) claims made held = absurd cc
  first_by_op index (op.Open gfid) claims made held = absurd cc
  first_by_op index (op.Stat gfid) claims made held = absurd cc
  first_by_op index (op.List gfid) claims made held = absurd cc
  first_by_op index (op.Chmod gfid mode) claims made held = absurd cc
  first_by_op index (op.Truncate gfid size) claims made held = absurd cc
  first_by_op index (op.SetAttr gfid attr) claims made held = absurd cc
  first_by_op index (op.GetAttr gfid name) claims made held = absurd cc
  first_by_op index (op.DelAttr gfid name) claims made held = absurd cc
  first_by_op index (op.Read gfid offset count) claims made held = absurd cc
  first_by_op index (op.Write gfid offset bytes) claims made held = absurd cc

  pub first_is_legal : (index : ℕ) → Whole ops replies c fds → c.first ≡ Some index → (last_part_number c.call == 1) ≡ false → IsPart c fds ops index 1
  first_is_legal index w is other =
      let made : first_by (Some index) c w.last ≡ Some w.firsts = subst (λ (o : Option ℕ). first_by o c w.last ≡ Some w.firsts) is w.first_is in
      let parts = if_parts (is_first c index) (part_claims index c.seen w.last) w.firsts made in
      let f = first_by_op index w.last w.firsts parts.1 w.first_held in
      let one = and_parts (nat_le c.submitted c.seen) (are_at_most (lookup_places c) c.seen && (nat_le c.seen index && is_before index c.last)) parts.0 in
      let two = and_parts (are_at_most (lookup_places c) c.seen) (nat_le c.seen index && is_before index c.last) one.1 in
      let three = and_parts (nat_le c.seen index) (is_before index c.last) two.1 in
      let seen_there : c.seen ≤ index = leb-true c.seen index three.0 in
      let looked = lookups_at c.seen two.0 in
      record {
        sent = w.sent;
        found = walk_ends (looked_up c.call) c.places c.found;
        rest = drop c.lookups c.places;
        reached = reached_all w.whole w.walk_held;
        below = at_most_more (take (lookups (looked_up c.call)) c.places) c.seen index seen_there looked;
        last = w.last;
        whole = w.op_is;
        op = f.op;
        fixed = rw (not_last (last_part_number c.call) other) f.op_is;
        stands = f.entered.stands;
        accepted = f.entered.accepted;
        seen = c.seen;
        after_submission = leb-true c.submitted c.seen one.0;
        after_lookups = looked;
        not_later = seen_there;
        possible = f.possible;
      } where
        not_last : (n : ℕ) → (n == 1) ≡ false → (1 == n) ≡ false
        not_last n h = false_from_ne_true (1 == n) (λ e. true≢false (sym (eq-eqb n 1 (sym (eqb-true 1 n e))) ∙ h))

  pub first_before_last : (index other : ℕ) → Whole ops replies c fds → c.first ≡ Some index → c.last ≡ Some other → index < other
  first_before_last index other w is last_is =
      let made : first_by (Some index) c w.last ≡ Some w.firsts = subst (λ (o : Option ℕ). first_by o c w.last ≡ Some w.firsts) is w.first_is in
      let parts = if_parts (is_first c index) (part_claims index c.seen w.last) w.firsts made in
      let one = and_parts (nat_le c.submitted c.seen) (are_at_most (lookup_places c) c.seen && (nat_le c.seen index && is_before index c.last)) parts.0 in
      let two = and_parts (are_at_most (lookup_places c) c.seen) (nat_le c.seen index && is_before index c.last) one.1 in
      let three = and_parts (nat_le c.seen index) (is_before index c.last) two.1 in
      ltb-true index other (subst (λ (o : Option ℕ). is_before index o ≡ true) last_is three.1)
