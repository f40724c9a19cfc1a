-- The reply of a call is lawful.
use Rattle.std.proofs.Common.{◌≡◌, ◌≢◌, ◌∷◌, ◌++◌, refl, sym, ap, subst, ◌∙◌, ℕ, ◌+◌, ◌-◌, ◌<◌, ◌≤◌, ◌==◌, suc, zero, List, [], length, take, drop, get_or, IfSome, true≢false, arith}
use Rattle.std.proofs.Math.Seq.{drop-length}
use Rattle.std.specs.Prelude.{Bool, true, false, ◌&&◌, nat_le, nat_lt, Option, Some, None, slice_get, MatchBool, if◌then◌else◌}
use Rattle.std.proofs.lemmas.Bool.{and_parts, eqb-true, leb-true, ltb-true, eq-eqb}
use Rattle.fop_types.specs.Calls.{Submission, Descriptors, drawn_by, looked_up, lookups, at_once, last_op, last_part_number}
use Rattle.fop_types.specs.Flat.{flat_answer, is_change}
use Rattle.fop_types.specs.History.{Reply, Walk, walk, fs_after}
use Rattle.fop_types.specs.History.Walk.{Reached, Stopped, Short}
use Rattle.fop_types.specs.Replies.{is_ok, IsIo, HasNoEntry, IsDoneAt, IsReadAt, IsAnswerAt, IsAnswered, IsAnsweredAtOnce, IsLawfulAnswer}
use Rattle.fop_types.specs.declared.answers.Answer.{Answer}
use Rattle.fop_types.specs.declared.answers.Answer.TheVariants as answers
use Rattle.fop_types.specs.declared.answers.AppError.{AppError}
use Rattle.fop_types.specs.declared.cells.Gfid.{Gfid}
use Rattle.fop_types.specs.declared.flat.FlatAnswer.{FlatAnswer}
use Rattle.fop_types.specs.declared.flat.FlatAnswer.TheVariants as flat_answers
use Rattle.fop_types.specs.declared.flat.FlatOp.{FlatOp}
use Rattle.fop_types.specs.declared.history.Entry.{Entry}
use Rattle.history_replay.specs.code.Cases.{Case, when, is_free, is_whole, is_late, is_io, is_app, last_place, entry_by, done_by, read_by, placed_by, answered_by, last_by, stopped_by, unfound_by, said_by, case_claims}
use Rattle.history_replay.specs.code.Claims.{IsEntered, IsReplied, AreHeld, walk_claims, walk_ends, next_lookup}
use Rattle.history_replay.specs.declared.claims.Claim.{Claim}
use Rattle.history_replay.specs.declared.claims.Claim.TheVariants as claim
use Rattle.history_replay.proofs.Parts.{reached_all}
use Rattle.history_replay.proofs.Shapes.{Said, Unfound, Whole, Shape, shape_of, when_parts, if_parts}
use Rattle.history_replay.proofs.Shapes.Shape.{IsSaid, IsUnfound, IsWhole}
use Rattle.history_replay.proofs.Walks.{walk_short, walk_stops, few_paths}

pub io_is : (a : Answer) → is_io a ≡ true → IsIo a
io_is (answers.Io error) h = tt
io_is answers.Done h = absurd (true≢false (sym h))
io_is (answers.Count count) h = absurd (true≢false (sym h))
io_is (answers.Bytes bytes) h = absurd (true≢false (sym h))
io_is (answers.Stat kind mode size) h = absurd (true≢false (sym h))
io_is (answers.List items) h = absurd (true≢false (sym h))
io_is (answers.App error) h = absurd (true≢false (sym h))

none_of : (xs : List ℕ) → (length xs == 0) ≡ true → xs ≡ []
none_of [] h = refl
none_of (x ∷ xs) h = let zero_is = eqb-true (length (x ∷ xs)) 0 h in absurd (omega (arith, zero_is))

-- what is behind all but the last item
one_left : (xs : List ℕ) (n : ℕ) → length xs ≡ n + 1 → drop n xs ≡ get_or xs n 0 ∷ []
one_left [] n h = absurd (omega (arith, h))
one_left (x ∷ []) zero h = refl
one_left (x ∷ y ∷ xs) zero h = absurd (omega (arith, h))
one_left (x ∷ xs) (suc n) h = one_left xs n (omega (arith, h))

none_behind : (xs : List ℕ) (n : ℕ) → length xs ≡ n → drop n xs ≡ []
none_behind xs n h = ap (λ (k : ℕ). drop k xs) (sym h) ∙ drop-length xs

-- a claim about the reply of an index
replied_is : (replies : List Reply) (k : ℕ) (r : Reply) (a : FlatAnswer) → slice_get replies k ≡ Some r → IsReplied replies k a → a ≡ flat_answers.Call r.answer
replied_is replies k r a there h = subst (λ (o : Option Reply). IfSome o (λ x. a ≡ flat_answers.Call x.answer)) there h

same_answers : (a b : Answer) → flat_answers.Call a ≡ flat_answers.Call b → b ≡ a
same_answers a b h = cc

pub said_is : (replies : List Reply) (k : ℕ) (r : Reply) (a : Answer) → slice_get replies k ≡ Some r → IsReplied replies k (flat_answers.Call a) → r.answer ≡ a
said_is replies k r a there h = same_answers a r.answer (replied_is replies k r (flat_answers.Call a) there h)

-- A call with its reply, the one of an index: it has the call's places, draws the call's gfid, and the call has no entry where
-- none is said, and the last part where one is.
module _ (ops : List FlatOp) (replies : List Reply) (calls : List Submission) (history : List Entry) (c : Case) (fds : Descriptors) (counted : c.lookups ≡ lookups (looked_up c.call))
    (k : ℕ) (r : Reply) (there : slice_get replies k ≡ Some r) (is_reply : c.reply ≡ Some (k, r.answer)) (same_places : c.places ≡ r.places)
    (drawn : c.drawn ≡ drawn_by calls r.call) (no_entry : is_free c ≡ true → HasNoEntry history r.call)
    (last_there : (i : ℕ) → c.last ≡ Some i → slice_get history i ≡ Some (record { call = r.call; part = last_part_number c.call })) where
  abbrev op_at : List Gfid → Option FlatOp
  op_at found = last_op c.call found (drawn_by calls r.call) fds

  abbrev Goal : Walk → Type 0
  Goal w = IsAnswered w ops history r.call (last_part_number c.call) op_at r.answer

  abbrev walked : Walk
  walked = walk (fs_after ops) (looked_up c.call) c.places

  from_goal : Goal walked → IsLawfulAnswer None calls fds ops history c.call r
  from_goal g = subst (λ (places : List ℕ). Goal (walk (fs_after ops) (looked_up c.call) places)) same_places g

  lawful_said : Said ops replies c fds → IsLawfulAnswer (at_once fds c.call) calls fds ops history c.call r
  lawful_said s =
      let made : said_by (Some (k, r.answer)) c s.answer ≡ Some s.claims = subst (λ (o : Option (ℕ × Answer)). said_by o c s.answer ≡ Some s.claims) is_reply s.claims_are in
      let parts = when_parts (length c.places == 0) (claim.Says k s.answer ∷ []) s.claims made in
      let h = subst (AreHeld ops replies) parts.1 s.held in
      subst (λ (o : Option Answer). IsLawfulAnswer o calls fds ops history c.call r) (sym s.once) (record { no_place = sym same_places ∙ none_of c.places parts.0; answered = said_is replies k r s.answer there h.0; no_entry = no_entry s.free })

  short : (a : Answer) → r.answer ≡ a → length c.found < c.lookups → length c.places ≡ length c.found → is_io a ≡ true
      → AreHeld ops replies (walk_claims (looked_up c.call) c.places c.found) → Goal walked
  short a is fewer same io held =
      let w = walk_short ops replies (looked_up c.call) c.places c.found (few_paths c.call) (subst (λ (n : ℕ). length c.places < n) counted (omega (arith, fewer, same))) same held in
      subst Goal (sym w) (subst IsIo (sym is) (io_is a io))

  stopped : (a : Answer) → r.answer ≡ a → is_free c ≡ true → length c.found < c.lookups → length c.places ≡ length c.found + 1 → is_app a ≡ true
      → flat_answer (fs_after ops (get_or c.places (length c.found) 0)) (next_lookup (looked_up c.call) c.found) ≡ flat_answers.Call a
      → AreHeld ops replies (walk_claims (looked_up c.call) c.places c.found) → Goal walked
  stopped (answers.App e) is free fewer more app answered held =
      let w = walk_stops ops replies (looked_up c.call) c.places c.found e (few_paths c.call) (subst (λ (n : ℕ). length c.found < n) counted fewer) more held answered in
      subst Goal (sym w) (is, no_entry free)
  stopped answers.Done is free fewer more app answered held = absurd (true≢false (sym app))
  stopped (answers.Count count) is free fewer more app answered held = absurd (true≢false (sym app))
  stopped (answers.Bytes bytes) is free fewer more app answered held = absurd (true≢false (sym app))
  stopped (answers.Stat kind mode size) is free fewer more app answered held = absurd (true≢false (sym app))
  stopped (answers.List items) is free fewer more app answered held = absurd (true≢false (sym app))
  stopped (answers.Io error) is free fewer more app answered held = absurd (true≢false (sym app))

  by_stop : (claims : List Claim) → is_free c ≡ true → length c.found < c.lookups → AreHeld ops replies (walk_claims (looked_up c.call) c.places c.found)
      → (same : Bool) → (length c.places == length c.found) ≡ same
      → (if same then when (is_io r.answer) []
      else when (is_app r.answer && (length c.places == length c.found + 1))
      (claim.Answers (get_or c.places (length c.found) 0) (next_lookup (looked_up c.call) c.found) k ∷ [])) ≡ Some claims
      → AreHeld ops replies claims → Goal walked
  by_stop claims free fewer walk_held true same made held =
      let parts = when_parts (is_io r.answer) [] claims made in
      short r.answer refl fewer (eqb-true (length c.places) (length c.found) same) parts.0 walk_held
  by_stop claims free fewer walk_held false same made held =
      let parts = when_parts (is_app r.answer && (length c.places == length c.found + 1)) (claim.Answers (get_or c.places (length c.found) 0) (next_lookup (looked_up c.call) c.found) k ∷ []) claims made in
      let tests = and_parts (is_app r.answer) (length c.places == length c.found + 1) parts.0 in
      let h = subst (AreHeld ops replies) parts.1 held in
      stopped r.answer refl free fewer (eqb-true (length c.places) (length c.found + 1) tests.1) tests.0 (replied_is replies k r _ there h.0) walk_held

  lawful_unfound : Unfound ops replies c fds → IsLawfulAnswer (at_once fds c.call) calls fds ops history c.call r
  lawful_unfound u =
      let made : unfound_by (Some (k, r.answer)) c ≡ Some u.claims = subst (λ (o : Option (ℕ × Answer)). unfound_by o c ≡ Some u.claims) is_reply u.claims_are in
      let parts = if_parts (nat_lt (length c.found) c.lookups) (stopped_by c k r.answer) u.claims made in
      subst (λ (o : Option Answer). IsLawfulAnswer o calls fds ops history c.call r) (sym u.sent) (from_goal (by_stop u.claims u.free (ltb-true (length c.found) c.lookups parts.0) u.walk_held (length c.places == length c.found) refl parts.1 u.held))

  -- ---- a call whose lookups found all

  done_at : (i : ℕ) (last : FlatOp) → c.last ≡ Some i → i + 1 ≡ last_place c → IsEntered ops replies i last (Some k)
      → IsDoneAt ops history r.call (last_part_number c.call) last (last_place c) r.answer
  done_at i last is next e =
      let before : last_place c - 1 ≡ i = omega (arith, next) in
      record {
        from_one = omega (arith, next);
        entered = ap (slice_get history) before ∙ last_there i is;
        carried = ap (slice_get ops) before ∙ e.stands;
        answered = subst (λ (n : ℕ). flat_answer (fs_after ops n) last ≡ flat_answers.Call r.answer) (sym before) (replied_is replies k r _ there e.answered);
      }

  by_done : (o : Option ℕ) → c.last ≡ o → (last : FlatOp) (claims : List Claim) → done_by o c k last ≡ Some claims → AreHeld ops replies claims
      → IsDoneAt ops history r.call (last_part_number c.call) last (last_place c) r.answer
  by_done None is last claims made held = absurd cc
  by_done (Some i) is last claims made held =
      let parts = when_parts (is_late c i && (i + 1 == last_place c)) (claim.Enters i last (Some k) ∷ []) claims made in
      let tests = and_parts (is_late c i) (i + 1 == last_place c) parts.0 in
      let h = subst (AreHeld ops replies) parts.1 held in
      done_at i last is (eqb-true (i + 1) (last_place c) tests.1) h.0

  by_read : (last : FlatOp) (claims : List Claim) → read_by c k last ≡ Some claims → AreHeld ops replies claims
      → IsReadAt ops history r.call last (last_place c) r.answer
  by_read last claims made held =
      let parts = when_parts (is_free c) (claim.Answers (last_place c) last k ∷ []) claims made in
      let h = subst (AreHeld ops replies) parts.1 held in
      record { answered = replied_is replies k r _ there h.0; no_entry = no_entry parts.0 }

  by_placed : (b : Bool) (last : FlatOp) (claims : List Claim) → placed_by b c k last ≡ Some claims → AreHeld ops replies claims
      → MatchBool b (IsDoneAt ops history r.call (last_part_number c.call) last (last_place c) r.answer) (IsReadAt ops history r.call last (last_place c) r.answer)
  by_placed true last claims made held = by_done c.last refl last claims made held
  by_placed false last claims made held = by_read last claims made held

  by_places : (w : Whole ops replies c fds) (equal more : Bool) → (length c.places == c.lookups) ≡ equal → (length c.places == c.lookups + 1) ≡ more
      → (if equal then (if is_io r.answer then entry_by c.last c w.last else None)
      else (if more then placed_by (is_change w.last && is_ok r.answer) c k w.last else None)) ≡ Some w.lasts
      → Goal walked
  by_places w true more same one made =
      let parts = if_parts (is_io r.answer) (entry_by c.last c w.last) w.lasts made in
      let there_is : walked ≡ Reached (walk_ends (looked_up c.call) c.places c.found) [] =
      reached_all ops replies c fds counted w.whole w.walk_held
      ∙ ap (Reached (walk_ends (looked_up c.call) c.places c.found)) (none_behind c.places c.lookups (eqb-true (length c.places) c.lookups same)) in
      subst Goal (sym there_is) (io_is r.answer parts.0)
  by_places w false false same one made = absurd cc
  by_places w false true same one made =
      let ends = walk_ends (looked_up c.call) c.places c.found in
      let op_is : op_at ends ≡ Some w.last = subst (λ (g : Gfid). last_op c.call ends g fds ≡ Some w.last) drawn w.op_is in
      let there_is : walked ≡ Reached ends (last_place c ∷ []) =
      reached_all ops replies c fds counted w.whole w.walk_held
      ∙ ap (Reached ends) (one_left c.places c.lookups (eqb-true (length c.places) (c.lookups + 1) one)) in
      subst Goal (sym there_is)
      (subst (λ (o : Option FlatOp). IsAnswerAt ops history r.call (last_part_number c.call) o (last_place c) r.answer) (sym op_is)
      (by_placed (is_change w.last && is_ok r.answer) w.last w.lasts made w.last_held))

  lawful_whole : Whole ops replies c fds → IsLawfulAnswer (at_once fds c.call) calls fds ops history c.call r
  lawful_whole w =
      let made : last_by (Some (k, r.answer)) c w.last ≡ Some w.lasts = subst (λ (o : Option (ℕ × Answer)). last_by o c w.last ≡ Some w.lasts) is_reply w.last_is in
      subst (λ (o : Option Answer). IsLawfulAnswer o calls fds ops history c.call r) (sym w.sent) (from_goal (by_places w (length c.places == c.lookups) (length c.places == c.lookups + 1) refl refl made))

  pub lawful_answer : Shape ops replies c fds → IsLawfulAnswer (at_once fds c.call) calls fds ops history c.call r
  lawful_answer (IsSaid s) = lawful_said s
  lawful_answer (IsUnfound u) = lawful_unfound u
  lawful_answer (IsWhole w) = lawful_whole w
