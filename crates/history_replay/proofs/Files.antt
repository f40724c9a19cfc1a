-- The file of the descriptor that a call gives, as the claims of its lookups say it.
use Rattle.std.proofs.Common.{◌≡◌, ◌∷◌, refl, sym, ap, subst, ◌∙◌, ℕ, ◌+◌, ◌≤◌, ◌==◌, suc, List, [], length, drop, get_or, true≢false, arith}
use Rattle.std.specs.Prelude.{Bool, true, false, ◌&&◌, nat_le, nat_lt, Option, Some, None, slice_get, if◌then◌else◌}
use Rattle.std.proofs.lemmas.Bool.{and_parts, eqb-true, leb-true, ltb-true}
use Rattle.fop_types.specs.Calls.{Submission, Descriptors, Descriptor, drawn_by, looked_up, lookups, at_once, after_answer, where_done, with_open, where_open, error}
use Rattle.fop_types.specs.Cells.{root}
use Rattle.fop_types.specs.History.{Reply, Walk, walk, fs_after, first_found, file_of}
use Rattle.fop_types.specs.History.Walk.{Reached}
use Rattle.fop_types.specs.declared.answers.Answer.{Answer}
use Rattle.fop_types.specs.declared.answers.Answer.TheVariants as answers
use Rattle.fop_types.specs.declared.answers.AppError.TheVariants.{Einval}
use Rattle.fop_types.specs.declared.calls.Call.{Call}
use Rattle.fop_types.specs.declared.calls.Call.TheVariants as call
use Rattle.fop_types.specs.declared.calls.Path.{Path}
use Rattle.fop_types.specs.declared.cells.Gfid.{Gfid}
use Rattle.fop_types.specs.declared.flat.FlatOp.{FlatOp}
use Rattle.std.specs.FinMap.{get}
use Rattle.history_replay.specs.code.Cases.{Case, when, is_io, is_app, is_whole, last_found, file_by, file_given, said_by, stopped_by, unfound_by}
use Rattle.history_replay.specs.code.Claims.{AreHeld, path_end, walk_ends, next_lookup}
use Rattle.history_replay.specs.declared.claims.Claim.{Claim}
use Rattle.history_replay.specs.declared.claims.Claim.TheVariants as claim
use Rattle.history_replay.proofs.Answers.{said_is}
use Rattle.history_replay.proofs.Basics.{some_is}
use Rattle.history_replay.proofs.Parts.{reached_all}
use Rattle.history_replay.proofs.Shapes.{Said, Unfound, Whole, Shape, when_parts, if_parts}
use Rattle.history_replay.proofs.Shapes.Shape.{IsSaid, IsUnfound, IsWhole}

end_is_last : (path : List (List ℕ)) (at : Gfid) (places : List ℕ) (found : List Gfid) → length path ≤ length places → length found ≡ length path
    → path_end path at places found ≡ last_found at found
end_is_last [] at places [] p f = refl
end_is_last [] at places (g ∷ found) p f = absurd (omega (arith, f))
end_is_last (name ∷ names) at [] found p f = absurd (omega (arith, p))
end_is_last (name ∷ names) at (place ∷ places) [] p f = absurd (omega (arith, f))
end_is_last (name ∷ names) at (place ∷ places) (g ∷ found) p f = end_is_last names g places found (omega (arith, p)) (omega (arith, f))

-- an answer that opens no descriptor
abbrev OpensNone : Answer → Type 0
OpensNone a = (changed same : Descriptors) → where_done a changed same ≡ same

io_opens : (a : Answer) → is_io a ≡ true → OpensNone a
io_opens (answers.Io e) h changed same = refl
io_opens answers.Done h changed same = absurd (true≢false (sym h))
io_opens (answers.Count count) h changed same = refl
io_opens (answers.Bytes bytes) h changed same = refl
io_opens (answers.Stat kind mode size) h changed same = refl
io_opens (answers.List items) h changed same = refl
io_opens (answers.App e) h changed same = refl

app_opens : (a : Answer) → is_app a ≡ true → OpensNone a
app_opens (answers.App e) h changed same = refl
app_opens answers.Done h changed same = absurd (true≢false (sym h))
app_opens (answers.Count count) h changed same = refl
app_opens (answers.Bytes bytes) h changed same = refl
app_opens (answers.Stat kind mode size) h changed same = refl
app_opens (answers.List items) h changed same = refl
app_opens (answers.Io e) h changed same = refl

module _ (ops : List FlatOp) (replies : List Reply) (calls : List Submission) (c : Case) (fds : Descriptors) (counted : c.lookups ≡ lookups (looked_up c.call))
    (k : ℕ) (r : Reply) (there : slice_get replies k ≡ Some r) (is_reply : c.reply ≡ Some (k, r.answer)) (same_places : c.places ≡ r.places)
    (drawn : c.drawn ≡ drawn_by calls r.call) where
  opens_by : (o : Option Descriptor) (a : Answer) → where_open o ≡ Some a → OpensNone a
  opens_by None a h changed same = absurd cc
  opens_by (Some d) a h changed same = ap (λ (x : Answer). where_done x changed same) (sym (some_is (answers.App Einval) a h))

  unfound_opens : Unfound ops replies c fds → OpensNone r.answer
  unfound_opens u =
      let made : unfound_by (Some (k, r.answer)) c ≡ Some u.claims = subst (λ (o : Option (ℕ × Answer)). unfound_by o c ≡ Some u.claims) is_reply u.claims_are in
      let parts = if_parts (nat_lt (length c.found) c.lookups) (stopped_by c k r.answer) u.claims made in
      by_stop (length c.places == length c.found) u.claims parts.1 where
        by_stop : (same : Bool) (claims : List Claim) → (if same then when (is_io r.answer) [] else when (is_app r.answer && (length c.places == length c.found + 1)) (claim.Answers (get_or c.places (length c.found) 0) (next_lookup (looked_up c.call) c.found) k ∷ [])) ≡ Some claims → OpensNone r.answer
        by_stop true claims made = io_opens r.answer (when_parts (is_io r.answer) [] claims made).0
        by_stop false claims made =
            let parts = when_parts (is_app r.answer && (length c.places == length c.found + 1)) _ claims made in
            app_opens r.answer (and_parts (is_app r.answer) (length c.places == length c.found + 1) parts.0).0

  said_opens : (fd : ℕ) (path : Path) → c.call ≡ call.Open fd path → Said ops replies c fds → OpensNone r.answer
  said_opens fd path is s =
      let made : said_by (Some (k, r.answer)) c s.answer ≡ Some s.claims = subst (λ (o : Option (ℕ × Answer)). said_by o c s.answer ≡ Some s.claims) is_reply s.claims_are in
      let parts = when_parts (length c.places == 0) (claim.Says k s.answer ∷ []) s.claims made in
      let h = subst (AreHeld ops replies) parts.1 s.held in
      let same = said_is replies k r s.answer there h.0 in
      let once : where_open (get fds fd) ≡ Some s.answer = subst (λ (x : Call). at_once fds x ≡ Some s.answer) is s.once in
      subst OpensNone (sym same) (opens_by (get fds fd) s.answer once)

  open_file : (fd : ℕ) (path : Path) → c.call ≡ call.Open fd path → Whole ops replies c fds
      → file_by (call.Open fd path) c ≡ file_of calls ops (call.Open fd path) r
  open_file fd path is w =
      let one : path.parts ∷ [] ≡ looked_up c.call = ap looked_up (sym is) in
      let parts = and_parts (length c.found == c.lookups) (nat_le c.lookups (length c.places)) w.whole in
      let count : c.lookups ≡ length path.parts + 0 = counted ∙ ap lookups (sym one) in
      let found_all : length c.found ≡ length path.parts = let x = eqb-true (length c.found) c.lookups parts.0 in omega (arith, x, count) in
      let placed : length path.parts ≤ length c.places = let x = leb-true c.lookups (length c.places) parts.1 in omega (arith, x, count) in
      let led : walk (fs_after ops) (path.parts ∷ []) r.places ≡ Reached (path_end path.parts root c.places c.found ∷ []) (drop c.lookups c.places) =
      ap (walk (fs_after ops) (path.parts ∷ [])) (sym same_places)
      ∙ ap (λ (ps : List (List (List ℕ))). walk (fs_after ops) ps c.places) one
      ∙ reached_all ops replies c fds counted w.whole w.walk_held
      ∙ ap (λ (ps : List (List (List ℕ))). Reached (walk_ends ps c.places c.found) (drop c.lookups c.places)) (sym one) in
      ap (λ (b : Bool). if b then last_found root c.found else root) w.whole
      ∙ sym (ap first_found led ∙ end_is_last path.parts root c.places c.found placed found_all)

  open_agrees : (fd : ℕ) (path : Path) → c.call ≡ call.Open fd path → Shape ops replies c fds
      → after_answer fds (call.Open fd path) (file_by (call.Open fd path) c) r.answer ≡ after_answer fds (call.Open fd path) (file_of calls ops (call.Open fd path) r) r.answer
  open_agrees fd path is (IsSaid s) = let none = said_opens fd path is s in none _ fds ∙ sym (none _ fds)
  open_agrees fd path is (IsUnfound u) = let none = unfound_opens u in none _ fds ∙ sym (none _ fds)
  open_agrees fd path is (IsWhole w) = ap (λ (g : Gfid). after_answer fds (call.Open fd path) g r.answer) (open_file fd path is w)

  agrees_by : (x : Call) → c.call ≡ x → Shape ops replies c fds → after_answer fds x (file_by x c) r.answer ≡ after_answer fds x (file_of calls ops x r) r.answer
  agrees_by (call.Create fd path mode) is shape = ap (λ (g : Gfid). after_answer fds (call.Create fd path mode) g r.answer) drawn
  agrees_by (call.Open fd path) is shape = open_agrees fd path is shape
  agrees_by (call.Mkdir path mode) is shape = refl
  agrees_by (call.Rmdir path) is shape = refl
  agrees_by (call.Unlink path) is shape = refl
  agrees_by (call.Rename path target) is shape = refl
  agrees_by (call.Stat path) is shape = refl
  agrees_by (call.List path) is shape = refl
  agrees_by (call.Chmod path mode) is shape = refl
  agrees_by (call.Truncate path size) is shape = refl
  agrees_by (call.SetAttr path attr) is shape = refl
  agrees_by (call.GetAttr path name) is shape = refl
  agrees_by (call.DelAttr path name) is shape = refl
  agrees_by (call.Read fd count) is shape = refl
  agrees_by (call.Write fd bytes) is shape = refl
  agrees_by (call.Seek fd offset) is shape = refl
  agrees_by (call.Close fd) is shape = refl

  pub file_agrees : Shape ops replies c fds → after_answer fds c.call (file_given c) r.answer ≡ after_answer fds c.call (file_of calls ops c.call r) r.answer
  file_agrees shape = agrees_by c.call refl shape
