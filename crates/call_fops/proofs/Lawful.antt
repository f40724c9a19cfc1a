-- A call's walk and its answer are lawful where its fops' answers are.
use Rattle.std.proofs.Common.{◌≡◌, ◌∷◌, ◌++◌, refl, sym, ap, subst, ◌∙◌, ℕ, ◌≤◌, List, [], length}
use Rattle.std.specs.Prelude.{Option, Some, None}
use Rattle.std.proofs.lemmas.List.{take-append-le}
use Rattle.fop_types.specs.Calls.{looked_up}
use Rattle.fop_types.specs.Files.{Files, first_files}
use Rattle.fop_types.specs.Flat.{flat_answer}
use Rattle.fop_types.specs.History.{fs_after, files_after, Walk, walk, AreAtMost}
use Rattle.fop_types.specs.History.Walk.{Reached}
use Rattle.fop_types.specs.Replies.{IsAnswerAt, IsAnswered, IsIo}
use Rattle.fop_types.specs.declared.answers.Answer.{Answer}
use Rattle.fop_types.specs.declared.answers.Answer.TheVariants as answers
use Rattle.fop_types.specs.declared.answers.FopAnswer.{FopAnswer}
use Rattle.fop_types.specs.declared.answers.FopAnswer.TheVariants as fop_answer
use Rattle.fop_types.specs.declared.calls.Call.{Call}
use Rattle.fop_types.specs.declared.cells.Gfid.{Gfid}
use Rattle.fop_types.specs.declared.flat.FlatAnswer.TheVariants as flat_answers
use Rattle.fop_types.specs.declared.flat.FlatOp.{FlatOp}
use Rattle.fop_types.specs.declared.flat.FlatOp.TheVariants.{Lookup}
use Rattle.fop_types.specs.declared.fops.Object.{Object}
use Rattle.fop_types.specs.declared.history.Entry.{Entry}
use Rattle.call_fops.specs.Answered.{after, after_by}
use Rattle.call_fops.specs.Lawful.{Sight, places_of, walk_after, IsSeen, AreSeen, placed, LooksUp, AnswersLast, EndsBy, EndsLawfully, WalksAreLawful}
use Rattle.call_fops.specs.Walks.{Walked, begun, next_name, next_parent, on_first, on_second, stepped, reached, root_object}
use Rattle.call_fops.specs.declared.replies.After.{After}
use Rattle.call_fops.specs.declared.replies.After.TheVariants.{GoesOn, Replies}
use Rattle.call_fops.specs.declared.replies.CallReply.{CallReply}
use Rattle.call_fops.proofs.Legs.{rest_on, rest_begun, rest_found, rest_missed, rest_short, rest_reached, few_paths}

-- ---- the lookups so far

rest_seen : (files : ℕ → Files) (c : Call) (w : Walked) (seen : List Sight) (more : List ℕ) → AreSeen files c w seen
    → rest_on files (looked_up c) w (places_of seen ++ more) ≡ rest_on files (looked_up c) (walk_after c w seen) more
rest_seen files c w [] more h = refl
rest_seen files c w (s ∷ seen) more h =
    rest_found files (looked_up c) w s (places_of seen ++ more) (on_first c w) (on_second c w) refl refl h.0
    ∙ rest_seen files c (stepped c w s.object) seen more h.1

walk_seen : (files : ℕ → Files) (c : Call) (seen : List Sight) (more : List ℕ) → AreSeen files c begun seen
    → walk files (looked_up c) (places_of seen ++ more) ≡ rest_on files (looked_up c) (walk_after c begun seen) more
walk_seen files c seen more h = sym (rest_begun files (looked_up c) (places_of seen ++ more)) ∙ rest_seen files c begun seen more h

reaches_on : (files : ℕ → Files) (c : Call) (w : Walked) (more : List ℕ) → next_name c w ≡ None
    → rest_on files (looked_up c) w more ≡ Reached (reached c w) more
reaches_on files c w more none = rest_reached files (looked_up c) w more (on_first c w) (on_second c w) (few_paths c) refl refl none

reaches : (c : Call) (seen : List Sight) (files : ℕ → Files) (places : List ℕ)
    → AreSeen files c begun seen → next_name c (walk_after c begun seen) ≡ None
    → walk files (looked_up c) (places_of seen ++ places) ≡ Reached (reached c (walk_after c begun seen)) places
reaches c seen files places h none = walk_seen files c seen places h ∙ reaches_on files c (walk_after c begun seen) places none

-- ---- one more

seen_push : (files : ℕ → Files) (c : Call) (w : Walked) (seen : List Sight) (s : Sight) → AreSeen files c w seen
    → IsSeen files (next_parent c (walk_after c w seen)) (next_name c (walk_after c w seen)) s → AreSeen files c w (seen ++ s ∷ [])
seen_push files c w [] s h one = (one, tt)
seen_push files c w (x ∷ seen) s h one = (h.0, seen_push files c (stepped c w x.object) seen s h.1 one)

walk_push : (c : Call) (w : Walked) (seen : List Sight) (s : Sight) → walk_after c w (seen ++ s ∷ []) ≡ stepped c (walk_after c w seen) s.object
walk_push c w [] s = refl
walk_push c w (x ∷ seen) s = walk_push c (stepped c w x.object) seen s

abbrev next_object : After → Object
next_object (GoesOn object) = object
next_object (Replies reply) = root_object

found_one : (o : Option (List ℕ)) (files : ℕ → Files) (parent : Object) (c : Call) (at : Object) (place : ℕ) (a : FopAnswer) (object : Object)
    → LooksUp o (files place) parent a → after_by o c at a ≡ GoesOn object → IsSeen files parent o (record { place = place; object = object })
found_one None files parent c at place a object h e = absurd h
found_one (Some name) files parent c at place (fop_answer.Found set gfid kind) object h e =
    subst (λ (x : Object). IsSeen files parent (Some name) (record { place = place; object = x })) (ap next_object e) h
found_one (Some name) files parent c at place (fop_answer.Call a) object h e = absurd cc

goes_on : (c : Call) (seen : List Sight) (files : ℕ → Files) (place : ℕ) (a : FopAnswer) (object : Object)
    → AreSeen files c begun seen → LooksUp (next_name c (walk_after c begun seen)) (files place) (next_parent c (walk_after c begun seen)) a
    → after c (walk_after c begun seen) a ≡ GoesOn object
    → AreSeen files c begun (seen ++ record { place = place; object = object } ∷ [])
    × (walk_after c begun (seen ++ record { place = place; object = object } ∷ []) ≡ stepped c (walk_after c begun seen) object)
goes_on c seen files place a object h looked e =
    let w = walk_after c begun seen in
    let one = found_one (next_name c w) files (next_parent c w) c w.first.at place a object looked e in
    (seen_push files c begun seen (record { place = place; object = object }) h one, walk_push c begun seen (record { place = place; object = object }))

-- ---- the answer

abbrev answer_in : After → Answer
answer_in (GoesOn object) = answers.Done
answer_in (Replies reply) = reply.answer

module _ (c : Call) (w : Walked) (ops : List FlatOp) (history : List Entry) (number part : ℕ) (op : List Gfid → Option FlatOp) (place : ℕ) where
  lookup_fails : (name : List ℕ) (a : Answer) (reply : CallReply) → next_name c w ≡ Some name
      → EndsBy (Some name) ops history number part op c w place (fop_answer.Call a) → a ≡ reply.answer
      → IsAnswered (rest_on (fs_after ops) (looked_up c) w (placed (fop_answer.Call a) place)) ops history number part op reply.answer
  lookup_fails name (answers.App error) reply is h e =
      subst (λ (x : Walk). IsAnswered x ops history number part op reply.answer)
      (sym (rest_missed (fs_after ops) (looked_up c) w name place error (on_first c w) (on_second c w) refl refl is h.0))
      (sym e, h.1 refl)
  lookup_fails name (answers.Io error) reply is h e =
      subst (λ (x : Walk). IsAnswered x ops history number part op reply.answer)
      (sym (rest_short (fs_after ops) (looked_up c) w name (on_first c w) (on_second c w) refl refl is))
      (subst IsIo e tt)
  lookup_fails name answers.Done reply is h e = absurd h.0
  lookup_fails name (answers.Count count) reply is h e = absurd h.0
  lookup_fails name (answers.Bytes bytes) reply is h e = absurd h.0
  lookup_fails name (answers.Stat kind mode size) reply is h e = absurd h.0
  lookup_fails name (answers.List items) reply is h e = absurd h.0

  last_lawful : (a : Answer) (reply : CallReply) → next_name c w ≡ None → IsAnswerAt ops history number part (op (reached c w)) place a → a ≡ reply.answer
      → IsAnswered (rest_on (fs_after ops) (looked_up c) w (place ∷ [])) ops history number part op reply.answer
  last_lawful a reply none h e =
      subst (λ (x : Walk). IsAnswered x ops history number part op reply.answer) (sym (reaches_on (fs_after ops) c w (place ∷ []) none))
      (subst (IsAnswerAt ops history number part (op (reached c w)) place) e h)

  last_answered : (a : Answer) (reply : CallReply) → next_name c w ≡ None
      → AnswersLast ops history number part (op (reached c w)) place (fop_answer.Call a) → a ≡ reply.answer
      → IsAnswered (rest_on (fs_after ops) (looked_up c) w (placed (fop_answer.Call a) place)) ops history number part op reply.answer
  last_answered (answers.Io error) reply none h e =
      subst (λ (x : Walk). IsAnswered x ops history number part op reply.answer) (sym (reaches_on (fs_after ops) c w [] none)) (subst IsIo e tt)
  last_answered answers.Done reply none h e = last_lawful answers.Done reply none h e
  last_answered (answers.Count count) reply none h e = last_lawful (answers.Count count) reply none h e
  last_answered (answers.Bytes bytes) reply none h e = last_lawful (answers.Bytes bytes) reply none h e
  last_answered (answers.Stat kind mode size) reply none h e = last_lawful (answers.Stat kind mode size) reply none h e
  last_answered (answers.List items) reply none h e = last_lawful (answers.List items) reply none h e
  last_answered (answers.App error) reply none h e = last_lawful (answers.App error) reply none h e

  ends : (o : Option (List ℕ)) (a : FopAnswer) (reply : CallReply) → next_name c w ≡ o → EndsBy o ops history number part op c w place a
      → after_by o c w.first.at a ≡ Replies reply
      → IsAnswered (rest_on (fs_after ops) (looked_up c) w (placed a place)) ops history number part op reply.answer
  ends (Some name) (fop_answer.Found set gfid kind) reply is h e = absurd cc
  ends (Some name) (fop_answer.Call a) reply is h e = lookup_fails name a reply is h (ap answer_in e)
  ends None (fop_answer.Found set gfid kind) reply is h e = last_lawful answers.Done reply is h (ap answer_in e)
  ends None (fop_answer.Call a) reply is h e = last_answered a reply is h (ap answer_in e)

answered : (c : Call) (seen : List Sight) (ops : List FlatOp) (history : List Entry) (number part : ℕ) (op : List Gfid → Option FlatOp)
    (place : ℕ) (a : FopAnswer) (reply : CallReply)
    → AreSeen (fs_after ops) c begun seen → EndsLawfully ops history number part op c (walk_after c begun seen) place a
    → after c (walk_after c begun seen) a ≡ Replies reply
    → IsAnswered (walk (fs_after ops) (looked_up c) (places_of seen ++ placed a place)) ops history number part op reply.answer
answered c seen ops history number part op place a reply h last e =
    let w = walk_after c begun seen in
    subst (λ (x : Walk). IsAnswered x ops history number part op reply.answer) (sym (walk_seen (fs_after ops) c seen (placed a place) h))
    (ends c w ops history number part op place (next_name c w) a reply refl last e)

-- ---- longer histories

same_files : (ops more : List FlatOp) (place : ℕ) → place ≤ length ops → fs_after ops place ≡ fs_after (ops ++ more) place
same_files ops more place low = ap (files_after first_files) (sym (take-append-le place ops more low))

one_stays : (ops more : List FlatOp) (parent : Object) (o : Option (List ℕ)) (s : Sight) → s.place ≤ length ops
    → IsSeen (fs_after ops) parent o s → IsSeen (fs_after (ops ++ more)) parent o s
one_stays ops more parent None s low h = h
one_stays ops more parent (Some name) s low h =
    subst (λ (files : Files). flat_answer files (Lookup parent.gfid name) ≡ flat_answers.Found s.object.gfid s.object.kind) (same_files ops more s.place low) h

stays_on : (c : Call) (w : Walked) (seen : List Sight) (ops more : List FlatOp)
    → AreAtMost (places_of seen) (length ops) → AreSeen (fs_after ops) c w seen → AreSeen (fs_after (ops ++ more)) c w seen
stays_on c w [] ops more low h = tt
stays_on c w (s ∷ seen) ops more low h =
    (one_stays ops more (next_parent c w) (next_name c w) s low.0 h.0, stays_on c (stepped c w s.object) seen ops more low.1 h.1)

pub walks_are_lawful : WalksAreLawful
walks_are_lawful = record { answered = answered; goes_on = goes_on; reaches = reaches; stays = λ c seen ops more. stays_on c begun seen ops more }
