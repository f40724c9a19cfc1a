-- A call whose fops have the answers of the flat file system at their places has a lawful answer.
use Rattle.std.specs.Prelude.{◌≡◌, ℕ, true, List, [], ◌∷◌, ◌++◌, length, Option, Some, None, if◌then◌else◌}
use Rattle.fop_types.specs.Calls.{looked_up}
use Rattle.fop_types.specs.Files.{Files}
use Rattle.fop_types.specs.Flat.{flat_answer}
use Rattle.fop_types.specs.History.{fs_after, walk, AreAtMost}
use Rattle.fop_types.specs.History.Walk.{Reached}
use Rattle.fop_types.specs.Replies.{HasNoEntry, IsAnswerAt, IsAnswered}
use Rattle.fop_types.specs.declared.answers.Answer.TheVariants as answers
use Rattle.fop_types.specs.declared.answers.FopAnswer.{FopAnswer}
use Rattle.fop_types.specs.declared.answers.FopAnswer.TheVariants as fop_answer
use Rattle.fop_types.specs.declared.calls.Call.{Call}
use Rattle.fop_types.specs.declared.cells.Gfid.{Gfid}
use Rattle.fop_types.specs.declared.flat.FlatAnswer.TheVariants as flat_answers
use Rattle.fop_types.specs.declared.flat.FlatOp.{FlatOp}
use Rattle.fop_types.specs.declared.flat.FlatOp.TheVariants.{Lookup}
use Rattle.fop_types.specs.declared.fops.Object.{Object}
use Rattle.fop_types.specs.declared.history.Entry.{Entry}
use Rattle.call_fops.specs.Answered.{after, has_place}
use Rattle.call_fops.specs.Walks.{Walked, begun, next_name, next_parent, stepped, reached}
use Rattle.call_fops.specs.declared.replies.After.TheVariants.{GoesOn, Replies}
use Rattle.call_fops.specs.declared.replies.CallReply.{CallReply}

-- ---- lookups that found what they looked for

-- the place of a lookup, and the object that it found
pub record Sight : Type 0 where
  pub place : ℕ
  pub object : Object

abbrev pub places_of : List Sight → List ℕ
places_of [] = []
places_of (s ∷ seen) = s.place ∷ places_of seen

-- the walk after these lookups
abbrev pub walk_after : Call → Walked → List Sight → Walked
walk_after c w [] = w
walk_after c w (s ∷ seen) = walk_after c (stepped c w s.object) seen

abbrev pub IsSeen : (ℕ → Files) → Object → Option (List ℕ) → Sight → Type 0
IsSeen files parent None s = ⊥
IsSeen files parent (Some name) s = flat_answer (files s.place) (Lookup parent.gfid name) ≡ flat_answers.Found s.object.gfid s.object.kind

-- one component after another was looked up, and each lookup found what the flat file system has at its place
abbrev pub AreSeen : (ℕ → Files) → Call → Walked → List Sight → Type 0
AreSeen files c w [] = Unit {0}
AreSeen files c w (s ∷ seen) = IsSeen files (next_parent c w) (next_name c w) s × AreSeen files c (stepped c w s.object) seen

-- ---- answers of fops

-- the place of an answer, which an I/O error has not
abbrev pub placed : FopAnswer → ℕ → List ℕ
placed a place = if has_place a then place ∷ [] else []

-- a lookup answers what the flat file system does, or an I/O error
abbrev pub AnswersLookup : Files → Gfid → List ℕ → FopAnswer → Type 0
AnswersLookup files parent name (fop_answer.Found set gfid kind) = flat_answer files (Lookup parent name) ≡ flat_answers.Found gfid kind
AnswersLookup files parent name (fop_answer.Call (answers.App error)) = flat_answer files (Lookup parent name) ≡ flat_answers.Call (answers.App error)
AnswersLookup files parent name (fop_answer.Call (answers.Io error)) = Unit {0}
AnswersLookup files parent name other = ⊥

abbrev pub LooksUp : Option (List ℕ) → Files → Object → FopAnswer → Type 0
LooksUp None files parent a = ⊥
LooksUp (Some name) files parent a = AnswersLookup files parent.gfid name a

-- the last fop's answer is lawful at its place, or an I/O error
abbrev pub AnswersLast : List FlatOp → List Entry → ℕ → ℕ → Option FlatOp → ℕ → FopAnswer → Type 0
AnswersLast ops history number part op place (fop_answer.Found set gfid kind) = IsAnswerAt ops history number part op place answers.Done
AnswersLast ops history number part op place (fop_answer.Call (answers.Io error)) = Unit {0}
AnswersLast ops history number part op place (fop_answer.Call a) = IsAnswerAt ops history number part op place a

-- The answer that ends a call: its last fop's, or that of a lookup, after which the call has no entry.
abbrev pub EndsBy : Option (List ℕ) → List FlatOp → List Entry → ℕ → ℕ → (List Gfid → Option FlatOp) → Call → Walked → ℕ → FopAnswer → Type 0
EndsBy (Some name) ops history number part op c w place a =
    AnswersLookup (fs_after ops place) (next_parent c w).gfid name a × (has_place a ≡ true → HasNoEntry history number)
EndsBy None ops history number part op c w place a = AnswersLast ops history number part (op (reached c w)) place a

abbrev pub EndsLawfully : List FlatOp → List Entry → ℕ → ℕ → (List Gfid → Option FlatOp) → Call → Walked → ℕ → FopAnswer → Type 0
EndsLawfully ops history number part op c w place a = EndsBy (next_name c w) ops history number part op c w place a

-- ---- the law

-- `answered`: where each lookup and the fop's answer that ends the call are lawful at their places, so is the call's answer.
-- `goes_on`: one lookup more that found its object makes the walk one step longer. `reaches`: where all components were
-- found, the walk led to the objects that the lookups reach at their places. `stays`: what was seen at places of a history
-- was seen in every longer one.
pub record WalksAreLawful : Type 0 where
  pub answered : (c : Call) (seen : List Sight) (ops : List FlatOp) (history : List Entry) (number part : ℕ) (op : List Gfid → Option FlatOp)
      (place : ℕ) (a : FopAnswer) (reply : CallReply)
      → AreSeen (fs_after ops) c begun seen → EndsLawfully ops history number part op c (walk_after c begun seen) place a
      → after c (walk_after c begun seen) a ≡ Replies reply
      → IsAnswered (walk (fs_after ops) (looked_up c) (places_of seen ++ placed a place)) ops history number part op reply.answer
  pub goes_on : (c : Call) (seen : List Sight) (files : ℕ → Files) (place : ℕ) (a : FopAnswer) (object : Object)
      → AreSeen files c begun seen → LooksUp (next_name c (walk_after c begun seen)) (files place) (next_parent c (walk_after c begun seen)) a
      → after c (walk_after c begun seen) a ≡ GoesOn object
      → AreSeen files c begun (seen ++ record { place = place; object = object } ∷ [])
      × (walk_after c begun (seen ++ record { place = place; object = object } ∷ []) ≡ stepped c (walk_after c begun seen) object)
  pub reaches : (c : Call) (seen : List Sight) (files : ℕ → Files) (places : List ℕ)
      → AreSeen files c begun seen → next_name c (walk_after c begun seen) ≡ None
      → walk files (looked_up c) (places_of seen ++ places) ≡ Reached (reached c (walk_after c begun seen)) places
  pub stays : (c : Call) (seen : List Sight) (ops more : List FlatOp)
      → AreAtMost (places_of seen) (length ops) → AreSeen (fs_after ops) c begun seen → AreSeen (fs_after (ops ++ more)) c begun seen
