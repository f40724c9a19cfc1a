-- Claims about the flat file system: what an operation comes to at a place, and which operation an entry has. A trace is
-- lawful where its claims hold.
use Rattle.std.specs.Prelude.{◌≡◌, ℕ, ◌+◌, ◌==◌, Bool, true, false, List, [], ◌∷◌, ◌++◌, length, drop, Option, Some, None, IfSome, slice_get, get_or}
use Rattle.std.specs.List.{AllByRecursion}
use Rattle.fop_types.specs.Cells.{root}
use Rattle.fop_types.specs.Files.{Files}
use Rattle.fop_types.specs.Flat.{flat, flat_answer, flat_after, IsChange}
use Rattle.fop_types.specs.History.{Reply, fs_after}
use Rattle.fop_types.specs.Replies.{is_ok}
use Rattle.fop_types.specs.declared.cells.Gfid.{Gfid}
use Rattle.fop_types.specs.declared.flat.FlatAnswer.{FlatAnswer}
use Rattle.fop_types.specs.declared.flat.FlatAnswer.TheVariants as flat_answers
use Rattle.fop_types.specs.declared.flat.FlatOp.{FlatOp}
use Rattle.fop_types.specs.declared.flat.FlatOp.TheVariants.{Lookup}
use Rattle.call_fops.specs.Walks.{first_path, second_path}
use Rattle.history_replay.specs.declared.claims.Claim.{Claim}
use Rattle.history_replay.specs.declared.claims.Claim.TheVariants as claim

-- an answer that is no error
abbrev pub is_granted : FlatAnswer → Bool
is_granted (flat_answers.Found gfid kind) = true
is_granted (flat_answers.Call answer) = is_ok answer

-- a lookup that found this object
abbrev pub IsFound : Gfid → FlatAnswer → Type 0
IsFound gfid (flat_answers.Found found kind) = found ≡ gfid
IsFound gfid (flat_answers.Call answer) = ⊥

-- an answer of the file system that is the answer of this reply
abbrev pub IsReplied : List Reply → ℕ → FlatAnswer → Type 0
IsReplied replies k a = IfSome (slice_get replies k) (λ r. a ≡ flat_answers.Call r.answer)

abbrev pub IsRepliedIf : List Reply → Option ℕ → FlatAnswer → Type 0
IsRepliedIf replies None a = Unit {0}
IsRepliedIf replies (Some k) a = IsReplied replies k a

-- an entry has this operation, which is a change where it is; if it has a reply, that is its answer
pub record IsEntered (ops : List FlatOp) (replies : List Reply) (index : ℕ) (op : FlatOp) (reply : Option ℕ) : Type 0 where
  pub stands : slice_get ops index ≡ Some op
  pub accepted : IsChange (flat (fs_after ops index) op)
  pub answered : IsRepliedIf replies reply (flat_answer (fs_after ops index) op)

abbrev pub IsHeld : List FlatOp → List Reply → Claim → Type 0
IsHeld ops replies (claim.Finds place parent name found) = IsFound found (flat_answer (fs_after ops place) (Lookup parent name))
IsHeld ops replies (claim.Answers place op reply) = IsReplied replies reply (flat_answer (fs_after ops place) op)
IsHeld ops replies (claim.Accepts place op) = IsChange (flat (fs_after ops place) op)
IsHeld ops replies (claim.Says reply answer) = IsReplied replies reply (flat_answers.Call answer)
IsHeld ops replies (claim.Enters index op reply) = IsEntered ops replies index op reply

abbrev pub AreHeld : List FlatOp → List Reply → List Claim → Type 0
AreHeld ops replies [] = Unit {0}
AreHeld ops replies (c ∷ claims) = IsHeld ops replies c × AreHeld ops replies claims

-- ---- the lookups of a path

-- each name is looked up in what the one before it found, as far as there are places and objects
abbrev pub path_claims : List (List ℕ) → Gfid → List ℕ → List Gfid → List Claim
path_claims [] at places found = []
path_claims (name ∷ names) at [] found = []
path_claims (name ∷ names) at (place ∷ places) [] = []
path_claims (name ∷ names) at (place ∷ places) (gfid ∷ found) = claim.Finds place at name gfid ∷ path_claims names gfid places found

-- what the last one found
abbrev pub path_end : List (List ℕ) → Gfid → List ℕ → List Gfid → Gfid
path_end [] at places found = at
path_end (name ∷ names) at [] found = at
path_end (name ∷ names) at (place ∷ places) [] = at
path_end (name ∷ names) at (place ∷ places) (gfid ∷ found) = path_end names gfid places found

-- the lookups of two paths, one after the other, each from the root; a call that lacks one has no name to look up in it
abbrev pub walk_claims : List (List (List ℕ)) → List ℕ → List Gfid → List Claim
walk_claims paths places found =
    path_claims (first_path paths) root places found
    ++ path_claims (second_path paths) root (drop (length (first_path paths)) places) (drop (length (first_path paths)) found)

abbrev pub ends_by : List (List (List ℕ)) → Gfid → Gfid → List Gfid
ends_by [] first second = []
ends_by (path ∷ []) first second = first ∷ []
ends_by (path ∷ other ∷ paths) first second = first ∷ second ∷ []

-- the objects that the paths lead to
abbrev pub walk_ends : List (List (List ℕ)) → List ℕ → List Gfid → List Gfid
walk_ends paths places found =
    ends_by paths (path_end (first_path paths) root places found)
    (path_end (second_path paths) root (drop (length (first_path paths)) places) (drop (length (first_path paths)) found))

-- the lookup that is next where no more objects are found: the directory, and the name in it
abbrev pub next_in : List (List ℕ) → Gfid → List Gfid → FlatOp → FlatOp
next_in [] at found other = other
next_in (name ∷ names) at [] other = Lookup at name
next_in (name ∷ names) at (gfid ∷ found) other = next_in names gfid found other

abbrev pub or_other : Option FlatOp → FlatOp → FlatOp
or_other None other = other
or_other (Some op) other = op

-- of two paths; a lookup in the root where there is none
abbrev pub next_lookup : List (List (List ℕ)) → List Gfid → FlatOp
next_lookup paths found =
    next_in (first_path paths) root found
    (next_in (second_path paths) root (drop (length (first_path paths)) found) (Lookup root []))
