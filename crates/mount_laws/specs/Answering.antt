-- What a call is answered after it has changed the file system: the answer to its own operation, which is adopted, at the
-- number of its entry. Ours.
use Rattle.std.specs.Prelude.{◌≡◌, ℕ, ◌+◌, List, slice_get, Option, Some}
use Rattle.afr_machine.specs.Changes.Verdict.{Adopted}
use Rattle.dht_fops.specs.Answers.{flat_op, change_of}
use Rattle.dht_laws.specs.Endings.{answer_to, IsNoFailure}
use Rattle.fop_types.specs.declared.answers.FopAnswer.{FopAnswer}
use Rattle.fop_types.specs.declared.fops.Fop.{Fop}
use Rattle.fop_types.specs.declared.history.Entry.{Entry}
use Rattle.mount_laws.specs.Effects.{HasEffect}
use Rattle.mount_laws.specs.Guards.{Allowed}
use Rattle.mount_laws.specs.Runs.{Run}
use Rattle.mount_laws.specs.States.{State, Change}
use Rattle.mount_laws.specs.Steps.{Step}

-- the call's own change that makes the fop's operation is adopted, and is answered at the number of its entry
pub record IsAnsweredAs (changes : ℕ → Change) (history : List Entry) (c : ℕ) (f : Fop) (answer : FopAnswer) (place : Option ℕ) : Type 0 where
  pub change : ℕ
  pub by : (changes change).by ≡ c
  pub adopted : (changes change).verdict ≡ Adopted
  pub entry : Entry
  pub effect : (changes change).effect ≡ Some entry
  pub own : change_of (changes change).op ≡ flat_op f
  pub answer_is : answer ≡ answer_to (changes change).set (changes change).op
  pub index : ℕ
  pub entered : slice_get history index ≡ Some entry
  pub place_is : place ≡ Some (index + 1)

-- Where a call has begun a change with an effect and is answered something else than an I/O error, the change was adopted, and
-- the answer is that to the fop's own operation.
abbrev pub AnsweredByEntry : State → Type 0
AnsweredByEntry m = (c : ℕ) (run : Run) (answer : FopAnswer) (place : Option ℕ) → Allowed m (Step.Answers c run answer place) → IsNoFailure answer
    → (u : ℕ) (entry : Entry) → (m.changes u).by ≡ c → HasEffect (m.changes u) entry → ((m.changes u).verdict ≡ Adopted) × IsAnsweredAs m.changes m.history c run.fop answer place
