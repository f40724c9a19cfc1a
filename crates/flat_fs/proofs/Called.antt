-- One call of a mount, by its parts.
use Rattle.std.proofs.Common.{◌≡◌, ◌∷◌, ◌++◌, ◌∙◌, refl, ap, ℕ, ◌+◌, ◌<◌, List, [], length, get_or, slice_set}
use Rattle.std.proofs.lemmas.List.{get_or_default}
use Rattle.std.specs.FinMap.{empty}
use Rattle.fop_types.specs.Calls.{Descriptors, Submission, makes, after_answer}
use Rattle.fop_types.specs.Files.{Files}
use Rattle.fop_types.specs.declared.answers.Answer.{Answer}
use Rattle.fop_types.specs.declared.calls.Call.{Call}
use Rattle.fop_types.specs.declared.cells.Gfid.{Gfid}
use Rattle.flat_fs.specs.Mount.{Mount, Served, served, call_served, after_served, after_call, answer_to, after_calls, answers_to, RunsInOrder}

abbrev pub mount_of : Files → List Descriptors → ℕ → Mount
mount_of files sessions made = record { files = files; sessions = sessions; made = made }

abbrev pub submitted : ℕ → Call → Submission
submitted session c = record { session = session; call = c }

pub fds_are : (sessions : List Descriptors) (session : ℕ) (fds : Descriptors) → fds ≡ get_or sessions session fds → session < length sessions
    → fds ≡ get_or sessions session empty
fds_are sessions session fds is fits = is ∙ get_or_default sessions session fds empty fits

pub served_is : (files : Files) (sessions : List Descriptors) (made session lo : ℕ) (c : Call) (fds : Descriptors) → fds ≡ get_or sessions session empty
    → lo ≡ 1 + (made + makes c) → served files fds (record { hi = 0; lo = lo }) c ≡ call_served (mount_of files sessions made) (submitted session c)
served_is files sessions made session lo c fds found next =
    ap (λ (d : Descriptors). served files d (record { hi = 0; lo = lo }) c) found
    ∙ ap (λ (n : ℕ). served files (get_or sessions session empty) (record { hi = 0; lo = n }) c) next

pub after_is : (files new_files : Files) (sessions : List Descriptors) (made new_made session : ℕ) (c : Call) (fds new_fds : Descriptors) (file : Gfid) (answer : Answer)
    → fds ≡ get_or sessions session empty → new_made ≡ made + makes c
    → answer ≡ (call_served (mount_of files sessions made) (submitted session c)).answer
    → file ≡ (call_served (mount_of files sessions made) (submitted session c)).file
    → new_files ≡ (call_served (mount_of files sessions made) (submitted session c)).files
    → new_fds ≡ after_answer fds c file answer
    → mount_of new_files (slice_set sessions session new_fds) new_made
    ≡ after_served (mount_of files sessions made) (submitted session c) (call_served (mount_of files sessions made) (submitted session c))
after_is files new_files sessions made new_made session c fds new_fds file answer found counted answered given changed moved =
    let by : Served = call_served (mount_of files sessions made) (submitted session c) in
    ap (λ (f : Files). mount_of f (slice_set sessions session new_fds) new_made) changed
    ∙ ap (λ (n : ℕ). mount_of by.files (slice_set sessions session new_fds) n) counted
    ∙ ap (λ (d : Descriptors). mount_of by.files (slice_set sessions session d) (made + makes c))
    (moved ∙ ap (λ (d : Descriptors). after_answer d c file answer) found
    ∙ ap (λ (g : Gfid). after_answer (get_or sessions session empty) c g answer) given
    ∙ ap (λ (a : Answer). after_answer (get_or sessions session empty) c by.file a) answered)

mount_after : (start : Mount) (calls : List Submission) (s : Submission) → after_calls start (calls ++ s ∷ []) ≡ after_call (after_calls start calls) s
mount_after start [] s = refl
mount_after start (c ∷ calls) s = mount_after (after_call start c) calls s

answers_after : (start : Mount) (calls : List Submission) (s : Submission)
    → answers_to start (calls ++ s ∷ []) ≡ answers_to start calls ++ answer_to (after_calls start calls) s ∷ []
answers_after start [] s = refl
answers_after start (c ∷ calls) s = ap (λ (l : List Answer). answer_to start c ∷ l) (answers_after (after_call start c) calls s)

pub in_order : RunsInOrder
in_order = record { mount = mount_after; answers = answers_after }
