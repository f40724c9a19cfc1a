-- The course of a fop that asks one set of many, or one element of a list, and goes on with the rest.
use Rattle.std.proofs.Common.{◌≡◌, ℕ, zero, suc, ◌+◌, ◌<◌, List, [], ◌∷◌, Some, None, drop, refl, sym, ap, arith}
use Rattle.std.specs.List.{slice_get}
use Rattle.dht_layout.specs.Layouts.{even_span}
use Rattle.dht_fops.proofs.Sets.{sets_step}
use Rattle.dht_fops.specs.Courses.{answers}
use Rattle.dht_fops.specs.Courses.Course.{Asks}
use Rattle.dht_fops.specs.Entries.{birth_job, births_from}
use Rattle.dht_fops.specs.Internal.{opens_again, heals, indexes}
use Rattle.dht_fops.specs.Volumes.{sets_from}
use Rattle.dht_fops.specs.code.Waits.{goes_on}
use Rattle.dht_fops.specs.declared.state.OnNumber.TheVariants as number
use Rattle.dht_fops.specs.declared.state.OnReply.TheVariants as on
use Rattle.dht_fops.specs.declared.state.State.TheVariants as state
use Rattle.dht_fops.specs.declared.volume.Volume.{Volume}
use Rattle.fop_types.specs.declared.answers.Answer.TheVariants as answer
use Rattle.fop_types.specs.declared.cells.Cell.{Cell}
use Rattle.fop_types.specs.declared.cells.Gfid.{Gfid}
use Rattle.fop_types.specs.declared.fops.OpenFd.{OpenFd}
use Rattle.fop_types.specs.declared.jobs.Job.TheVariants as job

-- ---- one set of many

pub births_at : (v : Volume) (parent : Gfid) (name : List ℕ) (mode : ℕ) (drawn : Gfid) (set : ℕ) → set < v.sets
    → Asks set (birth_job drawn (Some (even_span v.sets set))) (goes_on v (state.Number (number.Birth (record { parent = parent; name = name; mode = mode; drawn = drawn; next = set + 1 }))))
    ≡ births_from v parent name mode drawn (sets_from v set)
births_at v parent name mode drawn set h = rw (sets_step set v.sets h) refl

pub indexes_at : (v : Volume) (count : ℕ) (cells : List (ℕ × Cell)) (set : ℕ) → set < v.sets
    → Asks set job.Index (goes_on v (state.Reply (on.Index (record { count = count; cells = cells; set = set; next = set + 1 }))))
    ≡ indexes count (sets_from v set) cells
indexes_at v count cells set h = rw (sets_step set v.sets h) refl

-- ---- one element of a list

rest_at : {X : Type 0} (xs : List X) (i : ℕ) (x : X) → slice_get xs i ≡ Some x → drop i xs ≡ x ∷ drop (i + 1) xs
rest_at [] i x e = absurd cc
rest_at (y ∷ ys) zero x e = let same : y ≡ x = cc in rw same refl
rest_at (y ∷ ys) (suc i) x e = let one : suc i + 1 ≡ suc (i + 1) = omega arith in rw one (rest_at ys i x e)

rest_past : {X : Type 0} (xs : List X) (i : ℕ) → slice_get xs i ≡ None → drop i xs ≡ []
rest_past [] zero e = refl
rest_past [] (suc i) e = refl
rest_past (y ∷ ys) zero e = absurd cc
rest_past (y ∷ ys) (suc i) e = rest_past ys i e

pub heals_at : (v : Volume) (cells : List (ℕ × Cell)) (place : ℕ) (one : ℕ × Cell) → slice_get cells place ≡ Some one
    → Asks one.0 (job.Heal one.1) (goes_on v (state.Reply (on.Heal (record { cells = cells; next = place + 1 })))) ≡ heals (drop place cells)
heals_at v cells place one e = rw (rest_at cells place one e) refl

pub opens_at : (v : Volume) (fds : List OpenFd) (place : ℕ) (open_fd : OpenFd) → slice_get fds place ≡ Some open_fd
    → Asks open_fd.set (job.Open open_fd.fd open_fd.gfid) (goes_on v (state.Reply (on.Reopen (record { fds = fds; next = place + 1 })))) ≡ opens_again (drop place fds)
opens_at v fds place open_fd e = rw (rest_at fds place open_fd e) refl

pub heals_past : (cells : List (ℕ × Cell)) (place : ℕ) → slice_get cells place ≡ None → answers answer.Done None ≡ heals (drop place cells)
heals_past cells place e = ap (λ (l : List (ℕ × Cell)). heals l) (sym (rest_past cells place e))

pub opens_past : (fds : List OpenFd) (place : ℕ) → slice_get fds place ≡ None → answers answer.Done None ≡ opens_again (drop place fds)
opens_past fds place e = ap (λ (l : List OpenFd). opens_again l) (sym (rest_past fds place e))
