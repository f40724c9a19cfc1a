-- An open asks for its descriptor, the opening of descriptors for each of them, and a heal for the index of every set.
use Rattle.std.proofs.Common.{◌≡◌, ◌∙◌, ℕ, zero, suc, ◌+◌, ◌-◌, ◌<◌, ◌≤◌, ◌++◌, inl, inr, Bool, true, false, List, [], ◌∷◌, Option, None, Result, Ok, Err, if◌then◌else◌, nat_lt, refl, sym, subst, arith}
use Rattle.std.specs.List.{range_with_len}
use Rattle.std.proofs.lemmas.Bool.{ltb-true, ltb-false}
use Rattle.dht_laws.specs.Asking.{WasOpened, WasIndexed, HasAsked, FopsAskAll}
use Rattle.dht_fops.specs.Courses.{Course, on_number, number_in}
use Rattle.dht_fops.specs.Courses.Course.{Asks, Extends, Ends}
use Rattle.dht_fops.specs.Fops.{fop_course}
use Rattle.dht_fops.specs.Handed.{Handed, Always, AnyJob, AnyHold}
use Rattle.dht_fops.specs.Handed.Event.{Replied, Held}
use Rattle.dht_fops.specs.Internal.{opens_again, heals, indexes, with_cells, cells_in}
use Rattle.dht_fops.specs.Objects.{opens, opened}
use Rattle.dht_fops.specs.Volumes.{Kept}
use Rattle.dht_fops.specs.declared.volume.Volume.{Volume}
use Rattle.fop_types.specs.Bounds.{Each}
use Rattle.fop_types.specs.Names.{is_directory}
use Rattle.fop_types.specs.declared.answers.Answer.TheVariants as answer
use Rattle.fop_types.specs.declared.answers.AppError.TheVariants.{Eisdir}
use Rattle.fop_types.specs.declared.answers.FopAnswer.{FopAnswer}
use Rattle.fop_types.specs.declared.answers.FopAnswer.TheVariants as fop_answer
use Rattle.fop_types.specs.declared.answers.IoError.{IoError}
use Rattle.fop_types.specs.declared.cells.Cell.{Cell}
use Rattle.fop_types.specs.declared.cells.Gfid.{Gfid}
use Rattle.fop_types.specs.declared.fops.Fop.{Fop}
use Rattle.fop_types.specs.declared.fops.Fop.TheVariants as fop
use Rattle.fop_types.specs.declared.fops.Object.{Object}
use Rattle.fop_types.specs.declared.fops.OpenFd.{OpenFd}
use Rattle.fop_types.specs.declared.jobs.Job.TheVariants as job
use Rattle.fop_types.specs.declared.jobs.SetReply.{SetReply}

abbrev Asked : Volume → Fop → Handed → Course → Type 0
Asked v f handed course = Always AnyJob AnyHold (HasAsked v f) handed course

-- ---- open

refused_is_none : fop_answer.Call (answer.App Eisdir) ≡ fop_answer.Call answer.Done → ⊥
refused_is_none e = absurd cc

error_is_none : (error : IoError) → fop_answer.Call (answer.Io error) ≡ fop_answer.Call answer.Done → ⊥
error_is_none error e = absurd cc

opens_ask : (v : Volume) (object : Object) (fd : ℕ) → Asked v (fop.Open fd object) [] (opens object fd)
opens_ask v object fd = by_kind (is_directory object.kind)
  where
    by_number : (said : SetReply) (read : Result (Option ℕ) IoError) → Asked v (fop.Open fd object) (Replied object.set (job.Open fd object.gfid) said ∷ []) (on_number opened read)
    by_number said (Ok number) = λ done. inl (refl, (refl, refl))
    by_number said (Err error) = λ done. inl (refl, (refl, refl))

    by_kind : (b : Bool) → Asked v (fop.Open fd object) [] (if b then Ends (fop_answer.Call (answer.App Eisdir)) None else Asks object.set (job.Open fd object.gfid) (λ said. on_number opened (number_in said)))
    by_kind true = λ done. absurd (refused_is_none done)
    by_kind false = (tt, λ said. by_number said (number_in said))

-- ---- the descriptors that are opened again

abbrev AreOpened : Handed → List OpenFd → Type 0
AreOpened handed fds = Each (λ (one : OpenFd). WasOpened handed one.set one.fd one.gfid) fds

opened_push : (set fd : ℕ) (gfid : Gfid) (said : SetReply) (handed : Handed) (fds : List OpenFd) → AreOpened handed fds → AreOpened (Replied set (job.Open fd gfid) said ∷ handed) fds
opened_push set fd gfid said handed [] all = tt
opened_push set fd gfid said handed (one ∷ fds) all = (inr all.0, opened_push set fd gfid said handed fds all.1)

opened_last : (handed : Handed) (fds : List OpenFd) (one : OpenFd) → AreOpened handed fds → WasOpened handed one.set one.fd one.gfid → AreOpened handed (fds ++ one ∷ [])
opened_last handed [] one all last = (last, tt)
opened_last handed (other ∷ fds) one all last = (all.0, opened_last handed fds one all.1 last)

append_one : (xs ys : List OpenFd) (one : OpenFd) → (xs ++ one ∷ []) ++ ys ≡ xs ++ one ∷ ys
append_one [] ys one = refl
append_one (x ∷ xs) ys one = rw (append_one xs ys one) refl

append_none : (xs : List OpenFd) → xs ++ [] ≡ xs
append_none [] = refl
append_none (x ∷ xs) = rw (append_none xs) refl

opens_again_ask : (v : Volume) (all before fds : List OpenFd) (handed : Handed) → before ++ fds ≡ all → AreOpened handed before → Asked v (fop.Migrate all) handed (opens_again fds)
opens_again_ask v all before [] handed e done = subst (λ (fds : List OpenFd). AreOpened handed fds) e (subst (λ (fds : List OpenFd). AreOpened handed fds) (sym (append_none before)) done)
opens_again_ask v all before (one ∷ fds) handed e done = (
  tt,
  λ said. opens_again_ask v all (before ++ one ∷ []) fds (Replied one.set (job.Open one.fd one.gfid) said ∷ handed) (append_one before fds one ∙ e)
      (opened_last (Replied one.set (job.Open one.fd one.gfid) said ∷ handed) before one (opened_push one.set one.fd one.gfid said handed before done) (inl (refl, (refl, refl)))),
)

-- ---- a heal

heals_ask : (v : Volume) (count : ℕ) (cells : List (ℕ × Cell)) (handed : Handed) → ((set : ℕ) → set < v.sets → WasIndexed handed set) → Asked v (fop.Heal count) handed (heals cells)
heals_ask v count [] handed all = all
heals_ask v count (one ∷ cells) handed all = (tt, λ said. heals_ask v count cells (Replied one.0 (job.Heal one.1) said ∷ handed) (λ set below. inr (all set below)))

indexed_push : (handed : Handed) (last : ℕ) (said : SetReply) → ((set : ℕ) → set < last → WasIndexed handed set) → (set : ℕ) → set < last + 1 → WasIndexed (Replied last job.Index said ∷ handed) set
indexed_push handed last said all set below = by_order (nat_lt set last) refl
  where
    by_order : (b : Bool) → nat_lt set last ≡ b → WasIndexed (Replied last job.Index said ∷ handed) set
    by_order true e = let less = ltb-true set last e in inr (all set less)
    by_order false e = let most = ltb-false set last e in let same : last ≡ set = omega arith in inl (same, tt)

indexes_ask : (v : Volume) (own count n first : ℕ) (cells : List (ℕ × Cell)) (handed : Handed) → v.sets ≤ first + n → ((set : ℕ) → set < first → WasIndexed handed set) → Asked v (fop.Heal own) handed (indexes count (range_with_len first n) cells)
indexes_ask v own count zero first cells handed all done = heals_ask v own cells handed (λ set below. done set (omega arith))
indexes_ask v own count (suc n) first cells handed all done =
    (tt, λ said. indexes_ask v own count n (first + 1) (with_cells cells count first (cells_in said)) (Replied first job.Index said ∷ handed) (omega arith) (indexed_push handed first said done))

-- ---- all

-- of any other fop nothing is said
abbrev SaysNothing : Volume → Fop → Type 0
SaysNothing v f = (handed : Handed) (a : FopAnswer) (place : Option ℕ) → HasAsked v f handed a place

nothing_asked : (v : Volume) (f : Fop) → SaysNothing v f → (handed : Handed) (course : Course) → Asked v f handed course
nothing_asked v f free handed (Asks set j next) = (tt, λ said. nothing_asked v f free (Replied set j said ∷ handed) (next said))
nothing_asked v f free handed (Extends dir next) = (tt, nothing_asked v f free (Held dir ∷ handed) next)
nothing_asked v f free handed (Ends a place) = free handed a place

below_none : (handed : Handed) (set : ℕ) → set < 0 → WasIndexed handed set
below_none handed set below = absurd (omega arith)

nothing : (v : Volume) (names : List (List ℕ)) (kept : Kept) (f : Fop) → SaysNothing v f → Asked v f [] (fop_course v names kept f)
nothing v names kept f free = nothing_asked v f free [] (fop_course v names kept f)

pub asks_all : FopsAskAll
asks_all v names kept (fop.Lookup parent name) = nothing v names kept (fop.Lookup parent name) (λ handed a place. tt)
asks_all v names kept (fop.Mkdir parent name mode drawn) = nothing v names kept (fop.Mkdir parent name mode drawn) (λ handed a place. tt)
asks_all v names kept (fop.Rmdir parent name) = nothing v names kept (fop.Rmdir parent name) (λ handed a place. tt)
asks_all v names kept (fop.Create fd parent name mode drawn) = nothing v names kept (fop.Create fd parent name mode drawn) (λ handed a place. tt)
asks_all v names kept (fop.Unlink parent name) = nothing v names kept (fop.Unlink parent name) (λ handed a place. tt)
asks_all v names kept (fop.Rename parent name target new_name) = nothing v names kept (fop.Rename parent name target new_name) (λ handed a place. tt)
asks_all v names kept (fop.Open fd object) = opens_ask v object fd
asks_all v names kept (fop.Stat object) = nothing v names kept (fop.Stat object) (λ handed a place. tt)
asks_all v names kept (fop.List object) = nothing v names kept (fop.List object) (λ handed a place. tt)
asks_all v names kept (fop.Chmod object mode) = nothing v names kept (fop.Chmod object mode) (λ handed a place. tt)
asks_all v names kept (fop.Truncate object size) = nothing v names kept (fop.Truncate object size) (λ handed a place. tt)
asks_all v names kept (fop.SetAttr object attr) = nothing v names kept (fop.SetAttr object attr) (λ handed a place. tt)
asks_all v names kept (fop.GetAttr object name) = nothing v names kept (fop.GetAttr object name) (λ handed a place. tt)
asks_all v names kept (fop.DelAttr object name) = nothing v names kept (fop.DelAttr object name) (λ handed a place. tt)
asks_all v names kept (fop.Read fd object offset count) = nothing v names kept (fop.Read fd object offset count) (λ handed a place. tt)
asks_all v names kept (fop.Write fd object offset bytes) = nothing v names kept (fop.Write fd object offset bytes) (λ handed a place. tt)
asks_all v names kept (fop.Migrate fds) = opens_again_ask v fds [] fds [] refl tt
asks_all v names kept (fop.Heal count) = indexes_ask v count count (v.sets - 0) 0 [] [] (omega arith) (below_none [])
