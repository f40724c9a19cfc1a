-- What the laws of courses say of a fop under way: at the job that it asks for, and where it ends.
use Rattle.std.proofs.Common.{◌≡◌, ◌∙◌, inl, inr, ℕ, ◌≤◌, sym, ap, subst, List, [], ◌∷◌, length, Option, Some, None, true, arith}
use Rattle.afr_machine.specs.Changes.{Verdict}
use Rattle.afr_machine.specs.Changes.Verdict.{Adopted}
use Rattle.dht_fops.specs.Courses.{Course}
use Rattle.dht_fops.specs.Handed.{Handed, Event, Always, AnyHold}
use Rattle.dht_fops.specs.Handed.Event.{Replied, Held}
use Rattle.dht_laws.proofs.EndingsOfFops.{fops_answer}
use Rattle.dht_laws.specs.Endings.{HaveNoFault, fault_in, GoesOn, EndsWith}
use Rattle.fop_types.specs.declared.answers.FopAnswer.{FopAnswer}
use Rattle.fop_types.specs.declared.cells.Gfid.{Gfid}
use Rattle.fop_types.specs.declared.fops.Fop.{Fop}
use Rattle.fop_types.specs.declared.history.Entry.{Entry}
use Rattle.fop_types.specs.declared.jobs.Job.{Job}
use Rattle.fop_types.specs.declared.jobs.Job.TheVariants as job
use Rattle.fop_types.specs.declared.jobs.SetReply.{SetReply}
use Rattle.fop_types.specs.declared.jobs.SetReply.TheVariants as reply
use Rattle.mount_laws.specs.Effects.{WasReplied, IsReplyTo}
use Rattle.mount_laws.specs.Guards.{IsReached}
use Rattle.mount_laws.specs.Runs.{Run, first_course}
use Rattle.mount_laws.specs.States.{State, Runs, Status, is_unanswered, set_count}
use Rattle.mount_laws.proofs.Beyond.{in_its_graph}
use Rattle.mount_laws.proofs.Held.{jobs_asked}
use Rattle.mount_laws.proofs.Leading.{led_always}

abbrev pub AlwaysOf : (Handed → ℕ → Job → Type 0) → (Handed → Gfid → Type 0) → (Handed → FopAnswer → Option ℕ → Type 0) → Run → Type 0
AlwaysOf P H Q run = Always P H Q [] (first_course run)

module _ (first : List (List ℕ)) (m : State) (reached : IsReached first m) (c : ℕ) (run : Run) (runs : Runs m c run) where
  pub at_job : (P : Handed → ℕ → Job → Type 0) (H : Handed → Gfid → Type 0) (Q : Handed → FopAnswer → Option ℕ → Type 0) → AlwaysOf P H Q run
      → (set : ℕ) (asked : Job) (next : SetReply → Course) → run.course ≡ Course.Asks set asked next → P run.handed set asked
  at_job P H Q law set asked next asks =
      (subst (λ (course : Course). Always P H Q run.handed course) asks (led_always P H Q (first_course run) run.handed run.course (jobs_asked first m reached c run runs) law)).0

  pub at_end : (P : Handed → ℕ → Job → Type 0) (H : Handed → Gfid → Type 0) (Q : Handed → FopAnswer → Option ℕ → Type 0) → AlwaysOf P H Q run
      → (answer : FopAnswer) (place : Option ℕ) → run.course ≡ Course.Ends answer place → Q run.handed answer place
  at_end P H Q law answer place ends =
      subst (λ (course : Course). Always P H Q run.handed course) ends (led_always P H Q (first_course run) run.handed run.course (jobs_asked first m reached c run runs) law)

  unanswered : is_unanswered (m.calls c).status ≡ true
  unanswered = ap (λ (s : Status). is_unanswered s) runs

  pub some_roots : 1 ≤ run.volume.root_sets
  some_roots = let g = in_its_graph first m reached in let r = (g.planned c run runs).roots in let s = g.some in omega (arith, r, s)

  pub roots_within : run.volume.root_sets ≤ run.volume.sets
  roots_within =
      let g = in_its_graph first m reached in
      let r = (g.planned c run runs).roots in let s = (g.planned c run runs).sets in let k = (g.unanswered c unanswered).0 in omega (arith, r, s, k)

  pub names_many : length run.names ≡ run.volume.sets
  names_many =
      let p = (in_its_graph first m reached).planned c run runs in
      ap (λ (n : List (List ℕ)). length n) p.names_are ∙ sym p.sets

  pub sets_are : run.volume.sets ≡ length (m.calls c).names
  sets_are = ((in_its_graph first m reached).planned c run runs).sets

  pub sets_within : run.volume.sets ≤ set_count m
  sets_within = let e = sets_are in let k = ((in_its_graph first m reached).unanswered c unanswered).1 in omega (arith, e, k)

  -- no job follows one that failed and that the fop needs
  pub goes_on : (set : ℕ) (asked : Job) (next : SetReply → Course) → run.course ≡ Course.Asks set asked next → GoesOn run.fop run.handed set asked
  goes_on = at_job (GoesOn run.fop) AnyHold (EndsWith run.fop) (fops_answer run.volume run.names run.kept run.fop)

-- a change that was answered, by a reply that is no fault, is adopted
pub replied_adopted : (f : Fop) (handed : Handed) (entry : Entry) (verdict : Verdict) → HaveNoFault f handed → WasReplied handed entry verdict → verdict ≡ Adopted
replied_adopted f [] entry verdict clear w = absurd w
replied_adopted f (event ∷ handed) entry verdict clear (inr w) = replied_adopted f handed entry verdict clear.1 w
replied_adopted f (event ∷ handed) entry verdict clear (inl r) = by_event event clear.0 r
  where
    by_event : (e : Event) → fault_in f e ≡ None → IsReplyTo e entry verdict → verdict ≡ Adopted
    by_event (Replied set (job.Change cells fd o (Some one)) (reply.Contents contents place)) none k = k.1 tt
    by_event (Replied set (job.Change cells fd o (Some one)) (reply.Decided number)) none k = k.1 tt
    by_event (Replied set (job.Change cells fd o (Some one)) reply.Opened) none k = k.1 tt
    by_event (Replied set (job.Change cells fd o (Some one)) (reply.Listed listed answered short)) none k = k.1 tt
    by_event (Replied set (job.Change cells fd o (Some one)) (reply.Healed records)) none k = k.1 tt
    by_event (Replied set (job.Change cells fd o (Some one)) (reply.Skipped cause)) none k = k.1 tt
    by_event (Replied set (job.Change cells fd o (Some one)) (reply.Io error)) none k = absurd cc
    by_event (Replied set (job.Change cells fd o None) shown) none k = absurd k
    by_event (Replied set (job.Read cells fd dir) shown) none k = absurd k
    by_event (Replied set (job.Birth cells o) shown) none k = absurd k
    by_event (Replied set (job.Open fd gfid) shown) none k = absurd k
    by_event (Replied set job.Index shown) none k = absurd k
    by_event (Replied set (job.Heal cell) shown) none k = absurd k
    by_event (Held dir) none k = absurd k
