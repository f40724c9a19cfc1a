-- A fop that is answered, but by an I/O error: where it has made a change with an effect, as its entry says; else as the flat
-- file system answers now, and did at each length of the history from the fop's latest read on.
use Rattle.std.proofs.Common.{◌≡◌, ◌⊎◌, inl, inr, ◌∙◌, ℕ, refl, sym, subst, List, [], ◌∷◌, length, Option, Some, None}
use Rattle.dht_fops.specs.Answers.{FitsFlat, AnswersAsFlat, SaysFlat, flat_op}
use Rattle.dht_fops.specs.Courses.{Course, number_in}
use Rattle.dht_fops.specs.Handed.{Handed, Event, AnyJob, AnyHold}
use Rattle.dht_fops.specs.Handed.Event.{Replied, Held}
use Rattle.dht_fops.specs.Standing.{HaveNoEffect}
use Rattle.dht_laws.proofs.EndingsOfFops.{fops_answer}
use Rattle.dht_laws.proofs.FlatFops.{answers_as_flat}
use Rattle.dht_laws.proofs.TracesOfFops.{fops_place}
use Rattle.dht_laws.specs.Endings.{error_in, fault_in, HaveNoFault, last_made, IsNoFailure, EndsBy, EndsWith, GoesOn}
use Rattle.dht_laws.specs.Places.{last_place, place_made, IsPlaced}
use Rattle.fop_types.specs.Files.{Files}
use Rattle.fop_types.specs.History.{fs_after}
use Rattle.fop_types.specs.declared.answers.Answer.TheVariants as answers
use Rattle.fop_types.specs.declared.answers.FopAnswer.{FopAnswer}
use Rattle.fop_types.specs.declared.answers.FopAnswer.TheVariants as fop_answer
use Rattle.fop_types.specs.declared.answers.IoError.{IoError}
use Rattle.fop_types.specs.declared.fops.Fop.{Fop}
use Rattle.fop_types.specs.declared.history.Entry.{Entry}
use Rattle.fop_types.specs.declared.jobs.Job.TheVariants as job
use Rattle.fop_types.specs.declared.jobs.SetReply.{SetReply}
use Rattle.fop_types.specs.declared.jobs.SetReply.TheVariants as reply
use Rattle.fop_types.specs.declared.store_ops.StoreOp.{StoreOp}
use Rattle.mount_laws.specs.Effects.{DidNotFail}
use Rattle.mount_laws.specs.Guards.{Allowed, IsReached}
use Rattle.mount_laws.specs.Runs.{Run}
use Rattle.mount_laws.specs.States.{State, Change}
use Rattle.mount_laws.specs.Steps.{Step}
use Rattle.mount_laws.proofs.Answering.{IsMadeChange, AreMade, answered_by_entry, runs_made}
use Rattle.mount_shown.proofs.Asked.{none_begun}
use Rattle.mount_shown.proofs.Decided.{HasNone, adopted_begun}
use Rattle.mount_shown.proofs.Every.{every_files}
use Rattle.mount_shown.proofs.Founding.{names_within}
use Rattle.mount_shown.proofs.Jobs.{at_end, some_roots, roots_within, names_many}
use Rattle.mount_shown.proofs.Legal.{entry_answered}
use Rattle.mount_shown.proofs.Past.{PastAt, past_now, has_past}
use Rattle.mount_shown.specs.Replies.{IsReadAt, IsEntryAt, EveryAnswerIsFlat}

-- ---- the place of an answer

placed_by : (handed : Handed) (answer : FopAnswer) (place : Option ℕ) → IsNoFailure answer → IsPlaced handed answer place → place ≡ last_place handed
placed_by handed (fop_answer.Found set gfid kind) place ok is = is
placed_by handed (fop_answer.Call answers.Done) place ok is = is
placed_by handed (fop_answer.Call (answers.Count n)) place ok is = is
placed_by handed (fop_answer.Call (answers.Bytes bytes)) place ok is = is
placed_by handed (fop_answer.Call (answers.Stat kind mode size)) place ok is = is
placed_by handed (fop_answer.Call (answers.List items)) place ok is = is
placed_by handed (fop_answer.Call (answers.App error)) place ok is = is
placed_by handed (fop_answer.Call (answers.Io error)) place ok is = absurd ok

-- ---- changes that were handed in

none_failed : (f : Fop) (handed : Handed) (answer : FopAnswer) (place : Option ℕ) → IsNoFailure answer → EndsWith f handed answer place → HaveNoFault f handed
none_failed f [] answer place ok e = tt
none_failed f (event ∷ handed) answer place ok e = by_fault (fault_in f event) refl e.1
  where
    by_fault : (fault : Option IoError) → fault_in f event ≡ fault → EndsBy f fault (last_made (event ∷ handed)) answer place → HaveNoFault f (event ∷ handed)
    by_fault None is k = (is, e.0)
    by_fault (Some error) is k = absurd (subst IsNoFailure k.0 ok)

clear_reply : (shown : SetReply) → error_in shown ≡ None → DidNotFail shown
clear_reply (reply.Contents contents place) e = tt
clear_reply (reply.Decided number) e = tt
clear_reply reply.Opened e = tt
clear_reply (reply.Listed cells answered short) e = tt
clear_reply (reply.Healed records) e = tt
clear_reply (reply.Skipped cause) e = tt
clear_reply (reply.Io error) e = absurd cc

record WasMade (changes : ℕ → Change) (history : List Entry) (c : ℕ) : Type 0 where
  pub set : ℕ
  pub o : StoreOp
  pub entry : Entry
  pub number : Option ℕ
  pub made : IsMadeChange changes history c set o entry number

made_or_none : (changes : ℕ → Change) (history : List Entry) (c : ℕ) (f : Fop) (handed : Handed) → HaveNoFault f handed → AreMade changes history c handed → HaveNoEffect handed ⊎ WasMade changes history c
made_or_none changes history c f [] clear made = inl tt
made_or_none changes history c f (event ∷ handed) clear made = by_rest event clear.0 (made.0, tt) (made_or_none changes history c f handed clear.1 made.1)
  where
    by_rest : (e : Event) → fault_in f e ≡ None → AreMade changes history c (e ∷ []) → HaveNoEffect handed ⊎ WasMade changes history c → HaveNoEffect (e ∷ handed) ⊎ WasMade changes history c
    by_rest e k is (inr had) = inr had
    by_rest (Replied set (job.Change cells fd o (Some entry)) shown) k is (inl none) = inr (record { set = set; o = o; entry = entry; number = place_made (number_in shown); made = is.0 (clear_reply shown k) })
    by_rest (Replied set (job.Change cells fd o None) shown) k is (inl none) = inl (tt, none)
    by_rest (Replied set (job.Read cells fd dir) shown) k is (inl none) = inl (tt, none)
    by_rest (Replied set (job.Birth cells o) shown) k is (inl none) = inl (tt, none)
    by_rest (Replied set (job.Open fd gfid) shown) k is (inl none) = inl (tt, none)
    by_rest (Replied set job.Index shown) k is (inl none) = inl (tt, none)
    by_rest (Replied set (job.Heal cell) shown) k is (inl none) = inl (tt, none)
    by_rest (Held dir) k is (inl none) = inl (tt, none)

-- ---- the answer

module _ (first : List (List ℕ)) (m : State) (reached : IsReached first m) (c : ℕ) (run : Run) (answer : FopAnswer) (place : Option ℕ) (h : Allowed m (Step.Answers c run answer place)) (ok : IsNoFailure answer) where
  placed : place ≡ last_place run.handed
  placed = placed_by run.handed answer place ok (at_end first m reached c run h.runs AnyJob AnyHold IsPlaced (fops_place run.volume run.names run.kept run.fop) answer place h.ends)

  clear : HaveNoFault run.fop run.handed
  clear = none_failed run.fop run.handed answer place ok (at_end first m reached c run h.runs (GoesOn run.fop) AnyHold (EndsWith run.fop) (fops_answer run.volume run.names run.kept run.fop) answer place h.ends)

  read_at : HaveNoEffect run.handed → IsReadAt m run.fop answer place
  read_at none = record {
    now = says (length m.history) (past_now first m reached c run h.runs nobody);
    since = λ p k e low high. says k ((has_past first m reached c run h.runs nobody).0 p k (sym placed ∙ e) low high);
  }
    where
      nobody : HasNone m c
      nobody = none_begun first m reached c run h.runs none (λ k. let clash : Course.Ends answer place ≡ Course.Asks k.set k.asked k.next = sym h.ends ∙ k.asks in absurd cc)

      flat_says : AnswersAsFlat run.volume.sets run.fop run.handed answer place
      flat_says =
          at_end first m reached c run h.runs (FitsFlat run.volume.sets run.fop) AnyHold (AnswersAsFlat run.volume.sets run.fop)
          (answers_as_flat run.volume run.names run.kept run.fop (some_roots first m reached c run h.runs) (roots_within first m reached c run h.runs) (names_many first m reached c run h.runs) (names_within first m reached (every_files first m reached) c run h.runs))
          answer place h.ends

      says : (k : ℕ) → PastAt m.ops run.fop run.volume.sets run.handed k → SaysFlat (fs_after m.ops k) (flat_op run.fop) answer
      says k w = subst (λ (files : Files). SaysFlat files (flat_op run.fop) answer) w.files_is (flat_says none w.s w.sound w.made w.shown)

  entry_at : WasMade m.changes m.history c → IsEntryAt m c run.fop answer place
  entry_at had =
      entry_answered first m reached c run.fop answer place
      (answered_by_entry fops_answer first m reached c run answer place h ok had.made.change had.entry had.made.by (record { begun = adopted_begun (m.changes had.made.change).verdict had.made.adopted; effect = had.made.effect })).1

  answer_flat : IsReadAt m run.fop answer place ⊎ IsEntryAt m c run.fop answer place
  answer_flat = by_handed (made_or_none m.changes m.history c run.fop run.handed clear (runs_made first m reached c run h.runs).handed)
    where
      by_handed : HaveNoEffect run.handed ⊎ WasMade m.changes m.history c → IsReadAt m run.fop answer place ⊎ IsEntryAt m c run.fop answer place
      by_handed (inl none) = inl (read_at none)
      by_handed (inr had) = inr (entry_at had)

pub every_answer_flat : EveryAnswerIsFlat
every_answer_flat = λ first m reached c run answer place h ok. answer_flat first m reached c run answer place h ok
