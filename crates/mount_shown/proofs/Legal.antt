-- Each entry of the history is accepted where it stands; and a call whose change was made is answered as the flat file system
-- answers at its entry.
use Rattle.std.proofs.Common.{◌≡◌, ◌⊎◌, inl, inr, ◌∙◌, ℕ, zero, suc, ◌≤◌, true, false, refl, sym, ap, subst, List, [], ◌∷◌, ◌++◌, length, slice_get, Option, Some, None, arith}
use Rattle.std.proofs.lemmas.List.{take-append-le}
use Rattle.std.proofs.lemmas.Option.{slice_get_within}
use Rattle.std.proofs.Math.Seq.{take-length}
use Rattle.dht_fops.specs.Answers.{IsAccepted, Accepts, change_of}
use Rattle.dht_laws.proofs.Accepted.{flat_answers}
use Rattle.dht_laws.specs.Endings.{call_answer}
use Rattle.fop_types.specs.Files.{Files, first_files}
use Rattle.fop_types.specs.Flat.Outcome.{Changes}
use Rattle.fop_types.specs.History.{files_after, fs_after}
use Rattle.fop_types.specs.declared.answers.FopAnswer.{FopAnswer}
use Rattle.fop_types.specs.declared.flat.FlatAnswer.{FlatAnswer}
use Rattle.fop_types.specs.declared.flat.FlatAnswer.TheVariants as flat_answer
use Rattle.fop_types.specs.declared.flat.FlatOp.{FlatOp}
use Rattle.fop_types.specs.declared.fops.Fop.{Fop}
use Rattle.fop_types.specs.declared.history.Entry.{Entry}
use Rattle.fop_types.specs.declared.store_ops.StoreOp.{StoreOp}
use Rattle.mount_files.specs.Showing.{Stands}
use Rattle.mount_laws.specs.Answering.{IsAnsweredAs}
use Rattle.mount_laws.specs.Guards.{Allowed, IsReached}
use Rattle.mount_laws.specs.Objects.{volumes}
use Rattle.mount_laws.specs.States.{State}
use Rattle.mount_laws.specs.Steps.{Step, after, by_effect, ops_with}
use Rattle.mount_laws.proofs.Entering.{parts_in_order, entered_once}
use Rattle.mount_shown.proofs.Decided.{own_entry, adopted_begun}
use Rattle.mount_shown.proofs.Every.{every_files}
use Rattle.mount_shown.specs.Pending.{KeepsFiles}
use Rattle.mount_shown.specs.Replies.{EveryHistoryIsLegal, IsEntryAt}

-- ---- files at a place

pub files_now : (ops : List FlatOp) → fs_after ops (length ops) ≡ files_after first_files ops
files_now ops = ap (files_after first_files) (take-length ops)

pub files_before : (ops : List FlatOp) (o : FlatOp) (place : ℕ) → place ≤ length ops → fs_after (ops ++ o ∷ []) place ≡ fs_after ops place
files_before ops o place h = ap (files_after first_files) (take-append-le place ops (o ∷ []) h)

-- the last of a list, or one before
get_push : (xs : List FlatOp) (x : FlatOp) (i : ℕ) (y : FlatOp) → slice_get (xs ++ x ∷ []) i ≡ Some y → (slice_get xs i ≡ Some y) ⊎ ((i ≡ length xs) × (x ≡ y))
get_push [] x zero y h = inr (refl, cc)
get_push [] x (suc i) y h = absurd cc
get_push (z ∷ xs) x zero y h = inl h
get_push (z ∷ xs) x (suc i) y h = elim (get_push xs x i y h) [ inl old ↦ inl old | inr new ↦ inr (omega (arith, new.0), new.1) ]

-- ---- each entry is accepted

abbrev AreLegal : List FlatOp → Type 0
AreLegal ops = (index : ℕ) (o : FlatOp) → slice_get ops index ≡ Some o → IsAccepted (fs_after ops index) o

pushed_legal : (ops : List FlatOp) (one : FlatOp) → AreLegal ops → IsAccepted (files_after first_files ops) one → AreLegal (ops ++ one ∷ [])
pushed_legal ops one a new index o h = by_index (get_push ops one index o h)
  where
    by_index : (slice_get ops index ≡ Some o) ⊎ ((index ≡ length ops) × (one ≡ o)) → IsAccepted (fs_after (ops ++ one ∷ []) index) o
    by_index (inl old) =
        let low = slice_get_within ops index o old in
        subst (λ (files : Files). IsAccepted files o) (sym (files_before ops one index (omega (arith, low)))) (a index o old)
    by_index (inr k) =
        subst (λ (i : ℕ). IsAccepted (fs_after (ops ++ one ∷ []) i) o) (sym k.0)
        (subst (λ (files : Files). IsAccepted files o) (sym (files_before ops one (length ops) (let same : length ops ≤ length ops = omega arith in same) ∙ files_now ops))
        (subst (λ (x : FlatOp). IsAccepted (files_after first_files ops) x) k.1 new))

adopted_legal : (m : State) (set : ℕ) (o : StoreOp) (effect : Option Entry) → Stands (volumes m) set o effect → AreLegal m.ops → AreLegal (by_effect effect m.ops (ops_with m.ops (change_of o)))
adopted_legal m set o None st a = a
adopted_legal m set o (Some entry) st a = by_op (change_of o) st.0
  where
    by_op : (one : Option FlatOp) → Accepts (files_after first_files m.ops) one → AreLegal (ops_with m.ops one)
    by_op None x = absurd x
    by_op (Some one) x = pushed_legal m.ops one a x

step_legal : (m : State) (step : Step) → Allowed m step → KeepsFiles m → AreLegal m.ops → AreLegal (after m step).ops
step_legal m (Step.Settles t u true) h f a = adopted_legal m (m.changes u).set (m.changes u).op (m.changes u).effect (f.alone u h.unsettled.verdict).stands a
step_legal m (Step.Decides t u) h f a = adopted_legal m (m.changes u).set (m.changes u).op (m.changes u).effect (f.alone u h.unsettled).stands a
step_legal m (Step.Settles t u false) h f a = a
step_legal m (Step.Submits draws) h f a = a
step_legal m (Step.Concludes c) h f a = a
step_legal m (Step.Switches names) h f a = a
step_legal m (Step.Begins c fop kept) h f a = a
step_legal m (Step.EndsSettling t) h f a = a
step_legal m (Step.BeginsChange t u) h f a = a
step_legal m (Step.SendsBirths t) h f a = a
step_legal m (Step.ConfirmsBirths t) h f a = a
step_legal m (Step.HandsIn t shown) h f a = a
step_legal m (Step.Extends c run dir next) h f a = a
step_legal m (Step.Releases c run gfid) h f a = a
step_legal m (Step.Learns c run dir spans) h f a = a
step_legal m (Step.Answers c run answer place) h f a = a
step_legal m (Step.AnswersAbove c run answer) h f a = a

pub every_legal : EveryHistoryIsLegal
every_legal first _ (IsReached.Start planned) = λ index o e. absurd cc
every_legal first _ (IsReached.Further old step reached allowed) = step_legal old step allowed (every_files first old reached) (every_legal first old reached)

-- ---- an answer at an entry

pub entry_answered : (first : List (List ℕ)) (m : State) → IsReached first m → (c : ℕ) (f : Fop) (answer : FopAnswer) (place : Option ℕ) → IsAnsweredAs m.changes m.history c f answer place → IsEntryAt m c f answer place
entry_answered first m reached c f answer place k =
    let begun = adopted_begun (m.changes k.change).verdict k.adopted in
    let own = own_entry first m reached k.change k.entry begun k.effect in
    let entered = (entered_once first m reached).entered k.index k.entry k.entered in
    let same : entered.change ≡ k.change =
    (parts_in_order first m reached).once entered.change k.change k.entry (record { begun = adopted_begun (m.changes entered.change).verdict entered.adopted; effect = entered.effect }) (record { begun = begun; effect = k.effect }) in
    let op_there : slice_get m.ops k.index ≡ Some own.part = entered.op ∙ ap (λ (u : ℕ). change_of (m.changes u).op) same ∙ own.makes in
    let legal = every_legal first m reached k.index own.part op_there in
    let says = flat_answers (fs_after m.ops k.index) legal.after (m.changes k.change).set (m.changes k.change).op own.part legal.answer own.makes legal.accepted in
    record {
      index = k.index;
      entry = k.entry;
      entered = k.entered;
      call_is = own.call_is ∙ k.by;
      op = own.part;
      own = sym k.own ∙ own.makes;
      stands = op_there;
      after = legal.after;
      accepted = legal.accepted ∙ ap (λ (x : FlatAnswer). Changes x legal.after) (says ∙ ap (λ (x : FopAnswer). flat_answer.Call (call_answer x)) (sym k.answer_is));
      place_is = k.place_is;
    }
