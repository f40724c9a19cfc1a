-- The laws of a turn hold of each turn of a run.
use Rattle.std.proofs.Common.{◌≡◌, ◌∙◌, ◌≢◌, ℕ, zero, suc, ◌<◌, ◌⊎◌, inl, inr, Bool, true, false, ◌&&◌, ◌||◌, ◌==◌, List, [], ◌∷◌, None, refl, sym, ap, subst, arith}
use Rattle.std.specs.Prelude.{length, slice_set}
use Rattle.std.proofs.lemmas.Bool.{cases_eq, eq-eqb, ne_eqb}
use Rattle.fop_types.specs.declared.cells.Cell.{Cell}
use Rattle.fop_types.specs.declared.contents.Mask.{Mask}
use Rattle.fop_types.specs.declared.copy_jobs.CopyDone.{CopyDone}
use Rattle.fop_types.specs.declared.jobs.Job.{Job}
use Rattle.fop_types.specs.declared.jobs.SetPlan.{SetPlan}
use Rattle.fop_types.specs.declared.messages.BrickRep.{BrickRep}
use Rattle.afr_ledger.specs.Ledger.{State}
use Rattle.afr_phases.specs.declared.wave.Wave.{Wave}
use Rattle.afr_phases.specs.Answers.{is_plain_done}
use Rattle.afr_phases.specs.Flags.{flag, no_flags}
use Rattle.afr_phases.specs.Waves.{is_asked, taken}
use Rattle.afr_transaction.specs.declared.need.Need.{Need}
use Rattle.afr_transaction.specs.declared.need.Need.TheVariants as need
use Rattle.afr_transaction.specs.declared.phase.Phase.{Phase}
use Rattle.afr_transaction.specs.declared.phase.Phase.TheVariants as phase
use Rattle.afr_transaction.specs.declared.size.Size.{Size}
use Rattle.afr_transaction.specs.declared.txn.Txn.{Txn}
use Rattle.afr_transaction.specs.Answers.{answered, copied}
use Rattle.afr_transaction.specs.Begins.{fresh, started}
use Rattle.afr_transaction.specs.Causes.{Tracks}
use Rattle.afr_transaction.specs.Changes.{effect_of}
use Rattle.afr_transaction.specs.Ops.{OpsAreConfirmed}
use Rattle.afr_transaction.specs.Requests.{Keeps, PostsAccuse, Sends}
use Rattle.afr_transaction.specs.Shapes.{is_asking, is_copying, AfterAnswer, GoesOn}
use Rattle.afr_transaction.proofs.EachTurn.{begin_sends, answer_sends, copy_sends, begins, answers, copies}
use Rattle.afr_transaction.proofs.Marked.{ops_follow}
use Rattle.afr_transaction.proofs.Moves.{answers_move, copies_draw}
use Rattle.afr_transaction.proofs.Posts.{posts_follow}
use Rattle.txn_laws.specs.Granted.{is_as_asked, SendsNone, SendsSome, Follows}
use Rattle.txn_laws.specs.Laws.{PostTurn, SettleTurn}
use Rattle.txn_laws.specs.Runs.{Event, Answer, Finish, AwaitsAnswer, AwaitsCopy, AreEvents, since_sent, has_said, AreSaid, AnswerIsLawful, CopyIsLawful, TurnsAreLawful, RunsAreLawful}
use Rattle.txn_laws.proofs.Draws.{answers_draw_to_mark, copies_draw_to_mark}
use Rattle.txn_laws.proofs.Failures.{begins_have_causes, answers_have_causes, copies_have_causes}
use Rattle.txn_laws.proofs.Handed.{set_length}
use Rattle.txn_laws.proofs.Known.{begins_confirm, begins_follow, answers_begin, answers_stay, answers_grant, answers_show, answers_follow, answers_lose, answers_take, copies_begin, copies_stay, copies_follow, copies_lose, copies_take}
use Rattle.txn_laws.proofs.Listing.{answers_list, copies_list}
use Rattle.txn_laws.proofs.Quorums.{posts_in_turns, settles_in_turns}
use Rattle.txn_laws.proofs.Splits.{answers_split, copies_do_not_split}

-- ---- confirmations

set_same : (xs : List Bool) (i : ℕ) → i < length xs → flag (slice_set xs i true) i ≡ true
set_same [] i low = absurd (omega arith)
set_same (x ∷ xs) zero low = refl
set_same (x ∷ xs) (suc i) low = set_same xs i (omega arith)

set_other : (xs : List Bool) (i j : ℕ) → j ≢ i → flag (slice_set xs i true) j ≡ flag xs j
set_other [] i j apart = refl
set_other (x ∷ xs) zero zero apart = absurd (apart refl)
set_other (x ∷ xs) zero (suc j) apart = refl
set_other (x ∷ xs) (suc i) zero apart = refl
set_other (x ∷ xs) (suc i) (suc j) apart = set_other xs i j (λ e. apart (ap suc e))

-- five places, and the confirmations are what was answered as asked
pub record IsTold (wave : Wave) (said : List (ℕ × Bool)) : Type 0 where
  pub places : length wave.confirmed ≡ 5
  pub are : AreSaid wave said

taken_told : (wave : Wave) (said : List (ℕ × Bool)) (k : ℕ) (c : Bool) → IsTold wave said → IsTold (taken wave k c) ((k, c) ∷ said)
taken_told wave said k false told = record { places = told.places; are = λ j low. told.are j low ∙ without (j == k) (has_said said j) } where
  without : (b s : Bool) → s ≡ ((b && false) || s)
  without true s = refl
  without false s = refl
taken_told wave said k true told = record { places = set_length wave.confirmed k true ∙ told.places; are = λ j low. by j low (cases_eq j k) } where
  five : length wave.confirmed ≡ 5
  five = told.places

  by : (j : ℕ) → j < 5 → (j ≡ k) ⊎ (j ≢ k) → flag (slice_set wave.confirmed k true) j ≡ ((j == k && true) || has_said said j)
  by j low (inl same) =
      let fits : k < length wave.confirmed = omega arith in
      ap (flag (slice_set wave.confirmed k true)) same ∙ set_same wave.confirmed k fits ∙ sym (ap (λ (b : Bool). (b && true) || has_said said j) (eq-eqb j k same))
  by j low (inr apart) = set_other wave.confirmed k j apart ∙ told.are j low ∙ sym (ap (λ (b : Bool). (b && true) || has_said said j) (ne_eqb j k apart))

none_told : (wave : Wave) → wave.confirmed ≡ no_flags → IsTold wave []
none_told wave e = record { places = ap (λ (l : List Bool). length l) e; are = λ j low. ap (λ (l : List Bool). flag l j) e ∙ none j } where
  none : (j : ℕ) → flag no_flags j ≡ false
  none zero = refl
  none (suc zero) = refl
  none (suc (suc zero)) = refl
  none (suc (suc (suc zero))) = refl
  none (suc (suc (suc (suc zero)))) = refl
  none (suc (suc (suc (suc (suc j))))) = refl

since_told : (wave : Wave) (said : List (ℕ × Bool)) (turned : Need) → SendsNone turned → IsTold wave said → IsTold wave (since_sent turned said)
since_told wave said (need.Send list) none told = absurd none
since_told wave said (need.Copy job rows) none told = told
since_told wave said (need.Reply reply) none told = told
since_told wave said need.Wait none told = told

anew_told : (wave : Wave) (said : List (ℕ × Bool)) (turned : Need) → SendsSome turned → wave.confirmed ≡ no_flags → IsTold wave (since_sent turned said)
anew_told wave said (need.Send list) some e = none_told wave e
anew_told wave said (need.Copy job rows) some e = absurd some
anew_told wave said (need.Reply reply) some e = absurd some
anew_told wave said need.Wait some e = absurd some

told_by : (wave after : Wave) (said : List (ℕ × Bool)) (turned : Need) → IsTold wave said → ((after ≡ wave) × SendsNone turned) ⊎ ((after.confirmed ≡ no_flags) × SendsSome turned) → IsTold after (since_sent turned said)
told_by wave after said turned told (inl e) = since_told after said turned e.1 (subst (λ (w : Wave). IsTold w said) (sym e.0) told)
told_by wave after said turned told (inr e) = anew_told after said turned e.1 e.0

-- ---- what is kept from turn to turn

-- requests are unanswered, or a copy is under way, by what the last turn asked for
abbrev pub Going : Txn → Need → Type 0
Going txn (need.Send list) = (is_asking txn ≡ true) × Keeps txn
Going txn (need.Copy job rows) = (is_copying txn ≡ true) × Keeps txn
Going txn (need.Reply reply) = Unit {0}
Going txn need.Wait = (is_asking txn ≡ true) × Keeps txn

pub record IsBetween (txn : Txn) (needed : Need) (said : List (ℕ × Bool)) : Type 0 where
  pub going : Going txn needed
  pub tracks : Tracks txn
  pub follows : Follows txn
  pub told : IsTold txn.wave said

begun_going : (size : Size) (txn : Txn) (needed : Need) → GoesOn size txn needed → Sends txn needed → Going txn needed
begun_going size txn (need.Send list) on sends = (on.1.0, sends.0)
begun_going size txn (need.Copy job rows) on sends = (on.1.0, sends.0)
begun_going size txn (need.Reply reply) on sends = tt
begun_going size txn need.Wait on sends = absurd on

answer_going : (size : Size) (k : ℕ) (asked : Wave) (txn : Txn) (needed : Need) → AfterAnswer size k asked txn needed → Sends txn needed → Going txn needed
answer_going size k asked txn (need.Send list) on sends = (on.1.1.0, sends.0)
answer_going size k asked txn (need.Copy job rows) on sends = (on.1.1.0, sends.0)
answer_going size k asked txn (need.Reply reply) on sends = tt
answer_going size k asked txn need.Wait on sends = (on.1.0, sends)

pub asking_now : (txn : Txn) (needed : Need) → Going txn needed → AwaitsAnswer needed → (is_asking txn ≡ true) × Keeps txn
asking_now txn (need.Send list) going awaits = going
asking_now txn (need.Copy job rows) going awaits = absurd awaits
asking_now txn (need.Reply reply) going awaits = absurd awaits
asking_now txn need.Wait going awaits = going

pub copying_now : (txn : Txn) (needed : Need) → Going txn needed → AwaitsCopy needed → (is_copying txn ≡ true) × Keeps txn
copying_now txn (need.Send list) going awaits = absurd awaits
copying_now txn (need.Copy job rows) going awaits = going
copying_now txn (need.Reply reply) going awaits = absurd awaits
copying_now txn need.Wait going awaits = absurd awaits

-- ---- answers

module _ (txn : Txn) (k mark : ℕ) (r : BrickRep) (ledger : State Cell) (live : Mask) (last : List ℕ) (said : List (ℕ × Bool)) (asking : is_asking txn ≡ true) (keeps : Keeps txn) (tracks : Tracks txn) (follows : Follows txn) (told : IsTold txn.wave said) (asked : is_asked txn.wave k ≡ true) where
  abbrev t : Txn × (Need × State Cell)
  t = answered txn k r mark ledger live last

  abbrev as_asked : Bool
  as_asked = is_as_asked txn.phase txn.cells r

  in_phase : (p : Phase) → txn.phase ≡ p → is_as_asked p txn.cells r ≡ is_plain_done r → is_plain_done r ≡ as_asked
  in_phase p is e = sym e ∙ ap (λ (q : Phase). is_as_asked q txn.cells r) (sym is)

  lawful : AnswerIsLawful txn k mark r ledger live last ((k, as_asked) ∷ said) t
  lawful = record {
    own = answers_stay txn k mark r ledger live last;
    goes_on = answers txn k mark r ledger live last asking asked;
    sends = answer_sends txn k mark r ledger live last asking keeps asked;
    confirmed = (taken_told txn.wave said k as_asked told).are;
    ops = λ change is. subst (λ (c : Bool). OpsAreConfirmed (taken txn.wave k c) t.1.0) (in_phase (phase.Marking change) is refl) (ops_follow txn k mark change r ledger live last asking tracks asked is);
    posts = λ change is. subst (λ (c : Bool). PostsAccuse txn.size.n (taken txn.wave k c) t.1.0) (in_phase (phase.Writing change) is refl) (posts_follow txn k mark change r ledger live last asking keeps asked is);
    draws = answers_draw_to_mark txn k mark r ledger live last asking;
    moves = answers_move txn k mark r ledger live last asking;
    adopts = λ change is.
        subst (λ (c : Bool). PostTurn txn.size.q (effect_of txn.job) change ledger (taken txn.wave k c) t) (in_phase (phase.Posting change None) is refl) (posts_in_turns txn k mark change r ledger live last is);
    settles = λ verdict is yet.
        subst (λ (c : Bool). SettleTurn txn.size.q verdict ledger (taken txn.wave k c) t) (in_phase (phase.Settling verdict) is refl) (settles_in_turns txn k mark verdict r ledger live last asking is yet);
    outs = λ j out h. answers_lose txn k mark r ledger live last j out asking keeps asked follows h;
    grants = λ j connection h. answers_grant txn k mark r ledger live last j connection h;
    rows = λ j rows h. answers_show txn k mark r ledger live last j rows h;
    begins = λ at e. answers_begin txn k mark at r ledger live last e;
    causes = (answers_have_causes txn k mark r ledger live last asking keeps tracks asked).1;
    lists = λ reply error none e is. answers_list txn k mark r ledger live last reply error asking keeps tracks asked none e is;
    splits = λ number rows none e. answers_split txn k mark r ledger live last number rows asking keeps tracks asked follows none e;
  }

  pub answer_between : IsBetween t.0 t.1.0 (since_sent t.1.0 ((k, as_asked) ∷ said))
  answer_between = record {
    going = answer_going txn.size k txn.wave t.0 t.1.0 (answers txn k mark r ledger live last asking asked) (answer_sends txn k mark r ledger live last asking keeps asked);
    tracks = (answers_have_causes txn k mark r ledger live last asking keeps tracks asked).0;
    follows = answers_follow txn k mark r ledger live last asking keeps asked follows;
    told = told_by (taken txn.wave k as_asked) t.0.wave ((k, as_asked) ∷ said) t.1.0 (taken_told txn.wave said k as_asked told) (answers_take txn k mark r ledger live last asking keeps asked follows);
  }

-- ---- copies

module _ (txn : Txn) (done : CopyDone) (ledger : State Cell) (live : Mask) (last : List ℕ) (said : List (ℕ × Bool)) (copying : is_copying txn ≡ true) (keeps : Keeps txn) (follows : Follows txn) (told : IsTold txn.wave said) where
  abbrev c : Txn × (Need × State Cell)
  c = copied txn done ledger live last

  copy_lawful : CopyIsLawful txn done ledger live last c
  copy_lawful = record {
    own = copies_stay txn done ledger live last;
    goes_on = copies txn done ledger live last copying;
    sends = copy_sends txn done ledger live last copying keeps;
    draws = copies_draw_to_mark txn done ledger live last;
    moves = copies_draw txn done ledger live last;
    outs = λ j out h. copies_lose txn done ledger live last j out copying keeps follows h;
    begins = λ at e. copies_begin txn done ledger live last at e;
    causes = (copies_have_causes txn done ledger live last copying keeps).1;
    lists = λ reply error e is. copies_list txn done ledger live last reply error copying keeps e is;
    splits = λ number rows e. copies_do_not_split txn done ledger live last number rows copying keeps e;
  }

  pub copy_between : IsBetween c.0 c.1.0 (since_sent c.1.0 said)
  copy_between = record {
    going = begun_going txn.size c.0 c.1.0 (copies txn done ledger live last copying) (copy_sends txn done ledger live last copying keeps);
    tracks = (copies_have_causes txn done ledger live last copying keeps).0;
    follows = copies_follow txn done ledger live last copying keeps follows;
    told = told_by txn.wave c.0.wave said c.1.0 told (copies_take txn done ledger live last);
  }

-- ---- runs

turns_lawful : (events : List Event) (txn : Txn) (needed : Need) (said : List (ℕ × Bool)) → IsBetween txn needed said → AreEvents events txn needed → TurnsAreLawful events txn said
turns_lawful [] txn needed said between are = tt
turns_lawful (Answer k mark r ledger live last ∷ events) txn needed said between are =
    let now = asking_now txn needed between.going are.0.0 in (
      lawful txn k mark r ledger live last said now.0 now.1 between.tracks between.follows between.told are.0.1,
      turns_lawful events (answered txn k r mark ledger live last).0 (answered txn k r mark ledger live last).1.0 (since_sent (answered txn k r mark ledger live last).1.0 ((k, is_as_asked txn.phase txn.cells r) ∷ said))
          (answer_between txn k mark r ledger live last said now.0 now.1 between.tracks between.follows between.told are.0.1) are.1,
    )
turns_lawful (Finish done ledger live last ∷ events) txn needed said between are =
    let now = copying_now txn needed between.going are.0 in (
      copy_lawful txn done ledger live last said now.0 now.1 between.follows between.told,
      turns_lawful events (copied txn done ledger live last).0 (copied txn done ledger live last).1.0 (since_sent (copied txn done ledger live last).1.0 said)
          (copy_between txn done ledger live last said now.0 now.1 between.follows between.told) are.1,
    )

pub begun_between : (size : Size) (set : SetPlan) (call : ℕ) (j : Job) (ledger : State Cell) (live : Mask) (last : List ℕ)
    → IsBetween (started (fresh size set call j) ledger live last).0 (started (fresh size set call j) ledger live last).1 []
begun_between size set call j ledger live last =
    let b = started (fresh size set call j) ledger live last in
    record {
      going = begun_going size b.0 b.1 (begins size set call j ledger live last) (begin_sends size set call j ledger live last);
      tracks = (begins_have_causes size set call j ledger live last).0;
      follows = begins_follow size set call j ledger live last;
      told = none_told b.0.wave (begins_confirm size set call j ledger live last);
    }

pub runs_are_lawful : RunsAreLawful
runs_are_lawful size set call j ledger live last events are =
    let b = started (fresh size set call j) ledger live last in
    turns_lawful events b.0 b.1 [] (begun_between size set call j ledger live last) are
