-- Steps that run one after another are borne out by their operations.
use Rattle.std.proofs.Common.{◌≡◌, ◌≢◌, ◌∷◌, ◌++◌, refl, sym, ap, subst, ◌∙◌, ℕ, ◌+◌, ◌<◌, ◌≤◌, ◌==◌, suc, zero, ◌⊎◌, inl, inr, List, [], length, take, get_or, arith, take_at, take_all}
use Rattle.std.specs.Prelude.{Option, Some, None, IfSome, slice_get, slice_set}
use Rattle.std.proofs.lemmas.Bool.{cases_eq}
use Rattle.fop_types.specs.Files.{Files, first_files}
use Rattle.fop_types.specs.Flat.{flat, flat_answer, flat_after, IsChange}
use Rattle.fop_types.specs.History.{Reply, fs_after, files_after}
use Rattle.fop_types.specs.declared.answers.Answer.{Answer}
use Rattle.fop_types.specs.declared.flat.FlatAnswer.TheVariants as flat_answers
use Rattle.fop_types.specs.declared.flat.FlatOp.{FlatOp}
use Rattle.history_replay.specs.code.Claims.{IsReplied, IsRepliedIf, IsHeld, AreHeld, IsEntered}
use Rattle.history_replay.specs.code.Runs.{IsHeldOn, AreHeldOn, IsDone, Runs, RunsBy, ops_of, with_op, IsChangeHeld, IsStepHeld, AreBorne, with_claim, with_change, PutsClaim, PutsChange, Puts, ArePut, RunsWith, Bears, Passes, PassesBy, IsMadeBy}
use Rattle.history_replay.specs.declared.claims.Claim.{Claim}
use Rattle.history_replay.specs.declared.claims.Claim.TheVariants as claim
use Rattle.history_replay.specs.declared.steps.Change.{Change}
use Rattle.history_replay.specs.declared.steps.Pass.{Pass}
use Rattle.history_replay.specs.declared.steps.Pass.TheVariants as passed
use Rattle.history_replay.specs.declared.steps.Step.{Step}
use Rattle.history_replay.proofs.Basics.{some_is, same_some, none_some, get_read}

-- ---- items of a list

pub get_set : {X : Type 0} (xs : List X) (i : ℕ) (y : X) → i < length xs → slice_get (slice_set xs i y) i ≡ Some y
get_set [] i y l = absurd (omega (arith, l))
get_set (x ∷ xs) zero y l = refl
get_set (x ∷ xs) (suc i) y l = get_set xs i y (omega (arith, l))

pub get_set_other : {X : Type 0} (xs : List X) (i j : ℕ) (y : X) → (i ≡ j → ⊥) → slice_get (slice_set xs i y) j ≡ slice_get xs j
get_set_other [] i j y differs = refl
get_set_other (x ∷ xs) zero zero y differs = absurd (differs refl)
get_set_other (x ∷ xs) zero (suc j) y differs = refl
get_set_other (x ∷ xs) (suc i) zero y differs = refl
get_set_other (x ∷ xs) (suc i) (suc j) y differs = get_set_other xs i j y (λ e. differs (ap suc e))

-- ---- claims that are put at their places

pub held_last : (files : Files) (at : ℕ) (replies : List Reply) (xs : List Claim) (y : Claim) → AreHeldOn files at replies (xs ++ y ∷ [])
    → AreHeldOn files at replies xs × IsHeldOn files at replies y
held_last files at replies [] y h = (tt, h.0)
held_last files at replies (x ∷ xs) y h = let rest = held_last files at replies xs y h.1 in ((h.0, rest.0), rest.1)

puts_claim : (steps : List Step) (place : ℕ) (step : Step) (c : Claim) → slice_get steps place ≡ Some step → place < length steps
    → PutsClaim steps (slice_set steps place (with_claim step c)) place c
puts_claim steps place step c there within ops replies borne = (old, (held_last (fs_after ops place) place replies step.claims c here.claims).1) where
  here : IsStepHeld ops replies place (with_claim step c)
  here = borne place (with_claim step c) (get_set steps place (with_claim step c) within)

  at_place : (other : Step) → slice_get steps place ≡ Some other → IsStepHeld ops replies place other
  at_place other o =
      let same : step ≡ other = same_some step other (slice_get steps place) there o in
      subst (λ (s : Step). IsStepHeld ops replies place s) same
      (record { claims = (held_last (fs_after ops place) place replies step.claims c here.claims).0; change = here.change })

  old : AreBorne ops replies steps
  old at other o = by_place (cases_eq place at) where
    by_place : (place ≡ at) ⊎ (place ≡ at → ⊥) → IsStepHeld ops replies at other
    by_place (inl same) = subst (λ (n : ℕ). IsStepHeld ops replies n other) same (at_place other (ap (slice_get steps) same ∙ o))
    by_place (inr differs) = borne at other (get_set_other steps place at (with_claim step c) differs ∙ o)

puts_change : (steps : List Step) (index : ℕ) (step : Step) (change : Change) → slice_get steps index ≡ Some step → index < length steps
    → step.change ≡ None → PutsChange steps (slice_set steps index (with_change step change)) index change
puts_change steps index step change there within free ops replies borne = (old, here.change) where
  here : IsStepHeld ops replies index (with_change step change)
  here = borne index (with_change step change) (get_set steps index (with_change step change) within)

  at_index : (other : Step) → slice_get steps index ≡ Some other → IsStepHeld ops replies index other
  at_index other o =
      let same : step ≡ other = same_some step other (slice_get steps index) there o in
      subst (λ (s : Step). IsStepHeld ops replies index s) same (record { claims = here.claims; change = subst (IsChangeHeld ops replies index) (sym free) tt })

  old : AreBorne ops replies steps
  old at other o = by_index (cases_eq index at) where
    by_index : (index ≡ at) ⊎ (index ≡ at → ⊥) → IsStepHeld ops replies at other
    by_index (inl same) = subst (λ (n : ℕ). IsStepHeld ops replies n other) same (at_index other (ap (slice_get steps) same ∙ o))
    by_index (inr differs) = borne at other (get_set_other steps index at (with_change step change) differs ∙ o)

pub added_at : (steps : List Step) (place : ℕ) (before after : Step) (c : Claim) → place < length steps → before ≡ get_or steps place before
    → after ≡ with_claim before c → PutsClaim steps (slice_set steps place after) place c
added_at steps place before after c within read is =
    subst (λ (s : Step). PutsClaim steps (slice_set steps place s) place c) (sym is) (puts_claim steps place before c (get_read steps place before within read) within)

pub taken_at : (steps : List Step) (index : ℕ) (before after : Step) (change : Change) → index < length steps → before ≡ get_or steps index before
    → (before.change ≡ None) × (after ≡ with_change before change) → PutsChange steps (slice_set steps index after) index change
taken_at steps index before after change within read is =
    subst (λ (s : Step). PutsChange steps (slice_set steps index s) index change) (sym is.1)
    (puts_change steps index before change (get_read steps index before within read) within is.0)

-- a claim that holds on the files at a place holds there
pub held_there : (ops : List FlatOp) (replies : List Reply) (at : ℕ) (c : Claim) → IsHeldOn (fs_after ops at) at replies c → IsHeld ops replies c
held_there ops replies at (claim.Finds place parent name found) h = rw h.0 h.1
held_there ops replies at (claim.Answers place op reply) h = rw h.0 h.1
held_there ops replies at (claim.Accepts place op) h = rw h.0 h.1
held_there ops replies at (claim.Says reply answer) h = absurd h
held_there ops replies at (claim.Enters index op reply) h = absurd h

-- ---- the run

files_more : (files : Files) (ops : List FlatOp) (op : FlatOp) → files_after files (ops ++ op ∷ []) ≡ flat_after (files_after files ops) op
files_more files [] op = refl
files_more files (o ∷ ops) op = files_more (flat_after files o) ops op

-- the files after a prefix of operations
after_prefix : (before ops : List FlatOp) → fs_after (before ++ ops) (length before) ≡ files_after first_files before
after_prefix before ops = ap (files_after first_files) (take_at before ops (length before) refl)

get_first : (before : List FlatOp) (op : FlatOp) (ops : List FlatOp) → slice_get (before ++ op ∷ ops) (length before) ≡ Some op
get_first [] op ops = refl
get_first (b ∷ before) op ops = get_first before op ops

append_one : (before : List FlatOp) (op : FlatOp) (ops : List FlatOp) → (before ++ op ∷ []) ++ ops ≡ before ++ op ∷ ops
append_one [] op ops = refl
append_one (b ∷ before) op ops = ap (λ (l : List FlatOp). b ∷ l) (append_one before op ops)

length_one : (before : List FlatOp) (op : FlatOp) → length (before ++ op ∷ []) ≡ length before + 1
length_one [] op = refl
length_one (b ∷ before) op = let one = length_one before op in omega (arith, one)

-- the first step is borne out where it runs
here_held : (replies : List Reply) (before : List FlatOp) (change : Change) (ops : List FlatOp) → IsDone (files_after first_files before) replies change
    → IsEntered (before ++ change.op ∷ ops) replies (length before) change.op change.reply
here_held replies before change ops d = record {
  stands = get_first before change.op ops;
  accepted = subst (λ (x : Files). IsChange (flat x change.op)) (sym (after_prefix before (change.op ∷ ops))) d.accepted;
  answered = subst (λ (x : Files). IsRepliedIf replies change.reply (flat_answer x change.op)) (sym (after_prefix before (change.op ∷ ops))) d.answered;
}

-- the steps behind the first one, whose change is this
module _ (replies : List Reply) (first : Step) (steps : List Step) (before : List FlatOp) (step : Step) where
  claims_held : AreHeldOn (files_after first_files before) (length before) replies first.claims → (ops : List FlatOp)
      → AreHeldOn (fs_after (before ++ ops) (length before)) (length before) replies first.claims
  claims_held h ops = subst (λ (x : Files). AreHeldOn x (length before) replies first.claims) (sym (after_prefix before ops)) h

  here : length before + 0 ≡ length before
  here = omega arith

  borne_by : (change : Option Change) → first.change ≡ change → AreHeldOn (files_after first_files before) (length before) replies first.claims
      → RunsBy change (files_after first_files before) replies steps (λ after. Runs after (length before + 1) replies steps)
      → ((c : Change) → Runs (files_after first_files (before ++ c.op ∷ [])) (length (before ++ c.op ∷ [])) replies steps → (k : ℕ) → slice_get steps k ≡ Some step
      → IsStepHeld ((before ++ c.op ∷ []) ++ ops_of steps) replies (length (before ++ c.op ∷ []) + k) step)
      → (k : ℕ) → slice_get (first ∷ steps) k ≡ Some step → IsStepHeld (before ++ with_op first.change (ops_of steps)) replies (length before + k) step
  borne_by None is held runs later zero s =
      subst (λ (n : ℕ). IsStepHeld (before ++ with_op first.change (ops_of steps)) replies n step) (sym here)
      (subst (λ (x : Step). IsStepHeld (before ++ with_op first.change (ops_of steps)) replies (length before) x) (some_is first step s)
      (record {
        claims = claims_held held (with_op first.change (ops_of steps));
        change = subst (IsChangeHeld (before ++ with_op first.change (ops_of steps)) replies (length before)) (sym is) tt;
      }))
  borne_by None is held runs later (suc k) s = absurd (none_some step None refl (subst (λ (l : List Step). slice_get l k ≡ Some step) runs s))
  borne_by (Some change) is held runs later zero s =
      let entered : IsChangeHeld (before ++ with_op (Some change) (ops_of steps)) replies (length before) (Some change) =
      here_held replies before change (ops_of steps) runs.0 in
      subst (λ (n : ℕ). IsStepHeld (before ++ with_op first.change (ops_of steps)) replies n step) (sym here)
      (subst (λ (x : Step). IsStepHeld (before ++ with_op first.change (ops_of steps)) replies (length before) x) (some_is first step s)
      (record {
        claims = claims_held held (with_op first.change (ops_of steps));
        change = subst (λ (o : Option Change). IsChangeHeld (before ++ with_op o (ops_of steps)) replies (length before) o) (sym is) entered;
      }))
  borne_by (Some change) is held runs later (suc k) s =
      let one = length_one before change.op in
      let index : length (before ++ change.op ∷ []) + k ≡ length before + suc k = omega (arith, one) in
      let runs_on : Runs (files_after first_files (before ++ change.op ∷ [])) (length (before ++ change.op ∷ [])) replies steps =
      subst (λ (n : ℕ). Runs (files_after first_files (before ++ change.op ∷ [])) n replies steps) (sym one)
      (subst (λ (x : Files). Runs x (length before + 1) replies steps) (sym (files_more first_files before change.op)) runs.1) in
      subst (λ (o : Option Change). IsStepHeld (before ++ with_op o (ops_of steps)) replies (length before + suc k) step) (sym is)
      (subst (λ (l : List FlatOp). IsStepHeld l replies (length before + suc k) step) (append_one before change.op (ops_of steps))
      (subst (λ (n : ℕ). IsStepHeld ((before ++ change.op ∷ []) ++ ops_of steps) replies n step) index (later change runs_on k s)))

borne_from : (replies : List Reply) (steps : List Step) (before : List FlatOp)
    → Runs (files_after first_files before) (length before) replies steps
    → (k : ℕ) (step : Step) → slice_get steps k ≡ Some step → IsStepHeld (before ++ ops_of steps) replies (length before + k) step
borne_from replies [] before r k step s = absurd r
borne_from replies (first ∷ steps) before r k step s =
    borne_by replies first steps before step first.change refl r.0 r.1 (λ c runs j there. borne_from replies steps (before ++ c.op ∷ []) runs j step there) k s

pub runs_bear : (replies : List Reply) (steps : List Step) → Runs first_files 0 replies steps → AreBorne (ops_of steps) replies steps
runs_bear replies steps r at step s =
    let none : 0 + at ≡ at = omega arith in
    subst (λ (n : ℕ). IsStepHeld (ops_of steps) replies n step) none (borne_from replies steps [] r at step s)

count_by : (first : Step) (steps : List Step) (files : Files) (at : ℕ) (replies : List Reply) (change : Option Change)
    → RunsBy change files replies steps (λ after. Runs after (at + 1) replies steps)
    → ((after : Files) → Runs after (at + 1) replies steps → length (ops_of steps) + 1 ≡ length steps)
    → length (with_op change (ops_of steps)) + 1 ≡ length (first ∷ steps)
count_by first steps files at replies None runs later =
    let none : ops_of steps ≡ [] = ap ops_of runs in
    let no_ops : length (ops_of steps) ≡ 0 = ap length none in
    let no_steps : length steps ≡ 0 = ap length runs in
    omega (arith, no_ops, no_steps)
count_by first steps files at replies (Some change) runs later = let rest = later (flat_after files change.op) runs.1 in omega (arith, rest)

pub runs_count : (files : Files) (at : ℕ) (replies : List Reply) (steps : List Step) → Runs files at replies steps → length (ops_of steps) + 1 ≡ length steps
runs_count files at replies [] r = absurd r
runs_count files at replies (first ∷ steps) r = count_by first steps files at replies first.change r.1 (λ after runs. runs_count after (at + 1) replies steps runs)

-- a claim that was put at its place
pub puts_there : (replies : List Reply) (before after : List Step) (place : ℕ) (c : Claim) → PutsClaim before after place c → Puts replies before after c
puts_there replies before after place c puts ops borne =
    let both = puts ops replies borne in (both.0, held_there ops replies place c both.1)

pub puts_entry : (replies : List Reply) (before after : List Step) (index : ℕ) (op : FlatOp) (reply : Option ℕ)
    → PutsChange before after index (record { op = op; reply = reply }) → Puts replies before after (claim.Enters index op reply)
puts_entry replies before after index op reply puts ops borne = puts ops replies borne

pub puts_said : (replies : List Reply) (before after : List Step) (reply : ℕ) (a : Answer) → after ≡ before → IsReplied replies reply (flat_answers.Call a)
    → Puts replies before after (claim.Says reply a)
puts_said replies before after reply a same said ops borne = (subst (AreBorne ops replies) same borne, said)

held_last_claim : (ops : List FlatOp) (replies : List Reply) (xs : List Claim) (y : Claim) → AreHeld ops replies xs → IsHeld ops replies y → AreHeld ops replies (xs ++ y ∷ [])
held_last_claim ops replies [] y h here = (here, tt)
held_last_claim ops replies (x ∷ xs) y h here = (h.0, held_last_claim ops replies xs y h.1 here)

-- one claim more that was put
pub put_next : (replies : List Reply) (entries : ℕ) (before after : List Step) (claims : List Claim) (c : Claim) → ArePut replies entries claims before
    → Puts replies before after c → length after ≡ length before → ArePut replies entries (claims ++ c ∷ []) after
put_next replies entries before after claims c put puts same = record {
  count = same ∙ put.count;
  held = λ ops borne. let both = puts ops borne in held_last_claim ops replies claims c (put.held ops both.0) both.1;
}

-- no claim was put
pub put_none : (replies : List Reply) (entries : ℕ) (steps : List Step) → length steps ≡ entries + 1 → ArePut replies entries [] steps
put_none replies entries steps long = record { count = long; held = λ ops borne. tt }

-- all claims were put, and the steps run
bears_by : (replies : List Reply) (steps : List Step) (entries : ℕ) (claims : List Claim) (ops : List FlatOp) → ArePut replies entries claims steps
    → RunsWith replies steps ops → Bears replies entries claims ops
bears_by replies steps entries claims ops put run =
    let count = runs_count first_files 0 replies steps run.runs in
    let many = put.count in
    let bears : Bears replies entries claims (ops_of steps) =
    record { as_many = omega (arith, count, many); held = put.held (ops_of steps) (runs_bear replies steps run.runs) } in
    subst (Bears replies entries claims) (sym run.ops_are) bears

pub bears_if : (replies : List Reply) (steps : List Step) (entries : ℕ) (claims : List Claim) (o : Option (List FlatOp)) → ArePut replies entries claims steps
    → IfSome o (λ ops. RunsWith replies steps ops) → IfSome o (λ ops. Bears replies entries claims ops)
bears_if replies steps entries claims None put run = tt
bears_if replies steps entries claims (Some ops) put run = bears_by replies steps entries claims ops put run

-- ---- the loop over the steps

held_on_last : (files : Files) (at : ℕ) (replies : List Reply) (xs : List Claim) (y : Claim) → AreHeldOn files at replies xs → IsHeldOn files at replies y
    → AreHeldOn files at replies (xs ++ y ∷ [])
held_on_last files at replies [] y h here = (here, tt)
held_on_last files at replies (x ∷ xs) y h here = (h.0, held_on_last files at replies xs y h.1 here)

pub holds_next : (files : Files) (at : ℕ) (replies : List Reply) (xs : List Claim) (y : Claim) → AreHeldOn files at replies xs → IsHeldOn files at replies y
    → AreHeldOn files at replies (xs ++ y ∷ [])
holds_next files at replies xs y h here = held_on_last files at replies xs y h here

pub passes_last : (files : Files) (at : ℕ) (replies : List Reply) (step : Step) → AreHeldOn files at replies step.claims → step.change ≡ None
    → Runs files at replies (step ∷ [])
passes_last files at replies step held is =
    (held, subst (λ (o : Option Change). RunsBy o files replies [] (λ after. Runs after (at + 1) replies [])) (sym is) refl)

pub passes_on : (before mid after : Files) (at : ℕ) (replies : List Reply) (step : Step) (change : Change) → AreHeldOn before at replies step.claims
    → step.change ≡ Some change → mid ≡ before → IsDone mid replies change → after ≡ flat_after mid change.op
    → (rest : List Step) → Runs after (at + 1) replies rest → Runs before at replies (step ∷ rest)
passes_on before mid after at replies step change held is same done made rest runs =
    let done_here : IsDone before replies change = subst (λ (f : Files). IsDone f replies change) same done in
    let after_is : after ≡ flat_after before change.op = made ∙ ap (λ (f : Files). flat_after f change.op) same in
    let on : Runs (flat_after before change.op) (at + 1) replies rest = subst (λ (f : Files). Runs f (at + 1) replies rest) after_is runs in
    (held, subst (λ (o : Option Change). RunsBy o before replies rest (λ next. Runs next (at + 1) replies rest)) (sym is) (done_here, on))

made_on : (o : Option Change) (before mid after : Files) (at : ℕ) (replies : List Reply) (step : Step) → AreHeldOn before at replies step.claims → step.change ≡ o
    → mid ≡ before → IsMadeBy o mid after replies → (rest : List Step) → Runs after (at + 1) replies rest → Runs before at replies (step ∷ rest)
made_on None before mid after at replies step held is same made rest runs = absurd made
made_on (Some change) before mid after at replies step held is same made rest runs =
    passes_on before mid after at replies step change held is same made.0 made.1 rest runs

pub passes_by : (pass : Pass) (before mid after : Files) (at : ℕ) (replies : List Reply) (step : Step) → AreHeldOn before at replies step.claims → mid ≡ before
    → PassesBy pass mid after replies step.change → Passes pass before after at replies step
passes_by passed.Fails before mid after at replies step held same by = tt
passes_by passed.Ends before mid after at replies step held same by = passes_last before at replies step held by
passes_by passed.GoesOn before mid after at replies step held same by = made_on step.change before mid after at replies step held refl same by

pub passes_made : (o : Option Change) (change : Change) (before after : Files) (replies : List Reply) → o ≡ Some change → IsDone before replies change
    → after ≡ flat_after before change.op → PassesBy passed.GoesOn before after replies o
passes_made o change before after replies is done made = subst (λ (x : Option Change). IsMadeBy x before after replies) (sym is) (done, made)
