-- The request that a phase sends stays the one that it sends, while the changes and the stage go on.
use Rattle.std.proofs.Common.{◌≡◌, ◌∙◌, ℕ, Bool, true, false, refl, sym, ap, subst, inl, inr, Option, Some}
use Rattle.std.specs.Prelude.{if◌then◌else◌, List, [], ◌∷◌, ◌++◌, ◌&&◌, is_none}
use Rattle.fop_types.specs.declared.cells.Cell.{Cell}
use Rattle.fop_types.specs.declared.jobs.Job.{Job}
use Rattle.afr_machine.specs.Replicas.{Replicas, Size, outside}
use Rattle.afr_machine.specs.Touching.{has_cell}
use Rattle.afr_machine.specs.Copies.{Fetched}
use Rattle.afr_machine.specs.Requests.{Ask, Answer}
use Rattle.afr_machine.specs.Requests.Ask.{Lock, Unlock, Mark, Op, Post, Fetch, Replace, Clear, Settle, Index, Open, Release, OpenFirst}
use Rattle.afr_machine.specs.Requests.Answer.{Rows, Content}
use Rattle.afr_machine.specs.Changes.{Change}
use Rattle.afr_machine.specs.Transactions.{Stage, Txn, CopyRun}
use Rattle.afr_machine.specs.Transactions.Stage.{Locked, Marking, Applying, Posting, Settling, Bearing, Copying}
use Rattle.afr_machine.specs.Sending.{asks_of}
use Rattle.afr_machine.specs.Answering.{is_wanted, passed, missing, granting, having, fetching, replacing, taking, hearing, with_first, without_first}
use Rattle.afr_laws.specs.Drawn.{change_in}
use Rattle.afr_laws.specs.Asking.{IsFetching, IsReplacing, IsClearing, IsSettlingBy, IsAskedBy, LastIs}

-- ---- the last request

module _ (P : Ask → Type 0) where
  pub last_asked : (flying : List Ask) (first : Bool) (ask : Ask) → P ask → LastIs P (flying ++ asks_of first ask)
  last_asked [] true ask h = h
  last_asked [] false ask h = h
  last_asked (a ∷ []) true ask h = h
  last_asked (a ∷ []) false ask h = h
  last_asked (a ∷ (b ∷ rest)) first ask h = last_asked (b ∷ rest) first ask h

  pub last_landed : (flying : List Ask) → LastIs P flying → LastIs P (without_first flying)
  last_landed [] h = tt
  last_landed (a ∷ []) h = tt
  last_landed (a ∷ (b ∷ rest)) h = h

pub last_map : (P Q : Ask → Type 0) (flying : List Ask) → ((ask : Ask) → P ask → Q ask) → LastIs P flying → LastIs Q flying
last_map P Q [] more h = tt
last_map P Q (a ∷ []) more h = more a h
last_map P Q (a ∷ (b ∷ rest)) more h = last_map P Q (b ∷ rest) more h

-- ---- the changes go on

-- of the change that a stage is about: its cells and op stay, and while it is posted, who applied it
pub record SameAsked (stage : Stage) (u : ℕ) (old new : Change) : Type 0 where
  pub cells : new.cells ≡ old.cells
  pub op : new.op ≡ old.op
  pub done : stage ≡ Posting u → new.done ≡ old.done

module _ (size : Size) (old new : ℕ → Change) (own : Job) (k : ℕ) where
  settling_is : (stage : Stage) (u : ℕ) (accused : Replicas) → IsSettlingBy size stage u accused → change_in stage ≡ u
  settling_is (Settling change group adopts) u accused h = h.0
  settling_is other u accused h = absurd h

  pub asked_carry : (stage : Stage) → ((u : ℕ) → change_in stage ≡ u → SameAsked stage u (old u) (new u)) → (ask : Ask) → IsAskedBy size old own stage k ask → IsAskedBy size new own stage k ask
  asked_carry stage same (Mark u cells) h = (h.0, h.1 ∙ sym (same u (ap change_in h.0)).cells)
  asked_carry stage same (Op u op) (inl h) = inl (h.0, h.1 ∙ sym (same u (ap change_in h.0)).op)
  asked_carry stage same (Op u op) (inr h) = inr h
  asked_carry stage same (Post u cells accused) h = (h.0, (h.1.0 ∙ sym (same u (ap change_in h.0)).cells, h.1.1 ∙ sym (ap (outside size) ((same u (ap change_in h.0)).done h.0))))
  asked_carry stage same (Settle u cells accused) h = (h.0, h.1 ∙ sym (same u (settling_is stage u accused h.0)).cells)
  asked_carry stage same (Lock shared cells) h = h
  asked_carry stage same Unlock h = h
  asked_carry stage same (Fetch cell) h = h
  asked_carry stage same (Replace cell found) h = h
  asked_carry stage same (Clear cells who) h = h
  asked_carry stage same Index h = h
  asked_carry stage same Open h = h
  asked_carry stage same Release h = h
  asked_carry stage same OpenFirst h = h

-- ---- another brick's answer

-- content that is kept stays
first_stays : (table : Cell → Option Fetched) (cell c : Cell) (found f : Fetched) → table c ≡ Some f → with_first table cell found c ≡ Some f
first_stays table cell c found f is = by_case (has_cell (cell ∷ []) c) where
  by_case : (b : Bool) → (if b && is_none (table c) then Some found else table c) ≡ Some f
  by_case true = ap (λ o. if is_none o then Some found else o) is
  by_case false = is

module _ (size : Size) (changes : ℕ → Change) (own : Job) (j : ℕ) where
  -- a stage of a copy asks for nothing else
  copying_only : (run new : CopyRun) → ((cell : Cell) → IsFetching (Copying run) j cell → IsFetching (Copying new) j cell) → ((cell : Cell) (found : Fetched) → IsReplacing (Copying run) j cell found → IsReplacing (Copying new) j cell found) →
      ((cells : List Cell) (who : Replicas) → IsClearing (Copying run) cells who → IsClearing (Copying new) cells who) → (ask : Ask) → IsAskedBy size changes own (Copying run) j ask → IsAskedBy size changes own (Copying new) j ask
  copying_only run new f r c (Fetch cell) (inl h) = absurd (let no : Copying run ≡ Locked = h.0 in cc)
  copying_only run new f r c (Fetch cell) (inr h) = inr (f cell h)
  copying_only run new f r c (Replace cell found) h = r cell found h
  copying_only run new f r c (Clear cells who) h = c cells who h
  copying_only run new f r c (Lock shared cells) h = absurd cc
  copying_only run new f r c Unlock h = absurd cc
  copying_only run new f r c (Mark u cells) h = absurd (let no : Copying run ≡ Marking u = h.0 in cc)
  copying_only run new f r c (Op u op) (inl h) = absurd (let no : Copying run ≡ Applying u = h.0 in cc)
  copying_only run new f r c (Op u op) (inr h) = absurd (let no : Copying run ≡ Bearing = h.0 in cc)
  copying_only run new f r c (Post u cells accused) h = absurd (let no : Copying run ≡ Posting u = h.0 in cc)
  copying_only run new f r c (Settle u cells accused) h = absurd h.0
  copying_only run new f r c Index h = absurd cc
  copying_only run new f r c Open h = absurd cc
  copying_only run new f r c Release h = h
  copying_only run new f r c OpenFirst h = h

  module _ (x : Txn) (k connection : ℕ) (stays : passed x.stage ≡ x.stage) where
    abbrev Asked : Stage → Ask → Type 0
    Asked stage ask = IsAskedBy size changes own stage j ask

    fetching_asked : (stage : Stage) (cell : Cell) (found : Fetched) → x.stage ≡ stage → (ask : Ask) → Asked x.stage ask → Asked (fetching x stage cell found).stage ask
    fetching_asked (Copying run) cell found is ask h =
        copying_only run (record run { fetched = with_first run.fetched cell found }) (λ c f. f) (λ c f r. (r.0, (r.1.0, (r.1.1.0, first_stays run.fetched cell c found f r.1.1.1)))) (λ cells who c. (c.0, (c.1.0, c.1.1))) ask (subst (λ s. Asked s ask) is h)
    fetching_asked other cell found is ask h = h

    having_asked : (cell : Cell) (answer : Answer) (ask : Ask) → Asked x.stage ask → Asked (having x cell answer).stage ask
    having_asked cell (Content found) ask h = fetching_asked x.stage cell found refl ask h
    having_asked cell other ask h = h

    granting_asked : (shared : Bool) (cells : List Cell) (answer : Answer) (ask : Ask) → Asked x.stage ask → Asked (granting x k connection shared cells answer).stage ask
    granting_asked shared cells (Rows rows) ask h = subst (λ s. Asked s ask) (sym stays) h
    granting_asked shared cells other ask h = h

    -- a replacement is confirmed while no clear was sent
    replacing_asked : (stage : Stage) (cell : Cell) (found : Fetched) → x.stage ≡ stage → IsReplacing x.stage k cell found → (ask : Ask) → Asked x.stage ask → Asked (replacing x stage k cell).stage ask
    replacing_asked (Copying run) cell found is r ask h =
        let now = subst (λ s. IsReplacing s k cell found) is r in
        copying_only run _ (λ c f. f) (λ c f q. q) (λ cells who c. absurd (let no : true ≡ false = sym c.0 ∙ now.0 in cc)) ask (subst (λ s. Asked s ask) is h)
    replacing_asked other cell found is r ask h = h

    taking_asked : (answered : Ask) (answer : Answer) → IsAskedBy size changes own x.stage k answered → (ask : Ask) → Asked x.stage ask → Asked (taking x k connection answered answer).stage ask
    taking_asked (Lock shared cells) answer a ask h = granting_asked shared cells answer ask h
    taking_asked (Fetch cell) answer a ask h = having_asked cell answer ask h
    taking_asked (Replace cell found) answer a ask h = replacing_asked x.stage cell found refl a ask h
    taking_asked other answer a ask h = h

    pub hearing_asked : (answered : Ask) (answer : Answer) → IsAskedBy size changes own x.stage k answered → (ask : Ask) → Asked x.stage ask → Asked (hearing x k connection answered answer).stage ask
    hearing_asked answered answer a ask h = by_case (is_wanted answered answer) where
      by_case : (b : Bool) → Asked (if b then taking x k connection answered answer else missing x k).stage ask
      by_case true = taking_asked answered answer a ask h
      by_case false = subst (λ s. Asked s ask) (sym stays) h
