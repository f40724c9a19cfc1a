-- The events of replies, from the last reply to the first.
use Rattle.std.proofs.Common.{◌≡◌, refl, sym, ap, subst, ◌∙◌, ℕ, ◌+◌, ◌-◌, ◌<◌, ◌==◌, zero, suc, ◌⊎◌, inl, inr, List, [], ◌∷◌, length, drop, get_or, replicate, arith}
use Rattle.std.specs.Prelude.{Bool, true, false, slice_set, if◌then◌else◌}
use Rattle.std.proofs.lemmas.Bool.{cases_eq, eq-eqb, ne_eqb}
use Rattle.std.proofs.lemmas.List.{drop_more, drop_all, length-replicate, get_or-replicate}
use Rattle.mount_log.specs.Submissions.{event_of_reply}
use Rattle.mount_log.specs.declared.logs.ReplyLine.{ReplyLine}
use Rattle.log_replay.specs.Events.{HasReplyEvents, set_event}

pub none_replied : (count : ℕ) (lines : List ReplyLine) (events : List ℕ) → events ≡ replicate count 0 → HasReplyEvents count (drop (length lines - 0) lines) events
none_replied count lines events none =
    let past : drop (length lines - 0) lines ≡ [] = drop_all (length lines - 0) lines (omega arith) in
    subst (λ (l : List ReplyLine). HasReplyEvents count l events) (sym past) (record {
      long = ap length none ∙ length-replicate count 0;
      each = λ k l. ap (λ (xs : List ℕ). get_or xs k 0) none ∙ get_or-replicate count k 0 0 l;
    })

long_set : (xs : List ℕ) (i x : ℕ) → length (slice_set xs i x) ≡ length xs
long_set [] i x = refl
long_set (y ∷ xs) zero x = refl
long_set (y ∷ xs) (suc i) x = let rest = long_set xs i x in omega (arith, rest)

get_same : (xs : List ℕ) (i x : ℕ) → i < length xs → get_or (slice_set xs i x) i 0 ≡ x
get_same [] i x l = absurd (omega (arith, l))
get_same (y ∷ xs) zero x l = refl
get_same (y ∷ xs) (suc i) x l = get_same xs i x (omega (arith, l))

get_other : (xs : List ℕ) (i j x : ℕ) → (i ≡ j → ⊥) → get_or (slice_set xs i x) j 0 ≡ get_or xs j 0
get_other [] i j x differs = refl
get_other (y ∷ xs) zero zero x differs = absurd (differs refl)
get_other (y ∷ xs) zero (suc j) x differs = refl
get_other (y ∷ xs) (suc i) zero x differs = refl
get_other (y ∷ xs) (suc i) (suc j) x differs = get_other xs i j x (λ e. differs (ap suc e))

long_event : (events : List ℕ) (call event : ℕ) → length (set_event events call event) ≡ length events
long_event events zero event = refl
long_event events (suc k) event = long_set events k event

same_event : (events : List ℕ) (call event k : ℕ) → call ≡ suc k → k < length events → get_or (set_event events call event) k 0 ≡ event
same_event events zero event k is l = absurd cc
same_event events (suc i) event k is l =
    let at : i ≡ k = omega (arith, is) in subst (λ (n : ℕ). get_or (slice_set events n event) k 0 ≡ event) (sym at) (get_same events k event l)

other_event : (events : List ℕ) (call event k : ℕ) → (call ≡ suc k → ⊥) → get_or (set_event events call event) k 0 ≡ get_or events k 0
other_event events zero event k differs = refl
other_event events (suc i) event k differs = get_other events i k event (λ e. differs (ap suc e))

replied_first : (count : ℕ) (line : ReplyLine) (rest : List ReplyLine) (events : List ℕ) → HasReplyEvents count rest events
    → HasReplyEvents count (line ∷ rest) (set_event events line.call line.event)
replied_first count line rest events h = record { long = long_event events line.call line.event ∙ h.long; each = each } where
  each : (k : ℕ) → k < count → get_or (set_event events line.call line.event) k 0 ≡ event_of_reply (line ∷ rest) (k + 1)
  each k l = by (cases_eq line.call (k + 1)) where
    by : (line.call ≡ k + 1) ⊎ (line.call ≡ k + 1 → ⊥) → get_or (set_event events line.call line.event) k 0 ≡ event_of_reply (line ∷ rest) (k + 1)
    by (inl same) =
        let up : line.call ≡ suc k = omega (arith, same) in
        let is : (line.call == k + 1) ≡ true = eq-eqb line.call (k + 1) same in
        let long = h.long in
        same_event events line.call line.event k up (omega (arith, l, long))
        ∙ ap (λ (b : Bool). if b then line.event else event_of_reply rest (k + 1)) (sym is)
    by (inr differs) =
        let is : (line.call == k + 1) ≡ false = ne_eqb line.call (k + 1) differs in
        other_event events line.call line.event k (λ e. differs (omega (arith, e))) ∙ h.each k l
        ∙ ap (λ (b : Bool). if b then line.event else event_of_reply rest (k + 1)) (sym is)

pub replied_more : (count : ℕ) (lines : List ReplyLine) (back : ℕ) (line : ReplyLine) (events : List ℕ) → back < length lines
    → line ≡ get_or lines (length lines - 1 - back) line → HasReplyEvents count (drop (length lines - back) lines) events
    → HasReplyEvents count (drop (length lines - (back + 1)) lines) (set_event events line.call line.event)
replied_more count lines back line events within read h =
    let at : length lines - (back + 1) ≡ length lines - 1 - back = omega arith in
    let next : length lines - back ≡ length lines - 1 - back + 1 = omega (arith, within) in
    let first : drop (length lines - 1 - back) lines ≡ line ∷ drop (length lines - 1 - back + 1) lines =
    drop_more lines (length lines - 1 - back) line (omega (arith, within)) ∙ ap (λ (x : ReplyLine). x ∷ drop (length lines - 1 - back + 1) lines) (sym read) in
    let rest : HasReplyEvents count (drop (length lines - 1 - back + 1) lines) events = subst (λ (n : ℕ). HasReplyEvents count (drop n lines) events) next h in
    subst (λ (n : ℕ). HasReplyEvents count (drop n lines) (set_event events line.call line.event)) (sym at)
    (subst (λ (l : List ReplyLine). HasReplyEvents count l (set_event events line.call line.event)) (sym first)
    (replied_first count line (drop (length lines - 1 - back + 1) lines) events rest))
