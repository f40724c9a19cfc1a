-- The sessions that have a line in the phase.
use Rattle.std.proofs.Common.{◌≡◌, ℕ, ◌+◌, ◌<◌, ◌≤◌, ◌-◌, ◌==◌, nat_lt, Bool, true, false, ◌&&◌, ◌||◌, List, [], length, min, slice_get, Option, sym, ap, ◌∙◌, arith, if◌then◌else◌}
use Rattle.std.proofs.lemmas.List.{get_or_past}
use Rattle.mount_log.specs.declared.places.LineAt.{LineAt}
use Rattle.hub_tables.specs.declared.small_set.SmallSet.{SmallSet}
use Rattle.hub_tables.specs.SmallSets.{no_numbers, has, Adds, Drops, numbers, numbers_where, is_among}
use Rattle.hub_tables.specs.Sessions.{ProgressState, has_line, is_of_phase, after_submission, after_reply}
use Rattle.hub_tables.proofs.Numbers.{numbers_with, numbers_without}
use Rattle.hub_tables.proofs.SetsWhere.{none_below, next_below, skipped_below, all_below}

-- of the sessions below this number the set has those with a line, and no other
abbrev pub AreWithLine : List (List LineAt) → ℕ → ℕ → SmallSet → Type 0
AreWithLine lines phase n set = (session : ℕ) → session < 64 → has set session ≡ (nat_lt session n && has_line lines phase session)

pub with_none : (lines : List (List LineAt)) (phase : ℕ) → AreWithLine lines phase 0 no_numbers
with_none lines phase = none_below (has_line lines phase)

pub with_next : (lines : List (List LineAt)) (phase : ℕ) (n : ℕ) (old new : SmallSet) → has_line lines phase n ≡ true → AreWithLine lines phase n old → Adds old n new → AreWithLine lines phase (n + 1) new
with_next lines phase = next_below (has_line lines phase)

pub with_skipped : (lines : List (List LineAt)) (phase : ℕ) (n : ℕ) (set : SmallSet) → has_line lines phase n ≡ false → AreWithLine lines phase n set → AreWithLine lines phase (n + 1) set
with_skipped lines phase = skipped_below (has_line lines phase)

past_none : (lines : List (List LineAt)) (phase : ℕ) (session : ℕ) → length lines ≤ session → has_line lines phase session ≡ false
past_none lines phase session past = ap (λ (queue : List LineAt). is_of_phase phase (slice_get queue 0)) (get_or_past lines session [] past)

pub with_all : (lines : List (List LineAt)) (phase : ℕ) (n : ℕ) (set : SmallSet) → min (length lines) 64 ≤ n → AreWithLine lines phase n set → (session : ℕ) → session < 64 → has set session ≡ has_line lines phase session
with_all lines phase n set all = all_below (has_line lines phase) n set (λ k low past. past_none lines phase k (omega arith))

-- ---- submissions and replies

pub submission_is : (phase unanswered : ℕ) (old new : SmallSet) (session : ℕ) → Drops old session new
    → ◌≡◌ {A = ProgressState} (record { phase = phase; ready = numbers new; unanswered = unanswered }) (after_submission (record { phase = phase; ready = numbers old; unanswered = unanswered }) session)
submission_is phase unanswered old new session drops = ap (λ (ready : List ℕ). record { phase = phase; ready = ready; unanswered = unanswered }) (numbers_without old new session drops)

pub reply_is : (next : ℕ → Option LineAt) (phase unanswered left : ℕ) (old new : SmallSet) (session : ℕ) → is_of_phase phase (next session) ≡ true → left ≡ unanswered - 1 → Adds old session new
    → ◌≡◌ {A = ProgressState} (record { phase = phase; ready = numbers new; unanswered = left }) (after_reply next (record { phase = phase; ready = numbers old; unanswered = unanswered }) session)
reply_is next phase unanswered left old new session more one adds =
    ap (λ (ready : List ℕ). record { phase = phase; ready = ready; unanswered = left }) (numbers_with old new session adds)
    ∙ ap (λ (n : ℕ). record { phase = phase; ready = numbers_where (λ s. (session == s) || is_among s (numbers old)); unanswered = n }) one
    ∙ sym (ap (λ (b : Bool). record { phase = phase; ready = if b then numbers_where (λ s. (session == s) || is_among s (numbers old)) else numbers old; unanswered = unanswered - 1 }) more)
