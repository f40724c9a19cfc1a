-- What each kind of step on a word tells the pass that makes it: of the step, the pass's view before, the word
-- found, and the view after.
use Rattle.std.specs.Prelude.{◌≡◌, ◌≢◌, ℕ, ◌≤◌}
use Rattle.atomic_table.specs.Table.{Me, Step}
use Rattle.xlator_law.specs.declared.winds.WindNo.{WindNo}
use Rattle.wind_words.specs.declared.view.View.{View}
use Rattle.wind_words.specs.Word.{free_at, pending_at, replied_at, bailed_at}
use Rattle.wind_words.specs.Winds.{wind, times, turn_after}
use Rattle.wind_words.specs.Calls.{IsShown, with_opened, with_collected, with_lost}

abbrev pub opens : {S : Type 0} → Step S → Me S View → ℕ → Me S View → Type 0
opens st m found n = (found ≡ free_at (turn_after st.word m.0.collected))
    × (times (wind st.word (turn_after st.word m.0.collected)) m.0.opened ≡ 0)
    × (n ≡ (with_opened m.0 (wind st.word (turn_after st.word m.0.collected)), m.1))

-- a word that was pending ends as replied, or as bailed
abbrev pub ends : {S : Type 0} → (View → WindNo → View) → Step S → Me S View → ℕ → Me S View → Type 0
ends with_end st m found n = (turn : ℕ) → st.first ≡ pending_at turn
    → IsShown m.0 (wind st.word turn) found
    × (found ≡ st.first → n ≡ (with_end m.0 (wind st.word turn), m.1))
    × (found ≢ st.first → n ≡ (with_lost m.0 (wind st.word turn) found, m.1))

-- a word that was replied is collected; one that was bailed is left for a step of its own
abbrev pub collects_replied : {S : Type 0} → Step S → Me S View → ℕ → Me S View → Type 0
collects_replied st m found n = (turn : ℕ) → st.first ≡ replied_at turn
    → IsShown m.0 (wind st.word turn) found
    × (found ≡ replied_at turn → n ≡ (with_collected m.0 (wind st.word turn), m.1))
    × (found ≡ bailed_at turn → n ≡ m)
    × (found ≢ replied_at turn → found ≢ bailed_at turn → n ≡ (with_lost m.0 (wind st.word turn) found, m.1))

abbrev pub collects_bailed : {S : Type 0} → Step S → Me S View → ℕ → Me S View → Type 0
collects_bailed st m found n = (turn : ℕ) → st.first ≡ bailed_at turn
    → (found ≡ bailed_at turn) × (n ≡ (with_collected m.0 (wind st.word turn), m.1))

-- a load: nothing changes, and no wind was won twice by the pass
abbrev pub looks : {S : Type 0} → Step S → Me S View → ℕ → Me S View → Type 0
looks st m found n = (n ≡ m) × ((w : WindNo) → times w m.0.won ≤ 1)
