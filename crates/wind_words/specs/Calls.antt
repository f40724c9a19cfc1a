-- What a pass is to its holder, and what each call makes of it. Ours.
use Rattle.std.specs.Prelude.{◌≡◌, ◌≢◌, ℕ, ◌+◌, ◌<◌, ◌≤◌, ◌⊎◌, Bool, true, false, [], ◌∷◌, ◌++◌}
use Rattle.atomic_table.specs.Seated.{TableId}
use Rattle.xlator_law.specs.declared.winds.WindNo.{WindNo}
use Rattle.xlator_law.specs.declared.winds.Settled.{Settled}
use Rattle.xlator_law.specs.declared.winds.Settled.TheVariants.{Won, Lost}
use Rattle.wind_words.specs.declared.view.View.{View}
use Rattle.wind_words.specs.declared.view.Role.TheVariants.{Hub, Reader, Spent}
use Rattle.wind_words.specs.Word.{once_from, pending_at, replied_at, bailed_at}
use Rattle.wind_words.specs.Winds.{wind, times, turn_after, highest_seen}
use Rattle.wind_words.specs.Rule.{IsHubs}

-- the words that a pass is of, and what it knows
pub record Pass : Type 0 where
  pub words : TableId
  pub view : View

-- the hub's view at the start, and a reader's
abbrev pub first_hub : View
first_hub = record { role = Hub; won = []; lost = []; opened = []; bailed = []; collected = []; alone = true }

abbrev pub new_reader : View
new_reader = record { role = Reader; won = []; lost = []; opened = []; bailed = []; collected = []; alone = false }

abbrev pub spent_view : View
spent_view = record { role = Spent; won = []; lost = []; opened = []; bailed = []; collected = []; alone = false }

abbrev pub with_opened : View → WindNo → View
with_opened v w = record v { opened = v.opened ++ w ∷ [] }

abbrev pub with_won : View → WindNo → View
with_won v w = record v { won = v.won ++ w ∷ [] }

abbrev pub with_bailed : View → WindNo → View
with_bailed v w = record v { won = v.won ++ w ∷ []; bailed = v.bailed ++ w ∷ [] }

abbrev pub with_collected : View → WindNo → View
with_collected v w = record v { collected = v.collected ++ w ∷ [] }

abbrev pub with_lost : View → WindNo → ℕ → View
with_lost v w word = record v { lost = v.lost ++ record { wind = w; word = word } ∷ [] }

-- a pass was split off
abbrev pub with_reader : View → View
with_reader v = record v { alone = false }

-- a pass took in what another one won and lost
abbrev pub joined : View → View → View
joined v u = record v { won = v.won ++ u.won; lost = v.lost ++ u.lost }

abbrev pub with_view : Pass → View → Pass
with_view pass v = record pass { view = v }

-- a pass of the same words, and as much the hub's or a reader's as before
pub record IsSamePass (old new : Pass) : Type 0 where
  pub words : new.words ≡ old.words
  pub role : new.view.role ≡ old.view.role

-- What a word that a pass sees shows of its own lists. A word only rises, so it is no lower than the pass saw it
-- before.
pub record IsShown (v : View) (w : WindNo) (word : ℕ) : Type 0 where
  pub won : times w v.won ≤ once_from (replied_at w.turn) word
  pub seen : highest_seen w.slot v.lost ≤ word
  pub hubs : v.role ≡ Hub → IsHubs v w word
  -- while there is no other pass, a wind that was settled was settled by the hub
  pub alone : v.role ≡ Hub → v.alone ≡ true → times w v.won ≡ once_from (replied_at w.turn) word

-- The slot is new or its last turn was collected, and a turn is left.
pub record IsFree (v : View) (slot : ℕ) : Type 0 where
  pub collected : (turn : ℕ) → times (wind slot turn) v.opened ≡ times (wind slot turn) v.collected
  pub left : turn_after slot v.collected < 4294967295

-- no wind of this slot or of a later one was opened
abbrev pub IsUnusedFrom : View → ℕ → Type 0
IsUnusedFrom v slot = (later turn : ℕ) → slot ≤ later → times (wind later turn) v.opened ≡ 0

-- The wind is of the slot's next turn, and was never opened before.
pub record Opens (old : Pass) (slot : ℕ) (w : WindNo) (new : Pass) : Type 0 where
  pub next : w ≡ wind slot (turn_after slot old.view.collected)
  pub first : times w old.view.opened ≡ 0
  pub view : new ≡ with_view old (with_opened old.view w)

-- Won exactly where the word at this step was pending for the wind's turn; else the word is reported.
abbrev pub Ends : (View → WindNo → View) → Pass → WindNo → Settled → Pass → Type 0
Ends with_end old w Won new = IsShown old.view w (pending_at w.turn) × (new ≡ with_view old (with_end old.view w))
Ends with_end old w (Lost word) new = (word ≢ pending_at w.turn) × IsShown old.view w word × (new ≡ with_view old (with_lost old.view w word))

abbrev pub Settles : Pass → WindNo → Settled → Pass → Type 0
Settles = Ends with_won

abbrev pub Bails : Pass → WindNo → Settled → Pass → Type 0
Bails = Ends with_bailed

-- true exactly where the word at this step was replied or bailed for the wind's turn
abbrev pub Collects : Pass → WindNo → Bool → Pass → Type 0
Collects old w true new = (word : ℕ) × ((word ≡ replied_at w.turn) ⊎ (word ≡ bailed_at w.turn)) × IsShown old.view w word
    × (new ≡ with_view old (with_collected old.view w))
Collects old w false new = (word : ℕ) × ((word ≢ replied_at w.turn) × (word ≢ bailed_at w.turn)) × IsShown old.view w word
    × (new ≡ with_view old (with_lost old.view w word))

-- The hub opened the wind, and did not collect it.
pub record IsOpen (v : View) (w : WindNo) : Type 0 where
  pub hub : v.role ≡ Hub
  pub opened : times w v.opened ≡ 1
  pub collected : times w v.collected ≡ 0

-- The hub knows that an open wind has ended: it won it, or saw that its word had gone beyond pending.
pub record KnowsEnd (v : View) (w : WindNo) : Type 0 where
  pub is_open : IsOpen v w
  pub ended : (times w v.won ≡ 1) ⊎ (pending_at w.turn < highest_seen w.slot v.lost)

-- no wind was won by both passes, nor twice by one
abbrev pub AreApart : View → View → Type 0
AreApart v u = (w : WindNo) → times w v.won + times w u.won ≤ 1
