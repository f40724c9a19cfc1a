-- The rule of the words: what the views of all passes hold of each wind, by the word of its slot. It is true
-- between any two steps, whatever the schedule. Ours.
use Rattle.std.specs.Prelude.{◌≡◌, ℕ, ◌+◌, ◌≤◌, Bool, false, List, [], ◌∷◌, length}
use Rattle.xlator_law.specs.declared.winds.WindNo.{WindNo}
use Rattle.wind_words.specs.declared.view.View.{View}
use Rattle.wind_words.specs.declared.view.Loss.{Loss}
use Rattle.wind_words.specs.declared.view.Role.{Role}
use Rattle.wind_words.specs.declared.view.Role.TheVariants.{Hub, Reader, Spent}
use Rattle.wind_words.specs.Word.{word_of, once_from, free_at, pending_at, replied_at, bailed_at}
use Rattle.wind_words.specs.Winds.{times, highest_seen}

-- What the hub's own lists hold of a wind where its slot has this word. A wind is opened when the word comes
-- to be pending at its turn, and collected when the word comes to the next turn; the word is bailed exactly
-- where the hub bailed the wind.
pub record IsHubs (hub : View) (w : WindNo) (word : ℕ) : Type 0 where
  pub opened : times w hub.opened ≡ once_from (pending_at w.turn) word
  pub collected : times w hub.collected ≡ once_from (free_at (w.turn + 1)) word
  pub bailed_late : times w hub.bailed ≤ once_from (bailed_at w.turn) word
  pub bailed : word ≡ bailed_at w.turn → (times w hub.bailed ≡ 1) × (times w hub.won ≡ 1)

-- how often views have won the wind, together
abbrev pub won_by : WindNo → List View → ℕ
won_by w [] = 0
won_by w (v ∷ vs) = times w v.won + won_by w vs

-- A wind is won once by all views together, when the word comes to be replied or bailed at its turn.
pub record IsCounted (hub : View) (others : List View) (w : WindNo) (word : ℕ) : Type 0 where
  pub hubs : IsHubs hub w word
  pub won : times w hub.won + won_by w others ≡ once_from (replied_at w.turn) word

-- each word has come at least as far as the losses of its slot saw it
abbrev pub WereSeen : List ℕ → List Loss → Type 0
WereSeen words losses = (slot : ℕ) → highest_seen slot losses ≤ word_of words slot

-- A view that is not the hub's: there is no reader while the hub is alone, and a spent view is empty.
abbrev pub IsOther : List ℕ → Bool → View → Role → Type 0
IsOther words alone v Hub = ⊥
IsOther words alone v Reader = (alone ≡ false) × WereSeen words v.lost
IsOther words alone v Spent = (v.won ≡ []) × (v.lost ≡ [])

abbrev pub AreOthers : List ℕ → Bool → List View → Type 0
AreOthers words alone [] = Unit {0}
AreOthers words alone (v ∷ vs) = IsOther words alone v v.role × AreOthers words alone vs

pub record Keeps (count : ℕ) (words : List ℕ) (hub : View) (others : List View) : Type 0 where
  pub sized : length words ≡ count
  pub is_hub : hub.role ≡ Hub
  pub counted : (w : WindNo) → IsCounted hub others w (word_of words w.slot)
  pub seen : WereSeen words hub.lost
  pub others_keep : AreOthers words hub.alone others

-- the first view is the hub's
abbrev pub WordRule : ℕ → List ℕ → List View → Type 0
WordRule count words [] = ⊥
WordRule count words (hub ∷ others) = Keeps count words hub others

-- In whatever state the words are, each wind was opened, won and collected at most once, by all passes
-- together.
abbrev pub WonOnce : Type 0
WonOnce = (count : ℕ) (words : List ℕ) (hub : View) (others : List View) (w : WindNo) → WordRule count words (hub ∷ others)
    → (times w hub.opened ≤ 1) × (times w hub.won + won_by w others ≤ 1) × (times w hub.collected ≤ 1)
