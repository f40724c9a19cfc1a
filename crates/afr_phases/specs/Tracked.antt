-- What is known of a phase that was sent to all replicas that are not out: who is not out was asked and has not answered,
-- or has confirmed. So once each has answered, those who are not out are exactly those who have confirmed.
use Rattle.std.specs.Prelude.{◌≡◌, ℕ, ◌<◌, true, false, ◌&&◌, ◌||◌, not, nat_lt, length}
use Rattle.fop_types.specs.declared.messages.BrickRep.{BrickRep}
use Rattle.afr_phases.specs.declared.outs.Outs.{Outs}
use Rattle.afr_phases.specs.declared.wave.Wave.{Wave}
use Rattle.afr_phases.specs.Flags.{flag, names, mask_of, outside}
use Rattle.afr_phases.specs.Outs.{used}
use Rattle.afr_phases.specs.Waves.{is_asked, is_over, sent_to, taken}
use Rattle.afr_phases.specs.Answers.{is_plain_done}
use Rattle.afr_phases.specs.Hearing.{heard}

-- there are five places in each list; those that are not out were asked or have confirmed; and not both
pub record IsTracked (n : ℕ) (outs : Outs) (wave : Wave) : Type 0 where
  pub outs_places : length outs.at ≡ 5
  pub asked_places : length wave.asked ≡ 5
  pub confirmed_places : length wave.confirmed ≡ 5
  pub used_are : (k : ℕ) → k < 5 → flag (used outs n) k ≡ (is_asked wave k || flag wave.confirmed k)
  pub asked_are : (k : ℕ) → is_asked wave k ≡ true → flag wave.confirmed k ≡ false

-- a phase that begins
abbrev pub SentIsTracked : Type 0
SentIsTracked = (n : ℕ) (outs : Outs) → length outs.at ≡ 5 → IsTracked n outs (sent_to (used outs n))

-- each answer keeps it
abbrev pub HeardIsTracked : Type 0
HeardIsTracked = (n k mark : ℕ) (rep : BrickRep) (outs : Outs) (wave : Wave) → k < 5 → is_asked wave k ≡ true → IsTracked n outs wave
    → IsTracked n (heard outs k rep mark) (taken wave k (is_plain_done rep))

-- once each has answered, a mask of those outside names exactly the replicas of the set that have not confirmed
abbrev pub OutsideAreUnconfirmed : Type 0
OutsideAreUnconfirmed = (n : ℕ) (outs : Outs) (wave : Wave) → IsTracked n outs wave → is_over wave ≡ true
    → (k : ℕ) → k < 5 → names (mask_of (outside n (used outs n))) k ≡ (nat_lt k n && not (flag wave.confirmed k))
