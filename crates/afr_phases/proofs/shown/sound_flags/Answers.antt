use Rattle.std.proofs.Common.{◌≡◌, ℕ, ◌∙◌, Bool, List, [], ◌∷◌}
use Rattle.afr_phases.specs.Flags.{names}
use Rattle.afr_phases.specs.Shown.{is_sound}
use Rattle.afr_phases.proofs.Sound.{named_is}
use Rattle.afr_phases.proofs.shown.sound_flags.Goals as goal

five_same : (a b c d e f g h i j : Bool) → a ≡ f → b ≡ g → c ≡ h → d ≡ i → e ≡ j → ◌≡◌ {A = List Bool} (a ∷ b ∷ c ∷ d ∷ e ∷ []) (f ∷ g ∷ h ∷ i ∷ j ∷ [])
five_same a b c d e f g h i j p q r s t = cc

pub returns : goal.returns
returns c =
    let is : (k : ℕ) → names c.sound.result k ≡ is_sound c.args.rows.now c.args.n c.args.q k = λ k. named_is c.args.rows.now c.args.n c.args.q k c.sound.result (c.sound.ensures.sound k) in
    c.flags_of.ensures ∙ five_same _ _ _ _ _ _ _ _ _ _ (is 0) (is 1) (is 2) (is 3) (is 4)
