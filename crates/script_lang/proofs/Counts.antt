-- Words that are too many or too few.
use Rattle.std.proofs.Common.{◌≡◌, ℕ, ◌≤◌, ◌<◌, List, [], ◌∷◌, length, map, Err, refl, arith}
use Rattle.script_lang.specs.CallText.{call_at, misfit}
use Rattle.script_lang.specs.ControlText.{action_at, no_action, before_at, after_at}
use Rattle.script_lang.specs.StatementText.{brick_read, call_read}
use Rattle.script_lang.specs.declared.drafts.Draft.{Draft}
use Rattle.script_lang.specs.declared.errors.ScriptKind.TheVariants.{WordCount}
use Rattle.volfile.specs.declared.brick_lines.BrickLine.{BrickLine}
use Rattle.script_lang.specs.declared.scripts.NamedVolfile.{NamedVolfile}

module _ {A : Type 0} (f : A → List ℕ) where
  pub too_many_words : (word : List ℕ) (ws : List A) → 4 ≤ length ws → Err (misfit word) ≡ call_at word (map f ws)
  too_many_words word [] many = absurd (omega (arith, many))
  too_many_words word (a ∷ []) many = absurd (omega (arith, many))
  too_many_words word (a ∷ b ∷ []) many = absurd (omega (arith, many))
  too_many_words word (a ∷ b ∷ c ∷ []) many = absurd (omega (arith, many))
  too_many_words word (a ∷ b ∷ c ∷ d ∷ ws) many = refl

  pub too_many_for_action : (bricks : List BrickLine) (volfiles : List NamedVolfile) (word : List ℕ) (ws : List A) → 4 ≤ length ws → Err (no_action word) ≡ action_at bricks volfiles word (map f ws)
  too_many_for_action bricks volfiles word [] many = absurd (omega (arith, many))
  too_many_for_action bricks volfiles word (a ∷ []) many = absurd (omega (arith, many))
  too_many_for_action bricks volfiles word (a ∷ b ∷ []) many = absurd (omega (arith, many))
  too_many_for_action bricks volfiles word (a ∷ b ∷ c ∷ []) many = absurd (omega (arith, many))
  too_many_for_action bricks volfiles word (a ∷ b ∷ c ∷ d ∷ ws) many = refl

  pub too_few_before : (bricks : List BrickLine) (volfiles : List NamedVolfile) (ws : List A) → length ws < 4 → Err WordCount ≡ before_at bricks volfiles (map f ws)
  too_few_before bricks volfiles [] few = refl
  too_few_before bricks volfiles (a ∷ []) few = refl
  too_few_before bricks volfiles (a ∷ b ∷ []) few = refl
  too_few_before bricks volfiles (a ∷ b ∷ c ∷ []) few = refl
  too_few_before bricks volfiles (a ∷ b ∷ c ∷ d ∷ ws) few = absurd (omega (arith, few))

  pub too_few_after : (bricks : List BrickLine) (volfiles : List NamedVolfile) (ws : List A) → length ws < 4 → Err WordCount ≡ after_at bricks volfiles (map f ws)
  too_few_after bricks volfiles [] few = refl
  too_few_after bricks volfiles (a ∷ []) few = refl
  too_few_after bricks volfiles (a ∷ b ∷ []) few = refl
  too_few_after bricks volfiles (a ∷ b ∷ c ∷ []) few = refl
  too_few_after bricks volfiles (a ∷ b ∷ c ∷ d ∷ ws) few = absurd (omega (arith, few))

  pub too_few_for_call : (d : Draft) (number : ℕ) (ws : List A) → length ws < 2 → Err WordCount ≡ call_read d number (map f ws)
  too_few_for_call d number [] few = refl
  too_few_for_call d number (a ∷ []) few = refl
  too_few_for_call d number (a ∷ b ∷ ws) few = absurd (omega (arith, few))

  pub too_few_for_brick : (d : Draft) (ws : List A) → length ws < 3 → Err WordCount ≡ brick_read d (map f ws)
  too_few_for_brick d [] few = refl
  too_few_for_brick d (a ∷ []) few = refl
  too_few_for_brick d (a ∷ b ∷ []) few = refl
  too_few_for_brick d (a ∷ b ∷ c ∷ ws) few = absurd (omega (arith, few))
