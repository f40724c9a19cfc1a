-- What is read of a journal, and of bytes that are one message.
use Rattle.std.proofs.Common.{◌≡◌, ◌≢◌, refl, sym, ap, ◌∙◌, arith}
use Rattle.std.specs.Prelude.{ℕ, ◌+◌, ◌-◌, ◌≤◌, ◌<◌, List, Option, None, Some, slice_get, IfNone}
use Rattle.fop_types.specs.declared.messages.BrickRep.TheVariants.{Done}
use Rattle.fop_types.specs.declared.messages.DoneArm.TheVariants.{Nothing}
use Rattle.fop_types.specs.declared.messages.Input.{Input}
use Rattle.fop_types.specs.declared.messages.OutKind.{OutKind}
use Rattle.fop_types.specs.declared.messages.OutKind.TheVariants.{Reply}
use Rattle.fop_types.specs.declared.messages.Output.{Output}
use Rattle.wire_xdr.specs.WireText.{input_text, output_text, IsInput, IsOutput}
use Rattle.wire_messages.specs.Messages.{input_in, output_in}
use Rattle.wire_messages.specs.declared.messages.Message.{Message}
use Rattle.wire_messages.specs.declared.messages.Message.TheVariants.{Whole}
use Rattle.wire_messages.proofs.ReadBack.{input_read_back, output_read_back}
use Rattle.brick_machine.specs.Journal.{Journal}
use Rattle.mount_log.proofs.Items.{some_is}
use Rattle.fop_types.specs.Bounds.{IsHyper}
use Rattle.change_audit.specs.Journals.{IsInputOf}
use Rattle.change_audit.specs.Served.{done_text, IsDoneOf}
use Rattle.change_audit.specs.declared.answers.Answering.{Answering}

-- ---- journals

module _ (bricks : List Journal) (brick taken : ℕ) where
  pub none_counted : taken ≡ 0 → (bytes : List ℕ) → IsInputOf bricks brick taken bytes → ⊥
  none_counted zero_is bytes i = let counted = i.counted in absurd (omega (arith, zero_is, counted))

  pub no_journal : None ≡ slice_get bricks brick → (bytes : List ℕ) → IsInputOf bricks brick taken bytes → ⊥
  no_journal none bytes i = let there = i.there in absurd cc

  pub no_input : (at : Journal) → Some at ≡ slice_get bricks brick → None ≡ slice_get at.journal (taken - 1) → (bytes : List ℕ) → IsInputOf bricks brick taken bytes → ⊥
  no_input at here none bytes i =
      let counted = i.counted in let place : i.place ≡ taken - 1 = omega (arith, counted) in
      let same : i.at ≡ at = some_is i.at at (sym i.there ∙ sym here) in
      let there : Some bytes ≡ slice_get at.journal (taken - 1) =
      sym i.input ∙ ap (λ (j : Journal). slice_get j.journal i.place) same ∙ ap (slice_get at.journal) place in
      absurd cc

-- ---- messages

one_message : {A : Type 0} (a b : A) → ◌≡◌ {A = Message A} (Whole a) (Whole b) → a ≡ b
one_message a b e = cc

-- no two inputs have the same encoding
pub one_input : (x y : Input) → IsInput x → IsInput y → input_text x ≡ input_text y → x ≡ y
one_input x y legal other same = one_message x y (sym (input_read_back x legal) ∙ ap input_in same ∙ input_read_back y other)

-- the input that bytes are is each one that they encode
pub that_input : (input x : Input) (bytes : List ℕ) → bytes ≡ input_text input → IsInput input → IsInput x → bytes ≡ input_text x → input ≡ x
that_input input x bytes text legal other is = one_input input x legal other (sym text ∙ is)

pub one_output : (x y : Output) → IsOutput x → IsOutput y → output_text x ≡ output_text y → x ≡ y
one_output x y legal other same = one_message x y (sym (output_read_back x legal) ∙ ap output_in same ∙ output_read_back y other)

-- ---- what a brick answers Done

pub legal_done : (taken wind : ℕ) → IsHyper taken → IsHyper wind → IsOutput (record { taken = taken; kind = Reply wind (Done Nothing) })
legal_done taken wind low low_wind = (low, (low_wind, tt))

-- the output that bytes are is the Done that they encode
is_that : (output : Output) (bytes : List ℕ) (taken wind : ℕ) → bytes ≡ output_text output → IsOutput output → IsHyper taken → IsHyper wind → bytes ≡ done_text taken wind → IsDoneOf taken wind output
is_that output bytes taken wind text legal low low_wind done =
    let same : output ≡ record { taken = taken; kind = Reply wind (Done Nothing) } = one_output output (record { taken = taken; kind = Reply wind (Done Nothing) }) legal (legal_done taken wind low low_wind) (sym text ∙ done) in
    record { taken_is = ap (λ (o : Output). o.taken) same; kind_is = ap (λ (o : Output). o.kind) same }

pub no_done : (output : Output) (bytes : List ℕ) (found : Option Answering) → bytes ≡ output_text output → IsOutput output → IfNone found ((taken wind : ℕ) → IsDoneOf taken wind output → ⊥)
    → IfNone found ((taken wind : ℕ) → IsHyper taken → IsHyper wind → bytes ≢ done_text taken wind)
no_done output bytes None text legal none = λ taken wind low low_wind done. none taken wind (is_that output bytes taken wind text legal low low_wind done)
no_done output bytes (Some done) text legal none = tt

-- two Dones of the same encoding
pub one_done : (taken wind other other_wind : ℕ) → IsHyper taken → IsHyper wind → IsHyper other → IsHyper other_wind → done_text taken wind ≡ done_text other other_wind → (taken ≡ other) × (wind ≡ other_wind)
one_done taken wind other other_wind low low_wind other_low other_low_wind same =
    let is = is_that (record { taken = taken; kind = Reply wind (Done Nothing) }) (done_text other other_wind) other other_wind (sym same) (legal_done taken wind low low_wind) other_low other_low_wind refl in
    (is.taken_is, wind_of is.kind_is) where
      wind_of : ◌≡◌ {A = OutKind} (Reply wind (Done Nothing)) (Reply other_wind (Done Nothing)) → wind ≡ other_wind
      wind_of e = cc
