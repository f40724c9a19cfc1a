-- The fault lines of a replay, and the text of which it speaks.
use Rattle.std.proofs.Common.{◌≡◌, ◌⊎◌, inl, inr, ◌<◌, ◌≤◌, refl, subst, ◌∙◌, arith}
use Rattle.std.specs.Prelude.{ℕ, List, Option, None, Some, IfSome, codes, length, replicate}
use Rattle.std.proofs.lemmas.List.{length-replicate}
use Rattle.std.specs.Io.KnownBytes.{Appends}
use Rattle.xl_base.specs.Writes.{WrotePrefix}
use Rattle.script_lang.specs.declared.errors.ScriptKind.TheVariants.{TooLong}
use Rattle.script_commands.specs.Readings.{IsRead}
use Rattle.script_commands.specs.Refusals.{fault_of, fault_text}
use Rattle.script_commands.specs.Replays.{IsReplayFault, IsSaying}
use Rattle.script_commands.specs.Replays.IsReplayFault.{TooLong as IsTooLong, NoReport, BadScript, BadReport}
use Rattle.script_commands.specs.Verdicts.{VerdictIsWritten, VerdictIsCutShort, FaultIsWritten, FaultIsCutShort}
use Rattle.script_commands.specs.declared.refusals.Refusal.{Refusal}
use Rattle.script_commands.specs.declared.replaying.Replayed.{Replayed}
use Rattle.script_commands.specs.declared.replaying.Replayed.TheVariants as replayed
use Rattle.script_commands.specs.declared.refusals.Refusal.TheVariants.{OfScript}

-- ---- what a replay says is the fault of its text
pub no_report : (text : List ℕ) (said : Replayed) (lines : ℕ) → length text ≤ 4294967295 → IsSaying text said → said ≡ replayed.NoReport lines → IsReplayFault text (fault_of lines (codes "NoReport"))
no_report text said lines few h is = NoReport lines few (subst (IsSaying text) is h) refl

pub bad_script : (text : List ℕ) (said : Replayed) (refusal : Refusal) → length text ≤ 4294967295 → IsSaying text said → said ≡ replayed.Refused refusal → IsReplayFault text (fault_text refusal)
bad_script text said refusal few h is = BadScript refusal few (subst (IsSaying text) is h) refl

pub bad_report : (text : List ℕ) (said : Replayed) (line : ℕ) → length text ≤ 4294967295 → IsSaying text said → said ≡ replayed.BadReport line → IsReplayFault text (fault_of line (codes "BadReport"))
bad_report text said line few h is = BadReport line few (subst (IsSaying text) is h) refl

module _ (taken taken_after : Option (List ℕ)) (text fault : List ℕ) (is_fault : IsReplayFault text fault) where
  pub fault_written : Appends taken taken_after fault → FaultIsWritten (Some text) taken taken_after
  fault_written wrote = record { text = text; fault = fault; is_text = refl; is_fault = is_fault; wrote = wrote }

  pub fault_unwritten : WrotePrefix taken taken_after fault → VerdictIsCutShort (Some text) taken taken_after ⊎ FaultIsCutShort (Some text) taken taken_after
  fault_unwritten wrote = inr (record { text = text; fault = fault; is_text = refl; is_fault = is_fault; wrote = wrote })

-- ---- the text that was read
-- the text that the source shows is the text that was read
read_from : (known : Option (List ℕ)) (text slice other : List ℕ) → IfSome known (λ bytes. text ≡ bytes) → slice ≡ text → other ≡ slice → IsRead known other
read_from None text slice other is same read = record {}
read_from (Some bytes) text slice other is same read = read ∙ same ∙ is

-- a text of more than 4,294,967,295 bytes
record HasLongText (known : Option (List ℕ)) : Type 0 where
  pub text : List ℕ
  pub is_text : IsRead known text
  pub long : 4294967295 < length text

some_long : (n : ℕ) → 4294967295 < n → HasLongText None
some_long n long = record { text = replicate n 0; is_text = record {}; long = (let l = length-replicate {A = ℕ} n 0 in omega (arith, long, l)) }

long_text : (known : Option (List ℕ)) → IfSome known (λ bytes. 4294967295 < length bytes) → HasLongText known
long_text None long = some_long 4294967296 (omega arith)
long_text (Some bytes) long = record { text = bytes; is_text = refl; long = long }

module _ (known taken taken_after : Option (List ℕ)) where
  pub too_long_line : IfSome known (λ bytes. 4294967295 < length bytes) → Appends taken taken_after (fault_text (OfScript 0 TooLong)) → FaultIsWritten known taken taken_after
  too_long_line long wrote =
      let t = long_text known long in
      record { text = t.text; fault = fault_text (OfScript 0 TooLong); is_text = t.is_text; is_fault = IsTooLong t.long refl; wrote = wrote }

  pub too_long_short : IfSome known (λ bytes. 4294967295 < length bytes) → WrotePrefix taken taken_after (fault_text (OfScript 0 TooLong))
      → VerdictIsCutShort known taken taken_after ⊎ FaultIsCutShort known taken taken_after
  too_long_short long wrote =
      let t = long_text known long in
      inr (record { text = t.text; fault = fault_text (OfScript 0 TooLong); is_text = t.is_text; is_fault = IsTooLong t.long refl; wrote = wrote })

  module _ (text slice : List ℕ) (is : IfSome known (λ bytes. text ≡ bytes)) (same : slice ≡ text) where
    pub judged_text : (status : ℕ) → VerdictIsWritten status (Some slice) taken taken_after → VerdictIsWritten status known taken taken_after
    judged_text status v = record { text = v.text; line = v.line; is_text = read_from known text slice v.text is same v.is_text; judged = v.judged; wrote = v.wrote }

    pub refused_text : FaultIsWritten (Some slice) taken taken_after → FaultIsWritten known taken taken_after
    refused_text f = record { text = f.text; fault = f.fault; is_text = read_from known text slice f.text is same f.is_text; is_fault = f.is_fault; wrote = f.wrote }

    pub short_text : VerdictIsCutShort (Some slice) taken taken_after ⊎ FaultIsCutShort (Some slice) taken taken_after
        → VerdictIsCutShort known taken taken_after ⊎ FaultIsCutShort known taken taken_after
    short_text (inl v) = inl (record { text = v.text; line = v.line; status = v.status; is_text = read_from known text slice v.text is same v.is_text; judged = v.judged; wrote = v.wrote })
    short_text (inr f) = inr (record { text = f.text; fault = f.fault; is_text = read_from known text slice f.text is same f.is_text; is_fault = f.is_fault; wrote = f.wrote })
