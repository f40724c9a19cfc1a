-- What a text gives, and what is printed of it.
use Rattle.std.proofs.Common.{◌≡◌, ℕ, List, Option, Some, None, Ok, Err, Result, sym, ap, subst, ◌∙◌}
use Rattle.std.specs.Prelude.{IfOk}
use Rattle.std.specs.Option.{MatchOption}
use Rattle.volfile.specs.declared.errors.VolError.{VolError}
use Rattle.volfile.specs.declared.errors.VolKind.{VolKind}
use Rattle.volfile.specs.VolfileText.{Reading, line_read, parsed, text_ended}
use Rattle.volfile.specs.VolfilePrint.{volumes_text}
use Rattle.volfile.specs.Volumes.{ReadsAs, IsVolfile, IsRead}
use Rattle.volfile.specs.declared.volumes.Volfile.{Volfile}
use Rattle.volfile.proofs.WellRead.{AreWhole, line_kept, ended_whole, parsed_whole}
use Rattle.volfile.proofs.ReadBack.{read_back, same_text}

reads_whole : (v : Volfile) → AreWhole v.volumes → ReadsAs (volumes_text v.volumes) v
reads_whole v h = let back = read_back v.volumes h.each h.some in record { said = back.0; parsed = back.1; same = back.2 }

-- volumes of the form are those of a text: of the one that is printed
pub volfile_whole : (v : Volfile) → AreWhole v.volumes → IsVolfile v
volfile_whole v h = record { text = volumes_text v.volumes; reads = reads_whole v h }

pub ended_volfile : (r : Reading) (n : ℕ) (v : Volfile) → IsRead r → text_ended r n ≡ Ok v → IsVolfile v
ended_volfile r n v h e = volfile_whole v (ended_whole r.block r.volumes n v h.volumes e)

pub print_reads : (v : Volfile) (text : List ℕ) → IsVolfile v → text ≡ volumes_text v.volumes → ReadsAs text v
print_reads v text h is =
    let r = h.reads in
    let back = reads_whole r.said (parsed_whole h.text r.said r.parsed) in
    let same : text ≡ volumes_text r.said.volumes = is ∙ sym (same_text r.said.volumes v.volumes r.same) in
    record { said = back.said; parsed = ap parsed same ∙ back.parsed; same = back.same ∙ r.same }

pub ended_form : (r : Reading) (n : ℕ) (o : Result Volfile VolError) → IsRead r → o ≡ text_ended r n → IfOk o (λ v. IsVolfile v)
ended_form r n (Ok v) h e = ended_volfile r n v h (sym e)
ended_form r n (Err e) h is = tt

-- a line that was read, or refused
pub read_keeps : (no : Option VolKind) (old new : Reading) (n : ℕ) (line : List ℕ) → MatchOption no (line_read old n line ≡ Ok new) (λ kind. (line_read old n line ≡ Err kind) × (new ≡ old)) → IsRead old → IsRead new
read_keeps None old new n line e h = line_kept old n line new h e
read_keeps (Some kind) old new n line e h = subst IsRead (sym e.1) h
