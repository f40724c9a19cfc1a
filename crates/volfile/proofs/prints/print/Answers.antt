use Rattle.std.proofs.Common.{◌∙◌, ap}
use Rattle.volfile.specs.VolfilePrint.{volumes_text}
use Rattle.volfile.proofs.Whole.{print_reads}
use Rattle.volfile.proofs.prints.print.Goals as goal

pub returns-clause-reads_back : goal.returns-clause-reads_back
returns-clause-reads_back c = print_reads c.args.v.now _ c.requires.volfile (c.in_ok-text.ensures ∙ ap volumes_text c.as_slice.ensures)
