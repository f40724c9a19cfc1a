use Rattle.afr_contents.proofs.ReadShows.{reads_show_adopted}
use Rattle.afr_contents.proofs.reads.every_read_shows_adopted.Goals as goal

pub returns : goal.returns
returns c = reads_show_adopted
