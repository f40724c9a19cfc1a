-- The mask so far names the sound replicas below k.
use Rattle.afr_changelog.specs.Soundness.{IsSound}
use Rattle.afr_changelog.proofs.SoundRows.{Marked}
use Rattle.afr_changelog.proofs.soundness.sound.Given as goal

abbrev pub invariant-loop-k : goal.invariant-loop-k
invariant-loop-k l = Marked (IsSound l.rows l.n l.q) l.mask l.k
