use Rattle.std.proofs.Common.{arith}
use Rattle.afr_changelog.proofs.SoundRows.{marked_yes, marked_no, marked_passes}
use Rattle.afr_changelog.proofs.Convicted.{sound_unconvicted, innocent_sound, reached_within}
use Rattle.afr_changelog.proofs.soundness.sound.Goals as goal
use Rattle.afr_changelog.proofs.soundness.sound.Goals.{then-is_sound, else-is_sound}

pub loop-k-preserved : goal.loop-k-preserved
loop-k-preserved c = elim c.if-is_sound.branch [
  | then-is_sound w ↦ marked_yes _ _ _ _ _ (omega arith) c.is_sound.ensures w.if-is_sound.true w.mask-is c.loop-k.invariant
  | else-is_sound w ↦ marked_no _ _ _ _ _ c.is_sound.ensures w.if-is_sound.false w.mask-is c.loop-k.invariant
]

pub returns-clause-unconvicted : goal.returns-clause-unconvicted
returns-clause-unconvicted c = λ held shown k named.
    sound_unconvicted held c.args.rows.now c.args.n c.args.q k shown c.requires.places (omega arith)
    (marked_passes _ c.loop-k.mask c.loop-k.k c.loop-k.invariant k named)

pub returns-clause-member : goal.returns-clause-member
returns-clause-member c = λ full k innocent. (
  k,
  (c.loop-k.invariant.below k (omega (arith, reached_within k c.args.rows.now innocent.row innocent.reached))).1
      (innocent_sound c.args.rows.now c.args.n c.args.q k (omega arith) full innocent),
)
