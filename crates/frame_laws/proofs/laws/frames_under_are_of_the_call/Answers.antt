use Rattle.frame_laws.proofs.Calls.{frames_under, winds_of}
use Rattle.frame_laws.proofs.laws.frames_under_are_of_the_call.Goals as goal

pub returns-clause-frames : goal.returns-clause-frames
returns-clause-frames g c = frames_under _

pub returns-clause-winds : goal.returns-clause-winds
returns-clause-winds g c = winds_of _
