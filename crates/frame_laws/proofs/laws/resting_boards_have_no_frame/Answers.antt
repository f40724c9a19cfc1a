use Rattle.frame_laws.proofs.Resting.{no_frame_of_calls, no_frame_of_boards}
use Rattle.frame_laws.proofs.laws.resting_boards_have_no_frame.Goals as goal

pub returns-clause-calls : goal.returns-clause-calls
returns-clause-calls g c = no_frame_of_calls _ _ _

pub returns-clause-boards : goal.returns-clause-boards
returns-clause-boards g c = no_frame_of_boards _ _ _
