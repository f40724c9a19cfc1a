-- What holds of each reply in a brick's outputs. Ours.
use Rattle.std.specs.Prelude.{◌≡◌, ◌⊎◌, List, [], ◌∷◌}
use Rattle.afr_machine.specs.Requests.{Sender, Ask, Answer, Output}
use Rattle.afr_machine.specs.Requests.Output.{Answered, Closed, Opened, Connected}

abbrev pub EachReply : (Sender → Ask → Answer → Type 0) → List Output → Type 0
EachReply P [] = Unit {0}
EachReply P (Answered by ask answer ∷ os) = P by ask answer × EachReply P os
EachReply P (Closed ∷ os) = EachReply P os
EachReply P (Opened ∷ os) = EachReply P os
EachReply P (Connected graph ∷ os) = EachReply P os

abbrev pub IsReplyIn : Sender → Ask → Answer → List Output → Type 0
IsReplyIn by ask answer [] = ⊥
IsReplyIn by ask answer (Answered b a r ∷ os) = ((by ≡ b) × ((ask ≡ a) × (answer ≡ r))) ⊎ IsReplyIn by ask answer os
IsReplyIn by ask answer (Closed ∷ os) = IsReplyIn by ask answer os
IsReplyIn by ask answer (Opened ∷ os) = IsReplyIn by ask answer os
IsReplyIn by ask answer (Connected graph ∷ os) = IsReplyIn by ask answer os
