-- What a call is answered: at once, or at the answer of a fop; and what becomes of its descriptor.
use Rattle.std.specs.Prelude.{ℕ, Bool, true, false, List, length, Option, Some, None}
use Rattle.std.specs.Option.{option_map}
use Rattle.fop_types.specs.Calls.{Descriptors, at_once}
use Rattle.fop_types.specs.declared.answers.Answer.{Answer}
use Rattle.fop_types.specs.declared.answers.Answer.TheVariants as answer
use Rattle.fop_types.specs.declared.answers.FopAnswer.{FopAnswer}
use Rattle.fop_types.specs.declared.answers.FopAnswer.TheVariants as fop_answer
use Rattle.fop_types.specs.declared.calls.Call.{Call}
use Rattle.fop_types.specs.declared.calls.Call.TheVariants as call
use Rattle.fop_types.specs.declared.fops.Object.{Object}
use Rattle.call_fops.specs.Walks.{Walked, next_name}
use Rattle.call_fops.specs.declared.replies.After.{After}
use Rattle.call_fops.specs.declared.replies.After.TheVariants.{GoesOn, Replies}
use Rattle.call_fops.specs.declared.replies.CallReply.{CallReply}
use Rattle.call_fops.specs.declared.replies.FdMove.{FdMove}
use Rattle.call_fops.specs.declared.replies.FdMove.TheVariants.{Stays, Opens, Advances, Seeks, Closes}

-- the move where the answer is Done; else the descriptors stay
abbrev pub where_done : Answer → FdMove → FdMove
where_done answer.Done move = move
where_done other move = Stays

-- the move by the bytes that were read, or by the count of those that were written
abbrev pub by_bytes : ℕ → Answer → FdMove
by_bytes fd (answer.Bytes bytes) = Advances fd (length bytes)
by_bytes fd other = Stays

abbrev pub by_count : ℕ → Answer → FdMove
by_count fd (answer.Count count) = Advances fd count
by_count fd other = Stays

abbrev pub to_count : ℕ → Answer → FdMove
to_count fd (answer.Count offset) = Seeks fd offset
to_count fd other = Stays

-- ---- at once

abbrev pub move_at_once : Call → Answer → FdMove
move_at_once (call.Seek fd offset) a = to_count fd a
move_at_once (call.Close fd) a = where_done a (Closes fd)
move_at_once other a = Stays

abbrev pub reply_at_once : Descriptors → Call → Option CallReply
reply_at_once fds c = option_map (λ a. record { answer = a; fd = move_at_once c a }) (at_once fds c)

-- ---- after a fop

-- where the last fop found or made an object, which a create alone does
abbrev pub move_found : Call → Object → FdMove
move_found (call.Create fd path mode) object = Opens fd object.gfid object.set
move_found other object = Stays

-- where it answered its call; `object` is what the first path led to
abbrev pub move_answered : Call → Object → Answer → FdMove
move_answered (call.Open fd path) object a = where_done a (Opens fd object.gfid object.set)
move_answered (call.Read fd count) object a = by_bytes fd a
move_answered (call.Write fd bytes) object a = by_count fd a
move_answered other object a = Stays

abbrev pub replies : Answer → FdMove → After
replies a move = Replies (record { answer = a; fd = move })

abbrev pub after_lookup : FopAnswer → After
after_lookup (fop_answer.Found set gfid kind) = GoesOn (record { gfid = gfid; kind = kind; set = set })
after_lookup (fop_answer.Call a) = replies a Stays

abbrev pub after_last : Call → Object → FopAnswer → After
after_last c object (fop_answer.Found set gfid kind) = replies answer.Done (move_found c (record { gfid = gfid; kind = kind; set = set }))
after_last c object (fop_answer.Call a) = replies a (move_answered c object a)

abbrev pub after_by : Option (List ℕ) → Call → Object → FopAnswer → After
after_by (Some name) c object a = after_lookup a
after_by None c object a = after_last c object a

-- what a call does at the answer of the fop that it sent last
abbrev pub after : Call → Walked → FopAnswer → After
after c w a = after_by (next_name c w) c w.first.at a

-- ---- places

abbrev pub is_placed : Answer → Bool
is_placed (answer.Io error) = false
is_placed other = true

-- an I/O error has no place; every other answer of a fop has one
abbrev pub has_place : FopAnswer → Bool
has_place (fop_answer.Found set gfid kind) = true
has_place (fop_answer.Call a) = is_placed a
