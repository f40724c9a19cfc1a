-- The calls that were answered well, marked in a table by their numbers, each with the number of the event of its first such
-- reply.
use Rattle.std.specs.Prelude.{◌≡◌, ℕ, ◌<◌, ◌≤◌, ◌⊎◌, true, List, Option, None, Some, slice_get}
use Rattle.fop_types.specs.Replies.{is_ok}
use Rattle.mount_log.specs.declared.logs.ReplyLine.{ReplyLine}

abbrev pub mark_or_none : Option (Option ℕ) → Option ℕ
mark_or_none None = None
mark_or_none (Some mark) = mark

-- the mark of a call, if it has one
abbrev pub mark_of : List (Option ℕ) → ℕ → Option ℕ
mark_of marks call = mark_or_none (slice_get marks call)

-- the mark is of the event of this number, or of an earlier one
pub record IsMarkBy (mark : Option ℕ) (bound : ℕ) : Type 0 where
  pub number : ℕ
  pub is : mark ≡ Some number
  pub by : number ≤ bound

abbrev pub IsMarkedBy : List (Option ℕ) → ℕ → ℕ → Type 0
IsMarkedBy marks call bound = IsMarkBy (mark_of marks call) bound

abbrev pub IsMarked : List (Option ℕ) → ReplyLine → Type 0
IsMarked marks reply = is_ok reply.answer ≡ true → IsMarkedBy marks reply.call reply.event

abbrev pub AreMarked : List ReplyLine → List (Option ℕ) → Type 0
AreMarked replies marks = (k : ℕ) (reply : ReplyLine) → slice_get replies k ≡ Some reply → IsMarked marks reply

-- what was marked stays so, or is marked earlier
abbrev pub KeepMarks : List (Option ℕ) → List (Option ℕ) → Type 0
KeepMarks before after = (call bound : ℕ) → IsMarkedBy before call bound → IsMarkedBy after call bound

-- among the first replies
abbrev pub AreMarkedTo : ℕ → List ReplyLine → List (Option ℕ) → Type 0
AreMarkedTo n replies marks = (k : ℕ) (reply : ReplyLine) → k < n → slice_get replies k ≡ Some reply → IsMarked marks reply

-- no mark is of an event before this one
abbrev pub IsNoEarlier : Option ℕ → ℕ → Type 0
IsNoEarlier mark number = (earlier : ℕ) → mark ≡ Some earlier → number ≤ earlier

-- no call is marked
abbrev pub AreUnmarked : List (Option ℕ) → Type 0
AreUnmarked marks = (call : ℕ) (mark : Option ℕ) → slice_get marks call ≡ Some mark → mark ≡ None

-- one of the replies answers the call well, in the event of this number
pub record IsAnsweredWell (replies : List ReplyLine) (call number : ℕ) : Type 0 where
  pub place : ℕ
  pub reply : ReplyLine
  pub there : slice_get replies place ≡ Some reply
  pub call_is : reply.call ≡ call
  pub well : is_ok reply.answer ≡ true
  pub event_is : reply.event ≡ number

-- each mark is that of such a reply
abbrev pub AreOfReplies : List ReplyLine → List (Option ℕ) → Type 0
AreOfReplies replies marks = (call number : ℕ) → mark_of marks call ≡ Some number → IsAnsweredWell replies call number

-- at most this call was marked, with this number
abbrev pub MarksOnly : List (Option ℕ) → List (Option ℕ) → ℕ → ℕ → Type 0
MarksOnly before after call number = (c n : ℕ) → mark_of after c ≡ Some n → (mark_of before c ≡ Some n) ⊎ ((c ≡ call) × (n ≡ number))

-- at most the call of this reply was marked, with the number of its event, and that if it was answered well
abbrev pub MarksReply : List (Option ℕ) → List (Option ℕ) → ReplyLine → Type 0
MarksReply before after reply = (c n : ℕ) → mark_of after c ≡ Some n → (mark_of before c ≡ Some n) ⊎ ((c ≡ reply.call) × (n ≡ reply.event) × (is_ok reply.answer ≡ true))

-- one of the replies is to a call that is not below the bound
pub record HasCallFrom (replies : List ReplyLine) (bound : ℕ) : Type 0 where
  pub place : ℕ
  pub reply : ReplyLine
  pub there : slice_get replies place ≡ Some reply
  pub beyond : bound ≤ reply.call
