-- An end of a link as its thread knows it, and what each call makes of it. A message is its list of bytes,
-- and all lists have the oldest message first. Ours.
use Rattle.std.specs.Prelude.{◌≡◌, ℕ, ◌+◌, ◌<◌, ◌≤◌, List, [], ◌∷◌, ◌++◌, length, take, drop}
use mathlib.Core.List.{IsPrefix}
use denote.RawPtr.{Ptr}
use Rattle.rtrb.specs.declared.producer.Producer.{Producer}
use Rattle.rtrb.specs.declared.consumer.Consumer.{Consumer}
use Rattle.brick_link.specs.Messages.{taken_of}

-- which ring it is, and for how many messages it has room
pub record Ring : Type 0 where
  pub words : Ptr
  pub slots : Ptr
  pub names : ℕ × (ℕ × ℕ)
  pub room : ℕ

module _ {T A P : Type 0} where
  -- the ring that a producer pushes into
  abbrev pub ring_into : Producer T A P → Ring
  ring_into p = record { words = p.end.words; slots = p.end.slots; names = p.end.names; room = p.capacity }

  -- the ring that a consumer pops from
  abbrev pub ring_from : Consumer T A P → Ring
  ring_from c = record { words = c.end.words; slots = c.end.slots; names = c.end.names; room = c.capacity }

pub record LinkEnd : Type 0 where
  pub outward : Ring  -- the ring it sends into
  pub inward : Ring  -- the ring it receives from
  pub backlog : List (List ℕ)  -- queued, and not yet sent
  pub sent : List (List ℕ)
  pub received : List (List ℕ)
  pub free : ℕ  -- how many places it knows to be free in the ring that it sends into
  pub seen : List (List ℕ)  -- the messages that it knows to be in the ring that it receives from

-- the two ends of one link: each one's ring is the other's
pub record IsPair (a b : LinkEnd) : Type 0 where
  pub there : a.outward ≡ b.inward
  pub back : b.outward ≡ a.inward

-- it is the same end of the same link
pub record IsSameLink (old new : LinkEnd) : Type 0 where
  pub there : new.outward ≡ old.outward
  pub back : new.inward ≡ old.inward

-- an end at the start, over rings with so much room
pub record IsNew (room : ℕ) (e : LinkEnd) : Type 0 where
  pub backlog : e.backlog ≡ []
  pub sent : e.sent ≡ []
  pub received : e.received ≡ []
  pub places : e.outward.room ≡ room
  pub free : e.free ≡ room
  pub seen : e.seen ≡ []

-- the message is last in the backlog
abbrev pub queued : LinkEnd → List ℕ → LinkEnd
queued e message = record e { backlog = e.backlog ++ message ∷ [] }

-- So many messages went from the front of the backlog into the ring, in order. It stops at an empty backlog,
-- or where a look found no free place; the places that were known to be free were used first.
pub record Sends (old : LinkEnd) (count : ℕ) (new : LinkEnd) : Type 0 where
  pub within : count ≤ length old.backlog
  pub moved : new ≡ record old { backlog = drop count old.backlog; sent = old.sent ++ take count old.backlog; free = new.free }
  pub stops : count < length old.backlog → new.free ≡ 0
  pub room : old.free ≤ new.free + count

-- the oldest message in the ring was taken out, and it is the oldest of those that were known to be there
pub record Receives (old : LinkEnd) (message : List ℕ) (new : LinkEnd) : Type 0 where
  pub moved : new ≡ record old { received = old.received ++ message ∷ []; seen = new.seen }
  pub oldest : IsPrefix old.seen (message ∷ new.seen)

-- nothing was sent or received; the end may know of more messages and of more free places
pub record IsLooked (old new : LinkEnd) : Type 0 where
  pub same : new ≡ record old { free = new.free; seen = new.seen }
  pub free : old.free ≤ new.free
  pub seen : IsPrefix old.seen new.seen

-- no message is in the ring, or the oldest one counts more inputs than the limit
abbrev pub IsHeldBack : ℕ → List (List ℕ) → Type 0
IsHeldBack limit [] = Unit {0}
IsHeldBack limit (message ∷ _) = limit < taken_of message

-- What is in the ring from one end to the other is all that the first one sent and the other one did not receive,
-- and each other place of it is known to be free: nothing is left to look for.
pub record KnowsRing (sender receiver : LinkEnd) : Type 0 where
  pub messages : receiver.received ++ receiver.seen ≡ sender.sent
  pub places : sender.outward.room + length receiver.received ≤ sender.free + length sender.sent
