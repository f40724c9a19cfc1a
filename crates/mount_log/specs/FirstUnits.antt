-- The head of an output by the first units of its encoding: two of its count of inputs, one of its kind, and of a reply two of
-- the wind and one of what became of the request.
use Rattle.std.specs.Prelude.{ℕ, ◌+◌, ◌*◌, ◌==◌, nat_lt, List, length, drop, if◌then◌else◌}
use Rattle.byteorder.specs.Endian.{big_number}
use Rattle.wire_xdr.specs.Limits.{unit_range}
use Rattle.mount_log.specs.declared.heads.Head.{Head}
use Rattle.mount_log.specs.declared.heads.Said.{Said}
use Rattle.mount_log.specs.declared.heads.Said.TheVariants as said

-- the unit that the bytes begin with, 0 where they are fewer than four
abbrev pub first_unit : List ℕ → ℕ
first_unit bytes = if nat_lt (length bytes) 4 then 0 else big_number 4 bytes

-- the unit at a place
unfoldable pub unit_at : List ℕ → ℕ → ℕ
unit_at bytes place = first_unit (drop place bytes)

-- the number of a hyper
abbrev pub joined : ℕ → ℕ → ℕ
joined high low = high * unit_range + low

abbrev pub reply_by : ℕ → ℕ → Said
reply_by wind status = if status == 1 then said.Gone wind else said.Reply wind

abbrev pub said_by : ℕ → Said → Said
said_by kind reply = if kind == 0 then reply else (if kind == 1 then said.Closed else (if kind == 2 then said.Opened else said.Other))

-- what the bytes say, if they are a reply
abbrev pub first_reply : List ℕ → Said
first_reply bytes = reply_by (joined (unit_at bytes 12) (unit_at bytes 16)) (unit_at bytes 20)

abbrev pub first_head : List ℕ → Head
first_head bytes = record { taken = joined (unit_at bytes 0) (unit_at bytes 4); said = said_by (unit_at bytes 8) (first_reply bytes) }
