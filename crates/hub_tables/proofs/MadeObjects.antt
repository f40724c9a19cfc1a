-- Counts of calls that make an object, as they stop at the greatest number.
use Rattle.std.proofs.Common.{◌≡◌, ℕ, zero, suc, ◌+◌, ◌-◌, ◌^◌, ◌==◌, min, Bool, true, false, not, List, [], ◌≤◌, ◌<◌, length, drop, refl, sym, ap, ◌∙◌, arith, eqb-true}
use Rattle.std.proofs.Math.ListN.{drop_of_length-le}
use Rattle.fop_types.specs.Calls.{makes as makes_of}
use Rattle.fop_types.specs.declared.calls.Call.{Call}
use Rattle.fop_types.specs.declared.calls.Call.TheVariants as call
use Rattle.mount_log.specs.Lines.{makes, creations_in, creations_of}
use Rattle.script_lang.specs.declared.scripts.CallLine.{CallLine}
use Rattle.script_lang.specs.declared.scripts.Phase.{Phase}

-- a call makes one object or none
pub makes_one : (c : Call) → makes c ≡ true → makes_of c ≡ 1
makes_one (call.Mkdir path mode) is = refl
makes_one (call.Create fd path mode) is = refl
makes_one (call.Rmdir path) is = absurd cc
makes_one (call.Unlink path) is = absurd cc
makes_one (call.Rename path target) is = absurd cc
makes_one (call.Open fd path) is = absurd cc
makes_one (call.Stat path) is = absurd cc
makes_one (call.List path) is = absurd cc
makes_one (call.Chmod path mode) is = absurd cc
makes_one (call.Truncate path size) is = absurd cc
makes_one (call.SetAttr path attr) is = absurd cc
makes_one (call.GetAttr path name) is = absurd cc
makes_one (call.DelAttr path name) is = absurd cc
makes_one (call.Read fd count) is = absurd cc
makes_one (call.Write fd bytes) is = absurd cc
makes_one (call.Seek fd offset) is = absurd cc
makes_one (call.Close fd) is = absurd cc

made_or_not : (b : Bool) → not b ≡ false → b ≡ true
made_or_not true is = refl
made_or_not false is = absurd cc

none_made : (n : ℕ) → not (n == 0) ≡ false → n ≡ 0
none_made n is = eqb-true n 0 (made_or_not (n == 0) is)

pub makes_none : (c : Call) → makes c ≡ false → makes_of c ≡ 0
makes_none c is = none_made (makes_of c) is

-- a count that stops, with what is still to be counted
pub stops : (count made rest : ℕ) → min (min (count + made) (2 ^ 32 - 1) + rest) (2 ^ 32 - 1) ≡ min (count + (made + rest)) (2 ^ 32 - 1)
stops count made rest = omega arith

pub stops_by : (count made rest : ℕ) → min (min (count + min made (2 ^ 32 - 1)) (2 ^ 32 - 1) + rest) (2 ^ 32 - 1) ≡ min (count + (made + rest)) (2 ^ 32 - 1)
stops_by count made rest = omega arith

counted : (count rest all : ℕ) → count < 2 ^ 32 → rest ≡ 0 → min (count + rest) (2 ^ 32 - 1) ≡ min all (2 ^ 32 - 1) → count ≡ min all (2 ^ 32 - 1)
counted count rest all few none is = omega arith

pub all_calls : (calls : List CallLine) (count at : ℕ) → count < 2 ^ 32 → length calls ≤ at → min (count + creations_in (drop at calls)) (2 ^ 32 - 1) ≡ min (creations_in calls) (2 ^ 32 - 1) → count ≡ min (creations_in calls) (2 ^ 32 - 1)
all_calls calls count at few past is = counted count (creations_in (drop at calls)) (creations_in calls) few (ap creations_in (drop_of_length-le calls past)) is

pub all_phases : (phases : List Phase) (count at : ℕ) → count < 2 ^ 32 → length phases ≤ at → min (count + creations_of (drop at phases)) (2 ^ 32 - 1) ≡ min (creations_of phases) (2 ^ 32 - 1) → count ≡ min (creations_of phases) (2 ^ 32 - 1)
all_phases phases count at few past is = counted count (creations_of (drop at phases)) (creations_of phases) few (ap creations_of (drop_of_length-le phases past)) is
