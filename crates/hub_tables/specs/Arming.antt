-- Which actions may be armed for a request. Ours.
use Rattle.std.specs.Prelude.{ℕ, ◌==◌, nat_lt, Bool, true, false, ◌&&◌, not}
use Rattle.fop_types.specs.declared.messages.Proc.{Proc}
use Rattle.fop_types.specs.declared.messages.Proc.TheVariants as proc
use Rattle.script_lang.specs.declared.scripts.Action.{Action}
use Rattle.script_lang.specs.declared.scripts.Action.TheVariants as action

abbrev pub is_unlock : Proc → Bool
is_unlock proc.Unlock = true
is_unlock other = false

-- a brick may be told to fail so high a request of a procedure: no unlock, and numbers from 1
abbrev pub may_fail : Proc → ℕ → Bool
may_fail p number = not (is_unlock p) && nat_lt 0 number

-- what may be carried out directly before a request to a brick: that it goes down, or that it fails a request
abbrev pub is_armable : ℕ → Action → Bool
is_armable brick (action.Down at served) = at == brick
is_armable brick (action.Fault at p number) = (at == brick) && may_fail p number
is_armable brick other = false
