-- What a write takes.
use Rattle.std.specs.Prelude.{ℕ, ◌<◌, List, length, take, Result, IfOk}
use Rattle.std.specs.declared.option.Option.{Option}
use Rattle.std.specs.Io.KnownBytes.{Appends}

-- of a piece that is not empty a write takes at least one byte
abbrev pub TakesSome : {E : Type 0} → Result ℕ E → List ℕ → Type 0
TakesSome r piece = IfOk r (λ n. 0 < length piece → 0 < n)

-- The sink took a proper prefix of the bytes; `before` and `after` are the bytes that it had taken by
-- then, where it reports them.
pub record WrotePrefix (before after : Option (List ℕ)) (bytes : List ℕ) : Type 0 where
  pub count : ℕ
  pub short : count < length bytes
  pub wrote : Appends before after (take count bytes)
