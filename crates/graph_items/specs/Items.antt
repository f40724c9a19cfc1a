-- A request as nodes hand it down, and a brick's reply as they hand it up.
use Rattle.std.specs.Prelude.{ℕ, Option}
use Rattle.fop_types.specs.declared.messages.BrickRep.{BrickRep}
use Rattle.fop_types.specs.declared.messages.BrickReq.{BrickReq}

pub record RequestValue : Type 0 where
  pub bound : Option ℕ
  pub req : BrickReq

pub record ReplyValue : Type 0 where
  pub rep : BrickRep
  pub mark : ℕ
