-- What becomes of a request: it is granted, or it is queued behind those that hold or wait.
use Rattle.std.specs.Prelude.{List, cond}
use Rattle.brick_locks.specs.declared.locks.Asked.{Asked}
use Rattle.brick_locks.specs.declared.locks.Asked.TheVariants.{Granted, Queued}
use Rattle.brick_locks.specs.declared.request.Request.{Request}
use Rattle.brick_locks.specs.Locks.{is_kept_by}

abbrev pub fate_after : List Request → Request → Asked
fate_after rs r = cond (is_kept_by rs r) Queued Granted
