-- Writes: how far they may go, and what no bytes come to.
use Rattle.std.proofs.Common.{◌≡◌, ℕ, ◌+◌, ◌-◌, ◌<◌, ◌≤◌, ◌==◌, Bool, true, false, List, [], ◌∷◌, None, length, nat_lt, refl, arith}
use Rattle.std.proofs.lemmas.Bool.{eqb-true, eqb-false, lt-ltb, ltb-true, le-ltb, ltb-false}
use Rattle.dht_fops.specs.Courses.{answers}
use Rattle.dht_fops.specs.Objects.{changes_cell, writes_some}
use Rattle.dht_fops.specs.declared.volume.Volume.{Volume}
use Rattle.fop_types.specs.Cells.{data_cell}
use Rattle.fop_types.specs.declared.answers.Answer.TheVariants as answer
use Rattle.fop_types.specs.declared.answers.FopAnswer.TheVariants.{Call}
use Rattle.fop_types.specs.declared.fops.Object.{Object}
use Rattle.fop_types.specs.declared.store_ops.StoreOp.TheVariants as op

pub beyond_start : (limit start count : ℕ) → limit < start → nat_lt limit (start + count) ≡ true
beyond_start limit start count h = lt-ltb limit (start + count) (omega arith)

beyond_by : (limit start count : ℕ) (b : Bool) → nat_lt (limit - start) count ≡ b → start ≤ limit → b ≡ nat_lt limit (start + count)
beyond_by limit start count true e h = let less = ltb-true (limit - start) count e in let far = lt-ltb limit (start + count) (omega arith) in rw far refl
beyond_by limit start count false e h = let more = ltb-false (limit - start) count e in let near = le-ltb limit (start + count) (omega arith) in rw near refl

pub beyond_later : (limit start count : ℕ) → start ≤ limit → nat_lt (limit - start) count ≡ nat_lt limit (start + count)
beyond_later limit start count h = beyond_by limit start count (nat_lt (limit - start) count) refl h

pub none_written : (v : Volume) (object : Object) (fd offset : ℕ) (bytes : List ℕ) → (length bytes == 0) ≡ true → writes_some v object fd offset bytes ≡ answers (answer.Count 0) None
none_written v object fd offset [] e = refl
none_written v object fd offset (first ∷ rest) e = absurd (let no = eqb-true (length (first ∷ rest)) 0 e in omega arith)

pub some_written : (v : Volume) (object : Object) (fd offset : ℕ) (bytes : List ℕ) → (length bytes == 0) ≡ false
    → changes_cell v object.set (data_cell object.gfid) fd (op.Write object.gfid offset bytes) (Call (answer.Count (length bytes))) ≡ writes_some v object fd offset bytes
some_written v object fd offset [] e = absurd (eqb-false 0 0 e refl)
some_written v object fd offset (first ∷ rest) e = refl
