-- The pages of a read of a file, which has at most 65,536 bytes: 16 pages of 4,096 bytes.
use Rattle.std.specs.Prelude.{ℕ, ◌+◌, ◌-◌, ◌*◌, ◌/◌, ◌≤◌, List, take, drop}
use Rattle.fop_types.specs.declared.fops.Object.{Object}
use Rattle.graph_nodes.specs.declared.locals.PageRange.{PageRange}
use Rattle.graph_nodes.specs.Costs.{at_most}

-- where a page begins, and at most the greatest offset
unfoldable pub start_of : ℕ → ℕ
start_of page = at_most 65536 (page * 4096)

-- the pages of a read
abbrev pub pages_of : Object → ℕ → ℕ → PageRange
pages_of object offset count = record { gfid = object.gfid; first = offset / 4096; end = (offset + count + 4095) / 4096; offset = offset; count = count }

-- what a read within the bounds of a file asks for
pub record IsRange (r : PageRange) : Type 0 where
  pub offset : r.offset ≤ 65536
  pub count : r.count ≤ 65536
  pub begins : r.first * 4096 ≤ r.offset
  pub rises : r.first ≤ r.end
  pub ends : r.end ≤ 32

abbrev pub page_bytes : PageRange → List ℕ → ℕ → List ℕ
page_bytes r bytes page = take (start_of (page + 1) - start_of page) (drop (start_of page - start_of r.first) bytes)

abbrev pub answer_of : PageRange → List ℕ → List ℕ
answer_of r bytes = take r.count (drop (r.offset - start_of r.first) bytes)
