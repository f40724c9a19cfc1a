-- Jobs within the bounds that a set asks of them.
use Rattle.std.proofs.Common.{◌≡◌, ◌∙◌, ℕ, zero, suc, ◌+◌, ◌*◌, ◌/◌, ◌<◌, ◌≤◌, true, false, List, [], ◌∷◌, Option, Some, length, nat_le, refl, ap, arith}
use Rattle.std.proofs.lemmas.Bool.{and_parts, leb-true}
use Rattle.std.proofs.lemmas.Nat.{div_below}
use Rattle.std.specs.Ordering.{ordering_reverse}
use Rattle.std.specs.Prelude.{slice_index_or}
use Rattle.std.specs.declared.cmp.Ordering.{Ordering}
use Rattle.std.specs.declared.cmp.Ordering.TheVariants.{Less, Equal, Greater}
use Rattle.dht_layout.specs.Layouts.{even_span}
use Rattle.dht_linkto.specs.DirNames.{names_job}
use Rattle.dht_fops.specs.Entries.{birth_job}
use Rattle.dht_fops.specs.Looks.{span_job}
use Rattle.dht_fops.specs.Objects.{meta_job, both_job}
use Rattle.fop_types.proofs.MapLemmas.{gfid_cmp_total}
use Rattle.fop_types.specs.Bounds.{Each, IsGfid, IsCell, AreFew, IsUnit, IsSpan, IsComponent, IsItemName}
use Rattle.fop_types.specs.Cells.{data_cell, meta_cell, names_cell}
use Rattle.fop_types.specs.Jobs.{IsJob}
use Rattle.fop_types.specs.Limits.{max_item_name}
use Rattle.fop_types.specs.Orders.{gfid_cmp, cell_cmp}
use Rattle.fop_types.specs.StoreOps.{both_names}
use Rattle.fop_types.specs.declared.cells.Cell.{Cell}
use Rattle.fop_types.specs.declared.cells.Gfid.{Gfid}
use Rattle.fop_types.specs.declared.contents.Span.{Span}
use Rattle.fop_types.specs.declared.fops.Object.{Object}
use Rattle.fop_types.specs.declared.jobs.Job.TheVariants as job

-- ---- cells

gfid_same : (g : Gfid) → gfid_cmp g g ≡ Equal
gfid_same g = by_self (gfid_cmp g g) (gfid_cmp_total.antisymm g g)
  where
    by_self : (o : Ordering) → o ≡ ordering_reverse o → o ≡ Equal
    by_self Less e = absurd cc
    by_self Equal e = refl
    by_self Greater e = absurd cc

pub one_few : (cell : Cell) → IsCell cell → AreFew (cell ∷ [])
one_few cell c = (omega arith, omega arith, (c, tt), (tt, tt))

two_few : (a b : Cell) → IsCell a → IsCell b → cell_cmp a b ≡ Less → AreFew (a ∷ b ∷ [])
two_few a b c d e = (omega arith, omega arith, (c, (d, tt)), (tt, (e, tt)))

data_first : (g : Gfid) → cell_cmp (data_cell g) (meta_cell g) ≡ Less
data_first g = rw (gfid_same g) refl

meta_first : (g : Gfid) → cell_cmp (meta_cell g) (names_cell g) ≡ Less
meta_first g = rw (gfid_same g) refl

names_before : (a b : Gfid) → gfid_cmp a b ≡ Less → cell_cmp (names_cell a) (names_cell b) ≡ Less
names_before a b e = rw e refl

pub both_few : (a b : Gfid) → IsGfid a → IsGfid b → AreFew (both_names a b)
both_few a b c d = by_order (gfid_cmp a b) refl
  where
    by_order : (o : Ordering) → gfid_cmp a b ≡ o → AreFew (both_names a b)
    by_order Less e = rw e (two_few (names_cell a) (names_cell b) c d (names_before a b e))
    by_order Equal e = rw e (one_few (names_cell a) c)
    by_order Greater e = rw e (two_few (names_cell b) (names_cell a) d c (names_before b a (gfid_cmp_total.antisymm b a ∙ ap ordering_reverse e)))

-- ---- reads and births

pub names_is_job : (dir : Gfid) → IsGfid dir → IsJob (names_job dir)
names_is_job dir g = (one_few (names_cell dir) g, omega arith, (refl, tt))

pub span_is_job : (dir : Gfid) → IsGfid dir → IsJob (span_job dir)
span_is_job dir g = (one_few (meta_cell dir) g, omega arith, (tt, tt))

pub meta_is_job : (object : Object) → IsGfid object.gfid → IsJob (meta_job object)
meta_is_job object g = (one_few (meta_cell object.gfid) g, omega arith, (tt, tt))

pub both_is_job : (gfid : Gfid) → IsGfid gfid → IsJob (both_job gfid)
both_is_job gfid g = (two_few (data_cell gfid) (meta_cell gfid) g g (data_first gfid), omega arith, (refl, (tt, tt)))

pub data_is_job : (gfid : Gfid) (fd : ℕ) → IsGfid gfid → IsUnit fd → IsJob (job.Read (data_cell gfid ∷ []) fd false)
data_is_job gfid fd g u = (one_few (data_cell gfid) g, u, (refl, tt))

pub birth_is_job : (gfid : Gfid) (span : Option Span) → IsGfid gfid → IsSpan span → IsJob (birth_job gfid span)
birth_is_job gfid span g s = (two_few (meta_cell gfid) (names_cell gfid) g g (meta_first gfid), (g, s), tt, refl)

-- ---- values

-- a range of the even split ends at the last hash
pub even_within : (sets set : ℕ) → set < sets → IsSpan (Some (even_span sets set))
even_within sets set h = (
  let first : set * 4294967296 / sets < 4294967296 = div_below (set * 4294967296) sets 4294967296 (omega arith) (omega arith) in first,
  let last : (set + 1) * 4294967296 / sets < 4294967297 = div_below ((set + 1) * 4294967296) sets 4294967297 (omega arith) (omega arith) in omega (arith, last),
)

pub item_name : (name : List ℕ) → IsComponent name → length name ≤ max_item_name → IsItemName name
item_name name c h =
    let parts = and_parts _ _ c in
    let bytes = and_parts _ _ parts.0 in
    (at_least (length name) bytes.0, h, bytes.1)
  where
    at_least : (n : ℕ) → nat_le 1 n ≡ true → 1 ≤ n
    at_least n e = leb-true 1 n e

pub each_at : (P : List ℕ → Type 0) (names : List (List ℕ)) (i : ℕ) → i < length names → Each P names → P (slice_index_or names i [])
each_at P [] i h e = absurd (omega arith)
each_at P (name ∷ names) zero h e = e.0
each_at P (name ∷ names) (suc i) h e = each_at P names i (omega arith) e.1
