-- Two ops, each of which fits: when one still fits after the other. Ours.
use Rattle.std.specs.Prelude.{◌≡◌, ◌≢◌, ◌⊎◌, ℕ, true, List, [], ◌∷◌, Option, Some, None}
use Rattle.dht_fops.specs.Standing.{Volumes}
use Rattle.fop_types.specs.Bounds.{Each}
use Rattle.fop_types.specs.StoreOps.{needs, births}
use Rattle.fop_types.specs.declared.cells.Cell.{Cell}
use Rattle.fop_types.specs.declared.cells.Gfid.{Gfid}
use Rattle.fop_types.specs.declared.cells.Kind.TheVariants as kind
use Rattle.fop_types.specs.declared.contents.Content.{Content}
use Rattle.fop_types.specs.declared.history.Entry.{Entry}
use Rattle.fop_types.specs.declared.store_ops.StoreOp.{StoreOp}
use Rattle.fop_types.specs.declared.store_ops.StoreOp.TheVariants as op
use Rattle.mount_files.specs.Showing.{ShownIsFlat, FitsNow, after_op}

-- an op on a set, with its entry if it has an effect
pub record OpOn : Type 0 where
  pub set : ℕ
  pub op : StoreOp
  pub effect : Option Entry

-- the names that an op with an effect adds, drops or moves
abbrev pub TouchesBy : StoreOp → Gfid → List ℕ → Type 0
TouchesBy (op.AddName parent item mode span) dir name = (parent ≡ dir) × (item.name ≡ name)
TouchesBy (op.DropName parent one) dir name = (parent ≡ dir) × (one ≡ name)
TouchesBy (op.DropDir parent one gfid) dir name = (parent ≡ dir) × (one ≡ name)
TouchesBy (op.Move parent one target another) dir name = ((parent ≡ dir) × (one ≡ name)) ⊎ ((target ≡ dir) × (another ≡ name))
TouchesBy other dir name = ⊥

-- a link is no name: an op without an effect touches none
abbrev pub Touches : StoreOp → Option Entry → Gfid → List ℕ → Type 0
Touches o None dir name = ⊥
Touches o (Some entry) dir name = TouchesBy o dir name

-- the directory that an op removes
abbrev pub Removes : StoreOp → Gfid → Type 0
Removes (op.DropDir parent name gfid) dir = gfid ≡ dir
Removes other dir = ⊥

-- the op gives birth to a cell of the object
abbrev pub BirthsOf : List (Cell × Content) → Gfid → Type 0
BirthsOf [] gfid = ⊥
BirthsOf (b ∷ bs) gfid = (b.0.gfid ≡ gfid) ⊎ BirthsOf bs gfid

abbrev pub Bears : StoreOp → Gfid → Type 0
Bears o gfid = BirthsOf (births o) gfid

-- the cell is one of them
abbrev pub Needs : List Cell → Cell → Type 0
Needs [] cell = ⊥
Needs (one ∷ cells) cell = (one ≡ cell) ⊎ Needs cells cell

-- The two touch no common name, and neither a name in a directory that the other removes; they give birth to no common object,
-- and need no common cell of a set.
pub record AreApart (a b : OpOn) : Type 0 where
  pub names : (dir : Gfid) (name : List ℕ) → Touches a.op a.effect dir name → Touches b.op b.effect dir name → ⊥
  pub inside : (dir : Gfid) (name : List ℕ) → Removes a.op dir → Touches b.op b.effect dir name → ⊥
  pub outside : (dir : Gfid) (name : List ℕ) → Removes b.op dir → Touches a.op a.effect dir name → ⊥
  pub born : (gfid : Gfid) → Bears a.op gfid → Bears b.op gfid → ⊥
  pub cells : a.set ≡ b.set → (cell : Cell) → Needs (needs a.op) cell → Needs (needs b.op) cell → ⊥

abbrev pub Fits : Volumes → ℕ → OpOn → Type 0
Fits s count o = FitsNow s count o.set o.op o.effect

abbrev pub after : Volumes → OpOn → Volumes
after s o = after_op s o.set o.op o.effect

-- Of two ops that fit and are apart, each fits after the other.
abbrev pub TwoOps : Type 0
TwoOps = (s : Volumes) (count : ℕ) (a b : OpOn) → ShownIsFlat s count → Fits s count a → Fits s count b → AreApart a b → Fits (after s a) count b

-- ---- any order

-- the ops of a list each fit when their turn comes, and the sets show the flat file system after each
abbrev pub FitInOrder : Volumes → ℕ → List OpOn → Type 0
FitInOrder s count [] = ShownIsFlat s count
FitInOrder s count (o ∷ os) = ShownIsFlat s count × Fits s count o × FitInOrder (after s o) count os

abbrev pub AreAllApart : List OpOn → Type 0
AreAllApart [] = Unit {0}
AreAllApart (o ∷ os) = Each (λ (other : OpOn). AreApart o other) os × AreAllApart os

-- Ops that fit and are apart, one by one, all fit in their order.
abbrev pub AllOps : Type 0
AllOps = (s : Volumes) (count : ℕ) (os : List OpOn) → ShownIsFlat s count → Each (λ (o : OpOn). Fits s count o) os → AreAllApart os → FitInOrder s count os
