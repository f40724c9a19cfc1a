-- The parts of a fop: itself, and the unlink that a rename may make before.
use Rattle.std.proofs.Common.{◌≡◌, ◌⊎◌, inl, inr, ◌∙◌, ℕ, ◌==◌, Bool, true, false, refl, sym, ap, List, Option, Some, None, if◌then◌else◌}
use Rattle.std.proofs.lemmas.Bool.{eqb-true}
use Rattle.fop_types.specs.Names.{is_same_name}
use Rattle.fop_types.specs.declared.cells.Gfid.{Gfid}
use Rattle.fop_types.specs.declared.flat.FlatOp.{FlatOp}
use Rattle.fop_types.specs.declared.flat.FlatOp.TheVariants as flat
use Rattle.mount_laws.specs.Effects.{part_of, is_rename}
use Rattle.mount_laws.proofs.Drawing.{one_part}

-- the unlink of a file of a rename's new name
pub record IsFirstPart (o : FlatOp) (number : ℕ) (p : FlatOp) : Type 0 where
  pub parent : Gfid
  pub name : List ℕ
  pub target : Gfid
  pub new_name : List ℕ
  pub whole : o ≡ flat.Rename parent name target new_name
  pub differ : is_same_name parent name target new_name ≡ false
  pub number_is : number ≡ 1
  pub part_is : p ≡ flat.Unlink target new_name

-- the fop's own operation
pub record IsWholePart (o : FlatOp) (number : ℕ) (p : FlatOp) : Type 0 where
  pub whole : o ≡ p
  pub number_is : number ≡ (if is_rename o then 2 else 1)

unwrap : (a b : FlatOp) → ◌≡◌ {A = Option FlatOp} (Some a) (Some b) → a ≡ b
unwrap a b e = cc

rename_part : (parent : Gfid) (name : List ℕ) (target : Gfid) (new_name : List ℕ) (number : ℕ) (p : FlatOp) → part_of (Some (flat.Rename parent name target new_name)) number ≡ Some p
    → IsWholePart (flat.Rename parent name target new_name) number p ⊎ IsFirstPart (flat.Rename parent name target new_name) number p
rename_part parent name target new_name number p h = by_last (number == 2) refl (number == 1) refl (is_same_name parent name target new_name) refl h
  where
    by_last : (a : Bool) → (number == 2) ≡ a → (b : Bool) → (number == 1) ≡ b → (c : Bool) → is_same_name parent name target new_name ≡ c
        → (if a then Some (flat.Rename parent name target new_name) else (if b then (if c then None else Some (flat.Unlink target new_name)) else None)) ≡ Some p
        → IsWholePart (flat.Rename parent name target new_name) number p ⊎ IsFirstPart (flat.Rename parent name target new_name) number p
    by_last true e b f c g k = inl (record { whole = unwrap (flat.Rename parent name target new_name) p k; number_is = eqb-true number 2 e })
    by_last false e true f true g k = absurd cc
    by_last false e true f false g k =
        inr (record { parent = parent; name = name; target = target; new_name = new_name; whole = refl; differ = g; number_is = eqb-true number 1 f; part_is = sym (unwrap (flat.Unlink target new_name) p k) })
    by_last false e false f c g k = absurd cc

plain_part : (o : FlatOp) (number : ℕ) (p : FlatOp) → is_rename o ≡ false → part_of (Some o) number ≡ Some p → IsWholePart o number p ⊎ IsFirstPart o number p
plain_part o number p plain h =
    let k = one_part o number p plain h in
    inl (record { whole = k.0; number_is = k.1 ∙ sym (ap (λ (b : Bool). if b then 2 else 1) plain) })

pub part_is : (o : FlatOp) (number : ℕ) (p : FlatOp) → part_of (Some o) number ≡ Some p → IsWholePart o number p ⊎ IsFirstPart o number p
part_is (flat.Rename parent name target new_name) number p h = rename_part parent name target new_name number p h
part_is (flat.Lookup parent name) number p h = plain_part (flat.Lookup parent name) number p refl h
part_is (flat.Mkdir parent name mode drawn) number p h = plain_part (flat.Mkdir parent name mode drawn) number p refl h
part_is (flat.Rmdir parent name) number p h = plain_part (flat.Rmdir parent name) number p refl h
part_is (flat.Create parent name mode drawn) number p h = plain_part (flat.Create parent name mode drawn) number p refl h
part_is (flat.Unlink parent name) number p h = plain_part (flat.Unlink parent name) number p refl h
part_is (flat.Open gfid) number p h = plain_part (flat.Open gfid) number p refl h
part_is (flat.Stat gfid) number p h = plain_part (flat.Stat gfid) number p refl h
part_is (flat.List gfid) number p h = plain_part (flat.List gfid) number p refl h
part_is (flat.Chmod gfid mode) number p h = plain_part (flat.Chmod gfid mode) number p refl h
part_is (flat.Truncate gfid size) number p h = plain_part (flat.Truncate gfid size) number p refl h
part_is (flat.SetAttr gfid attr) number p h = plain_part (flat.SetAttr gfid attr) number p refl h
part_is (flat.GetAttr gfid name) number p h = plain_part (flat.GetAttr gfid name) number p refl h
part_is (flat.DelAttr gfid name) number p h = plain_part (flat.DelAttr gfid name) number p refl h
part_is (flat.Read gfid offset count) number p h = plain_part (flat.Read gfid offset count) number p refl h
part_is (flat.Write gfid offset bytes) number p h = plain_part (flat.Write gfid offset bytes) number p refl h

-- ---- of a fop that has an operation

pub record IsPart (fo : Option FlatOp) (number : ℕ) (p : FlatOp) : Type 0 where
  pub o : FlatOp
  pub fop_is : fo ≡ Some o
  pub part : IsWholePart o number p ⊎ IsFirstPart o number p

pub fop_part : (fo : Option FlatOp) (number : ℕ) (p : FlatOp) → part_of fo number ≡ Some p → IsPart fo number p
fop_part None number p h = absurd cc
fop_part (Some o) number p h = record { o = o; fop_is = refl; part = part_is o number p h }

-- the numbers of parts
pub one_or_two : (fo : Option FlatOp) (number : ℕ) (p : FlatOp) → part_of fo number ≡ Some p → (number ≡ 1) ⊎ (number ≡ 2)
one_or_two fo number p h = by_part (fop_part fo number p h).part
  where
    by_rename : (o : FlatOp) (b : Bool) → is_rename o ≡ b → number ≡ (if is_rename o then 2 else 1) → (number ≡ 1) ⊎ (number ≡ 2)
    by_rename o true e n = inr (n ∙ ap (λ (x : Bool). if x then 2 else 1) e)
    by_rename o false e n = inl (n ∙ ap (λ (x : Bool). if x then 2 else 1) e)

    by_part : {o : FlatOp} → IsWholePart o number p ⊎ IsFirstPart o number p → (number ≡ 1) ⊎ (number ≡ 2)
    by_part {o} (inl w) = by_rename o (is_rename o) refl w.number_is
    by_part (inr f) = inl f.number_is

-- a rename is its own part 2
pub rename_is_last : (fo : Option FlatOp) (number : ℕ) (parent : Gfid) (name : List ℕ) (target : Gfid) (new_name : List ℕ) → part_of fo number ≡ Some (flat.Rename parent name target new_name) → (fo ≡ Some (flat.Rename parent name target new_name)) × (number ≡ 2)
rename_is_last fo number parent name target new_name h = by_part (fop_part fo number (flat.Rename parent name target new_name) h)
  where
    by_one : (o : FlatOp) → fo ≡ Some o → IsWholePart o number (flat.Rename parent name target new_name) ⊎ IsFirstPart o number (flat.Rename parent name target new_name) → (fo ≡ Some (flat.Rename parent name target new_name)) × (number ≡ 2)
    by_one o e (inl w) = (e ∙ ap (λ (x : FlatOp). Some x) w.whole, w.number_is ∙ ap (λ (x : FlatOp). if is_rename x then 2 else 1) w.whole)
    by_one o e (inr f) = let clash : flat.Rename parent name target new_name ≡ flat.Unlink f.target f.new_name = f.part_is in absurd cc

    by_part : IsPart fo number (flat.Rename parent name target new_name) → (fo ≡ Some (flat.Rename parent name target new_name)) × (number ≡ 2)
    by_part k = by_one k.o k.fop_is k.part

-- a fop that drops a file's name removes no directory
pub no_rmdir : (fo : Option FlatOp) (one other : ℕ) (a : Gfid) (b : List ℕ) (p : Gfid) (q : List ℕ) → part_of fo one ≡ Some (flat.Unlink a b) → part_of fo other ≡ Some (flat.Rmdir p q) → ⊥
no_rmdir fo one other a b p q h k = by_part (fop_part fo one (flat.Unlink a b) h) (fop_part fo other (flat.Rmdir p q) k)
  where
    by_other : (o : FlatOp) → IsWholePart o other (flat.Rmdir p q) ⊎ IsFirstPart o other (flat.Rmdir p q) → o ≡ flat.Rmdir p q
    by_other o (inl w) = w.whole
    by_other o (inr f) = let clash : flat.Rmdir p q ≡ flat.Unlink f.target f.new_name = f.part_is in absurd cc

    by_one : (o : FlatOp) → o ≡ flat.Rmdir p q → IsWholePart o one (flat.Unlink a b) ⊎ IsFirstPart o one (flat.Unlink a b) → ⊥
    by_one o e (inl w) = let clash : flat.Rmdir p q ≡ flat.Unlink a b = sym e ∙ w.whole in absurd cc
    by_one o e (inr f) = let clash : flat.Rmdir p q ≡ flat.Rename f.parent f.name f.target f.new_name = sym e ∙ f.whole in absurd cc

    by_part : IsPart fo one (flat.Unlink a b) → IsPart fo other (flat.Rmdir p q) → ⊥
    by_part x y =
        let same : x.o ≡ y.o = unwrap x.o y.o (sym x.fop_is ∙ y.fop_is) in
        by_one x.o (same ∙ by_other y.o y.part) x.part
