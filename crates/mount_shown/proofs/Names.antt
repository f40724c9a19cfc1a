-- Items under a name: what is taken, what is a directory's, and what a name on a set says of every other change.
use Rattle.std.proofs.Common.{◌≡◌, ◌∙◌, ℕ, Bool, true, false, ◌&&◌, ◌||◌, not, refl, ap, List, [], ◌∷◌, length, Option, Some, None, if◌then◌else◌, nat_eq, arith}
use Rattle.std.specs.Cmp.Lexicographic.{pointwise}
use Rattle.std.specs.Ordering.{is_eq}
use Rattle.dht_linkto.specs.Known.{is_no_object}
use Rattle.fop_types.specs.Names.{item_named, is_link, is_directory, has_real_name}
use Rattle.fop_types.specs.Orders.{gfid_cmp}
use Rattle.fop_types.specs.StoreOps.{is_taken, is_directory_item, is_that_directory}
use Rattle.fop_types.specs.declared.cells.Gfid.{Gfid}
use Rattle.fop_types.specs.declared.cells.Kind.{Kind}
use Rattle.fop_types.specs.declared.cells.Kind.TheVariants as kind
use Rattle.fop_types.specs.declared.contents.Item.{Item}
use Rattle.mount_laws.proofs.Releasing.{gfid_itself}

pub untaken_no : (x : Option Item) → is_no_object x ≡ true → is_taken x ≡ false
untaken_no None e = refl
untaken_no (Some item) e = ap not e

pub no_directory_untaken : (x : Option Item) → is_taken x ≡ false → is_directory_item x ≡ false
no_directory_untaken None e = refl
no_directory_untaken (Some item) e = by_kind item.kind e
  where
    by_kind : (k : Kind) → not (is_link k) ≡ false → is_directory k ≡ false
    by_kind kind.File f = refl
    by_kind kind.Dir f = absurd cc
    by_kind kind.Link f = refl

pub no_real : (items : List Item) (name : List ℕ) → has_real_name items ≡ false → is_taken (item_named items name) ≡ false
no_real [] name e = refl
no_real (item ∷ items) name e = by_link (is_link item.kind) (λ f. no_real items name f) refl e
  where
    by_same : (b : Bool) → is_link item.kind ≡ true → is_taken (item_named items name) ≡ false → is_taken (if b then Some item else item_named items name) ≡ false
    by_same true l rest = ap not l
    by_same false l rest = rest

    by_link : (b : Bool) → (has_real_name items ≡ false → is_taken (item_named items name) ≡ false) → is_link item.kind ≡ b → (if b then has_real_name items else true) ≡ false → is_taken (if pointwise nat_eq item.name name then Some item else item_named items name) ≡ false
    by_link true rest l f = by_same (pointwise nat_eq item.name name) l (rest f)
    by_link false rest l f = absurd cc

pub some_that : (x : Option Item) (item : Item) (gfid : Gfid) → x ≡ Some item → item.kind ≡ kind.Dir → item.gfid ≡ gfid → is_that_directory x gfid ≡ true
some_that x item gfid e k g =
    ap (λ (y : Option Item). is_that_directory y gfid) e
    ∙ ap (λ (b : Bool). b && is_eq (gfid_cmp item.gfid gfid)) (ap is_directory k)
    ∙ ap (λ (y : Gfid). is_eq (gfid_cmp y gfid)) g ∙ gfid_itself gfid

pub either_no : (a b : Bool) → a ≡ false → b ≡ false → (a || b) ≡ false
either_no a b e f = ap (λ (x : Bool). x || b) e ∙ f

pub empty_by : {A : Type 0} (xs : List A) → length xs ≡ 0 → xs ≡ []
empty_by [] e = refl
empty_by (x ∷ xs) e = absurd (omega (arith, e))
