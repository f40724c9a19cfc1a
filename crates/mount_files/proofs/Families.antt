-- The names of a directory on all sets, after the item under one name on one set is another, or none.
use Rattle.std.proofs.Common.{◌≡◌, ◌≢◌, ◌⊎◌, inl, inr, ◌∙◌, ℕ, ◌<◌, ◌≤◌, ◌+◌, ◌==◌, Bool, true, false, not, List, [], ◌∷◌, Option, Some, None, if◌then◌else◌, refl, ap, sym, subst, arith}
use Rattle.std.proofs.lemmas.Bool.{eqb-true, eqb-false}
use Rattle.std.specs.List.{range_with_len}
use Rattle.contents.proofs.Orders.{item_in_rises, item_out_rises}
use Rattle.dht_fops.specs.Shown.{Homes}
use Rattle.fop_types.specs.Names.{item_named, with_item, without_item, is_link}
use Rattle.fop_types.specs.StoreOps.{is_taken}
use Rattle.fop_types.specs.declared.cells.Gfid.{Gfid}
use Rattle.fop_types.specs.declared.cells.Kind.{Kind}
use Rattle.fop_types.specs.declared.cells.Kind.TheVariants as kind
use Rattle.fop_types.specs.declared.contents.Item.{Item}
use Rattle.mount_files.proofs.Merges.{Family, over, over_rises, over_named, real_of, real_at, last_of, last_same, last_none, last_one}
use Rattle.mount_files.proofs.Rises.{same, same_is, same_self, IsRising, none_rises, same_items, named_with, named_without, rise_once}

abbrev pub taken_at : Family → List ℕ → ℕ → Bool
taken_at family n set = is_taken (item_named (family set) n)

-- an item that is no link is of an object that was made: a file on its home; and a directory's name is on the first set
pub record IsItemAt (kinds : Gfid → Option Kind) (homes : Homes) (set : ℕ) (item : Item) : Type 0 where
  pub made : kinds item.gfid ≡ Some item.kind
  pub at_home : item.kind ≡ kind.File → homes item.gfid ≡ set
  pub on_first : item.kind ≡ kind.Dir → set ≡ 0

pub record AreNamesSound (kinds : Gfid → Option Kind) (homes : Homes) (count : ℕ) (removed : Bool) (family : Family) : Type 0 where
  pub rising : (set : ℕ) → IsRising (family set)
  pub alone : (n : List ℕ) (a b : ℕ) → taken_at family n a ≡ true → taken_at family n b ≡ true → a ≡ b
  pub empty : (n : List ℕ) (set : ℕ) → removed ≡ true → taken_at family n set ≡ false
  pub made : (n : List ℕ) (set : ℕ) (item : Item) → item_named (family set) n ≡ Some item → is_link item.kind ≡ false → IsItemAt kinds homes set item
  pub within : (n : List ℕ) (set : ℕ) → taken_at family n set ≡ true → set < count

-- ---- names that are taken

pub real_none : (t : Option Item) → is_taken t ≡ false → real_of t ≡ None
real_none None e = refl
real_none (Some item) e = by_link (is_link item.kind) e
  where
    by_link : (b : Bool) → not b ≡ false → (if b then None else Some item) ≡ None
    by_link true f = refl
    by_link false f = absurd cc

pub real_some : (item : Item) → is_link item.kind ≡ false → real_of (Some item) ≡ Some item
real_some item e = ap (λ (b : Bool). if b then None else Some item) e

pub taken_some : (item : Item) → is_link item.kind ≡ false → is_taken (Some item) ≡ true
taken_some item e = ap not e

pub untaken_by : (b : Bool) → (b ≡ true → ⊥) → b ≡ false
untaken_by true h = absurd (h refl)
untaken_by false h = refl

pub record IsTaken (t : Option Item) : Type 0 where
  pub item : Item
  pub item_is : t ≡ Some item
  pub no_link : is_link item.kind ≡ false

pub taken_item : (t : Option Item) → is_taken t ≡ true → IsTaken t
taken_item None e = absurd cc
taken_item (Some item) e = record { item = item; item_is = refl; no_link = by_link (is_link item.kind) e }
  where
    by_link : (b : Bool) → not b ≡ true → b ≡ false
    by_link true f = absurd cc
    by_link false f = refl

-- a name that one set has is among the names of all
pub over_here : (kinds : Gfid → Option Kind) (homes : Homes) (count : ℕ) (removed : Bool) (family : Family) (n : List ℕ) (set : ℕ) (item : Item) → AreNamesSound kinds homes count removed family
    → item_named (family set) n ≡ Some item → is_link item.kind ≡ false → item_named (over family (range_with_len 0 count) []) n ≡ Some item
over_here kinds homes count removed family n set item sound e l =
    over_named family (range_with_len 0 count) [] n sound.rising
    ∙ last_one (real_at family n) set item count 0 None (omega arith) (let low = sound.within n set taken in omega (arith, low)) (ap real_of e ∙ real_some item l) others
  where
    taken : taken_at family n set ≡ true
    taken = ap is_taken e ∙ taken_some item l

    others : (other : ℕ) → other ≢ set → real_at family n other ≡ None
    others other d = real_none (item_named (family other) n) (untaken_by (taken_at family n other) (λ f. d (sound.alone n other set f taken)))

-- a name that is not among them is on none
pub over_free : (kinds : Gfid → Option Kind) (homes : Homes) (count : ℕ) (removed : Bool) (family : Family) (n : List ℕ) (set : ℕ) → AreNamesSound kinds homes count removed family
    → item_named (over family (range_with_len 0 count) []) n ≡ None → taken_at family n set ≡ false
over_free kinds homes count removed family n set sound free =
    untaken_by (taken_at family n set)
    (λ e. let t = taken_item (item_named (family set) n) e in clash (over_here kinds homes count removed family n set t.item sound t.item_is t.no_link))
  where
    clash : {item : Item} → item_named (over family (range_with_len 0 count) []) n ≡ Some item → ⊥
    clash e = absurd cc

-- ---- one name on one set

-- the new lists have `x` under this name on this set, and else what the old ones have
pub record Differs (old new : Family) (set : ℕ) (n : List ℕ) (x : Option Item) : Type 0 where
  pub rising : (s : ℕ) → IsRising (new s)
  pub here : (m : List ℕ) → item_named (new set) m ≡ (if same n m then x else item_named (old set) m)
  pub others : (s : ℕ) → s ≢ set → new s ≡ old s

pub record IsHere (new : Family) (set : ℕ) (n : List ℕ) (x : Option Item) (s : ℕ) (m : List ℕ) : Type 0 where
  pub set_is : s ≡ set
  pub name_is : n ≡ m
  pub item_is : item_named (new s) m ≡ x

module _ (old new : Family) (set : ℕ) (n : List ℕ) (x : Option Item) (d : Differs old new set n x) where
  pub named_new : (s : ℕ) (m : List ℕ) → (item_named (new s) m ≡ item_named (old s) m) ⊎ IsHere new set n x s m
  named_new s m = by_case (s == set) (same n m) refl refl
    where
      by_case : (a b : Bool) → (s == set) ≡ a → same n m ≡ b → (item_named (new s) m ≡ item_named (old s) m) ⊎ IsHere new set n x s m
      by_case true true e f =
          let at : s ≡ set = eqb-true s set e in
          inr (record { set_is = at; name_is = same_is n m f; item_is = ap (λ (k : ℕ). item_named (new k) m) at ∙ d.here m ∙ ap (λ (b : Bool). if b then x else item_named (old set) m) f })
      by_case true false e f =
          let at : s ≡ set = eqb-true s set e in
          inl (subst (λ (k : ℕ). item_named (new k) m ≡ item_named (old k) m) (sym at) (d.here m ∙ ap (λ (b : Bool). if b then x else item_named (old set) m) f))
      by_case false b e f = inl (ap (λ (l : List Item). item_named l m) (d.others s (eqb-false s set e)))

  pub named_off : (s : ℕ) (m : List ℕ) → same n m ≡ false → item_named (new s) m ≡ item_named (old s) m
  named_off s m e = by_case (named_new s m)
    where
      by_case : (item_named (new s) m ≡ item_named (old s) m) ⊎ IsHere new set n x s m → item_named (new s) m ≡ item_named (old s) m
      by_case (inl f) = f
      by_case (inr h) = let yes : same n m ≡ true = subst (λ (k : List ℕ). same n k ≡ true) h.name_is (same_self n) in absurd cc

  named_at : item_named (new set) n ≡ x
  named_at = d.here n ∙ ap (λ (b : Bool). if b then x else item_named (old set) n) (same_self n)

  module _ (kinds : Gfid → Option Kind) (homes : Homes) (count : ℕ) (removed : Bool) (sound : AreNamesSound kinds homes count removed old)
      (kept : is_taken x ≡ true → removed ≡ false) (free : is_taken x ≡ true → (s : ℕ) → s ≢ set → taken_at old n s ≡ false)
      (item_made : (item : Item) → x ≡ Some item → is_link item.kind ≡ false → IsItemAt kinds homes set item) (low : is_taken x ≡ true → set < count) where
    -- a set where an old name is, beside that of the new one
    beside : (s : ℕ) (m : List ℕ) → n ≡ m → is_taken x ≡ true → taken_at old m s ≡ true → s ≡ set
    beside s m e t h = by_case (s == set) refl
      where
        by_case : (b : Bool) → (s == set) ≡ b → s ≡ set
        by_case true f = eqb-true s set f
        by_case false f = let no : taken_at old m s ≡ false = subst (λ (k : List ℕ). taken_at old k s ≡ false) e (free t s (eqb-false s set f)) in absurd cc

    alone_new : (m : List ℕ) (a b : ℕ) → taken_at new m a ≡ true → taken_at new m b ≡ true → a ≡ b
    alone_new m a b e f = by_case (named_new a m) (named_new b m)
      where
        by_case : (item_named (new a) m ≡ item_named (old a) m) ⊎ IsHere new set n x a m → (item_named (new b) m ≡ item_named (old b) m) ⊎ IsHere new set n x b m → a ≡ b
        by_case (inl g) (inl h) = sound.alone m a b (ap is_taken (sym g) ∙ e) (ap is_taken (sym h) ∙ f)
        by_case (inl g) (inr h) = beside a m h.name_is (ap is_taken (sym h.item_is) ∙ f) (ap is_taken (sym g) ∙ e) ∙ sym h.set_is
        by_case (inr g) (inl h) = g.set_is ∙ sym (beside b m g.name_is (ap is_taken (sym g.item_is) ∙ e) (ap is_taken (sym h) ∙ f))
        by_case (inr g) (inr h) = g.set_is ∙ sym h.set_is

    empty_new : (m : List ℕ) (s : ℕ) → removed ≡ true → taken_at new m s ≡ false
    empty_new m s r = by_case (named_new s m)
      where
        clash : is_taken x ≡ true → ⊥
        clash t = let no : removed ≡ false = kept t in absurd cc

        by_case : (item_named (new s) m ≡ item_named (old s) m) ⊎ IsHere new set n x s m → taken_at new m s ≡ false
        by_case (inl g) = ap is_taken g ∙ sound.empty m s r
        by_case (inr h) = ap is_taken h.item_is ∙ untaken_by (is_taken x) clash

    made_new : (m : List ℕ) (s : ℕ) (item : Item) → item_named (new s) m ≡ Some item → is_link item.kind ≡ false → IsItemAt kinds homes s item
    made_new m s item e l = by_case (named_new s m)
      where
        by_case : (item_named (new s) m ≡ item_named (old s) m) ⊎ IsHere new set n x s m → IsItemAt kinds homes s item
        by_case (inl g) = sound.made m s item (sym g ∙ e) l
        by_case (inr h) = subst (λ (k : ℕ). IsItemAt kinds homes k item) (sym h.set_is) (item_made item (sym h.item_is ∙ e) l)

    within_new : (m : List ℕ) (s : ℕ) → taken_at new m s ≡ true → s < count
    within_new m s e = by_case (named_new s m)
      where
        by_case : (item_named (new s) m ≡ item_named (old s) m) ⊎ IsHere new set n x s m → s < count
        by_case (inl g) = sound.within m s (ap is_taken (sym g) ∙ e)
        by_case (inr h) = subst (λ (k : ℕ). k < count) (sym h.set_is) (low (ap is_taken (sym h.item_is) ∙ e))

    pub sound_new : AreNamesSound kinds homes count removed new
    sound_new = record { rising = d.rising; alone = alone_new; empty = empty_new; made = made_new; within = within_new }

  -- ---- what all sets show

  module _ (count : ℕ) (rising : (s : ℕ) → IsRising (old s)) where
    abbrev shown : Family → List Item
    shown family = over family (range_with_len 0 count) []

    shown_off : (m : List ℕ) → same n m ≡ false → item_named (shown new) m ≡ item_named (shown old) m
    shown_off m e =
        over_named new (range_with_len 0 count) [] m d.rising
        ∙ last_same (real_at new m) (real_at old m) (range_with_len 0 count) None (λ s. ap real_of (named_off s m e))
        ∙ sym (over_named old (range_with_len 0 count) [] m rising)

    shown_rises : (family : Family) → ((s : ℕ) → IsRising (family s)) → IsRising (shown family)
    shown_rises family all = over_rises family (range_with_len 0 count) [] all none_rises

    -- no other set has the name
    others_none : ((s : ℕ) → s ≢ set → taken_at old n s ≡ false) → (s : ℕ) → s ≢ set → real_at new n s ≡ None
    others_none free s e = ap (λ (l : List Item). real_of (item_named l n)) (d.others s e) ∙ real_none (item_named (old s) n) (free s e)

    pub put_shown : (item : Item) → x ≡ Some item → is_link item.kind ≡ false → n ≡ item.name → set < count → ((s : ℕ) → s ≢ set → taken_at old n s ≡ false) → shown new ≡ with_item (shown old) item
    put_shown item e l name_is low free =
        same_items (shown new) (with_item (shown old) item) (shown_rises new d.rising) (item_in_rises (shown old) item (shown_rises old rising)) (λ m. by_case m (same n m) refl)
      where
        at : real_at new n set ≡ Some item
        at = ap real_of (named_at ∙ e) ∙ real_some item l

        put : (m : List ℕ) (b : Bool) → same n m ≡ b → item_named (with_item (shown old) item) m ≡ (if b then Some item else item_named (shown old) m)
        put m b f = named_with (shown old) item m ∙ ap (λ (k : Bool). if k then Some item else item_named (shown old) m) (subst (λ (k : List ℕ). same k m ≡ b) name_is f)

        by_case : (m : List ℕ) (b : Bool) → same n m ≡ b → item_named (shown new) m ≡ item_named (with_item (shown old) item) m
        by_case m true f =
            subst (λ (k : List ℕ). item_named (shown new) k ≡ Some item) (same_is n m f)
            (over_named new (range_with_len 0 count) [] n d.rising ∙ last_one (real_at new n) set item count 0 None (omega arith) (omega arith) at (others_none free))
            ∙ sym (put m true f)
        by_case m false f = shown_off m f ∙ sym (put m false f)

    -- nothing is shown under the name, where the set has no file or directory of it
    shown_none : is_taken x ≡ false → ((s : ℕ) → s ≢ set → taken_at old n s ≡ false) → item_named (shown new) n ≡ None
    shown_none e free =
        over_named new (range_with_len 0 count) [] n d.rising
        ∙ last_none (real_at new n) (range_with_len 0 count) None (λ s. by_case s (s == set) refl)
      where
        by_case : (s : ℕ) (b : Bool) → (s == set) ≡ b → real_at new n s ≡ None
        by_case s true f = subst (λ (k : ℕ). real_at new n k ≡ None) (sym (eqb-true s set f)) (ap real_of named_at ∙ real_none x e)
        by_case s false f = others_none free s (eqb-false s set f)

    pub drop_shown : is_taken x ≡ false → ((s : ℕ) → s ≢ set → taken_at old n s ≡ false) → shown new ≡ without_item (shown old) n
    drop_shown e free =
        same_items (shown new) (without_item (shown old) n) (shown_rises new d.rising) (item_out_rises (shown old) n rises) (λ m. by_case m (same n m) refl)
      where
        rises : IsRising (shown old)
        rises = shown_rises old rising

        dropped : (m : List ℕ) (b : Bool) → same n m ≡ b → item_named (without_item (shown old) n) m ≡ (if b then None else item_named (shown old) m)
        dropped m b f = named_without (shown old) n m (rise_once (shown old) rises) ∙ ap (λ (k : Bool). if k then None else item_named (shown old) m) f

        by_case : (m : List ℕ) (b : Bool) → same n m ≡ b → item_named (shown new) m ≡ item_named (without_item (shown old) n) m
        by_case m true f = subst (λ (k : List ℕ). item_named (shown new) k ≡ None) (same_is n m f) (shown_none e free) ∙ sym (dropped m true f)
        by_case m false f = shown_off m f ∙ sym (dropped m false f)

    -- a link more or less shows nothing
    pub link_shown : is_taken x ≡ false → taken_at old n set ≡ false → shown new ≡ shown old
    link_shown e f =
        same_items (shown new) (shown old) (shown_rises new d.rising) (shown_rises old rising)
        (λ m. over_named new (range_with_len 0 count) [] m d.rising ∙ last_same (real_at new m) (real_at old m) (range_with_len 0 count) None (λ s. real_same s m) ∙ sym (over_named old (range_with_len 0 count) [] m rising))
      where
        real_same : (s : ℕ) (m : List ℕ) → real_at new m s ≡ real_at old m s
        real_same s m = by_case (named_new s m)
          where
            by_case : (item_named (new s) m ≡ item_named (old s) m) ⊎ IsHere new set n x s m → real_at new m s ≡ real_at old m s
            by_case (inl g) = ap real_of g
            by_case (inr h) =
                let none : taken_at old m s ≡ false = subst (λ (k : ℕ). taken_at old m k ≡ false) (sym h.set_is) (subst (λ (k : List ℕ). taken_at old k set ≡ false) h.name_is f) in
                ap real_of h.item_is ∙ real_none x e ∙ sym (real_none (item_named (old s) m) none)
