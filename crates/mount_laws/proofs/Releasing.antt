-- What is left of holds, cells, settled jobs and sights when an object is released.
use Rattle.std.proofs.Common.{◌≡◌, ◌∙◌, ◌⊎◌, inl, inr, Bool, true, false, refl, sym, ap, subst, List, [], ◌∷◌, if◌then◌else◌}
use Rattle.std.specs.Prelude.{◌≢◌, ◌||◌}
use Rattle.std.proofs.lemmas.Cmp.{tied_itself}
use Rattle.std.specs.Ordering.{is_eq}
use Rattle.std.specs.declared.cmp.Ordering.{Ordering}
use Rattle.std.specs.declared.cmp.Ordering.TheVariants.{Less, Equal, Greater}
use Rattle.afr_machine.specs.Touching.{is_cell, has_cell, share}
use Rattle.dht_fops.specs.Shown.{SetContents}
use Rattle.fop_types.proofs.MapLemmas.{gfid_exact, gfid_cmp_total}
use Rattle.fop_types.specs.Bounds.{Each}
use Rattle.fop_types.specs.Orders.{gfid_cmp}
use Rattle.fop_types.specs.declared.cells.Cell.{Cell}
use Rattle.fop_types.specs.declared.cells.Gfid.{Gfid}
use Rattle.mount_laws.specs.Holding.{AreHeld, AreHeldExclusively}
use Rattle.mount_laws.specs.Holds.{Hold, Holds, HoldsExclusively, holds_without}
use Rattle.mount_laws.specs.Runs.{SettledJob, Sight, cells_without, jobs_without, sights_without}
use Rattle.mount_laws.specs.Seeing.{IsListed, WasSettled, StandsAsSeen}
use Rattle.mount_laws.proofs.Sharing.{cells_are, or_right}

-- ---- gfids

pub gfids_are : (a b : Gfid) → is_eq (gfid_cmp a b) ≡ true → a ≡ b
gfids_are a b h = by_order (gfid_cmp a b) refl h
  where
    by_order : (o : Ordering) → gfid_cmp a b ≡ o → is_eq o ≡ true → a ≡ b
    by_order Less e h = absurd cc
    by_order Equal e h = gfid_exact a b e
    by_order Greater e h = absurd cc

pub gfid_itself : (a : Gfid) → is_eq (gfid_cmp a a) ≡ true
gfid_itself a = ap is_eq (tied_itself gfid_cmp_total a)

pub gfids_differ : (a b : Gfid) → is_eq (gfid_cmp a b) ≡ false → a ≢ b
gfids_differ a b h e = let clash : true ≡ false = sym (gfid_itself b) ∙ subst (λ (g : Gfid). is_eq (gfid_cmp g b) ≡ false) e h in absurd cc

-- ---- holds

pub fewer_holds : (gfid : Gfid) (hs : List Hold) (x : Gfid) → Holds (holds_without gfid hs) x → Holds hs x
fewer_holds gfid [] x h = h
fewer_holds gfid (one ∷ hs) x h = by_case (is_eq (gfid_cmp one.gfid gfid)) (λ k. fewer_holds gfid hs x k) h
  where
    by_case : (b : Bool) → (Holds (holds_without gfid hs) x → Holds hs x) → Holds (if b then holds_without gfid hs else one ∷ holds_without gfid hs) x → Holds (one ∷ hs) x
    by_case true more k = inr (more k)
    by_case false more (inl e) = inl e
    by_case false more (inr k) = inr (more k)

pub fewer_exclusive : (gfid : Gfid) (hs : List Hold) (x : Gfid) → HoldsExclusively (holds_without gfid hs) x → HoldsExclusively hs x
fewer_exclusive gfid [] x h = h
fewer_exclusive gfid (one ∷ hs) x h = by_case (is_eq (gfid_cmp one.gfid gfid)) (λ k. fewer_exclusive gfid hs x k) h
  where
    by_case : (b : Bool) → (HoldsExclusively (holds_without gfid hs) x → HoldsExclusively hs x) → HoldsExclusively (if b then holds_without gfid hs else one ∷ holds_without gfid hs) x → HoldsExclusively (one ∷ hs) x
    by_case true more k = inr (more k)
    by_case false more (inl e) = inl e
    by_case false more (inr k) = inr (more k)

pub without_or : (gfid : Gfid) (hs : List Hold) (x : Gfid) → Holds hs x → Holds (holds_without gfid hs) x ⊎ (x ≡ gfid)
without_or gfid [] x h = absurd h
without_or gfid (one ∷ hs) x (inl e) = by_case (is_eq (gfid_cmp one.gfid gfid)) refl
  where
    by_case : (b : Bool) → is_eq (gfid_cmp one.gfid gfid) ≡ b → Holds (if b then holds_without gfid hs else one ∷ holds_without gfid hs) x ⊎ (x ≡ gfid)
    by_case true same = inr (sym e ∙ gfids_are one.gfid gfid same)
    by_case false other = inl (inl e)
without_or gfid (one ∷ hs) x (inr h) = by_case (is_eq (gfid_cmp one.gfid gfid)) (without_or gfid hs x h)
  where
    by_case : (b : Bool) → Holds (holds_without gfid hs) x ⊎ (x ≡ gfid) → Holds (if b then holds_without gfid hs else one ∷ holds_without gfid hs) x ⊎ (x ≡ gfid)
    by_case b (inr e) = inr e
    by_case true (inl k) = inl k
    by_case false (inl k) = inl (inr k)

pub without_or_exclusive : (gfid : Gfid) (hs : List Hold) (x : Gfid) → HoldsExclusively hs x → HoldsExclusively (holds_without gfid hs) x ⊎ (x ≡ gfid)
without_or_exclusive gfid [] x h = absurd h
without_or_exclusive gfid (one ∷ hs) x (inl e) = by_case (is_eq (gfid_cmp one.gfid gfid)) refl
  where
    by_case : (b : Bool) → is_eq (gfid_cmp one.gfid gfid) ≡ b → HoldsExclusively (if b then holds_without gfid hs else one ∷ holds_without gfid hs) x ⊎ (x ≡ gfid)
    by_case true same = inr (sym e.0 ∙ gfids_are one.gfid gfid same)
    by_case false other = inl (inl e)
without_or_exclusive gfid (one ∷ hs) x (inr h) = by_case (is_eq (gfid_cmp one.gfid gfid)) (without_or_exclusive gfid hs x h)
  where
    by_case : (b : Bool) → HoldsExclusively (holds_without gfid hs) x ⊎ (x ≡ gfid) → HoldsExclusively (if b then holds_without gfid hs else one ∷ holds_without gfid hs) x ⊎ (x ≡ gfid)
    by_case b (inr e) = inr e
    by_case true (inl k) = inl k
    by_case false (inl k) = inl (inr k)

-- cells of other objects
pub held_without : (gfid : Gfid) (hs : List Hold) (cells : List Cell) → AreHeldExclusively hs cells → Each (λ (cell : Cell). cell.gfid ≢ gfid) cells → AreHeldExclusively (holds_without gfid hs) cells
held_without gfid hs [] h others = tt
held_without gfid hs (cell ∷ cells) h others = (by_case (without_or_exclusive gfid hs cell.gfid h.0), held_without gfid hs cells h.1 others.1)
  where
    by_case : HoldsExclusively (holds_without gfid hs) cell.gfid ⊎ (cell.gfid ≡ gfid) → HoldsExclusively (holds_without gfid hs) cell.gfid
    by_case (inl k) = k
    by_case (inr e) = absurd (others.0 e)

-- ---- cells

pub cells_held : (gfid : Gfid) (hs : List Hold) (cells : List Cell) → AreHeld hs cells → AreHeld (holds_without gfid hs) (cells_without gfid cells)
cells_held gfid hs [] h = tt
cells_held gfid hs (cell ∷ cells) h = by_case (is_eq (gfid_cmp cell.gfid gfid)) refl (cells_held gfid hs cells h.1)
  where
    by_hold : cell.gfid ≢ gfid → Holds (holds_without gfid hs) cell.gfid ⊎ (cell.gfid ≡ gfid) → Holds (holds_without gfid hs) cell.gfid
    by_hold other (inl k) = k
    by_hold other (inr e) = absurd (other e)

    by_case : (b : Bool) → is_eq (gfid_cmp cell.gfid gfid) ≡ b → AreHeld (holds_without gfid hs) (cells_without gfid cells) → AreHeld (holds_without gfid hs) (if b then cells_without gfid cells else cell ∷ cells_without gfid cells)
    by_case true same rest = rest
    by_case false other rest = (by_hold (gfids_differ cell.gfid gfid other) (without_or gfid hs cell.gfid h.0), rest)

fewer_cells : (gfid : Gfid) (cells : List Cell) (x : Cell) → has_cell (cells_without gfid cells) x ≡ true → has_cell cells x ≡ true
fewer_cells gfid [] x h = h
fewer_cells gfid (cell ∷ cells) x h = by_case (is_eq (gfid_cmp cell.gfid gfid)) (λ k. fewer_cells gfid cells x k) h
  where
    by_cell : (b : Bool) → (has_cell (cells_without gfid cells) x ≡ true → has_cell cells x ≡ true) → (b || has_cell (cells_without gfid cells) x) ≡ true → (b || has_cell cells x) ≡ true
    by_cell true more k = refl
    by_cell false more k = more k

    by_case : (b : Bool) → (has_cell (cells_without gfid cells) x ≡ true → has_cell cells x ≡ true) → has_cell (if b then cells_without gfid cells else cell ∷ cells_without gfid cells) x ≡ true → has_cell (cell ∷ cells) x ≡ true
    by_case true more k = or_right (is_cell x cell) (has_cell cells x) (more k)
    by_case false more k = by_cell (is_cell x cell) more k

pub fewer_share : (gfid : Gfid) (xs ys : List Cell) → share xs (cells_without gfid ys) ≡ true → share xs ys ≡ true
fewer_share gfid [] ys h = h
fewer_share gfid (x ∷ xs) ys h = by_case (has_cell (cells_without gfid ys) x) refl (λ k. fewer_share gfid xs ys k) h
  where
    front : (b : Bool) → b ≡ true → (b || share xs ys) ≡ true
    front true e = refl
    front false e = absurd cc

    by_case : (b : Bool) → has_cell (cells_without gfid ys) x ≡ b → (share xs (cells_without gfid ys) ≡ true → share xs ys ≡ true) → (b || share xs (cells_without gfid ys)) ≡ true → (has_cell ys x || share xs ys) ≡ true
    by_case true e more k = front (has_cell ys x) (fewer_cells gfid ys x e)
    by_case false e more k = or_right (has_cell ys x) (share xs ys) (more k)

has_without : (gfid : Gfid) (cells : List Cell) (x : Cell) → has_cell cells x ≡ true → x.gfid ≢ gfid → has_cell (cells_without gfid cells) x ≡ true
has_without gfid [] x h other = h
has_without gfid (cell ∷ cells) x h other = by_cell (is_cell x cell) refl (λ k. has_without gfid cells x k other) h
  where
    by_first : (b : Bool) → is_eq (gfid_cmp cell.gfid gfid) ≡ b → is_cell x cell ≡ true → has_cell (if b then cells_without gfid cells else cell ∷ cells_without gfid cells) x ≡ true
    by_first true same is = absurd (other (ap (λ (c : Cell). c.gfid) (cells_are x cell is) ∙ gfids_are cell.gfid gfid same))
    by_first false differ is = ap (λ b. b || has_cell (cells_without gfid cells) x) is

    by_rest : (b : Bool) → has_cell (cells_without gfid cells) x ≡ true → has_cell (if b then cells_without gfid cells else cell ∷ cells_without gfid cells) x ≡ true
    by_rest true k = k
    by_rest false k = or_right (is_cell x cell) (has_cell (cells_without gfid cells) x) k

    by_cell : (b : Bool) → is_cell x cell ≡ b → (has_cell cells x ≡ true → has_cell (cells_without gfid cells) x ≡ true) → (b || has_cell cells x) ≡ true → has_cell (if is_eq (gfid_cmp cell.gfid gfid) then cells_without gfid cells else cell ∷ cells_without gfid cells) x ≡ true
    by_cell true is more k = by_first (is_eq (gfid_cmp cell.gfid gfid)) refl is
    by_cell false is more k = by_rest (is_eq (gfid_cmp cell.gfid gfid)) (more k)

-- cells of other objects are all left
pub all_left : (gfid : Gfid) (cells : List Cell) → Each (λ (cell : Cell). cell.gfid ≢ gfid) cells → cells_without gfid cells ≡ cells
all_left gfid [] h = refl
all_left gfid (cell ∷ cells) h = by_case (is_eq (gfid_cmp cell.gfid gfid)) refl (all_left gfid cells h.1)
  where
    by_case : (b : Bool) → is_eq (gfid_cmp cell.gfid gfid) ≡ b → cells_without gfid cells ≡ cells → (if b then cells_without gfid cells else cell ∷ cells_without gfid cells) ≡ cell ∷ cells
    by_case true same rest = absurd (h.0 (gfids_are cell.gfid gfid same))
    by_case false other rest = ap (λ (cs : List Cell). cell ∷ cs) rest

-- ---- settled jobs and sights

pub each_without : (P Q : SettledJob → Type 0) (gfid : Gfid) (jobs : List SettledJob) → ((done : SettledJob) → P done → Q (record done { cells = cells_without gfid done.cells })) → Each P jobs → Each Q (jobs_without gfid jobs)
each_without P Q gfid [] f e = tt
each_without P Q gfid (done ∷ jobs) f e = (f done e.0, each_without P Q gfid jobs f e.1)

pub listed_without : (gfid : Gfid) (jobs : List SettledJob) (done : SettledJob) → IsListed jobs done → IsListed (jobs_without gfid jobs) (record done { cells = cells_without gfid done.cells })
listed_without gfid [] done l = l
listed_without gfid (one ∷ jobs) done (inl e) = inl (ap (λ (x : SettledJob). record x { cells = cells_without gfid x.cells }) e)
listed_without gfid (one ∷ jobs) done (inr l) = inr (listed_without gfid jobs done l)

pub sights_stand : (adopted : SetContents) (gfid : Gfid) (jobs : List SettledJob) (saw : List Sight) → Each (StandsAsSeen adopted jobs) saw → Each (StandsAsSeen adopted (jobs_without gfid jobs)) (sights_without gfid saw)
sights_stand adopted gfid jobs [] a = tt
sights_stand adopted gfid jobs (sight ∷ saw) a = by_case (is_eq (gfid_cmp sight.cell.gfid gfid)) refl (sights_stand adopted gfid jobs saw a.1)
  where
    settled : WasSettled jobs sight.set sight.cell → sight.cell.gfid ≢ gfid → WasSettled (jobs_without gfid jobs) sight.set sight.cell
    settled w other = record {
      cells = cells_without gfid w.cells;
      listed = listed_without gfid jobs (record { set = sight.set; cells = w.cells }) w.listed;
      has = has_without gfid w.cells sight.cell w.has other;
    }

    by_case : (b : Bool) → is_eq (gfid_cmp sight.cell.gfid gfid) ≡ b → Each (StandsAsSeen adopted (jobs_without gfid jobs)) (sights_without gfid saw)
        → Each (StandsAsSeen adopted (jobs_without gfid jobs)) (if b then sights_without gfid saw else sight ∷ sights_without gfid saw)
    by_case true same rest = rest
    by_case false other rest = (record { content = a.0.content; lacks = a.0.lacks; settled = settled a.0.settled (gfids_differ sight.cell.gfid gfid other) }, rest)
