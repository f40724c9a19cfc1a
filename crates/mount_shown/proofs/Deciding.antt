-- The files and the unsettled changes, after one of these is decided, or another one begins.
use Rattle.std.proofs.Common.{◌≡◌, ◌≢◌, ℕ, ◌≤◌, refl, sym, subst, arith}
use Rattle.afr_machine.specs.Changes.{Verdict}
use Rattle.afr_machine.specs.Changes.Verdict.{Unsettled, Adopted, Dropped}
use Rattle.afr_machine.specs.Replicas.{with_at}
use Rattle.afr_machine.proofs.Tables.{at_other}
use Rattle.dht_fops.specs.Standing.{Volumes}
use Rattle.mount_files.proofs.Later.{two_ops}
use Rattle.mount_files.proofs.Ops.{one_op}
use Rattle.mount_files.specs.Pairs.{OpOn, AreApart, Fits, after as after_on}
use Rattle.mount_laws.specs.States.{Change}
use Rattle.mount_laws.proofs.Tables.{at_case}
use Rattle.mount_shown.proofs.Counts.{more_sets}
use Rattle.mount_shown.specs.Bridge.{op_of}
use Rattle.mount_shown.specs.Pending.{ArePairsApart, FilesStand}

pub flipped : (a b : OpOn) → AreApart a b → AreApart b a
flipped a b k = record {
  names = λ dir name x y. k.names dir name y x;
  inside = λ dir name x y. k.outside dir name x y;
  outside = λ dir name x y. k.inside dir name x y;
  born = λ gfid x y. k.born gfid y x;
  cells = λ e cell x y. k.cells (sym e) cell y x;
}

-- ---- one is decided

decided_no : (changes : ℕ → Change) (u : ℕ) (verdict : Verdict) → verdict ≢ Unsettled → (w : ℕ) → (with_at changes u (record (changes u) { verdict = verdict }) w).verdict ≡ Unsettled → (w ≢ u) × ((changes w).verdict ≡ Unsettled)
decided_no changes u verdict other w =
    at_case (λ i (one : Change). one.verdict ≡ Unsettled → (i ≢ u) × ((changes i).verdict ≡ Unsettled)) changes u (record (changes u) { verdict = verdict })
    (λ e. absurd (other e)) w (λ differ e. (differ, e))

module _ (s : Volumes) (count : ℕ) (changes : ℕ → Change) (a : FilesStand s count changes) (u : ℕ) (was : (changes u).verdict ≡ Unsettled) where
  new_changes : Verdict → ℕ → Change
  new_changes verdict = with_at changes u (record (changes u) { verdict = verdict })

  -- an op still is what it was
  same_op : (verdict : Verdict) (w : ℕ) → w ≢ u → with_at changes u (record (changes u) { verdict = verdict }) w ≡ changes w
  same_op verdict w differ = at_other changes u (record (changes u) { verdict = verdict }) w differ

  left_apart : (verdict : Verdict) → verdict ≢ Unsettled → ArePairsApart (with_at changes u (record (changes u) { verdict = verdict }))
  left_apart verdict other v w differ x y =
      let p = decided_no changes u verdict other v x in
      let q = decided_no changes u verdict other w y in
      subst (λ (one : Change). AreApart (op_of one) (op_of (with_at changes u (record (changes u) { verdict = verdict }) w))) (sym (same_op verdict v p.0))
      (subst (λ (one : Change). AreApart (op_of (changes v)) (op_of one)) (sym (same_op verdict w q.0)) (a.apart v w differ p.1 q.1))

  pub dropped_stands : FilesStand s count (with_at changes u (record (changes u) { verdict = Dropped }))
  dropped_stands = record {
    shown = a.shown;
    alone = λ w e. let p = decided_no changes u Dropped (λ x. absurd cc) w e in subst (λ (one : Change). Fits s count (op_of one)) (sym (same_op Dropped w p.0)) (a.alone w p.1);
    apart = left_apart Dropped (λ x. absurd cc);
  }

  pub adopted_stands : FilesStand (after_on s (op_of (changes u))) count (with_at changes u (record (changes u) { verdict = Adopted }))
  adopted_stands = record {
    shown = one_op s count (changes u).set (changes u).op (changes u).effect a.shown (a.alone u was);
    alone = λ w e.
        (let p = decided_no changes u Adopted (λ x. absurd cc) w e in
        subst (λ (one : Change). Fits (after_on s (op_of (changes u))) count (op_of one)) (sym (same_op Adopted w p.0))
        (two_ops s count (op_of (changes u)) (op_of (changes w)) a.shown (a.alone u was) (a.alone w p.1) (a.apart u w (λ same. p.0 (sym same)) was p.1)));
    apart = left_apart Adopted (λ x. absurd cc);
  }

-- ---- another begins

module _ (s : Volumes) (count : ℕ) (changes : ℕ → Change) (a : FilesStand s count changes) where
  pub begun_stands : (u : ℕ) (new : Change) → Fits s count (op_of new) → ((w : ℕ) → (changes w).verdict ≡ Unsettled → AreApart (op_of new) (op_of (changes w))) → FilesStand s count (with_at changes u new)
  begun_stands u new fits others = record {
    shown = a.shown;
    alone = λ w. at_case (λ i (one : Change). one.verdict ≡ Unsettled → Fits s count (op_of one)) changes u new (λ e. fits) w (λ differ. a.alone w);
    apart = λ v w.
        at_case (λ i (one : Change). i ≢ w → one.verdict ≡ Unsettled → (with_at changes u new w).verdict ≡ Unsettled → AreApart (op_of one) (op_of (with_at changes u new w))) changes u new
        (at_case (λ j (other : Change). u ≢ j → new.verdict ≡ Unsettled → other.verdict ≡ Unsettled → AreApart (op_of new) (op_of other)) changes u new (λ differ. absurd (differ refl)) w (λ more differ x y. others w y)) v
        (λ off. at_case (λ j (other : Change). v ≢ j → (changes v).verdict ≡ Unsettled → other.verdict ≡ Unsettled → AreApart (op_of (changes v)) (op_of other)) changes u new
        (λ differ x y. flipped (op_of new) (op_of (changes v)) (others v x)) w (λ more differ x y. a.apart v w differ x y));
  }

  -- births are sent
  pub born_stands : (b : OpOn) → Fits s count b → ((w : ℕ) → (changes w).verdict ≡ Unsettled → AreApart b (op_of (changes w))) → FilesStand (after_on s b) count changes
  born_stands b fits others = record {
    shown = one_op s count b.set b.op b.effect a.shown fits;
    alone = λ w e. two_ops s count b (op_of (changes w)) a.shown fits (a.alone w e) (others w e);
    apart = a.apart;
  }

  -- a graph has more sets
  pub more_stand : (many : ℕ) → count ≤ many → FilesStand s many changes
  more_stand many h = record {
    shown = more_sets s count many h a.shown;
    alone = λ w e. let f = a.alone w e in record { on_set = let low = f.on_set in omega (arith, h, low); fits_set = f.fits_set; stands = f.stands };
    apart = a.apart;
  }
