-- Who is out after a lock phase or a release, and was not before, is lost.
use Rattle.std.proofs.Common.{◌≡◌, ◌∙◌, ℕ, zero, suc, ◌+◌, ◌-◌, ◌⊎◌, inl, inr, Bool, true, false, ◌&&◌, not, nat_lt, List, [], ◌∷◌, Option, Some, None, sym, ap, slice_index, slice_index_or, slice_set}
use Rattle.std.proofs.lemmas.Bool.{cond_both}
use Rattle.fop_types.specs.declared.contents.Mask.{Mask}
use Rattle.fop_types.specs.declared.copy_jobs.Out.{Out}
use Rattle.afr_phases.specs.declared.locking.LockStep.{LockStep}
use Rattle.afr_phases.specs.declared.locking.LockStep.TheVariants as step
use Rattle.afr_phases.specs.declared.locks.Locks.{Locks}
use Rattle.afr_phases.specs.declared.outs.Outs.{Outs}
use Rattle.afr_phases.specs.Flags.{flag, names}
use Rattle.afr_phases.specs.Locking.{next_to_lock, lost, kept_only, without_lost, ended, ended_with, asked_or_ended, next_lock}
use Rattle.afr_phases.specs.Locks.{standing, keeping}
use Rattle.afr_phases.specs.Marks.{IsLost, AreLostSince}
use Rattle.afr_phases.specs.Outs.{is_out, is_short, left}

set_from : (xs : List (Option Out)) (j k : ℕ) (x out : Out) → slice_index_or (slice_set xs j (Some x)) k None ≡ Some out → (slice_index_or xs k None ≡ Some out) ⊎ (out ≡ x)
set_from [] j k x out h = absurd cc
set_from (y ∷ ys) zero zero x out h = let same : out ≡ x = cc in inr same
set_from (y ∷ ys) zero (suc k) x out h = inl h
set_from (y ∷ ys) (suc j) zero x out h = inl h
set_from (y ∷ ys) (suc j) (suc k) x out h = set_from ys j k x out h

-- one more that is out
pub left_from : (outs : Outs) (i mark : ℕ) (fault : Bool) (j : ℕ) (out : Out) → slice_index_or (left outs i fault mark).at j None ≡ Some out → (slice_index_or outs.at j None ≡ Some out) ⊎ (out ≡ record { replica = i; fault = fault; mark = mark })
left_from outs i mark fault j out =
    cond_both (is_out outs i) outs (record { at = slice_set outs.at i (Some (record { replica = i; fault = fault; mark = mark })) })
    (λ (o : Outs). slice_index_or o.at j None ≡ Some out → (slice_index_or outs.at j None ≡ Some out) ⊎ (out ≡ record { replica = i; fault = fault; mark = mark })) (λ e h. inl h)
    (λ e h. set_from outs.at i j (record { replica = i; fault = fault; mark = mark }) out h)

pub since_all : (last : List ℕ) (before between after : Outs) → AreLostSince last before between → AreLostSince last between after → AreLostSince last before after
since_all last before between after f g j out h = by (g j out h) where
  by : (slice_index_or between.at j None ≡ Some out) ⊎ IsLost last out → (slice_index_or before.at j None ≡ Some out) ⊎ IsLost last out
  by (inl there) = f j out there
  by (inr lost) = inr lost

pub since_left : (last : List ℕ) (outs : Outs) (i : ℕ) → AreLostSince last outs (left outs i false (slice_index last i))
since_left last outs i j out h = by (left_from outs i (slice_index last i) false j out h) where
  by : (slice_index_or outs.at j None ≡ Some out) ⊎ (out ≡ record { replica = i; fault = false; mark = slice_index last i }) → (slice_index_or outs.at j None ≡ Some out) ⊎ IsLost last out
  by (inl there) = inl there
  by (inr e) =
      let at : out.replica ≡ i = ap (λ (o : Out). o.replica) e in
      let number : out.mark ≡ slice_index last i = ap (λ (o : Out). o.mark) e in
      inr (record { no_fault = ap (λ (o : Out). o.fault) e; number = number ∙ ap (λ (m : ℕ). slice_index last m) (sym at) })

since_lost : (last : List ℕ) (outs : Outs) (b : Bool) (i : ℕ) → AreLostSince last outs (lost outs b i last)
since_lost last outs true i = since_left last outs i
since_lost last outs false i = λ j out h. inl h

module _ (outs : Outs) (kept : List Bool) (n : ℕ) (last : List ℕ) where
  abbrev a : Outs
  a = lost outs (nat_lt 0 n && not (flag kept 0)) 0 last

  abbrev b : Outs
  b = lost a (nat_lt 1 n && not (flag kept 1)) 1 last

  abbrev c : Outs
  c = lost b (nat_lt 2 n && not (flag kept 2)) 2 last

  abbrev d : Outs
  d = lost c (nat_lt 3 n && not (flag kept 3)) 3 last

  pub since_kept : AreLostSince last outs (kept_only outs kept n last)
  since_kept =
      since_all last outs a (kept_only outs kept n last) (since_lost last outs (nat_lt 0 n && not (flag kept 0)) 0)
      (since_all last a b (kept_only outs kept n last) (since_lost last a (nat_lt 1 n && not (flag kept 1)) 1)
      (since_all last b c (kept_only outs kept n last) (since_lost last b (nat_lt 2 n && not (flag kept 2)) 2)
      (since_all last c d (kept_only outs kept n last) (since_lost last c (nat_lt 3 n && not (flag kept 3)) 3) (since_lost last d (nat_lt 4 n && not (flag kept 4)) 4))))

pub since_noted : (n : ℕ) (outs : Outs) (locks : Locks) (live : Mask) (last : List ℕ) → AreLostSince last outs (without_lost outs locks n live last)
unfolding without_lost
since_noted n outs locks live last = since_kept outs (keeping locks live last) n last

module _ (n q : ℕ) (live : Mask) (last : List ℕ) where
  since_next : (count k : ℕ) (outs : Outs) → AreLostSince last outs (next_to_lock count outs n q k live last).0
  since_next zero k outs = λ j out h. inl h
  since_next (suc count) k outs =
      cond_both (is_short outs n q) _ _ (λ (t : Outs × Option ℕ). AreLostSince last outs t.0) (λ e j out h. inl h)
      (λ e. cond_both (is_out outs k) _ _ (λ (t : Outs × Option ℕ). AreLostSince last outs t.0) (λ o. since_next count (k + 1) outs)
      (λ o. cond_both (names live k) _ _ (λ (t : Outs × Option ℕ). AreLostSince last outs t.0) (λ l j out h. inl h)
      (λ l. since_all last outs (left outs k false (slice_index last k)) (next_to_lock count (left outs k false (slice_index last k)) n q (k + 1) live last).0 (since_left last outs k) (since_next count (k + 1) (left outs k false (slice_index last k))))))

  since_end : (outs : Outs) (locks : Locks) → AreLostSince last outs (ended outs locks n q live last).0
  since_end outs locks =
      cond_both (is_short outs n q) (outs, step.Short) (ended_with (kept_only outs (standing locks live last) n last) n q) (λ (t : Outs × LockStep). AreLostSince last outs t.0)
      (λ e j out h. inl h) (λ e. since_kept outs (standing locks live last) n last)

  since_asked : (before : Outs) (locks : Locks) (t : Outs × Option ℕ) → AreLostSince last before t.0 → AreLostSince last before (asked_or_ended t locks n q live last).0
  since_asked before locks (outs, Some k) h = h
  since_asked before locks (outs, None) h = since_all last before outs (ended outs locks n q live last).0 h (since_end outs locks)

  pub since_step : (outs : Outs) (locks : Locks) (from : ℕ) → AreLostSince last outs (next_lock outs locks n q from live last).0
  since_step outs locks from = since_asked outs locks (next_to_lock (n - from) outs n q from live last) (since_next (n - from) from outs)
