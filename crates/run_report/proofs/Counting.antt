-- The winds of each graph, with one line more.
use Rattle.std.proofs.Common.{◌≡◌, refl, sym, ap, subst, ◌∙◌, arith, get_or, set}
use Rattle.std.specs.Prelude.{ℕ, ◌≢◌, ◌<◌, ◌≤◌, ◌+◌, ◌^◌, ◌==◌, ◌&&◌, not, Bool, true, false, List, length, take, count_by, if◌then◌else◌}
use Rattle.std.proofs.lemmas.Bool.{eqb-true, eqb-false, eq-eqb, ne_eqb}
use Rattle.std.proofs.lemmas.List.{get_or-set_same, get_or-set_other, length-set, length-take-le}
use Rattle.std.proofs.lemmas.List.Sums.{count_by_more_yes, count_by_more_no, count_by-le-length}
use Rattle.mount_log.specs.declared.logs.WindLine.{WindLine}
use Rattle.run_report.specs.Reports.{is_opening_in, is_end_in}
use Rattle.run_report.specs.Counting.{AreCountsOf}
use Rattle.run_report.specs.declared.graph_lines.Winds.{Winds}

no_left : (a b : Bool) → a ≡ false → (a && b) ≡ false
no_left true b e = absurd cc
no_left false b e = refl

of_right : (a b c : Bool) → a ≡ true → b ≡ c → (a && b) ≡ c
of_right true b c e f = f
of_right false b c e f = absurd cc

module _ (winds : List WindLine) (i : ℕ) (d : WindLine) (lt : i < length winds) where
  more : (test : WindLine → Bool) (b : Bool) → test (get_or winds i d) ≡ b → count_by test (take (i + 1) winds) ≡ count_by test (take i winds) + (if b then 1 else 0)
  more test true e = count_by_more_yes test winds i d lt e
  more test false e = let c = count_by_more_no test winds i d lt e in let n = count_by test (take i winds) in let z : n + 0 ≡ n = omega arith in c ∙ sym z

  of_other : (test : WindLine → Bool) (n : ℕ) → test (get_or winds i d) ≡ false → n ≡ count_by test (take i winds) → n ≡ count_by test (take (i + 1) winds)
  of_other test n e is_n = is_n ∙ sym (count_by_more_no test winds i d lt e)

  -- the line is of none of the graphs
  pub kept : (graphs : ℕ) (counts : List Winds) → ((at : ℕ) → at < length counts → at + 1 ≢ (get_or winds i d).graph) → AreCountsOf graphs (take i winds) counts → AreCountsOf graphs (take (i + 1) winds) counts
  kept graphs counts none a = record {
    long = a.long;
    opened = λ at w within. of_other (is_opening_in (at + 1)) _ (no_left ((get_or winds i d).graph == at + 1) (get_or winds i d).opened (ne_eqb (get_or winds i d).graph (at + 1) (λ e. none at within (sym e)))) (a.opened at w within);
    ended = λ at w within. of_other (is_end_in (at + 1)) _ (no_left ((get_or winds i d).graph == at + 1) (not (get_or winds i d).opened) (ne_eqb (get_or winds i d).graph (at + 1) (λ e. none at within (sym e)))) (a.ended at w within);
  }

  -- the line is of this graph
  module _ (graphs : ℕ) (counts : List Winds) (place : ℕ) (next was : Winds) (its : place + 1 ≡ (get_or winds i d).graph) (there : place < length counts) (was_is : was ≡ get_or counts place was)
      (opened : next.opened ≡ was.opened + (if (get_or winds i d).opened then 1 else 0)) (ended : next.ended ≡ was.ended + (if not (get_or winds i d).opened then 1 else 0)) (a : AreCountsOf graphs (take i winds) counts) where
    next_opened : next.opened ≡ count_by (is_opening_in (place + 1)) (take (i + 1) winds)
    next_opened =
        let w : was.opened ≡ count_by (is_opening_in (place + 1)) (take i winds) = ap (λ (c : Winds). c.opened) was_is ∙ a.opened place was there in
        opened ∙ ap (λ n. n + (if (get_or winds i d).opened then 1 else 0)) w ∙ sym (more (is_opening_in (place + 1)) (get_or winds i d).opened (of_right ((get_or winds i d).graph == place + 1) (get_or winds i d).opened (get_or winds i d).opened (eq-eqb (get_or winds i d).graph (place + 1) (sym its)) refl))

    next_ended : next.ended ≡ count_by (is_end_in (place + 1)) (take (i + 1) winds)
    next_ended =
        let w : was.ended ≡ count_by (is_end_in (place + 1)) (take i winds) = ap (λ (c : Winds). c.ended) was_is ∙ a.ended place was there in
        ended ∙ ap (λ n. n + (if not (get_or winds i d).opened then 1 else 0)) w ∙ sym (more (is_end_in (place + 1)) (not (get_or winds i d).opened) (of_right ((get_or winds i d).graph == place + 1) (not (get_or winds i d).opened) (not (get_or winds i d).opened) (eq-eqb (get_or winds i d).graph (place + 1) (sym its)) refl))

    by_place : (at : ℕ) (w : Winds) → at < length counts → (b : Bool) → (at == place) ≡ b → ((get_or (set counts place next) at w).opened ≡ count_by (is_opening_in (at + 1)) (take (i + 1) winds)) × ((get_or (set counts place next) at w).ended ≡ count_by (is_end_in (at + 1)) (take (i + 1) winds))
    by_place at w within true e =
        let s : at ≡ place = eqb-true at place e in
        let g : get_or (set counts place next) at w ≡ next = ap (λ (n : ℕ). get_or (set counts place next) n w) s ∙ get_or-set_same counts place next w there in (
          ap (λ (c : Winds). c.opened) g ∙ next_opened ∙ ap (λ (n : ℕ). count_by (is_opening_in (n + 1)) (take (i + 1) winds)) (sym s),
          ap (λ (c : Winds). c.ended) g ∙ next_ended ∙ ap (λ (n : ℕ). count_by (is_end_in (n + 1)) (take (i + 1) winds)) (sym s),
        )
    by_place at w within false e =
        let ne : at ≢ place = eqb-false at place e in
        let g : get_or (set counts place next) at w ≡ get_or counts at w = get_or-set_other counts place at next w ne in
        let other : (get_or winds i d).graph ≢ at + 1 = λ f. ne (omega (arith, f, its)) in (
          ap (λ (c : Winds). c.opened) g ∙ of_other (is_opening_in (at + 1)) _ (no_left ((get_or winds i d).graph == at + 1) (get_or winds i d).opened (ne_eqb (get_or winds i d).graph (at + 1) other)) (a.opened at w within),
          ap (λ (c : Winds). c.ended) g ∙ of_other (is_end_in (at + 1)) _ (no_left ((get_or winds i d).graph == at + 1) (not (get_or winds i d).opened) (ne_eqb (get_or winds i d).graph (at + 1) other)) (a.ended at w within),
        )

    pub counted : AreCountsOf graphs (take (i + 1) winds) (set counts place next)
    counted = record {
      long = length-set counts place next ∙ a.long;
      opened = λ at w within. (by_place at w (subst (λ (n : ℕ). at < n) (length-set counts place next) within) (at == place) refl).0;
      ended = λ at w within. (by_place at w (subst (λ (n : ℕ). at < n) (length-set counts place next) within) (at == place) refl).1;
    }

-- the counts can rise
pub low : (winds : List WindLine) (i : ℕ) → i < length winds → (graphs : ℕ) (counts : List Winds) (place : ℕ) (was : Winds) → place < length counts → was ≡ get_or counts place was → i < 18446744073709551615 → AreCountsOf graphs (take i winds) counts → (was.opened < 18446744073709551615) × (was.ended < 18446744073709551615)
low winds i lt graphs counts place was there was_is few a =
    let o : was.opened ≡ count_by (is_opening_in (place + 1)) (take i winds) = ap (λ (c : Winds). c.opened) was_is ∙ a.opened place was there in
    let e : was.ended ≡ count_by (is_end_in (place + 1)) (take i winds) = ap (λ (c : Winds). c.ended) was_is ∙ a.ended place was there in
    let p = count_by-le-length (is_opening_in (place + 1)) (take i winds) in let q = count_by-le-length (is_end_in (place + 1)) (take i winds) in
    let t = length-take-le i winds (omega (arith, lt)) in
    (omega (arith, o, p, t, lt, few), omega (arith, e, q, t, lt, few))
