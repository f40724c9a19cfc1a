-- Dropping the pages of a file one number after the other.
use Rattle.std.proofs.Common.{◌≡◌, ℕ, ◌+◌, Bool, true, false, cond, not, ◌&&◌, nat_lt, List, [], ◌∷◌, refl, ap, arith, subst}
use Rattle.std.specs.List.{IsDistinct, AllByRecursion, filter}
use Rattle.std.specs.Map.{keys_of, remove_entry}
use Rattle.fop_types.specs.declared.cells.Gfid.{Gfid}
use Rattle.io_cache.specs.declared.page_key.PageKey.{PageKey}
use Rattle.io_cache.specs.Pages.{is_of, is_page, without_pages_below, AreBelow, IsPartOf}
use Rattle.io_cache.proofs.Keys.{same_page}
use Rattle.std.proofs.lemmas.Bool.{eqb-true, le-ltb, lt-ltb}
use Rattle.std.proofs.Math.Bool.{and-true}
use Rattle.lru.proofs.Splits.{Contains-head, Contains-tail}
use Rattle.lru.proofs.CallerLemmas.{Contains-remove_entry}

abbrev is_below : Gfid → ℕ → PageKey → Bool
is_below g n k = is_of g k && nat_lt k.page n

module _ (g : Gfid) (n : ℕ) (k : PageKey) where
  -- a page that is not page n is among those below n + 1 if it is among those below n
  below_more : is_page g n k ≡ false → is_below g (n + 1) k ≡ is_below g n k
  below_more h = grind arith

  below_at : is_page g n k ≡ true → is_below g n k ≡ false
  below_at h = grind (arith, eqb-true)

  below_then : is_page g n k ≡ true → is_below g (n + 1) k ≡ true
  below_then h = grind (arith, eqb-true)

module _ (g : Gfid) where
  pub none_dropped : (ps : List (PageKey × List ℕ)) → ps ≡ without_pages_below g 0 ps
  none_dropped [] = refl
  none_dropped (p ∷ ps) = rw (not_below p.0) (ap (λ (l : List (PageKey × List ℕ)). p ∷ l) (none_dropped ps))
    where
      not_below : (k : PageKey) → is_below g 0 k ≡ false
      not_below k = grind (arith, le-ltb)

  same_dropped : (n : ℕ) (ps : List (PageKey × List ℕ)) → AllByRecursion (λ k. is_page g n k ≡ false) (keys_of ps) → without_pages_below g n ps ≡ without_pages_below g (n + 1) ps
  same_dropped n [] h = refl
  same_dropped n (p ∷ ps) h = rw (below_more g n p.0 h.0) (ap (λ (l : List (PageKey × List ℕ)). cond (not (is_below g n p.0)) (p ∷ l) l) (same_dropped n ps h.1))

  -- dropping page n too
  pub one_dropped : (n : ℕ) (ps : List (PageKey × List ℕ)) → IsDistinct (λ a b. is_page a.gfid a.page b) (keys_of ps) → remove_entry (is_page g n) (without_pages_below g n ps) ≡ without_pages_below g (n + 1) ps
  unfolding IsDistinct
  one_dropped n [] h = refl
  one_dropped n (p ∷ ps) h = (elim (is_page g n p.0) as (λ b. is_page g n p.0 ≡ b → remove_entry (is_page g n) (without_pages_below g n (p ∷ ps)) ≡ without_pages_below g (n + 1) (p ∷ ps)) [
    | true ↦ λ t. rw (below_at g n p.0 t) (rw (below_then g n p.0 t) (rw t (same_dropped n ps (subst (λ (k : PageKey). AllByRecursion (λ y. is_page k.gfid k.page y ≡ false) (keys_of ps)) (same_page g n p.0 t) h.0))))
    | false ↦ λ t. rw (below_more g n p.0 t) ((elim (is_below g n p.0) as (λ b. is_below g n p.0 ≡ b → remove_entry (is_page g n) (cond (not b) (p ∷ without_pages_below g n ps) (without_pages_below g n ps)) ≡ cond (not b) (p ∷ without_pages_below g (n + 1) ps) (without_pages_below g (n + 1) ps)) [
      | true ↦ λ _. one_dropped n ps h.1
      | false ↦ λ _. rw t (ap (λ (l : List (PageKey × List ℕ)). p ∷ l) (one_dropped n ps h.1))
    ]) refl)
  ]) refl

  -- where each number is below n, the whole file goes
  pub all_dropped : (n : ℕ) (ps : List (PageKey × List ℕ)) → AreBelow n ps → without_pages_below g n ps ≡ filter (λ p. not (is_of g p.0)) ps
  all_dropped n [] h = refl
  all_dropped n (p ∷ ps) h = rw (lt-ltb p.0.page n (h p (Contains-head p ps))) (rw (and-true (is_of g p.0)) (ap (λ (l : List (PageKey × List ℕ)). cond (not (is_of g p.0)) (p ∷ l) l) (all_dropped n ps (λ q i. h q (Contains-tail p ps q i)))))

  pub part_dropped : (n : ℕ) (ps : List (PageKey × List ℕ)) → IsPartOf (remove_entry (is_page g n) ps) ps
  part_dropped n ps p h = Contains-remove_entry (is_page g n) ps p h
