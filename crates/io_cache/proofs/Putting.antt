use Rattle.std.proofs.Common.{◌≡◌, ℕ, zero, suc, ◌+◌, ◌-◌, ◌<◌, ◌≤◌, Bool, true, false, List, [], ◌∷◌, length, take, Option, Some, None, refl, ap, sym, arith, inl, inr}
use Rattle.std.specs.Option.{option_map_or}
use Rattle.std.specs.Map.{lookup_entry, remove_entry}
use Rattle.std.proofs.lemmas.List.{take_all}
use Rattle.lru.specs.LruCache.{LruCache, put_entries}
use Rattle.lru.proofs.CallerLemmas.{Contains-lookup_entry, Contains-put_entries}
use Rattle.fop_types.specs.declared.cells.Gfid.{Gfid}
use Rattle.io_cache.specs.declared.page_key.PageKey.{PageKey}
use Rattle.io_cache.specs.Pages.{is_page, key, AreBelow}
use Rattle.io_cache.proofs.Keys.{same_page}

module _ {K V : Type 0} (test : K → Bool) where
  pub nothing_removed : (es : List (K × V)) → lookup_entry test es ≡ None → remove_entry test es ≡ es
  nothing_removed [] h = refl
  nothing_removed (e ∷ es) h = (elim (test e.0) as (λ b. test e.0 ≡ b → remove_entry test (e ∷ es) ≡ e ∷ es) [
    | true ↦ λ t. let no = rw t at h in absurd cc
    | false ↦ λ t. rw t (ap (λ l. e ∷ l) (nothing_removed es (rw t at h)))
  ]) refl

  pub one_removed : (es : List (K × V)) (f : K × V) → lookup_entry test es ≡ Some f → length (remove_entry test es) + 1 ≡ length es
  one_removed [] f h = absurd cc
  one_removed (e ∷ es) f h = (elim (test e.0) as (λ b. test e.0 ≡ b → length (remove_entry test (e ∷ es)) + 1 ≡ length (e ∷ es)) [
    | true ↦ λ t. rw t (omega arith)
    | false ↦ λ t. rw t (let on = one_removed es f (rw t at h) in omega (arith, on))
  ]) refl

module _ (c : LruCache PageKey (List ℕ)) (g : Gfid) (n : ℕ) (bytes : List ℕ) (few : length c.entries ≤ c.cap) (some : 0 < c.cap) where
  abbrev after : Option (PageKey × List ℕ) → List (PageKey × List ℕ)
  after o = option_map_or (λ e. (e.0, bytes) ∷ remove_entry (is_page g n) c.entries) o ((key g n, bytes) ∷ take (c.cap - 1) c.entries)

  cons_take : (m : ℕ) (x : PageKey × List ℕ) (xs : List (PageKey × List ℕ)) → 0 < m → x ∷ take (m - 1) xs ≡ take m (x ∷ xs)
  cons_take zero x xs h = absurd (omega (arith, h))
  cons_take (suc m) x xs h = let e : suc m - 1 ≡ m = omega arith in rw e refl

  put_cases : (o : Option (PageKey × List ℕ)) → lookup_entry (is_page g n) c.entries ≡ o → after o ≡ take c.cap ((key g n, bytes) ∷ remove_entry (is_page g n) c.entries)
  put_cases None h = rw (nothing_removed (is_page g n) c.entries h) (cons_take c.cap (key g n, bytes) c.entries some)
  put_cases (Some e) h =
      let same : e.0 ≡ key g n = same_page g n e.0 (Contains-lookup_entry (is_page g n) c.entries e h).1 in
      let one = one_removed (is_page g n) c.entries e h in
      rw same (sym (take_all c.cap ((key g n, bytes) ∷ remove_entry (is_page g n) c.entries) (omega (arith, one, few))))

  -- what the cache does at a put, in the words of the pages
  pub put_is : put_entries (λ a b. is_page a.gfid a.page b) c (key g n) bytes ≡ take c.cap ((key g n, bytes) ∷ remove_entry (is_page g n) c.entries)
  put_is = put_cases (lookup_entry (is_page g n) c.entries) refl

  pub put_below : (m : ℕ) → AreBelow m c.entries → n < m → AreBelow m (put_entries (λ a b. is_page a.gfid a.page b) c (key g n) bytes)
  put_below m below fits p h = elim (Contains-put_entries (λ a b. is_page a.gfid a.page b) c (key g n) bytes p h) [
    | inl was ↦ below p was
    | inr put ↦ elim put.1 [
      | inl same ↦ rw same fits
      | inr there ↦ below (p.0, there.0) there.1
    ]
  ]
