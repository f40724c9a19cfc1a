-- Which pages a read needs.
use Rattle.std.proofs.Common.{◌≡◌, ℕ, zero, suc, ◌+◌, ◌-◌, ◌/◌, ◌%◌, ◌==◌, ◌<◌, ◌≤◌, Bool, true, false, ◌||◌, ◌&&◌, List, [], ◌∷◌, ◌++◌, Some, is_some, refl, ap, sym, ◌∙◌, arith, ◌⊎◌, inl, inr, append_assoc}
use Rattle.std.specs.List.{range_with_len}
use Rattle.std.proofs.lemmas.Bool.{eqb-true}
use Rattle.std.proofs.lemmas.List.Folds.{list_all-append}
use Rattle.fop_types.specs.declared.cells.Gfid.{Gfid}
use Rattle.io_cache.specs.declared.page_key.PageKey.{PageKey}
use Rattle.io_cache.specs.Pages.{ends_before, is_short, needed_of, all_at, page_at, Held, needed, answer, after_read}
use Rattle.std.proofs.Math.Seq.{drop-nil, take-nil}
use Rattle.io_cache.proofs.Numbers.{range_first, back}

module _ (ps : List (PageKey × List ℕ)) (g : Gfid) where
  pub ends_after : (n : ℕ) → ends_before ps g (n + 1) ≡ (ends_before ps g n || is_short ps g n)
  ends_after n = let e : n + 1 ≡ suc n = omega arith in rw e refl

  -- past the end of the file no page is needed
  pub none_needed : (n m : ℕ) → ends_before ps g n ≡ true → needed_of ps g (range_with_len n m) ≡ []
  none_needed n zero h = refl
  none_needed n (suc m) h = rw h (none_needed (n + 1) m (rw (ends_after n) (rw h refl)))

  split : (n m : ℕ) → n < suc m → (n ≡ m) ⊎ (n < m)
  split n m h = grind arith

  pub ends_at : (n m : ℕ) → is_short ps g n ≡ true → n < m → ends_before ps g m ≡ true
  ends_at n zero h l = absurd (omega (arith, l))
  ends_at n (suc m) h l = elim (split n m l) [
    | inl same ↦ rw (← same) (rw h (or_true (ends_before ps g n)))
    | inr below ↦ rw (ends_at n m h below) refl
  ] where
    or_true : (b : Bool) → (b || true) ≡ true
    or_true true = refl
    or_true false = refl

  -- a page that is not past the end is needed, and then the later ones
  pub needs_first : (n end : ℕ) → ends_before ps g n ≡ false → n < end → needed_of ps g (range_with_len n (end - n)) ≡ n ∷ needed_of ps g (range_with_len (n + 1) (end - (n + 1)))
  needs_first n end h l = rw (range_first n end l) (rw h refl)

  -- a short page is the last that is needed
  pub needs_last : (n end : ℕ) → ends_before ps g n ≡ false → is_short ps g n ≡ true → n < end → needed_of ps g (range_with_len n (end - n)) ≡ n ∷ []
  needs_last n end h s l = needs_first n end h l ∙ ap (λ (l : List ℕ). n ∷ l) (none_needed (n + 1) (end - (n + 1)) (rw (ends_after n) (rw h (rw s refl))))

  pub all_more : (a b : ℕ) → a ≤ b → all_at ps g (range_with_len a (b - a)) ≡ true → is_some (page_at ps g b) ≡ true → all_at ps g (range_with_len a (b + 1 - a)) ≡ true
  all_more a b l h s = rw (back a b l) (list_all-append (λ n. is_some (page_at ps g n)) (range_with_len a (b - a)) (b ∷ []) ∙ rw h (rw s refl))

  pub one_missing : (xs ys : List ℕ) (n : ℕ) → is_some (page_at ps g n) ≡ false → all_at ps g (xs ++ n ∷ ys) ≡ false
  one_missing [] ys n h = rw h refl
  one_missing (x ∷ xs) ys n h = rw (one_missing xs ys n h) (and_false (is_some (page_at ps g x)))
    where
      and_false : (b : Bool) → (b && false) ≡ false
      and_false true = refl
      and_false false = refl

  pub needed_more : (all : List ℕ) (first n end : ℕ) → first ≤ n → n < end → ends_before ps g n ≡ false
      → all ≡ range_with_len first (n - first) ++ needed_of ps g (range_with_len n (end - n))
      → all ≡ range_with_len first (n + 1 - first) ++ needed_of ps g (range_with_len (n + 1) (end - (n + 1)))
  needed_more all first n end l m h run =
      run ∙ ap (λ (t : List ℕ). range_with_len first (n - first) ++ t) (needs_first n end h m) ∙ sym (append_assoc (range_with_len first (n - first)) (n ∷ []) _) ∙ ap (λ (t : List ℕ). t ++ needed_of ps g (range_with_len (n + 1) (end - (n + 1)))) (sym (back first n l))

  pub needed_until : (all : List ℕ) (first n end : ℕ) → first ≤ n → n < end → ends_before ps g n ≡ false → is_short ps g n ≡ true
      → all ≡ range_with_len first (n - first) ++ needed_of ps g (range_with_len n (end - n))
      → all ≡ range_with_len first (n + 1 - first)
  needed_until all first n end l m h s run =
      run ∙ ap (λ (t : List ℕ). range_with_len first (n - first) ++ t) (needs_last n end h s m) ∙ sym (back first n l)

  pub missing_among : (all : List ℕ) (first n end : ℕ) → n < end → ends_before ps g n ≡ false → is_some (page_at ps g n) ≡ false
      → all ≡ range_with_len first (n - first) ++ needed_of ps g (range_with_len n (end - n))
      → all_at ps g all ≡ false
  missing_among all first n end m h none run =
      ap (all_at ps g) (run ∙ ap (λ (t : List ℕ). range_with_len first (n - first) ++ t) (needs_first n end h m)) ∙ one_missing (range_with_len first (n - first)) _ n none

module _ (c : Held) (g : Gfid) (offset len : ℕ) (some : (len == 0) ≡ false) (past : ends_before c.pages g (offset / 4096) ≡ true) where
  none_of_range : needed c g offset len ≡ []
  none_of_range = rw some (none_needed c.pages g (offset / 4096) ((offset + len + 4095) / 4096 - offset / 4096) past)

  -- a read past the end gives no bytes and uses no page
  pub answer_past : answer c g offset len ≡ Some []
  answer_past = rw none_of_range (rw (drop-nil {A = ℕ} (offset % 4096)) (rw (take-nil {A = ℕ} len) refl))

  pub after_past : after_read c g offset len ≡ c
  after_past = rw none_of_range refl

pub not_zero : (n : ℕ) → (n ≡ 0 → ⊥) → (n == 0) ≡ false
not_zero n h = (elim (n == 0) as (λ b. (n == 0) ≡ b → b ≡ false) [ true ↦ λ t. absurd (h (eqb-true n 0 t)) | false ↦ λ _. refl ]) refl
