-- Where the first reply to each call is, with one reply more.
use Rattle.std.proofs.Common.{◌≡◌, refl, sym, ap, subst, ◌∙◌, arith}
use Rattle.std.specs.Prelude.{ℕ, zero, suc, ◌≢◌, ◌<◌, ◌≤◌, ◌+◌, ◌==◌, Bool, true, false, List, [], ◌∷◌, ◌++◌, Option, None, Some, length, find, slice_get, slice_set, if◌then◌else◌}
use Rattle.std.proofs.lemmas.Bool.{eqb-true, eqb-false, eq-eqb, ne_eqb}
use Rattle.std.proofs.lemmas.List.{length-append, length-set}
use Rattle.std.proofs.lemmas.Option.{slice_get_within}
use Rattle.mount_log.proofs.Items.{some_is, at_set, beside_set}
use Rattle.mount_log.specs.declared.logs.ReplyLine.{ReplyLine}
use Rattle.run_report.specs.Reports.{reply_to}
use Rattle.run_report.specs.Numbers.{noted, noted_at, reply_at, AreByNumber}

module _ {X : Type 0} where
  kept : (xs : List X) (x : X) (k : ℕ) → k < length xs → slice_get (xs ++ x ∷ []) k ≡ slice_get xs k
  kept [] x k lt = absurd (omega (arith, lt))
  kept (y ∷ xs) x zero lt = refl
  kept (y ∷ xs) x (suc k) lt = kept xs x k (omega (arith, lt))

  last : (xs : List X) (x : X) → slice_get (xs ++ x ∷ []) (length xs) ≡ Some x
  last [] x = refl
  last (y ∷ xs) x = last xs x

  abbrev found_or : Option X → Bool → X → Option X
  found_or None b x = if b then Some x else None
  found_or (Some y) b x = Some y

  found_step : (p : X → Bool) (y : X) (xs : List X) (x : X) (b : Bool) → find p (xs ++ x ∷ []) ≡ found_or (find p xs) (p x) x
      → (if b then Some y else find p (xs ++ x ∷ [])) ≡ found_or (if b then Some y else find p xs) (p x) x
  found_step p y xs x true ih = refl
  found_step p y xs x false ih = ih

  found_push : (p : X → Bool) (xs : List X) (x : X) → find p (xs ++ x ∷ []) ≡ found_or (find p xs) (p x) x
  found_push p [] x = refl
  found_push p (y ∷ xs) x = found_step p y xs x (p y) (found_push p xs x)

module _ (rs : List ReplyLine) (r : ReplyLine) where
  -- what is known of a call stays, where the reply is another's or a later one
  of_other : (number : ℕ) → r.call ≢ number → reply_to number (rs ++ r ∷ []) ≡ reply_to number rs
  of_other number ne = found_push (λ (x : ReplyLine). x.call == number) rs r ∙ by (reply_to number rs) (ne_eqb r.call number ne) where
    by : (o : Option ReplyLine) → (r.call == number) ≡ false → found_or o (r.call == number) r ≡ o
    by None e = ap (λ (b : Bool). if b then Some r else None) e
    by (Some x) e = refl

  later : (number : ℕ) (x : ReplyLine) → reply_to number rs ≡ Some x → reply_to number (rs ++ r ∷ []) ≡ Some x
  later number x is = found_push (λ (y : ReplyLine). y.call == number) rs r ∙ ap (λ (o : Option ReplyLine). found_or o (r.call == number) r) is

  first : (number : ℕ) → r.call ≡ number → reply_to number rs ≡ None → reply_to number (rs ++ r ∷ []) ≡ Some r
  first number its none =
      found_push (λ (y : ReplyLine). y.call == number) rs r ∙ ap (λ (o : Option ReplyLine). found_or o (r.call == number) r) none
      ∙ ap (λ (b : Bool). if b then Some r else None) (eq-eqb r.call number its)

  stays_at : (place : Option ℕ) → ((at : ℕ) → place ≡ Some at → at < length rs) → reply_at (rs ++ r ∷ []) place ≡ reply_at rs place
  stays_at None low = refl
  stays_at (Some at) low = kept rs r at (low at refl)

  module _ (many : ℕ) (places : List (Option ℕ)) (a : AreByNumber many rs places) where
    more : (at : ℕ) → at < length rs → at < length (rs ++ r ∷ [])
    more at lt = let n = length-append rs (r ∷ []) in omega (arith, n, lt)

    -- the places are as they were
    as_before : ((index : ℕ) (place : Option ℕ) → slice_get places index ≡ Some place → reply_to (index + 1) (rs ++ r ∷ []) ≡ reply_to (index + 1) rs) → AreByNumber many (rs ++ r ∷ []) places
    as_before same_reply = record {
      long = a.long;
      each = λ index place is. stays_at place (λ at e. a.known index at (is ∙ ap Some e)) ∙ a.each index place is ∙ sym (same_reply index place is);
      known = λ index at is. more at (a.known index at is);
    }

    by_place : (j : ℕ) → r.call ≡ suc j → (o : Option (Option ℕ)) → slice_get places j ≡ o → AreByNumber many (rs ++ r ∷ []) (noted_at places j (length rs) o)
    by_place j its None is = as_before (λ index place there. of_other (index + 1) (λ e. absurd (no index place there (omega (arith, e, its))))) where
      no : (index : ℕ) (place : Option ℕ) → slice_get places index ≡ Some place → index ≡ j → ⊥
      no index place there e = let f : ◌≡◌ {A = Option (Option ℕ)} None (Some place) = sym is ∙ ap (slice_get places) (sym e) ∙ there in absurd cc
    by_place j its (Some (Some before)) is = as_before (λ index place there. by index place there (index == j) refl) where
      by : (index : ℕ) (place : Option ℕ) → slice_get places index ≡ Some place → (b : Bool) → (index == j) ≡ b → reply_to (index + 1) (rs ++ r ∷ []) ≡ reply_to (index + 1) rs
      by index place there true e =
          let s : index ≡ j = eqb-true index j e in
          let here : slice_get places index ≡ Some (Some before) = ap (slice_get places) s ∙ is in
          had index (slice_get rs before) refl (a.known index before here) (a.each index (Some before) here) where
            had : (index : ℕ) (o : Option ReplyLine) → slice_get rs before ≡ o → before < length rs → slice_get rs before ≡ reply_to (index + 1) rs → reply_to (index + 1) (rs ++ r ∷ []) ≡ reply_to (index + 1) rs
            had index None e lt each = absurd (past rs before lt e) where
              past : (xs : List ReplyLine) (k : ℕ) → k < length xs → slice_get xs k ≡ None → ⊥
              past [] k lt e = absurd (omega (arith, lt))
              past (x ∷ xs) zero lt e = absurd cc
              past (x ∷ xs) (suc k) lt e = past xs k (omega (arith, lt)) e
            had index (Some x) e lt each = later (index + 1) x (sym each ∙ e) ∙ sym (sym each ∙ e)
      by index place there false e = of_other (index + 1) (λ f. eqb-false index j e (omega (arith, f, its)))
    by_place j its (Some None) is = record {
      long = length-set places j (Some (length rs)) ∙ a.long;
      each = λ index place there. by index place there (index == j) refl;
      known = λ index at there. low index at there (index == j) refl;
    } where
      inside : j < length places
      inside = slice_get_within places j None is

      by : (index : ℕ) (place : Option ℕ) → slice_get (slice_set places j (Some (length rs))) index ≡ Some place → (b : Bool) → (index == j) ≡ b → reply_at (rs ++ r ∷ []) place ≡ reply_to (index + 1) (rs ++ r ∷ [])
      by index place there true e =
          let s : index ≡ j = eqb-true index j e in
          let p : Some (length rs) ≡ place = some_is (Some (length rs)) place (sym (at_set places j (Some (length rs)) inside) ∙ ap (slice_get (slice_set places j (Some (length rs)))) (sym s) ∙ there) in
          ap (reply_at (rs ++ r ∷ [])) (sym p) ∙ last rs r
          ∙ sym (first (index + 1) (omega (arith, its, s)) (sym (a.each index None (ap (slice_get places) s ∙ is))))
      by index place there false e =
          let ne : index ≢ j = eqb-false index j e in
          let was : slice_get places index ≡ Some place = sym (beside_set places j index (Some (length rs)) ne) ∙ there in
          stays_at place (λ at f. a.known index at (was ∙ ap Some f)) ∙ a.each index place was ∙ sym (of_other (index + 1) (λ f. ne (omega (arith, f, its))))

      low : (index at : ℕ) → slice_get (slice_set places j (Some (length rs))) index ≡ Some (Some at) → (b : Bool) → (index == j) ≡ b → at < length (rs ++ r ∷ [])
      low index at there true e =
          let s : index ≡ j = eqb-true index j e in
          let p : length rs ≡ at = some_is (length rs) at (some_is (Some (length rs)) (Some at) (sym (at_set places j (Some (length rs)) inside) ∙ ap (slice_get (slice_set places j (Some (length rs)))) (sym s) ∙ there)) in
          let n = length-append rs (r ∷ []) in omega (arith, n, p)
      low index at there false e = more at (a.known index at (sym (beside_set places j index (Some (length rs)) (eqb-false index j e)) ∙ there))

    by_call : (call : ℕ) → r.call ≡ call → AreByNumber many (rs ++ r ∷ []) (noted places call (length rs))
    by_call zero its = as_before (λ index place there. of_other (index + 1) (λ e. absurd (omega (arith, e, its))))
    by_call (suc j) its = by_place j its (slice_get places j) refl

    pub one_more : AreByNumber many (rs ++ r ∷ []) (noted places r.call (length rs))
    one_more = by_call r.call refl
