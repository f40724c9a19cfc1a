-- What several reads or writes, one after the other, did to the bytes that a source or sink reports.
use Rattle.std.proofs.Common.{◌≡◌, ℕ, zero, suc, ◌+◌, ◌<◌, ◌≤◌, List, [], ◌∷◌, ◌++◌, zero-le, take_all, drop-drop, None, Some, IfSome, sym, ap, ◌∙◌, subst, length, length-append, take, drop, length-take, length-drop, ◌-◌, take-append-drop, arith}
use Rattle.std.proofs.lemmas.List.{take_rest}
use Rattle.std.specs.declared.option.Option.{Option}
use Rattle.std.specs.Io.KnownBytes.{Appends, Consumes}
use Rattle.std.proofs.KnownBytes.{Appends-trans, Consumes-trans}

pub consumed_more : (a b c : Option (List ℕ)) (bs cs : List ℕ) → Consumes a b bs → Consumes b c cs → Consumes a c (bs ++ cs)
consumed_more = Consumes-trans

-- more came than the limit
pub too_many : (a b c : Option (List ℕ)) (bs piece : List ℕ) (n limit : ℕ) → limit < length bs + n → n ≤ length piece → Consumes a b bs → Consumes b c (take n piece) → IfSome a (λ xs. limit < length xs)
too_many None b c bs piece n limit more fits p q = tt
too_many (Some x) None c bs piece n limit more fits p q = absurd p
too_many (Some x) (Some y) None bs piece n limit more fits p q = absurd q
too_many (Some x) (Some y) (Some z) bs piece n limit more fits p q =
    let all = ap length p ∙ length-append bs y in
    let next = ap length q ∙ length-append (take n piece) z in
    omega (arith, all, next, length-take n piece)

take_split : (at n : ℕ) (bs : List ℕ) → take (at + n) bs ≡ take at bs ++ take n (drop at bs)
take_split zero n bs = let same : 0 + n ≡ n = omega arith in ap (λ k. take k bs) same
take_split (suc at) n [] = let none : take n (drop (suc at) []) ≡ [] = take_all n [] zero-le in let more : suc at + n ≡ suc (at + n) = omega arith in ap (λ k. take k []) more ∙ sym none
take_split (suc at) n (x ∷ xs) = let more : suc at + n ≡ suc (at + n) = omega arith in ap (λ k. take k (x ∷ xs)) more ∙ ap (λ l. x ∷ l) (take_split at n xs)

pub appended_more : (a b c : Option (List ℕ)) (bs : List ℕ) (at n : ℕ) → Appends a b (take at bs) → Appends b c (take n (take (length bs - at) (drop at bs))) → Appends a c (take (at + n) bs)
appended_more a b c bs at n p q =
    let piece = ap (take n) (take_rest bs at) in
    subst (Appends a c) (sym (take_split at n bs)) (Appends-trans a b c _ _ p (subst (Appends b c) piece q))

pub still_within : (bs : List ℕ) (at n : ℕ) → at ≤ length bs → n ≤ length (take (length bs - at) (drop at bs)) → at + n ≤ length bs
still_within bs at n within fits = omega (arith, length-take (length bs - at) (drop at bs), length-drop at bs)

-- the prefix that was read, and what is left
pub prefix_read : (bytes piece : List ℕ) (at n : ℕ) → take n piece ≡ take n (drop at bytes) → drop at bytes ≡ take n piece ++ drop (at + n) bytes
prefix_read bytes piece at n same = sym (take-append-drop n (drop at bytes)) ∙ ap (λ l. l ++ drop n (drop at bytes)) (sym same) ∙ ap (λ l. take n piece ++ l) (drop-drop n at bytes)
