-- Bits of the `&` of several masks.
use Rattle.std.proofs.Common.{◌≡◌, ℕ, ◌+◌, ◌<◌, ◌≤◌, ◌↔◌, List, length, get_or, bit_and, arith, ap, ◌∙◌, min}
use Rattle.std.proofs.lemmas.List.{get_or_default}
use Rattle.std.proofs.lemmas.List.Elements.{AllWithin-more}
use Rattle.std.proofs.lemmas.Nat.Bits.{bit_at_and, bit_at-lt, bit_at-trailing_zeros}
use Rattle.std.specs.Int.{bit_at, trailing_zeros, w8}
use Rattle.std.specs.List.{AllWithin}
use Rattle.fop_types.specs.declared.contents.Mask.{Mask}
use Rattle.afr_changelog.specs.Masks.{Names, IsCommon, IsLowestCommon}

-- the first n masks all name the replica
abbrev pub AreNaming : List Mask → ℕ → ℕ → Type 0
AreNaming masks n replica = AllWithin (λ mask. Names mask replica) masks 0 n

pub naming_more : (masks : List Mask) (n common j : ℕ) (d : Mask) (P : Type 0) → n < length masks → (bit_at common j ≡ 1) ↔ (P × AreNaming masks n j) → (bit_at (bit_and common (get_or masks n d).0) j ≡ 1) ↔ (P × AreNaming masks (n + 1) j)
naming_more masks n common j d P l e =
    let b : bit_at (bit_and common (get_or masks n d).0) j ≡ min (bit_at common j) (bit_at (get_or masks n d).0 j) = bit_at_and _ _ _ in
    let x : bit_at common j < 2 = bit_at-lt _ _ in
    let y : bit_at (get_or masks n d).0 j < 2 = bit_at-lt _ _ in (
      (λ h. let p : bit_at common j ≡ 1 = omega arith in let q : bit_at (get_or masks n d).0 j ≡ 1 = omega arith in
          ((e.0 p).0, AllWithin-more (λ mask. Names mask j) masks 0 n (e.0 p).1 (λ f. ap (λ (m : Mask). bit_at m.0 j) (get_or_default masks n f d l) ∙ q))),
      λ a. let p : bit_at common j ≡ 1 = e.1 (a.0, λ k f low high. a.1 k f low (omega arith)) in
          let q : bit_at (get_or masks n d).0 j ≡ 1 = a.1 n d (omega arith) (omega arith) in omega arith,
    )

-- a bit of the `&` of all is 1 exactly where all have it
pub naming_all : (masks : List Mask) (n common j : ℕ) (d : Mask) → 1 ≤ length masks → n ≡ length masks → (bit_at common j ≡ 1) ↔ ((bit_at (get_or masks 0 d).0 j ≡ 1) × AreNaming masks n j) → (bit_at common j ≡ 1) ↔ IsCommon masks j
naming_all masks n common j d l m e =
    ((λ h k f w. (e.0 h).1 k f (omega arith) (omega arith)), λ a. e.1 (a 0 d l, λ k f low high. a k f (omega arith)))

pub lowest_common : (masks : List Mask) (common : ℕ) → 0 < common → common < 256 → ((j : ℕ) → (bit_at common j ≡ 1) ↔ IsCommon masks j) → IsLowestCommon masks (trailing_zeros w8 common)
lowest_common masks common pos fits e =
    let t = bit_at-trailing_zeros w8 common pos fits in
    record {
      common = (e _).0 t.1;
      lowest = λ j l h. let zero : bit_at common j ≡ 0 = t.2 j l in let one : bit_at common j ≡ 1 = (e j).1 h in absurd (omega arith);
    }
