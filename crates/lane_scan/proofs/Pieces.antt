-- Blocks by their pieces.
use Rattle.std.proofs.Common.{inl, inr, ◌≡◌, ℕ, ◌+◌, ◌-◌, ◌*◌, ◌/◌, ◌%◌, ◌<◌, ◌≤◌, ◌↔◌, List, length, get_or, take, drop, arith, ◌∙◌, sym, ap, subst}
use Rattle.std.proofs.lemmas.Bool.{cases_lt, cases_eq}
use Rattle.std.proofs.lemmas.List.{same_lists, drop_all, get_or_default}
use Rattle.std.proofs.lemmas.List.Elements.{All-take, All-drop}
use Rattle.std.proofs.lemmas.Simd.{length-chunk, get_or-chunk}
use Rattle.std.proofs.lemmas.Nat.Bits.{bit_at-lt, bit_at-zero}
use Rattle.std.specs.Int.{bit_at}
use Rattle.std.specs.Prelude.{◌≢◌}
use Rattle.lane_scan.specs.Blocks.{piece, MarksDifferences, IsZero}
use Rattle.lane_scan.proofs.MarkedBits.{Marked, no_bits}

pub length_piece : (k : ℕ) (block : List ℕ) → 64 * k + 64 ≤ length block → length (piece k block) ≡ 64
length_piece k block l = length-chunk (64 * k) 64 block l

-- a byte of the block in its piece
in_piece : (block : List ℕ) (i d : ℕ) → get_or (piece (i / 64) block) (i % 64) d ≡ get_or block i d
in_piece block i d = get_or-chunk (64 * (i / 64)) 64 block (i % 64) d (omega arith) ∙ ap (λ (n : ℕ). get_or block n d) (omega arith)

pub same_pieces : (a b : List ℕ) → length a ≡ 4096 → length b ≡ 4096 → ((k : ℕ) → k < 64 → piece k a ≡ piece k b) → a ≡ b
same_pieces a b l m e = same_lists a b (l ∙ sym m) (λ i d h.
    sym (in_piece a i d) ∙ ap (λ (p : List ℕ). get_or p (i % 64) d) (e (i / 64) (omega arith)) ∙ in_piece b i d)

pub zero_pieces : (block : List ℕ) → length block ≡ 4096 → ((k : ℕ) → k < 64 → IsZero (piece k block)) → IsZero block
zero_pieces block l z i d h =
    sym (in_piece block i d) ∙ z (i / 64) (omega arith) (i % 64) d (omega (arith, length_piece (i / 64) block (omega arith)))

pub piece_of_zero : (k : ℕ) (block : List ℕ) → IsZero block → IsZero (piece k block)
piece_of_zero k block z = All-take (λ byte. byte ≡ 0) 64 (drop (64 * k) block) (All-drop (λ byte. byte ≡ 0) (64 * k) block z)

-- past the block there are no bytes
past : (k : ℕ) (a b : List ℕ) → length a ≡ 4096 → length b ≡ 4096 → 64 ≤ k → piece k a ≡ piece k b
past k a b l m h = ap (take 64) (drop_all (64 * k) a (omega arith) ∙ sym (drop_all (64 * k) b (omega arith)))

pub marks : (a b : List ℕ) (bits : ℕ) → length a ≡ 4096 → length b ≡ 4096 → Marked (λ k. piece k a ≢ piece k b) (λ k. piece k a ≡ piece k b) bits 64 → MarksDifferences a b bits
marks a b bits l m s k = elim (cases_lt k 64) [
  | inl below ↦ (
    s.one k below,
    λ d. elim (cases_eq (bit_at bits k) 1) [
      | inl one ↦ one
      | inr other ↦ absurd (d (s.zero k below (omega (arith, bit_at-lt bits k))))
    ],
  )
  | inr above ↦ (λ one. absurd (omega (arith, s.above k above)), λ d. absurd (d (past k a b l m above)))
]

pub same_blocks : (a b : List ℕ) (bits : ℕ) → length a ≡ 4096 → length b ≡ 4096 → Marked (λ k. piece k a ≢ piece k b) (λ k. piece k a ≡ piece k b) bits 64 → (bits ≡ 0) ↔ (a ≡ b)
same_blocks a b bits l m s = (
  λ z. same_pieces a b l m (λ k h. s.zero k h (ap (λ (n : ℕ). bit_at n k) z ∙ bit_at-zero k)),
  λ e. no_bits bits (λ j one. (marks a b bits l m s j).0 one (ap (piece j) e)),
)

-- a byte of a piece, where the pieces are the same
pub byte_of_same : (k i : ℕ) (a b : List ℕ) → 64 * k ≤ i → i < 64 * k + 64 → piece k a ≡ piece k b → get_or a i 0 ≡ get_or b i 0
byte_of_same k i a b low high e =
    let at : 64 * k + (i - 64 * k) ≡ i = omega arith in
    let within : i - 64 * k < 64 = omega arith in
    sym (get_or-chunk (64 * k) 64 a (i - 64 * k) 0 within ∙ ap (λ (n : ℕ). get_or a n 0) at)
    ∙ ap (λ (p : List ℕ). get_or p (i - 64 * k) 0) e
    ∙ (get_or-chunk (64 * k) 64 b (i - 64 * k) 0 within ∙ ap (λ (n : ℕ). get_or b n 0) at)

pub same_from_bytes : (k : ℕ) (a b : List ℕ) → 64 * k + 64 ≤ length a → 64 * k + 64 ≤ length b → ((j : ℕ) → 64 * k ≤ j → j < 64 * k + 64 → get_or a j 0 ≡ get_or b j 0) → piece k a ≡ piece k b
same_from_bytes k a b l m e = same_lists (piece k a) (piece k b) (length_piece k a l ∙ sym (length_piece k b m)) (λ i d h.
    let within : i < 64 = omega (arith, length_piece k a l) in
    get_or-chunk (64 * k) 64 a i d within ∙ get_or_default a (64 * k + i) d 0 (omega arith) ∙ e (64 * k + i) (omega arith) (omega arith)
    ∙ sym (get_or-chunk (64 * k) 64 b i d within ∙ get_or_default b (64 * k + i) d 0 (omega arith)))

-- one more piece of zeros
pub one_more_zero : (k : ℕ) (block : List ℕ) → ((j : ℕ) → j < k → IsZero (piece j block)) → IsZero (piece k block) → (j : ℕ) → j < k + 1 → IsZero (piece j block)
one_more_zero k block before here j l = elim (cases_eq j k) [
  | inl e ↦ subst (λ (n : ℕ). IsZero (piece n block)) (sym e) here
  | inr d ↦ before j (omega arith)
]
