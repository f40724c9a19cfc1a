-- The latest request to a replica, and what its answers say.
use Rattle.std.proofs.Common.{◌≡◌, ◌≢◌, ℕ, zero, suc, ◌<◌, Bool, true, false, ◌⊎◌, inl, inr, ◌==◌, List, [], ◌∷◌, ◌++◌, Option, Some, None, refl, sym, ap, subst, ◌∙◌, arith, if◌then◌else◌, slice_set}
use Rattle.std.proofs.lemmas.Bool.{eq-eqb, true≢false}
use Rattle.std.proofs.lemmas.List.{get_or-set_other}
use Rattle.fop_types.specs.Bounds.{content_kind}
use Rattle.fop_types.specs.Rank.{rank}
use Rattle.fop_types.specs.declared.cells.Aspect.{Aspect}
use Rattle.fop_types.specs.declared.contents.Content.{Content}
use Rattle.fop_types.specs.declared.messages.BrickRep.{BrickRep}
use Rattle.fop_types.specs.declared.messages.BrickRep.TheVariants as rep
use Rattle.fop_types.specs.declared.messages.BrickReq.{BrickReq}
use Rattle.fop_types.specs.declared.messages.DoneArm.TheVariants as arm
use Rattle.afr_phases.specs.declared.wave.Wave.{Wave}
use Rattle.afr_phases.specs.Answers.{is_plain_done, content_in}
use Rattle.afr_phases.specs.Flags.{flag}
use Rattle.afr_phases.specs.Sending.{sends, sends_among}
use Rattle.afr_phases.specs.Waves.{is_over}
use Rattle.afr_phases.proofs.Asked.{none_asked as none_are}
pub use Rattle.afr_phases.proofs.Asked.{asked_before}
use Rattle.self_heal.specs.Runs.{only}
use Rattle.self_heal.specs.Handed.{request_to}
use Rattle.self_heal.proofs.Truths.{flags_have}

-- ---- requests

Among : ℕ → List ℕ → Type 0
Among k [] = ⊥
Among k (j ∷ js) = (j ≡ k) ⊎ Among k js

among_five : (k : ℕ) → k < 5 → Among k (0 ∷ 1 ∷ 2 ∷ 3 ∷ 4 ∷ [])
unfolding Among
among_five zero l = inl refl
among_five (suc zero) l = inr (inl refl)
among_five (suc (suc zero)) l = inr (inr (inl refl))
among_five (suc (suc (suc zero))) l = inr (inr (inr (inl refl)))
among_five (suc (suc (suc (suc zero)))) l = inr (inr (inr (inr (inl refl))))
among_five (suc (suc (suc (suc (suc k))))) l = absurd (omega arith)

sent_among : (ks : List ℕ) (to : List Bool) (req : BrickReq) (rest : List (ℕ × BrickReq)) (k : ℕ) → Among k ks → flag to k ≡ true → request_to (sends_among ks to req ++ rest) k ≡ Some req
unfolding Among
sent_among [] to req rest k m f = absurd m
sent_among (j ∷ ks) to req rest k m f = by (flag to j) refl (λ i. sent_among ks to req rest k i f) where
  first : (b : Bool) → (j == k) ≡ b → (j ≡ k) ⊎ Among k ks → (Among k ks → request_to (sends_among ks to req ++ rest) k ≡ Some req) → (if b then Some req else request_to (sends_among ks to req ++ rest) k) ≡ Some req
  first true e i later = refl
  first false e (inl same) later = absurd (true≢false (sym (eq-eqb j k same) ∙ e))
  first false e (inr i) later = later i

  skip : flag to j ≡ false → (j ≡ k) ⊎ Among k ks → Among k ks
  skip e (inl same) = absurd (true≢false (sym f ∙ subst (λ (i : ℕ). flag to i ≡ false) same e))
  skip e (inr i) = i

  by : (b : Bool) → flag to j ≡ b → (Among k ks → request_to (sends_among ks to req ++ rest) k ≡ Some req) → request_to ((if b then (j, req) ∷ sends_among ks to req else sends_among ks to req) ++ rest) k ≡ Some req
  by true e later = first (j == k) refl m later
  by false e later = later (skip e m)

pub request_sent : (to : List Bool) (req : BrickReq) (rest : List (ℕ × BrickReq)) (k : ℕ) → k < 5 → flag to k ≡ true → request_to (sends to req ++ rest) k ≡ Some req
request_sent to req rest k low f = sent_among (0 ∷ 1 ∷ 2 ∷ 3 ∷ 4 ∷ []) to req rest k (among_five k low) f

pub only_self : (k : ℕ) → k < 5 → flag (only k) k ≡ true
only_self k low = flags_have (λ j. k == j) k low (eq-eqb k k refl)

-- ---- who is asked

pub asked_still : (xs : List Bool) (k j : ℕ) → j ≢ k → flag xs j ≡ true → flag (slice_set xs k false) j ≡ true
asked_still xs k j other h = get_or-set_other xs k j false false other ∙ h

pub none_asked : (w : Wave) (j : ℕ) → j < 5 → is_over w ≡ true → flag w.asked j ≡ true → ⊥
none_asked w j low over h = true≢false (sym h ∙ none_are w j low over)

-- ---- what answers say

content_pair : (x c : Content) (m n : ℕ) → ◌≡◌ {A = Option (Content × ℕ)} (Some (x, m)) (Some (c, n)) → ◌≡◌ {A = BrickRep} (rep.Done (arm.Content x m)) (rep.Done (arm.Content c n))
content_pair x c m n e =
    let p : ◌≡◌ {A = Content × ℕ} (x, m) (c, n) = cc in
    let q : x ≡ c = ap (λ (y : Content × ℕ). y.0) p in
    let r : m ≡ n = ap (λ (y : Content × ℕ). y.1) p in cc

pub content_is : (r : BrickRep) (a : Aspect) (c : Content) (n : ℕ) → content_in r a ≡ Some (c, n) → r ≡ rep.Done (arm.Content c n)
content_is (rep.Done (arm.Content x m)) a c n e = by (content_kind x == rank a) e where
  by : (b : Bool) → ◌≡◌ {A = Option (Content × ℕ)} (if b then Some (x, m) else None) (Some (c, n)) → ◌≡◌ {A = BrickRep} (rep.Done (arm.Content x m)) (rep.Done (arm.Content c n))
  by true e = content_pair x c m n e
  by false e = absurd cc
content_is (rep.Done arm.Nothing) a c n e = absurd cc
content_is (rep.Done (arm.Rows rows)) a c n e = absurd cc
content_is (rep.Done (arm.Cells cells)) a c n e = absurd cc
content_is rep.Gone a c n e = absurd cc
content_is rep.Fault a c n e = absurd cc
content_is rep.Unfit a c n e = absurd cc
content_is rep.BadFd a c n e = absurd cc

pub plain_is : (r : BrickRep) → is_plain_done r ≡ true → r ≡ rep.Done arm.Nothing
plain_is (rep.Done arm.Nothing) e = refl
plain_is (rep.Done (arm.Rows rows)) e = absurd cc
plain_is (rep.Done (arm.Content x m)) e = absurd cc
plain_is (rep.Done (arm.Cells cells)) e = absurd cc
plain_is rep.Gone e = absurd cc
plain_is rep.Fault e = absurd cc
plain_is rep.Unfit e = absurd cc
plain_is rep.BadFd e = absurd cc
