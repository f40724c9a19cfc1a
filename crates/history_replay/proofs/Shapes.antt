-- What the claims of a call say of it: it is answered at once, or its lookups did not find all, or they did and it has a last
-- operation.
use Rattle.std.proofs.Common.{◌≡◌, ◌∷◌, ◌++◌, refl, sym, ap, subst, ◌∙◌, ℕ, ◌==◌, List, [], length, true≢false}
use Rattle.std.specs.Prelude.{Bool, true, false, ◌&&◌, Option, Some, None, if◌then◌else◌}
use Rattle.fop_types.specs.Calls.{Descriptors, looked_up, at_once}
use Rattle.fop_types.specs.History.{Reply}
use Rattle.fop_types.specs.declared.answers.Answer.{Answer}
use Rattle.fop_types.specs.declared.flat.FlatOp.{FlatOp}
use Rattle.history_replay.specs.code.Cases.{Case, when, both, is_free, is_whole, first_by, last_by, op_claims, op_of, unfound_by, said_by, found_by, once_by, case_claims}
use Rattle.history_replay.specs.code.Claims.{AreHeld, walk_claims}
use Rattle.history_replay.specs.declared.claims.Claim.{Claim}
use Rattle.history_replay.proofs.Basics.{some_is, same_some, none_some}
use Rattle.history_replay.proofs.Walks.{held_parts}

-- ---- claims that are made one after another

pub record Both (x y : Option (List Claim)) (claims : List Claim) : Type 0 where
  pub first : List Claim
  pub second : List Claim
  pub first_is : x ≡ Some first
  pub second_is : y ≡ Some second
  pub all : claims ≡ first ++ second

pub both_parts : (x y : Option (List Claim)) (claims : List Claim) → both x y ≡ Some claims → Both x y claims
both_parts None y claims h = absurd cc
both_parts (Some first) None claims h = absurd cc
both_parts (Some first) (Some second) claims h = record { first = first; second = second; first_is = refl; second_is = refl; all = cc }

pub when_parts : (b : Bool) (xs claims : List Claim) → when b xs ≡ Some claims → (b ≡ true) × (claims ≡ xs)
when_parts true xs claims h = (refl, cc)
when_parts false xs claims h = absurd cc

pub if_parts : (b : Bool) (x : Option (List Claim)) (claims : List Claim) → (if b then x else None) ≡ Some claims → (b ≡ true) × (x ≡ Some claims)
if_parts true x claims h = (refl, h)
if_parts false x claims h = absurd cc

-- ---- the shapes

pub record Said (ops : List FlatOp) (replies : List Reply) (c : Case) (fds : Descriptors) : Type 0 where
  pub answer : Answer
  pub once : at_once fds c.call ≡ Some answer
  pub free : is_free c ≡ true
  pub claims : List Claim
  pub claims_are : said_by c.reply c answer ≡ Some claims
  pub held : AreHeld ops replies claims

pub record Unfound (ops : List FlatOp) (replies : List Reply) (c : Case) (fds : Descriptors) : Type 0 where
  pub sent : at_once fds c.call ≡ None
  pub free : is_free c ≡ true
  pub claims : List Claim
  pub claims_are : unfound_by c.reply c ≡ Some claims
  pub walk_held : AreHeld ops replies (walk_claims (looked_up c.call) c.places c.found)
  pub held : AreHeld ops replies claims

pub record Whole (ops : List FlatOp) (replies : List Reply) (c : Case) (fds : Descriptors) : Type 0 where
  pub sent : at_once fds c.call ≡ None
  pub whole : is_whole c ≡ true
  pub last : FlatOp
  pub op_is : op_of c fds ≡ Some last
  pub firsts : List Claim
  pub lasts : List Claim
  pub first_is : first_by c.first c last ≡ Some firsts
  pub last_is : last_by c.reply c last ≡ Some lasts
  pub walk_held : AreHeld ops replies (walk_claims (looked_up c.call) c.places c.found)
  pub first_held : AreHeld ops replies firsts
  pub last_held : AreHeld ops replies lasts

pub data Shape (ops : List FlatOp) (replies : List Reply) (c : Case) (fds : Descriptors) : Type 0 where
  IsSaid : Said ops replies c fds → Shape ops replies c fds
  IsUnfound : Unfound ops replies c fds → Shape ops replies c fds
  IsWhole : Whole ops replies c fds → Shape ops replies c fds

module _ (ops : List FlatOp) (replies : List Reply) (c : Case) (fds : Descriptors) where
  held_both : (x y : Option (List Claim)) (claims : List Claim) (b : Both x y claims) → AreHeld ops replies claims
      → AreHeld ops replies b.first × AreHeld ops replies b.second
  held_both x y claims b h = held_parts ops replies b.first b.second (subst (AreHeld ops replies) b.all h)

  by_op : (claims : List Claim) → at_once fds c.call ≡ None → is_whole c ≡ true → (last : Option FlatOp) → op_of c fds ≡ last → op_claims c last ≡ Some claims
      → AreHeld ops replies (walk_claims (looked_up c.call) c.places c.found) → AreHeld ops replies claims → Shape ops replies c fds
  by_op claims sent whole None is made walk_held held = absurd cc
  by_op claims sent whole (Some last) is made walk_held held =
      let b = both_parts (first_by c.first c last) (last_by c.reply c last) claims made in
      let h = held_both (first_by c.first c last) (last_by c.reply c last) claims b held in
      IsWhole (record {
        sent = sent;
        whole = whole;
        last = last;
        op_is = is;
        firsts = b.first;
        lasts = b.second;
        first_is = b.first_is;
        last_is = b.second_is;
        walk_held = walk_held;
        first_held = h.0;
        last_held = h.1;
      })

  by_found : (claims : List Claim) → at_once fds c.call ≡ None → (whole : Bool) → is_whole c ≡ whole → found_by whole c (op_of c fds) ≡ Some claims
      → AreHeld ops replies (walk_claims (looked_up c.call) c.places c.found) → AreHeld ops replies claims → Shape ops replies c fds
  by_found claims sent true is made walk_held held = by_op claims sent is (op_of c fds) refl made walk_held held
  by_found claims sent false is made walk_held held =
      let parts = if_parts (is_free c) (unfound_by c.reply c) claims made in
      IsUnfound (record { sent = sent; free = parts.0; claims = claims; claims_are = parts.1; walk_held = walk_held; held = held })

  by_once : (claims : List Claim) (once : Option Answer) → at_once fds c.call ≡ once → once_by once c fds ≡ Some claims → AreHeld ops replies claims
      → Shape ops replies c fds
  by_once claims (Some answer) is made held =
      let parts = if_parts (is_free c) (said_by c.reply c answer) claims made in
      IsSaid (record { answer = answer; once = is; free = parts.0; claims = claims; claims_are = parts.1; held = held })
  by_once claims None is made held =
      let walked = walk_claims (looked_up c.call) c.places c.found in
      let b = both_parts (Some walked) (found_by (is_whole c) c (op_of c fds)) claims made in
      let h = held_both (Some walked) (found_by (is_whole c) c (op_of c fds)) claims b held in
      let same : b.first ≡ walked = sym (some_is walked b.first b.first_is) in
      by_found b.second is (is_whole c) refl b.second_is (subst (AreHeld ops replies) same h.0) h.1

  pub shape_of : (claims : List Claim) → case_claims c fds ≡ Some claims → AreHeld ops replies claims → Shape ops replies c fds
  shape_of claims made held = by_once claims (at_once fds c.call) refl made held
