-- A connection that has ended is never open again.
use Rattle.std.proofs.Common.{◌≡◌, refl, ap, arith}
use Rattle.std.specs.Prelude.{ℕ, ◌≢◌, ◌≤◌, ◌+◌, cond, Bool, true, false, List, [], ◌∷◌, ◌++◌, Option, Some, None}
use Rattle.std.proofs.lemmas.Bool.{ne_eqb}
use Rattle.fop_types.specs.declared.cells.Gfid.{Gfid}
use Rattle.fop_types.specs.declared.messages.BrickReq.{BrickReq}
use Rattle.xlator_law.specs.declared.winds.WindNo.{WindNo}
use Rattle.xlator_law.specs.Numbers.{wind_number}
use Rattle.client_xlator.specs.declared.sent.Sent.TheVariants.{Messages, NotConnected}
use Rattle.client_xlator.specs.Client.{ClientState, new_client, noted_on, sent_by, opens, message, is_reachable}
use Rattle.client_xlator.specs.Law.{Change, Connects, Ends, Notes, changed, after, IsNumbered, EndedStaysEnded}

numbered_noted : (o : Option ℕ) (c : ClientState) (fd : ℕ) (gfid : Gfid) → c.connection ≡ o → IsNumbered c → IsNumbered (noted_on o c fd gfid)
numbered_noted None c fd gfid is h = h
numbered_noted (Some n) c fd gfid is h = h

numbered_changed : (c : ClientState) (x : Change) → IsNumbered c → IsNumbered (changed c x)
numbered_changed c Connects h = refl
numbered_changed c Ends h = tt
numbered_changed c (Notes fd gfid) h = numbered_noted c.connection c fd gfid refl h

numbered_after : (c : ClientState) (xs : List Change) → IsNumbered c → IsNumbered (after c xs)
numbered_after c [] h = h
numbered_after c (x ∷ xs) h = numbered_after (changed c x) xs (numbered_changed c x h)

-- a number up to the last one that is not open
IsPast : ClientState → ℕ → Type 0
IsPast c n = (n ≤ c.last) × (c.connection ≢ Some n)

past_noted : (o : Option ℕ) (c : ClientState) (fd : ℕ) (gfid : Gfid) (n : ℕ) → IsPast c n → IsPast (noted_on o c fd gfid) n
unfolding IsPast
past_noted None c fd gfid n h = h
past_noted (Some m) c fd gfid n h = h

past_changed : (c : ClientState) (x : Change) (n : ℕ) → IsPast c n → IsPast (changed c x) n
unfolding IsPast
past_changed c Connects n h = ((let l = h.0 in omega (arith, l)), λ e. newer (some_is e)) where
  some_is : Some (c.last + 1) ≡ Some n → c.last + 1 ≡ n
  some_is e = cc

  newer : c.last + 1 ≡ n → ⊥
  newer e = let l = h.0 in omega (arith, l, e)
past_changed c Ends n h = (h.0, λ e. absurd cc)
past_changed c (Notes fd gfid) n h = past_noted c.connection c fd gfid n h

past_after : (c : ClientState) (xs : List Change) (n : ℕ) → IsPast c n → IsPast (after c xs) n
past_after c [] n h = h
past_after c (x ∷ xs) n h = past_after (changed c x) xs n (past_changed c x n h)

not_reached : (o : Option ℕ) (n : ℕ) → o ≢ Some n → is_reachable o (Some n) ≡ false
not_reached None n h = refl
not_reached (Some m) n h = ne_eqb m n (λ e. h (ap Some e))

unsent : (c : ClientState) (n : ℕ) → c.connection ≢ Some n → (w : WindNo) (fd : Option (ℕ × Gfid)) (r : BrickReq) → sent_by c w (Some n) fd r ≡ NotConnected
unsent c n h w fd r = by_case (is_reachable c.connection (Some n)) (not_reached c.connection n h) where
  by_case : (b : Bool) → b ≡ false → cond b (Messages (opens c w fd ++ message c.graph (wind_number w) r ∷ [])) NotConnected ≡ NotConnected
  by_case true e = absurd cc
  by_case false e = refl

pub ended_stays : EndedStaysEnded
unfolding IsPast
ended_stays brick graph before later = record {
  numbered = numbered_after (new_client brick graph) before tt;
  stays = λ n old past. (past_after (after (new_client brick graph) before) later n (old, past)).1;
  unsent = λ n old past w fd r. unsent (after (after (new_client brick graph) before) later) n (past_after (after (new_client brick graph) before) later n (old, past)).1 w fd r;
}
