-- The gfid of an object that a call makes is the one that it drew, and no other call's.
use Rattle.std.proofs.Common.{◌≡◌, ◌∙◌, ℕ, ◌+◌, ◌<◌, ◌≤◌, ◌==◌, Bool, true, false, refl, sym, ap, subst, List, Option, Some, None, if◌then◌else◌, arith}
use Rattle.std.specs.Prelude.{◌≢◌}
use Rattle.std.proofs.lemmas.Bool.{eqb-true}
use Rattle.afr_machine.specs.Changes.Verdict.{Undrawn}
use Rattle.afr_machine.specs.Replicas.{with_at}
use Rattle.dht_fops.specs.Answers.{flat_op, added, change_of}
use Rattle.fop_types.specs.Calls.{first_op}
use Rattle.fop_types.specs.Cells.{root}
use Rattle.fop_types.specs.Names.{is_same_name}
use Rattle.fop_types.specs.declared.cells.Gfid.{Gfid}
use Rattle.fop_types.specs.declared.cells.Kind.{Kind}
use Rattle.fop_types.specs.declared.cells.Kind.TheVariants as kind
use Rattle.fop_types.specs.declared.contents.Item.{Item}
use Rattle.fop_types.specs.declared.contents.Span.{Span}
use Rattle.fop_types.specs.declared.flat.FlatOp.{FlatOp}
use Rattle.fop_types.specs.declared.flat.FlatOp.TheVariants as flat
use Rattle.fop_types.specs.declared.fops.Fop.{Fop}
use Rattle.fop_types.specs.declared.fops.Fop.TheVariants as fop
use Rattle.fop_types.specs.declared.history.Entry.{Entry}
use Rattle.fop_types.specs.declared.store_ops.StoreOp.TheVariants as op
use Rattle.mount_laws.specs.Effects.{is_rename, part_of, IsOwnEntry, IsOwnEffect}
use Rattle.mount_laws.specs.Guards.{Allowed, IsReached, DrawsOwn}
use Rattle.mount_laws.specs.Objects.{DrawnApart}
use Rattle.mount_laws.specs.Runs.{begun}
use Rattle.mount_laws.specs.States.{State, Call, Status}
use Rattle.mount_laws.specs.States.Status.{Unsubmitted, Ready, Running, Answered}
use Rattle.mount_laws.specs.Steps.{Step, after, nth_gfid, volume_of}
use Rattle.mount_laws.proofs.Beside.{counted, numbered}
use Rattle.mount_laws.proofs.Entering.{effect_own}
use Rattle.mount_laws.proofs.Tables.{at_case, at_both}

-- ---- numbers of gfids

pub record IsDrawn (draws : ℕ) (gfid : Gfid) : Type 0 where
  pub number : ℕ
  pub some : 1 ≤ number
  pub most : number ≤ draws
  pub is : gfid ≡ nth_gfid number

pub record DrawnIn (calls : ℕ → Call) (draws : ℕ) : Type 0 where
  pub drawn : (c : ℕ) (gfid : Gfid) → (calls c).drawn ≡ Some gfid → IsDrawn draws gfid
  pub apart : (a b : ℕ) (gfid : Gfid) → (calls a).drawn ≡ Some gfid → (calls b).drawn ≡ Some gfid → a ≡ b

-- a call's status changes
pub status_drawn : (calls : ℕ → Call) (c : ℕ) (status : Status) (i : ℕ) → (with_at calls c (record (calls c) { status = status }) i).drawn ≡ (calls i).drawn
status_drawn calls c status i = at_case (λ j (one : Call). one.drawn ≡ (calls j).drawn) calls c (record (calls c) { status = status }) refl i (λ differ. refl)

kept_drawn : (calls : ℕ → Call) (draws c : ℕ) (status : Status) → DrawnIn calls draws → DrawnIn (with_at calls c (record (calls c) { status = status })) draws
kept_drawn calls draws c status a = record {
  drawn = λ i gfid e. a.drawn i gfid (sym (status_drawn calls c status i) ∙ e);
  apart = λ i j gfid e f. a.apart i j gfid (sym (status_drawn calls c status i) ∙ e) (sym (status_drawn calls c status j) ∙ f);
}

pub numbers_are : (a b : ℕ) → nth_gfid a ≡ nth_gfid b → a ≡ b
numbers_are a b e = let low : 1 + a ≡ 1 + b = ap (λ (g : Gfid). g.lo) e in omega (arith, low)

unwrap : {A : Type 0} (a b : A) → ◌≡◌ {A = Option A} (Some a) (Some b) → a ≡ b
unwrap a b e = cc

-- a call that draws the next gfid, or none
module _ (calls : ℕ → Call) (draws n : ℕ) (new : Call) (a : DrawnIn calls draws) where
  next_drawn : new.drawn ≡ Some (nth_gfid (draws + 1)) → DrawnIn (with_at calls n new) (draws + 1)
  next_drawn is = record {
    drawn = λ c. at_case (λ i (one : Call). (gfid : Gfid) → one.drawn ≡ Some gfid → IsDrawn (draws + 1) gfid) calls n new
        (λ gfid e. record { number = draws + 1; some = omega arith; most = omega arith; is = unwrap gfid (nth_gfid (draws + 1)) (sym e ∙ is) }) c
        (λ differ gfid e. let k = a.drawn c gfid e in record { number = k.number; some = k.some; most = let most = k.most in omega (arith, most); is = k.is });
    apart = λ x y gfid.
        at_case (λ i (one : Call). one.drawn ≡ Some gfid → (with_at calls n new y).drawn ≡ Some gfid → i ≡ y) calls n new
        (at_case (λ j (other : Call). new.drawn ≡ Some gfid → other.drawn ≡ Some gfid → n ≡ j) calls n new (λ e f. refl) y (λ differ e f. absurd (clash y gfid e f))) x
        (λ differ. at_case (λ j (other : Call). (calls x).drawn ≡ Some gfid → other.drawn ≡ Some gfid → x ≡ j) calls n new (λ e f. absurd (clash x gfid f e)) y (λ more e f. a.apart x y gfid e f));
  }
    where
      clash : (c : ℕ) (gfid : Gfid) → new.drawn ≡ Some gfid → (calls c).drawn ≡ Some gfid → ⊥
      clash c gfid e f =
          let k = a.drawn c gfid f in
          let same : k.number ≡ draws + 1 = numbers_are k.number (draws + 1) (sym k.is ∙ unwrap gfid (nth_gfid (draws + 1)) (sym e ∙ is)) in
          let most = k.most in omega (arith, same, most)

  none_drawn : new.drawn ≡ None → DrawnIn (with_at calls n new) draws
  none_drawn is = record {
    drawn = λ c. at_case (λ i (one : Call). (gfid : Gfid) → one.drawn ≡ Some gfid → IsDrawn draws gfid) calls n new (λ gfid e. absurd (clash gfid e)) c (λ differ. a.drawn c);
    apart = λ x y gfid.
        at_case (λ i (one : Call). one.drawn ≡ Some gfid → (with_at calls n new y).drawn ≡ Some gfid → i ≡ y) calls n new (λ e f. absurd (clash gfid e)) x
        (λ differ. at_case (λ j (other : Call). (calls x).drawn ≡ Some gfid → other.drawn ≡ Some gfid → x ≡ j) calls n new (λ e f. absurd (clash gfid f)) y (λ more e f. a.apart x y gfid e f));
  }
    where
      clash : (gfid : Gfid) → new.drawn ≡ Some gfid → ⊥
      clash gfid e = let no : ◌≡◌ {A = Option Gfid} None (Some gfid) = sym is ∙ e in absurd cc

step_drawn : (m : State) (step : Step) → Allowed m step → DrawnIn m.calls m.draws → DrawnIn (after m step).calls (after m step).draws
step_drawn m (Step.Submits true) h a = next_drawn m.calls m.draws (m.submitted + 1) _ a refl
step_drawn m (Step.Submits false) h a = none_drawn m.calls m.draws (m.submitted + 1) _ a refl
step_drawn m (Step.Concludes c) h a = kept_drawn m.calls m.draws c Answered a
step_drawn m (Step.Switches names) h a = a
step_drawn m (Step.Begins c f kept) h a = kept_drawn m.calls m.draws c _ a
step_drawn m (Step.Settles t u true) h a = kept_drawn m.calls m.draws t.call _ a
step_drawn m (Step.Settles t u false) h a = kept_drawn m.calls m.draws t.call _ a
step_drawn m (Step.EndsSettling t) h a = kept_drawn m.calls m.draws t.call _ a
step_drawn m (Step.BeginsChange t u) h a = kept_drawn m.calls m.draws t.call _ a
step_drawn m (Step.Decides t u) h a = kept_drawn m.calls m.draws t.call _ a
step_drawn m (Step.SendsBirths t) h a = kept_drawn m.calls m.draws t.call _ a
step_drawn m (Step.ConfirmsBirths t) h a = kept_drawn m.calls m.draws t.call _ a
step_drawn m (Step.HandsIn t shown) h a = kept_drawn m.calls m.draws t.call _ a
step_drawn m (Step.Extends c run dir next) h a = kept_drawn m.calls m.draws c _ a
step_drawn m (Step.Releases c run gfid) h a = kept_drawn m.calls m.draws c _ a
step_drawn m (Step.Learns c run dir spans) h a = a
step_drawn m (Step.Answers c run answer place) h a = kept_drawn m.calls m.draws c _ a
step_drawn m (Step.AnswersAbove c run answer) h a = kept_drawn m.calls m.draws c _ a

pub drawn_in : (first : List (List ℕ)) (m : State) → IsReached first m → DrawnIn m.calls m.draws
drawn_in first _ (IsReached.Start planned) = record { drawn = λ c gfid e. absurd cc; apart = λ a b gfid e. absurd cc }
drawn_in first _ (IsReached.Further old step reached allowed) = step_drawn old step allowed (drawn_in first old reached)

pub drawn_apart : (first : List (List ℕ)) (m : State) → IsReached first m → DrawnApart m
drawn_apart first m reached = record { apart = (drawn_in first m reached).apart; no_root = λ c gfid e is. not_root ((drawn_in first m reached).drawn c gfid e) is }
  where
    not_root : {gfid : Gfid} → IsDrawn m.draws gfid → gfid ≡ root → ⊥
    not_root k is = let low : 1 ≡ 1 + k.number = ap (λ (g : Gfid). g.lo) (sym is ∙ k.is) in let some = k.some in omega (arith, low, some)

-- ---- a fop draws its call's gfid

pub record BeganIn (began : ℕ → Option Fop) (calls : ℕ → Call) (submitted : ℕ) : Type 0 where
  pub draws : (c : ℕ) (f : Fop) → began c ≡ Some f → DrawsOwn (calls c).drawn f
  pub none : (c : ℕ) → submitted < c → began c ≡ None

kept_began : (began : ℕ → Option Fop) (calls : ℕ → Call) (submitted c : ℕ) (status : Status) → BeganIn began calls submitted → BeganIn began (with_at calls c (record (calls c) { status = status })) submitted
kept_began began calls submitted c status a = record {
  draws = λ i f e. subst (λ (d : Option Gfid). DrawsOwn d f) (sym (status_drawn calls c status i)) (a.draws i f e);
  none = a.none;
}

new_began : (m : State) (new : Call) → BeganIn m.began m.calls m.submitted → BeganIn m.began (with_at m.calls (m.submitted + 1) new) (m.submitted + 1)
new_began m new a = record {
  draws = λ c. at_case (λ i (one : Call). (f : Fop) → m.began i ≡ Some f → DrawsOwn one.drawn f) m.calls (m.submitted + 1) new
      (λ f e. let no : ◌≡◌ {A = Option Fop} None (Some f) = sym (a.none (m.submitted + 1) (omega arith)) ∙ e in absurd cc) c (λ differ. a.draws c);
  none = λ c less. a.none c (omega (arith, less));
}

step_began_in : (first : List (List ℕ)) (m : State) (step : Step) → IsReached first m → Allowed m step → BeganIn m.began m.calls m.submitted → BeganIn (after m step).began (after m step).calls (after m step).submitted
step_began_in first m (Step.Submits draws) reached h a = new_began m _ a
step_began_in first m (Step.Concludes c) reached h a = kept_began m.began m.calls m.submitted c Answered a
step_began_in first m (Step.Switches names) reached h a = a
step_began_in first m (Step.Begins c f kept) reached h a = record {
  draws = λ i. at_both (λ j (call : Call) (began : Option Fop). (g : Fop) → began ≡ Some g → DrawsOwn call.drawn g) m.calls m.began c (record (m.calls c) { status = Running (begun f (volume_of m c) (m.calls c).names kept) }) (Some f)
      (λ g e. subst (λ (x : Fop). DrawsOwn (m.calls c).drawn x) (unwrap f g e) h.drawn) i (λ differ. a.draws i);
  none = λ i. at_case (λ j (one : Option Fop). m.submitted < j → one ≡ None) m.began c (Some f)
      (λ less. absurd (let most = counted m (numbered first m reached) c (λ e. let clash : Ready ≡ Unsubmitted = sym h.ready ∙ e in absurd cc) in omega (arith, less, most))) i (λ differ. a.none i);
}
step_began_in first m (Step.Settles t u true) reached h a = kept_began m.began m.calls m.submitted t.call _ a
step_began_in first m (Step.Settles t u false) reached h a = kept_began m.began m.calls m.submitted t.call _ a
step_began_in first m (Step.EndsSettling t) reached h a = kept_began m.began m.calls m.submitted t.call _ a
step_began_in first m (Step.BeginsChange t u) reached h a = kept_began m.began m.calls m.submitted t.call _ a
step_began_in first m (Step.Decides t u) reached h a = kept_began m.began m.calls m.submitted t.call _ a
step_began_in first m (Step.SendsBirths t) reached h a = kept_began m.began m.calls m.submitted t.call _ a
step_began_in first m (Step.ConfirmsBirths t) reached h a = kept_began m.began m.calls m.submitted t.call _ a
step_began_in first m (Step.HandsIn t shown) reached h a = kept_began m.began m.calls m.submitted t.call _ a
step_began_in first m (Step.Extends c run dir next) reached h a = kept_began m.began m.calls m.submitted c _ a
step_began_in first m (Step.Releases c run gfid) reached h a = kept_began m.began m.calls m.submitted c _ a
step_began_in first m (Step.Learns c run dir spans) reached h a = a
step_began_in first m (Step.Answers c run answer place) reached h a = kept_began m.began m.calls m.submitted c _ a
step_began_in first m (Step.AnswersAbove c run answer) reached h a = kept_began m.began m.calls m.submitted c _ a

pub began_in : (first : List (List ℕ)) (m : State) → IsReached first m → BeganIn m.began m.calls m.submitted
began_in first _ (IsReached.Start planned) = record { draws = λ c f e. absurd cc; none = λ c less. refl }
began_in first _ (IsReached.Further old step reached allowed) = step_began_in first old step reached allowed (began_in first old reached)

-- ---- operations that make an object

abbrev pub is_make : FlatOp → Bool
is_make (flat.Mkdir parent name mode drawn) = true
is_make (flat.Create parent name mode drawn) = true
is_make other = false

abbrev pub gfid_made : FlatOp → Option Gfid
gfid_made (flat.Mkdir parent name mode drawn) = Some drawn
gfid_made (flat.Create parent name mode drawn) = Some drawn
gfid_made other = None

-- an operation that is no rename has one part, itself
pub one_part : (o : FlatOp) (number : ℕ) (p : FlatOp) → is_rename o ≡ false → part_of (Some o) number ≡ Some p → (o ≡ p) × (number ≡ 1)
one_part o number p plain h =
    by_case (number == 1) refl (subst (λ (b : Bool). (if number == (if b then 2 else 1) then Some o else (if number == 1 then first_op (Some o) else None)) ≡ Some p) plain h)
  where
    by_case : (b : Bool) → (number == 1) ≡ b → (if b then Some o else (if b then first_op (Some o) else None)) ≡ Some p → (o ≡ p) × (number ≡ 1)
    by_case true e k = (unwrap o p k, eqb-true number 1 e)
    by_case false e k = absurd cc

no_make : (o : FlatOp) (number : ℕ) (p : FlatOp) → is_rename o ≡ false → is_make o ≡ false → is_make p ≡ true → part_of (Some o) number ≡ Some p → ⊥
no_make o number p plain none makes h = let clash : true ≡ false = sym makes ∙ ap is_make (sym (one_part o number p plain h).0) ∙ none in absurd cc

rename_makes : (parent : Gfid) (name : List ℕ) (target : Gfid) (new_name : List ℕ) (number : ℕ) (p : FlatOp) → is_make p ≡ true → part_of (Some (flat.Rename parent name target new_name)) number ≡ Some p → ⊥
rename_makes parent name target new_name number p makes h = by_last (number == 2) (number == 1) (is_same_name parent name target new_name) h
  where
    by_last : (a b c : Bool) → (if a then Some (flat.Rename parent name target new_name) else (if b then (if c then None else Some (flat.Unlink target new_name)) else None)) ≡ Some p → ⊥
    by_last true b c k = let clash : true ≡ false = sym makes ∙ ap is_make (sym (unwrap (flat.Rename parent name target new_name) p k)) in absurd cc
    by_last false true true k = absurd cc
    by_last false true false k = let clash : true ≡ false = sym makes ∙ ap is_make (sym (unwrap (flat.Unlink target new_name) p k)) in absurd cc
    by_last false false c k = absurd cc

-- a part that makes an object is the whole fop's, and the object has the drawn gfid
pub makes_drawn : (f : Fop) (number : ℕ) (p : FlatOp) → is_make p ≡ true → part_of (flat_op f) number ≡ Some p → (d : Option Gfid) → DrawsOwn d f → (d ≡ gfid_made p) × (number ≡ 1)
makes_drawn (fop.Mkdir parent name mode drawn) number p makes h d own = let k = one_part (flat.Mkdir parent.gfid name mode drawn) number p refl h in (own ∙ ap gfid_made k.0, k.1)
makes_drawn (fop.Create fd parent name mode drawn) number p makes h d own = let k = one_part (flat.Create parent.gfid name mode drawn) number p refl h in (own ∙ ap gfid_made k.0, k.1)
makes_drawn (fop.Rename parent name target new_name) number p makes h d own = absurd (rename_makes parent.gfid name target.gfid new_name number p makes h)
makes_drawn (fop.Lookup parent name) number p makes h d own = absurd (no_make (flat.Lookup parent.gfid name) number p refl refl makes h)
makes_drawn (fop.Rmdir parent name) number p makes h d own = absurd (no_make (flat.Rmdir parent.gfid name) number p refl refl makes h)
makes_drawn (fop.Unlink parent name) number p makes h d own = absurd (no_make (flat.Unlink parent.gfid name) number p refl refl makes h)
makes_drawn (fop.Open fd object) number p makes h d own = absurd (no_make (flat.Open object.gfid) number p refl refl makes h)
makes_drawn (fop.Stat object) number p makes h d own = absurd (no_make (flat.Stat object.gfid) number p refl refl makes h)
makes_drawn (fop.List object) number p makes h d own = absurd (no_make (flat.List object.gfid) number p refl refl makes h)
makes_drawn (fop.Chmod object mode) number p makes h d own = absurd (no_make (flat.Chmod object.gfid mode) number p refl refl makes h)
makes_drawn (fop.Truncate object size) number p makes h d own = absurd (no_make (flat.Truncate object.gfid size) number p refl refl makes h)
makes_drawn (fop.SetAttr object attr) number p makes h d own = absurd (no_make (flat.SetAttr object.gfid attr) number p refl refl makes h)
makes_drawn (fop.GetAttr object name) number p makes h d own = absurd (no_make (flat.GetAttr object.gfid name) number p refl refl makes h)
makes_drawn (fop.DelAttr object name) number p makes h d own = absurd (no_make (flat.DelAttr object.gfid name) number p refl refl makes h)
makes_drawn (fop.Read fd object offset count) number p makes h d own = absurd (no_make (flat.Read object.gfid offset count) number p refl refl makes h)
makes_drawn (fop.Write fd object offset bytes) number p makes h d own = absurd (no_make (flat.Write object.gfid offset bytes) number p refl refl makes h)
makes_drawn (fop.Migrate fds) number p makes h d own = absurd cc
makes_drawn (fop.Heal count) number p makes h d own = absurd cc

pub record Makes (parent : Gfid) (item : Item) (p : FlatOp) : Type 0 where
  pub makes : is_make p ≡ true
  pub gfid_is : gfid_made p ≡ Some item.gfid

pub added_makes : (k : Kind) (parent : Gfid) (item : Item) (mode : ℕ) (p : FlatOp) → added parent item mode k ≡ Some p → Makes parent item p
added_makes kind.File parent item mode p h = let is = unwrap (flat.Create parent item.name mode item.gfid) p h in subst (λ (x : FlatOp). Makes parent item x) is (record { makes = refl; gfid_is = refl })
added_makes kind.Dir parent item mode p h = let is = unwrap (flat.Mkdir parent item.name mode item.gfid) p h in subst (λ (x : FlatOp). Makes parent item x) is (record { makes = refl; gfid_is = refl })
added_makes kind.Link parent item mode p h = absurd cc

-- a change that makes an object is its call's part 1, of the gfid that the call drew
pub adds_drawn : (first : List (List ℕ)) (m : State) → IsReached first m → (u : ℕ) (entry : Entry) (parent : Gfid) (item : Item) (mode : ℕ) (span : Option Span) → (m.changes u).verdict ≢ Undrawn → (m.changes u).effect ≡ Some entry
    → (m.changes u).op ≡ op.AddName parent item mode span → ((m.calls (m.changes u).by).drawn ≡ Some item.gfid) × ((entry.part ≡ 1) × (entry.call ≡ (m.changes u).by))
adds_drawn first m reached u entry parent item mode span drawn effect is =
    let own : IsOwnEntry m.began (m.changes u) entry = subst (λ (x : Option Entry). IsOwnEffect m.began (m.changes u) x) effect (effect_own first m reached u drawn) in
    let made = added_makes item.kind parent item mode own.part (sym (ap change_of is) ∙ own.makes) in
    let k = makes_drawn own.fop entry.part own.part made.makes own.part_is (m.calls (m.changes u).by).drawn ((began_in first m reached).draws (m.changes u).by own.fop own.began_is) in
    (k.0 ∙ made.gfid_is, (k.1, own.call_is))
