-- Where the nodes of each volume are: side by side, behind those of all earlier volumes, the last of them its top.
use Rattle.std.proofs.Common.{inl, inr, ◌≡◌, ℕ, ◌+◌, ◌-◌, ◌<◌, ◌≤◌, Bool, true, false, List, [], ◌∷◌, ◌++◌, append-nil, append_assoc, length, Option, Some, None, refl, sym, ap, subst, ◌∙◌, arith}
use Rattle.std.specs.Prelude.{◌⊎◌}
use Rattle.std.specs.List.{AllByRecursion, slice_get}
use Rattle.std.proofs.lemmas.Bool.{cases_lt}
use Rattle.std.proofs.lemmas.List.{length_push}
use Rattle.graph_build.specs.PlanRules.{or_zero}
use Rattle.graph_build.specs.Plans.{number_from, node, with_distribute, with_nodes, tops_at, nodes_from}
use Rattle.graph_build.specs.declared.infos.Info.{Info}
use Rattle.graph_build.specs.declared.infos.Role.{Role}
use Rattle.graph_build.specs.declared.infos.Role.TheVariants.{Client, Replicate, Distribute, IoCache, IoThreads, Pass}
use Rattle.graph_build.specs.declared.plans.NodePlan.{NodePlan}
use Rattle.graph_build.specs.declared.plans.NodeKind.TheVariants.{Client as ClientNode, Replicate as ReplicateNode, Distribute as DistributeNode, IoCache as IoCacheNode, IoThreads as IoThreadsNode, Pass as PassNode}
use Rattle.graph_build.proofs.Apart.{all_map}
use Rattle.graph_build.proofs.Facts.{get_old, get_last, at_within, push_case}

pub get_more : {A : Type 0} (xs ys : List A) (i : ℕ) (x : A) → slice_get xs i ≡ Some x → slice_get (xs ++ ys) i ≡ Some x
get_more xs ys i x e = get_old xs ys i (at_within xs i x e) ∙ e

get_mid : {A : Type 0} (xs : List A) (y : A) (ys : List A) → slice_get (xs ++ y ∷ ys) (length xs) ≡ Some y
get_mid [] y ys = refl
get_mid (x ∷ xs) y ys = get_mid xs y ys

-- the last in a list, by its number
get_end : {A : Type 0} (xs : List A) (y : A) (n : ℕ) → n ≡ length xs → slice_get (xs ++ y ∷ []) n ≡ Some y
get_end xs y n is = subst (λ k. slice_get (xs ++ y ∷ []) k ≡ Some y) (sym is) (get_last xs y)

abbrev Kept : List NodePlan → List NodePlan → Type 0
Kept nodes more = (q : ℕ) (n : NodePlan) → slice_get nodes q ≡ Some n → slice_get more q ≡ Some n

-- ---- the nodes of one volume
-- a distribute node over the node at `base`, where one is put in; `top` is the last of both
abbrev pub HasCap : Bool → List NodePlan → ℕ → ℕ → Type 0
HasCap false nodes base top = top ≡ base
HasCap true nodes base top = (top ≡ base + 1) × (slice_get nodes top ≡ Some (node DistributeNode (base ∷ [])))

-- the nodes of a volume from `base` to `top`
abbrev pub IsLaid : Bool → Role → Option ℕ → List NodePlan → List ℕ → ℕ → ℕ → Type 0
IsLaid alone (Client brick) None nodes children base top = (slice_get nodes base ≡ Some (node (ClientNode brick) [])) × (top ≡ base)
IsLaid alone (Client brick) (Some number) nodes children base top =
    (slice_get nodes base ≡ Some (node (ClientNode brick) [])) × (slice_get nodes (base + 1) ≡ Some (node (ReplicateNode number) (base ∷ []))) × HasCap alone nodes (base + 1) top
IsLaid alone Replicate number nodes children base top = (slice_get nodes base ≡ Some (node (ReplicateNode (or_zero number)) children)) × HasCap alone nodes base top
IsLaid alone Distribute number nodes children base top = (slice_get nodes base ≡ Some (node DistributeNode children)) × (top ≡ base)
IsLaid alone (IoCache pages) number nodes children base top = (slice_get nodes base ≡ Some (record { kind = IoCacheNode; children = children; cache_pages = pages })) × (top ≡ base)
IsLaid alone IoThreads number nodes children base top = (slice_get nodes base ≡ Some (node IoThreadsNode children)) × (top ≡ base)
IsLaid alone Pass number nodes children base top = (slice_get nodes base ≡ Some (node PassNode children)) × (top ≡ base)

cap_kept : (alone : Bool) (nodes more : List NodePlan) (base top : ℕ) → Kept nodes more → HasCap alone nodes base top → HasCap alone more base top
cap_kept false nodes more base top kept h = h
cap_kept true nodes more base top kept h = (h.0, kept top _ h.1)

laid_kept : (alone : Bool) (r : Role) (number : Option ℕ) (nodes more : List NodePlan) (children : List ℕ) (base top : ℕ) → Kept nodes more → IsLaid alone r number nodes children base top → IsLaid alone r number more children base top
laid_kept alone (Client brick) None nodes more children base top kept h = (kept base _ h.0, h.1)
laid_kept alone (Client brick) (Some number) nodes more children base top kept h = (kept base _ h.0, kept (base + 1) _ h.1, cap_kept alone nodes more (base + 1) top kept h.2)
laid_kept alone Replicate number nodes more children base top kept h = (kept base _ h.0, cap_kept alone nodes more base top kept h.1)
laid_kept alone Distribute number nodes more children base top kept h = (kept base _ h.0, h.1)
laid_kept alone (IoCache pages) number nodes more children base top kept h = (kept base _ h.0, h.1)
laid_kept alone IoThreads number nodes more children base top kept h = (kept base _ h.0, h.1)
laid_kept alone Pass number nodes more children base top kept h = (kept base _ h.0, h.1)

-- ---- one volume more
record Capped (alone : Bool) (xs : List NodePlan) (base : ℕ) : Type 0 where
  pub kept : Kept xs (with_distribute alone xs)
  pub longer : length xs ≤ length (with_distribute alone xs)
  pub cap : HasCap alone (with_distribute alone xs) base (length (with_distribute alone xs) - 1)

capped : (alone : Bool) (xs : List NodePlan) (base : ℕ) → length xs ≡ base + 1 → Capped alone xs base
capped false xs base size = record { kept = λ q n e. e; longer = omega arith; cap = omega (arith, size) }
capped true xs base size =
    let n : NodePlan = node DistributeNode ((length xs - 1) ∷ []) in
    let push : length (xs ++ n ∷ []) ≡ length xs + 1 = length_push xs n in
    let under : length xs - 1 ≡ base = omega (arith, size) in
    record {
      kept = λ q m e. get_more xs (n ∷ []) q m e;
      longer = omega (arith, push);
      cap = (omega (arith, push, size), get_end xs n (length (xs ++ n ∷ []) - 1) (omega (arith, push)) ∙ ap (λ k. Some (node DistributeNode (k ∷ []))) under);
    }

record Added (alone : Bool) (r : Role) (number : Option ℕ) (nodes more : List NodePlan) (children : List ℕ) : Type 0 where
  pub kept : Kept nodes more
  pub longer : length nodes < length more
  pub laid : IsLaid alone r number more children (length nodes) (length more - 1)

record One (nodes : List NodePlan) (n : NodePlan) : Type 0 where
  pub kept : Kept nodes (nodes ++ n ∷ [])
  pub longer : length nodes < length (nodes ++ n ∷ [])
  pub at : slice_get (nodes ++ n ∷ []) (length nodes) ≡ Some n
  pub top : length (nodes ++ n ∷ []) - 1 ≡ length nodes

one : (nodes : List NodePlan) (n : NodePlan) → One nodes n
one nodes n =
    let push : length (nodes ++ n ∷ []) ≡ length nodes + 1 = length_push nodes n in
    record { kept = λ q m e. get_more nodes (n ∷ []) q m e; longer = omega (arith, push); at = get_last nodes n; top = omega (arith, push) }

added : (alone : Bool) (r : Role) (number : Option ℕ) (nodes : List NodePlan) (children : List ℕ) → Added alone r number nodes (with_nodes r alone number nodes children) children
added alone (Client brick) None nodes children = let o = one nodes (node (ClientNode brick) []) in record { kept = o.kept; longer = o.longer; laid = (o.at, o.top) }
added alone (Client brick) (Some number) nodes children =
    let c : NodePlan = node (ClientNode brick) [] in
    let r : NodePlan = node (ReplicateNode number) (length nodes ∷ []) in
    let first = one nodes c in
    let second = one (nodes ++ c ∷ []) r in
    let push : length (nodes ++ c ∷ []) ≡ length nodes + 1 = length_push nodes c in
    let again : length ((nodes ++ c ∷ []) ++ r ∷ []) ≡ length (nodes ++ c ∷ []) + 1 = length_push (nodes ++ c ∷ []) r in
    let cap = capped alone ((nodes ++ c ∷ []) ++ r ∷ []) (length nodes + 1) (omega (arith, push, again)) in
    record {
      kept = λ q n e. cap.kept q n (second.kept q n (first.kept q n e));
      longer = omega (arith, push, again, cap.longer);
      laid = (
        cap.kept (length nodes) c (second.kept (length nodes) c first.at),
        cap.kept (length nodes + 1) r (get_end (nodes ++ c ∷ []) r (length nodes + 1) (sym push)),
        cap.cap,
      );
    }
added alone Replicate number nodes children =
    let r : NodePlan = node (ReplicateNode (or_zero number)) children in
    let first = one nodes r in
    let push : length (nodes ++ r ∷ []) ≡ length nodes + 1 = length_push nodes r in
    let cap = capped alone (nodes ++ r ∷ []) (length nodes) push in
    record { kept = λ q n e. cap.kept q n (first.kept q n e); longer = omega (arith, push, cap.longer); laid = (cap.kept (length nodes) r first.at, cap.cap) }
added alone Distribute number nodes children = let o = one nodes (node DistributeNode children) in record { kept = o.kept; longer = o.longer; laid = (o.at, o.top) }
added alone (IoCache pages) number nodes children = let o = one nodes (record { kind = IoCacheNode; children = children; cache_pages = pages }) in record { kept = o.kept; longer = o.longer; laid = (o.at, o.top) }
added alone IoThreads number nodes children = let o = one nodes (node IoThreadsNode children) in record { kept = o.kept; longer = o.longer; laid = (o.at, o.top) }
added alone Pass number nodes children = let o = one nodes (node PassNode children) in record { kept = o.kept; longer = o.longer; laid = (o.at, o.top) }

-- ---- all volumes
pub record Block (alone : Bool) (sets bases tops : List ℕ) (nodes : List NodePlan) (i : ℕ) (f : Info) : Type 0 where
  pub base : ℕ
  pub top : ℕ
  pub base_at : slice_get bases i ≡ Some base
  pub top_at : slice_get tops i ≡ Some top
  pub after : (j t : ℕ) → j < i → slice_get tops j ≡ Some t → t < base
  pub laid : IsLaid alone f.role (number_from 0 sets i) nodes (tops_at tops f.below) base top

-- the volume that a place belongs to
pub record Spot (done : List Info) (bases tops : List ℕ) (q : ℕ) : Type 0 where
  pub place : ℕ
  pub info : Info
  pub at : slice_get done place ≡ Some info
  pub base : ℕ
  pub top : ℕ
  pub base_at : slice_get bases place ≡ Some base
  pub top_at : slice_get tops place ≡ Some top
  pub from : base ≤ q
  pub to : q ≤ top

pub record Laid (alone : Bool) (sets : List ℕ) (done : List Info) (bases tops : List ℕ) (nodes : List NodePlan) : Type 0 where
  pub bases_count : length bases ≡ length done
  pub tops_count : length tops ≡ length done
  pub blocks : (i : ℕ) (f : Info) → slice_get done i ≡ Some f → Block alone sets bases tops nodes i f
  pub low : (j t : ℕ) → slice_get tops j ≡ Some t → t < length nodes
  pub last : (t : ℕ) → slice_get tops (length done - 1) ≡ Some t → t + 1 ≡ length nodes
  pub spots : (q : ℕ) → q < length nodes → Spot done bases tops q

tops_old : (tops : List ℕ) (t : ℕ) (ps : List ℕ) → AllByRecursion (λ p. p < length tops) ps → tops_at (tops ++ t ∷ []) ps ≡ tops_at tops ps
tops_old tops t [] low = refl
tops_old tops t (p ∷ ps) low = ap (λ o. or_zero o ∷ tops_at (tops ++ t ∷ []) ps) (get_old tops (t ∷ []) p low.0) ∙ ap (λ l. or_zero (slice_get tops p) ∷ l) (tops_old tops t ps low.1)

abbrev AreLow : List Info → Type 0
AreLow done = (i : ℕ) (f : Info) → slice_get done i ≡ Some f → AllByRecursion (λ p. p < i) f.below

module _ (alone : Bool) (sets : List ℕ) (done : List Info) (bases tops : List ℕ) (nodes : List NodePlan) (f : Info)
    (lows : AreLow done) (low : AllByRecursion (λ p. p < length done) f.below) (h : Laid alone sets done bases tops nodes) where
  abbrev more : List NodePlan
  more = with_nodes f.role alone (number_from 0 sets (length tops)) nodes (tops_at tops f.below)

  abbrev new_top : ℕ
  new_top = length more - 1

  add : Added alone f.role (number_from 0 sets (length tops)) nodes more (tops_at tops f.below)
  add = added alone f.role (number_from 0 sets (length tops)) nodes (tops_at tops f.below)

  same_tops : (ps : List ℕ) → AllByRecursion (λ p. p < length done) ps → tops_at (tops ++ new_top ∷ []) ps ≡ tops_at tops ps
  same_tops ps within = tops_old tops new_top ps (subst (λ n. AllByRecursion (λ p. p < n) ps) (sym h.tops_count) within)

  earlier : (j t : ℕ) → j < length done → slice_get (tops ++ new_top ∷ []) j ≡ Some t → slice_get tops j ≡ Some t
  earlier j t less e = sym (get_old tops (new_top ∷ []) j (omega (arith, less, h.tops_count))) ∙ e

  old_block : (i : ℕ) (g : Info) → slice_get done i ≡ Some g → Block alone sets (bases ++ length nodes ∷ []) (tops ++ new_top ∷ []) more i g
  old_block i g at =
      let b = h.blocks i g at in
      let less : i < length done = at_within done i g at in
      let within : AllByRecursion (λ p. p < length done) g.below = all_map (λ p. p < i) (λ p. p < length done) g.below (λ p k. omega (arith, k, less)) (lows i g at) in
      record {
        base = b.base;
        top = b.top;
        base_at = get_more bases (length nodes ∷ []) i b.base b.base_at;
        top_at = get_more tops (new_top ∷ []) i b.top b.top_at;
        after = λ j t before e. b.after j t before (earlier j t (omega (arith, before, less)) e);
        laid = subst (λ c. IsLaid alone g.role (number_from 0 sets i) more c b.base b.top) (sym (same_tops g.below within))
            (laid_kept alone g.role (number_from 0 sets i) nodes more (tops_at tops g.below) b.base b.top add.kept b.laid);
      }

  new_block : Block alone sets (bases ++ length nodes ∷ []) (tops ++ new_top ∷ []) more (length done) f
  new_block = record {
    base = length nodes;
    top = new_top;
    base_at = get_end bases (length nodes) (length done) (sym h.bases_count);
    top_at = get_end tops new_top (length done) (sym h.tops_count);
    after = λ j t before e. h.low j t (earlier j t before e);
    laid = subst (λ c. IsLaid alone f.role (number_from 0 sets (length done)) more c (length nodes) new_top) (sym (same_tops f.below low))
        (subst (λ n. IsLaid alone f.role (number_from 0 sets n) more (tops_at tops f.below) (length nodes) new_top) h.tops_count add.laid);
  }

  next_spot : (q : ℕ) → q < length more → Spot (done ++ f ∷ []) (bases ++ length nodes ∷ []) (tops ++ new_top ∷ []) q
  unfolding new_block
  next_spot q within = by_place (cases_lt q (length nodes))
    where
      by_place : (q < length nodes) ⊎ (length nodes ≤ q) → Spot (done ++ f ∷ []) (bases ++ length nodes ∷ []) (tops ++ new_top ∷ []) q
      by_place (inl less) =
          let s = h.spots q less in record {
            place = s.place;
            info = s.info;
            at = get_more done (f ∷ []) s.place s.info s.at;
            base = s.base;
            top = s.top;
            base_at = get_more bases (length nodes ∷ []) s.place s.base s.base_at;
            top_at = get_more tops (new_top ∷ []) s.place s.top s.top_at;
            from = s.from;
            to = s.to;
          }
      by_place (inr here) = record {
        place = length done;
        info = f;
        at = get_last done f;
        base = length nodes;
        top = new_top;
        base_at = new_block.base_at;
        top_at = new_block.top_at;
        from = here;
        to = omega (arith, within);
      }

  pub next_laid : Laid alone sets (done ++ f ∷ []) (bases ++ length nodes ∷ []) (tops ++ new_top ∷ []) more
  unfolding new_block
  next_laid =
      let longer : length nodes < length more = add.longer in
      let size : length (done ++ f ∷ []) ≡ length done + 1 = length_push done f in
      record {
        bases_count = length_push bases (length nodes) ∙ ap (λ n. n + 1) h.bases_count ∙ sym size;
        tops_count = length_push tops new_top ∙ ap (λ n. n + 1) h.tops_count ∙ sym size;
        blocks = λ i g at. push_case done f i g at (λ old. old_block i g old)
            (λ is same. subst (λ k. Block alone sets (bases ++ length nodes ∷ []) (tops ++ new_top ∷ []) more k g) (sym is) (subst (Block alone sets (bases ++ length nodes ∷ []) (tops ++ new_top ∷ []) more (length done)) same new_block));
        low = λ j t e. push_case tops new_top j t e (λ old. let less : t < length nodes = h.low j t old in omega (arith, less, longer)) (λ is same. omega (arith, same, longer));
        last = λ t e.
            let at : length (done ++ f ∷ []) - 1 ≡ length done = omega (arith, size) in
            let same : ◌≡◌ {A = Option ℕ} (Some new_top) (Some t) = sym new_block.top_at ∙ ap (slice_get (tops ++ new_top ∷ [])) (sym at) ∙ e in
            let is : new_top ≡ t = cc in omega (arith, is, longer);
        spots = next_spot;
      }

nothing_laid : (alone : Bool) (sets : List ℕ) → Laid alone sets [] [] [] []
nothing_laid alone sets = record {
  bases_count = refl;
  tops_count = refl;
  blocks = λ i f at. absurd (omega (arith, at_within [] i f at));
  low = λ j t e. absurd (omega (arith, at_within [] j t e));
  last = λ t e. absurd (omega (arith, at_within [] 0 t e));
  spots = λ q less. absurd (omega (arith, less));
}

pub record AllLaid (alone : Bool) (sets : List ℕ) (infos : List Info) (nodes : List NodePlan) : Type 0 where
  pub bases : List ℕ
  pub tops : List ℕ
  pub laid : Laid alone sets infos bases tops nodes

laid_from : (alone : Bool) (sets : List ℕ) (rest done : List Info) (bases tops : List ℕ) (nodes : List NodePlan) → AreLow (done ++ rest) → Laid alone sets done bases tops nodes
    → AllLaid alone sets (done ++ rest) (nodes_from alone sets tops nodes rest)
laid_from alone sets [] done bases tops nodes lows h = subst (λ d. AllLaid alone sets d nodes) (sym (append-nil done)) (record { bases = bases; tops = tops; laid = h })
laid_from alone sets (f ∷ fs) done bases tops nodes lows h =
    let low : AllByRecursion (λ p. p < length done) f.below = lows (length done) f (get_mid done f fs) in
    let next = next_laid alone sets done bases tops nodes f (λ i g at. lows i g (get_more done (f ∷ fs) i g at)) low h in
    let all : (done ++ f ∷ []) ++ fs ≡ done ++ f ∷ fs = append_assoc done (f ∷ []) fs in
    subst (λ d. AllLaid alone sets d (nodes_from alone sets tops nodes (f ∷ fs))) all (laid_from alone sets fs (done ++ f ∷ []) _ _ _ (λ i g at. lows i g (subst (λ d. slice_get d i ≡ Some g) all at)) next)

pub all_laid : (alone : Bool) (sets : List ℕ) (infos : List Info) → AreLow infos → AllLaid alone sets infos (nodes_from alone sets [] [] infos)
all_laid alone sets infos lows = laid_from alone sets infos [] [] [] [] lows (nothing_laid alone sets)
