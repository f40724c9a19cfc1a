-- Rmdir answers as the flat file system does.
use Rattle.std.proofs.Common.{◌≡◌, ◌∙◌, ℕ, zero, suc, ◌+◌, ◌-◌, ◌<◌, ◌≤◌, Bool, true, false, List, [], ◌∷◌, Some, None, if◌then◌else◌, length, nat_lt, refl, ap, sym, subst, arith}
use Rattle.std.proofs.lemmas.Bool.{ltb-true, ltb-false}
use Rattle.std.specs.Cmp.Lexicographic.{slice_cmp}
use Rattle.std.specs.List.{range_with_len}
use Rattle.std.specs.Ordering.{nat_cmp, match_ordering}
use Rattle.std.specs.declared.cmp.Ordering.{Ordering}
use Rattle.std.specs.declared.cmp.Ordering.TheVariants.{Less, Equal, Greater}
use Rattle.dht_linkto.specs.declared.found.Found.{Found}
use Rattle.dht_linkto.specs.declared.found.Found.TheVariants as found
use Rattle.dht_linkto.specs.declared.names.DirNames.{DirNames}
use Rattle.dht_laws.proofs.FlatGoing.{GoesFlat, io_goes, names_flat, change_flat, if_flat, app_says}
use Rattle.dht_laws.proofs.FlatNames.{IsByItem, EndsFlat, found_app, absent_app, found_flat}
use Rattle.dht_laws.proofs.FlatObjects.{made_directory, directory_made, names_in_all, there_flat, saw_agrees, dir_kind, names_at_is}
use Rattle.dht_fops.proofs.Handing.{Later, later_push, name_later, empty_later}
use Rattle.dht_fops.proofs.Looking.{IsFoundIn}
use Rattle.dht_laws.proofs.ShownNames.{none_real}
use Rattle.dht_fops.specs.Answers.{AnswersAsFlat, IsAccepted}
use Rattle.dht_fops.specs.Entries.{empties, rmdir_found}
use Rattle.dht_fops.specs.Handed.{Handed, Saw, SawName, SawEmpty}
use Rattle.dht_fops.specs.Handed.Event.{Held}
use Rattle.dht_fops.specs.Merges.{real_items, with_first, merged}
use Rattle.dht_fops.specs.Shown.{SetContents, names_over}
use Rattle.dht_fops.specs.Standing.{Volumes, AreSound, IsMade, StillShown}
use Rattle.dht_laws.proofs.Arguments.{Seen}
use Rattle.dht_fops.specs.declared.volume.Volume.{Volume}
use Rattle.fop_types.specs.Cells.{names_cell}
use Rattle.fop_types.specs.Files.{Files, names_at, with_removed}
use Rattle.fop_types.specs.Flat.{refused, done, without_name, rmdir_outcome, is_empty}
use Rattle.fop_types.specs.Names.{item_named, is_link, is_directory, has_real_name}
use Rattle.fop_types.specs.StoreOps.{items_of}
use Rattle.fop_types.specs.declared.answers.Answer.TheVariants as answer
use Rattle.fop_types.specs.declared.answers.AppError.TheVariants.{Enoent, Enotdir, Enotempty}
use Rattle.fop_types.specs.declared.answers.FopAnswer.TheVariants as fop_answer
use Rattle.fop_types.specs.declared.cells.Gfid.{Gfid}
use Rattle.fop_types.specs.declared.cells.Kind.{Kind}
use Rattle.fop_types.specs.declared.cells.Kind.TheVariants as kind
use Rattle.fop_types.specs.declared.contents.Item.{Item}
use Rattle.fop_types.specs.declared.flat.FlatAnswer.TheVariants as flat_answer
use Rattle.fop_types.specs.declared.flat.FlatOp.TheVariants as op
use Rattle.fop_types.specs.declared.fops.Fop.TheVariants as fop
use Rattle.fop_types.specs.declared.fops.Object.{Object}

-- ---- a name on one set is a name in all

real_full : (items : List Item) → has_real_name items ≡ true → is_empty (real_items items) ≡ false
real_full [] e = absurd cc
real_full (item ∷ items) e = by_link (is_link item.kind) e (real_full items)
  where
    by_link : (b : Bool) → (if b then has_real_name items else true) ≡ true → (has_real_name items ≡ true → is_empty (real_items items) ≡ false) → is_empty (if b then real_items items else item ∷ real_items items) ≡ false
    by_link true f later = later f
    by_link false f later = refl

with_full : (item : Item) (rest : List Item → List Item) (others : List Item) → is_empty (with_first item rest others) ≡ false
with_full item rest [] = refl
with_full item rest (other ∷ others) = by_order (slice_cmp nat_cmp other.name item.name)
  where
    by_order : (o : Ordering) → is_empty (match_ordering o (other ∷ with_first item rest others) (other ∷ rest others) (item ∷ rest (other ∷ others))) ≡ false
    by_order Less = refl
    by_order Equal = refl
    by_order Greater = refl

first_full : (items others : List Item) → is_empty items ≡ false → is_empty (merged items others) ≡ false
first_full [] others e = absurd cc
first_full (item ∷ items) others e = with_full item (merged items) others

second_full : (items others : List Item) → is_empty others ≡ false → is_empty (merged items others) ≡ false
second_full [] others e = e
second_full (item ∷ items) others e = with_full item (merged items) others

over_still : (contents : SetContents) (dir : Gfid) (sets : List ℕ) (names : List Item) → is_empty names ≡ false → is_empty (names_over contents dir sets names) ≡ false
over_still contents dir [] names e = e
over_still contents dir (set ∷ sets) names e = over_still contents dir sets (merged names (real_items (items_of (contents set (names_cell dir))))) (first_full names _ e)

over_full : (contents : SetContents) (dir : Gfid) (one n first : ℕ) (names : List Item) → first ≤ one → one < first + n → has_real_name (items_of (contents one (names_cell dir))) ≡ true
    → is_empty (names_over contents dir (range_with_len first n) names) ≡ false
over_full contents dir one zero first names low high e = absurd (omega arith)
over_full contents dir one (suc n) first names low high e =
    by_less (nat_lt first one) refl (λ above. over_full contents dir one n (first + 1) (merged names (real_items (items_of (contents first (names_cell dir))))) above (omega arith) e)
  where
    now : List Item
    now = real_items (items_of (contents first (names_cell dir)))

    by_less : (b : Bool) → nat_lt first one ≡ b → (first + 1 ≤ one → is_empty (names_over contents dir (range_with_len (first + 1) n) (merged names now)) ≡ false)
        → is_empty (names_over contents dir (range_with_len (first + 1) n) (merged names now)) ≡ false
    by_less true f later = later (let less = ltb-true first one f in omega arith)
    by_less false f later =
        let more = ltb-false first one f in
        let here : one ≡ first = omega arith in
        over_still contents dir (range_with_len (first + 1) n) (merged names now)
        (second_full names now (real_full (items_of (contents first (names_cell dir))) (subst (λ (set : ℕ). has_real_name (items_of (contents set (names_cell dir))) ≡ true) here e)))

over_empty : (contents : SetContents) (dir : Gfid) (n first : ℕ) → ((set : ℕ) → first ≤ set → set < first + n → has_real_name (items_of (contents set (names_cell dir))) ≡ false) → names_over contents dir (range_with_len first n) [] ≡ []
over_empty contents dir zero first none = refl
over_empty contents dir (suc n) first none =
    ap (λ (names : List Item). names_over contents dir (range_with_len (first + 1) n) names) (none_real (items_of (contents first (names_cell dir))) (none first (omega arith) (omega arith)))
    ∙ over_empty contents dir n (first + 1) (λ set low high. none set (omega arith) (omega arith))

-- ---- rmdir

is_gone : (files : Files) (parent : Gfid) (name : List ℕ) (item : Item) → item.kind ≡ kind.Dir → is_empty (names_at files item.gfid) ≡ true → rmdir_outcome files parent name (Some item) ≡ done (with_removed (without_name files parent name) item.gfid)
is_gone files parent name item e f = rw (e, f) refl

abbrev pub rmdir_on : (parent : Object) (name : List ℕ) → IsByItem (fop.Rmdir parent name) parent name
rmdir_on parent name = record {
  on = record { op = op.Rmdir parent.gfid name; op_is = refl; outcome = λ files. rmdir_outcome files parent.gfid name (item_named (names_at files parent.gfid) name); flat_is = λ files. refl; made = λ s m. m };
  by_item = λ files item. rmdir_outcome files parent.gfid name item;
  outcome_is = λ files. refl;
}

no_directory : (files : Files) (parent : Gfid) (name : List ℕ) (item : Item) (k : Kind) → is_directory k ≡ false → item.kind ≡ k → rmdir_outcome files parent name (Some item) ≡ refused Enotdir
no_directory files parent name item kind.File d e = rw e refl
no_directory files parent name item kind.Dir d e = absurd cc
no_directory files parent name item kind.Link d e = rw e refl

not_empty : (files : Files) (parent : Gfid) (name : List ℕ) (item : Item) → item.kind ≡ kind.Dir → is_empty (names_at files item.gfid) ≡ false → rmdir_outcome files parent name (Some item) ≡ refused Enotempty
not_empty files parent name item e f = rw (e, f) refl

-- a set showed a name in the directory
full_app : (n : ℕ) (parent : Object) (name : List ℕ) (later : Handed) (set other : ℕ) (gfid : Gfid) (shown : DirNames) → is_directory parent.kind ≡ true → nat_lt 255 (length name) ≡ false
    → set < n → SawName later parent.gfid name set gfid kind.Dir → other < n → Saw later gfid other shown → has_real_name shown.items ≡ true
    → AnswersAsFlat n (fop.Rmdir parent name) later (fop_answer.Call (answer.App Enotempty)) None
full_app n parent name later set other gfid shown dir short h saw i seen full none s a m still =
    let d = made_directory s n parent a m dir in
    let there = there_flat s n later parent.gfid name set gfid kind.Dir a still h saw in
    let agrees = saw_agrees s later gfid other shown seen still in
    let inner = directory_made s n gfid a there.made in
    let names_full : is_empty (names_in_all s n gfid) ≡ false =
    over_full s.contents gfid other n 0 [] (omega arith) (omega arith) (subst (λ (items : List Item). has_real_name items ≡ true) agrees.items full) in
    let at_full : is_empty (names_at s.files gfid) ≡ false = ap is_empty (names_at_is s n gfid inner) ∙ names_full in
    let item_full : is_empty (names_at s.files there.item.gfid) ≡ false = subst (λ (g : Gfid). is_empty (names_at s.files g) ≡ false) (sym there.gfid_is) at_full in
    app_says (fop.Rmdir parent name) (op.Rmdir parent.gfid name) s.files Enotempty refl
    (found_flat n (fop.Rmdir parent name) parent name later set gfid kind.Dir s (rmdir_on parent name) dir short a d there ∙ not_empty s.files parent.gfid name there.item there.kind_is item_full)

-- every set before this one showed the directory empty
abbrev EmptyBelow : Handed → Gfid → ℕ → Type 0
EmptyBelow handed gfid first = (other : ℕ) → other < first → SawEmpty handed gfid other

below_later : (a b : Handed) (gfid : Gfid) (first : ℕ) → Later a b → EmptyBelow a gfid first → EmptyBelow b gfid first
below_later a b gfid first l below other h = empty_later a b gfid other l (below other h)

below_by : (handed : Handed) (gfid : Gfid) (first other : ℕ) (b : Bool) → nat_lt other first ≡ b → other < first + 1 → EmptyBelow handed gfid first → SawEmpty handed gfid first → SawEmpty handed gfid other
below_by handed gfid first other true e h below last = below other (ltb-true other first e)
below_by handed gfid first other false e h below last =
    let same : first ≡ other = (let more = ltb-false other first e in omega arith) in subst (λ (set : ℕ). SawEmpty handed gfid set) same last

-- a directory that every set showed empty
empty_fits : (n : ℕ) (parent : Object) (name : List ℕ) (set : ℕ) (gfid : Gfid) (handed : Handed) → is_directory parent.kind ≡ true → nat_lt 255 (length name) ≡ false → set < n → SawName handed parent.gfid name set gfid kind.Dir
    → EmptyBelow handed gfid n → (s : Volumes) → AreSound s n → IsMade s parent → StillShown s.contents handed → IsAccepted s.files (op.Rmdir parent.gfid name)
empty_fits n parent name set gfid handed dir short h saw empty s a m still =
    let d = made_directory s n parent a m dir in
    let there = there_flat s n handed parent.gfid name set gfid kind.Dir a still h saw in
    let inner = directory_made s n gfid a there.made in
    let names_empty : names_in_all s n gfid ≡ [] = over_empty s.contents gfid n 0 (λ other low high. none other (omega arith)) in
    let at_empty : is_empty (names_at s.files gfid) ≡ true = ap is_empty (names_at_is s n gfid inner ∙ names_empty) in
    let item_empty : is_empty (names_at s.files there.item.gfid) ≡ true = subst (λ (g : Gfid). is_empty (names_at s.files g) ≡ true) (sym there.gfid_is) at_empty in
    record {
      answer = flat_answer.Call answer.Done;
      after = with_removed (without_name s.files parent.gfid name) there.item.gfid;
      accepted = found_flat n (fop.Rmdir parent name) parent name handed set gfid kind.Dir s (rmdir_on parent name) dir short a d there ∙ is_gone s.files parent.gfid name there.item there.kind_is item_empty;
    }
  where
    none : (other : ℕ) → other < n → has_real_name (items_of (s.contents other (names_cell gfid))) ≡ false
    none other i =
        let seen = empty other i in
        let agrees = saw_agrees s handed gfid other seen.shown seen.saw still in
        subst (λ (items : List Item). has_real_name items ≡ false) agrees.items seen.none

empties_flat : (v : Volume) (parent : Object) (name : List ℕ) (set : ℕ) (gfid : Gfid) (count first : ℕ) (handed : Handed) → is_directory parent.kind ≡ true → nat_lt 255 (length name) ≡ false → set < v.sets → first + count ≡ v.sets
    → SawName handed parent.gfid name set gfid kind.Dir → EmptyBelow handed gfid first → GoesFlat v.sets (fop.Rmdir parent name) handed (empties v parent.gfid name gfid (range_with_len first count))
empties_flat v parent name set gfid zero first handed dir short h e saw below =
    change_flat v.sets (fop.Rmdir parent name) handed 0 _ 0 _ _ _ (empty_fits v.sets parent name set gfid handed dir short h saw (λ other i. below other (omega arith)))
empties_flat v parent name set gfid (suc count) first handed dir short h e saw below =
    names_flat v.sets (fop.Rmdir parent name) handed first gfid _
    (λ later shown l seen. if_flat v.sets (fop.Rmdir parent name) later _ _ (has_real_name shown.items)
    (λ full. full_app v.sets parent name later set first gfid shown dir short h (name_later handed later parent.gfid name set gfid kind.Dir l saw) (omega arith) seen full)
    (λ none. empties_flat v parent name set gfid count (first + 1) later dir short h (omega arith) (name_later handed later parent.gfid name set gfid kind.Dir l saw)
    (λ other i. below_by later gfid first other (nat_lt other first) refl i (below_later handed later gfid first l below) (record { shown = shown; saw = seen; none = none }))))

as_directory : (handed : Handed) (dir : Gfid) (name : List ℕ) (set : ℕ) (gfid : Gfid) (k : Kind) → is_directory k ≡ true → SawName handed dir name set gfid k → SawName handed dir name set gfid kind.Dir
as_directory handed dir name set gfid k d saw = subst (λ (one : Kind). SawName handed dir name set gfid one) (dir_kind k d) saw

pub rmdir_flat : (v : Volume) (parent : Object) (name : List ℕ) (handed : Handed) → 1 ≤ v.sets → is_directory parent.kind ≡ true → nat_lt 255 (length name) ≡ false
    → EndsFlat v.sets (fop.Rmdir parent name) handed parent.gfid name (rmdir_found v parent.gfid name)
rmdir_flat v parent name handed some dir short = λ result seen later l f. by_found later result seen f
  where
    by_found : (later : Handed) (result : Found) (seen : Seen) → IsFoundIn v.sets later parent.gfid name result → GoesFlat v.sets (fop.Rmdir parent name) later (rmdir_found v parent.gfid name result seen)
    by_found later (found.Item set gfid k) seen f =
        if_flat v.sets (fop.Rmdir parent name) later _ _ (is_directory k)
        (λ d. (
          tt,
          empties_flat v parent name set gfid (v.sets - 0) 0 (Held gfid ∷ later) dir short f.0 (omega arith)
              (name_later later (Held gfid ∷ later) parent.gfid name set gfid kind.Dir (later_push (Held gfid) later) (as_directory later parent.gfid name set gfid k d f.1)) (λ other i. absurd (omega arith)),
        ))
        (λ file. found_app v.sets (fop.Rmdir parent name) parent name later set gfid k Enotdir (rmdir_on parent name) dir short f.0 f.1 (λ files item e. no_directory files parent.gfid name item k file e))
    by_found later found.Absent seen f = absent_app v.sets (fop.Rmdir parent name) parent name later Enoent (rmdir_on parent name) dir short some f (λ files. refl)
    by_found later (found.Io error) seen f = io_goes v.sets (fop.Rmdir parent name) later error
