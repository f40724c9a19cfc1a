-- What the searches find, and the tests of it.
use Rattle.std.proofs.Common.{◌≡◌, refl, sym, ap, subst, ◌∙◌, arith, get_or}
use Rattle.std.specs.Prelude.{ℕ, zero, suc, ◌+◌, ◌<◌, ◌≤◌, ◌==◌, ◌↔◌, Bool, true, false, IsTrue, List, [], ◌∷◌, ◌++◌, Option, None, Some, IfSome, IsSome, length, map, take, option_map, slice_get, slice_index_or, if◌then◌else◌}
use Rattle.std.specs.List.{AllZip}
use Rattle.std.proofs.lemmas.Bool.{eq-eqb, ne_eqb}
use Rattle.std.proofs.lemmas.List.{append-nil, take_more, take_all}
use Rattle.std.proofs.lemmas.Option.{slice_get-map, get_or_from_slice_get}
use Rattle.std.specs.BTreeMap.{is_at}
use Rattle.std.specs.Map.{lookup}
use Rattle.fop_types.specs.Orders.{cell_cmp}
use Rattle.fop_types.specs.declared.cells.Cell.{Cell}
use Rattle.fop_types.specs.declared.answers.SplitRow.{SplitRow}
use Rattle.fop_types.specs.declared.jobs.SetPlan.{SetPlan}
use Rattle.mount_log.proofs.Items.{some_is}
use Rattle.mount_log.specs.declared.logs.Log.{Log}
use Rattle.error_audit.specs.AtPlaces.{IsLostBy}
use Rattle.error_audit.specs.code.Searches.{places_in, marks_at, of_brick, of_first}
use Rattle.error_audit.specs.declared.connections.Opening.{Opening}
use Rattle.error_audit.specs.declared.losses.Loss.{Loss}
use Rattle.error_audit.proofs.Granting.{zip_push}

-- the list of a number, if there is one
module _ {V X : Type 0} (f : V → List X) where
  pub own_list : (qs : List V) (i : ℕ) (q : V) → slice_get qs i ≡ Some q → slice_index_or (map f qs) i [] ≡ f q
  own_list qs i q e = get_or_from_slice_get (map f qs) i (f q) [] (slice_get-map f qs i ∙ ap (option_map f) e)

  pub no_list : (qs : List V) (i : ℕ) → slice_get qs i ≡ None → slice_index_or (map f qs) i [] ≡ []
  no_list [] i e = refl
  no_list (q ∷ qs) zero e = absurd cc
  no_list (q ∷ qs) (suc i) e = no_list qs i e

  pub none_beyond : (qs : List V) (i : ℕ) → length qs ≤ i → slice_index_or (map f qs) i [] ≡ []
  none_beyond [] i le = refl
  none_beyond (q ∷ qs) zero le = absurd (omega (arith, le))
  none_beyond (q ∷ qs) (suc i) le = none_beyond qs i (omega (arith, le))

  -- what holds of lists holds of the same ones, as a slice
  pub same_lists : (P : List (List X) → Type 0) (qs rs : List V) → rs ≡ qs → P (map f qs) → P (map f rs)
  same_lists P qs rs same p = subst (λ (l : List V). P (map f l)) (sym same) p

-- the places of the changes of cells, by the first of them
pub marks_some : {V : Type 0} (f : V → List ℕ) (marks : List (Cell × V)) (cells : List Cell) (cell : Cell) (found : Option V) → slice_get cells 0 ≡ Some cell → found ≡ lookup (is_at (cell_cmp cell)) marks
    → places_in f found ≡ marks_at f marks cells
marks_some f marks [] cell found is there = absurd cc
marks_some f marks (c ∷ cells) cell found is there = ap (places_in f) (there ∙ ap (λ (x : Cell). lookup (is_at (cell_cmp x)) marks) (sym (some_is c cell is)))

-- what is known of the item that was found
pub from_some : {X Y : Type 0} (f : X → Y) (P : Y → Type 0) (found : Option X) (x : X) → found ≡ Some x → IfSome found (λ v. P (f v)) → P (f x)
from_some {X = X} f P found x is own = subst (λ (o : Option X). IfSome o (λ v. P (f v))) is own

pub none_some : {X : Type 0} (found : Option X) → found ≡ None → IsSome found → false ≡ true
none_some {X = X} found is some = subst (λ (o : Option X). IsSome o) is some

-- the test of a loss, in other words for the connections, the pair and the loss
pub same_loss : (b : Bool) (log : Log) (openings others : List Opening) (plan : SetPlan) (graph since until : ℕ) (pair other : ℕ × ℕ) (loss found : Loss) → openings ≡ others → ◌≡◌ {A = ℕ × ℕ} pair other → loss ≡ found
    → (IsTrue b ↔ IsLostBy log openings plan graph since until pair loss) → (IsTrue b ↔ IsLostBy log others plan graph since until other found)
same_loss b log openings others plan graph since until pair other loss found same pairs losses by =
    subst (λ (l : Loss). IsTrue b ↔ IsLostBy log others plan graph since until other l) losses
    (subst (λ (p : ℕ × ℕ). IsTrue b ↔ IsLostBy log others plan graph since until p loss) pairs
    (subst (λ (os : List Opening). IsTrue b ↔ IsLostBy log os plan graph since until pair loss) same by))

-- ---- the rows of a brick

pushed : (t : Bool) (row : SplitRow) (all rows more : List SplitRow) → all ≡ rows ++ more → (if t then row ∷ all else all) ≡ (if t then row ∷ rows else rows) ++ more
pushed true row all rows more is = ap (λ (l : List SplitRow). row ∷ l) is
pushed false row all rows more is = is

of_brick_push : (brick : ℕ) (rows : List SplitRow) (row : SplitRow) → of_brick brick (rows ++ row ∷ []) ≡ of_brick brick rows ++ (if row.brick == brick then row ∷ [] else [])
of_brick_push brick [] row = refl
of_brick_push brick (r ∷ rows) row =
    pushed (r.brick == brick) r (of_brick brick (rows ++ row ∷ [])) (of_brick brick rows) (if row.brick == brick then row ∷ [] else []) (of_brick_push brick rows row)

module _ (P : SplitRow → ℕ → Type 0) (brick : ℕ) (rows : List SplitRow) (i : ℕ) (d : SplitRow) (lt : i < length rows) where
  next : of_brick brick (take (i + 1) rows) ≡ of_brick brick (take i rows) ++ (if (get_or rows i d).brick == brick then get_or rows i d ∷ [] else [])
  next = ap (of_brick brick) (take_more rows i d lt) ∙ of_brick_push brick (take i rows) (get_or rows i d)

  pub places_next : (places : List ℕ) (place : ℕ) → (get_or rows i d).brick ≡ brick → P (get_or rows i d) place → AllZip P (of_brick brick (take i rows)) places → AllZip P (of_brick brick (take (i + 1) rows)) (places ++ place ∷ [])
  places_next places place is own all =
      let more = next ∙ ap (λ (t : Bool). of_brick brick (take i rows) ++ (if t then get_or rows i d ∷ [] else [])) (eq-eqb (get_or rows i d).brick brick is) in
      subst (λ (l : List SplitRow). AllZip P l (places ++ place ∷ [])) (sym more) (zip_push P (of_brick brick (take i rows)) places (get_or rows i d) place all own)

  pub places_same : (places : List ℕ) → ((get_or rows i d).brick ≡ brick → ⊥) → AllZip P (of_brick brick (take i rows)) places → AllZip P (of_brick brick (take (i + 1) rows)) places
  places_same places differ all =
      let more = next ∙ ap (λ (t : Bool). of_brick brick (take i rows) ++ (if t then get_or rows i d ∷ [] else [])) (ne_eqb (get_or rows i d).brick brick differ) ∙ append-nil (of_brick brick (take i rows)) in
      subst (λ (l : List SplitRow). AllZip P l places) (sym more) all

pub places_all : (P : SplitRow → ℕ → Type 0) (rows : List SplitRow) (first : SplitRow) (i : ℕ) (places : List ℕ) → slice_get rows 0 ≡ Some first → length rows ≤ i → AllZip P (of_brick first.brick (take i rows)) places
    → AllZip P (of_first rows) places
places_all P [] first i places is le all = absurd cc
places_all P (row ∷ rows) first i places is le all =
    subst (λ (r : SplitRow). AllZip P (of_brick r.brick (row ∷ rows)) places) (sym (some_is row first is))
    (subst (λ (l : List SplitRow). AllZip P (of_brick first.brick l) places) (take_all i (row ∷ rows) le) all)

pub places_none : (P : SplitRow → ℕ → Type 0) (rows : List SplitRow) → slice_get rows 0 ≡ None → AllZip P (of_first rows) []
places_none P [] is = record {}
places_none P (row ∷ rows) is = absurd cc
