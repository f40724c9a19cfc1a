-- The cells that bricks have listed, with one more and with one more list; and the skips so far.
use Rattle.std.proofs.Common.{◌≡◌, refl, sym, ap, subst, ◌∙◌, arith, inl, inr}
use Rattle.std.specs.Prelude.{ℕ, ◌<◌, ◌≤◌, ◌+◌, ◌⊎◌, false, List, [], Some, length, slice_get}
use Rattle.std.specs.declared.cmp.Ordering.{Ordering}
use Rattle.std.specs.declared.cmp.Ordering.TheVariants.{Less, Equal, Greater}
use Rattle.std.specs.Ordering.{is_eq}
use Rattle.std.specs.BTreeMap.{insert_entry}
use Rattle.std.proofs.lemmas.Option.{slice_get_within}
use Rattle.fop_types.specs.Orders.{cell_cmp}
use Rattle.fop_types.specs.declared.causes.SkipCause.{SkipCause}
use Rattle.fop_types.specs.declared.cells.Cell.{Cell}
use Rattle.fop_types.specs.declared.messages.BrickRep.TheVariants.{Done}
use Rattle.fop_types.specs.declared.messages.BrickReq.TheVariants.{Index}
use Rattle.fop_types.specs.declared.messages.DoneArm.TheVariants.{Cells}
use Rattle.fop_types.specs.declared.messages.OutKind.TheVariants.{Reply}
use Rattle.fop_types.specs.declared.messages.Output.{Output}
use Rattle.fop_types.proofs.MapLemmas.{lookup-put_same, lookup-put_other, cell_cmp_total, cell_exact}
use Rattle.wire_xdr.specs.WireText.{output_text}
use Rattle.brick_machine.specs.Journal.{Journal}
use Rattle.mount_log.proofs.Items.{some_is}
use Rattle.mount_log.specs.declared.logs.HubEvent.TheVariants.{Arrive}
use Rattle.mount_log.specs.declared.logs.Log.{Log}
use Rattle.change_audit.specs.Answered.{IsWindFor}
use Rattle.change_audit.specs.Listed.{IsIndex, IsListedIn, IsListed, SkipsAreListed}
use Rattle.change_audit.specs.Listings.{WasAsked, event_of, AddsCell, IsAmong, AddsCells, AreListings, IsSkipDue}
use Rattle.change_audit.proofs.Copying.{done_in, output_made}
use Rattle.change_audit.proofs.Items.{each_more}

-- ---- the answer to an index

pub index_is : (log : Log) (bricks : List Journal) (event brick : ℕ) (output : Output) (bytes : List ℕ) (wind : ℕ) (cells : List Cell) → slice_get log.events event ≡ Some (Arrive brick bytes)
    → bytes ≡ output_text output → output.kind ≡ Reply wind (Done (Cells cells)) → WasAsked bricks brick output.taken wind → IsWindFor log.winds 0 wind → IsIndex log bricks event cells
index_is log bricks event brick output bytes wind cells there text kind asked opened = record {
  brick = brick;
  wind = wind;
  graph = asked.graph;
  answered =
      done_in log bricks brick wind asked.graph event output.taken Index (Cells cells) bytes there
      (text ∙ ap output_text (output_made output (Reply wind (Done (Cells cells))) kind)) asked.sent;
  internal = opened;
}

-- ---- one cell more

pub adds_none : (before : List (Cell × ℕ)) (cell : Cell) (event : ℕ) → AddsCell before before cell event
adds_none before cell event c e there = inl there

pub adds_one : (before after : List (Cell × ℕ)) (cell : Cell) (event : ℕ) → after ≡ insert_entry cell_cmp before cell event → AddsCell before after cell event
adds_one before after cell event is c e there = by (cell_cmp c cell) refl where
  put : event_of (insert_entry cell_cmp before cell event) c ≡ Some e
  put = sym (ap (λ (l : List (Cell × ℕ)). event_of l c) is) ∙ there

  other : is_eq (cell_cmp c cell) ≡ false → event_of before c ≡ Some e
  other apart = sym (lookup-put_other cell_cmp cell_exact cell_cmp_total before cell c event apart) ∙ put

  same : c ≡ cell → e ≡ event
  same h =
      sym (some_is event e (sym (lookup-put_same cell_cmp cell_exact cell_cmp_total before cell event) ∙ subst (λ (x : Cell). event_of (insert_entry cell_cmp before cell event) x ≡ Some e) h put))

  by : (o : Ordering) → cell_cmp c cell ≡ o → (event_of before c ≡ Some e) ⊎ ((c ≡ cell) × (e ≡ event))
  by Less h = inl (other (ap is_eq h))
  by Greater h = inl (other (ap is_eq h))
  by Equal h = let at = cell_exact c cell h in inr (at, same at)

-- ---- a list of cells more

pub adds_so_far : (before : List (Cell × ℕ)) (cells : List Cell) (event : ℕ) → AddsCells before before cells event
adds_so_far before cells event c e there = inl there

pub adds_next : (before mid after : List (Cell × ℕ)) (cells : List Cell) (k : ℕ) (cell : Cell) (event : ℕ) → Some cell ≡ slice_get cells k → AddsCell mid after cell event → AddsCells before mid cells event
    → AddsCells before after cells event
adds_next before mid after cells k cell event here one so_far c e there = by (one c e there) where
  by : (event_of mid c ≡ Some e) ⊎ ((c ≡ cell) × (e ≡ event)) → (event_of before c ≡ Some e) ⊎ IsAmong cells event c e
  by (inl old) = so_far c e old
  by (inr new) = inr (record { place = k; has = sym here ∙ ap Some (sym new.0); event_is = new.1 })

pub list_read : (log : Log) (bricks : List Journal) (before after : List (Cell × ℕ)) (cells : List Cell) (event : ℕ) → IsIndex log bricks event cells → AddsCells before after cells event
    → AreListings log bricks before → AreListings log bricks after
list_read log bricks before after cells event index adds are c e there = by (adds c e there) where
  by : (event_of before c ≡ Some e) ⊎ IsAmong cells event c e → IsListedIn log bricks e c
  by (inl old) = are c e old
  by (inr new) = subst (λ (n : ℕ). IsListedIn log bricks n c) (sym new.event_is) (record { cells = cells; index = index; place = new.place; has = new.has })

pub none_listed : (log : Log) (bricks : List Journal) → AreListings log bricks []
none_listed log bricks c e there = absurd cc

-- ---- the skips so far

module _ (log : Log) (bricks : List Journal) where
  pub listed_by : (listings : List (Cell × ℕ)) (cell : Cell) (event number : ℕ) → AreListings log bricks listings → event_of listings cell ≡ Some event → event < number → IsListed log bricks number cell
  listed_by listings cell event number are there lt = record { listed_at = event; listed = are cell event there; in_time = lt }

  pub skip_due : (k number : ℕ) (skip : Cell × SkipCause) → Some skip ≡ slice_get log.skips k → Some number ≡ slice_get log.skipped k → IsListed log bricks number skip.0
      → (other : Cell × SkipCause) → slice_get log.skips k ≡ Some other → IsSkipDue log bricks k other
  skip_due k number skip here number_here listed other there at at_there =
      subst (λ (s : Cell × SkipCause). IsListed log bricks at s.0) (some_is skip other (here ∙ there))
      (subst (λ (n : ℕ). IsListed log bricks n skip.0) (some_is number at (number_here ∙ at_there)) listed)

  abbrev AreDueTo : ℕ → Type 0
  AreDueTo n = (j : ℕ) (skip : Cell × SkipCause) → j < n → slice_get log.skips j ≡ Some skip → IsSkipDue log bricks j skip

  pub skips_next : (n : ℕ) → ((skip : Cell × SkipCause) → slice_get log.skips n ≡ Some skip → IsSkipDue log bricks n skip) → AreDueTo n → AreDueTo (n + 1)
  skips_next n own so_far = each_more (λ (j : ℕ) (s : Cell × SkipCause). IsSkipDue log bricks j s) log.skips n own so_far

  pub all_listed : (n : ℕ) → length log.skips ≤ n → AreDueTo n → SkipsAreListed log bricks
  all_listed n le are k number skip there number_there = let lt = slice_get_within log.skips k skip there in are k skip (omega (arith, lt, le)) there number number_there
