-- Lines that open winds, by their places.
use Rattle.std.proofs.Common.{◌≡◌, refl, sym, ap, subst, ◌∙◌, arith, inl, inr}
use Rattle.std.specs.Prelude.{ℕ, ◌<◌, ◌≤◌, ◌+◌, ◌↔◌, ◌⊎◌, Bool, true, false, IsTrue, List, [], Option, None, Some, is_some, length, slice_get, MatchOption}
use Rattle.std.specs.Ordering.{nat_cmp}
use Rattle.std.specs.BTreeMap.{insert_entry}
use Rattle.std.proofs.lemmas.Bool.{cases_eq}
use Rattle.std.proofs.lemmas.Cmp.{nat_cmp_total}
use Rattle.std.proofs.lemmas.Map.Lookups.{exact_unsigned}
use Rattle.std.proofs.lemmas.Option.{slice_get_within}
use Rattle.fop_types.proofs.MapLemmas.{lookup-put_same, lookup-put_other, apart}
use Rattle.xlator_law.specs.Numbers.{wind_number}
use Rattle.mount_log.proofs.Items.{some_is}
use Rattle.mount_log.specs.declared.logs.WindLine.{WindLine}
use Rattle.change_audit.specs.Answered.{IsWindFor, IsOpenedIn, IsOpenedSince}
use Rattle.change_audit.specs.Served.{IsOpeningFor, IsOpeningAt, IsOpeningIn, IsOpeningSince, opening_of, AreOpenings}
use Rattle.change_audit.specs.declared.finding.Opening.{Opening}
use Rattle.change_audit.proofs.Items.{found, reads_some, reads_none, each_more}

module _ (winds : List WindLine) (place call wind : ℕ) where
  pub opened_at : IsOpeningAt winds place call wind → IsWindFor winds call wind
  opened_at opens = let at = found (IsOpeningFor call wind) (slice_get winds place) opens in
      record { place = place; line = at.item; there = at.is; opened = at.holds.opened; call_is = at.holds.call_is; number_is = at.holds.number_is }

  pub line_opens : (line : WindLine) (b : Bool) → Some line ≡ slice_get winds place → (IsTrue b ↔ IsOpeningFor call wind line) → (IsTrue b ↔ IsOpeningAt winds place call wind)
  line_opens line b is same = reads_some (IsOpeningFor call wind) (slice_get winds place) line b is same

  pub none_opens : None ≡ slice_get winds place → (IsTrue false ↔ IsOpeningAt winds place call wind)
  none_opens is = reads_none (IsOpeningFor call wind) (slice_get winds place) is

  module _ (number : ℕ) where
    abbrev IsIn : WindLine → Type 0
    IsIn line = IsOpeningFor call wind line × (line.event ≡ number)

    pub opened_in : IsOpeningIn winds place call wind number → IsOpenedIn winds call wind number
    opened_in opens = let at = found IsIn (slice_get winds place) opens in let opening = at.holds.0 in
        record { place = place; line = at.item; there = at.is; opened = opening.opened; call_is = opening.call_is; number_is = opening.number_is; event_is = at.holds.1 }

    pub line_opens_in : (line : WindLine) (b : Bool) → Some line ≡ slice_get winds place → (IsTrue b ↔ (IsOpeningFor call wind line × (line.event ≡ number))) → (IsTrue b ↔ IsOpeningIn winds place call wind number)
    line_opens_in line b is same = reads_some IsIn (slice_get winds place) line b is same

    pub none_opens_in : None ≡ slice_get winds place → (IsTrue false ↔ IsOpeningIn winds place call wind number)
    none_opens_in is = reads_none IsIn (slice_get winds place) is

  module _ (event : ℕ) where
    abbrev IsSince : WindLine → Type 0
    IsSince line = IsOpeningFor call wind line × (event < line.event)

    pub opened_since : IsOpeningSince winds place call wind event → IsOpenedSince winds call wind event
    opened_since opens = let at = found IsSince (slice_get winds place) opens in let opening = at.holds.0 in
        record {
          number = at.item.event;
          opened = record { place = place; line = at.item; there = at.is; opened = opening.opened; call_is = opening.call_is; number_is = opening.number_is; event_is = refl };
          since = at.holds.1;
        }

    -- the line at the place opens the wind in its own event
    pub own_event : (line : WindLine) → Some line ≡ slice_get winds place → (IsOpeningIn winds place call wind line.event ↔ IsOpeningFor call wind line)
    own_event line is = (
      λ opens. let at = found (λ (l : WindLine). IsOpeningFor call wind l × (l.event ≡ line.event)) (slice_get winds place) opens in subst (IsOpeningFor call wind) (some_is at.item line (sym at.is ∙ sym is)) at.holds.0,
      λ opens. subst (λ (o : Option WindLine). MatchOption o ⊥ (λ l. IsOpeningFor call wind l × (l.event ≡ line.event))) is (opens, refl),
    )

    pub line_opens_since : (line : WindLine) (b : Bool) → Some line ≡ slice_get winds place → (IsTrue b ↔ (IsOpeningFor call wind line × (event < line.event))) → (IsTrue b ↔ IsOpeningSince winds place call wind event)
    line_opens_since line b is same = reads_some IsSince (slice_get winds place) line b is same

    pub none_opens_since : None ≡ slice_get winds place → (IsTrue false ↔ IsOpeningSince winds place call wind event)
    none_opens_since is = reads_none IsSince (slice_get winds place) is

-- ---- the table of openings

-- the openings among the first lines
pub record AreOpeningsTo (winds : List WindLine) (n : ℕ) (table : List (ℕ × Opening)) : Type 0 where
  pub each : (wind : ℕ) (o : Opening) → opening_of table wind ≡ Some o → IsOpeningAt winds o.place o.call wind
  pub all : (k : ℕ) (line : WindLine) → k < n → slice_get winds k ≡ Some line → line.opened ≡ true → is_some (opening_of table (wind_number line.wind)) ≡ true

module _ (winds : List WindLine) where
  pub no_openings : (table : List (ℕ × Opening)) → table ≡ [] → AreOpeningsTo winds 0 table
  no_openings table none = subst (AreOpeningsTo winds 0) (sym none) (record { each = λ wind o there. absurd cc; all = λ k line lt there opened. absurd (omega (arith, lt)) })

  -- a line that opens nothing
  pub openings_same : (n : ℕ) (line : WindLine) (table : List (ℕ × Opening)) → slice_get winds n ≡ Some line → line.opened ≡ false → AreOpeningsTo winds n table → AreOpeningsTo winds (n + 1) table
  openings_same n line table here closed so_far = record {
    each = so_far.each;
    all = each_more (λ (k : ℕ) (l : WindLine). l.opened ≡ true → is_some (opening_of table (wind_number l.wind)) ≡ true) winds n
        (λ l there opened. let same = some_is l line (sym there ∙ here) in let opens_it : line.opened ≡ true = ap (λ (x : WindLine). x.opened) (sym same) ∙ opened in absurd cc) so_far.all;
  }

  module _ (n : ℕ) (line : WindLine) (before after : List (ℕ × Opening)) (here : slice_get winds n ≡ Some line) (opened : line.opened ≡ true)
      (put : after ≡ insert_entry nat_cmp before (wind_number line.wind) (record { call = line.call; place = n })) where
    own : opening_of after (wind_number line.wind) ≡ Some (record { call = line.call; place = n })
    own = ap (λ (t : List (ℕ × Opening)). opening_of t (wind_number line.wind)) put ∙ lookup-put_same nat_cmp exact_unsigned nat_cmp_total before (wind_number line.wind) (record { call = line.call; place = n })

    other : (wind : ℕ) → (wind ≡ wind_number line.wind → ⊥) → opening_of after wind ≡ opening_of before wind
    other wind differ =
        ap (λ (t : List (ℕ × Opening)). opening_of t wind) put
        ∙ lookup-put_other nat_cmp exact_unsigned nat_cmp_total before (wind_number line.wind) wind (record { call = line.call; place = n }) (apart nat_cmp exact_unsigned wind (wind_number line.wind) differ)

    opens : IsOpeningAt winds n line.call (wind_number line.wind)
    opens = subst (λ (o : Option WindLine). MatchOption o ⊥ (IsOpeningFor line.call (wind_number line.wind))) (sym here) (record { opened = opened; call_is = refl; number_is = refl })

    stays : (wind : ℕ) → is_some (opening_of before wind) ≡ true → is_some (opening_of after wind) ≡ true
    stays wind there = by (cases_eq wind (wind_number line.wind)) where
      by : (wind ≡ wind_number line.wind) ⊎ (wind ≡ wind_number line.wind → ⊥) → is_some (opening_of after wind) ≡ true
      by (inl same) = ap (λ (w : ℕ). is_some (opening_of after w)) same ∙ ap is_some own
      by (inr differ) = ap is_some (other wind differ) ∙ there

    pub openings_next : AreOpeningsTo winds n before → AreOpeningsTo winds (n + 1) after
    openings_next so_far = record {
      each = λ wind o there. each wind o there (cases_eq wind (wind_number line.wind));
      all = each_more (λ (k : ℕ) (l : WindLine). l.opened ≡ true → is_some (opening_of after (wind_number l.wind)) ≡ true) winds n
          (λ l there opens_it. ap (λ (x : WindLine). is_some (opening_of after (wind_number x.wind))) (some_is l line (sym there ∙ here)) ∙ ap is_some own)
          (λ k l lt there opens_it. stays (wind_number l.wind) (so_far.all k l lt there opens_it));
    } where
      each : (wind : ℕ) (o : Opening) → opening_of after wind ≡ Some o → (wind ≡ wind_number line.wind) ⊎ (wind ≡ wind_number line.wind → ⊥) → IsOpeningAt winds o.place o.call wind
      each wind o there (inl same) =
          let is : record { call = line.call; place = n } ≡ o = some_is (record { call = line.call; place = n }) o (sym own ∙ ap (opening_of after) (sym same) ∙ there) in
          subst (λ (w : ℕ). IsOpeningAt winds o.place o.call w) (sym same) (subst (λ (x : Opening). IsOpeningAt winds x.place x.call (wind_number line.wind)) is opens)
      each wind o there (inr differ) = so_far.each wind o (sym (other wind differ) ∙ there)

  pub all_openings : (n : ℕ) (table : List (ℕ × Opening)) → length winds ≤ n → AreOpeningsTo winds n table → AreOpenings winds table
  all_openings n table le are = record {
    each = are.each;
    all = λ k line there opened. let lt = slice_get_within winds k line there in are.all k line (omega (arith, lt, le)) there opened;
  }
