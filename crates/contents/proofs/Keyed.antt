-- A `BTreeMap`'s entries as a finite map: what one insert, one write and one removal make of it.
use Rattle.std.proofs.Common.{◌≡◌, refl, sym, ap, subst, ◌∙◌, List, [], ◌∷◌, Less, T, ◌&&◌, is_lt}
use Rattle.std.specs.Prelude.{Bool, true, false, cond}
use Rattle.std.specs.Prelude.{None, Some}
use Rattle.std.specs.declared.cmp.Ordering.{Ordering}
use Rattle.std.specs.Cmp.{IsTotalOrder, eq_by_cmp_equiv}
use Rattle.std.specs.Map.{lookup}
use Rattle.std.specs.BTreeMap.{is_at}
use Rattle.std.specs.FinMap as map
use Rattle.std.specs.FinMap.{find, is_sorted}
use Rattle.std.specs.FinMap.Entries.{below_all}
use Rattle.std.specs.Map.{keys_of}
use Rattle.std.specs.List.{AllByRecursion}
use Rattle.std.specs.List.Sorted.{IsStrictlySortedBy}

both : (a b : Bool) → T a → T b → T (a && b)
both true b h i = i
both false b h i = absurd h

passes : (a b : Bool) → a ≡ true → T b → T (a && b)
passes a b h i = subst (λ x. T (x && b)) (sym h) i

below : {K X : Type 0} (R : K → K → Ordering) (k : K) (es : List (K × X)) → AllByRecursion (λ y. R k y ≡ Less) (keys_of es) → T (below_all R k es)
below R k [] h = tt
below R k (e ∷ es) h = passes _ _ (ap is_lt h.0) (below R k es h.1)

-- a map's entries rise
rising : {K X : Type 0} (R : K → K → Ordering) (es : List (K × X)) → IsStrictlySortedBy R (keys_of es) → T (is_sorted R es)
unfolding IsStrictlySortedBy
rising R [] h = tt
rising R (e ∷ es) h = both _ _ (below R e.0 es h.0) (rising R es h.1)

module _ {K X : Type 0} (R : K → K → Ordering) (o : IsTotalOrder R) (exact : map.IsAntisymmetric R) where
  pub find_is : (es : List (K × X)) (q : K) → find R q es ≡ lookup (is_at (R q)) es
  find_is [] q = refl
  find_is (e ∷ es) q = ap (cond (is_at (R q) e.0) (Some e.1)) (find_is es q)

  pub get_made : (es : List (K × X)) (q : K) → map.get (map.from_entries {R = R} es) q ≡ lookup (is_at (R q)) es
  get_made es q = map.get-from_entries o es q ∙ find_is es q

  pub insert_made : (es fs : List (K × X)) (k : K) (v : X) → ((q : K) → lookup (is_at (R q)) fs ≡ cond (is_at (R k) q) (Some v) (lookup (is_at (R q)) es)) → map.from_entries {R = R} fs ≡ map.insert (map.from_entries es) k v
  insert_made es fs k v h = map.same_map o exact _ _ (λ q. get_made fs q ∙ h q ∙ sym (map.get-insert o (map.from_entries {R = R} es) k v q ∙ ap (λ b. cond b (Some v) (map.get (map.from_entries {R = R} es) q)) ((eq_by_cmp_equiv o).symm q k) ∙ ap (cond (is_at (R k) q) (Some v)) (get_made es q)))

  pub remove_made : (es fs : List (K × X)) (k : K) → ((q : K) → lookup (is_at (R q)) fs ≡ cond (is_at (R k) q) None (lookup (is_at (R q)) es)) → map.from_entries {R = R} fs ≡ map.remove (map.from_entries es) k
  remove_made es fs k h = map.same_map o exact _ _ (λ q. get_made fs q ∙ h q ∙ sym (map.get-remove o (map.from_entries {R = R} es) k q ∙ ap (λ b. cond b None (map.get (map.from_entries {R = R} es) q)) ((eq_by_cmp_equiv o).symm q k) ∙ ap (cond (is_at (R k) q) None) (get_made es q)))

  pub entries_made : (es : List (K × X)) → IsStrictlySortedBy R (keys_of es) → map.entries (map.from_entries {R = R} es) ≡ es
  entries_made es h = let s = rising R es h in ap map.entries (map.same_map o exact _ _ (λ q. map.get-from_entries o es q ∙ sym (map.get-from_sorted R es q s))) ∙ map.entries-from_sorted R es s
