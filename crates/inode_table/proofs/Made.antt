-- The entries of an index map as a finite map: what one insert, one write and one removal make of it.
use Rattle.std.proofs.Common.{◌≡◌, refl, sym, ap, ◌∙◌, ℕ, List, [], ◌∷◌, Bool, true, false, cond, ◌&&◌, ◌==◌, Option, Some, None, IsSome, is_some, Result, Ok, Err, OnErr}
use Rattle.std.specs.declared.cmp.Ordering.{Ordering}
use Rattle.std.specs.declared.cmp.Ordering.TheVariants.{Less, Equal, Greater}
use Rattle.std.specs.Cmp.{IsTotalOrder, then_total, on_total, nat_cmp_total, eq_by_cmp_equiv, unsigned_tied}
use Rattle.std.specs.Ordering.{nat_cmp, is_eq, ordering_then}
use Rattle.std.specs.Map.{lookup}
use Rattle.std.specs.FinMap as map
use Rattle.std.specs.FinMap.{find}
use Rattle.std.proofs.lemmas.Map.Lookups.{exact_pairs, exact_unsigned}
use Rattle.fop_types.specs.Orders.{gfid_cmp}
use Rattle.fop_types.specs.declared.cells.Gfid.{Gfid}
use Rattle.inode_table.specs.declared.inode.Inode.{Inode}
use Rattle.inode_table.specs.Inodes.{Inodes, inode_at}

gfid_total : IsTotalOrder gfid_cmp
gfid_total = then_total (on_total (λ (g : Gfid). g.hi) nat_cmp_total) (on_total (λ (g : Gfid). g.lo) nat_cmp_total)

gfid_exact : map.IsAntisymmetric gfid_cmp
gfid_exact a b h =
    let made : ℕ × ℕ → Gfid = λ p. record { hi = p.0; lo = p.1 } in
    ap made (exact_pairs nat_cmp nat_cmp exact_unsigned exact_unsigned (a.hi, a.lo) (b.hi, b.lo) h)

-- the equality by which an index map looks for a gfid
abbrev pub same : Gfid → Gfid → Bool
same a b = (a.hi == b.hi) && (a.lo == b.lo)

both_equal : (o p : Ordering) → is_eq (ordering_then o p) ≡ is_eq o && is_eq p
both_equal Less p = refl
both_equal Equal p = refl
both_equal Greater p = refl

-- it says what the order of gfids says
same_by_order : (a b : Gfid) → is_eq (gfid_cmp a b) ≡ same a b
same_by_order a b =
    both_equal (nat_cmp a.hi b.hi) (nat_cmp a.lo b.lo) ∙ ap (λ e. e && is_eq (nat_cmp a.lo b.lo)) (unsigned_tied a.hi b.hi)
    ∙ ap (λ e. (a.hi == b.hi) && e) (unsigned_tied a.lo b.lo)

turned : (a b : Gfid) → is_eq (gfid_cmp a b) ≡ same b a
turned a b = (eq_by_cmp_equiv gfid_total).symm a b ∙ same_by_order b a

found : (es : List (Gfid × Inode)) (q : Gfid) → find gfid_cmp q es ≡ lookup (same q) es
found [] q = refl
found (e ∷ es) q = ap (λ b. cond b (Some e.1) (find gfid_cmp q es)) (same_by_order q e.0) ∙ ap (cond (same q e.0) (Some e.1)) (found es q)

pub inode_made : (es : List (Gfid × Inode)) (q : Gfid) → inode_at (map.from_entries {R = gfid_cmp} es) q ≡ lookup (same q) es
inode_made es q = map.get-from_entries gfid_total es q ∙ found es q

pub none_made : (es : List (Gfid × Inode)) → es ≡ [] → (q : Gfid) → inode_at (map.from_entries {R = gfid_cmp} es) q ≡ None
none_made es e q = inode_made es q ∙ ap (lookup (same q)) e

-- the look-ups of a table in which one entry was put or taken away
changed : (es fs : List (Gfid × Inode)) (k : Gfid) (w : Option Inode) (m : Inodes)
    → ((q : Gfid) → lookup (same q) fs ≡ cond (same k q) w (lookup (same q) es))
    → ((q : Gfid) → map.get m q ≡ cond (is_eq (gfid_cmp q k)) w (map.get (map.from_entries {R = gfid_cmp} es) q))
    → map.from_entries {R = gfid_cmp} fs ≡ m
changed es fs k w m h g = map.same_map gfid_total gfid_exact _ _ (λ q. inode_made fs q ∙ h q
    ∙ sym (g q ∙ ap (λ b. cond b w (map.get (map.from_entries {R = gfid_cmp} es) q)) (turned q k) ∙ ap (cond (same k q) w) (inode_made es q)))

pub insert_made : (es fs : List (Gfid × Inode)) (k : Gfid) (v : Inode) → ((q : Gfid) → lookup (same q) fs ≡ cond (same k q) (Some v) (lookup (same q) es)) → map.from_entries {R = gfid_cmp} fs ≡ map.insert (map.from_entries {R = gfid_cmp} es) k v
insert_made es fs k v h = changed es fs k (Some v) _ h (λ q. map.get-insert gfid_total (map.from_entries {R = gfid_cmp} es) k v q)

pub remove_made : (es fs : List (Gfid × Inode)) (k : Gfid) → ((q : Gfid) → lookup (same q) fs ≡ cond (same k q) None (lookup (same q) es)) → map.from_entries {R = gfid_cmp} fs ≡ map.remove (map.from_entries {R = gfid_cmp} es) k
remove_made es fs k h = changed es fs k None _ h (λ q. map.get-remove gfid_total (map.from_entries {R = gfid_cmp} es) k q)

-- what is read back of an entry that was put
pub inode_inserted : (inodes : Inodes) (k : Gfid) (v : Inode) → inode_at (map.insert inodes k v) k ≡ Some v
inode_inserted inodes k v = map.get-insert gfid_total inodes k v k ∙ ap (λ b. cond b (Some v) (map.get inodes k)) ((eq_by_cmp_equiv gfid_total).refl k)

-- an entry of the table is one of the index map
pub present_made : (es : List (Gfid × Inode)) (q : Gfid) {inodes : Inodes} → map.from_entries {R = gfid_cmp} es ≡ inodes → IsSome (inode_at inodes q) → IsSome (lookup (same q) es)
present_made es q is there = sym (ap is_some (inode_made es q)) ∙ ap (λ t. is_some (inode_at t q)) is ∙ there

pub not_none : (o : Option Inode) → o ≡ None → IsSome o → ⊥
not_none o is there = let e : is_some o ≡ false = ap is_some is in let f : true ≡ false = sym there ∙ e in absurd cc

pub on_err : {A E P : Type 0} (r : Result A E) → P → OnErr r P
on_err (Ok a) p = tt
on_err (Err e) p = p
