-- The parts of what a brick keeps are read exactly.
use Rattle.std.proofs.Common.{◌≡◌, ◌<◌, ◌≤◌, ◌∷◌, ◌∙◌, ◌++◌, ◌+◌, ◌-◌, ◌*◌, ◌/◌, ◌%◌, ◌^◌, ℕ, suc, zero, Bool, true, false, ◌&&◌, ◌==◌, sym, refl, ap, ap₂, subst, List, [], length, arith, append_assoc, append-nil, Option, Some, None, if◌then◌else◌}
use Rattle.std.specs.List.{list_all}
use Rattle.std.specs.declared.cmp.Ordering.{Ordering}
use Rattle.std.specs.declared.cmp.Ordering.TheVariants as order
use Rattle.std.specs.Ordering.{nat_cmp, is_lt, ordering_then}
use Rattle.std.specs.Cmp.Lexicographic.{slice_cmp}
use Rattle.fop_types.specs.Rank.{rank}
use Rattle.fop_types.specs.Orders.{gfid_cmp, cell_cmp}
use Rattle.fop_types.specs.declared.cells.Gfid.{Gfid}
use Rattle.fop_types.specs.declared.cells.Aspect.{Aspect}
use Rattle.fop_types.specs.declared.cells.Aspect.TheVariants.{Data, Meta, Entry}
use Rattle.fop_types.specs.declared.cells.Cell.{Cell}
use Rattle.fop_types.specs.declared.cells.Kind.{Kind}
use Rattle.fop_types.specs.declared.cells.Kind.TheVariants.{File, Dir, Link}
use Rattle.fop_types.specs.declared.contents.Span.{Span}
use Rattle.fop_types.specs.declared.contents.Attr.{Attr}
use Rattle.fop_types.specs.declared.contents.Item.{Item}
use Rattle.wire_xdr.specs.Xdr.{unit, flag, flag_number, opaque, list, IsUnit, IsHyper}
use Rattle.wire_xdr.specs.Order.{Each, Follows, Rises, RisesFrom}
use Rattle.wire_xdr.specs.PartText.{gfid_text, IsGfid, cell_text, IsCell, AreCells, span_text, IsSpan, attr_text, IsAttrName, IsAttr, attr_cmp, AreAttrs, is_name_byte, is_volume_byte, IsItemName, kind_number, IsTarget, item_text, IsItem, item_cmp, AreItems, IsMode}
use Rattle.wire_xdr.specs.code.Parsers.{Parser, chain, between_at, bytes_at, flag_at, any_byte, is_greater, list_at}
use Rattle.wire_xdr.specs.code.PartParsers.{gfid_of, first_cell, last_but, next_gfid, after_aspect, least_after, cell_at, rising_cell, cells_at, some_span, span_arm_at, span_at, attr_of, attr_name, attr_name_at, attr_after, attr_at, attrs_at, kind_of, kind_at, target_at, item_of, item_name, item_name_at, item_after, item_at, items_of_directory_at, mode_at}
use Rattle.wire_xdr.proofs.Names.{Three, Below, Same, Above, three_ways, cmp_less, cmp_same, cmp_more, greater_by}
use Rattle.wire_xdr.proofs.Laws.{IsLaw, weaker, restated}
use Rattle.wire_xdr.proofs.QuadLaws.{Says, pick, IsBetween, between_law, relegal}
use Rattle.wire_xdr.proofs.FieldLaws.{Made1, Made2, Made3, Made4, one_law, two_law, three_law, four_law, Keyed, keyed_law, IsValue, value_law, Items, total, list_law, items_into, items_from}
use Rattle.wire_xdr.proofs.StringLaws.{IsName, name_law, bytes_law}
use Rattle.wire_xdr.proofs.CellLaws.{place_of, place, rank_bound, rank_of, IsPlaced, cell_law}
use Rattle.wire_xdr.proofs.HyperLaws.{gfid_law, any_unit_law, any_hyper_law}

pub flag_law : IsLaw 4 (Says (λ (o : Bool) (b : Bool). Unit {0}) flag) flag_at
flag_law = relegal (λ o b h. tt) from (one_law (λ (n : ℕ). n == 1) flag joins (between_law 0 1 (omega arith) (omega arith)))
  where
    joins : (o : Bool) (n : ℕ) → IsBetween 0 1 o n → flag (n == 1) ≡ unit n
    joins o zero h = refl
    joins o (suc zero) h = refl
    joins o (suc (suc n)) h = absurd (omega (arith, h.high))

    from : (o : Bool) (b : Bool) → Unit {0} → Made1 (IsBetween 0 1) (λ (n : ℕ). n == 1) o b
    from o true h = record { a = 1; said_a = record { low = omega arith; high = omega arith }; made = refl }
    from o false h = record { a = 0; said_a = record { low = omega arith; high = omega arith }; made = refl }

pub mode_law : IsLaw 4 (Says (λ (o : Bool) (m : ℕ). IsMode m) unit) mode_at
mode_law = relegal (λ o m h. h.high) (λ o m h. record { low = omega arith; high = h }) (between_law 0 511 (omega arith) (omega arith))

pub retext : {A : Type 0} {F : Bool → A → Type 0} {s t : A → List ℕ} {m : ℕ} {read : Parser A} → ((x : A) → s x ≡ t x) → IsLaw m (Says F s) read → IsLaw m (Says F t) read
retext same law = restated (λ o x t h. record { legal = h.legal; is = h.is ∙ same x }) (λ o x t h. record { legal = h.legal; is = h.is ∙ sym (same x) }) law

-- a union whose arms are known by their numbers
pub union_law : {D : Type 0} {m : ℕ} {rB : ℕ → Parser D} (least most : ℕ) (key : D → ℕ) (text : D → List ℕ) (F : ℕ → Bool → D → Type 0) (Legal : Bool → D → Type 0)
    → least ≤ most → most < 2 ^ 32 → ((k : ℕ) (o : Bool) (y : D) → F k o y → key y ≡ k) → ((k : ℕ) (o : Bool) (y : D) → least ≤ k → k ≤ most → F k o y → Legal o y)
    → ((o : Bool) (y : D) → Legal o y → F (key y) o y) → ((o : Bool) (y : D) → Legal o y → (least ≤ key y) × (key y ≤ most)) → ((k : ℕ) → least ≤ k → k ≤ most → IsLaw m (Says (F k) text) (rB k))
    → IsLaw (4 + m) (Says Legal (λ (y : D). unit (key y) ++ text y)) (chain (between_at least most) rB)
union_law least most key text F Legal some small keys into out ends arms =
    relegal (λ o y h. into h.number o y h.named.low h.named.high h.arm)
    (λ o y h. let e = ends o y h in record { number = key y; named = record { low = e.0; high = e.1 }; arm = out o y h })
    (keyed_law key text keys (between_law least most some small) (λ k h. arms k h.low h.high))

abbrev pub OfUnit : Bool → ℕ → Type 0
OfUnit o n = IsUnit n

abbrev pub OfHyper : Bool → ℕ → Type 0
OfHyper o n = IsHyper n

abbrev pub OfGfid : Bool → Gfid → Type 0
OfGfid o g = IsGfid g

abbrev pub OfCell : Bool → Cell → Type 0
OfCell o c = IsCell c

abbrev pub OfFlag : Bool → Bool → Type 0
OfFlag o b = Unit {0}

abbrev pub OfMode : Bool → ℕ → Type 0
OfMode o m = IsMode m

abbrev pub OfSpan : Bool → Option Span → Type 0
OfSpan o s = IsSpan s

abbrev span_key : Option Span → ℕ
span_key None = 0
span_key (Some s) = 1

abbrev span_arm : Option Span → List ℕ
span_arm None = []
span_arm (Some s) = unit s.first ++ unit s.last

abbrev SpanArm : ℕ → Bool → Option Span → Type 0
SpanArm zero o s = IsValue None o s
SpanArm (suc zero) o s = Made2 OfUnit (λ _. OfUnit) some_span o s
SpanArm (suc (suc k)) o s = ⊥

pub span_law : IsLaw 12 (Says OfSpan span_text) span_at
span_law = retext texts_are (union_law 0 1 span_key span_arm SpanArm OfSpan (omega arith) (omega arith) keys into out ends arms)
  where
    texts_are : (s : Option Span) → unit (span_key s) ++ span_arm s ≡ span_text s
    texts_are None = append-nil (unit 0)
    texts_are (Some s) = refl

    keys : (k : ℕ) (o : Bool) (s : Option Span) → SpanArm k o s → span_key s ≡ k
    keys zero o s h = ap span_key h.made
    keys (suc zero) o s h = ap span_key h.made
    keys (suc (suc k)) o s h = absurd h

    into : (k : ℕ) (o : Bool) (s : Option Span) → 0 ≤ k → k ≤ 1 → SpanArm k o s → IsSpan s
    into zero o s l m h = subst IsSpan (sym h.made) tt
    into (suc zero) o s l m h = subst IsSpan (sym h.made) (h.said_a, h.said_b)
    into (suc (suc k)) o s l m h = absurd h

    out : (o : Bool) (s : Option Span) → IsSpan s → SpanArm (span_key s) o s
    out o None h = record { made = refl }
    out o (Some s) h = record { a = s.first; b = s.last; said_a = h.0; said_b = h.1; made = refl }

    ends : (o : Bool) (s : Option Span) → IsSpan s → (0 ≤ span_key s) × (span_key s ≤ 1)
    ends o None h = (omega arith, omega arith)
    ends o (Some s) h = (omega arith, omega arith)

    arms : (k : ℕ) → 0 ≤ k → k ≤ 1 → IsLaw 8 (Says (SpanArm k) span_arm) (span_arm_at k)
    arms zero l m = weaker 0 8 (omega arith) (value_law None span_arm refl)
    arms (suc zero) l m = two_law some_span span_arm (λ o a b x y. refl) any_unit_law (λ a x. any_unit_law)
    arms (suc (suc k)) l m = absurd (omega (arith, m))

-- names of attributes and items, after earlier ones
less_is : (r : Ordering) → is_lt r ≡ true → r ≡ order.Less
less_is order.Less h = refl
less_is order.Equal h = absurd cc
less_is order.Greater h = absurd cc

pub none_above : (o : Bool) (x : List ℕ) → is_greater (pick None None o) x ≡ true
none_above true x = refl
none_above false x = refl

any_above : (e : Option (List ℕ)) (x : List ℕ) → is_greater (pick e None false) x ≡ true
any_above e x = refl

pub any_all : (xs : List ℕ) → list_all any_byte xs ≡ true
any_all [] = refl
any_all (x ∷ xs) = any_all xs

abbrev pub OfAttr : Option (List ℕ) → Bool → Attr → Type 0
OfAttr e o a = IsAttr a × (is_greater (pick e None o) a.name ≡ true)

pub attr_after_law : (e : Option (List ℕ)) → IsLaw 4360 (Says (OfAttr e) attr_text) (attr_after e)
attr_after_law e = relegal into from (two_law attr_of attr_text (λ o a b x y. refl) (name_law any_byte 0 refl e 6 64 (omega arith) (omega arith) (omega arith)) (λ a x. bytes_law 1024 (omega arith)))
  where
    into : (o : Bool) (a : Attr) → Made2 (IsName any_byte 6 64 e) (λ _. IsName any_byte 0 1024 None) attr_of o a → OfAttr e o a
    into o a h = subst (OfAttr e o) (sym h.made) (((h.said_a.low, h.said_a.high), h.said_b.high), h.said_a.above)

    from : (o : Bool) (a : Attr) → OfAttr e o a → Made2 (IsName any_byte 6 64 e) (λ _. IsName any_byte 0 1024 None) attr_of o a
    from o a h = record {
      a = a.name;
      b = a.value;
      made = refl;
      said_a = record { low = h.0.0.0; high = h.0.0.1; passes = any_all a.name; above = h.1 };
      said_b = record { low = omega arith; high = h.0.1; passes = any_all a.value; above = none_above o a.value };
    }

abbrev pub OfOneAttr : Bool → Attr → Type 0
OfOneAttr o a = IsAttr a

pub attr_law : IsLaw 4360 (Says OfOneAttr attr_text) (attr_after None)
attr_law = relegal (λ o a h. h.0) (λ o a h. (h, none_above o a.name)) (attr_after_law None)

abbrev pub OfAttrName : Bool → List ℕ → Type 0
OfAttrName o n = IsAttrName n

pub attr_name_law : IsLaw 260 (Says OfAttrName opaque) (attr_name_at None)
attr_name_law = relegal (λ o n h. (h.low, h.high)) (λ o n h. record { low = h.0; high = h.1; passes = any_all n; above = none_above o n }) (name_law any_byte 0 refl None 6 64 (omega arith) (omega arith) (omega arith))

attr_follows : (e : Option Attr) (n : ℕ) (o : Bool) (a : Attr) → OfAttr (attr_name e) o a → IsAttr a × Follows attr_cmp o e a
attr_follows e n false a h = (h.0, tt)
attr_follows None n true a h = (h.0, tt)
attr_follows (Some b) n true a h = (h.0, less_is (slice_cmp nat_cmp b.name a.name) (sym (greater_by b.name a.name) ∙ h.1))

attr_back : (e : Option Attr) (n : ℕ) (o : Bool) (a : Attr) → IsAttr a → Follows attr_cmp o e a → OfAttr (attr_name e) o a
attr_back e n false a h f = (h, refl)
attr_back None n true a h f = (h, refl)
attr_back (Some b) n true a h f = (h, greater_by b.name a.name ∙ ap is_lt f)

total_attrs : (k : ℕ) → total 4360 k ≡ 4360 * k
total_attrs zero = refl
total_attrs (suc k) = omega (arith, total_attrs k)

pub attrs_law : IsLaw 285736964 (Says AreAttrs (list attr_text)) attrs_at
attrs_law = relegal into from (list_law attr_at (λ (e : Option Attr) (n : ℕ). OfAttr (attr_name e)) attr_text (λ e n. Unit {0}) (λ e n r. attr_after_law (attr_name e)) (λ e n x r h. tt) 0 65536 285736960 (omega arith) (omega arith)
    (λ k h. omega (arith, h, total_attrs k)) (λ k h. tt))
  where
    into : (o : Bool) (xs : List Attr) → Keyed (IsBetween 0 65536) (Items (λ (e : Option Attr) (n : ℕ). OfAttr (attr_name e)) None) o xs → AreAttrs o xs
    into o xs h = let r = items_into (λ (e : Option Attr) (n : ℕ). OfAttr (attr_name e)) IsAttr attr_cmp attr_follows h.number None o xs h.arm in
        (subst (λ (n : ℕ). n ≤ 65536) (sym r.0) h.named.high, r.1, r.2)

    from : (o : Bool) (xs : List Attr) → AreAttrs o xs → Keyed (IsBetween 0 65536) (Items (λ (e : Option Attr) (n : ℕ). OfAttr (attr_name e)) None) o xs
    from o xs h = record { number = length xs; named = record { low = omega arith; high = h.0 }; arm = items_from (λ (e : Option Attr) (n : ℕ). OfAttr (attr_name e)) IsAttr attr_cmp attr_back (length xs) None o xs refl h.1 h.2 }

abbrev pub OfKind : Bool → Kind → Type 0
OfKind o k = Unit {0}

pub kind_law : IsLaw 4 (Says OfKind (λ (k : Kind). unit (kind_number k))) kind_at
kind_law = relegal (λ o k h. tt) from (one_law kind_of (λ (k : Kind). unit (kind_number k)) joins (between_law 0 2 (omega arith) (omega arith)))
  where
    joins : (o : Bool) (n : ℕ) → IsBetween 0 2 o n → unit (kind_number (kind_of n)) ≡ unit n
    joins o zero h = refl
    joins o (suc zero) h = refl
    joins o (suc (suc zero)) h = refl
    joins o (suc (suc (suc n))) h = absurd (omega (arith, h.high))

    from : (o : Bool) (k : Kind) → Unit {0} → Made1 (IsBetween 0 2) kind_of o k
    from o File h = record { a = 0; said_a = record { low = omega arith; high = omega arith }; made = refl }
    from o Dir h = record { a = 1; said_a = record { low = omega arith; high = omega arith }; made = refl }
    from o Link h = record { a = 2; said_a = record { low = omega arith; high = omega arith }; made = refl }

abbrev pub OfTarget : Kind → Bool → List ℕ → Type 0
OfTarget k o t = IsTarget k t

no_target : IsLaw 260 (Says (λ (o : Bool) (t : List ℕ). length t ≡ 0) opaque) (bytes_at 0)
no_target = weaker 4 260 (omega arith) (relegal (λ o t h. omega (arith, h.high)) (λ o t h. record { low = omega arith; high = omega (arith, h); passes = any_all t; above = none_above o t }) (bytes_law 0 (omega arith)))

target_law : (k : Kind) → IsLaw 260 (Says (OfTarget k) opaque) (target_at k)
target_law File = no_target
target_law Dir = no_target
target_law Link = relegal (λ o t h. (h.low, h.high, h.passes)) (λ o t h. record { low = h.0; high = h.1; passes = h.2; above = none_above o t }) (name_law is_volume_byte 65 refl None 1 64 (omega arith) (omega arith) (omega arith))

abbrev pub OfItem : Option (List ℕ) → Bool → Item → Type 0
OfItem e o i = IsItem i × (is_greater (pick e None o) i.name ≡ true)

pub item_after_law : (e : Option (List ℕ)) → IsLaw 1304 (Says (OfItem e) item_text) (item_after e)
item_after_law e = relegal into from (four_law item_of item_text (λ a b c d. refl) (name_law is_name_byte 65 refl e 1 255 (omega arith) (omega arith) (omega arith)) (λ a x. gfid_law) (λ a b x y. kind_law) (λ a b c x y z. target_law c))
  where
    into : (o : Bool) (i : Item) → Made4 (IsName is_name_byte 1 255 e) (λ _. OfGfid) (λ _ _. OfKind) (λ _ _ c. OfTarget c) item_of o i → OfItem e o i
    into o i h = subst (OfItem e o) (sym h.made) (((h.said_a.low, h.said_a.high, h.said_a.passes), h.said_b, h.said_e), h.said_a.above)

    from : (o : Bool) (i : Item) → OfItem e o i → Made4 (IsName is_name_byte 1 255 e) (λ _. OfGfid) (λ _ _. OfKind) (λ _ _ c. OfTarget c) item_of o i
    from o i h = record { a = i.name; b = i.gfid; c = i.kind; e = i.target; made = refl; said_a = record { low = h.0.0.0; high = h.0.0.1; passes = h.0.0.2; above = h.1 }; said_b = h.0.1; said_c = tt; said_e = h.0.2 }

abbrev pub OfOneItem : Bool → Item → Type 0
OfOneItem o i = IsItem i

pub item_law : IsLaw 1304 (Says OfOneItem item_text) (item_after None)
item_law = relegal (λ o i h. h.0) (λ o i h. (h, none_above o i.name)) (item_after_law None)

abbrev pub OfItemName : Bool → List ℕ → Type 0
OfItemName o n = IsItemName n

pub item_name_law : IsLaw 1024 (Says OfItemName opaque) (item_name_at None)
item_name_law = relegal (λ o n h. (h.low, h.high, h.passes)) (λ o n h. record { low = h.0; high = h.1; passes = h.2; above = none_above o n }) (name_law is_name_byte 65 refl None 1 255 (omega arith) (omega arith) (omega arith))

item_follows : (e : Option Item) (n : ℕ) (o : Bool) (i : Item) → OfItem (item_name e) o i → IsItem i × Follows item_cmp o e i
item_follows e n false i h = (h.0, tt)
item_follows None n true i h = (h.0, tt)
item_follows (Some b) n true i h = (h.0, less_is (slice_cmp nat_cmp b.name i.name) (sym (greater_by b.name i.name) ∙ h.1))

item_back : (e : Option Item) (n : ℕ) (o : Bool) (i : Item) → IsItem i → Follows item_cmp o e i → OfItem (item_name e) o i
item_back e n false i h f = (h, refl)
item_back None n true i h f = (h, refl)
item_back (Some b) n true i h f = (h, greater_by b.name i.name ∙ ap is_lt f)

total_items : (k : ℕ) → total 1304 k ≡ 1304 * k
total_items zero = refl
total_items (suc k) = omega (arith, total_items k)

pub items_of_directory_law : IsLaw 85458948 (Says AreItems (list item_text)) items_of_directory_at
items_of_directory_law = relegal into from (list_law item_at (λ (e : Option Item) (n : ℕ). OfItem (item_name e)) item_text (λ e n. Unit {0}) (λ e n r. item_after_law (item_name e)) (λ e n x r h. tt) 0 65536 85458944 (omega arith) (omega arith)
    (λ k h. omega (arith, h, total_items k)) (λ k h. tt))
  where
    into : (o : Bool) (xs : List Item) → Keyed (IsBetween 0 65536) (Items (λ (e : Option Item) (n : ℕ). OfItem (item_name e)) None) o xs → AreItems o xs
    into o xs h = let r = items_into (λ (e : Option Item) (n : ℕ). OfItem (item_name e)) IsItem item_cmp item_follows h.number None o xs h.arm in
        (subst (λ (n : ℕ). n ≤ 65536) (sym r.0) h.named.high, r.1, r.2)

    from : (o : Bool) (xs : List Item) → AreItems o xs → Keyed (IsBetween 0 65536) (Items (λ (e : Option Item) (n : ℕ). OfItem (item_name e)) None) o xs
    from o xs h = record { number = length xs; named = record { low = omega arith; high = h.0 }; arm = items_from (λ (e : Option Item) (n : ℕ). OfItem (item_name e)) IsItem item_cmp item_back (length xs) None o xs refl h.1 h.2 }
