-- The map of objects: what a search, an insert and an edit in place make of it.
use Rattle.std.proofs.Common.{◌≡◌, sym, subst, ap, ◌∙◌, List}
use Rattle.std.specs.Prelude.{Option, Some, None, is_some, IsSome, cond, Result, Ok, Err, OnOk}
use Rattle.std.specs.Map.{lookup}
use Rattle.std.specs.BTreeMap.{is_at}
use Rattle.std.specs.FinMap as map
use Rattle.fop_types.specs.Files.{Files, object_at, with_object}
use Rattle.fop_types.specs.Orders.{gfid_cmp}
use Rattle.fop_types.specs.declared.cells.Gfid.{Gfid}
use Rattle.fop_types.specs.declared.flat.FlatObject.{FlatObject}
use Rattle.fop_types.proofs.MapLemmas.{gfid_cmp_total, gfid_exact}
use Rattle.flat_fs.specs.Edits.{edited, edited_in, edited_at}
use Rattle.flat_fs.specs.declared.edits.Edit.{Edit}
use Rattle.contents.proofs.Keyed.{get_made, insert_made}

abbrev Entries : Type 0
Entries = List (Gfid × FlatObject)

pub found_at : (es : Entries) (now : Files) (gfid : Gfid) → map.from_entries es ≡ now → lookup (is_at (gfid_cmp gfid)) es ≡ object_at now gfid
found_at es now gfid seen = sym (get_made gfid_cmp gfid_cmp_total gfid_exact es gfid) ∙ ap (λ (m : Files). object_at m gfid) seen

pub put_at : (es fs : Entries) (now : Files) (gfid : Gfid) (object : FlatObject) → map.from_entries es ≡ now
    → ((q : Gfid) → lookup (is_at (gfid_cmp q)) fs ≡ cond (is_at (gfid_cmp gfid) q) (Some object) (lookup (is_at (gfid_cmp q)) es))
    → map.from_entries fs ≡ with_object now gfid object
put_at es fs now gfid object seen updates =
    insert_made gfid_cmp gfid_cmp_total gfid_exact es fs gfid object updates ∙ ap (λ (m : Files). with_object m gfid object) seen

pub edited_there : (es fs : Entries) (now : Files) (gfid : Gfid) (edit : Edit) (object new : FlatObject) → map.from_entries es ≡ now
    → Some object ≡ lookup (is_at (gfid_cmp gfid)) es
    → ((q : Gfid) → lookup (is_at (gfid_cmp q)) fs ≡ cond (is_at (gfid_cmp gfid) q) (Some new) (lookup (is_at (gfid_cmp q)) es))
    → new ≡ edited edit object → map.from_entries fs ≡ edited_at now gfid edit
edited_there es fs now gfid edit object new seen found updates made =
    put_at es fs now gfid new seen updates ∙ ap (λ (o : FlatObject). with_object now gfid o) made
    ∙ ap (λ (o : Option FlatObject). edited_in now gfid edit o) (found ∙ found_at es now gfid seen)

pub edited_nowhere : (es : Entries) (now : Files) (gfid : Gfid) (edit : Edit) → map.from_entries es ≡ now
    → None ≡ lookup (is_at (gfid_cmp gfid)) es → map.from_entries es ≡ edited_at now gfid edit
edited_nowhere es now gfid edit seen missing =
    seen ∙ ap (λ (o : Option FlatObject). edited_in now gfid edit o) (missing ∙ found_at es now gfid seen)

pub on_ok : {A B : Type 0} {P Q : Type 0} (r : Result A B) → OnOk r P → (P → Q) → OnOk r Q
on_ok (Ok a) p f = f p
on_ok (Err b) p f = record {}

pub there : (es : Entries) (gfid : Gfid) (object : FlatObject) → Some object ≡ lookup (is_at (gfid_cmp gfid)) es → IsSome (lookup (is_at (gfid_cmp gfid)) es)
there es gfid object found = sym (ap is_some found)

pub ok_as : {A B : Type 0} (P : Type 0) (r s : Result A B) → r ≡ s → OnOk s P → OnOk r P
ok_as P r s same p = subst (λ x. OnOk x P) (sym same) p
