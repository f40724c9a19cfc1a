-- Volumes that are those of a text but for line numbers have the form of a text's volumes.
use Rattle.std.proofs.Common.{◌≡◌, ℕ, ◌==◌, Bool, true, false, List, [], ◌∷◌, ◌++◌, length, None, refl, sym, ap, subst, ◌∙◌}
use Rattle.std.specs.List.{list_all}
use Rattle.volfile.specs.TextLines.{is_name}
use Rattle.volfile.specs.VolumeNames.{place_of}
use Rattle.volfile.specs.VolfileText.{is_defined}
use Rattle.volfile.specs.Volumes.{without_line, without_lines, IsVolfile, is_option, is_kind, IsBlock, AreVolumes}
use Rattle.volfile.specs.declared.volumes.Volume.{Volume}
use Rattle.volfile.specs.declared.volumes.Volfile.{Volfile}
use Rattle.volfile.proofs.WellRead.{parsed_whole}
use Rattle.volfile.proofs.ReadBack.{block_moved, without_append}

block_alike : (before : List Volume) (u v : Volume) → without_line u ≡ without_line v → IsBlock before u → IsBlock before v
block_alike before u v e h = record {
  name = subst (λ n. is_name n ≡ true) (ap (λ (w : Volume). w.name) e) h.name;
  fresh = subst (λ n. place_of n before ≡ None) (ap (λ (w : Volume). w.name) e) h.fresh;
  room = h.room;
  kind = subst (λ k. is_kind k ≡ true) (ap (λ (w : Volume). w.kind) e) h.kind;
  options = subst (λ os. list_all is_option os ≡ true) (ap (λ (w : Volume). w.options) e) h.options;
  names = subst (λ ns. list_all is_name ns ≡ true) (ap (λ (w : Volume). w.subvolumes) e) h.names;
  defined = subst (λ ns. list_all (is_defined before) ns ≡ true) (ap (λ (w : Volume). w.subvolumes) e) h.defined;
}

first_same : (u v : Volume) (us vs : List Volume) → ◌≡◌ {A = List Volume} (u ∷ us) (v ∷ vs) → (u ≡ v) × (us ≡ vs)
first_same u v us vs e = (cc, cc)

volumes_alike : (us vs before now : List Volume) → without_lines us ≡ without_lines vs → without_lines before ≡ without_lines now → AreVolumes before us → AreVolumes now vs
volumes_alike [] [] before now e b h = tt
volumes_alike [] (v ∷ vs) before now e b h = absurd cc
volumes_alike (u ∷ us) [] before now e b h = absurd cc
volumes_alike (u ∷ us) (v ∷ vs) before now e b h =
    let same = first_same (without_line u) (without_line v) (without_lines us) (without_lines vs) e in (
      block_alike now u v same.0 (block_moved before now u b h.0),
      subst (λ (k : List ℕ). (length k == 0) ≡ false) (ap (λ (w : Volume). w.kind) same.0) h.1,
      volumes_alike us vs (before ++ u ∷ []) (now ++ v ∷ []) same.1
          (without_append before (u ∷ []) ∙ ap (λ l. l ++ without_line u ∷ []) b ∙ ap (λ w. without_lines now ++ w ∷ []) same.0 ∙ sym (without_append now (v ∷ []))) h.2,
    )

pub each_volume : (v : Volfile) → IsVolfile v → AreVolumes [] v.volumes
each_volume v h = volumes_alike h.reads.said.volumes v.volumes [] [] h.reads.same refl (parsed_whole h.text h.reads.said h.reads.parsed).each
