-- What is printed is read back: each printed line is the statement that it was printed for.
use Rattle.std.proofs.Common.{◌≡◌, ℕ, suc, ◌==◌, ◌&&◌, ◌||◌, not, leb, Bool, true, false, cond, List, [], ◌∷◌, ◌++◌, append_assoc, append-nil, length, codes, flat_map, Option, Some, None, Ok, true≢false, refl, sym, ap, subst, ◌∙◌, arith}
use Rattle.std.specs.Prelude.{is_some}
use Rattle.std.specs.Option.{option_map}
use Rattle.std.proofs.lemmas.Bool.Decides.{nat_tests}
use Rattle.std.proofs.lemmas.List.Folds.{list_all-append}
use Rattle.std.specs.Cmp.{first_so, second_so}
use Rattle.std.specs.List.{list_all}
use Rattle.volfile.specs.TextLines.{is_name, is_name_byte, is_text, words_of, lines_of, line_after}
use Rattle.volfile.specs.VolumeNames.{place_of}
use Rattle.volfile.specs.VolfileText.{Reading, nothing_read, is_type, is_defined, statement, line_read, read_on, lines_read, volfile_of, parsed}
use Rattle.volfile.specs.VolfilePrint.{value_text, option_text, word_text, subvolumes_text, line_text, volume_text, volumes_text}
use Rattle.volfile.specs.Volumes.{without_line, without_lines, is_plain, is_plain_word, is_value_byte, is_option, is_kind, IsBlock, AreVolumes}
use Rattle.volfile.specs.declared.volumes.OptionLine.{OptionLine}
use Rattle.volfile.specs.declared.volumes.Volume.{Volume}
use Rattle.volfile.specs.declared.volumes.Volfile.{Volfile}
use Rattle.volfile.proofs.WellRead.{both_so, weaker, suc_some}
use Rattle.volfile.proofs.PrintedLines.{no_feed, is_clear, plain_clear, clear_feed, name_plain, lines_front, plain_bytes, words_front, words_last, are_plain, words_list, list_clear, clear_read, value_read, option_feed}

-- ---- texts that lead from one reading to another
abbrev pub Leads : List ℕ → Reading → ℕ → Reading → ℕ → Type 0
Leads text r n s m = (rest : List ℕ) → lines_read (lines_of (text ++ rest)) r n ≡ lines_read (lines_of rest) s m

leads_on : (t u : List ℕ) (r s q : Reading) (n m k : ℕ) → Leads t r n s m → Leads u s m q k → Leads (t ++ u) r n q k
leads_on t u r s q n m k f g = λ rest. ap (λ l. lines_read (lines_of l) r n) (append_assoc t u rest) ∙ f (u ++ rest) ∙ g rest

leads_line : (l : List ℕ) (r s : Reading) (n : ℕ) → list_all no_feed l ≡ true → line_read r (line_after n) l ≡ Ok s → Leads (l ++ 10 ∷ []) r n s (line_after n)
leads_line l r s n h e = λ rest.
    ap (λ t. lines_read (lines_of t) r n) (append_assoc l (10 ∷ []) rest) ∙ ap (λ ls. lines_read ls r n) (lines_front l rest h)
    ∙ ap (λ o. read_on o (line_after n) (λ s. lines_read (lines_of rest) s (line_after n))) e

-- a line of plain words
leads_words : (l : List ℕ) (ws : List (List ℕ)) (r s : Reading) (n : ℕ) → list_all is_clear l ≡ true → words_of l ≡ ws → statement r (line_after n) ws ≡ Ok s → Leads (l ++ 10 ∷ []) r n s (line_after n)
leads_words l ws r s n h is e = leads_line l r s n (weaker is_clear no_feed clear_feed l h) (clear_read r (line_after n) l h ∙ ap (statement r (line_after n)) is ∙ e)

-- a line of two words, the first with its space
leads_two : (first second : List ℕ) (r s : Reading) (n : ℕ) → is_plain_word first ≡ true → is_plain_word second ≡ true → statement r (line_after n) (first ∷ second ∷ []) ≡ Ok s
    → Leads (line_text (first ++ 32 ∷ []) second) r n s (line_after n)
unfolding line_text
leads_two first second r s n h k e =
    let l = first ++ 32 ∷ second in
    let clear : list_all is_clear l ≡ true =
    list_all-append is_clear first (32 ∷ second)
    ∙ both_so (list_all is_clear first) (list_all is_clear second) (weaker is_plain is_clear plain_clear first (plain_bytes first h)) (weaker is_plain is_clear plain_clear second (plain_bytes second k)) in
    let same : (first ++ 32 ∷ []) ++ second ≡ l = append_assoc first (32 ∷ []) second in
    let words : words_of l ≡ first ∷ second ∷ [] = words_front first second h ∙ ap (λ ws. first ∷ ws) (words_last second k) in
    subst (λ t. Leads (t ++ 10 ∷ []) r n s (line_after n)) (sym same) (leads_words l (first ∷ second ∷ []) r s n clear words e)

-- ---- the statements of a block
abbrev pub within : List Volume → Volume → Reading
within vs b = record { volumes = vs; block = Some b }

leads_option : (vs : List Volume) (b : Volume) (o : OptionLine) (n : ℕ) → is_option o ≡ true → Leads (option_text o) (within vs b) n (within vs (record b { options = b.options ++ o ∷ [] })) (line_after n)
unfolding option_text
leads_option vs b o n h =
    let key = first_so (is_plain_word o.key) (list_all is_value_byte o.value) h in
    let value = second_so (is_plain_word o.key) (list_all is_value_byte o.value) h in
    let l = (codes "option " ++ o.key ++ 32 ∷ []) ++ value_text o.value in
    let same : codes "option " ++ o.key ++ 32 ∷ value_text o.value ≡ l = sym (append_assoc (codes "option " ++ o.key) (32 ∷ []) (value_text o.value)) in
    subst (λ t. Leads (t ++ 10 ∷ []) (within vs b) n (within vs (record b { options = b.options ++ o ∷ [] })) (line_after n)) (sym same)
    (leads_line l (within vs b) (within vs (record b { options = b.options ++ o ∷ [] })) n (option_feed o.key o.value key value) (value_read (within vs b) (line_after n) o.key o.value key value))

-- the number of the line so many lines on
abbrev pub lines_after : List OptionLine → ℕ → ℕ
lines_after [] n = n
lines_after (o ∷ os) n = lines_after os (line_after n)

leads_options : (os : List OptionLine) (vs : List Volume) (b : Volume) (n : ℕ) → list_all is_option os ≡ true
    → Leads (flat_map option_text os) (within vs b) n (within vs (record b { options = b.options ++ os })) (lines_after os n)
leads_options [] vs b n h = λ rest. ap (λ l. lines_read (lines_of rest) (within vs (record b { options = l })) n) (sym (append-nil b.options))
leads_options (o ∷ os) vs b n h =
    let c : Volume = record b { options = b.options ++ o ∷ [] } in
    let first = leads_option vs b o n (first_so (is_option o) (list_all is_option os) h) in
    let later = leads_options os vs c (line_after n) (second_so (is_option o) (list_all is_option os) h) in
    let whole : (b.options ++ o ∷ []) ++ os ≡ b.options ++ o ∷ os = append_assoc b.options (o ∷ []) os in
    subst (λ l. Leads (option_text o ++ flat_map option_text os) (within vs b) n (within vs (record b { options = l })) (lines_after os (line_after n))) whole
    (leads_on (option_text o) (flat_map option_text os) (within vs b) (within vs c) (within vs (record b { options = (b.options ++ o ∷ []) ++ os })) n (line_after n) (lines_after os (line_after n)) first later)

pub name_word : (w : List ℕ) → is_name w ≡ true → is_plain_word w ≡ true
name_word w h =
    let size = first_so (leb 1 (length w) && leb (length w) 64) (list_all is_name_byte w) h in
    both_so (not (length w == 0)) (list_all is_plain w) (some (length w) (first_so (leb 1 (length w)) (leb (length w) 64) size)) (weaker is_name_byte is_plain name_plain w (second_so (leb 1 (length w) && leb (length w) 64) (list_all is_name_byte w) h))
  where
    some : (n : ℕ) → leb 1 n ≡ true → not (n == 0) ≡ true
    some n h = grind (arith, nat_tests)

names_plain : (ws : List (List ℕ)) → list_all is_name ws ≡ true → are_plain ws ≡ true
names_plain [] h = refl
names_plain (w ∷ ws) h =
    both_so (is_plain_word w) (are_plain ws) (name_word w (first_so (is_name w) (list_all is_name ws) h)) (names_plain ws (second_so (is_name w) (list_all is_name ws) h))

-- what the line of subvolumes leads to
leads_subvolumes : (names : List (List ℕ)) (vs : List Volume) (b : Volume) (n : ℕ) → b.subvolumes ≡ [] → list_all is_name names ≡ true → list_all (is_defined vs) names ≡ true
    → (m : ℕ) × Leads (subvolumes_text names) (within vs b) n (within vs (record b { subvolumes = names })) m
unfolding subvolumes_text
leads_subvolumes [] vs b n none named known = (n, λ rest. ap (λ l. lines_read (lines_of rest) (within vs (record b { subvolumes = l })) n) none)
leads_subvolumes (name ∷ names) vs b n none named known =
    let plain = names_plain (name ∷ names) named in
    let l = codes "subvolumes" ++ flat_map word_text (name ∷ names) in
    let clear : list_all is_clear l ≡ true = list_clear (name ∷ names) plain in
    let words : words_of l ≡ codes "subvolumes" ∷ name ∷ names = words_list (name ∷ names) (codes "subvolumes") refl plain in
    (line_after n, leads_words l (codes "subvolumes" ∷ name ∷ names) (within vs b) (within vs (record b { subvolumes = name ∷ names })) n clear words (said b.subvolumes none))
  where
    said : (l : List (List ℕ)) → l ≡ [] → statement (within vs b) (line_after n) (codes "subvolumes" ∷ name ∷ names) ≡ Ok (within vs (record b { subvolumes = name ∷ names }))
    said l e = rw none (rw (suc_some (length names)) (rw named (rw known refl)))

pub kind_of : (w : List ℕ) → (length w == 0) ≡ false → is_kind w ≡ true → (is_type w ≡ true) × (is_plain_word w ≡ true)
kind_of w typed h =
    let so = other (length w == 0) (is_type w && is_plain_word w) typed h in
    (first_so (is_type w) (is_plain_word w) so, second_so (is_type w) (is_plain_word w) so)
  where
    other : (a b : Bool) → a ≡ false → (a || b) ≡ true → b ≡ true
    other true b f h = absurd cc
    other false b f h = h

end_line : (r s : Reading) (n : ℕ) → statement r (line_after n) (codes "end-volume" ∷ []) ≡ Ok s → Leads (line_text (codes "end-volume") []) r n s (line_after n)
unfolding line_text
end_line r s n e = leads_words (codes "end-volume") (codes "end-volume" ∷ []) r s n refl refl e

-- a whole volume
leads_volume : (v : Volume) (vs : List Volume) (n : ℕ) → IsBlock vs v → (length v.kind == 0) ≡ false
    → (k : ℕ) × (m : ℕ) × Leads (volume_text v) (record { volumes = vs; block = None }) n (record { volumes = vs ++ record v { line = k } ∷ []; block = None }) m
unfolding volume_text
leads_volume v vs n h typed =
    let a = line_after n in
    let b : Volume = record { line = a; name = v.name; kind = []; options = []; subvolumes = [] } in
    let c : Volume = record { line = a; name = v.name; kind = v.kind; options = []; subvolumes = [] } in
    let d : Volume = record { line = a; name = v.name; kind = v.kind; options = v.options; subvolumes = [] } in
    let e : Volume = record { line = a; name = v.name; kind = v.kind; options = v.options; subvolumes = v.subvolumes } in
    let start : Reading = record { volumes = vs; block = None } in
    let done : Reading = record { volumes = vs ++ e ∷ []; block = None } in
    let began : statement start a (codes "volume" ∷ v.name ∷ []) ≡ Ok (within vs b) = rw h.name (rw h.fresh (rw h.room refl)) in
    let first : Leads (line_text (codes "volume ") v.name) start n (within vs b) a = leads_two (codes "volume") v.name start (within vs b) n refl (name_word v.name h.name) began in
    let kind = kind_of v.kind typed h.kind in
    let given : statement (within vs b) (line_after a) (codes "type" ∷ v.kind ∷ []) ≡ Ok (within vs c) = rw kind.0 refl in
    let second : Leads (line_text (codes "type ") v.kind) (within vs b) a (within vs c) (line_after a) = leads_two (codes "type") v.kind (within vs b) (within vs c) a refl kind.1 given in
    let f = lines_after v.options (line_after a) in
    let third : Leads (flat_map option_text v.options) (within vs c) (line_after a) (within vs d) f = leads_options v.options vs c (line_after a) h.options in
    let fourth = leads_subvolumes v.subvolumes vs d f refl h.names h.defined in
    let m = fourth.0 in
    let ended : statement (within vs e) (line_after m) (codes "end-volume" ∷ []) ≡ Ok done = rw typed refl in
    let fifth : Leads (line_text (codes "end-volume") []) (within vs e) m done (line_after m) = end_line (within vs e) done m ended in (
      a,
      line_after m,
      leads_on (line_text (codes "volume ") v.name ++ line_text (codes "type ") v.kind ++ flat_map option_text v.options ++ subvolumes_text v.subvolumes) (line_text (codes "end-volume") []) start (within vs e) done n m (line_after m)
          (leads_on (line_text (codes "volume ") v.name ++ line_text (codes "type ") v.kind ++ flat_map option_text v.options) (subvolumes_text v.subvolumes) start (within vs d) (within vs e) n f m
          (leads_on (line_text (codes "volume ") v.name ++ line_text (codes "type ") v.kind) (flat_map option_text v.options) start (within vs c) (within vs d) n (line_after a) f
          (leads_on (line_text (codes "volume ") v.name) (line_text (codes "type ") v.kind) start (within vs b) (within vs c) n a (line_after a) first second)
          third)
          fourth.1)
          fifth,
    )

-- ---- the same but for line numbers
pub without_append : (vs ws : List Volume) → without_lines (vs ++ ws) ≡ without_lines vs ++ without_lines ws
without_append [] ws = refl
without_append (v ∷ vs) ws = ap (λ l. without_line v ∷ l) (without_append vs ws)

place_bare : (vs : List Volume) (q : List ℕ) → place_of q (without_lines vs) ≡ place_of q vs
place_bare [] q = refl
place_bare (v ∷ vs) q = ap (λ (t : Option ℕ). cond (is_text q v.name) (Some 0) (option_map suc t)) (place_bare vs q)

length_bare : (vs : List Volume) → length (without_lines vs) ≡ length vs
length_bare [] = refl
length_bare (v ∷ vs) = ap suc (length_bare vs)

same_place : (vs ws : List Volume) → without_lines vs ≡ without_lines ws → (q : List ℕ) → place_of q vs ≡ place_of q ws
same_place vs ws e q = sym (place_bare vs q) ∙ ap (place_of q) e ∙ place_bare ws q

all_same : (p q : List ℕ → Bool) → ((w : List ℕ) → p w ≡ q w) → (ws : List (List ℕ)) → list_all p ws ≡ list_all q ws
all_same p q e [] = refl
all_same p q e (w ∷ ws) = ap (λ t. t && list_all p ws) (e w) ∙ ap (λ t. q w && t) (all_same p q e ws)

pub block_moved : (before now : List Volume) (v : Volume) → without_lines before ≡ without_lines now → IsBlock before v → IsBlock now v
block_moved before now v e h = record {
  name = h.name;
  fresh = sym (same_place before now e v.name) ∙ h.fresh;
  room = ap (leb 256) (sym (length_bare now) ∙ ap length (sym e) ∙ length_bare before) ∙ h.room;
  kind = h.kind;
  options = h.options;
  names = h.names;
  defined = all_same (is_defined now) (is_defined before) (λ w. ap is_some (sym (same_place before now e w))) v.subvolumes ∙ h.defined;
}

volumes_moved : (vs before now : List Volume) → without_lines before ≡ without_lines now → AreVolumes before vs → AreVolumes now vs
volumes_moved [] before now e h = tt
volumes_moved (v ∷ vs) before now e h = (
  block_moved before now v e h.0,
  h.1,
  volumes_moved vs (before ++ v ∷ []) (now ++ v ∷ []) (without_append before (v ∷ []) ∙ ap (λ l. l ++ without_line v ∷ []) e ∙ sym (without_append now (v ∷ []))) h.2,
)

-- ---- all volumes
leads_volumes : (vs now : List Volume) (n : ℕ) → AreVolumes now vs
    → (after : List Volume) × (m : ℕ) × (without_lines after ≡ without_lines vs) × Leads (volumes_text vs) (record { volumes = now; block = None }) n (record { volumes = now ++ after; block = None }) m
leads_volumes [] now n h = ([], n, refl, λ rest. ap (λ l. lines_read (lines_of rest) (record { volumes = l; block = None }) n) (sym (append-nil now)))
leads_volumes (v ∷ vs) now n h =
    let first = leads_volume v now n h.0 h.1 in
    let w : Volume = record v { line = first.0 } in
    let same : without_lines (now ++ v ∷ []) ≡ without_lines (now ++ w ∷ []) = without_append now (v ∷ []) ∙ sym (without_append now (w ∷ [])) in
    let later = leads_volumes vs (now ++ w ∷ []) first.1 (volumes_moved vs (now ++ v ∷ []) (now ++ w ∷ []) same h.2) in (
      w ∷ later.0,
      later.1,
      ap (λ l. without_line v ∷ l) later.2,
      subst (λ l. Leads (volume_text v ++ volumes_text vs) (record { volumes = now; block = None }) n (record { volumes = l; block = None }) later.1) (append_assoc now (w ∷ []) later.0)
          (leads_on (volume_text v) (volumes_text vs) (record { volumes = now; block = None }) (record { volumes = now ++ w ∷ []; block = None }) (record { volumes = (now ++ w ∷ []) ++ later.0; block = None })
          n first.1 later.1 first.2 later.3),
    )

-- what is printed is a text of the same volumes
pub read_back : (vs : List Volume) → AreVolumes [] vs → (length vs == 0) ≡ false → (w : Volfile) × (parsed (volumes_text vs) ≡ Ok w) × (without_lines w.volumes ≡ without_lines vs)
read_back vs h some =
    let all = leads_volumes vs [] 0 h in
    let whole : parsed (volumes_text vs) ≡ volfile_of all.0 all.1 = ap (λ l. lines_read (lines_of l) nothing_read 0) (sym (append-nil (volumes_text vs))) ∙ all.3 [] in
    by_some all.0 all.1 all.2 whole
  where
    by_some : (after : List Volume) (m : ℕ) → without_lines after ≡ without_lines vs → parsed (volumes_text vs) ≡ volfile_of after m → (w : Volfile) × (parsed (volumes_text vs) ≡ Ok w) × (without_lines w.volumes ≡ without_lines vs)
    by_some [] m same e =
        let none : length vs ≡ 0 = sym (length_bare vs) ∙ ap length (sym same) in
        absurd (true≢false (sym (ap (λ n. n == 0) none) ∙ some))
    by_some (u ∷ us) m same e = (record { volumes = u ∷ us }, e, same)

-- line numbers are not printed
text_bare : (vs : List Volume) → volumes_text (without_lines vs) ≡ volumes_text vs
unfolding volume_text
text_bare [] = refl
text_bare (v ∷ vs) = ap (λ l. volume_text v ++ l) (text_bare vs)

pub same_text : (vs ws : List Volume) → without_lines vs ≡ without_lines ws → volumes_text vs ≡ volumes_text ws
same_text vs ws e = sym (text_bare vs) ∙ ap volumes_text e ∙ text_bare ws
