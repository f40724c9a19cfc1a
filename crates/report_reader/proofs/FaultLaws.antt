-- I/O errors are read exactly, up to the end of the line.
use Rattle.std.proofs.Common.{◌≡◌, ℕ, zero, suc, ◌<◌, ◌≤◌, Bool, true, false, cond, List, [], ◌∷◌, ◌++◌, append_assoc, append-nil, length, length-append, codes, Option, Some, None, Result, Ok, Err, decimal, refl, sym, ap, subst, ◌∙◌, arith}
use Rattle.xl_base.specs.Words.{decimal_of}
use Rattle.volfile.specs.TextLines.{is_text}
use Rattle.volfile.proofs.Places.{same_word}
use Rattle.fop_types.specs.Bounds.{Each, IsUnit, IsHyper, IsCell}
use Rattle.fop_types.specs.declared.cells.Cell.{Cell}
use Rattle.report_text.specs.Words.{numbers_text}
use Rattle.report_text.specs.AnswerText.{present_word}
use Rattle.report_text.specs.declared.faults.ReportIo.{ReportIo}
use Rattle.report_text.specs.declared.faults.ReportIo.TheVariants.{Quorum, Split, Fault}
use Rattle.report_text.specs.declared.faults.ReportRow.{ReportRow}
use Rattle.report_reader.specs.Reports.{IsName, IsLost, IsFailed, IsRow}
use Rattle.report_reader.specs.declared.bad.Bad.{Bad}
use Rattle.report_reader.specs.declared.bad.Bad.TheVariants.{Line}
use Rattle.report_reader.specs.code.Readers.{Reader, after, after_all, chain, form_at, behind, each_word}
use Rattle.report_reader.specs.code.Forms.{unit_of, name_at, failed_of, lost_of, counters_of}
use Rattle.report_reader.specs.code.AnswerForms.{quorum_made, quorum_of, row_made, counts_at, row_at, rows_made, rows_in, rows_of, rows_onto, split_made, split_of, Failures, losses_made, losses_of, with_fault, failures_of, fault_made, fault_of, input_output_of}
use Rattle.report_reader.proofs.Laws.{IsFirst, IsAll, not_some, not_ok, ok_is, ok_pair, form_law, behind_all, behind_first, chain_law, last_law, each_law, words_each}
use Rattle.report_reader.proofs.NumberLaws.{unit_law, hyper_law}
use Rattle.report_reader.proofs.WordLaws.{presence_law, name_law, cell_law, lost_law, failed_law, counters_law}
use Rattle.report_reader.proofs.LineWords.{brick_word, row_words, rows_words, losses_words, failures_words, quorum_words}

-- a brick's word is not `lost`, since it has a number
fault_not_lost : (b : List ℕ × ℕ) → IsFailed b → is_text (brick_word b) (codes "lost") ≡ false
fault_not_lost b h = by (is_text (brick_word b) (codes "lost")) refl
  where
    by : (t : Bool) → is_text (brick_word b) (codes "lost") ≡ t → t ≡ false
    by false is = refl
    by true is = absurd (not_some b (sym (ap failed_of (same_word (brick_word b) (codes "lost") is)) ∙ failed_law.takes b h))

-- ---- quorum SET lost BRICK:CONN ..
abbrev pub io_set : ReportIo → List ℕ
io_set (Quorum set lost) = set
io_set (Split set rows) = set
io_set (Fault set faults lost) = set

abbrev pub quorum_lost : ReportIo → List (List ℕ × ℕ)
quorum_lost (Quorum set lost) = lost
quorum_lost (Split set rows) = []
quorum_lost (Fault set faults lost) = []

abbrev pub IsQuorum : ReportIo → Type 0
IsQuorum (Quorum set lost) = Unit {0}
IsQuorum (Split set rows) = ⊥
IsQuorum (Fault set faults lost) = ⊥

quorum_only : (set : List ℕ) (y : ReportIo) → IsQuorum y × (io_set y ≡ set) → Quorum set (quorum_lost y) ≡ y
quorum_only set (Quorum s lost) k = ap (λ (l : List ℕ). Quorum l lost) (sym k.1)
quorum_only set (Split s rows) k = absurd k.0
quorum_only set (Fault s faults lost) k = absurd k.0

pub quorum_law : IsAll (λ y. (IsName (io_set y) × Each IsLost (quorum_lost y)) × IsQuorum y) (λ y. quorum_words (io_set y) (quorum_lost y)) quorum_of
quorum_law = behind_all (codes "quorum") (chain_law io_set IsQuorum (λ y. Each IsLost (quorum_lost y)) (λ y. codes "lost" ∷ words_each brick_word (quorum_lost y)) (form_law name_law) (λ set k. at_set set))
  where
    at_set : (set : List ℕ) → IsAll (λ y. Each IsLost (quorum_lost y) × (IsQuorum y × (io_set y ≡ set))) (λ y. codes "lost" ∷ words_each brick_word (quorum_lost y)) (behind (codes "lost") (λ us. quorum_made set (each_word lost_of us)))
    at_set set = behind_all (codes "lost") (last_law quorum_lost (λ lost. Quorum set lost) (λ y. IsQuorum y × (io_set y ≡ set)) (quorum_made set) (λ a. refl) (λ bad. refl) (λ a. refl) (λ a. (tt, refl)) (quorum_only set) (each_law lost_law))

-- ---- rows
chain_first : {A D : Type 0} {LA : A → Type 0} {wA : A → List (List ℕ)} {rA : Reader A} {rB : A → Reader D} (part : D → A) (Known More : D → Type 0) (wB : D → List (List ℕ))
    → IsFirst LA wA rA → ((a : A) → LA a → IsFirst (λ y. More y × (Known y × (part y ≡ a))) wB (rB a)) → IsFirst (λ y. (LA (part y) × More y) × Known y) (λ y. wA (part y) ++ wB y) (chain rA rB)
chain_first {A = A} {D = D} {LA = LA} {wA = wA} {rA = rA} {rB = rB} part Known More wB la lb = record {
  takes = λ y rest h.
      ap (λ (l : List (List ℕ)). after rB (rA l)) (append_assoc (wA (part y)) (wB y) rest)
      ∙ ap (after rB) (la.takes (part y) (wB y ++ rest) h.0.0) ∙ (lb (part y) h.0.0).takes y rest (h.0.1, (h.1, refl));
  again = λ ws rest y e. again ws rest y (rA ws) refl e;
}
  where
    again : (ws rest : List (List ℕ)) (y : D) (r : Result (A × List (List ℕ)) Bad) → rA ws ≡ r → after rB r ≡ Ok (y, rest) → ((LA (part y) × More y) × Known y) × (ws ≡ (wA (part y) ++ wB y) ++ rest)
    again ws rest y (Err bad) is e = absurd (not_ok bad (y, rest) e)
    again ws rest y (Ok p) is e =
        let a = la.again ws p.1 p.0 is in
        let b = (lb p.0 a.0).again p.1 rest y e in
        let same : p.0 ≡ part y = sym b.0.1.1 in (
          ((subst LA same a.0, b.0.0), b.0.1.0),
          a.1 ∙ ap (λ (l : List (List ℕ)). wA p.0 ++ l) b.1 ∙ ap (λ (x : A). wA x ++ (wB y ++ rest)) same ∙ sym (append_assoc (wA (part y)) (wB y) rest),
        )

made_law : {D : Type 0} (v : D) (Known : D → Type 0) → Known v → ((y : D) → Known y → y ≡ v) → IsFirst (λ y. Unit {0} × Known y) (λ y. []) (λ ws. Ok (v, ws))
made_law v Known holds only = record {
  takes = λ y rest h. ap (λ z. Ok (z, rest)) (sym (only y h.1));
  again = λ ws rest y e. let p = ok_pair v y ws rest e in ((tt, subst Known p.0 holds), p.1);
}

abbrev pub RowK2 : Cell → List ℕ → ReportRow → Type 0
RowK2 cell brick r = (Unit {0} × (r.cell ≡ cell)) × (r.brick ≡ brick)

abbrev pub RowK3 : Cell → List ℕ → Bool → ReportRow → Type 0
RowK3 cell brick present r = RowK2 cell brick r × (r.present ≡ present)

abbrev pub RowK4 : Cell → List ℕ → Bool → ℕ → ReportRow → Type 0
RowK4 cell brick present dirty r = RowK3 cell brick present r × (r.dirty ≡ dirty)

abbrev pub RowK5 : Cell → List ℕ → Bool → ℕ → List ℕ → ReportRow → Type 0
RowK5 cell brick present dirty pending r = RowK4 cell brick present dirty r × (r.pending ≡ pending)

abbrev pub AreCounted : ReportRow → Type 0
AreCounted r = ((1 ≤ length r.pending) × Each IsUnit r.pending) × (length r.pending ≤ 5)

abbrev pub RowMore5 : ReportRow → Type 0
RowMore5 r = IsHyper r.last × Unit {0}

abbrev pub RowMore4 : ReportRow → Type 0
RowMore4 r = AreCounted r × RowMore5 r

abbrev pub RowMore3 : ReportRow → Type 0
RowMore3 r = IsUnit r.dirty × RowMore4 r

abbrev pub RowMore2 : ReportRow → Type 0
RowMore2 r = Unit {0} × RowMore3 r

abbrev pub RowMore1 : ReportRow → Type 0
RowMore1 r = IsName r.brick × RowMore2 r

abbrev pub row_words2 : ReportRow → List (List ℕ)
row_words2 r = present_word r.present ∷ decimal r.dirty ∷ numbers_text r.pending ∷ decimal r.last ∷ []

first_again : {A : Type 0} {P Q : A → Type 0} {words : A → List (List ℕ)} {read : Reader A} → ((a : A) → P a → Q a) → ((a : A) → Q a → P a) → IsFirst P words read → IsFirst Q words read
first_again into from law = record { takes = λ a rest h. law.takes a rest (from a h); again = λ ws rest a e. let g = law.again ws rest a e in (into a g.0, g.1) }

pub row_law : IsFirst IsRow row_words row_at
row_law = first_again into from (behind_first (codes "row") (chain_first (λ (r : ReportRow). r.cell) (λ r. Unit {0}) RowMore1 (λ r. r.brick ∷ row_words2 r) (form_law cell_law) (λ cell k. at_cell cell)))
  where
    into : (r : ReportRow) → (IsCell r.cell × RowMore1 r) × Unit {0} → IsRow r
    into r k = let m = k.0.1 in
        record { cell = k.0.0; brick = m.0; dirty = m.1.1.0; some = m.1.1.1.0.0.0; few = m.1.1.1.0.1; pending = m.1.1.1.0.0.1; last = m.1.1.1.1.0 }

    from : (r : ReportRow) → IsRow r → (IsCell r.cell × RowMore1 r) × Unit {0}
    from r k = ((k.cell, (k.brick, (tt, (k.dirty, (((k.some, k.pending), k.few), (k.last, tt)))))), tt)

    at_last : (cell : Cell) (brick : List ℕ) (present : Bool) (dirty : ℕ) (pending : List ℕ) (last : ℕ)
        → IsFirst (λ (r : ReportRow). Unit {0} × (RowK5 cell brick present dirty pending r × (r.last ≡ last))) (λ r. []) (λ ws. Ok (row_made cell brick present dirty pending last, ws))
    at_last cell brick present dirty pending last =
        made_law (row_made cell brick present dirty pending last) (λ r. RowK5 cell brick present dirty pending r × (r.last ≡ last)) ((((((tt, refl), refl), refl), refl), refl), refl)
        (λ r e. λ i. record { cell = e.0.0.0.0.0.1 i; brick = e.0.0.0.0.1 i; present = e.0.0.0.1 i; dirty = e.0.0.1 i; pending = e.0.1 i; last = e.1 i })

    at_pending : (cell : Cell) (brick : List ℕ) (present : Bool) (dirty : ℕ) (pending : List ℕ)
        → IsFirst (λ (r : ReportRow). RowMore5 r × (RowK4 cell brick present dirty r × (r.pending ≡ pending))) (λ r. decimal r.last ∷ []) (chain (form_at decimal_of) (λ last ws. Ok (row_made cell brick present dirty pending last, ws)))
    at_pending cell brick present dirty pending = chain_first (λ (r : ReportRow). r.last) (RowK5 cell brick present dirty pending) (λ r. Unit {0}) (λ r. []) (form_law hyper_law) (λ last k. at_last cell brick present dirty pending last)

    at_dirty : (cell : Cell) (brick : List ℕ) (present : Bool) (dirty : ℕ)
        → IsFirst (λ (r : ReportRow). RowMore4 r × (RowK3 cell brick present r × (r.dirty ≡ dirty))) (λ r. numbers_text r.pending ∷ decimal r.last ∷ [])
        (chain (form_at counters_of) (λ pending. chain (form_at decimal_of) (λ last ws. Ok (row_made cell brick present dirty pending last, ws))))
    at_dirty cell brick present dirty = chain_first (λ (r : ReportRow). r.pending) (RowK4 cell brick present dirty) RowMore5 (λ r. decimal r.last ∷ []) (form_law counters_law) (λ pending k. at_pending cell brick present dirty pending)

    at_present : (cell : Cell) (brick : List ℕ) (present : Bool)
        → IsFirst (λ (r : ReportRow). RowMore3 r × (RowK2 cell brick r × (r.present ≡ present))) (λ r. decimal r.dirty ∷ numbers_text r.pending ∷ decimal r.last ∷ [])
        (chain (form_at unit_of) (λ dirty. chain (form_at counters_of) (λ pending. chain (form_at decimal_of) (λ last ws. Ok (row_made cell brick present dirty pending last, ws)))))
    at_present cell brick present = chain_first (λ (r : ReportRow). r.dirty) (RowK3 cell brick present) RowMore4 (λ r. numbers_text r.pending ∷ decimal r.last ∷ []) (form_law unit_law) (λ dirty k. at_dirty cell brick present dirty)

    at_brick : (cell : Cell) (brick : List ℕ) → IsFirst (λ (r : ReportRow). RowMore2 r × ((Unit {0} × (r.cell ≡ cell)) × (r.brick ≡ brick))) row_words2 (counts_at cell brick)
    at_brick cell brick = chain_first (λ (r : ReportRow). r.present) (RowK2 cell brick) RowMore3 (λ r. decimal r.dirty ∷ numbers_text r.pending ∷ decimal r.last ∷ []) (form_law presence_law) (λ present k. at_present cell brick present)

    at_cell : (cell : Cell) → IsFirst (λ (r : ReportRow). RowMore1 r × (Unit {0} × (r.cell ≡ cell))) (λ r. r.brick ∷ row_words2 r) (chain (form_at name_at) (λ brick. counts_at cell brick))
    at_cell cell = chain_first (λ (r : ReportRow). r.brick) (λ r. Unit {0} × (r.cell ≡ cell)) RowMore2 row_words2 (form_law name_law) (λ brick k. at_brick cell brick)

-- a row takes words, so the loop over rows ends
pub row_shorter : (ws rest : List (List ℕ)) (row : ReportRow) → row_at ws ≡ Ok (row, rest) → length rest < length ws
row_shorter ws rest row e = let g = row_law.again ws rest row e in omega (arith, ap length g.1, length-append (row_words row) rest)

-- ---- faults and losses
pub failures_law : IsAll (λ (p : Failures). Each IsFailed p.0 × Each IsLost p.1) (λ p. failures_words p.0 p.1) failures_of
failures_law = record { takes = λ p h. takes p.0 p.1 h.0 h.1; again = again }
  where
    losses : (b : List ℕ × ℕ) (bs : List (List ℕ × ℕ)) → Each IsLost (b ∷ bs) → failures_of (losses_words (b ∷ bs)) ≡ Ok ([], b ∷ bs)
    losses b bs h = ap losses_made ((each_law lost_law).takes (b ∷ bs) h)

    takes : (faults lost : List (List ℕ × ℕ)) → Each IsFailed faults → Each IsLost lost → failures_of (failures_words faults lost) ≡ Ok (faults, lost)
    takes [] [] h k = refl
    takes [] (b ∷ bs) h k = losses b bs k
    takes (f ∷ fs) lost h k =
        let rest = failures_words fs lost in
        ap (λ t. cond t (losses_of rest) (with_fault (failed_of (brick_word f)) (failures_of rest))) (fault_not_lost f h.0)
        ∙ ap (λ (o : Option (List ℕ × ℕ)). with_fault o (failures_of rest)) (failed_law.takes f h.0) ∙ ap (with_fault (Some f)) (takes fs lost h.1 k)

    lost_again : (ws : List (List ℕ)) (p : Failures) → losses_of ws ≡ Ok p → (Each IsFailed p.0 × Each IsLost p.1) × ◌≡◌ {A = List (List ℕ)} (codes "lost" ∷ ws) (failures_words p.0 p.1)
    lost_again [] p e = absurd (not_ok Line p e)
    lost_again (w ∷ ws) p e = by (each_word lost_of (w ∷ ws)) refl e
      where
        some : (lost : List (List ℕ × ℕ)) → (w ∷ ws) ≡ words_each brick_word lost → ◌≡◌ {A = List (List ℕ)} (codes "lost" ∷ w ∷ ws) (losses_words lost)
        some [] is = absurd cc
        some (b ∷ bs) is = ap (λ l. codes "lost" ∷ l) is

        by : (r : Result (List (List ℕ × ℕ)) Bad) → each_word lost_of (w ∷ ws) ≡ r → losses_made r ≡ Ok p → (Each IsFailed p.0 × Each IsLost p.1) × ◌≡◌ {A = List (List ℕ)} (codes "lost" ∷ w ∷ ws) (failures_words p.0 p.1)
        by (Err bad) is e = absurd (not_ok bad p e)
        by (Ok lost) is e =
            let g = (each_law lost_law).again (w ∷ ws) lost is in
            subst (λ (q : Failures). (Each IsFailed q.0 × Each IsLost q.1) × ◌≡◌ {A = List (List ℕ)} (codes "lost" ∷ w ∷ ws) (failures_words q.0 q.1)) (ok_is ([], lost) p e) ((tt, g.0), some lost g.1)

    again : (ws : List (List ℕ)) (p : Failures) → failures_of ws ≡ Ok p → (Each IsFailed p.0 × Each IsLost p.1) × (ws ≡ failures_words p.0 p.1)
    again [] p e = subst (λ (q : Failures). (Each IsFailed q.0 × Each IsLost q.1) × ([] ≡ failures_words q.0 q.1)) (ok_is ([], []) p e) ((tt, tt), refl)
    again (w ∷ ws) p e = by (is_text w (codes "lost")) refl e (λ q k. again ws q k)
      where
        Next : Type 0
        Next = (q : Failures) → failures_of ws ≡ Ok q → (Each IsFailed q.0 × Each IsLost q.1) × (ws ≡ failures_words q.0 q.1)

        fault : (o : Option (List ℕ × ℕ)) (r : Result Failures Bad) → failed_of w ≡ o → failures_of ws ≡ r → with_fault o r ≡ Ok p → Next → (Each IsFailed p.0 × Each IsLost p.1) × ◌≡◌ {A = List (List ℕ)} (w ∷ ws) (failures_words p.0 p.1)
        fault None r is was e next = absurd (not_ok Line p e)
        fault (Some f) (Err bad) is was e next = absurd (not_ok bad p e)
        fault (Some f) (Ok q) is was e next =
            let g = failed_law.again w f is in
            let h = next q was in
            subst (λ (x : Failures). (Each IsFailed x.0 × Each IsLost x.1) × ◌≡◌ {A = List (List ℕ)} (w ∷ ws) (failures_words x.0 x.1)) (ok_is (f ∷ q.0, q.1) p e)
            (((g.0, h.0.0), h.0.1), ap (λ v. v ∷ ws) g.1 ∙ ap (λ vs. brick_word f ∷ vs) h.1)

        by : (t : Bool) → is_text w (codes "lost") ≡ t → cond t (losses_of ws) (with_fault (failed_of w) (failures_of ws)) ≡ Ok p → Next → (Each IsFailed p.0 × Each IsLost p.1) × ◌≡◌ {A = List (List ℕ)} (w ∷ ws) (failures_words p.0 p.1)
        by true is e next = let g = lost_again ws p e in (g.0, ap (λ v. v ∷ ws) (same_word w (codes "lost") is) ∙ g.1)
        by false is e next = fault (failed_of w) (failures_of ws) refl refl e next

-- ---- all rows
rows_some : (row : ReportRow) (rows : List ReportRow) → suc (length (rows_words rows)) ≤ length (rows_words (row ∷ rows))
rows_some row rows = omega (arith, length-append (row_words row) (rows_words rows))

-- so many words have room for their rows
rows_take : (k : ℕ) (rows : List ReportRow) → length (rows_words rows) ≤ k → Each IsRow rows → rows_in k (rows_words rows) ≡ Ok rows
rows_take zero [] few h = refl
rows_take (suc k) [] few h = refl
rows_take zero (row ∷ rows) few h = absurd (omega (arith, few, rows_some row rows))
rows_take (suc k) (row ∷ rows) few h =
    ap (after_all (λ x us. rows_made x (rows_in k us))) (row_law.takes row (rows_words rows) h.0)
    ∙ ap (rows_made row) (rows_take k rows (omega (arith, few, rows_some row rows)) h.1)

rows_again : (k : ℕ) (ws : List (List ℕ)) (rows : List ReportRow) → length ws ≤ k → rows_in k ws ≡ Ok rows → Each IsRow rows × (ws ≡ rows_words rows)
rows_again zero [] rows few e = subst (λ (l : List ReportRow). Each IsRow l × ([] ≡ rows_words l)) (ok_is [] rows e) (tt, refl)
rows_again (suc k) [] rows few e = subst (λ (l : List ReportRow). Each IsRow l × ([] ≡ rows_words l)) (ok_is [] rows e) (tt, refl)
rows_again zero (w ∷ ws) rows few e = absurd (omega (arith, few))
rows_again (suc k) (w ∷ ws) rows few e = first (row_at (w ∷ ws)) refl e (λ us more j f. rows_again k us more j f)
  where
    Next : Type 0
    Next = (us : List (List ℕ)) (more : List ReportRow) → length us ≤ k → rows_in k us ≡ Ok more → Each IsRow more × (us ≡ rows_words more)

    later : (row : ReportRow) (us : List (List ℕ)) (r : Result (List ReportRow) Bad) → row_at (w ∷ ws) ≡ Ok (row, us) → rows_in k us ≡ r → rows_made row r ≡ Ok rows → Next
        → Each IsRow rows × ◌≡◌ {A = List (List ℕ)} (w ∷ ws) (rows_words rows)
    later row us (Err bad) is was e next = absurd (not_ok bad rows e)
    later row us (Ok more) is was e next =
        let g = row_law.again (w ∷ ws) us row is in
        let h = next us more (omega (arith, few, row_shorter (w ∷ ws) us row is)) was in
        subst (λ (l : List ReportRow). Each IsRow l × ◌≡◌ {A = List (List ℕ)} (w ∷ ws) (rows_words l)) (ok_is (row ∷ more) rows e) ((g.0, h.0), g.1 ∙ ap (λ (l : List (List ℕ)). row_words row ++ l) h.1)

    first : (r : Result (ReportRow × List (List ℕ)) Bad) → row_at (w ∷ ws) ≡ r → after_all (λ x us. rows_made x (rows_in k us)) r ≡ Ok rows → Next
        → Each IsRow rows × ◌≡◌ {A = List (List ℕ)} (w ∷ ws) (rows_words rows)
    first (Err bad) is e next = absurd (not_ok bad rows e)
    first (Ok p) is e next = later p.0 p.1 (rows_in k p.1) is refl e next

pub rows_law : IsAll (Each IsRow) rows_words rows_of
rows_law = record { takes = λ rows h. rows_take (length (rows_words rows)) rows le_self h; again = λ ws rows e. rows_again (length ws) ws rows le_self e }
  where
    le_self : {n : ℕ} → n ≤ n
    le_self = omega arith

-- more room changes nothing
pub rows_room : (k m : ℕ) (ws : List (List ℕ)) → length ws ≤ k → length ws ≤ m → rows_in k ws ≡ rows_in m ws
rows_room zero zero [] h j = refl
rows_room zero (suc m) [] h j = refl
rows_room (suc k) zero [] h j = refl
rows_room (suc k) (suc m) [] h j = refl
rows_room zero m (w ∷ ws) h j = absurd (omega (arith, h))
rows_room (suc k) zero (w ∷ ws) h j = absurd (omega (arith, j))
rows_room (suc k) (suc m) (w ∷ ws) h j = by (row_at (w ∷ ws)) refl (λ us f g. rows_room k m us f g)
  where
    by : (r : Result (ReportRow × List (List ℕ)) Bad) → row_at (w ∷ ws) ≡ r → ((us : List (List ℕ)) → length us ≤ k → length us ≤ m → rows_in k us ≡ rows_in m us)
        → after_all (λ x us. rows_made x (rows_in k us)) r ≡ after_all (λ x us. rows_made x (rows_in m us)) r
    by (Err bad) is next = refl
    by (Ok p) is next = let less = row_shorter (w ∷ ws) p.1 p.0 is in ap (rows_made p.0) (next p.1 (omega (arith, h, less)) (omega (arith, j, less)))

-- ---- the loop over rows
pub rows_start : (r : Result (List ReportRow) Bad) → rows_onto [] r ≡ r
rows_start (Ok rows) = refl
rows_start (Err bad) = refl

pub rows_end : (all : List ReportRow) (rest : List (List ℕ)) (whole : Result (List ReportRow) Bad) → rest ≡ [] → rows_onto all (rows_of rest) ≡ whole → whole ≡ Ok all
rows_end all rest whole none so_far = sym so_far ∙ ap (λ (ws : List (List ℕ)). rows_onto all (rows_of ws)) none ∙ ap Ok (append-nil all)

-- the first row, with room for those behind it
rows_cut : (w : List ℕ) (rest ws : List (List ℕ)) (r : Result (ReportRow × List (List ℕ)) Bad) → rest ≡ w ∷ ws → row_at rest ≡ r → rows_of rest ≡ after_all (λ x us. rows_made x (rows_in (length ws) us)) r
rows_cut w rest ws r cut is =
    let first : row_at (w ∷ ws) ≡ r = ap row_at (sym cut) ∙ is in
    ap rows_of cut ∙ ap (after_all (λ x us. rows_made x (rows_in (length ws) us))) first

pub rows_none : (all : List ReportRow) (w : List ℕ) (rest ws : List (List ℕ)) (bad : Bad) (whole : Result (List ReportRow) Bad) → rest ≡ w ∷ ws → row_at rest ≡ Err bad → rows_onto all (rows_of rest) ≡ whole → whole ≡ Err bad
rows_none all w rest ws bad whole cut is so_far = sym so_far ∙ ap (rows_onto all) (rows_cut w rest ws (Err bad) cut is)

pub rows_step : (all more : List ReportRow) (row : ReportRow) (w : List ℕ) (rest ws behind : List (List ℕ)) (whole : Result (List ReportRow) Bad) → rest ≡ w ∷ ws → row_at rest ≡ Ok (row, behind) → more ≡ all ++ row ∷ []
    → rows_onto all (rows_of rest) ≡ whole → rows_onto more (rows_of behind) ≡ whole
rows_step all more row w rest ws behind whole cut is pushed so_far =
    let less = row_shorter rest behind row is in
    let room : rows_of behind ≡ rows_in (length ws) behind = rows_room (length behind) (length ws) behind (omega arith) (omega (arith, less, ap length cut)) in
    ap (λ (l : List ReportRow). rows_onto l (rows_of behind)) pushed ∙ ap (rows_onto (all ++ row ∷ [])) room ∙ together (rows_in (length ws) behind)
    ∙ ap (rows_onto all) (sym (rows_cut w rest ws (Ok (row, behind)) cut is)) ∙ so_far
  where
    together : (r : Result (List ReportRow) Bad) → rows_onto (all ++ row ∷ []) r ≡ rows_onto all (rows_made row r)
    together (Ok rows) = ap Ok (append_assoc all (row ∷ []) rows)
    together (Err bad) = refl

-- ---- split SET row ..
abbrev pub split_rows : ReportIo → List ReportRow
split_rows (Quorum set lost) = []
split_rows (Split set rows) = rows
split_rows (Fault set faults lost) = []

abbrev pub IsSplit : ReportIo → Type 0
IsSplit (Quorum set lost) = ⊥
IsSplit (Split set rows) = Unit {0}
IsSplit (Fault set faults lost) = ⊥

split_only : (set : List ℕ) (y : ReportIo) → IsSplit y × (io_set y ≡ set) → Split set (split_rows y) ≡ y
split_only set (Quorum s lost) k = absurd k.0
split_only set (Split s rows) k = ap (λ (l : List ℕ). Split l rows) (sym k.1)
split_only set (Fault s faults lost) k = absurd k.0

pub split_law : IsAll (λ y. (IsName (io_set y) × Each IsRow (split_rows y)) × IsSplit y) (λ y. io_set y ∷ rows_words (split_rows y)) split_of
split_law = chain_law io_set IsSplit (λ y. Each IsRow (split_rows y)) (λ y. rows_words (split_rows y)) (form_law name_law)
    (λ set k. last_law split_rows (λ rows. Split set rows) (λ y. IsSplit y × (io_set y ≡ set)) (split_made set) (λ a. refl) (λ bad. refl) (λ a. refl) (λ a. (tt, refl)) (split_only set) rows_law)

-- ---- fault SET fault BRICK:PLACE .. lost BRICK:CONN ..
abbrev pub io_failures : ReportIo → Failures
io_failures (Quorum set lost) = ([], [])
io_failures (Split set rows) = ([], [])
io_failures (Fault set faults lost) = (faults, lost)

abbrev pub IsFault : ReportIo → Type 0
IsFault (Quorum set lost) = ⊥
IsFault (Split set rows) = ⊥
IsFault (Fault set faults lost) = Unit {0}

abbrev pub AreFailures : Failures → Type 0
AreFailures p = Each IsFailed p.0 × Each IsLost p.1

fault_only : (set : List ℕ) (y : ReportIo) → IsFault y × (io_set y ≡ set) → Fault set (io_failures y).0 (io_failures y).1 ≡ y
fault_only set (Quorum s lost) k = absurd k.0
fault_only set (Split s rows) k = absurd k.0
fault_only set (Fault s faults lost) k = ap (λ (l : List ℕ). Fault l faults lost) (sym k.1)

pub fault_law : IsAll (λ y. (IsName (io_set y) × AreFailures (io_failures y)) × IsFault y) (λ y. io_set y ∷ codes "fault" ∷ failures_words (io_failures y).0 (io_failures y).1) fault_of
fault_law = chain_law io_set IsFault (λ y. AreFailures (io_failures y)) (λ y. codes "fault" ∷ failures_words (io_failures y).0 (io_failures y).1) (form_law name_law)
    (λ set k. behind_all (codes "fault") (last_law io_failures (λ (p : Failures). Fault set p.0 p.1) (λ y. IsFault y × (io_set y ≡ set)) (fault_made set) (λ a. refl) (λ bad. refl) (λ a. refl) (λ a. (tt, refl)) (fault_only set) failures_law))

-- ---- what follows `error 5 EIO`
abbrev pub IsLocal : ReportIo → Type 0
IsLocal (Quorum set lost) = ⊥
IsLocal (Split set rows) = IsName set × Each IsRow rows
IsLocal (Fault set faults lost) = IsName set × Each IsFailed faults × Each IsLost lost

abbrev pub local_words : ReportIo → List (List ℕ)
local_words (Quorum set lost) = []
local_words (Split set rows) = codes "split" ∷ set ∷ rows_words rows
local_words (Fault set faults lost) = codes "fault" ∷ set ∷ codes "fault" ∷ failures_words faults lost

pub input_output_law : IsAll IsLocal local_words input_output_of
input_output_law = record { takes = takes; again = again }
  where
    takes : (y : ReportIo) → IsLocal y → input_output_of (local_words y) ≡ Ok y
    takes (Quorum set lost) h = absurd h
    takes (Split set rows) h = split_law.takes (Split set rows) ((h.0, h.1), tt)
    takes (Fault set faults lost) h = fault_law.takes (Fault set faults lost) ((h.0, (h.1, h.2)), tt)

    of_split : (y : ReportIo) (ws : List (List ℕ)) → ((IsName (io_set y) × Each IsRow (split_rows y)) × IsSplit y) × (ws ≡ io_set y ∷ rows_words (split_rows y)) → IsLocal y × ◌≡◌ {A = List (List ℕ)} (codes "split" ∷ ws) (local_words y)
    of_split (Quorum set lost) ws g = absurd g.0.1
    of_split (Split set rows) ws g = ((g.0.0.0, g.0.0.1), ap (λ (l : List (List ℕ)). codes "split" ∷ l) g.1)
    of_split (Fault set faults lost) ws g = absurd g.0.1

    of_fault : (y : ReportIo) (ws : List (List ℕ)) → ((IsName (io_set y) × AreFailures (io_failures y)) × IsFault y) × (ws ≡ io_set y ∷ codes "fault" ∷ failures_words (io_failures y).0 (io_failures y).1)
        → IsLocal y × ◌≡◌ {A = List (List ℕ)} (codes "fault" ∷ ws) (local_words y)
    of_fault (Quorum set lost) ws g = absurd g.0.1
    of_fault (Split set rows) ws g = absurd g.0.1
    of_fault (Fault set faults lost) ws g = ((g.0.0.0, g.0.0.1.0, g.0.0.1.1), ap (λ (l : List (List ℕ)). codes "fault" ∷ l) g.1)

    again : (ws : List (List ℕ)) (y : ReportIo) → input_output_of ws ≡ Ok y → IsLocal y × (ws ≡ local_words y)
    again [] y e = absurd (not_ok Line y e)
    again (w ∷ ws) y e = by (is_text w (codes "split")) (is_text w (codes "fault")) refl refl e
      where
        by : (a b : Bool) → is_text w (codes "split") ≡ a → is_text w (codes "fault") ≡ b → cond a (split_of ws) (cond b (fault_of ws) (Err Line)) ≡ Ok y → IsLocal y × ◌≡◌ {A = List (List ℕ)} (w ∷ ws) (local_words y)
        by true b is out e = let g = of_split y ws (split_law.again ws y e) in (g.0, ap (λ (v : List ℕ). v ∷ ws) (same_word w (codes "split") is) ∙ g.1)
        by false true out is e = let g = of_fault y ws (fault_law.again ws y e) in (g.0, ap (λ (v : List ℕ). v ∷ ws) (same_word w (codes "fault") is) ∙ g.1)
        by false false out nor e = absurd (not_ok Line y e)
