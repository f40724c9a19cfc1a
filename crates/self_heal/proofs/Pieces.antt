-- Five pieces put to a list's end, one after another; and the records of one more cell.
use Rattle.std.proofs.Common.{◌≡◌, ℕ, ◌+◌, ◌<◌, Bool, List, ◌++◌, ◌∙◌, ap, sym, drop, length, slice_index_or}
use Rattle.std.proofs.lemmas.List.{append_assoc, drop_more}
use Rattle.fop_types.specs.declared.answers.SplitRow.{SplitRow}
use Rattle.fop_types.specs.declared.cells.Cell.{Cell}
use Rattle.fop_types.specs.declared.copy_jobs.CopyRecord.{CopyRecord}
use Rattle.self_heal.specs.Records.{records_of_cell, records_from}
use Rattle.self_heal.specs.declared.stage.Origin.{Origin}

pub five_pieces : {A : Type 0} (x a b c d e : List A) (p q r s t : List A) → a ≡ x ++ p → b ≡ a ++ q → c ≡ b ++ r → d ≡ c ++ s → e ≡ d ++ t → e ≡ x ++ (p ++ (q ++ (r ++ (s ++ t))))
five_pieces x a b c d e p q r s t h i j k l =
    l ∙ ap (λ y. y ++ t) (k ∙ ap (λ y. y ++ s) (j ∙ ap (λ y. y ++ r) (i ∙ ap (λ y. y ++ q) h))) ∙ simp append_assoc

-- the records of one more cell
pub cell_more : (rows : List SplitRow) (origins : List Origin) (sinks : List Bool) (cells : List Cell) (c : ℕ) (d : Cell) (before listed whole : List CopyRecord) → c < length cells → listed ≡ before ++ records_of_cell rows origins sinks c (slice_index_or cells c d) → before ++ records_from rows origins sinks c (drop c cells) ≡ whole → listed ++ records_from rows origins sinks (c + 1) (drop (c + 1) cells) ≡ whole
cell_more rows origins sinks cells c d before listed whole within one all =
    ap (λ (x : List CopyRecord). x ++ records_from rows origins sinks (c + 1) (drop (c + 1) cells)) one
    ∙ append_assoc before (records_of_cell rows origins sinks c (slice_index_or cells c d)) (records_from rows origins sinks (c + 1) (drop (c + 1) cells))
    ∙ sym (ap (λ (x : List Cell). before ++ records_from rows origins sinks c x) (drop_more cells c d within))
    ∙ all
