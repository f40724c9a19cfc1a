use Rattle.std.proofs.Common.{◌≡◌, map, drop}
use Rattle.std.specs.List.{list_all}
use Rattle.volfile.specs.VolfileText.{is_defined}
use Rattle.volfile.proofs.statements.are_defined.Given as goal

abbrev pub invariant-loop-word : goal.invariant-loop-word
invariant-loop-word l = list_all (is_defined l.volumes) (map (λ w. w.now) l.words) ≡ list_all (is_defined l.volumes) (map (λ w. w.now) (drop l.word-index l.words))
