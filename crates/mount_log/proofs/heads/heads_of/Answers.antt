use Rattle.std.proofs.Common.{refl, ap, ◌∙◌, ◌+◌, ◌++◌, drop}
use Rattle.std.specs.Prelude.{List, ◌∷◌}
use Rattle.std.proofs.lemmas.List.{append_assoc}
use Rattle.mount_log.specs.Heads.{heads_of}
use Rattle.mount_log.specs.declared.heads.Head.{Head}
use Rattle.mount_log.proofs.Lists.{grown_by}
use Rattle.mount_log.proofs.heads.heads_of.Goals as goal

pub loop-k-preserved : goal.loop-k-preserved
loop-k-preserved c =
    let rest = heads_of (drop (c.loop-k.k + 1) c.args.events.now) in
    grown_by heads_of c.args.events.now c.args.events.now c.loop-k.k c.index-events-k.result c.loop-k.heads.items c.push.new.self.items rest (heads_of c.args.events.now) refl c.loop-k-test.true c.index-events-k.is
    (ap (λ (l : List Head). l ++ rest) c.in_ok-push.ensures.items ∙ append_assoc c.loop-k.heads.items _ rest ∙ ap (λ (h : Head). c.loop-k.heads.items ++ (h ∷ rest)) c.head_of.ensures) c.loop-k.invariant
