use Rattle.std.proofs.Common.{◌≡◌, true}
use Rattle.graph_build.specs.Follows.{sets_follow}
use Rattle.graph_switch.proofs.Longer.{longer}
use Rattle.graph_switch.proofs.followings.may_follow.Goals as goal

pub adds_unused-requires : goal.adds_unused-requires
adds_unused-requires c =
    let sets = c.in-Some.current.now.sets in
    let kept : sets_follow sets sets c.args.new.now.sets ≡ true = cc in
    longer sets sets c.args.new.now.sets kept
