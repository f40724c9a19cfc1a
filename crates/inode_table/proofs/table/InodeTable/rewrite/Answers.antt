use Rattle.std.proofs.Common.{sym, ap, ◌∙◌}
use Rattle.std.specs.FinMap as map
use Rattle.std.specs.Option.{option_copied_mut}
use Rattle.inode_table.proofs.Made.{present_made, insert_made, not_none}
use Rattle.inode_table.proofs.table.InodeTable.rewrite.Goals as goal

pub returns : goal.returns
returns c = insert_made c.self.inside.inodes.entries _ c.args.gfid c.args.to ((c.get_mut.follows.holds c.args.to).3 (present_made _ c.args.gfid c.self.view_is c.requires)).0 ∙ ap (λ t. map.insert t c.args.gfid c.args.to) c.self.view_is

pub returns-in_default : goal.returns-in_default
returns-in_default c = absurd (not_none _ (sym c.get_mut.ensures.value ∙ ap option_copied_mut c.in_default.is) (present_made c.self.inside.inodes.entries c.args.gfid c.self.view_is c.requires))
