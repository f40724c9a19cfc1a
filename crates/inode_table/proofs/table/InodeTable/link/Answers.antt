use Rattle.std.proofs.Common.{sym, ap, ◌∙◌}
use Rattle.std.specs.FinMap as map
use Rattle.inode_table.specs.Inodes.{inode_at, linked}
use Rattle.inode_table.proofs.Made.{inode_made, insert_made, inode_inserted, on_err}
use Rattle.inode_table.proofs.table.InodeTable.link.Goals as goal

pub returns-clause-ok : goal.returns-clause-ok
returns-clause-ok c =
    insert_made _ _ c.args.gfid _ c.in_ok-insert.ensures.updates.0 ∙ ap (λ t. map.insert t c.args.gfid c.one_more-inode.result) c.self.view_is
    ∙ ap (map.insert c.args.self.now c.args.gfid) (c.one_more-inode.ensures ∙ ap (linked c.args.kind c.args.set) c.get.ensures)

pub returns-clause-entry : goal.returns-clause-entry
returns-clause-entry c =
    ap (λ t. inode_at t c.args.gfid) (returns-clause-ok c) ∙ inode_inserted c.args.self.now c.args.gfid (linked c.args.kind c.args.set (inode_at c.args.self.now c.args.gfid))

pub returns-in_err-insert-clause-absent : goal.returns-in_err-insert-clause-absent
returns-in_err-insert-clause-absent c =
    on_err c.from_residual.result (sym (ap (λ t. inode_at t c.args.gfid) c.self.view_is) ∙ inode_made _ c.args.gfid ∙ c.in_err-insert.ensures.absent)
