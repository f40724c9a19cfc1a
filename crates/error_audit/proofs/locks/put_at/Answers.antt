use Rattle.std.proofs.Common.{◌≡◌}
use Rattle.error_audit.proofs.Locking.{put_there, put_kept, put_only}
use Rattle.error_audit.proofs.locks.put_at.Goals as goal

pub returns-clause-kept : goal.returns-clause-kept
returns-clause-kept c = put_kept (λ l. l.items) c.args.lists.now.items c.index_mut.result.now c.push.new.self c.args.call c.args.lock c.requires c.index_mut.ensures.value c.in_ok-push.ensures.items

pub returns-clause-put : goal.returns-clause-put
returns-clause-put c = put_there (λ l. l.items) c.args.lists.now.items c.index_mut.result.now c.push.new.self c.args.call c.args.lock c.requires c.index_mut.ensures.value c.in_ok-push.ensures.items

pub returns-clause-added : goal.returns-clause-added
returns-clause-added c = put_only (λ l. l.items) c.args.lists.now.items c.index_mut.result.now c.push.new.self c.args.call c.args.lock c.requires c.index_mut.ensures.value c.in_ok-push.ensures.items
