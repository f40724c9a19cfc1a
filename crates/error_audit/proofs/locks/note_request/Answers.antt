use Rattle.std.proofs.Common.{map}
use Rattle.error_audit.proofs.Locking.{from_request}
use Rattle.error_audit.proofs.locks.note_request.Goals as goal

pub returns-in_ok-put_at-in-Lock-clause-from : goal.returns-in_ok-put_at-in-Lock-clause-from
returns-in_ok-put_at-in-Lock-clause-from c =
    from_request (map (λ l. l.items) c.args.lists.now.items) (map (λ l. l.items) c.put_at.new.lists.items) c.args.lock c.args.req.now _ _ _ c.in-Lock.is c.in_ok-put_at-in-Lock.ensures.added
