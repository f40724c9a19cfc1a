use Rattle.std.proofs.Common.{◌<◌, ◌≤◌, length, ap, sym, subst}
use Rattle.io_cache.specs.Pages.{Held, AreBelow, held_pages}
use Rattle.io_cache.proofs.Putting.{put_is, put_below}
use Rattle.io_cache.proofs.page_cache.PageCache.put.Goals as goal

pub invariant_of-self : goal.invariant_of-self
invariant_of-self c = rw c.in_err-put.ensures.err c.self.invariant

pub invariant_of-self-2 : goal.invariant_of-self-2
invariant_of-self-2 c =
    let e = c.bound_with-bound.ensures in
    let below = subst (λ (v : Held). AreBelow c.bound_with-bound.result v.pages) (sym c.self.view_is) e.below in
    let room = subst (λ (v : Held). (length v.pages ≤ v.capacity) × (0 < v.capacity)) (sym c.self.view_is) e.room in
    record { numbers = rw c.in_ok-put.ensures.entries (put_below c.self.inside.held c.args.gfid c.args.page c.args.bytes room.0 room.1 c.bound_with-bound.result below e.above); fits = e.fits }

pub returns-clause-ok : goal.returns-clause-ok
returns-clause-ok c =
    let e = c.bound_with-bound.ensures in
    let room = subst (λ (v : Held). (length v.pages ≤ v.capacity) × (0 < v.capacity)) (sym c.self.view_is) e.room in
    rw c.in_ok-put.ensures.entries (rw (← c.self.view_is) (ap (λ l. held_pages l c.self.inside.held.cap) (put_is c.self.inside.held c.args.gfid c.args.page c.args.bytes room.0 room.1)))
