use Rattle.std.proofs.Common.{sym, subst, arith}
use Rattle.wind_words.specs.declared.view.Role.TheVariants.{Hub}
use Rattle.wind_words.specs.Calls.{Pass, IsFree}
use Rattle.wind_words.proofs.Allowed.{opens_allowed}
use Rattle.wind_words.proofs.Asked.{same_words, in_words, role_is}
use Rattle.wind_words.proofs.Known.{open_known}
use Rattle.wind_words.proofs.words.WindWords.open.Goals as goal

pub fetch_add-found-requires : goal.fetch_add-found-requires
fetch_add-found-requires c =
    let seat = c.hub.inside.seat in
    let t = c.self.inside.table.shared in
    let within = in_words t.key c.args.slot t.table_id c.args.self.now c.self.view_is c.self.invariant.0 c.requires.slot in (
      same_words seat.table_id t.table_id seat.me.0 c.args.hub.now c.args.self.now c.hub.view_is c.self.view_is c.requires.words,
      omega (arith, within, c.self.invariant.0),
      opens_allowed t.key t.table_id.slots seat.id c.args.slot seat.me (role_is seat.table_id seat.me.0 c.args.hub.now Hub c.hub.view_is c.requires.hub) within
          (subst (λ (p : Pass). IsFree p.view c.args.slot) (sym c.hub.view_is) c.requires.free),
    )

pub returns-clause-is_open : goal.returns-clause-is_open
returns-clause-is_open c =
    let m = c.hub.inside.seat.me in
    let told = c.fetch_add-found.ensures.2 in
    open_known m c.fetch_add-found.new.seat.me c.args.slot c.fetch_add-found.result (role_is c.hub.inside.seat.table_id m.0 c.args.hub.now Hub c.hub.view_is c.requires.hub)
    (subst (λ (p : Pass). IsFree p.view c.args.slot) (sym c.hub.view_is) c.requires.free) told.0 told.1 told.2
