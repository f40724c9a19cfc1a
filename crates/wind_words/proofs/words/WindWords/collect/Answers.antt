use Rattle.std.proofs.Common.{refl, sym, ◌∙◌, arith}
use Rattle.wind_words.specs.declared.view.Role.TheVariants.{Hub}
use Rattle.wind_words.specs.Calls.{with_collected}
use Rattle.wind_words.proofs.Allowed.{collect_asked, collect_bailed_asked}
use Rattle.wind_words.proofs.Asked.{same_words, in_words, role_is}
use Rattle.wind_words.proofs.Told.{looked, looked_from, looked_stays, bailed_once, collected_bailed, stays_by, live_still}
use Rattle.wind_words.proofs.Known.{collect_known}
use Rattle.wind_words.proofs.words.WindWords.collect.Goals as goal

pub compare_exchange-found-requires : goal.compare_exchange-found-requires
compare_exchange-found-requires c =
    let seat = c.hub.inside.seat in
    let t = c.self.inside.table.shared in
    let within = in_words t.key c.args.w.slot t.table_id c.args.self.now c.self.view_is c.self.invariant.0 c.requires.slot in (
      same_words seat.table_id t.table_id seat.me.0 c.args.hub.now c.args.self.now c.hub.view_is c.self.view_is c.requires.words,
      omega (arith, within, c.self.invariant.0),
      collect_asked t.key t.table_id.slots seat.id c.args.w.slot seat.me c.word_at-replied.result c.word_at-next.result c.args.w.turn c.word_at-replied.ensures (omega (arith, c.word_at-next.ensures)) (role_is seat.table_id seat.me.0 c.args.hub.now Hub c.hub.view_is c.requires.hub) within,
    )

pub invariant_of-hub : goal.invariant_of-hub
invariant_of-hub c =
    let m = c.hub.inside.seat.me in
    let n = c.compare_exchange-found.new.seat.me in
    let old = c.word_at-replied.result in
    let found = c.compare_exchange-found.result in
    live_still m n (looked_stays m n c.args.w old found
    (looked_from m n c.args.w old found c.self.inside.table.shared.table_id.slots c.word_at-next.result c.compare_exchange-found.ensures.2 c.word_at-replied.ensures)) c.hub.invariant

pub returns-then-found-bailed-clause-collects : goal.returns-then-found-bailed-clause-collects
returns-then-found-bailed-clause-collects c =
    let m = c.hub.inside.seat.me in
    let n = c.compare_exchange-found.new.seat.me in
    let old = c.word_at-replied.result in
    let found = c.compare_exchange-found.result in
    looked m n c.args.w old found c.hub.inside.seat.table_id c.compare_exchange-found.new.seat.table_id c.args.hub.now c.hub.view_is c.compare_exchange-found.ensures.0 c.word_at-replied.ensures
    (λ b. c.if-found-bailed.true (b ∙ sym c.word_at-bailed.ensures))
    (looked_from m n c.args.w old found c.self.inside.table.shared.table_id.slots c.word_at-next.result c.compare_exchange-found.ensures.2 c.word_at-replied.ensures)

pub compare_exchange-requires : goal.compare_exchange-requires
compare_exchange-requires c =
    let m = c.hub.inside.seat.me in
    let seat = c.compare_exchange-found.new.seat in
    let t = c.self.inside.table.shared in
    let within = in_words t.key c.args.w.slot t.table_id c.args.self.now c.self.view_is c.self.invariant.0 c.requires.slot in
    let old = c.word_at-replied.result in
    let found = c.compare_exchange-found.result in
    let was = bailed_once m seat.me c.args.w old found (role_is c.hub.inside.seat.table_id m.0 c.args.hub.now Hub c.hub.view_is c.requires.hub) (c.if-found-bailed.false ∙ c.word_at-bailed.ensures)
    (looked_from m seat.me c.args.w old found t.table_id.slots c.word_at-next.result c.compare_exchange-found.ensures.2 c.word_at-replied.ensures) in (
      c.compare_exchange-found.ensures.0
          ∙ same_words c.hub.inside.seat.table_id t.table_id m.0 c.args.hub.now c.args.self.now c.hub.view_is c.self.view_is c.requires.words,
      omega (arith, within, c.self.invariant.0),
      collect_bailed_asked t.key t.table_id.slots seat.id c.args.w.slot seat.me c.word_at-bailed.result c.word_at-next.result c.args.w.turn c.word_at-bailed.ensures (omega (arith, c.word_at-next.ensures))
          was.0 within was.1 was.2,
    )

pub invariant_of-hub-2 : goal.invariant_of-hub-2
invariant_of-hub-2 c =
    let m = c.hub.inside.seat.me in
    let n = c.compare_exchange-found.new.seat.me in
    let old = c.word_at-replied.result in
    let found = c.compare_exchange-found.result in
    live_still n c.compare_exchange.new.seat.me (stays_by n c.compare_exchange.new.seat.me (with_collected n.0 c.args.w) (c.compare_exchange.ensures.2 c.args.w.turn c.word_at-bailed.ensures).1 refl)
    (live_still m n (looked_stays m n c.args.w old found
    (looked_from m n c.args.w old found c.self.inside.table.shared.table_id.slots c.word_at-next.result c.compare_exchange-found.ensures.2 c.word_at-replied.ensures)) c.hub.invariant)

pub returns-clause-collects : goal.returns-clause-collects
returns-clause-collects c =
    let m = c.hub.inside.seat.me in
    let n = c.compare_exchange-found.new.seat.me in
    let old = c.word_at-replied.result in
    let found = c.compare_exchange-found.result in
    collected_bailed m n c.args.w old found c.hub.inside.seat.table_id c.compare_exchange-found.new.seat.table_id c.compare_exchange.new.seat.table_id c.compare_exchange.new.seat.me c.args.hub.now
    c.hub.view_is c.compare_exchange-found.ensures.0 c.compare_exchange.ensures.0 (c.if-found-bailed.false ∙ c.word_at-bailed.ensures)
    (looked_from m n c.args.w old found c.self.inside.table.shared.table_id.slots c.word_at-next.result c.compare_exchange-found.ensures.2 c.word_at-replied.ensures)
    (c.compare_exchange.ensures.2 c.args.w.turn c.word_at-bailed.ensures).1

pub returns-then-found-bailed-clause-known : goal.returns-then-found-bailed-clause-known
returns-then-found-bailed-clause-known c = collect_known _ _ c.args.w _ (returns-then-found-bailed-clause-collects c)
