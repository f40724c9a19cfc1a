use Rattle.std.proofs.Common.{refl, arith}
use Rattle.wind_words.specs.Calls.{with_won}
use Rattle.wind_words.proofs.Allowed.{settle_asked}
use Rattle.wind_words.proofs.Asked.{same_words, in_words}
use Rattle.wind_words.proofs.Told.{ended, ended_from, ended_stays, live_still}
use Rattle.wind_words.proofs.Known.{settle_known}
use Rattle.wind_words.proofs.words.WindWords.settle.Goals as goal

pub compare_exchange-found-requires : goal.compare_exchange-found-requires
compare_exchange-found-requires c =
    let seat = c.pass.inside.seat in
    let t = c.self.inside.table.shared in
    let within = in_words t.key c.args.w.slot t.table_id c.args.self.now c.self.view_is c.self.invariant.0 c.requires.slot in (
      same_words seat.table_id t.table_id seat.me.0 c.args.pass.now c.args.self.now c.pass.view_is c.self.view_is c.requires.words,
      omega (arith, within, c.self.invariant.0),
      settle_asked t.key t.table_id.slots seat.id c.args.w.slot seat.me c.word_at-pending.result c.word_at.result c.args.w.turn c.word_at-pending.ensures c.word_at.ensures c.pass.invariant.1 within,
    )

pub invariant_of-pass : goal.invariant_of-pass
invariant_of-pass c =
    let m = c.pass.inside.seat.me in
    let n = c.compare_exchange-found.new.seat.me in
    let old = c.word_at-pending.result in
    let found = c.compare_exchange-found.result in
    live_still m n (ended_stays with_won m n c.args.w old found (λ _ _. refl)
    (ended_from with_won m n c.args.w old found c.self.inside.table.shared.table_id.slots c.word_at.result c.compare_exchange-found.ensures.2 c.word_at-pending.ensures)) c.pass.invariant

pub returns-clause-settles : goal.returns-clause-settles
returns-clause-settles c =
    let m = c.pass.inside.seat.me in
    let n = c.compare_exchange-found.new.seat.me in
    let old = c.word_at-pending.result in
    let found = c.compare_exchange-found.result in
    ended with_won m n c.args.w old found c.pass.inside.seat.table_id c.compare_exchange-found.new.seat.table_id c.args.pass.now c.settled.result
    c.pass.view_is c.compare_exchange-found.ensures.0 c.settled.ensures.won c.settled.ensures.lost
    (ended_from with_won m n c.args.w old found c.self.inside.table.shared.table_id.slots c.word_at.result c.compare_exchange-found.ensures.2 c.word_at-pending.ensures)

pub returns-clause-known : goal.returns-clause-known
returns-clause-known c = settle_known _ _ c.args.w c.settled.result (returns-clause-settles c)
