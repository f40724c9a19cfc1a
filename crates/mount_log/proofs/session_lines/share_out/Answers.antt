use Rattle.std.proofs.Common.{◌<◌, length, map, get_or, refl, ap, ◌∙◌, arith, length-set}
use Rattle.script_lang.specs.declared.scripts.CallLine.{CallLine}
use Rattle.mount_log.proofs.SessionLines.{share_at, below_at}
use Rattle.mount_log.proofs.session_lines.share_out.Goals as goal

pub loop-index-preserved : goal.loop-index-preserved
loop-index-preserved c =
    let line : CallLine = get_or c.args.calls.now c.loop-index.index c.index-calls-index.result in
    let low : line.session < length c.loop-index.lines.items = omega (arith, below_at (length c.args.lines.now.items) c.args.calls.now c.loop-index.index c.index-calls-index.result c.requires.sessions c.loop-index-test.true, c.loop-index.invariant.0) in (
      length-set c.loop-index.lines.items line.session c.push_back.new.self ∙ c.loop-index.invariant.0,
      share_at (λ q. q.items) c.args.phase c.loop-index.index (map (λ q. q.items) c.args.lines.now.items) c.loop-index.lines.items c.index_mut.result.now c.push_back.new.self _ c.args.calls.now line
          c.loop-index-test.true (ap (λ (x : CallLine). get_or c.args.calls.now c.loop-index.index x) c.index-calls-index.is) low c.index_mut.ensures.value c.in_ok-push_back.ensures.items
          refl (omega (arith, c.loop-index-test.true, c.requires.few)) c.loop-index.invariant.1,
    )
