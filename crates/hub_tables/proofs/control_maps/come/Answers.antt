use Rattle.std.proofs.Common.{◌≡◌, ℕ, List, Some, None, sym, ap, ◌∙◌, arith}
use Rattle.std.specs.BTreeMap.{insert_entry, is_at}
use Rattle.std.specs.Map.{lookup, remove_entry}
use Rattle.script_lang.specs.declared.scripts.Action.{Action}
use Rattle.hub_tables.specs.PhaseControls.{rank_cmp, first_of_request, coming, waiting}
use Rattle.hub_tables.specs.declared.controls.Rank.{Rank}
use Rattle.hub_tables.proofs.Coming.{never_gone, none_come, all_wait, one_comes, one_waits_no_more}
use Rattle.hub_tables.proofs.control_maps.come.Goals as goal

pub returns-in_default-clause-awaited : goal.returns-in_default-clause-awaited
returns-in_default-clause-awaited c = sym (all_wait c.args.request c.loop.awaited.entries (sym c.first_for.ensures ∙ c.in_default.is)) ∙ c.loop.invariant.0

pub returns-in_default-clause-come : goal.returns-in_default-clause-come
returns-in_default-clause-come c = sym (none_come c.args.request c.loop.awaited.entries c.loop.come.entries (sym c.first_for.ensures ∙ c.in_default.is)) ∙ c.loop.invariant.1

pub returns-in_default-remove-clause-awaited : goal.returns-in_default-remove-clause-awaited
returns-in_default-remove-clause-awaited c = absurd (never_gone c.args.request c.loop.awaited.entries c.in-Some.rank (sym c.first_for.ensures ∙ c.in-Some.is) (sym c.remove.ensures.value ∙ c.in_default-remove.is))

pub returns-in_default-remove-clause-come : goal.returns-in_default-remove-clause-come
returns-in_default-remove-clause-come c = absurd (never_gone c.args.request c.loop.awaited.entries c.in-Some.rank (sym c.first_for.ensures ∙ c.in-Some.is) (sym c.remove.ensures.value ∙ c.in_default-remove.is))

pub loop-preserved : goal.loop-preserved
loop-preserved c =
    let first : first_of_request c.loop.awaited.entries c.args.request ≡ Some c.in-Some.rank = sym c.first_for.ensures ∙ c.in-Some.is in
    let found : lookup (is_at (rank_cmp c.in-Some.rank)) c.loop.awaited.entries ≡ Some c.in-Some-remove.action = sym c.remove.ensures.value ∙ c.in-Some-remove.is in (
      ap (λ (l : List (Rank × Action)). waiting l c.args.request) c.remove.ensures.entries ∙ one_waits_no_more c.args.request c.loop.awaited.entries c.in-Some.rank first ∙ c.loop.invariant.0,
      ap (λ (l : List (Rank × Action)). coming l c.args.request c.insert.new.self.entries) c.remove.ensures.entries
          ∙ ap (coming (remove_entry (is_at (rank_cmp c.in-Some.rank)) c.loop.awaited.entries) c.args.request) c.in_ok-insert.ensures.entries
          ∙ one_comes c.args.request c.loop.awaited.entries c.loop.come.entries c.in-Some.rank c.in-Some-remove.action first found
          ∙ c.loop.invariant.1,
      omega (arith, c.in-Some-remove.ensures.len, c.loop.invariant.2),
    )
