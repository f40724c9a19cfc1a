-- The phases that have nothing left end, one after another.
use Rattle.std.proofs.Common.{◌≡◌, ℕ, suc, Bool, true, List, Option, sym, ap, ◌∙◌, if◌then◌else◌}
use Rattle.script_lang.specs.declared.scripts.Phase.{Phase}
use Rattle.mount_log.specs.declared.places.LineAt.{LineAt}
use Rattle.hub_tables.specs.Agendas.{AgendaState, with_phase, has_ended, moved_on}
use Rattle.hub_tables.specs.Sessions.{behind}

pub one_ends : (next : ℕ → Option LineAt) (phases : List Phase) (idle : Bool) (left more : ℕ) (a b : AgendaState) → left ≡ suc more → has_ended phases idle a ≡ true
    → b ≡ with_phase next phases (record a { progress = behind a.progress }) → moved_on next phases idle more b ≡ moved_on next phases idle left a
one_ends next phases idle left more a b long ended is =
    ap (moved_on next phases idle more) is
    ∙ sym (ap (λ (e : Bool). if e then moved_on next phases idle more (with_phase next phases (record a { progress = behind a.progress })) else a) ended)
    ∙ sym (ap (λ (n : ℕ). moved_on next phases idle n a) long)
