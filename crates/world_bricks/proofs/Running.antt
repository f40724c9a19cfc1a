-- The run of a seed, one event after another.
use Rattle.std.proofs.Common.{◌≡◌, refl, sym, ap, subst, ◌∙◌, inl, inr, arith}
use Rattle.std.specs.Prelude.{ℕ, zero, suc, ◌+◌, false, List, [], ◌∷◌, ◌++◌, length, None, Some}
use Rattle.std.proofs.lemmas.List.{length_push}
use Rattle.world_bricks.specs.Choices.{picked}
use Rattle.world_bricks.specs.Runs.{drawn, HasNoTask, PicksThen, ArePicked, IsRunOf}
use Rattle.world_bricks.specs.Schedules.{moved}
use Rattle.world_bricks.specs.Worlds.{WorldState, Happens, HappensWhere, MovesAgenda}
use Rattle.world_bricks.specs.declared.events.Event.{Event}

drawn_next : (n x : ℕ) → drawn x (suc n) ≡ moved (drawn x n)
drawn_next zero x = refl
drawn_next (suc n) x = drawn_next n (moved x)

-- so many events have happened, and the generator's state is this
pub record IsUnderWay (seed : ℕ) (w now : WorldState) (x many : ℕ) : Type 0 where
  pub events : List Event
  pub are_picked : ArePicked seed events w now
  pub state : x ≡ drawn seed (length events)
  pub long : many ≡ length events

pub begins : (seed : ℕ) (w : WorldState) → IsUnderWay seed w w seed 0
begins seed w = record { events = []; are_picked = refl; state = refl; long = refl }

module _ (e : Event) (mid after : WorldState) (no_task : HasNoTask mid) (happens : Happens mid.script e mid.log mid.lines after.log after.lines) (same : (after.script ≡ mid.script) × (after.plans ≡ mid.plans)) (moves : MovesAgenda e mid.script mid.log mid.lines mid.agenda mid.tasks after.log after.agenda after.tasks) where
  behind : (es : List Event) (x : ℕ) (w : WorldState) → picked mid.agenda mid.tasks mid.lines (moved (drawn x (length es))) ≡ Some e → ArePicked x es w mid → ArePicked x (es ++ e ∷ []) w after
  behind [] x w will is =
      subst (λ (m : WorldState). PicksThen (moved x) e m (λ next. after ≡ next)) is (record { after = after; no_task = no_task; is_picked = will; happens = happens; same = same; agenda = moves; then_follows = refl })
  behind (y ∷ ys) x w will h = record {
    after = h.after;
    no_task = h.no_task;
    is_picked = h.is_picked;
    happens = h.happens;
    same = h.same;
    agenda = h.agenda;
    then_follows = behind ys (moved x) h.after will h.then_follows;
  }

  pub goes_on : (seed : ℕ) (w : WorldState) (x many value : ℕ) → value ≡ moved x → picked mid.agenda mid.tasks mid.lines value ≡ Some e → IsUnderWay seed w mid x many → IsUnderWay seed w after (moved x) (many + 1)
  goes_on seed w x many value draws will way = record {
    events = way.events ++ e ∷ [];
    are_picked = behind way.events seed w (sym (ap (picked mid.agenda mid.tasks mid.lines) (draws ∙ ap moved way.state)) ∙ will) way.are_picked;
    state =
        let long : length (way.events ++ e ∷ []) ≡ suc (length way.events) = omega (arith, length_push way.events e) in
        ap moved way.state ∙ sym (drawn_next (length way.events) seed) ∙ ap (drawn seed) (sym long);
    long = omega (arith, way.long, length_push way.events e);
  }

module _ (seed : ℕ) (w now : WorldState) (x many value : ℕ) (draws : value ≡ moved x) (no_task : HasNoTask now) (way : IsUnderWay seed w now x many) where
  drawn_now : picked now.agenda now.tasks now.lines (moved (drawn seed (length way.events))) ≡ picked now.agenda now.tasks now.lines value
  drawn_now = sym (ap (picked now.agenda now.tasks now.lines) (draws ∙ ap moved way.state))

  pub nothing_left : picked now.agenda now.tasks now.lines value ≡ None → IsRunOf seed w now
  nothing_left none = record {
    events = way.events;
    are_picked = way.are_picked;
    ended = inl (no_task, drawn_now ∙ none);
  }

  pub in_vain : (after : WorldState) (e : Event) → picked now.agenda now.tasks now.lines value ≡ Some e → HappensWhere e now.script now.agenda now.tasks now.log now.lines false → after ≡ now → IsRunOf seed w after
  in_vain after e will vain same = subst (λ (a : WorldState). IsRunOf seed w a) (sym same) (record {
    events = way.events;
    are_picked = way.are_picked;
    ended = inr (inl (record {
      event = e;
      no_task = no_task;
      is_picked = drawn_now ∙ will;
      vain = vain;
    }));
  })

pub all_happened : (seed : ℕ) (w now : WorldState) (x many : ℕ) → many ≡ 18446744073709551615 → IsUnderWay seed w now x many → IsRunOf seed w now
all_happened seed w now x many all way = record { events = way.events; are_picked = way.are_picked; ended = inr (inr (sym way.long ∙ all)) }
