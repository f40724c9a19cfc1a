-- A step of a frame, from where its local is out; and how the local of a frame comes to be out.
use Rattle.std.proofs.Common.{◌≡◌, refl, sym, ap, subst, ◌∙◌, arith}
use Rattle.std.specs.Prelude.{ℕ, ◌+◌, Option, Some, None, is_some}
use Rattle.xlator_law.specs.declared.step.Step.{Step}
use Rattle.xlator_law.specs.declared.step.Step.TheVariants.{Wind, Wait, Unwind}
use Rattle.xlator_law.specs.declared.winds.Place.{Place}
use Rattle.frame_stack.specs.Cells.{cell_at}
use Rattle.frame_stack.specs.declared.frame.Frame.{Frame}
use Rattle.frame_stack.specs.Stack.{Stack, frame_at, keeping, with_local, without_frame}
use Rattle.frame_driver.specs.declared.board.Board.{Board}
use Rattle.frame_driver.specs.declared.wiring.Wiring.{Wiring}
use Rattle.frame_driver.specs.Machine.{IsOpened, IsCarried, freed, out_of}
use Rattle.frame_driver.specs.Tasks.{one}
use Rattle.frame_driver.proofs.Ending.{answered_still}
use Rattle.frame_driver.proofs.Frames.{Turns, turns_then, turns_kept, turns_local, turns_freed, turns_inserted}
use Rattle.frame_driver.proofs.Winding.{frames_kept, graph_kept}

-- a frame at this place with its local out
abbrev pub bare : {L : Type 0} → Place → Option (Frame L)
bare place = Some (record { place = place; local = None })

-- the frame that a step leaves
abbrev pub left_by : {F R L : Type 0} → Place → Step F R L → Option (Frame L)
left_by place (Wind winds local) = Some (record { place = place; local = Some local })
left_by place (Wait local) = Some (record { place = place; local = Some local })
left_by place (Unwind reply) = None

module _ {F R L : Type 0} (wiring : Wiring) (key : ℕ) (place : Place) (old new : Board F R L) where
  pub carried_turns : (step : Step F R L) → frame_at old.stack key ≡ bare place → IsCarried wiring key place old step new → Turns old.stack new.stack key (bare place) (left_by place step)
  carried_turns (Wind winds local) at c =
      let frames : c.mid.stack.frames ≡ old.stack.frames = frames_kept wiring place key old winds.items c.mid c.wound in
      let there : frame_at c.mid.stack key ≡ bare place = ap (λ fs. cell_at fs key) frames ∙ at in
      turns_then old.stack c.mid.stack new.stack key (bare place) (bare place) (Some (record { place = place; local = Some local }))
      (turns_kept old.stack c.mid.stack key (bare place) at frames)
      (subst (λ (b : Board F R L). Turns c.mid.stack b.stack key (bare place) (Some (record { place = place; local = Some local }))) (sym c.put) (turns_local c.mid.stack key place None (Some local) there))
  carried_turns (Wait local) at c = subst (λ (b : Board F R L). Turns old.stack b.stack key (bare place) (Some (record { place = place; local = Some local }))) (sym c) (turns_local old.stack key place None (Some local) at)
  carried_turns (Unwind reply) at c =
      let end = turns_freed old.stack key (record { place = place; local = None }) at in
      turns_then old.stack (without_frame old.stack key) new.stack key (bare place) None None end
      (turns_kept (without_frame old.stack key) new.stack key None end.here (answered_still place.parent place.call reply (freed old key) new c).frames)

  pub carried_graph : (step : Step F R L) → IsCarried wiring key place old step new → new.graph ≡ old.graph
  carried_graph (Wind winds local) c = ap (λ (b : Board F R L). b.graph) c.put ∙ graph_kept wiring place key old winds.items c.mid c.wound
  carried_graph (Wait local) c = ap (λ (b : Board F R L). b.graph) c
  carried_graph (Unwind reply) c = (answered_still place.parent place.call reply (freed old key) new c).graph

-- a frame's local goes out, or a frame is opened whose local is still to come, and all else is as it was
pub record Took {F R L : Type 0} (b mid : Board F R L) (key : ℕ) (place : Place) (was : Option (Frame L)) : Type 0 where
  pub turns : Turns b.stack mid.stack key was (bare place)
  pub rest : mid ≡ record b { stack = record b.stack { frames = mid.stack.frames }; frames = mid.frames }
  pub count : mid.frames + one (is_some was) ≡ b.frames + 1

local_rest : {L : Type 0} (s : Stack L) (key : ℕ) (local : Option L) → with_local s key local ≡ record s { frames = (with_local s key local).frames }
local_rest {L = L} s key local = by_cell (frame_at s key) where
  by_cell : (c : Option (Frame L)) → keeping s key local c ≡ record s { frames = (keeping s key local c).frames }
  by_cell None = refl
  by_cell (Some f) = refl

module _ {F R L : Type 0} where
  pub begun_took : (place : Place) (key : ℕ) (old mid : Board F R L) → IsOpened place key old mid → Took old mid key place None
  begun_took place key old mid o =
      let e : mid.frames ≡ old.frames + 1 = ap (λ (b : Board F R L). b.frames) o.rest in
      record {
        turns = turns_inserted old.stack mid.stack key (record { place = place; local = None }) o.inserted;
        rest = o.rest ∙ ap (λ n. record old { stack = record old.stack { frames = mid.stack.frames }; frames = n }) (sym e);
        count = omega (arith, e);
      }

  pub out_took : (b : Board F R L) (key : ℕ) (place : Place) (local : L) → frame_at b.stack key ≡ Some (record { place = place; local = Some local }) → Took b (out_of b key) key place (Some (record { place = place; local = Some local }))
  out_took b key place local at = record {
    turns = turns_local b.stack key place (Some local) None at;
    rest = ap (λ (s : Stack L). record b { stack = s }) (local_rest b.stack key None);
    count = omega (arith);
  }
