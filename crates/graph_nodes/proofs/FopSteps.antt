-- A fop begins, takes a reply, and goes on with its hold, as its node makes it.
use Rattle.std.proofs.Common.{◌≡◌, ℕ, [], length, drop, subst}
use Rattle.dht_fops.specs.Fops.{fop_course}
use Rattle.dht_fops.specs.code.Fops.{volume_of, course_on, goes_on_with, goes_held_with, learnt_with, asked_of}
use Rattle.dht_fops.specs.declared.dht_fop.DhtFop.{DhtFop}
use Rattle.dht_fops.specs.declared.step.DhtNext.{DhtNext}
use Rattle.fop_types.specs.declared.fops.Fop.{Fop}
use Rattle.fop_types.specs.declared.jobs.SetReply.{SetReply}
use Rattle.xlator_law.specs.declared.step.Step.{Step}
use Rattle.xlator_law.specs.declared.winds.Entry.{Entry}
use Rattle.graph_items.specs.declared.items.Down.{Down}
use Rattle.graph_items.specs.declared.items.Up.{Up}
use Rattle.graph_nodes.specs.declared.context.Context.{Context}
use Rattle.graph_nodes.specs.declared.kinds.Distribute.{Distribute}
use Rattle.graph_nodes.specs.declared.locals.FopState.{FopState}
use Rattle.graph_nodes.specs.declared.locals.Local.{Local}
use Rattle.graph_nodes.specs.Costs.{fop_units, jobs_for}
use Rattle.graph_nodes.specs.Distribute.{Gives, IsFopBegun, IsKept, TakesReply, IsHeld, kept_with}

pub fop_begun : (node : Distribute) (old new : Context) (entry : Entry) (f : Fop) (fop : DhtFop) (next : DhtNext) (jobs : ℕ) (step : Step Down Up Local)
    → Gives node.sets (record { entry = entry; fop = fop; learnt = 0; jobs = jobs }) next old step new
    → course_on fop next ≡ fop_course (volume_of entry.call node.sets old.root_sets) node.names node.kept.entries f
    → fop.learnt ≡ [] → fop.asked ≡ asked_of next → jobs ≡ jobs_for node.sets (fop_units node.sets f)
    → IsFopBegun node old entry f step new
fop_begun node old new entry f fop next jobs step gives course learnt asked count = record {
  fop = fop;
  next = next;
  course = course;
  learnt = learnt;
  asked = asked;
  gives = subst (λ (n : ℕ). Gives node.sets (record { entry = entry; fop = fop; learnt = 0; jobs = n }) next old step new) count gives;
}

pub reply_taken : (old new : Distribute) (cx cx_new : Context) (frame state : FopState) (reply : SetReply) (next : DhtNext) (step : Step Down Up Local)
    → Gives new.sets state next cx step cx_new → state ≡ record frame { fop = state.fop; learnt = length state.fop.learnt }
    → course_on state.fop next ≡ goes_on_with frame.fop reply → state.fop.learnt ≡ learnt_with frame.fop reply → state.fop.asked ≡ asked_of next
    → IsKept (kept_with old.kept.entries (drop frame.learnt state.fop.learnt)) old new
    → TakesReply old cx frame reply step new cx_new
reply_taken old new cx cx_new frame state reply next step gives is course learnt asked kept = record {
  fop = state.fop;
  next = next;
  course = course;
  learnt = learnt;
  asked = asked;
  gives = subst (λ (n : ℕ). Gives n (record frame { fop = state.fop; learnt = length state.fop.learnt }) next cx step cx_new) kept.sets
      (subst (λ (s : FopState). Gives new.sets s next cx step cx_new) is gives);
  kept = kept;
}

pub hold_taken : (node : Distribute) (cx cx_new : Context) (frame : FopState) (fop : DhtFop) (next : DhtNext) (step : Step Down Up Local)
    → Gives node.sets (record frame { fop = fop }) next cx step cx_new
    → course_on fop next ≡ goes_held_with frame.fop → fop.learnt ≡ frame.fop.learnt → fop.asked ≡ asked_of next
    → IsHeld node cx frame step cx_new
hold_taken node cx cx_new frame fop next step gives course learnt asked = record {
  fop = fop;
  next = next;
  course = course;
  learnt = learnt;
  asked = asked;
  gives = gives;
}
