-- A copy and its replacement.
use Rattle.std.proofs.Common.{◌≡◌, refl, sym, ap, subst, ◌∙◌, arith}
use Rattle.std.specs.Prelude.{ℕ, ◌<◌, ◌≤◌, ◌+◌, ◌-◌, List, Some, length, slice_get}
use Rattle.std.proofs.lemmas.Option.{slice_get_within}
use Rattle.fop_types.specs.declared.cells.Cell.{Cell}
use Rattle.fop_types.specs.declared.copy_jobs.CopyRecord.{CopyRecord}
use Rattle.fop_types.specs.declared.messages.BrickRep.TheVariants.{Done}
use Rattle.fop_types.specs.declared.messages.BrickReq.{BrickReq}
use Rattle.fop_types.specs.declared.messages.BrickReq.TheVariants.{Fetch, Replace}
use Rattle.fop_types.specs.declared.messages.DoneArm.{DoneArm}
use Rattle.fop_types.specs.declared.messages.DoneArm.TheVariants.{Nothing, Content}
use Rattle.fop_types.specs.declared.messages.Input.TheVariants.{Request}
use Rattle.fop_types.specs.declared.messages.OutKind.{OutKind}
use Rattle.fop_types.specs.declared.messages.OutKind.TheVariants.{Reply}
use Rattle.fop_types.specs.declared.messages.Output.{Output}
use Rattle.graph_build.specs.declared.plans.Plan.{Plan}
use Rattle.script_lang.specs.declared.scripts.Script.{Script}
use Rattle.wire_xdr.specs.WireText.{input_text, output_text}
use Rattle.brick_machine.specs.Journal.{Journal}
use Rattle.mount_log.proofs.Items.{some_is}
use Rattle.mount_log.specs.Causes.{plan_of_volfile, set_of_plan}
use Rattle.mount_log.specs.declared.logs.HubEvent.{HubEvent}
use Rattle.mount_log.specs.declared.logs.HubEvent.TheVariants.{Arrive}
use Rattle.mount_log.specs.declared.logs.Log.{Log}
use Rattle.change_audit.specs.Answered.{IsDoneIn}
use Rattle.change_audit.specs.CallGraphs.{AreGraphsOf}
use Rattle.change_audit.specs.Claims.{KeepClaims, entry_by, place_or_first}
use Rattle.change_audit.specs.Copied.{IsWithinSet, IsReplaced, CopiesAreMade}
use Rattle.change_audit.specs.Copying.{IsSentAs, replace_of, IsConfirmed, IsReplacementOf, IsWithinTables, IsCopyClaimed, IsCopyDue}
use Rattle.change_audit.specs.Journals.{IsInputOf}
use Rattle.change_audit.specs.Served.{done_text}
use Rattle.change_audit.specs.declared.call_graphs.CallGraphs.{CallGraphs}
use Rattle.change_audit.specs.declared.copy_requests.Replacement.{Replacement}
use Rattle.change_audit.proofs.Items.{each_more}

-- ---- requests with their answers

pub sent_as : (bricks : List Journal) (brick taken wind graph : ℕ) (req : BrickReq) (bytes : List ℕ) → IsInputOf bricks brick taken bytes → bytes ≡ input_text (Request wind graph req)
    → IsSentAs bricks brick taken wind graph req
sent_as bricks brick taken wind graph req bytes i is = record { at = i.at; there = i.there; place = i.place; request = i.input ∙ ap Some is; counted = i.counted }

pub done_in : (log : Log) (bricks : List Journal) (brick wind graph event taken : ℕ) (req : BrickReq) (arm : DoneArm) (bytes : List ℕ) → slice_get log.events event ≡ Some (Arrive brick bytes)
    → bytes ≡ output_text (record { taken = taken; kind = Reply wind (Done arm) }) → IsSentAs bricks brick taken wind graph req → IsDoneIn log bricks brick wind graph event req arm
done_in log bricks brick wind graph event taken req arm bytes there text sent = record {
  at = sent.at;
  there = sent.there;
  place = sent.place;
  request = sent.request;
  arrived = there ∙ ap (λ (b : List ℕ). Some (Arrive brick b)) (text ∙ ap (λ (n : ℕ). output_text (record { taken = n; kind = Reply wind (Done arm) })) sent.counted);
}

pub output_made : (o : Output) (kind : OutKind) → o.kind ≡ kind → o ≡ record { taken = o.taken; kind = kind }
output_made o kind is = ap (λ (k : OutKind). record o { kind = k }) is

pub confirmed_is : (log : Log) (bricks : List Journal) (brick event : ℕ) (r : Replacement) (bytes : List ℕ) (taken wind : ℕ) → slice_get log.events event ≡ Some (Arrive brick bytes)
    → bytes ≡ done_text taken wind → IsSentAs bricks brick taken r.wind r.graph (replace_of r) → r.wind ≡ wind → IsConfirmed log bricks brick event r
confirmed_is log bricks brick event r bytes taken wind there text sent same =
    done_in log bricks brick r.wind r.graph event taken (replace_of r) Nothing bytes there (text ∙ ap (λ (w : ℕ). done_text taken w) (sym same)) sent

pub replaced_is : (log : Log) (bricks : List Journal) (copy : CopyRecord) (number call fetched_at replaced_at : ℕ) (r : Replacement) → replaced_at < number → IsConfirmed log bricks copy.sink replaced_at r
    → IsReplacementOf log bricks copy call fetched_at r → IsReplaced log bricks copy number call r.graph r.wind
replaced_is log bricks copy number call fetched_at replaced_at r lt done by = record {
  content = r.content;
  fetch = by.fetch.wind;
  fetched_at = fetched_at;
  replaced_at = replaced_at;
  fetched =
      subst (λ (l : ℕ). IsDoneIn log bricks copy.source by.fetch.wind r.graph fetched_at (Fetch 0 copy.cell) (Content r.content l)) by.own.last
      (subst (λ (c : Cell). IsDoneIn log bricks copy.source by.fetch.wind r.graph fetched_at (Fetch 0 c) (Content r.content r.last)) by.own.cell by.fetch.fetched);
  fetch_opened = by.fetch.opened;
  opened = by.opened;
  replaced =
      subst (λ (l : ℕ). IsDoneIn log bricks copy.sink r.wind r.graph replaced_at (Replace copy.cell l r.content) Nothing) by.own.last
      (subst (λ (c : Cell). IsDoneIn log bricks copy.sink r.wind r.graph replaced_at (Replace c r.last r.content) Nothing) by.own.cell done);
  in_time = lt;
}

-- ---- the set

pub within : (script : Script) (log : Log) (tables : CallGraphs) (plans : List Plan) (graph : ℕ) (copy : CopyRecord) → AreGraphsOf script log tables → IsWithinTables plans tables graph copy
    → IsWithinSet script plans log graph copy
within script log tables plans graph copy are w = record {
  set = w.set;
  plan = w.plan;
  plan_is = subst (λ (v : List ℕ). set_of_plan (plan_of_volfile plans (slice_get v (graph - 1))) w.set ≡ Some w.plan) are.volfiles w.plan_is;
  source = w.source;
  sink = w.sink;
  differ = w.differ;
}

-- ---- the copies so far, with their replacements

module _ (script : Script) (plans : List Plan) (log : Log) (bricks : List Journal) where
  pub copy_due : (claims : List (ℕ × ℕ)) (k number : ℕ) (copy : CopyRecord) → Some copy ≡ slice_get log.copies k → Some number ≡ slice_get log.copied k
      → IsCopyClaimed script plans log bricks claims k number copy → (other : CopyRecord) → slice_get log.copies k ≡ Some other → IsCopyDue script plans log bricks claims k other
  copy_due claims k number copy here number_here claimed other there at at_there =
      subst (λ (c : CopyRecord). IsCopyClaimed script plans log bricks claims k at c) (some_is copy other (here ∙ there))
      (subst (λ (n : ℕ). IsCopyClaimed script plans log bricks claims k n copy) (some_is number at (number_here ∙ at_there)) claimed)

  -- a copy keeps its replacement
  copy_kept : (before after : List (ℕ × ℕ)) (k : ℕ) (copy : CopyRecord) → KeepClaims before after → IsCopyDue script plans log bricks before k copy → IsCopyDue script plans log bricks after k copy
  copy_kept before after k copy keep due number there = let is = due number there in record { wind = is.wind; claimed = keep is.wind k is.claimed; made = is.made }

  -- the copies before a place
  abbrev AreDueTo : ℕ → List (ℕ × ℕ) → Type 0
  AreDueTo n claims = (j : ℕ) (copy : CopyRecord) → j < n → slice_get log.copies j ≡ Some copy → IsCopyDue script plans log bricks claims j copy

  pub copies_next : (n : ℕ) (before after : List (ℕ × ℕ)) → KeepClaims before after → ((copy : CopyRecord) → slice_get log.copies n ≡ Some copy → IsCopyDue script plans log bricks after n copy) → AreDueTo n before
      → AreDueTo (n + 1) after
  copies_next n before after keep own so_far =
      each_more (λ (j : ℕ) (c : CopyRecord). IsCopyDue script plans log bricks after j c) log.copies n own (λ j c below there. copy_kept before after j c keep (so_far j c below there))

  pub all_made : (n : ℕ) (claims : List (ℕ × ℕ)) → length log.copied ≡ length log.copies → length log.skipped ≡ length log.skips → length log.copies ≤ n → AreDueTo n claims
      → CopiesAreMade script plans log bricks
  all_made n claims copied skipped le are = record {
    copied = copied;
    skipped = skipped;
    copy_of = entry_by claims;
    each = λ k number copy there number_there.
        let lt = slice_get_within log.copies k copy there in let has = are k copy (omega (arith, lt, le)) there number number_there in
        record { wind = has.wind; own = ap place_or_first has.claimed; made = has.made };
  }
