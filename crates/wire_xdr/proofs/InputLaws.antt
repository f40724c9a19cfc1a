-- Inputs are read exactly, by their kinds.
use Rattle.std.proofs.Common.{◌≡◌, ◌≢◌, ◌<◌, ◌≤◌, ◌∷◌, ◌∙◌, ◌++◌, ◌+◌, ◌-◌, ◌*◌, ◌^◌, ℕ, suc, zero, Bool, true, false, not, ◌&&◌, ◌==◌, sym, refl, ap, ap₂, subst, List, [], length, arith, append_assoc, append-nil, Option, Some, None, if◌then◌else◌}
use Rattle.fop_types.specs.Rank.{rank}
use Rattle.fop_types.specs.declared.cells.Gfid.{Gfid}
use Rattle.fop_types.specs.declared.cells.Aspect.{Aspect}
use Rattle.fop_types.specs.declared.cells.Aspect.TheVariants.{Data, Meta, Entry}
use Rattle.fop_types.specs.declared.cells.Cell.{Cell}
use Rattle.fop_types.specs.declared.contents.Mask.{Mask}
use Rattle.fop_types.specs.declared.contents.Row.{Row}
use Rattle.fop_types.specs.declared.contents.Content.{Content}
use Rattle.fop_types.specs.declared.contents.Content.TheVariants as content
use Rattle.fop_types.specs.declared.store_ops.StoreOp.{StoreOp}
use Rattle.fop_types.specs.declared.store_ops.StoreOp.TheVariants as op
use Rattle.fop_types.specs.declared.messages.BrickReq.{BrickReq}
use Rattle.fop_types.specs.declared.messages.BrickReq.TheVariants as req
use Rattle.fop_types.specs.declared.messages.DoneArm.{DoneArm}
use Rattle.fop_types.specs.declared.messages.DoneArm.TheVariants as arm
use Rattle.fop_types.specs.declared.messages.BrickRep.{BrickRep}
use Rattle.fop_types.specs.declared.messages.BrickRep.TheVariants as rep
use Rattle.fop_types.specs.declared.messages.Proc.{Proc}
use Rattle.fop_types.specs.declared.messages.Proc.TheVariants as proc
use Rattle.fop_types.specs.declared.messages.Input.{Input}
use Rattle.fop_types.specs.declared.messages.Input.TheVariants as input
use Rattle.fop_types.specs.declared.messages.OutKind.{OutKind}
use Rattle.fop_types.specs.declared.messages.OutKind.TheVariants as out
use Rattle.fop_types.specs.declared.messages.Output.{Output}
use Rattle.wire_xdr.specs.Xdr.{unit, hyper, opaque, list, texts, IsUnit, IsHyper}
use Rattle.wire_xdr.specs.Order.{Each}
use Rattle.wire_xdr.specs.PartText.{cell_text, AreCells, content_kind, content_arm, content_text, IsContent, AreAttrs, AreItems}
use Rattle.wire_xdr.specs.MessageText.{op_number, op_arm, op_text, IsOp, req_number, mask_text, req_arm, req_text, AreFew, IsMask, IsOpenFd, IsReq, row_text, IsRow, done_number, done_arm, done_text, IsDoneArm, rep_number, rep_arm, rep_text, IsRep}
use Rattle.wire_xdr.specs.WireText.{proc_number, input_kind, input_arm, input_text, IsInputOf, out_number, out_arm, out_text, IsOutKind, output_text, IsOutputOf}
use Rattle.wire_xdr.specs.Limits.{is_between}
use Rattle.wire_xdr.specs.code.Parsers.{Parser, chain, any_byte, unit_where, between_at, bytes_at, list_at, items_at}
use Rattle.wire_xdr.specs.code.PartParsers.{cells_at, content_arm_at, content_at}
use Rattle.wire_xdr.specs.code.MessageParsers.{op_arm_at, op_at, few_at, mask_of, mask_at, open_fd_at, req_arm_at, req_at, proc_of, is_failing, proc_at, input_arm_at, input_at, row_of, counter_at, one_row_at, row_at, done_arm_at, done_at, rep_arm_at, rep_at, out_arm_at, output_of, output_at}
use Rattle.wire_xdr.proofs.UnitParsers.{between_true, between_holds}
use Rattle.wire_xdr.proofs.Laws.{IsLaw, weaker}
use Rattle.wire_xdr.proofs.QuadLaws.{Says, IsBetween, IsTested, between_law, unit_law, relegal, and_true}
use Rattle.wire_xdr.proofs.FieldLaws.{Made1, Made2, Made3, Made4, one_law, two_law, three_law, four_law, Keyed, keyed_law, IsValue, value_law, Items, total, items_law, list_law}
use Rattle.wire_xdr.proofs.StringLaws.{bytes_law}
use Rattle.wire_xdr.proofs.CellLaws.{rank_bound}
use Rattle.wire_xdr.proofs.HyperLaws.{gfid_law, any_unit_law, any_hyper_law}
use Rattle.wire_xdr.proofs.CellLists.{cells_law, any_cell_law}
use Rattle.wire_xdr.proofs.PartLaws.{any_all, none_above, flag_law, mode_law, span_law, retext, union_law, OfUnit, OfHyper, OfGfid, OfCell, OfFlag, OfMode, OfSpan, OfOneAttr, attr_law, OfAttrName, attr_name_law, attrs_law, OfOneItem, item_law, OfItemName, item_name_law, items_of_directory_law}
use Rattle.wire_xdr.proofs.RequestLaws.{req_law}

-- the procedure and the number of a fault that is made
abbrev pub OfProc : Bool → Proc → Type 0
OfProc o p = proc_number p ≢ 2

pub proc_law : IsLaw 4 (Says OfProc (λ (p : Proc). unit (proc_number p))) proc_at
proc_law = relegal into from (one_law proc_of (λ (p : Proc). unit (proc_number p)) joins (unit_law is_failing 1 refl (omega arith)))
  where
    number_back : (n : ℕ) → is_failing n ≡ true → proc_number (proc_of n) ≡ n
    number_back zero h = absurd cc
    number_back (suc zero) h = refl
    number_back (suc (suc zero)) h = absurd cc
    number_back (suc (suc (suc zero))) h = refl
    number_back (suc (suc (suc (suc zero)))) h = refl
    number_back (suc (suc (suc (suc (suc zero))))) h = refl
    number_back (suc (suc (suc (suc (suc (suc zero)))))) h = refl
    number_back (suc (suc (suc (suc (suc (suc (suc zero))))))) h = refl
    number_back (suc (suc (suc (suc (suc (suc (suc (suc zero)))))))) h = refl
    number_back (suc (suc (suc (suc (suc (suc (suc (suc (suc zero))))))))) h = refl
    number_back (suc (suc (suc (suc (suc (suc (suc (suc (suc (suc zero)))))))))) h = refl
    number_back (suc (suc (suc (suc (suc (suc (suc (suc (suc (suc (suc zero))))))))))) h = refl
    number_back (suc (suc (suc (suc (suc (suc (suc (suc (suc (suc (suc (suc zero)))))))))))) h = refl
    number_back (suc (suc (suc (suc (suc (suc (suc (suc (suc (suc (suc (suc (suc n))))))))))))) h =
        let b = between_holds 1 12 (suc (suc (suc (suc (suc (suc (suc (suc (suc (suc (suc (suc (suc n))))))))))))) (and_true _ _ h).0 in absurd (omega (arith, b.1))

    joins : (o : Bool) (n : ℕ) → IsTested is_failing o n → unit (proc_number (proc_of n)) ≡ unit n
    joins o n h = ap unit (number_back n h.passes)

    never_two : (n : ℕ) → n ≡ 2 → is_failing n ≡ true → ⊥
    never_two n e h = let t : is_failing 2 ≡ true = ap is_failing (sym e) ∙ h in absurd cc

    into : (o : Bool) (p : Proc) → Made1 (IsTested is_failing) proc_of o p → OfProc o p
    into o p h = λ e. never_two h.a (sym (number_back h.a h.said_a.passes) ∙ ap proc_number (sym h.made) ∙ e) h.said_a.passes

    from : (o : Bool) (p : Proc) → OfProc o p → Made1 (IsTested is_failing) proc_of o p
    from o proc.Lock h = record { a = 1; said_a = record { passes = refl; bound = omega arith }; made = refl }
    from o proc.Unlock h = absurd (h refl)
    from o proc.Mark h = record { a = 3; said_a = record { passes = refl; bound = omega arith }; made = refl }
    from o proc.Op h = record { a = 4; said_a = record { passes = refl; bound = omega arith }; made = refl }
    from o proc.Post h = record { a = 5; said_a = record { passes = refl; bound = omega arith }; made = refl }
    from o proc.Fetch h = record { a = 6; said_a = record { passes = refl; bound = omega arith }; made = refl }
    from o proc.Replace h = record { a = 7; said_a = record { passes = refl; bound = omega arith }; made = refl }
    from o proc.Clear h = record { a = 8; said_a = record { passes = refl; bound = omega arith }; made = refl }
    from o proc.Settle h = record { a = 9; said_a = record { passes = refl; bound = omega arith }; made = refl }
    from o proc.Index h = record { a = 10; said_a = record { passes = refl; bound = omega arith }; made = refl }
    from o proc.Open h = record { a = 11; said_a = record { passes = refl; bound = omega arith }; made = refl }
    from o proc.Release h = record { a = 12; said_a = record { passes = refl; bound = omega arith }; made = refl }

abbrev pub OfNumber : Bool → ℕ → Type 0
OfNumber o n = (1 ≤ n) × IsUnit n

pub number_law : IsLaw 4 (Says OfNumber unit) (between_at 1 4294967295)
number_law = relegal (λ o n h. (h.low, omega (arith, h.high))) (λ o n h. record { low = h.0; high = omega (arith, h.1) }) (between_law 1 4294967295 (omega arith) (omega arith))

abbrev pub OfVersion : Bool → ℕ → Type 0
OfVersion o n = n ≡ 1

pub version_law : IsLaw 4 (Says OfVersion unit) (between_at 1 1)
version_law = relegal (λ o n h. omega (arith, h.low, h.high)) (λ o n h. record { low = omega (arith, h); high = omega (arith, h) }) (between_law 1 1 (omega arith) (omega arith))

abbrev pub InputArm : ℕ → Bool → Input → Type 0
InputArm zero o y = Made3 OfHyper (λ _. OfUnit) (λ _ _. IsReq) input.Request o y
InputArm (suc zero) o y = Made1 OfUnit input.Down o y
InputArm (suc (suc zero)) o y = IsValue input.Up o y
InputArm (suc (suc (suc zero))) o y = Made2 OfUnit (λ _. OfVersion) input.Connect o y
InputArm (suc (suc (suc (suc zero)))) o y = Made1 OfUnit input.Disconnect o y
InputArm (suc (suc (suc (suc (suc zero))))) o y = Made2 OfProc (λ _. OfNumber) input.FaultAt o y
InputArm (suc (suc (suc (suc (suc (suc k)))))) o y = ⊥

pub input_law : IsLaw 500000004 (Says IsInputOf input_text) input_at
input_law = union_law 0 5 input_kind input_arm InputArm IsInputOf (omega arith) (omega arith) keys into back ends arms
  where
    keys : (k : ℕ) (o : Bool) (y : Input) → InputArm k o y → input_kind y ≡ k
    keys zero o y h = ap input_kind h.made
    keys (suc zero) o y h = ap input_kind h.made
    keys (suc (suc zero)) o y h = ap input_kind h.made
    keys (suc (suc (suc zero))) o y h = ap input_kind h.made
    keys (suc (suc (suc (suc zero)))) o y h = ap input_kind h.made
    keys (suc (suc (suc (suc (suc zero))))) o y h = ap input_kind h.made
    keys (suc (suc (suc (suc (suc (suc k)))))) o y h = absurd h

    into : (k : ℕ) (o : Bool) (y : Input) → 0 ≤ k → k ≤ 5 → InputArm k o y → IsInputOf o y
    into zero o y l m h = subst (IsInputOf o) (sym h.made) (h.said_a, h.said_b, h.said_c)
    into (suc zero) o y l m h = subst (IsInputOf o) (sym h.made) h.said_a
    into (suc (suc zero)) o y l m h = subst (IsInputOf o) (sym h.made) tt
    into (suc (suc (suc zero))) o y l m h = subst (IsInputOf o) (sym h.made) (h.said_a, h.said_b)
    into (suc (suc (suc (suc zero)))) o y l m h = subst (IsInputOf o) (sym h.made) h.said_a
    into (suc (suc (suc (suc (suc zero))))) o y l m h = subst (IsInputOf o) (sym h.made) (h.said_a, h.said_b.0, h.said_b.1)
    into (suc (suc (suc (suc (suc (suc k)))))) o y l m h = absurd h

    back : (o : Bool) (y : Input) → IsInputOf o y → InputArm (input_kind y) o y
    back o (input.Request wind graph req) h = record { a = wind; b = graph; c = req; said_a = h.0; said_b = h.1; said_c = h.2; made = refl }
    back o (input.Down serve) h = record { a = serve; said_a = h; made = refl }
    back o input.Up h = record { made = refl }
    back o (input.Connect graph version) h = record { a = graph; b = version; said_a = h.0; said_b = h.1; made = refl }
    back o (input.Disconnect graph) h = record { a = graph; said_a = h; made = refl }
    back o (input.FaultAt p number) h = record { a = p; b = number; said_a = h.0; said_b = (h.1, h.2); made = refl }

    ends : (o : Bool) (y : Input) → IsInputOf o y → (0 ≤ input_kind y) × (input_kind y ≤ 5)
    ends o (input.Request wind graph req) h = (omega arith, omega arith)
    ends o (input.Down serve) h = (omega arith, omega arith)
    ends o input.Up h = (omega arith, omega arith)
    ends o (input.Connect graph version) h = (omega arith, omega arith)
    ends o (input.Disconnect graph) h = (omega arith, omega arith)
    ends o (input.FaultAt p number) h = (omega arith, omega arith)

    arms : (k : ℕ) → 0 ≤ k → k ≤ 5 → IsLaw 500000000 (Says (InputArm k) input_arm) (input_arm_at k)
    arms zero l m = weaker 400000016 500000000 (omega arith) (three_law input.Request input_arm (λ o a b c x y z. refl) any_hyper_law (λ a x. any_unit_law) (λ a b x y. req_law))
    arms (suc zero) l m = weaker 4 500000000 (omega arith) (one_law input.Down input_arm (λ o a x. refl) any_unit_law)
    arms (suc (suc zero)) l m = weaker 0 500000000 (omega arith) (value_law input.Up input_arm refl)
    arms (suc (suc (suc zero))) l m = weaker 8 500000000 (omega arith) (two_law input.Connect input_arm (λ o a b x y. refl) any_unit_law (λ a x. version_law))
    arms (suc (suc (suc (suc zero)))) l m = weaker 4 500000000 (omega arith) (one_law input.Disconnect input_arm (λ o a x. refl) any_unit_law)
    arms (suc (suc (suc (suc (suc zero))))) l m = weaker 8 500000000 (omega arith) (two_law input.FaultAt input_arm (λ o a b x y. refl) proc_law (λ a x. number_law))
    arms (suc (suc (suc (suc (suc (suc k)))))) l m = absurd (omega (arith, m))
