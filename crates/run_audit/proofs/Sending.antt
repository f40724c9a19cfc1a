-- Inputs that can be armed are short.
use Rattle.std.proofs.Common.{◌≡◌, sym, ap, ◌∙◌, arith}
use Rattle.std.specs.Prelude.{ℕ, ◌+◌, ◌≤◌, List, ◌++◌, Option, Some, None, length}
use Rattle.std.proofs.lemmas.List.{length-append}
use Rattle.fop_types.specs.declared.messages.Input.{Input}
use Rattle.fop_types.specs.declared.messages.Input.TheVariants as input
use Rattle.script_lang.specs.declared.scripts.Action.{Action}
use Rattle.wire_xdr.specs.WireText.{input_text, proc_number}
use Rattle.wire_xdr.specs.Xdr.{unit}
use Rattle.wire_xdr.proofs.QuadLaws.{unit_size}
use Rattle.wire_messages.specs.Messages.{input_in, MessagesReadBack}
use Rattle.wire_messages.specs.declared.messages.Message.TheVariants.{Whole}
use Rattle.mount_log.specs.Arms.{action_for}

two : (a b : ℕ) → length (unit a ++ unit b) ≡ 8
two a b = let l = length-append (unit a) (unit b) in let p = unit_size a in let q = unit_size b in omega (arith, l, p, q)

three : (a b c : ℕ) → length (unit a ++ (unit b ++ unit c)) ≡ 12
three a b c = let l = length-append (unit a) (unit b ++ unit c) in let p = unit_size a in let q = two b c in omega (arith, l, p, q)

short_text : (brick : ℕ) (sent : Input) (a : Action) → action_for brick sent ≡ Some a → length (input_text sent) ≤ 12
short_text brick (input.Down serve) a is = let l = two 1 serve in omega (arith, l)
short_text brick (input.FaultAt p number) a is = let l = three 5 (proc_number p) number in omega (arith, l)
short_text brick input.Up a is = absurd cc
short_text brick (input.Connect graph version) a is = absurd cc
short_text brick (input.Disconnect graph) a is = absurd cc
short_text brick (input.Request wind graph req) a is = absurd cc

pub short : MessagesReadBack → (brick : ℕ) (bytes : List ℕ) (sent : Input) (a : Action) → input_in bytes ≡ Whole sent → action_for brick sent ≡ Some a → length bytes ≤ 12
short back brick bytes sent a is can =
    let l : length bytes ≡ length (input_text sent) = ap length (back.0.1 bytes sent is).1 in let s = short_text brick sent a can in omega (arith, l, s)
