use Rattle.std.proofs.Common.{rules, ◌≡◌, ℕ, ◌+◌, ◌-◌, min, length, Bool, true, false, List, [], ◌∷◌, ◌++◌, Fits, w8, w32, w64, Bor, MutBor}
use Rattle.fop_types.specs.declared.messages.Input.{Input}
use Rattle.wire_xdr.specs.code.MessageParsers.{input_at}
use Rattle.wire_xdr.proofs.Decoders.{gives_wrong, gives_short, decoded_front, decoded_wrong, decoded_short, input_front, input_wrong, input_short}
use Rattle.wire_xdr.proofs.decode.decode_req.Goals as goal

pub returns-in-Ok : goal.returns-in-Ok
returns-in-Ok c =
    record {
      said = input_front _ _ _ _ c.in-Ok.ensures c.before-used.ensures;
      read = decoded_front _ _ _ _ (input_at c.args.bytes.now) c.in-Ok.ensures c.before-used.ensures;
    }

pub returns-in-Err-Wrong : goal.returns-in-Err-Wrong
returns-in-Err-Wrong c =
    let is = gives_wrong Input c.in-Err-Wrong.field-0 (input_at c.args.bytes.now) c.in-Err-Wrong.left c.in-Err-Wrong.ensures c.in-Err-Wrong.field-0-is in
    record {
      said = input_wrong _ _ _ is c.before-place.ensures;
      read = decoded_wrong Input _ _ _ (input_at c.args.bytes.now) is c.before-place.ensures;
    }

pub returns-in-Err-Short : goal.returns-in-Err-Short
returns-in-Err-Short c =
    let is = gives_short Input c.in-Err-Short.field-0 (input_at c.args.bytes.now) c.in-Err-Short.ensures c.in-Err-Short.field-0-is in
    record {
      said = input_short _ _ is c.before-place-in-Err-Short.ensures;
      read = decoded_short Input _ _ (input_at c.args.bytes.now) is c.before-place-in-Err-Short.ensures;
    }
