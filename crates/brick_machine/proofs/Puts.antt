-- Outputs put one after another.
use Rattle.std.proofs.Common.{◌≡◌, ◌∙◌, ◌++◌, ◌∷◌, [], List, ℕ, refl, ap, sym, map, append-nil, append_assoc}
use Rattle.fop_types.specs.declared.messages.OutKind.{OutKind}
use Rattle.fop_types.specs.declared.messages.Output.{Output}
use Rattle.wire_xdr.specs.WireText.{output_text}
use Rattle.brick_machine.specs.Machine.{with_taken}
use Rattle.brick_machine.specs.code.Outs.{Outgoing, put_out}

pub put_nothing : (o : Outgoing) → put_out o [] ≡ o
put_nothing o = ap (λ (l : List (List ℕ)). record { taken = o.taken; texts = l }) (append-nil o.texts)

made_of_both : (taken : ℕ) (a b : List OutKind) → map output_text (with_taken taken a) ++ map output_text (with_taken taken b) ≡ map output_text (with_taken taken (a ++ b))
made_of_both taken [] b = refl
made_of_both taken (k ∷ a) b = ap (λ (l : List (List ℕ)). output_text (record { taken = taken; kind = k }) ∷ l) (made_of_both taken a b)

pub put_both : (o : Outgoing) (a b : List OutKind) → put_out (put_out o a) b ≡ put_out o (a ++ b)
put_both o a b =
    ap (λ (l : List (List ℕ)). record { taken = o.taken; texts = l })
    (append_assoc o.texts (map output_text (with_taken o.taken a)) (map output_text (with_taken o.taken b)) ∙ ap (λ (l : List (List ℕ)). o.texts ++ l) (made_of_both o.taken a b))
