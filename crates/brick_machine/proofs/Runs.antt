-- Runs of a brick: what one more input adds, and that later inputs change no earlier output.
use Rattle.std.proofs.Common.{◌≡◌, ◌∙◌, ◌++◌, ◌∷◌, ◌+◌, [], ℕ, suc, List, map, length, refl, sym, ap, arith, append-nil, append_assoc}
use Rattle.std.specs.Prelude.{Bool, false, MatchBool}
use Rattle.std.proofs.lemmas.Bool.{MatchBool-at_false}
use Rattle.fop_types.specs.declared.messages.Input.{Input}
use Rattle.fop_types.specs.declared.messages.OutKind.{OutKind}
use Rattle.fop_types.specs.declared.messages.Output.{Output}
use Rattle.wire_xdr.specs.WireText.{output_text}
use Rattle.wire_messages.specs.Messages.{input_in}
use Rattle.brick_machine.specs.State.{start, named}
use Rattle.brick_machine.specs.Machine.{served, with_taken, state_from, outputs_from, state_of, outputs_of, texts_of}
use Rattle.wire_messages.specs.declared.messages.Message.{Message}
use Rattle.brick_machine.specs.code.Outs.{Outgoing, put_out}
use Rattle.brick_machine.specs.declared.state.State.{State}
use Rattle.brick_machine.proofs.Names.{served_named}

pub state_from_append : (s : State) (xs ys : List (List ℕ)) → state_from s (xs ++ ys) ≡ state_from (state_from s xs) ys
state_from_append s [] ys = refl
state_from_append s (x ∷ xs) ys = state_from_append (served s (input_in x)).state xs ys

pub outputs_from_append : (s : State) (before : ℕ) (xs ys : List (List ℕ))
    → outputs_from s before (xs ++ ys) ≡ outputs_from s before xs ++ outputs_from (state_from s xs) (before + length xs) ys
outputs_from_append s before [] ys =
    let none : before ≡ before + 0 = omega arith in
    ap (λ (n : ℕ). outputs_from s n ys) none
outputs_from_append s before (x ∷ xs) ys =
    let more : before + 1 + length xs ≡ before + suc (length xs) = omega arith in
    ap (λ (l : List Output). made ++ l) (outputs_from_append next (before + 1) xs ys)
    ∙ ap (λ (n : ℕ). made ++ (outputs_from next (before + 1) xs ++ outputs_from (state_from next xs) n ys)) more
    ∙ sym (append_assoc made (outputs_from next (before + 1) xs) (outputs_from (state_from next xs) (before + suc (length xs)) ys))
  where
    next : State
    next = (served s (input_in x)).state

    made : List Output
    made = with_taken (before + 1) (served s (input_in x)).outs

-- one more input
pub state_of_push : (xs : List (List ℕ)) (x : List ℕ) → state_of (xs ++ x ∷ []) ≡ (served (state_of xs) (input_in x)).state
state_of_push xs x = state_from_append start xs (x ∷ [])

pub outputs_of_push : (xs : List (List ℕ)) (x : List ℕ)
    → outputs_of (xs ++ x ∷ []) ≡ outputs_of xs ++ with_taken (length xs + 1) (served (state_of xs) (input_in x)).outs
outputs_of_push xs x =
    let begin : 0 + length xs + 1 ≡ length xs + 1 = omega arith in
    outputs_from_append start 0 xs (x ∷ [])
    ∙ ap (λ (l : List Output). outputs_of xs ++ l) (append-nil (with_taken (0 + length xs + 1) (served (state_of xs) (input_in x)).outs))
    ∙ ap (λ (n : ℕ). outputs_of xs ++ with_taken n (served (state_of xs) (input_in x)).outs) begin

text_of_both : (xs ys : List Output) → map output_text (xs ++ ys) ≡ map output_text xs ++ map output_text ys
text_of_both [] ys = refl
text_of_both (x ∷ xs) ys = ap (λ (l : List (List ℕ)). output_text x ∷ l) (text_of_both xs ys)

pub texts_of_push : (xs : List (List ℕ)) (x : List ℕ)
    → texts_of (xs ++ x ∷ []) ≡ texts_of xs ++ map output_text (with_taken (length xs + 1) (served (state_of xs) (input_in x)).outs)
texts_of_push xs x = ap (λ (l : List Output). map output_text l) (outputs_of_push xs x) ∙ text_of_both (outputs_of xs) (with_taken (length xs + 1) (served (state_of xs) (input_in x)).outs)

-- an input that was served: journal, outputs and state go on together, under the same names
pub served_whole : (old came all made more texts : List (List ℕ)) (input slice : List ℕ) (s after : State) (m : Message Input) (n : ℕ) (first last : Outgoing) (spent : Bool)
    → (made ≡ texts_of old) × MatchBool spent (Unit {0}) (s ≡ named s.store.names (state_of old)) → spent ≡ false
    → came ≡ old → all ≡ came ++ input ∷ [] → slice ≡ input → m ≡ input_in slice
    → n ≡ length came → first ≡ record { taken = n + 1; texts = [] } → after ≡ (served s m).state → last ≡ put_out first (served s m).outs
    → texts ≡ last.texts → more ≡ made ++ texts → (more ≡ texts_of all) × (after ≡ named after.store.names (state_of all))
served_whole old came all made more texts input slice s after m n first last spent was sound same put sliced read counted begun changed put_last taken_out added =
    let is : s ≡ named s.store.names (state_of old) = MatchBool-at_false (Unit {0}) (s ≡ named s.store.names (state_of old)) sound was.1 in
    let whole : m ≡ input_in input = read ∙ ap input_in sliced in
    let joined : all ≡ old ++ input ∷ [] = put ∙ ap (λ (l : List (List ℕ)). l ++ input ∷ []) same in
    let outs_now : (served s m).outs ≡ (served (state_of old) m).outs = ap (λ (t : State). (served t m).outs) is ∙ (served_named s.store.names (state_of old) m).outs in
    let now : (served s m).state ≡ named s.store.names (served (state_of old) m).state = ap (λ (t : State). (served t m).state) is ∙ (served_named s.store.names (state_of old) m).state in
    let read_now : named s.store.names (served (state_of old) m).state ≡ named s.store.names (served (state_of old) (input_in input)).state
    = ap (λ (x : Message Input). named s.store.names (served (state_of old) x).state) whole in
    let one_more : (served (state_of old) (input_in input)).state ≡ state_of all = sym (state_of_push old input) ∙ ap state_of (sym joined) in
    let state_now : after ≡ named s.store.names (state_of all) = changed ∙ now ∙ read_now ∙ ap (λ (t : State). named s.store.names t) one_more in
    let kept : after.store.names ≡ s.store.names = ap (λ (t : State). t.store.names) state_now in
    let made_now : texts ≡ map output_text (with_taken (n + 1) (served s m).outs)
    = taken_out ∙ ap (λ (o : Outgoing). o.texts) (put_last ∙ ap (λ (o : Outgoing). put_out o (served s m).outs) begun) in (
      added ∙ ap (λ (l : List (List ℕ)). made ++ l) made_now
          ∙ ap (λ (k : ℕ). made ++ map output_text (with_taken (k + 1) (served s m).outs)) (counted ∙ ap length same)
          ∙ ap (λ (ks : List OutKind). made ++ map output_text (with_taken (length old + 1) ks)) outs_now
          ∙ ap (λ (x : Message Input). made ++ map output_text (with_taken (length old + 1) (served (state_of old) x).outs)) whole
          ∙ ap (λ (l : List (List ℕ)). l ++ map output_text (with_taken (length old + 1) (served (state_of old) (input_in input)).outs)) was.0
          ∙ sym (texts_of_push old input) ∙ ap texts_of (sym joined),
      state_now ∙ ap (λ (l : List (List ℕ)). named l (state_of all)) (sym kept),
    )
