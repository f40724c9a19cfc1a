-- What the log says of each brick, and of what arrives from it; and where that is timely, too, arrivals are honest.
use Rattle.std.proofs.Common.{◌≡◌, refl, sym, ap, subst, ◌∙◌, arith}
use Rattle.std.specs.Prelude.{ℕ, zero, suc, ◌<◌, ◌≤◌, ◌+◌, ◌^◌, ◌==◌, nat_lt, nat_le, Bool, true, false, List, [], ◌∷◌, ◌++◌, Option, None, Some, length, map, take, drop, slice_get, if◌then◌else◌}
use Rattle.std.specs.List.{All, AllByRecursion}
use Rattle.std.proofs.lemmas.Bool.{ltb-true, ltb-false, leb-true, eqb-true, eq-eqb, false_from_ne_true}
use Rattle.std.proofs.lemmas.List.{take_all}
use Rattle.std.proofs.lemmas.List.Elements.{filter_passes, recursion_from_All}
use Rattle.std.proofs.lemmas.Option.{slice_get_within}
use Rattle.fop_types.specs.Bounds.{Each}
use Rattle.fop_types.specs.declared.messages.Output.{Output}
use Rattle.wire_xdr.specs.WireText.{output_text, IsOutKind}
use Rattle.wire_messages.specs.Messages.{output_in}
use Rattle.wire_messages.specs.declared.messages.Message.{Message}
use Rattle.wire_messages.specs.declared.messages.Message.TheVariants.{Whole, Wrong}
use Rattle.brick_machine.specs.Encoded.{OutputsAreEncoded}
use Rattle.brick_machine.specs.Journal.{Journal}
use Rattle.brick_machine.specs.Laws.{OutputsStay, OutputsByTaken, outputs_up_to}
use Rattle.brick_machine.specs.Machine.{texts_of, outputs_of}
use Rattle.mount_log.proofs.Items.{some_is}
use Rattle.mount_log.specs.Arrivals.{inputs_to, arrivals_from, arrival_from, sent_before}
use Rattle.mount_log.specs.declared.logs.HubEvent.{HubEvent}
use Rattle.mount_log.specs.declared.logs.HubEvent.TheVariants as logged
use Rattle.mount_log.specs.declared.logs.Log.{Log}
use Rattle.mount_log.specs.Outputs.{IsEncodedOutput, BringsOutput, BringOutputs}
use Rattle.log_audit.specs.Arriving.{AreTimely, IsTimely, CountsAtMost}
use Rattle.log_audit.specs.Honest.{IsOfBrick, IsFrom, ArrivedFrom, HasHonestArrivals, HasJournals}

module _ {X : Type 0} where
  both_parts : (n : ℕ) (xs : List X) → xs ≡ take n xs ++ drop n xs
  both_parts zero xs = refl
  both_parts (suc n) [] = refl
  both_parts (suc n) (x ∷ xs) = ap (λ l. x ∷ l) (both_parts n xs)

  -- a prefix of a prefix
  take_twice : (n m : ℕ) (xs : List X) → n ≤ m → take n (take m xs) ≡ take n xs
  take_twice zero m xs le = refl
  take_twice (suc n) zero xs le = absurd (omega (arith, le))
  take_twice (suc n) (suc m) [] le = refl
  take_twice (suc n) (suc m) (x ∷ xs) le = ap (λ l. x ∷ l) (take_twice n m xs (omega (arith, le)))

  -- what is a prefix of xs is one of all, where xs is one of all
  prefix_of : (ys xs all : List X) → take (length ys) xs ≡ ys → take (length xs) all ≡ xs → take (length ys) all ≡ ys
  prefix_of [] xs all a b = refl
  prefix_of (y ∷ ys) [] all a b = absurd cc
  prefix_of (y ∷ ys) (x ∷ xs) [] a b = absurd cc
  prefix_of (y ∷ ys) (x ∷ xs) (z ∷ all) a b =
      ap (λ l. z ∷ l) (prefix_of ys xs all (tails x y (take (length ys) xs) ys a) (tails z x (take (length xs) all) xs b))
      ∙ ap (λ w. w ∷ ys) (heads z x (take (length xs) all) xs b ∙ heads x y (take (length ys) xs) ys a) where
        heads : (a b : X) (us vs : List X) → a ∷ us ≡ b ∷ vs → a ≡ b
        heads a b us vs e = cc

        tails : (a b : X) (us vs : List X) → a ∷ us ≡ b ∷ vs → us ≡ vs
        tails a b us vs e = cc

module _ {X Y : Type 0} where
  map_take : (f : X → Y) (n : ℕ) (xs : List X) → map f (take n xs) ≡ take n (map f xs)
  map_take f zero xs = refl
  map_take f (suc n) [] = refl
  map_take f (suc n) (x ∷ xs) = ap (λ l. f x ∷ l) (map_take f n xs)

  long_map : (f : X → Y) (xs : List X) → length (map f xs) ≡ length xs
  long_map f [] = refl
  long_map f (x ∷ xs) = ap suc (long_map f xs)

module _ (stay : OutputsStay) where
  texts_stay : (xs ys : List (List ℕ)) → take (length (texts_of xs)) (texts_of (xs ++ ys)) ≡ texts_of xs
  texts_stay xs ys =
      ap (λ n. take n (texts_of (xs ++ ys))) (long_map output_text (outputs_of xs))
      ∙ sym (map_take output_text (length (outputs_of xs)) (outputs_of (xs ++ ys))) ∙ ap (map output_text) (stay xs ys)

  texts_of_prefix : (n : ℕ) (all journal : List (List ℕ)) → take n all ≡ journal → take (length (texts_of journal)) (texts_of all) ≡ texts_of journal
  texts_of_prefix n all journal is =
      ap (λ (l : List (List ℕ)). take (length (texts_of journal)) (texts_of l)) (both_parts n all ∙ ap (λ l. l ++ drop n all) is) ∙ texts_stay journal (drop n all)

  prefix_at : (log : Log) (bricks : List Journal) (brick : ℕ) (b : Journal) → HasJournals log bricks → slice_get bricks brick ≡ Some b
      → arrivals_from brick log.events ≡ take (length (arrivals_from brick log.events)) (texts_of (inputs_to brick log.sent))
  prefix_at log bricks brick b h there =
      sym (prefix_of (arrivals_from brick log.events) (texts_of b.journal) (texts_of (inputs_to brick log.sent)) (h.arrived brick b there)
      (texts_of_prefix (length b.journal) (inputs_to brick log.sent) b.journal (h.journals brick b there)))

-- nothing arrives from a brick that is not there
none_one : (many brick : ℕ) (e : HubEvent) (rest : List (List ℕ)) → IsFrom many e → many ≤ brick → arrival_from brick e rest ≡ rest
none_one many brick (logged.Arrive from bytes) rest f le =
    let ne : (from == brick) ≡ false = false_from_ne_true (from == brick) (λ e. let s = eqb-true from brick e in absurd (omega (arith, s, f, le))) in
    ap (λ (b : Bool). if b then bytes ∷ rest else rest) ne
none_one many brick (logged.Submit session line) rest f le = refl
none_one many brick (logged.Run graph task) rest f le = refl
none_one many brick (logged.Act a) rest f le = refl
none_one many brick (logged.Arm at p count a) rest f le = refl

none_arrive : (many brick : ℕ) (events : List HubEvent) → AllByRecursion (IsFrom many) events → many ≤ brick → arrivals_from brick events ≡ []
none_arrive many brick [] all le = refl
none_arrive many brick (e ∷ es) all le = none_one many brick e (arrivals_from brick es) all.0 le ∙ none_arrive many brick es all.1 le

pub each_from : (many : ℕ) (events : List HubEvent) (k : ℕ) (e : HubEvent) → AllByRecursion (IsFrom many) events → slice_get events k ≡ Some e → IsFrom many e
each_from many [] k e all is = absurd cc
each_from many (x ∷ events) zero e all is = subst (λ (y : HubEvent). IsFrom many y) (some_is x e is) all.0
each_from many (x ∷ events) (suc k) e all is = each_from many events k e all.1 is

there_is : {X : Type 0} (xs : List X) (k : ℕ) → k < length xs → (o : Option X) → slice_get xs k ≡ o → o ≡ None → ⊥
there_is [] k lt o is none = absurd (omega (arith, lt))
there_is (x ∷ xs) zero lt None is none = absurd cc
there_is (x ∷ xs) zero lt (Some y) is none = absurd cc
there_is (x ∷ xs) (suc k) lt o is none = there_is xs k (omega (arith, lt)) o is none

-- ---- outputs arrive in their encoding

counts_few : (first : OutputsByTaken) (journal : List (List ℕ)) → AllByRecursion (λ (o : Output). nat_le o.taken (length journal) ≡ true) (outputs_of journal)
counts_few first journal =
    let kept : outputs_up_to (length journal) (outputs_of journal) ≡ outputs_of journal = sym (first journal (length journal)) ∙ ap outputs_of (take_all (length journal) journal (omega arith)) in
    recursion_from_All _ (outputs_of journal)
    (subst (All (λ (o : Output). nat_le o.taken (length journal) ≡ true)) kept (filter_passes (λ (o : Output). nat_le o.taken (length journal)) (outputs_of journal)))

all_encoded : (n : ℕ) → n < 2 ^ 64 → (os : List Output) → Each (λ (o : Output). IsOutKind true o.kind) os → AllByRecursion (λ (o : Output). nat_le o.taken n ≡ true) os
    → AllByRecursion IsEncodedOutput (map output_text os)
all_encoded n few [] each all = tt
all_encoded n few (o ∷ os) each all =
    let le = leb-true o.taken n all.0 in (record { output = o; legal = (omega (arith, le, few), each.0); encoded = refl }, all_encoded n few os each.1 all.1)

all_take : {X : Type 0} (P : X → Type 0) (n : ℕ) (xs : List X) → AllByRecursion P xs → AllByRecursion P (take n xs)
all_take P zero xs all = tt
all_take P (suc n) [] all = tt
all_take P (suc n) (x ∷ xs) all = (all.0, all_take P n xs all.1)

-- what is behind the first arrival, if that is the brick's
all_behind : (P : List ℕ → Type 0) (brick : ℕ) (e : HubEvent) (rest : List (List ℕ)) → AllByRecursion P (arrival_from brick e rest) → AllByRecursion P rest
all_behind P brick (logged.Arrive from bytes) rest all = by (from == brick) all where
  by : (b : Bool) → AllByRecursion P (if b then bytes ∷ rest else rest) → AllByRecursion P rest
  by true all = all.1
  by false all = all
all_behind P brick (logged.Submit session line) rest all = all
all_behind P brick (logged.Run graph task) rest all = all
all_behind P brick (logged.Act a) rest all = all
all_behind P brick (logged.Arm at p count a) rest all = all

brings_one : (many : ℕ) (e : HubEvent) (es : List HubEvent) → IsFrom many e → ((brick : ℕ) → brick < many → AllByRecursion IsEncodedOutput (arrival_from brick e (arrivals_from brick es))) → BringsOutput e
brings_one many (logged.Arrive from bytes) es f each =
    (subst (λ (b : Bool). AllByRecursion IsEncodedOutput (if b then bytes ∷ arrivals_from from es else arrivals_from from es)) (eq-eqb from from refl) (each from f)).0
brings_one many (logged.Submit session line) es f each = tt
brings_one many (logged.Run graph task) es f each = tt
brings_one many (logged.Act a) es f each = tt
brings_one many (logged.Arm at p count a) es f each = tt

bring : (many : ℕ) (events : List HubEvent) → AllByRecursion (IsFrom many) events → ((brick : ℕ) → brick < many → AllByRecursion IsEncodedOutput (arrivals_from brick events)) → BringOutputs events
bring many [] from each = tt
bring many (e ∷ es) from each =
    (brings_one many e es from.0 each, bring many es from.1 (λ brick lt. all_behind IsEncodedOutput brick e (arrivals_from brick es) (each brick lt)))

module _ (log : Log) (bricks : List Journal) (each : (k : ℕ) (b : Journal) → k < length bricks → slice_get bricks k ≡ Some b → IsOfBrick log k b) where
  pub journals : HasJournals log bricks
  journals = record {
    arrived = λ brick b there. (each brick b (slice_get_within bricks brick b there) there).arrivals;
    journals = λ brick b there. (each brick b (slice_get_within bricks brick b there) there).journal;
  }

  module _ (encoded : OutputsAreEncoded) (first : OutputsByTaken) (from : AllByRecursion (IsFrom (length bricks)) log.events) where
    encoded_at : (brick : ℕ) → brick < length bricks → (o : Option Journal) → slice_get bricks brick ≡ o → AllByRecursion IsEncodedOutput (arrivals_from brick log.events)
    encoded_at brick lt None is = absurd (there_is bricks brick lt None is refl)
    encoded_at brick lt (Some b) is =
        let h = each brick b lt is in
        subst (AllByRecursion IsEncodedOutput) h.arrivals
        (all_take IsEncodedOutput (length (arrivals_from brick log.events)) (texts_of b.journal) (all_encoded (length b.journal) h.few (outputs_of b.journal) (encoded b.journal) (counts_few first b.journal)))

    pub arrived : ArrivedFrom bricks log.events
    arrived = record { from = from; outputs = bring (length bricks) log.events from (λ brick lt. encoded_at brick lt (slice_get bricks brick) refl) }

-- ---- timely arrivals

pub each_below : (P : ℕ → Type 0) (n : ℕ) → P n → ((k : ℕ) → k < n → P k) → (k : ℕ) → k < n + 1 → P k
each_below P n own before k lt = by (nat_lt k n) refl where
  by : (t : Bool) → nat_lt k n ≡ t → P k
  by true e = before k (ltb-true k n e)
  by false e = let le = ltb-false k n e in let same : n ≡ k = omega (arith, lt, le) in subst P same own

module _ (stay : OutputsStay) (log : Log) (bricks : List Journal) (has : HasJournals log bricks) (from : AllByRecursion (IsFrom (length bricks)) log.events)
    (timely : (k : ℕ) → k < length bricks → AreTimely k log.events log.sent) where
  prefix_by : (brick : ℕ) (o : Option Journal) → slice_get bricks brick ≡ o → (b : Bool) → nat_lt brick (length bricks) ≡ b → arrivals_from brick log.events ≡ take (length (arrivals_from brick log.events)) (texts_of (inputs_to brick log.sent))
  prefix_by brick (Some j) is b lt = prefix_at stay log bricks brick j has is
  prefix_by brick None is true lt = absurd (there_is bricks brick (ltb-true brick (length bricks) lt) None is refl)
  prefix_by brick None is false lt =
      let none = none_arrive (length bricks) brick log.events from (ltb-false brick (length bricks) lt) in
      subst (λ (l : List (List ℕ)). l ≡ take (length l) (texts_of (inputs_to brick log.sent))) (sym none) refl

  timely_by : (k brick : ℕ) (bytes : List ℕ) (output : Output) → slice_get log.events k ≡ Some (logged.Arrive brick bytes) → output_in bytes ≡ Whole output → output.taken ≤ sent_before (k + 1) brick log.sent
  timely_by k brick bytes output there whole =
      let lt : brick < length bricks = each_from (length bricks) log.events k (logged.Arrive brick bytes) from there in
      let t : CountsAtMost (output_in bytes) (sent_before (k + 1) brick log.sent) = (timely brick lt).each k (logged.Arrive brick bytes) there refl in
      subst (λ (m : Message Output). CountsAtMost m (sent_before (k + 1) brick log.sent)) whole t

  pub honest : HasHonestArrivals log
  honest = record {
    prefix = λ brick. prefix_by brick (slice_get bricks brick) refl (nat_lt brick (length bricks)) refl;
    timely = λ k brick bytes output there whole. timely_by k brick bytes output there whole;
  }

-- honest arrivals are timely, of each brick
pub timely_of : (log : Log) (brick : ℕ) → HasHonestArrivals log → AreTimely brick log.events log.sent
timely_of log brick h = record { each = at } where
  counts : (k from : ℕ) (bytes : List ℕ) → slice_get log.events k ≡ Some (logged.Arrive from bytes) → from ≡ brick → (m : Message Output) → output_in bytes ≡ m → CountsAtMost m (sent_before (k + 1) brick log.sent)
  counts k from bytes there same (Whole output) is = subst (λ (n : ℕ). output.taken ≤ sent_before (k + 1) n log.sent) same (h.timely k from bytes output there is)
  counts k from bytes there same (Wrong place) is = tt

  at : (k : ℕ) (e : HubEvent) → slice_get log.events k ≡ Some e → IsTimely brick log.sent (k + 1) e
  at k (logged.Arrive from bytes) there = λ same. counts k from bytes there same (output_in bytes) refl
  at k (logged.Submit session line) there = tt
  at k (logged.Run graph task) there = tt
  at k (logged.Act a) there = tt
  at k (logged.Arm p q count a) there = tt
