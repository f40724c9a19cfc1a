-- What was sent, event by event, is what the lines of the events are read as.
use Rattle.std.proofs.Common.{◌≡◌, refl, sym, ap, subst, ◌∙◌, arith, inl, inr}
use Rattle.std.specs.Prelude.{ℕ, zero, suc, ◌+◌, ◌<◌, ◌≤◌, ◌==◌, ◌&&◌, ◌||◌, ◌⊎◌, Bool, true, false, List, [], ◌∷◌, ◌++◌, None, Some, option_map, length, map, take, slice_get, slice_index_or, slice_set, if◌then◌else◌}
use Rattle.std.specs.List.{list_any, AllByRecursion}
use Rattle.std.specs.Cmp.Lexicographic.{pointwise}
use Rattle.std.proofs.lemmas.Bool.{eq-eqb, eqb-true, ne_eqb, cases_eq}
use Rattle.std.proofs.lemmas.List.{map-set, get_or-set_same, get_or-set_other, get_or-map, length-map, append-nil, take_all}
use Rattle.std.proofs.lemmas.Option.{slice_get-map, get_or_from_slice_get}
use Rattle.fop_types.specs.declared.messages.Input.{Input}
use Rattle.fop_types.specs.declared.messages.Input.TheVariants as input
use Rattle.wire_xdr.specs.WireText.{input_text, IsInput}
use Rattle.wire_xdr.specs.Xdr.{IsUnit}
use Rattle.wire_messages.specs.Messages.{input_in, MessagesReadBack}
use Rattle.wire_messages.specs.declared.messages.Message.{Message}
use Rattle.wire_messages.specs.declared.messages.Message.TheVariants.{Whole, Wrong}
use Rattle.mount_log.proofs.Items.{some_is}
use Rattle.mount_log.specs.Connections.{is_sent_in, was_sent}
use Rattle.mount_log.specs.Connects.{sent_among, times_sent}
use Rattle.mount_log.specs.declared.logs.Log.{Log}
use Rattle.mount_log.specs.declared.logs.SentLine.{SentLine}
use Rattle.line_audit.specs.Linked.{what_in, what_of, item_of, items_of, in_event, items_at, IsPutIn, AreByEvent, connects, disconnects, has_connect, has_disconnect, count_connects}
use Rattle.line_audit.specs.declared.lines_sent.Item.{Item}
use Rattle.line_audit.specs.declared.lines_sent.What.{What}
use Rattle.line_audit.specs.declared.lines_sent.What.TheVariants as what
use Rattle.mount_log.proofs.Lists.{take_next, same_list, lists_same}
use Rattle.mount_log.proofs.Bools.{same_bool}

-- ---- what is among the items of an event

-- a line of this kind goes to the brick
abbrev goes : (What → Bool) → ℕ → List Item → Bool
goes hit brick [] = false
goes hit brick (i ∷ is) = ((i.brick == brick) && hit i.what) || goes hit brick is

connect_goes : (graph brick : ℕ) (items : List Item) → goes (connects graph) brick items ≡ has_connect graph brick items
connect_goes graph brick [] = refl
connect_goes graph brick (i ∷ is) = ap (λ (b : Bool). ((i.brick == brick) && connects graph i.what) || b) (connect_goes graph brick is)

disconnect_goes : (graph brick : ℕ) (items : List Item) → goes (disconnects graph) brick items ≡ has_disconnect graph brick items
disconnect_goes graph brick [] = refl
disconnect_goes graph brick (i ∷ is) = ap (λ (b : Bool). ((i.brick == brick) && disconnects graph i.what) || b) (disconnect_goes graph brick is)

-- how many lines of this kind go to the brick
abbrev often : (What → Bool) → ℕ → List Item → ℕ
often hit brick [] = 0
often hit brick (i ∷ is) = (if (i.brick == brick) && hit i.what then 1 else 0) + often hit brick is

connect_often : (graph brick : ℕ) (items : List Item) → often (connects graph) brick items ≡ count_connects graph brick items
connect_often graph brick [] = refl
connect_often graph brick (i ∷ is) = ap (λ (n : ℕ). (if (i.brick == brick) && connects graph i.what then 1 else 0) + n) (connect_often graph brick is)

module _ (back : MessagesReadBack) (x : Input) (legal : IsInput x) (hit : What → Bool) (hits : hit (what_in x) ≡ true) (none : hit what.Wrong ≡ false)
    (only : (y : Input) → IsInput y → hit (what_in y) ≡ true → y ≡ x) where
  to_text : (bytes : List ℕ) (m : Message Input) → input_in bytes ≡ m → hit (what_of m) ≡ true → bytes ≡ input_text x
  to_text bytes (Whole y) is hits_it = let own = back.0.1 bytes y is in own.1 ∙ ap input_text (only y own.0 hits_it)
  to_text bytes (Wrong place) is hits_it = let no : true ≡ false = sym hits_it ∙ none in absurd cc

  text_is : (bytes : List ℕ) → pointwise ◌==◌ bytes (input_text x) ≡ hit (what_of (input_in bytes))
  text_is bytes = same_bool (pointwise ◌==◌ bytes (input_text x)) (hit (what_of (input_in bytes)))
      (λ e. ap (λ (m : Message Input). hit (what_of m)) (ap input_in (same_list bytes (input_text x) e) ∙ back.0.0 x legal) ∙ hits)
      (λ e. lists_same bytes (input_text x) (to_text bytes (input_in bytes) refl e))

  sent_goes : (number brick : ℕ) (lines : List SentLine) → list_any (is_sent_in number brick x) lines ≡ goes hit brick (in_event number (items_of lines))
  sent_goes number brick [] = refl
  sent_goes number brick (line ∷ lines) = by (line.event == number) (sent_goes number brick lines) where
    by : (b : Bool) → list_any (is_sent_in number brick x) lines ≡ goes hit brick (in_event number (items_of lines))
        → ((b && ((line.brick == brick) && pointwise ◌==◌ line.bytes (input_text x))) || list_any (is_sent_in number brick x) lines)
        ≡ goes hit brick (if b then item_of line ∷ in_event number (items_of lines) else in_event number (items_of lines))
    by true rest = ap (λ (p : Bool). ((line.brick == brick) && p) || list_any (is_sent_in number brick x) lines) (text_is line.bytes)
        ∙ ap (λ (r : Bool). ((line.brick == brick) && hit (what_of (input_in line.bytes))) || r) rest
    by false rest = rest

  sent_often : (number brick : ℕ) (lines : List SentLine) → sent_among number brick x lines ≡ often hit brick (in_event number (items_of lines))
  sent_often number brick [] = refl
  sent_often number brick (line ∷ lines) = by (line.event == number) (sent_often number brick lines) where
    by : (b : Bool) → sent_among number brick x lines ≡ often hit brick (in_event number (items_of lines))
        → (if b && ((line.brick == brick) && pointwise ◌==◌ line.bytes (input_text x)) then 1 else 0) + sent_among number brick x lines
        ≡ often hit brick (if b then item_of line ∷ in_event number (items_of lines) else in_event number (items_of lines))
    by true rest = ap (λ (p : Bool). (if (line.brick == brick) && p then 1 else 0) + sent_among number brick x lines) (text_is line.bytes)
        ∙ ap (λ (r : ℕ). (if (line.brick == brick) && hit (what_of (input_in line.bytes)) then 1 else 0) + r) rest
    by false rest = let none : 0 + sent_among number brick x lines ≡ sent_among number brick x lines = omega arith in none ∙ rest

module _ (back : MessagesReadBack) (log : Log) (graph : ℕ) (fits : IsUnit graph) where
  same_connect : (y : Input) → IsInput y → connects graph (what_in y) ≡ true → y ≡ input.Connect graph 1
  same_connect (input.Connect g version) legal hits_it =
      ap (λ (n : ℕ). input.Connect n version) (eqb-true g graph hits_it) ∙ ap (λ (n : ℕ). input.Connect graph n) legal.1
  same_connect (input.Disconnect g) legal hits_it = absurd cc
  same_connect (input.Request wind g req) legal hits_it = absurd cc
  same_connect (input.Down serve) legal hits_it = absurd cc
  same_connect input.Up legal hits_it = absurd cc
  same_connect (input.FaultAt p number) legal hits_it = absurd cc

  same_disconnect : (y : Input) → IsInput y → disconnects graph (what_in y) ≡ true → y ≡ input.Disconnect graph
  same_disconnect (input.Connect g version) legal hits_it = absurd cc
  same_disconnect (input.Disconnect g) legal hits_it = ap (λ (n : ℕ). input.Disconnect n) (eqb-true g graph hits_it)
  same_disconnect (input.Request wind g req) legal hits_it = absurd cc
  same_disconnect (input.Down serve) legal hits_it = absurd cc
  same_disconnect input.Up legal hits_it = absurd cc
  same_disconnect (input.FaultAt p number) legal hits_it = absurd cc

  pub connect_sent : (number brick : ℕ) → was_sent log number brick (input.Connect graph 1) ≡ has_connect graph brick (in_event number (items_of log.sent))
  connect_sent number brick =
      sent_goes back (input.Connect graph 1) (fits, refl) (connects graph) (eq-eqb graph graph refl) refl same_connect number brick log.sent
      ∙ connect_goes graph brick (in_event number (items_of log.sent))

  pub connect_times : (number brick : ℕ) → times_sent log number brick (input.Connect graph 1) ≡ count_connects graph brick (in_event number (items_of log.sent))
  connect_times number brick =
      sent_often back (input.Connect graph 1) (fits, refl) (connects graph) (eq-eqb graph graph refl) refl same_connect number brick log.sent
      ∙ connect_often graph brick (in_event number (items_of log.sent))

  pub disconnect_sent : (number brick : ℕ) → was_sent log number brick (input.Disconnect graph) ≡ has_disconnect graph brick (in_event number (items_of log.sent))
  disconnect_sent number brick =
      sent_goes back (input.Disconnect graph) fits (disconnects graph) (eq-eqb graph graph refl) refl same_disconnect number brick log.sent
      ∙ disconnect_goes graph brick (in_event number (items_of log.sent))

-- what holds of each item of an event holds of its lines
pub at_line : (P : Item → Type 0) (lines : List SentLine) (k number : ℕ) (line : SentLine) → slice_get lines k ≡ Some line → line.event ≡ number → AllByRecursion P (in_event number (items_of lines)) → P (item_of line)
at_line P [] k number line is same all = absurd cc
at_line P (l ∷ lines) zero number line is same all = first (l.event == number) (eq-eqb l.event number (ap (λ (z : SentLine). z.event) l_is ∙ same)) all where
  l_is : l ≡ line
  l_is = some_is l line is

  first : (b : Bool) → b ≡ true → AllByRecursion P (if b then item_of l ∷ in_event number (items_of lines) else in_event number (items_of lines)) → P (item_of line)
  first true e found = subst (λ (z : SentLine). P (item_of z)) l_is found.0
  first false e found = absurd cc
at_line P (l ∷ lines) (suc k) number line is same all = rest (l.event == number) all (at_line P lines k number line is same) where
  rest : (b : Bool) → AllByRecursion P (if b then item_of l ∷ in_event number (items_of lines) else in_event number (items_of lines)) → (AllByRecursion P (in_event number (items_of lines)) → P (item_of line)) → P (item_of line)
  rest true found behind = behind found.1
  rest false found behind = behind found

-- what holds of each line of an event holds of its items
pub all_lines : (P : Item → Type 0) (lines : List SentLine) (number : ℕ) → ((k : ℕ) (line : SentLine) → slice_get lines k ≡ Some line → line.event ≡ number → P (item_of line)) → AllByRecursion P (in_event number (items_of lines))
all_lines P [] number each = tt
all_lines P (l ∷ lines) number each = by (l.event == number) refl (all_lines P lines number (λ k line there. each (suc k) line there)) where
  by : (b : Bool) → (l.event == number) ≡ b → AllByRecursion P (in_event number (items_of lines)) → AllByRecursion P (if b then item_of l ∷ in_event number (items_of lines) else in_event number (items_of lines))
  by true e rest = (each 0 l refl (eqb-true l.event number e), rest)
  by false e rest = rest

-- ---- by event

pub in_event_push : (number : ℕ) (lines : List SentLine) (line : SentLine) → in_event number (items_of (lines ++ line ∷ [])) ≡ in_event number (items_of lines) ++ in_event number (item_of line ∷ [])
in_event_push number [] line = refl
in_event_push number (l ∷ lines) line = by (l.event == number) (in_event_push number lines line) where
  by : (b : Bool) → in_event number (items_of (lines ++ line ∷ [])) ≡ in_event number (items_of lines) ++ in_event number (item_of line ∷ [])
      → (if b then item_of l ∷ in_event number (items_of (lines ++ line ∷ [])) else in_event number (items_of (lines ++ line ∷ [])))
      ≡ (if b then item_of l ∷ in_event number (items_of lines) else in_event number (items_of lines)) ++ in_event number (item_of line ∷ [])
  by true rest = ap (λ (is : List Item). item_of l ∷ is) rest
  by false rest = rest

module _ {V : Type 0} (f : V → List Item) where
  -- the list of the item's event has it at its end
  pub puts_in : (qs : List V) (before q : V) (item : Item) → item.event < length qs → before ≡ slice_index_or qs item.event before → f q ≡ f before ++ item ∷ [] → IsPutIn (map f qs) item (map f (slice_set qs item.event q))
  puts_in qs before q item low is pushed number = by (cases_eq item.event number) where
    set_is : items_at (map f (slice_set qs item.event q)) number ≡ slice_index_or (slice_set (map f qs) item.event (f q)) number []
    set_is = ap (λ (l : List (List Item)). items_at l number) (map-set f qs item.event q)

    by : (item.event ≡ number) ⊎ (item.event ≡ number → ⊥) → items_at (map f (slice_set qs item.event q)) number ≡ items_at (map f qs) number ++ in_event number (item ∷ [])
    by (inl e) =
        let own : in_event number (item ∷ []) ≡ item ∷ [] = ap (λ (b : Bool). if b then item ∷ [] else []) (eq-eqb item.event number e) in
        let old : items_at (map f qs) number ≡ f before = ap (items_at (map f qs)) (sym e) ∙ get_or-map f qs item.event before [] low ∙ ap f (sym is) in
        set_is ∙ sym (ap (λ (n : ℕ). slice_index_or (slice_set (map f qs) item.event (f q)) n []) e) ∙ get_or-set_same (map f qs) item.event (f q) [] (omega (arith, length-map qs f, low)) ∙ pushed
        ∙ ap (λ (l : List Item). l ++ item ∷ []) (sym old) ∙ ap (λ (l : List Item). items_at (map f qs) number ++ l) (sym own)
    by (inr d) =
        let none_own : in_event number (item ∷ []) ≡ [] = ap (λ (b : Bool). if b then item ∷ [] else []) (ne_eqb item.event number d) in
        set_is ∙ get_or-set_other (map f qs) item.event number (f q) [] (λ e. d (sym e)) ∙ sym (append-nil (items_at (map f qs) number)) ∙ ap (λ (l : List Item). items_at (map f qs) number ++ l) (sym none_own)

  pub list_there : (qs : List V) (i : ℕ) (q : V) → slice_get qs i ≡ Some q → items_at (map f qs) i ≡ f q
  list_there qs i q e = get_or_from_slice_get (map f qs) i (f q) [] (slice_get-map f qs i ∙ ap (option_map f) e)

  pub list_none : (qs : List V) (i : ℕ) → slice_get qs i ≡ None → items_at (map f qs) i ≡ []
  list_none [] i e = refl
  list_none (q ∷ qs) zero e = absurd cc
  list_none (q ∷ qs) (suc i) e = list_none qs i e

  -- one empty list more
  pub empty_more : (qs : List V) (q : V) → f q ≡ [] → AreByEvent [] (map f qs) → AreByEvent [] (map f (qs ++ q ∷ []))
  empty_more [] q none are zero = none
  empty_more [] q none are (suc number) = refl
  empty_more (x ∷ qs) q none are zero = are 0
  empty_more (x ∷ qs) q none are (suc number) = empty_more qs q none (λ n. are (suc n)) number

-- the next item is put
pub next_put : (lines : List SentLine) (k : ℕ) (line : SentLine) (item : Item) (old new : List (List Item)) → slice_get lines k ≡ Some line → item ≡ item_of line → AreByEvent (items_of (take k lines)) old → IsPutIn old item new
    → AreByEvent (items_of (take (k + 1) lines)) new
next_put lines k line item old new there is are put number =
    put number ∙ ap (λ (l : List Item). l ++ in_event number (item ∷ [])) (are number) ∙ ap (λ (i : Item). in_event number (items_of (take k lines)) ++ in_event number (i ∷ [])) is
    ∙ sym (in_event_push number (take k lines) line) ∙ sym (ap (λ (l : List SentLine). in_event number (items_of l)) (take_next lines k line there))

pub all_put : (lines : List SentLine) (k : ℕ) (lists : List (List Item)) → length lines ≤ k → AreByEvent (items_of (take k lines)) lists → AreByEvent (items_of lines) lists
all_put lines k lists le are = subst (λ (l : List SentLine). AreByEvent (items_of l) lists) (take_all k lines le) are
