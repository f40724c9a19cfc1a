-- What is known of connections behind an event, by what is known before it.
use Rattle.std.proofs.Common.{◌≡◌, refl, sym, ap, subst, ◌∙◌, arith}
use Rattle.std.specs.Prelude.{ℕ, suc, ◌+◌, ◌-◌, ◌==◌, ◌&&◌, ◌||◌, not, Bool, true, false, List, [], ◌∷◌, ◌++◌, slice_get, if◌then◌else◌}
use Rattle.std.specs.List.{list_any, AllByRecursion}
use Rattle.std.proofs.lemmas.Bool.{eqb-true, eqb-false, ne_eqb}
use Rattle.std.proofs.lemmas.List.Folds.{list_any-append}
use Rattle.fop_types.specs.declared.messages.Input.{Input}
use Rattle.fop_types.specs.declared.messages.Input.TheVariants as input
use Rattle.wire_xdr.specs.Xdr.{IsUnit}
use Rattle.wire_messages.specs.Messages.{input_in, MessagesReadBack}
use Rattle.wire_messages.specs.declared.messages.Message.{Message}
use Rattle.wire_messages.specs.declared.messages.Message.TheVariants.{Whole, Wrong}
use Rattle.mount_log.specs.Connections.{was_sent, closes_by, is_open_after}
use Rattle.mount_log.specs.Connects.{newest_graph, opens_by, is_closed_after}
use Rattle.mount_log.specs.declared.logs.Log.{Log}
use Rattle.mount_log.specs.declared.logs.SentLine.{SentLine}
use Rattle.line_audit.specs.Linked.{what_of, items_of, in_event, connects, disconnects, has_connect, has_disconnect, opened_as, closed_as, newest_after, has_link, without_brick, without_link, closed_by, dropped_as, dropped, added_as, added, links_after, without_number, closed_after, AreUnits, IsEffectAt, IsKnown}
use Rattle.line_audit.specs.declared.effects.Effect.{Effect}
use Rattle.line_audit.specs.declared.effects.Effect.TheVariants as effect
use Rattle.line_audit.specs.declared.known.Known.{Known}
use Rattle.line_audit.specs.declared.lines_sent.Item.{Item}
use Rattle.line_audit.specs.declared.lines_sent.What.{What}
use Rattle.line_audit.specs.declared.lines_sent.What.TheVariants as what
use Rattle.line_audit.specs.declared.links.Link.{Link}
use Rattle.line_audit.proofs.Effecting.{closes_is, opens_is, newest_next}
use Rattle.line_audit.proofs.Linking.{connect_sent, disconnect_sent, all_lines}
use Rattle.mount_log.proofs.Bools.{and_true, and_false, both}

-- ---- links

module _ (graph brick : ℕ) where
  -- without a brick
  gone_brick : (c : ℕ) → (c == brick) ≡ true → (ls : List Link) → has_link graph brick (without_brick c ls) ≡ false
  gone_brick c same [] = refl
  gone_brick c same (l ∷ ls) = by (l.brick == c) refl (gone_brick c same ls) where
    by : (b : Bool) → (l.brick == c) ≡ b → has_link graph brick (without_brick c ls) ≡ false → has_link graph brick (if b then without_brick c ls else l ∷ without_brick c ls) ≡ false
    by true is rest = rest
    by false is rest =
        let other : (l.brick == brick) ≡ false = ne_eqb l.brick brick (λ e. eqb-false l.brick c is (e ∙ sym (eqb-true c brick same))) in
        ap (λ (x : Bool). ((l.graph == graph) && x) || has_link graph brick (without_brick c ls)) other ∙ ap (λ (x : Bool). x || has_link graph brick (without_brick c ls)) (and_false (l.graph == graph)) ∙ rest

  kept_brick : (c : ℕ) → (c == brick) ≡ false → (ls : List Link) → has_link graph brick (without_brick c ls) ≡ has_link graph brick ls
  kept_brick c other [] = refl
  kept_brick c other (l ∷ ls) = by (l.brick == c) refl (kept_brick c other ls) where
    by : (b : Bool) → (l.brick == c) ≡ b → has_link graph brick (without_brick c ls) ≡ has_link graph brick ls
        → has_link graph brick (if b then without_brick c ls else l ∷ without_brick c ls) ≡ (((l.graph == graph) && (l.brick == brick)) || has_link graph brick ls)
    by true is rest =
        let none : (l.brick == brick) ≡ false = ap (λ (n : ℕ). n == brick) (eqb-true l.brick c is) ∙ other in
        rest ∙ sym (ap (λ (x : Bool). x || has_link graph brick ls) (ap (λ (x : Bool). (l.graph == graph) && x) none ∙ and_false (l.graph == graph)))
    by false is rest = ap (λ (x : Bool). ((l.graph == graph) && (l.brick == brick)) || x) rest

  brick_gone : (c : ℕ) (ls : List Link) → has_link graph brick (without_brick c ls) ≡ (has_link graph brick ls && not (c == brick))
  brick_gone c ls = by (c == brick) refl where
    by : (b : Bool) → (c == brick) ≡ b → has_link graph brick (without_brick c ls) ≡ (has_link graph brick ls && not b)
    by true is = gone_brick c is ls ∙ sym (and_false (has_link graph brick ls))
    by false is = kept_brick c is ls ∙ sym (and_true (has_link graph brick ls))

  -- without a link
  is_it : (g c : ℕ) → ((g == graph) && (c == brick)) ≡ true → (h d : ℕ) → ((h == g) && (d == c)) ≡ ((h == graph) && (d == brick))
  is_it g c same h d =
      let p = both (g == graph) (c == brick) same in
      ap (λ (n : ℕ). (h == n) && (d == c)) (eqb-true g graph p.0) ∙ ap (λ (n : ℕ). (h == graph) && (d == n)) (eqb-true c brick p.1)

  gone_link : (g c : ℕ) → ((g == graph) && (c == brick)) ≡ true → (ls : List Link) → has_link graph brick (without_link g c ls) ≡ false
  gone_link g c same [] = refl
  gone_link g c same (l ∷ ls) = by ((l.graph == g) && (l.brick == c)) refl (gone_link g c same ls) where
    by : (b : Bool) → ((l.graph == g) && (l.brick == c)) ≡ b → has_link graph brick (without_link g c ls) ≡ false → has_link graph brick (if b then without_link g c ls else l ∷ without_link g c ls) ≡ false
    by true is rest = rest
    by false is rest = ap (λ (x : Bool). x || has_link graph brick (without_link g c ls)) (sym (is_it g c same l.graph l.brick) ∙ is) ∙ rest

  kept_link : (g c : ℕ) → ((g == graph) && (c == brick)) ≡ false → (ls : List Link) → has_link graph brick (without_link g c ls) ≡ has_link graph brick ls
  kept_link g c other [] = refl
  kept_link g c other (l ∷ ls) = by ((l.graph == g) && (l.brick == c)) refl (kept_link g c other ls) where
    by : (b : Bool) → ((l.graph == g) && (l.brick == c)) ≡ b → has_link graph brick (without_link g c ls) ≡ has_link graph brick ls
        → has_link graph brick (if b then without_link g c ls else l ∷ without_link g c ls) ≡ (((l.graph == graph) && (l.brick == brick)) || has_link graph brick ls)
    by true is rest =
        let p = both (l.graph == g) (l.brick == c) is in
        let none : ((l.graph == graph) && (l.brick == brick)) ≡ false =
        ap (λ (n : ℕ). (n == graph) && (l.brick == brick)) (eqb-true l.graph g p.0) ∙ ap (λ (n : ℕ). (g == graph) && (n == brick)) (eqb-true l.brick c p.1) ∙ other in
        rest ∙ sym (ap (λ (x : Bool). x || has_link graph brick ls) none)
    by false is rest = ap (λ (x : Bool). ((l.graph == graph) && (l.brick == brick)) || x) rest

  link_gone : (g c : ℕ) (ls : List Link) → has_link graph brick (without_link g c ls) ≡ (has_link graph brick ls && not ((g == graph) && (c == brick)))
  link_gone g c ls = by ((g == graph) && (c == brick)) refl where
    by : (b : Bool) → ((g == graph) && (c == brick)) ≡ b → has_link graph brick (without_link g c ls) ≡ (has_link graph brick ls && not b)
    by true is = gone_link g c is ls ∙ sym (and_false (has_link graph brick ls))
    by false is = kept_link g c is ls ∙ sym (and_true (has_link graph brick ls))

  -- with one more
  link_more : (ls : List Link) (l : Link) → has_link graph brick (ls ++ l ∷ []) ≡ (((l.graph == graph) && (l.brick == brick)) || has_link graph brick ls)
  link_more [] l = refl
  link_more (k ∷ ls) l = swap ((k.graph == graph) && (k.brick == brick)) ((l.graph == graph) && (l.brick == brick)) (has_link graph brick ls) (has_link graph brick (ls ++ l ∷ [])) (link_more ls l) where
    swap : (x y h z : Bool) → z ≡ (y || h) → (x || z) ≡ (y || (x || h))
    swap true true h z e = refl
    swap true false h z e = refl
    swap false y h z e = e

  -- behind the Closed
  closed_gone : (f : Effect) (ls : List Link) → has_link graph brick (closed_by f ls) ≡ (has_link graph brick ls && not (closed_as brick f))
  closed_gone (effect.Closed c) ls = brick_gone c ls
  closed_gone effect.Started ls = sym (and_true (has_link graph brick ls))
  closed_gone effect.Switched ls = sym (and_true (has_link graph brick ls))
  closed_gone (effect.Opened c) ls = sym (and_true (has_link graph brick ls))
  closed_gone (effect.Cut c) ls = sym (and_true (has_link graph brick ls))
  closed_gone (effect.Gone c wind) ls = sym (and_true (has_link graph brick ls))
  closed_gone effect.Other ls = sym (and_true (has_link graph brick ls))

  -- behind the Disconnects
  one_dropped : (c : ℕ) (w : What) (ls : List Link) → has_link graph brick (dropped_as c w ls) ≡ (has_link graph brick ls && not ((c == brick) && disconnects graph w))
  one_dropped c (what.Disconnect g) ls = link_gone g c ls ∙ ap (λ (x : Bool). has_link graph brick ls && not x) (swap (g == graph) (c == brick)) where
    swap : (x y : Bool) → (x && y) ≡ (y && x)
    swap true true = refl
    swap true false = refl
    swap false true = refl
    swap false false = refl
  one_dropped c (what.Connect g) ls = kept (c == brick) (has_link graph brick ls) where
    kept : (x h : Bool) → h ≡ (h && not (x && false))
    kept true h = sym (and_true h)
    kept false h = sym (and_true h)
  one_dropped c (what.Request g) ls = kept (c == brick) (has_link graph brick ls) where
    kept : (x h : Bool) → h ≡ (h && not (x && false))
    kept true h = sym (and_true h)
    kept false h = sym (and_true h)
  one_dropped c what.Other ls = kept (c == brick) (has_link graph brick ls) where
    kept : (x h : Bool) → h ≡ (h && not (x && false))
    kept true h = sym (and_true h)
    kept false h = sym (and_true h)
  one_dropped c what.Wrong ls = kept (c == brick) (has_link graph brick ls) where
    kept : (x h : Bool) → h ≡ (h && not (x && false))
    kept true h = sym (and_true h)
    kept false h = sym (and_true h)

  all_dropped : (items : List Item) (ls : List Link) → has_link graph brick (dropped items ls) ≡ (has_link graph brick ls && not (has_disconnect graph brick items))
  all_dropped [] ls = sym (and_true (has_link graph brick ls))
  all_dropped (i ∷ is) ls =
      all_dropped is (dropped_as i.brick i.what ls) ∙ ap (λ (x : Bool). x && not (has_disconnect graph brick is)) (one_dropped i.brick i.what ls)
      ∙ joined (has_link graph brick ls) ((i.brick == brick) && disconnects graph i.what) (has_disconnect graph brick is) where
        joined : (h x d : Bool) → ((h && not x) && not d) ≡ (h && not (x || d))
        joined true true d = refl
        joined true false d = refl
        joined false x d = refl

  -- behind the Connects
  one_added : (c : ℕ) (w : What) (ls : List Link) → has_link graph brick (added_as c w ls) ≡ (((c == brick) && connects graph w) || has_link graph brick ls)
  one_added c (what.Connect g) ls = link_more ls (record { graph = g; brick = c }) ∙ ap (λ (x : Bool). x || has_link graph brick ls) (swap (g == graph) (c == brick)) where
    swap : (x y : Bool) → (x && y) ≡ (y && x)
    swap true true = refl
    swap true false = refl
    swap false true = refl
    swap false false = refl
  one_added c (what.Disconnect g) ls = sym (ap (λ (x : Bool). x || has_link graph brick ls) (and_false (c == brick)))
  one_added c (what.Request g) ls = sym (ap (λ (x : Bool). x || has_link graph brick ls) (and_false (c == brick)))
  one_added c what.Other ls = sym (ap (λ (x : Bool). x || has_link graph brick ls) (and_false (c == brick)))
  one_added c what.Wrong ls = sym (ap (λ (x : Bool). x || has_link graph brick ls) (and_false (c == brick)))

  all_added : (items : List Item) (ls : List Link) → has_link graph brick (added items ls) ≡ (has_connect graph brick items || has_link graph brick ls)
  all_added [] ls = refl
  all_added (i ∷ is) ls =
      all_added is (added_as i.brick i.what ls) ∙ ap (λ (x : Bool). has_connect graph brick is || x) (one_added i.brick i.what ls)
      ∙ joined (has_connect graph brick is) ((i.brick == brick) && connects graph i.what) (has_link graph brick ls) where
        joined : (c x h : Bool) → (c || (x || h)) ≡ ((x || c) || h)
        joined true true h = refl
        joined true false h = refl
        joined false true h = refl
        joined false false h = refl

  pub links_next : (f : Effect) (items : List Item) (ls : List Link)
      → has_link graph brick (links_after f items ls) ≡ (has_connect graph brick items || (has_link graph brick ls && not (closed_as brick f || has_disconnect graph brick items)))
  links_next f items ls =
      all_added items (dropped items (closed_by f ls))
      ∙ ap (λ (x : Bool). has_connect graph brick items || x)
      (all_dropped items (closed_by f ls) ∙ ap (λ (x : Bool). x && not (has_disconnect graph brick items)) (closed_gone f ls) ∙ joined (has_link graph brick ls) (closed_as brick f) (has_disconnect graph brick items)) where
        joined : (h x d : Bool) → ((h && not x) && not d) ≡ (h && not (x || d))
        joined true true d = refl
        joined true false d = refl
        joined false x d = refl

-- ---- numbers of graphs

units_without_brick : (c : ℕ) (ls : List Link) → AreUnits ls → AreUnits (without_brick c ls)
units_without_brick c [] are = tt
units_without_brick c (l ∷ ls) are = by (l.brick == c) (units_without_brick c ls are.1) where
  by : (b : Bool) → AreUnits (without_brick c ls) → AreUnits (if b then without_brick c ls else l ∷ without_brick c ls)
  by true rest = rest
  by false rest = (are.0, rest)

units_without_link : (g c : ℕ) (ls : List Link) → AreUnits ls → AreUnits (without_link g c ls)
units_without_link g c [] are = tt
units_without_link g c (l ∷ ls) are = by ((l.graph == g) && (l.brick == c)) (units_without_link g c ls are.1) where
  by : (b : Bool) → AreUnits (without_link g c ls) → AreUnits (if b then without_link g c ls else l ∷ without_link g c ls)
  by true rest = rest
  by false rest = (are.0, rest)

units_closed : (f : Effect) (ls : List Link) → AreUnits ls → AreUnits (closed_by f ls)
units_closed (effect.Closed c) ls are = units_without_brick c ls are
units_closed effect.Started ls are = are
units_closed effect.Switched ls are = are
units_closed (effect.Opened c) ls are = are
units_closed (effect.Cut c) ls are = are
units_closed (effect.Gone c wind) ls are = are
units_closed effect.Other ls are = are

units_dropped_as : (c : ℕ) (w : What) (ls : List Link) → AreUnits ls → AreUnits (dropped_as c w ls)
units_dropped_as c (what.Disconnect g) ls are = units_without_link g c ls are
units_dropped_as c (what.Connect g) ls are = are
units_dropped_as c (what.Request g) ls are = are
units_dropped_as c what.Other ls are = are
units_dropped_as c what.Wrong ls are = are

units_dropped : (items : List Item) (ls : List Link) → AreUnits ls → AreUnits (dropped items ls)
units_dropped [] ls are = are
units_dropped (i ∷ is) ls are = units_dropped is (dropped_as i.brick i.what ls) (units_dropped_as i.brick i.what ls are)

units_push : (ls : List Link) (l : Link) → AreUnits ls → IsUnit l.graph → AreUnits (ls ++ l ∷ [])
units_push [] l are own = (own, tt)
units_push (k ∷ ls) l are own = (are.0, units_push ls l are.1 own)

-- a Connect is of such a graph
abbrev Fits : What → Type 0
Fits (what.Connect g) = IsUnit g
Fits (what.Disconnect g) = Unit {0}
Fits (what.Request g) = Unit {0}
Fits what.Other = Unit {0}
Fits what.Wrong = Unit {0}

units_added_as : (c : ℕ) (w : What) (ls : List Link) → Fits w → AreUnits ls → AreUnits (added_as c w ls)
units_added_as c (what.Connect g) ls fits are = units_push ls (record { graph = g; brick = c }) are fits
units_added_as c (what.Disconnect g) ls fits are = are
units_added_as c (what.Request g) ls fits are = are
units_added_as c what.Other ls fits are = are
units_added_as c what.Wrong ls fits are = are

units_added : (items : List Item) (ls : List Link) → AllByRecursion (λ (i : Item). Fits i.what) items → AreUnits ls → AreUnits (added items ls)
units_added [] ls fit are = are
units_added (i ∷ is) ls fit are = units_added is (added_as i.brick i.what ls) fit.1 (units_added_as i.brick i.what ls fit.0 are)

line_fits : MessagesReadBack → (line : SentLine) → Fits (what_of (input_in line.bytes))
line_fits back line = by (input_in line.bytes) refl where
  by : (m : Message Input) → input_in line.bytes ≡ m → Fits (what_of m)
  by (Whole (input.Connect graph version)) is = (back.0.1 line.bytes (input.Connect graph version) is).0.0
  by (Whole (input.Disconnect graph)) is = tt
  by (Whole (input.Request wind graph req)) is = tt
  by (Whole (input.Down serve)) is = tt
  by (Whole input.Up) is = tt
  by (Whole (input.FaultAt p n)) is = tt
  by (Wrong place) is = tt

units_after : MessagesReadBack → (f : Effect) (number : ℕ) (lines : List SentLine) (items : List Item) (ls : List Link) → items ≡ in_event number (items_of lines) → AreUnits ls → AreUnits (links_after f items ls)
units_after back f number lines items ls is are =
    units_added items (dropped items (closed_by f ls))
    (subst (AllByRecursion (λ (i : Item). Fits i.what)) (sym is) (all_lines (λ (i : Item). Fits i.what) lines number (λ k line there same. line_fits back line)))
    (units_dropped items (closed_by f ls) (units_closed f ls are))

-- ---- closed bricks

module _ (brick : ℕ) where
  abbrev has : List ℕ → Bool
  has closed = list_any (λ b. b == brick) closed

  gone_number : (c : ℕ) → (c == brick) ≡ true → (xs : List ℕ) → has (without_number c xs) ≡ false
  gone_number c same [] = refl
  gone_number c same (x ∷ xs) = by (x == c) refl (gone_number c same xs) where
    by : (b : Bool) → (x == c) ≡ b → has (without_number c xs) ≡ false → has (if b then without_number c xs else x ∷ without_number c xs) ≡ false
    by true is rest = rest
    by false is rest =
        let other : (x == brick) ≡ false = ne_eqb x brick (λ e. eqb-false x c is (e ∙ sym (eqb-true c brick same))) in
        ap (λ (y : Bool). y || has (without_number c xs)) other ∙ rest

  kept_number : (c : ℕ) → (c == brick) ≡ false → (xs : List ℕ) → has (without_number c xs) ≡ has xs
  kept_number c other [] = refl
  kept_number c other (x ∷ xs) = by (x == c) refl (kept_number c other xs) where
    by : (b : Bool) → (x == c) ≡ b → has (without_number c xs) ≡ has xs → has (if b then without_number c xs else x ∷ without_number c xs) ≡ ((x == brick) || has xs)
    by true is rest =
        let none : (x == brick) ≡ false = ap (λ (n : ℕ). n == brick) (eqb-true x c is) ∙ other in
        rest ∙ sym (ap (λ (y : Bool). y || has xs) none)
    by false is rest = ap (λ (y : Bool). (x == brick) || y) rest

  number_gone : (c : ℕ) (xs : List ℕ) → has (without_number c xs) ≡ (has xs && not (c == brick))
  number_gone c xs = by (c == brick) refl where
    by : (b : Bool) → (c == brick) ≡ b → has (without_number c xs) ≡ (has xs && not b)
    by true is = gone_number c is xs ∙ sym (and_false (has xs))
    by false is = kept_number c is xs ∙ sym (and_true (has xs))

  pub closed_next : (f : Effect) (xs : List ℕ) → has (closed_after f xs) ≡ (closed_as brick f || (has xs && not (opened_as brick f)))
  closed_next (effect.Closed c) xs = list_any-append (λ b. b == brick) xs (c ∷ []) ∙ swap (has xs) (c == brick) where
    swap : (h x : Bool) → (h || (x || false)) ≡ (x || (h && true))
    swap true true = refl
    swap true false = refl
    swap false true = refl
    swap false false = refl
  closed_next (effect.Opened c) xs = number_gone c xs
  closed_next effect.Started xs = sym (and_true (has xs))
  closed_next effect.Switched xs = sym (and_true (has xs))
  closed_next (effect.Cut c) xs = sym (and_true (has xs))
  closed_next (effect.Gone c wind) xs = sym (and_true (has xs))
  closed_next effect.Other xs = sym (and_true (has xs))

-- ---- all

-- the same in a longer chain
same_next : (c c' h h' x x' d d' : Bool) → c ≡ c' → h ≡ h' → x ≡ x' → d ≡ d' → (c || (h && not (x || d))) ≡ (c' || (h' && not (x' || d')))
same_next c c' h h' x x' d d' p q r s = cc

module _ (back : MessagesReadBack) (log : Log) where
  pub known_next : (k newest : ℕ) (f : Effect) (items : List Item) (old new : Known) → IsEffectAt log k f → items ≡ in_event (k + 1) (items_of log.sent) → newest ≡ newest_after old.newest f → IsKnown log k old
      → new.links.items ≡ links_after f items old.links.items → new.closed.items ≡ closed_after f old.closed.items → new.newest ≡ newest → IsKnown log (k + 1) new
  known_next k newest f items old new at is next known links closed newest_is =
      subst (λ (n : ℕ). IsKnown log n new) one (record {
        links = λ graph brick fits.
            ap (has_link graph brick) links ∙ links_next graph brick f items old.links.items
            ∙ same_next (has_connect graph brick items) (was_sent log (suc k) brick (input.Connect graph 1)) (has_link graph brick old.links.items) (is_open_after log graph brick k)
            (closed_as brick f) (closes_by brick (slice_get log.events (suc k - 1))) (has_disconnect graph brick items) (was_sent log (suc k) brick (input.Disconnect graph))
            (ap (has_connect graph brick) items_are ∙ sym (connect_sent back log graph fits (suc k) brick)) (known.links graph brick fits)
            (ap (closed_as brick) at.is ∙ sym (closes_is brick at.event) ∙ ap (closes_by brick) (sym at.there ∙ ap (slice_get log.events) (sym less)))
            (ap (has_disconnect graph brick) items_are ∙ sym (disconnect_sent back log graph fits (suc k) brick));
        closed = λ brick.
            ap (λ (xs : List ℕ). list_any (λ b. b == brick) xs) closed ∙ closed_next brick f old.closed.items
            ∙ shut (closed_as brick f) (closes_by brick (slice_get log.events k)) (list_any (λ b. b == brick) old.closed.items) (is_closed_after log brick k) (opened_as brick f) (opens_by brick (slice_get log.events k))
            (ap (closed_as brick) at.is ∙ sym (closes_is brick at.event) ∙ ap (closes_by brick) (sym at.there)) (known.closed brick)
            (ap (opened_as brick) at.is ∙ sym (opens_is brick at.event) ∙ ap (opens_by brick) (sym at.there));
        units = subst AreUnits (sym links) (units_after back f (suc k) log.sent items old.links.items items_are known.units);
        newest = newest_is ∙ next ∙ ap (λ (n : ℕ). newest_after n f) known.newest ∙ ap (newest_after (newest_graph log k)) at.is ∙ sym (newest_next log k at.event at.there) ∙ ap (newest_graph log) (sym one);
      }) where
        one : suc k ≡ k + 1
        one = omega arith

        less : suc k - 1 ≡ k
        less = omega arith

        items_are : items ≡ in_event (suc k) (items_of log.sent)
        items_are = is ∙ ap (λ (n : ℕ). in_event n (items_of log.sent)) (sym one)

        shut : (c c' h h' o o' : Bool) → c ≡ c' → h ≡ h' → o ≡ o' → (c || (h && not o)) ≡ (c' || (h' && not o'))
        shut c c' h h' o o' p q r = cc

  -- behind the making
  pub known_first : (items : List Item) (old new : Known) → items ≡ in_event 0 (items_of log.sent) → old.links.items ≡ [] → old.closed.items ≡ [] → new.links.items ≡ links_after effect.Started items old.links.items
      → new.closed.items ≡ closed_after effect.Started old.closed.items → new.newest ≡ 1 → IsKnown log 0 new
  known_first items old new is no_links none_closed links closed newest_is = record {
    links = λ graph brick fits.
        ap (has_link graph brick) (links ∙ ap (links_after effect.Started items) no_links) ∙ links_next graph brick effect.Started items []
        ∙ or_false (has_connect graph brick items) ∙ ap (has_connect graph brick) is ∙ sym (connect_sent back log graph fits 0 brick);
    closed = λ brick. ap (λ (xs : List ℕ). list_any (λ b. b == brick) xs) (closed ∙ none_closed);
    units = subst AreUnits (sym links) (units_after back effect.Started 0 log.sent items old.links.items is (subst AreUnits (sym no_links) tt));
    newest = newest_is;
  } where
    or_false : (b : Bool) → (b || false) ≡ b
    or_false true = refl
    or_false false = refl
