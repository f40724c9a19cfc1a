-- How long graphs are used, line by line.
use Rattle.std.proofs.Common.{◌≡◌, refl, sym, ap, subst, ◌∙◌, arith, inl, inr, get_or}
use Rattle.std.specs.Prelude.{ℕ, zero, suc, ◌+◌, ◌<◌, ◌≤◌, ◌==◌, nat_lt, ◌&&◌, ◌||◌, ◌⊎◌, Bool, true, false, List, [], ◌∷◌, ◌++◌, Some, length, take, slice_index_or, slice_set}
use Rattle.std.specs.List.{list_any}
use Rattle.std.proofs.lemmas.Bool.{eq-eqb, ne_eqb, cases_eq, ltb-true, ltb-false}
use Rattle.std.proofs.lemmas.List.{get_or-set_same, get_or-set_other, take_all}
use Rattle.std.proofs.lemmas.List.Folds.{list_any_more}
use Rattle.mount_log.specs.Connections.{graph_of_call}
use Rattle.mount_log.specs.Connects.{is_wind_behind, is_reply_behind}
use Rattle.mount_log.specs.declared.logs.Log.{Log}
use Rattle.mount_log.specs.declared.logs.ReplyLine.{ReplyLine}
use Rattle.mount_log.specs.declared.logs.WindLine.{WindLine}
use Rattle.mount_log.specs.CallGraphs.{calls_from, call_at}
use Rattle.line_audit.specs.Linked.{until_at, IsNoted, AreZeros, AreWindsNoted, AreUsesNoted}
use Rattle.mount_log.specs.declared.call_graphs.CallAt.{CallAt}
use Rattle.mount_log.proofs.Callings.{call_is}

pub zero_more : (until : List ℕ) → AreZeros until → AreZeros (until ++ 0 ∷ [])
zero_more [] are zero = refl
zero_more [] are (suc g) = refl
zero_more (x ∷ until) are zero = are 0
zero_more (x ∷ until) are (suc g) = zero_more until (λ n. are (suc n)) g

less_true : (n m : ℕ) → n < m → nat_lt n m ≡ true
less_true n m lt = by (nat_lt n m) refl where
  by : (b : Bool) → nat_lt n m ≡ b → b ≡ true
  by true e = refl
  by false e = let le = ltb-false n m e in absurd (omega (arith, lt, le))

less_false : (n m : ℕ) → m ≤ n → nat_lt n m ≡ false
less_false n m le = by (nat_lt n m) refl where
  by : (b : Bool) → nat_lt n m ≡ b → b ≡ false
  by false e = refl
  by true e = let lt = ltb-true n m e in absurd (omega (arith, lt, le))

or_false : (b : Bool) → (b || false) ≡ b
or_false true = refl
or_false false = refl

-- where the later event was noted before
kept_noted : (n event old : ℕ) → event ≤ old → nat_lt n old ≡ (nat_lt n old || nat_lt n event)
kept_noted n event old le = by (nat_lt n event) refl where
  by : (b : Bool) → nat_lt n event ≡ b → nat_lt n old ≡ (nat_lt n old || b)
  by true e = let lt = ltb-true n event e in let hit = less_true n old (omega (arith, lt, le)) in hit ∙ sym (ap (λ (x : Bool). x || true) hit)
  by false e = sym (or_false (nat_lt n old))

set_noted : (n event old : ℕ) → old ≤ event → nat_lt n event ≡ (nat_lt n old || nat_lt n event)
set_noted n event old le = by (nat_lt n old) refl where
  by : (b : Bool) → nat_lt n old ≡ b → nat_lt n event ≡ (b || nat_lt n event)
  by true e = let lt = ltb-true n old e in less_true n event (omega (arith, lt, le))
  by false e = refl

pub noted_before : (until : List ℕ) (graph event d : ℕ) → graph < length until → event ≤ get_or until graph d → IsNoted until graph event until
noted_before until graph event d low le g n = by (cases_eq graph g) where
  there : get_or until graph d ≡ until_at until graph
  there = default until graph d low where
    default : (xs : List ℕ) (i d : ℕ) → i < length xs → get_or xs i d ≡ slice_index_or xs i 0
    default [] i d lt = absurd (omega (arith, lt))
    default (x ∷ xs) zero d lt = refl
    default (x ∷ xs) (suc i) d lt = default xs i d (omega (arith, lt))

  by : (graph ≡ g) ⊎ (graph ≡ g → ⊥) → nat_lt n (until_at until g) ≡ (nat_lt n (until_at until g) || ((graph == g) && nat_lt n event))
  by (inl e) =
      let at : get_or until graph d ≡ until_at until g = there ∙ ap (until_at until) e in
      kept_noted n event (until_at until g) (omega (arith, le, at)) ∙ sym (ap (λ (b : Bool). nat_lt n (until_at until g) || (b && nat_lt n event)) (eq-eqb graph g e))
  by (inr other) = sym (ap (λ (b : Bool). nat_lt n (until_at until g) || (b && nat_lt n event)) (ne_eqb graph g other) ∙ or_false (nat_lt n (until_at until g)))

pub noted_now : (until : List ℕ) (graph event d : ℕ) → graph < length until → get_or until graph d < event → IsNoted until graph event (slice_set until graph event)
noted_now until graph event d low lt g n = by (cases_eq graph g) where
  there : get_or until graph d ≡ until_at until graph
  there = default until graph d low where
    default : (xs : List ℕ) (i d : ℕ) → i < length xs → get_or xs i d ≡ slice_index_or xs i 0
    default [] i d lt = absurd (omega (arith, lt))
    default (x ∷ xs) zero d lt = refl
    default (x ∷ xs) (suc i) d lt = default xs i d (omega (arith, lt))

  by : (graph ≡ g) ⊎ (graph ≡ g → ⊥) → nat_lt n (until_at (slice_set until graph event) g) ≡ (nat_lt n (until_at until g) || ((graph == g) && nat_lt n event))
  by (inl e) =
      let at : get_or until graph d ≡ until_at until g = there ∙ ap (until_at until) e in
      ap (nat_lt n) (ap (until_at (slice_set until graph event)) (sym e) ∙ get_or-set_same until graph event 0 low) ∙ set_noted n event (until_at until g) (omega (arith, lt, at))
      ∙ sym (ap (λ (b : Bool). nat_lt n (until_at until g) || (b && nat_lt n event)) (eq-eqb graph g e))
  by (inr other) =
      ap (nat_lt n) (get_or-set_other until graph g event 0 (λ e. other (sym e)))
      ∙ sym (ap (λ (b : Bool). nat_lt n (until_at until g) || (b && nat_lt n event)) (ne_eqb graph g other) ∙ or_false (nat_lt n (until_at until g)))

-- ---- winds

pub no_winds : (until : List ℕ) → AreZeros until → AreWindsNoted [] until
no_winds until are g n = ap (nat_lt n) (are g) ∙ less_false n 0 (omega arith)

pub winds_next : (winds : List WindLine) (k : ℕ) (d line : WindLine) (old new : List ℕ) → k < length winds → line ≡ get_or winds k d → AreWindsNoted (take k winds) old → IsNoted old line.graph line.event new → AreWindsNoted (take (k + 1) winds) new
winds_next winds k d line old new lt is are noted g n =
    noted g n ∙ ap (λ (b : Bool). b || is_wind_behind g n line) (are g n) ∙ ap (λ (l : WindLine). list_any (is_wind_behind g n) (take k winds) || is_wind_behind g n l) is ∙ sym (list_any_more (is_wind_behind g n) winds k d lt)

pub winds_all : (winds : List WindLine) (k : ℕ) (until : List ℕ) → length winds ≤ k → AreWindsNoted (take k winds) until → AreWindsNoted winds until
winds_all winds k until le are = subst (λ (l : List WindLine). AreWindsNoted l until) (take_all k winds le) are

-- ---- replies

module _ (log : Log) where
  pub no_replies : (until : List ℕ) → AreWindsNoted log.winds until → AreUsesNoted log [] until
  no_replies until are g n = are g n ∙ sym (or_false (list_any (is_wind_behind g n) log.winds))

  or_more : (a b c : Bool) → ((a || b) || c) ≡ (a || (b || c))
  or_more true b c = refl
  or_more false b c = refl

  pub replies_next : (replies : List ReplyLine) (k : ℕ) (d reply : ReplyLine) (old new : List ℕ) → k < length replies → reply ≡ get_or replies k d → AreUsesNoted log (take k replies) old
      → IsNoted old (graph_of_call log reply.call) reply.event new → AreUsesNoted log (take (k + 1) replies) new
  replies_next replies k d reply old new lt is are noted g n =
      noted g n ∙ ap (λ (b : Bool). b || is_reply_behind log g n reply) (are g n)
      ∙ or_more (list_any (is_wind_behind g n) log.winds) (list_any (is_reply_behind log g n) (take k replies)) (is_reply_behind log g n reply)
      ∙ ap (λ (b : Bool). list_any (is_wind_behind g n) log.winds || b)
      (ap (λ (r : ReplyLine). list_any (is_reply_behind log g n) (take k replies) || is_reply_behind log g n r) is ∙ sym (list_any_more (is_reply_behind log g n) replies k d lt))

  pub replies_all : (replies : List ReplyLine) (k : ℕ) (until : List ℕ) → length replies ≤ k → AreUsesNoted log (take k replies) until → AreUsesNoted log replies until
  replies_all replies k until le are = subst (λ (l : List ReplyLine). AreUsesNoted log l until) (take_all k replies le) are

  -- the graph of a reply's call
  pub reply_noted : (calls : List CallAt) (call event : ℕ) (at : CallAt) (old new : List ℕ) → calls ≡ calls_from 0 1 log.events → call_at calls call ≡ Some at → IsNoted old at.graph event new → IsNoted old (graph_of_call log call) event new
  reply_noted calls call event at old new same is noted =
      subst (λ (g : ℕ). IsNoted old g event new) (sym (call_is log call at (ap (λ (l : List CallAt). call_at l call) (sym same) ∙ is)).graph_is) noted
