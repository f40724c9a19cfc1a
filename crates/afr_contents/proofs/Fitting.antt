-- The op of a change that a good copy has fits what is adopted, and so does that of one that is to be adopted.
use Rattle.std.proofs.Common.{◌≡◌, ◌∙◌, ℕ, ◌<◌, true, false, sym, ap, subst, ◌⊎◌, inl, inr, arith, Option}
use Rattle.fop_types.specs.StoreOps.{needs, fits}
use Rattle.fop_types.specs.declared.cells.Cell.{Cell}
use Rattle.fop_types.specs.declared.store_ops.StoreOp.{StoreOp}
use Rattle.afr_machine.specs.Replicas.{Size, IsSize}
use Rattle.afr_machine.specs.Touching.{has_cell}
use Rattle.afr_machine.specs.Copies.{Copy, content_of, contents_of, changes_of, has_change}
use Rattle.afr_machine.specs.Requests.{Sender, Ask}
use Rattle.afr_machine.specs.Requests.Ask.{Op}
use Rattle.afr_machine.specs.Changes.{is_unsettled}
use Rattle.afr_machine.specs.States.{State, phase_of}
use Rattle.afr_machine.specs.Steps.{MayDecide, IsReached}
use Rattle.afr_laws.specs.Senders.{EachInput}
use Rattle.afr_laws.specs.Copies.{IsOpOf, Carries}
use Rattle.afr_laws.specs.Numbers.{applied}
use Rattle.afr_laws.specs.Rows.{accuses_at}
use Rattle.afr_laws.specs.Sound.{comes, accusers_coming}
use Rattle.afr_laws.proofs.Bools.{apart_bools, is_or_not, or_left}
use Rattle.afr_laws.proofs.Copies.Asks.{sent_is, share_at}
use Rattle.afr_laws.proofs.Copies.Steps.{copies_are_of_changes}
use Rattle.afr_laws.proofs.Counts.{count_within}
use Rattle.afr_laws.proofs.OwnChanges.Steps.{changes_are_own}
use Rattle.afr_soundness.specs.Guarded.{OneIsFreeOn}
use Rattle.afr_soundness.proofs.Copied.Lines.{each_both}
use Rattle.afr_soundness.proofs.Guarded.{leaves_one_free}
use Rattle.afr_soundness.proofs.Unsettled.{one_unsettled}
use Rattle.afr_decisions.specs.Stands.{IsDecidedBy}
use Rattle.afr_decisions.proofs.Cells.{SomeCell, sent_has_cell}
use Rattle.afr_decisions.proofs.Staying.{confirmed_accuse}
use Rattle.afr_decisions.proofs.Stands.{decides_of, counted_decides}
use Rattle.afr_contents.specs.Adopted.{adopted_on, settled}
use Rattle.afr_contents.specs.Good.{IsGood, IsSettledCopy}
use Rattle.afr_contents.specs.Good.IsGood.{Absent, Settled, Ahead}
use Rattle.afr_contents.specs.Coming.{FindsSettled, IsRightAt}
use Rattle.afr_contents.specs.Fitting.{IsJudgedAt, EveryAdoptionFits}
use Rattle.afr_contents.proofs.Lists.{below_adopted}
use Rattle.afr_contents.proofs.Ops.{first_is, fits_same}
use Rattle.afr_contents.proofs.OfAdopted.{changes_of_adopted}
use Rattle.afr_contents.proofs.Settled.{unsettled_not_on}
use Rattle.afr_contents.proofs.Decided.{left_out}
use Rattle.afr_contents.proofs.LeftGood.{many_of}
use Rattle.afr_contents.proofs.Coming.{comes_good}
use Rattle.afr_contents.proofs.Laws.{free_good}

module _ (size : Size) (m : State) (r : IsReached size m) (u : ℕ) (unsettled : is_unsettled (m.changes u).verdict ≡ true) where
  -- what is settled of its cells is adopted
  agrees : (c : Cell) → has_cell (needs (m.changes u).op) c ≡ true → settled m c ≡ m.adopted c
  agrees c has = first_is (m.adopted c) (m.born c) (changes_of_adopted size m r u c unsettled (ap (λ cs. has_cell cs c) ((changes_are_own size m r).fit.needs_are u) ∙ has))

  adopted_fits : fits (settled m) (m.changes u).op ≡ true → fits m.adopted (m.changes u).op ≡ true
  adopted_fits h = sym (fits_same (settled m) m.adopted (m.changes u).op agrees) ∙ h

  module _ (cell : Cell) (touches : has_cell (m.changes u).cells cell ≡ true) where
    unlisted : has_change (adopted_on m cell) u ≡ true → ⊥
    unlisted h = apart_bools (below_adopted cell m.changes m.drawn u h) (unsettled_not_on (m.changes u) cell unsettled)

    pub copy_fits : (copy : Option Copy) → has_change (changes_of copy) u ≡ true → IsGood m cell copy → fits m.adopted (m.changes u).op ≡ true
    copy_fits copy has (Absent e empty) = absurd (let no : false ≡ true = sym (ap (λ c. has_change (changes_of c) u) e) ∙ has in cc)
    copy_fits copy has (Settled held e changes content) = absurd (unlisted (sym (ap (λ l. has_change l u) changes) ∙ sym (ap (λ c. has_change (changes_of c) u) e) ∙ has))
    copy_fits copy has (Ahead held v e a) = adopted_fits (subst (λ n. fits (settled m) (m.changes n).op ≡ true) same a.fitting) where
      same : v ≡ u
      same = one_unsettled size m r v u a.unsettled unsettled (share_at (m.changes v).cells (m.changes u).cells cell a.touches touches)

-- ---- a change that is to be adopted

module _ (size : Size) (m : State) (is_size : IsSize size) (r : IsReached size m) (t : ℕ) (h : MayDecide size m t) (adopts : h.adopts ≡ true) (unsettled : is_unsettled (m.changes h.change).verdict ≡ true) where
  abbrev u : ℕ
  u = h.change

  d : IsDecidedBy size m (m.txns t).phase h.change h.adopts
  d = counted_decides size is_size m r t h.change h.adopts h.many h.decision

  some : SomeCell (m.changes h.change).cells
  some = sent_has_cell size m r h.change (sent_is (m.changes h.change).verdict unsettled)

  -- one replica is free on all of its cells, so the quorum that confirmed does not accuse it
  f : OneIsFreeOn size m (m.changes h.change).cells
  f = (leaves_one_free size m is_size r).unsettled h.change unsettled

  unaccused : (phase_of m t).accused f.replica ≡ true → ⊥
  unaccused accused =
      let more = count_within size.replicas (phase_of m t).confirmed (accusers_coming m some.cell f.replica) (λ k low noted.
      or_left (accuses_at (m.bricks k).store some.cell f.replica) (comes (m.bricks k).line some.cell f.replica)
      (confirmed_accuse size m r (m.txns t).phase h.change k f.replica some.cell d.one d.low (decides_of h.change h.adopts (phase_of m t).decides d.decides) unsettled noted some.has accused).accuses) in
      let few = (f.free some.cell some.has).few in
      let many = d.many in
      absurd (omega (arith, more, few, many))

  -- so it has the change
  has : has_change (applied m f.replica some.cell) h.change ≡ true
  has = by_case (is_or_not (has_change (applied m f.replica some.cell) h.change)) where
    by_case : (has_change (applied m f.replica some.cell) h.change ≡ true) ⊎ (has_change (applied m f.replica some.cell) h.change ≡ false) → has_change (applied m f.replica some.cell) h.change ≡ true
    by_case (inl is) = is
    by_case (inr none) = absurd (unaccused (left_out size m is_size r h.change unsettled f.replica f.low (m.txns t).phase h.adopts d (λ s. apart_bools (s.has some.cell some.has ∙ adopts) none)))

  pub adoption_fits : fits m.adopted (m.changes h.change).op ≡ true
  adoption_fits = copy_fits size m r h.change unsettled some.cell some.has ((m.bricks f.replica).store some.cell).copy has (free_good size m is_size r f.replica some.cell f.low (f.free some.cell some.has))

-- ---- ops on their way

module _ (size : Size) (m : State) (is_size : IsSize size) (r : IsReached size m) (i : ℕ) (few : i < size.replicas) where
  module _ (u : ℕ) (op : StoreOp) (carries : IsOpOf m.changes u op) (finds : FindsSettled m (m.bricks i).store u op) where
    -- the store has what is adopted of the cells that the op needs
    store_agrees : (c : Cell) → has_cell (needs op) c ≡ true → contents_of (m.bricks i).store c ≡ m.adopted c
    store_agrees c has = ap content_of s.is ∙ sym s.content ∙ by_case carries where
      s : IsSettledCopy m c ((m.bricks i).store c).copy
      s = (finds c has).1

      by_case : IsOpOf m.changes u op → settled m c ≡ m.adopted c
      by_case (inl birth) = apart_bools has (ap (λ cs. has_cell cs c) birth.1)
      by_case (inr sent) = agrees size m r u (finds c has).0 c (ap (λ o. has_cell (needs o) c) (sym sent.1) ∙ has)

  judged : (by : Sender) (ask : Ask) → IsRightAt size m i ask → Carries m.changes ask → IsJudgedAt size m i ask
  judged by (Op u op) (inl finds) carries = inl (fits_same (contents_of (m.bricks i).store) m.adopted op (store_agrees u op carries finds))
  judged by (Op u op) (inr accused) carries = inr (λ cell has. many_of size m i cell (accused cell has))
  judged by other right carries = tt

  ops_judged : EachInput (λ by ask. IsJudgedAt size m i ask) (m.bricks i).line
  ops_judged = each_both (λ by ask. IsRightAt size m i ask) (λ by ask. Carries m.changes ask) (λ by ask. IsJudgedAt size m i ask) judged (m.bricks i).line ((comes_good size m is_size r).lines i few) ((copies_are_of_changes size m r).bricks i).line

pub adoptions_fit : EveryAdoptionFits
adoptions_fit size m is_size r = record {
  applied_fit = λ u i cell unsettled touches good has. copy_fits size m r u unsettled cell touches ((m.bricks i).store cell).copy has good;
  adoptions_fit = λ t h adopts unsettled. adoption_fits size m is_size r t h adopts unsettled;
  ops_judged = λ i few. ops_judged size m is_size r i few;
}
