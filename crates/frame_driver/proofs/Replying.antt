-- What winds keep that end from outside.
use Rattle.std.proofs.Common.{◌≡◌, refl, sym, ap, subst, ◌∙◌, arith, inl, inr}
use Rattle.std.proofs.lemmas.List.Sorted.{sum_by-IsPermutation}
use Rattle.std.specs.List.Sorted.{IsPermutation}
use Rattle.std.specs.Prelude.{ℕ, ◌≢◌, ◌⊎◌, ◌≤◌, ◌+◌, ◌==◌, cond, Bool, true, false, List, [], ◌∷◌, length, Option, Some, None, is_some, count_by}
use Rattle.xlator_law.specs.declared.winds.WindNo.{WindNo}
use Rattle.xlator_law.specs.declared.winds.Settled.{Settled}
use Rattle.xlator_law.specs.declared.winds.Settled.TheVariants.{Won, Lost}
use Rattle.xlator_law.specs.Law.{Promise}
use Rattle.frame_stack.specs.declared.frame.Opener.{Opener}
use Rattle.frame_stack.specs.Moves.{is_wind}
use Rattle.frame_stack.specs.Stack.{Stack, frame_at, word_at, pending, opener_of, settled_as}
use Rattle.frame_stack.specs.Cells.{cell_at}
use Rattle.frame_stack.proofs.Openers.{cases_wind}
use Rattle.frame_driver.specs.declared.board.Board.{Board}
use Rattle.frame_driver.specs.declared.items.Bailed.{Bailed}
use Rattle.frame_driver.specs.Account.{account}
use Rattle.frame_driver.specs.Bailing.{is_bailed, won_by, AreEnded, AreOurs, IsBailed}
use Rattle.frame_driver.specs.Bailing.AreEnded.{NoEnd, OneEnd}
use Rattle.frame_driver.specs.Breadth.{Nests}
use Rattle.frame_driver.specs.Follows.{waits_in}
use Rattle.frame_driver.specs.Leading.{Leads}
use Rattle.frame_driver.specs.Machine.{Ends, EndsBy, IsEnded}
use Rattle.frame_driver.specs.Parts.{opened, places, IsParted}
use Rattle.frame_driver.specs.Sound.{is_of, Sound}
use Rattle.frame_driver.specs.Tasks.{one, AreTasks, IsOpenerOurs, IsWindOurs}
use Rattle.frame_driver.specs.Total.{total}
use Rattle.frame_driver.specs.Waits.{times, AreHeld}
use Rattle.frame_driver.proofs.Ending.{Still, ended_still, ended_by}
use Rattle.frame_driver.proofs.Leading.{leads_same, leads_then, leads_ended, reached_on}
use Rattle.frame_driver.proofs.Nesting.{ended_nests}
use Rattle.frame_driver.proofs.Parts.{itself, is_same_wind, ended_parted}
use Rattle.frame_driver.proofs.Standing.{count_cons, moved}
use Rattle.frame_driver.proofs.Tasking.{replied_tasks}
use Rattle.frame_driver.proofs.Total.{ended_total, ended_account}

module _ {F R L : Type 0} (w : WindNo) (reply : R) (old new : Board F R L) (is : IsEnded w reply old new) where
  still : Still old new
  still = ended_still w reply old new is

  pub replied_sound : IsWindOurs old.stack old.graph w → (ps : ℕ → List (Promise F L)) → Sound ps old → Sound ps new
  replied_sound ours ps s = record {
    follows = λ k. moved ps old new k (ap (λ fs. cell_at fs k) still.frames) (λ n. still.expected k n) (still.going k) (s.follows k);
    tasks = subst (λ g. AreTasks (length (ps g)) g new.stack new.queue) (sym still.graph) (replied_tasks old.graph (length (ps old.graph)) w reply old new s.reachable (λ o at. subst (λ (c : Option Opener). IsOpenerOurs old.graph c) at ours) is s.tasks);
    reachable = reached_on old new (leads_ended w reply old new ours is) s.reachable;
    counted = still.count ∙ s.counted ∙ ap (count_by (is_of old.graph)) (sym still.frames) ∙ ap (λ g. count_by (is_of g) new.stack.frames) (sym still.graph);
  }

  pub replied_held : (ps : ℕ → List (Promise F L)) (outer : ℕ → ℕ) → AreHeld ps outer old → AreHeld ps outer new
  replied_held ps outer h k =
      let e = h k in
      let w : times k new.waiting ≡ times k old.waiting = ap (times k) still.waiting in
      let g = still.going k in
      let f : one (waits_in ps (frame_at new.stack k)) ≡ one (waits_in ps (frame_at old.stack k)) = ap (λ fs. one (waits_in ps (cell_at fs k))) still.frames in
      omega (arith, e, w, g, f)

  -- The wind was outside as often as it was open; it is nowhere then.
  pub replied_parted : (outer : WindNo → ℕ) → IsParted outer old → outer w ≡ opened old.stack w → IsParted (λ v. cond (is_wind v w) 0 (outer v)) new
  replied_parted outer p had = by_opener (opener_of old.stack w) refl where
    same : (v : WindNo) → is_wind v w ≡ true → outer v ≡ opened old.stack v
    same v e = ap outer (is_same_wind v w e) ∙ had ∙ ap (opened old.stack) (sym (is_same_wind v w e))

    by_opener : (c : Option Opener) → opener_of old.stack w ≡ c → IsParted (λ v. cond (is_wind v w) 0 (outer v)) new
    by_opener None at = late (word_at old.stack w.slot == pending w) is where
      none : (v : WindNo) (b : Bool) → is_wind v w ≡ b → cond b 0 (outer v) ≡ outer v
      none v true e = sym (same v e ∙ ap (opened old.stack) (is_same_wind v w e) ∙ ap (λ (c : Option Opener). one (is_some c)) at)
      none v false e = refl

      late : (b : Bool) → EndsBy b w reply old new → IsParted (λ v. cond (is_wind v w) 0 (outer v)) new
      late true e = absurd (let o = e.opened in cc)
      late false e = subst (λ (b : Board F R L). IsParted (λ v. cond (is_wind v w) 0 (outer v)) b) (sym e) (record { placed = λ v. let h = p.placed v in let n = none v (is_wind v w) refl in omega (arith, h, n); ended = p.ended })
    by_opener (Some o) at = ended_parted (λ v. cond (is_wind v w) 0 (outer v)) w reply old new is (λ v. before v (is_wind v w) refl) p.ended where
      before : (v : WindNo) (b : Bool) → is_wind v w ≡ b → places (λ x. cond (is_wind x w) 0 (outer x)) old v + one (is_wind v w) ≡ opened old.stack v
      before v true e =
          let h = p.placed v in
          let s = same v e in
          let z : cond (is_wind v w) 0 (outer v) ≡ 0 = ap (λ b. cond b 0 (outer v)) e in
          let i : one (is_wind v w) ≡ 1 = ap one e in
          let n : opened old.stack v ≡ 1 = ap (opened old.stack) (is_same_wind v w e) ∙ ap (λ (c : Option Opener). one (is_some c)) at in
          omega (arith, h, s, z, i, n)
      before v false e =
          let h = p.placed v in
          let z : cond (is_wind v w) 0 (outer v) ≡ outer v = ap (λ b. cond b 0 (outer v)) e in
          let i : one (is_wind v w) ≡ 0 = ap one e in
          omega (arith, h, z, i)

  -- other winds of the graph are of it still
  ours_still : (v : WindNo) → IsWindOurs old.stack old.graph v → IsWindOurs new.stack new.graph v
  ours_still v ours = subst (λ g. IsWindOurs new.stack g v) (sym still.graph) (ended_by w reply old new (λ b. IsWindOurs b.stack old.graph v) is ours (λ e. by_wind e (cases_wind v w))) where
    by_wind : Ends w reply old new → (v ≡ w) ⊎ (v ≢ w) → IsWindOurs new.stack old.graph v
    by_wind e (inl same) = subst (λ (c : Option Opener). IsOpenerOurs old.graph c) (sym (ap (opener_of new.stack) same ∙ e.openers.here)) tt
    by_wind e (inr differs) = subst (λ (c : Option Opener). IsOpenerOurs old.graph c) (sym (e.openers.others v differs)) ours

  pub are_ours_still : (xs : List (Bailed R)) → AreOurs old.stack old.graph xs → AreOurs new.stack new.graph xs
  are_ours_still xs ours v h = ours_still v (ours v h)

module _ {R L : Type 0} (s : Stack L) (g : ℕ) where
  pub first_ours : (x : Bailed R) (xs : List (Bailed R)) → AreOurs s g (x ∷ xs) → IsWindOurs s g x.wind
  first_ours x xs ours = ours x.wind (let c = count_cons (is_bailed x.wind) x xs in let i : one (is_wind x.wind x.wind) ≡ 1 = ap one (itself x.wind) in omega (arith, c, i))

  pub rest_ours : (x : Bailed R) (xs : List (Bailed R)) → AreOurs s g (x ∷ xs) → AreOurs s g xs
  rest_ours x xs ours v h = ours v (let c = count_cons (is_bailed v) x xs in omega (arith, c, h))

  pub order_ours : (xs ys : List (Bailed R)) → IsPermutation xs ys → AreOurs s g xs → AreOurs s g ys
  order_ours xs ys same ours v h = ours v (let m = sum_by-IsPermutation (λ (x : Bailed R). cond (is_bailed v x) 1 0) xs ys same in omega (arith, m, h))

module _ {F R L : Type 0} where
  -- what each end keeps is kept by all
  pub all_ended : (P : Board F R L → Type 0) → ((w : WindNo) (reply : R) (a b : Board F R L) → IsWindOurs a.stack a.graph w → IsEnded w reply a b → P a → P b) → (xs : List (Bailed R)) (old new : Board F R L) (count : ℕ) → AreEnded xs old new count → AreOurs old.stack old.graph xs → P old → P new
  all_ended P keep _ _ _ _ (NoEnd b) ours p = p
  all_ended P keep _ _ _ _ (OneEnd x xs old mid new count is rest) ours p = all_ended P keep xs mid new count rest (are_ours_still x.wind x.reply old mid is xs (rest_ours old.stack old.graph x xs ours)) (keep x.wind x.reply old mid (first_ours old.stack old.graph x xs ours) is p)

  module _ (winds : List (Bailed R)) (old new : Board F R L) (count : ℕ) (is : IsBailed winds old new count) (ours : AreOurs old.stack old.graph is.order) where
    pub bailed_sound : (ps : ℕ → List (Promise F L)) → Sound ps old → Sound ps new
    bailed_sound ps = all_ended (Sound ps) (λ w reply a b mine e s. replied_sound w reply a b e mine ps s) is.order old new count is.ended ours

    pub bailed_held : (ps : ℕ → List (Promise F L)) (outer : ℕ → ℕ) → AreHeld ps outer old → AreHeld ps outer new
    bailed_held ps outer = all_ended (AreHeld ps outer) (λ w reply a b mine e h. replied_held w reply a b e ps outer h) is.order old new count is.ended ours

    pub bailed_nests : (ps : ℕ → List (Promise F L)) → Nests ps old → Nests ps new
    bailed_nests ps = all_ended (Nests ps) (λ w reply a b mine e n. ended_nests ps w reply a b e n) is.order old new count is.ended ours

    pub bailed_work : (ps : ℕ → List (Promise F L)) → total ps new ≡ total ps old
    bailed_work ps = all_ended (λ b. total ps b ≡ total ps old) (λ w reply a b mine e h. ended_total w reply ps a b e ∙ h) is.order old new count is.ended ours refl

    pub bailed_paid : (ps : ℕ → List (Promise F L)) (c : ℕ) → account ps c new ≡ account ps c old
    bailed_paid ps c = all_ended (λ b. account ps c b ≡ account ps c old) (λ w reply a b mine e h. ended_account w reply ps c a b e ∙ h) is.order old new count is.ended ours refl

    pub bailed_frames : new.stack.frames ≡ old.stack.frames
    bailed_frames = all_ended (λ b. b.stack.frames ≡ old.stack.frames) (λ w reply a b mine e h. (ended_still w reply a b e).frames ∙ h) is.order old new count is.ended ours refl

    pub bailed_parted : (outer rest : WindNo → ℕ) → IsParted outer old → ((w : WindNo) → outer w ≡ rest w + count_by (is_bailed w) winds) → IsParted rest new
    bailed_parted outer rest p split = parted_all is.order old new count outer is.ended p (λ w. let s = split w in let m = sum_by-IsPermutation (λ (x : Bailed R). cond (is_bailed w x) 1 0) winds is.order is.same in omega (arith, s, m)) where
      parted_all : (xs : List (Bailed R)) (a b : Board F R L) (n : ℕ) (out : WindNo → ℕ) → AreEnded xs a b n → IsParted out a → ((v : WindNo) → out v ≡ rest v + count_by (is_bailed v) xs) → IsParted rest b
      parted_all _ _ _ _ out (NoEnd a) q s = record { placed = λ v. let h = q.placed v in let e = s v in omega (arith, h, e); ended = q.ended }
      parted_all _ _ _ _ out (OneEnd x xs a mid b n end more) q s =
          let next = ended_parted (λ v. rest v + count_by (is_bailed v) xs) x.wind x.reply a mid end
          (λ v. let h = q.placed v in let e = s v in let c = count_cons (is_bailed v) x xs in omega (arith, h, e, c)) q.ended in
          parted_all xs mid b n (λ v. rest v + count_by (is_bailed v) xs) more next (λ v. refl)

-- The ends of the first winds, and what is left of the list.
pub record Ending {F R L : Type 0} (all rest : List (Bailed R)) (old now : Board F R L) (won : ℕ) : Type 0 where
  pub more : (new : Board F R L) (n : ℕ) → AreEnded rest now new n → AreEnded all old new (won + n)
  pub ours : AreOurs now.stack now.graph rest
  pub leads : Leads old now
  pub few : won + length rest ≤ length all

-- a wind that was pending counts as one
pub won_one : {L : Type 0} (s : Stack L) (w : WindNo) (settled : Settled) → settled ≡ settled_as s w → won_by settled ≡ one (word_at s w.slot == pending w)
won_one s w settled is = ap won_by is ∙ by_case (word_at s w.slot == pending w) where
  by_case : (b : Bool) → won_by (cond b Won (Lost (word_at s w.slot))) ≡ one b
  by_case true = refl
  by_case false = refl

module _ {F R L : Type 0} where
  pub ending_first : (all : List (Bailed R)) (old : Board F R L) → AreOurs old.stack old.graph all → Ending all all old old 0
  ending_first all old ours = record { more = λ new n is. subst (λ m. AreEnded all old new m) (omega (arith)) is; ours = ours; leads = leads_same old; few = omega (arith) }

  pub ending_next : (all rest : List (Bailed R)) (x : Bailed R) (old now next : Board F R L) (won : ℕ) (settled : Settled) → Ending all (x ∷ rest) old now won → IsEnded x.wind x.reply now next → settled ≡ settled_as now.stack x.wind → Leads now next → Ending all rest old next (won + won_by settled)
  ending_next all rest x old now next won settled e is at leads =
      let one_more = won_one now.stack x.wind settled at in record {
        more = λ new n ended. subst (λ m. AreEnded all old new m) (omega (arith, one_more)) (e.more new (one (word_at now.stack x.wind.slot == pending x.wind) + n) (OneEnd x rest now next new n is ended));
        ours = are_ours_still x.wind x.reply now next is rest (rest_ours now.stack now.graph x rest e.ours);
        leads = leads_then old now next e.leads leads;
        few = let f = e.few in let s = small (word_at now.stack x.wind.slot == pending x.wind) in omega (arith, f, s, one_more);
      } where
        small : (b : Bool) → one b ≤ 1
        small true = omega (arith)
        small false = omega (arith)

  pub ending_last : (all : List (Bailed R)) (old now : Board F R L) (won : ℕ) → Ending all [] old now won → AreEnded all old now won
  ending_last all old now won e = subst (λ m. AreEnded all old now m) (omega (arith)) (e.more now 0 (NoEnd now))

  pub ending_leads : (all rest : List (Bailed R)) (old now next : Board F R L) (won : ℕ) → Ending all rest old now won → Leads now next → Leads old next
  ending_leads all rest old now next won e leads = leads_then old now next e.leads leads
