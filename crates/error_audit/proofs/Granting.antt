-- What bricks showed, from what the tests find.
use Rattle.std.proofs.Common.{◌≡◌, sym, subst, get_or}
use Rattle.std.specs.Prelude.{ℕ, ◌+◌, ◌<◌, ◌≤◌, List, [], ◌∷◌, ◌++◌, length, take}
use Rattle.std.specs.List.{AllZip}
use Rattle.std.proofs.lemmas.List.{take_more}
use Rattle.fop_types.specs.declared.cells.Cell.{Cell}
use Rattle.fop_types.specs.declared.contents.Row.{Row}
use Rattle.fop_types.specs.declared.messages.Output.{Output}
use Rattle.mount_log.specs.Causes.{IsGranted}
use Rattle.mount_log.specs.Locks.{IsLock}
use Rattle.mount_log.specs.declared.logs.Log.{Log}
use Rattle.error_audit.specs.Evidence.{IsArrived}
use Rattle.error_audit.specs.Showing.{AreRowsOf, IsOneMore}

pub granted : (log : Log) (call until from : ℕ) (cells asked : List Cell) (brick at wind : ℕ) (rows : List Row) (output : Output) → from ≤ at → IsLock log call at brick wind asked → asked ≡ cells → IsArrived log until brick output
    → AreRowsOf log call wind rows output.kind → IsGranted log call until from cells brick rows
granted log call until from cells asked brick at wind rows output le lock same came r = record {
  at = at;
  later = le;
  wind = wind;
  lock = subst (IsLock log call at brick wind) same lock;
  output = output;
  answered = record { place = came.place; bytes = came.bytes; arrives = came.arrives; by_then = came.by_then; read = came.read; reply = r.is; of_call = r.of_call };
}

module _ {A B : Type 0} (R : A → B → Type 0) where
  pub zip_push : (xs : List A) (ys : List B) (x : A) (y : B) → AllZip R xs ys → R x y → AllZip R (xs ++ x ∷ []) (ys ++ y ∷ [])
  zip_push [] [] x y all own = (own, record {})
  zip_push [] (z ∷ ys) x y all own = absurd all
  zip_push (w ∷ xs) [] x y all own = absurd all
  zip_push (w ∷ xs) (z ∷ ys) x y all own = (all.0, zip_push xs ys x y all.1 own)

  -- what one more shows
  pub zip_next : (xs items : List A) (i : ℕ) (d : A) (old new : List B) → items ≡ xs → i < length items → AllZip R (take i xs) old → IsOneMore (R (get_or items i d)) old new → AllZip R (take (i + 1) xs) new
  zip_next xs items i d old new same lt all more =
      subst (λ (l : List A). AllZip R (take (i + 1) l) new) same
      (subst (λ (l : List A). AllZip R l new) (sym (take_more items i d lt))
      (subst (AllZip R (take i items ++ get_or items i d ∷ [])) (sym more.is) (zip_push (take i items) old (get_or items i d) more.item (subst (λ (l : List A). AllZip R (take i l) old) (sym same) all) more.has)))
