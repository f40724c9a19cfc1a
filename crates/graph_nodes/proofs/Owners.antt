-- The frames of a mount are of graphs that it has.
use Rattle.std.proofs.Common.{◌≡◌, refl, sym, ap, ◌∙◌, arith}
use Rattle.std.proofs.lemmas.Bool.{eq-eqb}
use Rattle.std.specs.Prelude.{ℕ, zero, suc, ◌+◌, List, [], ◌∷◌, Option, None, Some, is_some, slice_index_or, count_by, true, false}
use Rattle.std.specs.BTreeMap.{BTreeMap, get, keys}
use Rattle.std.specs.Ordering.{nat_cmp}
use Rattle.xlator_law.specs.declared.winds.Place.{Place}
use Rattle.frame_stack.specs.Stack.{frame_at, place_in, place_at}
use Rattle.frame_stack.specs.declared.frame.Frame.{Frame}
use Rattle.frame_driver.specs.Sound.{is_of}
use Rattle.frame_driver.specs.Tasks.{one}
use Rattle.frame_driver.proofs.Standing.{count_cons}
use Rattle.graph_nodes.specs.declared.graph.Graph.{Graph}
use Rattle.graph_nodes.specs.declared.locals.Local.{Local}
use Rattle.graph_nodes.specs.declared.moved.Mount.{Mount}
use Rattle.graph_nodes.specs.Live.{AllLive}
use Rattle.graph_nodes.specs.Mounted.{has}
use Rattle.graph_nodes.proofs.Together.{has_is}

-- a frame is counted as one of its graph
is_counted : (n : ℕ) (frames : List (Option (Frame Local))) (key : ℕ) (f : Frame Local) → slice_index_or frames key None ≡ Some f → f.place.graph ≡ n → count_by (is_of n) frames ≡ 0 → ⊥
is_counted n [] key f is same none = absurd cc
is_counted n (x ∷ xs) zero f is same none =
    let c = count_cons (is_of n) x xs in
    let e : x ≡ Some f = is in
    let o : one (is_of n x) ≡ 1 = ap (λ (y : Option (Frame Local)). one (is_of n y)) e ∙ ap one (eq-eqb f.place.graph n same) in
    absurd (omega (arith, c, none, o))
is_counted n (x ∷ xs) (suc key) f is same none = is_counted n xs key f is same (let c = count_cons (is_of n) x xs in omega (arith, c, none))

pub owned : (live : BTreeMap ℕ Graph) (mount : Mount) (key : ℕ) (place : Place) → AllLive live mount → place_at mount.frames key ≡ Some place → has (keys live) place.graph ≡ true
owned live mount key place all is = sym (has_is live place.graph) ∙ by_graph (get nat_cmp live place.graph) refl where
  by_frame : (c : Option (Frame Local)) → frame_at mount.frames key ≡ c → place_in c ≡ Some place → get nat_cmp live place.graph ≡ None → ⊥
  by_frame None there at none = absurd cc
  by_frame (Some f) there at none = let same : f.place ≡ place = cc in is_counted place.graph mount.frames.frames key f there (ap (λ (q : Place). q.graph) same) (sym (all.are.others place.graph none).sound.counted)

  by_graph : (o : Option Graph) → get nat_cmp live place.graph ≡ o → is_some o ≡ true
  by_graph None none = absurd (by_frame (frame_at mount.frames key) refl is none)
  by_graph (Some g) there = refl
