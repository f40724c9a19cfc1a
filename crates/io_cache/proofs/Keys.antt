use Rattle.std.proofs.Common.{◌≡◌, ℕ, true, ◌==◌, ap, sym, ◌∙◌}
use Rattle.std.proofs.lemmas.Bool.{and_parts, eqb-true}
use Rattle.fop_types.specs.declared.cells.Gfid.{Gfid}
use Rattle.io_cache.specs.declared.page_key.PageKey.{PageKey}
use Rattle.io_cache.specs.Pages.{is_of, is_page, key}

abbrev page_key : ℕ → ℕ → ℕ → PageKey
page_key a b n = record { gfid = record { hi = a; lo = b }; page = n }

pub same_page : (g : Gfid) (n : ℕ) (k : PageKey) → is_page g n k ≡ true → k ≡ key g n
same_page g n k h =
    let all = and_parts (is_of g k) (n == k.page) h in
    let of = and_parts (g.hi == k.gfid.hi) (g.lo == k.gfid.lo) all.0 in
    let hi : g.hi ≡ k.gfid.hi = eqb-true g.hi k.gfid.hi of.0 in
    let lo : g.lo ≡ k.gfid.lo = eqb-true g.lo k.gfid.lo of.1 in
    let page : n ≡ k.page = eqb-true n k.page all.1 in
    ap (λ (a : ℕ). page_key a k.gfid.lo k.page) (sym hi) ∙ ap (λ (b : ℕ). page_key g.hi b k.page) (sym lo) ∙ ap (λ (p : ℕ). page_key g.hi g.lo p) (sym page)
