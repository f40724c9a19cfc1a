-- How many sets the even split has.
use Rattle.std.specs.Prelude.{◌≡◌, ℕ, List, Option, length}
use Rattle.dht_fops.proofs.Sets as sets
use Rattle.dht_layout.specs.Layouts.{even_layout}
use Rattle.fop_types.specs.declared.contents.Span.{Span}

pub even_count : (layout : List (Option Span)) (many : ℕ) → layout ≡ even_layout many → length layout ≡ many
even_count layout many is = sets.even_count layout many is
