-- One client more.
use Rattle.std.proofs.Common.{ℕ, ◌≡◌, ◌+◌, [], ◌∷◌, ◌++◌, map}
use Rattle.std.specs.List.{range_with_len}
use Rattle.std.proofs.Math.Nat.{zero-add}
use Rattle.std.proofs.lemmas.List.FromFn.{map-range_with_len_more}
use Rattle.client_xlator.specs.Client.{new_client}
use Rattle.graph_items.specs.Clients.{new_clients}

pub new_more : (n graph : ℕ) → new_clients (n + 1) graph ≡ new_clients n graph ++ new_client n graph ∷ []
new_more n graph = map-range_with_len_more (λ (brick : ℕ). new_client brick graph) 0 n n (zero-add n)
