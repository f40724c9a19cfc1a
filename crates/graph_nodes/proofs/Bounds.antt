-- What things cost stays below 2^64.
use Rattle.std.proofs.Common.{◌≡◌, ℕ, ◌+◌, ◌*◌, ◌<◌, ◌≤◌, arith}
use Rattle.std.proofs.lemmas.Nat.{mul-le}

-- the units of a heal over so many sets
pub heal_units : (sets cells : ℕ) → sets ≤ 255 → cells ≤ 4096 → 1 + sets * (2 * cells + 2) ≤ 2105871
heal_units sets cells few small = let most = mul-le sets (2 * cells + 2) 255 8194 few (omega (arith, small)) in omega (arith, most)

-- the jobs of so many units
pub jobs_fit : (sets units : ℕ) → sets ≤ 255 → units ≤ 2105871 → units * (4 * sets + 16) ≤ 2181682356
jobs_fit sets units few small = let most = mul-le units (4 * sets + 16) 2105871 1036 small (omega (arith, few)) in omega (arith, most)

-- the requests of a job
pub requests_fit : (replicas : ℕ) → replicas ≤ 255 → 80 * replicas * replicas ≤ 5202000
requests_fit replicas few = let most = mul-le (80 * replicas) replicas 20400 255 (omega (arith, few)) few in omega (arith, most)

pub few_requests : (replicas : ℕ) → replicas ≤ 5 → 80 * replicas * replicas ≤ 2000
few_requests replicas few = let most = mul-le (80 * replicas) replicas 400 5 (omega (arith, few)) few in omega (arith, most)

-- a unit at a distribute node
pub fop_weight : (sets weight : ℕ) → sets ≤ 255 → weight ≤ 4294967295 → (4 * sets + 16) * (1 + weight) ≤ 4449586118656
fop_weight sets weight few small = let most = mul-le (4 * sets + 16) (1 + weight) 1036 4294967296 (omega (arith, few)) (omega (arith, small)) in omega (arith, most)

-- a unit at a set's node
pub set_weight : (requests weight : ℕ) → requests ≤ 5202000 → weight ≤ 4294967295 → requests * (1 + weight) ≤ 22342419873792000
set_weight requests weight few small = let most = mul-le requests (1 + weight) 5202000 4294967296 few (omega (arith, small)) in omega (arith, most)

pub few_weight : (requests weight : ℕ) → requests ≤ 2000 → weight ≤ 4294967295 → requests * (1 + weight) ≤ 8589934592000
few_weight requests weight few small = let most = mul-le requests (1 + weight) 2000 4294967296 few (omega (arith, small)) in omega (arith, most)

-- the winds that are open below a set's node
pub set_breadth : (replicas breadth : ℕ) → replicas ≤ 255 → breadth ≤ 4294967295 → replicas * (1 + breadth) ≤ 1095216660480
set_breadth replicas breadth few small = let most = mul-le replicas (1 + breadth) 255 4294967296 few (omega (arith, small)) in omega (arith, most)

-- the winds of so many units
pub cost_fits : (units weight : ℕ) → units ≤ 2105871 → weight ≤ 8589934592000 → units * weight ≤ 18089294149189632000
cost_fits units weight few small = let most = mul-le units weight 2105871 8589934592000 few small in omega (arith, most)
