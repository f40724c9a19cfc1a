-- A node's step, by the node's kind: what a function of that kind made of a cause is what the node makes of it, and meets
-- the law of the node.
use Rattle.std.proofs.Common.{◌≡◌, ℕ, true, refl, sym, ap, subst, length}
use Rattle.xlator_law.specs.Law.{Promise, Cause, IsStep}
use Rattle.xlator_law.specs.Law.Cause.{Enter, Reply, Go}
use Rattle.xlator_law.specs.declared.step.Step.{Step}
use Rattle.xlator_law.specs.declared.winds.Entry.{Entry}
use Rattle.graph_items.specs.declared.items.Down.{Down}
use Rattle.graph_items.specs.declared.items.Up.{Up}
use Rattle.graph_nodes.specs.declared.context.Context.{Context}
use Rattle.graph_nodes.specs.declared.costs.Shape.TheVariants as shape
use Rattle.graph_nodes.specs.declared.kinds.BrickClient.{BrickClient}
use Rattle.graph_nodes.specs.declared.kinds.Distribute.{Distribute}
use Rattle.graph_nodes.specs.declared.kinds.IoCache.{IoCache}
use Rattle.graph_nodes.specs.declared.kinds.IoThreads.{IoThreads}
use Rattle.graph_nodes.specs.declared.kinds.Kind.{Kind}
use Rattle.graph_nodes.specs.declared.kinds.Kind.TheVariants as kind
use Rattle.graph_nodes.specs.declared.kinds.Node.{Node}
use Rattle.graph_nodes.specs.declared.kinds.Replicate.{Replicate}
use Rattle.graph_nodes.specs.declared.locals.Local.{Local}
use Rattle.graph_nodes.specs.Client.{enter_of as client_enter, resume_of as client_resume}
use Rattle.graph_nodes.specs.Costs.{shape_of, sets_of}
use Rattle.graph_nodes.specs.Distribute.{IsBegun as FopBegins}
use Rattle.graph_nodes.specs.IoCache.{IsEntered, IsAnswered}
use Rattle.graph_nodes.specs.IoThreads.{IsQueued, go_on_of}
use Rattle.graph_nodes.specs.Moves.{IsMove}
use Rattle.graph_nodes.specs.Nodes.{MakesByKind, node_makes, FopResumes, FopGoes, JobResumes}
use Rattle.graph_nodes.specs.Pass.{enter_of as pass_enter, resume_of as pass_resume}
use Rattle.graph_nodes.specs.Promises.{owns_by, unanswered_of, waits_of, promise_of, node_promise}
use Rattle.graph_nodes.specs.Replicate.{IsBegun as JobBegins}
use Rattle.graph_nodes.specs.Root.{placed, enter_of as root_enter, resume_of as root_resume}
use Rattle.graph_nodes.proofs.CacheLaw.{cache_enters, cache_resumes, cache_waits_not}
use Rattle.graph_nodes.proofs.QueueLaw.{queue_enters, queue_resumes, queue_goes}
use Rattle.graph_nodes.proofs.RelayLaw.{relay_enters, client_enters, relay_resumes, client_resumes, relay_waits_not, client_waits_not, set_waits_not}

-- what a node promises whose kind is this
abbrev pub promise_by : Node → Kind → Promise Down Local
promise_by n k = promise_of (shape_of k) (sets_of k n.sets) n.weight n.breadth

-- ---- what a node makes and promises does not depend on how its kind is known

module _ (n : Node) (k : Kind) (is : n.kind ≡ k) where
  lawful : (cause : Cause Down Up Local) (s : Step Down Up Local) → IsStep (promise_by n k) cause s → IsStep (node_promise n) cause s
  lawful cause s h = subst (λ (x : Kind). IsStep (promise_by n x) cause s) (sym is) h

  made : (cx cx_new : Context) (cause : Cause Down Up Local) (s : Step Down Up Local) (new : Node) → MakesByKind k n cx cause s new cx_new → node_makes n cx cause s new cx_new
  made cx cx_new cause s new h = subst (λ (x : Kind). MakesByKind x n cx cause s new cx_new) (sym is) h

  owned : (l : Local) → owns_by (shape_of n.kind) l ≡ true → owns_by (shape_of k) l ≡ true
  owned l own = subst (λ (x : Kind). owns_by (shape_of x) l ≡ true) is own

  -- a node of which only the kind is set, to what it is
  pub same_kind : record n { kind = k } ≡ n
  same_kind = sym (ap (λ (x : Kind). record n { kind = x }) is)

  -- a node of which only the kind is set, to one over as many sets, promises the same
  promised : (after : Kind) → promise_by n after ≡ promise_by n k → node_promise (record n { kind = after }) ≡ node_promise n
  promised after same = subst (λ (x : Kind). promise_by n after ≡ promise_by n x) (sym is) same

-- a node of which nothing changes promises the same, and so does one that only its kind's own state changes
pub kind_promise : (n : Node) (k : Kind) → n.kind ≡ k → node_promise (record n { kind = k }) ≡ node_promise n
kind_promise n k is = promised n k is k refl

pub queue_promise : (n : Node) (q after : IoThreads) → n.kind ≡ kind.IoThreads q → node_promise (record n { kind = kind.IoThreads after }) ≡ node_promise n
queue_promise n q after is = promised n (kind.IoThreads q) is (kind.IoThreads after) refl

pub cache_promise : (n : Node) (c after : IoCache) → n.kind ≡ kind.IoCache c → node_promise (record n { kind = kind.IoCache after }) ≡ node_promise n
cache_promise n c after is = promised n (kind.IoCache c) is (kind.IoCache after) refl

pub fop_promise : (n : Node) (d after : Distribute) → n.kind ≡ kind.Distribute d → after.sets ≡ d.sets → node_promise (record n { kind = kind.Distribute after }) ≡ node_promise n
fop_promise n d after is same = promised n (kind.Distribute d) is (kind.Distribute after) (ap (λ (sets : ℕ). promise_of shape.Distribute sets n.weight n.breadth) same)

-- ---- something enters

module _ (n : Node) (cx : Context) (entry : Entry) (d : Down) (s : Step Down Up Local) where
  pub root_entered : (new : Node) (cx_new : Context) → n.kind ≡ kind.Root → IsMove (root_enter d) s → new ≡ n → cx_new ≡ cx → node_makes n cx (Enter entry d) s new cx_new
  root_entered new cx_new is move same cx_same = made n kind.Root is cx cx_new (Enter entry d) s new (record { move_is = move; node = same; cx_is = cx_same })

  pub root_step : n.kind ≡ kind.Root → IsMove (root_enter d) s → IsStep (node_promise n) (Enter entry d) s
  root_step is move = lawful n kind.Root is (Enter entry d) s (relay_enters n.sets n.weight n.breadth d entry s move)

  pub pass_entered : (new : Node) (cx_new : Context) → n.kind ≡ kind.Pass → IsMove (pass_enter d) s → new ≡ n → cx_new ≡ cx → node_makes n cx (Enter entry d) s new cx_new
  pass_entered new cx_new is move same cx_same = made n kind.Pass is cx cx_new (Enter entry d) s new (record { move_is = move; node = same; cx_is = cx_same })

  pub pass_step : n.kind ≡ kind.Pass → IsMove (pass_enter d) s → IsStep (node_promise n) (Enter entry d) s
  pass_step is move = lawful n kind.Pass is (Enter entry d) s (relay_enters n.sets n.weight n.breadth d entry s move)

  pub queue_entered : (q after : IoThreads) (new : Node) (cx_new : Context) → n.kind ≡ kind.IoThreads q → IsQueued q cx entry d s after cx_new → new ≡ record n { kind = kind.IoThreads after } → node_makes n cx (Enter entry d) s new cx_new
  queue_entered q after new cx_new is h same = made n (kind.IoThreads q) is cx cx_new (Enter entry d) s new (record { after = after; makes = h; node = same })

  pub queue_step : (q after : IoThreads) (cx_new : Context) → n.kind ≡ kind.IoThreads q → IsQueued q cx entry d s after cx_new → IsStep (node_promise n) (Enter entry d) s
  queue_step q after cx_new is h = lawful n (kind.IoThreads q) is (Enter entry d) s (queue_enters n.sets n.weight n.breadth d entry s h.step_is)

  pub cache_entered : (c after : IoCache) (new : Node) (cx_new : Context) → n.kind ≡ kind.IoCache c → IsEntered c d s after → new ≡ record n { kind = kind.IoCache after } → cx_new ≡ cx → node_makes n cx (Enter entry d) s new cx_new
  cache_entered c after new cx_new is h same cx_same = made n (kind.IoCache c) is cx cx_new (Enter entry d) s new (record { after = after; makes = h; node = same; cx_is = cx_same })

  pub cache_step : (c after : IoCache) → n.kind ≡ kind.IoCache c → IsEntered c d s after → IsStep (node_promise n) (Enter entry d) s
  cache_step c after is h = lawful n (kind.IoCache c) is (Enter entry d) s (cache_enters n.sets n.weight n.breadth c after d entry s h)

  pub fop_entered : (f : Distribute) (new : Node) (cx_new : Context) → n.kind ≡ kind.Distribute f → FopBegins f cx entry d s cx_new → new ≡ n → node_makes n cx (Enter entry d) s new cx_new
  fop_entered f new cx_new is h same = made n (kind.Distribute f) is cx cx_new (Enter entry d) s new (record { makes = h; node = same })

  pub fop_step : (f : Distribute) → n.kind ≡ kind.Distribute f → ((weight breadth : ℕ) → IsStep (promise_of shape.Distribute f.sets weight breadth) (Enter entry d) s) → IsStep (node_promise n) (Enter entry d) s
  fop_step f is h = lawful n (kind.Distribute f) is (Enter entry d) s (h n.weight n.breadth)

  pub job_entered : (r : Replicate) (new : Node) (cx_new : Context) → n.kind ≡ kind.Replicate r → JobBegins r.plan cx entry.call d s cx_new → new ≡ n → node_makes n cx (Enter entry d) s new cx_new
  job_entered r new cx_new is h same = made n (kind.Replicate r) is cx cx_new (Enter entry d) s new (record { makes = h; node = same })

  pub job_step : (r : Replicate) → n.kind ≡ kind.Replicate r → ((sets weight breadth : ℕ) → IsStep (promise_of (shape.Set (length r.plan.bricks)) sets weight breadth) (Enter entry d) s) → IsStep (node_promise n) (Enter entry d) s
  job_step r is h = lawful n (kind.Replicate r) is (Enter entry d) s (h n.sets n.weight n.breadth)

  pub client_entered : (c : BrickClient) (new : Node) (cx_new : Context) → n.kind ≡ kind.Client c → IsMove (client_enter cx.clients c.brick d) s → new ≡ n → cx_new ≡ cx → node_makes n cx (Enter entry d) s new cx_new
  client_entered c new cx_new is move same cx_same = made n (kind.Client c) is cx cx_new (Enter entry d) s new (record { move_is = move; node = same; cx_is = cx_same })

  pub client_step : (c : BrickClient) → n.kind ≡ kind.Client c → IsMove (client_enter cx.clients c.brick d) s → IsStep (node_promise n) (Enter entry d) s
  client_step c is move = lawful n (kind.Client c) is (Enter entry d) s (client_enters n.sets n.weight n.breadth cx.clients c.brick d entry s move)

-- ---- a reply comes

module _ (n : Node) (cx : Context) (l : Local) (slot : ℕ) (reply : Up) (s : Step Down Up Local) where
  pub root_replied : (new : Node) (cx_new : Context) → n.kind ≡ kind.Root → IsMove (root_resume cx.ledger reply) s → new ≡ n → cx_new ≡ cx → node_makes n cx (Reply l slot reply) s new cx_new
  root_replied new cx_new is move same cx_same = made n kind.Root is cx cx_new (Reply l slot reply) s new (record { move_is = move; node = same; cx_is = cx_same })

  pub pass_replied : (new : Node) (cx_new : Context) → n.kind ≡ kind.Pass → IsMove (pass_resume reply) s → new ≡ n → cx_new ≡ cx → node_makes n cx (Reply l slot reply) s new cx_new
  pass_replied new cx_new is move same cx_same = made n kind.Pass is cx cx_new (Reply l slot reply) s new (record { move_is = move; node = same; cx_is = cx_same })

  pub queue_replied : (q : IoThreads) (new : Node) (cx_new : Context) → n.kind ≡ kind.IoThreads q → IsMove (pass_resume reply) s → new ≡ n → cx_new ≡ cx → node_makes n cx (Reply l slot reply) s new cx_new
  queue_replied q new cx_new is move same cx_same = made n (kind.IoThreads q) is cx cx_new (Reply l slot reply) s new (record { move_is = move; node = same; cx_is = cx_same })

  pub cache_replied : (c after : IoCache) (new : Node) (cx_new : Context) → n.kind ≡ kind.IoCache c → IsAnswered c l reply s after → new ≡ record n { kind = kind.IoCache after } → cx_new ≡ cx → node_makes n cx (Reply l slot reply) s new cx_new
  cache_replied c after new cx_new is h same cx_same = made n (kind.IoCache c) is cx cx_new (Reply l slot reply) s new (record { after = after; makes = h; node = same; cx_is = cx_same })

  pub fop_replied : (f after : Distribute) (new : Node) (cx_new : Context) → n.kind ≡ kind.Distribute f → FopResumes f cx l reply s after cx_new → new ≡ record n { kind = kind.Distribute after } → node_makes n cx (Reply l slot reply) s new cx_new
  fop_replied f after new cx_new is h same = made n (kind.Distribute f) is cx cx_new (Reply l slot reply) s new (record {
    after = after;
    makes = h;
    kind_is = ap (λ (m : Node). m.kind) same;
    sets = ap (λ (m : Node). m.sets) same;
    weight = ap (λ (m : Node). m.weight) same;
    breadth = ap (λ (m : Node). m.breadth) same;
  })

  pub job_replied : (r : Replicate) (new : Node) (cx_new : Context) → n.kind ≡ kind.Replicate r → JobResumes r cx l slot reply s cx_new → new ≡ n → node_makes n cx (Reply l slot reply) s new cx_new
  job_replied r new cx_new is h same = made n (kind.Replicate r) is cx cx_new (Reply l slot reply) s new (record { makes = h; node = same })

  pub client_replied : (c : BrickClient) (new : Node) (cx_new : Context) → n.kind ≡ kind.Client c → IsMove (client_resume reply) s → new ≡ n → cx_new ≡ cx → node_makes n cx (Reply l slot reply) s new cx_new
  client_replied c new cx_new is move same cx_same = made n (kind.Client c) is cx cx_new (Reply l slot reply) s new (record { move_is = move; node = same; cx_is = cx_same })

-- a reply that a frame of the node waits for
module _ (n : Node) (l : Local) (slot : ℕ) (reply : Up) (s : Step Down Up Local) (own : owns_by (shape_of n.kind) l ≡ true) (asked : unanswered_of l slot ≡ true) where
  pub root_reply_step : (cx : Context) → n.kind ≡ kind.Root → IsMove (root_resume cx.ledger reply) s → IsStep (node_promise n) (Reply l slot reply) s
  root_reply_step cx is move = lawful n kind.Root is (Reply l slot reply) s (relay_resumes n.sets n.weight n.breadth slot reply (placed cx.ledger reply) s move l (owned n kind.Root is l own) asked)

  pub pass_reply_step : n.kind ≡ kind.Pass → IsMove (pass_resume reply) s → IsStep (node_promise n) (Reply l slot reply) s
  pass_reply_step is move = lawful n kind.Pass is (Reply l slot reply) s (relay_resumes n.sets n.weight n.breadth slot reply reply s move l (owned n kind.Pass is l own) asked)

  pub queue_reply_step : (q : IoThreads) → n.kind ≡ kind.IoThreads q → IsMove (pass_resume reply) s → IsStep (node_promise n) (Reply l slot reply) s
  queue_reply_step q is move = lawful n (kind.IoThreads q) is (Reply l slot reply) s (queue_resumes n.sets n.weight n.breadth slot reply s l (owned n (kind.IoThreads q) is l own) asked move)

  pub cache_reply_step : (c after : IoCache) → n.kind ≡ kind.IoCache c → IsAnswered c l reply s after → IsStep (node_promise n) (Reply l slot reply) s
  cache_reply_step c after is h = lawful n (kind.IoCache c) is (Reply l slot reply) s (cache_resumes n.sets n.weight n.breadth c after slot reply s l (owned n (kind.IoCache c) is l own) asked h)

  pub fop_reply_step : (f : Distribute) → n.kind ≡ kind.Distribute f → ((weight breadth : ℕ) → IsStep (promise_of shape.Distribute f.sets weight breadth) (Reply l slot reply) s) → IsStep (node_promise n) (Reply l slot reply) s
  fop_reply_step f is h = lawful n (kind.Distribute f) is (Reply l slot reply) s (h n.weight n.breadth)

  pub job_reply_step : (r : Replicate) → n.kind ≡ kind.Replicate r → ((sets weight breadth : ℕ) → IsStep (promise_of (shape.Set (length r.plan.bricks)) sets weight breadth) (Reply l slot reply) s) → IsStep (node_promise n) (Reply l slot reply) s
  job_reply_step r is h = lawful n (kind.Replicate r) is (Reply l slot reply) s (h n.sets n.weight n.breadth)

  pub client_reply_step : (c : BrickClient) → n.kind ≡ kind.Client c → IsMove (client_resume reply) s → IsStep (node_promise n) (Reply l slot reply) s
  client_reply_step c is move = lawful n (kind.Client c) is (Reply l slot reply) s (client_resumes n.sets n.weight n.breadth slot reply reply s move l (owned n (kind.Client c) is l own) asked)

-- what a frame of a node of this kind owns, as the kind's own functions ask for it
pub owned_fop : (n : Node) (f : Distribute) (l : Local) → n.kind ≡ kind.Distribute f → owns_by (shape_of n.kind) l ≡ true → owns_by shape.Distribute l ≡ true
owned_fop n f l is own = owned n (kind.Distribute f) is l own

pub owned_job : (n : Node) (r : Replicate) (l : Local) → n.kind ≡ kind.Replicate r → owns_by (shape_of n.kind) l ≡ true → owns_by (shape.Set (length r.plan.bricks)) l ≡ true
owned_job n r l is own = owned n (kind.Replicate r) is l own

-- ---- what a frame waited for has come

-- no frame of these kinds waits so
module _ (n : Node) (l : Local) (own : owns_by (shape_of n.kind) l ≡ true) (waits : waits_of l ≡ true) where
  pub root_go_step : (s : Step Down Up Local) → n.kind ≡ kind.Root → IsStep (node_promise n) (Go l) s
  root_go_step s is = absurd (relay_waits_not l (owned n kind.Root is l own) waits)

  pub root_went : (cx : Context) (s : Step Down Up Local) (new : Node) (cx_new : Context) → n.kind ≡ kind.Root → node_makes n cx (Go l) s new cx_new
  root_went cx s new cx_new is = absurd (relay_waits_not l (owned n kind.Root is l own) waits)

  pub pass_go_step : (s : Step Down Up Local) → n.kind ≡ kind.Pass → IsStep (node_promise n) (Go l) s
  pass_go_step s is = absurd (relay_waits_not l (owned n kind.Pass is l own) waits)

  pub pass_went : (cx : Context) (s : Step Down Up Local) (new : Node) (cx_new : Context) → n.kind ≡ kind.Pass → node_makes n cx (Go l) s new cx_new
  pass_went cx s new cx_new is = absurd (relay_waits_not l (owned n kind.Pass is l own) waits)

  pub cache_go_step : (s : Step Down Up Local) → (c : IoCache) → n.kind ≡ kind.IoCache c → IsStep (node_promise n) (Go l) s
  cache_go_step s c is = absurd (cache_waits_not n.sets n.weight n.breadth l (owned n (kind.IoCache c) is l own) waits)

  pub cache_went : (cx : Context) (s : Step Down Up Local) (new : Node) (cx_new : Context) → (c : IoCache) → n.kind ≡ kind.IoCache c → node_makes n cx (Go l) s new cx_new
  cache_went cx s new cx_new c is = absurd (cache_waits_not n.sets n.weight n.breadth l (owned n (kind.IoCache c) is l own) waits)

  pub job_go_step : (s : Step Down Up Local) → (r : Replicate) → n.kind ≡ kind.Replicate r → IsStep (node_promise n) (Go l) s
  job_go_step s r is = absurd (set_waits_not (length r.plan.bricks) l (owned n (kind.Replicate r) is l own) waits)

  pub job_went : (cx : Context) (s : Step Down Up Local) (new : Node) (cx_new : Context) → (r : Replicate) → n.kind ≡ kind.Replicate r → node_makes n cx (Go l) s new cx_new
  job_went cx s new cx_new r is = absurd (set_waits_not (length r.plan.bricks) l (owned n (kind.Replicate r) is l own) waits)

  pub client_go_step : (s : Step Down Up Local) → (c : BrickClient) → n.kind ≡ kind.Client c → IsStep (node_promise n) (Go l) s
  client_go_step s c is = absurd (client_waits_not l (owned n (kind.Client c) is l own) waits)

  pub client_went : (cx : Context) (s : Step Down Up Local) (new : Node) (cx_new : Context) → (c : BrickClient) → n.kind ≡ kind.Client c → node_makes n cx (Go l) s new cx_new
  client_went cx s new cx_new c is = absurd (client_waits_not l (owned n (kind.Client c) is l own) waits)

module _ (n : Node) (cx : Context) (l : Local) (s : Step Down Up Local) where
  pub queue_went : (q : IoThreads) (new : Node) (cx_new : Context) → n.kind ≡ kind.IoThreads q → IsMove (go_on_of l) s → new ≡ n → cx_new ≡ cx → node_makes n cx (Go l) s new cx_new
  queue_went q new cx_new is move same cx_same = made n (kind.IoThreads q) is cx cx_new (Go l) s new (record { move_is = move; node = same; cx_is = cx_same })

  pub fop_went : (f : Distribute) (new : Node) (cx_new : Context) → n.kind ≡ kind.Distribute f → FopGoes f cx l s cx_new → new ≡ n → node_makes n cx (Go l) s new cx_new
  fop_went f new cx_new is h same = made n (kind.Distribute f) is cx cx_new (Go l) s new (record { makes = h; node = same })

module _ (n : Node) (l : Local) (s : Step Down Up Local) (own : owns_by (shape_of n.kind) l ≡ true) (waits : waits_of l ≡ true) where
  pub queue_go_step : (q : IoThreads) → n.kind ≡ kind.IoThreads q → IsMove (go_on_of l) s → IsStep (node_promise n) (Go l) s
  queue_go_step q is move = lawful n (kind.IoThreads q) is (Go l) s (queue_goes n.sets n.weight n.breadth s l (owned n (kind.IoThreads q) is l own) waits move)

  pub fop_go_step : (f : Distribute) → n.kind ≡ kind.Distribute f → ((weight breadth : ℕ) → waits_of l ≡ true → IsStep (promise_of shape.Distribute f.sets weight breadth) (Go l) s) → IsStep (node_promise n) (Go l) s
  fop_go_step f is h = lawful n (kind.Distribute f) is (Go l) s (h n.weight n.breadth waits)
