-- In reading order: what a node does with a frame; root, pass and client; what things cost, and what a fop costs in the graph
-- of a plan; io-threads and io-cache; the set's node; the node of fops; what the frames of both keep between two turns, and
-- what a turn gives; the shape of a transaction under way; what a node promises; what its steps make; plans; what a graph
-- keeps from call to call; the winds that are open at a brick; what a call of a graph gives; how pages are dropped; which
-- tasks are ready; and what contracts see of a graph, of all graphs, and of a call of one of them.
pub mod Moves
pub mod Root
pub mod Pass
pub mod Client
pub mod Costs
pub mod PlanCosts
pub mod IoThreads
pub mod Pages
pub mod IoCache
pub mod Replicate
pub mod Distribute
pub mod Kept
pub mod Turns
pub mod Shapes
pub mod Promises
pub mod Nodes
pub mod Plans
pub mod Fitting
pub mod Live
pub mod OpenWinds
pub mod Calls
pub mod Caching
pub mod Ready
pub mod Seen
pub mod Mounted
pub mod Among
