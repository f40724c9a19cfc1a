-- In reading order: the script that a hub runs; what is due in it; its live graphs; the lines of an event, and what a graph gives in it; what is seen of a hub, and what its calls add to the log; a list that grows.
pub mod Plans
pub mod Dues
pub mod Live
pub mod EventNumbers
pub mod Noted
pub mod Hubs
pub mod Growing
