pub mod Pages
pub mod Uses
