pub mod Client
pub mod Law
