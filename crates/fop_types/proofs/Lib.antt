pub mod MapLemmas
pub mod Names
pub mod PathLemmas
pub mod Places
