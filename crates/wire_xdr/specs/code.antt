-- The functions of the code, one for one.
pub mod Classes
pub mod Decoding
pub mod Lengths
pub mod Loops
pub mod MessageParsers
pub mod Parsers
pub mod PartParsers
