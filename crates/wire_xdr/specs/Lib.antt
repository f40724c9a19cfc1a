-- In reading order: bounds, units, lists that rise, what a brick keeps, requests and replies, where bytes
-- stop being a message, inputs and outputs with what a decoder answers. The functions of the code: code.
pub mod Limits
pub mod Xdr
pub mod Order
pub mod PartText
pub mod MessageText
pub mod Places
pub mod WireText
pub mod code
