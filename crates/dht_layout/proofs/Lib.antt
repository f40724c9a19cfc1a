pub mod EvenSplit
