-- In reading order: the cells of a brick and what each request makes of them; the law of ops; the law of all else, cell by
-- cell; the text of a dump; what contracts see of a store. The functions of the code: code.
pub mod Cells
pub mod Laws
pub mod CellLaws
pub mod Dump
pub mod StoreState
pub mod code
