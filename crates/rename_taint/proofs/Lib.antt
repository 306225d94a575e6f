pub mod UndoList
pub mod Tables
