pub mod Pieces
pub mod RawLaws
pub mod Printed
pub mod Trees
pub mod EntryLaws
pub mod Batches
pub mod Spelled
