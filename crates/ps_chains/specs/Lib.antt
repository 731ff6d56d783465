pub mod Marks
pub mod AtEnds
pub mod Chained
pub mod Small
pub mod Seeding
