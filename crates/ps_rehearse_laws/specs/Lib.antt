pub mod Rehearsal
pub mod Runs
pub mod Laws
