pub mod Answer
pub mod Held
pub mod Kinds
pub mod Laws
pub mod Said
pub mod Trees
