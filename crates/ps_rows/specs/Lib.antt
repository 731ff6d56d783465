pub mod Standing
pub mod Placed
pub mod Digests
pub mod Kin
pub mod RowKeys
pub mod Around
pub mod Newest
