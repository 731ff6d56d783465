mod Decoded
mod Going
mod Walks
mod Seen
mod Adding
mod Rows
