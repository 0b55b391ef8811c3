-- Lists of numbers, of the members of a quorum, and of pairs, and sums over lists.
pub mod Numbers
pub mod Picked
pub mod Paired
pub mod Sums
