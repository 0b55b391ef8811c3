-- What one entry of a closing's journal does: to what actors hold, to what waits, and to what is posted.
pub mod Taking
pub mod Carrying
pub mod Posting
pub mod Between
