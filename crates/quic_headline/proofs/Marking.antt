-- Which datagrams an end marks, by the counts of ECN that it took: as the lists of its run say.
pub mod Judged
pub mod Frames
pub mod Calls
pub mod Clause
