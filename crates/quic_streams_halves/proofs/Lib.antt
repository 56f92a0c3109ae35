mod Sums
mod Totals
mod QueuedIds
mod Counted
