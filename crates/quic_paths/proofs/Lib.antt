mod Flights
mod Threefold
