mod Holdings
mod Starts
mod Table
