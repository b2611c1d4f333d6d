-- How a worked row is written, the books that the rows use, conditions told by their discretes, and flights told
-- by their inputs.
pub mod Rows
pub mod Books
pub mod DisplayBooks
pub mod Signals
pub mod Flights
pub mod CalloutRows
