-- What the headline of the program says of costs.
pub mod LeastCost
