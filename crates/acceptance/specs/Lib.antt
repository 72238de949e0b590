pub mod HalfDown
