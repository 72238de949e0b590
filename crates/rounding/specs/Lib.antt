pub mod Rule
pub mod Table
pub mod Mixture
pub mod Tolerance
pub mod Adding
pub mod Removing
pub mod Division
