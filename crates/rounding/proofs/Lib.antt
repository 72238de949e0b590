pub mod Amounts
pub mod Errors
pub mod Recursion
pub mod Reverse
