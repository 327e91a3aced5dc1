pub mod Greatest
pub mod Intervals
pub mod Maximal
pub mod Multiples
pub mod SomeList
