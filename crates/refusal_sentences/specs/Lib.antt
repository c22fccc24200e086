pub mod LongNumbers
