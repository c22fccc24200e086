pub mod LongNumbersSeen
