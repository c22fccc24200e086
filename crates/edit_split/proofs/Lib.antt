pub mod SplitClosed
pub mod SplitCounts
pub mod SplitSound
pub mod PutSplit
pub mod SplitEnds
pub mod SplitDone
pub mod SplitPremise
pub mod Answered
