pub mod MeetingPairs
