-- That the records of a lawful system in range have their fields in their ranges.
pub mod EntryRanges
pub mod RecordRanges
