-- That the text of apfiles is that of one state: what its agent was answered, and what it reads of that.
pub mod TextCalls
pub mod TextLaw
pub mod TextMessages
pub mod TextReads
pub mod TextStages
