mod CodeLemmas
mod DraftLemmas
mod LineLemmas
mod SourceLemmas
