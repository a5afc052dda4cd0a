use Rattle.std.proofs.Common.{sym, ◌∙◌}
use Rattle.pr_num.specs.Records.{usage_ranges, psinfo_ranges, map_entry_ranges, lwpstatus_ranges, status_ranges}
use Rattle.pr_rec.specs.RecordWords.{usage_words_of, psinfo_words_of, map_entry_words_of, lwpstatus_words_of, status_words_of}
use Rattle.pr_rec.proofs.EncodingLemmas.{same_encoded}
use Rattle.pr_rec.proofs.UsageLemmas.{usage_take, same_usage}
use Rattle.pr_rec.proofs.PsinfoLemmas.{psinfo_take, same_psinfo}
use Rattle.pr_rec.proofs.MapEntryLemmas.{map_entry_take, same_map_entry}
use Rattle.pr_rec.proofs.LwpStatusLemmas.{lwpstatus_take, same_lwpstatus}
use Rattle.pr_rec.proofs.StatusLemmas.{status_take, same_status}
use Rattle.pr_rec.proofs.laws.one_encoding_one_record.Goals as goal

pub returns-clause-encoding : goal.returns-clause-encoding
returns-clause-encoding c ranges a b words here there = here.encoded ∙ sym there.encoded

pub returns-clause-usage : goal.returns-clause-usage
returns-clause-usage c bytes x y here there =
    same_usage x y (same_encoded usage_ranges usage_take bytes (usage_words_of x) (usage_words_of y) here there)

pub returns-clause-psinfo : goal.returns-clause-psinfo
returns-clause-psinfo c bytes x y x_whole y_whole here there =
    same_psinfo x y x_whole y_whole
    (same_encoded psinfo_ranges psinfo_take bytes (psinfo_words_of x) (psinfo_words_of y) here there)

pub returns-clause-mapping : goal.returns-clause-mapping
returns-clause-mapping c bytes x y x_whole y_whole here there =
    same_map_entry x y x_whole y_whole
    (same_encoded map_entry_ranges map_entry_take bytes (map_entry_words_of x) (map_entry_words_of y) here there)

pub returns-clause-lwpstatus : goal.returns-clause-lwpstatus
returns-clause-lwpstatus c bytes x y x_sizes y_sizes here there =
    same_lwpstatus x y x_sizes y_sizes
    (same_encoded lwpstatus_ranges lwpstatus_take bytes (lwpstatus_words_of x) (lwpstatus_words_of y) here there)

pub returns-clause-status : goal.returns-clause-status
returns-clause-status c bytes x y x_sizes y_sizes here there =
    same_status x y x_sizes y_sizes
    (same_encoded status_ranges status_take bytes (status_words_of x) (status_words_of y) here there)
