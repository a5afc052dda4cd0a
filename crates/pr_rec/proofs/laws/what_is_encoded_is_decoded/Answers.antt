use Rattle.std.proofs.Common.{refl}
use Rattle.pr_num.specs.Records.{status_ranges, lwpstatus_ranges, psinfo_ranges, usage_ranges}
use Rattle.pr_rec.proofs.LwpStatusLemmas.{lwpstatus-ranged}
use Rattle.pr_rec.proofs.PsinfoLemmas.{psinfo-ranged}
use Rattle.pr_rec.proofs.RecordLemmas.{ranged-begins}
use Rattle.pr_rec.proofs.StatusLemmas.{status-ranged}
use Rattle.pr_rec.proofs.UsageLemmas.{usage-ranged}
use Rattle.pr_rec.specs.NoLwp.{no_lwp}
use Rattle.pr_rec.specs.RecordBytes.{status_bytes, lwpstatus_bytes, psinfo_bytes, usage_bytes}
use Rattle.pr_rec.specs.RecordWords.{status_words_of, lwpstatus_words_of, psinfo_words_of, usage_words_of}
use Rattle.pr_rec.proofs.laws.what_is_encoded_is_decoded.Goals as goal

pub returns-clause-status : goal.returns-clause-status
unfolding status_bytes
returns-clause-status c s more h = ranged-begins status_ranges (status_words_of s) _ more refl (status-ranged s h) refl

pub returns-clause-lwpstatus : goal.returns-clause-lwpstatus
unfolding lwpstatus_bytes
returns-clause-lwpstatus c l more h =
    ranged-begins lwpstatus_ranges (lwpstatus_words_of l) _ more refl (lwpstatus-ranged l h) refl

pub returns-clause-psinfo : goal.returns-clause-psinfo
unfolding psinfo_bytes
returns-clause-psinfo c p more h = ranged-begins psinfo_ranges (psinfo_words_of p) _ more refl (psinfo-ranged p h) refl

pub returns-clause-usage : goal.returns-clause-usage
unfolding usage_bytes
returns-clause-usage c u more h = ranged-begins usage_ranges (usage_words_of u) _ more refl (usage-ranged u h) refl

pub returns-clause-no_lwp : goal.returns-clause-no_lwp
unfolding no_lwp
returns-clause-no_lwp c = refl
