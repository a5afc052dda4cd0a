use Rattle.std.proofs.Common.{◌≡◌, ◌*◌, ℕ, true, false, Ok, Err, [], ◌∷◌, ◌++◌, refl, sym}
use Rattle.pr_num.specs.Files.{FileTable, Descriptors}
use Rattle.pr_num.specs.Spaces.{Space}
use Rattle.pr_num.specs.Words.{word_bytes}
use Rattle.pr_num.specs.declared.errnos.Errno.TheVariants.{Fault}
use Rattle.pr_parts.specs.AddressSpaces.{with_bytes}
use Rattle.pr_parts.specs.FileCalls.{described}
use Rattle.pr_parts.specs.declared.files.FileNo.{FileNo}
use Rattle.pr_parts.specs.declared.files.Stat.{Stat}
use Rattle.pr_model.specs.Changes.{fails, gives, space_is}
use Rattle.pr_model.specs.FileCallRows.{fstat_effect, refusal_effect, word_size}
use Rattle.pr_model.specs.MemoryCalls.{can_write}
use Rattle.pr_call.specs.Effects.{stores_bytes}
use Rattle.pr_call.specs.FileAnswers.{lacks_memory}
use Rattle.pr_call.specs.declared.answers.Refusal.TheVariants.{Files}
use Rattle.pr_call.proofs.FileKeptLemmas.{described-unlacking}

-- What fstat does, by what the files answer.

module _ (t : FileTable) (fds : Descriptors) (space : Space) (fd at : ℕ) where
  pub stat-refused : (why : FileNo) → Err why ≡ described t fds fd → refusal_effect why ≡ fstat_effect t fds space fd at
  unfolding fstat_effect
  stat-refused why is = rw (sym is) refl

  module _ (stat : Stat) (is : Ok stat ≡ described t fds fd) where
    pub stat-fault : can_write space at (3 * word_size) ≡ false → fails Fault ≡ fstat_effect t fds space fd at
    unfolding fstat_effect
    stat-fault cannot = rw (sym is, cannot) refl

    pub stat-stored : (new : Space) → can_write space at (3 * word_size) ≡ true
        → new ≡ with_bytes at (word_bytes stat.kind ++ word_bytes stat.size ++ word_bytes stat.offset) space
        → gives 0 (space_is new ∷ []) ≡ fstat_effect t fds space fd at
    unfolding fstat_effect
    stat-stored new can stored = rw (sym is, can, stored) refl

    pub stat-lacks : can_write space at (3 * word_size) ≡ true → stores_bytes (fstat_effect t fds space fd at) ≡ true
    unfolding fstat_effect
    stat-lacks can = rw (sym is, can) refl

  -- no refusal says that memory ran out
  pub stat-refused-lacks : (why : FileNo) → Err why ≡ described t fds fd → lacks_memory (Err (Files why)) ≡ true
      → stores_bytes (fstat_effect t fds space fd at) ≡ true
  stat-refused-lacks why is lacks = let told = described-unlacking t fds fd why is in absurd (cc)

pub ruleset describing = (stat-refused, stat-fault, stat-stored, stat-lacks, stat-refused-lacks)
