-- The record of usage.
use Rattle.std.proofs.Common.{◌≡◌, ◌↔◌, ◌^◌, ◌<◌, ℕ, List, All, Result, Ok, Err, IfOk, IfErr, arith}
use Rattle.std.proofs.lemmas.Bool.{lt-ltb}
use Rattle.std.proofs.lemmas.List.Elements.{All-get_or}
use Rattle.pr_num.specs.Words.{IsByte, IsWord}
use Rattle.pr_num.specs.Records.{usage_ranges}
use Rattle.pr_rec.proofs.RecordLemmas.{AreRanged, TakeWords, decoded, below-word, any-word, word-any}
use Rattle.pr_rec.specs.InRange.{IsUsage}
use Rattle.pr_rec.specs.Reading.{BeginsWith, record_read}
use Rattle.pr_rec.specs.RecordWords.{usage_words_of}
use Rattle.pr_rec.specs.declared.faults.RecFault.{RecFault}
use Rattle.pr_rec.specs.declared.usages.Usage.{Usage}

-- fields in their ranges are words in theirs
pub usage-ranged : (u : Usage) → IsUsage u → AreRanged usage_ranges (usage_words_of u)
usage-ranged u h = (
  lt-ltb _ _ h.id,
  (word-any _ h.calls, (word-any _ h.signals, (word-any _ h.faults, (word-any _ h.instructions, tt)))),
)

-- what the types of its fields and its words tell of it
pub usage-typed : (u : Usage) → u.id < 2 ^ 32 → All IsWord (usage_words_of u) → IsUsage u
usage-typed u id fit =
    let words : List ℕ = usage_words_of u in
    record {
      id = id;
      calls = All-get_or IsWord words 1 0 (omega arith) fit;
      signals = All-get_or IsWord words 2 0 (omega arith) fit;
      faults = All-get_or IsWord words 3 0 (omega arith) fit;
      instructions = All-get_or IsWord words 4 0 (omega arith) fit;
    }

pub usage_take : TakeWords usage_ranges
usage_take = (below-word _ (omega arith), (any-word, (any-word, (any-word, (any-word, tt)))))

pub same_usage : (u v : Usage) → usage_words_of u ≡ usage_words_of v → u ≡ v
same_usage u v e =
    by (λ id calls signals faults instructions.
    record { id = id; calls = calls; signals = signals; faults = faults; instructions = instructions })
  where
    by : (f : ℕ → ℕ → ℕ → ℕ → ℕ → Usage)
        → f u.id u.calls u.signals u.faults u.instructions ≡ f v.id v.calls v.signals v.faults v.instructions
    by f = cc

-- it is decoded exactly where the bytes begin with it
pub usage-decoded : (bytes : List ℕ) (r : Result Usage RecFault) → All IsByte bytes
    → IfOk r (λ u. record_read usage_ranges bytes ≡ Ok (usage_words_of u))
    → IfErr r (λ fault. record_read usage_ranges bytes ≡ Err fault) → (u : Usage)
    → (r ≡ Ok u) ↔ BeginsWith usage_ranges bytes (usage_words_of u)
usage-decoded bytes r small read bad u =
    let iff =
    decoded usage_ranges usage_take bytes usage_words_of (λ _. Unit {0})
    (λ x y _ _ e. same_usage x y e) small r read bad (whole r) u in
    (λ e. (iff.0 e).1, λ h. iff.1 (tt, h))
  where
    whole : (r : Result Usage RecFault) → IfOk r (λ _. Unit {0})
    whole (Ok x) = tt
    whole (Err fault) = tt
