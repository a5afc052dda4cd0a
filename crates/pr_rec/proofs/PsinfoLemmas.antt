-- The record of what ps(1) shows.
use Rattle.std.proofs.Common.{Bool, drop, ◌≡◌, ◌↔◌, ◌^◌, ◌<◌, ℕ, List, All, Option, Result, Ok, Err, IfOk, IfErr, ap, arith}
use Rattle.std.proofs.lemmas.Bool.{lt-ltb}
use Rattle.std.proofs.lemmas.List.Elements.{All-get_or}
use Rattle.pr_num.specs.Words.{IsByte, IsWord}
use Rattle.pr_num.specs.Records.{psinfo_ranges}
use Rattle.pr_num.specs.declared.signals.Sig.{Sig}
use Rattle.pr_rec.proofs.FieldLemmas.{same_truth, truth_small, same_signal, signal_small}
use Rattle.pr_rec.proofs.RecordLemmas.{AreRanged, TakeWords, decoded, below-word, any-word, word-any, same_name, front_words-ranged}
use Rattle.pr_rec.specs.InRange.{IsNameField, IsPsinfo}
use Rattle.pr_rec.specs.Reading.{BeginsWith, record_read}
use Rattle.pr_rec.specs.RecordWords.{psinfo_words_of}
use Rattle.pr_rec.specs.declared.faults.RecFault.{RecFault}
use Rattle.pr_rec.specs.declared.processes.Psinfo.{Psinfo}

-- fields in their ranges are words in theirs
pub psinfo-ranged : (p : Psinfo) → IsPsinfo p → AreRanged psinfo_ranges (psinfo_words_of p)
psinfo-ranged p h = (
  lt-ltb _ _ h.id,
  (
    lt-ltb _ _ h.parent,
    (
      word-any _ h.lwps,
      (
        lt-ltb _ _ (truth_small p.zombie),
        (
          word-any _ h.wait_status,
          (
            word-any _ h.mapped,
            (
              word-any _ h.made_at,
              (lt-ltb _ _ (signal_small p.job_stop), front_words-ranged 4 p.program h.program.bytes),
            ),
          ),
        ),
      ),
    ),
  ),
)

-- what the types of its fields and its words tell of it
pub psinfo-typed : (p : Psinfo) → p.id < 2 ^ 32 → p.parent < 2 ^ 32 → IsNameField p.program
    → All IsWord (psinfo_words_of p) → IsPsinfo p
psinfo-typed p id parent program fit =
    let words : List ℕ = psinfo_words_of p in
    record {
      id = id;
      parent = parent;
      lwps = All-get_or IsWord words 2 0 (omega arith) fit;
      wait_status = All-get_or IsWord words 4 0 (omega arith) fit;
      mapped = All-get_or IsWord words 5 0 (omega arith) fit;
      made_at = All-get_or IsWord words 6 0 (omega arith) fit;
      program = program;
    }

pub psinfo_take : TakeWords psinfo_ranges
psinfo_take = (
  below-word _ (omega arith),
  (
    below-word _ (omega arith),
    (
      any-word,
      (
        below-word _ (omega arith),
        (
          any-word,
          (any-word, (any-word, (below-word _ (omega arith), (any-word, (any-word, (any-word, (any-word, tt))))))),
        ),
      ),
    ),
  ),
)

pub same_psinfo : (x y : Psinfo) → IsNameField x.program → IsNameField y.program → psinfo_words_of x ≡ psinfo_words_of y
    → x ≡ y
same_psinfo x y x_whole y_whole e =
    let zombie : x.zombie ≡ y.zombie = same_truth x.zombie y.zombie cc in
    let job_stop : x.job_stop ≡ y.job_stop = same_signal x.job_stop y.job_stop cc in
    let program : x.program ≡ y.program = same_name x.program y.program x_whole y_whole (ap (drop 8) e) in
    by (λ id parent lwps zombie wait_status mapped made_at job_stop program.
    record {
      id = id;
      parent = parent;
      lwps = lwps;
      zombie = zombie;
      wait_status = wait_status;
      mapped = mapped;
      made_at = made_at;
      job_stop = job_stop;
      program = program;
    }) zombie job_stop program
  where
    by : (f : ℕ → ℕ → ℕ → Bool → ℕ → ℕ → ℕ → Option Sig → List ℕ → Psinfo) → x.zombie ≡ y.zombie
        → x.job_stop ≡ y.job_stop → x.program ≡ y.program
        → f x.id x.parent x.lwps x.zombie x.wait_status x.mapped x.made_at x.job_stop x.program
        ≡ f y.id y.parent y.lwps y.zombie y.wait_status y.mapped y.made_at y.job_stop y.program
    by f zombie_is job_stop_is program_is = cc

-- it is decoded exactly where the bytes begin with it
pub psinfo-decoded : (bytes : List ℕ) (r : Result Psinfo RecFault) → All IsByte bytes
    → IfOk r (λ x. record_read psinfo_ranges bytes ≡ Ok (psinfo_words_of x))
    → IfErr r (λ fault. record_read psinfo_ranges bytes ≡ Err fault) → IfOk r (λ x. IsNameField x.program)
    → (x : Psinfo) → (r ≡ Ok x) ↔ (IsNameField x.program × BeginsWith psinfo_ranges bytes (psinfo_words_of x))
psinfo-decoded bytes r small read bad whole x =
    decoded psinfo_ranges psinfo_take bytes psinfo_words_of
    (λ x. IsNameField x.program) same_psinfo small r read bad whole x
