-- The record of a process's status.
use Rattle.std.proofs.Common.{◌≡◌, ◌↔◌, ◌^◌, ◌<◌, ℕ, List, [], ◌∷◌, ◌++◌, length, drop, get_or, All, Result, Ok, Err, IfOk, IfErr, sym, ap, arith}
use Rattle.std.proofs.lemmas.Bool.{lt-ltb}
use Rattle.std.proofs.lemmas.List.Elements.{All-get_or}
use Rattle.pr_num.specs.Limits.{signal_count, syscall_count, fault_count}
use Rattle.pr_num.specs.Words.{IsByte, IsWord}
use Rattle.pr_num.specs.Records.{status_ranges}
use Rattle.pr_codec.proofs.MessageLemmas.{each_of}
use Rattle.pr_rec.proofs.LwpStatusLemmas.{lwpstatus-ranged, lwpstatus_take, same_lwpstatus}
use Rattle.pr_rec.proofs.RecordLemmas.{AreRanged, TakeWords, elements_of, decoded, below-word, any-word, word-any}
use Rattle.pr_rec.specs.InRange.{HasArraySizes, IsLwpStatus, IsStatus}
use Rattle.pr_rec.specs.Reading.{BeginsWith, record_read}
use Rattle.pr_rec.specs.RecordWords.{status_words_of, own_words_of}
use Rattle.pr_rec.specs.declared.faults.RecFault.{RecFault}
use Rattle.pr_rec.specs.declared.lwps.LwpStatus.{LwpStatus}
use Rattle.pr_rec.specs.declared.statuses.Status.{Status}

-- fields in their ranges are words in theirs
pub status-ranged : (s : Status) → IsStatus s → AreRanged status_ranges (status_words_of s)
status-ranged s h = (
  lt-ltb _ _ h.flags,
  (
    lt-ltb _ _ h.id,
    (
      lt-ltb _ _ h.parent,
      (
        word-any _ h.lwps,
        (
          lt-ltb _ _ h.pending,
          (
            lt-ltb _ _ h.traced_signals,
            (
              lt-ltb _ _ h.traced_faults,
              (
                lt-ltb _ _ h.traced_entries,
                (
                  lt-ltb _ _ h.traced_exits,
                  (
                    word-any _ h.heap_base,
                    (word-any _ h.heap_size, (lt-ltb _ _ h.agent, (word-any _ h.areas, lwpstatus-ranged s.lwp h.lwp))),
                  ),
                ),
              ),
            ),
          ),
        ),
      ),
    ),
  ),
)

-- what the types of its fields and its words tell of it
pub status-typed : (s : Status) → s.flags < 2 ^ 6 → s.id < 2 ^ 32 → s.parent < 2 ^ 32 → s.pending < 2 ^ signal_count
    → s.traced_signals < 2 ^ signal_count → s.traced_faults < 2 ^ fault_count → s.traced_entries < 2 ^ syscall_count
    → s.traced_exits < 2 ^ syscall_count → s.agent < 2 ^ 32 → All IsWord (own_words_of s) → IsLwpStatus s.lwp
    → IsStatus s
status-typed s flags id parent pending signals faults entries exits agent fit lwp =
    let words : List ℕ = own_words_of s in
    record {
      flags = flags;
      id = id;
      parent = parent;
      lwps = All-get_or IsWord words 3 0 (omega arith) fit;
      pending = pending;
      traced_signals = signals;
      traced_faults = faults;
      traced_entries = entries;
      traced_exits = exits;
      heap_base = All-get_or IsWord words 9 0 (omega arith) fit;
      heap_size = All-get_or IsWord words 10 0 (omega arith) fit;
      agent = agent;
      areas = All-get_or IsWord words 12 0 (omega arith) fit;
      lwp = lwp;
    }

-- 46 words of which some, and the last 33, are known in another way
pub status_elements : (ws : List ℕ) (flags pending signals faults entries exits : ℕ) (lwp : List ℕ) → length ws ≡ 46
    → flags ≡ get_or ws 0 0 → pending ≡ get_or ws 4 0 → signals ≡ get_or ws 5 0 → faults ≡ get_or ws 6 0
    → entries ≡ get_or ws 7 0 → exits ≡ get_or ws 8 0 → lwp ≡ drop 13 ws
    → (flags ∷ get_or ws 1 0 ∷ get_or ws 2 0 ∷ get_or ws 3 0 ∷ pending ∷ signals ∷ faults ∷ entries ∷ exits
    ∷ get_or ws 9 0 ∷ get_or ws 10 0 ∷ get_or ws 11 0 ∷ get_or ws 12 0 ∷ []) ++ lwp ≡ ws
status_elements ws flags pending signals faults entries exits lwp size flags_is pending_is signals_is faults_is
    entries_is exits_is lwp_is =
    let all : each_of 46 (λ k. get_or ws k 0) ≡ ws = elements_of 46 ws size in
    let behind : drop 13 ws ≡ drop 13 (each_of 46 (λ k. get_or ws k 0)) = ap (drop 13) (sym all) in
    rw (flags_is, pending_is, signals_is, faults_is, entries_is, exits_is, lwp_is, behind) all

pub status_take : TakeWords status_ranges
status_take = (
  below-word _ (omega arith),
  (
    below-word _ (omega arith),
    (
      below-word _ (omega arith),
      (
        any-word,
        (
          below-word _ (omega arith),
          (
            below-word _ (omega arith),
            (
              below-word _ (omega arith),
              (
                below-word _ (omega arith),
                (
                  below-word _ (omega arith),
                  (any-word, (any-word, (below-word _ (omega arith), (any-word, lwpstatus_take)))),
                ),
              ),
            ),
          ),
        ),
      ),
    ),
  ),
)

-- two with the same words are the same
pub same_status : (x y : Status) → HasArraySizes x.lwp → HasArraySizes y.lwp → status_words_of x ≡ status_words_of y
    → x ≡ y
same_status x y x_sizes y_sizes e =
    by (λ flags id parent lwps pending traced_signals traced_faults traced_entries traced_exits heap_base heap_size
    agent areas lwp.
    record {
      flags = flags;
      id = id;
      parent = parent;
      lwps = lwps;
      pending = pending;
      traced_signals = traced_signals;
      traced_faults = traced_faults;
      traced_entries = traced_entries;
      traced_exits = traced_exits;
      heap_base = heap_base;
      heap_size = heap_size;
      agent = agent;
      areas = areas;
      lwp = lwp;
    })
    (at 0) (at 1) (at 2) (at 3) (at 4) (at 5) (at 6) (at 7) (at 8) (at 9) (at 10) (at 11) (at 12)
    (same_lwpstatus x.lwp y.lwp x_sizes y_sizes (ap (drop 13) e))
  where
    at : (i : ℕ) → get_or (status_words_of x) i 0 ≡ get_or (status_words_of y) i 0
    at i = ap (λ ws. get_or ws i 0) e

    by : (f : ℕ → ℕ → ℕ → ℕ → ℕ → ℕ → ℕ → ℕ → ℕ → ℕ → ℕ → ℕ → ℕ → LwpStatus → Status)
        → x.flags ≡ y.flags → x.id ≡ y.id → x.parent ≡ y.parent → x.lwps ≡ y.lwps → x.pending ≡ y.pending
        → x.traced_signals ≡ y.traced_signals → x.traced_faults ≡ y.traced_faults
        → x.traced_entries ≡ y.traced_entries → x.traced_exits ≡ y.traced_exits → x.heap_base ≡ y.heap_base
        → x.heap_size ≡ y.heap_size → x.agent ≡ y.agent → x.areas ≡ y.areas → x.lwp ≡ y.lwp
        → f x.flags x.id x.parent x.lwps x.pending x.traced_signals x.traced_faults x.traced_entries x.traced_exits
        x.heap_base x.heap_size x.agent x.areas x.lwp
        ≡ f y.flags y.id y.parent y.lwps y.pending y.traced_signals y.traced_faults y.traced_entries y.traced_exits
        y.heap_base y.heap_size y.agent y.areas y.lwp
    by f flags id parent lwps pending traced_signals traced_faults traced_entries traced_exits heap_base heap_size agent
        areas lwp = cc

-- it is decoded exactly where the bytes begin with it
pub status-decoded : (bytes : List ℕ) (r : Result Status RecFault) → All IsByte bytes
    → IfOk r (λ x. record_read status_ranges bytes ≡ Ok (status_words_of x))
    → IfErr r (λ fault. record_read status_ranges bytes ≡ Err fault) → IfOk r (λ x. HasArraySizes x.lwp) → (x : Status)
    → (r ≡ Ok x) ↔ (HasArraySizes x.lwp × BeginsWith status_ranges bytes (status_words_of x))
status-decoded bytes r small read bad sizes x =
    decoded status_ranges status_take bytes status_words_of
    (λ x. HasArraySizes x.lwp) same_status small r read bad sizes x
