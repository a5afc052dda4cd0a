-- Tables of counts.
use Rattle.std.proofs.Common.{◌≡◌, ℕ, ◌+◌, ◌<◌, ◌≤◌, Bool, true, false, cond, eqb, List, [], ◌∷◌, ◌++◌, length, get_or, set, replicate, ap, refl, sym, ◌∙◌, arith}
use Rattle.std.specs.List.{filter, flat_map}
use Rattle.pr_num.specs.Faults.{faults, fault_number, fault_name}
use Rattle.pr_num.specs.Signals.{signals, signal_number, signal_name}
use Rattle.pr_num.specs.Syscalls.{syscalls, syscall_number}
use Rattle.pr_num.specs.declared.faults.Flt.{Flt}
use Rattle.pr_num.specs.declared.signals.Sig.{Sig}
use Rattle.pr_num.specs.declared.syscalls.Sysno.{Sysno}
use Rattle.pr_rec.proofs.FieldLemmas.{signal_number-lt, fault_number-lt, syscall_number-lt}
use Rattle.std.proofs.lemmas.Bool.{eq-eqb, eqb-true, false≢true}
use Rattle.std.proofs.lemmas.List.{append-nil, get_or-set_same, get_or-set_other, get_or-replicate, length-append, length-set}
use Rattle.std.proofs.lemmas.List.Elements.{filter-append}
use Rattle.pr_num.specs.Limits.{signal_count}
use Rattle.pr_truss.specs.Counts.{number_in, counts_as, count_of, IsTable, row_of, row_of_call, call_row_in, call_row, signal_row_in, signal_row, fault_row_in, fault_row}
use Rattle.pr_truss.specs.declared.counts.Kind.{Kind}
use Rattle.pr_truss.specs.declared.counts.Kind.TheVariants.{Calls, Errors, Signals, Faults}
use Rattle.pr_truss.specs.declared.reports.Report.{Report}

-- a report more is one count more of its number
count_same : (rs : List Report) (r : Report) (kind : Kind) (n : ℕ) → counts_as kind n r ≡ true
    → count_of (rs ++ r ∷ []) kind n ≡ count_of rs kind n + 1
unfolding count_of
count_same rs r kind n is =
    ap length
    (filter-append (counts_as kind n) rs (r ∷ []) ∙ ap (λ b. filter (counts_as kind n) rs ++ cond b (r ∷ []) []) is)
    ∙ length-append (filter (counts_as kind n) rs) (r ∷ [])

count_other : (rs : List Report) (r : Report) (kind : Kind) (n : ℕ) → counts_as kind n r ≡ false
    → count_of (rs ++ r ∷ []) kind n ≡ count_of rs kind n
unfolding count_of
count_other rs r kind n is =
    ap length
    (filter-append (counts_as kind n) rs (r ∷ []) ∙ ap (λ b. filter (counts_as kind n) rs ++ cond b (r ∷ []) []) is
    ∙ append-nil _)

count_nothing : (kind : Kind) (n : ℕ) → 0 ≡ count_of [] kind n
unfolding count_of
count_nothing kind n = refl

pub table_first : (kind : Kind) → IsTable [] kind (replicate (signal_count + 1) 0)
table_first kind =
    record { size = refl; rows = λ n lt. get_or-replicate (signal_count + 1) n 0 0 lt ∙ count_nothing kind n }

row_more : (rs : List Report) (r : Report) (kind : Kind) (table : List ℕ) (m n : ℕ) → IsTable rs kind table
    → number_in kind r ≡ m → n < signal_count + 1 → (b : Bool) → eqb m n ≡ b
    → get_or (set table m (get_or table m 0 + 1)) n 0 ≡ count_of (rs ++ r ∷ []) kind n
row_more rs r kind table m n h is lt true same =
    let e : m ≡ n = eqb-true m n same in
    ap (λ k. get_or (set table k (get_or table k 0 + 1)) n 0) e
    ∙ get_or-set_same table n (get_or table n 0 + 1) 0 (omega (arith, h.size))
    ∙ ap (λ k. k + 1) (h.rows n lt) ∙ sym (count_same rs r kind n (ap (λ k. eqb k n) is ∙ same))
row_more rs r kind table m n h is lt false other =
    get_or-set_other table m n (get_or table m 0 + 1) 0 (λ e. false≢true (sym other ∙ eq-eqb m n (sym e)))
    ∙ h.rows n lt ∙ sym (count_other rs r kind n (ap (λ k. eqb k n) is ∙ other))

pub table_more : (rs : List Report) (r : Report) (kind : Kind) (table : List ℕ) (m : ℕ) → IsTable rs kind table
    → number_in kind r ≡ m → IsTable (rs ++ r ∷ []) kind (set table m (get_or table m 0 + 1))
table_more rs r kind table m h is = record {
  size = length-set table m _ ∙ h.size;
  rows = λ n lt. row_more rs r kind table m n h is lt (eqb m n) refl;
}

-- a count is at most the number of reports
filter-le : (p : Report → Bool) (rs : List Report) → length (filter p rs) ≤ length rs
filter-le p [] = omega arith
filter-le p (r ∷ rs) =
    elim (p r) as (λ b. length (cond b (r ∷ filter p rs) (filter p rs)) ≤ length (r ∷ rs))
    [ true ↦ omega (arith, filter-le p rs) | false ↦ omega (arith, filter-le p rs) ]

pub count-le : (rs : List Report) (kind : Kind) (n : ℕ) → count_of rs kind n ≤ length rs
unfolding count_of
count-le rs kind n = filter-le (counts_as kind n) rs

-- ---- rows

-- functions that agree give the same
flat_map-same : {X Y : Type 0} (f g : X → List Y) → ((x : X) → f x ≡ g x) → (xs : List X)
    → flat_map f xs ≡ flat_map g xs
flat_map-same f g same [] = refl
flat_map-same f g same (x ∷ xs) =
    ap (λ front. front ++ flat_map f xs) (same x) ∙ ap (λ rest. g x ++ rest) (flat_map-same f g same xs)

call_in_tables : (rs : List Report) (counts errors : List ℕ) → IsTable rs Calls counts → IsTable rs Errors errors
    → (call : Sysno) → call_row_in counts errors call ≡ call_row rs call
unfolding call_row
call_in_tables rs counts errors counts_are errors_are call =
    ap (λ n. row_of_call call n (get_or errors (syscall_number call) 0))
    (counts_are.rows (syscall_number call) (syscall_number-lt call))
    ∙ ap (λ n. row_of_call call (count_of rs Calls (syscall_number call)) n)
    (errors_are.rows (syscall_number call) (syscall_number-lt call))

pub calls_in_tables : (rs : List Report) (counts errors : List ℕ) → IsTable rs Calls counts → IsTable rs Errors errors
    → flat_map (call_row_in counts errors) syscalls ≡ flat_map (call_row rs) syscalls
calls_in_tables rs counts errors counts_are errors_are =
    flat_map-same (call_row_in counts errors) (call_row rs)
    (call_in_tables rs counts errors counts_are errors_are) syscalls

signal_in_table : (rs : List Report) (counts : List ℕ) → IsTable rs Signals counts → (signal : Sig)
    → signal_row_in counts signal ≡ signal_row rs signal
unfolding signal_row
signal_in_table rs counts are signal =
    ap (row_of (signal_name signal)) (are.rows (signal_number signal) (signal_number-lt signal))

pub signals_in_table : (rs : List Report) (counts : List ℕ) → IsTable rs Signals counts
    → flat_map (signal_row_in counts) signals ≡ flat_map (signal_row rs) signals
signals_in_table rs counts are =
    flat_map-same (signal_row_in counts) (signal_row rs) (signal_in_table rs counts are) signals

fault_in_table : (rs : List Report) (counts : List ℕ) → IsTable rs Faults counts → (fault : Flt)
    → fault_row_in counts fault ≡ fault_row rs fault
unfolding fault_row
fault_in_table rs counts are fault =
    ap (row_of (fault_name fault)) (are.rows (fault_number fault) (fault_number-lt fault))

pub faults_in_table : (rs : List Report) (counts : List ℕ) → IsTable rs Faults counts
    → flat_map (fault_row_in counts) faults ≡ flat_map (fault_row rs) faults
faults_in_table rs counts are = flat_map-same (fault_row_in counts) (fault_row rs) (fault_in_table rs counts are) faults
