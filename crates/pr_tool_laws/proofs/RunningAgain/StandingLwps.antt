use Rattle.std.proofs.Common.{◌≡◌, ◌+◌, ◌*◌, ◌/◌, ◌%◌, ◌==◌, ◌||◌, ◌&&◌, ◌≤◌, ℕ, Bool, true, false, List, [], ◌∷◌, Option, Some, None, Ok, length, drop, map, is_some, refl, ap, ◌∙◌, arith}
use Rattle.std.specs.List.{All, list_all}
use Rattle.std.proofs.lemmas.List.{drop_at, take_all}
use Rattle.std.proofs.lemmas.List.Elements.{All-head, All-tail}
use Rattle.std.proofs.lemmas.Nat.Bits.{and_pow}
use Rattle.pr_codec.proofs.WordLemmas.{length-words_bytes}
use Rattle.pr_model.specs.Reads.{part_read}
use Rattle.pr_model.specs.Records.{lstatus_of, statuses_of_lwps}
use Rattle.pr_model.specs.State.{TracedLwp, TracedProcess}
use Rattle.pr_model.specs.Statuses.{lwp_flags, lwpstatus_of, reason_shown}
use Rattle.pr_model.specs.Stops.{shown}
use Rattle.pr_model.specs.declared.stops.Stop.{Stop}
use Rattle.pr_num.specs.Control.{has_flags, istop_flag}
use Rattle.pr_num.specs.Limits.{read_limit}
use Rattle.pr_num.specs.Records.{entries_words, lwpstatus_ranges}
use Rattle.pr_num.specs.Sets.{common_word}
use Rattle.pr_num.specs.StopReasons.{reason_number}
use Rattle.pr_num.specs.Words.{words_bytes}
use Rattle.pr_num.specs.declared.signals.Sig.{Sig}
use Rattle.pr_num.specs.declared.stop_reasons.StopReason.TheVariants.{Suspended}
use Rattle.pr_rec.proofs.LwpStatusLemmas.{lwpstatus-ranged, lwpstatus_take}
use Rattle.pr_rec.proofs.ReadLemmas.{words_bytes-append}
use Rattle.pr_rec.specs.Fields.{flag_if, lwp_flags_of, number_or_zero}
use Rattle.pr_rec.specs.InRange.{IsLwpStatus}
use Rattle.pr_rec.specs.Reading.{record_read}
use Rattle.pr_rec.specs.RecordBytes.{lstatus_bytes}
use Rattle.pr_rec.specs.RecordWords.{lwpstatus_words_of}
use Rattle.pr_rec.specs.declared.lwp_flags.LwpMarks.{LwpMarks}
use Rattle.pr_rec.specs.declared.lwps.LwpStatus.{LwpStatus}
use Rattle.pr_tools.specs.Entries.{lwp_places}
use Rattle.pr_tools.specs.Stacks.{all_stand, process_stands, stands, stands_in}
use Rattle.pr_tool_laws.proofs.Records.EntryLemmas.{behind-number, record-back}
use Rattle.pr_tool_laws.proofs.Records.ReadBackLemmas.{lwps-counted, lwps-length, lwps-places}
use Rattle.pr_tool_laws.specs.OneState.{AreLwpsRead}
use Rattle.pr_tool_laws.specs.Stacks.{all_still}
use Rattle.pr_truss_laws.specs.Stills.{stands_still}

-- Whether every lwp of a process stands, as the status of all its lwps shows it.

-- ---- the flags of an lwp

-- a flag above the second bit
times-four : (b : Bool) (k : ℕ) → (n : ℕ) × (flag_if b (4 * k) ≡ 4 * n)
times-four true k = (k, refl)
times-four false k = (0, refl)

first-bit : (b : Bool) → flag_if b 1 ≤ 1
first-bit true = omega arith
first-bit false = omega arith

second-bit : (m : LwpMarks) → lwp_flags_of m / 2 % 2 ≡ flag_if m.on_event 1
second-bit m =
    let low = first-bit m.stopped in
    let directed = times-four m.directed 1 in
    let step = times-four m.step 2 in
    let asleep = times-four m.asleep 4 in
    let agent = times-four m.agent 8 in
    by m.on_event (flag_if m.stopped 1) directed.0 step.0 asleep.0 agent.0 low directed.1 step.1 asleep.1 agent.1
  where
    by : (b : Bool) (s d t a g : ℕ) → s ≤ 1 → flag_if m.directed 4 ≡ 4 * d → flag_if m.step 8 ≡ 4 * t
        → flag_if m.asleep 16 ≡ 4 * a → flag_if m.agent 32 ≡ 4 * g
        → (s + flag_if b 2 + flag_if m.directed 4 + flag_if m.step 8 + flag_if m.asleep 16 + flag_if m.agent 32)
        / 2 % 2 ≡ flag_if b 1
    by true s d t a g low is_d is_t is_a is_g = omega arith
    by false s d t a g low is_d is_t is_a is_g = omega arith

on-event : (m : LwpMarks) → has_flags (lwp_flags_of m) istop_flag ≡ m.on_event
unfolding has_flags common_word
on-event m =
    ap (λ (n : ℕ). n == 2) (and_pow (lwp_flags_of m) 1 ∙ ap (λ (b : ℕ). b * 2) (second-bit m)) ∙ by m.on_event
  where
    by : (b : Bool) → (flag_if b 1 * 2 == 2) ≡ b
    by true = refl
    by false = refl

-- ---- one lwp

module _ (p : TracedProcess) (id : ℕ) (l : TracedLwp) where
  -- it is told that an lwp is suspended where it stands on no event of interest
  suspended-shown : (o : Option Stop) (b : Bool) (job : Option Sig) → l.control.stop ≡ o → l.suspended ≡ b
      → p.job_stop ≡ job
      → (is_some o || (number_or_zero reason_number (reason_shown (shown p.job_stop l)) == reason_number Suspended))
      ≡ (is_some o || l.suspended)
  unfolding shown reason_shown reason_number
  suspended-shown (Some stop) b job at_stop is at_job = refl
  suspended-shown None true job at_stop is at_job = rw (at_stop, is) refl
  suspended-shown None false None at_stop is at_job = rw (at_stop, is, at_job) refl
  suspended-shown None false (Some s) at_stop is at_job = rw (at_stop, is, at_job) refl

  lwp-stands : stands (lwpstatus_words_of (lwpstatus_of p id l)) ≡ stands_still l
  unfolding stands lwpstatus_of lwp_flags
  lwp-stands =
      ap (λ (b : Bool). b
      || (number_or_zero reason_number (reason_shown (shown p.job_stop l)) == reason_number Suspended)) (on-event _)
      ∙ suspended-shown l.control.stop l.suspended p.job_stop refl refl refl

-- ---- all lwps

lwps-stand : (p : TracedProcess) (es : List (ℕ × TracedLwp)) → All IsLwpStatus (statuses_of_lwps p es)
    → all_stand (length (statuses_of_lwps p es))
    (words_bytes (entries_words (map lwpstatus_words_of (statuses_of_lwps p es))))
    ≡ list_all (λ (e : ℕ × TracedLwp). stands_still e.1) es
unfolding all_stand stands_in
lwps-stand p [] fields = refl
lwps-stand p (e ∷ es) fields =
    let l : LwpStatus = lwpstatus_of p e.0 e.1 in
    let lwps : List LwpStatus = statuses_of_lwps p es in
    let rest : List ℕ = words_bytes (entries_words (map lwpstatus_words_of lwps)) in
    let apart = words_bytes-append (lwpstatus_words_of l) (entries_words (map lwpstatus_words_of lwps)) in
    let first : record_read lwpstatus_ranges
    (words_bytes (entries_words (map lwpstatus_words_of (l ∷ lwps)))) ≡ Ok (lwpstatus_words_of l) =
    ap (record_read lwpstatus_ranges) apart
    ∙ record-back lwpstatus_words_of lwpstatus_ranges
    (λ _. refl) lwpstatus_take IsLwpStatus lwpstatus-ranged l rest (All-head IsLwpStatus l lwps fields) in
    let others : drop 264 (words_bytes (entries_words (map lwpstatus_words_of (l ∷ lwps)))) ≡ rest =
    ap (drop 264) apart
    ∙ drop_at (words_bytes (lwpstatus_words_of l)) rest 264 (length-words_bytes (lwpstatus_words_of l)) in
    rw (first, others, lwps-stand p es (All-tail IsLwpStatus l lwps fields))
    (ap (λ (b : Bool). b && list_all (λ (x : ℕ × TracedLwp). stands_still x.1) es) (lwp-stands p e.0 e.1))

-- one read of the status of all lwps tells whether every lwp stands
pub stands-back : (p : TracedProcess) → AreLwpsRead p
    → process_stands (part_read (lstatus_bytes (lstatus_of p)) 0 read_limit) ≡ all_still p
unfolding process_stands lstatus_bytes lstatus_of part_read all_still
stands-back p are =
    let lwps : List LwpStatus = lstatus_of p in
    let words : List (List ℕ) = map lwpstatus_words_of lwps in
    let size = lwps-length 0 lwps are.few are.fields in
    let few = are.few in
    let whole : part_read (lstatus_bytes lwps) 0 read_limit ≡ lstatus_bytes lwps =
    take_all read_limit (lstatus_bytes lwps) (omega arith) in
    let behind : drop 8 (lstatus_bytes lwps) ≡ words_bytes (entries_words words) =
    behind-number (length words) (entries_words words) in
    ap process_stands whole
    ∙ ap (λ (b : Bool). b && all_stand (lwp_places (lstatus_bytes lwps)) (drop 8 (lstatus_bytes lwps)))
    (lwps-counted 0 lwps are.few are.fields)
    ∙ ap (λ (n : ℕ). all_stand n (drop 8 (lstatus_bytes lwps))) (lwps-places 0 lwps are.few are.fields)
    ∙ ap (all_stand (length lwps)) behind ∙ lwps-stand p p.lwps are.fields
