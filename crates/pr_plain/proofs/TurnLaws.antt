-- Turns are read back from their words, and from no others.
use Rattle.std.proofs.Common.{◌≡◌, ℕ, Bool, true, false, cond, Option, Some, None, List, [], ◌∷◌, ◌++◌, codes, refl, sym, ap, ◌∙◌}
use Rattle.std.specs.Str.{bytes_eq}
use Rattle.pr_num.specs.declared.errnos.Errno.{Errno}
use Rattle.pr_num.specs.declared.errnos.Errno.TheVariants.{Perm}
use Rattle.pr_num.specs.Errnos.{errno_name, errno_of_name}
use Rattle.pr_num.specs.Faults.{fault_signal}
use Rattle.pr_num.specs.Signals.{signal_name}
use Rattle.pr_num.proofs.EntryLemmas.{errno_of_name-name, errno_name-of_name}
use Rattle.pr_model.specs.declared.events.Did.{Did}
use Rattle.pr_model.specs.declared.events.Did.TheVariants.{Stopped, Ran, Entered, Made, Slept, Woke, Returned, Faulted, Posted, Took, Acted}
use Rattle.pr_model.specs.declared.events.How.{How}
use Rattle.pr_model.specs.declared.events.How.TheVariants.{Caught, Ignored, JobStop, Died}
use Rattle.pr_model.specs.declared.events.Res.{Res}
use Rattle.pr_model.specs.declared.events.Res.TheVariants.{Value, Error, Ended}
use Rattle.pr_model.specs.declared.events.Turned.{Turned}
use Rattle.pr_plain.specs.EntryForms.{result_form, did_form}
use Rattle.pr_plain.specs.HistoryText.{result_words, how_text, did_words, stop_words, turn_words}
use Rattle.pr_plain.specs.Readings.{◌>>=◌}
use Rattle.pr_plain.specs.TurnReading.{errno_or_ended, result_at, how_of, how_at, stopped_at, entered_at, made_at, slept_at, woke_at, returned_at, faulted_at, posted_at, took_at, acted_at, did_behind, did_at, stop_of, turn_of}
use Rattle.pr_plain.specs.WordReading.{Words, word_at, is_done}
use Rattle.pr_plain.proofs.RowLemmas.{Takes, TakesBefore, Taken, found_by, pair_of, by_word, taken_as, Row.{done, said, read, ends}, last, RowOf, row_of, row_again, run, headed, table_again, table_taken}
use Rattle.pr_plain.proofs.WordLaws.{any, by_name, number_step, syscall_step, fault_step, signal_step}

-- ---- what a system call gave

-- words behind which no result goes on: none, or `stop`
pub record EndsResult (rest : Words) : Type 0 where
  pub ended : result_at rest ≡ Some (Ended, rest)

pub ends_by_stop : (stop : Bool) → EndsResult (stop_words stop)
unfolding stop_words result_at word_at errno_of_name errno_name
ends_by_stop true = record { ended = refl }
ends_by_stop false = record { ended = refl }

-- a value behind its =, and an errno, each as a row
abbrev value_row : RowOf EndsResult result_words result_form
unfolding result_words result_form
value_row = row_of (codes "=") (last number_step Value) (λ v rest. refl) (λ v. refl)

abbrev errno_row : Errno → RowOf EndsResult result_words result_form
unfolding result_words result_form
errno_row x = row_of (errno_name x) (done (Error x)) (λ v rest. refl) (λ v. refl)

ended_taken : (ws : Words) (r : Res) (rest : Words) → ◌≡◌ {A = Option (Res × Words)} (Some (Ended, ws)) (Some (r, rest))
    → Taken result_words result_form ws r rest
unfolding result_words result_form
ended_taken ws r rest e =
    let same = pair_of Ended r ws rest e in
    taken_as result_words result_form ws Ended r rest same.value (record { words = same.words; formed = refl })

result_taken : (ws : Words) (r : Res) (rest : Words) → result_at ws ≡ Some (r, rest)
    → Taken result_words result_form ws r rest
unfolding result_at word_at result_words result_form
result_taken [] r rest e = ended_taken [] r rest e
result_taken (w ∷ ws) r rest e =
    by_word w (codes "=") _ _ (r, rest) _ e (headed value_row w ws r rest) (by (errno_of_name w) refl)
  where
    by : (o : Option Errno) → errno_of_name w ≡ o → Some (errno_or_ended o ws (w ∷ ws)) ≡ Some (r, rest)
        → Taken result_words result_form (w ∷ ws) r rest
    by (Some x) is found = headed (errno_row x) w ws r rest (errno_name-of_name w x is) found
    by None is found = ended_taken (w ∷ ws) r rest found

errno_plain : (e : Errno) → bytes_eq (errno_name e) (codes "=") ≡ false
unfolding errno_name
errno_plain Perm = refl
errno_plain _ = refl

result_again : (r : Res) (rest : Words) → result_form r ≡ true → EndsResult rest
    → result_at (result_words r ++ rest) ≡ Some (r, rest)
unfolding result_at word_at result_words result_form
result_again (Value n) rest form end = row_again value_row.row n rest form end
result_again (Error x) rest form end =
    ap (λ t.
    cond t (run value_row.row rest)
    (Some (errno_or_ended (errno_of_name (errno_name x)) rest (errno_name x ∷ rest)))) (errno_plain x)
    ∙ ap (λ o. Some (errno_or_ended o rest (errno_name x ∷ rest))) (errno_of_name-name x)
result_again Ended rest form end = end.ended

result_before : TakesBefore EndsResult result_at result_words result_form
result_before = record { taken = result_taken; again = result_again }

-- ---- how a signal was acted on

how_back : (how : How) → how_of (how_text how) ≡ Some how
unfolding how_of how_text
how_back Caught = refl
how_back _ = refl

how_only : (w : List ℕ) (how : How) → how_of w ≡ Some how → w ≡ how_text how
unfolding how_of how_text
how_only w how e =
    by_word w (codes "caught") _ _ how (w ≡ how_text how) e (λ is h. is ∙ named Caught how h) (λ e.
    by_word w (codes "ignored") _ _ how (w ≡ how_text how) e (λ is h. is ∙ named Ignored how h) (λ e.
    by_word w (codes "stopped") _ _ how (w ≡ how_text how) e (λ is h. is ∙ named JobStop how h) (λ e.
    by_word w (codes "died") _ _ how (w ≡ how_text how) e (λ is h. is ∙ named Died how h) (λ e. cc))))
  where
    named : (x y : How) → ◌≡◌ {A = Option How} (Some x) (Some y) → how_text x ≡ how_text y
    named x y h = let same : x ≡ y = cc in ap how_text same

how_step : Takes how_at (λ how. how_text how ∷ []) any
unfolding how_at
how_step = by_name how_of how_text how_back how_only

-- ---- what an lwp did

-- a row for each form of turn
abbrev did_rows : List (RowOf EndsResult did_words did_form)
unfolding did_words did_form
did_rows =
    row_of (codes "stopped") (said (codes "requested") (done Stopped)) (λ v rest. refl) (λ v. refl)
    ∷ row_of (codes "ran") (done Ran) (λ v rest. refl) (λ v. refl)
    ∷ row_of (codes "entered") (last syscall_step Entered) (λ v rest. refl) (λ v. refl)
    ∷ row_of (codes "made") (read syscall_step (λ c. ends result_before (Made c))) (λ v rest. refl) (λ v. refl)
    ∷ row_of (codes "slept") (last syscall_step Slept) (λ v rest. refl) (λ v. refl)
    ∷ row_of (codes "woke") (read syscall_step (λ c. ends result_before (Woke c))) (λ v rest. refl) (λ v. refl)
    ∷ row_of (codes "returned") (last syscall_step Returned) (λ v rest. refl) (λ v. refl)
    ∷ row_of (codes "faulted") (last fault_step Faulted) (λ v rest. refl) (λ v. refl)
    ∷ row_of (codes "posted") (read fault_step (λ f. said (signal_name (fault_signal f)) (done (Posted f))))
    (λ v rest. refl) (λ v. refl)
    ∷ row_of (codes "took") (last signal_step Took) (λ v rest. refl) (λ v. refl)
    ∷ row_of (codes "acted") (read signal_step (λ s. last how_step (Acted s))) (λ v rest. refl) (λ v. refl) ∷ []

did_taken : (ws : Words) (d : Did) (rest : Words) → did_at ws ≡ Some (d, rest) → Taken did_words did_form ws d rest
unfolding did_words did_form did_at did_behind stopped_at entered_at made_at slept_at woke_at returned_at faulted_at
    posted_at took_at acted_at
did_taken = table_taken did_rows

-- a turn is read from its words, where no result goes on behind them
did_again : (d : Did) (rest : Words) → did_form d ≡ true → EndsResult rest
    → did_at (did_words d ++ rest) ≡ Some (d, rest)
unfolding did_at did_behind did_words did_form word_at stopped_at entered_at made_at slept_at woke_at returned_at
    faulted_at posted_at took_at acted_at
did_again Stopped rest form end = table_again did_rows (codes "stopped") tt rest form end
did_again Ran rest form end = refl
did_again (Entered c) rest form end = table_again did_rows (codes "entered") c rest form end
did_again (Made c r) rest form end = table_again did_rows (codes "made") (c, r) rest form end
did_again (Slept c) rest form end = table_again did_rows (codes "slept") c rest form end
did_again (Woke c r) rest form end = table_again did_rows (codes "woke") (c, r) rest form end
did_again (Returned c) rest form end = table_again did_rows (codes "returned") c rest form end
did_again (Faulted f) rest form end = table_again did_rows (codes "faulted") f rest form end
did_again (Posted f) rest form end = table_again did_rows (codes "posted") (f, tt) rest form end
did_again (Took s) rest form end = table_again did_rows (codes "took") s rest form end
did_again (Acted s how) rest form end = table_again did_rows (codes "acted") (s, how) rest form end

-- ---- turns

stop_taken : (ws : Words) (stop : Bool) → stop_of ws ≡ Some stop → ws ≡ stop_words stop
unfolding stop_of stop_words word_at
stop_taken [] stop e = let none : false ≡ stop = cc in ap stop_words none
stop_taken (w ∷ ws) stop e =
    by_word w (codes "stop") _ _ stop (w ∷ ws ≡ stop_words stop) e (λ is h. ended ws is h) (λ h. cc)
  where
    ended : (vs : Words) → w ≡ codes "stop" → cond (is_done vs) (Some true) None ≡ Some stop → w ∷ vs ≡ stop_words stop
    ended [] is h = let yes_stop : true ≡ stop = cc in ap (λ v. v ∷ []) is ∙ ap stop_words yes_stop
    ended (v ∷ vs) is h = cc

stop_again : (stop : Bool) → stop_of (stop_words stop) ≡ Some stop
unfolding stop_of stop_words word_at
stop_again true = refl
stop_again false = refl

pub record IsTurn (ws : Words) (t : Turned) : Type 0 where
  pub words : ws ≡ turn_words t
  pub formed : did_form t.did ≡ true

pub turn_of-is : (ws : Words) (t : Turned) → turn_of ws ≡ Some t → IsTurn ws t
unfolding turn_of turn_words
turn_of-is ws t e =
    let p = found_by (did_at ws) (λ d. (stop_of d.1 >>= λ stop. Some (record { did = d.0; stop = stop }))) t e in
    let q = found_by (stop_of p.value.1) (λ stop. Some (record { did = p.value.0; stop = stop })) t p.then_is in
    let d = did_taken ws p.value.0 p.value.1 p.is in
    let same : record { did = p.value.0; stop = q.value } ≡ t =
    same_turn (record { did = p.value.0; stop = q.value }) t q.then_is in
    record {
      words = d.words ∙ ap (λ vs. did_words p.value.0 ++ vs) (stop_taken p.value.1 q.value q.is) ∙ ap turn_words same;
      formed = ap (λ u. did_form u.did) (sym same) ∙ d.formed;
    }
  where
    same_turn : (x y : Turned) → ◌≡◌ {A = Option Turned} (Some x) (Some y) → x ≡ y
    same_turn x y h = cc

pub turn_of-words : (t : Turned) → did_form t.did ≡ true → turn_of (turn_words t) ≡ Some t
unfolding turn_of turn_words
turn_of-words t form =
    ap (λ o. o >>= λ d. (stop_of d.1 >>= λ stop. Some (record { did = d.0; stop = stop })))
    (did_again t.did (stop_words t.stop) form (ends_by_stop t.stop))
    ∙ ap (λ o. o >>= λ stop. Some (record { did = t.did; stop = stop })) (stop_again t.stop)
