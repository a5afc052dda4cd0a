use Rattle.std.proofs.Common.{◌≡◌, ◌||◌, ℕ, Bool, true, false, not, is_none, is_some, is_ok, eqb, leb, cond, Option, Some, None, Result, Ok, Err, List, length, refl, sym, ◌∙◌, ap}
use Rattle.std.specs.List.{list_all}
use Rattle.std.proofs.lemmas.Bool.{or_parts, leb-false}
use Rattle.pr_num.specs.Control.{has_flags, clear_signal, clear_fault, single_step, abort_call, stop_again}
use Rattle.pr_num.specs.Limits.{area_limit, lwp_limit}
use Rattle.pr_num.specs.Signals.{signal_of_number}
use Rattle.pr_num.specs.Spaces.{bytes_for}
use Rattle.pr_num.specs.declared.errnos.Errno.TheVariants.{Busy}
use Rattle.pr_num.specs.declared.mappings.BadByte.{BadByte}
use Rattle.pr_num.specs.declared.messages.Message.{Message}
use Rattle.pr_num.specs.declared.messages.Message.TheVariants as message
use Rattle.pr_num.specs.declared.signals.Sig.{Sig}
use Rattle.pr_parts.specs.AddressSpaces.{with_bytes}
use Rattle.pr_parts.specs.PendingSignals.{has_room}
use Rattle.pr_parts.specs.WatchedAreas.{is_taken, with_area, without_area}
use Rattle.pr_model.specs.Changes.{with_space}
use Rattle.pr_model.specs.Messages.{Controlled, Aim, at_lwp, at_process, with_signal_set, lwp_without_one, with_held_set, with_registers, with_address, with_control, tracing_signals, tracing_faults, tracing_entries, tracing_exits, with_modes, without_modes, with_areas, lets_agent, with_agent, on_found, aimed_lwp, on_stopped_found, with_aim_directed, run_found, found_at, run_answer, killed, is_kill_of, ssig_answer, pending_at, pending_of_found, target_of_aim, kill_by, kill_answer, process_without_one, unkill_by, unkill_answer, watch_answer, agent_answer, read_of, mapped_bytes, read_answer, write_answer, unless_lent, refused, message_answer, with_process_changed, with_set}
use Rattle.pr_model.specs.Running.{without_current, without_fault, with_step, with_abort, with_directive, without_directive, let_go, if_flag, is_entry_stop, is_asleep, with_cleared, with_aborted, run_lwp, lwp_run_refused, run_refused, shows_run, was_requested, with_request, without_request, if_all_requested, with_flags_on, with_representative_run, with_all_run, with_one_run, runs_one, with_run}
use Rattle.pr_model.specs.State.{TracedControl, TracedLwp, TracedProcess, TracedSystem, has_agent, lwp_of, with_lwp}
use Rattle.pr_model.specs.Stops.{directed, has_event_stop, representative, with_all_directed}
use Rattle.pr_model.specs.declared.stops.Stop.{Stop}
use Rattle.pr_keeps.specs.LwpEdits as lwp
use Rattle.pr_keeps.specs.LwpEdits.{LwpEdit, LwpEdits, directs}
use Rattle.pr_keeps.specs.ProcessEdits as process
use Rattle.pr_keeps.specs.ProcessEdits.{ControlEdit, ProcessEdit, ProcessEdits}
use Rattle.pr_keeps.specs.MessageAnswers as answer
use Rattle.pr_keeps.specs.MessageAnswers.{MessageAnswer, MessageRefusal, is_used_up}
use Rattle.pr_keeps.specs.MessageEdits as edit
use Rattle.pr_keeps.specs.MessageEdits.{MessageEdit, HasRoomIn}
use Rattle.pr_keeps.proofs.KeepsLemmas.{choice}

-- Each control message is refused, or makes one of its edits and replies what it replies then: a line a message.

-- ---- edits, one after another

module _ (m : Message) where
  -- every lwp is edited so
  Edits : (TracedLwp → TracedLwp) → Type 0
  Edits f = (l : TracedLwp) → LwpEdits m l (f l)

  one-edit : (l k : TracedLwp) → LwpEdit m l k → LwpEdits m l k
  one-edit l k e = lwp.then_edit lwp.as_it_is e

  edited-if : (b : Bool) (f : TracedLwp → TracedLwp) (l k : TracedLwp) → (b ≡ true → LwpEdit m k (f k)) → LwpEdits m l k
      → LwpEdits m l (cond b (f k) k)
  edited-if true f l k e edits = lwp.then_edit edits (e refl)
  edited-if false f l k e edits = edits

  directed-edits : directs m ≡ true → Edits directed
  unfolding Edits directed with_directive
  directed-edits it l =
      choice (LwpEdits m l) (has_event_stop l) _ _ (λ stands. lwp.as_it_is)
      (λ goes_on. one-edit l (with_directive l) (lwp.directs_it it))

-- ---- PCRUN on an lwp

module _ (flags : ℕ) where
  abbrev Runs : TracedLwp → TracedLwp → Type 0
  Runs l k = LwpEdits (message.Run flags) l k

  cleared-edits : (l k : TracedLwp) → Runs l k → Runs l (with_cleared flags k)
  unfolding with_cleared
  cleared-edits l k edits =
      edited-if (message.Run flags) (has_flags flags clear_fault) without_fault l
      (if_flag flags clear_signal without_current k) (λ is. lwp.drops_fault is)
      (edited-if (message.Run flags) (has_flags flags clear_signal) without_current l k
      (λ is. lwp.drops_signal is) edits)

  aborted-edits : (stop : Option Stop) (l k : TracedLwp) → Runs l k → Runs l (with_aborted flags stop k)
  unfolding with_aborted
  aborted-edits stop l k edits =
      choice (Runs l) (has_flags flags abort_call) _ _
      (λ is. edited-if (message.Run flags) (is_entry_stop stop || is_asleep k.phase) with_abort l k
      (λ stands. lwp.aborts is) edits) (λ other. edits)

  run_lwp-edits : Edits (message.Run flags) (run_lwp flags)
  unfolding Edits run_lwp
  run_lwp-edits l =
      let run = message.Run flags in
      let cleared = cleared-edits l (let_go l) (one-edit run l (let_go l) lwp.lets_go) in
      let marked =
      edited-if run (has_flags flags single_step) with_step l (with_cleared flags (let_go l))
      (λ is. lwp.steps is) cleared in
      edited-if run (has_flags flags stop_again) with_directive l _ (λ is. lwp.directs_it refl)
      (aborted-edits l.control.stop l _ marked)

  flags_on-edits : Edits (message.Run flags) (with_flags_on flags)
  unfolding Edits with_flags_on
  flags_on-edits l = aborted-edits l.control.stop l (with_cleared flags l) (cleared-edits l l lwp.as_it_is)

  undirected-edits : Edits (message.Run flags) without_directive
  unfolding Edits
  undirected-edits l = one-edit (message.Run flags) l (without_directive l) lwp.undirects

  request-edits : Edits (message.Run flags) with_request
  unfolding Edits with_request
  request-edits l =
      choice (Runs l) (has_event_stop l) _ _ (λ stands. one-edit (message.Run flags) l _ (lwp.requests stands))
      (λ goes_on. lwp.as_it_is)

  end_request-edits : Edits (message.Run flags) without_request
  unfolding Edits without_request
  end_request-edits l =
      choice (Runs l) (was_requested l.control.stop) _ _
      (λ requested. one-edit (message.Run flags) l _ (lwp.ends_request requested)) (λ other. lwp.as_it_is)

-- ---- PCRUN on a process

module _ (flags : ℕ) (tail : List ℕ) (x : TracedProcess) where
  abbrev RunsTo : TracedProcess → Type 0
  RunsTo y = ProcessEdits (message.Run flags) tail x y

  representative-edits : (o : Option (ℕ × TracedLwp))
      → RunsTo (record x { lwps = with_representative_run flags o x.lwps })
  unfolding Edits with_lwp
  representative-edits None =
      process.then_edit process.as_it_is (process.each_lwp without_directive (undirected-edits flags))
  representative-edits (Some r) =
      process.then_edit
      (process.then_edit
      (process.then_edit process.as_it_is (process.one_lwp r.0 (with_flags_on flags) (flags_on-edits flags)))
      (process.each_lwp without_directive (undirected-edits flags)))
      (process.one_lwp r.0 with_request (request-edits flags))

  all_run-edits : RunsTo (with_all_run flags x)
  unfolding Edits with_all_run if_all_requested
  all_run-edits =
      let run = representative-edits (representative x) in
      let lwps = with_representative_run flags (representative x) x.lwps in
      choice (λ ls. RunsTo (record x { lwps = ls })) (list_all (shows_run x.job_stop) lwps) _ _
      (λ all. process.then_edit run (process.each_lwp without_request (end_request-edits flags))) (λ some. run)

  one_run-edits : (o : Option (ℕ × TracedLwp)) → RunsTo (with_one_run flags o x)
  unfolding Edits
  one_run-edits None = process.as_it_is
  one_run-edits (Some r) =
      process.then_edit process.as_it_is (process.one_lwp r.0 (run_lwp flags) (run_lwp-edits flags))

  pub run-edits : ProcessEdits (message.Run flags) tail x (with_run flags x)
  unfolding with_run
  run-edits = choice RunsTo (runs_one flags) _ _ (λ one. one_run-edits (representative x)) (λ all. all_run-edits)

-- ---- the rows

module _ (s : TracedSystem) (pid : ℕ) (p : TracedProcess) (tail : List ℕ) (len : ℕ) where
  abbrev Made : Message → Controlled → Type 0
  Made m c = MessageAnswer s pid p tail len m c

  one-process : (m : Message) (f : TracedProcess → TracedProcess) → is_used_up m ≡ true → ProcessEdit m tail p (f p)
      → Made m (with_process_changed s pid p len f)
  one-process m f used e = answer.uses_up used (edit.a_process f (process.then_edit process.as_it_is e))

  an-lwp : (m : Message) (id : ℕ) (f : TracedLwp → TracedLwp) → is_used_up m ≡ true → Edits m f
      → Made m (with_process_changed s pid p len (with_lwp id f))
  unfolding Edits
  an-lwp m id f used edits = one-process m (with_lwp id f) used (process.one_lwp id f edits)

  on_lwp-made : (m : Message) (f : TracedLwp → TracedLwp) → is_used_up m ≡ true → Edits m f
      → (o : Option (ℕ × TracedLwp)) → Made m (on_found s pid p len f o)
  on_lwp-made m f used edits None = answer.uses_up used edit.nothing
  on_lwp-made m f used edits (Some e) = an-lwp m e.0 f used edits

  on_stopped-made : (m : Message) (f : TracedLwp → TracedLwp) → is_used_up m ≡ true → MessageRefusal m Busy
      → Edits m f → (o : Option (ℕ × TracedLwp)) → Made m (on_stopped_found s pid p len f o)
  on_stopped-made m f used busy edits None = answer.refuses busy
  on_stopped-made m f used busy edits (Some e) =
      choice (Made m) (has_event_stop e.1) _ _ (λ stands. an-lwp m e.0 f used edits)
      (λ goes_on. answer.refuses busy)

  set-made : (m : Message) (f : TracedControl → TracedControl) → is_used_up m ≡ true
      → ControlEdit m p.control (f p.control) → Made m (with_set s pid p len f)
  unfolding with_control
  set-made m f used e = one-process m (with_control f) used (process.control_is e)

  directed-edit : (m : Message) → directs m ≡ true → (aim : Aim)
      → MessageEdit s pid p m tail (with_aim_directed s pid p aim)
  unfolding with_aim_directed with_all_directed Edits
  directed-edit m it (at_lwp id) =
      edit.a_process (with_lwp id directed)
      (process.then_edit process.as_it_is (process.one_lwp id directed (directed-edits m it)))
  directed-edit m it at_process =
      edit.a_process with_all_directed
      (process.then_edit process.as_it_is (process.each_lwp directed (directed-edits m it)))

  run_found-made : (flags : ℕ) (o : Option (ℕ × TracedLwp)) → Made (message.Run flags) (run_found s pid p flags len o)
  run_found-made flags None = answer.refuses answer.run_busy
  run_found-made flags (Some e) =
      choice (Made (message.Run flags)) (lwp_run_refused p e.0 e.1) _ _ (λ no_run. answer.refuses answer.run_busy)
      (λ run. an-lwp (message.Run flags) e.0 (run_lwp flags) refl (run_lwp-edits flags))

  run-made : (flags : ℕ) (aim : Aim) → Made (message.Run flags) (run_answer s pid p aim flags len)
  unfolding run_answer
  run-made flags (at_lwp id) = run_found-made flags (found_at s pid p id (lwp_of p id))
  run-made flags at_process =
      choice (Made (message.Run flags)) (run_refused p) _ _ (λ no_run. answer.refuses answer.run_busy)
      (λ run. answer.uses_up refl (edit.a_process (with_run flags) (run-edits flags tail p)))

  signal_set-edits : (number : ℕ) → Edits (message.Ssig number) (with_signal_set (signal_of_number number))
  unfolding Edits with_signal_set
  signal_set-edits number l = by (signal_of_number number) refl
    where
      by : (o : Option Sig) → signal_of_number number ≡ o → LwpEdits (message.Ssig number) l (with_signal_set o l)
      by None is =
          one-edit (message.Ssig number) l (without_current l)
          (lwp.drops_signal (ap (λ (o : Option Sig). is_none o) is))
      by (Some g) is = one-edit (message.Ssig number) l (with_signal_set (Some g) l) (lwp.signal_is is)

  ssig-made : (number : ℕ) (aim : Aim) → Made (message.Ssig number) (ssig_answer s pid p aim number len)
  unfolding ssig_answer killed
  ssig-made number aim =
      choice (Made (message.Ssig number)) (is_kill_of s pid p (signal_of_number number)) _ _
      (λ kill. answer.uses_up refl edit.an_end)
      (λ other. on_lwp-made (message.Ssig number) (with_signal_set (signal_of_number number)) refl
      (signal_set-edits number) (aimed_lwp s pid p aim))

  aimed-room : (aim : Aim) (g : Sig) → has_room g (pending_at s pid p aim) ≡ true
      → HasRoomIn p g (target_of_aim s pid p aim)
  aimed-room at_process g room = room
  aimed-room (at_lwp id) g room = λ l there.
      ap (λ (o : Option TracedLwp). has_room g (pending_of_found s pid p o)) (sym there) ∙ room

  kill-made : (number : ℕ) (aim : Aim) (o : Option Sig) → signal_of_number number ≡ o
      → Made (message.Kill number) (kill_by s pid p aim len o)
  kill-made number aim None is = answer.uses_up refl edit.nothing
  kill-made number aim (Some g) is =
      choice (Made (message.Kill number)) (has_room g (pending_at s pid p aim)) _ _
      (λ room. answer.uses_up refl (edit.a_signal (target_of_aim s pid p aim) g is (aimed-room aim g room)))
      (λ full. answer.refuses answer.kill_full)

  unkill-made : (number : ℕ) (aim : Aim) (o : Option Sig) → signal_of_number number ≡ o
      → Made (message.Unkill number) (unkill_by s pid p aim len o)
  unfolding Edits process_without_one
  unkill-made number (at_lwp id) None is = answer.uses_up refl edit.nothing
  unkill-made number at_process None is = answer.uses_up refl edit.nothing
  unkill-made number (at_lwp id) (Some g) is =
      an-lwp (message.Unkill number) id (lwp_without_one g) refl
      (λ l. one-edit (message.Unkill number) l (lwp_without_one g l) (lwp.takes_back is))
  unkill-made number at_process (Some g) is =
      one-process (message.Unkill number) (process_without_one s pid p g) refl (process.takes_back is)

  watch-made : (at size flags : ℕ) → Made (message.Watch at size flags) (watch_answer s pid p at size flags len)
  unfolding watch_answer
  watch-made at size flags =
      let watch = message.Watch at size flags in
      let areas = p.control.areas in
      choice (Made watch) (eqb flags 0) _ _
      (λ clear. set-made watch (with_areas (without_area at areas)) refl process.unwatches) (λ some.
      choice (Made watch) (is_taken at size areas) _ _ (λ taken. answer.refuses answer.watch_taken) (λ free.
      choice (Made watch) (leb area_limit (length areas)) _ _ (λ full. answer.refuses answer.watch_full)
      (λ room. set-made watch (with_areas (with_area (record { at = at; size = size; flags = flags }) areas)) refl
      (process.watches some free (leb-false area_limit (length areas) room)))))

  agent-made : (regs : List ℕ) → Made (message.Agent regs) (agent_answer s pid p regs len)
  unfolding agent_answer
  agent-made regs =
      let agent = message.Agent regs in
      choice (Made agent) (has_agent p || not (list_all (lets_agent p.job_stop) p.lwps)) _ _
      (λ busy. answer.refuses answer.agent_busy) (λ idle.
      choice (Made agent) (leb lwp_limit (length p.lwps)) _ _ (λ full. answer.refuses answer.agent_full)
      (λ room. one-process agent (with_agent regs) refl
      (process.gets_agent (or_parts (has_agent p) (not (list_all (lets_agent p.job_stop) p.lwps)) idle).0
      (leb-false lwp_limit (length p.lwps) room))))

  read-made : (at size : ℕ) (r : Result (List ℕ) BadByte) → mapped_bytes s pid p at size ≡ r
      → Made (message.Read at size) (read_of s pid p r)
  read-made at size (Err bad) is = answer.refuses answer.read_unmapped
  read-made at size (Ok bytes) is = answer.reads is

  write-made : (at size : ℕ) → p.borrower ≡ None → Made (message.Write at size) (write_answer s pid p at tail len)
  unfolding write_answer
  write-made at size own =
      choice (Made (message.Write at size)) (is_ok (bytes_for 0 p.space at (length tail))) _ _
      (λ mapped. one-process (message.Write at size) (with_space (with_bytes at tail p.space)) refl
      (process.is_written own mapped)) (λ hole. answer.refuses answer.write_unmapped)

  own-made : (m : Message) (c : Controlled) → MessageRefusal m Busy → (p.borrower ≡ None → Made m c)
      → Made m (unless_lent s pid p c)
  own-made m c busy made = by p.borrower refl
    where
      by : (o : Option ℕ) → p.borrower ≡ o → Made m (cond (is_some o) (refused s Busy) c)
      by None own = made own
      by (Some child) lent = answer.refuses busy

  by-one : (m : Message) (f : TracedLwp → TracedLwp) → ((l : TracedLwp) → LwpEdit m l (f l)) → Edits m f
  unfolding Edits
  by-one m f e l = one-edit m l (f l) (e l)

  pub message-answered : (aim : Aim) (m : Message)
      → MessageAnswer s pid p tail len m (message_answer s pid p aim m tail len)
  unfolding message_answer kill_answer unkill_answer read_answer
  message-answered aim message.Stop = answer.goes_on refl (directed-edit message.Stop refl aim)
  message-answered aim message.Dstop = answer.uses_up refl (directed-edit message.Dstop refl aim)
  message-answered aim message.Wstop = answer.goes_on refl edit.nothing
  message-answered aim (message.Twstop ms) = answer.goes_on refl edit.nothing
  message-answered aim (message.Run flags) = run-made flags aim
  message-answered aim message.Csig =
      on_lwp-made message.Csig without_current refl (by-one _ _ (λ l. lwp.drops_signal refl)) (aimed_lwp s pid p aim)
  message-answered aim message.Cfault =
      on_lwp-made message.Cfault without_fault refl (by-one _ _ (λ l. lwp.drops_fault refl)) (aimed_lwp s pid p aim)
  message-answered aim (message.Ssig number) = ssig-made number aim
  message-answered aim (message.Kill number) = kill-made number aim (signal_of_number number) refl
  message-answered aim (message.Unkill number) = unkill-made number aim (signal_of_number number) refl
  message-answered aim (message.Shold signals) =
      on_lwp-made (message.Shold signals) (with_held_set signals) refl (by-one _ _ (λ l. lwp.holds))
      (aimed_lwp s pid p aim)
  message-answered aim (message.Strace set) = set-made (message.Strace set) (tracing_signals set) refl process.signals
  message-answered aim (message.Sfault set) = set-made (message.Sfault set) (tracing_faults set) refl process.faults
  message-answered aim (message.Sentry set) = set-made (message.Sentry set) (tracing_entries set) refl process.entries
  message-answered aim (message.Sexit set) = set-made (message.Sexit set) (tracing_exits set) refl process.exits
  message-answered aim (message.Set set) = set-made (message.Set set) (with_modes set) refl process.modes
  message-answered aim (message.Unset set) = set-made (message.Unset set) (without_modes set) refl process.fewer_modes
  message-answered aim (message.Sreg regs) =
      on_stopped-made (message.Sreg regs) (with_registers regs) refl answer.registers_busy
      (by-one _ _ (λ l. lwp.registers_are)) (aimed_lwp s pid p aim)
  message-answered aim (message.Svaddr pc) =
      on_stopped-made (message.Svaddr pc) (with_address pc) refl answer.address_busy
      (by-one _ _ (λ l. lwp.goes_to)) (aimed_lwp s pid p aim)
  message-answered aim (message.Watch at size flags) =
      own-made (message.Watch at size flags) _ answer.watch_busy (λ own. watch-made at size flags)
  message-answered aim (message.Agent regs) =
      own-made (message.Agent regs) _ answer.agent_busy (λ own. agent-made regs)
  message-answered aim (message.Read at size) = read-made at size (mapped_bytes s pid p at size) refl
  message-answered aim (message.Write at size) =
      own-made (message.Write at size) _ answer.write_busy (write-made at size)

  -- what it makes of the system, whatever it replies
  answer-edit : (m : Message) (c : Controlled) → Made m c → MessageEdit s pid p m tail c.system
  answer-edit m c (answer.refuses with_errno) = edit.nothing
  answer-edit m c (answer.uses_up used e) = e
  answer-edit m c (answer.goes_on waiting e) = e
  answer-edit m c (answer.reads mapped) = edit.nothing

  pub message-edit : (aim : Aim) (m : Message)
      → MessageEdit s pid p m tail (message_answer s pid p aim m tail len).system
  message-edit aim m = answer-edit m (message_answer s pid p aim m tail len) (message-answered aim m)

-- ---- a process that has lent its memory

module _ (s : TracedSystem) (pid child : ℕ) (p : TracedProcess) (lent : p.borrower ≡ Some child) where
  lent-refused : (answer : Controlled) → unless_lent s pid p answer ≡ refused s Busy
  lent-refused answer = rw lent refl

  pub watch-refused : (aim : Aim) (at size flags len : ℕ) (tail : List ℕ)
      → message_answer s pid p aim (message.Watch at size flags) tail len ≡ refused s Busy
  unfolding message_answer
  watch-refused aim at size flags len tail = lent-refused _

  pub agent-refused : (aim : Aim) (len : ℕ) (regs tail : List ℕ)
      → message_answer s pid p aim (message.Agent regs) tail len ≡ refused s Busy
  unfolding message_answer
  agent-refused aim len regs tail = lent-refused _

  pub write-refused : (aim : Aim) (at size len : ℕ) (tail : List ℕ)
      → message_answer s pid p aim (message.Write at size) tail len ≡ refused s Busy
  unfolding message_answer
  write-refused aim at size len tail = lent-refused _
