use Rattle.std.proofs.Common.{◌≡◌, ◌≢◌, ◌==◌, ◌||◌, ◌≤◌, ◌+◌, ℕ, zero, suc, Bool, true, false, not, cond, is_some, Some, Option, List, [], ◌∷◌, Ok, refl, sym, subst, ap, ◌∙◌, arith, inl, inr}
use Rattle.std.proofs.lemmas.Bool.{cases_Bool, false≢true, ne_eqb}
use Rattle.std.proofs.lemmas.Option.{none-some, same_Some}
use Rattle.std.specs.List.{All, count_by, list_all}
use Rattle.std.specs.Option.{option_map}
use Rattle.pr_line.specs.declared.options.Options.{Options}
use Rattle.pr_num.proofs.ByIdLaws.{All-under, under-map_each, under-without_id_other}
use Rattle.pr_num.specs.Agents.{agent_id}
use Rattle.pr_num.specs.ById.{IsRising, change_under, map_each, under, without_id}
use Rattle.pr_num.specs.Control.{async_mode, has_flags, klc_mode}
use Rattle.pr_num.specs.Messages.{bad_operand, encoded_length, first_message, in_columns, message_code, message_read, nth_word, one_word, operand_count, operands, spelling, tail_length, unpadded_length, with_tail}
use Rattle.pr_num.specs.Sets.{common_word}
use Rattle.pr_num.specs.Words.{word_bytes, word_of}
use Rattle.pr_num.specs.declared.errnos.Errno.TheVariants.{Busy}
use Rattle.pr_num.specs.declared.messages.Message.TheVariants as message
use Rattle.pr_laws.proofs.RunLemmas.{all-free, all-go_on, each-stays, no_flags, representative-stands, run-granted as not-refused}
use Rattle.pr_lawful.proofs.LawfulTurns.EndLemmas.{found-live}
use Rattle.pr_laws.specs.Runs.{IsFree, others_let_run, with_stop_kept}
use Rattle.pr_model.specs.Calls.{Answer, answer_to, controlled}
use Rattle.pr_model.specs.ControlMessages.{aim_of, decoded_answer, system_refusal, tail_of, targeted_answer}
use Rattle.pr_model.specs.FirstState.{system_process}
use Rattle.pr_model.specs.Handles.{handle_of}
use Rattle.pr_model.specs.Lawful.{IsLawfulSystem}
use Rattle.pr_model.specs.Lives.{bare_process}
use Rattle.pr_model.specs.Messages.{refused, run_answer, message_answer, with_process_changed}
use Rattle.pr_model.specs.Running.{found_stops_or_will, if_all_requested, let_go, run_refused, shows_run, with_all_run, with_flags_on, with_representative_run, with_request, with_run, without_directive, without_request}
use Rattle.pr_model.specs.State.{TracedLwp, TracedProcess, TracedState, TracedSystem, has_agent, live_process, lwp_of, process_of}
use Rattle.pr_model.specs.Stops.{has_event_stop, is_stopped, representative}
use Rattle.pr_model.specs.declared.calls.File.TheVariants.{Ctl}
use Rattle.pr_model.specs.declared.calls.Reply.TheVariants as reply
use Rattle.pr_model.specs.declared.handles.Held.{Held}
use Rattle.pr_truss.specs.NextCalls.{run_call}
use Rattle.pr_truss.specs.Replies.{answer_of}
use Rattle.pr_truss.specs.declared.replies.Answer.TheVariants.{Accepted}
use Rattle.pr_truss_laws.proofs.EventStops.BridgeLemmas.{mapped-some}
use Rattle.pr_truss_laws.proofs.EventStops.OneEventLemmas.{all-others}
use Rattle.pr_truss_laws.proofs.Machine.StillLemmas.{live-changed}
use Rattle.pr_truss_laws.proofs.Machine.TakenLemmas.{ctl-is, process-aim}
use Rattle.pr_truss_laws.specs.Stills.{IsFrozen, IsQuiet, stands_still}
use Rattle.pr_report_laws.proofs.Invariant.Positions.{IsTracedBy, Waits, has_met, met_in}
use Rattle.pr_report_laws.proofs.Machine.ControlLaws.{refused-not, run-reads, some-mapped, taken}
use Rattle.pr_report_laws.proofs.Machine.StoppedLaws.{StandsFirst, count-changed, count-mapped, count-others, no-thing, none-counts, none-under, quiet-runs, shows-unmet, stopped-first, stopped-frozen, unmet-shows, waits-first}

-- PCRUN of a process that is stopped on an event of interest: the event of its representative is over, and where that
-- was the last one of the process, all its lwps go on.

-- whether an lwp under its id stands on an event that it met
abbrev met : ℕ × TracedLwp → Bool
met e = has_met e.1

-- ---- what the process is then

-- the lwps with their directives cleared, and the stop of one a requested one
abbrev asked : ℕ → List (ℕ × TracedLwp) → List (ℕ × TracedLwp)
asked id ls = change_under id with_request (map_each without_directive ls)

unchanged : (id : ℕ) (ls : List (ℕ × TracedLwp)) → change_under id (with_flags_on 0) ls ≡ ls
unchanged id [] = refl
unchanged id (e ∷ es) =
    elim (e.0 == id) as
    (λ b. cond b ((e.0, with_flags_on 0 e.1) ∷ es) (e ∷ change_under id (with_flags_on 0) es) ≡ e ∷ es)
    [ true ↦ ap (λ l. (e.0, l) ∷ es) (no_flags e.1) | false ↦ ap (λ ds. e ∷ ds) (unchanged id es) ]

run-lwps : (p : TracedProcess) (r : ℕ × TracedLwp) → representative p ≡ Some r
    → (with_run 0 p).lwps ≡ if_all_requested p.job_stop (asked r.0 p.lwps)
unfolding with_run with_all_run has_flags common_word
run-lwps p r is =
    ap (λ o. if_all_requested p.job_stop (with_representative_run 0 o p.lwps)) is
    ∙ ap (λ ls. if_all_requested p.job_stop (change_under r.0 with_request (map_each without_directive ls)))
    (unchanged r.0 p.lwps)

pub run-control : (p : TracedProcess) → (with_run 0 p).control ≡ p.control
unfolding with_run with_all_run has_flags common_word
run-control p = refl

run-ended : (p : TracedProcess) → (with_run 0 p).ended ≡ p.ended
unfolding with_run with_all_run has_flags common_word
run-ended p = refl

requested-unmet : (id : ℕ) (l : TracedLwp) → met (id, with_request l) ≡ false
unfolding with_request
requested-unmet id l =
    elim (cases_Bool (has_event_stop l)) [
      | inl stands ↦ rw stands refl
      | inr not ↦ rw
          (not, no-thing l.control.stop not) refl
    ]

undirected-met : (e : ℕ × TracedLwp) → met (e.0, without_directive e.1) ≡ met e
unfolding without_directive
undirected-met e = refl

-- the stop of one lwp that met an event is a requested one now
asked-counts : (id n : ℕ) (l : TracedLwp) (ls : List (ℕ × TracedLwp)) → under id ls ≡ Some l → has_met l ≡ true
    → count_by met ls ≡ suc n → count_by met (asked id ls) ≡ n
asked-counts id n l ls there is counts =
    let mapped : under id (map_each without_directive ls) ≡ Some (without_directive l) =
    under-map_each id without_directive ls ∙ ap (option_map without_directive) there in
    let same = count-mapped met without_directive undirected-met ls in
    let whole = count-others met id (without_directive l) (map_each without_directive ls) mapped in
    let others =
    count-changed met id with_request (requested-unmet id) (map_each without_directive ls)
    (without_directive l) mapped in
    let own : cond {A = ℕ} (met (id, without_directive l)) 1 0 ≡ 1 =
    ap (λ b. cond {A = ℕ} b 1 0) (undirected-met (id, l) ∙ is) in
    omega arith

-- ---- the process as a whole

module _ (p : TracedProcess) (rises : IsRising p.lwps) (no_agent : has_agent p ≡ false)
    (stopped : is_stopped p ≡ true) where
  first : StandsFirst p
  first = stopped-first p stopped

  there : lwp_of p first.lwp.0 ≡ Some first.lwp.1
  there = representative-stands p first.lwp rises first.is

  frozen : IsFrozen p
  frozen = stopped-frozen p rises no_agent stopped

  -- how many other lwps met an event
  others : ℕ
  others = count_by met (without_id first.lwp.0 p.lwps)

  first-met : (n : ℕ) → met_in p ≡ suc n → has_met first.lwp.1 ≡ true
  first-met n counts =
      let g = waits-first p rises no_agent n (record { frozen = frozen; count = counts }) in
      ap (λ (e : ℕ × TracedLwp). has_met e.1) (same_Some first.lwp g.lwp (sym first.is ∙ g.is)) ∙ g.met

  split : met_in p ≡ cond (has_met first.lwp.1) 1 0 + others
  unfolding others
  split = count-others met first.lwp.0 first.lwp.1 p.lwps there

  split-met : (n : ℕ) → met_in p ≡ suc n → others ≡ n
  split-met n counts = let parts = rw (first-met n counts) at split in omega arith

  none-else : met_in p ≤ 1 → others ≡ 0
  none-else few = by (met_in p) refl
    where
      by : (n : ℕ) → met_in p ≡ n → others ≡ 0
      by zero counts = omega (arith, split)
      by (suc n) counts = let rest = split-met n counts in omega arith

  other-unmet : others ≡ 0 → (other : ℕ) (k : TracedLwp) → other ≢ first.lwp.0 → lwp_of p other ≡ Some k
      → has_met k ≡ false
  unfolding others
  other-unmet none other k differs at_other =
      none-under met other k (without_id first.lwp.0 p.lwps)
      (under-without_id_other first.lwp.0 other (λ same. differs (sym same)) p.lwps ∙ at_other) none

  others-run : others ≡ 0 → others_let_run p first.lwp.0 ≡ true
  others-run none =
      all-others (shows_run p.job_stop) 0 first.lwp.0 p.lwps rises
      (λ other k differs at_other. unmet-shows p.job_stop k other (frozen.each other k at_other)
      (other-unmet none other k differs at_other))

  others-wait : (n : ℕ) → others ≡ suc n → others_let_run p first.lwp.0 ≡ false
  unfolding others
  others-wait n some =
      elim (cases_Bool (others_let_run p first.lwp.0)) [
        | inl all ↦ absurd
            (clash (none-counts met (shows_run p.job_stop) (λ e. shows-unmet p.job_stop e.1 e.0)
            (without_id first.lwp.0 p.lwps) all))
        | inr not ↦ not
      ]
    where
      clash : count_by met (without_id first.lwp.0 p.lwps) ≡ 0 → ⊥
      clash none = omega arith

  free-quiet : All IsFree (with_run 0 p).lwps → IsQuiet (with_run 0 p)
  free-quiet all = record {
    each = λ id l at_id.
        let free = All-under IsFree id l (with_run 0 p).lwps all at_id in
        record { no_stop = no-thing l.control.stop free.no_stop; not_directed = free.no_directive };
  }

  -- One event at most: all lwps go on.
  pub run-quiet : met_in p ≤ 1 → IsQuiet (with_run 0 p)
  run-quiet few = free-quiet (all-free p first.lwp rises first.is first.stands (others-run (none-else few)))

  -- More events: the process stands still, and one event is over.
  run-frozen : (n : ℕ) → others ≡ suc n → IsFrozen (with_run 0 p)
  run-frozen n some = record {
    each = λ id k at_id.
        let m =
        mapped-some (with_stop_kept first.lwp.0 id) (lwp_of p id) k
        (sym (each-stays p first.lwp rises first.is first.stands (others-wait n some) id) ∙ at_id) in
        subst (λ (x : TracedLwp). stands_still x ≡ true) m.1.1 (kept-still id m.0 (frozen.each id m.0 m.1.0));
  }
    where
      kept-still : (id : ℕ) (l : TracedLwp) → stands_still l ≡ true
          → stands_still (with_stop_kept first.lwp.0 id l) ≡ true
      kept-still id l still =
          elim (cases_Bool (id == first.lwp.0)) [ inl here ↦ rw here refl | inr other ↦ rw other still ]

  run-counts : (n : ℕ) → met_in p ≡ suc (suc n) → met_in (with_run 0 p) ≡ suc n
  unfolding if_all_requested
  run-counts n counts =
      ap (count_by met) (run-lwps p first.lwp first.is)
      ∙ ap (λ b. count_by met
      (cond b (map_each without_request (asked first.lwp.0 p.lwps)) (asked first.lwp.0 p.lwps))) waits
      ∙ left
    where
      left : count_by met (asked first.lwp.0 p.lwps) ≡ suc n
      left = asked-counts first.lwp.0 (suc n) first.lwp.1 p.lwps there (first-met (suc n) counts) counts

      waits : list_all (shows_run p.job_stop) (asked first.lwp.0 p.lwps) ≡ false
      waits =
          elim (cases_Bool (list_all (shows_run p.job_stop) (asked first.lwp.0 p.lwps))) [
            | inl all ↦ absurd
                (clash (none-counts met (shows_run p.job_stop) (λ e. shows-unmet p.job_stop e.1 e.0)
                (asked first.lwp.0 p.lwps) all))
            | inr not ↦ not
          ]
        where
          clash : count_by met (asked first.lwp.0 p.lwps) ≡ 0 → ⊥
          clash none = omega (arith, left)

  pub run-waits : (n : ℕ) → met_in p ≡ suc (suc n) → Waits (with_run 0 p) (suc n)
  run-waits n counts = record { frozen = run-frozen n (split-met (suc n) counts); count = run-counts n counts }

  pub run-agent : has_agent (with_run 0 p) ≡ false
  run-agent =
      elim (cases_Bool (others_let_run p first.lwp.0)) [
        | inl all ↦ ap (λ (o : Option TracedLwp). is_some o)
            (all-go_on p first.lwp rises first.is first.stands all agent_id) ∙ some-mapped let_go (lwp_of p agent_id)
            ∙ no_agent
        | inr not ↦ ap (λ (o : Option TracedLwp). is_some o)
            (each-stays p first.lwp rises first.is first.stands not agent_id)
            ∙ some-mapped (with_stop_kept first.lwp.0 agent_id) (lwp_of p agent_id) ∙ no_agent
      ]

  pub run-traced : (o : Options) → IsTracedBy o p → IsTracedBy o (with_run 0 p)
  run-traced o t = record {
    signals = ap (λ c. c.traced_signals) (run-control p) ∙ t.signals;
    faults = ap (λ c. c.traced_faults) (run-control p) ∙ t.faults;
    entries = ap (λ c. c.traced_entries) (run-control p) ∙ t.entries;
    exits = ap (λ c. c.traced_exits) (run-control p) ∙ t.exits;
    directs = ap (λ c. has_flags c.modes async_mode) (run-control p) ∙ t.directs;
    spares = ap (λ c. has_flags c.modes klc_mode) (run-control p) ∙ t.spares;
    no_agent = run-agent;
  }

-- ---- the call of truss

first-run : first_message (spelling (message.Run 0) []) ≡ Ok (message.Run 0, 16)
unfolding first_message message_read message_code operands nth_word word_bytes word_of one_word in_columns bad_operand
    with_tail encoded_length unpadded_length operand_count tail_length
first-run = refl

-- the system process has no lwp that could stop
system-runs : is_stopped system_process ≡ false
unfolding system_process bare_process
system-runs = quiet-runs system_process refl (record { each = λ id l none. absurd (none-some l none) })

stopped-user : (s : TracedSystem) (pid : ℕ) (p : TracedProcess) → IsLawfulSystem s → live_process s pid ≡ Some p
    → is_stopped p ≡ true → pid ≢ 0
stopped-user s pid p lawful live stopped zero_pid =
    let there = (found-live s pid p live).0 in
    let same : p ≡ system_process =
    same_Some p system_process (sym there ∙ ap (process_of s) zero_pid ∙ lawful.first) in
    false≢true (sym system-runs ∙ ap is_stopped (sym same) ∙ stopped)

accepted-used : (len : ℕ) → answer_of (reply.Used len) ≡ Accepted
unfolding answer_of
accepted-used len = refl

agent-refuses : (p : TracedProcess) → has_agent p ≡ true → run_refused p ≡ true
unfolding run_refused
agent-refuses p agent = ap (λ b. b || not (found_stops_or_will (representative p))) agent

-- A process that was run, of which so many lwps stood on events that they met: with one at most it is quiet, else one
-- event is over. What is set on it stays.
pub record HasRun (o : Options) (p : TracedProcess) (n pid : ℕ) (s : TracedSystem) : Type 0 where
  pub process : TracedProcess
  pub live : live_process s pid ≡ Some process
  pub is : process ≡ with_run 0 p
  pub control : process.control ≡ p.control
  pub traced : IsTracedBy o process
  pub quiet : n ≤ 1 → IsQuiet process
  pub waits : (left : ℕ) → n ≡ suc (suc left) → Waits process (suc left)

module _ (s : TracedState) (k m : ℕ) (h : Held) (held : handle_of s.opens k m ≡ Some h) (control : h.file ≡ Ctl)
    (p : TracedProcess) (live : live_process s.system h.pid ≡ Some p) where
  run-is : (a : Answer) → answer_to s k (run_call m) ≡ Some a → answer_of a.reply ≡ Accepted
      → (len : ℕ) ×
      (a ≡ controlled s
      (cond (run_refused p) (refused s.system Busy) (with_process_changed s.system h.pid p len (with_run 0))))
  unfolding message_answer run_answer
  run-is a is accepted =
      let t = taken s k m h held control p live (spelling (message.Run 0) []) (message.Run 0) a run-reads is accepted in
      (t.len, t.is)

  -- It is not accepted where there is an agent.
  pub run-agent-refused : (a : Answer) → has_agent p ≡ true → answer_to s k (run_call m) ≡ Some a
      → answer_of a.reply ≢ Accepted
  run-agent-refused a agent is accepted =
      let t = run-is a is accepted in
      refused-not a s Busy (t.1
      ∙ ap (λ b. controlled s
      (cond b (refused s.system Busy) (with_process_changed s.system h.pid p t.0 (with_run 0))))
      (agent-refuses p agent)) accepted

  pub run-live : (a : Answer) → answer_to s k (run_call m) ≡ Some a → answer_of a.reply ≡ Accepted
      → live_process a.state.system h.pid ≡ Some (with_run 0 p)
  run-live a is accepted = let t = run-is a is accepted in by t.0 (run_refused p) t.1
    where
      by : (len : ℕ) (b : Bool)
          → a ≡ controlled s (cond b (refused s.system Busy) (with_process_changed s.system h.pid p len (with_run 0)))
          → live_process a.state.system h.pid ≡ Some (with_run 0 p)
      by len true it = absurd (refused-not a s Busy it accepted)
      by len false it =
          ap (λ (x : Answer). live_process x.state.system h.pid) it
          ∙ live-changed s.system h.pid (with_run 0) p live (run-ended p)

  pub run-accepted : (o : Options) (n : ℕ) (a : Answer) → IsRising p.lwps → IsTracedBy o p → Waits p n
      → is_stopped p ≡ true → answer_to s k (run_call m) ≡ Some a → answer_of a.reply ≡ Accepted
      → HasRun o p n h.pid a.state.system
  run-accepted o n a rises traced waits stopped is accepted = record {
    process = with_run 0 p;
    live = run-live a is accepted;
    is = refl;
    control = run-control p;
    traced = run-traced p rises traced.no_agent stopped o traced;
    quiet = λ few. run-quiet p rises traced.no_agent stopped (subst (λ i. i ≤ 1) (sym waits.count) few);
    waits = λ left more. run-waits p rises traced.no_agent stopped left (waits.count ∙ more);
  }

  -- It is accepted where the process is stopped on an event of interest and there is no agent.
  pub run-granted : (a : Answer) → IsLawfulSystem s.system → has_agent p ≡ false → is_stopped p ≡ true
      → answer_to s k (run_call m) ≡ Some a → answer_of a.reply ≡ Accepted
  unfolding message_answer run_answer
  run-granted a lawful no_agent stopped is =
      let f = stopped-first p stopped in
      let user = ne_eqb h.pid 0 (stopped-user s.system h.pid p lawful live stopped) in
      let bytes : List ℕ = spelling (message.Run 0) [] in
      ap (λ (x : Answer). answer_of x.reply)
      (ctl-is s k m h held control bytes a is
      ∙ ap (λ o. controlled s (targeted_answer s.system h o bytes)) live
      ∙ ap (λ r. controlled s (decoded_answer s.system h p bytes r)) first-run
      ∙ ap (λ b. controlled s
      (cond b (refused s.system (system_refusal (message.Run 0)))
      (message_answer s.system h.pid p (aim_of h) (message.Run 0) (tail_of (message.Run 0) bytes) 16))) user
      ∙ ap (λ x. controlled s (message_answer s.system h.pid p x (message.Run 0) (tail_of (message.Run 0) bytes) 16))
      (process-aim h control)
      ∙ ap (λ b. controlled s (cond b (refused s.system Busy) (with_process_changed s.system h.pid p 16 (with_run 0))))
      (not-refused p f.lwp no_agent f.is f.stands))
      ∙ accepted-used 16
