use Rattle.std.proofs.Common.{◌≡◌, ◌≢◌, ◌||◌, ◌++◌, ℕ, Bool, true, false, cond, List, [], Option, Some, None, Ok, Err, Result, is_some, is_ok, option_map, refl, sym, subst, ap, ◌∙◌}
use Rattle.std.proofs.lemmas.Option.{none-some, same_Some}
use Rattle.pr_model.specs.Changes.{all_changed}
use Rattle.pr_model.specs.LwpTurns.{settled, with_counted}
use Rattle.pr_model.specs.Machines.{traced}
use Rattle.pr_model.specs.MemoryCalls.{can_write}
use Rattle.pr_model.specs.Moves.{moved}
use Rattle.pr_model.specs.Points.{after_meeting, is_traced, stopped_at, with_others_directed, with_stop_at}
use Rattle.pr_model.specs.Registers.{moved_on}
use Rattle.pr_model.specs.Rows.{Row}
use Rattle.pr_model.specs.State.{TracedControl, TracedLwp, TracedProcess, TracedSystem, live_process, lwp_of, with_lwp, with_lwp_of, with_process}
use Rattle.pr_model.specs.Stops.{directed, has_event_stop, with_all_directed}
use Rattle.pr_model.specs.Transitions.{after_transition}
use Rattle.pr_model.specs.declared.events.Did.{Did}
use Rattle.pr_model.specs.declared.events.Res.{Res}
use Rattle.pr_model.specs.declared.events.Res.TheVariants.{Error, Value}
use Rattle.pr_model.specs.declared.lwps.Current.{Current}
use Rattle.pr_model.specs.declared.lwps.Phase.TheVariants as phase
use Rattle.pr_model.specs.declared.stops.Point.{Point}
use Rattle.pr_model.specs.declared.stops.Point.TheVariants.{Exit, Entry, Signal}
use Rattle.pr_num.proofs.ByIdLaws.{under-change_under, under-change_under_other, under-map_each}
use Rattle.pr_num.specs.Agents.{agent_id}
use Rattle.pr_num.specs.Control.{async_mode, has_flags, prot_exec}
use Rattle.pr_num.specs.Files.{Descriptors, FileTable}
use Rattle.pr_num.specs.Layout.{stack_base, text_base}
use Rattle.pr_num.specs.Limits.{all_signals}
use Rattle.pr_num.specs.Signals.{holdable_word, signal_number}
use Rattle.pr_num.specs.Spaces.{Space, bytes_for}
use Rattle.pr_num.specs.Words.{word_bytes}
use Rattle.pr_num.specs.Sets.{has_number, union_word, with_number}
use Rattle.pr_num.specs.Syscalls.{syscall_number}
use Rattle.pr_num.specs.ById.{under}
use Rattle.pr_num.specs.declared.errnos.Errno.{Errno}
use Rattle.pr_num.specs.declared.mappings.BadByte.{BadByte}
use Rattle.pr_num.proofs.SetLemmas.{has_number-zero}
use Rattle.pr_parts.specs.FileCalls.{described}
use Rattle.pr_parts.specs.declared.files.FileNo.{FileNo}
use Rattle.pr_parts.specs.declared.files.Stat.{Stat}
use Rattle.pr_num.specs.declared.signals.Sig.{Sig}
use Rattle.pr_num.specs.declared.signals.Sig.TheVariants as sig
use Rattle.pr_num.specs.declared.syscalls.Sysno.{Sysno}
use Rattle.pr_num.specs.declared.syscalls.Sysno.TheVariants.{Fstat}
use Rattle.pr_probe.specs.AgentCode.{agent_registers, code_size, planted}
use Rattle.pr_probe.specs.TracedSets.{agent_sets}
use Rattle.pr_truss_laws.proofs.Machine.StillLemmas.{live-changed}
use Rattle.pr_truss_laws.specs.Stills.{will_stop}

-- ---- what a row makes of the process of its lwp

meeting-ended : (point : Option Point) (id : ℕ) (x : TracedProcess) → (after_meeting point id x).ended ≡ x.ended
unfolding after_meeting with_stop_at with_others_directed with_lwp with_all_directed
meeting-ended None id x = refl
meeting-ended (Some pt) id x =
    elim (is_traced x.control pt) as (λ b. (cond b (with_stop_at pt id x) x).ended ≡ x.ended) [
      | true ↦ elim (has_flags x.control.modes async_mode) as
          (λ b. (cond b (with_lwp id (stopped_at pt) x) (with_all_directed (with_lwp id (stopped_at pt) x))).ended
          ≡ x.ended) [ true ↦ refl | false ↦ refl ]
      | false ↦ refl
    ]

module _ (s : TracedSystem) (pid : ℕ) (p : TracedProcess) (id : ℕ) (l : TracedLwp) where
  -- the process after a row that ends nothing, of what its changes make of it
  abbrev pub turned : Row → TracedProcess → TracedProcess
  turned row x =
      after_meeting row.point id (with_counted row.did row.begun (with_lwp id (moved traced row.transition.move) x))

  pub settled-live : (row : Row) (x : TracedProcess) → row.transition.ending ≡ None
      → live_process (all_changed traced pid p id l row.transition.changes s) pid ≡ Some x
      → live_process (settled s pid p id l row).system pid ≡ Some (turned row x)
  unfolding settled after_transition with_lwp_of with_lwp with_counted
  settled-live row x ends made =
      let changed_system : TracedSystem = all_changed traced pid p id l row.transition.changes s in
      let move = with_lwp id (moved traced row.transition.move) in
      let moved_system : TracedSystem = with_process pid move changed_system in
      let one = live-changed changed_system pid move x made refl in
      let two = live-changed moved_system pid (with_counted row.did row.begun) (move x) one refl in
      rw ends (live-changed (with_process pid (with_counted row.did row.begun) moved_system) pid
      (after_meeting row.point id) (with_counted row.did row.begun (move x)) two
      (meeting-ended row.point id (with_counted row.did row.begun (move x))))

-- ---- the agent, and what it needs

-- the registers with which it asks for a descriptor
abbrev pub asks : ℕ → List ℕ
asks d = agent_registers d text_base

-- SIGSTOP is its current signal, or none is
abbrev pub IsUnheld : Option Current → Type 0
IsUnheld None = Unit {0}
IsUnheld (Some c) = c.signal ≡ sig.Stop

-- An agent holds every signal that can be held, nothing is asked of it but its stop, and it goes on with no mark.
pub record IsAgent (k : TracedLwp) : Type 0 where
  pub held : k.held ≡ holdable_word all_signals
  pub goes : k.suspended ≡ false
  pub not_directed : k.control.directed ≡ false
  pub no_step : k.control.step ≡ false
  pub no_abort : k.control.abort ≡ false
  pub current : IsUnheld k.current

-- where it is while it runs: on its way out of a call, at its code, and at its call
pub data Position (d : ℕ) (k : TracedLwp) : Type 0 where
  leaving : (call : Sysno) (args : List ℕ) (result : Res) → k.phase ≡ phase.Exiting call args result
      → k.regs ≡ asks d → Position d k
  in_code : k.phase ≡ phase.User → k.regs ≡ asks d → Position d k
  calling : k.phase ≡ phase.Entered Fstat → k.regs ≡ moved_on (asks d) → Position d k

-- what is so where the agent's code can be fetched, and where it is planted
abbrev pub IsFetchable : Result (List ℕ) BadByte → Type 0
IsFetchable r = is_ok r ≡ true

abbrev pub IsPlanted : Result (List ℕ) BadByte → Type 0
IsPlanted r = r ≡ Ok planted

-- Its process traces these exits alone, watches nothing, has its memory to itself with room for its answer and
-- something that is so of its code, and each other lwp stands still or will stop.
pub record IsReadyFor (exit_set : ℕ) (C : Result (List ℕ) BadByte → Type 0) (p : TracedProcess) : Type 0 where
  pub no_signals : p.control.traced_signals ≡ 0
  pub no_entries : p.control.traced_entries ≡ 0
  pub exits : p.control.traced_exits ≡ exit_set
  pub unwatched : p.control.areas ≡ []
  pub own : p.borrower ≡ None
  pub code : C (bytes_for prot_exec p.space text_base code_size)
  pub stack : can_write p.space stack_base 24 ≡ true
  pub others : (id : ℕ) (k : TracedLwp) → id ≢ agent_id → lwp_of p id ≡ Some k → will_stop k ≡ true

-- so it is while descriptors are asked for: the exit of fstat(2) alone is traced
abbrev pub IsReady : (Result (List ℕ) BadByte → Type 0) → TracedProcess → Type 0
IsReady C p = IsReadyFor agent_sets.exits C p

-- ---- what it was answered

-- the three words of fstat(2)
abbrev pub stat_words : Stat → List ℕ
stat_words stat = word_bytes stat.kind ++ word_bytes stat.size ++ word_bytes stat.offset

-- a descriptor that is not open gives an errno; of one that is open the words stand on the stack
abbrev pub Tells : Space → Res → Result Stat FileNo → Type 0
Tells space result (Err why) = (e : Errno) × (result ≡ Error e)
Tells space result (Ok stat) = (result ≡ Value 0) × (bytes_for 0 space stack_base 24 ≡ Ok (stat_words stat))

-- it stands on the exit of its call, and was answered in a system with these files
pub record IsAnswered (d : ℕ) (files : FileTable) (fds : Descriptors) (space : Space) (k : TracedLwp)
    : Type 0 where
  pub stands : has_event_stop k ≡ true
  pub args : List ℕ
  pub result : Res
  pub way_out : k.phase ≡ phase.Exiting Fstat args result
  pub tells : Tells space result (described files fds d)

-- ---- an lwp of a process that goes on

-- a process that is as another one but for its memory, its lwps, its signals and its job stop
pub record IsLike (p x : TracedProcess) : Type 0 where
  pub control : x.control ≡ p.control
  pub fds : x.fds ≡ p.fds
  pub borrower : x.borrower ≡ p.borrower
  pub lwps : x.lwps ≡ p.lwps
  pub code : bytes_for prot_exec x.space text_base code_size ≡ bytes_for prot_exec p.space text_base code_size
  pub stack : can_write x.space stack_base 24 ≡ can_write p.space stack_base 24

module _ (f : TracedLwp → TracedLwp) (did : Did) (begun : Bool) (p x : TracedProcess) (like : IsLike p x) where
  abbrev pub later : TracedProcess
  later = with_counted did begun (with_lwp agent_id f x)

  pub later-ready : {exit_set : ℕ} (C : Result (List ℕ) BadByte → Type 0) → IsReadyFor exit_set C p
      → IsReadyFor exit_set C later
  unfolding with_counted with_lwp
  later-ready C ready = record {
    no_signals = ap (λ (c : TracedControl). c.traced_signals) like.control ∙ ready.no_signals;
    no_entries = ap (λ (c : TracedControl). c.traced_entries) like.control ∙ ready.no_entries;
    exits = ap (λ (c : TracedControl). c.traced_exits) like.control ∙ ready.exits;
    unwatched = ap (λ (c : TracedControl). c.areas) like.control ∙ ready.unwatched;
    own = like.borrower ∙ ready.own;
    code = subst C (sym like.code) ready.code;
    stack = like.stack ∙ ready.stack;
    others = λ id k apart there.
        ready.others id k apart
        (ap (under id) (sym like.lwps)
        ∙ sym (under-change_under_other agent_id id f (λ same. apart (sym same)) x.lwps) ∙ there);
  }

  pub later-fds : later.fds ≡ p.fds
  unfolding with_counted with_lwp
  later-fds = like.fds

  pub later-space : later.space ≡ x.space
  unfolding with_counted with_lwp
  later-space = refl

  pub later-agent : (l : TracedLwp) → lwp_of p agent_id ≡ Some l → lwp_of later agent_id ≡ Some (f l)
  unfolding with_counted with_lwp
  later-agent l there =
      under-change_under agent_id f x.lwps
      ∙ ap (λ (es : List (ℕ × TracedLwp)). option_map f (under agent_id es)) like.lwps ∙ ap (option_map f) there

  later-control : later.control.traced_signals ≡ x.control.traced_signals
  unfolding with_counted with_lwp
  later-control = refl

  -- a signal that is taken is not traced
  pub later-signal : {exit_set : ℕ} (C : Result (List ℕ) BadByte → Type 0) → IsReadyFor exit_set C p → (g : Sig)
      → after_meeting (Some (Signal g)) agent_id later ≡ later
  unfolding after_meeting is_traced
  later-signal C ready g =
      let none : later.control.traced_signals ≡ 0 =
      later-control ∙ ap (λ (c : TracedControl). c.traced_signals) like.control ∙ ready.no_signals in
      ap (λ (n : ℕ). cond (has_number n (signal_number g)) (with_stop_at (Signal g) agent_id later) later) none
      ∙ ap (λ (b : Bool). cond b (with_stop_at (Signal g) agent_id later) later) (has_number-zero (signal_number g))

  -- nor is the entry of its call
  pub later-entry : {exit_set : ℕ} (C : Result (List ℕ) BadByte → Type 0) → IsReadyFor exit_set C p
      → (call : Sysno)
      → after_meeting (Some (Entry call)) agent_id later ≡ later
  unfolding after_meeting is_traced with_counted with_lwp
  later-entry C ready call =
      let none : later.control.traced_entries ≡ 0 =
      ap (λ (c : TracedControl). c.traced_entries) like.control ∙ ready.no_entries in
      ap (λ (n : ℕ). cond (has_number n (syscall_number call)) (with_stop_at (Entry call) agent_id later) later) none
      ∙ ap (λ (b : Bool). cond b (with_stop_at (Entry call) agent_id later) later)
      (has_number-zero (syscall_number call))

-- ---- the stop at the exit of its call

directed-stops : (k : TracedLwp) → will_stop (directed k) ≡ true
unfolding directed
directed-stops k = by (is_some k.control.stop) refl
  where
    or-true : (a : Bool) → (a || true) ≡ true
    or-true true = refl
    or-true false = refl

    by : (b : Bool) → is_some k.control.stop ≡ b
        → will_stop (cond b k (record k { control = record k.control { directed = true } })) ≡ true
    by true is = rw is refl
    by false is = or-true (is_some k.control.stop || k.suspended)

-- every lwp is directed to stop, or stands on an event
pub directed-ready : (C : Result (List ℕ) BadByte → Type 0) (x : TracedProcess) → IsReady C x
    → IsReady C (with_all_directed x)
unfolding with_all_directed
directed-ready C x ready = record {
  no_signals = ready.no_signals;
  no_entries = ready.no_entries;
  exits = ready.exits;
  unwatched = ready.unwatched;
  own = ready.own;
  code = ready.code;
  stack = ready.stack;
  others = λ id k apart there. by id k (under id x.lwps) (sym (under-map_each id directed x.lwps) ∙ there);
}
  where
    by : (id : ℕ) (k : TracedLwp) (o : Option TracedLwp) → option_map directed o ≡ Some k → will_stop k ≡ true
    by id k None is = absurd (none-some k is)
    by id k (Some l) is = subst (λ (y : TracedLwp). will_stop y ≡ true) (same_Some (directed l) k is) (directed-stops l)

stopped-ready : (C : Result (List ℕ) BadByte → Type 0) (x : TracedProcess) (pt : Point) → IsReady C x
    → IsReady C (with_lwp agent_id (stopped_at pt) x)
unfolding with_lwp
stopped-ready C x pt ready = record {
  no_signals = ready.no_signals;
  no_entries = ready.no_entries;
  exits = ready.exits;
  unwatched = ready.unwatched;
  own = ready.own;
  code = ready.code;
  stack = ready.stack;
  others = λ id k apart there.
      ready.others id k apart
      (sym (under-change_under_other agent_id id (stopped_at pt) (λ same. apart (sym same)) x.lwps) ∙ there);
}

-- what is so of a process with the agent's stop is so of one of which others are directed too
module _ (C : Result (List ℕ) BadByte → Type 0) (x : TracedProcess) (l : TracedLwp) (there : lwp_of x agent_id ≡ Some l)
    (was : IsReady C x) where
  abbrev pub stopped : TracedLwp
  stopped = stopped_at (Exit Fstat) l

  abbrev pub at_exit : TracedProcess
  at_exit = after_meeting (Some (Exit Fstat)) agent_id x

  stops-here : lwp_of (with_lwp agent_id (stopped_at (Exit Fstat)) x) agent_id ≡ Some stopped
  unfolding with_lwp
  stops-here =
      under-change_under agent_id (stopped_at (Exit Fstat)) x.lwps ∙ ap (option_map (stopped_at (Exit Fstat))) there

  -- its stop keeps it from being directed
  not-again : directed stopped ≡ stopped
  unfolding directed stopped_at
  not-again = refl

  directed-here : lwp_of (with_all_directed (with_lwp agent_id (stopped_at (Exit Fstat)) x)) agent_id ≡ Some stopped
  unfolding with_all_directed
  directed-here =
      under-map_each agent_id directed (with_lwp agent_id (stopped_at (Exit Fstat)) x).lwps
      ∙ ap (option_map directed) stops-here ∙ ap (λ (k : TracedLwp). Some k) not-again

  pub record Stops (q : TracedProcess) : Type 0 where
    pub ready : IsReady C q
    pub agent : lwp_of q agent_id ≡ Some stopped
    pub fds : q.fds ≡ x.fds
    pub space : q.space ≡ x.space

  stops-alone : Stops (with_lwp agent_id (stopped_at (Exit Fstat)) x)
  unfolding with_lwp
  stops-alone =
      record { ready = stopped-ready C x (Exit Fstat) was; agent = stops-here; fds = refl; space = refl }

  stops-all : Stops (with_all_directed (with_lwp agent_id (stopped_at (Exit Fstat)) x))
  unfolding with_lwp with_all_directed
  stops-all = record {
    ready = directed-ready C (with_lwp agent_id (stopped_at (Exit Fstat)) x) (stopped-ready C x (Exit Fstat) was);
    agent = directed-here;
    fds = refl;
    space = refl;
  }

  is-met : has_number agent_sets.exits (syscall_number Fstat) ≡ true
  unfolding agent_sets has_number with_number union_word syscall_number
  is-met = refl

  pub stops-at : Stops at_exit
  unfolding after_meeting is_traced with_stop_at with_others_directed
  stops-at =
      let met : has_number x.control.traced_exits (syscall_number Fstat) ≡ true =
      ap (λ (n : ℕ). has_number n (syscall_number Fstat)) was.exits ∙ is-met in
      subst (λ (b : Bool). Stops (cond b (with_stop_at (Exit Fstat) agent_id x) x)) (sym met)
      (by (has_flags (with_lwp agent_id (stopped_at (Exit Fstat)) x).control.modes async_mode))
    where
      by : (b : Bool)
          → Stops (cond b (with_lwp agent_id (stopped_at (Exit Fstat)) x)
          (with_all_directed (with_lwp agent_id (stopped_at (Exit Fstat)) x)))
      by true = stops-alone
      by false = stops-all
