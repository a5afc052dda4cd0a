use Rattle.std.proofs.Common.{◌≡◌, ◌<◌, ◌-◌, ◌%◌, ◌^◌, ℕ, Bool, true, false, cond, is_some, Option, Some, None, refl, sym, subst, ap, ◌∙◌, arith}
use Rattle.std.proofs.lemmas.Bool.{false≢true}
use Rattle.std.proofs.lemmas.Nat.{and_le_r}
use Rattle.pr_line.specs.declared.options.Options.{Options}
use Rattle.pr_model.specs.Messages.{tracing_entries, tracing_exits, tracing_faults, tracing_signals, with_modes, without_modes}
use Rattle.pr_model.specs.State.{TracedControl, TracedLwp, TracedProcess, has_agent, lwp_of}
use Rattle.pr_model.specs.declared.calls.Reply.{Reply}
use Rattle.pr_num.proofs.SetLemmas.{with_number-lt}
use Rattle.pr_num.specs.Agents.{agent_id}
use Rattle.pr_num.specs.Control.{async_mode, fork_mode, has_flags, rlc_mode}
use Rattle.pr_num.specs.Limits.{all_faults, all_signals}
use Rattle.pr_num.specs.Sets.{common_word, has_number, minus_word, with_number, without_number}
use Rattle.pr_num.specs.Signals.{signal_number}
use Rattle.pr_num.specs.Syscalls.{syscall_number}
use Rattle.pr_num.specs.Words.{IsWord}
use Rattle.pr_num.specs.declared.signals.Sig.TheVariants.{Kill}
use Rattle.pr_num.specs.declared.syscalls.Sysno.TheVariants.{Exec, Exit, LwpExit}
use Rattle.pr_report_laws.proofs.Machine.SettingLaws.{cleared-plain, other-added}
use Rattle.pr_truss.proofs.ForkLemmas.{with_forks-word}
use Rattle.pr_truss.specs.FunctionCalls.{with_copying}
use Rattle.pr_truss.specs.Messages.{all_modes, ending_calls, traced_entries, traced_exits, with_forks}
use Rattle.pr_truss.specs.Openings.{step_after}
use Rattle.pr_truss.specs.declared.stages.OpeningStep.{OpeningStep}
use Rattle.pr_truss.specs.declared.stages.OpeningStep.TheVariants as opening
use Rattle.pr_truss_laws.specs.Stills.{HasSameSettings, IsUndisturbed}
use Rattle.pr_function_laws.specs.Opened.{TracesAll}
use Rattle.pr_function_laws.specs.Steps.{StopsAtAll}

-- What is set on a process before each step of its opening, and what the messages of an opening set.

-- ---- what is set

-- PR_ASYNC is not set
abbrev pub Directs : TracedControl → Type 0
Directs c = has_flags c.modes async_mode ≡ false

pub record HasSignals (c : TracedControl) : Type 0 where
  pub signals : c.traced_signals ≡ without_number all_signals (signal_number Kill)
  pub directs : Directs c

pub record HasEntries (o : Options) (c : TracedControl) : Type 0 where
  pub stops : StopsAtAll c
  pub entries : c.traced_entries ≡ with_copying (traced_entries o)

-- what is set before each step of an opening
abbrev pub IsSetBefore : Options → OpeningStep → TracedControl → Type 0
IsSetBefore o opening.OpenStatus c = Unit {0}
IsSetBefore o opening.OpenLstatus c = Unit {0}
IsSetBefore o opening.OpenMemory c = Unit {0}
IsSetBefore o opening.ClearModes c = Unit {0}
IsSetBefore o opening.SetRelease c = Directs c
IsSetBefore o opening.Stop c = Directs c
IsSetBefore o (opening.AwaitStop until) c = Directs c
IsSetBefore o opening.ReadLwps c = Directs c
IsSetBefore o opening.TraceSignals c = Directs c
IsSetBefore o opening.TraceFaults c = HasSignals c
IsSetBefore o opening.TraceEntries c = StopsAtAll c
IsSetBefore o opening.TraceExits c = HasEntries o c
IsSetBefore o opening.Follow c = TracesAll o c
IsSetBefore o opening.Start c = TracesAll o c

-- what is set on a process before a step, and once it was opened whole: then it has no agent either
abbrev pub IsSetBy : Options → Option OpeningStep → TracedProcess → Type 0
IsSetBy o None p = TracesAll o p.control × (has_agent p ≡ false)
IsSetBy o (Some step) p = IsSetBefore o step p.control

-- the traced sets and the modes are the same
pub record SameSets (c d : TracedControl) : Type 0 where
  pub signals : d.traced_signals ≡ c.traced_signals
  pub faults : d.traced_faults ≡ c.traced_faults
  pub entries : d.traced_entries ≡ c.traced_entries
  pub exits : d.traced_exits ≡ c.traced_exits
  pub modes : d.modes ≡ c.modes

pub same-sets : (c d : TracedControl) → d ≡ c → SameSets c d
same-sets c d is = record {
  signals = ap (λ (x : TracedControl). x.traced_signals) is;
  faults = ap (λ (x : TracedControl). x.traced_faults) is;
  entries = ap (λ (x : TracedControl). x.traced_entries) is;
  exits = ap (λ (x : TracedControl). x.traced_exits) is;
  modes = ap (λ (x : TracedControl). x.modes) is;
}

-- a process with the same sets and modes, which has got no agent
pub record IsAsSet (p q : TracedProcess) : Type 0 where
  pub sets : SameSets p.control q.control
  pub agent : has_agent p ≡ false → has_agent q ≡ false

alone-agent : (p q : TracedProcess) → IsUndisturbed p q → has_agent p ≡ false → has_agent q ≡ false
alone-agent p q alone none = by (lwp_of q agent_id) refl
  where
    by : (x : Option TracedLwp) → lwp_of q agent_id ≡ x → has_agent q ≡ false
    by None there = ap (λ (y : Option TracedLwp). is_some y) there
    by (Some l) there =
        let was = alone.each agent_id l there in
        absurd (false≢true (sym none ∙ ap (λ (y : Option TracedLwp). is_some y) was.1.0))

pub alone-sets : (p q : TracedProcess) → IsUndisturbed p q → IsAsSet p q
alone-sets p q alone = record {
  sets = same-sets p.control q.control (ap (λ (x : TracedProcess). x.control) alone.rest);
  agent = alone-agent p q alone;
}

pub settings-sets : (p q : TracedProcess) → HasSameSettings p q → (has_agent p ≡ false → has_agent q ≡ false)
    → IsAsSet p q
settings-sets p q same agent = record {
  sets = record {
    signals = ap (λ (x : TracedControl). x.traced_signals) same.control;
    faults = ap (λ (x : TracedControl). x.traced_faults) same.control;
    entries = ap (λ (x : TracedControl). x.traced_entries) same.control;
    exits = ap (λ (x : TracedControl). x.traced_exits) same.control;
    modes = ap (λ (x : TracedControl). x.modes) same.control;
  };
  agent = agent;
}

module _ (o : Options) (c d : TracedControl) (same : SameSets c d) where
  directs-same : Directs c → Directs d
  directs-same h = ap (λ m. has_flags m async_mode) same.modes ∙ h

  stops-same : StopsAtAll c → StopsAtAll d
  stops-same h = record {
    signals = same.signals ∙ h.signals;
    faults = same.faults ∙ h.faults;
    directs = directs-same h.directs;
  }

  traces-same : TracesAll o c → TracesAll o d
  traces-same h = record {
    stops = stops-same h.stops;
    entries = same.entries ∙ h.entries;
    exits = same.exits ∙ h.exits;
  }

  set-same : (step : OpeningStep) → IsSetBefore o step c → IsSetBefore o step d
  set-same opening.OpenStatus h = tt
  set-same opening.OpenLstatus h = tt
  set-same opening.OpenMemory h = tt
  set-same opening.ClearModes h = tt
  set-same opening.SetRelease h = directs-same h
  set-same opening.Stop h = directs-same h
  set-same (opening.AwaitStop until) h = directs-same h
  set-same opening.ReadLwps h = directs-same h
  set-same opening.TraceSignals h = directs-same h
  set-same opening.TraceFaults h = record { signals = same.signals ∙ h.signals; directs = directs-same h.directs }
  set-same opening.TraceEntries h = stops-same h
  set-same opening.TraceExits h = record { stops = stops-same h.stops; entries = same.entries ∙ h.entries }
  set-same opening.Follow h = traces-same h
  set-same opening.Start h = traces-same h

pub set-by-same : (o : Options) (p q : TracedProcess) → IsAsSet p q → (step : Option OpeningStep) → IsSetBy o step p
    → IsSetBy o step q
set-by-same o p q same None h = (traces-same o p.control q.control same.sets h.0, same.agent h.1)
set-by-same o p q same (Some step) h = set-same o p.control q.control same.sets step h

-- ---- the words of the messages that trace

pub wrapped : (w : ℕ) → IsWord w → w % 2 ^ 64 ≡ w
wrapped w small = omega arith

pub entries-word : (o : Options) → IsWord (with_copying (traced_entries o))
unfolding with_copying traced_entries ending_calls common_word syscall_number
entries-word o =
    let ends : ending_calls < 2 ^ 64 =
    with_number-lt 64 (with_number 0 (syscall_number Exit)) (syscall_number LwpExit)
    (with_number-lt 64 0 (syscall_number Exit) (omega arith) (omega arith) (omega arith)) (omega arith)
    (omega arith) in
    let most = and_le_r o.calls ending_calls in
    with_number-lt 64 (with_forks (traced_entries o)) (syscall_number Exec)
    (with_forks-word (traced_entries o) (omega arith)) (omega arith) (omega arith)

exits-of : (o : Options) → o.follow ≡ false → traced_exits o ≡ minus_word o.calls ending_calls
unfolding traced_exits
exits-of o follow =
    ap (λ b. cond b (with_forks (minus_word o.calls ending_calls)) (minus_word o.calls ending_calls)) follow

minus-small : (a b : ℕ) → minus_word a b < 2 ^ 64
unfolding minus_word
minus-small a b = let most = and_le_r a (2 ^ 64 - 1 - b) in omega arith

pub exits-word : (o : Options) → o.follow ≡ false → IsWord (with_copying (traced_exits o))
unfolding with_copying syscall_number
exits-word o follow =
    let small : traced_exits o < 2 ^ 64 =
    subst (λ w. w < 2 ^ 64) (sym (exits-of o follow)) (minus-small o.calls ending_calls) in
    with_number-lt 64 (with_forks (traced_exits o)) (syscall_number Exec)
    (with_forks-word (traced_exits o) small) (omega arith) (omega arith)

-- ---- what the messages of an opening set

abbrev pub change_of : Options → OpeningStep → TracedControl → TracedControl
change_of o opening.ClearModes c = without_modes all_modes c
change_of o opening.SetRelease c = with_modes rlc_mode c
change_of o opening.TraceSignals c = tracing_signals all_signals c
change_of o opening.TraceFaults c = tracing_faults all_faults c
change_of o opening.TraceEntries c = tracing_entries (with_copying (traced_entries o)) c
change_of o opening.TraceExits c = tracing_exits (with_copying (traced_exits o)) c
change_of o opening.Follow c = with_modes fork_mode c
change_of o _ c = c

abbrev pub SetAfter : Options → Option OpeningStep → TracedControl → Type 0
SetAfter o None c = TracesAll o c
SetAfter o (Some step) c = IsSetBefore o step c

-- what was set stays, and more is set
pub record Sets (o : Options) (r : Reply) (step : OpeningStep) (c : TracedControl) : Type 0 where
  pub stays : IsSetBefore o step (change_of o step c)
  pub more : SetAfter o (step_after o r step) (change_of o step c)

exits-next : (o : Options) (r : Reply) (c : TracedControl) → TracesAll o c
    → SetAfter o (Some (cond o.follow opening.Follow opening.Start)) c
exits-next o r c h = by o.follow
  where
    by : (b : Bool) → SetAfter o (Some (cond b opening.Follow opening.Start)) c
    by true = h
    by false = h

release-directs : (c : TracedControl) → Directs c → Directs (with_modes rlc_mode c)
unfolding with_modes has_number
release-directs c h = other-added c.modes rlc_mode 4 (omega arith) refl ∙ h

follow-directs : (c : TracedControl) → Directs c → Directs (with_modes fork_mode c)
unfolding with_modes has_number
follow-directs c h = other-added c.modes fork_mode 4 (omega arith) refl ∙ h

follow-traces : (o : Options) (c : TracedControl) → TracesAll o c → TracesAll o (with_modes fork_mode c)
unfolding with_modes
follow-traces o c h =
    let was = h.stops in
    record {
      stops = record {
        signals = was.signals;
        faults = was.faults;
        directs = follow-directs c was.directs;
      };
      entries = h.entries;
      exits = h.exits;
    }

pub step-sets : (o : Options) (r : Reply) (step : OpeningStep) (c : TracedControl) → IsSetBefore o step c
    → Sets o r step c
unfolding step_after tracing_signals tracing_faults tracing_entries tracing_exits
step-sets o r opening.OpenStatus c h = record { stays = tt; more = tt }
step-sets o r opening.OpenLstatus c h = record { stays = tt; more = tt }
step-sets o r opening.OpenMemory c h = record { stays = tt; more = tt }
step-sets o r opening.ClearModes c h = record { stays = tt; more = let it = cleared-plain c in it.directs }
step-sets o r opening.SetRelease c h = record { stays = release-directs c h; more = release-directs c h }
step-sets o r opening.Stop c h = record { stays = h; more = h }
step-sets o r (opening.AwaitStop until) c h = record { stays = h; more = h }
step-sets o r opening.ReadLwps c h = record { stays = h; more = h }
step-sets o r opening.TraceSignals c h = record { stays = h; more = record { signals = refl; directs = h } }
step-sets o r opening.TraceFaults c h = record {
  stays = record { signals = h.signals; directs = h.directs };
  more = record { signals = h.signals; faults = refl; directs = h.directs };
}
step-sets o r opening.TraceEntries c h =
    let stops : StopsAtAll (tracing_entries (with_copying (traced_entries o)) c) =
    record { signals = h.signals; faults = h.faults; directs = h.directs } in
    record { stays = stops; more = record { stops = stops; entries = refl } }
step-sets o r opening.TraceExits c h =
    let was = h.stops in
    let stops : StopsAtAll (tracing_exits (with_copying (traced_exits o)) c) =
    record { signals = was.signals; faults = was.faults; directs = was.directs } in
    record {
      stays = record { stops = stops; entries = h.entries };
      more = exits-next o r (tracing_exits (with_copying (traced_exits o)) c)
          (record { stops = stops; entries = h.entries; exits = refl });
    }
step-sets o r opening.Follow c h = record { stays = follow-traces o c h; more = follow-traces o c h }
step-sets o r opening.Start c h = record { stays = h; more = h }
