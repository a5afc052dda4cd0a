use Rattle.std.specs.Prelude.{◌==◌, ◌&&◌, ℕ, Bool, true, false, List, [], ◌∷◌, ◌++◌, Result, Ok, if◌then◌else◌}
use Rattle.std.specs.List.{flat_map}
use Rattle.pr_num.specs.Agents.{agent_id}
use Rattle.pr_num.specs.Messages.{first_message}
use Rattle.pr_num.specs.declared.faults.Flt.{Flt}
use Rattle.pr_num.specs.declared.faults.Flt.TheVariants.{Trace}
use Rattle.pr_num.specs.declared.messages.Message.{Message}
use Rattle.pr_num.specs.declared.messages.Message.TheVariants.{Agent}
use Rattle.pr_num.specs.declared.messages.MsgFault.{MsgFault}
use Rattle.pr_num.specs.declared.syscalls.Sysno.{Sysno}
use Rattle.pr_num.specs.Syscalls.{is_fork_call}
use Rattle.pr_model.specs.declared.calls.Call.TheVariants as call
use Rattle.pr_model.specs.declared.calls.Call as calls
use Rattle.pr_model.specs.declared.calls.Reply.{Reply}
use Rattle.pr_model.specs.declared.calls.Reply.TheVariants as reply
use Rattle.pr_model.specs.declared.events.Act.{Act}
use Rattle.pr_model.specs.declared.events.Act.TheVariants as act
use Rattle.pr_model.specs.declared.events.Actor.{Actor}
use Rattle.pr_model.specs.declared.events.Actor.TheVariants.{Controller, Lwp, Clock}
use Rattle.pr_model.specs.declared.events.Did.{Did}
use Rattle.pr_model.specs.declared.events.Did.TheVariants.{Stopped, Ran, Entered, Made, Slept, Woke, Returned, Faulted, Posted, Took, Acted}
use Rattle.pr_model.specs.declared.events.Entry.{Entry}
use Rattle.pr_model.specs.declared.events.How.TheVariants.{Caught, Ignored, JobStop, Died}
use Rattle.pr_model.specs.declared.events.Res.{Res}
use Rattle.pr_model.specs.declared.events.Res.TheVariants.{Value}
use Rattle.pr_model.specs.declared.steps.Step.{Step}
use Rattle.pr_model.specs.declared.steps.Step.TheVariants.{Exec, Call, Sleep, Finish, Fault, Take, Act as ActOn, Spawn, Kill, Tick}

-- The untraced steps of a history: what the untraced machine would have done of it. An entry is read after those before
-- it, of which this is remembered: which lwps are on their way out of a system call, and which process each open handle
-- names.
pub record Memory : Type 0 where
  pub returning : ℕ → ℕ → Bool
  pub named : ℕ → ℕ

-- before the first entry no lwp is on its way out of a call
unfoldable pub nothing_yet : Memory
nothing_yet = record { returning = λ p l. false; named = λ handle. 0 }

-- another word of one lwp, and of one handle
abbrev pub with_lwp_at : ℕ → ℕ → Bool → (ℕ → ℕ → Bool) → ℕ → ℕ → Bool
with_lwp_at p l out returning q k = if (q == p) && (k == l) then out else returning q k

abbrev pub with_handle_at : ℕ → ℕ → (ℕ → ℕ) → ℕ → ℕ
with_handle_at handle pid named other = if other == handle then pid else named other

unfoldable pub with_returning : ℕ → ℕ → Bool → Memory → Memory
with_returning p l out m = record m { returning = with_lwp_at p l out m.returning }

unfoldable pub with_named : ℕ → ℕ → Memory → Memory
with_named handle pid m = record m { named = with_handle_at handle pid m.named }

-- the first lwp of a child begins on its way out of the call that made it
abbrev pub with_child_of : Sysno → Res → Memory → Memory
with_child_of call (Value child) m = if is_fork_call call then with_returning child 1 true m else m
with_child_of call result m = m

-- What a turn of an lwp leaves remembered. A stop, a signal that is taken, and one that is acted on without a handler
-- leave an lwp where it was.
unfoldable pub after_did : ℕ → ℕ → Did → Memory → Memory
after_did p l Stopped m = m
after_did p l Ran m = with_returning p l false m
after_did p l (Entered c) m = with_returning p l false m
after_did p l (Made c r) m = with_child_of c r (with_returning p l true m)
after_did p l (Slept c) m = with_returning p l false m
after_did p l (Woke c r) m = with_returning p l true m
after_did p l (Returned c) m = with_returning p l false m
after_did p l (Faulted f) m = with_returning p l false m
after_did p l (Posted f) m = with_returning p l false m
after_did p l (Took s) m = m
after_did p l (Acted s Caught) m = with_returning p l false m
after_did p l (Acted s Ignored) m = m
after_did p l (Acted s JobStop) m = m
after_did p l (Acted s Died) m = m

-- A PCAGENT that was granted makes an agent anew, in its program.
abbrev pub after_message : ℕ → Result (Message × ℕ) MsgFault → Memory → Memory
after_message pid (Ok (Agent regs, length)) m = with_returning pid agent_id false m
after_message pid other m = m

-- what a call leaves remembered: the process that a new handle names, and a new agent
unfoldable pub after_call : calls.Call → Reply → Memory → Memory
after_call (call.Open pid lwp file mode) (reply.Handle handle) m = with_named handle pid m
after_call (call.Ctl handle bytes) (reply.Used used) m = after_message (m.named handle) (first_message bytes) m
after_call c r m = m

-- what an entry leaves remembered
unfoldable pub remembered : Memory → Entry → Memory
remembered m e = by e.actor e.act
  where
    by : Actor → Act → Memory
    by (Controller k) (act.Call c r) = after_call c r m
    by (Lwp p l) (act.Turn t) = after_did p l t.did m
    by _ _ = m

abbrev pub remembered_all : Memory → List Entry → Memory
remembered_all m [] = m
remembered_all m (e ∷ es) = remembered_all (remembered m e) es

-- A fault is one step; FLTTRACE comes after an instruction that was run, but for an lwp on its way out of a call.
abbrev pub steps_of_fault : Bool → ℕ → ℕ → Flt → List Step
steps_of_fault returning p l Trace = if returning then Fault p l Trace ∷ [] else Exec p l ∷ Fault p l Trace ∷ []
steps_of_fault returning p l f = Fault p l f ∷ []

-- what a turn is: stops, the entry to a call, the return from it and the posting of a fault are hidden
abbrev pub steps_of_turn : Bool → ℕ → ℕ → Did → List Step
steps_of_turn returning p l Stopped = []
steps_of_turn returning p l Ran = Exec p l ∷ []
steps_of_turn returning p l (Entered c) = []
steps_of_turn returning p l (Made c r) = Call p l c r ∷ []
steps_of_turn returning p l (Slept c) = Sleep p l c ∷ []
steps_of_turn returning p l (Woke c r) = Finish p l c r ∷ []
steps_of_turn returning p l (Returned c) = []
steps_of_turn returning p l (Faulted f) = steps_of_fault returning p l f
steps_of_turn returning p l (Posted f) = []
steps_of_turn returning p l (Took s) = Take p l s ∷ []
steps_of_turn returning p l (Acted s how) = ActOn p l s ∷ []

-- what a call is: a spawn and a signal that were granted come from outside, and all else is hidden
abbrev pub steps_of_call : calls.Call → Reply → List Step
steps_of_call (call.Spawn program held) (reply.Pid pid) = Spawn program ∷ []
steps_of_call (call.Kill pid sig) reply.Done = Kill pid sig ∷ []
steps_of_call _ _ = []

-- what an entry is, with what is remembered of those before it
unfoldable pub steps_of : Memory → Entry → List Step
steps_of m e = by e.actor e.act
  where
    by : Actor → Act → List Step
    by (Controller k) (act.Call c r) = steps_of_call c r
    by (Lwp p l) (act.Turn t) = steps_of_turn (m.returning p l) p l t.did
    by Clock (act.Tick n) = Tick ∷ []
    by _ _ = []

-- the steps of entries, with what is remembered of those before them
abbrev pub steps_from : Memory → List Entry → List Step
steps_from m [] = []
steps_from m (e ∷ es) = steps_of m e ++ steps_from (remembered m e) es

-- the steps of a history, in its order
unfoldable pub untraced_steps : List Entry → List Step
untraced_steps h = steps_from nothing_yet h

-- The trace of a history: its calls that were made or are over, its faults and its taken signals.
abbrev pub trace_of_turn : ℕ → ℕ → Did → List Step
trace_of_turn p l (Made c r) = Call p l c r ∷ []
trace_of_turn p l (Woke c r) = Call p l c r ∷ []
trace_of_turn p l (Faulted f) = Fault p l f ∷ []
trace_of_turn p l (Took s) = Take p l s ∷ []
trace_of_turn p l _ = []

unfoldable pub trace_of : Entry → List Step
trace_of e = by e.actor e.act
  where
    by : Actor → Act → List Step
    by (Lwp p l) (act.Turn t) = trace_of_turn p l t.did
    by _ _ = []

unfoldable pub untraced_trace : List Entry → List Step
untraced_trace h = flat_map trace_of h
