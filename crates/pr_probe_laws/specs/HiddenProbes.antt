use Rattle.std.specs.Prelude.{◌≡◌, ◌≢◌, ◌⊎◌, ℕ, Bool, true, false, List, [], ◌∷◌, ◌++◌, All, IsTrue, Some, Ok, slice_get}
use Rattle.pr_api.specs.Entries.{call_entry}
use Rattle.pr_hidden.specs.Hiders.{Hiders}
use Rattle.pr_model.specs.Legal.{IsLegal, state_after}
use Rattle.pr_model.specs.Passive.{is_passive_call}
use Rattle.pr_model.specs.State.{TracedProcess, TracedState, live_process}
use Rattle.pr_model.specs.declared.calls.Call.{Call}
use Rattle.pr_model.specs.declared.calls.Reply.{Reply}
use Rattle.pr_model.specs.declared.calls.Reply.TheVariants as reply
use Rattle.pr_model.specs.declared.calls.Reply.TheVariants.{Used}
use Rattle.pr_model.specs.declared.events.Act.{Act}
use Rattle.pr_model.specs.declared.events.Act.TheVariants as act
use Rattle.pr_model.specs.declared.events.Actor.{Actor}
use Rattle.pr_model.specs.declared.events.Actor.TheVariants.{Controller, Lwp}
use Rattle.pr_model.specs.declared.events.Did.{Did}
use Rattle.pr_model.specs.declared.events.Did.TheVariants.{Acted, Took}
use Rattle.pr_model.specs.declared.events.Entry.{Entry}
use Rattle.pr_model.specs.declared.events.Turned.{Turned}
use Rattle.pr_num.specs.Agents.{agent_id}
use Rattle.pr_num.specs.Layout.{stack_base, text_base}
use Rattle.pr_num.specs.Spaces.{Space, bytes_for}
use Rattle.pr_num.specs.declared.errnos.Errno.TheVariants.{Mfile}
use Rattle.pr_num.specs.declared.messages.Message.TheVariants as message
use Rattle.pr_probe.specs.AgentCode.{agent_registers, code_size, stack_size}
use Rattle.pr_probe.specs.Probes.{ProbeState, first_probe}
use Rattle.pr_probe.specs.declared.probe_stages.ProbeFile.TheVariants.{AgentControl, AgentStatus}
use Rattle.pr_probe.specs.declared.probe_stages.ProbeStage.{ProbeStage}
use Rattle.pr_probe.specs.declared.probe_stages.ProbeStage.TheVariants.{Open, PlantCode, Asking, UntraceExits, SetExit, RunExit, AwaitExit, WriteCode, WriteStack}
use Rattle.pr_probe_laws.specs.SetsBack.{IsSoleIn, opening_entry}
use Rattle.pr_probe_laws.specs.ShownDescriptors.{HasRoom, WasUnlent}
use Rattle.pr_reached.specs.ByteHistories.{HasBytes}
use Rattle.pr_tool_laws.specs.OwnCalls.{AreOwnCalls}
use Rattle.pr_world.specs.ControllerStates.{ControllerState, Probe}
use Rattle.pr_world.specs.Protocol.{controllers_at}
use Rattle.pr_tool_laws.specs.Leaving.{SendsTo}

-- Who hides an agent, and what others leave alone meanwhile: then programs see nothing of apfiles.

-- ---- who hides

-- a controller is an apfiles of some process at first
pub record IsProbeAt (controllers : List ControllerState) (k : ℕ) : Type 0 where
  pub pid : ℕ
  pub at : slice_get controllers k ≡ Some (Probe (first_probe pid))

-- The controllers that hide what they do are each an apfiles, and none of them sets breakpoints.
pub record AreProbes (who : Hiders) (controllers : List ControllerState) : Type 0 where
  pub no_functions : (k : ℕ) → who.functions k ≡ []
  pub probes : (k : ℕ) → who.probes k ≡ true → IsProbeAt controllers k

-- ---- while it hides something

-- whether its agent was made, and not all is written back
unfoldable pub is_hiding : ProbeStage → Bool
is_hiding (Open AgentControl) = true
is_hiding (Open AgentStatus) = true
is_hiding PlantCode = true
is_hiding (Asking descriptor step) = true
is_hiding UntraceExits = true
is_hiding SetExit = true
is_hiding RunExit = true
is_hiding AwaitExit = true
is_hiding WriteCode = true
is_hiding WriteStack = true
is_hiding _ = false

-- whether a turn takes a signal, or acts on one
abbrev pub is_signal_turn : Did → Bool
is_signal_turn (Took signal) = true
is_signal_turn (Acted signal how) = true
is_signal_turn did = false

-- an entry is no such turn of the agent of a process
abbrev pub TakesNoSignal : ℕ → Entry → Type 0
TakesNoSignal pid e =
    (t : Turned) → e ≡ record { actor = Lwp pid agent_id; act = act.Turn t } → is_signal_turn t.did ≡ false

-- The process of apfiles lives. Where a child of vfork(2) is destroyed, it gives the memory that it borrowed back with
-- the agent's code in it.
pub record IsAlive (pid : ℕ) (s : TracedState) : Type 0 where
  pub process : TracedProcess
  pub lives : live_process s.system pid ≡ Some process

-- what apfiles has saved stands in the memory of its process
pub record StandsSaved (p : ProbeState) (space : Space) : Type 0 where
  pub code : bytes_for 0 space text_base code_size ≡ Ok p.code
  pub stack : bytes_for 0 space stack_base stack_size ≡ Ok p.stack

-- what apfiles has looked at is still so: there is room for its agent, and what was saved stands there
pub record IsAsSeen (p : ProbeState) (q : TracedProcess) : Type 0 where
  pub room : HasRoom q
  pub saved : StandsSaved p q.space

module _ (k pid : ℕ) (controllers : List ControllerState) (first : TracedState) where
  -- apfiles as it is after some entries
  abbrev pub IsAfter : List Entry → ProbeState → Type 0
  IsAfter front p = slice_get (controllers_at controllers front) k ≡ Some (Probe p)

  -- the same where it hides something then
  pub record IsHidingAfter (front : List Entry) (p : ProbeState) : Type 0 where
    pub is : IsAfter front p
    pub hides : is_hiding p.stage ≡ true

  -- the entry after some others by which it makes its agent: PCAGENT, which was not refused
  pub record MakesAgent (front : List Entry) (e : Entry) : Type 0 where
    pub call : Call
    pub used : ℕ
    pub is : e ≡ call_entry k call (Used used)
    pub sends : SendsTo k pid (message.Agent (agent_registers 0 text_base)) [] (state_after first front) call

  -- While it hides something no other controller has had its process open for writing since it opened the control file,
  -- the process lives, the agent takes no signal, and apfiles is not told that all handles are open (EMFILE). Where it
  -- makes the agent, the process had lent its memory to nobody when its status was read; or all is as it was seen.
  pub record IsLeftAlone (h : List Entry) : Type 0 where
    pub sole : (front back : List Entry) (p : ProbeState) → h ≡ front ++ back → IsHidingAfter front p
        → (before later : List Entry) (opened : Reply) → front ≡ before ++ opening_entry k pid opened ∷ later
        → IsSoleIn k pid first before (opening_entry k pid opened ∷ later)
    pub lives : (front back : List Entry) (p : ProbeState) → h ≡ front ++ back → IsHidingAfter front p
        → IsAlive pid (state_after first front)
    pub unsignalled : (front back : List Entry) (e : Entry) (p : ProbeState) → h ≡ front ++ e ∷ back
        → IsHidingAfter front p → TakesNoSignal pid e
    pub handles : (front back : List Entry) (c : Call) (r : Reply) (p : ProbeState)
        → h ≡ front ++ call_entry k c r ∷ back → IsHidingAfter front p → r ≢ reply.Fail Mfile
    pub as_seen : (front back : List Entry) (e : Entry) (p : ProbeState) → h ≡ front ++ e ∷ back
        → MakesAgent front e → IsAfter front p → (q : TracedProcess)
        → live_process (state_after first front).system pid ≡ Some q → WasUnlent k pid first front ⊎ IsAsSeen p q

-- an entry of one who hides nothing is passive
abbrev pub IsPassiveOf : Hiders → Entry → Type 0
IsPassiveOf who e = by e.actor e.act
  where
    by : Actor → Act → Type 0
    by (Controller k) (act.Call c r) = who.probes k ≡ false → IsTrue (is_passive_call c r)
    by _ _ = Unit {0}

-- Those who hide in a history are apfiles that are left alone while they hide something, and every call of another one
-- is passive.
pub record AreLeftAlone (who : Hiders) (controllers : List ControllerState) (first : TracedState) (h : List Entry)
    : Type 0 where
  pub probes : AreProbes who controllers
  pub passive : All (IsPassiveOf who) h
  pub alone : (k pid : ℕ) → who.probes k ≡ true → slice_get controllers k ≡ Some (Probe (first_probe pid))
      → IsLeftAlone k pid controllers first h

-- A legal history in which these controllers make their own calls and what controllers write is bytes; those who hide
-- are apfiles that are left alone, and every call of another one is passive.
pub record IsRunOfProbes (n : ℕ) (who : Hiders) (controllers : List ControllerState) (first : TracedState)
    (h : List Entry) : Type 0 where
  pub legal : IsLegal n first h
  pub own_calls : AreOwnCalls controllers h
  pub bytes : HasBytes h
  pub left_alone : AreLeftAlone who controllers first h
