use Rattle.std.specs.Prelude.{◌≡◌, ◌≤◌, ◌==◌, ◌||◌, ◌&&◌, ◌⊎◌, ◌+◌, ◌^◌, ℕ, Bool, true, false, List, [], ◌∷◌, Option, Some, None, Result, Ok, Err, All, IsTrue, length}
use Rattle.pr_num.specs.Agents.{agent_id}
use Rattle.pr_num.specs.Control.{clear_fault, single_step}
use Rattle.pr_num.specs.Layout.{stack_base, text_base}
use Rattle.pr_num.specs.Messages.{first_message}
use Rattle.pr_num.specs.Spaces.{Space, bytes_for}
use Rattle.pr_num.specs.declared.faults.Flt.{Flt}
use Rattle.pr_num.specs.declared.faults.Flt.TheVariants.{Bpt, Trace}
use Rattle.pr_num.specs.declared.messages.Message.{Message}
use Rattle.pr_num.specs.declared.messages.Message.TheVariants.{Agent, Cfault, Run, Sreg, Write}
use Rattle.pr_num.specs.declared.messages.MsgFault.{MsgFault}
use Rattle.pr_num.specs.declared.signals.Sig.{Sig}
use Rattle.pr_parts.specs.AddressSpaces.{with_bytes}
use Rattle.pr_model.specs.Changes.{Change, Ending, becomes, changed, ends_lwp, forks, signals}
use Rattle.pr_model.specs.ControlMessages.{aim_of, tail_of, target_of}
use Rattle.pr_model.specs.Handles.{handle_of}
use Rattle.pr_model.specs.Legal.{after}
use Rattle.pr_model.specs.Machines.{traced}
use Rattle.pr_model.specs.Messages.{Aim, aimed_lwp}
use Rattle.pr_model.specs.Passive.{is_passive_act}
use Rattle.pr_model.specs.Readers.{life_of}
use Rattle.pr_model.specs.Rows.{row_for}
use Rattle.pr_model.specs.SignalCalls.{sending, sends}
use Rattle.pr_model.specs.Signals.{is_kill}
use Rattle.pr_model.specs.State.{TracedLwp, TracedProcess, TracedState, TracedSystem, live_process, lwp_of}
use Rattle.pr_model.specs.Transitions.{Transition, ending}
use Rattle.pr_model.specs.declared.calls.Call as calls
use Rattle.pr_model.specs.declared.calls.Call.TheVariants as call
use Rattle.pr_model.specs.declared.calls.Reply.{Reply}
use Rattle.pr_model.specs.declared.calls.Reply.TheVariants as reply
use Rattle.pr_model.specs.declared.events.Act.{Act}
use Rattle.pr_model.specs.declared.events.Act.TheVariants as act
use Rattle.pr_model.specs.declared.events.Actor.{Actor}
use Rattle.pr_model.specs.declared.events.Actor.TheVariants.{Controller, Lwp}
use Rattle.pr_model.specs.declared.events.Did.{Did}
use Rattle.pr_model.specs.declared.events.Did.TheVariants.{Faulted as DidFault}
use Rattle.pr_model.specs.declared.events.Entry.{Entry}
use Rattle.pr_model.specs.declared.handles.Held.{Held}
use Rattle.pr_model.specs.declared.lwps.Phase.{Phase}
use Rattle.pr_model.specs.declared.lwps.Phase.TheVariants.{Faulted}
use Rattle.pr_hidden.specs.Covers.{Cover, Covers, Patch, keeps_lwp}
use Rattle.pr_hidden.specs.Following.{IsReturnable, MayEnd, SparesPatches}
use Rattle.pr_hidden.specs.Hiders.{Hiders, answer_size, are_some, begins_at, covers_after, exits, has_hold, hides, instructions_size, is_ctl, is_own, no_covers, patch_at}
use Rattle.pr_hidden.specs.Hiding.{ChangesOwn}
use Rattle.pr_hidden.specs.Sparing.{AreWithin, is_apart_from}

-- What is asked of a history, so that nothing is seen of those who hide: which calls there are, what programs leave
-- alone, and how tidy the hiders are.

-- something is so of each entry of a history, with what is hidden and the state that the entry finds
abbrev pub HoldsFrom : (Covers → TracedState → Entry → Type 0) → Hiders → Covers → TracedState → List Entry → Type 0
HoldsFrom P who covers s [] = Unit {0}
HoldsFrom P who covers s (e ∷ es) = P covers s e × HoldsFrom P who (covers_after who covers s e) (after s e) es

-- ---- which calls there are

-- PCRUN with PRCFAULT, PRSTEP or both
abbrev pub is_step_flags : ℕ → Bool
is_step_flags flags = (flags == clear_fault) || ((flags == single_step) || (flags == clear_fault + single_step))

-- Messages that controllers with functions send beside passive ones: PCWRITE, PCCFAULT, and that PCRUN; and those of
-- probes: PCWRITE, PCAGENT and PCSREG.
abbrev pub is_function_message : Message → Bool
is_function_message (Write at size) = true
is_function_message Cfault = true
is_function_message (Run flags) = is_step_flags flags
is_function_message _ = false

abbrev pub is_probe_message : Message → Bool
is_probe_message (Write at size) = true
is_probe_message (Agent regs) = true
is_probe_message (Sreg regs) = true
is_probe_message _ = false

abbrev pub is_hider_message : Hiders → ℕ → Message → Bool
is_hider_message who k m =
    (are_some (who.functions k) && is_function_message m) || (who.probes k && is_probe_message m)

abbrev pub is_hider_write : Hiders → ℕ → Result (Message × ℕ) MsgFault → Bool
is_hider_write who k (Ok (m, len)) = is_hider_message who k m
is_hider_write who k (Err fault) = false

abbrev pub is_hider_act : Hiders → Actor → Act → Bool
is_hider_act who (Controller k) (act.Call (call.Ctl handle bytes) r) = is_hider_write who k (first_message bytes)
is_hider_act who actor it = false

-- every entry is passive, but for messages of the hiders
abbrev pub IsPassiveBut : Hiders → List Entry → Type 0
IsPassiveBut who h = All (λ (e : Entry). IsTrue (is_passive_act e.act || is_hider_act who e.actor e.act)) h

-- ---- what programs leave alone

-- whether a turn is FLTBPT at a breakpoint of a controller's: the fetch begins where its function does
abbrev pub is_breakpoint : Did → Bool
is_breakpoint (DidFault Bpt) = true
is_breakpoint did = false

abbrev pub is_own_breakpoint : Hiders → Covers → TracedState → ℕ → ℕ → Did → Bool
is_own_breakpoint who covers s pid id did = is_breakpoint did && is_own who covers s pid id did

-- An lwp that goes on, and is no hidden agent, touches no patch, but where it runs into a breakpoint.
pub record IsSparingTurn (who : Hiders) (covers : Covers) (s : TracedState) (pid id : ℕ) (did : Did) : Type 0 where
  pub spares : (p : TracedProcess) (l : TracedLwp) → live_process s.system pid ≡ Some p → lwp_of p id ≡ Some l
      → keeps_lwp (covers pid) id ≡ true → l.control.directed ≡ false
      → is_own_breakpoint who covers s pid id did ≡ false → SparesPatches (covers pid).patches p l

abbrev pub IsSparingEntry : Hiders → Covers → TracedState → Entry → Type 0
IsSparingEntry who covers s e = by e.actor e.act
  where
    by : Actor → Act → Type 0
    by (Lwp pid id) (act.Turn t) = IsSparingTurn who covers s pid id t.did
    by _ _ = Unit {0}

abbrev pub IsSparing : Hiders → TracedState → List Entry → Type 0
IsSparing who s h = HoldsFrom (IsSparingEntry who) who no_covers s h

-- ---- tidy writes

-- patches have no byte in common, and none past the last address
abbrev pub AreApart : List Patch → Type 0
AreApart [] = Unit {0}
AreApart (p ∷ ps) = (is_apart_from p ps ≡ true) × AreApart ps

pub record AreSound (ps : List Patch) : Type 0 where
  pub apart : AreApart ps
  pub within : AreWithin ps

-- A breakpoint is planted where the function's code stands, apart from the patches there.
pub record IsPlantable (f : Patch) (ps : List Patch) (space : Space) : Type 0 where
  pub none : patch_at f.at ps ≡ None
  pub apart : is_apart_from f ps ≡ true
  pub within : f.at + length f.bytes ≤ 2 ^ 64
  pub code : with_bytes f.at f.bytes space ≡ space

-- A controller with functions writes where one of them begins, as many bytes as its code has: where that code stands,
-- or where its breakpoint does.
pub record IsFunctionWrite (f : Patch) (ps : List Patch) (space : Space) (bytes : List ℕ) : Type 0 where
  pub size : length bytes ≡ length f.bytes
  pub place : (patch_at f.at ps ≡ Some f) ⊎ IsPlantable f ps space

-- what a probe saves of a place: it was read there, all of it, and so it stands there
pub record IsSaved (at size : ℕ) (space : Space) : Type 0 where
  pub bytes : List ℕ
  pub read : bytes_for 0 space at size ≡ Ok bytes
  pub all : length bytes ≡ size
  pub stands : with_bytes at bytes space ≡ space

-- The first write of a probe is that of its agent's instructions, and what stands at both places is saved.
pub record IsFirstWrite (ps : List Patch) (space : Space) (at : ℕ) (bytes : List ℕ) : Type 0 where
  pub none : ps ≡ []
  pub text : at ≡ text_base
  pub size : length bytes ≡ instructions_size
  pub instructions : IsSaved text_base instructions_size space
  pub answer : IsSaved stack_base answer_size space

abbrev pub IsProbeWrite : Option Patch → List Patch → Space → ℕ → List ℕ → Type 0
IsProbeWrite None ps space at bytes = IsFirstWrite ps space at bytes
IsProbeWrite (Some p) ps space at bytes = length bytes ≡ length p.bytes

abbrev pub IsFunctionWriteIn : Option Patch → List Patch → Space → List ℕ → Type 0
IsFunctionWriteIn None ps space bytes = ⊥
IsFunctionWriteIn (Some f) ps space bytes = IsFunctionWrite f ps space bytes

pub record IsTidyWrite (who : Hiders) (k : ℕ) (ps : List Patch) (space : Space) (at : ℕ) (bytes : List ℕ) : Type 0 where
  pub probe : who.probes k ≡ true → IsProbeWrite (patch_at at ps) ps space at bytes
  pub function : who.probes k ≡ false → IsFunctionWriteIn (patch_at at (who.functions k)) ps space bytes

-- ---- tidy messages

-- PCCFAULT, and PCRUN with PRCFAULT, find no fault but one of a controller's.
pub record ClearsOwn (c : Cover) (s : TracedSystem) (pid : ℕ) (p : TracedProcess) (aim : Aim) : Type 0 where
  pub own : (e : ℕ × TracedLwp) → aimed_lwp s pid p aim ≡ Some e → (f : Flt) (address : ℕ)
      → e.1.phase ≡ Faulted f address → c.faulted e.0 ≡ true

-- PCSREG finds a hidden agent.
pub record SetsOwn (c : Cover) (s : TracedSystem) (pid : ℕ) (p : TracedProcess) (aim : Aim) : Type 0 where
  pub own : (e : ℕ × TracedLwp) → aimed_lwp s pid p aim ≡ Some e → keeps_lwp c e.0 ≡ false

module _ (who : Hiders) (k : ℕ) (covers : Covers) (s : TracedSystem) where
  abbrev pub IsTidyMessage : ℕ → TracedProcess → Aim → Message → List ℕ → Type 0
  IsTidyMessage pid p aim (Write at size) tail = IsTidyWrite who k (covers pid).patches p.space at tail
  IsTidyMessage pid p aim Cfault tail = ClearsOwn (covers pid) s pid p aim
  IsTidyMessage pid p aim (Run flags) tail = is_step_flags flags ≡ true → ClearsOwn (covers pid) s pid p aim
  IsTidyMessage pid p aim (Sreg regs) tail = SetsOwn (covers pid) s pid p aim
  IsTidyMessage pid p aim _ tail = Unit {0}

  abbrev pub IsTidySent : Held → TracedProcess → List ℕ → Result (Message × ℕ) MsgFault → Type 0
  IsTidySent h p bytes (Err fault) = Unit {0}
  IsTidySent h p bytes (Ok (m, len)) = IsTidyMessage h.pid p (aim_of h) m (tail_of m bytes)

  abbrev pub IsTidyTargeted : Held → Option TracedProcess → List ℕ → Type 0
  IsTidyTargeted h None bytes = Unit {0}
  IsTidyTargeted h (Some p) bytes = IsTidySent h p bytes (first_message bytes)

  abbrev pub IsTidyControl : Option Held → List ℕ → Type 0
  IsTidyControl None bytes = Unit {0}
  IsTidyControl (Some h) bytes = IsTidyTargeted h (target_of s h) bytes

-- ---- tidy closes

-- an lwp stands at no fault of a controller's
abbrev pub IsClearLwp : Cover → ℕ × TracedLwp → Type 0
IsClearLwp c e = (f : Flt) (address : ℕ) → e.1.phase ≡ Faulted f address → c.faulted e.0 ≡ false

-- Who has finished leaves no patch, no agent, and no fault of its own.
pub record IsClear (c : Cover) (p : TracedProcess) : Type 0 where
  pub no_patches : c.patches ≡ []
  pub no_agent : c.agent ≡ false
  pub lwps : All (IsClearLwp c) p.lwps

abbrev pub IsTidyClose : Hiders → ℕ → Covers → TracedSystem → Option Held → Type 0
IsTidyClose who k covers s None = Unit {0}
IsTidyClose who k covers s (Some h) =
    hides who k && is_ctl h.file ≡ true → (p : TracedProcess) → live_process s h.pid ≡ Some p → IsClear (covers h.pid) p

-- ---- tidy calls

-- A process that is killed from outside returns memory that is seen alike.
abbrev pub MayKill : Covers → TracedSystem → ℕ → ℕ → Type 0
MayKill covers s pid number =
    (g : Sig) → sending pid number (life_of s pid) ≡ sends g → is_kill g ≡ true → MayEnd covers s pid

abbrev pub IsTidyCall : Hiders → Covers → TracedState → ℕ → calls.Call → Reply → Type 0
IsTidyCall who covers s k (call.Ctl handle bytes) (reply.Used used) =
    IsTidyControl who k covers s.system (handle_of s.opens k handle) bytes
IsTidyCall who covers s k (call.Close handle) reply.Done =
    IsTidyClose who k covers s.system (handle_of s.opens k handle)
IsTidyCall who covers s k (call.Kill pid number) reply.Done = MayKill covers s.system pid number
IsTidyCall who covers s k c r = Unit {0}

-- ---- tidy turns

-- A change by fork, vfork and exec finds no patches; an exec and a kill return memory that is seen alike.
abbrev pub IsTidyChange : Covers → TracedSystem → ℕ → TracedProcess → Change → Type 0
IsTidyChange covers s pid p (forks birth args) = (covers pid).patches ≡ []
IsTidyChange covers s pid p (becomes program) = ((covers pid).patches ≡ []) × IsReturnable covers pid p
IsTidyChange covers s pid p (signals target g info) = is_kill g ≡ true → MayEnd covers s target
IsTidyChange covers s pid p c = Unit {0}

-- one after another
abbrev pub AreTidyChanges : Covers → ℕ → TracedProcess → ℕ → TracedLwp → List Change → TracedSystem → Type 0
AreTidyChanges covers pid p id l [] s = Unit {0}
AreTidyChanges covers pid p id l (c ∷ cs) s =
    IsTidyChange covers s pid p c × AreTidyChanges covers pid p id l cs (changed traced pid p id l c s)

-- The turn of an lwp that is no hidden agent. Beside one, and at a fault of a controller's, it moves only to stop as it
-- is directed to: such a fault is cleared, and never posted. FLTTRACE comes only where a controller with functions has
-- "ctl" open: no step mark outlives that. And what the turn changes is tidy, as is the end of the process.
pub record IsTidyMove (who : Hiders) (covers : Covers) (s : TracedState) (pid : ℕ) (p : TracedProcess) (id : ℕ)
    (l : TracedLwp) (did : Did) : Type 0 where
  pub beside_agent : (covers pid).agent ≡ true → l.control.directed ≡ true
  pub never_posted : (covers pid).faulted id ≡ true → (f : Flt) (address : ℕ) → l.phase ≡ Faulted f address
      → l.control.directed ≡ true
  pub own_steps : did ≡ DidFault Trace → has_hold who s.opens pid ≡ true
  pub changes : AreTidyChanges covers pid p id l (row_for s.system pid p id l).transition.changes s.system
  pub returns : (how : Ending) → (row_for s.system pid p id l).transition.ending ≡ Some how → IsReturnable covers pid p

-- The turn of a hidden agent: it ends, and is not the last lwp; or it changes nothing but patched bytes of its memory.
pub data IsAgentMove (ps : List Patch) (p : TracedProcess) (did : Did) (t : Transition) : Type 0 where
  leaves : exits did ≡ true → t ≡ ending ends_lwp → (length p.lwps == 1) ≡ false → IsAgentMove ps p did t
  works : exits did ≡ false → t.ending ≡ None → ChangesOwn ps p.space t.changes → IsAgentMove ps p did t

pub record IsTidyTurn (who : Hiders) (covers : Covers) (s : TracedState) (pid id : ℕ) (did : Did) : Type 0 where
  pub others : (p : TracedProcess) (l : TracedLwp) → live_process s.system pid ≡ Some p → lwp_of p id ≡ Some l
      → keeps_lwp (covers pid) id ≡ true → IsTidyMove who covers s pid p id l did
  pub agents : (p : TracedProcess) (l : TracedLwp) → live_process s.system pid ≡ Some p → lwp_of p id ≡ Some l
      → keeps_lwp (covers pid) id ≡ false
      → IsAgentMove (covers pid).patches p did (row_for s.system pid p id l).transition

-- ---- tidy histories

abbrev pub IsTidyEntry : Hiders → Covers → TracedState → Entry → Type 0
IsTidyEntry who covers s e = by e.actor e.act
  where
    by : Actor → Act → Type 0
    by (Controller k) (act.Call c r) = IsTidyCall who covers s k c r
    by (Lwp pid id) (act.Turn t) = IsTidyTurn who covers s pid id t.did
    by _ _ = Unit {0}

abbrev pub IsTidy : Hiders → TracedState → List Entry → Type 0
IsTidy who s h = HoldsFrom (IsTidyEntry who) who no_covers s h
