use Rattle.pr_model.proofs.TurnLemmas.{turn-taken}
use Rattle.pr_model.specs.LwpTurns.{LwpTurn, is_held_back, turn_of}
use Rattle.pr_model.specs.Readers.{has_lent}
use Rattle.std.proofs.lemmas.Bool.{false≢true}
use Rattle.std.proofs.Common.{is_some, not, ◌==◌, ◌||◌, ◌&&◌, ◌≡◌, ◌⊎◌, ◌<◌, ◌≤◌, ◌+◌, ◌∷◌, ◌++◌, ℕ, zero, suc, Bool, true, List, [], Option, Some, None, Ok, Result, length, option_map, refl, sym, subst, ap, ◌∙◌, inl, inr, arith}
use Rattle.std.specs.List.{All}
use Rattle.std.proofs.lemmas.List.{append_assoc, append-nil}
use Rattle.std.proofs.lemmas.Option.{same_Some}
use Rattle.pr_api.specs.Entries.{call_entry}
use Rattle.pr_lawful.proofs.LawfulTurns.EndLemmas.{found-live}
use Rattle.pr_model.proofs.HistoryLemmas.{state_after-push}
use Rattle.pr_model.specs.Handles.{handle_of}
use Rattle.pr_model.specs.Lawful.{IsLawful, IsLawfulProcess}
use Rattle.pr_model.specs.Legal.{IsLegalEntry, after, state_after}
use Rattle.pr_model.specs.State.{TracedLwp, TracedProcess, TracedState, TracedSystem, live_process, lwp_of}
use Rattle.pr_model.specs.Stops.{has_event_stop}
use Rattle.pr_model.specs.declared.calls.Call.{Call}
use Rattle.pr_model.specs.declared.calls.Reply.{Reply}
use Rattle.pr_model.specs.declared.calls.Reply.TheVariants as reply
use Rattle.pr_model.specs.declared.events.Act.{Act}
use Rattle.pr_model.specs.declared.events.Actor.{Actor}
use Rattle.pr_model.specs.declared.events.Entry.{Entry}
use Rattle.pr_model.specs.declared.events.Res.{Res}
use Rattle.pr_model.specs.declared.events.Res.TheVariants.{Error, Value}
use Rattle.pr_model.specs.declared.handles.Held.{Held}
use Rattle.pr_model.specs.declared.lwps.Phase.TheVariants as phase
use Rattle.pr_num.proofs.ByIdLaws.{All-under}
use Rattle.pr_num.specs.Agents.{agent_id}
use Rattle.pr_num.specs.Files.{Descriptors, FileTable, fd_kind_number, fd_kind_of}
use Rattle.pr_num.specs.Layout.{stack_base, text_base}
use Rattle.pr_num.specs.Limits.{descriptor_limit}
use Rattle.pr_num.specs.Spaces.{Space, bytes_for}
use Rattle.pr_num.specs.Words.{word_bytes}
use Rattle.pr_num.specs.declared.errnos.Errno.{Errno}
use Rattle.pr_num.specs.declared.files.FdKind.{FdKind}
use Rattle.pr_num.specs.declared.files.OpenFile.{OpenFile}
use Rattle.pr_num.specs.declared.mappings.BadByte.{BadByte}
use Rattle.pr_num.specs.declared.messages.Message.TheVariants as message
use Rattle.pr_num.specs.declared.syscalls.Sysno.{Sysno}
use Rattle.pr_num.specs.declared.syscalls.Sysno.TheVariants.{Fstat}
use Rattle.pr_parts.specs.FileCalls.{described, stat_of}
use Rattle.pr_parts.specs.FileTables.{open_of}
use Rattle.pr_probe.specs.AgentCode.{agent_registers}
use Rattle.pr_probe.specs.ProbeStages.{place_of}
use Rattle.pr_probe.specs.Probes.{ProbeState}
use Rattle.pr_probe.specs.TracedSets.{agent_sets}
use Rattle.pr_probe.specs.declared.descriptor_lines.OpenDescriptor.{OpenDescriptor}
use Rattle.pr_probe.specs.declared.probe_stages.AskingStep.TheVariants.{SetRegisters, Run as RunAgent, Await, ReadAgent, ReadKind}
use Rattle.pr_probe.specs.declared.probe_stages.ProbeFile.TheVariants.{Control, Status, Lstatus, Map, AgentControl, AgentStatus}
use Rattle.pr_probe.specs.declared.probe_stages.ProbeStage.{ProbeStage}
use Rattle.pr_probe.specs.declared.probe_stages.ProbeStage.TheVariants as stage
use Rattle.pr_probe.specs.declared.traced_sets.SetKind.TheVariants.{Signals, Faults, Entries, Exits}
use Rattle.pr_probe.specs.declared.traced_sets.TracedSets.{TracedSets}
use Rattle.pr_reached.specs.Fits.{IsFitLwp, IsFitProcess, IsFitSystem}
use Rattle.pr_reached.specs.InRange.{IsInRange}
use Rattle.pr_tool_laws.proofs.Pstack.StackHalts.{pid-made}
use Rattle.pr_tool_laws.proofs.OwnFiles.StandingLemmas.{IsOther, others-keep}
use Rattle.pr_tool_laws.proofs.Stages.ToolLemmas.{place-still}
use Rattle.pr_tools.specs.Handles.{nothing_open}
use Rattle.pr_truss_laws.specs.Handles.{HasNoOtherWriter}
use Rattle.pr_truss_laws.specs.Stills.{IsHalting}
use Rattle.pr_probe_laws.proofs.Agents.AgentEntries.{Becomes, had_turn, is_left, lived-before, others-become, pends_as}
use Rattle.pr_probe_laws.proofs.Agents.AgentMemory.{first-bytes}
use Rattle.pr_probe_laws.proofs.Agents.AgentRows.{AfterAgent, agent-turn, goes_on, is_back}
use Rattle.pr_probe_laws.proofs.Agents.AgentTurns.{IsUnheld, IsAgent, IsFetchable, IsPlanted, IsReady, Position, Tells, calling, in_code, leaving}
use Rattle.pr_lawful.proofs.LawfulStates.HistoryLemmas.{history-state}
use Rattle.pr_probe_laws.proofs.Files.FileEntries.{entry-stay, kinds-stay}
use Rattle.pr_probe_laws.proofs.Files.FilePlaces.{HasFirst, held_of, keeps-first}
use Rattle.pr_probe_laws.proofs.Room.RoomFrames.{IsKept}
use Rattle.pr_probe_laws.proofs.Room.RoomStages.{HasBoth, HasCode, IsLooked, IsRoomy, Unlent, Where, both-kept, code-kept, looked-kept, roomy-kept, unlent-on, where-on}
use Rattle.pr_probe_laws.proofs.Sets.SetFrames.{others-sets}
use Rattle.pr_probe_laws.proofs.Sets.SetStages.{AllBack, Began, EntriesBack, FaultsBack, IsFair, NoneBack, SignalsBack, began-still, fair-front, fair-now, no-call-on, since}
use Rattle.pr_probe_laws.specs.SetsBack.{IsSoleIn, sets_on}
use Rattle.pr_probe_laws.specs.ShownDescriptors.{HasRoom, WasUnlent, descriptors_from, kind_at, open_descriptors}
use Rattle.pr_tool_laws.specs.Leaving.{IsNoCall, SendsTo}

-- The stages of apfiles, with what its agent was answered.

-- ---- what it was answered of a descriptor

-- An errno where the descriptor is not open, and else the number of its kind on the stack.
abbrev pub TellsKind : Space → Res → Option FdKind → Type 0
TellsKind space result None = (e : Errno) × (result ≡ Error e)
TellsKind space result (Some kind) =
    (result ≡ Value 0) × (bytes_for 0 space stack_base 8 ≡ Ok (word_bytes (fd_kind_number kind)))

first-word : (space : Space) (kind size offset : ℕ) → bytes_for 0 space stack_base 24
    ≡ Ok (word_bytes kind ++ word_bytes size ++ word_bytes offset)
    → bytes_for 0 space stack_base 8 ≡ Ok (word_bytes kind)
unfolding word_bytes
first-word space kind size offset is =
    first-bytes 0 space stack_base (word_bytes kind) (word_bytes size ++ word_bytes offset) is

tells-kind : (d : ℕ) (files : FileTable) (fds : Descriptors) (space : Space) (result : Res)
    → Tells space result (described files fds d) → TellsKind space result (kind_at files fds d)
unfolding described kind_at
tells-kind d files fds space result told = by (open_of files fds d) refl
  where
    by : (o : Option (ℕ × OpenFile)) → open_of files fds d ≡ o
        → TellsKind space result (option_map (λ found. fd_kind_of found.1.target) (open_of files fds d))
    by None is = rw is (rw is at told)
    by (Some found) is =
        let it : Tells space result (Ok (stat_of files found.1)) = rw is at told in
        rw is (it.0, first-word space _ _ _ it.1)

-- the agent stands, and may be sent to its code
pub data Rests (k : TracedLwp) : Type 0 where
  in_program : k.phase ≡ phase.User → Rests k
  on_its_way : (call : Sysno) (args : List ℕ) (result : Res) → k.phase ≡ phase.Exiting call args result → Rests k

pub record Stands (k : TracedLwp) : Type 0 where
  pub stands : has_event_stop k ≡ true
  pub rests : Rests k

-- it stands with the registers for a descriptor
pub record IsAsked (d : ℕ) (k : TracedLwp) : Type 0 where
  pub stands : has_event_stop k ≡ true
  pub at : Position d k

-- it stands on the exit of its call, with the answer of a descriptor of this kind
pub record HasAnswer (space : Space) (kind : Option FdKind) (k : TracedLwp) : Type 0 where
  pub stands : has_event_stop k ≡ true
  pub args : List ℕ
  pub result : Res
  pub way_out : k.phase ≡ phase.Exiting Fstat args result
  pub tells : TellsKind space result kind

-- it runs
pub record Runs (d : ℕ) (k : TracedLwp) : Type 0 where
  pub running : k.control.stop ≡ None
  pub at : Position d k

-- a process with its agent, of which something is so
pub record WithAgent (C : Result (List ℕ) BadByte → Type 0) (P : TracedLwp → Type 0) (q : TracedProcess)
    : Type 0 where
  pub ready : IsReady C q
  pub agent : TracedLwp
  pub there : lwp_of q agent_id ≡ Some agent
  pub is : IsAgent agent
  pub so : P agent

-- ---- the descriptors that were found so far

pub record HasFound (lines : List OpenDescriptor) (d : ℕ) (files : FileTable) (fds : Descriptors) : Type 0 where
  pub left : ℕ
  pub all : d + left ≡ descriptor_limit
  pub few : length lines ≤ d
  pub rest : lines ++ descriptors_from files fds d left ≡ open_descriptors files fds

-- which descriptors are open of what kind is all that matters
abbrev pub SameKinds : FileTable → Descriptors → FileTable → Descriptors → Type 0
SameKinds files fds other other_fds = (d : ℕ) → kind_at other other_fds d ≡ kind_at files fds d

from-same : (files other : FileTable) (fds other_fds : Descriptors) → SameKinds files fds other other_fds → (d n : ℕ)
    → descriptors_from other other_fds d n ≡ descriptors_from files fds d n
from-same files other fds other_fds same d zero = refl
from-same files other fds other_fds same d (suc n) =
    rw (same d, from-same files other fds other_fds same (d + 1) n) refl

open-same : (files other : FileTable) (fds other_fds : Descriptors) → SameKinds files fds other other_fds
    → open_descriptors other other_fds ≡ open_descriptors files fds
unfolding open_descriptors
open-same files other fds other_fds same = from-same files other fds other_fds same 0 descriptor_limit

pub found-still : (lines : List OpenDescriptor) (d : ℕ) (files other : FileTable) (fds other_fds : Descriptors)
    → SameKinds files fds other other_fds → HasFound lines d files fds → HasFound lines d other other_fds
found-still lines d files other fds other_fds same it = record {
  left = it.left;
  all = it.all;
  few = it.few;
  rest =
      ap (λ (xs : List OpenDescriptor). lines ++ xs) (from-same files other fds other_fds same d it.left) ∙ it.rest
      ∙ sym (open-same files other fds other_fds same);
}

-- ---- nothing of this depends on the signals that pend

module _ (l k : TracedLwp) (same : k ≡ pends_as l k) where
  pub agent-alike : IsAgent l → IsAgent k
  agent-alike is = record {
    held = ap (λ (x : TracedLwp). x.held) same ∙ is.held;
    goes = ap (λ (x : TracedLwp). x.suspended) same ∙ is.goes;
    not_directed = ap (λ (x : TracedLwp). x.control.directed) same ∙ is.not_directed;
    no_step = ap (λ (x : TracedLwp). x.control.step) same ∙ is.no_step;
    no_abort = ap (λ (x : TracedLwp). x.control.abort) same ∙ is.no_abort;
    current = subst IsUnheld (sym (ap (λ (x : TracedLwp). x.current) same)) is.current;
  }

  phases : k.phase ≡ l.phase
  phases = ap (λ (x : TracedLwp). x.phase) same

  stops : has_event_stop k ≡ has_event_stop l
  stops = ap has_event_stop same

  position-alike : (d : ℕ) → Position d l → Position d k
  position-alike d (leaving call args result is asked) =
      leaving call args result (phases ∙ is) (ap (λ (x : TracedLwp). x.regs) same ∙ asked)
  position-alike d (in_code is asked) = in_code (phases ∙ is) (ap (λ (x : TracedLwp). x.regs) same ∙ asked)
  position-alike d (calling is asked) = calling (phases ∙ is) (ap (λ (x : TracedLwp). x.regs) same ∙ asked)

  rests-alike : Rests l → Rests k
  rests-alike (in_program is) = in_program (phases ∙ is)
  rests-alike (on_its_way call args result is) = on_its_way call args result (phases ∙ is)

  pub stands-alike : Stands l → Stands k
  stands-alike it = record { stands = stops ∙ it.stands; rests = rests-alike it.rests }

  pub asked-alike : (d : ℕ) → IsAsked d l → IsAsked d k
  asked-alike d it = record { stands = stops ∙ it.stands; at = position-alike d it.at }

  pub answer-alike : (space : Space) (kind : Option FdKind) → HasAnswer space kind l → HasAnswer space kind k
  answer-alike space kind it = record {
    stands = stops ∙ it.stands;
    args = it.args;
    result = it.result;
    way_out = phases ∙ it.way_out;
    tells = it.tells;
  }

  pub runs-alike : (d : ℕ) → Runs d l → Runs d k
  runs-alike d it = record {
    running = ap (λ (x : TracedLwp). x.control.stop) same ∙ it.running;
    at = position-alike d it.at;
  }

-- an lwp that stands has no turn
pub stands-still : (s : TracedSystem) (pid : ℕ) (p : TracedProcess) (l : TracedLwp) → live_process s pid ≡ Some p
    → lwp_of p agent_id ≡ Some l → has_event_stop l ≡ true → (t : LwpTurn) → turn_of s pid agent_id ≡ Some t → ⊥
unfolding is_held_back
stands-still s pid p l live there stands t turn =
    let it = turn-taken s pid agent_id t turn in
    let same : it.process ≡ p = same_Some it.process p (sym it.live ∙ live) in
    let its : it.lwp ≡ l =
    same_Some it.lwp l (sym it.there ∙ ap (λ (y : TracedProcess). lwp_of y agent_id) same ∙ there) in
    let on : has_event_stop it.lwp ≡ true = ap has_event_stop its ∙ stands in
    false≢true (sym it.free
    ∙ ap (λ (b : Bool).
    b || (it.lwp.suspended || ((is_some it.process.job_stop && not (agent_id == agent_id))
    || (has_lent it.process && not it.lwp.control.directed)))) on)

module _ (k pid : ℕ) (first : TracedState) where
  -- ---- the agent was made

  pub record Making (h : List Entry) : Type 0 where
    pub front : List Entry
    pub began : Began k pid first front
    pub make : Call
    pub made : Reply
    pub granted : (used : ℕ) × (made ≡ reply.Used used)
    pub asked : List Entry
    pub place : h ≡ front ++ call_entry k make made ∷ asked
    pub makes : SendsTo k pid (message.Agent (agent_registers 0 text_base)) [] (state_after first front) make
    pub process : TracedProcess
    pub lives : live_process (state_after first front).system pid ≡ Some process

  abbrev pub asking : (h : List Entry) → Making h → List Entry
  asking h m = call_entry k m.make m.made ∷ m.asked

  abbrev pub making-still : (h : List Entry) (e : Entry) → Making h → Making (h ++ e ∷ [])
  making-still h e m = record {
    front = m.front;
    began = m.began;
    make = m.make;
    made = m.made;
    granted = m.granted;
    asked = m.asked ++ e ∷ [];
    place = place-still h m.front (call_entry k m.make m.made) m.asked e m.place;
    makes = m.makes;
    process = m.process;
    lives = m.lives;
  }

  -- all entries since it began to open its files
  abbrev pub whole : (h : List Entry) → Making h → List Entry
  whole h m = since k pid first m.front m.began ++ asking h m

  pub whole-place : (h : List Entry) (m : Making h) → h ≡ m.began.before ++ whole h m
  whole-place h m =
      m.place ∙ ap (λ (es : List Entry). es ++ asking h m) m.began.place
      ∙ append_assoc m.began.before (since k pid first m.front m.began) (asking h m)

  -- ---- on which conditions

  pub record IsRanged (s : TracedSystem) : Type 0 where
    pub range : IsInRange s
    pub fit : IsFitSystem s

  -- No other controller has the process open for writing since then, the process had lent its memory to nobody when its
  -- status was read, or there was room for the agent all the same, and each state is in range and fit.
  pub record IsAsking (h : List Entry) (m : Making h) : Type 0 where
    pub sole : IsSoleIn k pid first m.began.before (whole h m)
    pub room : WasUnlent k pid first m.front ⊎ HasRoom m.process
    pub ranged : (front back : List Entry) → h ≡ front ++ back → IsRanged (state_after first front).system

  pub sole-now : (h : List Entry) (m : Making h) → IsAsking h m → HasNoOtherWriter k pid (state_after first h).opens
  sole-now h m ask =
      subst (λ (es : List Entry). HasNoOtherWriter k pid (state_after first es).opens) (sym (whole-place h m))
      (ask.sole.each (whole h m) [] (sym (append-nil (whole h m))))

  pub ranged-now : (h : List Entry) (m : Making h) → IsAsking h m → IsRanged (state_after first h).system
  ranged-now h m ask = ask.ranged h [] (sym (append-nil h))

  -- an entry earlier
  module _ (h : List Entry) (e : Entry) (m : Making h) where
    abbrev longer : List Entry
    longer = h ++ e ∷ []

    abbrev more : Making longer
    more = making-still h e m

    split-more : (all front back : List Entry) → all ≡ front ++ back → all ++ e ∷ [] ≡ front ++ (back ++ e ∷ [])
    split-more all front back split =
        ap (λ (es : List Entry). es ++ e ∷ []) split ∙ append_assoc front back (e ∷ [])

    whole-more : whole longer more ≡ whole h m ++ e ∷ []
    whole-more = sym (append_assoc (since k pid first m.front m.began) (asking h m) (e ∷ []))

    pub asking-front : IsAsking longer more → IsAsking h m
    asking-front ask = record {
      sole = record {
        each = λ front back split.
            ask.sole.each front (back ++ e ∷ []) (whole-more ∙ split-more (whole h m) front back split);
      };
      room = ask.room;
      ranged = λ front back split. ask.ranged front (back ++ e ∷ []) (split-more h front back split);
    }

  -- ---- what is known

  -- so many files are open, nothing is noted, and this is so where no other has the process open for writing
  pub record Comes (h : List Entry) (s : TracedState) (p : ProbeState) (many : ℕ)
      (F : TracedSystem → Type 0) : Type 0 where
    pub began : Began k pid first h
    pub its : p.pid ≡ pid
    pub none : p.lines ≡ []
    pub holds : HasFirst k pid many s.opens p.opened
    pub so : IsFair k pid first h began → F s.system

  -- the agent was made, and this is so of its process on the conditions
  pub record Asks (h : List Entry) (s : TracedState) (p : ProbeState) (many : ℕ)
      (X : TracedSystem → TracedProcess → Type 0) : Type 0 where
    pub making : Making h
    pub its : p.pid ≡ pid
    pub holds : HasFirst k pid many s.opens p.opened
    pub so : IsAsking h making → (q : TracedProcess) → live_process s.system pid ≡ Some q → X s.system q

  abbrev pub Nothing : TracedSystem → Type 0
  Nothing s = Unit {0}

  -- these of the sets are those of the agent
  abbrev pub TracesSo : (TracedSets → TracedSets → Type 0) → TracedSystem → Type 0
  TracesSo R s = (q : TracedProcess) → live_process s pid ≡ Some q → R agent_sets (sets_on q)

  -- and there is room for the agent, with all saved, unless the process had lent its memory
  abbrev pub TracesWith : List Entry → ProbeState → (TracedSets → TracedSets → Type 0) → TracedSystem → Type 0
  TracesWith h p R s = TracesSo R s × Unlent k pid first h (HasBoth p) s

  -- the agent stands, and nothing was asked
  abbrev pub IsMade : List OpenDescriptor → TracedSystem → TracedProcess → Type 0
  IsMade lines s q = (lines ≡ []) × WithAgent IsFetchable Stands q

  -- so much was found before a descriptor
  abbrev pub FoundBefore : List OpenDescriptor → ℕ → TracedSystem → TracedProcess → Type 0
  FoundBefore lines d s q = (d < descriptor_limit) × HasFound lines d s.files q.fds

  abbrev pub IsFree : List OpenDescriptor → ℕ → TracedSystem → TracedProcess → Type 0
  IsFree lines d s q = WithAgent IsPlanted Stands q × FoundBefore lines d s q

  abbrev pub IsToAsk : List OpenDescriptor → ℕ → TracedSystem → TracedProcess → Type 0
  IsToAsk lines d s q = WithAgent IsPlanted (IsAsked d) q × FoundBefore lines d s q

  abbrev pub IsBack : ℕ → TracedSystem → TracedProcess → Type 0
  IsBack d s q = WithAgent IsPlanted (HasAnswer q.space (kind_at s.files q.fds d)) q

  abbrev pub IsOut : List OpenDescriptor → ℕ → TracedSystem → TracedProcess → Type 0
  IsOut lines d s q = (WithAgent IsPlanted (Runs d) q ⊎ IsBack d s q) × FoundBefore lines d s q

  abbrev pub IsAnsweredOf : List OpenDescriptor → ℕ → TracedSystem → TracedProcess → Type 0
  IsAnsweredOf lines d s q = IsBack d s q × FoundBefore lines d s q

  pub record IsKnown (lines : List OpenDescriptor) (d : ℕ) (s : TracedSystem) (q : TracedProcess) : Type 0 where
    pub kind : FdKind
    pub is_open : kind_at s.files q.fds d ≡ Some kind
    pub back : IsBack d s q
    pub found : FoundBefore lines d s q

  abbrev pub IsAll : List OpenDescriptor → TracedSystem → TracedProcess → Type 0
  IsAll lines s q = WithAgent IsPlanted Stands q × (lines ≡ open_descriptors s.files q.fds)

  -- all was asked
  pub record HasShown (h : List Entry) (lines : List OpenDescriptor) : Type 0 where
    pub front : List Entry
    pub making : Making front
    pub call : Call
    pub reply : Reply
    pub after : List Entry
    pub place : h ≡ front ++ call_entry k call reply ∷ after
    pub untraces : SendsTo k pid (message.Sexit 0) [] (state_after first front) call
    pub process : TracedProcess
    pub lives : live_process (state_after first front).system pid ≡ Some process
    pub so : IsAsking front making → IsAll lines (state_after first front).system process

  pub shown-still : (h : List Entry) (e : Entry) (lines : List OpenDescriptor) → HasShown h lines
      → HasShown (h ++ e ∷ []) lines
  shown-still h e lines it = record {
    front = it.front;
    making = it.making;
    call = it.call;
    reply = it.reply;
    after = it.after ++ e ∷ [];
    place = place-still h it.front (call_entry k it.call it.reply) it.after e it.place;
    untraces = it.untraces;
    process = it.process;
    lives = it.lives;
    so = it.so;
  }

  -- what is so at a stage of a probe that was not refused
  unfoldable pub Reads : List Entry → TracedState → ProbeState → ProbeStage → Type 0
  Reads h s p (stage.Open Control) = (p.pid ≡ pid) × (p.opened ≡ nothing_open) × (p.lines ≡ [])
      × All (IsNoCall k) h
  Reads h s p (stage.Open Status) = Comes h s p 1 Nothing
  Reads h s p (stage.Open Lstatus) = Comes h s p 2 Nothing
  Reads h s p (stage.Open Map) = Comes h s p 3 Nothing
  Reads h s p (stage.Open AgentControl) = Asks h s p 4 (IsMade p.lines)
  Reads h s p (stage.Open AgentStatus) = Asks h s p 5 (IsMade p.lines)
  Reads h s p stage.ReadFirst = Comes h s p 4 Nothing
  Reads h s p stage.Stop = Comes h s p 4 Nothing
  Reads h s p stage.AwaitStop = Comes h s p 4 (Where pid IsHalting)
  Reads h s p stage.ReadStatus = Comes h s p 4 (Where pid IsHalting)
  Reads h s p stage.ReadMap = Comes h s p 4 (Unlent k pid first h (IsLooked p))
  Reads h s p stage.SaveCode = Comes h s p 4 (Unlent k pid first h IsRoomy)
  Reads h s p stage.SaveStack = Comes h s p 4 (Unlent k pid first h (HasCode p))
  Reads h s p (stage.Trace Signals) = Comes h s p 4 (TracesWith h p NoneBack)
  Reads h s p (stage.Trace Faults) = Comes h s p 4 (TracesWith h p SignalsBack)
  Reads h s p (stage.Trace Entries) = Comes h s p 4 (TracesWith h p FaultsBack)
  Reads h s p (stage.Trace Exits) = Comes h s p 4 (TracesWith h p EntriesBack)
  Reads h s p stage.MakeAgent = Comes h s p 4 (TracesWith h p AllBack)
  Reads h s p stage.PlantCode = Asks h s p 6 (IsMade p.lines)
  Reads h s p (stage.Asking d SetRegisters) = Asks h s p 6 (IsFree p.lines d)
  Reads h s p (stage.Asking d RunAgent) = Asks h s p 6 (IsToAsk p.lines d)
  Reads h s p (stage.Asking d Await) = Asks h s p 6 (IsOut p.lines d)
  Reads h s p (stage.Asking d ReadAgent) = Asks h s p 6 (IsAnsweredOf p.lines d)
  Reads h s p (stage.Asking d ReadKind) = Asks h s p 6 (IsKnown p.lines d)
  Reads h s p stage.UntraceExits = Asks h s p 6 (IsAll p.lines)
  Reads h s p (stage.Restore kind) = ⊥
  Reads h s p stage.Release = ⊥
  Reads h s p _ = (p.pid ≡ pid) × HasShown h p.lines

  -- ---- what others do

  module _ (n : ℕ) (h : List Entry) (lawful : IsLawful (state_after first h)) (actor : Actor) (it : Act)
      (legal : IsLegalEntry n (state_after first h) (record { actor = actor; act = it }))
      (other : IsOther k actor it) where
    abbrev s : TracedState
    s = state_after first h

    abbrev e : Entry
    e = record { actor = actor; act = it }

    abbrev next : TracedState
    next = after s e

    next-is : next ≡ state_after first (h ++ e ∷ [])
    next-is = sym (state_after-push first h e)

    handles-stay : (number : ℕ) (held : Held) → held.controller ≡ k → handle_of s.opens k number ≡ Some held
        → handle_of next.opens k number ≡ Some held
    handles-stay number held own stands =
        let own_stands : handle_of s.opens held.controller number ≡ Some held =
        subst (λ (j : ℕ). handle_of s.opens j number ≡ Some held) (sym own) stands in
        subst (λ (j : ℕ). handle_of next.opens j number ≡ Some held) own
        (others-keep number held n s actor it legal (subst (λ (j : ℕ). IsOther j actor it) (sym own) other) own_stands)

    module _ (p : ProbeState) (many : ℕ) (some : 0 < many) (holds : HasFirst k pid many s.opens p.opened) where
      made : pid < s.system.made
      unfolding place_of
      made =
          let control = holds.each Control some in
          pid-made s control.number (held_of k pid Control) lawful control.stands

      -- ---- before the agent

      comes-on : (F G : TracedSystem → Type 0)
          → ((b : Began k pid first h) → IsFair k pid first h b → F s.system → G next.system)
          → Comes h s p many F → Comes (h ++ e ∷ []) next p many G
      comes-on F G on before = record {
        began = began-still k pid first h e before.began;
        its = before.its;
        none = before.none;
        holds = keeps-first k pid many s.opens next.opens p.opened handles-stay before.holds;
        so = λ fair.
            let front = fair-front k pid first h e before.began fair in on before.began front (before.so front);
      }

      traces-on : (R : TracedSets → TracedSets → Type 0) (b : Began k pid first h) → IsFair k pid first h b
          → TracesSo R s.system → TracesSo R next.system
      traces-on R b fair before q live =
          let w = others-sets n s k pid lawful (fair-now k pid first h b fair) made actor it legal other q live in
          subst (R agent_sets) (sym w.same) (before w.process w.lived)

      -- ---- with the agent

      asks-on : (X Y : TracedSystem → TracedProcess → Type 0)
          → ((m : Making h) → IsAsking (h ++ e ∷ []) (making-still h e m) → (x q : TracedProcess)
          → live_process s.system pid ≡ Some x → live_process next.system pid ≡ Some q → X s.system x
          → Y next.system q)
          → Asks h s p many X → Asks (h ++ e ∷ []) next p many Y
      asks-on X Y on before = record {
        making = making-still h e before.making;
        its = before.its;
        holds = keeps-first k pid many s.opens next.opens p.opened handles-stay before.holds;
        so = λ ask q live.
            let front : IsAsking h before.making = asking-front h e before.making ask in
            let sole = sole-now h before.making front in
            let was = lived-before agent_sets.exits IsPlanted n s k pid lawful sole made actor it legal q live in
            on before.making ask was.0 q was.1 live (before.so front was.0 was.1);
      }

    module _ (m : Making h) (ask : IsAsking (h ++ e ∷ []) (making-still h e m)) (x q : TracedProcess)
        (before : live_process s.system pid ≡ Some x) (later : live_process next.system pid ≡ Some q) where
      front : IsAsking h m
      front = asking-front h e m ask

      becomes : (C : Result (List ℕ) BadByte → Type 0) → IsReady C x → (l : TracedLwp) → lwp_of x agent_id ≡ Some l
          → Becomes agent_sets.exits C s.system pid x l q
      becomes C ready l there =
          others-become agent_sets.exits C n s k pid lawful (sole-now h m front) x before ready l there actor it legal
          other q later

      kinds : q.fds ≡ x.fds → SameKinds s.system.files x.fds next.system.files q.fds
      kinds same =
          kinds-stay s.system next.system pid x q lawful.system (history-state n s (e ∷ []) lawful (legal, tt)).system
          before later same (entry-stay n s actor it legal)

      -- an agent that stands is left so
      record Rested (C : Result (List ℕ) BadByte → Type 0) (P : TracedLwp → Type 0) : Type 0 where
        with_agent : WithAgent C P q
        fds : q.fds ≡ x.fds
        space : q.space ≡ x.space

      rested : (C : Result (List ℕ) BadByte → Type 0) (P : TracedLwp → Type 0)
          → ((l j : TracedLwp) → j ≡ pends_as l j → P l → P j) → ((l : TracedLwp) → P l → has_event_stop l ≡ true)
          → WithAgent C P x → Rested C P
      rested C P alike stands w = by (becomes C w.ready w.agent w.there)
        where
          by : Becomes agent_sets.exits C s.system pid x w.agent q → Rested C P
          by (is_left left) = record {
            with_agent = record {
              ready = left.ready;
              agent = left.agent;
              there = left.there;
              is = agent-alike w.agent left.agent left.same w.is;
              so = alike w.agent left.agent left.same w.so;
            };
            fds = left.fds;
            space = left.space;
          }
          by (had_turn t turn now) =
              absurd (stands-still s.system pid x w.agent before w.there (stands w.agent w.so) t turn)

      still-found : (lines : List OpenDescriptor) (d : ℕ) → q.fds ≡ x.fds → FoundBefore lines d s.system x
          → FoundBefore lines d next.system q
      still-found lines d same found =
          (found.0, found-still lines d s.system.files next.system.files x.fds q.fds (kinds same) found.1)

      made-still : (lines : List OpenDescriptor) → IsMade lines s.system x → IsMade lines next.system q
      made-still lines was =
          (was.0, (rested IsFetchable Stands stands-alike (λ l it. it.stands) was.1).with_agent)

      free-still : (lines : List OpenDescriptor) (d : ℕ) → IsFree lines d s.system x → IsFree lines d next.system q
      free-still lines d was =
          let r = rested IsPlanted Stands stands-alike (λ l it. it.stands) was.0 in
          (r.with_agent, still-found lines d r.fds was.1)

      to_ask-still : (lines : List OpenDescriptor) (d : ℕ) → IsToAsk lines d s.system x → IsToAsk lines d next.system q
      to_ask-still lines d was =
          let r = rested IsPlanted (IsAsked d) (λ l j same. asked-alike l j same d) (λ l it. it.stands) was.0 in
          (r.with_agent, still-found lines d r.fds was.1)

      back-still : (d : ℕ) → IsBack d s.system x → IsBack d next.system q × (q.fds ≡ x.fds)
      back-still d was =
          let P : TracedLwp → Type 0 = HasAnswer x.space (kind_at s.system.files x.fds d) in
          let r =
          rested IsPlanted P (λ l j same. answer-alike l j same x.space (kind_at s.system.files x.fds d))
          (λ l it. it.stands) was in
          let kind : kind_at next.system.files q.fds d ≡ kind_at s.system.files x.fds d = kinds r.fds d in (
            subst (λ (o : Option FdKind). WithAgent IsPlanted (HasAnswer q.space o) q) (sym kind)
                (subst (λ (sp : Space). WithAgent IsPlanted (HasAnswer sp (kind_at s.system.files x.fds d)) q)
                (sym r.space) r.with_agent),
            r.fds,
          )

      answered-still : (lines : List OpenDescriptor) (d : ℕ) → IsAnsweredOf lines d s.system x
          → IsAnsweredOf lines d next.system q
      answered-still lines d was =
          let r = back-still d was.0 in (r.0, still-found lines d r.1 was.1)

      known-still : (lines : List OpenDescriptor) (d : ℕ) → IsKnown lines d s.system x → IsKnown lines d next.system q
      known-still lines d was =
          let r = back-still d was.back in
          record {
            kind = was.kind;
            is_open = kinds r.1 d ∙ was.is_open;
            back = r.0;
            found = still-found lines d r.1 was.found;
          }

      all-still : (lines : List OpenDescriptor) → IsAll lines s.system x → IsAll lines next.system q
      all-still lines was =
          let r = rested IsPlanted Stands stands-alike (λ l it. it.stands) was.0 in (
            r.with_agent,
            was.1 ∙ sym (open-same s.system.files next.system.files x.fds q.fds (kinds r.fds)),
          )

      -- an agent that runs goes on, or comes back
      own : IsLawfulProcess (pid, x)
      own =
          All-under IsLawfulProcess pid x s.system.processes lawful.system.processes
          (found-live s.system pid x before).0

      fits : IsFitProcess x
      fits =
          All-under (λ (d : ℕ × TracedProcess). IsFitProcess d.1) pid x s.system.processes
          (ranged-now h m front).fit.processes (found-live s.system pid x before).0

      turned-so : (d : ℕ) → (y : TracedProcess) → q.fds ≡ x.fds → IsReady IsPlanted q
          → AfterAgent d s.system.files x q
          → WithAgent IsPlanted (Runs d) q ⊎ IsBack d next.system q
      turned-so d y same ready (goes_on j there is running at) =
          inl (record {
            ready = ready;
            agent = j;
            there = there;
            is = is;
            so = record { running = running; at = at };
          })
      turned-so d y same ready (is_back j there is told) =
          let kind : kind_at next.system.files q.fds d ≡ kind_at s.system.files x.fds d = kinds same d in
          inr (record {
            ready = ready;
            agent = j;
            there = there;
            is = is;
            so = record {
              stands = told.stands;
              args = told.args;
              result = told.result;
              way_out = told.way_out;
              tells =
                  subst (TellsKind q.space told.result) (sym kind)
                  (tells-kind d s.system.files x.fds q.space told.result told.tells);
            };
          })

      runs-still : (lines : List OpenDescriptor) (d : ℕ) → WithAgent IsPlanted (Runs d) x
          → FoundBefore lines d s.system x → IsOut lines d next.system q
      runs-still lines d w found = by (becomes IsPlanted w.ready w.agent w.there)
        where
          by : Becomes agent_sets.exits IsPlanted s.system pid x w.agent q → IsOut lines d next.system q
          by (is_left left) = (
            inl (record {
              ready = left.ready;
              agent = left.agent;
              there = left.there;
              is = agent-alike w.agent left.agent left.same w.is;
              so = runs-alike w.agent left.agent left.same d w.so;
            }),
            still-found lines d left.fds found,
          )
          by (had_turn t turn now) =
              let lwp =
              All-under (λ (j : ℕ × TracedLwp). IsFitLwp j.1) agent_id w.agent x.lwps fits.lwps w.there in
              let turned =
              agent-turn d s.system pid x w.agent before w.there w.ready w.is w.so.at w.so.running own.uncaught
              lwp.pending fits.pending t turn q now in
              (turned-so d x turned.fds turned.ready turned.after, still-found lines d turned.fds found)

      out-still : (lines : List OpenDescriptor) (d : ℕ) → IsOut lines d s.system x → IsOut lines d next.system q
      out-still lines d was = by was.0
        where
          by : WithAgent IsPlanted (Runs d) x ⊎ IsBack d s.system x → IsOut lines d next.system q
          by (inl runs) = runs-still lines d runs was.1
          by (inr back) = let r = back-still d back in (inr r.0, still-found lines d r.1 was.1)

    nothing-on : (p : ProbeState) (many : ℕ) → 0 < many → Comes h s p many Nothing
        → Comes (h ++ e ∷ []) next p many Nothing
    nothing-on p many some so = comes-on p many some so.holds Nothing Nothing (λ b fair known. tt) so

    sets-on-still : (R : TracedSets → TracedSets → Type 0) (p : ProbeState) → Comes h s p 4 (TracesWith h p R)
        → Comes (h ++ e ∷ []) next p 4 (TracesWith (h ++ e ∷ []) p R)
    sets-on-still R p so =
        comes-on p 4 (omega arith) so.holds (TracesWith h p R) (TracesWith (h ++ e ∷ []) p R)
        (λ b fair known. (
          traces-on p 4 (omega arith) so.holds R b fair known.0,
          unlent-on k pid first n h lawful actor it legal other (made p 4 (omega arith) so.holds) b fair (HasBoth p)
              (λ x here. here.roomy.still.halts) (λ x q kept here. both-kept x q kept p here) known.1,
        )) so

    halts-on : (p : ProbeState) → Comes h s p 4 (Where pid IsHalting)
        → Comes (h ++ e ∷ []) next p 4 (Where pid IsHalting)
    halts-on p so =
        comes-on p 4 (omega arith) so.holds (Where pid IsHalting) (Where pid IsHalting)
        (λ b fair known.
        where-on k pid first n h lawful actor it legal other (made p 4 (omega arith) so.holds) b fair IsHalting
        (λ x here. here) (λ x q kept here. kept.halts) known) so

    unlent-still : (P : TracedProcess → Type 0) → ((x : TracedProcess) → P x → IsHalting x)
        → ((x q : TracedProcess) → IsKept x q → P x → P q) → (p : ProbeState)
        → Comes h s p 4 (Unlent k pid first h P) → Comes (h ++ e ∷ []) next p 4 (Unlent k pid first (h ++ e ∷ []) P)
    unlent-still P halts keeps p so =
        comes-on p 4 (omega arith) so.holds (Unlent k pid first h P) (Unlent k pid first (h ++ e ∷ []) P)
        (λ b fair known.
        unlent-on k pid first n h lawful actor it legal other (made p 4 (omega arith) so.holds) b fair P halts keeps
        known) so

    pub reads-still : (p : ProbeState) (g : ProbeStage) → Reads h s p g → Reads (h ++ e ∷ []) next p g
    unfolding Reads
    reads-still p (stage.Open Control) so =
        (so.0, so.1, so.2, no-call-on k pid first h actor it other so.3)
    reads-still p (stage.Open Status) so = nothing-on p 1 (omega arith) so
    reads-still p (stage.Open Lstatus) so = nothing-on p 2 (omega arith) so
    reads-still p (stage.Open Map) so = nothing-on p 3 (omega arith) so
    reads-still p (stage.Open AgentControl) so =
        asks-on p 4 (omega arith) so.holds (IsMade p.lines) (IsMade p.lines)
        (λ m ask x q before later. made-still m ask x q before later p.lines) so
    reads-still p (stage.Open AgentStatus) so =
        asks-on p 5 (omega arith) so.holds (IsMade p.lines) (IsMade p.lines)
        (λ m ask x q before later. made-still m ask x q before later p.lines) so
    reads-still p stage.ReadFirst so = nothing-on p 4 (omega arith) so
    reads-still p stage.Stop so = nothing-on p 4 (omega arith) so
    reads-still p stage.AwaitStop so =
        halts-on p so
    reads-still p stage.ReadStatus so =
        halts-on p so
    reads-still p stage.ReadMap so =
        unlent-still (IsLooked p) (λ x here. here.still.halts) (λ x q kept here. looked-kept x q kept p here) p so
    reads-still p stage.SaveCode so =
        unlent-still IsRoomy (λ x here. here.still.halts) (λ x q kept here. roomy-kept x q kept here) p so
    reads-still p stage.SaveStack so =
        unlent-still (HasCode p) (λ x here. here.roomy.still.halts) (λ x q kept here. code-kept x q kept p here) p so
    reads-still p (stage.Trace Signals) so = sets-on-still NoneBack p so
    reads-still p (stage.Trace Faults) so = sets-on-still SignalsBack p so
    reads-still p (stage.Trace Entries) so = sets-on-still FaultsBack p so
    reads-still p (stage.Trace Exits) so = sets-on-still EntriesBack p so
    reads-still p stage.MakeAgent so = sets-on-still AllBack p so
    reads-still p stage.PlantCode so =
        asks-on p 6 (omega arith) so.holds (IsMade p.lines) (IsMade p.lines)
        (λ m ask x q before later. made-still m ask x q before later p.lines) so
    reads-still p (stage.Asking d SetRegisters) so =
        asks-on p 6 (omega arith) so.holds (IsFree p.lines d) (IsFree p.lines d)
        (λ m ask x q before later. free-still m ask x q before later p.lines d) so
    reads-still p (stage.Asking d RunAgent) so =
        asks-on p 6 (omega arith) so.holds (IsToAsk p.lines d) (IsToAsk p.lines d)
        (λ m ask x q before later. to_ask-still m ask x q before later p.lines d) so
    reads-still p (stage.Asking d Await) so =
        asks-on p 6 (omega arith) so.holds (IsOut p.lines d) (IsOut p.lines d)
        (λ m ask x q before later. out-still m ask x q before later p.lines d) so
    reads-still p (stage.Asking d ReadAgent) so =
        asks-on p 6 (omega arith) so.holds (IsAnsweredOf p.lines d) (IsAnsweredOf p.lines d)
        (λ m ask x q before later. answered-still m ask x q before later p.lines d) so
    reads-still p (stage.Asking d ReadKind) so =
        asks-on p 6 (omega arith) so.holds (IsKnown p.lines d) (IsKnown p.lines d)
        (λ m ask x q before later. known-still m ask x q before later p.lines d) so
    reads-still p stage.UntraceExits so =
        asks-on p 6 (omega arith) so.holds (IsAll p.lines) (IsAll p.lines)
        (λ m ask x q before later. all-still m ask x q before later p.lines) so
    reads-still p (stage.Restore kind) so = so
    reads-still p stage.Release so = so
    reads-still p _ so = (so.0, shown-still h e p.lines so.1)
