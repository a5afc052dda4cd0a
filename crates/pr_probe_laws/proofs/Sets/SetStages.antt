use Rattle.std.proofs.Common.{◌≡◌, ◌⊎◌, ◌<◌, ◌∷◌, ◌++◌, ℕ, List, [], Some, sym, subst, ap, ◌∙◌, inl, inr, arith}
use Rattle.std.proofs.lemmas.List.Elements.{All-append, All-cons, All-nil}
use Rattle.std.specs.List.{All}
use Rattle.std.proofs.lemmas.List.{append_assoc, append-nil}
use Rattle.pr_api.specs.Entries.{call_entry}
use Rattle.pr_model.specs.Handles.{handle_of}
use Rattle.pr_model.specs.Lawful.{IsLawful}
use Rattle.pr_model.specs.Legal.{IsLegalEntry, after, state_after}
use Rattle.pr_model.specs.State.{TracedProcess, TracedState, TracedSystem, live_process}
use Rattle.pr_model.specs.declared.calls.Call.{Call}
use Rattle.pr_model.specs.declared.calls.Call.TheVariants as call
use Rattle.pr_model.specs.declared.calls.Reply.{Reply}
use Rattle.pr_model.specs.declared.events.Act.{Act}
use Rattle.pr_model.specs.declared.events.Act.TheVariants as act
use Rattle.pr_model.specs.declared.events.Actor.{Actor}
use Rattle.pr_model.specs.declared.events.Actor.TheVariants.{Controller, Lwp, Clock}
use Rattle.pr_model.specs.declared.events.Entry.{Entry}
use Rattle.pr_model.specs.declared.handles.Held.{Held}
use Rattle.pr_probe.specs.ProbeStages.{place_of}
use Rattle.pr_probe.specs.Probes.{ProbeState}
use Rattle.pr_probe.specs.declared.probe_stages.ProbeFile.TheVariants.{Control, Status, Lstatus, Map, AgentControl, AgentStatus}
use Rattle.pr_probe.specs.declared.probe_stages.ProbeStage.{ProbeStage}
use Rattle.pr_probe.specs.declared.probe_stages.ProbeStage.TheVariants as stage
use Rattle.pr_probe.specs.declared.traced_sets.SetKind.TheVariants.{Signals, Faults, Entries, Exits}
use Rattle.pr_probe.specs.declared.traced_sets.TracedSets.{TracedSets}
use Rattle.pr_reached.specs.InRange.{IsInRange}
use Rattle.pr_tool_laws.proofs.Pstack.StackHalts.{pid-made}
use Rattle.pr_tool_laws.proofs.OwnFiles.StandingLemmas.{IsOther, others-keep}
use Rattle.pr_tool_laws.proofs.Stages.ToolLemmas.{place-still}
use Rattle.pr_tools.specs.Handles.{nothing_open}
use Rattle.pr_truss_laws.specs.Handles.{HasNoOtherWriter}
use Rattle.pr_probe_laws.proofs.Files.FilePlaces.{HasFirst, held_of, keeps-first}
use Rattle.pr_probe_laws.proofs.Sets.SetFrames.{others-sets}
use Rattle.pr_probe_laws.proofs.Sets.SetMessages.{AreProper}
use Rattle.pr_probe_laws.specs.SetsBack.{HoldsControl, IsSoleIn, WasTraced, opening_entry, sets_on}
use Rattle.pr_tool_laws.specs.Leaving.{ClosesAtMost, IsNoCall}

-- The stages of apfiles, with what it knows of the sets by which its process was traced when it came.

-- sets that a process can have
abbrev pub IsProper : TracedSets → Type 0
IsProper sets = AreProper sets.signals sets.faults sets.entries sets.exits

-- which of the sets are back
abbrev pub NoneBack : TracedSets → TracedSets → Type 0
NoneBack noted now = Unit {0}

abbrev pub SignalsBack : TracedSets → TracedSets → Type 0
SignalsBack noted now = now.signals ≡ noted.signals

abbrev pub FaultsBack : TracedSets → TracedSets → Type 0
FaultsBack noted now = SignalsBack noted now × (now.faults ≡ noted.faults)

abbrev pub EntriesBack : TracedSets → TracedSets → Type 0
EntriesBack noted now = FaultsBack noted now × (now.entries ≡ noted.entries)

abbrev pub AllBack : TracedSets → TracedSets → Type 0
AllBack noted now = EntriesBack noted now × (now.exits ≡ noted.exits)

module _ (k pid : ℕ) (first : TracedState) where
  -- apfiles has opened the control file; what came since then
  pub record Began (h : List Entry) : Type 0 where
    pub before : List Entry
    pub opened : Reply
    pub later : List Entry
    pub place : h ≡ before ++ opening_entry k pid opened ∷ later
    pub first_call : All (IsNoCall k) before

  abbrev pub since : (h : List Entry) → Began h → List Entry
  since h b = opening_entry k pid b.opened ∷ b.later

  -- the system that its first call found
  abbrev pub found : (h : List Entry) → Began h → TracedSystem
  found h b = (state_after first b.before).system

  abbrev pub began-still : (h : List Entry) (e : Entry) → Began h → Began (h ++ e ∷ [])
  began-still h e b = record {
    before = b.before;
    opened = b.opened;
    later = b.later ++ e ∷ [];
    place = place-still h b.before (opening_entry k pid b.opened) b.later e b.place;
    first_call = b.first_call;
  }

  -- ---- under which conditions

  -- no other controller has the process open for writing since then, and each state is in range
  pub record IsFair (h : List Entry) (b : Began h) : Type 0 where
    pub sole : IsSoleIn k pid first b.before (since h b)
    pub ranged : (front back : List Entry) → h ≡ front ++ back → IsInRange (state_after first front).system

  split-more : (whole front back : List Entry) (e : Entry) → whole ≡ front ++ back
      → whole ++ e ∷ [] ≡ front ++ (back ++ e ∷ [])
  split-more whole front back e split =
      ap (λ (es : List Entry). es ++ e ∷ []) split ∙ append_assoc front back (e ∷ [])

  pub fair-front : (h : List Entry) (e : Entry) (b : Began h) → IsFair (h ++ e ∷ []) (began-still h e b) → IsFair h b
  fair-front h e b fair = record {
    sole = record {
      each = λ front back split.
          fair.sole.each front (back ++ e ∷ []) (split-more (since h b) front back e split);
    };
    ranged = λ front back split. fair.ranged front (back ++ e ∷ []) (split-more h front back e split);
  }

  pub fair-now : (h : List Entry) (b : Began h) → IsFair h b → HasNoOtherWriter k pid (state_after first h).opens
  fair-now h b fair =
      subst (λ (es : List Entry). HasNoOtherWriter k pid (state_after first es).opens) (sym b.place)
      (fair.sole.each (since h b) [] (sym (append-nil (since h b))))

  pub ranged-now : (h : List Entry) (b : Began h) → IsFair h b → IsInRange (state_after first h).system
  ranged-now h b fair = fair.ranged h [] (sym (append-nil h))

  -- ---- what is known

  -- the process, where it lives, is traced as it was when apfiles came
  abbrev pub Untouched : (h : List Entry) → Began h → TracedSystem → Type 0
  Untouched h b s = (q : TracedProcess) → live_process s pid ≡ Some q → WasTraced pid (sets_on q) (found h b)

  -- apfiles has noted the sets by which it was traced
  pub record Noted (h : List Entry) (b : Began h) (noted : TracedSets) : Type 0 where
    pub was : WasTraced pid noted (found h b)
    pub proper : IsProper noted

  -- and has set some of them back
  pub record Put (R : TracedSets → TracedSets → Type 0) (h : List Entry) (b : Began h) (s : TracedSystem)
      (noted : TracedSets) : Type 0 where
    pub notes : Noted h b noted
    pub back : (q : TracedProcess) → live_process s pid ≡ Some q → R noted (sets_on q)

  -- apfiles has opened so many files, and this is so where the conditions hold
  pub record Goes (h : List Entry) (s : TracedState) (p : ProbeState) (many : ℕ)
      (F : Began h → Type 0) : Type 0 where
    pub began : Began h
    pub its : p.pid ≡ pid
    pub holds : HasFirst k pid many s.opens p.opened
    pub so : IsFair h began → F began

  abbrev pub Looks : List Entry → TracedState → ProbeState → ℕ → Type 0
  Looks h s p many = Goes h s p many (λ b. Untouched h b s.system)

  abbrev pub Works : List Entry → TracedState → ProbeState → ℕ → Type 0
  Works h s p many = Goes h s p many (λ b. Noted h b p.sets)

  abbrev pub Leaves : (TracedSets → TracedSets → Type 0) → List Entry → TracedState → ProbeState → Type 0
  Leaves R h s p = Goes h s p 6 (λ b. Put R h b s.system p.sets)

  -- it has begun to close its files
  pub record HasLeft (h : List Entry) : Type 0 where
    pub front : List Entry
    pub began : Began front
    pub handle : ℕ
    pub reply : Reply
    pub after : List Entry
    pub place : h ≡ front ++ call_entry k (call.Close handle) reply ∷ after
    pub holds : HoldsControl k pid (state_after first front).opens
    pub closes : All (ClosesAtMost k) after
    pub so : IsFair front began → Untouched front began (state_after first front).system

  -- what is so at a stage of a probe that was not refused
  unfoldable pub Knows : List Entry → TracedState → ProbeState → ProbeStage → Type 0
  Knows h s p (stage.Open Control) = (p.pid ≡ pid) × (p.opened ≡ nothing_open) × All (IsNoCall k) h
  Knows h s p (stage.Open Status) = Looks h s p 1
  Knows h s p (stage.Open Lstatus) = Looks h s p 2
  Knows h s p (stage.Open Map) = Looks h s p 3
  Knows h s p (stage.Open AgentControl) = Works h s p 4
  Knows h s p (stage.Open AgentStatus) = Works h s p 5
  Knows h s p stage.ReadFirst = Looks h s p 4
  Knows h s p stage.Stop = Looks h s p 4
  Knows h s p stage.AwaitStop = Looks h s p 4
  Knows h s p stage.ReadStatus = Looks h s p 4
  Knows h s p stage.ReadMap = Works h s p 4
  Knows h s p stage.SaveCode = Works h s p 4
  Knows h s p stage.SaveStack = Works h s p 4
  Knows h s p (stage.Trace kind) = Works h s p 4
  Knows h s p stage.MakeAgent = Works h s p 4
  Knows h s p stage.PlantCode = Works h s p 6
  Knows h s p (stage.Asking descriptor step) = Works h s p 6
  Knows h s p stage.UntraceExits = Works h s p 6
  Knows h s p stage.SetExit = Works h s p 6
  Knows h s p stage.RunExit = Works h s p 6
  Knows h s p stage.AwaitExit = Works h s p 6
  Knows h s p stage.WriteCode = Works h s p 6
  Knows h s p stage.WriteStack = Works h s p 6
  Knows h s p (stage.Retrace Signals) = Leaves NoneBack h s p
  Knows h s p (stage.Retrace Faults) = Leaves SignalsBack h s p
  Knows h s p (stage.Retrace Entries) = Leaves FaultsBack h s p
  Knows h s p (stage.Retrace Exits) = Leaves EntriesBack h s p
  Knows h s p stage.Run = Leaves AllBack h s p
  Knows h s p stage.Close = Leaves AllBack h s p ⊎ HasLeft h
  Knows h s p (stage.Restore kind) = ⊥
  Knows h s p stage.Release = ⊥

  -- ---- an entry later

  -- what others do is no call of its own
  pub others-call : (actor : Actor) (it : Act) → IsOther k actor it → (c : Call) (r : Reply)
      → record { actor = actor; act = it } ≡ call_entry k c r → ⊥
  others-call (Controller j) (act.Call d v) other c r same =
      other (let by : Controller j ≡ Controller k = ap (λ (x : Entry). x.actor) same in cc)
  others-call (Controller j) (act.Turn t) other c r same =
      let it : act.Turn t ≡ act.Call c r = ap (λ (x : Entry). x.act) same in cc
  others-call (Controller j) (act.Tick m) other c r same =
      let it : act.Tick m ≡ act.Call c r = ap (λ (x : Entry). x.act) same in cc
  others-call (Lwp acting id) it other c r same =
      let by : Lwp acting id ≡ Controller k = ap (λ (x : Entry). x.actor) same in cc
  others-call Clock it other c r same =
      let by : Clock ≡ Controller k = ap (λ (x : Entry). x.actor) same in cc

  pub others-close : (actor : Actor) (it : Act) → IsOther k actor it
      → ClosesAtMost k (record { actor = actor; act = it })
  others-close actor it other c r same = absurd (others-call actor it other c r same)

  pub no-call-on : (h : List Entry) (actor : Actor) (it : Act) → IsOther k actor it → All (IsNoCall k) h
      → All (IsNoCall k) (h ++ (record { actor = actor; act = it }) ∷ [])
  no-call-on h actor it other none =
      let e : Entry = record { actor = actor; act = it } in
      All-append (IsNoCall k) h (e ∷ []) none
      (All-cons (IsNoCall k) e [] (others-call actor it other) (All-nil (IsNoCall k)))

  pub left-still : (h : List Entry) (e : Entry) → ClosesAtMost k e → HasLeft h → HasLeft (h ++ e ∷ [])
  left-still h e close it = record {
    front = it.front;
    began = it.began;
    handle = it.handle;
    reply = it.reply;
    after = it.after ++ e ∷ [];
    place = place-still h it.front (call_entry k (call.Close it.handle) it.reply) it.after e it.place;
    holds = it.holds;
    closes =
        All-append (ClosesAtMost k) it.after (e ∷ []) it.closes
        (All-cons (ClosesAtMost k) e [] close (All-nil (ClosesAtMost k)));
    so = it.so;
  }

  pub goes-still : (h : List Entry) (s t : TracedState) (e : Entry) (p : ProbeState) (many : ℕ)
      (F : Began h → Type 0) (G : Began (h ++ e ∷ []) → Type 0)
      → ((number : ℕ) (held : Held) → held.controller ≡ k → handle_of s.opens k number ≡ Some held
      → handle_of t.opens k number ≡ Some held)
      → ((b : Began h) → IsFair h b → F b → G (began-still h e b)) → Goes h s p many F → Goes (h ++ e ∷ []) t p many G
  goes-still h s t e p many F G keeps on it = record {
    began = began-still h e it.began;
    its = it.its;
    holds = keeps-first k pid many s.opens t.opens p.opened keeps it.holds;
    so = λ fair.
        let before : IsFair h it.began = fair-front h e it.began fair in on it.began before (it.so before);
  }

  pub noted-still : (h : List Entry) (e : Entry) (b : Began h) (noted : TracedSets) → Noted h b noted
      → Noted (h ++ e ∷ []) (began-still h e b) noted
  noted-still h e b noted it = record { was = it.was; proper = it.proper }

  -- ---- what others do

  module _ (n : ℕ) (h : List Entry) (lawful : IsLawful (state_after first h)) (actor : Actor) (it : Act)
      (legal : IsLegalEntry n (state_after first h) (record { actor = actor; act = it }))
      (other : IsOther k actor it) where
    abbrev s : TracedState
    s = state_after first h

    abbrev e : Entry
    e = record { actor = actor; act = it }

    abbrev longer : List Entry
    longer = h ++ e ∷ []

    abbrev next : TracedState
    next = after s e

    handles-stay : (number : ℕ) (held : Held) → held.controller ≡ k → handle_of s.opens k number ≡ Some held
        → handle_of next.opens k number ≡ Some held
    handles-stay number held own stands =
        let own_stands : handle_of s.opens held.controller number ≡ Some held =
        subst (λ (j : ℕ). handle_of s.opens j number ≡ Some held) (sym own) stands in
        subst (λ (j : ℕ). handle_of next.opens j number ≡ Some held) own
        (others-keep number held n s actor it legal (subst (λ (j : ℕ). IsOther j actor it) (sym own) other) own_stands)

    module _ (p : ProbeState) (many : ℕ) (some : 0 < many) (holds : HasFirst k pid many s.opens p.opened) where
      made : pid < s.system.made
      unfolding place_of
      made =
          let control = holds.each Control some in
          pid-made s control.number (held_of k pid Control) lawful control.stands

      module _ (b : Began h) (fair : IsFair h b) where
        came : (q : TracedProcess) → live_process next.system pid ≡ Some q → WasTraced pid (sets_on q) s.system
        came q live = others-sets n s k pid lawful (fair-now h b fair) made actor it legal other q live

        untouched-on : Untouched h b s.system → Untouched longer (began-still h e b) next.system
        untouched-on before q live =
            let w = came q live in
            subst (λ (sets : TracedSets). WasTraced pid sets (found h b)) (sym w.same) (before w.process w.lived)

        put-on : (R : TracedSets → TracedSets → Type 0) → Put R h b s.system p.sets
            → Put R longer (began-still h e b) next.system p.sets
        put-on R before = record {
          notes = noted-still h e b p.sets before.notes;
          back = λ q live.
              let w = came q live in subst (R p.sets) (sym w.same) (before.back w.process w.lived);
        }

    looks-on : (p : ProbeState) (many : ℕ) → 0 < many → Looks h s p many → Looks longer next p many
    looks-on p many some it =
        goes-still h s next e p many _ _ handles-stay (λ b fair before. untouched-on p many some it.holds b fair before)
        it

    works-on : (p : ProbeState) (many : ℕ) → Works h s p many → Works longer next p many
    works-on p many it =
        goes-still h s next e p many _ _ handles-stay (λ b fair before. noted-still h e b p.sets before) it

    leaves-on : (R : TracedSets → TracedSets → Type 0) (p : ProbeState) → Leaves R h s p → Leaves R longer next p
    leaves-on R p it =
        goes-still h s next e p 6 _ _ handles-stay
        (λ b fair before. put-on p 6 (omega arith) it.holds b fair R before) it

    pub knows-still : (p : ProbeState) (g : ProbeStage) → Knows h s p g → Knows longer next p g
    unfolding Knows
    knows-still p (stage.Open Control) so = (so.0, so.1, no-call-on h actor it other so.2)
    knows-still p (stage.Open Status) so = looks-on p 1 (omega arith) so
    knows-still p (stage.Open Lstatus) so = looks-on p 2 (omega arith) so
    knows-still p (stage.Open Map) so = looks-on p 3 (omega arith) so
    knows-still p (stage.Open AgentControl) so = works-on p 4 so
    knows-still p (stage.Open AgentStatus) so = works-on p 5 so
    knows-still p stage.ReadFirst so = looks-on p 4 (omega arith) so
    knows-still p stage.Stop so = looks-on p 4 (omega arith) so
    knows-still p stage.AwaitStop so = looks-on p 4 (omega arith) so
    knows-still p stage.ReadStatus so = looks-on p 4 (omega arith) so
    knows-still p stage.ReadMap so = works-on p 4 so
    knows-still p stage.SaveCode so = works-on p 4 so
    knows-still p stage.SaveStack so = works-on p 4 so
    knows-still p (stage.Trace kind) so = works-on p 4 so
    knows-still p stage.MakeAgent so = works-on p 4 so
    knows-still p stage.PlantCode so = works-on p 6 so
    knows-still p (stage.Asking descriptor step) so = works-on p 6 so
    knows-still p stage.UntraceExits so = works-on p 6 so
    knows-still p stage.SetExit so = works-on p 6 so
    knows-still p stage.RunExit so = works-on p 6 so
    knows-still p stage.AwaitExit so = works-on p 6 so
    knows-still p stage.WriteCode so = works-on p 6 so
    knows-still p stage.WriteStack so = works-on p 6 so
    knows-still p (stage.Retrace Signals) so = leaves-on NoneBack p so
    knows-still p (stage.Retrace Faults) so = leaves-on SignalsBack p so
    knows-still p (stage.Retrace Entries) so = leaves-on FaultsBack p so
    knows-still p (stage.Retrace Exits) so = leaves-on EntriesBack p so
    knows-still p stage.Run so = leaves-on AllBack p so
    knows-still p stage.Close (inl so) = inl (leaves-on AllBack p so)
    knows-still p stage.Close (inr so) = inr (left-still h e (others-close actor it other) so)
    knows-still p (stage.Restore kind) so = so
    knows-still p stage.Release so = so
