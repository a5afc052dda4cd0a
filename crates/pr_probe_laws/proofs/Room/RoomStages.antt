use Rattle.std.proofs.Common.{◌≡◌, ◌<◌, ◌∷◌, ◌++◌, ℕ, false, true, List, [], Some, None, Ok, is_ok, sym, subst, ◌∙◌}
use Rattle.pr_api.specs.Entries.{call_entry}
use Rattle.pr_model.specs.Lawful.{IsLawful}
use Rattle.pr_model.specs.Legal.{IsLegalEntry, after, state_after}
use Rattle.pr_model.specs.MemoryCalls.{can_write}
use Rattle.pr_model.specs.State.{TracedProcess, TracedState, TracedSystem, live_process}
use Rattle.pr_model.specs.declared.events.Act.{Act}
use Rattle.pr_model.specs.declared.events.Actor.{Actor}
use Rattle.pr_model.specs.declared.events.Entry.{Entry}
use Rattle.pr_num.specs.Control.{prot_exec}
use Rattle.pr_num.specs.Layout.{stack_base, text_base}
use Rattle.pr_num.specs.Spaces.{Space, bytes_for}
use Rattle.pr_probe.specs.AgentCode.{code_size, stack_size}
use Rattle.pr_probe.specs.Probes.{ProbeState}
use Rattle.pr_tool_laws.proofs.OwnFiles.StandingLemmas.{IsOther}
use Rattle.pr_tool_laws.proofs.Stages.ToolLemmas.{place-still}
use Rattle.pr_truss_laws.specs.Stills.{IsHalting}
use Rattle.pr_probe_laws.proofs.Room.RoomFrames.{IsKept, others-keep-it}
use Rattle.pr_probe_laws.proofs.Sets.SetStages.{Began, IsFair, fair-now}
use Rattle.pr_probe_laws.specs.HiddenProbes.{StandsSaved}
use Rattle.pr_probe_laws.specs.ShownDescriptors.{HasRoom, WasUnlent}

-- What apfiles knows of its process since it directed that to stop: nobody there does anything but stop, and so what it
-- has read stays so.

-- ---- what is so of the process

-- it does nothing but stop, and has its memory to itself
pub record IsStill (q : TracedProcess) : Type 0 where
  pub halts : IsHalting q
  pub own : q.borrower ≡ None

-- with what was seen of its watched areas
pub record IsLooked (p : ProbeState) (q : TracedProcess) : Type 0 where
  pub still : IsStill q
  pub unwatched : p.watched ≡ false → q.control.areas ≡ []

-- there is room for the agent
pub record IsRoomy (q : TracedProcess) : Type 0 where
  pub still : IsStill q
  pub room : HasRoom q

-- and the bytes of the text are saved; those of the stack too
pub record HasCode (p : ProbeState) (q : TracedProcess) : Type 0 where
  pub roomy : IsRoomy q
  pub code : bytes_for 0 q.space text_base code_size ≡ Ok p.code

pub record HasBoth (p : ProbeState) (q : TracedProcess) : Type 0 where
  pub roomy : IsRoomy q
  pub saved : StandsSaved p q.space

-- ---- it is so of a process that is kept

module _ (x q : TracedProcess) (kept : IsKept x q) where
  space-same : x.borrower ≡ None → q.space ≡ x.space
  space-same own = (kept.memory.own own).1

  still-kept : IsStill x → IsStill q
  still-kept it = record { halts = kept.halts; own = (kept.memory.own it.own).0 }

  pub looked-kept : (p : ProbeState) → IsLooked p x → IsLooked p q
  looked-kept p it = record { still = still-kept it.still; unwatched = λ no. kept.areas ∙ it.unwatched no }

  pub roomy-kept : IsRoomy x → IsRoomy q
  roomy-kept it =
      let same = space-same it.still.own in
      record {
        still = still-kept it.still;
        room = record {
          unwatched = kept.areas ∙ it.room.unwatched;
          code =
              subst (λ (sp : Space). is_ok (bytes_for prot_exec sp text_base code_size) ≡ true) (sym same) it.room.code;
          stack =
              subst (λ (sp : Space). can_write sp stack_base stack_size ≡ true) (sym same) it.room.stack;
        };
      }

  pub code-kept : (p : ProbeState) → HasCode p x → HasCode p q
  code-kept p it = record {
    roomy = roomy-kept it.roomy;
    code =
        subst (λ (sp : Space). bytes_for 0 sp text_base code_size ≡ Ok p.code)
        (sym (space-same it.roomy.still.own)) it.code;
  }

  pub both-kept : (p : ProbeState) → HasBoth p x → HasBoth p q
  both-kept p it = record {
    roomy = roomy-kept it.roomy;
    saved = subst (StandsSaved p) (sym (space-same it.roomy.still.own)) it.saved;
  }

module _ (pid : ℕ) where
  -- something is so of the process, where it lives
  abbrev pub Where : (TracedProcess → Type 0) → TracedSystem → Type 0
  Where P s = (q : TracedProcess) → live_process s pid ≡ Some q → P q

module _ (k pid : ℕ) (first : TracedState) where
  -- this is so of the process, where it lives, unless it had lent its memory when its status was read
  abbrev pub Unlent : List Entry → (TracedProcess → Type 0) → TracedSystem → Type 0
  Unlent h P s = WasUnlent k pid first h → Where pid P s

  -- an entry earlier
  pub unlent-front : (h : List Entry) (e : Entry) → WasUnlent k pid first (h ++ e ∷ []) → WasUnlent k pid first h
  unlent-front h e was = record {
    each = λ before c r later place. was.each before c r (later ++ e ∷ [])
        (place-still h before (call_entry k c r) later e place);
  }

  -- ---- what others do

  module _ (n : ℕ) (h : List Entry) (lawful : IsLawful (state_after first h)) (actor : Actor) (it : Act)
      (legal : IsLegalEntry n (state_after first h) (record { actor = actor; act = it }))
      (other : IsOther k actor it) (made : pid < (state_after first h).system.made) (b : Began k pid first h)
      (fair : IsFair k pid first h b) where
    abbrev s : TracedState
    s = state_after first h

    abbrev e : Entry
    e = record { actor = actor; act = it }

    pub where-on : (P : TracedProcess → Type 0) → ((x : TracedProcess) → P x → IsHalting x)
        → ((x q : TracedProcess) → IsKept x q → P x → P q) → Where pid P s.system → Where pid P (after s e).system
    where-on P halts keeps so q live =
        let it_is =
        others-keep-it n s k pid lawful (fair-now k pid first h b fair) made actor it legal other
        (λ x there. halts x (so x there)) q live in
        keeps it_is.0 q it_is.1.1 (so it_is.0 it_is.1.0)

    pub unlent-on : (P : TracedProcess → Type 0) → ((x : TracedProcess) → P x → IsHalting x)
        → ((x q : TracedProcess) → IsKept x q → P x → P q) → Unlent h P s.system
        → Unlent (h ++ e ∷ []) P (after s e).system
    unlent-on P halts keeps so was = where-on P halts keeps (so (unlent-front h e was))
