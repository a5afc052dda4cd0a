-- What truss has read of an lwp whose call of a function it reports.
use Rattle.std.specs.Prelude.{◌≡◌, ◌++◌, ℕ, List, [], ◌∷◌, Some, slice_get, slice_index}
use Rattle.pr_line.specs.Events.{event_of}
use Rattle.pr_line.specs.declared.events.Event.TheVariants.{Incurred}
use Rattle.pr_line.specs.declared.functions.Function.{Function}
use Rattle.pr_line.specs.declared.options.Options.{Options}
use Rattle.pr_model.specs.declared.calls.Reply.{Reply}
use Rattle.pr_num.specs.declared.faults.Flt.TheVariants.{Bpt, Trace}
use Rattle.pr_rec.specs.declared.lwps.LwpStatus.{LwpStatus}
use Rattle.pr_truss.specs.Trusses.{first_truss}
use Rattle.pr_truss.specs.declared.reports.Report.TheVariants.{Called}
use Rattle.pr_truss_laws.specs.Business.{TellsOf}
use Rattle.pr_function_laws.specs.Calls.{after_replies, call_told, calls_among, calls_told}

-- an lwp stands at FLTBPT at the address of this function of the options
pub record IsAtBreakpoint (o : Options) (l : LwpStatus) (function : ℕ) : Type 0 where
  pub f : Function
  pub named : slice_get o.functions function ≡ Some f
  pub stands : event_of l ≡ Some (Incurred Bpt f.at)

-- an lwp stands at FLTTRACE: the instruction that it was stepped over has run
pub record IsAtTrap (l : LwpStatus) : Type 0 where
  pub pc : ℕ
  pub stands : event_of l ≡ Some (Incurred Trace pc)

-- r1 to r3 of an lwp
abbrev pub arguments_of : LwpStatus → List ℕ
arguments_of l = slice_index l.regs 1 ∷ slice_index l.regs 2 ∷ slice_index l.regs 3 ∷ []

-- One of these replies told of an lwp with this id at the breakpoint of the function, with these in r1 to r3.
pub record WasMet (o : Options) (replies : List Reply) (lwp function : ℕ) (arguments : List ℕ) : Type 0 where
  pub before : List Reply
  pub reply : Reply
  pub after : List Reply
  pub is : replies ≡ before ++ reply ∷ after
  pub l : LwpStatus
  pub tells : TellsOf reply l
  pub own : l.id ≡ lwp
  pub at_breakpoint : IsAtBreakpoint o l function
  pub holds : arguments_of l ≡ arguments

-- A reply tells of an lwp with this id at a trace trap.
pub record IsTrapped (reply : Reply) (lwp : ℕ) : Type 0 where
  pub l : LwpStatus
  pub tells : TellsOf reply l
  pub own : l.id ≡ lwp
  pub at_trap : IsAtTrap l

-- Truss reports the calls of which its replies tell, in the order of these replies. Each of these calls was met at its
-- breakpoint by a reply before, and the reply that tells it tells of the lwp at a trace trap.
pub record TellsItsCalls (o : Options) (replies : List Reply) : Type 0 where
  pub reported : calls_among (after_replies (first_truss o) replies).reports ≡ calls_told (first_truss o) replies
  pub met : (before after : List Reply) (r : Reply) (pid lwp function : ℕ) (arguments : List ℕ)
      → replies ≡ before ++ r ∷ after
      → call_told (after_replies (first_truss o) before) r ≡ Called pid lwp function arguments ∷ []
      → WasMet o before lwp function arguments × IsTrapped r lwp
