use Rattle.std.proofs.Common.{◌==◌, ℕ, is_none, length, Option, Some, None, List, refl, arith, ◌≡◌, []}
use Rattle.std.proofs.lemmas.List.Elements.{All-nil, All-replicate}
use Rattle.pr_num.specs.Spaces.{Space}
use Rattle.pr_lawful.proofs.LawfulTurns.EndLemmas.{found-live}
use Rattle.pr_keeps.proofs.LoanLemmas.{loans_passed-keep}
use Rattle.pr_num.proofs.ByIdLaws.{All-change_under, All-map_each, All-without_id, All-under}
use Rattle.pr_num.proofs.NumberedLemmas.{signal_number-range}
use Rattle.pr_num.specs.ById.{without_id}
use Rattle.pr_num.specs.Infos.{of_child}
use Rattle.pr_num.specs.Limits.{signal_count}
use Rattle.pr_num.specs.Signals.{signal_number}
use Rattle.pr_num.specs.Words.{IsWord}
use Rattle.pr_num.specs.declared.infos.Info.{Info}
use Rattle.pr_num.specs.declared.signals.Sig.{Sig}
use Rattle.pr_num.specs.declared.signals.Sig.TheVariants.{Cld}
use Rattle.pr_parts.specs.PendingSignals.{Pending, added, without_signals}
use Rattle.pr_parts.specs.SignalRules.{deleted_by}
use Rattle.pr_lawful.proofs.ProcessParts.FileLemmas.{choice}
use Rattle.pr_model.specs.Changes.{Ending, ends_lwp, ends_process, ended}
use Rattle.pr_model.specs.Generation.{ends_job_stop, lwp_with_pending, lwp_without_pending, signalled, with_deletions, with_pending, without_job_stop, without_pending}
use Rattle.pr_model.specs.Lives.{bare_process, default_dispositions, ended_if_live, orphaned, with_ended, with_lwp_ended, with_parent_signalled, with_this_ended, without_lwp, zombie, is_id, lent_to, with_loan_back, with_lender_of, with_loans_passed}
use Rattle.pr_model.specs.Machines.{nothing_set, traced, zombie_control}
use Rattle.pr_model.specs.Signals.{generated, is_kill}
use Rattle.pr_model.specs.State.{TracedProcess, TracedSystem, live_process, with_lwp, with_process}
use Rattle.pr_reached.proofs.StatesInRange.FileRanges.{all_closed-range}
use Rattle.pr_reached.proofs.StatesInRange.MemoryRanges.{nothing-mapped}
use Rattle.pr_reached.proofs.StatesInRange.PendingRanges.{added-words, deleted-words, nothing-words}
use Rattle.pr_reached.proofs.StatesInRange.ProcessRanges.{KeepsLwp, KeepsProcess, LwpInRange, ProcessInRange, changed-each, changed-one, keeps-one, with_lwps, with_pending_set}
use Rattle.pr_reached.specs.InRange.{AreDispositions, HasWord, HaveWords, IsAreaInRange, IsControlInRange, IsInRange, IsShortName, IsProcessInRange, IsSpaceInRange}

-- A signal that is sent, and the end of a process or of an lwp, leave a system in range.

-- ---- signals

-- other pending signals, another job stop, another parent
pub pending-kept : (x : TracedProcess) (pending : Pending) → HaveWords pending → IsProcessInRange x
    → IsProcessInRange (record x { pending = pending })
pending-kept x pending it h = record {
  program = h.program;
  made_at = h.made_at;
  ended = h.ended;
  space = h.space;
  dispositions = h.dispositions;
  pending = it;
  lwps = h.lwps;
  control = h.control;
}

pub job-kept : (x : TracedProcess) (job : Option Sig) → IsProcessInRange x
    → IsProcessInRange (record x { job_stop = job })
job-kept x job h = record {
  program = h.program;
  made_at = h.made_at;
  ended = h.ended;
  space = h.space;
  dispositions = h.dispositions;
  pending = h.pending;
  lwps = h.lwps;
  control = h.control;
}

added-keeps : (g : Sig) (info : Info) → HasWord info → KeepsLwp (lwp_with_pending g info)
unfolding lwp_with_pending
added-keeps g info new l h = with_pending_set l (added g info l.pending) (added-words g info l.pending new h.pending) h

deleted-keeps : (set : ℕ) → KeepsLwp (lwp_without_pending set)
unfolding lwp_without_pending
deleted-keeps set l h = with_pending_set l (without_signals set l.pending) (deleted-words set l.pending h.pending) h

pending-keeps : (target : Option ℕ) (g : Sig) (info : Info) → HasWord info → KeepsProcess (with_pending target g info)
unfolding with_pending with_lwp
pending-keeps None g info new x h =
    pending-kept x (added g info x.pending) (added-words g info x.pending new h.pending) h
pending-keeps (Some id) g info new x h = keeps-one id (lwp_with_pending g info) (added-keeps g info new) x h

without_pending-keeps : (set : ℕ) → KeepsProcess (without_pending set)
unfolding without_pending
without_pending-keeps set x h = record {
  program = h.program;
  made_at = h.made_at;
  ended = h.ended;
  space = h.space;
  dispositions = h.dispositions;
  pending = deleted-words set x.pending h.pending;
  lwps = All-map_each LwpInRange LwpInRange (lwp_without_pending set) (λ e it. deleted-keeps set e.1 it) x.lwps h.lwps;
  control = h.control;
}

deletions-keep : (g : Sig) → KeepsProcess (with_deletions g)
unfolding with_deletions without_job_stop
deletions-keep g x h =
    let deleted = without_pending-keeps (deleted_by g) x h in
    choice IsProcessInRange (deleted_by g == 0) _ _ (λ none. h)
    (λ some. choice IsProcessInRange (ends_job_stop g) _ _
    (λ ends. job-kept (without_pending (deleted_by g) x) None deleted) (λ stays. deleted))

pub signalled-keeps : (target : Option ℕ) (g : Sig) (info : Info) → HasWord info
    → KeepsProcess (signalled target g info)
unfolding signalled
signalled-keeps target g info new x h =
    choice IsProcessInRange (is_none x.ended) _ _
    (λ live. pending-keeps target g info new (with_deletions g x) (deletions-keep g x h)) (λ over. h)

-- ---- what nothing is set on

pub nothing-set : IsControlInRange nothing_set
unfolding nothing_set
nothing-set = record {
  signals = omega arith;
  faults = omega arith;
  entries = omega arith;
  exits = omega arith;
  modes = omega arith;
  areas = All-nil IsAreaInRange;
  few_areas = omega arith;
}

pub default-dispositions : AreDispositions default_dispositions
default-dispositions = record { words = All-replicate IsWord signal_count 0 (omega arith); count = refl }

-- a process without lwps and without memory
pub bare-range : (parent : ℕ) (name : List ℕ) (clock : ℕ) → IsShortName name → IsWord clock
    → IsProcessInRange (bare_process traced parent name clock)
unfolding bare_process traced
bare-range parent name clock named moment = record {
  program = named;
  made_at = moment;
  ended = tt;
  space = nothing-mapped;
  dispositions = default-dispositions;
  pending = nothing-words;
  lwps = All-nil LwpInRange;
  control = nothing-set;
}

-- ---- ends

zombie-range : (status : ℕ) → IsWord status → KeepsProcess (zombie traced status)
unfolding zombie bare_process traced zombie_control nothing_set
zombie-range status fits p h = record {
  program = h.program;
  made_at = h.made_at;
  ended = fits;
  space = nothing-mapped;
  dispositions = default-dispositions;
  pending = nothing-words;
  lwps = All-nil LwpInRange;
  control = record {
    signals = omega arith;
    faults = omega arith;
    entries = omega arith;
    exits = omega arith;
    modes = omega arith;
    areas = All-nil IsAreaInRange;
    few_areas = omega arith;
  };
}

orphaned-keeps : (gone : ℕ) → KeepsProcess (orphaned gone)
unfolding orphaned
orphaned-keeps gone x h =
    choice IsProcessInRange (x.parent == gone) _ _
    (λ is. record {
      program = h.program;
      made_at = h.made_at;
      ended = h.ended;
      space = h.space;
      dispositions =
          h.dispositions;
      pending = h.pending;
      lwps = h.lwps;
      control = h.control;
    }) (λ apart. h)

parent_told-range : (parent pid status : ℕ) (s : TracedSystem) → IsWord status → IsInRange s
    → IsInRange (with_parent_signalled parent pid status s)
unfolding with_parent_signalled
parent_told-range parent pid status s fits h =
    choice IsInRange (parent == 0) _ _ (λ first. h)
    (λ other. changed-one s parent (signalled None Cld (of_child pid status))
    (signalled-keeps None Cld (of_child pid status) fits) h)

-- ---- lent memory

with_loans : (x : TracedProcess) (space : Space) (lender borrower : Option ℕ) → IsSpaceInRange space
    → IsProcessInRange x
    → IsProcessInRange (record x { space = space; lender = lender; borrower = borrower })
with_loans x space lender borrower it h = record {
  program = h.program;
  made_at = h.made_at;
  ended = h.ended;
  space = it;
  dispositions = h.dispositions;
  pending = h.pending;
  lwps = h.lwps;
  control = h.control;
}

loan_back-keeps : (pid : ℕ) (p : TracedProcess) → IsProcessInRange p → KeepsProcess (with_loan_back pid p)
unfolding with_loan_back
loan_back-keeps pid p own x h =
    choice IsProcessInRange (is_id pid x.borrower) _ _
    (λ lent. with_loans x p.space x.lender p.borrower own.space h) (λ other. h)

lender_of-keeps : (pid : ℕ) (p : TracedProcess) → KeepsProcess (with_lender_of pid p)
unfolding with_lender_of
lender_of-keeps pid p x h =
    choice IsProcessInRange (is_id pid x.lender) _ _
    (λ borrowed. with_loans x x.space p.lender x.borrower h.space h) (λ other. h)

pub lent_to-keeps : (child : ℕ) → KeepsProcess (lent_to child)
unfolding lent_to
lent_to-keeps child x h = with_loans x [] x.lender (Some child) nothing-mapped h

pub loaned_back-range : (pid : ℕ) (p : TracedProcess) → IsProcessInRange p → (other : ℕ) (s : TracedSystem)
    → IsInRange s → IsInRange (with_process other (with_loan_back pid p) s)
loaned_back-range pid p own other s h = changed-one s other (with_loan_back pid p) (loan_back-keeps pid p own) h

passed-range : (pid : ℕ) (p : TracedProcess) → IsProcessInRange p → (s : TracedSystem) → IsInRange s
    → IsInRange (with_loans_passed pid p s)
passed-range pid p own =
    loans_passed-keep IsInRange pid p (loaned_back-range pid p own)
    (λ other s h. changed-one s other (with_lender_of pid p) (lender_of-keeps pid p) h)

pub this_ended-range : (s : TracedSystem) (pid : ℕ) (p : TracedProcess) (status : ℕ) → IsWord status
    → IsProcessInRange p → IsInRange s → IsInRange (with_this_ended traced pid p status s)
unfolding with_this_ended
this_ended-range s pid p status fits own h =
    parent_told-range p.parent pid status _ fits (passed-range pid p own _ (record {
      programs = h.programs;
      clock = h.clock;
      files = all_closed-range s.files p.fds h.files;
      processes =
          changed-each _ (orphaned pid) (orphaned-keeps pid)
          (All-change_under ProcessInRange pid (zombie traced status) s.processes
          (λ x there it. zombie-range status fits x it) h.processes);
    }))

-- a live process is in range
pub live-range : (s : TracedSystem) (pid : ℕ) (p : TracedProcess) → IsInRange s → live_process s pid ≡ Some p
    → IsProcessInRange p
live-range s pid p h live = All-under ProcessInRange pid p s.processes h.processes (found-live s pid p live).0

ended_if_live-range : (pid status : ℕ) (s : TracedSystem) (o : Option TracedProcess) → live_process s pid ≡ o
    → IsWord status → IsInRange s → IsInRange (ended_if_live traced pid status s o)
ended_if_live-range pid status s None is fits h = h
ended_if_live-range pid status s (Some p) is fits h = this_ended-range s pid p status fits (live-range s pid p h is) h

pub signal-word : (g : Sig) → IsWord (signal_number g)
signal-word g = let most = (signal_number-range g).1 in omega arith

-- a signal is generated
pub generated-range : (s : TracedSystem) (pid : ℕ) (target : Option ℕ) (g : Sig) (info : Info) → HasWord info
    → IsInRange s → IsInRange (generated traced pid target g info s)
unfolding generated with_ended
generated-range s pid target g info new h =
    choice IsInRange (is_kill g) _ _
    (λ kill. ended_if_live-range pid (signal_number g) s (live_process s pid) refl (signal-word g) h)
    (λ other. changed-one s pid (signalled target g info) (signalled-keeps target g info new) h)

without_lwp-keeps : (id : ℕ) → KeepsProcess (without_lwp id)
unfolding without_lwp
without_lwp-keeps id x h = with_lwps x (without_id id x.lwps) (All-without_id LwpInRange id x.lwps h.lwps) h

-- an ending in range: its status is a word
abbrev pub IsEndingInRange : Ending → Type 0
IsEndingInRange (ends_process status) = IsWord status
IsEndingInRange ends_lwp = Unit {0}

pub ended-range : (s : TracedSystem) (pid : ℕ) (p : TracedProcess) (id : ℕ) (how : Ending) → IsEndingInRange how
    → IsProcessInRange p → IsInRange s → IsInRange (ended traced pid p id how s)
unfolding ended with_lwp_ended
ended-range s pid p id (ends_process status) fits own h = this_ended-range s pid p status fits own h
ended-range s pid p id ends_lwp fits own h =
    choice IsInRange (length p.lwps == 1) _ _ (λ last. this_ended-range s pid p 0 (omega arith) own h)
    (λ more. changed-one s pid (without_lwp id) (without_lwp-keeps id) h)
