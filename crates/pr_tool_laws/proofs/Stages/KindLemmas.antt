use Rattle.std.proofs.Common.{◌≡◌, ℕ, Option, Some, None, IsSome, List, Bool, true, false, cond, refl, sym, subst}
use Rattle.pr_model.specs.declared.calls.Reply.{Reply}
use Rattle.pr_num.specs.declared.errnos.Errno.{Errno}
use Rattle.pr_tools.specs.Replies.{refusal_in}
use Rattle.pr_tools.specs.Steps.{after}
use Rattle.pr_tools.specs.Tools.{ToolState, accepted, advanced, answered, at_step, fed, refused, with_answer, with_closed, with_first, with_next, with_record, with_run_next, with_walk}
use Rattle.pr_tools.specs.declared.stacks.Walk.{Walk}
use Rattle.pr_tools.specs.declared.steps.Step.{Step}
use Rattle.pr_tools.specs.declared.steps.Step.TheVariants as step

-- Whatever reply a tool gets, it stays the tool that it is, of the same process, and one that was refused stays so.

-- the same tool of the same process, refused by the same errno or not at all
abbrev pub IsSame : ToolState → ToolState → Type 0
IsSame t u = (u.kind ≡ t.kind) × (u.pid ≡ t.pid) × (u.refusal ≡ t.refusal)

-- one that goes on to another step, with the same files open
abbrev pub GoesOn : ToolState → ToolState → Type 0
GoesOn t u = IsSame t u × (u.opened ≡ t.opened)

run_next-goes : (t : ToolState) → GoesOn t (with_run_next t)
unfolding with_run_next
run_next-goes t = of t.stood
  where
    of : (b : Bool) → GoesOn t (cond b (at_step t step.Close) (at_step t step.Run))
    of true = ((refl, refl, refl), refl)
    of false = ((refl, refl, refl), refl)

walk-goes : (t : ToolState) (w : Option Walk) → GoesOn t (with_walk t w)
unfolding with_walk
walk-goes t None = run_next-goes (record t { walk = None })
walk-goes t (Some w) = ((refl, refl, refl), refl)

next-goes : (t : ToolState) (p : Step) → GoesOn t (with_next t p)
unfolding with_next
next-goes t step.ReadFrame = walk-goes t _
next-goes t step.Run = run_next-goes t
next-goes t _ = ((refl, refl, refl), refl)

pub advanced-goes : (t : ToolState) → GoesOn t (advanced t)
unfolding advanced
advanced-goes t = next-goes t (after t.kind t.step)

answer-goes : (t : ToolState) (bytes : List ℕ) (w : Option Walk) → GoesOn t (with_answer t bytes w)
unfolding with_answer
answer-goes t bytes None = run_next-goes t
answer-goes t bytes (Some w) = walk-goes _ _

-- whether a step opens a file, or closes one
abbrev pub moves_files : Step → Bool
moves_files step.OpenCtl = true
moves_files step.OpenFile = true
moves_files step.OpenMemory = true
moves_files step.Close = true
moves_files _ = false

-- any other leaves the files that are open
pub accepted-opened : (t : ToolState) (r : Reply) (p : Step) → moves_files p ≡ false
    → (accepted t r p).opened ≡ t.opened
unfolding accepted with_record with_first
accepted-opened t r step.OpenCtl is = cc
accepted-opened t r step.OpenFile is = cc
accepted-opened t r step.OpenMemory is = cc
accepted-opened t r step.Close is = cc
accepted-opened t r step.ReadFrame is = (answer-goes t _ t.walk).1
accepted-opened t r _ is = (advanced-goes _).1

pub accepted-same : (t : ToolState) (r : Reply) (p : Step) → IsSame t (accepted t r p)
unfolding accepted with_record with_first with_closed
accepted-same t r step.ReadFrame = (answer-goes t _ t.walk).0
accepted-same t r step.Close = (refl, refl, refl)
accepted-same t r _ = (advanced-goes _).0

pub fed-kind : (t : ToolState) (r : Reply) → (fed t r).kind ≡ t.kind
unfolding fed refused
fed-kind t r = of (refusal_in t.step r)
  where
    of : (o : Option Errno) → (answered t r o).kind ≡ t.kind
    of None = (accepted-same t r t.step).0
    of (Some e) = refl

pub fed-pid : (t : ToolState) (r : Reply) → (fed t r).pid ≡ t.pid
unfolding fed refused
fed-pid t r = of (refusal_in t.step r)
  where
    of : (o : Option Errno) → (answered t r o).pid ≡ t.pid
    of None = (accepted-same t r t.step).1
    of (Some e) = refl

-- no reply makes a refusal undone
pub refused-still : (t : ToolState) (r : Reply) → IsSome t.refusal → IsSome (fed t r).refusal
unfolding fed refused
refused-still t r was = of (refusal_in t.step r)
  where
    of : (o : Option Errno) → IsSome (answered t r o).refusal
    of None = subst IsSome (sym (accepted-same t r t.step).2) was
    of (Some e) = refl
