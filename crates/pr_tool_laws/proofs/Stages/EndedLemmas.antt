use Rattle.std.proofs.Common.{◌≡◌, ◌<◌, ◌∷◌, ℕ, Bool, true, false, cond, is_none, is_some, not, Option, None, Some, List, [], refl, sym, ap, ◌∙◌, subst}
use Rattle.std.proofs.lemmas.Option.{none-some}
use Rattle.std.specs.List.{find, list_all}
use Rattle.pr_lawful.proofs.LawfulStates.CallLemmas.{call-state}
use Rattle.pr_lawful.proofs.ProcessParts.FileLemmas.{choice}
use Rattle.pr_lawful.proofs.ProcessParts.HandleLemmas.{handle-at}
use Rattle.pr_lawful.proofs.LawfulStates.HistoryLemmas.{history-state}
use Rattle.pr_model.specs.Calls.{Answer, answer_to, interrupted_answer, is_handle_ready, is_held_ready, is_interrupted, is_open_by, is_polled_ready, poll_answer, ready_answer, refused, with_interrupt_seen}
use Rattle.pr_model.specs.Handles.{handle_of, is_control}
use Rattle.pr_model.specs.Lawful.{IsLawful, IsOfMade}
use Rattle.pr_model.specs.Legal.{IsLegalEntry, after as entry_after}
use Rattle.pr_model.specs.Reads.{file_read, of_process, read_process}
use Rattle.pr_model.specs.State.{TracedProcess, TracedState, TracedSystem, if_live, live_process, process_of}
use Rattle.pr_model.specs.declared.calls.Call.TheVariants as call
use Rattle.pr_model.specs.declared.calls.File.TheVariants as file
use Rattle.pr_model.specs.declared.calls.Mode.TheVariants as mode
use Rattle.pr_model.specs.declared.calls.Reply.TheVariants as reply
use Rattle.pr_model.specs.declared.events.Entry.{Entry}
use Rattle.pr_model.specs.declared.handles.Held.{Held}
use Rattle.pr_model.specs.declared.tools.ToolKind.TheVariants.{Pwait}
use Rattle.pr_num.proofs.SearchLemmas.{All-at}
use Rattle.pr_num.specs.Limits.{read_limit}
use Rattle.pr_num.specs.declared.errnos.Errno.{Errno}
use Rattle.pr_num.specs.declared.errnos.Errno.TheVariants.{Badf, Intr}
use Rattle.pr_tools.specs.Replies.{is_passed_over, refusal_in}
use Rattle.pr_tools.specs.Steps.{after as step_after, after_in_pwait, file_of}
use Rattle.pr_tools.specs.declared.steps.Step.{Step}
use Rattle.pr_tools.specs.declared.steps.Step.TheVariants as step
use Rattle.pr_tool_laws.proofs.Stages.StageLemmas.{Keeps, held_by_tool}
use Rattle.pr_tool_laws.proofs.OwnFiles.StandingLemmas.{Stands}
use Rattle.pr_tool_laws.specs.ShownStates.{HasEnded}
use Rattle.pr_truss_laws.proofs.Files.OpensLemmas.{looking-stays}
use Rattle.pr_truss_laws.proofs.Machine.OverLemmas.{stays-made, stays-over}

-- What pwait reads is of a process that has ended: once its wait is over the process does not live, and no later entry
-- makes it live again.

-- ---- the poll

-- where an answer does not refuse the poll, the handle is ready
abbrev FindsReady : TracedState → ℕ → ℕ → Option Answer → Type 0
FindsReady s k number o =
    (a : Answer) → o ≡ Some a → refusal_in step.AwaitEnd a.reply ≡ None → is_polled_ready s k number ≡ true

refused-finds : (s t : TracedState) (k number : ℕ) (e : Errno) → FindsReady s k number (Some (refused t e))
unfolding refusal_in is_passed_over
refused-finds s t k number e a is accepted =
    absurd (none-some e (sym accepted ∙ ap refusal_of (sym is)))
  where
    refusal_of : Option Answer → Option Errno
    refusal_of None = None
    refusal_of (Some x) = refusal_in step.AwaitEnd x.reply

ready-finds : (s : TracedState) (k number : ℕ) (b : Bool) → is_polled_ready s k number ≡ b
    → FindsReady s k number (ready_answer s (cond b (Some number) None))
ready-finds s k number true here a is accepted = here
ready-finds s k number false here a is accepted = absurd (none-some a is)

poll-finds : (s : TracedState) (k number : ℕ) → FindsReady s k number (answer_to s k (call.Poll (number ∷ [])))
unfolding answer_to poll_answer
poll-finds s k number =
    let found : Option Answer = ready_answer s (find (is_polled_ready s k) (number ∷ [])) in
    let interrupted : Option Answer = Some (interrupted_answer s k) in
    choice (FindsReady s k number) (not (list_all (is_open_by s.opens k) (number ∷ []))) (Some (refused s Badf))
    (cond (is_interrupted s k) interrupted found) (λ shut. refused-finds s s k number Badf) (λ listed.
    choice (FindsReady s k number) (is_interrupted s k) interrupted found
    (λ seen. refused-finds s (with_interrupt_seen k s) k number Intr) (λ unseen.
    ready-finds s k number (is_polled_ready s k number) refl))

none-there : (o : Option TracedProcess) → is_none o ≡ true → o ≡ None
none-there None is = refl
none-there (Some p) is = cc

-- a handle of a file that is no control file is ready where its process does not live
polled-gone : (s : TracedState) (k number : ℕ) (h : Held) → is_control h.file ≡ false
    → handle_of s.opens k number ≡ Some h → is_polled_ready s k number ≡ true → live_process s.system h.pid ≡ None
unfolding is_polled_ready is_handle_ready
polled-gone s k number h plain stands ready =
    let here : is_held_ready s.system (Some h) ≡ true = ap (is_held_ready s.system) (sym stands) ∙ ready in
    none-there (live_process s.system h.pid) (rw plain at here)

-- ---- the read

-- a process that is there and does not live has ended
not-live : (p : TracedProcess) → if_live p ≡ None → is_some p.ended ≡ true
not-live p = by p.ended
  where
    by : (o : Option ℕ) → cond (is_none o) (Some p) None ≡ None → is_some o ≡ true
    by None is = absurd (none-some p (sym is))
    by (Some status) is = refl

-- whoever reads of a process that does not live reads of one that has ended
read-ended : (s : TracedSystem) (pid : ℕ) (bytes : List ℕ)
    → file_read s pid 0 0 read_limit file.Psinfo ≡ reply.Bytes bytes → live_process s pid ≡ None → HasEnded pid s
unfolding file_read read_process live_process
read-ended s pid bytes reads none = by (process_of s pid) refl reads
  where
    by : (o : Option TracedProcess) → process_of s pid ≡ o
        → of_process s pid 0 0 read_limit file.Psinfo o ≡ reply.Bytes bytes → HasEnded pid s
    by None there it = absurd (cc)
    by (Some p) there it = record { zombie = p; there = there; ended = not-live p (rw there at none) }

-- ---- what is known on its way

-- an id was given out, and no process lives under it
pub record IsGone (pid : ℕ) (s : TracedSystem) : Type 0 where
  pub made : pid < s.made
  pub none : live_process s pid ≡ None

-- the state is lawful, and before the read the process does not live
pub record IsAwaited (pid : ℕ) (next : Step) (s : TracedState) : Type 0 where
  pub lawful : IsLawful s
  pub gone : next ≡ step.ReadFile → IsGone pid s.system

module _ (n k pid : ℕ) where
  others-await : (s : TracedState) (e : Entry) (next : Step) → IsLegalEntry n s e → IsAwaited pid next s
      → IsAwaited pid next (entry_after s e)
  others-await s e next legal it = record {
    lawful = history-state n s (e ∷ []) it.lawful (legal, tt);
    gone = λ reads.
        let was = it.gone reads in
        record {
          made = stays-made n s e pid it.lawful legal was.made;
          none = stays-over n s e pid it.lawful legal was.made was.none;
        };
  }

  opened-await : (s : TracedState) (a : Answer) → answer_to s k (call.Open pid 0 (file_of Pwait) mode.Read) ≡ Some a
      → IsAwaited pid step.OpenFile s → IsAwaited pid (step_after Pwait step.OpenFile) a.state
  unfolding step_after after_in_pwait
  opened-await s a given it = record {
    lawful = call-state s it.lawful k (call.Open pid 0 (file_of Pwait) mode.Read) a given;
    gone = λ reads. absurd (cc);
  }

  -- a handle names a process that was made, and the poll leaves the system
  polled-await : (s : TracedState) (a : Answer) (number : ℕ) → Stands s.opens number (held_by_tool k Pwait pid)
      → answer_to s k (call.Poll (number ∷ [])) ≡ Some a → refusal_in step.AwaitEnd a.reply ≡ None
      → IsAwaited pid step.AwaitEnd s → IsAwaited pid step.ReadFile a.state
  unfolding file_of
  polled-await s a number stands given accepted it =
      let held : Held = held_by_tool k Pwait pid in
      let same : s.system ≡ a.state.system =
      sym (ap (λ (x : TracedState). x.system) (looking-stays s k (call.Poll (number ∷ [])) a refl given)) in
      let made : pid < s.system.made =
      All-at (IsOfMade s.system.made) s.opens number (Some held)
      (handle-at s.opens k number held stands) it.lawful.handles in
      let none : live_process s.system pid ≡ None =
      polled-gone s k number held refl stands (poll-finds s k number a given accepted) in
      let gone : IsGone pid s.system = record { made = made; none = none } in
      record {
        lawful = call-state s it.lawful k (call.Poll (number ∷ [])) a given;
        gone = λ reads. subst (IsGone pid) same gone;
      }

  read-await : (s : TracedState) (bytes : List ℕ)
      → file_read s.system pid 0 0 read_limit (file_of Pwait) ≡ reply.Bytes bytes → IsAwaited pid step.ReadFile s
      → HasEnded pid s.system
  unfolding file_of
  read-await s bytes reads it = let gone = it.gone refl in read-ended s.system pid bytes reads gone.none

  pub pwait-keeps : Keeps n k Pwait pid (IsAwaited pid) (HasEnded pid)
  pwait-keeps = record { others = others-await; opened = opened-await; awaited = polled-await; read = read-await }

  pub first-awaited : (s : TracedState) → IsLawful s → IsAwaited pid step.OpenFile s
  first-awaited s lawful = record { lawful = lawful; gone = λ reads. absurd (cc) }
