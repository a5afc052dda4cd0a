use Rattle.std.proofs.Common.{◌≡◌, ◌≢◌, ◌∷◌, ◌++◌, ℕ, Bool, true, false, cond, List, [], Option, Some, None, IsSome, is_some, refl, sym, subst, ap, ◌∙◌, slice_get, arith, inl, inr}
use Rattle.std.proofs.lemmas.Bool.{false≢true}
use Rattle.std.proofs.lemmas.List.Elements.{All-nil}
use Rattle.std.proofs.lemmas.List.{get_or-set_other}
use Rattle.std.proofs.lemmas.Option.{none-some, same_Some}
use Rattle.pr_api.specs.Entries.{call_entry}
use Rattle.pr_lawful.proofs.LawfulStates.CallLemmas.{call-state}
use Rattle.pr_model.proofs.HistoryLemmas.{state_after-push}
use Rattle.pr_model.specs.Calls.{Answer, answer_to}
use Rattle.pr_model.specs.Handles.{handle_of}
use Rattle.pr_model.specs.Lawful.{IsLawful}
use Rattle.pr_model.specs.Legal.{IsLegalEntry, after, state_after}
use Rattle.pr_model.specs.Replies.{number_of, opened_in, until_in}
use Rattle.pr_model.specs.State.{Places, TracedState}
use Rattle.pr_model.specs.declared.calls.Call.{Call}
use Rattle.pr_model.specs.declared.calls.Call.TheVariants as call
use Rattle.pr_model.specs.declared.calls.File.{File}
use Rattle.pr_model.specs.declared.calls.File.TheVariants as file
use Rattle.pr_model.specs.declared.calls.Mode.{Mode}
use Rattle.pr_model.specs.declared.calls.Mode.TheVariants as mode
use Rattle.pr_model.specs.declared.calls.Reply.{Reply}
use Rattle.pr_model.specs.declared.calls.Reply.TheVariants as reply
use Rattle.pr_model.specs.declared.events.Act.{Act}
use Rattle.pr_model.specs.declared.events.Actor.{Actor}
use Rattle.pr_model.specs.declared.events.Entry.{Entry}
use Rattle.pr_model.specs.declared.handles.Held.{Held}
use Rattle.pr_model.specs.declared.tools.ToolKind.{ToolKind}
use Rattle.pr_model.specs.declared.tools.ToolKind.TheVariants.{Pstack}
use Rattle.pr_num.specs.Limits.{read_limit}
use Rattle.pr_num.specs.Messages.{message_code}
use Rattle.pr_num.specs.Words.{word_bytes}
use Rattle.pr_num.specs.declared.errnos.Errno.{Errno}
use Rattle.pr_tools.specs.Calls.{run_bytes, stop_bytes}
use Rattle.pr_tools.specs.Handles.{handle_at, last_open, nothing_open, with_handle}
use Rattle.pr_tools.specs.Replies.{bytes_read, is_passed_over, refusal_in}
use Rattle.pr_tools.specs.Stacks.{process_stands}
use Rattle.pr_tools.specs.Steps.{after as step_after, after_in_pstack, control_place, ctl_mode_of, file_of, first_step, memory_place, record_place}
use Rattle.pr_tools.specs.Tools.{ToolState, accepted, advanced, answered, at_step, call_of, control_file, fed, first_tool, has_ended, next_call_of, refused, with_answer, with_closed, with_first, with_next, with_record, with_run_next, with_walk}
use Rattle.pr_tools.specs.declared.handles.Opened.{Opened}
use Rattle.pr_tools.specs.declared.stacks.Walk.{Walk}
use Rattle.pr_tools.specs.declared.steps.Step.{Step}
use Rattle.pr_tools.specs.declared.steps.Step.TheVariants as step
use Rattle.pr_world.specs.ControllerStates.{ControllerState, Tool}
use Rattle.pr_world.specs.Protocol.{controllers_at}
use Rattle.pr_reached.specs.HistoriesInRange.{StaysInRange}
use Rattle.pr_tool_laws.specs.Runs.{IsRunOf}
use Rattle.pr_tool_laws.proofs.Stages.KindLemmas.{fed-kind, fed-pid, refused-still}
use Rattle.pr_tool_laws.proofs.Stages.LawLemmas.{tool-keeps}
use Rattle.pr_tool_laws.proofs.RunningAgain.LeavingLemmas.{Comes, closes-more, comes-still, looked-still, opens-more, others-none, ran-now}
use Rattle.pr_tool_laws.proofs.RunningAgain.LeavingStages.{HasOnlyLooked, RanOrLetBe, leaves, only-looked-still, ran-or-let-still}
use Rattle.pr_tool_laws.proofs.RunningAgain.LookLemmas.{HasNoted}
use Rattle.pr_tool_laws.proofs.RunningAgain.NoRunLemmas.{IsNoRun, another, call-none, is_message, no-message, opens-nobody, runs-nobody-on}
use Rattle.pr_tool_laws.proofs.Pstack.StackLaw.{entry-lawful}
use Rattle.pr_tool_laws.proofs.Pstack.StackReads.{control_of, new-stands, old-stands, status_of}
use Rattle.pr_tool_laws.proofs.Pstack.StackSteps.{with_control}
use Rattle.pr_tool_laws.proofs.Stages.StageLemmas.{state-called}
use Rattle.pr_tool_laws.proofs.OwnFiles.StandingLemmas.{IsOther, others-handles}
use Rattle.pr_tool_laws.proofs.Stages.ToolLemmas.{ended-closes}
use Rattle.pr_tool_laws.specs.Leaving.{LeavesItsProcess}
use Rattle.pr_tool_laws.specs.Stacks.{OpensAtMost}
use Rattle.pr_truss_laws.proofs.Files.OpensLemmas.{Opens, held_by, keeps_handles, open-opens, plain-leaves}

-- pstack runs its process again, or lets it be where that stood when it came.

-- ---- what was not refused

-- a tool that is not refused by a reply was not refused before, and takes it
was-accepted : (t : ToolState) (r : Reply) → (fed t r).refusal ≡ None → t.refusal ≡ None
was-accepted t r none = by t.refusal refl
  where
    by : (o : Option Errno) → t.refusal ≡ o → o ≡ None
    by None is = refl
    by (Some e) is =
        let still : IsSome (fed t r).refusal = refused-still t r (ap (λ (o : Option Errno). is_some o) is) in
        absurd (false≢true (sym (ap (λ (o : Option Errno). is_some o) none) ∙ still))

-- it takes the reply
pub record Takes (t : ToolState) (r : Reply) : Type 0 where
  pub none : refusal_in t.step r ≡ None
  pub is : fed t r ≡ accepted t r t.step

takes : (t : ToolState) (r : Reply) → (fed t r).refusal ≡ None → Takes t r
unfolding fed refused
takes t r = by (refusal_in t.step r) refl
  where
    by : (o : Option Errno) → refusal_in t.step r ≡ o → (answered t r o).refusal ≡ None → Takes t r
    by None is none = record { none = is; is = ap (answered t r) is }
    by (Some e) is none = absurd (none-some e (sym none))

-- at a step that passes over no refusal the reply is none
pub granted-at : (p : Step) (r : Reply) → ((e : Errno) → is_passed_over p e ≡ false) → refusal_in p r ≡ None
    → (e : Errno) → r ≢ reply.Fail e
unfolding refusal_in
granted-at p r counts none e is = by (is_passed_over p e) (ap (refusal_in p) (sym is) ∙ none) (counts e)
  where
    by : (b : Bool) → cond b None (Some e) ≡ None → b ≡ false → ⊥
    by true given not = false≢true (sym not)
    by false given not = none-some e (sym given)

module _ (k pid : ℕ) (first : TracedState) where
  -- a file is open at a place
  record Has (place : ℕ) (held : Held) (s : TracedState) (o : Opened) : Type 0 where
    number : ℕ
    at : handle_at o place ≡ Some number
    stands : handle_of s.opens k number ≡ Some held

  -- just its control file is open
  record HasControl (s : TracedState) (o : Opened) : Type 0 where
    number : ℕ
    is : o ≡ with_control number
    stands : handle_of s.opens k number ≡ Some (control_of k pid)

  abbrev Control : TracedState → ToolState → Type 0
  Control s t = Has control_place (control_of k pid) s t.opened

  abbrev Status : TracedState → ToolState → Type 0
  Status s t = Has record_place (status_of k pid) s t.opened

  abbrev Looked : List Entry → ToolState → Type 0
  Looked h t = HasOnlyLooked k pid first h t.stood

  abbrev Left : List Entry → ToolState → Type 0
  Left h t = RanOrLetBe k pid first h t.stood

  -- what is so at a step of a pstack that was not refused
  unfoldable So : List Entry → TracedState → ToolState → Step → Type 0
  So h s t step.OpenCtl = (t.opened ≡ nothing_open) × Comes k h
  So h s t step.OpenFile = HasControl s t.opened × Comes k h
  So h s t step.OpenMemory = Control s t × Status s t × Comes k h
  So h s t step.ReadFirst = Control s t × Status s t × Comes k h
  So h s t step.Stop = Control s t × Looked h t
  So h s t step.AwaitStop = Control s t × Looked h t
  So h s t step.ReadFile = Control s t × Looked h t
  So h s t step.ReadText = Control s t × Looked h t
  So h s t step.ReadFrame = Control s t × Looked h t
  So h s t step.Run = Control s t × Looked h t × (t.stood ≡ false)
  So h s t step.Close = Left h t
  So h s t _ = ⊥

  abbrev SoNow : List Entry → TracedState → ToolState → Type 0
  SoNow h s t = So h s t t.step

  -- ---- what others do

  module _ (n : ℕ) (h : List Entry) (s : TracedState) (actor : Actor) (it : Act)
      (legal : IsLegalEntry n s (record { actor = actor; act = it })) (other : IsOther k actor it) where
    abbrev entry : Entry
    entry = record { actor = actor; act = it }

    others-has : (place : ℕ) (held : Held) (o : Opened) → Has place held s o → Has place held (after s entry) o
    others-has place held o has = record {
      number = has.number;
      at = has.at;
      stands = others-handles n k has.number s actor it legal other ∙ has.stands;
    }

    others-look : (t : ToolState) → Looked h t → Looked (h ++ entry ∷ []) t
    others-look t so =
        only-looked-still k pid first h entry t.stood (λ c r same. absurd (others-none k actor it other c r same)) so

    others-both : (t : ToolState) → Control s t × Looked h t → Control (after s entry) t × Looked (h ++ entry ∷ []) t
    others-both t so = (others-has control_place (control_of k pid) t.opened so.0, others-look t so.1)

    others-come : Comes k h → Comes k (h ++ entry ∷ [])
    others-come so = comes-still k h entry (λ c r same. absurd (others-none k actor it other c r same)) so

    others-files : (t : ToolState) → Control s t × Status s t × Comes k h
        → Control (after s entry) t × Status (after s entry) t × Comes k (h ++ entry ∷ [])
    others-files t so =
        let control = others-has control_place (control_of k pid) t.opened so.0 in
        (control, others-has record_place (status_of k pid) t.opened so.1, others-come so.2)

    others-so : (t : ToolState) (p : Step) → So h s t p → So (h ++ entry ∷ []) (after s entry) t p
    unfolding So
    others-so t step.OpenCtl so = (so.0, others-come so.1)
    others-so t step.OpenFile so = (
      record {
        number = so.0.number;
        is = so.0.is;
        stands = others-handles n k so.0.number s actor it legal other ∙ so.0.stands;
      },
      others-come so.1,
    )
    others-so t step.OpenMemory so = others-files t so
    others-so t step.ReadFirst so = others-files t so
    others-so t step.Stop so = others-both t so
    others-so t step.AwaitStop so = others-both t so
    others-so t step.ReadFile so = others-both t so
    others-so t step.ReadText so = others-both t so
    others-so t step.ReadFrame so = others-both t so
    others-so t step.Run so =
        (others-has control_place (control_of k pid) t.opened so.0, others-look t so.1, so.2)
    others-so t step.Close so =
        ran-or-let-still k pid first h entry t.stood (λ c r same. absurd (others-none k actor it other c r same)) so
    others-so t _ so = absurd so

  -- ---- its own calls

  module _ (h : List Entry) (c : Call) (a : Answer) (lawful : IsLawful (state_after first h))
      (given : answer_to (state_after first h) k c ≡ Some a) where
    abbrev s : TracedState
    s = state_after first h

    abbrev it : Entry
    it = call_entry k c a.reply

    abbrev longer : List Entry
    longer = h ++ it ∷ []

    abbrev Next : ToolState → Type 0
    Next u = SoNow longer a.state u

    same-has : (place : ℕ) (held : Held) (o : Opened) → a.state.opens ≡ s.opens → Has place held s o
        → Has place held a.state o
    same-has place held o same has = record {
      number = has.number;
      at = has.at;
      stands = ap (λ (x : Places). handle_of x k has.number) same ∙ has.stands;
    }

    -- the process is run next, unless it stood; or the next frame is read
    runs-next : (u : ToolState) → Control a.state u → Looked longer u → Next (with_run_next u)
    unfolding So with_run_next
    runs-next u control looked = by u.stood refl
      where
        by : (b : Bool) → u.stood ≡ b → Next (cond b (at_step u step.Close) (at_step u step.Run))
        by true stood = record {
          looked = looked.looked;
          ran = λ not. absurd (false≢true (sym not ∙ stood));
          lets_be = λ still. looked.nobody;
        }
        by false stood = (control, looked, stood)

    walks-on : (u : ToolState) (w : Option Walk) → Control a.state u → Looked longer u → Next (with_walk u w)
    unfolding So with_walk
    walks-on u None control looked = runs-next (record u { walk = None }) control looked
    walks-on u (Some w) control looked = (control, looked)

    module _ (t : ToolState) (next : next_call_of t ≡ Some c) (kind : t.kind ≡ Pstack) (of : t.pid ≡ pid) where
      its : (p : Step) → t.step ≡ p → call_of t p ≡ Some c
      unfolding next_call_of
      its p at = ap (call_of t) (sym at) ∙ next

      -- the step after one of pstack
      goes-on : (u : ToolState) (p : Step) → u.kind ≡ Pstack → u.step ≡ p → Next (with_next u (after_in_pstack p))
          → Next (advanced u)
      unfolding advanced step_after
      goes-on u p is at so =
          let same : advanced u ≡ with_next u (after_in_pstack p) =
          ap (λ (q : Step). with_next u (step_after u.kind q)) at
          ∙ ap (λ (x : ToolKind). with_next u (step_after x p)) is in
          subst Next (sym same) so

      -- a file more
      module _ (name : File) (way : Mode) (open_is : answer_to s k (call.Open pid 0 name way) ≡ Some a)
          (accepts : (e : Errno) → a.reply ≢ reply.Fail e) where
        grants : Opens s k (held_by k pid 0 name way) a.reply a.state.opens
        grants =
            elim (open-opens s k pid 0 name way a open_is) [
              | inl denied ↦ absurd (accepts denied.errno denied.reply)
              | inr granted ↦ granted
            ]

        kept-file : (old place : ℕ) (held : Held) (o : Opened) → old ≢ place → Has old held s o
            → Has old held a.state (with_handle o place (opened_in a.reply))
        unfolding handle_at with_handle
        kept-file old place held o apart has = record {
          number = has.number;
          at = get_or-set_other o.handles place old (opened_in a.reply) None apart ∙ has.at;
          stands =
              old-stands s k (held_by k pid 0 name way) refl a.reply a.state.opens grants has.number held has.stands;
        }

        new-file : handle_of a.state.opens k grants.place ≡ Some (held_by k pid 0 name way)
        new-file = new-stands s k (held_by k pid 0 name way) refl a.reply a.state.opens grants

      -- it opens a file more
      opens-on : (name : File) (way : Mode) → call.Open pid 0 name way ≡ c → Comes k h → Comes k longer
      opens-on name way opens so =
          comes-still k h it (opens-more k c a.reply pid 0 name way (sym opens)) so

      -- its control file
      first-file : t.step ≡ step.OpenCtl → (t.opened ≡ nothing_open) × Comes k h
          → ((e : Errno) → a.reply ≢ reply.Fail e) → Next (accepted t a.reply step.OpenCtl)
      unfolding So accepted call_of ctl_mode_of with_next after_in_pstack opened_in
      first-file at so accepts =
          let granted = grants file.Ctl mode.WriteExcl answers accepts in
          goes-on (record t { opened = with_handle t.opened control_place (opened_in a.reply) }) step.OpenCtl kind at (
            record {
              number = granted.place;
              is =
                  ap (λ (o : Opened). with_handle o control_place (opened_in a.reply)) so.0
                  ∙ ap (λ (r : Reply). with_handle nothing_open control_place (opened_in r)) granted.reply;
              stands = new-file file.Ctl mode.WriteExcl answers accepts;
            },
            opens-on file.Ctl mode.WriteExcl is_call so.1,
          )
        where
          called : call_of t step.OpenCtl ≡ Some (call.Open pid 0 file.Ctl mode.WriteExcl)
          called = rw (of, kind) refl

          is_call : call.Open pid 0 file.Ctl mode.WriteExcl ≡ c
          is_call = same_Some (call.Open pid 0 file.Ctl mode.WriteExcl) c (sym called ∙ its step.OpenCtl at)

          answers : answer_to s k (call.Open pid 0 file.Ctl mode.WriteExcl) ≡ Some a
          answers = ap (answer_to s k) is_call ∙ given

      -- the file of the statuses
      second-file : t.step ≡ step.OpenFile → HasControl s t.opened × Comes k h
          → ((e : Errno) → a.reply ≢ reply.Fail e)
          → Next (accepted t a.reply step.OpenFile)
      unfolding So accepted call_of file_of with_next after_in_pstack opened_in handle_at with_handle nothing_open
      second-file at so accepts =
          goes-on (record t { opened = with_handle t.opened record_place (opened_in a.reply) }) step.OpenFile kind at (
            kept-file file.Lstatus mode.Read answers accepts control_place record_place (control_of k pid) t.opened
                (λ same. omega arith) control,
            status,
            opens-on file.Lstatus mode.Read is_call so.1,
          )
        where
          has : HasControl s t.opened
          has = so.0

          called : call_of t step.OpenFile ≡ Some (call.Open pid 0 file.Lstatus mode.Read)
          called = rw (of, kind) refl

          is_call : call.Open pid 0 file.Lstatus mode.Read ≡ c
          is_call = same_Some (call.Open pid 0 file.Lstatus mode.Read) c (sym called ∙ its step.OpenFile at)

          answers : answer_to s k (call.Open pid 0 file.Lstatus mode.Read) ≡ Some a
          answers = ap (answer_to s k) is_call ∙ given

          control : Has control_place (control_of k pid) s t.opened
          control = record {
            number = has.number;
            at = ap (λ (o : Opened). handle_at o control_place) has.is;
            stands = has.stands;
          }

          status : Has record_place (status_of k pid) a.state (with_handle t.opened record_place (opened_in a.reply))
          status = let granted = grants file.Lstatus mode.Read answers accepts in record {
            number = granted.place;
            at =
                ap (λ (o : Opened). handle_at (with_handle o record_place (opened_in a.reply)) record_place) has.is
                ∙ ap (λ (r : Reply). handle_at (with_handle (with_control has.number) record_place (opened_in r))
                record_place) granted.reply;
            stands = new-file file.Lstatus mode.Read answers accepts;
          }

      -- the memory
      third-file : t.step ≡ step.OpenMemory → Control s t × Status s t × Comes k h
          → ((e : Errno) → a.reply ≢ reply.Fail e)
          → Next (accepted t a.reply step.OpenMemory)
      unfolding So accepted call_of with_next after_in_pstack
      third-file at has accepts =
          let later : ToolState = record t { opened = with_handle t.opened memory_place (opened_in a.reply) } in
          goes-on later step.OpenMemory kind at (
            kept-file file.Mem mode.Read answers accepts control_place memory_place (control_of k pid) t.opened
                (λ same. omega arith) has.0,
            kept-file file.Mem mode.Read answers accepts record_place memory_place (status_of k pid) t.opened
                (λ same. omega arith) has.1,
            opens-on file.Mem mode.Read is_call has.2,
          )
        where
          called : call_of t step.OpenMemory ≡ Some (call.Open pid 0 file.Mem mode.Read)
          called = rw of refl

          is_call : call.Open pid 0 file.Mem mode.Read ≡ c
          is_call = same_Some (call.Open pid 0 file.Mem mode.Read) c (sym called ∙ its step.OpenMemory at)

          answers : answer_to s k (call.Open pid 0 file.Mem mode.Read) ≡ Some a
          answers = ap (answer_to s k) is_call ∙ given

      -- a call that leaves the handles
      module _ (p : Step) (at : t.step ≡ p) (d : Call) (is : call_of t p ≡ Some d)
          (keeps : keeps_handles d ≡ true) where
        call-is : c ≡ d
        call-is = same_Some c d (sym (its p at) ∙ is)

        still : a.state.opens ≡ s.opens
        still = plain-leaves s k d a keeps (ap (answer_to s k) (sym call-is) ∙ given)

        control-still : Control s t → Control a.state t
        control-still control = same-has control_place (control_of k pid) t.opened still control

        both-still : IsNoRun k pid s c → Control s t × Looked h t → Control a.state t × Looked longer t
        both-still none so = (
          control-still so.0,
          only-looked-still k pid first h it t.stood (call-none k pid first h c a.reply none) so.1,
        )

        -- one that sends no message
        reads-still : is_message d ≡ false → Control s t × Looked h t → Control a.state t × Looked longer t
        reads-still plain so = both-still (no-message k pid s c d (sym is ∙ its p at) plain) so

      -- PCSTOP does not run the process
      stop-none : t.step ≡ step.Stop → IsNoRun k pid s c
      unfolding call_of message_code word_bytes
      stop-none at = another k pid s c (control_file t) stop_bytes (its step.Stop at) refl

      -- its first look at the process
      first-look : t.step ≡ step.ReadFirst → Control s t × Status s t × Comes k h
          → ((e : Errno) → a.reply ≢ reply.Fail e)
          → Next (accepted t a.reply step.ReadFirst)
      unfolding So accepted call_of with_next after_in_pstack
      first-look at has accepts =
          goes-on (record t { stood = process_stands (bytes_read a.reply) }) step.ReadFirst kind at (
            control-still step.ReadFirst at (call.Read has.1.number 0 read_limit) called refl has.0,
            record {
              looked = (looked, has.2);
              nobody =
                  runs-nobody-on k pid first h it (call-none k pid first h c a.reply reads)
                  (opens-nobody k pid first h has.2);
            },
          )
        where
          called : call_of t step.ReadFirst ≡ Some (call.Read has.1.number 0 read_limit)
          called = ap (λ (o : Option ℕ). Some (call.Read (number_of o) 0 read_limit)) has.1.at

          reads : IsNoRun k pid s c
          reads =
              no-message k pid s c (call.Read has.1.number 0 read_limit) (sym called ∙ its step.ReadFirst at) refl

          looked : HasNoted k pid (process_stands (bytes_read a.reply)) first longer
          looked = record {
            before = h;
            call = c;
            reply = a.reply;
            after = [];
            place = refl;
            handle = has.1.number;
            is_read = call-is step.ReadFirst at (call.Read has.1.number 0 read_limit) called refl;
            there = has.1.stands;
            granted = accepts;
            noted = refl;
          }

      -- it runs the process
      running : t.step ≡ step.Run → Control s t × Looked h t × (t.stood ≡ false)
          → ((e : Errno) → a.reply ≢ reply.Fail e) → Next (accepted t a.reply step.Run)
      unfolding So accepted call_of with_next after_in_pstack
      running at so accepts =
          goes-on t step.Run kind at (record {
            looked = looked-still k pid first h it t.stood so.1.looked;
            ran = λ not.
                ran-now k first h c a lawful given so.0.number (control_of k pid) same so.0.stands refl accepts;
            lets_be = λ stood. absurd (false≢true (sym so.2 ∙ stood));
          })
        where
          called : call_of t step.Run ≡ Some (call.Ctl so.0.number run_bytes)
          called = ap (λ (o : Option ℕ). Some (call.Ctl (number_of o) run_bytes)) so.0.at

          same : c ≡ call.Ctl so.0.number run_bytes
          same = call-is step.Run at (call.Ctl so.0.number run_bytes) called refl

      -- ---- step by step

      -- what a step makes of it that was not refused
      step-so : (p : Step) → t.step ≡ p → So h s t p → refusal_in p a.reply ≡ None → Next (accepted t a.reply p)
      unfolding So accepted call_of with_next after_in_pstack with_record with_first with_answer with_closed
          is_passed_over
      step-so step.OpenCtl at so none = first-file at so (granted-at step.OpenCtl a.reply (λ e. refl) none)
      step-so step.OpenFile at so none = second-file at so (granted-at step.OpenFile a.reply (λ e. refl) none)
      step-so step.OpenMemory at so none = third-file at so (granted-at step.OpenMemory a.reply (λ e. refl) none)
      step-so step.ReadFirst at so none = first-look at so (granted-at step.ReadFirst a.reply (λ e. refl) none)
      step-so step.Stop at so none =
          goes-on (record t { until = until_in a.reply }) step.Stop kind at
          (both-still step.Stop at _ refl refl (stop-none at) so)
      step-so step.AwaitStop at so none =
          goes-on t step.AwaitStop kind at (reads-still step.AwaitStop at _ refl refl refl so)
      step-so step.ReadFile at so none =
          goes-on (with_record t (bytes_read a.reply)) step.ReadFile kind at
          (reads-still step.ReadFile at _ refl refl refl so)
      step-so step.ReadText at so none =
          let later = reads-still step.ReadText at _ refl refl refl so in
          goes-on (with_first t (bytes_read a.reply)) step.ReadText kind at
          (walks-on (with_first t (bytes_read a.reply)) _ later.0 later.1)
      step-so step.ReadFrame at so none =
          let later = reads-still step.ReadFrame at _ refl refl refl so in
          by t.walk later.0 later.1
        where
          by : (w : Option Walk) → Control a.state t → Looked longer t
              → Next (with_answer t (bytes_read a.reply) w)
          by None control looked = runs-next t control looked
          by (Some w) control looked = walks-on _ _ control looked
      step-so step.Run at so none = running at so (granted-at step.Run a.reply (λ e. refl) none)
      step-so step.Close at so none = closes at so
        where
          closes : t.step ≡ step.Close → Left h t → Next (with_closed t)
          closes is left =
              subst (λ (p : Step). So longer a.state (with_closed t) p) (sym is)
              (ran-or-let-still k pid first h it t.stood
              (closes-more k c a.reply (last_open t.opened) (its step.Close is)) left)
      step-so _ at so none = absurd so

      called-so : SoNow h s t → Takes t a.reply → Next (fed t a.reply)
      called-so so takes =
          subst Next (sym takes.is) (step-so t.step refl so takes.none)

-- ---- along a history

module _ (n k pid : ℕ) (first : TracedState) where
  -- pstack in a lawful state, with what is so unless it was refused
  record IsRunKept (h : List Entry) (t : ToolState) : Type 0 where
    lawful : IsLawful (state_after first h)
    kind : t.kind ≡ Pstack
    of : t.pid ≡ pid
    so : t.refusal ≡ None → SoNow k pid first h (state_after first h) t

  others-kept : (h : List Entry) (t : ToolState) (actor : Actor) (it : Act)
      → IsLegalEntry n (state_after first h) (record { actor = actor; act = it }) → IsOther k actor it
      → IsRunKept h t → IsRunKept (h ++ (record { actor = actor; act = it }) ∷ []) t
  others-kept h t actor it legal other kept =
      let e : Entry = record { actor = actor; act = it } in
      let same : after (state_after first h) e ≡ state_after first (h ++ e ∷ []) = sym (state_after-push first h e) in
      record {
        lawful = subst IsLawful same (entry-lawful n (state_after first h) e kept.lawful legal);
        kind = kept.kind;
        of = kept.of;
        so = λ none.
            subst (λ (s : TracedState). SoNow k pid first (h ++ e ∷ []) s t) same
            (others-so k pid first n h (state_after first h) actor it legal other t t.step (kept.so none));
      }

  calls-kept : (h : List Entry) (t : ToolState) (c : Call) (a : Answer) → next_call_of t ≡ Some c
      → answer_to (state_after first h) k c ≡ Some a → IsRunKept h t
      → IsRunKept (h ++ call_entry k c a.reply ∷ []) (fed t a.reply)
  calls-kept h t c a next given kept =
      let same = sym (state-called first h k c a given) in
      record {
        lawful = subst IsLawful same (call-state (state_after first h) kept.lawful k c a given);
        kind = fed-kind t a.reply ∙ kept.kind;
        of = fed-pid t a.reply ∙ kept.of;
        so = λ none.
            subst
            (λ (s : TracedState). SoNow k pid first (h ++ call_entry k c a.reply ∷ []) s (fed t a.reply)) same
            (called-so k pid first h c a kept.lawful given t next kept.kind kept.of
            (kept.so (was-accepted t a.reply none)) (takes t a.reply none));
      }

  first-so : SoNow k pid first [] first (first_tool Pstack pid)
  unfolding So first_tool first_step
  first-so = (refl, All-nil (OpensAtMost k))

  -- who has ended is at its closes
  ended-at : (h : List Entry) (t : ToolState) → has_ended t ≡ true → SoNow k pid first h (state_after first h) t
      → Left k pid first h t
  unfolding So
  ended-at h t ended so = subst (So k pid first h (state_after first h) t) (ended-closes t ended) so

-- In the end it has done so, unless it was refused.
pub runs-again : (controllers : List ControllerState) (n k pid : ℕ) (s : TracedState) (h : List Entry) (t : ToolState)
    → StaysInRange s h → IsRunOf n k (Tool (first_tool Pstack pid)) controllers s h
    → slice_get (controllers_at controllers h) k ≡ Some (Tool t) → has_ended t ≡ true → t.refusal ≡ None
    → LeavesItsProcess k pid s h
unfolding first_tool
runs-again controllers n k pid s h t stays run ends ended accepted =
    let begun : IsRunKept n k pid s [] (first_tool Pstack pid) =
    record { lawful = stays.lawful; kind = refl; of = refl; so = λ none. first-so n k pid s } in
    let kept =
    tool-keeps n k s (IsRunKept n k pid s) (others-kept n k pid s) (calls-kept n k pid s) controllers h
    (first_tool Pstack pid) t run ends begun in
    leaves n k pid t.stood s h stays run.legal (ended-at n k pid s h t ended (kept.so accepted))
