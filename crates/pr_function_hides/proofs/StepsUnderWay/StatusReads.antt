use Rattle.std.proofs.Common.{◌≡◌, ◌<◌, ℕ, Bool, true, false, Option, Some, None, List, sym, subst, ap, ◌∙◌, refl, arith, inl, inr, cond}
use Rattle.std.proofs.lemmas.Bool.{false≢true}
use Rattle.std.proofs.lemmas.List.Elements.{All-head, All-tail}
use Rattle.std.proofs.lemmas.Option.{same_Some, slice_get_within}
use Rattle.std.specs.List.{All, cons_option}
use Rattle.pr_lawful.proofs.ProcessParts.HandleLemmas.{handle-at}
use Rattle.pr_model.specs.Handles.{handle_of}
use Rattle.pr_model.specs.Lawful.{IsLawful}
use Rattle.pr_model.specs.Replies.{number_of}
use Rattle.pr_model.specs.State.{TracedState}
use Rattle.pr_model.specs.declared.calls.Call.{Call}
use Rattle.pr_model.specs.declared.calls.Call.TheVariants as call
use Rattle.pr_model.specs.declared.handles.Held.{Held}
use Rattle.pr_model.specs.Replies.{no_handle}
use Rattle.pr_truss.specs.FunctionCalls.{call_beside, function_call_of, next_function_call_of, patch_call}
use Rattle.pr_truss.specs.Marks.{first_function, has_functions}
use Rattle.pr_truss.specs.NextCalls.{call_of, next_call_of, read_record}
use Rattle.pr_truss.specs.Trusses.{TrussState, traced_at}
use Rattle.pr_truss.specs.declared.asides.Aside.{Aside}
use Rattle.pr_truss.specs.declared.asides.Aside.TheVariants.{Nothing, Patching}
use Rattle.pr_truss.specs.declared.processes.Traced.{Traced}
use Rattle.pr_truss.specs.declared.stages.AfterClosing.TheVariants.{GoOn}
use Rattle.pr_truss.specs.declared.stages.Stage.{Stage}
use Rattle.pr_truss.specs.declared.stages.Stage.TheVariants.{Polling, ReadingStatus, ReadingText, Running, Closing, Finished}
use Rattle.pr_truss_laws.proofs.Files.HeldLemmas.{at_place}
use Rattle.pr_truss_laws.specs.Handles.{handles_of}
use Rattle.pr_function_laws.proofs.Stepping.AwayLemmas.{Away, AwayAside, AwayStage, Ours}

-- While truss is away from a process that it met, a read of a file of that process is the read of its status.

-- a handle that is open is not the number that stands for none
pub open-few : (k m : ℕ) (s : TracedState) (held : Held) → IsLawful s → handle_of s.opens k m ≡ Some held
    → m < no_handle
open-few k m s held lawful there =
    omega (arith, slice_get_within s.opens m (Some held) (handle-at s.opens k m held there), lawful.places)

abbrev is_read : Option Call → Bool
is_read (Some (call.Read handle from len)) = true
is_read _ = false

abbrev read_from : Option Call → ℕ
read_from (Some (call.Read handle from len)) = handle
read_from _ = 0

module _ (Q : ℕ → Type 0) (c ns : ℕ) (met : Traced) (t : TrussState) (w : Away Q c ns met t) (handle from len : ℕ)
    (open_one : handle < no_handle) (ours : Q handle → ⊥) where
  rest-of : (o : Option ℕ) (ms : List ℕ) → All Q (cons_option o ms) → All Q ms
  rest-of None ms all = all
  rest-of (Some m) ms all = All-tail Q m ms all

  -- no file of another process has this handle
  not-other : (o : Option ℕ) (ms : List ℕ) → All Q (cons_option o ms) → number_of o ≡ handle → ⊥
  not-other None ms all is = omega (arith, is, open_one)
  not-other (Some m) ms all is = ours (subst Q is (All-head Q m ms all))

  status-other : (u : Traced) → All Q (handles_of u) → number_of u.status ≡ handle → ⊥
  status-other u all = not-other u.status _ (rest-of u.lstatus _ (rest-of u.memory _ all))

  memory-other : (u : Traced) → All Q (handles_of u) → number_of u.memory ≡ handle → ⊥
  memory-other u all = not-other u.memory _ all

  abbrev read : Call
  read = call.Read handle from len

  patch-reads : (control : ℕ) (plant lift : Option ℕ)
      → is_read (Some (patch_call t.options control plant lift)) ≡ false
  patch-reads control (Some function) lift = refl
  patch-reads control None (Some function) = refl
  patch-reads control None None = refl

  no-read : {A : Type 0} (d : Option Call) → is_read d ≡ false → d ≡ Some read → A
  no-read d other is = absurd (false≢true (sym other ∙ ap is_read is))

  stage-reads : (stage : Stage) → AwayStage Q c ns met t.traced stage → function_call_of t stage ≡ Some read
      → read ≡ read_record (Some ns)
  unfolding function_call_of call_of
  stage-reads (ReadingStatus q) here is = by (w.each q here)
    where
      by : Ours Q c ns met (at_place t.traced q) → read ≡ read_record (Some ns)
      by (inl own) = sym (same_Some _ read is) ∙ ap read_record own.status
      by (inr apart) = absurd (status-other (traced_at t q) apart (ap read_from is))
  stage-reads (ReadingText q l at size) here is = absurd (memory-other (traced_at t q) here.1 (ap read_from is))
  stage-reads Polling here is = no-read _ refl is
  stage-reads (Running q) here is = no-read _ refl is
  stage-reads (Closing q GoOn) here is = no-read _ refl is
  stage-reads Finished here is = no-read _ refl is
  stage-reads _ here is = absurd here

  aside-reads : (aside : Aside) → AwayAside Q c ns met t.traced aside → call_beside t t.stage aside ≡ Some read
      → read ≡ read_record (Some ns)
  unfolding call_beside
  aside-reads Nothing here is = stage-reads t.stage w.stage is
  aside-reads (Patching q plants lifts clear) here is =
      no-read _ (patch-reads (traced_at t q).control (first_function plants) (first_function lifts)) is
  aside-reads _ here is = absurd here

  pub reads-status : has_functions t.options ≡ true → next_function_call_of t ≡ Some read
      → read ≡ read_record (Some ns)
  unfolding next_function_call_of
  reads-status has next =
      aside-reads t.aside w.beside
      (sym (ap (λ b. cond b (call_beside t t.stage t.aside) (next_call_of t)) has) ∙ next)
