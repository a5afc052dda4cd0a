use Rattle.std.proofs.Common.{◌≡◌, ◌≢◌, ◌==◌, ℕ, Bool, true, false, Some, List, get_or, position, refl, sym, subst, ap, ◌∙◌, Err, Ok, Result}
use Rattle.std.proofs.lemmas.Option.{none-some, same_Some}
use Rattle.std.specs.List.{All, slice_get}
use Rattle.pr_line.specs.declared.functions.Function.{Function}
use Rattle.pr_line.specs.declared.options.Options.{Options}
use Rattle.pr_model.specs.ControlMessages.{tail_of}
use Rattle.pr_model.specs.declared.calls.Call.{Call}
use Rattle.pr_model.specs.declared.calls.Call.TheVariants as call
use Rattle.pr_num.proofs.SearchLemmas.{All-at}
use Rattle.pr_num.specs.Limits.{instruction_size}
use Rattle.pr_num.specs.Messages.{first_message, message_code, spelling}
use Rattle.pr_num.specs.Words.{word_bytes}
use Rattle.pr_num.specs.declared.messages.Message.{Message}
use Rattle.pr_num.specs.declared.messages.Message.TheVariants as message
use Rattle.pr_num.specs.declared.messages.MsgFault.{MsgFault}
use Rattle.pr_truss.specs.FunctionCalls.{function_call_of, lift_call, plant_call, write_code_call}
use Rattle.pr_truss.specs.FunctionEvents.{begins_at}
use Rattle.pr_truss.specs.Marks.{address_in, address_of, breakpoint, code_in, code_of}
use Rattle.pr_truss.specs.NextCalls.{call_of, child_call, freeing_call, opening_call}
use Rattle.pr_truss.specs.Trusses.{TrussState}
use Rattle.pr_truss.specs.declared.stages.ChildStep.TheVariants as child
use Rattle.pr_truss.specs.declared.stages.FreeingStep.TheVariants as freeing
use Rattle.pr_truss.specs.declared.stages.OpeningStep.TheVariants as opening
use Rattle.pr_truss.specs.declared.stages.Stage.{Stage}
use Rattle.pr_truss.specs.declared.stages.Stage.TheVariants.{Spawning, OpeningControl, Opening, Polling, ReadingStatus, ReadingText, OpeningChildControl, OpeningChild, Running, Closing, Unfollowing, ReadingLwps, FreeingChild, Finished}
use Rattle.pr_function_laws.proofs.PlantedCalls.BreakpointCode.{breakpoint-sound, with_breakpoint}
use Rattle.pr_function_laws.proofs.OpenedProcesses.CodeLemmas.{lift-read, lift-tail, lift_bytes, lift_message}
use Rattle.pr_function_laws.specs.PlantedByCalls.{IsFirstNamed, IsNoBreakpoint}
use Rattle.pr_function_laws.specs.Steppable.{IsSteppable}
use Rattle.pr_function_laws.specs.ToldTurns.{AreSteppable}

-- The calls by which truss plants and lifts the breakpoint of a function are of that function and that control file
-- alone, and no other call of truss is one of them.

-- ---- calls that send no PCWRITE

-- a message to a control file that begins with the code of PCWRITE
abbrev pub is_pcwrite : Call → Bool
is_pcwrite (call.Ctl control bytes) = get_or bytes 0 0 == 23
is_pcwrite _ = false

pub writes-code : (o : Options) (control function : ℕ) (code : List ℕ)
    → is_pcwrite (write_code_call o control function code) ≡ true
unfolding message_code word_bytes
writes-code o control function code = refl

pub by-call : (c d : Call) → is_pcwrite d ≡ false → Some d ≡ Some c → is_pcwrite c ≡ false
by-call c d quiet is = subst (λ x. is_pcwrite x ≡ false) (same_Some d c is) quiet

-- the call of a stage
pub stage-quiet : (t : TrussState) (stage : Stage) (c : Call) → function_call_of t stage ≡ Some c
    → is_pcwrite c ≡ false
unfolding function_call_of call_of opening_call child_call freeing_call message_code word_bytes
stage-quiet t (Spawning program) c is = by-call c _ refl is
stage-quiet t (OpeningControl pid) c is = by-call c _ refl is
stage-quiet t (Opening place opening.OpenStatus) c is = by-call c _ refl is
stage-quiet t (Opening place opening.OpenLstatus) c is = by-call c _ refl is
stage-quiet t (Opening place opening.OpenMemory) c is = by-call c _ refl is
stage-quiet t (Opening place opening.ClearModes) c is = by-call c _ refl is
stage-quiet t (Opening place opening.SetRelease) c is = by-call c _ refl is
stage-quiet t (Opening place opening.Stop) c is = by-call c _ refl is
stage-quiet t (Opening place (opening.AwaitStop until)) c is = by-call c _ refl is
stage-quiet t (Opening place opening.ReadLwps) c is = by-call c _ refl is
stage-quiet t (Opening place opening.TraceSignals) c is = by-call c _ refl is
stage-quiet t (Opening place opening.TraceFaults) c is = by-call c _ refl is
stage-quiet t (Opening place opening.TraceEntries) c is = by-call c _ refl is
stage-quiet t (Opening place opening.TraceExits) c is = by-call c _ refl is
stage-quiet t (Opening place opening.Follow) c is = by-call c _ refl is
stage-quiet t (Opening place opening.Start) c is = by-call c _ refl is
stage-quiet t Polling c is = by-call c _ refl is
stage-quiet t (ReadingStatus place) c is = by-call c _ refl is
stage-quiet t (ReadingText place l from len) c is = by-call c _ refl is
stage-quiet t (OpeningChildControl parent pid) c is = by-call c _ refl is
stage-quiet t (OpeningChild parent place child.SetRelease) c is = by-call c _ refl is
stage-quiet t (OpeningChild parent place child.OpenStatus) c is = by-call c _ refl is
stage-quiet t (OpeningChild parent place child.OpenLstatus) c is = by-call c _ refl is
stage-quiet t (OpeningChild parent place child.OpenMemory) c is = by-call c _ refl is
stage-quiet t (OpeningChild parent place child.Start) c is = by-call c _ refl is
stage-quiet t (Running place) c is = by-call c _ refl is
stage-quiet t (Closing place next) c is = by-call c _ refl is
stage-quiet t Unfollowing c is = by-call c _ refl is
stage-quiet t ReadingLwps c is = by-call c _ refl is
stage-quiet t (FreeingChild pid freeing.OpenControl) c is = by-call c _ refl is
stage-quiet t (FreeingChild pid (freeing.SetRelease control)) c is = by-call c _ refl is
stage-quiet t (FreeingChild pid (freeing.Close control)) c is = by-call c _ refl is
stage-quiet t Finished c is = absurd (none-some c is)

-- ---- calls that write code

pub ctl-same : {a b : ℕ} {xs ys : List ℕ} → call.Ctl a xs ≡ call.Ctl b ys → (a ≡ b) × (xs ≡ ys)
ctl-same is = (cc, cc)

-- the address to which a message writes
abbrev written_at : Message → ℕ
written_at (message.Write at size) = at
written_at m = 0

abbrev read_at : Result (Message × ℕ) MsgFault → ℕ
read_at (Ok first) = written_at first.0
read_at (Err fault) = 0

-- what is written says where, and what
module _ (f g : Function) (able : IsSteppable f) (sound : IsSteppable g) where
  same-write : lift_bytes f able ≡ lift_bytes g sound → (f.at ≡ g.at) × (f.code ≡ g.code)
  same-write is =
      let at : f.at ≡ g.at =
      ap read_at (sym (lift-read f able)) ∙ ap (λ bytes. read_at (first_message bytes)) is
      ∙ ap read_at (lift-read g sound) in (
        at,
        sym (lift-tail f able) ∙ ap (tail_of (lift_message f able)) is
            ∙ ap (λ a. tail_of (message.Write a instruction_size) (lift_bytes g sound)) at ∙ lift-tail g sound,
      )

module _ (o : Options) (able : AreSteppable o) (others : All IsNoBreakpoint o.functions) where
  named-sound : (i : ℕ) (f : Function) → slice_get o.functions i ≡ Some f → IsSteppable f
  named-sound i f named = All-at IsSteppable o.functions i f named able.each

  address-is : (i : ℕ) (f : Function) → slice_get o.functions i ≡ Some f → address_of o i ≡ f.at
  unfolding address_of
  address-is i f named = ap address_in named

  code-is : (i : ℕ) (f : Function) → slice_get o.functions i ≡ Some f → code_of o i ≡ f.code
  unfolding code_of
  code-is i f named = ap code_in named

  lift-is : (control i : ℕ) (f : Function) (named : slice_get o.functions i ≡ Some f)
      → lift_call o control i ≡ call.Ctl control (lift_bytes f (named-sound i f named))
  lift-is control i f named =
      ap (λ a. call.Ctl control (spelling (message.Write a instruction_size) (code_of o i))) (address-is i f named)
      ∙ ap (λ b. call.Ctl control (spelling (message.Write f.at instruction_size) b)) (code-is i f named)

  plant-is : (control i : ℕ) (f : Function) (named : slice_get o.functions i ≡ Some f)
      → plant_call o control i
      ≡ call.Ctl control (lift_bytes (with_breakpoint f) (breakpoint-sound f (named-sound i f named)))
  plant-is control i f named =
      ap (λ a. call.Ctl control (spelling (message.Write a instruction_size) breakpoint)) (address-is i f named)

  -- of two functions at one address only one is the first
  one-first : (i j : ℕ) (v : IsFirstNamed o i) (w : IsFirstNamed o j)
      → (let f : Function = v.f in f.at) ≡ (let g : Function = w.f in g.at) → i ≡ j
  one-first i j v w same =
      same_Some i j (sym v.first ∙ ap (λ a. position (begins_at a) o.functions) same ∙ w.first)

  pub lifts-same : (c d i j : ℕ) → IsFirstNamed o i → IsFirstNamed o j → lift_call o c i ≡ lift_call o d j
      → (c ≡ d) × (i ≡ j)
  lifts-same c d i j v w is =
      let both = ctl-same (sym (lift-is c i v.f v.named) ∙ is ∙ lift-is d j w.f w.named) in (
        both.0,
        one-first i j v w
            (same-write v.f w.f (named-sound i v.f v.named) (named-sound j w.f w.named) both.1).0,
      )

  pub plants-same : (c d i j : ℕ) → IsFirstNamed o i → IsFirstNamed o j → plant_call o c i ≡ plant_call o d j
      → (c ≡ d) × (i ≡ j)
  plants-same c d i j v w is =
      let both = ctl-same (sym (plant-is c i v.f v.named) ∙ is ∙ plant-is d j w.f w.named) in (
        both.0,
        one-first i j v w
            (same-write (with_breakpoint v.f) (with_breakpoint w.f)
            (breakpoint-sound v.f (named-sound i v.f v.named)) (breakpoint-sound w.f (named-sound j w.f w.named))
            both.1).0,
      )

  -- what is planted is not what is lifted
  pub plants-lifts : (c d i j : ℕ) → IsFirstNamed o i → IsFirstNamed o j → plant_call o c i ≢ lift_call o d j
  plants-lifts c d i j v w is =
      let both = ctl-same (sym (plant-is c i v.f v.named) ∙ is ∙ lift-is d j w.f w.named) in
      let written =
      same-write (with_breakpoint v.f) w.f (breakpoint-sound v.f (named-sound i v.f v.named))
      (named-sound j w.f w.named) both.1 in
      let no : IsNoBreakpoint w.f = All-at IsNoBreakpoint o.functions j w.f w.named others in
      no.other (sym written.1)

  -- to another control file
  pub lifts-apart : (c d i j : ℕ) (code : List ℕ) → c ≢ d → write_code_call o c i code ≢ lift_call o d j
  lifts-apart c d i j code apart is = apart (ctl-same is).0

  pub plants-apart : (c d i j : ℕ) (code : List ℕ) → c ≢ d → write_code_call o c i code ≢ plant_call o d j
  plants-apart c d i j code apart is = apart (ctl-same is).0
