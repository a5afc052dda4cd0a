use Rattle.std.proofs.Common.{◌≡◌, ◌<◌, ◌^◌, ℕ, Bool, true, cond, IfOk, Option, Some, None, Result, Ok, Err, List, All}
use Rattle.std.proofs.Common.{length, refl, sym, subst, ap, ◌∙◌, arith, inl, inr}
use Rattle.std.proofs.lemmas.Bool.{cases_eq, false≢true}
use Rattle.std.proofs.lemmas.Option.{none-some, same_Some}
use Rattle.std.specs.List.{slice_get}
use Rattle.pr_function_hides.proofs.Replies.CountedWalk.{AsideIn}
use Rattle.pr_function_hides.proofs.Replies.FunctionSets.{first-has, not-in-none}
use Rattle.pr_function_hides.proofs.Replies.LeavingStages.{IsLeft, asks, awaits, closes_files, halts, has_ended, lifts_all}
use Rattle.pr_function_hides.proofs.Replies.LeavingStages.{looks, reads_text, waits_again}
use Rattle.pr_function_hides.proofs.Replies.OwnFiles.{GoesOn, HasItsFiles, IsBeside}
use Rattle.pr_function_hides.proofs.Tidy.OwnTidy.{Quiet, is-other, is-sent, stage-kind}
use Rattle.pr_function_hides.proofs.Tidy.OwnWrites.{breakpoint-size, code-is, named-at, write-is, write-read}
use Rattle.pr_function_hides.proofs.Tidy.StillMessages.{BeginStill, cfault-still, is_still, read-still, stop-still}
use Rattle.pr_function_hides.proofs.Tidy.StillMessages.{wstop-still}
use Rattle.pr_function_hides.specs.FunctionHiders.{ArePatchable, IsPatchable}
use Rattle.pr_function_laws.proofs.Marks.MarkLemmas.{first-below}
use Rattle.pr_function_laws.proofs.NextCalls.PatchCalls.{next-beside, next-staged}
use Rattle.pr_function_laws.proofs.Marks.SoundLemmas.{AsideIsBelow}
use Rattle.pr_line.specs.declared.functions.Function.{Function}
use Rattle.pr_line.specs.declared.options.Options.{Options}
use Rattle.pr_model.specs.Handles.{handle_of}
use Rattle.pr_model.specs.State.{TracedState}
use Rattle.pr_model.specs.declared.calls.Call.{Call}
use Rattle.pr_model.specs.declared.calls.Call.TheVariants as call
use Rattle.pr_model.specs.declared.calls.File.TheVariants as file
use Rattle.pr_model.specs.declared.calls.Mode.TheVariants.{WriteExcl}
use Rattle.pr_model.specs.declared.handles.Held.{Held}
use Rattle.pr_num.proofs.SearchLemmas.{All-at}
use Rattle.pr_num.specs.Messages.{first_message, spelling}
use Rattle.pr_num.specs.Words.{IsByte}
use Rattle.pr_num.specs.declared.instructions.Instruction.TheVariants.{Bpt}
use Rattle.pr_num.specs.declared.messages.Message.{Message}
use Rattle.pr_num.specs.declared.messages.Message.TheVariants as message
use Rattle.pr_num.specs.declared.messages.MsgFault.{MsgFault}
use Rattle.pr_reached.proofs.StatesInRange.MemoryRanges.{instruction-bytes}
use Rattle.pr_truss.specs.Asides.{marks_at}
use Rattle.pr_truss.specs.FunctionCalls.{call_beside, function_call_of, lift_call, next_function_call_of, patch_call}
use Rattle.pr_truss.specs.FunctionCalls.{plant_call}
use Rattle.pr_truss.specs.Marks.{breakpoint, code_of, first_function, has_function, has_functions, no_functions}
use Rattle.pr_truss.specs.NextCalls.{call_of, next_call_of}
use Rattle.pr_truss.specs.Trusses.{TrussState, traced_at}
use Rattle.pr_truss.specs.declared.asides.Aside.{Aside}
use Rattle.pr_truss.specs.declared.asides.Aside.TheVariants.{Asking, AwaitingAgain, AwaitingStop, Nothing, Reading}
use Rattle.pr_truss.specs.declared.asides.Aside.TheVariants.{Planting, Patching}
use Rattle.pr_truss.specs.declared.stages.AfterClosing.TheVariants.{GoOn}
use Rattle.pr_truss.specs.declared.stages.Stage.{Stage}
use Rattle.pr_truss.specs.declared.stages.Stage.TheVariants.{Closing, Finished, ReadingLwps, ReadingText, Unfollowing}

-- Truss writes to no function but those that it is to plant or to lift: what is so of each of these is so of one at the
-- address to which a call writes.

-- the address of PCWRITE
abbrev address-of : Message → ℕ
address-of (message.Write at size) = at
address-of m = 0

abbrev address-in : Result (Message × ℕ) MsgFault → ℕ
address-in (Ok first) = address-of first.0
address-in (Err fault) = 0

-- a function at an address, of which a thing is so in the process of an id
pub record IsSoAt (o : Options) (P : ℕ → ℕ → Type 0) (pid at : ℕ) : Type 0 where
  pub function : ℕ
  pub g : Function
  pub its : slice_get o.functions function ≡ Some g
  pub same : g.at ≡ at
  pub known : P pid function

module _ (k : ℕ) (s : TracedState) (c : Call) (t : TrussState) (fit : ArePatchable t.options)
    (holds : HasItsFiles k t s) (below : AsideIsBelow (length t.options.functions) t.aside)
    (next : next_function_call_of t ≡ Some c) (has : has_functions t.options ≡ true) (P : ℕ → ℕ → Type 0)
    (m : ℕ) (inside : m < length t.traced) (i : ℕ) (f : Function)
    (named : slice_get t.options.functions i ≡ Some f) (code : List ℕ) (size : length code ≡ 16)
    (are : All IsByte code)
    (is : c ≡ call.Ctl (traced_at t m).control (spelling (message.Write f.at 16) code)) where
  abbrev o : Options
  o = t.options

  abbrev Goal : Type 0
  Goal = IsSoAt o P (traced_at t m).pid f.at

  patchable : (j : ℕ) (g : Function) → slice_get o.functions j ≡ Some g → IsPatchable g
  patchable j g its = All-at IsPatchable o.functions j g its fit.each

  low : (g : Function) → IsPatchable g → g.at < 2 ^ 64
  low g p = let w = p.within in omega (arith, w)

  read : first_message (spelling (message.Write f.at 16) code)
      ≡ Ok (message.Write f.at 16, length (spelling (message.Write f.at 16) code))
  read = write-read f.at code (low f (patchable i f named)) size are

  ctl-same : {a b : ℕ} {xs ys : List ℕ} → call.Ctl a xs ≡ call.Ctl b ys → (a ≡ b) × (xs ≡ ys)
  ctl-same same = (cc, cc)

  -- the function of another write that is the same call
  found : (q : ℕ) → q < length t.traced → (j : ℕ) (g : Function) → slice_get o.functions j ≡ Some g → (bs : List ℕ)
      → length bs ≡ 16 → All IsByte bs
      → c ≡ call.Ctl (traced_at t q).control (spelling (message.Write g.at 16) bs) → P (traced_at t q).pid j
      → Goal
  found q within j g its bs long bytes same it =
      let both = ctl-same (sym same ∙ is) in
      record {
        function = j;
        g = g;
        its = its;
        same = ap address-in
            (sym (write-read g.at bs (low g (patchable j g its)) long bytes) ∙ ap first_message both.1 ∙ read);
        known = subst (λ n. P (traced_at t n).pid j) (place-is both.0) it;
      }
    where
      held-of : ℕ → Held
      held-of n = record { controller = k; pid = (traced_at t n).pid; lwp = 0; file = file.Ctl; mode = WriteExcl }

      place-is : (traced_at t q).control ≡ (traced_at t m).control → q ≡ m
      place-is controls = elim (cases_eq q m) [
        | inl is_it ↦ is_it
        | inr apart ↦
            absurd (holds.apart q m within inside apart
            (ap (λ (x : Held). x.pid)
            (same_Some (held-of q) (held-of m)
            (sym (holds.control q within) ∙ ap (handle_of s.opens k) controls ∙ holds.control m inside))))
      ]

  still-not : (handle : ℕ) (bytes : List ℕ) → c ≡ call.Ctl handle bytes → BeginStill bytes → Goal
  still-not handle bytes same still =
      absurd (false≢true
      (subst (λ (x : Result (Message × ℕ) MsgFault). IfOk x (λ first. is_still first.0 ≡ true)) read
      (subst BeginStill (ctl-same (sym same ∙ is)).1 still)))

  quiet-not : Quiet c t → Goal
  quiet-not (inl (q, (within, (bytes, (same, still))))) = still-not (traced_at t q).control bytes same still
  quiet-not (inr never) = absurd (never (traced_at t m).control _ is)

  plant-found : (q j : ℕ) → q < length t.traced → j < length o.functions
      → Some (plant_call o (traced_at t q).control j) ≡ Some c → P (traced_at t q).pid j → Goal
  plant-found q j within small same it =
      let g = named-at o j small in
      found q within j g.0 g.1 breakpoint breakpoint-size (instruction-bytes Bpt)
      (write-is o c (traced_at t q).control j g.0 breakpoint breakpoint g.1 refl same) it

  lift-found : (q j : ℕ) → q < length t.traced → j < length o.functions
      → Some (lift_call o (traced_at t q).control j) ≡ Some c → P (traced_at t q).pid j → Goal
  lift-found q j within small same it =
      let g = named-at o j small in
      let x : Function = g.0 in
      let p : IsPatchable x = patchable j x g.1 in
      found q within j x g.1 x.code p.size p.bytes
      (write-is o c (traced_at t q).control j x x.code (code_of o j) g.1 (code-is o j x g.1) same) it

  patch-found : (q : ℕ) (plants lifts : List Bool) (clear : Bool) → q < length t.traced
      → AsideIsBelow (length o.functions) (Patching q plants lifts clear)
      → AsideIn P t.traced (Patching q plants lifts clear) → (plant lift : Option ℕ) → first_function plants ≡ plant
      → first_function lifts ≡ lift → Some (patch_call o (traced_at t q).control plant lift) ≡ Some c → Goal
  patch-found q plants lifts clear within small it (Some j) lift first second its =
      plant-found q j within (first-below _ plants j small.0 first) its (it.0 j (first-has plants j first))
  patch-found q plants lifts clear within small it None (Some j) first second its =
      lift-found q j within (first-below _ lifts j small.1 second) its (it.1 j (first-has lifts j second))
  patch-found q plants lifts clear within small it None None first second its =
      still-not _ _ (sym (same_Some _ c its)) cfault-still

  -- ---- where it does not leave its processes

  module _ (goes : GoesOn t) where
    aside-found : (aside : Aside) → IsBeside (length t.traced) aside → AsideIsBelow (length o.functions) aside
        → call_beside t t.stage aside ≡ Some c → AsideIn P t.traced aside → Goal
    unfolding call_beside
    aside-found Nothing within small same it = quiet-not (stage-kind c t t.stage goes.stage same)
    aside-found (Reading q j) within small same it = still-not _ _ (sym (same_Some _ c same)) (read-still _ _)
    aside-found (Planting q j) within small same it = plant-found q j within small same it
    aside-found (Patching q plants lifts clear) within small same it =
        patch-found q plants lifts clear within small it (first_function plants) (first_function lifts) refl refl same
    aside-found _ within small same it = absurd within

    pub written-known : AsideIn P t.traced t.aside → Goal
    unfolding next_function_call_of
    written-known known =
        aside-found t.aside goes.beside below
        (sym (ap (λ b. cond b (call_beside t t.stage t.aside) (next_call_of t)) has) ∙ next) known

  -- ---- where it does

  staged : (stage : Stage) → t.stage ≡ stage → t.aside ≡ Nothing → function_call_of t stage ≡ Some c
  staged stage at idle = sym (next-staged t.options has t stage refl idle at) ∙ next

  beside : (aside : Aside) → t.aside ≡ aside → call_beside t t.stage aside ≡ Some c
  beside aside at = sym (next-beside t.options has t refl ∙ ap (call_beside t t.stage) at) ∙ next

  -- it writes to a function that is marked as planted
  pub written-marked : (0 < length t.traced → (j : ℕ) → has_function (marks_at t 0).planted j ≡ true
      → P (traced_at t 0).pid j) → IsLeft t → Goal
  unfolding call_beside function_call_of call_of
  written-marked marked (halts at idle within) =
      quiet-not (is-sent c t 0 within _ (staged Unfollowing at idle) stop-still)
  written-marked marked (awaits until at free within) =
      quiet-not (is-other c t _ (beside (AwaitingStop until) free) (λ n b same. cc))
  written-marked marked (asks at free within) =
      quiet-not (is-sent c t 0 within _ (beside Asking free) wstop-still)
  written-marked marked (waits_again until at free within) =
      quiet-not (is-other c t _ (beside (AwaitingAgain until) free) (λ n b same. cc))
  written-marked marked (looks at idle within) =
      quiet-not (is-other c t _ (staged ReadingLwps at idle) (λ n b same. cc))
  written-marked marked (reads_text l from len at idle within) =
      quiet-not (is-other c t _ (staged (ReadingText 0 l from len) at idle) (λ n b same. cc))
  written-marked marked (lifts_all clear at free within) =
      patch-found 0 no_functions (marks_at t 0).planted clear within
      (subst (AsideIsBelow (length o.functions)) free below)
      ((λ j has_it. absurd (not-in-none j has_it)), marked within) (first_function no_functions)
      (first_function (marks_at t 0).planted) refl refl
      (beside (Patching 0 no_functions (marks_at t 0).planted clear) free)
  written-marked marked (closes_files at idle within) =
      quiet-not (is-other c t _ (staged (Closing 0 GoOn) at idle) (λ n b same. cc))
  written-marked marked (has_ended at idle) = absurd (none-some c (staged Finished at idle))
