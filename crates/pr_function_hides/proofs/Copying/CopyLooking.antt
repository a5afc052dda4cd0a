use Rattle.std.proofs.Common.{◌≡◌, ◌≢◌, ◌<◌, ◌+◌, ℕ, Bool, true, false, cond, nat_lt, Option, Some, List, length, refl, sym, ◌∙◌}
use Rattle.pr_line.specs.declared.options.Options.{Options}
use Rattle.pr_model.specs.Calls.{Answer}
use Rattle.pr_model.specs.Replies.{bytes_in}
use Rattle.pr_model.specs.State.{TracedProcess, TracedState, live_process}
use Rattle.pr_model.specs.declared.calls.Call.{Call}
use Rattle.pr_model.specs.declared.calls.Call.TheVariants as call
use Rattle.pr_model.specs.declared.calls.Reply.{Reply}
use Rattle.pr_num.specs.declared.errnos.Errno.TheVariants.{Noent}
use Rattle.pr_report_laws.proofs.Invariant.StandLemmas.{EachBut}
use Rattle.pr_truss.specs.Asides.{marks_at, with_aside, with_marks}
use Rattle.pr_truss.specs.FunctionFeeding.{is_to_plant, with_code_answered, with_code_read, with_next_function, with_plant_answered, with_planted}
use Rattle.pr_truss.specs.Replies.{answer_of}
use Rattle.pr_truss.specs.Trusses.{TrussState, traced_at}
use Rattle.pr_truss.specs.declared.asides.Aside.{Aside}
use Rattle.pr_truss.specs.declared.asides.Aside.TheVariants.{Nothing, Reading, Planting}
use Rattle.pr_truss.specs.declared.processes.Traced.{Traced}
use Rattle.pr_truss.specs.declared.replies.Answer.{Answer as Told}
use Rattle.pr_truss.specs.declared.replies.Answer.TheVariants.{Accepted, Gone, Interrupted, Refused}
use Rattle.pr_truss.specs.declared.stages.OpeningStep.TheVariants as opening
use Rattle.pr_truss.specs.declared.stages.Stage.TheVariants.{Opening}
use Rattle.pr_function_laws.proofs.OpenedProcesses.StoodCalls.{BeginLeavingLwps}
use Rattle.pr_function_hides.proofs.Copying.CopyFeeds.{IsRestedSo}
use Rattle.pr_function_hides.proofs.Copying.CopyOwn.{OwnCall, later}
use Rattle.pr_function_hides.proofs.Copying.CopyPlaces.{CopiesSo, FitsSo, IsCountedOut, counted}
use Rattle.pr_function_hides.proofs.Copying.CopyOpening.{by-control, clean-here, counted-here, opening-gone, opening-refused, opens-same, opens-with}

-- The forks, vforks and execs of a process that truss opens, while it looks at the functions there: none is at one.

module _ {n k : ℕ} {o : Options} {t : TrussState} {s : TracedState} {c : Call} {a : Answer}
    (w : OwnCall n k o t s c a) where
  abbrev r : Reply
  r = let b : Answer = a in b.reply

  abbrev ts : List Traced
  ts = t.traced

  abbrev X : Traced → Type 0
  X v = IsRestedSo (later w) v

  abbrev Done : TrussState → Type 0
  Done v = CopiesSo v (later w)

  -- ---- the functions are looked at

  module _ (q : ℕ) (within : q < length ts) (at : t.stage ≡ Opening q opening.Start) (bytes : List ℕ)
      (is : c ≡ call.Ctl (traced_at t q).control bytes) (begins : BeginLeavingLwps bytes) where
    abbrev idle_now : TrussState
    idle_now = with_aside t Nothing

    looked-others : EachBut X ts q
    looked-others = by-control w q within opening.Start at bytes is

    looked-here : (x : TracedProcess) → live_process (later w) (traced_at t q).pid ≡ Some x
        → IsCountedOut (traced_at t q).old x
    looked-here =
        counted-here w q within opening.Start at refl (λ (e : opening.Start ≡ opening.ReadLwps). cc) bytes is begins

    same-on : (aside : Aside) → FitsSo aside (Opening q opening.Start) → Done (with_aside idle_now aside)
    same-on aside fits =
        opens-same w q within opening.Start at looked-others opening.Start aside fits
        (λ x now. counted refl (λ (e : opening.Start ≡ opening.ReadLwps). cc) (looked-here x now))
        (with_aside idle_now aside) refl at refl

    set-on : (planted : List Bool) (aside : Aside) → FitsSo aside (Opening q opening.Start)
        → Done (with_aside (with_marks idle_now q (record (marks_at t q) { planted = planted })) aside)
    set-on planted aside fits =
        opens-with w q within opening.Start at looked-others
        (record (traced_at t q) { marks = record (marks_at t q) { planted = planted } }) opening.Start aside refl
        (let it = clean-here w q within opening.Start at in record { unseen = it.unseen; flags = it.flags }) fits
        (λ x now.
        let it = looked-here x now in
        counted refl (λ (e : opening.Start ≡ opening.ReadLwps). cc) (record { out = it.out; count = it.count }))
        _ refl at refl

    next-function : (z : TrussState) (function : ℕ) → Done (with_aside z (Reading q function))
        → Done (with_aside z Nothing) → Done (with_next_function z q function)
    unfolding with_next_function
    next-function z function one two =
        elim (nat_lt function (length z.options.functions))
        as (λ b. Done (cond b (with_aside z (Reading q function)) (with_aside z Nothing)))
        [ true ↦ one | false ↦ two ]

    code-read : (function : ℕ) (got : Option (List ℕ)) → Done (with_code_read idle_now q function got)
    unfolding with_code_read
    code-read function got =
        elim (is_to_plant t.options function got)
        as (λ b. Done
        (cond b (with_aside idle_now (Planting q function)) (with_next_function idle_now q (function + 1)))) [
          | true ↦ same-on (Planting q function) (refl, refl)
          | false ↦ next-function idle_now (function + 1) (same-on (Reading q (function + 1)) (refl, refl))
              (same-on Nothing tt)
        ]

    pub code-done : (function : ℕ) (told : Told) → answer_of a.reply ≡ told → told ≢ Interrupted
        → Done (with_code_answered idle_now q function r told)
    unfolding with_code_answered
    code-done function Accepted told other = code-read function (bytes_in r)
    code-done function (Refused errno) told other =
        opening-refused w q within opening.Start at idle_now refl errno
        (λ e. let both : Refused errno ≡ Accepted = sym told ∙ e in cc)
    code-done function Gone told other =
        opening-gone w q within opening.Start at idle_now refl refl Noent
        (λ e. let both : Gone ≡ Accepted = sym told ∙ e in cc)
    code-done function Interrupted told other = absurd (other refl)

    pub plant-done : (function : ℕ) (told : Told) → answer_of a.reply ≡ told → told ≢ Interrupted
        → Done (with_plant_answered idle_now q function told)
    unfolding with_plant_answered
    plant-done function Accepted told other =
        next-function (with_planted idle_now q function) (function + 1)
        (set-on _ (Reading q (function + 1)) (refl, refl)) (set-on _ Nothing tt)
    plant-done function (Refused errno) told other =
        opening-refused w q within opening.Start at idle_now refl errno
        (λ e. let both : Refused errno ≡ Accepted = sym told ∙ e in cc)
    plant-done function Gone told other =
        opening-gone w q within opening.Start at idle_now refl refl Noent
        (λ e. let both : Gone ≡ Accepted = sym told ∙ e in cc)
    plant-done function Interrupted told other = absurd (other refl)
