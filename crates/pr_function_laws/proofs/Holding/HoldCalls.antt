use Rattle.std.proofs.Common.{◌≡◌, ◌+◌, ℕ, Bool, true, false, cond, nat_lt, Option, Some, None, List, [], ◌∷◌, length, refl, sym, subst, ap, ◌∙◌}
use Rattle.std.proofs.lemmas.Bool.{false≢true}
use Rattle.std.proofs.lemmas.Option.{none-some, same_Some}
use Rattle.std.specs.List.{All}
use Rattle.pr_line.specs.declared.options.Options.{Options}
use Rattle.pr_model.specs.Replies.{bytes_in, handle_in, until_in}
use Rattle.pr_model.specs.declared.calls.Call.{Call}
use Rattle.pr_model.specs.declared.calls.Reply.{Reply}
use Rattle.pr_num.specs.Limits.{all_faults, all_signals}
use Rattle.pr_num.specs.declared.messages.Message.TheVariants as message
use Rattle.pr_truss.specs.Asides.{with_aside}
use Rattle.pr_truss.specs.FunctionCalls.{function_call_of, with_copying}
use Rattle.pr_truss.specs.FunctionFeeding.{fed_functions, is_to_plant, with_aside_answered, with_code_answered, with_code_read, with_function_reply, with_function_step_answered, with_next_function, with_plant_answered, with_planted}
use Rattle.pr_truss.specs.Marks.{has_functions}
use Rattle.pr_truss.specs.Messages.{message_call, traced_entries, traced_exits}
use Rattle.pr_truss.specs.NextCalls.{call_of, open_control, opening_call}
use Rattle.pr_truss.specs.Openings.{learnt, step_after, with_step_done}
use Rattle.pr_truss.specs.Processes.{newly_traced}
use Rattle.pr_truss.specs.Replies.{answer_of}
use Rattle.pr_truss.specs.Trusses.{TrussState, traced_at}
use Rattle.pr_truss.specs.declared.asides.Aside.{Aside}
use Rattle.pr_truss.specs.declared.asides.Aside.TheVariants.{Nothing, Reading, Planting, Patching}
use Rattle.pr_truss.specs.declared.processes.Traced.{Traced}
use Rattle.pr_truss.specs.declared.replies.Answer.TheVariants.{Accepted}
use Rattle.pr_truss.specs.declared.stages.OpeningStep.{OpeningStep}
use Rattle.pr_truss.specs.declared.stages.OpeningStep.TheVariants.{OpenStatus, OpenLstatus, OpenMemory, ClearModes, SetRelease, Stop, AwaitStop, ReadLwps, TraceSignals, TraceFaults, TraceEntries, TraceExits, Follow, Start}
use Rattle.pr_truss.specs.declared.stages.Stage.TheVariants.{Opening, ReadingLwps}
use Rattle.pr_truss_laws.proofs.GivenProcesses.SequenceLemmas.{front}
use Rattle.pr_truss_laws.specs.Exchanges.{Exchange, IsGranted}
use Rattle.pr_function_laws.proofs.OrdinaryTruss.OrdinaryReplies.{at-ordinary}
use Rattle.pr_function_laws.proofs.OrdinaryTruss.OrdinaryStops.{FitsAside}
use Rattle.pr_function_laws.proofs.NextCalls.PatchCalls.{fed-beside, fed-staged}
use Rattle.pr_function_laws.specs.Holds.{IsWholeFunctionOpening, LooksAndRuns, setting_calls}
use Rattle.pr_function_laws.specs.Ordinary.{ordinary, unmarked}
use Rattle.pr_function_laws.specs.Planted.{Look, Plants, Reads, look_at}

-- The calls of a whole opening by truss with calls of functions, step by step; and which function it looks at next.

-- ---- the steps

abbrev pub is_start : OpeningStep → Bool
is_start Start = true
is_start _ = false

-- the step that comes where children are followed alone
abbrev pub is_follow : OpeningStep → Bool
is_follow Follow = true
is_follow _ = false

-- the call of a step
abbrev pub step_call : Options → Traced → OpeningStep → Call
step_call o t TraceSignals = message_call t.control (message.Strace all_signals)
step_call o t TraceFaults = message_call t.control (message.Sfault all_faults)
step_call o t TraceEntries = message_call t.control (message.Sentry (with_copying (traced_entries o)))
step_call o t TraceExits = message_call t.control (message.Sexit (with_copying (traced_exits o)))
step_call o t now = opening_call o t now

-- the step behind it, where no children are followed
abbrev pub next_step : Reply → OpeningStep → OpeningStep
next_step r OpenStatus = OpenLstatus
next_step r OpenLstatus = OpenMemory
next_step r OpenMemory = ClearModes
next_step r ClearModes = SetRelease
next_step r SetRelease = Stop
next_step r Stop = AwaitStop (until_in r)
next_step r (AwaitStop until) = ReadLwps
next_step r ReadLwps = TraceSignals
next_step r TraceSignals = TraceFaults
next_step r TraceFaults = TraceEntries
next_step r TraceEntries = TraceExits
next_step r _ = Start

pub next-plain : (r : Reply) (now : OpeningStep) → is_follow (next_step r now) ≡ false
next-plain r OpenStatus = refl
next-plain r OpenLstatus = refl
next-plain r OpenMemory = refl
next-plain r ClearModes = refl
next-plain r SetRelease = refl
next-plain r Stop = refl
next-plain r (AwaitStop until) = refl
next-plain r ReadLwps = refl
next-plain r TraceSignals = refl
next-plain r TraceFaults = refl
next-plain r TraceEntries = refl
next-plain r _ = refl

-- behind which step the last one comes
pub before-start : (r : Reply) (now : OpeningStep) → is_start now ≡ false → is_follow now ≡ false
    → next_step r now ≡ Start → now ≡ TraceExits
before-start r TraceExits other plain is = refl
before-start r Start other plain is = absurd (false≢true (sym other))
before-start r Follow other plain is = absurd (false≢true (sym plain))
before-start r OpenStatus other plain is = cc
before-start r OpenLstatus other plain is = cc
before-start r OpenMemory other plain is = cc
before-start r ClearModes other plain is = cc
before-start r SetRelease other plain is = cc
before-start r Stop other plain is = cc
before-start r (AwaitStop until) other plain is = cc
before-start r ReadLwps other plain is = cc
before-start r TraceSignals other plain is = cc
before-start r TraceFaults other plain is = cc
before-start r TraceEntries other plain is = cc

module _ (o : Options) (off : o.follow ≡ false) where
  pub after-next : (r : Reply) (now next : OpeningStep) → is_follow now ≡ false → step_after o r now ≡ Some next
      → next ≡ next_step r now
  unfolding step_after
  after-next r TraceExits next plain is =
      sym (same_Some (cond o.follow Follow Start) next is) ∙ ap (λ b. cond b Follow Start) off
  after-next r Follow next plain is = absurd (false≢true (sym plain))
  after-next r Start next plain is = absurd (none-some next is)
  after-next r OpenStatus next plain is = sym (same_Some _ next is)
  after-next r OpenLstatus next plain is = sym (same_Some _ next is)
  after-next r OpenMemory next plain is = sym (same_Some _ next is)
  after-next r ClearModes next plain is = sym (same_Some _ next is)
  after-next r SetRelease next plain is = sym (same_Some _ next is)
  after-next r Stop next plain is = sym (same_Some _ next is)
  after-next r (AwaitStop until) next plain is = sym (same_Some _ next is)
  after-next r ReadLwps next plain is = sym (same_Some _ next is)
  after-next r TraceSignals next plain is = sym (same_Some _ next is)
  after-next r TraceFaults next plain is = sym (same_Some _ next is)
  after-next r TraceEntries next plain is = sym (same_Some _ next is)

pub after-other : (o : Options) (r : Reply) (now next : OpeningStep) → step_after o r now ≡ Some next
    → is_start now ≡ false
unfolding step_after
after-other o r Start next is = absurd (none-some next is)
after-other o r _ next is = refl

-- ---- all calls from a step on

-- These are the calls of an opening from a step on, where truss has learnt so much of the process, and the PCRUN is the
-- last of them.
abbrev pub GoesToRun : Options → Traced → OpeningStep → List Exchange → Type 0
GoesToRun o t now [] = ⊥
GoesToRun o t Start (x ∷ xs) = LooksAndRuns o t.control (look_at o 0) (x ∷ xs)
GoesToRun o t now (x ∷ xs) =
    (x.call ≡ step_call o t now) × GoesToRun o (learnt t x.reply now) (next_step x.reply now) xs

start-runs : (o : Options) (t : Traced) (xs : List Exchange) → GoesToRun o t Start xs
    → LooksAndRuns o t.control (look_at o 0) xs
start-runs o t [] g = absurd g
start-runs o t (x ∷ xs) g = g

-- one step
pub step-runs : (o : Options) (t : Traced) (now : OpeningStep) (x : Exchange) (xs : List Exchange)
    → is_start now ≡ false → x.call ≡ step_call o t now
    → GoesToRun o (learnt t x.reply now) (next_step x.reply now) xs → GoesToRun o t now (x ∷ xs)
step-runs o t Start x xs other call g = absurd (false≢true (sym other))
step-runs o t _ x xs other call g = (call, g)

-- The same where truss has come to this look at a function before the last step.
abbrev pub GoesBeside : Options → Traced → Option Look → OpeningStep → List Exchange → Type 0
GoesBeside o t look Start xs = LooksAndRuns o t.control look xs
GoesBeside o t look now xs = GoesToRun o t now xs

pub beside-runs : (o : Options) (t : Traced) (look : Option Look) (now : OpeningStep) (xs : List Exchange)
    → (now ≡ Start → look ≡ look_at o 0) → GoesBeside o t look now xs → GoesToRun o t now xs
beside-runs o t look Start [] first g = g
beside-runs o t look Start (x ∷ xs) first g =
    subst (λ l. LooksAndRuns o t.control l (x ∷ xs)) (first refl) g
beside-runs o t look _ xs first g = g

pub runs-beside : (o : Options) (t : Traced) (look : Option Look) (now : OpeningStep) (xs : List Exchange)
    → is_start now ≡ false → GoesToRun o t now xs → GoesBeside o t look now xs
runs-beside o t look Start xs other g = absurd (false≢true (sym other))
runs-beside o t look _ xs other g = g

module _ (o : Options) where
  pub whole : (pid : ℕ) (x0 : Exchange) (xs : List Exchange) → x0.call ≡ open_control pid → All IsGranted (x0 ∷ xs)
      → GoesToRun o (newly_traced pid (handle_in x0.reply)) OpenStatus xs
      → IsWholeFunctionOpening o pid (x0 ∷ xs)
  unfolding setting_calls opening_call learnt newly_traced
  whole pid x0 [] f all g = absurd g
  whole pid x0 (x1 ∷ []) f all g = absurd g.1
  whole pid x0 (x1 ∷ x2 ∷ []) f all g = absurd g.1.1
  whole pid x0 (x1 ∷ x2 ∷ x3 ∷ []) f all g = absurd g.1.1.1
  whole pid x0 (x1 ∷ x2 ∷ x3 ∷ x4 ∷ []) f all g = absurd g.1.1.1.1
  whole pid x0 (x1 ∷ x2 ∷ x3 ∷ x4 ∷ x5 ∷ []) f all g = absurd g.1.1.1.1.1
  whole pid x0 (x1 ∷ x2 ∷ x3 ∷ x4 ∷ x5 ∷ x6 ∷ []) f all g = absurd g.1.1.1.1.1.1
  whole pid x0 (x1 ∷ x2 ∷ x3 ∷ x4 ∷ x5 ∷ x6 ∷ x7 ∷ []) f all g = absurd g.1.1.1.1.1.1.1
  whole pid x0 (x1 ∷ x2 ∷ x3 ∷ x4 ∷ x5 ∷ x6 ∷ x7 ∷ x8 ∷ []) f all g = absurd g.1.1.1.1.1.1.1.1
  whole pid x0 (x1 ∷ x2 ∷ x3 ∷ x4 ∷ x5 ∷ x6 ∷ x7 ∷ x8 ∷ x9 ∷ []) f all g = absurd g.1.1.1.1.1.1.1.1.1
  whole pid x0 (x1 ∷ x2 ∷ x3 ∷ x4 ∷ x5 ∷ x6 ∷ x7 ∷ x8 ∷ x9 ∷ x10 ∷ []) f all g = absurd g.1.1.1.1.1.1.1.1.1.1
  whole pid x0 (x1 ∷ x2 ∷ x3 ∷ x4 ∷ x5 ∷ x6 ∷ x7 ∷ x8 ∷ x9 ∷ x10 ∷ x11 ∷ []) f all g = absurd g.1.1.1.1.1.1.1.1.1.1.1
  whole pid x0 (x1 ∷ x2 ∷ x3 ∷ x4 ∷ x5 ∷ x6 ∷ x7 ∷ x8 ∷ x9 ∷ x10 ∷ x11 ∷ x12 ∷ xs) f all g = record {
    settings = x0 ∷ x1 ∷ x2 ∷ x3 ∷ x4 ∷ x5 ∷ x6 ∷ x7 ∷ x8 ∷ x9 ∷ x10 ∷ x11 ∷ x12 ∷ [];
    looks = xs;
    is = refl;
    calls =
        front f
        (front g.0
        (front g.1.0
        (front g.1.1.0
        (front g.1.1.1.0
        (front g.1.1.1.1.0
        (front g.1.1.1.1.1.0
        (front g.1.1.1.1.1.1.0
        (front g.1.1.1.1.1.1.1.0
        (front g.1.1.1.1.1.1.1.1.0
        (front g.1.1.1.1.1.1.1.1.1.0
        (front g.1.1.1.1.1.1.1.1.1.1.0
        (front g.1.1.1.1.1.1.1.1.1.1.1.0 refl))))))))))));
    runs = start-runs o _ xs g.1.1.1.1.1.1.1.1.1.1.1.1;
    granted = all;
  }

-- ---- which function it looks at next

abbrev pub look_in : Aside → Option Look
look_in (Reading place function) = Some (Reads function)
look_in (Planting place function) = Some (Plants function)
look_in _ = None

-- the look behind the read of a first instruction
abbrev pub look_behind : Options → ℕ → Option (List ℕ) → Option Look
look_behind o function bytes =
    cond (is_to_plant o function bytes) (Some (Plants function)) (look_at o (function + 1))

next-look : (o : Options) (u : TrussState) (place function : ℕ) → u.options ≡ o
    → look_in (with_next_function u place function).aside ≡ look_at o function
unfolding with_next_function
next-look o u place function is =
    subst
    (λ (p : Options). look_in (cond (nat_lt function (length p.functions)) (with_aside u (Reading place function))
    (with_aside u Nothing)).aside ≡ look_at o function) (sym is) (by (nat_lt function (length o.functions)))
  where
    by : (b : Bool) → look_in (cond b (with_aside u (Reading place function)) (with_aside u Nothing)).aside
        ≡ cond b (Some (Reads function)) None
    by true = refl
    by false = refl

code-look : (o : Options) (u : TrussState) (place function : ℕ) (bytes : Option (List ℕ)) → u.options ≡ o
    → look_in (with_code_read u place function bytes).aside ≡ look_behind o function bytes
unfolding with_code_read
code-look o u place function bytes is =
    subst
    (λ (p : Options). look_in (cond (is_to_plant p function bytes) (with_aside u (Planting place function))
    (with_next_function u place (function + 1))).aside ≡ look_behind o function bytes) (sym is)
    (by (is_to_plant o function bytes))
  where
    by : (b : Bool) → look_in (cond b (with_aside u (Planting place function))
        (with_next_function u place (function + 1))).aside
        ≡ cond b (Some (Plants function)) (look_at o (function + 1))
    by true = refl
    by false = next-look o u place (function + 1) is

module _ (o : Options) (has : has_functions o ≡ true) (t : TrussState) (r : Reply) (options : t.options ≡ o)
    (accepted : answer_of r ≡ Accepted) where
  -- behind the traced sets
  pub exits-look : (place : ℕ) → t.stage ≡ Opening place TraceExits → t.aside ≡ Nothing
      → look_in (fed_functions t r).aside ≡ look_at o 0
  unfolding with_function_reply with_function_step_answered with_step_done step_after
  exits-look place at free =
      ap (λ (u : TrussState). look_in u.aside)
      (fed-staged o has t r (Opening place TraceExits) options free at
      ∙ ap (with_function_step_answered t place TraceExits r) accepted)
      ∙ next-look o (with_step_done t place r TraceExits) place 0 options

  -- behind the read of a first instruction, and behind the planting of a breakpoint
  pub read-look : (place function : ℕ) → t.aside ≡ Reading place function
      → look_in (fed_functions t r).aside ≡ look_behind o function (bytes_in r)
  unfolding with_aside_answered with_code_answered
  read-look place function at =
      ap (λ (u : TrussState). look_in u.aside)
      (fed-beside o has t r options ∙ ap (with_aside_answered t r) at
      ∙ ap (with_code_answered (with_aside t Nothing) place function r) accepted)
      ∙ code-look o (with_aside t Nothing) place function (bytes_in r) options

  pub plant-look : (place function : ℕ) → t.aside ≡ Planting place function
      → look_in (fed_functions t r).aside ≡ look_at o (function + 1)
  unfolding with_aside_answered with_plant_answered
  plant-look place function at =
      ap (λ (u : TrussState). look_in u.aside)
      (fed-beside o has t r options ∙ ap (with_aside_answered t r) at
      ∙ ap (with_plant_answered (with_aside t Nothing) place function) accepted)
      ∙ next-look o (with_planted (with_aside t Nothing) place function) place (function + 1) options

-- ---- what comes beside an opening

-- before the last step nothing does
pub opening-free : (aside : Aside) (place : ℕ) (now : OpeningStep) → is_start now ≡ false
    → FitsAside aside (Opening place now) → aside ≡ Nothing
opening-free Nothing place now other fit = refl
opening-free (Reading at function) place Start other fit = absurd (false≢true (sym other))
opening-free (Reading at function) place _ other fit = absurd fit
opening-free (Planting at function) place Start other fit = absurd (false≢true (sym other))
opening-free (Planting at function) place _ other fit = absurd fit
opening-free (Patching at plants lifts clear) place now other fit = absurd fit.0
opening-free _ place now other fit = absurd (clash fit)
  where
    clash : Opening place now ≡ ReadingLwps → ⊥
    clash is = cc

-- ---- the call of a step

stage-call : (t : TrussState) (place : ℕ) (now : OpeningStep)
    → function_call_of t (Opening place now) ≡ Some (step_call t.options (traced_at t place) now)
unfolding function_call_of call_of
stage-call t place TraceSignals = refl
stage-call t place TraceFaults = refl
stage-call t place TraceEntries = refl
stage-call t place TraceExits = refl
stage-call t place _ = refl

unmarked-call : (o : Options) (v : Traced) (now : OpeningStep) → step_call o (unmarked v) now ≡ step_call o v now
unfolding opening_call
unmarked-call o v TraceSignals = refl
unmarked-call o v TraceFaults = refl
unmarked-call o v TraceEntries = refl
unmarked-call o v TraceExits = refl
unmarked-call o v ReadLwps = refl
unmarked-call o v _ = refl

pub step-called : (o : Options) (t : TrussState) (c : Call) (place : ℕ) (now : OpeningStep) → t.options ≡ o
    → function_call_of t (Opening place now) ≡ Some c → c ≡ step_call o (traced_at (ordinary t) place) now
step-called o t c place now options is =
    sym (same_Some _ c (sym (stage-call t place now) ∙ is))
    ∙ ap (λ p. step_call p (traced_at t place) now) options
    ∙ sym (unmarked-call o (traced_at t place) now)
    ∙ ap (λ v. step_call o v now) (sym (at-ordinary t place))
