-- What the command `core` answers.
use Rattle.std.proofs.Common.{◌≡◌, ◌⊎◌, inl, inr, ⊎_elim, ℕ, List, [], Option, Result, Ok, Err, refl, sym, ◌∙◌, ap, subst}
use Rattle.pr_core.specs.CoreBytes.{core_bytes}
use Rattle.pr_core.specs.CoreRanges.{IsCore}
use Rattle.pr_core.specs.CoreTools.{tool_over_core}
use Rattle.pr_core.specs.Cores.{CoreState}
use Rattle.pr_ends.specs.Ends.{Ends}
use Rattle.pr_model.specs.declared.events.Entry.{Entry}
use Rattle.pr_model.specs.declared.tools.ToolKind.{ToolKind}
use Rattle.pr_num.specs.Programs.{Program}
use Rattle.pr_commands.proofs.CheckLemmas.{lost-any}
use Rattle.pr_commands.proofs.GivingLemmas.{gives-else}
use Rattle.pr_commands.proofs.RunEndLemmas.{status_cases}
use Rattle.pr_commands.specs.Answers.{Answer, MayShowCore, MayShowRead, ShowsCore, refused_at, refused_for, text_written}
use Rattle.pr_commands.specs.CoreInputs.{ReadCore, core_limit, core_of_input}
use Rattle.pr_commands.specs.Giving.{Responds, RespondsOne}
use Rattle.pr_commands.specs.Histories.{RanOutEarly, no_run}
use Rattle.pr_commands.specs.Rows.{OneRanOut, RanOutAfter, RanOutReading, Reads}
use Rattle.pr_commands.specs.Statuses.{IsWhole}
use Rattle.pr_commands.specs.declared.outcomes.Status.{Status}
use Rattle.pr_commands.specs.declared.outcomes.Status.TheVariants.{OutOfMemory, ReadFailed, WriteFailed}
use Rattle.pr_commands.specs.declared.wrongs.Wrong.{Wrong}
use Rattle.pr_commands.specs.declared.wrongs.Wrong.TheVariants as wrong

-- nothing is left where memory runs out before the text is begun
abbrev Early : Option (List ℕ) → List Entry → Option (List ℕ) → Option (List ℕ) → Type 0
Early input h old new = RanOutEarly no_run input h old new

-- The text of the tool was told.
pub told-core : (kind : ToolKind) (programs : List Program) (core : CoreState) (text : List ℕ) (input : Option (List ℕ))
    (status : Status) (h : List Entry) (old new : Option (List ℕ)) (before after : ℕ) → IsCore core
    → text ≡ tool_over_core kind core programs → Responds (text_written text) ⊥ status h old new before after
    → RespondsOne (ShowsCore kind programs (core_bytes core)) (Early input h old new) status h old new before after
told-core kind programs core text input status h old new before after is_core is responds =
    inl (record {
      answer = text_written text;
      may = record { core = core; is_core = is_core; spelled = refl; is = ap text_written is };
      responds =
          gives-else (text_written text) (text_written text) ⊥ _ status h old new before after refl
          (λ never. absurd never) responds;
    })

-- Memory ran out before there was an answer.
pub lost-core : (May : Answer → Type 0) (input : Option (List ℕ)) (status : Status) (h : List Entry)
    (known : Option (List ℕ)) (faults : ℕ) → status ≡ OutOfMemory → h ≡ []
    → RespondsOne May (Early input h known known) status h known known faults faults
lost-core May input status h known faults is none =
    inr (record { status_is = is; left = record { unwritten = refl; left = none }; no_fault = refl })

-- The input is refused.
pub refused-core : (kind : ToolKind) (input : Option (List ℕ)) (w : Wrong) (status : Status) (h : List Entry)
    (old new : Option (List ℕ)) (before after : ℕ) → core_of_input input ≡ Err w
    → Responds (refused_for w) ⊥ status h old new before after
    → RespondsOne (MayShowCore kind input) (Early input h old new) status h old new before after
refused-core kind input w status h old new before after read responds =
    inl (record {
      answer = refused_for w;
      may = subst (λ (r : Result ReadCore Wrong). MayShowRead kind r (refused_for w)) (sym read) refl;
      responds =
          gives-else (refused_for w) (refused_for w) ⊥ _ status h old new before after refl
          (λ never. absurd never) responds;
    })

-- The input was read, and what its core may show may be answered to it.
pub read-core : (kind : ToolKind) (input other : Option (List ℕ)) (read : ReadCore) (status : Status) (h : List Entry)
    (old new : Option (List ℕ)) (before after : ℕ) → core_of_input input ≡ Ok read
    → RespondsOne (ShowsCore kind read.0 read.1) (Early other h old new) status h old new before after
    → RespondsOne (MayShowCore kind input) (Early input h old new) status h old new before after
read-core kind input other read status h old new before after is (inl one) =
    inl (record {
      answer = one.answer;
      may = subst (λ (r : Result ReadCore Wrong). MayShowRead kind r one.answer) (sym is) one.may;
      responds =
          gives-else one.answer one.answer _ _ status h old new before after refl
          (λ early. lost-any other input h old new early) one.responds;
    })
read-core kind input other read status h old new before after is (inr stops) =
    inr (record
    { status_is = stops.status_is; left = lost-any other input h old new stops.left; no_fault = stops.no_fault })

-- ---- no history is left

refused-nothing : (w : Wrong) → (refused_for w).history ≡ []
unfolding refused_for refused_at
refused-nothing (wrong.Scenario fault) = refl
refused-nothing (wrong.History line) = refl
refused-nothing (wrong.Core line) = refl

may-nothing : (kind : ToolKind) (r : Result ReadCore Wrong) (answer : Answer) → MayShowRead kind r answer
    → answer.history ≡ []
may-nothing kind (Err w) answer may = ap (λ (a : Answer). a.history) may ∙ refused-nothing w
may-nothing kind (Ok read) answer shows = ap (λ (a : Answer). a.history) shows.is

-- Whatever the status is, there is no history.
pub core-leaves-nothing : (kind : ToolKind) (old new : Ends) (status : Status) (h : List Entry)
    → Reads core_limit (MayShowCore kind) no_run old new status h → h ≡ []
core-leaves-nothing kind old new status h r = by (status_cases status)
  where
    none : (input : Option (List ℕ)) (answer : Answer) → MayShowCore kind input answer → h ≡ answer.history → h ≡ []
    none input answer may is = is ∙ may-nothing kind (core_of_input input) answer may

    by : IsWhole status ⊎ ((status ≡ ReadFailed) ⊎ ((status ≡ WriteFailed) ⊎ (status ≡ OutOfMemory))) → h ≡ []
    by (inl s) = let a = r.answered s in none a.input a.gives.answer a.gives.may a.gives.given.history_is
    by (inr (inl s)) = (r.not_read s).no_history
    by (inr (inr (inl s))) = let c = r.cut s in none c.input c.answer c.may c.cut.history_is
    by (inr (inr (inr s))) = of_memory (r.memory s)
      where
        of_memory : RanOutReading old new h ⊎ RanOutAfter core_limit (MayShowCore kind) no_run old new h → h ≡ []
        of_memory (inl early) = early.nothing.no_history
        of_memory (inr after) =
            ⊎_elim
            (λ (early : RanOutEarly no_run after.input h old.written new.written). early.left)
            (λ (late : OneRanOut (MayShowCore kind after.input) h old.written new.written).
            none after.input late.answer late.may late.ran_out.history_is)
            after.ran_out
