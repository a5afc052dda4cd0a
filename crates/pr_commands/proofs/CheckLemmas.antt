-- What the command `check` answers.
use Rattle.std.proofs.Common.{◌≡◌, ◌⊎◌, inl, inr, ⊎_elim, ℕ, List, [], Option, Some, None, Result, Ok, Err, IfOk, IfSome, length, refl, ◌∙◌, ap, subst}
use Rattle.pr_ends.specs.Ends.{Ends}
use Rattle.pr_judge.proofs.FirstLemmas.{first-judges}
use Rattle.pr_model.specs.declared.events.Entry.{Entry}
use Rattle.pr_num.specs.Limits.{checked_limit}
use Rattle.pr_run_laws.specs.ScenarioRuns.{first_state_of}
use Rattle.pr_scen.specs.Scenarios.{Scenario}
use Rattle.pr_commands.proofs.RunEndLemmas.{status_cases}
use Rattle.pr_commands.specs.Answers.{Answer, check_of, first_illegal_of, judged, judgement_of, refused_at, refused_for}
use Rattle.pr_commands.specs.Checks.{checked_of_input}
use Rattle.pr_commands.specs.Giving.{IsGiven}
use Rattle.pr_commands.specs.Histories.{RanOutEarly, no_run}
use Rattle.pr_commands.specs.Inputs.{taken_of}
use Rattle.pr_commands.specs.Rows.{GivesOne, IsJudged, IsThe, OneRanOut, RanOutAfter, RanOutReading, Reads}
use Rattle.pr_commands.specs.Statuses.{IsWhole}
use Rattle.pr_commands.specs.declared.wrongs.Wrong.{Wrong}
use Rattle.pr_commands.specs.declared.wrongs.Wrong.TheVariants as wrong
use Rattle.pr_commands.specs.declared.outcomes.Status.{Status}
use Rattle.pr_commands.specs.declared.outcomes.Status.TheVariants.{ReadFailed, WriteFailed, OutOfMemory}

-- ---- no history is left

judged-nothing : (entries : ℕ) (first : Option ℕ) → (judged entries first).history ≡ []
unfolding judged
judged-nothing entries None = refl
judged-nothing entries (Some place) = refl

read-nothing : (r : Result (Scenario × List Entry) Wrong) → (judgement_of r).history ≡ []
unfolding judgement_of refused_for refused_at
read-nothing (Err (wrong.Scenario fault)) = refl
read-nothing (Err (wrong.History line)) = refl
read-nothing (Err (wrong.Core line)) = refl
read-nothing (Ok read) = judged-nothing (length read.1) (first_illegal_of read.0 read.1)

check-nothing : (input : Option (List ℕ)) → (check_of input).history ≡ []
unfolding check_of
check-nothing input = read-nothing (checked_of_input input)

-- Whatever the status is, there is no history.
pub leaves-nothing : (old new : Ends) (status : Status) (h : List Entry)
    → Reads checked_limit (IsThe check_of) no_run old new status h → h ≡ []
leaves-nothing old new status h r = by (status_cases status)
  where
    by : IsWhole status ⊎ ((status ≡ ReadFailed) ⊎ ((status ≡ WriteFailed) ⊎ (status ≡ OutOfMemory))) → h ≡ []
    by (inl s) = let a = r.answered s in
        a.gives.given.history_is ∙ (ap (λ (x : Answer). x.history) a.gives.may ∙ check-nothing a.input)
    by (inr (inl s)) = (r.not_read s).no_history
    by (inr (inr (inl s))) = let c = r.cut s in
        c.cut.history_is ∙ (ap (λ (x : Answer). x.history) c.may ∙ check-nothing c.input)
    by (inr (inr (inr s))) = of_memory (r.memory s)
      where
        of_memory : RanOutReading old new h ⊎ RanOutAfter checked_limit (IsThe check_of) no_run old new h → h ≡ []
        of_memory (inl early) = early.nothing.no_history
        of_memory (inr after) =
            ⊎_elim
            (λ (early : RanOutEarly no_run after.input h old.written new.written). early.left)
            (λ (late : OneRanOut (IsThe check_of after.input) h old.written new.written). late.ran_out.history_is
            ∙ (ap (λ (x : Answer). x.history) late.may ∙ check-nothing after.input))
            after.ran_out

-- Memory ran out before the text was begun, whichever the input is.
pub lost-any : (a b : Option (List ℕ)) (h : List Entry) (old new : Option (List ℕ)) → RanOutEarly no_run a h old new
    → RanOutEarly no_run b h old new
lost-any a b h old new early = record { unwritten = early.unwritten; left = early.left }

-- ---- the judgement is given

module _ (old new : Ends) (status : Status) (h : List Entry) where
  of_read : (r : Result (Scenario × List Entry) Wrong)
      → (IsWhole status → IsGiven (judgement_of r) status h old.written new.written)
      → IfOk r (λ read. IsWhole status → IsJudged read.0 read.1 old new status h)
  unfolding judgement_of first_illegal_of
  of_read (Err w) given = tt
  of_read (Ok read) given = λ whole. record {
    first = first_illegal_of read.0 read.1;
    judges = first-judges (length read.0.controllers) (first_state_of read.0) read.1;
    given = given whole;
  }

  of_left : (left : Option (List ℕ))
      → (IsWhole status
      → IfSome left
      (λ input. GivesOne (IsThe check_of (taken_of checked_limit input)) status h old.written new.written))
      → IfSome left
      (λ input.
      IfOk (checked_of_input (taken_of checked_limit input))
      (λ read. IsWhole status → IsJudged read.0 read.1 old new status h))
  unfolding check_of
  of_left None given = tt
  of_left (Some input) given =
      of_read (checked_of_input (taken_of checked_limit input))
      (λ whole. let one = given whole in
      subst (λ (a : Answer). IsGiven a status h old.written new.written) one.may one.given)

  pub judges-history : Reads checked_limit (IsThe check_of) no_run old new status h
      → IfSome old.left
      (λ input.
      IfOk (checked_of_input (taken_of checked_limit input))
      (λ read. IsWhole status → IsJudged read.0 read.1 old new status h))
  judges-history r = of_left old.left r.answers
