-- What is kept of a run, and how its status is caused.
use Rattle.std.proofs.Common.{◌≡◌, ◌⊎◌, inl, inr, ⊎_elim, ℕ, Bool, true, false, List, [], Option, Some, None, is_some, Result, Ok, Err, IfOk, IfSome, refl, sym, ◌∙◌, ap, subst, arith}
use Rattle.std.proofs.lemmas.List.{append-nil}
use Rattle.pr_ends.specs.Ends.{Ends}
use Rattle.pr_ends.specs.Inputs.{Took}
use Rattle.pr_model.specs.declared.events.Actor.{Actor}
use Rattle.pr_model.specs.declared.events.Entry.{Entry}
use Rattle.pr_num.specs.Limits.{scenario_limit}
use Rattle.pr_run_laws.specs.Prefixes.{IsPrefix}
use Rattle.pr_run_laws.specs.ScenarioRuns.{IsKept, first_world, run_of}
use Rattle.pr_run_laws.proofs.KeptRuns.KeptLemmas.{first-fresh, first-told, run-kept}
use Rattle.pr_scen.specs.Refusals.{ScenFault}
use Rattle.pr_scen.specs.Scenarios.{Scenario}
use Rattle.pr_world.specs.Runs.{IsFresh, TellsMachine, after_moves}
use Rattle.pr_world.specs.Worlds.{WorldState, all_finished, end_of, end_with, next_actor, quiet_end}
use Rattle.pr_world.proofs.RestLemmas.{all-rest, next-acts}
use Rattle.pr_world.proofs.RunLemmas.{moves-counted, moves-led, moves-told, signalled-lawful}
use Rattle.pr_commands.proofs.InputLemmas.{input-range}
use Rattle.pr_commands.proofs.UnseenLemmas.{kept-unseen}
use Rattle.pr_commands.specs.Answers.{Answer, CommandText, answer_of, answer_to, end_status, ran, ran_so, refused_at}
use Rattle.pr_commands.specs.Ends.{EndsAs}
use Rattle.pr_commands.specs.Histories.{HistoryIsKept, IsAfterMoves, RanOutEarly, in_rounds}
use Rattle.pr_commands.specs.Inputs.{scenario_of_input, taken_of}
use Rattle.pr_commands.specs.Rows.{EndsRounds, GivesOne, IsThe, OneRanOut, RanOutAfter, RanOutReading, Reads, TellsEnd}
use Rattle.pr_commands.specs.Statuses.{IsWhole}
use Rattle.pr_commands.specs.declared.outcomes.Status.{Status}
use Rattle.pr_commands.specs.declared.outcomes.Status.TheVariants.{Done, Usage, Refused, Spent, Stuck, ReadFailed, WriteFailed, OutOfMemory, NotLegal}

-- ---- the history is kept

abbrev history_of : Answer → List Entry
history_of a = a.history

of_scenario : (text : CommandText) (old new input : Option (List ℕ)) (s : Result Scenario ScenFault)
    → scenario_of_input input ≡ s → Took scenario_limit old new input → (h : List Entry)
    → h ≡ (answer_of text s).history → HistoryIsKept in_rounds old new h
unfolding answer_of refused_at ran ran_so
of_scenario text old new input (Err fault) read took h is = inl is
of_scenario text old new input (Ok s) read took h is =
    let prefix : IsPrefix h (run_of s).kernel.history = record { more = []; is = sym is ∙ sym (append-nil h) } in
    let run : IsAfterMoves input h =
    record { scenario = s; read = read; moves = s.turns; within = omega arith; is = is; prefix = prefix } in
    let range = input-range input s read in
    let kept = subst (λ (x : List Entry). IsKept s x) (sym is) (run-kept s s.turns range) in
    inr (record { input = input; took = took; run = run; kept = kept; hiders = kept-unseen s h range kept })

of_answer : (text : CommandText) (old new input : Option (List ℕ)) (h : List Entry) → Took scenario_limit old new input
    → h ≡ (answer_to text input).history → HistoryIsKept in_rounds old new h
unfolding answer_to
of_answer text old new input h took is = of_scenario text old new input (scenario_of_input input) refl took h is

of_way : (old new input : Option (List ℕ)) (h : List Entry) → Took scenario_limit old new input
    → (h ≡ []) ⊎ IsAfterMoves input h → HistoryIsKept in_rounds old new h
of_way old new input h took (inl none) = inl none
of_way old new input h took (inr run) =
    let range = input-range input run.scenario run.read in
    let kept = subst (λ (x : List Entry). IsKept run.scenario x) (sym run.is) (run-kept run.scenario run.moves range) in
    inr (record { input = input; took = took; run = run; kept = kept; hiders = kept-unseen run.scenario h range kept })

of_memory : (text : CommandText) (old new : Ends) (h : List Entry)
    → RanOutReading old new h ⊎ RanOutAfter scenario_limit (IsThe (answer_to text)) in_rounds old new h
    → HistoryIsKept in_rounds old.left new.left h
of_memory text old new h (inl early) = inl early.nothing.no_history
of_memory text old new h (inr after) =
    ⊎_elim
    (λ (early : RanOutEarly in_rounds after.input h old.written new.written).
    of_way old.left new.left after.input h after.took early.left)
    (λ (late : OneRanOut (IsThe (answer_to text) after.input) h old.written new.written).
    of_answer text old.left new.left after.input h after.took (late.ran_out.history_is ∙ ap history_of late.may))
    after.ran_out

-- Nothing failed, or one thing did.
pub status_cases : (s : Status) → IsWhole s ⊎ ((s ≡ ReadFailed) ⊎ ((s ≡ WriteFailed) ⊎ (s ≡ OutOfMemory)))
status_cases Done = inl (record { read = λ is. cc; wrote = λ is. cc; had_memory = λ is. cc })
status_cases Usage = inl (record { read = λ is. cc; wrote = λ is. cc; had_memory = λ is. cc })
status_cases Refused = inl (record { read = λ is. cc; wrote = λ is. cc; had_memory = λ is. cc })
status_cases Spent = inl (record { read = λ is. cc; wrote = λ is. cc; had_memory = λ is. cc })
status_cases Stuck = inl (record { read = λ is. cc; wrote = λ is. cc; had_memory = λ is. cc })
status_cases NotLegal = inl (record { read = λ is. cc; wrote = λ is. cc; had_memory = λ is. cc })
status_cases ReadFailed = inr (inl refl)
status_cases WriteFailed = inr (inr (inl refl))
status_cases OutOfMemory = inr (inr (inr refl))

-- Whatever the status is, the history is kept.
pub history-kept : (text : CommandText) (old new : Ends) (status : Status) (h : List Entry)
    → Reads scenario_limit (IsThe (answer_to text)) in_rounds old new status h
    → HistoryIsKept in_rounds old.left new.left h
history-kept text old new status h r = by (status_cases status)
  where
    by : IsWhole status ⊎ ((status ≡ ReadFailed) ⊎ ((status ≡ WriteFailed) ⊎ (status ≡ OutOfMemory)))
        → HistoryIsKept in_rounds old.left new.left h
    by (inl s) = let a = r.answered s in
        of_answer text old.left new.left a.input h a.took (a.gives.given.history_is ∙ ap history_of a.gives.may)
    by (inr (inl s)) = inl (r.not_read s).no_history
    by (inr (inr (inl s))) = let c = r.cut s in
        of_answer text old.left new.left c.input h c.took (c.cut.history_is ∙ ap history_of c.may)
    by (inr (inr (inr s))) = of_memory text old new h (r.memory s)

-- ---- a scenario is run

ended : (first : WorldState) (n : ℕ) → TellsMachine first → IsFresh first → (next : Option Actor)
    → next_actor (after_moves n first) ≡ next
    → EndsAs n (after_moves n first) (end_status (end_with (after_moves n first) next))
unfolding end_status
ended first n told fresh None rest = by (all_finished (after_moves n first)) refl
  where
    by : (b : Bool) → all_finished (after_moves n first) ≡ b → EndsAs n (after_moves n first) (end_status (quiet_end b))
    by true finished =
        inl (
          refl,
          record {
            rest =
                λ actor.
                all-rest (after_moves n first) actor
                (signalled-lawful (after_moves n first) (moves-told first n told)) rest;
            finished = finished;
          },
        )
    by false unfinished =
        inr (inr (
          refl,
          record {
            rest =
                λ actor.
                all-rest (after_moves n first) actor
                (signalled-lawful (after_moves n first) (moves-told first n told)) rest;
            unfinished = unfinished;
          },
        ))
ended first n told fresh (Some actor) next =
    inr (inl (
      refl,
      record {
        mover = actor;
        can_move = next-acts (after_moves n first) actor next;
        full =
            moves-counted first n told fresh (ap is_some next);
      },
    ))

run_ended : (s : Scenario) → EndsAs s.turns (run_of s) (end_status (end_of (run_of s)))
unfolding end_of
run_ended s = ended (first_world s) s.turns (first-told s) (first-fresh s) (next_actor (run_of s)) refl

run_given : (text : CommandText) (s : Result Scenario ScenFault) (status : Status)
    → (IsWhole status → status ≡ (answer_of text s).status)
    → IfOk s (λ scenario. TellsEnd scenario (answer_of text s) status)
unfolding answer_of ran ran_so
run_given text (Err fault) status is = tt
run_given text (Ok s) status is =
    record {
      led = moves-led (first_world s) s.turns (first-told s);
      given = λ whole. subst (EndsAs s.turns (run_of s)) (sym (is whole)) (run_ended s);
      answered = run_ended s;
    }

runs-told : (text : CommandText) (left : Option (List ℕ)) (status : Status) (h : List Entry) (w v : Option (List ℕ))
    → (IsWhole status
    → IfSome left (λ input. GivesOne (IsThe (answer_to text) (taken_of scenario_limit input)) status h w v))
    → EndsRounds text left status
unfolding answer_to
runs-told text None status h w v answers = tt
runs-told text (Some left) status h w v answers =
    run_given text (scenario_of_input (taken_of scenario_limit left)) status
    (λ whole. let one = answers whole in one.given.status_is ∙ ap (λ (a : Answer). a.status) one.may)

pub runs-scenario : (text : CommandText) (old new : Ends) (status : Status) (h : List Entry)
    → Reads scenario_limit (IsThe (answer_to text)) in_rounds old new status h
    → EndsRounds text old.left status
runs-scenario text old new status h r = runs-told text old.left status h old.written new.written r.answers
