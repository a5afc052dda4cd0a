-- Runs on several threads: what is kept of them, and how their status is caused.
use Rattle.std.proofs.Common.{◌≡◌, ◌≤◌, ◌⊎◌, inl, inr, ⊎_elim, ℕ, Bool, true, false, ◌&&◌, List, [], Option, Some, None, is_some, Result, Ok, Err, IfOk, IfSome, OnErr, OnOk, length, nat_lt, refl, sym, ◌∙◌, ap, subst, arith}
use borrow.Author.Tests.{ltb-false}
use Rattle.pr_api.specs.Views.{IsLawful}
use Rattle.pr_ends.specs.Ends.{Ends}
use Rattle.pr_ends.specs.Inputs.{Took}
use Rattle.pr_model.specs.declared.events.Actor.{Actor}
use Rattle.pr_model.specs.declared.events.Entry.{Entry}
use Rattle.pr_num.specs.Limits.{scenario_limit}
use Rattle.pr_num.specs.declared.memory.NoMemory.{NoMemory}
use Rattle.pr_output.specs.Output.{run_text}
use Rattle.pr_run_laws.specs.Prefixes.{IsPrefix}
use Rattle.pr_run_laws.specs.ScenarioRanges.{IsScenarioInRange}
use Rattle.pr_run_laws.specs.ScenarioRuns.{IsKept, first_world}
use Rattle.pr_run_laws.proofs.KeptRuns.KeptLemmas.{came-kept}
use Rattle.pr_scen.specs.Scenarios.{Scenario}
use Rattle.pr_scen.specs.Refusals.{ScenFault}
use Rattle.pr_world.specs.Runs.{CameFrom, TellsMachine}
use Rattle.pr_world.specs.Worlds.{WorldState, all_finished, end_of, end_with, ended_as, goes_on, next_actor, quiet_end}
use Rattle.pr_world.specs.declared.ends.End.{End}
use Rattle.pr_world.proofs.RestLemmas.{all-rest, next-acts}
use Rattle.pr_world.proofs.RunLemmas.{signalled-lawful}
use Rattle.pr_commands.proofs.InputLemmas.{input-range}
use Rattle.pr_commands.proofs.UnseenLemmas.{kept-unseen}
use Rattle.pr_commands.proofs.OnwardLemmas.{HasEnd, first-end, led-end, led-places}
use Rattle.pr_commands.proofs.ReadingLemmas.{taken}
use Rattle.pr_commands.proofs.RunEndLemmas.{status_cases}
use Rattle.pr_commands.specs.Answers.{Answer, IsEndOf, MayAnswer, MayAnswerRead, RunText, ShowsEnd, end_status, ran, ran_so, refused_at}
use Rattle.pr_commands.specs.Ends.{EndsAs}
use Rattle.pr_commands.specs.Giving.{IsCutShort, RanOutLate, Responds, RespondsOne, StopsEarly}
use Rattle.pr_commands.specs.Histories.{HistoryIsKept, IsLedTo, IsMadeByThreads, RanOutEarly, by_threads}
use Rattle.pr_commands.specs.Inputs.{scenario_of_input, taken_of}
use Rattle.pr_commands.specs.Made.{LeftWith, StoppedThreads}
use Rattle.pr_commands.specs.Rows.{EndsRun, EndsUnsaid, GivesOne, OneRanOut, RanOutAfter, RanOutReading, Reads, TellsEndOfOne, WouldEnd}
use Rattle.pr_commands.specs.Statuses.{IsWhole}
use Rattle.pr_output.specs.declared.runs.Showing.{Showing}
use Rattle.pr_commands.specs.declared.outcomes.Status.{Status}
use Rattle.pr_commands.specs.declared.outcomes.Status.TheVariants.{ReadFailed, WriteFailed, OutOfMemory}

-- ---- the end of a world

is-over : (w : WorldState) (end : End) → ended_as w ≡ Some end → goes_on w ≡ false
unfolding ended_as
is-over w end is = of (goes_on w) refl
  where
    of : (b : Bool) → goes_on w ≡ b → goes_on w ≡ false
    of true goes = cc
    of false goes = goes

full : (turns n places : ℕ) → (nat_lt n places && true) ≡ false → n ≤ places → places ≡ turns → n ≡ turns
full turns n places over within same = of (nat_lt n places) refl
  where
    of : (b : Bool) → nat_lt n places ≡ b → n ≡ turns
    of true less = let no : true ≡ false = sym (ap (λ (b : Bool). b && true) less) ∙ over in cc
    of false not_less = omega (arith, ltb-false n places not_less, within, same)

-- A world that does not go on has ended, and no two causes hold of it.
over-ends : (w : WorldState) (turns : ℕ) → IsLawful w.kernel → goes_on w ≡ false
    → length w.kernel.history ≤ w.kernel.places → w.kernel.places ≡ turns → EndsAs turns w (end_status (end_of w))
unfolding end_of goes_on end_status
over-ends w turns lawful over within places = of (next_actor w) refl over
  where
    of : (next : Option Actor) → next_actor w ≡ next
        → (nat_lt (length w.kernel.history) w.kernel.places && is_some next) ≡ false
        → EndsAs turns w (end_status (end_with w next))
    of None rest over = by (all_finished w) refl
      where
        by : (b : Bool) → all_finished w ≡ b → EndsAs turns w (end_status (quiet_end b))
        by true finished = inl (refl, record { rest = λ actor. all-rest w actor lawful rest; finished = finished })
        by false unfinished =
            inr (inr (refl, record { rest = λ actor. all-rest w actor lawful rest; unfinished = unfinished }))
    of (Some actor) next over =
        inr (inl (
          refl,
          record {
            mover = actor;
            can_move = next-acts w actor next;
            full =
                full turns (length w.kernel.history) w.kernel.places over within places;
          },
        ))

end-ends : (s : Scenario) (w : WorldState) → IsEndOf s w → EndsAs s.turns w (end_status (end_of w))
end-ends s w e = over-ends w s.turns (signalled-lawful w e.told) e.over e.within (led-places s w e.came)

-- ---- what is shown of it

shown-history : (text : RunText) (w : WorldState) → (ran text w).history ≡ w.kernel.history
unfolding ran ran_so
shown-history text w = refl

shown-status : (text : RunText) (w : WorldState) → (ran text w).status ≡ end_status (end_of w)
unfolding ran ran_so
shown-status text w = refl

left-stopped : (s : Scenario) (w : WorldState) (h : List Entry) (old new : Option (List ℕ)) → CameFrom (first_world s) w
    → TellsMachine w → length w.kernel.history ≤ w.kernel.places → LeftWith w.kernel.history h old new
    → StoppedThreads s h old new
left-stopped s w h old new came told within left = record {
  unwritten = left.unwritten;
  so_far = inr (record {
    world = w;
    came = came;
    told = told;
    is = left.is;
    within = omega (arith, within, ap length left.is, led-places s w came);
  });
}

responds-left : (answer : Answer) (s : Scenario) (w : WorldState) (status : Status) (h : List Entry)
    (old new : Option (List ℕ)) (before after : ℕ) → CameFrom (first_world s) w → TellsMachine w
    → length w.kernel.history ≤ w.kernel.places
    → Responds answer (LeftWith w.kernel.history h old new) status h old new before after
    → Responds answer (StoppedThreads s h old new) status h old new before after
responds-left answer s w status h old new before after came told within r = record {
  whole = r.whole;
  cut = r.cut;
  rose = r.rose;
  memory =
      λ m. ⊎_elim
      (λ (left : LeftWith w.kernel.history h old new). inl (left-stopped s w h old new came told within left))
      (λ late. inr late) (r.memory m);
  no_fault = r.no_fault;
  read = r.read;
}

-- The run that led to a world was shown, or memory had run out in it.
pub shown-one : (showing : Showing) (s : Scenario) (w : WorldState) (end : Result End NoMemory) (status : Status)
    (h : List Entry) (old new : Option (List ℕ)) (before after : ℕ) → CameFrom (first_world s) w → TellsMachine w
    → length w.kernel.history ≤ w.kernel.places → IfOk end (λ end. ended_as w ≡ Some end)
    → OnOk end
    (Responds (ran (run_text showing) w) (LeftWith w.kernel.history h old new) status h old new before after)
    → OnErr end (StopsEarly (LeftWith w.kernel.history h old new) status before after)
    → RespondsOne (ShowsEnd showing s) (StoppedThreads s h old new) status h old new before after
shown-one showing s w (Ok end) status h old new before after came told within ended shown stopped =
    inl (record {
      answer = ran (run_text showing) w;
      may = record {
        world = w;
        ends = record { came = came; told = told; over = is-over w end ended; within = within };
        is = refl;
      };
      responds = responds-left (ran (run_text showing) w) s w status h old new before after came told within shown;
    })
shown-one showing s w (Err e) status h old new before after came told within ended shown stopped =
    inr (record {
      status_is = stopped.status_is;
      left = left-stopped s w h old new came told within stopped.left;
      no_fault =
          stopped.no_fault;
    })

-- ---- the history is kept

module _ (showing : Showing) where
  led-shown : (s : Scenario) (answer : Answer) (h : List Entry) → ShowsEnd showing s answer → h ≡ answer.history
      → IsLedTo s h
  led-shown s answer h shown is =
      let w = shown.world in
      let same = is ∙ (ap (λ (a : Answer). a.history) shown.is ∙ shown-history (run_text showing) w) in
      record {
        world = w;
        came = shown.ends.came;
        told = shown.ends.told;
        is = same;
        within = omega (arith, shown.ends.within, ap length same, led-places s w shown.ends.came);
      }

  of_led : (old new input : Option (List ℕ)) (h : List Entry) → Took scenario_limit old new input
      → IsMadeByThreads input h → HistoryIsKept by_threads old new h
  of_led old new input h took made =
      let range = input-range input made.scenario made.read in
      let kept =
      subst (λ (x : List Entry). IsKept made.scenario x) (sym made.led.is)
      (came-kept made.scenario made.led.world range made.led.came) in
      inr (record
      { input = input; took = took; made = made; kept = kept; hiders = kept-unseen made.scenario h range kept })

  of_read : (old new input : Option (List ℕ)) (s : Result Scenario ScenFault) (answer : Answer) (h : List Entry)
      → scenario_of_input input ≡ s → Took scenario_limit old new input → MayAnswerRead showing s answer
      → h ≡ answer.history → HistoryIsKept by_threads old new h
  unfolding refused_at
  of_read old new input (Err fault) answer h read took may is = inl (is ∙ ap (λ (a : Answer). a.history) may)
  of_read old new input (Ok s) answer h read took may is =
      of_led old new input h took
      (record { scenario = s; read = read; led = led-shown s answer h may is })

  of_answer : (old new input : Option (List ℕ)) (answer : Answer) (h : List Entry) → Took scenario_limit old new input
      → MayAnswer showing input answer → h ≡ answer.history → HistoryIsKept by_threads old new h
  of_answer old new input answer h took may is =
      of_read old new input (scenario_of_input input) answer h refl took may is

  of_so_far : (old new input : Option (List ℕ)) (h : List Entry) → Took scenario_limit old new input
      → (h ≡ []) ⊎ IsMadeByThreads input h → HistoryIsKept by_threads old new h
  of_so_far old new input h took (inl none) = inl none
  of_so_far old new input h took (inr made) = of_led old new input h took made

  of_memory : (old new : Ends) (h : List Entry)
      → RanOutReading old new h ⊎ RanOutAfter scenario_limit (MayAnswer showing) by_threads old new h
      → HistoryIsKept by_threads old.left new.left h
  of_memory old new h (inl early) = inl early.nothing.no_history
  of_memory old new h (inr after) =
      ⊎_elim
      (λ (early : RanOutEarly by_threads after.input h old.written new.written).
      of_so_far old.left new.left after.input h after.took early.left)
      (λ (late : OneRanOut (MayAnswer showing after.input) h old.written new.written).
      of_answer old.left new.left after.input late.answer h after.took late.may late.ran_out.history_is)
      after.ran_out

-- Whatever the status is, the history is kept.
pub shared-kept : (showing : Showing) (old new : Ends) (status : Status) (h : List Entry)
    → Reads scenario_limit (MayAnswer showing) by_threads old new status h
    → HistoryIsKept by_threads old.left new.left h
shared-kept showing old new status h r = by (status_cases status)
  where
    by : IsWhole status ⊎ ((status ≡ ReadFailed) ⊎ ((status ≡ WriteFailed) ⊎ (status ≡ OutOfMemory)))
        → HistoryIsKept by_threads old.left new.left h
    by (inl s) = let a = r.answered s in
        of_answer showing old.left new.left a.input a.gives.answer h a.took a.gives.may a.gives.given.history_is
    by (inr (inl s)) = inl (r.not_read s).no_history
    by (inr (inr (inl s))) = let c = r.cut s in
        of_answer showing old.left new.left c.input c.answer h c.took c.may c.cut.history_is
    by (inr (inr (inr s))) = of_memory showing old new h (r.memory s)

-- ---- a scenario is run

-- An answer that shows the end of a run says how it ended.
shown-ends : (showing : Showing) (s : Scenario) (answer : Answer) (h : List Entry) → ShowsEnd showing s answer
    → h ≡ answer.history → EndsRun s answer.status h
unfolding led-shown
shown-ends showing s answer h shown is =
    let w = shown.world in
    let status = ap (λ (a : Answer). a.status) shown.is ∙ shown-status (run_text showing) w in
    record {
      led = led-shown showing s answer h shown is;
      ends = subst (EndsAs s.turns w) (sym status) (end-ends s w shown.ends);
    }

-- One of the answers that may come, of which this became.
abbrev Became : (Answer → Type 0) → (Answer → Type 0) → Type 0
Became May Is = (answer : Answer) × May answer × Is answer

module _ (showing : Showing) (old new : Ends) (status : Status) (h : List Entry) where
  abbrev cut_short : Answer → Type 0
  cut_short answer = IsCutShort answer h old.written new.written

  abbrev ran_out : Answer → Type 0
  ran_out answer = RanOutLate answer h old.written new.written

  -- memory ran out before a text was begun
  record Unsaid (input : Option (List ℕ)) : Type 0 where
    unwritten : new.written ≡ old.written
    so_far : (h ≡ []) ⊎ IsMadeByThreads input h

  -- what is known of the answers that may come to an input
  record Gives (input : Option (List ℕ)) (May : Answer → Type 0) : Type 0 where
    whole : IsWhole status → GivesOne May status h old.written new.written
    cut : status ≡ WriteFailed → Became May cut_short
    memory : status ≡ OutOfMemory → Unsaid input ⊎ Became May ran_out

  unsaid : (s : Scenario) (Is : Answer → Type 0) → ((answer : Answer) → Is answer → h ≡ answer.history)
      → Became (ShowsEnd showing s) Is → EndsUnsaid showing s h Is
  unsaid s Is history (answer, shown, is) = record {
    answer = answer;
    shows = shown;
    ends = shown-ends showing s answer h shown (history answer is);
    became = is;
  }

  same_scenario : (s t : Scenario) → (let read : Result Scenario ScenFault = Ok s in read) ≡ Ok t → s ≡ t
  same_scenario s t is = cc

  -- the run goes on to an end
  would_end : (s : Scenario) (input : Option (List ℕ)) → scenario_of_input input ≡ Ok s → Unsaid input
      → WouldEnd showing s old new h
  would_end s input read early =
      let w = end.world in
      let answer = ran (run_text showing) w in
      let shows : ShowsEnd showing s answer = record { world = w; ends = end.ends; is = refl } in
      record {
        unwritten = early.unwritten;
        answer = answer;
        shows = shows;
        ends = shown-ends showing s answer answer.history shows refl;
        begins = subst (IsPrefix h) (sym (shown-history (run_text showing) w)) end.begins;
      }
    where
      range : IsScenarioInRange s
      range = input-range input s read

      of : (h ≡ []) ⊎ IsMadeByThreads input h → HasEnd s h
      of (inl none) = subst (HasEnd s) (sym none) (first-end s range)
      of (inr made) =
          let same = same_scenario made.scenario s (sym made.read ∙ read) in
          led-end s h range (subst (λ (t : Scenario). IsLedTo t h) same made.led)

      end : HasEnd s h
      end = of early.so_far

  run_given : (input : Option (List ℕ)) (s : Result Scenario ScenFault) → scenario_of_input input ≡ s
      → Gives input (MayAnswerRead showing s) → IfOk s (λ scenario. TellsEndOfOne showing scenario old new status h)
  run_given input (Err fault) read gives = tt
  run_given input (Ok s) read gives = record {
    given = λ whole.
        let one = gives.whole whole in
        let ends = shown-ends showing s one.answer h one.may one.given.history_is in
        subst (λ (x : Status). EndsRun s x h) (sym one.given.status_is) ends;
    cut = λ is. unsaid s cut_short (λ answer c. c.history_is) (gives.cut is);
    memory = λ is.
        ⊎_elim (λ (early : Unsaid input). inl (would_end s input read early))
        (λ (late : Became (ShowsEnd showing s) ran_out). inr (unsaid s ran_out (λ answer c. c.history_is) late))
        (gives.memory is);
  }

  -- The input was read of the bytes that were left.
  module _ (left : List ℕ) (known : old.left ≡ Some left) where
    abbrev MayKnown : Answer → Type 0
    MayKnown answer = MayAnswer showing (taken_of scenario_limit left) answer

    input-known : (input : Option (List ℕ)) → Took scenario_limit old.left new.left input
        → input ≡ taken_of scenario_limit left
    input-known input took =
        taken scenario_limit new.left left input
        (subst (λ (o : Option (List ℕ)). Took scenario_limit o new.left input) known took)

    may-known : (input : Option (List ℕ)) (answer : Answer) → Took scenario_limit old.left new.left input
        → MayAnswer showing input answer → MayKnown answer
    may-known input answer took may =
        subst (λ (i : Option (List ℕ)). MayAnswer showing i answer) (input-known input took) may

    early-known : (input : Option (List ℕ)) → Took scenario_limit old.left new.left input
        → RanOutEarly by_threads input h old.written new.written → Unsaid (taken_of scenario_limit left)
    early-known input took early = record {
      unwritten = early.unwritten;
      so_far = subst (λ (i : Option (List ℕ)). (h ≡ []) ⊎ IsMadeByThreads i h) (input-known input took) early.left;
    }

    memory-known : RanOutReading old new h ⊎ RanOutAfter scenario_limit (MayAnswer showing) by_threads old new h
        → Unsaid (taken_of scenario_limit left) ⊎ Became MayKnown ran_out
    memory-known (inl early) =
        inl (record { unwritten = early.nothing.unwritten; so_far = inl early.nothing.no_history })
    memory-known (inr after) =
        ⊎_elim
        (λ (early : RanOutEarly by_threads after.input h old.written new.written).
        inl (early-known after.input after.took early))
        (λ (late : OneRanOut (MayAnswer showing after.input) h old.written new.written).
        inr (late.answer, may-known after.input late.answer after.took late.may, late.ran_out))
        after.ran_out

    gives-known : Reads scenario_limit (MayAnswer showing) by_threads old new status h
        → Gives (taken_of scenario_limit left) MayKnown
    gives-known r = record {
      whole = λ whole. subst (λ (o : Option (List ℕ)). IfSome o (λ input.
          GivesOne (MayAnswer showing (taken_of scenario_limit input)) status h old.written new.written))
          known (r.answers whole);
      cut = λ is. let c = r.cut is in (c.answer, may-known c.input c.answer c.took c.may, c.cut);
      memory = λ is. memory-known (r.memory is);
    }

-- how the run of an input ended, which is a scenario
abbrev TellsEndOf : Showing → Ends → Ends → Status → List Entry → Option (List ℕ) → Type 0
TellsEndOf showing old new status h left = IfSome left (λ input.
    IfOk (scenario_of_input (taken_of scenario_limit input)) (λ scenario.
    TellsEndOfOne showing scenario old new status h))

pub shares-scenario : (showing : Showing) (old new : Ends) (status : Status) (h : List Entry)
    → Reads scenario_limit (MayAnswer showing) by_threads old new status h
    → TellsEndOf showing old new status h old.left
shares-scenario showing old new status h r = of old.left refl
  where
    of : (o : Option (List ℕ)) → old.left ≡ o → TellsEndOf showing old new status h o
    of None unknown = tt
    of (Some left) known =
        run_given showing old new status h (taken_of scenario_limit left)
        (scenario_of_input (taken_of scenario_limit left)) refl
        (gives-known showing old new status h left known r)

-- ---- the parts of an answer to an input

-- One answer that takes no memory before it is told.
pub one-answer : (May : Answer → Type 0) (answer : Answer) (early : Type 0) (status : Status) (h : List Entry)
    (old new : Option (List ℕ)) (before after : ℕ) → May answer → Responds answer ⊥ status h old new before after
    → RespondsOne May early status h old new before after
one-answer May answer early status h old new before after may r = inl (record {
  answer = answer;
  may = may;
  responds = record {
    whole = r.whole;
    cut = r.cut;
    rose = r.rose;
    memory = λ m. ⊎_elim (λ never. absurd never) (λ late. inr late) (r.memory m);
    no_fault = r.no_fault;
    read = r.read;
  };
})

-- the answers of which one may come are also of another kind, and what is left is too
pub one-else : (May Other : Answer → Type 0) (early other : Type 0) (status : Status) (h : List Entry)
    (old new : Option (List ℕ)) (before after : ℕ) → ((a : Answer) → May a → Other a) → (early → other)
    → RespondsOne May early status h old new before after → RespondsOne Other other status h old new before after
one-else May Other early other status h old new before after so left (inl one) = inl (record {
  answer = one.answer;
  may = so one.answer one.may;
  responds = record {
    whole = one.responds.whole;
    cut = one.responds.cut;
    rose = one.responds.rose;
    memory = λ m. ⊎_elim (λ e. inl (left e)) (λ late. inr late) (one.responds.memory m);
    no_fault = one.responds.no_fault;
    read = one.responds.read;
  };
})
one-else May Other early other status h old new before after so left (inr stops) =
    inr (record { status_is = stops.status_is; left = left stops.left; no_fault = stops.no_fault })

-- What threads made of a scenario is made of the input that it was read of.
pub threads-left : (input : Option (List ℕ)) (s : Scenario) (h : List Entry) (old new : Option (List ℕ))
    → scenario_of_input input ≡ Ok s → StoppedThreads s h old new → RanOutEarly by_threads input h old new
threads-left input s h old new read stopped = record { unwritten = stopped.unwritten; left = of stopped.so_far }
  where
    of : (h ≡ []) ⊎ IsLedTo s h → (h ≡ []) ⊎ IsMadeByThreads input h
    of (inl none) = inl none
    of (inr led) = inr (record { scenario = s; read = read; led = led })
