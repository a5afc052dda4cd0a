use Rattle.std.proofs.Common.{◌≡◌, ◌<◌, ◌+◌, ◌++◌, ℕ, Bool, true, false, cond, nat_lt, Option, Some, None, List, [], ◌∷◌, length, refl, sym, subst, ap, ◌∙◌, arith}
use Rattle.std.proofs.lemmas.Bool.{false≢true}
use Rattle.std.proofs.lemmas.List.{get_or_push, length-append, length-set}
use Rattle.std.proofs.lemmas.List.Elements.{All-head, All-tail}
use Rattle.std.proofs.lemmas.Option.{none-some, same_Some}
use Rattle.std.specs.List.{All}
use Rattle.pr_line.specs.declared.functions.Function.{Function}
use Rattle.pr_line.specs.declared.options.Options.{Options}
use Rattle.pr_model.specs.Replies.{bytes_in, handle_in, until_in}
use Rattle.pr_model.specs.declared.calls.Reply.{Reply}
use Rattle.pr_model.specs.declared.calls.Reply.TheVariants as reply
use Rattle.pr_num.specs.declared.errnos.Errno.TheVariants.{Noent}
use Rattle.pr_num.specs.declared.messages.Message.TheVariants as message
use Rattle.pr_report_laws.proofs.Invariant.OpeningRuns.{granted-accepted}
use Rattle.pr_truss.specs.Asides.{marks_at, with_aside}
use Rattle.pr_truss.specs.FunctionCalls.{call_beside, function_call_of, plant_call, read_code_call}
use Rattle.pr_truss.specs.FunctionFeeding.{fed_functions, is_to_plant, with_aside_answered, with_code_answered, with_code_read, with_function_reply, with_function_step_answered, with_functions_begun, with_next_function, with_plant_answered, with_planted}
use Rattle.pr_truss.specs.Feeding.{with_reply}
use Rattle.pr_truss.specs.Marks.{has_functions, no_functions, no_marks, with_function}
use Rattle.pr_truss.specs.Messages.{message_call}
use Rattle.pr_truss.specs.NextCalls.{call_of, opening_call}
use Rattle.pr_truss.specs.Openings.{at_step, learnt, step_after, with_control, with_control_answered, with_step_done}
use Rattle.pr_truss.specs.Processes.{newly_traced}
use Rattle.pr_truss.specs.Replies.{answer_of}
use Rattle.pr_truss.specs.Trusses.{TrussState, first_truss, nobody, traced_at, with_traced}
use Rattle.pr_truss.specs.declared.asides.Aside.{Aside}
use Rattle.pr_truss.specs.declared.asides.Aside.TheVariants.{Nothing, Reading, Planting}
use Rattle.pr_truss.specs.declared.marks.Marks.{Marks}
use Rattle.pr_truss.specs.declared.processes.Traced.{Traced}
use Rattle.pr_truss.specs.declared.replies.Answer.{Answer}
use Rattle.pr_truss.specs.declared.replies.Answer.TheVariants.{Accepted, Interrupted, Gone, Refused}
use Rattle.pr_truss.specs.declared.stages.OpeningStep.{OpeningStep}
use Rattle.pr_truss.specs.declared.stages.OpeningStep.TheVariants.{OpenStatus, OpenLstatus, OpenMemory, ClearModes, SetRelease, Stop, AwaitStop, ReadLwps, TraceSignals, TraceFaults, TraceEntries, TraceExits, Follow, Start}
use Rattle.pr_truss.specs.declared.stages.Stage.TheVariants.{OpeningControl, Opening}
use Rattle.pr_truss_laws.proofs.Files.HeldLemmas.{set-at}
use Rattle.pr_truss_laws.specs.Exchanges.{Exchange, IsGranted}
use Rattle.pr_function_laws.proofs.CallTurns.CalledLaws.{functions-both}
use Rattle.pr_function_laws.proofs.OpenedProcesses.OpenedLaws.{calls-rest}
use Rattle.pr_function_laws.proofs.NextCalls.PatchCalls.{fed-beside, fed-staged, next-beside, next-staged}
use Rattle.pr_function_laws.proofs.NextCalls.RefusedOpenings.{gone-closes, refused-lifts}
use Rattle.pr_function_laws.proofs.NextCalls.ToPlant.{leaves-it, plants-it}
use Rattle.pr_function_laws.proofs.NextCalls.TreatedLaws.{options-at}
use Rattle.pr_function_laws.specs.Planted.{GivesUp, IsToPlant, Look, LooksAtFunctions, Plants, PlantsWhatItRead, Reads, look_at}
use Rattle.pr_function_laws.specs.Runs.{MakesFunctionCalls, functions_after}

-- Which functions truss has planted once it has opened a process: those of which it read the code, before which no
-- other has their address, and of which it was granted the write.

-- ---- the opening so far

-- how many steps are left until the functions are looked at
abbrev left : OpeningStep → ℕ
left OpenStatus = 12
left OpenLstatus = 11
left OpenMemory = 10
left ClearModes = 9
left SetRelease = 8
left Stop = 7
left (AwaitStop until) = 6
left ReadLwps = 5
left TraceSignals = 4
left TraceFaults = 3
left TraceEntries = 2
left TraceExits = 1
left Follow = 0
left Start = 0

abbrev is_last : OpeningStep → Bool
is_last TraceExits = true
is_last _ = false

begun-none : (u : TrussState) (q : ℕ) (now : OpeningStep) → is_last now ≡ false → with_functions_begun u q now ≡ u
begun-none u q TraceExits is = absurd (false≢true (sym is))
begun-none u q _ is = refl

learnt-keeps : (v : Traced) (r : Reply) (now : OpeningStep)
    → ((learnt v r now).control ≡ v.control) × ((learnt v r now).marks ≡ v.marks)
unfolding learnt
learnt-keeps v r Stop = (refl, refl)
learnt-keeps v r _ = (refl, refl)

module _ (o : Options) (has : has_functions o ≡ true) (off : o.follow ≡ false) (q c : ℕ) where
  -- Truss opens the process at this place, whose control file has this handle, and in which these are planted.
  record Opens (set : List Bool) (now : OpeningStep) (aside : Aside) (u : TrussState) : Type 0 where
    options : u.options ≡ o
    within : q < length u.traced
    stage : u.stage ≡ Opening q now
    beside : u.aside ≡ aside
    control : (traced_at u q).control ≡ c
    marks : marks_at u q ≡ record no_marks { planted = set }

  step-fed : (now : OpeningStep) (set : List Bool) (u : TrussState) (r : Reply) → Opens set now Nothing u
      → answer_of r ≡ Accepted → fed_functions u r ≡ with_functions_begun (with_step_done u q r now) q now
  unfolding with_function_reply with_function_step_answered
  step-fed now set u r w granted =
      fed-staged o has u r (Opening q now) w.options w.beside w.stage
      ∙ ap (with_function_step_answered u q now r) granted

  done-opens : (now next : OpeningStep) (set : List Bool) (u : TrussState) (r : Reply) → Opens set now Nothing u
      → step_after o r now ≡ Some next → Opens set next Nothing (with_step_done u q r now)
  unfolding with_step_done
  done-opens now next set u r w comes =
      let v : Traced = learnt (traced_at u q) r now in
      let same = learnt-keeps (traced_at u q) r now in
      let here : traced_at (with_traced u q v) q ≡ v = set-at u.traced q v w.within in
      subst (λ (step : Option OpeningStep). Opens set next Nothing (at_step (with_traced u q v) q step))
      (sym (ap (λ p. step_after p r now) w.options ∙ comes)) (record {
        options = w.options;
        within = omega (arith, w.within, length-set u.traced q v);
        stage = refl;
        beside = w.beside;
        control = ap (λ (y : Traced). y.control) here ∙ same.0 ∙ w.control;
        marks = ap (λ (y : Traced). y.marks) here ∙ same.1 ∙ w.marks;
      })

  step-opens : (now next : OpeningStep) (set : List Bool) (u : TrussState) (r : Reply) → Opens set now Nothing u
      → answer_of r ≡ Accepted → is_last now ≡ false → step_after o r now ≡ Some next
      → Opens set next Nothing (fed_functions u r)
  step-opens now next set u r w granted more comes =
      subst (Opens set next Nothing)
      (sym (step-fed now set u r w granted ∙ begun-none (with_step_done u q r now) q now more))
      (done-opens now next set u r w comes)

  -- ---- the functions

  abbrev aside_of : Option Look → Aside
  aside_of None = Nothing
  aside_of (Some (Reads function)) = Reading q function
  aside_of (Some (Plants function)) = Planting q function

  abbrev OpensAt : List Bool → Option Look → TrussState → Type 0
  OpensAt set look = Opens set Start (aside_of look)

  next-opens : (set : List Bool) (now : OpeningStep) (u : TrussState) (function : ℕ) → Opens set Start Nothing u
      → OpensAt set (look_at o function) (with_next_function u q function)
  unfolding with_next_function
  next-opens set now u function w =
      subst
      (λ (p : Options). OpensAt set (look_at o function)
      (cond (nat_lt function (length p.functions)) (with_aside u (Reading q function)) (with_aside u Nothing)))
      (sym w.options) (by (nat_lt function (length o.functions)))
    where
      by : (b : Bool)
          → OpensAt set (cond b (Some (Reads function)) None)
          (cond b (with_aside u (Reading q function)) (with_aside u Nothing))
      by true = record {
        options = w.options;
        within = w.within;
        stage = w.stage;
        beside = refl;
        control = w.control;
        marks = w.marks;
      }
      by false = record {
        options = w.options;
        within = w.within;
        stage = w.stage;
        beside = refl;
        control = w.control;
        marks = w.marks;
      }

  exits-begin : (set : List Bool) (u : TrussState) (r : Reply) → Opens set TraceExits Nothing u
      → answer_of r ≡ Accepted → OpensAt set (look_at o 0) (fed_functions u r)
  unfolding step_after
  exits-begin set u r w granted =
      let starts : step_after o r TraceExits ≡ Some Start = ap (λ b. Some (cond b Follow Start)) off in
      subst (OpensAt set (look_at o 0)) (sym (step-fed TraceExits set u r w granted))
      (next-opens set Start (with_step_done u q r TraceExits) 0 (done-opens TraceExits Start set u r w starts))

  granted-of : (x : Exchange) (xs : List Exchange) → All IsGranted (x ∷ xs) → answer_of x.reply ≡ Accepted
  granted-of x xs all = let g = All-head IsGranted x xs all in granted-accepted x.reply g.not_refused

  -- after so many granted calls it looks at the functions
  steps-open : (xs : List Exchange) (now : OpeningStep) (u : TrussState) → Opens no_functions now Nothing u
      → length xs ≡ left now → 0 < left now → All IsGranted xs
      → OpensAt no_functions (look_at o 0) (functions_after u xs)
  unfolding step_after
  steps-open [] now u w long some all = absurd (omega (arith, long, some))
  steps-open (x ∷ xs) OpenStatus u w long some all =
      steps-open xs OpenLstatus (fed_functions u x.reply)
      (step-opens OpenStatus OpenLstatus no_functions u x.reply w (granted-of x xs all) refl refl)
      (omega (arith, long)) (omega arith) (All-tail IsGranted x xs all)
  steps-open (x ∷ xs) OpenLstatus u w long some all =
      steps-open xs OpenMemory (fed_functions u x.reply)
      (step-opens OpenLstatus OpenMemory no_functions u x.reply w (granted-of x xs all) refl refl)
      (omega (arith, long)) (omega arith) (All-tail IsGranted x xs all)
  steps-open (x ∷ xs) OpenMemory u w long some all =
      steps-open xs ClearModes (fed_functions u x.reply)
      (step-opens OpenMemory ClearModes no_functions u x.reply w (granted-of x xs all) refl refl)
      (omega (arith, long)) (omega arith) (All-tail IsGranted x xs all)
  steps-open (x ∷ xs) ClearModes u w long some all =
      steps-open xs SetRelease (fed_functions u x.reply)
      (step-opens ClearModes SetRelease no_functions u x.reply w (granted-of x xs all) refl refl)
      (omega (arith, long)) (omega arith) (All-tail IsGranted x xs all)
  steps-open (x ∷ xs) SetRelease u w long some all =
      steps-open xs Stop (fed_functions u x.reply)
      (step-opens SetRelease Stop no_functions u x.reply w (granted-of x xs all) refl refl)
      (omega (arith, long)) (omega arith) (All-tail IsGranted x xs all)
  steps-open (x ∷ xs) Stop u w long some all =
      steps-open xs (AwaitStop (until_in x.reply)) (fed_functions u x.reply)
      (step-opens Stop (AwaitStop (until_in x.reply)) no_functions u x.reply w (granted-of x xs all) refl refl)
      (omega (arith, long)) (omega arith) (All-tail IsGranted x xs all)
  steps-open (x ∷ xs) (AwaitStop until) u w long some all =
      steps-open xs ReadLwps (fed_functions u x.reply)
      (step-opens (AwaitStop until) ReadLwps no_functions u x.reply w (granted-of x xs all) refl refl)
      (omega (arith, long)) (omega arith) (All-tail IsGranted x xs all)
  steps-open (x ∷ xs) ReadLwps u w long some all =
      steps-open xs TraceSignals (fed_functions u x.reply)
      (step-opens ReadLwps TraceSignals no_functions u x.reply w (granted-of x xs all) refl refl)
      (omega (arith, long)) (omega arith) (All-tail IsGranted x xs all)
  steps-open (x ∷ xs) TraceSignals u w long some all =
      steps-open xs TraceFaults (fed_functions u x.reply)
      (step-opens TraceSignals TraceFaults no_functions u x.reply w (granted-of x xs all) refl refl)
      (omega (arith, long)) (omega arith) (All-tail IsGranted x xs all)
  steps-open (x ∷ xs) TraceFaults u w long some all =
      steps-open xs TraceEntries (fed_functions u x.reply)
      (step-opens TraceFaults TraceEntries no_functions u x.reply w (granted-of x xs all) refl refl)
      (omega (arith, long)) (omega arith) (All-tail IsGranted x xs all)
  steps-open (x ∷ xs) TraceEntries u w long some all =
      steps-open xs TraceExits (fed_functions u x.reply)
      (step-opens TraceEntries TraceExits no_functions u x.reply w (granted-of x xs all) refl refl)
      (omega (arith, long)) (omega arith) (All-tail IsGranted x xs all)
  steps-open (x ∷ []) TraceExits u w long some all =
      exits-begin no_functions u x.reply w (granted-of x [] all)
  steps-open (x ∷ y ∷ xs) TraceExits u w long some all = absurd (omega (arith, long))
  steps-open (x ∷ xs) Follow u w long some all = absurd (omega (arith, some))
  steps-open (x ∷ xs) Start u w long some all = absurd (omega (arith, some))

  -- ---- one function after another

  code-read : (r : Reply) (code : List ℕ) → bytes_in r ≡ Some code → answer_of r ≡ Accepted
  unfolding bytes_in answer_of
  code-read (reply.Bytes bytes) code is = refl
  code-read _ code is = absurd (none-some code is)

  -- truss without what it did beside
  freed : (set : List Bool) (aside : Aside) (u : TrussState) → Opens set Start aside u
      → Opens set Start Nothing (with_aside u Nothing)
  freed set aside u w = record {
    options = w.options;
    within = w.within;
    stage = w.stage;
    beside = refl;
    control = w.control;
    marks = w.marks;
  }

  read-fed : (set : List Bool) (f : ℕ) (u : TrussState) (r : Reply) → Opens set Start (Reading q f) u
      → answer_of r ≡ Accepted → fed_functions u r ≡ with_code_read (with_aside u Nothing) q f (bytes_in r)
  unfolding with_aside_answered with_code_answered
  read-fed set f u r w granted =
      fed-beside o has u r w.options ∙ ap (with_aside_answered u r) w.beside
      ∙ ap (with_code_answered (with_aside u Nothing) q f r) granted

  read-code : (set : List Bool) (f : ℕ) (u : TrussState) (r : Reply) → Opens set Start (Reading q f) u
      → IsToPlant o f (bytes_in r) → OpensAt set (Some (Plants f)) (fed_functions u r)
  unfolding with_code_read
  read-code set f u r w is =
      let s : TrussState = with_aside u Nothing in
      let found : is_to_plant u.options f (bytes_in r) ≡ true =
      ap (λ p. is_to_plant p f (bytes_in r)) w.options ∙ plants-it o f (bytes_in r) is in
      subst (OpensAt set (Some (Plants f)))
      (sym (read-fed set f u r w (code-read r (let g : Function = is.f in g.code) is.code)
      ∙ ap (λ b. cond b (with_aside s (Planting q f)) (with_next_function s q (f + 1))) found)) (record {
        options = w.options;
        within = w.within;
        stage = w.stage;
        beside = refl;
        control = w.control;
        marks = w.marks;
      })

  read-other : (set : List Bool) (f : ℕ) (u : TrussState) (r : Reply) → Opens set Start (Reading q f) u
      → answer_of r ≡ Accepted → (IsToPlant o f (bytes_in r) → ⊥)
      → OpensAt set (look_at o (f + 1)) (fed_functions u r)
  unfolding with_code_read
  read-other set f u r w granted other =
      let s : TrussState = with_aside u Nothing in
      let none : is_to_plant u.options f (bytes_in r) ≡ false =
      ap (λ p. is_to_plant p f (bytes_in r)) w.options ∙ leaves-it o f (bytes_in r) other in
      subst (OpensAt set (look_at o (f + 1)))
      (sym (read-fed set f u r w granted
      ∙ ap (λ b. cond b (with_aside s (Planting q f)) (with_next_function s q (f + 1))) none))
      (next-opens set Start s (f + 1) (freed set (Reading q f) u w))

  plant-fed : (set : List Bool) (f : ℕ) (u : TrussState) (r : Reply) → Opens set Start (Planting q f) u
      → answer_of r ≡ Accepted → OpensAt (with_function set f) (look_at o (f + 1)) (fed_functions u r)
  unfolding with_aside_answered with_plant_answered
  plant-fed set f u r w granted =
      let s : TrussState = with_aside u Nothing in
      let m : Marks = record (marks_at s q) { planted = with_function (marks_at s q).planted f } in
      let v : Traced = record (traced_at u q) { marks = m } in
      let here : traced_at (with_planted s q f) q ≡ v = set-at u.traced q v w.within in
      subst (OpensAt (with_function set f) (look_at o (f + 1)))
      (sym (fed-beside o has u r w.options ∙ ap (with_aside_answered u r) w.beside
      ∙ ap (with_plant_answered s q f) granted))
      (next-opens (with_function set f) Start (with_planted s q f) (f + 1) (record {
        options = w.options;
        within = omega (arith, w.within, length-set u.traced q v);
        stage = w.stage;
        beside = refl;
        control = ap (λ (y : Traced). y.control) here ∙ w.control;
        marks = ap (λ (y : Traced). y.marks) here
            ∙ ap (λ (n : Marks). record n { planted = with_function n.planted f }) w.marks;
      }))

  -- a refusal
  abbrev GivesUpAt : List Bool → TrussState → Answer → List Exchange → Type 0
  GivesUpAt set u a xs = GivesUp o c set (traced_at u q) a xs

  read-gives-up : (set : List Bool) (f : ℕ) (u : TrussState) (r : Reply) (a : Answer) (xs : List Exchange)
      → Opens set Start (Reading q f) u → MakesFunctionCalls (with_code_answered (with_aside u Nothing) q f r a) xs
      → GivesUpAt set u a xs
  unfolding with_code_answered
  read-gives-up set f u r Accepted xs w made = tt
  read-gives-up set f u r Interrupted xs w made = tt
  read-gives-up set f u r Gone xs w made =
      gone-closes o has q (with_aside u Nothing) xs w.options w.within refl Noent made
  read-gives-up set f u r (Refused errno) xs w made =
      refused-lifts o has q (with_aside u Nothing) xs w.options w.within refl errno set c
      (ap (λ (m : Marks). m.planted) w.marks) w.control made

  plant-gives-up : (set : List Bool) (f : ℕ) (u : TrussState) (a : Answer) (xs : List Exchange)
      → Opens set Start (Planting q f) u → MakesFunctionCalls (with_plant_answered (with_aside u Nothing) q f a) xs
      → GivesUpAt set u a xs
  unfolding with_plant_answered
  plant-gives-up set f u Accepted xs w made = tt
  plant-gives-up set f u Interrupted xs w made = tt
  plant-gives-up set f u Gone xs w made =
      gone-closes o has q (with_aside u Nothing) xs w.options w.within refl Noent made
  plant-gives-up set f u (Refused errno) xs w made =
      refused-lifts o has q (with_aside u Nothing) xs w.options w.within refl errno set c
      (ap (λ (m : Marks). m.planted) w.marks) w.control made

  beside-made : (aside : Aside) (u : TrussState) (r : Reply) (xs : List Exchange) → u.options ≡ o → u.aside ≡ aside
      → MakesFunctionCalls (fed_functions u r) xs → MakesFunctionCalls (with_aside_answered u r aside) xs
  beside-made aside u r xs options is made =
      subst (λ (v : TrussState). MakesFunctionCalls v xs)
      (fed-beside o has u r options ∙ ap (with_aside_answered u r) is) made

  read-refused : (set : List Bool) (f : ℕ) (u : TrussState) (r : Reply) (xs : List Exchange)
      → Opens set Start (Reading q f) u → MakesFunctionCalls (fed_functions u r) xs → GivesUpAt set u (answer_of r) xs
  unfolding with_aside_answered
  read-refused set f u r xs w made =
      read-gives-up set f u r (answer_of r) xs w (beside-made (Reading q f) u r xs w.options w.beside made)

  plant-refused : (set : List Bool) (f : ℕ) (u : TrussState) (r : Reply) (xs : List Exchange)
      → Opens set Start (Planting q f) u → MakesFunctionCalls (fed_functions u r) xs → GivesUpAt set u (answer_of r) xs
  unfolding with_aside_answered
  plant-refused set f u r xs w made =
      plant-gives-up set f u (answer_of r) xs w (beside-made (Planting q f) u r xs w.options w.beside made)

  looks-on : (xs : List Exchange) (look : Option Look) (set : List Bool) (u : TrussState) → OpensAt set look u
      → MakesFunctionCalls u xs → LooksAtFunctions o c q look set u xs
  unfolding call_beside function_call_of call_of opening_call
  looks-on [] None set u w made = (w.marks, tt)
  looks-on (x ∷ xs) None set u w made = (
    w.marks,
    (
      same_Some x.call (message_call c (message.Run 0))
          (sym made.0 ∙ next-staged o has u (Opening q Start) w.options w.beside w.stage
          ∙ ap (λ n. Some (message_call n (message.Run 0))) w.control),
      tt,
    ),
  )
  looks-on [] (Some (Reads f)) set u w made = tt
  looks-on [] (Some (Plants f)) set u w made = tt
  looks-on (x ∷ xs) (Some (Reads f)) set u w made = (
    same_Some x.call (read_code_call o c f)
        (sym made.0 ∙ next-beside o has u w.options ∙ ap (call_beside u u.stage) w.beside
        ∙ ap (λ p. Some (read_code_call p (traced_at u q).control f)) w.options
        ∙ ap (λ n. Some (read_code_call o n f)) w.control),
    (
      λ is.
          looks-on xs (Some (Plants f)) set (fed_functions u x.reply) (read-code set f u x.reply w is) made.1,
      (
        λ granted other.
            looks-on xs (look_at o (f + 1)) set (fed_functions u x.reply)
            (read-other set f u x.reply w (granted-accepted x.reply granted.not_refused) other) made.1,
        read-refused set f u x.reply xs w made.1,
      ),
    ),
  )
  looks-on (x ∷ xs) (Some (Plants f)) set u w made = (
    same_Some x.call (plant_call o c f)
        (sym made.0 ∙ next-beside o has u w.options ∙ ap (call_beside u u.stage) w.beside
        ∙ ap (λ p. Some (plant_call p (traced_at u q).control f)) w.options
        ∙ ap (λ n. Some (plant_call o n f)) w.control),
    (
      λ granted.
          looks-on xs (look_at o (f + 1)) (with_function set f) (fed_functions u x.reply)
          (plant-fed set f u x.reply w (granted-accepted x.reply granted.not_refused)) made.1,
      plant-refused set f u x.reply xs w made.1,
    ),
  )

-- ---- from the open of the control file on

control-opens : (o : Options) (has : has_functions o ≡ true) (off : o.follow ≡ false) (t : TrussState) (r : Reply)
    (pid : ℕ) → t.options ≡ o → t.stage ≡ OpeningControl pid → t.aside ≡ Nothing → answer_of r ≡ Accepted
    → Opens o has off (length t.traced) (handle_in r) no_functions OpenStatus Nothing (fed_functions t r)
unfolding with_function_reply with_reply with_control_answered with_control newly_traced
control-opens o has off t r pid options at free granted =
    let v : Traced = newly_traced pid (handle_in r) in
    let here : traced_at (with_control t pid (handle_in r)) (length t.traced) ≡ v =
    get_or_push t.traced v nobody (length t.traced) refl in
    subst (Opens o has off (length t.traced) (handle_in r) no_functions OpenStatus Nothing)
    (sym (fed-staged o has t r (OpeningControl pid) options free at ∙ ap (with_control_answered t pid r) granted))
    (record {
      options = options;
      within = omega (arith, length-append t.traced (v ∷ []));
      stage = refl;
      beside = free;
      control = ap (λ (y : Traced). y.control) here;
      marks = ap (λ (y : Traced). y.marks) here;
    })

pub plants-what-it-read : (o : Options) (xs : List Exchange) → has_functions o ≡ true → o.follow ≡ false
    → MakesFunctionCalls (first_truss o) xs → PlantsWhatItRead o xs
plants-what-it-read o xs has off makes = record {
  each = λ before opening after x pid is at free granted all long.
      let t : TrussState = functions_after (first_truss o) before in
      let q : ℕ = length t.traced in
      let c : ℕ = handle_in x.reply in
      let begun = control-opens o has off t x.reply pid (options-at o before) at free
      (granted-accepted x.reply granted.not_refused) in
      let looks = steps-open o has off q c opening OpenStatus (fed_functions t x.reply) begun long (omega arith) all in
      let then : functions_after (first_truss o) (before ++ x ∷ opening)
      ≡ functions_after (fed_functions t x.reply) opening = functions-both (first_truss o) before (x ∷ opening) in
      let made : MakesFunctionCalls (fed_functions t x.reply) (opening ++ after) =
      (calls-rest (first_truss o) before (x ∷ (opening ++ after))
      (subst (MakesFunctionCalls (first_truss o)) is makes)).1 in
      subst (λ (v : TrussState). LooksAtFunctions o c q (look_at o 0) no_functions v after) (sym then)
      (looks-on o has off q c after (look_at o 0) no_functions (functions_after (fed_functions t x.reply) opening) looks
      (calls-rest (fed_functions t x.reply) opening after made));
}

pub ruleset planteds = (plants-what-it-read)
