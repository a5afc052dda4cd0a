use Rattle.std.proofs.Common.{◌≡◌, ◌≢◌, ◌<◌, ◌||◌, ◌++◌, ℕ, zero, suc, Bool, true, false, cond, is_some, Option, Some, None, List, [], ◌∷◌, length, map, refl, sym, subst, ap, ◌∙◌, arith}
use Rattle.std.proofs.lemmas.List.{length-set}
use Rattle.std.proofs.lemmas.List.Elements.{All-head, All-tail}
use Rattle.std.proofs.lemmas.Option.{same_Some}
use Rattle.std.specs.List.{All, cons_option, remove, slice_set}
use Rattle.pr_line.specs.declared.options.Options.{Options}
use Rattle.pr_model.specs.declared.calls.Call.{Call}
use Rattle.pr_model.specs.declared.calls.Call.TheVariants as call
use Rattle.pr_model.specs.declared.calls.Reply.{Reply}
use Rattle.pr_model.specs.declared.calls.Reply.TheVariants as reply
use Rattle.pr_num.specs.declared.errnos.Errno.TheVariants.{Intr}
use Rattle.pr_truss.specs.Asides.{marks_at, patching, with_aside, with_marks}
use Rattle.pr_truss.specs.Closings.{after_closing, closed_or_removed, with_closed, with_closing, with_going_on}
use Rattle.pr_truss.specs.Feeding.{fed, with_reply}
use Rattle.pr_truss.specs.FunctionCalls.{call_beside, function_call_of, lift_call, next_function_call_of, patch_call, plant_call}
use Rattle.pr_truss.specs.FunctionFeeding.{after_first, after_patch, fed_functions, planted_if, with_aside_answered, with_function_reply, with_patch_answered, with_pending_told, without_planted}
use Rattle.pr_truss.specs.Marks.{first_function, has_functions, without_function}
use Rattle.pr_truss.specs.NextCalls.{call_of, next_call_of}
use Rattle.pr_truss.specs.Processes.{last_handle, without_last}
use Rattle.pr_truss.specs.Replies.{answer_of}
use Rattle.pr_truss.specs.Trusses.{TrussState, traced_at, without_traced}
use Rattle.pr_truss.specs.declared.asides.Aside.{Aside}
use Rattle.pr_truss.specs.declared.asides.Aside.TheVariants.{Nothing, Patching}
use Rattle.pr_truss.specs.declared.marks.Marks.{Marks}
use Rattle.pr_truss.specs.declared.processes.Traced.{Traced}
use Rattle.pr_truss.specs.declared.replies.Answer.{Answer}
use Rattle.pr_truss.specs.declared.replies.Answer.TheVariants.{Accepted, Interrupted, Gone, Refused}
use Rattle.pr_truss.specs.declared.stages.AfterClosing.TheVariants.{GoOn}
use Rattle.pr_truss.specs.declared.stages.Stage.{Stage}
use Rattle.pr_truss.specs.declared.stages.Stage.TheVariants.{ReadingText, Running, Closing}
use Rattle.pr_truss_laws.proofs.Replies.AnswerLemmas.{IsAnswer, answer-is}
use Rattle.pr_truss_laws.proofs.Files.HeldLemmas.{set-at}
use Rattle.pr_truss_laws.proofs.Soon.LookLemmas.{SameFiles}
use Rattle.pr_truss_laws.specs.Exchanges.{Exchange}
use Rattle.pr_function_laws.proofs.NextCalls.ComingLemmas.{come-both, come-weaker, functions-first, functions-none, if-ended}
use Rattle.pr_function_laws.specs.Coming.{Come, ComeWhileItLives, IfEnded, Later, close_calls, functions_in, lift_calls, plant_calls}
use Rattle.pr_function_laws.specs.Leaving.{clear_calls}
use Rattle.pr_function_laws.specs.Runs.{MakesFunctionCalls}
use Rattle.pr_function_laws.specs.Soon.{IsCalm, may_wait}

-- The calls by which truss plants and lifts breakpoints of a process, and by which it closes the files of one.

-- ---- places

pub remove-set : (ts : List Traced) (place : ℕ) (t : Traced) → remove (slice_set ts place t) place ≡ remove ts place
remove-set [] zero t = refl
remove-set [] (suc place) t = refl
remove-set (u ∷ us) zero t = refl
remove-set (u ∷ us) (suc place) t = ap (λ vs. u ∷ vs) (remove-set us place t)

pub same-closes : (t v : Traced) → SameFiles t v → close_calls v ≡ close_calls t
same-closes t v f =
    ap (λ m. map call.Close (cons_option m (cons_option v.lstatus (cons_option v.status (v.control ∷ []))))) f.memory
    ∙ ap (λ m. map call.Close (cons_option t.memory (cons_option m (cons_option v.status (v.control ∷ []))))) f.lstatus
    ∙ ap (λ m. map call.Close (cons_option t.memory (cons_option t.lstatus (cons_option m (v.control ∷ []))))) f.status
    ∙ ap (λ m. map call.Close (cons_option t.memory (cons_option t.lstatus (cons_option t.status (m ∷ []))))) f.control

-- what is written to a control file, and is no wait, is not interrupted
pub written-calm : (x : Exchange) → IsCalm x → may_wait x.call ≡ false → answer_of x.reply ≢ Interrupted
unfolding IsAnswer
written-calm x calm still is =
    let broken : x.reply ≡ reply.Fail Intr = subst (IsAnswer x.reply) is (answer-is x.reply) in
    let waits = calm.waits broken in cc

-- what comes behind the patches of a process: it is run, memory of it is read, or its files are closed
abbrev pub Patches : ℕ → Stage → Type 0
Patches place (Running at) = at ≡ place
Patches place (ReadingText at l from len) = at ≡ place
Patches place (Closing at GoOn) = at ≡ place
Patches place _ = ⊥

-- ---- truss with functions

module _ (o : Options) (has : has_functions o ≡ true) where
  pub next-beside : (u : TrussState) → u.options ≡ o → next_function_call_of u ≡ call_beside u u.stage u.aside
  unfolding next_function_call_of
  next-beside u is = ap (λ b. cond b (call_beside u u.stage u.aside) (next_call_of u)) (ap has_functions is ∙ has)

  pub fed-beside : (u : TrussState) (r : Reply) → u.options ≡ o → fed_functions u r ≡ with_aside_answered u r u.aside
  unfolding fed_functions
  fed-beside u r is = ap (λ b. cond b (with_aside_answered u r u.aside) (fed u r)) (ap has_functions is ∙ has)

  pub next-staged : (u : TrussState) (stage : Stage) → u.options ≡ o → u.aside ≡ Nothing → u.stage ≡ stage
      → next_function_call_of u ≡ function_call_of u stage
  unfolding call_beside
  next-staged u stage is idle at =
      next-beside u is ∙ ap (call_beside u u.stage) idle ∙ ap (function_call_of u) at

  pub fed-staged : (u : TrussState) (r : Reply) (stage : Stage) → u.options ≡ o → u.aside ≡ Nothing → u.stage ≡ stage
      → fed_functions u r ≡ with_function_reply u r stage
  unfolding with_aside_answered
  fed-staged u r stage is idle at =
      fed-beside u r is ∙ ap (with_aside_answered u r) idle ∙ ap (with_function_reply u r) at

  -- ---- the files are closed

  module _ (place : ℕ) (lv : Bool) (rest : List Traced) where
    -- Truss closes the files of this process, which stands at the place; without it these are traced.
    pub record Shuts (t : Traced) (u : TrussState) : Type 0 where
      pub options : u.options ≡ o
      pub leaving : u.leaving ≡ lv
      pub within : place < length u.traced
      pub idle : u.aside ≡ Nothing
      pub stage : u.stage ≡ Closing place GoOn
      pub here : traced_at u place ≡ t
      pub others : remove u.traced place ≡ rest

    -- what is so when the last one is closed
    pub record Shut (v : TrussState) : Type 0 where
      pub options : v.options ≡ o
      pub leaving : v.leaving ≡ lv
      pub idle : v.aside ≡ Nothing
      pub traced : v.traced ≡ rest

    close-call : (t : Traced) (u : TrussState) (c : Call) → Shuts t u → next_function_call_of u ≡ Some c
        → c ≡ call.Close (last_handle t)
    unfolding function_call_of call_of
    close-call t u c w next =
        same_Some c (call.Close (last_handle t))
        (sym next ∙ next-staged u (Closing place GoOn) w.options w.idle w.stage
        ∙ ap (λ (v : Traced). Some (call.Close (last_handle v))) w.here)

    close-fed : (t : Traced) (u : TrussState) (r : Reply) → Shuts t u
        → fed_functions u r ≡ closed_or_removed u place GoOn (without_last t)
    unfolding with_function_reply with_reply with_closed
    close-fed t u r w =
        fed-staged u r (Closing place GoOn) w.options w.idle w.stage
        ∙ ap (λ (v : Traced). closed_or_removed u place GoOn (without_last v)) w.here

    lost : (t v : Traced) (u : TrussState) (r : Reply) → Shuts t u → without_last t ≡ Some v
        → Shuts v (fed_functions u r)
    lost t v u r w left =
        subst (Shuts v) (sym (close-fed t u r w ∙ ap (closed_or_removed u place GoOn) left)) (record {
          options = w.options;
          leaving = w.leaving;
          within = omega (arith, w.within, length-set u.traced place v);
          idle = w.idle;
          stage = w.stage;
          here = set-at u.traced place v w.within;
          others = remove-set u.traced place v ∙ w.others;
        })

    module _ (Then : Later)
        (ends : (v : TrussState) (xs : List Exchange) → Shut v → MakesFunctionCalls (with_going_on v) xs → All IsCalm xs
        → Then xs) where
      last : (t : Traced) (u : TrussState) (r : Reply) (xs : List Exchange) → Shuts t u → without_last t ≡ None
          → MakesFunctionCalls (fed_functions u r) xs → All IsCalm xs → Then xs
      unfolding after_closing
      last t u r xs w none made calm =
          ends (without_traced u place) xs
          (record { options = w.options; leaving = w.leaving; idle = w.idle; traced = w.others })
          (subst (λ (v : TrussState). MakesFunctionCalls v xs)
          (close-fed t u r w ∙ ap (closed_or_removed u place GoOn) none) made) calm

      close-fields : (t : Traced) (memory lstatus status : Option ℕ) (u : TrussState) (xs : List Exchange)
          → Shuts (record t { memory = memory; lstatus = lstatus; status = status }) u → MakesFunctionCalls u xs
          → All IsCalm xs
          → Come (close_calls (record t { memory = memory; lstatus = lstatus; status = status })) Then xs
      unfolding last_handle without_last
      close-fields t (Some m) l s u [] w made calm = tt
      close-fields t (Some m) l s u (x ∷ xs) w made calm = (
        close-call _ u x.call w made.0,
        close-fields t None l s (fed_functions u x.reply) xs (lost _ _ u x.reply w refl) made.1
            (All-tail IsCalm x xs calm),
      )
      close-fields t None (Some l) s u [] w made calm = tt
      close-fields t None (Some l) s u (x ∷ xs) w made calm = (
        close-call _ u x.call w made.0,
        close-fields t None None s (fed_functions u x.reply) xs (lost _ _ u x.reply w refl) made.1
            (All-tail IsCalm x xs calm),
      )
      close-fields t None None (Some s) u [] w made calm = tt
      close-fields t None None (Some s) u (x ∷ xs) w made calm = (
        close-call _ u x.call w made.0,
        close-fields t None None None (fed_functions u x.reply) xs (lost _ _ u x.reply w refl) made.1
            (All-tail IsCalm x xs calm),
      )
      close-fields t None None None u [] w made calm = tt
      close-fields t None None None u (x ∷ xs) w made calm =
          (close-call _ u x.call w made.0, last _ u x.reply xs w refl made.1 (All-tail IsCalm x xs calm))

      pub closes-come : (t : Traced) (u : TrussState) (xs : List Exchange) → Shuts t u → MakesFunctionCalls u xs
          → All IsCalm xs → Come (close_calls t) Then xs
      closes-come t u xs w made calm = close-fields t t.memory t.lstatus t.status u xs w made calm

  -- ---- breakpoints are patched

  module _ (place : ℕ) (lv : Bool) (rest : List Traced) (t : Traced) where
    -- Truss is at this stage; the process at the place has the files of that one, and these run flags.
    pub record At (fl : ℕ) (now : Stage) (u : TrussState) : Type 0 where
      pub options : u.options ≡ o
      pub leaving : u.leaving ≡ lv
      pub within : place < length u.traced
      pub stage : u.stage ≡ now
      pub files : SameFiles t (traced_at u place)
      pub flags : (marks_at u place).flags ≡ fl
      pub others : remove u.traced place ≡ rest

    -- the same where nothing comes before the call of the stage
    pub record Idle (fl : ℕ) (now : Stage) (u : TrussState) : Type 0 where
      pub at : At fl now u
      pub idle : u.aside ≡ Nothing

    pub idle-shuts : (fl : ℕ) (u : TrussState) → Idle fl (Closing place GoOn) u
        → Shuts place lv rest (traced_at u place) u
    idle-shuts fl u w =
        let a = w.at in
        record {
          options = a.options;
          leaving = a.leaving;
          within = a.within;
          idle = w.idle;
          stage = a.stage;
          here = refl;
          others = a.others;
        }

    pub at-marked : (fl gl : ℕ) (stage : Stage) (u : TrussState) (m : Marks) → m.flags ≡ gl → At fl stage u
        → At gl stage (with_marks u place m)
    at-marked fl gl stage u m same w =
        let v : Traced = record (traced_at u place) { marks = m } in
        let here : traced_at (with_marks u place m) place ≡ v = set-at u.traced place v w.within in
        let f = w.files in
        record {
          options = w.options;
          leaving = w.leaving;
          within = omega (arith, w.within, length-set u.traced place v);
          stage = w.stage;
          files = subst (SameFiles t) (sym here) (record {
            pid = f.pid;
            control = f.control;
            status = f.status;
            lstatus = f.lstatus;
            memory = f.memory;
          });
          flags = ap (λ (y : Traced). y.marks.flags) here ∙ same;
          others = remove-set u.traced place v ∙ w.others;
        }

    at-planted : (fl : ℕ) (stage : Stage) (a : Answer) (u : TrussState) (f : ℕ) → At fl stage u
        → At fl stage (planted_if u place f a)
    at-planted fl stage Accepted u f w = at-marked fl fl stage u _ w.flags w
    at-planted fl stage _ u f w = w

    idle-planted : (a : Answer) (u : TrussState) (f : ℕ) → u.aside ≡ Nothing → (planted_if u place f a).aside ≡ Nothing
    idle-planted Accepted u f idle = idle
    idle-planted _ u f idle = idle

    pub at-beside : (fl : ℕ) (stage : Stage) (u : TrussState) (a : Aside) → At fl stage u → At fl stage (with_aside u a)
    at-beside fl stage u a w = record {
      options = w.options;
      leaving = w.leaving;
      within = w.within;
      stage = w.stage;
      files = w.files;
      flags = w.flags;
      others = w.others;
    }

    pub at-closing : (fl : ℕ) (stage : Stage) (u : TrussState) → At fl stage u
        → At fl (Closing place GoOn) (with_closing u place)
    at-closing fl stage u w = record {
      options = w.options;
      leaving = w.leaving;
      within = w.within;
      stage = refl;
      files = w.files;
      flags = w.flags;
      others = w.others;
    }

    at-told : (fl : ℕ) (stage : Stage) (u : TrussState) → At fl stage u → At fl stage (with_pending_told u)
    unfolding with_pending_told
    at-told fl stage u w = record {
      options = w.options;
      leaving = w.leaving;
      within = w.within;
      stage = w.stage;
      files = w.files;
      flags = w.flags;
      others = w.others;
    }

    -- ---- a patch that was answered

    patch-on : (u : TrussState) (a : Aside) (stage : Stage) (answer : Answer) → Patches place stage → answer ≢ Gone
        → answer ≢ Interrupted → after_patch u a place stage answer ≡ with_aside u a
    unfolding after_patch
    patch-on u a (Running at) Accepted is lives calm = refl
    patch-on u a (Running at) (Refused errno) is lives calm = refl
    patch-on u a (Running at) Gone is lives calm = absurd (lives refl)
    patch-on u a (Running at) Interrupted is lives calm = absurd (calm refl)
    patch-on u a (ReadingText at l from len) Accepted is lives calm = refl
    patch-on u a (ReadingText at l from len) (Refused errno) is lives calm = refl
    patch-on u a (ReadingText at l from len) Gone is lives calm = absurd (lives refl)
    patch-on u a (ReadingText at l from len) Interrupted is lives calm = absurd (calm refl)
    patch-on u a (Closing at GoOn) Accepted is lives calm = refl
    patch-on u a (Closing at GoOn) (Refused errno) is lives calm = refl
    patch-on u a (Closing at GoOn) Gone is lives calm = absurd (lives refl)
    patch-on u a (Closing at GoOn) Interrupted is lives calm = absurd (calm refl)
    patch-on u a _ answer is lives calm = absurd is

    patch-ended : (fl : ℕ) (u : TrussState) (a : Aside) (stage : Stage) → Patches place stage → At fl stage u
        → u.aside ≡ Nothing → Idle fl (Closing place GoOn) (after_patch u a place stage Gone)
    unfolding after_patch with_pending_told
    patch-ended fl u a (Running at) is w idle =
        record { at = at-closing fl _ _ (at-told fl _ u w); idle = idle }
    patch-ended fl u a (ReadingText at l from len) is w idle =
        record { at = at-closing fl _ _ (at-told fl _ u w); idle = idle }
    patch-ended fl u a (Closing at GoOn) is w idle = record { at = at-closing fl _ u w; idle = idle }
    patch-ended fl u a _ is w idle = absurd is

    module _ (fl : ℕ) (stage : Stage) (patches : Patches place stage) (Then Ended : Later)
        (finish : (u : TrussState) (xs : List Exchange) → Idle fl stage u → MakesFunctionCalls u xs
        → All IsCalm xs → Then xs)
        (ended : (u : TrussState) (xs : List Exchange) → Idle fl (Closing place GoOn) u → MakesFunctionCalls u xs
        → All IsCalm xs → Ended xs) where
      -- a patch was made of this state, and then this is beside the stage
      record Patched (u : TrussState) (a : Aside) (r : Reply) (v : TrussState) : Type 0 where
        base : TrussState
        at : At fl stage base
        idle : base.aside ≡ Nothing
        is : v ≡ after_patch base a place stage (answer_of r)

      -- what comes then
      goes : (u : TrussState) (a : Aside) (x : Exchange) (v : TrussState) (xs : List Exchange) (Next : Type 0)
          → Patched u a x.reply v → answer_of x.reply ≢ Interrupted → MakesFunctionCalls v xs → All IsCalm xs
          → ((w : TrussState) → At fl stage w → w.aside ≡ a → MakesFunctionCalls w xs → Next)
          → IfEnded x.reply (Ended xs) Next
      goes u a x v xs Next p calm made all next =
          if-ended x.reply (Ended xs) Next
          (λ gone.
          let is : v ≡ after_patch p.base a place stage Gone =
          p.is ∙ ap (after_patch p.base a place stage) gone in
          ended (after_patch p.base a place stage Gone) xs
          (patch-ended fl p.base a stage patches p.at p.idle)
          (subst (λ (y : TrussState). MakesFunctionCalls y xs) is made) all)
          (λ lives.
          let is : v ≡ with_aside p.base a = p.is ∙ patch-on p.base a stage (answer_of x.reply) patches lives calm in
          next (with_aside p.base a) (at-beside fl stage p.base a p.at) refl
          (subst (λ (y : TrussState). MakesFunctionCalls y xs) is made))

      module _ (u : TrussState) (plants lifts : List Bool) (clear : Bool) (w : At fl stage u)
          (aside : u.aside ≡ Patching place plants lifts clear) where
        patch-next : (c : Call) → next_function_call_of u ≡ Some c
            → c ≡ patch_call o t.control (first_function plants) (first_function lifts)
        unfolding call_beside
        patch-next c next =
            let f = w.files in
            same_Some c (patch_call o t.control (first_function plants) (first_function lifts))
            (sym next ∙ next-beside u w.options
            ∙ ap (call_beside u u.stage) aside
            ∙ ap (λ p. Some (patch_call p (traced_at u place).control (first_function plants) (first_function lifts)))
            w.options
            ∙ ap (λ n. Some (patch_call o n (first_function plants) (first_function lifts))) f.control)

        patch-fed : (r : Reply)
            → fed_functions u r
            ≡ after_first (with_aside u Nothing) place plants lifts clear (answer_of r) (first_function plants)
            (first_function lifts)
        unfolding with_aside_answered with_patch_answered
        patch-fed r = fed-beside u r w.options ∙ ap (with_aside_answered u r) aside

      staged : (u : TrussState) (a : Aside) (answer : Answer) → u.stage ≡ stage
          → after_patch u a place u.stage answer ≡ after_patch u a place stage answer
      staged u a answer is = ap (λ st. after_patch u a place st answer) is

      -- ---- the fault

      clear-come : (u : TrussState) (plants lifts : List Bool) (clear : Bool) (xs : List Exchange) → At fl stage u
          → u.aside ≡ patching place plants lifts clear → first_function plants ≡ None → first_function lifts ≡ None
          → MakesFunctionCalls u xs → All IsCalm xs → ComeWhileItLives (clear_calls t clear) Then Ended xs
      unfolding patching
      clear-come u plants lifts false xs w aside none_p none_l made all =
          finish u xs (record {
            at = w;
            idle = aside
                ∙ ap (λ p. cond (is_some p || is_some (first_function lifts) || false)
                (Patching place plants lifts false) Nothing) none_p
                ∙ ap (λ p. cond (false || is_some p || false) (Patching place plants lifts false) Nothing) none_l;
          }) made all
      clear-come u plants lifts true [] w aside none_p none_l made all = tt
      clear-come u plants lifts true (x ∷ xs) w aside none_p none_l made all =
          let busy : u.aside ≡ Patching place plants lifts true =
          aside
          ∙ ap (λ p. cond (is_some p || is_some (first_function lifts) || true) (Patching place plants lifts true)
          Nothing) none_p
          ∙ ap (λ p. cond (false || is_some p || true) (Patching place plants lifts true) Nothing) none_l in
          let own : x.call ≡ patch_call o t.control None None =
          patch-next u plants lifts true w busy x.call made.0
          ∙ ap (λ p. patch_call o t.control p (first_function lifts)) none_p
          ∙ ap (patch_call o t.control None) none_l in
          let s : TrussState = with_aside u Nothing in
          let p : Patched u Nothing x.reply (fed_functions u x.reply) =
          record {
            base = s;
            at = at-beside fl stage u Nothing w;
            idle = refl;
            is = patch-fed u plants lifts true w busy x.reply
                ∙ ap (λ f. after_first s place plants lifts true (answer_of x.reply) f (first_function lifts)) none_p
                ∙ ap (after_first s place plants lifts true (answer_of x.reply) None) none_l
                ∙ staged s Nothing (answer_of x.reply) w.stage;
          } in (
            own,
            goes u Nothing x (fed_functions u x.reply) xs (Then xs) p
                (written-calm x (All-head IsCalm x xs all) (ap may_wait own)) made.1 (All-tail IsCalm x xs all)
                (λ v at idle made_v. finish v xs (record { at = at; idle = idle }) made_v (All-tail IsCalm x xs all)),
          )

      -- ---- what is lifted

      abbrev Lifts : List Bool → Bool → List ℕ → List Exchange → Type 0
      Lifts lifts clear fs =
          ComeWhileItLives (map (lift_call o t.control) fs) (ComeWhileItLives (clear_calls t clear) Then Ended) Ended

      lifts-by : (xs : List Exchange) (first : Option ℕ) (u : TrussState) (plants lifts : List Bool) (clear : Bool)
          → first_function lifts ≡ first → At fl stage u → u.aside ≡ patching place plants lifts clear
          → first_function plants ≡ None → MakesFunctionCalls u xs → All IsCalm xs
          → Lifts lifts clear (functions_in lifts) xs
      unfolding patching
      lifts-by xs None u plants lifts clear is w aside none_p made all =
          subst (λ fs. Lifts lifts clear fs xs) (sym (functions-none lifts is))
          (clear-come u plants lifts clear xs w aside none_p is made all)
      lifts-by [] (Some f) u plants lifts clear is w aside none_p made all =
          subst (λ fs. Lifts lifts clear fs []) (sym (functions-first lifts f is)) tt
      lifts-by (x ∷ xs) (Some f) u plants lifts clear is w aside none_p made all =
          let busy : u.aside ≡ Patching place plants lifts clear =
          aside
          ∙ ap (λ p. cond (is_some p || is_some (first_function lifts) || clear) (Patching place plants lifts clear)
          Nothing) none_p
          ∙ ap (λ p. cond (false || is_some p || clear) (Patching place plants lifts clear) Nothing) is in
          let own : x.call ≡ lift_call o t.control f =
          patch-next u plants lifts clear w busy x.call made.0
          ∙ ap (λ p. patch_call o t.control p (first_function lifts)) none_p
          ∙ ap (patch_call o t.control None) is in
          let s : TrussState = with_aside u Nothing in
          let m : Marks = record (marks_at s place) { planted = without_function (marks_at s place).planted f } in
          let a : Aside = patching place plants (without_function lifts f) clear in
          let p : Patched u a x.reply (fed_functions u x.reply) =
          record {
            base = without_planted s place f;
            at = at-marked fl fl stage s m w.flags (at-beside fl stage u Nothing w);
            idle = refl;
            is = patch-fed u plants lifts clear w busy x.reply
                ∙ ap (λ g. after_first s place plants lifts clear (answer_of x.reply) g (first_function lifts)) none_p
                ∙ ap (after_first s place plants lifts clear (answer_of x.reply) None) is
                ∙ ap (λ st. after_patch (without_planted s place f) a place st (answer_of x.reply)) w.stage;
          } in
          subst (λ fs. Lifts lifts clear fs (x ∷ xs)) (sym (functions-first lifts f is)) (
            own,
            goes u a x (fed_functions u x.reply) xs (Lifts lifts clear (functions_in (without_function lifts f)) xs) p
                (written-calm x (All-head IsCalm x xs all) (ap may_wait own)) made.1 (All-tail IsCalm x xs all)
                (λ v at is_a made_v.
                lifts-by xs (first_function (without_function lifts f)) v plants (without_function lifts f) clear
                refl at is_a none_p made_v (All-tail IsCalm x xs all)),
          )

      -- ---- what is planted

      abbrev Plants : List Bool → List Bool → Bool → List ℕ → List Exchange → Type 0
      Plants plants lifts clear fs =
          ComeWhileItLives (map (plant_call o t.control) fs) (Lifts lifts clear (functions_in lifts)) Ended

      plants-by : (xs : List Exchange) (first : Option ℕ) (u : TrussState) (plants lifts : List Bool) (clear : Bool)
          → first_function plants ≡ first → At fl stage u → u.aside ≡ patching place plants lifts clear
          → MakesFunctionCalls u xs → All IsCalm xs → Plants plants lifts clear (functions_in plants) xs
      unfolding patching
      plants-by xs None u plants lifts clear is w aside made all =
          subst (λ fs. Plants plants lifts clear fs xs) (sym (functions-none plants is))
          (lifts-by xs (first_function lifts) u plants lifts clear refl w aside is made all)
      plants-by [] (Some f) u plants lifts clear is w aside made all =
          subst (λ fs. Plants plants lifts clear fs []) (sym (functions-first plants f is)) tt
      plants-by (x ∷ xs) (Some f) u plants lifts clear is w aside made all =
          let busy : u.aside ≡ Patching place plants lifts clear =
          aside
          ∙ ap (λ p. cond (is_some p || is_some (first_function lifts) || clear) (Patching place plants lifts clear)
          Nothing) is in
          let own : x.call ≡ plant_call o t.control f =
          patch-next u plants lifts clear w busy x.call made.0
          ∙ ap (λ p. patch_call o t.control p (first_function lifts)) is in
          let s : TrussState = with_aside u Nothing in
          let a : Aside = patching place (without_function plants f) lifts clear in
          let p : Patched u a x.reply (fed_functions u x.reply) =
          record {
            base = planted_if s place f (answer_of x.reply);
            at = at-planted fl stage (answer_of x.reply) s f (at-beside fl stage u Nothing w);
            idle = idle-planted (answer_of x.reply) s f refl;
            is = patch-fed u plants lifts clear w busy x.reply
                ∙ ap (λ g. after_first s place plants lifts clear (answer_of x.reply) g (first_function lifts)) is
                ∙ ap (λ st. after_patch (planted_if s place f (answer_of x.reply)) a place st (answer_of x.reply))
                w.stage;
          } in
          subst (λ fs. Plants plants lifts clear fs (x ∷ xs)) (sym (functions-first plants f is)) (
            own,
            goes u a x (fed_functions u x.reply) xs
                (Plants plants lifts clear (functions_in (without_function plants f)) xs) p
                (written-calm x (All-head IsCalm x xs all) (ap may_wait own)) made.1 (All-tail IsCalm x xs all)
                (λ v at is_a made_v.
                plants-by xs (first_function (without_function plants f)) v (without_function plants f) lifts clear
                refl at is_a made_v (All-tail IsCalm x xs all)),
          )

      -- all patches of a process come next, and then what comes behind them
      pub patches-come : (u : TrussState) (xs : List Exchange) (plants lifts : List Bool) (clear : Bool) → At fl stage u
          → u.aside ≡ patching place plants lifts clear → MakesFunctionCalls u xs → All IsCalm xs
          → ComeWhileItLives
          (plant_calls o t.control plants ++ (lift_calls o t.control lifts ++ clear_calls t clear)) Then Ended xs
      patches-come u xs plants lifts clear w aside made all =
          come-both (plant_calls o t.control plants) (lift_calls o t.control lifts ++ clear_calls t clear) Then Ended xs
          (come-weaker (plant_calls o t.control plants) (Lifts lifts clear (functions_in lifts))
          (ComeWhileItLives (lift_calls o t.control lifts ++ clear_calls t clear) Then Ended) Ended xs
          (come-both (lift_calls o t.control lifts) (clear_calls t clear) Then Ended)
          (plants-by xs (first_function plants) u plants lifts clear refl w aside made all))
