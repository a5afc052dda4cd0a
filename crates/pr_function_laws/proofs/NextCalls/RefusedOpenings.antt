use Rattle.std.proofs.Common.{◌≡◌, ◌<◌, ◌||◌, ◌++◌, ℕ, Bool, true, false, cond, is_some, Option, Some, None, List, [], ◌∷◌, length, map, refl, sym, subst, ap, ◌∙◌, arith}
use Rattle.std.proofs.lemmas.List.{length-set}
use Rattle.std.proofs.lemmas.Option.{same_Some}
use Rattle.pr_line.specs.declared.options.Options.{Options}
use Rattle.pr_model.specs.declared.calls.Call.TheVariants as call
use Rattle.pr_model.specs.declared.calls.Reply.{Reply}
use Rattle.pr_num.specs.declared.errnos.Errno.{Errno}
use Rattle.pr_truss.specs.Asides.{marks_at, patching, with_aside, with_lifts}
use Rattle.pr_truss.specs.Closings.{closed_or_removed, with_closed}
use Rattle.pr_truss.specs.Feeding.{with_reply}
use Rattle.pr_truss.specs.FunctionCalls.{call_beside, function_call_of, lift_call, patch_call}
use Rattle.pr_truss.specs.FunctionFeeding.{after_first, after_patch, fed_functions, with_aside_answered, with_function_reply, with_patch_answered, with_refused_opening, without_planted}
use Rattle.pr_truss.specs.Marks.{first_function, has_functions, no_functions, without_function}
use Rattle.pr_truss.specs.NextCalls.{call_of}
use Rattle.pr_truss.specs.Openings.{with_refused_step}
use Rattle.pr_truss.specs.Processes.{last_handle, without_last}
use Rattle.pr_truss.specs.Replies.{answer_of}
use Rattle.pr_truss.specs.Trusses.{TrussState, traced_at}
use Rattle.pr_truss.specs.declared.asides.Aside.{Aside}
use Rattle.pr_truss.specs.declared.asides.Aside.TheVariants.{Nothing, Patching}
use Rattle.pr_truss.specs.declared.marks.Marks.{Marks}
use Rattle.pr_truss.specs.declared.processes.Traced.{Traced}
use Rattle.pr_truss.specs.declared.stages.AfterClosing.TheVariants.{OpenNext}
use Rattle.pr_truss.specs.declared.stages.Stage.TheVariants.{Closing}
use Rattle.pr_truss_laws.proofs.Files.HeldLemmas.{set-at}
use Rattle.pr_truss_laws.proofs.Soon.LookLemmas.{SameFiles, same-files}
use Rattle.pr_truss_laws.specs.Exchanges.{Exchange}
use Rattle.pr_function_laws.proofs.NextCalls.ComingLemmas.{functions-first, functions-none}
use Rattle.pr_function_laws.proofs.NextCalls.PatchCalls.{fed-beside, fed-staged, next-beside, next-staged, same-closes}
use Rattle.pr_function_laws.specs.Coming.{Anything, Come, close_calls, functions_in, lift_calls}
use Rattle.pr_function_laws.specs.Runs.{MakesFunctionCalls}

-- What truss calls next where the opening of a process was refused after it began to plant its functions there.

module _ (o : Options) (has : has_functions o ≡ true) (q : ℕ) where
  -- ---- the files are closed

  -- truss closes the files of this process, which stands at the place, and then opens the next one
  record Shuts (t : Traced) (u : TrussState) : Type 0 where
    options : u.options ≡ o
    within : q < length u.traced
    idle : u.aside ≡ Nothing
    stage : u.stage ≡ Closing q OpenNext
    here : traced_at u q ≡ t

  close-call : (t : Traced) (u : TrussState) (x : Exchange) (xs : List Exchange) → Shuts t u
      → MakesFunctionCalls u (x ∷ xs)
      → x.call ≡ call.Close (last_handle t)
  unfolding function_call_of call_of
  close-call t u x xs w made =
      same_Some x.call (call.Close (last_handle t))
      (sym made.0 ∙ next-staged o has u (Closing q OpenNext) w.options w.idle w.stage
      ∙ ap (λ (v : Traced). Some (call.Close (last_handle v))) w.here)

  lost : (t v : Traced) (u : TrussState) (r : Reply) → Shuts t u → without_last t ≡ Some v
      → Shuts v (fed_functions u r)
  unfolding with_function_reply with_reply with_closed
  lost t v u r w left =
      subst (Shuts v)
      (sym (fed-staged o has u r (Closing q OpenNext) w.options w.idle w.stage
      ∙ ap (λ (y : Traced). closed_or_removed u q OpenNext (without_last y)) w.here
      ∙ ap (closed_or_removed u q OpenNext) left)) (record {
        options = w.options;
        within = omega (arith, w.within, length-set u.traced q v);
        idle = w.idle;
        stage = w.stage;
        here = set-at u.traced q v w.within;
      })

  close-fields : (t : Traced) (memory lstatus status : Option ℕ) (u : TrussState) (xs : List Exchange)
      → Shuts (record t { memory = memory; lstatus = lstatus; status = status }) u → MakesFunctionCalls u xs
      → Come (close_calls (record t { memory = memory; lstatus = lstatus; status = status })) Anything xs
  unfolding last_handle without_last
  close-fields t (Some m) l s u [] w made = tt
  close-fields t (Some m) l s u (x ∷ xs) w made = (
    close-call _ u x xs w made,
    close-fields t None l s (fed_functions u x.reply) xs (lost _ _ u x.reply w refl) made.1,
  )
  close-fields t None (Some l) s u [] w made = tt
  close-fields t None (Some l) s u (x ∷ xs) w made = (
    close-call _ u x xs w made,
    close-fields t None None s (fed_functions u x.reply) xs (lost _ _ u x.reply w refl) made.1,
  )
  close-fields t None None (Some s) u [] w made = tt
  close-fields t None None (Some s) u (x ∷ xs) w made = (
    close-call _ u x xs w made,
    close-fields t None None None (fed_functions u x.reply) xs (lost _ _ u x.reply w refl) made.1,
  )
  close-fields t None None None u [] w made = tt
  close-fields t None None None u (x ∷ xs) w made = (close-call _ u x xs w made, tt)

  -- ---- what was planted is lifted before

  -- truss gives up the process at this place, which has the files of that one, and has this beside it
  record IsGivenUp (t : Traced) (beside : Aside) (u : TrussState) : Type 0 where
    options : u.options ≡ o
    within : q < length u.traced
    aside : u.aside ≡ beside
    stage : u.stage ≡ Closing q OpenNext
    files : SameFiles t (traced_at u q)

  closes : (t : Traced) (u : TrussState) (xs : List Exchange) → IsGivenUp t Nothing u → MakesFunctionCalls u xs
      → Come (close_calls t) Anything xs
  closes t u xs w made =
      let v : Traced = traced_at u q in
      subst (λ cs. Come cs Anything xs) (same-closes t v w.files)
      (close-fields v v.memory v.lstatus v.status u xs
      (record { options = w.options; within = w.within; idle = w.aside; stage = w.stage; here = refl }) made)

  abbrev lifting : List Bool → Aside
  lifting set = patching q no_functions set false

  some-lifting : (set : List Bool) (f : ℕ) → first_function set ≡ Some f
      → lifting set ≡ Patching q no_functions set false
  unfolding patching
  some-lifting set f is =
      ap (λ p. cond (is_some (first_function no_functions) || is_some p || false)
      (Patching q no_functions set false) Nothing) is

  none-lifting : (set : List Bool) → first_function set ≡ None → lifting set ≡ Nothing
  unfolding patching
  none-lifting set is =
      ap (λ p. cond (is_some (first_function no_functions) || is_some p || false)
      (Patching q no_functions set false) Nothing) is

  lift-fed : (t : Traced) (set : List Bool) (f : ℕ) (u : TrussState) (r : Reply) → first_function set ≡ Some f
      → IsGivenUp t (Patching q no_functions set false) u
      → IsGivenUp t (lifting (without_function set f)) (fed_functions u r)
  unfolding with_aside_answered with_patch_answered after_patch
  lift-fed t set f u r is w =
      let s : TrussState = with_aside u Nothing in
      let rest : Aside = lifting (without_function set f) in
      let m : Marks = record (marks_at s q) { planted = without_function (marks_at s q).planted f } in
      let v : Traced = record (traced_at u q) { marks = m } in
      let here : traced_at (without_planted s q f) q ≡ v = set-at u.traced q v w.within in
      let g = w.files in
      subst (IsGivenUp t rest)
      (sym (fed-beside o has u r w.options ∙ ap (with_aside_answered u r) w.aside
      ∙ ap (after_first s q no_functions set false (answer_of r) None) is
      ∙ ap (λ st. after_patch (without_planted s q f) rest q st (answer_of r)) w.stage)) (record {
        options = w.options;
        within = omega (arith, w.within, length-set u.traced q v);
        aside = refl;
        stage = w.stage;
        files = subst (SameFiles t) (sym here) (record {
          pid = g.pid;
          control = g.control;
          status = g.status;
          lstatus = g.lstatus;
          memory = g.memory;
        });
      })

  lift-called : (t : Traced) (set : List Bool) (f : ℕ) (u : TrussState) (x : Exchange) (xs : List Exchange)
      → first_function set ≡ Some f → IsGivenUp t (Patching q no_functions set false) u → MakesFunctionCalls u (x ∷ xs)
      → x.call ≡ lift_call o t.control f
  unfolding call_beside
  lift-called t set f u x xs is w made =
      let g = w.files in
      same_Some x.call (patch_call o t.control None (Some f))
      (sym made.0 ∙ next-beside o has u w.options ∙ ap (call_beside u u.stage) w.aside
      ∙ ap (λ p. Some (patch_call p (traced_at u q).control None (first_function set))) w.options
      ∙ ap (λ n. Some (patch_call o n None (first_function set))) g.control
      ∙ ap (λ p. Some (patch_call o t.control None p)) is)

  lifts-by : (xs : List Exchange) (first : Option ℕ) (t : Traced) (set : List Bool) (u : TrussState)
      → first_function set ≡ first → IsGivenUp t (lifting set) u → MakesFunctionCalls u xs
      → Come (map (lift_call o t.control) (functions_in set) ++ close_calls t) Anything xs
  lifts-by xs None t set u is w made =
      subst (λ fs. Come (map (lift_call o t.control) fs ++ close_calls t) Anything xs) (sym (functions-none set is))
      (closes t u xs (subst (λ a. IsGivenUp t a u) (none-lifting set is) w) made)
  lifts-by [] (Some f) t set u is w made =
      subst (λ fs. Come (map (lift_call o t.control) fs ++ close_calls t) Anything [])
      (sym (functions-first set f is)) tt
  lifts-by (x ∷ xs) (Some f) t set u is w made =
      let busy : IsGivenUp t (Patching q no_functions set false) u =
      subst (λ a. IsGivenUp t a u) (some-lifting set f is) w in
      subst (λ fs. Come (map (lift_call o t.control) fs ++ close_calls t) Anything (x ∷ xs))
      (sym (functions-first set f is)) (
        lift-called t set f u x xs is busy made,
        lifts-by xs (first_function (without_function set f)) t (without_function set f) (fed_functions u x.reply) refl
            (lift-fed t set f u x.reply is busy) made.1,
      )

  -- ---- from the refusal on

  module _ (s : TrussState) (xs : List Exchange) (options : s.options ≡ o) (within : q < length s.traced)
      (idle : s.aside ≡ Nothing) where
    pub gone-closes : (errno : Errno) → MakesFunctionCalls (with_refused_step s q errno) xs
        → Come (close_calls (traced_at s q)) Anything xs
    unfolding with_refused_step
    gone-closes errno made =
        closes (traced_at s q) _ xs
        (record { options = options; within = within; aside = idle; stage = refl; files = same-files (traced_at s q) })
        made

    pub refused-lifts : (errno : Errno) (set : List Bool) (control : ℕ) → (marks_at s q).planted ≡ set
        → (traced_at s q).control ≡ control → MakesFunctionCalls (with_refused_opening s q errno) xs
        → Come (lift_calls o control set ++ close_calls (traced_at s q)) Anything xs
    unfolding with_refused_opening with_refused_step with_lifts
    refused-lifts errno set control planted own made =
        let t : Traced = traced_at s q in
        subst (λ n. Come (lift_calls o n set ++ close_calls t) Anything xs) own
        (subst (λ fs. Come (lift_calls o t.control fs ++ close_calls t) Anything xs) planted
        (lifts-by xs (first_function t.marks.planted) t t.marks.planted _ refl
        (record { options = options; within = within; aside = refl; stage = refl; files = same-files t }) made))
