use Rattle.std.proofs.Common.{◌≡◌, ◌≢◌, ◌==◌, ◌-◌, ◌++◌, ℕ, Bool, true, false, cond, nat_lt, not, is_some, Option, Some, None, List, [], ◌∷◌, refl, sym, subst, ap, ◌∙◌, arith}
use Rattle.std.proofs.lemmas.Bool.{eqb-false, ltb-false}
use Rattle.std.proofs.lemmas.List.{length-set}
use Rattle.std.proofs.lemmas.List.Elements.{All-head, All-tail}
use Rattle.std.proofs.lemmas.Option.{none-some, same_Some}
use Rattle.std.specs.List.{All}
use Rattle.pr_line.specs.Events.{event_of}
use Rattle.pr_line.specs.Selections.{is_selected}
use Rattle.pr_line.specs.declared.events.Event.{Event}
use Rattle.pr_line.specs.declared.options.Options.{Options}
use Rattle.pr_model.specs.Replies.{bytes_in, number_of}
use Rattle.pr_model.specs.declared.calls.Call.{Call}
use Rattle.pr_model.specs.declared.calls.Call.TheVariants as call
use Rattle.pr_model.specs.declared.calls.Reply.{Reply}
use Rattle.pr_num.specs.declared.messages.Message.TheVariants as message
use Rattle.pr_rec.specs.declared.lwps.LwpStatus.{LwpStatus}
use Rattle.pr_truss.specs.Asides.{marks_at, patching, with_lifts, with_marks, with_patches}
use Rattle.pr_truss.specs.Closings.{with_closing}
use Rattle.pr_truss.specs.FunctionCalls.{function_call_of}
use Rattle.pr_truss.specs.FunctionEvents.{fresh_event}
use Rattle.pr_truss.specs.FunctionFeeding.{fed_functions, with_function_reply}
use Rattle.pr_truss.specs.FunctionStops.{after_function_text, with_function_run_answered, with_function_text_answered}
use Rattle.pr_truss.specs.Marks.{has_functions}
use Rattle.pr_truss.specs.Messages.{message_call}
use Rattle.pr_truss.specs.NextCalls.{call_of}
use Rattle.pr_truss.specs.Records.{child_of, is_on_event}
use Rattle.pr_truss.specs.Replies.{answer_of}
use Rattle.pr_truss.specs.Stops.{after_text, asked_range, followed_child, text_of, with_child_or, with_event, with_event_over, with_event_shown, with_old_stop_over, with_run_answered, with_stop, with_stop_over, with_text_answered, with_text_or_shown}
use Rattle.pr_truss.specs.Trusses.{TrussState, traced_at, with_stage, with_traced}
use Rattle.pr_truss.specs.declared.marks.Marks.{Marks}
use Rattle.pr_truss.specs.declared.processes.Traced.{Traced}
use Rattle.pr_truss.specs.declared.replies.Answer.{Answer}
use Rattle.pr_truss.specs.declared.replies.Answer.TheVariants.{Accepted, Interrupted, Gone, Refused}
use Rattle.pr_truss.specs.declared.stages.AfterClosing.TheVariants.{GoOn}
use Rattle.pr_truss.specs.declared.stages.Stage.{Stage}
use Rattle.pr_truss.specs.declared.stages.Stage.TheVariants.{ReadingText, Running, Closing}
use Rattle.pr_truss_laws.proofs.Files.HeldLemmas.{set-at}
use Rattle.pr_truss_laws.proofs.Soon.LookLemmas.{SameFiles}
use Rattle.pr_truss_laws.specs.Exchanges.{Exchange}
use Rattle.pr_function_laws.proofs.NextCalls.ComingLemmas.{come-three, if-ended}
use Rattle.pr_function_laws.proofs.NextCalls.PatchCalls.{At, Idle, Patches, at-beside, at-closing, at-marked, closes-come, fed-staged, idle-shuts, next-staged, patches-come, remove-set, same-closes, written-calm}
use Rattle.pr_function_laws.specs.Coming.{Anything, Come, ComeWhileItLives, Later, close_calls, lift_calls, plant_calls}
use Rattle.pr_function_laws.specs.Runs.{MakesFunctionCalls}
use Rattle.pr_function_laws.specs.Soon.{IsCalm, may_wait}
use Rattle.pr_function_laws.specs.Treated.{run_calls, text_calls, text_from}

-- What truss calls next where it has looked at an event, and runs the process.

-- ---- a stop that was looked at

-- no child is followed
pub event-over-is : (u : TrussState) (place : ℕ) (l : LwpStatus) → u.options.follow ≡ false
    → with_event_over u place l ≡ with_stop_over u place
unfolding with_event_over followed_child
event-over-is u place l off = ap (λ b. with_child_or u place (cond b (child_of l) None)) off

-- a new event is looked at as one
pub stop-is : (u : TrussState) (place : ℕ) (l : LwpStatus) (e : Event) → (traced_at u place).old ≡ 0
    → (traced_at u place).seen ≡ false → event_of l ≡ Some e
    → with_stop u place l ≡ with_event u place l (Some e)
unfolding with_stop is_on_event
stop-is u place l e none unseen stands =
    let over : TrussState = with_stop_over u place in
    let older : TrussState = with_old_stop_over u place in
    let new : TrussState = with_event u place l (event_of l) in
    ap (λ (v : Option Event). cond (not (is_some v)) over (cond (nat_lt 0 (traced_at u place).old) older
    (cond (traced_at u place).seen over new))) stands
    ∙ ap (λ n. cond (nat_lt 0 n) older (cond (traced_at u place).seen over new)) none
    ∙ ap (λ b. cond b over new) unseen
    ∙ ap (with_event u place l) stands

-- a stop that is no new event is over, or one less of those that stood before truss came
pub stale-stop : (P : TrussState → Type 0) (u : TrussState) (place : ℕ) (l : LwpStatus)
    → fresh_event (traced_at u place) l ≡ None → P (with_stop_over u place) → P (with_old_stop_over u place)
    → P (with_stop u place l)
unfolding with_stop is_on_event fresh_event
stale-stop P u place l stale over older =
    by (event_of l) refl (nat_lt 0 (traced_at u place).old) refl ((traced_at u place).old == 0) refl
    (traced_at u place).seen refl
  where
    by : (e : Option Event) → event_of l ≡ e → (old : Bool) → nat_lt 0 (traced_at u place).old ≡ old → (new : Bool)
        → ((traced_at u place).old == 0) ≡ new → (seen : Bool) → (traced_at u place).seen ≡ seen
        → P
        (cond (not (is_some e)) (with_stop_over u place)
        (cond old (with_old_stop_over u place) (cond seen (with_stop_over u place) (with_event u place l e))))
    by None is old is_old new is_new seen is_seen = over
    by (Some e) is true is_old new is_new seen is_seen = older
    by (Some e) is false is_old new is_new true is_seen = over
    by (Some e) is false is_old true is_new false is_seen =
        absurd (none-some e
        (sym stale
        ∙ ap (λ b. cond b (cond (traced_at u place).seen None (event_of l)) None) is_new
        ∙ ap (λ b. cond b None (event_of l)) is_seen ∙ is))
    by (Some e) is false is_old false is_new false is_seen =
        absurd (omega (arith, ltb-false 0 (traced_at u place).old is_old, eqb-false (traced_at u place).old 0 is_new))

-- where truss stays, the process is run then
pub over-runs : (u : TrussState) (place : ℕ) → u.leaving ≡ false
    → with_stop_over u place ≡ with_stage u (Running place)
unfolding with_stop_over
over-runs u place off = ap (λ b. cond b (with_closing u place) (with_stage u (Running place))) off

-- a look at an event leaves what truss knows of its processes
pub event-traced : (u : TrussState) (place : ℕ) (l : LwpStatus) (e : Event) → u.options.follow ≡ false
    → u.leaving ≡ false → (with_event u place l (Some e)).traced ≡ u.traced
unfolding with_event_shown
event-traced u place l e off stays = by (is_selected u.options e) (asked_range u.options e)
  where
    over : (v : TrussState) → v.options.follow ≡ false → v.leaving ≡ false
        → (with_event_over v place l).traced ≡ v.traced
    over v off_v stays_v =
        ap (λ (y : TrussState). y.traced) (event-over-is v place l off_v ∙ over-runs v place stays_v)

    by : (b : Bool) (range : Option (ℕ × ℕ))
        → (cond b (with_text_or_shown u place l range) (with_event_over u place l)).traced ≡ u.traced
    by true None = over (with_event_shown u place l None) off stays
    by true (Some range) = refl
    by false range = over u off stays

-- ---- one event

module _ (o : Options) (has : has_functions o ≡ true) (off : o.follow ≡ false) (place : ℕ) (rest : List Traced)
    (t : Traced) where
  abbrev pub Now : ℕ → Stage → TrussState → Type 0
  Now = Idle o has place false rest t

  abbrev pub closes : Later
  closes = Come (close_calls t) Anything

  -- the process has ended: its files are closed
  ended-closes : (fl : ℕ) (u : TrussState) (xs : List Exchange) → Now fl (Closing place GoOn) u
      → MakesFunctionCalls u xs
      → All IsCalm xs → closes xs
  ended-closes fl u xs w made calm =
      let a = w.at in
      subst (λ cs. Come cs Anything xs) (same-closes t (traced_at u place) a.files)
      (closes-come o has place false rest Anything (λ v ys shut made_v calm_v. tt) (traced_at u place) u
      xs (idle-shuts o has place false rest t fl u w) made calm)

  staged : (fl : ℕ) (old now : Stage) (u : TrussState) → Now fl old u → Now fl now (with_stage u now)
  staged fl old now u w =
      let a = w.at in
      record {
        at = record {
          options = a.options;
          leaving = a.leaving;
          within = a.within;
          stage = refl;
          files = a.files;
          flags = a.flags;
          others = a.others;
        };
        idle = w.idle;
      }

  reported : (fl : ℕ) (now : Stage) (u : TrussState) (l : LwpStatus) (text : Option (List ℕ × Bool)) → Now fl now u
      → Now fl now (with_event_shown u place l text)
  unfolding with_event_shown
  reported fl now u l text w =
      let a = w.at in
      record {
        at = record {
          options = a.options;
          leaving = a.leaving;
          within = a.within;
          stage = a.stage;
          files = a.files;
          flags = a.flags;
          others = a.others;
        };
        idle = w.idle;
      }

  -- ---- the process is run

  ran-fed : (fl : ℕ) (u : TrussState) (r : Reply) → Now fl (Running place) u → answer_of r ≡ Gone
      → (v : TrussState) × ((fed_functions u r ≡ v) × Now 0 (Closing place GoOn) v)
  unfolding with_function_reply with_function_run_answered with_run_answered
  ran-fed fl u r w gone =
      let a = w.at in
      let m : Marks = record (marks_at u place) { flags = 0 } in
      let marked = at-marked o has place false rest t fl 0 (Running place) u m refl a in (
        with_closing (with_marks u place m) place,
        (
          fed-staged o has u r (Running place) a.options w.idle a.stage
              ∙ ap (with_function_run_answered u place) gone,
          record {
            at = at-closing o has place false rest t 0 (Running place) (with_marks u place m) marked;
            idle = w.idle;
          },
        ),
      )

  pub run-comes : (fl : ℕ) (u : TrussState) (xs : List Exchange) → Now fl (Running place) u → MakesFunctionCalls u xs
      → All IsCalm xs → ComeWhileItLives (run_calls t fl) Anything closes xs
  unfolding function_call_of
  run-comes fl u [] w made calm = tt
  run-comes fl u (x ∷ xs) w made calm =
      let a = w.at in
      let f = a.files in (
        same_Some x.call (message_call t.control (message.Run fl))
            (sym made.0 ∙ next-staged o has u (Running place) a.options w.idle a.stage
            ∙ ap (λ n. Some (message_call n (message.Run (traced_at u place).marks.flags))) f.control
            ∙ ap (λ n. Some (message_call t.control (message.Run n))) a.flags),
        if-ended x.reply (closes xs) (Unit {0})
            (λ gone.
            let it = ran-fed fl u x.reply w gone in
            ended-closes 0 it.0 xs it.1.1 (subst (λ (v : TrussState). MakesFunctionCalls v xs) it.1.0 made.1)
            (All-tail IsCalm x xs calm))
            (λ lives. tt),
      )

  -- ---- memory is read for its line

  pub over-now : (fl : ℕ) (now : Stage) (u : TrussState) → Now fl now u
      → Now fl (Running place) (with_stop_over u place)
  over-now fl now u w =
      let a = w.at in
      subst (Now fl (Running place)) (sym (over-runs u place a.leaving)) (staged fl now (Running place) u w)

  pub old-now : (fl : ℕ) (now : Stage) (u : TrussState) → Now fl now u
      → Now fl (Running place) (with_old_stop_over u place)
  unfolding with_old_stop_over
  old-now fl now u w =
      let a = w.at in
      let v : Traced = record (traced_at u place) { old = (traced_at u place).old - 1 } in
      let here : traced_at (with_traced u place v) place ≡ v = set-at u.traced place v a.within in
      let f = a.files in
      over-now fl now (with_traced u place v) (record {
        at = record {
          options = a.options;
          leaving = a.leaving;
          within = omega (arith, a.within, length-set u.traced place v);
          stage = a.stage;
          files = subst (SameFiles t) (sym here) (record {
            pid = f.pid;
            control = f.control;
            status = f.status;
            lstatus = f.lstatus;
            memory = f.memory;
          });
          flags = ap (λ (y : Traced). y.marks.flags) here ∙ a.flags;
          others = remove-set u.traced place v ∙ a.others;
        };
        idle = w.idle;
      })

  event-over-now : (fl : ℕ) (now : Stage) (u : TrussState) (l : LwpStatus) → Now fl now u
      → Now fl (Running place) (with_event_over u place l)
  event-over-now fl now u l w =
      let a = w.at in
      subst (Now fl (Running place))
      (sym (event-over-is u place l (ap (λ (p : Options). p.follow) a.options ∙ off))) (over-now fl now u w)

  module _ (l : LwpStatus) (from len : ℕ) where
    abbrev reading : Stage
    reading = ReadingText place l from len

    text-stays : (u v : TrussState) (a : Answer) → u.leaving ≡ false → a ≢ Gone → after_function_text u v place a ≡ v
    text-stays u v Gone stays lives = absurd (lives refl)
    text-stays u v Accepted stays lives = ap (λ b. cond b (with_lifts v place false) v) stays
    text-stays u v (Refused errno) stays lives = ap (λ b. cond b (with_lifts v place false) v) stays
    text-stays u v Interrupted stays lives = ap (λ b. cond b (with_lifts v place false) v) stays

    text-on : (fl : ℕ) (u : TrussState) (a : Answer) → Now fl reading u → a ≢ Gone → a ≢ Interrupted
        → Now fl (Running place) (after_text u place l a)
    unfolding after_text
    text-on fl u Accepted w lives calm = event-over-now fl reading u l w
    text-on fl u (Refused errno) w lives calm = event-over-now fl reading u l w
    text-on fl u Gone w lives calm = absurd (lives refl)
    text-on fl u Interrupted w lives calm = absurd (calm refl)

    text-ended : (fl : ℕ) (u : TrussState) → Now fl reading u → Now fl (Closing place GoOn) (after_text u place l Gone)
    unfolding after_text
    text-ended fl u w = staged fl reading (Closing place GoOn) u w

    text-fed : (fl : ℕ) (u : TrussState) (r : Reply) → Now fl reading u
        → fed_functions u r
        ≡ after_function_text u
        (after_text (with_event_shown u place l (text_of len (bytes_in r))) place l (answer_of r)) place (answer_of r)
    unfolding with_function_reply with_function_text_answered with_text_answered
    text-fed fl u r w = let a = w.at in fed-staged o has u r reading a.options w.idle a.stage

    pub text-comes : (fl : ℕ) (u : TrussState) (xs : List Exchange) → Now fl reading u
        → MakesFunctionCalls u xs → All IsCalm xs
        → ComeWhileItLives (call.Read (number_of t.memory) from len ∷ run_calls t fl) Anything closes xs
    unfolding function_call_of call_of
    text-comes fl u [] w made calm = tt
    text-comes fl u (x ∷ xs) w made calm =
        let a = w.at in
        let f = a.files in
        let own : x.call ≡ call.Read (number_of t.memory) from len =
        same_Some x.call (call.Read (number_of t.memory) from len)
        (sym made.0 ∙ next-staged o has u reading a.options w.idle a.stage
        ∙ ap (λ m. Some (call.Read (number_of m) from len)) f.memory) in
        let shown : TrussState = with_event_shown u place l (text_of len (bytes_in x.reply)) in
        let seen = reported fl reading u l (text_of len (bytes_in x.reply)) w in
        let still = written-calm x (All-head IsCalm x xs calm) (ap may_wait own) in
        let fed_so = text-fed fl u x.reply w in (
          own,
          if-ended x.reply (closes xs) (ComeWhileItLives (run_calls t fl) Anything closes xs)
              (λ gone.
              let is : fed_functions u x.reply ≡ after_text shown place l Gone =
              fed_so ∙ ap (λ b. after_function_text u (after_text shown place l b) place b) gone in
              ended-closes fl (after_text shown place l Gone) xs (text-ended fl shown seen)
              (subst (λ (v : TrussState). MakesFunctionCalls v xs) is made.1) (All-tail IsCalm x xs calm))
              (λ lives.
              let v : TrussState = after_text shown place l (answer_of x.reply) in
              let is : fed_functions u x.reply ≡ v =
              fed_so ∙ text-stays u v (answer_of x.reply) a.leaving lives in
              run-comes fl v xs (text-on fl shown (answer_of x.reply) seen lives still)
              (subst (λ (y : TrussState). MakesFunctionCalls y xs) is made.1) (All-tail IsCalm x xs calm)),
        )

  -- ---- an event that was looked at

  -- Where truss is then, and what comes: it runs the process; or it reads memory for the line of the event first.
  pub data Looked (fl : ℕ) (v : TrussState) : List Call → Type 0 where
    run_next : Now fl (Running place) v → Looked fl v []
    text_next : (l : LwpStatus) (range : ℕ × ℕ) → Now fl (ReadingText place l range.0 range.1) v
        → Looked fl v (call.Read (number_of t.memory) range.0 range.1 ∷ [])

  shown-looked : (fl : ℕ) (now : Stage) (u : TrussState) (l : LwpStatus) (range : Option (ℕ × ℕ)) → Now fl now u
      → Looked fl (with_text_or_shown u place l range) (text_from (number_of t.memory) range)
  shown-looked fl now u l None w =
      run_next (event-over-now fl now (with_event_shown u place l None) l (reported fl now u l None w))
  shown-looked fl now u l (Some range) w =
      text_next l range (staged fl now (ReadingText place l range.0 range.1) u w)

  pub event-looked : (fl : ℕ) (now : Stage) (u : TrussState) (l : LwpStatus) (e : Event) → Now fl now u
      → Looked fl (with_event u place l (Some e)) (text_calls o t e)
  event-looked fl now u l e w =
      let a = w.at in
      subst
      (λ (p : Options). Looked fl
      (cond (is_selected p e) (with_text_or_shown u place l (asked_range p e)) (with_event_over u place l))
      (text_calls o t e)) (sym a.options) (by (is_selected o e))
    where
      by : (b : Bool) → Looked fl
          (cond b (with_text_or_shown u place l (asked_range o e)) (with_event_over u place l))
          (text_from (number_of t.memory) (cond b (asked_range o e) None))
      by true = shown-looked fl now u l (asked_range o e) w
      by false = run_next (event-over-now fl now u l w)

  -- the patches that come before that, and then the call
  module _ (fl : ℕ) (plants lifts : List Bool) (xs : List Exchange) (calm : All IsCalm xs) where
    pub patched-come : (stage : Stage) (tail : List Call) (u : TrussState) → Patches place stage → Now fl stage u
        → ((v : TrussState) (ys : List Exchange) → Now fl stage v → MakesFunctionCalls v ys → All IsCalm ys
        → ComeWhileItLives tail Anything closes ys)
        → MakesFunctionCalls (with_patches u place plants lifts) xs
        → ComeWhileItLives (plant_calls o t.control plants ++ (lift_calls o t.control lifts ++ tail)) Anything closes xs
    unfolding with_patches
    patched-come stage tail u patches w goes made =
        let a : At o has place false rest t fl stage u = w.at in
        let v : TrussState = with_patches u place plants lifts in
        come-three (plant_calls o t.control plants) (lift_calls o t.control lifts) tail closes xs
        (patches-come o has place false rest t fl stage patches (ComeWhileItLives tail Anything closes) closes goes
        (λ y ys done made_y calm_y. ended-closes fl y ys done made_y calm_y) v xs plants lifts false
        (at-beside o has place false rest t fl stage u (patching place plants lifts false) a) refl made calm)

    pub looked-come : (u : TrussState) (text : List Call) → Looked fl u text
        → MakesFunctionCalls (with_patches u place plants lifts) xs
        → ComeWhileItLives
        (plant_calls o t.control plants ++ (lift_calls o t.control lifts ++ (text ++ run_calls t fl))) Anything closes
        xs
    looked-come u text (run_next w) made =
        patched-come (Running place) (run_calls t fl) u refl w
        (λ v ys now made_v calm_v. run-comes fl v ys now made_v calm_v) made
    looked-come u text (text_next l range w) made =
        patched-come (ReadingText place l range.0 range.1)
        (call.Read (number_of t.memory) range.0 range.1 ∷ run_calls t fl) u refl w
        (λ v ys now made_v calm_v. text-comes l range.0 range.1 fl v ys now made_v calm_v) made
