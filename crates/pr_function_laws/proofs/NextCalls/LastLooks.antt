use Rattle.std.proofs.Common.{◌≡◌, ◌≢◌, ◌<◌, ◌&&◌, ◌-◌, ◌++◌, ℕ, Bool, true, false, cond, Option, Some, None, List, [], ◌∷◌, length, map, refl, sym, subst, ap, ◌∙◌, arith}
use Rattle.std.proofs.lemmas.Bool.{eqb-true}
use Rattle.std.proofs.lemmas.List.{append-nil, length-set}
use Rattle.std.proofs.lemmas.List.Elements.{All-tail}
use Rattle.std.proofs.lemmas.Option.{same_Some}
use Rattle.std.specs.List.{All, remove, slice_get, slice_index_or}
use Rattle.pr_line.specs.Selections.{is_selected}
use Rattle.pr_line.specs.declared.events.Event.{Event}
use Rattle.pr_line.specs.declared.options.Options.{Options}
use Rattle.pr_model.specs.Replies.{bytes_in, number_of}
use Rattle.pr_model.specs.declared.calls.Call.{Call}
use Rattle.pr_model.specs.declared.calls.Call.TheVariants as call
use Rattle.pr_model.specs.declared.calls.Reply.{Reply}
use Rattle.pr_rec.specs.declared.lwps.LwpStatus.{LwpStatus}
use Rattle.pr_truss.specs.Asides.{has_fault_to_clear, lifts_at, marks_at, patching, with_lifts, with_lifts_before_closing, with_marks}
use Rattle.pr_truss.specs.Closings.{with_closing, with_going_on, with_interrupt}
use Rattle.pr_truss.specs.Openings.{with_stop_seen}
use Rattle.pr_truss.specs.FunctionCalls.{function_call_of, lift_call, plant_call}
use Rattle.pr_truss.specs.FunctionEvents.{fresh_event, function_event}
use Rattle.pr_truss.specs.FunctionFeeding.{fed_functions, with_function_reply}
use Rattle.pr_truss.specs.FunctionStops.{after_function_text, with_call_shown, with_fresh_event, with_function_event, with_function_lwps_answered, with_function_stop, with_function_stop_read, with_function_text_answered, with_last_event, with_last_stop, with_memory_replaced}
use Rattle.pr_truss.specs.Marks.{has_functions, no_functions, no_marks}
use Rattle.pr_truss.specs.NextCalls.{call_of, read_record}
use Rattle.pr_truss.specs.Records.{event_stops, is_on_event}
use Rattle.pr_truss.specs.Replies.{answer_of}
use Rattle.pr_truss.specs.Stops.{after_text, asked_range, text_of, with_event, with_event_over, with_event_shown, with_old_stop_over, with_stop, with_stop_over, with_text_answered, with_text_or_shown}
use Rattle.pr_truss.specs.Trusses.{TrussState, nobody, traced_at, with_report, with_stage, with_traced}
use Rattle.pr_truss.specs.declared.asides.Aside.TheVariants.{Nothing}
use Rattle.pr_truss.specs.declared.function_events.FunctionEvent.{FunctionEvent}
use Rattle.pr_truss.specs.declared.function_events.FunctionEvent.TheVariants.{Other, AtBreakpoint, Completed, TraceTrap, BeforeCopy, AfterCopy, Replaced}
use Rattle.pr_truss.specs.declared.processes.Traced.{Traced}
use Rattle.pr_truss.specs.declared.replies.Answer.{Answer}
use Rattle.pr_truss.specs.declared.replies.Answer.TheVariants.{Accepted, Interrupted, Gone, Refused}
use Rattle.pr_truss.specs.declared.reports.Report.{Report}
use Rattle.pr_truss.specs.declared.stages.AfterClosing.TheVariants.{GoOn}
use Rattle.pr_truss.specs.declared.stages.Stage.{Stage}
use Rattle.pr_truss.specs.declared.stages.Stage.TheVariants.{ReadingText, Running, Closing, ReadingLwps}
use Rattle.pr_truss_laws.proofs.Files.HeldLemmas.{set-at}
use Rattle.pr_truss_laws.proofs.Soon.LookLemmas.{SameFiles, same-files}
use Rattle.pr_truss_laws.specs.Exchanges.{Exchange}
use Rattle.pr_function_laws.proofs.NextCalls.ComingLemmas.{if-ended, no-functions}
use Rattle.pr_function_laws.proofs.Marks.MetLemmas.{fresh-stands}
use Rattle.pr_function_laws.proofs.NextCalls.PatchCalls.{Idle, Shut, at-beside, at-marked, closes-come, fed-staged, idle-shuts, next-staged, patches-come, remove-set, same-closes}
use Rattle.pr_function_laws.proofs.NextCalls.EventCalls.{event-over-is, stale-stop, stop-is}
use Rattle.pr_function_laws.proofs.CallTurns.TurnReads.{fresh-new}
use Rattle.pr_function_laws.specs.Coming.{Come, ComeWhileItLives, Later, close_calls, functions_in, lift_calls, plant_calls}
use Rattle.pr_function_laws.specs.Leaving.{clear_calls, last_calls, last_event_calls, last_stop_calls, LooksLast, look_calls}
use Rattle.pr_function_laws.specs.Runs.{MakesFunctionCalls}
use Rattle.pr_function_laws.specs.Soon.{IsCalm}
use Rattle.pr_function_laws.specs.Treated.{text_calls, text_from}

-- What truss calls next where it has looked last at a process that it leaves.

-- where truss leaves, the files are closed once a stop is over
pub over-closes : (u : TrussState) (place : ℕ) → u.leaving ≡ true
    → with_stop_over u place ≡ with_stage u (Closing place GoOn)
unfolding with_stop_over
over-closes u place on = ap (λ b. cond b (with_closing u place) (with_stage u (Running place))) on

-- the process at the first place, and these behind it
module _ (o : Options) (has : has_functions o ≡ true) (off : o.follow ≡ false) (rest : List Traced) (t : Traced)
    (Then : Later)
    (ends : (v : TrussState) (xs : List Exchange) → Shut o has 0 true rest v → MakesFunctionCalls (with_going_on v) xs
    → All IsCalm xs → Then xs) where
  abbrev Now : ℕ → Stage → TrussState → Type 0
  Now = Idle o has 0 true rest t

  -- Truss is at this stage with it, and has marked these of its functions as planted.
  pub record Left (set : List Bool) (now : Stage) (u : TrussState) : Type 0 where
    pub fl : ℕ
    pub idle : Now fl now u
    pub planted : (marks_at u 0).planted ≡ set

  abbrev closing : Stage
  closing = Closing 0 GoOn

  abbrev closes : Later
  closes = Come (close_calls t) Then

  abbrev Comes : List Call → Later
  Comes cs = ComeWhileItLives cs closes closes

  pub closed : (fl : ℕ) (u : TrussState) (xs : List Exchange) → Now fl closing u
      → MakesFunctionCalls u xs → All IsCalm xs
      → closes xs
  closed fl u xs w made calm =
      let a = w.at in
      subst (λ cs. Come cs Then xs) (same-closes t (traced_at u 0) a.files)
      (closes-come o has 0 true rest Then ends (traced_at u 0) u xs (idle-shuts o has 0 true rest t fl u w) made calm)

  -- ---- what is lifted and cleared before that

  lifts-close : (set : List Bool) (u : TrussState) (clear : Bool) (xs : List Exchange) → Left set closing u
      → MakesFunctionCalls (with_lifts u 0 clear) xs → All IsCalm xs
      → Comes (lift_calls o t.control set ++ clear_calls t clear) xs
  unfolding with_lifts
  lifts-close set u clear xs w made calm =
      let i : Now w.fl closing u = w.idle in
      let v : TrussState = with_lifts u 0 clear in
      let patched : Comes
      (plant_calls o t.control no_functions
      ++ (lift_calls o t.control (marks_at u 0).planted ++ clear_calls t clear)) xs =
      patches-come o has 0 true rest t w.fl closing refl closes closes
      (λ y ys done made_y calm_y. closed w.fl y ys done made_y calm_y)
      (λ y ys done made_y calm_y. closed w.fl y ys done made_y calm_y) v xs no_functions (marks_at u 0).planted clear
      (at-beside o has 0 true rest t w.fl closing u (patching 0 no_functions (marks_at u 0).planted clear) i.at) refl
      made calm in
      subst (λ fs. Comes (lift_calls o t.control fs ++ clear_calls t clear) xs) w.planted
      (subst
      (λ (fs : List ℕ). Comes
      (map (plant_call o t.control) fs ++ (lift_calls o t.control (marks_at u 0).planted ++ clear_calls t clear)) xs)
      no-functions patched)

  -- with no fault to clear
  lifts-only : (set : List Bool) (u : TrussState) (xs : List Exchange) → Left set closing u
      → MakesFunctionCalls (with_lifts u 0 false) xs → All IsCalm xs → Comes (lift_calls o t.control set) xs
  lifts-only set u xs w made calm =
      subst (λ cs. Comes cs xs) (append-nil (lift_calls o t.control set)) (lifts-close set u false xs w made calm)

  -- ---- stages

  staged : (set : List Bool) (old now : Stage) (u : TrussState) → Left set old u → Left set now (with_stage u now)
  staged set old now u w =
      let i : Now w.fl old u = w.idle in
      let a = i.at in
      record {
        fl = w.fl;
        idle = record {
          at = record {
            options = a.options;
            leaving = a.leaving;
            within = a.within;
            stage = refl;
            files = a.files;
            flags = a.flags;
            others = a.others;
          };
          idle = i.idle;
        };
        planted = w.planted;
      }

  -- something more is reported
  reported : (set : List Bool) (now : Stage) (u : TrussState) (report : Report) → Left set now u
      → Left set now (with_report u report)
  reported set now u report w =
      let i : Now w.fl now u = w.idle in
      let a = i.at in
      record {
        fl = w.fl;
        idle = record {
          at = record {
            options = a.options;
            leaving = a.leaving;
            within = a.within;
            stage = a.stage;
            files = a.files;
            flags = a.flags;
            others = a.others;
          };
          idle = i.idle;
        };
        planted = w.planted;
      }

  over-left : (set : List Bool) (now : Stage) (u : TrussState) → Left set now u
      → Left set closing (with_stop_over u 0)
  over-left set now u w =
      let i : Now w.fl now u = w.idle in
      let a = i.at in
      subst (Left set closing) (sym (over-closes u 0 a.leaving)) (staged set now closing u w)

  event-over-left : (set : List Bool) (now : Stage) (u : TrussState) (l : LwpStatus) → Left set now u
      → Left set closing (with_event_over u 0 l)
  event-over-left set now u l w =
      let i : Now w.fl now u = w.idle in
      let a = i.at in
      subst (Left set closing) (sym (event-over-is u 0 l (ap (λ (p : Options). p.follow) a.options ∙ off)))
      (over-left set now u w)

  -- one stop less that stood before truss came
  old-left : (set : List Bool) (now : Stage) (u : TrussState) → Left set now u
      → Left set closing (with_old_stop_over u 0)
  unfolding with_old_stop_over
  old-left set now u w =
      let i : Now w.fl now u = w.idle in
      let a = i.at in
      let v : Traced = record (traced_at u 0) { old = (traced_at u 0).old - 1 } in
      let here : traced_at (with_traced u 0 v) 0 ≡ v = set-at u.traced 0 v a.within in
      let f = a.files in
      over-left set now (with_traced u 0 v) (record {
        fl = w.fl;
        idle = record {
          at = record {
            options = a.options;
            leaving = a.leaving;
            within = omega (arith, a.within, length-set u.traced 0 v);
            stage = a.stage;
            files = subst (SameFiles t) (sym here) (record {
              pid = f.pid;
              control = f.control;
              status = f.status;
              lstatus = f.lstatus;
              memory = f.memory;
            });
            flags = ap (λ (y : Traced). y.marks.flags) here ∙ a.flags;
            others = remove-set u.traced 0 v ∙ a.others;
          };
          idle = i.idle;
        };
        planted = ap (λ (y : Traced). y.marks.planted) here ∙ w.planted;
      })

  -- a stop that is no new event
  stale-left : (set : List Bool) (now : Stage) (u : TrussState) (l : LwpStatus) → fresh_event (traced_at u 0) l ≡ None
      → Left set now u → Left set closing (with_stop u 0 l)
  stale-left set now u l stale w =
      stale-stop (Left set closing) u 0 l stale (over-left set now u w) (old-left set now u w)

  -- ---- memory is read for a line

  module _ (set : List Bool) (l : LwpStatus) (from len : ℕ) where
    abbrev reading : Stage
    reading = ReadingText 0 l from len

    text-fed : (u : TrussState) (r : Reply) → Left set reading u
        → fed_functions u r
        ≡ after_function_text u (after_text (with_event_shown u 0 l (text_of len (bytes_in r))) 0 l (answer_of r)) 0
        (answer_of r)
    unfolding with_function_reply with_function_text_answered with_text_answered
    text-fed u r w =
        let i : Now w.fl reading u = w.idle in
        let a = i.at in fed-staged o has u r reading a.options i.idle a.stage

    text-stays : (u v : TrussState) (a : Answer) → u.leaving ≡ true → a ≢ Gone
        → after_function_text u v 0 a ≡ with_lifts v 0 false
    text-stays u v Gone leaves lives = absurd (lives refl)
    text-stays u v Accepted leaves lives = ap (λ b. cond b (with_lifts v 0 false) v) leaves
    text-stays u v (Refused errno) leaves lives = ap (λ b. cond b (with_lifts v 0 false) v) leaves
    text-stays u v Interrupted leaves lives = ap (λ b. cond b (with_lifts v 0 false) v) leaves

    text-on : (u : TrussState) (a : Answer) → Left set reading u → a ≢ Gone
        → Left set closing (after_text u 0 l a)
    unfolding after_text
    text-on u Accepted w lives = event-over-left set reading u l w
    text-on u (Refused errno) w lives = event-over-left set reading u l w
    text-on u Gone w lives = absurd (lives refl)
    text-on u Interrupted w lives =
        let i : Now w.fl reading u = w.idle in
        let a = i.at in
        subst (λ b. Left set closing (cond b (with_event_over u 0 l) (with_interrupt (with_stop_seen u 0))))
        (sym a.leaving) (event-over-left set reading u l w)

    text-comes : (u : TrussState) (xs : List Exchange) → Left set reading u → MakesFunctionCalls u xs → All IsCalm xs
        → Comes (call.Read (number_of t.memory) from len ∷ lift_calls o t.control set) xs
    unfolding function_call_of call_of after_text with_event_shown
    text-comes u [] w made calm = tt
    text-comes u (x ∷ xs) w made calm =
        let i : Now w.fl reading u = w.idle in
        let a = i.at in
        let f = a.files in
        let shown : TrussState = with_event_shown u 0 l (text_of len (bytes_in x.reply)) in
        let seen : Left set reading shown = reported set reading u _ w in
        let fed_so = text-fed u x.reply w in (
          same_Some x.call (call.Read (number_of t.memory) from len)
              (sym made.0 ∙ next-staged o has u reading a.options i.idle a.stage
              ∙ ap (λ m. Some (call.Read (number_of m) from len)) f.memory),
          if-ended x.reply (closes xs) (Comes (lift_calls o t.control set) xs)
              (λ gone.
              let is : fed_functions u x.reply ≡ with_closing shown 0 =
              fed_so ∙ ap (λ b. after_function_text u (after_text shown 0 l b) 0 b) gone in
              let last = staged set reading closing shown seen in
              closed last.fl (with_closing shown 0) xs last.idle
              (subst (λ (v : TrussState). MakesFunctionCalls v xs) is made.1) (All-tail IsCalm x xs calm))
              (λ lives.
              let v : TrussState = after_text shown 0 l (answer_of x.reply) in
              let is : fed_functions u x.reply ≡ with_lifts v 0 false =
              fed_so ∙ text-stays u v (answer_of x.reply) a.leaving lives in
              lifts-only set v xs (text-on shown (answer_of x.reply) seen lives)
              (subst (λ (y : TrussState). MakesFunctionCalls y xs) is made.1) (All-tail IsCalm x xs calm)),
        )

  -- ---- a new event

  -- Where truss is once it has looked at an event: it closes the files; or it reads memory for the line first.
  data Seen (set : List Bool) (v : TrussState) : List Call → Type 0 where
    over : Left set closing v → Seen set v []
    reads : (l : LwpStatus) (range : ℕ × ℕ) → Left set (ReadingText 0 l range.0 range.1) v
        → Seen set v (call.Read (number_of t.memory) range.0 range.1 ∷ [])

  shown-seen : (set : List Bool) (now : Stage) (u : TrussState) (l : LwpStatus) (range : Option (ℕ × ℕ))
      → Left set now u → Seen set (with_text_or_shown u 0 l range) (text_from (number_of t.memory) range)
  unfolding with_event_shown
  shown-seen set now u l None w =
      over (event-over-left set now (with_event_shown u 0 l None) l (reported set now u _ w))
  shown-seen set now u l (Some range) w = reads l range (staged set now (ReadingText 0 l range.0 range.1) u w)

  event-seen : (set : List Bool) (now : Stage) (u : TrussState) (l : LwpStatus) (e : Event) → Left set now u
      → Seen set (with_event u 0 l (Some e)) (text_calls o t e)
  event-seen set now u l e w =
      let i : Now w.fl now u = w.idle in
      let a = i.at in
      subst
      (λ (p : Options). Seen set
      (cond (is_selected p e) (with_text_or_shown u 0 l (asked_range p e)) (with_event_over u 0 l)) (text_calls o t e))
      (sym a.options) (by (is_selected o e))
    where
      by : (b : Bool) → Seen set (cond b (with_text_or_shown u 0 l (asked_range o e)) (with_event_over u 0 l))
          (text_from (number_of t.memory) (cond b (asked_range o e) None))
      by true = shown-seen set now u l (asked_range o e) w
      by false = over (event-over-left set now u l w)

  before-closing : (set : List Bool) (v : TrussState) (text : List Call) (xs : List Exchange) → Seen set v text
      → MakesFunctionCalls (with_lifts_before_closing v 0) xs → All IsCalm xs
      → Comes (text ++ lift_calls o t.control set) xs
  unfolding with_lifts_before_closing
  before-closing set v text xs (over w) made calm =
      let i : Now w.fl closing v = w.idle in
      let a = i.at in
      lifts-only set v xs w (subst (λ st. MakesFunctionCalls (lifts_at v 0 st) xs) a.stage made) calm
  before-closing set v text xs (reads l range w) made calm =
      let i : Now w.fl (ReadingText 0 l range.0 range.1) v = w.idle in
      let a = i.at in
      text-comes set l range.0 range.1 v xs w (subst (λ st. MakesFunctionCalls (lifts_at v 0 st) xs) a.stage made) calm

  -- ---- the last look

  module _ (u : TrussState) (options : u.options ≡ o) (leaves : u.leaving ≡ true) (at : u.stage ≡ ReadingLwps)
      (free : u.aside ≡ Nothing) (traced : u.traced ≡ t ∷ rest) (xs : List Exchange) (calm : All IsCalm xs) where
    here-is : traced_at u 0 ≡ t
    here-is = ap (λ ts. slice_index_or ts 0 nobody) traced

    within : 0 < length u.traced
    within = subst (λ (ts : List Traced). 0 < length ts) (sym traced) (omega arith)

    base : Left t.marks.planted ReadingLwps u
    base = record {
      fl = t.marks.flags;
      idle = record {
        at = record {
          options = options;
          leaving = leaves;
          within = within;
          stage = at;
          files = subst (SameFiles t) (sym here-is) (same-files t);
          flags = ap (λ (v : Traced). v.marks.flags) here-is;
          others = ap (λ ts. remove ts 0) traced;
        };
        idle = free;
      };
      planted = ap (λ (v : Traced). v.marks.planted) here-is;
    }

    bare : Left no_functions ReadingLwps (with_marks u 0 no_marks)
    unfolding base
    bare =
        let v : Traced = record (traced_at u 0) { marks = no_marks } in
        record {
          fl = 0;
          idle = record {
            at = at-marked o has 0 true rest t t.marks.flags 0 ReadingLwps u no_marks refl
                (let b = base in let i : Now b.fl ReadingLwps u = b.idle in i.at);
            idle = free;
          };
          planted = ap (λ (y : Traced). y.marks.planted) (set-at u.traced 0 v within);
        }

    module _ (l : LwpStatus) (e : Event) (fresh : fresh_event t l ≡ Some e) where
      -- it is looked at as new, whatever the marks are
      seen-new : (set : List Bool) (v : TrussState) → Left set ReadingLwps v → (traced_at v 0).old ≡ t.old
          → (traced_at v 0).seen ≡ t.seen → Seen set (with_stop v 0 l) (text_calls o t e)
      seen-new set v w old seen =
          let new = fresh-new t l e fresh in
          subst (λ y. Seen set y (text_calls o t e))
          (sym (stop-is v 0 l e (old ∙ eqb-true t.old 0 new.new) (seen ∙ new.unseen) (fresh-stands t l e fresh)))
          (event-seen set ReadingLwps v l e w)

      own-come : (v : TrussState) → Left t.marks.planted closing v → MakesFunctionCalls (with_lifts v 0 true) xs
          → Comes (lift_calls o t.control t.marks.planted ++ clear_calls t true) xs
      own-come v w made = lifts-close t.marks.planted v true xs w made calm

      plain-come : MakesFunctionCalls (with_lifts_before_closing (with_stop u 0 l) 0) xs
          → Comes (text_calls o t e ++ lift_calls o t.control t.marks.planted) xs
      plain-come made =
          before-closing t.marks.planted (with_stop u 0 l) (text_calls o t e) xs
          (seen-new t.marks.planted u base (ap (λ (v : Traced). v.old) here-is) (ap (λ (v : Traced). v.seen) here-is))
          made calm

      last-come : (fe : FunctionEvent) → MakesFunctionCalls (with_last_event u 0 l fe) xs
          → Comes (last_event_calls o t e fe) xs
      unfolding with_last_event with_memory_replaced with_call_shown
      last-come (AtBreakpoint function) made =
          own-come (with_stop_over u 0) (over-left t.marks.planted ReadingLwps u base) made
      last-come (Completed step) made =
          own-come (with_stop_over (with_call_shown u 0 step) 0)
          (over-left t.marks.planted ReadingLwps (with_call_shown u 0 step)
          (reported t.marks.planted ReadingLwps u _ base)) made
      last-come TraceTrap made = own-come (with_stop_over u 0) (over-left t.marks.planted ReadingLwps u base) made
      last-come BeforeCopy made = plain-come made
      last-come AfterCopy made = plain-come made
      last-come Other made = plain-come made
      last-come Replaced made =
          let v : TrussState = with_marks u 0 no_marks in
          let is : traced_at v 0 ≡ record (traced_at u 0) { marks = no_marks } =
          set-at u.traced 0 (record (traced_at u 0) { marks = no_marks }) within in
          let none : functions_in no_functions ≡ [] = no-functions in
          let come : Comes (text_calls o t e ++ lift_calls o t.control no_functions) xs =
          before-closing no_functions (with_stop v 0 l) (text_calls o t e) xs
          (seen-new no_functions v bare
          (ap (λ (y : Traced). y.old) is ∙ ap (λ (y : Traced). y.old) here-is)
          (ap (λ (y : Traced). y.seen) is ∙ ap (λ (y : Traced). y.seen) here-is)) made calm in
          subst (λ cs. Comes cs xs) (append-nil (text_calls o t e))
          (subst (λ (fs : List ℕ). Comes (text_calls o t e ++ map (lift_call o t.control) fs) xs) none come)

    -- the lwp that was read
    stop-come : (l : LwpStatus) (e : Option Event) → fresh_event t l ≡ e
        → MakesFunctionCalls (with_fresh_event u 0 l e) xs
        → Comes (last_stop_calls o t l e) xs
    unfolding with_last_stop
    stop-come l None stale made =
        let left : MakesFunctionCalls (with_last_stop u 0 l) xs =
        subst (λ b. MakesFunctionCalls (cond b (with_last_stop u 0 l) (with_stop u 0 l)) xs) leaves made in
        let same : fresh_event (traced_at u 0) l ≡ None = ap (λ v. fresh_event v l) here-is ∙ stale in
        lifts-close t.marks.planted (with_stop u 0 l) (is_on_event l && has_fault_to_clear t.marks) xs
        (stale-left t.marks.planted ReadingLwps u l same base)
        (subst
        (λ (v : Traced). MakesFunctionCalls
        (with_lifts (with_stop u 0 l) 0 (is_on_event l && has_fault_to_clear v.marks)) xs) here-is left) calm
    stop-come l (Some e) fresh made =
        let left : MakesFunctionCalls (with_last_event u 0 l (function_event u.options (marks_at u 0) l.id e)) xs =
        subst
        (λ b. MakesFunctionCalls
        (cond b (with_last_event u 0 l (function_event u.options (marks_at u 0) l.id e))
        (with_function_event u 0 l (function_event u.options (marks_at u 0) l.id e))) xs) leaves made in
        last-come l e fresh (function_event o t.marks l.id e)
        (subst (λ (v : Traced). MakesFunctionCalls (with_last_event u 0 l (function_event o v.marks l.id e)) xs) here-is
        (subst (λ (p : Options). MakesFunctionCalls
        (with_last_event u 0 l (function_event p (marks_at u 0) l.id e)) xs) options
        left))

    read-come : (l : Option LwpStatus) → MakesFunctionCalls (with_function_stop_read u 0 l) xs
        → Comes (last_calls o t l) xs
    unfolding with_function_stop
    read-come None made =
        lifts-only t.marks.planted (with_stop_over u 0) xs (over-left t.marks.planted ReadingLwps u base)
        (subst (λ b. MakesFunctionCalls (cond b (with_lifts (with_stop_over u 0) 0 false) (with_stop_over u 0))
        xs) leaves made)
        calm
    read-come (Some l) made =
        stop-come l (fresh_event t l) refl
        (subst (λ (v : Traced). MakesFunctionCalls (with_fresh_event u 0 l (fresh_event v l)) xs) here-is made)

    answer-come : (r : Reply) (a : Answer) → MakesFunctionCalls (with_function_lwps_answered u r a) xs
        → Comes (look_calls o t r a) xs
    unfolding with_function_lwps_answered
    answer-come r Accepted made = read-come (slice_get (event_stops (bytes_in r)) 0) made
    answer-come r Gone made =
        let w = staged t.marks.planted ReadingLwps closing u base in closed w.fl (with_closing u 0) xs w.idle made calm
    answer-come r Interrupted made =
        lifts-only t.marks.planted (with_closing u 0) xs (staged t.marks.planted ReadingLwps closing u base) made calm
    answer-come r (Refused errno) made =
        lifts-only t.marks.planted (with_closing u 0) xs (staged t.marks.planted ReadingLwps closing u base) made calm

  pub looks-last : (u : TrussState) (xs : List Exchange) → u.options ≡ o → u.leaving ≡ true → u.stage ≡ ReadingLwps
      → u.aside ≡ Nothing → u.traced ≡ t ∷ rest → MakesFunctionCalls u xs → All IsCalm xs → LooksLast o t Then xs
  unfolding function_call_of call_of with_function_reply
  looks-last u [] options leaves at free traced made calm = tt
  looks-last u (x ∷ xs) options leaves at free traced made calm = (
    same_Some x.call (read_record t.lstatus)
        (sym made.0 ∙ next-staged o has u ReadingLwps options free at
        ∙ ap (λ ts. Some (read_record (slice_index_or ts 0 nobody).lstatus)) traced),
    answer-come u options leaves at free traced xs (All-tail IsCalm x xs calm) x.reply (answer_of x.reply)
        (subst (λ (v : TrussState). MakesFunctionCalls v xs)
        (fed-staged o has u x.reply ReadingLwps options free at) made.1),
  )
