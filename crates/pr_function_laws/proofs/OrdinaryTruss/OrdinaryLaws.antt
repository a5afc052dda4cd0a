use Rattle.std.proofs.Common.{◌≡◌, ◌<◌, ◌++◌, ℕ, Bool, true, false, Option, Some, None, List, [], ◌∷◌, length, append-nil, cond, refl, sym, subst, ap, ◌∙◌, arith, inl, inr}
use Rattle.std.proofs.lemmas.Bool.{eq-eqb, false≢true}
use Rattle.std.proofs.lemmas.Option.{none-some, same_Some}
use Rattle.std.specs.List.{slice_set}
use Rattle.pr_laws.proofs.CloseLemmas.{released-after}
use Rattle.pr_laws.specs.LastCloses.{IsReleased}
use Rattle.pr_lawful.proofs.ProcessParts.HandleLemmas.{handle-at}
use Rattle.pr_line.specs.declared.options.Options.{Options}
use Rattle.pr_model.specs.Calls.{Answer, answer_to}
use Rattle.pr_model.specs.Handles.{handle_of, has_writer, with_closed}
use Rattle.pr_model.specs.Lawful.{IsLawful}
use Rattle.pr_model.specs.Legal.{state_after}
use Rattle.pr_model.specs.State.{TracedProcess, TracedState, live_process}
use Rattle.pr_model.specs.declared.calls.Call.{Call}
use Rattle.pr_model.specs.declared.calls.Call.TheVariants as call
use Rattle.pr_model.specs.declared.calls.File.{File}
use Rattle.pr_model.specs.declared.calls.File.TheVariants.{Ctl}
use Rattle.pr_model.specs.declared.events.Entry.{Entry}
use Rattle.pr_model.specs.declared.handles.Held.{Held}
use Rattle.pr_report_laws.proofs.Files.FileLaws.{HasFiles}
use Rattle.pr_report_laws.proofs.Files.WatchHistories.{Reaches}
use Rattle.pr_report_laws.proofs.OwnFiles.CalledFiles.{file-open, next-names}
use Rattle.pr_report_laws.proofs.OwnFiles.ControlsLast.{last-left}
use Rattle.pr_report_laws.specs.Attachments.{HasFile}
use Rattle.pr_report_laws.specs.OwnFiles.{CallsItsFiles, ClosesControlsLast, HasOpen, NamesItsOwn}
use Rattle.pr_truss.specs.FunctionCalls.{call_beside, function_call_of, next_function_call_of}
use Rattle.pr_truss.specs.Marks.{first_function, has_functions}
use Rattle.pr_truss.specs.NextCalls.{call_of, next_call_of}
use Rattle.pr_truss.specs.Trusses.{TrussState, traced_at}
use Rattle.pr_truss.specs.declared.asides.Aside.{Aside}
use Rattle.pr_truss.specs.declared.asides.Aside.TheVariants.{Nothing, Reading, Planting, Patching, AwaitingStop, Asking, AwaitingAgain}
use Rattle.pr_truss.specs.declared.processes.Traced.{Traced}
use Rattle.pr_truss.specs.declared.stages.AfterClosing.TheVariants.{OpenNext, GoOn}
use Rattle.pr_truss.specs.declared.stages.OpeningStep.TheVariants as opening
use Rattle.pr_truss.specs.declared.stages.Stage.{Stage}
use Rattle.pr_truss.specs.declared.stages.Stage.TheVariants.{Opening, ReadingText, Running, Closing, Unfollowing}
use Rattle.pr_truss_laws.proofs.Files.ClosesLemmas.{nothing-held}
use Rattle.pr_truss_laws.proofs.Files.HeldLemmas.{Fits, unit}
use Rattle.pr_truss_laws.proofs.Files.OpensLemmas.{close-closes}
use Rattle.pr_truss_laws.proofs.Files.OwnLemmas.{Owns, owned}
use Rattle.pr_truss_laws.proofs.Files.ReleaseLemmas.{none-left, was-last}
use Rattle.pr_truss_laws.specs.Exchanges.{Exchange, exchange_of}
use Rattle.pr_truss_laws.specs.Handles.{ClosesFreely, HasNothingOpen}
use Rattle.pr_truss_laws.specs.Sent.{sends}
use Rattle.pr_function_laws.proofs.OrdinaryTruss.OrdinaryCalls.{call-ordinary, patch-is, sees-sends, stands-sends}
use Rattle.pr_function_laws.proofs.OrdinaryTruss.OrdinaryExchanges.{Turn, beside-is, goes_on, goes_out, turn}
use Rattle.pr_function_laws.proofs.OrdinaryTruss.OrdinaryFiles.{Follows, MakesOwn, entry-calm, own-next, run-halfway}
use Rattle.pr_function_laws.proofs.OrdinaryTruss.OrdinaryReplies.{at-ordinary}
use Rattle.pr_function_laws.proofs.OrdinaryTruss.OrdinaryStops.{FitsAside, IsLookedAt, IsOpenedAt, patch-looked}
use Rattle.pr_function_laws.specs.Opened.{IsFunctionRun, functions_at}
use Rattle.pr_function_laws.specs.Ordinary.{IsLike, in_place, ordinary, own_fault, refused, same}
use Rattle.pr_function_laws.specs.OrdinaryRuns.{ClosesFreelyThroughout}
use Rattle.pr_function_laws.specs.Soon.{IsCalm}

-- What truss with calls of functions opens, closes and leaves, as any truss does.

-- ---- closes and polls

-- they are the same in a truss without calls of functions
abbrev pub is_plain : Call → Bool
is_plain (call.Close handle) = true
is_plain (call.Poll handles) = true
is_plain _ = false

plain-unsent : (c : Call) → sends c ≡ true → is_plain c ≡ true → ⊥
plain-unsent (call.Close handle) sent plain = false≢true sent
plain-unsent (call.Poll handles) sent plain = false≢true sent
plain-unsent _ sent plain = false≢true plain

pub like-same : {s : TrussState} {x y : Exchange} → IsLike s x y → is_plain x.call ≡ true → x ≡ y
like-same (same unsent none_own) plain = refl
like-same (in_place {c = c} stands) plain = absurd (let it = stands-sends stands in plain-unsent c it.0 plain)
like-same {s} (refused {c = c} sees may is) plain = absurd (plain-unsent c (sees-sends s s.stage c sees) plain)
like-same (own_fault own) plain = absurd (false≢true plain)

-- ---- one entry

module _ (n k : ℕ) (o : Options) (s : TracedState) (before later : List Entry) (e : Entry) (x : Exchange)
    (run : IsFunctionRun n k o s (before ++ e ∷ later)) (own : exchange_of k e ≡ Some x) where
  abbrev t : TrussState
  t = functions_at k o before

  abbrev v : TracedState
  v = state_after s before

  follows : Follows k o t v
  follows = let half = run-halfway n k o s before (e ∷ later) run in half.follows

  reached : Reaches k (ordinary t) v
  reached = let f = follows in f.reaches

  made : next_function_call_of t ≡ Some x.call
  made =
      let half = run-halfway n k o s before (e ∷ later) run in
      let m = own-next k t e later half.makes in
      subst (MakesOwn t) own m.0

  calm : IsCalm x
  calm = let half = run-halfway n k o s before (e ∷ later) run in entry-calm n k v e x half.legal.0 own

  turns : Turn t x
  turns = let f = follows in turn o run.has run.follows_none t x f.fit made calm

  -- ---- its files

  files : HasFiles k (ordinary t) v
  files = let g = reached in g.files

  fits : Fits (ordinary t).traced t.stage
  fits = let g = reached in let owns : Owns k (ordinary t) v = g.owns in owns.fits

  control-open : (place : ℕ) → place < length (ordinary t).traced → HasOpen k Ctl v (traced_at t place).control
  control-open place within =
      subst (λ (u : Traced). HasOpen k Ctl v u.control) (at-ordinary t place)
      (file-open (let f = files in f.control place within))

  -- the place that is named beside a stage is there
  opened-within : (place : ℕ) (stage : Stage) → IsOpenedAt place stage → Fits (ordinary t).traced stage
      → place < length (ordinary t).traced
  opened-within place (Opening at opening.Start) here f = subst (λ q. q < length (ordinary t).traced) here f.0
  opened-within place _ here f = absurd here

  looked-within : (place : ℕ) (stage : Stage) → IsLookedAt place stage → Fits (ordinary t).traced stage
      → place < length (ordinary t).traced
  looked-within place (Running at) here f = subst (λ q. q < length (ordinary t).traced) here f
  looked-within place (ReadingText at l from len) here f = subst (λ q. q < length (ordinary t).traced) here f
  looked-within place (Closing at OpenNext) here f = subst (λ q. q < length (ordinary t).traced) here f.0
  looked-within place (Closing at GoOn) here f = subst (λ q. q < length (ordinary t).traced) here f.0
  looked-within place _ here f = absurd here

  -- the call of the stage
  stage-names : (stage : Stage) (c : Call) → t.stage ≡ stage → Fits (ordinary t).traced stage
      → function_call_of t stage ≡ Some c → NamesItsOwn k v c
  unfolding function_call_of next_call_of
  stage-names (Opening place opening.TraceSignals) c at f is =
      subst (NamesItsOwn k v) (same_Some _ c is) (control-open place f.0)
  stage-names (Opening place opening.TraceFaults) c at f is =
      subst (NamesItsOwn k v) (same_Some _ c is) (control-open place f.0)
  stage-names (Opening place opening.TraceEntries) c at f is =
      subst (NamesItsOwn k v) (same_Some _ c is) (control-open place f.0)
  stage-names (Opening place opening.TraceExits) c at f is =
      subst (NamesItsOwn k v) (same_Some _ c is) (control-open place f.0)
  stage-names (Running place) c at f is = subst (NamesItsOwn k v) (same_Some _ c is) (control-open place f)
  stage-names Unfollowing c at f is = subst (NamesItsOwn k v) (same_Some _ c is) (control-open 0 f)
  stage-names stage c at f is =
      next-names k (ordinary t) v reached c (ap (call_of (ordinary t)) at ∙ call-ordinary t stage ∙ is)

  names : (aside : Aside) (c : Call) → FitsAside aside t.stage → call_beside t t.stage aside ≡ Some c
      → NamesItsOwn k v c
  unfolding call_beside
  names Nothing c fit is = stage-names t.stage c refl fits is
  names (Reading place function) c fit is =
      subst (NamesItsOwn k v) (same_Some _ c is) (control-open place (opened-within place t.stage fit fits))
  names (Planting place function) c fit is =
      subst (NamesItsOwn k v) (same_Some _ c is) (control-open place (opened-within place t.stage fit fits))
  names (Patching place plants lifts clear) c fit is =
      let m = patch-is t.options (traced_at t place).control (first_function plants) (first_function lifts) in
      subst (NamesItsOwn k v) (sym m.is ∙ same_Some _ c is)
      (control-open place (looked-within place t.stage (patch-looked place plants clear t.stage fit.0) fits))
  names (AwaitingStop until) c fit is =
      subst (NamesItsOwn k v) (same_Some _ c is) (control-open 0 (subst (Fits (ordinary t).traced) fit fits))
  names Asking c fit is =
      subst (NamesItsOwn k v) (same_Some _ c is) (control-open 0 (subst (Fits (ordinary t).traced) fit fits))
  names (AwaitingAgain until) c fit is =
      subst (NamesItsOwn k v) (same_Some _ c is) (control-open 0 (subst (Fits (ordinary t).traced) fit fits))

  pub names-its-own : NamesItsOwn k v x.call
  names-its-own =
      let f = follows in
      let fit = f.fit in
      names t.aside x.call fit.fits (beside-is o run.has run.follows_none t x fit made calm)

  -- ---- calls that are the same

  same-next : Turn t x → is_plain x.call ≡ true → next_call_of (ordinary t) ≡ Some x.call
  same-next (goes_out sees over still) plain =
      absurd (plain-unsent x.call (sees-sends t t.stage x.call sees) plain)
  same-next (goes_on y like called now) plain =
      subst (λ (z : Exchange). next_call_of (ordinary t) ≡ Some z.call) (sym (like-same like plain)) called

  pub plain-next : is_plain x.call ≡ true → next_call_of (ordinary t) ≡ Some x.call
  plain-next plain = same-next turns plain

  pub last-closed : (pid handle number : ℕ) (f : File) → x.call ≡ call.Close handle → HasFile k pid Ctl handle v
      → HasFile k pid f number v → number ≡ handle
  last-closed pid handle number f is mine other =
      last-left k pid (ordinary t) v reached handle mine number f other
      (plain-next (ap is_plain is) ∙ ap (λ c. Some c) is)

pub calls-its-files : (n k : ℕ) (o : Options) (s : TracedState) (h : List Entry) → IsFunctionRun n k o s h
    → CallsItsFiles k s h
calls-its-files n k o s h run = record {
  each = λ before later e x is own.
      names-its-own n k o s before later e x (subst (IsFunctionRun n k o s) is run) own;
}

pub closes-controls-last : (n k : ℕ) (o : Options) (s : TracedState) (h : List Entry) → IsFunctionRun n k o s h
    → ClosesControlsLast k s h
closes-controls-last n k o s h run = record {
  each = λ before later e pid handle number f r is own mine other.
      last-closed n k o s before later e (record { call = call.Close handle; reply = r })
      (subst (IsFunctionRun n k o s) is run) own pid handle number f refl mine other;
}

-- ---- what it leaves

module _ (k : ℕ) (t : TrussState) (s : TracedState) (g : Reaches k t s) where
  owns : Owns k t s
  owns = g.owns

  lawful : IsLawful s
  lawful = g.lawful

  module _ (number : ℕ) (h : Held) (a : Answer) (at : handle_of s.opens k number ≡ Some h)
      (close : answer_to s k (call.Close number) ≡ Some a) where
    closed-state : a.state ≡ with_closed h number s
    closed-state =
        elim (close-closes s k number a close) [
          | inl gone ↦ absurd (none-some h (sym gone.none ∙ at))
          | inr one ↦ one.1.state
              ∙ ap (λ (held : Held). with_closed held number s) (same_Some one.0 h (sym one.1.held ∙ at))
        ]

    closed-opens : (with_closed h number s).opens ≡ slice_set s.opens number None
    unfolding with_closed
    closed-opens = refl

  pub closes-freely : ClosesFreely k s
  closes-freely = record {
    alone = λ number h a at control close.
        let mode = owns.modes number h at control in
        ap (λ (x : TracedState). has_writer h.pid x.opens) (closed-state number h a at close)
        ∙ ap (has_writer h.pid) (closed-opens number h a at close)
        ∙ none-left s.opens number h (handle-at s.opens k number h at) mode lawful.exclusive;
    released = λ number h a p at control close live runs kept.
        let mode = owns.modes number h at control in
        subst (λ (x : TracedState). (q : TracedProcess) × ((live_process x.system h.pid ≡ Some q) × IsReleased q))
        (sym (closed-state number h a at close))
        (released-after s h number p
        (was-last s.opens number h (handle-at s.opens k number h at) mode lawful.exclusive) live runs kept);
  }

  none-owned : (x : Option Held) → ((pid : ℕ) → owned pid x ≡ 0) → x ≡ None
  none-owned None each = refl
  none-owned (Some held) each =
      absurd (omega (arith, each held.pid, ap unit (eq-eqb held.pid held.pid refl)))

  pub nothing-open : next_call_of t ≡ None → HasNothingOpen k s
  nothing-open finished = record {
    none = λ m. none-owned (handle_of s.opens k m)
        (λ pid. sym (owns.counts pid m) ∙ nothing-held pid m t owns.fits finished);
  }

pub closes-throughout : (n k : ℕ) (o : Options) (s : TracedState) (h : List Entry) → IsFunctionRun n k o s h
    → ClosesFreelyThroughout k s h
closes-throughout n k o s h run = record {
  each = λ before later is.
      let half = run-halfway n k o s before later (subst (IsFunctionRun n k o s) is run) in
      let f = half.follows in
      closes-freely k (ordinary (functions_at k o before)) (state_after s before) f.reaches;
}

-- ---- the end

module _ (t : TrussState) where
  stage-ends : (stage : Stage) → function_call_of t stage ≡ None → call_of (ordinary t) stage ≡ None
  unfolding function_call_of
  stage-ends (Opening place opening.TraceSignals) none = absurd (none-some _ (sym none))
  stage-ends (Opening place opening.TraceFaults) none = absurd (none-some _ (sym none))
  stage-ends (Opening place opening.TraceEntries) none = absurd (none-some _ (sym none))
  stage-ends (Opening place opening.TraceExits) none = absurd (none-some _ (sym none))
  stage-ends (Running place) none = absurd (none-some _ (sym none))
  stage-ends Unfollowing none = absurd (none-some _ (sym none))
  stage-ends stage none = call-ordinary t stage ∙ none

  beside-ends : (aside : Aside) → call_beside t t.stage aside ≡ None → call_of (ordinary t) t.stage ≡ None
  unfolding call_beside
  beside-ends Nothing none = stage-ends t.stage none
  beside-ends (Reading place function) none = absurd (none-some _ (sym none))
  beside-ends (Planting place function) none = absurd (none-some _ (sym none))
  beside-ends (Patching place plants lifts clear) none = absurd (none-some _ (sym none))
  beside-ends (AwaitingStop until) none = absurd (none-some _ (sym none))
  beside-ends Asking none = absurd (none-some _ (sym none))
  beside-ends (AwaitingAgain until) none = absurd (none-some _ (sym none))

  pub function-ends : has_functions t.options ≡ true → next_function_call_of t ≡ None → next_call_of (ordinary t) ≡ None
  unfolding next_function_call_of next_call_of
  function-ends has none =
      beside-ends t.aside
      (sym (ap (λ b. cond b (call_beside t t.stage t.aside) (next_call_of t)) has) ∙ none)

pub nothing-left : (n k : ℕ) (o : Options) (s : TracedState) (h : List Entry) → IsFunctionRun n k o s h
    → next_function_call_of (functions_at k o h) ≡ None → HasNothingOpen k (state_after s h)
nothing-left n k o s h run finished =
    let t : TrussState = functions_at k o h in
    let half =
    run-halfway n k o s h [] (subst (IsFunctionRun n k o s) (sym (append-nil h)) run) in
    let f = half.follows in
    let fit = f.fit in
    nothing-open k (ordinary t) (state_after s h) f.reaches
    (function-ends t (ap has_functions fit.options ∙ run.has) finished)

pub ruleset own_files = (calls-its-files, closes-controls-last, closes-throughout, nothing-left)
