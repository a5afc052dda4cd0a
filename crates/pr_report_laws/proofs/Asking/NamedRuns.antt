use Rattle.std.proofs.Common.{◌≡◌, ◌==◌, ◌<◌, ◌⊎◌, ◌++◌, ℕ, Bool, true, false, cond, Option, Some, None, List, [], ◌∷◌, length, map, refl, sym, subst, ap, ◌∙◌, append_assoc, arith, inl, inr}
use Rattle.std.proofs.lemmas.Bool.{cases_eq, eq-eqb, eqb-true, false≢true}
use Rattle.std.proofs.lemmas.List.{append-nil, get_or-set_other, get_or_append_left}
use Rattle.std.proofs.lemmas.List.Edits.{get_or-remove_below}
use Rattle.std.proofs.lemmas.List.Elements.{All-append, All-cons, All-nil}
use Rattle.std.proofs.lemmas.List.Quantifiers.{position-Some}
use Rattle.std.proofs.lemmas.Option.{none-some, same_Some}
use Rattle.std.specs.List.{position, slice_get, slice_set}
use Rattle.std.specs.Option.{option_and_then}
use Rattle.pr_line.specs.declared.options.Options.{Options}
use Rattle.pr_model.specs.Replies.{handle_in}
use Rattle.pr_model.specs.declared.calls.Call.{Call}
use Rattle.pr_model.specs.declared.calls.Call.TheVariants as call
use Rattle.pr_model.specs.declared.calls.Reply.{Reply}
use Rattle.pr_model.specs.declared.calls.Reply.TheVariants as reply
use Rattle.pr_num.specs.Control.{fork_mode, rlc_mode}
use Rattle.pr_num.specs.Messages.{message_code, operands}
use Rattle.pr_num.specs.Words.{word_bytes}
use Rattle.pr_num.specs.declared.messages.Message.{Message}
use Rattle.pr_num.specs.declared.messages.Message.TheVariants as message
use Rattle.pr_truss.specs.Children.{child_learnt, child_step_after}
use Rattle.pr_truss.specs.Feeding.{fed}
use Rattle.pr_truss.specs.Messages.{all_modes, message_call, traced_entries, traced_exits, traced_faults, traced_signals}
use Rattle.pr_truss.specs.NextCalls.{call_of, child_call, freeing_call, next_call_of, opening_call}
use Rattle.pr_truss.specs.Openings.{learnt, step_after}
use Rattle.pr_truss.specs.Processes.{newly_traced}
use Rattle.pr_truss.specs.Replies.{ready_in}
use Rattle.pr_truss.specs.Stops.{has_control}
use Rattle.pr_truss.specs.Trusses.{TrussState, first_of_program, first_truss, idle, nobody, opening_or, traced_at}
use Rattle.pr_truss.specs.declared.processes.Traced.{Traced}
use Rattle.pr_truss.specs.declared.stages.AfterClosing.{AfterClosing}
use Rattle.pr_truss.specs.declared.stages.AfterClosing.TheVariants.{OpenNext, GoOn, RunParent}
use Rattle.pr_truss.specs.declared.stages.ChildStep.{ChildStep}
use Rattle.pr_truss.specs.declared.stages.ChildStep.TheVariants as child
use Rattle.pr_truss.specs.declared.stages.FreeingStep.{FreeingStep}
use Rattle.pr_truss.specs.declared.stages.FreeingStep.TheVariants as freeing
use Rattle.pr_truss.specs.declared.stages.OpeningStep.{OpeningStep}
use Rattle.pr_truss.specs.declared.stages.OpeningStep.TheVariants as opening
use Rattle.pr_truss.specs.declared.stages.Stage.{Stage}
use Rattle.pr_truss.specs.declared.stages.Stage.TheVariants.{Opening, Polling, ReadingStatus, ReadingText, OpeningChildControl, OpeningChild, Running, Closing, Unfollowing, ReadingLwps, FreeingChild, Finished}
use Rattle.pr_truss_laws.proofs.Files.ClosesLemmas.{first-fits}
use Rattle.pr_truss_laws.proofs.Replies.FedSteps.{fed-step}
use Rattle.pr_truss_laws.proofs.Replies.FitLemmas.{fed-fits, last-within, reads-within}
use Rattle.pr_truss_laws.proofs.Files.HeldLemmas.{Fits, IsLast, at_place, set-at}
use Rattle.pr_truss_laws.proofs.Replies.OptionLemmas.{fed-options}
use Rattle.pr_truss_laws.proofs.Replies.ReplySteps as step
use Rattle.pr_truss_laws.proofs.Replies.ReplySteps.{Closes, GoesOn, Learns, Looks, Opens, Reads, ReplyStep, Returns, StopOver, Turns}
use Rattle.pr_truss_laws.specs.Exchanges.{Exchange, Makes}
use Rattle.pr_truss_laws.specs.Soon.{IsNoPoll}
use Rattle.pr_report_laws.proofs.Watching.NamedSoon.{poll-stage}
use Rattle.pr_report_laws.specs.RunsNamed.{EndsOpening, HasEnded, MayRun, RunsWhatWasNamed, WasNamedLast, as_child, followed, named, opened, traced}

-- Truss runs just what a poll has named, and what it has opened.

-- ---- what is known at a stage

abbrev AtStart : Options → ℕ → List Exchange → OpeningStep → Type 0
AtStart o control xs opening.Start = HasEnded o control xs
AtStart o control xs _ = Unit {0}

abbrev AtChildStart : Options → ℕ → List Exchange → ChildStep → Type 0
AtChildStart o control xs child.Start = HasEnded o control xs
AtChildStart o control xs _ = Unit {0}

abbrev NamedAt : Options → List Exchange → List Traced → ℕ → Type 0
NamedAt o xs ts place = WasNamedLast o (at_place ts place).control xs

abbrev Aware : Options → List Exchange → Bool → List Traced → Stage → Type 0
Aware o xs leaving ts (Opening place now) = AtStart o (at_place ts place).control xs now
Aware o xs leaving ts (ReadingStatus place) = NamedAt o xs ts place
Aware o xs leaving ts (ReadingText place l from len) = (leaving ≡ true) ⊎ NamedAt o xs ts place
Aware o xs leaving ts (OpeningChildControl parent pid) = NamedAt o xs ts parent
Aware o xs leaving ts (OpeningChild parent place now) =
    NamedAt o xs ts parent × AtChildStart o (at_place ts place).control xs now
Aware o xs leaving ts (Running place) = NamedAt o xs ts place
Aware o xs leaving ts (Closing place (RunParent parent)) = NamedAt o xs ts parent
Aware o xs leaving ts Unfollowing = leaving ≡ true
Aware o xs leaving ts ReadingLwps = leaving ≡ true
Aware o xs leaving ts _ = Unit {0}

-- ---- what is no PCRUN

-- the first byte of what a call writes is the code of its message
abbrev pub first_byte : Call → Option ℕ
first_byte (call.Ctl handle bytes) = slice_get bytes 0
first_byte _ = None

pub code-first : (control : ℕ) (m : Message) → first_byte (message_call control m) ≡ Some (message_code m)
unfolding message_code operands word_bytes
code-first control message.Stop = refl
code-first control _ = refl

-- so messages with other codes are other messages
pub codes-apart : {A : Type 0} (c d : ℕ) (m n : Message) → (message_code m == message_code n) ≡ false
    → message_call c m ≡ message_call d n → A
codes-apart c d m n other is =
    let code : message_code m ≡ message_code n =
    same_Some _ _ (sym (code-first c m) ∙ ap first_byte is ∙ code-first d n) in
    absurd (false≢true (sym other ∙ eq-eqb (message_code m) (message_code n) code))

-- no other message is PCRUN
module _ (control : ℕ) where
  other-message : {A : Type 0} (c : ℕ) (m : Message) → (message_code m == message_code (message.Run 0)) ≡ false
      → message_call c m ≡ message_call control (message.Run 0) → A
  other-message c m other is = codes-apart c control m (message.Run 0) other is

  same-control : {a : ℕ} → message_call a (message.Run 0) ≡ message_call control (message.Run 0) → a ≡ control
  same-control is = cc

child-ends : (o : Options) (xs : List Exchange) (control : ℕ) (t : Traced) (now : ChildStep)
    → AtChildStart o t.control xs now → child_call t now ≡ message_call control (message.Run 0) → HasEnded o control xs
unfolding child_call message_code
child-ends o xs control t child.Start a is = subst (λ n. HasEnded o n xs) (same-control control is) a
child-ends o xs control t child.SetRelease a is = other-message control t.control (message.Set rlc_mode) refl is
child-ends o xs control t child.OpenStatus a is = cc
child-ends o xs control t child.OpenLstatus a is = cc
child-ends o xs control t child.OpenMemory a is = cc

none-within : {A : Type 0} (before after : List Exchange) (y : Exchange) → [] ≡ before ++ y ∷ after → A
none-within [] after y is = cc
none-within (z ∷ before) after y is = cc

-- What is at a place in a list with one element more is that one, or is in the list.
last-or : {A : Type 0} (xs before after : List Exchange) (x y : Exchange) → xs ++ x ∷ [] ≡ before ++ y ∷ after
    → (xs ≡ before → x ≡ y → A) → ((rest : List Exchange) → xs ≡ before ++ y ∷ rest → A) → A
last-or [] [] after x y is last inside = last refl cc
last-or [] (z ∷ []) after x y is last inside = cc
last-or [] (z ∷ (w ∷ before)) after x y is last inside = cc
last-or (z ∷ xs) [] after x y is last inside = inside xs cc
last-or (z ∷ xs) (w ∷ before) after x y is last inside =
    let below : xs ++ x ∷ [] ≡ before ++ y ∷ after = cc in
    last-or xs before after x y below
    (λ (all : xs ≡ before) (one : x ≡ y). last (with-front all) one)
    (λ (rest : List Exchange) (at : xs ≡ before ++ y ∷ rest). inside rest (with-front at))
  where
    with-front : {ys : List Exchange} → xs ≡ ys → z ∷ xs ≡ w ∷ ys
    with-front same_rest = let same : z ≡ w = cc in cc

-- ---- one exchange more

module _ (o : Options) (xs : List Exchange) (s : TrussState) (x : Exchange) (same : s.options ≡ o)
    (makes : next_call_of s ≡ Some x.call) where
  abbrev then : List Exchange
  then = xs ++ x ∷ []

  calls : call_of s s.stage ≡ Some x.call
  unfolding next_call_of
  calls = makes

  called : (stage : Stage) → s.stage ≡ stage → call_of s stage ≡ Some x.call
  called stage at = ap (call_of s) (sym at) ∙ calls

  -- it is no poll
  no-poll : (stage : Stage) → s.stage ≡ stage → (stage ≡ Polling → ⊥) → IsNoPoll x
  no-poll stage at other = record {
    other = λ handles is. other ((poll-stage s handles stage (called stage at ∙ ap Some is)).0);
  }

  -- if it is a PCRUN it ends an opening
  abbrev EndsIfRun : Type 0
  EndsIfRun = (c : ℕ) → x.call ≡ message_call c (message.Run 0) → HasEnded o c xs

  named-on : (control : ℕ) → IsNoPoll x → EndsIfRun → WasNamedLast o control xs → WasNamedLast o control then
  named-on control none ends w = record {
    before = w.before;
    handles = w.handles;
    after = w.after ++ x ∷ [];
    is =
        ap (λ ys. ys ++ x ∷ []) w.is
        ∙ append_assoc w.before (poll ∷ w.after) (x ∷ []);
    none = All-append IsNoPoll w.after (x ∷ []) w.none (All-cons IsNoPoll x [] none (All-nil IsNoPoll));
    once = record {
      each = λ b a c r is.
          let run : Exchange = record { call = message_call c (message.Run 0); reply = r } in
          last-or w.after b a x run is
          (λ all one. subst (HasEnded o c)
          (w.is ∙ sym (append_assoc w.before (poll ∷ []) w.after) ∙ ap (λ ys. (w.before ++ poll ∷ []) ++ ys) all)
          (ends c (ap (λ (y : Exchange). y.call) one)))
          (λ rest at. w.once.each b rest c r at);
    };
  }
    where
      poll : Exchange
      poll = record { call = call.Poll w.handles; reply = reply.Ready control }

  status-runs : (place : ℕ) → s.stage ≡ ReadingStatus place → EndsIfRun
  unfolding call_of
  status-runs place at c is = let calls : _ = called (ReadingStatus place) at ∙ ap Some is in cc

  text-runs : (place : ℕ) (l : _) (from len : ℕ) → s.stage ≡ ReadingText place l from len → EndsIfRun
  unfolding call_of
  text-runs place l from len at c is = let calls : _ = called (ReadingText place l from len) at ∙ ap Some is in cc

  control-runs : (parent pid : ℕ) → s.stage ≡ OpeningChildControl parent pid → EndsIfRun
  unfolding call_of
  control-runs parent pid at c is = let calls : _ = called (OpeningChildControl parent pid) at ∙ ap Some is in cc

  closing-runs : (place : ℕ) (next : AfterClosing) → s.stage ≡ Closing place next → EndsIfRun
  unfolding call_of
  closing-runs place next at c is = let calls : _ = called (Closing place next) at ∙ ap Some is in cc

  child-runs : (parent place : ℕ) (now : ChildStep) → s.stage ≡ OpeningChild parent place now
      → AtChildStart o (traced_at s place).control xs now → EndsIfRun
  unfolding call_of
  child-runs parent place now at a c is =
      child-ends o xs c (traced_at s place) now a
      (same_Some _ _ (called (OpeningChild parent place now) at ∙ ap Some is))

  on-aware : (u v : TrussState) (given : Bool) → GoesOn u given v → Aware o then v.leaving v.traced v.stage
  on-aware u v given (step.polls _ _) = tt
  on-aware u v given (step.unfollows on _ _) = on
  on-aware u v given (step.finishes _) = tt
  on-aware u v given (step.closes_first _ _ _) = tt
  on-aware u v given (step.opens_next _) = tt

  over-aware : (u v : TrussState) (place : ℕ) (pid : Option ℕ) → StopOver u place pid v
      → (u.leaving ≡ false → NamedAt o then u.traced place) → Aware o then v.leaving v.traced v.stage
  over-aware u v place pid (step.runs stays) known = known stays
  over-aware u v place pid (step.opens_child stays) known = known stays
  over-aware u v place pid (step.leaves _) known = tt
  over-aware u v place pid (step.frees_child _) known = tt

  not-leaving : {A : Type 0} → s.leaving ≡ true → s.leaving ≡ false → A
  not-leaving on off = absurd (false≢true (sym off ∙ on))

  reads-known : (stage : Stage) (place : ℕ) (l : _) → s.stage ≡ stage → Aware o xs s.leaving s.traced stage
      → Reads s x.reply stage place l → (s.leaving ≡ true) ⊎ NamedAt o then s.traced place
  reads-known stage place l at a (step.reads_status _) =
      inr (named-on _ (no-poll (ReadingStatus place) at (λ is. cc)) (status-runs place at) a)
  reads-known stage place l at a (step.reads_none _) =
      inr (named-on _ (no-poll (ReadingStatus place) at (λ is. cc)) (status-runs place at) a)
  reads-known stage place l at a (step.reads_lwps _) = inl a

  either : (place : ℕ) → (s.leaving ≡ true) ⊎ NamedAt o then s.traced place → s.leaving ≡ false
      → NamedAt o then s.traced place
  either place (inl on) off = not-leaving on off
  either place (inr known) off = known

  -- a process becomes another one with the same control file
  set-control : (ts : List Traced) (place other : ℕ) (t : Traced) → place < length ts
      → t.control ≡ (at_place ts place).control
      → (at_place (slice_set ts place t) other).control ≡ (at_place ts other).control
  set-control ts place other t within same_control = elim (cases_eq other place) [
    | inl is ↦ subst (λ q. (at_place (slice_set ts place t) q).control ≡ (at_place ts q).control) (sym is)
        (ap (λ (u : Traced). u.control) (set-at ts place t within) ∙ same_control)
    | inr apart ↦ ap (λ (u : Traced). u.control) (get_or-set_other ts place other t nobody apart)
  ]

  looks-aware : (stage : Stage) (place : ℕ) (pid : Option ℕ) (u : TrussState) → s.stage ≡ stage
      → Fits s.traced stage → Aware o xs s.leaving s.traced stage → Looks s x.reply stage place pid u
      → u.leaving ≡ false → NamedAt o then u.traced place
  looks-aware stage place pid u at f a (step.passes w) off =
      either place (reads-known stage place _ at a w.reads) off
  looks-aware stage place pid u at f a (step.passes_old reads _ _) off =
      subst (λ c. WasNamedLast o c then)
      (sym (set-control s.traced place place _ (reads-within s x.reply stage place _ f reads) refl))
      (either place (reads-known stage place _ at a reads) off)
  looks-aware stage place pid u at f a (step.passes_event reads _ _) off =
      either place (reads-known stage place _ at a reads) off
  looks-aware stage place pid u at f a (step.shows reads _ _ _) off =
      either place (reads-known stage place _ at a reads) off
  looks-aware stage place pid u at f a (step.shows_text {l = l} {from = from} {len = len}) off =
      elim a [
        | inl on ↦ not-leaving on off
        | inr known ↦
            named-on _ (no-poll (ReadingText place l from len) at (λ is. cc)) (text-runs place l from len at) known
      ]

  closes-aware : (stage : Stage) (place : ℕ) (next : AfterClosing) (u : TrussState) → s.stage ≡ stage
      → Aware o xs s.leaving s.traced stage → Closes s x.reply stage place next u
      → Aware o then u.leaving u.traced (Closing place next)
  closes-aware stage place next u at a (step.refuses_child {parent = parent} {now = now} _ _) =
      named-on _ (no-poll (OpeningChild parent place now) at (λ is. cc))
      (child-runs parent place now at a.1) a.0
  closes-aware stage place next u at a (step.child_ended {parent = parent} _) =
      named-on _ (no-poll (OpeningChild parent place child.Start) at (λ is. cc))
      (child-runs parent place child.Start at a.1) a.0
  closes-aware stage place next u at a (step.status_ended _) = tt
  closes-aware stage place next u at a (step.text_ended _) = tt
  closes-aware stage place next u at a (step.run_ended _) = tt
  closes-aware stage place next u at a (step.left_ended _) = tt
  closes-aware stage place next u at a (step.looked_last _) = tt
  closes-aware stage place next u at a step.freed_last = tt
  closes-aware stage place next u at a (step.freed_none _) = tt
  closes-aware stage place next u at a (step.refuses_free _ _) = tt
  closes-aware stage place next u at a (step.refuses_opening _ _) = tt

  -- the last call was the one of this stage
  ended : (control : ℕ) (c : Call) → Some c ≡ Some x.call → EndsOpening o control c → HasEnded o control then
  ended control c is ends =
      record { earlier = xs; last = x; is = refl; ends = subst (EndsOpening o control) (same_Some c x.call is) ends }

  opening-starts : (place : ℕ) (now next : OpeningStep) → s.stage ≡ Opening place now
      → step_after s.options x.reply now ≡ Some next → AtStart o (traced_at s place).control then next
  unfolding call_of opening_call step_after
  opening-starts place opening.TraceExits next at is = by s.options.follow next is
    where
      t : Traced
      t = traced_at s place

      by : (b : Bool) (to : OpeningStep) → Some (cond b opening.Follow opening.Start) ≡ Some to
          → AtStart o (traced_at s place).control then to
      by true to is = subst (AtStart o (traced_at s place).control then) (same_Some _ to is) tt
      by false to is =
          subst (AtStart o (traced_at s place).control then) (same_Some _ to is)
          (ended _ _ (called (Opening place opening.TraceExits) at)
          (subst (λ p. EndsOpening o t.control (opening_call p t opening.TraceExits)) (sym same) traced))
  opening-starts place opening.Follow next at is =
      subst (AtStart o (traced_at s place).control then) (same_Some _ next is)
      (ended _ _ (called (Opening place opening.Follow) at) followed)
  opening-starts place opening.Start next at is = absurd (none-some next is)
  opening-starts place opening.OpenStatus next at is = subst (AtStart o _ then) (same_Some _ next is) tt
  opening-starts place opening.OpenLstatus next at is = subst (AtStart o _ then) (same_Some _ next is) tt
  opening-starts place opening.OpenMemory next at is = subst (AtStart o _ then) (same_Some _ next is) tt
  opening-starts place opening.ClearModes next at is = subst (AtStart o _ then) (same_Some _ next is) tt
  opening-starts place opening.SetRelease next at is = subst (AtStart o _ then) (same_Some _ next is) tt
  opening-starts place opening.Stop next at is = subst (AtStart o _ then) (same_Some _ next is) tt
  opening-starts place (opening.AwaitStop until) next at is = subst (AtStart o _ then) (same_Some _ next is) tt
  opening-starts place opening.ReadLwps next at is = subst (AtStart o _ then) (same_Some _ next is) tt
  opening-starts place opening.TraceSignals next at is = subst (AtStart o _ then) (same_Some _ next is) tt
  opening-starts place opening.TraceFaults next at is = subst (AtStart o _ then) (same_Some _ next is) tt
  opening-starts place opening.TraceEntries next at is = subst (AtStart o _ then) (same_Some _ next is) tt

  child-starts : (parent place : ℕ) (now next : ChildStep) → s.stage ≡ OpeningChild parent place now
      → child_step_after now ≡ Some next → AtChildStart o (traced_at s place).control then next
  unfolding call_of child_call child_step_after
  child-starts parent place child.OpenMemory next at is =
      subst (AtChildStart o (traced_at s place).control then) (same_Some child.Start next is)
      (ended _ _ (called (OpeningChild parent place child.OpenMemory) at) as_child)
  child-starts parent place child.SetRelease next at is =
      subst (AtChildStart o _ then) (same_Some child.OpenStatus next is) tt
  child-starts parent place child.OpenStatus next at is =
      subst (AtChildStart o _ then) (same_Some child.OpenLstatus next is) tt
  child-starts parent place child.OpenLstatus next at is =
      subst (AtChildStart o _ then) (same_Some child.OpenMemory next is) tt
  child-starts parent place child.Start next at is = absurd (none-some next is)

  learnt-control : (t : Traced) (now : OpeningStep) → (learnt t x.reply now).control ≡ t.control
  unfolding learnt
  learnt-control t opening.OpenStatus = refl
  learnt-control t _ = refl

  child-control : (t : Traced) (now : ChildStep) → (child_learnt t x.reply now).control ≡ t.control
  unfolding child_learnt
  child-control t child.SetRelease = refl
  child-control t _ = refl

  learns-aware : (stage next : Stage) (place : ℕ) (t : Traced) → s.stage ≡ stage → Fits s.traced stage
      → Aware o xs s.leaving s.traced stage → Learns s x.reply stage place t next
      → Aware o then s.leaving (slice_set s.traced place t) next
  learns-aware stage next place t at f a (step.opening_goes {now = now} {next = to} after) =
      subst (λ c. AtStart o c then to)
      (sym (set-control s.traced place place t f.0 (learnt-control (traced_at s place) now)))
      (opening-starts place now to at after)
  learns-aware stage next place t at f a (step.child_goes {parent = parent} {now = now} {next = to} after) =
      let within = last-within s.traced parent place f.0 in
      let control = child-control (traced_at s place) now in (
        subst (λ c. WasNamedLast o c then) (sym (set-control s.traced place parent t within control))
            (named-on _ (no-poll (OpeningChild parent place now) at (λ is. cc))
            (child-runs parent place now at a.1) a.0),
        subst (λ c. AtChildStart o c then to) (sym (set-control s.traced place place t within control))
            (child-starts parent place now to at after),
      )

  opens-aware : (stage next : Stage) (pid : ℕ) → s.stage ≡ stage → Fits s.traced stage
      → Aware o xs s.leaving s.traced stage → Opens (length s.traced) stage pid next
      → Aware o then s.leaving (s.traced ++ newly_traced pid (handle_in x.reply) ∷ []) next
  opens-aware stage next pid at f a step.new_given = tt
  opens-aware stage next pid at f a (step.new_child {parent = parent}) = (
    subst (λ (u : Traced). WasNamedLast o u.control then)
        (sym (get_or_append_left s.traced (newly_traced pid (handle_in x.reply) ∷ []) nobody parent f))
        (named-on _ (no-poll (OpeningChildControl parent pid) at (λ is. cc))
        (control-runs parent pid at) a),
    tt,
  )

  returns-aware : (stage : Stage) (parent : ℕ) (u : TrussState) → s.stage ≡ stage → Fits s.traced stage
      → Aware o xs s.leaving s.traced stage → Returns s x.reply stage parent u → NamedAt o then u.traced parent
  returns-aware stage parent u at f a (step.refuses_child_control {pid = pid} _ _) =
      named-on _ (no-poll (OpeningChildControl parent pid) at (λ is. cc))
      (control-runs parent pid at) a
  returns-aware stage parent u at f a (step.child_runs {place = place} _) =
      named-on _ (no-poll (OpeningChild parent place child.Start) at (λ is. cc))
      (child-runs parent place child.Start at a.1) a.0
  returns-aware stage parent u at f a (step.child_closed {place = place} _) =
      let last : IsLast s.traced parent place = f.1 in
      subst (λ (t : Traced). WasNamedLast o t.control then)
      (sym (get_or-remove_below s.traced place nobody parent last.behind f.0))
      (named-on _ (no-poll (Closing place (RunParent parent)) at (λ is. cc))
      (closing-runs place (RunParent parent) at) a)

  ready-is : (r : Reply) (handle : ℕ) → ready_in r ≡ Some handle → r ≡ reply.Ready handle
  unfolding ready_in
  ready-is (reply.Ready other) handle is = ap reply.Ready (same_Some other handle is)
  ready-is _ handle is = absurd (none-some handle is)

  polled : (place : ℕ) → s.stage ≡ Polling
      → option_and_then (λ handle. position (has_control handle) s.traced) (ready_in x.reply) ≡ Some place
      → NamedAt o then s.traced place
  unfolding call_of
  polled place at is = by (ready_in x.reply) refl is
    where
      by : (y : Option ℕ) → ready_in x.reply ≡ y
          → option_and_then (λ handle. position (has_control handle) s.traced) y ≡ Some place
          → NamedAt o then s.traced place
      by None ready found = absurd (none-some place found)
      by (Some handle) ready found =
          let p = position-Some (has_control handle) s.traced place nobody found in
          let control : (at_place s.traced place).control ≡ handle = eqb-true _ handle p.1 in
          let handles : List ℕ = map (λ (u : Traced). u.control) s.traced in
          let call_is : x.call ≡ call.Poll handles = sym (same_Some _ x.call (called Polling at)) in
          subst (λ c. WasNamedLast o c then) (sym control) (record {
            before = xs;
            handles = handles;
            after = [];
            is =
                ap (λ (c : Call). let y : Exchange = record { call = c; reply = x.reply } in xs ++ y ∷ []) call_is
                ∙ ap (λ (r : Reply). let y : Exchange = record { call = call.Poll handles; reply = r } in xs ++ y ∷ [])
                (ready-is x.reply handle ready);
            none = All-nil IsNoPoll;
            once = record { each = λ b a c r is. none-within b a _ is };
          })

  turns-aware : (stage next : Stage) → s.stage ≡ stage → Aware o xs s.leaving s.traced stage
      → Turns s x.reply stage next → Aware o then s.leaving s.traced next
  turns-aware stage next at a (step.is_named {place = place} is) = polled place at is
  turns-aware stage next at a step.unfollowed = a
  turns-aware stage next at a (step.starts _) = tt
  turns-aware stage next at a step.polls_again = tt
  turns-aware stage next at a (step.frees _) = tt
  turns-aware stage next at a step.frees_on = tt
  turns-aware stage next at a step.has_finished = tt

  step-aware : (stage : Stage) (v : TrussState) → s.stage ≡ stage → Fits s.traced stage
      → Aware o xs s.leaving s.traced stage → ReplyStep s x.reply stage v
      → Aware o then v.leaving v.traced v.stage
  step-aware stage v at f a (step.settles {u = u} w on) = on-aware u v _ on
  step-aware stage v at f a (step.looks {place = place} {pid = pid} {u = u} w over) =
      over-aware u v place pid over (looks-aware stage place pid u at f a w)
  step-aware stage v at f a (step.asks {place = place} reads _ _ _) = reads-known stage place _ at a reads
  step-aware stage v at f a (step.closes {place = place} {next = next} {u = u} w) =
      closes-aware stage place next u at a w
  step-aware stage v at f a (step.loses {place = place} {next = next} {t = t} _) = by next at f a
    where
      by : (to : AfterClosing) → s.stage ≡ Closing place to → Fits s.traced (Closing place to)
          → Aware o xs s.leaving s.traced (Closing place to)
          → Aware o then s.leaving (slice_set s.traced place t) (Closing place to)
      by (RunParent parent) is g b =
          let last : IsLast s.traced parent place = g.1 in
          subst (λ (u : Traced). WasNamedLast o u.control then)
          (sym (get_or-set_other s.traced place parent t nobody (λ same. absurd (omega (arith, same, last.behind)))))
          (named-on _ (no-poll (Closing place (RunParent parent)) is (λ e. cc))
          (closing-runs place (RunParent parent) is) b)
      by OpenNext is g b = tt
      by GoOn is g b = tt
  step-aware stage v at f a (step.opens {next = next} {pid = pid} _ w) = opens-aware stage next pid at f a w
  step-aware stage v at f a (step.learns {next = next} {place = place} {t = t} _ w) =
      learns-aware stage next place t at f a w
  step-aware stage v at f a (step.returns {parent = parent} {u = u} w) = returns-aware stage parent u at f a w
  step-aware stage v at f a (step.turns {next = next} w) = turns-aware stage next at a w

  pub fed-aware : Fits s.traced s.stage → Aware o xs s.leaving s.traced s.stage
      → Aware o then (fed s x.reply).leaving (fed s x.reply).traced (fed s x.reply).stage
  fed-aware f a = step-aware s.stage (fed s x.reply) refl f a (fed-step s x.reply)

-- ---- a PCRUN

module _ (o : Options) (xs : List Exchange) (s : TrussState) (control : ℕ) where
  abbrev run : Call
  run = message_call control (message.Run 0)

  ends-may : (c : ℕ) → HasEnded o c xs → message_call c (message.Run 0) ≡ run → MayRun o control xs
  ends-may c w is = subst (λ n. MayRun o n xs) (same-control control is) (opened w)

  opening-runs : (t : Traced) (now : OpeningStep) → AtStart o t.control xs now
      → opening_call s.options t now ≡ run → MayRun o control xs
  unfolding opening_call message_code
  opening-runs t opening.Start a is = ends-may t.control a is
  opening-runs t opening.OpenStatus a is = cc
  opening-runs t opening.OpenLstatus a is = cc
  opening-runs t opening.OpenMemory a is = cc
  opening-runs t (opening.AwaitStop until) a is = cc
  opening-runs t opening.ReadLwps a is = cc
  opening-runs t opening.ClearModes a is = other-message control t.control (message.Unset all_modes) refl is
  opening-runs t opening.SetRelease a is = other-message control t.control (message.Set rlc_mode) refl is
  opening-runs t opening.Stop a is = other-message control t.control message.Stop refl is
  opening-runs t opening.TraceSignals a is =
      other-message control t.control (message.Strace (traced_signals s.options)) refl is
  opening-runs t opening.TraceFaults a is =
      other-message control t.control (message.Sfault (traced_faults s.options)) refl is
  opening-runs t opening.TraceEntries a is =
      other-message control t.control (message.Sentry (traced_entries s.options)) refl is
  opening-runs t opening.TraceExits a is =
      other-message control t.control (message.Sexit (traced_exits s.options)) refl is
  opening-runs t opening.Follow a is = other-message control t.control (message.Set fork_mode) refl is

  freeing-runs : (pid : ℕ) (now : FreeingStep) → freeing_call pid now ≡ run → MayRun o control xs
  unfolding freeing_call message_code
  freeing-runs pid freeing.OpenControl is = cc
  freeing-runs pid (freeing.SetRelease c) is = other-message control c (message.Set rlc_mode) refl is
  freeing-runs pid (freeing.Close c) is = cc

  stage-runs : (stage : Stage) → Aware o xs s.leaving s.traced stage → call_of s stage ≡ Some run
      → MayRun o control xs
  unfolding call_of message_code
  stage-runs (Opening place now) a is = opening-runs (traced_at s place) now a (same_Some _ _ is)
  stage-runs (OpeningChild parent place now) a is =
      opened (child-ends o xs control (traced_at s place) now a.1 (same_Some _ _ is))
  stage-runs (Running place) a is =
      named (subst (λ c. WasNamedLast o c xs) (same-control control (same_Some _ _ is)) a)
  stage-runs Unfollowing a is =
      other-message control (traced_at s 0).control (message.Unset fork_mode) refl (same_Some _ _ is)
  stage-runs (FreeingChild pid now) a is = freeing-runs pid now (same_Some _ _ is)
  stage-runs Finished a is = absurd (none-some run is)
  stage-runs _ a is = cc

  next-runs : Aware o xs s.leaving s.traced s.stage → next_call_of s ≡ Some run → MayRun o control xs
  unfolding next_call_of
  next-runs a is = stage-runs s.stage a is

-- ---- the exchanges

walk : (o : Options) (front xs : List Exchange) (s : TrussState) → s.options ≡ o → Fits s.traced s.stage
    → Aware o front s.leaving s.traced s.stage → Makes s xs → (before after : List Exchange) (control : ℕ) (r : Reply)
    → xs ≡ before ++ record { call = message_call control (message.Run 0); reply = r } ∷ after
    → MayRun o control (front ++ before)
walk o front [] s same f a makes [] after control r is = cc
walk o front [] s same f a makes (y ∷ before) after control r is = cc
walk o front (z ∷ xs) s same f a makes [] after control r is =
    let first : z ≡ record { call = message_call control (message.Run 0); reply = r } = cc in
    subst (MayRun o control) (sym (append-nil front))
    (next-runs o front s control a (makes.0 ∙ ap (λ (y : Exchange). Some y.call) first))
walk o front (z ∷ xs) s same f a makes (y ∷ before) after control r is =
    let first : z ≡ y = cc in
    let rest : xs ≡ before ++ record { call = message_call control (message.Run 0); reply = r } ∷ after = cc in
    subst (MayRun o control)
    (append_assoc front (z ∷ []) before ∙ ap (λ (w : Exchange). front ++ w ∷ before) first)
    (walk o (front ++ z ∷ []) xs (fed s z.reply) (fed-options s z.reply ∙ same) (fed-fits s z.reply f)
    (fed-aware o front s z same makes.0 f a) makes.1 before after control r rest)

named-first : (o : Options) (p : Option ℕ)
    → (Aware o [] (opening_or (idle o) (idle o) p).leaving (opening_or (idle o) (idle o) p).traced
    (opening_or (idle o) (idle o) p).stage) × ((opening_or (idle o) (idle o) p).options ≡ o)
named-first o None = (tt, refl)
named-first o (Some pid) = (tt, refl)

program-first : (o : Options) (p : Option (List ℕ))
    → (Aware o [] (first_of_program o p).leaving (first_of_program o p).traced (first_of_program o p).stage)
    × ((first_of_program o p).options ≡ o)
program-first o None = named-first o (slice_get o.pids 0)
program-first o (Some program) = (tt, refl)

first-aware : (o : Options)
    → (Aware o [] (first_truss o).leaving (first_truss o).traced (first_truss o).stage)
    × ((first_truss o).options ≡ o)
unfolding first_truss
first-aware o = program-first o o.program

pub runs-named : (o : Options) (xs : List Exchange) → Makes (first_truss o) xs → RunsWhatWasNamed o xs
runs-named o xs makes = record {
  each = λ before after control r is.
      let a = first-aware o in
      walk o [] xs (first_truss o) a.1 (first-fits o) a.0 makes before after control r is;
}

pub ruleset named_runs = (runs-named)
