use Rattle.std.proofs.Common.{◌≡◌, ℕ, Bool, true, false, cond, Option, Some, None, List, [], ◌∷◌, ◌++◌, length, refl, sym, subst, ap, ◌∙◌, append_assoc}
use Rattle.std.proofs.lemmas.Bool.{false≢true}
use Rattle.std.proofs.lemmas.List.{append-nil}
use Rattle.std.proofs.lemmas.Option.{none-some, same_Some}
use Rattle.std.specs.List.{slice_get, slice_set}
use Rattle.pr_line.specs.declared.options.Options.{Options}
use Rattle.pr_model.specs.declared.calls.Call.{Call}
use Rattle.pr_model.specs.declared.calls.Reply.{Reply}
use Rattle.pr_truss.specs.Children.{child_learnt, child_step_after}
use Rattle.pr_truss.specs.Feeding.{fed}
use Rattle.pr_truss.specs.NextCalls.{call_of, child_call, freeing_call, next_call_of, opening_call}
use Rattle.pr_truss.specs.Openings.{learnt, step_after}
use Rattle.pr_truss.specs.Trusses.{TrussState, first_of_program, first_truss, idle, opening_or, traced_at}
use Rattle.pr_truss.specs.declared.processes.Traced.{Traced}
use Rattle.pr_truss.specs.declared.stages.ChildStep.{ChildStep}
use Rattle.pr_truss.specs.declared.stages.ChildStep.TheVariants as child
use Rattle.pr_truss.specs.declared.stages.OpeningStep.{OpeningStep}
use Rattle.pr_truss.specs.declared.stages.OpeningStep.TheVariants as opening
use Rattle.pr_truss.specs.declared.stages.Stage.{Stage}
use Rattle.pr_truss_laws.proofs.Files.ClosesLemmas.{first-fits}
use Rattle.pr_truss_laws.proofs.Replies.FedSteps.{fed-step}
use Rattle.pr_truss_laws.proofs.Replies.FitLemmas.{fed-fits, last-within}
use Rattle.pr_truss_laws.proofs.Files.HeldLemmas.{Fits, at_place, set-at}
use Rattle.pr_truss_laws.proofs.Replies.OptionLemmas.{fed-options}
use Rattle.pr_truss_laws.proofs.Replies.ReplySteps as step
use Rattle.pr_truss_laws.proofs.Replies.ReplySteps.{GoesOn, Learns, Opens, ReplyStep, StopOver, Turns}
use Rattle.pr_truss_laws.specs.Exchanges.{Exchange, Makes}
use Rattle.pr_truss_laws.specs.Sent.{IsInOrder, MaySendNext, SendsInOrder, clears, follows, opens, releases, releases_child, runs, sends, stops, traces_entries, traces_exits, traces_faults, traces_signals, unfollows, waits}

-- Each message of truss has its place.

-- ---- the next call

-- where the call of a state sends a message, it may come after this call
abbrev Comes : Options → Call → Option Call → Type 0
Comes o last None = Unit {0}
Comes o last (Some c) = sends c ≡ true → MaySendNext o last c

silent : (o : Options) (last c : Call) → sends c ≡ false → Comes o last (Some c)
silent o last c none sent = absurd (false≢true (sym none ∙ sent))

-- the steps of the opening of a process that truss was given
module _ (o : Options) (r : Reply) (t : Traced) where
  abbrev Follows : OpeningStep → OpeningStep → Type 0
  Follows now to = Comes o (opening_call o t now) (Some (opening_call o (learnt t r now) to))

  last-step : (b : Bool) → o.follow ≡ b → Follows opening.TraceExits (cond b opening.Follow opening.Start)
  unfolding opening_call learnt
  last-step true is = λ sent. opens (follows is)
  last-step false is = λ sent. runs

  opening-follows : (now next : OpeningStep) → step_after o r now ≡ Some next → Follows now next
  unfolding opening_call learnt step_after
  opening-follows opening.OpenStatus to is = subst (Follows opening.OpenStatus) (same_Some _ to is) (silent o _ _ refl)
  opening-follows opening.OpenLstatus to is =
      subst (Follows opening.OpenLstatus) (same_Some _ to is) (silent o _ _ refl)
  opening-follows opening.OpenMemory to is =
      subst (Follows opening.OpenMemory) (same_Some _ to is) (λ sent. opens clears)
  opening-follows opening.ClearModes to is =
      subst (Follows opening.ClearModes) (same_Some _ to is) (λ sent. opens releases)
  opening-follows opening.SetRelease to is =
      subst (Follows opening.SetRelease) (same_Some _ to is) (λ sent. opens stops)
  opening-follows opening.Stop to is = subst (Follows opening.Stop) (same_Some _ to is) (λ sent. opens waits)
  opening-follows (opening.AwaitStop until) to is =
      subst (Follows (opening.AwaitStop until)) (same_Some _ to is) (silent o _ _ refl)
  opening-follows opening.ReadLwps to is =
      subst (Follows opening.ReadLwps) (same_Some _ to is) (λ sent. opens traces_signals)
  opening-follows opening.TraceSignals to is =
      subst (Follows opening.TraceSignals) (same_Some _ to is) (λ sent. opens traces_faults)
  opening-follows opening.TraceFaults to is =
      subst (Follows opening.TraceFaults) (same_Some _ to is) (λ sent. opens traces_entries)
  opening-follows opening.TraceEntries to is =
      subst (Follows opening.TraceEntries) (same_Some _ to is) (λ sent. opens traces_exits)
  opening-follows opening.TraceExits to is =
      subst (Follows opening.TraceExits) (same_Some _ to is) (last-step o.follow refl)
  opening-follows opening.Follow to is = subst (Follows opening.Follow) (same_Some _ to is) (λ sent. runs)
  opening-follows opening.Start to is = absurd (none-some to is)

-- those of the opening of a child
child-follows : (o : Options) (r : Reply) (t : Traced) (now next : ChildStep) → child_step_after now ≡ Some next
    → Comes o (child_call t now) (Some (child_call (child_learnt t r now) next))
unfolding child_call child_learnt child_step_after
child-follows o r t child.SetRelease next is =
    subst (λ to. Comes o (child_call t child.SetRelease) (Some (child_call (child_learnt t r child.SetRelease) to)))
    (same_Some child.OpenStatus next is) (silent o _ _ refl)
child-follows o r t child.OpenStatus next is =
    subst (λ to. Comes o (child_call t child.OpenStatus) (Some (child_call (child_learnt t r child.OpenStatus) to)))
    (same_Some child.OpenLstatus next is) (silent o _ _ refl)
child-follows o r t child.OpenLstatus next is =
    subst (λ to. Comes o (child_call t child.OpenLstatus) (Some (child_call (child_learnt t r child.OpenLstatus) to)))
    (same_Some child.OpenMemory next is) (silent o _ _ refl)
child-follows o r t child.OpenMemory next is =
    subst (λ to. Comes o (child_call t child.OpenMemory) (Some (child_call (child_learnt t r child.OpenMemory) to)))
    (same_Some child.Start next is) (λ sent. runs)
child-follows o r t child.Start next is = absurd (none-some next is)

module _ (o : Options) (last : Call) where
  on-sends : (u v : TrussState) (given : Bool) → GoesOn u given v → Comes o last (call_of v v.stage)
  unfolding call_of
  on-sends u v given (step.finishes _) = tt
  on-sends u v given (step.polls _ _) = silent o last _ refl
  on-sends u v given (step.unfollows _ _ _) = λ sent. unfollows
  on-sends u v given (step.closes_first _ _ _) = silent o last _ refl
  on-sends u v given (step.opens_next _) = silent o last _ refl

  over-sends : (u v : TrussState) (place : ℕ) (pid : Option ℕ) → StopOver u place pid v
      → Comes o last (call_of v v.stage)
  unfolding call_of freeing_call
  over-sends u v place pid (step.runs _) = λ sent. runs
  over-sends u v place pid (step.leaves _) = silent o last _ refl
  over-sends u v place pid (step.opens_child _) = silent o last _ refl
  over-sends u v place pid (step.frees_child _) = silent o last _ refl

-- the call of this state, and what comes after each reply
abbrev ComesAfter : Options → Option Call → Option Call → Type 0
ComesAfter o None next = Unit {0}
ComesAfter o (Some last) next = Comes o last next

any : (o : Options) (last next : Option Call) → ((c : Call) → Comes o c next) → ComesAfter o last next
any o None next so = tt
any o (Some c) next so = so c

module _ (o : Options) (s : TrussState) (r : Reply) (same : s.options ≡ o) where
  learns-sends : (stage next : Stage) (place : ℕ) (t : Traced) (v : TrussState) → Fits s.traced stage
      → Learns s r stage place t next → v.options ≡ o → v.traced ≡ slice_set s.traced place t
      → ComesAfter o (call_of s stage) (call_of v next)
  unfolding call_of
  learns-sends stage goes place t v f (step.opening_goes {now = now} {next = next} after) options traced =
      subst
      (λ p. Comes o (opening_call p (traced_at s place) now) (Some (opening_call v.options (traced_at v place) next)))
      (sym same)
      (subst (λ p. Comes o (opening_call o (traced_at s place) now) (Some (opening_call p (traced_at v place) next)))
      (sym options)
      (subst (λ u. Comes o (opening_call o (traced_at s place) now) (Some (opening_call o u next)))
      (sym (ap (λ ts. at_place ts place) traced ∙ set-at s.traced place t f.0))
      (opening-follows o r (traced_at s place) now next (ap (λ p. step_after p r now) (sym same) ∙ after))))
  learns-sends stage goes place t v f (step.child_goes {parent = parent} {now = now} {next = next} after) options
      traced =
      subst (λ u. Comes o (child_call (traced_at s place) now) (Some (child_call u next)))
      (sym (ap (λ ts. at_place ts place) traced ∙ set-at s.traced place t (last-within s.traced parent place f.0)))
      (child-follows o r (traced_at s place) now next after)

  opens-sends : (stage next : Stage) (pid : ℕ) (v : TrussState) → Opens (length s.traced) stage pid next
      → ComesAfter o (call_of s stage) (call_of v next)
  unfolding call_of opening_call child_call
  opens-sends stage next pid v step.new_given = silent o _ _ refl
  opens-sends stage next pid v step.new_child = λ sent. opens releases_child

  turns-sends : (stage next : Stage) (v : TrussState) → Turns s r stage next
      → ComesAfter o (call_of s stage) (call_of v next)
  unfolding call_of freeing_call
  turns-sends stage next v (step.starts _) = silent o _ _ refl
  turns-sends stage next v step.polls_again = silent o _ _ refl
  turns-sends stage next v (step.is_named _) = silent o _ _ refl
  turns-sends stage next v step.unfollowed = silent o _ _ refl
  turns-sends stage next v (step.frees _) = λ sent. opens releases_child
  turns-sends stage next v step.frees_on = silent o _ _ refl
  turns-sends stage next v step.has_finished = tt

  step-sends : (stage : Stage) (v : TrussState) → Fits s.traced stage → v.options ≡ o → ReplyStep s r stage v
      → ComesAfter o (call_of s stage) (call_of v v.stage)
  unfolding call_of
  step-sends stage v f options (step.settles w on) = any o (call_of s stage) _ (λ c. on-sends o c _ v _ on)
  step-sends stage v f options (step.looks w over) = any o (call_of s stage) _ (λ c. over-sends o c _ v _ _ over)
  step-sends stage v f options (step.asks _ _ _ _) = any o (call_of s stage) _ (λ c. silent o c _ refl)
  step-sends stage v f options (step.closes w) = any o (call_of s stage) _ (λ c. silent o c _ refl)
  step-sends stage v f options (step.loses _) = silent o _ _ refl
  step-sends stage v f options (step.opens _ w) = opens-sends stage _ _ v w
  step-sends stage v f options (step.learns _ w) = learns-sends stage _ _ _ v f w options refl
  step-sends stage v f options (step.returns w) = any o (call_of s stage) _ (λ c sent. runs)
  step-sends stage v f options (step.turns w) = turns-sends stage _ v w

  fed-sends : Fits s.traced s.stage → ComesAfter o (next_call_of s) (next_call_of (fed s r))
  unfolding next_call_of
  fed-sends f = step-sends s.stage (fed s r) f (fed-options s r ∙ same) (fed-step s r)

-- ---- the exchanges

-- truss has come to a state by these exchanges: what it sends next comes in order
abbrev IsReady : Options → List Exchange → Option Call → Type 0
IsReady o xs None = Unit {0}
IsReady o xs (Some c) = sends c ≡ true → IsInOrder o xs c

ready-after : (o : Options) (front : List Exchange) (x : Exchange) (last next : Option Call) → last ≡ Some x.call
    → ComesAfter o last next → IsReady o (front ++ x ∷ []) next
ready-after o front x None next is comes = absurd (none-some x.call is)
ready-after o front x (Some c) None is comes = tt
ready-after o front x (Some c) (Some d) is comes = λ sent. record {
  earlier = front;
  last = x;
  is = refl;
  may = subst (λ l. MaySendNext o l d) (same_Some c x.call is) (comes sent);
}

module _ (o : Options) where
  walk : (front xs : List Exchange) (s : TrussState) → s.options ≡ o → Fits s.traced s.stage
      → IsReady o front (next_call_of s) → Makes s xs → (before after : List Exchange) (x : Exchange)
      → xs ≡ before ++ x ∷ after → sends x.call ≡ true → IsInOrder o (front ++ before) x.call
  walk front [] s same f ready makes [] after x is sent = cc
  walk front [] s same f ready makes (y ∷ before) after x is sent = cc
  walk front (z ∷ xs) s same f ready makes [] after x is sent =
      let first : z ≡ x = cc in
      let here : IsReady o front (Some x.call) =
      subst (IsReady o front) (makes.0 ∙ ap (λ (y : Exchange). Some y.call) first) ready in
      subst (λ ys. IsInOrder o ys x.call) (sym (append-nil front)) (here sent)
  walk front (z ∷ xs) s same f ready makes (y ∷ before) after x is sent =
      let first : z ≡ y = cc in
      let rest : xs ≡ before ++ x ∷ after = cc in
      subst (λ ys. IsInOrder o ys x.call)
      (append_assoc front (z ∷ []) before ∙ ap (λ (w : Exchange). front ++ w ∷ before) first)
      (walk (front ++ z ∷ []) xs (fed s z.reply) (fed-options s z.reply ∙ same) (fed-fits s z.reply f)
      (ready-after o front z (next_call_of s) (next_call_of (fed s z.reply)) makes.0 (fed-sends o s z.reply same f))
      makes.1 before after x rest sent)

named-first : (o : Options) (p : Option ℕ)
    → (IsReady o [] (call_of (opening_or (idle o) (idle o) p) (opening_or (idle o) (idle o) p).stage))
    × ((opening_or (idle o) (idle o) p).options ≡ o)
unfolding call_of
named-first o None = (tt, refl)
named-first o (Some pid) = (λ sent. absurd (false≢true sent), refl)

program-first : (o : Options) (p : Option (List ℕ))
    → (IsReady o [] (call_of (first_of_program o p) (first_of_program o p).stage))
    × ((first_of_program o p).options ≡ o)
unfolding call_of
program-first o None = named-first o (slice_get o.pids 0)
program-first o (Some program) = (λ sent. absurd (false≢true sent), refl)

first-ready : (o : Options) → (IsReady o [] (next_call_of (first_truss o))) × ((first_truss o).options ≡ o)
unfolding next_call_of first_truss
first-ready o = program-first o o.program

pub sends-in-order : (o : Options) (xs : List Exchange) → Makes (first_truss o) xs → SendsInOrder o xs
sends-in-order o xs makes = record {
  each = λ before after x is sent.
      let ready = first-ready o in
      walk o [] xs (first_truss o) ready.1 (first-fits o) ready.0 makes before after x is sent;
}
