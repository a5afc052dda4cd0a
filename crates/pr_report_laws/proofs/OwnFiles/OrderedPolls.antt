use Rattle.std.proofs.Common.{◌≡◌, ◌<◌, ◌++◌, ℕ, Bool, true, false, filter, Option, Some, None, List, [], ◌∷◌, length, position, refl, sym, subst, ap, ◌∙◌, inl, inr}
use Rattle.std.proofs.lemmas.Bool.{cases_Bool, false≢true}
use Rattle.std.proofs.lemmas.Option.{none-some, same_Some}
use Rattle.std.specs.List.{cons_option}
use Rattle.pr_line.specs.declared.options.Options.{Options}
use Rattle.pr_model.specs.Handles.{handle_of, is_control}
use Rattle.pr_model.specs.Legal.{IsLegal, after}
use Rattle.pr_model.specs.Replies.{handle_in}
use Rattle.pr_model.specs.State.{TracedState}
use Rattle.pr_model.specs.declared.calls.Call.{Call}
use Rattle.pr_model.specs.declared.calls.Call.TheVariants as call
use Rattle.pr_model.specs.declared.calls.File.{File}
use Rattle.pr_model.specs.declared.calls.File.TheVariants as file
use Rattle.pr_model.specs.declared.calls.Mode.{Mode}
use Rattle.pr_model.specs.declared.calls.Reply.{Reply}
use Rattle.pr_model.specs.declared.events.Entry.{Entry}
use Rattle.pr_model.specs.declared.handles.Held.{Held}
use Rattle.pr_num.specs.declared.errnos.Errno.{Errno}
use Rattle.pr_truss.specs.Children.{with_child_control, with_child_control_answered}
use Rattle.pr_truss.specs.Closings.{after_closing, closed_or_removed}
use Rattle.pr_truss.specs.Feeding.{fed, with_reply}
use Rattle.pr_truss.specs.NextCalls.{call_of, child_call, next_call_of, open_control, opening_call}
use Rattle.pr_truss.specs.Openings.{with_control, with_control_answered}
use Rattle.pr_truss.specs.Processes.{last_handle, newly_traced, without_last}
use Rattle.pr_truss.specs.Replies.{answer_of}
use Rattle.pr_truss.specs.Stops.{has_control}
use Rattle.pr_truss.specs.Trusses.{TrussState, first_truss, traced_at, without_traced}
use Rattle.pr_truss.specs.declared.processes.Traced.{Traced}
use Rattle.pr_truss.specs.declared.replies.Answer.TheVariants.{Accepted}
use Rattle.pr_truss.specs.declared.stages.AfterClosing.{AfterClosing}
use Rattle.pr_truss.specs.declared.stages.AfterClosing.TheVariants.{OpenNext, GoOn, RunParent}
use Rattle.pr_truss.specs.declared.stages.ChildStep.{ChildStep}
use Rattle.pr_truss.specs.declared.stages.ChildStep.TheVariants as child
use Rattle.pr_truss.specs.declared.stages.OpeningStep.{OpeningStep}
use Rattle.pr_truss.specs.declared.stages.OpeningStep.TheVariants as opening
use Rattle.pr_truss.specs.declared.stages.Stage.{Stage}
use Rattle.pr_truss.specs.declared.stages.Stage.TheVariants.{Spawning, OpeningControl, Opening, Polling, ReadingStatus, ReadingText, OpeningChildControl, OpeningChild, Running, Closing, Unfollowing, ReadingLwps, FreeingChild, Finished}
use Rattle.pr_truss_laws.proofs.Files.HeldLemmas.{Fits, close-fed}
use Rattle.pr_truss_laws.proofs.Files.OwnLemmas.{Owns}
use Rattle.pr_truss_laws.proofs.Replies.FedSteps.{goes-on, opens-next}
use Rattle.pr_truss_laws.proofs.Replies.ReplySteps.{on-staged}
use Rattle.pr_truss_laws.proofs.Replies.TracedChanges as change
use Rattle.pr_truss_laws.proofs.Replies.TracedChanges.{TracedChange, fed-change}
use Rattle.pr_truss_laws.specs.Exchanges.{Exchange, Makes, errno_in, exchange_of, exchanges}
use Rattle.pr_truss_laws.specs.Runs.{IsTrussRun}
use Rattle.pr_report_laws.proofs.Files.FileLaws.{HasFiles, IsFileOf}
use Rattle.pr_report_laws.proofs.Files.FileSteps.{MakesNext, makes-next}
use Rattle.pr_report_laws.proofs.Files.FileUses.{polled-place}
use Rattle.pr_report_laws.proofs.Files.WatchHistories.{Reaches, cons-exchanges, entry-reaches, first-reaches, no-exchanges}
use Rattle.pr_report_laws.proofs.Invariant.OpeningRuns.{granted-accepted}
use Rattle.pr_report_laws.proofs.Invariant.StandLemmas.{Leaves, Stands}
use Rattle.pr_report_laws.proofs.OwnFiles.ControlLists.{IsOtherFile, controls_of, loses-control, loses-other, more-controls, none-gone, one-gone, same-controls}
use Rattle.pr_report_laws.proofs.UnopenedChildren.Births.{first-traced}
use Rattle.pr_report_laws.proofs.Watching.LeavingOn.{fed-leaves}
use Rattle.pr_report_laws.proofs.Watching.NamedSoon.{poll-stage}
use Rattle.pr_report_laws.specs.PollOrder.{PollsInOrder, controls_from, controls_then, is_other, with_granted}
use Rattle.pr_report_laws.specs.Watching.{with_exchange}

-- Truss polls its processes in the order in which it opened them: as long as it goes on, the control files of those
-- that it traces are those that its exchanges have left open, in the same order.

-- ---- calls that leave the control files

abbrev pub keeps_controls : Call → Bool
keeps_controls (call.Open pid id file.Ctl mode) = false
keeps_controls (call.Close handle) = false
keeps_controls _ = true

pub kept-then : (handles : List ℕ) (c : Call) (r : Reply) → keeps_controls c ≡ true
    → controls_then handles c r ≡ handles
kept-then handles (call.Open pid id file.Ctl mode) r keeps = absurd (false≢true keeps)
kept-then handles (call.Close closed) r keeps = absurd (false≢true keeps)
kept-then handles _ r keeps = refl

opening-keeps : (o : Options) (t : Traced) (now : OpeningStep) → keeps_controls (opening_call o t now) ≡ true
unfolding opening_call
opening-keeps o t opening.OpenStatus = refl
opening-keeps o t _ = refl

child-keeps : (t : Traced) (now : ChildStep) → keeps_controls (child_call t now) ≡ true
unfolding child_call
child-keeps t child.OpenStatus = refl
child-keeps t _ = refl

-- ---- one reply

module _ (k : ℕ) (t : TrussState) (s : TracedState) (r : Reply) (files : HasFiles k t s)
    (fits : Fits t.traced t.stage) where
  -- what a call and its reply make of the list is what they make of the processes
  abbrev Follows : Call → Type 0
  Follows c = controls_of (fed t r).traced ≡ controls_then (controls_of t.traced) c r

  kept-by : (stage : Stage) (c : Call) (ts : List Traced) → call_of t stage ≡ Some c → keeps_controls c ≡ true
      → TracedChange t r stage ts → controls_of ts ≡ controls_of t.traced
  kept-by stage c ts is keeps change.stays = refl
  kept-by stage c ts is keeps (change.becomes {place = place} {t = u} within same) =
      same-controls t.traced place u within same.control
  kept-by stage c ts is keeps (change.adds {pid = pid} granted opens) =
      absurd (false≢true (ap keeps_controls (same_Some (open_control pid) c (sym opens ∙ is)) ∙ keeps))
  kept-by stage c ts is keeps (change.drops {place = place} within closes) =
      absurd (false≢true (ap keeps_controls (same_Some (call.Close (traced_at t place).control) c (sym closes ∙ is))
      ∙ keeps))

  -- the call of this stage
  change-at : (stage : Stage) → t.stage ≡ stage → TracedChange t r stage (fed t r).traced
  change-at stage at = subst (λ x. TracedChange t r x (fed t r).traced) at (fed-change t r fits)

  kept-follows : (stage : Stage) (c : Call) → t.stage ≡ stage → call_of t stage ≡ Some c → keeps_controls c ≡ true
      → Follows c
  kept-follows stage c at is keeps =
      kept-by stage c (fed t r).traced is keeps (change-at stage at)
      ∙ sym (kept-then (controls_of t.traced) c r keeps)

  -- ---- an open

  -- where it is refused nobody is traced more
  refused-open : (stage : Stage) (pid : ℕ) (ts : List Traced) (errno : Errno) → errno_in r ≡ Some errno
      → call_of t stage ≡ Some (open_control pid) → TracedChange t r stage ts
      → controls_of ts ≡ controls_of t.traced
  refused-open stage pid ts errno refused is change.stays = refl
  refused-open stage pid ts errno refused is (change.becomes {place = place} {t = u} within same) =
      same-controls t.traced place u within same.control
  refused-open stage pid ts errno refused is (change.adds granted opens) =
      absurd (none-some errno (sym granted ∙ refused))
  refused-open stage pid ts errno refused is (change.drops {place = place} within closes) =
      absurd (let e : call.Close (traced_at t place).control ≡ open_control pid =
      same_Some (call.Close (traced_at t place).control) (open_control pid) (sym closes ∙ is) in cc)

  open-by : (stage : Stage) (pid : ℕ) → t.stage ≡ stage → call_of t stage ≡ Some (open_control pid)
      → (answer_of r ≡ Accepted → (of : ℕ) × ((fed t r).traced ≡ t.traced ++ newly_traced of (handle_in r) ∷ []))
      → (e : Option Errno) → errno_in r ≡ e
      → controls_of (fed t r).traced ≡ with_granted (controls_of t.traced) (handle_in r) e
  unfolding newly_traced
  open-by stage pid at is accepts None granted =
      let more = accepts (granted-accepted r granted) in
      ap controls_of more.1 ∙ more-controls t.traced (newly_traced more.0 (handle_in r))
  open-by stage pid at is accepts (Some errno) refused =
      refused-open stage pid (fed t r).traced errno refused is (change-at stage at)

  control-follows : (pid : ℕ) → t.stage ≡ OpeningControl pid → Follows (open_control pid)
  unfolding fed with_reply call_of with_control_answered with_control
  control-follows pid at =
      open-by (OpeningControl pid) pid at refl
      (λ accepted. (
        pid,
        ap (λ (u : TrussState). u.traced) (ap (with_reply t r) at
            ∙ ap (with_control_answered t pid r) accepted),
      ))
      (errno_in r) refl

  child-follows : (parent pid : ℕ) → t.stage ≡ OpeningChildControl parent pid → Follows (open_control pid)
  unfolding fed with_reply call_of with_child_control_answered with_child_control
  child-follows parent pid at =
      open-by (OpeningChildControl parent pid) pid at refl
      (λ accepted. (
        pid,
        ap (λ (u : TrussState). u.traced) (ap (with_reply t r) at
            ∙ ap (with_child_control_answered t parent pid r) accepted),
      ))
      (errno_in r) refl

  -- ---- a close

  -- the control file of a process is no other file of one
  apart : (place q n : ℕ) (f : File) (mode : Mode) → IsFileOf k s (traced_at t place).pid n f mode
      → is_control f ≡ false → q < length t.traced → (traced_at t q).control ≡ n → ⊥
  apart place q n f mode its other within same =
      let control = files.control q within in
      false≢true (sym other
      ∙ ap (λ (h : Held). is_control h.file) (same_Some _ _ (sym its.is ∙ ap (handle_of s.opens k) (sym same)
      ∙ control.is)))

  other-apart : (place q n : ℕ) → place < length t.traced → IsOtherFile (traced_at t place) n → q < length t.traced
      → (traced_at t q).control ≡ n → ⊥
  other-apart place q n within (inl is) inside same =
      apart place q n file.Mem _ (files.memory place n within is) refl inside same
  other-apart place q n within (inr (inl is)) inside same =
      apart place q n file.Lstatus _ (files.lstatus place n within is) refl inside same
  other-apart place q n within (inr (inr is)) inside same =
      apart place q n file.Status _ (files.status place n within is) refl inside same

  -- a control file is that of one process
  alone : (place : ℕ) → place < length t.traced → (q : ℕ) → q < length t.traced
      → (traced_at t q).control ≡ (traced_at t place).control → q ≡ place
  alone place within q inside same =
      same_Some q place (sym (polled-place k t s files q inside)
      ∙ ap (λ n. position (has_control n) t.traced) same ∙ polled-place k t s files place within)

  closed-traced : (u : TrussState) (next : AfterClosing) → (after_closing u next).traced ≡ u.traced
  unfolding after_closing
  closed-traced u OpenNext = (on-staged (opens-next u)).traced
  closed-traced u GoOn = (on-staged (goes-on u false)).traced
  closed-traced u (RunParent parent) = refl

  close-by : (place : ℕ) (next : AfterClosing) → place < length t.traced → (left : Option Traced)
      → without_last (traced_at t place) ≡ left
      → controls_of (closed_or_removed t place next left).traced
      ≡ filter (is_other (last_handle (traced_at t place))) (controls_of t.traced)
  close-by place next within (Some u) is =
      let lost = loses-other (traced_at t place) u is in
      same-controls t.traced place u within lost.control
      ∙ sym (none-gone (last_handle (traced_at t place)) t.traced
      (λ q inside same. other-apart place q (last_handle (traced_at t place)) within lost.file inside same))
  close-by place next within None is =
      ap controls_of (closed-traced (without_traced t place) next)
      ∙ sym (one-gone t.traced place within (alone place within))
      ∙ ap (λ n. filter (is_other n) (controls_of t.traced)) (sym (loses-control (traced_at t place) is))

  close-follows : (place : ℕ) (next : AfterClosing) → t.stage ≡ Closing place next → place < length t.traced
      → Follows (call.Close (last_handle (traced_at t place)))
  close-follows place next at within =
      ap (λ (u : TrussState). controls_of u.traced) (close-fed t r place next at)
      ∙ close-by place next within (without_last (traced_at t place)) refl

  -- ---- the call of a truss that does not leave its processes

  module _ (stays : t.leaving ≡ false) where
    stage-follows : (stage : Stage) → t.stage ≡ stage → Fits t.traced stage → Leaves t.leaving stage → (c : Call)
        → call_of t stage ≡ Some c → Follows c
    unfolding call_of
    stage-follows (Spawning program) at f l c is =
        kept-follows (Spawning program) c at is (ap keeps_controls (sym (same_Some _ c is)))
    stage-follows (OpeningControl pid) at f l c is = subst Follows (same_Some _ c is) (control-follows pid at)
    stage-follows (Opening place now) at f l c is =
        kept-follows (Opening place now) c at is
        (ap keeps_controls (sym (same_Some _ c is)) ∙ opening-keeps t.options (traced_at t place) now)
    stage-follows Polling at f l c is = kept-follows Polling c at is (ap keeps_controls (sym (same_Some _ c is)))
    stage-follows (ReadingStatus place) at f l c is =
        kept-follows (ReadingStatus place) c at is (ap keeps_controls (sym (same_Some _ c is)))
    stage-follows (ReadingText place lwp from len) at f l c is =
        kept-follows (ReadingText place lwp from len) c at is (ap keeps_controls (sym (same_Some _ c is)))
    stage-follows (OpeningChildControl parent pid) at f l c is =
        subst Follows (same_Some _ c is) (child-follows parent pid at)
    stage-follows (OpeningChild parent place now) at f l c is =
        kept-follows (OpeningChild parent place now) c at is
        (ap keeps_controls (sym (same_Some _ c is)) ∙ child-keeps (traced_at t place) now)
    stage-follows (Running place) at f l c is =
        kept-follows (Running place) c at is (ap keeps_controls (sym (same_Some _ c is)))
    stage-follows (Closing place next) at f l c is =
        subst Follows (same_Some _ c is) (close-follows place next at f.0)
    stage-follows Unfollowing at f l c is = absurd (false≢true (sym stays ∙ l))
    stage-follows ReadingLwps at f l c is = absurd (false≢true (sym stays ∙ l))
    stage-follows (FreeingChild pid now) at f l c is = absurd (false≢true (sym stays ∙ l))
    stage-follows Finished at f l c is = absurd (none-some c is)

    next-follows : (c : Call) → next_call_of t ≡ Some c → Follows c
    unfolding next_call_of
    next-follows c is =
        let st : Stands t.traced t.leaving t.stage = files.stands in
        stage-follows t.stage refl fits st.leaves c is

-- ---- as long as truss goes on

-- the control files of its processes are these, unless it leaves them
abbrev pub HasControls : TrussState → List ℕ → Type 0
HasControls t handles = t.leaving ≡ false → controls_of t.traced ≡ handles

pub first-controls : (o : Options) → HasControls (first_truss o) []
first-controls o stays = ap controls_of (first-traced o)

module _ (k : ℕ) (t : TrussState) (s : TracedState) (g : Reaches k t s) (handles : List ℕ)
    (has : HasControls t handles) (c : Call) (next : next_call_of t ≡ Some c) where
  fits-now : Fits t.traced t.stage
  fits-now = let owns : Owns k t s = g.owns in owns.fits

  still : (r : Reply) → (fed t r).leaving ≡ false → t.leaving ≡ false
  still r on =
      elim (cases_Bool t.leaving) [
        | inl leaves ↦ absurd (false≢true (sym on ∙ fed-leaves t r leaves))
        | inr stays ↦ stays
      ]

  pub next-controls : (r : Reply) → HasControls (fed t r) (controls_then handles c r)
  next-controls r on =
      let stays = still r on in
      next-follows k t s r g.files fits-now stays c next ∙ ap (λ hs. controls_then hs c r) (has stays)

  polls-by : (hs : List ℕ) → next_call_of t ≡ Some (call.Poll hs) → hs ≡ handles
  unfolding next_call_of
  polls-by hs is =
      let p = poll-stage t hs t.stage is in
      let files : HasFiles k t s = g.files in
      let st : Stands t.traced t.leaving t.stage = files.stands in
      sym p.1 ∙ has (subst (Leaves t.leaving) p.0 st.leaves)

  pub next-polled : (hs : List ℕ) → c ≡ call.Poll hs → hs ≡ handles
  next-polled hs is = polls-by hs (next ∙ ap (λ d. Some d) is)

-- ---- all exchanges

-- each poll among these exchanges lists what is open then, where these were open before them
abbrev pub PollFrom : List ℕ → List Exchange → Type 0
PollFrom handles [] = Unit {0}
PollFrom handles (x ∷ xs) =
    ((hs : List ℕ) → x.call ≡ call.Poll hs → hs ≡ handles) × PollFrom (controls_then handles x.call x.reply) xs

poll-at : (before after : List Exchange) (handles hs : List ℕ) (r : Reply)
    → PollFrom handles (before ++ record { call = call.Poll hs; reply = r } ∷ after) → hs ≡ controls_from handles before
poll-at [] after handles hs r polls = polls.0 hs refl
poll-at (x ∷ before) after handles hs r polls =
    poll-at before after (controls_then handles x.call x.reply) hs r polls.1

pub in-order : (xs : List Exchange) → PollFrom [] xs → PollsInOrder xs
in-order xs polls = record {
  each = λ before after handles r is. poll-at before after [] handles r (subst (PollFrom []) is polls);
}

along-one : (k : ℕ) (t : TrussState) (s : TracedState) (g : Reaches k t s) (handles : List ℕ) → HasControls t handles
    → (x : Option Exchange) (xs : List Exchange) → MakesNext t x
    → ((hs : List ℕ) → HasControls (with_exchange t x) hs → PollFrom hs xs) → PollFrom handles (cons_option x xs)
along-one k t s g handles has None xs next rest = rest handles has
along-one k t s g handles has (Some x) xs next rest = (
  next-polled k t s g handles has x.call next,
  rest (controls_then handles x.call x.reply) (next-controls k t s g handles has x.call next x.reply),
)

along : (h : List Entry) (n k : ℕ) (t : TrussState) (s : TracedState) → Reaches k t s → (handles : List ℕ)
    → HasControls t handles → IsLegal n s h → Makes t (exchanges k h) → PollFrom handles (exchanges k h)
along [] n k t s g handles has legal makes = subst (PollFrom handles) (sym (no-exchanges k)) tt
along (e ∷ h) n k t s g handles has legal makes =
    let m = makes-next k t e h makes in
    let next = entry-reaches n k t s e g legal.0 m.0 in
    subst (PollFrom handles) (sym (cons-exchanges k e h))
    (along-one k t s g handles has (exchange_of k e) (exchanges k h) m.0
    (λ hs then. along h n k (with_exchange t (exchange_of k e)) (after s e) next hs then legal.1 m.1))

pub polls-in-order : (n k : ℕ) (o : Options) (s : TracedState) (h : List Entry) → IsTrussRun n k o s h
    → PollsInOrder (exchanges k h)
polls-in-order n k o s h run =
    in-order (exchanges k h)
    (along h n k (first_truss o) s (first-reaches k o s run.lawful run.nothing_open) [] (first-controls o) run.legal
    run.makes)

pub ruleset ordered = (polls-in-order)
