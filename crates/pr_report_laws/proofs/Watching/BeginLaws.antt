use Rattle.std.proofs.Common.{◌≡◌, ◌≢◌, ◌<◌, ◌++◌, ℕ, suc, true, false, cond, Option, Some, None, List, [], ◌∷◌, length, refl, sym, subst, ap, ◌∙◌, arith}
use Rattle.std.proofs.lemmas.List.{length-append, length-map}
use Rattle.std.specs.List.{All, slice_get}
use Rattle.pr_line.specs.declared.options.Options.{Options}
use Rattle.pr_model.specs.Replies.{handle_in, until_in}
use Rattle.pr_model.specs.State.{TracedState}
use Rattle.pr_model.specs.declared.calls.Call.{Call}
use Rattle.pr_model.specs.declared.calls.File.TheVariants as file
use Rattle.pr_model.specs.declared.calls.Reply.{Reply}
use Rattle.pr_model.specs.declared.calls.Reply.TheVariants as reply
use Rattle.pr_model.specs.declared.events.Entry.{Entry}
use Rattle.pr_num.specs.Control.{fork_mode, rlc_mode}
use Rattle.pr_num.specs.declared.errnos.Errno.TheVariants.{Noent}
use Rattle.pr_num.specs.declared.messages.Message.TheVariants as message
use Rattle.pr_truss.specs.Children.{with_child_control, with_freeing_answered}
use Rattle.pr_truss.specs.Feeding.{fed, with_reply}
use Rattle.pr_truss.specs.Messages.{message_call}
use Rattle.pr_truss.specs.NextCalls.{call_of, child_call, freeing_call, next_call_of, open_control, open_file, opening_call}
use Rattle.pr_truss.specs.Openings.{with_control}
use Rattle.pr_truss.specs.Replies.{answer_of}
use Rattle.pr_truss.specs.Trusses.{TrussState, first_of_program, first_truss, idle, opening_or, with_stage}
use Rattle.pr_truss.specs.declared.processes.Traced.{Traced}
use Rattle.pr_truss.specs.declared.replies.Answer.TheVariants.{Accepted, Gone}
use Rattle.pr_truss.specs.declared.stages.ChildStep.TheVariants as child
use Rattle.pr_truss.specs.declared.stages.FreeingStep.TheVariants as freeing
use Rattle.pr_truss.specs.declared.stages.OpeningStep.TheVariants as opening
use Rattle.pr_truss.specs.declared.stages.Stage.{Stage}
use Rattle.pr_truss.specs.declared.stages.Stage.TheVariants.{OpeningControl, OpeningChildControl, FreeingChild, Finished}
use Rattle.pr_truss_laws.proofs.Replies.AnswerLemmas.{IsAnswer, answer-is}
use Rattle.pr_truss_laws.proofs.Files.ClosesLemmas.{after-fits, first-fits}
use Rattle.pr_truss_laws.proofs.Files.HeldLemmas.{Fits}
use Rattle.pr_truss_laws.specs.Exchanges.{Exchange, IsGranted, Makes, calls_in, exchanges, truss_after, truss_at}
use Rattle.pr_truss_laws.specs.Given.{IsWholeOpening, calls_with, last_calls, opening_calls, reply_at}
use Rattle.pr_truss_laws.specs.Runs.{IsTrussRun}
use Rattle.pr_report_laws.proofs.Files.FileLaws.{HasFiles}
use Rattle.pr_report_laws.proofs.Invariant.OpeningRuns.{OpensControl, born, born-fed, born-following, child-over, child-runs, freed, freed-fed, given, given-fed, given-opening, granted-first, granted-rest, opening-runs, opens-control, steps_left}
use Rattle.pr_truss_laws.proofs.Replies.OptionLemmas.{fed-options}
use Rattle.pr_report_laws.proofs.Files.WatchHistories.{after-append, makes-front, makes-rest, no-exchanges, run-reaches}
use Rattle.pr_report_laws.proofs.Replies.WatchedPlaces.{IsWatched, not-watched, place-watched}
use Rattle.pr_report_laws.specs.Attachments.{HasFollowed, HasOpened, child_calls}
use Rattle.pr_report_laws.specs.Watching.{watches}

-- When truss begins to watch a process, by its calls and their replies alone.

-- ---- truss that has finished

none-finished : (t : TrussState) (stage : Stage) → call_of t stage ≡ None → stage ≡ Finished
unfolding call_of
none-finished t Finished none = refl
none-finished t _ none = cc

is-finished : (t : TrussState) → next_call_of t ≡ None → t.stage ≡ Finished
unfolding next_call_of
is-finished t none = none-finished t t.stage none

-- where truss has files of no process
none-traced : (t : TrussState) (pid : ℕ) → t.traced ≡ [] → watches t pid ≡ false
none-traced t pid empty = not-watched t pid (λ place w. absurd (nowhere place w.within))
  where
    nowhere : (place : ℕ) → place < length t.traced → ⊥
    nowhere place within = omega (arith, ap (λ (ts : List Traced). length ts) empty)

-- A truss that has finished watches no process.
pub finished-watches-none : (k : ℕ) (o : Options) (pid : ℕ) (h : List Entry) → next_call_of (truss_at k o h) ≡ None
    → watches (truss_at k o h) pid ≡ false
finished-watches-none k o pid h none =
    let t : TrussState = truss_at k o h in
    let f : Fits t.traced t.stage = after-fits (exchanges k h) (first_truss o) (first-fits o) in
    none-traced t pid (subst (Fits t.traced) (is-finished t none) f)

-- ---- truss before its first call

no-processes : (o : Options) → (first_truss o).traced ≡ []
unfolding first_truss
no-processes o = by o.program
  where
    pids : (p : Option ℕ) → (opening_or (idle o) (idle o) p).traced ≡ []
    pids None = refl
    pids (Some pid) = refl

    by : (p : Option (List ℕ)) → (first_of_program o p).traced ≡ []
    by None = pids (slice_get o.pids 0)
    by (Some program) = refl

-- Neither does one that has made no call yet.
pub first-watches-none : (k : ℕ) (o : Options) (pid : ℕ) → watches (truss_at k o []) pid ≡ false
first-watches-none k o pid =
    ap (λ xs. watches (truss_after (first_truss o) xs) pid) (no-exchanges k)
    ∙ none-traced (first_truss o) pid (no-processes o)

-- ---- its options

pub after-options : (xs : List Exchange) (t : TrussState) → (truss_after t xs).options ≡ t.options
after-options [] t = refl
after-options (x ∷ xs) t = after-options xs (fed t x.reply) ∙ fed-options t x.reply

first-options : (o : Options) → (first_truss o).options ≡ o
unfolding first_truss
first-options o = by o.program
  where
    pids : (p : Option ℕ) → (opening_or (idle o) (idle o) p).options ≡ o
    pids None = refl
    pids (Some pid) = refl

    by : (p : Option (List ℕ)) → (first_of_program o p).options ≡ o
    by None = pids (slice_get o.pids 0)
    by (Some program) = refl

pub at-options : (o : Options) (xs : List Exchange) → (truss_after (first_truss o) xs).options ≡ o
at-options o xs = after-options xs (first_truss o) ∙ first-options o

-- ---- a process that truss was given

-- the first two calls of an opening, and how many more there are
pub record BeginsOpening (o : Options) (pid : ℕ) (xs : List Exchange) : Type 0 where
  pub one : Exchange
  pub two : Exchange
  pub more : List Exchange
  pub is : xs ≡ one ∷ two ∷ more
  pub control : one.call ≡ open_control pid
  pub status : two.call ≡ open_file pid file.Status
  pub left : length (two ∷ more) ≡ steps_left o.follow opening.OpenStatus

last-length : (o : Options) (control : ℕ) → length (last_calls o control) ≡ cond o.follow 2 1
last-length o control =
    elim o.follow as
    (λ b. length
    (cond b (message_call control (message.Set fork_mode) ∷ message_call control (message.Run 0) ∷ [])
    (message_call control (message.Run 0) ∷ [])) ≡ cond b 2 1) [ true ↦ refl | false ↦ refl ]

with-begins : (o : Options) (pid control lstatus until : ℕ) (xs : List Exchange)
    → calls_in xs ≡ calls_with o pid control lstatus until → BeginsOpening o pid xs
with-begins o pid control lstatus until [] is = cc
with-begins o pid control lstatus until (x ∷ []) is = cc
with-begins o pid control lstatus until (x ∷ y ∷ zs) is = record {
  one = x;
  two = y;
  more = zs;
  is = refl;
  control = cc;
  status = cc;
  left =
      omega (
        arith,
        ap (λ (cs : List Call). length cs) is,
        length-map zs
            (λ (z : Exchange). z.call),
        last-length o control,
      );
}

pub opening-begins : (o : Options) (pid : ℕ) (xs : List Exchange) → calls_in xs ≡ opening_calls o pid xs
    → BeginsOpening o pid xs
unfolding opening_calls
opening-begins o pid xs is =
    with-begins o pid (handle_in (reply_at xs 0)) (handle_in (reply_at xs 2)) (until_in (reply_at xs 6)) xs is

-- a call that is not the next one
pub next-call : (t u : TrussState) (c : Call) → u ≡ t → next_call_of u ≡ Some c → next_call_of t ≡ Some c
next-call t u c same is = subst (λ (v : TrussState). next_call_of v ≡ Some c) same is

pub born-messages : (t : TrussState) (parent pid control of : ℕ)
    → next_call_of (with_child_control t parent pid control) ≡ Some (open_file of file.Status) → ⊥
unfolding next_call_of call_of child_call with_child_control
born-messages t parent pid control of is = cc

pub freed-messages : (t : TrussState) (pid control of : ℕ)
    → next_call_of (with_stage t (FreeingChild pid (freeing.SetRelease control))) ≡ Some (open_file of file.Status) → ⊥
unfolding next_call_of call_of freeing_call
freed-messages t pid control of is = cc

module _ (o : Options) (pid : ℕ) (t : TrussState) (same : t.options ≡ o) where
  given-runs : (x : Exchange) (xs : List Exchange) → t.stage ≡ OpeningControl pid → All IsGranted (x ∷ xs)
      → length xs ≡ steps_left o.follow opening.OpenStatus
      → IsWatched (truss_after (fed t x.reply) xs) pid (length t.traced)
  unfolding with_control
  given-runs x xs stage all left =
      let accepted = granted-first x xs all in
      let control = handle_in x.reply in
      subst (λ u. IsWatched (truss_after u xs) pid (length t.traced)) (sym (given-fed t pid x.reply accepted stage))
      (opening-runs xs (with_control t pid control) pid (length t.traced) opening.OpenStatus
      (given-opening t pid control) (granted-rest x xs all) (left
      ∙ ap (λ (p : Options). steps_left p.follow opening.OpenStatus) (sym same)))

  opening-watched : (xs : List Exchange) → Makes t xs → IsWholeOpening o pid xs
      → (place : ℕ) × IsWatched (truss_after t xs) pid place
  opening-watched xs makes whole =
      let b = opening-begins o pid xs whole.calls in
      let all : All IsGranted (b.one ∷ b.two ∷ b.more) = subst (All IsGranted) b.is whole.granted in
      let m : Makes t (b.one ∷ b.two ∷ b.more) = subst (Makes t) b.is makes in
      let accepted = granted-first b.one (b.two ∷ b.more) all in
      let second : next_call_of (fed t b.one.reply) ≡ Some (open_file pid file.Status) = m.1.0 ∙ ap Some b.status in
      by b all accepted second (opens-control t pid (m.0 ∙ ap Some b.control))
    where
      by : (b : BeginsOpening o pid xs) → All IsGranted (b.one ∷ b.two ∷ b.more) → answer_of b.one.reply ≡ Accepted
          → next_call_of (fed t b.one.reply) ≡ Some (open_file pid file.Status) → OpensControl pid t.stage
          → (place : ℕ) × IsWatched (truss_after t xs) pid place
      by b all accepted second (given stage) = (
        length t.traced,
        subst (λ ys. IsWatched (truss_after t ys) pid (length t.traced)) (sym b.is)
            (given-runs b.one (b.two ∷ b.more) stage all b.left),
      )
      by b all accepted second (born parent stage) =
          absurd (born-messages t parent pid (handle_in b.one.reply) pid
          (next-call _ (fed t b.one.reply) _ (born-fed t pid b.one.reply accepted parent stage) second))
      by b all accepted second (freed stage) =
          absurd (freed-messages t pid (handle_in b.one.reply) pid
          (next-call _ (fed t b.one.reply) _ (freed-fed t pid b.one.reply accepted stage) second))

-- ---- the child of a fork

pub record BeginsChild (pid control : ℕ) (xs : List Exchange) : Type 0 where
  pub one : Exchange
  pub two : Exchange
  pub three : Exchange
  pub more : List Exchange
  pub is : xs ≡ one ∷ two ∷ three ∷ more
  pub opens : one.call ≡ open_control pid
  pub sets : two.call ≡ message_call control (message.Set rlc_mode)
  pub status : three.call ≡ open_file pid file.Status
  pub left : suc (length (two ∷ three ∷ more)) ≡ 5

pub child-begins : (pid control : ℕ) (last : Exchange) (xs : List Exchange)
    → calls_in (xs ++ last ∷ []) ≡ child_calls pid control → BeginsChild pid control xs
child-begins pid control last [] is = cc
child-begins pid control last (x ∷ []) is = cc
child-begins pid control last (x ∷ y ∷ []) is = cc
child-begins pid control last (x ∷ y ∷ z ∷ zs) is = record {
  one = x;
  two = y;
  three = z;
  more = zs;
  is = refl;
  opens = cc;
  sets = cc;
  status = cc;
  left =
      omega (
        arith,
        ap (λ (cs : List Call). length cs) is,
        length-map (zs ++ last ∷ [])
            (λ (e : Exchange). e.call),
        length-append zs (last ∷ []),
      );
}

pub given-opens : (t : TrussState) (pid control handle : ℕ)
    → next_call_of (with_control t pid control) ≡ Some (message_call handle (message.Set rlc_mode)) → ⊥
unfolding next_call_of call_of opening_call with_control
given-opens t pid control handle is = cc

pub freed-fed-again : (t : TrussState) (pid control : ℕ) (x : Exchange)
    → fed (with_stage t (FreeingChild pid (freeing.SetRelease control))) x.reply ≡ with_stage t
    (FreeingChild pid (freeing.Close control))
unfolding fed with_reply with_freeing_answered
freed-fed-again t pid control x = refl

pub freed-closes : (t : TrussState) (pid control of : ℕ)
    → next_call_of (with_stage t (FreeingChild pid (freeing.Close control))) ≡ Some (open_file of file.Status) → ⊥
unfolding next_call_of call_of freeing_call
freed-closes t pid control of is = cc

module _ (pid : ℕ) (t : TrussState) (last : Exchange) (not_gone : answer_of last.reply ≢ Gone) where
  born-runs : (x : Exchange) (xs : List Exchange) (parent : ℕ) → t.stage ≡ OpeningChildControl parent pid
      → All IsGranted (x ∷ xs) → suc (length xs) ≡ 5
      → IsWatched (fed (truss_after (fed t x.reply) xs) last.reply) pid (length t.traced)
  born-runs x xs parent stage all left =
      let control = handle_in x.reply in
      let runs =
      child-runs xs (with_child_control t parent pid control) pid parent (length t.traced) child.SetRelease
      (born-following t parent pid control) (granted-rest x xs all) left in
      subst (λ u. IsWatched (fed (truss_after u xs) last.reply) pid (length t.traced))
      (sym (born-fed t pid x.reply (granted-first x xs all) parent stage))
      (child-over (truss_after (with_child_control t parent pid control) xs) pid parent
      (length t.traced) runs.0 last runs.1.1 runs.1.0 not_gone)

  child-watched : (xs : List Exchange) (control : ℕ) → Makes t xs
      → calls_in (xs ++ last ∷ []) ≡ child_calls pid control → All IsGranted xs
      → (place : ℕ) × IsWatched (fed (truss_after t xs) last.reply) pid place
  child-watched xs control makes calls granted =
      let b = child-begins pid control last xs calls in
      let all : All IsGranted (b.one ∷ b.two ∷ b.three ∷ b.more) = subst (All IsGranted) b.is granted in
      let m : Makes t (b.one ∷ b.two ∷ b.three ∷ b.more) = subst (Makes t) b.is makes in
      let accepted = granted-first b.one (b.two ∷ b.three ∷ b.more) all in
      by b all accepted (m.1.0 ∙ ap Some b.sets) (m.1.1.0
      ∙ ap Some b.status) (opens-control t pid (m.0 ∙ ap Some b.opens))
    where
      by : (b : BeginsChild pid control xs) → All IsGranted (b.one ∷ b.two ∷ b.three ∷ b.more)
          → answer_of b.one.reply ≡ Accepted
          → next_call_of (fed t b.one.reply) ≡ Some (message_call control (message.Set rlc_mode))
          → next_call_of (fed (fed t b.one.reply) b.two.reply) ≡ Some (open_file pid file.Status)
          → OpensControl pid t.stage → (place : ℕ) × IsWatched (fed (truss_after t xs) last.reply) pid place
      by b all accepted second third (given stage) =
          absurd (given-opens t pid (handle_in b.one.reply) control
          (next-call _ (fed t b.one.reply) _ (given-fed t pid b.one.reply accepted stage) second))
      by b all accepted second third (born parent stage) = (
        length t.traced,
        subst (λ ys. IsWatched (fed (truss_after t ys) last.reply) pid (length t.traced))
            (sym b.is) (born-runs b.one (b.two ∷ b.three ∷ b.more) parent stage all b.left),
      )
      by b all accepted second third (freed stage) =
          let h = handle_in b.one.reply in
          let then : fed (fed t b.one.reply) b.two.reply ≡ with_stage t (FreeingChild pid (freeing.Close h)) =
          ap (λ (u : TrussState). fed u b.two.reply) (freed-fed t pid b.one.reply accepted stage)
          ∙ freed-fed-again t pid h b.two in
          absurd (freed-closes t pid h pid (next-call _ (fed (fed t b.one.reply) b.two.reply) _ then third))

-- a reply that is not the refusal of a process that has ended
pub lives-not_gone : (r : Reply) → r ≢ reply.Fail Noent → answer_of r ≢ Gone
unfolding IsAnswer
lives-not_gone r lives gone = lives (subst (IsAnswer r) gone (answer-is r))

-- ---- along a history

module _ (n k : ℕ) (o : Options) (pid : ℕ) (s : TracedState) (h : List Entry) (run : IsTrussRun n k o s h) where
  -- the state of truss before the last exchanges, and after them
  split-at : (earlier later : List Exchange) → exchanges k h ≡ earlier ++ later
      → truss_at k o h ≡ truss_after (truss_after (first_truss o) earlier) later
  split-at earlier later is = ap (truss_after (first_truss o)) is ∙ after-append (first_truss o) earlier later

  split-makes : (earlier later : List Exchange) → exchanges k h ≡ earlier ++ later
      → Makes (truss_after (first_truss o) earlier) later
  split-makes earlier later is = makes-rest (first_truss o) earlier later (subst (Makes (first_truss o)) is run.makes)

  watched-then : (earlier later : List Exchange) → exchanges k h ≡ earlier ++ later
      → (place : ℕ) × IsWatched (truss_after (truss_after (first_truss o) earlier) later) pid place
      → watches (truss_at k o h) pid ≡ true
  watched-then earlier later is w =
      let reached = run-reaches n k o s h run in
      let files : HasFiles k (truss_at k o h) _ = reached.files in
      place-watched (truss_at k o h) pid w.0 files.one
      (subst (λ u. IsWatched u pid w.0) (sym (split-at earlier later is)) w.1)

  -- After the whole opening of a process truss watches it.
  pub opened-watches : HasOpened k o pid h → watches (truss_at k o h) pid ≡ true
  opened-watches b =
      watched-then b.earlier b.opening b.is
      (opening-watched o pid (truss_after (first_truss o) b.earlier) (at-options o b.earlier) b.opening
      (split-makes b.earlier b.opening b.is) b.whole)

  -- So it does after the opening of the child of a fork.
  pub followed-watches : HasFollowed k pid h → watches (truss_at k o h) pid ≡ true
  followed-watches b =
      let t : TrussState = truss_after (first_truss o) b.earlier in
      let makes : Makes t b.opening =
      makes-front t b.opening (b.last ∷ []) (split-makes b.earlier (b.opening ++ b.last ∷ []) b.is) in
      let w =
      child-watched pid t b.last (lives-not_gone b.last.reply b.lives) b.opening
      (handle_in (reply_at b.opening 0)) makes b.calls b.granted in
      watched-then b.earlier (b.opening ++ b.last ∷ []) b.is
      (w.0, subst (λ u. IsWatched u pid w.0) (sym (after-append t b.opening (b.last ∷ []))) w.1)
