use Rattle.std.proofs.Common.{◌≡◌, ◌<◌, ◌++◌, ℕ, true, false, Option, Some, None, List, [], ◌∷◌, length, refl, sym, subst, ap, ◌∙◌, arith, append_assoc, inl, inr}
use Rattle.std.proofs.lemmas.Bool.{false≢true}
use Rattle.std.proofs.lemmas.List.{append-nil, get_or_push}
use Rattle.std.proofs.lemmas.List.Elements.{All-cons, All-nil, All-push}
use Rattle.std.proofs.lemmas.Option.{same_Some}
use Rattle.std.specs.List.{All, cons_option, slice_get}
use Rattle.pr_line.specs.declared.options.Options.{Options}
use Rattle.pr_model.specs.Replies.{handle_in}
use Rattle.pr_model.specs.Legal.{IsLegal, after}
use Rattle.pr_model.specs.State.{TracedState}
use Rattle.pr_model.specs.declared.calls.Call.{Call}
use Rattle.pr_model.specs.declared.calls.Reply.{Reply}
use Rattle.pr_model.specs.declared.calls.Reply.TheVariants as reply
use Rattle.pr_model.specs.declared.events.Entry.{Entry}
use Rattle.pr_num.specs.declared.errnos.Errno.TheVariants.{Intr}
use Rattle.pr_truss.specs.Children.{child_learnt, child_step_after, with_child_control}
use Rattle.pr_truss.specs.Feeding.{fed}
use Rattle.pr_truss.specs.NextCalls.{call_of, child_call, next_call_of, open_control, opening_call}
use Rattle.pr_truss.specs.Openings.{learnt, step_after, with_control}
use Rattle.pr_truss.specs.Processes.{newly_traced}
use Rattle.pr_truss.specs.Replies.{answer_of}
use Rattle.pr_truss.specs.Trusses.{TrussState, first_of_program, first_truss, idle, nobody, opening_or, traced_at, with_stage, with_traced}
use Rattle.pr_truss.specs.declared.processes.Traced.{Traced}
use Rattle.pr_truss.specs.declared.replies.Answer.TheVariants.{Accepted, Interrupted}
use Rattle.pr_truss.specs.declared.stages.ChildStep.{ChildStep}
use Rattle.pr_truss.specs.declared.stages.ChildStep.TheVariants as child
use Rattle.pr_truss.specs.declared.stages.OpeningStep.{OpeningStep}
use Rattle.pr_truss.specs.declared.stages.OpeningStep.TheVariants as opening
use Rattle.pr_truss.specs.declared.stages.Stage.{Stage}
use Rattle.pr_truss.specs.declared.stages.Stage.TheVariants.{OpeningControl, Opening, OpeningChildControl, OpeningChild}
use Rattle.pr_truss_laws.proofs.Replies.AnswerLemmas.{IsAnswer, answer-is}
use Rattle.pr_truss_laws.proofs.Files.HeldLemmas.{Fits, at_place, set-at}
use Rattle.pr_truss_laws.proofs.Files.OwnLemmas.{Owns}
use Rattle.pr_truss_laws.proofs.GivenProcesses.SequenceLemmas.{GoesToEnd}
use Rattle.pr_truss_laws.specs.Exchanges.{Exchange, IsGranted, Makes, calls_in, exchange_of, exchanges, truss_after, truss_at}
use Rattle.pr_truss_laws.specs.Runs.{IsTrussRun}
use Rattle.pr_report_laws.proofs.Files.FileLaws.{HasFiles}
use Rattle.pr_report_laws.proofs.Files.FileSteps.{MakesNext, makes-next}
use Rattle.pr_report_laws.proofs.Replies.NextStages.{opens}
use Rattle.pr_report_laws.proofs.Replies.OpeningParts.{learnt-pid}
use Rattle.pr_report_laws.proofs.Invariant.OpeningRuns.{child-pid}
use Rattle.pr_truss_laws.proofs.Replies.OptionLemmas.{fed-options}
use Rattle.pr_report_laws.proofs.Replies.StageChanges.{Comes, How, Opens, at, child_goes, child_starts, free, goes, less, no, starts}
use Rattle.pr_report_laws.proofs.Replies.StageReplies.{fed-comes}
use Rattle.pr_report_laws.proofs.Invariant.StandLemmas.{Stands}
use Rattle.pr_report_laws.proofs.Files.WatchHistories.{Reaches, after-cons, cons-exchanges, entry-reaches, first-reaches, no-exchanges}
use Rattle.pr_report_laws.specs.Attachments.{child_calls}
use Rattle.pr_report_laws.specs.Watching.{fed_by_entry, with_exchange}

-- The exchanges that stand behind where truss has come to: those of the opening that is under way, and the wait that
-- was interrupted where it leaves.

-- ---- the calls by which a child is opened

-- These are calls of an opening from a step on, where truss has learnt so much of the child, and the last one is among
-- them.
abbrev pub GoesChild : Traced → Option ChildStep → List Exchange → Type 0
GoesChild u None xs = xs ≡ []
GoesChild u (Some step) [] = ⊥
GoesChild u (Some step) (x ∷ xs) =
    (x.call ≡ child_call u step) × GoesChild (child_learnt u x.reply step) (child_step_after step) xs

front : {c d : Call} {cs ds : List Call} → c ≡ d → cs ≡ ds → c ∷ cs ≡ d ∷ ds
front p q = cc

pub child-calls : (pid : ℕ) (x0 : Exchange) (xs : List Exchange) → x0.call ≡ open_control pid
    → GoesChild (newly_traced pid (handle_in x0.reply)) (Some child.SetRelease) xs
    → calls_in (x0 ∷ xs) ≡ child_calls pid (handle_in x0.reply)
unfolding child_call child_learnt child_step_after newly_traced
child-calls pid x0 [] f g = absurd g
child-calls pid x0 (x1 ∷ []) f g = absurd g.1
child-calls pid x0 (x1 ∷ x2 ∷ []) f g = absurd g.1.1
child-calls pid x0 (x1 ∷ x2 ∷ x3 ∷ []) f g = absurd g.1.1.1
child-calls pid x0 (x1 ∷ x2 ∷ x3 ∷ x4 ∷ []) f g = absurd g.1.1.1.1
child-calls pid x0 (x1 ∷ x2 ∷ x3 ∷ x4 ∷ x5 ∷ []) f g =
    front f (front g.0 (front g.1.0 (front g.1.1.0 (front g.1.1.1.0 (front g.1.1.1.1.0 refl)))))
child-calls pid x0 (x1 ∷ x2 ∷ x3 ∷ x4 ∷ x5 ∷ x6 ∷ xs) f g = cc

-- ---- the opening that is under way

-- Truss opens the process at a place, and has come to this step: the last exchanges are those of its opening so far.
pub record IsUnderWay (o : Options) (t : TrussState) (place : ℕ) (step : OpeningStep)
    (xs : List Exchange) : Type 0 where
  pub pid : ℕ
  pub earlier : List Exchange
  pub first : Exchange
  pub begun : List Exchange
  pub is : xs ≡ earlier ++ (first ∷ begun)
  pub of : (traced_at t place).pid ≡ pid
  pub control : first.call ≡ open_control pid
  pub granted : All IsGranted (first ∷ begun)
  pub goes : (ys : List Exchange) → GoesToEnd o (traced_at t place) (Some step) ys
      → GoesToEnd o (newly_traced pid (handle_in first.reply)) (Some opening.OpenStatus) (begun ++ ys)

-- the same of a child
pub record IsChildUnderWay (t : TrussState) (place : ℕ) (step : ChildStep) (xs : List Exchange) : Type 0 where
  pub pid : ℕ
  pub earlier : List Exchange
  pub first : Exchange
  pub begun : List Exchange
  pub is : xs ≡ earlier ++ (first ∷ begun)
  pub of : (traced_at t place).pid ≡ pid
  pub control : first.call ≡ open_control pid
  pub granted : All IsGranted (first ∷ begun)
  pub goes : (ys : List Exchange) → GoesChild (traced_at t place) (Some step) ys
      → GoesChild (newly_traced pid (handle_in first.reply)) (Some child.SetRelease) (begun ++ ys)

abbrev pub Remembers : Options → TrussState → List Exchange → Stage → Type 0
Remembers o t xs (Opening place step) = IsUnderWay o t place step xs
Remembers o t xs (OpeningChild parent place step) = IsChildUnderWay t place step xs
Remembers o t xs _ = Unit {0}

remembers-none : (o : Options) (t : TrussState) (xs : List Exchange) (stage : Stage) → opens stage ≡ false
    → Remembers o t xs stage
remembers-none o t xs (Opening place _) none = absurd (false≢true (sym none))
remembers-none o t xs (OpeningChild parent place step) none = absurd (false≢true (sym none))
remembers-none o t xs _ none = tt

pub accepted-granted : (x : Exchange) → answer_of x.reply ≡ Accepted → IsGranted x
unfolding IsAnswer
accepted-granted x accepted = record { not_refused = subst (IsAnswer x.reply) accepted (answer-is x.reply) }

new-pid : (pid control : ℕ) → (newly_traced pid control).pid ≡ pid
unfolding newly_traced
new-pid pid control = refl

-- one exchange more
module _ (o : Options) (t : TrussState) (past : List Exchange) (x : Exchange) (same : t.options ≡ o)
    (fits : Fits t.traced t.stage) (next : next_call_of t ≡ Some x.call) (remembered : Remembers o t past t.stage) where
  -- the call of the stage
  call-is : (stage : Stage) (c : Call) → t.stage ≡ stage → call_of t stage ≡ Some c → x.call ≡ c
  unfolding next_call_of
  call-is stage c is call = same_Some x.call c (sym next ∙ ap (call_of t) is ∙ call)

  control-called : (pid : ℕ) → t.stage ≡ OpeningControl pid → x.call ≡ open_control pid
  unfolding call_of
  control-called pid is = call-is (OpeningControl pid) (open_control pid) is refl

  child_control-called : (parent pid : ℕ) → t.stage ≡ OpeningChildControl parent pid → x.call ≡ open_control pid
  unfolding call_of
  child_control-called parent pid is = call-is (OpeningChildControl parent pid) (open_control pid) is refl

  pub step-called : (place : ℕ) (step : OpeningStep) → t.stage ≡ Opening place step
      → x.call ≡ opening_call o (traced_at t place) step
  unfolding call_of
  step-called place step is =
      call-is (Opening place step) (opening_call t.options (traced_at t place) step) is refl
      ∙ ap (λ (p : Options). opening_call p (traced_at t place) step) same

  pub child-called : (parent place : ℕ) (step : ChildStep) → t.stage ≡ OpeningChild parent place step
      → x.call ≡ child_call (traced_at t place) step
  unfolding call_of
  child-called parent place step is =
      call-is (OpeningChild parent place step) (child_call (traced_at t place) step) is refl

  first-granted : answer_of x.reply ≡ Accepted → All IsGranted (x ∷ [])
  first-granted accepted = All-cons IsGranted x [] (accepted-granted x accepted) (All-nil IsGranted)

  started : (pid : ℕ) → t.stage ≡ OpeningControl pid → answer_of x.reply ≡ Accepted
      → Remembers o (with_control t pid (handle_in x.reply)) (past ++ x ∷ [])
      (with_control t pid (handle_in x.reply)).stage
  unfolding with_control
  started pid is accepted =
      let new : Traced = newly_traced pid (handle_in x.reply) in
      let there : at_place (t.traced ++ new ∷ []) (length t.traced) ≡ new =
      get_or_push t.traced new nobody (length t.traced) refl in
      record {
        pid = pid;
        earlier = past;
        first = x;
        begun = [];
        is = refl;
        of = ap (λ (u : Traced). u.pid) there ∙ new-pid pid (handle_in x.reply);
        control = control-called pid is;
        granted = first-granted accepted;
        goes = λ ys g. subst (λ u. GoesToEnd o u (Some opening.OpenStatus) ys) there g;
      }

  child-started : (parent pid : ℕ) → t.stage ≡ OpeningChildControl parent pid → answer_of x.reply ≡ Accepted
      → Remembers o (with_child_control t parent pid (handle_in x.reply)) (past ++ x ∷ [])
      (with_child_control t parent pid (handle_in x.reply)).stage
  unfolding with_child_control
  child-started parent pid is accepted =
      let new : Traced = newly_traced pid (handle_in x.reply) in
      let there : at_place (t.traced ++ new ∷ []) (length t.traced) ≡ new =
      get_or_push t.traced new nobody (length t.traced) refl in
      record {
        pid = pid;
        earlier = past;
        first = x;
        begun = [];
        is = refl;
        of = ap (λ (u : Traced). u.pid) there ∙ new-pid pid (handle_in x.reply);
        control = child_control-called parent pid is;
        granted = first-granted accepted;
        goes = λ ys g. subst (λ u. GoesChild u (Some child.SetRelease) ys) there g;
      }

  pub longer : (earlier begun : List Exchange) (first : Exchange) → past ≡ earlier ++ (first ∷ begun)
      → past ++ x ∷ [] ≡ earlier ++ (first ∷ (begun ++ x ∷ []))
  longer earlier begun first is =
      ap (λ (ys : List Exchange). ys ++ x ∷ []) is ∙ append_assoc earlier (first ∷ begun) (x ∷ [])

  step-within : (place : ℕ) (step : OpeningStep) → t.stage ≡ Opening place step → place < length t.traced
  step-within place step is = let f : Fits t.traced (Opening place step) = subst (Fits t.traced) is fits in f.0

  child-within : (parent place : ℕ) (step : ChildStep) → t.stage ≡ OpeningChild parent place step
      → place < length t.traced
  child-within parent place step is =
      let f : Fits t.traced (OpeningChild parent place step) = subst (Fits t.traced) is fits in
      let last = f.0 in
      omega (arith, last.last)

  gone_on : (place : ℕ) (step next : OpeningStep) → t.stage ≡ Opening place step → answer_of x.reply ≡ Accepted
      → step_after t.options x.reply step ≡ Some next
      → IsUnderWay o
      (with_stage (with_traced t place (learnt (traced_at t place) x.reply step)) (Opening place next)) place next
      (past ++ x ∷ [])
  gone_on place step next is accepted after =
      let w : IsUnderWay o t place step past = subst (Remembers o t past) is remembered in
      let there = set-at t.traced place (learnt (traced_at t place) x.reply step) (step-within place step is) in
      record {
        pid = w.pid;
        earlier = w.earlier;
        first = w.first;
        begun = w.begun ++ x ∷ [];
        is = longer w.earlier w.begun w.first w.is;
        of = ap (λ (u : Traced). u.pid) there ∙ learnt-pid (traced_at t place) x.reply step ∙ w.of;
        control = w.control;
        granted = All-push IsGranted (w.first ∷ w.begun) x w.granted (accepted-granted x accepted);
        goes = λ ys g.
            let later : GoesToEnd o (learnt (traced_at t place) x.reply step) (Some next) ys =
            subst (λ u. GoesToEnd o u (Some next) ys) there g in
            let rest : GoesToEnd o (learnt (traced_at t place) x.reply step) (step_after o x.reply step) ys =
            subst (λ n. GoesToEnd o (learnt (traced_at t place) x.reply step) n ys)
            (sym (ap (λ (p : Options). step_after p x.reply step) (sym same) ∙ after)) later in
            subst (GoesToEnd o (newly_traced w.pid (handle_in w.first.reply)) (Some opening.OpenStatus))
            (sym (append_assoc w.begun (x ∷ []) ys)) (w.goes (x ∷ ys) (step-called place step is, rest));
      }

  child-gone_on : (parent place : ℕ) (step next : ChildStep) → t.stage ≡ OpeningChild parent place step
      → answer_of x.reply ≡ Accepted → child_step_after step ≡ Some next
      → IsChildUnderWay
      (with_stage (with_traced t place (child_learnt (traced_at t place) x.reply step))
      (OpeningChild parent place next)) place next (past ++ x ∷ [])
  child-gone_on parent place step next is accepted after =
      let w : IsChildUnderWay t place step past = subst (Remembers o t past) is remembered in
      let there =
      set-at t.traced place (child_learnt (traced_at t place) x.reply step) (child-within parent place step is) in
      record {
        pid = w.pid;
        earlier = w.earlier;
        first = w.first;
        begun = w.begun ++ x ∷ [];
        is = longer w.earlier w.begun w.first w.is;
        of = ap (λ (u : Traced). u.pid) there ∙ child-pid (traced_at t place) x.reply step ∙ w.of;
        control = w.control;
        granted = All-push IsGranted (w.first ∷ w.begun) x w.granted (accepted-granted x accepted);
        goes = λ ys g.
            let later : GoesChild (child_learnt (traced_at t place) x.reply step) (Some next) ys =
            subst (λ u. GoesChild u (Some next) ys) there g in
            let rest : GoesChild (child_learnt (traced_at t place) x.reply step) (child_step_after step) ys =
            subst (λ n. GoesChild (child_learnt (traced_at t place) x.reply step) n ys) (sym after) later in
            subst (GoesChild (newly_traced w.pid (handle_in w.first.reply)) (Some child.SetRelease))
            (sym (append_assoc w.begun (x ∷ []) ys)) (w.goes (x ∷ ys) (child-called parent place step is, rest));
      }

  opens-remembers : (place : ℕ) (u : TrussState) → Opens t x.reply place u → Remembers o u (past ++ x ∷ []) u.stage
  opens-remembers place u (no none stays) = remembers-none o u (past ++ x ∷ []) u.stage none
  opens-remembers place u (starts pid is accepted same_as) =
      subst (λ (v : TrussState). Remembers o v (past ++ x ∷ []) v.stage) (sym same_as) (started pid is accepted)
  opens-remembers place u (child_starts parent pid is accepted same_as) =
      subst (λ (v : TrussState). Remembers o v (past ++ x ∷ []) v.stage) (sym same_as)
      (child-started parent pid is accepted)
  opens-remembers place u (goes step after is accepted comes same_as) =
      subst (λ (v : TrussState). Remembers o v (past ++ x ∷ []) v.stage) (sym same_as)
      (gone_on place step after is accepted comes)
  opens-remembers place u (child_goes parent step after is accepted comes same_as) =
      subst (λ (v : TrussState). Remembers o v (past ++ x ∷ []) v.stage) (sym same_as)
      (child-gone_on parent place step after is accepted comes)

  how-remembers : (u : TrussState) → How t x.reply u → Remembers o u (past ++ x ∷ []) u.stage
  how-remembers u (free places f begins) = remembers-none o u (past ++ x ∷ []) u.stage f.opens
  how-remembers u (less place after is removed f) = remembers-none o u (past ++ x ∷ []) u.stage f.opens
  how-remembers u (at place w) = opens-remembers place u w.opens

-- ---- along a history

-- what a reply makes of a truss that has its files
pub reached-comes : (k : ℕ) (t : TrussState) (s : TracedState) (r : Reply) → Reaches k t s → Comes t r (fed t r)
reached-comes k t s r g =
    let files : HasFiles k t s = g.files in
    let owns : Owns k t s = g.owns in
    let stands : Stands t.traced t.leaving t.stage = files.stands in
    fed-comes t r owns.fits stands.leaves

-- one of these exchanges was interrupted
pub record HasInterrupt (xs : List Exchange) : Type 0 where
  pub before : List Exchange
  pub call : Call
  pub later : List Exchange
  pub is : xs ≡ before ++ record { call = call; reply = reply.Fail Intr } ∷ later

pub record Recalls (o : Options) (t : TrussState) (xs : List Exchange) : Type 0 where
  pub options : t.options ≡ o
  pub opening : Remembers o t xs t.stage
  pub leaving : t.leaving ≡ true → HasInterrupt xs

earlier-interrupt : (xs : List Exchange) (x : Exchange) → HasInterrupt xs → HasInterrupt (xs ++ x ∷ [])
earlier-interrupt xs x i = record {
  before = i.before;
  call = i.call;
  later = i.later ++ x ∷ [];
  is =
      ap (λ (ys : List Exchange). ys ++ x ∷ []) i.is
      ∙ append_assoc i.before (record { call = i.call; reply = reply.Fail Intr } ∷ i.later) (x ∷ []);
}

new-interrupt : (xs : List Exchange) (x : Exchange) → answer_of x.reply ≡ Interrupted → HasInterrupt (xs ++ x ∷ [])
unfolding IsAnswer
new-interrupt xs x is =
    let refused : x.reply ≡ reply.Fail Intr = subst (IsAnswer x.reply) is (answer-is x.reply) in
    record {
      before = xs;
      call = x.call;
      later = [];
      is = ap (λ r. xs ++ record { call = x.call; reply = r } ∷ []) refused;
    }

pub fed-recalls : (k : ℕ) (o : Options) (t : TrussState) (s : TracedState) (past : List Exchange) (x : Exchange)
    → Reaches k t s → Recalls o t past → next_call_of t ≡ Some x.call → Recalls o (fed t x.reply) (past ++ x ∷ [])
fed-recalls k o t s past x g m next =
    let c = reached-comes k t s x.reply g in
    let owns : Owns k t s = g.owns in
    record {
      options = fed-options t x.reply ∙ m.options;
      opening = how-remembers o t past x m.options owns.fits next m.opening (fed t x.reply) c.how;
      leaving =
          λ on. elim
          (c.leaves on) [
            | inl before ↦ earlier-interrupt past x
                (m.leaving before)
            | inr now ↦ new-interrupt past x now
          ];
    }

told-recalls : (k : ℕ) (o : Options) (t : TrussState) (s : TracedState) (past : List Exchange) (x : Option Exchange)
    → Reaches k t s → Recalls o t past → MakesNext t x → Recalls o (with_exchange t x) (past ++ cons_option x [])
told-recalls k o t s past None g m next = subst (Recalls o t) (sym (append-nil past)) m
told-recalls k o t s past (Some x) g m next = fed-recalls k o t s past x g m next

first-recalls : (o : Options) → Recalls o (first_truss o) []
unfolding first_truss
first-recalls o = by o.program
  where
    pids : (p : Option ℕ) → Recalls o (opening_or (idle o) (idle o) p) []
    pids None = record { options = refl; opening = tt; leaving = λ on. absurd (false≢true on) }
    pids (Some pid) = record { options = refl; opening = tt; leaving = λ on. absurd (false≢true on) }

    by : (p : Option (List ℕ)) → Recalls o (first_of_program o p) []
    by None = pids (slice_get o.pids 0)
    by (Some program) = record { options = refl; opening = tt; leaving = λ on. absurd (false≢true on) }

-- what is recalled, of the same exchanges
same-recalls : (o : Options) (t u : TrussState) (xs ys : List Exchange) → t ≡ u → xs ≡ ys → Recalls o t xs
    → Recalls o u ys
same-recalls o t u xs ys truss same m = subst (λ v. Recalls o v ys) truss (subst (Recalls o t) same m)

cons-append : (x : Option Exchange) (xs : List Exchange) → cons_option x [] ++ xs ≡ cons_option x xs
cons-append None xs = refl
cons-append (Some x) xs = refl

later-recalls : (h : List Entry) (n k : ℕ) (o : Options) (t : TrussState) (s : TracedState) (past : List Exchange)
    → Reaches k t s → Recalls o t past → IsLegal n s h → Makes t (exchanges k h)
    → Recalls o (truss_after t (exchanges k h)) (past ++ exchanges k h)
later-recalls [] n k o t s past g m legal makes =
    same-recalls o t _ past _ (sym (ap (truss_after t) (no-exchanges k))) (sym (append-nil past)
    ∙ ap (λ xs. past ++ xs) (sym (no-exchanges k))) m
later-recalls (e ∷ h) n k o t s past g m legal makes =
    let x : Option Exchange = exchange_of k e in
    let first = makes-next k t e h makes in
    let rest =
    later-recalls h n k o (fed_by_entry k t e) (after s e) (past ++ cons_option x [])
    (entry-reaches n k t s e g legal.0 first.0) (told-recalls k o t s past x g m first.0) legal.1 first.1 in
    same-recalls o (truss_after (fed_by_entry k t e) (exchanges k h)) (truss_after t (exchanges k (e ∷ h))) _ _
    (sym (ap (truss_after t) (cons-exchanges k e h) ∙ after-cons t x (exchanges k h)))
    (append_assoc past (cons_option x []) (exchanges k h)
    ∙ ap (λ xs. past ++ xs) (cons-append x (exchanges k h) ∙ sym (cons-exchanges k e h)))
    rest

-- What truss recalls of a history is the exchanges of that history.
pub run-recalls : (n k : ℕ) (o : Options) (s : TracedState) (h : List Entry) → IsTrussRun n k o s h
    → Recalls o (truss_at k o h) (exchanges k h)
run-recalls n k o s h r =
    later-recalls h n k o (first_truss o) s [] (first-reaches k o s r.lawful r.nothing_open)
    (first-recalls o) r.legal r.makes
