use Rattle.std.proofs.Common.{◌≡◌, ◌≢◌, ◌<◌, ◌+◌, ◌++◌, ◌⊎◌, ℕ, zero, suc, true, false, Some, List, [], ◌∷◌, map, replicate, refl, sym, subst, ap, ◌∙◌, arith, inl, inr}
use Rattle.std.proofs.lemmas.Bool.{false≢true}
use Rattle.std.proofs.lemmas.List.Elements.{All-cons, All-head, All-nil}
use Rattle.std.proofs.lemmas.Option.{same_Some}
use Rattle.std.specs.List.{All, slice_set}
use Rattle.pr_line.specs.Functions.{function_limit}
use Rattle.pr_line.specs.declared.options.Options.{Options}
use Rattle.pr_model.specs.declared.calls.Call.{Call}
use Rattle.pr_model.specs.declared.calls.Call.TheVariants as call
use Rattle.pr_model.specs.declared.calls.Reply.{Reply}
use Rattle.pr_model.specs.declared.calls.Reply.TheVariants as reply
use Rattle.pr_num.specs.Limits.{instruction_size}
use Rattle.pr_num.specs.Messages.{message_code, nth_word, operands, spelling}
use Rattle.pr_num.specs.Words.{word_bytes, word_of}
use Rattle.pr_num.specs.declared.errnos.Errno.TheVariants.{Noent}
use Rattle.pr_num.specs.declared.messages.Message.TheVariants as message
use Rattle.pr_report_laws.proofs.Watching.HistoryParts.{all-rest}
use Rattle.pr_truss.specs.FunctionCalls.{lift_call, plant_call, write_code_call}
use Rattle.pr_truss.specs.FunctionFeeding.{fed_functions}
use Rattle.pr_truss.specs.Marks.{address_of, has_functions, no_functions, with_function}
use Rattle.pr_truss.specs.Messages.{message_call}
use Rattle.pr_truss.specs.NextCalls.{open_control, read_record}
use Rattle.pr_truss.specs.Replies.{answer_of}
use Rattle.pr_truss.specs.Trusses.{TrussState}
use Rattle.pr_truss.specs.declared.processes.Traced.{Traced}
use Rattle.pr_truss.specs.declared.replies.Answer.TheVariants.{Interrupted}
use Rattle.pr_truss_laws.proofs.Replies.AnswerLemmas.{gone-refuses}
use Rattle.pr_truss_laws.proofs.Replies.FunctionOptionLemmas.{fed_functions-options}
use Rattle.pr_truss_laws.specs.Exchanges.{Exchange}
use Rattle.pr_function_laws.proofs.CallTurns.TurnWalks.{AreNoReads}
use Rattle.pr_function_laws.proofs.Marks.LiftLemmas.{AfterLook, Looks, goes_on, has_ended, is_away, reply-after, step_flags}
use Rattle.pr_function_laws.proofs.Pending.FrontLemmas.{calm-answer}
use Rattle.pr_function_laws.proofs.Stepping.AwayLemmas.{Away, away-acts, away-opens, next-away}
use Rattle.pr_function_laws.specs.Coming.{Anything, ComeWhileItLives, IfEnded, Later, functions_from, functions_in}
use Rattle.pr_function_laws.specs.Lifted.{IsNoRead}
use Rattle.pr_function_laws.specs.Runs.{MakesFunctionCalls, functions_after}
use Rattle.pr_function_laws.specs.Stretches.{acts_by}

-- What truss calls from the read of an lwp at a breakpoint on, until it reads the process again: it plants the
-- breakpoint of the step before, lifts this one, and steps the lwp; and from then on it calls nothing of the process.

-- ---- the set of one function

none-of : (m n : ℕ) → functions_from n (replicate m false) ≡ []
none-of zero n = refl
none-of (suc m) n = none-of m (n + 1)

one-of : (m n f : ℕ) → f < m → functions_from n (slice_set (replicate m false) f true) ≡ (n + f) ∷ []
one-of zero n f within = absurd (omega (arith, within))
one-of (suc m) n zero within =
    let e : n ≡ n + 0 = omega arith in
    ap (λ fs. n ∷ fs) (none-of m (n + 1)) ∙ ap (λ i. i ∷ []) e
one-of (suc m) n (suc f) within =
    let e : (n + 1) + f ≡ n + suc f = omega arith in
    one-of m (n + 1) f (omega (arith, within)) ∙ ap (λ i. i ∷ []) e

pub one-function : (f : ℕ) → f < function_limit → functions_in (with_function no_functions f) ≡ f ∷ []
one-function f within =
    let e : 0 + f ≡ f = omega arith in one-of function_limit 0 f within ∙ ap (λ i. i ∷ []) e

-- ---- calls

abbrev bytes_sent : Call → List ℕ
bytes_sent (call.Ctl handle bytes) = bytes
bytes_sent _ = []

write-first : (at : ℕ) (code : List ℕ) → nth_word (spelling (message.Write at instruction_size) code) 0 ≡ 23
unfolding message_code operands nth_word word_bytes word_of
write-first at code = refl

run-first : (flags : ℕ) → nth_word (spelling (message.Run flags) []) 0 ≢ 23
unfolding message_code operands nth_word word_bytes word_of
run-first flags is = cc

-- PCWRITE is no PCRUN
pub write-runs : (o : Options) (handle other function flags : ℕ) (code : List ℕ)
    → write_code_call o handle function code ≡ message_call other (message.Run flags) → ⊥
write-runs o handle other function flags code is =
    run-first flags
    (sym (ap (λ (d : Call). nth_word (bytes_sent d) 0) is) ∙ write-first (address_of o function) code)

-- this call opens no control file
pub record OpensNone (x : Exchange) : Type 0 where
  pub opens_none : (pid : ℕ) → x.call ≢ open_control pid

sent-opens : {handle : ℕ} {bytes : List ℕ} (x : Exchange) → x.call ≡ call.Ctl handle bytes → OpensNone x
sent-opens x is = record { opens_none = λ pid same. clash (sym is ∙ same) }
  where
    clash : {handle : ℕ} {bytes : List ℕ} {pid : ℕ} → call.Ctl handle bytes ≡ open_control pid → ⊥
    clash both = cc

-- a reply says that the process has ended, or what is said of one that lives is so
ended-or : (r : Reply) (A B : Type 0) → IfEnded r A B → (r ≡ reply.Fail Noent) ⊎ B
ended-or (reply.Fail Noent) A B w = inl refl
ended-or _ A B w = inr w

calm-of : (ns : ℕ) (x : Exchange) → IsNoRead ns x → answer_of x.reply ≢ Interrupted
calm-of ns x quiet = calm-answer x (record { unbroken = quiet.no_interrupt })

module _ (c ns : ℕ) (met : Traced) (place : ℕ) where
  -- a handle is not that of the control file
  abbrev pub IsOther : ℕ → Type 0
  IsOther m = m ≢ c

  abbrev pub LooksAt : TrussState → Type 0
  LooksAt = Looks IsOther c ns met place

  abbrev pub IsAway : TrussState → Type 0
  IsAway = Away IsOther c ns met

  abbrev pub run_step : Call
  run_step = message_call c (message.Run step_flags)

  -- this call does not act by the control file
  pub record GoesElse (x : Exchange) : Type 0 where
    pub acts_not : acts_by x.call ≢ Some c

  -- this call is not PCRUN with PRCFAULT and PRSTEP
  pub record RunsNot (x : Exchange) : Type 0 where
    pub runs_not : x.call ≢ run_step

  has-next : (t : TrussState) (r : Reply) → has_functions t.options ≡ true
      → has_functions (fed_functions t r).options ≡ true
  has-next t r has = ap has_functions (fed_functions-options t r) ∙ has

  -- ---- away from the process

  pub record StaysAway (xs : List Exchange) (t : TrussState) : Type 0 where
    pub each : All GoesElse xs
    pub none : All OpensNone xs
    pub away : IsAway (functions_after t xs)

  pub stays-away : (xs : List Exchange) (t : TrussState) → IsAway t → has_functions t.options ≡ true
      → MakesFunctionCalls t xs → AreNoReads ns xs → StaysAway xs t
  stays-away [] t w has makes quiet = record { each = All-nil GoesElse; none = All-nil OpensNone; away = w }
  stays-away (x ∷ xs) t w has makes quiet =
      let q : IsNoRead ns x = quiet.0 in
      let next : IsAway (fed_functions t x.reply) =
      next-away IsOther c ns met t x.reply w (calm-of ns x q) has
      (λ is. q.no_read (same_Some x.call (read_record (Some ns)) (sym makes.0 ∙ is))) in
      let rest = stays-away xs (fed_functions t x.reply) next (has-next t x.reply has) makes.1 quiet.1 in
      record {
        each = All-cons GoesElse x xs
            (record { acts_not = λ acts. away-acts IsOther c ns met t w c has x.call makes.0 acts refl }) rest.each;
        none = All-cons OpensNone x xs
            (record {
              opens_none = λ pid is.
                  false≢true
                  (sym (away-opens IsOther c ns met t w has (open_control pid)
                  (makes.0 ∙ ap (λ (d : Call). Some d) is)));
            }) rest.none;
        away = rest.away;
      }

  -- ---- from the breakpoint on

  module _ (o : Options) (function : ℕ) where
    -- These breakpoints are planted, that of the function is lifted, and then an lwp is stepped.
    abbrev pub StepsOver : List ℕ → Later → List Exchange → Type 0
    StepsOver fs Ended xs =
        ComeWhileItLives (map (plant_call o c) fs ++ (lift_call o c function ∷ run_step ∷ [])) Anything Ended xs

    -- It was lifted, and an lwp is stepped.
    pub record WasRun (xs : List Exchange) (t : TrussState) : Type 0 where
      pub before : List Exchange
      pub x : Exchange
      pub run : Exchange
      pub after : List Exchange
      pub is : xs ≡ before ++ x ∷ (run ∷ after)
      pub lifts : x.call ≡ lift_call o c function
      pub runs : run.call ≡ run_step
      pub each : All GoesElse after
      pub none : All OpensNone xs
      pub away : IsAway (functions_after t xs)

    -- Truss has not run the process yet; or it has; or it was told that the process has ended.
    pub data Came (xs : List Exchange) (t : TrussState) : Type 0 where
      not_yet : All RunsNot xs → All OpensNone xs → LooksAt (functions_after t xs) → Came xs t
      was_run : WasRun xs t → Came xs t
      was_told : (before : List Exchange) (x : Exchange) (after : List Exchange) (sent : List ℕ)
          → xs ≡ before ++ x ∷ after → x.call ≡ call.Ctl c sent → x.reply ≡ reply.Fail Noent → Came xs t

    -- one call more before the others
    one-more : (x : Exchange) (xs : List Exchange) (t : TrussState) → RunsNot x → OpensNone x
        → Came xs (fed_functions t x.reply) → Came (x ∷ xs) t
    one-more x xs t runs opens (not_yet all none looks) =
        not_yet (All-cons RunsNot x xs runs all) (All-cons OpensNone x xs opens none) looks
    one-more x xs t runs opens (was_run w) = was_run (record {
      before = x ∷ w.before;
      x = w.x;
      run = w.run;
      after = w.after;
      is = ap (λ (ys : List Exchange). x ∷ ys) w.is;
      lifts = w.lifts;
      runs = w.runs;
      each = w.each;
      none = All-cons OpensNone x xs opens w.none;
      away = w.away;
    })
    one-more x xs t runs opens (was_told before y after sent is call_is told) =
        was_told (x ∷ before) y after sent (ap (λ (ys : List Exchange). x ∷ ys) is) call_is told

    -- an instruction is written
    module _ (x : Exchange) (xs : List Exchange) (t : TrussState) (l : LooksAt t)
        (has : has_functions t.options ≡ true) (makes : MakesFunctionCalls t (x ∷ xs)) (quiet : IsNoRead ns x)
        (g : ℕ) (code : List ℕ) (is : x.call ≡ write_code_call o c g code) where
      abbrev WroteThen : Type 0
      WroteThen = LooksAt (fed_functions t x.reply) → Came (x ∷ xs) t

      runs-not : RunsNot x
      runs-not = record { runs_not = λ runs. write-runs o c c g step_flags code (sym is ∙ runs) }

      opens-none : OpensNone x
      opens-none = sent-opens x is

      wrote : WroteThen → Came (x ∷ xs) t
      wrote rest = by (reply-after IsOther c ns met place t l has x.reply (calm-of ns x quiet) x.call makes.0)
        where
          by : AfterLook IsOther c ns met place t.options x.reply x.call (fed_functions t x.reply) → Came (x ∷ xs) t
          by (goes_on looks i bytes same) = rest looks
          by (is_away away runs) = absurd (write-runs o c c g step_flags code (sym is ∙ runs))
          by (has_ended gone) = was_told [] x xs _ refl is (let w = gone-refuses x.reply gone in w.is)

    -- it is lifted, and the lwp is stepped
    module _ (x y : Exchange) (ys : List Exchange) (t : TrussState) (lifts : x.call ≡ lift_call o c function)
        (runs : y.call ≡ run_step) (has : has_functions (fed_functions t x.reply).options ≡ true)
        (makes : MakesFunctionCalls (fed_functions t x.reply) (y ∷ ys)) (quiet : AreNoReads ns (y ∷ ys))
        (l : LooksAt (fed_functions t x.reply)) where
      abbrev u : TrussState
      u = fed_functions t x.reply

      ran-away : IsAway (fed_functions u y.reply) → Came (x ∷ y ∷ ys) t
      ran-away away =
          let w = stays-away ys (fed_functions u y.reply) away (has-next u y.reply has) makes.1 quiet.1 in
          was_run (record {
            before = [];
            x = x;
            run = y;
            after = ys;
            is = refl;
            lifts = lifts;
            runs = runs;
            each = w.each;
            none = All-cons OpensNone x (y ∷ ys) (sent-opens x lifts)
                (All-cons OpensNone y ys (sent-opens y runs) w.none);
            away = w.away;
          })

      stepped : Came (x ∷ y ∷ ys) t
      stepped =
          by (reply-after IsOther c ns met place u l has y.reply (calm-of ns y quiet.0) y.call makes.0)
        where
          by : AfterLook IsOther c ns met place u.options y.reply y.call (fed_functions u y.reply)
              → Came (x ∷ y ∷ ys) t
          by (goes_on looks i bytes same) = absurd (write-runs u.options c c i step_flags bytes (sym same ∙ runs))
          by (is_away away same) = ran-away away
          by (has_ended gone) =
              was_told (x ∷ []) y ys _ refl runs (let w = gone-refuses y.reply gone in w.is)

    pub came : (fs : List ℕ) (xs more : List Exchange) (t : TrussState) → LooksAt t → has_functions t.options ≡ true
        → MakesFunctionCalls t xs → AreNoReads ns xs → (Ended : Later) → StepsOver fs Ended (xs ++ more) → Came xs t
    came fs [] more t l has makes quiet Ended w = not_yet (All-nil RunsNot) (All-nil OpensNone) l
    came (f ∷ fs) (x ∷ xs) more t l has makes quiet Ended w =
        by (ended-or x.reply _ _ w.1)
        (λ rest next. came fs xs more (fed_functions t x.reply) next (has-next t x.reply has) makes.1 quiet.1 Ended
        rest)
      where
        by : (x.reply ≡ reply.Fail Noent) ⊎ StepsOver fs Ended (xs ++ more)
            → (StepsOver fs Ended (xs ++ more) → LooksAt (fed_functions t x.reply) → Came xs (fed_functions t x.reply))
            → Came (x ∷ xs) t
        by (inl told) later = was_told [] x xs _ refl w.0 told
        by (inr rest) later =
            wrote x xs t l has makes quiet.0 f _ w.0 (λ next.
            one-more x xs t (runs-not x xs t l has makes quiet.0 f _ w.0)
            (opens-none x xs t l has makes quiet.0 f _ w.0) (later rest next))
    came [] (x ∷ []) more t l has makes quiet Ended w =
        wrote x [] t l has makes quiet.0 function _ w.0 (λ next.
        one-more x [] t (runs-not x [] t l has makes quiet.0 function _ w.0)
        (opens-none x [] t l has makes quiet.0 function _ w.0)
        (not_yet (All-nil RunsNot) (All-nil OpensNone) next))
    came [] (x ∷ y ∷ ys) more t l has makes quiet Ended w = by (ended-or x.reply _ _ w.1)
      where
        by : (x.reply ≡ reply.Fail Noent)
            ⊎ ComeWhileItLives (run_step ∷ []) Anything Ended (y ∷ (ys ++ more)) → Came (x ∷ y ∷ ys) t
        by (inl told) = was_told [] x (y ∷ ys) _ refl w.0 told
        by (inr rest) =
            wrote x (y ∷ ys) t l has makes quiet.0 function _ w.0
            (stepped x y ys t w.0 rest.0 (has-next t x.reply has) makes.1 quiet.1)

-- ---- the last of some exchanges

-- none of these is the PCRUN
pub last-runs : {c ns : ℕ} {met : Traced} {place : ℕ} (ys xs : List Exchange) (y : Exchange) → ys ≡ xs ++ y ∷ []
    → All (RunsNot c ns met place) ys → y.call ≡ message_call c (message.Run step_flags) → ⊥
last-runs {c = c} {ns = ns} {met = met} {place = place} ys xs y is none runs =
    let last =
    All-head (RunsNot c ns met place) y []
    (all-rest (RunsNot c ns met place) xs (y ∷ []) (subst (All (RunsNot c ns met place)) is none)) in
    last.runs_not runs

-- none of these acts by the control file
pub last-acts : {c ns : ℕ} {met : Traced} {place : ℕ} (ys xs : List Exchange) (y : Exchange) → ys ≡ xs ++ y ∷ []
    → All (GoesElse c ns met place) ys → acts_by y.call ≡ Some c → ⊥
last-acts {c = c} {ns = ns} {met = met} {place = place} ys xs y is none acts =
    let last =
    All-head (GoesElse c ns met place) y []
    (all-rest (GoesElse c ns met place) xs (y ∷ []) (subst (All (GoesElse c ns met place)) is none)) in
    last.acts_not acts
