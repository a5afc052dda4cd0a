use Rattle.std.proofs.Common.{◌≡◌, ◌≢◌, ◌⊎◌, ◌++◌, ℕ, true, false, Option, Some, None, List, [], ◌∷◌, drop, length, append-nil, append_assoc, refl, sym, subst, ap, ◌∙◌, inl, inr}
use Rattle.std.proofs.lemmas.Bool.{cases_Bool, false≢true}
use Rattle.std.proofs.lemmas.List.Elements.{All-head}
use Rattle.std.proofs.lemmas.Option.{none-some, same_Some}
use Rattle.std.specs.List.{All, cons_option, slice_get}
use Rattle.pr_line.specs.declared.options.Options.{Options}
use Rattle.pr_model.specs.Legal.{state_after}
use Rattle.pr_model.specs.State.{TracedState}
use Rattle.pr_model.specs.declared.calls.Call.TheVariants as call
use Rattle.pr_model.specs.declared.calls.Reply.{Reply}
use Rattle.pr_model.specs.declared.calls.Reply.TheVariants as reply
use Rattle.pr_model.specs.declared.events.Entry.{Entry}
use Rattle.pr_num.proofs.ListLemmas.{drop-at}
use Rattle.pr_num.specs.declared.errnos.Errno.{Errno}
use Rattle.pr_num.specs.declared.errnos.Errno.TheVariants.{Intr}
use Rattle.pr_report_laws.proofs.Files.WatchHistories.{Reaches, exchanges-both, exchanges-push, no-exchanges}
use Rattle.pr_report_laws.proofs.Memory.WatchMemory.{accepted-granted}
use Rattle.pr_report_laws.proofs.Replies.TextReports.{reads_stop}
use Rattle.pr_report_laws.proofs.Watching.HistoryParts.{all-front, all-rest}
use Rattle.pr_report_laws.specs.OwnOpens.{IsGoingOn}
use Rattle.pr_report_laws.specs.SoonOpen.{HasPolled}
use Rattle.pr_report_laws.specs.Watching.{watches}
use Rattle.pr_truss.specs.Feeding.{fed}
use Rattle.pr_truss.specs.FunctionCalls.{function_call_of, next_function_call_of}
use Rattle.pr_truss.specs.FunctionFeeding.{fed_functions}
use Rattle.pr_truss.specs.Marks.{has_functions}
use Rattle.pr_truss.specs.NextCalls.{call_of, next_call_of}
use Rattle.pr_truss.specs.Openings.{pid_in}
use Rattle.pr_truss.specs.Replies.{answer_of}
use Rattle.pr_truss.specs.Trusses.{TrussState, first_of_program, first_truss, idle, opening_or, traced_at}
use Rattle.pr_truss.specs.declared.asides.Aside.TheVariants.{Nothing}
use Rattle.pr_truss.specs.declared.replies.Answer.TheVariants.{Accepted, Interrupted}
use Rattle.pr_truss.specs.declared.reports.Report.TheVariants.{CannotTrace}
use Rattle.pr_truss.specs.declared.stages.AfterClosing.TheVariants.{GoOn, OpenNext, RunParent}
use Rattle.pr_truss.specs.declared.stages.OpeningStep.TheVariants as opening
use Rattle.pr_truss.specs.declared.stages.Stage.{Stage}
use Rattle.pr_truss.specs.declared.stages.Stage.TheVariants.{Spawning, OpeningControl, Opening, ReadingStatus, ReadingLwps, Closing}
use Rattle.pr_truss_laws.proofs.Files.HeldLemmas.{Fits}
use Rattle.pr_truss_laws.proofs.Files.OwnLemmas.{Owns}
use Rattle.pr_truss_laws.proofs.Replies.AnswerLemmas.{IsAnswer, Refuses, answer-is}
use Rattle.pr_truss_laws.proofs.Replies.FedSteps.{fed-step}
use Rattle.pr_truss_laws.proofs.Replies.ReplySteps.{accepts, refused-other}
use Rattle.pr_truss_laws.specs.Exchanges.{Exchange, IsGranted, errno_in, exchange_of, exchanges}
use Rattle.pr_function_laws.proofs.CallTurns.CalledLaws.{functions-both}
use Rattle.pr_function_laws.proofs.Holding.GivenSteps.{AtGiven, GoesFurther, IsRefusing, Moves, at_control, at_opening, closed, drop-none, else-of, fed-given, fed-told, is_given, last-same, not-longer, not_begun, opened, step-else, stepped}
use Rattle.pr_function_laws.proofs.Holding.HoldBegins.{complete}
use Rattle.pr_function_laws.proofs.Holding.HoldCalls.{after-other, is_start}
use Rattle.pr_function_laws.proofs.Holding.HoldLaws.{StandsIn, earlier, last, nowhere, stands-in}
use Rattle.pr_function_laws.proofs.Holding.HoldOpens.{before-is, ends-so, gets-off, gets-watches}
use Rattle.pr_function_laws.proofs.LeavingProcesses.LeavingLaws.{calm-exchanges}
use Rattle.pr_function_laws.proofs.NextCalls.PatchCalls.{next-staged}
use Rattle.pr_function_laws.proofs.NextCalls.TreatedLaws.{options-at}
use Rattle.pr_function_laws.proofs.OrdinaryTruss.OrdinaryEntries as entries
use Rattle.pr_function_laws.proofs.OrdinaryTruss.OrdinaryEntries.{along, front-run, watches-ordinary}
use Rattle.pr_function_laws.proofs.OrdinaryTruss.OrdinaryExchanges.{IsFit, own-row, sees}
use Rattle.pr_function_laws.proofs.OrdinaryTruss.OrdinaryFiles.{Follows}
use Rattle.pr_function_laws.proofs.OrdinaryTruss.OrdinaryLaws.{function-ends}
use Rattle.pr_function_laws.proofs.OrdinaryTruss.OrdinaryRows.{Row, Step, feeds, passes, refuses, stays}
use Rattle.pr_function_laws.proofs.ShownOnce.GoingOn.{Going, after-going}
use Rattle.pr_function_laws.specs.Handled.{AreDoneWith, AreGiven, HoldsOrRefusesItsGiven, IsDoneWith, IsNextGiven, SaysCannotTrace, StandsTwice, gets_hold, made, named, says_not}
use Rattle.pr_function_laws.specs.Holds.{GetsHoldWithFunctions, IsWholeFunctionOpening}
use Rattle.pr_function_laws.specs.Opened.{IsFunctionRun, WasNotInterrupted, functions_at}
use Rattle.pr_function_laws.specs.Ordinary.{IsTakenUp, SeesTo, ordinary, ordinary_among}
use Rattle.pr_function_laws.specs.Runs.{functions_after}

-- Truss with calls of functions gets hold of each process that it was given, or says that it cannot trace it, one after
-- another.

-- ---- what it was given

head-same : (x y : Exchange) (xs ys : List Exchange) → x ∷ xs ≡ y ∷ ys → x ≡ y
head-same x y xs ys is = cc

-- later exchanges make no other list of it
given-more : (o : Options) (xs ys : List Exchange) (given : List ℕ) → AreGiven o xs given → AreGiven o (xs ++ ys) given
given-more o xs ys given (named none is) = named none is
given-more o xs ys given (made program r later some first granted is) =
    made program r (later ++ ys) some (ap (λ (zs : List Exchange). zs ++ ys) first) granted is

given-same : (o : Options) (xs : List Exchange) (a b : List ℕ) → AreGiven o xs a → AreGiven o xs b → a ≡ b
given-same o xs a b (named none is) (named other its) = is ∙ sym its
given-same o xs a b (named none is) (made program r later some first granted its) =
    absurd (none-some program (sym none ∙ some))
given-same o xs a b (made program r later some first granted is) (named none its) =
    absurd (none-some program (sym none ∙ some))
given-same o xs a b (made program r later some first granted is) (made other q then named_so begins allowed its) =
    is
    ∙ ap (λ (x : Exchange). pid_in x.reply ∷ o.pids)
    (head-same (record { call = call.Spawn program true; reply = r })
    (record { call = call.Spawn other true; reply = q }) later then (sym first ∙ begins)) ∙ sym its

-- The process of its program was refused.
record IsUnmade (o : Options) (xs : List Exchange) : Type 0 where
  program : List ℕ
  errno : Errno
  later : List Exchange
  named_so : o.program ≡ Some program
  is : xs ≡ record { call = call.Spawn program true; reply = reply.Fail errno } ∷ later

unmade-more : (o : Options) (xs ys : List Exchange) → IsUnmade o xs → IsUnmade o (xs ++ ys)
unmade-more o xs ys w = record {
  program = w.program;
  errno = w.errno;
  later = w.later ++ ys;
  named_so = w.named_so;
  is = ap (λ (zs : List Exchange). zs ++ ys) w.is;
}

unmade-none : {A : Type 0} (o : Options) (xs : List Exchange) (given : List ℕ) → IsUnmade o xs → AreGiven o xs given
    → A
unmade-none o xs given w (named none is) = absurd (none-some w.program (sym none ∙ w.named_so))
unmade-none o xs given w (made program r later some first granted is) =
    absurd
    (none-some w.errno
    (sym granted
    ∙ ap (λ (x : Exchange). errno_in x.reply)
    (head-same (record { call = call.Spawn program true; reply = r })
    (record { call = call.Spawn w.program true; reply = reply.Fail w.errno }) later w.later (sym first ∙ w.is))))

-- a process stands in a list
record IsAmong (pid : ℕ) (pids : List ℕ) : Type 0 where
  before : List ℕ
  after : List ℕ
  is : pids ≡ before ++ pid ∷ after

among-more : (pid : ℕ) (pids more : List ℕ) → IsAmong pid pids → IsAmong pid (pids ++ more)
among-more pid pids more w = record {
  before = w.before;
  after = w.after ++ more;
  is = ap (λ ps. ps ++ more) w.is ∙ append_assoc w.before (pid ∷ w.after) more;
}

-- ---- with which it has done

module _ (k : ℕ) (o : Options) where
  done-more : (pids : List ℕ) (before h more : List Entry) → AreDoneWith k o pids before h
      → AreDoneWith k o pids before (h ++ more)
  done-more [] before h more w = tt
  done-more (pid ∷ pids) before h more w = record {
    between = w.between;
    entry = w.entry;
    later = w.later ++ more;
    is =
        ap (λ (es : List Entry). es ++ more) w.is ∙ append_assoc w.between (w.entry ∷ w.later) more;
    done = w.done;
    next = done-more pids ((before ++ w.between) ++ w.entry ∷ []) w.later more w.next;
  }

  -- one more, in the entry behind
  done-push : (pids : List ℕ) (before h : List Entry) (pid : ℕ) (e : Entry) → AreDoneWith k o pids before h
      → IsDoneWith k o pid (before ++ h) e → AreDoneWith k o (pids ++ pid ∷ []) before (h ++ e ∷ [])
  done-push [] before h pid e w done = record {
    between = h;
    entry = e;
    later = [];
    is = refl;
    done = done;
    next = tt;
  }
  done-push (p ∷ pids) before h pid e w done = record {
    between = w.between;
    entry = w.entry;
    later = w.later ++ e ∷ [];
    is =
        ap (λ (es : List Entry). es ++ e ∷ []) w.is
        ∙ append_assoc w.between (w.entry ∷ w.later) (e ∷ []);
    done = w.done;
    next =
        done-push pids ((before ++ w.between) ++ w.entry ∷ []) w.later pid e w.next
        (subst (λ (es : List Entry). IsDoneWith k o pid es e)
        (ap (λ (es : List Entry). before ++ es) w.is
        ∙ sym (append_assoc before w.between (w.entry ∷ w.later))
        ∙ sym (append_assoc (before ++ w.between) (w.entry ∷ []) w.later)) done);
  }

  -- what is so of each entry in which it has done with a process, and of the next one, is so of each then
  each-push : (P : ℕ → Type 0) (before : List Entry) (e : Entry)
      → ((first rest : List Entry) (f : Entry) (pid : ℕ) → before ≡ first ++ f ∷ rest → IsDoneWith k o pid first f
      → P pid)
      → ((pid : ℕ) → IsDoneWith k o pid before e → P pid) → (first rest : List Entry) (f : Entry) (pid : ℕ)
      → before ++ e ∷ [] ≡ first ++ f ∷ rest → IsDoneWith k o pid first f → P pid
  each-push P before e old new first rest f pid is done = by (stands-in before first rest e f is)
    where
      by : StandsIn before first rest e f → P pid
      by (last same its) =
          new pid
          (subst (λ z. IsDoneWith k o pid before z) its
          (subst (λ (es : List Entry). IsDoneWith k o pid es f) same done))
      by (earlier between parts) = old first between f pid parts done

  -- ---- how far it has come

  -- It has done with the first ones of those that it was given, and with no others; and these are ahead.
  record Fronts (before : List Entry) (ahead : List ℕ) : Type 0 where
    given : List ℕ
    are : AreGiven o (exchanges k before) given
    front : List ℕ
    is : given ≡ front ++ ahead
    done : AreDoneWith k o front [] before
    each : (first rest : List Entry) (f : Entry) (pid : ℕ) → before ≡ first ++ f ∷ rest
        → IsDoneWith k o pid first f → IsAmong pid front

  -- A call was interrupted; or there is no process of its program; or it has done with all.
  data Else (before : List Entry) : Type 0 where
    broken : (All WasNotInterrupted (exchanges k before) → ⊥) → Else before
    unmade : IsUnmade o (exchanges k before) → Else before
    all_done : (given : List ℕ) → AreGiven o (exchanges k before) given → AreDoneWith k o given [] before → Else before

  -- It has made no call, and makes the process of its program next.
  record Starts (before : List Entry) (program : List ℕ) : Type 0 where
    none : exchanges k before ≡ []
    named_so : o.program ≡ Some program
    each : (first rest : List Entry) (f : Entry) (pid : ℕ) → before ≡ first ++ f ∷ rest
        → IsDoneWith k o pid first f → ⊥

  abbrev GivenAt : List Entry → Type 0
  GivenAt h =
      AtGiven (Fronts h) (Else h) (Starts h) (ordinary (functions_at k o h)) (functions_at k o h).stage

  module _ (before : List Entry) (e : Entry) where
    abbrev next : List Entry
    next = before ++ e ∷ []

    more-exchanges : exchanges k next ≡ exchanges k before ++ cons_option (exchange_of k e) []
    more-exchanges = exchanges-push k before e

    given-next : (given : List ℕ) → AreGiven o (exchanges k before) given → AreGiven o (exchanges k next) given
    given-next given w =
        subst (λ xs. AreGiven o xs given) (sym more-exchanges)
        (given-more o (exchanges k before) (cons_option (exchange_of k e) []) given w)

    fronts-more : (ahead : List ℕ) → ((pid : ℕ) → IsDoneWith k o pid before e → ⊥) → Fronts before ahead
        → Fronts next ahead
    fronts-more ahead none w = record {
      given = w.given;
      are = given-next w.given w.are;
      front = w.front;
      is = w.is;
      done = done-more w.front [] before (e ∷ []) w.done;
      each = each-push (λ pid. IsAmong pid w.front) before e w.each (λ pid done. absurd (none pid done));
    }

    fronts-done : (pid : ℕ) (ahead : List ℕ) → IsDoneWith k o pid before e
        → ((q : ℕ) → IsDoneWith k o q before e → q ≡ pid) → Fronts before (pid ∷ ahead) → Fronts next ahead
    fronts-done pid ahead done only w = record {
      given = w.given;
      are = given-next w.given w.are;
      front = w.front ++ pid ∷ [];
      is = w.is ∙ sym (append_assoc w.front (pid ∷ []) ahead);
      done = done-push w.front [] before pid e w.done done;
      each =
          each-push (λ q. IsAmong q (w.front ++ pid ∷ [])) before e
          (λ first rest f q parts past. among-more q w.front (pid ∷ []) (w.each first rest f q parts past))
          (λ q now. record { before = w.front; after = []; is = ap (λ p. w.front ++ p ∷ []) (sym (only q now)) });
    }

    else-more : Else before → Else next
    else-more (broken some) =
        broken
        (λ all. some
        (all-front WasNotInterrupted (exchanges k before) (cons_option (exchange_of k e) [])
        (subst (All WasNotInterrupted) more-exchanges all)))
    else-more (unmade w) =
        unmade
        (subst (IsUnmade o) (sym more-exchanges)
        (unmade-more o (exchanges k before) (cons_option (exchange_of k e) []) w))
    else-more (all_done given are done) =
        all_done given (given-next given are) (done-more given [] before (e ∷ []) done)

-- ---- an entry

module _ (n k : ℕ) (o : Options) (s : TracedState) (before later : List Entry) (e : Entry)
    (run : IsFunctionRun n k o s (before ++ e ∷ later)) where
  abbrev t : TrussState
  t = functions_at k o before

  abbrev u : TrussState
  u = ordinary t

  abbrev behind : List Entry
  behind = before ++ e ∷ []

  one-run : IsFunctionRun n k o s (before ++ e ∷ [])
  one-run =
      front-run n k o s (before ++ e ∷ []) later
      (subst (IsFunctionRun n k o s) (sym (append_assoc before (e ∷ []) later)) run)

  there : Follows k o t (state_after s before)
  there = entries.follows n k o s before later e run

  going-here : Going (exchanges k before) t.stage
  going-here = entries.going n k o s before later e run

  -- where no call is made truss has done with nothing
  silent : (pid : ℕ) → exchange_of k e ≡ None → IsDoneWith k o pid before e → ⊥
  silent pid none (gets_hold g) = none-some g.last (sym none ∙ g.own)
  silent pid none (says_not w) =
      not-longer (ordinary_among t.reports) (CannotTrace pid w.errno)
      (ap (λ (z : TrussState). ordinary_among z.reports) (sym (entries.unmoved n k o s before later e run none))
      ∙ w.told)

  module _ (x : Exchange) (own : exchange_of k e ≡ Some x) where
    abbrev v : TrussState
    v = fed_functions t x.reply

    pushed : functions_at k o behind ≡ v
    pushed = entries.pushed n k o s before later e run x own

    one-more : exchanges k behind ≡ exchanges k before ++ x ∷ []
    one-more = exchanges-push k before e ∙ ap (λ y. exchanges k before ++ cons_option y []) own

    row-here : Row t x.reply v
    row-here =
        own-row o run.has run.follows_none t x there.fit (entries.made n k o s before later e run x own)
        (entries.calm n k o s before later e run x own)

    told-so : (pid : ℕ) (w : SaysCannotTrace k o pid before e)
        → ordinary_among v.reports ≡ ordinary_among t.reports ++ CannotTrace pid w.errno ∷ []
    told-so pid w = ap (λ (z : TrussState). ordinary_among z.reports) (sym pushed) ∙ w.told

    -- ---- where it says that it cannot trace a process

    bytes-told : (pid : ℕ) (errno : Errno) (stage : Stage) → IsRefusing u (reply.Bytes []) pid errno stage
        → IsRefusing u x.reply pid errno stage
    bytes-told pid errno stage (at_control w) = absurd (clash w.is)
      where
        clash : reply.Bytes [] ≡ reply.Fail errno → ⊥
        clash is = cc
    bytes-told pid errno stage (at_opening of w) = absurd (clash w.is)
      where
        clash : reply.Bytes [] ≡ reply.Fail errno → ⊥
        clash is = cc

    says-by : (pid : ℕ) (w : SaysCannotTrace k o pid before e) → Step t x.reply v
        → IsRefusing u x.reply pid w.errno t.stage
    says-by pid w (stays on over stay) =
        not-longer (ordinary_among t.reports) (CannotTrace pid w.errno)
        (ap (λ (z : TrussState). z.reports) (sym stay) ∙ told-so pid w)
    says-by pid w (feeds idle none_own comes) =
        fed-told (exchanges k before) u x.reply pid w.errno going-here
        (ap (λ (z : TrussState). z.reports) (sym comes) ∙ told-so pid w)
    says-by pid w (refuses errno on was may comes) =
        fed-told (exchanges k before) u x.reply pid w.errno going-here
        (ap (λ (z : TrussState). z.reports) (sym comes) ∙ told-so pid w)
    says-by pid w (passes idle reads own_fault comes) =
        bytes-told pid w.errno t.stage
        (fed-told (exchanges k before) u (reply.Bytes []) pid w.errno going-here
        (ap (λ (z : TrussState). z.reports) (sym comes) ∙ told-so pid w))

    says-at : (pid : ℕ) (w : SaysCannotTrace k o pid before e) → IsRefusing u x.reply pid w.errno t.stage
    says-at pid w = let row = row-here in says-by pid w row.step

    -- ---- where it gets hold of one

    held-truss : (pid : ℕ) (g : GetsHoldWithFunctions k o pid before e)
        → t ≡ functions_after (functions_after (first_truss o) g.earlier)
        (let w = ends-so n k o pid s before e one-run g in w.front)
    held-truss pid g =
        let w = ends-so n k o pid s before e one-run g in
        ap (functions_after (first_truss o)) (before-is n k o pid s before e one-run g)
        ∙ functions-both (first_truss o) g.earlier w.front

    held-granted : (pid : ℕ) → GetsHoldWithFunctions k o pid before e → IsGranted x
    held-granted pid g =
        let w = ends-so n k o pid s before e one-run g in
        let whole : IsWholeFunctionOpening o pid g.opening = g.whole in
        let same : x ≡ w.last =
        last-same (g.earlier ++ w.front) (g.earlier ++ w.front) x w.last
        (ap (λ (ys : List Exchange). ys ++ x ∷ []) (sym (before-is n k o pid s before e one-run g))
        ∙ sym one-more ∙ g.is ∙ ap (λ (ys : List Exchange). g.earlier ++ ys) w.is
        ∙ sym (append_assoc g.earlier w.front (w.last ∷ []))) in
        subst IsGranted (sym same)
        (All-head IsGranted w.last []
        (all-rest IsGranted w.front (w.last ∷ []) (subst (All IsGranted) w.is whole.granted)))

    -- ---- how truss stands where it has done with a process

    data Stood (pid : ℕ) : Type 0 where
      ends : (place : ℕ) → t.stage ≡ Opening place opening.Start → (traced_at u place).pid ≡ pid → IsGranted x
          → Stood pid
      refusing : (errno : Errno) → IsRefusing u x.reply pid errno t.stage → Stood pid

    stood : (pid : ℕ) → IsDoneWith k o pid before e → Stood pid
    stood pid (gets_hold g) =
        let w = ends-so n k o pid s before e one-run g in
        ends (length (ordinary (functions_after (first_truss o) g.earlier)).traced)
        (ap (λ (z : TrussState). z.stage) (held-truss pid g) ∙ w.stands)
        (ap
        (λ (z : TrussState). (traced_at (ordinary z)
        (length (ordinary (functions_after (first_truss o) g.earlier)).traced)).pid)
        (held-truss pid g) ∙ w.of)
        (held-granted pid g)
    stood pid (says_not w) = refusing w.errno (says-at pid w)

    refuses-so : (pid : ℕ) (errno : Errno) (stage : Stage) → IsRefusing u x.reply pid errno stage
        → Refuses x.reply errno
    refuses-so pid errno stage (at_control w) = w
    refuses-so pid errno stage (at_opening of w) = w

    accepted-not : {A : Type 0} (errno : Errno) → answer_of x.reply ≡ Accepted → Refuses x.reply errno → A
    accepted-not errno accepted was =
        absurd (false≢true (sym (refused-other x.reply errno was) ∙ ap accepts accepted))

    granted-not : {A : Type 0} (errno : Errno) → IsGranted x → Refuses x.reply errno → A
    granted-not errno granted was =
        absurd (none-some errno (sym granted.not_refused ∙ ap errno_in was.is))

    -- it has done with none where it only goes further
    further-none : GoesFurther u x.reply → (pid : ℕ) → IsDoneWith k o pid before e → ⊥
    further-none (opened of at accepted) pid done = by (stood pid done)
      where
        by : Stood pid → ⊥
        by (ends place here its granted) =
            let clash : OpeningControl of ≡ Opening place opening.Start = sym at ∙ here in cc
        by (refusing errno w) = accepted-not errno accepted (refuses-so pid errno t.stage w)
    further-none (stepped q now next_step at comes accepted) pid done = by (stood pid done)
      where
        start-of : (place : ℕ) → Opening q now ≡ Opening place opening.Start → now ≡ opening.Start
        start-of place is = cc

        by : Stood pid → ⊥
        by (ends place here its granted) =
            false≢true
            (sym (after-other u.options x.reply now next_step comes) ∙ ap is_start (start-of place (sym at ∙ here)))
        by (refusing errno w) = accepted-not errno accepted (refuses-so pid errno t.stage w)
    further-none (closed q at) pid done = by (stood pid done)
      where
        not-there : (errno : Errno) (stage : Stage) → stage ≡ Closing q OpenNext → IsRefusing u x.reply pid errno stage
            → ⊥
        not-there errno stage is (at_control w) = cc
        not-there errno stage is (at_opening of w) = cc

        by : Stood pid → ⊥
        by (ends place here its granted) =
            let clash : Closing q OpenNext ≡ Opening place opening.Start = sym at ∙ here in cc
        by (refusing errno w) = not-there errno t.stage at w

    -- nor where nothing changes but what it does beside
    beside-none : ordinary v ≡ u → (pid : ℕ) → IsDoneWith k o pid before e → ⊥
    beside-none stay pid (gets_hold g) =
        false≢true
        (sym (gets-off n k o pid s before e one-run g) ∙ sym (watches-ordinary t pid)
        ∙ ap (λ z. watches z pid) (sym stay) ∙ watches-ordinary v pid ∙ ap (λ z. watches z pid) (sym pushed)
        ∙ gets-watches n k o pid s before e one-run g)
    beside-none stay pid (says_not w) =
        not-longer (ordinary_among t.reports) (CannotTrace pid w.errno)
        (ap (λ (z : TrussState). z.reports) (sym stay) ∙ told-so pid w)

    -- ---- one entry more

    -- Its call is the one of its stage; or one beside that was refused, which counts so.
    abbrev Counts : Type 0
    Counts = (t.aside ≡ Nothing) ⊎ ((errno : Errno) × (Refuses x.reply errno × IsTakenUp t.stage errno))

    staged-here : (stage : Stage) → t.stage ≡ stage → t.aside ≡ Nothing → function_call_of t stage ≡ Some x.call
    staged-here stage here free =
        let fit : IsFit o t = there.fit in
        sym (next-staged o run.has t stage fit.options free here) ∙ entries.made n k o s before later e run x own

    spawned : (program : List ℕ) → t.stage ≡ Spawning program → t.aside ≡ Nothing
        → x.call ≡ call.Spawn program true
    unfolding function_call_of call_of
    spawned program at free = sym (same_Some _ x.call (staged-here (Spawning program) at free))

    first-is : (program : List ℕ) (r : Reply) → Starts k o before program → x.call ≡ call.Spawn program true
        → x.reply ≡ r → exchanges k behind ≡ record { call = call.Spawn program true; reply = r } ∷ []
    first-is program r w called answer =
        one-more ∙ ap (λ (ys : List Exchange). ys ++ x ∷ []) w.none
        ∙ ap (λ c. record { call = c; reply = x.reply } ∷ []) called
        ∙ ap (λ a. record { call = call.Spawn program true; reply = a } ∷ []) answer

    module _ (counts : Counts) (comes : ordinary v ≡ fed u x.reply) where
      says-so : (pid : ℕ) (errno : Errno) → (fed u x.reply).reports ≡ u.reports ++ CannotTrace pid errno ∷ []
          → SaysCannotTrace k o pid before e
      says-so pid errno told = record {
        errno = errno;
        told =
            ap (λ (z : TrussState). ordinary_among z.reports) pushed ∙ ap (λ (z : TrussState). z.reports) comes
            ∙ told;
      }

      -- the one of which it says so is the only one
      only-refused : (pid : ℕ) (errno : Errno) → Refuses x.reply errno
          → (fed u x.reply).reports ≡ u.reports ++ CannotTrace pid errno ∷ [] → (q : ℕ) → IsDoneWith k o q before e
          → q ≡ pid
      only-refused pid errno was told q (gets_hold g) = granted-not errno (held-granted q g) was
      only-refused pid errno was told q (says_not w) =
          let same : CannotTrace q w.errno ≡ CannotTrace pid errno =
          last-same (ordinary_among t.reports) (ordinary_among t.reports) (CannotTrace q w.errno)
          (CannotTrace pid errno)
          (sym (told-so q w) ∙ ap (λ (z : TrussState). z.reports) comes ∙ told) in cc

      only-held : (place : ℕ) → t.stage ≡ Opening place opening.Start → answer_of x.reply ≡ Accepted → (q : ℕ)
          → IsDoneWith k o q before e → q ≡ (traced_at u place).pid
      only-held place at accepted q done = by (stood q done)
        where
          same-place : (a : ℕ) → Opening a opening.Start ≡ Opening place opening.Start → a ≡ place
          same-place a is = cc

          by : Stood q → q ≡ (traced_at u place).pid
          by (ends a here its granted) =
              sym its ∙ ap (λ i. (traced_at u i).pid) (same-place a (sym here ∙ at))
          by (refusing errno w) = accepted-not errno accepted (refuses-so q errno t.stage w)

      gets-here : (place : ℕ) → t.stage ≡ Opening place opening.Start → answer_of x.reply ≡ Accepted → Counts
          → GetsHoldWithFunctions k o (traced_at u place).pid before e
      gets-here place at accepted (inl free) =
          complete n k o (traced_at u place).pid s before later e run x own place refl at free accepted
      gets-here place at accepted (inr c) = accepted-not c.0 accepted c.1.0

      starts-here : (program : List ℕ) → t.stage ≡ Spawning program → answer_of x.reply ≡ Accepted → t.begun ≡ 0
          → Starts k o before program → Counts → Fronts k o behind (pid_in x.reply ∷ not_begun u)
      starts-here program at accepted first w (inr c) = accepted-not c.0 accepted c.1.0
      starts-here program at accepted first w (inl free) =
          let fit : IsFit o t = there.fit in
          let granted : IsGranted x = accepted-granted x accepted in
          record {
            given = pid_in x.reply ∷ o.pids;
            are =
                made program x.reply [] w.named_so (first-is program x.reply w (spawned program at free) refl)
                granted.not_refused refl;
            front = [];
            is =
                ap (λ (p : Options). pid_in x.reply ∷ p.pids) (sym fit.options)
                ∙ ap (λ i. pid_in x.reply ∷ drop i t.options.pids) (sym first);
            done = tt;
            each =
                each-push k o (λ pid. IsAmong pid []) before e
                (λ a b f pid parts past. absurd (w.each a b f pid parts past))
                (λ pid now. absurd (spawning-none program at pid (stood pid now)));
          }
        where
          not-there : (stage : Stage) → stage ≡ Spawning program → (pid : ℕ) (errno : Errno)
              → IsRefusing u x.reply pid errno stage → ⊥
          not-there stage is pid errno (at_control q) = cc
          not-there stage is pid errno (at_opening of q) = cc

          spawning-none : (p : List ℕ) → t.stage ≡ Spawning p → (pid : ℕ) → Stood pid → ⊥
          spawning-none p here pid (ends place so its granted) =
              let clash : Spawning p ≡ Opening place opening.Start = sym here ∙ so in cc
          spawning-none p here pid (refusing errno q) = not-there t.stage at pid errno q

      unmade-here : (program : List ℕ) (errno : Errno) → t.stage ≡ Spawning program → Refuses x.reply errno
          → Starts k o before program → Counts → Else k o behind
      unmade-here program errno at was w (inr c) = absurd (subst (λ stage. IsTakenUp stage c.0) at c.1.1)
      unmade-here program errno at was w (inl free) =
          unmade (record {
            program = program;
            errno = errno;
            later = [];
            named_so = w.named_so;
            is = first-is program (reply.Fail errno) w (spawned program at free) was.is;
          })

      broken-here : answer_of x.reply ≡ Interrupted → Else k o behind
      unfolding IsAnswer
      broken-here is =
          broken
          (λ all.
          let quiet : WasNotInterrupted x =
          All-head WasNotInterrupted x []
          (all-rest WasNotInterrupted (exchanges k before) (x ∷ []) (subst (All WasNotInterrupted) one-more all)) in
          quiet.unbroken (subst (IsAnswer x.reply) is (answer-is x.reply)))

      moves : Moves (Fronts k o before) (Else k o before) (Starts k o before) (Fronts k o behind) (Else k o behind)
          (Starts k o behind) u x.reply
      moves = record {
        further = λ pids more w. fronts-more k o before e pids (further-none more) w;
        refused = λ pid pids errno was told w.
            fronts-done k o before e pid pids (says_not (says-so pid errno told)) (only-refused pid errno was told) w;
        held = λ place pids at accepted w.
            fronts-done k o before e (traced_at u place).pid pids (gets_hold (gets-here place at accepted counts))
            (only-held place at accepted) w;
        other = λ w. else-more k o before e w;
        over = λ w. all_done w.given w.are
            (subst (λ ps. AreDoneWith k o ps [] behind) (sym (w.is ∙ append-nil w.front)) w.done);
        broken = broken-here;
        started = λ program at accepted first w. starts-here program at accepted first w counts;
        unmade = λ program errno at was w. unmade-here program errno at was w counts;
      }

      fed-here : AtGiven (Fronts k o before) (Else k o before) (Starts k o before) u u.stage
          → AtGiven (Fronts k o behind) (Else k o behind) (Starts k o behind) (fed u x.reply) (fed u x.reply).stage
      fed-here w =
          fed-given (Fronts k o before) (Else k o before) (Starts k o before) (Fronts k o behind) (Else k o behind)
          (Starts k o behind) u x.reply moves
          (λ place now at.
          let g : Reaches k u (state_after s before) = there.reaches in
          let owns : Owns k u (state_after s before) = g.owns in
          let fits : Fits u.traced (Opening place now) = subst (Fits u.traced) at owns.fits in fits.0) w

    -- what it does beside a stage
    beside-here : ((pid : ℕ) → IsDoneWith k o pid before e → ⊥) → (stage : Stage) → SeesTo t stage x.call
        → AtGiven (Fronts k o before) (Else k o before) (Starts k o before) u stage
        → AtGiven (Fronts k o behind) (Else k o behind) (Starts k o behind) u stage
    beside-here none (Spawning program) seen w = absurd seen
    beside-here none (OpeningControl pid) seen w = absurd seen
    beside-here none (Opening place now) seen w = fronts-more k o before e _ none w
    beside-here none (Closing place OpenNext) seen w = fronts-more k o before e _ none w
    beside-here none (Closing place GoOn) seen w = else-more k o before e w
    beside-here none (Closing place (RunParent parent)) seen w = else-more k o before e w
    beside-here none _ seen w = else-more k o before e w

    reads-none : (stage : Stage) → reads_stop stage ≡ true → is_given stage ≡ false
    reads-none (ReadingStatus place) reads = refl
    reads-none ReadingLwps reads = refl
    reads-none _ reads = absurd (false≢true reads)

    abbrev After : TrussState → Type 0
    After z = AtGiven (Fronts k o behind) (Else k o behind) (Starts k o behind) z z.stage

    own-given : Step t x.reply v → GivenAt k o before → After (ordinary v)
    own-given (stays on over stay) w =
        subst After (sym stay)
        (beside-here (beside-none stay) t.stage
        (sees o run.has run.follows_none t x there.fit (entries.made n k o s before later e run x own)
        (entries.calm n k o s before later e run x own) on) w)
    own-given (feeds free none_own comes) w = subst After (sym comes) (fed-here (inl free) comes w)
    own-given (refuses errno on was may comes) w =
        subst After (sym comes) (fed-here (inr (errno, (was, may))) comes w)
    own-given (passes free reads own_fault comes) w =
        let none = reads-none t.stage reads in
        subst After (sym comes)
        (step-else (Fronts k o before) (Else k o before) (Starts k o before) (Fronts k o behind) (Else k o behind)
        (Starts k o behind) u (reply.Bytes [])
        (else-more k o before e (else-of (Fronts k o before) (Else k o before) (Starts k o before) u t.stage none w))
        t.stage (fed u (reply.Bytes [])) none (fed-step u (reply.Bytes [])))

  -- an entry that is no call of it
  silent-given : exchange_of k e ≡ None → (stage : Stage)
      → AtGiven (Fronts k o before) (Else k o before) (Starts k o before) u stage
      → AtGiven (Fronts k o behind) (Else k o behind) (Starts k o behind) u stage
  silent-given none (Spawning program) w =
      let first : Starts k o before program = w.1 in (
        w.0,
        record {
          none =
              exchanges-push k before e ∙ ap (λ y. exchanges k before ++ cons_option y []) none
              ∙ append-nil (exchanges k before) ∙ first.none;
          named_so = first.named_so;
          each = each-push k o (λ pid. ⊥) before e first.each (λ pid done. silent pid none done);
        },
      )
  silent-given none (OpeningControl pid) w = fronts-more k o before e _ (λ q done. silent q none done) w
  silent-given none (Opening place now) w = fronts-more k o before e _ (λ q done. silent q none done) w
  silent-given none (Closing place OpenNext) w = fronts-more k o before e _ (λ q done. silent q none done) w
  silent-given none (Closing place GoOn) w = else-more k o before e w
  silent-given none (Closing place (RunParent parent)) w = else-more k o before e w
  silent-given none _ w = else-more k o before e w

  entry-given : GivenAt k o before → GivenAt k o behind
  entry-given w = by (exchange_of k e) refl
    where
      by : (x : Option Exchange) → exchange_of k e ≡ x → GivenAt k o behind
      by None own =
          subst
          (λ (z : TrussState). AtGiven (Fronts k o behind) (Else k o behind) (Starts k o behind) (ordinary z) z.stage)
          (sym (entries.unmoved n k o s before later e run own)) (silent-given own t.stage w)
      by (Some x) own =
          let row = row-here x own in
          subst
          (λ (z : TrussState). AtGiven (Fronts k o behind) (Else k o behind) (Starts k o behind) (ordinary z) z.stage)
          (sym (pushed x own)) (own-given x own row.step w)

  -- ---- where it has done with a process that was the next one

  abbrev Next : ℕ → Type 0
  Next pid = (ahead : List ℕ) × Fronts k o before (pid ∷ ahead)

  next-refused : (r : Reply) (pid : ℕ) (errno : Errno) (stage : Stage) → IsRefusing u r pid errno stage
      → AtGiven (Fronts k o before) (Else k o before) (Starts k o before) u stage → Next pid
  next-refused r pid errno stage (at_control was) w = (not_begun u, w)
  next-refused r pid errno stage (at_opening of was) w =
      (not_begun u, subst (λ p. Fronts k o before (p ∷ not_begun u)) of w)

  next-here : (pid : ℕ) → GivenAt k o before → IsDoneWith k o pid before e → Next pid
  next-here pid w done = by (exchange_of k e) refl
    where
      from : (x : Exchange) (own : exchange_of k e ≡ Some x) → Stood x own pid → Next pid
      from x own (ends place at of granted) = (
        not_begun u,
        subst (λ p. Fronts k o before (p ∷ not_begun u)) of
            (subst (AtGiven (Fronts k o before) (Else k o before) (Starts k o before) u) at w),
      )
      from x own (refusing errno q) = next-refused x.reply pid errno t.stage q w

      by : (x : Option Exchange) → exchange_of k e ≡ x → Next pid
      by None none = absurd (silent pid none done)
      by (Some x) own = from x own (stood x own pid done)

-- ---- along a history

module _ (k : ℕ) (o : Options) where
  first-given : AtGiven (Fronts k o []) (Else k o []) (Starts k o []) (ordinary (first_truss o)) (first_truss o).stage
  unfolding first_truss
  first-given = by o.program refl
    where
      pids : o.program ≡ None → (p : Option ℕ) → slice_get o.pids 0 ≡ p
          → AtGiven (Fronts k o []) (Else k o []) (Starts k o []) (ordinary (opening_or (idle o) (idle o) p))
          (opening_or (idle o) (idle o) p).stage
      pids none None is =
          all_done o.pids (named none refl)
          (subst (λ ps. AreDoneWith k o ps [] []) (sym (drop-none o.pids 0 is)) tt)
      pids none (Some pid) is = record {
        given = o.pids;
        are = named none refl;
        front = [];
        is = drop-at o.pids 0 pid is;
        done = tt;
        each = λ first rest f q parts past. absurd (nowhere first rest f parts);
      }

      by : (p : Option (List ℕ)) → o.program ≡ p
          → AtGiven (Fronts k o []) (Else k o []) (Starts k o []) (ordinary (first_of_program o p))
          (first_of_program o p).stage
      by None none = pids none (slice_get o.pids 0) refl
      by (Some program) some = (
        refl,
        record {
          none = no-exchanges k;
          named_so = some;
          each = λ first rest f q parts past. nowhere first rest f parts;
        },
      )

module _ (n k : ℕ) (o : Options) (s : TracedState) where
  given-at : (h : List Entry) → IsFunctionRun n k o s h → GivenAt k o h
  given-at h run =
      along (GivenAt k o)
      (subst
      (λ xs. AtGiven (Fronts k o []) (Else k o []) (Starts k o [])
      (ordinary (functions_after (first_truss o) xs)) (functions_after (first_truss o) xs).stage)
      (sym (no-exchanges k)) (first-given k o))
      h (λ before later e is w. entry-given n k o s before later e (subst (IsFunctionRun n k o s) is run) w)

  module _ (h : List Entry) (run : IsFunctionRun n k o s h) where
    next-at : (before later : List Entry) (e : Entry) (pid : ℕ) → h ≡ before ++ e ∷ later
        → IsDoneWith k o pid before e → (ahead : List ℕ) × Fronts k o before (pid ∷ ahead)
    next-at before later e pid is done =
        let all : IsFunctionRun n k o s (before ++ e ∷ later) = subst (IsFunctionRun n k o s) is run in
        next-here n k o s before later e all pid
        (given-at before (front-run n k o s before (e ∷ later) all)) done

    given-in-order : (before later : List Entry) (e : Entry) (pid : ℕ) → h ≡ before ++ e ∷ later
        → IsDoneWith k o pid before e → IsNextGiven k o pid before
    given-in-order before later e pid is done =
        let w = next-at before later e pid is done in
        let f : Fronts k o before (pid ∷ w.0) = w.1 in
        record { given = f.given; are = f.are; earlier = f.front; later = w.0; is = f.is; done = f.done }

    given-once : (before between later : List Entry) (e f : Entry) (pid : ℕ) (given : List ℕ)
        → h ≡ before ++ e ∷ (between ++ f ∷ later) → AreGiven o (exchanges k h) given → IsDoneWith k o pid before e
        → IsDoneWith k o pid (before ++ e ∷ between) f → StandsTwice pid given
    given-once before between later e f pid given is are one two =
        let parts : h ≡ (before ++ e ∷ between) ++ f ∷ later =
        is ∙ sym (append_assoc before (e ∷ between) (f ∷ later)) in
        let w = next-at (before ++ e ∷ between) later f pid parts two in
        let q : Fronts k o (before ++ e ∷ between) (pid ∷ w.0) = w.1 in
        let a : IsAmong pid q.front = q.each before between e pid refl one in
        let same : given ≡ q.given =
        given-same o (exchanges k h) given q.given are
        (subst (λ xs. AreGiven o xs q.given)
        (sym (ap (exchanges k) parts ∙ exchanges-both k (before ++ e ∷ between) (f ∷ later)))
        (given-more o (exchanges k (before ++ e ∷ between)) (exchanges k (f ∷ later)) q.given q.are)) in
        record {
          first = a.before;
          between = a.after;
          last = w.0;
          is =
              same ∙ q.is ∙ ap (λ ps. ps ++ pid ∷ w.0) a.is ∙ append_assoc a.before (pid ∷ a.after) (pid ∷ w.0);
        }

    given-reasons : (before later : List Entry) (e : Entry) (x : Exchange) (pid : ℕ) → h ≡ before ++ e ∷ later
        → exchange_of k e ≡ Some x → (w : SaysCannotTrace k o pid before e)
        → (x.reply ≡ reply.Fail w.errno) × (w.errno ≢ Intr)
    given-reasons before later e x pid is own w =
        let all : IsFunctionRun n k o s (before ++ e ∷ later) = subst (IsFunctionRun n k o s) is run in
        let was : Refuses x.reply w.errno =
        refuses-so n k o s before later e all x own pid w.errno (functions_at k o before).stage
        (says-at n k o s before later e all x own pid w) in
        (was.is, was.not_interrupted)

    -- ---- once it has polled, or has finished

    module _ (before later : List Entry) (is : h ≡ before ++ later) where
      abbrev t_then : TrussState
      t_then = functions_at k o before

      front : IsFunctionRun n k o s before
      front = front-run n k o s before later (subst (IsFunctionRun n k o s) is run)

      going-then : Going (exchanges k before) t_then.stage
      going-then =
          after-going o run.has run.follows_none (exchanges k before) front.makes
          (calm-exchanges before n k s front.legal)

      given-goes : (stage : Stage) → is_given stage ≡ true → Going (exchanges k before) stage
          → All IsGoingOn (exchanges k before)
      given-goes (Spawning program) on w = w
      given-goes (OpeningControl pid) on w = w
      given-goes (Opening place now) on w = w
      given-goes (Closing place OpenNext) on w = w
      given-goes (Closing place GoOn) on w = absurd (false≢true on)
      given-goes (Closing place (RunParent parent)) on w = absurd (false≢true on)
      given-goes _ on w = absurd (false≢true on)

      not-polled : All IsGoingOn (exchanges k before) → HasPolled (exchanges k before) → ⊥
      not-polled all p =
          let poll : Exchange = record { call = call.Poll p.handles; reply = p.reply } in
          let w : IsGoingOn poll =
          All-head IsGoingOn poll p.after
          (all-rest IsGoingOn p.before (poll ∷ p.after) (subst (All IsGoingOn) p.is all)) in
          let none = w.no_poll in none.other p.handles refl

      given-calls : (stage : Stage) → is_given stage ≡ true → call_of (ordinary t_then) stage ≡ None → ⊥
      unfolding call_of
      given-calls (Spawning program) on none = none-some _ (sym none)
      given-calls (OpeningControl pid) on none = none-some _ (sym none)
      given-calls (Opening place now) on none = none-some _ (sym none)
      given-calls (Closing place OpenNext) on none = none-some _ (sym none)
      given-calls (Closing place GoOn) on none = false≢true on
      given-calls (Closing place (RunParent parent)) on none = false≢true on
      given-calls _ on none = false≢true on

      past-given : HasPolled (exchanges k before) ⊎ (next_function_call_of t_then ≡ None)
          → is_given t_then.stage ≡ true → ⊥
      unfolding next_call_of
      past-given (inl polled) on = not-polled (given-goes t_then.stage on going-then) polled
      past-given (inr none) on =
          given-calls t_then.stage on
          (function-ends t_then (ap has_functions (options-at o (exchanges k before)) ∙ run.has) none)

      else-done : (given : List ℕ) → AreGiven o (exchanges k before) given
          → All WasNotInterrupted (exchanges k before) → Else k o before → AreDoneWith k o given [] before
      else-done given are calm (broken some) = absurd (some calm)
      else-done given are calm (unmade w) = unmade-none o (exchanges k before) given w are
      else-done given are calm (all_done all its done) =
          subst (λ ps. AreDoneWith k o ps [] before) (given-same o (exchanges k before) all given its are) done

      given-all : (given : List ℕ) → AreGiven o (exchanges k before) given
          → All WasNotInterrupted (exchanges k before)
          → HasPolled (exchanges k before) ⊎ (next_function_call_of (functions_at k o before) ≡ None)
          → AreDoneWith k o given [] before
      given-all given are calm past = elim (cases_Bool (is_given t_then.stage)) [
        | inl on ↦ absurd (past-given past on)
        | inr off ↦
            else-done given are calm
            (else-of (Fronts k o before) (Else k o before) (Starts k o before) (ordinary t_then) t_then.stage off
            (given-at before front))
      ]

pub holds-or-refuses : (n k : ℕ) (o : Options) (s : TracedState) (h : List Entry) → IsFunctionRun n k o s h
    → HoldsOrRefusesItsGiven k o h
holds-or-refuses n k o s h run = record {
  in_order = λ before later e pid is done. given-in-order n k o s h run before later e pid is done;
  all = λ before later given is are calm past. given-all n k o s h run before later is given are calm past;
  once = λ before between later e f pid given is are one two.
      given-once n k o s h run before between later e f pid given is are one two;
  reasons = λ before later e x pid is own w. given-reasons n k o s h run before later e x pid is own w;
}

pub ruleset given_holds = (holds-or-refuses)
