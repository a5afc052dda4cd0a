use Rattle.std.proofs.Common.{◌≡◌, ◌<◌, ◌≤◌, ◌+◌, ℕ, Bool, true, false, Option, Some, None, List, [], ◌∷◌, ◌++◌, length, nat_lt, is_some, refl, sym, subst, ap, ◌∙◌, arith, inl, inr, append_assoc}
use Rattle.std.proofs.lemmas.Bool.{cases_Bool, ltb-true, ltb-false}
use Rattle.std.proofs.lemmas.List.{length-append}
use Rattle.std.proofs.lemmas.Option.{same_Some}
use Rattle.std.specs.List.{slice_get}
use Rattle.pr_line.specs.declared.options.Options.{Options}
use Rattle.pr_model.specs.declared.calls.Call.{Call}
use Rattle.pr_model.specs.declared.calls.File.TheVariants.{Lstatus}
use Rattle.pr_model.specs.declared.calls.Reply.{Reply}
use Rattle.pr_model.specs.declared.calls.Reply.TheVariants as reply
use Rattle.pr_num.specs.declared.errnos.Errno.{Errno}
use Rattle.pr_truss.specs.Feeding.{fed}
use Rattle.pr_truss.specs.NextCalls.{call_of, child_call, freeing_call, next_call_of, opening_call, read_record}
use Rattle.pr_truss.specs.Trusses.{TrussState, first_of_program, first_truss, idle, opening_or, traced_at}
use Rattle.pr_truss.specs.declared.processes.Traced.{Traced}
use Rattle.pr_truss.specs.declared.reports.Report.{Report}
use Rattle.pr_truss.specs.declared.reports.Report.TheVariants.{CannotStart, CannotTrace}
use Rattle.pr_truss.specs.declared.stages.AfterClosing.{AfterClosing}
use Rattle.pr_truss.specs.declared.stages.ChildStep.{ChildStep}
use Rattle.pr_truss.specs.declared.stages.ChildStep.TheVariants as child
use Rattle.pr_truss.specs.declared.stages.FreeingStep.TheVariants as freeing
use Rattle.pr_truss.specs.declared.stages.OpeningStep.{OpeningStep}
use Rattle.pr_truss.specs.declared.stages.OpeningStep.TheVariants as opening
use Rattle.pr_truss.specs.declared.stages.Stage.{Stage}
use Rattle.pr_truss.specs.declared.stages.Stage.TheVariants.{Spawning, OpeningControl, Opening, OpeningChildControl, OpeningChild, FreeingChild}
use Rattle.pr_truss_laws.proofs.Replies.AnswerLemmas.{Refuses}
use Rattle.pr_truss_laws.proofs.Files.ClosesLemmas.{after-grown}
use Rattle.pr_truss_laws.proofs.Replies.ExchangeLemmas.{after-append, makes-front, makes-rest}
use Rattle.pr_truss_laws.proofs.Replies.FedSteps.{fed-step}
use Rattle.pr_truss_laws.proofs.Replies.FitLemmas.{last-within}
use Rattle.pr_truss_laws.proofs.Files.HeldLemmas.{Fits, Grown}
use Rattle.pr_truss_laws.proofs.OwnBusiness.KnownLemmas.{HasLstatus, Knows, KnowsProcess, KnowsStage, after-knows, at-known, first-knows}
use Rattle.pr_truss_laws.proofs.Replies.ReplySteps as step
use Rattle.pr_truss_laws.proofs.Replies.ReplySteps.{Closes, Looks, ReplyStep, Returns, Settles, on-staged, over-staged}
use Rattle.pr_truss_laws.specs.Business.{IsAnswerOf, IsCallOf, TellsItsRefusals, TellsOfCall, WasGiven, is_refusal, opens, reads, sends, waits}
use Rattle.pr_truss_laws.specs.Exchanges.{Exchange, Makes, truss_after}

-- Each report of a refusal is the answer to a refusal of its own.

-- ---- what a reply adds to the reports

module _ (s : TrussState) (r : Reply) where
  -- the report of a refusal at a stage
  pub data TellsAt : Stage → Report → Errno → Type 0 where
    of_start : {program : List ℕ} {errno : Errno} → TellsAt (Spawning program) (CannotStart program errno) errno
    of_control : {pid : ℕ} {errno : Errno} → TellsAt (OpeningControl pid) (CannotTrace pid errno) errno
    of_opening : {place : ℕ} {now : OpeningStep} {errno : Errno}
        → TellsAt (Opening place now) (CannotTrace (traced_at s place).pid errno) errno
    of_child_control : {parent pid : ℕ} {errno : Errno}
        → TellsAt (OpeningChildControl parent pid) (CannotTrace pid errno) errno
    of_child : {parent place : ℕ} {now : ChildStep} {errno : Errno}
        → TellsAt (OpeningChild parent place now) (CannotTrace (traced_at s place).pid errno) errno
    of_freeing : {pid : ℕ} {errno : Errno}
        → TellsAt (FreeingChild pid freeing.OpenControl) (CannotTrace pid errno) errno

  -- Nothing is reported, an event is, or a refusal, which the reply is.
  pub data Adds (stage : Stage) : List Report → Type 0 where
    nothing : Adds stage s.reports
    an_event : (report : Report) → is_refusal report ≡ false → Adds stage (s.reports ++ report ∷ [])
    a_refusal : (report : Report) {errno : Errno} → Refuses r errno → TellsAt stage report errno
        → Adds stage (s.reports ++ report ∷ [])

  settles-adds : (stage : Stage) (given : Bool) (u : TrussState) → Settles s r stage given u → Adds stage u.reports
  settles-adds stage given u (step.refuses_start errno refuses) = a_refusal _ refuses of_start
  settles-adds stage given u (step.refuses_control errno refuses) = a_refusal _ refuses of_control
  settles-adds stage given u (step.interrupts_text _ _) = an_event _ refl
  settles-adds stage given u _ = nothing

  looks-adds : (stage : Stage) (place : ℕ) (pid : Option ℕ) (u : TrussState) → Looks s r stage place pid u
      → Adds stage u.reports
  looks-adds stage place pid u (step.shows _ _ _ _) = an_event _ refl
  looks-adds stage place pid u step.shows_text = an_event _ refl
  looks-adds stage place pid u _ = nothing

  closes-adds : (stage : Stage) (place : ℕ) (next : AfterClosing) (u : TrussState) → Closes s r stage place next u
      → Adds stage u.reports
  closes-adds stage place next u (step.text_ended _) = an_event _ refl
  closes-adds stage place next u (step.refuses_free errno refuses) = a_refusal _ refuses of_freeing
  closes-adds stage place next u (step.refuses_opening errno refuses) = a_refusal _ refuses of_opening
  closes-adds stage place next u (step.refuses_child errno refuses) = a_refusal _ refuses of_child
  closes-adds stage place next u _ = nothing

  returns-adds : (stage : Stage) (parent : ℕ) (u : TrussState) → Returns s r stage parent u → Adds stage u.reports
  returns-adds stage parent u (step.refuses_child_control errno refuses) = a_refusal _ refuses of_child_control
  returns-adds stage parent u (step.child_runs _) = nothing
  returns-adds stage parent u (step.child_closed _) = nothing

  step-adds : (stage : Stage) (v : TrussState) → ReplyStep s r stage v → Adds stage v.reports
  step-adds stage v (step.settles w on) =
      let same = on-staged on in subst (Adds stage) (sym same.reports) (settles-adds stage _ _ w)
  step-adds stage v (step.looks w over) =
      let same = over-staged over in subst (Adds stage) (sym same.reports) (looks-adds stage _ _ _ w)
  step-adds stage v (step.closes w) = closes-adds stage _ _ _ w
  step-adds stage v (step.returns w) = returns-adds stage _ _ w
  step-adds stage v _ = nothing

  fed-adds : Adds s.stage (fed s r).reports
  fed-adds = step-adds s.stage (fed s r) (fed-step s r)

-- ---- the call that was refused

module _ (o : Options) (xs : List Exchange) (t : Traced) (k : KnowsProcess o xs t) where
  lstatus-read : (lstatus : Option ℕ) → is_some lstatus ≡ true
      → ((handle : ℕ) → lstatus ≡ Some handle → WasGiven t.pid Lstatus handle xs)
      → IsCallOf t.pid xs (read_record lstatus)
  lstatus-read (Some handle) has opened = reads (opened handle refl)
  lstatus-read None has opened = cc

  opening-calls : (now : OpeningStep) → HasLstatus t now → IsCallOf t.pid xs (opening_call o t now)
  unfolding opening_call
  opening-calls opening.OpenStatus has = opens
  opening-calls opening.OpenLstatus has = opens
  opening-calls opening.OpenMemory has = opens
  opening-calls (opening.AwaitStop until) has = waits k.control
  opening-calls opening.ReadLwps has = lstatus-read t.lstatus has k.lstatus
  opening-calls _ has = sends k.control

  child-calls : (now : ChildStep) → IsCallOf t.pid xs (child_call t now)
  unfolding child_call
  child-calls child.SetRelease = sends k.control
  child-calls child.Start = sends k.control
  child-calls _ = opens

call-tells : (o : Options) (xs : List Exchange) (s : TrussState) (r : Reply) (c : Call) (report : Report)
    (errno : Errno) (stage : Stage) → Knows o xs s → s.stage ≡ stage → call_of s stage ≡ Some c
    → TellsAt s r stage report errno → TellsOfCall report errno xs c
unfolding call_of freeing_call
call-tells o xs s r c report errno stage k at is of_start = (refl, sym (same_Some _ c is))
call-tells o xs s r c report errno stage k at is of_control =
    (refl, subst (IsCallOf _ xs) (same_Some _ c is) opens)
call-tells o xs s r c report errno stage k at is (of_opening {place = place} {now = now}) =
    let f = subst (Fits s.traced) at k.fits in
    let has = subst (KnowsStage o xs s.traced) at k.stage in
    let it = opening-calls o xs (traced_at s place) (at-known o xs s.traced place f.0 k.each) now has in
    let same : opening_call o (traced_at s place) now ≡ c =
    ap (λ p. opening_call p (traced_at s place) now) (sym k.options) ∙ same_Some _ c is in
    (refl, subst (IsCallOf (traced_at s place).pid xs) same it)
call-tells o xs s r c report errno stage k at is of_child_control =
    (refl, subst (IsCallOf _ xs) (same_Some _ c is) opens)
call-tells o xs s r c report errno stage k at is (of_child {parent = parent} {place = place} {now = now}) =
    let f = subst (Fits s.traced) at k.fits in
    let it = child-calls o xs (traced_at s place)
    (at-known o xs s.traced place (last-within s.traced parent place f.0) k.each) now in
    (refl, subst (IsCallOf (traced_at s place).pid xs) (same_Some _ c is) it)
call-tells o xs s r c report errno stage k at is of_freeing =
    (refl, subst (IsCallOf _ xs) (same_Some _ c is) opens)

next-tells : (o : Options) (xs : List Exchange) (s : TrussState) (r : Reply) (c : Call) (report : Report)
    (errno : Errno) → Knows o xs s → next_call_of s ≡ Some c → TellsAt s r s.stage report errno
    → TellsOfCall report errno xs c
unfolding next_call_of
next-tells o xs s r c report errno k is tells = call-tells o xs s r c report errno s.stage k refl is tells

-- ---- the reply at which a report came

-- it is the one of this number
pub record Comes (n : ℕ) (s : TrussState) (xs : List Exchange) : Type 0 where
  pub before : List Exchange
  pub x : Exchange
  pub after : List Exchange
  pub is : xs ≡ before ++ x ∷ after
  pub had : length (truss_after s before).reports ≤ n
  pub has : n < length (fed (truss_after s before) x.reply).reports

comes : (n : ℕ) (xs : List Exchange) (s : TrussState) → length s.reports ≤ n
    → n < length (truss_after s xs).reports → Comes n s xs
comes n [] s had has = absurd (omega arith)
comes n (x ∷ xs) s had has =
    elim (cases_Bool (nat_lt n (length (fed s x.reply).reports))) [
      | inl now ↦ record { before = []; x = x; after = xs; is = refl; had = had; has = ltb-true n _ now }
      | inr later ↦
          let c = comes n xs (fed s x.reply) (ltb-false n _ later) has in
          record {
            before = x ∷ c.before;
            x = c.x;
            after = c.after;
            is = ap (λ ys. x ∷ ys) c.is;
            had = c.had;
            has = c.has;
          }
    ]

-- two lists whose fronts have one length
same-front : (a b : List Report) (c d : Report) (cs ds : List Report) → length a ≡ length b
    → a ++ c ∷ cs ≡ b ++ d ∷ ds → (a ≡ b) × (c ≡ d)
same-front [] [] c d cs ds same is = (refl, cc)
same-front [] (y ∷ b) c d cs ds same is = absurd (omega (arith, same))
same-front (x ∷ a) [] c d cs ds same is = absurd (omega (arith, same))
same-front (x ∷ a) (y ∷ b) c d cs ds same is =
    let first : x ≡ y = cc in
    let rest : a ++ c ∷ cs ≡ b ++ d ∷ ds = cc in
    let it = same-front a b c d cs ds (omega (arith, same)) rest in
    (cc, it.1)

module _ (o : Options) (xs : List Exchange) (makes : Makes (first_truss o) xs) (earlier later : List Report)
    (report : Report) (all : (truss_after (first_truss o) xs).reports ≡ earlier ++ report ∷ later)
    (tells : is_refusal report ≡ true) (c : Comes (length earlier) (first_truss o) xs) where
  abbrev here : TrussState
  here = truss_after (first_truss o) c.before

  abbrev then : TrussState
  then = fed here c.x.reply

  grown : Grown then.reports (truss_after (first_truss o) xs).reports
  grown =
      subst (λ (u : TrussState). Grown then.reports u.reports)
      (sym (ap (truss_after (first_truss o)) c.is ∙ after-append (first_truss o) c.before (c.x ∷ c.after)))
      (after-grown c.after then)

  made : Makes here (c.x ∷ c.after)
  made = makes-rest (first_truss o) c.before (c.x ∷ c.after) (subst (Makes (first_truss o)) c.is makes)

  knows : Knows o c.before here
  knows =
      after-knows o c.before [] (first_truss o) (first-knows o)
      (makes-front (first_truss o) c.before (c.x ∷ c.after) (subst (Makes (first_truss o)) c.is makes))

  -- the report that came then is this one
  this-one : (added : Report) → then.reports ≡ here.reports ++ added ∷ []
      → (here.reports ≡ earlier) × (added ≡ report)
  this-one added is =
      let g = grown in
      let count : length then.reports ≡ length here.reports + 1 =
      ap length is ∙ length-append here.reports (added ∷ []) in
      same-front here.reports earlier added report g.more later (omega (arith, count, c.had, c.has))
      (sym (append_assoc here.reports (added ∷ []) g.more) ∙ ap (λ rs. rs ++ g.more) (sym is) ∙ sym g.is ∙ all)

  answered : (rs : List Report) → then.reports ≡ rs → Adds here c.x.reply here.stage rs
      → IsAnswerOf o earlier report xs
  answered rs is nothing = absurd (omega (arith, c.had, c.has, ap length is))
  answered rs is (an_event added none) =
      let it = this-one added is in
      absurd (no-refusal (sym none ∙ ap is_refusal it.1 ∙ tells))
    where
      no-refusal : false ≡ true → ⊥
      no-refusal e = cc
  answered rs is (a_refusal added {errno = errno} refuses at) =
      let it = this-one added is in
      let x_is : c.x ≡ record { call = c.x.call; reply = reply.Fail errno } =
      ap (λ q. record { call = c.x.call; reply = q }) refuses.is in
      record {
        before = c.before;
        call = c.x.call;
        errno = errno;
        after = c.after;
        is = c.is ∙ ap (λ y. c.before ++ y ∷ c.after) x_is;
        not_interrupted = refuses.not_interrupted;
        tells =
            subst (λ p. TellsOfCall p errno c.before c.x.call) it.1
            (next-tells o c.before here c.x.reply c.x.call added errno knows made.0 at);
        had = it.0;
        has =
            ap (λ y. (truss_after (first_truss o) (c.before ++ y ∷ [])).reports) (sym x_is)
            ∙ ap (λ (u : TrussState). u.reports) (after-append (first_truss o) c.before (c.x ∷ []))
            ∙ is ∙ ap (λ rs. rs ++ added ∷ []) it.0 ∙ ap (λ p. earlier ++ p ∷ []) it.1;
      }

  answers : IsAnswerOf o earlier report xs
  answers = answered then.reports refl (fed-adds here c.x.reply)

named-silent : (o : Options) (p : Option ℕ) → (opening_or (idle o) (idle o) p).reports ≡ []
named-silent o None = refl
named-silent o (Some pid) = refl

program-silent : (o : Options) (p : Option (List ℕ)) → (first_of_program o p).reports ≡ []
program-silent o None = named-silent o (slice_get o.pids 0)
program-silent o (Some program) = refl

first-silent : (o : Options) → length (first_truss o).reports ≡ 0
unfolding first_truss
first-silent o = ap length (program-silent o o.program)

pub tells-refusals : (o : Options) (xs : List Exchange) → Makes (first_truss o) xs → TellsItsRefusals o xs
tells-refusals o xs makes = record {
  each = λ earlier later report is tells.
      answers o xs makes earlier later report is tells
      (comes (length earlier) xs (first_truss o) (omega (arith, first-silent o))
      (omega (arith, ap length is, length-append earlier (report ∷ later))));
}
