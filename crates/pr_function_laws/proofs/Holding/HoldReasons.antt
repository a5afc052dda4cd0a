use Rattle.std.proofs.Common.{◌≡◌, ◌++◌, ℕ, true, None, Some, List, ◌∷◌, refl, sym, subst, ap, ◌∙◌, inl, inr}
use Rattle.std.proofs.lemmas.Option.{none-some, same_Some}
use Rattle.pr_line.specs.declared.options.Options.{Options}
use Rattle.pr_model.specs.Calls.{Answer, answer_to}
use Rattle.pr_model.specs.Handles.{handle_of}
use Rattle.pr_model.specs.Legal.{state_after}
use Rattle.pr_model.specs.State.{TracedState, live_process}
use Rattle.pr_model.specs.declared.calls.Call.{Call}
use Rattle.pr_model.specs.declared.calls.Call.TheVariants as call
use Rattle.pr_model.specs.declared.calls.File.{File}
use Rattle.pr_model.specs.declared.calls.File.TheVariants.{Ctl, Lstatus, Mem, Status}
use Rattle.pr_model.specs.declared.calls.Reply.TheVariants as reply
use Rattle.pr_model.specs.declared.events.Entry.{Entry}
use Rattle.pr_model.specs.declared.handles.Held.{Held}
use Rattle.pr_num.specs.declared.errnos.Errno.TheVariants.{Noent}
use Rattle.pr_report_laws.proofs.Files.WatchHistories.{IsAnswered, exchange-answered}
use Rattle.pr_report_laws.proofs.Machine.GoneLaws.{is_read, read-gone}
use Rattle.pr_report_laws.specs.Attachments.{HasFile, IsLetGo, ended, left}
use Rattle.pr_report_laws.specs.Holds.{IsToldOfEnd, LetsGoIn, leaves_it, told_end}
use Rattle.pr_report_laws.specs.OwnFiles.{CallsItsFiles, HasOpen, NamesItsOwn}
use Rattle.pr_truss.specs.Replies.{answer_of}
use Rattle.pr_truss.specs.Trusses.{first_truss}
use Rattle.pr_truss.specs.declared.replies.Answer.TheVariants.{Gone}
use Rattle.pr_truss_laws.specs.Business.{goes_to}
use Rattle.pr_truss_laws.specs.Exchanges.{Exchange}
use Rattle.pr_function_laws.proofs.Holding.GoneCalls.{ctl-gone, wait-gone}
use Rattle.pr_function_laws.proofs.OrdinaryTruss.OrdinaryFiles.{Halfway, run-halfway}
use Rattle.pr_function_laws.proofs.OrdinaryTruss.OrdinaryLaws.{calls-its-files}
use Rattle.pr_function_laws.specs.Opened.{IsFunctionRun}

-- Why truss with calls of functions lets a process go.

module _ (n k : ℕ) (o : Options) (s : TracedState) (h : List Entry) (run : IsFunctionRun n k o s h)
    (before later : List Entry) (e : Entry) (pid : ℕ) (is : h ≡ before ++ e ∷ later) where
  abbrev now : TracedState
  now = state_after s before

  module _ (w : IsToldOfEnd k pid now e) where
    abbrev x : Exchange
    x = record { call = w.call; reply = reply.Fail Noent }

    answered : IsAnswered k now x
    answered =
        let half : Halfway n k o (first_truss o) s before (e ∷ later) =
        run-halfway n k o s before (e ∷ later) (subst (IsFunctionRun n k o s) is run) in
        exchange-answered n k now e x half.legal.0 w.is

    told-gone : (a : Answer) → a.reply ≡ reply.Fail Noent → answer_of a.reply ≡ Gone
    unfolding answer_of
    told-gone a refused = ap answer_of refused

    -- the file to which it goes is one of the process
    its-own : (handle : ℕ) (f : File) (its : HasOpen k f now handle) → Some handle ≡ Some w.handle
        → (let has = its.has in let held : Held = has.held in held.pid) ≡ pid
    its-own handle f its goes =
        let has : HasFile k its.pid f handle now = its.has in
        ap (λ (z : Held). z.pid)
        (same_Some has.held w.held
        (sym has.there ∙ ap (λ m. handle_of now.opens k m) (same_Some handle w.handle goes) ∙ w.there))
        ∙ w.of

    ends-by : (c : Call) (a : Answer) → NamesItsOwn k now c → goes_to c ≡ Some w.handle → answer_to now k c ≡ Some a
        → answer_of a.reply ≡ Gone → live_process now.system pid ≡ None
    ends-by (call.Ctl handle bytes) a its goes called gone =
        let has : HasFile k its.pid Ctl handle now = its.has in
        subst (λ p. live_process now.system p ≡ None) (its-own handle Ctl its goes)
        (ctl-gone now k handle has.held has.there has.file a bytes called gone)
    ends-by (call.CtlWait handle until bytes) a its goes called gone =
        let has : HasFile k its.pid Ctl handle now = its.has in
        subst (λ p. live_process now.system p ≡ None) (its-own handle Ctl its goes)
        (wait-gone now k handle has.held has.there has.file a until bytes called gone)
    ends-by (call.Read handle from len) a its goes called gone = elim its [
      | inl status ↦ reads Status status refl
      | inr others ↦ elim others [ inl lstatus ↦ reads Lstatus lstatus refl | inr memory ↦ reads Mem memory refl ]
    ]
      where
        reads : (f : File) → HasOpen k f now handle → is_read f ≡ true → live_process now.system pid ≡ None
        reads f own read =
            let has : HasFile k own.pid f handle now = own.has in
            subst (λ p. live_process now.system p ≡ None) (its-own handle f own goes)
            (read-gone now k handle has.held has.there a from len f has.file read called gone)
    ends-by _ a its goes called gone = absurd (none-some w.handle goes)

    told-ends : live_process now.system pid ≡ None
    told-ends =
        let y : IsAnswered k now x = answered in
        let files : CallsItsFiles k s h = calls-its-files n k o s h run in
        ends-by w.call y.answer (files.each before later e x is w.is) w.goes y.is
        (told-gone y.answer y.reply)

  pub goes-for-reason : LetsGoIn k pid s before e → IsLetGo k pid s before e
  goes-for-reason (told_end w) = ended (told-ends w)
  goes-for-reason (leaves_it w) = left w.interrupted w.reads
