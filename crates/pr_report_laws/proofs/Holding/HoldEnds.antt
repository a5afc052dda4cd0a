use Rattle.std.proofs.Common.{◌≡◌, ◌++◌, ◌<◌, ℕ, true, false, Option, Some, None, List, [], ◌∷◌, length, refl, sym, subst, ap, ◌∙◌, arith, inl, inr}
use Rattle.std.proofs.lemmas.Bool.{false≢true}
use Rattle.pr_line.specs.declared.options.Options.{Options}
use Rattle.pr_model.specs.Calls.{answer_to}
use Rattle.pr_model.specs.Legal.{state_after}
use Rattle.pr_model.specs.Replies.{number_of}
use Rattle.pr_model.specs.State.{TracedState}
use Rattle.pr_model.specs.declared.calls.Call.{Call}
use Rattle.pr_model.specs.declared.calls.Call.TheVariants as call
use Rattle.pr_model.specs.declared.calls.File.{File}
use Rattle.pr_model.specs.declared.calls.File.TheVariants as file
use Rattle.pr_model.specs.declared.calls.Mode.{Mode}
use Rattle.pr_model.specs.declared.calls.Mode.TheVariants.{Read, WriteExcl}
use Rattle.pr_model.specs.declared.calls.Reply.{Reply}
use Rattle.pr_model.specs.declared.calls.Reply.TheVariants as reply
use Rattle.pr_model.specs.declared.events.Entry.{Entry}
use Rattle.pr_num.specs.Control.{fork_mode}
use Rattle.pr_num.specs.Limits.{read_limit}
use Rattle.pr_num.specs.declared.errnos.Errno.TheVariants.{Noent}
use Rattle.pr_num.specs.declared.messages.Message.TheVariants as message
use Rattle.pr_truss.specs.Feeding.{fed}
use Rattle.pr_truss.specs.Messages.{message_call}
use Rattle.pr_truss.specs.NextCalls.{call_of, next_call_of, read_record, run_call}
use Rattle.pr_truss.specs.Replies.{answer_of}
use Rattle.pr_truss.specs.Trusses.{TrussState, traced_at}
use Rattle.pr_truss.specs.declared.replies.Answer.TheVariants.{Gone}
use Rattle.pr_truss.specs.declared.stages.Stage.TheVariants.{ReadingStatus, ReadingText, Running, Unfollowing, ReadingLwps}
use Rattle.pr_truss_laws.proofs.Files.HeldLemmas.{Fits}
use Rattle.pr_truss_laws.proofs.Files.OpensLemmas.{held_by}
use Rattle.pr_truss_laws.proofs.Files.OwnLemmas.{Owns}
use Rattle.pr_truss_laws.specs.Business.{goes_to}
use Rattle.pr_truss_laws.specs.Exchanges.{Exchange, exchange_of, exchanges, truss_at}
use Rattle.pr_truss_laws.specs.Runs.{IsTrussRun}
use Rattle.pr_report_laws.proofs.Files.FileLaws.{HasFiles, IsFileOf}
use Rattle.pr_report_laws.proofs.Files.FileSteps.{MakesNext}
use Rattle.pr_report_laws.proofs.Files.FileUses.{lwps-read, memory-read, stage-control, stage_place, standing, status-read}
use Rattle.pr_report_laws.proofs.Files.WatchHistories.{IsAnswered, Reaches, exchange-answered, run-front, run-last, run-next, run-reaches, truss_at-push}
use Rattle.pr_report_laws.proofs.Holding.EndReplies.{lwps-told, reply-gone}
use Rattle.pr_report_laws.proofs.Invariant.StandLemmas.{Stands}
use Rattle.pr_report_laws.proofs.Memory.WatchMemory.{HasInterrupt, reached-comes, run-recalls}
use Rattle.pr_report_laws.proofs.Replies.StageChanges.{Asks, Ends, away_before, gone, is_new, looked, runs, status, text, unfollows}
use Rattle.pr_report_laws.proofs.Replies.WatchedPlaces.{IsWatched, place-watched, watched-place}
use Rattle.pr_report_laws.proofs.Watching.EndLaws.{stage-called, watched-after}
use Rattle.pr_report_laws.specs.Holds.{LetsGoIn, leaves_it, told_end}
use Rattle.pr_report_laws.specs.Watching.{watches, with_exchange}

-- Where truss comes to watch a process no more, the entry tells it: a call to a handle of the process was refused with
-- ENOENT, or truss, which was interrupted, has read the statuses of its lwps.

pub same-exchange : (x : Exchange) (c : Call) (r : Reply) → x.call ≡ c → x.reply ≡ r
    → x ≡ record { call = c; reply = r }
same-exchange x c r one two =
    ap (λ (d : Call). let z : Exchange = record { call = d; reply = x.reply } in z) one
    ∙ ap (λ (q : Reply). let z : Exchange = record { call = c; reply = q } in z) two

module _ (n k : ℕ) (o : Options) (pid : ℕ) (s : TracedState) (before : List Entry) (e : Entry)
    (run : IsTrussRun n k o s (before ++ e ∷ [])) (on : watches (truss_at k o before) pid ≡ true)
    (off : watches (truss_at k o (before ++ e ∷ [])) pid ≡ false) where
  abbrev t : TrussState
  t = truss_at k o before

  abbrev now : TracedState
  now = state_after s before

  reached : Reaches k t now
  reached = run-reaches n k o s before (run-front n k o s before e run)

  later-reached : Reaches k (truss_at k o (before ++ e ∷ [])) (state_after s (before ++ e ∷ []))
  later-reached = run-reaches n k o s (before ++ e ∷ []) run

  files : HasFiles k t now
  files = let g = reached in g.files

  fits : Fits t.traced t.stage
  fits = let g = reached in let owns : Owns k t now = g.owns in owns.fits

  -- the exchange of the last entry
  module _ (x : Exchange) (its : exchange_of k e ≡ Some x) where
    next : next_call_of t ≡ Some x.call
    next = subst (MakesNext t) its (run-next n k o s before e run)

    answered : IsAnswered k now x
    answered = exchange-answered n k now e x (run-last n k o s before e run) its

    -- a call to a file of the process that is told so
    told-of : (c : Call) (number of : ℕ) (f : File) (mode : Mode) → x.call ≡ c → goes_to c ≡ Some number
        → IsFileOf k now of number f mode → of ≡ pid → x.reply ≡ reply.Fail Noent → LetsGoIn k pid s before e
    told-of c number of f mode called goes is own refused =
        told_end (record {
          call = c;
          handle = number;
          held = record { controller = k; pid = of; lwp = 0; file = f; mode = mode };
          is =
              its
              ∙ ap (λ (y : Exchange). Some y) (same-exchange x c (reply.Fail Noent) called refused);
          goes = goes;
          there = is.is;
          of = own;
        })

    asked : (place : ℕ) → (traced_at t place).pid ≡ pid → Asks t.stage place → answer_of x.reply ≡ Gone
        → LetsGoIn k pid s before e
    unfolding call_of
    asked place own (status is) told =
        told-of (read_record (traced_at t place).status) (number_of (traced_at t place).status) (traced_at t place).pid
        file.Status Read
        (stage-called t x (ReadingStatus place) (read_record (traced_at t place).status) next is refl) refl
        (status-read k t now files fits place is) own (reply-gone x.reply told)
    asked place own (text l from len is) told =
        told-of (call.Read (number_of (traced_at t place).memory) from len) (number_of (traced_at t place).memory)
        (traced_at t place).pid file.Mem Read
        (stage-called t x (ReadingText place l from len)
        (call.Read (number_of (traced_at t place).memory) from len) next is refl) refl
        (memory-read k t now files fits place l from len is) own (reply-gone x.reply told)
    asked place own (runs is) told =
        let c = stage-control k t now files fits place (ap stage_place is) in
        told-of (run_call (traced_at t place).control) (traced_at t place).control (traced_at t place).pid file.Ctl
        WriteExcl (stage-called t x (Running place) (run_call (traced_at t place).control) next is refl) refl c.1 own
        (reply-gone x.reply told)
    asked place own (unfollows is first) told =
        let c = stage-control k t now files fits 0 (ap stage_place is) in
        let unset : Call = message_call (traced_at t 0).control (message.Unset fork_mode) in
        told-of unset (traced_at t 0).control (traced_at t 0).pid file.Ctl WriteExcl
        (stage-called t x Unfollowing unset next is refl) refl c.1
        (subst (λ p. (traced_at t p).pid ≡ pid) first own) (reply-gone x.reply told)

    looked-at : t.stage ≡ ReadingLwps → (traced_at t 0).pid ≡ pid → LetsGoIn k pid s before e
    unfolding call_of
    looked-at is own =
        let number : ℕ = number_of (traced_at t 0).lstatus in
        let f = lwps-read k t now files fits is in
        let c : Call = call.Read number 0 read_limit in
        let called : x.call ≡ c = stage-called t x ReadingLwps c next is refl in
        let y : IsAnswered k now x = answered in
        elim (lwps-told now k number (held_by k (traced_at t 0).pid 0 file.Lstatus Read) f.is refl y.answer
        (subst (λ d. answer_to now k d ≡ Some y.answer) called y.is)) [
          | inl none ↦ told-of c number (traced_at t 0).pid file.Lstatus Read called refl f own (sym y.reply ∙ none)
          | inr b ↦ left-it is own called b.bytes (sym y.reply ∙ b.is)
        ]
      where
        left-it : t.stage ≡ ReadingLwps → (traced_at t 0).pid ≡ pid
            → x.call ≡ call.Read (number_of (traced_at t 0).lstatus) 0 read_limit → (bytes : List ℕ)
            → x.reply ≡ reply.Bytes bytes → LetsGoIn k pid s before e
        left-it stage mine made bytes got =
            let number : ℕ = number_of (traced_at t 0).lstatus in
            let f = lwps-read k t now files fits stage in
            let stands : Stands t.traced t.leaving ReadingLwps = standing k t now ReadingLwps files stage in
            let m = run-recalls n k o s before (run-front n k o s before e run) in
            let i : HasInterrupt (exchanges k before) = m.leaving stands.leaves in
            leaves_it (record {
              interrupted = record { before = i.before; call = i.call; later = i.later; is = i.is };
              reads = record {
                handle = number;
                from = 0;
                len = read_limit;
                bytes = bytes;
                held = held_by k (traced_at t 0).pid 0 file.Lstatus Read;
                is =
                    its
                    ∙ ap (λ (y : Exchange). Some y)
                    (same-exchange x (call.Read number 0 read_limit) (reply.Bytes bytes) made got);
                there = f.is;
                of = mine;
                file = refl;
              };
            })

    ends-so : (place : ℕ) → IsWatched t pid place → Ends t x.reply place → LetsGoIn k pid s before e
    ends-so place w (away_before away) = absurd (false≢true (sym w.here ∙ away))
    ends-so place w (is_new last) = absurd (nowhere w.within last)
      where
        nowhere : place < length t.traced → place ≡ length t.traced → ⊥
        nowhere within same = omega arith
    ends-so place w (gone told asks) = asked place w.of asks told
    ends-so place w (looked is first) = looked-at is (subst (λ p. (traced_at t p).pid ≡ pid) first w.of)

    later-is : truss_at k o (before ++ e ∷ []) ≡ fed t x.reply
    later-is = truss_at-push k o before e ∙ ap (with_exchange t) its

    lets-go : LetsGoIn k pid s before e
    lets-go =
        let g = reached in
        let after = later-reached in
        let after_files : HasFiles k (truss_at k o (before ++ e ∷ [])) _ = after.files in
        let w = watched-place t pid on in
        let c = reached-comes k t now x.reply g in
        elim (watched-after t x.reply (fed t x.reply) pid w.0 w.1 fits c.how) [
          | inl v ↦ absurd (false≢true (sym off
              ∙ place-watched (truss_at k o (before ++ e ∷ [])) pid v.0 after_files.one
              (subst (λ (u : TrussState). IsWatched u pid v.0) (sym later-is) v.1)))
          | inr ends ↦ ends-so w.0 w.1 ends
        ]

  stays-on : exchange_of k e ≡ None → ⊥
  stays-on none =
      false≢true (sym off
      ∙ subst (λ (u : TrussState). watches u pid ≡ true)
      (sym (truss_at-push k o before e ∙ ap (with_exchange t) none)) on)

  -- Where truss watches a process no more, it lets it go in that entry.
  pub watched-goes : LetsGoIn k pid s before e
  watched-goes = by (exchange_of k e) refl
    where
      by : (x : Option Exchange) → exchange_of k e ≡ x → LetsGoIn k pid s before e
      by None none = absurd (stays-on none)
      by (Some x) its = lets-go x its
