use Rattle.std.proofs.Common.{◌≡◌, ◌<◌, ◌++◌, ℕ, false, true, Some, List, ◌∷◌, Option, None, length, refl, sym, subst, ap, ◌∙◌}
use Rattle.std.proofs.lemmas.Bool.{eq-eqb, false≢true}
use Rattle.std.proofs.lemmas.Option.{same_Some}
use Rattle.pr_line.specs.declared.options.Options.{Options}
use Rattle.pr_model.specs.Handles.{handle_of}
use Rattle.pr_model.specs.Legal.{state_after}
use Rattle.pr_model.specs.State.{TracedState}
use Rattle.pr_model.specs.declared.calls.Call.TheVariants as call
use Rattle.pr_model.specs.declared.calls.File.{File}
use Rattle.pr_model.specs.declared.calls.File.TheVariants as file
use Rattle.pr_model.specs.declared.calls.Mode.{Mode}
use Rattle.pr_model.specs.declared.calls.Mode.TheVariants.{WriteExcl}
use Rattle.pr_model.specs.declared.calls.Reply.{Reply}
use Rattle.pr_model.specs.declared.events.Entry.{Entry}
use Rattle.pr_model.specs.declared.handles.Held.{Held}
use Rattle.pr_num.specs.Limits.{read_limit}
use Rattle.pr_truss.specs.FunctionCalls.{call_beside, patch_call}
use Rattle.pr_truss.specs.Marks.{first_function}
use Rattle.pr_truss.specs.NextCalls.{call_of, next_call_of, opening_call, read_record}
use Rattle.pr_truss.specs.Trusses.{TrussState, traced_at}
use Rattle.pr_truss.specs.declared.asides.Aside.{Aside}
use Rattle.pr_truss.specs.declared.asides.Aside.TheVariants.{Nothing, Reading, Planting, Patching, AwaitingStop, Asking, AwaitingAgain}
use Rattle.pr_truss.specs.declared.stages.OpeningStep.TheVariants as opening
use Rattle.pr_truss.specs.declared.stages.Stage.{Stage}
use Rattle.pr_truss.specs.declared.stages.Stage.TheVariants.{Opening, ReadingStatus, ReadingLwps}
use Rattle.pr_truss_laws.proofs.Files.HeldLemmas.{Fits}
use Rattle.pr_truss_laws.proofs.Files.OwnLemmas.{Owns}
use Rattle.pr_truss_laws.specs.Exchanges.{Exchange, exchange_of, exchanges}
use Rattle.pr_truss_laws.specs.Sent.{sends}
use Rattle.pr_report_laws.proofs.Asking.LookStages.{WasWaitedFor}
use Rattle.pr_report_laws.proofs.Asking.OnceShown.{lwps-watched, status-watched}
use Rattle.pr_report_laws.proofs.Files.FileLaws.{HasFiles, IsFileOf}
use Rattle.pr_report_laws.proofs.Files.FileUses as uses
use Rattle.pr_report_laws.proofs.Files.WatchHistories.{Reaches}
use Rattle.pr_report_laws.proofs.Invariant.StandLemmas.{Leaves, Stands}
use Rattle.pr_report_laws.proofs.Replies.Places.{unwatched-away}
use Rattle.pr_report_laws.proofs.ToldForks.OldHolds.{ReadsBy, look, lwps, next-reads, status, text}
use Rattle.pr_report_laws.proofs.ToldForks.ToldReads.{file-has}
use Rattle.pr_report_laws.proofs.Watching.EndLaws.{stage-called}
use Rattle.pr_report_laws.specs.Attachments.{HasFile}
use Rattle.pr_report_laws.specs.Looks.{IsWhole}
use Rattle.pr_report_laws.specs.Watching.{is_away, place_of, watches}
use Rattle.pr_function_laws.proofs.Holding.HoldEnds.{leaves-interrupted}
use Rattle.pr_function_laws.proofs.Holding.HoldLaws.{hold-watched, watched-hold}
use Rattle.pr_function_laws.proofs.Looking.LastCalls.{Recalls, recalls}
use Rattle.pr_function_laws.proofs.NextCalls.PatchCalls.{next-beside}
use Rattle.pr_function_laws.proofs.OrdinaryTruss.OrdinaryCalls.{sees-sends, stands-sends}
use Rattle.pr_function_laws.proofs.OrdinaryTruss.OrdinaryEntries as entries
use Rattle.pr_function_laws.proofs.OrdinaryTruss.OrdinaryEntries.{front-run, watches-ordinary}
use Rattle.pr_function_laws.proofs.OrdinaryTruss.OrdinaryExchanges.{IsFit, Turn, goes_on, goes_out}
use Rattle.pr_function_laws.proofs.OrdinaryTruss.OrdinaryFiles.{Follows}
use Rattle.pr_function_laws.specs.Holds.{HasHoldWithFunctions}
use Rattle.pr_function_laws.specs.Looks.{IsNamedNowOf, LooksInPlaceOf, MayLookAtLwpsOf, in_opening, leaving}
use Rattle.pr_function_laws.specs.Opened.{IsFunctionRun, functions_at}
use Rattle.pr_function_laws.specs.Ordinary.{IsLike, in_place, ordinary, own_fault, refused, same}

-- Each look of truss with calls of functions at a process has its place.

module _ (n k : ℕ) (o : Options) (s : TracedState) (before later : List Entry) (e : Entry)
    (run : IsFunctionRun n k o s (before ++ e ∷ later)) (pid handle from len : ℕ) (r : Reply)
    (own : exchange_of k e ≡ Some (record { call = call.Read handle from len; reply = r })) where
  abbrev t : TrussState
  t = functions_at k o before

  abbrev u : TrussState
  u = ordinary t

  abbrev now : TracedState
  now = state_after s before

  abbrev x : Exchange
  x = record { call = call.Read handle from len; reply = r }

  front : IsFunctionRun n k o s before
  front = front-run n k o s before (e ∷ later) run

  reached : Reaches k u now
  reached = let f : Follows k o t now = entries.follows n k o s before later e run in f.reaches

  files : HasFiles k u now
  files = let g = reached in g.files

  fitting : Fits u.traced u.stage
  fitting = let g = reached in let owns : Owns k u now = g.owns in owns.fits

  -- a truss without calls of functions reads there, too
  like-reads : (a y : Exchange) → IsLike t a y → a.call ≡ call.Read handle from len
      → y.call ≡ call.Read handle from len
  like-reads a y (same unsent none_own) reads = reads
  like-reads a y (in_place stands) reads = absurd (false≢true (ap sends (sym reads) ∙ (stands-sends stands).0))
  like-reads a y (refused {c = c} sees may is) reads =
      absurd (false≢true (ap sends (sym reads) ∙ sees-sends t t.stage c sees))
  like-reads a y (own_fault tells) reads = reads

  next : next_call_of u ≡ Some (call.Read handle from len)
  next = by (entries.turned n k o s before later e run x own)
    where
      by : Turn t x → next_call_of u ≡ Some (call.Read handle from len)
      by (goes_out sees passes stay) = absurd (false≢true (sees-sends t t.stage x.call sees))
      by (goes_on y like called comes) = called ∙ ap (λ c. Some c) (like-reads x y like refl)

  knows : Recalls (exchanges k before) t.aside u.traced t.stage
  knows = recalls n k o s before front

  -- what comes before the call of a stage is no read
  patch-sends : (control : ℕ) (plant lift : Option ℕ) → sends (patch_call t.options control plant lift) ≡ true
  patch-sends control (Some function) lift = refl
  patch-sends control None (Some function) = refl
  patch-sends control None None = refl

  aside-reads : (aside : Aside) → call_beside t t.stage aside ≡ Some (call.Read handle from len) → aside ≡ Nothing
  unfolding call_beside
  aside-reads Nothing is = refl
  aside-reads (Patching place plants lifts clear) is =
      absurd (false≢true
      (sym (ap sends (same_Some _ _ is))
      ∙ patch-sends (traced_at t place).control (first_function plants) (first_function lifts)))
  aside-reads (Reading place function) is = cc
  aside-reads (Planting place function) is = cc
  aside-reads (AwaitingStop until) is = cc
  aside-reads Asking is = cc
  aside-reads (AwaitingAgain until) is = cc

  idle-now : t.aside ≡ Nothing
  idle-now =
      let f : Follows k o t now = entries.follows n k o s before later e run in
      let fit : IsFit o t = f.fit in
      aside-reads t.aside
      (sym (next-beside o run.has t fit.options) ∙ entries.made n k o s before later e run x own)

  -- the file of the handle
  module _ (f : File) (mine : HasFile k pid f handle now) where
    same-file : (of number : ℕ) (other : File) (mode : Mode) → IsFileOf k now of number other mode → number ≡ handle
        → (other ≡ f) × (of ≡ pid)
    same-file of number other mode its alike =
        let held : Held = record { controller = k; pid = of; lwp = 0; file = other; mode = mode } in
        let is : held ≡ mine.held =
        same_Some held mine.held (sym its.is ∙ ap (λ m. handle_of now.opens k m) alike ∙ mine.there) in
        (ap (λ (h : Held). h.file) is ∙ mine.file, ap (λ (h : Held). h.pid) is ∙ mine.of)

  has-control : (place : ℕ) → place < length u.traced → (traced_at u place).pid ≡ pid
      → HasFile k pid file.Ctl (traced_at u place).control now
  has-control place within of =
      file-has k pid file.Ctl WriteExcl (traced_at u place).control now
      (subst (λ p. IsFileOf k now p (traced_at u place).control file.Ctl WriteExcl) of (files.control place within))

  whole : (number : ℕ) → call.Read number 0 read_limit ≡ call.Read handle from len → IsWhole from len
  whole number is = (cc, cc)

  held-now : watches u pid ≡ true → HasHoldWithFunctions k o pid s before
  held-now on = watched-hold n k o pid s before front (sym (watches-ordinary t pid) ∙ on)

  unheld-now : watches u pid ≡ false → HasHoldWithFunctions k o pid s before → ⊥
  unheld-now off w =
      false≢true (sym off ∙ watches-ordinary t pid ∙ hold-watched n k o pid s before front w)

  -- ---- a status

  status-look : HasFile k pid file.Status handle now → IsWhole from len × IsNamedNowOf k o pid s before
  unfolding call_of
  status-look mine = by (next-reads u handle from len next)
    where
      by : ReadsBy u handle u.stage → IsWhole from len × IsNamedNowOf k o pid s before
      by (look place is alike) =
          let w =
          same-file file.Status mine _ _ file.Lstatus _ (uses.opening-read k u now files fitting place is) alike in
          absurd (let clash : file.Lstatus ≡ file.Status = w.0 in cc)
      by (status place is alike) =
          let w =
          same-file file.Status mine _ _ file.Status _ (uses.status-read k u now files fitting place is) alike in
          let within : place < length u.traced = subst (Fits u.traced) is fitting in (
            whole _
                (sym
                (stage-called u x (ReadingStatus place) (read_record (traced_at u place).status) next
                is refl)),
            record {
              held = held-now (status-watched k pid u now reached place is w.1);
              control = (traced_at u place).control;
              has = has-control place within w.1;
              named = subst (Recalls (exchanges k before) t.aside u.traced) is knows;
            },
          )
      by (text place l at size is alike) =
          let w =
          same-file file.Status mine _ _ file.Mem _
          (uses.memory-read k u now files fitting place l at size is) alike in
          absurd (let clash : file.Mem ≡ file.Status = w.0 in cc)
      by (lwps is alike) =
          let w = same-file file.Status mine _ _ file.Lstatus _ (uses.lwps-read k u now files fitting is) alike in
          absurd (let clash : file.Lstatus ≡ file.Status = w.0 in cc)

  -- ---- the lwps

  lwps-look : HasFile k pid file.Lstatus handle now → IsWhole from len × MayLookAtLwpsOf k o pid s before
  unfolding call_of opening_call
  lwps-look mine = by (next-reads u handle from len next)
    where
      by : ReadsBy u handle u.stage → IsWhole from len × MayLookAtLwpsOf k o pid s before
      by (look place is alike) =
          let w =
          same-file file.Lstatus mine _ _ file.Lstatus _
          (uses.opening-read k u now files fitting place is) alike in
          let f : Fits u.traced (Opening place opening.ReadLwps) = subst (Fits u.traced) is fitting in
          let off : watches u pid ≡ false =
          unwatched-away u pid place (subst (λ p. place_of u p ≡ Some place) w.1 (files.one place f.0))
          (ap (λ (x : Stage). is_away u.leaving x place) is ∙ eq-eqb place place refl) in
          let waited : WasWaitedFor (traced_at u place).control (exchanges k before) =
          subst (Recalls (exchanges k before) t.aside u.traced) is knows in (
            whole _
                (sym
                (stage-called u x (Opening place opening.ReadLwps) (read_record (traced_at u place).lstatus) next
                is refl)),
            in_opening (traced_at u place).control waited.until (has-control place f.0 w.1) (unheld-now off)
                waited.waited,
          )
      by (status place is alike) =
          let w =
          same-file file.Lstatus mine _ _ file.Status _ (uses.status-read k u now files fitting place is) alike in
          absurd (let clash : file.Status ≡ file.Lstatus = w.0 in cc)
      by (text place l at size is alike) =
          let w =
          same-file file.Lstatus mine _ _ file.Mem _
          (uses.memory-read k u now files fitting place l at size is) alike in
          absurd (let clash : file.Mem ≡ file.Lstatus = w.0 in cc)
      by (lwps is alike) =
          let w = same-file file.Lstatus mine _ _ file.Lstatus _ (uses.lwps-read k u now files fitting is) alike in
          let within : 0 < length u.traced = subst (Fits u.traced) is fitting in
          let stands : Stands u.traced u.leaving u.stage = (let f : HasFiles k u now = files in f.stands) in
          let on : u.leaving ≡ true = subst (Leaves u.leaving) is stands.leaves in (
            whole _ (sym (stage-called u x ReadingLwps (read_record (traced_at u 0).lstatus) next is refl)),
            leaving (traced_at u 0).control (has-control 0 within w.1)
                (held-now (lwps-watched k pid u now reached is w.1))
                (leaves-interrupted n k o pid s before later e run on)
                (subst (λ aside. Recalls (exchanges k before) aside u.traced ReadingLwps) idle-now
                (subst (Recalls (exchanges k before) t.aside u.traced) is knows)),
          )

pub looks-in-place : (n k : ℕ) (o : Options) (s : TracedState) (h : List Entry) → IsFunctionRun n k o s h
    → LooksInPlaceOf k o s h
looks-in-place n k o s h run = record {
  statuses = λ before later e pid handle from len r is own mine.
      status-look n k o s before later e (subst (IsFunctionRun n k o s) is run) pid handle from len r own mine;
  lwps = λ before later e pid handle from len r is own mine.
      lwps-look n k o s before later e (subst (IsFunctionRun n k o s) is run) pid handle from len r own mine;
}

pub ruleset look_places = (looks-in-place)
