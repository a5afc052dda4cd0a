use Rattle.std.proofs.Common.{◌≡◌, ◌++◌, ℕ, List, [], ◌∷◌, append_assoc, refl, sym, subst, ap, ◌∙◌}
use Rattle.std.proofs.lemmas.Bool.{false≢true}
use Rattle.std.proofs.lemmas.Option.{same_Some}
use Rattle.pr_line.specs.declared.options.Options.{Options}
use Rattle.pr_model.proofs.HistoryLemmas.{state_after-push}
use Rattle.pr_model.specs.Legal.{after, state_after}
use Rattle.pr_model.specs.Replies.{number_of}
use Rattle.pr_model.specs.State.{TracedState}
use Rattle.pr_model.specs.declared.calls.Call.TheVariants as call
use Rattle.pr_model.specs.declared.calls.File.TheVariants as file
use Rattle.pr_model.specs.declared.calls.Mode.TheVariants.{Read}
use Rattle.pr_model.specs.declared.calls.Reply.TheVariants as reply
use Rattle.pr_model.specs.declared.events.Entry.{Entry}
use Rattle.pr_truss.specs.Feeding.{fed}
use Rattle.pr_truss.specs.FunctionCalls.{function_call_of}
use Rattle.pr_truss.specs.NextCalls.{call_of, read_record}
use Rattle.pr_truss.specs.Trusses.{TrussState, first_truss, traced_at, with_stage}
use Rattle.pr_truss.specs.declared.asides.Aside.TheVariants.{Nothing}
use Rattle.pr_truss.specs.declared.processes.Traced.{Traced}
use Rattle.pr_truss.specs.declared.stages.Stage.TheVariants.{ReadingStatus}
use Rattle.pr_truss_laws.proofs.Files.OwnLemmas.{Owns}
use Rattle.pr_truss_laws.proofs.Soon.PolledLemmas.{named-read}
use Rattle.pr_truss_laws.specs.Exchanges.{Exchange, exchanges}
use Rattle.pr_report_laws.proofs.Files.FileLaws.{IsFileOf}
use Rattle.pr_report_laws.proofs.Files.FileUses.{status-read}
use Rattle.pr_report_laws.proofs.Files.WatchHistories.{Reaches}
use Rattle.pr_report_laws.proofs.ToldForks.ToldReads.{file-has}
use Rattle.pr_report_laws.specs.Named.{IsNamedIn, LooksAtWhatIsNamed, ReadsStatusFirst}
use Rattle.pr_function_laws.proofs.NextCalls.PatchCalls.{next-staged}
use Rattle.pr_function_laws.proofs.NextCalls.SoonNamed.{IsAtPlace, named-place}
use Rattle.pr_function_laws.proofs.OrdinaryTruss.OrdinaryCalls.{sees-sends}
use Rattle.pr_function_laws.proofs.OrdinaryTruss.OrdinaryEntries as entries
use Rattle.pr_function_laws.proofs.OrdinaryTruss.OrdinaryExchanges.{IsFit, Turn, goes_on, goes_out}
use Rattle.pr_function_laws.proofs.OrdinaryTruss.OrdinaryFiles.{Follows, Halfway, run-halfway}
use Rattle.pr_function_laws.proofs.OrdinaryTruss.OrdinaryLaws.{like-same}
use Rattle.pr_function_laws.proofs.OrdinaryTruss.OrdinaryReplies.{at-ordinary}
use Rattle.pr_function_laws.proofs.OrdinaryTruss.OrdinaryStops.{FitsAside, none-beside}
use Rattle.pr_function_laws.specs.Opened.{IsFunctionRun, functions_at}
use Rattle.pr_function_laws.specs.Ordinary.{ordinary}
use Rattle.pr_function_laws.specs.Runs.{MakesFunctionCalls}

-- Right after a poll has named a process truss with calls of functions reads its status.

module _ (n k : ℕ) (o : Options) (pid handle : ℕ) (s : TracedState) (before later : List Entry) (e : Entry)
    (run : IsFunctionRun n k o s (before ++ e ∷ later)) (names : IsNamedIn k pid handle (state_after s before) e)
  where
    abbrev t : TrussState
    t = functions_at k o before

    abbrev u : TrussState
    u = ordinary t

    abbrev v : TrussState
    v = functions_at k o (before ++ e ∷ [])

    abbrev polled : Exchange
    polled = record { call = call.Poll names.handles; reply = reply.Ready handle }

    at : IsAtPlace n k o pid handle s before later e run names
    at = named-place n k o pid handle s before later e run names

    place : ℕ
    place = let a = at in a.place

    -- behind the entry
    half : Halfway n k o (first_truss o) s (before ++ e ∷ []) later
    half =
        run-halfway n k o s (before ++ e ∷ []) later
        (subst (IsFunctionRun n k o s) (sym (append_assoc before (e ∷ []) later)) run)

    follows : Follows k o v (state_after s (before ++ e ∷ []))
    follows = let h = half in h.follows

    fit : IsFit o v
    fit = let f = follows in f.fit

    reads : ordinary v ≡ with_stage u (ReadingStatus place)
    unfolding place
    reads =
        let a : IsAtPlace n k o pid handle s before later e run names = at in
        by (entries.turned n k o s before later e run polled names.is)
        ∙ named-read u (reply.Ready handle) a.place
        (record { polls = a.polls; handle = handle; ready = refl; there = a.there })
      where
        by : Turn t polled → ordinary v ≡ fed u (reply.Ready handle)
        by (goes_out sees passes stay) = absurd (false≢true (sees-sends t t.stage polled.call sees))
        by (goes_on y like called comes) =
            ap ordinary (entries.pushed n k o s before later e run polled names.is) ∙ comes
            ∙ ap (λ (z : Exchange). fed u z.reply) (sym (like-same like refl))

    stage : v.stage ≡ ReadingStatus place
    stage = ap (λ (z : TrussState). z.stage) reads

    idle : v.aside ≡ Nothing
    idle =
        let f = fit in
        none-beside (ReadingStatus place) v.aside (λ q it. it) (λ q plants clear it. it) (λ e. cc)
        (subst (FitsAside v.aside) stage f.fits)

    number : ℕ
    number = number_of (traced_at (ordinary v) place).status

    its : IsFileOf k (state_after s (before ++ e ∷ [])) (traced_at (ordinary v) place).pid number file.Status Read
    unfolding number
    its =
        let f = follows in
        let g : Reaches k (ordinary v) (state_after s (before ++ e ∷ [])) = f.reaches in
        let owns : Owns k (ordinary v) (state_after s (before ++ e ∷ [])) = g.owns in
        status-read k (ordinary v) (state_after s (before ++ e ∷ [])) g.files owns.fits place stage

    own : (traced_at (ordinary v) place).pid ≡ pid
    unfolding place
    own =
        let a : IsAtPlace n k o pid handle s before later e run names = at in
        ap (λ (z : TrussState). (traced_at z a.place).pid) reads ∙ a.own

    -- the call that comes next reads the status of the process
    looked : (xs : List Exchange) → MakesFunctionCalls v xs
        → ReadsStatusFirst k pid (state_after s (before ++ e ∷ [])) xs
    unfolding function_call_of call_of number
    looked [] made = tt
    looked (x ∷ xs) made =
        let f = fit in
        let call_is : x.call ≡ read_record (traced_at v place).status =
        same_Some x.call _ (sym made.0 ∙ next-staged o run.has v (ReadingStatus place) f.options idle stage) in (
          number,
          (
            file-has k pid file.Status Read number (state_after s (before ++ e ∷ []))
                (subst (λ p. IsFileOf k (state_after s (before ++ e ∷ [])) p number file.Status Read) own its),
            call_is ∙ ap (λ (z : Traced). read_record z.status) (sym (at-ordinary v place)),
          ),
        )

    pub named-looks : ReadsStatusFirst k pid (after (state_after s before) e) (exchanges k later)
    named-looks =
        subst (λ z. ReadsStatusFirst k pid z (exchanges k later)) (state_after-push s before e)
        (looked (exchanges k later) (let h = half in h.makes))

pub looks-at-named : (n k : ℕ) (o : Options) (s : TracedState) (h : List Entry) → IsFunctionRun n k o s h
    → LooksAtWhatIsNamed k s h
looks-at-named n k o s h run = record {
  each = λ before later e pid handle is names.
      named-looks n k o pid handle s before later e (subst (IsFunctionRun n k o s) is run) names;
}

pub ruleset named_looks = (looks-at-named)
