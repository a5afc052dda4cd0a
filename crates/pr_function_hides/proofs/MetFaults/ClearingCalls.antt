use Rattle.std.proofs.Common.{◌≡◌, ◌≢◌, ◌++◌, ℕ, true, false, Some, List, ◌∷◌, refl, sym, ap, ◌∙◌}
use Rattle.std.proofs.lemmas.Bool.{false≢true}
use Rattle.pr_api.specs.Entries.{call_entry}
use Rattle.pr_function_hides.proofs.GoingOn.CalmCalls as Calm
use Rattle.pr_function_hides.proofs.Tidy.CopyFree.{known-on}
use Rattle.pr_function_hides.proofs.Replies.OwnFiles.{GoesOn}
use Rattle.pr_function_hides.proofs.GoingOn.SentMessages.{Admits, Clears, Sends, aside-sends, run-begins, stage-sends}
use Rattle.pr_function_hides.proofs.Tidy.TidyCalls as Calls
use Rattle.pr_function_hides.specs.FunctionHiders.{ArePatchable}
use Rattle.pr_function_hides.specs.RunsOfTrusses.{IsRunOfTrusses}
use Rattle.pr_function_laws.proofs.Marks.KeptPlaces.{AtAside, Kept}
use Rattle.pr_function_laws.proofs.Pending.KnownFiles.{Knows}
use Rattle.pr_function_laws.proofs.NextCalls.PatchCalls.{next-beside}
use Rattle.pr_hidden.specs.Hiders.{Hiders, hides}
use Rattle.pr_model.specs.State.{TracedState}
use Rattle.pr_model.specs.declared.calls.Call.{Call}
use Rattle.pr_model.specs.declared.calls.Reply.{Reply}
use Rattle.pr_model.specs.declared.events.Entry.{Entry}
use Rattle.pr_num.specs.declared.messages.Message.{Message}
use Rattle.pr_num.specs.declared.messages.Message.TheVariants as message
use Rattle.pr_truss.specs.FunctionCalls.{call_beside}
use Rattle.pr_truss.specs.Trusses.{TrussState, traced_at}
use Rattle.pr_truss.specs.declared.asides.Aside.{Aside}
use Rattle.pr_truss.specs.declared.asides.Aside.TheVariants.{Nothing, Patching}
use Rattle.pr_world.specs.ControllerStates.{ControllerState}

-- As long as it does not leave its processes, truss sends no PCCFAULT.

-- any message but PCCFAULT
abbrev pub IsUnclear : Message → Type 0
IsUnclear message.Cfault = ⊥
IsUnclear _ = Unit {0}

admits-unclear : Admits IsUnclear
admits-unclear = record {
  stop = tt;
  strace = λ set. tt;
  sfault = λ set. tt;
  sentry = λ set. tt;
  sexit = λ set. tt;
  follow = tt;
  release = tt;
  unset = λ modes. tt;
  read = λ at size. tt;
  write = λ at. tt;
}

module _ {n : ℕ} {who : Hiders} {controllers : List ControllerState} {first : TracedState}
    {h : List Entry} (run : IsRunOfTrusses n who controllers first h) (front back : List Entry) (j : ℕ) (c : Call)
    (r : Reply) (place : h ≡ front ++ call_entry j c r ∷ back) (hider : hides who j ≡ true) where
  abbrev t : TrussState
  t = Calm.tr run front back j c r place hider

  module _ (off : t.leaving ≡ false) where
    abbrev fits : ArePatchable t.options
    fits = Calls.fits run front back j c r place (Calm.kept-now run front back j c r place) hider

    known : Kept Knows t
    known =
        known-on run j hider front (call_entry j c r ∷ back) place t (Calm.is-now run front back j c r place hider) off

    on : GoesOn t
    on = Calm.on run front (call_entry j c r) back place j hider off

    beside-is : call_beside t t.stage t.aside ≡ Some c
    beside-is =
        sym (next-beside t.options (Calm.has run front back j c r place hider) t refl)
        ∙ Calm.next run front back j c r place hider

    -- while it plants and lifts, something is left to do
    busy-clears : (aside : Aside) → AtAside Knows t.traced aside → Clears IsUnclear admits-unclear t fits c aside
    busy-clears (Patching q plants lifts clear) w = λ none nothing. absurd (false≢true (rw (none, nothing) at w.1.0))
    busy-clears _ w = tt

    pub sends-unclear : Sends IsUnclear c
    unfolding call_beside
    sends-unclear = by t.aside refl
      where
        busy : t.aside ≢ Nothing → Sends IsUnclear c
        busy acts =
            let k = known in
            let o = on in
            aside-sends IsUnclear admits-unclear t fits c t.aside o.beside
            (Calls.below run front back j c r place (Calm.kept-now run front back j c r place) hider) acts
            (busy-clears t.aside k.beside) beside-is

        by : (aside : Aside) → t.aside ≡ aside → Sends IsUnclear c
        by Nothing idle =
            let o = on in
            stage-sends IsUnclear admits-unclear t fits c tt
            (λ q within. run-begins IsUnclear (λ word. tt) (traced_at t q).marks.flags) t.stage o.stage
            (sym (ap (call_beside t t.stage) idle) ∙ beside-is)
        by _ idle = busy (λ none. cc)
