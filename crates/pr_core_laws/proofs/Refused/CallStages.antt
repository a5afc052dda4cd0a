use Rattle.std.proofs.Common.{◌≡◌, ◌⊎◌, ◌++◌, ◌∷◌, ℕ, Bool, true, false, List, [], Option, Some, None, option_map, refl, sym, subst, ap, ◌∙◌, inl, inr, arith}
use Rattle.std.proofs.lemmas.Bool.{false≢true}
use Rattle.std.proofs.lemmas.Option.{none-some, same_Some}
use Rattle.pr_api.specs.Entries.{call_entry}
use Rattle.pr_core.specs.GcoreStages.{control_place, part_after, stage_after, way_out}
use Rattle.pr_core.specs.Gcores.{GcoreState, accepted, advanced, answered, at_stage, call_of, fed, memory_call, next_call_of, passes_over, refusal_in, refused, with_next}
use Rattle.pr_core.specs.declared.gcore_stages.GcorePart.TheVariants as part
use Rattle.pr_core.specs.declared.gcore_stages.GcoreStage.{GcoreStage}
use Rattle.pr_core.specs.declared.gcore_stages.GcoreStage.TheVariants as stage
use Rattle.pr_model.proofs.HistoryLemmas.{state_after-push}
use Rattle.pr_model.specs.Calls.{Answer, answer_to}
use Rattle.pr_model.specs.Handles.{handle_of}
use Rattle.pr_model.specs.Legal.{IsLegalEntry, after, state_after}
use Rattle.pr_model.specs.State.{Places, TracedState}
use Rattle.pr_model.specs.declared.calls.Call.{Call}
use Rattle.pr_model.specs.declared.calls.Call.TheVariants as call
use Rattle.pr_model.specs.declared.calls.Reply.{Reply}
use Rattle.pr_model.specs.declared.events.Act.{Act}
use Rattle.pr_model.specs.declared.events.Actor.{Actor}
use Rattle.pr_model.specs.declared.events.Entry.{Entry}
use Rattle.pr_num.specs.declared.errnos.Errno.{Errno}
use Rattle.pr_tool_laws.proofs.RunningAgain.LeavingLemmas.{entry-call}
use Rattle.pr_tool_laws.proofs.Pstack.StackReads.{control_of}
use Rattle.pr_tool_laws.proofs.OwnFiles.StandingLemmas.{IsOther, Stands, others-keep}
use Rattle.pr_tool_laws.specs.Leaving.{IsClose}
use Rattle.pr_tools.specs.Handles.{handle_at, last_open}
use Rattle.pr_tools.specs.declared.handles.Opened.{Opened}
use Rattle.pr_truss_laws.proofs.Files.OpensLemmas.{keeps_handles, plain-leaves}
use Rattle.pr_core_laws.proofs.OpenFiles.GcoreHolds.{Holds, goes_on}
use Rattle.pr_core_laws.proofs.OneState.GcoreStages.{open_at}
use Rattle.pr_core_laws.proofs.OpenFiles.KeptParts.{accepted-kept, moves_files}
use Rattle.pr_core_laws.proofs.Refused.RefusalStages.{call-row, control-file}
use Rattle.pr_core_laws.proofs.Refused.RunAgainStages.{Control, keeps-memory}
use Rattle.pr_core_laws.specs.GcoreCalls.{IsGcoreCall, MakesGcoreCalls, runs}

-- gcore makes the calls of its table, refused or not.

-- ---- an entry more

module _ (k pid : ℕ) where
  abbrev MayMake : TracedState → Entry → Type 0
  MayMake s e = (c : Call) (r : Reply) → e ≡ call_entry k c r → IsGcoreCall k pid s c ⊎ IsClose c

  pub makes-more : (s : TracedState) (h : List Entry) (e : Entry) → MakesGcoreCalls k pid s h
      → MayMake (state_after s h) e → MakesGcoreCalls k pid s (h ++ e ∷ [])
  makes-more s [] e it may = (may, tt)
  makes-more s (d ∷ h) e it may = (it.0, makes-more (after s d) h e it.1 may)

  pub its-row : (s : TracedState) (c : Call) (r : Reply) → IsGcoreCall k pid s c ⊎ IsClose c
      → MayMake s (call_entry k c r)
  its-row s c r row d v is =
      subst (λ (x : Call). IsGcoreCall k pid s x ⊎ IsClose x) (entry-call k c d r v is) row

-- ---- the way out

-- the stages at which a refusal makes gcore take back its request
abbrev leaves : GcoreStage → Bool
leaves stage.AwaitStop = true
leaves stage.ReadStatus = true
leaves (stage.ReadPart which) = true
leaves stage.ReadMemory = true
leaves stage.Run = true
leaves _ = false

abbrev is_release : GcoreStage → Bool
is_release stage.Release = true
is_release _ = false

accepted-not : (g : GcoreState) (r : Reply) (p : GcoreStage) → leaves p ≡ false
    → is_release (accepted (at_stage g p) r p).stage ≡ false
unfolding accepted advanced with_next stage_after part_after
accepted-not g r stage.OpenCtl other = refl
accepted-not g r stage.OpenStatus other = refl
accepted-not g r (stage.OpenPart part.Psinfo) other = refl
accepted-not g r (stage.OpenPart part.Lstatus) other = refl
accepted-not g r (stage.OpenPart part.Sigact) other = refl
accepted-not g r (stage.OpenPart part.Map) other = refl
accepted-not g r (stage.OpenPart part.Fds) other = refl
accepted-not g r stage.OpenMemory other = refl
accepted-not g r stage.ReadFirst other = refl
accepted-not g r stage.Stop other = refl
accepted-not g r stage.Release other = refl
accepted-not g r stage.Close other = refl
accepted-not g r _ other = absurd (false≢true (sym other))

out-not : (p : GcoreStage) → leaves p ≡ false → is_release (way_out p) ≡ false
unfolding way_out
out-not stage.OpenCtl other = refl
out-not stage.OpenStatus other = refl
out-not (stage.OpenPart which) other = refl
out-not stage.OpenMemory other = refl
out-not stage.ReadFirst other = refl
out-not stage.Stop other = refl
out-not stage.Release other = refl
out-not stage.Close other = refl
out-not _ other = absurd (false≢true (sym other))

fed-not : (g : GcoreState) (r : Reply) → leaves g.stage ≡ false → is_release (fed g r).stage ≡ false
unfolding fed refused
fed-not g r other = by (refusal_in g.stage r)
  where
    by : (o : Option Errno) → is_release (answered g r o).stage ≡ false
    by None = accepted-not g r g.stage other
    by (Some e) = out-not g.stage other

leaves-plain : (p : GcoreStage) → leaves p ≡ true → moves_files p ≡ false
leaves-plain stage.AwaitStop is = refl
leaves-plain stage.ReadStatus is = refl
leaves-plain (stage.ReadPart which) is = refl
leaves-plain stage.ReadMemory is = refl
leaves-plain stage.Run is = refl
leaves-plain _ is = absurd (false≢true is)

leaves-opened : (g : GcoreState) (r : Reply) → leaves g.stage ≡ true → (fed g r).opened ≡ g.opened
unfolding fed refused
leaves-opened g r is = by (refusal_in g.stage r)
  where
    by : (o : Option Errno) → (answered g r o).opened ≡ g.opened
    by None = accepted-kept (λ (pid : ℕ) (x : Opened). x) g r g.stage (leaves-plain g.stage is)
    by (Some e) = refl

leaves-keeps : (g : GcoreState) (p : GcoreStage) (c : Call) → leaves p ≡ true → call_of (at_stage g p) p ≡ Some c
    → keeps_handles c ≡ true
unfolding call_of
leaves-keeps g stage.AwaitStop c is same = ap keeps_handles (sym (same_Some _ c same))
leaves-keeps g stage.ReadStatus c is same = ap keeps_handles (sym (same_Some _ c same))
leaves-keeps g (stage.ReadPart which) c is same = ap keeps_handles (sym (same_Some _ c same))
leaves-keeps g stage.ReadMemory c is same =
    ap keeps_handles (sym (same_Some (memory_call (at_stage g stage.ReadMemory) g.walk) c same))
    ∙ keeps-memory (at_stage g stage.ReadMemory) g.walk
leaves-keeps g stage.Run c is same = ap keeps_handles (sym (same_Some _ c same))
leaves-keeps g _ c is same = absurd (false≢true is)

module _ (n k pid : ℕ) (first : TracedState) where
  -- where the request is taken back the control file is open
  abbrev pub Out : TracedState → GcoreState → Type 0
  Out s g = g.stage ≡ stage.Release → Control n k pid first s g

  pub out-still : (h : List Entry) (actor : Actor) (it : Act)
      → IsLegalEntry n (state_after first h) (record { actor = actor; act = it }) → IsOther k actor it
      → (g : GcoreState) → Out (state_after first h) g
      → Out (state_after first (h ++ (record { actor = actor; act = it }) ∷ [])) g
  out-still h actor it legal other g out is =
      let control = out is in
      record {
        number = control.number;
        at = control.at;
        stands =
            subst (λ (x : TracedState). Stands x.opens control.number (control_of k pid))
            (sym (state_after-push first h (record { actor = actor; act = it })))
            (others-keep control.number (control_of k pid) n (state_after first h) actor it legal other
            control.stands);
      }

  control-at : (s : TracedState) (g : GcoreState) (p : GcoreStage)
      → (goes_on p ≡ true → Holds n k pid first s g p) → (p ≡ stage.Run → Control n k pid first s g)
      → leaves p ≡ true → Control n k pid first s g
  unfolding open_at
  control-at s g stage.AwaitStop holds run is = (holds refl).each control_place (control_of k pid) (omega arith) refl
  control-at s g stage.ReadStatus holds run is = (holds refl).each control_place (control_of k pid) (omega arith) refl
  control-at s g (stage.ReadPart which) holds run is =
      (holds refl).each control_place (control_of k pid) (omega arith) refl
  control-at s g stage.ReadMemory holds run is = (holds refl).each control_place (control_of k pid) (omega arith) refl
  control-at s g stage.Run holds run is = run refl
  control-at s g _ holds run is = absurd (false≢true is)

  -- ---- a call

  module _ (s : TracedState) (c : Call) (a : Answer) (given : answer_to s k c ≡ Some a) (g : GcoreState)
      (next : next_call_of g ≡ Some c)
      (holds : passes_over g.stage ≡ false → goes_on g.stage ≡ true → Holds n k pid first s g g.stage)
      (run : passes_over g.stage ≡ false → g.stage ≡ stage.Run → Control n k pid first s g) where
    leaves-counts : (p : GcoreStage) → leaves p ≡ true → passes_over p ≡ false
    unfolding passes_over
    leaves-counts stage.AwaitStop is = refl
    leaves-counts stage.ReadStatus is = refl
    leaves-counts (stage.ReadPart which) is = refl
    leaves-counts stage.ReadMemory is = refl
    leaves-counts stage.Run is = refl
    leaves-counts _ is = absurd (false≢true is)

    pub called-out : Out a.state (fed g a.reply)
    unfolding next_call_of
    called-out is = by (leaves g.stage) refl
      where
        by : (b : Bool) → leaves g.stage ≡ b → Control n k pid first a.state (fed g a.reply)
        by false other = absurd (false≢true (sym (fed-not g a.reply other) ∙ ap is_release is))
        by true at =
            let counts = leaves-counts g.stage at in
            let control = control-at s g g.stage (holds counts) (run counts) at in
            let still : a.state.opens ≡ s.opens =
            plain-leaves s k c a (leaves-keeps g g.stage c at next) given in
            record {
              number = control.number;
              at = ap (λ (o : Opened). handle_at o control_place) (leaves-opened g a.reply at) ∙ control.at;
              stands = ap (λ (x : Places). handle_of x k control.number) still ∙ control.stands;
            }

    pub whole-row : g.pid ≡ pid → Out s g → IsGcoreCall k pid s c ⊎ IsClose c
    unfolding next_call_of call_of passes_over
    whole-row its out = by g.stage holds run out next
      where
        close : (o : Option ℕ) → option_map call.Close o ≡ Some c → IsGcoreCall k pid s c ⊎ IsClose c
        close None same = absurd (none-some c same)
        close (Some number) same = inr (record { handle = number; is = sym (same_Some (call.Close number) c same) })

        by : (p : GcoreStage) → (passes_over p ≡ false → goes_on p ≡ true → Holds n k pid first s g p)
            → (passes_over p ≡ false → p ≡ stage.Run → Control n k pid first s g)
            → (p ≡ stage.Release → Control n k pid first s g) → call_of (at_stage g p) p ≡ Some c
            → IsGcoreCall k pid s c ⊎ IsClose c
        by stage.Release held ran out same =
            inl (subst (IsGcoreCall k pid s) (same_Some _ c same) (runs (control-file n k pid first s c g (out refl))))
        by stage.Close held ran out same = close (last_open g.opened) same
        by stage.OpenCtl held ran out same =
            inl (call-row n k pid first s c g stage.OpenCtl its refl (held refl) (ran refl) same)
        by stage.OpenStatus held ran out same =
            inl (call-row n k pid first s c g stage.OpenStatus its refl (held refl) (ran refl) same)
        by (stage.OpenPart which) held ran out same =
            inl (call-row n k pid first s c g (stage.OpenPart which) its refl (held refl) (ran refl) same)
        by stage.OpenMemory held ran out same =
            inl (call-row n k pid first s c g stage.OpenMemory its refl (held refl) (ran refl) same)
        by stage.ReadFirst held ran out same =
            inl (call-row n k pid first s c g stage.ReadFirst its refl (held refl) (ran refl) same)
        by stage.Stop held ran out same =
            inl (call-row n k pid first s c g stage.Stop its refl (held refl) (ran refl) same)
        by stage.AwaitStop held ran out same =
            inl (call-row n k pid first s c g stage.AwaitStop its refl (held refl) (ran refl) same)
        by stage.ReadStatus held ran out same =
            inl (call-row n k pid first s c g stage.ReadStatus its refl (held refl) (ran refl) same)
        by (stage.ReadPart which) held ran out same =
            inl (call-row n k pid first s c g (stage.ReadPart which) its refl (held refl) (ran refl) same)
        by stage.ReadMemory held ran out same =
            inl (call-row n k pid first s c g stage.ReadMemory its refl (held refl) (ran refl) same)
        by stage.Run held ran out same =
            inl (call-row n k pid first s c g stage.Run its refl (held refl) (ran refl) same)
