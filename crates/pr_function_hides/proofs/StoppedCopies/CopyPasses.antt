use Rattle.std.proofs.Common.{◌≡◌, ◌≢◌, ℕ, Option, Some, None, refl, sym, subst, ap, ◌∙◌, inl, inr}
use Rattle.std.proofs.lemmas.Bool.{cases_eq}
use Rattle.std.proofs.lemmas.Option.{none-some}
use Rattle.pr_line.specs.declared.options.Options.{Options}
use Rattle.pr_model.specs.Lawful.{IsLawful}
use Rattle.pr_model.specs.Legal.{IsLegalEntry, after, after_turn}
use Rattle.pr_model.specs.LwpTurns.{LwpTurn, turn_of}
use Rattle.pr_model.specs.State.{TracedProcess, TracedState, TracedSystem, live_process}
use Rattle.pr_model.specs.declared.events.Act.{Act}
use Rattle.pr_model.specs.declared.events.Act.TheVariants as act
use Rattle.pr_model.specs.declared.events.Actor.{Actor}
use Rattle.pr_model.specs.declared.events.Actor.TheVariants.{Controller, Lwp, Clock}
use Rattle.pr_model.specs.declared.events.Entry.{Entry}
use Rattle.pr_model.specs.declared.events.Turned.{Turned}
use Rattle.pr_report_laws.proofs.Invariant.OtherSteps.{lives-later}
use Rattle.pr_truss.specs.Trusses.{first_truss}
use Rattle.pr_truss_laws.proofs.Machine.OutlastLemmas.{others-entry}
use Rattle.pr_truss_laws.proofs.Machine.OverLemmas.{stays-over}
use Rattle.pr_truss_laws.specs.Stills.{IsUndisturbed}
use Rattle.pr_function_laws.proofs.Stepping.BreakpointLemmas.{IsForeign}
use Rattle.pr_function_laws.proofs.OpenedProcesses.OpenedLemmas.{control-made, control-sole}
use Rattle.pr_function_laws.specs.Lifted.{HasControl}

-- What an entry that is no call of truss makes of a process whose control file truss has open.

-- it left the process alone, or was a turn of it
pub data Passed (s : TracedState) (pid : ℕ) (p q : TracedProcess) : Type 0 where
  alone : IsUndisturbed p q → Passed s pid p q
  turned : (own : ℕ) (turn : LwpTurn) → turn_of s.system pid own ≡ Some turn → live_process turn.system pid ≡ Some q
      → Passed s pid p q

module _ (n k : ℕ) (o : Options) (s : TracedState) (lawful : IsLawful s) where
  module _ (e : Entry) (legal : IsLegalEntry n s e) (pid control : ℕ) (its : HasControl k pid control s) where
    over : live_process s.system pid ≡ None → live_process (after s e).system pid ≡ None
    over none = stays-over n s e pid lawful legal (control-made k pid control s lawful its) none

    elsewhere : IsForeign k s e → ((own : ℕ) → e.actor ≢ Lwp pid own) → (q : TracedProcess)
        → live_process (after s e).system pid ≡ Some q
        → (p : TracedProcess) × ((live_process s.system pid ≡ Some p) × Passed s pid p q)
    elsewhere foreign apart q later =
        let was =
        lives-later o pid (first_truss o) s (after s e)
        (λ p live. others-entry n s k pid e p lawful (control-sole k pid control s lawful its) legal apart
        (let f = foreign in f.other) live) over q later in
        (was.0, (was.1.0, alone was.1.1))

    own-turn : (own : ℕ) (turn : LwpTurn) → turn_of s.system pid own ≡ Some turn
        → (after s e).system ≡ turn.system → (q : TracedProcess) → live_process (after s e).system pid ≡ Some q
        → (p : TracedProcess) × ((live_process s.system pid ≡ Some p) × Passed s pid p q)
    own-turn own turn is same q later = by (live_process s.system pid) refl
      where
        by : (x : Option TracedProcess) → live_process s.system pid ≡ x
            → (p : TracedProcess) × ((live_process s.system pid ≡ Some p) × Passed s pid p q)
        by None none = absurd (none-some q (sym (over none) ∙ later))
        by (Some p) live =
            (p, (live, turned own turn is (ap (λ (x : TracedSystem). live_process x pid) (sym same) ∙ later)))

  turn-after : (pid own : ℕ) (it : Turned) (turn : LwpTurn) → turn_of s.system pid own ≡ Some turn
      → (after s (record { actor = Lwp pid own; act = act.Turn it })).system ≡ turn.system
  unfolding after
  turn-after pid own it turn is = ap (λ (x : Option LwpTurn). (after_turn s x).system) is

  pub passed : (actor : Actor) (it : Act) (legal : IsLegalEntry n s (record { actor = actor; act = it }))
      → IsForeign k s (record { actor = actor; act = it }) → (pid control : ℕ) (its : HasControl k pid control s)
      → (q : TracedProcess) → live_process (after s (record { actor = actor; act = it })).system pid ≡ Some q
      → (p : TracedProcess) × ((live_process s.system pid ≡ Some p) × Passed s pid p q)
  unfolding IsLegalEntry
  passed (Controller j) (act.Call c r) legal foreign pid control its q later =
      elsewhere (record { actor = Controller j; act = act.Call c r }) legal pid control its foreign (λ own same. cc) q
      later
  passed (Lwp acting own) (act.Turn it) legal foreign pid control its q later =
      let turn : LwpTurn = record { system = legal.0; turned = it } in
      let e : Entry = record { actor = Lwp acting own; act = act.Turn it } in
      elim (cases_eq acting pid) [
        | inl same ↦
            own-turn e legal pid control its own turn (subst (λ i. turn_of s.system i own ≡ Some turn) same legal.1)
            (turn-after acting own it turn legal.1) q later
        | inr differs ↦ elsewhere e legal pid control its foreign (λ i same. differs (cc)) q later
      ]
  passed Clock (act.Tick m) legal foreign pid control its q later =
      elsewhere (record { actor = Clock; act = act.Tick m }) legal pid control its foreign (λ own same. cc) q later
  passed _ _ legal foreign pid control its q later = absurd legal
