use Rattle.std.proofs.Common.{◌≡◌, ◌≢◌, ℕ, None, Some, Option, refl, sym, subst, ap, ◌∙◌, inl, inr}
use Rattle.std.proofs.lemmas.Bool.{cases_eq}
use Rattle.std.proofs.lemmas.Option.{none-some}
use Rattle.pr_line.specs.declared.options.Options.{Options}
use Rattle.pr_model.specs.Lawful.{IsLawful}
use Rattle.pr_model.specs.Legal.{IsLegalEntry, after, after_turn}
use Rattle.pr_model.specs.LwpTurns.{LwpTurn, turn_of}
use Rattle.pr_model.specs.State.{TracedProcess, TracedState, TracedSystem, live_process}
use Rattle.pr_model.specs.declared.events.Act.{Act}
use Rattle.pr_model.specs.declared.events.Act.TheVariants as act
use Rattle.pr_model.specs.declared.events.Actor.{Actor}
use Rattle.pr_model.specs.declared.events.Actor.TheVariants.{Clock, Controller, Lwp}
use Rattle.pr_model.specs.declared.events.Entry.{Entry}
use Rattle.pr_model.specs.declared.events.Turned.{Turned}
use Rattle.pr_report_laws.proofs.Invariant.OtherSteps.{lives-later}
use Rattle.pr_truss.specs.Trusses.{first_truss}
use Rattle.pr_truss_laws.proofs.Machine.OutlastLemmas.{others-entry}
use Rattle.pr_truss_laws.proofs.Machine.OverLemmas.{stays-over}
use Rattle.pr_truss_laws.specs.Exchanges.{exchange_of}
use Rattle.pr_function_laws.proofs.Stepping.BreakpointLemmas.{IsForeign, foreign-entry}
use Rattle.pr_function_laws.proofs.OpenedProcesses.OpenedLemmas.{control-made, control-sole}
use Rattle.pr_function_laws.specs.Lifted.{HasControl}
use Rattle.pr_function_hides.proofs.StoppedCopies.CopySets.{traced-stops}
use Rattle.pr_function_hides.proofs.StoppedCopies.CopyTurns.{alone-clear, turn-clear}
use Rattle.pr_function_hides.specs.Copying.{HaveNoCopyGoing, IsTracedIn, NoCopyGoesIn}

-- Where a process is traced, nothing but a call of truss lets a fork, a vfork or an exec of it go on.

module _ (n k : ℕ) (o : Options) (s : TracedState) (pid control : ℕ) (but : Option ℕ) (lawful : IsLawful s)
    (its : HasControl k pid control s)
    (traces : IsTracedIn o pid s) (waits : NoCopyGoesIn pid but s) where
  over : (e : Entry) → IsLegalEntry n s e → live_process s.system pid ≡ None
      → live_process (after s e).system pid ≡ None
  over e legal none = stays-over n s e pid lawful legal (control-made k pid control s lawful its) none

  -- no turn of its own
  elsewhere : (e : Entry) → IsLegalEntry n s e → IsForeign k s e → ((own : ℕ) → e.actor ≢ Lwp pid own)
      → NoCopyGoesIn pid but (after s e)
  elsewhere e legal foreign apart = record {
    live = λ q later.
        let was =
        lives-later o pid (first_truss o) s (after s e)
        (λ p live. others-entry n s k pid e p lawful (control-sole k pid control s lawful its) legal apart
        (let f = foreign in f.other) live) (over e legal) q later in
        alone-clear but was.0 q was.1.1 (waits.live was.0 was.1.0);
  }

  turn-after : (own : ℕ) (turned : Turned) (t : LwpTurn) → turn_of s.system pid own ≡ Some t
      → (after s (record { actor = Lwp pid own; act = act.Turn turned })).system ≡ t.system
  unfolding after
  turn-after own turned t is = ap (λ (x : Option LwpTurn). (after_turn s x).system) is

  own-turn : (own : ℕ) (turned : Turned) (t : LwpTurn) → turn_of s.system pid own ≡ Some t
      → IsLegalEntry n s (record { actor = Lwp pid own; act = act.Turn turned })
      → NoCopyGoesIn pid but (after s (record { actor = Lwp pid own; act = act.Turn turned }))
  own-turn own turned t is legal = record { live = λ q later. by q later (live_process s.system pid) refl }
    where
      by : (q : TracedProcess)
          → live_process (after s (record { actor = Lwp pid own; act = act.Turn turned })).system pid ≡ Some q
          → (x : Option TracedProcess) → live_process s.system pid ≡ x → HaveNoCopyGoing but q
      by q later None none =
          absurd (none-some q (sym (over (record { actor = Lwp pid own; act = act.Turn turned }) legal none) ∙ later))
      by q later (Some p) live =
          turn-clear s.system pid p own t lawful.system live is but (waits.live p live)
          (traced-stops o p.control (traces.live p live)) q
          (ap (λ (x : TracedSystem). live_process x pid) (sym (turn-after own turned t is)) ∙ later)

  foreign-waits : (actor : Actor) (it : Act) → IsLegalEntry n s (record { actor = actor; act = it })
      → IsForeign k s (record { actor = actor; act = it })
      → NoCopyGoesIn pid but (after s (record { actor = actor; act = it }))
  unfolding IsLegalEntry
  foreign-waits (Controller j) (act.Call c r) legal foreign =
      elsewhere (record { actor = Controller j; act = act.Call c r }) legal foreign (λ own same. cc)
  foreign-waits (Lwp acting own) (act.Turn turn) legal foreign =
      let t : LwpTurn = record { system = legal.0; turned = turn } in
      elim (cases_eq acting pid) [
        | inl same ↦
            subst (λ i. IsLegalEntry n s (record { actor = Lwp i own; act = act.Turn turn })
            → turn_of s.system i own ≡ Some t
            → NoCopyGoesIn pid but (after s (record { actor = Lwp i own; act = act.Turn turn })))
            (sym same) (λ its_legal is. own-turn own turn t is its_legal) legal legal.1
        | inr differs ↦ elsewhere (record { actor = Lwp acting own; act = act.Turn turn }) legal foreign
            (λ i same. differs (cc))
      ]
  foreign-waits Clock (act.Tick m) legal foreign =
      elsewhere (record { actor = Clock; act = act.Tick m }) legal foreign (λ own same. cc)
  foreign-waits _ _ legal foreign = absurd legal

-- what is no call of truss
pub others-wait : (n k : ℕ) (o : Options) (s : TracedState) (e : Entry) (pid control : ℕ) (but : Option ℕ) → IsLawful s
    → IsLegalEntry n s e → exchange_of k e ≡ None → HasControl k pid control s
    → IsTracedIn o pid s → NoCopyGoesIn pid but s → NoCopyGoesIn pid but (after s e)
others-wait n k o s e pid control but lawful legal own its traces waits =
    foreign-waits n k o s pid control but lawful its traces waits e.actor e.act legal (foreign-entry n k s e legal own)

pub ruleset copy_others = (others-wait)
