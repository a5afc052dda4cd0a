use Rattle.std.proofs.Common.{◌≡◌, ◌≢◌, ◌⊎◌, ◌<◌, ◌++◌, ℕ, Bool, true, false, Option, Some, None, List, ◌∷◌, length, refl, sym, subst, ap, ◌∙◌, inl, inr}
use Rattle.std.proofs.lemmas.Bool.{cases_eq}
use Rattle.std.specs.List.{slice_get}
use Rattle.pr_line.specs.declared.functions.Function.{Function}
use Rattle.pr_line.specs.declared.options.Options.{Options}
use Rattle.pr_model.specs.Lawful.{IsLawful}
use Rattle.pr_model.specs.Legal.{IsLegalEntry, after, after_turn, state_after}
use Rattle.pr_model.specs.LwpTurns.{LwpTurn, turn_of}
use Rattle.pr_model.specs.State.{TracedProcess, TracedState, TracedSystem, live_process}
use Rattle.pr_model.specs.declared.events.Act.{Act}
use Rattle.pr_model.specs.declared.events.Act.TheVariants as act
use Rattle.pr_model.specs.declared.events.Actor.{Actor}
use Rattle.pr_model.specs.declared.events.Actor.TheVariants.{Controller, Lwp, Clock}
use Rattle.pr_model.specs.declared.events.Entry.{Entry}
use Rattle.pr_model.specs.declared.events.Turned.{Turned}
use Rattle.pr_num.proofs.SearchLemmas.{All-at}
use Rattle.pr_probe_laws.proofs.Hiding.HiddenFacts.{legal-turn}
use Rattle.pr_truss.specs.Asides.{marks_at}
use Rattle.pr_truss.specs.Marks.{has_function}
use Rattle.pr_truss.specs.Trusses.{traced_at}
use Rattle.pr_truss.specs.declared.marks.Marks.{Marks}
use Rattle.pr_truss_laws.specs.Exchanges.{exchange_of}
use Rattle.pr_function_laws.proofs.Stepping.BreakpointLemmas.{IsForeign, foreign-entry}
use Rattle.pr_function_laws.specs.Lifted.{HasControl}
use Rattle.pr_function_laws.specs.Opened.{functions_at}
use Rattle.pr_function_hides.proofs.CodeThere.TurnCode.{HoldsCode, turn-holds}
use Rattle.pr_function_hides.proofs.PlantedFetches.BreakpointBytes.{breakpoint-within, others-hold}
use Rattle.pr_function_hides.specs.CountedFunctions.{takes_memory}
use Rattle.pr_function_hides.specs.FunctionHiders.{ArePatchable, IsPatchable}
use Rattle.pr_function_hides.specs.PlantedBreakpoints.{LeavesPlanted, breakpoint_of}

-- At an entry that is no call of truss the breakpoints of a process stand on that are marked as planted there, but
-- where an lwp of the process makes a vfork or an exec that is granted.

-- the process has its memory to itself, and of each function that is marked as planted the breakpoint stands there
abbrev pub AllHold : Options → Marks → TracedProcess → Type 0
AllHold o m p =
    (i : ℕ) (f : Function) → slice_get o.functions i ≡ Some f → has_function m.planted i ≡ true
    → HoldsCode (breakpoint_of f) p

pub patchable-at : (o : Options) → ArePatchable o → (i : ℕ) (f : Function) → slice_get o.functions i ≡ Some f
    → IsPatchable f
patchable-at o fit i f named = All-at IsPatchable o.functions i f named fit.each

-- in an entry an lwp of this process, which is as y behind it, made a vfork or an exec that was granted
pub record Takes (now : TracedState) (pid : ℕ) (e : Entry) (y : TracedProcess) : Type 0 where
  pub id : ℕ
  pub turned : Turned
  pub one : e ≡ record { actor = Lwp pid id; act = act.Turn turned }
  pub next : TracedSystem
  pub taken : turn_of now.system pid id ≡ Some (record { system = next; turned = turned })
  pub later : live_process next pid ≡ Some y
  pub takes : takes_memory turned.did ≡ true

controller-not : {c a i : ℕ} → Controller c ≡ Lwp a i → ⊥
controller-not both = cc

clock-not : {a i : ℕ} → Clock ≡ Lwp a i → ⊥
clock-not both = cc

lwp-same : {a b i l : ℕ} → Lwp a i ≡ Lwp b l → a ≡ b
lwp-same both = cc

module _ (n k : ℕ) (o : Options) (s : TracedState) (h : List Entry) (fit : ArePatchable o)
    (spared : LeavesPlanted k o s h) (front : List Entry) (actor : Actor) (did : Act) (later : List Entry)
    (is : h ≡ front ++ record { actor = actor; act = did } ∷ later) (options : (functions_at k o front).options ≡ o)
    (lawful : IsLawful (state_after s front))
    (legal : IsLegalEntry n (state_after s front) (record { actor = actor; act = did }))
    (none : exchange_of k (record { actor = actor; act = did }) ≡ None) (q : ℕ)
    (within : q < length (functions_at k o front).traced)
    (control : HasControl k (traced_at (functions_at k o front) q).pid (traced_at (functions_at k o front) q).control
    (state_after s front)) (x y : TracedProcess)
    (live : live_process (state_after s front).system (traced_at (functions_at k o front) q).pid ≡ Some x)
    (behind : live_process (after (state_after s front) (record { actor = actor; act = did })).system
    (traced_at (functions_at k o front) q).pid ≡ Some y) (hold : AllHold o (marks_at (functions_at k o front) q) x)
  where
    abbrev e : Entry
    e = record { actor = actor; act = did }

    abbrev now : TracedState
    now = state_after s front

    abbrev pid : ℕ
    pid = (traced_at (functions_at k o front) q).pid

    abbrev m : Marks
    m = marks_at (functions_at k o front) q

    -- an entry that is no turn of the process
    apart-holds : ((id : ℕ) → actor ≢ Lwp pid id) → AllHold o m y
    apart-holds apart i f named planted =
        let foreign : IsForeign k now e = foreign-entry n k now e legal none in
        others-hold (breakpoint_of f) n k now lawful pid (traced_at (functions_at k o front) q).control control actor
        did legal foreign.other apart x y live behind (hold i f named planted)

    -- a turn of it
    module _ (id : ℕ) (turned : Turned) (one : e ≡ record { actor = Lwp pid id; act = act.Turn turned }) where
      taken-turn :
          (next : TracedSystem) × (turn_of now.system pid id ≡ Some (record { system = next; turned = turned }))
      taken-turn = legal-turn n now pid id turned (subst (IsLegalEntry n now) one legal)

      abbrev turn : LwpTurn
      turn = record { system = taken-turn.0; turned = turned }

      turned-live : live_process turn.system pid ≡ Some y
      unfolding after
      turned-live =
          sym (ap (λ (z : Entry). live_process (after now z).system pid) one
          ∙ ap (λ (z : Option LwpTurn). live_process (after_turn now z).system pid) taken-turn.1) ∙ behind

      turn-keeps : takes_memory turned.did ≡ false → AllHold o m y
      turn-keeps leaves i f named planted =
          turn-holds (breakpoint_of f) (breakpoint-within f (patchable-at o fit i f named)) pid now.system id turn
          taken-turn.1 leaves
          (λ p l its_live there going.
          spared.alone front later q id i turned p l f (is ∙ ap (λ (z : Entry). front ++ z ∷ later) one) within its_live
          there going (ap (λ (z : Options). slice_get z.functions i) options ∙ named) planted) x live
          (hold i f named planted) y turned-live

      turn-leaves : Takes now pid e y ⊎ AllHold o m y
      turn-leaves = by (takes_memory turned.did) refl
        where
          by : (b : Bool) → takes_memory turned.did ≡ b → Takes now pid e y ⊎ AllHold o m y
          by false leaves = inr (turn-keeps leaves)
          by true takes = inl (record {
            id = id;
            turned = turned;
            one = one;
            next = taken-turn.0;
            taken = taken-turn.1;
            later = turned-live;
            takes = takes;
          })

    pub foreign-leaves : Takes now pid e y ⊎ AllHold o m y
    unfolding IsLegalEntry
    foreign-leaves = by actor did refl refl legal
      where
        by : (who : Actor) (it : Act) → actor ≡ who → did ≡ it
            → IsLegalEntry n now (record { actor = who; act = it }) → Takes now pid e y ⊎ AllHold o m y
        by (Controller c) it acts does its_legal = inr (apart-holds (λ id other. controller-not (sym acts ∙ other)))
        by Clock it acts does its_legal = inr (apart-holds (λ id other. clock-not (sym acts ∙ other)))
        by (Lwp acting id) (act.Turn turned) acts does its_legal = elim (cases_eq acting pid) [
          | inl its ↦
              turn-leaves id turned
              (ap (λ (a : Actor). record { actor = a; act = did }) (acts ∙ ap (λ i. Lwp i id) its)
              ∙ ap (λ (d : Act). record { actor = Lwp pid id; act = d }) does)
          | inr other ↦ inr (apart-holds (λ i same_lwp. other (lwp-same (sym acts ∙ same_lwp))))
        ]
        by (Lwp acting id) (act.Call c r) acts does its_legal = absurd its_legal
        by (Lwp acting id) (act.Tick moment) acts does its_legal = absurd its_legal
