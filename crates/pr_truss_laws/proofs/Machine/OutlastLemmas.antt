use Rattle.std.proofs.Common.{◌≡◌, ◌≢◌, ℕ, true, cond, is_none, None, Some, Option, refl, sym, subst, ap, ◌∙◌}
use Rattle.std.proofs.lemmas.Option.{same_Some, none-some}
use Rattle.std.specs.Option.{option_and_then}
use Rattle.pr_num.specs.Signals.{signal_number}
use Rattle.pr_num.specs.declared.signals.Sig.TheVariants.{Kill}
use Rattle.pr_lawful.proofs.LawfulTurns.EndLemmas.{found-live}
use Rattle.pr_model.specs.Calls.{Answer, answer_to}
use Rattle.pr_model.specs.Handles.{handle_of}
use Rattle.pr_model.specs.Lawful.{IsLawful, IsLawfulSystem}
use Rattle.pr_model.specs.Legal.{IsLegalEntry, after, ticked}
use Rattle.pr_model.specs.LwpTurns.{LwpTurn, turn_of}
use Rattle.pr_model.specs.State.{TracedProcess, TracedState, TracedSystem, if_live, live_process, process_of, with_system}
use Rattle.pr_model.specs.declared.calls.Call.{Call}
use Rattle.pr_model.specs.declared.events.Act.{Act}
use Rattle.pr_model.specs.declared.events.Act.TheVariants as act
use Rattle.pr_model.specs.declared.events.Actor.{Actor}
use Rattle.pr_model.specs.declared.events.Actor.TheVariants.{Controller, Lwp, Clock}
use Rattle.pr_model.specs.declared.events.Entry.{Entry}
use Rattle.pr_model.specs.declared.handles.Held.{Held}
use Rattle.pr_truss_laws.proofs.Machine.ForeignLemmas.{call-passes, foreign-passes, names}
use Rattle.pr_truss_laws.proofs.Machine.FrameLemmas.{Became, ByKill, Passes, ended-same, has_ended, left_alone, nobody, turn-passes, undisturbed-self}
use Rattle.pr_truss_laws.specs.Handles.{HasNoOtherWriter}
use Rattle.pr_truss_laws.specs.Stills.{IsUndisturbed}

-- What the entries of a history that are no turns of a process itself do to it.

-- ---- what is left of it

-- A live process after something that others did: it lives, and was left alone; or SIGKILL ended it.
pub data Outlasts (pid : ℕ) (p : TracedProcess) (s : TracedSystem) : Type 0 where
  lives : (q : TracedProcess) → live_process s pid ≡ Some q → IsUndisturbed p q → Outlasts pid p s
  killed : (z : TracedProcess) → live_process s pid ≡ None → process_of s pid ≡ Some z
      → z.ended ≡ Some (signal_number Kill) → Outlasts pid p s

-- whether what stands under an id lives
there-lives : (s : TracedSystem) (pid : ℕ) (q : TracedProcess) → process_of s pid ≡ Some q → q.ended ≡ None
    → live_process s pid ≡ Some q
unfolding live_process
there-lives s pid q there live =
    ap (option_and_then if_live) there ∙ ap (λ (o : Option ℕ). cond (is_none o) (Some q) None) live

there-ended : (s : TracedSystem) (pid : ℕ) (z : TracedProcess) (status : ℕ) → process_of s pid ≡ Some z
    → z.ended ≡ Some status → live_process s pid ≡ None
unfolding live_process
there-ended s pid z status there over =
    ap (option_and_then if_live) there ∙ ap (λ (o : Option ℕ). cond (is_none o) (Some z) None) over

pub outlasts : (s u : TracedSystem) (pid : ℕ) (p : TracedProcess) → live_process s pid ≡ Some p → Passes pid ByKill s u
    → Outlasts pid p u
outlasts s u pid p before passes = by passes
  where
    was : (process_of s pid ≡ Some p) × (p.ended ≡ None)
    was = found-live s pid p before

    by : Became ByKill (process_of s pid) (process_of u pid) → Outlasts pid p u
    by (nobody none gone) = absurd (none-some p (sym none ∙ was.0))
    by (left_alone x q there later alone) =
        let own : IsUndisturbed p q =
        subst (λ (y : TracedProcess). IsUndisturbed y q) (same_Some x p (sym there ∙ was.0)) alone in
        lives q (there-lives u pid q later (ended-same p q own ∙ was.1)) own
    by (has_ended z status there over such) =
        killed z (there-ended u pid z status there over) there (over ∙ ap (λ n. Some n) such)

-- ---- entries of others

-- a turn of an lwp of another process
pub others-turn : (s : TracedSystem) (pid other id : ℕ) (t : LwpTurn) (p : TracedProcess) → IsLawfulSystem s
    → live_process s pid ≡ Some p → other ≢ pid → turn_of s other id ≡ Some t → Outlasts pid p t.system
others-turn s pid other id t p lawful before differs turn =
    outlasts s t.system pid p before (turn-passes s pid other id t p lawful before differs turn)

-- a call of another controller, where at most one has the process open for writing
pub others-call : (s : TracedState) (k pid by : ℕ) (c : Call) (a : Answer) (p : TracedProcess) → IsLawful s
    → HasNoOtherWriter k pid s.opens → by ≢ k → answer_to s by c ≡ Some a → live_process s.system pid ≡ Some p
    → Outlasts pid p a.state.system
others-call s k pid by c a p lawful sole other is before =
    outlasts s.system a.state.system pid p before (foreign-passes s k pid lawful sole by c a p other is before)

-- a call that writes to no handle of the process and closes none
pub own-call-elsewhere : (s : TracedState) (k pid : ℕ) (c : Call) (a : Answer) (p : TracedProcess) → IsLawful s
    → ((m : ℕ) (g : Held) → names c m ≡ true → handle_of s.opens k m ≡ Some g → g.pid ≢ pid) → answer_to s k c ≡ Some a
    → live_process s.system pid ≡ Some p → Outlasts pid p a.state.system
own-call-elsewhere s k pid c a p lawful apart is before =
    let was = found-live s.system pid p before in
    outlasts s.system a.state.system pid p before
    (call-passes s k pid lawful p was.0 c a (λ m named g held writes. apart m g named held) is)

-- a tick of the clock
pub ticked-processes : (s : TracedState) → (with_system ticked s).system.processes ≡ s.system.processes
ticked-processes s = refl

pub ticked-process : (s : TracedState) (pid : ℕ)
    → process_of (with_system ticked s).system pid ≡ process_of s.system pid
ticked-process s pid = refl

pub ticked-live : (s : TracedState) (pid : ℕ)
    → live_process (with_system ticked s).system pid ≡ live_process s.system pid
unfolding live_process
ticked-live s pid = refl

-- an entry of another controller, of another process, or of the clock
others-in : (n : ℕ) (s : TracedState) (k pid : ℕ) (actor : Actor) (it : Act) (p : TracedProcess) → IsLawful s
    → HasNoOtherWriter k pid s.opens → IsLegalEntry n s (record { actor = actor; act = it })
    → ((id : ℕ) → actor ≢ Lwp pid id) → actor ≢ Controller k → live_process s.system pid ≡ Some p
    → Outlasts pid p (after s (record { actor = actor; act = it })).system
unfolding IsLegalEntry after
others-in n s k pid (Controller by) (act.Call c r) p lawful sole legal elsewhere other before =
    let a : Answer = record { state = legal.1.0; reply = r } in
    let answer : answer_to s by c ≡ Some a = legal.1.1 in
    rw answer (others-call s k pid by c a p lawful sole (λ same. other (ap (λ m. Controller m) same)) answer before)
others-in n s k pid (Lwp acting id) (act.Turn turned) p lawful sole legal elsewhere other before =
    let t : LwpTurn = record { system = legal.0; turned = turned } in
    let taken : turn_of s.system acting id ≡ Some t = legal.1 in
    let apart : acting ≢ pid = λ same. elsewhere id (ap (λ m. Lwp m id) same) in
    rw taken (others-turn s.system pid acting id t p lawful.system before apart taken)
others-in n s k pid Clock (act.Tick moment) p lawful sole legal elsewhere other before =
    lives p (ticked-live s pid ∙ before) (undisturbed-self p)
others-in n s k pid _ _ p lawful sole legal elsewhere other before = absurd legal

pub others-entry : (n : ℕ) (s : TracedState) (k pid : ℕ) (e : Entry) (p : TracedProcess) → IsLawful s
    → HasNoOtherWriter k pid s.opens → IsLegalEntry n s e → ((id : ℕ) → e.actor ≢ Lwp pid id)
    → e.actor ≢ Controller k → live_process s.system pid ≡ Some p → Outlasts pid p (after s e).system
others-entry n s k pid e p lawful sole legal elsewhere other before =
    others-in n s k pid e.actor e.act p lawful sole legal elsewhere other before
