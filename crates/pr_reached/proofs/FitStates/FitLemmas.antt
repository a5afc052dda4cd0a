use Rattle.std.proofs.Common.{◌≡◌, ◌-◌, ◌&&◌, ℕ, zero, suc, true, false, not, eqb, get_or, set, is_some, Option, Some, None, List, [], ◌∷◌, refl, sym, subst, ◌∙◌, ap, get_or-set_other}
use Rattle.std.specs.List.{All}
use Rattle.std.proofs.lemmas.Bool.{eqb-false}
use Rattle.std.proofs.lemmas.Option.{none-some}
use Rattle.pr_num.proofs.ByIdLaws.{All-under, All-change_under, All-map_each, All-inserted, All-without_id}
use Rattle.pr_num.specs.ById.{inserted, map_each}
use Rattle.pr_num.specs.Faults.{fault_signal}
use Rattle.pr_num.specs.Sets.{has_number}
use Rattle.pr_num.specs.Signals.{signal_number}
use Rattle.pr_num.specs.declared.faults.Flt.{Flt}
use Rattle.pr_num.specs.declared.faults.Flt.TheVariants as fault
use Rattle.pr_num.specs.declared.infos.Info.{Info}
use Rattle.pr_num.specs.declared.signals.Sig.{Sig}
use Rattle.pr_num.specs.declared.signals.Sig.TheVariants.{Kill}
use Rattle.pr_num.specs.declared.syscalls.Sysno.{Sysno}
use Rattle.pr_parts.specs.PendingSignals.{Pending, is_standard, nothing_pending, with_standard, with_queued, added, without_one, without_signals}
use Rattle.pr_parts.proofs.PendingLemmas.{info_of-standard, pending-signal, is_some-info_of_without_signals}
use Rattle.pr_lawful.proofs.ProcessParts.FileLemmas.{choice}
use Rattle.pr_model.specs.Lives.{with_made, with_reaped}
use Rattle.pr_model.specs.Signals.{is_kill}
use Rattle.pr_model.specs.State.{TracedLwp, TracedProcess, TracedSystem, lwp_of, process_of, with_lwp, with_process}
use Rattle.pr_model.specs.Stops.{directed, has_event_stop, with_all_directed}
use Rattle.pr_model.specs.declared.events.Res.{Res}
use Rattle.pr_model.specs.declared.lwps.Phase.TheVariants.{Exiting}
use Rattle.pr_model.specs.declared.stops.Stop.TheVariants.{Requested, SysExit}
use Rattle.pr_reached.specs.Fits.{SparesKill, IsFitLwp, IsFitProcess, IsFitSystem}

-- Pending signals without SIGKILL, and changes of lwps, of processes and of systems that leave them fit.

-- ---- pending signals: SIGKILL has place 8, and does not pend where that is free

no-info : (o : Option Info) → is_some o ≡ false → o ≡ None
no-info None is = refl
no-info (Some info) is = cc

place-free : (p : Pending) → SparesKill p → get_or p.standard 8 None ≡ None
unfolding signal_number
place-free p h = no-info _ (ap is_some (sym (info_of-standard Kill p refl)) ∙ sym (pending-signal p Kill) ∙ h.none)

free-spares : (p : Pending) → get_or p.standard 8 None ≡ None → SparesKill p
unfolding signal_number
free-spares p free = record { none = pending-signal p Kill ∙ ap is_some (info_of-standard Kill p refl ∙ free) }

other-place : (g : Sig) → is_kill g ≡ false → eqb 8 (signal_number g - 1) ≡ false
unfolding signal_number
other-place Kill other = cc
other-place _ other = refl

pub nothing-spares : SparesKill nothing_pending
nothing-spares = free-spares nothing_pending refl

pub added-spares : (g : Sig) (info : Info) (p : Pending) → is_kill g ≡ false → SparesKill p
    → SparesKill (added g info p)
unfolding added
added-spares g info p other h =
    choice SparesKill (is_standard g) (with_standard (signal_number g - 1) info p) (with_queued g info p)
    (λ standard. free-spares _
    (get_or-set_other p.standard (signal_number g - 1) 8 _ None (eqb-false 8 _ (other-place g other))
    ∙ place-free p h))
    (λ queues. free-spares _ (place-free p h))

emptied : (os : List (Option Info)) (i j : ℕ) → get_or os j None ≡ None → get_or (set os i None) j None ≡ None
emptied [] i j free = refl
emptied (o ∷ os) zero zero free = refl
emptied (o ∷ os) zero (suc j) free = free
emptied (o ∷ os) (suc i) zero free = free
emptied (o ∷ os) (suc i) (suc j) free = emptied os i j free

pub taken-spares : (g : Sig) (p : Pending) → SparesKill p → SparesKill (without_one g p)
unfolding without_one
taken-spares g p h =
    choice SparesKill (is_standard g) _ _
    (λ standard. free-spares _ (emptied p.standard (signal_number g - 1) 8 (place-free p h)))
    (λ queues. free-spares _ (place-free p h))

pub deleted-spares : (signals : ℕ) (p : Pending) → SparesKill p → SparesKill (without_signals signals p)
deleted-spares signals p h = record {
  none =
      pending-signal (without_signals signals p) Kill ∙ is_some-info_of_without_signals signals Kill p
      ∙ ap (λ b. b && not (has_number signals (signal_number Kill))) (sym (pending-signal p Kill) ∙ h.none);
}

-- no fault sends SIGKILL
pub fault-spares : (f : Flt) → is_kill (fault_signal f) ≡ false
unfolding fault_signal
fault-spares fault.Ill = refl
fault-spares _ = refl

-- ---- lwps

abbrev pub LwpFits : ℕ × TracedLwp → Type 0
LwpFits e = IsFitLwp e.1

-- an lwp that stands on no event, one that stopped as requested, and one at the exit of a call
pub stopless-fits : (l : TracedLwp) → l.control.stop ≡ None → SparesKill l.pending → IsFitLwp l
stopless-fits l none spares = record {
  entry = λ call is. absurd (none-some _ (sym none ∙ is));
  exit = λ call is. absurd (none-some _ (sym none ∙ is));
  pending = spares;
}

pub requested-fits : (l : TracedLwp) → l.control.stop ≡ Some Requested → SparesKill l.pending → IsFitLwp l
requested-fits l requested spares = record { entry = λ call is. cc; exit = λ call is. absurd (cc); pending = spares }

pub exiting-fits : (l : TracedLwp) (call : Sysno) (args : List ℕ) (result : Res) → l.control.stop ≡ Some (SysExit call)
    → l.phase ≡ Exiting call args result → SparesKill l.pending → IsFitLwp l
exiting-fits l call args result stop phase spares = record {
  entry = λ other is. cc;
  exit = λ other is. (args, (result, cc));
  pending = spares;
}

-- a change of an lwp that leaves it fit
abbrev pub KeepsFit : (TracedLwp → TracedLwp) → Type 0
KeepsFit f = (l : TracedLwp) → IsFitLwp l → IsFitLwp (f l)

-- it leaves the stop and the phase
pub same_place : (f : TracedLwp → TracedLwp) → ((l : TracedLwp) → (f l).control.stop ≡ l.control.stop)
    → ((l : TracedLwp) → (f l).phase ≡ l.phase) → ((l : TracedLwp) → SparesKill l.pending → SparesKill (f l).pending)
    → KeepsFit f
same_place f stop phase pending l h = record {
  entry = λ call is. phase l ∙ h.entry call (sym (stop l) ∙ is);
  exit = λ call is. let was = h.exit call (sym (stop l) ∙ is) in (was.0, (was.1.0, phase l ∙ was.1.1));
  pending = pending l h.pending;
}

-- it is directed to stop, unless it stands on an event
pub directed-keeps : KeepsFit directed
unfolding directed
directed-keeps l h =
    choice IsFitLwp (has_event_stop l) _ _ (λ stands. h)
    (λ runs. same_place (λ m. record m { control = record m.control { directed = true } }) (λ m. refl) (λ m. refl)
    (λ m it. it) l h)

-- ---- processes

abbrev pub KeepsProcess : (TracedProcess → TracedProcess) → Type 0
KeepsProcess f = (x : TracedProcess) → IsFitProcess x → IsFitProcess (f x)

pub lwp-fits : (p : TracedProcess) (id : ℕ) (l : TracedLwp) → IsFitProcess p → lwp_of p id ≡ Some l → IsFitLwp l
lwp-fits p id l h there = All-under LwpFits id l p.lwps h.lwps there

-- the lwp of an id is changed, and every lwp is
pub keeps-at : (id : ℕ) (f : TracedLwp → TracedLwp) (x : TracedProcess)
    → ((l : TracedLwp) → lwp_of x id ≡ Some l → IsFitLwp l → IsFitLwp (f l)) → IsFitProcess x
    → IsFitProcess (with_lwp id f x)
unfolding with_lwp
keeps-at id f x keeps h = record { lwps = All-change_under LwpFits id f x.lwps keeps h.lwps; pending = h.pending }

pub keeps-one : (id : ℕ) (f : TracedLwp → TracedLwp) → KeepsFit f → KeepsProcess (with_lwp id f)
keeps-one id f keeps x h = keeps-at id f x (λ l there it. keeps l it) h

pub keeps-each : (f : TracedLwp → TracedLwp) → KeepsFit f → KeepsProcess (λ x. record x { lwps = map_each f x.lwps })
keeps-each f keeps x h = record {
  lwps = All-map_each LwpFits LwpFits f (λ e it. keeps e.1 it) x.lwps h.lwps;
  pending = h.pending;
}

pub all_directed-keeps : KeepsProcess with_all_directed
unfolding with_all_directed
all_directed-keeps x h = keeps-each directed directed-keeps x h

-- an lwp joins
pub keeps-more : (id : ℕ) (l : TracedLwp) (x y : TracedProcess) → IsFitLwp l → y.lwps ≡ inserted id l x.lwps
    → y.pending ≡ x.pending → IsFitProcess x → IsFitProcess y
keeps-more id l x y new lwps pending h = record {
  lwps = subst (All LwpFits) (sym lwps) (All-inserted LwpFits id l x.lwps new h.lwps);
  pending = subst SparesKill (sym pending) h.pending;
}

-- ---- systems

abbrev pub ProcessFits : ℕ × TracedProcess → Type 0
ProcessFits e = IsFitProcess e.1

pub process-fits : (s : TracedSystem) (pid : ℕ) (p : TracedProcess) → IsFitSystem s → process_of s pid ≡ Some p
    → IsFitProcess p
process-fits s pid p h found = All-under ProcessFits pid p s.processes h.processes found

-- a process is changed in its place
pub changed-at : (s : TracedSystem) (pid : ℕ) (f : TracedProcess → TracedProcess)
    → ((x : TracedProcess) → process_of s pid ≡ Some x → IsFitProcess x → IsFitProcess (f x)) → IsFitSystem s
    → IsFitSystem (with_process pid f s)
unfolding with_process
changed-at s pid f keeps h = record { processes = All-change_under ProcessFits pid f s.processes keeps h.processes }

pub changed-one : (s : TracedSystem) (pid : ℕ) (f : TracedProcess → TracedProcess) → KeepsProcess f → IsFitSystem s
    → IsFitSystem (with_process pid f s)
changed-one s pid f keeps h = changed-at s pid f (λ x there it. keeps x it) h

-- every process is changed
pub changed-each : (es : List (ℕ × TracedProcess)) (f : TracedProcess → TracedProcess) → KeepsProcess f
    → All ProcessFits es → All ProcessFits (map_each f es)
changed-each es f keeps h = All-map_each ProcessFits ProcessFits f (λ e it. keeps e.1 it) es h

-- one is made, and one is reaped
pub made-fits : (s : TracedSystem) (p : TracedProcess) → IsFitProcess p → IsFitSystem s → IsFitSystem (with_made p s)
unfolding with_made
made-fits s p new h = record { processes = All-inserted ProcessFits s.made p s.processes new h.processes }

pub reaped-fits : (s : TracedSystem) (child : ℕ) → IsFitSystem s → IsFitSystem (with_reaped child s)
unfolding with_reaped
reaped-fits s child h = record { processes = All-without_id ProcessFits child s.processes h.processes }
