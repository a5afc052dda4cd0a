use Rattle.std.proofs.Common.{◌≡◌, ◌<◌, ℕ, Bool, true, false, Option, Some, None, List, [], ◌∷◌, length, refl, sym, ap, ◌∙◌, arith}
use Rattle.std.proofs.lemmas.Bool.{false≢true}
use Rattle.std.proofs.lemmas.List.{get_or_push}
use Rattle.std.specs.List.{slice_get}
use Rattle.pr_line.specs.declared.options.Options.{Options}
use Rattle.pr_model.specs.Replies.{handle_in}
use Rattle.pr_model.specs.declared.calls.Reply.{Reply}
use Rattle.pr_truss.specs.Children.{child_learnt}
use Rattle.pr_truss.specs.Feeding.{fed}
use Rattle.pr_truss.specs.Openings.{learnt}
use Rattle.pr_truss.specs.Processes.{newly_traced}
use Rattle.pr_truss.specs.Trusses.{TrussState, first_of_program, first_truss, idle, nobody, opening_or, traced_at, with_opened, with_traced, without_traced}
use Rattle.pr_truss.specs.declared.processes.Traced.{Traced}
use Rattle.pr_truss.specs.declared.stages.AfterClosing.{AfterClosing}
use Rattle.pr_truss.specs.declared.stages.AfterClosing.TheVariants.{OpenNext, RunParent}
use Rattle.pr_truss.specs.declared.stages.ChildStep.{ChildStep}
use Rattle.pr_truss.specs.declared.stages.ChildStep.TheVariants as child
use Rattle.pr_truss.specs.declared.stages.OpeningStep.{OpeningStep}
use Rattle.pr_truss.specs.declared.stages.OpeningStep.TheVariants as opening
use Rattle.pr_truss.specs.declared.stages.Stage.{Stage}
use Rattle.pr_truss.specs.declared.stages.Stage.TheVariants.{Spawning, OpeningControl, Opening, Polling, ReadingStatus, OpeningChildControl, OpeningChild, Running, Closing}
use Rattle.pr_truss_laws.proofs.Files.ClosesLemmas.{first-fits}
use Rattle.pr_truss_laws.proofs.Replies.FitLemmas.{fed-fits, last-within, reads-within}
use Rattle.pr_truss_laws.proofs.Files.HeldLemmas.{Fits}
use Rattle.pr_truss_laws.proofs.Replies.ReplySteps as step
use Rattle.pr_truss_laws.proofs.Replies.ReplySteps.{Closes, GoesOn, Learns, Looks, Opens, ReplyStep, Returns, Settles, StopOver, Turns, lost-same}
use Rattle.pr_truss_laws.proofs.Replies.FedSteps.{fed-step}
use Rattle.pr_truss_laws.specs.Exchanges.{Exchange, truss_after}
use Rattle.pr_report_laws.proofs.Invariant.StandLemmas.{Each, each-append, each-but, each-remove, each-set}

-- Before truss leaves, it has looked at no stop of a process that it has not run since; and it reads no status once it
-- leaves.

abbrev Unseen : Traced → Type 0
Unseen u = u.seen ≡ false

-- these stages are over once truss leaves
abbrev pub Stays : Bool → Stage → Type 0
Stays leaving (Spawning program) = leaving ≡ false
Stays leaving (OpeningControl pid) = leaving ≡ false
Stays leaving (Opening place _) = leaving ≡ false
Stays leaving Polling = leaving ≡ false
Stays leaving (ReadingStatus place) = leaving ≡ false
Stays leaving (OpeningChildControl parent pid) = leaving ≡ false
Stays leaving (OpeningChild parent place _) = leaving ≡ false
Stays leaving (Running place) = leaving ≡ false
Stays leaving (Closing place OpenNext) = leaving ≡ false
Stays leaving (Closing place (RunParent parent)) = leaving ≡ false
Stays leaving _ = Unit {0}

-- no process is seen before truss leaves
abbrev pub NoneSeen : TrussState → Type 0
NoneSeen s = s.leaving ≡ false → Each Unseen s.traced

pub record IsFresh (s : TrussState) : Type 0 where
  pub stays : Stays s.leaving s.stage
  pub unseen : NoneSeen s

-- ---- what comes next

on-fresh : (u v : TrussState) (given : Bool) → (given ≡ true → u.leaving ≡ false) → NoneSeen u → GoesOn u given v
    → IsFresh v
on-fresh u v given stays n (step.polls off _) = record { stays = off; unseen = n }
on-fresh u v given stays n (step.opens_next _) = record { stays = stays refl; unseen = n }
on-fresh u v given stays n _ = record { stays = tt; unseen = n }

over-fresh : (u v : TrussState) (place : ℕ) (pid : Option ℕ) → NoneSeen u → StopOver u place pid v → IsFresh v
over-fresh u v place pid n (step.runs off) = record { stays = off; unseen = n }
over-fresh u v place pid n (step.opens_child off) = record { stays = off; unseen = n }
over-fresh u v place pid n _ = record { stays = tt; unseen = n }

-- ---- any reply

never : {A : Type 0} → false ≡ true → A
never is = absurd (false≢true is)

learnt-unseen : (u : Traced) (r : Reply) (now : OpeningStep) → (learnt u r now).seen ≡ u.seen
unfolding learnt
learnt-unseen u r opening.OpenStatus = refl
learnt-unseen u r _ = refl

child-unseen : (u : Traced) (r : Reply) (now : ChildStep) → (child_learnt u r now).seen ≡ u.seen
unfolding child_learnt
child-unseen u r child.OpenMemory = refl
child-unseen u r _ = refl

module _ (s : TrussState) (r : Reply) (n : NoneSeen s) where
  set-unseen : (place : ℕ) (u : Traced) → place < length s.traced → u.seen ≡ (traced_at s place).seen
      → NoneSeen (with_traced s place u)
  set-unseen place u within same off =
      each-set Unseen s.traced place u within (each-but Unseen s.traced place (n off)) (same ∙ n off place within)

  push-unseen : (pid control : ℕ) → NoneSeen (with_opened s (newly_traced pid control))
  unfolding newly_traced
  push-unseen pid control off =
      let u = newly_traced pid control in
      each-append Unseen s.traced u (n off)
      (ap (λ (v : Traced). v.seen) (get_or_push s.traced u nobody (length s.traced) refl))

  removed-unseen : (place : ℕ) → place < length s.traced → NoneSeen (without_traced s place)
  removed-unseen place within off = each-remove Unseen s.traced place within (each-but Unseen s.traced place (n off))

  abbrev Fit : Stage → Type 0
  Fit stage = Fits s.traced stage

  settles-unseen : (stage : Stage) (given : Bool) (u : TrussState) → Fit stage → Settles s r stage given u → NoneSeen u
  settles-unseen stage given u f (step.refuses_start _ _) = n
  settles-unseen stage given u f (step.refuses_control _ _) = n
  settles-unseen stage given u f (step.ends_opening {place = place} {now = now} _ _) =
      set-unseen place (learnt (traced_at s place) r now) f.0 (learnt-unseen (traced_at s place) r now)
  settles-unseen stage given u f step.ran = n
  settles-unseen stage given u f (step.closed_next {place = place} _) = removed-unseen place f.0
  settles-unseen stage given u f (step.closed {place = place} _) = removed-unseen place f.0
  settles-unseen stage given u f _ = λ off. never (sym off)

  settles-stays : (stage : Stage) (given : Bool) (u : TrussState) → Stays s.leaving stage → Settles s r stage given u
      → given ≡ true → u.leaving ≡ false
  settles-stays stage given u off (step.refuses_control _ _) is = off
  settles-stays stage given u off (step.ends_opening _ _) is = off
  settles-stays stage given u off (step.closed_next _) is = off
  settles-stays stage given u off _ is = never is

  looks-unseen : (stage : Stage) (place : ℕ) (pid : Option ℕ) (u : TrussState) → Fit stage
      → Looks s r stage place pid u → NoneSeen u
  looks-unseen stage place pid u f (step.passes_old reads _ _) =
      set-unseen place _ (reads-within s r stage place _ f reads) refl
  looks-unseen stage place pid u f _ = n

  closes-fresh : (stage : Stage) (place : ℕ) (next : AfterClosing) (u : TrussState) → Stays s.leaving stage
      → Closes s r stage place next u
      → Stays u.leaving (Closing place next) × NoneSeen u
  closes-fresh stage place next u off (step.refuses_opening _ _) = (off, n)
  closes-fresh stage place next u off (step.refuses_child _ _) = (off, n)
  closes-fresh stage place next u off (step.child_ended _) = (off, n)
  closes-fresh stage place next u off _ = (tt, n)

  step-fresh : (stage : Stage) (v : TrussState) → Fit stage → Stays s.leaving stage → ReplyStep s r stage v → IsFresh v
  step-fresh stage v f off (step.settles w on) =
      on-fresh _ v _ (settles-stays stage _ _ off w) (settles-unseen stage _ _ f w) on
  step-fresh stage v f off (step.looks w over) = over-fresh _ v _ _ (looks-unseen stage _ _ _ f w) over
  step-fresh stage v f off (step.asks _ _ _ _) = record { stays = tt; unseen = n }
  step-fresh stage v f off (step.closes w) =
      let c = closes-fresh stage _ _ _ off w in
      record { stays = c.0; unseen = c.1 }
  step-fresh stage v f off (step.loses {place = place} {t = t} is) =
      let same = lost-same (traced_at s place) t is in record { stays = off; unseen = set-unseen place t f.0 same.seen }
  step-fresh stage v f off (step.opens _ (step.new_given {pid = pid})) =
      record { stays = off; unseen = push-unseen pid (handle_in r) }
  step-fresh stage v f off (step.opens _ (step.new_child {pid = pid})) =
      record { stays = off; unseen = push-unseen pid (handle_in r) }
  step-fresh stage v f off (step.learns _ (step.opening_goes {place = place} {now = now} _)) =
      record { stays = off; unseen = set-unseen place _ f.0 (learnt-unseen (traced_at s place) r now) }
  step-fresh stage v f off (step.learns _ (step.child_goes {parent = parent} {place = place} {now = now} _)) =
      record {
        stays = off;
        unseen = set-unseen place _ (last-within s.traced parent place f.0)
            (child-unseen (traced_at s place) r now);
      }
  step-fresh stage v f off (step.returns (step.child_closed {place = place} _)) =
      record { stays = off; unseen = removed-unseen place f.0 }
  step-fresh stage v f off (step.returns _) = record { stays = off; unseen = n }
  step-fresh stage v f off (step.turns step.unfollowed) = record { stays = tt; unseen = n }
  step-fresh stage v f off (step.turns step.has_finished) = record { stays = tt; unseen = n }
  step-fresh stage v f off (step.turns (step.frees _)) = record { stays = tt; unseen = n }
  step-fresh stage v f off (step.turns step.frees_on) = record { stays = tt; unseen = n }
  step-fresh stage v f off (step.turns _) = record { stays = off; unseen = n }

-- ---- all exchanges

fed-fresh : (s : TrussState) (r : Reply) → Fits s.traced s.stage → IsFresh s → IsFresh (fed s r)
fed-fresh s r f w = step-fresh s r w.unseen s.stage (fed s r) f w.stays (fed-step s r)

after-fresh : (xs : List Exchange) (s : TrussState) → Fits s.traced s.stage → IsFresh s → IsFresh (truss_after s xs)
after-fresh [] s f w = w
after-fresh (x ∷ xs) s f w = after-fresh xs (fed s x.reply) (fed-fits s x.reply f) (fed-fresh s x.reply f w)

first-fresh : (o : Options) → IsFresh (first_truss o)
unfolding first_truss
first-fresh o = by o.program
  where
    none : Each Unseen []
    none place within = absurd (omega (arith, within))

    pids : (p : Option ℕ) → IsFresh (opening_or (idle o) (idle o) p)
    pids None = record { stays = tt; unseen = λ off. none }
    pids (Some pid) = record { stays = refl; unseen = λ off. none }

    by : (p : Option (List ℕ)) → IsFresh (first_of_program o p)
    by None = pids (slice_get o.pids 0)
    by (Some program) = record { stays = refl; unseen = λ off. none }

pub reached-fresh : (o : Options) (xs : List Exchange) → IsFresh (truss_after (first_truss o) xs)
reached-fresh o xs = after-fresh xs (first_truss o) (first-fits o) (first-fresh o)
