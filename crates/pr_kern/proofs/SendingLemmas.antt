use Rattle.std.proofs.Common.{◌≡◌, ℕ, None, refl, sym}
use Rattle.pr_num.specs.Infos.{killed_by}
use Rattle.pr_num.specs.declared.infos.Info.{Info}
use Rattle.pr_num.specs.declared.signals.Sig.{Sig}
use Rattle.pr_model.specs.Calls.{Answer, kill_answer}
use Rattle.pr_model.specs.Machines.{traced}
use Rattle.pr_model.specs.Readers.{life_of}
use Rattle.pr_model.specs.SignalCalls.{sends, sending, with_sent}
use Rattle.pr_model.specs.Signals.{generated}
use Rattle.pr_model.specs.State.{TracedState, TracedSystem}
use Rattle.pr_model.specs.declared.calls.Reply.TheVariants.{Done}

-- A signal that is sent from outside.

pub kill-sent : (s : TracedState) (pid id number : ℕ) (g : Sig) (info : Info) (system : TracedSystem)
    → info ≡ killed_by 0 → system ≡ generated traced id None g info s.system
    → sends g ≡ sending pid number (life_of s.system pid) → id ≡ pid
    → (let a : Answer = record { state = record s { system = system }; reply = Done } in a) ≡ kill_answer s pid number
unfolding kill_answer with_sent
kill-sent s pid id number g info system told made is named = rw (made, told, named, sym is) refl
