use Rattle.std.proofs.Common.{◌≡◌, ℕ, Option, Some, None, true, IsTrue, IfSome, Err, refl}
use Rattle.pr_num.specs.ById.{under}
use Rattle.pr_num.specs.Infos.{of_broken_pipe}
use Rattle.pr_num.specs.Signals as numbers
use Rattle.pr_num.specs.declared.signals.Sig.TheVariants.{Pipe as SigPipe}
use Rattle.pr_num.specs.declared.errnos.Errno.{Errno}
use Rattle.pr_parts.specs.PendingSignals.{has_room}
use Rattle.pr_parts.specs.declared.files.FileNo.TheVariants.{BadFd, NoFile, NoPlace, TableFull, NoSpace, NotSeekable, BadOffset, NoReader, Sleep, NoMemory}
use Rattle.pr_model.specs.Changes.{all_changed, changed}
use Rattle.pr_model.specs.Generation.{with_deletions}
use Rattle.pr_model.specs.Machines.{traced}
use Rattle.pr_model.specs.Signals.{generated}
use Rattle.pr_model.specs.State.{TracedLwp, TracedProcess, TracedSystem, live_process}
use Rattle.pr_post.specs.Room.{has_room_for, has_room_in, has_room_of}
use Rattle.pr_call.specs.Effects.{after_effect}
use Rattle.pr_call.specs.FileAnswers.{settled}
use Rattle.pr_call.specs.declared.answers.Refusal.TheVariants.{Fails, Files}

-- What comes of calls on files.

-- SIGPIPE does not queue: there is always room
room-under : (o : Option TracedLwp) → has_room_of SigPipe o ≡ true
unfolding has_room numbers.signal_number
room-under None = refl
room-under (Some l) = refl

room-broken : (id : ℕ) (p : TracedProcess) → IsTrue (has_room_for (Some id) SigPipe p)
unfolding has_room_for has_room_in
room-broken id p = room-under (under id p.lwps)

room-of : (id : ℕ) (o : Option TracedProcess)
    → IfSome o (λ p. IsTrue (has_room_for (Some id) SigPipe (with_deletions SigPipe p)))
room-of id None = tt
room-of id (Some p) = room-broken id (with_deletions SigPipe p)

pub room-pipe : (s : TracedSystem) (pid id : ℕ)
    → IfSome (live_process s pid) (λ p. IsTrue (has_room_for (Some id) SigPipe (with_deletions SigPipe p)))
room-pipe s pid id = room-of id (live_process s pid)

module _ (s : TracedSystem) (pid : ℕ) (p : TracedProcess) (id : ℕ) (l : TracedLwp) where
  pub refused-broken : generated traced pid (Some id) SigPipe of_broken_pipe s
      ≡ settled pid p id l (Err (Files NoReader)) s
  unfolding after_effect all_changed changed
  refused-broken = refl

  pub settled-fails : (e : Errno) → s ≡ settled pid p id l (Err (Fails e)) s
  unfolding after_effect all_changed
  settled-fails e = refl

  pub refused-sleep : s ≡ settled pid p id l (Err (Files Sleep)) s
  unfolding after_effect
  refused-sleep = refl

  pub refused-BadFd : s ≡ settled pid p id l (Err (Files BadFd)) s
  unfolding after_effect all_changed
  refused-BadFd = refl

  pub refused-NoFile : s ≡ settled pid p id l (Err (Files NoFile)) s
  unfolding after_effect all_changed
  refused-NoFile = refl

  pub refused-NoPlace : s ≡ settled pid p id l (Err (Files NoPlace)) s
  unfolding after_effect all_changed
  refused-NoPlace = refl

  pub refused-TableFull : s ≡ settled pid p id l (Err (Files TableFull)) s
  unfolding after_effect all_changed
  refused-TableFull = refl

  pub refused-NoSpace : s ≡ settled pid p id l (Err (Files NoSpace)) s
  unfolding after_effect all_changed
  refused-NoSpace = refl

  pub refused-NotSeekable : s ≡ settled pid p id l (Err (Files NotSeekable)) s
  unfolding after_effect all_changed
  refused-NotSeekable = refl

  pub refused-BadOffset : s ≡ settled pid p id l (Err (Files BadOffset)) s
  unfolding after_effect all_changed
  refused-BadOffset = refl

  pub refused-NoMemory : s ≡ settled pid p id l (Err (Files NoMemory)) s
  unfolding after_effect all_changed
  refused-NoMemory = refl

pub ruleset refusing = (
  room-pipe,
  refused-broken,
  refused-sleep,
  refused-BadFd,
  refused-NoFile,
  refused-NoPlace,
  refused-TableFull,
  refused-NoSpace,
  refused-NotSeekable,
  refused-BadOffset,
  refused-NoMemory,
)

pub ruleset settling = (settled-fails)
