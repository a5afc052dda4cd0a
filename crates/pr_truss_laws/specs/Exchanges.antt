use Rattle.std.specs.Prelude.{◌≡◌, ◌==◌, ℕ, List, [], ◌∷◌, ◌++◌, Option, Some, None, map, if◌then◌else◌}
use Rattle.std.specs.List.{cons_option, filter_map}
use Rattle.pr_line.specs.declared.options.Options.{Options}
use Rattle.pr_model.specs.Replies.{handle_in}
use Rattle.pr_model.specs.declared.calls.Call.{Call}
use Rattle.pr_model.specs.declared.calls.Call.TheVariants as call
use Rattle.pr_model.specs.declared.calls.File.{File}
use Rattle.pr_model.specs.declared.calls.Mode.{Mode}
use Rattle.pr_model.specs.declared.calls.Reply.{Reply}
use Rattle.pr_model.specs.declared.calls.Reply.TheVariants as reply
use Rattle.pr_model.specs.declared.events.Act.{Act}
use Rattle.pr_model.specs.declared.events.Act.TheVariants as act
use Rattle.pr_model.specs.declared.events.Actor.{Actor}
use Rattle.pr_model.specs.declared.events.Actor.TheVariants.{Controller}
use Rattle.pr_model.specs.declared.events.Entry.{Entry}
use Rattle.pr_num.specs.declared.errnos.Errno.{Errno}
use Rattle.pr_truss.specs.Feeding.{fed}
use Rattle.pr_truss.specs.NextCalls.{next_call_of}
use Rattle.pr_truss.specs.Trusses.{TrussState, first_truss}

-- What a controller asks of the kernel, and what it is told: its calls with their replies, in order.

pub record Exchange : Type 0 where
  pub call : Call
  pub reply : Reply

-- ---- in a history

-- the exchange of an entry, where this controller made it
abbrev pub exchange_in : ℕ → Actor → Act → Option Exchange
exchange_in k (Controller by) (act.Call c r) = if by == k then Some (record { call = c; reply = r }) else None
exchange_in k _ _ = None

abbrev pub exchange_of : ℕ → Entry → Option Exchange
exchange_of k e = exchange_in k e.actor e.act

-- the exchanges of a controller in a history
unfoldable pub exchanges : ℕ → List Entry → List Exchange
exchanges k h = filter_map (exchange_of k) h

-- ---- of truss

-- truss after these exchanges
abbrev pub truss_after : TrussState → List Exchange → TrussState
truss_after s [] = s
truss_after s (x ∷ xs) = truss_after (fed s x.reply) xs

-- the truss of a number after a history, where it began with these options
abbrev pub truss_at : ℕ → Options → List Entry → TrussState
truss_at k o h = truss_after (first_truss o) (exchanges k h)

-- whether each call is the one that truss makes next
abbrev pub Makes : TrussState → List Exchange → Type 0
Makes s [] = Unit {0}
Makes s (x ∷ xs) = (next_call_of s ≡ Some x.call) × Makes (fed s x.reply) xs

-- the exchanges by which a truss came to its end: it has no next call then
pub record Ends (s : TrussState) (xs : List Exchange) : Type 0 where
  pub makes : Makes s xs
  pub finished : next_call_of (truss_after s xs) ≡ None

-- ---- replies

-- the errno of a call that was refused
abbrev pub errno_in : Reply → Option Errno
errno_in (reply.Fail errno) = Some errno
errno_in _ = None

pub record IsGranted (x : Exchange) : Type 0 where
  pub not_refused : errno_in x.reply ≡ None

-- ---- opening

-- the handle that an open gave
abbrev pub opened_by : Call → Reply → Option ℕ
opened_by (call.Open pid id file mode) r = Some (handle_in r)
opened_by _ r = None

-- the handles that these exchanges opened, the last one first, and then these
abbrev pub with_opened_by : List ℕ → List Exchange → List ℕ
with_opened_by handles [] = handles
with_opened_by handles (x ∷ xs) = with_opened_by (cons_option (opened_by x.call x.reply) handles) xs

-- ---- closing

abbrev pub calls_in : List Exchange → List Call
calls_in xs = map (λ (x : Exchange). x.call) xs

-- a call among them closes this handle
pub record Closes (handle : ℕ) (xs : List Exchange) : Type 0 where
  pub before : List Exchange
  pub reply : Reply
  pub after : List Exchange
  pub is : xs ≡ before ++ record { call = call.Close handle; reply = reply } ∷ after

-- Each handle that an open gave is closed later.
pub record ClosesAll (xs : List Exchange) : Type 0 where
  pub each : (before after : List Exchange) (pid id handle : ℕ) (file : File) (mode : Mode)
      → xs ≡ before ++ record { call = call.Open pid id file mode; reply = reply.Handle handle } ∷ after
      → Closes handle after
