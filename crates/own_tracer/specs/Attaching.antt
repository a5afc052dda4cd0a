use Rattle.std.specs.Prelude.{◌≡◌, ◌++◌, ℕ, List, [], ◌∷◌, Option, Some, None}
use Rattle.pr_api.specs.Entries.{call_entry}
use Rattle.pr_model.specs.Replies.{opened_in}
use Rattle.pr_model.specs.declared.calls.Reply.{Reply}
use Rattle.pr_model.specs.declared.events.Entry.{Entry}
use Rattle.own_tracer.specs.Calls.{open_call}
use Rattle.own_tracer.specs.Orders.{order_call}
use Rattle.own_tracer.specs.declared.attaching.Grip.{Grip}
use Rattle.own_tracer.specs.declared.orders.Order.TheVariants.{TraceWrites}

-- How the injector gets hold of a process.

-- it has opened the control file of the process, and then ordered that it stops at writes
pub record GetsHold (pid : ℕ) (g : Grip) (before after : List Entry) : Type 0 where
  pub pid_is : g.pid ≡ pid
  pub opened : Reply
  pub granted : opened_in opened ≡ Some g.control
  pub answer : Reply
  pub history : after
      ≡ before ++ call_entry 0 (open_call pid) opened
      ∷ call_entry 0 (order_call g.control TraceWrites) answer ∷ []

-- it has opened the control file, and that was refused
pub record IsRefused (pid : ℕ) (before after : List Entry) : Type 0 where
  pub reply : Reply
  pub refused : opened_in reply ≡ None
  pub history : after ≡ before ++ call_entry 0 (open_call pid) reply ∷ []

abbrev pub Attaches : Option Grip → ℕ → List Entry → List Entry → Type 0
Attaches None pid before after = IsRefused pid before after
Attaches (Some g) pid before after = GetsHold pid g before after
