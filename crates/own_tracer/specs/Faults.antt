use Rattle.std.specs.Prelude.{◌≡◌, ◌-◌, ◌==◌, ◌++◌, ℕ, Bool, true, false, List, [], ◌∷◌, Some, if◌then◌else◌}
use Rattle.pr_api.specs.Entries.{call_entry}
use Rattle.pr_model.specs.declared.calls.Call.TheVariants.{Poll}
use Rattle.pr_model.specs.declared.calls.Reply.{Reply}
use Rattle.pr_model.specs.declared.events.Entry.{Entry}
use Rattle.own_tracer.specs.Calls.{was_taken}
use Rattle.own_tracer.specs.Orders.{order_call}
use Rattle.own_tracer.specs.declared.faults.Faults.{Faults}
use Rattle.own_tracer.specs.declared.orders.Order.{Order}
use Rattle.own_tracer.specs.declared.orders.Order.TheVariants.{Run, Abort}

-- Which writes fail.

-- one write of so many fails, until so many have failed
abbrev pub every_nth : ℕ → ℕ → Faults
every_nth every left = record { every = every; passing = every - 1; left = left }

-- what is done with the process at the entry of a write
abbrev pub order_of : Faults → Order
order_of f = if f.passing == 0 then Abort else Run

-- what is left after an order: one that was not taken is the last
abbrev pub after_order : Bool → Faults → Faults
after_order false f = record f { left = 0 }
after_order true f =
    if f.passing == 0 then record f { passing = f.every - 1; left = f.left - 1 }
    else record f { passing = f.passing - 1 }

-- The two entries of a move: the wait was over, and the order was written. What is left of the faults follows.
pub record Injected (control : ℕ) (old new : Faults) (before now : List Entry) : Type 0 where
  pub ready : Reply
  pub answer : Reply
  pub history : now
      ≡ before ++ call_entry 0 (Poll (control ∷ [])) ready
      ∷ call_entry 0 (order_call control (order_of old)) answer ∷ []
  pub counted : new ≡ after_order (was_taken (Some answer)) old

-- What a move of the injector did; or nothing, where the process neither stood at the entry of a write nor had ended.
abbrev pub Injects : Bool → ℕ → Faults → Faults → List Entry → List Entry → Type 0
Injects true control old new before now = Injected control old new before now
Injects false control old new before now = (new ≡ old) × (now ≡ before)
