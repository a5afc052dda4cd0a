use Rattle.std.proofs.Common.{◌≡◌, ◌++◌, ℕ, Bool, None, Some, Option, List, [], sym, subst, ap, ◌∙◌}
use Rattle.std.proofs.lemmas.List.{append-nil}
use Rattle.pr_line.specs.declared.events.Event.{Event}
use Rattle.pr_report_laws.specs.Shown.{LwpEvent}
pub use Rattle.pr_report_laws.specs.Positions.{IsWhole, Tally, if_in, unread}

-- What is accounted for of a process. The events that are picked of it may be those that truss traces, or those that
-- the options select: what is proved of how many of them came and were told is the same.

-- more came
abbrev pub with_came : Tally → List LwpEvent → Tally
with_came y more = record y { came = y.came ++ more }

-- truss was told an event, or none
abbrev pub told_in : (Event → Bool) → Option LwpEvent → List LwpEvent
told_in picks None = []
told_in picks (Some e) = if_in picks e

abbrev pub with_told : Tally → Option LwpEvent → Tally
with_told y e = record y { told = y.told ++ told_in y.picks e }

pub told-nothing : (y : Tally) → with_told y None ≡ y
told-nothing y = ap (λ (xs : List LwpEvent). record y { told = xs }) (append-nil y.told)

pub came-nothing : (y : Tally) → with_came y [] ≡ y
came-nothing y = ap (λ (xs : List LwpEvent). record y { came = xs }) (append-nil y.came)

-- truss was told all that came, where it is told nothing more now
pub whole-still : (y : Tally) (e : Option LwpEvent) → e ≡ None → IsWhole y → IsWhole (with_told y e)
whole-still y e none whole =
    subst IsWhole (sym (ap (with_told y) none ∙ told-nothing y)) whole

-- and where it is told the event that was missing
pub whole-told : (y : Tally) (e : Option LwpEvent) (id : ℕ) (event : Event)
    → e ≡ Some (record { id = id; event = event }) → y.came ≡ y.told ++ unread y id event → IsWhole (with_told y e)
whole-told y e id event is missing = missing ∙ ap (λ (x : Option LwpEvent). (with_told y x).told) (sym is)
