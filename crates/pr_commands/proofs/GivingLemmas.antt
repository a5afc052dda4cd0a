-- How an answer is given, from what came of writing its text.
use Rattle.std.proofs.Common.{◌≡◌, inl, inr, ⊎_elim, ℕ, List, Option, Result, Ok, Err, refl, sym, ◌∙◌, subst}
use Rattle.pr_model.specs.declared.events.Entry.{Entry}
use Rattle.pr_output.specs.Puts.{Puts}
use Rattle.pr_output.specs.declared.cuts.Cut.{Cut}
use Rattle.pr_output.specs.declared.cuts.Cut.TheVariants as cut
use Rattle.pr_world.specs.declared.ends.End.{End}
use Rattle.pr_world.specs.declared.ends.End.TheVariants as end
use Rattle.pr_commands.specs.Answers.{Answer, end_status}
use Rattle.pr_commands.specs.Giving.{Responds, StopsEarly, status_after}
use Rattle.pr_commands.specs.Statuses.{IsWhole}
use Rattle.pr_commands.specs.declared.outcomes.Status.{Status}
use Rattle.pr_commands.specs.declared.outcomes.Status.TheVariants.{Done, Usage, Refused, WriteFailed, OutOfMemory}

-- the statuses of runs, and of inputs that are refused, tell of no failure
pub whole-end : (e : End) → IsWhole (end_status e)
unfolding end_status
whole-end end.Quiet = record { read = λ is. cc; wrote = λ is. cc; had_memory = λ is. cc }
whole-end end.Spent = record { read = λ is. cc; wrote = λ is. cc; had_memory = λ is. cc }
whole-end end.Stuck = record { read = λ is. cc; wrote = λ is. cc; had_memory = λ is. cc }

pub whole-refused : IsWhole Refused
whole-refused = record { read = λ is. cc; wrote = λ is. cc; had_memory = λ is. cc }

other-cut : {P : Type 0} (status : Status) → status ≡ WriteFailed → status ≡ OutOfMemory → P
other-cut status a b = let no : ⊥ = cc in absurd no

-- The text of an answer was put into a sink, and the status is that after it.
pub gives : (w : Result Unit Cut) (answer : Answer) (status : Status) (h : List Entry) (old new : Option (List ℕ))
    (before after : ℕ) → IsWhole answer.status → h ≡ answer.history → status ≡ status_after w answer.status
    → Puts w old new before after answer.text → Responds answer ⊥ status h old new before after
unfolding status_after
gives (Ok done) answer status h old new before after end same is put = record {
  whole = λ a b. record { status_is = is; history_is = same; written = put.all };
  cut = λ s. absurd (end.wrote (sym is ∙ s));
  rose = λ s. absurd (end.wrote (sym is ∙ s));
  memory = λ s. absurd (end.had_memory (sym is ∙ s));
  no_fault = λ s. put.no_fault (λ e. cc);
  read = λ s. end.read (sym is ∙ s);
}
gives (Err cut.WriteFailed) answer status h old new before after end same is put = record {
  whole = λ a b. absurd (a is);
  cut = λ s. record { history_is = same; written = put.failed refl };
  rose = λ s. put.rose refl;
  memory = λ s. other-cut status is s;
  no_fault = λ s. absurd (s is);
  read = λ s. cc;
}
gives (Err cut.NoMemory) answer status h old new before after end same is put = record {
  whole = λ a b. absurd (b is);
  cut = λ s. other-cut status s is;
  rose = λ s. other-cut status s is;
  memory = λ s. inr (record { history_is = same; written = put.memory refl });
  no_fault = λ s. put.no_fault (λ e. cc);
  read = λ s. cc;
}

-- Memory ran out before there was an answer.
pub gives-early : (answer : Answer) (early : Type 0) (status : Status) (h : List Entry) (old new : Option (List ℕ))
    (before after : ℕ) → StopsEarly early status before after → Responds answer early status h old new before after
gives-early answer early status h old new before after stops =
    let is : status ≡ OutOfMemory = stops.status_is in
    record {
      whole = λ a b. absurd (b is);
      cut = λ s. other-cut status s is;
      rose = λ s. other-cut status s is;
      memory = λ s. inl stops.left;
      no_fault = λ s. stops.no_fault;
      read = λ s. cc;
    }

-- Memory ran out before the text was begun.
pub gives-nothing : (answer : Answer) (early : Type 0) (status : Status) (h : List Entry) (known : Option (List ℕ))
    (faults : ℕ) → status ≡ OutOfMemory → early → Responds answer early status h known known faults faults
gives-nothing answer early status h known faults is e =
    gives-early answer early status h known known faults faults (record { status_is = is; left = e; no_fault = refl })

-- The same answer, of which something else is said where memory ran out early.
pub gives-else : (a b : Answer) (early other : Type 0) (status : Status) (h : List Entry) (old new : Option (List ℕ))
    (before after : ℕ) → a ≡ b → (early → other) → Responds a early status h old new before after
    → Responds b other status h old new before after
gives-else a b early other status h old new before after same f r =
    subst (λ (x : Answer). Responds x other status h old new before after) same (record {
      whole = r.whole;
      cut = r.cut;
      rose = r.rose;
      memory = λ s. ⊎_elim (λ e. inl (f e)) (λ late. inr late) (r.memory s);
      no_fault = r.no_fault;
      read = r.read;
    })

pub whole-usage : IsWhole Usage
whole-usage = record { read = λ is. cc; wrote = λ is. cc; had_memory = λ is. cc }

pub whole-done : IsWhole Done
whole-done = record { read = λ is. cc; wrote = λ is. cc; had_memory = λ is. cc }

-- what was put, said of an equal text
pub puts-same : (w : Result Unit Cut) (old new : Option (List ℕ)) (before after : ℕ) (a b : List ℕ) → a ≡ b
    → Puts w old new before after a → Puts w old new before after b
puts-same w old new before after a b same put = subst (λ (x : List ℕ). Puts w old new before after x) same put
