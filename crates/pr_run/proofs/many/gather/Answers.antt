use Rattle.std.proofs.Common.{◌≡◌, ◌++◌, ◌∙◌, ◌||◌, Bool, List, ℕ, sym, ap, flat_map, length, arith, append_assoc}
use Rattle.std.proofs.lemmas.List.Elements.{All-head, All-rest, All-same}
use Rattle.std.specs.List.{list_any}
use Rattle.pr_lock.specs.Seats.{IsOutside, own_of, saw_over, shares_of}
use Rattle.pr_run.proofs.ManyLemmas.{or-of}
use Rattle.pr_run.specs.declared.duties.Duty.{Duty}
use Rattle.pr_run.specs.declared.shared_worlds.LoggedEntry.{LoggedEntry}
use Rattle.pr_run.proofs.many.gather.Goals as goal

pub loop-duty-preserved : goal.loop-duty-preserved
loop-duty-preserved g c =
    let so_far = c.loop-duty.invariant in
    let next = c.in-Some.ensures.steps.0 in
    let duty = c.in-Some.duty in
    let left = c.next.new.self.rest.items in
    let P : Duty _ LoggedEntry → Type 0 = λ duty. IsOutside duty.seat c.args.lock.now × (shares_of duty.seat ≡ 1) in
    let one = All-head P duty left (All-same P _ _ (sym next) so_far.rest) in
    let own = c.join.ensures.own in
    record {
      can = tt;
      finite = tt;
      seat = c.join.ensures.lock;
      rest = All-rest P duty left _ next so_far.rest;
      shares = omega (arith, c.join.ensures.shares, one.1, ap length next, so_far.shares);
      own = ap (λ (o : List (ℕ × LoggedEntry)). o ++ flat_map (λ duty. own_of duty.seat) left) own
          ∙ (append_assoc (own_of c.loop-duty.seat) (own_of duty.seat) (flat_map (λ duty. own_of duty.seat) left)
          ∙ (ap (λ (l : List (Duty _ LoggedEntry)). own_of c.loop-duty.seat ++ flat_map (λ duty. own_of duty.seat) l)
          (sym next) ∙ so_far.own));
      over = ap
          (λ (b : Bool). b || list_any (λ (duty : Duty _ LoggedEntry). saw_over duty.seat) left) c.join.ensures.over
          ∙ (or-of (saw_over c.loop-duty.seat) (saw_over duty.seat)
          (list_any (λ (duty : Duty _ LoggedEntry). saw_over duty.seat) left)
          ∙ (ap (λ (l : List (Duty _ LoggedEntry)). saw_over c.loop-duty.seat
          || list_any (λ duty. saw_over duty.seat) l) (sym next) ∙ so_far.over));
    }
