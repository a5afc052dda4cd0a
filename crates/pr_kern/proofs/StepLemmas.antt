use Rattle.std.proofs.Common.{◌≡◌, ℕ, ◌<◌, ◌+◌, Option, Some, None, refl, sym, ap, subst}
use Rattle.std.specs.Option.{option_map}
use Rattle.std.proofs.lemmas.Option.{same_Some}
use Rattle.pr_num.specs.Limits.{clock_limit}
use Rattle.pr_model.specs.Calls.{Answer, answer_to}
use Rattle.pr_model.specs.Legal.{IsLegalEntry, after, after_call as state_after_call, after_turn as state_after_turn}
use Rattle.pr_model.specs.LwpTurns.{LwpTurn, turn_of}
use Rattle.pr_model.specs.declared.calls.Call.{Call}
use Rattle.pr_kern.specs.Kernels.{Kernel, TurnedKernel, after_answer, after_call, after_lwp_turn, after_tick, after_turn, call_entry, tick_entry, turn_entry}
use Rattle.pr_kern.specs.Steps.{Adds}

-- The entries of the kernel's steps are legal.

answered : (n by : ℕ) (c : Call) (k : Kernel) (a : Answer) → by < n → answer_to k.state by c ≡ Some a
    → Adds n k (after_answer by c k a)
unfolding IsLegalEntry after
answered n by c k a here made = record {
  entry = call_entry by c a.reply;
  history = refl;
  legal = (here, (a.state, made));
  state = sym (ap (state_after_call k.state) made);
  places = refl;
}

pub call-adds : (n by : ℕ) (c : Call) (k new : Kernel) → by < n → after_call by c k ≡ Some new → Adds n k new
unfolding after_call
call-adds n by c k new here made = of (answer_to k.state by c) refl made
  where
    of : (o : Option Answer) → answer_to k.state by c ≡ o → option_map (after_answer by c k) o ≡ Some new → Adds n k new
    of None none e = absurd (cc)
    of (Some a) some e = let Q : Kernel → Type 0 = Adds n k in
        subst Q (same_Some _ new e) (answered n by c k a here some)

turned : (n pid id : ℕ) (k : Kernel) (t : LwpTurn) → turn_of k.state.system pid id ≡ Some t
    → Adds n k (after_lwp_turn pid id k t).kernel
unfolding IsLegalEntry after
turned n pid id k t made = record {
  entry = turn_entry pid id t.turned;
  history = refl;
  legal = (t.system, made);
  state = sym (ap (state_after_turn k.state) made);
  places = refl;
}

pub turn-adds : (n pid id : ℕ) (k : Kernel) (new : TurnedKernel) → after_turn pid id k ≡ Some new → Adds n k new.kernel
unfolding after_turn
turn-adds n pid id k new made = of (turn_of k.state.system pid id) refl made
  where
    of : (o : Option LwpTurn) → turn_of k.state.system pid id ≡ o → option_map (after_lwp_turn pid id k) o ≡ Some new
        → Adds n k new.kernel
    of None none e = absurd (cc)
    of (Some t) some e = let Q : TurnedKernel → Type 0 = λ m. Adds n k m.kernel in
        subst Q (same_Some _ new e) (turned n pid id k t some)

pub tick-adds : (n : ℕ) (k : Kernel) → k.state.system.clock < clock_limit → Adds n k (after_tick k)
unfolding IsLegalEntry after after_tick
tick-adds n k early = record {
  entry = tick_entry (k.state.system.clock + 1);
  history = refl;
  legal = (early, refl);
  state = refl;
  places = refl;
}
