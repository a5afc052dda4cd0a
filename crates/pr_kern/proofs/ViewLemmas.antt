use Rattle.std.proofs.Common.{◌≡◌, ℕ, Bool, true, false, Option, Some, None, Result, Ok, Err, OnOk, IfOk, refl, sym, subst}
use Rattle.std.specs.Option.{option_map}
use Rattle.std.proofs.lemmas.Option.{same_Some}
use Rattle.pr_api.proofs.ShapeLemmas.{machine-shaped}
use Rattle.pr_api.specs.Steps.{IsCalled, IsTicked, IsTurned}
use Rattle.pr_api.specs.Views.{KernelView, kernel_of, next_of, turns_after}
use Rattle.pr_model.specs.Calls.{Answer, answer_to}
use Rattle.pr_model.specs.Lawful.{IsLawfulSystem}
use Rattle.pr_model.specs.LwpTurns.{LwpTurn, turn_of}
use Rattle.pr_model.specs.declared.calls.Call.{Call}
use Rattle.pr_model.specs.declared.events.Turned.{Turned}
use Rattle.pr_model.specs.Order.{next_lwp}
use Rattle.pr_kern.specs.Kernels.{Kernel, TurnedKernel, after_answer, after_call, after_lwp_turn, after_tick, after_turn}
use Rattle.pr_kern.specs.Orders.{next_movable, next_of as next_lwp_of}
use Rattle.pr_proc.specs.Orders.{asked_after, next_asked}

-- The steps of the kernel, as every kernel's are seen.

abbrev pub seen : Kernel → KernelView
seen k = kernel_of k.state k.history k.places

answered : (by : ℕ) (c : Call) (k : Kernel) (a : Answer) → IsLawfulSystem k.state.system
    → answer_to k.state by c ≡ Some a → IsCalled by c (seen k) (seen (after_answer by c k a))
unfolding kernel_of
answered by c k a lawful made = record {
  reply = a.reply;
  shaped = machine-shaped k.state by c a lawful made;
  history = refl;
  places = refl;
  machine = (a.state, made, refl);
}

pub kern-called : (by : ℕ) (c : Call) (k new : Kernel) → IsLawfulSystem k.state.system → after_call by c k ≡ Some new
    → IsCalled by c (seen k) (seen new)
unfolding after_call
kern-called by c k new lawful made = of (answer_to k.state by c) refl made
  where
    of : (o : Option Answer) → answer_to k.state by c ≡ o → option_map (after_answer by c k) o ≡ Some new
        → IsCalled by c (seen k) (seen new)
    of None none e = absurd (cc)
    of (Some a) some e = let Q : Kernel → Type 0 = λ n. IsCalled by c (seen k) (seen n) in
        subst Q (same_Some _ new e) (answered by c k a lawful some)

turned : (pid id : ℕ) (k : Kernel) (t : LwpTurn) → turn_of k.state.system pid id ≡ Some t
    → IsTurned pid id t.turned (seen k) (seen (after_lwp_turn pid id k t).kernel)
unfolding kernel_of
turned pid id k t made = record { history = refl; places = refl; machine = (t.system, made, refl) }

turned-as : (pid id : ℕ) (k : Kernel) (new : TurnedKernel) → after_turn pid id k ≡ Some new
    → IsTurned pid id new.turned (seen k) (seen new.kernel)
unfolding after_turn
turned-as pid id k new made = of (turn_of k.state.system pid id) refl made
  where
    of : (o : Option LwpTurn) → turn_of k.state.system pid id ≡ o → option_map (after_lwp_turn pid id k) o ≡ Some new
        → IsTurned pid id new.turned (seen k) (seen new.kernel)
    of None none e = absurd (cc)
    of (Some t) some e = let Q : TurnedKernel → Type 0 = λ n. IsTurned pid id n.turned (seen k) (seen n.kernel) in
        subst Q (same_Some _ new e) (turned pid id k t some)

pub kern-turned : (pid id : ℕ) (k new : Kernel) (t : Turned)
    → after_turn pid id k ≡ Some (let r : TurnedKernel = record { kernel = new; turned = t } in r)
    → IsTurned pid id t (seen k) (seen new)
kern-turned pid id k new t made = turned-as pid id k (record { kernel = new; turned = t }) made

ticked : (k : Kernel) → IsTicked (seen k) (seen (after_tick k))
unfolding kernel_of after_tick
ticked k = record { history = refl; places = refl; clock = refl; machine = refl }

pub kern-ticked : (k new : Kernel) → new ≡ after_tick k → IsTicked (seen k) (seen new)
kern-ticked k new is = let Q : Kernel → Type 0 = λ n. IsTicked (seen k) (seen n) in subst Q (sym is) (ticked k)

pub kern-next : (k : Kernel) (movable : Bool) (after : Option (ℕ × ℕ))
    → next_lwp_of movable k.state.system after ≡ next_of (seen k) movable after
unfolding kernel_of next_of turns_after next_movable next_asked asked_after next_lwp
kern-next k true after = refl
kern-next k false after = refl

-- what holds where a result is Ok
pub on-ok : {T E : Type 0} (A B : Type 0) (r : Result T E) → (A → B) → OnOk r A → OnOk r B
on-ok A B (Ok x) f a = f a
on-ok A B (Err e) f a = tt

pub if-ok : {T E : Type 0} (A B : T → Type 0) (r : Result T E) → ((x : T) → A x → B x) → IfOk r A → IfOk r B
if-ok A B (Ok x) f a = f x a
if-ok A B (Err e) f a = tt
