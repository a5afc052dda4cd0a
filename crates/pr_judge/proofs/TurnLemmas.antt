-- Turns are compared with all that they say.
use Rattle.std.proofs.Common.{◌≡◌, ◌==◌, ℕ, Bool, true, refl, sym, ◌∙◌, ap, rules}
use Rattle.std.proofs.lemmas.Bool.{and_from, and_parts, eqb-true}
use Rattle.std.proofs.lemmas.Option.{same_Some}
use Rattle.pr_num.specs.Errnos.{errno_number, errno_of_number}
use Rattle.pr_num.specs.Faults.{fault_number, fault_of_number}
use Rattle.pr_num.specs.Signals.{signal_number, signal_of_number}
use Rattle.pr_num.specs.Syscalls.{syscall_number, syscall_of_number}
use Rattle.pr_num.specs.declared.errnos.Errno.{Errno}
use Rattle.pr_num.specs.declared.faults.Flt.{Flt}
use Rattle.pr_num.specs.declared.signals.Sig.{Sig}
use Rattle.pr_num.specs.declared.syscalls.Sysno.{Sysno}
use Rattle.pr_num.proofs.EntryLemmas.{errno_of_number-number, fault_of_number-number, signal_of_number-number, syscall_of_number-number}
use Rattle.pr_model.specs.declared.events.Did.{Did}
use Rattle.pr_model.specs.declared.events.Did.TheVariants.{Stopped, Ran, Entered, Made, Slept, Woke, Returned, Faulted, Posted, Took, Acted}
use Rattle.pr_model.specs.declared.events.How.{How}
use Rattle.pr_model.specs.declared.events.How.TheVariants.{Caught, Ignored, JobStop, Died}
use Rattle.pr_model.specs.declared.events.Res.{Res}
use Rattle.pr_model.specs.declared.events.Res.TheVariants.{Value, Error, Ended}
use Rattle.pr_model.specs.declared.events.Turned.{Turned}
use Rattle.pr_judge.specs.Turns.{same_did, same_how, same_result}

-- ---- what has the number of another one is that one

pub errno-is : (a b : Errno) → (errno_number a == errno_number b) ≡ true → a ≡ b
errno-is a b h =
    same_Some a b (sym (errno_of_number-number a) ∙ ap errno_of_number (eqb-true _ _ h) ∙ errno_of_number-number b)

fault-is : (a b : Flt) → (fault_number a == fault_number b) ≡ true → a ≡ b
fault-is a b h =
    same_Some a b (sym (fault_of_number-number a) ∙ ap fault_of_number (eqb-true _ _ h) ∙ fault_of_number-number b)

signal-is : (a b : Sig) → (signal_number a == signal_number b) ≡ true → a ≡ b
signal-is a b h =
    same_Some a b (sym (signal_of_number-number a) ∙ ap signal_of_number (eqb-true _ _ h) ∙ signal_of_number-number b)

syscall-is : (a b : Sysno) → (syscall_number a == syscall_number b) ≡ true → a ≡ b
syscall-is a b h =
    same_Some a b
    (sym (syscall_of_number-number a) ∙ ap syscall_of_number (eqb-true _ _ h) ∙ syscall_of_number-number b)

-- ---- both of two

pub equal-self : (n : ℕ) → (n == n) ≡ true
equal-self n = search rules

-- ---- what is the same is equal

result-is : (a b : Res) → same_result a b ≡ true → a ≡ b
unfolding same_result
result-is (Value a) (Value b) h = ap Value (eqb-true _ _ h)
result-is (Error a) (Error b) h = ap Error (errno-is a b h)
result-is Ended Ended h = refl
result-is _ _ h = cc

how-is : (a b : How) → same_how a b ≡ true → a ≡ b
unfolding same_how
how-is Caught Caught h = refl
how-is Ignored Ignored h = refl
how-is JobStop JobStop h = refl
how-is Died Died h = refl
how-is _ _ h = cc

pub did-is : (a b : Did) → same_did a b ≡ true → a ≡ b
unfolding same_did
did-is Stopped Stopped h = refl
did-is Ran Ran h = refl
did-is (Entered a) (Entered b) h = ap Entered (syscall-is a b h)
did-is (Made a r) (Made b q) h =
    ap (λ c. Made c r) (syscall-is a b (and_parts _ _ h).0) ∙ ap (Made b) (result-is r q (and_parts _ _ h).1)
did-is (Slept a) (Slept b) h = ap Slept (syscall-is a b h)
did-is (Woke a r) (Woke b q) h =
    ap (λ c. Woke c r) (syscall-is a b (and_parts _ _ h).0) ∙ ap (Woke b) (result-is r q (and_parts _ _ h).1)
did-is (Returned a) (Returned b) h = ap Returned (syscall-is a b h)
did-is (Faulted a) (Faulted b) h = ap Faulted (fault-is a b h)
did-is (Posted a) (Posted b) h = ap Posted (fault-is a b h)
did-is (Took a) (Took b) h = ap Took (signal-is a b h)
did-is (Acted a how) (Acted b other) h =
    ap (λ s. Acted s how) (signal-is a b (and_parts _ _ h).0) ∙ ap (Acted b) (how-is how other (and_parts _ _ h).1)
did-is _ _ h = cc

-- ---- what is equal is the same

result-self : (a : Res) → same_result a a ≡ true
unfolding same_result
result-self (Value a) = equal-self a
result-self (Error a) = equal-self (errno_number a)
result-self Ended = refl

how-self : (a : How) → same_how a a ≡ true
unfolding same_how
how-self Caught = refl
how-self Ignored = refl
how-self JobStop = refl
how-self Died = refl

pub did-self : (a : Did) → same_did a a ≡ true
unfolding same_did
did-self Stopped = refl
did-self Ran = refl
did-self (Entered a) = equal-self (syscall_number a)
did-self (Made a r) = and_from _ _ (equal-self (syscall_number a)) (result-self r)
did-self (Slept a) = equal-self (syscall_number a)
did-self (Woke a r) = and_from _ _ (equal-self (syscall_number a)) (result-self r)
did-self (Returned a) = equal-self (syscall_number a)
did-self (Faulted a) = equal-self (fault_number a)
did-self (Posted a) = equal-self (fault_number a)
did-self (Took a) = equal-self (signal_number a)
did-self (Acted a how) = and_from _ _ (equal-self (signal_number a)) (how-self how)

pub ruleset turns = (did-is, did-self)

pub turn-is : (a b : Turned) → a.stop ≡ b.stop → same_did a.did b.did ≡ true → a ≡ b
turn-is a b stop did =
    ap (λ (d : Did). let t : Turned = record { did = d; stop = a.stop } in t) (did-is a.did b.did did)
    ∙ ap (λ (s : Bool). let t : Turned = record { did = b.did; stop = s } in t) stop
