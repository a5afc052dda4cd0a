-- How a command that reads an input ends.
use Rattle.std.proofs.Common.{◌≡◌, ◌≤◌, ◌<◌, inl, inr, ⊎_elim, ℕ, Bool, true, false, List, ◌++◌, Option, Some, None, length, nat_le, cond, IfSome, sym, ◌∙◌, ap, subst, arith, length-append}
use Rattle.std.proofs.lemmas.Bool.Decides.{nat_tests}
use Rattle.std.proofs.lemmas.Option.{same_Some}
use Rattle.pr_ends.specs.Ends.{Ends}
use Rattle.pr_ends.specs.Inputs.{Took}
use Rattle.pr_io.specs.Known.{with_front}
use Rattle.pr_model.specs.declared.events.Entry.{Entry}
use Rattle.pr_commands.specs.Answers.{Answer}
use Rattle.pr_commands.specs.Giving.{Responds, RespondsOne, StopsEarly}
use Rattle.pr_commands.specs.Histories.{Making, RanOutEarly}
use Rattle.pr_commands.specs.Inputs.{taken_of}
use Rattle.pr_commands.specs.Rows.{GivesOne, Reads}
use Rattle.pr_commands.specs.declared.outcomes.Status.{Status}
use Rattle.pr_commands.specs.declared.outcomes.Status.TheVariants.{OutOfMemory}

-- ---- the answer is one to the input

pub taken : (limit : ℕ) (new : Option (List ℕ)) (left : List ℕ) (input : Option (List ℕ))
    → Took limit (Some left) new input → input ≡ taken_of limit left
unfolding with_front
taken limit new left None above = by new above.front
  where
    by : (new : Option (List ℕ)) → Some left ≡ with_front above.bytes new → None ≡ taken_of limit left
    by None e = cc
    by (Some rest) e =
        let all : left ≡ above.bytes ++ rest = same_Some left (above.bytes ++ rest) e in
        let long : limit < length left = rw all (omega (arith, length-append above.bytes rest, above.above)) in
        sym (ap (λ (b : Bool). cond b (Some left) None) (not_within (length left) long))
      where
        not_within : (n : ℕ) → limit < n → nat_le n limit ≡ false
        not_within n h = grind (arith, nat_tests)
taken limit new left (Some input) took =
    let same : input ≡ left = took.read.all in
    let within : length left ≤ limit = subst (λ (x : List ℕ). length x ≤ limit) same took.within in
    ap (λ (x : List ℕ). Some x) same ∙ sym (ap (λ (b : Bool). cond b (Some left) None) (is_within (length left) within))
  where
    is_within : (n : ℕ) → n ≤ limit → nat_le n limit ≡ true
    is_within n h = grind (arith, nat_tests)

answers-input : (limit : ℕ) (May : Option (List ℕ) → Answer → Type 0) (old new input : Option (List ℕ))
    (status : Status) (h : List Entry) (w v : Option (List ℕ)) → Took limit old new input
    → GivesOne (May input) status h w v → IfSome old (λ left. GivesOne (May (taken_of limit left)) status h w v)
answers-input limit May None new input status h w v took given = tt
answers-input limit May (Some left) new input status h w v took given =
    subst (λ (i : Option (List ℕ)). GivesOne (May i) status h w v) (taken limit new left input took) given

-- ---- the end

-- The input was read, and answered.
pub reads-answered : (limit : ℕ) (May : Option (List ℕ) → Answer → Type 0) (making : Making) (old new : Ends)
    (status : Status) (h : List Entry) (input : Option (List ℕ)) (answer : Answer) → Took limit old.left new.left input
    → new.read_faults ≡ old.read_faults → May input answer
    → Responds answer
    (RanOutEarly making input h old.written new.written) status h old.written new.written old.write_faults
    new.write_faults → Reads limit May making old new status h
reads-answered limit May making old new status h input answer took same may r = record {
  answered =
      λ w. record {
        input = input;
        took = took;
        gives =
            record { answer = answer; may = may; given = r.whole w.wrote w.had_memory };
      };
  answers =
      λ w. answers-input limit May old.left new.left input status h old.written new.written took
      (record { answer = answer; may = may; given = r.whole w.wrote w.had_memory });
  not_read = λ s. absurd (r.read s);
  read_within = λ s. absurd (r.read s);
  read_failed = λ s. absurd (r.read s);
  cut = λ s. record { input = input; took = took; answer = answer; may = may; cut = r.cut s };
  write_failed = r.rose;
  memory =
      λ s. inr
      (record {
        input = input;
        took = took;
        ran_out =
            ⊎_elim (λ early. inl early) (λ late. inr (record { answer = answer; may = may; ran_out = late }))
            (r.memory s);
      });
  no_read_fault = λ s. same;
  no_write_fault = r.no_fault;
}

-- Memory ran out before there was an answer.
reads-early : (limit : ℕ) (May : Option (List ℕ) → Answer → Type 0) (making : Making) (old new : Ends) (status : Status)
    (h : List Entry) (input : Option (List ℕ)) → Took limit old.left new.left input → new.read_faults ≡ old.read_faults
    → StopsEarly (RanOutEarly making input h old.written new.written) status old.write_faults new.write_faults
    → Reads limit May making old new status h
reads-early limit May making old new status h input took same stops =
    let is : status ≡ OutOfMemory = stops.status_is in
    record {
      answered = λ w. absurd (w.had_memory is);
      answers = λ w. absurd (w.had_memory is);
      not_read = λ s. let no : ⊥ = cc in absurd no;
      read_within = λ s. let no : ⊥ = cc in absurd no;
      read_failed = λ s. let no : ⊥ = cc in absurd no;
      cut = λ s. let no : ⊥ = cc in absurd no;
      write_failed = λ s. let no : ⊥ = cc in absurd no;
      memory = λ s. inr (record { input = input; took = took; ran_out = inl stops.left });
      no_read_fault = λ s. same;
      no_write_fault = λ s. stops.no_fault;
    }

-- One of the answers that may come is given, or memory ran out before there was one.
pub reads-one : (limit : ℕ) (May : Option (List ℕ) → Answer → Type 0) (making : Making) (old new : Ends)
    (status : Status) (h : List Entry) (input : Option (List ℕ)) → Took limit old.left new.left input
    → new.read_faults ≡ old.read_faults
    → RespondsOne (May input)
    (RanOutEarly making input h old.written new.written) status h old.written new.written old.write_faults
    new.write_faults → Reads limit May making old new status h
reads-one limit May making old new status h input took same (inl one) =
    reads-answered limit May making old new status h input one.answer took same one.may one.responds
reads-one limit May making old new status h input took same (inr early) =
    reads-early limit May making old new status h input took same early
