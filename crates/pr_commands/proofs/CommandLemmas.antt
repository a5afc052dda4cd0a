-- How many threads words ask for.
use Rattle.std.proofs.Common.{◌≡◌, ◌≤◌, ◌<◌, ◌+◌, ◌&&◌, ℕ, zero, suc, Bool, true, false, List, [], ◌∷◌, Option, Some, None, All, cond, refl, arith}
use Rattle.std.specs.Prelude.{codes, decimal}
use Rattle.std.proofs.lemmas.List.Elements.{All-cons, All-nil, All-weaker}
use Rattle.std.specs.List.{range_with_len}
use Rattle.std.specs.Option.{option_map_or}
use Rattle.std.specs.Str.{bytes_eq}
use Rattle.pr_model.specs.declared.tools.ToolKind.{ToolKind}
use Rattle.pr_num.specs.Limits.{child_limit, worker_limit}
use Rattle.pr_num.proofs.SearchLemmas.{All-find}
use Rattle.pr_commands.specs.Commands.{HasWorkers, core_shown, core_tool_of_name, generation, number_up_to, of_four_words, of_one_word, of_three_words, of_two_words, shared_run, work_of}
use Rattle.pr_output.specs.declared.runs.Showing.{Showing}
use Rattle.pr_output.specs.declared.runs.Showing.TheVariants.{Whole, Quiet}
use Rattle.pr_commands.specs.declared.commands.Work.{Work}
use Rattle.pr_commands.specs.declared.commands.Work.TheVariants.{Checks, Explains, Generates, Runs, Shares, ShowsCore, Strips}

range-all : (from len : ℕ) → All (λ n. (from ≤ n) × (n < from + len)) (range_with_len from len)
range-all from zero = All-nil (λ n. (from ≤ n) × (n < from + zero))
range-all from (suc len) =
    All-cons (λ n. (from ≤ n) × (n < from + suc len)) from (range_with_len (from + 1) len) (omega arith, omega arith)
    (All-weaker (λ n. (from + 1 ≤ n) × (n < from + 1 + len)) (λ n. (from ≤ n) × (n < from + suc len))
    (λ n h. (omega (arith, h.0), omega (arith, h.1))) (range_with_len (from + 1) len) (range-all (from + 1) len))

number-within : (most : ℕ) (word : List ℕ) (n : ℕ) → number_up_to most word ≡ Some n → (1 ≤ n) × (n ≤ most)
unfolding number_up_to
number-within most word n e =
    let h = All-find (λ n. (1 ≤ n) × (n < 1 + most)) (λ n. bytes_eq (decimal n) word) (range_with_len 1 most) n
    (range-all 1 most) e in (h.0, omega (arith, h.1))

of_shared : (showing : Showing) (word : List ℕ) → HasWorkers (shared_run showing word)
unfolding shared_run
of_shared showing word = by (number_up_to worker_limit word) refl
  where
    by : (o : Option ℕ) → number_up_to worker_limit word ≡ o → HasWorkers (option_map_or (Shares showing) o Explains)
    by None e = tt
    by (Some n) e = number-within worker_limit word n e

of_generation : (word : List ℕ) → HasWorkers (generation word)
unfolding generation
of_generation word = by (number_up_to child_limit word)
  where
    by : (o : Option ℕ) → HasWorkers (option_map_or Generates o Explains)
    by None = tt
    by (Some n) = tt

of_core : (tool : List ℕ) → HasWorkers (core_shown tool)
unfolding core_shown
of_core tool = by (core_tool_of_name tool)
  where
    by : (o : Option ToolKind) → HasWorkers (option_map_or ShowsCore o Explains)
    by None = tt
    by (Some kind) = tt

-- either of two
of_both : (b : Bool) (x y : Work) → HasWorkers x → HasWorkers y → HasWorkers (cond b x y)
of_both true x y h k = h
of_both false x y h k = k

one-word : (a : List ℕ) → HasWorkers (of_one_word a)
unfolding of_one_word
one-word a =
    of_both (bytes_eq a (codes "run")) (Runs Whole) _ tt
    (of_both (bytes_eq a (codes "check")) Checks _ tt (of_both (bytes_eq a (codes "plain")) Strips Explains tt tt))

two-words : (a b : List ℕ) → HasWorkers (of_two_words a b)
unfolding of_two_words
two-words a b =
    of_both (bytes_eq a (codes "run") && bytes_eq b (codes "-q")) (Runs Quiet) _ tt
    (of_both (bytes_eq a (codes "gen")) (generation b) _ (of_generation b)
    (of_both (bytes_eq a (codes "core")) (core_shown b) Explains (of_core b) tt))

three-words : (a b c : List ℕ) → HasWorkers (of_three_words a b c)
unfolding of_three_words
three-words a b c =
    of_both (bytes_eq a (codes "run") && bytes_eq b (codes "-j")) (shared_run Whole c) Explains (of_shared Whole c) tt

four-words : (a b c d : List ℕ) → HasWorkers (of_four_words a b c d)
unfolding of_four_words
four-words a b c d =
    of_both (bytes_eq a (codes "run") && bytes_eq b (codes "-q") && bytes_eq c (codes "-j")) (shared_run Quiet d) _
    (of_shared Quiet d)
    (of_both (bytes_eq a (codes "run") && bytes_eq b (codes "-j") && bytes_eq d (codes "-q"))
    (shared_run Quiet c) Explains (of_shared Quiet c) tt)

-- Words that ask for a run on several threads name 1 to 16 of them.
pub words-workers : (words : List (List ℕ)) → HasWorkers (work_of words)
unfolding work_of
words-workers [] = tt
words-workers (a ∷ []) = one-word a
words-workers (a ∷ b ∷ []) = two-words a b
words-workers (a ∷ b ∷ c ∷ []) = three-words a b c
words-workers (a ∷ b ∷ c ∷ d ∷ []) = four-words a b c d
words-workers (a ∷ b ∷ c ∷ d ∷ e ∷ more) = tt
