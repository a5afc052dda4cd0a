-- What words of truss(1) that name functions ask for: at most 16 labels, and that no child of a fork is followed.
use Rattle.std.proofs.Common.{◌≡◌, ◌≢◌, ◌≤◌, ◌+◌, ◌++◌, ◌⊎◌, inl, inr, ℕ, Bool, true, false, is_some, Option, Some, None, List, [], ◌∷◌, length, nat_le, refl, sym, subst, ap, ◌∙◌, arith}
use Rattle.std.specs.Prelude.{◌==◌, ◌||◌, codes, option_and_then}
use Rattle.std.specs.List.{slice_split}
use Rattle.std.specs.Option.{IfSome}
use Rattle.std.specs.Result.{IfOk}
use Rattle.std.specs.Str.{bytes_eq}
use Rattle.std.proofs.lemmas.Bool.{cond_both, false≢true, leb-true, or_from, or_parts}
use Rattle.std.proofs.lemmas.List.{length-append}
use Rattle.std.proofs.lemmas.Slice.Eq.{bytes_eq-Decides}
use Rattle.pr_line.specs.FunctionNames.{function_names_of, labels_of, named_at, named_in, with_labels}
use Rattle.pr_line.specs.Functions.{function_limit}
use Rattle.pr_line.specs.Options.{before_functions, follows_or_counts, list_taken, option_or_list, option_taken, start, takes_list, with_functions, with_list, with_pids, with_program, word_taken}
use Rattle.pr_line.specs.Reading.{all_asked, asked_in, asked_of, is_whole, words_taken}
use Rattle.pr_line.specs.declared.function_names.FunctionNames.{FunctionNames}
use Rattle.pr_line.specs.declared.options.Options.{Options}
use Rattle.pr_line.specs.declared.reading.Asked.{Asked}
use Rattle.pr_line.specs.declared.reading.Draft.{Draft}
use Rattle.pr_line.specs.declared.reading.ListOption.{ListOption}
use Rattle.pr_line.specs.declared.reading.ListOption.TheVariants.{Calls, Signals, Faults, Processes, Functions}
use Rattle.pr_scen.proofs.StepLemmas.{if_ok, of_ok, then_ok}
use Rattle.pr_text.specs.Lists.{parts_of}
use Rattle.pr_text.specs.Names.{name_of}
use Rattle.pr_text.specs.Steps.{folded}

-- ---- the labels of one word

abbrev pub HasFewLabels : FunctionNames → Type 0
HasFewLabels names = length names.labels ≤ function_limit

labels-length : (labels parts : List (List ℕ))
    → IfSome (with_labels labels parts) (λ all. length all ≡ length labels + length parts)
unfolding with_labels
labels-length labels [] = omega arith
labels-length labels (part ∷ parts) = by (λ more. labels-length more parts) (name_of part)
  where
    longer : (name : List ℕ) (o : Option (List (List ℕ)))
        → IfSome o (λ all. length all ≡ length (labels ++ name ∷ []) + length parts)
        → IfSome o (λ all. length all ≡ length labels + length (part ∷ parts))
    longer name None is = tt
    longer name (Some all) is = omega (arith, is, length-append labels (name ∷ []))

    by : ((more : List (List ℕ)) → IfSome (with_labels more parts) (λ all. length all ≡ length more + length parts))
        → (o : Option (List ℕ)) → IfSome (option_and_then (λ name. with_labels (labels ++ name ∷ []) parts) o)
        (λ all. length all ≡ length labels + length (part ∷ parts))
    by others None = tt
    by others (Some name) =
        longer name (with_labels (labels ++ name ∷ []) parts) (others (labels ++ name ∷ []))

abbrev AreFew : List (List ℕ) → Type 0
AreFew labels = length labels ≤ function_limit

labels-few : (parts : List (List ℕ)) → IfSome (labels_of parts) AreFew
unfolding labels_of
labels-few parts =
    cond_both (nat_le (length parts) function_limit) (with_labels [] parts) None (λ o. IfSome o AreFew)
    (λ few. short (with_labels [] parts) (leb-true (length parts) function_limit few) (labels-length [] parts))
    (λ _. tt)
  where
    short : (o : Option (List (List ℕ))) → length parts ≤ function_limit
        → IfSome o (λ all. length all ≡ length {A = List ℕ} [] + length parts) → IfSome o AreFew
    short None few is = tt
    short (Some all) few is = omega (arith, few, is)

at-few : (program : Option (List ℕ)) (labels : Option (List (List ℕ))) → IfSome labels AreFew
    → IfSome (named_at program labels) HasFewLabels
at-few None labels few = tt
at-few (Some program) None few = tt
at-few (Some program) (Some labels) few = few

pieces-few : (pieces : List (List ℕ)) → IfSome (named_in pieces) HasFewLabels
pieces-few [] = tt
pieces-few (program ∷ []) = tt
pieces-few (program ∷ labels ∷ []) =
    at-few (name_of program) (labels_of (parts_of labels)) (labels-few (parts_of labels))
pieces-few (program ∷ labels ∷ more ∷ others) = tt

names-few : (word : List ℕ) → IfSome (function_names_of word) HasFewLabels
unfolding function_names_of
names-few word = pieces-few (slice_split (λ b. b == 58) word)

-- ---- the words before those that are left

-- -f or -c is among all words, and so there is no -u
record IsMixed (d : Draft) : Type 0 where
  mixed : d.mixed ≡ true
  functions : d.functions ≡ None
  pending : d.pending ≢ Some Functions

-- neither was an option, nor will be
record IsUnmixed (d : Draft) (left : List (List ℕ)) : Type 0 where
  follow : d.options.follow ≡ false
  ahead : follows_or_counts (is_some d.pending) left ≡ false

record IsOn (d : Draft) (left : List (List ℕ)) : Type 0 where
  few : IfSome d.functions HasFewLabels
  way : IsMixed d ⊎ IsUnmixed d left

-- no function is named anew
next-on : (d e : Draft) (left : List (List ℕ)) → e.mixed ≡ d.mixed → e.functions ≡ d.functions
    → (IsMixed d → e.pending ≢ Some Functions) → IfSome d.functions HasFewLabels → IsMixed d ⊎ IsUnmixed e left
    → IsOn e left
next-on d e left mixed functions pending few way = record {
  few = subst (λ (o : Option FunctionNames). IfSome o HasFewLabels) (sym functions) few;
  way = elim way [
    | inl m ↦ inl (record { mixed = mixed ∙ m.mixed; functions = functions ∙ m.functions; pending = pending m })
    | inr u ↦ inr u
  ];
}

module _ (n : ℕ) (d : Draft) (word : List ℕ) (left : List (List ℕ)) (on : IsOn d (word ∷ left)) where
  abbrev Goes : Draft → Type 0
  Goes e = IsOn e left

  -- ---- the list of an option

  module _ (k : ListOption) (pending : d.pending ≡ Some k) where
    list-ahead : IsUnmixed d (word ∷ left) → follows_or_counts false left ≡ false
    unfolding follows_or_counts
    list-ahead u =
        subst (λ (o : Option ListOption). follows_or_counts (is_some o) (word ∷ left) ≡ false) pending u.ahead

    -- other options, or other functions, and no list comes next
    listed-on : (e : Draft) → e.mixed ≡ d.mixed → e.functions ≡ d.functions → e.pending ≡ None
        → e.options.follow ≡ d.options.follow → Goes e
    listed-on e mixed functions none follow =
        next-on d e left mixed functions (λ m is. none_some (sym none ∙ is)) on.few
        (elim on.way [
          | inl m ↦ inl m
          | inr u ↦ inr (record {
            follow = follow ∙ u.follow;
            ahead =
                subst (λ (o : Option ListOption). follows_or_counts (is_some o) left ≡ false) (sym none) (list-ahead u);
          })
        ])
      where
        none_some : None ≡ Some Functions → ⊥
        none_some is = absurd (cc)

    with-on : (change : ℕ → Options) → ((set : ℕ) → (change set).follow ≡ d.options.follow) → (o : Option ℕ)
        → IfOk (with_list false n d change o) Goes
    with-on change same (Some set) =
        listed-on (record d { options = change set; pending = None }) refl refl refl (same set)
    with-on change same None = tt

    pids-on : (o : Option (List ℕ)) → IfOk (with_pids n d o) Goes
    pids-on (Some ids) =
        listed-on (record d { options = record d.options { pids = ids }; pending = None }) refl refl refl refl
    pids-on None = tt

    named-on : k ≡ Functions → (o : Option FunctionNames) → IfSome o HasFewLabels → IfOk (with_functions n d o) Goes
    named-on is None few = tt
    named-on is (Some names) few = record {
      few = few;
      way = elim on.way [
        | inl m ↦ absurd (let p = m.pending in p (pending ∙ ap Some is))
        | inr u ↦ inr (record { follow = u.follow; ahead = list-ahead u })
      ];
    }

  list-on : (k : ListOption) → d.pending ≡ Some k → IfOk (list_taken false n d word k) Goes
  unfolding list_taken
  list-on Calls is = with-on Calls is (λ set. record d.options { calls = set }) (λ set. refl) _
  list-on Signals is = with-on Signals is (λ set. record d.options { signals = set }) (λ set. refl) _
  list-on Faults is = with-on Faults is (λ set. record d.options { faults = set }) (λ set. refl) _
  list-on Processes is = pids-on Processes is _
  list-on Functions is = named-on Functions is refl (function_names_of word) (names-few word)

  -- ---- an option, or the program

  module _ (none : d.pending ≡ None) where
    -- what is known of this word where neither -f nor -c is among them
    option-ahead : IsUnmixed d (word ∷ left)
        → (bytes_eq word (codes "-f") ≡ false) × (follows_or_counts (takes_list word) left ≡ false)
    unfolding follows_or_counts
    option-ahead u =
        let later : Bool = follows_or_counts (takes_list word) left in
        let here : (bytes_eq word (codes "-f") || bytes_eq word (codes "-c") || later) ≡ false =
        subst (λ (o : Option ListOption). follows_or_counts (is_some o) (word ∷ left) ≡ false) none u.ahead in
        let parts = or_parts (bytes_eq word (codes "-f") || bytes_eq word (codes "-c")) later here in
        ((or_parts (bytes_eq word (codes "-f")) (bytes_eq word (codes "-c")) parts.0).0, parts.1)

    -- an option other than -f: whether its list comes next is told by the word
    option-on : (e : Draft) → e.mixed ≡ d.mixed → e.functions ≡ d.functions → e.options.follow ≡ d.options.follow
        → is_some e.pending ≡ takes_list word → (IsMixed d → e.pending ≢ Some Functions) → Goes e
    option-on e mixed functions follow takes pending =
        next-on d e left mixed functions pending on.few
        (elim on.way [
          | inl m ↦ inl m
          | inr u ↦ inr (record {
            follow = follow ∙ u.follow;
            ahead =
                subst (λ (b : Bool). follows_or_counts b left ≡ false) (sym takes) (let a = option-ahead u in a.1);
          })
        ])

    -- the word is this one
    spelled : (w : List ℕ) (b : Bool) → bytes_eq word w ≡ true → takes_list w ≡ b → b ≡ takes_list word
    spelled w b same is = sym (ap takes_list ((bytes_eq-Decides word w).0 same) ∙ is)

    still : IsMixed d → d.pending ≢ Some Functions
    still m = m.pending

    -- d waits for no list
    waits-none : (b : Bool) → false ≡ b → is_some d.pending ≡ b
    waits-none b is = ap (λ (o : Option ListOption). is_some o) none ∙ is

    followed-on : bytes_eq word (codes "-f") ≡ true → Goes (record d { options = record d.options { follow = true } })
    followed-on same =
        next-on d (record d { options = record d.options { follow = true } }) left refl refl still on.few
        (elim on.way [
          | inl m ↦ inl m
          | inr u ↦ absurd (let a = option-ahead u in false≢true (sym a.0 ∙ same))
        ])

    list-next : (w : List ℕ) (k : ListOption) → bytes_eq word w ≡ true → takes_list w ≡ true → Some k ≢ Some Functions
        → Goes (record d { pending = Some k })
    list-next w k same takes other =
        option-on (record d { pending = Some k }) refl refl refl (spelled w true same takes) (λ _. other)

    functions-next : bytes_eq word (codes "-u") ≡ true → IfOk (before_functions n d) Goes
    unfolding takes_list
    functions-next same =
        if_ok Goes d.mixed _ _ (λ _. tt)
        (λ unmixed. option-on (record d { pending = Some Functions }) refl refl refl
        (spelled (codes "-u") true same refl) (λ m. absurd (false≢true (sym unmixed ∙ m.mixed))))

    program-next : takes_list word ≡ false → (o : Option (List ℕ)) → IfOk (with_program n d o) Goes
    program-next takes None = tt
    program-next takes (Some name) =
        option-on (record d { options = record d.options { program = Some name } }) refl refl refl
        (waits-none (takes_list word) (sym takes)) still

    word-next : IfOk (option_taken n d word) Goes
    unfolding option_taken takes_list
    word-next =
        if_ok Goes (bytes_eq word (codes "-f")) _ _ followed-on (λ _.
        if_ok Goes (bytes_eq word (codes "-l")) _ _
        (λ same. option-on (record d { options = record d.options { lwps = true } }) refl refl refl
        (waits-none (takes_list word) (spelled (codes "-l") false same refl)) still) (λ _.
        if_ok Goes (bytes_eq word (codes "-c")) _ _
        (λ same. option-on (record d { options = record d.options { count = true } }) refl refl refl
        (waits-none (takes_list word) (spelled (codes "-c") false same refl)) still) (λ _.
        if_ok Goes (bytes_eq word (codes "-i")) _ _
        (λ same. option-on d refl refl refl (waits-none (takes_list word) (spelled (codes "-i") false same refl)) still)
        (λ _.
        if_ok Goes (bytes_eq word (codes "-t")) _ _ (λ same. list-next (codes "-t") Calls same refl (λ is. absurd (cc)))
        (λ t.
        if_ok Goes (bytes_eq word (codes "-s")) _ _
        (λ same. list-next (codes "-s") Signals same refl (λ is. absurd (cc))) (λ s.
        if_ok Goes (bytes_eq word (codes "-m")) _ _
        (λ same. list-next (codes "-m") Faults same refl (λ is. absurd (cc))) (λ m.
        if_ok Goes (bytes_eq word (codes "-p")) _ _
        (λ same. list-next (codes "-p") Processes same refl (λ is. absurd (cc))) (λ p.
        if_ok Goes (bytes_eq word (codes "-u")) _ _ functions-next (λ u.
        program-next
        (or_from _ (bytes_eq word (codes "-u"))
        (or_from _ (bytes_eq word (codes "-p"))
        (or_from _ (bytes_eq word (codes "-m"))
        (or_from (bytes_eq word (codes "-t")) (bytes_eq word (codes "-s")) t s) m) p) u) (name_of word))))))))))

  taken-on : (o : Option ListOption) → d.pending ≡ o → IfOk (option_or_list false n d word o) Goes
  taken-on None is = word-next is
  taken-on (Some k) is = list-on k is

  word-on : IfOk (word_taken false n d word) Goes
  unfolding word_taken
  word-on = if_ok Goes (is_some d.options.program) _ _ (λ _. tt) (λ _. taken-on d.pending refl)

-- ---- all words

words-on : (words : List (List ℕ)) (n : ℕ) (d : Draft) → IsOn d words
    → IfOk (folded (word_taken false) n d words) (λ e. IsOn e [])
unfolding folded
words-on [] n d on = on
words-on (word ∷ words) n d on =
    then_ok (λ e. IsOn e []) (word_taken false n d word) (λ e. folded (word_taken false) (n + 1) e words)
    (λ e is. words-on words (n + 1) e
    (of_ok (λ e. IsOn e words) (word_taken false n d word) e is (word-on n d word words on)))

start-on : (words : List (List ℕ)) (mixed : Bool) → follows_or_counts false words ≡ mixed → IsOn (start mixed) words
start-on words true is = record {
  few = tt;
  way = inl (record { mixed = refl; functions = refl; pending = λ is. absurd (cc) });
}
start-on words false is = record { few = tt; way = inr (record { follow = refl; ahead = is }) }

-- what words ask for names at most 16 functions, and follows no children where it names some
pub record AreFewAlone (asked : Asked) : Type 0 where
  pub few : IfSome asked.functions HasFewLabels
  pub alone : (asked.functions ≡ None) ⊎ (asked.options.follow ≡ false)

whole-alone : (count : ℕ) (d : Draft) → IsOn d [] → IfOk (all_asked count d) AreFewAlone
unfolding all_asked
whole-alone count d on =
    if_ok AreFewAlone (is_whole d) _ _
    (λ _. record { few = on.few; alone = elim on.way [ inl m ↦ inl m.functions | inr u ↦ inr u.follow ] }) (λ _. tt)

pub asked-alone : (words : List (List ℕ)) → IfOk (asked_of words) AreFewAlone
unfolding asked_in
asked-alone words =
    let mixed = follows_or_counts false words in
    then_ok AreFewAlone (words_taken false 0 (start mixed) words) (all_asked (length words))
    (λ d is. whole-alone (length words) d
    (of_ok (λ e. IsOn e []) (words_taken false 0 (start mixed) words) d is
    (words-on words 0 (start mixed) (start-on words mixed refl))))
