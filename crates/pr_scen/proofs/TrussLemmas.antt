-- Truss lines are read as they are encoded.
use Rattle.std.proofs.Common.{◌≡◌, ℕ, ◌+◌, ◌-◌, ◌^◌, ◌≤◌, ◌<◌, Bool, true, false, ◌&&◌, ◌||◌, ◌==◌, eqb, cond, Option, Some, None, IsSome, List, [], ◌∷◌, ◌++◌, length, map, get_or, Result, Ok, Err, refl, sym, ◌∙◌, ap, subst, arith, codes}
use Rattle.std.specs.Fmt.{decimal}
use Rattle.std.specs.List.{All, AllByRecursion, join_with_byte, list_all, slice_split}
use Rattle.std.specs.Option.{option_and_then, option_map}
use Rattle.std.specs.Str.{bytes_eq}
use Rattle.std.proofs.lemmas.Bool.{and_parts, le-leb, ne_eqb}
use Rattle.std.proofs.lemmas.List.{append_assoc, append-nil, length-append}
use Rattle.std.proofs.lemmas.List.Elements.{All-append, All-cons, All-nil}
use Rattle.std.proofs.lemmas.List.Folds.{list_all-append}
use Rattle.std.proofs.lemmas.List.Splits.{slice_split_at, slice_split_none}
use Rattle.std.proofs.lemmas.Slice.Eq.{bytes_eq-Decides}
use Rattle.pr_num.specs.Sets.{with_number, minus_word}
use Rattle.pr_line.specs.Entries.{signal_named, signal_numbered, fault_named, fault_numbered, call_named, call_numbered, with_entries, number_or_name, entry_of, list_from, list_of}
use Rattle.pr_line.specs.FunctionNames.{with_labels, labels_of, named_at, named_in, function_names_of}
use Rattle.pr_line.specs.Functions.{function_limit}
use Rattle.pr_line.specs.Options.{start, with_functions, with_list, with_pids, with_program, list_taken, option_taken, word_taken, takes_list, follows_or_counts}
use Rattle.pr_line.specs.Pids.{with_ids, pids_of}
use Rattle.pr_line.specs.Reading.{is_whole, all_asked, asked_in, asked_of}
use Rattle.pr_line.specs.declared.faults.WordFault.{WordFault}
use Rattle.pr_line.specs.declared.faults.WordFault.TheVariants.{BadOption}
use Rattle.pr_line.specs.declared.function_names.FunctionNames.{FunctionNames}
use Rattle.pr_line.specs.declared.options.Options.{Options}
use Rattle.pr_line.specs.declared.reading.Asked.{Asked}
use Rattle.pr_line.specs.declared.reading.Draft.{Draft}
use Rattle.pr_line.specs.declared.reading.ListOption.{ListOption}
use Rattle.pr_line.specs.declared.reading.ListOption.TheVariants.{Calls, Signals, Faults, Processes, Functions}
use Rattle.pr_text.specs.Lists.{parts_of}
use Rattle.pr_text.specs.Names.{is_name, is_name_byte, name_of}
use Rattle.pr_text.specs.SpacedWords.{spaced}
use Rattle.pr_text.specs.Steps.{◌>>=◌, folded}
use Rattle.pr_text.specs.Words.{texts_of}
use Rattle.pr_text.proofs.NumberLemmas.{number_of-decimal, id_of-decimal, decimal-apart, decimal-first}
use Rattle.pr_text.proofs.PlainLemmas.{decimal-plain, name_of-name, name_token, named}
use Rattle.pr_text.proofs.SpacedLemmas.{IsToken, is_plain, plain_token, texts_of-spaced}
use Rattle.pr_scen.proofs.EncodingLemmas.{differ}
use Rattle.pr_scen.specs.Encoding.{IsId, SomeNames}
use Rattle.pr_scen.specs.Items.{truss_read, truss_of, item_with, item_of}
use Rattle.pr_text.specs.Comments.{begins_comment}
use Rattle.pr_scen.specs.TrussWords.{joined_word, Listing, every, these, others, listing_word, with_numbers, listing_set, IsEntry, IsListing, Target, processes, runs, IsTarget, target_words, target_ids, target_program, function_word, function_words, MayName, TrussLine, flag_words, list_words, truss_words, truss_options, truss_asked, IsTrussLine}
use Rattle.pr_scen.specs.declared.items.Item.TheVariants as item
use Rattle.pr_num.specs.Words.{IsWord}
use Rattle.pr_num.specs.Limits.{all_calls, all_faults, all_signals}

-- ---- numbers joined by +

split_joined : (n : ℕ) (ns : List ℕ) → AllByRecursion IsWord (n ∷ ns)
    → parts_of (joined_word (n ∷ ns)) ≡ map decimal (n ∷ ns)
split_joined n [] all = slice_split_none (λ b. eqb b 43) (decimal n) (decimal-apart 43 (omega arith) n all.0)
split_joined n (m ∷ ns) all =
    slice_split_at (λ b. eqb b 43) (decimal n) 43 (joined_word (m ∷ ns)) (decimal-apart 43 (omega arith) n all.0) refl
    ∙ ap (λ ws. decimal n ∷ ws) (split_joined m ns all.1)

joined_plain : (n : ℕ) (ns : List ℕ) → AllByRecursion IsWord (n ∷ ns) → list_all is_plain (joined_word (n ∷ ns)) ≡ true
joined_plain n [] all = decimal-plain n all.0
joined_plain n (m ∷ ns) all =
    list_all-append is_plain (decimal n) (43 ∷ joined_word (m ∷ ns))
    ∙ ap (λ b. b && list_all is_plain (joined_word (m ∷ ns))) (decimal-plain n all.0) ∙ joined_plain m ns all.1

-- the first byte of such a word is a digit
joined_first : (n : ℕ) (ns : List ℕ) → AllByRecursion IsWord (n ∷ ns)
    → (48 ≤ get_or (joined_word (n ∷ ns)) 0 0) × (get_or (joined_word (n ∷ ns)) 0 0 ≤ 57)
joined_first n [] all =
    subst (λ w. (48 ≤ get_or w 0 0) × (get_or w 0 0 ≤ 57)) (append-nil (decimal n)) (decimal-first n all.0 [])
joined_first n (m ∷ ns) all = decimal-first n all.0 (43 ∷ joined_word (m ∷ ns))

some_byte : (word : List ℕ) → 48 ≤ get_or word 0 0 → 0 < length word
some_byte [] low = absurd (omega arith)
some_byte (b ∷ bs) low = omega arith

joined_token : (n : ℕ) (ns : List ℕ) → AllByRecursion IsWord (n ∷ ns) → IsToken (joined_word (n ∷ ns))
joined_token n ns all =
    plain_token (joined_word (n ∷ ns)) (some_byte (joined_word (n ∷ ns)) (joined_first n ns all).0)
    (joined_plain n ns all)

-- ---- lists

module _ (named : List ℕ → Option ℕ) (numbered : ℕ → Option ℕ) (all : ℕ) where
  are_words : (ns : List ℕ) → AllByRecursion (IsEntry numbered) ns → AllByRecursion IsWord ns
  are_words [] h = tt
  are_words (n ∷ ns) h = (h.0.0, are_words ns h.1)

  entries_read : (set : ℕ) (ns : List ℕ) → AllByRecursion (IsEntry numbered) ns
      → with_entries (entry_of named numbered) set (map decimal ns) ≡ Some (with_numbers set ns)
  unfolding with_entries entry_of with_numbers
  entries_read set [] h = refl
  entries_read set (n ∷ ns) h =
      ap (λ o.
      option_and_then (λ more. with_entries (entry_of named numbered) more (map decimal ns))
      (option_map (with_number set) (number_or_name named numbered (decimal n) o))) (number_of-decimal n h.0.0)
      ∙ ap (λ o.
      option_and_then (λ more. with_entries (entry_of named numbered) more (map decimal ns))
      (option_map (with_number set) o)) h.0.1
      ∙ entries_read (with_number set n) ns h.1

  joined_read : (n : ℕ) (ns : List ℕ) → AllByRecursion (IsEntry numbered) (n ∷ ns)
      → with_entries (entry_of named numbered) 0 (parts_of (joined_word (n ∷ ns))) ≡ Some (with_numbers 0 (n ∷ ns))
  joined_read n ns h =
      ap (with_entries (entry_of named numbered) 0) (split_joined n ns (are_words (n ∷ ns) h))
      ∙ entries_read 0 (n ∷ ns) h

  plain_list : (word : List ℕ) → 48 ≤ get_or word 0 0
      → list_from (entry_of named numbered) all word ≡ with_entries (entry_of named numbered) 0 (parts_of word)
  unfolding list_from
  plain_list [] low = absurd (omega arith)
  plain_list (b ∷ bs) low =
      ap (λ t.
      cond t (option_map (minus_word all) (with_entries (entry_of named numbered) 0 (parts_of bs)))
      (with_entries (entry_of named numbered) 0 (parts_of (b ∷ bs)))) (ne_eqb b 33 (λ e. absurd (omega arith)))

  list_read : (l : Listing) → IsListing numbered l
      → list_of named numbered all (listing_word l) ≡ Some (listing_set all l)
  unfolding list_of listing_word listing_set IsListing list_from
  list_read every h = refl
  list_read (these []) h = absurd h
  list_read (these (n ∷ ns)) h =
      let word = joined_word (n ∷ ns) in
      let first = joined_first n ns (are_words (n ∷ ns) h) in
      ap (λ t. cond t (Some all) (list_from (entry_of named numbered) all word))
      (differ word (codes "all") 0 (λ e. let same : get_or word 0 0 ≡ 97 = e in absurd (omega (arith, first.1))))
      ∙ plain_list word first.0
      ∙ joined_read n ns h
  list_read (others []) h = absurd h
  list_read (others (n ∷ ns)) h = ap (option_map (minus_word all)) (joined_read n ns h)

  listing_token : (l : Listing) → IsListing numbered l → IsToken (listing_word l)
  unfolding listing_word IsListing
  listing_token every h = plain_token (codes "all") (omega arith) refl
  listing_token (these []) h = absurd h
  listing_token (these (n ∷ ns)) h = joined_token n ns (are_words (n ∷ ns) h)
  listing_token (others []) h = absurd h
  listing_token (others (n ∷ ns)) h =
      plain_token (33 ∷ joined_word (n ∷ ns)) (omega arith) (joined_plain n ns (are_words (n ∷ ns) h))

-- ---- what is traced

are_ids : (ids : List ℕ) → AllByRecursion IsId ids → AllByRecursion IsWord ids
are_ids [] h = tt
are_ids (id ∷ ids) h = (omega (arith, h.0), are_ids ids h.1)

ids_more : (done ids : List ℕ) → AllByRecursion IsId ids → with_ids done (map decimal ids) ≡ Some (done ++ ids)
unfolding with_ids
ids_more done [] h = ap Some (sym (append-nil done))
ids_more done (id ∷ ids) h =
    ap (λ o. option_and_then (λ n. with_ids (done ++ n ∷ []) (map decimal ids)) o) (id_of-decimal id h.0)
    ∙ ids_more (done ++ id ∷ []) ids h.1 ∙ ap Some (append_assoc done (id ∷ []) ids)

ids_read : (id : ℕ) (ids : List ℕ) → AllByRecursion IsId (id ∷ ids) → pids_of (joined_word (id ∷ ids)) ≡ Some (id ∷ ids)
unfolding pids_of
ids_read id ids h = ap (with_ids []) (split_joined id ids (are_ids (id ∷ ids) h)) ∙ ids_more [] (id ∷ ids) h

-- a name is no option
no_dash : (c : ℕ) → is_name (45 ∷ c ∷ []) ≡ false
unfolding is_name
no_dash c = refl

no_option : (name : List ℕ) (c : ℕ) → is_name name ≡ true → bytes_eq name (45 ∷ c ∷ []) ≡ false
no_option name c h = at (bytes_eq name (45 ∷ c ∷ [])) refl
  where
    at : (t : Bool) → bytes_eq name (45 ∷ c ∷ []) ≡ t → t ≡ false
    at true e =
        let same = (bytes_eq-Decides name (45 ∷ c ∷ [])).0 e in
        let no : false ≡ true = sym (no_dash c) ∙ sym (ap is_name same) ∙ h in
        sym no
    at false e = refl

-- the choice that a test leaves
passed : {R : Type 0} (b : Bool) (x y z : R) → b ≡ false → y ≡ z → cond b x y ≡ z
passed true x y z e rest = cc
passed false x y z e rest = rest

-- ---- functions

-- no byte of a name is one that no name has
name-apart : (c : ℕ) → is_name_byte c ≡ false → (bs : List ℕ) → list_all is_name_byte bs ≡ true
    → All (λ b. eqb b c ≡ false) bs
name-apart c no_name [] h = All-nil (λ b. eqb b c ≡ false)
name-apart c no_name (b ∷ bs) h =
    let parts = and_parts (is_name_byte b) (list_all is_name_byte bs) h in
    let P : ℕ → Type 0 = λ x. is_name_byte x ≡ true in
    All-cons (λ x. eqb x c ≡ false) b bs (ne_eqb b c (λ e. let here = subst P e parts.0 in cc))
    (name-apart c no_name bs parts.1)

name-bytes : (name : List ℕ) → is_name name ≡ true → list_all is_name_byte name ≡ true
unfolding is_name
name-bytes name h = (and_parts _ (list_all is_name_byte name) h).1

no_plus : is_name_byte 43 ≡ false
unfolding is_name_byte
no_plus = refl

no_colon : is_name_byte 58 ≡ false
unfolding is_name_byte
no_colon = refl

abbrev AreNames : List (List ℕ) → Type 0
AreNames names = AllByRecursion (λ n. is_name n ≡ true) names

names_split : (name : List ℕ) (names : List (List ℕ)) → AreNames (name ∷ names)
    → parts_of (join_with_byte 43 (name ∷ names)) ≡ name ∷ names
names_split name [] all = slice_split_none (λ b. eqb b 43) name (name-apart 43 no_plus name (name-bytes name all.0))
names_split name (next ∷ names) all =
    slice_split_at (λ b. eqb b 43) name 43 (join_with_byte 43 (next ∷ names))
    (name-apart 43 no_plus name (name-bytes name all.0)) refl ∙ ap (λ ns. name ∷ ns) (names_split next names all.1)

names_no_colon : (name : List ℕ) (names : List (List ℕ)) → AreNames (name ∷ names)
    → All (λ b. eqb b 58 ≡ false) (join_with_byte 43 (name ∷ names))
names_no_colon name [] all = name-apart 58 no_colon name (name-bytes name all.0)
names_no_colon name (next ∷ names) all =
    All-append (λ b. eqb b 58 ≡ false) name (43 ∷ join_with_byte 43 (next ∷ names))
    (name-apart 58 no_colon name (name-bytes name all.0))
    (All-cons (λ b. eqb b 58 ≡ false) 43 (join_with_byte 43 (next ∷ names)) refl (names_no_colon next names all.1))

labels_more : (done names : List (List ℕ)) → AreNames names → with_labels done names ≡ Some (done ++ names)
unfolding with_labels
labels_more done [] h = ap Some (sym (append-nil done))
labels_more done (name ∷ names) h =
    ap (λ o. option_and_then (λ n. with_labels (done ++ n ∷ []) names) o) (name_of-name name h.0)
    ∙ labels_more (done ++ name ∷ []) names h.1 ∙ ap Some (append_assoc done (name ∷ []) names)

labels_read : (name : List ℕ) (names : List (List ℕ)) → AreNames (name ∷ names) → length (name ∷ names) ≤ function_limit
    → labels_of (parts_of (join_with_byte 43 (name ∷ names))) ≡ Some (name ∷ names)
unfolding labels_of
labels_read name names all few =
    ap labels_of (names_split name names all)
    ∙ ap (λ b. cond b (with_labels [] (name ∷ names)) None) (le-leb (length (name ∷ names)) function_limit few)
    ∙ labels_more [] (name ∷ names) all

function_names_read : (f : FunctionNames) → is_name f.program ≡ true → SomeNames f.labels
    → length f.labels ≤ function_limit → function_names_of (function_word f) ≡ Some f
unfolding function_names_of function_word
function_names_read f named some few = of f.labels refl some few
  where
    of : (labels : List (List ℕ)) → f.labels ≡ labels → SomeNames labels → length labels ≤ function_limit
        → named_in (slice_split (λ b. b == 58) (f.program ++ 58 ∷ join_with_byte 43 f.labels)) ≡ Some f
    of [] is none few = absurd none
    of (name ∷ names) is all few =
        ap (λ ls. named_in (slice_split (λ b. eqb b 58) (f.program ++ 58 ∷ join_with_byte 43 ls))) is
        ∙ ap named_in
        (slice_split_at (λ b. eqb b 58) f.program 58 (join_with_byte 43 (name ∷ names))
        (name-apart 58 no_colon f.program (name-bytes f.program named)) refl
        ∙ ap (λ ps. f.program ∷ ps)
        (slice_split_none (λ b. eqb b 58) (join_with_byte 43 (name ∷ names)) (names_no_colon name names all)))
        ∙ ap (λ p. named_at p (labels_of (parts_of (join_with_byte 43 (name ∷ names))))) (name_of-name f.program named)
        ∙ ap (named_at (Some f.program)) (labels_read name names all few)
        ∙ ap (λ ls. Some (record f { labels = ls })) (sym is)

function_word_plain : (f : FunctionNames) → is_name f.program ≡ true → SomeNames f.labels
    → list_all is_plain (function_word f) ≡ true
unfolding function_word
function_word_plain f name some = of f.labels some
  where
    names_plain : (n : List ℕ) (ns : List (List ℕ)) → AreNames (n ∷ ns)
        → list_all is_plain (join_with_byte 43 (n ∷ ns)) ≡ true
    names_plain n [] all = (named n all.0).plain
    names_plain n (next ∷ ns) all =
        list_all-append is_plain n (43 ∷ join_with_byte 43 (next ∷ ns))
        ∙ ap (λ b. b && list_all is_plain (join_with_byte 43 (next ∷ ns))) (named n all.0).plain
        ∙ names_plain next ns all.1

    of : (labels : List (List ℕ)) → SomeNames labels
        → list_all is_plain (f.program ++ 58 ∷ join_with_byte 43 labels) ≡ true
    of [] none = absurd none
    of (n ∷ ns) all =
        list_all-append is_plain f.program (58 ∷ join_with_byte 43 (n ∷ ns))
        ∙ ap (λ b. b && list_all is_plain (join_with_byte 43 (n ∷ ns))) (named f.program name).plain
        ∙ names_plain n ns all

function_token : (f : FunctionNames) → is_name f.program ≡ true → SomeNames f.labels → IsToken (function_word f)
unfolding function_word
function_token f name some =
    plain_token (function_word f)
    (omega (arith, (named f.program name).some, length-append f.program (58 ∷ join_with_byte 43 f.labels)))
    (function_word_plain f name some)

-- ---- the words, one after another

-- the options so far, before what is traced is read
abbrev asked : Bool → Bool → Bool → ℕ → ℕ → ℕ → Options
asked f l c calls signals faults =
    record {
      follow = f;
      lwps = l;
      count = c;
      calls = calls;
      signals = signals;
      faults = faults;
      pids = [];
      program =
          None;
      functions = [];
    }

abbrev plain : Bool → Option FunctionNames → Options → Draft
plain m fs o = record { options = o; functions = fs; pending = None; mixed = m }

abbrev awaiting : Bool → ListOption → Options → Draft
awaiting m k o = record { options = o; functions = None; pending = Some k; mixed = m }

abbrev taken : ℕ → Draft → List (List ℕ) → Result Draft WordFault
taken n d words = folded (word_taken false) n d words

module _ (m f l c : Bool) (rest : List (List ℕ)) (r : Result Draft WordFault) where
  calls_read : (n cs ss fs : ℕ) (list : Listing) → IsListing call_numbered list
      → taken (n + 1 + 1) (plain m None (asked f l c (listing_set all_calls list) ss fs)) rest ≡ r
      → taken n (plain m None (asked f l c cs ss fs)) (codes "-t" ∷ listing_word list ∷ rest) ≡ r
  unfolding folded word_taken option_taken list_taken
  calls_read n cs ss fs list h more =
      ap (λ q. with_list false (n + 1) (awaiting m Calls (asked f l c cs ss fs)) (λ set. asked f l c set ss fs) q
      >>= (λ e. taken (n + 1 + 1) e rest)) (list_read call_named call_numbered all_calls list h) ∙ more

  signals_read : (n cs ss fs : ℕ) (list : Listing) → IsListing signal_numbered list
      → taken (n + 1 + 1) (plain m None (asked f l c cs (listing_set all_signals list) fs)) rest ≡ r
      → taken n (plain m None (asked f l c cs ss fs)) (codes "-s" ∷ listing_word list ∷ rest) ≡ r
  unfolding folded word_taken option_taken list_taken
  signals_read n cs ss fs list h more =
      ap (λ q. with_list false (n + 1) (awaiting m Signals (asked f l c cs ss fs)) (λ set. asked f l c cs set fs) q
      >>= (λ e. taken (n + 1 + 1) e rest)) (list_read signal_named signal_numbered all_signals list h) ∙ more

  faults_read : (n cs ss fs : ℕ) (list : Listing) → IsListing fault_numbered list
      → taken (n + 1 + 1) (plain m None (asked f l c cs ss (listing_set all_faults list))) rest ≡ r
      → taken n (plain m None (asked f l c cs ss fs)) (codes "-m" ∷ listing_word list ∷ rest) ≡ r
  unfolding folded word_taken option_taken list_taken
  faults_read n cs ss fs list h more =
      ap (λ q. with_list false (n + 1) (awaiting m Faults (asked f l c cs ss fs)) (λ set. asked f l c cs ss set) q
      >>= (λ e. taken (n + 1 + 1) e rest)) (list_read fault_named fault_numbered all_faults list h) ∙ more

-- functions stand where no word is -f or -c
functions_read : (f l c : Bool) (rest : List (List ℕ)) (r : Result Draft WordFault) (n cs ss fs : ℕ) (g : FunctionNames)
    → is_name g.program ≡ true → SomeNames g.labels → length g.labels ≤ function_limit
    → taken (n + 1 + 1) (plain false (Some g) (asked f l c cs ss fs)) rest ≡ r
    → taken n (plain false None (asked f l c cs ss fs)) (codes "-u" ∷ function_word g ∷ rest) ≡ r
unfolding folded word_taken option_taken list_taken
functions_read f l c rest r n cs ss fs g named some few more =
    ap (λ q. with_functions (n + 1) (awaiting false Functions (asked f l c cs ss fs)) q
    >>= (λ e. taken (n + 1 + 1) e rest)) (function_names_read g named some few) ∙ more

module _ (m : Bool) (gs : Option FunctionNames) (f l c : Bool) (cs ss fs : ℕ) where
  abbrev with_target : Target → Options
  with_target t = record (asked f l c cs ss fs) { pids = target_ids t; program = target_program t }

  name_taken : (n : ℕ) (name : List ℕ) → is_name name ≡ true
      → option_taken n (plain m gs (asked f l c cs ss fs)) name ≡ Ok (plain m gs (with_target (runs name)))
  unfolding option_taken
  name_taken n name h =
      passed _ _ _ _ (no_option name 102 h)
      (passed _ _ _ _ (no_option name 108 h)
      (passed _ _ _ _ (no_option name 99 h) (passed _ _ _ _ (no_option name 105 h)
      (passed _ _ _ _ (no_option name 116 h)
      (passed _ _ _ _ (no_option name 115 h)
      (passed _ _ _ _ (no_option name 109 h) (passed _ _ _ _ (no_option name 112 h)
      (passed _ _ _ _ (no_option name 117 h)
      (ap (with_program n (plain m gs (asked f l c cs ss fs))) (name_of-name name h))))))))))

  target_read : (n : ℕ) (t : Target) → IsTarget t
      → taken n (plain m gs (asked f l c cs ss fs)) (target_words t) ≡ Ok (plain m gs (with_target t))
  unfolding folded word_taken option_taken list_taken target_words IsTarget
  target_read n (processes []) h = absurd h
  target_read n (processes (id ∷ ids)) h =
      ap (λ q.
      with_pids (n + 1)
      (record { options = asked f l c cs ss fs; functions = gs; pending = Some Processes; mixed = m }) q
      >>= (λ e. taken (n + 1 + 1) e [])) (ids_read id ids h)
  target_read n (runs name) h = ap (λ q. q >>= (λ e. taken (n + 1) e [])) (name_taken n name h)

  whole_target : (count : ℕ) (t : Target) → IsTarget t
      → all_asked count (plain m gs (with_target t)) ≡ Ok (record { options = with_target t; functions = gs })
  unfolding all_asked is_whole IsTarget
  whole_target count (processes []) h = absurd h
  whole_target count (processes (id ∷ ids)) h =
      ap (λ b.
      cond (cond b false true) (Ok (record { options = with_target (processes (id ∷ ids)); functions = gs }))
      (Err (BadOption (count - 1)))) (ne_eqb (length (id ∷ ids)) 0 (λ e. absurd (omega arith)))
  whole_target count (runs name) h = refl

-- the functions, and then what is traced
named_read : (m f l c : Bool) (n cs ss fs : ℕ) (gs : Option FunctionNames) (t : Target) → IsTarget t → MayName f c gs
    → (IsSome gs → m ≡ false)
    → taken n (plain m None (asked f l c cs ss fs)) (function_words gs ++ target_words t)
    ≡ Ok (plain m gs (with_target m gs f l c cs ss fs t))
unfolding function_words MayName
named_read m f l c n cs ss fs None t h may alone = target_read m None f l c cs ss fs n t h
named_read m f l c n cs ss fs (Some g) t h may alone = of m (alone refl)
  where
    of : (b : Bool) → b ≡ false
        → taken n (plain b None (asked f l c cs ss fs)) (codes "-u" ∷ function_word g ∷ target_words t)
        ≡ Ok (plain b (Some g) (with_target b (Some g) f l c cs ss fs t))
    of true is = cc
    of false is =
        functions_read f l c (target_words t) _ n cs ss fs g may.2 may.3 may.4
        (target_read false (Some g) f l c cs ss fs (n + 1 + 1) t h)

lists_read : (m f l c : Bool) (n : ℕ) (t : TrussLine) → IsListing call_numbered t.calls
    → IsListing signal_numbered t.signals → IsListing fault_numbered t.faults → IsTarget t.target
    → MayName f c t.functions → (IsSome t.functions → m ≡ false)
    → taken n (plain m None (asked f l c all_calls all_signals all_faults)) (list_words t)
    ≡ Ok (plain m t.functions
    (with_target m t.functions f l c (listing_set all_calls t.calls) (listing_set all_signals t.signals)
    (listing_set all_faults t.faults) t.target))
unfolding list_words
lists_read m f l c n t calls signals faults target may alone =
    let cs = listing_set all_calls t.calls in
    let ss = listing_set all_signals t.signals in
    let fs = listing_set all_faults t.faults in
    calls_read m f l c _ _ n all_calls all_signals all_faults t.calls calls
    (signals_read m f l c _ _ (n + 1 + 1) cs all_signals all_faults t.signals signals
    (faults_read m f l c _ _ (n + 1 + 1 + 1 + 1) cs ss all_faults t.faults faults
    (named_read m f l c (n + 1 + 1 + 1 + 1 + 1 + 1) cs ss fs t.functions t.target target may alone)))

-- the flags come first
flags_read : (m f l c : Bool) (rest : List (List ℕ)) (r : Result Draft WordFault)
    → ((n : ℕ) → taken n (plain m None (asked f l c all_calls all_signals all_faults)) rest ≡ r)
    → taken 0 (start m)
    (flag_words f (codes "-f") ++ (flag_words l (codes "-l") ++ (flag_words c (codes "-c") ++ rest))) ≡ r
unfolding folded word_taken option_taken
flags_read m true true true rest r on = on 3
flags_read m true true false rest r on = on 2
flags_read m true false true rest r on = on 2
flags_read m true false false rest r on = on 1
flags_read m false true true rest r on = on 2
flags_read m false true false rest r on = on 1
flags_read m false false true rest r on = on 1
flags_read m false false false rest r on = on 0

abbrev option_words : TrussLine → List (List ℕ)
option_words t =
    flag_words t.follow (codes "-f")
    ++ (flag_words t.lwps (codes "-l") ++ (flag_words t.count (codes "-c") ++ list_words t))

-- where functions are named, no word is -f or -c
target_flags : (t : Target) → IsTarget t → follows_or_counts false (target_words t) ≡ false
unfolding follows_or_counts takes_list target_words IsTarget
target_flags (processes ids) h = refl
target_flags (runs name) h =
    ap (λ b. b || bytes_eq name (codes "-c") || false) (no_option name 102 h)
    ∙ ap (λ b. b || false) (no_option name 99 h)

list_flags : (t : TrussLine) → IsTarget t.target → follows_or_counts false (list_words t) ≡ false
unfolding follows_or_counts takes_list list_words function_words
list_flags t h = of t.functions
  where
    of : (gs : Option FunctionNames) → follows_or_counts false (function_words gs ++ target_words t.target) ≡ false
    of None = target_flags t.target h
    of (Some g) = target_flags t.target h

flags_alone : (l : Bool) (t : TrussLine) → IsTarget t.target
    → follows_or_counts false (flag_words l (codes "-l") ++ list_words t) ≡ false
unfolding follows_or_counts takes_list
flags_alone true t h = list_flags t h
flags_alone false t h = list_flags t h

alone : (f l c : Bool) (t : TrussLine) (gs : Option FunctionNames) → IsTarget t.target → MayName f c gs → IsSome gs
    → follows_or_counts false
    (flag_words f (codes "-f") ++ (flag_words l (codes "-l") ++ (flag_words c (codes "-c") ++ list_words t))) ≡ false
unfolding MayName
alone f l c t None h may some = let no : false ≡ true = some in absurd (cc)
alone true l c t (Some g) h may some = let no : true ≡ false = may.0 in absurd (cc)
alone false l true t (Some g) h may some = let no : true ≡ false = may.1 in absurd (cc)
alone false l false t (Some g) h may some = flags_alone l t h

asked_read : (t : TrussLine) → IsTrussLine t → asked_of (option_words t) ≡ Ok (truss_asked t)
unfolding asked_in truss_options IsTrussLine
asked_read t h =
    let m = follows_or_counts false (option_words t) in
    ap (λ q. q >>= all_asked (length (option_words t)))
    (flags_read m t.follow t.lwps t.count (list_words t) _
    (λ n. lists_read m t.follow t.lwps t.count n t h.0 h.1 h.2 h.3 h.4
    (alone t.follow t.lwps t.count t t.functions h.3 h.4)))
    ∙ whole_target m t.functions t.follow t.lwps t.count (listing_set all_calls t.calls)
    (listing_set all_signals t.signals) (listing_set all_faults t.faults) (length (option_words t)) t.target h.3

-- ---- the line

truss_item : (t : TrussLine) → IsTrussLine t → item_of (truss_words t) ≡ Ok (item.Truss (truss_asked t))
unfolding item_of item_with begins_comment truss_of truss_words
truss_item t h = ap (truss_read (option_words t)) (asked_read t h)

tokens_after : (xs ys : List (List ℕ)) → AllByRecursion IsToken xs → AllByRecursion IsToken ys
    → AllByRecursion IsToken (xs ++ ys)
tokens_after [] ys all more = more
tokens_after (x ∷ xs) ys all more = (all.0, tokens_after xs ys all.1 more)

flag_tokens : (b : Bool) (word : List ℕ) → IsToken word → AllByRecursion IsToken (flag_words b word)
flag_tokens true word h = (h, tt)
flag_tokens false word h = tt

target_tokens : (t : Target) → IsTarget t → AllByRecursion IsToken (target_words t)
unfolding target_words IsTarget
target_tokens (processes []) h = absurd h
target_tokens (processes (id ∷ ids)) h =
    (plain_token (codes "-p") (omega arith) refl, (joined_token id ids (are_ids (id ∷ ids) h), tt))
target_tokens (runs name) h = (name_token name h, tt)

function_tokens : (f c : Bool) (gs : Option FunctionNames) → MayName f c gs → AllByRecursion IsToken (function_words gs)
unfolding function_words MayName
function_tokens f c None may = tt
function_tokens f c (Some g) may = (plain_token (codes "-u") (omega arith) refl, (function_token g may.2 may.3, tt))

truss_tokens : (t : TrussLine) → IsTrussLine t → AllByRecursion IsToken (truss_words t)
unfolding truss_words list_words IsTrussLine
truss_tokens t h = (
  plain_token (codes "truss") (omega arith) refl,
  tokens_after _ _ (flag_tokens t.follow (codes "-f") (plain_token (codes "-f") (omega arith) refl))
      (tokens_after _ _ (flag_tokens t.lwps (codes "-l") (plain_token (codes "-l") (omega arith) refl))
      (tokens_after _ _ (flag_tokens t.count (codes "-c") (plain_token (codes "-c") (omega arith) refl)) (
        plain_token (codes "-t") (omega arith) refl,
        (
          listing_token call_named call_numbered all_calls t.calls h.0,
          (
            plain_token (codes "-s") (omega arith) refl,
            (
              listing_token signal_named signal_numbered all_signals t.signals h.1,
              (
                plain_token (codes "-m") (omega arith) refl,
                (
                  listing_token fault_named fault_numbered all_faults t.faults h.2,
                  tokens_after _ _ (function_tokens t.follow t.count t.functions h.4) (target_tokens t.target h.3),
                ),
              ),
            ),
          ),
        ),
      ))),
)

pub truss_line_read : (t : TrussLine) → IsTrussLine t
    → item_of (texts_of (spaced (truss_words t))) ≡ Ok (item.Truss (truss_asked t))
truss_line_read t h = ap item_of (texts_of-spaced (truss_words t) (truss_tokens t h)) ∙ truss_item t h
