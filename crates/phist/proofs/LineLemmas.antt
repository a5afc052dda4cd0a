-- Each program of a scenario has its own lines in the text from which the scenario was read.
use Rattle.std.proofs.Common.{◌≡◌, ℕ, ◌+◌, ◌||◌, Bool, true, false, cond, Some, List, [], ◌∷◌, ◌++◌, drop, length, map, Ok, IfOk, refl, sym, ap, ◌∙◌, subst, append_assoc, append-nil, arith}
use Rattle.std.specs.Prelude.{codes}
use Rattle.std.specs.List.{All, flat_map}
use Rattle.std.proofs.lemmas.List.{drop_at, length-append, length-map, map-append, take_at}
use Rattle.std.proofs.lemmas.List.Concat.{flat_map-append}
use Rattle.std.proofs.lemmas.List.Elements.{All-head, All-nil, All-push, All-tail}
use Rattle.std.proofs.lemmas.Slice.Eq.{bytes_eq-Decides}
use Rattle.pr_asm.specs.Names.{label_of}
use Rattle.pr_asm.specs.Statements.{instruction_of, label_or, statement_in, statement_of, statement_with}
use Rattle.pr_asm.specs.Mnemonics.{mnemonic_name}
use Rattle.pr_hist.specs.Listings.{Listing}
use Rattle.pr_num.specs.Programs.{Program as ProgramOf}
use Rattle.pr_scen.proofs.StepLemmas.{of_ok, then_ok}
use Rattle.pr_scen.specs.Blocks.{item_in, part_added, parts_added, program_read}
use Rattle.pr_scen.specs.Drafts.{made, nothing}
use Rattle.pr_scen.specs.Lines.{first_is, is_end}
use Rattle.pr_scen.specs.Parts.{Part, begins_block, block, block_from, endless, line, parts_from}
use Rattle.pr_scen.specs.Reading.{draft_in, finished, scenario_in, scenario_of}
use Rattle.pr_scen.specs.Scenarios.{Scenario}
use Rattle.pr_scen.specs.declared.drafts.Draft.{Draft}
use Rattle.pr_scen.specs.declared.items.Item.TheVariants as item
use Rattle.pr_text.specs.Comments.{begins_comment}
use Rattle.pr_text.specs.TextLines.{lines_of}
use Rattle.pr_text.specs.Words.{texts_of}
use Rattle.phist.proofs.CodeLemmas.{block-program, coded, numbers-coded, numbers-push}
use Rattle.phist.proofs.DraftLemmas.{Has, endless-refused, line-keeps, program-adds, script-keeps}
use Rattle.phist.specs.Sources.{HasItsLines, block_after, code_after, code_from, code_lines, code_numbers, instruction_at, is_code, is_code_of, listings_of, names_in}
use Rattle.phist.specs.declared.sources.Block.{Block}
use Rattle.phist.specs.declared.sources.Block.TheVariants.{Outside, Program, Script}

-- ---- programs that were read

-- Programs of a text with the numbers of all their lines, one program after another: each has its own.
record AreListed (text : List (List ℕ)) (numbers : List ℕ) (programs : List ProgramOf) : Type 0 where
  listings : List Listing
  programs_are : map (λ (l : Listing). l.program) listings ≡ programs
  numbers_are : flat_map (λ (l : Listing). l.lines) listings ≡ numbers
  each : All (HasItsLines text) listings

none-listed : (text : List (List ℕ)) → AreListed text [] []
none-listed text =
    record { listings = []; programs_are = refl; numbers_are = refl; each = All-nil (HasItsLines text) }

-- one program more, with its lines
listed-push : (text : List (List ℕ)) (numbers own : List ℕ) (programs : List ProgramOf) (p : ProgramOf)
    → AreListed text numbers programs
    → HasItsLines text (record { program = p; lines = own })
    → AreListed text (numbers ++ own) (programs ++ p ∷ [])
listed-push text numbers own programs p listed has =
    let l : Listing = record { program = p; lines = own } in
    record {
      listings = listed.listings ++ l ∷ [];
      programs_are =
          map-append (λ (k : Listing). k.program) listed.listings (l ∷ [])
          ∙ ap (λ (ps : List ProgramOf). ps ++ p ∷ []) listed.programs_are;
      numbers_are =
          flat_map-append (λ (k : Listing). k.lines) listed.listings (l ∷ [])
          ∙ ap (λ (ns : List ℕ). ns ++ (own ++ [])) listed.numbers_are
          ∙ ap (λ (ns : List ℕ). numbers ++ ns) (append-nil own);
      each = All-push (HasItsLines text) listed.listings l listed.each has;
    }

-- a program that was read from its block
block-listed : (text above : List (List ℕ)) (n : ℕ) (first : List ℕ) (body below : List (List ℕ)) (numbers : List ℕ)
    (programs : List ProgramOf) → text ≡ above ++ first ∷ (body ++ below) → n ≡ length above + 1
    → AreListed text numbers programs → (name : List ℕ) (p : ProgramOf) → item_in first ≡ Ok (item.Program name)
    → program_read name (n + 1) body ≡ Ok p
    → AreListed text (numbers ++ code_numbers (n + 1) body) (programs ++ p ∷ [])
block-listed text above n first body below numbers programs stands is listed name p begins read =
    let m = length above + 2 in
    let at : n + 1 ≡ m = omega (arith, is) in
    let from_m : program_read name m body ≡ Ok p =
    subst (λ (k : ℕ). program_read name k body ≡ Ok p) at read in
    let coded_are =
    numbers-coded (names_in m body) text (above ++ first ∷ []) body below (n + 1)
    (stands ∙ sym (append_assoc above (first ∷ []) (body ++ below)))
    (omega (arith, is, length-append above (first ∷ []))) in
    listed-push text numbers (code_numbers (n + 1) body) programs p listed (record {
      above = above;
      first = first;
      body = body;
      below = below;
      stands = stands;
      name = name;
      begins = begins;
      read = from_m;
      numbers = ap (λ (k : ℕ). code_numbers k body) at;
      each =
          coded_are
          ∙ sym (of_ok (λ (q : ProgramOf). map Some q.code ≡ coded (names_in m body) body) (program_read name m body) p
          from_m (block-program name m body));
    })

-- a program that has its own lines has as many as instructions
as-many : (text : List (List ℕ)) (l : Listing) → HasItsLines text l → length l.lines ≡ length l.program.code
as-many text l has =
    let names = names_in (length has.above + 2) has.body in
    omega (
      arith,
      ap length has.each,
      length-map l.lines (instruction_at names text),
      length-map l.program.code Some,
    )

-- so they are listed as they stand
listings-are : (text : List (List ℕ)) (listings : List Listing) → All (HasItsLines text) listings
    → listings_of (map (λ (l : Listing). l.program) listings) (flat_map (λ (l : Listing). l.lines) listings) ≡ listings
unfolding listings_of
listings-are text [] each = refl
listings-are text (l ∷ ls) each =
    let programs = map (λ (k : Listing). k.program) ls in
    let others = flat_map (λ (k : Listing). k.lines) ls in
    let count = length l.program.code in
    let many : length l.lines ≡ count = as-many text l (All-head (HasItsLines text) l ls each) in
    let with_lines : List ℕ → Listing = λ own. record { program = l.program; lines = own } in
    ap (λ (own : List ℕ). with_lines own ∷ listings_of programs (drop count (l.lines ++ others)))
    (take_at l.lines others count many)
    ∙ ap (λ (ns : List ℕ). l ∷ listings_of programs ns) (drop_at l.lines others count many)
    ∙ ap (λ (ks : List Listing). l ∷ ks) (listings-are text ls (All-tail (HasItsLines text) l ls each))

-- ---- how a block ends

-- a line that ends a block is no instruction
end-is-none : (operands : List (List ℕ)) → is_code_of (statement_in (codes "end" ∷ operands)) ≡ false
unfolding statement_in label_of label_or statement_with instruction_of begins_comment mnemonic_name
end-is-none operands = refl

row-is-none : (row : List (List ℕ)) → first_is (codes "end") row ≡ true → is_code_of (statement_in row) ≡ false
row-is-none [] is = let no : ⊥ = cc in absurd no
row-is-none (first ∷ operands) is =
    subst (λ (w : List ℕ). is_code_of (statement_in (w ∷ operands)) ≡ false)
    (sym ((bytes_eq-Decides first (codes "end")).0 is)) (end-is-none operands)

ending-is-none : (this : List ℕ) → is_end this ≡ true → is_code this ≡ false
unfolding is_end is_code statement_of
ending-is-none this is = row-is-none (texts_of this) is

-- the numbers behind a line of a program, and of a script: it ends the block, or the block goes on
program-ends : (m : ℕ) (numbers : List ℕ) (this : List ℕ) (below : List (List ℕ)) → is_end this ≡ true
    → code_from m Program numbers (this ∷ below) ≡ code_from (m + 1) Outside numbers below
unfolding code_from code_after block_after
program-ends m numbers this below is =
    ap
    (λ (b : Bool). code_from (m + 1) (cond b Outside Program) (cond (is_code this) (numbers ++ m ∷ []) numbers) below)
    is
    ∙ ap (λ (b : Bool). code_from (m + 1) Outside (cond b (numbers ++ m ∷ []) numbers) below) (ending-is-none this is)

program-goes-on : (m : ℕ) (numbers : List ℕ) (this : List ℕ) (below : List (List ℕ)) → is_end this ≡ false
    → code_from m Program numbers (this ∷ below)
    ≡ code_from (m + 1) Program (cond (is_code this) (numbers ++ m ∷ []) numbers) below
unfolding code_from code_after block_after
program-goes-on m numbers this below is =
    ap
    (λ (b : Bool). code_from (m + 1) (cond b Outside Program) (cond (is_code this) (numbers ++ m ∷ []) numbers) below)
    is

script-ends : (m : ℕ) (numbers : List ℕ) (this : List ℕ) (below : List (List ℕ)) → is_end this ≡ true
    → code_from m Script numbers (this ∷ below) ≡ code_from (m + 1) Outside numbers below
unfolding code_from code_after block_after
script-ends m numbers this below is =
    ap (λ (b : Bool). code_from (m + 1) (cond b Outside Script) numbers below) is

script-goes-on : (m : ℕ) (numbers : List ℕ) (this : List ℕ) (below : List (List ℕ)) → is_end this ≡ false
    → code_from m Script numbers (this ∷ below) ≡ code_from (m + 1) Script numbers below
unfolding code_from code_after block_after
script-goes-on m numbers this below is =
    ap (λ (b : Bool). code_from (m + 1) (cond b Outside Script) numbers below) is

noted : (n : ℕ) (numbers : List ℕ) (is : Bool) → cond is (numbers ++ n ∷ []) numbers ≡ numbers ++ cond is (n ∷ []) []
noted n numbers true = refl
noted n numbers false = sym (append-nil numbers)

-- the numbers of a block with one line more
more-noted : (n : ℕ) (numbers : List ℕ) (body : List (List ℕ)) (this : List ℕ)
    → cond (is_code this) ((numbers ++ code_numbers n body) ++ (n + length body) ∷ []) (numbers ++ code_numbers n body)
    ≡ numbers ++ code_numbers n (body ++ this ∷ [])
more-noted n numbers body this =
    let own = code_numbers n body in
    let last : List ℕ = cond (is_code this) ((n + length body) ∷ []) [] in
    noted (n + length body) (numbers ++ own) (is_code this)
    ∙ append_assoc numbers own last
    ∙ ap (λ (ns : List ℕ). numbers ++ ns) (sym (numbers-push n body this))

-- ---- the lines of all parts

-- what the first part makes, and then the others
then-parts : (d : Draft) (part : Part) (parts : List Part) (P Q : List ProgramOf → Type 0)
    → IfOk (part_added d part) (Has P)
    → ((e : Draft) → Has P e → IfOk (parts_added e parts) (Has Q))
    → IfOk (parts_added d (part ∷ parts)) (Has Q)
unfolding parts_added
then-parts d part parts P Q first others =
    then_ok (Has Q) (part_added d part) _
    (λ e added. others e (of_ok (Has P) (part_added d part) e added first))

-- a line outside of blocks by its first word
abbrev on_line : ℕ → List ℕ → List (List ℕ) → Bool → List Part
on_line n this below b = cond b (block_from n this [] below) (line n this ∷ parts_from (n + 1) below)

by-line : (d : Draft) (n : ℕ) (this : List ℕ) (below : List (List ℕ)) (P Q : List ProgramOf → Type 0)
    (numbers all : List ℕ) (a b : Bool)
    → Has P d → code_from (n + 1) (cond a Program (cond b Script Outside)) numbers below ≡ all
    → (a ≡ true → code_from (n + 1) Program numbers below ≡ all
    → IfOk (parts_added d (block_from n this [] below)) (Has Q))
    → (b ≡ true → code_from (n + 1) Script numbers below ≡ all
    → IfOk (parts_added d (block_from n this [] below)) (Has Q))
    → ((e : Draft) → Has P e → code_from (n + 1) Outside numbers below ≡ all
    → IfOk (parts_added e (parts_from (n + 1) below)) (Has Q))
    → IfOk (parts_added d (on_line n this below (a || b))) (Has Q)
unfolding part_added
by-line d n this below P Q numbers all true b so ends program script outside = program refl ends
by-line d n this below P Q numbers all false true so ends program script outside = script refl ends
by-line d n this below P Q numbers all false false so ends program script outside =
    then-parts d (line n this) (parts_from (n + 1) below) P Q (line-keeps d n this P so)
    (λ e now. outside e now ends)

-- a line within a block: it ends it, or the block goes on
abbrev on_inner : ℕ → List ℕ → List (List ℕ) → List ℕ → List (List ℕ) → Bool → List Part
on_inner n first body this below b =
    cond b (block n first body this ∷ parts_from (n + (length body + 2)) below)
    (block_from n first (body ++ this ∷ []) below)

by-inner : (d : Draft) (n : ℕ) (first : List ℕ) (body : List (List ℕ)) (this : List ℕ) (below : List (List ℕ))
    (Q : List ProgramOf → Type 0) (b : Bool) → is_end this ≡ b
    → (is_end this ≡ true
    → IfOk (parts_added d (block n first body this ∷ parts_from (n + (length body + 2)) below)) (Has Q))
    → (is_end this ≡ false → IfOk (parts_added d (block_from n first (body ++ this ∷ []) below)) (Has Q))
    → IfOk (parts_added d (on_inner n first body this below b)) (Has Q)
by-inner d n first body this below Q true is ends goes-on = ends is
by-inner d n first body this below Q false is ends goes-on = goes-on is

no-parts : (P : List ProgramOf → Type 0) (e : Draft) → Has P e → IfOk (parts_added e []) (Has P)
unfolding parts_added
no-parts P e now = now

never-ends : (d : Draft) (n : ℕ) (first : List ℕ) (P : List ProgramOf → Type 0)
    → IfOk (parts_added d (endless n first ∷ [])) (Has P)
never-ends d n first P =
    then-parts d (endless n first) [] P P (endless-refused (Has P) d n first) (no-parts P)

-- a block with one line more, and what stands above the line behind it
longer : (above : List (List ℕ)) (first : List ℕ) (body : List (List ℕ)) (this : List ℕ) (below : List (List ℕ))
    → above ++ first ∷ (body ++ this ∷ below) ≡ above ++ first ∷ ((body ++ this ∷ []) ++ below)
longer above first body this below =
    ap (λ (lines : List (List ℕ)). above ++ first ∷ lines) (sym (append_assoc body (this ∷ []) below))

behind : (above : List (List ℕ)) (first : List ℕ) (body : List (List ℕ)) (this : List ℕ) (below : List (List ℕ))
    → above ++ first ∷ (body ++ this ∷ below) ≡ (above ++ first ∷ (body ++ this ∷ [])) ++ below
behind above first body this below =
    longer above first body this below ∙ sym (append_assoc above (first ∷ (body ++ this ∷ [])) below)

count-behind : (n : ℕ) (above : List (List ℕ)) (first : List ℕ) (body : List (List ℕ)) (this : List ℕ)
    → n ≡ length above + 1 → n + (length body + 2) ≡ length (above ++ first ∷ (body ++ this ∷ [])) + 1
count-behind n above first body this is =
    omega (
      arith,
      is,
      length-append above (first ∷ (body ++ this ∷ [])),
      length-append body (this ∷ []),
    )

-- the numbers from the line on that stands behind so many lines of a block
abbrev from_behind : ℕ → List (List ℕ) → Block → List ℕ → List (List ℕ) → List ℕ
from_behind n body b numbers lines = code_from (n + 1 + length body) b numbers lines

same-place : (m k : ℕ) (b : Block) (numbers : List ℕ) (lines : List (List ℕ)) → m ≡ k
    → code_from m b numbers lines ≡ code_from k b numbers lines
same-place m k b numbers lines is = ap (λ (i : ℕ). code_from i b numbers lines) is

mutual
  unfolding parts_from block_from begins_block block_after code_after code_from code_numbers parts_added

  outside : (text : List (List ℕ)) (all : List ℕ) (d : Draft) (n : ℕ) (above lines : List (List ℕ)) (numbers : List ℕ)
      → text ≡ above ++ lines → n ≡ length above + 1 → AreListed text numbers d.programs
      → code_from n Outside numbers lines ≡ all
      → IfOk (parts_added d (parts_from n lines)) (Has (AreListed text all))
  outside text all d n above [] numbers stands is listed ends =
      subst (λ (ns : List ℕ). AreListed text ns d.programs) ends listed
  outside text all d n above (this ∷ below) numbers stands is listed ends =
      by-line d n this below (AreListed text numbers) (AreListed text all) numbers all
      (first_is (codes "program") (texts_of this)) (first_is (codes "script") (texts_of this)) listed ends
      (λ begins now. in-program text all d n above this [] below numbers stands is begins listed
      (same-place (n + 1 + length {A = List ℕ} []) (n + 1) Program (numbers ++ []) below (omega arith)
      ∙ ap (λ (ns : List ℕ). code_from (n + 1) Program ns below) (append-nil numbers)
      ∙ now))
      (λ begins now. in-script text all d n above this [] below numbers stands is begins listed
      (same-place (n + 1 + length {A = List ℕ} []) (n + 1) Script numbers below (omega arith) ∙ now))
      (λ e now ending. outside text all e (n + 1) (above ++ this ∷ []) below numbers
      (stands ∙ sym (append_assoc above (this ∷ []) below)) (omega (arith, is, length-append above (this ∷ []))) now
      ending)

  in-program : (text : List (List ℕ)) (all : List ℕ) (d : Draft) (n : ℕ) (above : List (List ℕ)) (first : List ℕ)
      (body lines : List (List ℕ)) (numbers : List ℕ)
      → text ≡ above ++ first ∷ (body ++ lines) → n ≡ length above + 1
      → first_is (codes "program") (texts_of first) ≡ true → AreListed text numbers d.programs
      → from_behind n body Program (numbers ++ code_numbers (n + 1) body) lines ≡ all
      → IfOk (parts_added d (block_from n first body lines)) (Has (AreListed text all))
  in-program text all d n above first body [] numbers stands is begins listed ends =
      never-ends d n first (AreListed text all)
  in-program text all d n above first body (this ∷ below) numbers stands is begins listed ends =
      let m = n + 1 + length body in
      let so_far = numbers ++ code_numbers (n + 1) body in
      by-inner d n first body this below (AreListed text all) (is_end this) refl
      (λ over. then-parts d (block n first body this) (parts_from (n + (length body + 2)) below)
      (AreListed text so_far) (AreListed text all)
      (program-adds (AreListed text so_far) d n first body this begins
      (block-listed text above n first body (this ∷ below) numbers d.programs stands is listed))
      (λ e now. outside text all e (n + (length body + 2)) (above ++ first ∷ (body ++ this ∷ [])) below so_far
      (stands ∙ behind above first body this below) (count-behind n above first body this is) now
      (same-place (n + (length body + 2)) (m + 1) Outside so_far below (omega arith)
      ∙ sym (program-ends m so_far this below over)
      ∙ ends)))
      (λ over. in-program text all d n above first (body ++ this ∷ []) below numbers
      (stands ∙ longer above first body this below) is begins listed
      (same-place (n + 1 + length (body ++ this ∷ [])) (m + 1) Program
      (numbers ++ code_numbers (n + 1) (body ++ this ∷ [])) below (omega (arith, length-append body (this ∷ [])))
      ∙ ap (λ (ns : List ℕ). code_from (m + 1) Program ns below) (sym (more-noted (n + 1) numbers body this))
      ∙ sym (program-goes-on m so_far this below over)
      ∙ ends))

  in-script : (text : List (List ℕ)) (all : List ℕ) (d : Draft) (n : ℕ) (above : List (List ℕ)) (first : List ℕ)
      (body lines : List (List ℕ)) (numbers : List ℕ)
      → text ≡ above ++ first ∷ (body ++ lines) → n ≡ length above + 1
      → first_is (codes "script") (texts_of first) ≡ true → AreListed text numbers d.programs
      → from_behind n body Script numbers lines ≡ all
      → IfOk (parts_added d (block_from n first body lines)) (Has (AreListed text all))
  in-script text all d n above first body [] numbers stands is begins listed ends =
      never-ends d n first (AreListed text all)
  in-script text all d n above first body (this ∷ below) numbers stands is begins listed ends =
      let m = n + 1 + length body in
      by-inner d n first body this below (AreListed text all) (is_end this) refl
      (λ over. then-parts d (block n first body this) (parts_from (n + (length body + 2)) below)
      (AreListed text numbers) (AreListed text all)
      (script-keeps d n first body this (AreListed text numbers) begins listed)
      (λ e now. outside text all e (n + (length body + 2)) (above ++ first ∷ (body ++ this ∷ [])) below numbers
      (stands ∙ behind above first body this below) (count-behind n above first body this is) now
      (same-place (n + (length body + 2)) (m + 1) Outside numbers below (omega arith)
      ∙ sym (script-ends m numbers this below over)
      ∙ ends)))
      (λ over. in-script text all d n above first (body ++ this ∷ []) below numbers
      (stands ∙ longer above first body this below) is begins listed
      (same-place (n + 1 + length (body ++ this ∷ [])) (m + 1) Script numbers below
      (omega (arith, length-append body (this ∷ [])))
      ∙ sym (script-goes-on m numbers this below over)
      ∙ ends))

-- ---- the scenario

-- The programs of a scenario that was read are listed with the lines of all instructions.
programs-are-listed : (text : List ℕ) (s : Scenario) → scenario_of text ≡ Ok s
    → AreListed (lines_of text) (code_lines text) s.programs
unfolding scenario_in draft_in made
programs-are-listed text s is =
    let lines = lines_of text in
    let Listed : Scenario → Type 0 = λ x. AreListed lines (code_lines text) x.programs in
    of_ok Listed (scenario_of text) s is
    (then_ok Listed (parts_added nothing (parts_from 1 lines)) finished
    (λ d added. of_ok (Has (AreListed lines (code_lines text))) (parts_added nothing (parts_from 1 lines)) d added
    (outside lines (code_lines text) nothing 1 [] lines [] refl (omega arith) (none-listed lines) refl)))

-- Each program of a scenario that was read has its own lines.
pub programs-have-their-lines : (text : List ℕ) (s : Scenario) → scenario_of text ≡ Ok s
    → All (HasItsLines (lines_of text)) (listings_of s.programs (code_lines text))
programs-have-their-lines text s is =
    let listed = programs-are-listed text s is in
    let programs = map (λ (l : Listing). l.program) listed.listings in
    let same : listings_of s.programs (code_lines text) ≡ listed.listings =
    ap (λ (ps : List ProgramOf). listings_of ps (code_lines text)) (sym listed.programs_are)
    ∙ ap (λ (ns : List ℕ). listings_of programs ns) (sym listed.numbers_are)
    ∙ listings-are (lines_of text) listed.listings listed.each in
    subst (λ (ls : List Listing). All (HasItsLines (lines_of text)) ls) (sym same) listed.each
