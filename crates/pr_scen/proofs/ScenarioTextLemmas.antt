-- Each scenario has a text.
use Rattle.std.proofs.Common.{◌≡◌, ℕ, zero, suc, ◌+◌, ◌<◌, ◌≤◌, Bool, true, false, not, ◌||◌, cond, nat_lt, Some, None, is_some, List, [], ◌∷◌, ◌++◌, length, map, get_or, option_map, slice_get, Result, Ok, Err, refl, sym, ◌∙◌, ap, arith}
use Rattle.std.specs.Prelude.{nat_le, All, sum_by, count_by}
use Rattle.std.specs.List.{AllByRecursion, list_any, position_from}
use Rattle.std.specs.Str.{bytes_eq}
use Rattle.std.proofs.lemmas.Bool.{and_parts, lt-ltb, le-leb, not-true}
use Rattle.std.proofs.lemmas.List.{append_assoc, append-nil, length-append, length-map, map-append}
use Rattle.std.proofs.lemmas.List.Elements.{All-head, All-tail}
use Rattle.std.proofs.lemmas.List.Sums.{sum_by-cons}
use Rattle.std.proofs.lemmas.Slice.Eq.{bytes_eq-Decides}
use Rattle.pr_num.specs.Limits.{all_mappings_limit, controller_limit, file_limit, file_size_limit, list_line_limit, program_limit, schedule_limit, spawn_limit}
use Rattle.pr_num.specs.Programs.{Program}
use Rattle.pr_parts.specs.FileTables.{names_differ, has_name}
use Rattle.pr_asm.specs.Assembly.{assembled}
use Rattle.pr_asm.specs.declared.statements.Statement.{Statement}
use Rattle.pr_model.specs.FirstState.{first_size, size_at_start, mapped_at_start, stored_file}
use Rattle.pr_model.specs.declared.events.Actor.{Actor}
use Rattle.pr_text.specs.Steps.{◌>>=◌, ok_or, folded}
use Rattle.pr_scen.proofs.LimitLemmas.{not_found}
use Rattle.pr_scen.proofs.TextLemmas.{text_read}
use Rattle.pr_scen.specs.Blocks.{numbered, first_of_both}
use Rattle.pr_scen.specs.Drafts.{nothing, with_turns, with_file, with_process, with_spawn, with_schedule, with_item, may_begin, with_program, call_added, with_script, made}
use Rattle.pr_scen.specs.Names.{place_of}
use Rattle.pr_scen.specs.Reading.{finished, scenario_of}
use Rattle.pr_scen.specs.ScenarioText.{names_of, program_piece, file_piece, spawn_piece, plan_piece, turn_piece, pieces_of, AreSources, OwnNames, SpawnsOneOf, IsFirstPlan, IsWritten}
use Rattle.pr_scen.specs.Scenarios.{Scenario, is_list, lists_in, IsWithinLimits}
use Rattle.pr_scen.specs.Scripts.{first_script}
use Rattle.pr_scen.specs.TextEncoding.{Piece, outside, program, script, piece_lines, text_of_pieces, call_read, piece_added, pieces_added}
use Rattle.pr_scen.specs.declared.drafts.Draft.{Draft}
use Rattle.pr_scen.specs.declared.items.Item.TheVariants as item
use Rattle.pr_scen.specs.declared.plans.Plan.{Plan}
use Rattle.pr_scen.specs.declared.plans.Plan.TheVariants.{Script}
use Rattle.pr_scen.specs.Refusals.{ScenFault}
use Rattle.pr_scen.specs.declared.refusals.ScenKind.TheVariants.{UnknownName, Double, TooMany, TooBig}
use Rattle.pr_scen.specs.declared.script_lines.ScriptLine.{ScriptLine}
use Rattle.pr_scen.specs.declared.script_lines.ScriptLine.TheVariants as call
use Rattle.pr_num.proofs.ListLemmas.{bytes_eq-self}

-- ---- names

found_behind : (above below : List (List ℕ)) (name : List ℕ) (k : ℕ) → position_from (bytes_eq name) k above ≡ None
    → position_from (bytes_eq name) k (above ++ name ∷ below) ≡ Some (k + length above)
found_behind [] below name k fresh =
    ap (λ b. cond b (Some k) (position_from (bytes_eq name) (k + 1) below)) (bytes_eq-self name) ∙ ap Some (omega arith)
found_behind (a ∷ above) below name k fresh =
    let apart = not_found (bytes_eq name a) k (position_from (bytes_eq name) (k + 1) above) fresh in
    ap (λ b. cond b (Some k) (position_from (bytes_eq name) (k + 1) (above ++ name ∷ below))) apart.0
    ∙ found_behind above below name (k + 1) apart.1
    ∙ ap Some (omega arith)

own_place : (above names : List (List ℕ)) (i : ℕ) → OwnNames above names → i < length names
    → place_of (above ++ names) (get_or names i []) ≡ Some (length above + i)
unfolding place_of OwnNames
own_place above [] i own inside = absurd (omega arith)
own_place above (name ∷ names) zero own inside = found_behind above names name 0 own.0 ∙ ap Some (omega arith)
own_place above (name ∷ names) (suc i) own inside =
    ap (λ ns. position_from (bytes_eq (get_or names i [])) 0 ns) (sym (append_assoc above (name ∷ []) names))
    ∙ own_place (above ++ name ∷ []) names i own.1 (omega arith)
    ∙ ap Some (omega (arith, length-append above (name ∷ [])))

-- the names of files that differ are their own
no_other : {X : Type 0} (p : X → Bool) (x : X) (above below : List X) → list_any p (above ++ x ∷ below) ≡ false
    → p x ≡ false
no_other p x [] below none = at (p x) none
  where
    at : (b : Bool) → (b || list_any p below) ≡ false → b ≡ false
    at true e = cc
    at false e = refl
no_other p x (a ∷ above) below none = at (p a) none (λ more. no_other p x above below more)
  where
    at : (b : Bool) → (b || list_any p (above ++ x ∷ below)) ≡ false
        → (list_any p (above ++ x ∷ below) ≡ false → p x ≡ false) → p x ≡ false
    at true e on = cc
    at false e on = on e

fresh_file : (above below : List (List ℕ × List ℕ)) (f : List ℕ × List ℕ) (k : ℕ)
    → names_differ (map stored_file above ++ stored_file f ∷ map stored_file below) ≡ true
    → position_from (bytes_eq f.0) k (map (λ g. g.0) above) ≡ None
fresh_file [] below f k own = refl
fresh_file (a ∷ above) below f k own =
    let apart =
    and_parts (not (list_any (has_name a.0) (map stored_file above ++ stored_file f ∷ map stored_file below)))
    (names_differ (map stored_file above ++ stored_file f ∷ map stored_file below)) own in
    ap (λ b. cond b (Some k) (position_from (bytes_eq f.0) (k + 1) (map (λ g. g.0) above)))
    (no_other (has_name a.0) (stored_file f) (map stored_file above) (map stored_file below) (not-true _ apart.0))
    ∙ fresh_file above below f (k + 1) apart.1

none_more : (k : ℕ) → k ≡ k + 0
none_more k = omega arith

-- ---- pieces, one after another

piece_first : (n : ℕ) (d e : Draft) (p : Piece) (rest : List Piece) (r : Result Draft ScenFault)
    → piece_added n d p ≡ Ok e → ((m : ℕ) → pieces_added m e rest ≡ r) → pieces_added n d (p ∷ rest) ≡ r
unfolding pieces_added
piece_first n d e p rest r is on =
    ap (λ q. q >>= (λ x. pieces_added (n + length (piece_lines p)) x rest)) is ∙ on (n + length (piece_lines p))

-- what was read so far, outside scripts, where all of it is built
abbrev drafted : ℕ → List (List ℕ) → List Program → List (List ℕ × List ℕ) → List ℕ → ℕ → List Plan → ℕ → List Actor
    → Draft
drafted turns names programs files spawns mapped controllers lists schedule = record {
  turns = Some turns;
  program_names = names;
  programs = programs;
  file_names = map (λ f. f.0) files;
  files = files;
  spawns = spawns;
  mapped = mapped;
  controllers = controllers;
  lists = lists;
  schedule = schedule;
  lines = [];
}

turns_added : (n t : ℕ) → t ≤ schedule_limit
    → piece_added n nothing (outside (item.Turns t)) ≡ Ok (drafted t [] [] [] [] 0 [] 0 [])
unfolding piece_added with_item with_turns
turns_added n t most =
    ap (λ b. numbered n (cond b (Ok (drafted t [] [] [] [] 0 [] 0 [])) (Err TooMany))) (le-leb t schedule_limit most)

module _ (rest : List Piece) (r : Result Draft ScenFault) (t : ℕ) where
  turns_first : (n : ℕ) → t ≤ schedule_limit → ((m : ℕ) → pieces_added m (drafted t [] [] [] [] 0 [] 0 []) rest ≡ r)
      → pieces_added n nothing (outside (item.Turns t) ∷ rest) ≡ r
  turns_first n most on = piece_first n nothing _ (outside (item.Turns t)) rest r (turns_added n t most) on

  -- ---- programs

  program_more : (n : ℕ) (names : List (List ℕ)) (programs : List Program) (name : List ℕ) (ss : List Statement)
      (p : Program) → place_of names name ≡ None → length names < program_limit
      → assembled name (n + 1) (map Ok ss) ≡ Ok p
      → piece_added n (drafted t names programs [] [] 0 [] 0 []) (program name ss)
      ≡ Ok (drafted t (names ++ name ∷ []) (programs ++ p ∷ []) [] [] 0 [] 0 [])
  unfolding piece_added may_begin with_program
  program_more n names programs name ss p fresh room makes =
      let d = drafted t names programs [] [] 0 [] 0 [] in
      ap (λ o.
      numbered n (cond (is_some o) (Err Double) (cond (nat_lt (length names) program_limit) (Ok tt) (Err TooMany)))
      >>= (λ _. first_of_both (Ok tt) (assembled name (n + 1) (map Ok ss)) >>= (λ q. Ok (with_program d name q))))
      fresh
      ∙ ap (λ b. numbered n (cond b (Ok tt) (Err TooMany))
      >>= (λ _. first_of_both (Ok tt) (assembled name (n + 1) (map Ok ss)) >>= (λ q. Ok (with_program d name q))))
      (lt-ltb (length names) program_limit room)
      ∙ ap (λ q. first_of_both (Ok tt) q >>= (λ x. Ok (with_program d name x))) makes

  programs_first : (n : ℕ) (names : List (List ℕ)) (programs : List Program) (sources : List (List ℕ × List Statement))
      (more : List Program) → AreSources sources more → OwnNames names (names_of sources)
      → length names + length more ≤ program_limit
      → ((m : ℕ) → pieces_added m (drafted t (names ++ names_of sources) (programs ++ more) [] [] 0 [] 0 []) rest ≡ r)
      → pieces_added n (drafted t names programs [] [] 0 [] 0 []) (map program_piece sources ++ rest) ≡ r
  unfolding AreSources OwnNames
  programs_first n names programs [] [] are own few on =
      ap (λ ns. pieces_added n (drafted t ns programs [] [] 0 [] 0 []) rest) (sym (append-nil names))
      ∙ ap (λ ps. pieces_added n (drafted t (names ++ []) ps [] [] 0 [] 0 []) rest) (sym (append-nil programs))
      ∙ on n
  programs_first n names programs [] (p ∷ more) are own few on = absurd are
  programs_first n names programs (source ∷ sources) [] are own few on = absurd are
  programs_first n names programs (source ∷ sources) (p ∷ more) are own few on =
      piece_first n (drafted t names programs [] [] 0 [] 0 []) _ (program_piece source)
      (map program_piece sources ++ rest) r
      (program_more n names programs source.0 source.1 p own.0 (omega arith) (are.0 (n + 1)))
      (λ m. programs_first m (names ++ source.0 ∷ []) (programs ++ p ∷ []) sources more are.1 own.1
      (omega (arith, length-append names (source.0 ∷ [])))
      (λ k. ap (λ ns. pieces_added k (drafted t ns ((programs ++ p ∷ []) ++ more) [] [] 0 [] 0 []) rest)
      (append_assoc names (source.0 ∷ []) (names_of sources))
      ∙ ap (λ ps. pieces_added k (drafted t (names ++ source.0 ∷ names_of sources) ps [] [] 0 [] 0 []) rest)
      (append_assoc programs (p ∷ []) more)
      ∙ on k))

  module _ (names : List (List ℕ)) (programs : List Program) where
    -- ---- files

    file_more : (n : ℕ) (files : List (List ℕ × List ℕ)) (f : List ℕ × List ℕ)
        → place_of (map (λ g. g.0) files) f.0 ≡ None → length files < file_limit → length f.1 ≤ file_size_limit
        → piece_added n (drafted t names programs files [] 0 [] 0 []) (file_piece f)
        ≡ Ok (drafted t names programs (files ++ f ∷ []) [] 0 [] 0 [])
    unfolding piece_added with_item with_file
    file_more n files f fresh room small =
        let d = drafted t names programs files [] 0 [] 0 [] in
        let e = record d { file_names = map (λ g. g.0) files ++ f.0 ∷ []; files = files ++ f ∷ [] } in
        ap (λ o.
        numbered n
        (cond (is_some o) (Err Double)
        (cond (nat_lt (length d.file_names) file_limit)
        (cond (nat_le (length f.1) file_size_limit) (Ok e) (Err TooBig)) (Err TooMany)))) fresh
        ∙ ap (λ b. numbered n (cond b (cond (nat_le (length f.1) file_size_limit) (Ok e) (Err TooBig)) (Err TooMany)))
        (lt-ltb (length d.file_names) file_limit (omega (arith, length-map files (λ g. g.0))))
        ∙ ap (λ b. numbered n (cond b (Ok e) (Err TooBig))) (le-leb (length f.1) file_size_limit small)
        ∙ ap (λ ns. Ok (record d { file_names = ns; files = files ++ f ∷ [] }))
        (sym (map-append (λ g. g.0) files (f ∷ [])))

    files_first : (n : ℕ) (files more : List (List ℕ × List ℕ))
        → names_differ (map stored_file files ++ map stored_file more) ≡ true → length files + length more ≤ file_limit
        → All (λ f. length f.1 ≤ file_size_limit) more
        → ((m : ℕ) → pieces_added m (drafted t names programs (files ++ more) [] 0 [] 0 []) rest ≡ r)
        → pieces_added n (drafted t names programs files [] 0 [] 0 []) (map file_piece more ++ rest) ≡ r
    unfolding place_of
    files_first n files [] own few small on =
        ap (λ fs. pieces_added n (drafted t names programs fs [] 0 [] 0 []) rest) (sym (append-nil files)) ∙ on n
    files_first n files (f ∷ more) own few small on =
        let moved : map stored_file (files ++ f ∷ []) ++ map stored_file more
        ≡ map stored_file files ++ stored_file f ∷ map stored_file more =
        ap (λ fs. fs ++ map stored_file more) (map-append stored_file files (f ∷ []))
        ∙ append_assoc (map stored_file files) (stored_file f ∷ []) (map stored_file more) in
        piece_first n (drafted t names programs files [] 0 [] 0 []) _ (file_piece f) (map file_piece more ++ rest) r
        (file_more n files f (fresh_file files more f 0 own) (omega arith)
        (All-head (λ g. length g.1 ≤ file_size_limit) f more small))
        (λ m. files_first m (files ++ f ∷ []) more (ap names_differ moved ∙ own)
        (omega (arith, length-append files (f ∷ []))) (All-tail (λ g. length g.1 ≤ file_size_limit) f more small)
        (λ k. ap (λ fs. pieces_added k (drafted t names programs fs [] 0 [] 0 []) rest)
        (append_assoc files (f ∷ []) more) ∙ on k))

    module _ (files : List (List ℕ × List ℕ)) where
      -- ---- processes

      spawn_more : (n : ℕ) (spawns : List ℕ) (mapped place size : ℕ)
          → place_of names (get_or names place []) ≡ Some place
          → option_map first_size (slice_get programs place) ≡ Some size → length spawns < spawn_limit
          → mapped + size ≤ all_mappings_limit
          → piece_added n (drafted t names programs files spawns mapped [] 0 []) (spawn_piece names place)
          ≡ Ok (drafted t names programs files (spawns ++ place ∷ []) (mapped + size) [] 0 [])
      unfolding piece_added with_item with_spawn
      spawn_more n spawns mapped place size found sized room within =
          let d = drafted t names programs files spawns mapped [] 0 [] in
          let e = drafted t names programs files (spawns ++ place ∷ []) (mapped + size) [] 0 [] in
          ap (λ o.
          numbered n
          ((ok_or UnknownName o
          >>= (λ p. ok_or UnknownName (option_map first_size (slice_get programs p))
          >>= (λ s. with_process d p s))))) found
          ∙ ap (λ o. numbered n ((ok_or UnknownName o >>= (λ s. with_process d place s)))) sized
          ∙ ap (λ b.
          numbered n (cond b (cond (nat_le (mapped + size) all_mappings_limit) (Ok e) (Err TooBig)) (Err TooMany)))
          (lt-ltb (length spawns) spawn_limit room)
          ∙ ap (λ b. numbered n (cond b (Ok e) (Err TooBig))) (le-leb (mapped + size) all_mappings_limit within)

      size_there : (ps : List Program) (place : ℕ) → place < length ps
          → option_map first_size (slice_get ps place) ≡ Some (size_at_start (slice_get ps place))
      size_there [] place inside = absurd (omega arith)
      size_there (p ∷ ps) zero inside = refl
      size_there (p ∷ ps) (suc place) inside = size_there ps place (omega arith)

      spawns_first : (n : ℕ) (spawns more : List ℕ) (mapped : ℕ) → OwnNames [] names → length names ≡ length programs
          → All (λ place. place < length programs) more → length spawns + length more ≤ spawn_limit
          → mapped + mapped_at_start programs more ≤ all_mappings_limit
          → ((m : ℕ)
          → pieces_added m
          (drafted t names programs files (spawns ++ more) (mapped + mapped_at_start programs more) [] 0 []) rest ≡ r)
          → pieces_added n (drafted t names programs files spawns mapped [] 0 []) (map (spawn_piece names) more ++ rest)
          ≡ r
      spawns_first n spawns [] mapped own same inside few within on =
          let none : mapped_at_start programs [] ≡ 0 = refl in
          ap (λ ps. pieces_added n (drafted t names programs files ps mapped [] 0 []) rest) (sym (append-nil spawns))
          ∙ ap (λ size. pieces_added n (drafted t names programs files (spawns ++ []) size [] 0 []) rest)
          (omega (arith, none))
          ∙ on n
      spawns_first n spawns (place ∷ more) mapped own same inside few within on =
          let size = size_at_start (slice_get programs place) in
          let here = All-head (λ p. p < length programs) place more inside in
          let whole : mapped_at_start programs (place ∷ more) ≡ size + mapped_at_start programs more =
          sum_by-cons (λ p. size_at_start (slice_get programs p)) place more in
          piece_first n (drafted t names programs files spawns mapped [] 0 []) _ (spawn_piece names place)
          (map (spawn_piece names) more ++ rest) r
          (spawn_more n spawns mapped place size
          (own_place [] names place own (omega (arith, same, here)) ∙ ap Some (omega arith))
          (size_there programs place here) (omega arith) (omega (arith, whole)))
          (λ m. spawns_first m (spawns ++ place ∷ []) more (mapped + size) own same
          (All-tail (λ p. p < length programs) place more inside) (omega (arith, length-append spawns (place ∷ [])))
          (omega (arith, whole))
          (λ k. ap
          (λ ps. pieces_added k
          (drafted t names programs files ps (mapped + size + mapped_at_start programs more) [] 0 []) rest)
          (append_assoc spawns (place ∷ []) more)
          ∙ ap (λ s. pieces_added k (drafted t names programs files (spawns ++ place ∷ more) s [] 0 []) rest)
          (omega (arith, whole))
          ∙ on k))

      module _ (spawns : List ℕ) (mapped : ℕ) where
        -- ---- scripts

        abbrev in_script : List Plan → ℕ → List ScriptLine → Draft
        in_script controllers lists lines =
            record (drafted t names programs files spawns mapped controllers lists []) { lines = lines }

        line_more : (controllers : List Plan) (lists : ℕ) (lines : List ScriptLine) (l : ScriptLine)
            → SpawnsOneOf names l → lists + cond (is_list l) 1 0 ≤ list_line_limit
            → call_added (in_script controllers lists lines) l
            ≡ Ok (in_script controllers (lists + cond (is_list l) 1 0) (lines ++ l ∷ []))
        unfolding call_added
        line_more controllers lists lines (call.Open name pid lwp file mode) known few =
            ap (λ k. Ok (in_script controllers k (lines ++ call.Open name pid lwp file mode ∷ []))) (none_more lists)
        line_more controllers lists lines (call.Close name) known few =
            ap (λ k. Ok (in_script controllers k (lines ++ call.Close name ∷ []))) (none_more lists)
        line_more controllers lists lines (call.Read name at len) known few =
            ap (λ k. Ok (in_script controllers k (lines ++ call.Read name at len ∷ []))) (none_more lists)
        line_more controllers lists lines (call.Poll polled) known few =
            ap (λ k. Ok (in_script controllers k (lines ++ call.Poll polled ∷ []))) (none_more lists)
        line_more controllers lists lines (call.Write name bytes) known few =
            ap (λ k. Ok (in_script controllers k (lines ++ call.Write name bytes ∷ []))) (none_more lists)
        line_more controllers lists lines (call.Interrupt controller) known few =
            ap (λ k. Ok (in_script controllers k (lines ++ call.Interrupt controller ∷ []))) (none_more lists)
        line_more controllers lists lines (call.Spawn name held) known few =
            ap (λ b. cond b (Ok (in_script controllers lists (lines ++ call.Spawn name held ∷ []))) (Err UnknownName))
            known
            ∙ ap (λ k. Ok (in_script controllers k (lines ++ call.Spawn name held ∷ []))) (none_more lists)
        line_more controllers lists lines (call.Kill pid sig) known few =
            ap (λ k. Ok (in_script controllers k (lines ++ call.Kill pid sig ∷ []))) (none_more lists)
        line_more controllers lists lines (call.Until moment) known few =
            ap (λ k. Ok (in_script controllers k (lines ++ call.Until moment ∷ []))) (none_more lists)
        line_more controllers lists lines call.List known few =
            let one : lists + 1 ≤ list_line_limit = few in
            ap (λ b. cond b (Ok (in_script controllers (lists + 1) (lines ++ call.List ∷ []))) (Err TooMany))
            (lt-ltb lists list_line_limit (omega arith))

        lines_more : (n : ℕ) (controllers : List Plan) (lists : ℕ) (lines more : List ScriptLine)
            → AllByRecursion (SpawnsOneOf names) more → lists + count_by is_list more ≤ list_line_limit
            → folded call_read n (in_script controllers lists lines) more
            ≡ Ok (in_script controllers (lists + count_by is_list more) (lines ++ more))
        unfolding folded
        lines_more n controllers lists lines [] known few =
            let none : count_by is_list [] ≡ 0 = refl in
            ap (λ ls. Ok (in_script controllers lists ls)) (sym (append-nil lines))
            ∙ ap (λ k. Ok (in_script controllers k (lines ++ []))) (omega (arith, none))
        lines_more n controllers lists lines (l ∷ more) known few =
            let whole : count_by is_list (l ∷ more) ≡ cond (is_list l) 1 0 + count_by is_list more =
            sum_by-cons (λ x. cond (is_list x) 1 0) l more in
            ap (λ q. numbered n q >>= (λ e. folded call_read (n + 1) e more))
            (line_more controllers lists lines l known.0 (omega (arith, whole)))
            ∙ lines_more (n + 1) controllers (lists + cond (is_list l) 1 0) (lines ++ l ∷ []) more known.1
            (omega (arith, whole))
            ∙ ap (λ ls. Ok (in_script controllers (lists + cond (is_list l) 1 0 + count_by is_list more) ls))
            (append_assoc lines (l ∷ []) more)
            ∙ ap (λ k. Ok (in_script controllers k (lines ++ l ∷ more))) (omega (arith, whole))

        script_more : (n : ℕ) (controllers : List Plan) (lists : ℕ) (ls : List ScriptLine)
            → length controllers < controller_limit → AllByRecursion (SpawnsOneOf names) ls
            → lists + count_by is_list ls ≤ list_line_limit
            → piece_added n (drafted t names programs files spawns mapped controllers lists []) (script ls)
            ≡ Ok (drafted t names programs files spawns mapped (controllers ++ Script (first_script ls) ∷ [])
            (lists + count_by is_list ls) [])
        unfolding piece_added may_begin with_script
        script_more n controllers lists ls room known few =
            ap (λ b. numbered n (cond b (Ok tt) (Err TooMany))
            >>= (λ _.
            folded call_read (n + 1) (drafted t names programs files spawns mapped controllers lists []) ls
            >>= (λ e. Ok (with_script e)))) (lt-ltb (length controllers) controller_limit room)
            ∙ ap (λ q. q >>= (λ e. Ok (with_script e))) (lines_more (n + 1) controllers lists [] ls known few)

        scripts_first : (n : ℕ) (controllers : List Plan) (lists : ℕ) (more : List Plan)
            → AllByRecursion (IsFirstPlan names) more → length controllers + length more ≤ controller_limit
            → lists + sum_by lists_in more ≤ list_line_limit
            → ((m : ℕ)
            → pieces_added m
            (drafted t names programs files spawns mapped (controllers ++ more) (lists + sum_by lists_in more) []) rest
            ≡ r) → pieces_added n (drafted t names programs files spawns mapped controllers lists [])
            (map plan_piece more ++ rest) ≡ r
        unfolding IsFirstPlan
        scripts_first n controllers lists [] are few listed on =
            let none : sum_by lists_in [] ≡ 0 = refl in
            ap (λ cs. pieces_added n (drafted t names programs files spawns mapped cs lists []) rest)
            (sym (append-nil controllers))
            ∙ ap (λ k. pieces_added n (drafted t names programs files spawns mapped (controllers ++ []) k []) rest)
            (omega (arith, none))
            ∙ on n
        scripts_first n controllers lists (Script s ∷ more) are few listed on =
            let whole : sum_by lists_in (Script s ∷ more) ≡ count_by is_list s.lines + sum_by lists_in more =
            sum_by-cons lists_in (Script s) more in
            piece_first n (drafted t names programs files spawns mapped controllers lists []) _ (script s.lines)
            (map plan_piece more ++ rest) r
            (script_more n controllers lists s.lines (omega arith) are.0.1 (omega (arith, whole))
            ∙ ap (λ c.
            Ok (drafted t names programs files spawns mapped (controllers ++ Script c ∷ [])
            (lists + count_by is_list s.lines) [])) (sym are.0.0))
            (λ m. scripts_first m (controllers ++ Script s ∷ []) (lists + count_by is_list s.lines) more are.1
            (omega (arith, length-append controllers (Script s ∷ []))) (omega (arith, whole))
            (λ k. ap
            (λ cs. pieces_added k
            (drafted t names programs files spawns mapped cs
            (lists + count_by is_list s.lines + sum_by lists_in more) []) rest)
            (append_assoc controllers (Script s ∷ []) more)
            ∙ ap (λ c.
            pieces_added k
            (drafted t names programs files spawns mapped (controllers ++ Script s ∷ more) c []) rest)
            (omega (arith, whole))
            ∙ on k))
        scripts_first n controllers lists (_ ∷ more) are few listed on = absurd are.0

        -- ---- turns at the beginning

        module _ (controllers : List Plan) (lists : ℕ) where
          turn_more : (n : ℕ) (schedule : List Actor) (a : Actor) → length schedule < schedule_limit
              → piece_added n (drafted t names programs files spawns mapped controllers lists schedule) (turn_piece a)
              ≡ Ok (drafted t names programs files spawns mapped controllers lists (schedule ++ a ∷ []))
          unfolding piece_added with_item with_schedule
          turn_more n schedule a room =
              ap (λ b.
              numbered n
              (cond b (Ok (drafted t names programs files spawns mapped controllers lists (schedule ++ a ∷ [])))
              (Err TooMany))) (le-leb (length schedule + 1) schedule_limit (omega arith))

          turns_last : (n : ℕ) (schedule more : List Actor) → length schedule + length more ≤ schedule_limit
              → pieces_added n (drafted t names programs files spawns mapped controllers lists schedule)
              (map turn_piece more)
              ≡ Ok (drafted t names programs files spawns mapped controllers lists (schedule ++ more))
          unfolding pieces_added
          turns_last n schedule [] few =
              ap (λ ts. Ok (drafted t names programs files spawns mapped controllers lists ts))
              (sym (append-nil schedule))
          turns_last n schedule (a ∷ more) few =
              piece_first n (drafted t names programs files spawns mapped controllers lists schedule) _ (turn_piece a)
              (map turn_piece more) _ (turn_more n schedule a (omega arith))
              (λ m. turns_last m (schedule ++ a ∷ []) more (omega (arith, length-append schedule (a ∷ [])))
              ∙ ap (λ ts. Ok (drafted t names programs files spawns mapped controllers lists ts))
              (append_assoc schedule (a ∷ []) more))

-- ---- the scenario

same_count : (sources : List (List ℕ × List Statement)) (programs : List Program) → AreSources sources programs
    → length (names_of sources) ≡ length programs
unfolding AreSources
same_count [] [] are = refl
same_count [] (p ∷ programs) are = absurd are
same_count (source ∷ sources) [] are = absurd are
same_count (source ∷ sources) (p ∷ programs) are = ap suc (same_count sources programs are.1)

pieces_make : (sources : List (List ℕ × List Statement)) (s : Scenario) → IsWithinLimits s → IsWritten sources s
    → pieces_added 1 nothing (pieces_of sources s)
    ≡ Ok (drafted s.turns (names_of sources) s.programs s.files s.spawns
    (0 + mapped_at_start s.programs s.spawns) s.controllers (0 + sum_by lists_in s.controllers) s.schedule)
unfolding pieces_of
pieces_make sources s within w =
    let t = s.turns in
    let names = names_of sources in
    let mapped = 0 + mapped_at_start s.programs s.spawns in
    let lists = 0 + sum_by lists_in s.controllers in
    turns_first _ _ t 1 within.most (λ a.
    programs_first _ _ t a [] [] sources s.programs w.programs w.names (omega (arith, within.programs)) (λ b.
    files_first _ _ t names s.programs b [] s.files within.own_names (omega (arith, within.files)) within.short (λ c.
    spawns_first _ _ t names s.programs s.files c
    [] s.spawns 0 w.names (same_count sources s.programs w.programs) within.of_programs
    (omega (arith, within.spawns)) (omega (arith, within.mapped)) (λ d.
    scripts_first _ _ t names s.programs s.files s.spawns mapped d
    [] 0 s.controllers w.controllers (omega (arith, within.controllers)) (omega (arith, within.lists)) (λ e.
    turns_last [] (Ok nothing) t names s.programs s.files s.spawns mapped s.controllers lists e
    [] s.schedule (omega (arith, within.schedule)))))))

pub each_has : (sources : List (List ℕ × List Statement)) (s : Scenario) → IsWithinLimits s → IsWritten sources s
    → scenario_of (text_of_pieces (pieces_of sources s)) ≡ Ok s
unfolding finished made
each_has sources s within w =
    text_read (pieces_of sources s) w.pieces ∙ ap (λ r. r >>= finished) (pieces_make sources s within w)
