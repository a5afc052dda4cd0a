-- Cores and their words.
use Rattle.std.proofs.Common.{◌≡◌, ◌<◌, ◌^◌, ℕ, List, [], ◌∷◌, ◌++◌, length, map, All, Result, Ok, Err, IfOk, OnOk, refl, sym, ap, ◌∙◌, arith, length-append}
use Rattle.std.proofs.lemmas.List.{append-nil}
use Rattle.std.proofs.lemmas.List.Elements.{All-nil, All-cons, All-head, All-tail}
use Rattle.pr_num.specs.Limits.{signal_count}
use Rattle.pr_num.specs.Records.{psinfo_ranges, lwpstatus_ranges, sigact_ranges, map_entry_ranges}
use Rattle.pr_num.specs.Words.{IsByte}
use Rattle.pr_rec.proofs.LwpStatusLemmas.{lwpstatus-ranged, same_lwpstatus}
use Rattle.pr_rec.proofs.MapEntryLemmas.{map_entry-ranged, same_map_entry}
use Rattle.pr_rec.proofs.PsinfoLemmas.{psinfo-ranged, same_psinfo}
use Rattle.pr_rec.proofs.RecordLemmas.{first_out-ranged}
use Rattle.pr_rec.proofs.SigactLemmas.{any_words-ranged}
use Rattle.pr_rec.specs.InRange.{IsLwpStatus, IsMapEntry, IsPsinfo}
use Rattle.pr_rec.specs.RecordWords.{lwpstatus_words_of, psinfo_words_of, map_entry_words_of}
use Rattle.pr_rec.specs.declared.lwps.LwpStatus.{LwpStatus}
use Rattle.pr_rec.specs.declared.mappings.MapEntry.{MapEntry}
use Rattle.pr_rec.specs.declared.processes.Psinfo.{Psinfo}
use Rattle.pr_text.specs.Steps.{◌>>=◌}
use Rattle.pr_core.proofs.CoreStandLemmas.{core_read-front, ended-here, ended-before, stand-core_read}
use Rattle.pr_core.specs.CoreBytes.{core_bytes}
use Rattle.pr_core.specs.CoreRanges.{IsRecord, IsSigact, IsCore, EncodesCore, mapping_size}
use Rattle.pr_core.specs.CoreReading.{core_read}
use Rattle.pr_core.specs.Cores.{CoreState, CoreWords, core_words}
use Rattle.pr_core.specs.declared.faults.CoreFault.{CoreFault}
use Rattle.pr_core.specs.declared.faults.CoreFault.TheVariants.{Bad}

-- the sizes of mappings are those that their records tell
pub sizes-words : (maps : List MapEntry)
    → map mapping_size (map map_entry_words_of maps) ≡ map (λ (m : MapEntry). m.size) maps
sizes-words [] = refl
sizes-words (m ∷ maps) = ap (λ (sizes : List ℕ). m.size ∷ sizes) (sizes-words maps)

-- ---- a core's records are records

All-map : {T U : Type 0} (f : T → U) (P : T → Type 0) (Q : U → Type 0) → ((x : T) → P x → Q (f x)) → (xs : List T)
    → All P xs → All Q (map f xs)
All-map f P Q each [] are = All-nil Q
All-map f P Q each (x ∷ xs) are =
    All-cons Q (f x) (map f xs) (each x (All-head P x xs are)) (All-map f P Q each xs (All-tail P x xs are))

psinfo-record : (p : Psinfo) → IsPsinfo p → IsRecord psinfo_ranges (psinfo_words_of p)
psinfo-record p is = record {
  count = refl;
  ranged = first_out-ranged psinfo_ranges (psinfo_words_of p) 0
      (psinfo-ranged p is);
}

lwpstatus-record : (l : LwpStatus) → IsLwpStatus l → IsRecord lwpstatus_ranges (lwpstatus_words_of l)
lwpstatus-record l is =
    record { count = refl; ranged = first_out-ranged lwpstatus_ranges (lwpstatus_words_of l) 0 (lwpstatus-ranged l is) }

map_entry-record : (m : MapEntry) → IsMapEntry m → IsRecord map_entry_ranges (map_entry_words_of m)
map_entry-record m is =
    record { count = refl; ranged = first_out-ranged map_entry_ranges (map_entry_words_of m) 0 (map_entry-ranged m is) }

sigact-record : (words : List ℕ) → IsSigact words → IsRecord sigact_ranges words
sigact-record words is =
    record {
      count = is.count;
      ranged = first_out-ranged sigact_ranges words 0
          (any_words-ranged signal_count words is.count is.words);
    }

pub core-encodes : (c : CoreState) → IsCore c → EncodesCore (core_bytes c) (core_words c)
core-encodes c is = record {
  pid = is.encodable.pid;
  psinfo = psinfo-record c.psinfo is.psinfo;
  lwps = All-map lwpstatus_words_of IsLwpStatus (IsRecord lwpstatus_ranges) lwpstatus-record c.lwps is.lwps;
  sigact = sigact-record c.sigact is.sigact;
  maps = All-map map_entry_words_of IsMapEntry (IsRecord map_entry_ranges) map_entry-record c.maps is.maps;
  fds = is.encodable.fds;
  pieces = is.encodable.pieces ∙ sym (sizes-words c.maps);
  spelled = refl;
}

-- ---- what is written is read

pub encodes-read : (bytes : List ℕ) (w : CoreWords) → length bytes < 2 ^ 64 → EncodesCore bytes w
    → core_read bytes ≡ Ok w
encodes-read bytes w few is =
    core_read-front w bytes [] bytes is (sym (append-nil bytes)) few
    ∙ ap (λ (r : Result (Unit {0}) CoreFault). r >>= λ _. Ok w) (ended-here bytes (length bytes) refl)

pub core-read : (c : CoreState) → IsCore c → length (core_bytes c) < 2 ^ 64
    → core_read (core_bytes c) ≡ Ok (core_words c)
core-read c is few = encodes-read (core_bytes c) (core_words c) few (core-encodes c is)

pub core-followed : (c : CoreState) (byte : ℕ) (more : List ℕ) → IsCore c
    → length (core_bytes c ++ byte ∷ more) < 2 ^ 64
    → core_read (core_bytes c ++ byte ∷ more) ≡ Err (Bad (length (core_bytes c)))
core-followed c byte more is few =
    let front : List ℕ = core_bytes c in
    let inside : length front < length (front ++ byte ∷ more) = omega (arith, length-append front (byte ∷ more)) in
    core_read-front (core_words c) front (byte ∷ more) (front ++ byte ∷ more) (core-encodes c is) refl few
    ∙ ap (λ (r : Result (Unit {0}) CoreFault). r >>= λ _. Ok (core_words c))
    (ended-before (front ++ byte ∷ more) (length front) inside)

-- ---- two cores with the same words are the same

same-map : {T U : Type 0} (f : T → U) (P : T → Type 0) → ((x y : T) → P x → P y → f x ≡ f y → x ≡ y) → (xs ys : List T)
    → All P xs → All P ys → map f xs ≡ map f ys → xs ≡ ys
same-map f P one [] [] are are' e = refl
same-map f P one [] (y ∷ ys) are are' e = absurd cc
same-map f P one (x ∷ xs) [] are are' e = absurd cc
same-map f P one (x ∷ xs) (y ∷ ys) are are' e =
    let first : x ≡ y = one x y (All-head P x xs are) (All-head P y ys are') cc in
    let others : xs ≡ ys = same-map f P one xs ys (All-tail P x xs are) (All-tail P y ys are') cc in
    cc

pub same-core : (c d : CoreState) → IsCore c → IsCore d → core_words c ≡ core_words d → c ≡ d
same-core c d is js e =
    let psinfo : c.psinfo ≡ d.psinfo =
    same_psinfo c.psinfo d.psinfo is.psinfo.program js.psinfo.program (ap (λ (w : CoreWords). w.psinfo) e) in
    let lwps : c.lwps ≡ d.lwps =
    same-map lwpstatus_words_of IsLwpStatus (λ x y p q. same_lwpstatus x y p.sizes q.sizes) c.lwps d.lwps is.lwps
    js.lwps (ap (λ (w : CoreWords). w.lwps) e) in
    let maps : c.maps ≡ d.maps =
    same-map map_entry_words_of IsMapEntry (λ x y p q. same_map_entry x y p.name q.name) c.maps d.maps is.maps js.maps
    (ap (λ (w : CoreWords). w.maps) e) in
    by (λ pid psinfo lwps sigact maps fds memory. record
    { pid = pid; psinfo = psinfo; lwps = lwps; sigact = sigact; maps = maps; fds = fds; memory = memory })
    (ap (λ (w : CoreWords). w.pid) e) psinfo lwps (ap (λ (w : CoreWords). w.sigact) e) maps
    (ap (λ (w : CoreWords). w.fds) e) (ap (λ (w : CoreWords). w.memory) e)
  where
    by : (f : ℕ → Psinfo → List LwpStatus → List ℕ → List MapEntry → List (List ℕ) → List (List ℕ) → CoreState)
        → c.pid ≡ d.pid → c.psinfo ≡ d.psinfo → c.lwps ≡ d.lwps → c.sigact ≡ d.sigact → c.maps ≡ d.maps → c.fds ≡ d.fds
        → c.memory ≡ d.memory
        → f c.pid c.psinfo c.lwps c.sigact c.maps c.fds c.memory
        ≡ f d.pid d.psinfo d.lwps d.sigact d.maps d.fds d.memory
    by f pid psinfo lwps sigact maps fds memory = cc

-- ---- a core that was read

-- whose records came from records in their ranges
pub read-is_core : (bytes : List ℕ) (c : CoreState) → All IsByte bytes → core_read bytes ≡ Ok (core_words c)
    → IsPsinfo c.psinfo → All IsLwpStatus c.lwps → IsSigact c.sigact → All IsMapEntry c.maps → IsCore c
read-is_core bytes c small read psinfo lwps sigact maps =
    let is = stand-core_read bytes (core_words c) small read in
    record {
      encodable = record {
        pid = is.pid;
        infos = λ k d inside. (lwps k d inside).info;
        fds = is.fds;
        pieces = is.pieces ∙ sizes-words c.maps;
      };
      psinfo = psinfo;
      lwps = lwps;
      sigact = sigact;
      maps = maps;
    }

pub read-bytes : (bytes : List ℕ) (c : CoreState) → All IsByte bytes → core_read bytes ≡ Ok (core_words c)
    → core_bytes c ≡ bytes
read-bytes bytes c small read = sym (stand-core_read bytes (core_words c) small read).spelled

-- ---- what a reading and a writing answer

pub read-cores : (bytes : List ℕ) (r : Result CoreState CoreFault) → All IsByte bytes
    → IfOk r (λ c. core_read bytes ≡ Ok (core_words c)) → IfOk r (λ c. IsPsinfo c.psinfo)
    → IfOk r (λ c. All IsLwpStatus c.lwps) → IfOk r (λ c. IsSigact c.sigact) → IfOk r (λ c. All IsMapEntry c.maps)
    → IfOk r IsCore
read-cores bytes (Ok c) small read psinfo lwps sigact maps = read-is_core bytes c small read psinfo lwps sigact maps
read-cores bytes (Err fault) small read psinfo lwps sigact maps = tt

pub read-spelled : (bytes : List ℕ) (r : Result CoreState CoreFault) → All IsByte bytes
    → IfOk r (λ c. core_read bytes ≡ Ok (core_words c)) → IfOk r (λ c. core_bytes c ≡ bytes)
read-spelled bytes (Ok c) small read = read-bytes bytes c small read
read-spelled bytes (Err fault) small read = tt

pub written-read : {E : Type 0} (c : CoreState) (r : Result (List ℕ) E) → IfOk r (λ bytes. bytes ≡ core_bytes c)
    → OnOk r (IsCore c) → OnOk r (length (core_bytes c) < 2 ^ 64)
    → IfOk r (λ bytes. core_read bytes ≡ Ok (core_words c))
written-read c (Ok bytes) is core few = ap core_read is ∙ core-read c core few
written-read c (Err e) is core few = tt

-- the same bytes are read as the same words
same-Ok : (v w : CoreWords) → (let r : Result CoreWords CoreFault = Ok v in r ≡ Ok w) → v ≡ w
same-Ok v w e = cc

pub same-words : (c d : CoreState) → IsCore c → IsCore d → length (core_bytes c) < 2 ^ 64 → core_bytes c ≡ core_bytes d
    → core_words c ≡ core_words d
same-words c d is js few same =
    let also_few : length (core_bytes d) < 2 ^ 64 = omega (arith, ap length same) in
    same-Ok (core_words c) (core_words d) (sym (core-read c is few) ∙ ap core_read same ∙ core-read d js also_few)
