-- Headers at the front of bytes, machines by their source, and files that are read.
use Rattle.std.proofs.Common.{◌≡◌, ◌↔◌, ℕ, ◌<◌, ◌≤◌, Bool, true, false, IsTrue, List, ◌++◌, Option, Some, None, Result, Ok, Err, IfOk, length, get_or, map, take, drop, refl, sym, ap, subst, ◌∙◌, inl, arith}
use Rattle.std.specs.Prelude.{IfErr, IsSomeAnd, MatchOption, not}
use Rattle.std.specs.List.{slice_get, Contains}
use Rattle.std.specs.Option.{is_some, option_map}
use Rattle.std.specs.Result.{result_ok}
use Rattle.std.proofs.lemmas.List.{length-map, length-take, take-append-drop}
use Rattle.std.proofs.lemmas.Option.{same_Some, slice_get-get_or, slice_get-map}
use Rattle.jc_base.specs.LogEntry.{LogEntry}
use Rattle.jc_base.specs.Reading.{Reading}
use Rattle.jc_base.specs.declared.fault.Code.TheVariants.{ShortHeader}
use Rattle.jc_base.specs.declared.fault.Fault.{Fault}
use Rattle.jc_base.specs.declared.id.Id128.{Id128}
use Rattle.jc_base.specs.declared.limits.Limits.{Limits}
use Rattle.jc_file.specs.FileReading.{IsFileReading}
use Rattle.jc_upload.specs.declared.head.UploadHead.{UploadHead}
use Rattle.jc_upload.specs.Head.{IsHead, IsHeadFault, fault_at, head_text}
use Rattle.jc_world.specs.Event.{IsAlien}
use Rattle.jc_world.specs.Given.{BeginsWith, FileReadsFront, ReadsFront, StandsAt}
use Rattle.jc_world.specs.State.{MachineState, new_machine, source_of}
use Rattle.jc_world.proofs.Lists.{contains_get, contains_map, get_contained}
use Rattle.jc_world.proofs.Sending.{HeadOnce}

-- ---- headers

abbrev pub HeadPasses : Type 0
HeadPasses = (head : UploadHead) (body : List ℕ) (fault : Fault) → IsHead head → ¬ IsHeadFault (head_text head ++ body) fault

abbrev pub FaultStays : Type 0
FaultStays = (bytes body : List ℕ) (fault : Fault) → 48 ≤ length bytes → IsHeadFault bytes fault → IsHeadFault (bytes ++ body) fault

fault_shown : HeadPasses → (bytes : List ℕ) (fault : Fault) → IsHeadFault bytes fault → (head : UploadHead) → ¬ BeginsWith bytes head
fault_shown passes bytes fault shown head begins =
    passes head begins.0 fault begins.1.lawful (subst (λ (b : List ℕ). IsHeadFault b fault) begins.1.whole shown)

-- too few bytes
pub short_begins : HeadPasses → (bytes : List ℕ) → length bytes < 48 → (head : UploadHead) → ¬ BeginsWith bytes head
short_begins passes bytes short head =
    fault_shown passes bytes (fault_at ShortHeader (length bytes)) (inl (λ long. absurd (omega (arith, long, short)), refl)) head

-- the first of them show a fault
pub faulty_begins : HeadPasses → FaultStays → (bytes first rest : List ℕ) (fault : Fault) → bytes ≡ first ++ rest → length first ≡ 48 → IsHeadFault first fault
    → (head : UploadHead) → ¬ BeginsWith bytes head
faulty_begins passes stays bytes first rest fault whole size shown head =
    fault_shown passes bytes fault
    (subst (λ (b : List ℕ). IsHeadFault b fault) (sym whole) (stays first rest fault (omega (arith, size)) shown))
    head

pub begins : (bytes first rest : List ℕ) (head : UploadHead) → bytes ≡ first ++ rest → IsHead head → first ≡ head_text head → BeginsWith bytes head
begins bytes first rest head whole lawful is =
    (rest, record { lawful = lawful; whole = whole ∙ ap (λ (b : List ℕ). b ++ rest) is })

-- what reading the first 48 bytes gives
pub head_read : HeadPasses → FaultStays → (bytes first : List ℕ) (read : Result UploadHead Fault) → 48 ≤ length bytes → first ≡ take 48 bytes
    → IfOk read (λ head. IsHead head × (first ≡ head_text head)) → IfErr read (IsHeadFault first)
    → MatchOption (result_ok read) ((head : UploadHead) → ¬ BeginsWith bytes head) (BeginsWith bytes)
head_read passes stays bytes first (Ok head) long is found fault =
    begins bytes first (drop 48 bytes) head (sym (take-append-drop 48 bytes) ∙ ap (λ (b : List ℕ). b ++ drop 48 bytes) (sym is)) found.0 found.1
head_read passes stays bytes first (Err fault) long is found shown =
    faulty_begins passes stays bytes first (drop 48 bytes) fault (sym (take-append-drop 48 bytes) ∙ ap (λ (b : List ℕ). b ++ drop 48 bytes) (sym is))
    (omega (arith, ap (λ (b : List ℕ). length b) is, length-take 48 bytes, long)) shown

-- ---- the machine with a source

pub none_stands : (machines : List MachineState) (source : Id128) → ((k : ℕ) (d : MachineState) → k < length machines → ¬ (source_of (get_or machines k d) ≡ source))
    → ¬ Contains (map source_of machines) source
none_stands machines source none c =
    let d : MachineState = new_machine source in
    let within : c.0 < length machines = omega (arith, c.1, length-map machines source_of) in
    let at : slice_get (map source_of machines) c.0 ≡ Some (source_of (get_or machines c.0 d)) =
    slice_get-map source_of machines c.0 ∙ ap (option_map source_of) (slice_get-get_or machines c.0 d within) in
    none c.0 d within (same_Some (source_of (get_or machines c.0 d)) source (sym at ∙ get_contained (map source_of machines) source c))

-- ---- alien bytes

pub alien_without : (ids : List Id128) (bytes : List ℕ) → ((head : UploadHead) → ¬ BeginsWith bytes head) → IsAlien ids bytes
alien_without ids bytes none head body has = absurd (none head (body, has))

pub alien_by : HeadOnce → (ids : List Id128) (bytes : List ℕ) (head : UploadHead) → BeginsWith bytes head → ¬ Contains ids head.source → IsAlien ids bytes
alien_by once ids bytes head begins none other body has c =
    let same = once other head body begins.0 has.lawful begins.1.lawful (sym has.whole ∙ begins.1.whole) in
    none (subst (λ (h : UploadHead). Contains ids h.source) same.0 c)

pub not_alien : (ids : List Id128) (bytes : List ℕ) (head : UploadHead) → BeginsWith bytes head → Contains ids head.source → ¬ IsAlien ids bytes
not_alien ids bytes head begins c alien = alien head begins.0 begins.1 c

pub alien_found : HeadOnce → (machines : List MachineState) (bytes : List ℕ) (head : UploadHead) → BeginsWith bytes head → (found : Option ℕ) (none : Bool)
    → MatchOption found (¬ Contains (map source_of machines) head.source) (StandsAt machines head.source)
    → is_some found ≡ not none → IsTrue none ↔ IsAlien (map source_of machines) bytes
alien_found once machines bytes head begins None true at is = (λ _. alien_by once (map source_of machines) bytes head begins at, λ _. refl)
alien_found once machines bytes head begins None false at is = absurd cc
alien_found once machines bytes head begins (Some place) true at is = absurd cc
alien_found once machines bytes head begins (Some place) false at is =
    let c : Contains (map source_of machines) head.source =
    subst (Contains (map source_of machines)) at.own (contains_map source_of machines at.machine (contains_get machines place at.machine at.at)) in
    (λ t. absurd (no_truth t), λ alien. absurd (not_alien (map source_of machines) bytes head begins c alien))
  where
    no_truth : ¬ (IsTrue false)
    no_truth t = cc

-- ---- a file

pub file_front : ((limits : Limits) (b : List ℕ) (r s : Reading) → IsFileReading limits b r → IsFileReading limits b s → r ≡ s)
    → (limits : Limits) (file : List ℕ) (entries : List LogEntry) (known : Option Reading) (front : Bool)
    → IsSomeAnd known (IsFileReading limits file) → ((r : Reading) → known ≡ Some r → IsTrue front ↔ ReadsFront entries r)
    → IsTrue front ↔ FileReadsFront limits file entries
file_front one limits file entries None front is h = absurd is
file_front one limits file entries (Some r) front is h =
    let both = h r refl in
    (λ t. (r, is, both.0 t), λ w. both.1 (subst (ReadsFront entries) (one limits file w.0 r w.1 is) w.2))
