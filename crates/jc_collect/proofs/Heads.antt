-- What has come of an upload shows its header, or the header's fault.
use Rattle.std.proofs.Common.{◌≡◌, ◌<◌, ◌≤◌, ◌+◌, ℕ, List, [], ◌++◌, length, take, drop, Option, Some, None, Ok, Err, IfSome, IsSome, unwrap_or, refl, sym, ap, ◌∙◌, subst, inl, ⊎_elim, arith, take-append-drop, lit<}
use Rattle.std.proofs.lemmas.List.{length-append, length-take-le, take_all}
use Rattle.std.specs.Io.KnownBytes.{Consumes, IsAtEnd}
use Rattle.jc_base.specs.declared.fault.Fault.{Fault}
use Rattle.jc_base.specs.declared.fault.Code.TheVariants.{ShortHeader}
use Rattle.jc_base.specs.Fault.{number_of}
use Rattle.jc_base.specs.Source.{IsFormatCode}
use Rattle.jc_upload.specs.declared.head.UploadHead.{UploadHead}
use Rattle.jc_upload.specs.Head.{IsHead, IsHeadFault, fault_at, head_text}
use Rattle.jc_collect.specs.Begun.{HasCome, BeginsUpload}
use Rattle.jc_collect.specs.Part.{known_from}
use Rattle.jc_collect.specs.declared.head.Unread.TheVariants.{Fault as Faulty}

-- ---- the faults of a header

code_small : (fault found : Fault) → number_of found.code < 60 → fault ≡ found → IsFormatCode fault.code
code_small fault found small same = subst (λ (f : Fault). number_of f.code < 60) (sym same) small

pub of_format : (bytes : List ℕ) (fault : Fault) → IsHeadFault bytes fault → IsFormatCode fault.code
of_format bytes fault h =
    ⊎_elim (λ a. code_small fault _ (lit< tt) a.1)
    (λ b. ⊎_elim (λ a. code_small fault _ (lit< tt) a.1)
    (λ c. ⊎_elim (λ a. code_small fault _ (lit< tt) a.1)
    (λ d. ⊎_elim (λ a. code_small fault _ (lit< tt) a.1)
    (λ e. ⊎_elim (λ a. code_small fault _ (lit< tt) a.1) (λ f. absurd f.1) e.1) d.1) c.1) b.1) h

-- the header's own bytes decide
abbrev pub HeadDecides : Type 0
HeadDecides = (bytes body : List ℕ) (fault : Fault) → 48 ≤ length bytes → IsHeadFault bytes fault → IsHeadFault (bytes ++ body) fault

short_fault : (upload : List ℕ) (came : ℕ) → came < 48 → length upload ≡ came → IsHeadFault upload (fault_at ShortHeader came)
short_fault upload came few len = inl ((λ h. omega arith), ap (fault_at ShortHeader) (sym len))

pub begins_short : (bytes : List ℕ) (came : ℕ) (upload behind : Option (List ℕ)) → came < 48 → HasCome bytes came upload behind
    → BeginsUpload upload behind (Err (Faulty (fault_at ShortHeader came)))
begins_short bytes came None behind few come = (lit< tt, tt)
begins_short bytes came (Some upload) behind few come = (lit< tt, short_fault upload came few (come.short few))

pub begins_faulty : (bytes : List ℕ) (came : ℕ) (upload behind : Option (List ℕ)) (fault : Fault) → HeadDecides → 48 ≤ length bytes → 48 ≤ came
    → HasCome bytes came upload behind → IsHeadFault bytes fault → BeginsUpload upload behind (Err (Faulty fault))
begins_faulty bytes came None behind fault decides long all come shown = (of_format bytes fault shown, tt)
begins_faulty bytes came (Some upload) None fault decides long all come shown = absurd (come.long all)
begins_faulty bytes came (Some upload) (Some rest) fault decides long all come shown =
    (of_format bytes fault shown, subst (λ (u : List ℕ). IsHeadFault u fault) (sym (come.long all)) (decides bytes rest fault long shown))

pub begins_well : (bytes : List ℕ) (came : ℕ) (upload behind : Option (List ℕ)) (head : UploadHead) → 48 ≤ came
    → HasCome bytes came upload behind → IsHead head × (bytes ≡ head_text head) → BeginsUpload upload behind (Ok head)
begins_well bytes came upload behind head all come found = (found.0, subst (Consumes upload behind) found.1 (come.long all))

-- ---- what came of a stream, and of a space

pub stream_come : (bytes : List ℕ) (came : ℕ) (upload behind : Option (List ℕ)) → length bytes ≡ 48 → came ≤ length bytes
    → Consumes upload behind (take came bytes) → (came < length bytes → IsAtEnd behind) → HasCome bytes came upload behind
stream_come bytes came upload behind full within taken ended = record {
  short = λ few. short upload behind few taken (ended (omega arith));
  long = λ all. subst (Consumes upload behind) (take_all came bytes (omega arith)) taken;
}
  where
    short : (old new : Option (List ℕ)) → came < 48 → Consumes old new (take came bytes) → IsAtEnd new → IfSome old (λ all. length all ≡ came)
    short None new few h end = tt
    short (Some all) None few h end = absurd h
    short (Some all) (Some rest) few h end =
        let whole : length all ≡ length (take came bytes) + length rest = ap length h ∙ length-append (take came bytes) rest in
        let none : length rest ≡ 0 = ap length end in
        let front : length (take came bytes) ≡ came = length-take-le came bytes within in
        omega arith

pub space_come : (bytes : List ℕ) (came : ℕ) (upload : Option (List ℕ)) → ((b : List ℕ) → upload ≡ Some b → length b ≡ came)
    → (48 ≤ came → IsSome upload → bytes ≡ take 48 (drop 0 (unwrap_or upload []))) → HasCome bytes came upload (known_from 48 upload)
space_come bytes came None whole front = record { short = λ _. tt; long = λ _. tt }
space_come bytes came (Some all) whole front = record {
  short = λ _. whole all refl;
  long = λ many. sym (take-append-drop 48 all) ∙ ap (λ l. l ++ drop 48 all) (sym (front many refl));
}
