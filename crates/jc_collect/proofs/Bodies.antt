-- What a source may give is a reading of its bytes.
use Rattle.std.proofs.Common.{◌≡◌, ◌<◌, ◌≤◌, ◌+◌, nat_le, true, false, ℕ, List, [], ◌++◌, length, Option, Some, None, IsSomeAnd, refl, sym, ap, ◌∙◌, subst, inl, ⊎_elim, arith}
use Rattle.std.proofs.lemmas.Bool.{cases_lt, lt-leb}
use Rattle.std.proofs.lemmas.List.{append-nil, length-append}
use Rattle.std.specs.Io.KnownBytes.{Consumes, IsAtEnd}
use Rattle.std.specs.Option.{option_map}
use Rattle.jc_base.specs.declared.fault.Code.TheVariants.{FileTooLong}
use Rattle.jc_base.specs.declared.fault.Fault.{Fault}
use Rattle.jc_base.specs.declared.limits.Limits.{Limits}
use Rattle.jc_base.specs.Reading.{Reading}
use Rattle.jc_stream.specs.Streaming.{ReadsKnown}
use Rattle.jc_file.specs.Check.{first_failing}
use Rattle.jc_file.specs.Header.{header_checks}
use Rattle.jc_file.specs.FileReading.{IsFileReading}
use Rattle.jc_upload.specs.declared.head.Version.{Version}
use Rattle.jc_upload.specs.declared.head.Version.TheVariants.{V1, V2}
use Rattle.jc_upload.specs.Says.{BodySays, IsInParts, reading_under}
use Rattle.jc_upload.specs.declared.head.Kind.TheVariants.{Export, File}
use Rattle.jc_collect.specs.Body.{MayGive, SaysBody}

pub export_says : (limits : Limits) (version : Version) (known : Option (List ℕ)) (answered : Option Reading) (r : Reading)
    → ReadsKnown limits known answered → MayGive (option_map (reading_under version) answered) r → SaysBody limits version Export known r
export_says limits version None answered r reads gives = tt
export_says limits version (Some b) None r reads gives = absurd reads
export_says limits version (Some b) (Some read) r reads gives = record { read = read; reads = reads; under = gives }

pub file_says : (limits : Limits) (version : Version) (known : Option (List ℕ)) (answered : Option Reading) (r : Reading)
    → ((b : List ℕ) → known ≡ Some b → IsSomeAnd answered (IsFileReading limits b)) → MayGive (option_map (reading_under version) answered) r
    → SaysBody limits version File known r
file_says limits version None answered r reads gives = tt
file_says limits version (Some b) None r reads gives = absurd (reads b refl)
file_says limits version (Some b) (Some read) r reads gives = record { read = read; reads = reads b refl; under = gives }

-- ---- a file that is read whole first, up to one byte more than it may have

fault_of_long : (limits : Limits) (b : List ℕ) → limits.file < length b → first_failing (header_checks limits b) ≡ Some (record { code = FileTooLong; place = 0 })
fault_of_long limits b long = let past : nat_le (length b) limits.file ≡ false = lt-leb (length b) limits.file long in rw past refl

some_fault : (fault : Fault) → None ≡ Some fault → ⊥
some_fault fault h = cc

long_says : (limits : Limits) (a b : List ℕ) (r : Reading) → limits.file < length a → limits.file < length b → IsFileReading limits a r → IsFileReading limits b r
long_says limits a b r long longer h =
    let fails_so = fault_of_long limits a long in
    ⊎_elim
    (λ f. inl (record { fault = f.fault; fails = fault_of_long limits b longer ∙ sym fails_so ∙ f.fails; none = f.none; ending = f.ending }))
    (λ w. absurd (⊎_elim (λ x. some_fault _ (sym x.well ∙ fails_so)) (λ x. some_fault _ (sym x.well ∙ fails_so)) w)) h

pub gathered : (limits : Limits) (version : Version) (all rest bytes : List ℕ) (found : Reading) → all ≡ bytes ++ rest
    → (length bytes < limits.file + 1 → rest ≡ []) → BodySays limits version File bytes found → BodySays limits version File all found
gathered limits version all rest bytes found came ended says = record {
  read = says.read;
  reads = ⊎_elim short long (cases_lt (length bytes) (limits.file + 1));
  under = says.under;
}
  where
    short : length bytes < limits.file + 1 → IsFileReading limits all says.read
    short few =
        subst (λ (l : List ℕ). IsFileReading limits l says.read) (sym (came ∙ ap (λ l. bytes ++ l) (ended few) ∙ append-nil bytes)) says.reads

    long : limits.file + 1 ≤ length bytes → IsFileReading limits all says.read
    long many =
        let whole : length all ≡ length bytes + length rest = ap length came ∙ length-append bytes rest in
        long_says limits bytes all says.read (omega arith) (omega arith) says.reads

pub whole_says : (limits : Limits) (version : Version) (known rest : Option (List ℕ)) (bytes : List ℕ) (r : Reading)
    → Consumes known rest bytes → (length bytes < limits.file + 1 → IsAtEnd rest) → SaysBody limits version File (Some bytes) r
    → SaysBody limits version File known r
whole_says limits version None rest bytes r came ended says = tt
whole_says limits version (Some b) None bytes r came ended says = absurd came
whole_says limits version (Some b) (Some left) bytes r came ended says = gathered limits version b left bytes r came ended says

-- ---- what isn't to be whole counts as it is read

pub under_parts : (version : Version) (known : Option Reading) → IsInParts version → option_map (reading_under version) known ≡ known
under_parts V1 None parts = refl
under_parts V1 (Some r) parts = refl
under_parts (V2 false entries) None parts = refl
under_parts (V2 false entries) (Some r) parts = refl
under_parts (V2 true entries) known parts = absurd parts
