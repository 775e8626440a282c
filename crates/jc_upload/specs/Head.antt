-- The header of an upload: 48 bytes, which its body follows. (own)
use Rattle.std.specs.Prelude.{ℕ, ◌≡◌, ◌<◌, ◌≤◌, ◌^◌, ◌⊎◌, true, false, List, ◌∷◌, ◌++◌, length, take, replicate, codes, slice_index, slice_range}
use Rattle.std.specs.List.{All}
use Rattle.std.specs.Int.{w64, to_le_bytes}
use Rattle.jc_base.specs.Number.{IsId}
use Rattle.jc_base.specs.declared.fault.Code.{Code}
use Rattle.jc_base.specs.declared.fault.Code.TheVariants.{ShortHeader, BadMagic, BadKind, BadReserved}
use Rattle.jc_base.specs.declared.fault.Fault.{Fault}
use Rattle.jc_upload.specs.declared.head.Kind.{Kind}
use Rattle.jc_upload.specs.declared.head.Kind.TheVariants.{Export, File}
use Rattle.jc_upload.specs.declared.head.UploadHead.{UploadHead}
use Rattle.jc_upload.specs.declared.head.Version.{Version}
use Rattle.jc_upload.specs.declared.head.Version.TheVariants.{V1, V2}

-- how many bytes a header has, of either version (docs/FORMATS.md, "Uploads")
abbrev pub header_length : ℕ
header_length = 48

-- ---- the versions

abbrev pub first_magic : List ℕ
first_magic = codes "JCUPLD01"

abbrev pub second_magic : List ℕ
second_magic = codes "JCUPLD02"

abbrev pub magic_of : Version → List ℕ
magic_of V1 = first_magic
magic_of (V2 whole entries) = second_magic

-- In a second version, whether the upload is to be whole.
abbrev pub flag_of : Version → ℕ
flag_of V1 = 0
flag_of (V2 true entries) = 1
flag_of (V2 false entries) = 0

-- In a second version, how many entries the upload has.
abbrev pub number_of : Version → ℕ
number_of V1 = 0
number_of (V2 whole entries) = entries

abbrev pub kind_byte : Kind → ℕ
kind_byte Export = 1
kind_byte File = 2

-- The layout: the magic, the kind, the flag and six zeros, the source's id, the start, and the number of entries.
abbrev pub head_of : (magic : List ℕ) → (kind flag : ℕ) → (source start number : List ℕ) → List ℕ
head_of magic kind flag source start number = magic ++ kind ∷ flag ∷ replicate 6 0 ++ source ++ start ++ number

-- The one text of a header, its start and its number in 64 bits little-endian.
unfoldable pub head_text : UploadHead → List ℕ
head_text h =
    head_of (magic_of h.version) (kind_byte h.kind) (flag_of h.version) h.source.0 (to_le_bytes w64 h.start)
    (to_le_bytes w64 (number_of h.version))

-- what has such a text
pub record IsHead (h : UploadHead) : Type 0 where
  pub source : IsId h.source.0
  pub start : h.start < 2 ^ 64
  pub number : number_of h.version < 2 ^ 64

-- ---- the checks of an upload's beginning, in their order

abbrev pub HasLength : List ℕ → Type 0
HasLength bytes = header_length ≤ length bytes

-- a header of the first version, and one of the second
abbrev pub IsFirst : List ℕ → Type 0
IsFirst bytes = take 8 bytes ≡ first_magic

abbrev pub IsSecond : List ℕ → Type 0
IsSecond bytes = take 8 bytes ≡ second_magic

abbrev pub HasMagic : List ℕ → Type 0
HasMagic bytes = IsFirst bytes ⊎ IsSecond bytes

abbrev pub IsKindByte : ℕ → Type 0
IsKindByte byte = (kind : Kind) × (byte ≡ kind_byte kind)

abbrev pub HasKind : List ℕ → Type 0
HasKind bytes = IsKindByte (slice_index bytes 8)

abbrev pub AreZero : List ℕ → Type 0
AreZero bytes = All (λ b. b ≡ 0) bytes

-- the flag, which the first version hasn't
abbrev pub HasFlag : List ℕ → Type 0
HasFlag bytes = (IsFirst bytes → slice_index bytes 9 ≡ 0) × (IsSecond bytes → slice_index bytes 9 ≤ 1)

-- after the kind the flag, and six zeros
abbrev pub HasFirstZeros : List ℕ → Type 0
HasFirstZeros bytes = HasFlag bytes × AreZero (slice_range bytes 10 16)

-- at the header's end, where the second version has a number
abbrev pub HasLastZeros : List ℕ → Type 0
HasLastZeros bytes = IsFirst bytes → AreZero (slice_range bytes 40 48)

abbrev pub fault_at : Code → ℕ → Fault
fault_at code place = record { code = code; place = place }

-- The first check that doesn't hold gives the fault: this one, or one after it.
abbrev pub Checks : Type 0 → Fault → (Fault → Type 0) → Fault → Type 0
Checks holds fault behind found = ((¬ holds) × (found ≡ fault)) ⊎ (holds × behind found)

-- The fault that the beginning of an upload shows.
abbrev pub IsHeadFault : List ℕ → Fault → Type 0
IsHeadFault bytes =
    Checks (HasLength bytes) (fault_at ShortHeader (length bytes))
    (Checks (HasMagic bytes) (fault_at BadMagic 0)
    (Checks (HasKind bytes) (fault_at BadKind 8)
    (Checks (HasFirstZeros bytes) (fault_at BadReserved 9)
    (Checks (HasLastZeros bytes) (fault_at BadReserved 40) (λ _. ⊥)))))

-- The bytes pass every check, and have this version.
pub record IsChecked (bytes : List ℕ) (version : Version) : Type 0 where
  pub magic_is : take 8 bytes ≡ magic_of version
  pub flag_is : slice_index bytes 9 ≡ flag_of version
  pub zeros : AreZero (slice_range bytes 10 16)
  pub number_is : slice_range bytes 40 48 ≡ to_le_bytes w64 (number_of version)
  pub number_in : number_of version < 2 ^ 64

-- ... and this kind.
pub record HasKindOf (bytes : List ℕ) (kind : Kind) : Type 0 where
  pub magic_is : HasMagic bytes
  pub kind_is : slice_index bytes 8 ≡ kind_byte kind
