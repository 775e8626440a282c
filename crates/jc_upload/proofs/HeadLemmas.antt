-- The bytes of a header, cut into its fields.
use Rattle.std.proofs.Common.{◌≡◌, ◌↔◌, Bool, true, false, IsTrue, ℕ, ◌+◌, ◌-◌, ◌<◌, ◌≤◌, ◌^◌, List, [], ◌∷◌, ◌++◌, length, take, drop, get_or, set, replicate, refl, sym, ap, subst, ◌∙◌, inl, inr, ⊎_elim, arith}
use Rattle.std.proofs.Math.Seq.{drop-cons}
use Rattle.std.proofs.lemmas.List.{append-nil, append_assoc, take-append-le, drop-append-le, get_or_append_left, length-append, length-set, length-take, length-take-le, length-drop, length-replicate, get_or-replicate, get_or-take, get_or-drop, get_or_past, get_or_default, take_at, drop_at, take-append-drop, drop-drop, drop_all, same_lists}
use Rattle.std.proofs.lemmas.Bool.{cases_lt}
use Rattle.std.proofs.lemmas.List.Elements.{All-replicate}
use Rattle.std.proofs.lemmas.Nat.{le_bytes_8, from_le_bytes-to_le_bytes_8}
use Rattle.std.specs.Prelude.{slice_index, slice_range}
use Rattle.std.specs.Int.{w64, to_le_bytes, from_le_bytes}
use Rattle.byteorder.specs.Endian.{little_number}
use Rattle.jc_base.specs.Number.{IsId}
use Rattle.jc_base.specs.declared.fault.Code.TheVariants.{BadKind, BadReserved}
use Rattle.jc_base.specs.declared.fault.Fault.{Fault}
use Rattle.jc_upload.specs.declared.head.Kind.{Kind}
use Rattle.jc_upload.specs.declared.head.Kind.TheVariants.{Export, File}
use Rattle.jc_upload.specs.declared.head.UploadHead.{UploadHead}
use Rattle.jc_upload.specs.declared.head.Version.{Version}
use Rattle.jc_upload.specs.declared.head.Version.TheVariants.{V1, V2}
use Rattle.jc_upload.specs.Head.{first_magic, magic_of, flag_of, number_of, kind_byte, head_of, head_text, AreZero, IsFirst, IsSecond, IsHead, IsChecked, HasKindOf, IsHeadFault, Checks, HasMagic, HasLength, HasKind, HasFirstZeros, HasLastZeros, fault_at}
use borrow.Rule.Slice.PartMut.{put_mid}

-- ---- what `write` puts together

before_number : (version : Version) (kind flag : ℕ) (source start : List ℕ) → length source ≡ 16 → length start ≡ 8
    → put_mid 32 8 (put_mid 16 16 (set (set (magic_of version ++ replicate 40 0) 8 kind) 9 flag) source) start
    ≡ head_of (magic_of version) kind flag source start (replicate 8 0)
before_number V1 kind flag source start len eight =
    rw (take_at source (replicate 16 0) 16 len, drop_at source (replicate 16 0) 16 len) (rw (append_assoc source start (replicate 8 0)) refl)
before_number (V2 whole entries) kind flag source start len eight =
    rw (take_at source (replicate 16 0) 16 len, drop_at source (replicate 16 0) 16 len) (rw (append_assoc source start (replicate 8 0)) refl)

with_number : (first number : List ℕ) → length first ≡ 40 → put_mid 40 8 (first ++ replicate 8 0) number ≡ first ++ number
with_number first number len =
    rw (take_at first (replicate 8 0) 40 len, drop_at first (replicate 8 0) 40 len) (rw (append-nil number) refl)

front_length : (version : Version) (kind flag : ℕ) (source start : List ℕ) → length source ≡ 16 → length start ≡ 8
    → length (magic_of version ++ kind ∷ flag ∷ replicate 6 0 ++ source ++ start) ≡ 40
front_length V1 kind flag source start len eight = simp (length-append) (omega (arith, len, eight))
front_length (V2 whole entries) kind flag source start len eight = simp (length-append) (omega (arith, len, eight))

pub written_head : (h : UploadHead) (first : List ℕ) (kind flag entries : ℕ) (source start number : List ℕ)
    → first ≡ magic_of h.version → kind ≡ kind_byte h.kind → flag ≡ flag_of h.version → source ≡ h.source.0
    → start ≡ to_le_bytes w64 h.start → entries ≡ number_of h.version → number ≡ to_le_bytes w64 entries → length source ≡ 16
    → put_mid 40 8 (put_mid 32 8 (put_mid 16 16 (set (set (first ++ replicate 40 0) 8 kind) 9 flag) source) start) number ≡ head_text h
unfolding head_text
written_head h first kind flag entries source start number is_magic is_kind is_flag is_source is_start is_entries is_number len =
    let id : length h.source.0 ≡ 16 = subst (λ (l : List ℕ). length l ≡ 16) is_source len in
    let same_number : number ≡ to_le_bytes w64 (number_of h.version) = is_number ∙ ap (to_le_bytes w64) is_entries in
    rw (is_magic, is_kind, is_flag, is_source, is_start, same_number)
    (ap (λ (l : List ℕ). put_mid 40 8 l (to_le_bytes w64 (number_of h.version)))
    (before_number h.version (kind_byte h.kind) (flag_of h.version) h.source.0 (to_le_bytes w64 h.start) id refl)
    ∙ with_number (magic_of h.version ++ kind_byte h.kind ∷ flag_of h.version ∷ replicate 6 0 ++ h.source.0 ++ to_le_bytes w64 h.start)
    (to_le_bytes w64 (number_of h.version))
    (front_length h.version (kind_byte h.kind) (flag_of h.version) h.source.0 (to_le_bytes w64 h.start) id refl))

-- a write to a part leaves the number of bytes
put_length : (a k n : ℕ) (xs ys : List ℕ) → length xs ≡ n → a + k ≤ n → length ys ≡ k → length (put_mid a k xs ys) ≡ n
put_length a k n xs ys len fits size =
    let all = length-append (take a xs) (ys ++ drop k (drop a xs)) in
    let behind = length-append ys (drop k (drop a xs)) in
    let front : length (take a xs) ≡ a = length-take-le a xs (omega (arith, len, fits)) in
    let rest = length-drop k (drop a xs) in
    let part = length-drop a xs in
    omega (arith, all, behind, front, rest, part, len, fits, size)

pub number_room : (first : List ℕ) (kind flag : ℕ) (source start : List ℕ) → length first ≡ 8 → length source ≡ 16 → length start ≡ 8
    → 48 ≤ length (put_mid 32 8 (put_mid 16 16 (set (set (first ++ replicate 40 0) 8 kind) 9 flag) source) start)
number_room first kind flag source start eight id len =
    let bytes = set (set (first ++ replicate 40 0) 8 kind) 9 flag in
    let whole : length (first ++ replicate 40 0) ≡ 48 = omega (arith, length-append first (replicate 40 0), eight) in
    let all : length bytes ≡ 48 =
    length-set (set (first ++ replicate 40 0) 8 kind) 9 flag ∙ length-set (first ++ replicate 40 0) 8 kind ∙ whole in
    let named : length (put_mid 16 16 bytes source) ≡ 48 = put_length 16 16 48 bytes source all (omega arith) id in
    let numbered : length (put_mid 32 8 (put_mid 16 16 bytes source) start) ≡ 48 =
    put_length 32 8 48 (put_mid 16 16 bytes source) start named (omega arith) len in
    omega (arith, numbered)

-- ---- what checked bytes are

-- the number that eight bytes spell has these bytes
le_bytes : (bytes : List ℕ) → length bytes ≡ 8 → ((i : ℕ) → get_or bytes i 0 < 256) → to_le_bytes w64 (little_number 8 bytes) ≡ bytes
le_bytes bytes len small = le_bytes_8 bytes (little_number 8 bytes) len small (omega arith)

-- the next n bytes, and the others
cut : (n i : ℕ) (bytes : List ℕ) → drop i bytes ≡ take n (drop i bytes) ++ drop (i + n) bytes
cut n i bytes = sym (take-append-drop n (drop i bytes)) ∙ ap (λ r. take n (drop i bytes) ++ r) (drop-drop n i bytes)

length_part : (n i : ℕ) (bytes : List ℕ) → i + n ≤ length bytes → length (take n (drop i bytes)) ≡ n
length_part n i bytes fits = rw (length-take n (drop i bytes), length-drop i bytes) (omega arith)

zeros : (n : ℕ) (bytes : List ℕ) → length bytes ≡ n → AreZero bytes → bytes ≡ replicate n 0
zeros n bytes len zero =
    same_lists bytes (replicate n 0) (len ∙ sym (length-replicate n 0))
    (λ k d h. zero k d h ∙ sym (get_or-replicate n k 0 d (omega arith)))

-- the header of these fields
abbrev pub head_with : Version → Kind → List ℕ → ℕ → UploadHead
head_with version kind source start = record { version = version; kind = kind; source = record { 0 = source }; start = start }

abbrev read_head : List ℕ → Version → Kind → UploadHead
read_head bytes version kind = head_with version kind (take 16 (drop 16 bytes)) (little_number 8 (take 8 (drop 32 bytes)))

laid_out : (bytes : List ℕ) (version : Version) (kind : Kind) → length bytes ≡ 48 → IsChecked bytes version → HasKindOf bytes kind
    → bytes ≡ head_of (magic_of version) (kind_byte kind) (flag_of version) (take 16 (drop 16 bytes)) (take 8 (drop 32 bytes))
    (to_le_bytes w64 (number_of version))
laid_out bytes version kind len ok has =
    let source = take 16 (drop 16 bytes) in
    let start = take 8 (drop 32 bytes) in
    let number = to_le_bytes w64 (number_of version) in
    let zero : take 6 (drop 10 bytes) ≡ replicate 6 0 = zeros 6 (take 6 (drop 10 bytes)) (length_part 6 10 bytes (omega arith)) ok.zeros in
    let at40 : drop 40 bytes ≡ number = cut 8 40 bytes ∙ ap (λ r. r ++ drop 48 bytes) ok.number_is ∙ ap (λ r. number ++ r) (drop_all 48 bytes (omega arith)) ∙ append-nil number in
    let at16 : drop 16 bytes ≡ source ++ (start ++ number) = cut 16 16 bytes ∙ ap (λ r. source ++ r) (cut 8 32 bytes ∙ ap (λ r. start ++ r) at40) in
    let at10 : drop 10 bytes ≡ replicate 6 0 ++ (source ++ (start ++ number)) = cut 6 10 bytes ∙ ap (λ r. r ++ drop 16 bytes) zero ∙ ap (λ r. replicate 6 0 ++ r) at16 in
    let at9 : drop 9 bytes ≡ flag_of version ∷ (replicate 6 0 ++ (source ++ (start ++ number))) = drop-cons bytes 9 0 (omega arith) ∙ ap (λ (k : ℕ). k ∷ drop 10 bytes) ok.flag_is ∙ ap (λ r. flag_of version ∷ r) at10 in
    let at8 : drop 8 bytes ≡ kind_byte kind ∷ (flag_of version ∷ (replicate 6 0 ++ (source ++ (start ++ number)))) = drop-cons bytes 8 0 (omega arith) ∙ ap (λ (k : ℕ). k ∷ drop 9 bytes) has.kind_is ∙ ap (λ r. kind_byte kind ∷ r) at9 in
    sym (take-append-drop 8 bytes) ∙ ap (λ r. r ++ drop 8 bytes) ok.magic_is ∙ ap (λ r. magic_of version ++ r) at8
    ∙ grouped version (kind_byte kind) (flag_of version) source start number
  where
    grouped : (version : Version) (kind flag : ℕ) (source start number : List ℕ)
        → magic_of version ++ (kind ∷ (flag ∷ (replicate 6 0 ++ (source ++ (start ++ number))))) ≡ head_of (magic_of version) kind flag source start number
    grouped V1 kind flag source start number =
        ap (λ r. first_magic ++ (kind ∷ (flag ∷ (replicate 6 0 ++ r)))) (sym (append_assoc source start number))
    grouped (V2 whole entries) kind flag source start number =
        ap (λ r. magic_of (V2 whole entries) ++ (kind ∷ (flag ∷ (replicate 6 0 ++ r)))) (sym (append_assoc source start number))

small_part : (n i : ℕ) (bytes : List ℕ) → ((k : ℕ) → get_or bytes k 0 < 256) → (k : ℕ) → get_or (take n (drop i bytes)) k 0 < 256
small_part n i bytes small k =
    elim (cases_lt k n) [
      | inl below ↦ rw (get_or-take n (drop i bytes) k 0 below, get_or-drop i bytes k 0) (small (i + k))
      | inr past ↦ rw (get_or_past (take n (drop i bytes)) k 0 (rw (length-take n (drop i bytes)) (omega arith))) (omega arith)
    ]

checked_text : (bytes : List ℕ) (version : Version) (kind : Kind) → length bytes ≡ 48 → ((i : ℕ) → get_or bytes i 0 < 256)
    → IsChecked bytes version → HasKindOf bytes kind → bytes ≡ head_text (read_head bytes version kind)
unfolding head_text
checked_text bytes version kind len small ok has =
    let start = take 8 (drop 32 bytes) in
    let eight : length start ≡ 8 = length_part 8 32 bytes (omega arith) in
    laid_out bytes version kind len ok has
    ∙ ap (λ l. head_of (magic_of version) (kind_byte kind) (flag_of version) (take 16 (drop 16 bytes)) l (to_le_bytes w64 (number_of version)))
    (sym (le_bytes start eight (λ i. small_part 8 32 bytes small i)))

number_small : (bytes : List ℕ) → ((i : ℕ) → get_or bytes i 0 < 256) → little_number 8 bytes < 2 ^ 64
number_small bytes small =
    omega (arith, small 0, small 1, small 2, small 3, small 4, small 5, small 6, small 7)

-- what `read` makes of checked bytes
pub found_head : (bytes : List ℕ) (version : Version) (kind : Kind) (source : List ℕ) (start : ℕ)
    → length bytes ≡ 48 → ((i : ℕ) → get_or bytes i 0 < 256) → IsChecked bytes version → HasKindOf bytes kind
    → source ≡ take 16 (drop 16 bytes) → start ≡ little_number 8 (take 8 (drop 32 bytes))
    → IsHead (head_with version kind source start) × (bytes ≡ head_text (head_with version kind source start))
found_head bytes version kind source start len small ok has is_source is_start =
    let id : IsId (take 16 (drop 16 bytes)) =
    (length_part 16 16 bytes (omega arith), λ k d h. rw (get_or_default (take 16 (drop 16 bytes)) k d 0 h) (small_part 16 16 bytes small k)) in
    rw (is_source, is_start) (
      record { source = id; start = number_small (take 8 (drop 32 bytes)) (small_part 8 32 bytes small); number = ok.number_in },
      checked_text bytes version kind len small ok has,
    )

-- ---- the checks of each version

pub first_checked : (bytes : List ℕ) → length bytes ≡ 48 → IsFirst bytes → slice_index bytes 9 ≤ 0 → AreZero (slice_range bytes 10 16)
    → AreZero (slice_range bytes 40 48) → IsChecked bytes V1
first_checked bytes len first flag zero last = record {
  magic_is = first;
  flag_is = omega (arith, flag);
  zeros = zero;
  number_is = zeros 8 (take 8 (drop 40 bytes)) (length_part 8 40 bytes (omega arith)) last;
  number_in = omega arith;
}

pub second_checked : (bytes : List ℕ) (whole : Bool) (entries : ℕ) → length bytes ≡ 48 → ((i : ℕ) → get_or bytes i 0 < 256) → IsSecond bytes
    → slice_index bytes 9 ≤ 1 → AreZero (slice_range bytes 10 16) → (IsTrue whole ↔ (slice_index bytes 9 ≡ 1))
    → entries ≡ little_number 8 (slice_range bytes 40 48) → IsChecked bytes (V2 whole entries)
second_checked bytes whole entries len small second flag zero is_whole is_number = record {
  magic_is = second;
  flag_is = flagged whole is_whole;
  zeros = zero;
  number_is = rw is_number (sym (le_bytes (take 8 (drop 40 bytes)) (length_part 8 40 bytes (omega arith)) (λ i. small_part 8 40 bytes small i)));
  number_in = rw is_number (number_small (take 8 (drop 40 bytes)) (small_part 8 40 bytes small));
}
  where
    flagged : (whole : Bool) → (IsTrue whole ↔ (slice_index bytes 9 ≡ 1)) → slice_index bytes 9 ≡ flag_of (V2 whole entries)
    flagged true is = is.0 refl
    flagged false is = omega (arith, flag, not_one)
      where
        not_one : ¬ (slice_index bytes 9 ≡ 1)
        not_one h = let w : false ≡ true = is.1 h in cc

no_second : (bytes : List ℕ) → IsFirst bytes → ¬ IsSecond bytes
no_second bytes first second =
    let seventh : 49 ≡ 50 = ap (λ (l : List ℕ). get_or l 7 0) (sym first ∙ second) in
    omega (arith, seventh)

pub kind_unknown : (bytes : List ℕ) → length bytes ≡ 48 → HasMagic bytes → ¬ HasKind bytes → IsHeadFault bytes (fault_at BadKind 8)
kind_unknown bytes len magic none = inr (omega (arith, len), inr (magic, inl (none, refl)))

pub flag_unknown : (bytes : List ℕ) → length bytes ≡ 48 → HasMagic bytes → HasKind bytes → ¬ HasFirstZeros bytes → IsHeadFault bytes (fault_at BadReserved 9)
flag_unknown bytes len magic kind none = inr (omega (arith, len), inr (magic, inr (kind, inl (none, refl))))

pub first_flag : (bytes : List ℕ) → IsFirst bytes → ¬ ((slice_index bytes 9 ≤ 0) × AreZero (slice_range bytes 10 16)) → ¬ HasFirstZeros bytes
first_flag bytes first none has = none (omega (arith, has.0.0 first), has.1)

pub second_flag : (bytes : List ℕ) → IsSecond bytes → ¬ ((slice_index bytes 9 ≤ 1) × AreZero (slice_range bytes 10 16)) → ¬ HasFirstZeros bytes
second_flag bytes second none has = none (has.0.1 second, has.1)

pub last_not_zero : (bytes : List ℕ) → length bytes ≡ 48 → IsFirst bytes → HasKind bytes → slice_index bytes 9 ≤ 0 → AreZero (slice_range bytes 10 16)
    → ¬ AreZero (slice_range bytes 40 48) → IsHeadFault bytes (fault_at BadReserved 40)
last_not_zero bytes len first kind flag zero last =
    let firsts : HasFirstZeros bytes =
    ((λ _. omega (arith, flag), λ second. absurd (no_second bytes first second)), zero) in
    inr (omega (arith, len), inr (inl first, inr (kind, inr (firsts, inl (λ h. last (h first), refl)))))

-- ---- the fields of a header's text, whatever follows it

-- the text without its first sixteen bytes
behind_kind : (version : Version) (kind flag : ℕ) (source start number body : List ℕ)
    → drop 16 (head_of (magic_of version) kind flag source start number ++ body) ≡ source ++ (start ++ (number ++ body))
behind_kind V1 kind flag source start number body =
    append_assoc (source ++ start) number body ∙ append_assoc source start (number ++ body)
behind_kind (V2 whole entries) kind flag source start number body =
    append_assoc (source ++ start) number body ∙ append_assoc source start (number ++ body)

behind_source : (version : Version) (kind flag : ℕ) (source start number body : List ℕ) → length source ≡ 16
    → drop 32 (head_of (magic_of version) kind flag source start number ++ body) ≡ start ++ (number ++ body)
behind_source version kind flag source start number body len =
    sym (drop-drop 16 16 (head_of (magic_of version) kind flag source start number ++ body)) ∙ ap (drop 16) (behind_kind version kind flag source start number body) ∙ drop_at source _ 16 len

behind_start : (version : Version) (kind flag : ℕ) (source start number body : List ℕ) → length source ≡ 16 → length start ≡ 8
    → drop 40 (head_of (magic_of version) kind flag source start number ++ body) ≡ number ++ body
behind_start version kind flag source start number body len eight =
    sym (drop-drop 8 32 (head_of (magic_of version) kind flag source start number ++ body)) ∙ ap (drop 8) (behind_source version kind flag source start number body len) ∙ drop_at start _ 8 eight

-- its magic, its kind and its flag, and the six zeros
magic_at : (version : Version) (kind flag : ℕ) (source start number body : List ℕ)
    → take 8 (head_of (magic_of version) kind flag source start number ++ body) ≡ magic_of version
magic_at V1 kind flag source start number body = refl
magic_at (V2 whole entries) kind flag source start number body = refl

byte_at : (version : Version) (kind flag : ℕ) (source start number body : List ℕ)
    → (slice_index (head_of (magic_of version) kind flag source start number ++ body) 8 ≡ kind)
    × (slice_index (head_of (magic_of version) kind flag source start number ++ body) 9 ≡ flag)
byte_at V1 kind flag source start number body = (refl, refl)
byte_at (V2 whole entries) kind flag source start number body = (refl, refl)

zeros_at : (version : Version) (kind flag : ℕ) (source start number body : List ℕ)
    → slice_range (head_of (magic_of version) kind flag source start number ++ body) 10 16 ≡ replicate 6 0
zeros_at V1 kind flag source start number body = refl
zeros_at (V2 whole entries) kind flag source start number body = refl

pub head_length : (h : UploadHead) → IsHead h → length (head_text h) ≡ 48
unfolding head_text
head_length h ok =
    let front = front_length h.version (kind_byte h.kind) (flag_of h.version) h.source.0 (to_le_bytes w64 h.start) ok.source.0 refl in
    simp (length-append) (omega (arith, simp (length-append) at front))

-- a check that holds finds no fault itself
passes : (holds : Type 0) (fault : Fault) (behind : Fault → Type 0) → holds → ((found : Fault) → ¬ behind found)
    → (found : Fault) → ¬ Checks holds fault behind found
passes holds fault behind ok none found = ⊎_elim (λ w. w.0 ok) (λ w. none found w.1)

-- what the text of a version passes

has_magic : (version : Version) (bytes : List ℕ) → take 8 bytes ≡ magic_of version → HasMagic bytes
has_magic V1 bytes is = inl is
has_magic (V2 whole entries) bytes is = inr is

has_zeros : (version : Version) (bytes : List ℕ) → take 8 bytes ≡ magic_of version → slice_index bytes 9 ≡ flag_of version
    → AreZero (slice_range bytes 10 16) → HasFirstZeros bytes
has_zeros V1 bytes is flag zero = ((λ _. flag, λ second. absurd (no_second bytes is second)), zero)
has_zeros (V2 true entries) bytes is flag zero = ((λ first. absurd (no_second bytes first is), λ _. omega (arith, flag)), zero)
has_zeros (V2 false entries) bytes is flag zero = ((λ first. absurd (no_second bytes first is), λ _. omega (arith, flag)), zero)

has_last : (version : Version) (bytes : List ℕ) → take 8 bytes ≡ magic_of version
    → slice_range bytes 40 48 ≡ to_le_bytes w64 (number_of version) → HasLastZeros bytes
has_last V1 bytes is number = λ _. subst AreZero (sym number) (All-replicate (λ b. b ≡ 0) 8 0 refl)
has_last (V2 whole entries) bytes is number = λ first. absurd (no_second bytes first is)

pub no_head_fault : (h : UploadHead) (body : List ℕ) → IsHead h → (fault : Fault) → ¬ IsHeadFault (head_text h ++ body) fault
unfolding head_text
no_head_fault h body ok =
    let version = h.version in
    let kind = kind_byte h.kind in
    let flag = flag_of version in
    let start = to_le_bytes w64 h.start in
    let number = to_le_bytes w64 (number_of version) in
    let bytes = head_of (magic_of version) kind flag h.source.0 start number ++ body in
    let front = front_length version kind flag h.source.0 start ok.source.0 refl in
    let long : HasLength bytes = simp (length-append) (omega (arith, simp (length-append) at front)) in
    let magic = magic_at version kind flag h.source.0 start number body in
    let at = byte_at version kind flag h.source.0 start number body in
    let zero : AreZero (slice_range bytes 10 16) =
    subst AreZero (sym (zeros_at version kind flag h.source.0 start number body)) (All-replicate (λ b. b ≡ 0) 6 0 refl) in
    let last : slice_range bytes 40 48 ≡ number =
    ap (take 8) (behind_start version kind flag h.source.0 start number body ok.source.0 refl) ∙ take_at number body 8 refl in
    passes (HasLength bytes) _ _ long
    (passes (HasMagic bytes) _ _ (has_magic version bytes magic)
    (passes (HasKind bytes) _ _ (h.kind, at.0)
    (passes (HasFirstZeros bytes) _ _ (has_zeros version bytes magic at.1 zero)
    (passes (HasLastZeros bytes) _ (λ _. ⊥) (has_last version bytes magic last) (λ found never. never)))))

-- what 48 bytes show, they show whatever follows them
pub front_fault : (bytes body : List ℕ) (fault : Fault) → 48 ≤ length bytes → IsHeadFault bytes fault → IsHeadFault (bytes ++ body) fault
front_fault bytes body fault long (inl short) = absurd (short.0 long)
front_fault bytes body fault long (inr others) =
    let ten : length (drop 10 bytes) ≡ length bytes - 10 = length-drop 10 bytes in
    let forty : length (drop 40 bytes) ≡ length bytes - 40 = length-drop 40 bytes in
    inr (
      omega (arith, length-append bytes body),
      rw (
        take-append-le 8 bytes body (omega arith),
        get_or_append_left bytes body 0 8 (omega arith),
        get_or_append_left bytes body 0 9 (omega arith),
        drop-append-le 10 bytes body (omega arith),
        take-append-le 6 (drop 10 bytes) body (omega arith),
        drop-append-le 40 bytes body (omega arith),
        take-append-le 8 (drop 40 bytes) body (omega arith),
      ) others.1,
    )

-- ---- one header

one_kind : (k j : Kind) → kind_byte k ≡ kind_byte j → k ≡ j
one_kind Export Export e = refl
one_kind Export File e = absurd (omega arith)
one_kind File Export e = absurd (omega arith)
one_kind File File e = refl

same_flag : (a b : Bool) (n m : ℕ) → flag_of (V2 a n) ≡ flag_of (V2 b m) → a ≡ b
same_flag true true n m e = refl
same_flag true false n m e = absurd (omega (arith, e))
same_flag false true n m e = absurd (omega (arith, e))
same_flag false false n m e = refl

one_version : (v w : Version) → magic_of v ≡ magic_of w → flag_of v ≡ flag_of w → number_of v ≡ number_of w → v ≡ w
one_version V1 V1 magic flag number = refl
one_version V1 (V2 b m) magic flag number = absurd (omega (arith, ap (λ (l : List ℕ). get_or l 7 0) magic))
one_version (V2 a n) V1 magic flag number = absurd (omega (arith, ap (λ (l : List ℕ). get_or l 7 0) magic))
one_version (V2 a n) (V2 b m) magic flag number = ap (λ (x : Bool). V2 x n) (same_flag a b n m flag) ∙ ap (λ (x : ℕ). V2 b x) number

same_head : (h g : UploadHead) → h.version ≡ g.version → h.kind ≡ g.kind → h.source.0 ≡ g.source.0 → h.start ≡ g.start → h ≡ g
same_head h g version kind source start =
    let make = λ (v : Version) (k : Kind) (s : List ℕ) (n : ℕ). head_with v k s n in
    ap (λ v. make v h.kind h.source.0 h.start) version ∙ ap (λ k. make g.version k h.source.0 h.start) kind
    ∙ ap (λ s. make g.version g.kind s h.start) source ∙ ap (make g.version g.kind g.source.0) start

pub one_head : (h g : UploadHead) (x y : List ℕ) → IsHead h → IsHead g → head_text h ++ x ≡ head_text g ++ y → (h ≡ g) × (x ≡ y)
unfolding head_text
one_head h g x y ok fine e =
    let a = to_le_bytes w64 h.start in
    let b = to_le_bytes w64 g.start in
    let m = to_le_bytes w64 (number_of h.version) in
    let n = to_le_bytes w64 (number_of g.version) in
    let of_h = byte_at h.version (kind_byte h.kind) (flag_of h.version) h.source.0 a m x in
    let of_g = byte_at g.version (kind_byte g.kind) (flag_of g.version) g.source.0 b n y in
    let magic : magic_of h.version ≡ magic_of g.version =
    sym (magic_at h.version (kind_byte h.kind) (flag_of h.version) h.source.0 a m x) ∙ ap (take 8) e
    ∙ magic_at g.version (kind_byte g.kind) (flag_of g.version) g.source.0 b n y in
    let kind : h.kind ≡ g.kind = one_kind h.kind g.kind (sym of_h.0 ∙ ap (λ t. get_or t 8 0) e ∙ of_g.0) in
    let flag : flag_of h.version ≡ flag_of g.version = sym of_h.1 ∙ ap (λ t. get_or t 9 0) e ∙ of_g.1 in
    let source : h.source.0 ≡ g.source.0 =
    sym (take_at h.source.0 _ 16 ok.source.0) ∙ sym (ap (take 16) (behind_kind h.version (kind_byte h.kind) (flag_of h.version) h.source.0 a m x))
    ∙ ap (λ t. take 16 (drop 16 t)) e
    ∙ ap (take 16) (behind_kind g.version (kind_byte g.kind) (flag_of g.version) g.source.0 b n y) ∙ take_at g.source.0 _ 16 fine.source.0 in
    let start : a ≡ b =
    sym (take_at a (m ++ x) 8 refl) ∙ sym (ap (take 8) (behind_source h.version (kind_byte h.kind) (flag_of h.version) h.source.0 a m x ok.source.0))
    ∙ ap (λ t. take 8 (drop 32 t)) e
    ∙ ap (take 8) (behind_source g.version (kind_byte g.kind) (flag_of g.version) g.source.0 b n y fine.source.0) ∙ take_at b (n ++ y) 8 refl in
    let last : m ++ x ≡ n ++ y =
    sym (behind_start h.version (kind_byte h.kind) (flag_of h.version) h.source.0 a m x ok.source.0 refl) ∙ ap (drop 40) e
    ∙ behind_start g.version (kind_byte g.kind) (flag_of g.version) g.source.0 b n y fine.source.0 refl in
    let number : m ≡ n = sym (take_at m x 8 refl) ∙ ap (take 8) last ∙ take_at n y 8 refl in
    let rest : x ≡ y = sym (drop_at m x 8 refl) ∙ ap (drop 8) last ∙ drop_at n y 8 refl in
    let same_start : h.start ≡ g.start = sym (from_le_bytes-to_le_bytes_8 h.start ok.start) ∙ ap (from_le_bytes w64) start ∙ from_le_bytes-to_le_bytes_8 g.start fine.start in
    let same_number : number_of h.version ≡ number_of g.version =
    sym (from_le_bytes-to_le_bytes_8 (number_of h.version) ok.number) ∙ ap (from_le_bytes w64) number ∙ from_le_bytes-to_le_bytes_8 (number_of g.version) fine.number in
    (same_head h g (one_version h.version g.version magic flag same_number) kind source same_start, rest)

-- what the contract of `read` says, by the bytes alone
pub no_head : (bytes : List ℕ) (fault : Fault) → IsHeadFault bytes fault → (h : UploadHead) → IsHead h → bytes ≡ head_text h → ⊥
no_head bytes fault is_fault h ok e =
    no_head_fault h [] ok fault (subst (λ b. IsHeadFault b fault) (e ∙ sym (append-nil (head_text h))) is_fault)

pub same_text : (h g : UploadHead) → IsHead h → IsHead g → head_text h ≡ head_text g → h ≡ g
same_text h g ok fine e =
    (one_head h g [] [] ok fine (ap (λ t. t ++ []) e)).0
