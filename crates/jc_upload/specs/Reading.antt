-- A middle between the texts and the code that reads them: what its readers compute of the bytes. (own)
use Rattle.std.specs.Prelude.{ℕ, ◌≡◌, ◌+◌, ◌^◌, ◌&&◌, ◌==◌, nat_eq, nat_lt, Bool, if◌then◌else◌, List, [], ◌∷◌, length, take, drop, codes, decimal, Option, Some, None, Result, Ok, Err, option_and_then}
use Rattle.std.specs.Borrow.{Bor}
use Rattle.std.specs.List.{position}
use Rattle.std.specs.Cmp.Lexicographic.{pointwise}
use Rattle.std.specs.Str.Parse.{digits_value}
use Rattle.hex.specs.Hex.{decode_of, encode_lower}
use Rattle.hex.specs.declared.error.FromHexError.{FromHexError}
use Rattle.jc_base.specs.declared.id.Id128.{Id128}
use Rattle.jc_upload.specs.declared.answer.Answer.{Answer}
use Rattle.jc_upload.specs.declared.answer.Answer.TheVariants.{Ack, No}
use Rattle.jc_upload.specs.Resume.{Point, key_of}

infixl 10 ◌>>=◌
abbrev pub ◌>>=◌ : {A B : Type 0} → Option A → (A → Option B) → Option B
o >>= f = option_and_then f o

abbrev pub same_bytes : List ℕ → List ℕ → Bool
same_bytes = pointwise nat_eq

-- ---- words

-- the number whose plain decimal the word is
unfoldable pub number_of : List ℕ → Option ℕ
number_of word =
    let n = digits_value 10 word in if nat_lt n (2 ^ 64) && same_bytes (decimal n) word then Some n else None

abbrev pub id_from : List ℕ → Result (List ℕ) FromHexError → Option Id128
id_from word (Ok bytes) =
    if nat_eq (length bytes) 16 && same_bytes (encode_lower bytes) word then Some (record { 0 = bytes }) else None
id_from word (Err e) = None

-- the id whose lower-case digits the word is
unfoldable pub id_of : List ℕ → Option Id128
id_of word = id_from word (decode_of word)

-- ---- the word at the front of bytes, which a byte ends, and what follows that byte

unfoldable pub word_at : ℕ → List ℕ → Option (List ℕ × List ℕ)
word_at end bytes = do
  at ← position (λ b. b == end) bytes
  Some (take at bytes, drop (at + 1) bytes)

unfoldable pub number_at : ℕ → List ℕ → Option (ℕ × List ℕ)
number_at end bytes = do
  word ← word_at end bytes
  n ← number_of word.0
  Some (n, word.1)

unfoldable pub id_at : ℕ → List ℕ → Option (Id128 × List ℕ)
id_at end bytes = do
  word ← word_at end bytes
  id ← id_of word.0
  Some (id, word.1)

unfoldable pub dash_at : ℕ → List ℕ → Option (List ℕ)
dash_at end bytes = do
  word ← word_at end bytes
  if same_bytes word.0 (codes "-") then Some word.1 else None

unfoldable pub pair_at : ℕ → List ℕ → Option (Option (Id128 × ℕ) × List ℕ)
pair_at end bytes = do
  word ← word_at 32 bytes
  if same_bytes word.0 (codes "-")
      then dash_at end word.1 >>= (λ rest. Some (None, rest))
      else id_of word.0 >>= (λ id. number_at end word.1 >>= (λ n. Some (Some (id, n.0), n.1)))

-- ---- lines

-- what was read, if nothing follows it
abbrev pub all_of : {A : Type 0} → A → List ℕ → Option A
all_of x [] = Some x
all_of x (b ∷ bytes) = None

unfoldable pub ack_at : List ℕ → Option Answer
ack_at bytes = do
  source ← id_at 32 bytes
  start ← number_at 32 source.1
  count ← number_at 32 start.1
  new ← number_at 32 count.1
  left ← number_at 10 new.1
  all_of (Ack source.0 start.0 count.0 new.0 left.0) left.1

unfoldable pub no_at : List ℕ → Option Answer
no_at bytes = do
  of ← pair_at 32 bytes
  code ← number_at 32 of.1
  place ← number_at 10 code.1
  if nat_lt code.0 (2 ^ 16) then all_of (No of.0 code.0 place.0) place.1 else None

unfoldable pub answer_at : List ℕ → Option Answer
answer_at bytes = do
  word ← word_at 32 bytes
  if same_bytes word.0 (codes "ack")
      then ack_at word.1
      else if same_bytes word.0 (codes "no") then no_at word.1 else None

abbrev pub point_of : ℕ → Option (Id128 × ℕ) → Option Point
point_of position None = if nat_eq position 0 then Some (record { position = position; last = None }) else None
point_of position (Some pair) =
    if nat_lt 0 position && nat_lt 0 pair.1 && nat_lt pair.1 (2 ^ 63)
    then Some (record { position = position; last = Some (key_of pair) }) else None

unfoldable pub point_at : List ℕ → Option Point
point_at bytes = do
  position ← number_at 32 bytes
  last ← pair_at 10 position.1
  point ← point_of position.0 last.0
  all_of point last.1

unfoldable pub resume_at : List ℕ → Option Point
resume_at bytes = do
  word ← word_at 32 bytes
  if same_bytes word.0 (codes "resume") then point_at word.1 else None

-- ---- what a reader gave, and what it left

abbrev pub Gives : {A : Type 0} → Option A → List ℕ → Option (A × List ℕ) → Type 0
Gives None rest read = read ≡ None
Gives (Some x) rest read = read ≡ Some (x, rest)

abbrev pub GivesBytes : Option (Bor (List ℕ)) → List ℕ → Option (List ℕ × List ℕ) → Type 0
GivesBytes None rest read = read ≡ None
GivesBytes (Some x) rest read = read ≡ Some (x.now, rest)
