-- The lines of a terminal that say how far a command is, what a terminal obeys, and what turns a line. (own; Unicode's
-- controls, and its controls of the direction)
use Rattle.std.specs.Prelude.{◌≡◌, ◌==◌, ◌≤◌, ◌+◌, ◌/◌, ◌%◌, ◌++◌, ◌∷◌, ◌&&◌, ◌||◌, [], ℕ, Bool, false, List, codes, decimal, length, count_by, max, vec_len, Option, Some, None}
use Rattle.std.specs.Int.{is_in_range}
use Rattle.std.specs.Time.{instant_nanos}
use Rattle.std.specs.declared.time.Instant.{Instant}
use Rattle.jc_command_args.specs.Words.{AskFor}
use Rattle.jc_command_args.specs.declared.request.Request.{Request}
use Rattle.jc_command_args.specs.declared.request.Request.TheVariants as request
use Rattle.jc_render.specs.declared.board.Line.{Line}
use Rattle.jc_render.specs.declared.board.Unit.{Unit}
use Rattle.jc_render.specs.declared.board.Unit.TheVariants.{Uploads, Listed, Exported, Shown, Checked, Migrated, Verified}
use Rattle.jc_render.specs.declared.terminal.Ahead.{Ahead}

-- how many of a unit there are in what was written
abbrev pub units_in : Unit → List ℕ → ℕ
units_in Exported bytes = length bytes
units_in _ bytes = count_by (λ b. b == 10) bytes

-- What is counted of a request: one upload at least, since standard input has one if none is named. Of one that takes no
-- long time nothing is told.
abbrev pub unit_of : Request → Option Unit
unit_of (request.Collect database tables uploads then_export) = Some (Uploads (max (vec_len uploads) 1))
unit_of (request.CollectListed database tables list then_export) = Some Listed
unit_of (request.CollectIntoUnion database tables list sequences most_windows then_export) = Some Listed
unit_of (request.Export database) = Some Exported
unit_of (request.Show database field id first last) = Some Shown
unit_of (request.Check database) = Some Checked
unit_of (request.CheckNoted database sequences) = Some Checked
unit_of (request.Migrate database tables) = Some Migrated
unit_of (request.Verify kind file) = Some Verified
unit_of _ = None

-- The line of what words ask for, before it begins.
abbrev pub IsLineFor : (words : List (List ℕ)) → Line → Type 0
IsLineFor words line = (request : Request) × AskFor words request × (Some line.unit ≡ unit_of request) × (line.done ≡ 0)

-- A second has gone by since the last line. Where no time is known none is told.
abbrev pub IsDue : (told : Option Instant) → (now : Instant) → Type 0
IsDue None now = ⊥
IsDue (Some told) now = instant_nanos told + 1000000000 ≤ instant_nanos now

-- a number of bytes, in millions with one decimal place
abbrev pub megabytes : ℕ → List ℕ
megabytes bytes = decimal (bytes / 1000000) ++ 46 ∷ (decimal (bytes / 100000 % 10) ++ codes " MB")

-- how far a command is
abbrev pub line_text : Unit → (done size : ℕ) → List ℕ
line_text (Uploads of) done size = codes "collect: " ++ (decimal done ++ (codes " of " ++ (decimal of ++ codes " uploads answered")))
line_text Listed done size = codes "collect: " ++ (decimal done ++ codes " uploads answered")
line_text Exported done size = codes "export: " ++ (megabytes done ++ (codes " written, of a database of " ++ megabytes size))
line_text Shown done size = codes "show: " ++ (decimal done ++ (codes " entries, of a database of " ++ megabytes size))
line_text Checked done size = codes "check: reads a database of " ++ megabytes size
line_text Migrated done size = codes "migrate: reads and writes a database of " ++ megabytes size
line_text Verified done size = codes "verify: reads " ++ megabytes size

-- Behind two bytes, this one is the end of a character in UTF-8 that is a control, but the tabulator and the newline (below
-- 32, 127, and U+0080 to U+009F), or that changes the direction of a line or ends it (U+061C, U+200E, U+200F, U+2028 to
-- U+202E, U+2066 to U+2069).
abbrev pub is_obeyed : (first last byte : ℕ) → Bool
is_obeyed first last byte =
    (is_in_range 0 8 byte || (is_in_range 11 31 byte || byte == 127))
    || ((last == 0xC2 && is_in_range 0x80 0x9F byte)
    || ((last == 0xD8 && byte == 0x9C)
    || ((first == 0xE2 && (last == 0x80 && (is_in_range 0x8E 0x8F byte || is_in_range 0xA8 0xAE byte)))
    || (first == 0xE2 && (last == 0x81 && is_in_range 0xA6 0xA9 byte)))))

-- What is shown of a byte isn't obeyed behind what a terminal got, and is the byte itself if that isn't.
pub record IsMasked (ahead : Ahead) (byte shown : ℕ) : Type 0 where
  pub obeyed : is_obeyed ahead.first ahead.last shown ≡ false
  pub same : is_obeyed ahead.first ahead.last byte ≡ false → shown ≡ byte

-- This is shown of bytes, one by one, and behind it a terminal has got these two.
abbrev pub Masks : (ahead : Ahead) (bytes shown : List ℕ) (behind : Ahead) → Type 0
Masks ahead [] [] behind = ahead ≡ behind
Masks ahead (byte ∷ bytes) (one ∷ shown) behind =
    IsMasked ahead byte one × Masks (record { first = ahead.last; last = one }) bytes shown behind
Masks ahead _ _ behind = ⊥
