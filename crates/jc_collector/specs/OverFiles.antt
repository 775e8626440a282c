-- What a command makes of the journal in a database's files. (own)
use Rattle.std.specs.Prelude.{◌≡◌, ◌≢◌, ℕ, List, [], ◌∷◌, Option, codes}
use Rattle.std.specs.Io.KnownBytes.{Appends}
use Rattle.jc_base.specs.declared.id.Id128.{Id128}
use Rattle.jc_base.specs.Journal.{Journal}
use Rattle.jc_base.specs.LogEntry.{LogEntry}
use Rattle.jc_keeper.specs.Agree.{IsStored}
use Rattle.jc_keeper.specs.declared.form.Shape.{Shape}
use Rattle.jc_collector.specs.Database.{AsksId, asked_text}
use Rattle.jc_collect.specs.Run.{Seen}
use Rattle.jc_collector_answers.specs.Answered.{RunsByDefault}
use Rattle.jc_collector_answers.specs.Collected.{StoresFirstOf, those_named}
use Rattle.jc_collector_answers.specs.Tied.{NamedWith, PrintsWith}
use Rattle.jc_collector_answers.specs.declared.name_lines.NameLines.TheVariants.{Uploads}
use Rattle.jc_command_shared.specs.declared.status.Status.{Status}

-- Uploads were collected in one run under the default limits, from this journal to that one, and the line of each answer
-- was printed.
pub record CollectsAll (uploads : List (List ℕ)) (old new : Option (List ℕ)) (before after : Journal) : Type 0 where
  pub first : Seen
  pub last : Seen
  pub ran : RunsByDefault uploads first last
  pub journal_before : first.journal ≡ before
  pub journal_after : last.journal ≡ after
  pub output_before : first.written ≡ old
  pub output_after : last.written ≡ new

-- The lines of this many answers were printed, and the status is theirs. They are the answers to these uploads, of each of
-- which the bytes are known or not, and each acknowledged one was taken up whole over what the answers before left.
abbrev pub StoresPrinted : (AreUploads : List (Option (List ℕ)) → Type 0) → (count : ℕ) → Status → (old new : Option (List ℕ)) → (before after : Journal) → Type 0
StoresPrinted AreUploads count status old new before after = PrintsWith (λ answers. StoresFirstOf AreUploads before answers after) count status old new

-- The same of an answer for each line of a text, by what is told of the files that the lines name.
abbrev pub StoresNamed : (told : List ℕ → Option (List ℕ)) → (text : Option (List ℕ)) → Status → (old new : Option (List ℕ)) → (before after : Journal) → Type 0
StoresNamed told text status old new before after = NamedWith (λ answers. StoresFirstOf (those_named told Uploads text) before answers after) text status old new

-- This is the text of a list, which is given by its name: that of a file, of which this is told, unless it is standard input.
pub record IsListed (told : List ℕ → Option (List ℕ)) (list : List ℕ) (given text : Option (List ℕ)) : Type 0 where
  pub input : list ≡ codes "-" → text ≡ given
  pub file : list ≢ codes "-" → text ≡ told list

-- The same of an answer for each line of a list.
pub record StoresFromList (told : List ℕ → Option (List ℕ)) (list : List ℕ) (given : Option (List ℕ)) (status : Status) (old new : Option (List ℕ))
    (before after : Journal) : Type 0 where
  pub text : Option (List ℕ)
  pub listed : IsListed told list given text
  pub stored : StoresNamed told text status old new before after

-- the uploads that are named, or the one on standard input
abbrev pub given_uploads : (named : List (Option (List ℕ))) → (input : Option (List ℕ)) → List (Option (List ℕ))
given_uploads [] input = input ∷ []
given_uploads (one ∷ others) input = one ∷ others

-- What was stored is.
abbrev pub KeepsStored : (before after : Journal) → Type 0
KeepsStored before after = (e : LogEntry) → IsStored before e → IsStored after e

-- The journal was printed so, and it stays.
pub record Prints (text : Journal → List ℕ) (old new : Option (List ℕ)) (before after : Journal) : Type 0 where
  pub printed : Appends old new (text before)
  pub stays : after ≡ before

-- What `show` was asked for of the journal was printed, and it stays.
pub record PrintsAsked (shape : Shape) (name digits : Option (List ℕ)) (first last : ℕ) (old new : Option (List ℕ)) (before after : Journal) : Type 0 where
  pub id : Option Id128
  pub asks : AsksId digits id
  pub prints : Prints (λ journal. asked_text shape name journal id first last) old new before after
