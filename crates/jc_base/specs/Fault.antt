-- The numbers of the codes. (own)
use Rattle.std.specs.Prelude.{ℕ}
use Rattle.jc_base.specs.declared.fault.Code.{Code}
use Rattle.jc_base.specs.declared.fault.Code.TheVariants.{ShortHeader, BadMagic, BadKind, BadReserved, Incomplete, EmptyName, NameTooLong, ValueTooLong, MissingNewline, TooManyFields, EntryTooLong, DuplicateMeta, NoRealtime, NoMonotonic, NoSeqnum, NoSeqnumId, BadNumber, BadId, ZeroSeqnum, FileShort, BadSignature, BadHeaderSize, Compressed, Compact, UnknownIncompatible, Sealed, BadState, Truncated, TooManyEntries, ChainEnds, BadOffset, BadType, BadSize, ChainBack, CompressedObject, BadData, FileTooLong, Conflict, ReadFailed, StoreFailed, OutOfMemory, NotAJournal, BadRow, WriteFailed, OldSchema, SourceChanged, NotTheOwner}

abbrev pub number_of : Code → ℕ
number_of ShortHeader = 1
number_of BadMagic = 2
number_of BadKind = 3
number_of BadReserved = 4
number_of Incomplete = 5
number_of EmptyName = 10
number_of NameTooLong = 11
number_of ValueTooLong = 12
number_of MissingNewline = 13
number_of TooManyFields = 14
number_of EntryTooLong = 15
number_of DuplicateMeta = 20
number_of NoRealtime = 21
number_of NoMonotonic = 22
number_of NoSeqnum = 23
number_of NoSeqnumId = 24
number_of BadNumber = 25
number_of BadId = 26
number_of ZeroSeqnum = 27
number_of FileShort = 30
number_of BadSignature = 31
number_of BadHeaderSize = 32
number_of Compressed = 33
number_of Compact = 34
number_of UnknownIncompatible = 35
number_of Sealed = 36
number_of BadState = 37
number_of Truncated = 38
number_of TooManyEntries = 39
number_of ChainEnds = 40
number_of BadOffset = 41
number_of BadType = 42
number_of BadSize = 43
number_of ChainBack = 44
number_of CompressedObject = 45
number_of BadData = 46
number_of FileTooLong = 47
number_of Conflict = 60
number_of ReadFailed = 61
number_of StoreFailed = 62
number_of OutOfMemory = 63
number_of NotAJournal = 64
number_of BadRow = 65
number_of WriteFailed = 66
number_of OldSchema = 67
number_of SourceChanged = 70
number_of NotTheOwner = 71
