-- The windows of sequences that entries are in. (own)
use Rattle.std.specs.Prelude.{◌/◌, ℕ, List, [], ◌∷◌, length}
use Rattle.std.specs.BTreeSet.{insert_key}
use Rattle.jc_base.specs.declared.id.Key.{Key}
use Rattle.jc_base.specs.Journal.{key_cmp}
use Rattle.jc_base.specs.LogEntry.{LogEntry}

-- the window of an entry's number, as a key of its sequence
abbrev pub window_of : LogEntry → Key
window_of e = record { seqnum_id = e.key.seqnum_id; seqnum = e.key.seqnum / 4096 }

-- these windows and those of some entries, each once
abbrev pub windows_from : List Key → List LogEntry → List Key
windows_from windows [] = windows
windows_from windows (e ∷ entries) = windows_from (insert_key key_cmp windows (window_of e)) entries

-- how many windows entries are in
abbrev pub window_count : List LogEntry → ℕ
window_count entries = length (windows_from [] entries)
