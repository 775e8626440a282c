-- A window that keeps none of its notes.
use Rattle.std.proofs.Common.{◌≡◌, ◌<◌, arith, ℕ, List, [], ◌∷◌, Option, Some, None, append-nil, inl, inr, map, refl, sym}
use Rattle.std.specs.FinMap.{empty}
use Rattle.std.specs.Fmt.{digits}
use Rattle.std.specs.List.{AllByRecursion}
use Rattle.hex.specs.Hex.{decode_pairs, encode_with}
use Rattle.jc_command_shared.specs.Lines.{lines_of}
use Rattle.jc_keeper.specs.declared.form.Shape.TheVariants.{Line}
use Rattle.jc_ledger_files.specs.Windows.{window_of}
use Rattle.jc_notes.specs.Changed.{IsKeptFront, replacing}
use Rattle.jc_notes.specs.Each.{WorksEach}
use Rattle.jc_notes.specs.Found.{AreRead}
use Rattle.jc_notes.specs.Lines.{OfFronts, front_at}
use Rattle.jc_sequences.specs.Placed.{path_of}
use Rattle.jc_upload.specs.Reading.{id_at, id_of, number_at, number_of, word_at}
use Rattle.jc_runs.specs.Between.{Between}
use Rattle.jc_runs.specs.Forgotten.{IsNotedFirst, window_front}
use Rattle.jc_runs.specs.Renamed.{IsFoundIn}
use Rattle.jc_runs.specs.Starts.{StartsNoted}
use Rattle.jc_runs.specs.Worked.{of_one}
use Rattle.jc_runs.specs.WorkedFront.{KeepsNoNote, found_of_one, front_text}
use Rattle.jc_runs.specs.WorkedNotes.{entry_notes, worked_notes, worked_windows}
use Rattle.jc_runs.proofs.Forgetting.{fronts_kept, may_keep_first}
use Rattle.jc_runs.proofs.WorkedFiles.{Files, lawful_notes}

kept : IsKeptFront found_of_one [] (record { window = window_of of_one.key; count = 0 }) [] (replacing (path_of [] (window_of of_one.key)) [])
unfolding found_of_one worked_windows worked_notes entry_notes
kept = record {
  notes = worked_notes (window_of of_one.key);
  read = record {
    known = record { rest = []; whole = sym (append-nil _); closed = tt; are = lawful_notes (window_of of_one.key) };
    are = lawful_notes (window_of of_one.key);
  };
  done = inr (omega arith, refl);
  silent = refl;
}

found_so : IsFoundIn [] found_of_one worked_windows (window_of of_one.key)
unfolding found_of_one
found_so = refl

named : OfFronts (λ fronts. AllByRecursion (λ f. IsFoundIn [] found_of_one worked_windows f.window) fronts
    × AllByRecursion (λ f. IsNotedFirst worked_windows (window_front f.window f.count)) fronts
    × WorksEach (IsKeptFront found_of_one []) fronts None None (Some []) (Some (replacing (path_of [] (window_of of_one.key)) []))) front_text
unfolding front_at id_at number_at word_at id_of number_of lines_of encode_with decode_pairs digits
named = record {
  items = record { window = window_of of_one.key; count = 0 } ∷ [];
  lines = refl;
  does = (
    λ i j d before within. absurd (omega (arith, before, within)),
    (
      (found_so, tt),
      (may_keep_first worked_windows (window_front (window_of of_one.key) 0) (inl refl), tt),
      record { works = ([], replacing (path_of [] (window_of of_one.key)) []) ∷ []; each = (kept, tt); gained = tt; added = refl },
    ),
  );
}

pub keeps_no_note : Files → (b : Between) → StartsNoted 4 b → KeepsNoNote b
keeps_no_note files b starts = record {
  starts = starts;
  keeps = λ made kind image begins. fronts_kept files made kind b b.past empty worked_windows image b.came (λ _. None) found_of_one None Line []
      front_text (Some []) (Some (replacing (path_of [] (window_of of_one.key)) []))
      (starts.began made kind image (λ _. None) found_of_one None Line begins) named;
}
