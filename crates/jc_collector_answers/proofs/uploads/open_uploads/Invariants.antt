use Rattle.std.proofs.Common.{◌≡◌, length, map, take}
use Rattle.jc_collect.specs.Delivered.{of_delivery}
use Rattle.jc_collector_answers.proofs.uploads.open_uploads.Given as goal

-- an upload for each path so far, with what is told of its file
abbrev pub invariant-loop-path : goal.invariant-loop-path
invariant-loop-path g l = record {
  each : length l.uploads.items ≡ l.path-index;
  known : map (of_delivery (λ s. g.R.File.Read.remaining s.reader) (λ s. g.R.File.ReadFile.bytes s.inner.file)) l.uploads.items
      ≡ take l.path-index (map (λ path. g.R.System.told path.now) l.fn.paths);
}
