-- Files in which no database has been made yet have none.
use Rattle.std.proofs.Common.{◌<◌, ◌≡◌, ℕ, ◌+◌, ◌-◌, ◌*◌, ◌≤◌, List, [], length, take, slice_index, Option, Some, unwrap_or, sym, refl, ◌∙◌, ap, inl, inr, arith, get_or-take, length-take, zero-add}
use Rattle.sqlite_wal.specs.Format.{part}
use Rattle.sqlite.specs.Recovery.{Image, pages_after}
use Rattle.sqlite_wal.proofs.PartLemmas.{slice_index-part, part_within}
use Rattle.sqlite_wal.proofs.RecoveryLemmas.{replays_once}
use Rattle.sqlite_wal.proofs.AppendLemmas.{some_value, page_from_pages}
use Rattle.sqlite_pages.specs.PageMap.{PageMap}
use Rattle.sqlite_pool.specs.Stored.{stored_size, Adopts}
use Rattle.sqlite_pool.specs.StoredLaws.{trimmed_some}
use Rattle.sqlite_pool.specs.Opening.{IsBlankFile}
use Rattle.sqlite_pool.specs.File.{header_in, IsSoundFile}
use Rattle.sqlite_pool.proofs.ProbeLemmas.{first_byte}
use Rattle.sqlite.specs.Files.{IsNothing}

module _ (size : ℕ) (image : Image) (pages : PageMap) (found : Adopts size image pages) (sound : IsSoundFile size pages) where
  first_page_of : (page : List ℕ) → found.stored 1 ≡ Some page → header_in pages ≡ take 100 (take size page)
  first_page_of page is =
      let used : pages 1 ≡ Some (take size page) = ap (λ (p : PageMap). p 1) (sym found.shows) ∙ trimmed_some size _ 1 page is in
      ap (λ (o : Option (List ℕ)). take 100 (unwrap_or o [])) used

  -- a page has the 16 bytes that a database begins with
  many : 16 ≤ size
  many =
      let (page, is) = some_value (found.stored 1) found.whole.first in
      let magic : length (take 16 (header_in pages)) ≡ 16 = ap length sound.header.0.magic in
      omega (
        arith,
        magic,
        length-take 16 (header_in pages),
        ap length (first_page_of page is),
        length-take 100 (take size page),
        length-take size page,
      )

  from_file : found.found.frames ≡ 0 → (stored_size size ≤ length image.db) × (slice_index (header_in pages) 0 ≡ slice_index image.db 0)
  from_file none =
      let whole = stored_size size in
      let raw = found.found in
      let (page, is) = some_value (found.stored 1) found.whole.first in
      let alone : pages_after whole image.log image.db 0 1 ≡ Some page = ap (λ (p : PageMap). p 1) (ap (pages_after whole image.log image.db) (sym none) ∙ raw.gives) ∙ is in
      let start : (1 - 1) * whole ≡ 0 = omega arith in
      let front : part image.db 0 whole ≡ page = ap (λ (at : ℕ). part image.db at whole) (sym start) ∙ (page_from_pages whole image.log image.db 0 1 page alone).0 in
      let some : 16 ≤ size = many in
      let long : 0 + whole ≤ length image.db = part_within image.db 0 whole (omega arith) (ap length front ∙ found.whole.sized 1 page is) in
      let head : header_in pages ≡ take 100 (take size (part image.db 0 whole)) = first_page_of page is ∙ ap (λ (b : List ℕ). take 100 (take size b)) (sym front) in (
        omega arith,
        ap (λ (b : List ℕ). slice_index b 0) head ∙ get_or-take 100 (take size (part image.db 0 whole)) 0 0 (omega arith)
            ∙ get_or-take size (part image.db 0 whole) 0 0 (omega arith) ∙ slice_index-part image.db 0 whole 0 (omega arith) ∙ ap (slice_index image.db) (zero-add 0),
      )

  not_blank : (other : ℕ) → 0 < other → ¬ IsBlankFile other image
  not_blank other some (inl none) = omega (arith, found.found.present)
  not_blank other some (inr blank) =
      let raw = found.found in
      let none : raw.frames ≡ 0 = elim blank.0 [
        | inl ignored ↦ replays_once (stored_size size) image.log raw.frames 0 raw.replays (inl (ignored.0, refl))
        | inr taken ↦ elim raw.replays [
          | inl ignored ↦ ignored.1
          | inr ours ↦ replays_once (stored_size size) image.log raw.frames 0 raw.replays (rw (sym ours.0.head.size ∙ taken.0.head.size) blank.0)
        ]
      ] in
      let (long, byte) = from_file none in
      let large : 16 ≤ size = many in
      let magic : slice_index image.db 0 ≡ 83 =
      sym byte ∙ sym (get_or-take 16 (header_in pages) 0 0 (omega arith)) ∙ ap (λ (b : List ℕ). slice_index b 0) sound.header.0.magic in
      elim blank.1.0 [
        | inl short ↦ omega arith
        | inr more ↦ elim more [ inl zero' ↦ omega (arith, zero'.1) | inr rest ↦ rest.1 (magic ∙ sym (first_byte other some)) ]
      ]

  pub never_blank : ¬ IsNothing image
  never_blank nothing = elim nothing [ inl plain ↦ not_blank _ (omega arith) plain | inr summed ↦ not_blank _ (omega arith) summed ]
