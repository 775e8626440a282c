-- What is stored of uploads is within the limits.
use Rattle.std.proofs.Common.{◌≡◌, ◌+◌, ◌&&◌, arith, ℕ, Bool, true, false, cond, not, List, [], ◌∷◌, Option, Some, None, length, filter, codes, drop, refl, sym, subst, inl, inr, ⊎_elim}
use Rattle.std.specs.FinMap.{empty, get}
use Rattle.std.specs.List.{AllByRecursion}
use Rattle.std.proofs.lemmas.List.{length-take}
use Rattle.std.proofs.lemmas.List.Elements.{All-contains, All-contains_itself, All-filter, All-from_recursion, recursion_from_All}
use Rattle.hex.specs.Hex.{lower_digits}
use Rattle.hex.proofs.HexLemmas.{length-encode_with}
use Rattle.jc_base.specs.declared.limits.Limits.{Limits}
use Rattle.jc_base.specs.Draft.{IsDraft}
use Rattle.jc_base.specs.Journal.{Journal}
use Rattle.jc_base.specs.Limit.{AreKept, FitsAlone}
use Rattle.jc_base.specs.LogEntry.{LogEntry}
use Rattle.jc_base.specs.Pair.{Pair, is_metadata}
use Rattle.jc_base.specs.PairSet.{set_of}
use Rattle.jc_base.specs.PairSetLaws.{IsSetOf-set_of, IsSetOf-unique}
use Rattle.jc_base.specs.Reading.{Reading}
use Rattle.jc_base.specs.SetKeptLaws.{AreKept-set}
use Rattle.jc_collect.specs.Each.{CollectsEach}
use Rattle.jc_collector.proofs.Listed.{listed_stored, stored_listed}
use Rattle.jc_export.specs.Stream.{AreEntries}
use Rattle.jc_file.proofs.SetKept.{set_kept}
use Rattle.jc_file.specs.Bytes.{part, u64_at}
use Rattle.jc_file.specs.FileEntry.{AreData, IsFileEntry, boot_field, fields_of, is_kept}
use Rattle.jc_file.specs.FileReading.{AreEntries as AreFileEntries, IsFileReading}
use Rattle.jc_file.specs.Object.{bounds_of}
use Rattle.jc_keeper.specs.Agree.{IsStored}
use Rattle.jc_keeper.specs.Listing.{entries_of}
use Rattle.jc_upload.specs.declared.answer.Answer.{Answer}
use Rattle.jc_upload.specs.declared.answer.Answer.TheVariants.{Ack, No}
use Rattle.jc_upload.specs.declared.head.Kind.{Kind}
use Rattle.jc_upload.specs.declared.head.Kind.TheVariants.{Export, File}
use Rattle.jc_upload.specs.declared.head.Version.{Version}
use Rattle.jc_upload.specs.declared.head.Version.TheVariants.{V1, V2}
use Rattle.jc_upload.specs.Says.{IsBodyReading, Says, reading_under}
use Rattle.jc_runs.specs.Limited.{AreKnown, CollectsWithin, KeepsLimits}
use Rattle.jc_runs.proofs.Unions.{has_none, void}

module _ (limits : Limits) where
  abbrev Keeps : LogEntry → Type 0
  Keeps e = AreKept limits e.body.pairs

  abbrev KeepAll : List LogEntry → Type 0
  KeepAll es = AllByRecursion Keeps es

  -- ---- what is read of a stream

  of_stream : (es : List LogEntry) (bytes : List ℕ) → AreEntries limits es bytes → KeepAll es
  of_stream [] bytes are = tt
  of_stream (e ∷ es) bytes are =
      (AreKept-set limits are.4.fields e.body.pairs are.4.begins.kept are.4.means.pairs, of_stream es are.2 are.5)

  -- ---- what is read of a file

  module _ (b : List ℕ) where
    data_fit : (place : ℕ) (pairs : List Pair) → AreData limits (bounds_of b) b place pairs → AllByRecursion (FitsAlone limits) pairs
    data_fit place [] are = tt
    data_fit place (p ∷ pairs) are = (are.0.fits, data_fit (place + 16) pairs are.1)

    boot_fits : (offset : ℕ) → FitsAlone limits (boot_field b offset)
    boot_fits offset = record {
      name = let eight : length (codes "_BOOT_ID") ≡ 8 = refl in omega (arith, eight, limits.lawful.name_in.low);
      value = omega (arith, length-encode_with lower_digits (part b (offset + 40) 16), length-take 16 (drop (offset + 40) b), limits.lawful.value_in.low);
    }

    no_metadata : (metadata other : Bool) → (not metadata && other) ≡ true → metadata ≡ false
    no_metadata true other is = absurd cc
    no_metadata false other is = refl

    all_counted : (pairs : List Pair) → AllByRecursion (λ (p : Pair). is_metadata p.name ≡ false) (filter (λ p. is_kept p.name) pairs)
    all_counted [] = tt
    all_counted (p ∷ pairs) = by_test (is_kept p.name) refl (all_counted pairs)
      where
        by_test : (b : Bool) → is_kept p.name ≡ b → AllByRecursion (λ (q : Pair). is_metadata q.name ≡ false) (filter (λ q. is_kept q.name) pairs)
            → AllByRecursion (λ (q : Pair). is_metadata q.name ≡ false)
            (cond b (p ∷ filter (λ q. is_kept q.name) pairs) (filter (λ q. is_kept q.name) pairs))
        by_test true is rest = (no_metadata (is_metadata p.name) _ is, rest)
        by_test false is rest = rest

    of_entry : (place : ℕ) (e : LogEntry) → IsFileEntry limits b place e → Keeps e
    of_entry place e is = subst (AreKept limits) (IsSetOf-unique (set_of fields) e.body.pairs fields (IsSetOf-set_of fields) is.set) (set_kept limits fields draft)
      where
        boot : Pair
        boot = boot_field b (u64_at b place)

        fields : List Pair
        fields = fields_of boot is.pairs

        draft : IsDraft limits fields
        draft = record {
          each = All-from_recursion (FitsAlone limits) fields (
            boot_fits (u64_at b place),
            recursion_from_All (FitsAlone limits) _
                (All-filter (λ (p : Pair). is_kept p.name) (FitsAlone limits) is.pairs
                (All-from_recursion (FitsAlone limits) is.pairs (data_fit _ is.pairs is.objects))),
          );
          number = is.fit.number;
          bytes = is.fit.bytes;
          counted = All-from_recursion (λ (p : Pair). is_metadata p.name ≡ false) fields (refl, all_counted is.pairs);
        }

    of_places : (places : List ℕ) (es : List LogEntry) → AreFileEntries limits b places es → KeepAll es
    of_places places [] are = tt
    of_places [] (e ∷ es) are = absurd are
    of_places (place ∷ places) (e ∷ es) are = (of_entry place e are.0, of_places places es are.1)

    of_file : (r : Reading) → IsFileReading limits b r → KeepAll r.entries
    of_file r (inl fails) = subst KeepAll (sym fails.none) tt
    of_file r (inr (inl reads)) = of_places _ r.entries reads.front.are
    of_file r (inr (inr fails)) = of_places _ r.entries fails.front.are

  -- ---- what an upload says

  of_body : (kind : Kind) (body : List ℕ) (r : Reading) → IsBodyReading limits kind body r → KeepAll r.entries
  of_body Export body r is = of_stream r.entries is.front is.entries
  of_body File body r is = of_file body r is

  same_under : (version : Version) (r : Reading) → (reading_under version r).entries ≡ r.entries
  same_under V1 r = refl
  same_under (V2 false number) r = refl
  same_under (V2 true number) r = refl

  of_upload : (upload : List ℕ) (r : Reading) → Says limits upload r → KeepAll r.entries
  of_upload upload r (inl fault) = subst (λ (x : Reading). KeepAll x.entries) (sym fault.nothing) tt
  of_upload upload r (inr (head, says)) =
      let body = says.reads in
      subst (λ (x : Reading). KeepAll x.entries) (sym body.under)
      (subst KeepAll (sym (same_under head.version body.read)) (of_body head.kind says.body body.read body.reads))

  -- ---- one after the other

  abbrev KeepsStored : Journal → Type 0
  KeepsStored m = (e : LogEntry) → IsStored m e → Keeps e

  each : (uploads : List (Option (List ℕ))) (start last : Journal) (answers : List Answer) → CollectsEach limits uploads start answers last
      → AreKnown uploads answers → KeepsStored start → KeepsStored last
  each [] start last [] same known kept = subst KeepsStored (sym same) kept
  each [] start last (answer ∷ answers) none known kept = absurd none
  each (upload ∷ uploads) start last [] none known kept = absurd none
  each (None ∷ uploads) start last (Ack source from count new left ∷ answers) (after, leaves, more) known kept = absurd known
  each (None ∷ uploads) start last (No of code place ∷ answers) (after, leaves, more) known kept =
      each uploads after last answers more known (subst KeepsStored (sym leaves) kept)
  each (Some upload ∷ uploads) start last (Ack source from count new left ∷ answers) (after, position, more) known kept =
      each uploads after last answers more known
      (λ e stored. ⊎_elim (λ before. kept e before)
      (λ inside. All-contains Keeps position.leaves.reading.entries e
      (All-from_recursion Keeps position.leaves.reading.entries (of_upload upload position.leaves.reading position.leaves.says)) inside)
      ((position.leaves.has e).0 stored))
  each (Some upload ∷ uploads) start last (No of code place ∷ answers) (after, position, more) known kept =
      each uploads after last answers more known (subst KeepsStored (sym position.leaves) kept)

  stored_so : (m : Journal) → KeepsLimits limits m → KeepsStored m
  stored_so m kept e stored = All-contains Keeps (entries_of m) e kept (stored_listed m e stored)

  listed_so : (m : Journal) → KeepsStored m → KeepsLimits limits m
  listed_so m kept k d within = kept _ (listed_stored m _ (All-contains_itself (entries_of m) k d within))

  pub within : CollectsWithin limits
  within = record {
    first = listed_so empty (λ e stored. absurd (let none = has_none e.key in let there : get void e.key ≡ Some e.body = stored in cc));
    then = λ uploads start last answers collects known kept. listed_so last (each uploads start last answers collects known (stored_so start kept));
  }
