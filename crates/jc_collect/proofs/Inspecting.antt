-- What is answered of an upload is what it says.
use Rattle.std.proofs.Common.{◌≡◌, ◌∙◌, ◌+◌, ◌<◌, ◌≤◌, ◌⊎◌, ◌++◌, ℕ, List, [], ◌∷◌, Option, Some, None, IsSomeAnd, length, refl, sym, ap, subst, inl, inr}
use Rattle.std.specs.Prelude.{⊤, IfOk, IfSome, Result, Ok, Err}
use Rattle.std.specs.Option.{option_map}
use Rattle.std.specs.BTreeSet.{insert_key}
use Rattle.std.specs.Io.KnownBytes.{Consumes, IsAtEnd}
use Rattle.std.proofs.lemmas.List.{append-nil, length-append, append_assoc}
use Rattle.jc_base.specs.declared.fault.Ending.{Ending}
use Rattle.jc_base.specs.declared.fault.Ending.TheVariants.{End, Bad}
use Rattle.jc_base.specs.declared.fault.Fault.{Fault}
use Rattle.jc_base.specs.declared.id.Key.{Key}
use Rattle.jc_base.specs.declared.limits.Limits.{Limits}
use Rattle.jc_base.specs.Journal.{key_cmp}
use Rattle.jc_base.specs.LogEntry.{LogEntry}
use Rattle.jc_base.specs.Reading.{Reading, reading}
use Rattle.jc_base.specs.Source.{Gives}
use Rattle.jc_base.specs.declared.source.Stop.{Stop}
use Rattle.jc_base.specs.declared.source.Step.{Step}
use Rattle.jc_base.specs.declared.source.Step.TheVariants.{Entry, End as Finished, Bad as Faulty}
use Rattle.jc_stream.specs.Streaming.{ReadsKnown}
use Rattle.jc_file.specs.FileReading.{IsFileReading}
use Rattle.jc_upload.specs.declared.head.Kind.{Kind}
use Rattle.jc_upload.specs.declared.head.Kind.TheVariants.{Export, File}
use Rattle.jc_upload.specs.declared.head.UploadHead.{UploadHead}
use Rattle.jc_upload.specs.declared.head.Version.{Version}
use Rattle.jc_upload.specs.Head.{IsHeadFault, head_text}
use Rattle.jc_upload.specs.Says.{BodySays, HasHead, SaysBehind, reading_under}
use Rattle.jc_upload.proofs.Excerpts.{key_last}
use Rattle.jc_collect.specs.Bounds.{AreFew, AreWithin, IsLeft}
use Rattle.jc_collect.specs.Touched.{window_count, window_of, windows_from}
use Rattle.jc_collect.specs.Inspected.{HasBody, IsInspected, IsRead, IsReadTo, SaysBodyOf, inspected_by, inspected_of, inspected_unread, last_key}
use Rattle.jc_collect.specs.declared.bounds.Bounds.{Bounds}
use Rattle.jc_collect.specs.Begun.{BeginsUpload}
use Rattle.jc_collect.specs.declared.head.Unread.{Unread}
use Rattle.jc_collect.specs.declared.head.Unread.TheVariants.{Fault as Unreadable, ReadFailed}
use Rattle.jc_collect.specs.declared.inspect.Body.{Body}
use Rattle.jc_collect.specs.declared.inspect.BodyEnding.{BodyEnding}
use Rattle.jc_collect.specs.declared.inspect.BodyEnding.TheVariants.{Ended, OverBounds}
use Rattle.jc_collect.specs.declared.inspect.Inspected.{Inspected}
use Rattle.jc_collect.proofs.Bounding.{left_behind, none_within, passes_behind, window_more, within}
use Rattle.jc_collect.proofs.Bodies.{gathered}

-- ---- the entries of a source

-- So many entries of a reading were given, the last of them with this key, this reading is still to come, so much room is
-- left of the bounds, and these windows are touched.
pub record HasGiven (bounds : Bounds) (whole : Reading) (count : ℕ) (last : Option Key) (room : Bounds) (windows : List Key) (now : Reading) : Type 0 where
  pub given : List LogEntry
  pub follows : whole.entries ≡ given ++ now.entries
  pub counted : count ≡ length given
  pub key : last ≡ last_key given
  pub ended : now.ending ≡ whole.ending
  pub left : IsLeft bounds given room
  pub touched : windows ≡ windows_from [] given
  pub wide : window_count given ≤ bounds.windows

-- ... of a reading that may not be known
abbrev pub GivesOn : Bounds → Option Reading → ℕ → Option Key → (room : Bounds) → (windows : List Key) → Option Reading → Type 0
GivesOn bounds None count last room windows now = ⊤
GivesOn bounds (Some whole) count last room windows None = ⊥
GivesOn bounds (Some whole) count last room windows (Some now) = HasGiven bounds whole count last room windows now

-- one more entry
next_given : (bounds : Bounds) (whole was now : Reading) (count : ℕ) (last : Option Key) (room less : Bounds) (windows : List Key) (e : LogEntry)
    → HasGiven bounds whole count last room windows was → was.entries ≡ e ∷ now.entries → now.ending ≡ was.ending
    → IsLeft room (e ∷ []) less → length (insert_key key_cmp windows (window_of e)) ≤ bounds.windows
    → HasGiven bounds whole (count + 1) (Some e.key) less (insert_key key_cmp windows (window_of e)) now
next_given bounds whole was now count last room less windows e has first ended behind wide =
    let counted : length (has.given ++ e ∷ []) ≡ length has.given + 1 = length-append has.given (e ∷ []) in
    let touched : insert_key key_cmp windows (window_of e) ≡ windows_from [] (has.given ++ e ∷ []) =
    ap (λ (ws : List Key). insert_key key_cmp ws (window_of e)) has.touched ∙ sym (window_more [] has.given e) in
    record {
      given = has.given ++ e ∷ [];
      follows = has.follows ∙ ap (λ rest. has.given ++ rest) first ∙ sym (append_assoc has.given (e ∷ []) now.entries);
      counted = ap (λ n. n + 1) has.counted ∙ sym counted;
      key = sym (key_last has.given e (length (has.given ++ e ∷ [])) counted);
      ended = ended ∙ has.ended;
      left = left_behind bounds room less has.given e has.left behind;
      touched = touched;
      wide = subst (λ (ws : List Key). length ws ≤ bounds.windows) touched wide;
    }

pub entry_given : (bounds : Bounds) (whole was now : Option Reading) (count : ℕ) (last : Option Key) (room less : Bounds) (windows : List Key)
    (e : LogEntry) (step : Step) → GivesOn bounds whole count last room windows was → step ≡ Entry e → Gives was now (Ok step)
    → IsLeft room (e ∷ []) less → length (insert_key key_cmp windows (window_of e)) ≤ bounds.windows
    → GivesOn bounds whole (count + 1) (Some e.key) less (insert_key key_cmp windows (window_of e)) now
entry_given bounds whole was now count last room less windows e step has is gives behind wide =
    go whole was now has (subst (λ (s : Step). Gives was now (Ok s)) is gives)
  where
    go : (whole was now : Option Reading) → GivesOn bounds whole count last room windows was → Gives was now (Ok (Entry e))
        → GivesOn bounds whole (count + 1) (Some e.key) less (insert_key key_cmp windows (window_of e)) now
    go None was now has gives = tt
    go (Some whole) None now has gives = absurd has
    go (Some whole) (Some was) None has gives = absurd gives
    go (Some whole) (Some was) (Some now) has gives =
        next_given bounds whole was now count last room less windows e has gives.0 gives.1 behind wide

-- an entry that passes a bound
pub entry_passes : (bounds : Bounds) (whole was now : Option Reading) (count : ℕ) (last : Option Key) (room : Bounds) (windows : List Key)
    (e : LogEntry) (step : Step) (touched : ℕ) → GivesOn bounds whole count last room windows was → step ≡ Entry e → Gives was now (Ok step)
    → (bounds.windows < length (insert_key key_cmp windows (window_of e))) ⊎ ¬ AreFew room (e ∷ [])
    → HasBody bounds whole (record { count = count; last = last; windows = touched; ending = OverBounds })
entry_passes bounds whole was now count last room windows e step touched has is gives passes =
    go whole was now has (subst (λ (s : Step). Gives was now (Ok s)) is gives)
  where
    go : (whole was now : Option Reading) → GivesOn bounds whole count last room windows was → Gives was now (Ok (Entry e))
        → HasBody bounds whole (record { count = count; last = last; windows = touched; ending = OverBounds })
    go None was now has gives = tt
    go (Some whole) None now has gives = absurd has
    go (Some whole) (Some was) None has gives = absurd gives
    go (Some whole) (Some was) (Some now) has gives =
        let more : insert_key key_cmp windows (window_of e) ≡ windows_from [] (has.given ++ e ∷ []) =
        ap (λ (ws : List Key). insert_key key_cmp ws (window_of e)) has.touched ∙ sym (window_more [] has.given e) in
        record {
          before = has.given;
          entry = e;
          behind = now.entries;
          split = has.follows ∙ ap (λ rest. has.given ++ rest) gives.0;
          placed = has.counted;
          within = within bounds room has.given has.left has.wide;
          passes = passes_behind bounds room has.given e has.left
              (subst (λ (ws : List Key). (bounds.windows < length ws) ⊎ ¬ AreFew room (e ∷ [])) more passes);
        }

-- the same by the set of windows, and their number
pub entry_taken : (bounds : Bounds) (whole was now : Option Reading) (count : ℕ) (last : Option Key) (room less : Bounds) (windows more : List Key)
    (e : LogEntry) (step : Step) (number : ℕ) → GivesOn bounds whole count last room windows was → step ≡ Entry e → Gives was now (Ok step)
    → more ≡ insert_key key_cmp windows (window_of e) → number ≡ length more → IsLeft room (e ∷ []) less × (number ≤ bounds.windows)
    → GivesOn bounds whole (count + 1) (Some e.key) less more now
entry_taken bounds whole was now count last room less windows more e step number has is gives same counted within =
    subst (λ (ws : List Key). GivesOn bounds whole (count + 1) (Some e.key) less ws now) (sym same)
    (entry_given bounds whole was now count last room less windows e step has is gives within.0
    (subst (λ (n : ℕ). n ≤ bounds.windows) (counted ∙ ap length same) within.1))

pub entry_over : (bounds : Bounds) (whole was now : Option Reading) (count : ℕ) (last : Option Key) (room : Bounds) (windows more : List Key)
    (e : LogEntry) (step : Step) (number touched : ℕ) → GivesOn bounds whole count last room windows was → step ≡ Entry e → Gives was now (Ok step)
    → more ≡ insert_key key_cmp windows (window_of e) → number ≡ length more → (bounds.windows < number) ⊎ ¬ AreFew room (e ∷ [])
    → HasBody bounds whole (record { count = count; last = last; windows = touched; ending = OverBounds })
entry_over bounds whole was now count last room windows more e step number touched has is gives same counted passes =
    entry_passes bounds whole was now count last room windows e step touched has is gives
    (subst (λ (n : ℕ). (bounds.windows < n) ⊎ ¬ AreFew room (e ∷ [])) (counted ∙ ap length same) passes)

-- no more entry
all_given : (bounds : Bounds) (whole was : Reading) (count : ℕ) (last : Option Key) (room : Bounds) (windows : List Key) (ending : Ending)
    → HasGiven bounds whole count last room windows was → was.entries ≡ [] → was.ending ≡ ending
    → IsRead bounds whole count last (length windows) ending
all_given bounds whole was count last room windows ending has none ended =
    let all : whole.entries ≡ has.given = has.follows ∙ ap (λ rest. has.given ++ rest) none ∙ append-nil has.given in
    record {
      counted = has.counted ∙ ap length (sym all);
      key = has.key ∙ ap last_key (sym all);
      wide = ap length has.touched ∙ ap window_count (sym all);
      ended = sym ended ∙ has.ended;
      within = subst (AreWithin bounds) (sym all) (within bounds room has.given has.left has.wide);
    }

-- the same by the step that ends it
pub ending_given : (bounds : Bounds) (whole was now : Option Reading) (count : ℕ) (last : Option Key) (room : Bounds) (windows : List Key) (number left : ℕ)
    (step : Step) → GivesOn bounds whole count last room windows was → number ≡ length windows → step ≡ Finished left → Gives was now (Ok step)
    → HasBody bounds whole (record { count = count; last = last; windows = number; ending = Ended (End left) })
ending_given bounds whole was now count last room windows number left step has counted is gives =
    subst (λ (n : ℕ). HasBody bounds whole (record { count = count; last = last; windows = n; ending = Ended (End left) })) (sym counted)
    (go whole was now has (subst (λ (s : Step). Gives was now (Ok s)) is gives))
  where
    go : (whole was now : Option Reading) → GivesOn bounds whole count last room windows was → Gives was now (Ok (Finished left))
        → HasBody bounds whole (record { count = count; last = last; windows = length windows; ending = Ended (End left) })
    go None was now has gives = tt
    go (Some whole) None now has gives = absurd has
    go (Some whole) (Some was) None has gives = absurd gives
    go (Some whole) (Some was) (Some now) has gives =
        all_given bounds whole was count last room windows (End left) has gives.0 gives.1

pub fault_given : (bounds : Bounds) (whole was now : Option Reading) (count : ℕ) (last : Option Key) (room : Bounds) (windows : List Key) (number : ℕ)
    (fault : Fault) (step : Step) → GivesOn bounds whole count last room windows was → number ≡ length windows → step ≡ Faulty fault
    → Gives was now (Ok step) → HasBody bounds whole (record { count = count; last = last; windows = number; ending = Ended (Bad fault) })
fault_given bounds whole was now count last room windows number fault step has counted is gives =
    subst (λ (n : ℕ). HasBody bounds whole (record { count = count; last = last; windows = n; ending = Ended (Bad fault) })) (sym counted)
    (go whole was now has (subst (λ (s : Step). Gives was now (Ok s)) is gives))
  where
    go : (whole was now : Option Reading) → GivesOn bounds whole count last room windows was → Gives was now (Ok (Faulty fault))
        → HasBody bounds whole (record { count = count; last = last; windows = length windows; ending = Ended (Bad fault) })
    go None was now has gives = tt
    go (Some whole) None now has gives = absurd has
    go (Some whole) (Some was) None has gives = absurd gives
    go (Some whole) (Some was) (Some now) has gives =
        all_given bounds whole was count last room windows (Bad fault) has gives.0 gives.1

-- ---- bodies

-- what a source over a stream gave is what the stream's bytes say
pub stream_says : (limits : Limits) (bounds : Bounds) (version : Version) (known : Option (List ℕ)) (answered : Option Reading) (body : Body)
    → ReadsKnown limits known answered → HasBody bounds (option_map (reading_under version) answered) body → SaysBodyOf limits bounds version Export known body
stream_says limits bounds version None answered body reads has = tt
stream_says limits bounds version (Some bytes) None body reads has = absurd reads
stream_says limits bounds version (Some bytes) (Some read) body reads has =
    (reading_under version read, record { read = read; reads = reads; under = refl }, has)

-- ... and over a file, the file's
pub file_says : (limits : Limits) (bounds : Bounds) (version : Version) (known : Option (List ℕ)) (answered : Option Reading) (body : Body)
    → ((b : List ℕ) → known ≡ Some b → IsSomeAnd answered (IsFileReading limits b)) → HasBody bounds (option_map (reading_under version) answered) body
    → SaysBodyOf limits bounds version File known body
file_says limits bounds version None answered body reads has = tt
file_says limits bounds version (Some bytes) None body reads has = absurd (reads bytes refl)
file_says limits bounds version (Some bytes) (Some read) body reads has =
    (reading_under version read, record { read = read; reads = reads bytes refl; under = refl }, has)

-- a file that is read whole first
pub gathered_says : (limits : Limits) (bounds : Bounds) (version : Version) (known rest : Option (List ℕ)) (bytes : List ℕ) (body : Body)
    → Consumes known rest bytes → (length bytes < limits.file + 1 → IsAtEnd rest)
    → SaysBodyOf limits bounds version File (Some bytes) body → SaysBodyOf limits bounds version File known body
gathered_says limits bounds version None rest bytes body came ended says = tt
gathered_says limits bounds version (Some all) None bytes body came ended says = absurd came
gathered_says limits bounds version (Some all) (Some rest) bytes body came ended says =
    (says.0, gathered limits version all rest bytes says.0 came ended says.1, says.2)

-- ---- uploads

module _ (limits : Limits) (bounds : Bounds) (upload body : List ℕ) (head : UploadHead) (has : HasHead upload head body) (r : Reading) (says : BodySays limits head.version head.kind body r) where
  reads : SaysBehind limits upload head r
  reads = record { body = body; has = has; reads = says }

  by_ending : (count : ℕ) (last : Option Key) (windows : ℕ) (ending : BodyEnding) → IsReadTo bounds r count last windows ending
      → IsInspected limits bounds upload (inspected_by head count last windows ending)
  by_ending count last windows (Ended (End left)) read = record {
    head = head;
    reading = r;
    says = reads;
    named = refl;
    ended = sym read.ended;
    counted = read.counted;
    key = read.key;
    wide = read.wide;
    within = read.within;
  }
  by_ending count last windows (Ended (Bad fault)) read = record {
    reading = r;
    says = inr (head, reads);
    ended = sym read.ended;
    within = read.within;
  }
  by_ending count last windows OverBounds passes = record { reading = r; says = inr (head, reads); passes = passes }

-- what an upload with this header says, by what is answered of its body
pub upload_says : (limits : Limits) (bounds : Bounds) (upload : List ℕ) (before behind bytes : Option (List ℕ)) (head : UploadHead) (kind : Kind)
    (body : Body) (inspected : Inspected) → before ≡ Some upload → BeginsUpload before behind (Ok head) → head.kind ≡ kind
    → bytes ≡ behind → SaysBodyOf limits bounds head.version kind bytes body → inspected ≡ inspected_of head body
    → IsInspected limits bounds upload inspected
upload_says limits bounds upload before behind bytes head kind body inspected known begins is same says is_inspected =
    subst (IsInspected limits bounds upload) (sym is_inspected)
    (go behind (subst (λ (b : Option (List ℕ)). Consumes b behind (head_text head)) known begins.1)
    (subst (λ (b : Option (List ℕ)). SaysBodyOf limits bounds head.version head.kind b body) same
    (subst (λ (k : Kind). SaysBodyOf limits bounds head.version k bytes body) (sym is) says)))
  where
    go : (behind : Option (List ℕ)) → Consumes (Some upload) behind (head_text head) → SaysBodyOf limits bounds head.version head.kind behind body
        → IsInspected limits bounds upload (inspected_of head body)
    go None came says = absurd came
    go (Some rest) came says =
        by_ending limits bounds upload rest head (record { lawful = begins.0; whole = came }) says.0 says.1 body.count body.last body.windows body.ending
        says.2

-- ... and one whose header can't be read
unreadable : (limits : Limits) (bounds : Bounds) (upload : List ℕ) (before behind : Option (List ℕ)) (unread : Unread) → before ≡ Some upload
    → BeginsUpload before behind (Err unread) → IfOk (inspected_unread unread) (IsInspected limits bounds upload)
unreadable limits bounds upload before behind ReadFailed known begins = tt
unreadable limits bounds upload before behind (Unreadable fault) known begins = record {
  reading = reading [] (Bad fault);
  says = inl (record {
    fault = fault;
    shown = subst (λ (b : Option (List ℕ)). IfSome b (λ all. IsHeadFault all fault)) known begins.1;
    nothing = refl;
  });
  ended = refl;
  within = none_within bounds;
}

pub unread_says : (limits : Limits) (bounds : Bounds) (upload : List ℕ) (before behind : Option (List ℕ)) (unread : Unread) (result : Result Inspected Stop)
    → before ≡ Some upload → BeginsUpload before behind (Err unread) → result ≡ inspected_unread unread
    → IfOk result (IsInspected limits bounds upload)
unread_says limits bounds upload before behind unread result known begins is_unread =
    subst (λ (r : Result Inspected Stop). IfOk r (IsInspected limits bounds upload)) (sym is_unread)
    (unreadable limits bounds upload before behind unread known begins)
