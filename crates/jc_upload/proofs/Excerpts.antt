-- Excerpts of entries, as one more comes.
use Rattle.std.proofs.Common.{◌≡◌, ◌≢◌, ◌∙◌, ℕ, zero, suc, ◌+◌, ◌<◌, ◌≤◌, List, [], ◌∷◌, ◌++◌, length, take, drop, Option, Some, None, Bool, true, false, refl, sym, ap, subst, arith, append_assoc, eqb, inl, inr, length-append, length-take}
use Rattle.std.specs.Prelude.{◌⊎◌, ⊤, Ok, flat_map, slice_get}
use Rattle.std.specs.Option.{option_map}
use Rattle.std.proofs.lemmas.Bool.{cases_lt}
use Rattle.std.proofs.lemmas.Bool.Decides.{eqb_tells}
use Rattle.std.proofs.lemmas.List.Elements.{All-nil, All-push}
use Rattle.std.proofs.lemmas.List.{take_all, drop_all, take-append-le, drop-append-le}
use Rattle.jc_base.specs.declared.source.Step.{Step}
use Rattle.jc_base.specs.declared.source.Step.TheVariants.{Entry, Bad as Faulty}
use Rattle.jc_base.specs.declared.fault.Ending.TheVariants.{Bad}
use Rattle.jc_base.specs.declared.fault.Fault.{Fault}
use Rattle.jc_base.specs.Limit.{AreKept}
use Rattle.jc_base.specs.LogEntry.{IsEntry, LogEntry}
use Rattle.jc_base.specs.declared.limits.Limits.{Limits}
use Rattle.jc_base.specs.Reading.{Reading}
use Rattle.jc_base.specs.Source.{Gives, GivesOf}
use Rattle.jc_export.specs.Canonical.{canon}
use Rattle.jc_stream.specs.StreamFault.{GivesOfStream}
use Rattle.jc_upload.specs.declared.excerpt.Excerpt.{Excerpt}
use Rattle.jc_upload.specs.declared.head.Kind.TheVariants.{Export}
use Rattle.jc_upload.specs.declared.head.UploadHead.{UploadHead}
use Rattle.jc_upload.specs.Excerpt.{AreOfStream, IsExcerpt, IsNextUpload, IsStreamEnding, head_by}
use Rattle.jc_upload.specs.Front.{CutsBy, CutsOfSecond}
use Rattle.jc_upload.specs.Head.{IsHead, head_text}
use Rattle.jc_upload.specs.Upload.{Agrees, Sender, key_before, sent_of}

-- These entries of a reading, if it is known, were given, and this reading is still to come.
abbrev pub FollowsOn : Option Reading → List LogEntry → Option Reading → Type 0
FollowsOn None entries now = ⊤
FollowsOn (Some known) entries None = ⊥
FollowsOn (Some known) entries (Some now) = (known.entries ≡ entries ++ now.entries) × (now.ending ≡ known.ending)

pub follows_none : (known : Option Reading) → FollowsOn known [] known
follows_none None = tt
follows_none (Some known) = (refl, refl)

none_before : (n : ℕ) → key_before [] n ≡ None
none_before zero = refl
none_before (suc n) = refl

pub starts : (position limit : ℕ) (excerpt : Excerpt) → excerpt.count ≡ 0 → excerpt.before ≡ None → excerpt.carried.items ≡ []
    → IsExcerpt position limit [] excerpt
starts position limit excerpt counted before carried =
    let none : List LogEntry = [] in
    let short : length none ≤ position = omega arith in
    let nothing : drop position none ≡ none = drop_all position none short in
    let few : length none ≤ limit = omega arith in
    record {
      counted = counted;
      before = before ∙ sym (none_before position);
      carried = carried ∙ sym (ap (take limit) nothing ∙ take_all limit none few);
    }

get_last : (xs : List LogEntry) (e : LogEntry) → slice_get (xs ++ e ∷ []) (length xs) ≡ Some e
get_last [] e = refl
get_last (x ∷ xs) e = get_last xs e

get_other : (xs : List LogEntry) (e : LogEntry) (n : ℕ) → n ≢ length xs → slice_get (xs ++ e ∷ []) n ≡ slice_get xs n
get_other [] e zero apart = absurd (apart refl)
get_other [] e (suc n) apart = refl
get_other (x ∷ xs) e zero apart = refl
get_other (x ∷ xs) e (suc n) apart = get_other xs e n (λ same. apart (ap suc same))

pub key_last : (xs : List LogEntry) (e : LogEntry) (n : ℕ) → n ≡ length xs + 1 → key_before (xs ++ e ∷ []) n ≡ Some e.key
key_last xs e zero is = absurd (omega arith)
key_last xs e (suc n) is =
    let same : n ≡ length xs = omega arith in
    ap (λ (k : ℕ). option_map (λ (x : LogEntry). x.key) (slice_get (xs ++ e ∷ []) k)) same
    ∙ ap (option_map (λ (x : LogEntry). x.key)) (get_last xs e)

pub key_other : (xs : List LogEntry) (e : LogEntry) (n : ℕ) → n ≢ length xs + 1 → key_before (xs ++ e ∷ []) n ≡ key_before xs n
key_other xs e zero apart = refl
key_other xs e (suc n) apart =
    ap (option_map (λ (x : LogEntry). x.key)) (get_other xs e n (λ same. apart (omega arith)))

pub one_more : (xs : List LogEntry) (e : LogEntry) → length (xs ++ e ∷ []) ≡ length xs + 1
one_more xs e = length-append xs (e ∷ [])

behind : (xs : List LogEntry) (e : LogEntry) (position : ℕ) → position ≤ length xs
    → drop position (xs ++ e ∷ []) ≡ drop position xs ++ e ∷ []
behind xs e position within = drop-append-le position xs (e ∷ []) within

none_carried : (xs : List LogEntry) (e : LogEntry) (position limit : ℕ) → length xs < position
    → take limit (drop position (xs ++ e ∷ [])) ≡ take limit (drop position xs)
none_carried xs e position limit before =
    let past : length (xs ++ e ∷ []) ≤ position = omega (arith, one_more xs e) in
    ap (take limit) (drop_all position (xs ++ e ∷ []) past ∙ sym (drop_all position xs (omega arith)))

no_room : (xs : List LogEntry) (e : LogEntry) (position limit : ℕ) → position ≤ length xs
    → limit ≤ length (take limit (drop position xs)) → take limit (drop position (xs ++ e ∷ [])) ≡ take limit (drop position xs)
no_room xs e position limit within filled =
    let enough : limit ≤ length (drop position xs) = omega (arith, length-take limit (drop position xs)) in
    ap (take limit) (behind xs e position within) ∙ take-append-le limit (drop position xs) (e ∷ []) enough

one_carried : (xs : List LogEntry) (e : LogEntry) (position limit : ℕ) → position ≤ length xs
    → length (take limit (drop position xs)) < limit
    → take limit (drop position (xs ++ e ∷ [])) ≡ take limit (drop position xs) ++ e ∷ []
one_carried xs e position limit within room =
    let few : length (drop position xs) < limit = omega (arith, length-take limit (drop position xs)) in
    let long : length (drop position xs ++ e ∷ []) ≤ limit = omega (arith, one_more (drop position xs) e) in
    ap (take limit) (behind xs e position within) ∙ (take_all limit (drop position xs ++ e ∷ []) long
    ∙ ap (λ (ys : List LogEntry). ys ++ e ∷ []) (sym (take_all limit (drop position xs) (omega arith))))

pub follows_more : (known before now : Option Reading) (entries : List LogEntry) (e : LogEntry) (step : Step)
    → FollowsOn known entries before → step ≡ Entry e → Gives before now (Ok step) → FollowsOn known (entries ++ e ∷ []) now
follows_more None before now entries e step follows is gives = tt
follows_more (Some known) None now entries e step follows is gives = absurd follows
follows_more (Some known) (Some before) None entries e step follows is gives = absurd gives
follows_more (Some known) (Some before) (Some now) entries e step follows is gives =
    let gave : GivesOf before now (Ok (Entry e)) = subst (λ (s : Step). GivesOf before now (Ok s)) is gives in (
      follows.0 ∙ (ap (λ (es : List LogEntry). entries ++ es) gave.0 ∙ sym (append_assoc entries (e ∷ []) now.entries)),
      gave.1 ∙ follows.1,
    )

pub of_stream_none : (limits : Limits) → AreOfStream limits []
of_stream_none limits = record { lawful = All-nil IsEntry; fit = All-nil (λ (e : LogEntry). AreKept limits e.body.pairs) }

pub of_stream_more : (limits now : Limits) (entries : List LogEntry) (e : LogEntry) (step : Step) → AreOfStream limits entries
    → now ≡ limits → step ≡ Entry e → IsEntry e → GivesOfStream now (Ok step) → AreOfStream limits (entries ++ e ∷ [])
of_stream_more limits now entries e step before same is lawful gives =
    let here : GivesOfStream limits (Ok step) = subst (λ (l : Limits). GivesOfStream l (Ok step)) same gives in
    let kept : AreKept limits e.body.pairs = subst (λ (s : Step). GivesOfStream limits (Ok s)) is here in
    record {
      lawful = All-push IsEntry entries e before.lawful lawful;
      fit = All-push (λ (f : LogEntry). AreKept limits f.body.pairs) entries e before.fit kept;
    }

-- the end of a stream is one of a stream under the limits that it began with
pub of_stream_end : (limits now : Limits) (fault : Fault) (step : Step) → now ≡ limits → step ≡ Faulty fault → GivesOfStream now (Ok step)
    → IsStreamEnding limits (Bad fault)
of_stream_end limits now fault step same is gives =
    subst (λ (s : Step). GivesOfStream limits (Ok s)) is (subst (λ (l : Limits). GivesOfStream l (Ok step)) same gives)

-- an excerpt of entries becomes one of one entry more
pub grows : (position limit : ℕ) (entries : List LogEntry) (e : LogEntry) (old new : Excerpt)
    → IsExcerpt position limit entries old → new.count ≡ old.count + 1
    → (old.count + 1 ≡ position → new.before ≡ Some e.key) → (old.count + 1 ≢ position → new.before ≡ old.before)
    → (position ≤ old.count → length old.carried.items < limit → new.carried.items ≡ old.carried.items ++ e ∷ [])
    → (old.count < position → new.carried.items ≡ old.carried.items)
    → (limit ≤ length old.carried.items → new.carried.items ≡ old.carried.items)
    → IsExcerpt position limit (entries ++ e ∷ []) new
grows position limit entries e old new is count at other more none filled = record {
  counted = count ∙ (ap (λ (n : ℕ). n + 1) is.counted ∙ sym (one_more entries e));
  before = before (eqb_tells (old.count + 1) position);
  carried = carried (cases_lt old.count position) (cases_lt (length old.carried.items) limit);
}
  where
    before : ((eqb (old.count + 1) position ≡ true) × (old.count + 1 ≡ position))
        ⊎ ((eqb (old.count + 1) position ≡ false) × (old.count + 1 ≢ position)) → new.before ≡ key_before (entries ++ e ∷ []) position
    before (inl same) = at same.1 ∙ sym (key_last entries e position (omega (arith, is.counted, same.1)))
    before (inr apart) =
        other apart.1 ∙ (is.before ∙ sym (key_other entries e position (λ same. apart.1 (omega (arith, is.counted, same)))))

    carried : (old.count < position) ⊎ (position ≤ old.count)
        → (length old.carried.items < limit) ⊎ (limit ≤ length old.carried.items)
        → new.carried.items ≡ take limit (drop position (entries ++ e ∷ []))
    carried (inl early) room = none early ∙ (is.carried ∙ sym (none_carried entries e position limit (omega (arith, is.counted, early))))
    carried (inr within) (inl room) =
        more within room ∙ (ap (λ (es : List LogEntry). es ++ e ∷ []) is.carried
        ∙ sym (one_carried entries e position limit (omega (arith, is.counted, within)) (omega (arith, ap length is.carried, room))))
    carried (inr within) (inr full) =
        filled full ∙ (is.carried ∙ sym (no_room entries e position limit (omega (arith, is.counted, within)) (omega (arith, ap length is.carried, full))))

-- ---- the upload of an excerpt

front_by : (whole : Bool) (sender : Sender) (es : List LogEntry) (upload : List ℕ) (head : UploadHead)
    → head ≡ head_by sender whole (length es) → (head.kind ≡ Export → CutsBy head.version es upload)
    → CutsOfSecond whole es upload
front_by true sender es upload head is cuts =
    subst (λ (h : UploadHead). h.kind ≡ Export → CutsBy h.version es upload) is cuts refl refl
front_by false sender es upload head is cuts =
    subst (λ (h : UploadHead). h.kind ≡ Export → CutsBy h.version es upload) is cuts refl

pub next_upload : (sender : Sender) (entries : List LogEntry) (limit : ℕ) (whole : Bool) (excerpt : Excerpt) (head : UploadHead)
    (upload : List ℕ) → IsExcerpt sender.point.position limit entries excerpt
    → head ≡ head_by sender whole (length excerpt.carried.items)
    → upload ≡ head_text head ++ flat_map canon excerpt.carried.items → IsHead head
    → (head.kind ≡ Export → CutsBy head.version excerpt.carried.items upload) → Agrees sender.point entries
    → IsNextUpload sender entries limit whole upload
next_upload sender entries limit whole excerpt head upload is head_is text lawful front agrees =
    let sent : List LogEntry = sent_of sender entries limit in
    let same : head ≡ head_by sender whole (length sent) =
    head_is ∙ ap (λ (es : List LogEntry). head_by sender whole (length es)) is.carried in
    record {
      text =
          text
          ∙ (ap (λ (h : UploadHead). head_text h ++ flat_map canon excerpt.carried.items) same
          ∙ ap (λ (es : List LogEntry). head_text (head_by sender whole (length sent)) ++ flat_map canon es) is.carried);
      lawful = subst IsHead same lawful;
      agrees = agrees;
      front =
          subst (λ (es : List LogEntry). CutsOfSecond whole es upload) is.carried
          (front_by whole sender excerpt.carried.items upload head head_is front);
    }
