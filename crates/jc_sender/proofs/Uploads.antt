-- The upload of the entries that a source gave.
use Rattle.std.proofs.Common.{◌≡◌, ◌∙◌, ◌++◌, ℕ, Bool, true, false, List, Option, None, Some, ap, length, refl, subst, sym}
use Rattle.std.specs.Prelude.{flat_map, IfErr, IsErrAnd, Result, Ok, Err}
use Rattle.jc_base.specs.LogEntry.{LogEntry}
use Rattle.jc_base.specs.Number.{IsId}
use Rattle.jc_export.specs.Canonical.{canon}
use Rattle.jc_upload.specs.declared.excerpt.Excerpt.{Excerpt}
use Rattle.jc_upload.specs.Excerpt.{IsExcerpt, IsNextUpload, head_by}
use Rattle.jc_upload.specs.Head.{IsHead, head_text}
use Rattle.jc_upload.specs.Upload.{Agrees, Sender, sent_of}
use Rattle.jc_sender.proofs.Room.{counted, kept}
use Rattle.jc_sender.specs.Sent.{IsCount, MakesUpload, WhyNoUpload, stream_upload_of}
use Rattle.jc_sender.specs.Within.{IsKept}
use Rattle.jc_upload.specs.declared.uploader.UploadFault.{UploadFault}
use Rattle.jc_upload.specs.declared.uploader.UploadFault.TheVariants.{OutOfMemory, SourceChanged}
use Rattle.jc_command_shared.specs.Failure.{upload_failure}
use Rattle.jc_command_shared.specs.declared.failure.Failure.{Failure}
use Rattle.jc_sender.specs.Source.{HasEntriesOf}
use Rattle.jc_command_args.specs.declared.request.InputKind.TheVariants.{Export}

made_text : (whole : Bool) (sender : Sender) (limit : ℕ) (entries : List LogEntry) (upload : List ℕ)
    → upload ≡ head_text (head_by sender whole (length (sent_of sender entries limit))) ++ flat_map canon (sent_of sender entries limit)
    → upload ≡ stream_upload_of sender limit whole entries
made_text true sender limit entries upload text = text
made_text false sender limit entries upload text = text

source_lawful : (whole : Bool) (sender : Sender) (count : ℕ) → IsHead (head_by sender whole count) → IsId sender.source.0
source_lawful true sender count lawful = lawful.source
source_lawful false sender count lawful = lawful.source

module _ (bytes : List ℕ) (entries : List LogEntry) (sender : Sender) (has : HasEntriesOf Export bytes entries) where
  -- The upload of an excerpt of which the first entries were kept.
  pub upload_made : (limit : ℕ) (most : Option ℕ) (whole : Bool) (before after : Excerpt) (upload : List ℕ)
      → IsExcerpt sender.point.position limit entries before → after.count ≡ before.count → after.before ≡ before.before
      → IsKept most before.carried.items after.carried.items
      → ((count : ℕ) → IsExcerpt sender.point.position count entries after → IsNextUpload sender entries count whole upload)
      → MakesUpload Export sender limit most whole bytes upload
  upload_made limit most whole before after upload is same_count same_key keeps makes =
      let those = kept sender limit entries most before after is same_count same_key keeps in
      let next = makes those.0 those.1 in
      let id = source_lawful whole sender (length (sent_of sender entries those.0)) next.lawful in
      record {
        reading = has.0;
        well = has.1;
        agrees = λ _. subst (Agrees sender.point) has.2 next.agrees;
        count = those.0;
        counted =
            λ _. subst (λ (es : List LogEntry). IsCount sender limit most whole es those.0) has.2
            (counted sender limit entries most whole those.0 id those.2);
        made = made_text whole sender those.0 entries upload next.text ∙ ap (stream_upload_of sender those.0 whole) has.2;
      }

-- why there is no next upload of the entries that a device gave, whose bytes are known or not
pub upload_refused : {T : Type 0} (known : Option (List ℕ)) (entries : List LogEntry) (sender : Sender)
    → ((bytes : List ℕ) → known ≡ Some bytes → HasEntriesOf Export bytes entries) → (fault : UploadFault) (r : Result T Failure)
    → (fault ≡ SourceChanged → ¬ Agrees sender.point entries) → IsErrAnd r (λ failure. failure ≡ upload_failure fault)
    → IfErr r (WhyNoUpload Export sender known)
upload_refused known entries sender has fault (Ok x) changed gives = absurd gives
upload_refused known entries sender has fault (Err failure) changed gives = subst (WhyNoUpload Export sender known) (sym gives) (why known has fault changed)
  where
    why : (known : Option (List ℕ)) → ((bytes : List ℕ) → known ≡ Some bytes → HasEntriesOf Export bytes entries)
        → (fault : UploadFault) → (fault ≡ SourceChanged → ¬ Agrees sender.point entries) → WhyNoUpload Export sender known (upload_failure fault)
    why None has SourceChanged changed = (refl, tt)
    why (Some bytes) has SourceChanged changed =
        let it = has bytes refl in
        (refl, record { reading = it.0; well = it.1; differs = λ agrees. changed refl (subst (Agrees sender.point) (sym it.2) agrees) })
    why known has OutOfMemory changed = tt

-- what holds anyway holds where it failed
pub on_failure : {T E : Type 0} (r : Result T E) (P : E → Type 0) → ((e : E) → P e) → IfErr r P
on_failure (Ok x) P holds = tt
on_failure (Err e) P holds = holds e
