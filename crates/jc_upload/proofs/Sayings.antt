-- No upload says two things.
use Rattle.std.proofs.Common.{◌≡◌, ℕ, List, [], ◌++◌, sym, ap, subst, ◌∙◌, ⊎_elim}
use Rattle.jc_base.specs.declared.fault.Ending.TheVariants.{Bad}
use Rattle.jc_base.specs.declared.fault.Fault.{Fault}
use Rattle.jc_base.specs.declared.limits.Limits.{Limits}
use Rattle.jc_base.specs.Reading.{Reading, reading}
use Rattle.jc_export.specs.Stream.{StreamReading}
use Rattle.jc_file.specs.FileReading.{IsFileReading}
use Rattle.jc_upload.specs.Head.{IsHead, IsHeadFault, head_text}
use Rattle.jc_upload.specs.declared.head.Kind.{Kind}
use Rattle.jc_upload.specs.declared.head.Kind.TheVariants.{Export, File}
use Rattle.jc_upload.specs.declared.head.UploadHead.{UploadHead}
use Rattle.jc_upload.specs.declared.head.Version.{Version}
use Rattle.jc_upload.specs.Says.{IsBodyReading, SaysBehind, BodySays, SaysFault, Says, reading_under}

module _
    (one : (a b : UploadHead) (x y : List ℕ) → IsHead a → IsHead b → head_text a ++ x ≡ head_text b ++ y → (a ≡ b) × (x ≡ y))
    (passes : (head : UploadHead) (body : List ℕ) (fault : Fault) → IsHead head → ¬ IsHeadFault (head_text head ++ body) fault)
    (one_fault : (bytes : List ℕ) (a b : Fault) → IsHeadFault bytes a → IsHeadFault bytes b → a ≡ b)
    (stream : (limits : Limits) (bytes : List ℕ) (r s : Reading) → StreamReading limits 0 bytes r → StreamReading limits 0 bytes s → r ≡ s)
    (file : (limits : Limits) (bytes : List ℕ) (r s : Reading) → IsFileReading limits bytes r → IsFileReading limits bytes s → r ≡ s)
  where
    body_once : (limits : Limits) (kind : Kind) (body : List ℕ) (r s : Reading) → IsBodyReading limits kind body r → IsBodyReading limits kind body s → r ≡ s
    body_once limits Export body r s a b = stream limits body r s a b
    body_once limits File body r s a b = file limits body r s a b

    reading_once : (limits : Limits) (version : Version) (kind : Kind) (body : List ℕ) (r s : Reading) → BodySays limits version kind body r
        → BodySays limits version kind body s → r ≡ s
    reading_once limits version kind body r s a b = a.under ∙ ap (reading_under version) (body_once limits kind body a.read b.read a.reads b.reads) ∙ sym b.under

    behind_once : (limits : Limits) (upload : List ℕ) (h k : UploadHead) (r s : Reading) → SaysBehind limits upload h r → SaysBehind limits upload k s → r ≡ s
    behind_once limits upload h k r s a b =
        let same = one h k a.body b.body a.has.lawful b.has.lawful (sym a.has.whole ∙ b.has.whole) in
        reading_once limits k.version k.kind b.body r s
        (subst (λ (body : List ℕ). BodySays limits k.version k.kind body r) same.1
        (subst (λ (head : UploadHead). BodySays limits head.version head.kind a.body r) same.0 a.reads))
        b.reads

    not_both : (limits : Limits) (upload : List ℕ) (h : UploadHead) (r s : Reading) → SaysFault upload r → ¬ SaysBehind limits upload h s
    not_both limits upload h r s a b =
        passes h b.body a.fault b.has.lawful (subst (λ (u : List ℕ). IsHeadFault u a.fault) b.has.whole a.shown)

    fault_once : (upload : List ℕ) (r s : Reading) → SaysFault upload r → SaysFault upload s → r ≡ s
    fault_once upload r s a b =
        a.nothing ∙ ap (λ (f : Fault). reading [] (Bad f)) (one_fault upload a.fault b.fault a.shown b.shown) ∙ sym b.nothing

    pub says_once : (limits : Limits) (upload : List ℕ) (r s : Reading) → Says limits upload r → Says limits upload s → r ≡ s
    says_once limits upload r s x y =
        ⊎_elim
        (λ (a : SaysFault upload r). ⊎_elim
        (λ (b : SaysFault upload s). fault_once upload r s a b)
        (λ (b : (head : UploadHead) × SaysBehind limits upload head s). absurd (not_both limits upload b.0 r s a b.1)) y)
        (λ (a : (head : UploadHead) × SaysBehind limits upload head r). ⊎_elim
        (λ (b : SaysFault upload s). absurd (not_both limits upload a.0 s r b a.1))
        (λ (b : (head : UploadHead) × SaysBehind limits upload head s). behind_once limits upload a.0 b.0 r s a.1 b.1) y)
        x
