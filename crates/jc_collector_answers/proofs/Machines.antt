-- Whose the sequences are of what lines store, one after the other.
use Rattle.std.proofs.Common.{◌≡◌, ◌∙◌, ℕ, List, [], ◌∷◌, ◌++◌, Option, Some, None, refl, sym, ap, subst}
use Rattle.std.specs.Prelude.{IfSome}
use Rattle.std.proofs.lemmas.List.{append-nil, append_assoc}
use Rattle.jc_base.specs.Journal.{Journal}
use Rattle.jc_collect.specs.ForeignLaws.{foreign_later}
use Rattle.jc_keeper.specs.Whose.{StayWhose, Whose}
use Rattle.jc_upload.specs.declared.answer.Answer.{Answer}
use Rattle.jc_collector_answers.specs.Brought.{ClaimsByLines, CollectsLines, CollectsText}
use Rattle.jc_collector_answers.specs.Collected.{LosesName, names_in, upload_in}
use Rattle.jc_collector_answers.specs.Grouped.{LinesCome, uploads_of}
use Rattle.jc_collector_answers.specs.Named.{HasParts}
use Rattle.jc_collector_answers.specs.declared.name_lines.NameLines.{NameLines}
use Rattle.jc_collector_answers.proofs.Claiming.{Grows, claims_both, claims_none, lines_many}
use Rattle.jc_collector_answers.proofs.Naming.{upload_is}

-- the parts of a line that was read
pub parts_at : (lines : NameLines) (line name : List ℕ) (machine : Option (List ℕ)) (upload : List ℕ) → line ≡ name → HasParts lines line machine upload
    → HasParts lines name machine (upload_in lines name)
parts_at lines line name machine upload same has =
    subst (λ (l : List ℕ). HasParts lines l machine (upload_in lines l)) same
    (subst (λ (u : List ℕ). HasParts lines line machine u) (upload_is lines line machine upload has) has)

-- ---- lines that came of a text

pub come_none : (text : Option (List ℕ)) → LinesCome text text []
come_none None = tt
come_none (Some bytes) = refl

pub come_on : (text rest next : Option (List ℕ)) (come more : List (List ℕ)) → LinesCome text rest come → LinesCome rest next more → LinesCome text next (come ++ more)
come_on None rest next come more came lost = tt
come_on (Some bytes) None next come more came lost = absurd came
come_on (Some bytes) (Some left) None come more came lost = absurd lost
come_on (Some bytes) (Some left) (Some less) come more came lost =
    came ∙ ap (λ (ns : List (List ℕ)). come ++ ns) lost ∙ sym (append_assoc come more (names_in less))

-- one of them was read
pub come_one : (rest next : Option (List ℕ)) (name : List ℕ) → LosesName name rest next → LinesCome rest next (name ∷ [])
come_one None next name loses = tt
come_one (Some left) None name loses = absurd loses
come_one (Some left) (Some less) name loses = loses

pub uploads_on : (told : List ℕ → Option (List ℕ)) (lines : NameLines) (names others : List (List ℕ))
    → uploads_of told lines (names ++ others) ≡ uploads_of told lines names ++ uploads_of told lines others
uploads_on told lines [] others = refl
uploads_on told lines (name ∷ names) others = ap (λ (ks : List (Option (List ℕ))). told (upload_in lines name) ∷ ks) (uploads_on told lines names others)

-- ---- what is so of them

module _ (told : List ℕ → Option (List ℕ)) (lines : NameLines) where
  -- what belongs to somebody goes on to
  pub lines_stay : (Of Now : Whose) → StayWhose Of Now → (names : List (List ℕ)) (start : Journal)
      (answers : List Answer) (last : Journal) → CollectsLines told lines Of names start answers last → CollectsLines told lines Now names start answers last
  lines_stay Of Now stays [] start [] last h = h
  lines_stay Of Now stays [] start (answer ∷ answers) last h = absurd h
  lines_stay Of Now stays (name ∷ names) start [] last h = absurd h
  lines_stay Of Now stays (name ∷ names) start (answer ∷ answers) last h = (
    h.0,
    record {
      machine = h.1.machine;
      upload = h.1.upload;
      parts = h.1.parts;
      collects = h.1.collects;
      own = λ e stored none. stays.belongs h.1.machine e.key.seqnum_id (h.1.own e stored none);
      foreign = λ limits defaults. foreign_later limits (told h.1.upload) (Of.foreign h.1.machine) (Now.foreign h.1.machine) (stays.foreign h.1.machine) answer
          (h.1.foreign limits defaults);
    },
    lines_stay Of Now stays names h.0 answers last h.2,
  )

  pub lines_both : (Of : Whose) (names others : List (List ℕ)) (first mid late : Journal) (one more : List Answer)
      → CollectsLines told lines Of names first one mid → CollectsLines told lines Of others mid more late
      → CollectsLines told lines Of (names ++ others) first (one ++ more) late
  lines_both Of [] others first mid late [] more h then = subst (λ (j : Journal). CollectsLines told lines Of others j more late) h then
  lines_both Of [] others first mid late (answer ∷ one) more h then = absurd h
  lines_both Of (name ∷ names) others first mid late [] more h then = absurd h
  lines_both Of (name ∷ names) others first mid late (answer ∷ one) more h then =
      (h.0, h.1, lines_both Of names others h.0 mid late one more h.2 then)

  -- What is so of those that came of a text before this rest.
  pub record LinesUpTo (First Of : Whose) (text rest : Option (List ℕ)) (first now : Journal) (answers : List Answer) : Type 0 where
    pub come : List (List ℕ)
    pub are : LinesCome text rest come
    pub collected : CollectsLines told lines Of come first answers now
    pub claims : ClaimsByLines lines First Of come first now answers

  pub up_to_none : (Of : Whose) (text : Option (List ℕ)) (now : Journal) → LinesUpTo Of Of text text now now []
  up_to_none Of text now = record { come = []; are = come_none text; collected = refl; claims = claims_none lines Of now }

  pub up_to_more : (First Of Now : Whose) (first mid late : Journal) (text rest next : Option (List ℕ)) (more : List (List ℕ)) → LinesCome rest next more
      → (one others : List Answer) → StayWhose Of Now → Grows first mid → Grows mid late → LinesUpTo First Of text rest first mid one
      → CollectsLines told lines Now more mid others late → ClaimsByLines lines Of Now more mid late others → LinesUpTo First Now text next first late (one ++ others)
  up_to_more First Of Now first mid late text rest next more lost one others stays before behind so then claims = record {
    come = so.come ++ more;
    are = come_on text rest next so.come more so.are lost;
    collected = lines_both Now so.come more first mid late one others (lines_stay Of Now stays so.come first one mid so.collected) then;
    claims = claims_both lines First Of Now so.come first one more others mid late (lines_many told lines Of so.come first one mid so.collected) before behind stays so.claims claims;
  }

  pub up_to_all : (First Of : Whose) (text rest : Option (List ℕ)) → IfSome rest (λ left. left ≡ []) → (first now : Journal) (answers : List Answer)
      → LinesUpTo First Of text rest first now answers → CollectsText told lines First Of text first now answers
  unfolding names_in
  up_to_all First Of text rest none first now answers so = whole text rest none so.are
    where
      whole : (text rest : Option (List ℕ)) → IfSome rest (λ left. left ≡ []) → LinesCome text rest so.come → CollectsText told lines First Of text first now answers
      whole None rest none came = tt
      whole (Some bytes) None none came = absurd came
      whole (Some bytes) (Some left) none came =
          subst (λ (ns : List (List ℕ)). CollectsLines told lines Of ns first answers now × ClaimsByLines lines First Of ns first now answers)
          (sym (came ∙ ap (λ (l : List ℕ). so.come ++ names_in l) none ∙ append-nil so.come)) (so.collected, so.claims)
