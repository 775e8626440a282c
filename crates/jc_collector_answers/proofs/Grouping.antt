-- Uploads that lines name are taken up one after the other, stored together, and answered.
use Rattle.std.proofs.Common.{◌≡◌, ◌∙◌, ◌+◌, ℕ, List, [], ◌∷◌, ◌++◌, Bool, true, false, Option, Some, None, Result, Ok, Err, length, map, refl, sym, ap, subst, inl, inr, ⊎_elim}
use Rattle.std.specs.Prelude.{◌↔◌, IfSome, IsErr, OnOk, if◌then◌else◌}
use Rattle.std.specs.List.{list_any}
use Rattle.std.proofs.lemmas.List.{length-append, length-map}
use Rattle.jc_base.specs.declared.limits.Limits.{Limits}
use Rattle.jc_base.specs.Journal.{Journal}
use Rattle.jc_base.specs.LimitBounds.{AreDefaults}
use Rattle.jc_collect.specs.Each.{NoneAcknowledged}
use Rattle.jc_collect.specs.Foreign.{NamesForeign}
use Rattle.jc_collect.specs.ForeignLaws.{foreign_later}
use Rattle.jc_collect.specs.Position.{Collects}
use Rattle.jc_collect.specs.Settled.{withdrawn}
use Rattle.jc_collect.specs.Together.{HasAnsweredAll, HasCollectedAll, HasSettled, TakesUp, answered}
use Rattle.jc_collect.specs.TogetherLaws.{all_more, all_none, all_told}
use Rattle.jc_collect.proofs.EachKnown.{acks_found, acks_of, keeps_of, stores_of}
use Rattle.jc_collect.proofs.OneMore.{SaysOnce}
use Rattle.jc_collect.proofs.Settling.{each_refused}
use Rattle.jc_keeper.specs.declared.keeper.KeepStop.{KeepStop}
use Rattle.jc_keeper.specs.declared.keeper.Keeper as keepers
use Rattle.jc_keeper.specs.Brought.{StoresFor}
use Rattle.jc_keeper.specs.BroughtLaws.{whose_stays, whose_then}
use Rattle.jc_keeper.specs.Whose.{AreSame, StayWhose}
use Rattle.jc_upload.specs.declared.answer.Answer.{Answer}
use Rattle.jc_upload.specs.declared.answer.Answer.TheVariants.{Ack, No}
use Rattle.jc_collect.specs.Answer.{is_failure}
use Rattle.jc_command_shared.specs.declared.status.Status.{Status}
use Rattle.jc_command_shared.specs.declared.status.Status.TheVariants.{Success, Refused, Failed}
use Rattle.jc_collector_answers.specs.Answered.{is_refusal, judged}
use Rattle.jc_collector_answers.specs.Brought.{ClaimsByLines, CollectsLines}
use Rattle.jc_collector_answers.specs.Collected.{LosesName, upload_in}
use Rattle.jc_collector_answers.specs.Grouped.{GivesAnswers, GoesOn, HasTakenLines, LinesCome, TakesLines, uploads_of}
use Rattle.jc_collector_answers.specs.Kept.{HasKept}
use Rattle.jc_collector_answers.specs.Named.{HasParts}
use Rattle.jc_collector_answers.specs.declared.name_lines.NameLines.{NameLines}
use Rattle.jc_collector_answers.proofs.Claiming.{claims_both, claims_none, claims_one, claims_stayed, grows_each, grows_one}
use Rattle.jc_collector_answers.proofs.Defaults.{by_default}
use Rattle.jc_collector_answers.proofs.Machines.{come_none, come_on, come_one, lines_both, lines_stay, uploads_on}

-- The uploads that these lines name were taken up, stored together, and given these answers.
pub record IsGroup {K : Type 0} (k : keepers.Ghosts K) (limits : Limits) (told : List ℕ → Option (List ℕ)) (lines : NameLines) (come : List (List ℕ)) (old new : K) (given : List Answer) : Type 0 where
  pub each : length given ≡ length come
  pub all : HasAnsweredAll k limits (uploads_of told lines come) old new given
  pub own : k.sound new → k.made old → CollectsLines told lines (k.whose new) come (k.journal old) given (k.journal new)
  pub claims : k.sound new → k.made old → ClaimsByLines lines (k.whose old) (k.whose new) come (k.journal old) (k.journal new) given
  pub stays : k.sound new → StayWhose (k.whose old) (k.whose new)

pub answered_length : (stopped : Option KeepStop) (answers : List Answer) → length (answered stopped answers) ≡ length answers
answered_length None answers = refl
answered_length (Some stop) answers = length-map answers (withdrawn stop)

module _ {K : Type 0} (k : keepers.Ghosts K) (limits : Limits) (told : List ℕ → Option (List ℕ)) (lines : NameLines) where
  pub taken_none : (keeper : K) → HasTakenLines k limits told lines [] keeper keeper []
  taken_none keeper = record {
    each = refl;
    all = all_none k limits keeper;
    own = λ is is_made. refl;
    claims = λ is is_made. claims_none lines (k.whose keeper) (k.journal keeper);
    stays = λ is. whose_stays (k.whose keeper);
    brings = inl refl;
  }

  module _ (come : List (List ℕ)) (old mid new : K) (answers : List Answer) (taken : HasTakenLines k limits told lines come old mid answers) where
    -- the keeper was told which machine brings what comes
    pub taken_told : (machine : Option (List ℕ)) → k.journal new ≡ k.journal mid → (k.clean new ↔ k.clean mid) → (k.sound new ↔ k.sound mid) → (k.made new ↔ k.made mid)
        → (k.settled mid → k.settled new) → ((found : Journal) → k.may_leave new found ↔ k.may_leave mid found)
        → (k.leaves_journals new ↔ k.leaves_journals mid) → k.failures new ≡ k.failures mid → k.brings new machine
        → AreSame (k.whose mid) (k.whose new) → HasTakenLines k limits told lines come old new answers
    taken_told machine journal clean sound made settled crash recovers failures brings owners = record {
      each = taken.each;
      all = all_told k limits (uploads_of told lines come) old mid new answers taken.all journal clean sound made settled crash recovers failures;
      own = λ is is_made. subst (λ (j : Journal). CollectsLines told lines (k.whose new) come (k.journal old) answers j) (sym journal)
          (lines_stay told lines (k.whose mid) (k.whose new) owners.0 come (k.journal old) answers (k.journal mid) (taken.own (sound.0 is) is_made));
      claims = λ is is_made. subst (λ (j : Journal). ClaimsByLines lines (k.whose old) (k.whose new) come (k.journal old) j answers) (sym journal)
          (claims_stayed lines (k.whose old) (k.whose mid) (k.whose new) come (k.journal old) answers owners.0 owners.1 (k.journal mid) (taken.claims (sound.0 is) is_made));
      stays = λ is. whose_then (k.whose old) (k.whose mid) (k.whose new) (taken.stays (sound.0 is)) owners.0;
      brings = inr (machine, brings);
    }

    -- one more is taken up
    pub taken_more : AreDefaults limits.name limits.value limits.fields limits.entry limits.file → (line : List ℕ) (machine : Option (List ℕ)) → k.brings mid machine
        → HasParts lines line machine (upload_in lines line) → (more : List Answer) → TakesUp k limits (told (upload_in lines line)) mid new answers more
        → ((found : Journal) → k.sound new → k.made new → k.settled new → k.may_leave new found → found ≡ k.journal new) → (k.at_once → k.settled new)
        → HasTakenLines k limits told lines (come ++ line ∷ []) old new more
    taken_more defaults line machine brings parts more took durable settles = record {
      each = ap length took.behind ∙ length-append answers (took.answer ∷ []) ∙ ap (λ (n : ℕ). n + 1) taken.each ∙ sym (length-append come (line ∷ []));
      all = subst (λ (ks : List (Option (List ℕ))). HasCollectedAll k limits ks old new more) (sym (uploads_on told lines come (line ∷ [])))
          (subst (λ (l : List Answer). HasCollectedAll k limits (uploads_of told lines come ++ told (upload_in lines line) ∷ []) old new l) (sym took.behind)
          (all_more k limits (uploads_of told lines come) old mid new answers taken.all (told (upload_in lines line)) took.answer took.collected durable settles));
      own = λ is is_made. subst (λ (l : List Answer). CollectsLines told lines (k.whose new) (come ++ line ∷ []) (k.journal old) l (k.journal new)) (sym took.behind)
          (lines_both told lines (k.whose new) come (line ∷ []) (k.journal old) (k.journal mid) (k.journal new) answers (took.answer ∷ [])
          (lines_stay told lines (k.whose mid) (k.whose new) (stored.1.stays is) come (k.journal old) answers (k.journal mid) (taken.own (took.collected.was_sound is) is_made))
          (one_line is is_made));
      claims = λ is is_made.
          let was = took.collected.was_sound is in
          let mid_made = taken.all.stays_made is_made in
          subst (λ (l : List Answer). ClaimsByLines lines (k.whose old) (k.whose new) (come ++ line ∷ []) (k.journal old) (k.journal new) l) (sym took.behind)
          (claims_both lines (k.whose old) (k.whose mid) (k.whose new) come (k.journal old) answers (line ∷ []) (took.answer ∷ []) (k.journal mid) (k.journal new) taken.each
          (grows_each limits (uploads_of told lines come) (k.journal old) answers (k.journal mid) (taken.all.collected was is_made))
          (grows_one limits (told (upload_in lines line)) (k.journal mid) took.answer (k.journal new) (took.collected.position was mid_made is))
          (stored.1.stays is) (taken.claims was is_made)
          (claims_one lines line machine (upload_in lines line) parts (k.whose mid) (k.whose new) (k.journal mid) (k.journal new) took.answer
          (took.collected.claimed.claims is mid_made machine brings)));
      stays = λ is. whose_then (k.whose old) (k.whose mid) (k.whose new) (taken.stays (took.collected.was_sound is)) (stored.1.stays is);
      brings = inr (machine, stored.0);
    }
      where
        stored : k.brings new machine × StoresFor k.whose k.journal k.sound k.made machine mid new
        stored = took.collected.brought machine brings

        one_line : k.sound new → k.made old → CollectsLines told lines (k.whose new) (line ∷ []) (k.journal mid) (took.answer ∷ []) (k.journal new)
        one_line is is_made =
            let mid_made = taken.all.stays_made is_made in (
              k.journal new,
              record {
                machine = machine;
                upload = upload_in lines line;
                parts = parts;
                collects = by_default limits defaults (λ other. Collects other (told (upload_in lines line)) (k.journal mid) took.answer (k.journal new))
                    (took.collected.position (took.collected.was_sound is) mid_made is);
                own = stored.1.own is mid_made;
                foreign = by_default limits defaults (λ other. NamesForeign other (told (upload_in lines line)) ((k.whose new).foreign machine) took.answer)
                    (foreign_later limits (told (upload_in lines line)) ((k.whose mid).foreign machine) ((k.whose new).foreign machine) ((stored.1.stays is).foreign machine) took.answer
                    (took.collected.foreign is machine brings));
              },
              refl,
            )

    -- what they are acknowledged of is stored, or can't be
    pub group_of : (given : List Answer) → HasSettled k mid new answers given → IsGroup k limits told lines come old new given
    group_of given settled = record {
      each = ap length settled.given_is ∙ answered_length settled.stopped answers ∙ taken.each;
      all = settled.all limits (uploads_of told lines come) old taken.all;
      own = λ is is_made.
          let same : given ≡ answers = settled.given_is ∙ ap (λ (s : Option KeepStop). answered s answers) (settled.stored is) in
          subst (λ (l : List Answer). CollectsLines told lines (k.whose new) come (k.journal old) l (k.journal new)) (sym same)
          (subst (λ (j : Journal). CollectsLines told lines (k.whose new) come (k.journal old) answers j) (sym (settled.same (taken.all.stays_made is_made) is))
          (lines_stay told lines (k.whose mid) (k.whose new) (over is) come (k.journal old) answers (k.journal mid) (taken.own (settled.was_sound is) is_made)));
      claims = λ is is_made.
          let same : given ≡ answers = settled.given_is ∙ ap (λ (s : Option KeepStop). answered s answers) (settled.stored is) in
          let mid_made = taken.all.stays_made is_made in
          subst (λ (l : List Answer). ClaimsByLines lines (k.whose old) (k.whose new) come (k.journal old) (k.journal new) l) (sym same)
          (subst (λ (j : Journal). ClaimsByLines lines (k.whose old) (k.whose new) come (k.journal old) j answers) (sym (settled.same mid_made is))
          (claims_stayed lines (k.whose old) (k.whose mid) (k.whose new) come (k.journal old) answers (over is) (settled.unclaimed is mid_made) (k.journal mid)
          (taken.claims (settled.was_sound is) is_made)));
      stays = λ is. whose_then (k.whose old) (k.whose mid) (k.whose new) (taken.stays (settled.was_sound is)) (over is);
    }
      where
        over : k.sound new → StayWhose (k.whose mid) (k.whose new)
        over is = ⊎_elim
            (λ empty. subst (λ (n : K). StayWhose (k.whose mid) (k.whose n)) (sym (settled.unless (none empty))) (whose_stays (k.whose mid)))
            (λ some. (settled.brought some.0 some.1).1.stays is)
            taken.brings
          where
            none : answers ≡ [] → NoneAcknowledged answers
            none empty = subst NoneAcknowledged (sym empty) tt

-- a group keeps all that there was
pub kept_by_group : SaysOnce → {K : Type 0} (k : keepers.Ghosts K) (limits : Limits) (known : List (Option (List ℕ))) (old new : K) (given : List Answer) → (k.sound new → k.clean new)
    → HasAnsweredAll k limits known old new given → HasKept k old new
kept_by_group once k limits known old new given clean all = record {
  was_sound = all.was_sound;
  was_clean = all.was_clean;
  stays_made = all.stays_made;
  settled = all.settled;
  stored = λ is is_made.
      (acks_of (k.journal old) (k.journal new) given
      (stores_of once limits known (k.journal old) (k.journal new) given ((all.holds (clean is) is_made).collected is))).kept;
  crash = λ is is_made found may. ⊎_elim
      (λ was. inl was.0)
      (λ kept. inr (kept.0, (acks_found (k.journal old) found given (keeps_of once limits known (k.journal old) found given kept.1)).kept))
      ((all.holds is is_made).found found may);
  recovers = all.recovers;
}

-- ---- the lines of a text

-- Lines of a text were taken up before this rest of it.
pub record ComeSoFar {K : Type 0} (k : keepers.Ghosts K) (limits : Limits) (told : List ℕ → Option (List ℕ)) (lines : NameLines) (text rest : Option (List ℕ)) (old new : K) (answers : List Answer) : Type 0 where
  pub come : List (List ℕ)
  pub are : LinesCome text rest come
  pub taken : HasTakenLines k limits told lines come old new answers

module _ {K : Type 0} (k : keepers.Ghosts K) (limits : Limits) (told : List ℕ → Option (List ℕ)) (lines : NameLines) (text : Option (List ℕ)) where
  pub come_first : (keeper : K) (answers : List Answer) → answers ≡ [] → ComeSoFar k limits told lines text text keeper keeper answers
  come_first keeper answers none = subst (ComeSoFar k limits told lines text text keeper keeper) (sym none)
      (record { come = []; are = come_none text; taken = taken_none k limits told lines keeper })

  module _ (rest : Option (List ℕ)) (old mid : K) (answers : List Answer) (so : ComeSoFar k limits told lines text rest old mid answers) where
    -- no more is taken up
    pub so_taken : {F : Type 0} (next : Option (List ℕ)) (result : Result Bool F) → GoesOn result rest next → TakesLines k limits told lines text next old mid answers result
    so_taken next result goes_on = record { come = so.come; rest = rest; are = so.are; goes_on = goes_on; taken = so.taken }

    pub so_failed : {F : Type 0} (next : Option (List ℕ)) (result : Result Bool F) → IsErr result → TakesLines k limits told lines text next old mid answers result
    so_failed next (Ok more) failed = cc
    so_failed next (Err failure) failed = so_taken next (Err failure) tt

    module _ (between new : K) (machine : Option (List ℕ)) (journal : k.journal between ≡ k.journal mid) (clean : k.clean between ↔ k.clean mid) (sound : k.sound between ↔ k.sound mid)
        (made : k.made between ↔ k.made mid) (settled : k.settled mid → k.settled between) (crash : (found : Journal) → k.may_leave between found ↔ k.may_leave mid found)
        (recovers : k.leaves_journals between ↔ k.leaves_journals mid) (failures : k.failures between ≡ k.failures mid) (brings : k.brings between machine)
        (owners : AreSame (k.whose mid) (k.whose between)) (more : List Answer)
      where
        was_told : HasTakenLines k limits told lines so.come old between answers
        was_told = taken_told k limits told lines so.come old mid between answers so.taken machine journal clean sound made settled crash recovers failures brings owners

        -- the next line was taken up
        pub come_more : AreDefaults limits.name limits.value limits.fields limits.entry limits.file → (next : Option (List ℕ)) (line : List ℕ) → LosesName line rest next
            → HasParts lines line machine (upload_in lines line) → TakesUp k limits (told (upload_in lines line)) between new answers more
            → ((found : Journal) → k.sound new → k.made new → k.settled new → k.may_leave new found → found ≡ k.journal new) → (k.at_once → k.settled new)
            → ComeSoFar k limits told lines text next old new more
        come_more defaults next line loses parts took durable settles = record {
          come = so.come ++ line ∷ [];
          are = come_on text rest next so.come (line ∷ []) so.are (come_one rest next line loses);
          taken = taken_more k limits told lines so.come old between new answers was_told defaults line machine brings parts more took durable settles;
        }

        -- ... or memory for it was refused
        pub so_refused : {F : Type 0} (next : Option (List ℕ)) (result : Result Bool F) → IsErr result → new ≡ between → more ≡ answers
            → TakesLines k limits told lines text next old new more result
        so_refused next (Ok going) failed same others = cc
        so_refused next (Err failure) failed same others =
            subst (λ (n : K). TakesLines k limits told lines text next old n more (Err failure)) (sym same)
            (subst (λ (l : List Answer). TakesLines k limits told lines text next old between l (Err failure)) (sym others)
            (record { come = so.come; rest = rest; are = so.are; goes_on = tt; taken = was_told }))

-- ---- what was printed of them

module _ {K E F : Type 0} (k : keepers.Ghosts K) (limits : Limits) (told : List ℕ → Option (List ℕ)) (lines : NameLines) (text next : Option (List ℕ)) (old mid new : K) (answers : List Answer)
    {read : Result Bool E} {result : Result Status F} (was now : Option (List ℕ)) (took : TakesLines k limits told lines text next old mid answers read)
    (gives : GivesAnswers k mid new answers result was now)
  where
    pub group_from : IsGroup k limits told lines took.come old new gives.given
    group_from = group_of k limits told lines took.come old mid new answers took.taken gives.given gives.settled

refuses_each : (stop : KeepStop) (answers : List Answer) → list_any is_refusal (map (withdrawn stop) answers) ≡ false → list_any is_refusal answers ≡ false
refuses_each stop [] none = refl
refuses_each stop (Ack source start count new left ∷ answers) none = cc
refuses_each stop (No of code place ∷ answers) none = each_refused (λ (a : Answer). list_any is_refusal (a ∷ map (withdrawn stop) answers) ≡ false → list_any is_refusal (No of code place ∷ answers) ≡ false) stop of code place
    (λ conflict some. cc) (λ other some. cc) none

refuses_given : (stopped : Option KeepStop) (answers : List Answer) → list_any is_refusal (answered stopped answers) ≡ false → list_any is_refusal answers ≡ false
refuses_given None answers none = none
refuses_given (Some stop) answers none = refuses_each stop answers none

judged_success : (answers : List Answer) → judged answers ≡ Success → list_any is_refusal answers ≡ false
judged_success answers is = by (list_any is_failure answers) (list_any is_refusal answers) is
  where
    by : (failed refused : Bool) → (if failed then Failed else (if refused then Refused else Success)) ≡ Success → refused ≡ false
    by true refused is = cc
    by false true is = cc
    by false false is = refl

-- where the status is a success, none was refused when they were taken up
pub quiet_given : {K F : Type 0} (k : keepers.Ghosts K) (mid new : K) (answers : List Answer) (status : Status) (was now : Option (List ℕ))
    → GivesAnswers {F = F} k mid new answers (Ok status) was now → status ≡ Success → list_any is_refusal answers ≡ false
quiet_given k mid new answers status was now gives is =
    let shown = gives.printed.shown in
    let given : list_any is_refusal shown.answers ≡ false = judged_success shown.answers (sym shown.is ∙ is) in
    refuses_given gives.settled.stopped answers
    (subst (λ (l : List Answer). list_any is_refusal l ≡ false) (gives.printed.holds ∙ gives.settled.given_is) given)

-- ---- whether lines are left

pub goes_on_true : {F : Type 0} (result : Result Bool F) (rest next : Option (List ℕ)) (more : Bool) → result ≡ Ok more → more ≡ true → GoesOn result rest next → rest ≡ next
goes_on_true {F} result rest next more is so goes = subst (λ (m : Bool). GoesOn {F = F} (Ok m) rest next) so (subst (λ (r : Result Bool F). GoesOn r rest next) is goes)

pub goes_on_false : {F : Type 0} (result : Result Bool F) (rest next : Option (List ℕ)) (more : Bool) → result ≡ Ok more → more ≡ false → GoesOn result rest next
    → IfSome rest (λ left. left ≡ [])
goes_on_false {F} result rest next more is so goes = subst (λ (m : Bool). GoesOn {F = F} (Ok m) rest next) so (subst (λ (r : Result Bool F). GoesOn r rest next) is goes)

pub on_ok : {F P : Type 0} (result : Result Bool F) (more : Bool) → result ≡ Ok more → OnOk result P → P
on_ok (Ok some) more is holds = holds
on_ok (Err failure) more is holds = cc
