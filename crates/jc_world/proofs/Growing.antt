-- What holds of uploads and answers stays so: the machines keep their sources and entries, and the journal grows.
use Rattle.std.proofs.Common.{◌≡◌, ◌⊎◌, ℕ, ◌+◌, ◌≤◌, List, ◌++◌, Some, length, set, take, drop, sym, ap, subst, ◌∙◌, inl, inr, ⊎_elim, arith, length-append, append_assoc}
use Rattle.std.specs.List.{slice_get, All, Contains}
use Rattle.std.proofs.lemmas.List.{drop-append-le}
use Rattle.std.proofs.lemmas.List.Elements.{All-weaker}
use Rattle.jc_base.specs.Journal.{Journal}
use Rattle.jc_base.specs.LogEntry.{LogEntry}
use Rattle.jc_base.specs.declared.limits.Limits.{Limits}
use Rattle.jc_keeper.specs.Agree.{IsStored}
use Rattle.jc_upload.specs.declared.answer.Answer.{Answer}
use Rattle.jc_upload.specs.declared.answer.Answer.TheVariants.{Ack, No}
use Rattle.jc_world.specs.Given.{FileReadsFront}
use Rattle.jc_world.specs.Kept.{AreStored, IsBacked, IsExportOf, IsFileOf, IsMade}
use Rattle.jc_world.specs.State.{MachineState, source_of}
use Rattle.jc_world.proofs.Lists.{contains_get, contains_kept, contains_set, contains_written, part_more}
use Rattle.jc_world.proofs.Points.{Has}

-- The machine has the same source, and at least these entries.
pub record Comes (old new : MachineState) : Type 0 where
  pub same : source_of new ≡ source_of old
  pub more : List LogEntry
  pub whole : new.entries ≡ old.entries ++ more

-- ---- uploads

export_more : (old new : MachineState) (upload : List ℕ) → Comes old new → IsExportOf old upload → IsExportOf new upload
export_more old new upload comes h = record {
  head = h.head;
  kind = h.kind;
  own = h.own ∙ sym comes.same;
  sent = h.sent;
  has = h.has;
  part = record { more = h.part.more ++ comes.more; whole = rest };
  within = subst (λ (es : List LogEntry). h.head.start + length h.sent ≤ length es) (sym comes.whole)
      (omega (arith, h.within, length-append old.entries comes.more));
}
  where
    rest : drop h.head.start new.entries ≡ h.sent ++ (h.part.more ++ comes.more)
    rest =
        ap (drop h.head.start) comes.whole
        ∙ drop-append-le h.head.start old.entries comes.more (omega (arith, h.within))
        ∙ ap (λ (es : List LogEntry). es ++ comes.more) h.part.whole
        ∙ append_assoc h.sent h.part.more comes.more

front_more : (limits : Limits) (file : List ℕ) (entries more whole : List LogEntry) → whole ≡ entries ++ more → FileReadsFront limits file entries → FileReadsFront limits file whole
front_more limits file entries more whole is h = (
  h.0,
  h.1,
  record {
    ends = h.2.ends;
    front = record {
      more = h.2.front.more ++ more;
      whole = is ∙ ap (λ (es : List LogEntry). es ++ more) h.2.front.whole ∙ append_assoc h.0.entries h.2.front.more more;
    };
  },
)

file_more : (limits : Limits) (old new : MachineState) (upload : List ℕ) → Comes old new → IsFileOf limits old upload → IsFileOf limits new upload
file_more limits old new upload comes h = record {
  head = h.head;
  kind = h.kind;
  own = h.own ∙ sym comes.same;
  first = h.first;
  file = h.file;
  has = h.has;
  reads = front_more limits h.file old.entries comes.more new.entries comes.whole h.reads;
}

module _ (limits : Limits) (machines : List MachineState) (m : ℕ) (old new : MachineState) (at : slice_get machines m ≡ Some old) (comes : Comes old new) where
  made_by : (machine : MachineState) (upload : List ℕ) → Contains machines machine
      → IsExportOf machine upload ⊎ IsFileOf limits machine upload
      → Contains (set machines m new) machine ⊎ (old ≡ machine)
      → IsMade limits (set machines m new) upload
  made_by machine upload one from where_is = ⊎_elim
      (λ (kept : Contains (set machines m new) machine). record { machine = machine; one = kept; from = from })
      (λ (is : old ≡ machine). record {
        machine = new;
        one = contains_written machines m new old at;
        from = ⊎_elim
            (λ (h : IsExportOf machine upload). inl (export_more old new upload comes (subst (λ (x : MachineState). IsExportOf x upload) (sym is) h)))
            (λ (h : IsFileOf limits machine upload). inr (file_more limits old new upload comes (subst (λ (x : MachineState). IsFileOf limits x upload) (sym is) h)))
            from;
      })
      where_is

  -- an upload was made still, where a machine has more entries
  pub made_more : (upload : List ℕ) → IsMade limits machines upload → IsMade limits (set machines m new) upload
  made_more upload h = made_by h.machine upload h.one h.from (contains_kept machines m new old h.machine at h.one)

-- ---- answers

stored_more : (before after : Journal) (entries more whole : List LogEntry) (start count : ℕ) → Has before after → whole ≡ entries ++ more → AreStored before entries start count → AreStored after whole start count
stored_more before after entries more whole start count has is h = record {
  within = subst (λ (es : List LogEntry). start + count ≤ length es) (sym is) (omega (arith, h.within, length-append entries more));
  stored = subst (All (IsStored after)) (sym (ap (λ (es : List LogEntry). take count (drop start es)) is ∙ part_more entries more start count h.within))
      (All-weaker (IsStored before) (IsStored after) has (take count (drop start entries)) h.stored);
}

-- an ack is backed still, where the journal has grown
pub backed_later : (before after : Journal) (machines : List MachineState) → Has before after → (answer : Answer) → IsBacked before machines answer → IsBacked after machines answer
backed_later before after machines has (Ack source start count new left) h = λ machine one own.
    let at = h machine one own in
    record {
      within = at.within;
      stored = All-weaker (IsStored before) (IsStored after) has (take count (drop start machine.entries)) at.stored;
    }
backed_later before after machines has (No of code place) h = tt

-- ... or a machine has more entries
pub backed_more : (journal : Journal) (machines : List MachineState) (m : ℕ) (old new : MachineState) → slice_get machines m ≡ Some old → Comes old new
    → (answer : Answer) → IsBacked journal machines answer → IsBacked journal (set machines m new) answer
backed_more journal machines m old new at comes (Ack source start count fresh left) h = λ machine one own. ⊎_elim
    (λ (kept : Contains machines machine). h machine kept own)
    (λ (is : new ≡ machine).
    let before = h old (contains_get machines m old at) (sym comes.same ∙ ap source_of is ∙ own) in
    let now : AreStored journal new.entries start count = stored_more journal journal old.entries comes.more new.entries start count (λ e s. s) comes.whole before in
    subst (λ (x : MachineState). AreStored journal x.entries start count) is now)
    (contains_set machines m new machine one)
backed_more journal machines m old new at comes (No of code place) h = tt
