-- Every event keeps what is kept of a world.
use Rattle.std.proofs.Common.{◌≡◌, ℕ, ◌+◌, ◌≤◌, Bool, List, [], ◌∷◌, ◌++◌, Some, length, map, set, take, drop, refl, sym, ap, subst, ◌∙◌, inl, inr, ⊎_elim, arith, append-nil}
use Rattle.std.specs.List.{slice_get, All, Contains}
use Rattle.std.proofs.lemmas.List.{length-take, length-drop, take-append-drop}
use Rattle.std.proofs.lemmas.List.Elements.{All-cons, All-contains, All-contains_itself, All-map, All-nil, All-push, All-set, All-weaker}
use Rattle.jc_base.specs.Journal.{Journal}
use Rattle.jc_base.specs.LogEntry.{IsEntry, LogEntry}
use Rattle.jc_base.specs.declared.id.Id128.{Id128}
use Rattle.jc_base.specs.declared.limits.Limits.{Limits}
use Rattle.jc_keeper.specs.Agree.{IsStored}
use Rattle.jc_upload.specs.declared.answer.Answer.{Answer}
use Rattle.jc_upload.specs.declared.answer.Answer.TheVariants.{Ack, No}
use Rattle.jc_upload.specs.Head.{IsHead}
use Rattle.jc_upload.specs.Resume.{Point, start as first_point}
use Rattle.jc_upload.specs.Upload.{acked_to, export_head, file_head, file_upload_of, next_upload2_of, next_upload_of, point_behind, second_head, sent_of}
use Rattle.jc_collect.specs.Position.{IsPosition}
use Rattle.jc_world.specs.Event.{Appends, Delivers, DeliversAlien, Hands, Happens, IsAlien, Makes, Makes2, MakesFile, MovesOn, Restarts, moved_on, named}
use Rattle.jc_world.specs.Kept.{AreStored, IsBacked, IsExportOf, IsKept, IsMachine, IsMade, IsSafe}
use Rattle.jc_world.specs.State.{AreDistinct, MachineState, State, new_machine, new_state, source_of, with_answer, with_entry, with_machine, with_point, with_upload}
use Rattle.jc_world.specs.declared.event.Event.{Event}
use Rattle.jc_world.specs.declared.event.Event.TheVariants.{Append, Make, Make2, MakeFile, Deliver, Alien, Hand, Restart}
use Rattle.jc_world.proofs.Growing.{Comes, backed_later, backed_more, made_more}
use Rattle.jc_world.proofs.Lists.{all_further, all_get, contains_get, contains_map, map_written}
use Rattle.jc_world.proofs.Points.{Has, agrees_behind, safe_later, safe_more, safe_start}
use Rattle.jc_world.proofs.Sending.{FilesCut, HeadOnce, SaysOnce, TextsCut, ack_of, made_backed, same_machine}

-- ---- one machine changes

machine_kept : (limits : Limits) (s : State) (m : ℕ) (old new : MachineState) → IsKept limits s → slice_get s.machines m ≡ Some old → Comes old new
    → IsMachine s.journal new → IsKept limits (with_machine s m new)
machine_kept limits s m old new kept at comes is = record {
  distinct = subst AreDistinct (sym (map_written source_of s.machines m new old at comes.same)) kept.distinct;
  machines = All-set (IsMachine s.journal) s.machines m new is kept.machines;
  made = All-weaker (IsMade limits s.machines) (IsMade limits (set s.machines m new)) (made_more limits s.machines m old new at comes) s.uploads kept.made;
  backed = All-weaker (IsBacked s.journal s.machines) (IsBacked s.journal (set s.machines m new)) (backed_more s.journal s.machines m old new at comes) s.answers kept.backed;
}

-- ... without new entries
point_changed : (machine : MachineState) (point : Point) → Comes machine (with_point machine point)
point_changed machine point = record { same = refl; more = []; whole = sym (append-nil machine.entries) }

appended : (journal : Journal) (machine : MachineState) (entry : LogEntry) → IsEntry entry → IsMachine journal machine → IsMachine journal (with_entry machine entry)
appended journal machine entry lawful is = record {
  lawful = All-push IsEntry machine.entries entry is.lawful lawful;
  point = safe_more journal journal machine.entries (entry ∷ []) machine.sender.point (λ e s. s) is.point;
  saved = All-weaker (IsSafe journal machine.entries) (IsSafe journal (machine.entries ++ entry ∷ []))
      (λ point safe. safe_more journal journal machine.entries (entry ∷ []) point (λ e s. s) safe) machine.saved is.saved;
}

append_kept : (limits : Limits) (s t : State) (m : ℕ) (entry : LogEntry) → IsKept limits s → Appends s m entry t → IsKept limits t
append_kept limits s t m entry kept a =
    subst (IsKept limits) (sym a.after)
    (machine_kept limits s m a.machine (with_entry a.machine entry) kept a.at
    (record { same = refl; more = entry ∷ []; whole = refl })
    (appended s.journal a.machine entry a.lawful (all_get (IsMachine s.journal) s.machines m a.machine kept.machines a.at)))

restarted : (journal : Journal) (machine : MachineState) (k : ℕ) (point : Point) → slice_get machine.saved k ≡ Some point → IsMachine journal machine → IsMachine journal (with_point machine point)
restarted journal machine k point was is = record {
  lawful = is.lawful;
  point = all_get (IsSafe journal machine.entries) machine.saved k point is.saved was;
  saved = is.saved;
}

restart_kept : (limits : Limits) (s t : State) (m k : ℕ) → IsKept limits s → Restarts s m k t → IsKept limits t
restart_kept limits s t m k kept r =
    subst (IsKept limits) (sym r.after)
    (machine_kept limits s m r.machine (with_point r.machine r.point) kept r.at (point_changed r.machine r.point)
    (restarted s.journal r.machine k r.point r.was (all_get (IsMachine s.journal) s.machines m r.machine kept.machines r.at)))

-- ---- an answer is handed over

-- what an ack reaches is safe
reached : (journal : Journal) (machines : List MachineState) (machine : MachineState) (answer : Answer) → Contains machines machine
    → IsMachine journal machine → IsBacked journal machines answer → named answer ≡ Some (source_of machine) → MovesOn machine answer
    → IsSafe journal machine.entries (point_behind machine.entries (acked_to answer))
reached journal machines machine (No of code place) one is backed own moves = absurd moves
reached journal machines machine (Ack source start count new left) one is backed own moves =
    let at : AreStored journal machine.entries start count = backed machine one (sym cc) in
    record {
      agrees = agrees_behind machine.entries (start + count) moves.within;
      stored = all_further (IsStored journal) machine.entries machine.sender.point.position start count moves.begun moves.within is.point.stored at.stored;
    }

handed : (journal : Journal) (machine : MachineState) (answer : Answer) → IsMachine journal machine
    → IsSafe journal machine.entries (point_behind machine.entries (acked_to answer)) → IsMachine journal (moved_on machine answer)
handed journal machine answer is safe = record {
  lawful = is.lawful;
  point = safe;
  saved = All-push (IsSafe journal machine.entries) machine.saved (point_behind machine.entries (acked_to answer)) is.saved safe;
}

hand_kept : (limits : Limits) (s t : State) (j : ℕ) → IsKept limits s → Hands s j t → IsKept limits t
hand_kept limits s t j kept h =
    let is = all_get (IsMachine s.journal) s.machines h.m h.machine kept.machines h.at in
    let backed = all_get (IsBacked s.journal s.machines) s.answers j h.answer kept.backed h.given in
    ⊎_elim
    (λ (moved : MovesOn h.machine h.answer × (t ≡ with_machine s h.m (moved_on h.machine h.answer))).
    let safe = reached s.journal s.machines h.machine h.answer (contains_get s.machines h.m h.machine h.at) is backed h.own moved.0 in
    subst (IsKept limits) (sym moved.1)
    (machine_kept limits s h.m h.machine (moved_on h.machine h.answer) kept h.at
    (record { same = refl; more = []; whole = sym (append-nil h.machine.entries) })
    (handed s.journal h.machine h.answer is safe)))
    (λ (stays : (¬ MovesOn h.machine h.answer) × (t ≡ s)). subst (IsKept limits) (sym stays.1) kept)
    h.after

-- ---- one more upload

upload_kept : (limits : Limits) (s : State) (upload : List ℕ) → IsKept limits s → IsMade limits s.machines upload → IsKept limits (with_upload s upload)
upload_kept limits s upload kept made = record {
  distinct = kept.distinct;
  machines = kept.machines;
  made = All-push (IsMade limits s.machines) s.uploads upload kept.made made;
  backed = kept.backed;
}

sent_within : (machine : MachineState) (limit : ℕ) → machine.sender.point.position ≤ length machine.entries
    → machine.sender.point.position + length (sent_of machine.sender machine.entries limit) ≤ length machine.entries
sent_within machine limit within =
    let rest = drop machine.sender.point.position machine.entries in
    omega (arith, length-take limit rest, length-drop machine.sender.point.position machine.entries, within)

-- the entries that an upload carries are a part of the machine's
next_made : (machine : MachineState) (limit : ℕ) (journal : Journal) → IsMachine journal machine → IsHead (export_head machine.sender) → IsExportOf machine (next_upload_of machine.sender machine.entries limit)
next_made machine limit journal is lawful =
    let rest = drop machine.sender.point.position machine.entries in
    record {
      head = export_head machine.sender;
      kind = refl;
      own = refl;
      sent = take limit rest;
      has = record { lawful = lawful; whole = refl };
      part = record { more = drop limit rest; whole = sym (take-append-drop limit rest) };
      within = sent_within machine limit is.point.agrees.within;
    }

make_kept : (limits : Limits) (s t : State) (m limit : ℕ) → IsKept limits s → Makes s m limit t → IsKept limits t
make_kept limits s t m limit kept a =
    let is = all_get (IsMachine s.journal) s.machines m a.machine kept.machines a.at in
    subst (IsKept limits) (sym a.after)
    (upload_kept limits s (next_upload_of a.machine.sender a.machine.entries limit) kept
    (record {
      machine = a.machine;
      one = contains_get s.machines m a.machine a.at;
      from = inl (next_made a.machine limit s.journal is a.head);
    }))

-- ... and so with a header of the second version
next2_made : (machine : MachineState) (limit : ℕ) (whole : Bool) (journal : Journal) → IsMachine journal machine
    → IsHead (second_head machine.sender whole (length (sent_of machine.sender machine.entries limit)))
    → IsExportOf machine (next_upload2_of machine.sender machine.entries limit whole)
next2_made machine limit whole journal is lawful =
    let rest = drop machine.sender.point.position machine.entries in
    record {
      head = second_head machine.sender whole (length (sent_of machine.sender machine.entries limit));
      kind = refl;
      own = refl;
      sent = take limit rest;
      has = record { lawful = lawful; whole = refl };
      part = record { more = drop limit rest; whole = sym (take-append-drop limit rest) };
      within = sent_within machine limit is.point.agrees.within;
    }

make2_kept : (limits : Limits) (s t : State) (m limit : ℕ) (whole : Bool) → IsKept limits s → Makes2 s m limit whole t → IsKept limits t
make2_kept limits s t m limit whole kept a =
    let is = all_get (IsMachine s.journal) s.machines m a.machine kept.machines a.at in
    subst (IsKept limits) (sym a.after)
    (upload_kept limits s (next_upload2_of a.machine.sender a.machine.entries limit whole) kept
    (record {
      machine = a.machine;
      one = contains_get s.machines m a.machine a.at;
      from = inl (next2_made a.machine limit whole s.journal is a.head);
    }))

make_file_kept : (limits : Limits) (s t : State) (m : ℕ) (file : List ℕ) → IsKept limits s → MakesFile limits s m file t → IsKept limits t
make_file_kept limits s t m file kept a =
    subst (IsKept limits) (sym a.after)
    (upload_kept limits s (file_upload_of a.machine.sender.source file) kept
    (record {
      machine = a.machine;
      one = contains_get s.machines m a.machine a.at;
      from = inr (record {
        head = file_head a.machine.sender.source;
        kind = refl;
        own = refl;
        first = refl;
        file = file;
        has = record { lawful = a.head; whole = refl };
        reads = a.reads;
      });
    }))

-- ---- one more answer

pub grown : (limits : Limits) (delivery : List ℕ) (before after : Journal) (answer : Answer) → IsPosition limits delivery before answer after → Has before after
grown limits delivery before after (Ack source start count new left) position = λ e s. (position.leaves.has e).1 (inl s)
grown limits delivery before after (No of code place) position = λ e s. subst (λ (m : Journal). IsStored m e) (sym position.leaves) s

answer_kept : (limits : Limits) (s : State) (answer : Answer) (after : Journal) → IsKept limits s → Has s.journal after → IsBacked after s.machines answer
    → IsKept limits (with_answer s answer after)
answer_kept limits s answer after kept has backed = record {
  distinct = kept.distinct;
  machines = All-weaker (IsMachine s.journal) (IsMachine after) later s.machines kept.machines;
  made = kept.made;
  backed = All-push (IsBacked after s.machines) s.answers answer
      (All-weaker (IsBacked s.journal s.machines) (IsBacked after s.machines) (backed_later s.journal after s.machines has) s.answers kept.backed)
      backed;
}
  where
    later : (machine : MachineState) → IsMachine s.journal machine → IsMachine after machine
    later machine is = record {
      lawful = is.lawful;
      point = safe_later s.journal after machine.entries machine.sender.point has is.point;
      saved = All-weaker (IsSafe s.journal machine.entries) (IsSafe after machine.entries)
          (λ point safe. safe_later s.journal after machine.entries point has safe) machine.saved is.saved;
    }

module _ (once : SaysOnce) (one_head : HeadOnce) (texts : TextsCut) (files : FilesCut) where
  delivered_backed : (limits : Limits) (machines : List MachineState) (upload : List ℕ) (cut : ℕ) (before after : Journal) (answer : Answer)
      → AreDistinct (map source_of machines) → All (IsMachine before) machines → IsMade limits machines upload
      → IsPosition limits (take cut upload) before answer after → IsBacked after machines answer
  delivered_backed limits machines upload cut before after (No of code place) distinct all made position = tt
  delivered_backed limits machines upload cut before after (Ack source start count new left) distinct all made position = λ machine one own.
      let ack = ack_of once limits (take cut upload) source start count new left before after position.answers position.leaves in
      let lawful = (All-contains (IsMachine before) machines made.machine all made.one).lawful in
      let backed = made_backed one_head texts files limits made.machine upload cut source start count after lawful made.from ack in
      subst (λ (x : MachineState). AreStored after x.entries start count)
      (same_machine machines made.machine machine distinct made.one one (sym backed.0 ∙ sym own))
      backed.1

  deliver_kept : (limits : Limits) (s t : State) (i cut : ℕ) → IsKept limits s → Delivers limits s i cut t → IsKept limits t
  deliver_kept limits s t i cut kept d =
      let c = d.collects in
      let made = all_get (IsMade limits s.machines) s.uploads i d.upload kept.made d.at in
      subst (IsKept limits) (sym c.after)
      (answer_kept limits s c.answer c.journal kept
      (grown limits (take cut d.upload) s.journal c.journal c.answer c.answers.position)
      (delivered_backed limits s.machines d.upload cut s.journal c.journal c.answer kept.distinct kept.machines made c.answers.position))

  -- an alien ack names no machine
  alien_backed : (limits : Limits) (machines : List MachineState) (bytes : List ℕ) (before after : Journal) (answer : Answer)
      → IsAlien (map source_of machines) bytes → IsPosition limits bytes before answer after → IsBacked after machines answer
  alien_backed limits machines bytes before after (No of code place) alien position = tt
  alien_backed limits machines bytes before after (Ack source start count new left) alien position = λ machine one own.
      let ack = ack_of once limits bytes source start count new left before after position.answers position.leaves in
      absurd (alien ack.head ack.body ack.has
      (subst (Contains (map source_of machines)) (own ∙ ack.of_source) (contains_map source_of machines machine one)))

  alien_kept : (limits : Limits) (s t : State) (bytes : List ℕ) → IsKept limits s → DeliversAlien limits s bytes t → IsKept limits t
  alien_kept limits s t bytes kept d =
      let c = d.collects in
      subst (IsKept limits) (sym c.after)
      (answer_kept limits s c.answer c.journal kept
      (grown limits bytes s.journal c.journal c.answer c.answers.position)
      (alien_backed limits s.machines bytes s.journal c.journal c.answer d.alien c.answers.position))

  -- ---- each event

  pub happens_kept : (limits : Limits) (s t : State) (event : Event) → IsKept limits s → Happens limits s event t → IsKept limits t
  happens_kept limits s t (Append m entry) kept h = append_kept limits s t m entry kept h
  happens_kept limits s t (Make m limit) kept h = make_kept limits s t m limit kept h
  happens_kept limits s t (Make2 m limit whole) kept h = make2_kept limits s t m limit whole kept h
  happens_kept limits s t (MakeFile m file) kept h = make_file_kept limits s t m file.items kept h
  happens_kept limits s t (Deliver i cut) kept h = deliver_kept limits s t i cut kept h
  happens_kept limits s t (Alien bytes) kept h = alien_kept limits s t bytes.items kept h
  happens_kept limits s t (Hand j) kept h = hand_kept limits s t j kept h
  happens_kept limits s t (Restart m k) kept h = restart_kept limits s t m k kept h

-- ---- the beginning

new_is : (journal : Journal) (id : Id128) → IsMachine journal (new_machine id)
new_is journal id = record {
  lawful = All-nil IsEntry;
  point = safe_start journal [];
  saved = All-cons (IsSafe journal []) first_point [] (safe_start journal []) (All-nil (IsSafe journal []));
}

sources_new : (ids : List Id128) → map source_of (map new_machine ids) ≡ ids
sources_new [] = refl
sources_new (id ∷ ids) = ap (λ (l : List Id128). id ∷ l) (sources_new ids)

pub new_kept : (limits : Limits) (ids : List Id128) (journal : Journal) → AreDistinct ids → IsKept limits (new_state ids journal)
new_kept limits ids journal distinct = record {
  distinct = subst AreDistinct (sym (sources_new ids)) distinct;
  machines = All-map (IsMachine journal) new_machine ids (All-weaker (Contains ids) (λ (id : Id128). IsMachine journal (new_machine id)) (λ id _. new_is journal id) ids (All-contains_itself ids));
  made = All-nil (IsMade limits (map new_machine ids));
  backed = All-nil (IsBacked journal (map new_machine ids));
}

-- a state that is a new one part by part
pub begun_kept : (limits : Limits) (ids : List Id128) (s : State) → s.machines ≡ map new_machine ids → s.uploads ≡ [] → s.answers ≡ []
    → IsKept limits (new_state ids s.journal) → IsKept limits s
begun_kept limits ids s machines uploads answers kept =
    let made : List (List ℕ) → State = λ us. record { machines = map new_machine ids; uploads = us; answers = []; journal = s.journal } in
    let answered : List Answer → State = λ given. record { machines = map new_machine ids; uploads = s.uploads; answers = given; journal = s.journal } in
    let whole : List MachineState → State = λ ms. record { machines = ms; uploads = s.uploads; answers = s.answers; journal = s.journal } in
    subst (IsKept limits) (ap made (sym uploads) ∙ ap answered (sym answers) ∙ ap whole (sym machines)) kept
