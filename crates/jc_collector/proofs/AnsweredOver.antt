-- What a run leaves of a database that it has open, for another beginning and as its answers are printed.
use Rattle.std.proofs.Common.{ℕ, List, Option, Result}
use Rattle.sqlite.specs.Store.{Ghosts}
use Rattle.sqlite.specs.Held.{Held}
use Rattle.jc_base.specs.Journal.{Journal}
use Rattle.jc_command_shared.specs.declared.failure.Failure.{Failure}
use Rattle.jc_command_shared.specs.declared.status.Status.{Status}
use Rattle.jc_store.specs.Meaning.{Meaning}
use Rattle.jc_upload.specs.declared.answer.Answer.{Answer}
use Rattle.jc_collector.specs.AnsweredOver.{AnswersOver, CollectsOver}
use Rattle.jc_collector_answers.specs.Kept.{Printing}
use Rattle.jc_collector.specs.Open.{HoldsOpen}
use Rattle.jc_collector.proofs.Counted.{printed_as}
use Rattle.jc_collector.proofs.Open.{on_ok_each}

module _ {S : Type 0} {g : Ghosts S} (m : Meaning) (now : Held S) (done : Result Status Failure) (old new : Option (List ℕ)) where
  -- from one beginning to another
  module _ (First Other : Journal → Type 0) (each : (before : Journal) → Other before → First before) where
    pub answers_begun : {AreUploads : List (Option (List ℕ)) → Type 0} (Whole : Printing) → AnswersOver m g now First Whole AreUploads done old new
        → AnswersOver m g now Other Whole AreUploads done old new
    answers_begun Whole it = record {
      kept = λ sound before begin. it.kept sound before (each before begin);
      each = λ clean before begin. it.each clean before (each before begin);
      recovers = λ clean before begin. it.recovers clean before (each before begin);
    }

    pub collects_begun : (uploads : List (List ℕ)) → CollectsOver m g now First uploads done old new
        → CollectsOver m g now Other uploads done old new
    collects_begun uploads it = record {
      collected = on_ok_each done _ _ (λ stands sound before begin. stands sound before (each before begin)) it.collected;
      crash = λ clean before begin. it.crash clean before (each before begin);
      crash_unprinted = λ clean before begin. it.crash_unprinted clean before (each before begin);
    }

  -- printed in another way
  pub answers_as : {AreUploads : List (Option (List ℕ)) → Type 0} (Begins : Journal → Type 0) (Whole Other : Printing)
      → ((Holds : List Answer → Type 0) (status : Status) → Whole Holds status old new → Other Holds status old new)
      → AnswersOver m g now Begins Whole AreUploads done old new → AnswersOver m g now Begins Other AreUploads done old new
  answers_as {AreUploads = AreUploads} Begins Whole Other into it = record {
    kept = it.kept;
    each = λ clean before begin. printed_as Whole Other (HoldsOpen m g now AreUploads before) old new (into (HoldsOpen m g now AreUploads before)) done (it.each clean before begin);
    recovers = it.recovers;
  }
