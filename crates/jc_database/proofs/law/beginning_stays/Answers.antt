use Rattle.jc_database.specs.LeftLaws.{beginning_made, beginning_stays, journal_stays}
use Rattle.jc_database.proofs.law.beginning_stays.Goals as goal

pub returns-clause-journal : goal.returns-clause-journal
returns-clause-journal g c = λ before left stays found had. journal_stays g.L.Layout.meaning before left stays found had

pub returns-clause-beginning : goal.returns-clause-beginning
returns-clause-beginning g c = λ before left stays found begins. beginning_stays g.L.Layout.meaning before left stays found begins

pub returns-clause-made : goal.returns-clause-made
returns-clause-made g c = λ before left either tables found begins. beginning_made g.L.Layout.meaning before left tables found either begins
