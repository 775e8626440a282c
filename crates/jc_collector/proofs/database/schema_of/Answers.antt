use Rattle.jc_collector.proofs.database.schema_of.Goals as goal

pub returns : goal.returns
returns g c = c.schema.ensures.value
