-- The commands over files in turn.
use Rattle.std.proofs.Common.{codes}
use Rattle.std.proofs.lemmas.Result.{IfOk-weaker}
use Rattle.clap.specs.Words.{new_app, with_subcommand}
use Rattle.jc_command_args.specs.Grammar.{ack_grammar, acknowledged_grammar, collector_grammar, inspect_grammar, upload_grammar, verify_grammar}
use Rattle.jc_command_args.proofs.grammar.program.Goals as goal

pub returns : goal.returns
returns c =
    let collector = c.collector.ensures in
    let base = collector_grammar collector.0 collector.1 collector.2 in
    let verify = c.verify_command.ensures in
    let upload = c.upload_command.ensures in
    let ack = c.ack_command.ensures in
    let one = with_subcommand base (verify_grammar verify.0).top in
    let two = with_subcommand one inspect_grammar.top in
    let three = with_subcommand two (upload_grammar upload.0).top in
    let four = with_subcommand three (ack_grammar ack.0).top in
    let five = with_subcommand four acknowledged_grammar.top in
    IfOk-weaker c.subcommand-6.result.command _ _ (λ command is. record {
      collect = collector.0;
      collect_tables = collector.3;
      migrate = collector.1;
      migrate_tables = collector.4;
      tasks = collector.2;
      are_tasks = collector.5;
      verify = verify.0;
      verify_kinds = verify.1;
      upload = upload.0;
      upload_kinds = upload.1;
      ack = ack.0;
      ack_kinds = ack.1;
      whole = is.shape;
    }) (c.subcommand-6.ensures five (new_app (codes "codes"))
    (c.subcommand-5.ensures four acknowledged_grammar
    (c.subcommand-4.ensures three (ack_grammar ack.0)
    (c.subcommand-3.ensures two (upload_grammar upload.0)
    (c.subcommand-2.ensures one inspect_grammar
    (c.subcommand.ensures base (verify_grammar verify.0) collector.6 verify.2) c.inspect_command.ensures)
    upload.2) ack.2) c.acknowledged_command.ensures)
    c.codes_command.ensures)
