-- An option's rule, and what the parser makes of it.
use Rattle.std.proofs.Common.{rules, ap, map, Option, Some, ◌≡◌, ◌∙◌}
use Rattle.clap.specs.Words.{Rule, rule_of}
use Rattle.clap.specs.declared.builder.value_parser.ValueParser.{ValueParser}
use Rattle.clap.specs.declared.builder.value_parser.ValueParser.TheVariants.{Names}
use Rattle.jc_command_args.specs.Grammar.{all_tables, names_of, tables_rule}
use Rattle.jc_command_args.proofs.arguments.tables_arg.Goals as goal

pub returns : goal.returns
returns c =
    let tables : ValueParser = c.value_parser.ensures.given.0 in
    let converted : tables ≡ Names c.as_slice.result = c.value_parser.ensures.given.2 in
    let texts : map (λ name. name.now) c.as_slice.result.now ≡ all_tables = search rules in
    let shape : rule_of c.value_parser.result ≡ tables_rule tables =
    ap rule_of c.value_parser.ensures.others
    ∙ ap (λ (p : Option ValueParser). record (rule_of c.option_arg.result) { parser = p }) c.value_parser.ensures.given.1
    ∙ ap (λ (r : Rule). record r { parser = Some tables }) c.option_arg.ensures.shape in
    (tables, ap names_of converted ∙ texts, record { shape = shape; local = search rules })
