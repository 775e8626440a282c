-- The builder's calls in turn: what each makes of the argument's rule.
use Rattle.std.proofs.Common.{rules, ap, map, Option, Some, ◌≡◌, ◌∙◌, true}
use Rattle.clap.specs.Words.{Rule, rule_of}
use Rattle.clap.specs.declared.builder.value_parser.ValueParser.{ValueParser}
use Rattle.clap.specs.declared.builder.value_parser.ValueParser.TheVariants.{Names}
use Rattle.jc_command_args.specs.Grammar.{all_tasks, names_of, task_rule}
use Rattle.jc_command_args.proofs.arguments.task_arg.Goals as goal

pub returns : goal.returns
returns c =
    let tasks : ValueParser = c.value_parser.ensures.given.0 in
    let converted : tasks ≡ Names c.as_slice.result = c.value_parser.ensures.given.2 in
    let texts : map (λ name. name.now) c.as_slice.result.now ≡ all_tasks = search rules in
    let shape : rule_of c.help.result ≡ task_rule tasks =
    ap rule_of c.help.ensures ∙ ap rule_of c.value_parser.ensures.others
    ∙ ap (λ (p : Option ValueParser). record (rule_of c.required.result) { parser = p }) c.value_parser.ensures.given.1
    ∙ ap (λ (r : Rule). record r { parser = Some tasks }) (ap rule_of c.required.ensures
    ∙ ap (λ (r : Rule). record r { required = true }) c.new.ensures.rule) in
    (tasks, ap names_of converted ∙ texts, record { shape = shape; local = search rules })
