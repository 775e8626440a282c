-- The settings in turn: those that a grammar has, and those that it doesn't.
use Rattle.std.proofs.Common.{◌∙◌, ap, true}
use Rattle.std.proofs.lemmas.Result.{IfOk-weaker}
use Rattle.clap.specs.Simple.{Shape, app_of_fields, on_top}
use Rattle.jc_command_args.specs.Grammar.{top_grammar}
use Rattle.jc_command_args.proofs.grammar.top.Goals as goal

pub returns : goal.returns
returns c =
    let versioned = ap app_of_fields c.version.ensures ∙ ap (on_top (λ (s : Shape). record s { has_version = true })) c.new.ensures.app in
    let described = ap app_of_fields c.after_help.ensures ∙ (ap app_of_fields c.override_usage.ensures ∙ (ap app_of_fields c.about.ensures ∙ versioned)) in
    let helped = ap app_of_fields c.arg_required_else_help.ensures
    ∙ ap (on_top (λ (s : Shape). record s { arg_required_else_help = true })) described in
    let needed = ap app_of_fields c.subcommand_required.ensures
    ∙ ap (on_top (λ (s : Shape). record s { subcommand_required = true })) helped in
    let local = ap (λ f. f.has_globals) c.subcommand_required.ensures ∙ (ap (λ f. f.has_globals) c.arg_required_else_help.ensures
    ∙ (ap (λ f. f.has_globals) c.after_help.ensures ∙ (ap (λ f. f.has_globals) c.override_usage.ensures
    ∙ (ap (λ f. f.has_globals) c.about.ensures ∙ (ap (λ f. f.has_globals) c.version.ensures ∙ c.new.ensures.local))))) in
    c.new-2.ensures top_grammar (IfOk-weaker c.bin_name-command.result _ _ (λ command named. record {
      shape = ap app_of_fields named.0 ∙ needed;
      local = ap (λ f. f.has_globals) named.0 ∙ local;
    }) c.bin_name-command.ensures)
