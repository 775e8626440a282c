-- What the builder's calls make of a grammar.
use Rattle.std.proofs.Common.{◌≡◌, ◌∙◌, ◌||◌, ap₂, subst, sym}
use Rattle.std.specs.Prelude.{Box, IfOk, IsOkAnd, Result, Ok, Err}
use Rattle.std.specs.declared.alloc.Global.{Global}
use Rattle.clap.specs.Words.{AddsArg, AddsSubcommand, App, Rule, with_rule, with_subcommand}
use Rattle.clap.specs.declared.builder.arg.Arg.{Arg}
use Rattle.clap.specs.declared.builder.command.Command.{Command}
use Rattle.jc_command_args.specs.Grammar.{IsCommand, IsRule}

pub added : {E : Type 0} (old : Result (Box Command Global) E) (arg : Arg) (new : Command) (app : App) (rule : Rule)
    → IsOkAnd old (λ old. AddsArg old.value arg new) → IfOk old (λ old. IsCommand old.value app) → IsRule arg rule
    → IsCommand new (with_rule app rule)
added (Ok old) arg new app rule adds is has = record {
  shape = adds.shape has.local ∙ ap₂ with_rule is.shape has.shape;
  local = adds.globals ∙ ap₂ (λ a b. a || b) is.local has.local;
}
added (Err e) arg new app rule adds is has = absurd adds

pub joined : {E : Type 0} (old sub : Result (Box Command Global) E) (new : Command) (app sub_app : App)
    → IsOkAnd old (λ old. IsOkAnd sub (λ sub. AddsSubcommand old.value sub.value new))
    → IfOk old (λ old. IsCommand old.value app) → IfOk sub (λ sub. IsCommand sub.value sub_app) → IsCommand new (with_subcommand app sub_app.top)
joined (Ok old) (Ok sub) new app sub_app adds is has = record {
  shape = adds.shape has.local ∙ ap₂ (λ (a b : App). with_subcommand a b.top) is.shape has.shape;
  local = adds.globals ∙ ap₂ (λ a b. a || b) is.local has.local;
}
joined (Ok old) (Err e) new app sub_app adds is has = absurd adds
joined (Err e) sub new app sub_app adds is has = absurd adds

pub boxed : {E : Type 0} (old : Result Command E) (new : Command) (app : App)
    → IsOkAnd old (λ old. new ≡ old) → IfOk old (λ old. IsCommand old app) → IsCommand new app
boxed (Ok old) new app same is = subst (λ it. IsCommand it app) (sym same) is
boxed (Err e) new app same is = absurd same
